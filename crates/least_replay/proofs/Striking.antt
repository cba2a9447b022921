-- A note that begins, and a reset, as they are told and as they are counted.
use Rattle.std.proofs.Common.{◌≡◌, ◌≢◌, ◌≤◌, ◌+◌, ◌&&◌, ℕ, zero, suc, List, [], ◌∷◌, Bool, true, false, not, cond, Some, None, length, take, refl, sym, ap, ◌∙◌, arith, nat_eq}
use Rattle.std.specs.Set.{is_member}
use Rattle.std.proofs.lemmas.List.{nil_from_length}
use Rattle.std.proofs.lemmas.Bool.{or_left, eq-eqb, eqb-true, false_from_ne_true}
use Rattle.mt_base.specs.declared.event.Msg.TheVariants.{NoteOn, NoteOff, KeyPressure, Control, Program, Pressure, Bend}
use Rattle.mt_base.specs.Midi.{MidiWhat, Says, SysexOf, MetaOf, MidiEvent}
use Rattle.midi_model.specs.Sysex.{doing}
use Rattle.retune_model.specs.Options.{Options}
use Rattle.retune_model.specs.PlaysTheSame.{begins_note}
use Rattle.retune_model.specs.Ports.{port_at, resets}
use Rattle.retune_model.specs.Faults.{Targets, is_part}
use Rattle.retune_model.specs.FaultLaws.{SoundPortsAreAimed}
use Rattle.retune_model.specs.Pairs.{Pair, is_same_pair}
use Rattle.retune_model.specs.Rests.{begun_at}
use Rattle.retune_model.specs.RestLaws.{BegunIsThere}
use Rattle.retune_model.specs.Runs.{begins}
use Rattle.retune_model.specs.RunLaws.{PairsAreTold}
use Rattle.retune_model.specs.PortNeed.{pairs_on}
use Rattle.retune_model.specs.SourceFaults.{IsSound}
use Rattle.channel_model.specs.Choice.{beginning_at}
use Rattle.plan_laws.specs.Counting.{ComesAt}
use Rattle.plan_laws.specs.EventLaws.{ResetIsOfEvent}
use Rattle.plan_laws.specs.RunCounts.{NoRunIsCounted, RunIsCounted}
use Rattle.lifetimes.specs.Told.{begun_by, count_begun, aim_steps, aim_in, port_on}
use Rattle.lifetimes.specs.declared.change.Begun.{Begun}
use Rattle.channel_plan.specs.Planned.{note_ons, notes_to}
use Rattle.channel_plan.specs.Serving.{BeginsNote, BeginsNothing}
use Rattle.least_replay.specs.Found.{resets_on, IsThere}
use Rattle.least_replay.proofs.RunLists.{begun_of, only_passes}

-- the number of a note that begins
pub note_is : (o : Options) (table : Targets) (y n t : ℕ) (w : MidiWhat) (b : Begun) → begun_by o table y n t w ≡ Some b → b.note ≡ n
note_is o table y n t (Says (NoteOn c key (suc v))) b is = pick (is_part o c) is
  where
    pick : (a : Bool)
        → cond a (Some (record {
          note = n;
          pair = record { part = record { port = y; channel = c }; steps = aim_steps o table key t };
          key = key;
          target = aim_in o table key t;
        })) None ≡ Some b
        → b.note ≡ n
    pick false s = absurd cc
    pick true s =
        let r : record {
          note = n;
          pair = record { part = record { port = y; channel = c }; steps = aim_steps o table key t };
          key = key;
          target = aim_in o table key t;
        } ≡ b = cc in ap (λ (x : Begun). x.note) (sym r)
note_is o table y n t (Says (NoteOn c key zero)) b is = absurd cc
note_is o table y n t (Says (NoteOff c key v)) b is = absurd cc
note_is o table y n t (Says (KeyPressure c key v)) b is = absurd cc
note_is o table y n t (Says (Control c key v)) b is = absurd cc
note_is o table y n t (Says (Program c v)) b is = absurd cc
note_is o table y n t (Says (Pressure c v)) b is = absurd cc
note_is o table y n t (Says (Bend c v)) b is = absurd cc
note_is o table y n t (SysexOf lead bytes) b is = absurd cc
note_is o table y n t (MetaOf kind bytes) b is = absurd cc

count_is : (o : Options) (es : List MidiEvent) → count_begun o es ≡ length (note_ons o es)
count_is o [] = refl
count_is o (e ∷ es) = pick (begins_note (is_part o) e.what) (count_is o es)
  where
    pick : (b : Bool) → count_begun o es ≡ length (note_ons o es)
        → cond b 1 0 + count_begun o es ≡ length (cond b (e ∷ note_ons o es) (note_ons o es))
    pick true h = omega (arith, h)
    pick false h = omega (arith, h)

-- as the plan counts notes
pub note_counts : (o : Options) (table : Targets) (es : List MidiEvent) (k : ℕ) (e : MidiEvent) (b : Begun) (p : Pair)
    → begun_by o table (port_on (take k es) e) (suc (count_begun o (take k es))) e.tick e.what ≡ Some b → BeginsNote o table es k e p
    → b.note ≡ notes_to o es (suc k)
note_counts o table es k e b p is begins =
    note_is o table (port_on (take k es) e) (suc (count_begun o (take k es))) e.tick e.what b is
    ∙ ap suc (count_is o (take k es)) ∙ sym begins.counted

pub resets_next : ResetIsOfEvent → (es : List MidiEvent) (z k : ℕ) (e : MidiEvent) → ComesAt es k e
    → resets_on es z (suc k)
    ≡ cond (nat_eq (port_on (take k es) e) z && resets (doing e.what)) (suc (resets_on es z k)) (resets_on es z k)
resets_next law es z k e comes = ap (λ b. cond b (suc (resets_on es z k)) (resets_on es z k)) (law es z k e comes)

-- where no note begins on a port, no run does
pub nothing_begins : NoRunIsCounted → (o : Options) (table : Targets) (es : List MidiEvent) (z k : ℕ) → IsSound o table es
    → BeginsNothing o table es k → beginning_at (pairs_on o (is_part o) table es z) k ≡ []
nothing_begins law o table es z k sound nothing = law o table es z k sound (nothing.begun (is_part o) table z (λ c t. t))

pub other_begins : NoRunIsCounted → (o : Options) (table : Targets) (es : List MidiEvent) (z k : ℕ) (e : MidiEvent) (p : Pair) → IsSound o table es
    → BeginsNote o table es k e p → p.part.port ≢ z → beginning_at (pairs_on o (is_part o) table es z) k ≡ []
other_begins law o table es z k e p sound begins other = law o table es z k sound
    (begins.begun sound.bends (is_part o) z (λ c t. t)
    ∙ ap (λ b. cond (b && is_part o p.part.channel) (p ∷ []) [])
    (false_from_ne_true (nat_eq p.part.port z) (λ t. other (eqb-true p.part.port z t))))

-- where one does
module _ (o : Options) (table : Targets) (es : List MidiEvent) (k : ℕ) (e : MidiEvent) (p : Pair) (sound : IsSound o table es)
    (note : BeginsNote o table es k e p) where
  pub begun_here : begun_at o (is_part o) table (port_at es p.part.port) (suc k) ≡ p ∷ []
  begun_here = note.begun sound.bends (is_part o) p.part.port (λ c t. t)
      ∙ ap (λ b. cond (nat_eq p.part.port p.part.port && b) (p ∷ []) []) note.part
      ∙ ap (λ b. cond (b && true) (p ∷ []) []) (same p.part.port)
    where
      same : (n : ℕ) → nat_eq n n ≡ true
      same n = eq-eqb n n refl

  pub begun_there : PairsAreTold → BegunIsThere → SoundPortsAreAimed → IsThere o table es p.part.port (suc k) p
  begun_there told law aimed =
      law o (is_part o) table (port_at es p.part.port) (aimed o (is_part o) table es p.part.port (λ c t. t) sound) k p
      (ap (λ ps. is_member is_same_pair ps p) begun_here ∙ or_left (is_same_pair p p) false ((told p p).1 refl))

  -- the run that begins with it
  pub only_begins : PairsAreTold → BegunIsThere → SoundPortsAreAimed
      → length (beginning_at (pairs_on o (is_part o) table es p.part.port) k) ≤ 1
      → is_member is_same_pair (pairs_on o (is_part o) table es p.part.port k) p ≡ false
      → (begins is_same_pair (pairs_on o (is_part o) table es p.part.port) k p ≡ true)
      × (beginning_at (pairs_on o (is_part o) table es p.part.port) k ≡ p ∷ [])
  only_begins told law aimed few gone =
      let there = begun_there told law aimed in
      let begun = begun_of (pairs_on o (is_part o) table es p.part.port) k p there gone in (
        begun,
        only_passes (λ q. begins is_same_pair (pairs_on o (is_part o) table es p.part.port) k q)
            (pairs_on o (is_part o) table es p.part.port (suc k)) p told there begun few,
      )

  -- and none where it was there
  pub none_new : RunIsCounted → IsThere o table es p.part.port k p → beginning_at (pairs_on o (is_part o) table es p.part.port) k ≡ []
  none_new law there =
      let at : ℕ → List Pair = pairs_on o (is_part o) table es p.part.port in
      let not_new : begins is_same_pair at k p ≡ false =
      ap (λ b. is_member is_same_pair (at (suc k)) p && not b) there ∙ and_false (is_member is_same_pair (at (suc k)) p) in
      nil_from_length (beginning_at at k) (law o table es p.part.port k p sound begun_here ∙ ap (λ b. cond b 1 0) not_new)
    where
      and_false : (b : Bool) → (b && false) ≡ false
      and_false true = refl
      and_false false = refl
