-- The channels that a plan names for the notes of a port, note by note.
use Rattle.std.proofs.Common.{◌≡◌, ◌≤◌, ◌<◌, ◌+◌, ℕ, zero, suc, List, [], ◌∷◌, ◌++◌, Bool, true, false, cond, Option, Some, None, refl, ap, sym, ◌∙◌, length, map, get_or, arith, inl, inr}
use Rattle.std.specs.Prelude.{is_some}
use Rattle.std.proofs.lemmas.Bool.{cases_lt}
use Rattle.std.proofs.lemmas.List.{length-append, get_or_append_left, append-nil}
use Rattle.std.proofs.Math.Seq.{get_or-append_seam}
use Rattle.mt_base.specs.declared.event.Msg.TheVariants.{NoteOn, NoteOff, KeyPressure, Control, Program, Pressure, Bend}
use Rattle.mt_base.specs.declared.event.Msg.{Msg}
use Rattle.mt_base.specs.Midi.{MidiWhat, Says, SysexOf, MetaOf, MidiEvent}
use Rattle.midi_model.specs.Notes.{Note}
use Rattle.retune_model.specs.Table.{BendTarget}
use Rattle.retune_model.specs.Options.{Options}
use Rattle.retune_model.specs.PlaysTheSame.{bend_target_if}
use Rattle.retune_model.specs.Faults.{Targets, is_part, target_of}
use Rattle.retune_model.specs.Ports.{PortEvents, Ascend, is_reset_at}
use Rattle.retune_model.specs.Pairs.{Pair, pair_if, pairs_of}
use Rattle.retune_model.specs.Rests.{notes_at, pair_of, pair_at, began_at, begun_pair, begun_pairs, begun_at, AreAimed}
use Rattle.channel_model.specs.BendOutput.{PortRuns}
use Rattle.bend_laws.specs.Positions.{port_event}
use Rattle.bend_laws.specs.Simulation.{on_target, channel_begun, channel_if, planned_channels}
use Rattle.bend_laws.proofs.Outputs.{events_if}
use Rattle.bend_laws.proofs.Placing.{event_is}
use Rattle.retune_model.proofs.Moments.{Timely, HasTarget, begun_to, timeline, pairs_begun_at, aimed_at}
use Rattle.retune_model.proofs.Resting.{has_target, pair_kept}
use Rattle.retune_model.proofs.Timeline.{Timeline, length_grown, count, note, count_next, count_le, new, first_with_below}

-- ---- what one event begins

target_place : (z : ℕ) (place : Pair → ℕ) (c : ℕ) (t : Option BendTarget) → on_target z place c t ≡ map place (pair_if z c t [])
target_place z place c None = refl
target_place z place c (Some t) = refl

message_place : (z : ℕ) (o : Options) (table : Targets) (place : Pair → ℕ) (t : ℕ) (m : Msg)
    → channel_begun z o table place t (Says m) ≡ map place (begun_pair z o (is_part o) table t (Says m))
message_place z o table place t (NoteOn c k zero) = refl
message_place z o table place t (NoteOn c k (suc v)) = pick (is_part o c)
  where
    pick : (b : Bool) → cond b (on_target z place c (bend_target_if o.range (table k t))) []
        ≡ map place (cond b (pair_if z c (bend_target_if o.range (table k t)) []) [])
    pick true = target_place z place c (bend_target_if o.range (table k t))
    pick false = refl
message_place z o table place t (NoteOff c k v) = refl
message_place z o table place t (KeyPressure c k v) = refl
message_place z o table place t (Control c n v) = refl
message_place z o table place t (Program c p) = refl
message_place z o table place t (Pressure c v) = refl
message_place z o table place t (Bend c v) = refl

what_place : (z : ℕ) (o : Options) (table : Targets) (place : Pair → ℕ) (t : ℕ) (w : MidiWhat)
    → channel_begun z o table place t w ≡ map place (begun_pair z o (is_part o) table t w)
what_place z o table place t (Says m) = message_place z o table place t m
what_place z o table place t (SysexOf lead bytes) = refl
what_place z o table place t (MetaOf kind bytes) = refl

event_place : (z : ℕ) (o : Options) (table : Targets) (place : Pair → ℕ) (x : Option MidiEvent)
    → channel_if z o table place x ≡ map place (begun_pairs z o (is_part o) table (events_if x))
event_place z o table place None = refl
event_place z o table place (Some e) = what_place z o table place e.tick e.what

pub one_pair : (z : ℕ) (o : Options) (table : Targets) (n : Note) → HasTarget o table n → pairs_of z o table (n ∷ []) ≡ pair_of z o table n ∷ []
one_pair z o table n h = pick (target_of o table n) refl h
  where
    pick : (t : Option BendTarget) → target_of o table n ≡ t → is_some t ≡ true → pairs_of z o table (n ∷ []) ≡ pair_of z o table n ∷ []
    pick None e g = absurd cc
    pick (Some t) e g = rw e refl

no_note : (ns : List Note) → length ns ≡ 0 → ns ≡ []
no_note [] h = refl
no_note (n ∷ ns) h = absurd (omega (arith, h))

-- ---- all positions

-- the channels of the notes of some channels of the source that have begun by a position: of the pair that each event begins
abbrev pub named : Options → (ℕ → Bool) → Targets → PortEvents → (ℕ → Pair → ℕ) → ℕ → List ℕ
named o part table port channel zero = []
named o part table port channel (suc k) = named o part table port channel k ++ map (channel (suc k)) (begun_at o part table port (suc k))

-- of all retuned notes, they are those that the plan names
pub planned_named : (o : Options) (table : Targets) (port : PortEvents) (runs : PortRuns) → Ascend 0 port.events → runs.number ≡ port.number
    → (k : ℕ) → planned_channels o table runs port.events k ≡ named o (is_part o) table port runs.channel k
planned_named o table port runs ascend same zero = refl
planned_named o table port runs ascend same (suc k) =
    ap (λ cs. cs ++ channel_if runs.number o table (runs.channel (suc k)) (port_event port.events (suc k)))
    (planned_named o table port runs ascend same k)
    ∙ ap (λ cs. named o (is_part o) table port runs.channel k ++ cs)
    (ap (λ z. channel_if z o table (runs.channel (suc k)) (port_event port.events (suc k))) same
    ∙ event_place port.number o table (runs.channel (suc k)) (port_event port.events (suc k))
    ∙ ap (λ es. map (runs.channel (suc k)) (begun_pairs port.number o (is_part o) table es)) (sym (event_is 0 port.events ascend (suc k))))

-- note by note
pub record IsReadTo (o : Options) (part : ℕ → Bool) (table : Targets) (port : PortEvents) (channel : ℕ → Pair → ℕ) (last k : ℕ) : Type 0 where
  pub all : length (named o part table port channel k) ≡ length (notes_at part port.events k)
  pub each : (i : ℕ) → i < length (notes_at part port.events k) → get_or (named o part table port channel k) i 0
      ≡ channel (began_at part port.events last i) (pair_at o part table port last i)

pub named_read : (o : Options) (part : ℕ → Bool) (table : Targets) (port : PortEvents) (channel : ℕ → Pair → ℕ) → Timely port
    → AreAimed o part table port.events
    → (last k : ℕ) → k ≤ last → IsReadTo o part table port channel last k
named_read o part table port channel timed aimed last zero low =
    let none = (timeline part port timed).none in
    record {
      all = sym (ap length none);
      each = λ i l. absurd (let e : length (notes_at part port.events 0) ≡ 0 = ap length none in omega (arith, l, e));
    }
named_read o part table port channel timed aimed last (suc k) low = (
    let before = named_read o part table port channel timed aimed last k (omega (arith, low)) in
    elim (cases_lt (count at k) (count at (suc k))) [ inl g ↦ more before g | inr g ↦ no_more before g ])
  where
    at : ℕ → List Note
    at = notes_at part port.events

    place : Pair → ℕ
    place = channel (suc k)

    T : Timeline at port.tick (is_reset_at port.events) (begun_to part port.events)
    T = timeline part port timed

    -- the channel that the event is given
    its : map place (begun_at o part table port (suc k)) ≡ map place (pairs_of port.number o table (begun_to part port.events (suc k)))
    its = ap (map place) (sym (pairs_begun_at o part table port k))

    no_more : IsReadTo o part table port channel last k → count at (suc k) ≤ count at k → IsReadTo o part table port channel last (suc k)
    no_more before g =
        let grown : count at (suc k) ≡ count at k + length (begun_to part port.events (suc k)) =
        length_grown (port.tick (suc k)) (begun_to part port.events (suc k)) (at k) (at (suc k)) (T.grows k) in
        let still : count at (suc k) ≡ count at k = omega (arith, grown, g) in
        let none = no_note (begun_to part port.events (suc k)) (omega (arith, grown, g)) in
        let is : named o part table port channel (suc k) ≡ named o part table port channel k =
        ap (λ cs. named o part table port channel k ++ cs) (its ∙ ap (λ ns. map place (pairs_of port.number o table ns)) none)
        ∙ append-nil (named o part table port channel k) in
        record {
          all = ap length is ∙ before.all ∙ sym still;
          each = λ i l. ap (λ cs. get_or cs i 0) is ∙ before.each i (omega (arith, l, still));
        }

    -- the note that begins there, which is the last
    its_number : (i : ℕ) → count at k ≤ i → i < count at (suc k) → i < count at last → began_at part port.events last i ≡ suc k
    its_number i a b c =
        let f = first_with_below T i last c in
        let from : count at f.0 ≤ i = f.3 in
        let to : i < count at (suc f.0) = f.4 in
        f.1 ∙ elim (cases_lt f.0 k) [
          | inl l ↦ absurd (let m : count at (suc f.0) ≤ count at k = count_le T (suc f.0) k (omega (arith, l)) in omega (arith, a, to, m))
          | inr l ↦ elim (cases_lt k f.0) [
            | inl g ↦ absurd (let m : count at (suc k) ≤ count at f.0 = count_le T (suc k) f.0 (omega (arith, g)) in omega (arith, b, from, m))
            | inr g ↦ omega (arith, l, g)
          ]
        ]

    more : IsReadTo o part table port channel last k → count at k < count at (suc k) → IsReadTo o part table port channel last (suc k)
    more before g =
        let n : ℕ = count at k in
        let new_one = new T k n (omega arith) g in
        let step = count_next T k in
        let many : count at (suc k) ≡ n + 1 = omega (arith, g, step.1) in
        let p : Pair = pair_of port.number o table (note at (suc k) n) in
        let target = has_target o table T (aimed_at o part table port.events aimed) (suc k) n g in
        let one : map place (begun_at o part table port (suc k)) ≡ place p ∷ [] =
        its ∙ ap (λ ns. map place (pairs_of port.number o table ns)) new_one.alone
        ∙ ap (map place) (one_pair port.number o table (note at (suc k) n) target) in
        let is : named o part table port channel (suc k) ≡ named o part table port channel k ++ place p ∷ [] =
        ap (λ cs. named o part table port channel k ++ cs) one in
        let all_before : length (named o part table port channel k) ≡ n = before.all in
        let later : count at (suc k) ≤ count at last = count_le T (suc k) last low in
        record {
          all = ap length is ∙ length-append (named o part table port channel k) (place p ∷ [])
              ∙ (let e : length (named o part table port channel k) + 1 ≡ count at (suc k) = omega (arith, all_before, many) in e);
          each = λ i l. ap (λ cs. get_or cs i 0) is ∙ elim (cases_lt i n) [
            | inl old ↦ get_or_append_left (named o part table port channel k) (place p ∷ []) 0 i (omega (arith, old, all_before)) ∙ before.each i old
            | inr not_old ↦ (let last_one : i ≡ n = omega (arith, not_old, l, many) in
                ap (λ j. get_or (named o part table port channel k ++ place p ∷ []) j 0) (last_one ∙ sym all_before)
                ∙ get_or-append_seam (named o part table port channel k) (place p) [] 0
                ∙ ap (λ j. channel (suc k) (pair_of port.number o table (note at (suc k) j))) (sym last_one)
                ∙ ap (channel (suc k)) (sym (pair_kept port.number o table T (suc k) last i low l))
                ∙ ap (λ j. channel j (pair_at o part table port last i)) (sym (its_number i not_old l (omega (arith, l, later)))))
          ];
        }
