-- A port that takes an event stands for one event more.
use Rattle.std.proofs.Common.{◌≡◌, ◌≤◌, ◌<◌, ◌∙◌, ℕ, zero, suc, ℤ, List, [], ◌∷◌, ◌++◌, Bool, true, false, cond, ◌&&◌, nat_eq, Option, Some, is_some, refl, sym, ap, subst, arith, length, slice_index, inl, inr}
use Rattle.std.specs.List.{AllByRecursion, filter}
use Rattle.std.proofs.lemmas.Bool.{eq-eqb, eqb-true, and_parts}
use Rattle.mt_base.specs.declared.pair.Part.{Part as PartOf}
use Rattle.mt_base.specs.Midi.{MidiEvent}
use Rattle.mt_base.specs.Valid.{IsValidEvent}
use Rattle.midi_model.specs.Notes.{Note}
use Rattle.midi_model.specs.Music.{Music}
use Rattle.midi_model.specs.Order.{AreInOrder}
use Rattle.midi_model.specs.Sysex.{doing}
use Rattle.retune_model.specs.Options.{Options, is_drum_message}
use Rattle.retune_model.specs.Ports.{resets, events_on, port_at, PortEvents, tick_to}
use Rattle.retune_model.specs.Faults.{Targets, int_eq, is_part}
use Rattle.retune_model.specs.Pairs.{Pair}
use Rattle.retune_model.specs.Rests.{notes_at, is_within_tail}
use Rattle.receiver.specs.Notes.{has}
use Rattle.receiver.specs.Sounding.{sounding_at, ended_on}
use Rattle.receiver.specs.Stands.{PlayerStands}
use Rattle.receiver.specs.declared.ends.Ends.{Ends}
use Rattle.lifetimes.specs.Lists.{entry_at, entry_of, struck_at}
use Rattle.lifetimes.specs.Resting.{end_kept}
use Rattle.lifetimes.specs.Told.{TellsEnds, music_on, port_on, strike_of, strikes_key, count_begun, number_of, aim_in, steps_in, is_of_pair}
use Rattle.lifetimes.specs.Port.{struck_in, struck_after, rests_in, ListsAll, Plays, Takes, sounds_then, ends_pair}
use Rattle.lifetimes.specs.Stands.{heard_on, sounds_on, end_of_pair, pair_on, PortStands}
use Rattle.lifetimes.specs.declared.notes.Struck.{Struck}
use Rattle.lifetimes.specs.declared.port.Port.{Port}
use Rattle.lifetimes.proofs.Laws.{Laws}
use Rattle.lifetimes.proofs.Appended.{heard_next, music_there, longer}
use Rattle.lifetimes.proofs.Prefix.{music_more, tick_more, tick_last}
use Rattle.lifetimes.proofs.KeysAndNotes.{any_key_same}
use Rattle.lifetimes.proofs.NotesKept.{keys_low}
use Rattle.lifetimes.proofs.StruckSteps.{is_on, aim_steps}
use Rattle.lifetimes.proofs.Numbers.{number_next}
use Rattle.lifetimes.proofs.EndsKept.{ends_pair_by, end_next, pair_end_next, end_by, out_of_tail}
use Rattle.lifetimes.proofs.PairsEnded.{pair_ended, since_ended, chosen_ended, by_pairs, some_ended}
use Rattle.lifetimes.proofs.EventNext.{notes_of, grown, sounds_as_before, struck_now, ended_sounded}
use Rattle.lifetimes.proofs.Telling.{bits_tell, now_on}
use Rattle.lifetimes.proofs.Striking.{strikes_same, struck_by, struck_kept, sounds_next, none_left_there}

-- what is listed depends on what sounds on keys below 128 alone
pub listed_as : (port : Port) (f g : ℕ → ℕ → Bool) → ((c k : ℕ) → c < 16 → k < 128 → f c k ≡ g c k) → ListsAll port f → ListsAll port g
listed_as port f g same lists c low =
    record { own = (lists c low).own; listed = λ k below. (lists c low).listed k below ∙ same c k low below }

-- The four parts of what a port stands for, z being its number.
abbrev pub StruckFor : Options → Targets → List MidiEvent → Port → ℕ → Type 0
StruckFor o table es port z = (c k : ℕ) (x : ℕ × Note) → c < 16 → k < 128 → is_part o c ≡ true → sounding_at (music_on z es).notes c k ≡ Some x
    → struck_at (struck_in port c) k ≡ record { note = number_of o (record { port = z; channel = c }) k es; target = aim_in o table k x.1.onset }

abbrev pub RestsFor : Options → Targets → List MidiEvent → Port → ℕ → Type 0
RestsFor o table es port z = (c : ℕ) (q : ℤ) (t : ℕ) → c < 16 → is_part o c ≡ true → tick_to es (length es) ≤ t
    → is_within_tail o.tail t (end_kept (rests_in port c) q) ≡ is_within_tail o.tail t (end_of_pair o table es (pair_on z c q))

one_found : (a : Option (ℕ × Note)) (x y : ℕ × Note) → a ≡ Some x → a ≡ Some y → x ≡ y
one_found a x y h l = cc

-- What is known where a port takes an event.
pub record IsTaken (o : Options) (table : Targets) (es : List MidiEvent) (e : MidiEvent) (old : Port) (ends : Ends) (new : Port) : Type 0 where
  pub laws : Laws
  pub valid : AllByRecursion IsValidEvent es
  pub valid_too : IsValidEvent e
  pub order : AreInOrder 0 es
  pub order_too : AreInOrder 0 (es ++ e ∷ [])
  pub stands : PortStands o table es old
  pub here : port_on es e ≡ old.number
  pub told : (o.keep_drums && is_drum_message e.what) ≡ false
  pub takes : Takes o.tail e.tick e.what (strike_of o table e.tick e.what) (count_begun o (es ++ e ∷ [])) old ends new

module _ (o : Options) (table : Targets) (es : List MidiEvent) (e : MidiEvent) (old : Port) (ends : Ends) (new : Port)
    (h : IsTaken o table es e old ends new) where
  plays : Plays old ends new (heard_on o old.number es) e
  plays = h.takes.plays (heard_on o old.number es) e h.stands.player refl refl

  -- which keys' notes ended, by the notes of the port's music
  bits : (c k : ℕ) → c < 16 → k < 128
      → has (slice_index ends.keys c) k
      ≡ (is_part o c && ended_on c k (notes_of (events_on old.number es)) (notes_of (events_on old.number es ++ e ∷ [])))
  bits = bits_tell h.laws o old.number es e ends h.told plays.ends

  pub port_tells : (c k : ℕ) → c < 16 → k < 128
      → has (slice_index ends.keys c) k ≡ (is_part o c && ended_on c k (music_on old.number es).notes (music_on old.number (es ++ e ∷ [])).notes)
  port_tells c k low below =
      bits c k low below
      ∙ ap (λ ns. is_part o c && ended_on c k (music_on old.number es).notes ns) (now_on old.number es e h.here)

  pub tells_ends : TellsEnds o es e ends
  tells_ends = subst (λ z. (c k : ℕ) → c < 16 → k < 128
      → has (slice_index ends.keys c) k ≡ (is_part o c && ended_on c k (music_on z es).notes (music_on z (es ++ e ∷ [])).notes))
      (sym h.here) port_tells

  -- a note that ended had sounded
  had_sounded : (c k : ℕ) → c < 16 → k < 128 → has (slice_index ends.keys c) k ≡ true → sounds_on o old.number es c k ≡ true
  had_sounded c k low below b =
      let p = and_parts (is_part o c) _ (sym (bits c k low below) ∙ b) in
      ap (λ a. a && is_some (sounding_at (notes_of (events_on old.number es)) c k)) p.0
      ∙ ended_sounded c k (notes_of (events_on old.number es)) (notes_of (events_on old.number es ++ e ∷ [])) p.1

  -- ---- the receiver, what sounds, and what was struck
  heard : PlayerStands new.player (heard_on o old.number (es ++ e ∷ []))
  heard = subst (PlayerStands new.player) (sym (heard_next o old.number es e h.here h.told)) plays.stands

  listed : ListsAll new (sounds_on o old.number (es ++ e ∷ []))
  listed =
      listed_as new (sounds_then e.what ends (strike_of o table e.tick e.what) (sounds_on o old.number es)) (sounds_on o old.number (es ++ e ∷ []))
      (λ c k low below.
      sounds_next h.laws o table (events_on old.number es) e ends bits c k low below
      ∙ ap (λ ns. is_part o c && is_some (sounding_at ns c k)) (now_on old.number es e h.here))
      (h.takes.listed (sounds_on o old.number es) h.stands.listed had_sounded
      (λ c k s. none_left_there h.laws o table (events_on old.number es) e ends bits h.valid_too.what c k s))

  struck : StruckFor o table (es ++ e ∷ []) new old.number
  struck c k x low below part s =
      h.takes.struck c k low below
      ∙ pick (strikes_key c k e.what) refl (ap (λ b. b && strikes_key c k e.what) (eq-eqb (port_on es e) old.number h.here))
    where
      p : PartOf
      p = record { port = old.number; channel = c }

      n : ℕ
      n = count_begun o (es ++ e ∷ [])

      told : ℕ → ℕ → Struck
      told m t = record { note = m; target = aim_in o table k t }

      now : sounding_at (notes_of (events_on old.number es ++ e ∷ [])) c k ≡ Some x
      now = ap (λ ns. sounding_at ns c k) (now_on old.number es e h.here) ∙ s

      number : (b : Bool) → (nat_eq (port_on es e) old.number && strikes_key c k e.what) ≡ b
          → number_of o p k (es ++ e ∷ []) ≡ cond b n (number_of o p k es)
      number b is = number_next o p k es e ∙ ap (λ a. cond a n (number_of o p k es)) is

      none : (b : Bool) → (b && false) ≡ false
      none true = refl
      none false = refl

      pick : (b : Bool) → strikes_key c k e.what ≡ b → (nat_eq (port_on es e) old.number && strikes_key c k e.what) ≡ strikes_key c k e.what
          → struck_after (strike_of o table e.tick e.what) n c k (struck_at (struck_in old c) k) ≡ told (number_of o p k (es ++ e ∷ [])) x.1.onset
      pick true is same =
          let b = struck_now h.laws.age h.laws.one (events_on old.number es) e c k is in
          struck_by o table e.tick e.what n c k (struck_at (struck_in old c) k) part is
          ∙ ap (told n) (sym (ap (λ (y : ℕ × Note). y.1.onset) (one_found _ x b.0 now b.1) ∙ b.2))
          ∙ ap (λ m. told m x.1.onset) (sym (number true (same ∙ is)))
      pick false is same =
          let y = sounds_as_before h.laws.age h.laws.one (events_on old.number es) e c k is x now in
          struck_kept (strike_of o table e.tick e.what) n c k (struck_at (struck_in old c) k)
          (strikes_same o table e.tick e.what c k ∙ ap (λ a. is_part o c && a) is ∙ none (is_part o c))
          ∙ h.stands.struck c k y.0 low below part y.1
          ∙ ap (told (number_of o p k es)) (sym y.2)
          ∙ ap (λ m. told m x.1.onset) (sym (number false (same ∙ is)))

  -- ---- the ends
  same_ends : (c : ℕ) (q : ℤ) → c < 16 → is_part o c ≡ true → ends_pair ends old c q ≡ ends_pair_by o table es e (pair_on old.number c q)
  same_ends c q low part =
      any_key_same (λ k. has (slice_index ends.keys c) k && int_eq (steps k) q) (λ k. ended_on c k before after && int_eq (steps k) q) 128
      (λ k below. ap (λ b. b && int_eq (steps k) q) (bits c k low below ∙ ap (λ a. a && ended_on c k before after) part))
      ∙ by_pairs o table p steps before after (λ k. h.laws.one (events_on old.number es) c k) (keys_low h.laws.fade old.number es h.valid) same
      ∙ sym (chosen_ended (is_part o) (is_of_pair o table p) within e.tick _ before after (grown h.laws.age (events_on old.number es) e))
      ∙ ap (λ ns. some_ended (is_of_pair o table p) ns (chosen after)) (sym notes_then)
      ∙ ap (λ ns. some_ended (is_of_pair o table p) (notes_at (is_part o) port.events (length es)) ns) (sym notes_now)
      ∙ sym (since_ended h.laws.written (is_part o) port (h.laws.timed old.number (es ++ e ∷ []) h.order_too) (length es)
      (is_of_pair o table p) (notes_at (is_part o) port.events (suc (length es))))
      ∙ sym (pair_ended o table p _ _)
    where
      p : Pair
      p = pair_on old.number c q

      port : PortEvents
      port = port_at (es ++ e ∷ []) old.number

      before : List Note
      before = notes_of (events_on old.number es)

      after : List Note
      after = notes_of (events_on old.number es ++ e ∷ [])

      chosen : List Note → List Note
      chosen ns = filter (λ (n : Note). is_part o n.channel) ns

      steps : ℕ → ℤ
      steps k = (entry_at (struck_in old c) k).steps

      notes_then : notes_at (is_part o) port.events (length es) ≡ chosen before
      notes_then = ap (λ (m : Music). chosen m.notes) (music_more old.number (length es) es e (omega arith) ∙ music_there h.laws.music old.number es)

      notes_now : notes_at (is_part o) port.events (suc (length es)) ≡ chosen after
      notes_now =
          ap (notes_at (is_part o) port.events) (sym (longer es e))
          ∙ ap (λ (m : Music). chosen m.notes) (music_there h.laws.music old.number (es ++ e ∷ []))
          ∙ ap chosen (sym (now_on old.number es e h.here))

      same : (k : ℕ) (x : ℕ × Note) → k < 128 → sounding_at before c k ≡ Some x → steps k ≡ steps_in o table x.1
      same k x below s =
          ap (λ (r : Struck). (entry_of k r.target).steps) (h.stands.struck c k x low below part s)
          ∙ ap (λ j. (entry_of j (aim_in o table j x.1.onset)).steps) (sym (is_on c k 1 before x s).key)
          ∙ aim_steps o table x.1

      within : (n : Note) → is_of_pair o table p n ≡ true → is_part o n.channel ≡ true
      within n is = ap (is_part o) (eqb-true n.channel c (and_parts (nat_eq n.channel c) _ is).0) ∙ part

  last_tick : tick_to (es ++ e ∷ []) (length (es ++ e ∷ [])) ≡ e.tick
  last_tick = ap (tick_to (es ++ e ∷ [])) (longer es e) ∙ tick_last es e

  rests : RestsFor o table (es ++ e ∷ []) new old.number
  rests c q t low part late = pick o.tail refl
    where
      p : Pair
      p = pair_on old.number c q

      r : Bool
      r = resets (doing e.what)

      next : end_of_pair o table (es ++ e ∷ []) p ≡ end_next r (ends_pair ends old c q) e.tick (end_of_pair o table es p)
      next =
          pair_end_next h.laws.timed h.laws.kept h.laws.forgotten o table es e p h.order_too
          ∙ ap (λ b. end_next (b && r) (ends_pair_by o table es e p) e.tick (end_of_pair o table es p)) (eq-eqb (port_on es e) old.number h.here)
          ∙ ap (λ b. end_next r b e.tick (end_of_pair o table es p)) (sym (same_ends c q low part))

      earlier : tick_to es (length es) ≤ t
      earlier =
          let up = (h.laws.timed old.number (es ++ e ∷ []) h.order_too).order (length es) in
          let a = tick_more (length es) es e (omega arith) in
          let b = tick_last es e in
          let l = last_tick in
          omega (arith, up, a, b, l, late)

      before : is_within_tail o.tail t (end_kept (rests_in old c) q) ≡ is_within_tail o.tail t (end_of_pair o table es p)
      before = h.stands.rests c q t low part earlier

      within_next : (a b : Bool) (x y : Option ℕ) → is_within_tail o.tail t x ≡ is_within_tail o.tail t y
          → is_within_tail o.tail t (end_next a b e.tick x) ≡ is_within_tail o.tail t (end_next a b e.tick y)
      within_next true b x y is = refl
      within_next false true x y is = refl
      within_next false false x y is = is

      none_within : (es : List MidiEvent) → AreInOrder 0 es → tick_to es (length es) ≤ t → o.tail ≡ 0
          → is_within_tail o.tail t (end_of_pair o table es p) ≡ false
      none_within es order late no_tail =
          ap (λ m. is_within_tail m t (end_of_pair o table es p)) no_tail
          ∙ out_of_tail (tick_to es (length es)) t (end_of_pair o table es p)
          (end_by h.laws.music h.laws.timed h.laws.kept h.laws.forgotten o table es p order) late

      pick : (n : ℕ) → o.tail ≡ n → is_within_tail o.tail t (end_kept (rests_in new c) q)
          ≡ is_within_tail o.tail t (end_of_pair o table (es ++ e ∷ []) p)
      pick (suc n) is =
          h.takes.rests (sounds_on o old.number es) h.stands.listed had_sounded (omega (arith, is)) c q t low
          (let l = last_tick in omega (arith, l, late))
          ∙ within_next r (ends_pair ends old c q) (end_kept (rests_in old c) q) (end_of_pair o table es p) before
          ∙ ap (is_within_tail o.tail t) (sym next)
      pick zero is =
          elim (h.takes.still is c q low) [
            | inl gone ↦ ap (is_within_tail o.tail t) gone
            | inr same ↦ ap (is_within_tail o.tail t) same ∙ before ∙ none_within es h.order earlier is
          ]
          ∙ sym (none_within (es ++ e ∷ []) h.order_too late is)

  pub port_takes : PortStands o table (es ++ e ∷ []) new
  port_takes = record {
    player = subst (λ z. PlayerStands new.player (heard_on o z (es ++ e ∷ []))) (sym h.takes.number) heard;
    struck = subst (StruckFor o table (es ++ e ∷ []) new) (sym h.takes.number) struck;
    listed = subst (λ z. ListsAll new (sounds_on o z (es ++ e ∷ []))) (sym h.takes.number) listed;
    rests = subst (RestsFor o table (es ++ e ∷ []) new) (sym h.takes.number) rests;
  }
