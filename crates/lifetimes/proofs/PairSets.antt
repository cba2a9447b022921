-- The elements of the sets of pairs, where notes are bent: those of which a note sounds, or holds.
use Rattle.std.proofs.Common.{◌≡◌, ◌<◌, ◌≤◌, ◌∙◌, ℕ, zero, suc, ℤ, pos, List, [], ◌∷◌, Bool, true, false, cond, ◌&&◌, ◌||◌, length, get_or, drop, nat_eq, nat_lt, nat_le, refl, sym, ap, subst, arith, inl, inr}
use Rattle.std.specs.Prelude.{filter}
use Rattle.std.specs.Set.{is_member}
use Rattle.std.proofs.lemmas.Bool.{cases_lt, ltb-true, lt-ltb, leb-true, le-leb, eq-eqb, eqb-true}
use Rattle.mt_base.specs.Midi.{MidiEvent}
use Rattle.midi_model.specs.Notes.{Note, sounds}
use Rattle.midi_model.specs.Order.{AreInOrder}
use Rattle.retune_model.specs.Options.{Options, bends_notes, restless}
use Rattle.retune_model.specs.Ports.{PortEvents, AreTimed, of_port, music_at, port_at, tick_to}
use Rattle.retune_model.specs.PortLaws.{MusicAtAPosition}
use Rattle.retune_model.specs.Faults.{Targets, is_part, int_eq, any_note, target_of}
use Rattle.retune_model.specs.FaultLaws.{SoundPortsAreAimed}
use Rattle.retune_model.specs.SourceFaults.{IsFaultless}
use Rattle.retune_model.specs.Pairs.{Pair, is_same_pair}
use Rattle.retune_model.specs.Rests.{notes_at, nobody, past_at, lasts, holds_at, pairs_at, pair_of, steps_of, IsAimedPort, SoundsAt, SoundsOrRests}
use Rattle.retune_model.specs.RestLaws.{NotesHoldAsWritten, PairsAreOfNotes}
use Rattle.lifetimes.specs.Told.{is_of_pair, steps_in, pair_sounds, pair_holds, is_held, is_sounding}
use Rattle.lifetimes.specs.Stands.{pair_on}
use Rattle.lifetimes.proofs.Kept.{int_eq_tells, same_int}
use Rattle.lifetimes.proofs.AnyNote.{both, parts, joined, note_at, place_of, any_filter, note_behind, place_behind}
use Rattle.lifetimes.proofs.PairsTold.{sounds_among}

-- ---- the pair of a note

bent : (o : Options) (table : Targets) (n : Note) → bends_notes o.route ≡ true → steps_in o table n ≡ steps_of (target_of o table n)
bent o table n bends = ap (λ b. cond b (steps_of (target_of o table n)) (pos 0)) bends

of_its_pair : (o : Options) (table : Targets) (z : ℕ) (n : Note) (p : Pair) → bends_notes o.route ≡ true → pair_of z o table n ≡ p
    → is_of_pair o table p n ≡ true
of_its_pair o table z n p bends e =
    ap (λ q. is_of_pair o table q n) (sym e)
    ∙ joined (nat_eq n.channel n.channel) (int_eq (steps_in o table n) (steps_of (target_of o table n))) (eq-eqb n.channel n.channel refl)
    (ap (λ s. int_eq s (steps_of (target_of o table n))) (bent o table n bends) ∙ same_int (steps_of (target_of o table n)))

its_pair : (o : Options) (table : Targets) (z c : ℕ) (q : ℤ) (n : Note) → bends_notes o.route ≡ true → is_of_pair o table (pair_on z c q) n ≡ true
    → pair_of z o table n ≡ pair_on z c q
its_pair o table z c q n bends h =
    let x = parts (nat_eq n.channel c) (int_eq (steps_in o table n) q) h in
    let steps : steps_of (target_of o table n) ≡ q = sym (bent o table n bends) ∙ int_eq_tells (steps_in o table n) q x.1 in
    ap (λ d. pair_on z d (steps_of (target_of o table n))) (eqb-true n.channel c x.0) ∙ ap (pair_on z c) steps

-- ---- the premises of the laws

aimed : SoundPortsAreAimed → (o : Options) (table : Targets) (es : List MidiEvent) (z : ℕ) → bends_notes o.route ≡ true → AreInOrder 0 es
    → IsFaultless o table es
    → IsAimedPort o (is_part o) table (port_at es z)
aimed sound o table es z bends order faultless = sound o (is_part o) table es z (λ c h. h) (record { bends = bends; in_order = order; faultless = faultless })

-- ---- what holds

module _ (part : ℕ → Bool) (tail : ℕ) (port : PortEvents) (k : ℕ) where
  abbrev past : ℕ
  past = past_at part port.events k

  abbrev notes : List Note
  notes = notes_at part port.events k

  abbrev note : ℕ → Note
  note i = get_or notes i nobody

  holds_behind : (i : ℕ) → holds_at part tail port k i ≡ true → (past ≤ i) × (i < length notes) × (lasts tail (port.tick k) (note i) ≡ true)
  holds_behind i h =
      let a = parts (nat_le past i) (nat_lt i (length notes) && lasts tail (port.tick k) (note i)) h in
      let b = parts (nat_lt i (length notes)) (lasts tail (port.tick k) (note i)) a.1 in
      (leb-true past i a.0, ltb-true i (length notes) b.0, b.1)

  behind_holds : (i : ℕ) → past ≤ i → i < length notes → lasts tail (port.tick k) (note i) ≡ true → holds_at part tail port k i ≡ true
  behind_holds i le low l =
      joined (nat_le past i) (nat_lt i (length notes) && lasts tail (port.tick k) (note i)) (le-leb past i le)
      (joined (nat_lt i (length notes)) (lasts tail (port.tick k) (note i)) (lt-ltb i (length notes) low) l)

-- the pairs are those of the notes that hold
pub held_tells : PairsAreOfNotes → (o : Options) (table : Targets) (es : List MidiEvent) (z c : ℕ) (q : ℤ) → bends_notes o.route ≡ true
    → IsAimedPort o (is_part o) table (port_at es z)
    → pair_holds o table es (pair_on z c q) ≡ is_held o table es (pair_on z c q)
held_tells of_notes o table es z c q bends port_aimed =
    let p = pair_on z c q in
    let port = port_at es z in
    let part = is_part o in
    let k = length es in
    let t = tick_to es k in
    let is = is_of_pair o table p in
    let pairs = of_notes o part table port k port_aimed in
    any_filter is (lasts o.tail t) (drop (past part o.tail port k) (notes part o.tail port k))
    ∙ both (any_note (λ n. lasts o.tail t n && is n) (drop (past part o.tail port k) (notes part o.tail port k))) (is_held o table es p)
    (λ h. let r = place_behind (λ n. lasts o.tail t n && is n) (past part o.tail port k) (notes part o.tail port k) h in
    let x = parts (lasts o.tail t (note part o.tail port k r.0)) (is (note part o.tail port k r.0)) r.3 in
    subst (λ (d : Pair). is_member is_same_pair (pairs_at o part table port k) d ≡ true) (its_pair o table z c q (note part o.tail port k r.0) bends x.1)
    (pairs.all k r.0 (omega arith) r.2 (behind_holds part o.tail port k r.0 r.1 r.2 x.0)))
    (λ h. let r = pairs.each k p (omega arith) h in
    let x = holds_behind part o.tail port k r.0 r.2 in
    note_behind (λ n. lasts o.tail t n && is n) (past part o.tail port k) (notes part o.tail port k) r.0 x.0 x.1
    (joined (lasts o.tail t (note part o.tail port k r.0)) (is (note part o.tail port k r.0)) x.2 (of_its_pair o table z (note part o.tail port k r.0) p bends r.3)))

pub is_held_tells : PairsAreOfNotes → SoundPortsAreAimed → (o : Options) (table : Targets) (es : List MidiEvent) (z c : ℕ) (q : ℤ)
    → bends_notes o.route ≡ true → AreInOrder 0 es
    → IsFaultless o table es → pair_holds o table es (pair_on z c q) ≡ is_held o table es (pair_on z c q)
is_held_tells of_notes sound o table es z c q bends order faultless = held_tells of_notes o table es z c q bends (aimed sound o table es z bends order faultless)

-- ---- what sounds

-- ticks never fall
later_tick : (port : PortEvents) → AreTimed port → (j k : ℕ) → j ≤ k → port.tick j ≤ port.tick k
later_tick port timed j zero le = (let e : j ≡ 0 = omega (arith, le) in subst (λ i. port.tick i ≤ port.tick 0) (sym e) (omega arith))
later_tick port timed j (suc k) le = elim (cases_lt k j) [
  | inl l ↦ (let e : j ≡ suc k = omega (arith, le, l) in subst (λ i. port.tick i ≤ port.tick (suc k)) (sym e) (omega arith))
  | inr l ↦ (let a = later_tick port timed j k l in let b = timed.order k in omega (arith, a, b))
]

-- without a tail what holds sounds
holds_sounding : (part : ℕ → Bool) (port : PortEvents) (k i : ℕ) → AreTimed port → SoundsOrRests part 0 port k i → SoundsAt part port k i
holds_sounding part port k i timed (inl s) = s
holds_sounding part port k i timed (inr r) =
    absurd (let a = later_tick port timed (suc r.0) k (let by = r.1.by in omega (arith, by)) in let b = r.1.in_time in omega (arith, a, b))

pub is_sounding_tells : PairsAreOfNotes → SoundPortsAreAimed → NotesHoldAsWritten → MusicAtAPosition
    → (o : Options) (table : Targets) (es : List MidiEvent) (z c : ℕ) (q : ℤ)
    → bends_notes o.route ≡ true → AreInOrder 0 es → IsFaultless o table es
    → pair_sounds o table es (pair_on z c q) ≡ is_sounding o table es (pair_on z c q)
is_sounding_tells of_notes sound written at o table es z c q bends order faultless =
    let p = pair_on z c q in
    let port = port_at es z in
    let part = is_part o in
    let k = length es in
    let is = is_of_pair o table p in
    let aims = aimed sound o table es z bends order faultless in
    let pairs = of_notes (restless o) part table port k (record { timed = aims.timed; aimed = aims.aimed }) in
    sym (sounds_among at o table es p)
    ∙ both (any_note (λ n. sounds n && is n) (notes part 0 port k)) (is_sounding o table es p)
    (λ h. let r = place_of (λ n. sounds n && is n) (notes part 0 port k) h in
    let x = parts (sounds (note part 0 port k r.0)) (is (note part 0 port k r.0)) r.2 in
    subst (λ (d : Pair). is_member is_same_pair (pairs_at (restless o) part table port k) d ≡ true) (its_pair o table z c q (note part 0 port k r.0) bends x.1)
    (pairs.all k r.0 (omega arith) r.1 ((written part 0 port aims.timed k r.0).1 (inl (r.1, x.0)))))
    (λ h. let r = pairs.each k p (omega arith) h in
    let s = holds_sounding part port k r.0 aims.timed ((written part 0 port aims.timed k r.0).0 r.2) in
    note_at (λ n. sounds n && is n) (notes part 0 port k) r.0 s.0
    (joined (sounds (note part 0 port k r.0)) (is (note part 0 port k r.0)) s.1 (of_its_pair o table z (note part 0 port k r.0) p bends r.3)))

-- ---- kept drums

kept_apart : (o : Options) (table : Targets) (z c : ℕ) (q : ℤ) (n : Note) → is_part o c ≡ false → is_part o n.channel ≡ true
    → is_of_pair o table (pair_on z c q) n ≡ false
kept_apart o table z c q n is part = pick (nat_eq n.channel c) (eqb-true n.channel c)
  where
    pick : (b : Bool) → (b ≡ true → n.channel ≡ c) → (b && int_eq (steps_in o table n) q) ≡ false
    pick true same = absurd (let e : true ≡ false = sym part ∙ (ap (is_part o) (same refl) ∙ is) in cc)
    pick false same = refl

filtered : (f g : Note → Bool) (ns : List Note) → ((n : Note) → f n ≡ true → g n ≡ false) → any_note g (filter f ns) ≡ false
filtered f g [] h = refl
filtered f g (n ∷ ns) h = pick (f n) refl (filtered f g ns h)
  where
    pick : (b : Bool) → f n ≡ b → any_note g (filter f ns) ≡ false → any_note g (cond b (n ∷ filter f ns) (filter f ns)) ≡ false
    pick true e rest = ap (λ b. b || any_note g (filter f ns)) (h n e) ∙ rest
    pick false e rest = rest

-- no pair of theirs holds
pub unheld : (o : Options) (table : Targets) (es : List MidiEvent) (z c : ℕ) (q : ℤ) → is_part o c ≡ false
    → pair_holds o table es (pair_on z c q) ≡ false
unheld o table es z c q is =
    let is_its = is_of_pair o table (pair_on z c q) in
    let k = length es in
    let ns = notes_at (is_part o) (of_port z es) k in
    let past = past_at (is_part o) (of_port z es) k in
    let none : any_note is_its ns ≡ false = filtered (λ n. is_part o n.channel) is_its (music_at (of_port z es) k).notes (λ n part. kept_apart o table z c q n is part) in
    both (pair_holds o table es (pair_on z c q)) false
    (λ h. let l = any_filter is_its (lasts o.tail (tick_to es k)) (drop past ns) in
    let r = place_behind (λ n. lasts o.tail (tick_to es k) n && is_its n) past ns (sym l ∙ h) in
    sym none ∙ note_at is_its ns r.0 r.2 (parts (lasts o.tail (tick_to es k) (get_or ns r.0 nobody)) (is_its (get_or ns r.0 nobody)) r.3).1)
    (λ h. absurd cc)

pub unheld_pair : PairsAreOfNotes → SoundPortsAreAimed → (o : Options) (table : Targets) (es : List MidiEvent) (z c : ℕ) (q : ℤ)
    → bends_notes o.route ≡ true → AreInOrder 0 es
    → IsFaultless o table es → is_part o c ≡ false → is_held o table es (pair_on z c q) ≡ false
unheld_pair of_notes sound o table es z c q bends order faultless is = sym (is_held_tells of_notes sound o table es z c q bends order faultless) ∙ unheld o table es z c q is
