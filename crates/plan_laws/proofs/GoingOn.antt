-- The pairs of a port after an event, by those before it.
use Rattle.std.proofs.Common.{◌≡◌, ◌≤◌, ◌<◌, ◌∙◌, ℕ, zero, suc, List, [], ◌∷◌, ◌++◌, Bool, true, false, ◌&&◌, ◌||◌, length, refl, sym, ap, arith, filter, take, inl, inr}
use Rattle.std.specs.Prelude.{◌⊎◌}
use Rattle.std.specs.List.{AllByRecursion}
use Rattle.std.specs.Set.{is_member}
use Rattle.std.proofs.lemmas.Bool.{or_cases, or_left, or_right, and_parts, and_from}
use Rattle.mt_base.specs.Midi.{MidiEvent}
use Rattle.retune_model.specs.Options.{Options}
use Rattle.retune_model.specs.Ports.{PortEvents, Numbered, with_event}
use Rattle.retune_model.specs.Faults.{Targets, is_part}
use Rattle.retune_model.specs.Pairs.{Pair, is_same_pair}
use Rattle.retune_model.specs.Rests.{pairs_at, begun_at, IsAimedPort}
use Rattle.retune_model.specs.RestLaws.{HeldWasThere, HeldOrBegun, BegunIsThere, PartsWithin, PairsAreOfNotes}
use Rattle.retune_model.specs.PairOrder.{AreOrdered, PairsAreOrdered, OrderedAreTheSame, WithOneMore, ThatPass, HasOneMore, HasThatPass}
use Rattle.retune_model.specs.PortNeed.{AreParts}
use Rattle.plan_laws.specs.Counting.{ComesAt, with_each}

-- ---- the events up to a position

pub length_taken : (es : List MidiEvent) (k : ℕ) → k ≤ length es → length (take k es) ≡ k
length_taken es zero le = refl
length_taken [] (suc k) le = absurd (omega (arith, le))
length_taken (e ∷ es) (suc k) le = ap suc (length_taken es k (omega (arith, le)))

pub taken_next : (es : List MidiEvent) (k : ℕ) (e : MidiEvent) → ComesAt es k e → (take (suc k) es ≡ take k es ++ e ∷ []) × (length (take k es) ≡ k) × (k < length es)
taken_next [] zero e h = absurd cc
taken_next [] (suc k) e h = absurd cc
taken_next (x ∷ es) zero e h = (ap (λ xs. head_or x xs ∷ []) h, refl, omega arith)
  where
    head_or : MidiEvent → List MidiEvent → MidiEvent
    head_or d [] = d
    head_or d (y ∷ ys) = y
taken_next (x ∷ es) (suc k) e h =
    let r = taken_next es k e h in
    let l : k < length es = r.2 in
    (ap (λ xs. x ∷ xs) r.0, ap suc r.1, omega (arith, l))

-- ---- the laws that are taken

pub record Laws : Type 0 where
  pub within : HeldWasThere
  pub next : HeldOrBegun
  pub begun : BegunIsThere
  pub some : PartsWithin
  pub notes : PairsAreOfNotes
  pub ordered : PairsAreOrdered
  pub same : OrderedAreTheSame
  pub more : WithOneMore
  pub pass : ThatPass
  pub has_more : HasOneMore
  pub has_pass : HasThatPass

pub laws : HeldWasThere → HeldOrBegun → BegunIsThere → PartsWithin → PairsAreOfNotes → PairsAreOrdered → OrderedAreTheSame → WithOneMore → ThatPass → HasOneMore → HasThatPass → Laws
laws within next begun some notes ordered same more pass has_more has_pass = record {
  within = within;
  next = next;
  begun = begun;
  some = some;
  notes = notes;
  ordered = ordered;
  same = same;
  more = more;
  pass = pass;
  has_more = has_more;
  has_pass = has_pass;
}

abbrev Has : List Pair → Pair → Type 0
Has ps p = is_member is_same_pair ps p ≡ true

-- ---- with others that begin

each_ordered : Laws → (bs ps : List Pair) → AreOrdered ps → AreOrdered (with_each bs ps)
each_ordered L [] ps h = h
each_ordered L (b ∷ bs) ps h = L.more b (with_each bs ps) (each_ordered L bs ps h)

each_has : Laws → (bs ps : List Pair) (p : Pair) → Has (with_each bs ps) p → (is_member is_same_pair bs p ≡ true) ⊎ Has ps p
each_has L [] ps p h = inr h
each_has L (b ∷ bs) ps p h = elim (or_cases (is_same_pair p b) (is_member is_same_pair (with_each bs ps) p) (sym (L.has_more b p (with_each bs ps)) ∙ h)) [
  | inl e ↦ inl (or_left (is_same_pair p b) (is_member is_same_pair bs p) e)
  | inr e ↦ elim (each_has L bs ps p e) [ inl f ↦ inl (or_right (is_same_pair p b) (is_member is_same_pair bs p) f) | inr f ↦ inr f ]
]

each_from : Laws → (bs ps : List Pair) (p : Pair) → (is_member is_same_pair bs p ≡ true) ⊎ Has ps p → Has (with_each bs ps) p
each_from L [] ps p (inl h) = absurd cc
each_from L [] ps p (inr h) = h
each_from L (b ∷ bs) ps p h = L.has_more b p (with_each bs ps) ∙ join (split h (λ x. each_from L bs ps p x))
  where
    split : (is_member is_same_pair (b ∷ bs) p ≡ true) ⊎ Has ps p → ((is_member is_same_pair bs p ≡ true) ⊎ Has ps p → Has (with_each bs ps) p)
        → (is_same_pair p b ≡ true) ⊎ Has (with_each bs ps) p
    split (inl x) later = elim (or_cases (is_same_pair p b) (is_member is_same_pair bs p) x) [ inl e ↦ inl e | inr e ↦ inr (later (inl e)) ]
    split (inr x) later = inr (later (inr x))

    join : (is_same_pair p b ≡ true) ⊎ Has (with_each bs ps) p → (is_same_pair p b || is_member is_same_pair (with_each bs ps) p) ≡ true
    join (inl x) = or_left (is_same_pair p b) (is_member is_same_pair (with_each bs ps) p) x
    join (inr x) = or_right (is_same_pair p b) (is_member is_same_pair (with_each bs ps) p) x

-- a pair of a part that counts, among those of the parts that count and among all
pub own_within : HasThatPass → (p : Pair) (all own : List Pair) (part : ℕ → Bool) → filter (λ (q : Pair). part q.part.channel) all ≡ own → part p.part.channel ≡ true
    → is_member is_same_pair own p ≡ is_member is_same_pair all p
own_within has_pass p all own part same counts =
    sym (ap (λ qs. is_member is_same_pair qs p) same)
    ∙ (has_pass (λ (q : Pair). part q.part.channel) p all ∙ (ap (λ b. is_member is_same_pair all p && b) counts ∙ with_true (is_member is_same_pair all p)))
  where
    with_true : (a : Bool) → (a && true) ≡ a
    with_true true = refl
    with_true false = refl

-- ---- at one port

module _ (L : Laws) (o : Options) (part : ℕ → Bool) (table : Targets) (port : PortEvents) (parts : AreParts o part) (aimed : IsAimedPort o (is_part o) table port) where
  -- of all parts, and of those that count
  pub has_all : (k : ℕ) (p : Pair) → Has (pairs_at o part table port k) p → Has (pairs_at o (is_part o) table port k) p × (part p.part.channel ≡ true)
  has_all k p h =
      let all : List Pair = pairs_at o (is_part o) table port k in
      let same = L.some o (is_part o) part table port aimed.timed parts k in
      and_parts (is_member is_same_pair all p) (part p.part.channel) (sym (L.has_pass (λ (q : Pair). part q.part.channel) p all) ∙ (ap (λ qs. is_member is_same_pair qs p) same ∙ h))

  pub has_own : (k : ℕ) (p : Pair) → Has (pairs_at o (is_part o) table port k) p → part p.part.channel ≡ true → Has (pairs_at o part table port k) p
  has_own k p h g =
      let all : List Pair = pairs_at o (is_part o) table port k in
      let same = L.some o (is_part o) part table port aimed.timed parts k in
      sym (ap (λ qs. is_member is_same_pair qs p) same) ∙ (L.has_pass (λ (q : Pair). part q.part.channel) p all ∙ and_from (is_member is_same_pair all p) (part p.part.channel) h g)

  pub of_port : (k : ℕ) (p : Pair) → Has (pairs_at o (is_part o) table port k) p → p.part.port ≡ port.number
  of_port k p h = let x = (L.notes o (is_part o) table port k aimed).each k p (omega arith) h in ap (λ (q : Pair). q.part.port) (sym x.3)

  -- The pairs after an event, where `holds` says which hold then.
  pub goes_on : IsAimedPort o part table port → (k : ℕ) (holds : Pair → Bool) → ((p : Pair) → p.part.port ≡ port.number → holds p ≡ is_member is_same_pair (pairs_at o (is_part o) table port (suc k)) p)
      → pairs_at o part table port (suc k) ≡ with_each (begun_at o part table port (suc k)) (filter holds (pairs_at o part table port k))
  goes_on own k holds told =
      L.same (pairs_at o part table port (suc k)) (with_each (begun_at o part table port (suc k)) (filter holds (pairs_at o part table port k)))
      (L.ordered o part table port (suc k))
      (each_ordered L (begun_at o part table port (suc k)) (filter holds (pairs_at o part table port k)) (L.pass holds (pairs_at o part table port k) (L.ordered o part table port k)))
      forward back
    where
      kept : (p : Pair) → is_member is_same_pair (filter holds (pairs_at o part table port k)) p ≡ (is_member is_same_pair (pairs_at o part table port k) p && holds p)
      kept p = L.has_pass holds p (pairs_at o part table port k)

      forward : (p : Pair) → Has (pairs_at o part table port (suc k)) p → Has (with_each (begun_at o part table port (suc k)) (filter holds (pairs_at o part table port k))) p
      forward p h = each_from L (begun_at o part table port (suc k)) (filter holds (pairs_at o part table port k)) p (elim (L.next o part table port own k p h) [
        | inl e ↦ (let all = has_all (suc k) p h in
            inr (kept p ∙ and_from (is_member is_same_pair (pairs_at o part table port k) p) (holds p) (L.within o part table port own k p e) (told p (of_port (suc k) p all.0) ∙ all.0)))
        | inr e ↦ inl e
      ])

      back : (p : Pair) → Has (with_each (begun_at o part table port (suc k)) (filter holds (pairs_at o part table port k))) p → Has (pairs_at o part table port (suc k)) p
      back p h = elim (each_has L (begun_at o part table port (suc k)) (filter holds (pairs_at o part table port k)) p h) [
        | inl e ↦ L.begun o part table port own k p e
        | inr e ↦
            let two = and_parts (is_member is_same_pair (pairs_at o part table port k) p) (holds p) (sym (kept p) ∙ e) in
            let all = has_all k p two.0 in
            has_own (suc k) p (sym (told p (of_port k p all.0)) ∙ two.1) all.1
      ]

-- ---- the event that comes

-- what is so of each event of a port, is so of the last of a list, where it is of the port
pub last_of : (P : Numbered → Type 0) (xs : List Numbered) (n : Numbered) → AllByRecursion P (xs ++ n ∷ []) → P n
last_of P [] n h = h.0
last_of P (x ∷ xs) n h = last_of P xs n h.1

-- an event is of its own port
pub own_event : (b : Bool) → b ≡ true → (n : Numbered) → with_event b n [] ≡ n ∷ []
own_event true e n = refl
own_event false e n = absurd cc
