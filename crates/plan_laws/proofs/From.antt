-- The states from which runs are brought.
use Rattle.std.proofs.Common.{◌≡◌, ◌≤◌, ◌<◌, ◌+◌, ◌⊎◌, ℕ, zero, suc, pos, ◌+ℤ◌, List, [], ◌∷◌, Bool, true, false, cond, Option, Some, None, length, drop, get_or, max, refl, sym, ap, ◌∙◌, subst, nat_eq, nat_lt, nat_le, arith, inl, inr}
use Rattle.std.specs.Set.{is_member}
use Rattle.std.proofs.lemmas.Bool.{cases_lt, both_ways, or_right, and_parts, false_from_ne_true, leb-true, ltb-true, lt-ltb}
use Rattle.midi_model.specs.Notes.{Note, sounds}
use Rattle.midi_model.specs.Channel.{State, default_state}
use Rattle.midi_model.specs.Bring.{bring}
use Rattle.retune_model.specs.Options.{Options, restless}
use Rattle.retune_model.specs.Ports.{PortEvents, AreTimed, music_at, is_reset_at}
use Rattle.retune_model.specs.Faults.{Targets, is_part}
use Rattle.retune_model.specs.Pairs.{Pair, is_same_pair}
use Rattle.retune_model.specs.Rests.{nobody, notes_at, past_at, is_within_tail, pairs_at, held_at, holds_at, pair_of, IsAimedPort, SoundsAt}
use Rattle.retune_model.specs.RestLaws.{NotesHoldAsWritten, PairsAreHeldAsWritten, PairsAreOfNotes, OneRunBegins, ResetsEndAll, HeldIsThere, LastEndsTell, EndsAreKept, since_reset}
use Rattle.retune_model.specs.LastEnds.{later_end, latest_end, last_end, has_ended}
use Rattle.retune_model.specs.RunLaws.{PairsAreTold}
use Rattle.channel_model.specs.Choice.{wanted, bend_value, on_place, pair_on, last_or, last_on, left_state, from_state, held_until, member_bend, member_setup}
use Rattle.plan_laws.specs.Placing.{Has, place_at}
use Rattle.plan_laws.specs.PlacingLaws.{IsLeftAlone}
use Rattle.plan_laws.specs.FromLaws.{bent_by, member_state, member_from}
use Rattle.plan_laws.proofs.Placing.{on_found}

-- ---- what was on a place last

last_kept : (reset : ℕ → Bool) (at : ℕ → List Pair) (row : ℕ → ℕ) (c k : ℕ) → reset (suc k) ≡ false → pair_on at row c (suc k) ≡ None
    → last_on reset at row c (suc k) ≡ last_on reset at row c k
last_kept reset at row c k r h =
    ap (λ x. last_or (suc k) x (reset (suc k)) (last_on reset at row c k)) h ∙ ap (λ b. last_or (suc k) None b (last_on reset at row c k)) r

last_gone : (reset : ℕ → Bool) (at : ℕ → List Pair) (row : ℕ → ℕ) (c k : ℕ) → reset (suc k) ≡ true → pair_on at row c (suc k) ≡ None
    → last_on reset at row c (suc k) ≡ None
last_gone reset at row c k r h =
    ap (λ x. last_or (suc k) x (reset (suc k)) (last_on reset at row c k)) h ∙ ap (λ b. last_or (suc k) None b (last_on reset at row c k)) r

last_here : (reset : ℕ → Bool) (at : ℕ → List Pair) (row : ℕ → ℕ) (c k : ℕ) (p : Pair) → at 0 ≡ [] → pair_on at row c k ≡ Some p
    → last_on reset at row c k ≡ Some (k, p)
last_here reset at row c zero p none h = let e : None ≡ Some p = sym (ap (on_place (place_at at row 0) c) none) ∙ h in absurd cc
last_here reset at row c (suc k) p none h = ap (λ x. last_or (suc k) x (reset (suc k)) (last_on reset at row c k)) h

-- ---- members

pub member_alone : (port : PortEvents) (at : ℕ → List Pair) (row : ℕ → ℕ) (k : ℕ) → is_reset_at port.events (suc k) ≡ false
    → IsLeftAlone at row (member_from port at row) k
member_alone port at row k r c h = ap (λ x. bent_by (member_bend x)) (last_kept (is_reset_at port.events) at row c k r h)

pub member_cleared : (port : PortEvents) (at : ℕ → List Pair) (row : ℕ → ℕ) (k c : ℕ) → is_reset_at port.events (suc k) ≡ true → at (suc k) ≡ []
    → member_from port at row c (suc k) ≡ default_state
member_cleared port at row k c r none = ap (λ x. bent_by (member_bend x)) (last_gone (is_reset_at port.events) at row c k r (ap (on_place (place_at
    at row (suc k)) c) none))

pub member_leaves : (port : PortEvents) (at : ℕ → List Pair) (row : ℕ → ℕ) (k c : ℕ) (p : Pair) → at 0 ≡ [] → pair_on at row c k ≡ Some p
    → member_from port at row c k ≡ member_state p
member_leaves port at row k c p none h = ap (λ x. bent_by (member_bend x)) (last_here (is_reset_at port.events) at row c k p none h)

one_bend : (a b : ℕ) → cond (nat_eq a b) 0 1 ≡ length (bring 0 (bent_by a) (bent_by b))
one_bend a b = pick (nat_eq a b) refl
  where
    pick : (t : Bool) → nat_eq a b ≡ t → cond (nat_eq a b) 0 1 ≡ length (bring 0 (bent_by a) (bent_by b))
    pick true e = rw e refl
    pick false e = rw e refl

pub member_costs : (port : PortEvents) (at : ℕ → List Pair) (row : ℕ → ℕ) (k c : ℕ) (p : Pair)
    → member_setup port at row p c k ≡ length (bring 0 (member_from port at row c k) (member_state p))
member_costs port at row k c p = one_bend (member_bend (last_on (is_reset_at port.events) at row c k)) (bend_value (pos 8192 +ℤ p.steps))

-- ---- bend

abbrev sets : Options → Targets → PortEvents → ℕ → List Pair
sets o table port = pairs_at o (is_part o) table port

abbrev left_by : Options → Targets → PortEvents → Option (ℕ × Pair) → State
left_by o table port x = left_state o table port (held_at o (is_part o) table port) x

pub bend_alone : (o : Options) (table : Targets) (port : PortEvents) (row : ℕ → ℕ) (k : ℕ) → is_reset_at port.events (suc k) ≡ false
    → IsLeftAlone (pairs_at o (is_part o) table port) row (from_state o table port row) k
bend_alone o table port row k r c h = ap (left_by o table port) (last_kept (is_reset_at port.events) (sets o table port) row c k r h)

pub bend_cleared : ResetsEndAll → (o : Options) (table : Targets) (port : PortEvents) (row : ℕ → ℕ) (k c : ℕ)
    → is_reset_at port.events (suc k) ≡ true → from_state o table port row c (suc k) ≡ default_state
bend_cleared ends o table port row k c r =
    ap (left_by o table port) (last_gone (is_reset_at port.events) (sets o table port) row c k r (ap (on_place (place_at (sets o table port) row
    (suc k)) c) (ends o (is_part o) table port k r)))

-- ---- what is held goes on holding, where notes rest

-- one of two ends is late enough
later_within : (tail t : ℕ) (a b : Option ℕ) → (is_within_tail tail t a ≡ true) ⊎ (is_within_tail tail t b ≡ true)
    → is_within_tail tail t (later_end a b) ≡ true
later_within tail t None b (inl h) = absurd cc
later_within tail t None b (inr h) = h
later_within tail t (Some a) None (inl h) = h
later_within tail t (Some a) None (inr h) = absurd cc
later_within tail t (Some a) (Some b) (inl h) = (let l : t < a + tail = ltb-true t (a + tail) h in lt-ltb t (max a b + tail) (omega arith))
later_within tail t (Some a) (Some b) (inr h) = (let l : t < b + tail = ltb-true t (b + tail) h in lt-ltb t (max a b + tail) (omega arith))

latest_within : PairsAreTold → (z : ℕ) (o : Options) (table : Targets) (p : Pair) (tail t c : ℕ) (ns : List Note) (i : ℕ) → c ≤ i → i < length ns
    → pair_of z o table (get_or ns i nobody) ≡ p → is_within_tail tail t (get_or ns i nobody).ended ≡ true
    → is_within_tail tail t (latest_end z o table p (drop c ns)) ≡ true
latest_within told z o table p tail t c [] i l m e h = absurd (omega (arith, m))
latest_within told z o table p tail t (suc c) (n ∷ ns) zero l m e h = absurd (omega (arith, l))
latest_within told z o table p tail t (suc c) (n ∷ ns) (suc i) l m e h = latest_within told z o table p tail t c ns i (omega (arith, l)) (omega
    (arith, m)) e h
latest_within told z o table p tail t zero (n ∷ ns) zero l m e h =
    subst (λ b. is_within_tail tail t (cond b (later_end n.ended (latest_end z o table p ns)) (latest_end z o table p ns)) ≡ true) (sym ((told
    (pair_of z o table n) p).1 e))
    (later_within tail t n.ended (latest_end z o table p ns) (inl h))
latest_within told z o table p tail t zero (n ∷ ns) (suc i) l m e h =
    pick (is_same_pair (pair_of z o table n) p) (latest_within told z o table p tail t zero ns i (omega arith) (omega (arith, m)) e h)
  where
    pick : (b : Bool) → is_within_tail tail t (latest_end z o table p ns) ≡ true
        → is_within_tail tail t (cond b (later_end n.ended (latest_end z o table p ns)) (latest_end z o table p ns)) ≡ true
    pick true g = later_within tail t n.ended (latest_end z o table p ns) (inr g)
    pick false g = g

-- the laws that are used
pub record RestKit : Type 0 where
  pub told : PairsAreTold
  pub written : NotesHoldAsWritten
  pub held : PairsAreHeldAsWritten
  pub notes : PairsAreOfNotes
  pub tell : LastEndsTell
  pub kept : EndsAreKept

-- a note that sounds at a position holds at the next, where notes rest
sounding_holds : RestKit → (o : Options) (part : ℕ → Bool) (table : Targets) (port : PortEvents) (k i : ℕ) → AreTimed port → 0 < o.tail
    → is_reset_at port.events (suc k) ≡ false
    → i < length (notes_at part port.events (suc k)) → SoundsAt part port k i → holds_at part o.tail port (suc k) i ≡ true
sounding_holds kit o part table port k i timed rests no_reset there s = pick (sounds (get_or (notes_at part port.events (suc k)) i nobody)) refl
  where
    pick : (b : Bool) → sounds (get_or (notes_at part port.events (suc k)) i nobody) ≡ b → holds_at part o.tail port (suc k) i ≡ true
    pick true e = (kit.written part o.tail port timed (suc k) i).1 (inl (there, e))
    pick false e = (kit.written part o.tail port timed (suc k) i).1 (inr (
      k,
      record {
        by = omega arith;
        begun = s.0;
        sounded = s.1;
        silent = e;
        no_reset = λ l a b. (let same : l ≡ k = omega (arith, a, b) in ap (λ j. is_reset_at port.events (suc j)) same ∙ no_reset);
        in_time = omega (arith, rests);
      },
    ))

-- where notes don't rest, those that hold sound
restless_sounds : RestKit → (part : ℕ → Bool) (port : PortEvents) (k i : ℕ) → AreTimed port → holds_at part 0 port k i ≡ true
    → SoundsAt part port k i
restless_sounds kit part port k i timed h = elim ((kit.written part 0 port timed k i).0 h) [
  | inl s ↦ s
  | inr r ↦ (let late = r.1.in_time in let by = r.1.by in let l = rising (suc r.0) k (omega (arith, by)) in absurd (omega (arith, late, l)))
]
  where
    rising : (a b : ℕ) → a ≤ b → port.tick a ≤ port.tick b
    rising a zero l = (let e : a ≡ 0 = omega (arith, l) in subst (λ x. port.tick x ≤ port.tick 0) (sym e) (omega arith))
    rising a (suc b) l = elim (cases_lt b a) [
      | inl g ↦ (let e : a ≡ suc b = omega (arith, l, g) in subst (λ x. port.tick x ≤ port.tick (suc b)) (sym e) (omega arith))
      | inr g ↦ (let m = rising a b g in let n = timed.order b in omega (arith, m, n))
    ]

pub held_holds : RestKit → (o : Options) (part : ℕ → Bool) (table : Targets) (port : PortEvents) (k : ℕ) (p : Pair)
    → IsAimedPort o part table port → 0 < o.tail
    → is_reset_at port.events (suc k) ≡ false → Has (held_at o part table port (suc k)) p → Has (pairs_at o part table port (suc k)) p
held_holds kit o part table port k p aimed rests no_reset h = pick (is_member is_same_pair (pairs_at (restless o) part table port k) p) refl
  where
    restless_aimed : IsAimedPort (restless o) part table port
    restless_aimed = record { timed = aimed.timed; aimed = aimed.aimed }

    pick : (b : Bool) → is_member is_same_pair (pairs_at (restless o) part table port k) p ≡ b → Has (pairs_at o part table port (suc k)) p
    pick true e =
        let each = (kit.notes (restless o) part table port (suc k) restless_aimed).each k p (omega arith) e in
        let s = restless_sounds kit part port k each.0 aimed.timed each.2 in
        let there = (kit.notes o part table port (suc k) aimed).all (suc k) each.0 (omega arith) each.1 (sounding_holds kit o part table port k
        each.0 aimed.timed rests no_reset each.1 s) in
        subst (Has (pairs_at o part table port (suc k))) each.3 there
    pick false e =
        let x = (kit.held o part table port aimed k p).0 h in
        let ends : is_within_tail o.tail (port.tick (suc k)) (last_end o part table port k p) ≡ true = elim x.1.keeps [
          | inl s ↦ (let there = (kit.notes (restless o) part table port k restless_aimed).all k x.0 (omega arith) x.1.begun ((kit.written part 0
              port aimed.timed k x.0).1 (inl (x.1.begun, s))) in
              absurd (both_ways (is_member is_same_pair (pairs_at (restless o) part table port k) p) e (subst (Has (pairs_at (restless o) part
              table port k)) x.2 there)))
          | inr r ↦ (let past = and_parts (nat_le (past_at part port.events k) x.0) _ r.0 in
              latest_within kit.told port.number o table p o.tail (port.tick (suc k)) (past_at part port.events k) (notes_at part port.events k)
              x.0 (leb-true (past_at part port.events k) x.0 past.0) x.1.begun x.2
              (ap (is_within_tail o.tail (port.tick (suc k))) r.1.1 ∙ lt-ltb (port.tick (suc k)) (r.1.0 + o.tail) r.1.2))
        ] in
        kit.tell o part table port aimed (suc k) p ∙ or_right (is_member is_same_pair (pairs_at (restless o) part table port (suc k)) p) _
        (ap (is_within_tail o.tail (port.tick (suc k))) (kit.kept o part table port aimed.timed k p no_reset)
        ∙ by_it (has_ended port.number o table p (since_reset part port k k) (since_reset part port k (suc k))) ends)
      where
        by_it : (b : Bool) → is_within_tail o.tail (port.tick (suc k)) (last_end o part table port k p) ≡ true
            → is_within_tail o.tail (port.tick (suc k)) (cond b (Some (port.tick (suc k))) (last_end o part table port k p)) ≡ true
        by_it true g = lt-ltb (port.tick (suc k)) (port.tick (suc k) + o.tail) (omega (arith, rests))
        by_it false g = g

pub rests_before : RestKit → (o : Options) (part : ℕ → Bool) (table : Targets) (port : PortEvents) (k : ℕ) (p : Pair)
    → IsAimedPort o part table port → 0 < o.tail
    → is_reset_at port.events (suc k) ≡ false → is_member is_same_pair (pairs_at o part table port (suc k)) p ≡ false
    → is_member is_same_pair (pairs_at (restless o) part table port k) p ≡ false
rests_before kit o part table port k p aimed rests no_reset gone = false_from_ne_true (is_member is_same_pair (pairs_at (restless o) part table
    port k) p) (λ e.
    let each = (kit.notes (restless o) part table port (suc k) (record { timed = aimed.timed; aimed = aimed.aimed })).each k p (omega arith) e in
    let s = restless_sounds kit part port k each.0 aimed.timed each.2 in
    let there = (kit.notes o part table port (suc k) aimed).all (suc k) each.0 (omega arith) each.1 (sounding_holds kit o part table port k each.0
    aimed.timed rests no_reset each.1 s) in
    both_ways (is_member is_same_pair (pairs_at o part table port (suc k)) p) gone (subst (Has (pairs_at o part table port (suc k))) each.3 there))

-- without rests what is there is held at the next event
held_without : HeldIsThere → (o : Options) (table : Targets) (port : PortEvents) (k : ℕ) (p : Pair) → AreTimed port → o.tail ≡ 0
    → Has (sets o table port k) p → Has (held_at o (is_part o) table port (suc k)) p
held_without law o table port k p timed none h =
    let same : restless o ≡ o = ap (λ t. record o { tail = t }) (sym none) in
    subst (λ x. Has (held_at x (is_part x) table port (suc k)) p) same
    (subst (λ ps. Has ps p) (sym (law (restless o) (is_part (restless o)) table port timed k)) (subst (λ x. Has (pairs_at x (is_part x) table port
    k) p) (sym same) h))

pub bend_leaves : RestKit → HeldIsThere → OneRunBegins → (o : Options) (table : Targets) (port : PortEvents) (row : ℕ → ℕ) (k c : ℕ) (p : Pair)
    → IsAimedPort o (is_part o) table port
    → is_reset_at port.events (suc k) ≡ false → pair_on (pairs_at o (is_part o) table port) row c k ≡ Some p
    → is_member is_same_pair (pairs_at o (is_part o) table port (suc k)) p ≡ false
    → from_state o table port row c k ≡ wanted o table (music_at port.events (cond (nat_lt 0 o.tail) k (suc k))) p
bend_leaves kit there runs o table port row k c p aimed no_reset on gone =
    ap (left_by o table port) (last_here (is_reset_at port.events) (sets o table port) row c k p (runs o (is_part o) table port 0 aimed).none on)
    ∙ ap (λ j. wanted o table (music_at port.events j) p) (pick (nat_lt 0 o.tail) refl)
  where
    pick : (b : Bool) → nat_lt 0 o.tail ≡ b → held_until (held_at o (is_part o) table port) k p ≡ cond b k (suc k)
    pick true e =
        let no : is_member is_same_pair (held_at o (is_part o) table port (suc k)) p ≡ false = false_from_ne_true (is_member is_same_pair (held_at
        o (is_part o) table port (suc k)) p)
        (λ h. both_ways (is_member is_same_pair (sets o table port (suc k)) p) gone (held_holds kit o (is_part o) table port k p aimed
        (ltb-true 0 o.tail e) no_reset h)) in
        ap (λ b. cond b (suc k) k) no
    pick false e =
        let none : o.tail ≡ 0 = elim (cases_lt 0 o.tail) [
          | inl l ↦ absurd (both_ways (nat_lt 0 o.tail) e (lt-ltb 0 o.tail l))
          | inr l ↦ omega
              (arith, l)
        ] in
        let m = (on_found kit.told (place_at (sets o table port) row k) c (sets o table port k) p on).0 in
        ap (λ b. cond b (suc k) k) (held_without there o table port k p aimed.timed none m)
