-- How many runs begin at an event.
use Rattle.std.proofs.Common.{◌≡◌, ◌≤◌, ℕ, zero, suc, List, [], ◌∷◌, Bool, true, false, cond, not, ◌&&◌, length, filter, refl, sym, ap, ◌∙◌, subst, arith, inl, inr}
use Rattle.std.specs.List.{AllByRecursion, IsDistinct}
use Rattle.std.specs.Set.{is_member}
use Rattle.std.proofs.lemmas.Bool.{both_ways, or_cases, and_parts, false_from_ne_true}
use Rattle.mt_base.specs.Midi.{MidiEvent}
use Rattle.midi_model.specs.Order.{AreInOrder}
use Rattle.retune_model.specs.Options.{Options}
use Rattle.retune_model.specs.Ports.{port_at}
use Rattle.retune_model.specs.Faults.{Targets, is_part}
use Rattle.retune_model.specs.Pairs.{Pair, is_same_pair}
use Rattle.retune_model.specs.Rests.{begun_at}
use Rattle.retune_model.specs.RestLaws.{HeldOrBegun, HeldWasThere}
use Rattle.retune_model.specs.RunLaws.{PairsAreTold}
use Rattle.retune_model.specs.NeedLaws.{PairsStandOnce}
use Rattle.retune_model.specs.FaultLaws.{SoundPortsAreAimed}
use Rattle.retune_model.specs.Runs.{since, begins}
use Rattle.retune_model.specs.PortNeed.{AreParts, pairs_on}
use Rattle.retune_model.specs.SourceFaults.{IsSound}
use Rattle.channel_model.specs.Choice.{beginning_at}
use Rattle.plan_laws.specs.Placing.{Has}
use Rattle.plan_laws.specs.Counting.{HoldingIsThere}
use Rattle.plan_laws.specs.RunCounts.{RunIsCounted, NoRunIsCounted, NoneBeginsUnbegun, RunIsOfPart, BeginsOfPart}

-- ---- lists

none_passes : (f : Pair → Bool) (xs : List Pair) → ((q : Pair) → f q ≡ true → ⊥) → filter f xs ≡ []
none_passes f [] never = refl
none_passes f (x ∷ xs) never = ap (λ b. cond b (x ∷ filter f xs) (filter f xs)) (false_from_ne_true (f x) (never x)) ∙ none_passes f xs never

none_more : PairsAreTold → (f : Pair → Bool) (p : Pair) (xs : List Pair) → ((q : Pair) → f q ≡ true → q ≡ p)
    → AllByRecursion (λ y. is_same_pair p y ≡ false) xs → filter f xs ≡ []
none_more told f p [] only apart = refl
none_more told f p (x ∷ xs) only apart =
    ap (λ b. cond b (x ∷ filter f xs) (filter f xs)) (false_from_ne_true (f x) (λ h. both_ways (is_same_pair p x) apart.0 ((told p x).1 (sym
    (only x h)))))
    ∙ none_more told f p xs only apart.1

one_passes : PairsAreTold → (f : Pair → Bool) (p : Pair) (xs : List Pair) → ((q : Pair) → f q ≡ true → q ≡ p) → f p ≡ true
    → IsDistinct is_same_pair xs → Has xs p → length (filter f xs) ≡ 1
unfolding IsDistinct
one_passes told f p [] only here once has = absurd (both_ways false refl has)
one_passes told f p (x ∷ xs) only here once has = pick (λ m. one_passes told f p xs only here once.1 m) (f x) refl
  where
    pick : (Has xs p → length (filter f xs) ≡ 1) → (b : Bool) → f x ≡ b → length (cond b (x ∷ filter f xs) (filter f xs)) ≡ 1
    pick deeper true e = ap (λ ys. suc (length ys)) (none_more told f p xs only (subst (λ y. AllByRecursion (λ z. is_same_pair y z
        ≡ false) xs) (only x e) once.0))
    pick deeper false e = elim (or_cases (is_same_pair p x) (is_member is_same_pair xs p) has) [
      | inl same ↦ absurd (both_ways (f x) e (ap f (sym ((told p x).0 same)) ∙ here))
      | inr later ↦ deeper later
    ]

-- ---- runs

pub unbegun : SoundPortsAreAimed → HeldOrBegun → HeldWasThere → (o : Options) (part : ℕ
    → Bool) (table : Targets) (es : List MidiEvent) (z k : ℕ) (p : Pair)
    → AreParts o part → IsSound o table es → begins is_same_pair (pairs_on o part table es z) k p ≡ true
    → is_member is_same_pair (begun_at o part table (port_at es z) (suc k)) p ≡ true
unbegun aimed next was o part table es z k p parts sound h =
    let at = pairs_on o part table es z in
    let fine = aimed o part table es z parts sound in
    let both = and_parts (is_member is_same_pair (at (suc k)) p) (not (is_member is_same_pair (at k) p)) h in
    elim (next o part table (port_at es z) fine k p both.0) [
      | inl held ↦ absurd (gone (is_member is_same_pair (at k) p) both.1 (was o part table (port_at es z) fine k p held))
      | inr begun ↦ begun
    ]
  where
    gone : (b : Bool) → not b ≡ true → b ≡ true → ⊥
    gone true n t = absurd cc
    gone false n t = absurd cc

pub none_unbegun : SoundPortsAreAimed → HeldOrBegun → HeldWasThere → NoneBeginsUnbegun
none_unbegun aimed next was o part table es z k p parts sound none h =
    both_ways false refl (subst (λ (ps : List Pair). is_member is_same_pair ps p
    ≡ true) none (unbegun aimed next was o part table es z k p parts sound h))

pub no_run : SoundPortsAreAimed → HeldOrBegun → HeldWasThere → NoRunIsCounted
no_run aimed next was o table es z k sound none =
    none_passes (λ p. begins is_same_pair (pairs_on o (is_part o) table es z) k p) (pairs_on o (is_part o) table es z (suc k))
    (λ q h. none_unbegun aimed next was o (is_part o) table es z k q (λ c t. t) sound none h)

pub one_run : PairsAreTold → PairsStandOnce → SoundPortsAreAimed → HeldOrBegun → HeldWasThere → RunIsCounted
one_run told once aimed next was o table es z k p sound begun = pick (begins is_same_pair at k p) refl
  where
    at : ℕ → List Pair
    at = pairs_on o (is_part o) table es z

    only : (q : Pair) → begins is_same_pair at k q ≡ true → q ≡ p
    only q h = (elim (or_cases (is_same_pair q p) false
        (subst (λ (ps : List Pair). is_member is_same_pair ps q
        ≡ true) begun (unbegun aimed next was o (is_part o) table es z k q (λ c t. t) sound h))) [
          | inl same ↦ (told q p).0 same
          | inr later ↦ absurd (both_ways false refl later)
        ])

    pick : (b : Bool) → begins is_same_pair at k p ≡ b → length (beginning_at at k) ≡ cond b 1 0
    pick true e = one_passes told (λ q. begins is_same_pair at k q) p (at (suc k)) only e (once o (is_part o) table es z (suc k))
        (and_parts (is_member is_same_pair (at (suc k)) p) (not (is_member is_same_pair (at k) p)) e).0
    pick false e = ap length (none_passes (λ q. begins is_same_pair at k q) (at (suc k))
        (λ q h. both_ways (begins is_same_pair at k p) e (ap (λ x. begins is_same_pair at k x) (sym (only q h)) ∙ h)))

-- ---- one part

there : HoldingIsThere → (o : Options) (part : ℕ → Bool) (table : Targets) (es : List MidiEvent) (z k : ℕ) (p : Pair) → AreParts o part
    → AreInOrder 0 es
    → k ≤ length es → p.part.port ≡ z → part p.part.channel ≡ true
    → is_member is_same_pair (pairs_on o part table es z k) p ≡ is_member is_same_pair (pairs_on o (is_part o) table es z k) p
there holding o part table es z k p parts order le port h =
    ap (λ y. is_member is_same_pair (pairs_on o part table es y k) p) (sym port)
    ∙ sym (holding o part table es k p parts order le h)
    ∙ holding o (is_part o) table es k p (λ c t. t) order le (parts p.part.channel h)
    ∙ ap (λ y. is_member is_same_pair (pairs_on o (is_part o) table es y k) p) port

since_same : (at bt : ℕ → List Pair) (p : Pair) (k : ℕ) → ((j : ℕ) → j ≤ k → is_member is_same_pair (at j) p ≡ is_member is_same_pair (bt j) p)
    → since is_same_pair at p k ≡ since is_same_pair bt p k
since_same at bt p zero same = refl
since_same at bt p (suc k) same =
    ap (λ b. cond b (since is_same_pair at p k) (suc k)) (same k (omega arith))
    ∙ ap (λ n. cond (is_member is_same_pair (bt k) p) n (suc k)) (since_same at bt p k (λ j le. same j (omega (arith, le))))

pub run_of_part : HoldingIsThere → RunIsOfPart
run_of_part holding o part table es z k p parts order le port h =
    since_same (pairs_on o part table es z) (pairs_on o (is_part o) table es z) p k
    (λ j lj. there holding o part table es z j p parts order (omega (arith, lj, le)) port h)

pub begins_of_part : HoldingIsThere → BeginsOfPart
begins_of_part holding o part table es z k p parts order le port h =
    ap (λ b. b && not (is_member is_same_pair (pairs_on o part table es z k) p)) (there holding o part table es z (suc k) p parts order le port h)
    ∙ ap (λ b. is_member is_same_pair (pairs_on o (is_part o) table es z (suc k)) p && not b) (there holding o part table es z k p parts order (omega
    (arith, le)) port h)
