-- No valid assignment has fewer channels than there are pairs at any position.
use Rattle.std.proofs.Common.{◌≡◌, ℕ, ◌<◌, ◌≤◌, Bool, true, List, [], ◌∷◌, length, map, refl, sym, ap, ◌∙◌, subst, arith, nat_eq}
use Rattle.std.proofs.lemmas.List.{length-map}
use Rattle.std.specs.Bool.{Decides}
use Rattle.std.specs.Cmp.{nat_eq_equiv}
use Rattle.std.specs.List.{IsDistinct, AllByRecursion, range_with_len}
use Rattle.std.specs.Set.{unique_keys}
use Rattle.std.proofs.lemmas.Bool.Decides.{Decides-eqb}
use Rattle.std.proofs.lemmas.Map.Made.{length-le_from_is_member}
use Rattle.retune_model.specs.Need.{ArePairs, IsValid, channels_used}
use Rattle.retune_model.proofs.Lists.{all_from_members, distinct_map, member_unique, member_below}

-- a note for each pair
picks : {K : Type 0} (pair : ℕ → K) (P : ℕ → Type 0) (ps : List K) → AllByRecursion (λ p. (i : ℕ) × P i × (pair i ≡ p)) ps → (is : List ℕ) × (map pair is ≡ ps) × AllByRecursion P is
picks pair P [] h = ([], refl, tt)
picks {K} pair P (p ∷ ps) h =
    let rest = picks pair P ps h.1 in
    (h.0.0 ∷ rest.0, subst (λ (x : K). (pair h.0.0 ∷ map pair rest.0) ≡ (x ∷ ps)) h.0.2 (ap (λ (w : List K). pair h.0.0 ∷ w) rest.1), (h.0.1, rest.2))

all_weaker : {K : Type 0} (P Q : K → Type 0) → ((x : K) → P x → Q x) → (xs : List K) → AllByRecursion P xs → AllByRecursion Q xs
all_weaker P Q f [] h = tt
all_weaker P Q f (x ∷ xs) h = (f x h.0, all_weaker P Q f xs h.1)

pub fewest : {K : Type 0} (eq : K → K → Bool) → ((a b : K) → Decides (eq a b) (a ≡ b)) →
    (holds : ℕ → ℕ → Bool) (pair : ℕ → K) (notes : ℕ) (at : ℕ → List K) (last : ℕ) → ArePairs eq holds pair notes at last →
    (channel : ℕ → ℕ) → IsValid holds pair notes last channel → (k : ℕ) → k ≤ last → length (at k) ≤ channels_used channel notes
fewest {K} eq same holds pair notes at last pairs channel valid k low =
    let Good : ℕ → Type 0 = λ i. (i < notes) × (holds k i ≡ true) in
    let chosen = picks pair Good (at k) (all_from_members eq same (λ p. (i : ℕ) × Good i × (pair i ≡ p)) (at k) (λ p m. let e = pairs.each k p low m in (e.0, (e.1, e.2), e.3))) in
    let apart = distinct_map eq same Good channel pair (λ i j g h. valid.one_pair k i j low g.0 h.0 g.1 h.1) chosen.0 chosen.2
    (subst (λ (xs : List K). IsDistinct eq xs) (sym chosen.1) (pairs.once k low)) in
    let few = length-le_from_is_member nat_eq_equiv (map channel chosen.0) (unique_keys nat_eq (map channel (range_with_len 0 notes))) apart
    (λ q m. member_unique nat_eq Decides-eqb (map channel (range_with_len 0 notes)) q (member_below channel notes chosen.0 q (all_weaker Good (λ i. i < notes) (λ i g. g.0) chosen.0 chosen.2) m)) in
    let same_length : length chosen.0 ≡ length (at k) = sym (length-map chosen.0 pair) ∙ ap length chosen.1 in
    let same_length2 : length (map channel chosen.0) ≡ length chosen.0 = length-map chosen.0 channel in
    omega (arith, few, same_length, same_length2)
