-- What is kept of each port, port by port.
use Rattle.std.proofs.Common.{◌≡◌, ◌<◌, ◌++◌, ℕ, zero, suc, Bool, true, false, cond, nat_eq, List, [], ◌∷◌, Option, Some, None, length, get_or, set, refl, ap, sym, ◌∙◌, arith}
use Rattle.std.proofs.lemmas.Bool.{eqb-true, eq-eqb, ne_eqb}
use Rattle.route_bend.specs.Standing.{found_in}
use Rattle.route_bend.specs.Preparing.{IsFoundAt}
use Rattle.route_bend.specs.declared.channels.Channels.{Channels}

-- one that stands behind others of other ports
pub found_next : (s : Channels) (ss : List Channels) (z i : ℕ) → nat_eq s.port z ≡ false → IsFoundAt ss z i → IsFoundAt (s ∷ ss) z (suc i)
found_next s ss z i other h = record {
  within = omega (arith, h.within);
  found = λ d. ap (λ b. cond b (Some s) (found_in ss z)) other ∙ h.found d;
  replaced = λ x y at. pick x y at (nat_eq s.port y) refl;
}
  where
    pick : (x : Channels) (y : ℕ) → x.port ≡ z → (b : Bool) → nat_eq s.port y ≡ b → cond (nat_eq s.port y) (Some s) (found_in (set ss i x) y)
        ≡ cond (nat_eq z y) (Some x) (cond (nat_eq s.port y) (Some s) (found_in ss y))
    pick x y at false e = ap (λ b. cond b (Some s) (found_in (set ss i x) y)) e ∙ h.replaced x y at
        ∙ sym (ap (λ b. cond (nat_eq z y) (Some x) (cond b (Some s) (found_in ss y))) e)
    pick x y at true e =
        let not : nat_eq z y ≡ false = ne_eqb z y (λ f. absurd (differ (nat_eq s.port z) other (eq-eqb s.port z (eqb-true s.port y e ∙ sym f)))) in
        ap (λ b. cond b (Some s) (found_in (set ss i x) y)) e
        ∙ sym (ap (λ b. cond b (Some x) (cond (nat_eq s.port y) (Some s) (found_in ss y))) not ∙ ap (λ b. cond b (Some s) (found_in ss y)) e)
      where
        differ : (b : Bool) → b ≡ false → b ≡ true → ⊥
        differ true f g = absurd cc
        differ false f g = absurd cc

pub found_first : (s : Channels) (ss : List Channels) (z : ℕ) → nat_eq s.port z ≡ true → IsFoundAt (s ∷ ss) z 0
found_first s ss z here = record {
  within = omega arith;
  found = λ d. ap (λ b. cond b (Some s) (found_in ss z)) here;
  replaced = λ x y at. pick x y (ap (λ n. nat_eq n y) at) (ap (λ n. nat_eq n y) (eqb-true s.port z here));
}
  where
    pick : (x : Channels) (y : ℕ) → nat_eq x.port y ≡ nat_eq z y → nat_eq s.port y ≡ nat_eq z y → cond (nat_eq x.port y) (Some x) (found_in ss y)
        ≡ cond (nat_eq z y) (Some x) (cond (nat_eq s.port y) (Some s) (found_in ss y))
    pick x y e f = ap (λ b. cond b (Some x) (found_in ss y)) e ∙ by_it (nat_eq z y) f
      where
        by_it : (b : Bool) → nat_eq s.port y ≡ b → cond b (Some x) (found_in ss y) ≡ cond b (Some x) (cond (nat_eq s.port y) (Some s) (found_in ss y))
        by_it true g = refl
        by_it false g = sym (ap (λ c. cond c (Some s) (found_in ss y)) g)

-- behind so many of other ports
pub found_behind : (ss : List Channels) (z i : ℕ) (d : Channels) → i < length ss →
    ((j : ℕ) (d : Channels) → j < i → nat_eq (get_or ss j d).port z ≡ false) →
    nat_eq (get_or ss i d).port z ≡ true → IsFoundAt ss z i
found_behind [] z i d l before here = absurd (omega (arith, l))
found_behind (s ∷ ss) z zero d l before here = found_first s ss z here
found_behind (s ∷ ss) z (suc i) d l before here =
    found_next s ss z i (before 0 d (omega arith)) (found_behind ss z i d (omega (arith, l)) (λ j e m. before (suc j) e (omega (arith, m))) here)

pub none_found : (ss : List Channels) (z : ℕ) → ((j : ℕ) (d : Channels) → j < length ss → nat_eq (get_or ss j d).port z ≡ false) →
    found_in ss z ≡ None
none_found [] z h = refl
none_found (s ∷ ss) z h = ap (λ b. cond b (Some s) (found_in ss z)) (h 0 s (omega arith)) ∙ none_found ss z (λ j d l. h (suc j) d (omega (arith, l)))

-- ---- one more

pub more_found : (ss : List Channels) (s : Channels) (z : ℕ) → found_in ss z ≡ None → found_in (ss ++ s ∷ []) z ≡ cond (nat_eq s.port z) (Some s) None
more_found [] s z h = refl
more_found (x ∷ ss) s z h = pick (nat_eq x.port z) refl h (more_found ss s z)
  where
    pick : (b : Bool) → nat_eq x.port z ≡ b → cond b (Some x) (found_in ss z) ≡ None
        → (found_in ss z ≡ None → found_in (ss ++ s ∷ []) z ≡ cond (nat_eq s.port z) (Some s) None) →
        cond (nat_eq x.port z) (Some x) (found_in (ss ++ s ∷ []) z)
        ≡ cond (nat_eq s.port z) (Some s) None
    pick true e g rest = absurd cc
    pick false e g rest = ap (λ b. cond b (Some x) (found_in (ss ++ s ∷ []) z)) e ∙ rest g

pub still_found : (ss : List Channels) (s x : Channels) (z : ℕ) → found_in ss z ≡ Some x → found_in (ss ++ s ∷ []) z ≡ Some x
still_found [] s x z h = absurd cc
still_found (y ∷ ss) s x z h = pick (nat_eq y.port z) refl h (still_found ss s x z)
  where
    pick : (b : Bool) → nat_eq y.port z ≡ b → cond b (Some y) (found_in ss z) ≡ Some x
        → (found_in ss z ≡ Some x → found_in (ss ++ s ∷ []) z ≡ Some x) → cond (nat_eq y.port z) (Some y) (found_in (ss ++ s ∷ []) z)
        ≡ Some x
    pick true e g rest = ap (λ b. cond b (Some y) (found_in (ss ++ s ∷ []) z)) e ∙ g
    pick false e g rest = ap (λ b. cond b (Some y) (found_in (ss ++ s ∷ []) z)) e ∙ rest g

pub last_found : (ss : List Channels) (s : Channels) (z : ℕ) → s.port ≡ z → found_in ss z ≡ None → IsFoundAt (ss ++ s ∷ []) z (length ss)
last_found [] s z at h = found_first s [] z (eq-eqb s.port z at)
last_found (x ∷ ss) s z at h = pick (nat_eq x.port z) refl h (last_found ss s z at)
  where
    pick : (b : Bool) → nat_eq x.port z ≡ b → cond b (Some x) (found_in ss z) ≡ None
        → (found_in ss z ≡ None → IsFoundAt (ss ++ s ∷ []) z (length ss)) → IsFoundAt (x ∷ (ss ++ s ∷ [])) z (suc (length ss))
    pick true e g rest = absurd cc
    pick false e g rest = found_next x (ss ++ s ∷ []) z (length ss) e (rest g)

-- a port is not found by another's number
pub found_port : (ss : List Channels) (z : ℕ) (s : Channels) → found_in ss z ≡ Some s → s.port ≡ z
found_port [] z s h = absurd cc
found_port (x ∷ ss) z s h = pick (nat_eq x.port z) refl h (found_port ss z s)
  where
    pick : (b : Bool) → nat_eq x.port z ≡ b → cond b (Some x) (found_in ss z) ≡ Some s → (found_in ss z ≡ Some s → s.port ≡ z) → s.port ≡ z
    pick true e g rest = let same : x ≡ s = cc in ap (λ (y : Channels). y.port) (sym same) ∙ eqb-true x.port z e
    pick false e g rest = rest g

pub others_found : (ss : List Channels) (s : Channels) (z : ℕ) → nat_eq s.port z ≡ false → found_in (ss ++ s ∷ []) z ≡ found_in ss z
others_found ss s z h = pick (found_in ss z) refl
  where
    pick : (x : Option Channels) → found_in ss z ≡ x → found_in (ss ++ s ∷ []) z ≡ found_in ss z
    pick None e = more_found ss s z e ∙ ap (λ b. cond b (Some s) None) h ∙ sym e
    pick (Some x) e = still_found ss s x z e ∙ sym e

pub last_is : (ss : List Channels) (s x : Channels) (z : ℕ) → s.port ≡ z → found_in ss z ≡ None → found_in (ss ++ s ∷ []) z ≡ Some x → s ≡ x
last_is ss s x z at none h = one (sym (more_found ss s z none ∙ ap (λ b. cond b (Some s) None) (eq-eqb s.port z at)) ∙ h)
  where
    one : Some s ≡ Some x → s ≡ x
    one e = cc
