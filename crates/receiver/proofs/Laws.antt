-- How a list of parameters is looked into, and the laws of parameters, which `parameter_laws` states, as one premise.
use Rattle.std.proofs.Common.{◌≡◌, ◌≢◌, ℕ, ◌≤◌, List, [], ◌∷◌, Bool, true, false, cond, nat_eq, refl, ap, arith, ◌⊎◌, inl, inr}
use Rattle.std.proofs.lemmas.Bool.{eq-eqb, ne_eqb}
use Rattle.midi_model.specs.Params.{Parameter, Entry, rank, default_value, value_of, IsAbove}
use Rattle.midi_model.specs.ParameterLaws.{PutGivesTheValue, PutLeavesTheOthers, PutKeepsTheForm, EqualByValues}

pub record Laws : Type 0 where
  pub given : PutGivesTheValue
  pub others : PutLeavesTheOthers
  pub form : PutKeepsTheForm
  pub equal : EqualByValues

pub laws : PutGivesTheValue → PutLeavesTheOthers → PutKeepsTheForm → EqualByValues → Laws
laws g o f e = record { given = g; others = o; form = f; equal = e }

pub either : (b : Bool) → (b ≡ true) ⊎ (b ≡ false)
either true = inl refl
either false = inr refl

-- an entry of another number is passed over
pub skip : (e : Entry) (es : List Entry) (q : Parameter) → rank e.parameter ≢ rank q → value_of (e ∷ es) q ≡ value_of es q
skip e es q h = rw (ne_eqb (rank e.parameter) (rank q) h) refl

-- one of this number gives its value
pub found : (e : Entry) (es : List Entry) (q : Parameter) → rank e.parameter ≡ rank q → value_of (e ∷ es) q ≡ e.value
found e es q h = rw (eq-eqb (rank e.parameter) (rank q) h) refl

-- a parameter before all entries has its default
pub absent : (es : List Entry) (p : Parameter) (n : ℕ) → IsAbove n es → rank p ≤ n → value_of es p ≡ default_value p
absent [] p n a h = refl
absent (e ∷ es) p n a h = rw (ne_eqb (rank e.parameter) (rank p) (λ x. omega (arith, a.0, x))) (absent es p n a.1 h)

-- the default depends on the number alone
pub standard_by : (p q : Parameter) → rank p ≡ rank q → default_value p ≡ default_value q
standard_by p q e = ap (λ n. cond (nat_eq n 0) (2, 0) (cond (nat_eq n 5) (0, 64) (64, 0))) e
