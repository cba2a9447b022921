-- Laws of a channel's parameters, for whoever keeps a list of them: each is a sentence about giving a parameter a value.
use Rattle.std.specs.Prelude.{◌≡◌, ◌≢◌, ◌<◌, ℕ, List, [], ◌∷◌}
use Rattle.midi_model.specs.Params.{Parameter, Entry, rank, value_of, put, IsCanonical}

-- a parameter whose number is in bytes of seven bits
pub record IsSmall (p : Parameter) : Type 0 where
  pub high : p.high < 128
  pub low : p.low < 128

abbrev pub AreSmall : List Entry → Type 0
AreSmall [] = Unit {0}
AreSmall (e ∷ es) = IsSmall e.parameter × AreSmall es

-- the parameter then has the value that it was given
abbrev pub PutGivesTheValue : Type 0
PutGivesTheValue = (p : Parameter) (v : ℕ × ℕ) (es : List Entry) → IsCanonical es → value_of (put p v es) p ≡ v

-- each other parameter keeps its value
abbrev pub PutLeavesTheOthers : Type 0
PutLeavesTheOthers = (p q : Parameter) (v : ℕ × ℕ) (es : List Entry) → rank q ≢ rank p → value_of (put p v es) q ≡ value_of es q

-- the list is then still in order, each number once, with no default
abbrev pub PutKeepsTheForm : Type 0
PutKeepsTheForm = (p : Parameter) (v : ℕ × ℕ) (es : List Entry) → IsCanonical es → IsCanonical (put p v es)

-- a list is known by the values that it gives
abbrev pub EqualByValues : Type 0
EqualByValues = (a b : List Entry) → IsCanonical a → IsCanonical b → AreSmall a → AreSmall b
    → ((q : Parameter) → value_of a q ≡ value_of b q) → a ≡ b
