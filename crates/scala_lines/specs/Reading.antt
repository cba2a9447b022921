-- Reading a text line by line up to its first fault, and what a program's reader answers: what all such readers share.
use Rattle.std.specs.Prelude.{ℕ, ◌≡◌, ◌⊎◌, List, Option, Some, None, Result, Ok, Err}
use Rattle.scala_lines.specs.Lines.{Numbered}

-- ---- reading

-- a line and the kind of its fault
pub record Fault (K : Type 0) : Type 0 where
  pub line : ℕ
  pub kind : K

abbrev pub fault : {K A : Type 0} → ℕ → K → Result A (Fault K)
fault line kind = Err (record { line = line; kind = kind })

-- a step, and then the next one, unless the first has a fault
infixl 10 ◌>>=◌
abbrev pub ◌>>=◌ : {K A B : Type 0} → Result A (Fault K) → (A → Result B (Fault K)) → Result B (Fault K)
(Ok x) >>= f = f x
(Err e) >>= f = Err e

-- a fault on this line, where there is one
abbrev pub on_line : {K A : Type 0} → ℕ → Result A K → Result A (Fault K)
on_line line (Ok x) = Ok x
on_line line (Err kind) = fault line kind

-- ---- what a text is: relations for its value and for its first fault

-- Each text has one value or one first fault, and never both.
pub record HasOneAnswer {V K : Type 0} (IsValue : V → Type 0) (IsFault : ℕ → K → Type 0) : Type 0 where
  pub either : ((v : V) × IsValue v) ⊎ ((line : ℕ) × ((kind : K) × IsFault line kind))
  pub never_both : (v : V) (line : ℕ) (kind : K) → IsValue v → IsFault line kind → ⊥
  pub one_value : (v w : V) → IsValue v → IsValue w → v ≡ w
  pub one_fault : (a b : ℕ) (j k : K) → IsFault a j → IsFault b k → (a ≡ b) × (j ≡ k)

-- ---- what a program's reader answers, whose faults are seen as a line and a kind, or None where memory ran out

abbrev pub Fails : {K A : Type 0} → Option (Fault K) → Result A (Fault K) → Type 0
Fails (Some f) read = read ≡ Err f
Fails None read = Unit {0}

-- What a function answered, seen by view, is what reading gives, unless memory ran out.
abbrev pub Gives : {X A E K : Type 0} → (E → Option (Fault K)) → (X → A) → Result X E → Result A (Fault K) → Type 0
Gives seen view (Ok x) read = read ≡ Ok (view x)
Gives seen view (Err e) read = Fails (seen e) read

-- The same with the lines that are left behind it.
abbrev pub GivesBefore : {X A E K : Type 0} → (E → Option (Fault K)) → (X → A) → Result X E → List Numbered
    → Result (A × List Numbered) (Fault K) → Type 0
GivesBefore seen view (Ok x) rest read = read ≡ Ok (view x, rest)
GivesBefore seen view (Err e) rest read = Fails (seen e) read

-- What it may answer for a text that has this value: it, unless memory ran out.
abbrev pub Answers : {A E K : Type 0} → (E → Option (Fault K)) → Result A E → A → Type 0
Answers seen (Ok x) v = x ≡ v
Answers seen (Err e) v = seen e ≡ None

-- the fault, unless memory ran out, is on this line and of this kind
abbrev pub IsAt : {K : Type 0} → Option (Fault K) → ℕ → K → Type 0
IsAt (Some f) line kind = (f.line ≡ line) × (f.kind ≡ kind)
IsAt None line kind = Unit {0}

-- What it may answer for a text with this fault: it, unless memory ran out.
abbrev pub AnswersFault : {A E K : Type 0} → (E → Option (Fault K)) → Result A E → ℕ → K → Type 0
AnswersFault seen (Ok x) line kind = ⊥
AnswersFault seen (Err e) line kind = IsAt (seen e) line kind

-- The fault is the text's, unless memory ran out.
abbrev pub IsFaultOf : {K : Type 0} → (ℕ → K → Type 0) → Option (Fault K) → Type 0
IsFaultOf IsFault (Some f) = IsFault f.line f.kind
IsFaultOf IsFault None = Unit {0}
