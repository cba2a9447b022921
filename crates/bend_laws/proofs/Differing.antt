-- At how many places a channel's controllers and parameters differ from those before a message.
use Rattle.std.proofs.Common.{◌≡◌, ◌≢◌, ◌⊎◌, ◌≤◌, ◌+◌, ℕ, zero, suc, Bool, true, false, cond, List, [], ◌∷◌, refl, ap, sym, ◌∙◌, filter, length, set, nat_eq, arith, inl, inr}
use Rattle.std.proofs.lemmas.Bool.{cases_eq, eq-eqb, and_from}
use Rattle.std.proofs.lemmas.List.{length-append, length-map}
use Rattle.mt_base.specs.declared.event.Msg.{Msg}
use Rattle.mt_base.specs.declared.event.Msg.TheVariants.{NoteOn, NoteOff, KeyPressure, Control, Program, Pressure, Bend}
use Rattle.midi_model.specs.Params.{Parameter, Entry, rank, pair_eq, default_value, value_of, rpn, put, IsCanonical}
use Rattle.midi_model.specs.ParameterLaws.{PutGivesTheValue, PutLeavesTheOthers}
use Rattle.midi_model.specs.Channel.{Channel, State, Role, Stored, EntryHigh, EntryLow, NrpnLow, NrpnHigh, RpnLow, RpnHigh, AllSoundOff, ResetControllers, AllNotesOff, Ignored, Target, Nowhere, TuningProgram, ZoneSize, Value, role, target, reset_controls, with_high, with_low, controlled, apply}
use Rattle.midi_model.specs.WellFormed.{IsWellFormed}
use Rattle.midi_model.specs.Bring.{made_default, to_default, to_other}
use Rattle.state_laws.specs.Reached.{changed}
use Rattle.state_laws.specs.Counts.{differing, differing_params, entries_of, ChangesThoseThatDiffer}

-- ---- lists

pub differing_itself : (xs : List ℕ) → differing xs xs ≡ 0
differing_itself [] = refl
differing_itself (x ∷ xs) =
    let one : cond (nat_eq x x) 0 1 + differing xs xs ≡ 0 + differing xs xs = ap (λ b. cond b 0 1 + differing xs xs) (eq-eqb x x refl) in
    omega (arith, one, differing_itself xs)

one_at_most : (b : Bool) → cond b 0 1 ≤ 1
one_at_most true = omega arith
one_at_most false = omega arith

-- where one place of the second list is set
pub differing_set : (xs ys : List ℕ) (i v : ℕ) → differing xs (set ys i v) ≤ 1 + differing xs ys
differing_set [] ys i v = omega arith
differing_set (x ∷ xs) [] i v = omega arith
differing_set (x ∷ xs) (y ∷ ys) zero v = omega (arith, one_at_most (nat_eq x v))
differing_set (x ∷ xs) (y ∷ ys) (suc i) v = omega (arith, differing_set xs ys i v)

-- of the first
pub differing_first : (xs ys : List ℕ) (i v : ℕ) → differing (set xs i v) ys ≤ 1 + differing xs ys
differing_first [] ys i v = omega arith
differing_first (x ∷ xs) [] zero v = omega arith
differing_first (x ∷ xs) [] (suc i) v = omega arith
differing_first (x ∷ xs) (y ∷ ys) zero v = omega (arith, one_at_most (nat_eq v y))
differing_first (x ∷ xs) (y ∷ ys) (suc i) v = omega (arith, differing_first xs ys i v)

-- the same place of both
pub differing_both : (xs ys : List ℕ) (i v w : ℕ) → differing (set xs i v) (set ys i w) ≤ 1 + differing xs ys
differing_both [] ys i v w = omega arith
differing_both (x ∷ xs) [] zero v w = omega arith
differing_both (x ∷ xs) [] (suc i) v w = omega arith
differing_both (x ∷ xs) (y ∷ ys) zero v w = omega (arith, one_at_most (nat_eq v w))
differing_both (x ∷ xs) (y ∷ ys) (suc i) v w = omega (arith, differing_both xs ys i v w)

reset_differs : (cs : List ℕ) → differing cs (reset_controls cs) ≤ 6
reset_differs cs =
    let a : List ℕ = set cs 1 0 in
    let b : List ℕ = set a 11 127 in
    let c : List ℕ = set b 64 0 in
    let d : List ℕ = set c 65 0 in
    let e : List ℕ = set d 66 0 in
    omega (
      arith,
      differing_itself cs,
      differing_set cs cs 1 0,
      differing_set cs a 11 127,
      differing_set cs b 64 0,
      differing_set cs c 65 0,
      differing_set cs d 66 0,
      differing_set cs e 67 0,
    )

-- ---- parameters

-- all but one have the same values
abbrev pub AlikeBut : Parameter → List Entry → List Entry → Type 0
AlikeBut q es fs = (p : Parameter) → rank p ≢ rank q → value_of es p ≡ value_of fs p

put_alike : PutLeavesTheOthers → (q : Parameter) (v : ℕ × ℕ) (es : List Entry) → AlikeBut q es (put q v es)
put_alike others q v es p apart = sym (others q p v es apart)

-- a value is that of the number
value_by_rank : (es : List Entry) (p q : Parameter) → rank p ≡ rank q → value_of es p ≡ value_of es q
value_by_rank [] p q h = ap (λ r. cond (nat_eq r 0) (2, 0) (cond (nat_eq r 5) (0, 64) (64, 0))) h
value_by_rank (e ∷ es) p q h =
    ap (λ r. cond (nat_eq (rank e.parameter) r) e.value (value_of es p)) h
    ∙ ap (λ x. cond (nat_eq (rank e.parameter) (rank q)) e.value x) (value_by_rank es p q h)

-- with another parameter set in both
pub both_put : PutGivesTheValue → PutLeavesTheOthers → (q r : Parameter) (v : ℕ × ℕ) (es fs : List Entry) → IsCanonical es → IsCanonical fs →
    AlikeBut q es fs → AlikeBut q (put r v es) (put r v fs)
both_put given others q r v es fs ce cf h p apart = elim (cases_eq (rank p) (rank r)) [
  | inl same ↦ value_by_rank (put r v es) p r same ∙ given r v es ce ∙ sym (given r v fs cf) ∙ sym (value_by_rank (put r v fs) p r same)
  | inr other ↦ others r p v es other ∙ h p apart ∙ sym (others r p v fs other)
]

once : (a b : ℕ) → a ≡ b → (let n : ℕ = cond (nat_eq a b) 1 0 in n ≡ 1)
once a b h = ap (λ x. let n : ℕ = cond x 1 0 in n) (eq-eqb a b h)

count_none : (es : List Entry) → ((p : Parameter) → entries_of p es ≡ 0) → length es ≡ 0
count_none [] h = refl
count_none (e ∷ es) h =
    absurd (let here = h e.parameter in
    omega (arith, here, once (rank e.parameter) (rank e.parameter) refl))

count_one : (q : Parameter) (es : List Entry) → ((p : Parameter) → rank p ≢ rank q → entries_of p es ≡ 0) → length es ≡ entries_of q es
count_one q [] h = refl
count_one q (e ∷ es) h = elim (cases_eq (rank e.parameter) (rank q)) [
  | inl same ↦ (let rest : length es ≡ entries_of q es = count_one q es (λ p apart. let x = h p apart in omega (arith, x)) in
      omega (arith, rest, once (rank e.parameter) (rank q) same))
  | inr other ↦ absurd (let here = h e.parameter other in
      omega (arith, here, once (rank e.parameter) (rank e.parameter) refl))
]

changed_count : (now wanted : State) → length (changed now wanted) ≡ differing_params now.own.params wanted.own.params
changed_count now wanted =
    let a : List Entry = to_default now.own.params wanted.own.params in
    let b : List Entry = to_other now.own.params wanted.own.params in
    let at_default : List Entry =
    filter (λ e. pair_eq (value_of wanted.own.params e.parameter) (default_value e.parameter)) now.own.params in
    omega (arith, length-append a b, length-map at_default made_default)

value_itself : (v : ℕ × ℕ) → pair_eq v v ≡ true
value_itself v = and_from (nat_eq v.0 v.0) (nat_eq v.1 v.1) (eq-eqb v.0 v.0 refl) (eq-eqb v.1 v.1 refl)

none_of : ChangesThoseThatDiffer → (now wanted : State) → IsWellFormed now → IsWellFormed wanted → (p : Parameter) →
    value_of now.own.params p ≡ value_of wanted.own.params p → entries_of p (changed now wanted) ≡ 0
none_of those now wanted hn hw p h =
    those now wanted p hn hw
    ∙ ap (λ b. cond b 0 1) (ap (λ v. pair_eq (value_of now.own.params p) v) (sym h) ∙ value_itself (value_of now.own.params p))

-- no parameter differs where all have the same values, and one at most where all but one have
pub params_same : ChangesThoseThatDiffer → (now wanted : State) → IsWellFormed now → IsWellFormed wanted →
    now.own.params ≡ wanted.own.params → differing_params now.own.params wanted.own.params ≡ 0
params_same those now wanted hn hw h =
    sym (changed_count now wanted) ∙ count_none (changed now wanted) (λ p. none_of those now wanted hn hw p (ap (λ es. value_of es p) h))

pub params_alike : ChangesThoseThatDiffer → (now wanted : State) → IsWellFormed now → IsWellFormed wanted → (q : Parameter) →
    AlikeBut q now.own.params wanted.own.params → differing_params now.own.params wanted.own.params ≤ 1
params_alike those now wanted hn hw q h =
    let one = count_one q (changed now wanted) (λ p apart. none_of those now wanted hn hw p (h p apart)) in
    let is = those now wanted q hn hw in
    omega (arith, changed_count now wanted, one, is, one_at_most (pair_eq (value_of now.own.params q) (value_of wanted.own.params q)))

-- ---- a message

-- six controllers at most, or one parameter
pub record OneParameter (es fs : List Entry) : Type 0 where
  pub other : Parameter
  pub alike : AlikeBut other es fs

abbrev pub Controllers : Channel → Channel → Type 0
Controllers a b = (b.params ≡ a.params) × (differing a.controls b.controls ≤ 6)

abbrev pub LittleDiffers : Channel → Channel → Type 0
LittleDiffers a b = Controllers a b ⊎ ((b.controls ≡ a.controls) × OneParameter a.params b.params)

same_little : (s x : Channel) → x.params ≡ s.params → x.controls ≡ s.controls → LittleDiffers s x
same_little s x h g = inl (h, let same = differing_itself s.controls in omega (arith, same, ap (differing s.controls) g))

high_alike : PutLeavesTheOthers → (v : ℕ) (t : Target) (es : List Entry) → OneParameter es (with_high v t es)
high_alike others v Nowhere es = record { other = rpn 0; alike = λ p apart. refl }
high_alike others v TuningProgram es = record { other = rpn 0; alike = λ p apart. refl }
high_alike others v ZoneSize es = record { other = rpn 0; alike = λ p apart. refl }
high_alike others v (Value q) es = record { other = q; alike = put_alike others q (v, (value_of es q).1) es }

low_alike : PutLeavesTheOthers → (v : ℕ) (t : Target) (es : List Entry) → OneParameter es (with_low v t es)
low_alike others v Nowhere es = record { other = rpn 0; alike = λ p apart. refl }
low_alike others v TuningProgram es = record { other = rpn 0; alike = λ p apart. refl }
low_alike others v ZoneSize es = record { other = rpn 0; alike = λ p apart. refl }
low_alike others v (Value q) es = record { other = q; alike = put_alike others q ((value_of es q).0, v) es }

controlled_little : PutLeavesTheOthers → (s : Channel) (n v : ℕ) (r : Role) → LittleDiffers s (controlled s n v r)
controlled_little others s n v Stored = inl (refl, omega (arith, differing_itself s.controls, differing_set s.controls s.controls n v))
controlled_little others s n v EntryHigh = inr (refl, high_alike others v (target s.selection) s.params)
controlled_little others s n v EntryLow = inr (refl, low_alike others v (target s.selection) s.params)
controlled_little others s n v NrpnLow = same_little s (controlled s n v NrpnLow) refl refl
controlled_little others s n v NrpnHigh = same_little s (controlled s n v NrpnHigh) refl refl
controlled_little others s n v RpnLow = same_little s (controlled s n v RpnLow) refl refl
controlled_little others s n v RpnHigh = same_little s (controlled s n v RpnHigh) refl refl
controlled_little others s n v AllSoundOff = same_little s s refl refl
controlled_little others s n v ResetControllers = inl (refl, reset_differs s.controls)
controlled_little others s n v AllNotesOff = same_little s s refl refl
controlled_little others s n v Ignored = same_little s s refl refl

pub message_little : PutLeavesTheOthers → (s : Channel) (msg : Msg) → LittleDiffers s (apply s msg)
message_little others s (NoteOn c k v) = same_little s s refl refl
message_little others s (NoteOff c k v) = same_little s s refl refl
message_little others s (KeyPressure c k v) = same_little s s refl refl
message_little others s (Control c n v) = controlled_little others s n v (role n)
message_little others s (Program c p) = same_little s (apply s (Program c p)) refl refl
message_little others s (Pressure c v) = same_little s (apply s (Pressure c v)) refl refl
message_little others s (Bend c v) = same_little s (apply s (Bend c v)) refl refl
