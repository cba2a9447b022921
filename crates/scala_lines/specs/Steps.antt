-- Steps of reading, and which way they went: for the proofs of readers. What a clause can't say of every type stands here.
use Rattle.std.specs.Prelude.{ℕ, ◌≡◌, ◌⊎◌, Bool, true, false, cond, Option, Some, None, Result, Ok, Err, IfOk, IfErr, refl}
use Rattle.std.proofs.Common.{sym, ap, subst, ◌∙◌, inl, inr}
use Rattle.scala_lines.specs.Reading.{Fault, ◌>>=◌, on_line, HasOneAnswer, Fails, Gives, Answers, IsAt, AnswersFault, IsFaultOf}

-- which way a test went
pub chosen : {A : Type 0} (b : Bool) (x y z : A) → cond b x y ≡ z → ((b ≡ true) × (x ≡ z)) ⊎ ((b ≡ false) × (y ≡ z))
chosen true x y z e = inl (refl, e)
chosen false x y z e = inr (refl, e)

-- ---- values and faults

abbrev value_or : {A E : Type 0} → A → Result A E → A
value_or x (Ok y) = y
value_or x (Err d) = x

abbrev fault_or : {A E : Type 0} → E → Result A E → E
fault_or d (Ok x) = d
fault_or d (Err e) = e

abbrev HasValue : {A E : Type 0} → Result A E → Type 0
HasValue (Ok x) = Unit {0}
HasValue (Err d) = ⊥

pub ok_is : {A E : Type 0} (x y : A) → (let r : Result A E = Ok x in r) ≡ Ok y → x ≡ y
ok_is {A} {E} x y e = ap (λ (r : Result A E). value_or x r) e

pub err_is : {A E : Type 0} (d f : E) → (let r : Result A E = Err d in r) ≡ Err f → d ≡ f
err_is {A} {E} d f e = ap (λ (r : Result A E). fault_or d r) e

pub ok_not_err : {A E : Type 0} (x : A) (d : E) → (let r : Result A E = Ok x in r) ≡ Err d → ⊥
ok_not_err {A} {E} x d e = subst (λ (r : Result A E). HasValue r) e tt

-- ---- one step

-- the value of a step that did not fail
pub bind_ok : {K A B : Type 0} (r : Result A (Fault K)) (f : A → Result B (Fault K)) (y : B) → (r >>= f) ≡ Ok y → (x : A) × (r ≡ Ok x) × (f x ≡ Ok y)
bind_ok (Ok x) f y e = (x, refl, e)
bind_ok (Err d) f y e = absurd (ok_not_err y d (sym e))

-- where a step failed, it did so itself or the next one did
pub bind_err : {K A B : Type 0} (r : Result A (Fault K)) (f : A → Result B (Fault K)) (d : Fault K) → (r >>= f) ≡ Err d
    → (r ≡ Err d) ⊎ ((x : A) × (r ≡ Ok x) × (f x ≡ Err d))
bind_err (Ok x) f d e = inr (x, refl, e)
bind_err {K} {A} {B} (Err c) f d e = inl (ap (λ (x : Fault K). let r : Result A (Fault K) = Err x in r) (err_is {A = B} c d e))

pub on_line_ok : {K A : Type 0} (line : ℕ) (r : Result A K) (x : A) → on_line line r ≡ Ok x → r ≡ Ok x
on_line_ok {K} {A} line (Ok y) x e = ap (λ (z : A). let r : Result A K = Ok z in r) (ok_is y x e)
on_line_ok line (Err k) x e = absurd (ok_not_err x (record { line = line; kind = k }) (sym e))

pub on_line_err : {K A : Type 0} (line : ℕ) (r : Result A K) (d : Fault K) → on_line line r ≡ Err d → (k : K) × (r ≡ Err k) × (d ≡ record { line = line; kind = k })
on_line_err line (Ok y) d e = absurd (ok_not_err y d e)
on_line_err {A = A} line (Err k) d e = (k, refl, sym (err_is {A = A} (record { line = line; kind = k }) d e))

-- ---- reading that is exact: it gives just the value of the text, and just its first fault

pub record IsExact {V K : Type 0} (IsValue : V → Type 0) (IsFault : ℕ → K → Type 0) (read : Result V (Fault K)) : Type 0 where
  pub value : (v : V) → read ≡ Ok v → IsValue v
  pub again : (v : V) → IsValue v → read ≡ Ok v
  pub fault : (line : ℕ) (kind : K) → read ≡ Err (record { line = line; kind = kind }) → IsFault line kind
  pub fault_again : (line : ℕ) (kind : K) → IsFault line kind → read ≡ Err (record { line = line; kind = kind })

pub found : {V E K : Type 0} {IsValue : V → Type 0} {IsFault : ℕ → K → Type 0} {read : Result V (Fault K)} (seen : E → Option (Fault K))
    → IsExact IsValue IsFault read → (r : Result V E) → Gives seen (λ v. v) r read → IfOk r IsValue
found seen x (Ok v) g = x.value v g
found seen x (Err e) g = tt

no_value : {V K : Type 0} (o : Option (Fault K)) (read : Result V (Fault K)) (v : V) → Fails o read → read ≡ Ok v → o ≡ None
no_value None read v g e = refl
no_value (Some f) read v g e = absurd (ok_not_err v f (sym e ∙ g))

pub only : {V E K : Type 0} {IsValue : V → Type 0} {IsFault : ℕ → K → Type 0} {read : Result V (Fault K)} (seen : E → Option (Fault K))
    → IsExact IsValue IsFault read → (r : Result V E) → Gives seen (λ v. v) r read → (v : V) → IsValue v → Answers seen r v
only {K = K} seen x (Ok w) g v is = ok_is {E = Fault K} w v (sym g ∙ x.again v is)
only {read = read} seen x (Err e) g v is = no_value (seen e) read v g (x.again v is)

its_fault : {V K : Type 0} {IsValue : V → Type 0} {IsFault : ℕ → K → Type 0} {read : Result V (Fault K)} → IsExact IsValue IsFault read
    → (o : Option (Fault K)) → Fails o read → IsFaultOf IsFault o
its_fault x None g = tt
its_fault x (Some f) g = x.fault f.line f.kind g

pub first_fault : {V E K : Type 0} {IsValue : V → Type 0} {IsFault : ℕ → K → Type 0} {read : Result V (Fault K)} (seen : E → Option (Fault K))
    → IsExact IsValue IsFault read → (r : Result V E) → Gives seen (λ v. v) r read → IfErr r (λ e. IsFaultOf IsFault (seen e))
first_fault seen x (Ok v) g = tt
first_fault seen x (Err e) g = its_fault x (seen e) g

same_fault : {V K : Type 0} (f : Fault K) (line : ℕ) (kind : K) → (let r : Result V (Fault K) = Err f in r) ≡ Err (record { line = line; kind = kind }) → (f.line ≡ line) × (f.kind ≡ kind)
same_fault {V} {K} f line kind e =
    let h : f ≡ record { line = line; kind = kind } = err_is {A = V} f (record { line = line; kind = kind }) e in
    (ap (λ (g : Fault K). g.line) h, ap (λ (g : Fault K). g.kind) h)

at_fault : {V K : Type 0} (o : Option (Fault K)) (read : Result V (Fault K)) (line : ℕ) (kind : K) → Fails o read → read ≡ Err (record { line = line; kind = kind }) → IsAt o line kind
at_fault None read line kind g e = tt
at_fault {V} {K} (Some f) read line kind g e = same_fault {V = V} f line kind (sym g ∙ e)

pub only_fault : {V E K : Type 0} {IsValue : V → Type 0} {IsFault : ℕ → K → Type 0} {read : Result V (Fault K)} (seen : E → Option (Fault K))
    → IsExact IsValue IsFault read → (r : Result V E) → Gives seen (λ v. v) r read → (line : ℕ) (kind : K) → IsFault line kind → AnswersFault seen r line kind
only_fault seen x (Ok v) g line kind is = absurd (ok_not_err v (record { line = line; kind = kind }) (sym g ∙ x.fault_again line kind is))
only_fault {read = read} seen x (Err e) g line kind is = at_fault (seen e) read line kind g (x.fault_again line kind is)

-- a text that is read exactly has one answer
read_either : {V K : Type 0} {IsValue : V → Type 0} {IsFault : ℕ → K → Type 0} {read : Result V (Fault K)} → IsExact IsValue IsFault read
    → (r : Result V (Fault K)) → read ≡ r → ((v : V) × IsValue v) ⊎ ((line : ℕ) × ((kind : K) × IsFault line kind))
read_either x (Ok v) e = inl (v, x.value v e)
read_either x (Err f) e = inr (f.line, (f.kind, x.fault f.line f.kind e))

pub one_answer : {V K : Type 0} {IsValue : V → Type 0} {IsFault : ℕ → K → Type 0} {read : Result V (Fault K)} → IsExact IsValue IsFault read → HasOneAnswer IsValue IsFault
one_answer {V} {K} {read = read} x = record {
  either = read_either x read refl;
  never_both = λ v line kind a b. ok_not_err v (record { line = line; kind = kind }) (sym (x.again v a) ∙ x.fault_again line kind b);
  one_value = λ v w a b. ok_is {E = Fault K} v w (sym (x.again v a) ∙ x.again w b);
  one_fault = λ a b j k p q. same_fault {V = V} (record { line = a; kind = j }) b k (sym (x.fault_again a j p) ∙ x.fault_again b k q);
}
