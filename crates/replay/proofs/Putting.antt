-- What is put, one list of messages after another.
use Rattle.std.proofs.Common.{◌≡◌, ℕ, List, ◌++◌, ap, subst}
use Rattle.std.proofs.lemmas.List.{append_assoc}
use Rattle.mt_base.specs.declared.event.Msg.{Msg}
use Rattle.replay.specs.Sinks.{Puts, IsDone}

pub puts_then : {A : Type 0} (holds : ℕ → A → List Msg → Type 0) (a b c : A) (xs ys : List Msg) → Puts holds a b xs
    → Puts holds b c ys → Puts holds a c (xs ++ ys)
puts_then holds a b c xs ys h k = λ n ms held. subst (holds n c) (append_assoc ms xs ys) (k n (ms ++ xs) (h n ms held))

pub puts_done : {A : Type 0} (holds : ℕ → A → List Msg → Type 0) (a b : A) (xs ys : List Msg) → Puts holds a b xs
    → IsDone holds b → Puts holds a b (xs ++ ys)
puts_done holds a b xs ys h done = puts_then holds a b b xs ys h (λ n ms held. done n ms ys held)

pub puts_same : {A : Type 0} (holds : ℕ → A → List Msg → Type 0) (a b : A) (xs ys : List Msg) → xs ≡ ys → Puts holds a b xs
    → Puts holds a b ys
puts_same holds a b xs ys e h = λ n ms held. subst (holds n b) (ap (λ l. ms ++ l) e) (h n ms held)
