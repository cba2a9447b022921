-- The changes of a list, read in order.
use Rattle.std.proofs.Common.{◌≡◌, ℕ, zero, suc, ◌+◌, ◌<◌, Bor, map, List, [], ◌∷◌, ◌++◌, Result, Ok, Err, refl, sym, ap, ◌∙◌, arith, append_assoc, append-nil, add-one}
use Rattle.scala_lines.specs.Lines.{Numbered}
use Rattle.scala_lines.specs.Reading.{Fault, ◌>>=◌, fault}
use Rattle.scale_changes.specs.declared.fault.ListKind.{ListKind}
use Rattle.scale_changes.specs.declared.fault.ListKind.TheVariants.{TooMany}
use Rattle.scale_changes.specs.Names.{Change}
use Rattle.scale_changes.specs.Answers.{change_as_told}
use Rattle.scale_changes.specs.Reading.{change_of, list_at}

abbrev Read : Type 0
Read = Result (List Change) (Fault ListKind)

-- what is read behind changes that were taken
abbrev pub with_prefix : List Change → Result (List Change) (Fault ListKind) → Result (List Change) (Fault ListKind)
with_prefix taken read = read >>= λ changes. Ok (taken ++ changes)

prefix_bind : (taken : List Change) (change : Change) (read : Read) → with_prefix taken (read >>= λ changes. Ok (change ∷ changes)) ≡ with_prefix (taken ++ change ∷ []) read
prefix_bind taken change (Ok changes) = ap (λ (r : List Change). let a : Read = Ok r in a) (sym (append_assoc taken (change ∷ []) changes))
prefix_bind taken change (Err d) = refl

-- no more lines
pub prefix_end : (taken : List Change) (room last : ℕ) (lines : List Numbered) → lines ≡ [] → with_prefix taken (list_at room last lines) ≡ Ok taken
unfolding list_at
prefix_end taken room last lines e = rw e (ap (λ (r : List Change). let a : Read = Ok r in a) (append-nil taken))

-- no room for a line
pub prefix_many : (taken : List Change) (room last : ℕ) (lines rest : List Numbered) (line : Numbered) → room ≡ 0 → lines ≡ line ∷ rest
    → with_prefix taken (list_at room last lines) ≡ fault line.number TooMany
unfolding list_at
prefix_many taken room last lines rest line none e = rw (none, e) refl

-- a line that has a fault
pub prefix_fault : (taken : List Change) (room last : ℕ) (lines rest : List Numbered) (line : Numbered) (kind : ListKind) → 0 < room → lines ≡ line ∷ rest → change_of last line.bytes ≡ Err kind
    → with_prefix taken (list_at room last lines) ≡ fault line.number kind
unfolding list_at
prefix_fault taken zero last lines rest line kind some e p = absurd (omega (arith, some))
prefix_fault taken (suc room) last lines rest line kind some e p = rw (e, p) refl

-- a line that is a change
pub prefix_more : (taken : List Change) (room m last : ℕ) (lines rest : List Numbered) (line : Numbered) (change : Change) → room ≡ m + 1 → lines ≡ line ∷ rest → change_of last line.bytes ≡ Ok change
    → with_prefix taken (list_at room last lines) ≡ with_prefix (taken ++ change ∷ []) (list_at m change.0 rest)
unfolding list_at
prefix_more taken room m last lines rest line change is e p =
    ap (λ k. with_prefix taken (list_at k last lines)) (is ∙ add-one m) ∙ rw (e, p) (prefix_bind taken change (list_at m change.0 rest))

-- one more change, as it is told
pub told_more : (taken : List (ℕ × Bor (List ℕ))) (c : ℕ × Bor (List ℕ)) → map change_as_told (taken ++ c ∷ []) ≡ map change_as_told taken ++ change_as_told c ∷ []
told_more [] c = refl
told_more (x ∷ xs) c = ap (λ r. change_as_told x ∷ r) (told_more xs c)
