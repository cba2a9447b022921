-- The entries of a mapping, read in order.
use Rattle.std.proofs.Common.{◌≡◌, ℕ, zero, suc, ◌+◌, ◌<◌, List, [], ◌∷◌, ◌++◌, Option, None, Result, Ok, Err, refl, sym, ap, ◌∙◌, arith, append_assoc, append-nil, add-one}
use Rattle.scala_lines.specs.Lines.{Numbered}
use Rattle.kbm_text.specs.declared.fault.KbmKind.{KbmKind}
use Rattle.scala_lines.specs.Reading.{Fault, ◌>>=◌, fault}
use Rattle.kbm_text.specs.Reading.{entries_at}
use Rattle.kbm_text.specs.Field.{entry_of}

abbrev pub Entries : Type 0
Entries = List (Option ℕ)

abbrev pub with_prefix : Entries → Result Entries (Fault KbmKind) → Result Entries (Fault KbmKind)
with_prefix prefix read = read >>= λ entries. Ok (prefix ++ entries)

prefix_bind : (prefix : Entries) (entry : Option ℕ) (read : Result Entries (Fault KbmKind)) → with_prefix prefix (read >>= λ entries. Ok (entry ∷ entries)) ≡ with_prefix (prefix ++ entry ∷ []) read
prefix_bind prefix entry (Ok entries) = ap (λ (r : Entries). let a : Result Entries (Fault KbmKind) = Ok r in a) (sym (append_assoc prefix (entry ∷ []) entries))
prefix_bind prefix entry (Err d) = refl

-- an entry that is left out
pub prefix_missing : (prefix : Entries) (n m : ℕ) (lines rest : List Numbered) → n ≡ m + 1 → lines ≡ [] → rest ≡ [] → with_prefix prefix (entries_at n lines) ≡ with_prefix (prefix ++ None ∷ []) (entries_at m rest)
unfolding entries_at
prefix_missing prefix n m lines rest is e f =
    ap (λ k. with_prefix prefix (entries_at k lines)) (is ∙ add-one m) ∙ rw (e, f) (prefix_bind prefix None (entries_at m []))

-- a line that has a fault
pub prefix_fault : (prefix : Entries) (n : ℕ) (lines rest : List Numbered) (line : Numbered) (kind : KbmKind) → 0 < n → lines ≡ line ∷ rest → entry_of line.bytes ≡ Err kind
    → with_prefix prefix (entries_at n lines) ≡ fault line.number kind
unfolding entries_at
prefix_fault prefix zero lines rest line kind some e p = absurd (omega (arith, some))
prefix_fault prefix (suc n) lines rest line kind some e p = rw (e, p) refl

-- a line that is an entry
pub prefix_more : (prefix : Entries) (n m : ℕ) (lines rest : List Numbered) (line : Numbered) (entry : Option ℕ) → n ≡ m + 1 → lines ≡ line ∷ rest → entry_of line.bytes ≡ Ok entry
    → with_prefix prefix (entries_at n lines) ≡ with_prefix (prefix ++ entry ∷ []) (entries_at m rest)
unfolding entries_at
prefix_more prefix n m lines rest line entry is e p =
    ap (λ k. with_prefix prefix (entries_at k lines)) (is ∙ add-one m) ∙ rw (e, p) (prefix_bind prefix entry (entries_at m rest))

-- no more entries wanted
pub prefix_end : (prefix : Entries) (n : ℕ) (lines : List Numbered) → n ≡ 0 → with_prefix prefix (entries_at n lines) ≡ Ok prefix
unfolding entries_at
prefix_end prefix n lines e = rw e (ap (λ (r : Entries). let a : Result Entries (Fault KbmKind) = Ok r in a) (append-nil prefix))
