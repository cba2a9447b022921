-- The entries of a text, read in order.
use Rattle.std.proofs.Common.{◌≡◌, ℕ, zero, suc, ◌+◌, ◌<◌, List, [], ◌∷◌, ◌++◌, Result, Ok, Err, refl, sym, ap, ◌∙◌, arith, append_assoc, append-nil, add-one}
use Rattle.scl_text.specs.declared.fault.SclKind.{SclKind}
use Rattle.scl_text.specs.declared.fault.SclKind.TheVariants.{MissingPitch}
use Rattle.scala_lines.specs.Lines.{Numbered}
use Rattle.scl_text.specs.declared.entry.Entry.{Entry}
use Rattle.scala_lines.specs.Reading.{Fault, ◌>>=◌, fault}
use Rattle.scl_text.specs.Reading.{entries_at}
use Rattle.scl_text.specs.Pitch.{pitch_of}

abbrev pub with_prefix : List Entry → Result (List Entry) (Fault SclKind) → Result (List Entry) (Fault SclKind)
with_prefix prefix read = read >>= λ entries. Ok (prefix ++ entries)

prefix_bind : (prefix : List Entry) (entry : Entry) (read : Result (List Entry) (Fault SclKind)) → with_prefix prefix (read >>= λ entries. Ok (entry ∷ entries)) ≡ with_prefix (prefix ++ entry ∷ []) read
prefix_bind prefix entry (Ok entries) = ap (λ (r : List Entry). let a : Result (List Entry) (Fault SclKind) = Ok r in a) (sym (append_assoc prefix (entry ∷ []) entries))
prefix_bind prefix entry (Err d) = refl

-- a line that is missing
pub prefix_missing : (prefix : List Entry) (missing n : ℕ) (lines : List Numbered) → 0 < n → lines ≡ [] → with_prefix prefix (entries_at missing n lines) ≡ fault missing MissingPitch
unfolding entries_at
prefix_missing prefix missing zero lines some e = absurd (omega (arith, some))
prefix_missing prefix missing (suc n) lines some e = rw e refl

-- a line that has a fault
pub prefix_fault : (prefix : List Entry) (missing n : ℕ) (lines rest : List Numbered) (line : Numbered) (kind : SclKind) → 0 < n → lines ≡ line ∷ rest → pitch_of line.bytes ≡ Err kind
    → with_prefix prefix (entries_at missing n lines) ≡ fault line.number kind
unfolding entries_at
prefix_fault prefix missing zero lines rest line kind some e p = absurd (omega (arith, some))
prefix_fault prefix missing (suc n) lines rest line kind some e p = rw (e, p) refl

-- a line that is a pitch
pub prefix_more : (prefix : List Entry) (missing n m : ℕ) (lines rest : List Numbered) (line : Numbered) (entry : Entry) → n ≡ m + 1 → lines ≡ line ∷ rest → pitch_of line.bytes ≡ Ok entry
    → with_prefix prefix (entries_at missing n lines) ≡ with_prefix (prefix ++ entry ∷ []) (entries_at missing m rest)
unfolding entries_at
prefix_more prefix missing n m lines rest line entry is e p =
    ap (λ k. with_prefix prefix (entries_at missing k lines)) (is ∙ add-one m) ∙ rw (e, p) (prefix_bind prefix entry (entries_at missing m rest))

-- no more lines wanted
pub prefix_end : (prefix : List Entry) (missing n : ℕ) (lines : List Numbered) → n ≡ 0 → with_prefix prefix (entries_at missing n lines) ≡ Ok prefix
unfolding entries_at
prefix_end prefix missing n lines e = rw e (ap (λ (r : List Entry). let a : Result (List Entry) (Fault SclKind) = Ok r in a) (append-nil prefix))
