use Rattle.std.proofs.Common.{◌≡◌, ◌≤◌, ℕ, zero, suc, List, [], ◌∷◌, true, get_or, nat_lt, subst, sym, arith}
use Rattle.std.proofs.lemmas.Bool.{ltb-true}
use Rattle.receiver.specs.Kept.{are_low}
use Rattle.lifetimes.proofs.AnyNote.{parts}
use Rattle.lifetimes.proofs.asking.press_target.Goals as goal

low_at : (xs : List ℕ) (i : ℕ) → are_low xs ≡ true → get_or xs i 0 ≤ 127
low_at [] i h = omega arith
low_at (x ∷ xs) zero h = (let low = ltb-true x 128 (parts (nat_lt x 128) (are_low xs) h).0 in omega (arith, low))
low_at (x ∷ xs) (suc i) h = low_at xs i (parts (nat_lt x 128) (are_low xs) h).1

pub press-requires-clause-value : goal.press-requires-clause-value
press-requires-clause-value c =
    let source = c.args.source.now in
    subst (λ v. v ≤ 127) (sym c.get.ensures) (low_at source.keys.items c.args.note.now.key source.keys_fit)
