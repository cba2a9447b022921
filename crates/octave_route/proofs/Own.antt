-- The own value of a key.
use Rattle.std.proofs.Common.{◌≡◌, ℕ, ◌^◌, ℤ, pos, negsuc, ◌+ℤ◌, ◌-ℤ◌, ◌*ℤ◌, Option, Some, None, arith, ◌∙◌, ap}
use Rattle.std.specs.Prelude.{◌≤ℤ◌, neg_ℤ}
use Rattle.std.specs.Int.{int_div_euclid}
use Rattle.std.specs.Option.{option_map_or}
use Rattle.std.proofs.lemmas.Int.{ints}
use Rattle.mt_base.specs.declared.Bracket.{Bracket}
use Rattle.key_pitch.specs.declared.table.KeyTable.{KeyTable}
use Rattle.key_pitch.specs.Aims.{table_of}
use Rattle.key_pitch.specs.Tables.{IsNarrow}
use Rattle.key_pitch.specs.Views.{bounds_if}
use Rattle.octave_route.specs.Classes.{nearest_value, own_value}

pub quotient_low : (z : ℤ) → neg_ℤ (pos (2 ^ 91)) ≤ℤ z → neg_ℤ (pos (2 ^ 90)) ≤ℤ int_div_euclid z (pos 390625000)
quotient_low (pos a) low = omega (arith, ints)
quotient_low (negsuc a) low = omega (arith, ints, low)

pub quotient_high : (z : ℤ) → z ≤ℤ pos (2 ^ 91) → int_div_euclid z (pos 390625000) ≤ℤ pos (2 ^ 90)
quotient_high (pos a) high = omega (arith, ints, high)
quotient_high (negsuc a) high = omega (arith, ints)

-- the bounds that the table has are those that it keeps
pub lo_within : (o : Option Bracket) (b : Bracket) → bounds_if (Some b) ≡ bounds_if o → IsNarrow o → (neg_ℤ (pos (2 ^ 90)) ≤ℤ b.lo.0) × (b.lo.0 ≤ℤ pos (2 ^ 90))
lo_within None b e narrow = absurd (let no : ⊥ = cc in no)
lo_within (Some k) b e narrow =
    let same : b.lo.0 ≡ k.lo.0 = ap (λ o. option_map_or (λ x. x.lo) o (pos 0)) e in
    (omega (arith, ints, same, narrow.low), omega (arith, ints, same, narrow.order, narrow.high))

pub own_is : (t : KeyTable) (key : ℕ) (b : Bracket) (q : ℤ) → bounds_if (Some b) ≡ table_of t key → q ≡ int_div_euclid ((b.lo.0 -ℤ pos key *ℤ pos 3200000000000) +ℤ pos 195312500) (pos 390625000)
    → pos 8192 +ℤ q ≡ own_value (table_of t) key
own_is t key b q e is = ap (λ x. pos 8192 +ℤ x) is ∙ ap (λ o. option_map_or (λ x. nearest_value key x.lo) o (pos 8192)) e
