-- What follows 7E, a device and 08 09, read.
use Rattle.std.proofs.Common.{◌≡◌, ◌≤◌, ℕ, ◌+◌, ◌*◌, ◌/◌, ◌%◌, List, [], ◌∷◌, ◌++◌, length, take, get_or, Bool, true, false, nat_le, nat_eq, ◌&&◌, Option, Some, None, arith, refl, sym, ◌∙◌, ap, length-append}
use Rattle.std.specs.Option.{option_map}
use Rattle.std.specs.List.{flat_map}
use Rattle.std.proofs.Math.Seq.{take-append_seam, get_or-append_seam}
use Rattle.std.proofs.lemmas.Bool.{le-leb, leb-true, eq-eqb, and_from, and_parts, and_right, cond-true, cond-false}
use Rattle.retune_model.specs.Octave.{are_data, two_byte_values, octave_body, names_channel}
use Rattle.octave_route.specs.Messages.{two_bytes, as_read, WrittenIsRead}
use Rattle.octave_route.proofs.Numbers.{channels_are}
use Rattle.octave_route.proofs.Values.{values_length, values_again, values_are_data}

pub data_append : (xs ys : List ℕ) → are_data (xs ++ ys) ≡ (are_data xs && are_data ys)
data_append [] ys = refl
data_append (x ∷ xs) ys = elim (nat_le x 127) as (λ b. (b && are_data (xs ++ ys)) ≡ ((b && are_data xs) && are_data ys)) [ true ↦ data_append xs ys | false ↦ refl ]

-- the bytes are of the form
abbrev pub is_body : ℕ → ℕ → ℕ → ℕ → List ℕ → Bool
is_body device ff gg hh rest = are_data (device ∷ ff ∷ gg ∷ hh ∷ take 24 rest) && (nat_le ff 3 && (nat_eq (length rest) 25 && nat_eq (get_or rest 24 0) 0xf7))

pub no_body : (device ff gg hh : ℕ) (rest : List ℕ) → is_body device ff gg hh rest ≡ false → None ≡ option_map as_read (octave_body device ff gg hh rest)
no_body device ff gg hh rest isnt = sym (ap (option_map as_read) (cond-false (is_body device ff gg hh rest) _ None isnt))

pub no_form : (device ff gg hh : ℕ) (rest : List ℕ) → (nat_le ff 3 && (nat_eq (length rest) 25 && nat_eq (get_or rest 24 0) 0xf7)) ≡ false → is_body device ff gg hh rest ≡ false
no_form device ff gg hh rest isnt = and_right (are_data (device ∷ ff ∷ gg ∷ hh ∷ take 24 rest)) _ isnt

-- the number of the channels, and the values
pub body : (device ff gg hh : ℕ) (rest : List ℕ) → are_data (device ∷ ff ∷ gg ∷ hh ∷ []) ≡ true → are_data (take 24 rest) ≡ true → ff ≤ 3 → length rest ≡ 25 → get_or rest 24 0 ≡ 0xf7
    → option_map as_read (octave_body device ff gg hh rest) ≡ Some (16384 * ff + 128 * gg + hh, two_byte_values (take 24 rest))
body device ff gg hh rest four behind_four few long last =
    let low : are_data (device ∷ ff ∷ gg ∷ hh ∷ take 24 rest) ≡ true =
    data_append (device ∷ ff ∷ gg ∷ hh ∷ []) (take 24 rest) ∙ and_from (are_data (device ∷ ff ∷ gg ∷ hh ∷ [])) (are_data (take 24 rest)) four behind_four in
    let is : is_body device ff gg hh rest ≡ true =
    and_from (are_data (device ∷ ff ∷ gg ∷ hh ∷ take 24 rest)) _ low
    (and_from (nat_le ff 3) _ (le-leb ff 3 few)
    (and_from (nat_eq (length rest) 25) _ (eq-eqb (length rest) 25 long) (eq-eqb (get_or rest 24 0) 0xf7 last))) in
    let behind = and_parts (nat_le ff 127) _ (and_parts (nat_le device 127) _ four).1 in
    let second = and_parts (nat_le gg 127) _ behind.1 in
    let third = and_parts (nat_le hh 127) true second.1 in
    ap (option_map as_read) (cond-true (is_body device ff gg hh rest) (Some (record { channels = names_channel ff gg hh; values = two_byte_values (take 24 rest) })) None is)
    ∙ ap (λ n. let o : Option (ℕ × List ℕ) = Some (n, two_byte_values (take 24 rest)) in o) (channels_are ff gg hh few (leb-true gg 127 second.0) (leb-true hh 127 third.0))

pub again : WrittenIsRead
again channels values few all fit =
    let ff = channels / 16384 in
    let gg = (channels / 128) % 128 in
    let hh = channels % 128 in
    let flat = flat_map two_bytes values in
    let size : length flat ≡ 24 = omega (arith, values_length values, all) in
    let front : take 24 (flat ++ 0xf7 ∷ []) ≡ flat = rw (sym size) (take-append_seam flat (0xf7 ∷ [])) in
    let last : get_or (flat ++ 0xf7 ∷ []) 24 0 ≡ 0xf7 = rw (sym size) (get_or-append_seam flat 0xf7 [] 0) in
    let long : length (flat ++ 0xf7 ∷ []) ≡ 25 = omega (arith, size, length-append flat (0xf7 ∷ [])) in
    let four : are_data (0x7f ∷ ff ∷ gg ∷ hh ∷ []) ≡ true =
    and_from (nat_le ff 127) _ (le-leb ff 127 (omega (arith, few)))
    (and_from (nat_le gg 127) _ (le-leb gg 127 (omega arith)) (and_from (nat_le hh 127) true (le-leb hh 127 (omega arith)) refl)) in
    let sum : 16384 * ff + 128 * gg + hh ≡ channels = omega arith in
    body 0x7f ff gg hh (flat ++ 0xf7 ∷ []) four (ap are_data front ∙ values_are_data values fit) (omega (arith, few)) long last
    ∙ ap (λ n. let o : Option (ℕ × List ℕ) = Some (n, two_byte_values (take 24 (flat ++ 0xf7 ∷ []))) in o) sum
    ∙ ap (λ vs. let o : Option (ℕ × List ℕ) = Some (channels, vs) in o) (ap two_byte_values front ∙ values_again values)
