-- The values of a message, two bytes each.
use Rattle.std.proofs.Common.{◌≡◌, ◌<◌, ℕ, ◌+◌, ◌*◌, ◌/◌, ◌%◌, List, [], ◌∷◌, ◌++◌, length, take, drop, get_or, set, true, nat_le, ◌&&◌, arith, refl, sym, ◌∙◌, ap, append_assoc, append-nil, drop_of_length-le}
use Rattle.std.specs.List.{flat_map, AllByRecursion}
use Rattle.std.proofs.lemmas.List.{drop_more, take_more_set, take_all}
use Rattle.std.proofs.lemmas.Bool.{le-leb, leb-true, and_from, and_parts}
use Rattle.retune_model.specs.Octave.{are_data, two_byte_values}
use Rattle.octave_route.specs.Messages.{IsOctaveValue, two_bytes}

pub data_from : (bytes : List ℕ) (i : ℕ) → i < length bytes → are_data (drop i bytes) ≡ (nat_le (get_or bytes i 0) 127 && are_data (drop (i + 1) bytes))
data_from bytes i inside = ap are_data (drop_more bytes i 0 inside)

pub values_length : (vs : List ℕ) → length (flat_map two_bytes vs) ≡ 2 * length vs
values_length [] = refl
values_length (v ∷ vs) = omega (arith, values_length vs)

pub values_again : (vs : List ℕ) → two_byte_values (flat_map two_bytes vs) ≡ vs
values_again [] = refl
values_again (v ∷ vs) =
    let sum : 128 * (v / 128) + v % 128 ≡ v = omega arith in
    ap (λ n. n ∷ two_byte_values (flat_map two_bytes vs)) sum ∙ ap (λ r. v ∷ r) (values_again vs)

pub values_are_data : (vs : List ℕ) → AllByRecursion IsOctaveValue vs → are_data (flat_map two_bytes vs) ≡ true
values_are_data [] h = refl
values_are_data (v ∷ vs) h =
    and_from (nat_le (v / 128) 127) _ (le-leb (v / 128) 127 (omega (arith, h.0)))
    (and_from (nat_le (v % 128) 127) _ (le-leb (v % 128) 127 (omega arith)) (values_are_data vs h.1))

pub data_are_values : (bytes : List ℕ) → are_data bytes ≡ true → AllByRecursion IsOctaveValue (two_byte_values bytes)
data_are_values [] h = tt
data_are_values (a ∷ []) h = tt
data_are_values (a ∷ b ∷ bs) h =
    let first = and_parts (nat_le a 127) _ h in
    let second = and_parts (nat_le b 127) (are_data bs) first.1 in
    (omega (arith, leb-true a 127 first.0, leb-true b 127 second.0), data_are_values bs second.1)

two : (bytes : List ℕ) (i j n : ℕ) → j ≡ i + 1 → n ≡ i + 2 → j < length bytes → drop i bytes ≡ get_or bytes i 0 ∷ get_or bytes j 0 ∷ drop n bytes
two bytes i j n ej en inside =
    let to_j : i + 1 ≡ j = omega (arith, ej) in
    let to_n : j + 1 ≡ n = omega (arith, ej, en) in
    drop_more bytes i 0 (omega (arith, inside, ej)) ∙ ap (λ m. get_or bytes i 0 ∷ drop m bytes) to_j
    ∙ ap (λ r. get_or bytes i 0 ∷ r) (drop_more bytes j 0 inside ∙ ap (λ m. get_or bytes j 0 ∷ drop m bytes) to_n)

-- the values read so far, and those in the rest
pub values_next : (bytes values : List ℕ) (k v : ℕ) → k < length values → 2 * k + 1 < length bytes
    → v ≡ 128 * get_or bytes (2 * k) 0 + get_or bytes (2 * k + 1) 0
    → two_byte_values bytes ≡ take k values ++ two_byte_values (drop (2 * k) bytes)
    → two_byte_values bytes ≡ take (k + 1) (set values k v) ++ two_byte_values (drop (2 * (k + 1)) bytes)
values_next bytes values k v inside room is known =
    let rest = two_byte_values (drop (2 * (k + 1)) bytes) in
    let one : two_byte_values (drop (2 * k) bytes) ≡ v ∷ rest =
    ap two_byte_values (two bytes (2 * k) (2 * k + 1) (2 * (k + 1)) refl (omega arith) room) ∙ ap (λ n. n ∷ rest) (sym is) in
    known ∙ ap (λ r. take k values ++ r) one ∙ sym (append_assoc (take k values) (v ∷ []) rest) ∙ ap (λ r. r ++ rest) (sym (take_more_set values k v inside))

pub values_end : (bytes values : List ℕ) → length values ≡ 12 → length bytes ≡ 24
    → two_byte_values bytes ≡ take 12 values ++ two_byte_values (drop (2 * 12) bytes) → values ≡ two_byte_values bytes
values_end bytes values all whole known =
    let none : drop (2 * 12) bytes ≡ [] = drop_of_length-le bytes {i = 2 * 12} (omega (arith, whole)) in
    let every : take 12 values ≡ values = take_all 12 values (omega (arith, all)) in
    sym (known ∙ ap (λ r. take 12 values ++ two_byte_values r) none ∙ append-nil (take 12 values) ∙ every)
