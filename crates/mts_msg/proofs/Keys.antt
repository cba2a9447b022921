use Rattle.std.proofs.Common.{◌≡◌, ◌<◌, ℕ, ◌+◌, ◌*◌, List, [], ◌∷◌, ◌++◌, length, take, drop, get_or, set, nat_lt, ◌&&◌, refl, sym, ◌∙◌, ap, arith, Option, append_assoc, append-nil, drop_of_length-le}
use Rattle.std.proofs.lemmas.List.{drop_more, take_more_set, length-take, take_all}
use Rattle.midi_model.specs.Sysex.{all_low, value_at, key_values}
use Rattle.midi_model.specs.TuningBytes.{numbered}

pub low_from : (bytes : List ℕ) (i : ℕ) → i < length bytes → all_low (drop i bytes) ≡ (nat_lt (get_or bytes i 0) 128 && all_low (drop (i + 1) bytes))
low_from bytes i inside = ap all_low (drop_more bytes i 0 inside)

-- one more key at the end
pub numbered_last : (k n : ℕ) (values : List (Option ℕ)) (v : Option ℕ) → n ≡ k + length values → numbered k (values ++ v ∷ []) ≡ numbered k values ++ (n, v) ∷ []
numbered_last k n [] v e = let at : n ≡ k = omega (arith, e) in rw at refl
numbered_last k n (x ∷ xs) v e = ap (λ r. (k, x) ∷ r) (numbered_last (k + 1) n xs v (omega (arith, e)))

pub three : (bytes : List ℕ) (i j k n : ℕ) → j ≡ i + 1 → k ≡ i + 2 → n ≡ i + 3 → k < length bytes
    → drop i bytes ≡ get_or bytes i 0 ∷ get_or bytes j 0 ∷ get_or bytes k 0 ∷ drop n bytes
three bytes i j k n ej ek en inside =
    let one : drop i bytes ≡ get_or bytes i 0 ∷ drop (i + 1) bytes = drop_more bytes i 0 (omega (arith, inside, ek)) in
    let two : drop j bytes ≡ get_or bytes j 0 ∷ drop (j + 1) bytes = drop_more bytes j 0 (omega (arith, inside, ej, ek)) in
    let last : drop k bytes ≡ get_or bytes k 0 ∷ drop (k + 1) bytes = drop_more bytes k 0 inside in
    let to_j : i + 1 ≡ j = omega (arith, ej) in
    let to_k : j + 1 ≡ k = omega (arith, ej, ek) in
    let to_n : k + 1 ≡ n = omega (arith, ek, en) in
    one ∙ ap (λ m. get_or bytes i 0 ∷ drop m bytes) to_j
    ∙ ap (λ r. get_or bytes i 0 ∷ r) (two ∙ ap (λ m. get_or bytes j 0 ∷ drop m bytes) to_k)
    ∙ ap (λ r. get_or bytes i 0 ∷ get_or bytes j 0 ∷ r) (last ∙ ap (λ m. get_or bytes k 0 ∷ drop m bytes) to_n)

-- the keys read so far, and those in the rest
pub keys_next : (bytes : List ℕ) (values : List (Option ℕ)) (k : ℕ) (v : Option ℕ) → k < length values → 3 * k + 2 < length bytes
    → v ≡ value_at (get_or bytes (3 * k) 0) (get_or bytes (3 * k + 1) 0) (get_or bytes (3 * k + 2) 0)
    → key_values 0 bytes ≡ numbered 0 (take k values) ++ key_values k (drop (3 * k) bytes)
    → key_values 0 bytes ≡ numbered 0 (take (k + 1) (set values k v)) ++ key_values (k + 1) (drop (3 * (k + 1)) bytes)
keys_next bytes values k v inside room is known =
    let front : drop (3 * k) bytes ≡ get_or bytes (3 * k) 0 ∷ get_or bytes (3 * k + 1) 0 ∷ get_or bytes (3 * k + 2) 0 ∷ drop (3 * (k + 1)) bytes =
    three bytes (3 * k) (3 * k + 1) (3 * k + 2) (3 * (k + 1)) refl refl (omega arith) room in
    let one : key_values k (drop (3 * k) bytes) ≡ (k, v) ∷ key_values (k + 1) (drop (3 * (k + 1)) bytes) =
    ap (key_values k) front ∙ ap (λ o. (k, o) ∷ key_values (k + 1) (drop (3 * (k + 1)) bytes)) (sym is) in
    let more : numbered 0 (take (k + 1) (set values k v)) ≡ numbered 0 (take k values) ++ (k, v) ∷ [] =
    ap (numbered 0) (take_more_set values k v inside) ∙ numbered_last 0 k (take k values) v (omega (arith, length-take k values, inside)) in
    known ∙ ap (λ r. numbered 0 (take k values) ++ r) one
    ∙ sym (append_assoc (numbered 0 (take k values)) ((k, v) ∷ []) (key_values (k + 1) (drop (3 * (k + 1)) bytes)))
    ∙ ap (λ r. r ++ key_values (k + 1) (drop (3 * (k + 1)) bytes)) (sym more)

pub keys_end : (bytes : List ℕ) (values : List (Option ℕ)) → length values ≡ 128 → length bytes ≡ 384
    → key_values 0 bytes ≡ numbered 0 (take 128 values) ++ key_values 128 (drop (3 * 128) bytes) → numbered 0 values ≡ key_values 0 bytes
keys_end bytes values all whole known =
    let none : drop (3 * 128) bytes ≡ [] = drop_of_length-le bytes {i = 3 * 128} (omega (arith, whole)) in
    let every : take 128 values ≡ values = take_all 128 values (omega (arith, all)) in
    sym (known ∙ ap (λ r. numbered 0 (take 128 values) ++ key_values 128 r) none ∙ append-nil (numbered 0 (take 128 values)) ∙ ap (numbered 0) every)
