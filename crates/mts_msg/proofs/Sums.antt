use Rattle.std.proofs.Common.{◌≡◌, ◌<◌, ◌+◌, ℕ, List, [], ◌∷◌, ◌++◌, length, take, slice_index_or, bit_xor, sym, ◌∙◌, ap}
use Rattle.std.specs.Int.Bits.{xor_assoc, xor_zero_r}
use Rattle.std.proofs.lemmas.List.{take_more}
use Rattle.midi_model.specs.Sysex.{xor_all}

-- one more byte at the end
pub xor_last : (bytes : List ℕ) (byte : ℕ) → xor_all (bytes ++ byte ∷ []) ≡ bit_xor (xor_all bytes) byte
xor_last [] byte = xor_zero_r byte
xor_last (b ∷ bs) byte = ap (bit_xor b) (xor_last bs byte) ∙ sym (xor_assoc b (xor_all bs) byte)

pub xor_next : (bytes : List ℕ) (i : ℕ) → i < length bytes → xor_all (take (i + 1) bytes) ≡ bit_xor (xor_all (take i bytes)) (slice_index_or bytes i 0)
xor_next bytes i inside = ap xor_all (take_more bytes i 0 inside) ∙ xor_last (take i bytes) (slice_index_or bytes i 0)
