-- A list of channels: items n or n-m with 1 ≤ n ≤ m ≤ 16, joined by commas, each number in digits without a leading zero.
use Rattle.std.specs.Prelude.{ℕ, ◌+◌, ◌-◌, ◌*◌, ◌^◌, List, [], ◌∷◌, Bool, false, true, not, ◌&&◌, ◌==◌, nat_le, if◌then◌else◌, Option, Some, None, bit_or}

-- a number from 1 to 16 with a digit behind it; 0 stands for no digit yet
abbrev pub with_digit : ℕ → ℕ → Option ℕ
with_digit n b =
    if nat_le 48 b && nat_le b 57 && nat_le 1 (10 * n + (b - 48)) && nat_le (10 * n + (b - 48)) 16
    then Some (10 * n + (b - 48)) else None

-- an item, as far as it is read: its first number; whether a hyphen came; and its last number
pub record Item : Type 0 where
  pub first : ℕ
  pub is_range : Bool
  pub last : ℕ

abbrev pub no_item : Item
no_item = record { first = 0; is_range = false; last = 0 }

abbrev pub first_if : Item → Option ℕ → Option Item
first_if i None = None
first_if i (Some n) = Some (record { first = n; is_range = false; last = 0 })

abbrev pub last_if : Item → Option ℕ → Option Item
last_if i None = None
last_if i (Some n) = Some (record { first = i.first; is_range = true; last = n })

-- a byte more: a hyphen behind the first number, or a digit
abbrev pub with_byte : Item → ℕ → Option Item
with_byte i b =
    if b == 45 then (if not i.is_range && nat_le 1 i.first then Some (record { first = i.first; is_range = true; last = 0 }) else None)
    else if i.is_range then last_if i (with_digit i.last b) else first_if i (with_digit i.first b)

-- the channels of a whole item beside others: bit c stands for channel c + 1
abbrev pub with_range : ℕ → ℕ → ℕ → ℕ
with_range mask first last = bit_or mask (2 ^ last - 2 ^ (first - 1))

abbrev pub last_of : Item → ℕ
last_of i = if i.is_range then i.last else i.first

abbrev pub with_item : ℕ → Item → Option ℕ
with_item mask i = if nat_le 1 i.first && nat_le i.first (last_of i) then Some (with_range mask i.first (last_of i)) else None

infixl 10 ◌>>=◌
abbrev pub ◌>>=◌ : {A B : Type 0} → Option A → (A → Option B) → Option B
(Some x) >>= f = f x
None >>= f = None

-- the channels of the items so far, and an item that has begun
unfoldable pub channels_from : ℕ → Item → List ℕ → Option ℕ
channels_from mask i [] = with_item mask i
channels_from mask i (b ∷ bs) =
    if b == 44 then (with_item mask i >>= λ more. channels_from more no_item bs)
    else (with_byte i b >>= λ j. channels_from mask j bs)

-- the mask of a list; None where the text isn't one
abbrev pub channels_of : List ℕ → Option ℕ
channels_of text = channels_from 0 no_item text
