-- Laws of powers and of pitches.
use Rattle.std.specs.Prelude.{ℕ, ◌+◌, ◌*◌, ◌^◌, ◌≡◌, ◌<◌, ◌≤◌, ℤ, pos, ◌+ℤ◌, ◌-ℤ◌, ◌*ℤ◌, ◌≤ℤ◌, neg_ℤ}
use Rattle.mt_base.specs.Grains.{octave}
use Rattle.mt_base.specs.Pitch.{Pitch, IsPitch, AtLeast, AtMost, ratio, exactly, added, subtracted, times}

abbrev pub PowerOfSum : Type 0
PowerOfSum = (x i j : ℕ) → x ^ (i + j) ≡ x ^ i * x ^ j

abbrev pub PowerOfProduct : Type 0
PowerOfProduct = (x y i : ℕ) → (x * y) ^ i ≡ x ^ i * y ^ i

abbrev pub PowerOfPower : Type 0
PowerOfPower = (x i j : ℕ) → x ^ (i * j) ≡ (x ^ i) ^ j

abbrev pub PowersGrow : Type 0
PowersGrow = (x y i : ℕ) → x ≤ y → x ^ i ≤ y ^ i

-- the power of a greater number is greater
abbrev pub PowersTell : Type 0
PowersTell = (x y i : ℕ) → 0 < i → x ^ i ≤ y ^ i → x ≤ y

-- a sum is at least, and at most, the sum of what its parts are
abbrev pub LeastOfSum : Type 0
LeastOfSum = (p q : Pitch) (n m : ℤ) → AtLeast p n → AtLeast q m → AtLeast (added p q) (n +ℤ m)

abbrev pub MostOfSum : Type 0
MostOfSum = (p q : Pitch) (n m : ℤ) → AtMost p n → AtMost q m → AtMost (added p q) (n +ℤ m)

-- what is taken away is bounded from the other side
abbrev pub LeastOfDifference : Type 0
LeastOfDifference = (p q : Pitch) (n m : ℤ) → AtLeast p n → AtMost q m → AtLeast (subtracted p q) (n -ℤ m)

abbrev pub MostOfDifference : Type 0
MostOfDifference = (p q : Pitch) (n m : ℤ) → AtMost p n → AtLeast q m → AtMost (subtracted p q) (n -ℤ m)

-- j equal pitches
abbrev pub LeastOfMultiple : Type 0
LeastOfMultiple = (p : Pitch) (n : ℤ) (j : ℕ) → AtLeast p n → AtLeast (times j p) (pos j *ℤ n)

abbrev pub MostOfMultiple : Type 0
MostOfMultiple = (p : Pitch) (n : ℤ) (j : ℕ) → AtMost p n → AtMost (times j p) (pos j *ℤ n)

-- a wider bracket holds where a narrower one does
abbrev pub LeastOfLess : Type 0
LeastOfLess = (p : Pitch) (n m : ℤ) → m ≤ℤ n → AtLeast p n → AtLeast p m

abbrev pub MostOfMore : Type 0
MostOfMore = (p : Pitch) (n m : ℤ) → n ≤ℤ m → AtMost p n → AtMost p m

-- the ends of a bracket are in order
abbrev pub EndsInOrder : Type 0
EndsInOrder = (p : Pitch) (n m : ℤ) → IsPitch p → AtLeast p n → AtMost p m → n ≤ℤ m

-- a whole number of grains
abbrev pub LeastOfExact : Type 0
LeastOfExact = (n : ℤ) → AtLeast (exactly n) n

abbrev pub MostOfExact : Type 0
MostOfExact = (n : ℤ) → AtMost (exactly n) n

-- a ratio of 2 ^ j is j octaves, one of 1 / 2 ^ j as many down
abbrev pub LeastOfOctaves : Type 0
LeastOfOctaves = (b j : ℕ) → AtLeast (ratio (2 ^ j * b) b) (pos (j * octave))

abbrev pub MostOfOctaves : Type 0
MostOfOctaves = (b j : ℕ) → AtMost (ratio (2 ^ j * b) b) (pos (j * octave))

abbrev pub LeastOfOctavesDown : Type 0
LeastOfOctavesDown = (a j : ℕ) → AtLeast (ratio a (2 ^ j * a)) (neg_ℤ (pos (j * octave)))

abbrev pub MostOfOctavesDown : Type 0
MostOfOctavesDown = (a j : ℕ) → AtMost (ratio a (2 ^ j * a)) (neg_ℤ (pos (j * octave)))

-- the pitch of a greater ratio is greater, of an equal ratio the same
abbrev pub LeastOfGreater : Type 0
LeastOfGreater = (p q : Pitch) (n : ℤ) → 0 < p.a → p.c ≡ q.c → p.a * q.b ≤ q.a * p.b → AtLeast p n → AtLeast q n

abbrev pub MostOfSmaller : Type 0
MostOfSmaller = (p q : Pitch) (n : ℤ) → 0 < p.b → p.c ≡ q.c → q.a * p.b ≤ p.a * q.b → AtMost p n → AtMost q n
