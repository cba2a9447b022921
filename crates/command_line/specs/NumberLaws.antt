-- The number of a text that `clap` takes as one is what its digits say.
use Rattle.std.specs.Prelude.{◌≡◌, ℕ, List}
use Rattle.std.specs.Str.Parse.{digits_value, without_leading_plus}
use Rattle.clap.specs.Words.{IsUnsignedIn}
use Rattle.command_line.specs.Words.{number_of}

abbrev pub NumbersAreRead : Type 0
NumbersAreRead = (low high : ℕ) (text : List ℕ) → IsUnsignedIn low high text → number_of low high text ≡ digits_value 10 (without_leading_plus text)
