-- How many bytes a content may have (this project's own).
use Rattle.std.specs.Prelude.{ℕ}

-- a scale or a mapping
abbrev pub text_limit : ℕ
text_limit = 262144

-- an input
abbrev pub input_limit : ℕ
input_limit = 4194304
