-- Words by example, in lines.
use Rattle.std.specs.Prelude.{ℕ, List, [], ◌∷◌, ◌==◌, if◌then◌else◌, codes, None, true, false}
use Rattle.clap.specs.Words.{Text}
use Rattle.retune_model.specs.Options.{ByLive, ByBend}
use Rattle.command_line.specs.Words.{Command, Named, Standard}

abbrev pub put_byte : ℕ → List Text → List Text
put_byte b [] = (b ∷ []) ∷ []
put_byte b (w ∷ ws) = (b ∷ w) ∷ ws

-- the words of a line, each parted from the next by a blank
abbrev pub line : Text → List Text
line [] = [] ∷ []
line (b ∷ bs) = if b == 32 then [] ∷ line bs else put_byte b (line bs)

-- `--scale s --out o i`
abbrev pub least : Command
least = record {
  scale = codes "s";
  mapping = Standard;
  options = record { route = ByBend; range = 12; keep_drums = true; program = 0; tail = 0 };
  allowed = 65535;
  sample = None;
  audit = false;
  out = codes "o";
  input = codes "i";
}

-- `i --out=o --route=live --program 7 --drums retune --map m --audit --scale s`
abbrev pub many : Command
many = record {
  scale = codes "s";
  mapping = Named (codes "m");
  options = record { route = ByLive; range = 12; keep_drums = false; program = 7; tail = 0 };
  allowed = 65535;
  sample = None;
  audit = true;
  out = codes "o";
  input = codes "i";
}
