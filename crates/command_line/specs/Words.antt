-- What the words of the command ask for:
-- `--scale S [--map M | --a440] [--route dump|live|bend|mpe] [--range R] [--channels LIST] [--drums keep|retune] [--program P] [--tail T]
-- [--sample N] [--audit] --out O INPUT`, in any order. What `clap`'s own definition takes for the command is taken.
use Rattle.std.specs.Prelude.{ℕ, ◌+◌, ◌-◌, ◌*◌, ◌≡◌, min, max, List, [], ◌∷◌, Bool, true, false, not, ◌&&◌, ◌||◌, nat_eq, length, codes, map, Option, Some, None, is_some, unwrap_or, bytes_eq, if◌then◌else◌}
use Rattle.std.specs.Borrow.{Bor}
use Rattle.std.specs.Option.{option_map}
use Rattle.clap.specs.Words.{Row, Text, fault_of, first_of, found_of, matches_of, rows_of}
use Rattle.clap.specs.declared.parser.matches.ArgMatches.{ArgMatches}
use Rattle.retune_model.specs.Options.{Route, ByDump, ByLive, ByBend, ByMpe, Options, bends_notes}
use Rattle.retune_model.specs.Faults.{is_bend}
use Rattle.lifetimes.specs.Views.{options_of}
use Rattle.command_line.specs.App.{app}
use Rattle.command_line.specs.Channels.{channels_of}
use Rattle.command_line.specs.declared.words.Command as program
use Rattle.command_line.specs.declared.words.MapChoice as choice
use Rattle.command_line.specs.declared.words.MapChoice.TheVariants as choices
use Rattle.command_line.specs.declared.fault.WordsFault.{WordsFault}
use Rattle.command_line.specs.declared.fault.WordsFault.TheVariants.{Usage, Memory}

abbrev pub texts : List (Bor (List ℕ)) → List Text
texts words = map (λ w. w.now) words

-- what `clap` found
abbrev pub rows_in : ArgMatches → List Row
rows_in matches = rows_of (found_of matches)

-- ---- what is told of one option

abbrev pub is_told : List Row → Text → Bool
is_told rows id = is_some (first_of id rows)

-- the text of a required word
abbrev pub text_of : List Row → Text → Text
text_of rows id = unwrap_or (first_of id rows) []

-- whether a flag is set
abbrev pub is_set : List Row → Text → Bool
is_set rows id = bytes_eq (text_of rows id) (codes "true")

-- The number of some digits, at most `high`; a plus before them counts nothing.
unfoldable pub number_from : (high n : ℕ) → Text → ℕ
number_from high n [] = n
number_from high n (b ∷ bs) = number_from high (min high (10 * n + (b - 48))) bs

-- A number from low to high. No other one is taken by `clap`.
abbrev pub number_of : (low high : ℕ) → Text → ℕ
number_of low high text = max low (number_from high 0 text)

abbrev pub number_or : ℕ → (low high : ℕ) → Option Text → ℕ
number_or other low high None = other
number_or other low high (Some text) = number_of low high text

-- ---- texts that are one of a list

abbrev pub route_of_text : Text → Option Route
route_of_text text =
    if bytes_eq text (codes "dump") then Some ByDump else if bytes_eq text (codes "live") then Some ByLive
    else if bytes_eq text (codes "bend") then Some ByBend else if bytes_eq text (codes "mpe") then Some ByMpe else None

abbrev pub keeps_of_text : Text → Option Bool
keeps_of_text text = if bytes_eq text (codes "keep") then Some true else if bytes_eq text (codes "retune") then Some false else None

-- what a text says; where there is none, something else
abbrev pub told_or : {A : Type 0} → A → (Text → Option A) → Option Text → Option A
told_or other reads None = Some other
told_or other reads (Some text) = reads text

abbrev pub route_in : List Row → Option Route
route_in rows = told_or ByBend route_of_text (first_of (codes "route") rows)

abbrev pub drums_in : List Row → Option Bool
drums_in rows = told_or true keeps_of_text (first_of (codes "drums") rows)

abbrev pub channels_in : List Row → Option ℕ
channels_in rows = told_or 65535 channels_of (first_of (codes "channels") rows)

-- ---- the command

-- Which mapping is asked for: that of a text, by its name; from key 69 at 440 hertz; or the standard one.
pub data MapChoice : Type 0 where
  Named : Text → MapChoice
  At440 : MapChoice
  Standard : MapChoice

abbrev pub mapping_or : Bool → Option Text → MapChoice
mapping_or at_440 (Some name) = Named name
mapping_or true None = At440
mapping_or false None = Standard

-- the bend sensitivity where none is told, in semitones
abbrev pub usual_range : Route → ℕ
usual_range ByMpe = 48
usual_range _ = 12

pub record Command : Type 0 where
  pub scale : Text
  pub mapping : MapChoice
  pub options : Options
  -- bit c stands for channel c + 1
  pub allowed : ℕ
  -- how many notes a sample has, where no input is asked for
  pub sample : Option ℕ
  pub audit : Bool
  pub out : Text
  pub input : Text

abbrev pub options_in : List Row → Route → Bool → Options
options_in rows route keeps = record {
  route = route;
  range = number_or (usual_range route) 1 96 (first_of (codes "range") rows);
  keep_drums = keeps;
  program = number_or 0 0 127 (first_of (codes "program") rows);
  tail = number_or 0 0 268435455 (first_of (codes "tail") rows);
}

abbrev pub command_by : List Row → Route → Bool → ℕ → Command
command_by rows route keeps allowed = record {
  scale = text_of rows (codes "scale");
  mapping = mapping_or (is_set rows (codes "a440")) (first_of (codes "map") rows);
  options = options_in rows route keeps;
  allowed = allowed;
  sample = option_map (number_of 1 100000) (first_of (codes "sample") rows);
  audit = is_set rows (codes "audit");
  out = text_of rows (codes "out");
  input = text_of rows (codes "input");
}

-- ---- what is wrong with the words

-- An option that doesn't go with the rest: a range on dump or live, channels or a tail without bend, a program on bend or MPE, or two
-- mappings.
abbrev pub is_unfit : List Row → Route → Bool
is_unfit rows route =
    (is_told rows (codes "range") && not (bends_notes route))
    || (is_told rows (codes "channels") && not (is_bend route))
    || (is_told rows (codes "tail") && not (is_bend route))
    || (is_told rows (codes "program") && not (not (bends_notes route)))
    || (is_told rows (codes "map") && not (not (is_set rows (codes "a440"))))

-- 1: `clap` takes them for no command; 2: a text isn't one of those listed; 3: an option doesn't go with the rest
pub data Reading : Type 0 where
  Wrong : (kind : ℕ) → Reading
  Read : Command → Reading

abbrev pub reading_by : List Row → Option Route → Option Bool → Option ℕ → Reading
reading_by rows (Some route) (Some keeps) (Some allowed) =
    if is_unfit rows route then Wrong 3 else Read (command_by rows route keeps allowed)
reading_by rows _ _ _ = Wrong 2

abbrev pub reading_in : List Row → Reading
reading_in rows = reading_by rows (route_in rows) (drums_in rows) (channels_in rows)

-- what the words say
abbrev pub reading_of : List Text → Reading
reading_of words = if nat_eq (length (fault_of app words)) 0 then reading_in (matches_of app words) else Wrong 1

-- ---- what the program tells

abbrev pub view_choice : choice.MapChoice → MapChoice
view_choice (choices.Named name) = Named name.now
view_choice choices.At440 = At440
view_choice choices.Standard = Standard

abbrev pub view_command : program.Command → Command
view_command c = record {
  scale = c.scale.now;
  mapping = view_choice c.mapping;
  options = options_of c.options;
  allowed = c.allowed;
  sample = c.sample;
  audit = c.audit;
  out = c.out.now;
  input = c.input.now;
}

abbrev pub IsWordsFault : Reading → WordsFault → Type 0
IsWordsFault reading (Usage kind) = reading ≡ Wrong kind
IsWordsFault reading Memory = Unit {0}
