-- The printed texts of plans, and of sources that get none (this project's own). Numbers are decimal, channels count from 1, and each line
-- ends with a line feed.
use Rattle.std.specs.Prelude.{ℕ, ◌+◌, List, [], ◌++◌, Bool, true, false, not, nat_eq, if◌then◌else◌, flat_map, codes, decimal}
use Rattle.std.specs.Fmt.{signed_decimal}
use Rattle.std.specs.List.{list_any}
use Rattle.retune_model.specs.Pairs.{Pair}
use Rattle.channel_plan.specs.declared.fault.Instant.{Instant}
use Rattle.channel_plan.specs.declared.fault.TooMany.{TooMany}
use Rattle.channel_plan.specs.declared.plan.Zone.{Zone}

-- ---- lines of the report

-- on how many channels the notes are
abbrev pub channels_line : ℕ → List ℕ
channels_line count = codes "channels " ++ decimal count ++ codes "\n"

-- the greatest number of pairs at once, and the instant that has it first
abbrev pub need_line : ℕ → Instant → List ℕ
need_line need at = codes "need " ++ decimal need ++ codes " tick " ++ decimal at.tick ++ codes " position " ++ decimal at.position ++ codes "\n"

-- the channel of a part, and its steps
abbrev pub pair_line : Pair → List ℕ
pair_line p = codes "pair " ++ decimal (p.part.channel + 1) ++ codes " " ++ signed_decimal p.steps ++ codes "\n"

abbrev pub pair_lines : List Pair → List ℕ
pair_lines ps = flat_map pair_line ps

-- which zone (MPE 1.0), and of which part, with the need of that part
abbrev pub zone_name : Bool → List ℕ
zone_name true = codes "upper"
zone_name false = codes "lower"

abbrev pub zone_line : Zone → List ℕ
zone_line z = codes "zone " ++ zone_name z.upper ++ codes " part " ++ decimal (z.part + 1) ++ codes " " ++ need_line z.need z.instant

abbrev pub port_line : ℕ → List ℕ
port_line port = codes "port " ++ decimal port ++ codes "\n"

-- whether some port is another than port 0: then each port is named
abbrev pub are_named : List ℕ → Bool
are_named ports = list_any (λ z. not (nat_eq z 0)) ports

-- the lines of each port, behind one that names it; else the lines of port 0 alone
abbrev pub port_lines : (ℕ → List ℕ) → List ℕ → List ℕ
port_lines lines ports = if are_named ports then flat_map (λ z. port_line z ++ lines z) ports else lines 0

-- ---- lines of faults

-- a port other than port 0
abbrev pub on_port : ℕ → List ℕ
on_port z = if nat_eq z 0 then [] else codes " on port " ++ decimal z

-- what a port needs, or on MPE one of its zones, and how many channels there may be
abbrev pub too_many_line : TooMany → List ℕ
too_many_line t = codes "mtune: needs " ++ decimal t.need ++ codes " channels of " ++ decimal t.allowed ++ on_port t.port
    ++ codes " at tick " ++ decimal t.instant.tick ++ codes " position " ++ decimal t.instant.position ++ codes "\n"

-- how many parts of a port have a note on
abbrev pub too_many_parts_line : ℕ → ℕ → List ℕ
too_many_parts_line port parts = codes "mtune: " ++ decimal parts ++ codes " parts on mpe" ++ on_port port ++ codes "\n"
