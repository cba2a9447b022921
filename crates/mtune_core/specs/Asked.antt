-- What is known of the options that the words ask for, and which channels the notes may be given.
use Rattle.std.specs.Prelude.{◌≡◌, ◌≤◌, ℕ, Bool, false, IfSome}
use Rattle.retune_model.specs.Options.{Route, ByDump, ByLive, ByBend, ByMpe, Options, bends_notes}
use Rattle.retune_model.specs.Faults.{is_bend}
use Rattle.channel_plan.specs.Layouts.{allows}
use Rattle.channel_plan.specs.declared.layout.Layout.{Layout}
use Rattle.channel_plan.specs.declared.layout.Layout.TheVariants.{Own, Bend, Mpe}
use Rattle.command_line.specs.Words.{Command}

-- the options are within their ranges, and notes rest on bend alone
pub record AreInRange (o : Options) : Type 0 where
  pub range_some : 1 ≤ o.range
  pub range_high : o.range ≤ 96
  pub program : o.program ≤ 127
  pub restless : is_bend o.route ≡ false → o.tail ≡ 0

-- what dump and live ask of them
pub record IsPlain (o : Options) : Type 0 where
  pub route : bends_notes o.route ≡ false
  pub range_some : 1 ≤ o.range
  pub range_high : o.range ≤ 96
  pub program : o.program ≤ 127
  pub restless : o.tail ≡ 0

-- on bend the channels of a mask, on MPE the members of zones; on dump and live each note keeps its own
abbrev pub layout_by : Route → ℕ → Layout
layout_by ByDump channels = Own
layout_by ByLive channels = Own
layout_by ByBend channels = Bend channels
layout_by ByMpe channels = Mpe

-- the channels that a command allows
abbrev pub allowed_by : Command → ℕ → Bool
allowed_by c = allows (layout_by c.options.route c.allowed)

-- what is so of a command that was read: besides, a sample has from 1 to 100,000 chords
pub record IsFit (c : Command) : Type 0 where
  pub range : AreInRange c.options
  pub sample : IfSome c.sample (λ n. (1 ≤ n) × (n ≤ 100000))
