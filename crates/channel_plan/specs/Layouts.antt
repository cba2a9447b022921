-- Which channels a layout allows, and the routes that it is of.
use Rattle.std.specs.Prelude.{ℕ, Bool, true}
use Rattle.retune_model.specs.Options.{Route, ByDump, ByLive, ByBend, ByMpe}
use Rattle.channel_plan.specs.Masks.{is_allowed}
use Rattle.channel_plan.specs.declared.layout.Layout.{Layout}
use Rattle.channel_plan.specs.declared.layout.Layout.TheVariants.{Own, Bend, Mpe}

-- whether a channel may be given to a note on bend; on the other routes nothing is asked
abbrev pub allows : Layout → ℕ → Bool
allows (Bend allowed) c = is_allowed allowed c
allows _ c = true

abbrev pub IsLayoutOf : Route → Layout → Type 0
IsLayoutOf ByDump Own = Unit {0}
IsLayoutOf ByLive Own = Unit {0}
IsLayoutOf ByBend (Bend allowed) = Unit {0}
IsLayoutOf ByMpe Mpe = Unit {0}
IsLayoutOf _ _ = ⊥
