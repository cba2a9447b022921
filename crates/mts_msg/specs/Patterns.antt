use Rattle.midi_model.specs.Sysex.{Wanted, Exactly, Any, HighHalf}
use Rattle.mts_msg.specs.declared.pattern.Place.{Place}
use Rattle.mts_msg.specs.declared.pattern.Place.TheVariants as place

-- what a place of a pattern stands for
abbrev pub wanted_of : Place → Wanted
wanted_of (place.Exactly n) = Exactly n
wanted_of place.Any = Any
wanted_of (place.HighHalf n) = HighHalf n
