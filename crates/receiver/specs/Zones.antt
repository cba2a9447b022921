-- The zones as the program keeps them.
use Rattle.midi_model.specs.Zones.{Zones}
use Rattle.receiver.specs.declared.zones.ZoneSizes.{ZoneSizes}

abbrev pub zones_in : ZoneSizes → Zones
zones_in z = record { lower = z.lower; upper = z.upper }
