-- A mapping, without where it lies in memory.
use Rattle.kbm_text.specs.declared.mapping.Mapping.TheInside.{Inside}
use Rattle.kbm_text.specs.Map.{KeyMap}

abbrev pub key_map : Inside → KeyMap
key_map m = record {
  first = m.first;
  last = m.last;
  middle = m.middle;
  reference = m.reference;
  nanohertz = m.nanohertz;
  octave = m.octave;
  entries = m.entries.items;
}
