-- The keys that the program read.
use Rattle.kbm_text.specs.declared.reading.KeyFields.{KeyFields}
use Rattle.kbm_text.specs.Reading.{Keys}

abbrev pub view_keys : KeyFields → Keys
view_keys k = record { first = k.first; last = k.last; middle = k.middle; reference = k.reference }
