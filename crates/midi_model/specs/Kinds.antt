-- The numbers of the faults of a file (this project's own).
use Rattle.std.specs.Prelude.{ℕ}
use Rattle.midi_model.specs.declared.fault.SmfKind.{SmfKind}
use Rattle.midi_model.specs.declared.fault.SmfKind.TheVariants.{NotMidi, BadHeader, Format2, FormatNumber, Truncated, MissingTrack, BadDelta, NoStatus, BadStatus, BadData, MissingEnd, TrackTooLong, TooManyTracks}

abbrev pub kind_number : SmfKind → ℕ
kind_number NotMidi = 1
kind_number BadHeader = 2
kind_number Format2 = 3
kind_number FormatNumber = 4
kind_number Truncated = 5
kind_number MissingTrack = 6
kind_number BadDelta = 7
kind_number NoStatus = 8
kind_number BadStatus = 9
kind_number BadData = 10
kind_number MissingEnd = 11
kind_number TrackTooLong = 12
kind_number TooManyTracks = 13
