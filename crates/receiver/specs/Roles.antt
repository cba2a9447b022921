-- What a controller is for and what data entry writes to, as the program tells them apart.
use Rattle.std.specs.Prelude.{◌≡◌, ℕ, List, true, Option, Some, None}
use Rattle.midi_model.specs.Params.{Entry, put}
use Rattle.midi_model.specs.ParameterLaws.{IsSmall}
use Rattle.midi_model.specs.WellFormed.{is_settable}
use Rattle.midi_model.specs.Channel.{Channel, controlled, Role, Stored, EntryHigh, EntryLow, NrpnLow, NrpnHigh, RpnLow, RpnHigh, AllSoundOff, ResetControllers, AllNotesOff, Ignored, Target, Nowhere, TuningProgram, ZoneSize, Value}
use Rattle.receiver.specs.Params.{numbered, parameter_of}
use Rattle.receiver.specs.declared.param.Param.{Param}
use Rattle.receiver.specs.declared.role.DataByte.{DataByte}
use Rattle.receiver.specs.declared.role.DataByte.TheVariants.{Msb, Lsb}
use Rattle.receiver.specs.declared.role.Purpose.{Purpose}
use Rattle.receiver.specs.declared.role.Purpose.TheVariants.{Keep, DataEntryMsb, DataEntryLsb, NrpnLsb, NrpnMsb, RpnLsb, RpnMsb, SoundOff, Reset, NotesOff, Nothing}
use Rattle.receiver.specs.declared.role.Selected.{Selected}
use Rattle.receiver.specs.declared.role.Selected.TheVariants.{Null, Tuning, Zone, Of}

abbrev pub role_of : Purpose → Role
role_of Keep = Stored
role_of DataEntryMsb = EntryHigh
role_of DataEntryLsb = EntryLow
role_of NrpnLsb = NrpnLow
role_of NrpnMsb = NrpnHigh
role_of RpnLsb = RpnLow
role_of RpnMsb = RpnHigh
role_of SoundOff = AllSoundOff
role_of Reset = ResetControllers
role_of NotesOff = AllNotesOff
role_of Nothing = Ignored

-- data entry of a byte
abbrev pub entry_role : DataByte → Role
entry_role Msb = EntryHigh
entry_role Lsb = EntryLow

-- the channel after data entry of a byte
abbrev pub entered : DataByte → ℕ → Channel → Channel
entered byte v s = controlled s 6 v (entry_role byte)

abbrev pub target_of : Selected → Target
target_of Null = Nowhere
target_of Tuning = TuningProgram
target_of Zone = ZoneSize
target_of (Of registered high low) = Value (numbered registered high low)

-- a parameter with a value has a number of bytes of seven bits, and is one to which data entry gives a value
abbrev pub HasValue : Selected → Type 0
HasValue (Of registered high low) = IsSmall (numbered registered high low) × (is_settable (numbered registered high low) ≡ true)
HasValue _ = Unit {0}

-- the channel after a parameter got a value
abbrev pub given : Channel → Param → Channel
given s p = record s { params = put (parameter_of p) p.value s.params }

-- the parameters after the one that is told, if any, got its value
abbrev pub given_by : Option Param → List Entry → List Entry
given_by None es = es
given_by (Some p) es = put (parameter_of p) p.value es
