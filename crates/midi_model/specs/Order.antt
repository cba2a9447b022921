-- Events in the order in which they are played, and what then holds of each note.
use Rattle.std.specs.Prelude.{◌≡◌, ◌≤◌, ℕ, List, [], ◌∷◌, Bool, true, false, Some}
use Rattle.mt_base.specs.declared.event.Msg.{Msg}
use Rattle.mt_base.specs.declared.event.Msg.TheVariants.{Control}
use Rattle.mt_base.specs.Midi.{MidiEvent}
use Rattle.midi_model.specs.Sysex.{Doing, Plays, Resets, Tunes, Nothing}
use Rattle.midi_model.specs.Channel.{Role, EntryHigh, role, Target, TuningProgram, target}
use Rattle.midi_model.specs.Music.{Music, channel_at}
use Rattle.midi_model.specs.Notes.{Note}

-- no event comes before tick t, nor before the event that it follows
abbrev pub AreInOrder : ℕ → List MidiEvent → Type 0
AreInOrder t [] = Unit {0}
AreInOrder t (e ∷ es) = (t ≤ e.tick) × AreInOrder e.tick es

-- a note that has ended did so no earlier than it began
abbrev pub EndsInTime : Note → Type 0
EndsInTime n = (t : ℕ) → n.ended ≡ Some t → n.onset ≤ t

-- whether data entry of this role, with this written to, selects a tuning program
abbrev pub is_program_entry : Role → Target → Bool
is_program_entry EntryHigh TuningProgram = true
is_program_entry _ _ = false

abbrev pub selects_program : Music → Msg → Bool
selects_program m (Control c n v) = is_program_entry (role n) (target (channel_at m c).selection)
selects_program m _ = false

-- whether an event is a tuning message, or selects a tuning program on some channel
abbrev pub is_about_tuning : Music → Doing → Bool
is_about_tuning m (Plays msg) = selects_program m msg
is_about_tuning m (Tunes r) = true
is_about_tuning m Resets = false
is_about_tuning m Nothing = false
