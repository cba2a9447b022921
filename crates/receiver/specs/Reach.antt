-- Which messages may reach notes of other channels than their own, and a player in which no note is left to settle.
use Rattle.std.specs.Prelude.{◌≡◌, ◌<◌, ℕ, Bool, true, false, ◌&&◌, ◌||◌, not, nat_eq, is_some, slice_index}
use Rattle.mt_base.specs.Midi.{channel_of}
use Rattle.mt_base.specs.declared.event.Msg.{Msg}
use Rattle.mt_base.specs.declared.event.Msg.TheVariants.{Control}
use Rattle.midi_model.specs.Channel.{Role, Stored, EntryHigh, AllSoundOff, ResetControllers, AllNotesOff, role}
use Rattle.midi_model.specs.Sysex.{Doing, Plays, Resets, Tunes, Nothing}
use Rattle.midi_model.specs.Zones.{Zones}
use Rattle.receiver.specs.declared.ends.Ends.{Ends}
use Rattle.receiver.specs.declared.player.Player.{Player}
use Rattle.receiver.specs.Notes.{has}
use Rattle.receiver.specs.Stands.{set_up_of, slot}
use Rattle.receiver.specs.Turns.{kept, settled_by, strikes}

-- a pedal, data entry that may set a zone, and the messages to all notes
abbrev pub is_wide_role : ℕ → Role → Bool
is_wide_role n Stored = nat_eq n 64 || nat_eq n 66
is_wide_role n EntryHigh = true
is_wide_role n AllSoundOff = true
is_wide_role n ResetControllers = true
is_wide_role n AllNotesOff = true
is_wide_role n _ = false

-- whether a message may change how notes of other channels than its own are held, or end them
abbrev pub is_wide : Msg → Bool
is_wide (Control c n v) = is_wide_role n (role n)
is_wide _ = false

-- the hold pedal
abbrev pub is_hold : Msg → Bool
is_hold (Control c n v) = nat_eq n 64
is_hold _ = false

-- whether a message reaches the notes of its own channel alone: any that isn't wide, and the hold pedal where no zone is set
abbrev pub is_own : Zones → Msg → Bool
is_own z msg = not (is_wide msg) || (is_hold msg && (nat_eq z.lower 0 && nat_eq z.upper 0))

-- whether an event does nothing to the music: not to the channels, the zones and the notes, nor to which program a channel selects
abbrev pub is_silent : Doing → Bool
is_silent (Plays msg) = false
is_silent Resets = false
is_silent (Tunes r) = true
is_silent Nothing = true

-- whether an event ends no note of a channel: one that does nothing to the music, or a message to another channel that reaches the
-- notes of its own alone
abbrev pub spares : Doing → ℕ → Bool
spares (Plays msg) c = not (is_wide msg) && not (nat_eq c (channel_of msg))
spares d c = is_silent d

-- no note is left that nothing holds
abbrev pub IsCalm : Player → Type 0
IsCalm r = (t c k : ℕ) → c < 16 → k < 128 → kept (settled_by (set_up_of r) t) (slot r c k) ≡ slot r c k

-- bit k of channel c is set exactly where a note sounded there before the event, and doesn't after it or was struck again
abbrev pub TellsBy : Player → Doing → Player → Ends → Type 0
TellsBy r doing s ends = (c k : ℕ) → c < 16 → k < 128 → has (slice_index ends.keys c) k
    ≡ (is_some (slot r c k) && (strikes doing c k || not (is_some (slot s c k))))
