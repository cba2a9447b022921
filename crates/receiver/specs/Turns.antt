-- What one event does to the note that sounds on one key.
use Rattle.std.specs.Prelude.{ℕ, zero, suc, List, [], Bool, true, false, ◌&&◌, nat_eq, if◌then◌else◌, Option, Some, None, set, get_or, replicate}
use Rattle.mt_base.specs.Midi.{channel_of}
use Rattle.mt_base.specs.declared.event.Msg.{Msg}
use Rattle.mt_base.specs.declared.event.Msg.TheVariants.{NoteOn, NoteOff, KeyPressure, Control}
use Rattle.midi_model.specs.Channel.{Channel, Role, Stored, ResetControllers, AllSoundOff, AllNotesOff, control_of, role, apply, default_channel}
use Rattle.midi_model.specs.Sysex.{Doing, Plays, Resets, Tunes}
use Rattle.midi_model.specs.Zones.{Zones, no_zones, bend_range_at}
use Rattle.midi_model.specs.Notes.{Note, sounds, release_key, with_pressure, sostenuto, without_pressure, end_all, release_all}
use Rattle.midi_model.specs.Music.{Music, channel_at, channels_after, zones_after, begun, settle_note, quiet}
use Rattle.midi_model.specs.Tuning.{retuned}
use Rattle.receiver.specs.State.{program_after}

-- channels and zones under which nothing sounds yet
abbrev pub set_up : List Channel → Zones → Music
set_up ss z = record { channels = ss; zones = z; notes = [] }

-- a note that sounds, after what may end it
abbrev pub kept : (Note → Note) → Option (ℕ × Note) → Option (ℕ × Note)
kept f None = None
kept f (Some x) = if sounds (f x.1) then Some (x.0, f x.1) else None

-- the notes of one channel alone
abbrev pub only_on : ℕ → (Note → Note) → ℕ → ℕ → Option (ℕ × Note) → Option (ℕ × Note)
only_on i f c k o = if nat_eq c i then kept f o else o

-- a note that begins, with its number, in place of the one that sounded on its key
abbrev pub struck : ℕ → Note → ℕ → ℕ → Option (ℕ × Note) → Option (ℕ × Note)
struck number n c k o = if nat_eq c n.channel && nat_eq k n.key then Some (number, n) else o

-- by the sostenuto pedal of a channel, whose controller 66 gets a value
abbrev pub sostenuto_by : Music → ℕ → ℕ → Note → Note
sostenuto_by m c v n = sostenuto m.zones c (control_of (channel_at m c) 66) v n

-- where no pedal holds it any more
abbrev pub settled_by : Music → ℕ → Note → Note
settled_by m t n = settle_note m.channels m.zones t n

-- by a controller
abbrev pub turned : Music → ℕ → ℕ → ℕ → ℕ → Role → Option (ℕ × Note) → Option (ℕ × Note)
turned m t c n v Stored o = if nat_eq n 66 then kept (sostenuto m.zones c (control_of (channel_at m c) 66) v) o else o
turned m t c n v ResetControllers o = kept (λ x. without_pressure c (sostenuto m.zones c (control_of (channel_at m c) 66) 0 x)) o
turned m t c n v AllSoundOff o = kept (end_all t m.zones c) o
turned m t c n v AllNotesOff o = kept (release_all t m.zones c) o
turned m t c n v _ o = o

abbrev pub turned_by_control : Music → ℕ → ℕ → ℕ → ℕ → ℕ → ℕ → Option (ℕ × Note) → Option (ℕ × Note)
turned_by_control m t c n v d j o = turned m t c n v (role n) o

-- By a message, before what nothing holds ends: the note on key j of channel d, where the next note on is that of note `next`.
abbrev pub acted : Music → ℕ → ℕ → Msg → ℕ → ℕ → Option (ℕ × Note) → Option (ℕ × Note)
acted m next t (NoteOn c k zero) d j o = kept (release_key t c k 64) o
acted m next t (NoteOn c k (suc v)) d j o = if nat_eq d c && nat_eq j k then Some (next, begun m t c k (suc v)) else o
acted m next t (NoteOff c k v) d j o = kept (release_key t c k v) o
acted m next t (KeyPressure c k v) d j o = kept (with_pressure c k v) o
acted m next t (Control c n v) d j o = turned m t c n v (role n) o
acted m next t _ d j o = o

-- by an event
abbrev pub sounding_after : Music → ℕ → ℕ → Doing → ℕ → ℕ → Option (ℕ × Note) → Option (ℕ × Note)
sounding_after m next t (Plays msg) d j o = kept (settle_note (channels_after m msg) (zones_after m msg) t) (acted m next t msg d j o)
sounding_after m next t Resets d j o = None
sounding_after m next t _ d j o = o

-- whether an event strikes a key
abbrev pub strikes_by : Msg → ℕ → ℕ → Bool
strikes_by (NoteOn c k (suc v)) d j = nat_eq d c && nat_eq j k
strikes_by _ d j = false

abbrev pub strikes : Doing → ℕ → ℕ → Bool
strikes (Plays msg) d j = strikes_by msg d j
strikes _ d j = false

-- whether an event begins a note: a note on, unless its velocity is 0
abbrev pub begins_by : Msg → Bool
begins_by (NoteOn c k (suc v)) = true
begins_by _ = false

abbrev pub begins : Doing → Bool
begins (Plays msg) = begins_by msg
begins _ = false

-- the pressure of the key of a note that sounds
abbrev pub pressure_in : Option (ℕ × Note) → ℕ
pressure_in None = 0
pressure_in (Some x) = x.1.pressure

-- ---- what an event does to the channels, the zones and the tunings, key by key

-- by a message, as far as it changes its own channel
abbrev pub applied : List Channel → Msg → List Channel
applied ss msg = set ss (channel_of msg) (apply (get_or ss (channel_of msg) default_channel) msg)

-- channel c gets the bend sensitivity that setting the zone of master m gives it
abbrev pub ranged_at : Zones → ℕ → ℕ → List Channel → List Channel
ranged_at z m c ss = set ss c (bend_range_at z m c (get_or ss c default_channel))

abbrev pub channels_by : Music → Doing → List Channel
channels_by m (Plays msg) = channels_after m msg
channels_by m Resets = quiet.channels
channels_by m _ = m.channels

abbrev pub zones_by : Music → Doing → Zones
zones_by m (Plays msg) = zones_after m msg
zones_by m Resets = no_zones
zones_by m _ = m.zones

-- the tuning program of the channel that a message is about
abbrev pub selected_by : Music → Doing → List (Option ℕ) → List (Option ℕ)
selected_by m (Plays msg) old = set old (channel_of msg) (program_after (channel_at m (channel_of msg)) msg (get_or old (channel_of msg) None))
selected_by m Resets old = replicate 16 None
selected_by m _ old = old

abbrev pub values_by : Doing → (ℕ → ℕ → Option ℕ) → ℕ → ℕ → Option ℕ
values_by (Tunes r) old p k = retuned r.program r.keys old p k
values_by Resets old p k = None
values_by _ old p k = old p k
