-- What the output must do: play what the source plays, each note at its source pitch (this project's own).
--
-- The music of a source and of an output is given as two lists of events, each in the order in which it is played: the events of
-- one port.
use Rattle.std.specs.Prelude.{◌≡◌, ◌≢◌, ℕ, suc, ℤ, List, [], ◌∷◌, ◌++◌, Bool, true, false, ◌&&◌, not, nat_eq, nat_le, if◌then◌else◌, Option, Some, None, map, filter, length}
use Rattle.mt_base.specs.declared.event.Msg.TheVariants.{NoteOn}
use Rattle.mt_base.specs.Midi.{MidiWhat, Says, SysexOf, Timed, MidiEvent}
use Rattle.mt_base.specs.Pitch.{Pitch, Within}
use Rattle.midi_model.specs.FileText.{MidiFile}
use Rattle.midi_model.specs.Merged.{merged, of_track, timed}
use Rattle.midi_model.specs.Sysex.{is_tuning}
use Rattle.midi_model.specs.Params.{Parameter, value_of, rpn}
use Rattle.midi_model.specs.Channel.{Channel}
use Rattle.midi_model.specs.Zones.{governor}
use Rattle.midi_model.specs.Notes.{Note, sounds}
use Rattle.midi_model.specs.Music.{Music, channel_at}
use Rattle.midi_model.specs.Receiver.{Receiver, after}
use Rattle.midi_model.specs.Played.{played}
use Rattle.retune_model.specs.Table.{Scaling, Bounds, BendTarget, bend_target}
use Rattle.retune_model.specs.Options.{Route, Options, bends_notes, is_drum_message, keeps_drums, is_retuned, bound}
use Rattle.retune_model.specs.Source.{source_pitch}
use Rattle.retune_model.specs.Ports.{events_on}

-- two lists are equally long, and their elements agree in order
abbrev pub Pairwise : {A B : Type 0} → (A → B → Type 0) → List A → List B → Type 0
Pairwise R [] [] = Unit {0}
Pairwise R (x ∷ xs) (y ∷ ys) = R x y × Pairwise R xs ys
Pairwise R _ _ = ⊥

-- the receiver once all events up to a tick have come
abbrev pub until : ℕ → List MidiEvent → List MidiEvent
until t es = filter (λ e. nat_le e.tick t) es

abbrev pub at_tick : ℕ → List MidiEvent → Receiver
at_tick t es = after (until t es)

-- the notes that are retuned, in the order of their note ons; `part` says of which channels they are
abbrev pub retuned_notes : (ℕ → Bool) → Receiver → List Note
retuned_notes part r = filter (λ n. part n.channel) r.music.notes

-- ---- the same notes

-- the key on which the output plays a source key, for a note that begins at this tick
abbrev pub key_of : Option BendTarget → Option ℕ
key_of (Some t) = Some t.key
key_of None = None

abbrev pub bend_target_if : ℕ → Option Bounds → Option BendTarget
bend_target_if range (Some b) = bend_target range b
bend_target_if range None = None

abbrev pub output_key : Options → (ℕ → ℕ → Option Bounds) → ℕ → ℕ → Option ℕ
output_key o table key onset = if bends_notes o.route then key_of (bend_target_if o.range (table key onset)) else Some key

pub record IsSameNote (goes_to : ℕ → ℕ → Option ℕ) (a b : Note) : Type 0 where
  pub key : goes_to a.key a.onset ≡ Some b.key
  pub onset : b.onset ≡ a.onset
  pub velocity : b.velocity ≡ a.velocity
  pub voice : b.voice ≡ a.voice
  pub release : b.release ≡ a.release
  pub ended : b.ended ≡ a.ended

-- At every tick there are equally many retuned notes, and the i-th of each agree in onset, velocity, voice, release and end, the
-- one of the output on the key to which the source's goes.
abbrev pub HasSameNotes : (ℕ → ℕ → Option ℕ) → (ℕ → Bool) → List MidiEvent → List MidiEvent → Type 0
HasSameNotes goes_to part source out = (t : ℕ) → Pairwise (IsSameNote goes_to) (retuned_notes part (at_tick t source)) (retuned_notes part (at_tick t out))

-- ---- the same sound

-- the pitch is there, and within a distance of what is played
abbrev pub IsWithin : Option Pitch → ℤ → ℕ → Type 0
IsWithin (Some p) n d = Within p n d
IsWithin None n d = ⊥

-- What the output is played by: the pitch at which it plays a note once it took some events, in grains above key 0, and how far that may
-- be from the note's source pitch.
pub record Device : Type 0 where
  pub pitch : List MidiEvent → Note → ℤ
  pub bound : ℕ

-- the receiver itself, within half a step of the route and a thousandth of a cent
abbrev pub plain_device : Options → Device
plain_device o = record { pitch = λ es n. played (after es) n; bound = bound o }

-- the channel whose state a note has: its master's where it is a zone's member, else its own
abbrev pub state_of : Music → Note → Channel
state_of m n = channel_at m (governor m.zones n.channel)

-- Once the source's events have come and once the output's have: two notes have the same controllers, pressures and parameters.
pub record HasSameSettings (source out : List MidiEvent) (a b : Note) : Type 0 where
  pub controls : (state_of (after out).music b).controls ≡ (state_of (after source).music a).controls
  pub pressure : (state_of (after out).music b).pressure ≡ (state_of (after source).music a).pressure
  pub key_pressure : b.pressure ≡ a.pressure
  -- all parameters but the bend sensitivity
  pub parameters : (p : Parameter) → p ≢ rpn 0 → value_of (state_of (after out).music b).params p ≡ value_of (state_of (after source).music a).params p

-- and the device plays the one within its bound of the source pitch of the other
abbrev pub IsInTune : Scaling → Options → Device → List MidiEvent → List MidiEvent → Note → Note → Type 0
IsInTune scaling o device source out a b = IsWithin (source_pitch scaling o (after source).music a) (device.pitch out b) device.bound

pub record SoundsTheSame (scaling : Scaling) (o : Options) (device : Device) (source out : List MidiEvent) (a b : Note) : Type 0 where
  pub settings : HasSameSettings source out a b
  pub pitch : IsInTune scaling o device source out a b

-- At every tick, each retuned note of the source that sounds then has its controllers, pressures and parameters in the output too,
-- and is played within the bound of its source pitch.
abbrev pub HasSameSound : Scaling → Options → Device → (ℕ → Bool) → List MidiEvent → List MidiEvent → Type 0
HasSameSound scaling o device part source out = (t : ℕ) →
    Pairwise (λ a b. sounds a ≡ true → SoundsTheSame scaling o device (until t source) (until t out) a b)
    (retuned_notes part (at_tick t source)) (retuned_notes part (at_tick t out))

-- ---- right from its beginning

-- a note with the events up to and including the one that begins it, and that event's track
pub record Beginning : Type 0 where
  pub events : List MidiEvent
  pub note : Note
  pub track : ℕ

-- whether an event begins a note of such a channel
abbrev pub begins_note : (ℕ → Bool) → MidiWhat → Bool
begins_note part (Says (NoteOn c k (suc v))) = part c
begins_note part _ = false

-- the note that was begun last
abbrev pub last_note : List MidiEvent → ℕ → List Note → List Beginning
last_note es track [] = []
last_note es track (n ∷ []) = record { events = es; note = n; track = track } ∷ []
last_note es track (n ∷ m ∷ ns) = last_note es track (m ∷ ns)

-- es are the events up to and including e
abbrev pub beginning : (ℕ → Bool) → List MidiEvent → MidiEvent → List Beginning
beginning part es e = if begins_note part e.what then last_note es e.track (after es).music.notes else []

abbrev pub beginnings_from : (ℕ → Bool) → List MidiEvent → List MidiEvent → List Beginning
beginnings_from part before [] = []
beginnings_from part before (e ∷ es) = let now = before ++ e ∷ [] in beginning part now e ++ beginnings_from part now es

-- of each retuned note, in the order of note ons
abbrev pub beginnings : (ℕ → Bool) → List MidiEvent → List Beginning
beginnings part es = beginnings_from part [] es

pub record BeginsAlike (scaling : Scaling) (o : Options) (device : Device) (a b : Beginning) : Type 0 where
  pub track : b.track ≡ a.track
  pub pitch : IsInTune scaling o device a.events b.events a.note b.note

-- Right after the event that begins the i-th retuned note, in the source and in the output, it is played within the bound of its
-- source pitch, and the two events stand in tracks of the same number.
abbrev pub BeginsTheSame : Scaling → Options → Device → (ℕ → Bool) → List MidiEvent → List MidiEvent → Type 0
BeginsTheSame scaling o device part source out = Pairwise (BeginsAlike scaling o device) (beginnings part source) (beginnings part out)

-- the three that speak of music, for the events of one port
pub record PlaysTheSameMusic (scaling : Scaling) (o : Options) (table : ℕ → ℕ → Option Bounds) (device : Device) (source out : List MidiEvent) : Type 0 where
  pub notes : HasSameNotes (output_key o table) (is_retuned (keeps_drums o source)) source out
  pub sound : HasSameSound scaling o device (is_retuned (keeps_drums o source)) source out
  pub beginnings : BeginsTheSame scaling o device (is_retuned (keeps_drums o source)) source out

-- ---- all else in the file

abbrev pub is_tuning_event : MidiWhat → Bool
is_tuning_event (SysexOf lead bytes) = nat_eq lead 0xf0 && is_tuning bytes
is_tuning_event _ = false

abbrev pub is_no_message : MidiWhat → Bool
is_no_message (Says m) = false
is_no_message _ = true

-- the system exclusive and meta events of a track, with their ticks
abbrev pub other_events : ℕ → List MidiEvent → List Timed
other_events track es = map timed (filter (λ e. is_no_message e.what) (of_track track es))

abbrev pub without_tuning : Route → List Timed → List Timed
without_tuning r es = if bends_notes r then es else filter (λ e. not (is_tuning_event e.what)) es

-- Track by track the system exclusive and meta events of the output are those of the source, but for the tuning messages that
-- dump and live add.
abbrev pub KeepsOtherEvents : Options → List MidiEvent → List MidiEvent → Type 0
KeepsOtherEvents o source out = (track : ℕ) → without_tuning o.route (other_events track out) ≡ other_events track source

-- Where drums are kept, the messages on channel 10 of a port are those of the source, track by track.
abbrev pub drum_events : ℕ → List MidiEvent → List Timed
drum_events track es = map timed (filter (λ e. is_drum_message e.what) (of_track track es))

abbrev pub KeepsDrums : Options → List MidiEvent → List MidiEvent → Type 0
KeepsDrums o source out = keeps_drums o source ≡ true → (track : ℕ) → drum_events track out ≡ drum_events track source

-- the same format, division and number of tracks
pub record HasSameShape (source out : MidiFile) : Type 0 where
  pub format : out.format ≡ source.format
  pub division : out.division ≡ source.division
  pub tracks : length out.tracks ≡ length source.tracks

-- what concerns the events of two files: the music and the drums of each port, and all other events
pub record PlayTheSame (scaling : Scaling) (o : Options) (table : ℕ → ℕ → Option Bounds) (device : Device) (source out : List MidiEvent) : Type 0 where
  pub music : (z : ℕ) → PlaysTheSameMusic scaling o table device (events_on z source) (events_on z out)
  pub others : KeepsOtherEvents o source out
  pub drums : (z : ℕ) → KeepsDrums o (events_on z source) (events_on z out)

-- The output plays the same as the source on a device.
pub record PlaysTheSameOn (device : Device) (scaling : Scaling) (o : Options) (table : ℕ → ℕ → Option Bounds) (source out : MidiFile) : Type 0 where
  pub shape : HasSameShape source out
  pub events : PlayTheSame scaling o table device (merged source) (merged out)

-- The output plays the same as the source.
abbrev pub PlaysTheSame : Scaling → Options → (ℕ → ℕ → Option Bounds) → MidiFile → MidiFile → Type 0
PlaysTheSame scaling o table source out = PlaysTheSameOn (plain_device o) scaling o table source out
