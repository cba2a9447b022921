-- What a message of a part causes on the MPE route, as the program has it.
use Rattle.std.specs.Prelude.{ℕ, suc, zero, pos, ◌+ℤ◌, List, [], ◌∷◌, ◌++◌, Bool, true, if◌then◌else◌, Option, Some, None}
use Rattle.mt_base.specs.declared.event.Msg.{Msg}
use Rattle.mt_base.specs.declared.event.Msg.TheVariants.{NoteOn, NoteOff, Bend}
use Rattle.mt_base.specs.Midi.{MidiWhat, Says, MidiEvent, channel_of}
use Rattle.midi_model.specs.Bring.{where_differs}
use Rattle.retune_model.specs.Options.{Options}
use Rattle.retune_model.specs.Faults.{Targets, is_part}
use Rattle.channel_model.specs.Choice.{bend_value}
use Rattle.channel_model.specs.MpeOutput.{Zone, master_of, zone_of, on_channel}
use Rattle.key_pitch.specs.declared.aim.Aim.{Aim}
use Rattle.key_pitch.specs.declared.aim.Aim.TheVariants as aims
use Rattle.lifetimes.specs.Told.{sounding_on}
use Rattle.lifetimes.specs.declared.change.Begun.{Begun}
use Rattle.channel_plan.specs.Told.{channel_in}
use Rattle.channel_plan.specs.declared.plan.Plan.{Plan}
use Rattle.mpe_route.specs.declared.caused.Played.{Played}

-- ---- notes

-- a note as the output plays it: by the channel that the plan gives it, and its target
abbrev pub played_on : Option ℕ → Aim → Option Played
played_on (Some d) (aims.Bend key steps) = Some (record { channel = d; key = key; bend = bend_value (pos 8192 +ℤ steps) })
played_on _ _ = None

abbrev pub played_as : Plan → Begun → Option Played
played_as plan b = played_on (channel_in plan b.note) b.target

abbrev pub played_if : Plan → Option Begun → Option Played
played_if plan None = None
played_if plan (Some b) = played_as plan b

-- the channel and the key that an event releases
abbrev pub released_key : MidiWhat → Option (ℕ × ℕ)
released_key (Says (NoteOff c k v)) = Some (c, k)
released_key (Says (NoteOn c k zero)) = Some (c, k)
released_key _ = None

-- the note whose key is down
abbrev pub down_of : Option (Begun × Bool) → Option Begun
down_of (Some (b, true)) = Some b
down_of _ = None

-- the note that an event of port z behind es releases
abbrev pub released_at : Options → Targets → List MidiEvent → Plan → ℕ → Option (ℕ × ℕ) → Option Played
released_at o table es plan z (Some (c, k)) = played_if plan (down_of (sounding_on o table es (record { port = z; channel = c }) k))
released_at o table es plan z None = None

abbrev pub released_by : Options → Targets → List MidiEvent → Plan → ℕ → MidiWhat → Option Played
released_by o table es plan z w = released_at o table es plan z (released_key w)

-- of two notes the one that there is
abbrev pub either : Option Played → Option Played → Option Played
either (Some n) released = Some n
either None released = released

-- ---- messages

-- a note that begins, where its member has this bend
abbrev pub begun_as : (ℕ → ℕ) → ℕ → Option Played → List Msg
begun_as bends velocity (Some n) = where_differs (bends n.channel) n.bend (Bend n.channel n.bend) ++ NoteOn n.channel n.key velocity ∷ []
begun_as bends velocity None = []

abbrev pub released_as : (ℕ → ℕ → Msg) → Option Played → List Msg
released_as off (Some n) = off n.channel n.key ∷ []
released_as off None = []

-- what a message of a part with a zone causes, where it begins or releases this note
abbrev pub with_zone : (ℕ → ℕ) → Zone → Option Played → Msg → List Msg
with_zone bends zone played (NoteOn c k (suc v)) = begun_as bends (suc v) played
with_zone bends zone played (NoteOn c k zero) = released_as (λ d j. NoteOn d j 0) played
with_zone bends zone played (NoteOff c k v) = released_as (λ d j. NoteOff d j v) played
with_zone bends zone played m = on_channel (master_of zone) m ∷ []

abbrev pub with_zone_if : (ℕ → ℕ) → Option Zone → Option Played → Msg → List Msg
with_zone_if bends (Some zone) played m = with_zone bends zone played m
with_zone_if bends None played m = []

-- what a message of a retuned part causes in its place; none for an event that is passed on as it is
abbrev pub caused_by : Options → List Zone → (ℕ → ℕ) → Option Played → MidiWhat → Option (List Msg)
caused_by o zones bends played (Says m) =
    if is_part o (channel_of m) then Some (with_zone_if bends (zone_of (channel_of m) zones) played m) else None
caused_by o zones bends played _ = None
