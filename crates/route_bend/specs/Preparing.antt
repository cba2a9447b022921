-- What the program keeps and sends around one event of a source with a plan.
use Rattle.std.specs.Prelude.{◌≡◌, ◌<◌, ℕ, suc, List, [], Bool, true, nat_eq, if◌then◌else◌, Option, Some, None, take, length, set, get_or}
use Rattle.mt_base.specs.declared.event.Msg.{Msg}
use Rattle.mt_base.specs.declared.event.Msg.TheVariants.{NoteOn, NoteOff}
use Rattle.mt_base.specs.Midi.{MidiEvent, Says, channel_of}
use Rattle.midi_model.specs.Channel.{Role, AllSoundOff, AllNotesOff, Ignored}
use Rattle.retune_model.specs.Options.{Options}
use Rattle.retune_model.specs.Faults.{Targets, is_part}
use Rattle.retune_model.specs.Ports.{of_port}
use Rattle.retune_model.specs.Pairs.{Pair}
use Rattle.lifetimes.specs.Told.{port_on, is_held}
use Rattle.channel_plan.specs.declared.plan.Plan.{Plan}
use Rattle.route_bend.specs.Standing.{IsPrepared, AllStand, runs_by, used_by, caused, found_in}
use Rattle.route_bend.specs.declared.bending.Bending.{Bending}
use Rattle.route_bend.specs.declared.port.Use.{Use}
use Rattle.route_bend.specs.declared.port.Use.TheVariants.{Notes, Nothing, State}
use Rattle.route_bend.specs.declared.port.Off.{Off}
use Rattle.route_bend.specs.declared.channels.Channels.{Channels}

-- what a controller with a role is for
abbrev pub used_for : Role → Use
used_for AllSoundOff = Notes
used_for AllNotesOff = Notes
used_for Ignored = Nothing
used_for _ = State

-- Whether the run of a pair that was there before the last of some events holds its channel at it: without rests it does.
abbrev pub still_held : Options → Targets → List MidiEvent → Pair → Bool
still_held o table es p = if nat_eq o.tail 0 then true else is_held o table es p

-- a note off for a key of a channel
abbrev pub off_of : Off → ℕ → ℕ → Msg
off_of off c k = if off.is_on then NoteOn c k 0 else NoteOff c k off.velocity

-- The channels of a port stand at a place, which is the only one.
pub record IsFoundAt (ports : List Channels) (z i : ℕ) : Type 0 where
  pub within : i < length ports
  pub found : (d : Channels) → found_in ports z ≡ Some (get_or ports i d)
  pub replaced : (s : Channels) (y : ℕ) → s.port ≡ z → found_in (set ports i s) y ≡ (if nat_eq z y then Some s else found_in ports y)

-- the same for what is kept of a port; without it nothing is sent
abbrev pub PreparedIf : Options → (ℕ → Bool) → Targets → List MidiEvent → Plan → ℕ → MidiEvent → Msg → ℕ → Option Channels → List Msg → Type 0
PreparedIf o allowed table es plan k e m z (Some s) sent =
    IsPrepared o table (used_by o allowed table es z) (runs_by o allowed table es plan z) (of_port z es) k e m s sent
PreparedIf o allowed table es plan k e m z None sent = sent ≡ []

-- Before event k + 1.
pub record IsReady (o : Options) (allowed : ℕ → Bool) (table : Targets) (es : List MidiEvent) (plan : Plan) (k : ℕ) (e : MidiEvent)
    (b : Bending) : Type 0 where
  pub stands : AllStand o allowed table es plan k b.ports.items
  pub ready : (m : Msg) → e.what ≡ Says m → is_part o (channel_of m) ≡ true
      → PreparedIf o allowed table es plan k e m (port_on (take k es) e) (found_in b.ports.items (port_on (take k es) e)) b.out.messages.items

-- what event k + 1 causes, where it is a message of a part
abbrev pub caused_by : Options → (ℕ → Bool) → Targets → List MidiEvent → Plan → ℕ → MidiEvent → Msg → List Msg
caused_by o allowed table es plan k e m =
    caused o table (runs_by o allowed table es plan (port_on (take k es) e)) (of_port (port_on (take k es) e) es) k e m

-- After event k + 1.
pub record IsTaken (o : Options) (allowed : ℕ → Bool) (table : Targets) (es : List MidiEvent) (plan : Plan) (k : ℕ) (e : MidiEvent)
    (b : Bending) : Type 0 where
  pub stands : AllStand o allowed table es plan (suc k) b.ports.items
  pub sent : (m : Msg) → e.what ≡ Says m → is_part o (channel_of m) ≡ true → b.out.messages.items ≡ caused_by o allowed table es plan k e m
