-- What the parts tell, by the events so far (this project's own). Port z's music is that of its own events.
use Rattle.std.specs.Prelude.{◌≡◌, ◌<◌, ℕ, suc, ℤ, pos, ◌+◌, List, [], ◌∷◌, ◌++◌, Bool, false, ◌&&◌, not, nat_eq, if◌then◌else◌, Option, Some, None, is_some, length, slice_index, Result, Ok, Err}
use Rattle.std.specs.Option.{option_map}
use Rattle.std.specs.Set.{is_member}
use Rattle.mt_base.specs.declared.event.Msg.TheVariants.{NoteOn}
use Rattle.mt_base.specs.declared.pair.Part.{Part as PartOf}
use Rattle.mt_base.specs.Midi.{MidiWhat, Says, MidiEvent}
use Rattle.midi_model.specs.Notes.{Note, sounds}
use Rattle.midi_model.specs.Music.{Music}
use Rattle.midi_model.specs.Receiver.{after}
use Rattle.retune_model.specs.Options.{Options, bends_notes, restless}
use Rattle.retune_model.specs.PlaysTheSame.{begins_note, bend_target_if}
use Rattle.retune_model.specs.Ports.{PortEvents, port_of, ports_after, ports_from, all_zero, events_on, port_at, music_at}
use Rattle.retune_model.specs.Faults.{Targets, Kind, is_part, int_eq, any_note, target_of}
use Rattle.retune_model.specs.Pairs.{Pair, is_same_pair}
use Rattle.retune_model.specs.Rests.{holding, pairs_at, steps_of}
use Rattle.retune_model.specs.SourceFaults.{Fault, kind_behind, bend_of}
use Rattle.key_pitch.specs.declared.aim.Aim.{Aim}
use Rattle.key_pitch.specs.Aims.{tuning_aim, bend_aim}
use Rattle.receiver.specs.declared.ends.Ends.{Ends}
use Rattle.receiver.specs.Notes.{has}
use Rattle.receiver.specs.Sounding.{sounding_at, ended_on}
use Rattle.lifetimes.specs.Lists.{entry_of}
use Rattle.lifetimes.specs.Views.{fault_of, kind_of, bend_in}
use Rattle.lifetimes.specs.declared.fault.SourceKind.{SourceKind}
use Rattle.lifetimes.specs.declared.port.Strike.{Strike}
use Rattle.lifetimes.specs.declared.change.Begun.{Begun}
use Rattle.lifetimes.specs.declared.change.Change.{Change}
use Rattle.lifetimes.specs.declared.fault.StepFault.{StepFault}
use Rattle.lifetimes.specs.declared.fault.StepFault.TheVariants.{Source, Memory}

abbrev pub music_on : ℕ → List MidiEvent → Music
music_on z es = (after (events_on z es)).music

-- ---- pairs

-- the steps of a note's target; on dump and live 0
abbrev pub steps_in : Options → Targets → Note → ℤ
steps_in o table n = if bends_notes o.route then steps_of (target_of o table n) else pos 0

abbrev pub is_of_pair : Options → Targets → Pair → Note → Bool
is_of_pair o table p n = nat_eq n.channel p.part.channel && int_eq (steps_in o table n) p.steps

-- whether a retuned note of a pair sounds; and whether one sounds or rests
abbrev pub pair_sounds : Options → Targets → List MidiEvent → Pair → Bool
pair_sounds o table es p = any_note (λ n. (is_part o n.channel && sounds n) && is_of_pair o table p n) (music_on p.part.port es).notes

abbrev pub pair_holds : Options → Targets → List MidiEvent → Pair → Bool
pair_holds o table es p = any_note (λ n. is_of_pair o table p n) (holding (is_part o) o.tail (port_at es p.part.port) (length es))

-- Where notes are bent, these are the elements of the sets of pairs.
abbrev pub is_held : Options → Targets → List MidiEvent → Pair → Bool
is_held o table es p = is_member is_same_pair (pairs_at o (is_part o) table (port_at es p.part.port) (length es)) p

abbrev pub is_sounding : Options → Targets → List MidiEvent → Pair → Bool
is_sounding o table es p = is_held (restless o) table es p

-- ---- notes

-- what a device is to be told of a key for a note that begins at a tick
abbrev pub aim_in : Options → Targets → ℕ → ℕ → Aim
aim_in o table k t = if bends_notes o.route then bend_aim o.range (table k t) else tuning_aim (table k t)

-- how many retuned notes began, on all ports
abbrev pub count_begun : Options → List MidiEvent → ℕ
count_begun o [] = 0
count_begun o (e ∷ es) = (if begins_note (is_part o) e.what then 1 else 0) + count_begun o es

-- whether an event begins a note on a key of a channel
abbrev pub strikes_key : ℕ → ℕ → MidiWhat → Bool
strikes_key c k (Says (NoteOn d j (suc v))) = nat_eq d c && nat_eq j k
strikes_key c k _ = false

-- The number of the note that began last on a key of a part, counted among the retuned notes of all ports: n began before, and last
-- was the one so far.
abbrev pub number_from : Options → PartOf → ℕ → (ℕ → ℕ) → ℕ → ℕ → List MidiEvent → ℕ
number_from o p k ports n last [] = last
number_from o p k ports n last (e ∷ es) =
    let m = (if begins_note (is_part o) e.what then 1 else 0) + n in
    number_from o p k (ports_after ports e) m (if nat_eq (port_of ports e) p.port && strikes_key p.channel k e.what then m else last) es

abbrev pub number_of : Options → PartOf → ℕ → List MidiEvent → ℕ
number_of o p k es = number_from o p k all_zero 0 0 es

-- what is told of a note of a part that began as the n-th
abbrev pub begun_as : Options → Targets → PartOf → ℕ → Note → Begun
begun_as o table p n x = record {
  note = n;
  pair = record { part = p; steps = steps_in o table x };
  key = x.key;
  target = aim_in o table x.key x.onset;
}

-- the retuned note that sounds on a key of a part, and whether its key is down
abbrev pub told_of : Options → Targets → List MidiEvent → PartOf → ℕ → Option (ℕ × Note) → Option (Begun × Bool)
told_of o table es p k None = None
told_of o table es p k (Some x) = Some (begun_as o table p (number_of o p k es) x.1, not (is_some x.1.release))

abbrev pub sounding_on : Options → Targets → List MidiEvent → PartOf → ℕ → Option (Begun × Bool)
sounding_on o table es p k = if is_part o p.channel then told_of o table es p k (sounding_at (music_on p.port es).notes p.channel k) else None

-- ---- one event

abbrev pub port_on : List MidiEvent → MidiEvent → ℕ
port_on es e = port_of (ports_from all_zero es) e

abbrev pub aim_steps : Options → Targets → ℕ → ℕ → ℤ
aim_steps o table k t = if bends_notes o.route then steps_of (bend_target_if o.range (table k t)) else pos 0

-- the retuned note that a message at a tick begins, as the n-th
abbrev pub begun_by : Options → Targets → ℕ → ℕ → ℕ → MidiWhat → Option Begun
begun_by o table z n t (Says (NoteOn c k (suc v))) = if is_part o c
    then Some (record { note = n; pair = record { part = record { port = z; channel = c }; steps = aim_steps o table k t }; key = k; target = aim_in o table k t })
    else None
begun_by o table z n t _ = None

-- the note on of a retuned part that a message at a tick is, with its target
abbrev pub strike_of : Options → Targets → ℕ → MidiWhat → Option Strike
strike_of o table t (Says (NoteOn c k (suc v))) = if is_part o c then Some (record { channel = c; key = k; target = aim_in o table k t }) else None
strike_of o table t _ = None

-- what is told of a note on that begins the n-th note on port z
abbrev pub begun_of : ℕ → ℕ → Option Strike → Option Begun
begun_of z n None = None
begun_of z n (Some s) = Some (record {
  note = n;
  pair = record { part = record { port = z; channel = s.channel }; steps = (entry_of s.key s.target).steps };
  key = s.key;
  target = s.target;
})

-- which retuned notes end by an event
abbrev pub TellsEnds : Options → List MidiEvent → MidiEvent → Ends → Type 0
TellsEnds o es e ended = (c k : ℕ) → c < 16 → k < 128 → has (slice_index ended.keys c) k
    ≡ (is_part o c && ended_on c k (music_on (port_on es e) es).notes (music_on (port_on es e) (es ++ e ∷ [])).notes)

-- What is told of an event that is taken: its port, the note that it begins, and which retuned notes end by it.
pub record TellsChange (o : Options) (table : Targets) (es : List MidiEvent) (e : MidiEvent) (change : Change) : Type 0 where
  pub port : change.port ≡ port_on es e
  pub begun : change.begun ≡ begun_by o table (port_on es e) (suc (count_begun o es)) e.tick e.what
  pub ended : TellsEnds o es e change.ended

-- the source fault that is told; want of memory is none
abbrev pub source_of : StepFault → Option Fault
source_of (Source f) = Some (fault_of f)
source_of Memory = None

abbrev pub told_fault : {A : Type 0} → Result A StepFault → Option Fault
told_fault (Ok a) = None
told_fault (Err f) = source_of f

-- want of memory comes with a tail alone
abbrev pub IsCaused : ℕ → StepFault → Type 0
IsCaused tail (Source f) = Unit {0}
IsCaused tail Memory = 0 < tail

-- ---- the kind of a fault, with the steps that it keeps

abbrev pub told_kind : Option SourceKind → Option (Kind × Option (ℤ × ℤ))
told_kind kind = option_map (λ x. (kind_of x, bend_in x)) kind

-- of event k + 1 of a file, which is e and of this port; breaks says whether it breaks a rule of ports
abbrev pub due_kind : Options → Targets → Bool → PortEvents → ℕ → MidiEvent → Option (Kind × Option (ℤ × ℤ))
due_kind o table breaks port k e =
    option_map (λ kind. (kind, bend_of port.number o (music_at port.events (suc k)) (pairs_at o (is_part o) table port (suc k)) kind e.what))
    (kind_behind o table breaks port k e)
