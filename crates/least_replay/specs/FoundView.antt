-- How the program keeps what it finds of runs.
use Rattle.std.specs.Prelude.{◌≡◌, ◌<◌, ℕ, List, true, nat_lt, if◌then◌else◌, Option, Some, None, option_map, map, length}
use Rattle.std.specs.List.{AllByRecursion}
use Rattle.mt_base.specs.Midi.{MidiEvent}
use Rattle.midi_model.specs.Channel.{State}
use Rattle.retune_model.specs.Options.{Options}
use Rattle.retune_model.specs.Faults.{Targets, is_part}
use Rattle.retune_model.specs.Pairs.{Pair}
use Rattle.channel_model.specs.Choice.{wanted}
use Rattle.receiver.specs.State.{state_of}
use Rattle.lifetimes.specs.Views.{pair_of}
use Rattle.lifetimes.specs.Told.{music_on}
use Rattle.least_replay.specs.Found.{Seen, Slot}
use Rattle.least_replay.specs.declared.found.Run.{Run as RunOf}
use Rattle.least_replay.specs.declared.found.Going.{Going}
use Rattle.least_replay.specs.declared.found.Found.{Found}

abbrev pub seen : RunOf → Seen
seen r = record {
  first = r.first;
  last = r.last;
  resets_first = r.resets_first;
  resets_last = r.resets_last;
  needs = state_of r.needs;
  left = state_of r.left;
  channel = r.channel;
}

abbrev pub all_seen : List RunOf → List Seen
all_seen rs = map seen rs

abbrev pub slot_of : Option Going → Option Slot
slot_of x = option_map (λ g. record { pair = pair_of g.pair; run = g.run }) x

abbrev pub slots_of : List (Option Going) → List (Option Slot)
slots_of xs = map slot_of xs

-- a run that goes on is one of n, and of a retuned part
abbrev pub IsGoing : Options → ℕ → Option Going → Type 0
IsGoing o n None = Unit {0}
IsGoing o n (Some g) = (g.run < n) × (is_part o g.pair.part.channel ≡ true)

abbrev pub AreGoing : Options → Found → Type 0
AreGoing o f = AllByRecursion (IsGoing o (length f.runs.items)) f.going.items

-- the state that a pair needs, by the events so far
abbrev pub needs_now : Options → Targets → List MidiEvent → Pair → State
needs_now o table es p = wanted o table (music_on p.part.port es) p

-- where notes rest, the states were kept before
abbrev pub leaves_now : Options → Targets → List MidiEvent → Pair → Option State
leaves_now o table es p = if nat_lt 0 o.tail then None else Some (needs_now o table es p)
