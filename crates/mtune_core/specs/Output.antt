-- The output of a source on each route.
use Rattle.std.specs.Prelude.{ℕ, Bool, ◌<◌, ◌≤◌, ◌^◌, List, length, map, All}
use Rattle.mt_base.specs.Midi.{MidiEvent}
use Rattle.midi_model.specs.FileText.{MidiFile}
use Rattle.midi_model.specs.Merged.{merged, IsPlayable}
use Rattle.midi_model.specs.Spelling.{Spells}
use Rattle.midi_model.specs.Writing.{Written, written}
use Rattle.event_stream.specs.Distributed.{distributed}
use Rattle.retune_model.specs.Options.{Options}
use Rattle.retune_model.specs.Faults.{Targets}
use Rattle.channel_plan.specs.declared.plan.Plan.{Plan}
use Rattle.mpe_route.specs.Planned.{zoned}
use Rattle.route_bend.specs.Bent.{bent}
use Rattle.routes.specs.Routed.{routed}
use Rattle.mtune_core.specs.Limits.{input_limit}

-- the same format, division and number of tracks, with other events
abbrev pub with_events : MidiFile → List MidiEvent → MidiFile
with_events source es = record {
  format = source.format;
  division = source.division;
  tracks = distributed (length source.tracks) es;
}

-- what dump and live make of a source
abbrev pub routed_file : Options → Targets → MidiFile → MidiFile
routed_file o table source = with_events source (routed o table (merged source))

-- what bend makes of it, on the channels of a plan
abbrev pub bent_file : Options → (ℕ → Bool) → Targets → Plan → MidiFile → MidiFile
bent_file o allowed table plan source = with_events source (bent o allowed table (merged source) plan)

-- what MPE makes of it, in the zones that the parts need
abbrev pub zoned_file : Options → Targets → Plan → MidiFile → MidiFile
zoned_file o table plan source = with_events source (zoned o table (merged source) plan)

-- the events of a source may be played in its tracks
abbrev pub IsPlayableFile : MidiFile → Type 0
IsPlayableFile source = IsPlayable (length source.tracks) (merged source)

-- each track fits in its chunk
abbrev pub HasShortTracks : MidiFile → Type 0
HasShortTracks file = All (λ (text : Written). length text.bytes < 2 ^ 32) (map written file.tracks)

-- some bytes that the program takes spell the file
abbrev pub AreShort : MidiFile → Type 0
AreShort source = (bytes : List ℕ) × Spells bytes source × (length bytes ≤ input_limit)
