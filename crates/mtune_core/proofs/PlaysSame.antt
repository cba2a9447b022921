-- The output of a source that isn't refused plays the same.
use Rattle.std.proofs.Common.{◌≡◌, ℕ, List, length, refl}
use Rattle.mt_base.specs.Midi.{MidiEvent}
use Rattle.midi_model.specs.FileText.{MidiFile}
use Rattle.midi_model.specs.Merged.{merged, IsPlayable}
use Rattle.midi_model.specs.Order.{AreInOrder}
use Rattle.event_stream.specs.PutLaws.{DealtIsMerged}
use Rattle.retune_model.specs.PlaysTheSame.{HasSameShape}
use Rattle.mtune_core.specs.Output.{with_events}
use Rattle.mtune_core.proofs.Dealt.{length_dealt}

-- a playable list is in the order of ticks
abbrev pub PlayableIsInOrder : Type 0
PlayableIsInOrder = (tracks : ℕ) (es : List MidiEvent) → IsPlayable tracks es → AreInOrder 0 es

-- a file with other events has the same shape, and its events are they
pub same_shape : (source : MidiFile) (es : List MidiEvent) → HasSameShape source (with_events source es)
same_shape source es = record { format = refl; division = refl; tracks = length_dealt 0 (length source.tracks) es }

pub its_events : DealtIsMerged → (source : MidiFile) (es : List MidiEvent) → IsPlayable (length source.tracks) es
    → merged (with_events source es) ≡ es
its_events law source es may = law (length source.tracks) es may.in_order may.in_tracks
