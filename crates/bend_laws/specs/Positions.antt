-- The events of one port at the positions of its file, and the musics there.
use Rattle.std.specs.Prelude.{ℕ, zero, suc, List, [], ◌∷◌, nat_eq, nat_le, filter, if◌then◌else◌, Option, Some, None}
use Rattle.mt_base.specs.Midi.{MidiEvent}
use Rattle.retune_model.specs.Options.{Options}
use Rattle.retune_model.specs.Faults.{Targets}
use Rattle.retune_model.specs.Ports.{Numbered}
use Rattle.channel_model.specs.BendOutput.{PortRuns}
use Rattle.bend_laws.specs.Moments.{Moment, Both, nothing_yet, next_both, moment}

-- the port's event at a position, where there is one
abbrev pub port_event : List Numbered → ℕ → Option MidiEvent
port_event [] k = None
port_event (n ∷ ns) k = if nat_eq n.position k then Some n.event else port_event ns k

-- both musics at a position: an event of another port changes nothing
abbrev pub both_next : ℕ → Options → Targets → Moment → Both → Option MidiEvent → Both
both_next port o table k b (Some e) = next_both port o table k b e
both_next port o table k b None = b

abbrev pub both_at : Options → Targets → PortRuns → List Numbered → ℕ → Both
both_at o table plan ns zero = nothing_yet
both_at o table plan ns (suc k) = both_next plan.number o table (moment plan k) (both_at o table plan ns k) (port_event ns (suc k))

abbrev pub up_to_position : ℕ → List Numbered → List Numbered
up_to_position k ns = filter (λ (n : Numbered). nat_le n.position k) ns
