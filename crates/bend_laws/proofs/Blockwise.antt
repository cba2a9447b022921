-- What is written for a file, block by block.
use Rattle.std.proofs.Common.{ℕ, suc, List}
use Rattle.mt_base.specs.Midi.{MidiWhat, MidiEvent}
use Rattle.midi_model.specs.Music.{step}
use Rattle.retune_model.specs.Options.{Options}
use Rattle.retune_model.specs.Faults.{Targets}
use Rattle.retune_model.specs.Ports.{Numbered, port_of, all_zero}
use Rattle.retune_model.specs.PortOutput.{kept_for, through_ports_from}
use Rattle.channel_model.specs.BendOutput.{PortRuns, Played, unplayed, next_block, next_played}
use Rattle.bend_laws.specs.Moments.{port_causes, port_block, moment_at}

-- for the event behind the first k, of a port that has played so much
abbrev pub causes_of : Options → Targets → PortRuns → ℕ → Played → MidiEvent → List MidiWhat
causes_of o table runs k s e = port_causes runs.number o table (moment_at runs (suc k)) s.source (step s.source e) s.out e.tick e.what

abbrev pub block_of : Options → Targets → PortRuns → ℕ → Played → MidiEvent → List MidiEvent
block_of o table runs k s e = port_block runs.number o table (moment_at runs (suc k)) s.source s.out e

-- what the ports have played after it
abbrev pub state_after : Options → Targets → (ℕ → PortRuns) → (ℕ → ℕ) → ℕ → (ℕ → Played) → MidiEvent → ℕ → Played
state_after o table runs ports k s e =
    let z = port_of ports e in
    let n : Numbered = record { position = suc k; event = e } in
    kept_for z (next_played o table (runs z) (s z) n) s

abbrev pub file_from : Options → Targets → (ℕ → PortRuns) → (ℕ → ℕ) → ℕ → (ℕ → Played) → List MidiEvent → List MidiEvent
file_from o table runs ports k s es = through_ports_from (λ z x n. next_block o table (runs z) x n)
    (λ z x n. next_played o table (runs z) x n) ports k s es

abbrev pub file_output : Options → Targets → (ℕ → PortRuns) → List MidiEvent → List MidiEvent
file_output o table runs es = file_from o table runs all_zero 0 (λ z. unplayed) es
