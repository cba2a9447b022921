-- A message to a port on which nothing has played.
use Rattle.std.proofs.Common.{ℕ, List, []}
use Rattle.mt_base.specs.Midi.{MidiEvent}
use Rattle.retune_model.specs.Options.{Options}
use Rattle.retune_model.specs.Faults.{Targets}
use Rattle.retune_model.specs.FaultLaws.{FaultlessPorts}
use Rattle.retune_model.specs.PortLaws.{MusicAtAPosition}
use Rattle.lifetimes.specs.Stands.{PortStands}
use Rattle.lifetimes.specs.Steps.{IsUnheard}
use Rattle.lifetimes.specs.Due.{IsNext}
use Rattle.lifetimes.specs.declared.port.Port.{Port}
use Rattle.lifetimes.proofs.Opening.{port_opens}

-- a port that has taken nothing can take it
pub comes_next : MusicAtAPosition → FaultlessPorts → (o : Options) (table : Targets) (es : List MidiEvent) (e : MidiEvent) (z : ℕ) (port : Port)
    → PortStands o table [] port → IsUnheard o table es e z → IsNext o table es e z port
comes_next music fine o table es e z port stands u = record {
  valid = u.valid;
  order = u.order;
  faultless = u.faultless;
  stands = port_opens music fine o table es z port u.faultless u.unheard stands;
  here = u.at;
}
