use Rattle.std.proofs.Common.{ℕ}
use Rattle.retune_model.specs.Ports.{Numbered}
use Rattle.channel_model.specs.BendOutput.{before_it, PortRuns, runs_on, Played, unplayed, next_block, next_played}
use Rattle.channel_model.specs.MpeOutput.{Zoned, unzoned, zoned_block, next_zoned}
use Rattle.channel_model.proofs.Histories.{port_through}
use Rattle.channel_model.proofs.Bending.{bend_beside}
use Rattle.channel_model.proofs.Zoning.{zoned_beside}
use Rattle.channel_model.proofs.output.outputs_apart.Goals as goal

pub returns-clause-bend : goal.returns-clause-bend
returns-clause-bend c o table channel es z =
    let runs : ℕ → PortRuns = λ y. runs_on o table es channel y in
    port_through c.ports_apart.ensures.blocks (λ y (s : Played) (n : Numbered). next_block o table (runs y) s n) (λ y (s : Played) (n : Numbered). next_played o table (runs y) s n) unplayed
    (λ y s n. bend_beside y o table ((runs y).pairs (before_it n.position)) ((runs y).held n.position) s.source s.out ((runs y).channel (before_it n.position)) ((runs y).channel n.position) n.event) es z

pub returns-clause-mpe : goal.returns-clause-mpe
returns-clause-mpe c o table zones channel es z =
    let runs : ℕ → PortRuns = λ y. runs_on o table es channel y in
    port_through c.ports_apart.ensures.blocks (λ y (s : Zoned) (n : Numbered). zoned_block o table (zones y) (runs y) s n) (λ y (s : Zoned) (n : Numbered). next_zoned o table (zones y) (runs y) s n) unzoned
    (λ y s n. zoned_beside y o table (zones y) ((runs y).pairs (before_it n.position)) s.begun s.source s.out ((runs y).channel (before_it n.position)) ((runs y).channel n.position) n.event) es z
