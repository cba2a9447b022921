use Rattle.retune_model.specs.Faults.{Targets}
use Rattle.retune_model.specs.Options.{Options}
use Rattle.mt_base.specs.Midi.{MidiEvent}
use Rattle.std.proofs.Common.{List}
use Rattle.channel_model.specs.Rows.{zones_on}
use Rattle.midi_model.specs.Merged.{merged}
use Rattle.mpe_laws.specs.Sources.{IsMpe}
use Rattle.channel_plan.specs.declared.plan.Plan.{Plan}
use Rattle.mpe_route.specs.Planned.{planned_channel}
use Rattle.mpe_route.specs.Laws.{IsZonable}
use Rattle.mpe_route.proofs.Source.{is_mpe}
use Rattle.mpe_route.proofs.laws.zoned_plays_the_same.Goals as goal

pub returns : goal.returns
returns c =
    let mpe : (o : Options) (table : Targets) (es : List MidiEvent) (plan : Plan) → IsZonable o table es plan
    → IsMpe o table es (zones_on o table es) (planned_channel o table es plan) = is_mpe c.plans_serve.ensures.serve in
    record {
      same = λ o table es plan h.
          c.mpe_plays_the_same.ensures.same o table es (zones_on o table es) (planned_channel o table es plan) (mpe o table es plan h);
      file = λ o table plan source out shape is h.
          c.mpe_plays_the_same.ensures.file o table (zones_on o table (merged source)) (planned_channel o table (merged source) plan)
          source out shape is (mpe o table (merged source) plan h);
      playable = λ o table es plan h.
          c.mpe_plays_the_same.ensures.playable o table es (zones_on o table es) (planned_channel o table es plan) (mpe o table es plan h);
      on_zones = λ o table es plan h.
          c.mpe_plays_the_same.ensures.on_zones o table es (zones_on o table es) (planned_channel o table es plan) (mpe o table es plan h);
      few_bytes = λ o table es plan h.
          c.mpe_plays_the_same.ensures.few_bytes o table es (zones_on o table es) (planned_channel o table es plan) (mpe o table es plan h);
    }
