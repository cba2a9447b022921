-- The sentences of a port's music, put together.
use Rattle.std.proofs.Common.{◌<◌, ℕ, Bool, List}
use Rattle.midi_model.specs.WellFormed.{IsWellFormed}
use Rattle.midi_model.specs.ParameterLaws.{PutGivesTheValue, PutLeavesTheOthers}
use Rattle.midi_model.specs.Music.{quiet}
use Rattle.retune_model.specs.Table.{Scaling, IsTable, AreFewTerms}
use Rattle.retune_model.specs.Options.{Options}
use Rattle.retune_model.specs.PlaysTheSame.{PlaysTheSameMusic, plain_device}
use Rattle.retune_model.specs.Faults.{Targets}
use Rattle.retune_model.specs.Ports.{Numbered, unnumbered}
use Rattle.channel_model.specs.BendOutput.{PortRuns}
use Rattle.state_laws.specs.HeardLaws.{KeepsTheTuning}
use Rattle.bend_laws.specs.Moments.{port_output}
use Rattle.bend_laws.specs.Follows.{AreUsed}
use Rattle.bend_laws.proofs.Planning.{IsPlanned}
use Rattle.bend_laws.proofs.Ticks.{AreTimely}
use Rattle.bend_laws.proofs.Given.{Laws}
use Rattle.bend_laws.proofs.Bridge.{ReceiversStay}
use Rattle.bend_laws.proofs.Ticking.{same_notes}
use Rattle.bend_laws.proofs.Pitching.{Scales}
use Rattle.retune_model.proofs.Laws.{PitchLaws}
use Rattle.bend_laws.proofs.Hearing.{same_sound}
use Rattle.bend_laws.proofs.Untuning.{is_untuned}
use Rattle.bend_laws.proofs.Opening.{begins_same}
use Rattle.bend_laws.proofs.Drumless.{plays_same_music}

-- the port's events are timely, the table is of the scaling, and no pitch of it has many terms
pub record IsHeard (scaling : Scaling) (o : Options) (table : Targets) (ns : List Numbered) (last : ℕ) : Type 0 where
  pub timely : AreTimely ns last
  pub bounds : IsTable scaling table
  pub few_terms : AreFewTerms scaling
  pub range : 0 < o.range

-- what a port's music needs of the crates below
pub record MusicLaws : Type 0 where
  pub laws : Laws IsWellFormed
  pub given : PutGivesTheValue
  pub others : PutLeavesTheOthers
  pub tuning : KeepsTheTuning
  pub stay : ReceiversStay
  pub pitches : PitchLaws

pub same_music : MusicLaws → (scaling : Scaling) (o : Options) (table : Targets) (used : ℕ → Bool) → AreUsed o used → (plan : PortRuns)
    (ns : List Numbered) (last : ℕ) →
    IsPlanned IsWellFormed o table used plan ns last → IsHeard scaling o table ns last →
    PlaysTheSameMusic scaling o table (plain_device o) (unnumbered ns) (port_output o table plan quiet quiet ns)
same_music m scaling o table used row plan ns last given heard =
    let timely : AreTimely ns last = heard.timely in
    let scales : Scales scaling o table = record {
      laws = m.pitches;
      route = row.route;
      range = heard.range;
      bounds = heard.bounds;
      few_terms =
          heard.few_terms;
    } in
    plays_same_music IsWellFormed m.laws scaling o table used row plan ns last given timely (record {
      notes = same_notes IsWellFormed m.laws o table used row plan ns last given timely;
      sound = same_sound m.laws m.given m.others m.stay scaling o table scales used row plan ns last given timely
          (is_untuned m.laws m.tuning m.stay o table used row plan ns last given timely);
      beginnings = begins_same m.laws m.given m.others m.tuning m.stay scaling o table scales used row plan ns last given timely;
    })
