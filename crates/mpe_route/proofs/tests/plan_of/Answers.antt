use Rattle.std.proofs.Common.{List, ap, subst}
use Rattle.mt_base.specs.Midi.{MidiEvent}
use Rattle.retune_model.specs.Options.{Options}
use Rattle.retune_model.specs.Faults.{Targets}
use Rattle.key_pitch.specs.Aims.{by_onset}
use Rattle.lifetimes.specs.Views.{options_of}
use Rattle.lifetimes.specs.Stands.{asked, table_in}
use Rattle.channel_plan.specs.Layouts.{allows}
use Rattle.channel_plan.specs.declared.layout.Layout.TheVariants.{Mpe}
use Rattle.mpe_route.specs.Planned.{IsPlanOf}
use Rattle.mpe_route.proofs.tests.plan_of.Goals as goal

pub returns-in-Ok : goal.returns-in-Ok
returns-in-Ok c =
    let o : Options = options_of c.args.options in
    let t : Targets = by_onset (table_in c.new-parts.result) in
    let es : List MidiEvent = c.events_of-events.result.all in
    let whole : IsPlanOf (asked c.new-parts.result) t es c.in-Ok.plan =
    record { allowed = allows Mpe; gives = c.in-Ok.ensures.plan; taken = c.in-Ok.ensures.taken } in
    subst (λ (l : List MidiEvent). IsPlanOf o (by_onset c.args.table) l c.in-Ok.plan) c.events_of-events.ensures.all
    (subst (λ (u : Targets). IsPlanOf o u es c.in-Ok.plan) (ap by_onset c.new-parts.ensures.table)
    (subst (λ (x : Options). IsPlanOf x t es c.in-Ok.plan) c.new-parts.ensures.options whole))
