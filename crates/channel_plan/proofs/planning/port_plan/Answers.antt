use Rattle.std.proofs.Common.{subst, sym, length, ◌≤◌}
use Rattle.std.specs.Prelude.{None, IfErr}
use Rattle.retune_model.specs.Options.{Route}
use Rattle.lifetimes.specs.Views.{options_of}
use Rattle.channel_plan.specs.Layouts.{IsLayoutOf, allows}
use Rattle.channel_plan.specs.Surveys.{counts_on}
use Rattle.channel_plan.specs.Surveyed.{IsFaultAt}
use Rattle.channel_plan.proofs.Ported.{bend_of, mpe_of, bend_planned}
use Rattle.channel_plan.proofs.planning.port_plan.Goals as goal

pub returns-in-Own-clause-plan : goal.returns-in-Own-clause-plan
returns-in-Own-clause-plan c = λ table es is parts.
    let o = options_of c.args.options.now in
    c.own_port.ensures o (allows c.args.layout) table es (subst (IsLayoutOf o.route) c.in-Own.is is.layout)

pub returns-in-Bend-clause-plan : goal.returns-in-Bend-clause-plan
returns-in-Bend-clause-plan c = λ table es is parts.
    let o = options_of c.args.options.now in
    let bend = bend_of o.route c.in-Bend.allowed (subst (IsLayoutOf o.route) c.in-Bend.is is.layout) in
    bend_planned o (allows c.args.layout) table es c.args.port c.bend_port.result bend
    (c.bend_port.ensures.plan o (allows c.args.layout) table es (is.row bend)
    (c.counter.ensures o table es is.surveys (subst (λ (r : Route). counts_on o r None) (sym bend) tt)))
    c.bend_port.ensures.zones c.bend_port.ensures.begun

pub returns-in-Bend-clause-fault : goal.returns-in-Bend-clause-fault
returns-in-Bend-clause-fault c = λ table es is parts.
    let o = options_of c.args.options.now in
    let bend = bend_of o.route c.in-Bend.allowed (subst (IsLayoutOf o.route) c.in-Bend.is is.layout) in
    subst (λ (r : Route). IfErr c.bend_port.result (IsFaultAt r o (allows c.args.layout) table es c.args.port)) (sym bend)
    (c.bend_port.ensures.fault o (allows c.args.layout) table es (is.row bend)
    (c.counter.ensures o table es is.surveys (subst (λ (r : Route). counts_on o r None) (sym bend) tt)))

pub returns-in-Mpe-clause-plan : goal.returns-in-Mpe-clause-plan
returns-in-Mpe-clause-plan c = λ table es is parts.
    let o = options_of c.args.options.now in
    let mpe = mpe_of o.route (subst (IsLayoutOf o.route) c.in-Mpe.is is.layout) in
    c.mpe_port.ensures.plan (allows c.args.layout) table es mpe is.surveys parts (subst (λ ps. length ps ≤ 2) (sym parts) (is.few mpe c.args.port))

pub returns-in-Mpe-clause-fault : goal.returns-in-Mpe-clause-fault
returns-in-Mpe-clause-fault c = λ table es is parts.
    let o = options_of c.args.options.now in
    let mpe = mpe_of o.route (subst (IsLayoutOf o.route) c.in-Mpe.is is.layout) in
    subst (λ (r : Route). IfErr c.mpe_port.result (IsFaultAt r o (allows c.args.layout) table es c.args.port)) (sym mpe)
    (c.mpe_port.ensures.fault table es mpe is.surveys parts (subst (λ ps. length ps ≤ 2) (sym parts) (is.few mpe c.args.port)))
