use Rattle.std.proofs.Common.{inl, inr, sym, subst}
use Rattle.std.specs.Prelude.{OnOk}
use Rattle.std.proofs.lemmas.List.{append-nil}
use Rattle.lifetimes.specs.declared.options.Route.{Route}
use Rattle.lifetimes.specs.Views.{route_of}
use Rattle.mtune_core.specs.Written.{IsSaidOf}
use Rattle.mtune_core.proofs.Said.{needs_said, zones_said}
use Rattle.mtune_core.proofs.reporting.push_needs.Goals as goal

pub returns-in-Dump : goal.returns-in-Dump
returns-in-Dump c =
    let old = c.args.text.now.items in
    let P : Route → Type 0 = λ r. IsSaidOf c.args.plan.now (route_of r) old old in
    elim c.in-Dump.is [
      | inl s ↦ subst P (sym s) (λ o allowed table es route is. sym (append-nil old))
      | inr s ↦ subst P (sym s) (λ o allowed table es route is. sym (append-nil old))
    ]

pub returns-in-Bend : goal.returns-in-Bend
returns-in-Bend c =
    let old = c.args.text.now.items in
    let new = c.push_need.new.out.items in
    let P : Route → Type 0 = λ r. OnOk c.push_need.result (IsSaidOf c.args.plan.now (route_of r) old new) in
    subst P (sym c.in-Bend.is) (needs_said c.plan_report_laws.ensures.reported c.push_need.result c.args.plan.now old new c.push_need.ensures.text)

pub returns-in-Mpe : goal.returns-in-Mpe
returns-in-Mpe c =
    let old = c.args.text.now.items in
    let new = c.push_zones.new.out.items in
    let P : Route → Type 0 = λ r. OnOk c.push_zones.result (IsSaidOf c.args.plan.now (route_of r) old new) in
    subst P (sym c.in-Mpe.is) (zones_said c.plan_report_laws.ensures.reported c.push_zones.result c.args.plan.now old new c.push_zones.ensures.text)
