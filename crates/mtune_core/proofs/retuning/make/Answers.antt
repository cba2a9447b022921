use Rattle.std.proofs.Common.{ap, inl, inr}
use Rattle.retune_model.specs.Options.{bends_notes}
use Rattle.lifetimes.specs.declared.options.Route.{Route}
use Rattle.lifetimes.specs.Views.{route_of}
use Rattle.command_line.specs.Words.{view_command}
use Rattle.mtune_core.proofs.Fit.{plain}
use Rattle.mtune_core.proofs.retuning.make.Goals as goal

pub make_plainly-requires-clause-plain : goal.make_plainly-requires-clause-plain
make_plainly-requires-clause-plain c =
    plain (view_command c.args.command.now).options c.requires.range (elim c.in-Dump.is [
      | inl s ↦ ap (λ (r : Route). bends_notes (route_of r)) s
      | inr s ↦ ap (λ (r : Route). bends_notes (route_of r)) s
    ])

pub make_by_plan-requires-clause-bends : goal.make_by_plan-requires-clause-bends
make_by_plan-requires-clause-bends c = elim c.in-Bend.is [
  | inl s ↦ ap (λ (r : Route). bends_notes (route_of r)) s
  | inr s ↦ ap (λ (r : Route). bends_notes (route_of r)) s
]
