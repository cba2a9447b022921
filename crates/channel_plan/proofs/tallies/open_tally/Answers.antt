use Rattle.std.proofs.Common.{◌≡◌, ◌∙◌, None, is_some, sym, ap, subst}
use Rattle.channel_plan.specs.Surveys.{AreTallies, tally_in}
use Rattle.channel_plan.proofs.Opened.{opened, one_there, none_found}
use Rattle.channel_plan.proofs.tallies.open_tally.Goals as goal

pub returns-in_ok-push-clause-stand : goal.returns-in_ok-push-clause-stand
returns-in_ok-push-clause-stand c o table es k is ts =
    let none : tally_in c.args.tallies.now.items c.args.port c.args.part ≡ None =
    ap (λ l. tally_in l c.args.port c.args.part) (sym c.as_slice.ensures.value)
    ∙ sym c.find_tally.ensures ∙ none_found _ c.find_tally.result c.is_none.result c.is_none.ensures c.if-is_none.true in
    subst (AreTallies o table es k) (sym c.in_ok-push.ensures.items)
    (opened o table es k c.args.tallies.now.items (record {
      port = c.args.port;
      part = c.args.part;
      counter = c.new.result;
    }) is c.new.ensures.empty none ts)

pub returns-in_ok-push-clause-there : goal.returns-in_ok-push-clause-there
returns-in_ok-push-clause-there c =
    ap (λ l. is_some (tally_in l c.args.port c.args.part)) c.in_ok-push.ensures.items
    ∙ one_there c.args.tallies.now.items (record { port = c.args.port; part = c.args.part; counter = c.new.result })
