use Rattle.std.proofs.Common.{◌∙◌, length, sym, ap, subst}
use Rattle.retune_model.specs.Options.{bends_notes}
use Rattle.lifetimes.specs.Views.{pair_of}
use Rattle.lifetimes.specs.Stands.{asked, table_in}
use Rattle.lifetimes.specs.Told.{is_held}
use Rattle.least_replay.specs.Ending.{end_run}
use Rattle.least_replay.specs.FoundView.{all_seen, slot_of, IsGoing, leaves_now}
use Rattle.least_replay.proofs.Exact.{ended_one}
use Rattle.least_replay.proofs.found.end_one.Goals as goal

pub returns-then-not-holds : goal.returns-then-not-holds
returns-then-not-holds g c es stands =
    let o = asked c.args.parts.now in
    let table = g.T.Aims.table (table_in c.args.parts.now) in
    let runs = c.args.runs.now in
    let fits = subst (IsGoing o (length runs)) c.in-Some.is c.requires.going in
    ended_one (is_held o table es) (leaves_now o table es) c.args.last c.args.resets runs
    (record { pair = pair_of c.in-Some.going.pair; run = c.in-Some.going.run })
    c.index-runs-going.result c.end_with.new.run fits.0
    (sym (c.holds.ensures.pairs es stands (ap bends_notes c.requires.bends)) ∙ c.if-not-holds.true) (c.end_with.ensures es stands)
    ∙ ap (λ x. end_run (is_held o table es) (leaves_now o table es) c.args.last c.args.resets (slot_of x) (all_seen runs)) (sym c.in-Some.is)
