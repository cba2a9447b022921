use Rattle.std.proofs.Common.{◌∙◌, length, sym, ap, subst}
use Rattle.retune_model.specs.Options.{bends_notes}
use Rattle.receiver.specs.State.{state_of}
use Rattle.lifetimes.specs.Views.{pair_of}
use Rattle.lifetimes.specs.Stands.{asked, table_in}
use Rattle.lifetimes.specs.Told.{is_sounding}
use Rattle.least_replay.specs.Ending.{keep_run}
use Rattle.least_replay.specs.FoundView.{all_seen, slot_of, IsGoing, needs_now}
use Rattle.least_replay.proofs.Exact.{kept_one}
use Rattle.least_replay.proofs.found.keep_one.Goals as goal

pub returns-then-not-sounds : goal.returns-then-not-sounds
returns-then-not-sounds g c es stands =
    let o = asked c.args.parts.now in
    let table = g.T.Aims.table (table_in c.args.parts.now) in
    let runs = c.args.runs.now in
    let fits = subst (IsGoing o (length runs)) c.in-Some.is c.requires.going in
    kept_one (is_sounding o table es) (needs_now o table es) runs (record { pair = pair_of c.in-Some.going.pair; run = c.in-Some.going.run })
    c.index-runs-going.result c.leave.new.run (state_of c.wanted.result) fits.0
    (sym (c.sounds.ensures.pairs es stands (ap bends_notes c.requires.bends)) ∙ c.if-not-sounds.true) (c.wanted.ensures.state es stands)
    c.leave.ensures
    ∙ ap (λ x. keep_run (is_sounding o table es) (needs_now o table es) (slot_of x) (all_seen runs)) (sym c.in-Some.is)
