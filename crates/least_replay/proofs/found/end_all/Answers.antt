use Rattle.std.proofs.Common.{◌<◌, ◌≤◌, ◌∙◌, ◌+◌, length, drop, sym, ap, arith}
use Rattle.lifetimes.specs.Stands.{asked, table_in}
use Rattle.lifetimes.specs.Told.{is_held}
use Rattle.least_replay.specs.Ending.{end_run, end_runs}
use Rattle.least_replay.specs.FoundView.{all_seen, slot_of, slots_of, leaves_now}
use Rattle.least_replay.proofs.Exact.{ended_step, ended_all}
use Rattle.least_replay.proofs.found.end_all.Goals as goal

pub loop-one-preserved : goal.loop-one-preserved
loop-one-preserved g c = record {
  same = c.end_one.auto.runs ∙ c.loop-one.invariant.same;
  done = λ es stands.
      let o = asked c.args.parts.now in
      let table = g.T.Aims.table (table_in c.args.parts.now) in
      let going = c.args.going.now in
      let i = c.loop-one.one-index in
      let l : i < length going = omega arith in
      ap (end_runs (is_held o table es) (leaves_now o table es) c.args.last c.args.resets (drop (i + 1) (slots_of going)))
      (c.end_one.ensures es stands
      ∙ ap (λ x. end_run (is_held o table es) (leaves_now o table es) c.args.last c.args.resets (slot_of x) (all_seen c.loop-one.runs)) c.one-item.is)
      ∙ sym (ended_step (is_held o table es) (leaves_now o table es) c.args.last c.args.resets going i c.one-item.result (all_seen c.loop-one.runs) l)
      ∙ c.loop-one.invariant.done es stands;
}

pub returns : goal.returns
returns g c es stands =
    let o = asked c.args.parts.now in
    let table = g.T.Aims.table (table_in c.args.parts.now) in
    let going = c.args.going.now in
    let i = c.loop-one.one-index in
    let l : length going ≤ i = omega arith in
    sym (ended_all (is_held o table es) (leaves_now o table es) c.args.last c.args.resets going i (all_seen c.loop-one.runs) l)
    ∙ c.loop-one.invariant.done es stands
