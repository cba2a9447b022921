use Rattle.std.proofs.Common.{◌<◌, ◌≤◌, ◌∙◌, ◌+◌, length, drop, sym, ap, arith}
use Rattle.lifetimes.specs.Stands.{asked, table_in}
use Rattle.lifetimes.specs.Told.{is_sounding}
use Rattle.least_replay.specs.Ending.{keep_run, keep_runs}
use Rattle.least_replay.specs.FoundView.{all_seen, slot_of, slots_of, needs_now}
use Rattle.least_replay.proofs.Exact.{kept_step, kept_all}
use Rattle.least_replay.proofs.found.keep_all.Goals as goal

pub loop-one-preserved : goal.loop-one-preserved
loop-one-preserved g c = record {
  same = c.keep_one.auto.runs ∙ c.loop-one.invariant.same;
  done = λ es stands.
      let o = asked c.args.parts.now in
      let table = g.T.Aims.table (table_in c.args.parts.now) in
      let going = c.args.going.now in
      let i = c.loop-one.one-index in
      let l : i < length going = omega arith in
      ap (keep_runs (is_sounding o table es) (needs_now o table es) (drop (i + 1) (slots_of going))) (c.keep_one.ensures es stands
      ∙ ap (λ x. keep_run (is_sounding o table es) (needs_now o table es) (slot_of x) (all_seen c.loop-one.runs)) c.one-item.is)
      ∙ sym (kept_step (is_sounding o table es) (needs_now o table es) going i c.one-item.result (all_seen c.loop-one.runs) l)
      ∙ c.loop-one.invariant.done es stands;
}

pub returns : goal.returns
returns g c es stands =
    let o = asked c.args.parts.now in
    let table = g.T.Aims.table (table_in c.args.parts.now) in
    let going = c.args.going.now in
    let i = c.loop-one.one-index in
    let l : length going ≤ i = omega arith in
    sym (kept_all (is_sounding o table es) (needs_now o table es) going i (all_seen c.loop-one.runs) l) ∙ c.loop-one.invariant.done es stands
