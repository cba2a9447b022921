use Rattle.std.proofs.Common.{◌∙◌, take, refl, sym, ap, rules}
use Rattle.mt_base.specs.Midi.{view}
use Rattle.retune_model.specs.Ports.{tick_to}
use Rattle.lifetimes.specs.Stands.{asked, table_in}
use Rattle.channel_plan.specs.Counts.{IsTimed}
use Rattle.channel_plan.proofs.BegunPairs.{on_ok}
use Rattle.channel_plan.proofs.Surveyed.{noted_next, drums_next, high_next, tick_next}
use Rattle.channel_plan.proofs.survey.Survey.see.Goals as goal

pub returns : goal.returns
returns g c es k comes at stands tells survey =
    let o = asked c.args.parts.now in
    let table = g.T.Aims.table (table_in c.args.parts.now) in
    let e = view c.args.event.now in
    let law = c.next_laws.ensures.events in
    let next = c.taken_laws.ensures.next in
    let timed : IsTimed (tick_to es) (record { position = c.args.position; tick = c.args.event.now.tick }) =
    record { holds = tick_next o table es k e law next comes c.next_laws.ensures.tick ∙ ap (tick_to es) (sym at) } in
    on_ok c.count_all.result
    (λ tallies. record {
      counted = survey.counted;
      noted = noted_next o table es k e law next comes c.take.new.self (c.take.ensures o table (take k es) e tells survey.noted);
      drums = drums_next o table es k e law next comes c.mark_drums.new.drums (c.mark_drums.ensures (take k es) e refl tells.port survey.drums);
      tallies = tallies;
      empty = survey.empty;
      high = high_next o table es k e law next comes c.args.change.now.port tells.port (search rules) survey.high;
    })
    (c.count_all.ensures es k e stands (record { comes = comes; tells = tells }) at timed survey.counted survey.tallies)
