use Rattle.std.proofs.Common.{◌≤◌, length, take, refl, ap, sym, subst, ◌∙◌, rules, arith}
use Rattle.retune_model.specs.Faults.{is_part}
use Rattle.retune_model.specs.PortNeed.{need_of}
use Rattle.channel_model.specs.Rows.{allowed_row}
use Rattle.channel_plan.specs.Refused.{too_many_of}
use Rattle.channel_plan.specs.Finding.{Finds}
use Rattle.channel_plan.proofs.Finding.{finds, first_of, needs_more}
use Rattle.channel_plan.proofs.needs.bend_port.Goals as goal

pub returns-in-Some-clause-fault : goal.returns-in-Some-clause-fault
returns-in-Some-clause-fault c = λ o allowed table es row is.
    needs_more o (is_part o) table es c.args.port c.len.result (length (allowed_row o allowed)) (too_many_of c.in-Some.fault)
    (c.len.ensures.value ∙ ap length row) (c.in-Some.ensures.some o (is_part o) table es is)

pub returns-clause-plan : goal.returns-clause-plan
returns-clause-plan c = λ o allowed table es row is.
    let found = finds c.need_laws.ensures.determined c.fewest_channels.ensures.counted o (is_part o) table es c.args.port c.args.counter.now is in
    let fits = c.in_default.ensures.none o (is_part o) table es is in
    let short : length c.args.row.now.items ≤ 16 = search rules in
    let enough : c.args.counter.now.need ≤ c.len.result = fits c.args.counter.now.need c.args.counter.now.instant.position is.counts.most.need in
    let few : c.args.counter.now.need ≤ 16 = omega (arith, short, enough, c.len.ensures.value) in
    record {
      number = refl;
      found = subst (λ ps. Finds o (is_part o) table es c.args.port c.args.counter.now.need c.args.counter.now.instant ps) (sym c.in_ok-pairs.ensures.pairs) found;
      used = first_of c.first_channels.result.items c.as_slice.result.now c.args.row.now.items (allowed_row o allowed) c.args.counter.now.need
          (need_of o (is_part o) table es c.args.port).0 (c.first_channels.ensures ∙ ap (λ m. take m c.as_slice.result.now) c.min.ensures)
          c.as_slice.ensures.value row found.number few;
      fits = λ n instant need. subst (λ m. n ≤ m) (c.len.ensures.value ∙ ap length row) (fits n instant need);
    }
