use Rattle.std.proofs.Common.{◌≡◌, ◌∙◌, length, sym, ap, subst, arith}
use Rattle.std.proofs.lemmas.List.{length-map}
use Rattle.retune_model.specs.Options.{Options, bends_notes}
use Rattle.retune_model.specs.SourceFaults.{IsSound}
use Rattle.lifetimes.specs.Stands.{asked, table_in}
use Rattle.least_replay.specs.Assignments.{chains_from}
use Rattle.least_replay.specs.Cover.{Table}
use Rattle.least_replay.specs.Measure.{IsMeasureOf, runs_of}
use Rattle.least_replay.specs.Serving.{channel_at, channel_given}
use Rattle.least_replay.specs.Found.{AreFound, seen_at}
use Rattle.least_replay.specs.FoundView.{all_seen, seen}
use Rattle.least_replay.specs.Filled.{AreFilled}
use Rattle.least_replay.specs.View.{matrix_table}
use Rattle.least_replay.proofs.Facts.{few_begin}
use Rattle.least_replay.proofs.Serves.{Kit}
use Rattle.least_replay.proofs.Whole.{whole, run_count, IsWhole}
use Rattle.least_replay.proofs.measuring.measure.Goals as goal

pub fill-requires : goal.fill-requires
fill-requires g c =
    let o = asked c.args.parts.now in
    let table = g.T.Aims.table (table_in c.args.parts.now) in
    let es = g.S.EventStream.all c.args.stream.now in
    let plan = c.args.plan.now in
    let z = c.args.port in
    let sound : IsSound o table es = record {
      bends = ap bends_notes c.requires.bends;
      in_order = c.requires.asked.order;
      faultless = c.requires.faultless;
    } in
    let runs = c.in_ok-runs.runs.items in
    let last = length es in
    let found : AreFound o table es (channel_at o es plan) z last last (all_seen runs) =
    subst (λ t. AreFound o (g.T.Aims.table t) es (channel_at o es plan) z last last (all_seen runs)) c.restart.ensures.table
    (subst (λ (x : Options). AreFound x (g.T.Aims.table (table_in c.restart.new.self)) es (channel_at x es plan) z last last (all_seen runs))
    c.restart.ensures.options c.in_ok-runs.ensures.found) in
    let many : length runs ≡ length (runs_of o table es z) = sym (length-map runs seen) ∙ found.long in
    let count = run_count o table es plan z sound c.requires.plan in
    let few = c.requires.few in
    let slice = ap length c.as_slice.ensures.value in
    omega (arith, many, count, few, slice)

pub chains-requires : goal.chains-requires
chains-requires g c =
    let o = asked c.args.parts.now in
    let table = g.T.Aims.table (table_in c.args.parts.now) in
    let es = g.S.EventStream.all c.args.stream.now in
    let plan = c.args.plan.now in
    let z = c.args.port in
    let sound : IsSound o table es = record {
      bends = ap bends_notes c.requires.bends;
      in_order = c.requires.asked.order;
      faultless = c.requires.faultless;
    } in
    let runs = c.in_ok-runs.runs.items in
    let last = length es in
    let found : AreFound o table es (channel_at o es plan) z last last (all_seen runs) =
    subst (λ t. AreFound o (g.T.Aims.table t) es (channel_at o es plan) z last last (all_seen runs)) c.restart.ensures.table
    (subst (λ (x : Options). AreFound x (g.T.Aims.table (table_in c.restart.new.self)) es (channel_at x es plan) z last last (all_seen runs))
    c.restart.ensures.options c.in_ok-runs.ensures.found) in
    let many : length runs ≡ length (runs_of o table es z) = sym (length-map runs seen) ∙ found.long in
    let count = run_count o table es plan z sound c.requires.plan in
    let few = c.requires.few in
    let slice = ap length c.as_slice-2.ensures.value in
    omega (arith, many, count, few, slice)

pub unreachable-requires : goal.unreachable-requires
unreachable-requires g c =
    let o = asked c.args.parts.now in
    let table = g.T.Aims.table (table_in c.args.parts.now) in
    let es = g.S.EventStream.all c.args.stream.now in
    let plan = c.args.plan.now in
    let z = c.args.port in
    let sound : IsSound o table es = record {
      bends = ap bends_notes c.requires.bends;
      in_order = c.requires.asked.order;
      faultless = c.requires.faultless;
    } in
    let runs = c.in_ok-runs.runs.items in
    let last = length es in
    let found : AreFound o table es (channel_at o es plan) z last last (all_seen runs) =
    subst (λ t. AreFound o (g.T.Aims.table t) es (channel_at o es plan) z last last (all_seen runs)) c.restart.ensures.table
    (subst (λ (x : Options). AreFound x (g.T.Aims.table (table_in c.restart.new.self)) es (channel_at x es plan) z last last (all_seen runs))
    c.restart.ensures.options c.in_ok-runs.ensures.found) in
    let told = c.pair_laws.ensures.told in
    let begin = c.rests_are_runs.ensures.one_begins in
    let aimed = c.sound_sources.ensures.aimed in
    let few = few_begin told c.fewest_channels.ensures.once begin aimed o table es z sound in
    let kit : Kit = record {
      told = told;
      runs = begin;
      aimed = aimed;
      next = c.held_laws.ensures.next;
      was = c.held_laws.ensures.within;
    } in
    let m = c.in_ok-matrix.matrix in
    let filled = subst (λ xs. AreFilled (all_seen xs) m.start.items m.after.items) c.as_slice.ensures.value c.in_ok-matrix.ensures.filled in
    let long : m.runs ≡ length (all_seen runs) =
    c.in_ok-matrix.ensures.runs ∙ ap length c.as_slice.ensures.value ∙ sym (length-map runs seen) in
    let chained : c.in_ok-kept.kept.items ≡ chains_from (λ b. (seen_at (all_seen runs) b).channel) 0 (length (all_seen runs)) =
    c.in_ok-kept.ensures
    ∙ ap (λ xs. chains_from (λ b. (seen_at (all_seen xs) b).channel) 0 (length xs)) c.as_slice-2.ensures.value
    ∙ ap (chains_from (λ b. (seen_at (all_seen runs) b).channel) 0) (sym (length-map runs seen)) in
    let is : IsWhole o table es plan z (matrix_table m) c.in_ok-kept.kept.items =
    whole c.assignments_are_covers.ensures.cover kit o table es plan z sound c.requires.asked.few few c.requires.plan (all_seen runs)
    m.runs m.starts m.start.items m.after.items c.in_ok-kept.kept.items found filled long (c.in_ok-matrix.ensures.starts ∙ c.need.ensures) chained in
    c.in-None.ensures.none is.low is.cover

pub returns-clause-costs : goal.returns-clause-costs
returns-clause-costs g c =
    let o = asked c.args.parts.now in
    let table = g.T.Aims.table (table_in c.args.parts.now) in
    let es = g.S.EventStream.all c.args.stream.now in
    let plan = c.args.plan.now in
    let z = c.args.port in
    let sound : IsSound o table es = record {
      bends = ap bends_notes c.requires.bends;
      in_order = c.requires.asked.order;
      faultless = c.requires.faultless;
    } in
    let runs = c.in_ok-runs.runs.items in
    let last = length es in
    let found : AreFound o table es (channel_at o es plan) z last last (all_seen runs) =
    subst (λ t. AreFound o (g.T.Aims.table t) es (channel_at o es plan) z last last (all_seen runs)) c.restart.ensures.table
    (subst (λ (x : Options). AreFound x (g.T.Aims.table (table_in c.restart.new.self)) es (channel_at x es plan) z last last (all_seen runs))
    c.restart.ensures.options c.in_ok-runs.ensures.found) in
    let told = c.pair_laws.ensures.told in
    let begin = c.rests_are_runs.ensures.one_begins in
    let aimed = c.sound_sources.ensures.aimed in
    let few = few_begin told c.fewest_channels.ensures.once begin aimed o table es z sound in
    let kit : Kit = record {
      told = told;
      runs = begin;
      aimed = aimed;
      next = c.held_laws.ensures.next;
      was = c.held_laws.ensures.within;
    } in
    let m = c.in_ok-matrix.matrix in
    let filled = subst (λ xs. AreFilled (all_seen xs) m.start.items m.after.items) c.as_slice.ensures.value c.in_ok-matrix.ensures.filled in
    let long : m.runs ≡ length (all_seen runs) =
    c.in_ok-matrix.ensures.runs ∙ ap length c.as_slice.ensures.value ∙ sym (length-map runs seen) in
    let chained : c.in_ok-kept.kept.items ≡ chains_from (λ b. (seen_at (all_seen runs) b).channel) 0 (length (all_seen runs)) =
    c.in_ok-kept.ensures
    ∙ ap (λ xs. chains_from (λ b. (seen_at (all_seen xs) b).channel) 0 (length xs)) c.as_slice-2.ensures.value
    ∙ ap (chains_from (λ b. (seen_at (all_seen runs) b).channel) 0) (sym (length-map runs seen)) in
    let is : IsWhole o table es plan z (matrix_table m) c.in_ok-kept.kept.items =
    whole c.assignments_are_covers.ensures.cover kit o table es plan z sound c.requires.asked.few few c.requires.plan (all_seen runs)
    m.runs m.starts m.start.items m.after.items c.in_ok-kept.kept.items found filled long (c.in_ok-matrix.ensures.starts ∙ c.need.ensures) chained in
    subst (λ (t : Table). IsMeasureOf o table es z t) (sym c.in-Some.ensures.same) is.measured

pub returns-clause-kept : goal.returns-clause-kept
returns-clause-kept g c =
    let o = asked c.args.parts.now in
    let table = g.T.Aims.table (table_in c.args.parts.now) in
    let es = g.S.EventStream.all c.args.stream.now in
    let plan = c.args.plan.now in
    let z = c.args.port in
    let sound : IsSound o table es = record {
      bends = ap bends_notes c.requires.bends;
      in_order = c.requires.asked.order;
      faultless = c.requires.faultless;
    } in
    let runs = c.in_ok-runs.runs.items in
    let last = length es in
    let found : AreFound o table es (channel_at o es plan) z last last (all_seen runs) =
    subst (λ t. AreFound o (g.T.Aims.table t) es (channel_at o es plan) z last last (all_seen runs)) c.restart.ensures.table
    (subst (λ (x : Options). AreFound x (g.T.Aims.table (table_in c.restart.new.self)) es (channel_at x es plan) z last last (all_seen runs))
    c.restart.ensures.options c.in_ok-runs.ensures.found) in
    let told = c.pair_laws.ensures.told in
    let begin = c.rests_are_runs.ensures.one_begins in
    let aimed = c.sound_sources.ensures.aimed in
    let few = few_begin told c.fewest_channels.ensures.once begin aimed o table es z sound in
    let kit : Kit = record {
      told = told;
      runs = begin;
      aimed = aimed;
      next = c.held_laws.ensures.next;
      was = c.held_laws.ensures.within;
    } in
    let m = c.in_ok-matrix.matrix in
    let filled = subst (λ xs. AreFilled (all_seen xs) m.start.items m.after.items) c.as_slice.ensures.value c.in_ok-matrix.ensures.filled in
    let long : m.runs ≡ length (all_seen runs) =
    c.in_ok-matrix.ensures.runs ∙ ap length c.as_slice.ensures.value ∙ sym (length-map runs seen) in
    let chained : c.in_ok-kept.kept.items ≡ chains_from (λ b. (seen_at (all_seen runs) b).channel) 0 (length (all_seen runs)) =
    c.in_ok-kept.ensures
    ∙ ap (λ xs. chains_from (λ b. (seen_at (all_seen xs) b).channel) 0 (length xs)) c.as_slice-2.ensures.value
    ∙ ap (chains_from (λ b. (seen_at (all_seen runs) b).channel) 0) (sym (length-map runs seen)) in
    let is : IsWhole o table es plan z (matrix_table m) c.in_ok-kept.kept.items =
    whole c.assignments_are_covers.ensures.cover kit o table es plan z sound c.requires.asked.few few c.requires.plan (all_seen runs)
    m.runs m.starts m.start.items m.after.items c.in_ok-kept.kept.items found filled long (c.in_ok-matrix.ensures.starts ∙ c.need.ensures) chained in
    c.in-Some.ensures.kept ∙ is.chains
    ∙ ap (λ (t : Table). chains_from (channel_given o es plan (runs_of o table es z)) 0 t.runs) (sym c.in-Some.ensures.same)
