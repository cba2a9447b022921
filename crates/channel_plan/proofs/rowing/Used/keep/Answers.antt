use Rattle.std.proofs.Common.{◌≡◌, true, map, take, sym, ap, ◌∙◌, subst}
use Rattle.std.specs.Vec.{with_items}
use Rattle.std.proofs.lemmas.List.{with_items_is}
use Rattle.lifetimes.specs.Stands.{asked, table_in}
use Rattle.plan_laws.specs.Placing.{seen_at}
use Rattle.plan_laws.specs.Rows.{needed, keeps_before, sounds_after, keep, kept}
use Rattle.channel_plan.specs.Passing.{channels_in}
use Rattle.channel_plan.specs.Seeing.{all_seen, runs_in, ArePartsOn}
use Rattle.channel_plan.specs.Stepping.{pairs_by}
use Rattle.channel_plan.proofs.Taking.{parts_on, kept_was, kept_then, numbers_was}
use Rattle.channel_plan.proofs.rowing.Used.keep.Goals as goal

pub returns-then-keeps_before-clause-kept : goal.returns-then-keeps_before-clause-kept
returns-then-keeps_before-clause-kept g c = λ es row number k stands of at.
    let o = asked c.args.parts.now in
    let table = g.T.Aims.table (table_in c.args.parts.now) in
    let used = c.args.self.now in
    let part = channels_in o used.part in
    let before = all_seen used.places.items in
    let value = c.as_mut_slice.ensures.value in
    let parts = parts_on c.row_laws.ensures.parts o part table es used.port row k before before of at.places (λ d p h. h) in
    let does : keeps_before o ≡ true = ap keeps_before (sym c.options.ensures) ∙ sym c.keeps_before.ensures ∙ c.if-keeps_before.true in
    let new = (with_items used.places c.keep_all.new.places).items in
    let is : new ≡ c.keep_all.new.places = with_items_is used.places c.keep_all.new.places (c.keep_all.auto.places ∙ c.as_mut_slice.ensures.len) in
    let same : all_seen new ≡ kept o table (take k es) before =
    ap all_seen is
    ∙ c.keep_all.ensures.seen (take k es) stands (subst (λ xs. ArePartsOn o (all_seen xs)) (sym value) parts)
    ∙ ap (λ xs. map (keep (sounds_after o table (take k es)) (needed o table (take k es))) (all_seen xs)) value
    ∙ kept_then o table (take k es) before does in
    record {
      before = before;
      places = at.places;
      same = same;
      runs = numbers_was (pairs_by o table es used) number k before (all_seen new) (runs_in used.places.items) (runs_in new) at.runs
          (ap runs_in is ∙ c.keep_all.ensures.runs ∙ ap runs_in value) (λ d p h. kept_was o table (take k es) before d p (ap (λ ss. (seen_at ss
          d).pair) (sym same) ∙ h));
    }
