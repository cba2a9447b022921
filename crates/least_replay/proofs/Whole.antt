-- The costs of a port's runs, whole.
use Rattle.std.proofs.Common.{◌≡◌, ◌≤◌, ◌<◌, ℕ, zero, suc, List, Option, length, map, take, refl, sym, ◌∙◌, subst, arith}
use Rattle.std.proofs.lemmas.Bool.{cond-true}
use Rattle.std.proofs.lemmas.List.{length-map, length-append}
use Rattle.mt_base.specs.Midi.{MidiEvent}
use Rattle.retune_model.specs.Options.{Options, bends_notes}
use Rattle.retune_model.specs.Ports.{events_on}
use Rattle.retune_model.specs.Faults.{Targets, is_part}
use Rattle.retune_model.specs.Pairs.{Pair}
use Rattle.retune_model.specs.PortNeed.{pairs_on, need_of}
use Rattle.retune_model.specs.SourceFaults.{IsSound}
use Rattle.channel_model.specs.Choice.{beginning_at}
use Rattle.channel_plan.specs.Planned.{note_ons, runs_to as count_to}
use Rattle.channel_plan.specs.Told.{need_in, run_count_in}
use Rattle.channel_plan.specs.declared.plan.Plan.{Plan}
use Rattle.least_replay.specs.Cover.{Table, IsCover}
use Rattle.least_replay.specs.Costs.{table, AreLow}
use Rattle.least_replay.specs.Assignments.{AreRuns, IsAssignment, chains_from}
use Rattle.least_replay.specs.Measure.{runs_of, runs_to, run_at, first_of, last_of, IsMeasureOf}
use Rattle.least_replay.specs.Serving.{ServesPort, channel_at, channel_given}
use Rattle.least_replay.specs.Found.{Seen, seen_at, AreFound}
use Rattle.least_replay.specs.Filled.{AreFilled}
use Rattle.least_replay.proofs.Costing.{are_low, measured, are_runs, assigned, chains_are}
use Rattle.least_replay.proofs.Serves.{Kit, own, apart}

-- the runs are as many as are counted
count_is : (at : ℕ → List Pair) (last k : ℕ) → length (runs_to at last k) ≡ count_to at k
count_is at last zero = refl
count_is at last (suc k) =
    let e = length-append (runs_to at last k) (map (run_at at last (suc k)) (beginning_at at k)) in
    let f = length-map (beginning_at at k) (run_at at last (suc k)) in
    let g = count_is at last k in
    omega (arith, e, f, g)

-- so the plan counts them
pub run_count : (o : Options) (tbl : Targets) (es : List MidiEvent) (plan : Plan) (z : ℕ) → IsSound o tbl es → ServesPort o tbl es plan z
    → length (runs_of o tbl es z) ≡ run_count_in plan z
run_count o tbl es plan z sound serves =
    count_is (pairs_on o (is_part o) tbl es z) (length es) (length es)
    ∙ sym (cond-true (bends_notes o.route) (count_to (pairs_on o (is_part o) tbl es z) (length es))
    (length (note_ons o (events_on z (take (length es) es)))) sound.bends)
    ∙ sym serves.run_count

-- a cover is an assignment
abbrev AssignmentsCover : Type 0
AssignmentsCover = (t : Table) (first last channel : ℕ → ℕ) → AreRuns t first last → IsAssignment t first last channel
    → IsCover t (chains_from channel 0 t.runs)

-- what is so of the costs and of the cover that is kept
pub record IsWhole (o : Options) (tbl : Targets) (es : List MidiEvent) (plan : Plan) (z : ℕ) (t : Table) (kept : List (Option ℕ)) : Type 0 where
  pub low : AreLow t
  pub cover : IsCover t kept
  pub measured : IsMeasureOf o tbl es z t
  pub chains : kept ≡ chains_from (channel_given o es plan (runs_of o tbl es z)) 0 t.runs

pub whole : AssignmentsCover → Kit → (o : Options) (tbl : Targets) (es : List MidiEvent) (plan : Plan) (z : ℕ) → IsSound o tbl es
    → length es ≤ 2097152
    → ((k : ℕ) → k < length es → length (beginning_at (pairs_on o (is_part o) tbl es z) k) ≤ 1) → ServesPort o tbl es plan z
    → (rs : List Seen) (runs starts : ℕ) (start after : List ℕ) (kept : List (Option ℕ))
    → AreFound o tbl es (channel_at o es plan) z (length es) (length es) rs → AreFilled rs start after → runs ≡ length rs → starts ≡ need_in plan z
    → kept ≡ chains_from (λ b. (seen_at rs b).channel) 0 (length rs) → IsWhole o tbl es plan z (table runs starts start after) kept
whole covers kit o tbl es plan z sound short few serves rs runs starts start after kept found filled e needed chained =
    let s : starts ≡ (need_of o (is_part o) tbl es z).0 = needed ∙ serves.need in
    let long = serves.long in
    let costs = measured rs start after filled starts o tbl es (channel_at o es plan) z few short found s in
    let positions = are_runs o tbl es z few (table (length rs) starts start after) costs in
    let assignment = assigned rs start after filled starts o tbl es (channel_at o es plan) z few short found serves.used
    (channel_given o es plan (runs_of o tbl es z)) (omega (arith, long, s))
    (own kit o tbl es plan z sound few serves) (apart kit o tbl es plan z sound few serves) in
    let chains : kept ≡ chains_from (channel_given o es plan (runs_of o tbl es z)) 0 (length rs) =
    chained ∙ chains_are rs start after filled starts o tbl es (channel_at o es plan) z few short found (length rs) (omega arith) in
    subst (λ n. IsWhole o tbl es plan z (table n starts start after) kept) (sym e) (record {
      low = are_low rs start after filled starts;
      cover = subst (IsCover (table (length rs) starts start after)) (sym chains)
          (covers (table (length rs) starts start after) (first_of (runs_of o tbl es z)) (last_of (runs_of o tbl es z))
          (channel_given o es plan (runs_of o tbl es z)) positions assignment);
      measured = costs;
      chains = chains;
    })
