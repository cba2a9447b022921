use Rattle.std.proofs.Common.{◌≡◌, ◌<◌, ℕ, suc, Some, length, set, take, refl, sym, ap, ◌∙◌, subst, arith}
use Rattle.std.specs.Vec.{with_items}
use Rattle.std.proofs.lemmas.List.{length-map, get_or-map, with_items_is}
use Rattle.receiver.specs.State.{state_of}
use Rattle.lifetimes.specs.Views.{pair_of}
use Rattle.lifetimes.specs.Stands.{asked, table_in}
use Rattle.retune_model.specs.PortNeed.{IsNeedOf}
use Rattle.plan_laws.specs.Placing.{seen_at, begin_on, IsBestSeen}
use Rattle.plan_laws.specs.Rows.{needed, IsRowAt}
use Rattle.channel_plan.specs.declared.choice.Place.{Place}
use Rattle.channel_plan.specs.Choosing.{AreTaken}
use Rattle.channel_plan.specs.Passing.{channels_in}
use Rattle.channel_plan.specs.Seeing.{seen, all_seen, runs_in}
use Rattle.channel_plan.specs.Stepping.{pairs_by, run_in}
use Rattle.channel_plan.proofs.Seen.{chosen_best, taken_none}
use Rattle.channel_plan.proofs.Taking.{Numbered, since_stays, since_begins, numbers_stay, numbers_with}
use Rattle.channel_plan.proofs.rowing.Used.give.Goals as goal

pub returns-in-Some-clause-placed : goal.returns-in-Some-clause-placed
returns-in-Some-clause-placed g c = λ es row number k e stands on agrees.
    let o = asked c.args.parts.now in
    let table = g.T.Aims.table (table_in c.args.parts.now) in
    let used = c.args.self.now in
    let part = channels_in o used.part in
    let at = pairs_by o table es used in
    let p = pair_of c.args.pair.now in
    let ss = all_seen used.places.items in
    let place = c.in-Some.place in
    let here : (seen_at ss place).pair ≡ Some p = ap (λ xs. (seen_at (all_seen xs) place).pair) (sym c.as_slice.ensures.value)
    ∙ c.in-Some.ensures.some in
    let was = c.row_laws.ensures.keeps o part table es used.port row k ss place p on.left.places here in
    let l : place < length used.places.items = (let m = c.in-Some.ensures.within in let e = ap length c.as_slice.ensures.value in omega (
      arith,
      m,
      e,
    )) in
    let run : run_in used place ≡ c.index.result.now.run =
    get_or-map (λ (x : Place). x.run) used.places.items place c.index.result.now 0 l ∙ ap (λ x. x.run) (sym c.index.ensures) in
    record {
      stands = record {
        places = c.row_laws.ensures.goes_on o part table es used.port row k ss p place on.of on.left.places on.plain on.begun here;
        runs = numbers_stay at number k ss (runs_in used.places.items) on.left.runs (λ d q h. (c.row_laws.ensures.keeps o part table es used.port row
            k ss d q on.left.places h).0);
      };
      place = ap row (since_stays at p k was.0) ∙ was.1;
      run = ap number (since_stays at p k was.0) ∙ sym (on.left.runs place p here) ∙ run;
    }

pub returns-in-Some-choose-clause-begins : goal.returns-in-Some-choose-clause-begins
returns-in-Some-choose-clause-begins g c = λ es row number k e stands on.
    let o = asked c.args.parts.now in
    let table = g.T.Aims.table (table_in c.args.parts.now) in
    let used = c.args.self.now in
    c.row_laws.ensures.begins o (channels_in o used.part) table es used.port row k (all_seen used.places.items) (pair_of c.args.pair.now) on.of
    on.left.places on.begun
    (λ d h. c.in_default.ensures.none d (ap (λ xs. (seen_at (all_seen xs) d).pair) c.as_slice.ensures.value ∙ h))

pub returns-in-Some-choose-clause-placed : goal.returns-in-Some-choose-clause-placed
returns-in-Some-choose-clause-placed g c = λ es row number k e stands on agrees.
    let o = asked c.args.parts.now in
    let table = g.T.Aims.table (table_in c.args.parts.now) in
    let used = c.args.self.now in
    let part = channels_in o used.part in
    let at = pairs_by o table es used in
    let p = pair_of c.args.pair.now in
    let places = used.places.items in
    let ss = all_seen places in
    let place = c.in-Some-choose.place in
    let none = λ (d : ℕ) (h : (seen_at ss d).pair ≡ Some p). c.in_default.ensures.none d (ap (λ xs. (seen_at (all_seen xs) d).pair)
    c.as_slice.ensures.value ∙ h) in
    let new = returns-in-Some-choose-clause-begins g c es row number k e stands on in
    let best : IsBestSeen ss (needed o table (take (suc k) es) p) place =
    subst (λ w. IsBestSeen ss w place) (c.needed.ensures (take (suc k) es) stands c.requires.part)
    (subst (λ xs. IsBestSeen (all_seen xs) (state_of c.needed.result) place) c.as_slice-2.ensures.value
    (chosen_best c.as_slice-2.result.now (state_of c.needed.result) place c.in-Some-choose.ensures.some)) in
    let agreed = agrees refl in
    let begun = since_begins at p k new in
    let l : place < length ss = best.within in
    let m : place < length (runs_in places) = (let long = length-map places seen in let runs = length-map places (λ (x : Place). x.run) in omega
    (arith, l, long, runs)) in
    let now = (with_items used.places c.begin.new.places).items in
    let is : now ≡ c.begin.new.places = with_items_is used.places c.begin.new.places (c.begin.auto.places ∙ c.as_mut_slice.ensures.len) in
    let whole : all_seen now ≡ begin_on ss place p = ap all_seen is ∙ c.begin.ensures.seen
    ∙ ap (λ xs. begin_on (all_seen xs) place p) c.as_mut_slice.ensures.value in
    let runs = ap runs_in is ∙ c.begin.ensures.runs ∙ ap (λ xs. set (runs_in xs) place c.args.next) c.as_mut_slice.ensures.value in
    let numbers = numbers_with at number k ss (runs_in places) place c.args.next p l m
    (numbers_stay at number k ss (runs_in places) on.left.runs (λ d q h. (c.row_laws.ensures.keeps o part table es used.port row k ss d q
    on.left.places h).0))
    (ap number begun ∙ agreed.1) in
    record {
      stands = record {
        places = subst (IsRowAt o part table es used.port row (suc k)) (sym whole)
            (c.row_laws.ensures.takes o part table es used.port row k e ss p place on.of on.comes on.left.places on.plain on.begun none best
            agreed.0);
        runs = subst (λ tt. Numbered at number (suc k) tt (runs_in now)) (sym whole)
            (subst (Numbered at number (suc k) (begin_on ss place p)) (sym runs) numbers);
      };
      place = ap row begun ∙ agreed.0;
      run = ap number begun ∙ agreed.1;
    }

pub returns-in-None-clause-none : goal.returns-in-None-clause-none
returns-in-None-clause-none g c = λ es row number k instant e stands on need.
    let o = asked c.args.parts.now in
    let table = g.T.Aims.table (table_in c.args.parts.now) in
    let used = c.args.self.now in
    let part = channels_in o used.part in
    let p = pair_of c.args.pair.now in
    let places = used.places.items in
    let long = length-map places seen in
    let free = c.row_laws.ensures.room o part table es used.port row k e (all_seen places) p instant on.of on.comes on.left.places on.begun
    (λ d h. c.in_default.ensures.none d (ap (λ xs. (seen_at (all_seen xs) d).pair) c.as_slice.ensures.value ∙ h))
    (subst (λ n. IsNeedOf o part table es used.port n instant) (sym long) need) in
    taken_none places (subst AreTaken c.as_slice-2.ensures.value c.in-None.ensures.none) free.0 free.1 free.2
