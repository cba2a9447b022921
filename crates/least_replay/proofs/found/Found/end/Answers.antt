use Rattle.std.proofs.Common.{◌≡◌, ◌∙◌, suc, length, take, sym, ap, subst, arith}
use Rattle.std.specs.List.{AllByRecursion}
use Rattle.std.specs.Vec.{with_items}
use Rattle.std.proofs.lemmas.List.{with_items_is}
use Rattle.retune_model.specs.Ports.{port_at}
use Rattle.retune_model.specs.Faults.{is_part}
use Rattle.lifetimes.specs.Stands.{asked, table_in}
use Rattle.lifetimes.specs.Told.{is_held}
use Rattle.least_replay.specs.Found.{resets_on, GoesEnded}
use Rattle.least_replay.specs.FoundView.{all_seen, slots_of, leaves_now, IsGoing}
use Rattle.least_replay.specs.Ending.{end_runs, stay_all}
use Rattle.least_replay.proofs.Facts.{few_begin, held_now, left_at}
use Rattle.least_replay.proofs.Steps.{ends}
use Rattle.least_replay.proofs.found.Found.end.Goals as goal

pub returns-clause-ended : goal.returns-clause-ended
returns-clause-ended g c es channels z k sound lk last resets stands kept =
    let o = asked c.args.parts.now in
    let table = g.T.Aims.table (table_in c.args.parts.now) in
    let self = c.args.self.now in
    let holds = is_held o table (take (suc k) es) in
    let leaves = leaves_now o table (take (suc k) es) in
    let told = c.pair_laws.ensures.told in
    let aimed = c.sound_sources.ensures.aimed in
    let own = c.counting_laws.ensures.own in
    let holding = c.counting_laws.ensures.holding in
    let music = c.position_laws.ensures.music in
    let few = few_begin told c.fewest_channels.ensures.once c.rests_are_runs.ensures.one_begins aimed o table es z sound in
    let port = aimed o (is_part o) table es z (λ d t. t) sound in
    let runs = (with_items self.runs c.end_all.new.runs).items in
    let going = (with_items self.going c.clear.new.going).items in
    let runs_are = with_items_is self.runs c.end_all.new.runs (c.end_all.auto.runs ∙ c.as_mut_slice.ensures.len) in
    let going_are = with_items_is self.going c.clear.new.going (c.clear.auto.going ∙ c.as_mut_slice-2.ensures.len) in
    let rs : all_seen runs ≡ end_runs holds leaves k (resets_on es z k) (slots_of self.going.items) (all_seen self.runs.items) =
    ap all_seen runs_are ∙ c.end_all.ensures (take (suc k) es) stands
    ∙ ap (λ xs. end_runs holds leaves c.args.last self.resets (slots_of xs) (all_seen c.as_mut_slice.result.now)) c.as_slice.ensures.value
    ∙ ap (λ xs. end_runs holds leaves c.args.last self.resets (slots_of self.going.items) (all_seen xs)) c.as_mut_slice.ensures.value
    ∙ ap (λ n. end_runs holds leaves n self.resets (slots_of self.going.items) (all_seen self.runs.items)) last
    ∙ ap (λ n. end_runs holds leaves k n (slots_of self.going.items) (all_seen self.runs.items)) resets in
    let xs : slots_of going ≡ stay_all holds (slots_of self.going.items) =
    ap slots_of going_are ∙ c.clear.ensures.stay (take (suc k) es) stands ∙ ap (λ ys. stay_all holds (slots_of ys)) c.as_mut_slice-2.ensures.value in
    subst (λ ys. GoesEnded o table es channels z k (all_seen runs) ys) (sym xs)
    (subst (λ ys. GoesEnded o table es channels z k ys (stay_all holds (slots_of self.going.items))) (sym rs)
    (ends o table es channels z few k lk holds leaves (all_seen self.runs.items) (slots_of self.going.items) kept
    (λ p there. held_now own holding music o table es z sound (suc k) k p (omega (arith, lk)) there)
    (λ p tail calm gone. c.leaving_laws.ensures.rests o (is_part o) table (port_at es z) k p port tail calm gone)
    (λ p v there gone calm was. left_at own holding music o table es z sound c.leaving_laws.ensures.held c.without_rests.ensures.held aimed k p v
    there gone calm was)))

pub returns-clause-going : goal.returns-clause-going
returns-clause-going g c =
    let o = asked c.args.parts.now in
    let self = c.args.self.now in
    let runs = (with_items self.runs c.end_all.new.runs).items in
    let runs_are = with_items_is self.runs c.end_all.new.runs (c.end_all.auto.runs ∙ c.as_mut_slice.ensures.len) in
    let going_are = with_items_is self.going c.clear.new.going (c.clear.auto.going ∙ c.as_mut_slice-2.ensures.len) in
    let n : length runs ≡ length self.runs.items = ap length runs_are ∙ c.end_all.auto.runs ∙ ap length c.as_mut_slice.ensures.value in
    subst (AllByRecursion (IsGoing o (length runs))) (sym going_are)
    (c.clear.ensures.going (length runs) (subst (AllByRecursion (IsGoing o (length runs))) (sym c.as_mut_slice-2.ensures.value)
    (subst (λ m. AllByRecursion (IsGoing o m) self.going.items) (sym n) c.requires.going)))
