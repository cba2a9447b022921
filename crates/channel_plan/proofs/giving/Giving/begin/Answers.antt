use Rattle.std.proofs.Common.{◌≡◌, ◌∙◌, ◌++◌, ◌∷◌, [], ℕ, suc, List, true, map, sym, ap, subst}
use Rattle.std.specs.List.{AllByRecursion}
use Rattle.std.specs.Vec.{with_items}
use Rattle.std.proofs.lemmas.List.{with_items_is}
use Rattle.lifetimes.specs.Views.{pair_of}
use Rattle.lifetimes.specs.Stands.{asked, table_in}
use Rattle.channel_plan.specs.Serving.{heads, some_serves, AreApart, RowFreed, RowStands, NotesGiven, given_as}
use Rattle.channel_plan.specs.Giving.{without_runs, with_run}
use Rattle.channel_plan.specs.declared.plan.Given.{Given}
use Rattle.channel_plan.specs.declared.plan.PortPlan.{PortPlan}
use Rattle.channel_plan.specs.declared.rowing.Used.{Used}
use Rattle.channel_plan.proofs.Goes.{next_is, notes_new, notes_old, run_leaves}
use Rattle.channel_plan.proofs.giving.Giving.begin.Goals as goal

pub returns-then-chosen-clause-goes : goal.returns-then-chosen-clause-goes
returns-then-chosen-clause-goes g c es k e order sound stands begins serves was =
    let o = asked c.args.parts.now in
    let table = g.T.Aims.table (table_in c.args.parts.now) in
    let p = pair_of c.args.pair.now in
    let x = c.give_note-chosen.result in
    let gs = c.args.self.now.given.items in
    let rs = c.args.self.now.runs.items in
    let ports = c.args.ports.now in
    let is = sym c.as_mut_slice.ensures.value in
    let rows = (with_items c.args.self.now.rows c.give_note-chosen.new.rows).items in
    let then : rows ≡ c.give_note-chosen.new.rows = with_items_is c.args.self.now.rows c.give_note-chosen.new.rows (c.give_note-chosen.auto.rows
    ∙ c.as_mut_slice.ensures.len) in
    let next = c.next_run-next.ensures ∙ next_is o table es k ports p.part.port was.notes.counted serves.planned in
    let r = c.give_note-chosen.ensures.given es gs k e order stands begins was.notes.given next
    (subst (λ (us : List Used). AreApart (heads us)) is serves.apart)
    (λ h. subst (λ (us : List Used). some_serves (heads us) p.part.port p.part.channel ≡ true) is (serves.served h))
    (subst (AllByRecursion (RowFreed o table es gs k)) is was.rows) in
    let notes : NotesGiven o table es (suc k) (map (with_run p.part.port) ports) (gs ++ given_as p x ∷ []) (rs ++ x.run ∷ []) =
    notes_new o table es k e p begins sound c.run_counts.ensures.none x r.1 ports gs rs was.notes c.if-chosen.true in
    record {
      rows = subst (λ (xs : List Given). AllByRecursion (RowStands o table es xs (suc k)) rows) (sym c.in_ok-push.ensures.items)
          (subst (AllByRecursion (RowStands o table es (gs ++ given_as p x ∷ []) (suc k))) (sym then) r.0);
      notes = subst (λ (ps : List PortPlan). NotesGiven o table es (suc k) ps c.push.new.self.items c.push-2.new.self.items) (sym c.count_run.ensures)
          (subst (λ (xs : List Given). NotesGiven o table es (suc k) (map (with_run p.part.port) ports) xs c.push-2.new.self.items)
          (sym c.in_ok-push.ensures.items)
          (subst (λ (xs : List ℕ). NotesGiven o table es (suc k) (map (with_run p.part.port) ports) (gs ++ given_as p x ∷ []) xs)
          (sym c.in_ok-push-2.ensures.items) notes));
    }

pub returns-then-chosen-clause-ports : goal.returns-then-chosen-clause-ports
returns-then-chosen-clause-ports g c = ap (map without_runs) c.count_run.ensures ∙ run_leaves c.args.pair.now.part.port c.args.ports.now

pub returns-else-chosen-clause-goes : goal.returns-else-chosen-clause-goes
returns-else-chosen-clause-goes g c es k e order sound stands begins serves was =
    let o = asked c.args.parts.now in
    let table = g.T.Aims.table (table_in c.args.parts.now) in
    let p = pair_of c.args.pair.now in
    let x = c.give_note-chosen.result in
    let gs = c.args.self.now.given.items in
    let rs = c.args.self.now.runs.items in
    let ports = c.args.ports.now in
    let is = sym c.as_mut_slice.ensures.value in
    let rows = (with_items c.args.self.now.rows c.give_note-chosen.new.rows).items in
    let then : rows ≡ c.give_note-chosen.new.rows = with_items_is c.args.self.now.rows c.give_note-chosen.new.rows (c.give_note-chosen.auto.rows
    ∙ c.as_mut_slice.ensures.len) in
    let next = c.next_run-next.ensures ∙ next_is o table es k ports p.part.port was.notes.counted serves.planned in
    let r = c.give_note-chosen.ensures.given es gs k e order stands begins was.notes.given next
    (subst (λ (us : List Used). AreApart (heads us)) is serves.apart)
    (λ h. subst (λ (us : List Used). some_serves (heads us) p.part.port p.part.channel ≡ true) is (serves.served h))
    (subst (AllByRecursion (RowFreed o table es gs k)) is was.rows) in
    let notes : NotesGiven o table es (suc k) ports (gs ++ given_as p x ∷ []) (rs ++ x.run ∷ []) =
    notes_old o table es k e p begins sound c.run_counts.ensures.none x r.1 ports gs rs was.notes c.if-chosen.false in
    record {
      rows = subst (λ (xs : List Given). AllByRecursion (RowStands o table es xs (suc k)) rows) (sym c.in_ok-push.ensures.items)
          (subst (AllByRecursion (RowStands o table es (gs ++ given_as p x ∷ []) (suc k))) (sym then) r.0);
      notes = subst (λ (xs : List Given). NotesGiven o table es (suc k) ports xs c.push-2.new.self.items) (sym c.in_ok-push.ensures.items)
          (subst (λ (xs : List ℕ). NotesGiven o table es (suc k) ports (gs ++ given_as p x ∷ []) xs) (sym c.in_ok-push-2.ensures.items) notes);
    }
