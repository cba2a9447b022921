use Rattle.std.proofs.Common.{◌≡◌, ◌≤◌, ◌*◌, ◌∙◌, ℕ, set, get_or, length, arith, ap, inl, subst, sym}
use Rattle.std.specs.Prelude.{All, Contains}
use Rattle.event_stream.specs.Tree.{leaves}
use Rattle.event_stream.proofs.Trees.{least_of, among_them}
use Rattle.event_stream.proofs.Waiting.{count_numbers, waits_among, put_into_leaf, same_numbers, in_its_leaf}
use Rattle.event_stream.proofs.least.Least.set.Goals as goal

pub returns-then-number-self-clause-among : goal.returns-then-number-self-clause-among
returns-then-number-self-clause-among c =
    let s = c.self.inside in
    waits_among s.count s.place c.args.number s.tree (omega (arith, c.self.told, c.self.invariant.few)) c.self.invariant.exists

room_before : (c : goal.After-result-1) → 2 * c.self.inside.count ≤ length c.self.inside.tree
room_before c = omega (arith, c.self.told, c.self.invariant.few)

room_after : (c : goal.After-result-1) → 2 * c.self.inside.count ≤ length c.take_over-self-inside.new.tree
room_after c = grind (arith, c.self.told, c.take_over-self-inside.auto.tree, c.self.invariant.few)

put_there : (c : goal.After-result-1) → leaves c.self.inside.count c.take_over-self-inside.new.tree ≡ set c.args.self.now c.args.place c.args.number
put_there c = c.take_over-self-inside.ensures.leaves ∙ ap (λ l. set l c.args.place c.args.number) c.self.view_is

is_in_leaf : (c : goal.After-result-1) → get_or (leaves c.self.inside.count c.take_over-self-inside.new.tree) c.args.place 0 ≡ c.args.number
is_in_leaf c = put_into_leaf c.self.inside.count c.args.place c.args.number c.take_over-self-inside.new.tree c.args.self.now c.requires (put_there c)

pub invariant_of-self-2 : goal.invariant_of-self-2
invariant_of-self-2 c =
    let s = c.self.inside in
    record {
      some = c.self.invariant.some;
      few = c.self.invariant.few;
      is_tree = c.take_over-self-inside.ensures.tree;
      exists = omega (arith, c.requires, ap length c.self.view_is, count_numbers s.count s.place s.number s.tree (room_before c));
      below_others = c.take_over-self-inside.ensures.others;
      in_place = inl (is_in_leaf c);
    }

pub returns-clause-set : goal.returns-clause-set
returns-clause-set c = same_numbers c.self.inside.count c.args.place c.args.number c.take_over-self-inside.new.tree c.args.self.now c.requires (put_there c)

pub returns-clause-least : goal.returns-clause-least
returns-clause-least c =
    let tree = c.take_over-self-inside.new.tree in
    subst (All (λ (k : ℕ). get_or tree 1 0 ≤ k)) (sym (in_its_leaf c.self.inside.count c.args.place c.args.number tree (is_in_leaf c)))
    (least_of c.self.inside.count tree c.self.invariant.some (room_after c) c.take_over-self-inside.ensures.tree)

pub returns-clause-among : goal.returns-clause-among
returns-clause-among c =
    let tree = c.take_over-self-inside.new.tree in
    subst (λ xs. Contains xs (get_or tree 1 0)) (sym (in_its_leaf c.self.inside.count c.args.place c.args.number tree (is_in_leaf c)))
    (among_them c.self.inside.count tree c.self.invariant.some (room_after c) c.take_over-self-inside.ensures.tree)
