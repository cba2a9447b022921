use Rattle.std.proofs.Common.{◌≤◌, ◌*◌, ◌∙◌, ℕ, get_or, length, arith, subst, sym}
use Rattle.std.specs.Prelude.{All, Contains}
use Rattle.event_stream.proofs.Trees.{least_of, among_them}
use Rattle.event_stream.proofs.Waiting.{waits_among, not_waiting}
use Rattle.event_stream.proofs.least.Least.first.Goals as goal

pub returns-then-self-clause-among : goal.returns-then-self-clause-among
returns-then-self-clause-among c =
    let s = c.self.inside in
    let room : 2 * s.count ≤ length s.tree = omega (arith, c.self.told, c.self.invariant.few) in
    subst (λ xs. Contains xs s.number) c.self.view_is (waits_among s.count s.place s.number s.tree room c.self.invariant.exists)

pub returns-else-self-clause-least : goal.returns-else-self-clause-least
returns-else-self-clause-least c =
    let s = c.self.inside in
    let room : 2 * s.count ≤ length s.tree = omega (arith, c.self.told, c.self.invariant.few) in
    let is = sym (not_waiting s.count s.place s.number s.rival s.tree c.self.invariant c.if-self.false) ∙ c.self.view_is in
    subst (All (λ (k : ℕ). get_or s.tree 1 0 ≤ k)) is (least_of s.count s.tree c.self.invariant.some room c.self.invariant.is_tree)

pub returns-else-self-clause-among : goal.returns-else-self-clause-among
returns-else-self-clause-among c =
    let s = c.self.inside in
    let room : 2 * s.count ≤ length s.tree = omega (arith, c.self.told, c.self.invariant.few) in
    let is = sym (not_waiting s.count s.place s.number s.rival s.tree c.self.invariant c.if-self.false) ∙ c.self.view_is in
    subst (λ xs. Contains xs (get_or s.tree 1 0)) is (among_them s.count s.tree c.self.invariant.some room c.self.invariant.is_tree)
