use Rattle.std.proofs.Common.{arith, rules, ◌≡◌, ◌<◌, ℕ, slice_index, subst, ◌∙◌}
use Rattle.std.proofs.lemmas.List.{get_or-set_other}
use Rattle.tab.specs.Entries.{Entries}
use Rattle.tab.proofs.Resets.{back, back_all, back_next, tells_back}
use Rattle.tab.proofs.Tab.reset.Given.{Over}
use Rattle.tab.proofs.Tab.reset.Goals as goal
use Rattle.tab.proofs.Tab.reset.Goals.{else-loop-i-test, then-loop-i-test+then-skip-i}

pub loop-i-preserved : goal.loop-i-preserved
loop-i-preserved g c =
    let i = c.loop-i.invariant in
    let now = c.loop-i.self-inside in
    let old = c.self.inside in
    record {
      within = omega (arith, c.if-skip-i.false, c.loop-i-test.true);
      base = i.base;
      mask = i.mask;
      full = search rules;
      done = back_next g.row.N old.mask c.args.which c.loop-i.i old.base now.base old.items now.items i.base c.self.invariant.0 i.full
          (search rules) (search rules) c.self.invariant.1 i.done i.rest _ (omega arith) (omega (arith, c.if-skip-i.false, c.loop-i-test.true));
      rest = λ k from. get_or-set_other now.items _ k _ 0 (λ e. omega (arith, e, from)) ∙ i.rest k (omega (arith, from));
    }

-- what the entries are when the loop ends
entries : (g : Over) (c : goal.After-self-2-1 g)
    → (k : ℕ) → k < g.row.N → slice_index c.loop-i.self-inside.items k ≡ back c.args.which c.self.inside.base c.self.inside.items k
entries g c =
    let i = c.loop-i.invariant in
    let old = c.self.inside in
    back_all g.row.N old.mask c.args.which c.loop-i.i old.base old.items c.loop-i.self-inside.items (search rules) (search rules) c.self.invariant.1 i.done i.rest
    (elim c.loop-i-test.branch [
      | else-loop-i-test w ↦ omega (arith, w.loop-i-test.false)
      | then-loop-i-test+then-skip-i w ↦ omega (arith, w.loop-i-test.true, w.if-skip-i.true)
    ])

pub invariant_of-self : goal.invariant_of-self
invariant_of-self g c =
    let i = c.loop-i.invariant in
    let old = c.self.inside in
    let tells = c.self.invariant in
    rw (i.base, i.mask)
    (tells.0, tells_back g.row.N old.mask c.args.which old.base old.items c.loop-i.self-inside.items tells.0 (search rules) tells.1 (entries g c))

pub returns-clause-items : goal.returns-clause-items
returns-clause-items g c =
    let P : Entries → Type 0 = λ e. (k : ℕ) → k < g.row.N → slice_index c.loop-i.self-inside.items k ≡ back c.args.which e.defaults e.items k in
    subst P c.self.view_is (entries g c)
