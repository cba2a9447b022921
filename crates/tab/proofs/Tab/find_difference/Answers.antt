use Rattle.std.proofs.Common.{sym, arith, rules, ap, ◌∙◌, ◌≡◌, ◌-◌, ◌+◌, subst, List, ℕ}
use Rattle.tab.proofs.Masks.{Tells, same_along, same_next}
use Rattle.tab.proofs.Counts.{away_skip, away_found}
use Rattle.tab.specs.Entries.{away}
use Rattle.tab.proofs.Tab.find_difference.Goals as goal

pub returns-then-skip-i-clause-none : goal.returns-then-skip-i-clause-none
returns-then-skip-i-clause-none g c = λ k low below.
    let bases : c.self.inside.base ≡ c.other.inside.base = ap (λ e. e.defaults) c.self.view_is ∙ c.requires.bases ∙ sym (ap (λ e. e.defaults) c.other.view_is) in
    rw (← c.self.view_is, ← c.other.view_is)
    (same_along g.row.N c.loop-i.i c.self.inside.mask c.other.inside.mask c.args.from _ _ _ _ bases (search rules) (search rules) c.self.invariant.1 c.other.invariant.1 c.loop-i.invariant.same k low below (omega (arith, c.if-skip-i.true, c.loop-i-test.true, below)))

pub returns-then-skip-i-clause-looked_all : goal.returns-then-skip-i-clause-looked_all
returns-then-skip-i-clause-looked_all g c =
    let bases : c.self.inside.base ≡ c.other.inside.base = ap (λ e. e.defaults) c.self.view_is ∙ c.requires.bases ∙ sym (ap (λ e. e.defaults) c.other.view_is) in
    let tells : Tells g.row.N c.self.inside.mask c.other.inside.base c.self.inside.items = let P : List ℕ → Type 0 = λ b. Tells g.row.N c.self.inside.mask b c.self.inside.items in subst P bases c.self.invariant.1 in
    let end : c.loop-i.i + (g.row.N - c.loop-i.i) ≡ g.row.N = omega (arith, c.loop-i.invariant.within) in
    let rest : away c.self.inside.items (record { defaults = c.other.inside.base; items = c.other.inside.items }) (c.loop-i.i + (g.row.N - c.loop-i.i)) ≡ away c.self.inside.items (record { defaults = c.other.inside.base; items = c.other.inside.items }) c.loop-i.i =
    away_skip g.row.N c.self.inside.mask c.other.inside.mask c.self.inside.items (record { defaults = c.other.inside.base; items = c.other.inside.items }) (search rules) (search rules) tells c.other.invariant.1 c.loop-i.i (g.row.N - c.loop-i.i) (omega arith) c.if-skip-i.true in
    rw (← c.self.view_is, ← c.other.view_is) (c.loop-i.invariant.looked ∙ sym rest ∙ ap (away c.self.inside.items (record { defaults = c.other.inside.base; items = c.other.inside.items })) end)

pub returns-then-self-i-clause-least : goal.returns-then-self-i-clause-least
returns-then-self-i-clause-least g c = λ k low to.
    let bases : c.self.inside.base ≡ c.other.inside.base = ap (λ e. e.defaults) c.self.view_is ∙ c.requires.bases ∙ sym (ap (λ e. e.defaults) c.other.view_is) in
    rw (← c.self.view_is, ← c.other.view_is)
    (same_along g.row.N c.loop-i.i c.self.inside.mask c.other.inside.mask c.args.from _ _ _ _ bases (search rules) (search rules) c.self.invariant.1 c.other.invariant.1 c.loop-i.invariant.same k low (omega (arith, to, c.if-skip-i.false, c.loop-i-test.true)) to)

pub returns-then-self-i-clause-looked : goal.returns-then-self-i-clause-looked
returns-then-self-i-clause-looked g c =
    let bases : c.self.inside.base ≡ c.other.inside.base = ap (λ e. e.defaults) c.self.view_is ∙ c.requires.bases ∙ sym (ap (λ e. e.defaults) c.other.view_is) in
    let tells : Tells g.row.N c.self.inside.mask c.other.inside.base c.self.inside.items = let P : List ℕ → Type 0 = λ b. Tells g.row.N c.self.inside.mask b c.self.inside.items in subst P bases c.self.invariant.1 in
    rw (← c.self.view_is, ← c.other.view_is)
    (away_found g.row.N c.self.inside.mask c.other.inside.mask c.self.inside.items (record { defaults = c.other.inside.base; items = c.other.inside.items }) (search rules) (search rules) tells c.other.invariant.1 c.self.invariant.0 c.loop-i.i c.args.from c.loop-i.looked (omega (arith, c.if-skip-i.false, c.loop-i-test.true)) c.loop-i.invariant.looked)

pub loop-i-preserved : goal.loop-i-preserved
loop-i-preserved g c =
    let bases : c.self.inside.base ≡ c.other.inside.base = ap (λ e. e.defaults) c.self.view_is ∙ c.requires.bases ∙ sym (ap (λ e. e.defaults) c.other.view_is) in
    let tells : Tells g.row.N c.self.inside.mask c.other.inside.base c.self.inside.items = let P : List ℕ → Type 0 = λ b. Tells g.row.N c.self.inside.mask b c.self.inside.items in subst P bases c.self.invariant.1 in
    record {
      up = omega (arith, c.loop-i.invariant.up);
      within = omega (arith, c.if-skip-i.false, c.loop-i-test.true);
      same = same_next g.row.N _ c.args.from _ _
          (same_along g.row.N c.loop-i.i c.self.inside.mask c.other.inside.mask c.args.from _ _ _ _ bases (search rules) (search rules) c.self.invariant.1 c.other.invariant.1 c.loop-i.invariant.same)
          (omega (arith, c.if-skip-i.false, c.loop-i-test.true)) c.if-self-i.false;
      looked = away_found g.row.N c.self.inside.mask c.other.inside.mask c.self.inside.items (record { defaults = c.other.inside.base; items = c.other.inside.items }) (search rules) (search rules) tells c.other.invariant.1 c.self.invariant.0 c.loop-i.i c.args.from c.loop-i.looked (omega (arith, c.if-skip-i.false, c.loop-i-test.true)) c.loop-i.invariant.looked;
      few = omega (arith, c.loop-i.invariant.few);
    }
