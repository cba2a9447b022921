-- How near columns come to a row.
use Rattle.std.proofs.Common.{◌≡◌, ◌≢◌, inl, inr, ℕ, ◌+◌, ◌-◌, ◌<◌, ◌≤◌, List, length, refl, sym, ◌∙◌, subst, arith}
use Rattle.std.specs.Prelude.{Option}
use Rattle.std.proofs.lemmas.List.{get_or_past}
use Rattle.least_replay.specs.Cover.{Table}
use Rattle.least_replay.specs.Tree.{at, IsTree, IsRelaxed, IsRelaxedIn}
use Rattle.least_replay.specs.Columns.{over, weight, top}
use Rattle.least_replay.proofs.Duality.{lt_or_ge}
use Rattle.least_replay.proofs.Trees.{zero_or_more}
use Rattle.least_replay.proofs.Weights.{weight_start, weight_end, top_end}

end_low : (t : Table) → t.runs ≤ 2000 → (r j : ℕ) → t.runs ≤ r → weight t r j ≤ 2000000000
end_low t few r j h = elim (lt_or_ge j t.runs) [
  | inl l ↦ let e : weight t r j ≡ over (t.runs - 1 - j) = weight_end t r j l h in omega (arith, e, few)
  | inr g ↦ let e : weight t r j ≡ over t.runs = weight_start t r j g ∙ top_end t r h in omega (arith, e, few)
]

-- no column is farther from a tree than from the end from which it grows
pub root_near : (t : Table) (b : ℕ) (u v : List ℕ) (row_of : List (Option ℕ)) (col_of tree place from slack : List ℕ) →
    t.runs ≤ b → t.runs ≤ 2000 → IsTree (weight t) (top t) b (length slack) u v row_of col_of tree place from slack →
    (j : ℕ) → at slack j ≤ 2000000000 + at v j
root_near t b u v row_of col_of tree place from slack h few g j = elim (lt_or_ge j (length slack)) [
  | inr past ↦ let e : at slack j ≡ 0 = get_or_past slack j 0 past in omega (arith, e)
  | inl low ↦ elim (zero_or_more (at place j)) [
    | inr inn ↦ let e : at slack j ≡ 0 = g.zero j inn in omega (arith, e)
    | inl out ↦
        let P : ℕ → Type 0 = λ x. at slack j + at u x ≤ weight t x j + at v j in
        let l : at slack j + at u b ≤ weight t b j + at v j = subst P g.root (g.least 0 j g.some_row low out) in
        omega (arith, l, end_low t few b j h)
  ]
]

-- a column of the tree comes no nearer
pub relaxed_zero : (k u reach slack slack' from from' : ℕ) → slack ≡ 0 → IsRelaxed k u reach slack slack' from from'
    → (slack' ≡ slack) × (from' ≡ from)
relaxed_zero k u reach slack slack' from from' z h = elim h [ inl p ↦ (p.1, p.0) | inr p ↦ absurd (omega (arith, p.2, z)) ]

-- columns from one on, and then from where these end
pub relaxed_on : (first middle last k u : ℕ) (reach : ℕ → ℕ) (slack slack' slack'' from from' from'' : List ℕ) → first ≤ middle → middle ≤ last →
    IsRelaxedIn first middle k u reach slack slack' from from' → IsRelaxedIn middle last k u reach slack' slack'' from' from'' →
    IsRelaxedIn first last k u reach slack slack'' from from''
relaxed_on first middle last k u reach slack slack' slack'' from from' from'' fm ml one two = record {
  within = λ j g l. elim (lt_or_ge j middle) [
    | inl low ↦ subst (λ (s : ℕ). IsRelaxed k u (reach j) (at slack j) s (at from j) (at from'' j)) (sym (two.slack_below j low))
        (subst (λ (f : ℕ). IsRelaxed k u (reach j) (at slack j) (at slack' j) (at from j) f) (sym (two.from_below j low)) (one.within j g low))
    | inr high ↦ subst (λ (s : ℕ). IsRelaxed k u (reach j) s (at slack'' j) (at from j) (at from'' j)) (one.slack_above j high)
        (subst (λ (f : ℕ). IsRelaxed k u (reach j) (at slack' j) (at slack'' j) f (at from'' j)) (one.from_above j high) (two.within j high l))
  ];
  slack_below = λ j l. two.slack_below j (omega (arith, l, fm)) ∙ one.slack_below j l;
  slack_above = λ j g. two.slack_above j g ∙ one.slack_above j (omega (arith, g, ml));
  from_below = λ j l. two.from_below j (omega (arith, l, fm)) ∙ one.from_below j l;
  from_above = λ j g. two.from_above j g ∙ one.from_above j (omega (arith, g, ml));
}

-- one column
pub relaxed_here : (j k u : ℕ) (reach : ℕ → ℕ) (slack slack' from from' : List ℕ) →
    IsRelaxed k u (reach j) (at slack j) (at slack' j) (at from j) (at from' j) →
    ((i : ℕ) → i ≢ j → at slack' i ≡ at slack i) → ((i : ℕ) → i ≢ j → at from' i ≡ at from i) →
    IsRelaxedIn j (j + 1) k u reach slack slack' from from'
relaxed_here j k u reach slack slack' from from' h slack_still from_still = record {
  within = λ i g l. subst (λ (x : ℕ). IsRelaxed k u (reach x) (at slack x) (at slack' x) (at from x) (at from' x)) (let e : j ≡ i =
      omega (arith, g, l) in e) h;
  slack_below = λ i l. slack_still i (omega (arith, l));
  slack_above = λ i g. slack_still i (omega (arith, g));
  from_below = λ i l. from_still i (omega (arith, l));
  from_above = λ i g. from_still i (omega (arith, g));
}

-- columns that stand for no step
pub relaxed_past : (first last k u : ℕ) (reach : ℕ → ℕ) (slack from : List ℕ) → ((j : ℕ) → first ≤ j → j < last → at slack j + u ≤ reach j) →
    IsRelaxedIn first last k u reach slack slack from from
relaxed_past first last k u reach slack from h = record {
  within = λ j g l. inl (refl, refl, h j g l);
  slack_below = λ j l. refl;
  slack_above = λ j g. refl;
  from_below = λ j l. refl;
  from_above = λ j g. refl;
}

-- one column more
pub relaxed_next : (first j k u : ℕ) (reach : ℕ → ℕ) (slack slack' slack'' from from' from'' : List ℕ) → first ≤ j →
    IsRelaxedIn first j k u reach slack slack' from from' →
    IsRelaxed k u (reach j) (at slack' j) (at slack'' j) (at from' j) (at from'' j) →
    ((i : ℕ) → i ≢ j → at slack'' i ≡ at slack' i) → ((i : ℕ) → i ≢ j → at from'' i ≡ at from' i) →
    IsRelaxedIn first (j + 1) k u reach slack slack'' from from''
relaxed_next first j k u reach slack slack' slack'' from from' from'' low one h slack_still from_still =
    relaxed_on first j (j + 1) k u reach slack slack' slack'' from from' from'' low (omega arith) one
    (relaxed_here j k u reach slack' slack'' from' from'' h slack_still from_still)
