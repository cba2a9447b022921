-- Where all ends are in, the numbers without what is stepped over are a certificate.
use Rattle.std.proofs.Common.{◌≡◌, ◌≢◌, inl, inr, ℕ, ◌+◌, ◌-◌, ◌<◌, ◌≤◌, List, length, take, refl, sym, ap, ◌∙◌, subst, arith, length-take-le, get_or-take}
use Rattle.std.specs.Prelude.{Option, Some, None}
use Rattle.std.proofs.lemmas.List.{get_or_past}
use Rattle.least_replay.specs.Cover.{Table}
use Rattle.least_replay.specs.Columns.{over, step, top, behind, weight, alone, IsSettled}
use Rattle.least_replay.specs.Tree.{at, row_at, IsMatched}
use Rattle.least_replay.proofs.Duality.{lt_or_ge}
use Rattle.least_replay.proofs.Trees.{option_cases, same_or_not, some_same}
use Rattle.least_replay.proofs.Weights.{IsAhead, top_run, top_end, weight_start, weight_run, weight_end, behind_other}

-- all ends cost the same behind each column
same_end : (t : Table) (r j : ℕ) → t.runs ≤ r → weight t r j ≡ weight t t.runs j
same_end t r j h = elim (lt_or_ge j t.runs) [
  | inl l ↦ weight_end t r j l h ∙ sym (weight_end t t.runs j l (omega arith))
  | inr g ↦ weight_start t r j g ∙ top_end t r h ∙ sym (weight_start t t.runs j g ∙ top_end t t.runs (omega arith))
]

run_reaches : (t : Table) → IsAhead t → (b j : ℕ) → b < t.runs → j < t.runs → (o : Option ℕ) → t.after j b ≡ o →
    over (t.runs - 1 - j) ≤ step (b - 1 - j) o + over (t.runs - b)
run_reaches t ahead b j bl jl None e = omega (arith, ahead.few)
run_reaches t ahead b j bl jl (Some c) e = omega (arith, ahead.earlier j b c e, bl)

-- a step over runs costs an end at least as much as the way by the run
reaches : (t : Table) → IsAhead t → (b j : ℕ) → b < t.runs → weight t t.runs j ≤ weight t b j + over (t.runs - b)
reaches t ahead b j bl = elim (lt_or_ge j t.runs) [
  | inr g ↦
      let x : weight t b j ≡ t.start b + over b = weight_start t b j g ∙ top_run t b bl in
      let y : weight t t.runs j ≡ over t.runs = weight_start t t.runs j g ∙ top_end t t.runs (omega arith) in
      omega (arith, x, y, bl)
  | inl l ↦
      let y : weight t t.runs j ≡ over (t.runs - 1 - j) = weight_end t t.runs j l (omega arith) in
      let x : weight t b j ≡ behind t b j = weight_run t b j l bl in
      elim (same_or_not j b) [
        | inl e ↦ omega (arith, y, e, bl)
        | inr d ↦
            let z : behind t b j ≡ step (b - 1 - j) (t.after j b) = behind_other t b j d in
            let h : over (t.runs - 1 - j) ≤ step (b - 1 - j) (t.after j b) + over (t.runs - b) = run_reaches t ahead b j bl l (t.after j b) refl in
            omega (arith, x, y, z, h)
      ]
]

pub alone_is : (t : Table) → IsAhead t → (b j : ℕ) → b < t.runs → alone t b j + weight t t.runs j ≡ weight t b j + over (t.runs - b)
unfolding alone
alone_is t ahead b j bl = let h : weight t t.runs j ≤ weight t b j + over (t.runs - b) = reaches t ahead b j bl in omega (arith, h)

-- a step from a run to a later one, and the way on to the end
step_on : (t : Table) → IsAhead t → (a b c : ℕ) → a < t.runs → b < t.runs → t.after a b ≡ Some c
    → weight t b a + over (t.runs - b) ≡ c + weight t t.runs a
step_on t ahead a b c al bl s =
    let early : a < b = ahead.earlier a b c s in
    let x : weight t b a ≡ c + over (b - 1 - a) = weight_run t b a al bl ∙ behind_other t b a (omega (arith, early)) ∙ ap (step (b - 1 - a)) s in
    let y : weight t t.runs a ≡ over (t.runs - 1 - a) = weight_end t t.runs a al (omega arith) in
    omega (arith, x, y, early, bl)

module _ (t : Table) (ahead : IsAhead t) (u v : List ℕ) (row_of : List (Option ℕ)) (col_of : List ℕ)
    (m : IsMatched (weight t) (top t) (t.runs + t.starts) (t.runs + t.starts) u v row_of col_of)
    (least : ℕ) (none : t.starts ≡ 0 → least ≡ 0) (some : 0 < t.starts → least ≡ at u t.runs) where
  -- what the first end's number is lies nowhere above what an end costs
  pub least_column : (j : ℕ) → j < t.runs + t.starts → least ≤ weight t t.runs j + at v j
  least_column j jl = elim (lt_or_ge 0 t.starts) [
    | inl h ↦ let f : at u t.runs ≤ weight t t.runs j + at v j = m.fits t.runs j (omega (arith, h)) jl in omega (arith, f, some h)
    | inr g ↦ omega (arith, none (omega (arith, g)))
  ]

  pub least_run : (b : ℕ) → b < t.runs → least ≤ at u b + over (t.runs - b)
  least_run b bl =
      let j : ℕ = at col_of b in
      let f : least ≤ weight t t.runs (at col_of b) + at v (at col_of b) = least_column (at col_of b) (m.of_row b (omega (arith, bl))).0 in
      let e : at u b ≡ weight t b (at col_of b) + at v (at col_of b) = m.tight b (omega (arith, bl)) in
      let h : weight t t.runs (at col_of b) ≤ weight t b (at col_of b) + over (t.runs - b) = reaches t ahead b (at col_of b) bl in
      omega (arith, f, e, h)

  -- all ends have the same number
  end_number : (r : ℕ) → t.runs ≤ r → r < t.runs + t.starts → at u r ≡ least
  end_number r g l =
      let h : 0 < t.starts = omega (arith, g, l) in
      let n : t.runs < t.runs + t.starts = omega (arith, h) in
      let first : at u t.runs ≤ weight t t.runs (at col_of r) + at v (at col_of r) = m.fits t.runs (at col_of r) n (m.of_row r l).0 in
      let here : at u r ≡ weight t r (at col_of r) + at v (at col_of r) = m.tight r l in
      let one : weight t r (at col_of r) ≡ weight t t.runs (at col_of r) = same_end t r (at col_of r) g in
      let last : at u r ≤ weight t r (at col_of t.runs) + at v (at col_of t.runs) = m.fits r (at col_of t.runs) l (m.of_row t.runs n).0 in
      let there : at u t.runs ≡ weight t t.runs (at col_of t.runs) + at v (at col_of t.runs) = m.tight t.runs n in
      let two : weight t r (at col_of t.runs) ≡ weight t t.runs (at col_of t.runs) = same_end t r (at col_of t.runs) g in
      omega (arith, first, here, one, last, there, two, some h)

  module _ (u' v' : List ℕ) (ul : length u' ≡ t.runs + t.starts) (vl : length v' ≡ t.runs + t.starts) (cl : length col_of ≡ t.runs + t.starts)
      (rows : (b : ℕ) → b < t.runs → at u' b + least ≡ at u b + over (t.runs - b))
      (columns : (j : ℕ) → j < t.runs + t.starts → at v' j + least ≡ weight t t.runs j + at v j) where
    front : (xs : List ℕ) (b : ℕ) → b < t.runs → at (take t.runs xs) b ≡ at xs b
    front xs b bl = get_or-take t.runs xs b 0 bl

    own : (b c : ℕ) → b < t.runs → c < t.runs → at (take t.runs col_of) b ≡ at (take t.runs col_of) c → b ≡ c
    own b c bl cl e =
        let same : at col_of b ≡ at col_of c = sym (front col_of b bl) ∙ e ∙ front col_of c cl in
        some_same b c (sym (m.of_row b (omega (arith, bl))).1
        ∙ subst (λ (x : ℕ). row_at row_of x ≡ Some c) (sym same) (m.of_row c (omega (arith, cl))).1)

    tight : (b : ℕ) → b < t.runs → at u' b ≡ alone t b (at col_of b) + at v' (at col_of b)
    tight b bl =
        let e : at u b ≡ weight t b (at col_of b) + at v (at col_of b) = m.tight b (omega (arith, bl)) in
        let f : at v' (at col_of b) + least ≡ weight t t.runs (at col_of b) + at v (at col_of b) =
        columns (at col_of b) (m.of_row b (omega (arith, bl))).0 in
        let g : alone t b (at col_of b) + weight t t.runs (at col_of b) ≡ weight t b (at col_of b) + over (t.runs - b) =
        alone_is t ahead b (at col_of b) bl in
        omega (arith, e, f, g, rows b bl)

    unused : (j : ℕ) → ((b : ℕ) → b < t.runs → at (take t.runs col_of) b ≢ j) → at v' j ≡ 0
    unused j h = elim (lt_or_ge j (t.runs + t.starts)) [
      | inr g ↦ get_or_past v' j 0 (omega (arith, vl, g))
      | inl l ↦ elim (option_cases (row_at row_of j)) [
        | inl e ↦ absurd (m.full j l e)
        | inr s ↦
            let o = m.of_column j s.0 s.1 in
            elim (lt_or_ge s.0 t.runs) [
              | inl few ↦ absurd (h s.0 few (front col_of s.0 few ∙ o.1))
              | inr more ↦
                  let e : at u s.0 ≡ weight t s.0 j + at v j = subst (λ (x : ℕ). at u s.0 ≡ weight t s.0 x + at v x) o.1 (m.tight s.0 o.0) in
                  let n : at u s.0 ≡ least = end_number s.0 more o.0 in
                  let w : weight t s.0 j ≡ weight t t.runs j = same_end t s.0 j more in
                  omega (arith, e, n, w, columns j l)
            ]
      ]
    ]

    pub settled_numbers : IsSettled t (take t.runs u') v' (take t.runs col_of)
    settled_numbers = record {
      u_whole = length-take-le t.runs u' (omega (arith, ul));
      v_whole = vl;
      col_whole = length-take-le t.runs col_of (omega (arith, cl));
      behind = λ a b c al bl s.
          let f : at u b ≤ weight t b a + at v a = m.fits b a (omega (arith, bl)) (omega (arith, al)) in
          let g : weight t b a + over (t.runs - b) ≡ c + weight t t.runs a = step_on t ahead a b c al bl s in
          omega (arith, f, g, rows b bl, columns a (omega (arith, al)), front u' b bl);
      fresh = λ k b kl bl.
          let f : at u b ≤ weight t b (t.runs + k) + at v (t.runs + k) = m.fits b (t.runs + k) (omega (arith, bl)) (omega (arith, kl)) in
          let x : weight t b (t.runs + k) ≡ t.start b + over b = weight_start t b (t.runs + k) (omega arith) ∙ top_run t b bl in
          let y : weight t t.runs (t.runs + k) ≡ over t.runs = weight_start t t.runs (t.runs + k) (omega arith) ∙ top_end t t.runs (omega arith) in
          omega (arith, f, x, y, rows b bl, columns (t.runs + k) (omega (arith, kl)), front u' b bl, bl);
      tight = λ b bl.
          front u' b bl ∙ subst (λ (c : ℕ). at u' b ≡ alone t b c + at v' c) (sym (front col_of b bl)) (tight b bl);
      own = own;
      below = λ b bl. subst (λ (c : ℕ). c < t.runs + t.starts) (sym (front col_of b bl)) (m.of_row b (omega (arith, bl))).0;
      unused = unused;
    }
