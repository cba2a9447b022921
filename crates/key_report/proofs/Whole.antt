-- The error of the whole, from the left.
use Rattle.std.proofs.Common.{◌≡◌, ℤ, List, [], ◌∷◌, Some, refl, ◌⊎◌, inl, inr, ◌≤ℤ◌}
use Rattle.std.specs.Prelude.{Contains, fold, map}
use Rattle.std.specs.Int.{int_min, int_max}
use Rattle.std.proofs.lemmas.Int.{fold-int_max_reached, fold-int_min_reached, fold-int_max_bounds, fold-int_min_bounds}
use Rattle.std.proofs.lemmas.List.Elements.{All-cons, Contains-append_left, Contains-append_right, Contains-push}
use Rattle.key_report.specs.declared.keys.KeyError.{KeyError}
use Rattle.key_report.specs.declared.range.ErrorRange.{ErrorRange}
use Rattle.key_report.specs.Keys.{with_error}
use Rattle.key_report.specs.KeyLaws.{IsWhole, WholeIsLeastToGreatest}

-- end by end
folded : (w : ErrorRange) (es : List KeyError)
    → fold with_error (Some w) es
    ≡ Some (record {
      least = fold int_min w.least (map (λ e. e.error.least) es);
      greatest = fold int_max w.greatest (map (λ e. e.error.greatest) es);
    })
folded w [] = refl
folded w (e ∷ es) = folded (record { least = int_min w.least e.error.least; greatest = int_max w.greatest e.error.greatest }) es

reached : (a : ℤ) (xs : List ℤ) (r : ℤ) → (r ≡ a) ⊎ Contains xs r → Contains (a ∷ xs) r
reached a xs r (inl same) = rw same (Contains-append_left (a ∷ []) xs a (Contains-push [] a))
reached a xs r (inr there) = Contains-append_right (a ∷ []) xs r there

whole : (e : KeyError) (es : List KeyError) (least greatest : ℤ) → least ≡ fold int_min e.error.least (map (λ e. e.error.least) es)
    → greatest ≡ fold int_max e.error.greatest (map (λ e. e.error.greatest) es) → IsWhole (e ∷ es) (record { least = least; greatest = greatest })
whole e es least greatest down up =
    let low = fold-int_min_bounds e.error.least (map (λ e. e.error.least) es) least down in
    let high = fold-int_max_bounds e.error.greatest (map (λ e. e.error.greatest) es) greatest up in
    record {
      least = All-cons (λ n. least ≤ℤ n) e.error.least (map (λ e. e.error.least) es) low.0 low.1;
      greatest = All-cons (λ n. n ≤ℤ greatest) e.error.greatest (map (λ e. e.error.greatest) es) high.0 high.1;
      some_least = reached e.error.least (map (λ e. e.error.least) es) least
          (fold-int_min_reached e.error.least (map (λ e. e.error.least) es) least down);
      some_greatest = reached e.error.greatest (map (λ e. e.error.greatest) es) greatest
          (fold-int_max_reached e.error.greatest (map (λ e. e.error.greatest) es) greatest up);
    }

pub least_to_greatest : WholeIsLeastToGreatest
least_to_greatest [] = refl
least_to_greatest (e ∷ es) =
    rw (folded e.error es) (whole e es
    (fold int_min e.error.least (map (λ e. e.error.least) es))
    (fold int_max e.error.greatest (map (λ e. e.error.greatest) es)) refl refl)
