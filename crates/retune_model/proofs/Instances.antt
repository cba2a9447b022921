-- The premises of the dump route's laws can be met: a source with a reset between two notes, in equal temperament.
use Rattle.std.proofs.Common.{◌≡◌, ◌≤◌, ◌*◌, ℕ, List, [], false, Some, refl, ap, sym, subst, arith, pos, inl, nat_le, ◌&&◌}
use Rattle.std.proofs.lemmas.Int.{ints}
use Rattle.std.proofs.lemmas.Bool.{lt-leb}
use Rattle.mt_base.specs.Pitch.{exactly}
use Rattle.mt_base.specs.Laws.{LeastOfExact, MostOfExact}
use Rattle.midi_model.specs.Examples.{dump}
use Rattle.retune_model.specs.Scale.{scale_pitch, term_count, is_mapped_range}
use Rattle.retune_model.specs.Table.{terms_at, ratios_at_key, AreBounds, Bound, IsTable}
use Rattle.retune_model.specs.Options.{ByDump}
use Rattle.retune_model.specs.FaultLaws.{NoFirstNoFault}
use Rattle.retune_model.specs.Dumpable.{IsDumpable}
use Rattle.retune_model.specs.Examples.{no_keys, even, equal_table, exact_bounds, with_route, reset_between}

outside : (key : ℕ) → key ≤ 127 → is_mapped_range no_keys key ≡ false
outside key h = ap (λ b. b && nat_le key 200) (lt-leb 200 key (omega (arith, h)))

even_pitch : (key : ℕ) → key ≤ 127 → scale_pitch [] no_keys key ≡ Some (exactly (pos (3200000000000 * key)))
unfolding scale_pitch
even_pitch key h = rw (outside key h) refl

even_terms : (key : ℕ) → key ≤ 127 → term_count [] no_keys key ≡ 0
unfolding term_count
even_terms key h = rw (outside key h) refl

even_bounds : LeastOfExact → MostOfExact → (key : ℕ) (ratios : List (ℕ × ℕ)) → AreBounds (exactly (pos (3200000000000 * key))) 0 ratios (exact_bounds (3200000000000 * key))
even_bounds least most key ratios = record {
  least = least (pos (3200000000000 * key));
  most = most (pos (3200000000000 * key));
  narrow = omega (arith, ints);
  exact = λ h. refl;
}

even_table : LeastOfExact → MostOfExact → IsTable even equal_table
even_table least most = record {
  bounds = λ key onset h.
      subst (λ p. Bound (terms_at even key onset) (ratios_at_key even key onset) p (equal_table key onset)) (sym (even_pitch key h))
      (subst (λ n. AreBounds (exactly (pos (3200000000000 * key))) n (ratios_at_key even key onset) (exact_bounds (3200000000000 * key))) (sym (even_terms key h)) (even_bounds least most key (ratios_at_key even key onset)));
}

pub dumpable : NoFirstNoFault → LeastOfExact → MostOfExact → IsDumpable even (with_route ByDump 12) equal_table dump reset_between
dumpable none least most = record {
  route = refl;
  valid = (
    record { tick = omega arith; what = (omega arith, omega arith, omega arith) },
    (
      record { tick = omega arith; what = (inl refl, omega arith) },
      (
        record { tick = omega arith; what = (omega arith, omega arith, omega arith) },
        (record { tick = omega arith; what = (omega arith, omega arith, omega arith) }, tt),
      ),
    ),
  );
  in_order = (omega arith, (omega arith, (omega arith, (omega arith, tt))));
  faultless = none (with_route ByDump 12) equal_table reset_between refl;
  bounds = even_table least most;
  few_terms = λ key onset h. (let e : term_count [] no_keys key ≡ 0 = even_terms key h in omega (arith, e));
  one_table = λ key onset. refl;
  dump = record { reads = refl; tuning = refl; no_reset = refl };
}
