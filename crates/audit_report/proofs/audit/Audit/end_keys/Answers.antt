use Rattle.std.proofs.Common.{◌≡◌, ◌<◌, ◌*◌, ◌^◌, ◌%◌, ℕ, false, cond, nat_eq, bit_and, rules, refl, sym, ap, ◌∙◌, arith}
use Rattle.std.specs.Int.{bit_not, trailing_zeros, w128}
use Rattle.receiver.specs.Notes.{has}
use Rattle.receiver.proofs.Bits.{has_cleared, has_lowest, has_none, less_without_lowest, lowest_is_below}
use Rattle.audit_report.specs.Audit.{is_key, keys_below}
use Rattle.audit_report.proofs.Marking.{all_but_none, fewer_keys, keys_but, marks_then, next_key, no_key, no_keys_yet, same_marks}
use Rattle.audit_report.proofs.audit.Audit.end_keys.Goals as goal

pub loop-rest-init : goal.loop-rest-init
loop-rest-init c = record {
  fits = search rules;
  within = λ k below is. is;
  indexed = λ h. h;
  last = refl;
  notes = λ h. sym (no_key c.args.port (keys_but (has c.args.keys) (has c.args.keys) c.args.channel) c.args.tick c.args.self.now.notes.items
      (no_keys_yet (has c.args.keys) c.args.channel));
}

pub loop-rest-smaller : goal.loop-rest-smaller
loop-rest-smaller c = less_without_lowest c.loop-rest.rest c.loop-rest-test.true c.loop-rest.invariant.fits

pub loop-rest-preserved : goal.loop-rest-preserved
loop-rest-preserved c =
    let rest = c.loop-rest.rest in
    let i = c.loop-rest.invariant in
    let key = trailing_zeros w128 rest in
    let below : key < 128 = lowest_is_below rest c.loop-rest-test.true i.fits in
    let less = less_without_lowest rest c.loop-rest-test.true i.fits in
    let left = bit_and rest (bit_not w128 (1 * 2 ^ key % 2 ^ 128)) in
    let cleared : (k : ℕ) → k < 128 → has left k ≡ cond (nat_eq k key) false (has rest k) = λ k l. has_cleared rest key k below l in
    record {
      fits = omega (arith, less, i.fits);
      within = λ k l is. i.within k l (fewer_keys (has rest) (has left) key k (cleared k l) is);
      indexed = λ h. c.end_at.ensures.indexed (i.indexed h);
      last = c.end_at.ensures.last ∙ i.last;
      notes = λ h. marks_then c.args.port (keys_but (has c.args.keys) (has rest) c.args.channel) (is_key c.args.channel key) (keys_but
          (has c.args.keys) (has left) c.args.channel) c.args.tick c.args.self.now.notes.items c.loop-rest.self.notes.items c.end_at.new.self.notes.items
          (i.notes h) (c.end_at.ensures.notes (i.indexed h)) (next_key (has c.args.keys) (has rest) (has left) c.args.channel key below
          (i.within key below (has_lowest rest c.loop-rest-test.true i.fits)) cleared);
    }

pub returns-clause-notes : goal.returns-clause-notes
returns-clause-notes c = λ h.
    c.loop-rest.invariant.notes h
    ∙ same_marks c.args.port (keys_but (has c.args.keys) (has c.loop-rest.rest) c.args.channel) (keys_below (has c.args.keys) c.args.channel 128)
    c.args.tick (all_but_none (has c.args.keys) (has c.loop-rest.rest) c.args.channel (λ k. ap (λ m. has m k) c.loop-rest-test.false ∙ has_none k))
    c.args.self.now.notes.items
