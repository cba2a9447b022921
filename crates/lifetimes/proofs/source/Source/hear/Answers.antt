use Rattle.std.proofs.Common.{rules, ◌≡◌, ◌<◌, ◌-◌, ℕ, suc, true, false, Bool, not, refl, sym, ap, subst, arith, length, set, slice_index_or}
use Rattle.std.proofs.lemmas.List.{get_or-set_same, get_or_default}
use Rattle.std.proofs.lemmas.Bool.{and_from, both_ways, lt-ltb}
use Rattle.mt_base.specs.Midi.{view}
use Rattle.lifetimes.specs.Steps.{is_heard, is_taken}
use Rattle.lifetimes.specs.Port.{Takes}
use Rattle.lifetimes.proofs.Opened.{kept_at, kept_set, counted_at, counted_set}
use Rattle.lifetimes.proofs.source.Source.hear.Goals as goal

is_so : (k h : Bool) → k ≡ not h → k ≡ false → h ≡ true
is_so k true a b = refl
is_so k false a b = absurd cc

pub step-requires-clause-few : goal.step-requires-clause-few
step-requires-clause-few c =
    let n : ℕ = c.args.self.now.position - 1 in
    let some = c.requires.next in
    let one : c.args.self.now.position ≡ suc n = omega (arith, some) in
    let fits : c.args.self.now.position < 4294967296 = search rules in
    let within : c.args.place < length c.args.self.now.ports = search rules in
    let low = counted_at n c.args.self.now.ports c.args.place c.index-self-place.result within (c.requires.fewer n one) in
    omega (arith, low, fits, one)

pub step-requires-clause-kept : goal.step-requires-clause-kept
step-requires-clause-kept c =
    let within : c.args.place < length c.args.self.now.ports = search rules in
    λ some. kept_at c.args.self.now.ports c.args.place c.index-self-place.result within (c.args.self.now.kept some)

pub invariant_of-self-clause-kept : goal.invariant_of-self-clause-kept
invariant_of-self-clause-kept c =
    λ some. kept_set c.args.self.now.ports c.args.place c.step.new.self (c.step.ensures.kept some) (c.args.self.now.kept some)

pub invariant_of-self-clause-counted : goal.invariant_of-self-clause-counted
invariant_of-self-clause-counted c =
    let n : ℕ = c.args.self.now.position - 1 in
    let some = c.requires.next in
    let one : c.args.self.now.position ≡ suc n = omega (arith, some) in
    let within : c.args.place < length c.args.self.now.ports = search rules in
    let low = counted_at n c.args.self.now.ports c.args.place c.index-self-place.result within (c.requires.fewer n one) in
    let more = c.step.ensures.begun in
    counted_set c.args.self.now.position c.args.self.now.ports c.args.place c.step.new.self (omega (arith, low, more, one)) c.args.self.now.counted

pub returns-then-not-is_kept_drum : goal.returns-then-not-is_kept_drum
returns-then-not-is_kept_drum c =
    let ports = c.args.self.now.ports in
    let place = c.args.place in
    let new = c.step.new.self in
    let within : place < length ports = search rules in
    let heard : is_heard c.args.self.now.options (view c.args.event.now).what ≡ true =
    is_so c.is_kept_drum.result _ c.is_kept_drum.ensures c.if-not-is_kept_drum.true in
    let yes : is_taken c.args.self.now place (view c.args.event.now).what ≡ true =
    and_from _ _ (lt-ltb place c.args.self.now.used c.if-place-self.true) heard in
    record {
      hears = record {
        takes = λ is d.
            subst (λ q. Takes c.args.self.now.options.tail c.args.event.now.tick
            (view c.args.event.now).what c.args.strike.now c.args.self.now.begun (slice_index_or ports place d) c.step.new.ends q)
            (sym (get_or-set_same ports place new d within))
            (subst (λ p. Takes c.args.self.now.options.tail c.args.event.now.tick
            (view c.args.event.now).what c.args.strike.now c.args.self.now.begun p c.step.new.ends new)
            (get_or_default ports place c.index-self-place.result d within) c.step.ensures.takes);
        alone = λ is d. ap (set ports place) (sym (get_or-set_same ports place new d within));
        passed = λ is. absurd (both_ways _ is yes);
        silent = λ is. absurd (both_ways _ is yes);
        options = refl;
        tracks = refl;
        position = refl;
        tick = refl;
        begun = refl;
        used = refl;
      };
    }
