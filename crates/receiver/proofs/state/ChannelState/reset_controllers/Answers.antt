use Rattle.std.proofs.Common.{◌≡◌, ◌≤◌, ℕ, List, arith, ap, ◌∙◌, refl, true, set}
use Rattle.midi_model.specs.WellFormed.{is_stored}
use Rattle.receiver.specs.Kept.{are_low, only_stored}
use Rattle.receiver.proofs.Low.{low_set, all_stored}
use Rattle.receiver.proofs.state.ChannelState.reset_controllers.Goals as goal

kept : (xs ys : List ℕ) (i v : ℕ) → ys ≡ set xs i v → v ≤ 127 → are_low xs ≡ true → are_low ys ≡ true
kept xs ys i v e h a = ap are_low e ∙ low_set xs i v h a

put : (xs ys : List ℕ) (i v : ℕ) → ys ≡ set xs i v → is_stored i ≡ true → only_stored 0 xs ≡ true → only_stored 0 ys ≡ true
put xs ys i v e h a = ap (only_stored 0) e ∙ all_stored xs i v h a

pub invariant_of-self-clause-controls_over : goal.invariant_of-self-clause-controls_over
invariant_of-self-clause-controls_over c =
    let s = c.args.self.now in
    c.set-6.ensures.defaults ∙ c.set-5.ensures.defaults ∙ c.set-4.ensures.defaults ∙ c.set-3.ensures.defaults ∙ c.set-2.ensures.defaults ∙ c.set.ensures.defaults ∙ s.controls_over

pub invariant_of-self-clause-only_stored : goal.invariant_of-self-clause-only_stored
invariant_of-self-clause-only_stored c =
    let s = c.args.self.now in
    put _ _ 67 0 c.set-6.ensures.items refl (put _ _ 66 0 c.set-5.ensures.items refl (put _ _ 65 0 c.set-4.ensures.items refl (put _ _ 64 0 c.set-3.ensures.items refl (put _ _ 11 127 c.set-2.ensures.items refl (put _ _ 1 0 c.set.ensures.items refl s.only_stored)))))

pub invariant_of-self-clause-controls_fit : goal.invariant_of-self-clause-controls_fit
invariant_of-self-clause-controls_fit c =
    let s = c.args.self.now in
    kept _ _ 67 0 c.set-6.ensures.items (omega arith) (kept _ _ 66 0 c.set-5.ensures.items (omega arith) (kept _ _ 65 0 c.set-4.ensures.items (omega arith) (kept _ _ 64 0 c.set-3.ensures.items (omega arith) (kept _ _ 11 127 c.set-2.ensures.items (omega arith) (kept _ _ 1 0 c.set.ensures.items (omega arith) s.controls_fit)))))
