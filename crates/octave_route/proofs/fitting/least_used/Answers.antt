use Rattle.std.proofs.Common.{refl, sym, ◌∙◌, Some}
use Rattle.std.proofs.lemmas.Bool.{cond-false}
use Rattle.octave_route.specs.Classes.{is_of_class, least_used}
use Rattle.octave_route.proofs.Keys.{find_next}
use Rattle.octave_route.proofs.fitting.least_used.Goals as goal

pub loop-key-init : goal.loop-key-init
unfolding least_used
loop-key-init c = refl

pub loop-key-preserved : goal.loop-key-preserved
loop-key-preserved c =
    c.loop-key.invariant ∙ find_next (is_of_class c.args.used c.args.class) c.loop-key.key c.loop-key-test.true
    ∙ cond-false (is_of_class c.args.used c.args.class c.loop-key.key) (Some c.loop-key.key) _ (sym c.is_of_class.ensures ∙ c.if-is_of_class.false)
