use Rattle.std.proofs.Common.{◌≡◌, ◌∙◌, ap, refl, true, subst}
use Rattle.std.specs.Prelude.{IfOk}
use Rattle.std.proofs.lemmas.Result.{IfOk-weaker}
use Rattle.clap.specs.Words.{App, app_of, fault_of, found_of, is_simple, is_simple_and_free, matches_of, rows_of, FailsBy}
use Rattle.clap.proofs.OnLiterals.{clap_on_literals}
use Rattle.command_line.specs.App.{app}
use Rattle.command_line.specs.Words.{texts}
use Rattle.command_line.proofs.building.parse.Goals as goal

simple : is_simple app ≡ true
unfolding clap_on_literals
simple = refl

free : is_simple_and_free app ≡ true
unfolding clap_on_literals
free = refl

pub returns-clause-kinds : goal.returns-clause-kinds
returns-clause-kinds c =
    let is : app_of c.in_ok-command.command ≡ app = c.in_ok-command.ensures in
    let P : App → Type 0 = λ a. FailsBy (fault_of a (texts c.args.words.now)) c.try_get_matches_from.result in
    subst P is (c.try_get_matches_from.ensures.kinds (ap is_simple_and_free is ∙ free))

pub returns-clause-matches : goal.returns-clause-matches
returns-clause-matches c =
    let is : app_of c.in_ok-command.command ≡ app = c.in_ok-command.ensures in
    let P : App → Type 0 = λ a. IfOk c.try_get_matches_from.result (λ m. rows_of (found_of m) ≡ matches_of a (texts c.args.words.now)) in
    subst P is (IfOk-weaker c.try_get_matches_from.result _ _ (λ m h. (h (ap is_simple is ∙ simple)).0) c.try_get_matches_from.ensures.matches)
