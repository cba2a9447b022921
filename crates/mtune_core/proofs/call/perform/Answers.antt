use Rattle.std.proofs.Common.{◌≡◌, ℕ, List, refl, ap, subst, ◌∙◌, inl, inr}
use Rattle.mtune_files.specs.Outside.{Outside, after_store, AfterFailedStore, after_say, AfterFailedSay}
use Rattle.mtune_core.specs.declared.outcome.Fault.{Fault}
use Rattle.mtune_core.specs.declared.outcome.Fault.TheVariants.{Usage, Store, Say, Memory}
use Rattle.mtune_core.specs.Causes.{of_words}
use Rattle.mtune_core.specs.Call.{IsMade, CommandCause, IsStopped, after_loads}
use Rattle.command_line.specs.declared.fault.WordsFault.{WordsFault}
use Rattle.command_line.specs.declared.fault.WordsFault.TheVariants as wrong
use Rattle.command_line.specs.Words.{Command, Read, IsWordsFault, reading_of, texts, view_command}
use Rattle.mtune_core.proofs.Fit.{read_is_fit}
use Rattle.mtune_core.proofs.OfContent.{is_of_content}
use Rattle.mtune_core.proofs.Stages.{handed_on}
use Rattle.mtune_core.proofs.Steps.{made_for, of_err, of_ok, is_stored}
use Rattle.mtune_core.proofs.call.perform.Goals as goal

-- the cause of a command is no fault of the words, of a store or of a say
stopped : (o now : Outside) (words : List (List ℕ)) (c : Command) (fault : Fault) → reading_of words ≡ Read c → CommandCause c o now fault
    → IsStopped o now words fault
stopped o now words c (Usage kind) e h = absurd (is_of_content c o now (Usage kind) h)
stopped o now words c Store e h = absurd (is_of_content c o now Store h)
stopped o now words c Say e h = absurd (is_of_content c o now Say h)
stopped o now words c Memory e h = inr (c, e, h)
stopped o now words c fault e h = (c, e, h)

-- wrong words end the work before anything is loaded
by_words : (o : Outside) (words : List (List ℕ)) (fault : WordsFault) → IsWordsFault (reading_of words) fault
    → IsStopped o o words (of_words fault)
by_words o words (wrong.Usage kind) h = (h, refl)
by_words o words wrong.Memory h = inl refl

pub returns-in_err-command-clause-stopped : goal.returns-in_err-command-clause-stopped
returns-in_err-command-clause-stopped g c =
    handed_on c.from_residual.result (of_words c.in_err-command.field-0.0) _ c.from_residual.ensures.1
    (by_words (g.F.Files.outside c.args.files.now) (texts c.args.words.now) c.in_err-command.field-0.0 c.in_err-command.ensures.fault)

pub prepare-requires : goal.prepare-requires
prepare-requires g c = read_is_fit (texts c.args.words.now) (view_command c.in_ok-command.command) c.in_ok-command.ensures.read

pub returns-in_err-made-clause-stopped : goal.returns-in_err-made-clause-stopped
returns-in_err-made-clause-stopped g c = handed_on c.from_residual-in_err-made.result c.in_err-made.field-0.0 _ c.from_residual-in_err-made.ensures.1
    (stopped (g.F.Files.outside c.args.files.now) (g.F.Files.outside c.prepare.new.files) (texts c.args.words.now) (view_command c.in_ok-command.command)
    c.in_err-made.field-0.0 c.in_ok-command.ensures.read c.in_err-made.ensures.cause)

pub returns-then-is_err-clause-stopped : goal.returns-then-is_err-clause-stopped
returns-then-is_err-clause-stopped g c =
    let made : IsMade (g.F.Files.outside c.args.files.now) (texts c.args.words.now) = made_for (g.F.Files.outside c.args.files.now)
    (texts c.args.words.now) (view_command c.in_ok-command.command) c.in_ok-made.made.output.items c.in_ok-made.made.report.items
    c.in_ok-command.ensures.read c.in_ok-made.ensures.made in
    let failed : AfterFailedStore made.command.out (g.F.Files.outside c.prepare.new.files) (g.F.Files.outside c.store.new.self) =
    of_err c.store.result c.if-is_err.ensures.value c.store.ensures.failed in
    (made, subst (λ o. AfterFailedStore made.command.out o (g.F.Files.outside c.store.new.self)) c.in_ok-made.ensures.loaded failed)

pub returns-then-is_err-2-clause-stopped : goal.returns-then-is_err-2-clause-stopped
returns-then-is_err-2-clause-stopped g c =
    let made : IsMade (g.F.Files.outside c.args.files.now) (texts c.args.words.now) = made_for (g.F.Files.outside c.args.files.now)
    (texts c.args.words.now) (view_command c.in_ok-command.command) c.in_ok-made.made.output.items c.in_ok-made.made.report.items
    c.in_ok-command.ensures.read c.in_ok-made.ensures.made in
    let stored = is_stored (g.F.Files.outside c.args.files.now) (g.F.Files.outside c.prepare.new.files) (g.F.Files.outside c.store.new.self)
    made.command made.command.out made.output c.deref.result.now
    c.in_ok-made.ensures.loaded (of_ok c.store.result c.if-is_err.ensures.value c.store.ensures.stored) c.deref.ensures.value in
    let failed : AfterFailedSay c.deref-2.result.now (g.F.Files.outside c.store.new.self) (g.F.Files.outside c.say.new.self) =
    of_err c.say.result c.if-is_err-2.ensures.value c.say.ensures.failed in (
      made,
      subst (λ o. AfterFailedSay made.report o (g.F.Files.outside c.say.new.self)) stored
          (subst (λ t. AfterFailedSay t (g.F.Files.outside c.store.new.self) (g.F.Files.outside c.say.new.self)) c.deref-2.ensures.value failed),
    )

pub returns-clause-done : goal.returns-clause-done
returns-clause-done g c =
    let made : IsMade (g.F.Files.outside c.args.files.now) (texts c.args.words.now) = made_for (g.F.Files.outside c.args.files.now)
    (texts c.args.words.now) (view_command c.in_ok-command.command) c.in_ok-made.made.output.items c.in_ok-made.made.report.items
    c.in_ok-command.ensures.read c.in_ok-made.ensures.made in
    let stored = is_stored (g.F.Files.outside c.args.files.now) (g.F.Files.outside c.prepare.new.files) (g.F.Files.outside c.store.new.self)
    made.command made.command.out made.output c.deref.result.now
    c.in_ok-made.ensures.loaded (of_ok c.store.result c.if-is_err.ensures.value c.store.ensures.stored) c.deref.ensures.value in
    let said : g.F.Files.outside c.say.new.self ≡ after_say c.deref-2.result.now (g.F.Files.outside c.store.new.self) =
    of_ok c.say.result c.if-is_err-2.ensures.value c.say.ensures.said in (
      made,
      said ∙ ap (λ o. after_say c.deref-2.result.now o) stored
          ∙ ap (λ t. after_say t (after_store made.command.out made.output (after_loads made.command (g.F.Files.outside c.args.files.now))))
          c.deref-2.ensures.value,
    )
