use Rattle.std.proofs.Common.{◌∙◌, ap, sym, Some, None}
use Rattle.std.specs.Option.{option_or}
use Rattle.retune_model.specs.Faults.{Port}
use Rattle.lifetimes.specs.Views.{options_of}
use Rattle.lifetimes.specs.Told.{told_kind}
use Rattle.lifetimes.proofs.Fifth.{fifth_due}
use Rattle.lifetimes.proofs.FifthPort.{comes_next}
use Rattle.lifetimes.proofs.step.fifth_fault.Goals as goal

pub returns-in-Some : goal.returns-in-Some
returns-in-Some c table es e z u is tick part strike =
    let o = options_of c.args.options.now in
    let next = comes_next c.position_laws.ensures.music c.sound_sources.ensures.fine o table es e z _ (c.new.ensures.stands o table) u in
    let early = c.early_fault.ensures table es e z next is tick part strike in
    ap (λ x. option_or (told_kind x) (Some (Port, None))) (sym c.in-Some.is) ∙ (ap (λ x. option_or x (Some (Port, None))) early ∙ sym (fifth_due o table es e z c.args.message.now is))

pub returns : goal.returns
returns c table es e z u is tick part strike =
    let o = options_of c.args.options.now in
    let next = comes_next c.position_laws.ensures.music c.sound_sources.ensures.fine o table es e z _ (c.new.ensures.stands o table) u in
    let early = c.early_fault.ensures table es e z next is tick part strike in
    ap (λ x. option_or (told_kind x) (Some (Port, None))) (sym c.in-None.is) ∙ (ap (λ x. option_or x (Some (Port, None))) early ∙ sym (fifth_due o table es e z c.args.message.now is))
