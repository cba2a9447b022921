use Rattle.std.proofs.Common.{true, false, not, refl, sym, ap, ◌∙◌}
use Rattle.std.proofs.Common.{is_some}
use Rattle.lifetimes.specs.Lists.{struck_at}
use Rattle.lifetimes.specs.Views.{options_of}
use Rattle.lifetimes.specs.Stands.{heard_on}
use Rattle.lifetimes.proofs.StruckNow.{restrike_told, is_told}
use Rattle.lifetimes.proofs.port.Port.restrikes.Goals as goal

pub returns-in-Some : goal.returns-in-Some
returns-in-Some c table es e z v next strike =
    ap not c.is_same.ensures
    ∙ restrike_told c.music_laws.ensures.fade c.receiver_laws.ensures.one_note c.drums_stand_apart.ensures.music
    (options_of c.args.options.now) table es e z v c.args.self.now c.args.strike.now
    next strike (sym c.bends.ensures ∙ c.if-not-bends.false) true _
    (is_told _ _ c.sounding.result true (c.sounding.ensures (heard_on (options_of c.args.options.now) z es) next.stands.player)
    (ap is_some c.in-Some.is))
    (ap (λ s. s.target) (c.struck.ensures ∙ ap (λ ss. struck_at ss c.args.strike.now.key) c.notes.ensures.struck))

pub returns-in-None : goal.returns-in-None
returns-in-None c table es e z v next strike =
    restrike_told c.music_laws.ensures.fade c.receiver_laws.ensures.one_note c.drums_stand_apart.ensures.music
    (options_of c.args.options.now) table es e z v c.args.self.now c.args.strike.now
    next strike (sym c.bends.ensures ∙ c.if-not-bends.false) false _
    (is_told _ _ c.sounding.result false (c.sounding.ensures (heard_on (options_of c.args.options.now) z es) next.stands.player)
    (ap is_some c.in-None.is))
    refl
