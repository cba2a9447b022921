use Rattle.std.proofs.Common.{false, ◌∙◌, ap, sym, inl, inr, rules, is_some}
use Rattle.std.proofs.lemmas.Bool.Decides.{eqb_tells}
use Rattle.receiver.specs.Stands.{slot}
use Rattle.receiver.specs.Turns.{strikes_by}
use Rattle.receiver.proofs.Reaching.{masked, none_ended, one_mask, ended_mask}
use Rattle.receiver.proofs.player.Player.step_here.Goals as goal

pub returns-clause-alone : goal.returns-clause-alone
returns-clause-alone c d k dl kl apart =
    masked c.args.ends.now.keys c.channel_number-place.result _ d k false c.requires.clear
    (one_mask c.channel_number-place.result _ d k dl (λ e. apart (e ∙ c.channel_number-place.ensures.value)))

pub returns-clause-tells : goal.returns-clause-tells
returns-clause-tells c d k dl kl =
    let r = c.args.self.now in
    let s = c.play_here.new.self in
    let msg = c.args.message.now in
    let i = c.channel_number-place.result in
    masked c.args.ends.now.keys i _ d k _ c.requires.clear (elim (eqb_tells d i) [
      | inl u ↦ ended_mask i c.keys_on-before.result c.keys_on-now.result c.key_struck.result d k (slot r d k) (slot s d k) msg
          c.channel_number-place.ensures.bound (search rules) kl u.1
          (c.keys_on-before.ensures k kl ∙ ap (λ e. is_some (slot r e k)) (sym u.1))
          (c.keys_on-now.ensures k kl ∙ ap (λ e. is_some (slot s e k)) (sym u.1))
          (c.key_struck.ensures k kl ∙ ap (λ e. strikes_by msg e k) (sym u.1))
      | inr u ↦ one_mask i _ d k dl u.1
          ∙ sym (none_ended msg d k (slot r d k) (slot s d k) (λ e. u.1 (e ∙ sym c.channel_number-place.ensures.value))
          (c.play_here.ensures.elsewhere d k dl kl (λ e. u.1 (e ∙ sym c.channel_number-place.ensures.value))))
    ])
