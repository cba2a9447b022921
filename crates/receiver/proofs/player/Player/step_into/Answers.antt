use Rattle.std.proofs.Common.{arith, ◌≡◌, ◌∙◌, true, false, slice_index, ap, sym, subst}
use Rattle.mt_base.specs.Midi.{Says, view_what}
use Rattle.midi_model.specs.Sysex.{doing}
use Rattle.receiver.specs.Following.{FollowsBy}
use Rattle.receiver.specs.Stands.{HasRoom}
use Rattle.receiver.specs.Turns.{begins}
use Rattle.receiver.specs.Notes.{has}
use Rattle.receiver.specs.Reach.{is_silent, spares}
use Rattle.receiver.specs.Zones.{zones_in}
use Rattle.receiver.proofs.Calm.{calm_of}
use Rattle.receiver.proofs.Reaching.{none_set, own_spares, other_spares}
use Rattle.receiver.proofs.Stepping.{stands_then, tells_then, one_more}
use Rattle.receiver.proofs.player.Player.step_into.Goals.{in_default-via-in-Message+else-is_own, in_default-via-in_default}
use Rattle.receiver.proofs.player.Player.step_into.Goals as goal

pub returns-in-Message-clause-stands : goal.returns-in-Message-clause-stands
returns-in-Message-clause-stands c es e h at is =
    let r = c.args.self.now in
    let s = c.step_here.new.self in
    let says : Says c.in-Message.message ≡ e.what = sym (is ∙ ap view_what c.in-Message.is) in
    let follows : FollowsBy r c.args.tick (doing e.what) s = subst (λ w. FollowsBy r c.args.tick (doing w) s) says
    (c.step_here.ensures.follows (calm_of r es h c.music_laws.ensures.settled)) in
    stands_then r s c.args.tick es e h (subst (λ w. HasRoom r w) (sym is) c.requires.room) follows at (c.receiver_laws.ensures.one_note es)

pub returns-in-Message-clause-ends : goal.returns-in-Message-clause-ends
returns-in-Message-clause-ends c es e h at is =
    let r = c.args.self.now in
    let says : e.what ≡ Says c.in-Message.message = is ∙ ap view_what c.in-Message.is in
    tells_then r c.step_here.new.self c.step_here.new.ends c.args.tick es e (Says c.in-Message.message) h
    (c.step_here.ensures.follows (calm_of r es h c.music_laws.ensures.settled)) c.step_here.ensures.tells at says
    (c.receiver_laws.ensures.one_note es)

pub returns-in-Message-clause-begun : goal.returns-in-Message-clause-begun
returns-in-Message-clause-begun c = c.step_here.ensures.begun

pub returns-in_default-clause-stands : goal.returns-in_default-clause-stands
returns-in_default-clause-stands c es e h at is =
    let r = c.args.self.now in
    let s = c.step_all.new.self in
    stands_then r s c.args.tick es e h (subst (λ w. HasRoom r w) (sym is) c.requires.room)
    (subst (λ w. FollowsBy r c.args.tick (doing w) s) (sym is) c.step_all.ensures.follows) at (c.receiver_laws.ensures.one_note es)

pub returns-in_default-clause-ends : goal.returns-in_default-clause-ends
returns-in_default-clause-ends c es e h at is =
    tells_then c.args.self.now c.step_all.new.self c.step_all.new.ends c.args.tick es e (view_what c.args.what.now) h c.step_all.ensures.follows
    c.step_all.ensures.tells at is
    (c.receiver_laws.ensures.one_note es)

pub returns-in_default-clause-begun : goal.returns-in_default-clause-begun
returns-in_default-clause-begun c = omega (
  arith,
  c.step_all.ensures.follows.begun,
  one_more (begins (doing (view_what c.args.what.now)))
      c.args.self.now.begun,
)

pub returns-in_default-clause-spares : goal.returns-in_default-clause-spares
returns-in_default-clause-spares c d k dl kl e =
    let w = c.args.what.now in
    let silent : is_silent (doing (view_what w)) ≡ true = elim c.in_default.branch [
      | in_default-via-in-Message+else-is_own b ↦ absurd (
          let spared = subst (λ w. spares (doing w) d ≡ true) (ap view_what b.in-Message.is) e in
          let both : true ≡ false = sym (own_spares (zones_in c.args.self.now.zones) b.in-Message.message d spared) ∙ sym b.is_own.ensures
          ∙ b.if-is_own.false in
          cc
          )
      | in_default-via-in_default b ↦ other_spares w d b.in_default.not-Message e
    ] in
    ap (λ x. has (slice_index x.keys d) k) (c.step_all.ensures.silent silent) ∙ none_set c.args.ends.now.keys d k c.requires.clear dl
