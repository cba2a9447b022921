use Rattle.std.proofs.Common.{◌<◌, ◌++◌, ◌∙◌, List, [], ◌∷◌, nat_eq, refl, subst, ap, arith}
use Rattle.mt_base.specs.declared.event.Msg.{Msg}
use Rattle.retune_model.specs.Dump.{from_up}
use Rattle.channel_model.specs.Choice.{wanted}
use Rattle.lifetimes.specs.Stands.{asked, table_in}
use Rattle.lifetimes.specs.Told.{music_on}
use Rattle.route_bend.specs.Sent.{brought}
use Rattle.route_bend.specs.Single.{RenewsSome}
use Rattle.route_bend.proofs.Renewing.{renews_first, renews_next, renews_last, brought_same, brought_none, brought_parts, put_next, put_last}
use Rattle.route_bend.proofs.channels.Channels.bring.Goals as goal

pub loop-number-init : goal.loop-number-init
loop-number-init g c = record {
  sent = λ es is. refl;
  states = λ es is.
      renews_first (wanted (asked c.args.parts.now) (g.T.Aims.table (table_in c.args.parts.now)) (music_on c.args.self.now.port es)) c.args.part
      c.args.self.now;
}

pub loop-number-preserved : goal.loop-number-preserved
loop-number-preserved g c =
    let o = asked c.args.parts.now in
    let table = g.T.Aims.table (table_in c.args.parts.now) in
    let part = c.args.part in
    let i = c.loop-number.number in
    let old = c.args.self.now in
    let now = c.loop-number.self in
    let low : i < 16 = omega (arith, c.loop-number-test.true, c.end-number-end.ensures.high) in
    record {
      sent = λ es is.
          let so = c.loop-number.invariant.states es is in
          let needs = wanted o table (music_on old.port es) in
          put_next (brought needs old part) i c.loop-number.out.messages.items c.bring_one.new.out.messages.items
          (c.args.out.now.messages.items ++ brought needs old part (from_up 0 16)) low (brought_parts needs old part)
          (c.loop-number.invariant.sent es is)
          (c.in_ok-bring_one.ensures.sent es is
          ∙ ap (λ z. c.loop-number.out.messages.items ++ brought (wanted o table (music_on z es)) now part (i ∷ [])) so.kept.port
          ∙ ap (λ (ms : List Msg). c.loop-number.out.messages.items ++ ms) (brought_same needs part i old now low so));
      states = λ es is.
          let so = c.loop-number.invariant.states es is in
          renews_next (wanted o table (music_on old.port es)) part i old now c.bring_one.new.self so
          (subst (λ z. RenewsSome (λ d. nat_eq d i) (wanted o table (music_on z es)) part now c.bring_one.new.self) so.kept.port
          (c.in_ok-bring_one.ensures.states es is));
    }

pub returns-clause-sent : goal.returns-clause-sent
returns-clause-sent g c = λ es is.
    let needs = wanted (asked c.args.parts.now) (g.T.Aims.table (table_in c.args.parts.now)) (music_on c.args.self.now.port es) in
    let i = c.loop-number.number in
    put_last (brought needs c.args.self.now c.args.part) i c.loop-number.out.messages.items
    (c.args.out.now.messages.items ++ brought needs c.args.self.now c.args.part (from_up 0 16))
    (brought_none needs c.args.self.now c.args.part i (λ d from. c.end-number-end.ensures.none d (omega (arith, c.loop-number-test.false, from))))
    (c.loop-number.invariant.sent es is)

pub returns-clause-states : goal.returns-clause-states
returns-clause-states g c = λ es is.
    renews_last (wanted (asked c.args.parts.now) (g.T.Aims.table (table_in c.args.parts.now)) (music_on c.args.self.now.port es)) c.args.part
    c.loop-number.number
    c.args.self.now c.loop-number.self (λ d from. c.end-number-end.ensures.none d (omega (arith, c.loop-number-test.false, from)))
    (c.loop-number.invariant.states es is)
