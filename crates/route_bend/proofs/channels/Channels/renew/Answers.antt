use Rattle.std.proofs.Common.{nat_eq, subst, arith}
use Rattle.channel_model.specs.Choice.{wanted}
use Rattle.lifetimes.specs.Stands.{asked, table_in}
use Rattle.lifetimes.specs.Told.{music_on}
use Rattle.route_bend.specs.Single.{RenewsSome}
use Rattle.route_bend.proofs.Renewing.{renews_first, renews_next, renews_last}
use Rattle.route_bend.proofs.channels.Channels.renew.Goals as goal

pub loop-number-init : goal.loop-number-init
loop-number-init g c = λ es is.
    renews_first (wanted (asked c.args.parts.now) (g.T.Aims.table (table_in c.args.parts.now)) (music_on c.args.self.now.port es)) c.args.part
    c.args.self.now

pub loop-number-preserved : goal.loop-number-preserved
loop-number-preserved g c = λ es is.
    let o = asked c.args.parts.now in
    let table = g.T.Aims.table (table_in c.args.parts.now) in
    let i = c.loop-number.number in
    let so = c.loop-number.invariant es is in
    renews_next (wanted o table (music_on c.args.self.now.port es)) c.args.part i
    c.args.self.now c.loop-number.self c.renew_one.new.self so
    (subst (λ z. RenewsSome (λ d. nat_eq d i) (wanted o table (music_on z es)) c.args.part c.loop-number.self c.renew_one.new.self) so.kept.port
    (c.renew_one.ensures es is))

pub returns : goal.returns
returns g c = λ es is.
    renews_last (wanted (asked c.args.parts.now) (g.T.Aims.table (table_in c.args.parts.now)) (music_on c.args.self.now.port es)) c.args.part
    c.loop-number.number
    c.args.self.now c.loop-number.self (λ d from. c.end-number-end.ensures.none d (omega (arith, c.loop-number-test.false, from)))
    (c.loop-number.invariant es is)
