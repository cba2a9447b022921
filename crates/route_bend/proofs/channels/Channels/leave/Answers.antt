use Rattle.std.proofs.Common.{arith}
use Rattle.lifetimes.specs.Stands.{asked, table_in}
use Rattle.lifetimes.specs.Told.{is_held}
use Rattle.route_bend.proofs.Leaving.{leaves_first, leaves_next, leaves_last}
use Rattle.route_bend.proofs.channels.Channels.leave.Goals as goal

pub loop-number-init : goal.loop-number-init
loop-number-init g c = λ es is.
    leaves_first (is_held (asked c.args.parts.now) (g.T.Aims.table (table_in c.args.parts.now)) es) c.args.part c.args.self.now

pub loop-number-preserved : goal.loop-number-preserved
loop-number-preserved g c = λ es is.
    leaves_next (is_held (asked c.args.parts.now) (g.T.Aims.table (table_in c.args.parts.now)) es) c.args.part c.loop-number.number
    c.args.self.now c.loop-number.self c.leave_one.new.self (c.loop-number.invariant es is) (c.leave_one.ensures es is)

pub returns : goal.returns
returns g c = λ es is.
    leaves_last (is_held (asked c.args.parts.now) (g.T.Aims.table (table_in c.args.parts.now)) es) c.args.part c.loop-number.number
    c.args.self.now c.loop-number.self (λ d from. c.end-number-end.ensures.none d (omega (arith, c.loop-number-test.false, from)))
    (c.loop-number.invariant es is)
