use Rattle.std.proofs.Common.{◌≡◌, ◌<◌, length, set, slice_index, refl, rules, arith}
use Rattle.route_bend.proofs.Leaving.{without}
use Rattle.route_bend.proofs.Giving.{cleared_first, cleared_next, taken_away}
use Rattle.route_bend.proofs.channels.Channels.take_away.Goals as goal

pub loop-part-init : goal.loop-part-init
loop-part-init c = cleared_first c.args.number c.args.self.now

pub loop-part-preserved : goal.loop-part-preserved
loop-part-preserved c =
    let now = c.loop-part.self in
    let i = c.loop-part.part in
    let before : length c.args.self.now.given ≡ 16 = search rules in
    let long = c.loop-part.invariant.long in
    let low : i < 16 = omega (arith, c.loop-part-test.true) in
    cleared_next c.args.number i c.args.self.now now
    (record now { given = set now.given i (without (slice_index now.given i) c.args.number) }) (omega (arith, long, before, low)) c.requires
    refl refl refl refl c.loop-part.invariant

pub returns : goal.returns
returns c =
    let before : length c.args.self.now.given ≡ 16 = search rules in
    taken_away c.args.number c.loop-part.part c.args.self.now c.loop-part.self (omega (arith, c.loop-part-test.false)) before c.loop-part.invariant
