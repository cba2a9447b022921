use Rattle.std.proofs.Common.{◌≡◌, ◌<◌, ◌∙◌, not, length, set, slice_index, refl, sym, ap, rules, arith}
use Rattle.std.proofs.lemmas.Bool.{and_left, and_right}
use Rattle.lifetimes.specs.Stands.{asked, table_in}
use Rattle.lifetimes.specs.Told.{is_held}
use Rattle.route_bend.specs.Channels.{is_given, pair_on}
use Rattle.route_bend.proofs.Leaving.{without, left_one, unleft_one}
use Rattle.route_bend.proofs.channels.Channels.leave_one.Goals.{else-is_given-via-then-is_given+else-not-holds, else-is_given-via-else-is_given}
use Rattle.route_bend.proofs.channels.Channels.leave_one.Goals as goal

pub returns-then-not-holds : goal.returns-then-not-holds
returns-then-not-holds g c = λ es is.
    let s = c.args.self.now in
    let n = c.args.number in
    let stays = is_held (asked c.args.parts.now) (g.T.Aims.table (table_in c.args.parts.now)) es in
    let long : length s.given ≡ 16 = search rules in
    let within : c.args.part < length s.given = omega (arith, long, c.number.ensures.value, c.number.ensures.bound) in
    left_one stays c.args.part n s (record s { given = set s.given c.number.result (without (slice_index s.given c.number.result) n) })
    within c.requires.number
    refl refl refl
    (ap (λ i. set s.given i (without (slice_index s.given i) n)) c.number.ensures.value)
    (sym (c.holds.ensures.pairs es is c.requires.bends ∙ ap stays c.pair_on.ensures.pair) ∙ c.if-not-holds.true)

pub returns-else-is_given : goal.returns-else-is_given
returns-else-is_given g c = λ es is.
    let s = c.args.self.now in
    let n = c.args.number in
    let stays = is_held (asked c.args.parts.now) (g.T.Aims.table (table_in c.args.parts.now)) es in
    let on = is_given s c.args.part n in
    let held = stays (pair_on s c.args.part n) in
    unleft_one stays c.args.part n s
    (elim c.else-is_given.branch [
      | else-is_given-via-then-is_given+else-not-holds w ↦ and_right on (not held)
          (ap not (sym (w.holds.ensures.pairs es is c.requires.bends ∙ ap stays w.pair_on.ensures.pair) ∙ w.if-not-holds.false))
      | else-is_given-via-else-is_given w ↦ and_left on (not held) (sym c.is_given.ensures ∙ w.if-is_given.false)
    ])
