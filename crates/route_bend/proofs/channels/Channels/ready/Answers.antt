use Rattle.std.proofs.Common.{◌≡◌, ◌∙◌, true, false, length, set, get_or, refl, sym, ap, rules, arith}
use Rattle.channel_model.specs.Choice.{wanted}
use Rattle.receiver.specs.State.{state_of}
use Rattle.lifetimes.specs.Views.{pair_of}
use Rattle.lifetimes.specs.Stands.{asked, table_in}
use Rattle.lifetimes.specs.Told.{music_on}
use Rattle.route_bend.proofs.Giving.{relaxed_in, readies, begins_on}
use Rattle.route_bend.proofs.channels.Channels.ready.Goals as goal

pub returns-clause-sent : goal.returns-clause-sent
returns-clause-sent g c = λ es is.
    let s = c.args.self.now in
    let p = pair_of c.args.pair.now in
    let mid = c.give.new.self in
    let n = c.number-number.result in
    let eased = c.relax.new.state in
    let before = c.index-self-number.result in
    let after = c.index-self-number-2.result in
    let long : length s.states ≡ 16 = search rules in
    readies (wanted (asked c.args.parts.now) (g.T.Aims.table (table_in c.args.parts.now)) (music_on c.args.pair.now.part.port es) p) s p
    c.args.channel
    (state_of (get_or (set mid.states n eased) n after)) (state_of c.wanted-wanted.result) c.args.out.now.messages.items
    c.bring.new.self.messages.items
    (sym c.is_on.ensures ∙ c.if-is_on.false)
    (relaxed_in s mid n c.args.channel eased before after (omega (arith, long, c.number-number.ensures.bound)) c.number-number.ensures.value
    c.give.ensures.kept.states c.relax.ensures)
    (c.wanted-wanted.ensures.state es is) c.in_ok-bring.ensures

pub returns-clause-same : goal.returns-clause-same
returns-clause-same g c = λ on. absurd (let e : true ≡ false = sym on ∙ sym c.is_on.ensures ∙ c.if-is_on.false in cc)

pub returns-clause-begins : goal.returns-clause-begins
returns-clause-begins g c = λ es is off.
    let s = c.args.self.now in
    let p = pair_of c.args.pair.now in
    let mid = c.give.new.self in
    let n = c.number-number.result in
    let eased = c.relax.new.state in
    let state = c.wanted-wanted.result in
    let long : length s.states ≡ 16 = search rules in
    begins_on p c.args.channel
    (wanted (asked c.args.parts.now) (g.T.Aims.table (table_in c.args.parts.now)) (music_on c.args.pair.now.part.port es) p) s mid
    (record mid { states = set (set mid.states n eased) n state }) eased state
    (omega (arith, long, c.number-number.ensures.value, c.number-number.ensures.bound)) c.give.ensures refl refl refl
    (ap (λ k. set (set mid.states k eased) k state) c.number-number.ensures.value) (c.wanted-wanted.ensures.state es is)
