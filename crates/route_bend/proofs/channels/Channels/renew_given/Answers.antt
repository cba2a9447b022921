use Rattle.std.proofs.Common.{◌≡◌, ◌∙◌, length, set, refl, ap, rules, arith}
use Rattle.midi_model.specs.Channel.{State}
use Rattle.retune_model.specs.Pairs.{Pair}
use Rattle.channel_model.specs.Choice.{wanted}
use Rattle.lifetimes.specs.Stands.{asked, table_in}
use Rattle.lifetimes.specs.Told.{music_on}
use Rattle.route_bend.proofs.Renewing.{renewed_one}
use Rattle.route_bend.proofs.channels.Channels.renew_given.Goals as goal

pub returns : goal.returns
returns g c = λ es is.
    let s = c.args.self.now in
    let n = c.args.number in
    let needs : Pair → State = λ p. wanted (asked c.args.parts.now) (g.T.Aims.table (table_in c.args.parts.now)) (music_on p.part.port es) p in
    let long : length s.states ≡ 16 = search rules in
    renewed_one (wanted (asked c.args.parts.now) (g.T.Aims.table (table_in c.args.parts.now)) (music_on s.port es)) c.args.part n s
    (record s { states = set s.states n c.wanted_into.new.state }) c.wanted_into.new.state (omega (arith, long, c.requires.number)) refl refl refl refl
    (c.wanted_into.ensures.state es is ∙ ap needs c.pair_on-pair.ensures.pair) c.requires.given
