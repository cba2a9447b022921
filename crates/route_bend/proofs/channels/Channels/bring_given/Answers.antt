use Rattle.std.proofs.Common.{◌≡◌, ◌∙◌, length, set, get_or, refl, sym, ap, rules, arith}
use Rattle.std.proofs.lemmas.List.{get_or-map}
use Rattle.midi_model.specs.Channel.{State, default_state}
use Rattle.retune_model.specs.Pairs.{Pair}
use Rattle.channel_model.specs.Choice.{wanted}
use Rattle.receiver.specs.State.{state_of}
use Rattle.lifetimes.specs.Stands.{asked, table_in}
use Rattle.lifetimes.specs.Told.{music_on}
use Rattle.route_bend.proofs.Renewing.{renewed_one, brings_one}
use Rattle.route_bend.proofs.channels.Channels.bring_given.Goals as goal

pub returns-clause-sent : goal.returns-clause-sent
returns-clause-sent g c = λ es is.
    let s = c.args.self.now in
    let n = c.args.number in
    let d = c.index-self-number.result in
    let needs : Pair → State = λ p. wanted (asked c.args.parts.now) (g.T.Aims.table (table_in c.args.parts.now)) (music_on p.part.port es) p in
    let long : length s.states ≡ 16 = search rules in
    brings_one (wanted (asked c.args.parts.now) (g.T.Aims.table (table_in c.args.parts.now)) (music_on s.port es)) s c.args.part n c.at.result
    (state_of (get_or s.states n d)) (state_of c.wanted-wanted.result) c.args.out.now.messages.items c.bring.new.self.messages.items
    c.requires.given c.at.ensures
    (sym (get_or-map state_of s.states n d default_state (omega (arith, long, c.requires.number))))
    (c.wanted-wanted.ensures.state es is ∙ ap needs c.pair_on.ensures.pair) c.in_ok-bring.ensures

pub returns-clause-states : goal.returns-clause-states
returns-clause-states g c = λ es is.
    let s = c.args.self.now in
    let n = c.args.number in
    let needs : Pair → State = λ p. wanted (asked c.args.parts.now) (g.T.Aims.table (table_in c.args.parts.now)) (music_on p.part.port es) p in
    let long : length s.states ≡ 16 = search rules in
    renewed_one (wanted (asked c.args.parts.now) (g.T.Aims.table (table_in c.args.parts.now)) (music_on s.port es)) c.args.part n s
    (record s { states = set s.states n c.wanted-wanted.result }) c.wanted-wanted.result (omega (arith, long, c.requires.number)) refl refl refl refl
    (c.wanted-wanted.ensures.state es is ∙ ap needs c.pair_on.ensures.pair) c.requires.given
