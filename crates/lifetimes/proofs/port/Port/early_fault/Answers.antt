use Rattle.std.proofs.Common.{◌≡◌, ◌∙◌, None, suc, sym, ap, rules, false}
use Rattle.mt_base.specs.declared.event.Msg.{Msg}
use Rattle.mt_base.specs.declared.event.Msg.TheVariants.{NoteOn, Control}
use Rattle.mt_base.specs.Midi.{Says, channel_of}
use Rattle.retune_model.specs.Faults.{is_part}
use Rattle.lifetimes.specs.Due.{early_due}
use Rattle.lifetimes.specs.Told.{strike_of}
use Rattle.lifetimes.specs.Views.{options_of}
use Rattle.lifetimes.proofs.StruckNow.{struck_of}
use Rattle.lifetimes.proofs.Unturned.{Laws, turns, unturned, unturned_due}
use Rattle.lifetimes.proofs.port.Port.early_fault.Goals as goal

pub returns-in-Some : goal.returns-in-Some
returns-in-Some c table es e z next what tick part struck =
    let o = options_of c.args.options.now in
    let message : Msg = c.args.message.now in
    let s = c.in-Some.strike in
    let x = struck_of o table e (Says message) s what (sym c.in-Some.is ∙ (struck ∙ ap (λ t. strike_of o table t (Says message)) (sym tick))) in
    let says : Says message ≡ Says (NoteOn s.channel s.key (suc x.0)) = sym what ∙ x.1.what in
    let same : message ≡ NoteOn s.channel s.key (suc x.0) = cc in
    c.strike_fault.ensures table es e z x.0 next x.1 ∙ ap (early_due o table es e z) (sym same)

pub returns-in-Control-default-eq6-default : goal.returns-in-Control-default-eq6-default
returns-in-Control-default-eq6-default c table es e z next what tick part struck =
    let o = options_of c.args.options.now in
    let is : c.args.message.now ≡ Control c.in-Control-default-eq6-default.channel 6 c.in-Control-default-eq6-default.value = search rules in
    c.entry_fault.ensures table es e z next (what ∙ ap Says is) tick (ap (λ (m : Msg). is_part o (channel_of m)) (sym is) ∙ part)
    ∙ ap (early_due o table es e z) (sym is)

pub returns-in-Control-default-eq38-default : goal.returns-in-Control-default-eq38-default
returns-in-Control-default-eq38-default c table es e z next what tick part struck =
    let o = options_of c.args.options.now in
    let is : c.args.message.now ≡ Control c.in-Control-default-eq38-default.channel 38 c.in-Control-default-eq38-default.value = search rules in
    c.entry_fault-in-Control-default-eq38-default.ensures table es e z next (what ∙ ap Says is) tick
    (ap (λ (m : Msg). is_part o (channel_of m)) (sym is) ∙ part)
    ∙ ap (early_due o table es e z) (sym is)

pub returns-in-Bend : goal.returns-in-Bend
returns-in-Bend c table es e z next what tick part struck =
    let o = options_of c.args.options.now in
    let is = c.in-Bend.is in
    c.turn_fault.ensures table es e z next (what ∙ ap Says is) tick (ap (λ (m : Msg). is_part o (channel_of m)) (sym is) ∙ part)
    ∙ ap (early_due o table es e z) (sym is)

pub returns-in_default-message : goal.returns-in_default-message
returns-in_default-message c table es e z next what tick part struck =
    let o = options_of c.args.options.now in
    let message : Msg = c.args.message.now in
    let strikes : c.args.strike.now ≡ None = search rules in
    let turns_none : turns message ≡ false = search rules in
    let laws : Laws = record {
      bends = c.bend_laws.ensures;
      settled = c.music_laws.ensures.settled;
      port = c.port_laws.ensures.port;
      was_there = c.held_laws.ensures.within;
      next = c.held_laws.ensures.next;
      within = c.pairs_are_within.ensures;
    } in
    c.alone_fault.ensures o table c.args.tick part struck
    ∙ sym (unturned_due laws o table es e z c.args.tick c.args.self.now message next what
    (unturned o table c.args.tick message part (sym strikes ∙ struck) turns_none) c.requires.range_some part tick)
