use Rattle.std.proofs.Common.{rules, ◌≡◌, ◌∙◌, List, true, false, Some, None, take, refl, sym, ap, subst}
use Rattle.mt_base.specs.declared.event.Msg.{Msg}
use Rattle.mt_base.specs.Midi.{view, view_what, Says, channel_of}
use Rattle.midi_model.specs.Sysex.{doing}
use Rattle.retune_model.specs.Faults.{is_part}
use Rattle.retune_model.specs.Ports.{resets}
use Rattle.lifetimes.specs.Stands.{asked, table_in}
use Rattle.lifetimes.specs.Told.{port_on}
use Rattle.channel_plan.proofs.Goes.{reset_is}
use Rattle.route_bend.specs.Standing.{IsAt, found_in}
use Rattle.route_bend.specs.Preparing.{IsFoundAt}
use Rattle.route_bend.specs.declared.channels.Channels.{Channels}
use Rattle.route_bend.proofs.Prepared.{said_is}
use Rattle.route_bend.proofs.Taking.{others_taken, reset_none}
use Rattle.route_bend.proofs.Saying.{drum_only, reset_taken}
use Rattle.route_bend.proofs.bending.Bending.take.Goals.{in_default-via-in-Message+else-retunes, in_default-via-in_default}
use Rattle.route_bend.proofs.bending.Bending.take.Goals as goal

pub returns-in-Message : goal.returns-in-Message
returns-in-Message g c = λ allowed es k bending comes within stands tells ready.
    c.say.ensures allowed es k (view c.args.event.now) bending comes within c.requires.valid (ap view_what c.in-Message.is) stands tells ready

pub returns-in-Some : goal.returns-in-Some
returns-in-Some g c = λ allowed es k bending comes within stands tells ready.
    let o = asked c.args.parts.now in
    let table = g.T.Aims.table (table_in c.args.parts.now) in
    let plan = c.args.plan.now in
    let e = view c.args.event.now in
    let b = c.args.self.now in
    let turn = c.turning.ensures.turn in
    let wait = c.turning.ensures.wait in
    let seen = c.turning.ensures.seen in
    let z = port_on (take k es) e in
    let place = c.in-Some.place in
    let s = c.index_mut.result.now in
    let at : IsAt o allowed table es plan k e (port_on (take k es) e) = record { bending = bending; comes = comes; within = within; port = refl } in
    let other : (n : Msg) → e.what ≡ Says n → is_part o (channel_of n) ≡ false = λ n is. elim c.in_default.branch [
      | in_default-via-in-Message+else-retunes w ↦ (let not : w.retunes.result ≡ false = search rules in
          drum_only o e.what w.in-Message.message n (ap view_what w.in-Message.is) (ap (is_part o) (sym w.channel.ensures)
          ∙ ap (λ x. is_part x w.channel.result) (sym w.options.ensures) ∙ sym w.retunes.ensures ∙ not) is)
      | in_default-via-in_default w ↦ absurd (w.in_default.not-Message n (said_is c.args.event.now.what n is))
    ] in
    let reset : resets (doing e.what) ≡ true = sym (reset_is e.what) ∙ sym c.resets.ensures ∙ c.if-resets.true in
    let there : IsFoundAt b.ports.items z place = subst (λ n. IsFoundAt b.ports.items n place) tells.port
    (subst (λ (l : List Channels). IsFoundAt l c.args.change.now.port place) c.as_slice.ensures.value c.in-Some.ensures.some) in
    let found : found_in b.ports.items z ≡ Some s = there.found s ∙ ap Some (sym c.index_mut.ensures.value) in
    reset_taken turn wait seen o allowed table es plan k e at other b ready s found reset place there c.reset.new.self
    c.reset.ensures.fresh c.reset.ensures.port _ refl

pub returns-in_default-place_of : goal.returns-in_default-place_of
returns-in_default-place_of g c = λ allowed es k bending comes within stands tells ready.
    let o = asked c.args.parts.now in
    let table = g.T.Aims.table (table_in c.args.parts.now) in
    let plan = c.args.plan.now in
    let e = view c.args.event.now in
    let b = c.args.self.now in
    let turn = c.turning.ensures.turn in
    let wait = c.turning.ensures.wait in
    let seen = c.turning.ensures.seen in
    let at : IsAt o allowed table es plan k e (port_on (take k es) e) = record { bending = bending; comes = comes; within = within; port = refl } in
    let other : (n : Msg) → e.what ≡ Says n → is_part o (channel_of n) ≡ false = λ n is. elim c.in_default.branch [
      | in_default-via-in-Message+else-retunes w ↦ (let not : w.retunes.result ≡ false = search rules in
          drum_only o e.what w.in-Message.message n (ap view_what w.in-Message.is) (ap (is_part o) (sym w.channel.ensures)
          ∙ ap (λ x. is_part x w.channel.result) (sym w.options.ensures) ∙ sym w.retunes.ensures ∙ not) is)
      | in_default-via-in_default w ↦ absurd (w.in_default.not-Message n (said_is c.args.event.now.what n is))
    ] in
    let reset : resets (doing e.what) ≡ true = sym (reset_is e.what) ∙ sym c.resets.ensures ∙ c.if-resets.true in
    let none : found_in b.ports.items (port_on (take k es) e) ≡ None = subst (λ n. found_in b.ports.items n ≡ None) tells.port
    (subst (λ (l : List Channels). found_in l c.args.change.now.port ≡ None) c.as_slice.ensures.value c.in_default-place_of.ensures.none) in
    reset_none turn wait seen o allowed table es plan k e at other b reset none ready

pub returns-else-resets : goal.returns-else-resets
returns-else-resets g c = λ allowed es k bending comes within stands tells ready.
    let o = asked c.args.parts.now in
    let table = g.T.Aims.table (table_in c.args.parts.now) in
    let plan = c.args.plan.now in
    let e = view c.args.event.now in
    let b = c.args.self.now in
    let turn = c.turning.ensures.turn in
    let wait = c.turning.ensures.wait in
    let seen = c.turning.ensures.seen in
    let at : IsAt o allowed table es plan k e (port_on (take k es) e) = record { bending = bending; comes = comes; within = within; port = refl } in
    let other : (n : Msg) → e.what ≡ Says n → is_part o (channel_of n) ≡ false = λ n is. elim c.in_default.branch [
      | in_default-via-in-Message+else-retunes w ↦ (let not : w.retunes.result ≡ false = search rules in
          drum_only o e.what w.in-Message.message n (ap view_what w.in-Message.is) (ap (is_part o) (sym w.channel.ensures)
          ∙ ap (λ x. is_part x w.channel.result) (sym w.options.ensures) ∙ sym w.retunes.ensures ∙ not) is)
      | in_default-via-in_default w ↦ absurd (w.in_default.not-Message n (said_is c.args.event.now.what n is))
    ] in
    let none : resets (doing e.what) ≡ false = sym (reset_is e.what) ∙ sym c.resets.ensures ∙ c.if-resets.false in
    others_taken turn wait seen o allowed table es plan k e at other b none ready
