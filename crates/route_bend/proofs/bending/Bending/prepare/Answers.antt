use Rattle.std.proofs.Common.{◌≡◌, ◌∙◌, List, false, Some, None, take, rules, refl, sym, ap, subst}
use Rattle.std.specs.Vec.{with_item}
use Rattle.std.proofs.lemmas.Result.{on_ok_weaker}
use Rattle.mt_base.specs.Midi.{view, view_what, Says, channel_of}
use Rattle.retune_model.specs.Faults.{is_part}
use Rattle.lifetimes.specs.Views.{options_of}
use Rattle.lifetimes.specs.Stands.{asked, table_in}
use Rattle.lifetimes.specs.Told.{port_on}
use Rattle.route_bend.specs.Standing.{IsAt, PortStands, found_in}
use Rattle.route_bend.specs.Preparing.{IsFoundAt}
use Rattle.route_bend.specs.declared.channels.Channels.{Channels}
use Rattle.route_bend.specs.declared.bending.Bending.{Bending}
use Rattle.route_bend.proofs.Prepared.{said_is, port_is, other_ready, drum_ready, none_ready, kept_is, port_ready}
use Rattle.route_bend.proofs.bending.Bending.prepare.Goals as goal

pub returns-in-Some : goal.returns-in-Some
returns-in-Some g c = λ allowed es plan k bending comes within stands all.
    let o = asked c.args.parts.now in
    let table = g.T.Aims.table (table_in c.args.parts.now) in
    let e = view c.args.event.now in
    let z = port_on (take k es) e in
    let m = c.in-Message.message in
    let is : e.what ≡ Says m = ap view_what c.in-Message.is in
    let ports = c.args.self.now.ports.items in
    let place = c.in-Some.place in
    let s = c.index_mut.result.now in
    let x = c.prepare_port.new.channels in
    let out = c.prepare_port.new.out in
    let b : Bending = record { ports = with_item c.args.self.now.ports place x; out = out } in
    let port : c.port-port.result ≡ z = c.port-port.ensures (take k es) stands ∙ sym (port_is o allowed table es plan k e m is) in
    let found : IsFoundAt ports z place = subst (λ n. IsFoundAt ports n place) port
    (subst (λ (l : List Channels). IsFoundAt l c.port-port.result place) c.as_slice.ensures.value c.in-Some.ensures.some) in
    let kept : PortStands o allowed table es plan z k s = kept_is o allowed table es plan k e ports all m is place found s
    (found.found s ∙ ap Some (sym c.index_mut.ensures.value)) in
    let own : s.port ≡ z = kept.port in
    let at : IsAt o allowed table es plan k e s.port = record { bending = bending; comes = comes; within = within; port = own } in
    on_ok_weaker c.prepare_port.result (λ ready. port_ready o allowed table es plan k e ports all m is place found x s.port out.messages.items own
    ready b refl refl)
    (c.prepare_port.ensures allowed es plan k e at is stands (subst (λ y. PortStands o allowed table es plan y k s) (sym own) kept))

pub returns-in-None : goal.returns-in-None
returns-in-None g c = λ allowed es plan k bending comes within stands all.
    let o = asked c.args.parts.now in
    let table = g.T.Aims.table (table_in c.args.parts.now) in
    let e = view c.args.event.now in
    let z = port_on (take k es) e in
    let m = c.in-Message.message in
    let is : e.what ≡ Says m = ap view_what c.in-Message.is in
    let ports = c.args.self.now.ports.items in
    let b : Bending = record { ports = c.args.self.now.ports; out = c.clear.new.self } in
    let port : c.port-port.result ≡ z = c.port-port.ensures (take k es) stands ∙ sym (port_is o allowed table es plan k e m is) in
    let none : found_in ports z ≡ None = subst (λ n. found_in ports n ≡ None) port
    (subst (λ (l : List Channels). found_in l c.port-port.result ≡ None) c.as_slice.ensures.value c.in-None.ensures.none) in
    none_ready o allowed table es plan k e ports all none b refl c.clear.ensures

pub returns-then-not-retunes : goal.returns-then-not-retunes
returns-then-not-retunes g c = λ allowed es plan k bending comes within stands all.
    let o = asked c.args.parts.now in
    let table = g.T.Aims.table (table_in c.args.parts.now) in
    let e = view c.args.event.now in
    let m = c.in-Message.message in
    let b : Bending = record { ports = c.args.self.now.ports; out = c.clear.new.self } in
    let not : c.retunes.result ≡ false = search rules in
    let other : is_part o (channel_of m) ≡ false =
    ap (λ x. is_part x (channel_of m)) (sym c.options.ensures) ∙ ap (is_part (options_of c.options.result)) (sym c.channel.ensures)
    ∙ sym c.retunes.ensures ∙ not in
    drum_ready o allowed table es plan k e c.args.self.now.ports.items all m (ap view_what c.in-Message.is) other b refl

pub returns-in_default : goal.returns-in_default
returns-in_default g c = λ allowed es plan k bending comes within stands all.
    let o = asked c.args.parts.now in
    let table = g.T.Aims.table (table_in c.args.parts.now) in
    let e = view c.args.event.now in
    let b : Bending = record { ports = c.args.self.now.ports; out = c.clear.new.self } in
    other_ready o allowed table es plan k e c.args.self.now.ports.items all
    (λ m is. absurd (c.in_default.not-Message m (said_is c.args.event.now.what m is))) b refl
