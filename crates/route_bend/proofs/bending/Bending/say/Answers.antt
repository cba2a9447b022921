use Rattle.std.proofs.Common.{◌≡◌, ◌∙◌, suc, List, Some, None, take, refl, sym, ap, subst}
use Rattle.std.proofs.lemmas.Result.{on_ok_weaker}
use Rattle.lifetimes.specs.Stands.{asked, table_in}
use Rattle.lifetimes.specs.Told.{port_on, begun_by, count_begun}
use Rattle.route_bend.specs.Standing.{IsAt, found_in, releases}
use Rattle.route_bend.specs.Preparing.{IsFoundAt}
use Rattle.route_bend.specs.declared.channels.Channels.{Channels}
use Rattle.route_bend.proofs.Taking.{off_taken, quiet_taken}
use Rattle.route_bend.proofs.Saying.{told_says, told_none, calm, at_port, prepared_port, followed}
use Rattle.route_bend.proofs.bending.Bending.say.Goals as goal

pub returns-in-Some : goal.returns-in-Some
returns-in-Some g c = λ allowed es k e bending comes within valid what stands tells ready.
    let o = asked c.args.parts.now in
    let table = g.T.Aims.table (table_in c.args.parts.now) in
    let b = c.in-Some.begun in
    let begun : Some b ≡ begun_by o table (port_on (take k es) e) (suc (count_begun o (take k es))) e.tick e.what = sym c.in-Some.is ∙ tells.begun in
    let says = told_says o table (port_on (take k es) e) (suc (count_begun o (take k es))) e.tick e.what c.args.message.now
    c.in-NoteOn.channel c.in-NoteOn.key c.in-NoteOn.velocity c.channel.result b what c.in-NoteOn.is c.channel.ensures c.requires.part begun in
    c.begin.ensures allowed es k e bending comes within valid says.0 says.1 stands begun ready

pub returns-in-None : goal.returns-in-None
returns-in-None g c = λ allowed es k e bending comes within valid what stands tells ready.
    let o = asked c.args.parts.now in
    let table = g.T.Aims.table (table_in c.args.parts.now) in
    let plan = c.args.plan.now in
    let m = c.args.message.now in
    let at : IsAt o allowed table es plan k e (port_on (take k es) e) = record { bending = bending; comes = comes; within = within; port = refl } in
    off_taken c.turning.ensures.turn c.turning.ensures.wait c.turning.ensures.seen o allowed table es plan k e at m what c.requires.part
    c.args.self.now (told_none o table (port_on (take k es) e) (suc (count_begun o (take k es))) e.tick e.what m
    c.in-NoteOn.channel c.in-NoteOn.key c.in-NoteOn.velocity what c.in-NoteOn.is c.requires.part (sym c.in-None.is ∙ tells.begun)) ready

pub returns-in-NoteOff : goal.returns-in-NoteOff
returns-in-NoteOff g c = λ allowed es k e bending comes within valid what stands tells ready.
    let o = asked c.args.parts.now in
    let table = g.T.Aims.table (table_in c.args.parts.now) in
    let plan = c.args.plan.now in
    let at : IsAt o allowed table es plan k e (port_on (take k es) e) = record { bending = bending; comes = comes; within = within; port = refl } in
    off_taken c.turning.ensures.turn c.turning.ensures.wait c.turning.ensures.seen o allowed table es plan k e at c.args.message.now what
    c.requires.part c.args.self.now (ap releases c.in-NoteOff.is) ready

pub returns-in-Some-place_of : goal.returns-in-Some-place_of
returns-in-Some-place_of g c = λ allowed es k e bending comes within valid what stands tells ready.
    let o = asked c.args.parts.now in
    let table = g.T.Aims.table (table_in c.args.parts.now) in
    let plan = c.args.plan.now in
    let m = c.args.message.now in
    let b = c.args.self.now in
    let turn = c.turning.ensures.turn in
    let wait = c.turning.ensures.wait in
    let seen = c.turning.ensures.seen in
    let z = port_on (take k es) e in
    let place = c.in-Some-place_of.place in
    let s = c.index_mut.result.now in
    let at : IsAt o allowed table es plan k e (port_on (take k es) e) = record { bending = bending; comes = comes; within = within; port = refl } in
    let there : IsFoundAt b.ports.items z place = subst (λ n. IsFoundAt b.ports.items n place) tells.port
    (subst (λ (l : List Channels). IsFoundAt l c.args.change.now.port place) c.as_slice.ensures.value c.in-Some-place_of.ensures.some) in
    let found : found_in b.ports.items z ≡ Some s = there.found s ∙ ap Some (sym c.index_mut.ensures.value) in
    on_ok_weaker c.follow.result
    (λ own. followed turn wait seen o allowed table es plan k e at m what c.requires.part b ready s found place there c.follow.new.channels
    c.follow.new.out.messages.items own _ refl refl)
    (c.follow.ensures allowed es plan k e (at_port turn wait seen o allowed table es plan k e at m what c.requires.part b ready s found) what stands
    (prepared_port turn wait seen o allowed table es plan k e at m what c.requires.part b ready s found))

pub returns-in-None-place_of : goal.returns-in-None-place_of
returns-in-None-place_of g c = λ allowed es k e bending comes within valid what stands tells ready.
    let o = asked c.args.parts.now in
    let table = g.T.Aims.table (table_in c.args.parts.now) in
    let plan = c.args.plan.now in
    let m = c.args.message.now in
    let b = c.args.self.now in
    let at : IsAt o allowed table es plan k e (port_on (take k es) e) = record { bending = bending; comes = comes; within = within; port = refl } in
    let none : found_in b.ports.items (port_on (take k es) e) ≡ None = subst (λ n. found_in b.ports.items n ≡ None) tells.port
    (subst (λ (l : List Channels). found_in l c.args.change.now.port ≡ None) c.as_slice.ensures.value c.in-None-place_of.ensures.none) in
    quiet_taken c.turning.ensures.turn c.turning.ensures.wait c.turning.ensures.seen o allowed table es plan k e at m what c.requires.part b
    (calm m c.in_default.not-NoteOn) ready none
