use Rattle.std.proofs.Common.{to_z, of_z, w32, subst, ◌≢◌, ◌≡◌, ◌<◌, ◌∷◌, [], ◌∙◌, true, false, Some, length, take, rules, sym, ap, arith}
use Rattle.std.proofs.lemmas.Result.{on_ok_weaker}
use Rattle.mt_base.specs.declared.event.Msg.{Msg}
use Rattle.retune_model.specs.Ports.{of_port, events_on}
use Rattle.channel_model.specs.BendOutput.{note_released, pressed_note}
use Rattle.bend_laws.specs.Positions.{both_at}
use Rattle.lifetimes.specs.Stands.{asked, table_in}
use Rattle.route_bend.specs.Channels.{steps_in}
use Rattle.route_bend.specs.Standing.{runs_by, used_by}
use Rattle.route_bend.specs.Preparing.{off_of}
use Rattle.route_bend.proofs.Released.{nothing_sent, one_sent, none_off, up_off, unaimed_off, aimed_off, never_lost}
use Rattle.route_bend.proofs.port.release.Goals as goal

pub returns-then-not-is_down : goal.returns-then-not-is_down
returns-then-not-is_down g c = λ allowed es plan k e at stands kept.
    let o = asked c.args.parts.now in
    let table = g.T.Aims.table (table_in c.args.parts.now) in
    let s = c.args.channels.now in
    let z = s.port in
    let runs = runs_by o allowed table es plan z in
    let ns = of_port z es in
    let low : k < length es = at.within in
    let turn = c.turning.ensures.turn o allowed table es plan k e z at in
    let seen = c.turning.ensures.seen o allowed table es plan z k at.bending (omega (arith, low)) in
    let one = c.turning.ensures.one (events_on z (take k es)) c.args.part c.args.key in
    let told = c.sounding.ensures (take k es) stands in
    let up : c.in-Some.is_down ≡ false = search rules in
    nothing_sent c.args.out.now.messages.items
    (note_released z o table (runs.channel k) (off_of c.args.off) c.args.part
    (pressed_note c.args.part c.args.key (both_at o table runs ns k).source.notes))
    (up_off o table (used_by o allowed table es z) runs ns k e turn s kept (take k es) c.args.part c.args.key c.requires.bends c.requires.part one
    seen.music
    (off_of c.args.off) c.in-Some.begun (sym told ∙ c.in-Some.is ∙ ap (λ r. Some (c.in-Some.begun, r)) up))

pub returns-in_default : goal.returns-in_default
returns-in_default g c = λ allowed es plan k e at stands kept.
    let o = asked c.args.parts.now in
    let table = g.T.Aims.table (table_in c.args.parts.now) in
    let s = c.args.channels.now in
    let z = s.port in
    let runs = runs_by o allowed table es plan z in
    let ns = of_port z es in
    let low : k < length es = at.within in
    let turn = c.turning.ensures.turn o allowed table es plan k e z at in
    let seen = c.turning.ensures.seen o allowed table es plan z k at.bending (omega (arith, low)) in
    let one = c.turning.ensures.one (events_on z (take k es)) c.args.part c.args.key in
    let told = c.sounding.ensures (take k es) stands in
    nothing_sent c.args.out.now.messages.items
    (note_released z o table (runs.channel k) (off_of c.args.off) c.args.part
    (pressed_note c.args.part c.args.key (both_at o table runs ns k).source.notes))
    (none_off o table (used_by o allowed table es z) runs ns k e turn s kept (take k es) c.args.part c.args.key c.requires.bends c.requires.part one
    seen.music
    (off_of c.args.off) (sym told ∙ c.in_default.is))

pub returns-in_default-target : goal.returns-in_default-target
returns-in_default-target g c = λ allowed es plan k e at stands kept.
    let o = asked c.args.parts.now in
    let table = g.T.Aims.table (table_in c.args.parts.now) in
    let s = c.args.channels.now in
    let z = s.port in
    let runs = runs_by o allowed table es plan z in
    let ns = of_port z es in
    let low : k < length es = at.within in
    let turn = c.turning.ensures.turn o allowed table es plan k e z at in
    let seen = c.turning.ensures.seen o allowed table es plan z k at.bending (omega (arith, low)) in
    let one = c.turning.ensures.one (events_on z (take k es)) c.args.part c.args.key in
    let down : c.in-Some.is_down ≡ true = search rules in
    let told = c.sounding.ensures (take k es) stands in
    nothing_sent c.args.out.now.messages.items
    (note_released z o table (runs.channel k) (off_of c.args.off) c.args.part
    (pressed_note c.args.part c.args.key (both_at o table runs ns k).source.notes))
    (unaimed_off o table (used_by o allowed table es z) runs ns k e turn s kept (take k es) c.args.part c.args.key c.requires.bends c.requires.part
    one seen.music
    (off_of c.args.off) c.in-Some.begun (sym told ∙ c.in-Some.is ∙ ap (λ r. Some (c.in-Some.begun, r)) down) c.in_default-target.not-Bend)

pub returns-in-Some-find : goal.returns-in-Some-find
returns-in-Some-find g c =
    let trip : to_z w32 (of_z w32 c.in-Some.begun.pair.steps) ≡ c.in-Some.begun.pair.steps = search rules in
    λ allowed es plan k e at stands kept.
    let o = asked c.args.parts.now in
    let table = g.T.Aims.table (table_in c.args.parts.now) in
    let s = c.args.channels.now in
    let z = s.port in
    let runs = runs_by o allowed table es plan z in
    let ns = of_port z es in
    let low : k < length es = at.within in
    let turn = c.turning.ensures.turn o allowed table es plan k e z at in
    let seen = c.turning.ensures.seen o allowed table es plan z k at.bending (omega (arith, low)) in
    let one = c.turning.ensures.one (events_on z (take k es)) c.args.part c.args.key in
    let down : c.in-Some.is_down ≡ true = search rules in
    let told = c.sounding.ensures (take k es) stands in
    let near : c.in-Some-find.channel < 16 = search rules in
    on_ok_weaker c.put.result (λ put. one_sent c.args.out.now.messages.items c.put.new.self.messages.items
    (note_released z o table (runs.channel k) (off_of c.args.off) c.args.part
    (pressed_note c.args.part c.args.key (both_at o table runs ns k).source.notes))
    c.note_off.result put (aimed_off o table (used_by o allowed table es z) runs ns k e turn s kept (take k es) c.args.part c.args.key
    c.requires.bends c.requires.part one seen.music
    (off_of c.args.off) c.in-Some.begun (sym told ∙ c.in-Some.is ∙ ap (λ r. Some (c.in-Some.begun, r)) down) c.in-Bend.target c.in-Bend.steps
    c.in-Bend.is
    c.in-Some-find.channel near c.in-Some-find.ensures.given (c.in-Some-find.ensures.steps ∙ trip)
    ∙ ap (λ (m : Msg). m ∷ []) (sym c.note_off.ensures))) c.put.ensures

pub returns-in-None : goal.returns-in-None
returns-in-None g c = λ allowed es plan k e at stands kept.
    let o = asked c.args.parts.now in
    let table = g.T.Aims.table (table_in c.args.parts.now) in
    let s = c.args.channels.now in
    let z = s.port in
    let runs = runs_by o allowed table es plan z in
    let ns = of_port z es in
    let low : k < length es = at.within in
    let turn = c.turning.ensures.turn o allowed table es plan k e z at in
    let seen = c.turning.ensures.seen o allowed table es plan z k at.bending (omega (arith, low)) in
    let one = c.turning.ensures.one (events_on z (take k es)) c.args.part c.args.key in
    let down : c.in-Some.is_down ≡ true = search rules in
    let told = c.sounding.ensures (take k es) stands in
    let trip : to_z w32 (of_z w32 c.in-Some.begun.pair.steps) ≡ c.in-Some.begun.pair.steps = search rules in
    absurd (never_lost o table (used_by o allowed table es z) runs ns k e turn s kept (take k es) c.args.part c.args.key c.requires.bends
    c.requires.part one seen.music
    (off_of c.args.off) c.in-Some.begun (sym told ∙ c.in-Some.is ∙ ap (λ r. Some (c.in-Some.begun, r)) down) c.in-Bend.target c.in-Bend.steps
    c.in-Bend.is
    (λ x l h. subst (λ i. steps_in s x ≢ i) trip (c.in-None.ensures.none x l h)))
