use Rattle.std.proofs.Common.{[], ◌∷◌, refl, ap, sym, ◌∙◌, arith}
use Rattle.replay.specs.Tables.{message_of}
use Rattle.replay.proofs.Putting.{puts_then, puts_done, puts_same}
use Rattle.replay.proofs.Walks.{whole, found, none_behind}
use Rattle.replay.proofs.tables.put_differences.Goals as goal

pub returns-then-is_done : goal.returns-then-is_done
returns-then-is_done g c =
    let i = c.loop-place.from in
    let here = c.loop-place.invariant in
    puts_same g.S.Sink.holds _ _ _ _
    (whole c.args.kind c.args.channel c.args.now.now.items c.args.wanted.now.items i (omega (arith, c.requires.size, here.within)) (omega (arith, c.requires.same_size, here.within)))
    (puts_done g.S.Sink.holds _ _ _ _ here.held (c.if-is_done.ensures refl))

pub message-requires : goal.message-requires
message-requires g c = omega (arith, c.requires.small, c.in-Some.ensures.place)

pub loop-place-preserved : goal.loop-place-preserved
loop-place-preserved g c =
    let kind = c.args.kind in
    let channel = c.args.channel in
    let xs = c.args.now.now.items in
    let ys = c.args.wanted.now.items in
    let i = c.loop-place.from in
    let j = c.in-Some.place in
    let next = found kind channel xs ys i j c.in-Some.ensures.place.0 c.in-Some.ensures.least c.in-Some.ensures.differs in
    let same = ap (λ m. m ∷ []) (c.message.ensures ∙ ap (message_of kind channel j) c.get.ensures) in
    record {
      within = omega (arith, c.in-Some.ensures.place);
      held = puts_same g.S.Sink.holds _ _ _ _ (sym next)
          (puts_then g.S.Sink.holds _ _ _ _ _ c.loop-place.invariant.held (puts_same g.S.Sink.holds _ _ _ _ same c.put.ensures));
    }

pub returns : goal.returns
returns g c =
    let here = c.loop-place.invariant in
    puts_same g.S.Sink.holds _ _ _ _
    (none_behind c.args.kind c.args.channel c.args.now.now.items c.args.wanted.now.items c.loop-place.from
    (omega (arith, c.requires.size, here.within)) (c.requires.same_size ∙ sym c.requires.size) (λ k low under. c.in_default.ensures.none k low (omega (arith, under, c.requires.size))))
    here.held
