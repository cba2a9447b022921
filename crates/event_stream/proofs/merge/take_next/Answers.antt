use Rattle.std.proofs.Common.{[], map, set, ap, sym, ◌∙◌}
use Rattle.std.proofs.lemmas.List.{map-set, get_or-map}
use Rattle.smf_read.specs.Remaining.{remaining, all_of}
use Rattle.event_stream.proofs.Cursors.{some_at, written_of, same_of}
use Rattle.event_stream.proofs.merge.take_next.Goals as goal

pub returns-clause-some : goal.returns-clause-some
returns-clause-some c =
    let read = get_or-map remaining c.args.cursors.now c.args.track c.index-cursors-track.result [] c.requires in
    let written = written_of remaining c.args.cursors.now c.args.track c.next-event.new.self [] c.requires in
    some_at c.next-event.result _ _ _ _ c.next-event.ensures.some read written

pub returns-clause-others : goal.returns-clause-others
returns-clause-others c =
    let written = written_of remaining c.args.cursors.now c.args.track c.next-event.new.self [] c.requires in
    map-set remaining c.args.cursors.now c.args.track c.next-event.new.self ∙ ap (set (map remaining c.args.cursors.now) c.args.track) (sym written)

pub returns-clause-all : goal.returns-clause-all
returns-clause-all c =
    let read = get_or-map all_of c.args.cursors.now c.args.track c.index-cursors-track.result [] c.requires in
    same_of all_of c.args.cursors.now c.args.track c.next-event.new.self [] (c.next-event.ensures.all ∙ sym read)
