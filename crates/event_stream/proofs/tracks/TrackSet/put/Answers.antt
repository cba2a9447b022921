use Rattle.std.proofs.Common.{◌≡◌, ◌<◌, ◌≤◌, ◌+◌, [], length, set, get_or, arith, sym, subst, ◌∙◌}
use Rattle.std.proofs.lemmas.Result.{on_ok_weaker}
use Rattle.std.proofs.lemmas.Grind.{common_steps}
use Rattle.mt_base.specs.Midi.{view}
use Rattle.midi_model.specs.Writing.{written, most_bytes}
use Rattle.event_stream.specs.Distributed.{events_in, all_bytes}
use Rattle.event_stream.proofs.Putting.{text_of, put_stands, bytes_set}
use Rattle.event_stream.proofs.tracks.TrackSet.put.Goals as goal

pub returns-clause-stands : goal.returns-clause-stands
returns-clause-stands c tracks es is =
    let items = c.self.inside.tracks.items in
    let low : c.args.event.now.track < length items = subst (λ l. c.args.event.now.track < length l) (sym c.self.view_is) c.requires.exists in
    let got : c.index_mut.result.now ≡ get_or items c.args.event.now.track (written []) = grind (arith, common_steps, c.index_mut.ensures.value, low) in
    let event = view c.args.event.now in
    let text = text_of tracks es event items c.index_mut.result.now (c.self.view_is ∙ is) low got in
    on_ok_weaker c.put.result (put_stands tracks es event items c.put.new.self (c.self.view_is ∙ is) low) (c.put.ensures.stands (events_in event.track es) text)

pub returns-clause-grows : goal.returns-clause-grows
returns-clause-grows c =
    let items = c.self.inside.tracks.items in
    let more = most_bytes (view c.args.event.now).what in
    let low : c.args.event.now.track < length items = subst (λ l. c.args.event.now.track < length l) (sym c.self.view_is) c.requires.exists in
    let got : c.index_mut.result.now ≡ get_or items c.args.event.now.track (written []) = grind (arith, common_steps, c.index_mut.ensures.value, low) in
    let grown = subst (λ w. length c.put.new.self.bytes ≤ length w.bytes + more) got c.put.ensures.grows in
    subst (λ s. all_bytes (set items c.args.event.now.track c.put.new.self) ≤ all_bytes s + more) c.self.view_is (bytes_set items c.args.event.now.track more c.put.new.self (written []) grown low)
