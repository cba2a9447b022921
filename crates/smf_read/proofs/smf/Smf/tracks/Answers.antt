use Rattle.std.proofs.Common.{◌≡◌, map, arith, ap, sym, subst, length, ◌∙◌}
use Rattle.midi_model.specs.FileText.{MidiFile, events_of, together}
use Rattle.midi_model.specs.Merged.{AreTracksOf, one_by_one}
use Rattle.smf_read.specs.Views.{content_of}
use Rattle.smf_read.proofs.Sounds.{are_tracks, one_by_one_length}
use Rattle.smf_read.proofs.smf.Smf.tracks.Goals as goal

pub returns-clause-in_all : goal.returns-clause-in_all
returns-clause-in_all c =
    let count = c.merged_order.ensures.count c.args.self.now in
    let all : length (one_by_one 0 c.args.self.now.tracks) ≡ together (map events_of (map content_of c.self.inside.contents.items)) =
    ap (λ (f : MidiFile). length (one_by_one 0 f.tracks)) (sym c.self.view_is) ∙ one_by_one_length 0 (map content_of c.self.inside.contents.items) in
    omega (arith, c.self.invariant.in_all, count, all)

pub returns-clause-each : goal.returns-clause-each
returns-clause-each c =
    subst (λ (f : MidiFile). AreTracksOf 0 f.tracks) c.self.view_is (are_tracks c.reading_laws.ensures.track _ c.self.invariant.sound)

pub returns-clause-playable : goal.returns-clause-playable
returns-clause-playable c = c.merged_order.ensures.playable c.args.self.now (returns-clause-each c)
