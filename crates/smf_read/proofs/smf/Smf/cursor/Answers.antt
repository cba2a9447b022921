use Rattle.std.proofs.Common.{◌≡◌, length, get_or, [], ap, sym, subst, ◌∙◌, map, arith}
use Rattle.mt_base.specs.Midi.{placed}
use Rattle.midi_model.specs.FileText.{MidiFile, events_of}
use Rattle.midi_model.specs.Merged.{IsTrackOf, AreTracksOf}
use Rattle.smf_read.specs.Views.{content_of}
use Rattle.smf_read.proofs.Places.{at_place}
use Rattle.smf_read.proofs.Sounds.{sound_at, are_tracks, track_in_place, tracks_count_is}
use Rattle.smf_read.proofs.smf.Smf.cursor.Goals as goal

pub new-requires : goal.new-requires
new-requires c =
    let xs = c.self.inside.contents.items in
    let same : length c.args.self.now.tracks ≡ length (map events_of (map content_of xs)) = ap (λ (f : MidiFile). length f.tracks) (sym c.self.view_is) in
    λ _. sound_at xs c.args.track c.index.result.now c.self.invariant.sound (omega (arith, c.requires, same, tracks_count_is xs)) c.index.ensures

pub returns-clause-rest : goal.returns-clause-rest
returns-clause-rest c =
    let xs = c.self.inside.contents.items in
    let same : length c.args.self.now.tracks ≡ length (map events_of (map content_of xs)) = ap (λ (f : MidiFile). length f.tracks) (sym c.self.view_is) in
    c.new.ensures.rest ∙ ap (map (placed c.args.track)) (sym (at_place xs c.args.track c.index.result.now (omega (arith, c.requires, same)) c.index.ensures)
    ∙ ap (λ (f : MidiFile). get_or f.tracks c.args.track []) c.self.view_is)

pub returns-clause-all : goal.returns-clause-all
returns-clause-all c =
    let xs = c.self.inside.contents.items in
    let same : length c.args.self.now.tracks ≡ length (map events_of (map content_of xs)) = ap (λ (f : MidiFile). length f.tracks) (sym c.self.view_is) in
    c.new.ensures.all ∙ ap (map (placed c.args.track)) (sym (at_place xs c.args.track c.index.result.now (omega (arith, c.requires, same)) c.index.ensures)
    ∙ ap (λ (f : MidiFile). get_or f.tracks c.args.track []) c.self.view_is)

pub returns-clause-track_of : goal.returns-clause-track_of
returns-clause-track_of c =
    let each = subst (λ (f : MidiFile). AreTracksOf 0 f.tracks) c.self.view_is (are_tracks c.reading_laws.ensures.track _ c.self.invariant.sound) in
    subst (IsTrackOf c.args.track) (sym (returns-clause-all c)) (track_in_place c.args.track _ each c.requires)
