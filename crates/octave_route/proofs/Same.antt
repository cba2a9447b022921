-- The octave route's output plays the same as its source, on every port.
use Rattle.std.proofs.Common.{◌≡◌, ℕ, List, [], ◌++◌, Bool, true, false, not, refl, ap, sym, ◌∙◌, subst, map}
use Rattle.std.specs.List.{AllByRecursion, filter}
use Rattle.mt_base.specs.Midi.{Timed, MidiEvent}
use Rattle.mt_base.specs.Valid.{IsValidEvent}
use Rattle.midi_model.specs.Merged.{timed, merged}
use Rattle.midi_model.specs.Notes.{sounds}
use Rattle.midi_model.specs.Music.{quiet, play}
use Rattle.midi_model.specs.MusicLaws.{NotesFade}
use Rattle.midi_model.specs.Order.{AreInOrder}
use Rattle.midi_model.specs.Receiver.{start, after}
use Rattle.midi_model.specs.Sysex.{doing, is_tuning}
use Rattle.retune_model.specs.Table.{Scaling}
use Rattle.retune_model.specs.Options.{Options, ByDump, keeps_drums, is_retuned}
use Rattle.retune_model.specs.PlaysTheSame.{Pairwise, until, at_tick, retuned_notes, output_key, IsSameNote, HasSameNotes, SoundsTheSame, HasSameSound, PlaysTheSameMusic, PlayTheSame, is_tuning_event, other_events, without_tuning, KeepsOtherEvents, KeepsDrums}
use Rattle.retune_model.specs.Faults.{Targets, is_part}
use Rattle.retune_model.specs.SourceFaults.{IsFaultless}
use Rattle.retune_model.specs.Ports.{Numbered, port_of, all_zero, of_port, events_on}
use Rattle.retune_model.specs.Blocks.{Block, written}
use Rattle.retune_model.specs.Routes.{Setup, dump_block, dump_next, dump_output}
use Rattle.retune_model.specs.Dump.{has_note_on, dump_if}
use Rattle.retune_model.specs.Plain.{has_begun}
use Rattle.retune_model.specs.Octave.{octave_device}
use Rattle.retune_model.proofs.Laws.{PitchLaws}
use Rattle.retune_model.proofs.DumpSame.{known}
use Rattle.retune_model.proofs.Faultless.{AreFineFrom, all_plain, port_fine}
use Rattle.retune_model.proofs.Fronts.{split, until_source, until_output, all_front, plain_front, faultless_front}
use Rattle.retune_model.proofs.Lists.{filter_twice}
use Rattle.retune_model.proofs.Others.{Refuses, dump_lets, is_other, is_other_untuned, sends_refused, all_untuned, filter_timed, other_by_test, is_drum_on, drums_by_test, sends_no_drums, every_same}
use Rattle.retune_model.proofs.Ported.{kept_block, kept_next, as_translated, passed}
use Rattle.retune_model.proofs.Served.{IsKnown}
use Rattle.retune_model.proofs.Steady.{music_all}
use Rattle.retune_model.proofs.Through.{on_is, through_on, through_translated, dump_beside}
use Rattle.octave_route.specs.Messages.{octave_bytes, WrittenIsRead}
use Rattle.octave_route.specs.Output.{parts_number, octave_setup, octaved, begins_key, AreUsed, IsOctavable}
use Rattle.octave_route.specs.Classes.{is_used}
use Rattle.octave_route.specs.Laws.{OctavePlaysTheSame, OctavedFilePlaysTheSame}
use Rattle.octave_route.proofs.Keyed.{Uses, all_on, order_on}
use Rattle.octave_route.proofs.Running.{Given, AreGood, Runs, runs_start, runs_all, notes_at, sound_at, begin_run}

-- ---- one port

-- the events of a port
record IsPort (o : Options) (table : Targets) (used : ℕ) (es : List MidiEvent) : Type 0 where
  valid : AllByRecursion IsValidEvent es
  in_order : AreInOrder 0 es
  fine : AreFineFrom o table quiet es
  keys : AreUsed o used es

port : (scaling : Scaling) (o : Options) (table : Targets) (used : ℕ) (values : List ℕ) (es : List MidiEvent) (z : ℕ)
    → IsOctavable scaling o table used values es → IsPort o table used (events_on z es)
port scaling o table used values es z h = record {
  valid = all_on IsValidEvent z es h.valid;
  in_order = order_on z es h.in_order;
  fine = port_fine o table es z h.faultless;
  keys = all_on (λ e. (key : ℕ) → begins_key (is_part o) key e.what ≡ true → is_used used key ≡ true) z es h.keys;
}

good : (o : Options) (table : Targets) (used : ℕ) (es : List MidiEvent) → IsPort o table used es → AreGood o table used es quiet es
good o table used es h = record { fine = h.fine; plain = all_plain o table quiet es h.valid h.fine; known = known o es h.valid; uses = h.keys }

good_front : (o : Options) (table : Targets) (used : ℕ) (es xs ys : List MidiEvent) → IsPort o table used es → es ≡ xs ++ ys
    → AreGood o table used es quiet xs
good_front o table used es xs ys h is =
    let all = subst (AreGood o table used es quiet) is (good o table used es h) in
    record {
      fine = faultless_front o table quiet xs ys all.fine;
      plain = plain_front (is_part o) quiet xs ys all.plain;
      known = all_front (IsKnown o es) xs ys all.known;
      uses = all_front (λ e. Uses o used e.what) xs ys all.uses;
    }

runs_front : (scaling : Scaling) (o : Options) (table : Targets) (used : ℕ) (values : List ℕ) (es xs ys : List MidiEvent)
    → Given scaling o table used values → IsPort o table used es → es ≡ xs ++ ys
    → Runs o table used values es (has_begun false xs) (play quiet xs) (dump_output (octave_setup o values es) xs)
runs_front scaling o table used values es xs ys g h is =
    runs_all scaling o table used values es false quiet [] xs g (good_front o table used es xs ys h is) (runs_start o table used values es)

same_notes : (scaling : Scaling) (o : Options) (table : Targets) (used : ℕ) (values : List ℕ) (es : List MidiEvent)
    → Given scaling o table used values → IsPort o table used es
    → HasSameNotes (output_key o table) (is_retuned (keeps_drums o es)) es (dump_output (octave_setup o values es) es)
same_notes scaling o table used values es g h t =
    let c = split t 0 es h.in_order in
    let s : Setup = octave_setup o values es in
    let part : ℕ → Bool = is_retuned (keeps_drums o es) in
    let P : List MidiEvent → Type 0 = λ x. Pairwise (IsSameNote (output_key o table)) (retuned_notes part (after x)) (retuned_notes part (at_tick t
    (dump_output s es))) in
    let Q : List MidiEvent → Type 0 = λ y. Pairwise (IsSameNote (output_key o table)) (retuned_notes part (after c.early)) (retuned_notes part (after
    y)) in
    let r = runs_front scaling o table used values es c.early c.late g h c.is in
    subst P (sym (until_source t es c)) (subst Q (sym (until_output t s es c))
    (notes_at o table part (play quiet c.early) c.early (dump_output s c.early) g.serves.route (music_all start c.early) r.stays.music))

same_sounds : (scaling : Scaling) (o : Options) (table : Targets) (used : ℕ) (values : List ℕ) (es : List MidiEvent)
    → Given scaling o table used values → IsPort o table used es
    → HasSameSound scaling o octave_device (is_retuned (keeps_drums o es)) es (dump_output (octave_setup o values es) es)
same_sounds scaling o table used values es g h t =
    let c = split t 0 es h.in_order in
    let s : Setup = octave_setup o values es in
    let part : ℕ → Bool = is_retuned (keeps_drums o es) in
    let R : List MidiEvent → List MidiEvent → Type 0 = λ x y. Pairwise (λ a b. sounds a ≡ true
    → SoundsTheSame scaling o octave_device x y a b) (retuned_notes part (after x)) (retuned_notes part (after y)) in
    let P : List MidiEvent → Type 0 = λ x. R x (until t (dump_output s es)) in
    let Q : List MidiEvent → Type 0 = λ y. R c.early y in
    let r = runs_front scaling o table used values es c.early c.late g h c.is in
    subst P (sym (until_source t es c)) (subst Q (sym (until_output t s es c))
    (sound_at scaling o table used values es (has_begun false c.early) (play quiet c.early) c.early (dump_output s c.early) g (music_all start
    c.early) r))

port_same : (scaling : Scaling) (o : Options) (table : Targets) (used : ℕ) (values : List ℕ) (es : List MidiEvent)
    → Given scaling o table used values → IsPort o table used es
    → PlaysTheSameMusic scaling o table octave_device es (dump_output (octave_setup o values es) es)
port_same scaling o table used values es g h = record {
  notes = same_notes scaling o table used values es g h;
  sound = same_sounds scaling o table used values es g h;
  beginnings = begin_run scaling o table used values es false quiet [] [] es g (good o table used es h) refl (runs_start o table used values es);
}

-- ---- all ports

octaved_on : (o : Options) (values : List ℕ) (es : List MidiEvent) (z : ℕ) → events_on z (octaved o values es) ≡ dump_output (octave_setup o values
    (events_on z es)) (events_on z es)
octaved_on o values es z =
    on_is z all_zero 0 (octaved o values es)
    ∙ through_on (λ y (b : Bool) (n : Numbered). written (dump_block (octave_setup o values (events_on y es)) b n.event)) (λ y (b : Bool) (n :
    Numbered). dump_next b (doing n.event.what))
    (λ y b n. dump_beside (octave_setup o values (events_on y es)) b n.event) z all_zero 0 (λ y. false) es
    ∙ through_translated (dump_block (octave_setup o values (events_on z es))) (λ b e. dump_next b (doing e.what)) false (of_port z es)

all_tuning : (b : Bool) (bytes : List ℕ) → is_tuning bytes ≡ true → AllByRecursion (λ x. is_tuning x ≡ true) (dump_if b bytes)
all_tuning true bytes h = (h, tt)
all_tuning false bytes h = tt

others_kept : (o : Options) (table : Targets) (values : List ℕ) (es : List MidiEvent) → o.route ≡ ByDump → IsFaultless o table es
    → KeepsOtherEvents o es (octaved o values es)
others_kept o table values es route fine track =
    let setup : ℕ → Setup = λ z. octave_setup o values (events_on z es) in
    let block : ℕ → Bool → MidiEvent → Block = λ z b e. dump_block (setup z) b e in
    let next : ℕ → Bool → MidiEvent → Bool = λ z b e. dump_next b (doing e.what) in
    let refused : (z : ℕ) → Refuses (is_other_untuned track) (setup z) =
    λ z e. sends_refused track e.tick e.track (setup z).dumps [] (all_tuning (has_note_on (is_part o) (events_on z es)) (octave_bytes (parts_number o
    (events_on z es)) values) refl) tt in
    ap (λ r. without_tuning r (other_events track (octaved o values es))) route
    ∙ ap (λ x. filter (λ (e : Timed). not (is_tuning_event e.what)) x) (other_by_test track (octaved o values es))
    ∙ filter_timed (λ e. not (is_tuning_event e.what)) (filter (is_other track) (octaved o values es))
    ∙ ap (map timed) (filter_twice (is_other track) (λ e. not (is_tuning_event e.what)) (octaved o values es))
    ∙ ap (λ l. map timed (filter (is_other_untuned track) l)) (as_translated block next all_zero 0 (λ z. false) es)
    ∙ ap (map timed) (passed (is_other_untuned track) (is_other track) (kept_block block) (kept_next next)
    (λ s e. dump_lets (is_other_untuned track) (setup (port_of s.ports e)) (refused (port_of s.ports e)) (s.kept (port_of s.ports e)) e)
    (record { ports = all_zero; kept = λ z. false }) es (all_untuned o table track es fine))
    ∙ sym (other_by_test track es)

drums_kept : (o : Options) (values : List ℕ) (es : List MidiEvent) → KeepsDrums o es (dump_output (octave_setup o values es) es)
drums_kept o values es keeps track =
    let s : Setup = octave_setup o values es in
    let refused : Refuses (is_drum_on track) s = λ e. sends_no_drums track e.tick e.track s.dumps [] tt in
    drums_by_test track (dump_output s es)
    ∙ ap (map timed) (passed (is_drum_on track) (is_drum_on track) (dump_block s) (λ b e. dump_next b (doing e.what)) (dump_lets (is_drum_on track) s
    refused) false es (every_same (is_drum_on track) es))
    ∙ sym (drums_by_test track es)

given : PitchLaws → NotesFade → WrittenIsRead → (scaling : Scaling) (o : Options) (table : Targets) (used : ℕ) (values : List ℕ) (es : List
    MidiEvent) → IsOctavable scaling o table used values es
    → Given scaling o table used values
given laws fade again scaling o table used values es h = record {
  serves = record {
    laws = laws;
    route = h.route;
    bounds = h.bounds;
    few_terms = h.few_terms;
    one_table = h.one_table;
    twelve = h.twelve;
    range = h.range;
    classes = h.classes;
    fit = h.fit;
  };
  again = again;
  fade = fade;
}

pub plays_the_same : PitchLaws → NotesFade → WrittenIsRead → OctavePlaysTheSame
plays_the_same laws fade again scaling o table used values es h = record {
  music = λ z. subst (PlaysTheSameMusic scaling o table octave_device (events_on z es)) (sym (octaved_on o values es z))
      (port_same scaling o table used values (events_on z es) (given laws fade again scaling o table used values es h) (port scaling o table used
      values es z h));
  others = others_kept o table values es h.route h.faultless;
  drums = λ z. subst (KeepsDrums o (events_on z es)) (sym (octaved_on o values es z)) (drums_kept o values (events_on z es));
}

pub file_plays_the_same : PitchLaws → NotesFade → WrittenIsRead → OctavedFilePlaysTheSame
file_plays_the_same laws fade again scaling o table used values source out shape is h = record {
  shape = shape;
  events = subst (λ x. PlayTheSame scaling o table octave_device (merged source) x) (sym is) (plays_the_same laws fade again scaling o table used
      values (merged source) h);
}
