-- The octave route's output can be written as a file like its source, and is short enough for its chunks.
use Rattle.std.proofs.Common.{◌≡◌, ◌<◌, ◌^◌, ℕ, List, [], ◌∷◌, Bool, true, false, length, refl, sym, subst, arith, length-append}
use Rattle.std.specs.List.{AllByRecursion, flat_map}
use Rattle.mt_base.specs.Midi.{MidiEvent}
use Rattle.mt_base.specs.Valid.{IsValidEvent}
use Rattle.midi_model.specs.Merged.{merged, IsPlayable}
use Rattle.midi_model.specs.Sysex.{doing}
use Rattle.retune_model.specs.Options.{Options}
use Rattle.retune_model.specs.Faults.{is_part}
use Rattle.retune_model.specs.Ports.{all_zero, port_of, events_on}
use Rattle.retune_model.specs.Blocks.{Block, written}
use Rattle.retune_model.specs.Routes.{Setup, dump_block, dump_next}
use Rattle.retune_model.specs.Dump.{has_note_on, dump_if}
use Rattle.retune_model.proofs.Beside.{Stands, written_playable}
use Rattle.retune_model.proofs.DumpPlayable.{IsWritableSetup, beside_before, beside_behind, none_behind}
use Rattle.retune_model.proofs.Ported.{kept_block, kept_next, as_translated}
use Rattle.routes.proofs.Premises.{ShortLaws}
use Rattle.routes.proofs.Sizes.{IsShortSetup, one_if, each_if, dump_most, block_most, through_most, source_most, all_short}
use Rattle.octave_route.specs.Messages.{two_bytes, octave_bytes}
use Rattle.octave_route.specs.Output.{parts_number, octave_setup, octaved}
use Rattle.octave_route.specs.Laws.{OctavedIsPlayable, OctavedAddsFewBytes, OctavedTracksAreShort}
use Rattle.octave_route.proofs.Values.{values_length}

octave_length : (n : ℕ) (values : List ℕ) → length values ≡ 12 → length (octave_bytes n values) ≡ 32
octave_length n values all =
    let flat = flat_map two_bytes values in
    omega (arith, all, values_length values, length-append flat (0xf7 ∷ []))

-- ---- playable

each_dump : (b : Bool) (bytes : List ℕ) → length bytes < 2 ^ 28 → AllByRecursion (λ x. length x < 2 ^ 28) (dump_if b bytes)
each_dump true bytes h = (h, tt)
each_dump false bytes h = tt

writable : (o : Options) (values : List ℕ) (es : List MidiEvent) → length values ≡ 12 → IsWritableSetup (octave_setup o values es)
writable o values es all = record {
  dumps = each_dump (has_note_on (is_part o) es) (octave_bytes (parts_number o es) values) (omega (
    arith,
    octave_length (parts_number o es) values
        all,
  ));
  channels = tt;
  program = omega arith;
}

stands : (s : Setup) → IsWritableSetup s → (b : Bool) (e : MidiEvent) → IsValidEvent e → Stands e (dump_block s b e)
stands s h b e valid = record {
  event = refl;
  before = beside_before s b e (doing e.what) h valid;
  behind = beside_behind s b e (doing e.what) h valid;
  last = none_behind s b e e.what;
}

pub is_playable : OctavedIsPlayable
is_playable tracks o values es all h =
    let block : ℕ → Bool → MidiEvent → Block = λ z b e. dump_block (octave_setup o values (events_on z es)) b e in
    let next : ℕ → Bool → MidiEvent → Bool = λ z b e. dump_next b (doing e.what) in
    subst (IsPlayable tracks) (sym (as_translated block next all_zero 0 (λ z. false) es))
    (written_playable (kept_block block) (kept_next next)
    (λ s e. let z : ℕ = port_of s.ports e in stands (octave_setup o values (events_on z es)) (writable o values (events_on z es) all) (s.kept z) e)
    tracks (record { ports = all_zero; kept = λ z. false }) es h)

-- ---- short

short_setup : (o : Options) (values : List ℕ) (es : List MidiEvent) → length values ≡ 12 → IsShortSetup (octave_setup o values es)
short_setup o values es all = record {
  one_dump = one_if (has_note_on (is_part o) es) (octave_bytes (parts_number o es) values);
  dumps = each_if (has_note_on (is_part o) es) (octave_bytes (parts_number o es) values) (omega (
    arith,
    octave_length (parts_number o es) values
        all,
  ));
  channels = omega arith;
}

pub adds_few : OctavedAddsFewBytes
adds_few o values es t all = through_most t
    (λ z b n. written (dump_block (octave_setup o values (events_on z es)) b n.event)) (λ z b n. dump_next b (doing n.event.what))
    (λ z b n. let s = octave_setup o values (events_on z es) in
    block_most t (dump_block s b n.event) (omega (arith, dump_most s b n.event (doing n.event.what) (short_setup o values (events_on z es) all))))
    all_zero 0 (λ z. false) es

pub short : ShortLaws → OctavedTracksAreShort
short laws bytes file o values all is few = all_short laws.within_most 0 (length file.tracks) (octaved o values (merged file)) (λ t lt.
    let source = source_most laws bytes file is few t in
    let put = adds_few o values (merged file) t all in
    omega (arith, source, put, few, laws.few_events bytes file is))
