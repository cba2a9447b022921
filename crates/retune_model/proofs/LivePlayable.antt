-- What the live route writes is playable like its source.
use Rattle.std.proofs.Common.{ℕ, zero, suc, ◌<◌, ◌≤◌, ◌^◌, List, [], ◌∷◌, Bool, true, false, cond, refl, sym, subst, length, arith, inl, ◌&&◌, not, nat_eq, Option, Some, None}
use Rattle.std.specs.List.{AllByRecursion}
use Rattle.mt_base.specs.declared.event.Msg.{Msg}
use Rattle.mt_base.specs.declared.event.Msg.TheVariants.{NoteOn, NoteOff, KeyPressure, Control, Program, Pressure, Bend}
use Rattle.mt_base.specs.Midi.{MidiWhat, Says, SysexOf, MetaOf, MidiEvent}
use Rattle.mt_base.specs.Valid.{IsValidEvent, IsValidWhat, IsValidMsg}
use Rattle.midi_model.specs.Sysex.{Retune, Plays, doing, is_reset, tuning_of, tunes, Resets, Nothing}
use Rattle.midi_model.specs.Merged.{IsPlayable}
use Rattle.retune_model.specs.Blocks.{Sends, Block, all_events}
use Rattle.retune_model.specs.Routes.{Live, Told, nothing_told, dump_before, change_due, live_before, live_next, live_block}
use Rattle.retune_model.specs.Options.{Options}
use Rattle.retune_model.specs.Dump.{live_setup, told_live}
use Rattle.retune_model.specs.Ports.{port_of, all_zero, events_on}
use Rattle.retune_model.proofs.Fronts.{all_append}
use Rattle.retune_model.proofs.Ported.{kept_block, kept_next, as_translated}
use Rattle.retune_model.proofs.Beside.{Beside, Stands, written_playable}
use Rattle.retune_model.proofs.DumpPlayable.{IsWritableSetup, all_groups, beside_before, beside_behind, none_behind, channels_below}

-- what a live setup has to be so that it can be written
record IsWritable (l : Live) : Type 0 where
  pub setup : IsWritableSetup l.setup
  pub change : (k : ℕ) → k < 128 → length (l.change k) < 2 ^ 28

beside_due : (l : Live) (s : Told) (e : MidiEvent) (msg : Msg) → IsWritable l → IsValidEvent e → IsValidMsg msg
    → AllByRecursion (λ x. Beside e x) (all_events (change_due l s e msg))
beside_due l s e (NoteOn c k zero) h v m = tt
beside_due l s e (NoteOn c k (suc u)) h v m = pick (l.is_retuned c && not (s.keys k))
  where
    pick : (b : Bool) → AllByRecursion (λ x. Beside e x) (all_events (cond b (Sends e.tick e.track (l.change k) ∷ []) []))
    pick true = (record { tick = refl; track = refl; not_end = refl; valid = record { tick = v.tick; what = (inl refl, h.change k (let low = m.1 in omega (arith, low))) } }, tt)
    pick false = tt
beside_due l s e (NoteOff c k u) h v m = tt
beside_due l s e (KeyPressure c k u) h v m = tt
beside_due l s e (Control c n u) h v m = tt
beside_due l s e (Program c p) h v m = tt
beside_due l s e (Pressure c u) h v m = tt
beside_due l s e (Bend c u) h v m = tt

before_live : (l : Live) (s : Told) (e : MidiEvent) (w : MidiWhat) → IsWritable l → IsValidEvent e → IsValidWhat w
    → AllByRecursion (λ x. Beside e x) (all_events (live_before l s e (doing w)))
before_live l s e (Says msg) h v m =
    subst (AllByRecursion (λ x. Beside e x)) (sym (all_groups (dump_before l.setup s.begun e (Plays msg)) (change_due l s e msg)))
    (all_append (λ x. Beside e x) (all_events (dump_before l.setup s.begun e (Plays msg))) (all_events (change_due l s e msg)) (beside_before l.setup s.begun e (Plays msg) h.setup v) (beside_due l s e msg h v m))
before_live l s e (SysexOf lead bytes) h v m = pick (nat_eq lead 0xf0) (is_reset bytes) (tuning_of bytes)
  where
    pick : (b c : Bool) (r : Option Retune) → AllByRecursion (λ x. Beside e x) (all_events (live_before l s e (cond b (cond c Resets (tunes r)) Nothing)))
    pick true true r = tt
    pick true false (Some r) = tt
    pick true false None = tt
    pick false c r = tt
before_live l s e (MetaOf kind bytes) h v m = tt

live_stands : (l : Live) → IsWritable l → (s : Told) (e : MidiEvent) → IsValidEvent e → Stands e (live_block l s e)
live_stands l h s e v = record {
  event = refl;
  before = before_live l s e e.what h v v.what;
  behind = beside_behind l.setup s.begun e (doing e.what) h.setup v;
  last = none_behind l.setup s.begun e e.what;
}

live_writable : (o : Options) (change : ℕ → List ℕ) (es : List MidiEvent) → ((k : ℕ) → k < 128 → length (change k) < 2 ^ 28)
    → o.program ≤ 127 → IsWritable (live_setup o change es)
live_writable o change es short low = record { setup = record { dumps = tt; channels = channels_below o es; program = low }; change = short }

pub told_playable : (tracks : ℕ) (o : Options) (change : ℕ → List ℕ) (es : List MidiEvent)
    → ((k : ℕ) → k < 128 → length (change k) < 2 ^ 28) → o.program ≤ 127
    → IsPlayable tracks es → IsPlayable tracks (told_live o change es)
told_playable tracks o change es short low h =
    let block : ℕ → Told → MidiEvent → Block = λ z s e. live_block (live_setup o change (events_on z es)) s e in
    let next : ℕ → Told → MidiEvent → Told = λ z s e. live_next (live_setup o change (events_on z es)) s (doing e.what) in
    subst (IsPlayable tracks) (sym (as_translated block next all_zero 0 (λ z. nothing_told) es))
    (written_playable (kept_block block) (kept_next next) (λ s e. let z : ℕ = port_of s.ports e in live_stands (live_setup o change (events_on z es)) (live_writable o change (events_on z es) short low) (s.kept z) e)
    tracks (record { ports = all_zero; kept = λ z. nothing_told }) es h)
