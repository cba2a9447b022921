-- What the dump route writes is playable like its source.
use Rattle.std.proofs.Common.{◌≡◌, ℕ, zero, suc, ◌+◌, ◌<◌, ◌≤◌, ◌^◌, List, [], ◌∷◌, ◌++◌, Bool, true, false, refl, sym, ap, subst, ◌∙◌, length, arith, inl, ◌&&◌, nat_eq}
use Rattle.std.specs.List.{AllByRecursion}
use Rattle.std.proofs.lemmas.List.{append_assoc}
use Rattle.mt_base.specs.Midi.{MidiWhat, Says, SysexOf, MetaOf, MidiEvent, is_end}
use Rattle.mt_base.specs.Valid.{IsValidEvent}
use Rattle.mt_base.specs.declared.event.Msg.TheVariants.{Control}
use Rattle.midi_model.specs.Sysex.{Doing, Plays, Resets, Tunes, Nothing, doing, is_reset}
use Rattle.midi_model.specs.Merged.{IsPlayable}
use Rattle.retune_model.specs.Blocks.{Group, Block, all_events, events_of}
use Rattle.retune_model.specs.Routes.{Setup, IsHarmless, sends, selects, setup_at, dump_before, dump_behind, dump_next, dump_block}
use Rattle.retune_model.specs.Options.{Options}
use Rattle.retune_model.specs.Faults.{is_part}
use Rattle.retune_model.specs.Dump.{has_note_on, from_up, parts_with_notes, dump_if, dump_setup, dumped}
use Rattle.retune_model.specs.Ports.{port_of, all_zero, events_on}
use Rattle.retune_model.proofs.Fronts.{all_append}
use Rattle.retune_model.proofs.Ported.{kept_block, kept_next, as_translated}
use Rattle.retune_model.proofs.Beside.{Beside, Stands, written_playable, filter_each}

pub all_groups : (xs ys : List Group) → all_events (xs ++ ys) ≡ all_events xs ++ all_events ys
all_groups [] ys = refl
all_groups (x ∷ xs) ys = ap (λ l. events_of x ++ l) (all_groups xs ys) ∙ sym (append_assoc (events_of x) (all_events xs) (all_events ys))

-- what a setup has to be so that it can be written
pub record IsWritableSetup (s : Setup) : Type 0 where
  pub dumps : AllByRecursion (λ b. length b < 2 ^ 28) s.dumps
  pub channels : AllByRecursion (λ c. c < 16) s.channels
  pub program : s.program ≤ 127

beside_sends : (e : MidiEvent) (bs : List (List ℕ)) → IsValidEvent e → AllByRecursion (λ b. length b < 2 ^ 28) bs → AllByRecursion (λ x. Beside e x) (all_events (sends e.tick e.track bs))
beside_sends e [] v h = tt
beside_sends e (b ∷ bs) v h = (record { tick = refl; track = refl; not_end = refl; valid = record { tick = v.tick; what = (inl refl, h.0) } }, beside_sends e bs v h.1)

beside_control : (e : MidiEvent) (c n v : ℕ) → IsValidEvent e → c < 16 → n ≤ 127 → v ≤ 127 → Beside e (record { tick = e.tick; track = e.track; what = Says (Control c n v) })
beside_control e c n v ok low a b = record { tick = refl; track = refl; not_end = refl; valid = record { tick = ok.tick; what = (omega (arith, low), a, b) } }

beside_selects : (e : MidiEvent) (p : ℕ) (cs : List ℕ) → IsValidEvent e → p ≤ 127 → AllByRecursion (λ c. c < 16) cs → AllByRecursion (λ x. Beside e x) (all_events (selects e.tick e.track p cs))
beside_selects e p [] v low h = tt
beside_selects e p (c ∷ cs) v low h = (
  beside_control e c 101 0 v h.0 (omega arith) (omega arith),
  (
    beside_control e c 100 3 v h.0 (omega arith) (omega arith),
    (
      beside_control e c 6 p v h.0 (omega arith) low,
      (
        beside_control e c 101 127 v h.0 (omega arith) (omega arith),
        (beside_control e c 100 127 v h.0 (omega arith) (omega arith), beside_selects e p cs v low h.1),
      ),
    ),
  ),
)

beside_setup : (s : Setup) (e : MidiEvent) → IsWritableSetup s → IsValidEvent e → AllByRecursion (λ x. Beside e x) (all_events (setup_at s e))
beside_setup s e h v =
    subst (λ l. AllByRecursion (λ x. Beside e x) l) (sym (all_groups (sends e.tick e.track s.dumps) (selects e.tick e.track s.program s.channels)))
    (all_append (λ x. Beside e x) (all_events (sends e.tick e.track s.dumps)) (all_events (selects e.tick e.track s.program s.channels))
    (beside_sends e s.dumps v h.dumps) (beside_selects e s.program s.channels v h.program h.channels))

pub beside_before : (s : Setup) (b : Bool) (e : MidiEvent) (d : Doing) → IsWritableSetup s → IsValidEvent e → AllByRecursion (λ x. Beside e x) (all_events (dump_before s b e d))
beside_before s false e (Plays msg) h v = beside_setup s e h v
beside_before s false e Resets h v = tt
beside_before s false e (Tunes x) h v = tt
beside_before s false e Nothing h v = tt
beside_before s true e (Plays msg) h v = tt
beside_before s true e Resets h v = tt
beside_before s true e (Tunes x) h v = tt
beside_before s true e Nothing h v = tt

pub beside_behind : (s : Setup) (b : Bool) (e : MidiEvent) (d : Doing) → IsWritableSetup s → IsValidEvent e → AllByRecursion (λ x. Beside e x) (all_events (dump_behind s b e d))
beside_behind s false e (Plays msg) h v = tt
beside_behind s false e Resets h v = tt
beside_behind s false e (Tunes x) h v = tt
beside_behind s false e Nothing h v = tt
beside_behind s true e (Plays msg) h v = tt
beside_behind s true e Resets h v = beside_setup s e h v
beside_behind s true e (Tunes x) h v = tt
beside_behind s true e Nothing h v = tt

pub none_behind : (s : Setup) (b : Bool) (e : MidiEvent) (w : MidiWhat) → is_end w ≡ true → all_events (dump_behind s b e (doing w)) ≡ []
none_behind s b e (Says m) h = absurd cc
none_behind s b e (SysexOf lead bytes) h = absurd cc
none_behind s true e (MetaOf kind bytes) h = refl
none_behind s false e (MetaOf kind bytes) h = refl

dump_stands : (s : Setup) → IsWritableSetup s → (b : Bool) (e : MidiEvent) → IsValidEvent e → Stands e (dump_block s b e)
dump_stands s h b e v = record {
  event = refl;
  before = beside_before s b e (doing e.what) h v;
  behind = beside_behind s b e (doing e.what) h v;
  last = none_behind s b e e.what;
}

-- the channels of a setup
up_below : (c n k : ℕ) → c + n ≤ k → AllByRecursion (λ x. x < k) (from_up c n)
up_below c zero k h = tt
up_below c (suc n) k h = (omega (arith, h), up_below (c + 1) n k (omega (arith, h)))

pub channels_below : (o : Options) (es : List MidiEvent) → AllByRecursion (λ c. c < 16) (parts_with_notes o es)
channels_below o es = filter_each (λ c. is_part o c && has_note_on (λ d. nat_eq d c) es) (λ c. c < 16) (from_up 0 16) (up_below 0 16 16 (omega arith))

each_dump : (P : List ℕ → Type 0) (b : Bool) (bytes : List ℕ) → P bytes → AllByRecursion P (dump_if b bytes)
each_dump P true bytes h = (h, tt)
each_dump P false bytes h = tt

pub dump_writable : (o : Options) (bytes : List ℕ) (es : List MidiEvent) → length bytes < 2 ^ 28 → o.program ≤ 127 → IsWritableSetup (dump_setup o bytes es)
dump_writable o bytes es long low = record {
  dumps = each_dump (λ b. length b < 2 ^ 28) (has_note_on (is_part o) es) bytes long;
  channels = channels_below o es;
  program = low;
}

pub dump_harmless : (o : Options) (bytes : List ℕ) (es : List MidiEvent) → is_reset bytes ≡ false → IsHarmless (dump_setup o bytes es)
dump_harmless o bytes es h = record {
  dumps = each_dump (λ b. is_reset b ≡ false) (has_note_on (is_part o) es) bytes h;
  channels = channels_below o es;
}

pub dumped_playable : (tracks : ℕ) (o : Options) (bytes : List ℕ) (es : List MidiEvent) → length bytes < 2 ^ 28 → o.program ≤ 127 → IsPlayable tracks es → IsPlayable tracks (dumped o bytes es)
dumped_playable tracks o bytes es long low h =
    let block : ℕ → Bool → MidiEvent → Block = λ z b e. dump_block (dump_setup o bytes (events_on z es)) b e in
    let next : ℕ → Bool → MidiEvent → Bool = λ z b e. dump_next b (doing e.what) in
    subst (IsPlayable tracks) (sym (as_translated block next all_zero 0 (λ z. false) es))
    (written_playable (kept_block block) (kept_next next) (λ s e. let z : ℕ = port_of s.ports e in dump_stands (dump_setup o bytes (events_on z es)) (dump_writable o bytes (events_on z es) long low) (s.kept z) e)
    tracks (record { ports = all_zero; kept = λ z. false }) es h)
