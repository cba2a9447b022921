-- What the program puts around an event is the block of its event.
use Rattle.std.proofs.Common.{◌≡◌, ℕ, zero, suc, List, [], ◌∷◌, ◌++◌, Bool, true, false, cond, not, ◌&&◌, map, nat_eq, Option, Some, None, refl, ap, sym, ◌∙◌}
use Rattle.std.specs.Option.{option_map}
use Rattle.std.proofs.lemmas.List.{append_assoc}
use Rattle.mt_base.specs.declared.event.Msg.{Msg}
use Rattle.mt_base.specs.declared.event.Msg.TheVariants.{NoteOn, NoteOff, KeyPressure, Control, Program, Pressure, Bend}
use Rattle.mt_base.specs.Midi.{MidiWhat, Says, SysexOf, MetaOf, MidiEvent}
use Rattle.midi_model.specs.Sysex.{Retune, Plays, Resets, Nothing, tunes, doing, is_reset, tuning_of}
use Rattle.midi_model.specs.TuningBytes.{select_of, change_bytes}
use Rattle.retune_model.specs.Blocks.{Group, Sends, all_events, events_of, says}
use Rattle.retune_model.specs.Blocks as blocks
use Rattle.retune_model.specs.Routes.{Setup, Live, Told, sends, selects, setup_at, dump_before, dump_behind, change_due, live_before, live_block}
use Rattle.routes.specs.declared.device.Device.{Device}
use Rattle.routes.specs.Putting.{said_at, sent_at}
use Rattle.routes.specs.Device.{channels_in, selections, dumps_of, setup_if, changes_in, is_first, resets_all, block_events}
use Rattle.routes.specs.Kept.{key_begun, due_if}

-- what the program has of a setup is that setup
pub record Suits (d : Device) (mask : ℕ) (s : Setup) : Type 0 where
  pub dumps : dumps_of d mask ≡ s.dumps
  pub channels : channels_in mask ≡ s.channels
  pub program : d.program ≡ s.program

-- ---- groups as events

pub all_append : (xs ys : List Group) → all_events (xs ++ ys) ≡ all_events xs ++ all_events ys
all_append [] ys = refl
all_append (x ∷ xs) ys = ap (λ l. events_of x ++ l) (all_append xs ys) ∙ sym (append_assoc (events_of x) (all_events xs) (all_events ys))

sends_same : (e : MidiEvent) (bs : List (List ℕ)) → sent_at e bs ≡ all_events (sends e.tick e.track bs)
sends_same e [] = refl
sends_same e (b ∷ bs) = ap (λ l. record { tick = e.tick; track = e.track; what = SysexOf 240 b } ∷ l) (sends_same e bs)

said_append : (e : MidiEvent) (xs ys : List Msg) → said_at e (xs ++ ys) ≡ said_at e xs ++ said_at e ys
said_append e [] ys = refl
said_append e (x ∷ xs) ys = ap (λ l. record { tick = e.tick; track = e.track; what = Says x } ∷ l) (said_append e xs ys)

said_same : (e : MidiEvent) (ms : List Msg) → said_at e ms ≡ map (says e.tick e.track) ms
said_same e [] = refl
said_same e (m ∷ ms) = ap (λ l. says e.tick e.track m ∷ l) (said_same e ms)

selects_same : (e : MidiEvent) (p : ℕ) (cs : List ℕ) → said_at e (selections p cs) ≡ all_events (selects e.tick e.track p cs)
selects_same e p [] = refl
selects_same e p (c ∷ cs) =
    said_append e (select_of c p) (selections p cs)
    ∙ ap (λ l. said_at e (select_of c p) ++ l) (selects_same e p cs)
    ∙ ap (λ l. l ++ all_events (selects e.tick e.track p cs)) (said_same e (select_of c p))

setup_same : (d : Device) (mask : ℕ) (s : Setup) (e : MidiEvent) → Suits d mask s → setup_if true d mask e ≡ all_events (setup_at s e)
setup_same d mask s e h =
    ap (λ bs. sent_at e bs ++ said_at e (selections d.program (channels_in mask))) h.dumps
    ∙ ap (λ cs. sent_at e s.dumps ++ said_at e (selections d.program cs)) h.channels
    ∙ ap (λ p. sent_at e s.dumps ++ said_at e (selections p s.channels)) h.program
    ∙ ap (λ l. l ++ said_at e (selections s.program s.channels)) (sends_same e s.dumps)
    ∙ ap (λ l. all_events (sends e.tick e.track s.dumps) ++ l) (selects_same e s.program s.channels)
    ∙ sym (all_append (sends e.tick e.track s.dumps) (selects e.tick e.track s.program s.channels))

-- ---- the setup before and behind

before_other : (d : Device) (mask : ℕ) (s : Setup) (b : Bool) → setup_if (not b && false) d mask ≡ (λ e. [])
before_other d mask s true = refl
before_other d mask s false = refl

before_plays : (d : Device) (mask : ℕ) (s : Setup) (b : Bool) (e : MidiEvent) (m : Msg) → Suits d mask s
    → setup_if (not b && true) d mask e ≡ all_events (dump_before s b e (Plays m))
before_plays d mask s true e m h = refl
before_plays d mask s false e m h = setup_same d mask s e h

behind_other : (d : Device) (mask : ℕ) (s : Setup) (b : Bool) (e : MidiEvent) (leads reset : Bool) (r : Option Retune) → Suits d mask s
    → setup_if (b && (leads && reset)) d mask e ≡ all_events (dump_behind s b e (cond leads (cond reset Resets (tunes r)) Nothing))
behind_other d mask s true e false reset r h = refl
behind_other d mask s true e true true r h = setup_same d mask s e h
behind_other d mask s true e true false None h = refl
behind_other d mask s true e true false (Some x) h = refl
behind_other d mask s false e false reset r h = refl
behind_other d mask s false e true true r h = refl
behind_other d mask s false e true false None h = refl
behind_other d mask s false e true false (Some x) h = refl

behind_same : (d : Device) (mask : ℕ) (s : Setup) (b : Bool) (e : MidiEvent) (w : MidiWhat) → Suits d mask s
    → setup_if (b && resets_all w) d mask e ≡ all_events (dump_behind s b e (doing w))
behind_same d mask s true e (Says m) h = refl
behind_same d mask s false e (Says m) h = refl
behind_same d mask s b e (SysexOf lead bytes) h = behind_other d mask s b e (nat_eq lead 240) (is_reset bytes) (tuning_of bytes) h
behind_same d mask s true e (MetaOf kind bytes) h = refl
behind_same d mask s false e (MetaOf kind bytes) h = refl

-- ---- the change before

abbrev valued : (ℕ → ℕ) → Option ℕ → Option (ℕ × ℕ)
valued f key = option_map (λ k. (k, f k)) key

due_note : (l : Live) (s : Told) (e : MidiEvent) (f : ℕ → ℕ) (p k : ℕ) (part told : Bool) → l.change k ≡ change_bytes p k (f k) → s.keys k ≡ told
    → sent_at e (changes_in p (due_if s.keys (valued f (cond part (Some k) None))))
    ≡ all_events (cond (part && not told) (Sends e.tick e.track (l.change k) ∷ []) [])
due_note l s e f p k false told is t = refl
due_note l s e f p k true true is t = rw t refl
due_note l s e f p k true false is t = rw t (ap (λ bytes. record { tick = e.tick; track = e.track; what = SysexOf 240 bytes } ∷ []) (sym is))

due_same : (l : Live) (s : Told) (e : MidiEvent) (f : ℕ → ℕ) (p : ℕ) (m : Msg) → ((k : ℕ) → l.change k ≡ change_bytes p k (f k))
    → sent_at e (changes_in p (due_if s.keys (valued f (key_begun l.is_retuned (Says m))))) ≡ all_events (change_due l s e m)
due_same l s e f p (NoteOn c k zero) is = refl
due_same l s e f p (NoteOn c k (suc v)) is = due_note l s e f p k (l.is_retuned c) (s.keys k) (is k) refl
due_same l s e f p (NoteOff c k v) is = refl
due_same l s e f p (KeyPressure c k v) is = refl
due_same l s e f p (Control c k v) is = refl
due_same l s e f p (Program c v) is = refl
due_same l s e f p (Pressure c v) is = refl
due_same l s e f p (Bend c v) is = refl

-- ---- the block

abbrev due_at : Live → Told → (ℕ → ℕ) → MidiWhat → Option (ℕ × ℕ)
due_at l s f w = due_if s.keys (valued f (key_begun l.is_retuned w))

before_same : (d : Device) (mask : ℕ) (l : Live) (s : Told) (e : MidiEvent) (f : ℕ → ℕ) (w : MidiWhat) → Suits d mask l.setup
    → ((k : ℕ) → l.change k ≡ change_bytes d.program k (f k))
    → setup_if (is_first s.begun w) d mask e ++ sent_at e (changes_in d.program (due_at l s f w)) ≡ all_events (live_before l s e (doing w))
before_same d mask l s e f (Says m) h is =
    ap (λ xs. xs ++ sent_at e (changes_in d.program (due_at l s f (Says m)))) (before_plays d mask l.setup s.begun e m h)
    ∙ ap (λ xs. all_events (dump_before l.setup s.begun e (Plays m)) ++ xs) (due_same l s e f d.program m is)
    ∙ sym (all_append (dump_before l.setup s.begun e (Plays m)) (change_due l s e m))
before_same d mask l s e f (SysexOf lead bytes) h is =
    ap (λ g. g e ++ []) (before_other d mask l.setup s.begun) ∙ none (nat_eq lead 240) (is_reset bytes) (tuning_of bytes)
  where
    none : (leads reset : Bool) (r : Option Retune) → [] ≡ all_events (live_before l s e (cond leads (cond reset Resets (tunes r)) Nothing))
    none false reset r = refl
    none true true r = refl
    none true false None = refl
    none true false (Some x) = refl
before_same d mask l s e f (MetaOf kind bytes) h is = ap (λ g. g e ++ []) (before_other d mask l.setup s.begun)

pub block_same : (d : Device) (mask : ℕ) (l : Live) (s : Told) (e : MidiEvent) (f : ℕ → ℕ) → Suits d mask l.setup
    → ((k : ℕ) → l.change k ≡ change_bytes d.program k (f k))
    → block_events d mask s.begun (due_at l s f e.what) e ≡ blocks.written (live_block l s e)
block_same d mask l s e f h is =
    let first = setup_if (is_first s.begun e.what) d mask e in
    let change = sent_at e (changes_in d.program (due_at l s f e.what)) in
    let again = setup_if (s.begun && resets_all e.what) d mask e in
    sym (append_assoc first change (e ∷ again))
    ∙ ap (λ xs. xs ++ e ∷ again) (before_same d mask l s e f e.what h is)
    ∙ ap (λ xs. all_events (live_before l s e (doing e.what)) ++ e ∷ xs) (behind_same d mask l.setup s.begun e e.what h)
