-- The notes of a port, position by position, are a timeline.
use Rattle.std.proofs.Common.{◌≡◌, ◌≤◌, ℕ, zero, suc, List, [], ◌∷◌, Bool, true, false, cond, ◌||◌, Option, Some, None, refl, ap, sym, ◌∙◌, subst, map, arith, inl, inr, nat_eq}
use Rattle.std.specs.Prelude.{is_some}
use Rattle.std.specs.List.{AllByRecursion, filter}
use Rattle.std.proofs.lemmas.Bool.{or_cases, cond-true}
use Rattle.mt_base.specs.Midi.{MidiWhat, Says, SysexOf, MetaOf, MidiEvent}
use Rattle.mt_base.specs.declared.event.Msg.{Msg}
use Rattle.mt_base.specs.declared.event.Msg.TheVariants.{NoteOn, NoteOff, KeyPressure, Control, Program, Pressure, Bend}
use Rattle.midi_model.specs.Sysex.{Retune, tunes, tuning_of, is_reset, Doing, Plays, Resets, Tunes, Nothing, doing}
use Rattle.midi_model.specs.Notes.{Note, sounds, ending}
use Rattle.midi_model.specs.Music.{Music, quiet, begun, advance, step, play}
use Rattle.midi_model.specs.MusicLaws.{begun_by, Ages, EndsBy, Grows, NotesAge}
use Rattle.retune_model.specs.Options.{Options}
use Rattle.retune_model.specs.PlaysTheSame.{bend_target_if}
use Rattle.retune_model.specs.Faults.{Targets, target_of}
use Rattle.retune_model.specs.Ports.{Numbered, music_at, resets, is_reset_at, event_at, Ascend, PortEvents, AreTimed}
use Rattle.retune_model.specs.Pairs.{pair_if, pairs_of}
use Rattle.retune_model.specs.Rests.{notes_at, begun_pair, begun_pairs, begun_at, is_aimed, AreAimed}
use Rattle.retune_model.proofs.Events.{none_yet, Short, short_at, all_at, any_resets, reset_at, music_next}
use Rattle.retune_model.proofs.Timeline.{AtMostOne, Timeline}

-- the events of a port with their times, and what the law of music says of ends
pub record Timely (port : PortEvents) : Type 0 where
  pub ascend : Ascend 0 port.events
  pub ticks : AllByRecursion (λ n. n.event.tick ≡ port.tick n.position) port.events
  pub order : (k : ℕ) → port.tick k ≤ port.tick (suc k)
  pub age : NotesAge

pub timely : NotesAge → (port : PortEvents) → AreTimed port → Timely port
timely age port h = record { ascend = h.ascend; ticks = h.ticks; order = h.order; age = age }

-- ---- notes of some channels alone
ends_same : (t : ℕ) (e : Option ℕ) → EndsBy t e e
ends_same t None = tt
ends_same t (Some e) = refl

pub ages_same : (t : ℕ) (n : Note) → Ages t n n
ages_same t n = record { channel = refl; key = refl; onset = refl; ended = ends_same t n.ended }

grows_same : (t : ℕ) (ns : List Note) → Grows t [] ns ns
grows_same t [] = refl
grows_same t (n ∷ ns) = (ages_same t n, grows_same t ns)

abbrev pub chosen : (ℕ → Bool) → List Note → List Note
chosen p ns = filter (λ n. p n.channel) ns

grows_chosen : (p : ℕ → Bool) (t : ℕ) (b ns xs : List Note) → Grows t b ns xs → Grows t (chosen p b) (chosen p ns) (chosen p xs)
grows_chosen p t b [] xs g = ap (chosen p) g
grows_chosen p t b (n ∷ ns) [] g = absurd g
grows_chosen p t b (n ∷ ns) (x ∷ xs) g = pick (p n.channel) (p x.channel) (ap p g.0.channel) (grows_chosen p t b ns xs g.1)
  where
    pick : (a c : Bool) → c ≡ a → Grows t (chosen p b) (chosen p ns) (chosen p xs) → Grows t (chosen p b) (cond a (n ∷ chosen p ns) (chosen p ns)) (cond c (x ∷ chosen p xs) (chosen p xs))
    pick true true e r = (g.0, r)
    pick false false e r = r
    pick true false e r = absurd cc
    pick false true e r = absurd cc

all_chosen : (p : ℕ → Bool) (P : Note → Type 0) (ns : List Note) → AllByRecursion P ns → AllByRecursion P (chosen p ns)
all_chosen p P [] h = tt
all_chosen p P (n ∷ ns) h = pick (p n.channel) (all_chosen p P ns h.1)
  where
    pick : (a : Bool) → AllByRecursion P (chosen p ns) → AllByRecursion P (cond a (n ∷ chosen p ns) (chosen p ns))
    pick true r = (h.0, r)
    pick false r = r

-- ---- what one event begins
abbrev pub begun_notes : (ℕ → Bool) → Music → List MidiEvent → List Note
begun_notes p m [] = []
begun_notes p m (e ∷ es) = chosen p (begun_by m e.tick (doing e.what))

sysex_begins_none : (p : ℕ → Bool) (m : Music) (t : ℕ) (a b : Bool) (x : Option Retune) → chosen p (begun_by m t (cond a (cond b Resets (tunes x)) Nothing)) ≡ []
sysex_begins_none p m t false b x = refl
sysex_begins_none p m t true true x = refl
sysex_begins_none p m t true false None = refl
sysex_begins_none p m t true false (Some r) = refl

-- its note is none, or the one of a note on of such a channel
pub data BeginsAs (p : ℕ → Bool) (m : Music) (t : ℕ) (w : MidiWhat) (bs : List Note) : Type 0 where
  Begins : (c k v : ℕ) → w ≡ Says (NoteOn c k (suc v)) → p c ≡ true → bs ≡ begun m t c k (suc v) ∷ [] → BeginsAs p m t w bs
  BeginsNone : bs ≡ [] → BeginsAs p m t w bs

begins_message : (p : ℕ → Bool) (m : Music) (t : ℕ) (msg : Msg) → BeginsAs p m t (Says msg) (chosen p (begun_by m t (Plays msg)))
begins_message p m t (NoteOn c k zero) = BeginsNone refl
begins_message p m t (NoteOn c k (suc v)) = pick (p c) refl
  where
    pick : (a : Bool) → p c ≡ a → BeginsAs p m t (Says (NoteOn c k (suc v))) (cond a (begun m t c k (suc v) ∷ []) [])
    pick true e = Begins c k v refl e refl
    pick false e = BeginsNone refl
begins_message p m t (NoteOff c k v) = BeginsNone refl
begins_message p m t (KeyPressure c k v) = BeginsNone refl
begins_message p m t (Control c n v) = BeginsNone refl
begins_message p m t (Program c q) = BeginsNone refl
begins_message p m t (Pressure c v) = BeginsNone refl
begins_message p m t (Bend c v) = BeginsNone refl

begins_as : (p : ℕ → Bool) (m : Music) (t : ℕ) (w : MidiWhat) → BeginsAs p m t w (chosen p (begun_by m t (doing w)))
begins_as p m t (Says msg) = begins_message p m t msg
begins_as p m t (SysexOf lead bytes) = BeginsNone (sysex_begins_none p m t (nat_eq lead 240) (is_reset bytes) (tuning_of bytes))
begins_as p m t (MetaOf kind bytes) = BeginsNone refl

one_begun : (p : ℕ → Bool) (m : Music) (es : List MidiEvent) → AtMostOne (begun_notes p m es)
one_begun p m [] = tt
one_begun p m (e ∷ es) = pick (chosen p (begun_by m e.tick (doing e.what))) (begins_as p m e.tick e.what)
  where
    pick : (bs : List Note) → BeginsAs p m e.tick e.what bs → AtMostOne bs
    pick bs (Begins c k v is such same) = subst AtMostOne (sym same) refl
    pick bs (BeginsNone same) = subst AtMostOne (sym same) tt

-- ---- a reset
reset_is : (d : Doing) → resets d ≡ true → d ≡ Resets
reset_is Resets h = refl
reset_is (Plays msg) h = absurd cc
reset_is (Tunes r) h = absurd cc
reset_is Nothing h = absurd cc

ended_silent : (t : ℕ) (n : Note) → sounds (ending t n) ≡ false
ended_silent t n = by_end n.ended
  where
    by_end : (e : Option ℕ) → (let x : Note = record n { ended = e } in sounds (ending t x) ≡ false)
    by_end None = refl
    by_end (Some x) = refl

all_silent : (t : ℕ) (ns : List Note) → AllByRecursion (λ n. sounds n ≡ false) (map (ending t) ns)
all_silent t [] = tt
all_silent t (n ∷ ns) = (ended_silent t n, all_silent t ns)

reset_event : (e : MidiEvent) → (resets (doing e.what) || false) ≡ true → doing e.what ≡ Resets
reset_event e h = elim (or_cases (resets (doing e.what)) false h) [
  | inl r ↦ reset_is (doing e.what) r
  | inr r ↦ absurd cc
]

none_begun : (p : ℕ → Bool) (m : Music) (es : List MidiEvent) → Short es → any_resets es ≡ true → begun_notes p m es ≡ []
none_begun p m [] s h = refl
none_begun p m (e ∷ []) s h = ap (λ d. chosen p (begun_by m e.tick d)) (reset_event e h)
none_begun p m (e ∷ f ∷ es) s h = absurd s

silenced : (p : ℕ → Bool) (m : Music) (es : List MidiEvent) → Short es → any_resets es ≡ true → AllByRecursion (λ n. sounds n ≡ false) (chosen p (play m es).notes)
silenced p m [] s h = absurd cc
silenced p m (e ∷ []) s h = subst (λ d. AllByRecursion (λ n. sounds n ≡ false) (chosen p (advance e.tick d m).notes)) (sym (reset_event e h)) (all_chosen p (λ n. sounds n ≡ false) (map (ending e.tick) m.notes) (all_silent e.tick m.notes))
silenced p m (e ∷ f ∷ es) s h = absurd s

grown : NotesAge → (p : ℕ → Bool) (t : ℕ) (m : Music) (es : List MidiEvent) → Short es → AllByRecursion (λ e. e.tick ≡ t) es → Grows t (begun_notes p m es) (chosen p m.notes) (chosen p (play m es).notes)
grown age p t m [] s h = grows_same t (chosen p m.notes)
grown age p t m (e ∷ []) s h = subst (λ u. Grows u (chosen p (begun_by m e.tick (doing e.what))) (chosen p m.notes) (chosen p (step m e).notes)) h.0
    (grows_chosen p e.tick (begun_by m e.tick (doing e.what)) m.notes (step m e).notes (age m e.tick (doing e.what)))
grown age p t m (e ∷ f ∷ es) s h = absurd s

-- ---- all positions
abbrev pub begun_to : (ℕ → Bool) → List Numbered → ℕ → List Note
begun_to part ns zero = []
begun_to part ns (suc k) = begun_notes part (music_at ns k) (event_at ns (suc k))

pub timeline : (part : ℕ → Bool) (port : PortEvents) → Timely port → Timeline (notes_at part port.events) port.tick (is_reset_at port.events) (begun_to part port.events)
timeline part port timed =
    let p : ℕ → Bool = part in
    let next : (k : ℕ) → music_at port.events (suc k) ≡ play (music_at port.events k) (event_at port.events (suc k)) = λ k. music_next 0 k port.events timed.ascend in
    let short : (k : ℕ) → Short (event_at port.events (suc k)) = λ k. short_at 0 (suc k) port.events timed.ascend in
    let resets_at : (k : ℕ) → is_reset_at port.events (suc k) ≡ true → any_resets (event_at port.events (suc k)) ≡ true = λ k h. sym (reset_at (suc k) port.events) ∙ h in
    record {
      none = ap (λ es. chosen p (play quiet es).notes) (none_yet 0 0 port.events timed.ascend (omega arith));
      grows = λ k. subst (λ (m : Music). Grows (port.tick (suc k)) (begun_notes p (music_at port.events k) (event_at port.events (suc k))) (notes_at part port.events k) (chosen p m.notes)) (sym (next k))
          (grown timed.age p (port.tick (suc k)) (music_at port.events k) (event_at port.events (suc k)) (short k) (all_at (λ n. n.event.tick ≡ port.tick n.position) (λ e. e.tick ≡ port.tick (suc k)) (suc k) (λ n e h. h ∙ ap port.tick e) port.events timed.ticks));
      one = λ k. one_begun p (music_at port.events k) (event_at port.events (suc k));
      silenced = λ k h. subst (λ (m : Music). AllByRecursion (λ n. sounds n ≡ false) (chosen p m.notes)) (sym (next k)) (silenced p (music_at port.events k) (event_at port.events (suc k)) (short k) (resets_at k h));
      not_then = λ k h. none_begun p (music_at port.events k) (event_at port.events (suc k)) (short k) (resets_at k h);
      order = timed.order;
    }

-- ---- the pair of the note that begins
pairs_begun : (z : ℕ) (o : Options) (part : ℕ → Bool) (table : Targets) (m : Music) (es : List MidiEvent) → pairs_of z o table (begun_notes part m es) ≡ begun_pairs z o part table es
pairs_begun z o part table m [] = refl
pairs_begun z o part table m (e ∷ es) = by_what e.what
  where
    by_message : (msg : Msg) → pairs_of z o table (chosen part (begun_by m e.tick (Plays msg))) ≡ begun_pair z o part table e.tick (Says msg)
    by_message (NoteOn c k zero) = refl
    by_message (NoteOn c k (suc v)) = pick (part c)
      where
        pick : (a : Bool) → pairs_of z o table (cond a (begun m e.tick c k (suc v) ∷ []) []) ≡ cond a (pair_if z c (bend_target_if o.range (table k e.tick)) []) []
        pick true = refl
        pick false = refl
    by_message (NoteOff c k v) = refl
    by_message (KeyPressure c k v) = refl
    by_message (Control c n v) = refl
    by_message (Program c q) = refl
    by_message (Pressure c v) = refl
    by_message (Bend c v) = refl

    by_what : (w : MidiWhat) → pairs_of z o table (chosen part (begun_by m e.tick (doing w))) ≡ begun_pair z o part table e.tick w
    by_what (Says msg) = by_message msg
    by_what (SysexOf lead bytes) = ap (pairs_of z o table) (sysex_begins_none part m e.tick (nat_eq lead 240) (is_reset bytes) (tuning_of bytes))
    by_what (MetaOf kind bytes) = refl

pub pairs_begun_at : (o : Options) (part : ℕ → Bool) (table : Targets) (port : PortEvents) (k : ℕ) → pairs_of port.number o table (begun_to part port.events (suc k)) ≡ begun_at o part table port (suc k)
pairs_begun_at o part table port k = pairs_begun port.number o part table (music_at port.events k) (event_at port.events (suc k))

-- ---- targets
abbrev pub HasTarget : Options → Targets → Note → Type 0
HasTarget o table n = is_some (target_of o table n) ≡ true

aimed_begun : (o : Options) (part : ℕ → Bool) (table : Targets) (m : Music) (es : List MidiEvent) → AllByRecursion (λ e. is_aimed o part table e.tick e.what ≡ true) es → AllByRecursion (HasTarget o table) (begun_notes part m es)
aimed_begun o part table m [] h = tt
aimed_begun o part table m (e ∷ es) h = pick (chosen part (begun_by m e.tick (doing e.what))) (begins_as part m e.tick e.what)
  where
    pick : (bs : List Note) → BeginsAs part m e.tick e.what bs → AllByRecursion (HasTarget o table) bs
    pick bs (Begins c k v is such same) = subst (λ xs. AllByRecursion (HasTarget o table) xs) (sym same)
        (sym (cond-true (part c) (is_some (bend_target_if o.range (table k e.tick))) true such) ∙ sym (ap (is_aimed o part table e.tick) is) ∙ h.0, tt)
    pick bs (BeginsNone same) = subst (λ xs. AllByRecursion (HasTarget o table) xs) (sym same) tt

pub aimed_at : (o : Options) (part : ℕ → Bool) (table : Targets) (ns : List Numbered) → AreAimed o part table ns → (k : ℕ) → AllByRecursion (HasTarget o table) (begun_to part ns (suc k))
aimed_at o part table ns aimed k = aimed_begun o part table (music_at ns k) (event_at ns (suc k)) (all_at (λ n. is_aimed o part table n.event.tick n.event.what ≡ true) (λ e. is_aimed o part table e.tick e.what ≡ true) (suc k) (λ n e h. h) ns aimed)
