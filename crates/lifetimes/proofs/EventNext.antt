-- What sounds on a key of a receiver after one event more: by the event, in the words of what the program keeps.
use Rattle.std.proofs.Common.{◌≡◌, ◌∙◌, ℕ, zero, suc, ◌+◌, List, [], ◌∷◌, ◌++◌, Bool, true, false, cond, not, ◌&&◌, ◌||◌, nat_eq, Option, Some, None, is_some, refl, sym, ap, subst}
use Rattle.mt_base.specs.declared.event.Msg.TheVariants.{NoteOn, NoteOff, KeyPressure, Control, Program, Pressure, Bend}
use Rattle.mt_base.specs.Midi.{MidiWhat, Says, SysexOf, MetaOf, MidiEvent}
use Rattle.midi_model.specs.Sysex.{Doing, Retune, Plays, Resets, Tunes, Nothing, doing, is_reset, tunes, tuning_of}
use Rattle.midi_model.specs.Notes.{Note, sounds, is_at, sounding_on}
use Rattle.midi_model.specs.Music.{Music, begun, advance}
use Rattle.midi_model.specs.MusicLaws.{Grows, NotesAge, begun_by}
use Rattle.midi_model.specs.Receiver.{Receiver, after}
use Rattle.midi_model.specs.ReceiverLaws.{OneNoteSoundsOnAKey}
use Rattle.retune_model.specs.Ports.{resets}
use Rattle.receiver.specs.Sounding.{sounding_from, sounding_at, ended_on}
use Rattle.lifetimes.specs.Told.{strikes_key}
use Rattle.lifetimes.proofs.SoundsNext.{is_here, kept, left, struck_last, cut, silenced}
use Rattle.lifetimes.proofs.Appended.{after_next}

-- ---- the note that an event begins

sysex_begins : (c k : ℕ) (m : Music) (t lead : ℕ) (bytes : List ℕ) → sounding_on c k (begun_by m t (doing (SysexOf lead bytes))) ≡ 0
sysex_begins c k m t lead bytes = pick (nat_eq lead 0xf0) (is_reset bytes) (tuning_of bytes)
  where
    pick : (a b : Bool) (r : Option Retune) → sounding_on c k (begun_by m t (cond a (cond b Resets (tunes r)) Nothing)) ≡ 0
    pick false b r = refl
    pick true true r = refl
    pick true false None = refl
    pick true false (Some r) = refl

-- it is on another key, or there is none
begins_elsewhere : (c k : ℕ) (m : Music) (t : ℕ) (what : MidiWhat) → strikes_key c k what ≡ false → sounding_on c k (begun_by m t (doing what)) ≡ 0
begins_elsewhere c k m t (Says (NoteOn d j (suc v))) h = ap (λ b. cond (b && true) 1 0 + 0) h
begins_elsewhere c k m t (Says (NoteOn d j zero)) h = refl
begins_elsewhere c k m t (Says (NoteOff d j v)) h = refl
begins_elsewhere c k m t (Says (KeyPressure d j v)) h = refl
begins_elsewhere c k m t (Says (Control d n v)) h = refl
begins_elsewhere c k m t (Says (Program d p)) h = refl
begins_elsewhere c k m t (Says (Pressure d v)) h = refl
begins_elsewhere c k m t (Says (Bend d v)) h = refl
begins_elsewhere c k m t (SysexOf lead bytes) h = sysex_begins c k m t lead bytes
begins_elsewhere c k m t (MetaOf kind bytes) h = refl

-- it is on this key, and begins at this tick
record BeginsHere (c k t : ℕ) (b : List Note) : Type 0 where
  note : Note
  alone : b ≡ note ∷ []
  here : is_here c k note ≡ true
  onset : note.onset ≡ t

begins_here : (c k : ℕ) (m : Music) (t : ℕ) (what : MidiWhat) → strikes_key c k what ≡ true → BeginsHere c k t (begun_by m t (doing what))
begins_here c k m t (Says (NoteOn d j (suc v))) h = record { note = begun m t d j (suc v); alone = refl; here = ap (λ b. b && true) h; onset = refl }
begins_here c k m t (Says (NoteOn d j zero)) h = absurd cc
begins_here c k m t (Says (NoteOff d j v)) h = absurd cc
begins_here c k m t (Says (KeyPressure d j v)) h = absurd cc
begins_here c k m t (Says (Control d n v)) h = absurd cc
begins_here c k m t (Says (Program d p)) h = absurd cc
begins_here c k m t (Says (Pressure d v)) h = absurd cc
begins_here c k m t (Says (Bend d v)) h = absurd cc
begins_here c k m t (SysexOf lead bytes) h = absurd cc
begins_here c k m t (MetaOf kind bytes) h = absurd cc

-- ---- before and after

abbrev pub notes_of : List MidiEvent → List Note
notes_of es = (after es).music.notes

pub grown : NotesAge → (es : List MidiEvent) (e : MidiEvent)
    → Grows e.tick (begun_by (after es).music e.tick (doing e.what)) (notes_of es) (notes_of (es ++ e ∷ []))
grown age es e =
    subst (λ (r : Receiver). Grows e.tick (begun_by (after es).music e.tick (doing e.what)) (notes_of es) r.music.notes) (sym (after_next es e))
    (age (after es).music e.tick (doing e.what))

module _ (age : NotesAge) (one : OneNoteSoundsOnAKey) (es : List MidiEvent) (e : MidiEvent) (c k : ℕ) where
  fresh : List Note
  fresh = begun_by (after es).music e.tick (doing e.what)

  -- a key that isn't struck: the note that sounded there, where it has not ended
  pub sounds_as_before : strikes_key c k e.what ≡ false → (x : ℕ × Note) → sounding_at (notes_of (es ++ e ∷ [])) c k ≡ Some x
      → (y : ℕ × Note) × (sounding_at (notes_of es) c k ≡ Some y) × (x.1.onset ≡ y.1.onset)
  unfolding fresh
  sounds_as_before h x s = kept e.tick c k 1 fresh (notes_of es) (notes_of (es ++ e ∷ [])) x (grown age es e)
      (begins_elsewhere c k (after es).music e.tick e.what h) (one es c k) s

  pub sounds_if_left : strikes_key c k e.what ≡ false
      → is_some (sounding_at (notes_of (es ++ e ∷ [])) c k)
      ≡ (is_some (sounding_at (notes_of es) c k) && not (ended_on c k (notes_of es) (notes_of (es ++ e ∷ []))))
  unfolding fresh
  sounds_if_left h = left e.tick c k 1 1 fresh (notes_of es) (notes_of (es ++ e ∷ [])) (grown age es e)
      (begins_elsewhere c k (after es).music e.tick e.what h) (one es c k)

  -- a key that is struck: the note that begins
  alone_now : (b : BeginsHere c k e.tick fresh) → Grows e.tick (b.note ∷ []) (notes_of es) (notes_of (es ++ e ∷ []))
  unfolding fresh
  alone_now b = subst (λ ns. Grows e.tick ns (notes_of es) (notes_of (es ++ e ∷ []))) b.alone (grown age es e)

  pub struck_now : strikes_key c k e.what ≡ true → (x : ℕ × Note) × (sounding_at (notes_of (es ++ e ∷ [])) c k ≡ Some x) × (x.1.onset ≡ e.tick)
  unfolding fresh
  struck_now h =
      let b = begins_here c k (after es).music e.tick e.what h in
      let s = struck_last e.tick c k 1 b.note (notes_of es) (notes_of (es ++ e ∷ [])) b.here (alone_now b) (one (es ++ e ∷ []) c k) in
      ((s.0, b.note), s.1, b.onset)

  pub cut_off : strikes_key c k e.what ≡ true
      → (is_some (sounding_at (notes_of es) c k) && not (ended_on c k (notes_of es) (notes_of (es ++ e ∷ [])))) ≡ false
  unfolding fresh
  cut_off h =
      let b = begins_here c k (after es).music e.tick e.what h in
      cut e.tick c k 1 b.note (notes_of es) (notes_of (es ++ e ∷ [])) b.here (alone_now b) (one (es ++ e ∷ []) c k)

-- ---- after a reset

is_resets : (d : Doing) → resets d ≡ true → d ≡ Resets
is_resets Resets h = refl
is_resets (Plays msg) h = absurd cc
is_resets (Tunes r) h = absurd cc
is_resets Nothing h = absurd cc

pub reset_silences : (es : List MidiEvent) (e : MidiEvent) (c k : ℕ) → resets (doing e.what) ≡ true → sounding_at (notes_of (es ++ e ∷ [])) c k ≡ None
reset_silences es e c k h =
    ap (λ (r : Receiver). sounding_at r.music.notes c k) (after_next es e)
    ∙ ap (λ d. sounding_at (advance e.tick d (after es).music).notes c k) (is_resets (doing e.what) h)
    ∙ silenced e.tick c k 1 (notes_of es)

-- ---- what ended had sounded

ended_from : (c k i : ℕ) (ns xs : List Note) → ended_on c k ns xs ≡ true → is_some (sounding_from i ns c k) ≡ true
ended_from c k i [] xs h = absurd cc
ended_from c k i (n ∷ ns) [] h = absurd cc
ended_from c k i (n ∷ ns) (x ∷ xs) h = pick (is_at c k n) (sounds n) h (ended_from c k (suc i) ns xs)
  where
    pick : (a s : Bool) → ((a && (s && not (sounds x))) || ended_on c k ns xs) ≡ true
        → (ended_on c k ns xs ≡ true → is_some (sounding_from (suc i) ns c k) ≡ true)
        → is_some (cond (a && s) (Some (i, n)) (sounding_from (suc i) ns c k)) ≡ true
    pick true true e r = refl
    pick true false e r = r e
    pick false s e r = r e

pub ended_sounded : (c k : ℕ) (ns xs : List Note) → ended_on c k ns xs ≡ true → is_some (sounding_at ns c k) ≡ true
ended_sounded c k ns xs h = ended_from c k 1 ns xs h
