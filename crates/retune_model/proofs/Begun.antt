-- What holds of every note that begins, and of a note while it fades, holds of all notes.
use Rattle.std.proofs.Common.{◌≡◌, Bool, true, false, cond, nat_eq, Option, Some, None, ℕ, zero, suc, List, [], ◌∷◌, ◌++◌, refl, sym, subst, map}
use Rattle.std.specs.List.{AllByRecursion}
use Rattle.mt_base.specs.Midi.{MidiWhat, Says, SysexOf, MetaOf, MidiEvent}
use Rattle.mt_base.specs.declared.event.Msg.{Msg}
use Rattle.mt_base.specs.declared.event.Msg.TheVariants.{NoteOn, NoteOff, KeyPressure, Control, Program, Pressure, Bend}
use Rattle.midi_model.specs.Sysex.{Retune, tunes, tuning_of, is_reset, Doing, Plays, Resets, Nothing, doing}
use Rattle.midi_model.specs.Notes.{Note, sounds, ending, Fades}
use Rattle.midi_model.specs.Music.{Music, advance, step}
use Rattle.midi_model.specs.MusicLaws.{AllFade, begun_by, NotesFade}
use Rattle.retune_model.proofs.Fronts.{all_append}

-- of a note's channel, key and onset
abbrev pub AllNotes : (ℕ → ℕ → ℕ → Type 0) → List Note → Type 0
AllNotes P ns = AllByRecursion (λ n. P n.channel n.key n.onset) ns

-- of those of the note that a message begins
abbrev pub Begins : (ℕ → ℕ → ℕ → Type 0) → ℕ → Msg → Type 0
Begins P t (NoteOn c k (suc v)) = P c k t
Begins P t _ = Unit {0}

abbrev pub BeginsIn : (ℕ → ℕ → ℕ → Type 0) → ℕ → MidiWhat → Type 0
BeginsIn P t (Says msg) = Begins P t msg
BeginsIn P t _ = Unit {0}

-- of the note itself
abbrev pub BeginsA : (Note → Type 0) → Music → ℕ → Doing → Type 0
BeginsA R m t d = AllByRecursion R (begun_by m t d)

all_faded : (R : Note → Type 0) → ((a b : Note) → Fades a b → R a → R b) → (ns xs : List Note) → AllFade ns xs → AllByRecursion R ns → AllByRecursion R xs
all_faded R f [] [] h k = tt
all_faded R f [] (x ∷ xs) h k = absurd h
all_faded R f (n ∷ ns) [] h k = absurd h
all_faded R f (n ∷ ns) (x ∷ xs) h k = (f n x h.0 k.0, all_faded R f ns xs h.1 k.1)

pub all_advanced : NotesFade → (R : Note → Type 0) → ((a b : Note) → Fades a b → R a → R b) → (m : Music) (t : ℕ) (d : Doing)
    → AllByRecursion R m.notes → BeginsA R m t d → AllByRecursion R (advance t d m).notes
all_advanced fade R f m t d h b = all_faded R f (m.notes ++ begun_by m t d) (advance t d m).notes (fade m t d) (all_append R m.notes (begun_by m t d) h b)

begun_message : (P : ℕ → ℕ → ℕ → Type 0) (m : Music) (t : ℕ) (msg : Msg) → Begins P t msg → BeginsA (λ n. P n.channel n.key n.onset) m t (Plays msg)
begun_message P m t (NoteOn c k (suc v)) b = (b, tt)
begun_message P m t (NoteOn c k zero) b = tt
begun_message P m t (NoteOff c k v) b = tt
begun_message P m t (KeyPressure c k v) b = tt
begun_message P m t (Control c n v) b = tt
begun_message P m t (Program c p) b = tt
begun_message P m t (Pressure c v) b = tt
begun_message P m t (Bend c v) b = tt

-- a system exclusive event begins no note
begun_sysex : (R : Note → Type 0) (m : Music) (t : ℕ) (a b : Bool) (x : Option Retune) → BeginsA R m t (cond a (cond b Resets (tunes x)) Nothing)
begun_sysex R m t false b x = tt
begun_sysex R m t true true x = tt
begun_sysex R m t true false None = tt
begun_sysex R m t true false (Some r) = tt

begun_what : (P : ℕ → ℕ → ℕ → Type 0) (m : Music) (t : ℕ) (w : MidiWhat) → BeginsIn P t w → BeginsA (λ n. P n.channel n.key n.onset) m t (doing w)
begun_what P m t (Says msg) b = begun_message P m t msg b
begun_what P m t (MetaOf kind bytes) b = tt
begun_what P m t (SysexOf lead bytes) b = begun_sysex (λ n. P n.channel n.key n.onset) m t (nat_eq lead 240) (is_reset bytes) (tuning_of bytes)

moved : (P : ℕ → ℕ → ℕ → Type 0) (a b : Note) → Fades a b → P a.channel a.key a.onset → P b.channel b.key b.onset
moved P a b f h = subst (λ x. P x b.key b.onset) (sym f.channel) (subst (λ y. P a.channel y b.onset) (sym f.key) (subst (λ z. P a.channel a.key z) (sym f.onset) h))

pub all_step : NotesFade → (P : ℕ → ℕ → ℕ → Type 0) (m : Music) (e : MidiEvent) → AllNotes P m.notes → BeginsIn P e.tick e.what → AllNotes P (step m e).notes
all_step fade P m e h b = all_advanced fade (λ n. P n.channel n.key n.onset) (moved P) m e.tick (doing e.what) h (begun_what P m e.tick e.what b)

-- after a reset nothing sounds
ended_silent : (t : ℕ) (n : Note) → sounds (ending t n) ≡ false
ended_silent t n = by_end n.ended
  where
    by_end : (e : Option ℕ) → (let x : Note = record n { ended = e } in sounds (ending t x) ≡ false)
    by_end None = refl
    by_end (Some x) = refl

pub all_silent : (t : ℕ) (ns : List Note) → AllByRecursion (λ n. sounds n ≡ false) (map (ending t) ns)
all_silent t [] = tt
all_silent t (n ∷ ns) = (ended_silent t n, all_silent t ns)
