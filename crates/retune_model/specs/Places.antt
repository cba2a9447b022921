-- "Plays the same" and validity, place by place, and the first place at which one fails: for a checker of two files (this project's own).
use Rattle.std.specs.Prelude.{◌≡◌, ◌<◌, ◌≤◌, ℕ, zero, suc, List, [], ◌∷◌, Bool, true, Option, Some, None}
use Rattle.mt_base.specs.Midi.{MidiEvent}
use Rattle.midi_model.specs.Notes.{sounds}
use Rattle.retune_model.specs.Table.{Scaling}
use Rattle.retune_model.specs.Options.{Options}
use Rattle.retune_model.specs.PlaysTheSame.{until, at_tick, retuned_notes, IsSameNote, HasSameNotes, Device, HasSameSettings, IsInTune, HasSameSound, beginnings, BeginsAlike, BeginsTheSame}
use Rattle.retune_model.specs.Pairs.{Pair}
use Rattle.retune_model.specs.Need.{IsValid}

-- ---- places of two lists

abbrev pub nth : {A : Type 0} → ℕ → List A → Option A
nth i [] = None
nth zero (x ∷ xs) = Some x
nth (suc i) (x ∷ xs) = nth i xs

-- both are there and agree, or neither is there
abbrev pub AgreeIf : {A B : Type 0} → (A → B → Type 0) → Option A → Option B → Type 0
AgreeIf R (Some a) (Some b) = R a b
AgreeIf R None None = Unit {0}
AgreeIf R _ _ = ⊥

abbrev pub AgreeAt : {A B : Type 0} → (A → B → Type 0) → List A → List B → ℕ → Type 0
AgreeAt R xs ys i = AgreeIf R (nth i xs) (nth i ys)

-- the first place at which a sentence fails
pub record IsFirstFailure (P : ℕ → Type 0) (i : ℕ) : Type 0 where
  pub fails : P i → ⊥
  pub first : (j : ℕ) → j < i → P j

-- ---- the sentences, at a tick and a place

abbrev pub SameNotesAt : (ℕ → ℕ → Option ℕ) → (ℕ → Bool) → List MidiEvent → List MidiEvent → ℕ → ℕ → Type 0
SameNotesAt goes_to part source out t i = AgreeAt (IsSameNote goes_to) (retuned_notes part (at_tick t source)) (retuned_notes part (at_tick t out)) i

-- of a note that sounds in the source
abbrev pub SameSettingsAt : (ℕ → Bool) → List MidiEvent → List MidiEvent → ℕ → ℕ → Type 0
SameSettingsAt part source out t i =
    AgreeAt (λ a b. sounds a ≡ true → HasSameSettings (until t source) (until t out) a b) (retuned_notes part (at_tick t source)) (retuned_notes part (at_tick t out)) i

abbrev pub InTuneAt : Scaling → Options → Device → (ℕ → Bool) → List MidiEvent → List MidiEvent → ℕ → ℕ → Type 0
InTuneAt scaling o device part source out t i =
    AgreeAt (λ a b. sounds a ≡ true → IsInTune scaling o device (until t source) (until t out) a b) (retuned_notes part (at_tick t source)) (retuned_notes part (at_tick t out)) i

abbrev pub BeginsAlikeAt : Scaling → Options → Device → (ℕ → Bool) → List MidiEvent → List MidiEvent → ℕ → Type 0
BeginsAlikeAt scaling o device part source out i = AgreeAt (BeginsAlike scaling o device) (beginnings part source) (beginnings part out) i

-- at a position, notes that hold on one channel have one pair
abbrev pub IsValidAt : {K : Type 0} → (ℕ → ℕ → Bool) → (ℕ → K) → ℕ → (ℕ → ℕ) → ℕ → Type 0
IsValidAt holds pair notes channel k =
    (i j : ℕ) → i < notes → j < notes → holds k i ≡ true → holds k j ≡ true → channel i ≡ channel j → pair i ≡ pair j

-- ---- laws: a sentence holds exactly where it holds at every place

abbrev pub Both : Type 0 → Type 0 → Type 0
Both P Q = (P → Q) × (Q → P)

abbrev pub NotesPlaceByPlace : Type 0
NotesPlaceByPlace = (goes_to : ℕ → ℕ → Option ℕ) (part : ℕ → Bool) (source out : List MidiEvent) →
    Both (HasSameNotes goes_to part source out) ((t i : ℕ) → SameNotesAt goes_to part source out t i)

pub record SoundsPlaceByPlace (scaling : Scaling) (o : Options) (device : Device) (part : ℕ → Bool) (source out : List MidiEvent) : Type 0 where
  pub settings : (t i : ℕ) → SameSettingsAt part source out t i
  pub pitch : (t i : ℕ) → InTuneAt scaling o device part source out t i

abbrev pub SoundPlaceByPlace : Type 0
SoundPlaceByPlace = (scaling : Scaling) (o : Options) (device : Device) (part : ℕ → Bool) (source out : List MidiEvent) →
    Both (HasSameSound scaling o device part source out) (SoundsPlaceByPlace scaling o device part source out)

abbrev pub BeginningsPlaceByPlace : Type 0
BeginningsPlaceByPlace = (scaling : Scaling) (o : Options) (device : Device) (part : ℕ → Bool) (source out : List MidiEvent) →
    Both (BeginsTheSame scaling o device part source out) ((i : ℕ) → BeginsAlikeAt scaling o device part source out i)

abbrev pub ValidPlaceByPlace : Type 0
ValidPlaceByPlace = (holds : ℕ → ℕ → Bool) (pair : ℕ → Pair) (notes last : ℕ) (channel : ℕ → ℕ) →
    Both (IsValid holds pair notes last channel) ((k : ℕ) → k ≤ last → IsValidAt holds pair notes channel k)
