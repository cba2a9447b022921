-- Sources that say nothing of tuning on retuned parts, and the tuning that dump and live leave (this project's own).
use Rattle.std.specs.Prelude.{◌<◌, nat_lt, ◌≡◌, ℕ, List, [], ◌∷◌, Bool, true, false, Option, Some, None, length}
use Rattle.std.specs.List.{AllByRecursion}
use Rattle.mt_base.specs.declared.event.Msg.TheVariants.{NoteOn, Control}
use Rattle.mt_base.specs.Midi.{MidiEvent}
use Rattle.midi_model.specs.Channel.{Role, EntryHigh}
use Rattle.midi_model.specs.Sysex.{Doing, Plays, Tunes, doing, tuning_of, Retune}
use Rattle.midi_model.specs.Channel.{role, Target, TuningProgram, target}
use Rattle.midi_model.specs.Music.{Music, channel_at, step}
use Rattle.midi_model.specs.Tuning.{Tuning, retuned, selected_of}
use Rattle.retune_model.specs.Routes.{Setup, Live, Told, dump_next, live_next}

-- data entry that selects a tuning program on a retuned part isn't plain, nor is a tuning message; and keys are below 128
abbrev pub is_plain_entry : Bool → Role → Target → Bool
is_plain_entry true EntryHigh TuningProgram = false
is_plain_entry _ _ _ = true

abbrev pub is_plain : (ℕ → Bool) → Music → Doing → Bool
is_plain part m (Plays (Control c n v)) = is_plain_entry (part c) (role n) (target (channel_at m c).selection)
is_plain part m (Plays (NoteOn c k v)) = nat_lt k 128
is_plain part m (Tunes r) = false
is_plain part m _ = true

abbrev pub ArePlain : (ℕ → Bool) → Music → List MidiEvent → Type 0
ArePlain part m [] = Unit {0}
ArePlain part m (e ∷ es) = (is_plain part m (doing e.what) ≡ true) × ArePlain part (step m e) es

-- the values after some tuning messages
abbrev pub valued : Option Retune → (ℕ → ℕ → Option ℕ) → ℕ → ℕ → Option ℕ
valued (Some r) values = retuned r.program r.keys values
valued None values = values

abbrev pub told : List (List ℕ) → (ℕ → ℕ → Option ℕ) → ℕ → ℕ → Option ℕ
told [] values = values
told (b ∷ bs) values = told bs (valued (tuning_of b) values)

-- the tuning that a setup leaves
pub record IsTuned (s : Setup) (u : Tuning) : Type 0 where
  pub values : u.values ≡ told s.dumps (λ p k. None)
  pub selected : AllByRecursion (λ c. selected_of u c ≡ Some s.program) s.channels
  pub wide : length u.selected ≡ 16

-- whether a channel message came
abbrev pub has_begun : Bool → List MidiEvent → Bool
has_begun b [] = b
has_begun b (e ∷ es) = has_begun (dump_next b (doing e.what)) es

-- the same on live: each key that was told has its value, and every retuned part has the program
pub record IsTold (l : Live) (value : ℕ → ℕ) (s : Told) (u : Tuning) : Type 0 where
  pub values : (k : ℕ) → s.keys k ≡ true → u.values l.setup.program k ≡ Some (value k)
  pub selected : s.begun ≡ true → AllByRecursion (λ c. selected_of u c ≡ Some l.setup.program) l.setup.channels
  pub wide : length u.selected ≡ 16

abbrev pub told_after : Live → Told → List MidiEvent → Told
told_after l s [] = s
told_after l s (e ∷ es) = told_after l (live_next l s (doing e.what)) es

-- what live tells a device: no dumps, and for each key a change that reads as that key's value in the setup's program
pub record Reads (l : Live) (value : ℕ → ℕ) : Type 0 where
  pub none : l.setup.dumps ≡ []
  pub change : (k : ℕ) → k < 128 → tuning_of (l.change k) ≡ Some (record { program = l.setup.program; keys = (k, Some (value k)) ∷ [] })
