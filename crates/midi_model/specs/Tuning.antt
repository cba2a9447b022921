-- The tuning programs, and which one each channel has selected (MIDI Tuning Standard). A change acts at once, on notes that
-- sound too (this project's profile).
use Rattle.std.specs.Prelude.{ℕ, List, [], ◌∷◌, ◌&&◌, nat_eq, if◌then◌else◌, Option, Some, None, set, get_or, replicate}
use Rattle.mt_base.specs.declared.event.Msg.{Msg}
use Rattle.mt_base.specs.declared.event.Msg.TheVariants.{Control}
use Rattle.midi_model.specs.Channel.{Role, EntryHigh}
use Rattle.midi_model.specs.Sysex.{Doing, Plays, Resets, Tunes, Nothing}
use Rattle.midi_model.specs.Channel.{role, Target, TuningProgram, target}
use Rattle.midi_model.specs.Music.{Music, channel_at}

pub record Tuning : Type 0 where
  -- by program and key, in steps of 1/16384 semitone above key 0
  pub values : ℕ → ℕ → Option ℕ
  pub selected : List (Option ℕ)

-- at the start and after a reset: no program holds a value, no channel has selected one
abbrev pub untuned : Tuning
untuned = record { values = λ p k. None; selected = replicate 16 None }

abbrev pub selected_of : Tuning → ℕ → Option ℕ
selected_of s c = get_or s.selected c None

abbrev pub renew : Option ℕ → Option ℕ → Option ℕ
renew (Some v) old = Some v
renew None old = old

-- the values after a tuning message, key by key in its order
abbrev pub retuned : ℕ → List (ℕ × Option ℕ) → (ℕ → ℕ → Option ℕ) → ℕ → ℕ → Option ℕ
retuned program [] old p k = old p k
retuned program (x ∷ xs) old p k = retuned program xs (λ q j. if nat_eq q program && nat_eq j x.0 then renew x.1 (old q j) else old q j) p k

-- data entry of RPN 3 selects the tuning program
abbrev pub chosen : ℕ → ℕ → Target → Tuning → Tuning
chosen c v TuningProgram s = record s { selected = set s.selected c (Some v) }
chosen c v _ s = s

abbrev pub chosen_by : Music → ℕ → ℕ → Role → Tuning → Tuning
chosen_by m c v EntryHigh s = chosen c v (target (channel_at m c).selection) s
chosen_by m c v _ s = s

abbrev pub tuning_heard : Music → Msg → Tuning → Tuning
tuning_heard m (Control c n v) s = chosen_by m c v (role n) s
tuning_heard m _ s = s

-- what an event does to the tuning; what is selected for data entry is read off the music before it
abbrev pub tuning_after : Music → Doing → Tuning → Tuning
tuning_after m (Plays msg) s = tuning_heard m msg s
tuning_after m Resets s = untuned
tuning_after m (Tunes r) s = record s { values = retuned r.program r.keys s.values }
tuning_after m Nothing s = s
