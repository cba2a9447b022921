-- What is heard without the messages of drums (this project's own): all that is not on channel 10 is as it was, so what a source's kept
-- drums say need not be looked at.
use Rattle.std.specs.Prelude.{◌≡◌, ◌≢◌, ℕ, List, not, nat_eq, filter}
use Rattle.mt_base.specs.Midi.{MidiEvent}
use Rattle.midi_model.specs.Notes.{Note}
use Rattle.midi_model.specs.Music.{Music, channel_at}
use Rattle.midi_model.specs.Tuning.{Tuning, selected_of}
use Rattle.midi_model.specs.Receiver.{after}
use Rattle.retune_model.specs.Options.{is_drum_message}

abbrev pub without_drums : List MidiEvent → List MidiEvent
without_drums es = filter (λ e. not (is_drum_message e.what)) es

-- the notes that are not on channel 10
abbrev pub others : List Note → List Note
others ns = filter (λ n. not (nat_eq n.channel 9)) ns

-- the same music but for channel 10
pub record IsSameMusicElsewhere (m x : Music) : Type 0 where
  pub channels : (c : ℕ) → c ≢ 9 → channel_at m c ≡ channel_at x c
  pub zones : m.zones ≡ x.zones
  pub notes : others m.notes ≡ others x.notes

-- and the same tuning
pub record IsSameTuningElsewhere (u w : Tuning) : Type 0 where
  pub values : u.values ≡ w.values
  pub selected : (c : ℕ) → c ≢ 9 → selected_of u c ≡ selected_of w c

abbrev pub DrumsStandApart : Type 0
DrumsStandApart = (es : List MidiEvent) → IsSameMusicElsewhere (after es).music (after (without_drums es)).music

abbrev pub DrumsTuneNoOther : Type 0
DrumsTuneNoOther = (es : List MidiEvent) → IsSameTuningElsewhere (after es).tuning (after (without_drums es)).tuning
