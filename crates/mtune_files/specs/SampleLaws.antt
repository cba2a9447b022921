-- What is heard of a sample: each chord for 480 ticks, in its channel's program.
use Rattle.std.specs.Prelude.{◌≡◌, ℕ, ◌+◌, ◌*◌, ◌%◌, List, Some, map, false}
use Rattle.std.specs.List.{flat_map, range_with_len}
use Rattle.midi_model.specs.Notes.{Note}
use Rattle.midi_model.specs.Merged.{merged}
use Rattle.midi_model.specs.Music.{quiet, play}
use Rattle.mtune_files.specs.Sample.{chord_channel, chord_keys, sample_file}

-- the notes of a chord, once it has ended
abbrev pub chord_notes : ℕ → List Note
chord_notes i = map (λ k. record {
  channel = chord_channel i;
  key = k;
  onset = 240 * i;
  velocity = 64;
  voice = record { high = 0; low = 0; program = i % 128 };
  release = Some (240 * (i + 2), 64);
  captured = false;
  pressure = 0;
  ended = Some (240 * (i + 2));
}) (chord_keys i)

-- all notes of a sample of n chords are those of its chords
abbrev pub ChordsAreHeard : ℕ → Type 0
ChordsAreHeard n = (play quiet (merged (sample_file n))).notes ≡ flat_map chord_notes (range_with_len 0 n)
