-- The pitch that a note of the source should have (this project's own): its scale pitch, with the fine and coarse tuning and the
-- bend of its channel.
use Rattle.std.specs.Prelude.{ℕ, ◌+◌, ◌*◌, ℤ, pos, ◌+ℤ◌, ◌-ℤ◌, ◌*ℤ◌, Option, Some, None}
use Rattle.std.specs.Int.{int_div_euclid}
use Rattle.mt_base.specs.Pitch.{Pitch, exactly, added}
use Rattle.midi_model.specs.Params.{value_of, rpn}
use Rattle.midi_model.specs.Channel.{Channel}
use Rattle.midi_model.specs.Notes.{Note}
use Rattle.midi_model.specs.Music.{Music, channel_at}
use Rattle.midi_model.specs.Played.{fine, coarse, bent}
use Rattle.retune_model.specs.Table.{Scaling, pitch_at}
use Rattle.retune_model.specs.Options.{Route, ByDump, ByLive, ByBend, ByMpe, Options}

-- the bend sensitivity of a channel in cents
abbrev pub sensitivity : Channel → ℕ
sensitivity s = let v = value_of s.params (rpn 0) in 100 * v.0 + v.1

-- the channel's bend in whole steps of a bend at a sensitivity of so many semitones, rounded to the nearest
abbrev pub bend_in_steps : ℕ → Channel → ℤ
bend_in_steps range s = int_div_euclid ((pos 2 *ℤ (pos s.bend -ℤ pos 8192)) *ℤ pos (sensitivity s) +ℤ pos (100 * range)) (pos (200 * range))

-- How far the channel's bend moves its notes: where each note has a bend of its own, in whole steps of that bend; else exactly.
abbrev pub moved : Route → ℕ → Channel → ℤ
moved ByDump range s = bent s
moved ByLive range s = bent s
moved ByBend range s = bend_in_steps range s *ℤ pos (390625000 * range)
moved ByMpe range s = bent s

abbrev pub heard_on : Options → Channel → Pitch → Pitch
heard_on o s p = added p (exactly ((fine s +ℤ coarse s) +ℤ moved o.route o.range s))

abbrev pub heard_if : Options → Channel → Option Pitch → Option Pitch
heard_if o s (Some p) = Some (heard_on o s p)
heard_if o s None = None

-- The source pitch of a note that sounds: by the scale in force when it began, and its channel's state now.
abbrev pub source_pitch : Scaling → Options → Music → Note → Option Pitch
source_pitch scaling o m n = heard_if o (channel_at m n.channel) (pitch_at scaling n.key n.onset)
