-- Messages that are spelt shortly.
use Rattle.std.specs.Prelude.{◌≡◌, ℕ, ◌+◌, ◌<◌, ◌≤◌, ◌^◌, List, length, drop, Ok, if◌then◌else◌}
use Rattle.mt_base.specs.declared.event.Msg.{Msg}
use Rattle.mt_base.specs.Midi.{Says}
use Rattle.midi_model.specs.declared.numbers.TheConstants.{LAST_TICK}
use Rattle.midi_model.specs.Reading.{event_at, is_short, short_msg, long_msg}
use Rattle.smf_read.specs.declared.short.Short.{Short}

-- a status byte of a message with one data byte
abbrev pub IsSingle : ℕ → Type 0
IsSingle status = (192 ≤ status) × (status < 224)

-- the message of a status byte and its data bytes; where it has only one, the second says nothing
abbrev pub msg_of : ℕ → ℕ → ℕ → Msg
msg_of status d e = if is_short status then short_msg status d else long_msg status d e

-- What is read at the front of some bytes after a running status, as long as its tick isn't too late.
pub record IsShort (running : ℕ) (bytes : List ℕ) (s : Short) : Type 0 where
  pub reads : (before : ℕ) → before + s.delta ≤ LAST_TICK
      → event_at running before bytes ≡ Ok (record { tick = before + s.delta; what = Says (msg_of s.status s.first s.second) }, s.status, drop s.len bytes)
  pub small : s.delta < 2 ^ 14
  pub low : 128 ≤ s.status
  pub high : s.status < 240
  pub first : s.first < 128
  pub second : s.second < 128
  pub some : 0 < s.len
  pub within : s.len ≤ length bytes
