-- Differences of two tables, as messages to a channel.
use Rattle.std.specs.Prelude.{ℕ, List}
use Rattle.mt_base.specs.declared.event.Msg.{Msg}
use Rattle.mt_base.specs.declared.event.Msg.TheVariants.{KeyPressure, Control}
use Rattle.midi_model.specs.Bring.{bring_controls, bring_keys}
use Rattle.replay.specs.declared.tables.Kind.{Kind}
use Rattle.replay.specs.declared.tables.Kind.TheVariants.{Controllers, KeyPressures}

-- the message that sets a place of the table
abbrev pub message_of : Kind → ℕ → ℕ → ℕ → Msg
message_of Controllers c place value = Control c place value
message_of KeyPressures c place value = KeyPressure c place value

-- each place that differs, in order
abbrev pub differences : Kind → ℕ → List ℕ → List ℕ → List Msg
differences Controllers c now wanted = bring_controls c 0 now wanted
differences KeyPressures c now wanted = bring_keys c 0 now wanted
