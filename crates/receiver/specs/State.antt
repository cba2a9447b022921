-- What a channel's state, as the program keeps it, stands for.
use Rattle.std.specs.Prelude.{ℕ, List, Option, Some, get_or}
use Rattle.mt_base.specs.declared.event.Msg.{Msg}
use Rattle.mt_base.specs.declared.event.Msg.TheVariants.{Control}
use Rattle.midi_model.specs.Params.{Entry, rpn, put}
use Rattle.midi_model.specs.Channel.{Channel, State, Role, EntryHigh, role, Target, TuningProgram, target}
use Rattle.receiver.specs.Params.{entries_of}
use Rattle.receiver.specs.declared.state.ChannelState.{ChannelState}

-- the parameters with the four fixed ones among them: RPN 0, 1, 2 and 5
abbrev pub params_of : List (ℕ × ℕ) → List Entry → List Entry
params_of fixed others = put (rpn 0) (get_or fixed 0 (0, 0)) (put (rpn 1) (get_or fixed 1 (0, 0)) (put (rpn 2) (get_or fixed 2 (0, 0)) (put (rpn 5) (get_or fixed 3 (0, 0)) others)))

-- the channel, without the pressures of its keys and without its tuning program
abbrev pub own_of : ChannelState → Channel
own_of s = record {
  controls = s.controls.items;
  selection = record { registered = s.registered; rpn = s.rpn; nrpn = s.nrpn };
  params = params_of s.fixed (entries_of s.others.items);
  voice = record { high = s.voice.bank_high; low = s.voice.bank_low; program = s.voice.program };
  bend = s.bend;
  pressure = s.pressure;
}

-- the channel with the pressures of its keys
abbrev pub state_of : ChannelState → State
state_of s = record { own = own_of s; keys = s.keys.items }

-- the tuning program that a channel has selected after a message to it (MIDI Tuning Standard)
abbrev pub program_chosen : ℕ → Target → Option ℕ → Option ℕ
program_chosen v TuningProgram old = Some v
program_chosen v _ old = old

abbrev pub program_by : Channel → ℕ → Role → Option ℕ → Option ℕ
program_by s v EntryHigh old = program_chosen v (target s.selection) old
program_by s v _ old = old

abbrev pub program_after : Channel → Msg → Option ℕ → Option ℕ
program_after s (Control c n v) old = program_by s v (role n) old
program_after s _ old = old
