-- What data entry asks of its channel: what it makes of the bend sensitivity, and which parameters a source may not write to.
use Rattle.std.specs.Prelude.{ℕ, Bool, ◌&&◌, ◌||◌, nat_eq, nat_lt, if◌then◌else◌, Option, Some, None}
use Rattle.mt_base.specs.declared.event.Msg.{Msg}
use Rattle.mt_base.specs.declared.event.Msg.TheVariants.{Control}
use Rattle.midi_model.specs.Params.{value_of, rpn}
use Rattle.midi_model.specs.Channel.{Channel, Selection}
use Rattle.retune_model.specs.Faults.{Kind, TuningInSource, MpeSource, is_selected}

-- data entry on a channel, of the high byte or of the low one
abbrev pub entry : ℕ → Bool → ℕ → Msg
entry c is_high v = Control c (if is_high then 6 else 38) v

-- whether it sets a zone of which its channel is the master
abbrev pub sets_zone : Channel → ℕ → Bool → ℕ → Bool
sets_zone s c is_high v = is_selected 6 s.selection && (is_high && (nat_lt 0 v && (nat_eq c 0 || nat_eq c 15)))

-- the bend sensitivity of its channel after it: a zone's master gets one of two semitones
abbrev pub sensitivity_then : Channel → ℕ → Bool → ℕ → ℕ × ℕ
sensitivity_then s c is_high v =
    if is_selected 0 s.selection then (if is_high then (v, (value_of s.params (rpn 0)).1) else ((value_of s.params (rpn 0)).0, v))
    else if sets_zone s c is_high v then (2, 0)
    else value_of s.params (rpn 0)

-- the kind that it is by the parameter that it writes to
abbrev pub entry_kind : Selection → Option Kind
entry_kind s = if is_selected 3 s || is_selected 4 s then Some TuningInSource else if is_selected 6 s then Some MpeSource else None
