-- What is kept in mind of each port.
use Rattle.std.specs.Prelude.{ℕ, suc, Bool, false, ◌&&◌, if◌then◌else◌, Option, Some, None, get_or, slice_index}
use Rattle.std.specs.Option.{option_map}
use Rattle.mt_base.specs.declared.event.Msg.TheVariants.{NoteOn}
use Rattle.mt_base.specs.Midi.{MidiWhat, Says}
use Rattle.retune_model.specs.Routes.{Told}
use Rattle.retune_model.specs.Options.{Options}
use Rattle.retune_model.specs.Faults.{Targets, is_part}
use Rattle.retune_model.specs.Dump.{told_value}
use Rattle.key_pitch.specs.declared.aim.Aim.{Aim}
use Rattle.key_pitch.specs.declared.aim.Aim.TheVariants.{Mts}
use Rattle.receiver.specs.Notes.{has}
use Rattle.routes.specs.declared.kept.Kept.{Kept}

-- whether a channel message of the port came, and of which keys a change was sent
abbrev pub told_in : Kept → ℕ → Told
told_in k z = record { begun = get_or k.begun z false; keys = has (slice_index k.keys z) }

-- the key of a note on of a retuned part
abbrev pub key_begun : (ℕ → Bool) → MidiWhat → Option ℕ
key_begun part (Says (NoteOn c k (suc v))) = if part c then Some k else None
key_begun part _ = None

-- the value of a target that tells a device of a key, 0 where it has none
abbrev pub value_in : Aim → ℕ
value_in (Mts v) = v
value_in _ = 0

-- where a device is told key by key, the key of a note on of a retuned part, with the value of its target
abbrev pub told_of : Bool → Options → Targets → MidiWhat → Option (ℕ × ℕ)
told_of live o table w = option_map (λ k. (k, told_value table k)) (key_begun (λ c. live && is_part o c) w)

-- of a key and its value, whether a change is due
abbrev pub due_if : (ℕ → Bool) → Option (ℕ × ℕ) → Option (ℕ × ℕ)
due_if keys (Some x) = if keys x.0 then None else Some x
due_if keys None = None
