-- What an audit keeps of a source's notes, by the events so far.
use Rattle.std.specs.Prelude.{◌≡◌, ◌<◌, ℕ, suc, ◌+◌, ◌*◌, List, [], ◌∷◌, Bool, ◌&&◌, not, nat_eq, nat_lt, slice_index, if◌then◌else◌, Some, None, is_some, filter, map, length, get_or}
use Rattle.mt_base.specs.declared.event.Msg.TheVariants.{NoteOn}
use Rattle.mt_base.specs.Midi.{MidiWhat, Says, MidiEvent}
use Rattle.retune_model.specs.Options.{Options}
use Rattle.retune_model.specs.Ports.{all_zero, port_of, ports_after}
use Rattle.retune_model.specs.PlaysTheSame.{begins_note}
use Rattle.retune_model.specs.Faults.{is_part}
use Rattle.receiver.specs.Notes.{has}
use Rattle.audit_report.specs.declared.played.Played.{Played}
use Rattle.audit_report.specs.declared.audit.Audit.{Audit}
use Rattle.audit_report.specs.Played.{notes_on, played_on}

-- the velocity of a note on
abbrev pub velocity_in : MidiWhat → ℕ
velocity_in (Says (NoteOn c k v)) = v
velocity_in _ = 0

-- a note of a port that sounds on such a channel and key
abbrev pub is_at : ℕ → (ℕ → ℕ → Bool) → Played → Bool
is_at z on p = nat_eq p.part.port z && (on p.part.channel p.key && not (is_some p.ended))

-- it ends at a tick
abbrev pub marked : ℕ → (ℕ → ℕ → Bool) → ℕ → Played → Played
marked z on t p = if is_at z on p then record p { ended = Some t } else p

-- one key of a channel; the keys below one that are told; and those of the channels below one
abbrev pub is_key : ℕ → ℕ → ℕ → ℕ → Bool
is_key channel key c k = nat_eq c channel && nat_eq k key

abbrev pub keys_below : (ℕ → Bool) → ℕ → ℕ → ℕ → ℕ → Bool
keys_below told channel end c k = nat_eq c channel && (nat_lt k end && told k)

abbrev pub channels_below : List ℕ → ℕ → ℕ → ℕ → Bool
channels_below keys end c k = nat_lt c end && (nat_lt k 128 && has (slice_index keys c) k)

-- the place of a key of a part
abbrev pub place_of : ℕ → ℕ → ℕ → ℕ
place_of z c k = (z * 16 + c) * 128 + k

abbrev pub nothing_played : Played
nothing_played = record { part = record { port = 0; channel = 0 }; key = 0; onset = 0; velocity = 0; ended = None }

-- one of 128 keys of 16 channels of 256 ports
pub record IsLow (p : Played) : Type 0 where
  pub port : p.part.port < 256
  pub channel : p.part.channel < 16
  pub key : p.key < 128

abbrev pub note_at : List Played → ℕ → Played
note_at notes i = get_or notes i nothing_played

-- Of each note that sounds, the number is kept at its place. Numbers count from 1.
pub record IsIndexed (last : List ℕ) (notes : List Played) : Type 0 where
  pub places : length last ≡ 524288
  pub low : (i : ℕ) → i < length notes → IsLow (note_at notes i)
  pub sounding : (i : ℕ) → i < length notes → (note_at notes i).ended ≡ None
      → get_or last (place_of (note_at notes i).part.port (note_at notes i).part.channel (note_at notes i).key) 0 ≡ suc i

-- the ports of the events that begin a retuned note
abbrev pub ports_begun : Options → (ℕ → ℕ) → List MidiEvent → List ℕ
ports_begun o ports [] = []
ports_begun o ports (e ∷ es) =
    if begins_note (is_part o) e.what
    then port_of ports e ∷ ports_begun o (ports_after ports e) es
    else ports_begun o (ports_after ports e) es

abbrev pub is_on : ℕ → Played → Bool
is_on z p = nat_eq p.part.port z

-- The notes of each port are those of its receiver, in their order; the order of all is that of the events that begin them.
pub record AreHeard (o : Options) (es : List MidiEvent) (last : List ℕ) (notes : List Played) : Type 0 where
  pub of_port : (z : ℕ) → filter (is_on z) notes ≡ map (played_on z) (notes_on o es z)
  pub order : map (λ (p : Played). p.part.port) notes ≡ ports_begun o all_zero es
  pub indexed : IsIndexed last notes

abbrev pub IsAudit : Options → List MidiEvent → Audit → Type 0
IsAudit o es a = AreHeard o es a.last.items a.notes.items
