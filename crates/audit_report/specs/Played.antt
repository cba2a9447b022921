-- The retuned notes of a source, as they are played to its end (this project's own).
use Rattle.std.specs.Prelude.{ℕ, List, [], ◌∷◌, ◌++◌, nat_eq, if◌then◌else◌, drop}
use Rattle.mt_base.specs.Midi.{MidiEvent}
use Rattle.midi_model.specs.Notes.{Note}
use Rattle.midi_model.specs.Receiver.{after}
use Rattle.retune_model.specs.Options.{Options}
use Rattle.retune_model.specs.Ports.{all_zero, events_on, port_of, ports_after}
use Rattle.retune_model.specs.PlaysTheSame.{begins_note, retuned_notes}
use Rattle.retune_model.specs.Faults.{is_part}
use Rattle.audit_report.specs.declared.played.Played.{Played}

-- a note of a port
abbrev pub played_on : ℕ → Note → Played
played_on z n = record {
  part = record { port = z; channel = n.channel };
  key = n.key;
  onset = n.onset;
  velocity = n.velocity;
  ended = n.ended;
}

-- the retuned notes of a port, in the order of their note ons, as its receiver has them at the end
abbrev pub notes_on : Options → List MidiEvent → ℕ → List Note
notes_on o es z = retuned_notes (is_part o) (after (events_on z es))

-- the first of some notes, if there is any
abbrev pub first_on : ℕ → List Note → List Played
first_on z [] = []
first_on z (n ∷ ns) = played_on z n ∷ []

-- Notes of all ports in the order of their note ons: each event that begins one takes the next of its port.
abbrev pub dealt : Options → (ℕ → ℕ) → (ℕ → List Note) → List MidiEvent → List Played
dealt o ports left [] = []
dealt o ports left (e ∷ es) =
    let z = port_of ports e in
    if begins_note (is_part o) e.what
    then first_on z (left z) ++ dealt o (ports_after ports e) (λ y. if nat_eq y z then drop 1 (left y) else left y) es
    else dealt o (ports_after ports e) left es

-- the retuned notes of all ports
abbrev pub played_notes : Options → List MidiEvent → List Played
played_notes o es = dealt o all_zero (notes_on o es) es
