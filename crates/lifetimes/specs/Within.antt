-- On the bend route: each pair of a part is within a bend, together with the part's bend.
use Rattle.std.specs.Prelude.{◌≡◌, ◌≤◌, ◌+ℤ◌, ℕ, ℤ, List, true, length}
use Rattle.std.specs.Set.{is_member}
use Rattle.mt_base.specs.Midi.{MidiEvent}
use Rattle.midi_model.specs.Music.{channel_at}
use Rattle.midi_model.specs.Order.{AreInOrder}
use Rattle.retune_model.specs.Options.{Options}
use Rattle.retune_model.specs.Source.{bend_in_steps}
use Rattle.retune_model.specs.Ports.{PortEvents, port_at, music_at}
use Rattle.retune_model.specs.Faults.{Targets, is_part, is_bend, is_within_bend}
use Rattle.retune_model.specs.Pairs.{Pair, is_same_pair}
use Rattle.retune_model.specs.Rests.{pairs_at}
use Rattle.retune_model.specs.SourceFaults.{IsFaultless}
use Rattle.midi_model.specs.MusicLaws.{NotesFade}
use Rattle.midi_model.specs.ReceiverLaws.{OneNoteSoundsOnAKey}
use Rattle.retune_model.specs.PortLaws.{MusicAtAPosition, PortsAreTimed}
use Rattle.retune_model.specs.FaultLaws.{SoundPortsAreAimed, LeastIsKept, NoneIsBeyond}
use Rattle.retune_model.specs.RestLaws.{NotesHoldAsWritten, PairsAreOfNotes, EndsAreKept, ResetsForgetEnds}

-- the steps of a channel's bend at a position
abbrev pub moved_at : Options → PortEvents → ℕ → ℕ → ℤ
moved_at o port c k = bend_in_steps o.range (channel_at (music_at port.events k) c)

abbrev pub AllWithin : Options → Targets → PortEvents → ℕ → ℕ → Type 0
AllWithin o table port c k = (p : Pair) → is_member is_same_pair (pairs_at o (is_part o) table port k) p ≡ true → p.part ≡ record { port = port.number; channel = c }
    → is_within_bend (p.steps +ℤ moved_at o port c k) ≡ true

-- so it is at each position of a source without a fault
abbrev pub PairsAreWithin : Type 0
PairsAreWithin = (o : Options) (table : Targets) (es : List MidiEvent) (z c : ℕ) → is_bend o.route ≡ true → is_part o c ≡ true → AreInOrder 0 es → IsFaultless o table es
    → (k : ℕ) → k ≤ length es → AllWithin o table (port_at es z) c k

-- the laws of notes, ends and pairs that what a bend does to a part stands on
pub record BendLaws : Type 0 where
  pub fade : NotesFade
  pub one_note : OneNoteSoundsOnAKey
  pub music : MusicAtAPosition
  pub timed : PortsAreTimed
  pub aimed : SoundPortsAreAimed
  pub holds : NotesHoldAsWritten
  pub pairs : PairsAreOfNotes
  pub ends : EndsAreKept
  pub forget : ResetsForgetEnds
  pub some : LeastIsKept
  pub none : NoneIsBeyond
