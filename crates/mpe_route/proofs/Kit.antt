-- What is cited of the crates below; and a source, position by position.
use Rattle.std.proofs.Common.{◌≡◌, ◌≤◌, ◌<◌, ℕ, List, [], sym, ap, ◌∙◌, length, take, get_or, arith}
use Rattle.std.proofs.Math.Seq.{drop-cons}
use Rattle.std.proofs.lemmas.List.{length-take-le}
use Rattle.mt_base.specs.Midi.{MidiEvent, MetaOf}
use Rattle.midi_model.specs.MusicLaws.{NotesAge}
use Rattle.midi_model.specs.ReceiverLaws.{OneNoteSoundsOnAKey}
use Rattle.retune_model.specs.Ports.{of_port, music_at}
use Rattle.retune_model.specs.PortLaws.{MusicAtAPosition}
use Rattle.plan_laws.specs.Counting.{ComesAt, MusicIsTaken}
use Rattle.retune_model.specs.RestLaws.{BegunIsThere}
use Rattle.retune_model.specs.FrontLaws.{EventOfNext}
use Rattle.lifetimes.specs.Told.{music_on}
use Rattle.lifetimes.proofs.Appended.{music_there}
use Rattle.channel_plan.proofs.Beginning.{EventKit}
use Rattle.mpe_laws.specs.FileLaws.{PlansServe, PortsFollow, PortsAreTheirEvents, MembersAreLeft}
use Rattle.mpe_laws.proofs.Standing.{Laws}
use Rattle.mpe_laws.proofs.Ported.{PortFacts}

pub record Kit : Type 0 where
  pub age : NotesAge
  pub one : OneNoteSoundsOnAKey
  pub laws : Laws
  pub facts : PortFacts
  pub events : EventKit
  pub music : MusicIsTaken
  pub played : MusicAtAPosition
  pub begun : BegunIsThere
  pub next : EventOfNext
  pub serve : PlansServe
  pub follows : PortsFollow
  pub source : PortsAreTheirEvents
  pub left : MembersAreLeft

-- the event behind a position
no_event : MidiEvent
no_event = record { tick = 0; track = 0; what = MetaOf 0 [] }

pub record Next (es : List MidiEvent) (k : ℕ) : Type 0 where
  pub event : MidiEvent
  pub comes : ComesAt es k event

pub next_at : (es : List MidiEvent) (k : ℕ) → k < length es → Next es k
next_at es k low = record { event = get_or es k no_event; comes = drop-cons es k no_event low }

-- the music of a port at a position is that of the events up to it
pub music_is : Kit → (es : List MidiEvent) (z k : ℕ) → k ≤ length es → music_at (of_port z es) k ≡ music_on z (take k es)
music_is kit es z k low =
    sym (kit.music es z k k (le-refl k) low)
    ∙ ap (music_at (of_port z (take k es))) (sym (length-take-le k es low))
    ∙ music_there kit.played z (take k es)
  where
    le-refl : (n : ℕ) → n ≤ n
    le-refl n = omega arith
