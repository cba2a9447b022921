-- The laws that the proof rests on, put together.
use Rattle.std.proofs.Common.{◌≤◌, ℕ, List, subst}
use Rattle.mt_base.specs.Midi.{MidiEvent}
use Rattle.midi_model.specs.WellFormed.{IsWellFormed}
use Rattle.midi_model.specs.Notes.{sounding_on}
use Rattle.midi_model.specs.Music.{Music}
use Rattle.midi_model.specs.MusicLaws.{EventsSettle, NotesFade}
use Rattle.midi_model.specs.Receiver.{start, after}
use Rattle.retune_model.specs.FaultLaws.{OnlyZoneEntriesAskForZones}
use Rattle.state_laws.specs.Reached.{Reaches}
use Rattle.state_laws.specs.Sent.{SendsValidOnes}
use Rattle.state_laws.specs.HeardLaws.{Plays}
use Rattle.state_laws.specs.StateLaws.{ReceiversAreWellFormed, EachChannelIs}
use Rattle.bend_laws.proofs.Given.{Laws}
use Rattle.midi_model.proofs.Same.{music_all}
use Rattle.bend_laws.proofs.Bridge.{OneSounds, ReceiversStay, receivers_stay, bring_reaches}

-- as the receiver's law says it
abbrev pub OneNote : Type 0
OneNote = (es : List MidiEvent) (c k : ℕ) → sounding_on c k (after es).music.notes ≤ 1

pub one_sounds : OneNote → OneSounds
one_sounds law es c k = subst (λ (m : Music). sounding_on c k m.notes ≤ 1) (music_all start es) (law es c k)

-- what is cited of the crates below
pub record Cited : Type 0 where
  pub settle : EventsSettle
  pub fade : NotesFade
  pub zones : OnlyZoneEntriesAskForZones
  pub one : OneNote
  pub receivers : ReceiversAreWellFormed
  pub channels : EachChannelIs
  pub reaches : Reaches
  pub valid : SendsValidOnes
  pub plays : Plays

pub stays : Cited → ReceiversStay
stays c = receivers_stay c.receivers c.channels

pub all_laws : Cited → Laws IsWellFormed
all_laws c = record {
  bringing = bring_reaches c.settle (one_sounds c.one) (stays c) c.reaches c.valid c.plays;
  settle = c.settle;
  fade =
      c.fade;
  zones = c.zones;
}
