-- The law of one event on the bend route.
use Rattle.std.specs.Prelude.{ℕ, Bool}
use Rattle.mt_base.specs.Midi.{MidiEvent}
use Rattle.midi_model.specs.WellFormed.{IsWellFormed}
use Rattle.retune_model.specs.Options.{Options}
use Rattle.retune_model.specs.Faults.{Targets}
use Rattle.bend_laws.specs.Moments.{Moment, Both, next_both}
use Rattle.bend_laws.specs.Follows.{IsGiven, AreUsed, Follows}

-- each event of the port, with its block, keeps the relation
abbrev pub EventsKeepFollowing : Type 0
EventsKeepFollowing = (port : ℕ) (o : Options) (table : Targets) (used : ℕ → Bool) (k : Moment) (b : Both) (e : MidiEvent) → AreUsed o used →
    Follows IsWellFormed port o table used k.old k.was b → IsGiven IsWellFormed port o table used k b.source e →
    Follows IsWellFormed port o table used k.new k.is (next_both port o table k b e)
