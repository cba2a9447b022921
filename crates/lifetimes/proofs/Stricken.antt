-- A reset begins no note.
use Rattle.std.proofs.Common.{◌≡◌, ℕ, true, None, refl}
use Rattle.mt_base.specs.Midi.{MidiWhat, Says, SysexOf, MetaOf}
use Rattle.retune_model.specs.Options.{Options}
use Rattle.retune_model.specs.Faults.{Targets}
use Rattle.lifetimes.specs.Told.{strike_of}
use Rattle.lifetimes.specs.Port.{is_reset_of}

pub reset_strikes_none : (o : Options) (table : Targets) (t : ℕ) (what : MidiWhat) → is_reset_of what ≡ true → strike_of o table t what ≡ None
reset_strikes_none o table t (Says msg) h = absurd cc
reset_strikes_none o table t (SysexOf lead bs) h = refl
reset_strikes_none o table t (MetaOf kind bs) h = refl
