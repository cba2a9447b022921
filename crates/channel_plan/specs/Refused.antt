-- Why a source gets no plan.
use Rattle.std.specs.Prelude.{◌≡◌, ℕ, List, Bool, Some, map}
use Rattle.mt_base.specs.Midi.{MidiEvent}
use Rattle.retune_model.specs.Options.{Options}
use Rattle.retune_model.specs.Faults.{Targets}
use Rattle.retune_model.specs.SourceFaults.{IsFaultless, first_fault}
use Rattle.channel_model.specs.Refusals as refusals
use Rattle.lifetimes.specs.Views.{pair_of, fault_of}
use Rattle.channel_plan.specs.declared.fault.TooMany.{TooMany}
use Rattle.channel_plan.specs.declared.fault.PlanFault.{PlanFault}
use Rattle.channel_plan.specs.declared.fault.PlanFault.TheVariants.{Source, TooManyParts, TooManyChannels, Memory}

-- what is told of too many pairs, in the words of the definitions
abbrev pub too_many_of : TooMany → refusals.TooMany
too_many_of t = record { port = t.port; need = t.need; allowed = t.allowed; position = t.instant.position; tick = t.instant.tick; pairs = map pair_of t.pairs.items }

-- The first event with a source fault; else that a port has too many parts, or that it needs too many channels. Memory may always be wanting.
abbrev pub IsRefused : Options → (ℕ → Bool) → Targets → List MidiEvent → PlanFault → Type 0
IsRefused o allowed table es (Source f) = first_fault o table es ≡ Some (fault_of f)
IsRefused o allowed table es (TooManyParts z n) = IsFaultless o table es × refusals.Refuses o allowed table es (refusals.TooManyParts z n)
IsRefused o allowed table es (TooManyChannels t) = IsFaultless o table es × refusals.Refuses o allowed table es (refusals.TooManyChannels (too_many_of t))
IsRefused o allowed table es Memory = Unit {0}

-- The source isn't refused.
pub record IsTaken (o : Options) (allowed : ℕ → Bool) (table : Targets) (es : List MidiEvent) : Type 0 where
  pub faultless : IsFaultless o table es
  pub fits : refusals.Fits o allowed table es
