-- Why an event isn't taken, other than by a fault of the source.
use Rattle.lifetimes.specs.declared.fault.StepFault.{StepFault}
use Rattle.lifetimes.specs.declared.fault.StepFault.TheVariants.{Memory}

abbrev pub wanting : StepFault
wanting = Memory
