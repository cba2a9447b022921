-- What the program answers for a fault of its parts.
use Rattle.scl_text.specs.declared.fault.SclFault.{SclFault}
use Rattle.scl_text.specs.declared.fault.SclFault.TheVariants as scl
use Rattle.kbm_text.specs.declared.fault.KbmFault.{KbmFault}
use Rattle.kbm_text.specs.declared.fault.KbmFault.TheVariants as kbm
use Rattle.smf_read.specs.declared.fault.SmfFault.{SmfFault}
use Rattle.smf_read.specs.declared.fault.SmfFault.TheVariants as smf
use Rattle.lifetimes.specs.declared.fault.StepFault.{StepFault}
use Rattle.lifetimes.specs.declared.fault.StepFault.TheVariants as step
use Rattle.key_pitch.specs.declared.fault.TuneFault.{TuneFault}
use Rattle.key_pitch.specs.declared.fault.TuneFault.TheVariants as tune
use Rattle.channel_plan.specs.declared.fault.PlanFault.{PlanFault}
use Rattle.channel_plan.specs.declared.fault.PlanFault.TheVariants as plan
use Rattle.command_line.specs.declared.fault.WordsFault.{WordsFault}
use Rattle.command_line.specs.declared.fault.WordsFault.TheVariants as words
use Rattle.mtune_core.specs.declared.outcome.Fault.{Fault}
use Rattle.mtune_core.specs.declared.outcome.Fault.TheVariants.{Usage, Scl, Kbm, ReferenceUnmapped, TooManyPeriods, Smf, Source, TooManyParts, TooManyChannels, Memory}

abbrev pub of_memory : Fault
of_memory = Memory

abbrev pub of_words : WordsFault → Fault
of_words (words.Usage kind) = Usage kind
of_words words.Memory = Memory

abbrev pub of_scale : SclFault → Fault
of_scale (scl.At line kind) = Scl line kind
of_scale scl.Memory = Memory

abbrev pub of_mapping : KbmFault → Fault
of_mapping (kbm.At line kind) = Kbm line kind
of_mapping kbm.Memory = Memory

abbrev pub of_tuning : TuneFault → Fault
of_tuning (tune.ReferenceUnmapped key) = ReferenceUnmapped key
of_tuning (tune.TooManyPeriods key) = TooManyPeriods key

abbrev pub of_file : SmfFault → Fault
of_file (smf.At offset kind) = Smf offset kind
of_file smf.Memory = Memory

abbrev pub of_step : StepFault → Fault
of_step (step.Source f) = Source f
of_step step.Memory = Memory

abbrev pub of_plan : PlanFault → Fault
of_plan (plan.Source f) = Source f
of_plan (plan.TooManyParts port parts) = TooManyParts port parts
of_plan (plan.TooManyChannels t) = TooManyChannels t
of_plan plan.Memory = Memory
