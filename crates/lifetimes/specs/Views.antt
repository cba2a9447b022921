-- What the program's values stand for: options, parts, pairs and faults as the definitions have them.
use Rattle.std.specs.Prelude.{ℤ, Option, Some, None}
use Rattle.mt_base.specs.declared.pair.Part.{Part as PartOf}
use Rattle.mt_base.specs.declared.pair.Pair.{Pair as PairOf}
use Rattle.retune_model.specs.Options.{Route as By, ByDump, ByLive, ByBend, ByMpe, Options as Asked}
use Rattle.retune_model.specs.Pairs.{Part, Pair}
use Rattle.retune_model.specs.Faults.{Kind, UnmappedKey, KeyOutOfDevice, Unison, BendTooFar, ModeMessage, DataStep, TuningInSource, MpeSource, Port, TooManyParameters, PolyInMpe, Restrike}
use Rattle.retune_model.specs.SourceFaults.{Fault}
use Rattle.lifetimes.specs.declared.options.Route.{Route}
use Rattle.lifetimes.specs.declared.options.Route.TheVariants.{Dump, Live, Bend, Mpe}
use Rattle.lifetimes.specs.declared.options.Options.{Options}
use Rattle.lifetimes.specs.declared.fault.SourceFault.{SourceFault}
use Rattle.lifetimes.specs.declared.fault.SourceKind.{SourceKind}
use Rattle.lifetimes.specs.declared.fault.SourceKind.TheVariants as kinds

abbrev pub route_of : Route → By
route_of Dump = ByDump
route_of Live = ByLive
route_of Bend = ByBend
route_of Mpe = ByMpe

abbrev pub options_of : Options → Asked
options_of o = record { route = route_of o.route; range = o.range; keep_drums = o.keep_drums; program = o.program; tail = o.tail }

abbrev pub part_of : PartOf → Part
part_of p = record { port = p.port; channel = p.channel }

abbrev pub pair_of : PairOf → Pair
pair_of p = record { part = part_of p.part; steps = p.steps }

abbrev pub kind_of : SourceKind → Kind
kind_of kinds.UnmappedKey = UnmappedKey
kind_of kinds.KeyOutOfDevice = KeyOutOfDevice
kind_of kinds.Unison = Unison
kind_of (kinds.BendTooFar q r) = BendTooFar
kind_of kinds.ModeMessage = ModeMessage
kind_of kinds.DataStep = DataStep
kind_of kinds.TuningInSource = TuningInSource
kind_of kinds.MpeSource = MpeSource
kind_of kinds.Port = Port
kind_of kinds.TooManyParameters = TooManyParameters
kind_of kinds.PolyInMpe = PolyInMpe
kind_of kinds.Restrike = Restrike

-- the steps of the pair and of its part's bend, where a bend goes too far
abbrev pub bend_in : SourceKind → Option (ℤ × ℤ)
bend_in (kinds.BendTooFar q r) = Some (q, r)
bend_in _ = None

abbrev pub fault_of : SourceFault → Fault
fault_of f = record { position = f.position; tick = f.tick; track = f.track; kind = kind_of f.kind; bend = bend_in f.kind }
