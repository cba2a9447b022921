-- The report on a source.
use Rattle.std.specs.Prelude.{ℕ, zero, suc, ◌+◌, List, [], ◌∷◌, ◌++◌, Bool, true, false, ◌&&◌, ◌||◌, nat_eq, if◌then◌else◌, Option, Some, None, length}
use Rattle.mt_base.specs.declared.event.Msg.TheVariants.{NoteOn}
use Rattle.mt_base.specs.Midi.{MidiWhat, Says, MidiEvent}
use Rattle.retune_model.specs.Options.{Route, ByBend, ByMpe, Options, bends_notes}
use Rattle.retune_model.specs.Ports.{events_on}
use Rattle.retune_model.specs.Faults.{Targets, is_part}
use Rattle.retune_model.specs.Dump.{parts_with_notes}
use Rattle.lifetimes.specs.Told.{count_begun}
use Rattle.key_report.specs.declared.keys.KeyError.{KeyError}
use Rattle.key_report.specs.Keys.{key_errors, whole_error}
use Rattle.key_report.specs.Texts.{key_lines, error_line}
use Rattle.channel_plan.specs.declared.plan.Plan.{Plan}
use Rattle.audit_report.specs.Played.{played_notes}
use Rattle.audit_report.specs.Texts.{audit_lines}
use Rattle.plan_report.specs.Reported.{needs_reported, zones_reported, channels_reported}
use Rattle.plan_report.specs.Texts.{channels_line}
use Rattle.mtune_core.specs.Lines.{route_line, notes_line}

-- whether an event begins a retuned note on a key
abbrev pub begins_on : Options → ℕ → MidiWhat → Bool
begins_on o key (Says (NoteOn c k (suc v))) = is_part o c && nat_eq k key
begins_on o key _ = false

-- whether some event does
abbrev pub uses_key : Options → ℕ → List MidiEvent → Bool
uses_key o key [] = false
uses_key o key (e ∷ es) = begins_on o key e.what || uses_key o key es

-- the sensitivity at which notes are bent, on the routes on which they are
abbrev pub bend_range : Options → Option ℕ
bend_range o = if bends_notes o.route then Some o.range else None

-- the errors of the keys that are used
abbrev pub errors_of : Options → Targets → List MidiEvent → List KeyError
errors_of o table es = key_errors (bend_range o) (λ key. table key 0) (λ key. uses_key o key es)

-- how many channels have retuned notes, on so many ports from one on
unfoldable pub channels_from : Options → List MidiEvent → ℕ → ℕ → ℕ
channels_from o es port zero = 0
channels_from o es port (suc n) = length (parts_with_notes o (events_on port es)) + channels_from o es (port + 1) n

-- on all ports
abbrev pub channels_of : Options → List MidiEvent → ℕ
channels_of o es = channels_from o es 0 256

-- On how many channels the output plays notes: where notes are bent, as many as the ports need; else, on the channels of the source.
abbrev pub channels_told : Options → Targets → List MidiEvent → ℕ
channels_told o table es = if bends_notes o.route then channels_reported o table es else channels_of o es

-- where notes are bent, what each port needs, or each zone of it, and the pairs at the instant
abbrev pub needs_told : Route → Options → Targets → List MidiEvent → List ℕ
needs_told ByBend o table es = needs_reported o table es
needs_told ByMpe o table es = zones_reported o table es
needs_told _ o table es = []

-- where an audit is asked for, a line for each retuned note, on the channel that a plan gives it or on its own
abbrev pub audit_told : Bool → Options → Targets → Option Plan → List MidiEvent → List ℕ
audit_told true o table plan es = audit_lines (bend_range o) table plan (played_notes o es)
audit_told false o table plan es = []

-- the route; each key that is used, what a device is told of it and its error; with an audit each retuned note; how many notes are
-- retuned, and on how many channels; what is needed; the error of the whole
abbrev pub report_of : Bool → Options → Targets → Option Plan → List MidiEvent → List ℕ
report_of audit o table plan es = route_line o.route ++ key_lines (errors_of o table es) ++ audit_told audit o table plan es
    ++ notes_line (count_begun o es) ++ channels_line (channels_told o table es) ++ needs_told o.route o table es
    ++ error_line (whole_error (errors_of o table es))
