-- Laws of what is said of the retuned notes.
use Rattle.std.specs.Prelude.{◌≡◌, ◌<◌, ℕ, List, true, if◌then◌else◌, Option, Some, None, is_some}
use Rattle.std.specs.List.{AllByRecursion}
use Rattle.mt_base.specs.Midi.{MidiEvent}
use Rattle.mt_base.specs.Valid.{IsValidEvent}
use Rattle.retune_model.specs.Options.{Options, bends_notes}
use Rattle.retune_model.specs.Table.{Scaling, IsTable, AreFewTerms}
use Rattle.retune_model.specs.Faults.{Targets}
use Rattle.retune_model.specs.SourceFaults.{IsFaultless}
use Rattle.key_report.specs.declared.keys.KeyError.{KeyError}
use Rattle.key_report.specs.KeyLaws.{HasError}
use Rattle.key_report.specs.Targets.{IsDevice, target_if}
use Rattle.audit_report.specs.declared.played.Played.{Played}
use Rattle.audit_report.specs.Played.{played_notes}
use Rattle.audit_report.specs.Texts.{note_error}

-- What is said of a note is so: its error, if it has one, holds of the pitch of its key in the scale in force when it begins.
abbrev pub HasNoteError : Scaling → Targets → Option ℕ → Played → Type 0
HasNoteError s table range p = (e : KeyError) → note_error range table p ≡ Some e → HasError s range p.onset e

abbrev pub NoteErrorsHold : Type 0
NoteErrorsHold = (s : Scaling) (table : Targets) (range : Option ℕ) (ps : List Played) → IsTable s table → AreFewTerms s → IsDevice range
    → AllByRecursion (HasNoteError s table range) ps

-- A note whose key has a target has a line.
abbrev pub NotesWithTargetsAreTold : Type 0
NotesWithTargetsAreTold = (table : Targets) (range : Option ℕ) (p : Played) → p.key < 128
    → is_some (target_if range (table p.key p.onset)) ≡ true → is_some (note_error range table p) ≡ true

-- A note has a line where it has an error.
abbrev pub HasLine : Targets → Option ℕ → Played → Type 0
HasLine table range p = is_some (note_error range table p) ≡ true

-- Each retuned note of a source without a fault has one, on every route.
abbrev pub EachNoteIsTold : Type 0
EachNoteIsTold = (o : Options) (table : Targets) (es : List MidiEvent) → AllByRecursion IsValidEvent es → IsFaultless o table es
    → AllByRecursion (HasLine table (if bends_notes o.route then Some o.range else None)) (played_notes o es)
