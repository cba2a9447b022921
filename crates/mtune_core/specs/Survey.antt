-- What a pass over a source finds.
use Rattle.std.specs.Prelude.{◌≡◌, ◌<◌, ◌≤◌, ℕ, suc, List, length, Bool, true, false, Option, Some, None, if◌then◌else◌}
use Rattle.mt_base.specs.declared.event.Msg.TheVariants.{NoteOn}
use Rattle.mt_base.specs.Midi.{MidiWhat, Says, MidiEvent}
use Rattle.retune_model.specs.Options.{Options}
use Rattle.retune_model.specs.Faults.{is_part}
use Rattle.lifetimes.specs.Noted.{IsNoted}
use Rattle.lifetimes.specs.Told.{count_begun}
use Rattle.key_report.specs.Keys.{is_used}
use Rattle.audit_report.specs.Audit.{IsAudit}
use Rattle.audit_report.specs.declared.audit.Audit.{Audit}
use Rattle.mtune_core.specs.declared.counting.Used.{Used}
use Rattle.mtune_core.specs.declared.survey.Found.{Found}
use Rattle.mtune_core.specs.Report.{uses_key}

-- the key of the retuned note that an event begins
abbrev pub key_begun : Options → MidiWhat → Option ℕ
key_begun o (Says (NoteOn c k (suc v))) = if is_part o c then Some k else None
key_begun o _ = None

-- how many retuned notes there are, and on which keys
pub record IsUsed (o : Options) (es : List MidiEvent) (used : Used) : Type 0 where
  pub notes : used.notes ≡ count_begun o es
  pub keys : (key : ℕ) → key < 128 → is_used used.keys key ≡ uses_key o key es

-- and which retuned parts have notes
pub record IsFound (o : Options) (es : List MidiEvent) (found : Found) : Type 0 where
  pub noted : IsNoted o es found.noted
  pub used : IsUsed o es found.used

-- how each retuned note is played, where it is asked for
abbrev pub IsAudited : Bool → Options → List MidiEvent → Option Audit → Type 0
IsAudited true o es (Some audit) = IsAudit o es audit
IsAudited false o es None = Unit {0}
IsAudited _ o es _ = ⊥

-- of some source that isn't longer than the program takes
pub record IsOfFew (o : Options) (audit : Audit) : Type 0 where
  pub events : List MidiEvent
  pub is_audit : IsAudit o events audit
  pub few : length events ≤ 2097152
