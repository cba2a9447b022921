-- The printed lines of retuned notes (this project's own).
use Rattle.std.specs.Prelude.{ℕ, suc, List, [], ◌∷◌, ◌++◌, Bool, true, false, not, ◌==◌, nat_lt, if◌then◌else◌, codes, decimal, Option, Some, None, filter_map, unwrap_or}
use Rattle.std.specs.List.{list_any}
use Rattle.retune_model.specs.Faults.{Targets}
use Rattle.key_report.specs.declared.keys.KeyError.{KeyError}
use Rattle.key_report.specs.declared.range.ErrorRange.{ErrorRange}
use Rattle.key_report.specs.Keys.{error_if}
use Rattle.key_report.specs.Texts.{error_text}
use Rattle.channel_plan.specs.declared.plan.Plan.{Plan}
use Rattle.channel_plan.specs.Told.{channel_in}
use Rattle.audit_report.specs.declared.played.Played.{Played}

-- by how much what a device is told of a note is too high; none where it has no target
abbrev pub note_error : Option ℕ → Targets → Played → Option KeyError
note_error range table p = if nat_lt p.key 128 then error_if range p.key (table p.key p.onset) else None

abbrev pub audit_errors : Option ℕ → Targets → List Played → List KeyError
audit_errors range table ps = filter_map (note_error range table) ps

-- the channel on which the i-th note is played: that of a plan, or its own
abbrev pub channel_told : Option Plan → ℕ → Played → ℕ
channel_told None i p = p.part.channel
channel_told (Some plan) i p = unwrap_or (channel_in plan i) p.part.channel

-- whether some note is on another port than 0; then each line names the port of its note
abbrev pub names_ports : List Played → Bool
names_ports ps = list_any (λ p. not (p.part.port == 0)) ps

abbrev pub port_text : Bool → ℕ → List ℕ
port_text true z = codes " port " ++ decimal z
port_text false z = []

-- the tick at which a note ends, if it does
abbrev pub end_text : Option ℕ → List ℕ
end_text None = codes "none"
end_text (Some t) = decimal t

-- the i-th note, its part and its key
abbrev pub front_text : Bool → ℕ → Played → List ℕ
front_text ports i p = codes "note " ++ decimal i ++ codes " part " ++ decimal (suc p.part.channel) ++ port_text ports p.part.port
    ++ codes " key " ++ decimal p.key

-- where and when it is played, and how loud
abbrev pub sound_text : ℕ → Played → List ℕ
sound_text channel p = codes " channel " ++ decimal (suc channel) ++ codes " tick " ++ decimal p.onset ++ codes " to " ++ end_text p.ended
    ++ codes " velocity " ++ decimal p.velocity

abbrev pub note_line : Bool → ℕ → ℕ → Played → ErrorRange → List ℕ
note_line ports i channel p e = front_text ports i p ++ sound_text channel p ++ codes " " ++ error_text e

abbrev pub line_if : Bool → ℕ → ℕ → Played → Option KeyError → List ℕ
line_if ports i channel p None = []
line_if ports i channel p (Some e) = note_line ports i channel p e.error

-- the lines of notes, of which the first is the i-th
abbrev pub lines_from : Option ℕ → Targets → Option Plan → Bool → ℕ → List Played → List ℕ
lines_from range table plan ports i [] = []
lines_from range table plan ports i (p ∷ ps) =
    line_if ports i (channel_told plan i p) p (note_error range table p) ++ lines_from range table plan ports (suc i) ps

-- a line for each note
abbrev pub audit_lines : Option ℕ → Targets → Option Plan → List Played → List ℕ
audit_lines range table plan ps = lines_from range table plan (names_ports ps) 1 ps
