-- The report, line by line.
use Rattle.std.proofs.Common.{◌≡◌, ◌<◌, ◌≤◌, ◌^◌, ℕ, suc, List, [], ◌∷◌, ◌++◌, length, drop, nat_eq, Bool, true, false, cond, Option, Some, None, Result, Ok, Err, refl, ap, subst, ◌∙◌, arith}
use Rattle.std.specs.Prelude.{OnOk}
use Rattle.std.proofs.lemmas.List.{length-append}
use Rattle.mt_base.specs.Midi.{MidiEvent}
use Rattle.midi_model.specs.Notes.{Note}
use Rattle.retune_model.specs.Options.{Route, ByDump, ByLive, ByBend, ByMpe, Options, bends_notes}
use Rattle.retune_model.specs.Faults.{Targets, is_part}
use Rattle.retune_model.specs.PlaysTheSame.{begins_note}
use Rattle.retune_model.specs.Ports.{all_zero, port_of, ports_after}
use Rattle.audit_report.specs.declared.audit.Audit.{Audit}
use Rattle.audit_report.specs.declared.played.Played.{Played}
use Rattle.audit_report.specs.Audit.{IsAudit}
use Rattle.audit_report.specs.Played.{dealt, first_on, notes_on, played_notes}
use Rattle.audit_report.specs.Texts.{audit_lines}
use Rattle.channel_plan.specs.declared.plan.Plan.{Plan}
use Rattle.lifetimes.specs.Told.{count_begun}
use Rattle.key_report.specs.declared.keys.KeyError.{KeyError}
use Rattle.key_report.specs.Keys.{whole_error}
use Rattle.key_report.specs.Texts.{key_lines, error_line}
use Rattle.plan_report.specs.Reported.{PlansAreReported, channels_reported}
use Rattle.plan_report.specs.Texts.{channels_line}
use Rattle.plan_report.specs.Told.{need_lines, zone_lines}
use Rattle.mtune_core.specs.Lines.{route_line, notes_line}
use Rattle.mtune_core.specs.Report.{audit_told, bend_range, channels_of, channels_told, errors_of, needs_told, report_of}
use Rattle.mtune_core.specs.Survey.{IsAudited, IsOfFew}
use Rattle.mtune_core.specs.Written.{IsSaidOf}

-- what is appended in turn
pub behind : (start : List ℕ) (front : List ℕ → List ℕ) (channels needs line a b c d : List ℕ) → start ≡ [] → a ≡ front start → b ≡ a ++ channels
    → c ≡ b ++ needs → d ≡ c ++ line → d ≡ front [] ++ channels ++ needs ++ line
behind start front channels needs line a b c d begun one two three four =
    four ∙ ap (λ x. x ++ line) (three ∙ ap (λ x. x ++ needs) (two ∙ ap (λ x. x ++ channels) (one ∙ ap front begun)))

-- the report by what its lines speak of
abbrev text_by : Route → List KeyError → List ℕ → ℕ → ℕ → List ℕ → List ℕ
text_by route keys played notes channels needs =
    route_line route ++ key_lines keys ++ played ++ notes_line notes ++ channels_line channels ++ needs ++ error_line (whole_error keys)

pub is_report : (asked : Bool) (o : Options) (table : Targets) (plan : Option Plan) (es : List MidiEvent) (keys : List KeyError)
    (notes channels : ℕ) (needs : List ℕ) → keys ≡ errors_of o table es → notes ≡ count_begun o es → channels ≡ channels_told o table es
    → needs ≡ needs_told o.route o table es
    → text_by o.route keys (audit_told asked o table plan es) notes channels needs ≡ report_of asked o table plan es
is_report asked o table plan es keys notes channels needs k n c m =
    let played = audit_told asked o table plan es in
    ap (λ x. text_by o.route x played notes channels needs) k
    ∙ ap (λ x. text_by o.route (errors_of o table es) played x channels needs) n
    ∙ ap (λ x. text_by o.route (errors_of o table es) played (count_begun o es) x needs) c
    ∙ ap (λ x. text_by o.route (errors_of o table es) played (count_begun o es) (channels_told o table es) x) m

-- ---- the notes of an audit

-- an audit that was taken is asked for, and its notes are those of the source
pub played_said : (asked : Bool) (o : Options) (table : Targets) (plan : Option Plan) (es : List MidiEvent) (x : Option Audit) (audit : Audit)
    (notes : List Played) → x ≡ Some audit → IsAudited asked o es x → (IsAudit o es audit → notes ≡ played_notes o es)
    → audit_lines (bend_range o) table plan notes ≡ audit_told asked o table plan es
played_said true o table plan es x audit notes is h read =
    ap (audit_lines (bend_range o) table plan) (read (subst (IsAudited true o es) is h))
played_said false o table plan es x audit notes is h read = absurd (subst (IsAudited false o es) is h)

pub no_other : {A : Type 0} (x : Option A) → ((a : A) → x ≡ Some a → ⊥) → x ≡ None
no_other None h = refl
no_other (Some a) h = absurd (h a refl)

-- where there is none, none is asked for
pub none_said : (asked : Bool) (o : Options) (table : Targets) (plan : Option Plan) (es : List MidiEvent) (x : Option Audit) → x ≡ None
    → IsAudited asked o es x → [] ≡ audit_told asked o table plan es
none_said true o table plan es x is h = absurd (subst (IsAudited true o es) is h)
none_said false o table plan es x is h = refl

-- There are no more notes than events.
few_first : (z : ℕ) (left : List Note) → length (first_on z left) ≤ 1
few_first z [] = omega arith
few_first z (n ∷ ns) = omega arith

few_dealt : (o : Options) (ports : ℕ → ℕ) (left : ℕ → List Note) (es : List MidiEvent) → length (dealt o ports left es) ≤ length es
few_dealt o ports left [] = omega arith
few_dealt o ports left (e ∷ es) =
    pick (begins_note (is_part o) e.what) (few_dealt o (ports_after ports e) others es) (few_dealt o (ports_after ports e) left es)
  where
    z : ℕ
    z = port_of ports e

    others : ℕ → List Note
    others y = cond (nat_eq y z) (drop 1 (left y)) (left y)

    pick : (b : Bool) → length (dealt o (ports_after ports e) others es) ≤ length es → length (dealt o (ports_after ports e) left es) ≤ length es
        → length (cond b (first_on z (left z) ++ dealt o (ports_after ports e) others es) (dealt o (ports_after ports e) left es)) ≤ suc (length es)
    pick true more same =
        let one = few_first z (left z) in
        let parts = length-append (first_on z (left z)) (dealt o (ports_after ports e) others es) in
        omega (arith, one, more, parts)
    pick false more same = omega (arith, same)

pub few_played : (o : Options) (audit : Audit) (notes : List Played) → ((es : List MidiEvent) → IsAudit o es audit → notes ≡ played_notes o es)
    → IsOfFew o audit → length notes < 2 ^ 32
few_played o audit notes read few =
    let some = ap length (read few.events few.is_audit) in
    let less = few_dealt o all_zero (notes_on o few.events) few.events in
    let low = few.few in
    omega (arith, some, less, low)

-- on dump and live
pub plain_channels : (o : Options) (table : Targets) (es : List MidiEvent) → bends_notes o.route ≡ false → channels_told o table es ≡ channels_of o es
plain_channels o table es plain = ap (λ b. cond b (channels_reported o table es) (channels_of o es)) plain

pub no_needs : (o : Options) (table : Targets) (es : List MidiEvent) → bends_notes o.route ≡ false → [] ≡ needs_told o.route o table es
no_needs o table es plain = pick o.route plain
  where
    pick : (r : Route) → bends_notes r ≡ false → [] ≡ needs_told r o table es
    pick ByDump p = refl
    pick ByLive p = refl
    pick ByBend p = absurd cc
    pick ByMpe p = absurd cc

-- on bend and MPE
pub planned_channels : (o : Options) (table : Targets) (es : List MidiEvent) → bends_notes o.route ≡ true
    → channels_told o table es ≡ channels_reported o table es
planned_channels o table es bends = ap (λ b. cond b (channels_reported o table es) (channels_of o es)) bends

pub needs_said : {A E : Type 0} → PlansAreReported → (r : Result A E) (plan : Plan) (old new : List ℕ) → OnOk r (new ≡ old ++ need_lines plan)
    → OnOk r (IsSaidOf plan ByBend old new)
needs_said law (Ok x) plan old new h = λ o allowed table es route is. h ∙ ap (λ l. old ++ l) (law o allowed table es plan is).needs
needs_said law (Err e) plan old new h = tt

pub zones_said : {A E : Type 0} → PlansAreReported → (r : Result A E) (plan : Plan) (old new : List ℕ) → OnOk r (new ≡ old ++ zone_lines plan)
    → OnOk r (IsSaidOf plan ByMpe old new)
zones_said law (Ok x) plan old new h = λ o allowed table es route is. h ∙ ap (λ l. old ++ l) (law o allowed table es plan is).zones
zones_said law (Err e) plan old new h = tt
