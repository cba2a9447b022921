-- What is said of notes holds of them.
use Rattle.std.proofs.Common.{◌≡◌, ℕ, [], ◌∷◌, Bool, true, false, cond, Option, Some, None, refl, ap, ◌∙◌}
use Rattle.std.specs.Prelude.{nat_lt, is_some, option_map}
use Rattle.std.proofs.lemmas.Bool.{lt-ltb, ltb-true}
use Rattle.retune_model.specs.Table.{Bounds, Scaling, IsTable, AreFewTerms}
use Rattle.retune_model.specs.Faults.{Targets}
use Rattle.key_report.specs.declared.target.Target.{Target}
use Rattle.key_report.specs.KeyLaws.{HasError, NoteErrorHolds}
use Rattle.key_report.specs.Keys.{error_if, error_of}
use Rattle.key_report.specs.Targets.{IsDevice, target_if, target_of}
use Rattle.audit_report.specs.declared.played.Played.{Played}
use Rattle.audit_report.specs.Laws.{HasNoteError, NoteErrorsHold, NotesWithTargetsAreTold}

holds : NoteErrorHolds → (s : Scaling) (table : Targets) (range : Option ℕ) (p : Played) → IsTable s table → AreFewTerms s → IsDevice range
    → HasNoteError s table range p
holds law s table range p is few device e h = pick (nat_lt p.key 128) refl h
  where
    pick : (b : Bool) → nat_lt p.key 128 ≡ b → cond b (error_if range p.key (table p.key p.onset)) None ≡ Some e → HasError s range p.onset e
    pick true l g = law s table range p.onset p.key e is few device (ltb-true p.key 128 l) g
    pick false l g = absurd cc

pub note_errors_hold : NoteErrorHolds → NoteErrorsHold
note_errors_hold law s table range [] is few device = tt
note_errors_hold law s table range (p ∷ ps) is few device =
    (holds law s table range p is few device, note_errors_hold law s table range ps is few device)

of_target : (range : Option ℕ) (key : ℕ) (b : Bounds) (t : Option Target) → is_some t ≡ true → is_some (option_map (error_of range key b) t) ≡ true
of_target range key b None h = absurd cc
of_target range key b (Some t) h = refl

of_bounds : (range : Option ℕ) (key : ℕ) (o : Option Bounds) → is_some (target_if range o) ≡ true → is_some (error_if range key o) ≡ true
of_bounds range key None h = absurd cc
of_bounds range key (Some b) h = of_target range key b (target_of range b) h

pub notes_are_told : NotesWithTargetsAreTold
notes_are_told table range p low h =
    ap (λ b. is_some (cond b (error_if range p.key (table p.key p.onset)) None)) (lt-ltb p.key 128 low)
    ∙ of_bounds range p.key (table p.key p.onset) h
