-- The outside from step to step of a call.
use Rattle.std.proofs.Common.{◌≡◌, ℕ, List, true, false, Option, Some, None, Result, Ok, Err, ap, subst, ◌∙◌, inr}
use Rattle.std.specs.Prelude.{IfOk, IfErr, OnOk, OnErr, is_err}
use Rattle.retune_model.specs.Faults.{Targets}
use Rattle.mtune_files.specs.Outside.{Outside, after_store}
use Rattle.command_line.specs.Words.{Command, Read, reading_of}
use Rattle.mtune_core.specs.declared.made.Made.{Made}
use Rattle.mtune_core.specs.declared.outcome.Fault.{Fault}
use Rattle.mtune_core.specs.Call.{IsPrepared, IsMade, CommandCause, after_loads}
use Rattle.mtune_core.specs.Inputs.{IsInput, InputStops}
use Rattle.mtune_core.specs.Made.{MadeFrom}
use Rattle.mtune_core.specs.Table.{TableFrom, scaling_of, after_texts}

-- ---- from the table to what is made

-- a load changes nothing that is held
same_input : (sample : Option ℕ) (o : Outside) (c : Command) (bytes : List ℕ) → IsInput (after_texts c o) sample c.input bytes
    → IsInput o sample c.input bytes
same_input None o c bytes h = h
same_input (Some chords) o c bytes h = h

pub prepared : (r : Result Made Fault) (o mid : Outside) (c : Command) (table : Targets) → mid ≡ after_texts c o → TableFrom o c table
    → IfOk r (λ made. MadeFrom mid c table made.output.items made.report.items) → IfOk r (λ made. IsPrepared o c made.output.items made.report.items)
prepared (Ok made) o mid c table e t m =
    let n : MadeFrom (after_texts c o) c table made.output.items made.report.items =
    subst (λ p. MadeFrom p c table made.output.items made.report.items) e m in
    record {
      tuning = t.0;
      table = table;
      is_table = t.1;
      input = record { bytes = n.0.bytes; is_input = same_input c.sample o c n.0.bytes n.0.is_input; short = n.0.short };
      retuned = n.1 (scaling_of t.0) t.1 t.0.few;
    }
prepared (Err fault) o mid c table e t m = tt

pub input_stopped : (r : Result Made Fault) (o mid now : Outside) (c : Command) (table : Targets) → mid ≡ after_texts c o → TableFrom o c table
    → IfErr r (λ e. InputStops c.sample c table mid now e) → IfErr r (λ e. CommandCause c o now e)
input_stopped (Ok made) o mid now c table e t h = tt
input_stopped (Err fault) o mid now c table e t h = inr (table, t, subst (λ p. InputStops c.sample c table p now fault) e h)

abbrev pub made_for : (o : Outside) (words : List (List ℕ)) (c : Command) (output report : List ℕ) → reading_of words ≡ Read c
    → IsPrepared o c output report → IsMade o words
made_for o words c output report is_command is_prepared =
    record { command = c; output = output; report = report; is_command = is_command; is_prepared = is_prepared }

-- ---- the store and the say
pub of_err : {T E : Type 0} {P : Type 0} (r : Result T E) → true ≡ is_err r → OnErr r P → P
of_err (Ok x) e h = absurd cc
of_err (Err x) e h = h

pub of_ok : {T E : Type 0} {P : Type 0} (r : Result T E) → false ≡ is_err r → OnOk r P → P
of_ok (Ok x) e h = h
of_ok (Err x) e h = absurd cc

pub is_stored : (o mid now : Outside) (c : Command) (name content seen : List ℕ) → mid ≡ after_loads c o → now ≡ after_store name seen mid
    → seen ≡ content
    → now ≡ after_store name content (after_loads c o)
is_stored o mid now c name content seen loaded stored same =
    stored ∙ ap (λ p. after_store name seen p) loaded ∙ ap (λ b. after_store name b (after_loads c o)) same
