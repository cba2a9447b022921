-- What is made of an input, by a table.
use Rattle.std.specs.Prelude.{ℕ, List}
use Rattle.retune_model.specs.Table.{Scaling, AreFewTerms}
use Rattle.retune_model.specs.Faults.{Targets}
use Rattle.mtune_files.specs.Outside.{Outside}
use Rattle.command_line.specs.Words.{Command}
use Rattle.mtune_core.specs.Inputs.{Input}
use Rattle.mtune_core.specs.Retuned.{IsRetuned}
use Rattle.mtune_core.specs.Table.{IsOneTable}

-- it is made so in each scale of which this is a table
abbrev pub MadeOf : Command → Targets → List ℕ → List ℕ → List ℕ → Type 0
MadeOf c table input output report = (scaling : Scaling) → IsOneTable scaling table → AreFewTerms scaling
    → IsRetuned scaling c table input output report

abbrev pub MadeFrom : Outside → Command → Targets → List ℕ → List ℕ → Type 0
MadeFrom outside c table output report = (input : Input outside c) × MadeOf c table input.bytes output report
