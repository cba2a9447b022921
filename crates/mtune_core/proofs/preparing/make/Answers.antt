use Rattle.std.proofs.Common.{subst}
use Rattle.std.specs.Prelude.{IfSome}
use Rattle.std.proofs.Common.{◌≤◌, ℕ}
use Rattle.command_line.specs.Words.{view_command}
use Rattle.key_pitch.specs.Aims.{by_onset}
use Rattle.mtune_core.proofs.Entered.{made_of_loaded, after_loaded, loaded_stops, made_of_sample, after_sample, sample_stops}
use Rattle.mtune_core.proofs.preparing.make.Goals as goal

pub make_sample-requires : goal.make_sample-requires
make_sample-requires g c =
    let some = subst (λ s. IfSome s (λ (n : ℕ). (1 ≤ n) × (n ≤ 100000))) c.in-Some.is c.requires.sample in
    record { range = c.requires.range; some = some.0; few = some.1 }

pub load_input-requires : goal.load_input-requires
load_input-requires g c = record { range = c.requires.range }

pub returns-in-Some-clause-made : goal.returns-in-Some-clause-made
returns-in-Some-clause-made g c = made_of_sample c.make_sample.result (g.F.Files.outside c.args.files.now) (view_command c.args.command.now)
    (by_onset c.args.table.now) c.in-Some.chords c.in-Some.is
    c.make_sample.ensures.short c.make_sample.ensures.made

pub returns-in-Some-clause-loaded : goal.returns-in-Some-clause-loaded
returns-in-Some-clause-loaded g c =
    after_sample c.make_sample.result (g.F.Files.outside c.args.files.now) (view_command c.args.command.now) c.in-Some.chords c.in-Some.is

pub returns-in-Some-clause-cause : goal.returns-in-Some-clause-cause
returns-in-Some-clause-cause g c = sample_stops c.make_sample.result (g.F.Files.outside c.args.files.now) (view_command c.args.command.now)
    (by_onset c.args.table.now) c.in-Some.chords c.in-Some.is
    c.make_sample.ensures.cause

pub returns-in-None-clause-made : goal.returns-in-None-clause-made
returns-in-None-clause-made g c = made_of_loaded c.load_input.result (g.F.Files.outside c.args.files.now) (view_command c.args.command.now)
    (by_onset c.args.table.now) c.in-None.is c.load_input.ensures.made

pub returns-in-None-clause-loaded : goal.returns-in-None-clause-loaded
returns-in-None-clause-loaded g c = after_loaded c.load_input.result (g.F.Files.outside c.args.files.now) (g.F.Files.outside c.load_input.new.files)
    (view_command c.args.command.now) c.in-None.is c.load_input.ensures.loaded

pub returns-in-None-clause-cause : goal.returns-in-None-clause-cause
returns-in-None-clause-cause g c = loaded_stops c.load_input.result (g.F.Files.outside c.args.files.now) (g.F.Files.outside c.load_input.new.files)
    (view_command c.args.command.now) (by_onset c.args.table.now) c.in-None.is
    c.load_input.ensures.cause
