use Rattle.std.proofs.Common.{◌≡◌, ◌-◌}
use Rattle.std.specs.List.{find, range_with_len}
use Rattle.octave_route.specs.Classes.{is_of_class, least_used}
use Rattle.octave_route.proofs.fitting.least_used.Given as goal

abbrev pub invariant-loop-key : goal.invariant-loop-key
invariant-loop-key l = least_used l.used l.class ≡ find (is_of_class l.used l.class) (range_with_len l.key (128 - l.key))
