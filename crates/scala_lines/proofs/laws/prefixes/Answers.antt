use Rattle.scala_lines.proofs.Prefixes.{prefix_behind, prefix_are, behind_stops, prefix_at, behind_at}
use Rattle.scala_lines.proofs.laws.prefixes.Goals as goal

pub returns : goal.returns
returns c = record { whole = prefix_behind; passes = prefix_are; stops = behind_stops; prefix = prefix_at; behind = behind_at }
