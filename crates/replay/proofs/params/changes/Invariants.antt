use Rattle.std.proofs.Common.{◌≡◌, ◌≤◌, ◌++◌, ◌+◌, length, take}
use Rattle.midi_model.specs.Bring.{to_default, to_other}
use Rattle.receiver.specs.Params.{entries_of}
use Rattle.receiver.specs.State.{own_of}
use Rattle.replay.proofs.params.changes.Given as goal

abbrev pub invariant-loop-param : goal.invariant-loop-param
invariant-loop-param l = record {
  listed : entries_of l.changes.items
      ≡ to_default (entries_of (take l.param-index l.param-items)) (own_of l.wanted).params;
  few : length l.changes.items ≤ l.param-index;
}

abbrev pub invariant-loop-param-2 : goal.invariant-loop-param-2
invariant-loop-param-2 l = record {
  listed : entries_of l.changes.items
      ≡ to_default (own_of l.now).params (own_of l.wanted).params ++ to_other (own_of l.now).params (entries_of (take l.param-index l.param-items));
  few : length l.changes.items ≤ 20 + l.param-index;
}
