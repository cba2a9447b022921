use Rattle.std.proofs.Common.{◌≡◌, drop}
use Rattle.receiver.specs.State.{own_of}
use Rattle.lifetimes.specs.Pressing.{pressed_by_all}
use Rattle.lifetimes.proofs.port.Port.press_targets.Given as goal

-- the notes that are left finish what was begun
abbrev pub invariant-loop-note : goal.invariant-loop-note
invariant-loop-note l =
    (own_of l.state ≡ own_of l.initial.state)
    × (l.state.tuning ≡ l.initial.state.tuning)
    × (pressed_by_all l.source.keys.items (drop l.note-index l.note-items) l.state.keys.items ≡ pressed_by_all l.source.keys.items l.note-items l.initial.state.keys.items)
