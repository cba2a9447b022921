use Rattle.std.proofs.Common.{◌≡◌, ◌++◌, ◌∷◌, [], take}
use Rattle.mts_msg.proofs.writing.dump_head.Given as goal

abbrev pub invariant-loop-byte : goal.invariant-loop-byte
invariant-loop-byte l = l.out.items ≡ (0x7e ∷ 0x7f ∷ 0x08 ∷ 0x01 ∷ l.program ∷ []) ++ take l.byte-index l.byte-items
