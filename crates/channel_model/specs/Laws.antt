-- Laws of the choice of channels, and of what the bend and MPE routes write.
use Rattle.std.specs.Prelude.{◌≡◌, ◌≤◌, ◌<◌, ℕ, suc, Bool, true, false, List, [], length, None}
use Rattle.std.specs.Set.{is_member}
use Rattle.mt_base.specs.Midi.{MidiEvent}
use Rattle.retune_model.specs.Options.{Options}
use Rattle.retune_model.specs.Ports.{PortEvents, of_port, events_on, port_at}
use Rattle.retune_model.specs.Faults.{Targets, is_part}
use Rattle.retune_model.specs.Pairs.{Pair, is_same_pair}
use Rattle.retune_model.specs.Rests.{pairs_at, held_at, IsAimedPort}
use Rattle.retune_model.specs.Runs.{TakesFree}
use Rattle.retune_model.specs.PortNeed.{TakesFreeOn}
use Rattle.retune_model.specs.PortOutput.{through}
use Rattle.channel_model.specs.Choice.{pair_on, is_taken, free_since, held_until, TakesBest, TakesShortest, TakesShortestMember}
use Rattle.channel_model.specs.BendOutput.{runs_on, unplayed, next_block, next_played, bend_output}
use Rattle.channel_model.specs.MpeOutput.{Zone, unzoned, zoned_block, next_zoned, mpe_output}

-- ---- the best place is a free one, so the laws of free places hold of it

abbrev pub BestIsFree : Type 0
BestIsFree = (at : ℕ → List Pair) (last n : ℕ) (cost : Pair → ℕ → ℕ → ℕ) (row : ℕ → ℕ) → TakesBest at last n cost row → TakesFree is_same_pair at last n row

-- on bend, and on MPE for the notes of one part
abbrev pub ShortestIsFree : Type 0
ShortestIsFree = (o : Options) (table : Targets) (es : List MidiEvent) (z n : ℕ) (row : ℕ → ℕ) →
    TakesShortest o table (port_at es z) (length es) n row → TakesFreeOn o (is_part o) table es z n row

abbrev pub ShortestMemberIsFree : Type 0
ShortestMemberIsFree = (o : Options) (part : ℕ → Bool) (table : Targets) (es : List MidiEvent) (z n : ℕ) (row : ℕ → ℕ) →
    TakesShortestMember o part table (port_at es z) (length es) n row → TakesFreeOn o part table es z n row

-- ---- the last event at which a run held its channel, by its last position

-- it was held there
abbrev pub HeldUntil : Type 0
HeldUntil = (o : Options) (part : ℕ → Bool) (table : Targets) (port : PortEvents) → IsAimedPort o part table port → (k : ℕ) (p : Pair) →
    is_member is_same_pair (pairs_at o part table port k) p ≡ true → is_member is_same_pair (held_at o part table port (held_until (held_at o part table port) k p)) p ≡ true

-- and at no later event up to the position at which a run of its pair begins again
abbrev pub NotHeldLater : Type 0
NotHeldLater = (o : Options) (part : ℕ → Bool) (table : Targets) (port : PortEvents) → IsAimedPort o part table port → (k : ℕ) (p : Pair) (j : ℕ) →
    held_until (held_at o part table port) k p < j → ((i : ℕ) → k < i → i < j → is_member is_same_pair (pairs_at o part table port i) p ≡ false) →
    is_member is_same_pair (held_at o part table port j) p ≡ false

-- ---- since when a place is free

-- from then on no run is on it
abbrev pub FreeFromThenOn : Type 0
FreeFromThenOn = (at : ℕ → List Pair) (row : ℕ → ℕ) (c k j : ℕ) → at 0 ≡ [] → free_since at row c k ≤ j → j ≤ k → pair_on at row c j ≡ None

-- right before one was
abbrev pub TakenRightBefore : Type 0
TakenRightBefore = (at : ℕ → List Pair) (row : ℕ → ℕ) (c k p : ℕ) → free_since at row c k ≡ suc p → is_taken (pair_on at row c p) ≡ true

-- ---- each port of an output is what the port's rule makes of the port's events

abbrev pub BentPorts : Type 0
BentPorts = (o : Options) (table : Targets) (channel : ℕ → ℕ → Pair → ℕ) (es : List MidiEvent) (z : ℕ) →
    events_on z (bend_output o table channel es)
    ≡ through (next_block o table (runs_on o table es channel z)) (next_played o table (runs_on o table es channel z)) unplayed (of_port z es)

abbrev pub ZonedPorts : Type 0
ZonedPorts = (o : Options) (table : Targets) (zones : ℕ → List Zone) (channel : ℕ → ℕ → Pair → ℕ) (es : List MidiEvent) (z : ℕ) →
    events_on z (mpe_output o table zones channel es)
    ≡ through (zoned_block o table (zones z) (runs_on o table es channel z)) (next_zoned o table (zones z) (runs_on o table es channel z)) unzoned (of_port z es)
