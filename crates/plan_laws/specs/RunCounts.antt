-- Laws of how many runs begin at an event, by the note that it begins, and of the runs of one part among those of all.
use Rattle.std.specs.Prelude.{◌≡◌, ◌≤◌, ℕ, suc, List, [], ◌∷◌, Bool, true, if◌then◌else◌, length}
use Rattle.mt_base.specs.Midi.{MidiEvent}
use Rattle.midi_model.specs.Order.{AreInOrder}
use Rattle.retune_model.specs.Options.{Options}
use Rattle.retune_model.specs.Ports.{port_at}
use Rattle.retune_model.specs.Faults.{Targets, is_part}
use Rattle.retune_model.specs.Pairs.{Pair, is_same_pair}
use Rattle.retune_model.specs.Rests.{begun_at}
use Rattle.retune_model.specs.Runs.{since, begins}
use Rattle.retune_model.specs.PortNeed.{AreParts, pairs_on}
use Rattle.retune_model.specs.SourceFaults.{IsSound}
use Rattle.channel_model.specs.Choice.{beginning_at}

-- where a note of a pair begins, one run begins or none
abbrev pub RunIsCounted : Type 0
RunIsCounted = (o : Options) (table : Targets) (es : List MidiEvent) (z k : ℕ) (p : Pair) → IsSound o table es
    → begun_at o (is_part o) table (port_at es z) (suc k) ≡ p ∷ []
    → length (beginning_at (pairs_on o (is_part o) table es z) k)
    ≡ (if begins is_same_pair (pairs_on o (is_part o) table es z) k p then 1 else 0)

-- and where no note begins, none
abbrev pub NoRunIsCounted : Type 0
NoRunIsCounted = (o : Options) (table : Targets) (es : List MidiEvent) (z k : ℕ) → IsSound o table es
    → begun_at o (is_part o) table (port_at es z) (suc k) ≡ [] → beginning_at (pairs_on o (is_part o) table es z) k ≡ []

-- the same of any of the parts
abbrev pub NoneBeginsUnbegun : Type 0
NoneBeginsUnbegun = (o : Options) (part : ℕ → Bool) (table : Targets) (es : List MidiEvent) (z k : ℕ) (p : Pair) → AreParts o part
    → IsSound o table es
    → begun_at o part table (port_at es z) (suc k) ≡ [] → begins is_same_pair (pairs_on o part table es z) k p ≡ true → ⊥

-- a pair's run begins where it does among those of all parts
abbrev pub RunIsOfPart : Type 0
RunIsOfPart = (o : Options) (part : ℕ → Bool) (table : Targets) (es : List MidiEvent) (z k : ℕ) (p : Pair) → AreParts o part → AreInOrder 0 es
    → k ≤ length es → p.part.port ≡ z → part p.part.channel ≡ true
    → since is_same_pair (pairs_on o part table es z) p k ≡ since is_same_pair (pairs_on o (is_part o) table es z) p k

abbrev pub BeginsOfPart : Type 0
BeginsOfPart = (o : Options) (part : ℕ → Bool) (table : Targets) (es : List MidiEvent) (z k : ℕ) (p : Pair) → AreParts o part → AreInOrder 0 es
    → suc k ≤ length es → p.part.port ≡ z → part p.part.channel ≡ true
    → begins is_same_pair (pairs_on o part table es z) k p ≡ begins is_same_pair (pairs_on o (is_part o) table es z) k p
