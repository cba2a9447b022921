-- Worked examples: which channels runs get, and what the bend and MPE routes write. Channels are counted from 0.
use Rattle.std.specs.Prelude.{ℕ, true, false, zero, suc, ℤ, pos, negsuc, List, [], ◌∷◌, nat_eq, nat_lt, if◌then◌else◌, Bool}
use Rattle.mt_base.specs.declared.event.Msg.{Msg}
use Rattle.mt_base.specs.declared.event.Msg.TheVariants.{NoteOn, NoteOff, Program}
use Rattle.mt_base.specs.Midi.{MidiEvent}
use Rattle.midi_model.specs.Examples.{at, all_at}
use Rattle.midi_model.specs.Bring.{registered}
use Rattle.retune_model.specs.Ports.{port_at}
use Rattle.retune_model.specs.Faults.{Targets}
use Rattle.retune_model.specs.Pairs.{Pair}
use Rattle.retune_model.specs.Examples.{resting, mpe_options, equal_table, pair, pairs}
use Rattle.channel_model.specs.Choice.{free_since, from_state, setup_length, price}
use Rattle.channel_model.specs.Refusals.{TooMany}
use Rattle.channel_model.specs.BendOutput.{bend_output}
use Rattle.channel_model.specs.MpeOutput.{Zone, mpe_output}

-- ---- places and channels

-- all on the first channel
abbrev pub on_first : ℕ → ℕ → Pair → ℕ
on_first z k p = 0

-- the pair without a bend on the first channel, -93 steps on the second, 13 on the third
abbrev pub on_three : ℕ → ℕ → Pair → ℕ
on_three z k p = place p.steps
  where
    place : ℤ → ℕ
    place (pos zero) = 0
    place (negsuc n) = 1
    place (pos (suc n)) = 2

-- each part on the channel of its own number
abbrev pub each_own : ℕ → ℕ → Pair → ℕ
each_own z k p = p.part.channel

-- ---- sources

-- two parts at once, then one of them again; the first with a program of its own
abbrev pub again : List MidiEvent
again = at 0 (Program 0 5) ∷ at 0 (NoteOn 0 69 64) ∷ at 0 (NoteOn 1 69 64) ∷ at 480 (NoteOff 0 69 64) ∷ at 480 (NoteOff 1 69 64) ∷ at 480 (NoteOn 1 71 64) ∷ at 960 (NoteOff 1 71 64) ∷ []

-- a part that changes its program twice after its note, and another part's note
abbrev pub changed_after : List MidiEvent
changed_after = at 0 (NoteOn 0 69 64) ∷ at 480 (NoteOff 0 69 64) ∷ at 500 (Program 0 5) ∷ at 600 (Program 0 7) ∷ at 700 (NoteOn 1 69 64) ∷ []

-- one key of three parts
abbrev pub three_parts : List MidiEvent
three_parts = all_at 0 (NoteOn 0 69 64 ∷ NoteOn 1 69 64 ∷ NoteOn 2 69 64 ∷ [])

-- the first two channels are allowed
abbrev pub first_two : ℕ → Bool
first_two c = nat_lt c 2

-- the chord's three pairs at once are one more than those
abbrev pub one_too_many : TooMany
one_too_many = record { port = 0; need = 3; allowed = 2; position = 3; tick = 0; pairs = pair 0 0 (negsuc 92) ∷ pair 0 0 (pos 0) ∷ pair 0 0 (pos 13) ∷ [] }

-- ---- the choice, on the first port

-- the first two runs on the first two places, the one of position 6 on the second, or on the first
abbrev pub second_again : ℕ → ℕ
second_again k = if nat_eq k 2 then 0 else 1

abbrev pub first_again : ℕ → ℕ
first_again k = if nat_eq k 3 then 1 else 0

abbrev pub all_first : ℕ → ℕ
all_first k = 0

abbrev pub setup : ℕ → List MidiEvent → (ℕ → ℕ) → ℕ → ℕ → ℕ → ℕ
setup tail es row c d k = setup_length (resting tail) equal_table (port_at es 0) row (pair 0 c (pos 0)) d k

abbrev pub free_from : List MidiEvent → (ℕ → ℕ) → ℕ → ℕ → ℕ
free_from es row d k = free_since (pairs (resting 0) equal_table es 0) row d k

-- the program on a place before position k + 1
abbrev pub program_on : ℕ → List MidiEvent → (ℕ → ℕ) → ℕ → ℕ → ℕ
program_on tail es row d k = (from_state (resting tail) equal_table (port_at es 0) row d k).own.voice.program

abbrev pub priced : List MidiEvent → (ℕ → ℕ) → ℕ → ℕ
priced es row last = price (resting 0) equal_table (port_at es 0) row last

-- ---- outputs

abbrev pub bent : Targets → (ℕ → ℕ → Pair → ℕ) → List MidiEvent → List MidiEvent
bent table channel es = bend_output (resting 0) table channel es

abbrev pub rested : ℕ → (ℕ → ℕ → Pair → ℕ) → List MidiEvent → List MidiEvent
rested tail channel es = bend_output (resting tail) equal_table channel es

-- what makes a channel ready on the bend route
abbrev pub ready : ℕ → List Msg
ready c = registered c 0 12

-- the first port has one zone, with one member
abbrev pub one_zone : ℕ → List Zone
one_zone zero = record { part = 0; upper = false; members = 1 } ∷ []
one_zone (suc z) = []

abbrev pub zoned : List MidiEvent → List MidiEvent
zoned es = mpe_output mpe_options equal_table one_zone (λ z k p. 1) es

-- two parts, each with one member, and each part's member
abbrev pub two_zones : ℕ → List Zone
two_zones z = record { part = 0; upper = false; members = 1 } ∷ record { part = 1; upper = true; members = 1 } ∷ []

abbrev pub zoned_twice : List MidiEvent → List MidiEvent
zoned_twice es = mpe_output mpe_options equal_table two_zones (λ z k p. if nat_eq p.part.channel 0 then 1 else 14) es
