-- Parts, and pairs of a part and a bend (this project's own). Each pair that sounds or rests needs a channel of its own.
use Rattle.std.specs.Prelude.{ℕ, ℤ, pos, negsuc, List, [], ◌∷◌, Bool, true, false, ◌&&◌, ◌||◌, nat_eq, nat_lt, if◌then◌else◌, Option, Some, None, filter, map}
use Rattle.mt_base.specs.Midi.{MidiEvent}
use Rattle.midi_model.specs.Notes.{Note, sounds}
use Rattle.midi_model.specs.Music.{Music}
use Rattle.midi_model.specs.Receiver.{after}
use Rattle.retune_model.specs.Table.{BendTarget}
use Rattle.retune_model.specs.Options.{Options}
use Rattle.retune_model.specs.Ports.{events_on}
use Rattle.retune_model.specs.PlaysTheSame.{retuned_notes}
use Rattle.retune_model.specs.Faults.{Targets, is_part, int_eq, target_of}

-- a channel of the source on one of its ports
pub record Part : Type 0 where
  pub port : ℕ
  pub channel : ℕ

-- with a whole number of bend steps
pub record Pair : Type 0 where
  pub part : Part
  pub steps : ℤ

-- ---- by port, then by channel, then by steps

abbrev pub is_same_part : Part → Part → Bool
is_same_part p q = nat_eq p.port q.port && nat_eq p.channel q.channel

abbrev pub is_same_pair : Pair → Pair → Bool
is_same_pair p q = is_same_part p.part q.part && int_eq p.steps q.steps

abbrev pub int_lt : ℤ → ℤ → Bool
int_lt (pos a) (pos b) = nat_lt a b
int_lt (pos a) (negsuc b) = false
int_lt (negsuc a) (pos b) = true
int_lt (negsuc a) (negsuc b) = nat_lt b a

abbrev pub is_earlier_part : Part → Part → Bool
is_earlier_part p q = nat_lt p.port q.port || (nat_eq p.port q.port && nat_lt p.channel q.channel)

abbrev pub is_before : Pair → Pair → Bool
is_before p q = is_earlier_part p.part q.part || (is_same_part p.part q.part && int_lt p.steps q.steps)

-- a pair into a list in this order, once
abbrev pub with_pair : Pair → List Pair → List Pair
with_pair p [] = p ∷ []
with_pair p (q ∷ qs) = if is_before p q then p ∷ q ∷ qs else if is_same_pair p q then q ∷ qs else q ∷ with_pair p qs

-- ---- the pairs of notes; z is their port

abbrev pub pair_if : ℕ → ℕ → Option BendTarget → List Pair → List Pair
pair_if z c (Some t) ps = with_pair (record { part = record { port = z; channel = c }; steps = t.steps }) ps
pair_if z c None ps = ps

-- the pair of a note: its part, and the steps of its target
abbrev pub pairs_of : ℕ → Options → Targets → List Note → List Pair
pairs_of z o table [] = []
pairs_of z o table (n ∷ ns) = pair_if z n.channel (target_of o table n) (pairs_of z o table ns)

-- the retuned notes that sound
abbrev pub sounding : Options → Music → List Note
sounding o m = filter (λ n. is_part o n.channel && sounds n) m.notes

-- The assignment that is read from an output: the channel of each retuned note of a port, in the order of their note ons.
abbrev pub channels_of : (ℕ → Bool) → ℕ → List MidiEvent → List ℕ
channels_of part z out = map (λ (n : Note). n.channel) (retuned_notes part (after (events_on z out)))
