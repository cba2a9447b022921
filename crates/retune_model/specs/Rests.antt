-- Notes that hold a channel: while they sound, and for a while after their end (this project's own).
--
-- `port` is one port's music: a rest can run out at an event of another port. `part` says of which of its channels the notes are: of
-- all retuned parts, or of one.
use Rattle.std.specs.Prelude.{◌≡◌, ◌≤◌, ◌<◌, ◌⊎◌, ℕ, zero, suc, ◌+◌, List, [], ◌∷◌, Bool, true, false, ◌&&◌, ◌||◌, nat_lt, nat_le, if◌then◌else◌, Option, Some, None, is_some, filter, drop, length, get_or, pos, ℤ}
use Rattle.std.specs.List.{AllByRecursion}
use Rattle.mt_base.specs.declared.event.Msg.TheVariants.{NoteOn}
use Rattle.mt_base.specs.Midi.{MidiWhat, Says, MidiEvent}
use Rattle.midi_model.specs.Notes.{Note, sounds}
use Rattle.retune_model.specs.Table.{BendTarget}
use Rattle.retune_model.specs.Options.{Options}
use Rattle.retune_model.specs.Ports.{Numbered, PortEvents, AreTimed, music_at, is_reset_at, event_at}
use Rattle.retune_model.specs.PlaysTheSame.{bend_target_if}
use Rattle.retune_model.specs.Faults.{Targets, target_of}
use Rattle.retune_model.specs.Pairs.{Pair, pair_if, pairs_of}

-- the notes, in the order of their note ons
abbrev pub notes_at : (ℕ → Bool) → List Numbered → ℕ → List Note
notes_at part ns k = filter (λ n. part n.channel) (music_at ns k).notes

-- the position of the last reset up to a position, 0 where there is none
abbrev pub last_reset : (ℕ → Bool) → ℕ → ℕ
last_reset reset zero = 0
last_reset reset (suc k) = if reset (suc k) then suc k else last_reset reset k

-- How many had begun by the last reset. A reset ends all notes. So of the notes that began later each that has ended did so by an
-- event that is no reset, and no reset came since; and none that began before can sound or rest.
abbrev pub past_at : (ℕ → Bool) → List Numbered → ℕ → ℕ
past_at part ns k = length (notes_at part ns (last_reset (is_reset_at ns) k))

-- whether an end is less than a tail before a tick; and whether a note sounds then, or has such an end
abbrev pub is_within_tail : ℕ → ℕ → Option ℕ → Bool
is_within_tail tail t (Some e) = nat_lt t (e + tail)
is_within_tail tail t None = false

abbrev pub lasts : ℕ → ℕ → Note → Bool
lasts tail t n = sounds n || is_within_tail tail t n.ended

-- the notes that hold at a position: those that sound, and those that rest
abbrev pub holding : (ℕ → Bool) → ℕ → PortEvents → ℕ → List Note
holding part tail port k = filter (lasts tail (port.tick k)) (drop (past_at part port.events k) (notes_at part port.events k))

-- The set of pairs at a position, by part and then by steps: those of the notes that hold there.
abbrev pub pairs_at : Options → (ℕ → Bool) → Targets → PortEvents → ℕ → List Pair
pairs_at o part table port k = pairs_of port.number o table (holding part o.tail port k)

-- The pairs whose runs hold their channels at event k: those of the notes that hold at position k - 1 and, where they rest there, don't
-- run out at the event.
abbrev pub held_at : Options → (ℕ → Bool) → Targets → PortEvents → ℕ → List Pair
held_at o part table port zero = []
held_at o part table port (suc k) = pairs_of port.number o table (filter (lasts o.tail (port.tick (suc k))) (holding part o.tail port k))

-- the pair of the note that an event begins; z is its port
abbrev pub begun_pair : ℕ → Options → (ℕ → Bool) → Targets → ℕ → MidiWhat → List Pair
begun_pair z o part table t (Says (NoteOn c k (suc v))) = if part c then pair_if z c (bend_target_if o.range (table k t)) [] else []
begun_pair z o part table t _ = []

abbrev pub begun_pairs : ℕ → Options → (ℕ → Bool) → Targets → List MidiEvent → List Pair
begun_pairs z o part table [] = []
begun_pairs z o part table (e ∷ es) = begun_pair z o part table e.tick e.what

-- the pair that event k begins
abbrev pub begun_at : Options → (ℕ → Bool) → Targets → PortEvents → ℕ → List Pair
begun_at o part table port k = begun_pairs port.number o part table (event_at port.events k)

-- ---- by the number of a note

-- what stands where no note is
abbrev pub nobody : Note
nobody = record { channel = 0; key = 0; onset = 0; velocity = 0; voice = record { high = 0; low = 0; program = 0 }; release = None; captured = false; pressure = 0; ended = None }

-- whether the i-th note, counted from 0, holds at a position
abbrev pub holds_at : (ℕ → Bool) → ℕ → PortEvents → ℕ → ℕ → Bool
holds_at part tail port k i =
    nat_le (past_at part port.events k) i
    && (nat_lt i (length (notes_at part port.events k)) && lasts tail (port.tick k) (get_or (notes_at part port.events k) i nobody))

abbrev pub steps_of : Option BendTarget → ℤ
steps_of (Some t) = t.steps
steps_of None = pos 0

abbrev pub pair_of : ℕ → Options → Targets → Note → Pair
pair_of z o table n = record { part = record { port = z; channel = n.channel }; steps = steps_of (target_of o table n) }

-- the pair of the i-th of the notes that have begun by a position
abbrev pub pair_at : Options → (ℕ → Bool) → Targets → PortEvents → ℕ → ℕ → Pair
pair_at o part table port last i = pair_of port.number o table (get_or (notes_at part port.events last) i nobody)

-- the first position at which there are more than i
abbrev pub first_with : (ℕ → ℕ) → ℕ → ℕ → ℕ
first_with count i zero = 0
first_with count i (suc k) = if nat_lt i (count k) then first_with count i k else suc k

-- the position of the note on of the i-th note
abbrev pub began_at : (ℕ → Bool) → List Numbered → ℕ → ℕ → ℕ
began_at part ns last i = first_with (λ k. length (notes_at part ns k)) i last

-- ---- what a source without a fault has

-- each note on of such a channel has a target
abbrev pub is_aimed : Options → (ℕ → Bool) → Targets → ℕ → MidiWhat → Bool
is_aimed o part table t (Says (NoteOn c k (suc v))) = if part c then is_some (bend_target_if o.range (table k t)) else true
is_aimed o part table t _ = true

abbrev pub AreAimed : Options → (ℕ → Bool) → Targets → List Numbered → Type 0
AreAimed o part table ns = AllByRecursion (λ n. is_aimed o part table n.event.tick n.event.what ≡ true) ns

-- ---- in the words of the rules

-- The i-th note rests at position k: event j + 1 ended it and is no reset, no reset stands among the later events up to k, and the
-- tick of event k is less than a tail after that end.
pub record Rests (part : ℕ → Bool) (tail : ℕ) (port : PortEvents) (k i j : ℕ) : Type 0 where
  pub by : j < k
  pub begun : i < length (notes_at part port.events j)
  pub sounded : sounds (get_or (notes_at part port.events j) i nobody) ≡ true
  pub silent : sounds (get_or (notes_at part port.events (suc j)) i nobody) ≡ false
  pub no_reset : (l : ℕ) → j ≤ l → l < k → is_reset_at port.events (suc l) ≡ false
  pub in_time : port.tick k < port.tick (suc j) + tail

abbrev pub SoundsAt : (ℕ → Bool) → PortEvents → ℕ → ℕ → Type 0
SoundsAt part port k i = (i < length (notes_at part port.events k)) × (sounds (get_or (notes_at part port.events k) i nobody) ≡ true)

abbrev pub SoundsOrRests : (ℕ → Bool) → ℕ → PortEvents → ℕ → ℕ → Type 0
SoundsOrRests part tail port k i = SoundsAt part port k i ⊎ ((j : ℕ) × Rests part tail port k i j)

-- It ended less than a tail before a tick.
abbrev pub EndedWithin : (ℕ → Bool) → ℕ → PortEvents → ℕ → ℕ → ℕ → Type 0
EndedWithin part tail port t k i = (e : ℕ) × ((get_or (notes_at part port.events k) i nobody).ended ≡ Some e) × (t < e + tail)

-- The i-th note keeps a channel for its pair at event k + 1: it sounds at position k, or it rests there and the tick of the event is
-- less than a tail after its end.
pub record Keeps (part : ℕ → Bool) (tail : ℕ) (port : PortEvents) (k i : ℕ) : Type 0 where
  pub begun : i < length (notes_at part port.events k)
  pub keeps : (sounds (get_or (notes_at part port.events k) i nobody) ≡ true)
      ⊎ ((holds_at part tail port k i ≡ true) × EndedWithin part tail port (port.tick (suc k)) k i)

-- A port whose pairs can be told: its events stand at their positions and ticks, and each note on of these channels has a target.
pub record IsAimedPort (o : Options) (part : ℕ → Bool) (table : Targets) (port : PortEvents) : Type 0 where
  pub timed : AreTimed port
  pub aimed : AreAimed o part table port.events
