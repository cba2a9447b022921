-- The state that a channel needs for a pair, and which channel a run gets (this project's own).
--
-- `at k` is the set of pairs at position k, `held k` are those whose runs hold their channels at event k, and `row b` is the place, in
-- the row of used channels, of the run that begins at position b.
use Rattle.std.specs.Prelude.{◌≡◌, ◌<◌, ◌≤◌, ◌⊎◌, ◌+◌, ℕ, zero, suc, ℤ, pos, negsuc, ◌+ℤ◌, List, [], ◌∷◌, Bool, true, false, ◌&&◌, nat_eq, nat_le, if◌then◌else◌, Option, Some, None, length, set, replicate, filter}
use Rattle.std.specs.Set.{is_member}
use Rattle.midi_model.specs.Params.{rpn, put}
use Rattle.midi_model.specs.Channel.{State, default_state}
use Rattle.midi_model.specs.Notes.{Note}
use Rattle.midi_model.specs.Music.{Music, channel_at}
use Rattle.midi_model.specs.Bring.{bring}
use Rattle.retune_model.specs.Table.{BendTarget}
use Rattle.retune_model.specs.Options.{Options}
use Rattle.retune_model.specs.Source.{bend_in_steps}
use Rattle.retune_model.specs.Ports.{PortEvents, music_at, is_reset_at}
use Rattle.retune_model.specs.Faults.{Targets, is_part, int_eq, target_of}
use Rattle.retune_model.specs.Pairs.{Pair, is_same_pair, sounding}
use Rattle.retune_model.specs.Rests.{pairs_at, held_at}
use Rattle.retune_model.specs.Runs.{since, begins, IsFree}

-- ---- the wanted state

-- a bend by so many steps, as far as a bend goes
abbrev pub bend_value : ℤ → ℕ
bend_value (pos n) = if nat_le n 16383 then n else 16383
bend_value (negsuc n) = 0

abbrev pub has_pair : Pair → Note → Option BendTarget → Bool
has_pair p n (Some t) = nat_eq n.channel p.part.channel && int_eq t.steps p.steps
has_pair p n None = false

abbrev pub key_set : List ℕ → Option BendTarget → ℕ → List ℕ
key_set keys (Some t) pressure = set keys t.key pressure
key_set keys None pressure = keys

-- the pressures of the target keys of a pair's notes; every other key has 0
abbrev pub wanted_keys : Options → Targets → Pair → List Note → List ℕ
wanted_keys o table p [] = replicate 128 0
wanted_keys o table p (n ∷ ns) =
    if has_pair p n (target_of o table n) then key_set (wanted_keys o table p ns) (target_of o table n) n.pressure
    else wanted_keys o table p ns

-- What a channel of this pair needs: the part's state, with the route's bend sensitivity, the bend of the pair and of the part
-- together, and the pressures of its own notes. m is the music of the pair's port.
abbrev pub wanted : Options → Targets → Music → Pair → State
wanted o table m p =
    let part = channel_at m p.part.channel in
    record {
      own = record part { params = put (rpn 0) (o.range, 0) part.params; bend = bend_value ((pos 8192 +ℤ p.steps) +ℤ bend_in_steps o.range part) };
      keys = wanted_keys o table p (sounding o m);
    }

-- ---- what a free channel was last used for

-- the pair whose run is on a place at a position
abbrev pub on_place : (Pair → ℕ) → ℕ → List Pair → Option Pair
on_place place c [] = None
on_place place c (p ∷ ps) = if nat_eq (place p) c then Some p else on_place place c ps

abbrev pub pair_on : (ℕ → List Pair) → (ℕ → ℕ) → ℕ → ℕ → Option Pair
pair_on at row c k = on_place (λ p. row (since is_same_pair at p k)) c (at k)

-- the last position up to k at which a run was on a place since the last reset, with its pair
abbrev pub last_or : ℕ → Option Pair → Bool → Option (ℕ × Pair) → Option (ℕ × Pair)
last_or k (Some p) reset before = Some (k, p)
last_or k None true before = None
last_or k None false before = before

abbrev pub last_on : (ℕ → Bool) → (ℕ → List Pair) → (ℕ → ℕ) → ℕ → ℕ → Option (ℕ × Pair)
last_on reset at row c zero = None
last_on reset at row c (suc k) = last_or (suc k) (pair_on at row c (suc k)) (reset (suc k)) (last_on reset at row c k)

-- the last event at which a run held its channel, by its last position and its pair: the event that ended it, where it was still held
-- there; else, where its rest ran out, the one before
abbrev pub held_until : (ℕ → List Pair) → ℕ → Pair → ℕ
held_until held k p = if is_member is_same_pair (held (suc k)) p then suc k else k

-- the state that a channel has: what its last run's pair needed right after that event, or the default
abbrev pub left_state : Options → Targets → PortEvents → (ℕ → List Pair) → Option (ℕ × Pair) → State
left_state o table port held None = default_state
left_state o table port held (Some x) = wanted o table (music_at port.events (held_until held x.0 x.1)) x.1

-- the state of a place from which a run that begins at position k + 1 is brought; c is a channel of the port
abbrev pub from_state : Options → Targets → PortEvents → (ℕ → ℕ) → ℕ → ℕ → State
from_state o table port row c k =
    left_state o table port (held_at o (is_part o) table port) (last_on (is_reset_at port.events) (pairs_at o (is_part o) table port) row c k)

-- how many messages it takes
abbrev pub setup_length : Options → Targets → PortEvents → (ℕ → ℕ) → Pair → ℕ → ℕ → ℕ
setup_length o table port row p c k = length (bring 0 (from_state o table port row c k) (wanted o table (music_at port.events (suc k)) p))

-- on MPE: one bend, where the member's differs; `at` are the pairs of the zone's part
abbrev pub member_bend : Option (ℕ × Pair) → ℕ
member_bend None = 8192
member_bend (Some x) = bend_value (pos 8192 +ℤ x.1.steps)

abbrev pub member_setup : PortEvents → (ℕ → List Pair) → (ℕ → ℕ) → Pair → ℕ → ℕ → ℕ
member_setup port at row p c k = if nat_eq (member_bend (last_on (is_reset_at port.events) at row c k)) (bend_value (pos 8192 +ℤ p.steps)) then 0 else 1

-- the least position from which on, up to k, no run is on a place
abbrev pub is_taken : Option Pair → Bool
is_taken (Some p) = true
is_taken None = false

abbrev pub free_since : (ℕ → List Pair) → (ℕ → ℕ) → ℕ → ℕ → ℕ
free_since at row c zero = zero
free_since at row c (suc k) = if is_taken (pair_on at row c (suc k)) then suc (suc k) else free_since at row c k

-- ---- the choice

-- of two places: the one that costs less, or as much and has been free longer, or as long and comes first
abbrev pub IsNoWorse : (ℕ → ℕ) → (ℕ → ℕ) → ℕ → ℕ → Type 0
IsNoWorse cost free c d = (cost c < cost d) ⊎ ((cost c ≡ cost d) × ((free c < free d) ⊎ ((free c ≡ free d) × (c ≤ d))))

-- Each run gets, of the first n places that are free as it begins, the best one; `cost p c k` is the setup of a run of p at place c.
pub record TakesBest (at : ℕ → List Pair) (last n : ℕ) (cost : Pair → ℕ → ℕ → ℕ) (row : ℕ → ℕ) : Type 0 where
  pub within : (k : ℕ) (p : Pair) → k < last → begins is_same_pair at k p ≡ true → row (suc k) < n
  pub free : (k : ℕ) (p : Pair) → k < last → begins is_same_pair at k p ≡ true → IsFree is_same_pair at row k (row (suc k))
  pub best : (k : ℕ) (p : Pair) (c : ℕ) → k < last → begins is_same_pair at k p ≡ true → c < n → IsFree is_same_pair at row k c →
      IsNoWorse (λ d. cost p d k) (λ d. free_since at row d k) (row (suc k)) c

-- on bend: the one with the shortest setup; on MPE, with the pairs of the zone's part
abbrev pub TakesShortest : Options → Targets → PortEvents → ℕ → ℕ → (ℕ → ℕ) → Type 0
TakesShortest o table port last n row = TakesBest (pairs_at o (is_part o) table port) last n (λ p c k. setup_length o table port row p c k) row

abbrev pub TakesShortestMember : Options → (ℕ → Bool) → Targets → PortEvents → ℕ → ℕ → (ℕ → ℕ) → Type 0
TakesShortestMember o part table port last n row =
    TakesBest (pairs_at o part table port) last n (λ p c k. member_setup port (pairs_at o part table port) row p c k) row

-- ---- prices

-- the pairs whose runs begin at position k + 1
abbrev pub beginning_at : (ℕ → List Pair) → ℕ → List Pair
beginning_at at k = filter (λ p. begins is_same_pair at k p) (at (suc k))

abbrev pub cost_of : (Pair → ℕ) → List Pair → ℕ
cost_of cost [] = 0
cost_of cost (p ∷ ps) = cost p + cost_of cost ps

-- The price of an assignment that keeps each run on one channel: the sum, over the runs that begin up to a position, of the setups on
-- their places.
abbrev pub price_to : (ℕ → List Pair) → (Pair → ℕ → ℕ → ℕ) → (ℕ → ℕ) → ℕ → ℕ
price_to at cost row zero = 0
price_to at cost row (suc k) = price_to at cost row k + cost_of (λ p. cost p (row (suc k)) k) (beginning_at at k)

abbrev pub price : Options → Targets → PortEvents → (ℕ → ℕ) → ℕ → ℕ
price o table port row last = price_to (pairs_at o (is_part o) table port) (λ p c k. setup_length o table port row p c k) row last
