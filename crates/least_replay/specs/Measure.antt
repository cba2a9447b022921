-- What the runs of a port cost on the bend route, at a start and behind each other (this project's own).
--
-- `at k` is the set of pairs at position k, of which `last` is the last.
use Rattle.std.specs.Prelude.{◌≡◌, ℕ, zero, suc, ◌-◌, List, [], ◌++◌, Bool, nat_eq, nat_lt, if◌then◌else◌, Option, Some, None, unwrap_or, option_map, length, map}
use Rattle.std.specs.Set.{is_member}
use Rattle.mt_base.specs.Midi.{MidiEvent}
use Rattle.midi_model.specs.Channel.{State, default_state}
use Rattle.midi_model.specs.Bring.{bring}
use Rattle.retune_model.specs.Options.{Options}
use Rattle.retune_model.specs.Ports.{PortEvents, port_at, music_at, is_reset_at}
use Rattle.retune_model.specs.Faults.{Targets, is_part}
use Rattle.retune_model.specs.Pairs.{Pair, is_same_pair}
use Rattle.retune_model.specs.Places.{nth}
use Rattle.retune_model.specs.PortNeed.{pairs_on, held_on, need_of}
use Rattle.channel_model.specs.Choice.{wanted, left_state, beginning_at}
use Rattle.least_replay.specs.Cover.{Table}

-- ---- the runs of a port, in the order in which they begin

-- a run has its pair at each position from the first to the last
pub record Run : Type 0 where
  pub pair : Pair
  pub first : ℕ
  pub last : ℕ

-- as far as a pair that is there at position k goes on to be there, at most n positions further
abbrev pub goes_to : (ℕ → List Pair) → Pair → ℕ → ℕ → ℕ
goes_to at p zero k = k
goes_to at p (suc n) k = if is_member is_same_pair (at (suc k)) p then goes_to at p n (suc k) else k

abbrev pub run_at : (ℕ → List Pair) → ℕ → ℕ → Pair → Run
run_at at last k p = record { pair = p; first = k; last = goes_to at p (last - k) k }

-- those that begin up to a position
abbrev pub runs_to : (ℕ → List Pair) → ℕ → ℕ → List Run
runs_to at last zero = []
runs_to at last (suc k) = runs_to at last k ++ map (run_at at last (suc k)) (beginning_at at k)

-- all of port z
abbrev pub runs_of : Options → Targets → List MidiEvent → ℕ → List Run
runs_of o table es z = runs_to (pairs_on o (is_part o) table es z) (length es) (length es)

-- ---- what they cost, in messages

-- how many resets there are up to a position
abbrev pub resets_to : (ℕ → Bool) → ℕ → ℕ
resets_to reset zero = 0
resets_to reset (suc k) = if reset (suc k) then suc (resets_to reset k) else resets_to reset k

-- what a run needs as it begins
abbrev pub needed_by : Options → Targets → PortEvents → Run → State
needed_by o table port b = wanted o table (music_at port.events b.first) b.pair

-- the state that run b finds right behind run a on its channel: that in which a left it, or the default where a reset lies between
abbrev pub found_behind : Options → Targets → List MidiEvent → ℕ → Run → Run → State
found_behind o table es z a b =
    let resets = resets_to (is_reset_at (port_at es z).events) in
    if nat_eq (resets a.last) (resets b.first) then left_state o table (port_at es z) (held_on o (is_part o) table es z) (Some (a.last, a.pair))
    else default_state

abbrev pub cost_at_start : Options → Targets → List MidiEvent → ℕ → Run → ℕ
cost_at_start o table es z b = length (bring 0 default_state (needed_by o table (port_at es z) b))

-- where a ends before b begins
abbrev pub cost_behind : Options → Targets → List MidiEvent → ℕ → Run → Run → Option ℕ
cost_behind o table es z a b =
    if nat_lt a.last b.first then Some (length (bring 0 (found_behind o table es z a b) (needed_by o table (port_at es z) b))) else None

-- The costs of all runs of port z, with as many starts as the port needs.
pub record IsMeasureOf (o : Options) (table : Targets) (es : List MidiEvent) (z : ℕ) (t : Table) : Type 0 where
  pub runs : t.runs ≡ length (runs_of o table es z)
  pub starts : t.starts ≡ (need_of o (is_part o) table es z).0
  pub start : (b : ℕ) (r : Run) → nth b (runs_of o table es z) ≡ Some r → t.start b ≡ cost_at_start o table es z r
  pub after : (a b : ℕ) (q r : Run) → nth a (runs_of o table es z) ≡ Some q → nth b (runs_of o table es z) ≡ Some r
      → t.after a b ≡ cost_behind o table es z q r

-- ---- by the number of a run

-- the position at which it begins, and the last that it has
abbrev pub first_of : List Run → ℕ → ℕ
first_of rs b = unwrap_or (option_map (λ r. r.first) (nth b rs)) 0

abbrev pub last_of : List Run → ℕ → ℕ
last_of rs b = unwrap_or (option_map (λ r. r.last) (nth b rs)) 0
