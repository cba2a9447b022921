-- Laws of the events of a port, position by position.
use Rattle.std.specs.Prelude.{◌≡◌, ◌++◌, ◌&&◌, ◌<◌, ℕ, suc, List, [], ◌∷◌, Bool, nat_eq, if◌then◌else◌, take, length}
use Rattle.mt_base.specs.Midi.{MidiEvent}
use Rattle.midi_model.specs.Sysex.{doing}
use Rattle.retune_model.specs.Options.{Options}
use Rattle.retune_model.specs.Ports.{port_of, all_zero, ports_from, of_port, events_on, is_reset_at, port_at, resets}
use Rattle.retune_model.specs.Faults.{Targets}
use Rattle.retune_model.specs.Pairs.{Pair}
use Rattle.retune_model.specs.Rests.{begun_at}
use Rattle.plan_laws.specs.Counting.{ComesAt}

-- whether event k + 1 is a reset of a port
abbrev pub ResetIsOfEvent : Type 0
ResetIsOfEvent = (es : List MidiEvent) (z k : ℕ) (e : MidiEvent) → ComesAt es k e →
    is_reset_at (of_port z es) (suc k) ≡ (nat_eq (port_of (ports_from all_zero (take k es)) e) z && resets (doing e.what))

-- the events of a port up to the next position
abbrev pub EventsGoOn : Type 0
EventsGoOn = (es : List MidiEvent) (z k : ℕ) (e : MidiEvent) → ComesAt es k e →
    events_on z (take (suc k) es)
    ≡ (if nat_eq (port_of (ports_from all_zero (take k es)) e) z then events_on z (take k es) ++ e ∷ [] else events_on z (take k es))

-- a position at which a note begins follows an event
pub record FollowsEvent (es : List MidiEvent) (k : ℕ) : Type 0 where
  pub before : ℕ
  pub event : MidiEvent
  pub is : k ≡ suc before
  pub comes : ComesAt es before event
  pub within : before < length es

abbrev pub BegunFollowsEvent : Type 0
BegunFollowsEvent = (o : Options) (part : ℕ → Bool) (table : Targets) (es : List MidiEvent) (z k : ℕ) (p : Pair)
    → begun_at o part table (port_at es z) k ≡ p ∷ [] → FollowsEvent es k
