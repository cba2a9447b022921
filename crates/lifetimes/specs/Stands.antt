-- What the parts, as the program keeps them, stand for.
use Rattle.std.specs.Prelude.{◌≡◌, ◌<◌, ◌≤◌, ℕ, suc, ℤ, List, [], ◌∷◌, Bool, true, nat_eq, ◌&&◌, if◌then◌else◌, Option, Some, None, is_some, length, map, take, drop, reverse}
use Rattle.std.specs.List.{AllByRecursion}
use Rattle.mt_base.specs.Midi.{MidiEvent}
use Rattle.mt_base.specs.Valid.{IsValidEvent}
use Rattle.midi_model.specs.Notes.{Note}
use Rattle.midi_model.specs.Order.{AreInOrder}
use Rattle.retune_model.specs.Options.{Options}
use Rattle.retune_model.specs.Ports.{all_zero, events_on, port_at, tick_to}
use Rattle.retune_model.specs.Drums.{without_drums}
use Rattle.retune_model.specs.Faults.{Targets, is_part}
use Rattle.retune_model.specs.Pairs.{Pair}
use Rattle.retune_model.specs.Rests.{past_at, notes_at, is_within_tail}
use Rattle.retune_model.specs.LastEnds.{later_end}
use Rattle.retune_model.specs.SourceFaults.{IsFaultless, ports_used}
use Rattle.receiver.specs.Stands.{PlayerStands}
use Rattle.receiver.specs.Sounding.{sounding_at}
use Rattle.lifetimes.specs.Views.{options_of}
use Rattle.lifetimes.specs.Told.{music_on, is_of_pair, aim_in, number_of, count_begun}
use Rattle.lifetimes.specs.Tracks.{TracksStand}
use Rattle.lifetimes.specs.Lists.{struck_at}
use Rattle.lifetimes.specs.Resting.{end_kept}
use Rattle.lifetimes.specs.Port.{struck_in, rests_in, ListsAll}
use Rattle.lifetimes.specs.declared.port.Port.{Port}
use Rattle.lifetimes.specs.declared.source.Source.{Source}
use Rattle.lifetimes.specs.declared.parts.Parts.{Parts}

-- the events of a port that its player takes: not those of kept drums
abbrev pub heard_on : Options → ℕ → List MidiEvent → List MidiEvent
heard_on o z es = if o.keep_drums then without_drums (events_on z es) else events_on z es

-- ---- one port

-- the latest end of the notes of a pair since the last reset
abbrev pub latest_of : Options → Targets → Pair → List Note → Option ℕ
latest_of o table p [] = None
latest_of o table p (n ∷ ns) = if is_of_pair o table p n then later_end n.ended (latest_of o table p ns) else latest_of o table p ns

abbrev pub end_of_pair : Options → Targets → List MidiEvent → Pair → Option ℕ
end_of_pair o table es p =
    latest_of o table p (drop (past_at (is_part o) (port_at es p.part.port).events (length es)) (notes_at (is_part o) (port_at es p.part.port).events (length es)))

-- whether a retuned note sounds on a key
abbrev pub sounds_on : Options → ℕ → List MidiEvent → ℕ → ℕ → Bool
sounds_on o z es c k = is_part o c && is_some (sounding_at (music_on z es).notes c k)

abbrev pub pair_on : ℕ → ℕ → ℤ → Pair
pair_on z c q = record { part = record { port = z; channel = c }; steps = q }

-- A port stands for a list of events of all ports: what it keeps is what the definitions give for the list. Of the last ends those count
-- that are less than a tail ago, now or later.
pub record PortStands (o : Options) (table : Targets) (es : List MidiEvent) (port : Port) : Type 0 where
  pub player : PlayerStands port.player (heard_on o port.number es)
  pub struck : (c k : ℕ) (x : ℕ × Note) → c < 16 → k < 128 → is_part o c ≡ true → sounding_at (music_on port.number es).notes c k ≡ Some x
      → struck_at (struck_in port c) k ≡ record { note = number_of o (record { port = port.number; channel = c }) k es; target = aim_in o table k x.1.onset }
  pub listed : ListsAll port (sounds_on o port.number es)
  pub rests : (c : ℕ) (q : ℤ) (t : ℕ) → c < 16 → is_part o c ≡ true → tick_to es (length es) ≤ t
      → is_within_tail o.tail t (end_kept (rests_in port c) q) ≡ is_within_tail o.tail t (end_of_pair o table es (pair_on port.number c q))

-- ---- all ports

abbrev pub ports_in : Source → List Port
ports_in source = take source.used source.ports

abbrev pub numbers_in : Source → List ℕ
numbers_in source = map (λ port. port.number) (ports_in source)

-- The source stands for a list of events where none of them has a fault, and all that it keeps is what the definitions give for the list.
-- The ports are in the order of their first channel messages.
pub record SourceStands (table : Targets) (source : Source) (es : List MidiEvent) : Type 0 where
  pub faultless : IsFaultless (options_of source.options) table es
  pub valid : AllByRecursion IsValidEvent es
  pub order : AreInOrder 0 es
  pub position : source.position ≡ length es
  pub tick : source.tick ≡ tick_to es (length es)
  pub begun : source.begun ≡ count_begun (options_of source.options) es
  pub tracks : TracksStand source.tracks es
  pub numbers : numbers_in source ≡ reverse (ports_used all_zero [] es)
  pub ports : AllByRecursion (PortStands (options_of source.options) table es) (ports_in source)
  -- those that wait have taken nothing
  pub waiting : AllByRecursion (PortStands (options_of source.options) table []) (drop source.used source.ports)

-- the place of a port among those that have had a channel message; behind them all for another
abbrev pub place_from : ℕ → ℕ → List ℕ → ℕ
place_from i z [] = i
place_from i z (number ∷ numbers) = if nat_eq number z then i else place_from (suc i) z numbers

abbrev pub place_of : Source → ℕ → ℕ
place_of source z = place_from 0 z (numbers_in source)

-- what stands at a place of the four, where one does
abbrev pub port_in : Source → ℕ → List Port
port_in source i = take 1 (drop i source.ports)

-- ---- the parts

module _ {T : Type 0} where
  abbrev pub asked : Parts T → Options
  asked parts = options_of parts.source.options

  abbrev pub table_in : Parts T → T
  table_in parts = parts.table

  abbrev pub position_of : Parts T → ℕ
  position_of parts = parts.source.position

  abbrev pub tick_of : Parts T → ℕ
  tick_of parts = parts.source.tick

  -- They stand for a list of events where their source does.
  abbrev pub Stands : Targets → Parts T → List MidiEvent → Type 0
  Stands table parts es = SourceStands table parts.source es
