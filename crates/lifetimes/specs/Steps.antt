-- What the source's own steps are told: by the event, its port and the note that it begins.
use Rattle.std.specs.Prelude.{◌≡◌, ◌<◌, ℕ, zero, suc, ◌+◌, nat_eq, nat_lt, if◌then◌else◌, set, slice_index_or, replicate, List, [], ◌∷◌, ◌++◌, Bool, true, false, ◌&&◌, not, Option, is_some}
use Rattle.std.specs.List.{AllByRecursion}
use Rattle.mt_base.specs.Midi.{MidiEvent, MidiWhat}
use Rattle.midi_model.specs.Order.{AreInOrder}
use Rattle.mt_base.specs.Valid.{IsValidEvent}
use Rattle.retune_model.specs.Options.{Options as Asked, is_drum_message}
use Rattle.retune_model.specs.Ports.{all_zero}
use Rattle.retune_model.specs.Faults.{Targets}
use Rattle.retune_model.specs.SourceFaults.{is_message, has_port, ports_used, IsFaultless}
use Rattle.receiver.specs.Stands.{HasRoom}
use Rattle.lifetimes.specs.Views.{options_of}
use Rattle.lifetimes.specs.Told.{port_on, strike_of}
use Rattle.receiver.specs.declared.ends.Ends.{Ends}
use Rattle.lifetimes.specs.Tracks.{TracksStand}
use Rattle.lifetimes.specs.Port.{HasPlace, Takes, all_counted}
use Rattle.lifetimes.specs.Stands.{SourceStands, place_of, port_in}
use Rattle.lifetimes.specs.declared.options.Options.{Options}
use Rattle.lifetimes.specs.declared.port.Port.{Port}
use Rattle.lifetimes.specs.declared.port.Strike.{Strike}
use Rattle.lifetimes.specs.declared.source.Source.{Source}

-- whether a port's player takes an event: not a message of kept drums
abbrev pub is_heard : Options → MidiWhat → Bool
is_heard o what = not (o.keep_drums && is_drum_message what)

-- The source stands for es, and e comes next, of this port, with the note that it begins.
pub record ComesNext (table : Targets) (source : Source) (es : List MidiEvent) (e : MidiEvent) (port : ℕ) (strike : Option Strike) : Type 0 where
  pub stands : SourceStands table source es
  pub valid : IsValidEvent e
  pub order : AreInOrder 0 (es ++ e ∷ [])
  pub at : port ≡ port_on es e
  pub begins : strike ≡ strike_of (options_of source.options) table e.tick e.what

-- the event's port has a place, and its player room for what it takes
pub record CanTake (source : Source) (port : ℕ) (what : MidiWhat) : Type 0 where
  pub place : is_message what ≡ true → place_of source port < 4
  pub room : is_heard source.options what ≡ true → AllByRecursion (λ (p : Port). HasRoom p.player what) (port_in source (place_of source port))

-- and its pair a place among those that may rest
abbrev pub HasPlaceIn : Source → ℕ → Option Strike → Type 0
HasPlaceIn source port strike = AllByRecursion (λ p. HasPlace source.options.tail p strike) (port_in source (place_of source port))

-- whether a channel message opens its port: it is the port's first
abbrev pub opens : Source → ℕ → MidiWhat → Bool
opens source port what = is_message what && nat_eq (place_of source port) source.used

-- the port at a place has this number
abbrev pub numbered_at : List Port → ℕ → ℕ → List Port
numbered_at [] i z = []
numbered_at (p ∷ ports) zero z = record p { number = z } ∷ ports
numbered_at (p ∷ ports) (suc i) z = p ∷ numbered_at ports i z

-- A source after it opened a port, where a message does.
pub record Opens (port : ℕ) (what : MidiWhat) (old new : Source) : Type 0 where
  pub used : new.used ≡ (if opens old port what then suc old.used else old.used)
  pub ports : new.ports ≡ (if opens old port what then numbered_at old.ports old.used port else old.ports)
  pub options : new.options ≡ old.options
  pub tracks : new.tracks ≡ old.tracks
  pub position : new.position ≡ old.position
  pub tick : new.tick ≡ old.tick
  pub begun : new.begun ≡ old.begun

-- An event comes next of a port that has had no channel message.
pub record IsUnheard (o : Asked) (table : Targets) (es : List MidiEvent) (e : MidiEvent) (z : ℕ) : Type 0 where
  pub valid : AllByRecursion IsValidEvent (es ++ e ∷ [])
  pub order : AreInOrder 0 (es ++ e ∷ [])
  pub faultless : IsFaultless o table es
  pub at : port_on es e ≡ z
  pub unheard : has_port z (ports_used all_zero [] es) ≡ false

-- A source after it counted an event, with the note that it begins.
pub record Counts (e : MidiEvent) (strike : Option Strike) (old new : Source) : Type 0 where
  pub position : new.position ≡ suc old.position
  pub tick : new.tick ≡ e.tick
  pub begun : new.begun ≡ (if is_some strike then 1 else 0) + old.begun
  pub tracks : (es : List MidiEvent) → TracksStand old.tracks es → TracksStand new.tracks (es ++ e ∷ [])
  pub options : new.options ≡ old.options
  pub ports : new.ports ≡ old.ports
  pub used : new.used ≡ old.used

-- on each port fewer notes began than events came
abbrev pub AreFewer : Source → Type 0
AreFewer source = (n : ℕ) → source.position ≡ suc n → all_counted n source.ports ≡ true

-- whether the port at a place takes an event
abbrev pub is_taken : Source → ℕ → MidiWhat → Bool
is_taken source place what = nat_lt place source.used && is_heard source.options what

-- A source after the port at a place took an event, where it does, and told which notes ended; d stands where there is no port.
pub record Hears (place : ℕ) (e : MidiEvent) (strike : Option Strike) (ends : Ends) (old new : Source) : Type 0 where
  pub takes : is_taken old place e.what ≡ true → (d : Port)
      → Takes old.options.tail e.tick e.what strike old.begun (slice_index_or old.ports place d) ends (slice_index_or new.ports place d)
  pub alone : is_taken old place e.what ≡ true → (d : Port) → new.ports ≡ set old.ports place (slice_index_or new.ports place d)
  pub passed : is_taken old place e.what ≡ false → new.ports ≡ old.ports
  pub silent : is_taken old place e.what ≡ false → ends ≡ record { keys = replicate 16 0 }
  pub options : new.options ≡ old.options
  pub tracks : new.tracks ≡ old.tracks
  pub position : new.position ≡ old.position
  pub tick : new.tick ≡ old.tick
  pub begun : new.begun ≡ old.begun
  pub used : new.used ≡ old.used
