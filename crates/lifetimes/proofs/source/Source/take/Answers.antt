use Rattle.std.proofs.Common.{rules, ◌≡◌, ◌∙◌, ◌++◌, [], ◌∷◌, List, None, sym, ap, subst, arith, length, take, drop}
use Rattle.std.specs.List.{AllByRecursion}
use Rattle.mt_base.specs.Midi.{MidiEvent, view}
use Rattle.retune_model.specs.Faults.{Targets}
use Rattle.retune_model.specs.SourceFaults.{fault_at}
use Rattle.receiver.specs.Stands.{HasRoom}
use Rattle.lifetimes.specs.Views.{options_of}
use Rattle.lifetimes.specs.Port.{HasPlace}
use Rattle.lifetimes.specs.Stands.{place_of}
use Rattle.lifetimes.specs.Steps.{ComesNext, is_heard, opens}
use Rattle.lifetimes.specs.declared.options.Options.{Options}
use Rattle.lifetimes.specs.declared.port.Port.{Port}
use Rattle.lifetimes.proofs.Laws.{Laws}
use Rattle.lifetimes.proofs.Opened.{opened_there, some_port}
use Rattle.lifetimes.proofs.TakeNext.{IsStepped, source_next, source_tells}
use Rattle.lifetimes.proofs.source.Source.take.Goals as goal

pub hear-requires-clause-room : goal.hear-requires-clause-room
hear-requires-clause-room c = λ is.
    let old = c.args.self.now in
    let what = (view c.args.event.now).what in
    let P : Port → Type 0 = λ p. HasRoom p.player what in
    let same = c.count.ensures.counts.options ∙ c.open-place.ensures.opens.options in
    let room = c.requires.can.room (sym (ap (λ (o : Options). is_heard o what) same) ∙ is) in
    subst (λ i. AllByRecursion P (take 1 (drop i c.count.new.self.ports))) (sym c.open-place.ensures.place)
    (subst (λ ps. AllByRecursion P (take 1 (drop (place_of old c.args.port) ps)))
    (sym (c.count.ensures.counts.ports ∙ c.open-place.ensures.opens.ports))
    (opened_there P (λ p z h. h) (opens old c.args.port what) old.ports (place_of old c.args.port) old.used c.args.port room))

pub hear-requires-clause-place : goal.hear-requires-clause-place
hear-requires-clause-place c =
    let old = c.args.self.now in
    let what = (view c.args.event.now).what in
    let P : Port → Type 0 = λ p. HasPlace old.options.tail p c.args.strike.now in
    let same = c.count.ensures.counts.options ∙ c.open-place.ensures.opens.options in
    subst (λ (o : Options). AllByRecursion (λ p. HasPlace o.tail p c.args.strike.now)
    (take 1 (drop c.open-place.result c.count.new.self.ports))) (sym same)
    (subst (λ i. AllByRecursion P (take 1 (drop i c.count.new.self.ports))) (sym c.open-place.ensures.place)
    (subst (λ ps. AllByRecursion P (take 1 (drop (place_of old c.args.port) ps)))
    (sym (c.count.ensures.counts.ports ∙ c.open-place.ensures.opens.ports))
    (opened_there P (λ p z h. h) (opens old c.args.port what) old.ports (place_of old c.args.port) old.used c.args.port c.requires.place)))

-- the steps, as the program takes them
stepped : (c : goal.After-hear) (table : Targets) (es : List MidiEvent) → ComesNext table c.args.self.now es (view c.args.event.now) c.args.port c.args.strike.now
    → fault_at (options_of c.args.self.now.options) table (es ++ view c.args.event.now ∷ []) (length es) ≡ None
    → IsStepped table es (view c.args.event.now) c.args.port c.args.strike.now c.open-place.result c.hear.new.ends
    c.args.self.now c.open-place.new.self c.count.new.self c.hear.new.self
stepped c table es next none =
    let old = c.args.self.now in
    let four : length old.ports ≡ 4 = search rules in
    let few = old.few in
    let at = c.open-place.ensures.place in
    record {
      next = next;
      faultless = none;
      at = at;
      bound = c.open-place.ensures.bound;
      low = λ says. (let low = c.requires.can.place says in omega (arith, low, at, four));
      most = omega (arith, few, four);
      opens = c.open-place.ensures.opens;
      counts = c.count.ensures.counts;
      hears = c.hear.ensures.hears;
    }

laws : goal.After-hear → Laws
laws c = record {
  age = c.music_laws.ensures.age;
  fade = c.music_laws.ensures.fade;
  one = c.receiver_laws.ensures.one_note;
  apart = c.drums_stand_apart.ensures.music;
  music = c.position_laws.ensures.music;
  timed = c.position_laws.ensures.timed;
  written = c.rests_as_written.ensures.holds;
  kept = c.last_ends.ensures.next;
  forgotten = c.last_ends.ensures.reset;
}

a_port : goal.After-hear → Port
a_port c = some_port c.args.self.now.ports (let four : length c.args.self.now.ports ≡ 4 = search rules in omega (arith, four))

pub returns-clause-stands : goal.returns-clause-stands
returns-clause-stands c = λ table es next none.
    source_next (laws c) c.sound_sources.ensures.fine table es (view c.args.event.now) c.args.port c.args.strike.now c.open-place.result
    c.hear.new.ends
    c.args.self.now c.open-place.new.self c.count.new.self c.hear.new.self (stepped c table es next none) (a_port c)

pub returns-clause-ended : goal.returns-clause-ended
returns-clause-ended c = λ table es next none.
    source_tells (laws c) c.sound_sources.ensures.fine table es (view c.args.event.now) c.args.port c.args.strike.now c.open-place.result
    c.hear.new.ends
    c.args.self.now c.open-place.new.self c.count.new.self c.hear.new.self (stepped c table es next none) (a_port c)
