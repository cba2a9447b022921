use Rattle.std.proofs.Common.{◌≡◌, ◌<◌, ◌∙◌, sym, ap, ℕ, ℤ, true, false, ◌||◌, w32, to_z, of_z, List, length, arith, rules}
use Rattle.std.proofs.lemmas.Int.{to_z-of_z}
use Rattle.mt_base.specs.Midi.{MidiEvent}
use Rattle.midi_model.specs.Order.{AreInOrder}
use Rattle.retune_model.specs.Options.{Options}
use Rattle.retune_model.specs.Ports.{tick_to}
use Rattle.retune_model.specs.PortLaws.{MusicAtAPosition, PortsAreTimed}
use Rattle.retune_model.specs.RestLaws.{NotesHoldAsWritten}
use Rattle.retune_model.specs.Rests.{is_within_tail}
use Rattle.retune_model.specs.Faults.{Targets, is_part}
use Rattle.retune_model.specs.Pairs.{Pair}
use Rattle.lifetimes.specs.Resting.{end_kept}
use Rattle.lifetimes.specs.Told.{pair_sounds, pair_holds}
use Rattle.lifetimes.specs.Stands.{PortStands, pair_on, end_of_pair}
use Rattle.lifetimes.specs.Port.{rests_in}
use Rattle.lifetimes.specs.declared.port.Port.{Port}
use Rattle.lifetimes.proofs.PairsTold.{holds_or_rests}
use Rattle.lifetimes.proofs.PairSets.{is_held_tells}
use Rattle.lifetimes.proofs.port.Port.holds.Goals as goal

-- a pair that sounds holds; of one that doesn't, the end that is kept tells
sounds_so : MusicAtAPosition → PortsAreTimed → NotesHoldAsWritten → (o : Options) (table : Targets) (es : List MidiEvent) (p : Pair) → AreInOrder 0 es
    → true ≡ pair_sounds o table es p → true ≡ pair_holds o table es p
sounds_so at timed written o table es p order s =
    sym (holds_or_rests at timed written o table es p order ∙ ap (λ a. a || is_within_tail o.tail (tick_to es (length es)) (end_of_pair o table es p)) (sym s))

rests_so : MusicAtAPosition → PortsAreTimed → NotesHoldAsWritten → (o : Options) (table : Targets) (es : List MidiEvent) (port : Port) (c : ℕ) (q : ℤ) → AreInOrder 0 es
    → PortStands o table es port → c < 16 → is_part o c ≡ true → false ≡ pair_sounds o table es (pair_on port.number c q)
    → is_within_tail o.tail (tick_to es (length es)) (end_kept (rests_in port c) q) ≡ pair_holds o table es (pair_on port.number c q)
rests_so at timed written o table es port c q order stands low part s =
    let p = pair_on port.number c q in
    stands.rests c q (tick_to es (length es)) low part (omega arith)
    ∙ sym (holds_or_rests at timed written o table es p order ∙ ap (λ a. a || is_within_tail o.tail (tick_to es (length es)) (end_of_pair o table es p)) (sym s))

pub returns-then-sounds-clause-holds : goal.returns-then-sounds-clause-holds
returns-then-sounds-clause-holds c = λ o table es valid order stands tail tick part.
    let port = c.args.self.now in
    let sound : true ≡ pair_sounds o table es (pair_on port.number c.args.channel c.args.steps) =
    c.if-sounds.ensures.sounds o table es valid stands ∙ ap (λ q. pair_sounds o table es (pair_on port.number c.args.channel q)) (to_z-of_z w32 c.args.steps c.ranges.steps) in
    c.if-sounds.true
    ∙ sounds_so c.position_laws.ensures.music c.position_laws.ensures.timed c.rests_as_written.ensures.holds o table es (pair_on port.number c.args.channel c.args.steps) order sound

pub returns-then-sounds-clause-pairs : goal.returns-then-sounds-clause-pairs
returns-then-sounds-clause-pairs c = λ o table es valid order faultless stands tail tick bends part.
    returns-then-sounds-clause-holds c o table es valid order stands tail tick part
    ∙ is_held_tells c.rests_are_runs.ensures.pairs c.sound_sources.ensures.aimed o table es c.args.self.now.number c.args.channel c.args.steps bends order faultless

pub returns-else-sounds-clause-holds : goal.returns-else-sounds-clause-holds
returns-else-sounds-clause-holds c = λ o table es valid order stands tail tick part.
    let port = c.args.self.now in
    let low : c.args.channel < 16 = search rules in
    let silent : false ≡ pair_sounds o table es (pair_on port.number c.args.channel c.args.steps) =
    c.if-sounds.ensures.sounds o table es valid stands ∙ ap (λ q. pair_sounds o table es (pair_on port.number c.args.channel q)) (to_z-of_z w32 c.args.steps c.ranges.steps) in
    c.rests.ensures
    ∙ (ap (λ xs. is_within_tail c.args.tail c.args.tick (end_kept xs (to_z w32 (of_z w32 c.args.steps)))) c.notes.ensures.rests
    ∙ (ap (λ q. is_within_tail c.args.tail c.args.tick (end_kept (rests_in port c.args.channel) q)) (to_z-of_z w32 c.args.steps c.ranges.steps)
    ∙ (ap (λ a. is_within_tail a c.args.tick (end_kept (rests_in port c.args.channel) c.args.steps)) tail
    ∙ (ap (λ t. is_within_tail o.tail t (end_kept (rests_in port c.args.channel) c.args.steps)) tick
    ∙ rests_so c.position_laws.ensures.music c.position_laws.ensures.timed c.rests_as_written.ensures.holds o table es port c.args.channel c.args.steps order stands low part silent))))

pub returns-else-sounds-clause-pairs : goal.returns-else-sounds-clause-pairs
returns-else-sounds-clause-pairs c = λ o table es valid order faultless stands tail tick bends part.
    returns-else-sounds-clause-holds c o table es valid order stands tail tick part
    ∙ is_held_tells c.rests_are_runs.ensures.pairs c.sound_sources.ensures.aimed o table es c.args.self.now.number c.args.channel c.args.steps bends order faultless
