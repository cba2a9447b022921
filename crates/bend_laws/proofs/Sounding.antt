-- What sounds holds its channel, and what an event begins: of any port, as it is on the bend route.
use Rattle.std.proofs.Common.{◌≡◌, ◌<◌, ℕ, zero, suc, Bool, true, false, cond, List, [], ◌∷◌, Option, Some, None, refl, subst, filter, length, get_or, arith, inl, inr}
use Rattle.std.specs.List.{AllByRecursion}
use Rattle.std.proofs.lemmas.Bool.{both_ways, or_cases}
use Rattle.mt_base.specs.declared.event.Msg.TheVariants.{NoteOn, NoteOff, KeyPressure, Control, Program, Pressure, Bend}
use Rattle.mt_base.specs.Valid.{IsValidEvent}
use Rattle.mt_base.specs.Midi.{MidiWhat, Says, SysexOf, MetaOf, MidiEvent}
use Rattle.midi_model.specs.Notes.{Note, sounds}
use Rattle.retune_model.specs.Table.{BendTarget}
use Rattle.retune_model.specs.Options.{Options}
use Rattle.retune_model.specs.Ports.{Numbered, PortEvents, all_zero, of_port, unnumbered, music_at}
use Rattle.retune_model.specs.PlaysTheSame.{bend_target_if}
use Rattle.retune_model.specs.Faults.{Targets, is_part, target_of}
use Rattle.retune_model.specs.Pairs.{Pair, is_same_pair, pair_if}
use Rattle.retune_model.specs.Rests.{notes_at, nobody, steps_of, pair_of, pairs_at, held_at, begun_pair, begun_pairs, IsAimedPort}
use Rattle.retune_model.specs.RestLaws.{HeldWasThere, SoundingIsHeld}
use Rattle.channel_model.specs.BendOutput.{pair_with}
use Rattle.bend_laws.specs.Follows.{Has, IsAmong, SoundAmong, Begins}
use Rattle.bend_laws.proofs.Planning.{BeginsIf}
use Rattle.bend_laws.proofs.Equal.{same_pair}
use Rattle.bend_laws.proofs.Lists.{all_weaker}
use Rattle.bend_laws.proofs.Outputs.{events_if}
use Rattle.bend_laws.proofs.Wellness.{AreValidTo}
use Rattle.bend_laws.proofs.Placing.{StandsAt, at_place, all_of_port}

by_index : (P : Note → Type 0) (xs : List Note) → ((i : ℕ) → i < length xs → P (get_or xs i nobody)) → AllByRecursion P xs
by_index P [] h = tt
by_index P (x ∷ xs) h = (h 0 (omega arith), by_index P xs (λ i l. h (suc i) (omega (arith, l))))

unfiltered : (part : ℕ → Bool) (P : Note → Type 0) (ns : List Note) → AllByRecursion P (filter (λ (n : Note). part n.channel) ns) →
    AllByRecursion (λ n. part n.channel ≡ true → P n) ns
unfiltered part P [] h = tt
unfiltered part P (n ∷ ns) h = pick (part n.channel) refl h (unfiltered part P ns)
  where
    rest : List Note
    rest = filter (λ (x : Note). part x.channel) ns

    pick : (b : Bool) → part n.channel ≡ b → AllByRecursion P (cond b (n ∷ rest) rest) → (AllByRecursion P rest →
        AllByRecursion (λ x. part x.channel ≡ true → P x) ns) →
        (part n.channel ≡ true → P n) × AllByRecursion (λ x. part x.channel ≡ true → P x) ns
    pick true e g f = ((λ p. g.0), f g.1)
    pick false e g f = ((λ p. absurd (both_ways (part n.channel) e p)), f g)

among_if : (z : ℕ) (ps : List Pair) (c : ℕ) (x : Option BendTarget) → (let p : Pair =
    record { part = record { port = z; channel = c }; steps = steps_of x } in Has ps p) → IsAmong z ps c x
among_if z ps c None h = tt
among_if z ps c (Some t) h = h

among_more : (z : ℕ) (ps qs : List Pair) → ((p : Pair) → Has ps p → Has qs p) → (c : ℕ) (x : Option BendTarget) → IsAmong z ps c x → IsAmong z qs c x
among_more z ps qs f c None h = tt
among_more z ps qs f c (Some t) h = f (pair_with z c t) h

pub sound_held : SoundingIsHeld → (o : Options) (table : Targets) (port : PortEvents) → IsAimedPort o (is_part o) table port → (k : ℕ) →
    SoundAmong port.number o table (held_at o (is_part o) table port (suc k)) (music_at port.events k).notes
sound_held law o table port aimed k =
    let ps : List Pair = held_at o (is_part o) table port (suc k) in
    let z : ℕ = port.number in
    all_weaker (λ n. is_part o n.channel ≡ true → sounds n ≡ true → Has ps (pair_of z o table n))
    (λ n. is_part o n.channel ≡ true → sounds n ≡ true → IsAmong z ps n.channel (target_of o table n))
    (λ n h part s. among_if z ps n.channel (target_of o table n) (h part s)) (music_at port.events k).notes
    (unfiltered (is_part o) (λ n. sounds n ≡ true → Has ps (pair_of z o table n)) (music_at port.events k).notes
    (by_index (λ n. sounds n ≡ true → Has ps (pair_of z o table n)) (notes_at (is_part o) port.events k)
    (λ i l s. law o (is_part o) table port aimed k i (l, s))))

pub sound_there : HeldWasThere → SoundingIsHeld → (o : Options) (table : Targets) (port : PortEvents) → IsAimedPort o (is_part o) table port →
    (k : ℕ) →
    SoundAmong port.number o table (pairs_at o (is_part o) table port k) (music_at port.events k).notes
sound_there within law o table port aimed k =
    let ps : List Pair = held_at o (is_part o) table port (suc k) in
    let qs : List Pair = pairs_at o (is_part o) table port k in
    all_weaker (λ n. is_part o n.channel ≡ true → sounds n ≡ true → IsAmong port.number ps n.channel (target_of o table n))
    (λ n. is_part o n.channel ≡ true → sounds n ≡ true → IsAmong port.number qs n.channel (target_of o table n))
    (λ n h part s. among_more port.number ps qs (λ p i. within o (is_part o) table port aimed k p i) n.channel (target_of o table n) (h part s))
    (music_at port.events k).notes (sound_held law o table port aimed k)

begun_if : (z : ℕ) (o : Options) (t c j v : ℕ) (table : Targets) (x : Option BendTarget) (p : Pair) → bend_target_if o.range (table j t) ≡ x →
    (b : Bool) → is_part o c ≡ b → Has (cond b (pair_if z c x []) []) p →
    Begins z o table t (Says (NoteOn c j (suc v))) p
begun_if z o t c j v table x p aim false part h = absurd (both_ways false refl h)
begun_if z o t c j v table None p aim true part h = absurd (both_ways false refl h)
begun_if z o t c j v table (Some y) p aim true part h = (
  part,
  (
    y,
    aim,
    elim (or_cases (is_same_pair p (pair_with z c y)) false h) [
      | inl e ↦ same_pair p (pair_with z c y) e
      | inr e ↦ absurd (both_ways false refl e)
    ],
  ),
)

begins_pair : (z : ℕ) (o : Options) (table : Targets) (t : ℕ) (w : MidiWhat) (p : Pair) → Has (begun_pair z o (is_part o) table t w) p →
    Begins z o table t w p
begins_pair z o table t (Says (NoteOn c j zero)) p h = absurd (both_ways false refl h)
begins_pair z o table t (Says (NoteOn c j (suc v))) p h = begun_if z o t c j v table (bend_target_if o.range (table j t)) p refl (is_part o c) refl h
begins_pair z o table t (Says (NoteOff c j v)) p h = absurd (both_ways false refl h)
begins_pair z o table t (Says (KeyPressure c j v)) p h = absurd (both_ways false refl h)
begins_pair z o table t (Says (Control c n v)) p h = absurd (both_ways false refl h)
begins_pair z o table t (Says (Program c x)) p h = absurd (both_ways false refl h)
begins_pair z o table t (Says (Pressure c v)) p h = absurd (both_ways false refl h)
begins_pair z o table t (Says (Bend c v)) p h = absurd (both_ways false refl h)
begins_pair z o table t (SysexOf lead bytes) p h = absurd (both_ways false refl h)
begins_pair z o table t (MetaOf kind bytes) p h = absurd (both_ways false refl h)

pub begins_one : (z : ℕ) (o : Options) (table : Targets) (x : Option MidiEvent) (p : Pair) → Has (begun_pairs z o (is_part o) table (events_if x)) p →
    BeginsIf z o table x p
begins_one z o table None p h = both_ways false refl h
begins_one z o table (Some e) p h = begins_pair z o table e.tick e.what p h

pub valid_port : (es : List MidiEvent) → AllByRecursion IsValidEvent es → (z last : ℕ) → AreValidTo (of_port z es) last
valid_port es v z last k e low is =
    let s : StandsAt (λ n. IsValidEvent n.event) (suc k) e = at_place (λ n. IsValidEvent n.event) (of_port z es)
    (each (of_port z es) (all_of_port IsValidEvent z all_zero 0 es v)) (suc k) e is in
    subst IsValidEvent s.event s.holds
  where
    each : (ns : List Numbered) → AllByRecursion IsValidEvent (unnumbered ns) → AllByRecursion (λ (n : Numbered). IsValidEvent n.event) ns
    each [] h = tt
    each (n ∷ ns) h = (h.0, each ns h.1)
