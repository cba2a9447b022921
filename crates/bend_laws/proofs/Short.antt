-- In each track what is written for a file takes at most 1,600 bytes for each event beside what the events take.
use Rattle.std.proofs.Common.{◌≡◌, ◌≢◌, ◌<◌, ◌≤◌, ◌+◌, ◌*◌, ◌++◌, ℕ, suc, Bool, true, false, cond, List, [], ◌∷◌, Some, None, refl, ap, sym, ◌∙◌, subst, map, length, nat_eq, eqb, arith, inl, inr}
use Rattle.std.proofs.lemmas.Bool.{cases_eq, eq-eqb, ne_eqb}
use Rattle.retune_model.specs.Pairs.{Pair}
use Rattle.mt_base.specs.Midi.{MidiWhat, MidiEvent}
use Rattle.midi_model.specs.WellFormed.{IsWellFormed}
use Rattle.midi_model.specs.Merged.{of_track, timed}
use Rattle.midi_model.specs.SizeLaws.{most_of_track, WrittenIsWithinMost}
use Rattle.midi_model.specs.Writing.{track_bytes}
use Rattle.midi_model.specs.Music.{step}
use Rattle.retune_model.specs.Options.{Options}
use Rattle.retune_model.specs.Faults.{Targets}
use Rattle.retune_model.specs.Ports.{Numbered, port_of, ports_after, all_zero, with_event, of_port_from, of_port}
use Rattle.channel_model.specs.BendOutput.{placed_at, PortRuns, Played, unplayed, next_played, runs_on, bend_output}
use Rattle.bend_laws.specs.Moments.{moment, Both}
use Rattle.bend_laws.specs.Follows.{IsGiven, AreUsed}
use Rattle.bend_laws.specs.Positions.{port_event, both_next, both_at}
use Rattle.bend_laws.specs.Bent.{uses, IsBent}
use Rattle.bend_laws.proofs.Given.{Laws}
use Rattle.bend_laws.proofs.Planning.{source_at, IsPlanned}
use Rattle.bend_laws.proofs.Playing.{saying}
use Rattle.bend_laws.proofs.Simulates.{source_is, sound_at, follows_at}
use Rattle.bend_laws.proofs.Shown.{plays_at}
use Rattle.bend_laws.proofs.Wellness.{IsFineSource, fine_source}
use Rattle.bend_laws.proofs.Blockwise.{causes_of, block_of, state_after, file_from}
use Rattle.bend_laws.proofs.Placing.{at_next}
use Rattle.bend_laws.proofs.Ported.{PortFacts}
use Rattle.bend_laws.proofs.Filed.{OnPort, on_port}
use Rattle.bend_laws.proofs.Roomy.{AreRoomy, source_roomy, left_roomy}
use Rattle.bend_laws.proofs.Bytes.{TakeAtMost, most_in, none_take, one_takes, said_take}
use Rattle.bend_laws.proofs.Causing.{CountLaws, IsAround, IsShort, event_count}

-- ---- an event of a port

around : Laws IsWellFormed → CountLaws → (o : Options) (table : Targets) (used : ℕ → Bool) → AreUsed o used → (plan : PortRuns)
    (ns : List Numbered) (last : ℕ) → IsPlanned IsWellFormed o table used plan ns last → (k : ℕ) → k < last → (e : MidiEvent) →
    port_event ns (suc k) ≡ Some e → IsAround plan.number o table used (moment plan k) (both_at o table plan ns k) e
around laws counts o table used row plan ns last given k low e is =
    let b : Both = both_at o table plan ns k in
    let at_most : k ≤ last = omega (arith, low) in
    let src : b.source ≡ source_at ns k = source_is o table plan ns k in
    let next : (both_at o table plan ns (suc k)).source ≡ step b.source e =
    ap (λ x. (both_next plan.number o table (moment plan k) b x).source) is in
    record {
      row = row;
      follows = follows_at IsWellFormed laws o table used row plan ns last given k at_most;
      given = subst (λ m. IsGiven IsWellFormed plan.number o table used (moment plan k) m e) (sym src)
          (sound_at IsWellFormed o table used plan ns last given k low e is);
      there = (plays_at IsWellFormed laws o table used row plan ns last given k at_most).there;
      source = subst IsFineSource (sym src) (fine_source ns last given.valid k at_most);
      left = left_roomy counts.zones o table used plan ns last given k at_most;
      roomy = subst (AreRoomy o) (sym (source_is o table plan ns (suc k)) ∙ next)
          (source_roomy counts.zones o table used plan ns last given (suc k) low);
    }

-- ---- the events of a port among those of the file

none_before : (z : ℕ) (ports : ℕ → ℕ) (k : ℕ) (es : List MidiEvent) (j : ℕ) → j ≤ k → port_event (of_port_from z ports k es) j ≡ None
none_before z ports k [] j l = refl
none_before z ports k (e ∷ es) j l = pick (nat_eq (port_of ports e) z) (none_before z (ports_after ports e) (suc k) es j (omega (arith, l)))
  where
    ns : List Numbered
    ns = of_port_from z (ports_after ports e) (suc k) es

    pick : (b : Bool) → port_event ns j ≡ None → port_event (with_event b (at_next k e) ns) j ≡ None
    pick true h = ap (λ b. cond b (Some e) (port_event ns j)) (ne_eqb (suc k) j (λ s. omega (arith, s, l))) ∙ h
    pick false h = h

passed_over : (b : Bool) (k : ℕ) (e : MidiEvent) (ns : List Numbered) (j : ℕ) → suc k < j →
    port_event (with_event b (at_next k e) ns) j ≡ port_event ns j
passed_over true k e ns j l = ap (λ b. cond b (Some e) (port_event ns j)) (ne_eqb (suc k) j (λ s. omega (arith, s, l)))
passed_over false k e ns j l = refl

at_own : (b : Bool) (k : ℕ) (e : MidiEvent) (ns : List Numbered) → b ≡ true → port_event (with_event b (at_next k e) ns) (suc k) ≡ Some e
at_own true k e ns h = ap (λ b. cond b (Some e) (port_event ns (suc k))) (eq-eqb (suc k) (suc k) refl)
at_own false k e ns h = absurd cc

at_other : (b : Bool) (k : ℕ) (e : MidiEvent) (ns : List Numbered) → b ≡ false → port_event ns (suc k) ≡ None →
    port_event (with_event b (at_next k e) ns) (suc k) ≡ None
at_other true k e ns h g = absurd cc
at_other false k e ns h g = g

-- ---- the file

-- what is kept in mind for a port at a position
abbrev played_at : Both → Played
played_at b = record { source = b.source; out = b.out }

-- the events that are left behind a position, and what is kept in mind then
record IsBehind (o : Options) (table : Targets) (runs : ℕ → PortRuns) (all : ℕ → List Numbered) (ports : ℕ → ℕ) (k : ℕ) (s : ℕ → Played)
    (es : List MidiEvent) : Type 0 where
  events : (z j : ℕ) → k < j → port_event (all z) j ≡ port_event (of_port_from z ports k es) j
  played : (z : ℕ) → s z ≡ played_at (both_at o table (runs z) (all z) k)

one_on : (o : Options) (table : Targets) (runs : ℕ → PortRuns) (all : ℕ → List Numbered) (ports : ℕ → ℕ) (k : ℕ) (s : ℕ → Played) (e : MidiEvent)
    (es : List MidiEvent) → IsBehind o table runs all ports k s (e ∷ es) →
    IsBehind o table runs all (ports_after ports e) (suc k) (state_after o table runs ports k s e) es
one_on o table runs all ports k s e es h = record {
  events = λ y j l. h.events y j (omega (arith, l)) ∙ passed_over (nat_eq (port_of ports e) y) k e (of_port_from y (ports_after ports e)
      (suc k) es) j l;
  played = λ y. elim (cases_eq y z) [
    | inl same ↦ subst (λ x. state_after o table runs ports k s e x ≡ played_at (both_at o table (runs x) (all x) (suc k))) (sym same) own
    | inr other ↦ ap (λ b. cond b (next_played o table (runs z) (s z) (at_next k e)) (s y)) (ne_eqb y z other) ∙ h.played y
        ∙ sym (ap (λ x. played_at (both_next (runs y).number o table (moment (runs y) k) (both_at o table (runs y) (all y) k) x)) (none y other))
  ];
}
  where
    z : ℕ
    z = port_of ports e

    is : port_event (all z) (suc k) ≡ Some e
    is = h.events z (suc k) (omega arith) ∙ at_own (nat_eq z z) k e (of_port_from z (ports_after ports e) (suc k) es) (eq-eqb z z refl)

    none : (y : ℕ) → y ≢ z → port_event (all y) (suc k) ≡ None
    none y other = h.events y (suc k) (omega arith) ∙ at_other (nat_eq z y) k e (of_port_from y (ports_after ports e) (suc k) es)
        (ne_eqb z y (λ q. other (sym q))) (none_before y (ports_after ports e) (suc k) es (suc k) (omega arith))

    own : state_after o table runs ports k s e z ≡ played_at (both_at o table (runs z) (all z) (suc k))
    own = ap (λ b. cond b (next_played o table (runs z) (s z) (at_next k e)) (s z)) (eq-eqb z z refl)
        ∙ ap (λ t. next_played o table (runs z) t (at_next k e)) (h.played z)
        ∙ sym (ap (λ x. played_at (both_next (runs z).number o table (moment (runs z) k) (both_at o table (runs z) (all z) k) x)) is)

at_start : (o : Options) (table : Targets) (runs : ℕ → PortRuns) (es : List MidiEvent) →
    IsBehind o table runs (λ z. of_port z es) all_zero 0 (λ z. unplayed) es
at_start o table runs es = record { events = λ z j l. refl; played = λ z. refl }

-- ---- its bytes

at_most : (track : ℕ) (es : List MidiEvent) (n m : ℕ) → TakeAtMost track es n → n ≤ m → TakeAtMost track es m
at_most track es n m h l running before = omega (arith, h running before, l)

most_cons : (track : ℕ) (e : MidiEvent) (es : List MidiEvent) → most_in track (e ∷ es) ≡ most_in track (e ∷ []) + most_in track es
most_cons track e es = pick (eqb e.track track)
  where
    pick : (b : Bool) → most_of_track (map timed (cond b (e ∷ of_track track es) (of_track track es)))
        ≡ most_of_track (map timed (cond b (e ∷ []) [])) + most_of_track (map timed (of_track track es))
    pick true = omega arith
    pick false = omega arith

block_takes : WrittenIsWithinMost → (track : ℕ) (e : MidiEvent) (ws : List MidiWhat) → IsShort e.what ws → (es : List MidiEvent) (n : ℕ) →
    TakeAtMost track es n → TakeAtMost track (placed_at e ws ++ es) (most_in track (e ∷ []) + 1600 + n)
block_takes within track e ws (inl f) es n h =
    subst (λ xs. TakeAtMost track (placed_at e xs ++ es) (most_in track (e ∷ []) + 1600 + n)) (sym f.is)
    (at_most track (saying e f.messages ++ es) (4 * length f.messages + 3 + n) (most_in track (e ∷ []) + 1600 + n)
    (said_take within track e es n h f.messages) (let few : length f.messages ≤ 392 = f.few in omega (arith, few)))
block_takes within track e ws (inr same) es n h =
    subst (λ xs. TakeAtMost track (placed_at e xs ++ es) (most_in track (e ∷ []) + 1600 + n)) (sym same)
    (at_most track (e ∷ es) (most_in track (e ∷ []) + n) (most_in track (e ∷ []) + 1600 + n) (one_takes within track e es n h) (omega arith))

-- each block of the file is short
abbrev AreShort : Options → Targets → (ℕ → PortRuns) → (ℕ → List Numbered) → ℕ → Type 0
AreShort o table runs all last = (z k : ℕ) (e : MidiEvent) → k < last → port_event (all z) (suc k) ≡ Some e →
    IsShort e.what (causes_of o table (runs z) k (played_at (both_at o table (runs z) (all z) k)) e)

from_short : WrittenIsWithinMost → (track : ℕ) (o : Options) (table : Targets) (runs : ℕ → PortRuns) (all : ℕ → List Numbered) (last : ℕ) →
    AreShort o table runs all last → (ports : ℕ → ℕ) (k : ℕ) (s : ℕ → Played) (es : List MidiEvent) → k + length es ≡ last →
    IsBehind o table runs all ports k s es → TakeAtMost track (file_from o table runs ports k s es) (most_in track es + 1600 * length es)
from_short within track o table runs all last short ports k s [] end h = none_take track
from_short within track o table runs all last short ports k s (e ∷ es) end h =
    let z : ℕ = port_of ports e in
    let later : ℕ = most_in track es + 1600 * length es in
    let rest : List MidiEvent = file_from o table runs (ports_after ports e) (suc k) (state_after o table runs ports k s e) es in
    let low : k < last = omega (arith, end) in
    let is : port_event (all z) (suc k) ≡ Some e = h.events z (suc k) (omega arith) ∙ at_own (nat_eq z z) k e
    (of_port_from z (ports_after ports e) (suc k) es) (eq-eqb z z refl) in
    let here : IsShort e.what (causes_of o table (runs z) k (s z) e) =
    subst (λ t. IsShort e.what (causes_of o table (runs z) k t e)) (sym (h.played z)) (short z k e low is) in
    let takes : TakeAtMost track (block_of o table (runs z) k (s z) e ++ rest) (most_in track (e ∷ []) + 1600 + later) =
    block_takes within track e (causes_of o table (runs z) k (s z) e) here rest later
    (from_short within track o table runs all last short (ports_after ports e) (suc k) (state_after o table runs ports k s e) es
    (omega (arith, end)) (one_on o table runs all ports k s e es h)) in
    at_most track (block_of o table (runs z) k (s z) e ++ rest) (most_in track (e ∷ []) + 1600 + later)
    (most_in track (e ∷ es) + 1600 * length (e ∷ es)) takes (let sum = most_cons track e es in omega (arith, sum))

pub file_short : WrittenIsWithinMost → Laws IsWellFormed → CountLaws → PortFacts → (o : Options) (allowed : ℕ → Bool) (table : Targets)
    (es : List MidiEvent) (need : ℕ → ℕ) (channel : ℕ → ℕ → Pair → ℕ) → IsBent o allowed table es need channel → (track : ℕ) →
    length (track_bytes (map timed (of_track track (bend_output o table channel es))))
    ≤ most_of_track (map timed (of_track track es)) + 1600 * length es
file_short within laws counts f o allowed table es need channel b track =
    let runs : ℕ → PortRuns = runs_on o table es channel in
    let short : AreShort o table runs (λ z. of_port z es) (length es) = λ z k e low is. (
    let p : OnPort o allowed table es need channel z = on_port f o allowed table es need channel b z in
    let here : Both = both_at o table (runs z) (of_port z es) k in
    event_count counts z o table (uses o allowed (need z)) (moment (runs z) k) here e.tick e.track e.what
    (around laws counts o table (uses o allowed (need z)) p.used (runs z) (of_port z es) (length es) p.planned k low e is)) in
    from_short within track o table runs (λ z. of_port z es) (length es) short all_zero 0 (λ z. unplayed) es (omega arith)
    (at_start o table runs es) 0 0
