-- A source that is passed on by its plan, event by event.
use Rattle.std.proofs.Common.{◌≡◌, ◌<◌, ◌++◌, ℕ, suc, false, cond, List, ◌∷◌, Option, refl, sym, ap, ◌∙◌, subst, length, take, inl, inr}
use Rattle.std.proofs.lemmas.Bool.{cases_eq, eq-eqb, ne_eqb}
use Rattle.mt_base.specs.Midi.{MidiEvent}
use Rattle.midi_model.specs.Sysex.{doing}
use Rattle.midi_model.specs.Writing.{Written}
use Rattle.retune_model.specs.Options.{Options}
use Rattle.retune_model.specs.Faults.{Targets}
use Rattle.retune_model.specs.Ports.{Numbered, ports_from, all_zero}
use Rattle.retune_model.specs.PortOutput.{kept_for, through_ports_from}
use Rattle.retune_model.specs.Routes.{dump_next}
use Rattle.channel_model.specs.BendOutput.{runs_on}
use Rattle.channel_model.specs.MpeOutput.{Zone, Zoned, zones_setup, zoned_block, next_zoned}
use Rattle.channel_model.specs.Rows.{zones_on}
use Rattle.plan_laws.specs.Counting.{ComesAt}
use Rattle.lifetimes.specs.Told.{port_on, count_begun, begun_by}
use Rattle.routes.specs.Device.{resets_all}
use Rattle.routes.specs.Putting.{IsPut}
use Rattle.routes.proofs.Puts.{not_begun}
use Rattle.channel_plan.specs.declared.plan.Plan.{Plan}
use Rattle.mpe_route.specs.declared.kept.Kept.{Kept}
use Rattle.mpe_route.specs.declared.caused.Played.{Played}
use Rattle.mpe_route.specs.Caused.{played_if, caused_by}
use Rattle.mpe_route.specs.Kept.{begun_in, bend_in, bends_after}
use Rattle.mpe_route.specs.Putting.{block_events}
use Rattle.mpe_route.specs.Planned.{planned_channel, zoned}
use Rattle.mpe_route.specs.Laws.{IsZonable}
use Rattle.mpe_route.specs.Zones.{zones_in}
use Rattle.mpe_route.proofs.Kit.{Kit}
use Rattle.mpe_route.proofs.PlannedZones.{zones_are}
use Rattle.mpe_route.proofs.Bends.{state}
use Rattle.mpe_route.proofs.Block.{note_of, block_is}
use Rattle.mpe_route.proofs.Steps.{AllBends, bends_first, bends_next, state_here, state_other}
use Rattle.lifetimes.proofs.Ported.{ports_append}
use Rattle.routes.proofs.States.{ext}

-- ---- what is still to come

abbrev block : Options → Targets → List MidiEvent → Plan → ℕ → Zoned → Numbered → List MidiEvent
block o table es plan z s n = zoned_block o table (zones_on o table es z) (runs_on o table es (planned_channel o table es plan) z) s n

abbrev next : Options → Targets → List MidiEvent → Plan → ℕ → Zoned → Numbered → Zoned
next o table es plan z s n = next_zoned o table (zones_on o table es z) (runs_on o table es (planned_channel o table es plan) z) s n

-- what the events from a position on cause
abbrev pub later : Options → Targets → List MidiEvent → Plan → ℕ → List MidiEvent → List MidiEvent
later o table es plan k rest =
    through_ports_from (block o table es plan) (next o table es plan) (ports_from all_zero (take k es)) k (λ z. state o table es plan z k) rest

-- what is put for an event of a port, which begins or releases a note, by what is kept
abbrev pub block_put : Options → Plan → MidiEvent → ℕ → Option Played → Kept → List MidiEvent
block_put o plan e z note kept = block_events (zones_setup o.range (zones_in plan z)) (begun_in kept z)
    (caused_by o (zones_in plan z) (bend_in kept z) note e.what) e

-- Up to a position all was put; what is kept is what the definitions keep.
pub record Passing (o : Options) (table : Targets) (es : List MidiEvent) (plan : Plan) (k : ℕ) (rest : List MidiEvent) (kept : Kept)
    (old new : List Written) : Type 0 where
  pub begun : (z : ℕ) → begun_in kept z ≡ (state o table es plan z k).begun
  pub bends : AllBends o table es plan (bend_in kept) k
  pub put : IsPut old (zoned o table es plan) (later o table es plan k rest) new

-- as the program has it
pub given_put : (o q : Options) (plan : Plan) (e : MidiEvent) (z : ℕ) (note other : Option Played) (kept : Kept) → q ≡ o → other ≡ note
    → block_put o plan e z note kept ≡ block_put q plan e z other kept
given_put o q plan e z note other kept is same =
    ap (λ x. block_put x plan e z note kept) (sym is) ∙ ap (λ n. block_put q plan e z n kept) (sym same)

module _ (kit : Kit) (o : Options) (table : Targets) (es : List MidiEvent) (plan : Plan) (h : IsZonable o table es plan) where
  abbrev zones : ℕ → List Zone
  zones = zones_on o table es

  abbrev at : ℕ → MidiEvent → ℕ
  at k e = port_on (take k es) e

  states_next : (k : ℕ) (e : MidiEvent) → ComesAt es k e → k < length es
      → (let n : Numbered = record { position = suc k; event = e } in
      kept_for (at k e) (next o table es plan (at k e) (state o table es plan (at k e) k) n) (λ z. state o table es plan z k)
      ≡ (λ z. state o table es plan z (suc k)))
  states_next k e comes low = ext (kept_for y (next o table es plan y (s y) n) s) (λ z. state o table es plan z (suc k)) (λ z. elim (cases_eq z y) [
    | inl same ↦ ap (λ b. cond b (next o table es plan y (s y) n) (s z)) (eq-eqb z y same)
        ∙ sym (state_here kit o table es plan h y k e comes low (eq-eqb y y refl)) ∙ ap (λ x. state o table es plan x (suc k)) (sym same)
    | inr other ↦ ap (λ b. cond b (next o table es plan y (s y) n) (s z)) (ne_eqb z y other)
        ∙ sym (state_other kit o table es plan h z k e comes low (ne_eqb y z (λ x. other (sym x))))
  ])
    where
      y : ℕ
      y = at k e

      n : Numbered
      n = record { position = suc k; event = e }

      s : ℕ → Zoned
      s z = state o table es plan z k

  later_next : (k : ℕ) (e : MidiEvent) (more : List MidiEvent) → ComesAt es k e → k < length es
      → (let n : Numbered = record { position = suc k; event = e } in
      later o table es plan k (e ∷ more) ≡ block o table es plan (at k e) (state o table es plan (at k e) k) n ++ later o table es plan (suc k) more)
  later_next k e more comes low =
      let n : Numbered = record { position = suc k; event = e } in
      let one : List MidiEvent = block o table es plan (at k e) (state o table es plan (at k e) k) n in
      let kept : ℕ → Zoned = kept_for (at k e) (next o table es plan (at k e) (state o table es plan (at k e) k) n)
      (λ z. state o table es plan z k) in
      ap (λ ports. one ++ through_ports_from (block o table es plan) (next o table es plan) ports (suc k) kept more)
      (sym (ports_append all_zero (take k es) e) ∙ ap (ports_from all_zero) (sym (kit.events.taken es k e comes).0))
      ∙ ap (λ s. one ++ through_ports_from (block o table es plan) (next o table es plan) (ports_from all_zero (take (suc k) es)) (suc k) s more)
      (states_next k e comes low)

  pub begins : (kept : Kept) (rest : List MidiEvent) (old : List Written) → rest ≡ es → begun_in kept ≡ (λ z. false)
      → ((z d : ℕ) → z < 256 → d < 16 → bend_in kept z d ≡ 8192) → Passing o table es plan 0 rest kept old old
  begins kept rest old is begun level = record {
    begun = λ z. ap (λ f. f z) begun;
    bends = bends_first kit o table es plan h (bend_in kept) level;
    put = subst (λ l. IsPut old (zoned o table es plan) (later o table es plan 0 l) old) (sym is) (not_begun old (zoned o table es plan));
  }

  -- the event's block comes next
  pub turn : (k : ℕ) (e : MidiEvent) (rest more : List MidiEvent) (kept : Kept) (old new : List Written) → Passing o table es plan k rest kept old new
      → rest ≡ e ∷ more → ComesAt es k e → k < length es → (z : ℕ) → z < 256 → at k e ≡ z
      → IsPut old (zoned o table es plan)
      (block_put o plan e z (note_of o table (take k es) plan z e.tick e.what) kept ++ later o table es plan (suc k) more) new
  turn k e rest more kept old new p is comes low z byte here =
      let n : Numbered = record { position = suc k; event = e } in
      let zs : zones_in plan z ≡ zones z = zones_are o h.planned.allowed table es plan z h.route h.planned.gives in
      let note = note_of o table (take k es) plan z e.tick e.what in
      let same : block o table es plan z (state o table es plan z k) n ≡ block_put o plan e z note kept =
      block_is kit o table es plan h z k e (bend_in kept z) comes low here (p.bends z byte)
      ∙ ap (λ b. block_events (zones_setup o.range (zones z)) b (caused_by o (zones z) (bend_in kept z) note e.what) e) (sym (p.begun z))
      ∙ ap (λ l. block_events (zones_setup o.range l) (begun_in kept z) (caused_by o l (bend_in kept z) note e.what) e) (sym zs) in
      subst (λ l. IsPut old (zoned o table es plan) l new)
      (ap (later o table es plan k) is ∙ later_next k e more comes low
      ∙ ap (λ y. block o table es plan y (state o table es plan y k) n ++ later o table es plan (suc k) more) here
      ∙ ap (λ l. l ++ later o table es plan (suc k) more) same)
      p.put

  -- it was put
  pub passes : (k : ℕ) (e : MidiEvent) (rest more : List MidiEvent) (kept then : Kept) (old new new2 : List Written) (z : ℕ) (begun : Option Played)
      → Passing o table es plan k rest kept old new → ComesAt es k e → k < length es → z < 256 → at k e ≡ z
      → begun ≡ played_if plan (begun_by o table z (suc (count_begun o (take k es))) e.tick e.what)
      → begun_in then ≡ kept_for z (dump_next (begun_in kept z) (doing e.what)) (begun_in kept)
      → ((y d : ℕ) → y < 256 → d < 16 → bend_in then y d ≡ bends_after z (resets_all e.what) begun (bend_in kept) y d)
      → IsPut old (zoned o table es plan) (later o table es plan (suc k) more) new2
      → Passing o table es plan (suc k) more then old new2
  passes k e rest more kept then old new new2 z begun p comes low byte here note begun_kept bends_kept put = record {
    begun = λ y. ap (λ f. f y) begun_kept ∙ elim (cases_eq y z) [
      | inl same ↦ ap (λ b. cond b (dump_next (begun_in kept z) (doing e.what)) (begun_in kept y)) (eq-eqb y z same)
          ∙ ap (λ b. dump_next b (doing e.what)) (p.begun z)
          ∙ sym (ap (λ (s : Zoned). s.begun) (state_here kit o table es plan h z k e comes low (eq-eqb (at k e) z here)))
          ∙ ap (λ x. (state o table es plan x (suc k)).begun) (sym same)
      | inr other ↦ ap (λ b. cond b (dump_next (begun_in kept z) (doing e.what)) (begun_in kept y)) (ne_eqb y z other)
          ∙ p.begun y
          ∙ sym (ap (λ (s : Zoned). s.begun) (state_other kit o table es plan h y k e comes low
          (ne_eqb (at k e) y (λ x. other (sym x ∙ here)))))
    ];
    bends = bends_next kit o table es plan h (bend_in kept) (bend_in then) k e begun comes low
        (note ∙ ap (λ y. played_if plan (begun_by o table y (suc (count_begun o (take k es))) e.tick e.what)) (sym here))
        (λ y d b l. bends_kept y d b l ∙ ap (λ x. bends_after x (resets_all e.what) begun (bend_in kept) y d) (sym here)) p.bends;
    put = put;
  }
