-- An event of a source, as the program has read it: what is put for it comes next.
use Rattle.std.proofs.Common.{◌≡◌, ◌<◌, ◌++◌, ◌∷◌, ℕ, suc, List, Option, sym, ap, ◌∙◌, subst, length, take}
use Rattle.mt_base.specs.Midi.{MidiEvent}
use Rattle.midi_model.specs.Writing.{Written}
use Rattle.retune_model.specs.Options.{Options}
use Rattle.retune_model.specs.Faults.{Targets}
use Rattle.plan_laws.specs.Counting.{ComesAt}
use Rattle.lifetimes.specs.declared.change.Change.{Change}
use Rattle.lifetimes.specs.Told.{TellsChange, port_on, count_begun, begun_by}
use Rattle.routes.specs.Putting.{IsPut}
use Rattle.channel_plan.specs.declared.plan.Plan.{Plan}
use Rattle.mpe_route.specs.declared.kept.Kept.{Kept}
use Rattle.mpe_route.specs.declared.caused.Played.{Played}
use Rattle.mpe_route.specs.Planned.{zoned}
use Rattle.mpe_route.specs.Laws.{IsZonable}
use Rattle.mpe_route.specs.Caused.{played_if, released_by, either}
use Rattle.mpe_route.proofs.Kit.{Kit}
use Rattle.mpe_route.proofs.Block.{note_of}
use Rattle.mpe_route.proofs.Passing.{Passing, later, block_put, given_put, turn}

-- The event behind a front is of port z; it begins the one note and releases the other.
pub record IsTurn (o : Options) (table : Targets) (plan : Plan) (front : List MidiEvent) (e : MidiEvent) (z : ℕ)
    (begins releases : Option Played) : Type 0 where
  pub here : port_on front e ≡ z
  pub begun : begins ≡ played_if plan (begun_by o table z (suc (count_begun o front)) e.tick e.what)
  pub released : releases ≡ released_by o table front plan z e.what

-- it is so by what is told of it, with the options and the table that are asked
pub told_turn : (o other : Options) (table targets : Targets) (plan : Plan) (front : List MidiEvent) (e : MidiEvent) (change : Change)
    (begins releases : Option Played) → other ≡ o → targets ≡ table → TellsChange other targets front e change
    → begins ≡ played_if plan change.begun → releases ≡ released_by other targets front plan (port_on front e) e.what
    → IsTurn o table plan front e change.port begins releases
told_turn o other table targets plan front e change begins releases options same told begun released =
    let tells : TellsChange o table front e change =
    subst (λ t. TellsChange o t front e change) same (subst (λ (x : Options). TellsChange x targets front e change) options told) in
    let here : port_on front e ≡ change.port = sym tells.port in
    record {
      here = here;
      begun = begun ∙ ap (played_if plan) tells.begun
          ∙ ap (λ y. played_if plan (begun_by o table y (suc (count_begun o front)) e.tick e.what)) here;
      released = released ∙ ap (λ (x : Options). released_by x targets front plan (port_on front e) e.what) options
          ∙ ap (λ t. released_by o t front plan (port_on front e) e.what) same
          ∙ ap (λ y. released_by o table front plan y e.what) here;
    }

-- so what is put for it comes next
pub turn_put : Kit → (o q : Options) (table : Targets) (es : List MidiEvent) (plan : Plan) → IsZonable o table es plan → (k : ℕ) (e : MidiEvent)
    (rest more : List MidiEvent) (kept : Kept) (old now : List Written) → Passing o table es plan k rest kept old now → rest ≡ e ∷ more
    → ComesAt es k e → k < length es → q ≡ o → (z : ℕ) → z < 256 → (begins releases : Option Played)
    → IsTurn o table plan (take k es) e z begins releases
    → IsPut old (zoned o table es plan) (block_put q plan e z (either begins releases) kept ++ later o table es plan (suc k) more) now
turn_put kit o q table es plan h k e rest more kept old now passing some comes low is z byte begins releases t =
    let front = take k es in
    let note = note_of o table front plan z e.tick e.what in
    let same : either begins releases ≡ note = ap (λ x. either x releases) t.begun
    ∙ ap (either (played_if plan (begun_by o table z (suc (count_begun o front)) e.tick e.what))) t.released in
    subst (λ l. IsPut old (zoned o table es plan) (l ++ later o table es plan (suc k) more) now)
    (given_put o q plan e z note (either begins releases) kept is same)
    (turn kit o table es plan h k e rest more kept old now passing some comes low z byte t.here)
