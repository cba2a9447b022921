-- The state in which a channel was left is what its last run's pair needed right after the last event at which it was held.
use Rattle.std.proofs.Common.{◌≡◌, ◌<◌, ◌≤◌, ◌&&◌, ◌||◌, ℕ, zero, suc, Bool, true, false, cond, List, [], ◌∷◌, Option, Some, None, refl, ap, sym, ◌∙◌, arith, inl, inr}
use Rattle.std.specs.Set.{is_member}
use Rattle.std.proofs.lemmas.Bool.{cases_eq, false_from_ne_true, eq-eqb, ne_eqb}
use Rattle.mt_base.specs.Midi.{MidiEvent}
use Rattle.midi_model.specs.Sysex.{doing}
use Rattle.midi_model.specs.Channel.{Channel, State}
use Rattle.midi_model.specs.Music.{step}
use Rattle.retune_model.specs.Options.{Options}
use Rattle.retune_model.specs.Faults.{Targets}
use Rattle.retune_model.specs.Ports.{Numbered, PortEvents, Ascend, music_at, is_reset_at, resets}
use Rattle.retune_model.specs.Pairs.{Pair, is_same_pair}
use Rattle.retune_model.specs.Runs.{since}
use Rattle.channel_model.specs.Choice.{wanted, on_place, pair_on, last_or, last_on, left_state}
use Rattle.channel_model.specs.BendOutput.{PortRuns}
use Rattle.bend_laws.specs.Moments.{left_by, left_after, Both, begins_here, moment}
use Rattle.bend_laws.specs.Follows.{Has, AreUsed, Follows}
use Rattle.bend_laws.specs.Positions.{port_event, both_next, both_at}
use Rattle.bend_laws.proofs.Planning.{IsPlanned}
use Rattle.bend_laws.specs.Bent.{NoneHeld}
use Rattle.bend_laws.proofs.Given.{Laws}
use Rattle.bend_laws.proofs.Stepping.{Found, found, not_found, BeginsAt, beginning}
use Rattle.bend_laws.proofs.Simulates.{source_is, follows_at}
use Rattle.bend_laws.proofs.Outputs.{source_played}

-- ---- resets

abbrev pub resets_if : Option MidiEvent → Bool
resets_if (Some e) = resets (doing e.what)
resets_if None = false

none_resets : (k : ℕ) (ns : List Numbered) → Ascend k ns → (j : ℕ) → j ≤ k → is_reset_at ns j ≡ false
none_resets k [] r j l = refl
none_resets k (n ∷ ns) r j l =
    let later : k < n.position = r.0 in
    ap (λ b. (b && resets (doing n.event.what)) || is_reset_at ns j) (ne_eqb n.position j (λ e. omega (arith, e, later, l)))
    ∙ none_resets n.position ns r.1 j (omega (arith, later, l))

reset_is : (m : ℕ) (ns : List Numbered) → Ascend m ns → (k : ℕ) → is_reset_at ns k ≡ resets_if (port_event ns k)
reset_is m [] r k = refl
reset_is m (n ∷ ns) r k = elim (cases_eq n.position k) [
  | inl e ↦ ap (λ b. (b && resets (doing n.event.what)) || is_reset_at ns k) (eq-eqb n.position k e) ∙ ap (λ b. resets (doing n.event.what) || b)
      (none_resets n.position ns r.1 k (omega (arith, e)))
      ∙ or_none (resets (doing n.event.what)) ∙ sym (ap (λ b. resets_if (cond b (Some n.event) (port_event ns k))) (eq-eqb n.position k e))
  | inr e ↦ ap (λ b. (b && resets (doing n.event.what)) || is_reset_at ns k) (ne_eqb n.position k e) ∙ reset_is n.position ns r.1 k
      ∙ sym (ap (λ b. resets_if (cond b (Some n.event) (port_event ns k))) (ne_eqb n.position k e))
]
  where
    or_none : (b : Bool) → (b || false) ≡ b
    or_none true = refl
    or_none false = refl

-- ---- the last run on a place

last_is : (reset : ℕ → Bool) (at : ℕ → List Pair) (row : ℕ → ℕ) (i k : ℕ) (p : Pair) → at 0 ≡ [] → pair_on at row i k ≡ Some p →
    last_on reset at row i k ≡ Some (k, p)
last_is reset at row i zero p none h = absurd (let g : on_place (λ q. row (since is_same_pair at q 0)) i [] ≡ Some p =
    ap (on_place (λ q. row (since is_same_pair at q 0)) i) (sym none) ∙ h in cc)
last_is reset at row i (suc k) p none h = ap (λ x. last_or (suc k) x (reset (suc k)) (last_on reset at row i k)) h

-- a channel of the plan, and its place of the row
pub record IsLane (plan : PortRuns) (last : ℕ) (row : ℕ → ℕ) (i c : ℕ) : Type 0 where
  pub here : (k : ℕ) (p : Pair) → k ≤ last → Has (plan.pairs k) p → row (since is_same_pair plan.pairs p k) ≡ i → plan.channel k p ≡ c
  pub there : (k : ℕ) (p : Pair) → k ≤ last → Has (plan.pairs k) p → plan.channel k p ≡ c → row (since is_same_pair plan.pairs p k) ≡ i

-- a run that holds its channel at the event behind a position is the last on its place there
pub before_is : (Good : State → Type 0) (o : Options) (table : Targets) (used : ℕ → Bool) (plan : PortRuns) (ns : List Numbered) (last : ℕ) →
    IsPlanned Good o table used plan ns last → (reset : ℕ → Bool) (row : ℕ → ℕ) (i c : ℕ) → IsLane plan last row i c →
    (k : ℕ) → k < last → (p : Pair) → Found (plan.channel k) c (plan.held (suc k)) p → last_on reset plan.pairs row i k ≡ Some (k, p)
before_is Good o table used plan ns last given reset row i c lane k low p r =
    last_is reset plan.pairs row i k p given.start (one (given.was_there k p low r.there) (pair_on plan.pairs row i k) refl)
  where
    one : Has (plan.pairs k) p → (x : Option Pair) → pair_on plan.pairs row i k ≡ x → pair_on plan.pairs row i k ≡ Some p
    one was None h = absurd (not_found (λ q. row (since is_same_pair plan.pairs q k)) i (plan.pairs k) h p was
        (lane.there k p (omega (arith, low)) was r.on))
    one was (Some q) h =
        let g : Found (λ y. row (since is_same_pair plan.pairs y k)) i (plan.pairs k) q =
        found (λ y. row (since is_same_pair plan.pairs y k)) i (plan.pairs k) q h in
        h ∙ ap Some (given.apart k q p (omega (arith, low)) g.there was (lane.here k q (omega (arith, low)) g.there g.on ∙ sym r.on))

pub left_as : (Good : State → Type 0) → Laws Good → (o : Options) (table : Targets) (used : ℕ → Bool) → AreUsed o used → (plan : PortRuns)
    (port : PortEvents) (last : ℕ) → IsPlanned Good o table used plan port.events last → Ascend 0 port.events →
    (row : ℕ → ℕ) (i c : ℕ) → IsLane plan last row i c → (k : ℕ) → k ≤ last → NoneHeld plan k c →
    (both_at o table plan port.events k).left c ≡ (left_state o table port plan.held (last_on (is_reset_at port.events) plan.pairs row i k)).own
left_as Good laws o table used row_used plan port last given rising row i c lane zero low free = refl
left_as Good laws o table used row_used plan port last given rising row i c lane (suc k) low free =
    pick (pair_on at row i (suc k)) refl (λ f. left_as Good laws o table used row_used plan port last given rising row i c lane k (omega (
      arith,
      low,
    )) f)
  where
    ns : List Numbered
    ns = port.events

    at : ℕ → List Pair
    at = plan.pairs

    b : Both
    b = both_at o table plan port.events k

    before : Option (ℕ × Pair)
    before = last_on (is_reset_at port.events) plan.pairs row i k

    left_of : Option (ℕ × Pair) → Channel
    left_of x = (left_state o table port plan.held x).own

    follows : (j : ℕ) → j ≤ last → Follows Good plan.number o table used (plan.channel j) (plan.pairs j) (both_at o table plan port.events j)
    follows j l = follows_at Good laws o table used row_used plan port.events last given j l

    src : (j : ℕ) → (both_at o table plan port.events j).source ≡ music_at port.events j
    src j = source_is o table plan port.events j ∙ source_played port.events rising j

    -- a run is there
    taken : (p : Pair) → pair_on plan.pairs row i (suc k) ≡ Some p → (both_at o table plan port.events (suc k)).left c ≡ left_of (Some (suc k, p))
    taken p h =
        let r : Found (λ q. row (since is_same_pair plan.pairs q (suc k))) i (plan.pairs (suc k)) p =
        found (λ q. row (since is_same_pair plan.pairs q (suc k))) i (plan.pairs (suc k)) p h in
        let on : plan.channel (suc k) p ≡ c = lane.here (suc k) p low r.there r.on in
        let gone : is_member is_same_pair (plan.held (suc (suc k))) p ≡ false =
        false_from_ne_true (is_member is_same_pair (plan.held (suc (suc k))) p) (λ m. free p m on) in
        ap (both_at o table plan port.events (suc k)).left (sym on) ∙ (follows (suc k) low).at_wanted p r.there
        ∙ ap (λ m. (wanted o table m p).own) (src (suc k))
        ∙ sym (ap (λ x. (wanted o table (music_at port.events (cond x (suc (suc k)) (suc k))) p).own) gone)

    -- none is there, and one held its channel at the event
    held_one : (p : Pair) → Found (plan.channel k) c (plan.held (suc k)) p → left_of before ≡ (wanted o table (music_at port.events (suc k)) p).own
    held_one p r =
        ap left_of (before_is Good o table used plan port.events last given (is_reset_at port.events) row i c lane k low p r)
        ∙ ap (λ x. (wanted o table (music_at port.events (cond x (suc k) k)) p).own) r.there

    -- no run begins on it
    none_begins : pair_on plan.pairs row i (suc k) ≡ None → (x : Option Pair) → on_place (plan.channel (suc k)) c (begins_here (moment plan k))
        ≡ x → on_place (plan.channel (suc k)) c (begins_here (moment plan k)) ≡ None
    none_begins h None e = e
    none_begins h (Some p) e = absurd (
        let r : Found (plan.channel (suc k)) c (begins_here (moment plan k)) p = found (plan.channel (suc k)) c (begins_here (moment plan k)) p e in
        let w : BeginsAt (moment plan k) p = beginning (moment plan k) p r.there in
        not_found (λ q. row (since is_same_pair plan.pairs q (suc k))) i (plan.pairs (suc k)) h p w.is (lane.there (suc k) p low w.is r.on))

    -- at an event of the port that is no reset
    stepped : pair_on plan.pairs row i (suc k) ≡ None → (NoneHeld plan k c → b.left c ≡ left_of before) → (e : MidiEvent) →
        port_event port.events (suc k) ≡ Some e → (y : Option Pair) → on_place (plan.channel k) c (plan.held (suc k)) ≡ y →
        left_after o table (moment plan k) (step b.source e) false b.left c ≡ left_of before
    stepped h rest e is y g =
        ap (λ x. left_by o table (step b.source e) (b.left c) x (on_place (plan.channel k) c (plan.held (suc k))))
        (none_begins h (on_place (plan.channel (suc k)) c (begins_here (moment plan k))) refl)
        ∙ by_held y g
      where
        by_held : (y : Option Pair) → on_place (plan.channel k) c (plan.held (suc k)) ≡ y → left_by o table (step b.source e)
            (b.left c) None (on_place (plan.channel k) c (plan.held (suc k))) ≡ left_of before
        by_held None g = ap (left_by o table (step b.source e) (b.left c) None) g ∙ rest (not_found (plan.channel k) c (plan.held (suc k)) g)
        by_held (Some p) g =
            ap (left_by o table (step b.source e) (b.left c) None) g
            ∙ ap (λ m. (wanted o table m p).own) (sym (ap (λ x. (both_next plan.number o table (moment plan k) b x).source) is) ∙ src (suc k))
            ∙ sym (held_one p (found (plan.channel k) c (plan.held (suc k)) p g))

    -- at an event of another port
    waiting : (NoneHeld plan k c → b.left c ≡ left_of before) → port_event port.events (suc k) ≡ None → (y : Option Pair) →
        on_place (plan.channel k) c (plan.held (suc k)) ≡ y → b.left c ≡ left_of before
    waiting rest is None g = rest (not_found (plan.channel k) c (plan.held (suc k)) g)
    waiting rest is (Some p) g =
        let r : Found (plan.channel k) c (plan.held (suc k)) p = found (plan.channel k) c (plan.held (suc k)) p g in
        ap b.left (sym r.on) ∙ (follows k (omega (arith, low))).at_wanted p (given.was_there k p low r.there)
        ∙ ap (λ m. (wanted o table m p).own) (sym (ap (λ x. (both_next plan.number o table (moment plan k) b x).source) is) ∙ src (suc k))
        ∙ sym (held_one p r)

    untaken : pair_on plan.pairs row i (suc k) ≡ None → (NoneHeld plan k c → b.left c ≡ left_of before) → (x : Option MidiEvent) →
        port_event port.events (suc k) ≡ x → (r : Bool) → resets_if x ≡ r →
        (both_next plan.number o table (moment plan k) b x).left c ≡ left_of (last_or (suc k) None r before)
    untaken h rest None is true e = absurd (let g : false ≡ true = e in cc)
    untaken h rest None is false e = waiting rest is (on_place (plan.channel k) c (plan.held (suc k))) refl
    untaken h rest (Some e) is true r = ap (λ x. left_after o table (moment plan k) (step b.source e) x b.left c) r
    untaken h rest (Some e) is false r = ap (λ x. left_after o table (moment plan k) (step b.source e) x b.left c) r
        ∙ stepped h rest e is (on_place (plan.channel k) c (plan.held (suc k))) refl

    pick : (x : Option Pair) → pair_on plan.pairs row i (suc k) ≡ x → (NoneHeld plan k c → b.left c ≡ left_of before) →
        (both_at o table plan port.events (suc k)).left c ≡ left_of (last_or (suc k) (pair_on plan.pairs row i (suc k))
        (is_reset_at port.events (suc k)) before)
    pick (Some p) h rest = taken p h ∙ sym (ap (λ x. left_of (last_or (suc k) x (is_reset_at port.events (suc k)) before)) h)
    pick None h rest =
        untaken h rest (port_event port.events (suc k)) refl (is_reset_at port.events (suc k)) (sym (reset_is 0 port.events rising (suc k)))
        ∙ sym (ap (λ x. left_of (last_or (suc k) x (is_reset_at port.events (suc k)) before)) h)
