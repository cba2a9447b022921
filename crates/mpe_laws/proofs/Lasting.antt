-- At every position each member has the bend of the pair that was there last.
use Rattle.std.proofs.Common.{◌≡◌, ◌≢◌, ◌<◌, ◌≤◌, ◌&&◌, ◌||◌, arith, ℕ, zero, suc, pos, ◌+ℤ◌, Bool, true, false, cond, nat_eq, List, [], ◌∷◌, Option, Some, None, refl, ap, sym, ◌∙◌, subst, filter, length, inl, inr}
use Rattle.std.specs.Set.{is_member}
use Rattle.std.proofs.lemmas.Bool.{cases_Bool, cases_eq, both_ways, or_cases, or_left, or_right, eqb-true, eq-eqb, ne_eqb}
use Rattle.mt_base.specs.Midi.{MidiEvent}
use Rattle.midi_model.specs.Sysex.{doing}
use Rattle.midi_model.specs.Zones.{master}
use Rattle.midi_model.specs.Music.{quiet, channel_at}
use Rattle.midi_model.specs.MusicLaws.{IsSettled}
use Rattle.retune_model.specs.Options.{Options, keeps_drums}
use Rattle.retune_model.specs.Faults.{Targets, is_part}
use Rattle.retune_model.specs.Pairs.{Pair, is_same_pair}
use Rattle.retune_model.specs.Ports.{Numbered, of_port, port_at, events_on, Ascend, is_reset_at, resets}
use Rattle.retune_model.specs.PortNeed.{pairs_on}
use Rattle.retune_model.specs.Runs.{since}
use Rattle.channel_model.specs.Choice.{bend_value, on_place, pair_on, last_or, last_on, member_bend}
use Rattle.channel_model.specs.BendOutput.{PortRuns, runs_on}
use Rattle.channel_model.specs.MpeOutput.{Zone, Zoned, master_of, member_at, zone_of}
use Rattle.channel_model.specs.Rows.{only}
use Rattle.bend_laws.specs.Moments.{moment}
use Rattle.bend_laws.specs.Follows.{Has}
use Rattle.bend_laws.specs.Positions.{port_event}
use Rattle.bend_laws.proofs.Equal.{same_pair, pair_itself}
use Rattle.bend_laws.proofs.Altered.{all_default}
use Rattle.bend_laws.proofs.Playing.{settled_play}
use Rattle.mpe_laws.specs.Zoned.{planned, IsMember}
use Rattle.mpe_laws.specs.Follows.{IsGiven}
use Rattle.mpe_laws.specs.Positions.{zoned_next, zoned_at, FollowsAt}
use Rattle.mpe_laws.specs.Sources.{HasZonePlan, IsMpe}
use Rattle.mpe_laws.proofs.Standing.{Laws}
use Rattle.mpe_laws.proofs.Planning.{IsPlanned}
use Rattle.mpe_laws.proofs.Allowed.{AreMembers, Asked, its_part, allowed_parts}
use Rattle.mpe_laws.proofs.Everywhere.{quiet_settled, given_at, follows_at, source_is}
use Rattle.mpe_laws.proofs.Opened.{zoned_if, zoned_to, played_to, Opened, opens, known_at}
use Rattle.mpe_laws.proofs.Ported.{PortFacts, InZone, in_zone}
use Rattle.mpe_laws.proofs.Left.{block_bends}
use Rattle.bend_laws.proofs.Leaving.{resets_if}

-- ---- what is on a place

-- the pair that is on a place is there, and its place is that one
pub on_found : (f : Pair → ℕ) (i : ℕ) (ps : List Pair) (p : Pair) → on_place f i ps ≡ Some p → Has ps p × (f p ≡ i)
on_found f i [] p h = absurd cc
on_found f i (q ∷ qs) p h = pick (nat_eq (f q) i) refl h (on_found f i qs p)
  where
    pick : (b : Bool) → nat_eq (f q) i ≡ b → cond b (Some q) (on_place f i qs) ≡ Some p → (on_place f i qs ≡ Some p → Has qs p × (f p ≡ i)) →
        Has (q ∷ qs) p × (f p ≡ i)
    pick true e g later =
        let same : q ≡ p = cc in (
          or_left (is_same_pair p q) (is_member is_same_pair qs p) (ap (is_same_pair p) same ∙ pair_itself p),
          ap f (sym same) ∙ eqb-true (f q) i e,
        )
    pick false e g later = let r = later g in (or_right (is_same_pair p q) (is_member is_same_pair qs p) r.0, r.1)

none_found : (f : Pair → ℕ) (i : ℕ) (ps : List Pair) (p : Pair) → on_place f i ps ≡ None → Has ps p → f p ≢ i
none_found f i [] p h m = absurd (both_ways false refl m)
none_found f i (q ∷ qs) p h m = pick (nat_eq (f q) i) refl h (λ g k. none_found f i qs p g k)
  where
    pick : (b : Bool) → nat_eq (f q) i ≡ b → cond b (Some q) (on_place f i qs) ≡ None → (on_place f i qs ≡ None → Has qs p → f p ≢ i) → f p ≢ i
    pick true e g later = absurd cc
    pick false e g later = elim (or_cases (is_same_pair p q) (is_member is_same_pair qs p) m) [
      | inl same ↦ λ is. both_ways (nat_eq (f q) i) e (eq-eqb (f q) i (ap f (sym (same_pair p q same)) ∙ is))
      | inr k ↦ later g k
    ]

-- a pair that passes a test is among all, and the test holds
pub from_filter : (f : Pair → Bool) (ps : List Pair) (p : Pair) → Has (filter f ps) p → Has ps p × (f p ≡ true)
from_filter f [] p h = absurd (both_ways false refl h)
from_filter f (q ∷ qs) p h = pick (f q) refl h (from_filter f qs p)
  where
    pick : (b : Bool) → f q ≡ b → Has (cond b (q ∷ filter f qs) (filter f qs)) p → (Has (filter f qs) p → Has qs p × (f p ≡ true)) →
        Has (q ∷ qs) p × (f p ≡ true)
    pick true e g later = elim (or_cases (is_same_pair p q) (is_member is_same_pair (filter f qs) p) g) [
      | inl same ↦ (or_left (is_same_pair p q) (is_member is_same_pair qs p) same, ap f (same_pair p q same) ∙ e)
      | inr k ↦ (let r = later k in (or_right (is_same_pair p q) (is_member is_same_pair qs p) r.0, r.1))
    ]
    pick false e g later = let r = later g in (or_right (is_same_pair p q) (is_member is_same_pair qs p) r.0, r.1)

-- ---- resets at positions

none_reset : (m : ℕ) (ns : List Numbered) → Ascend m ns → (k : ℕ) → k ≤ m → is_reset_at ns k ≡ false
none_reset m [] r k l = refl
none_reset m (n ∷ ns) r k l =
    let later : m < n.position = r.0 in
    ap (λ b. (b && resets (doing n.event.what)) || is_reset_at ns k) (ne_eqb n.position k (λ e. omega (arith, e, later, l)))
    ∙ none_reset n.position ns r.1 k (omega (arith, later, l))

reset_is : (m : ℕ) (ns : List Numbered) → Ascend m ns → (k : ℕ) → is_reset_at ns k ≡ resets_if (port_event ns k)
reset_is m [] r k = refl
reset_is m (n ∷ ns) r k = elim (cases_eq n.position k) [
  | inl e ↦ ap (λ b. (b && resets (doing n.event.what)) || is_reset_at ns k) (eq-eqb n.position k e)
      ∙ ap (λ b. resets (doing n.event.what) || b) (none_reset n.position ns r.1 k (omega (arith, e))) ∙ or_none (resets (doing n.event.what))
      ∙ sym (ap (λ b. resets_if (cond b (Some n.event) (port_event ns k))) (eq-eqb n.position k e))
  | inr e ↦ ap (λ b. (b && resets (doing n.event.what)) || is_reset_at ns k) (ne_eqb n.position k e) ∙ reset_is n.position ns r.1 k
      ∙ sym (ap (λ b. resets_if (cond b (Some n.event) (port_event ns k))) (ne_eqb n.position k e))
]
  where
    or_none : (b : Bool) → (b || false) ≡ b
    or_none true = refl
    or_none false = refl

-- ---- the member at a place of a zone

-- what is known of a zone of a port; `options` are those of the port
pub record Lane (o options : Options) (table : Targets) (es : List MidiEvent) (zones : ℕ → List Zone) (channel : ℕ → ℕ → Pair → ℕ) (z c : ℕ)
    (w : Zone) (i : ℕ) : Type 0 where
  pub facts : PortFacts
  pub source : IsMpe o table es zones channel
  pub asked : Asked options (zones z)
  pub planned : IsPlanned options table (zones z) (runs_on o table es channel z) (of_port z es) (length es)
  pub of : zone_of c (zones z) ≡ Some w
  pub plan : HasZonePlan o table es z w (channel z)
  pub within : i < w.members

-- a pair of the zone's part at a position, on its member
lane_of : (o options : Options) (table : Targets) (es : List MidiEvent) (zones : ℕ → List Zone) (channel : ℕ → ℕ → Pair → ℕ) (z c : ℕ) (w : Zone)
    (i : ℕ) (l : Lane o options table es zones channel z c w i) (k : ℕ) (p : Pair) → k ≤ length es → Has (pairs_on o (only w.part) table es z k) p →
    Has (pairs_on o (is_part o) table es z k) p × InZone o table es z (zones z) (channel z) w l.plan k p
lane_of o options table es zones channel z c w i l k p low h =
    let part : is_part o w.part ≡ true = allowed_parts o (keeps_drums o (events_on z es)) (zones z) (l.source.ports z).allowed c w l.of in
    let found = from_filter (λ q. only w.part q.part.channel) (pairs_on o (is_part o) table es z k) p
    (subst (λ ps. Has ps p) (sym (l.facts.parts o (is_part o) (only w.part) table (port_at es z) (l.facts.timed z es l.source.sound.in_order)
    (λ d e. ap (is_part o) (eqb-true d w.part e) ∙ part) k)) h) in
    let same : p.part.channel ≡ c = eqb-true p.part.channel w.part found.1 ∙ its_part c (zones z) w l.of in (
      found.0,
      in_zone l.facts o table es zones channel l.source z options l.asked w l.plan k p (ap (λ d. zone_of d (zones z)) same ∙ l.of) low found.0,
    )

same_some : (f : ℕ → Option ℕ) (x y a b : ℕ) → f x ≡ Some a → f y ≡ Some b → x ≡ y → a ≡ b
same_some f x y a b h g e = cc

-- where no pair of the zone's part is on the place, no run at all is on the member
bare_at : (o options : Options) (table : Targets) (es : List MidiEvent) (zones : ℕ → List Zone) (channel : ℕ → ℕ → Pair → ℕ) (z c : ℕ) (w : Zone)
    (i : ℕ) (l : Lane o options table es zones channel z c w i) (k : ℕ) → k ≤ length es →
    pair_on (pairs_on o (only w.part) table es z) l.plan.row i k ≡ None → (p : Pair) → Has (pairs_on o (is_part o) table es z k) p →
    channel z k p ≢ member_at w i
bare_at o options table es zones channel z c w i l k low none p h on =
    let m : IsMember (zones z) p (channel z k p) = l.planned.member k p low h in
    let its : AreMembers (zones z) w = l.asked.members c w l.of in
    let masters : master_of m.zone ≡ master_of w =
    same_some (master (planned (zones z))) (channel z k p) (member_at w i) (master_of m.zone) (master_of w) m.is (its.is i l.within) on in
    let part : p.part.channel ≡ c = l.asked.row.own p.part.channel c m.zone w m.of l.of masters in
    let of : zone_of p.part.channel (zones z) ≡ Some w = ap (λ d. zone_of d (zones z)) part ∙ l.of in
    let x : InZone o table es z (zones z) (channel z) w l.plan k p =
    in_zone l.facts o table es zones channel l.source z options l.asked w l.plan k p of low h in
    let at : ℕ → List Pair = pairs_on o (only w.part) table es z in
    let place : l.plan.row (since is_same_pair at p k) ≡ i =
    its.apart (l.plan.row (since is_same_pair at p k)) i (x.places.below p x.there) l.within (sym x.lane ∙ on) in
    none_found (λ q. l.plan.row (since is_same_pair at q k)) i (at k) p none x.there place

-- ---- from position to position

abbrev LeftAs : (o options : Options) (table : Targets) (es : List MidiEvent) (zones : List Zone) (channel : ℕ → ℕ → Pair → ℕ) (z : ℕ) (w : Zone)
    (row : ℕ → ℕ) (i k : ℕ) → Type 0
LeftAs o options table es zones channel z w row i k =
    (channel_at (zoned_at options table zones (runs_on o table es channel z) (of_port z es) k).out (member_at w i)).bend
    ≡ member_bend (last_on (is_reset_at (of_port z es)) (pairs_on o (only w.part) table es z) row i k)

out_settled : Laws → (o : Options) (table : Targets) (zones : List Zone) (runs : PortRuns) (ns : List Numbered) → Ascend 0 ns → (k : ℕ) →
    IsSettled (zoned_at o table zones runs ns k).out
out_settled laws o table zones runs ns r k = subst IsSettled (sym (played_to o table zones runs ns r k))
    (settled_play laws.settle quiet (zoned_to o table zones runs ns k) quiet_settled)

-- a pair is on the place: its member has its bend
taken_left : Laws → (o options : Options) (table : Targets) (es : List MidiEvent) (zones : ℕ → List Zone) (channel : ℕ → ℕ → Pair → ℕ) (z c : ℕ)
    (w : Zone) (i : ℕ) (l : Lane o options table es zones channel z c w i) (k : ℕ) → suc k ≤ length es → (p : Pair) →
    pair_on (pairs_on o (only w.part) table es z) l.plan.row i (suc k) ≡ Some p →
    LeftAs o options table es (zones z) channel z w l.plan.row i (suc k)
taken_left laws o options table es zones channel z c w i l k low p is =
    let at : ℕ → List Pair = pairs_on o (only w.part) table es z in
    let runs : PortRuns = runs_on o table es channel z in
    let ns : List Numbered = of_port z es in
    let reset : ℕ → Bool = is_reset_at ns in
    let s : Zoned = zoned_at options table (zones z) runs ns (suc k) in
    let found = on_found (λ q. l.plan.row (since is_same_pair at q (suc k))) i (at (suc k)) p is in
    let x = lane_of o options table es zones channel z c w i l (suc k) p low found.0 in
    let now : FollowsAt options table (zones z) runs (suc k) s =
    follows_at laws options table (zones z) l.asked.row l.asked.sets runs ns (length es) l.planned (suc k) low in
    let lane : channel z (suc k) p ≡ member_at w i = x.1.lane ∙ ap (member_at w) found.1 in
    let bent : (channel_at s.out (channel z (suc k) p)).bend ≡ bend_value (pos 8192 +ℤ p.steps) = elim (cases_Bool s.begun) [
      | inl begun ↦ (now.after begun).bent p x.0
      | inr not_yet ↦ absurd ((now.before not_yet).1.1 p x.0)
    ] in
    ap (λ d. (channel_at s.out d).bend) (sym lane) ∙ bent
    ∙ sym (ap (λ y. member_bend (last_or (suc k) y (reset (suc k)) (last_on reset at l.plan.row i k))) is)

pub member_last : (k : ℕ) (b : Bool) (before : Option (ℕ × Pair)) → member_bend (last_or k None b before) ≡ cond b 8192 (member_bend before)
member_last k true before = refl
member_last k false before = refl

-- none is: the member is as it was, or a reset took its bend
free_left : Laws → (o options : Options) (table : Targets) (es : List MidiEvent) (zones : ℕ → List Zone) (channel : ℕ → ℕ → Pair → ℕ) (z c : ℕ)
    (w : Zone) (i : ℕ) (l : Lane o options table es zones channel z c w i) → options.range ≤ 127 → (k : ℕ) → k < length es →
    pair_on (pairs_on o (only w.part) table es z) l.plan.row i (suc k) ≡ None → LeftAs o options table es (zones z) channel z w l.plan.row i k →
    LeftAs o options table es (zones z) channel z w l.plan.row i (suc k)
free_left laws o options table es zones channel z c w i l range k low none before =
    let rising : Ascend 0 (of_port z es) = (l.facts.timed z es l.source.sound.in_order).ascend in
    let at : ℕ → List Pair = pairs_on o (only w.part) table es z in
    let reset : ℕ → Bool = is_reset_at (of_port z es) in
    let prior : Option (ℕ × Pair) = last_on reset at l.plan.row i k in
    let last : member_bend (last_on reset at l.plan.row i (suc k)) ≡ cond (resets_if (port_event (of_port z es) (suc k))) 8192 (member_bend prior) =
    ap (λ y. member_bend (last_or (suc k) y (reset (suc k)) prior)) none ∙ member_last (suc k) (reset (suc k)) prior
    ∙ ap (λ b. cond b 8192 (member_bend prior)) (reset_is 0 (of_port z es) rising (suc k)) in
    go rising (port_event (of_port z es) (suc k)) refl
    ∙ ap (cond (resets_if (port_event (of_port z es) (suc k))) 8192) before ∙ sym last
  where
    go : Ascend 0 (of_port z es) → (x : Option MidiEvent) → port_event (of_port z es) (suc k) ≡ x →
        (let s : Zoned = zoned_at options table (zones z) (runs_on o table es channel z) (of_port z es) k in
        (channel_at (zoned_next options table (zones z) (runs_on o table es channel z) k s (port_event (of_port z es) (suc k))).out
        (member_at w i)).bend
        ≡ cond (resets_if (port_event (of_port z es) (suc k))) 8192 (channel_at s.out (member_at w i)).bend)
    go rising None is =
        let s : Zoned = zoned_at options table (zones z) (runs_on o table es channel z) (of_port z es) k in
        subst (λ x. (channel_at (zoned_next options table (zones z) (runs_on o table es channel z) k s x).out (member_at w i)).bend
        ≡ cond (resets_if x) 8192 (channel_at s.out (member_at w i)).bend) (sym is) refl
    go rising (Some e) is =
        let runs : PortRuns = runs_on o table es channel z in
        let ns : List Numbered = of_port z es in
        let s : Zoned = zoned_at options table (zones z) runs ns k in
        let block : List MidiEvent = zoned_if options table (zones z) runs k s (Some e) in
        let its : AreMembers (zones z) w = l.asked.members c w l.of in
        let given : IsGiven runs.number options table (zones z) (moment runs k) s.source e =
        given_at options table (zones z) runs ns (length es) l.planned k low s.source (source_is options table (zones z) runs ns k) e is in
        let opened : Opened runs.number options table (zones z) (moment runs k) s.source s.out e block =
        opens laws runs.number options table (zones z) l.asked.sets (moment runs k) s.begun s.source s.out e.tick e.track e.what
        (known_at options table (zones z) runs k s
        (follows_at laws options table (zones z) l.asked.row l.asked.sets runs ns (length es) l.planned k (omega (arith, low)))) in
        subst (λ x. (channel_at (zoned_next options table (zones z) runs k s x).out (member_at w i)).bend
        ≡ cond (resets_if x) 8192 (channel_at s.out (member_at w i)).bend) (sym is)
        (block_bends laws runs.number options table (zones z) l.asked range (moment runs k) s.source s.out e.tick e.track (member_at w i)
        (master_of w) (its.is i l.within) (its.low i l.within) (bare_at o options table es zones channel z c w i l (suc k) (omega (arith, low)) none)
        e.what block (out_settled laws options table (zones z) runs ns rising k) given opened)

pub left_at : Laws → (o options : Options) (table : Targets) (es : List MidiEvent) (zones : ℕ → List Zone) (channel : ℕ → ℕ → Pair → ℕ) (z c : ℕ)
    (w : Zone) (i : ℕ) (l : Lane o options table es zones channel z c w i) → options.range ≤ 127 → (k : ℕ) → k ≤ length es →
    LeftAs o options table es (zones z) channel z w l.plan.row i k
left_at laws o options table es zones channel z c w i l range zero low = ap (λ s. s.bend) (all_default 16 (member_at w i))
left_at laws o options table es zones channel z c w i l range (suc k) low =
    go (left_at laws o options table es zones channel z c w i l range k (omega (arith, low)))
    (pair_on (pairs_on o (only w.part) table es z) l.plan.row i (suc k)) refl
  where
    go : LeftAs o options table es (zones z) channel z w l.plan.row i k → (x : Option Pair) →
        pair_on (pairs_on o (only w.part) table es z) l.plan.row i (suc k) ≡ x → LeftAs o options table es (zones z) channel z w l.plan.row i (suc k)
    go before None is = free_left laws o options table es zones channel z c w i l range k (omega (arith, low)) is before
    go before (Some p) is = taken_left laws o options table es zones channel z c w i l k low p is
