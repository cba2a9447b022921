-- What was counted is what a port needs, and the zones of a port fit where none is refused.
use Rattle.std.proofs.Common.{◌≡◌, ◌≤◌, ◌<◌, ℕ, Bool, true, false, cond, nat_lt, List, [], ◌∷◌, length, take, map, min, ap, sym, subst, ◌∙◌, arith, inl, inr}
use Rattle.std.specs.List.{AllByRecursion}
use Rattle.mt_base.specs.Midi.{MidiEvent}
use Rattle.retune_model.specs.Options.{Options, keeps_drums}
use Rattle.retune_model.specs.Faults.{Targets}
use Rattle.retune_model.specs.Ports.{tick_to, events_on}
use Rattle.retune_model.specs.Dump.{parts_with_notes}
use Rattle.retune_model.specs.PortNeed.{pairs_on, need_of}
use Rattle.retune_model.specs.RunLaws.{NeedIsDetermined}
use Rattle.retune_model.specs.NeedLaws.{CountingFindsNeed}
use Rattle.channel_model.specs.MpeOutput.{Zone as ZoneOf, zone_with, zones_for, lower_allowed, upper_allowed}
use Rattle.channel_model.specs.Refusals.{TooMany, NeedsAtMost, NeedsMore, ZoneFits, FirstNeedsMore, with_allowed, zones_allowed}
use Rattle.channel_model.specs.Rows.{only, needs_of, zones_on}
use Rattle.lifetimes.specs.Views.{pair_of}
use Rattle.channel_plan.specs.declared.fault.Instant.{Instant}
use Rattle.channel_plan.specs.declared.counter.Counter.{Counter}
use Rattle.channel_plan.specs.declared.plan.Zone.{Zone}
use Rattle.channel_plan.specs.declared.plan.ZonePlan.{ZonePlan}
use Rattle.channel_plan.specs.Planned.{instant_of, zone_told, zone_pairs_told}
use Rattle.channel_plan.specs.Counts.{CountsOf}
use Rattle.channel_plan.specs.Finding.{Finds, IsZoneTold, AreZones}

instant_is : (i : Instant) (es : List MidiEvent) (k : ℕ) → i.position ≡ k → i.tick ≡ tick_to es i.position → i ≡ instant_of es k
instant_is i es k position tick = ap (λ t. record { position = i.position; tick = t }) tick ∙ ap (instant_of es) position

pub finds : NeedIsDetermined → CountingFindsNeed → (o : Options) (part : ℕ → Bool) (table : Targets) (es : List MidiEvent) (z : ℕ) (c : Counter)
    → CountsOf o part table es z c → Finds o part table es z c.need c.instant c.witness.items
finds determined counted o part table es z c is =
    let need = need_of o part table es z in
    let same = determined (pairs_on o part table es z) (length es) c.need need.0 c.instant.position need.1 is.counts.most.need (counted o part table es z) in
    record {
      number = same.0;
      first = instant_is c.instant es need.1 same.1 is.tick;
      most = is.counts.most.witness ∙ ap (pairs_on o part table es z) same.1;
    }

-- the first channels of a row, where there are as many
pub first_of : (used slice row all : List ℕ) (n need : ℕ) → used ≡ take (min n 16) slice → slice ≡ row → row ≡ all → n ≡ need → n ≤ 16 → used ≡ take need all
first_of used slice row all n need is same_slice same_row same few =
    let whole : min n 16 ≡ n = omega (arith, few) in
    is ∙ ap (take (min n 16)) (same_slice ∙ same_row) ∙ ap (λ m. take m all) (whole ∙ same)

pub needs_more : (o : Options) (part : ℕ → Bool) (table : Targets) (es : List MidiEvent) (z m n : ℕ) (t : TooMany) → m ≡ n → NeedsMore o part table es z m t → NeedsMore o part table es z n t
needs_more o part table es z m n t same h = subst (λ k. NeedsMore o part table es z k t) same h

-- ---- zones

pub zone_is : (z part need : ℕ) (upper : Bool) (i j : Instant) → i ≡ j
    → ◌≡◌ {A = Zone} (record { port = z; part = part; upper = upper; need = need; instant = i }) (record { port = z; part = part; upper = upper; need = need; instant = j })
zone_is z part need upper i j same = ap (λ x. record { port = z; part = part; upper = upper; need = need; instant = x }) same

-- what holds of these zones, each with the number of members that it may have
moved : (o : Options) (table : Targets) (es : List MidiEvent) (z : ℕ) (P : List (ZoneOf × ℕ) → Type 0) (drums : Bool) (zones : List ZoneOf)
    → drums ≡ keeps_drums o (events_on z es) → zones_on o table es z ≡ zones → P (with_allowed drums zones) → P (zones_allowed o table es z)
moved o table es z P drums zones same_drums same h =
    subst P (ap (λ b. with_allowed b zones) same_drums ∙ ap (with_allowed (keeps_drums o (events_on z es))) (sym same)) h

pub one_fits : (o : Options) (table : Targets) (es : List MidiEvent) (z : ℕ) (drums : Bool) (zone : ZoneOf) (p : ZonePlan) (plans : List ZonePlan) (room : ℕ)
    → drums ≡ keeps_drums o (events_on z es) → zones_on o table es z ≡ zone ∷ [] → plans ≡ p ∷ [] → IsZoneTold o table es z zone p
    → room ≡ lower_allowed drums (zone ∷ []) → NeedsAtMost o (only zone.part) table es z room → AreZones o table es z plans
one_fits o table es z drums zone p plans room same_drums same are told allowed fits = record {
  zones = ap (map (λ q. q.zone)) are ∙ ap (λ x. x ∷ []) told.told ∙ sym (ap (map (zone_told o table es z)) same);
  pairs = ap (map (λ q. map pair_of q.pairs.items)) are ∙ ap (λ x. x ∷ []) told.pairs ∙ sym (ap (map (zone_pairs_told o table es z)) same);
  fit = moved o table es z (AllByRecursion (ZoneFits o table es z)) drums (zone ∷ []) same_drums same
      (subst (λ n. NeedsAtMost o (only zone.part) table es z n) allowed fits, tt);
}

pub one_refused : (o : Options) (table : Targets) (es : List MidiEvent) (z : ℕ) (drums : Bool) (zone : ZoneOf) (room : ℕ) (t : TooMany)
    → drums ≡ keeps_drums o (events_on z es) → zones_on o table es z ≡ zone ∷ []
    → room ≡ lower_allowed drums (zone ∷ []) → NeedsMore o (only zone.part) table es z room t → FirstNeedsMore o table es z (zones_allowed o table es z) t
one_refused o table es z drums zone room t same_drums same allowed more =
    moved o table es z (λ xs. FirstNeedsMore o table es z xs t) drums (zone ∷ []) same_drums same
    (inl (needs_more o (only zone.part) table es z room (lower_allowed drums (zone ∷ [])) t allowed more))

pub two_fit : (o : Options) (table : Targets) (es : List MidiEvent) (z : ℕ) (drums : Bool) (l u : ZoneOf) (p q : ZonePlan) (plans : List ZonePlan) (low high : ℕ)
    → drums ≡ keeps_drums o (events_on z es) → zones_on o table es z ≡ l ∷ u ∷ [] → plans ≡ p ∷ q ∷ [] → IsZoneTold o table es z l p → IsZoneTold o table es z u q
    → low ≡ lower_allowed drums (l ∷ u ∷ []) → high ≡ upper_allowed drums
    → NeedsAtMost o (only l.part) table es z low → NeedsAtMost o (only u.part) table es z high → AreZones o table es z plans
two_fit o table es z drums l u p q plans low high same_drums same are told_l told_u allowed_l allowed_u fits_l fits_u = record {
  zones = ap (map (λ x. x.zone)) are ∙ ap (λ x. x ∷ q.zone ∷ []) told_l.told ∙ ap (λ x. zone_told o table es z l ∷ x ∷ []) told_u.told
      ∙ sym (ap (map (zone_told o table es z)) same);
  pairs = ap (map (λ x. map pair_of x.pairs.items)) are ∙ ap (λ x. x ∷ map pair_of q.pairs.items ∷ []) told_l.pairs
      ∙ ap (λ x. zone_pairs_told o table es z l ∷ x ∷ []) told_u.pairs ∙ sym (ap (map (zone_pairs_told o table es z)) same);
  fit = moved o table es z (AllByRecursion (ZoneFits o table es z)) drums (l ∷ u ∷ []) same_drums same (
    subst (λ n. NeedsAtMost o (only l.part) table es z n) allowed_l fits_l,
    (subst (λ n. NeedsAtMost o (only u.part) table es z n) allowed_u fits_u, tt),
  );
}

pub lower_refused : (o : Options) (table : Targets) (es : List MidiEvent) (z : ℕ) (drums : Bool) (l u : ZoneOf) (room : ℕ) (t : TooMany)
    → drums ≡ keeps_drums o (events_on z es) → zones_on o table es z ≡ l ∷ u ∷ []
    → room ≡ lower_allowed drums (l ∷ u ∷ []) → NeedsMore o (only l.part) table es z room t → FirstNeedsMore o table es z (zones_allowed o table es z) t
lower_refused o table es z drums l u room t same_drums same allowed more =
    moved o table es z (λ xs. FirstNeedsMore o table es z xs t) drums (l ∷ u ∷ []) same_drums same
    (inl (needs_more o (only l.part) table es z room (lower_allowed drums (l ∷ u ∷ [])) t allowed more))

pub upper_refused : (o : Options) (table : Targets) (es : List MidiEvent) (z : ℕ) (drums : Bool) (l u : ZoneOf) (low high : ℕ) (t : TooMany)
    → drums ≡ keeps_drums o (events_on z es) → zones_on o table es z ≡ l ∷ u ∷ []
    → low ≡ lower_allowed drums (l ∷ u ∷ []) → high ≡ upper_allowed drums
    → NeedsAtMost o (only l.part) table es z low → NeedsMore o (only u.part) table es z high t → FirstNeedsMore o table es z (zones_allowed o table es z) t
upper_refused o table es z drums l u low high t same_drums same allowed_l allowed_u fits more =
    moved o table es z (λ xs. FirstNeedsMore o table es z xs t) drums (l ∷ u ∷ []) same_drums same
    (inr (
      subst (λ n. NeedsAtMost o (only l.part) table es z n) allowed_l fits,
      inl (needs_more o (only u.part) table es z high (upper_allowed drums) t allowed_u more),
    ))

-- ---- which zones there are

pub zone_on_part : (o : Options) (table : Targets) (es : List MidiEvent) (z a n : ℕ) → parts_with_notes o (events_on z es) ≡ a ∷ []
    → n ≡ (need_of o (only a) table es z).0 → zones_on o table es z ≡ zone_with false (a, n) ∷ []
zone_on_part o table es z a n parts need =
    ap (λ ps. zones_for (needs_of (λ c. (need_of o (only c) table es z).0) ps)) parts ∙ ap (λ m. zone_with false (a, m) ∷ []) (sym need)

-- by the needs of two parts
abbrev zones_by : ℕ → ℕ → ℕ → ℕ → List ZoneOf
zones_by a b m n = cond (nat_lt m n) (zone_with false (b, n) ∷ zone_with true (a, m) ∷ []) (zone_with false (a, m) ∷ zone_with true (b, n) ∷ [])

zones_on_parts : (o : Options) (table : Targets) (es : List MidiEvent) (z a b m n : ℕ) → parts_with_notes o (events_on z es) ≡ a ∷ b ∷ []
    → m ≡ (need_of o (only a) table es z).0 → n ≡ (need_of o (only b) table es z).0 → zones_on o table es z ≡ zones_by a b m n
zones_on_parts o table es z a b m n parts of_a of_b =
    ap (λ ps. zones_for (needs_of (λ c. (need_of o (only c) table es z).0) ps)) parts
    ∙ ap (λ x. zones_by a b x (need_of o (only b) table es z).0) (sym of_a) ∙ ap (zones_by a b m) (sym of_b)

pub second_is_lower : (o : Options) (table : Targets) (es : List MidiEvent) (z a b m n : ℕ) → parts_with_notes o (events_on z es) ≡ a ∷ b ∷ []
    → m ≡ (need_of o (only a) table es z).0 → n ≡ (need_of o (only b) table es z).0 → m < n
    → zones_on o table es z ≡ zone_with false (b, n) ∷ zone_with true (a, m) ∷ []
second_is_lower o table es z a b m n parts of_a of_b less =
    let test : nat_lt m n ≡ true = grind (arith, less) in
    zones_on_parts o table es z a b m n parts of_a of_b
    ∙ ap (λ t. cond t (zone_with false (b, n) ∷ zone_with true (a, m) ∷ []) (zone_with false (a, m) ∷ zone_with true (b, n) ∷ [])) test

pub first_is_lower : (o : Options) (table : Targets) (es : List MidiEvent) (z a b m n : ℕ) → parts_with_notes o (events_on z es) ≡ a ∷ b ∷ []
    → m ≡ (need_of o (only a) table es z).0 → n ≡ (need_of o (only b) table es z).0 → n ≤ m
    → zones_on o table es z ≡ zone_with false (a, m) ∷ zone_with true (b, n) ∷ []
first_is_lower o table es z a b m n parts of_a of_b most =
    let test : nat_lt m n ≡ false = grind (arith, most) in
    zones_on_parts o table es z a b m n parts of_a of_b
    ∙ ap (λ t. cond t (zone_with false (b, n) ∷ zone_with true (a, m) ∷ []) (zone_with false (a, m) ∷ zone_with true (b, n) ∷ [])) test
