-- What is asked of the runs of a port holds of a source without a fault, with zones and plans of its ports.
use Rattle.std.proofs.Common.{◌≡◌, ◌≤◌, ◌+◌, arith, ℕ, suc, Bool, true, false, cond, List, [], ◌∷◌, Option, Some, None, ap, sym, ◌∙◌, subst, filter, length, get_or, inl, inr}
use Rattle.std.specs.Set.{is_member}
use Rattle.std.proofs.lemmas.Bool.{cases_Bool, both_ways, or_cases, or_left, or_right, eq-eqb, eqb-true}
use Rattle.mt_base.specs.Midi.{MidiEvent}
use Rattle.midi_model.specs.Music.{Music}
use Rattle.retune_model.specs.Options.{Options, keeps_drums}
use Rattle.retune_model.specs.Ports.{Numbered, PortEvents, of_port, port_at, events_on, music_at, event_at, resets}
use Rattle.retune_model.specs.Faults.{Targets, is_part}
use Rattle.retune_model.specs.SourceFaults.{kind_in, kind_behind}
use Rattle.retune_model.specs.Pairs.{Pair, is_same_pair}
use Rattle.retune_model.specs.Rests.{begun_pairs, IsAimedPort}
use Rattle.retune_model.specs.RestLaws.{OneRunBegins, HeldWasThere, SoundingIsHeld, HeldOrBegun, ResetsEndAll, PartsWithin}
use Rattle.retune_model.specs.Runs.{since, OneBegins}
use Rattle.retune_model.specs.PortNeed.{pairs_on, held_on}
use Rattle.retune_model.specs.PortLaws.{PortsAreTimed}
use Rattle.retune_model.specs.FaultLaws.{SoundPortsAreAimed, FaultlessPorts}
use Rattle.channel_model.specs.Rows.{only, zone_row}
use Rattle.channel_model.specs.Laws.{ShortestMemberIsFree}
use Rattle.channel_model.specs.BendOutput.{runs_on}
use Rattle.channel_model.specs.MpeOutput.{Zone, master_of, member_at, zone_of}
use Rattle.bend_laws.specs.Follows.{Has, SoundAmong}
use Rattle.bend_laws.specs.Positions.{port_event}
use Rattle.bend_laws.proofs.Planning.{source_at}
use Rattle.bend_laws.proofs.Equal.{same_pair}
use Rattle.bend_laws.proofs.Outputs.{source_played}
use Rattle.bend_laws.proofs.Wellness.{AreValidTo}
use Rattle.bend_laws.proofs.Runs.{since_kept, HasPlaces, has_places}
use Rattle.bend_laws.proofs.Placing.{event_is, StandsAt, at_place, reset_here}
use Rattle.bend_laws.proofs.Sounding.{sound_held, sound_there, begins_one, valid_port}
use Rattle.midi_model.specs.Zones.{master}
use Rattle.mpe_laws.specs.Zoned.{planned, IsMember}
use Rattle.mpe_laws.specs.Sources.{HasZonePlan, IsZonedPort, IsMpe}
use Rattle.mpe_laws.proofs.Planning.{IsPlanned}
use Rattle.mpe_laws.proofs.Allowed.{AreMembers, Asked, its_part, allowed_parts, row_at}

-- what is cited of pairs, faults and channels
pub record PortFacts : Type 0 where
  pub within : HeldWasThere
  pub sounding : SoundingIsHeld
  pub next : HeldOrBegun
  pub one : OneRunBegins
  pub reset : ResetsEndAll
  pub aimed : SoundPortsAreAimed
  pub fine : FaultlessPorts
  pub timed : PortsAreTimed
  pub parts : PartsWithin
  pub free : ShortestMemberIsFree

-- a pair that passes is among those that pass
has_passed : (f : Pair → Bool) (ps : List Pair) (p : Pair) → f p ≡ true → Has ps p → Has (filter f ps) p
has_passed f [] p t h = h
has_passed f (q ∷ qs) p t h = elim (cases_Bool (f q)) [
  | inl g ↦ subst (λ xs. Has xs p) (sym (ap (λ b. cond b (q ∷ filter f qs) (filter f qs)) g))
      (elim (or_cases (is_same_pair p q) (is_member is_same_pair qs p) h) [
        | inl e ↦ or_left (is_same_pair p q) (is_member is_same_pair (filter f qs) p) e
        | inr i ↦ or_right (is_same_pair p q) (is_member is_same_pair (filter f qs) p) (has_passed f qs p t i)
      ])
  | inr g ↦ subst (λ xs. Has xs p) (sym (ap (λ b. cond b (q ∷ filter f qs) (filter f qs)) g))
      (elim (or_cases (is_same_pair p q) (is_member is_same_pair qs p) h) [
        | inl e ↦ absurd (both_ways (f q) g (subst (λ x. f x ≡ true) (same_pair p q e) t))
        | inr i ↦ has_passed f qs p t i
      ])
]

-- ---- the place of a pair in its zone

pub record InZone (o : Options) (table : Targets) (es : List MidiEvent) (z : ℕ) (zones : List Zone) (channel : ℕ → Pair → ℕ) (w : Zone)
    (have : HasZonePlan o table es z w channel) (k : ℕ) (p : Pair) : Type 0 where
  pub part : p.part.channel ≡ w.part
  pub there : Has (pairs_on o (only w.part) table es z k) p
  pub members : AreMembers zones w
  pub places : HasPlaces (pairs_on o (only w.part) table es z) w.members have.row k
  pub lane : channel k p ≡ member_at w (have.row (since is_same_pair (pairs_on o (only w.part) table es z) p k))

pub in_zone : PortFacts → (o : Options) (table : Targets) (es : List MidiEvent) (zones : ℕ → List Zone) (channel : ℕ → ℕ → Pair → ℕ) →
    IsMpe o table es zones channel → (z : ℕ) (q : Options) → Asked q (zones z) →
    (w : Zone) (have : HasZonePlan o table es z w (channel z)) (k : ℕ) (p : Pair) →
    zone_of p.part.channel (zones z) ≡ Some w → k ≤ length es → Has (pairs_on o (is_part o) table es z k) p →
    InZone o table es z (zones z) (channel z) w have k p
in_zone f o table es zones channel b z q asked w have k p of low h =
    let part : w.part ≡ p.part.channel = its_part p.part.channel (zones z) w of in
    let at : ℕ → List Pair = pairs_on o (only w.part) table es z in
    let retuned : is_part o w.part ≡ true = allowed_parts o (keeps_drums o (events_on z es)) (zones z) (b.ports z).allowed p.part.channel w of in
    let some : (d : ℕ) → only w.part d ≡ true → is_part o d ≡ true = λ d e. ap (is_part o) (eqb-true d w.part e) ∙ retuned in
    let there : Has (at k) p = subst (λ ps. Has ps p) (f.parts o (is_part o) (only w.part) table (port_at es z)
    (f.timed z es b.sound.in_order) some k)
    (has_passed (λ q. only w.part q.part.channel) (pairs_on o (is_part o) table es z k) p (eq-eqb p.part.channel w.part (sym part)) h) in
    let aimed : IsAimedPort o (only w.part) table (port_at es z) = f.aimed o (only w.part) table es z some b.sound in
    let one : OneBegins is_same_pair at (length es) = f.one o (only w.part) table (port_at es z) (length es) aimed in
    let places : HasPlaces at w.members have.row k =
    has_places at (length es) w.members have.row one (f.free o (only w.part) table es z w.members have.row have.plan.takes) k low in
    record {
      part = sym part;
      there = there;
      members = asked.members p.part.channel w of;
      places = places;
      lane = have.plan.given k p (sym part) ∙ row_at w 0 w.members (have.row (since is_same_pair at p k)) (places.below p there)
          ∙ ap (member_at w) (let e : 0 + have.row (since is_same_pair at p k) ≡ have.row (since is_same_pair at p k) = omega arith in e);
    }

same_value : (f : ℕ → Option ℕ) (x y a b : ℕ) → f x ≡ Some a → f y ≡ Some b → x ≡ y → a ≡ b
same_value f x y a b h g e = cc

-- ---- a port of a source

pub planned_port : PortFacts → (o : Options) (table : Targets) (es : List MidiEvent) (zones : ℕ → List Zone) (channel : ℕ → ℕ → Pair → ℕ) →
    IsMpe o table es zones channel → (z : ℕ) (options : Options) → Asked options (zones z) →
    IsPlanned o table (zones z) (runs_on o table es channel z) (of_port z es) (length es)
planned_port f o table es zones channel b z options asked =
    let part : ℕ → Bool = is_part o in
    let port : PortEvents = port_at es z in
    let ns : List Numbered = of_port z es in
    let last : ℕ = length es in
    let at : ℕ → List Pair = pairs_on o part table es z in
    let it : IsZonedPort o table es z (zones z) (channel z) = b.ports z in
    let aimed : IsAimedPort o part table port = f.aimed o part table es z (λ c h. h) b.sound in
    let rising = (f.timed z es b.sound.in_order).ascend in
    let src : (k : ℕ) → music_at ns k ≡ source_at ns k = λ k. sym (source_played ns rising k) in
    let valid : AreValidTo ns last = valid_port es b.valid z last in
    let one : OneBegins is_same_pair at last = f.one o part table port last aimed in
    record {
      valid = valid;
      faultless = λ k e low is. (
          let P : Numbered → Type 0 = λ m. (j : ℕ) → m.position ≡ suc j → kind_behind o table false port j m.event ≡ None in
          let s : StandsAt P (suc k) e = at_place P ns (f.fine o table es z b.sound.faultless) (suc k) e is in
          let here : kind_behind o table false port k e ≡ None =
          subst (λ x. kind_behind o table false port k x ≡ None) s.event (s.holds k s.position) in
          subst (λ m. kind_in z o table e.tick m (source_at ns (suc k)) false (at (suc k)) e.what ≡ None) (src k)
          (subst (λ m. kind_in z o table e.tick (music_at ns k) m false (at (suc k)) e.what ≡ None) (src (suc k)) here));
      start = one.none;
      there = λ k low. subst (λ (m : Music). SoundAmong z o table (at k) m.notes) (src k) (sound_there f.within f.sounding o table port aimed k);
      held = λ k low. subst (λ (m : Music). SoundAmong z o table (held_on o part table es z (suc k)) m.notes) (src k)
          (sound_held f.sounding o table port aimed k);
      was_there = λ k p low h. f.within o part table port aimed k p h;
      from = λ k p low h g. (
          let begins : Has (begun_pairs z o part table (event_at ns (suc k))) p = elim (f.next o part table port aimed k p h) [
            | inl held ↦ absurd (both_ways (is_member is_same_pair (held_on o part table es z (suc k)) p) g held)
            | inr begun ↦ begun
          ] in
          begins_one z o table (port_event ns (suc k)) p (subst (λ xs. Has (begun_pairs z o part table xs) p) (event_is 0 ns rising (suc k)) begins));
      kept = λ k p low h g. (
          let found = it.zoned k p h in
          let w : Zone = found.0 in
          let have : HasZonePlan o table es z w (channel z) = it.plans p.part.channel w found.1 in
          let i : InZone o table es z (zones z) (channel z) w have k p =
          in_zone f o table es zones channel b z options asked w have k p found.1 (omega (arith, low)) h in
          have.plan.given (suc k) p i.part
          ∙ ap (λ j. get_or (zone_row w) (have.row j) 0) (since_kept (pairs_on o (only w.part) table es z) p k i.there)
          ∙ sym (have.plan.given k p i.part));
      apart = λ k p q low h g e. (
          let found = it.zoned k p h in
          let other = it.zoned k q g in
          let w : Zone = found.0 in
          let v : Zone = other.0 in
          let have : HasZonePlan o table es z w (channel z) = it.plans p.part.channel w found.1 in
          let its : HasZonePlan o table es z v (channel z) = it.plans q.part.channel v other.1 in
          let i : InZone o table es z (zones z) (channel z) w have k p =
          in_zone f o table es zones channel b z options asked w have k p found.1 low h in
          let j : InZone o table es z (zones z) (channel z) v its k q =
          in_zone f o table es zones channel b z options asked v its k q other.1 low g in
          let zp : ℕ → List Pair = pairs_on o (only w.part) table es z in
          let zq : ℕ → List Pair = pairs_on o (only v.part) table es z in
          let a : ℕ = have.row (since is_same_pair zp p k) in
          let c : ℕ = its.row (since is_same_pair zq q k) in
          let masters : master_of w ≡ master_of v = same_value (master (planned (zones z))) (member_at w a) (member_at v c) (master_of w)
          (master_of v)
          (i.members.is a (i.places.below p i.there)) (j.members.is c (j.places.below q j.there)) (sym i.lane ∙ e ∙ j.lane) in
          let same : p.part.channel ≡ q.part.channel = asked.row.own p.part.channel q.part.channel w v found.1 other.1 masters in
          let n : InZone o table es z (zones z) (channel z) w have k q =
          in_zone f o table es zones channel b z options asked w have k q (ap (λ r. zone_of r (zones z)) (sym same) ∙ found.1) low g in
          let d : ℕ = have.row (since is_same_pair zp q k) in
          i.places.apart p q i.there n.there
          (i.members.apart a d (i.places.below p i.there) (n.places.below q n.there) (sym i.lane ∙ e ∙ n.lane)));
      member = λ k p low h. (
          let found = it.zoned k p h in
          let w : Zone = found.0 in
          let have : HasZonePlan o table es z w (channel z) = it.plans p.part.channel w found.1 in
          let i : InZone o table es z (zones z) (channel z) w have k p =
          in_zone f o table es zones channel b z options asked w have k p found.1 low h in
          let a : ℕ = have.row (since is_same_pair (pairs_on o (only w.part) table es z) p k) in
          subst (IsMember (zones z) p) (sym i.lane) (record {
            zone = w;
            of = found.1;
            is = i.members.is a (i.places.below p i.there);
            low = i.members.low a (i.places.below p i.there);
          }));
      reset = λ k e low is r. f.reset o part table port k (reset_here ns (suc k) e is (ap resets r));
    }
