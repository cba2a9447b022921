-- The bend that each member has at a position, from one position to the next.
use Rattle.std.proofs.Common.{◌≡◌, ◌≢◌, ◌≤◌, ◌<◌, ℕ, suc, pos, ◌+ℤ◌, Bool, true, false, cond, List, [], map, Option, Some, None, refl, sym, ap, ◌∙◌, subst, length, take, inl, inr, arith}
use Rattle.std.specs.Set.{is_member}
use Rattle.std.proofs.lemmas.Bool.{cases_Bool, both_ways, or_left, eqb-true}
use Rattle.mt_base.specs.declared.event.Msg.TheVariants.{NoteOn}
use Rattle.mt_base.specs.Midi.{MidiWhat, Says, MidiEvent}
use Rattle.midi_model.specs.Sysex.{Doing, Plays, Resets, Tunes, Nothing, doing}
use Rattle.midi_model.specs.Music.{Music, quiet, channel_at, play}
use Rattle.retune_model.specs.Table.{BendTarget}
use Rattle.retune_model.specs.Options.{Options, keeps_drums}
use Rattle.retune_model.specs.PlaysTheSame.{bend_target_if}
use Rattle.retune_model.specs.Ports.{of_port, port_at, events_on, is_reset_at}
use Rattle.retune_model.specs.Faults.{Targets, is_part}
use Rattle.retune_model.specs.Pairs.{Pair, is_same_pair}
use Rattle.retune_model.specs.Rests.{begun_at, IsAimedPort}
use Rattle.retune_model.specs.Runs.{since}
use Rattle.retune_model.specs.PortNeed.{pairs_on}
use Rattle.channel_model.specs.Choice.{bend_value, pair_on, last_or, last_on, member_bend}
use Rattle.channel_model.specs.BendOutput.{pair_with, runs_on, placed_at}
use Rattle.plan_laws.specs.Counting.{ComesAt}
use Rattle.lifetimes.specs.Told.{port_on}
use Rattle.channel_model.specs.MpeOutput.{Zone, Zoned, member_at, master_of, zone_of, zones_setup, setup_before}
use Rattle.channel_model.specs.Rows.{only, zones_on}
use Rattle.bend_laws.specs.Follows.{Has}
use Rattle.bend_laws.proofs.Altered.{all_default}
use Rattle.bend_laws.proofs.Equal.{pair_itself}
use Rattle.mpe_laws.specs.Positions.{zoned_at, FollowsAt}
use Rattle.mpe_laws.specs.Sources.{on_port, HasZonePlan, IsMpe}
use Rattle.mpe_laws.proofs.Allowed.{AreMembers, Asked, its_part, allowed_parts}
use Rattle.mpe_laws.proofs.Ported.{InZone, in_zone}
use Rattle.channel_plan.specs.declared.plan.Plan.{Plan}
use Rattle.mpe_route.specs.Planned.{planned_channel}
use Rattle.mpe_route.specs.Laws.{IsZonable}
use Rattle.mpe_route.proofs.Kit.{Kit}
use Rattle.mpe_route.proofs.Source.{asked_port}
use Rattle.mpe_route.proofs.Channels.{mpe, ported, begun_there}
use Rattle.mpe_laws.proofs.Lasting.{on_found, from_filter, member_last}

-- ---- what is on a place

none_there : (p : Pair) (ps : List Pair) → ps ≡ [] → Has ps p → ⊥
none_there p ps none h = both_ways (is_member is_same_pair ps p) (ap (λ l. is_member is_same_pair l p) none) h

-- a pair's run is on a member of a zone
pub record OnMember (o : Options) (table : Targets) (es : List MidiEvent) (plan : Plan) (z k : ℕ) (p : Pair) (w : Zone) : Type 0 where
  pub place : ℕ
  pub within : place < w.members
  pub is : planned_channel o table es plan z k p ≡ member_at w place

-- what is kept in mind for a port at a position
abbrev pub state : Options → Targets → List MidiEvent → Plan → ℕ → ℕ → Zoned
state o table es plan z k =
    zoned_at o table (zones_on o table es z) (runs_on o table es (planned_channel o table es plan) z) (of_port z es) k

-- the bend that a channel of the output has then
abbrev pub out_bend : Options → Targets → List MidiEvent → Plan → ℕ → ℕ → ℕ → ℕ
out_bend o table es plan z k d = (channel_at (state o table es plan z k).out d).bend

-- ---- a source

module _ (kit : Kit) (o : Options) (table : Targets) (es : List MidiEvent) (plan : Plan) (h : IsZonable o table es plan) where
  abbrev channel : ℕ → ℕ → Pair → ℕ
  channel = planned_channel o table es plan

  abbrev zones : ℕ → List Zone
  zones = zones_on o table es

  abbrev begun_on : ℕ → ℕ → List Pair
  begun_on z k = begun_at o (is_part o) table (port_at es z) (suc k)

  aimed : (z : ℕ) → IsAimedPort o (is_part o) table (port_at es z)
  aimed z = kit.facts.aimed o (is_part o) table es z (λ c g. g) (mpe kit o table es plan h).sound

  -- the member of a pair that is there has its bend
  pub bent_there : (z k : ℕ) (p : Pair) → k ≤ length es → Has (pairs_on o (is_part o) table es z k) p
      → out_bend o table es plan z k (channel z k p) ≡ bend_value (pos 8192 +ℤ p.steps)
  bent_there z k p low there =
      let b : IsMpe o table es zones channel = mpe kit o table es plan h in
      let f : FollowsAt (on_port o es z) table (zones z) (runs_on o table es channel z) k (state o table es plan z k) =
      kit.follows o table es zones channel b z k low in
      elim (cases_Bool (state o table es plan z k).begun) [
        | inl begun ↦ (f.after begun).bent p there
        | inr not_yet ↦ absurd ((f.before not_yet).1.1 p there)
      ]

  -- what is asked of a member
  pub asked : (z : ℕ) → Asked (on_port o es z) (zones z)
  asked z = asked_port kit.laws o table es zones channel (mpe kit o table es plan h) z

  pub on_member : (z k : ℕ) (p : Pair) (w : Zone) → zone_of p.part.channel (zones z) ≡ Some w → k ≤ length es
      → Has (pairs_on o (is_part o) table es z k) p → OnMember o table es plan z k p w
  on_member z k p w of low there =
      let b : IsMpe o table es zones channel = mpe kit o table es plan h in
      let have : HasZonePlan o table es z w (channel z) = (b.ports z).plans p.part.channel w of in
      let x : InZone o table es z (zones z) (channel z) w have k p =
      in_zone kit.facts o table es zones channel b z (on_port o es z) (asked z) w have k p of low there in
      record {
        place = have.row (since is_same_pair (pairs_on o (only w.part) table es z) p k);
        within = x.places.below p x.there;
        is = x.lane;
      }

  -- a run keeps its member
  pub kept_there : (z k : ℕ) (p : Pair) → k < length es → Has (pairs_on o (is_part o) table es z k) p
      → Has (pairs_on o (is_part o) table es z (suc k)) p → channel z (suc k) p ≡ channel z k p
  kept_there z k p low was there = (ported kit o table es plan h z).kept k p low was there

  -- the pair of a note on is there
  pub begun_has : (z k : ℕ) (e : MidiEvent) (c j v : ℕ) (t : BendTarget) → ComesAt es k e → port_on (take k es) e ≡ z
      → e.what ≡ Says (NoteOn c j (suc v)) → is_part o c ≡ true → bend_target_if o.range (table j e.tick) ≡ Some t
      → Has (begun_on z k) (pair_with z c t) × Has (pairs_on o (is_part o) table es z (suc k)) (pair_with z c t)
  begun_has z k e c j v t comes at what part aim =
      let p = pair_with z c t in
      let begun : Has (begun_on z k) p =
      subst (λ ps. Has ps p) (sym (begun_there kit o table es plan h z k e c j v t comes at what part aim))
      (or_left (is_same_pair p p) false (pair_itself p)) in
      (begun, kit.begun o (is_part o) table (port_at es z) (aimed z) k p begun)

  -- a run begins on a member
  pub bend_begun : (z k d : ℕ) (p : Pair) → k < length es → Has (begun_on z k) p → channel z (suc k) p ≡ d
      → out_bend o table es plan z (suc k) d ≡ bend_value (pos 8192 +ℤ p.steps)
  bend_begun z k d p low begun on =
      ap (out_bend o table es plan z (suc k)) (sym on)
      ∙ bent_there z (suc k) p (omega (arith, low)) (kit.begun o (is_part o) table (port_at es z) (aimed z) k p begun)

  -- none begins on it: its bend stays, but a reset takes it
  pub bend_kept : (z c i : ℕ) (w : Zone) (k : ℕ) → zone_of c (zones z) ≡ Some w → i < w.members → k < length es
      → ((p : Pair) → Has (begun_on z k) p → channel z (suc k) p ≢ member_at w i)
      → out_bend o table es plan z (suc k) (member_at w i)
      ≡ cond (is_reset_at (of_port z es) (suc k)) 8192 (out_bend o table es plan z k (member_at w i))
  bend_kept z c i w k of within low free = by_pair (pair_on at have.row i (suc k)) refl
    where
      b : IsMpe o table es zones channel
      b = mpe kit o table es plan h

      have : HasZonePlan o table es z w (channel z)
      have = (b.ports z).plans c w of

      at : ℕ → List Pair
      at = pairs_on o (only w.part) table es z

      d : ℕ
      d = member_at w i

      reset : ℕ → Bool
      reset = is_reset_at (of_port z es)

      left : (j : ℕ) → j ≤ length es → out_bend o table es plan z j d ≡ member_bend (last_on reset at have.row i j)
      left j near = kit.left o table es zones channel b z c w of have.instant have.row have.plan j i near within

      part : is_part o w.part ≡ true
      part = allowed_parts o (keeps_drums o (events_on z es)) (zones z) (b.ports z).allowed c w of

      -- a pair of the zone's part, on its member
      there : (q : Pair) → Has (at (suc k)) q → Has (pairs_on o (is_part o) table es z (suc k)) q
          × InZone o table es z (zones z) (channel z) w have (suc k) q
      there q has =
          let found = from_filter (λ r. only w.part r.part.channel) (pairs_on o (is_part o) table es z (suc k)) q
          (subst (λ ps. Has ps q) (sym (kit.facts.parts o (is_part o) (only w.part) table (port_at es z) (kit.facts.timed z es h.in_order)
          (λ e g. ap (is_part o) (eqb-true e w.part g) ∙ part) (suc k))) has) in
          let same : q.part.channel ≡ c = eqb-true q.part.channel w.part found.1 ∙ its_part c (zones z) w of in (
            found.0,
            in_zone kit.facts o table es zones channel b z (on_port o es z) (asked z) w have (suc k) q (ap (λ e. zone_of e (zones z)) same ∙ of)
                (omega (arith, low)) found.0,
          )

      stays : (q : Pair) → Has (pairs_on o (is_part o) table es z (suc k)) q → channel z (suc k) q ≡ d
          → Has (pairs_on o (is_part o) table es z k) q
          → out_bend o table es plan z (suc k) d ≡ cond (reset (suc k)) 8192 (out_bend o table es plan z k d)
      stays q has on was =
          let before : out_bend o table es plan z k d ≡ bend_value (pos 8192 +ℤ q.steps) =
          ap (out_bend o table es plan z k) (sym (sym ((ported kit o table es plan h z).kept k q low was has) ∙ on))
          ∙ bent_there z k q (omega (arith, low)) was in
          let now : out_bend o table es plan z (suc k) d ≡ bend_value (pos 8192 +ℤ q.steps) =
          ap (out_bend o table es plan z (suc k)) (sym on) ∙ bent_there z (suc k) q (omega (arith, low)) has in
          let no : reset (suc k) ≡ false = elim (cases_Bool (reset (suc k))) [
            | inl is ↦ absurd (none_there q (pairs_on o (is_part o) table es z (suc k)) (kit.facts.reset o (is_part o) table (port_at es z) k is) has)
            | inr is ↦ is
          ] in
          now ∙ sym before ∙ sym (ap (λ x. cond x 8192 (out_bend o table es plan z k d)) no)

      by_pair : (x : Option Pair) → pair_on at have.row i (suc k) ≡ x
          → out_bend o table es plan z (suc k) d ≡ cond (reset (suc k)) 8192 (out_bend o table es plan z k d)
      by_pair None is =
          left (suc k) (omega (arith, low))
          ∙ ap (λ y. member_bend (last_or (suc k) y (reset (suc k)) (last_on reset at have.row i k))) is
          ∙ member_last (suc k) (reset (suc k)) (last_on reset at have.row i k)
          ∙ ap (cond (reset (suc k)) 8192) (sym (left k (omega (arith, low))))
      by_pair (Some q) is =
          let found = on_found (λ r. have.row (since is_same_pair at r (suc k))) i (at (suc k)) q is in
          let x = there q found.0 in
          let on : channel z (suc k) q ≡ d = x.1.lane ∙ ap (member_at w) found.1 in
          elim (kit.facts.next o (is_part o) table (port_at es z) (aimed z) k q x.0) [
            | inl held ↦ stays q x.0 on (kit.facts.within o (is_part o) table (port_at es z) (aimed z) k q held)
            | inr begun ↦ absurd (free q begun on)
          ]

  -- once the setup stands, where it stands before an event, each member has still its bend
  pub bend_ready : (z c i : ℕ) (w : Zone) (k : ℕ) (e : MidiEvent) → zone_of c (zones z) ≡ Some w → i < w.members → k ≤ length es
      → (channel_at (play (state o table es plan z k).out
      (placed_at e (setup_before (map Says (zones_setup o.range (zones z))) (state o table es plan z k).begun (doing e.what))))
      (member_at w i)).bend
      ≡ out_bend o table es plan z k (member_at w i)
  bend_ready z c i w k e of within low = by_begun (state o table es plan z k).begun refl
    where
      b : IsMpe o table es zones channel
      b = mpe kit o table es plan h

      f : FollowsAt (on_port o es z) table (zones z) (runs_on o table es channel z) k (state o table es plan z k)
      f = kit.follows o table es zones channel b z k low

      d : ℕ
      d = member_at w i

      its : AreMembers (zones z) w
      its = (asked z).members c w of

      setup : List MidiWhat
      setup = map Says (zones_setup o.range (zones z))

      quiet_bend : (channel_at quiet d).bend ≡ 8192
      quiet_bend = ap (λ s. s.bend) (all_default 16 d)

      first : (state o table es plan z k).out ≡ quiet
          → (channel_at (play (state o table es plan z k).out (placed_at e setup)) d).bend ≡ out_bend o table es plan z k d
      first silent =
          ap (λ m. (channel_at (play m (placed_at e setup)) d).bend) silent
          ∙ ap (λ s. s.bend) (((asked z).sets e [] tt).members d (master_of w) (its.low i within) (its.is i within))
          ∙ sym quiet_bend
          ∙ ap (λ (m : Music). (channel_at m d).bend) (sym silent)

      by_doing : (a : Doing) → (state o table es plan z k).out ≡ quiet
          → (channel_at (play (state o table es plan z k).out (placed_at e (setup_before setup false a))) d).bend ≡ out_bend o table es plan z k d
      by_doing (Plays msg) silent = first silent
      by_doing Resets silent = refl
      by_doing (Tunes r) silent = refl
      by_doing Nothing silent = refl

      by_begun : (x : Bool) → (state o table es plan z k).begun ≡ x
          → (channel_at (play (state o table es plan z k).out
          (placed_at e (setup_before setup (state o table es plan z k).begun (doing e.what)))) d).bend
          ≡ out_bend o table es plan z k d
      by_begun true is =
          ap (λ x. (channel_at (play (state o table es plan z k).out (placed_at e (setup_before setup x (doing e.what)))) d).bend) is
          ∙ begun (doing e.what)
        where
          begun : (a : Doing) → (channel_at (play (state o table es plan z k).out (placed_at e (setup_before setup true a))) d).bend
              ≡ out_bend o table es plan z k d
          begun (Plays msg) = refl
          begun Resets = refl
          begun (Tunes r) = refl
          begun Nothing = refl
      by_begun false is =
          ap (λ x. (channel_at (play (state o table es plan z k).out (placed_at e (setup_before setup x (doing e.what)))) d).bend) is
          ∙ by_doing (doing e.what) (f.before is).1.0
