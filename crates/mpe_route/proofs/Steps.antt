-- What is kept of each port, from one position to the next.
use Rattle.std.proofs.Common.{◌≡◌, ◌≢◌, ◌<◌, ◌++◌, ◌&&◌, ◌⊎◌, ℕ, zero, suc, Bool, true, false, cond, nat_eq, List, [], ◌∷◌, Option, Some, None, refl, sym, ap, ◌∙◌, subst, length, take, drop, inl, inr, arith}
use Rattle.std.specs.Set.{is_member}
use Rattle.std.proofs.lemmas.Bool.{cases_eq, both_ways, or_cases, eq-eqb, ne_eqb}
use Rattle.std.proofs.lemmas.List.{take-append-drop, length-take-le}
use Rattle.mt_base.specs.declared.event.Msg.TheVariants.{NoteOn, NoteOff, KeyPressure, Control, Program, Pressure, Bend}
use Rattle.mt_base.specs.Midi.{MidiWhat, Says, SysexOf, MetaOf, MidiEvent}
use Rattle.midi_model.specs.Sysex.{Resets, Nothing, Retune, tunes, doing, is_reset, tuning_of}
use Rattle.retune_model.specs.Table.{BendTarget}
use Rattle.retune_model.specs.Options.{Options, bends_notes}
use Rattle.retune_model.specs.Ports.{Numbered, of_port, port_at, event_at, is_reset_at, resets}
use Rattle.retune_model.specs.PlaysTheSame.{bend_target_if}
use Rattle.retune_model.specs.Faults.{Targets, is_part}
use Rattle.retune_model.specs.Pairs.{Pair, pair_if, is_same_pair}
use Rattle.retune_model.specs.Rests.{begun_at, begun_pair}
use Rattle.retune_model.specs.PortNeed.{pairs_on}
use Rattle.channel_model.specs.BendOutput.{pair_with, runs_on}
use Rattle.channel_model.specs.MpeOutput.{Zone, member_at, zone_of, next_zoned}
use Rattle.channel_model.specs.Rows.{zones_on}
use Rattle.bend_laws.specs.Follows.{Has}
use Rattle.bend_laws.specs.Positions.{port_event}
use Rattle.bend_laws.proofs.Equal.{same_pair}
use Rattle.bend_laws.proofs.Outputs.{events_if}
use Rattle.bend_laws.proofs.Placing.{event_is}
use Rattle.mpe_laws.specs.Positions.{zoned_next}
use Rattle.mpe_laws.specs.Sources.{HasZonePlan, IsMpe}
use Rattle.plan_laws.specs.Counting.{ComesAt}
use Rattle.lifetimes.specs.Told.{port_on, count_begun, begun_by}
use Rattle.routes.specs.Device.{resets_all}
use Rattle.channel_plan.specs.Told.{channel_in}
use Rattle.channel_plan.specs.declared.plan.Plan.{Plan}
use Rattle.mpe_route.specs.declared.caused.Played.{Played}
use Rattle.mpe_route.specs.Caused.{played_if}
use Rattle.mpe_route.specs.Kept.{with_note, reset_if, bends_after}
use Rattle.mpe_route.specs.Planned.{planned_channel}
use Rattle.mpe_route.specs.Laws.{IsZonable}
use Rattle.mpe_route.proofs.Kit.{Kit}
use Rattle.mpe_route.proofs.Channels.{mpe, begun_there, channel_begun}
use Rattle.mpe_route.proofs.Aimed.{played_to, aimed, note_begun, note_not_begun}
use Rattle.mpe_route.proofs.Bends.{state, out_bend, asked, bend_begun, bend_kept, begun_has}
use Rattle.mpe_route.proofs.Block.{HasBends}
use Rattle.mpe_laws.proofs.Ops.{and_false}

-- ---- resets

pub resets_is : (w : MidiWhat) → resets_all w ≡ resets (doing w)
resets_is (Says m) = refl
resets_is (MetaOf kind bytes) = refl
resets_is (SysexOf lead bytes) = pick (nat_eq lead 240) (is_reset bytes) (tuning_of bytes)
  where
    pick : (leads reset : Bool) (r : Option Retune) → (leads && reset) ≡ resets (cond leads (cond reset Resets (tunes r)) Nothing)
    pick false reset r = refl
    pick true true r = refl
    pick true false None = refl
    pick true false (Some y) = refl

-- ---- the bends that are kept

other_port : (y : ℕ) (reset : Bool) (note : Option Played) (bends : ℕ → ℕ → ℕ) (z d : ℕ) → nat_eq z y ≡ false
    → bends_after y reset note bends z d ≡ bends z d
other_port y reset note bends z d h = by_note note ∙ by_reset reset
  where
    by_note : (x : Option Played) → with_note y x (reset_if y reset bends) z d ≡ reset_if y reset bends z d
    by_note (Some n) = ap (λ b. cond (b && nat_eq d n.channel) n.bend (reset_if y reset bends z d)) h
    by_note None = refl

    by_reset : (r : Bool) → reset_if y r bends z d ≡ bends z d
    by_reset true = ap (λ b. cond b 8192 (bends z d)) h
    by_reset false = refl

no_note : (y : ℕ) (reset : Bool) (bends : ℕ → ℕ → ℕ) (z d : ℕ) → nat_eq z y ≡ true
    → bends_after y reset None bends z d ≡ cond reset 8192 (bends z d)
no_note y true bends z d h = ap (λ b. cond b 8192 (bends z d)) h
no_note y false bends z d h = refl

its_note : (y : ℕ) (n : Played) (bends : ℕ → ℕ → ℕ) (z d : ℕ) → nat_eq z y ≡ true
    → bends_after y false (Some n) bends z d ≡ cond (nat_eq d n.channel) n.bend (bends z d)
its_note y n bends z d h = ap (λ b. cond (b && nat_eq d n.channel) n.bend (bends z d)) h

-- ---- a source

-- an event that begins a note which has a target
pub record Begins (o : Options) (table : Targets) (e : MidiEvent) : Type 0 where
  pub channel : ℕ
  pub key : ℕ
  pub velocity : ℕ
  pub target : BendTarget
  pub what : e.what ≡ Says (NoteOn channel key (suc velocity))
  pub part : is_part o channel ≡ true
  pub aim : bend_target_if o.range (table key e.tick) ≡ Some target

-- and one that begins none, on port z
pub record BeginsNone (o : Options) (table : Targets) (plan : Plan) (e : MidiEvent) (z : ℕ) : Type 0 where
  pub pairs : begun_pair z o (is_part o) table e.tick e.what ≡ []
  pub note : (n : ℕ) → played_if plan (begun_by o table z n e.tick e.what) ≡ None

begins_or : (o : Options) (table : Targets) (plan : Plan) (e : MidiEvent) (z : ℕ) → bends_notes o.route ≡ true
    → Begins o table e ⊎ BeginsNone o table plan e z
begins_or o table plan e z bends = by_what e.what refl
  where
    none : (w : MidiWhat) → e.what ≡ w → begun_pair z o (is_part o) table e.tick w ≡ []
        → ((n : ℕ) → played_if plan (begun_by o table z n e.tick w) ≡ None) → BeginsNone o table plan e z
    none w is pairs note = record {
      pairs = ap (begun_pair z o (is_part o) table e.tick) is ∙ pairs;
      note = λ n. ap (λ a. played_if plan (begun_by o table z n e.tick a)) is ∙ note n;
    }

    by_target : (c j v : ℕ) → e.what ≡ Says (NoteOn c j (suc v)) → is_part o c ≡ true
        → (u : Option BendTarget) → bend_target_if o.range (table j e.tick) ≡ u → Begins o table e ⊎ BeginsNone o table plan e z
    by_target c j v is part (Some t) aim =
        inl (record { channel = c; key = j; velocity = v; target = t; what = is; part = part; aim = aim })
    by_target c j v is part None aim = inr (none (Says (NoteOn c j (suc v))) is
        (ap (λ b. cond b (pair_if z c (bend_target_if o.range (table j e.tick)) []) []) part ∙ ap (λ x. pair_if z c x []) aim)
        (λ n. note_begun o table plan z e.tick c j v n bends part ∙ ap (aimed (channel_in plan n)) aim ∙ unaimed (channel_in plan n)))
      where
        unaimed : (d : Option ℕ) → aimed d None ≡ None
        unaimed (Some d) = refl
        unaimed None = refl

    by_part : (c j v : ℕ) → e.what ≡ Says (NoteOn c j (suc v)) → (b : Bool) → is_part o c ≡ b → Begins o table e ⊎ BeginsNone o table plan e z
    by_part c j v is true part = by_target c j v is part (bend_target_if o.range (table j e.tick)) refl
    by_part c j v is false part = inr (none (Says (NoteOn c j (suc v))) is
        (ap (λ b. cond b (pair_if z c (bend_target_if o.range (table j e.tick)) []) []) part)
        (λ n. note_not_begun o table plan z e.tick c j v n part))

    by_what : (w : MidiWhat) → e.what ≡ w → Begins o table e ⊎ BeginsNone o table plan e z
    by_what (Says (NoteOn c j (suc v))) is = by_part c j v is (is_part o c) refl
    by_what (Says (NoteOn c j zero)) is = inr (none (Says (NoteOn c j zero)) is refl (λ n. refl))
    by_what (Says (NoteOff c j v)) is = inr (none (Says (NoteOff c j v)) is refl (λ n. refl))
    by_what (Says (KeyPressure c j v)) is = inr (none (Says (KeyPressure c j v)) is refl (λ n. refl))
    by_what (Says (Control c n v)) is = inr (none (Says (Control c n v)) is refl (λ m. refl))
    by_what (Says (Program c n)) is = inr (none (Says (Program c n)) is refl (λ m. refl))
    by_what (Says (Pressure c v)) is = inr (none (Says (Pressure c v)) is refl (λ n. refl))
    by_what (Says (Bend c v)) is = inr (none (Says (Bend c v)) is refl (λ n. refl))
    by_what (SysexOf lead bytes) is = inr (none (SysexOf lead bytes) is refl (λ n. refl))
    by_what (MetaOf kind bytes) is = inr (none (MetaOf kind bytes) is refl (λ n. refl))

-- the members of all ports have these bends
abbrev pub AllBends : Options → Targets → List MidiEvent → Plan → (ℕ → ℕ → ℕ) → ℕ → Type 0
AllBends o table es plan bends k = (z : ℕ) → z < 256 → HasBends o table es plan (bends z) z k

module _ (kit : Kit) (o : Options) (table : Targets) (es : List MidiEvent) (plan : Plan) (h : IsZonable o table es plan) where
  abbrev channel : ℕ → ℕ → Pair → ℕ
  channel = planned_channel o table es plan

  abbrev zones : ℕ → List Zone
  zones = zones_on o table es

  abbrev begun_on : ℕ → ℕ → List Pair
  begun_on z k = begun_at o (is_part o) table (port_at es z) (suc k)

  abbrev at : ℕ → MidiEvent → ℕ
  at k e = port_on (take k es) e

  member_low : (z c i : ℕ) (w : Zone) → zone_of c (zones z) ≡ Some w → i < w.members → member_at w i < 16
  member_low z c i w of within = ((asked kit o table es plan h z).members c w of).low i within

  pub bends_first : (bends : ℕ → ℕ → ℕ) → ((z d : ℕ) → z < 256 → d < 16 → bends z d ≡ 8192) → AllBends o table es plan bends 0
  bends_first bends level z low c i w of within =
      let b : IsMpe o table es zones channel = mpe kit o table es plan h in
      let have : HasZonePlan o table es z w (channel z) = (b.ports z).plans c w of in
      level z (member_at w i) low (member_low z c i w of within)
      ∙ sym (kit.left o table es zones channel b z c w of have.instant have.row have.plan 0 i (omega arith) within)

  -- whether the event is a reset of a port
  reset_is : (z k : ℕ) (e : MidiEvent) → ComesAt es k e → is_reset_at (of_port z es) (suc k) ≡ (nat_eq (at k e) z && resets (doing e.what))
  reset_is z k e comes = kit.events.reset es z k e comes

  -- the pairs that it begins on a port
  begun_is : (z k : ℕ) (e : MidiEvent) → ComesAt es k e
      → begun_on z k ≡ cond (nat_eq (at k e) z) (begun_pair z o (is_part o) table e.tick e.what) []
  begun_is z k e comes = kit.events.begun o (is_part o) table es z k e comes

  none_begun : (z k : ℕ) → begun_on z k ≡ [] → (p : Pair) → Has (begun_on z k) p → ⊥
  none_begun z k none p has = both_ways (is_member is_same_pair (begun_on z k) p) (ap (λ ps. is_member is_same_pair ps p) none) has

  -- an event of another port
  elsewhere : (z k c i : ℕ) (e : MidiEvent) (w : Zone) → ComesAt es k e → k < length es → nat_eq (at k e) z ≡ false
      → zone_of c (zones z) ≡ Some w → i < w.members
      → out_bend o table es plan z (suc k) (member_at w i) ≡ out_bend o table es plan z k (member_at w i)
  elsewhere z k c i e w comes low other of within =
      bend_kept kit o table es plan h z c i w k of within low
      (λ p has. absurd (none_begun z k (begun_is z k e comes ∙ ap (λ b. cond b (begun_pair z o (is_part o) table e.tick e.what) []) other) p has))
      ∙ ap (λ b. cond b 8192 (out_bend o table es plan z k (member_at w i)))
      (reset_is z k e comes ∙ ap (λ b. b && resets (doing e.what)) other)

  -- an event of the port that begins no note
  noteless : (z k c i : ℕ) (e : MidiEvent) (w : Zone) → ComesAt es k e → k < length es → nat_eq (at k e) z ≡ true
      → BeginsNone o table plan e z → zone_of c (zones z) ≡ Some w → i < w.members
      → out_bend o table es plan z (suc k) (member_at w i)
      ≡ cond (resets_all e.what) 8192 (out_bend o table es plan z k (member_at w i))
  noteless z k c i e w comes low here none of within =
      bend_kept kit o table es plan h z c i w k of within low
      (λ p has. absurd (none_begun z k (begun_is z k e comes ∙ ap (λ b. cond b (begun_pair z o (is_part o) table e.tick e.what) []) here
      ∙ none.pairs) p has))
      ∙ ap (λ b. cond b 8192 (out_bend o table es plan z k (member_at w i)))
      (reset_is z k e comes ∙ ap (λ b. b && resets (doing e.what)) here ∙ sym (resets_is e.what))

  -- one that does
  noted : (z k c i : ℕ) (e : MidiEvent) (w : Zone) → ComesAt es k e → k < length es → at k e ≡ z
      → (b : Begins o table e) → zone_of c (zones z) ≡ Some w → i < w.members
      → (let n : Played = played_to (channel z (suc k) (pair_with z b.channel b.target)) b.target in
      out_bend o table es plan z (suc k) (member_at w i)
      ≡ cond (nat_eq (member_at w i) n.channel) n.bend (out_bend o table es plan z k (member_at w i)))
  noted z k c i e w comes low here b of within = by_member (cases_eq (member_at w i) d)
    where
      p : Pair
      p = pair_with z b.channel b.target

      d : ℕ
      d = channel z (suc k) p

      n : Played
      n = played_to d b.target

      has : Has (begun_on z k) p × Has (pairs_on o (is_part o) table es z (suc k)) p
      has = begun_has kit o table es plan h z k e b.channel b.key b.velocity b.target comes here b.what b.part b.aim

      only : (q : Pair) → Has (begun_on z k) q → q ≡ p
      only q begun = elim (or_cases (is_same_pair q p) false (subst (λ ps. Has ps q)
          (begun_there kit o table es plan h z k e b.channel b.key b.velocity b.target comes here b.what b.part b.aim) begun)) [
            | inl same ↦ same_pair q p same
            | inr other ↦ absurd (both_ways false refl other)
          ]

      no_reset : is_reset_at (of_port z es) (suc k) ≡ false
      no_reset = reset_is z k e comes ∙ ap (λ a. nat_eq (at k e) z && resets (doing a)) b.what ∙ and_false (nat_eq (at k e) z)

      by_member : ((member_at w i ≡ d) ⊎ (member_at w i ≢ d)) → out_bend o table es plan z (suc k) (member_at w i)
          ≡ cond (nat_eq (member_at w i) n.channel) n.bend (out_bend o table es plan z k (member_at w i))
      by_member (inl same) =
          bend_begun kit o table es plan h z k (member_at w i) p low has.0 (sym same)
          ∙ sym (ap (λ x. cond x n.bend (out_bend o table es plan z k (member_at w i))) (eq-eqb (member_at w i) d same))
      by_member (inr differ) =
          bend_kept kit o table es plan h z c i w k of within low (λ q begun on. differ (sym on ∙ ap (channel z (suc k)) (only q begun)))
          ∙ ap (λ x. cond x 8192 (out_bend o table es plan z k (member_at w i))) no_reset
          ∙ sym (ap (λ x. cond x n.bend (out_bend o table es plan z k (member_at w i))) (ne_eqb (member_at w i) d differ))

  -- the note that it is told to begin
  note_is : (z k : ℕ) (e : MidiEvent) → ComesAt es k e → k < length es → at k e ≡ z → (b : Begins o table e)
      → played_if plan (begun_by o table z (suc (count_begun o (take k es))) e.tick e.what)
      ≡ Some (played_to (channel z (suc k) (pair_with z b.channel b.target)) b.target)
  note_is z k e comes low here b =
      let n = suc (count_begun o (take k es)) in
      let p = pair_with z b.channel b.target in
      let has = begun_has kit o table es plan h z k e b.channel b.key b.velocity b.target comes here b.what b.part b.aim in
      let found = ((mpe kit o table es plan h).ports z).zoned (suc k) p has.1 in
      ap (λ a. played_if plan (begun_by o table z n e.tick a)) b.what
      ∙ note_begun o table plan z e.tick b.channel b.key b.velocity n (ap bends_notes h.route) b.part
      ∙ ap (aimed (channel_in plan n)) b.aim
      ∙ ap (λ x. aimed x (Some b.target))
      (channel_begun kit o table es plan h z k e b.channel b.key b.velocity b.target found.0 comes here b.what b.part b.aim found.1)

  pub bends_next : (bends then : ℕ → ℕ → ℕ) (k : ℕ) (e : MidiEvent) (note : Option Played) → ComesAt es k e → k < length es
      → note ≡ played_if plan (begun_by o table (at k e) (suc (count_begun o (take k es))) e.tick e.what)
      → ((z d : ℕ) → z < 256 → d < 16 → then z d ≡ bends_after (at k e) (resets_all e.what) note bends z d)
      → AllBends o table es plan bends k → AllBends o table es plan then (suc k)
  bends_next bends then k e note comes low note_as kept all z byte c i w of within =
      kept z d byte (member_low z c i w of within) ∙ by_port (cases_eq z (at k e))
    where
      d : ℕ
      d = member_at w i

      before : bends z d ≡ out_bend o table es plan z k d
      before = all z byte c i w of within

      here : z ≡ at k e → (x : Begins o table e ⊎ BeginsNone o table plan e z)
          → bends_after (at k e) (resets_all e.what) note bends z d ≡ out_bend o table es plan z (suc k) d
      here same (inl b) =
          ap (λ r. bends_after (at k e) r note bends z d) (ap resets_all b.what)
          ∙ ap (λ x. bends_after (at k e) false x bends z d)
          (note_as ∙ ap (λ y. played_if plan (begun_by o table y (suc (count_begun o (take k es))) e.tick e.what)) (sym same)
          ∙ note_is z k e comes low (sym same) b)
          ∙ its_note (at k e) (played_to (channel z (suc k) (pair_with z b.channel b.target)) b.target) bends z d (eq-eqb z (at k e) same)
          ∙ ap (cond (nat_eq d (channel z (suc k) (pair_with z b.channel b.target)))
          (played_to (channel z (suc k) (pair_with z b.channel b.target)) b.target).bend) before
          ∙ sym (noted z k c i e w comes low (sym same) b of within)
      here same (inr none) =
          ap (λ x. bends_after (at k e) (resets_all e.what) x bends z d)
          (note_as ∙ ap (λ y. played_if plan (begun_by o table y (suc (count_begun o (take k es))) e.tick e.what)) (sym same)
          ∙ none.note (suc (count_begun o (take k es))))
          ∙ no_note (at k e) (resets_all e.what) bends z d (eq-eqb z (at k e) same)
          ∙ ap (cond (resets_all e.what) 8192) before
          ∙ sym (noteless z k c i e w comes low (eq-eqb (at k e) z (sym same)) none of within)

      by_port : ((z ≡ at k e) ⊎ (z ≢ at k e)) → bends_after (at k e) (resets_all e.what) note bends z d ≡ out_bend o table es plan z (suc k) d
      by_port (inl same) = here same (begins_or o table plan e z (ap bends_notes h.route))
      by_port (inr other) =
          other_port (at k e) (resets_all e.what) note bends z d (ne_eqb z (at k e) other)
          ∙ before
          ∙ sym (elsewhere z k c i e w comes low (ne_eqb (at k e) z (λ x. other (sym x))) of within)

  -- ---- the musics

  event_here : (z k : ℕ) (e : MidiEvent) → ComesAt es k e → k < length es
      → event_at (of_port z es) (suc k) ≡ cond (nat_eq (at k e) z) (e ∷ []) []
  event_here z k e comes low =
      let whole : take k es ++ e ∷ drop (suc k) es ≡ es = ap (λ l. take k es ++ l) (sym comes) ∙ take-append-drop k es in
      let long : length (take k es) ≡ k = length-take-le k es (omega (arith, low)) in
      sym (ap (λ l. event_at (of_port z l) (suc k)) whole)
      ∙ sym (ap (λ n. event_at (of_port z (take k es ++ e ∷ drop (suc k) es)) (suc n)) long)
      ∙ kit.next (take k es) e (drop (suc k) es) z

  one_event : (x : Option MidiEvent) (e : MidiEvent) → events_if x ≡ e ∷ [] → x ≡ Some e
  one_event (Some y) e is = let same : y ≡ e = cc in ap Some same
  one_event None e is = absurd cc

  no_event : (x : Option MidiEvent) → events_if x ≡ [] → x ≡ None
  no_event (Some y) is = absurd cc
  no_event None is = refl

  pub state_here : (z k : ℕ) (e : MidiEvent) → ComesAt es k e → k < length es → nat_eq (at k e) z ≡ true
      → (let n : Numbered = record { position = suc k; event = e } in
      state o table es plan z (suc k) ≡ next_zoned o table (zones z) (runs_on o table es channel z) (state o table es plan z k) n)
  state_here z k e comes low here =
      let rising = (kit.facts.timed z es h.in_order).ascend in
      ap (zoned_next o table (zones z) (runs_on o table es channel z) k (state o table es plan z k))
      (one_event (port_event (of_port z es) (suc k)) e
      (sym (event_is 0 (of_port z es) rising (suc k)) ∙ event_here z k e comes low ∙ ap (λ b. cond b (e ∷ []) []) here))

  pub state_other : (z k : ℕ) (e : MidiEvent) → ComesAt es k e → k < length es → nat_eq (at k e) z ≡ false
      → state o table es plan z (suc k) ≡ state o table es plan z k
  state_other z k e comes low other =
      let rising = (kit.facts.timed z es h.in_order).ascend in
      ap (zoned_next o table (zones z) (runs_on o table es channel z) k (state o table es plan z k))
      (no_event (port_event (of_port z es) (suc k))
      (sym (event_is 0 (of_port z es) rising (suc k)) ∙ event_here z k e comes low ∙ ap (λ b. cond b (e ∷ []) []) other))
