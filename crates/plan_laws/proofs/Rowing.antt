-- A used row of a port, from one position to the next.
use Rattle.std.proofs.Common.{◌≡◌, ◌≤◌, ◌<◌, ◌⊎◌, ℕ, zero, suc, List, [], ◌∷◌, Bool, true, false, cond, ◌&&◌, not, Option, Some, None, length, map, take, refl, sym, ap, ◌∙◌, subst, nat_lt, arith, inl, inr}
use Rattle.std.specs.Set.{is_member}
use Rattle.std.proofs.lemmas.Bool.{cases_lt, both_ways, and_from, and_parts, or_cases, or_left, ltb-true, false_from_ne_true}
use Rattle.std.proofs.lemmas.List.{length-map, length-set, get_or-map}
use Rattle.mt_base.specs.Midi.{MidiEvent}
use Rattle.midi_model.specs.Channel.{State, default_state}
use Rattle.midi_model.specs.Bring.{bring}
use Rattle.midi_model.specs.Music.{play}
use Rattle.midi_model.specs.Receiver.{Receiver, start, receive, receive_all, after}
use Rattle.retune_model.specs.Options.{Options, restless}
use Rattle.retune_model.specs.Ports.{port_at, of_port, events_on, music_at, is_reset_at}
use Rattle.retune_model.specs.PortLaws.{MusicAtAPosition}
use Rattle.retune_model.specs.Faults.{Targets, is_part, is_bend}
use Rattle.retune_model.specs.Pairs.{Pair, is_same_pair}
use Rattle.retune_model.specs.Rests.{begun_at, IsAimedPort}
use Rattle.retune_model.specs.RestLaws.{OneRunBegins, ResetsEndAll, BegunIsThere, HeldOrBegun, HeldWasThere}
use Rattle.retune_model.specs.RunLaws.{PairsAreTold}
use Rattle.retune_model.specs.Runs.{begins}
use Rattle.retune_model.specs.NeedLaws.{NeedHasRoom}
use Rattle.retune_model.specs.FaultLaws.{SoundPortsAreAimed}
use Rattle.retune_model.specs.PortNeed.{pairs_on, IsNeedOf}
use Rattle.channel_model.specs.Choice.{wanted, pair_on, from_state, setup_length, member_setup, TakesBest}
use Rattle.plan_laws.specs.Placing.{Seen, nowhere, seen_at, Has, place_at, AreApart, HasPlaces, stay, or_kept, leave, clear, begun_on, begin_on, IsBestSeen}
use Rattle.plan_laws.specs.PlacingLaws.{AllAreNowhere, TellsLeaving, IsLeftAlone, OnlyBegins}
use Rattle.plan_laws.specs.FromLaws.{member_state, member_from, BendIsLeftAlone, BendIsCleared, BendLeaves, RestsBeforeItLeaves, MemberIsLeftAlone, MemberIsCleared, MemberLeaves, MemberCosts}
use Rattle.plan_laws.specs.Counting.{ComesAt, holds_after, NextIsTaken, PairsAreTaken, HoldingIsThere, PairsAreOwn}
use Rattle.plan_laws.specs.Rows.{needed, keeps_before, leaves_by, sounds_after, keep_if, keep, kept, from_on, cost_on, IsRowAt, IsRowLeft, IsRowOf}
use Rattle.plan_laws.proofs.Placing.{at_first, frees, clears, none_begins, one_begins, best_taken, none_taken, one_free, on_found, on_only, stay_some}

-- the laws that are used
pub record RowKit : Type 0 where
  pub told : PairsAreTold
  pub aimed : SoundPortsAreAimed
  pub runs : OneRunBegins
  pub ends : ResetsEndAll
  pub begun : BegunIsThere
  pub next : HeldOrBegun
  pub was : HeldWasThere
  pub room : NeedHasRoom
  pub music : MusicAtAPosition
  pub taken : NextIsTaken
  pub front : PairsAreTaken
  pub holding : HoldingIsThere
  pub own : PairsAreOwn
  pub alone : BendIsLeftAlone
  pub cleared : BendIsCleared
  pub leaves : BendLeaves
  pub rests : RestsBeforeItLeaves
  pub member_alone : MemberIsLeftAlone
  pub member_cleared : MemberIsCleared
  pub member_leaves : MemberLeaves
  pub member_costs : MemberCosts

received : (r : Receiver) (es : List MidiEvent) → (receive_all r es).music ≡ play r.music es
received r [] = refl
received r (e ∷ es) = received (receive r e) es

-- the music of a port at a position
pub music_there : MusicAtAPosition → (z : ℕ) (es : List MidiEvent) (k : ℕ) → (after (events_on z (take k es))).music ≡ music_at (of_port z es) k
music_there law z es k = received start (events_on z (take k es)) ∙ sym (law z es k)

module _ (kit : RowKit) (o : Options) (part : ℕ → Bool) (table : Targets) (es : List MidiEvent) (z : ℕ) where
  aimed_port : IsRowOf o part table es → IsAimedPort o part table (port_at es z)
  aimed_port of = kit.aimed o part table es z of.parts of.sound

  none_first : IsRowOf o part table es → pairs_on o part table es z 0 ≡ []
  none_first of = (kit.runs o part table (port_at es z) 0 (aimed_port of)).none

  -- ---- the state from which a run is brought

  from_bend : (row : ℕ → ℕ) (c k : ℕ) → is_bend o.route ≡ true → from_on o part table es z row c k ≡ from_state o table (port_at es z) row c k
  from_bend row c k e = ap (λ b. cond b (from_state o table (port_at es z) row c k) (member_from (port_at es z) (pairs_on o part table es z) row c
      k)) e

  from_member : (row : ℕ → ℕ) (c k : ℕ) → is_bend o.route ≡ false → from_on o part table es z row c k ≡ member_from (port_at es z) (pairs_on o part
      table es z) row c k
  from_member row c k e = ap (λ b. cond b (from_state o table (port_at es z) row c k) (member_from (port_at es z) (pairs_on o part table es z) row
      c k)) e

  from_first : (row : ℕ → ℕ) (c : ℕ) → from_on o part table es z row c 0 ≡ default_state
  from_first row c = pick (is_bend o.route) refl
    where
      pick : (b : Bool) → is_bend o.route ≡ b → from_on o part table es z row c 0 ≡ default_state
      pick true e = from_bend row c 0 e
      pick false e = from_member row c 0 e

  alone : (row : ℕ → ℕ) (k : ℕ) → IsRowOf o part table es → is_reset_at (of_port z es) (suc k) ≡ false
      → IsLeftAlone (pairs_on o part table es z) row (from_on o part table es z row) k
  alone row k of r c h = pick (is_bend o.route) refl
    where
      pick : (b : Bool) → is_bend o.route ≡ b → from_on o part table es z row c (suc k) ≡ from_on o part table es z row c k
      pick true e = from_bend row c (suc k) e ∙ kit.alone o table (port_at es z) row k r c (subst (λ q. pair_on (pairs_on o q table es z) row c
          (suc k) ≡ None) (of.all e) h) ∙ sym (from_bend row c k e)
      pick false e = from_member row c (suc k) e ∙ kit.member_alone (port_at es z) (pairs_on o part table es z) row k r c h
          ∙ sym (from_member row c k e)

  cleared : (row : ℕ → ℕ) (k c : ℕ) → is_reset_at (of_port z es) (suc k) ≡ true → from_on o part table es z row c (suc k) ≡ default_state
  cleared row k c r = pick (is_bend o.route) refl
    where
      pick : (b : Bool) → is_bend o.route ≡ b → from_on o part table es z row c (suc k) ≡ default_state
      pick true e = from_bend row c (suc k) e ∙ kit.cleared o table (port_at es z) row k c r
      pick false e = from_member row c (suc k) e ∙ kit.member_cleared (port_at es z) (pairs_on o part table es z) row k c r (kit.ends o part table
          (port_at es z) k r)

  needed_bend : (fs : List MidiEvent) (p : Pair) → is_bend o.route ≡ true → needed o table fs p ≡ wanted o table (after (events_on p.part.port
      fs)).music p
  needed_bend fs p e = ap (λ b. cond b (wanted o table (after (events_on p.part.port fs)).music p) (member_state p)) e

  needed_member : (fs : List MidiEvent) (p : Pair) → is_bend o.route ≡ false → needed o table fs p ≡ member_state p
  needed_member fs p e = ap (λ b. cond b (wanted o table (after (events_on p.part.port fs)).music p) (member_state p)) e

  -- of a pair of this port
  needed_there : (k : ℕ) (p : Pair) → p.part.port ≡ z → is_bend o.route ≡ true → needed o table (take k es) p ≡ wanted o table (music_at (of_port z
      es) k) p
  needed_there k p port e =
      needed_bend (take k es) p e
      ∙ ap (λ y. wanted o table (after (events_on y (take k es))).music p) port
      ∙ ap (λ m. wanted o table m p) (music_there kit.music z es k)

  costs : (row : ℕ → ℕ) (k d : ℕ) (p : Pair) → p.part.port ≡ z
      → cost_on o part table es z row p d k ≡ length (bring 0 (from_on o part table es z row d k) (needed o table (take (suc k) es) p))
  costs row k d p port = pick (is_bend o.route) refl
    where
      Cost : Bool → Type 0
      Cost b = cond b (setup_length o table (port_at es z) row p d k) (member_setup (port_at es z) (pairs_on o part table es z) row p d k)
          ≡ length (bring 0 (from_on o part table es z row d k) (needed o table (take (suc k) es) p))

      pick : (b : Bool) → is_bend o.route ≡ b → Cost (is_bend o.route)
      pick true e = subst Cost (sym e) (sym (ap (λ s. length (bring 0 s (needed o table (take (suc k) es) p))) (from_bend row d k e)
          ∙ ap (λ s. length (bring 0 (from_state o table (port_at es z) row d k) s)) (needed_there (suc k) p port e)))
      pick false e = subst Cost (sym e) (kit.member_costs (port_at es z) (pairs_on o part table es z) row k d p
          ∙ sym (ap (λ s. length (bring 0 s (needed o table (take (suc k) es) p))) (from_member row d k e)
          ∙ ap (λ s. length (bring 0 (member_from (port_at es z) (pairs_on o part table es z) row d k) s)) (needed_member (take (suc k) es) p e)))

-- ---- states that are kept before an event

keep_same : (sounds : Pair → Bool) (needs : Pair → State) (x : Option Pair) (s : Seen)
    → ((keep_if sounds needs x s).pair ≡ s.pair) × ((keep_if sounds needs x s).since ≡ s.since)
keep_same sounds needs None s = (refl, refl)
keep_same sounds needs (Some p) s = pick (sounds p)
  where
    pick : (b : Bool) → ((cond b s (record { pair = s.pair; left = needs p; since = s.since })).pair ≡ s.pair) × ((cond b s (record {
      pair =
          s.pair;
      left = needs p;
      since = s.since;
    })).since ≡ s.since)
    pick true = (refl, refl)
    pick false = (refl, refl)

kept_places : (at : ℕ → List Pair) (row : ℕ → ℕ) (from : ℕ → ℕ → State) (k : ℕ) (ss : List Seen) (sounds : Pair → Bool) (needs : Pair → State)
    → HasPlaces at row from k ss → HasPlaces at row from k (map (keep sounds needs) ss)
kept_places at row from k ss sounds needs has = record {
  runs = subst (λ n. AreApart at row n k) (sym long) has.runs;
  on = λ c l. pair c (less c l) ∙ has.on c (less c l);
  since = λ c l h. ap (λ s. s.since) (there c (less c l)) ∙ (keep_same sounds needs (seen_at ss c).pair (seen_at ss c)).1
      ∙ has.since c (less c l) (sym (pair c (less c l)) ∙ h);
  left = λ c l h.
      let none : (seen_at ss c).pair ≡ None = sym (pair c (less c l)) ∙ h in
      ap (λ s. s.left) (there c (less c l)) ∙ ap (λ x. (keep_if sounds needs x (seen_at ss c)).left) none ∙ has.left c (less c l) none;
}
  where
    long : length (map (keep sounds needs) ss) ≡ length ss
    long = length-map ss (keep sounds needs)

    less : (c : ℕ) → c < length (map (keep sounds needs) ss) → c < length ss
    less c l = omega (arith, l, long)

    there : (c : ℕ) → c < length ss → seen_at (map (keep sounds needs) ss) c ≡ keep sounds needs (seen_at ss c)
    there c l = get_or-map (keep sounds needs) ss c nowhere nowhere l

    pair : (c : ℕ) → c < length ss → (seen_at (map (keep sounds needs) ss) c).pair ≡ (seen_at ss c).pair
    pair c l = ap (λ s. s.pair) (there c l) ∙ (keep_same sounds needs (seen_at ss c).pair (seen_at ss c)).0

-- ---- a row

leave_by : (o : Options) (table : Targets) (fs : List MidiEvent) (p : Pair) → keeps_before o ≡ false
    → leaves_by o table fs p ≡ Some (needed o table fs p)
leave_by o table fs p e = ap (λ b. cond b None (Some (needed o table fs p))) e

leave_kept : (o : Options) (table : Targets) (fs : List MidiEvent) (p : Pair) → keeps_before o ≡ true → leaves_by o table fs p ≡ None
leave_kept o table fs p e = ap (λ b. cond b None (Some (needed o table fs p))) e

seen_none : (ss : List Seen) (c : ℕ) → length ss ≤ c → seen_at ss c ≡ nowhere
seen_none [] c l = refl
seen_none (s ∷ ss) zero l = absurd (omega (arith, l))
seen_none (s ∷ ss) (suc c) l = seen_none ss c (omega (arith, l))

seen_within : (ss : List Seen) (c : ℕ) (p : Pair) → (seen_at ss c).pair ≡ Some p → c < length ss
seen_within ss c p h = elim (cases_lt c (length ss)) [
  | inl l ↦ l
  | inr l ↦ (let e : None ≡ Some p = sym (ap (λ s. s.pair) (seen_none ss c l)) ∙ h in absurd cc)
]

stay_back : (ps : List Pair) (x : Option Pair) (p : Pair) → stay ps x ≡ Some p → (x ≡ Some p) × Has ps p
stay_back ps None p h = absurd cc
stay_back ps (Some q) p h = pick (is_member is_same_pair ps q) refl h
  where
    pick : (b : Bool) → is_member is_same_pair ps q ≡ b → cond b (Some q) None ≡ Some p → (Some q ≡ Some p) × Has ps p
    pick true e g = (let same : q ≡ p = cc in (g, subst (Has ps) same e))
    pick false e g = absurd cc

one_member : PairsAreTold → (p q : Pair) → is_member is_same_pair (p ∷ []) q ≡ true → q ≡ p
one_member told p q h = elim (or_cases (is_same_pair q p) false h) [ inl e ↦ (told q p).0 e | inr e ↦ absurd (both_ways false refl e) ]

module _ (kit : RowKit) (o : Options) (part : ℕ → Bool) (table : Targets) (es : List MidiEvent) (z : ℕ) where
  abbrev sets : ℕ → List Pair
  sets = pairs_on o part table es z

  abbrev price : (ℕ → ℕ) → Pair → ℕ → ℕ → ℕ
  price row = cost_on o part table es z row

  pub row_first : (row : ℕ → ℕ) (ss : List Seen) → IsRowOf o part table es → AllAreNowhere ss → IsRowAt o part table es z row 0 ss
  row_first row ss of nothing = record {
    places = at_first sets row (from_on o part table es z row) ss (none_first kit o part table es z of) (from_first kit o part table es z row)
        nothing;
    takes = record {
      within = λ k p l b. absurd (omega (arith, l));
      free = λ k p l b. absurd (omega (arith, l));
      best = λ k p c l b. absurd (omega
          (arith, l));
    };
  }

  -- before an event what is kept of places changes in their states alone
  kept_row : (row : ℕ → ℕ) (k : ℕ) (ss : List Seen) → IsRowAt o part table es z row k ss
      → HasPlaces sets row (from_on o part table es z row) k (kept o table (take k es) ss) × (length (kept o table (take k es) ss) ≡ length ss)
  kept_row row k ss is = pick (keeps_before o)
    where
      sounds : Pair → Bool
      sounds = sounds_after o table (take k es)

      needs : Pair → State
      needs = needed o table (take k es)

      pick : (b : Bool) → HasPlaces sets row (from_on o part table es z row) k (cond b (map (keep sounds needs) ss) ss) × (length (cond b (map
          (keep sounds needs) ss) ss) ≡ length ss)
      pick true = (kept_places sets row (from_on o part table es z row) k ss sounds needs is.places, length-map ss (keep sounds needs))
      pick false = (is.places, refl)

  pub row_parts : (row : ℕ → ℕ) (k : ℕ) (ss : List Seen) (c : ℕ) (p : Pair) → IsRowOf o part table es → IsRowAt o part table es z row k ss
      → (seen_at ss c).pair ≡ Some p
      → (part p.part.channel ≡ true) × (p.part.port ≡ z)
  row_parts row k ss c p of is h =
      let m = (on_found kit.told (place_at sets row k) c (sets k) p (sym (is.places.on c (seen_within ss c p h)) ∙ h)).0 in
      let own = kit.own o part table es z k p of.parts of.sound m in
      (own.1, own.0)

  -- the state in which a pair leaves
  tells : (row : ℕ → ℕ) (k : ℕ) (e : MidiEvent) (ss : List Seen) → IsRowOf o part table es → ComesAt es k e → IsRowAt o part table es z row k ss
      → is_reset_at (of_port z es) (suc k) ≡ false
      → TellsLeaving sets row (from_on o part table es z row) k (kept o table (take k es) ss) (holds_after o table (take (suc k) es)) (leaves_by o
      table (take (suc k) es))
  tells row k e_ ss of comes is r = record {
    stays = λ p h.
        let own = kit.own o part table es z k p of.parts of.sound h in
        let there = (kit.taken es k e_ comes).2 in
        kit.holding o part table es (suc k) p of.parts of.sound.in_order (omega (arith, there)) own.1
        ∙ ap (λ y. is_member is_same_pair (pairs_on o part table es y (suc k)) p) own.0;
    left = λ c p l on gone. by_route c p l on gone (is_bend o.route) refl;
  }
    where
      own_port : (c : ℕ) (p : Pair) → pair_on sets row c k ≡ Some p → p.part.port ≡ z
      own_port c p on = (kit.own o part table es z k p of.parts of.sound (on_found kit.told (place_at sets row k) c (sets k) p on).0).0

      From : ℕ → Pair → State → Type 0
      From c p s = or_kept s (leaves_by o table (take (suc k) es) p) ≡ from_on o part table es z row c k

      by_route : (c : ℕ) (p : Pair) → c < length (kept o table (take k es) ss) → pair_on sets row c k ≡ Some p
          → is_member is_same_pair (sets (suc k)) p ≡ false
          → (b : Bool) → is_bend o.route ≡ b → From c p (seen_at (kept o table (take k es) ss) c).left
      by_route c p l on gone false e =
          let none : keeps_before o ≡ false = ap (λ b. b && nat_lt 0 o.tail) e in
          ap (or_kept (seen_at (kept o table (take k es) ss) c).left) (leave_by o table (take (suc k) es) p none
          ∙ ap Some (needed_member kit o part table es z (take (suc k) es) p e))
          ∙ sym (from_member kit o part table es z row c k e ∙ kit.member_leaves (port_at es z) sets row k c p (none_first kit o part table es z
          of) on)
      by_route c p l on gone true e = by_tail (nat_lt 0 o.tail) refl
        where
          is_all : part ≡ is_part o
          is_all = of.all e

          left : from_on o part table es z row c k ≡ wanted o table (music_at (of_port z es) (cond (nat_lt 0 o.tail) k (suc k))) p
          left = from_bend kit o part table es z row c k e
              ∙ kit.leaves o table (port_at es z) row k c p (subst (λ q. IsAimedPort o q table (port_at es z)) is_all (aimed_port kit o part table
              es z of)) r
              (subst (λ q. pair_on (pairs_on o q table es z) row c k ≡ Some p) is_all on)
              (subst (λ q. is_member is_same_pair (pairs_on o q table es z (suc k)) p ≡ false) is_all gone)

          by_tail : (t : Bool) → nat_lt 0 o.tail ≡ t → From c p (seen_at (kept o table (take k es) ss) c).left
          by_tail false f =
              let none : keeps_before o ≡ false = ap (λ b. b && nat_lt 0 o.tail) e ∙ f in
              ap (or_kept (seen_at (kept o table (take k es) ss) c).left) (leave_by o table (take (suc k) es) p none
              ∙ ap Some (needed_there kit o part table es z (suc k) p (own_port c p on) e))
              ∙ sym (left ∙ ap (λ b. wanted o table (music_at (of_port z es) (cond b k (suc k))) p) f)
          by_tail true f =
              let some : keeps_before o ≡ true = ap (λ b. b && nat_lt 0 o.tail) e ∙ f in
              ap (or_kept (seen_at (kept o table (take k es) ss) c).left) (leave_kept o table (take (suc k) es) p some)
              ∙ was some f
              ∙ sym (left ∙ ap (λ b. wanted o table (music_at (of_port z es) (cond b k (suc k))) p) f)
            where
              sounds : Pair → Bool
              sounds = sounds_after o table (take k es)

              needs : Pair → State
              needs = needed o table (take k es)

              was : keeps_before o ≡ true → nat_lt 0 o.tail ≡ true → (seen_at (kept o table (take k es) ss) c).left ≡ wanted o table (music_at
                  (of_port z es) k) p
              was some g =
                  let m : c < length ss = (let long = (kept_row row k ss is).1 in omega (arith, l, long)) in
                  let here : (seen_at ss c).pair ≡ Some p = is.places.on c m ∙ on in
                  let aimed : IsAimedPort o part table (port_at es z) = aimed_port kit o part table es z of in
                  let silent : sounds p ≡ false =
                  ap (λ n. is_member is_same_pair (pairs_on (restless o) (is_part o) table (take k es) p.part.port n) p) (taken_length)
                  ∙ ap (λ ps. is_member is_same_pair ps p) (kit.front (restless o) (is_part o) table es p.part.port k k (omega arith) (omega
                  (arith, there)))
                  ∙ ap (λ y. is_member is_same_pair (pairs_on (restless o) (is_part o) table es y k) p) (own_port c p on)
                  ∙ subst (λ q. is_member is_same_pair (pairs_on (restless o) q table es z k) p ≡ false) is_all (kit.rests o part table
                  (port_at es z) k p aimed (ltb-true 0 o.tail g) r gone) in
                  ap (λ b. (seen_at (cond b (map (keep sounds needs) ss) ss) c).left) some
                  ∙ ap (λ s. s.left) (get_or-map (keep sounds needs) ss c nowhere nowhere m)
                  ∙ ap (λ x. (keep_if sounds needs x (seen_at ss c)).left) here
                  ∙ ap (λ b. (cond b (seen_at ss c) (record { pair = (seen_at ss c).pair; left = needs p; since = (seen_at ss c).since })).left)
                  silent
                  ∙ needed_there kit o part table es z k p (own_port c p on) e
                where
                  there : k < length es
                  there = (kit.taken es k e_ comes).2

                  taken_length : length (take k es) ≡ k
                  taken_length = (kit.taken es k e_ comes).1

  pub row_leaves : (row : ℕ → ℕ) (k : ℕ) (e : MidiEvent) (ss : List Seen) → IsRowOf o part table es → ComesAt es k e
      → IsRowAt o part table es z row k ss → is_reset_at (of_port z es) (suc k) ≡ false
      → IsRowLeft o part table es z row k (map (leave (holds_after o table (take (suc k) es)) (leaves_by o table (take (suc k) es)) (suc k)) (kept
      o table (take k es) ss))
  row_leaves row k e ss of comes is r = record {
    places = frees kit.told sets row (from_on o part table es z row) k (kept o table (take k es) ss) (holds_after o table (take (suc k) es))
        (leaves_by o table (take (suc k) es))
        (none_first kit o part table es z of) (kept_row row k ss is).0 (tells row k e ss of comes is r);
    takes = subst (λ n. TakesBest sets k n (price row) row)
        (sym (length-map (kept o table (take k es) ss) (leave (holds_after o table (take (suc k) es)) (leaves_by o table (take (suc k) es)) (suc
        k)) ∙ (kept_row row k ss is).1)) is.takes;
  }

  pub row_cleared : (row : ℕ → ℕ) (k : ℕ) (ss : List Seen) → IsRowOf o part table es → IsRowAt o part table es z row k ss
      → is_reset_at (of_port z es) (suc k) ≡ true
      → IsRowAt o part table es z row (suc k) (map (clear (suc k)) (kept o table (take k es) ss))
  row_cleared row k ss of is r =
      let none : sets (suc k) ≡ [] = kit.ends o part table (port_at es z) k r in
      record {
        places = clears kit.told sets row (from_on o part table es z row) k (kept o table (take k es) ss) (none_first kit o part table es z of)
            (kept_row row k ss is).0 none
            (λ c. cleared kit o part table es z row k c r);
        takes = subst (λ n. TakesBest sets (suc k) n (price row) row) (sym (length-map (kept o table (take k es) ss) (clear (suc k))
            ∙ (kept_row row k ss is).1))
            (none_taken sets row k (length ss) (price row) is.takes (λ p h. absurd (both_ways false refl (ap (λ ps. is_member is_same_pair ps p)
            (sym none) ∙ h))));
      }

  -- what is there after an event was there before it, but for the pair that it begins
  news : (k : ℕ) (p : Pair) (bs : List Pair) → IsRowOf o part table es → begun_at o part table (port_at es z) (suc k) ≡ bs → Has (sets (suc k)) p
      → Has (sets k) p ⊎ Has bs p
  news k p bs of begun h = elim (kit.next o part table (port_at es z) (aimed_port kit o part table es z of) k p h) [
    | inl held ↦ inl (kit.was o part table (port_at es z) (aimed_port kit o part table es z of) k p held)
    | inr new ↦ inr (ap (λ ps. is_member is_same_pair ps p) (sym begun) ∙ new)
  ]

  pub row_stays : (row : ℕ → ℕ) (k : ℕ) (ss : List Seen) → IsRowOf o part table es → IsRowLeft o part table es z row k ss
      → is_reset_at (of_port z es) (suc k) ≡ false
      → begun_at o part table (port_at es z) (suc k) ≡ [] → IsRowAt o part table es z row (suc k) ss
  row_stays row k ss of left r begun =
      let old : (p : Pair) → Has (sets (suc k)) p → Has (sets k) p = λ p h. elim (news k p [] of begun h) [
        | inl was ↦ was
        | inr new ↦ absurd
            (both_ways false refl new)
      ] in
      record {
        places = none_begins kit.told sets row (from_on o part table es z row) k ss left.places old (alone kit o part table es z row k of r);
        takes = none_taken sets row k (length ss) (price row) left.takes old;
      }

  pub row_goes_on : (row : ℕ → ℕ) (k : ℕ) (ss : List Seen) (p : Pair) (c : ℕ) → IsRowOf o part table es → IsRowLeft o part table es z row k ss
      → is_reset_at (of_port z es) (suc k) ≡ false
      → begun_at o part table (port_at es z) (suc k) ≡ p ∷ [] → (seen_at ss c).pair ≡ Some p → IsRowAt o part table es z row (suc k) ss
  row_goes_on row k ss p c of left r begun here =
      let back = stay_back (sets (suc k)) (pair_on sets row c k) p (sym (left.places.on c (seen_within ss c p here)) ∙ here) in
      let there : Has (sets k) p = (on_found kit.told (place_at sets row k) c (sets k) p back.0).0 in
      let old : (q : Pair) → Has (sets (suc k)) q → Has (sets k) q = λ q h. elim (news k q (p ∷ []) of begun h) [
        | inl was ↦ was
        | inr new ↦ subst
            (Has (sets k)) (sym (one_member kit.told p q new)) there
      ] in
      record {
        places = none_begins kit.told sets row (from_on o part table es z row) k ss left.places old (alone kit o part table es z row k of r);
        takes = none_taken sets row k (length ss) (price row) left.takes old;
      }

  only_begins : (row : ℕ → ℕ) (k : ℕ) (ss : List Seen) (p : Pair) → IsRowOf o part table es → IsRowLeft o part table es z row k ss
      → begun_at o part table (port_at es z) (suc k) ≡ p ∷ [] → ((d : ℕ) → (seen_at ss d).pair ≡ Some p → ⊥) → OnlyBegins sets k p
  only_begins row k ss p of left begun nowhere_ = record {
    here = and_from (is_member is_same_pair (sets (suc k)) p) (not (is_member is_same_pair (sets k) p)) new (ap not was_not);
    only = λ q h. elim (news k q (p ∷ []) of begun h) [ inl was ↦ inl was | inr g ↦ inr (one_member kit.told p q g) ];
  }
    where
      new : Has (sets (suc k)) p
      new = kit.begun o part table (port_at es z) (aimed_port kit o part table es z of) k p
          (ap (λ ps. is_member is_same_pair ps p) begun ∙ or_left (is_same_pair p p) false ((kit.told p p).1 refl))

      was_not : is_member is_same_pair (sets k) p ≡ false
      was_not = false_from_ne_true (is_member is_same_pair (sets k) p) (λ h.
          let c : ℕ = place_at sets row k p in
          let on : pair_on sets row c k ≡ Some p = on_only kit.told (place_at sets row k) c (sets k) p h refl (λ q m s. left.places.runs.apart q p
          m h s) in
          nowhere_ c (left.places.on c (left.places.runs.within p h) ∙ ap (stay (sets (suc k))) on ∙ stay_some (sets (suc k)) p new))

  pub row_takes : (row : ℕ → ℕ) (k : ℕ) (e : MidiEvent) (ss : List Seen) (p : Pair) (c : ℕ) → IsRowOf o part table es → ComesAt es k e
      → IsRowLeft o part table es z row k ss
      → is_reset_at (of_port z es) (suc k) ≡ false → begun_at o part table (port_at es z) (suc k) ≡ p ∷ [] → ((d : ℕ)
      → (seen_at ss d).pair ≡ Some p → ⊥)
      → IsBestSeen ss (needed o table (take (suc k) es) p) c → row (suc k) ≡ c → IsRowAt o part table es z row (suc k) (begin_on ss c p)
  row_takes row k e ss p c of comes left r begun none_has best to =
      let news_ = only_begins row k ss p of left begun none_has in
      let new = and_parts (is_member is_same_pair (sets (suc k)) p) (not (is_member is_same_pair (sets k) p)) news_.here in
      let own = kit.own o part table es z (suc k) p of.parts of.sound new.0 in
      record {
        places = one_begins kit.told sets row (from_on o part table es z row) k ss p c left.places news_ best.within best.free to (alone kit o part
            table es z row k of r);
        takes = subst (λ n. TakesBest sets (suc k) n (price row) row) (sym (length-set ss c (begun_on p (seen_at ss c))))
            (best_taken kit.told sets row (from_on o part table es z row) k ss p c (needed o table (take (suc k) es) p) (price row) left.takes
            left.places news_ best to
            (λ d. costs kit o part table es z row k d p own.0));
      }

  pub row_room : (row : ℕ → ℕ) (k : ℕ) (e : MidiEvent) (ss : List Seen) (p : Pair) (instant : ℕ) → IsRowOf o part table es → ComesAt es k e
      → IsRowLeft o part table es z row k ss
      → begun_at o part table (port_at es z) (suc k) ≡ p ∷ [] → ((d : ℕ) → (seen_at ss d).pair ≡ Some p → ⊥)
      → IsNeedOf o part table es z (length ss) instant
      → (c : ℕ) × (c < length ss) × ((seen_at ss c).pair ≡ None)
  row_room row k e ss p instant of comes left begun none_has need =
      one_free kit.told sets row (from_on o part table es z row) k ss left.places
      (kit.room o part table es z (length ss) instant row k p need (kit.taken es k e comes).2 (only_begins row k ss p of left begun none_has).here)

  pub row_has : (row : ℕ → ℕ) (k : ℕ) (ss : List Seen) (c : ℕ) (p : Pair) → IsRowAt o part table es z row k ss → (seen_at ss c).pair ≡ Some p
      → Has (sets k) p × (place_at sets row k p ≡ c)
  row_has row k ss c p is h = on_found kit.told (place_at sets row k) c (sets k) p (sym (is.places.on c (seen_within ss c p h)) ∙ h)

  pub row_keeps : (row : ℕ → ℕ) (k : ℕ) (ss : List Seen) (c : ℕ) (p : Pair) → IsRowLeft o part table es z row k ss
      → (seen_at ss c).pair ≡ Some p → Has (sets k) p × (place_at sets row k p ≡ c)
  row_keeps row k ss c p left h = on_found kit.told (place_at sets row k) c (sets k) p
      (stay_back (sets (suc k)) (pair_on sets row c k) p (sym (left.places.on c (seen_within ss c p h)) ∙ h)).0

  pub row_begins : (row : ℕ → ℕ) (k : ℕ) (ss : List Seen) (p : Pair) → IsRowOf o part table es → IsRowLeft o part table es z row k ss
      → begun_at o part table (port_at es z) (suc k) ≡ p ∷ [] → ((d : ℕ) → (seen_at ss d).pair ≡ Some p → ⊥)
      → begins is_same_pair sets k p ≡ true
  row_begins row k ss p of left begun none_has = (only_begins row k ss p of left begun none_has).here
