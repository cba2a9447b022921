-- A port before a message of a part, and after it.
use Rattle.std.proofs.Common.{◌≡◌, ◌<◌, ◌&&◌, ℕ, pos, suc, Bool, true, false, cond, nat_eq, List, [], get_or, map, slice_index, refl, ap, sym, ◌∙◌, subst}
use Rattle.std.specs.Set.{is_member}
use Rattle.std.proofs.lemmas.Bool.{and_parts, and_from, eq-eqb}
use Rattle.mt_base.specs.declared.event.Msg.{Msg}
use Rattle.mt_base.specs.declared.event.Msg.TheVariants.{NoteOn, NoteOff, KeyPressure, Control, Program, Pressure, Bend}
use Rattle.mt_base.specs.Midi.{MidiEvent, Says, channel_of}
use Rattle.midi_model.specs.Sysex.{doing}
use Rattle.midi_model.specs.Channel.{Channel, State, default_state, apply, controlled, Role, Stored, EntryHigh, EntryLow, NrpnLow, NrpnHigh, RpnLow, RpnHigh, AllSoundOff, ResetControllers, AllNotesOff, Ignored, role}
use Rattle.midi_model.specs.Music.{Music, state_at, step}
use Rattle.retune_model.specs.Dump.{from_up}
use Rattle.retune_model.specs.Options.{Options}
use Rattle.retune_model.specs.Faults.{Targets, int_eq}
use Rattle.retune_model.specs.Pairs.{Pair, is_same_pair}
use Rattle.retune_model.specs.Ports.{Numbered, resets}
use Rattle.channel_model.specs.Choice.{wanted}
use Rattle.channel_model.specs.BendOutput.{PortRuns, Held, held_by, bring_all, send_all, controller_causes}
use Rattle.state_laws.specs.Reached.{IgnoresTheSelections}
use Rattle.bend_laws.specs.Brought.{IsSameAside}
use Rattle.bend_laws.specs.Follows.{Has}
use Rattle.bend_laws.specs.Moments.{Moment, Both, moment}
use Rattle.bend_laws.specs.Positions.{both_at}
use Rattle.bend_laws.specs.Simulation.{IsState}
use Rattle.bend_laws.proofs.Altered.{same_aside}
use Rattle.bend_laws.proofs.Stepping.{Quiet}
use Rattle.receiver.specs.Notes.{has}
use Rattle.receiver.specs.State.{state_of}
use Rattle.route_bend.specs.Channels.{is_given, is_on, steps_in, state_in, pair_on, Leaves, Renews}
use Rattle.route_bend.specs.Sent.{brought, sent}
use Rattle.route_bend.specs.Standing.{ChannelsStand, IsExact, AreRenewed, IsPrepared, caused, releases, is_note, strikes}
use Rattle.route_bend.specs.Preparing.{used_for}
use Rattle.route_bend.specs.Turning.{IsTurn}
use Rattle.route_bend.specs.declared.port.Use.{Use}
use Rattle.route_bend.specs.declared.port.Use.TheVariants.{Notes, Nothing, State as OfState}
use Rattle.route_bend.specs.declared.channels.Channels.{Channels}
use Rattle.route_bend.proofs.Owning.{others_stay, all_stay}
use Rattle.route_bend.proofs.Speaking.{on_given, on_pair, given_on, on_before, same_pair_on, brought_stands, left_stands, brought_sent, sent_sent}
use Rattle.route_bend.proofs.Everywhere.{says_quiet}

-- ---- before the event

module _ (o : Options) (table : Targets) (used : ℕ → Bool) (plan : PortRuns) (ns : List Numbered) (k : ℕ) (e : MidiEvent)
    (t : IsTurn o table used plan ns k e) (part : ℕ) (s x : Channels) (stays : Pair → Bool)
    (stands : ChannelsStand o table used plan ns k s) (leaves : Leaves stays part s x)
    (holds : (p : Pair) → p.part.port ≡ plan.number → stays p ≡ is_member is_same_pair (plan.pairs k) p) where
  abbrev pub b : Both
  b = both_at o table plan ns k

  there_on : (p : Pair) → Has (plan.pairs k) p → is_on x p (plan.channel k p) ≡ true
  there_on p i =
      let c : ℕ = plan.channel k p in
      let low : c < 16 = t.row.channel c (t.sound.used_was p i) in
      let on : is_on s p c ≡ true = stands.on p i in
      and_from (is_given x p.part.channel c) (int_eq (steps_in x c) p.steps)
      (leaves.given p.part.channel c low ∙ pick (nat_eq p.part.channel part) c on (stands.port ∙ sym (t.sound.ports_was p i)))
      (ap (λ l. int_eq (get_or l c (pos 0)) p.steps) leaves.steps ∙ (and_parts (is_given s p.part.channel c) (int_eq (steps_in s c) p.steps) on).1)
    where
      pick : (r : Bool) (c : ℕ) → is_on s p c ≡ true → s.port ≡ p.part.port →
          cond r (is_given s p.part.channel c && stays (pair_on s p.part.channel c)) (is_given s p.part.channel c) ≡ true
      pick true c on port = and_from (is_given s p.part.channel c) (stays (pair_on s p.part.channel c)) (on_given s p c on)
          (ap stays (on_pair s p c port on) ∙ holds p (t.sound.ports_was p i) ∙ i)
      pick false c on port = on_given s p c on

  pub left_now : ChannelsStand o table used plan ns k x
  left_now = record {
    port = leaves.kept.port ∙ stands.port;
    on = there_on;
    once = λ p c d l m g h. stands.once p c d l m (on_before o table used plan ns k e t part s x stays stands leaves p c l g)
        (on_before o table used plan ns k e t part s x stays stands leaves p d m h);
    own = λ c u. subst (λ r. IsSameAside r (b.left c)) (ap (λ l. (get_or (map state_of l) c default_state).own) (sym leaves.kept.states))
        (stands.own c u);
  }

  pub exact_now : IsExact plan k part x
  exact_now c low g =
      let both = and_parts (is_given s part c) (stays (pair_on s part c)) (ap (λ r. cond r (is_given s part c && stays (pair_on s part c))
      (is_given s part c)) (sym (eq-eqb part part refl)) ∙ sym (leaves.given part c low) ∙ g) in
      subst (λ p. Has (plan.pairs k) p) (sym (same_pair_on o table used plan ns k e t part s x stays stands leaves part c))
      (sym (holds (pair_on s part c) stands.port) ∙ both.1)

module _ (o : Options) (table : Targets) (used : ℕ → Bool) (plan : PortRuns) (ns : List Numbered) (k : ℕ) (e : MidiEvent)
    (t : IsTurn o table used plan ns k e) (part : ℕ) (x y : Channels) (m : Music) (music : m ≡ (both_at o table plan ns k).source)
    (stands : ChannelsStand o table used plan ns k x) (exact : IsExact plan k part x) (renews : Renews (wanted o table m) part x y) where
  abbrev pub bo : Both
  bo = both_at o table plan ns k

  place_of : (c : ℕ) → c < 16 → is_given x part c ≡ true → plan.channel k (pair_on x part c) ≡ c
  place_of c low g =
      let p : Pair = pair_on x part c in
      let i : Has (plan.pairs k) p = exact c low g in
      stands.once p (plan.channel k p) c (t.row.channel (plan.channel k p) (t.sound.used_was p i)) low (stands.on p i) (given_on x part c g)

  state_is : (c : ℕ) → c < 16 → is_given x part c ≡ true → state_in y c ≡ wanted o table bo.source (pair_on x part c)
  state_is c low g = renews.states c low ∙ ap (λ r. cond r (wanted o table m (pair_on x part c)) (state_in x c)) g
      ∙ ap (λ n. wanted o table n (pair_on x part c)) music

  pair_same : (c : ℕ) → pair_on y part c ≡ pair_on x part c
  pair_same c = ap (λ n. let q : Pair = record { part = record { port = n; channel = part }; steps = steps_in y c } in q) renews.kept.port
      ∙ ap (λ l. let q : Pair = record { part = record { port = x.port; channel = part }; steps = get_or l c (pos 0) } in q) renews.kept.steps

  on_same : (p : Pair) (c : ℕ) → is_on y p c ≡ is_on x p c
  on_same p c = ap (λ l. has (slice_index l p.part.channel) c && int_eq (steps_in y c) p.steps) renews.kept.given
      ∙ ap (λ l. has (slice_index x.given p.part.channel) c && int_eq (get_or l c (pos 0)) p.steps) renews.kept.steps

  given_same : (c : ℕ) → is_given y part c ≡ is_given x part c
  given_same c = ap (λ l. has (slice_index l part) c) renews.kept.given

  pub renewed_stands : ChannelsStand o table used plan ns k y
  renewed_stands = record {
    port = renews.kept.port ∙ stands.port;
    on = λ p i. on_same p (plan.channel k p) ∙ stands.on p i;
    once = λ p c d l n g h. stands.once p c d l n (sym (on_same p c) ∙ g) (sym (on_same p d) ∙ h);
    own = λ c u. by_it c u (is_given x part c) refl;
  }
    where
      by_it : (c : ℕ) → used c ≡ true → (r : Bool) → is_given x part c ≡ r → IsSameAside (state_in y c).own (bo.left c)
      by_it c u true g =
          let low : c < 16 = t.row.channel c u in
          let p : Pair = pair_on x part c in
          same_aside (state_in y c).own (bo.left c) (ap (λ r. r.own) (state_is c low g) ∙ sym (t.follows.at_wanted p (exact c low g))
          ∙ ap bo.left (place_of c low g))
      by_it c u false g =
          let low : c < 16 = t.row.channel c u in
          subst (λ r. IsSameAside r (bo.left c)) (ap (λ r. r.own) (sym (renews.states c low ∙ ap (λ r. cond r (wanted o table m (pair_on x part c))
          (state_in x c)) g))) (stands.own c u)

  pub renewed_exact : IsExact plan k part y
  renewed_exact c low g = subst (λ p. Has (plan.pairs k) p) (sym (pair_same c)) (exact c low (sym (given_same c) ∙ g))

  turned : (f g : State) → IsState f g → IsState g f
  turned f g h = record {
    own = record {
      controls = sym h.own.controls;
      params = sym h.own.params;
      voice = sym h.own.voice;
      bend = sym h.own.bend;
      pressure = sym h.own.pressure;
    };
    keys = sym h.keys;
  }

  pub renewed_now : AreRenewed o table plan ns k part y
  renewed_now c low g =
      let h : is_given x part c ≡ true = sym (given_same c) ∙ g in
      let p : Pair = pair_on x part c in
      subst (λ r. IsState r (state_at bo.out c)) (sym (state_is c low h))
      (subst (λ d. IsState (wanted o table bo.source p) (state_at bo.out d)) (place_of c low h)
      (turned (state_at bo.out (plan.channel k p)) (wanted o table bo.source p) (t.shows.there p (exact c low h))))

-- ---- what a controller causes

abbrev pub controlled_by : Use → (bring send : List Msg) → List Msg
controlled_by Notes bring send = send
controlled_by Nothing bring send = []
controlled_by OfState bring send = bring

by_use : (o : Options) (table : Targets) (after out : Music) (hs : List Held) (n v : ℕ) (r : Role) →
    controller_causes o table after out hs n v r ≡ controlled_by (used_for r) (bring_all o table after out hs) (send_all n v hs)
by_use o table after out hs n v Stored = refl
by_use o table after out hs n v EntryHigh = refl
by_use o table after out hs n v EntryLow = refl
by_use o table after out hs n v NrpnLow = refl
by_use o table after out hs n v NrpnHigh = refl
by_use o table after out hs n v RpnLow = refl
by_use o table after out hs n v RpnHigh = refl
by_use o table after out hs n v AllSoundOff = refl
by_use o table after out hs n v ResetControllers = refl
by_use o table after out hs n v AllNotesOff = refl
by_use o table after out hs n v Ignored = refl

-- whether a message is part of the state of its channel
abbrev pub is_of_state : Msg → Use → Type 0
is_of_state (Control c n v) u = used_for (role n) ≡ u
is_of_state m u = u ≡ OfState

use_leaves : (s : Channel) (n v : ℕ) (r : Role) → (used_for r ≡ OfState → ⊥) → controlled s n v r ≡ s
use_leaves s n v Stored h = absurd (h refl)
use_leaves s n v EntryHigh h = absurd (h refl)
use_leaves s n v EntryLow h = absurd (h refl)
use_leaves s n v NrpnLow h = absurd (h refl)
use_leaves s n v NrpnHigh h = absurd (h refl)
use_leaves s n v RpnLow h = absurd (h refl)
use_leaves s n v RpnHigh h = absurd (h refl)
use_leaves s n v AllSoundOff h = refl
use_leaves s n v ResetControllers h = absurd (h refl)
use_leaves s n v AllNotesOff h = refl
use_leaves s n v Ignored h = refl

pub not_struck : (m : Msg) → is_note m ≡ false → strikes m ≡ false
not_struck (NoteOn c j v) h = absurd cc
not_struck (NoteOff c j v) h = absurd cc
not_struck (KeyPressure c j v) h = refl
not_struck (Control c n v) h = refl
not_struck (Program c p) h = refl
not_struck (Pressure c v) h = refl
not_struck (Bend c v) h = refl

pub not_released : (m : Msg) → is_note m ≡ false → releases m ≡ false
not_released (NoteOn c j v) h = absurd cc
not_released (NoteOff c j v) h = absurd cc
not_released (KeyPressure c j v) h = refl
not_released (Control c n v) h = refl
not_released (Program c p) h = refl
not_released (Pressure c v) h = refl
not_released (Bend c v) h = refl

-- ---- after the event

module _ (law : IgnoresTheSelections) (o : Options) (table : Targets) (used : ℕ → Bool) (plan : PortRuns) (ns : List Numbered) (k : ℕ) (e : MidiEvent)
    (t : IsTurn o table used plan ns k e) (m : Msg) (is : e.what ≡ Says m) (plain : is_note m ≡ false) (s x : Channels) (sent0 : List Msg)
    (ready : IsPrepared o table used plan ns k e m s sent0) (stays : Pair → Bool) (leaves : Leaves stays (channel_of m) s x)
    (holds : (p : Pair) → Has (plan.pairs k) p → p.part.channel ≡ channel_of m → ((stays p ≡ true → Has (plan.held (suc k)) p)
    × (Has (plan.held (suc k)) p → stays p ≡ true))) where
  abbrev pub part : ℕ
  part = channel_of m

  abbrev pub w : Moment
  w = moment plan k

  abbrev pub after : Music
  after = step (both_at o table plan ns k).source e

  abbrev pub out : Music
  out = (both_at o table plan ns k).out

  no_reset : resets (doing e.what) ≡ false
  no_reset = ap (λ y. resets (doing y)) is

  still : Quiet w
  still = says_quiet o table used plan ns k e t m is (not_struck m plain)

  exact : IsExact plan k part s
  exact = ready.exact (not_released m plain)

  bring_is : bring_all o table after out (held_by w.old part w.holds) ≡ brought (wanted o table after) x part (from_up 0 16)
  bring_is = brought_sent o table used plan ns k e t part s x stays ready.stands leaves no_reset still holds exact x law (ready.renewed plain)

  send_is : (n v : ℕ) → send_all n v (held_by w.old part w.holds) ≡ sent x part n v (from_up 0 16)
  send_is n v = sent_sent o table used plan ns k e t part s x stays ready.stands leaves no_reset still holds exact x n v

  -- the channels are brought
  pub bring_follows : (y : Channels) → Renews (wanted o table after) part x y → ChannelsStand o table used plan ns (suc k) y
  bring_follows y renews = brought_stands o table used plan ns k e t part s x stays ready.stands leaves no_reset still holds exact y
      (λ d other. others_stay o table used plan ns k e t m is d other) renews

  pub bring_caused : is_of_state m OfState → caused o table plan ns k e m ≡ brought (wanted o table after) x part (from_up 0 16)
  bring_caused h = pick m refl plain h
    where
      pick : (n : Msg) → m ≡ n → is_note n ≡ false → is_of_state n OfState → caused o table plan ns k e m ≡ brought (wanted o table after) x part
          (from_up 0 16)
      pick (NoteOn c j v) same calm g = absurd cc
      pick (NoteOff c j v) same calm g = absurd cc
      pick (KeyPressure c j v) same calm g = ap (caused o table plan ns k e) same ∙ ap (λ d. bring_all o table after out (held_by w.old d w.holds))
          (sym (ap channel_of same)) ∙ bring_is
      pick (Control c n v) same calm g = ap (caused o table plan ns k e) same ∙ by_use o table after out (held_by w.old c w.holds) n v (role n)
          ∙ ap (λ u. controlled_by u (bring_all o table after out (held_by w.old c w.holds)) (send_all n v (held_by w.old c w.holds))) g
          ∙ ap (λ d. bring_all o table after out (held_by w.old d w.holds)) (sym (ap channel_of same)) ∙ bring_is
      pick (Program c p) same calm g = ap (caused o table plan ns k e) same ∙ ap (λ d. bring_all o table after out (held_by w.old d w.holds))
          (sym (ap channel_of same)) ∙ bring_is
      pick (Pressure c v) same calm g = ap (caused o table plan ns k e) same ∙ ap (λ d. bring_all o table after out (held_by w.old d w.holds))
          (sym (ap channel_of same)) ∙ bring_is
      pick (Bend c v) same calm g = ap (caused o table plan ns k e) same ∙ ap (λ d. bring_all o table after out (held_by w.old d w.holds))
          (sym (ap channel_of same)) ∙ bring_is

  -- a controller is sent on them, or ignored
  pub stay_follows : (c n v : ℕ) → m ≡ Control c n v → (used_for (role n) ≡ OfState → ⊥) → ChannelsStand o table used plan ns (suc k) x
  stay_follows c n v same h = left_stands o table used plan ns k e t part s x stays ready.stands leaves no_reset still holds exact x
      (λ d. all_stay o table used plan ns k e t m is (λ r. ap (apply r) same ∙ use_leaves r n v (role n) h) d)

  pub send_caused : (c n v : ℕ) → m ≡ Control c n v → used_for (role n) ≡ Notes → caused o table plan ns k e m ≡ sent x part n v (from_up 0 16)
  send_caused c n v same g = ap (caused o table plan ns k e) same ∙ by_use o table after out (held_by w.old c w.holds) n v (role n)
      ∙ ap (λ u. controlled_by u (bring_all o table after out (held_by w.old c w.holds)) (send_all n v (held_by w.old c w.holds))) g
      ∙ ap (λ d. send_all n v (held_by w.old d w.holds)) (sym (ap channel_of same)) ∙ send_is n v

  pub nothing_caused : (c n v : ℕ) → m ≡ Control c n v → used_for (role n) ≡ Nothing → caused o table plan ns k e m ≡ []
  nothing_caused c n v same g = ap (caused o table plan ns k e) same ∙ by_use o table after out (held_by w.old c w.holds) n v (role n)
      ∙ ap (λ u. controlled_by u (bring_all o table after out (held_by w.old c w.holds)) (send_all n v (held_by w.old c w.holds))) g
