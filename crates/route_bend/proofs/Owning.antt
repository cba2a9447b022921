-- How the channels of a port go on at an event, seen from what the program keeps of them.
use Rattle.std.proofs.Common.{◌≡◌, ◌≢◌, ◌<◌, ℕ, suc, Bool, true, false, List, get_or, set, refl, ap, sym, ◌∙◌, subst}
use Rattle.std.specs.Set.{is_member}
use Rattle.std.proofs.lemmas.Bool.{both_ways, and_parts}
use Rattle.std.proofs.lemmas.List.{set-get_or}
use Rattle.mt_base.specs.declared.event.Msg.{Msg}
use Rattle.mt_base.specs.Midi.{MidiEvent, Says, channel_of}
use Rattle.midi_model.specs.Sysex.{Doing, Plays, Resets, doing}
use Rattle.midi_model.specs.WellFormed.{IsWellFormed}
use Rattle.midi_model.specs.Channel.{Channel, default_channel, apply}
use Rattle.midi_model.specs.Music.{Music, channel_at, advance, step}
use Rattle.retune_model.specs.Options.{Options}
use Rattle.retune_model.specs.Faults.{Targets, int_eq}
use Rattle.retune_model.specs.Pairs.{Pair, is_same_pair}
use Rattle.retune_model.specs.Ports.{Numbered, resets}
use Rattle.channel_model.specs.Choice.{wanted}
use Rattle.channel_model.specs.BendOutput.{PortRuns}
use Rattle.bend_laws.specs.Brought.{IsSameAside}
use Rattle.bend_laws.specs.Follows.{Has, Begins}
use Rattle.bend_laws.specs.Moments.{Moment, Both, moment, left_after}
use Rattle.bend_laws.specs.Positions.{both_at}
use Rattle.bend_laws.proofs.Altered.{same_aside}
use Rattle.bend_laws.proofs.Changing.{same_own}
use Rattle.bend_laws.proofs.Elsewhere.{goes_on}
use Rattle.bend_laws.proofs.Stepping.{BeginsAt, Quiet, left_cases, quiet_moment}
use Rattle.bend_laws.proofs.Still.{IsPassed, no_change, no_message}
use Rattle.bend_laws.proofs.Turned.{said}
use Rattle.route_bend.specs.Channels.{is_given, is_on, steps_in, state_in, IsFresh}
use Rattle.route_bend.specs.Standing.{ChannelsStand, NoneStands}
use Rattle.route_bend.specs.Turning.{IsTurn, IsWait}
use Rattle.route_bend.specs.declared.channels.Channels.{Channels}

-- ---- at an event of another port

pub waited : (o : Options) (table : Targets) (used : ℕ → Bool) (plan : PortRuns) (ns : List Numbered) (k : ℕ) (s : Channels) →
    IsWait o table plan ns k → ChannelsStand o table used plan ns k s → ChannelsStand o table used plan ns (suc k) s
waited o table used plan ns k s w h = record {
  port = h.port;
  on = λ p i. subst (λ c. is_on s p c ≡ true) (sym (w.kept p i)) (h.on p (w.there p i));
  once = h.once;
  own = λ c u. subst (λ (b : Both). IsSameAside (state_in s c).own (b.left c)) (sym w.same) (h.own c u);
}

pub none_waited : (o : Options) (table : Targets) (used : ℕ → Bool) (plan : PortRuns) (ns : List Numbered) (k : ℕ) →
    IsWait o table plan ns k → NoneStands o table used plan ns k → NoneStands o table used plan ns (suc k)
none_waited o table used plan ns k w h = record {
  none = λ p i. h.none p (w.there p i);
  own = λ c u. subst (λ (b : Both). IsSameAside default_channel (b.left c)) (sym w.same) (h.own c u);
}

-- ---- at an event of the port

module _ (o : Options) (table : Targets) (used : ℕ → Bool) (plan : PortRuns) (ns : List Numbered) (k : ℕ) (e : MidiEvent)
    (t : IsTurn o table used plan ns k e) where
  abbrev pub b : Both
  b = both_at o table plan ns k

  abbrev pub w : Moment
  w = moment plan k

  abbrev pub after : Music
  after = step (both_at o table plan ns k).source e

  left_next : resets (doing e.what) ≡ false → (c : ℕ) → (both_at o table plan ns (suc k)).left c ≡ left_after o table w after false b.left c
  left_next none c = ap (λ (x : Both). x.left c) t.next ∙ ap (λ r. left_after o table w after r b.left c) none

  pub own_goes_on : resets (doing e.what) ≡ false → (g : ℕ → Channel) →
      ((p : Pair) → BeginsAt w p → IsSameAside (g (w.new p)) (wanted o table after p).own) →
      ((p : Pair) → Has w.holds p → ((q : Pair) → BeginsAt w q → w.new q ≢ w.old p) → IsSameAside (g (w.old p)) (wanted o table after p).own) →
      ((c : ℕ) → used c ≡ true → ((q : Pair) → BeginsAt w q → w.new q ≢ c) → ((p : Pair) → Has w.holds p → w.old p ≢ c) → IsSameAside (g c)
      (b.left c)) →
      (c : ℕ) → used c ≡ true → IsSameAside (g c) ((both_at o table plan ns (suc k)).left c)
  own_goes_on none g begun held others c u =
      subst (IsSameAside (g c)) (sym (left_next none c)) (left_cases o table w after b.left c (IsSameAside (g c))
      (λ p begins on. subst (λ d. IsSameAside (g d) (wanted o table after p).own) on (begun p begins))
      (λ free p holds on. subst (λ d. IsSameAside (g d) (wanted o table after p).own) on (held p holds (λ q i s. free q i (s ∙ on))))
      (λ free out. others c u free out))

  -- a channel of a pair that its part leaves as it is
  pub own_kept : (f : ℕ → Channel) → ((c : ℕ) → used c ≡ true → IsSameAside (f c) (b.left c)) → (p : Pair) → Has w.holds p →
      channel_at after p.part.channel ≡ channel_at b.source p.part.channel → IsSameAside (f (w.old p)) (wanted o table after p).own
  own_kept f own p h same =
      let was : Has w.was p = t.sound.was_there p h in
      subst (IsSameAside (f (w.old p))) (t.follows.at_wanted p was ∙ sym (same_own o table b.source after p same))
      (own (w.old p) (t.sound.used_was p was))

  -- ---- which channels of the source stay

  pub others_stay : (m : Msg) → e.what ≡ Says m → (d : ℕ) → d ≢ channel_of m → channel_at after d ≡ channel_at b.source d
  others_stay m is d other =
      ap (λ x. channel_at (advance e.tick (doing x) b.source) d) is
      ∙ (goes_on b.source e.tick m t.follows.source_zones t.follows.source_settled (t.zones m is)).others d other

  pub all_stay : (m : Msg) → e.what ≡ Says m → ((s : Channel) → apply s m ≡ s) → (d : ℕ) → channel_at after d ≡ channel_at b.source d
  all_stay m is same d =
      let c : ℕ = channel_of m in
      ap (λ x. channel_at (advance e.tick (doing x) b.source) d) is
      ∙ ap (λ (x : Music). channel_at x d) (said b.source e.tick m (t.zones m is))
      ∙ ap (λ s. get_or (set b.source.channels c s) d default_channel) (same (channel_at b.source c))
      ∙ ap (λ cs. get_or cs d default_channel) (set-get_or b.source.channels c default_channel)

  pub none_stay : IsPassed e.what → resets (doing e.what) ≡ false → (d : ℕ) → channel_at after d ≡ channel_at b.source d
  none_stay passed none d = ap (λ (x : Music). channel_at x d) (no_change b.source e.tick (doing e.what) none (no_message e.what passed))

  -- ---- an event that begins no note

  pub quiet : ((p : Pair) → Begins plan.number o table e.tick e.what p → ⊥) → Quiet w
  quiet nothing = quiet_moment IsWellFormed plan.number o table used w b.source e t.sound nothing

  -- what is there held its channel, which it keeps
  pub on_quiet : Quiet w → (s : Channels) → ((p : Pair) → Has w.was p → is_on s p (w.old p) ≡ true) → (p : Pair) → Has w.is p →
      is_on s p (w.new p) ≡ true
  on_quiet q s on p i = subst (λ c. is_on s p c ≡ true) (sym (q.stays p i)) (on p (t.sound.was_there p (q.held p i)))

  -- and leaves all channels of the source as they are, that is, those of pairs that hold their channels
  pub unmoved : Quiet w → resets (doing e.what) ≡ false → ((p : Pair) → Has w.holds p → channel_at after p.part.channel ≡ channel_at b.source
      p.part.channel) → (s : Channels) → ChannelsStand o table used plan ns k s → ChannelsStand o table used plan ns (suc k) s
  unmoved q none same s h = record {
    port = h.port;
    on = on_quiet q s h.on;
    once = h.once;
    own = own_goes_on none (λ c. (state_in s c).own) (λ p begins. absurd (q.none p begins))
        (λ p holds free. own_kept (λ c. (state_in s c).own) h.own p holds (same p holds)) (λ c u free out. h.own c u);
  }

  pub none_unmoved : Quiet w → resets (doing e.what) ≡ false → NoneStands o table used plan ns k → NoneStands o table used plan ns (suc k)
  none_unmoved q none h = record {
    none = λ p i. h.none p (t.sound.was_there p (q.held p i));
    own = own_goes_on none (λ c. default_channel) (λ p begins. absurd (q.none p begins))
        (λ p holds free. absurd (h.none p (t.sound.was_there p holds))) (λ c u free out. h.own c u);
  }

  -- ---- a reset

  left_reset : resets (doing e.what) ≡ true → (c : ℕ) → (both_at o table plan ns (suc k)).left c ≡ default_channel
  left_reset reset c = ap (λ (x : Both). x.left c) t.next ∙ ap (λ r. left_after o table w after r b.left c) reset

  none_after : resets (doing e.what) ≡ true → (p : Pair) → Has w.is p → ⊥
  none_after reset p i = both_ways false refl (ap (λ ps. is_member is_same_pair ps p) (sym (t.sound.reset (is_reset (doing e.what) reset))) ∙ i)
    where
      is_reset : (d : Doing) → resets d ≡ true → d ≡ Resets
      is_reset Resets h = refl
      is_reset (Plays m) h = absurd cc
      is_reset _ h = absurd cc

  pub none_reset : resets (doing e.what) ≡ true → NoneStands o table used plan ns (suc k)
  none_reset reset = record {
    none = none_after reset;
    own = λ c u. subst (λ x. IsSameAside default_channel x) (sym (left_reset reset c)) (same_aside default_channel default_channel refl);
  }

-- ---- where nothing was kept, the channels of a port are at their defaults

pub opened : (o : Options) (table : Targets) (used : ℕ → Bool) (plan : PortRuns) (ns : List Numbered) (k : ℕ) (s : Channels) →
    ((c : ℕ) → used c ≡ true → c < 16) → NoneStands o table used plan ns k → IsFresh s → s.port ≡ plan.number →
    ChannelsStand o table used plan ns k s
opened o table used plan ns k s row h fresh port = record {
  port = port;
  on = λ p i. absurd (h.none p i);
  once = λ p c d l m x y. absurd (both_ways (is_given s p.part.channel c) (fresh.given p.part.channel c)
      (and_parts (is_given s p.part.channel c) (int_eq (steps_in s c) p.steps) x).0);
  own = λ c u. subst (λ x. IsSameAside x ((both_at o table plan ns k).left c)) (ap (λ x. x.own) (sym (fresh.states c (row c u)))) (h.own c u);
}
