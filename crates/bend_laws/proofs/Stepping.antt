-- What is to be shown of an event, so that the output follows the source after it.
use Rattle.std.proofs.Common.{◌≡◌, ◌≢◌, ℕ, Bool, true, false, cond, not, List, [], ◌∷◌, Option, Some, None, refl, ap, sym, ◌∙◌, subst, filter, nat_eq, inl, inr}
use Rattle.std.specs.Set.{is_member}
use Rattle.std.proofs.lemmas.Bool.{cases_Bool, both_ways, eqb-true, eq-eqb, or_cases, or_left, or_right, not-true, not_from_false, cond_both}
use Rattle.retune_model.specs.Pairs.{Pair, is_same_pair}
use Rattle.mt_base.specs.Midi.{MidiEvent}
use Rattle.midi_model.specs.Sysex.{doing}
use Rattle.midi_model.specs.Channel.{Channel, State}
use Rattle.midi_model.specs.Zones.{no_zones}
use Rattle.midi_model.specs.Notes.{Note, sounds}
use Rattle.midi_model.specs.Music.{Music, channel_at, step, play}
use Rattle.midi_model.specs.MusicLaws.{IsSettled}
use Rattle.retune_model.specs.Options.{Options}
use Rattle.retune_model.specs.PlaysTheSame.{Pairwise}
use Rattle.retune_model.specs.Faults.{Targets, is_part, target_of}
use Rattle.retune_model.specs.Ports.{resets}
use Rattle.channel_model.specs.Choice.{wanted, on_place}
use Rattle.channel_model.specs.BendOutput.{pair_with}
use Rattle.bend_laws.specs.Moments.{Moment, begins_here, left_by, left_after, Both, port_block, next_both}
use Rattle.bend_laws.specs.Brought.{IsSameAside, IsReached}
use Rattle.bend_laws.specs.Follows.{Has, SoundsAlike, IsPlayedBy, IsMatched, AreApart, IsAmong, SoundAmong, Begins, IsGiven, Follows}
use Rattle.bend_laws.proofs.Equal.{same_pair, pair_itself}
use Rattle.bend_laws.proofs.Lists.{pair_along, pair_weaker}

-- ---- which pair is on a channel

-- what `on_place` finds
pub record Found (place : Pair → ℕ) (c : ℕ) (ps : List Pair) (p : Pair) : Type 0 where
  pub there : Has ps p
  pub on : place p ≡ c

pub found : (place : Pair → ℕ) (c : ℕ) (ps : List Pair) (p : Pair) → on_place place c ps ≡ Some p → Found place c ps p
found place c [] p h = absurd cc
found place c (q ∷ qs) p h = elim (cases_Bool (nat_eq (place q) c)) [
  | inl e ↦ (let same : q ≡ p = (let g : cond true (Some q) (on_place place c qs) ≡ Some p = ap (λ b. cond b (Some q) (on_place place c qs))
      (sym e) ∙ h in cc) in
      record {
        there = or_left (is_same_pair p q) (is_member is_same_pair qs p) (ap (λ x. is_same_pair p x) same ∙ pair_itself p);
        on =
            ap place (sym same) ∙ eqb-true (place q) c e;
      })
  | inr e ↦ (let r : Found place c qs p = found place c qs p (ap (λ b. cond b (Some q) (on_place place c qs)) (sym e) ∙ h) in
      record { there = or_right (is_same_pair p q) (is_member is_same_pair qs p) r.there; on = r.on })
]

pub not_found : (place : Pair → ℕ) (c : ℕ) (ps : List Pair) → on_place place c ps ≡ None → (p : Pair) → Has ps p → place p ≢ c
not_found place c [] h p m k = both_ways false refl m
not_found place c (q ∷ qs) h p m k = elim (cases_Bool (nat_eq (place q) c)) [
  | inl e ↦ (let g : cond true (Some q) (on_place place c qs) ≡ None = ap (λ b. cond b (Some q) (on_place place c qs)) (sym e) ∙ h in absurd cc)
  | inr e ↦ elim (or_cases (is_same_pair p q) (is_member is_same_pair qs p) m) [
    | inl s ↦ both_ways (nat_eq (place q) c) e (eq-eqb (place q) c (ap place (sym (same_pair p q s)) ∙ k))
    | inr r ↦ not_found place c qs (ap (λ b. cond b (Some q) (on_place place c qs)) (sym e) ∙ h) p r k
  ]
]

-- the pairs whose runs begin
filtered : (f : Pair → Bool) (ps : List Pair) (p : Pair) → Has (filter f ps) p → (f p ≡ true) × Has ps p
filtered f [] p h = absurd (both_ways false refl h)
filtered f (q ∷ qs) p h = elim (cases_Bool (f q)) [
  | inl e ↦ elim (or_cases (is_same_pair p q) (is_member is_same_pair (filter f qs) p)
      (ap (λ b. is_member is_same_pair (cond b (q ∷ filter f qs) (filter f qs)) p) (sym e) ∙ h)) [
        | inl s ↦ (ap f (same_pair p q s) ∙ e, or_left (is_same_pair p q) (is_member is_same_pair qs p) s)
        | inr r ↦ (let t = filtered f qs p r in (t.0, or_right (is_same_pair p q) (is_member is_same_pair qs p) t.1))
      ]
  | inr e ↦ (let t = filtered f qs p (ap (λ b. is_member is_same_pair (cond b (q ∷ filter f qs) (filter f qs)) p) (sym e) ∙ h) in (
    t.0,
    or_right (is_same_pair p q) (is_member is_same_pair qs p) t.1,
  ))
]

in_filter : (f : Pair → Bool) (ps : List Pair) (p : Pair) → f p ≡ true → Has ps p → Has (filter f ps) p
in_filter f [] p g h = absurd (both_ways false refl h)
in_filter f (q ∷ qs) p g h = elim (or_cases (is_same_pair p q) (is_member is_same_pair qs p) h) [
  | inl s ↦ ap (λ b. is_member is_same_pair (cond b (q ∷ filter f qs) (filter f qs)) p) (ap f (sym (same_pair p q s)) ∙ g)
      ∙ or_left (is_same_pair p q) (is_member is_same_pair (filter f qs) p) s
  | inr r ↦ cond_both (f q) (q ∷ filter f qs) (filter f qs) (λ xs. Has xs p) (λ e. or_right (is_same_pair p q)
      (is_member is_same_pair (filter f qs) p) (in_filter f qs p g r)) (λ e. in_filter f qs p g r)
]

pub record BeginsAt (k : Moment) (p : Pair) : Type 0 where
  pub is : Has k.is p
  pub new : is_member is_same_pair k.was p ≡ false

pub beginning : (k : Moment) (p : Pair) → Has (begins_here k) p → BeginsAt k p
beginning k p h = let t = filtered (λ q. not (is_member is_same_pair k.was q)) k.is p h in record {
  is = t.1;
  new =
      not-true (is_member is_same_pair k.was p) t.0;
}

pub begun : (k : Moment) (p : Pair) → BeginsAt k p → Has (begins_here k) p
begun k p h = in_filter (λ q. not (is_member is_same_pair k.was q)) k.is p (not_from_false (is_member is_same_pair k.was p) h.new) h.is

-- ---- how a channel is left

pub left_cases : (o : Options) (table : Targets) (k : Moment) (after : Music) (left : ℕ → Channel) (c : ℕ) (P : Channel → Type 0) →
    ((p : Pair) → BeginsAt k p → k.new p ≡ c → P (wanted o table after p).own) →
    (((q : Pair) → BeginsAt k q → k.new q ≢ c) → (p : Pair) → Has k.holds p → k.old p ≡ c → P (wanted o table after p).own) →
    (((q : Pair) → BeginsAt k q → k.new q ≢ c) → ((p : Pair) → Has k.holds p → k.old p ≢ c) → P (left c)) →
    P (left_after o table k after false left c)
left_cases o table k after left c P f g h = pick (on_place k.new c (begins_here k)) refl (on_place k.old c k.holds) refl
  where
    pick : (x : Option Pair) → on_place k.new c (begins_here k) ≡ x → (y : Option Pair) → on_place k.old c k.holds ≡ y →
        P (left_by o table after (left c) x y)
    pick (Some p) e y d = (let r : Found k.new c (begins_here k) p = found k.new c (begins_here k) p e in f p (beginning k p r.there) r.on)
    pick None e (Some p) d = (let r : Found k.old c k.holds p =
        found k.old c k.holds p d in g (λ q b. not_found k.new c (begins_here k) e q (begun k q b)) p r.there r.on)
    pick None e None d = h (λ q b. not_found k.new c (begins_here k) e q (begun k q b)) (not_found k.old c k.holds d)

-- ---- what is to be shown of an event

pub record Stepped (port : ℕ) (o : Options) (table : Targets) (used : ℕ → Bool) (k : Moment) (b : Both) (after x : Music) : Type 0 where
  pub notes : Pairwise (IsMatched port o table k.new) after.notes x.notes
  pub apart : AreApart o table after.notes
  -- the channels: of a run that begins, of one that holds its channel, and all others
  pub begins : (p : Pair) → BeginsAt k p → IsSameAside (channel_at x (k.new p)) (wanted o table after p).own
  pub holds : (p : Pair) → Has k.holds p → ((q : Pair) → BeginsAt k q → k.new q ≢ k.old p) → IsSameAside (channel_at x (k.old p))
      (wanted o table after p).own
  pub others : (c : ℕ) → used c ≡ true → ((q : Pair) → BeginsAt k q → k.new q ≢ c) → ((p : Pair) → Has k.holds p → k.old p ≢ c) →
      IsSameAside (channel_at x c) (b.left c)
  -- what is there without holding its channel
  pub same : (p : Pair) → Has k.is p → is_member is_same_pair k.holds p ≡ false → (wanted o table b.source p).own ≡ (wanted o table after p).own
  pub source_zones : after.zones ≡ no_zones
  pub source_settled : IsSettled after
  pub out_zones : x.zones ≡ no_zones
  pub out_reached : IsReached x

at_wanted : (Good : State → Type 0) (port : ℕ) (o : Options) (table : Targets) (used : ℕ → Bool) (k : Moment) (b : Both) (e : MidiEvent)
    (x : Music) → Follows Good port o table used k.old k.was b → IsGiven Good port o table used k b.source e →
    Stepped port o table used k b (step b.source e) x → (p : Pair) → Has k.is p → left_after o table k (step b.source e) false b.left (k.new p)
    ≡ (wanted o table (step b.source e) p).own
at_wanted Good port o table used k b e x follows sound to p is =
    left_cases o table k (step b.source e) b.left (k.new p) (λ c. c ≡ (wanted o table (step b.source e) p).own)
    (λ q begins on. ap (λ r. (wanted o table (step b.source e) r).own) (sound.apart_is q p begins.is is on))
    (λ none q holds on. ap (λ r. (wanted o table (step b.source e) r).own) (sound.apart_was q p (sound.was_there q holds) (was none)
    (on ∙ sound.kept p (was none) is)))
    (λ none free. ap b.left (sound.kept p (was none) is) ∙ follows.at_wanted p (was none) ∙ to.same p is (not_holding (was none) free))
  where
    was : ((q : Pair) → BeginsAt k q → k.new q ≢ k.new p) → Has k.was p
    was none = elim (cases_Bool (is_member is_same_pair k.was p)) [
      | inl h ↦ h
      | inr h ↦ absurd (none p (record { is = is; new = h }) refl)
    ]

    not_holding : Has k.was p → ((q : Pair) → Has k.holds q → k.old q ≢ k.new p) → is_member is_same_pair k.holds p ≡ false
    not_holding w free = elim (cases_Bool (is_member is_same_pair k.holds p)) [
      | inl h ↦ absurd (free p h (sym (sound.kept p w is)))
      | inr h ↦ h
    ]

abbrev next_with : Options → Targets → Moment → Both → MidiEvent → Bool → Music → Both
next_with o table k b e reset x = record { source = step b.source e; out = x; left = left_after o table k (step b.source e) reset b.left }

pub follows_next : (Good : State → Type 0) (port : ℕ) (o : Options) (table : Targets) (used : ℕ → Bool) (k : Moment) (b : Both) (e : MidiEvent) →
    Follows Good port o table used k.old k.was b → IsGiven Good port o table used k b.source e →
    resets (doing e.what) ≡ false → Stepped port o table used k b (step b.source e) (play b.out (port_block port o table k b.source b.out e)) →
    Follows Good port o table used k.new k.is (next_both port o table k b e)
follows_next Good port o table used k b e follows sound none to =
    let x : Music = play b.out (port_block port o table k b.source b.out e) in
    let is : Follows Good port o table used k.new k.is (next_with o table k b e false x) = record {
      notes = to.notes;
      states = λ c u. left_cases o table k (step b.source e) b.left c (IsSameAside (channel_at x c))
          (λ p begins on. subst (λ d. IsSameAside (channel_at x d) (wanted o table (step b.source e) p).own) on (to.begins p begins))
          (λ free p holds on. subst (λ d. IsSameAside (channel_at x d)
          (wanted o table (step b.source e) p).own) on (to.holds p holds (λ q i s. free q i (s ∙ on))))
          (λ free out. to.others c u free out);
      at_wanted = at_wanted Good port o table used k b e x follows sound to;
      apart = to.apart;
      good_source = sound.good;
      source_zones = to.source_zones;
      source_settled = to.source_settled;
      out_zones = to.out_zones;
      out_reached = to.out_reached;
    } in
    subst (λ r. Follows Good port o table used k.new k.is (next_with o table k b e r x)) (sym none) is

-- ---- an event that begins no note

-- all that is there held its channel, and stays on it
pub record Quiet (k : Moment) : Type 0 where
  pub held : (p : Pair) → Has k.is p → Has k.holds p
  pub none : (p : Pair) → BeginsAt k p → ⊥
  pub stays : (p : Pair) → Has k.is p → k.new p ≡ k.old p

pub quiet_moment : (Good : State → Type 0) (port : ℕ) (o : Options) (table : Targets) (used : ℕ → Bool) (k : Moment) (m : Music) (e : MidiEvent) →
    IsGiven Good port o table used k m e → ((p : Pair) → Begins port o table e.tick e.what p → ⊥) → Quiet k
quiet_moment Good port o table used k m e sound nothing =
    let held : (p : Pair) → Has k.is p → Has k.holds p = λ p i. elim (cases_Bool (is_member is_same_pair k.holds p)) [
      | inl h ↦ h
      | inr h ↦ absurd (nothing p (sound.from p i h))
    ] in
    record {
      held = held;
      none = λ p b. both_ways (is_member is_same_pair k.was p) b.new (sound.was_there p (held p b.is));
      stays = λ p i. sound.kept p (sound.was_there p (held p i)) i;
    }

-- notes that are matched on the channels from before are matched on those after
moved_note : (port : ℕ) (o : Options) (table : Targets) (k : Moment) (a b : Note) → Quiet k → IsMatched port o table k.old a b ×
    (is_part o a.channel ≡ true → sounds a ≡ true → IsAmong port k.is a.channel (target_of o table a)) → IsMatched port o table k.new a b
moved_note port o table k a b q (h, among) = record {
  retuned = h.retuned;
  played = λ p. (let y : IsPlayedBy port o table k.old a b = h.played p in record {
    target = y.target;
    aim = y.aim;
    key = y.key;
    onset = y.onset;
    velocity = y.velocity;
    voice = y.voice;
    release = y.release;
    ended = y.ended;
    sounding = λ s. (let z : SoundsAlike (k.old (pair_with port a.channel y.target)) a b = y.sounding s in record {
      channel = z.channel ∙ sym (q.stays (pair_with port a.channel y.target) (subst (IsAmong port k.is a.channel) y.aim (among p s)));
      captured = z.captured;
      pressure = z.pressure;
    });
  });
}

pub moved_notes : (port : ℕ) (o : Options) (table : Targets) (k : Moment) (ns xs : List Note) → Quiet k → SoundAmong port o table k.is ns →
    Pairwise (IsMatched port o table k.old) ns xs → Pairwise (IsMatched port o table k.new) ns xs
moved_notes port o table k ns xs q among h =
    let all : Note → Type 0 = λ n. is_part o n.channel ≡ true → sounds n ≡ true → IsAmong port k.is n.channel (target_of o table n) in
    pair_weaker (λ a b. IsMatched port o table k.old a b × all a) (IsMatched port o table k.new)
    (λ a b g. moved_note port o table k a b q g) ns xs (pair_along (IsMatched port o table k.old) all ns xs h among)
