-- A note of a part begins: what its channel is given to, and what is sent.
use Rattle.std.proofs.Common.{◌≡◌, ◌≢◌, ◌<◌, ◌&&◌, ◌++◌, ℕ, suc, Bool, true, false, cond, nat_eq, List, [], ◌∷◌, Some, refl, ap, sym, ◌∙◌, subst, map, inl, inr}
use Rattle.std.specs.List.{AllByRecursion}
use Rattle.std.specs.Set.{is_member}
use Rattle.std.proofs.lemmas.Bool.{cases_Bool, cases_eq, both_ways, and_from, eqb-true, eq-eqb, ne_eqb, false_from_ne_true}
use Rattle.mt_base.specs.declared.event.Msg.TheVariants.{NoteOn}
use Rattle.mt_base.specs.Midi.{Says, MidiEvent}
use Rattle.midi_model.specs.WellFormed.{IsWellFormed}
use Rattle.midi_model.specs.Channel.{Channel}
use Rattle.midi_model.specs.Notes.{Note, sounds, is_at, cut_off}
use Rattle.midi_model.specs.Music.{Music, channel_at, state_at, step}
use Rattle.midi_model.specs.Bring.{bring}
use Rattle.retune_model.specs.Table.{BendTarget}
use Rattle.retune_model.specs.Options.{Options}
use Rattle.retune_model.specs.PlaysTheSame.{bend_target_if}
use Rattle.retune_model.specs.Faults.{Targets, is_part, int_eq, is_same_target, target_of}
use Rattle.retune_model.specs.Pairs.{Pair, is_same_pair}
use Rattle.retune_model.specs.Ports.{Numbered}
use Rattle.channel_model.specs.Choice.{wanted}
use Rattle.channel_model.specs.BendOutput.{PortRuns, pair_with, note_begins}
use Rattle.state_laws.specs.Reached.{IgnoresTheSelections}
use Rattle.bend_laws.specs.Brought.{IsSameAside}
use Rattle.bend_laws.specs.Follows.{Has, IsPlayedBy, IsMatched, IsAmong, Begins}
use Rattle.bend_laws.specs.Moments.{Both, Moment, moment}
use Rattle.bend_laws.specs.Positions.{both_at}
use Rattle.bend_laws.proofs.Altered.{same_aside}
use Rattle.bend_laws.proofs.Changing.{said_at}
use Rattle.bend_laws.proofs.Equal.{int_itself, target_key, target_steps}
use Rattle.bend_laws.proofs.Given.{IsFine, fine}
use Rattle.bend_laws.proofs.Lifting.{at_channel, at_key}
use Rattle.bend_laws.proofs.Lists.{all_both, pair_along, pair_second}
use Rattle.bend_laws.proofs.Matching.{output_sounds}
use Rattle.bend_laws.proofs.Releasing.{target_eq}
use Rattle.bend_laws.proofs.Shown.{begun_there}
use Rattle.bend_laws.proofs.States.{silent_pressures}
use Rattle.bend_laws.proofs.Stepping.{BeginsAt}
use Rattle.bend_laws.proofs.Striking.{new_note, struck, strikes_note, cut_not, IsAside, all_aside}
use Rattle.route_bend.specs.Channels.{is_given, is_on, steps_in, state_in, BeginsOn}
use Rattle.route_bend.specs.Sent.{relaxed, begun_on}
use Rattle.route_bend.specs.Standing.{ChannelsStand, IsExact}
use Rattle.route_bend.specs.Turning.{IsTurn}
use Rattle.route_bend.specs.declared.channels.Channels.{Channels}
use Rattle.route_bend.proofs.Owning.{own_goes_on, own_kept, all_stay}
use Rattle.route_bend.proofs.Speaking.{bring_same, on_given, on_steps, on_pair}

-- what is so of the notes from before
front_of : (P : Note → Type 0) (f : Note → Note) (ns xs : List Note) → AllByRecursion P (map f ns ++ xs) → AllByRecursion (λ n. P (f n)) ns
front_of P f [] xs h = tt
front_of P f (n ∷ ns) xs h = (h.0, front_of P f ns xs h.1)

some_target : (a b : BendTarget) → Some a ≡ Some b → a ≡ b
some_target a b h = cc

module _ (o : Options) (table : Targets) (used : ℕ → Bool) (plan : PortRuns) (ns : List Numbered) (k tick track c j v : ℕ)
    (t : IsTurn o table used plan ns k (said_at tick track (NoteOn c j (suc v)))) (part : is_part o c ≡ true) (x : BendTarget)
    (aim : bend_target_if o.range (table j tick) ≡ Some x) where
  abbrev pub e : MidiEvent
  e = said_at tick track (NoteOn c j (suc v))

  abbrev pub b : Both
  b = both_at o table plan ns k

  abbrev pub w : Moment
  w = moment plan k

  abbrev pub after : Music
  after = step (both_at o table plan ns k).source (said_at tick track (NoteOn c j (suc v)))

  abbrev pub p : Pair
  p = pair_with plan.number c x

  pub there : Has w.is p
  there = begun_there IsWellFormed plan.number o table used (plan.channel k) (plan.pairs k) w b tick track c j v t.follows t.sound part x aim

  begins_it : (q : Pair) → Begins plan.number o table tick (Says (NoteOn c j (suc v))) q → q ≡ p
  begins_it q (y, (z, g, h)) = h ∙ ap (pair_with plan.number c) (some_target z x (sym g ∙ aim))

  only : (q : Pair) → BeginsAt w q → q ≡ p
  only q h = begins_it q (t.sound.from q h.is (false_from_ne_true (is_member is_same_pair w.holds q) (λ g. both_ways (is_member is_same_pair w.was q)
      h.new (t.sound.was_there q g))))

  -- what is there was there, or is the new one
  was_or_new : (q : Pair) → Has w.is q → is_member is_same_pair w.was q ≡ false → q ≡ p
  was_or_new q i h = only q (record { is = i; new = h })

  same : (d : ℕ) → channel_at after d ≡ channel_at b.source d
  same d = all_stay o table used plan ns k e t (NoteOn c j (suc v)) refl (λ s. refl) d

  pub low : w.new p < 16
  low = t.row.channel (w.new p) (t.sound.used_is p there)

  kept_on : (s : Channels) → ChannelsStand o table used plan ns k s → (q : Pair) → Has w.was q → Has w.is q → is_on s q (w.new q) ≡ true
  kept_on s stands q h i = subst (λ d. is_on s q d ≡ true) (sym (t.sound.kept q h i)) (stands.on q h)

  -- ---- the pair's run is there

  pub goes_on : (s : Channels) → ChannelsStand o table used plan ns k s → Has w.was p → ChannelsStand o table used plan ns (suc k) s
  goes_on s stands was = record {
    port = stands.port;
    on = λ q i. on_it q i (is_member is_same_pair w.was q) refl;
    once = stands.once;
    own = own_goes_on o table used plan ns k e t refl (λ d. (state_in s d).own)
        (λ q h. absurd (both_ways (is_member is_same_pair w.was q) h.new (subst (Has w.was) (sym (only q h)) was)))
        (λ q h free. own_kept o table used plan ns k e t (λ d. (state_in s d).own) stands.own q h (same q.part.channel))
        (λ d u free out. stands.own d u);
  }
    where
      on_it : (q : Pair) → Has w.is q → (r : Bool) → is_member is_same_pair w.was q ≡ r → is_on s q (w.new q) ≡ true
      on_it q i true h = kept_on s stands q h i
      on_it q i false h = subst (λ y. is_on s y (w.new y) ≡ true) (sym (was_or_new q i h)) (kept_on s stands p was there)

  pub is_there : (s : Channels) → ChannelsStand o table used plan ns k s → Has w.was p → is_on s p (w.new p) ≡ true
  is_there s stands was = kept_on s stands p was there

  -- ---- its run begins here

  module _ (s : Channels) (stands : ChannelsStand o table used plan ns k s) (exact : IsExact plan k c s)
      (new : is_member is_same_pair w.was p ≡ false) where
    pub nowhere : (d : ℕ) → d < 16 → is_on s p d ≡ true → ⊥
    nowhere d l h = both_ways (is_member is_same_pair w.was p) new (subst (Has w.was) (on_pair s p d stands.port h) (exact d l (on_given s p d h)))

    not_there : (q : Pair) → BeginsAt w q → w.new q ≡ w.new p
    not_there q h = ap w.new (only q h)

    module _ (y : Channels) (begins : BeginsOn p (w.new p) (wanted o table after p) s y) where
      given_else : (a d : ℕ) → d < 16 → d ≢ w.new p → is_given y a d ≡ is_given s a d
      given_else a d l other = begins.given a d l ∙ ap (λ r. cond r (nat_eq a c) (is_given s a d)) (ne_eqb d (w.new p) other)

      steps_else : (d : ℕ) → d < 16 → d ≢ w.new p → steps_in y d ≡ steps_in s d
      steps_else d l other = begins.steps d l ∙ ap (λ r. cond r x.steps (steps_in s d)) (ne_eqb d (w.new p) other)

      state_else : (d : ℕ) → d < 16 → d ≢ w.new p → state_in s d ≡ state_in y d
      state_else d l other = sym (begins.states d l ∙ ap (λ r. cond r (wanted o table after p) (state_in s d)) (ne_eqb d (w.new p) other))

      given_here : (a : ℕ) → is_given y a (w.new p) ≡ nat_eq a c
      given_here a = begins.given a (w.new p) low ∙ ap (λ r. cond r (nat_eq a c) (is_given s a (w.new p))) (eq-eqb (w.new p) (w.new p) refl)

      steps_here : steps_in y (w.new p) ≡ x.steps
      steps_here = begins.steps (w.new p) low ∙ ap (λ r. cond r x.steps (steps_in s (w.new p))) (eq-eqb (w.new p) (w.new p) refl)

      state_here : state_in y (w.new p) ≡ wanted o table after p
      state_here = begins.states (w.new p) low ∙ ap (λ r. cond r (wanted o table after p) (state_in s (w.new p))) (eq-eqb (w.new p) (w.new p) refl)

      on_else : (q : Pair) (d : ℕ) → d < 16 → d ≢ w.new p → is_on y q d ≡ is_on s q d
      on_else q d l other = ap (λ r. r && int_eq (steps_in y d) q.steps) (given_else q.part.channel d l other)
          ∙ ap (λ i. is_given s q.part.channel d && int_eq i q.steps) (steps_else d l other)

      on_here : is_on y p (w.new p) ≡ true
      on_here = and_from (is_given y c (w.new p)) (int_eq (steps_in y (w.new p)) x.steps) (given_here c ∙ eq-eqb c c refl)
          (ap (λ i. int_eq i x.steps) steps_here ∙ int_itself x.steps)

      -- what is on its channel is a pair of its part with its steps
      as_it : (q : Pair) (d : ℕ) → is_on y q (w.new p) ≡ true → is_on s q d ≡ true → is_on s p d ≡ true
      as_it q d h g =
          let channel : q.part.channel ≡ c = eqb-true q.part.channel c (sym (given_here q.part.channel) ∙ on_given y q (w.new p) h) in
          let steps : q.steps ≡ x.steps = sym (on_steps y q (w.new p) h) ∙ steps_here in
          ap (λ a. is_given s a d && int_eq (steps_in s d) x.steps) (sym channel)
          ∙ ap (λ i. is_given s q.part.channel d && int_eq (steps_in s d) i) (sym steps)
          ∙ g

      pub begun_stands : ChannelsStand o table used plan ns (suc k) y
      begun_stands = record {
        port = begins.port ∙ stands.port;
        on = λ q i. on_it q i (is_member is_same_pair w.was q) refl;
        once = λ q d f l m g h. once_it q d f l m g h;
        own = own_goes_on o table used plan ns k e t refl (λ d. (state_in y d).own)
            (λ q h. subst (λ r. IsSameAside (state_in y (w.new r)).own (wanted o table after r).own) (sym (only q h))
            (same_aside (state_in y (w.new p)).own (wanted o table after p).own (ap (λ r. r.own) state_here)))
            (λ q h free. subst (λ r. IsSameAside r (wanted o table after q).own) (ap (λ r. r.own) (state_else (w.old q)
            (t.row.channel (w.old q) (t.sound.used_was q (t.sound.was_there q h)))
            (λ i. free p (record { is = there; new = new }) (sym i))))
            (own_kept o table used plan ns k e t (λ d. (state_in s d).own) stands.own q h (same q.part.channel)))
            (λ d u free out. subst (λ r. IsSameAside r (b.left d)) (ap (λ r. r.own) (state_else d (t.row.channel d u)
            (λ i. free p (record { is = there; new = new }) (sym i)))) (stands.own d u));
      }
        where
          on_it : (q : Pair) → Has w.is q → (r : Bool) → is_member is_same_pair w.was q ≡ r → is_on y q (w.new q) ≡ true
          on_it q i true h =
              let other : w.new q ≢ w.new p = λ f. both_ways (is_member is_same_pair w.was p) new
              (subst (Has w.was) (t.sound.apart_is q p i there f) h) in
              on_else q (w.new q) (t.row.channel (w.new q) (t.sound.used_is q i)) other ∙ kept_on s stands q h i
          on_it q i false h = subst (λ r. is_on y r (w.new r) ≡ true) (sym (was_or_new q i h)) on_here

          once_it : (q : Pair) (d f : ℕ) → d < 16 → f < 16 → is_on y q d ≡ true → is_on y q f ≡ true → d ≡ f
          once_it q d f l m g h = elim (cases_eq d (w.new p)) [
            | inl i ↦ elim (cases_eq f (w.new p)) [
              | inl n ↦ i ∙ sym n
              | inr n ↦ absurd (nowhere f m (as_it q f (subst (λ r. is_on y q r ≡ true) i g) (sym (on_else q f m n) ∙ h)))
            ]
            | inr i ↦ elim (cases_eq f (w.new p)) [
              | inl n ↦ absurd (nowhere d l (as_it q d (subst (λ r. is_on y q r ≡ true) n h) (sym (on_else q d l i) ∙ g)))
              | inr n ↦ stands.once q d f l m (sym (on_else q d l i) ∙ g) (sym (on_else q f m n) ∙ h)
            ]
          ]

    -- ---- no note sounds on its channel before

    abbrev IsOld : Note → Type 0
    IsOld a = ((is_part o a.channel ≡ true → sounds a ≡ true → IsAmong plan.number w.holds a.channel (target_of o table a))
        × (is_part o (cut_off tick c j a).channel ≡ true → sounds (cut_off tick c j a) ≡ true
        → IsAmong plan.number w.is (cut_off tick c j a).channel (target_of o table (cut_off tick c j a)))) × IsAside o table c j x a

    all_old : AllByRecursion IsOld b.source.notes
    all_old =
        let among : Note → Type 0 = λ a. is_part o a.channel ≡ true → sounds a ≡ true → IsAmong plan.number w.holds a.channel (target_of o table a) in
        let later : Note → Type 0 = λ a. is_part o a.channel ≡ true → sounds a ≡ true → IsAmong plan.number w.is a.channel (target_of o table a) in
        let is : after ≡ struck b.source tick c j (suc v) = strikes_note b.source tick c j v t.follows.source_zones t.follows.source_settled in
        let all : AllByRecursion later (struck b.source tick c j (suc v)).notes = subst (λ (m : Music). AllByRecursion later m.notes) is
        t.sound.there in
        let fit : IsFine plan.number o table b.source after w.is tick (NoteOn c j (suc v)) =
        fine plan.number o table b.source after w.is tick (NoteOn c j (suc v)) t.sound.faultless in
        all_both (λ a. among a × later (cut_off tick c j a)) (IsAside o table c j x) b.source.notes
        (all_both among (λ a. later (cut_off tick c j a)) b.source.notes t.sound.held
        (front_of later (cut_off tick c j) b.source.notes (new_note b.source tick c j (suc v) ∷ []) all))
        (all_aside o table tick c j v x b.source.notes t.row.route part aim fit.unison fit.restrike)

    old_pair : (a n : Note) → IsOld a → (h : IsPlayedBy plan.number o table w.old a n) → is_part o a.channel ≡ true → sounds a ≡ true →
        n.channel ≡ w.new p → pair_with plan.number a.channel h.target ≡ p
    old_pair a n g h on s here = elim (cases_Bool (is_at c j a)) [
      | inl at ↦ (let alike : is_same_target (Some h.target) (Some x) ≡ true = ap (λ u. is_same_target u (Some x)) (sym h.aim)
          ∙ g.1.same s (at_channel c j a at) (eq-eqb a.key j (at_key c j a at)) in
          ap (λ d. pair_with plan.number d h.target) (at_channel c j a at)
          ∙ ap (pair_with plan.number c) (target_eq h.target x (target_key h.target x alike) (target_steps h.target x alike)))
      | inr at ↦ (let q : Pair = pair_with plan.number a.channel h.target in
          let is : Has w.is q = subst (IsAmong plan.number w.is a.channel) h.aim
          (subst (λ (y : Note). is_part o y.channel ≡ true → sounds y ≡ true → IsAmong plan.number w.is y.channel (target_of o table y))
          (cut_not tick c j a at) g.0.1 on s) in
          let was : Has w.was q = t.sound.was_there q (subst (IsAmong plan.number w.holds a.channel) h.aim (g.0.0 on s)) in
          t.sound.apart_is q p is there (t.sound.kept q was is ∙ sym (h.sounding s).channel ∙ here))
    ]

    silent_here : AllByRecursion (λ (n : Note). n.channel ≡ w.new p → sounds n ≡ false) b.out.notes
    silent_here =
        pair_second (λ a n. IsMatched plan.number o table w.old a n × IsOld a) (λ n. n.channel ≡ w.new p → sounds n ≡ false)
        (λ a n q on. false_from_ne_true (sounds n) (λ s. not_there_yet a n q.0 q.1 on s)) b.source.notes b.out.notes
        (pair_along (IsMatched plan.number o table w.old) IsOld b.source.notes b.out.notes t.follows.notes all_old)
      where
        not_there_yet : (a n : Note) → IsMatched plan.number o table w.old a n → IsOld a → n.channel ≡ w.new p → sounds n ≡ true → ⊥
        not_there_yet a n m g on s =
            let here : is_part o a.channel ≡ true = sym m.retuned ∙ (ap (is_part o) on ∙ t.row.retuned (w.new p) (t.sound.used_is p there)) in
            let h : IsPlayedBy plan.number o table w.old a n = m.played here in
            let sa : sounds a ≡ true = sym (output_sounds plan.number o table w.old a n h) ∙ s in
            both_ways (is_member is_same_pair w.was p) new (subst (Has w.was) (old_pair a n g h here sa on)
            (t.sound.was_there (pair_with plan.number a.channel h.target) (subst (IsAmong plan.number w.holds a.channel) h.aim (g.0.0 here sa))))

    -- so what brings its channel is what the definition sends
    aside_both : (f g l : Channel) → IsSameAside f l → IsSameAside g l → IsSameAside f g
    aside_both f g l h i = record {
      controls = h.controls ∙ sym i.controls;
      params = h.params ∙ sym i.params;
      voice = h.voice ∙ sym i.voice;
      bend = h.bend ∙ sym i.bend;
      pressure = h.pressure ∙ sym i.pressure;
    }

    pub setup_sent : IgnoresTheSelections → bring (w.new p) (state_at b.out (w.new p)) (wanted o table after p)
        ≡ bring (w.new p) (relaxed (state_in s (w.new p))) (wanted o table after p)
    setup_sent law =
        let d : ℕ = w.new p in
        let u : used d ≡ true = t.sound.used_is p there in
        sym (bring_same law d (relaxed (state_in s d)) (state_at b.out d) (wanted o table after p) (record {
          own = aside_both (state_in s d).own (channel_at b.out d) (b.left d) (stands.own d u) (t.follows.states d u);
          keys = sym (silent_pressures d b.out.notes silent_here 0 128);
        }))

  -- ---- what the note on causes

  pub strikes_there : (s : Channels) → ChannelsStand o table used plan ns k s → Has w.was p →
      note_begins plan.number o table w.was after b.out w.new c (suc v) (Some x) ≡ begun_on (wanted o table after p) s p (w.new p) x.key (suc v)
  strikes_there s stands was =
      ap (λ r. cond r [] (bring (w.new p) (state_at b.out (w.new p)) (wanted o table after p)) ++ NoteOn (w.new p) x.key (suc v) ∷ []) was
      ∙ sym (ap (λ r. cond r [] (bring (w.new p) (relaxed (state_in s (w.new p))) (wanted o table after p)) ++ NoteOn (w.new p) x.key (suc v) ∷ [])
      (is_there s stands was))

  pub strikes_new : IgnoresTheSelections → (s : Channels) → ChannelsStand o table used plan ns k s → IsExact plan k c s →
      is_member is_same_pair w.was p ≡ false →
      note_begins plan.number o table w.was after b.out w.new c (suc v) (Some x) ≡ begun_on (wanted o table after p) s p (w.new p) x.key (suc v)
  strikes_new law s stands exact new =
      ap (λ r. cond r [] (bring (w.new p) (state_at b.out (w.new p)) (wanted o table after p)) ++ NoteOn (w.new p) x.key (suc v) ∷ []) new
      ∙ ap (λ ms. ms ++ NoteOn (w.new p) x.key (suc v) ∷ []) (setup_sent s stands exact new law)
      ∙ sym (ap (λ r. cond r [] (bring (w.new p) (relaxed (state_in s (w.new p))) (wanted o table after p)) ++ NoteOn (w.new p) x.key (suc v) ∷ [])
      (false_from_ne_true (is_on s p (w.new p)) (λ g. nowhere s stands exact new (w.new p) low g)))
