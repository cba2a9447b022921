-- A message of a part that is of no note: what its channels were given to, and what is sent on them.
use Rattle.std.proofs.Common.{◌≡◌, ◌≢◌, ◌<◌, ◌&&◌, ℕ, ℤ, pos, suc, get_or, map, slice_index, Bool, true, false, cond, nat_eq, List, refl, ap, sym, ◌∙◌, subst, inl, inr}
use Rattle.std.proofs.lemmas.Bool.{cases_Bool, and_parts, and_from, eqb-true, eq-eqb, cases_eq, false_from_ne_true}
use Rattle.mt_base.specs.Midi.{MidiEvent}
use Rattle.midi_model.specs.Sysex.{doing}
use Rattle.midi_model.specs.Channel.{State, default_state}
use Rattle.midi_model.specs.Music.{Music, channel_at, state_at, step}
use Rattle.midi_model.specs.Bring.{bring}
use Rattle.retune_model.specs.Dump.{from_up}
use Rattle.retune_model.specs.Options.{Options}
use Rattle.retune_model.specs.Faults.{Targets, int_eq}
use Rattle.retune_model.specs.Pairs.{Pair}
use Rattle.retune_model.specs.Ports.{Numbered, resets}
use Rattle.channel_model.specs.Choice.{wanted}
use Rattle.channel_model.specs.BendOutput.{PortRuns, held_by, bring_all, send_all}
use Rattle.state_laws.specs.Reached.{Match, unselected, IgnoresTheSelections}
use Rattle.bend_laws.specs.Brought.{IsSameAside}
use Rattle.bend_laws.specs.Follows.{Has}
use Rattle.bend_laws.specs.Moments.{Moment, Both, moment}
use Rattle.bend_laws.specs.Positions.{both_at}
use Rattle.bend_laws.specs.Simulation.{IsState}
use Rattle.bend_laws.proofs.Altered.{same_aside}
use Rattle.bend_laws.proofs.Equal.{same_int, int_itself}
use Rattle.bend_laws.proofs.Stepping.{Quiet}
use Rattle.receiver.specs.Notes.{has}
use Rattle.receiver.specs.State.{state_of}
use Rattle.route_bend.specs.Channels.{is_given, is_on, steps_in, state_in, pair_on, Leaves, Renews}
use Rattle.route_bend.specs.Sent.{brought, sent}
use Rattle.route_bend.specs.Standing.{ChannelsStand, IsExact, AreRenewed}
use Rattle.route_bend.specs.Turning.{IsTurn}
use Rattle.route_bend.specs.declared.channels.Channels.{Channels}
use Rattle.route_bend.proofs.Held.{AreHeld, held_same, brought_is, sent_is}
use Rattle.route_bend.proofs.Owning.{own_goes_on, own_kept}

-- ---- states that are the same, what is selected aside

pub matched : (a b : State) → IsState a b → Match a b
matched a b h =
    ap (λ x. let s : State = record {
      own = record {
        controls = x;
        selection = (unselected a).own.selection;
        params = a.own.params;
        voice
            = a.own.voice;
        bend = a.own.bend;
        pressure = a.own.pressure;
      };
      keys = a.keys;
    } in s) h.own.controls
    ∙ ap (λ x. let s : State = record {
      own = record {
        controls = b.own.controls;
        selection = (unselected a).own.selection;
        params = x;
        voice
            = a.own.voice;
        bend = a.own.bend;
        pressure = a.own.pressure;
      };
      keys = a.keys;
    } in s) h.own.params
    ∙ ap (λ x. let s : State = record {
      own = record {
        controls = b.own.controls;
        selection = (unselected a).own.selection;
        params = b.own.params;
        voice = x;
        bend = a.own.bend;
        pressure = a.own.pressure;
      };
      keys = a.keys;
    } in s) h.own.voice
    ∙ ap (λ x. let s : State = record {
      own = record {
        controls = b.own.controls;
        selection = (unselected a).own.selection;
        params = b.own.params;
        voice = b.own.voice;
        bend = x;
        pressure = a.own.pressure;
      };
      keys = a.keys;
    } in s) h.own.bend
    ∙ ap (λ x. let s : State = record {
      own = record {
        controls = b.own.controls;
        selection = (unselected a).own.selection;
        params = b.own.params;
        voice = b.own.voice;
        bend = b.own.bend;
        pressure = x;
      };
      keys = a.keys;
    } in s) h.own.pressure
    ∙ ap (λ x. let s : State = record {
      own = record {
        controls = b.own.controls;
        selection = (unselected a).own.selection;
        params = b.own.params;
        voice = b.own.voice;
        bend = b.own.bend;
        pressure = b.own.pressure;
      };
      keys = x;
    } in s) h.keys

pub bring_same : IgnoresTheSelections → (c : ℕ) (a b wanted : State) → IsState a b → bring c a wanted ≡ bring c b wanted
bring_same law c a b wanted h = law c a wanted b wanted (matched a b h) refl

-- ---- what a channel was given to

pub on_given : (s : Channels) (p : Pair) (c : ℕ) → is_on s p c ≡ true → is_given s p.part.channel c ≡ true
on_given s p c h = (and_parts (is_given s p.part.channel c) (int_eq (steps_in s c) p.steps) h).0

pub on_steps : (s : Channels) (p : Pair) (c : ℕ) → is_on s p c ≡ true → steps_in s c ≡ p.steps
on_steps s p c h = same_int (steps_in s c) p.steps (and_parts (is_given s p.part.channel c) (int_eq (steps_in s c) p.steps) h).1

int_own : (s : Channels) (c : ℕ) → int_eq (steps_in s c) (steps_in s c) ≡ true
int_own s c = int_itself (steps_in s c)

-- the pair that a part's channel was given to
pub given_on : (s : Channels) (a c : ℕ) → is_given s a c ≡ true → is_on s (pair_on s a c) c ≡ true
given_on s a c h = and_from (is_given s a c) (int_eq (steps_in s c) (steps_in s c)) h (int_own s c)

pair_parts : (x y : ℕ) (a : ℕ) (i j : ℤ) → x ≡ y → i ≡ j → (let p : Pair = record { part = record { port = x; channel = a }; steps = i } in p)
    ≡ record { part = record { port = y; channel = a }; steps = j }
pair_parts x y a i j e f = ap (λ n. let p : Pair = record { part = record { port = n; channel = a }; steps = i } in p) e
    ∙ ap (λ q. let p : Pair = record { part = record { port = y; channel = a }; steps = q } in p) f

pub on_pair : (s : Channels) (p : Pair) (c : ℕ) → s.port ≡ p.part.port → is_on s p c ≡ true → pair_on s p.part.channel c ≡ p
on_pair s p c port h = pair_parts s.port p.part.port p.part.channel (steps_in s c) p.steps port (on_steps s p c h)

-- ---- after some of them are let go of

module _ (o : Options) (table : Targets) (used : ℕ → Bool) (plan : PortRuns) (ns : List Numbered) (k : ℕ) (e : MidiEvent)
    (t : IsTurn o table used plan ns k e) (part : ℕ) (s x : Channels) (stays : Pair → Bool)
    (stands : ChannelsStand o table used plan ns k s) (leaves : Leaves stays part s x) where
  abbrev pub b : Both
  b = both_at o table plan ns k

  abbrev pub w : Moment
  w = moment plan k

  abbrev pub after : Music
  after = step (both_at o table plan ns k).source e

  -- those that stay are the ones that are held at the event
  abbrev pub Holds : Type 0
  Holds = (p : Pair) → Has w.was p → p.part.channel ≡ part → ((stays p ≡ true → Has w.holds p) × (Has w.holds p → stays p ≡ true))

  given_before : (a c : ℕ) → c < 16 → is_given x a c ≡ true → is_given s a c ≡ true
  given_before a c low h = elim (cases_Bool (nat_eq a part)) [
    | inl i ↦ (and_parts (is_given s a c) (stays (pair_on s a c)) (ap (λ r. cond r (is_given s a c && stays (pair_on s a c)) (is_given s a c)) (sym i)
        ∙ sym (leaves.given a c low) ∙ h)).0
    | inr i ↦ ap (λ r. cond r (is_given s a c && stays (pair_on s a c)) (is_given s a c)) (sym i) ∙ sym (leaves.given a c low) ∙ h
  ]

  stays_on : (c : ℕ) → c < 16 → is_given x part c ≡ true → stays (pair_on s part c) ≡ true
  stays_on c low h = (and_parts (is_given s part c) (stays (pair_on s part c)) (ap (λ r. cond r (is_given s part c && stays (pair_on s part c))
      (is_given s part c)) (sym (eq-eqb part part refl)) ∙ sym (leaves.given part c low) ∙ h)).1

  pub same_pair_on : (a c : ℕ) → pair_on x a c ≡ pair_on s a c
  same_pair_on a c = pair_parts x.port s.port a (steps_in x c) (steps_in s c) leaves.kept.port (ap (λ l. get_or l c (pos 0)) leaves.steps)

  pub on_before : (p : Pair) (c : ℕ) → c < 16 → is_on x p c ≡ true → is_on s p c ≡ true
  on_before p c low h = and_from (is_given s p.part.channel c) (int_eq (steps_in s c) p.steps) (given_before p.part.channel c low (on_given x p c h))
      (ap (λ l. int_eq (get_or l c (pos 0)) p.steps) (sym leaves.steps)
      ∙ (and_parts (is_given x p.part.channel c) (int_eq (steps_in x c) p.steps) h).1)

  -- a pair that is held keeps its channel
  pub held_on : Holds → (p : Pair) → Has w.holds p → is_on x p (w.old p) ≡ true
  held_on holds p h =
      let was : Has w.was p = t.sound.was_there p h in
      let c : ℕ = w.old p in
      let low : c < 16 = t.row.channel c (t.sound.used_was p was) in
      let on : is_on s p c ≡ true = stands.on p was in
      and_from (is_given x p.part.channel c) (int_eq (steps_in x c) p.steps)
      (leaves.given p.part.channel c low ∙ pick p c on (nat_eq p.part.channel part) refl (λ i. (holds p was i).1 h)
      (stands.port ∙ sym (t.sound.ports_was p was)))
      (ap (λ l. int_eq (get_or l c (pos 0)) p.steps) leaves.steps ∙ (and_parts (is_given s p.part.channel c) (int_eq (steps_in s c) p.steps) on).1)
    where
      pick : (p : Pair) (c : ℕ) → is_on s p c ≡ true → (r : Bool) → nat_eq p.part.channel part ≡ r → (p.part.channel ≡ part → stays p ≡ true) →
          s.port ≡ p.part.port →
          cond r (is_given s p.part.channel c && stays (pair_on s p.part.channel c)) (is_given s p.part.channel c) ≡ true
      pick p c on true i f port = and_from (is_given s p.part.channel c) (stays (pair_on s p.part.channel c)) (on_given s p c on)
          (ap stays (on_pair s p c port on) ∙ f (eqb-true p.part.channel part i))
      pick p c on false i f port = on_given s p c on

  -- what is still given to the part are the channels that it holds
  pub are_held : Holds → IsExact plan k part s → AreHeld x w.old part w.holds
  are_held holds exact = record {
    distinct = t.sound.once;
    apart = λ p q h i f. t.sound.apart_was p q (t.sound.was_there p h) (t.sound.was_there q i) f;
    low = λ p h. t.row.channel (w.old p) (t.sound.used_was p (t.sound.was_there p h));
    given = λ p h i. subst (λ a. is_given x a (w.old p) ≡ true) i (on_given x p (w.old p) (held_on holds p h));
    pair = λ p h i. subst (λ a. pair_on x a (w.old p) ≡ p) i (on_pair x p (w.old p) (leaves.kept.port ∙ stands.port
        ∙ sym (t.sound.ports_was p (t.sound.was_there p h))) (held_on holds p h));
    there = λ c low g. there_on c low g;
    placed = λ c low g. place_on c low g;
  }
    where
      was_on : (c : ℕ) → c < 16 → is_given x part c ≡ true → Has w.was (pair_on s part c)
      was_on c low g = exact c low (given_before part c low g)

      there_on : (c : ℕ) → c < 16 → is_given x part c ≡ true → Has w.holds (pair_on x part c)
      there_on c low g = subst (Has w.holds) (sym (same_pair_on part c)) ((holds (pair_on s part c) (was_on c low g) refl).0 (stays_on c low g))

      place_on : (c : ℕ) → c < 16 → is_given x part c ≡ true → w.old (pair_on x part c) ≡ c
      place_on c low g =
          let p : Pair = pair_on s part c in
          let was : Has w.was p = was_on c low g in
          ap w.old (same_pair_on part c)
          ∙ stands.once p (w.old p) c (t.row.channel (w.old p) (t.sound.used_was p was)) low (stands.on p was)
          (given_on s part c (given_before part c low g))

  -- ---- once it is brought

  module _ (none : resets (doing e.what) ≡ false) (quiet : Quiet w) (holds : Holds) (exact : IsExact plan k part s) (y : Channels) where
    held : AreHeld x w.old part w.holds
    held = are_held holds exact

    state_before : (c : ℕ) → state_in x c ≡ state_in s c
    state_before c = ap (λ l. get_or (map state_of l) c default_state) leaves.kept.states

    pub once_left : (z : Channels) → z.given ≡ x.given → z.steps ≡ x.steps → (p : Pair) (c d : ℕ) → c < 16 → d < 16 → is_on z p c ≡ true → is_on z p d
        ≡ true → c ≡ d
    once_left z given steps p c d l m g h =
        stands.once p c d l m (on_before p c l (on_alike p c g)) (on_before p d m (on_alike p d h))
      where
        on_alike : (p : Pair) (c : ℕ) → is_on z p c ≡ true → is_on x p c ≡ true
        on_alike p c g = ap (λ l. has (slice_index l p.part.channel) c && int_eq (steps_in x c) p.steps) (sym given)
            ∙ ap (λ l. has (slice_index z.given p.part.channel) c && int_eq (get_or l c (pos 0)) p.steps) (sym steps) ∙ g

    pub on_left : (z : Channels) → z.given ≡ x.given → z.steps ≡ x.steps → (p : Pair) → Has w.is p → is_on z p (w.new p) ≡ true
    on_left z given steps p i =
        let h : Has w.holds p = quiet.held p i in
        ap (λ l. has (slice_index l p.part.channel) (w.new p) && int_eq (steps_in z (w.new p)) p.steps) given
        ∙ ap (λ l. has (slice_index x.given p.part.channel) (w.new p) && int_eq (get_or l (w.new p) (pos 0)) p.steps) steps
        ∙ subst (λ c. is_on x p c ≡ true) (sym (quiet.stays p i)) (held_on holds p h)

    -- the part's channels are as its pairs need them now
    pub brought_stands : ((d : ℕ) → d ≢ part → channel_at after d ≡ channel_at b.source d) → Renews (wanted o table after) part x y →
        ChannelsStand o table used plan ns (suc k) y
    brought_stands others renews = record {
      port = renews.kept.port ∙ leaves.kept.port ∙ stands.port;
      on = on_left y renews.kept.given renews.kept.steps;
      once = once_left y renews.kept.given renews.kept.steps;
      own = own_goes_on o table used plan ns k e t none (λ c. (state_in y c).own) (λ p g. absurd (quiet.none p g))
          (λ p h free. on_held p h) (λ c u free out. on_free c u out);
    }
      where
        own_before : (c : ℕ) → used c ≡ true → IsSameAside (state_in x c).own (b.left c)
        own_before c u = subst (λ r. IsSameAside r (b.left c)) (ap (λ r. r.own) (sym (state_before c))) (stands.own c u)

        kept_at : (c : ℕ) → c < 16 → is_given x part c ≡ false → (state_in x c).own ≡ (state_in y c).own
        kept_at c low g = ap (λ r. r.own) (sym (renews.states c low ∙ ap (λ r. cond r (wanted o table after (pair_on x part c)) (state_in x c)) g))

        on_held : (p : Pair) → Has w.holds p → IsSameAside (state_in y (w.old p)).own (wanted o table after p).own
        on_held p h = elim (cases_eq p.part.channel part) [
          | inl i ↦ same_aside (state_in y (w.old p)).own (wanted o table after p).own (ap (λ r. r.own)
              (renews.states (w.old p) (held.low p h)
              ∙ ap (λ r. cond r (wanted o table after (pair_on x part (w.old p))) (state_in x (w.old p))) (held.given p h i)
              ∙ ap (wanted o table after) (held.pair p h i)))
          | inr i ↦ subst (λ r. IsSameAside r (wanted o table after p).own) (kept_at (w.old p) (held.low p h) (not_given p h i))
              (own_kept o table used plan ns k e t (λ c. (state_in x c).own) own_before p h (others p.part.channel i))
        ]
          where
            not_given : (p : Pair) → Has w.holds p → p.part.channel ≢ part → is_given x part (w.old p) ≡ false
            not_given p h i = false_from_ne_true (is_given x part (w.old p)) (λ g.
                i (ap (λ (q : Pair). q.part.channel) (sym (held.apart (pair_on x part (w.old p)) p (held.there (w.old p) (held.low p h) g) h
                (held.placed (w.old p) (held.low p h) g)))))

        on_free : (c : ℕ) → used c ≡ true → ((p : Pair) → Has w.holds p → w.old p ≢ c) → IsSameAside (state_in y c).own (b.left c)
        on_free c u out =
            let low : c < 16 = t.row.channel c u in
            subst (λ r. IsSameAside r (b.left c)) (kept_at c low (false_from_ne_true (is_given x part c) (λ g.
            out (pair_on x part c) (held.there c low g) (held.placed c low g)))) (own_before c u)

    -- the channels are as they were
    pub left_stands : ((d : ℕ) → channel_at after d ≡ channel_at b.source d) → ChannelsStand o table used plan ns (suc k) x
    left_stands same = record {
      port = leaves.kept.port ∙ stands.port;
      on = on_left x refl refl;
      once = once_left x refl refl;
      own = own_goes_on o table used plan ns k e t none (λ c. (state_in x c).own) (λ p g. absurd (quiet.none p g))
          (λ p h free. own_kept o table used plan ns k e t (λ c. (state_in x c).own) own_before p h (same p.part.channel))
          (λ c u free out. own_before c u);
    }
      where
        own_before : (c : ℕ) → used c ≡ true → IsSameAside (state_in x c).own (b.left c)
        own_before c u = subst (λ r. IsSameAside r (b.left c)) (ap (λ r. r.own) (sym (state_before c))) (stands.own c u)

    -- what brings them is what the definition sends
    pub brought_sent : IgnoresTheSelections → AreRenewed o table plan ns k part s → bring_all o table after b.out (held_by w.old part w.holds)
        ≡ brought (wanted o table after) x part (from_up 0 16)
    brought_sent law renewed =
        ap (bring_all o table after b.out) (held_same x w.old part w.holds held)
        ∙ sym (brought_is o table after b.out x part (λ c low g. bring_same law c (state_in x c) (state_at b.out c)
        (wanted o table after (pair_on x part c))
        (subst (λ r. IsState r (state_at b.out c)) (sym (state_before c)) (renewed c low (given_before part c low g)))))

    pub sent_sent : (n v : ℕ) → send_all n v (held_by w.old part w.holds) ≡ sent x part n v (from_up 0 16)
    sent_sent n v = ap (send_all n v) (held_same x w.old part w.holds held) ∙ sym (sent_is x part n v)
