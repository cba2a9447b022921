-- Several channels are brought, one after another.
use Rattle.std.proofs.Common.{◌≡◌, ◌≢◌, inl, inr, ℕ, ◌+◌, ◌≤◌, List, [], ◌∷◌, ◌++◌, false, cond, ◌&&◌, nat_eq, refl, ap, sym, ◌∙◌, subst, arith, map}
use Rattle.std.proofs.lemmas.Bool.{cases_eq, and_left, eq-eqb, ne_eqb}
use Rattle.mt_base.specs.Midi.{MidiEvent, Says}
use Rattle.mt_base.specs.declared.event.Msg.{Msg}
use Rattle.midi_model.specs.Channel.{State}
use Rattle.midi_model.specs.WellFormed.{IsWellFormed}
use Rattle.midi_model.specs.Zones.{no_zones}
use Rattle.midi_model.specs.Notes.{Note, sounds, is_at, sounding_on}
use Rattle.midi_model.specs.Music.{Music, state_at, channel_at, play, step}
use Rattle.midi_model.specs.MusicLaws.{IsSettled, EventsSettle}
use Rattle.midi_model.specs.Bring.{bring}
use Rattle.state_laws.specs.Reached.{unselected}
use Rattle.state_laws.specs.Heard.{events_of, brought_to}
use Rattle.state_laws.specs.Several.{Goal, bring_several, IsFree, AreDistinct, IsReady, AreReady, noted, AreBrought}
use Rattle.state_laws.proofs.Laws.{Laws}
use Rattle.state_laws.proofs.Pedals.{map_same, map_then, map_none}
use Rattle.state_laws.proofs.Brought.{plays}
use Rattle.state_laws.proofs.Followed.{followed, other_note, keeps, leaves_others}
use Rattle.state_laws.proofs.Arriving.{arrives, stays_settled, sounds_no_more}

events_append : (t track : ℕ) (a b : List Msg) → events_of t track (a ++ b) ≡ events_of t track a ++ events_of t track b
events_append t track [] b = refl
events_append t track (m ∷ a) b = ap (λ r. record { tick = t; track = track; what = Says m } ∷ r) (events_append t track a b)

play_append : (m : Music) (a b : List MidiEvent) → play m (a ++ b) ≡ play (play m a) b
play_append m [] b = refl
play_append m (e ∷ a) b = play_append (step m e) a b

play_next : (m : Music) (t track : ℕ) (a b : List Msg)
    → play m (events_of t track (a ++ b)) ≡ play (play m (events_of t track a)) (events_of t track b)
play_next m t track a b = ap (play m) (events_append t track a b) ∙ play_append m (events_of t track a) (events_of t track b)

-- ---- the other goals, after one is brought

-- the states of the other channels are the same, so the messages are
several_same : (m x : Music) (gs : List Goal) (c : ℕ) → IsFree c gs → ((d : ℕ) → d ≢ c → state_at x d ≡ state_at m d)
    → bring_several x gs ≡ bring_several m gs
several_same m x [] c f h = refl
several_same m x (g ∷ gs) c f h =
    ap (λ s. bring g.channel s g.state ++ bring_several x gs) (h g.channel (λ e. f.0 (sym e)))
    ∙ ap (λ r. bring g.channel (state_at m g.channel) g.state ++ r) (several_same m x gs c f.1 h)

noted_same : (t : ℕ) (m x : Music) (gs : List Goal) (c : ℕ) (n : Note) → IsFree c gs
    → ((d : ℕ) → d ≢ c → state_at x d ≡ state_at m d) → noted t x gs n ≡ noted t m gs n
noted_same t m x [] c n f h = refl
noted_same t m x (g ∷ gs) c n f h =
    ap (λ s. cond (nat_eq n.channel g.channel) (followed t g.channel s g.state n) (noted t x gs n)) (h g.channel (λ e. f.0 (sym e)))
    ∙ ap (λ r. cond (nat_eq n.channel g.channel) (followed t g.channel (state_at m g.channel) g.state n) r) (noted_same t m x gs c n f.1 h)

-- a note of a channel without a goal is left
noted_other : (t : ℕ) (m : Music) (gs : List Goal) (n : Note) → IsFree n.channel gs → noted t m gs n ≡ n
noted_other t m [] n f = refl
noted_other t m (g ∷ gs) n f =
    ap (λ b. cond b (followed t g.channel (state_at m g.channel) g.state n) (noted t m gs n)) (ne_eqb n.channel g.channel f.0)
    ∙ noted_other t m gs n f.1

-- the next goal sees as many notes on its keys as without the first
sounding_same : (t c d k : ℕ) (now wanted a b : State) (ns : List Note) → d ≢ c
    → sounding_on d k (map (followed t d a b) (map (followed t c now wanted) ns)) ≡ sounding_on d k (map (followed t d a b) ns)
sounding_same t c d k now wanted a b [] h = refl
sounding_same t c d k now wanted a b (n ∷ ns) h = elim (cases_eq n.channel c) [
  | inl e ↦
      let f : Note = followed t c now wanted n in
      let x : Note = followed t d a b f in
      let y : Note = followed t d a b n in
      let ex : nat_eq x.channel d ≡ false = ne_eqb x.channel d (λ z. h (sym z ∙ (keeps t d a b f).channel ∙ (keeps t c now wanted n).channel ∙ e)) in
      let ey : nat_eq y.channel d ≡ false = ne_eqb y.channel d (λ z. h (sym z ∙ (keeps t d a b n).channel ∙ e)) in
      past x (map (followed t d a b) (map (followed t c now wanted) ns)) ex ∙ sounding_same t c d k now wanted a b ns h
      ∙ sym (past y (map (followed t d a b) ns) ey)
  | inr e ↦
      ap (λ m. sounding_on d k (followed t d a b m ∷ map (followed t d a b) (map (followed t c now wanted) ns))) (other_note t c now wanted n e)
      ∙ ap (λ r. cond (is_at d k (followed t d a b n) && sounds (followed t d a b n)) 1 0 + r) (sounding_same t c d k now wanted a b ns h)
]
  where
    past : (m : Note) (ms : List Note) → nat_eq m.channel d ≡ false → sounding_on d k (m ∷ ms) ≡ sounding_on d k ms
    past m ms e = let z : 0 + sounding_on d k ms ≡ sounding_on d k ms = omega arith in
        ap (λ b. cond b 1 0 + sounding_on d k ms) (and_left (is_at d k m) (sounds m) (and_left (nat_eq m.channel d) (nat_eq m.key k) e)) ∙ z

ready_after : Laws → EventsSettle → (m : Music) (t track c : ℕ) (wanted : State) (gs : List Goal) → IsSettled m
    → m.zones ≡ no_zones → c ≤ 15 → IsWellFormed (state_at m c) → IsWellFormed wanted
    → IsFree c gs → AreReady t track m gs → AreReady t track (brought_to m t track c (state_at m c) wanted) gs
ready_after l f m t track c wanted [] s z ok hn hw free r = tt
ready_after l f m t track c wanted (g ∷ gs) s z ok hn hw free r =
    let now : State = state_at m c in
    let x : Music = brought_to m t track c now wanted in
    let d : ℕ = g.channel in
    let a : State = state_at m d in
    let apart : d ≢ c = λ e. free.0 (sym e) in
    let b = plays l m t track c now wanted s z ok hn hw refl in
    let same : state_at x d ≡ a = leaves_others l m t track c d now wanted s z ok hn hw refl apart in
    let own : a.own ≡ channel_at x d = ap (λ y. y.own) (sym same) in
    let first = plays l m t track d a g.state s z r.0.channel r.0.from r.0.wanted refl in
    let then = plays l x t track d a g.state (stays_settled f m t track c now wanted s) b.zones r.0.channel r.0.from r.0.wanted own in
    let count : (k : ℕ) → sounding_on d k (brought_to x t track d a g.state).notes ≡ sounding_on d k (brought_to m t track d a g.state).notes = λ k.
    ap (sounding_on d k) then.notes ∙ ap (λ ns. sounding_on d k (map (followed t d a g.state) ns)) b.notes
    ∙ sounding_same t c d k now wanted a g.state m.notes apart ∙ ap (sounding_on d k) (sym first.notes) in
    let one : IsReady t track x a g = record {
      channel = r.0.channel;
      from = r.0.from;
      wanted = r.0.wanted;
      presses = λ k h. subst (λ (n : ℕ). 1 ≤ n) (sym (count k)) (r.0.presses k h);
    } in
    (subst (λ (y : State). IsReady t track x y g) (sym same) one, ready_after l f m t track c wanted gs s z ok hn hw free.1 r.1)

-- ---- all of them

pub brings_several : Laws → EventsSettle → (m : Music) (t track : ℕ) (gs : List Goal) → IsSettled m → m.zones ≡ no_zones
    → ((c k : ℕ) → sounding_on c k m.notes ≤ 1) → AreDistinct gs → AreReady t track m gs
    → AreBrought t m (play m (events_of t track (bring_several m gs))) gs
brings_several l f m t track [] s z one dis r =
    record { zones = z; settled = s; reached = tt; others = λ d h. refl; notes = sym (map_none (λ n. n) m.notes (λ n. refl)) }
brings_several l f m t track (g ∷ gs) s z one dis r =
    let c : ℕ = g.channel in
    let now : State = state_at m c in
    let x : Music = brought_to m t track c now g.state in
    let b = plays l m t track c now g.state s z r.0.channel r.0.from r.0.wanted refl in
    let settled = stays_settled f m t track c now g.state s in
    let others : (d : ℕ) → d ≢ c → state_at x d ≡ state_at m d =
    λ d h. leaves_others l m t track c d now g.state s z r.0.channel r.0.from r.0.wanted refl h in
    let fewer : (d k : ℕ) → sounding_on d k x.notes ≤ 1 =
    λ d k. (let a = sounds_no_more l m t track c d k now g.state s z r.0.channel r.0.from r.0.wanted refl in let o = one d k in omega (arith, a, o)) in
    let rest =
    brings_several l f x t track gs settled b.zones fewer dis.1 (ready_after l f m t track c g.state gs s z r.0.channel r.0.from r.0.wanted dis.0 r.1) in
    let same : bring_several x gs ≡ bring_several m gs = several_same m x gs c dis.0 others in
    let whole : play m (events_of t track (bring_several m (g ∷ gs))) ≡ play x (events_of t track (bring_several x gs)) =
    play_next m t track (bring c now g.state) (bring_several m gs) ∙ ap (λ ms. play x (events_of t track ms)) (sym same) in
    let arrived : unselected (state_at x c) ≡ unselected g.state =
    arrives l m t track c g.state s z r.0.channel r.0.from r.0.wanted (one c) r.0.presses in
    let each : (n : Note) → noted t x gs (followed t c now g.state n) ≡ noted t m (g ∷ gs) n = λ n. elim (cases_eq n.channel c) [
      | inl e ↦
          let y : Note = followed t c now g.state n in
          let yc : c ≡ y.channel = sym ((keeps t c now g.state n).channel ∙ e) in
          noted_other t x gs y (subst (λ (d : ℕ). IsFree d gs) yc dis.0) ∙ ap (λ w. cond w y (noted t m gs n)) (sym (eq-eqb n.channel c e))
      | inr e ↦
          ap (noted t x gs) (other_note t c now g.state n e) ∙ noted_same t m x gs c n dis.0 others
          ∙ ap (λ w. cond w (followed t c now g.state n) (noted t m gs n)) (sym (ne_eqb n.channel c e))
    ] in
    let made : AreBrought t m (play x (events_of t track (bring_several x gs))) (g ∷ gs) = record {
      zones = rest.zones;
      settled = rest.settled;
      reached = (ap unselected (rest.others c dis.0) ∙ arrived, rest.reached);
      others = λ d h. rest.others d h.1 ∙ others d h.0;
      notes =
          rest.notes ∙ ap (map (noted t x gs)) b.notes ∙ map_then (noted t x gs) (followed t c now g.state) m.notes
          ∙ map_same (λ n. noted t x gs (followed t c now g.state n)) (noted t m (g ∷ gs)) m.notes each;
    } in
    subst (λ (y : Music). AreBrought t m y (g ∷ gs)) (sym whole) made
