-- The law of bringing, from what is proved of bringing a channel to a state.
use Rattle.std.proofs.Common.{◌≡◌, ◌<◌, ◌≤◌, ◌+◌, ℕ, zero, suc, Bool, true, false, cond, not, ◌&&◌, List, [], ◌∷◌, Option, Some, None, is_some, refl, ap, sym, ◌∙◌, subst, map, nat_eq, length, get_or, arith, inl, inr}
use Rattle.std.specs.List.{AllByRecursion}
use Rattle.std.proofs.lemmas.Bool.{cases_Bool, cases_eq, eq-eqb, ne_eqb, eqb-true, and_from}
use Rattle.std.proofs.lemmas.List.{get_or-set_same, get_or-set_other}
use Rattle.mt_base.specs.declared.event.Msg.{Msg}
use Rattle.mt_base.specs.Midi.{Says, MidiEvent}
use Rattle.mt_base.specs.Valid.{IsValidEvent}
use Rattle.midi_model.specs.WellFormed.{IsWellFormed}
use Rattle.midi_model.specs.Channel.{Channel, State, default_channel, control_of}
use Rattle.midi_model.specs.Zones.{no_zones}
use Rattle.midi_model.specs.Notes.{Note, sounds, is_at, sostenuto, sounding_on}
use Rattle.midi_model.specs.Music.{Music, quiet, channel_at, play, key_pressure, key_pressures, state_at}
use Rattle.midi_model.specs.MusicLaws.{IsSettled, EventsSettle}
use Rattle.midi_model.specs.Bring.{bring, apply_all}
use Rattle.state_laws.specs.Reached.{unselected, Reaches}
use Rattle.state_laws.specs.Sent.{SendsValidOnes}
use Rattle.state_laws.specs.StateLaws.{ReceiversAreWellFormed, EachChannelIs}
use Rattle.state_laws.specs.Heard as heard
use Rattle.state_laws.specs.HeardLaws.{Plays}
use Rattle.bend_laws.specs.Brought.{IsSameAside, IsReached}
use Rattle.bend_laws.proofs.Brought.{turned_captured, turned_ended, turned, end_of, pressed, brought, brought_on, IsBroughtTo, BringReaches}
use Rattle.bend_laws.proofs.Lists.{all_weaker, all_both}
use Rattle.bend_laws.proofs.Turned.{sostenuto_here, settle_turned}
use Rattle.bend_laws.proofs.Playing.{saying, settled_reached}

-- at most one note sounds on a key, as after any list of events
abbrev pub OneSounds : Type 0
OneSounds = (es : List MidiEvent) (c k : ℕ) → sounding_on c k (play quiet es).notes ≤ 1

-- each channel of a receiver is well formed after any valid events
abbrev pub ReceiversStay : Type 0
ReceiversStay = (es : List MidiEvent) (c : ℕ) → AllByRecursion IsValidEvent es → IsWellFormed (state_at (play quiet es) c)

pub receivers_stay : ReceiversAreWellFormed → EachChannelIs → ReceiversStay
receivers_stay well each es c v = each (play quiet es) c (well es v)

-- ---- the pressure of a note is that of its key

at_least_one : (c : ℕ) (ns : List Note) → AllByRecursion (λ x. sounds x ≡ true → x.channel ≡ c → 1 ≤ sounding_on c x.key ns) ns
at_least_one c [] = tt
at_least_one c (n ∷ ns) = (
  (λ s e. (let here : cond (is_at c n.key n && sounds n) 1 0 + sounding_on c n.key ns ≡ 1 + sounding_on c n.key ns =
      ap (λ b. cond b 1 0 + sounding_on c n.key ns) (and_from (is_at c n.key n) (sounds n)
      (and_from (nat_eq n.channel c) (nat_eq n.key n.key) (eq-eqb n.channel c e) (eq-eqb n.key n.key refl)) s) in omega (arith, here))),
  all_weaker (λ x. sounds x ≡ true → x.channel ≡ c → 1 ≤ sounding_on c x.key ns) (λ x. sounds x ≡ true → x.channel ≡ c →
      1 ≤ sounding_on c x.key (n ∷ ns))
      (λ x h s e. (let g : 1 ≤ sounding_on c x.key ns = h s e in omega (arith, g))) ns (at_least_one c ns),
)

fewer : (c k : ℕ) (n : Note) (ns : List Note) → sounding_on c k (n ∷ ns) ≤ 1 → sounding_on c k ns ≤ 1
fewer c k n ns h = omega (arith, h)

pub own_pressure : (c : ℕ) (ns : List Note) → ((k : ℕ) → sounding_on c k ns ≤ 1) → AllByRecursion (λ x. sounds x ≡ true → x.channel ≡ c →
    key_pressure ns c x.key ≡ x.pressure) ns
own_pressure c [] one = tt
own_pressure c (n ∷ ns) one = (
  (λ s e. ap (λ b. cond b n.pressure (key_pressure ns c n.key)) (and_from (is_at c n.key n) (sounds n)
      (and_from (nat_eq n.channel c) (nat_eq n.key n.key) (eq-eqb n.channel c e) (eq-eqb n.key n.key refl)) s)),
  all_weaker (λ x. (sounds x ≡ true → x.channel ≡ c → 1 ≤ sounding_on c x.key ns) × (sounds x ≡ true → x.channel ≡ c →
      key_pressure ns c x.key ≡ x.pressure)) (λ x. sounds x ≡ true → x.channel ≡ c → key_pressure (n ∷ ns) c x.key ≡ x.pressure)
      (λ x h s e. elim (cases_Bool (is_at c x.key n && sounds n)) [
        | inl b ↦ absurd (let g : 1 ≤ sounding_on c x.key ns = h.0 s e in
            let i : cond (is_at c x.key n && sounds n) 1 0 + sounding_on c x.key ns ≡ 1 + sounding_on c x.key ns =
            ap (λ q. cond q 1 0 + sounding_on c x.key ns) b in
            let j : sounding_on c x.key (n ∷ ns) ≤ 1 = one x.key in omega (arith, g, i, j))
        | inr b ↦ ap (λ q. cond q n.pressure (key_pressure ns c x.key)) b ∙ h.1 s e
      ]) ns (all_both (λ x. sounds x ≡ true → x.channel ≡ c → 1 ≤ sounding_on c x.key ns)
      (λ x. sounds x ≡ true → x.channel ≡ c → key_pressure ns c x.key ≡ x.pressure) ns (at_least_one c ns)
      (own_pressure c ns (λ k. fewer c k n ns (one k)))),
)

-- the list of pressures at a key
pub pressure_at : (ns : List Note) (c a n k : ℕ) → k < n → get_or (key_pressures ns c a n) k 0 ≡ key_pressure ns c (a + k)
pressure_at ns c a zero k l = absurd (omega arith)
pressure_at ns c a (suc n) zero l = ap (key_pressure ns c) (let e : a ≡ a + 0 = omega arith in e)
pressure_at ns c a (suc n) (suc k) l = pressure_at ns c (suc a) n k (omega arith) ∙ ap (key_pressure ns c)
    (let e : suc a + k ≡ a + suc k = omega arith in e)

-- ---- one note

pedalled_is : (t c : ℕ) (now : Channel) (w : Channel) (n : Note) → n.channel ≡ c → heard.pedalled t c now w n ≡ turned t now w n.pressure n
pedalled_is t c now w n h =
    let k : Bool = turned_captured (control_of now 66) (control_of w 66) n.release n.captured n.ended in
    ap (λ b. cond b (heard.let_go t (control_of w 64) (sostenuto no_zones c (control_of now 66) (control_of w 66) n)) n) (eq-eqb n.channel c h)
    ∙ ap (heard.let_go t (control_of w 64)) (sostenuto_here c (control_of now 66) (control_of w 66) n h)
    ∙ settle_turned t (control_of now 66) (control_of w 66) (control_of w 64) n.pressure n n.ended

-- the pressure, once the note is turned
abbrev pressing : (c : ℕ) → (before after : List ℕ) → Note → ℕ → Note
pressing c before after q p = cond ((nat_eq q.channel c && sounds q) && not (nat_eq (get_or before q.key 0) (get_or after q.key 0)))
    (record q { pressure = get_or after q.key 0 }) q

pressed_is : (c : ℕ) (before after : List ℕ) (n : Note) (k : Bool) (e : Option ℕ) → n.channel ≡ c →
    (not (is_some e) ≡ true → n.pressure ≡ get_or before n.key 0) →
    (let q : Note = record n { captured = k; ended = e } in heard.pressed c before after q
    ≡ record n { captured = k; pressure = pressed after n.key n.pressure e; ended = e })
pressed_is c before after n k (Some x) h g = pick (nat_eq n.channel c)
  where
    pick : (b : Bool) → cond ((b && false) && not (nat_eq (get_or before n.key 0) (get_or after n.key 0)))
        (record n { captured = k; pressure = get_or after n.key 0; ended = Some x }) (record n { captured = k; ended = Some x })
        ≡ record n { captured = k; ended = Some x }
    pick true = refl
    pick false = refl
pressed_is c before after n k None h g =
    ap (λ b. cond ((b && true) && not (nat_eq (get_or before n.key 0) (get_or after n.key 0)))
    (record n { captured = k; pressure = get_or after n.key 0; ended = None }) (record n { captured = k; ended = None })) (eq-eqb n.channel c h)
    ∙ elim (cases_Bool (nat_eq (get_or before n.key 0) (get_or after n.key 0))) [
      | inl e ↦ ap (λ b. cond (not b) (record n { captured = k; pressure = get_or after n.key 0; ended = None })
          (record n { captured = k; ended = None })) e
          ∙ ap (λ p. let y : Note = record n { captured = k; pressure = p; ended = None } in y)
          (g refl ∙ eqb-true (get_or before n.key 0) (get_or after n.key 0) e)
      | inr e ↦ ap (λ b. cond (not b) (record n { captured = k; pressure = get_or after n.key 0; ended = None })
          (record n { captured = k; ended = None })) e
    ]

sounded : (t x y h : ℕ) (r : Option (ℕ × ℕ)) (k : Bool) (e : Option ℕ) → not (is_some (turned_ended t x y h r k e)) ≡ true → not (is_some e) ≡ true
sounded t x y h r k None s = refl
sounded t x y h r k (Some e) s = s

one_note : (c t : ℕ) (now w : State) (n : Note) → (sounds n ≡ true → n.channel ≡ c → n.pressure ≡ get_or now.keys n.key 0) →
    heard.pressed c now.keys w.keys (heard.pedalled t c now.own w.own n) ≡ brought_on c t now.own w n
one_note c t now w n own = elim (cases_eq n.channel c) [
  | inl h ↦ ap (heard.pressed c now.keys w.keys) (pedalled_is t c now.own w.own n h)
      ∙ pressed_is c now.keys w.keys n (turned_captured (control_of now.own 66) (control_of w.own 66) n.release n.captured n.ended)
      (end_of t now.own w.own n) h
      (λ s. own (sounded t (control_of now.own 66) (control_of w.own 66) (control_of w.own 64) n.release n.captured n.ended s) h)
      ∙ sym (ap (λ b. cond b (brought t now.own w n) n) (eq-eqb n.channel c h))
  | inr h ↦ ap (λ b. heard.pressed c now.keys w.keys (cond b (heard.let_go t (control_of w.own 64)
      (sostenuto no_zones c (control_of now.own 66) (control_of w.own 66) n)) n)) (ne_eqb n.channel c h)
      ∙ ap (λ b. cond ((b && sounds n) && not (nat_eq (get_or now.keys n.key 0) (get_or w.keys n.key 0)))
      (record n { pressure = get_or w.keys n.key 0 }) n) (ne_eqb n.channel c h)
      ∙ sym (ap (λ b. cond b (brought t now.own w n) n) (ne_eqb n.channel c h))
]

all_notes : (f g : Note → Note) (ns : List Note) → AllByRecursion (λ n. f n ≡ g n) ns → map f ns ≡ map g ns
all_notes f g [] h = refl
all_notes f g (n ∷ ns) h = ap (λ x. x ∷ map f ns) h.0 ∙ ap (λ xs. g n ∷ xs) (all_notes f g ns h.1)

-- ---- the law

pub same_events : (e : MidiEvent) (ms : List Msg) → heard.events_of e.tick e.track ms ≡ saying e ms
same_events e [] = refl
same_events e (m ∷ ms) = ap (λ es. (let x : MidiEvent = record e { what = Says m } in x) ∷ es) (same_events e ms)

same_aside : (a w : State) → unselected a ≡ unselected w → IsSameAside a.own w.own
same_aside a w h = record {
  controls = ap (λ (s : State). s.own.controls) h;
  params = ap (λ (s : State). s.own.params) h;
  voice = ap (λ (s : State). s.own.voice) h;
  bend = ap (λ (s : State). s.own.bend) h;
  pressure = ap (λ (s : State). s.own.pressure) h;
}

pub well_reached : ReceiversStay → (m : Music) (c : ℕ) → IsReached m → IsWellFormed (state_at m c)
well_reached law m c r = subst (λ x. IsWellFormed (state_at x c)) (sym r.is) (law r.events c r.valid)

pub bring_reaches : EventsSettle → OneSounds → ReceiversStay → Reaches → SendsValidOnes → Plays → BringReaches IsWellFormed
bring_reaches settle one stay reach valid plays = record {
  wide = λ a h. h.controls;
  valid = λ m c w r low h. valid c (state_at m c) w (well_reached stay m c r) h (omega (arith, low));
  reaches = λ m e c w z r low keys h.
      let now : State = state_at m c in
      let good : IsWellFormed now = well_reached stay m c r in
      let settled : IsSettled m = settled_reached settle m r in
      let x : Music = play m (heard.events_of e.tick e.track (bring c now w)) in
      let is : heard.IsBrought e.tick c now w m x = plays m e.tick e.track c now w (record {
        settled = settled;
        no_zone = z;
        channel =
            omega (arith, low);
        from = good;
        to = h;
        own = refl;
      }) in
      let wide : c < length m.channels = (let l : length m.channels ≡ 16 = settled.channels in omega (arith, l, low)) in
      let at : channel_at x c ≡ (apply_all now (bring c now w)).own = ap (λ ss. get_or ss c default_channel) is.channels
      ∙ get_or-set_same m.channels c (apply_all now (bring c now w)).own default_channel wide in
      let own : AllByRecursion (λ n. sounds n ≡ true → n.channel ≡ c → key_pressure m.notes c n.key ≡ n.pressure) m.notes =
      own_pressure c m.notes (λ k. subst (λ (y : Music). sounding_on c k y.notes ≤ 1) (sym r.is) (one r.events c k)) in
      let notes : AllByRecursion (λ n. heard.pressed c now.keys w.keys (heard.pedalled e.tick c now.own w.own n)
      ≡ brought_on c e.tick now.own w n) m.notes =
      all_weaker (λ n. (sounds n ≡ true → n.channel ≡ c → key_pressure m.notes c n.key ≡ n.pressure) × (n.channel ≡ c → n.key < 128))
      (λ n. heard.pressed c now.keys w.keys (heard.pedalled e.tick c now.own w.own n) ≡ brought_on c e.tick now.own w n)
      (λ n q. one_note c e.tick now w n (λ s i. sym (pressure_at m.notes c 0 128 n.key (q.1 i) ∙ ap (key_pressure m.notes c)
      (let u : 0 + n.key ≡ n.key = omega arith in u) ∙ q.0 s i)))
      m.notes (all_both (λ n. sounds n ≡ true → n.channel ≡ c → key_pressure m.notes c n.key ≡ n.pressure)
      (λ n. n.channel ≡ c → n.key < 128) m.notes own keys) in
      let done : IsBroughtTo c e.tick w m x = record {
        channel = subst (λ s. IsSameAside s w.own) (sym at) (same_aside (apply_all now (bring c now w)) w (reach c now w good h));
        others = λ d i. ap (λ ss. get_or ss d default_channel) is.channels
            ∙ get_or-set_other m.channels c d (apply_all now (bring c now w)).own default_channel i;
        zones = is.zones ∙ sym z;
        notes = is.notes ∙ all_notes (λ n. heard.pressed c now.keys w.keys (heard.pedalled e.tick c now.own w.own n))
            (brought_on c e.tick now.own w) m.notes notes;
      } in
      subst (λ es. IsBroughtTo c e.tick w m (play m es)) (same_events e (bring c now w)) done;
}
