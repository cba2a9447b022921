-- The channel is at the wanted state, key pressures too; and what single controllers do.
use Rattle.std.proofs.Common.{◌≡◌, ◌≢◌, inl, inr, ℕ, zero, suc, ◌+◌, ◌≤◌, ◌<◌, List, [], ◌∷◌, Bool, true, false, cond, ◌&&◌, not, nat_eq, refl, ap, sym, ◌∙◌, subst, arith, length, map, get_or}
use Rattle.std.proofs.lemmas.Bool.{cases_eq, cases_Bool, and_parts, eqb-true, eq-eqb, false≢true}
use Rattle.std.proofs.lemmas.List.{get_or-set_same}
use Rattle.midi_model.specs.Channel.{Channel, State, default_channel, control_of, nothing_selected}
use Rattle.midi_model.specs.WellFormed.{IsWellFormed}
use Rattle.midi_model.specs.Zones.{no_zones}
use Rattle.midi_model.specs.Notes.{Note, sounds, is_at, is_pedal_down, sostenuto, sounding_on}
use Rattle.midi_model.specs.Music.{Music, step, play, channel_at, key_pressure, key_pressures, state_at}
use Rattle.midi_model.specs.MusicLaws.{IsSettled, EventsSettle}
use Rattle.mt_base.specs.Midi.{MidiEvent}
use Rattle.midi_model.specs.Bring.{apply_all, bring}
use Rattle.state_laws.specs.Reached.{unselected}
use Rattle.state_laws.specs.Heard.{events_of, let_go, pedalled, pressed, brought_to}
use Rattle.state_laws.proofs.Laws.{Laws}
use Rattle.state_laws.proofs.Reaching.{last_state, bring_reach}
use Rattle.state_laws.proofs.Pedals.{sostenuto_keeps, let_go_keeps}
use Rattle.state_laws.proofs.Brought.{plays}
use Rattle.state_laws.proofs.Followed.{followed, ended_note, keeps, keeps_pedalled, ends_none}

-- ---- the pressure of a key

abbrev on_key : ℕ → ℕ → Note → Bool
on_key c k n = is_at c k n && sounds n

sounds_before : (t c : ℕ) (now wanted : State) (n : Note) → sounds (followed t c now wanted n) ≡ true → sounds n ≡ true
sounds_before t c now wanted n e = elim (cases_Bool (sounds n)) [
  | inl h ↦ h
  | inr h ↦ absurd (false≢true (sym h ∙ sym (ap sounds (ended_note t c now wanted n h)) ∙ e))
]

sounds_pressed : (c : ℕ) (before after : List ℕ) (n : Note) → sounds (pressed c before after n) ≡ sounds n
sounds_pressed c before after n = pick ((nat_eq n.channel c && sounds n) && not (nat_eq (get_or before n.key 0) (get_or after n.key 0)))
  where
    pick : (b : Bool) → sounds (cond b (record n { pressure = get_or after n.key 0 }) n) ≡ sounds n
    pick true = refl
    pick false = refl

pressure_pedalled : (t c : ℕ) (now wanted : Channel) (n : Note) → (pedalled t c now wanted n).pressure ≡ n.pressure
pressure_pedalled t c now wanted n = pick (nat_eq n.channel c)
  where
    pick : (b : Bool) → (let x : Note = cond b (let_go t (control_of wanted 64) (sostenuto no_zones c (control_of now 66) (control_of wanted 66) n)) n in x.pressure) ≡ n.pressure
    pick true =
        let_go_keeps (λ x. x.pressure) t (control_of wanted 64) (sostenuto no_zones c (control_of now 66) (control_of wanted 66) n) (λ e. refl)
        ∙ sostenuto_keeps (λ x. x.pressure) no_zones c (control_of now 66) (control_of wanted 66) n (λ d. refl)
    pick false = refl

pressed_to : (c : ℕ) (before after : List ℕ) (n : Note) → n.channel ≡ c → sounds n ≡ true
    → n.pressure ≡ get_or before n.key 0 → (pressed c before after n).pressure ≡ get_or after n.key 0
pressed_to c before after n h s p =
    pick (nat_eq n.channel c) (sounds n) (nat_eq (get_or before n.key 0) (get_or after n.key 0)) refl (eq-eqb n.channel c h) s
  where
    pick : (a b d : Bool) → nat_eq (get_or before n.key 0) (get_or after n.key 0) ≡ d → a ≡ true → b ≡ true → (let x : Note = cond ((a && b) && not d) (record n { pressure = get_or after n.key 0 }) n in x.pressure) ≡ get_or after n.key 0
    pick true true true e f g = p ∙ eqb-true (get_or before n.key 0) (get_or after n.key 0) e
    pick true true false e f g = refl
    pick true false d e f g = absurd (false≢true g)
    pick false b d e f g = absurd (false≢true f)

-- a note that sounds on a key then sounded on it before
on_key_before : (t c k : ℕ) (now wanted : State) (n : Note) → on_key c k (followed t c now wanted n) ≡ true → on_key c k n ≡ true
on_key_before t c k now wanted n e =
    let f : Note = followed t c now wanted n in
    let ks = keeps t c now wanted n in
    let p = and_parts (is_at c k f) (sounds f) e in
    let at : is_at c k n ≡ true =
    ap (λ x. nat_eq x c && nat_eq n.key k) (sym ks.channel) ∙ ap (λ x. nat_eq f.channel c && nat_eq x k) (sym ks.key) ∙ p.0 in
    rw (at) (sounds_before t c now wanted n p.1)

nothing_on : (t c k : ℕ) (now wanted : State) (ns : List Note) → sounding_on c k ns ≡ 0
    → (key_pressure (map (followed t c now wanted) ns) c k ≡ 0) × (sounding_on c k (map (followed t c now wanted) ns) ≡ 0)
nothing_on t c k now wanted [] h = (refl, refl)
nothing_on t c k now wanted (n ∷ ns) h =
    pick (on_key c k (followed t c now wanted n)) (λ e. none (on_key c k n) h (on_key_before t c k now wanted n e)) (nothing_on t c k now wanted ns (tail (on_key c k n) h))
  where
    tail : (b : Bool) → cond b 1 0 + sounding_on c k ns ≡ 0 → sounding_on c k ns ≡ 0
    tail b e = omega (arith, e)

    none : (b : Bool) → cond b 1 0 + sounding_on c k ns ≡ 0 → b ≡ true → ⊥
    none true e f = omega (arith, e)
    none false e f = false≢true f

    pick : (b : Bool) → (b ≡ true → ⊥)
        → (key_pressure (map (followed t c now wanted) ns) c k ≡ 0) × (sounding_on c k (map (followed t c now wanted) ns) ≡ 0)
        → (cond b (followed t c now wanted n).pressure (key_pressure (map (followed t c now wanted) ns) c k) ≡ 0) × (cond b 1 0 + sounding_on c k (map (followed t c now wanted) ns) ≡ 0)
    pick true e r = absurd (e refl)
    pick false e r = (r.0, omega (arith, r.1))

is_zero : (w s : ℕ) → s ≡ 0 → (w ≢ 0 → 1 ≤ s) → w ≡ 0
is_zero w s e h = elim (cases_eq w 0) [
  | inl z ↦ z
  | inr z ↦ absurd (let x : 1 ≤ s = h z in omega (arith, e, x))
]

pressure_arrives : (t c k : ℕ) (now wanted : State) (ns : List Note) → key_pressure ns c k ≡ get_or now.keys k 0
    → sounding_on c k ns ≤ 1
    → (get_or wanted.keys k 0 ≢ 0 → 1 ≤ sounding_on c k (map (followed t c now wanted) ns))
    → key_pressure (map (followed t c now wanted) ns) c k ≡ get_or wanted.keys k 0
pressure_arrives t c k now wanted [] h one w = sym (is_zero (get_or wanted.keys k 0) 0 refl w)
pressure_arrives t c k now wanted (n ∷ ns) h one w =
    pick (on_key c k n) (on_key c k (followed t c now wanted n)) refl refl h one w (pressure_arrives t c k now wanted ns) (nothing_on t c k now wanted ns) (on_key_before t c k now wanted n)
  where
    here : on_key c k n ≡ true → on_key c k (followed t c now wanted n) ≡ true → n.pressure ≡ get_or now.keys k 0
        → (followed t c now wanted n).pressure ≡ get_or wanted.keys k 0
    here a b p =
        let x : Note = pedalled t c now.own wanted.own n in
        let f : Note = followed t c now wanted n in
        let ks = keeps t c now wanted n in
        let at = and_parts (nat_eq n.channel c) (nat_eq n.key k) (and_parts (is_at c k n) (sounds n) a).0 in
        let kk : n.key ≡ k = eqb-true n.key k at.1 in
        let xc : x.channel ≡ n.channel = (keeps_pedalled t c now.own wanted.own n).channel in
        let xk : x.key ≡ n.key = (keeps_pedalled t c now.own wanted.own n).key in
        let s : sounds x ≡ true = sym (sounds_pressed c now.keys wanted.keys x) ∙ (and_parts (is_at c k f) (sounds f) b).1 in
        pressed_to c now.keys wanted.keys x (xc ∙ eqb-true n.channel c at.0) s (pressure_pedalled t c now.own wanted.own n ∙ p ∙ ap (λ j. get_or now.keys j 0) (sym (xk ∙ kk)))
        ∙ ap (λ j. get_or wanted.keys j 0) (xk ∙ kk)

    pick : (a b : Bool) → on_key c k n ≡ a → on_key c k (followed t c now wanted n) ≡ b
        → cond a n.pressure (key_pressure ns c k) ≡ get_or now.keys k 0 → cond a 1 0 + sounding_on c k ns ≤ 1
        → (get_or wanted.keys k 0 ≢ 0 → 1 ≤ cond b 1 0 + sounding_on c k (map (followed t c now wanted) ns))
        → (key_pressure ns c k ≡ get_or now.keys k 0 → sounding_on c k ns ≤ 1 → (get_or wanted.keys k 0 ≢ 0 → 1 ≤ sounding_on c k (map (followed t c now wanted) ns)) → key_pressure (map (followed t c now wanted) ns) c k ≡ get_or wanted.keys k 0)
        → (sounding_on c k ns ≡ 0 → (key_pressure (map (followed t c now wanted) ns) c k ≡ 0) × (sounding_on c k (map (followed t c now wanted) ns) ≡ 0))
        → (on_key c k (followed t c now wanted n) ≡ true → on_key c k n ≡ true)
        → cond b (followed t c now wanted n).pressure (key_pressure (map (followed t c now wanted) ns) c k) ≡ get_or wanted.keys k 0
    pick true true ea eb p o w ih q be = here ea eb p
    pick false true ea eb p o w ih q be = absurd (false≢true (sym ea ∙ be eb))
    pick false false ea eb p o w ih q be = ih p (omega (arith, o)) (λ z. let x = w z in omega (arith, x))
    pick true false ea eb p o w ih q be =
        let r = q (omega (arith, o)) in
        r.0 ∙ sym (is_zero (get_or wanted.keys k 0) (sounding_on c k (map (followed t c now wanted) ns)) r.1 (λ z. let x = w z in omega (arith, x)))

-- ---- all keys

get_pressure : (ns : List Note) (c i m j : ℕ) → j < m → get_or (key_pressures ns c i m) j 0 ≡ key_pressure ns c (i + j)
get_pressure ns c i zero j h = absurd (omega (arith, h))
get_pressure ns c i (suc m) zero h = let e : i ≡ i + 0 = omega arith in ap (key_pressure ns c) e
get_pressure ns c i (suc m) (suc j) h =
    let e : suc i + j ≡ i + suc j = omega arith in get_pressure ns c (suc i) m j (omega (arith, h)) ∙ ap (key_pressure ns c) e

pressures_are : (ns : List Note) (c i m : ℕ) (xs : List ℕ) → length xs ≡ m
    → ((j : ℕ) → j < m → key_pressure ns c (i + j) ≡ get_or xs j 0) → key_pressures ns c i m ≡ xs
pressures_are ns c i zero [] l h = refl
pressures_are ns c i zero (x ∷ xs) l h = absurd (omega (arith, l))
pressures_are ns c i (suc m) [] l h = absurd (omega (arith, l))
pressures_are ns c i (suc m) (x ∷ xs) l h =
    let e : i ≡ i + 0 = omega arith in
    let one : key_pressure ns c i ≡ x = ap (key_pressure ns c) e ∙ h 0 (omega arith) in
    let rest : key_pressures ns c (suc i) m ≡ xs =
    pressures_are ns c (suc i) m xs (omega (arith, l)) (λ j low. (let f : suc i + j ≡ i + suc j = omega arith in ap (key_pressure ns c) f ∙ h (suc j) (omega (arith, low)))) in
    ap (λ r. r ∷ key_pressures ns c (suc i) m) one ∙ ap (λ r. x ∷ r) rest

pub arrives : Laws → (m : Music) (t track c : ℕ) (wanted : State) → IsSettled m → m.zones ≡ no_zones → c ≤ 15
    → IsWellFormed (state_at m c) → IsWellFormed wanted
    → ((k : ℕ) → sounding_on c k m.notes ≤ 1)
    → ((k : ℕ) → get_or wanted.keys k 0 ≢ 0 → 1 ≤ sounding_on c k (brought_to m t track c (state_at m c) wanted).notes)
    → unselected (state_at (brought_to m t track c (state_at m c) wanted) c) ≡ unselected wanted
arrives l m t track c wanted s z ok hn hw one w =
    let now : State = state_at m c in
    let after : Music = brought_to m t track c now wanted in
    let b = plays l m t track c now wanted s z ok hn hw refl in
    let own : channel_at after c ≡ (last_state now wanted).own =
    ap (λ r. get_or r c default_channel) b.channels
    ∙ get_or-set_same m.channels c (apply_all now (bring c now wanted)).own default_channel (omega (arith, s.channels, ok))
    ∙ ap (λ r. r.own) (bring_reach l c now wanted hn hw) in
    let from : (i : ℕ) → 0 + i ≡ i = λ i. omega arith in
    let each : (j : ℕ) → j < 128 → key_pressure (map (followed t c now wanted) m.notes) c (0 + j) ≡ get_or wanted.keys j 0 = λ j low.
    ap (λ i. key_pressure (map (followed t c now wanted) m.notes) c i) (from j)
    ∙ pressure_arrives t c j now wanted m.notes (sym (get_pressure m.notes c 0 128 j low ∙ ap (key_pressure m.notes c) (from j))) (one j)
    (λ x. subst (λ (ns : List Note). 1 ≤ sounding_on c j ns) b.notes (w j x)) in
    let keys : key_pressures after.notes c 0 128 ≡ wanted.keys =
    ap (λ r. key_pressures r c 0 128) b.notes ∙ pressures_are (map (followed t c now wanted) m.notes) c 0 128 wanted.keys hw.keys each in
    ap (λ r. let y : State = record { own = record r { selection = nothing_selected }; keys = key_pressures after.notes c 0 128 } in y) own
    ∙ ap (λ r. let y : State = record { own = record wanted.own { selection = nothing_selected }; keys = r } in y) keys

-- ---- two cases

sounding_pressed : (c k : ℕ) (before after : List ℕ) (ns : List Note)
    → sounding_on c k (map (pressed c before after) ns) ≡ sounding_on c k ns
sounding_pressed c k before after [] = refl
sounding_pressed c k before after (n ∷ ns) =
    ap (λ r. cond (on_key c k (pressed c before after n)) 1 0 + r) (sounding_pressed c k before after ns)
    ∙ ap (λ b. cond b 1 0 + sounding_on c k ns) (same ((nat_eq n.channel c && sounds n) && not (nat_eq (get_or before n.key 0) (get_or after n.key 0))))
  where
    same : (b : Bool) → on_key c k (cond b (record n { pressure = get_or after n.key 0 }) n) ≡ on_key c k n
    same true = refl
    same false = refl

pub arrives_under : Laws → (m : Music) (t track c : ℕ) (wanted : State) → IsSettled m → m.zones ≡ no_zones → c ≤ 15
    → IsWellFormed (state_at m c) → IsWellFormed wanted
    → ((k : ℕ) → sounding_on c k m.notes ≤ 1)
    → is_pedal_down (control_of wanted.own 64) ≡ is_pedal_down (control_of (channel_at m c) 64)
    → is_pedal_down (control_of wanted.own 66) ≡ is_pedal_down (control_of (channel_at m c) 66)
    → ((k : ℕ) → get_or wanted.keys k 0 ≢ 0 → 1 ≤ sounding_on c k m.notes)
    → unselected (state_at (brought_to m t track c (state_at m c) wanted) c) ≡ unselected wanted
arrives_under l m t track c wanted s z ok hn hw one e f w =
    let now : State = state_at m c in
    let notes : (brought_to m t track c now wanted).notes ≡ map (pressed c now.keys wanted.keys) m.notes =
    ends_none l m t track c now wanted s z ok hn hw refl e f in
    arrives l m t track c wanted s z ok hn hw one (λ k x. subst (λ (n : ℕ). 1 ≤ n) (sym (ap (sounding_on c k) notes ∙ sounding_pressed c k now.keys wanted.keys m.notes)) (w k x))

pub arrives_silent : Laws → (m : Music) (t track c : ℕ) (wanted : State) → IsSettled m → m.zones ≡ no_zones → c ≤ 15
    → IsWellFormed (state_at m c) → IsWellFormed wanted
    → ((k : ℕ) → sounding_on c k m.notes ≡ 0) → ((k : ℕ) → get_or wanted.keys k 0 ≡ 0)
    → unselected (state_at (brought_to m t track c (state_at m c) wanted) c) ≡ unselected wanted
arrives_silent l m t track c wanted s z ok hn hw none zero_ =
    arrives l m t track c wanted s z ok hn hw (λ k. (let x : sounding_on c k m.notes ≡ 0 = none k in omega (arith, x))) (λ k x. absurd (x (zero_ k)))

-- ---- what comes next

settled_all : EventsSettle → (m : Music) (es : List MidiEvent) → IsSettled m → IsSettled (play m es)
settled_all f m [] h = h
settled_all f m (e ∷ es) h = settled_all f (step m e) es (f m e h)

pub stays_settled : EventsSettle → (m : Music) (t track c : ℕ) (now wanted : State) → IsSettled m
    → IsSettled (brought_to m t track c now wanted)
stays_settled f m t track c now wanted h = settled_all f m (events_of t track (bring c now wanted)) h

fewer : (t c d k : ℕ) (now wanted : State) (ns : List Note)
    → sounding_on d k (map (followed t c now wanted) ns) ≤ sounding_on d k ns
fewer t c d k now wanted [] = omega arith
fewer t c d k now wanted (n ∷ ns) = pick (on_key d k (followed t c now wanted n)) (on_key d k n) refl refl (fewer t c d k now wanted ns)
  where
    before : on_key d k (followed t c now wanted n) ≡ true → on_key d k n ≡ true
    before e =
        let f : Note = followed t c now wanted n in
        let ks = keeps t c now wanted n in
        let p = and_parts (is_at d k f) (sounds f) e in
        let at : is_at d k n ≡ true =
        ap (λ x. nat_eq x d && nat_eq n.key k) (sym ks.channel) ∙ ap (λ x. nat_eq f.channel d && nat_eq x k) (sym ks.key) ∙ p.0 in
        rw (at) (sounds_before t c now wanted n p.1)

    pick : (a b : Bool) → on_key d k (followed t c now wanted n) ≡ a → on_key d k n ≡ b
        → sounding_on d k (map (followed t c now wanted) ns) ≤ sounding_on d k ns
        → cond a 1 0 + sounding_on d k (map (followed t c now wanted) ns) ≤ cond b 1 0 + sounding_on d k ns
    pick true true e f h = omega (arith, h)
    pick true false e f h = absurd (false≢true (sym f ∙ before e))
    pick false true e f h = omega (arith, h)
    pick false false e f h = omega (arith, h)

pub sounds_no_more : Laws → (m : Music) (t track c d k : ℕ) (now wanted : State) → IsSettled m → m.zones ≡ no_zones → c ≤ 15
    → IsWellFormed now → IsWellFormed wanted → now.own ≡ channel_at m c
    → sounding_on d k (brought_to m t track c now wanted).notes ≤ sounding_on d k m.notes
sounds_no_more l m t track c d k now wanted s z ok hn hw own =
    subst (λ (ns : List Note). sounding_on d k ns ≤ sounding_on d k m.notes) (sym (plays l m t track c now wanted s z ok hn hw own).notes) (fewer t c d k now wanted m.notes)
