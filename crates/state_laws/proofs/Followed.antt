-- What follows for the channel, for the others, and for notes that don't end.
use Rattle.std.proofs.Common.{◌≡◌, ◌≢◌, inl, inr, ℕ, zero, suc, ◌+◌, ◌≤◌, ◌<◌, List, [], ◌∷◌, Bool, true, false, cond, ◌&&◌, not, nat_eq, Some, refl, ap, sym, ◌∙◌, arith, length, map, set, get_or}
use Rattle.std.specs.Prelude.{is_some}
use Rattle.std.proofs.lemmas.Bool.{cases_eq, and_left, and_right, eq-eqb, ne_eqb, false≢true}
use Rattle.std.proofs.lemmas.List.{get_or-set_other, set-get_or}
use Rattle.midi_model.specs.Channel.{Channel, State, default_channel, control_of}
use Rattle.midi_model.specs.WellFormed.{IsWellFormed}
use Rattle.midi_model.specs.Zones.{Zones, no_zones, governor}
use Rattle.midi_model.specs.Notes.{Note, sounds, is_down, is_at, is_pedal_down, ending, sostenuto, sounding_on}
use Rattle.midi_model.specs.Music.{Music, channel_at, settle_note, key_pressure, key_pressures, state_at}
use Rattle.midi_model.specs.MusicLaws.{IsSettled}
use Rattle.midi_model.specs.Bring.{apply_all, bring}
use Rattle.state_laws.specs.Heard.{let_go, pedalled, pressed, brought_to}
use Rattle.state_laws.proofs.Laws.{Laws}
use Rattle.state_laws.proofs.Pedals.{map_same, settled_by, settle_is, is_free, Calm, calm_from, sostenuto_same}
use Rattle.state_laws.proofs.Brought.{plays}

-- ---- one note

-- what becomes of it
abbrev pub followed : ℕ → ℕ → State → State → Note → Note
followed t c now wanted n = pressed c now.keys wanted.keys (pedalled t c now.own wanted.own n)

-- that of another channel isn't changed
pub other_note : (t c : ℕ) (now wanted : State) (n : Note) → n.channel ≢ c → followed t c now wanted n ≡ n
other_note t c now wanted n h =
    let e : nat_eq n.channel c ≡ false = ne_eqb n.channel c h in
    let p : pedalled t c now.own wanted.own n ≡ n =
    ap (λ b. cond b (let_go t (control_of wanted.own 64) (sostenuto no_zones c (control_of now.own 66) (control_of wanted.own 66) n)) n) e in
    ap (pressed c now.keys wanted.keys) p
    ∙ ap (λ b. cond b (record n { pressure = get_or wanted.keys n.key 0 }) n) (and_left (nat_eq n.channel c && sounds n) (not (nat_eq (get_or now.keys n.key 0) (get_or wanted.keys n.key 0))) (and_left (nat_eq n.channel c) (sounds n) e))

-- one that has ended isn't either
pub ended_note : (t c : ℕ) (now wanted : State) (n : Note) → sounds n ≡ false → followed t c now wanted n ≡ n
ended_note t c now wanted n e =
    let a : ℕ = control_of now.own 66 in
    let b : ℕ = control_of wanted.own 66 in
    let h : ℕ = control_of wanted.own 64 in
    let s : sostenuto no_zones c a b n ≡ n =
    ap (λ x. cond x (cond (is_pedal_down a) (cond (is_pedal_down b) n (record n { captured = false })) (cond (is_pedal_down b && is_down n) (record n { captured = true }) n)) n) (and_right (nat_eq (governor no_zones n.channel) c) (sounds n) e) in
    let g : let_go t h n ≡ n = same (is_free h n) (ending t n) n (ap (λ x. cond x (record n { ended = Some t }) n) e) in
    let p : pedalled t c now.own wanted.own n ≡ n = same (nat_eq n.channel c) (let_go t h (sostenuto no_zones c a b n)) n (ap (let_go t h) s ∙ g) in
    ap (pressed c now.keys wanted.keys) p
    ∙ ap (λ x. cond x (record n { pressure = get_or wanted.keys n.key 0 }) n) (and_left (nat_eq n.channel c && sounds n) (not (nat_eq (get_or now.keys n.key 0) (get_or wanted.keys n.key 0))) (and_right (nat_eq n.channel c) (sounds n) e))
  where
    same : (b : Bool) (m n : Note) → m ≡ n → cond b m n ≡ n
    same true m n e = e
    same false m n e = refl

-- what never changes
pub record Keeps (a b : Note) : Type 0 where
  pub channel : b.channel ≡ a.channel
  pub key : b.key ≡ a.key

keeps_cond : (b : Bool) (a x y : Note) → Keeps a x → Keeps a y → Keeps a (cond b x y)
keeps_cond true a x y h k = h
keeps_cond false a x y h k = k

keeps_then : (a b c : Note) → Keeps a b → Keeps b c → Keeps a c
keeps_then a b c h k = record { channel = k.channel ∙ h.channel; key = k.key ∙ h.key }

keeps_same : (a : Note) → Keeps a a
keeps_same a = record { channel = refl; key = refl }

keeps_ending : (t : ℕ) (n : Note) → Keeps n (ending t n)
keeps_ending t n = keeps_cond (sounds n) n (record n { ended = Some t }) n (record { channel = refl; key = refl }) (keeps_same n)

keeps_sostenuto : (z : Zones) (c a b : ℕ) (n : Note) → Keeps n (sostenuto z c a b n)
keeps_sostenuto z c a b n =
    let one : Note = record n { captured = false } in
    let two : Note = record n { captured = true } in
    keeps_cond (nat_eq (governor z n.channel) c && sounds n) n (cond (is_pedal_down a) (cond (is_pedal_down b) n one) (cond (is_pedal_down b && is_down n) two n)) n
    (keeps_cond (is_pedal_down a) n (cond (is_pedal_down b) n one) (cond (is_pedal_down b && is_down n) two n)
    (keeps_cond (is_pedal_down b) n n one (keeps_same n) (record { channel = refl; key = refl }))
    (keeps_cond (is_pedal_down b && is_down n) n two n (record { channel = refl; key = refl }) (keeps_same n)))
    (keeps_same n)

keeps_let_go : (t h : ℕ) (n : Note) → Keeps n (let_go t h n)
keeps_let_go t h n = keeps_cond (is_free h n) n (ending t n) n (keeps_ending t n) (keeps_same n)

pub keeps_pedalled : (t c : ℕ) (now wanted : Channel) (n : Note) → Keeps n (pedalled t c now wanted n)
keeps_pedalled t c now wanted n =
    let s : Note = sostenuto no_zones c (control_of now 66) (control_of wanted 66) n in
    keeps_cond (nat_eq n.channel c) n (let_go t (control_of wanted 64) s) n (keeps_then n s (let_go t (control_of wanted 64) s) (keeps_sostenuto no_zones c (control_of now 66) (control_of wanted 66) n) (keeps_let_go t (control_of wanted 64) s)) (keeps_same n)

keeps_pressed : (c : ℕ) (before after : List ℕ) (n : Note) → Keeps n (pressed c before after n)
keeps_pressed c before after n =
    keeps_cond ((nat_eq n.channel c && sounds n) && not (nat_eq (get_or before n.key 0) (get_or after n.key 0))) n (record n { pressure = get_or after n.key 0 }) n (record { channel = refl; key = refl }) (keeps_same n)

pub keeps : (t c : ℕ) (now wanted : State) (n : Note) → Keeps n (followed t c now wanted n)
keeps t c now wanted n =
    keeps_then n (pedalled t c now.own wanted.own n) (followed t c now wanted n) (keeps_pedalled t c now.own wanted.own n) (keeps_pressed c now.keys wanted.keys (pedalled t c now.own wanted.own n))

-- ---- the other channels

other_pressure : (t c d k : ℕ) (now wanted : State) (ns : List Note) → d ≢ c
    → key_pressure (map (followed t c now wanted) ns) d k ≡ key_pressure ns d k
other_pressure t c d k now wanted [] h = refl
other_pressure t c d k now wanted (n ∷ ns) h = elim (cases_eq n.channel c) [
  | inl e ↦
      let f : Note = followed t c now wanted n in
      let x : nat_eq f.channel d ≡ false = ne_eqb f.channel d (λ y. h (sym y ∙ (keeps t c now wanted n).channel ∙ e)) in
      let y : nat_eq n.channel d ≡ false = ne_eqb n.channel d (λ z. h (sym z ∙ e)) in
      past f (map (followed t c now wanted) ns) x ∙ other_pressure t c d k now wanted ns h ∙ sym (past n ns y)
  | inr e ↦ ap (λ m. key_pressure (m ∷ map (followed t c now wanted) ns) d k) (other_note t c now wanted n e)
      ∙ ap (λ r. cond (is_at d k n && sounds n) n.pressure r) (other_pressure t c d k now wanted ns h)
]
  where
    past : (m : Note) (ms : List Note) → nat_eq m.channel d ≡ false → key_pressure (m ∷ ms) d k ≡ key_pressure ms d k
    past m ms e =
        ap (λ b. cond b m.pressure (key_pressure ms d k)) (and_left (is_at d k m) (sounds m) (and_left (nat_eq m.channel d) (nat_eq m.key k) e))

pressures_same : (xs bs : List Note) (d i m : ℕ) → ((k : ℕ) → key_pressure xs d k ≡ key_pressure bs d k)
    → key_pressures xs d i m ≡ key_pressures bs d i m
pressures_same xs bs d i zero h = refl
pressures_same xs bs d i (suc m) h = rw (h i, pressures_same xs bs d (suc i) m h) refl

pub leaves_others : Laws → (m : Music) (t track c d : ℕ) (now wanted : State) → IsSettled m → m.zones ≡ no_zones → c ≤ 15
    → IsWellFormed now → IsWellFormed wanted → now.own ≡ channel_at m c
    → d ≢ c → state_at (brought_to m t track c now wanted) d ≡ state_at m d
leaves_others l m t track c d now wanted s z ok hn hw own h =
    let b = plays l m t track c now wanted s z ok hn hw own in
    let x : Music = brought_to m t track c now wanted in
    let one : channel_at x d ≡ channel_at m d =
    ap (λ r. get_or r d default_channel) b.channels ∙ get_or-set_other m.channels c d (apply_all now (bring c now wanted)).own default_channel h in
    let two : key_pressures x.notes d 0 128 ≡ key_pressures m.notes d 0 128 =
    ap (λ r. key_pressures r d 0 128) b.notes
    ∙ pressures_same (map (followed t c now wanted) m.notes) m.notes d 0 128 (λ k. other_pressure t c d k now wanted m.notes h) in
    ap (λ r. let y : State = record { own = r; keys = key_pressures x.notes d 0 128 } in y) one
    ∙ ap (λ r. let y : State = record { own = channel_at m d; keys = r } in y) two

-- ---- a silent channel

silent_notes : (t c : ℕ) (now wanted : State) (ns : List Note) → ((k : ℕ) → sounding_on c k ns ≡ 0)
    → map (followed t c now wanted) ns ≡ ns
silent_notes t c now wanted [] h = refl
silent_notes t c now wanted (n ∷ ns) h =
    rw (one, silent_notes t c now wanted ns (λ k. rest k (is_at c k n && sounds n) (h k))) refl
  where
    rest : (k : ℕ) (b : Bool) → cond b 1 0 + sounding_on c k ns ≡ 0 → sounding_on c k ns ≡ 0
    rest k b e = omega (arith, e)

    none : (b : Bool) → cond b 1 0 + sounding_on c n.key ns ≡ 0 → b ≡ false
    none true e = absurd (omega (arith, e))
    none false e = refl

    one : followed t c now wanted n ≡ n
    one = elim (cases_eq n.channel c) [
      | inl e ↦ ended_note t c now wanted n (quiet (nat_eq n.channel c) (nat_eq n.key n.key) (sounds n) (eq-eqb n.channel c e) (eq-eqb n.key n.key refl) (none (is_at c n.key n && sounds n) (h n.key)))
      | inr e ↦ other_note t c now wanted n e
    ]
      where
        quiet : (a b s : Bool) → a ≡ true → b ≡ true → ((a && b) && s) ≡ false → s ≡ false
        quiet true true s e f g = g
        quiet true false s e f g = absurd (false≢true f)
        quiet false b s e f g = absurd (false≢true e)

pub leaves_silent : Laws → (m : Music) (t track c : ℕ) (now wanted : State) → IsSettled m → m.zones ≡ no_zones → c ≤ 15
    → IsWellFormed now → IsWellFormed wanted → now.own ≡ channel_at m c
    → ((k : ℕ) → sounding_on c k m.notes ≡ 0) → (brought_to m t track c now wanted).notes ≡ m.notes
leaves_silent l m t track c now wanted s z ok hn hw own h =
    (plays l m t track c now wanted s z ok hn hw own).notes ∙ silent_notes t c now wanted m.notes h

-- ---- pedals that stay

pub calm_music : (m : Music) (t c : ℕ) (s : Channel) → IsSettled m → m.zones ≡ no_zones → c < length m.channels
    → s ≡ channel_at m c → Calm t m.channels c (control_of s 64) m.notes
calm_music m t c s h z low own =
    let ss : List Channel = m.channels in
    let put : set ss c s ≡ ss = ap (λ x. set ss c x) own ∙ set-get_or ss c default_channel in
    let settled : map (settle_note (set ss c s) no_zones t) m.notes ≡ m.notes =
    ap (λ x. map (settle_note x no_zones t) m.notes) put ∙ ap (λ x. map (settle_note ss x t) m.notes) (sym z) ∙ h.notes t in
    calm_from t ss c (control_of s 64) m.notes (sym (map_same (settle_note (set ss c s) no_zones t) (settled_by t ss c (control_of s 64)) m.notes (λ n. settle_is t ss c s n low)) ∙ settled)

-- what is down stays down
sostenuto_stays : (z : Zones) (c a b : ℕ) (n : Note) → is_pedal_down b ≡ is_pedal_down a → sostenuto z c a b n ≡ n
sostenuto_stays z c a b n e =
    ap (λ d. cond (nat_eq (governor z n.channel) c && sounds n) (cond (is_pedal_down a) (cond d n (record n { captured = false })) (cond (d && is_down n) (record n { captured = true }) n)) n) e
    ∙ sostenuto_same z c a n

stays : (t : ℕ) (ss : List Channel) (c : ℕ) (now wanted : Channel) (n : Note)
    → is_pedal_down (control_of wanted 64) ≡ is_pedal_down (control_of now 64)
    → is_pedal_down (control_of wanted 66) ≡ is_pedal_down (control_of now 66)
    → settled_by t ss c (control_of now 64) n ≡ n → pedalled t c now wanted n ≡ n
stays t ss c now wanted n e f h = pick (nat_eq n.channel c) refl
  where
    pick : (b : Bool) → nat_eq n.channel c ≡ b
        → cond b (let_go t (control_of wanted 64) (sostenuto no_zones c (control_of now 66) (control_of wanted 66) n)) n ≡ n
    pick false x = refl
    pick true x =
        ap (let_go t (control_of wanted 64)) (sostenuto_stays no_zones c (control_of now 66) (control_of wanted 66) n f)
        ∙ ap (λ d. cond (is_some n.release && (not n.captured && not d)) (ending t n) n) e
        ∙ ap (λ b. let_go t (cond b (control_of now 64) (control_of (get_or ss n.channel default_channel) 64)) n) (sym x) ∙ h

all_stay : (t : ℕ) (ss : List Channel) (c : ℕ) (now wanted : State) (ns : List Note)
    → is_pedal_down (control_of wanted.own 64) ≡ is_pedal_down (control_of now.own 64)
    → is_pedal_down (control_of wanted.own 66) ≡ is_pedal_down (control_of now.own 66)
    → Calm t ss c (control_of now.own 64) ns → map (followed t c now wanted) ns ≡ map (pressed c now.keys wanted.keys) ns
all_stay t ss c now wanted [] e f h = refl
all_stay t ss c now wanted (n ∷ ns) e f h = rw (stays t ss c now.own wanted.own n e f h.0, all_stay t ss c now wanted ns e f h.1) refl

pub ends_none : Laws → (m : Music) (t track c : ℕ) (now wanted : State) → IsSettled m → m.zones ≡ no_zones → c ≤ 15
    → IsWellFormed now → IsWellFormed wanted → now.own ≡ channel_at m c
    → is_pedal_down (control_of wanted.own 64) ≡ is_pedal_down (control_of now.own 64)
    → is_pedal_down (control_of wanted.own 66) ≡ is_pedal_down (control_of now.own 66)
    → (brought_to m t track c now wanted).notes ≡ map (pressed c now.keys wanted.keys) m.notes
ends_none l m t track c now wanted s z ok hn hw own e f =
    (plays l m t track c now wanted s z ok hn hw own).notes
    ∙ all_stay t m.channels c now wanted m.notes e f (calm_music m t c now.own s z (omega (arith, s.channels, ok)) own)
