-- Channel by channel: what a loop over all sixteen has done so far.
use Rattle.std.proofs.Common.{◌≡◌, ℕ, zero, suc, ◌<◌, ◌+◌, List, [], ◌∷◌, Bool, true, false, cond, ◌&&◌, not, nat_eq, nat_lt, Some, None, refl, ap, sym, subst, ◌∙◌, is_some, set, get_or, map, replicate, ◌≤◌, length, arith, inl, inr, ◌≢◌}
use Rattle.std.proofs.lemmas.Bool.Decides.{eqb_tells, leb_tells}
use Rattle.midi_model.specs.Channel.{Channel, default_channel, control_of}
use Rattle.midi_model.specs.Zones.{Zones, governor, bend_range, bend_range_at, bend_ranges_from}
use Rattle.midi_model.specs.Notes.{sounds, is_pedal_down, ending}
use Rattle.midi_model.specs.Music.{settle_note, pedal}
use Rattle.std.proofs.lemmas.List.{get_or-map, same_lists, get_or_default, get_or-replicate, get_or-set_same, get_or-set_other}
use Rattle.std.proofs.lemmas.Bool.{eq-eqb, ne_eqb}
use Rattle.receiver.specs.State.{own_of}
use Rattle.receiver.specs.Heard.{heard, turned_by, without_pedal}
use Rattle.receiver.specs.Following.{turn_of, reaches, SameSetUp}
use Rattle.receiver.specs.declared.player.Player.{Player}
use Rattle.receiver.specs.Turns.{kept}
use Rattle.receiver.specs.declared.turn.Turn.{Turn}
use Rattle.receiver.specs.declared.playing.Playing.{Playing}
use Rattle.receiver.proofs.Here.{Slot, slot_in, slot_here, IsHere, kept_where, slot_set}

-- one more channel: its value becomes what G makes of the old one
pub next : {A : Type 0} (i : ℕ) (old now new to : ℕ → A) (G : A → A)
    → ((c : ℕ) → c < 16 → now c ≡ cond (nat_lt c i) (to c) (old c))
    → ((c : ℕ) → c < 16 → new c ≡ cond (nat_eq c i) (G (now c)) (now c))
    → G (old i) ≡ to i
    → (c : ℕ) → c < 16 → new c ≡ cond (nat_lt c (i + 1)) (to c) (old c)
next i old now new to G so step is c low =
    step c low ∙ elim (eqb_tells c i) [
      | inl t ↦ (let before : now c ≡ old c = so c low ∙ rw (not_below c i t.1) refl in
          rw (t.0, before, below_next c i t.1, t.1) is)
      | inr t ↦ rw (t.0, so c low, still c i t.1) refl
    ]
  where
    not_below : (c i : ℕ) → c ≡ i → nat_lt c i ≡ false
    not_below c i e = elim (leb_tells (suc c) i) [
      | inl t ↦ absurd (omega (arith, t.1, e))
      | inr t ↦ t.0
    ]

    below_next : (c i : ℕ) → c ≡ i → nat_lt c (i + 1) ≡ true
    below_next c i e = elim (leb_tells (suc c) (i + 1)) [
      | inl t ↦ t.0
      | inr t ↦ absurd (omega (arith, t.1, e))
    ]

    still : (c i : ℕ) → c ≢ i → nat_lt c (i + 1) ≡ nat_lt c i
    still c i apart = elim (leb_tells (suc c) i) [
      | inl t ↦ elim (leb_tells (suc c) (i + 1)) [
        | inl u ↦ u.0 ∙ sym t.0
        | inr u ↦ absurd (omega (arith, t.1, u.1))
      ]
      | inr t ↦ elim (leb_tells (suc c) (i + 1)) [
        | inl u ↦ absurd (apart (omega (arith, t.1, u.1)))
        | inr u ↦ u.0 ∙ sym t.0
      ]
    ]

-- all channels
pub at_last : {A : Type 0} (i : ℕ) (old to : A) (c : ℕ) → 16 ≤ i → c < 16 → cond (nat_lt c i) to old ≡ to
at_last i old to c far low = elim (leb_tells (suc c) i) [
  | inl t ↦ rw t.0 refl
  | inr t ↦ absurd (omega (arith, t.1, low, far))
]

pub at_first : {A : Type 0} (old to : A) (c : ℕ) → cond (nat_lt c 0) to old ≡ old
at_first old to c = elim (leb_tells (suc c) 0) [
  | inl t ↦ absurd (omega (arith, t.1))
  | inr t ↦ rw t.0 refl
]

-- what a controller does to the note of one key
pub turned_here : (turn : Turn) (t : ℕ) (z : Zones) (c d k : ℕ) (xs : List Playing)
    → kept (turn_of turn t z c) (slot_in xs d k) ≡ cond (reaches turn z c d) (kept (turned_by turn t) (slot_in xs d k)) (slot_in xs d k)
turned_here turn t z c d k xs = kept_where d k (slot_in xs d k) (slot_here xs d k) (λ n. reaches turn z c n.channel && sounds n) (reaches turn z c d) (turned_by turn t)
    (λ n a b s. rw (a, s) (both (reaches turn z c d)))
  where
    both : (b : Bool) → (b && true) ≡ b
    both true = refl
    both false = refl

pub turned_one : (turn : Turn) (t : ℕ) (z : Zones) (c : ℕ) (xs : List Playing) (i : ℕ) (y d : Playing) → i < length xs → reaches turn z c i ≡ true
    → ((e k : ℕ) → k < 128 → heard e y k ≡ kept (turned_by turn t) (heard e (get_or xs i d) k))
    → (e k : ℕ) → k < 128 → slot_in (set xs i y) e k ≡ cond (nat_eq e i) (kept (turn_of turn t z c) (slot_in xs e k)) (slot_in xs e k)
turned_one turn t z c xs i y d low is h e k kl =
    slot_set xs i y d (λ a b o. kept (turned_by turn t) o) low h e k kl
    ∙ elim (eqb_tells e i) [
      | inl u ↦ (let r : reaches turn z c e ≡ true = ap (reaches turn z c) u.1 ∙ is in
          rw (u.0, turned_here turn t z c e k xs, r) refl)
      | inr u ↦ rw u.0 refl
    ]

pub turned_none : (turn : Turn) (t : ℕ) (z : Zones) (c : ℕ) (xs : List Playing) (i : ℕ) → reaches turn z c i ≡ false
    → (e k : ℕ) → slot_in xs e k ≡ cond (nat_eq e i) (kept (turn_of turn t z c) (slot_in xs e k)) (slot_in xs e k)
turned_none turn t z c xs i is e k = elim (eqb_tells e i) [
  | inl u ↦ (let r : reaches turn z c e ≡ false = ap (reaches turn z c) u.1 ∙ is in
      rw (u.0, turned_here turn t z c e k xs, r) refl)
  | inr u ↦ rw u.0 refl
]

pub then_same : (r s t : Player) → SameSetUp r s → SameSetUp s t → SameSetUp r t
then_same r s t h k = record {
  states = k.states ∙ h.states;
  selected = k.selected ∙ h.selected;
  zones = k.zones ∙ h.zones;
  begun = k.begun ∙ h.begun;
}

nothing : (b : Bool) → kept (λ n. n) None ≡ cond b None (without_pedal None)
nothing true = refl
nothing false = refl

-- what settling does to the note of one key, by the hold pedal that it listens to
pub settled_here : (ss : List Channel) (z : Zones) (t d k : ℕ) (o : Slot) → IsHere d k o
    → kept (settle_note ss z t) o ≡ cond (is_pedal_down (control_of (get_or ss (governor z d) default_channel) 64)) o (without_pedal o)
settled_here ss z t d k None h = nothing (is_pedal_down (control_of (get_or ss (governor z d) default_channel) 64))
settled_here ss z t d k (Some x) (a, b, s) =
    let same : is_pedal_down (pedal ss z x.1) ≡ is_pedal_down (control_of (get_or ss (governor z d) default_channel) 64) = ap (λ e. is_pedal_down (control_of (get_or ss (governor z e) default_channel) 64)) a in
    rw same (pick (is_some x.1.release) x.1.captured (is_pedal_down (control_of (get_or ss (governor z d) default_channel) 64)))
  where
    ended : sounds (ending t x.1) ≡ false
    ended = rw s refl

    pick : (r c p : Bool) → cond (sounds (cond (r && (not c && not p)) (ending t x.1) x.1)) (Some (x.0, cond (r && (not c && not p)) (ending t x.1) x.1)) None ≡ cond p (Some x) (cond (r && not c) None (Some x))
    pick false c true = rw s refl
    pick false c false = rw s refl
    pick true true true = rw s refl
    pick true true false = rw s refl
    pick true false true = rw s refl
    pick true false false = rw ended refl

pub settled_one : (ss : List Channel) (z : Zones) (t : ℕ) (xs : List Playing) (i : ℕ) (y d : Playing) → i < length xs
    → is_pedal_down (control_of (get_or ss (governor z i) default_channel) 64) ≡ false
    → ((e k : ℕ) → k < 128 → heard e y k ≡ without_pedal (heard e (get_or xs i d) k))
    → (e k : ℕ) → k < 128 → slot_in (set xs i y) e k ≡ cond (nat_eq e i) (kept (settle_note ss z t) (slot_in xs e k)) (slot_in xs e k)
settled_one ss z t xs i y d low up h e k kl =
    slot_set xs i y d (λ a b o. without_pedal o) low h e k kl
    ∙ elim (eqb_tells e i) [
      | inl u ↦ (let p : is_pedal_down (control_of (get_or ss (governor z e) default_channel) 64) ≡ false = ap (λ a. is_pedal_down (control_of (get_or ss (governor z a) default_channel) 64)) u.1 ∙ up in
          rw (u.0, settled_here ss z t e k (slot_in xs e k) (slot_here xs e k), p) refl)
      | inr u ↦ rw u.0 refl
    ]

pub settled_none : (ss : List Channel) (z : Zones) (t : ℕ) (xs : List Playing) (i : ℕ)
    → is_pedal_down (control_of (get_or ss (governor z i) default_channel) 64) ≡ true
    → (e k : ℕ) → slot_in xs e k ≡ cond (nat_eq e i) (kept (settle_note ss z t) (slot_in xs e k)) (slot_in xs e k)
settled_none ss z t xs i down e k = elim (eqb_tells e i) [
  | inl u ↦ (let p : is_pedal_down (control_of (get_or ss (governor z e) default_channel) 64) ≡ true = ap (λ a. is_pedal_down (control_of (get_or ss (governor z a) default_channel) 64)) u.1 ∙ down in
      rw (u.0, settled_here ss z t e k (slot_in xs e k) (slot_here xs e k), p) refl)
  | inr u ↦ rw u.0 refl
]

-- the pedal of a channel, by what the program keeps
pub pedal_here : (xs : List Playing) (g h : ℕ) (d : Playing) (n : ℕ) → g < length xs → g ≡ h
    → control_of (get_or (map (λ s. own_of s.state) xs) h default_channel) n ≡ get_or (get_or xs g d).state.controls.items n 0
pedal_here xs g h d n low is = ap (λ e. control_of (get_or (map (λ s. own_of s.state) xs) e default_channel) n) (sym is) ∙ ap (λ s. control_of s n) (get_or-map (λ s. own_of s.state) xs g d default_channel low)

-- the default doesn't count within a list
in_bounds : {A : Type 0} (xs ys : List A) (d e : A) (c : ℕ) → length xs ≡ 16 → length ys ≡ 16 → c < 16 → get_or xs c d ≡ get_or ys c d → get_or xs c e ≡ get_or ys c e
in_bounds xs ys d e c lx ly low same = get_or_default xs c e d (omega (arith, low, lx)) ∙ same ∙ get_or_default ys c d e (omega (arith, low, ly))

-- a list of sixteen that is known place by place
pub all_places : {A : Type 0} (xs ys : List A) (d : A) → length xs ≡ 16 → length ys ≡ 16 → ((c : ℕ) → c < 16 → get_or xs c d ≡ get_or ys c d) → xs ≡ ys
all_places xs ys d lx ly h = same_lists xs ys (lx ∙ sym ly) (λ c e low. in_bounds xs ys d e c lx ly (omega (arith, low, lx)) (h c (omega (arith, low, lx))))

pub all_alike : {A : Type 0} (xs : List A) (d : A) → length xs ≡ 16 → ((c : ℕ) → c < 16 → get_or xs c d ≡ d) → xs ≡ replicate 16 d
all_alike xs d lx h = all_places xs (replicate 16 d) d lx refl (λ c low. h c low ∙ sym (get_or-replicate 16 c d d low))

-- the bend sensitivity of a zone's master, and of its members
pub range_of_master : (z : Zones) (m i : ℕ) (s : Channel) → i ≡ m → bend_range_at z m i s ≡ bend_range 2 s
range_of_master z m i s e = rw (eq-eqb i m e) refl

pub range_of_member : (z : Zones) (m i : ℕ) (s : Channel) → i ≢ m → governor z i ≡ m → bend_range_at z m i s ≡ bend_range 48 s
range_of_member z m i s apart e = rw (ne_eqb i m apart, eq-eqb (governor z i) m e) refl

-- one place of a list changes
pub set_place : {A : Type 0} (xs : List A) (i : ℕ) (d : A) (G : A → A) → i < length xs → (c : ℕ) → get_or (set xs i (G (get_or xs i d))) c d ≡ cond (nat_eq c i) (G (get_or xs c d)) (get_or xs c d)
set_place xs i d G low c = elim (eqb_tells c i) [
  | inl t ↦ (let P : ℕ → Type 0 = λ e. get_or (set xs i (G (get_or xs i d))) e d ≡ G (get_or xs e d) in
      rw t.0 (subst P (sym t.1) (get_or-set_same xs i (G (get_or xs i d)) d low)))
  | inr t ↦ rw t.0 (get_or-set_other xs i c (G (get_or xs i d)) d t.1)
]

-- the bend sensitivities, place by place
range_from : (z : Zones) (m c i : ℕ) (ss : List Channel) → i < length ss → get_or (bend_ranges_from z m c ss) i default_channel ≡ bend_range_at z m (c + i) (get_or ss i default_channel)
range_from z m c i [] low = absurd (omega (arith, low))
range_from z m c zero (s ∷ ss) low = let e : c ≡ c + 0 = omega arith in ap (λ k. bend_range_at z m k s) e
range_from z m c (suc i) (s ∷ ss) low =
    let e : (c + 1) + i ≡ c + suc i = omega arith in
    range_from z m (c + 1) i ss (omega (arith, low)) ∙ ap (λ k. bend_range_at z m k (get_or ss i default_channel)) e

ranges_length : (z : Zones) (m c : ℕ) (ss : List Channel) → length (bend_ranges_from z m c ss) ≡ length ss
ranges_length z m c [] = refl
ranges_length z m c (s ∷ ss) = ap suc (ranges_length z m (c + 1) ss)

pub all_ranges : (z : Zones) (m : ℕ) (old now : List Channel) → length old ≡ 16 → length now ≡ 16
    → ((c : ℕ) → c < 16 → get_or now c default_channel ≡ bend_range_at z m c (get_or old c default_channel))
    → now ≡ bend_ranges_from z m 0 old
all_ranges z m old now lo ln h = all_places now (bend_ranges_from z m 0 old) default_channel ln (ranges_length z m 0 old ∙ lo)
    (λ c low. let e : 0 + c ≡ c = omega arith in h c low ∙ sym (range_from z m 0 c old (omega (arith, low, lo)) ∙ ap (λ k. bend_range_at z m k (get_or old c default_channel)) e))
