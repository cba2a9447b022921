-- A message that reaches the notes of its own channel alone, in a player in which no note is left that nothing holds.
use Rattle.std.proofs.Common.{◌-◌, ◌⊎◌, nat_le, nat_lt, arith, ◌≡◌, ◌≢◌, ◌<◌, ◌+◌, ◌^◌, ℕ, zero, suc, List, [], ◌∷◌, Bool, true, false, cond, ◌&&◌, ◌||◌, not, nat_eq, Option, None, Some, refl, ap, sym, ◌∙◌, get_or, set, replicate, is_some, bit_and, bit_or, inl, inr}
use Rattle.std.proofs.lemmas.Bool.{ne_eqb, eqb-true}
use Rattle.std.proofs.lemmas.Bool.Decides.{eqb_tells, leb_tells}
use Rattle.std.proofs.lemmas.List.{get_or-set_same, get_or-set_other, get_or-replicate}
use Rattle.std.specs.Int.{bit_not, w128}
use Rattle.mt_base.specs.Midi.{channel_of, view_what}
use Rattle.mt_base.specs.declared.event.Msg.{Msg}
use Rattle.mt_base.specs.declared.event.Msg.TheVariants.{NoteOn, NoteOff, KeyPressure, Control, Program, Pressure, Bend}
use Rattle.mt_base.specs.declared.event.What.{What}
use Rattle.mt_base.specs.declared.event.What.TheVariants.{Message, Sysex, Meta}
use Rattle.midi_model.specs.Channel.{Channel, Role, Stored, EntryHigh, EntryLow, NrpnLow, NrpnHigh, RpnLow, RpnHigh, AllSoundOff, ResetControllers, AllNotesOff, Ignored, control_of, controlled, role, apply, default_channel}
use Rattle.midi_model.specs.Sysex.{Doing, Plays, Resets, Tunes, Nothing, Retune, doing, tunes, is_reset, tuning_of}
use Rattle.midi_model.specs.Zones.{Zones, governor, zones_with, bend_ranges}
use Rattle.midi_model.specs.Notes.{Note, sounds, is_at, is_pedal_down, releasing}
use Rattle.midi_model.specs.Music.{Music, asked_by, asks, zones_after, channels_after, settle_note}
use Rattle.receiver.specs.declared.ends.Ends.{Ends}
use Rattle.receiver.specs.declared.player.Player.{Player}
use Rattle.receiver.specs.Heard.{without_pedal}
use Rattle.receiver.specs.Following.{SlotsBecome}
use Rattle.receiver.specs.Notes.{has}
use Rattle.receiver.specs.Reach.{is_wide_role, is_wide, is_hold, is_own, is_silent, spares, IsCalm, TellsBy}
use Rattle.receiver.specs.Stands.{slot, states_of, set_up_of}
use Rattle.receiver.specs.Turns.{kept, only_on, settled_by, turned, acted, sounding_after, strikes, strikes_by}
use Rattle.receiver.specs.Zones.{zones_in}
use Rattle.receiver.proofs.Bits.{has_none}
use Rattle.receiver.proofs.Here.{Slot, IsHere, slot_here, kept_where}
use Rattle.receiver.proofs.Loops.{settled_here}
use Rattle.receiver.proofs.Striking.{has_ended}

right_too : (a b : Bool) → (a || b) ≡ false → b ≡ false
right_too true b e = absurd cc
right_too false b e = e

left_too : (a b : Bool) → (a || b) ≡ false → a ≡ false
left_too true b e = absurd cc
left_too false b e = refl

-- ---- it does nothing to notes of other channels
away : (c k d : ℕ) (n : Note) → d ≢ c → n.channel ≡ d → is_at c k n ≡ false
away c k d n apart e = rw (e, ne_eqb d c apart) refl

away_sounding : (c k d : ℕ) (n : Note) → d ≢ c → n.channel ≡ d → (is_at c k n && sounds n) ≡ false
away_sounding c k d n apart e = rw (away c k d n apart e) refl

turned_narrow : (m : Music) (t c n v : ℕ) (r : Role) (o : Slot) → is_wide_role n r ≡ false → turned m t c n v r o ≡ o
turned_narrow m t c n v Stored o e = rw (right_too (nat_eq n 64) (nat_eq n 66) e) refl
turned_narrow m t c n v EntryHigh o e = refl
turned_narrow m t c n v EntryLow o e = refl
turned_narrow m t c n v NrpnLow o e = refl
turned_narrow m t c n v NrpnHigh o e = refl
turned_narrow m t c n v RpnLow o e = refl
turned_narrow m t c n v RpnHigh o e = refl
turned_narrow m t c n v AllSoundOff o e = absurd cc
turned_narrow m t c n v ResetControllers o e = absurd cc
turned_narrow m t c n v AllNotesOff o e = absurd cc
turned_narrow m t c n v Ignored o e = refl

acted_elsewhere : (m : Music) (next t : ℕ) (msg : Msg) (d j : ℕ) (o : Slot) → is_wide msg ≡ false → IsHere d j o → d ≢ channel_of msg
    → acted m next t msg d j o ≡ o
acted_elsewhere m next t (NoteOn c k zero) d j o e h apart = kept_where d j o h (is_at c k) false (releasing t 64) (λ n a b s. away c k d n apart a)
acted_elsewhere m next t (NoteOn c k (suc v)) d j o e h apart = rw (ne_eqb d c apart) refl
acted_elsewhere m next t (NoteOff c k v) d j o e h apart = kept_where d j o h (is_at c k) false (releasing t v) (λ n a b s. away c k d n apart a)
acted_elsewhere m next t (KeyPressure c k v) d j o e h apart =
    kept_where d j o h (λ n. is_at c k n && sounds n) false (λ n. record n { pressure = v }) (λ n a b s. away_sounding c k d n apart a)
acted_elsewhere m next t (Control c n v) d j o e h apart = turned_narrow m t c n v (role n) o e
acted_elsewhere m next t (Program c p) d j o e h apart = refl
acted_elsewhere m next t (Pressure c v) d j o e h apart = refl
acted_elsewhere m next t (Bend c v) d j o e h apart = refl

-- ---- nor to the hold pedals and the zones
asked_narrow : (m : Music) (c n v : ℕ) (r : Role) → is_wide_role n r ≡ false → asked_by m c v r ≡ None
asked_narrow m c n v Stored e = refl
asked_narrow m c n v EntryHigh e = absurd cc
asked_narrow m c n v EntryLow e = refl
asked_narrow m c n v NrpnLow e = refl
asked_narrow m c n v NrpnHigh e = refl
asked_narrow m c n v RpnLow e = refl
asked_narrow m c n v RpnHigh e = refl
asked_narrow m c n v AllSoundOff e = refl
asked_narrow m c n v ResetControllers e = refl
asked_narrow m c n v AllNotesOff e = refl
asked_narrow m c n v Ignored e = refl

asks_narrow : (m : Music) (msg : Msg) → is_wide msg ≡ false → asks m msg ≡ None
asks_narrow m (NoteOn c k v) e = refl
asks_narrow m (NoteOff c k v) e = refl
asks_narrow m (KeyPressure c k v) e = refl
asks_narrow m (Control c n v) e = asked_narrow m c n v (role n) e
asks_narrow m (Program c p) e = refl
asks_narrow m (Pressure c v) e = refl
asks_narrow m (Bend c v) e = refl

control_pedal : (s : Channel) (n v : ℕ) (r : Role) → is_wide_role n r ≡ false → control_of (controlled s n v r) 64 ≡ control_of s 64
control_pedal s n v Stored e = elim (eqb_tells n 64) [
  | inl u ↦ absurd (let f = u.0 in let g = left_too (nat_eq n 64) (nat_eq n 66) e in cc)
  | inr u ↦ get_or-set_other s.controls n 64 v 0 (λ same. u.1 (sym same))
]
control_pedal s n v EntryHigh e = refl
control_pedal s n v EntryLow e = refl
control_pedal s n v NrpnLow e = refl
control_pedal s n v NrpnHigh e = refl
control_pedal s n v RpnLow e = refl
control_pedal s n v RpnHigh e = refl
control_pedal s n v AllSoundOff e = refl
control_pedal s n v ResetControllers e = absurd cc
control_pedal s n v AllNotesOff e = refl
control_pedal s n v Ignored e = refl

apply_pedal : (s : Channel) (msg : Msg) → is_wide msg ≡ false → control_of (apply s msg) 64 ≡ control_of s 64
apply_pedal s (NoteOn c k v) e = refl
apply_pedal s (NoteOff c k v) e = refl
apply_pedal s (KeyPressure c k v) e = refl
apply_pedal s (Control c n v) e = control_pedal s n v (role n) e
apply_pedal s (Program c p) e = refl
apply_pedal s (Pressure c v) e = refl
apply_pedal s (Bend c v) e = refl

same_at : {A : Type 0} (f : Channel → A) (ss : List Channel) (c g : ℕ) (x d : Channel) → f x ≡ f (get_or ss c d)
    → f (get_or (set ss c x) g d) ≡ f (get_or ss g d)
same_at f [] c g x d e = refl
same_at f (s ∷ ss) zero zero x d e = e
same_at f (s ∷ ss) zero (suc g) x d e = refl
same_at f (s ∷ ss) (suc c) zero x d e = refl
same_at f (s ∷ ss) (suc c) (suc g) x d e = same_at f ss c g x d e

pedal_stays : (m : Music) (msg : Msg) (g : ℕ) → is_wide msg ≡ false
    → control_of (get_or (channels_after m msg) g default_channel) 64 ≡ control_of (get_or m.channels g default_channel) 64
pedal_stays m msg g e =
    let c : ℕ = channel_of msg in
    let x : Channel = apply (get_or m.channels c default_channel) msg in
    ap (λ a. control_of (get_or (bend_ranges a (zones_with a m.zones) (set m.channels c x)) g default_channel) 64) (asks_narrow m msg e)
    ∙ same_at (λ s. control_of s 64) m.channels c g x default_channel (apply_pedal (get_or m.channels c default_channel) msg e)

-- ---- the hold pedal, where no zone is set
off_governor : (z : Zones) (d : ℕ) → z.lower ≡ 0 → z.upper ≡ 0 → governor z d ≡ d
off_governor z d low up = rw (below, above) refl
  where
    below : (nat_le 1 d && nat_le d z.lower) ≡ false
    below = elim (leb_tells 1 d) [
      | inl t ↦ elim (leb_tells d z.lower) [
        | inl u ↦ absurd (omega (arith, t.1, u.1, low))
        | inr u ↦ rw (t.0, u.0) refl
      ]
      | inr t ↦ rw t.0 refl
    ]

    above : (nat_le (15 - z.upper) d && nat_lt d 15) ≡ false
    above = elim (leb_tells (15 - z.upper) d) [
      | inl t ↦ elim (leb_tells (suc d) 15) [
        | inl u ↦ absurd (omega (arith, t.1, u.1, up))
        | inr u ↦ rw (t.0, u.0) refl
      ]
      | inr t ↦ rw t.0 refl
    ]

acted_hold : (m : Music) (next t : ℕ) (msg : Msg) (d j : ℕ) (o : Slot) → is_hold msg ≡ true → acted m next t msg d j o ≡ o
acted_hold m next t (Control c n v) d j o h = ap (λ k. turned m t c k v (role k) o) (eqb-true n 64 h)
acted_hold m next t (NoteOn c k v) d j o h = absurd cc
acted_hold m next t (NoteOff c k v) d j o h = absurd cc
acted_hold m next t (KeyPressure c k v) d j o h = absurd cc
acted_hold m next t (Program c p) d j o h = absurd cc
acted_hold m next t (Pressure c v) d j o h = absurd cc
acted_hold m next t (Bend c v) d j o h = absurd cc

asks_hold : (m : Music) (msg : Msg) → is_hold msg ≡ true → asks m msg ≡ None
asks_hold m (Control c n v) h = ap (λ k. asked_by m c v (role k)) (eqb-true n 64 h)
asks_hold m (NoteOn c k v) h = absurd cc
asks_hold m (NoteOff c k v) h = absurd cc
asks_hold m (KeyPressure c k v) h = absurd cc
asks_hold m (Program c p) h = absurd cc
asks_hold m (Pressure c v) h = absurd cc
asks_hold m (Bend c v) h = absurd cc

abbrev AreOff : Zones → Type 0
AreOff z = (z.lower ≡ 0) × (z.upper ≡ 0)

own_kind : (z : Zones) (msg : Msg) → is_own z msg ≡ true → (is_wide msg ≡ false) ⊎ ((is_hold msg ≡ true) × AreOff z)
own_kind z msg own = pick (is_wide msg) (is_hold msg) (nat_eq z.lower 0) (nat_eq z.upper 0) refl refl refl refl own
  where
    pick : (a b c d : Bool) → is_wide msg ≡ a → is_hold msg ≡ b → nat_eq z.lower 0 ≡ c → nat_eq z.upper 0 ≡ d → (not a || (b && (c && d))) ≡ true
        → (is_wide msg ≡ false) ⊎ ((is_hold msg ≡ true) × AreOff z)
    pick false b c d wide hold low up e = inl wide
    pick true true true true wide hold low up e = inr (hold, (eqb-true z.lower 0 low, eqb-true z.upper 0 up))
    pick true true true false wide hold low up e = absurd cc
    pick true true false d wide hold low up e = absurd cc
    pick true false c d wide hold low up e = absurd cc

-- ---- both kinds
acted_own : (m : Music) (next t : ℕ) (msg : Msg) (d j : ℕ) (o : Slot) → is_own m.zones msg ≡ true → IsHere d j o → d ≢ channel_of msg
    → acted m next t msg d j o ≡ o
acted_own m next t msg d j o own h apart = elim (own_kind m.zones msg own) [
  | inl e ↦ acted_elsewhere m next t msg d j o e h apart
  | inr e ↦ acted_hold m next t msg d j o e.0
]

asks_own : (m : Music) (msg : Msg) → is_own m.zones msg ≡ true → asks m msg ≡ None
asks_own m msg own = elim (own_kind m.zones msg own) [
  | inl e ↦ asks_narrow m msg e
  | inr e ↦ asks_hold m msg e.0
]

pedal_elsewhere : (m : Music) (msg : Msg) (d : ℕ) → is_own m.zones msg ≡ true → d ≢ channel_of msg
    → control_of (get_or (channels_after m msg) (governor m.zones d) default_channel) 64
    ≡ control_of (get_or m.channels (governor m.zones d) default_channel) 64
pedal_elsewhere m msg d own apart = elim (own_kind m.zones msg own) [
  | inl e ↦ pedal_stays m msg (governor m.zones d) e
  | inr e ↦ (let c : ℕ = channel_of msg in
      let g : ℕ = governor m.zones d in
      let x : Channel = apply (get_or m.channels c default_channel) msg in
      let there : g ≡ d = off_governor m.zones d e.1.0 e.1.1 in
      ap (λ a. control_of (get_or (bend_ranges a (zones_with a m.zones) (set m.channels c x)) g default_channel) 64) (asks_hold m msg e.0)
      ∙ ap (λ s. control_of s 64) (get_or-set_other m.channels c g x default_channel (λ same. apart (sym there ∙ same))))
]

-- so what nothing holds after it was held by nothing before
settled_same : (m : Music) (msg : Msg) (t d k : ℕ) (o : Slot) → is_own m.zones msg ≡ true → d ≢ channel_of msg → IsHere d k o
    → kept (settle_note (channels_after m msg) (zones_after m msg) t) o ≡ kept (settle_note m.channels m.zones t) o
settled_same m msg t d k o own apart h =
    ap (λ a. kept (settle_note (channels_after m msg) (zones_with a m.zones) t) o) (asks_own m msg own)
    ∙ settled_here (channels_after m msg) m.zones t d k o h
    ∙ ap (λ p. cond (is_pedal_down p) o (without_pedal o)) (pedal_elsewhere m msg d own apart)
    ∙ sym (settled_here m.channels m.zones t d k o h)

elsewhere_same : (m : Music) (next t : ℕ) (msg : Msg) (d k : ℕ) (o : Slot) → is_own m.zones msg ≡ true → IsHere d k o → d ≢ channel_of msg
    → kept (settle_note m.channels m.zones t) o ≡ o
    → kept (settle_note (channels_after m msg) (zones_after m msg) t) (acted m next t msg d k o) ≡ acted m next t msg d k o
elsewhere_same m next t msg d k o own h apart calm =
    let a : acted m next t msg d k o ≡ o = acted_own m next t msg d k o own h apart in
    ap (kept (settle_note (channels_after m msg) (zones_after m msg) t)) a ∙ settled_same m msg t d k o own apart h ∙ calm ∙ sym a

-- ---- the notes after it, where the notes of its own channel are settled alone
pub followed_here : (r a s : Player) (t : ℕ) (msg : Msg) (i : ℕ) → is_own (zones_in r.zones) msg ≡ true → i ≡ channel_of msg
    → SlotsBecome (acted (set_up_of r) (r.begun + 1) t msg) r a
    → states_of a ≡ channels_after (set_up_of r) msg → zones_in a.zones ≡ zones_after (set_up_of r) msg
    → SlotsBecome (only_on i (settled_by (set_up_of a) t)) a s → IsCalm r
    → (d k : ℕ) → d < 16 → k < 128 → slot s d k ≡ sounding_after (set_up_of r) (r.begun + 1) t (Plays msg) d k (slot r d k)
followed_here r a s t msg i own is acts states zones settles calm d k dl kl =
    let m : Music = set_up_of r in
    let n : ℕ = r.begun + 1 in
    let G : Slot → Slot = kept (settle_note (channels_after m msg) (zones_after m msg) t) in
    let x : Slot = slot a d k in
    let same : kept (settled_by (set_up_of a) t) x ≡ G x =
    ap (λ ss. kept (settle_note ss (zones_in a.zones) t) x) states ∙ ap (λ z. kept (settle_note (channels_after m msg) z t) x) zones in
    let rest : cond (nat_eq d i) (kept (settled_by (set_up_of a) t) x) x ≡ G (acted m n t msg d k (slot r d k)) =
    elim (eqb_tells d i) [
      | inl u ↦ rw u.0 (same ∙ ap G (acts d k dl kl))
      | inr u ↦ rw u.0 (acts d k dl kl ∙ sym (elsewhere_same m n t msg d k (slot r d k) own (slot_here r.channels d k) (λ e. u.1 (e ∙ sym is))
          (calm t d k dl kl)))
    ] in
    settles d k dl kl ∙ rest

pub still_elsewhere : (r a s : Player) (t : ℕ) (msg : Msg) (i : ℕ) → is_own (zones_in r.zones) msg ≡ true → i ≡ channel_of msg
    → SlotsBecome (acted (set_up_of r) (r.begun + 1) t msg) r a
    → SlotsBecome (only_on i (settled_by (set_up_of a) t)) a s
    → (d k : ℕ) → d < 16 → k < 128 → d ≢ channel_of msg → slot s d k ≡ slot r d k
still_elsewhere r a s t msg i own is acts settles d k dl kl apart =
    let x : Slot = slot a d k in
    let there : cond (nat_eq d i) (kept (settled_by (set_up_of a) t) x) x ≡ x = ap (λ b. cond b (kept (settled_by (set_up_of a) t) x) x)
    (ne_eqb d i (λ e. apart (e ∙ is))) in
    settles d k dl kl ∙ there ∙ acts d k dl kl
    ∙ acted_own (set_up_of r) (r.begun + 1) t msg d k (slot r d k) own (slot_here r.channels d k) apart

-- ---- the notes that ended by it
strikes_elsewhere : (msg : Msg) (d j : ℕ) → d ≢ channel_of msg → strikes_by msg d j ≡ false
strikes_elsewhere (NoteOn c k zero) d j apart = refl
strikes_elsewhere (NoteOn c k (suc v)) d j apart = rw (ne_eqb d c apart) refl
strikes_elsewhere (NoteOff c k v) d j apart = refl
strikes_elsewhere (KeyPressure c k v) d j apart = refl
strikes_elsewhere (Control c n v) d j apart = refl
strikes_elsewhere (Program c p) d j apart = refl
strikes_elsewhere (Pressure c v) d j apart = refl
strikes_elsewhere (Bend c v) d j apart = refl

neither : (b : Bool) → (b && not b) ≡ false
neither true = refl
neither false = refl

-- none on another channel
pub none_ended : (msg : Msg) (d k : ℕ) (was is : Slot) → d ≢ channel_of msg → is ≡ was
    → (is_some was && (strikes_by msg d k || not (is_some is))) ≡ false
none_ended msg d k was is apart same =
    rw (strikes_elsewhere msg d k apart, same) (neither (is_some was))

pub one_mask : (i x c k : ℕ) → c < 16 → c ≢ i → has (get_or (set (replicate 16 0) i x) c 0) k ≡ false
one_mask i x c k low apart =
    ap (λ y. has y k) (get_or-set_other (replicate 16 0) i c x 0 apart ∙ get_or-replicate 16 c 0 0 low) ∙ has_none k

pub ended_mask : (i before now s c k : ℕ) (was is : Slot) (msg : Msg) → i < 16 → now < 2 ^ 128 → k < 128 → c ≡ i
    → has before k ≡ is_some was → has now k ≡ is_some is → has s k ≡ strikes_by msg c k
    → has (get_or (set (replicate 16 0) i (bit_and before (bit_or (bit_not w128 now) s))) c 0) k
    ≡ (is_some was && (strikes_by msg c k || not (is_some is)))
ended_mask i before now s c k was is msg low fits below e hb hn hs =
    ap (λ y. has y k) (ap (λ j. get_or (set (replicate 16 0) i (bit_and before (bit_or (bit_not w128 now) s))) j 0) e
    ∙ get_or-set_same (replicate 16 0) i (bit_and before (bit_or (bit_not w128 now) s)) 0 low)
    ∙ has_ended before now s k (strikes_by msg c k) fits below hs
    ∙ ap (λ b. b && (strikes_by msg c k || not (has now k))) hb
    ∙ ap (λ b. is_some was && (strikes_by msg c k || not b)) hn

-- no bit was set before
pub masked : (keys : List ℕ) (i x c k : ℕ) (b : Bool) → keys ≡ replicate 16 0 → has (get_or (set (replicate 16 0) i x) c 0) k ≡ b
    → has (get_or (set keys i x) c 0) k ≡ b
masked keys i x c k b clear is = ap (λ l. has (get_or (set l i x) c 0) k) clear ∙ is

-- ---- an event that does nothing to the music ends none
silent_ends : (d : Doing) (c k : ℕ) (was : Slot) → is_silent d ≡ true → (is_some was && (strikes d c k || not (is_some was))) ≡ false
silent_ends (Plays msg) c k was e = absurd cc
silent_ends Resets c k was e = absurd cc
silent_ends (Tunes r) c k was e = neither (is_some was)
silent_ends Nothing c k was e = neither (is_some was)

-- no bit is set before it
pub none_set : (keys : List ℕ) (c k : ℕ) → keys ≡ replicate 16 0 → c < 16 → has (get_or keys c 0) k ≡ false
none_set keys c k clear cl = ap (λ l. has (get_or l c 0) k) clear ∙ ap (λ y. has y k) (get_or-replicate 16 c 0 0 cl) ∙ has_none k

pub silent_tells : (r : Player) (d : Doing) (ends : Ends) → is_silent d ≡ true → ends.keys ≡ replicate 16 0 → TellsBy r d r ends
silent_tells r d ends e clear c k cl kl = none_set ends.keys c k clear cl ∙ sym (silent_ends d c k (slot r c k) e)

-- ---- an event that spares a channel: one that does nothing to the music, or a message that reaches the notes of its own channel alone
left_of : (a b : Bool) → (a && b) ≡ true → a ≡ true
left_of true b e = refl
left_of false b e = absurd cc

pub own_spares : (z : Zones) (msg : Msg) (c : ℕ) → spares (Plays msg) c ≡ true → is_own z msg ≡ true
own_spares z msg c e = rw (left_of (not (is_wide msg)) (not (nat_eq c (channel_of msg))) e) refl

sysex_spares : (lead reset : Bool) (o : Option Retune) (c : ℕ) → spares (cond lead (cond reset Resets (tunes o)) Nothing) c ≡ true
    → is_silent (cond lead (cond reset Resets (tunes o)) Nothing) ≡ true
sysex_spares true true o c e = absurd cc
sysex_spares true false None c e = refl
sysex_spares true false (Some r) c e = refl
sysex_spares false reset o c e = refl

pub other_spares : (what : What) (c : ℕ) → ((msg : Msg) → what ≡ Message msg → ⊥) → spares (doing (view_what what)) c ≡ true
    → is_silent (doing (view_what what)) ≡ true
other_spares (Message msg) c none e = absurd (none msg refl)
other_spares (Sysex lead bytes) c none e = sysex_spares (nat_eq lead 240) (is_reset bytes.now) (tuning_of bytes.now) c e
other_spares (Meta kind bytes) c none e = refl
