-- What a receiver's music becomes by sets messages to one channel, and by those that bring it to a state.
use Rattle.std.proofs.Common.{◌≡◌, ℕ, zero, suc, ◌+◌, ◌<◌, List, [], ◌∷◌, ◌++◌, Bool, true, false, cond, ◌&&◌, not, nat_eq, None, refl, ap, sym, ◌∙◌, subst, arith, length, map, set, get_or, take, drop, append_assoc}
use Rattle.std.proofs.lemmas.Bool.{and_parts, eqb-true, eqb-false, false≢true, not-true}
use Rattle.std.proofs.lemmas.List.{get_or-set_same, get_or-set_other, length-set}
use Rattle.mt_base.specs.Midi.{channel_of}
use Rattle.mt_base.specs.declared.event.Msg.{Msg}
use Rattle.mt_base.specs.declared.event.Msg.TheVariants.{NoteOn, NoteOff, KeyPressure, Control, Program, Pressure, Bend}
use Rattle.midi_model.specs.Channel.{Channel, State, Selection, Role, Stored, EntryHigh, EntryLow, NrpnLow, NrpnHigh, RpnLow, RpnHigh, AllSoundOff, ResetControllers, AllNotesOff, Ignored, Target, Nowhere, TuningProgram, ZoneSize, Value, default_channel, role, target, control_of, controlled, apply, apply_state}
use Rattle.midi_model.specs.WellFormed.{is_value}
use Rattle.midi_model.specs.Zones.{no_zones, zones_with, bend_ranges}
use Rattle.midi_model.specs.Notes.{Note, sostenuto}
use Rattle.midi_model.specs.Music.{Music, channel_at, asked, asked_by, asks, zones_after, channels_after, notes_turned, notes_after, act, settle_note, settle, play}
use Rattle.midi_model.specs.Bring.{apply_all, where_differs, bring_controls}
use Rattle.state_laws.specs.Sent.{Along, only_sets_by, OnlySets}
use Rattle.state_laws.specs.Heard.{events_of}
use Rattle.state_laws.proofs.Pedals.{map_same, map_none, settled_by, settle_is, Calm, calm_map, sostenuto_same}

-- ---- the messages alone

abbrev pub sounded : ℕ → Music → List Msg → Music
sounded t m [] = m
sounded t m (x ∷ xs) = sounded t (settle t (act t x m)) xs

pub play_events : (t track : ℕ) (m : Music) (ms : List Msg) → play m (events_of t track ms) ≡ sounded t m ms
play_events t track m [] = refl
play_events t track m (x ∷ xs) = play_events t track (settle t (act t x m)) xs

pub sounded_append : (t : ℕ) (m : Music) (a b : List Msg) → sounded t m (a ++ b) ≡ sounded t (sounded t m a) b
sounded_append t m [] b = refl
sounded_append t m (x ∷ a) b = sounded_append t (settle t (act t x m)) a b

pub along_first : (P : State → Msg → Type 0) (s : State) (a b : List Msg) → Along P s (a ++ b) → Along P s a
along_first P s [] b h = tt
along_first P s (m ∷ a) b h = (h.0, along_first P (apply_state s m) a b h.1)

pub along_last : (P : State → Msg → Type 0) (s : State) (a b : List Msg) → Along P s (a ++ b) → Along P (apply_all s a) b
along_last P s [] b h = h
along_last P s (m ∷ a) b h = along_last P (apply_state s m) a b h.1

-- ---- one message

-- the music with one channel's state and these notes, with no zone
abbrev pub music_of : List Channel → ℕ → Channel → List Note → Music
music_of ss c s ns = record { channels = set ss c s; zones = no_zones; notes = ns }

set_twice : (ss : List Channel) (c : ℕ) (a b : Channel) → set (set ss c a) c b ≡ set ss c b
set_twice [] c a b = refl
set_twice (s ∷ ss) zero a b = refl
set_twice (s ∷ ss) (suc c) a b = ap (λ r. s ∷ r) (set_twice ss c a b)

asked_value : (c v : ℕ) (t : Target) → is_value t ≡ true → asked c v t ≡ None
asked_value c v (Value p) e = refl
asked_value c v Nowhere e = refl
asked_value c v TuningProgram e = refl
asked_value c v ZoneSize e = absurd (false≢true e)

asked_role : (m : Music) (c v : ℕ) (r : Role) → only_sets_by (channel_at m c).selection r ≡ true → asked_by m c v r ≡ None
asked_role m c v EntryHigh e = asked_value c v (target (channel_at m c).selection) e
asked_role m c v Stored e = refl
asked_role m c v EntryLow e = refl
asked_role m c v NrpnLow e = refl
asked_role m c v NrpnHigh e = refl
asked_role m c v RpnLow e = refl
asked_role m c v RpnHigh e = refl
asked_role m c v AllSoundOff e = refl
asked_role m c v ResetControllers e = refl
asked_role m c v AllNotesOff e = refl
asked_role m c v Ignored e = refl

asks_none : (m : Music) (c : ℕ) (st : State) (msg : Msg) → channel_at m c ≡ st.own → OnlySets c st msg → asks m msg ≡ None
asks_none m c st (Control d n v) e h =
    let x : channel_at m d ≡ st.own = ap (λ i. channel_at m i) h.channel ∙ e in
    asked_role m d v (role n) (ap (λ s. only_sets_by s.selection (role n)) x ∙ h.sets)
asks_none m c st (NoteOn d k v) e h = refl
asks_none m c st (NoteOff d k v) e h = refl
asks_none m c st (KeyPressure d k v) e h = refl
asks_none m c st (Program d p) e h = refl
asks_none m c st (Pressure d v) e h = refl
asks_none m c st (Bend d v) e h = refl

-- the channel's new state, no other, and its notes settled
pub one_step_by : (t : ℕ) (ss : List Channel) (c : ℕ) (own : Channel) (ns : List Note) (msg : Msg) → c < length ss
    → channel_of msg ≡ c → (let m : Music = music_of ss c own ns in asks m msg ≡ None)
    → (let m : Music = music_of ss c own ns in let s : Channel = apply own msg in settle t (act t msg m) ≡ music_of ss c s (map (settled_by t ss c (control_of s 64)) (notes_after m t msg)))
one_step_by t ss c own ns msg low at none =
    let m : Music = music_of ss c own ns in
    let s : Channel = apply own msg in
    let here : channel_at m c ≡ own = get_or-set_same ss c own default_channel low in
    let zones : zones_after m msg ≡ no_zones = ap (λ a. zones_with a no_zones) none in
    let d : ℕ = channel_of msg in
    let channels : channels_after m msg ≡ set ss c s =
    ap (λ a. bend_ranges a (zones_after m msg) (set m.channels d (apply (channel_at m d) msg))) none
    ∙ ap (λ i. set m.channels i (apply (channel_at m i) msg)) at
    ∙ ap (λ x. set m.channels c (apply x msg)) here ∙ set_twice ss c own s in
    ap (λ x. let r : Music = record { channels = x; zones = zones_after m msg; notes = map (settle_note x (zones_after m msg) t) (notes_after m t msg) } in r) channels
    ∙ ap (λ z. let r : Music = record { channels = set ss c s; zones = z; notes = map (settle_note (set ss c s) z t) (notes_after m t msg) } in r) zones
    ∙ ap (λ l. music_of ss c s l) (map_same (settle_note (set ss c s) no_zones t) (settled_by t ss c (control_of s 64)) (notes_after m t msg) (λ n. settle_is t ss c s n low))

pub one_step : (t : ℕ) (ss : List Channel) (c : ℕ) (st : State) (ns : List Note) (msg : Msg) → c < length ss → OnlySets c st msg
    → (let m : Music = music_of ss c st.own ns in let s : Channel = apply st.own msg in settle t (act t msg m) ≡ music_of ss c s (map (settled_by t ss c (control_of s 64)) (notes_after m t msg)))
one_step t ss c st ns msg low h =
    let m : Music = music_of ss c st.own ns in
    one_step_by t ss c st.own ns msg low h.channel (asks_none m c st msg (get_or-set_same ss c st.own default_channel low) h)

-- ---- messages that no note hears

abbrev pub is_still : Msg → Bool
is_still (Control c n v) = not (nat_eq n 64) && not (nat_eq n 66)
is_still (NoteOn c k v) = false
is_still (NoteOff c k v) = false
is_still (KeyPressure c k v) = false
is_still (Program c p) = true
is_still (Pressure c v) = true
is_still (Bend c v) = true

abbrev pub AreStill : List Msg → Type 0
AreStill [] = Unit {0}
AreStill (m ∷ ms) = (is_still m ≡ true) × AreStill ms

pub still_append : (a b : List Msg) → AreStill a → AreStill b → AreStill (a ++ b)
still_append [] b h k = k
still_append (m ∷ a) b h k = (h.0, still_append a b h.1 k)

turned_still : (m : Music) (sel : Selection) (t c n v : ℕ) (r : Role) → nat_eq n 66 ≡ false → only_sets_by sel r ≡ true
    → notes_turned m t c n v r ≡ m.notes
turned_still m sel t c n v Stored e h = ap (λ b. cond b (map (sostenuto m.zones c (control_of (channel_at m c) 66) v) m.notes) m.notes) e
turned_still m sel t c n v EntryHigh e h = refl
turned_still m sel t c n v EntryLow e h = refl
turned_still m sel t c n v NrpnLow e h = refl
turned_still m sel t c n v NrpnHigh e h = refl
turned_still m sel t c n v RpnLow e h = refl
turned_still m sel t c n v RpnHigh e h = refl
turned_still m sel t c n v AllSoundOff e h = absurd (false≢true h)
turned_still m sel t c n v ResetControllers e h = absurd (false≢true h)
turned_still m sel t c n v AllNotesOff e h = absurd (false≢true h)
turned_still m sel t c n v Ignored e h = refl

notes_still : (m : Music) (t c : ℕ) (st : State) (msg : Msg) → OnlySets c st msg → is_still msg ≡ true
    → notes_after m t msg ≡ m.notes
notes_still m t c st (Control d n v) h s =
    turned_still m st.own.selection t d n v (role n) (not-true (nat_eq n 66) (and_parts (not (nat_eq n 64)) (not (nat_eq n 66)) s).1) h.sets
notes_still m t c st (NoteOn d k v) h s = absurd (false≢true s)
notes_still m t c st (NoteOff d k v) h s = absurd (false≢true s)
notes_still m t c st (KeyPressure d k v) h s = absurd (false≢true s)
notes_still m t c st (Program d p) h s = refl
notes_still m t c st (Pressure d v) h s = refl
notes_still m t c st (Bend d v) h s = refl

-- another controller than k leaves it
turned_other : (s : Channel) (sel : Selection) (n v k : ℕ) (r : Role) → nat_eq n k ≡ false → only_sets_by sel r ≡ true
    → control_of (controlled s n v r) k ≡ control_of s k
turned_other s sel n v k Stored e h = get_or-set_other s.controls n k v 0 (λ x. eqb-false n k e (sym x))
turned_other s sel n v k EntryHigh e h = refl
turned_other s sel n v k EntryLow e h = refl
turned_other s sel n v k NrpnLow e h = refl
turned_other s sel n v k NrpnHigh e h = refl
turned_other s sel n v k RpnLow e h = refl
turned_other s sel n v k RpnHigh e h = refl
turned_other s sel n v k AllSoundOff e h = refl
turned_other s sel n v k ResetControllers e h = absurd (false≢true h)
turned_other s sel n v k AllNotesOff e h = refl
turned_other s sel n v k Ignored e h = refl

turned_length : (s : Channel) (sel : Selection) (n v : ℕ) (r : Role) → only_sets_by sel r ≡ true
    → length (controlled s n v r).controls ≡ length s.controls
turned_length s sel n v Stored h = length-set s.controls n v
turned_length s sel n v EntryHigh h = refl
turned_length s sel n v EntryLow h = refl
turned_length s sel n v NrpnLow h = refl
turned_length s sel n v NrpnHigh h = refl
turned_length s sel n v RpnLow h = refl
turned_length s sel n v RpnHigh h = refl
turned_length s sel n v AllSoundOff h = refl
turned_length s sel n v ResetControllers h = absurd (false≢true h)
turned_length s sel n v AllNotesOff h = refl
turned_length s sel n v Ignored h = refl

-- what the pedals need to know of two states
pub record SamePedals (a b : Channel) : Type 0 where
  pub hold : control_of b 64 ≡ control_of a 64
  pub sostenuto : control_of b 66 ≡ control_of a 66
  pub length : length b.controls ≡ length a.controls

same_still : (c : ℕ) (st : State) (msg : Msg) → OnlySets c st msg → is_still msg ≡ true → SamePedals st.own (apply st.own msg)
same_still c st (Control d n v) h s =
    let p = and_parts (not (nat_eq n 64)) (not (nat_eq n 66)) s in
    record {
      hold = turned_other st.own st.own.selection n v 64 (role n) (not-true (nat_eq n 64) p.0) h.sets;
      sostenuto = turned_other st.own st.own.selection n v 66 (role n) (not-true (nat_eq n 66) p.1) h.sets;
      length = turned_length st.own st.own.selection n v (role n) h.sets;
    }
same_still c st (NoteOn d k v) h s = absurd (false≢true s)
same_still c st (NoteOff d k v) h s = absurd (false≢true s)
same_still c st (KeyPressure d k v) h s = absurd (false≢true s)
same_still c st (Program d p) h s = record { hold = refl; sostenuto = refl; length = refl }
same_still c st (Pressure d v) h s = record { hold = refl; sostenuto = refl; length = refl }
same_still c st (Bend d v) h s = record { hold = refl; sostenuto = refl; length = refl }

pub record Inert (t : ℕ) (ss : List Channel) (c : ℕ) (st : State) (ns : List Note) (ms : List Msg) : Type 0 where
  pub music : sounded t (music_of ss c st.own ns) ms ≡ music_of ss c (apply_all st ms).own ns
  pub pedals : SamePedals st.own (apply_all st ms).own

pub inert : (t : ℕ) (ss : List Channel) (c : ℕ) (st : State) (ns : List Note) (ms : List Msg) → c < length ss
    → Along (OnlySets c) st ms → AreStill ms → Calm t ss c (control_of st.own 64) ns → Inert t ss c st ns ms
inert t ss c st ns [] low a s k = record { music = refl; pedals = record { hold = refl; sostenuto = refl; length = refl } }
inert t ss c st ns (x ∷ ms) low a s k =
    let same = same_still c st x a.0 s.0 in
    let now : Channel = apply st.own x in
    let calm : Calm t ss c (control_of now 64) ns = subst (λ (v : ℕ). Calm t ss c v ns) (sym same.hold) k in
    let rest = inert t ss c (apply_state st x) ns ms low a.1 s.1 calm in
    let one : settle t (act t x (music_of ss c st.own ns)) ≡ music_of ss c now ns =
    one_step t ss c st ns x low a.0
    ∙ ap (λ l. music_of ss c now (map (settled_by t ss c (control_of now 64)) l)) (notes_still (music_of ss c st.own ns) t c st x a.0 s.0)
    ∙ ap (λ l. music_of ss c now l) (calm_map t ss c (control_of now 64) ns calm) in
    record {
      music = ap (λ m. sounded t m ms) one ∙ rest.music;
      pedals = record {
        hold = rest.pedals.hold ∙ same.hold;
        sostenuto = rest.pedals.sostenuto ∙ same.sostenuto;
        length = rest.pedals.length ∙ same.length;
      };
    }

-- ---- the pedals

-- the hold pedal, where it differs: what nothing holds any more ends
pub record Holds (t : ℕ) (ss : List Channel) (c : ℕ) (st : State) (ns : List Note) (ms : List Msg) (y : ℕ) : Type 0 where
  pub music : sounded t (music_of ss c st.own ns) ms ≡ music_of ss c (apply_all st ms).own (map (settled_by t ss c y) ns)
  pub hold : control_of (apply_all st ms).own 64 ≡ y
  pub sostenuto : control_of (apply_all st ms).own 66 ≡ control_of st.own 66
  pub length : length (apply_all st ms).own.controls ≡ length st.own.controls

pub hold_pedal : (t : ℕ) (ss : List Channel) (c : ℕ) (st : State) (ns : List Note) (x y : ℕ) → c < length ss
    → length st.own.controls ≡ 120 → control_of st.own 64 ≡ x → Calm t ss c x ns
    → Holds t ss c st ns (where_differs x y (Control c 64 y)) y
hold_pedal t ss c st ns x y low len e k = pick (nat_eq x y) refl
  where
    pick : (b : Bool) → nat_eq x y ≡ b → Holds t ss c st ns (cond b [] (Control c 64 y ∷ [])) y
    pick true f =
        let z : x ≡ y = eqb-true x y f in
        record {
          music = ap (λ l. music_of ss c st.own l) (sym (calm_map t ss c y ns (subst (λ (v : ℕ). Calm t ss c v ns) z k)));
          hold = e ∙ z;
          sostenuto = refl;
          length = refl;
        }
    pick false f =
        let now : Channel = apply st.own (Control c 64 y) in
        let h : control_of now 64 ≡ y = get_or-set_same st.own.controls 64 y 0 (omega (arith, len)) in
        record {
          music =
              one_step t ss c st ns (Control c 64 y) low (record { channel = refl; sets = refl })
              ∙ ap (λ v. music_of ss c now (map (settled_by t ss c v) ns)) h;
          hold = h;
          sostenuto = get_or-set_other st.own.controls 64 66 y 0 (λ i. omega (arith, i));
          length = length-set st.own.controls 64 y;
        }

-- the sostenuto pedal, where it differs
pub sostenuto_pedal : (t : ℕ) (ss : List Channel) (c : ℕ) (st : State) (ns : List Note) (x y : ℕ) → c < length ss
    → control_of st.own 66 ≡ x → Calm t ss c (control_of st.own 64) ns
    → (let ms : List Msg = where_differs x y (Control c 66 y) in
    (sounded t (music_of ss c st.own ns) ms ≡ music_of ss c (apply_all st ms).own (map (settled_by t ss c (control_of st.own 64)) (map (sostenuto no_zones c x y) ns)))
    × (control_of (apply_all st ms).own 64 ≡ control_of st.own 64))
sostenuto_pedal t ss c st ns x y low e k = pick (nat_eq x y) refl
  where
    v : ℕ
    v = control_of st.own 64

    pick : (b : Bool) → nat_eq x y ≡ b → (let ms : List Msg = cond b [] (Control c 66 y ∷ []) in
        (sounded t (music_of ss c st.own ns) ms ≡ music_of ss c (apply_all st ms).own (map (settled_by t ss c (control_of st.own 64)) (map (sostenuto no_zones c x y) ns)))
        × (control_of (apply_all st ms).own 64 ≡ control_of st.own 64))
    pick true f =
        let z : x ≡ y = eqb-true x y f in
        let s : map (sostenuto no_zones c x y) ns ≡ ns =
        ap (λ w. map (sostenuto no_zones c x w) ns) (sym z) ∙ map_none (sostenuto no_zones c x x) ns (sostenuto_same no_zones c x) in
        (ap (λ l. music_of ss c st.own l) (sym (calm_map t ss c (control_of st.own 64) ns k)) ∙ ap (λ l. music_of ss c st.own (map (settled_by t ss c (control_of st.own 64)) l)) (sym s), refl)
    pick false f =
        let now : Channel = apply st.own (Control c 66 y) in
        let h : control_of now 64 ≡ control_of st.own 64 = get_or-set_other st.own.controls 66 64 y 0 (λ i. omega (arith, i)) in
        let own : channel_at (music_of ss c st.own ns) c ≡ st.own = get_or-set_same ss c st.own default_channel low in (
          one_step t ss c st ns (Control c 66 y) low (record { channel = refl; sets = refl })
              ∙ ap (λ w. music_of ss c now (map (settled_by t ss c w) (map (sostenuto no_zones c (control_of (channel_at (music_of ss c st.own ns) c) 66) y) ns))) h
              ∙ ap (λ w. music_of ss c now (map (settled_by t ss c (control_of st.own 64)) (map (sostenuto no_zones c (control_of w 66) y) ns))) own
              ∙ ap (λ w. music_of ss c now (map (settled_by t ss c (control_of st.own 64)) (map (sostenuto no_zones c w y) ns))) e,
          h,
        )

-- ---- all controllers

pub split_at : (j : ℕ) (xs : List ℕ) → j < length xs → xs ≡ take j xs ++ get_or xs j 0 ∷ drop (suc j) xs
split_at zero [] h = absurd (omega (arith, h))
split_at (suc j) [] h = absurd (omega (arith, h))
split_at zero (x ∷ xs) h = refl
split_at (suc j) (x ∷ xs) h = ap (λ r. x ∷ r) (split_at j xs (omega (arith, h)))

pub controls_split : (c n i : ℕ) (a b d e : List ℕ) (x y : ℕ) → length a ≡ length d → n + length a ≡ i
    → bring_controls c n (a ++ x ∷ b) (d ++ y ∷ e) ≡ bring_controls c n a d ++ (where_differs x y (Control c i y) ++ bring_controls c (i + 1) b e)
controls_split c n i [] b [] e x y l f =
    let z : n ≡ i = omega (arith, f) in ap (λ j. where_differs x y (Control c j y) ++ bring_controls c (j + 1) b e) z
controls_split c n i [] b (v ∷ d) e x y l f = absurd (omega (arith, l))
controls_split c n i (u ∷ a) b [] e x y l f = absurd (omega (arith, l))
controls_split c n i (u ∷ a) b (v ∷ d) e x y l f =
    ap (λ r. where_differs u v (Control c n v) ++ r) (controls_split c (n + 1) i a b d e x y (omega (arith, l)) (omega (arith, f)))
    ∙ sym (append_assoc (where_differs u v (Control c n v)) (bring_controls c (n + 1) a d) (where_differs x y (Control c i y) ++ bring_controls c (i + 1) b e))

pub controls_still : (c n : ℕ) (xs ys : List ℕ)
    → ((i : ℕ) → i < length xs → (not (nat_eq (n + i) 64) && not (nat_eq (n + i) 66)) ≡ true)
    → AreStill (bring_controls c n xs ys)
controls_still c n [] ys h = tt
controls_still c n (x ∷ xs) [] h = tt
controls_still c n (x ∷ xs) (y ∷ ys) h =
    let first : n + 0 ≡ n = omega arith in
    let shift : (i : ℕ) → (n + 1) + i ≡ n + suc i = λ i. omega arith in
    pick (nat_eq x y) (ap (λ j. not (nat_eq j 64) && not (nat_eq j 66)) (sym first) ∙ h 0 (omega arith))
    (controls_still c (n + 1) xs ys (λ i l. ap (λ j. not (nat_eq j 64) && not (nat_eq j 66)) (shift i) ∙ h (suc i) (omega (arith, l))))
  where
    pick : (b : Bool) → (not (nat_eq n 64) && not (nat_eq n 66)) ≡ true → AreStill (bring_controls c (n + 1) xs ys)
        → AreStill (cond b [] (Control c n y ∷ []) ++ bring_controls c (n + 1) xs ys)
    pick true e r = r
    pick false e r = (e, r)
