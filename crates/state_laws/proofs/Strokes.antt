-- A single controller acts on the notes by one stroke of the pedals too.
use Rattle.std.proofs.Common.{◌≡◌, ℕ, ◌≤◌, ◌<◌, List, [], ◌∷◌, Bool, true, false, cond, ◌&&◌, nat_eq, None, refl, ap, sym, ◌∙◌, arith, length, map, set, get_or}
use Rattle.std.proofs.lemmas.Bool.{and_parts, eqb-true, eqb-false}
use Rattle.std.proofs.lemmas.List.{get_or-set_same, get_or-set_other, length-set, set-get_or}
use Rattle.mt_base.specs.declared.event.Msg.{Msg}
use Rattle.mt_base.specs.declared.event.Msg.TheVariants.{Control}
use Rattle.midi_model.specs.Channel.{Channel, Stored, default_channel, role, control_of, reset_controls, controlled, apply}
use Rattle.midi_model.specs.WellFormed.{is_stored}
use Rattle.midi_model.specs.Zones.{Zones, no_zones, governor}
use Rattle.midi_model.specs.Notes.{Note, sounds, is_down, is_pedal_down, ending, sostenuto, without_pressure}
use Rattle.midi_model.specs.Music.{Music, channel_at, asks, asked_by, notes_turned, act, settle, play}
use Rattle.midi_model.specs.MusicLaws.{IsSettled}
use Rattle.state_laws.specs.Heard.{events_of, pedalled}
use Rattle.state_laws.proofs.Steps.{stored_role}
use Rattle.state_laws.proofs.Pedals.{map_same, map_then, map_none, settled_by, held, sostenuto_keeps, Calm, sostenuto_same, strokes_are}
use Rattle.state_laws.proofs.Sounding.{music_of, one_step_by}
use Rattle.state_laws.proofs.Followed.{calm_music}

started : (m : Music) (c : ℕ) → m.zones ≡ no_zones → m ≡ music_of m.channels c (channel_at m c) m.notes
started m c z =
    ap (λ x. let r : Music = record { channels = m.channels; zones = x; notes = m.notes } in r) z
    ∙ ap (λ x. let r : Music = record { channels = x; zones = no_zones; notes = m.notes } in r) (sym (set-get_or m.channels c default_channel))

-- ---- a controller that is stored

turned_notes : (m : Music) (t c n v : ℕ) (s : Channel) → channel_at m c ≡ s → m.zones ≡ no_zones → is_stored n ≡ true
    → length s.controls ≡ 120
    → notes_turned m t c n v (role n) ≡ map (sostenuto no_zones c (control_of s 66) (control_of (apply s (Control c n v)) 66)) m.notes
turned_notes m t c n v s here z e len =
    let r : role n ≡ Stored = stored_role (role n) e in
    ap (notes_turned m t c n v) r ∙ by (nat_eq n 66) refl
    ∙ ap (λ x. map (sostenuto no_zones c (control_of s 66) (get_or x.controls 66 0)) m.notes) (sym (ap (controlled s n v) r))
  where
    by : (b : Bool) → nat_eq n 66 ≡ b
        → cond b (map (sostenuto m.zones c (control_of (channel_at m c) 66) v) m.notes) m.notes ≡ map (sostenuto no_zones c (control_of s 66) (get_or (set s.controls n v) 66 0)) m.notes
    by true e =
        let i : n ≡ 66 = eqb-true n 66 e in
        let to : get_or (set s.controls n v) 66 0 ≡ v =
        ap (λ j. get_or (set s.controls j v) 66 0) i ∙ get_or-set_same s.controls 66 v 0 (omega (arith, len)) in
        ap (λ x. map (sostenuto x c (control_of (channel_at m c) 66) v) m.notes) z
        ∙ ap (λ x. map (sostenuto no_zones c (control_of x 66) v) m.notes) here
        ∙ ap (λ x. map (sostenuto no_zones c (control_of s 66) x) m.notes) (sym to)
    by false e =
        let stay : get_or (set s.controls n v) 66 0 ≡ control_of s 66 = get_or-set_other s.controls n 66 v 0 (λ x. eqb-false n 66 e (sym x)) in
        sym (map_none (sostenuto no_zones c (control_of s 66) (control_of s 66)) m.notes (sostenuto_same no_zones c (control_of s 66)))
        ∙ ap (λ x. map (sostenuto no_zones c (control_of s 66) x) m.notes) (sym stay)

asks_stored : (m : Music) (c n v : ℕ) → is_stored n ≡ true → (let msg : Msg = Control c n v in asks m msg) ≡ None
asks_stored m c n v e = ap (asked_by m c v) (stored_role (role n) e)

pub controls_stroke : (m : Music) (t track c n v : ℕ) → IsSettled m → m.zones ≡ no_zones → c ≤ 15 → is_stored n ≡ true
    → length (channel_at m c).controls ≡ 120
    → (play m (events_of t track (Control c n v ∷ []))).notes ≡ map (pedalled t c (channel_at m c) (apply (channel_at m c) (Control c n v))) m.notes
controls_stroke m t track c n v s z ok e len =
    let ss : List Channel = m.channels in
    let low : c < length ss = omega (arith, s.channels, ok) in
    let own : Channel = channel_at m c in
    let now : Channel = apply own (Control c n v) in
    let m' : Music = music_of ss c own m.notes in
    let here : channel_at m' c ≡ own = get_or-set_same ss c own default_channel low in
    let one = one_step_by t ss c own m.notes (Control c n v) low refl (asks_stored m' c n v e) in
    ap (λ x. (settle t (act t (Control c n v) x)).notes) (started m c z)
    ∙ ap (λ x. x.notes) one
    ∙ ap (map (settled_by t ss c (control_of now 64))) (turned_notes m' t c n v own here refl e len)
    ∙ strokes_are t ss c own now m.notes (calm_music m t c own s z low refl)

-- ---- reset all controllers

-- sostenuto by its tests
abbrev by_tests : Bool → Bool → Bool → Bool → Note → Note
by_tests g a b d n = cond g (cond a (cond b n (record n { captured = false })) (cond d (record n { captured = true }) n)) n

abbrev muted : Bool → Note → Note
muted w n = cond w (record n { pressure = 0 }) n

muted_keeps : {A : Type 0} (f : Note → A) (c : ℕ) (n : Note)
    → ((p : ℕ) → (let x : Note = record n { pressure = p } in f x ≡ f n)) → f (without_pressure c n) ≡ f n
muted_keeps f c n h = pick (nat_eq n.channel c && sounds n)
  where
    pick : (b : Bool) → f (muted b n) ≡ f n
    pick true = h 0
    pick false = refl

tests_swap : (w g a b d : Bool) (n : Note) → muted w (by_tests g a b d n) ≡ by_tests g a b d (muted w n)
tests_swap true true true true d n = refl
tests_swap true true true false d n = refl
tests_swap true true false b true n = refl
tests_swap true true false b false n = refl
tests_swap true false a b d n = refl
tests_swap false true true true d n = refl
tests_swap false true true false d n = refl
tests_swap false true false b true n = refl
tests_swap false true false b false n = refl
tests_swap false false a b d n = refl

swap : (z : Zones) (c a b : ℕ) (n : Note) → without_pressure c (sostenuto z c a b n) ≡ sostenuto z c a b (without_pressure c n)
swap z c a b n =
    let x : Note = without_pressure c n in
    let w : Bool = nat_eq n.channel c && sounds n in
    let da : Bool = is_pedal_down a in
    let db : Bool = is_pedal_down b in
    let first : without_pressure c (sostenuto z c a b n) ≡ muted w (sostenuto z c a b n) =
    ap (λ y. muted y (sostenuto z c a b n)) (sostenuto_keeps (λ y. nat_eq y.channel c && sounds y) z c a b n (λ d. refl)) in
    let g : (nat_eq (governor z x.channel) c && sounds x) ≡ (nat_eq (governor z n.channel) c && sounds n) =
    muted_keeps (λ y. nat_eq (governor z y.channel) c && sounds y) c n (λ p. refl) in
    let d : (db && is_down x) ≡ (db && is_down n) = muted_keeps (λ y. db && is_down y) c n (λ p. refl) in
    first ∙ tests_swap w (nat_eq (governor z n.channel) c && sounds n) da db (db && is_down n) n
    ∙ ap (λ y. by_tests y da db (db && is_down n) x) (sym g) ∙ ap (λ y. by_tests (nat_eq (governor z x.channel) c && sounds x) da db y x) (sym d)

calm_muted : (t : ℕ) (ss : List Channel) (c v : ℕ) (ns : List Note) → Calm t ss c v ns
    → Calm t ss c v (map (without_pressure c) ns)
calm_muted t ss c v [] h = tt
calm_muted t ss c v (n ∷ ns) h = (pick (nat_eq n.channel c && sounds n) refl, calm_muted t ss c v ns h.1)
  where
    pick : (w : Bool) → (nat_eq n.channel c && sounds n) ≡ w → settled_by t ss c v (muted w n) ≡ muted w n
    pick false f = h.0
    pick true f =
        let s : sounds n ≡ true = (and_parts (nat_eq n.channel c) (sounds n) f).1 in
        ap (λ b. let x : Note = record n { pressure = 0 } in cond b (ending t x) x) (held t ss c v n h.0 s)

reset_sostenuto : (xs : List ℕ) → length xs ≡ 120 → get_or (reset_controls xs) 66 0 ≡ 0
reset_sostenuto xs h =
    let one : List ℕ = set xs 1 0 in
    let two : List ℕ = set one 11 127 in
    let three : List ℕ = set two 64 0 in
    let four : List ℕ = set three 65 0 in
    get_or-set_other (set four 66 0) 67 66 0 0 (λ x. omega (arith, x))
    ∙ get_or-set_same four 66 0 0 (omega (arith, h, length-set three 65 0, length-set two 64 0, length-set one 11 127, length-set xs 1 0))

pub reset_strokes : (m : Music) (t track c v : ℕ) → IsSettled m → m.zones ≡ no_zones → c ≤ 15
    → length (channel_at m c).controls ≡ 120
    → (play m (events_of t track (Control c 121 v ∷ []))).notes ≡ map (λ n. pedalled t c (channel_at m c) (apply (channel_at m c) (Control c 121 v)) (without_pressure c n)) m.notes
reset_strokes m t track c v s z ok len =
    let ss : List Channel = m.channels in
    let low : c < length ss = omega (arith, s.channels, ok) in
    let own : Channel = channel_at m c in
    let now : Channel = apply own (Control c 121 v) in
    let m' : Music = music_of ss c own m.notes in
    let here : channel_at m' c ≡ own = get_or-set_same ss c own default_channel low in
    let up : control_of now 66 ≡ 0 = reset_sostenuto own.controls len in
    let sv : Note → Note = settled_by t ss c (control_of now 64) in
    let so : Note → Note = sostenuto no_zones c (control_of own 66) (control_of now 66) in
    let one = one_step_by t ss c own m.notes (Control c 121 v) low refl refl in
    ap (λ x. (settle t (act t (Control c 121 v) x)).notes) (started m c z)
    ∙ ap (λ x. x.notes) one
    ∙ ap (λ x. map sv (map (λ n. without_pressure c (sostenuto no_zones c (control_of x 66) 0 n)) m.notes)) here
    ∙ ap (λ x. map sv (map (λ n. without_pressure c (sostenuto no_zones c (control_of own 66) x n)) m.notes)) (sym up)
    ∙ ap (map sv) (map_same (λ n. without_pressure c (so n)) (λ n. so (without_pressure c n)) m.notes (swap no_zones c (control_of own 66) (control_of now 66)) ∙ sym (map_then so (without_pressure c) m.notes))
    ∙ strokes_are t ss c own now (map (without_pressure c) m.notes) (calm_muted t ss c (control_of own 64) m.notes (calm_music m t c own s z low refl))
    ∙ map_then (pedalled t c own now) (without_pressure c) m.notes
