-- What a receiver plays where a channel is brought to a state.
use Rattle.std.proofs.Common.{◌≡◌, ◌≢◌, ℕ, ◌+◌, ◌≤◌, ◌<◌, List, [], ◌∷◌, ◌++◌, Bool, true, false, cond, ◌&&◌, not, nat_eq, refl, ap, sym, ◌∙◌, subst, arith, length, map, set, get_or, take, drop, length-take, length-drop}
use Rattle.std.proofs.lemmas.Bool.{ne_eqb, and_from, not_from_false}
use Rattle.std.proofs.lemmas.List.{set-get_or, get_or-drop}
use Rattle.mt_base.specs.declared.event.Msg.{Msg}
use Rattle.mt_base.specs.declared.event.Msg.TheVariants.{KeyPressure, Control, Program, Pressure, Bend}
use Rattle.midi_model.specs.Params.{Parameter, Entry, value_of}
use Rattle.midi_model.specs.Channel.{Channel, State, Voice, default_channel, control_of, apply_state}
use Rattle.midi_model.specs.WellFormed.{IsWellFormed}
use Rattle.midi_model.specs.Zones.{no_zones}
use Rattle.midi_model.specs.Notes.{Note, sostenuto, with_pressure}
use Rattle.midi_model.specs.Music.{Music, channel_at, act, settle_note, settle, play}
use Rattle.midi_model.specs.MusicLaws.{IsSettled}
use Rattle.midi_model.specs.Bring.{apply_all, where_differs, voice_eq, bring_voice, bring_controls, choose_parameter, bring_parameter, bring_each, closed, bring_keys, bring}
use Rattle.state_laws.specs.Reached.{changed}
use Rattle.state_laws.specs.Sent.{Along, OnlySets}
use Rattle.state_laws.specs.Heard.{events_of, pedalled, pressed, IsBrought}
use Rattle.state_laws.proofs.Laws.{Laws}
use Rattle.state_laws.proofs.Steps.{apply_all-append, next}
use Rattle.state_laws.proofs.Reaching.{first_state, second_state, third_state, fourth_state, first_reach, second_reach, third_reach, pressed_reach, bent_reach, brought, bring_is, sized_voice, sized}
use Rattle.state_laws.proofs.Rooms.{only_settings}
use Rattle.state_laws.proofs.Pedals.{map_same, map_then, settled_by, settle_is, Calm, calm_map, calm_from, calm_after, calm_pressures, settled_first, strokes_are, press, press_is}
use Rattle.state_laws.proofs.Sounding.{sounded, play_events, sounded_append, along_first, along_last, music_of, one_step, is_still, AreStill, still_append, inert, hold_pedal, sostenuto_pedal, split_at, controls_split, controls_still}

-- the messages lead from the notes ns to the notes xs, while the channel goes from its state as the messages say
abbrev Leads : ℕ → List Channel → ℕ → State → List Note → List Msg → List Note → Type 0
Leads t ss c st ns ms xs = sounded t (music_of ss c st.own ns) ms ≡ music_of ss c (apply_all st ms).own xs

leads_then : (t : ℕ) (ss : List Channel) (c : ℕ) (st : State) (ns xs ys : List Note) (a b : List Msg)
    → Leads t ss c st ns a xs → Leads t ss c (apply_all st a) xs b ys → Leads t ss c st ns (a ++ b) ys
leads_then t ss c st ns xs ys a b h k =
    sounded_append t (music_of ss c st.own ns) a b ∙ ap (λ m. sounded t m b) h ∙ k ∙ ap (λ s. music_of ss c s.own ys) (sym (apply_all-append st a b))

-- ---- the controllers

apart_from : (n : ℕ) → n ≢ 64 → n ≢ 66 → (not (nat_eq n 64) && not (nat_eq n 66)) ≡ true
apart_from n a b =
    and_from (not (nat_eq n 64)) (not (nat_eq n 66)) (not_from_false (nat_eq n 64) (ne_eqb n 64 a)) (not_from_false (nat_eq n 66) (ne_eqb n 66 b))

controls_lead : (t : ℕ) (ss : List Channel) (c : ℕ) (st : State) (ns : List Note) (xs ys : List ℕ) → c < length ss
    → length xs ≡ 120 → length ys ≡ 120 → length st.own.controls ≡ 120
    → control_of st.own 64 ≡ get_or xs 64 0 → control_of st.own 66 ≡ get_or xs 66 0
    → Along (OnlySets c) st (bring_controls c 0 xs ys) → Calm t ss c (get_or xs 64 0) ns
    → Leads t ss c st ns (bring_controls c 0 xs ys) (map (settled_by t ss c (get_or ys 64 0)) (map (sostenuto no_zones c (get_or xs 66 0) (get_or ys 66 0)) ns))
controls_lead t ss c st ns xs ys low lx ly len hold sost along calm =
    let r : List ℕ = drop 65 xs in
    let s : List ℕ = drop 65 ys in
    let x64 : ℕ = get_or xs 64 0 in
    let y64 : ℕ = get_or ys 64 0 in
    let x66 : ℕ = get_or r 1 0 in
    let y66 : ℕ = get_or s 1 0 in
    let lr : length r ≡ 55 = omega (arith, length-drop 65 xs, lx) in
    let ls : length s ≡ 55 = omega (arith, length-drop 65 ys, ly) in
    let a : List Msg = bring_controls c 0 (take 64 xs) (take 64 ys) in
    let d : List Msg = where_differs x64 y64 (Control c 64 y64) in
    let b : List Msg = bring_controls c 65 (take 1 r) (take 1 s) in
    let e : List Msg = where_differs x66 y66 (Control c 66 y66) in
    let f : List Msg = bring_controls c 67 (drop 2 r) (drop 2 s) in
    let ta : length (take 64 xs) ≡ 64 = omega (arith, length-take 64 xs, lx) in
    let tb : length (take 64 ys) ≡ 64 = omega (arith, length-take 64 ys, ly) in
    let ua : length (take 1 r) ≡ 1 = omega (arith, length-take 1 r, lr) in
    let ub : length (take 1 s) ≡ 1 = omega (arith, length-take 1 s, ls) in
    let first : bring_controls c 0 xs ys ≡ a ++ (d ++ bring_controls c 65 r s) =
    ap (λ l. bring_controls c 0 l ys) (split_at 64 xs (omega (arith, lx)))
    ∙ ap (λ l. bring_controls c 0 (take 64 xs ++ x64 ∷ r) l) (split_at 64 ys (omega (arith, ly)))
    ∙ controls_split c 0 64 (take 64 xs) r (take 64 ys) s x64 y64 (ta ∙ sym tb) (omega (arith, ta)) in
    let second : bring_controls c 65 r s ≡ b ++ (e ++ f) =
    ap (λ l. bring_controls c 65 l s) (split_at 1 r (omega (arith, lr)))
    ∙ ap (λ l. bring_controls c 65 (take 1 r ++ x66 ∷ drop 2 r) l) (split_at 1 s (omega (arith, ls)))
    ∙ controls_split c 65 66 (take 1 r) (drop 2 r) (take 1 s) (drop 2 s) x66 y66 (ua ∙ sym ub) (omega (arith, ua)) in
    let whole : bring_controls c 0 xs ys ≡ a ++ (d ++ (b ++ (e ++ f))) = first ∙ ap (λ l. a ++ (d ++ l)) second in
    let P : State → Msg → Type 0 = OnlySets c in
    let m0 : Along P st (a ++ (d ++ (b ++ (e ++ f)))) = subst (Along P st) whole along in
    let sa : State = apply_all st a in
    let sd : State = apply_all sa d in
    let sb : State = apply_all sd b in
    let se : State = apply_all sb e in
    let m1 : Along P sa (d ++ (b ++ (e ++ f))) = along_last P st a (d ++ (b ++ (e ++ f))) m0 in
    let m2 : Along P sd (b ++ (e ++ f)) = along_last P sa d (b ++ (e ++ f)) m1 in
    let m3 : Along P sb (e ++ f) = along_last P sd b (e ++ f) m2 in
    let m4 : Along P se f = along_last P sb e f m3 in
    let sta : AreStill a =
    controls_still c 0 (take 64 xs) (take 64 ys) (λ i l. apart_from (0 + i) (λ z. omega (arith, z, l, ta)) (λ z. omega (arith, z, l, ta))) in
    let stb : AreStill b =
    controls_still c 65 (take 1 r) (take 1 s) (λ i l. apart_from (65 + i) (λ z. omega (arith, z, l, ua)) (λ z. omega (arith, z, l, ua))) in
    let stf : AreStill f = controls_still c 67 (drop 2 r) (drop 2 s) (λ i l. apart_from (67 + i) (λ z. omega (arith, z)) (λ z. omega (arith, z))) in
    let ia = inert t ss c st ns a low (along_first P st a (d ++ (b ++ (e ++ f))) m0) sta (subst (λ (v : ℕ). Calm t ss c v ns) (sym hold) calm) in
    let hd = hold_pedal t ss c sa ns x64 y64 low (ia.pedals.length ∙ len) (ia.pedals.hold ∙ hold) calm in
    let n2 : List Note = map (settled_by t ss c y64) ns in
    let c2 : Calm t ss c y64 n2 = calm_after t ss c y64 ns in
    let ib = inert t ss c sd n2 b low (along_first P sd b (e ++ f) m2) stb (subst (λ (v : ℕ). Calm t ss c v n2) (sym hd.hold) c2) in
    let hb : control_of sb.own 64 ≡ y64 = ib.pedals.hold ∙ hd.hold in
    let gx : x66 ≡ get_or xs 66 0 = get_or-drop 65 xs 1 0 in
    let gy : y66 ≡ get_or ys 66 0 = get_or-drop 65 ys 1 0 in
    let he =
    sostenuto_pedal t ss c sb n2 x66 y66 low (ib.pedals.sostenuto ∙ hd.sostenuto ∙ ia.pedals.sostenuto ∙ sost ∙ sym gx) (subst (λ (v : ℕ). Calm t ss c v n2) (sym hb) c2) in
    let n3 : List Note = map (settled_by t ss c (control_of sb.own 64)) (map (sostenuto no_zones c x66 y66) n2) in
    let c3 : Calm t ss c (control_of sb.own 64) n3 = calm_after t ss c (control_of sb.own 64) (map (sostenuto no_zones c x66 y66) n2) in
    let if_ = inert t ss c se n3 f low m4 stf (subst (λ (v : ℕ). Calm t ss c v n3) (sym he.1) c3) in
    let led : Leads t ss c st ns (a ++ (d ++ (b ++ (e ++ f)))) n3 =
    leads_then t ss c st ns ns n3 a (d ++ (b ++ (e ++ f))) ia.music
    (leads_then t ss c sa ns n2 n3 d (b ++ (e ++ f)) hd.music
    (leads_then t ss c sd n2 n2 n3 b (e ++ f) ib.music
    (leads_then t ss c sb n2 n3 n3 e f he.0 if_.music))) in
    let same : n3 ≡ map (settled_by t ss c y64) (map (sostenuto no_zones c (get_or xs 66 0) (get_or ys 66 0)) ns) =
    ap (λ v. map (settled_by t ss c v) (map (sostenuto no_zones c x66 y66) n2)) hb
    ∙ first_settled y64 x66 y66
    ∙ ap (λ x. map (settled_by t ss c y64) (map (sostenuto no_zones c x y66) ns)) gx
    ∙ ap (λ y. map (settled_by t ss c y64) (map (sostenuto no_zones c (get_or xs 66 0) y) ns)) gy in
    subst (λ (ms : List Msg). Leads t ss c st ns ms (map (settled_by t ss c y64) (map (sostenuto no_zones c (get_or xs 66 0) (get_or ys 66 0)) ns))) (sym whole)
    (led ∙ ap (λ l. music_of ss c (apply_all st (a ++ (d ++ (b ++ (e ++ f))))).own l) same)
  where
    first_settled : (v x y : ℕ)
        → map (settled_by t ss c v) (map (sostenuto no_zones c x y) (map (settled_by t ss c v) ns)) ≡ map (settled_by t ss c v) (map (sostenuto no_zones c x y) ns)
    first_settled v x y =
        ap (map (settled_by t ss c v)) (map_then (sostenuto no_zones c x y) (settled_by t ss c v) ns)
        ∙ map_then (settled_by t ss c v) (λ n. sostenuto no_zones c x y (settled_by t ss c v n)) ns
        ∙ map_same (λ n. settled_by t ss c v (sostenuto no_zones c x y (settled_by t ss c v n))) (λ n. settled_by t ss c v (sostenuto no_zones c x y n)) ns (settled_first t ss c v x y)
        ∙ sym (map_then (settled_by t ss c v) (sostenuto no_zones c x y) ns)

-- ---- the key pressures

keys_lead : (t : ℕ) (ss : List Channel) (c k : ℕ) (st : State) (ns : List Note) (xs ys : List ℕ) → c < length ss
    → Calm t ss c (control_of st.own 64) ns → Leads t ss c st ns (bring_keys c k xs ys) (map (press c k xs ys) ns)
keys_lead t ss c k st ns [] ys low h = ap (λ l. music_of ss c st.own l) (sym (map_id ns))
  where
    map_id : (ns : List Note) → map (λ n. n) ns ≡ ns
    map_id [] = refl
    map_id (n ∷ ns) = ap (λ r. n ∷ r) (map_id ns)
keys_lead t ss c k st ns (x ∷ xs) [] low h = ap (λ l. music_of ss c st.own l) (sym (map_id ns))
  where
    map_id : (ns : List Note) → map (λ n. n) ns ≡ ns
    map_id [] = refl
    map_id (n ∷ ns) = ap (λ r. n ∷ r) (map_id ns)
keys_lead t ss c k st ns (x ∷ xs) (y ∷ ys) low h =
    let v : ℕ = control_of st.own 64 in
    let one : List Note = map (with_pressure c k y) ns in
    let calm : Calm t ss c v one = calm_pressures t ss c v c k y ns h in
    let heard : settle t (act t (KeyPressure c k y) (music_of ss c st.own ns)) ≡ music_of ss c st.own one =
    one_step t ss c st ns (KeyPressure c k y) low (record { channel = refl; sets = refl })
    ∙ ap (λ l. music_of ss c st.own l) (calm_map t ss c v one calm) in
    pick (nat_eq x y) heard (keys_lead t ss c (k + 1) st ns xs ys low h) (keys_lead t ss c (k + 1) (apply_state st (KeyPressure c k y)) one xs ys low calm)
  where
    pick : (b : Bool)
        → settle t (act t (KeyPressure c k y) (music_of ss c st.own ns)) ≡ music_of ss c st.own (map (with_pressure c k y) ns)
        → Leads t ss c st ns (bring_keys c (k + 1) xs ys) (map (press c (k + 1) xs ys) ns)
        → Leads t ss c (apply_state st (KeyPressure c k y)) (map (with_pressure c k y) ns) (bring_keys c (k + 1) xs ys) (map (press c (k + 1) xs ys) (map (with_pressure c k y) ns))
        → Leads t ss c st ns (cond b [] (KeyPressure c k y ∷ []) ++ bring_keys c (k + 1) xs ys) (map (λ n. press c (k + 1) xs ys (cond b n (with_pressure c k y n))) ns)
    pick true heard same then = same
    pick false heard same then =
        ap (λ m. sounded t m (bring_keys c (k + 1) xs ys)) heard ∙ then
        ∙ ap (λ l. music_of ss c (apply_all (apply_state st (KeyPressure c k y)) (bring_keys c (k + 1) xs ys)).own l) (map_then (press c (k + 1) xs ys) (with_pressure c k y) ns)

-- ---- what no note hears

voice_still : (c : ℕ) (v : Voice) (a h l : Bool)
    → AreStill (cond a [] ((cond h [] (Control c 0 v.high ∷ []) ++ cond l [] (Control c 32 v.low ∷ [])) ++ Program c v.program ∷ []))
voice_still c v true h l = tt
voice_still c v false true true = (refl, tt)
voice_still c v false true false = (refl, (refl, tt))
voice_still c v false false true = (refl, (refl, tt))
voice_still c v false false false = (refl, (refl, (refl, tt)))

parameter_still : (c : ℕ) (b x y : Bool) (h l v w : ℕ)
    → (let p : Parameter = record { registered = b; high = h; low = l } in AreStill (choose_parameter c p ++ (cond x [] (Control c 6 v ∷ []) ++ cond y [] (Control c 38 w ∷ []))))
parameter_still c true true true h l v w = (refl, (refl, tt))
parameter_still c true true false h l v w = (refl, (refl, (refl, tt)))
parameter_still c true false true h l v w = (refl, (refl, (refl, tt)))
parameter_still c true false false h l v w = (refl, (refl, (refl, (refl, tt))))
parameter_still c false true true h l v w = (refl, (refl, tt))
parameter_still c false true false h l v w = (refl, (refl, (refl, tt)))
parameter_still c false false true h l v w = (refl, (refl, (refl, tt)))
parameter_still c false false false h l v w = (refl, (refl, (refl, (refl, tt))))

each_still : (c : ℕ) (now es : List Entry) → AreStill (bring_each c now es)
each_still c now [] = tt
each_still c now (e ∷ es) =
    let v : ℕ × ℕ = value_of now e.parameter in
    still_append (bring_parameter c v e) (bring_each c now es)
    (parameter_still c e.parameter.registered (nat_eq v.0 e.value.0) (nat_eq v.1 e.value.1) e.parameter.high e.parameter.low e.value.0 e.value.1) (each_still c now es)

closed_still : (c : ℕ) (ms : List Msg) → AreStill ms → AreStill (closed c ms)
closed_still c [] h = tt
closed_still c (m ∷ ms) h = still_append (m ∷ ms) (Control c 101 127 ∷ Control c 100 127 ∷ []) h (refl, (refl, tt))

differs_still : (a b : ℕ) (m : Msg) → is_still m ≡ true → AreStill (where_differs a b m)
differs_still a b m e = pick (nat_eq a b)
  where
    pick : (d : Bool) → AreStill (cond d [] (m ∷ []))
    pick true = tt
    pick false = (e, tt)

-- ---- the whole

bring_leads : Laws → (t : ℕ) (ss : List Channel) (c : ℕ) (now wanted : State) (ns : List Note) → c < length ss → c ≤ 15
    → IsWellFormed now → IsWellFormed wanted → Calm t ss c (control_of now.own 64) ns
    → Leads t ss c now ns (bring c now wanted) (map (press c 0 now.keys wanted.keys) (map (pedalled t c now.own wanted.own) ns))
bring_leads l t ss c now wanted ns low ok hn hw calm =
    let P : State → Msg → Type 0 = OnlySets c in
    let v : List Msg = bring_voice c now.own wanted.own.voice in
    let xs : List ℕ = (first_state now wanted).own.controls in
    let ys : List ℕ = wanted.own.controls in
    let k : List Msg = bring_controls c 0 xs ys in
    let p : List Msg = closed c (bring_each c now.own.params (changed now wanted)) in
    let w : List Msg = where_differs now.own.pressure wanted.own.pressure (Pressure c wanted.own.pressure) in
    let b : List Msg = where_differs now.own.bend wanted.own.bend (Bend c wanted.own.bend) in
    let ks : List Msg = bring_keys c 0 now.keys wanted.keys in
    let zero_ = first_reach c now wanted hn in
    let one = next now (first_state now wanted) v k zero_ ∙ second_reach c now wanted hn hw in
    let two = next now (second_state now wanted) (v ++ k) p one ∙ third_reach l c now wanted hn hw in
    let three = next now (third_state now wanted) ((v ++ k) ++ p) w two ∙ pressed_reach (third_state now wanted) c wanted.own.pressure in
    let four = next now (fourth_state now wanted) (((v ++ k) ++ p) ++ w) b three ∙ bent_reach (fourth_state now wanted) c wanted.own.bend in
    let along : Along P now (brought c now wanted) = subst (Along P now) (bring_is c now wanted hn) (only_settings l c now wanted ok hn hw) in
    let a5 : Along P now ((((v ++ k) ++ p) ++ w) ++ b) = along_first P now ((((v ++ k) ++ p) ++ w) ++ b) ks along in
    let a4 : Along P now (((v ++ k) ++ p) ++ w) = along_first P now (((v ++ k) ++ p) ++ w) b a5 in
    let a3 : Along P now ((v ++ k) ++ p) = along_first P now ((v ++ k) ++ p) w a4 in
    let a2 : Along P now (v ++ k) = along_first P now (v ++ k) p a3 in
    let hold : ℕ = control_of wanted.own 64 in
    let sv : State = apply_all now v in
    let iv =
    inert t ss c now ns v low (along_first P now v k a2) (voice_still c wanted.own.voice (voice_eq now.own.voice wanted.own.voice) (nat_eq (get_or now.own.controls 0 0) wanted.own.voice.high) (nat_eq (get_or now.own.controls 32 0) wanted.own.voice.low)) calm in
    let h64 : control_of sv.own 64 ≡ get_or xs 64 0 = ap (λ s. control_of s.own 64) zero_ in
    let h66 : control_of sv.own 66 ≡ get_or xs 66 0 = ap (λ s. control_of s.own 66) zero_ in
    let c1 : Calm t ss c (get_or xs 64 0) ns = subst (λ (x : ℕ). Calm t ss c x ns) (sym iv.pedals.hold ∙ h64) calm in
    let lk =
    controls_lead t ss c sv ns xs ys low (sized_voice now.own.controls now.own.voice wanted.own.voice (sized now hn)).length hw.controls (iv.pedals.length ∙ hn.controls) h64 h66 (along_last P now v k a2) c1 in
    let n1 : List Note = map (settled_by t ss c hold) (map (sostenuto no_zones c (get_or xs 66 0) (control_of wanted.own 66)) ns) in
    let calm1 : Calm t ss c hold n1 = calm_after t ss c hold (map (sostenuto no_zones c (get_or xs 66 0) (control_of wanted.own 66)) ns) in
    let at : (s : State) → control_of s.own 64 ≡ hold → Calm t ss c (control_of s.own 64) n1 =
    λ s e. subst (λ (x : ℕ). Calm t ss c x n1) (sym e) calm1 in
    let ip =
    inert t ss c (apply_all now (v ++ k)) n1 p low (along_last P now (v ++ k) p a3) (closed_still c (bring_each c now.own.params (changed now wanted)) (each_still c now.own.params (changed now wanted))) (at (apply_all now (v ++ k)) (ap (λ s. control_of s.own 64) one)) in
    let iw =
    inert t ss c (apply_all now ((v ++ k) ++ p)) n1 w low (along_last P now ((v ++ k) ++ p) w a4) (differs_still now.own.pressure wanted.own.pressure (Pressure c wanted.own.pressure) refl) (at (apply_all now ((v ++ k) ++ p)) (ap (λ s. control_of s.own 64) two)) in
    let ib =
    inert t ss c (apply_all now (((v ++ k) ++ p) ++ w)) n1 b low (along_last P now (((v ++ k) ++ p) ++ w) b a5) (differs_still now.own.bend wanted.own.bend (Bend c wanted.own.bend) refl) (at (apply_all now (((v ++ k) ++ p) ++ w)) (ap (λ s. control_of s.own 64) three)) in
    let n2 : List Note = map (press c 0 now.keys wanted.keys) n1 in
    let lks =
    keys_lead t ss c 0 (apply_all now ((((v ++ k) ++ p) ++ w) ++ b)) n1 now.keys wanted.keys low (at (apply_all now ((((v ++ k) ++ p) ++ w) ++ b)) (ap (λ s. control_of s.own 64) four)) in
    let led : Leads t ss c now ns (brought c now wanted) n2 =
    leads_then t ss c now ns n1 n2 ((((v ++ k) ++ p) ++ w) ++ b) ks
    (leads_then t ss c now ns n1 n1 (((v ++ k) ++ p) ++ w) b
    (leads_then t ss c now ns n1 n1 ((v ++ k) ++ p) w
    (leads_then t ss c now ns n1 n1 (v ++ k) p
    (leads_then t ss c now ns ns n1 v k iv.music lk) ip.music) iw.music) ib.music) lks in
    let x66 : get_or xs 66 0 ≡ control_of now.own 66 = sym h66 ∙ iv.pedals.sostenuto in
    let strokes : n1 ≡ map (pedalled t c now.own wanted.own) ns =
    ap (λ x. map (settled_by t ss c hold) (map (sostenuto no_zones c x (control_of wanted.own 66)) ns)) x66
    ∙ strokes_are t ss c now.own wanted.own ns calm in
    subst (λ (ms : List Msg). Leads t ss c now ns ms (map (press c 0 now.keys wanted.keys) (map (pedalled t c now.own wanted.own) ns))) (sym (bring_is c now wanted hn))
    (led ∙ ap (λ x. music_of ss c (apply_all now (brought c now wanted)).own (map (press c 0 now.keys wanted.keys) x)) strokes)

pub plays : Laws → (m : Music) (t track c : ℕ) (now wanted : State) → IsSettled m → m.zones ≡ no_zones → c ≤ 15
    → IsWellFormed now → IsWellFormed wanted → now.own ≡ channel_at m c
    → IsBrought t c now wanted m (play m (events_of t track (bring c now wanted)))
plays l m t track c now wanted s z ok hn hw own =
    let ss : List Channel = m.channels in
    let low : c < length ss = omega (arith, s.channels, ok) in
    let put : set ss c now.own ≡ ss = ap (λ x. set ss c x) own ∙ set-get_or ss c default_channel in
    let start : m ≡ music_of ss c now.own m.notes =
    ap (λ x. let r : Music = record { channels = ss; zones = x; notes = m.notes } in r) z
    ∙ ap (λ x. let r : Music = record { channels = x; zones = no_zones; notes = m.notes } in r) (sym put) in
    let settled : map (settle_note (set ss c now.own) no_zones t) m.notes ≡ m.notes =
    ap (λ x. map (settle_note x no_zones t) m.notes) put ∙ ap (λ x. map (settle_note ss x t) m.notes) (sym z) ∙ s.notes t in
    let calm : Calm t ss c (control_of now.own 64) m.notes =
    calm_from t ss c (control_of now.own 64) m.notes (sym (map_same (settle_note (set ss c now.own) no_zones t) (settled_by t ss c (control_of now.own 64)) m.notes (λ n. settle_is t ss c now.own n low)) ∙ settled) in
    let led = bring_leads l t ss c now wanted m.notes low ok hn hw calm in
    let all : play m (events_of t track (bring c now wanted)) ≡ music_of ss c (apply_all now (bring c now wanted)).own (map (press c 0 now.keys wanted.keys) (map (pedalled t c now.own wanted.own) m.notes)) =
    play_events t track m (bring c now wanted) ∙ ap (λ x. sounded t x (bring c now wanted)) start ∙ led in
    record {
      channels = ap (λ x. x.channels) all;
      zones = ap (λ x. x.zones) all;
      notes = ap (λ x. x.notes) all ∙ map_then (press c 0 now.keys wanted.keys) (pedalled t c now.own wanted.own) m.notes
          ∙ map_same (λ n. press c 0 now.keys wanted.keys (pedalled t c now.own wanted.own n)) (λ n. pressed c now.keys wanted.keys (pedalled t c now.own wanted.own n)) m.notes
          (λ n. press_is c now.keys wanted.keys (pedalled t c now.own wanted.own n) (hn.keys ∙ sym hw.keys));
    }
