-- On the way no tuning program is chosen, and the parameters have room.
use Rattle.std.proofs.Common.{◌≡◌, ℕ, zero, suc, ◌≤◌, ◌<◌, List, [], ◌∷◌, true, refl, ap, sym, ◌∙◌, arith, length, map, set, take, subst}
use Rattle.std.specs.Prelude.{max}
use Rattle.std.proofs.lemmas.Bool.{false≢true}
use Rattle.std.proofs.lemmas.List.{get_or-set_same, set-get_or}
use Rattle.mt_base.specs.declared.event.Msg.{Msg}
use Rattle.mt_base.specs.declared.event.Msg.TheVariants.{NoteOn, NoteOff, KeyPressure, Control, Program, Pressure, Bend}
use Rattle.midi_model.specs.Channel.{Channel, State, Role, Stored, EntryHigh, EntryLow, NrpnLow, NrpnHigh, RpnLow, RpnHigh, AllSoundOff, ResetControllers, AllNotesOff, Ignored, Target, Nowhere, TuningProgram, ZoneSize, Value, default_channel, role, target, counted, control_of, apply, apply_state}
use Rattle.midi_model.specs.WellFormed.{is_value, IsWellFormed}
use Rattle.midi_model.specs.Zones.{no_zones}
use Rattle.midi_model.specs.Notes.{Note}
use Rattle.midi_model.specs.Music.{play, Music, channel_at, notes_after, act, settle}
use Rattle.midi_model.specs.MusicLaws.{IsSettled}
use Rattle.midi_model.specs.Tuning.{Tuning, chosen, chosen_by, tuning_heard}
use Rattle.midi_model.specs.Receiver.{Receiver, receive_all}
use Rattle.midi_model.specs.Bring.{apply_all, bring}
use Rattle.state_laws.specs.Sent.{Along, only_sets_by, OnlySets}
use Rattle.state_laws.specs.Heard.{events_of}
use Rattle.state_laws.proofs.Laws.{Laws}
use Rattle.state_laws.proofs.Rooms.{only_settings, has_room}
use Rattle.state_laws.proofs.Pedals.{settled_by}
use Rattle.state_laws.proofs.Sounding.{sounded, play_events, music_of, one_step}

chosen_value : (c v : ℕ) (t : Target) (s : Tuning) → is_value t ≡ true → chosen c v t s ≡ s
chosen_value c v (Value p) s e = refl
chosen_value c v Nowhere s e = refl
chosen_value c v ZoneSize s e = refl
chosen_value c v TuningProgram s e = absurd (false≢true e)

chosen_role : (m : Music) (c v : ℕ) (r : Role) (s : Tuning) → only_sets_by (channel_at m c).selection r ≡ true
    → chosen_by m c v r s ≡ s
chosen_role m c v EntryHigh s e = chosen_value c v (target (channel_at m c).selection) s e
chosen_role m c v Stored s e = refl
chosen_role m c v EntryLow s e = refl
chosen_role m c v NrpnLow s e = refl
chosen_role m c v NrpnHigh s e = refl
chosen_role m c v RpnLow s e = refl
chosen_role m c v RpnHigh s e = refl
chosen_role m c v AllSoundOff s e = refl
chosen_role m c v ResetControllers s e = refl
chosen_role m c v AllNotesOff s e = refl
chosen_role m c v Ignored s e = refl

tuning_same : (m : Music) (c : ℕ) (st : State) (msg : Msg) (s : Tuning) → channel_at m c ≡ st.own → OnlySets c st msg
    → tuning_heard m msg s ≡ s
tuning_same m c st (Control d n v) s e h =
    let x : channel_at m d ≡ st.own = ap (λ i. channel_at m i) h.channel ∙ e in
    chosen_role m d v (role n) s (ap (λ y. only_sets_by y.selection (role n)) x ∙ h.sets)
tuning_same m c st (NoteOn d k v) s e h = refl
tuning_same m c st (NoteOff d k v) s e h = refl
tuning_same m c st (KeyPressure d k v) s e h = refl
tuning_same m c st (Program d p) s e h = refl
tuning_same m c st (Pressure d v) s e h = refl
tuning_same m c st (Bend d v) s e h = refl

tuning_along : (r : Receiver) (t track : ℕ) (ss : List Channel) (c : ℕ) (st : State) (ns : List Note) (ms : List Msg)
    → c < length ss → r.music ≡ music_of ss c st.own ns → Along (OnlySets c) st ms
    → (receive_all r (events_of t track ms)).tuning ≡ r.tuning
tuning_along r t track ss c st ns [] low e a = refl
tuning_along r t track ss c st ns (x ∷ ms) low e a =
    let m : Music = music_of ss c st.own ns in
    let own : channel_at m c ≡ st.own = get_or-set_same ss c st.own default_channel low in
    let now : Channel = apply st.own x in
    let next : settle t (act t x r.music) ≡ music_of ss c now (map (settled_by t ss c (control_of now 64)) (notes_after m t x)) =
    ap (λ y. settle t (act t x y)) e ∙ one_step t ss c st ns x low a.0 in
    tuning_along (record { music = settle t (act t x r.music); tuning = tuning_heard r.music x r.tuning }) t track ss c (apply_state st x) (map (settled_by t ss c (control_of now 64)) (notes_after m t x)) ms low next a.1
    ∙ tuning_same r.music c st x r.tuning (ap (λ y. channel_at y c) e ∙ own) a.0

pub keeps_tuning : Laws → (r : Receiver) (t track c : ℕ) (now wanted : State) → IsSettled r.music → r.music.zones ≡ no_zones
    → c ≤ 15 → IsWellFormed now → IsWellFormed wanted → now.own ≡ channel_at r.music c
    → (receive_all r (events_of t track (bring c now wanted))).tuning ≡ r.tuning
keeps_tuning l r t track c now wanted s z ok hn hw own =
    let m : Music = r.music in
    let ss : List Channel = m.channels in
    let put : set ss c now.own ≡ ss = ap (λ x. set ss c x) own ∙ set-get_or ss c default_channel in
    let start : m ≡ music_of ss c now.own m.notes =
    ap (λ x. let y : Music = record { channels = ss; zones = x; notes = m.notes } in y) z
    ∙ ap (λ x. let y : Music = record { channels = x; zones = no_zones; notes = m.notes } in y) (sym put) in
    tuning_along r t track ss c now m.notes (bring c now wanted) (omega (arith, s.channels, ok)) start (only_settings l c now wanted ok hn hw)

-- ---- the channel on the way

own_along : (t : ℕ) (ss : List Channel) (c : ℕ) (st : State) (ns : List Note) (ms : List Msg) → c < length ss
    → Along (OnlySets c) st ms → channel_at (sounded t (music_of ss c st.own ns) ms) c ≡ (apply_all st ms).own
own_along t ss c st ns [] low a = get_or-set_same ss c st.own default_channel low
own_along t ss c st ns (x ∷ ms) low a =
    let m : Music = music_of ss c st.own ns in
    let now : Channel = apply st.own x in
    ap (λ y. channel_at (sounded t y ms) c) (one_step t ss c st ns x low a.0)
    ∙ own_along t ss c (apply_state st x) (map (settled_by t ss c (control_of now 64)) (notes_after m t x)) ms low a.1

along_take : (P : State → Msg → Type 0) (k : ℕ) (s : State) (ms : List Msg) → Along P s ms → Along P s (take k ms)
along_take P zero s ms h = tt
along_take P (suc k) s [] h = tt
along_take P (suc k) s (m ∷ ms) h = (h.0, along_take P k (apply_state s m) ms h.1)

pub room_on_the_way : Laws → (m : Music) (t track c k : ℕ) (now wanted : State) → IsSettled m → m.zones ≡ no_zones → c ≤ 15
    → IsWellFormed now → IsWellFormed wanted → now.own ≡ channel_at m c
    → counted (channel_at (play m (events_of t track (take k (bring c now wanted)))) c) ≤ max (counted now.own) (counted wanted.own)
room_on_the_way l m t track c k now wanted s z ok hn hw own =
    let ss : List Channel = m.channels in
    let ms : List Msg = take k (bring c now wanted) in
    let put : set ss c now.own ≡ ss = ap (λ x. set ss c x) own ∙ set-get_or ss c default_channel in
    let start : m ≡ music_of ss c now.own m.notes =
    ap (λ x. let y : Music = record { channels = ss; zones = x; notes = m.notes } in y) z
    ∙ ap (λ x. let y : Music = record { channels = x; zones = no_zones; notes = m.notes } in y) (sym put) in
    let at : channel_at (play m (events_of t track ms)) c ≡ (apply_all now ms).own =
    ap (λ x. channel_at x c) (play_events t track m ms) ∙ ap (λ x. channel_at (sounded t x ms) c) start
    ∙ own_along t ss c now m.notes ms (omega (arith, s.channels, ok)) (along_take (OnlySets c) k now (bring c now wanted) (only_settings l c now wanted ok hn hw)) in
    subst (λ (x : Channel). counted x ≤ max (counted now.own) (counted wanted.own)) (sym at) (has_room l c k now wanted ok hn hw)
