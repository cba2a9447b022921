-- Messages on channel 10 change nothing on the other channels.
use Rattle.std.proofs.Common.{◌≡◌, ◌≢◌, ℕ, zero, suc, ◌+◌, Bool, true, false, cond, not, ◌&&◌, ◌||◌, List, [], ◌∷◌, ◌++◌, Option, Some, None, refl, ap, sym, ◌∙◌, subst, map, length, set, get_or, nat_eq, nat_le, nat_lt, ◌-◌, arith, is_some}
use Rattle.std.specs.Prelude.{unwrap_or}
use Rattle.std.proofs.lemmas.Bool.{ne_eqb, eqb-true, eqb-false}
use Rattle.std.proofs.lemmas.List.{append-nil, get_or-set_other}
use Rattle.std.proofs.lemmas.List.Elements.{filter-append}
use Rattle.mt_base.specs.declared.event.Msg.{Msg}
use Rattle.mt_base.specs.declared.event.Msg.TheVariants.{NoteOn, NoteOff, KeyPressure, Control, Program, Pressure, Bend}
use Rattle.mt_base.specs.Midi.{MidiWhat, Says, SysexOf, MetaOf, MidiEvent, channel_of}
use Rattle.midi_model.specs.Sysex.{Doing, Plays, Resets, Tunes, Nothing, doing}
use Rattle.midi_model.specs.Channel.{Channel, default_channel, control_of, apply, role, Role, Stored, EntryHigh, EntryLow, NrpnLow, NrpnHigh, RpnLow, RpnHigh, AllSoundOff, ResetControllers, AllNotesOff, Ignored, Target, Nowhere, TuningProgram, ZoneSize, Value, target}
use Rattle.midi_model.specs.Zones.{Zones, governor, zones_with, bend_range_at, bend_ranges_from, bend_ranges}
use Rattle.midi_model.specs.Notes.{Note, sounds, is_down, is_at, hears, is_pedal_down, ending, releasing, cut_off, release_key, with_pressure, sostenuto, without_pressure, end_all, release_all}
use Rattle.midi_model.specs.Music.{Music, channel_at, asked, asked_by, asks, zones_after, begun, notes_turned, notes_after, act, is_over, settle_note, settle, advance}
use Rattle.midi_model.specs.MusicLaws.{EventsSettle}
use Rattle.midi_model.specs.Tuning.{Tuning, untuned, selected_of, retuned, chosen, chosen_by, tuning_heard, tuning_after}
use Rattle.midi_model.specs.Receiver.{Receiver, start, receive, receive_all, after}
use Rattle.retune_model.specs.Options.{is_drum_message}
use Rattle.retune_model.specs.Drums.{without_drums, others, IsSameMusicElsewhere}
use Rattle.retune_model.proofs.Faultless.{sysex_no_play}
use Rattle.retune_model.proofs.Steady.{Steady, steady-quiet, steady-step}

-- ---- the other notes
other_if : (n : Note) → not (nat_eq n.channel 9) ≡ true → n.channel ≢ 9
other_if n h = eqb-false n.channel 9 (pick (nat_eq n.channel 9) h)
  where
    pick : (b : Bool) → not b ≡ true → b ≡ false
    pick true k = absurd cc
    pick false k = refl

abbrev Keeps : (Note → Note) → Type 0
Keeps f = (n : Note) → (f n).channel ≡ n.channel

map_others : (f : Note → Note) → Keeps f → (ns : List Note) → others (map f ns) ≡ map f (others ns)
map_others f k [] = refl
map_others f k (n ∷ ns) = ap (λ c. cond (not (nat_eq c 9)) (f n ∷ others (map f ns)) (others (map f ns))) (k n) ∙ pick (not (nat_eq n.channel 9)) (map_others f k ns)
  where
    pick : (b : Bool) → others (map f ns) ≡ map f (others ns) → cond b (f n ∷ others (map f ns)) (others (map f ns)) ≡ map f (cond b (n ∷ others ns) (others ns))
    pick true h = ap (λ l. f n ∷ l) h
    pick false h = h

map_agree : (f g : Note → Note) → ((n : Note) → n.channel ≢ 9 → f n ≡ g n) → (ns : List Note) → map f (others ns) ≡ map g (others ns)
map_agree f g h [] = refl
map_agree f g h (n ∷ ns) = pick (not (nat_eq n.channel 9)) refl (map_agree f g h ns)
  where
    pick : (b : Bool) → not (nat_eq n.channel 9) ≡ b → map f (others ns) ≡ map g (others ns) → map f (cond b (n ∷ others ns) (others ns)) ≡ map g (cond b (n ∷ others ns) (others ns))
    pick true e r = ap (λ x. x ∷ map f (others ns)) (h n (other_if n e)) ∙ ap (λ l. g n ∷ l) r
    pick false e r = r

map_itself : (ns : List Note) → map (λ n. n) ns ≡ ns
map_itself [] = refl
map_itself (n ∷ ns) = ap (λ l. n ∷ l) (map_itself ns)

-- the same change of both
changed : (f : Note → Note) → Keeps f → (ns xs : List Note) → others ns ≡ others xs → others (map f ns) ≡ others (map f xs)
changed f k ns xs h = map_others f k ns ∙ ap (map f) h ∙ sym (map_others f k xs)

-- a change of channel 10 alone
unchanged : (f : Note → Note) → Keeps f → ((n : Note) → n.channel ≢ 9 → f n ≡ n) → (ns : List Note) → others (map f ns) ≡ others ns
unchanged f k h ns = map_others f k ns ∙ map_agree f (λ n. n) h ns ∙ map_itself (others ns)

-- ---- what a change keeps, and where it changes nothing
keeps_if : (b : Bool) (n x : Note) → x.channel ≡ n.channel → (cond b x n).channel ≡ n.channel
keeps_if true n x h = h
keeps_if false n x h = refl

still_if : (b : Bool) (n x : Note) → b ≡ false → cond b x n ≡ n
still_if true n x h = absurd cc
still_if false n x h = refl

ending_keeps : (t : ℕ) → Keeps (ending t)
ending_keeps t n = keeps_if (sounds n) n (record n { ended = Some t }) refl

releasing_keeps : (t v : ℕ) → Keeps (releasing t v)
releasing_keeps t v n = keeps_if (is_down n) n (record n { release = Some (t, v) }) refl

cut_keeps : (t c k : ℕ) → Keeps (cut_off t c k)
cut_keeps t c k n = keeps_if (is_at c k n) n (ending t n) (ending_keeps t n)

release_keeps : (t c k v : ℕ) → Keeps (release_key t c k v)
release_keeps t c k v n = keeps_if (is_at c k n) n (releasing t v n) (releasing_keeps t v n)

pressure_keeps : (c k v : ℕ) → Keeps (with_pressure c k v)
pressure_keeps c k v n = keeps_if (is_at c k n && sounds n) n (record n { pressure = v }) refl

relaxed_keeps : (c : ℕ) → Keeps (without_pressure c)
relaxed_keeps c n = keeps_if (nat_eq n.channel c && sounds n) n (record n { pressure = 0 }) refl

end_keeps : (t : ℕ) (z : Zones) (c : ℕ) → Keeps (end_all t z c)
end_keeps t z c n = keeps_if (hears z c n) n (ending t n) (ending_keeps t n)

off_keeps : (t : ℕ) (z : Zones) (c : ℕ) → Keeps (release_all t z c)
off_keeps t z c n = keeps_if (hears z c n) n (releasing t 64 n) (releasing_keeps t 64 n)

settle_keeps : (ss : List Channel) (z : Zones) (t : ℕ) → Keeps (settle_note ss z t)
settle_keeps ss z t n = keeps_if (is_over ss z n) n (ending t n) (ending_keeps t n)

sostenuto_keeps : (z : Zones) (c x v : ℕ) → Keeps (sostenuto z c x v)
sostenuto_keeps z c x v n = keeps_if (nat_eq (governor z n.channel) c && sounds n) n (turned (is_pedal_down x) (is_pedal_down v) (is_pedal_down v && is_down n)) (turned_keeps (is_pedal_down x) (is_pedal_down v) (is_pedal_down v && is_down n))
  where
    turned : (a b d : Bool) → Note
    turned a b d = cond a (cond b n (record n { captured = false })) (cond d (record n { captured = true }) n)

    turned_keeps : (a b d : Bool) → (turned a b d).channel ≡ n.channel
    turned_keeps true true d = refl
    turned_keeps true false d = refl
    turned_keeps false b true = refl
    turned_keeps false b false = refl

controls_keep : (z : Zones) (c x : ℕ) → Keeps (λ n. without_pressure c (sostenuto z c x 0 n))
controls_keep z c x n = relaxed_keeps c (sostenuto z c x 0 n) ∙ sostenuto_keeps z c x 0 n

-- no channel but 10 itself listens to it
governor_apart : (z : Zones) (c : ℕ) → c ≢ 9 → governor z c ≢ 9
governor_apart z c h = pick (nat_le 1 c && nat_le c z.lower) (nat_le (15 - z.upper) c && nat_lt c 15)
  where
    pick : (a b : Bool) → unwrap_or (cond a (Some 0) (cond b (Some 15) None)) c ≢ 9
    pick true b e = absurd cc
    pick false true e = absurd cc
    pick false false e = h e

not_at : (k : ℕ) (n : Note) → n.channel ≢ 9 → is_at 9 k n ≡ false
not_at k n h = ap (λ b. b && nat_eq n.key k) (ne_eqb n.channel 9 h)

not_heard : (z : Zones) (n : Note) → n.channel ≢ 9 → hears z 9 n ≡ false
not_heard z n h = ap (λ b. b || nat_eq (governor z n.channel) 9) (ne_eqb n.channel 9 h) ∙ ne_eqb (governor z n.channel) 9 (governor_apart z n.channel h)

sostenuto_still : (z : Zones) (x v : ℕ) (n : Note) → n.channel ≢ 9 → sostenuto z 9 x v n ≡ n
sostenuto_still z x v n h = still_if (nat_eq (governor z n.channel) 9 && sounds n) n _ (ap (λ b. b && sounds n) (ne_eqb (governor z n.channel) 9 (governor_apart z n.channel h)))

relaxed_still : (n : Note) → n.channel ≢ 9 → without_pressure 9 n ≡ n
relaxed_still n h = still_if (nat_eq n.channel 9 && sounds n) n (record n { pressure = 0 }) (ap (λ b. b && sounds n) (ne_eqb n.channel 9 h))

-- ---- channels
set_length : {A : Type 0} (l : List A) (c : ℕ) (a : A) → length (set l c a) ≡ length l
set_length [] c a = refl
set_length (x ∷ xs) zero a = refl
set_length (x ∷ xs) (suc c) a = ap suc (set_length xs c a)

set_alike : {A : Type 0} (d : A) (l r : List A) (c i : ℕ) (a : A) → length l ≡ length r → get_or l i d ≡ get_or r i d → get_or (set l c a) i d ≡ get_or (set r c a) i d
set_alike d [] [] c i a w h = h
set_alike d [] (y ∷ r) c i a w h = absurd cc
set_alike d (x ∷ l) [] c i a w h = absurd cc
set_alike d (x ∷ l) (y ∷ r) zero zero a w h = refl
set_alike d (x ∷ l) (y ∷ r) zero (suc i) a w h = h
set_alike d (x ∷ l) (y ∷ r) (suc c) zero a w h = h
set_alike d (x ∷ l) (y ∷ r) (suc c) (suc i) a w h = set_alike d l r c i a (let e : length l ≡ length r = omega (arith, w) in e) h

ranged_alike : (z : Zones) (m c : ℕ) (l r : List Channel) (i : ℕ) → length l ≡ length r → get_or l i default_channel ≡ get_or r i default_channel
    → get_or (bend_ranges_from z m c l) i default_channel ≡ get_or (bend_ranges_from z m c r) i default_channel
ranged_alike z m c [] [] i w h = refl
ranged_alike z m c [] (y ∷ r) i w h = absurd cc
ranged_alike z m c (x ∷ l) [] i w h = absurd cc
ranged_alike z m c (x ∷ l) (y ∷ r) zero w h = ap (bend_range_at z m c) h
ranged_alike z m c (x ∷ l) (y ∷ r) (suc i) w h = ranged_alike z m (c + 1) l r i (let e : length l ≡ length r = omega (arith, w) in e) h

asked_ranges_alike : (a : Option (ℕ × ℕ)) (z : Zones) (l r : List Channel) (i : ℕ) → length l ≡ length r → get_or l i default_channel ≡ get_or r i default_channel
    → get_or (bend_ranges a z l) i default_channel ≡ get_or (bend_ranges a z r) i default_channel
asked_ranges_alike None z l r i w h = h
asked_ranges_alike (Some (m, zero)) z l r i w h = h
asked_ranges_alike (Some (m, suc n)) z l r i w h = ranged_alike z m 0 l r i w h

-- ---- what a message of another channel asks for, and what it begins
asked_alike : (m x : Music) (c v : ℕ) (r : Role) → channel_at m c ≡ channel_at x c → asked_by m c v r ≡ asked_by x c v r
asked_alike m x c v EntryHigh h = ap (λ (s : Channel). asked c v (target s.selection)) h
asked_alike m x c v Stored h = refl
asked_alike m x c v EntryLow h = refl
asked_alike m x c v NrpnLow h = refl
asked_alike m x c v NrpnHigh h = refl
asked_alike m x c v RpnLow h = refl
asked_alike m x c v RpnHigh h = refl
asked_alike m x c v AllSoundOff h = refl
asked_alike m x c v ResetControllers h = refl
asked_alike m x c v AllNotesOff h = refl
asked_alike m x c v Ignored h = refl

asks_alike : (m x : Music) (msg : Msg) → channel_at m (channel_of msg) ≡ channel_at x (channel_of msg) → asks m msg ≡ asks x msg
asks_alike m x (Control c n v) h = asked_alike m x c v (role n) h
asks_alike m x (NoteOn c k v) h = refl
asks_alike m x (NoteOff c k v) h = refl
asks_alike m x (KeyPressure c k v) h = refl
asks_alike m x (Program c p) h = refl
asks_alike m x (Pressure c v) h = refl
asks_alike m x (Bend c v) h = refl

abbrev fresh : ℕ → ℕ → ℕ → ℕ → Channel → Note
fresh t c k v s = record { channel = c; key = k; onset = t; velocity = v; voice = s.voice; release = None; captured = false; pressure = 0; ended = None }

begun_alike : (m x : Music) (t c k v : ℕ) → IsSameMusicElsewhere m x → c ≢ 9 → begun m t c k v ≡ begun x t c k v
begun_alike m x t c k v h e =
    ap (λ z. fresh t c k v (channel_at m (governor z c))) h.zones
    ∙ ap (fresh t c k v) (h.channels (governor x.zones c) (governor_apart x.zones c e))

-- a change that depends on the zones and on a controller
changed_by : (f : Zones → ℕ → Note → Note) → ((z : Zones) (y : ℕ) → Keeps (f z y)) → (m x : Music) → IsSameMusicElsewhere m x → (y w : ℕ) → y ≡ w → others (map (f m.zones y) m.notes) ≡ others (map (f x.zones w) x.notes)
changed_by f k m x h y w e =
    ap (λ z. others (map (f z y) m.notes)) h.zones
    ∙ ap (λ j. others (map (f x.zones j) m.notes)) e
    ∙ changed (f x.zones w) (k x.zones w) m.notes x.notes h.notes

turned_alike : (m x : Music) (t c n v : ℕ) (r : Role) → IsSameMusicElsewhere m x → c ≢ 9 → others (notes_turned m t c n v r) ≡ others (notes_turned x t c n v r)
turned_alike m x t c n v Stored h e = pick (nat_eq n 66)
  where
    pick : (b : Bool) → others (cond b (map (sostenuto m.zones c (control_of (channel_at m c) 66) v) m.notes) m.notes) ≡ others (cond b (map (sostenuto x.zones c (control_of (channel_at x c) 66) v) x.notes) x.notes)
    pick true = changed_by (λ z y. sostenuto z c y v) (λ z y. sostenuto_keeps z c y v) m x h (control_of (channel_at m c) 66) (control_of (channel_at x c) 66) (ap (λ s. control_of s 66) (h.channels c e))
    pick false = h.notes
turned_alike m x t c n v ResetControllers h e =
    changed_by (λ z y a. without_pressure c (sostenuto z c y 0 a)) (λ z y. controls_keep z c y) m x h (control_of (channel_at m c) 66) (control_of (channel_at x c) 66) (ap (λ s. control_of s 66) (h.channels c e))
turned_alike m x t c n v AllSoundOff h e = changed_by (λ z y. end_all t z c) (λ z y. end_keeps t z c) m x h 0 0 refl
turned_alike m x t c n v AllNotesOff h e = changed_by (λ z y. release_all t z c) (λ z y. off_keeps t z c) m x h 0 0 refl
turned_alike m x t c n v EntryHigh h e = h.notes
turned_alike m x t c n v EntryLow h e = h.notes
turned_alike m x t c n v NrpnLow h e = h.notes
turned_alike m x t c n v NrpnHigh h e = h.notes
turned_alike m x t c n v RpnLow h e = h.notes
turned_alike m x t c n v RpnHigh h e = h.notes
turned_alike m x t c n v Ignored h e = h.notes

notes_alike : (m x : Music) (t : ℕ) (msg : Msg) → IsSameMusicElsewhere m x → channel_of msg ≢ 9 → others (notes_after m t msg) ≡ others (notes_after x t msg)
notes_alike m x t (NoteOn c k zero) h e = changed (release_key t c k 64) (release_keeps t c k 64) m.notes x.notes h.notes
notes_alike m x t (NoteOn c k (suc v)) h e =
    filter-append (λ (n : Note). not (nat_eq n.channel 9)) (map (cut_off t c k) m.notes) (begun m t c k (suc v) ∷ [])
    ∙ ap (λ l. l ++ others (begun m t c k (suc v) ∷ [])) (changed (cut_off t c k) (cut_keeps t c k) m.notes x.notes h.notes)
    ∙ ap (λ b. others (map (cut_off t c k) x.notes) ++ others (b ∷ [])) (begun_alike m x t c k (suc v) h e)
    ∙ sym (filter-append (λ (n : Note). not (nat_eq n.channel 9)) (map (cut_off t c k) x.notes) (begun x t c k (suc v) ∷ []))
notes_alike m x t (NoteOff c k v) h e = changed (release_key t c k v) (release_keeps t c k v) m.notes x.notes h.notes
notes_alike m x t (KeyPressure c k v) h e = changed (with_pressure c k v) (pressure_keeps c k v) m.notes x.notes h.notes
notes_alike m x t (Control c n v) h e = turned_alike m x t c n v (role n) h e
notes_alike m x t (Program c p) h e = h.notes
notes_alike m x t (Pressure c v) h e = h.notes
notes_alike m x t (Bend c v) h e = h.notes

-- ---- every note that nothing holds ends
settled_alike : (ss xs : List Channel) (z : Zones) (t : ℕ) → ((c : ℕ) → c ≢ 9 → get_or ss c default_channel ≡ get_or xs c default_channel) → (n : Note) → n.channel ≢ 9 → settle_note ss z t n ≡ settle_note xs z t n
settled_alike ss xs z t h n e =
    ap (λ s. cond (is_some n.release && (not n.captured && not (is_pedal_down (control_of s 64)))) (ending t n) n) (h (governor z n.channel) (governor_apart z n.channel e))

settle_alike : (t : ℕ) (m x : Music) → IsSameMusicElsewhere m x → IsSameMusicElsewhere (settle t m) (settle t x)
settle_alike t m x h = record {
  channels = h.channels;
  zones = h.zones;
  notes =
      map_others (settle_note m.channels m.zones t) (settle_keeps m.channels m.zones t) m.notes
      ∙ ap (λ z. map (settle_note m.channels z t) (others m.notes)) h.zones
      ∙ map_agree (settle_note m.channels x.zones t) (settle_note x.channels x.zones t) (settled_alike m.channels x.channels x.zones t h.channels) m.notes
      ∙ ap (map (settle_note x.channels x.zones t)) h.notes
      ∙ sym (map_others (settle_note x.channels x.zones t) (settle_keeps x.channels x.zones t) x.notes);
}

act_alike : (t : ℕ) (msg : Msg) (m x : Music) → length m.channels ≡ length x.channels → IsSameMusicElsewhere m x → channel_of msg ≢ 9 → IsSameMusicElsewhere (act t msg m) (act t msg x)
act_alike t msg m x w h e =
    let c : ℕ = channel_of msg in
    let here : channel_at m c ≡ channel_at x c = h.channels c e in
    let asked : asks m msg ≡ asks x msg = asks_alike m x msg here in
    let zones : zones_after m msg ≡ zones_after x msg = ap (λ a. zones_with a m.zones) asked ∙ ap (zones_with (asks x msg)) h.zones in
    let l : List Channel = set m.channels c (apply (channel_at m c) msg) in
    let r : List Channel = set x.channels c (apply (channel_at x c) msg) in
    let wide : length l ≡ length r = set_length m.channels c (apply (channel_at m c) msg) ∙ w ∙ sym (set_length x.channels c (apply (channel_at x c) msg)) in
    record {
      channels = λ d o.
          ap (λ a. get_or (bend_ranges a (zones_after m msg) l) d default_channel) asked
          ∙ ap (λ z. get_or (bend_ranges (asks x msg) z l) d default_channel) zones
          ∙ asked_ranges_alike (asks x msg) (zones_after x msg) l r d wide
          (ap (λ s. get_or (set m.channels c (apply s msg)) d default_channel) here ∙ set_alike default_channel m.channels x.channels c d (apply (channel_at x c) msg) w (h.channels d o));
      zones = zones;
      notes = notes_alike m x t msg h e;
    }

-- ---- a message on channel 10
nine_asks : (m : Music) (v : ℕ) (r : Role) → asked_by m 9 v r ≡ None
nine_asks m v EntryHigh = pick (target (channel_at m 9).selection)
  where
    pick : (w : Target) → asked 9 v w ≡ None
    pick Nowhere = refl
    pick TuningProgram = refl
    pick ZoneSize = refl
    pick (Value p) = refl
nine_asks m v Stored = refl
nine_asks m v EntryLow = refl
nine_asks m v NrpnLow = refl
nine_asks m v NrpnHigh = refl
nine_asks m v RpnLow = refl
nine_asks m v RpnHigh = refl
nine_asks m v AllSoundOff = refl
nine_asks m v ResetControllers = refl
nine_asks m v AllNotesOff = refl
nine_asks m v Ignored = refl

asks_none : (m : Music) (msg : Msg) → channel_of msg ≡ 9 → asks m msg ≡ None
asks_none m (Control c n v) e = ap (λ d. asked_by m d v (role n)) e ∙ nine_asks m v (role n)
asks_none m (NoteOn c k v) e = refl
asks_none m (NoteOff c k v) e = refl
asks_none m (KeyPressure c k v) e = refl
asks_none m (Program c p) e = refl
asks_none m (Pressure c v) e = refl
asks_none m (Bend c v) e = refl

nine_turned : (m : Music) (t n v : ℕ) (r : Role) → others (notes_turned m t 9 n v r) ≡ others m.notes
nine_turned m t n v Stored = pick (nat_eq n 66)
  where
    pick : (b : Bool) → others (cond b (map (sostenuto m.zones 9 (control_of (channel_at m 9) 66) v) m.notes) m.notes) ≡ others m.notes
    pick true = unchanged (sostenuto m.zones 9 (control_of (channel_at m 9) 66) v) (sostenuto_keeps m.zones 9 (control_of (channel_at m 9) 66) v) (sostenuto_still m.zones (control_of (channel_at m 9) 66) v) m.notes
    pick false = refl
nine_turned m t n v ResetControllers =
    unchanged (λ a. without_pressure 9 (sostenuto m.zones 9 (control_of (channel_at m 9) 66) 0 a)) (controls_keep m.zones 9 (control_of (channel_at m 9) 66))
    (λ a h. ap (without_pressure 9) (sostenuto_still m.zones (control_of (channel_at m 9) 66) 0 a h) ∙ relaxed_still a h) m.notes
nine_turned m t n v AllSoundOff = unchanged (end_all t m.zones 9) (end_keeps t m.zones 9) (λ a h. still_if (hears m.zones 9 a) a (ending t a) (not_heard m.zones a h)) m.notes
nine_turned m t n v AllNotesOff = unchanged (release_all t m.zones 9) (off_keeps t m.zones 9) (λ a h. still_if (hears m.zones 9 a) a (releasing t 64 a) (not_heard m.zones a h)) m.notes
nine_turned m t n v EntryHigh = refl
nine_turned m t n v EntryLow = refl
nine_turned m t n v NrpnLow = refl
nine_turned m t n v NrpnHigh = refl
nine_turned m t n v RpnLow = refl
nine_turned m t n v RpnHigh = refl
nine_turned m t n v Ignored = refl

released_still : (t k v : ℕ) (a : Note) → a.channel ≢ 9 → release_key t 9 k v a ≡ a
released_still t k v a h = still_if (is_at 9 k a) a (releasing t v a) (not_at k a h)

nine_notes : (m : Music) (t c : ℕ) (msg : Msg) → channel_of msg ≡ c → c ≡ 9 → others (notes_after m t msg) ≡ others m.notes
nine_notes m t d (NoteOn c k zero) s e = ap (λ x. others (map (release_key t x k 64) m.notes)) (s ∙ e) ∙ unchanged (release_key t 9 k 64) (release_keeps t 9 k 64) (released_still t k 64) m.notes
nine_notes m t d (NoteOn c k (suc v)) s e =
    ap (λ x. others (map (cut_off t x k) m.notes ++ begun m t x k (suc v) ∷ [])) (s ∙ e)
    ∙ filter-append (λ (n : Note). not (nat_eq n.channel 9)) (map (cut_off t 9 k) m.notes) (begun m t 9 k (suc v) ∷ [])
    ∙ append-nil (others (map (cut_off t 9 k) m.notes))
    ∙ unchanged (cut_off t 9 k) (cut_keeps t 9 k) (λ a h. still_if (is_at 9 k a) a (ending t a) (not_at k a h)) m.notes
nine_notes m t d (NoteOff c k v) s e = ap (λ x. others (map (release_key t x k v) m.notes)) (s ∙ e) ∙ unchanged (release_key t 9 k v) (release_keeps t 9 k v) (released_still t k v) m.notes
nine_notes m t d (KeyPressure c k v) s e =
    ap (λ x. others (map (with_pressure x k v) m.notes)) (s ∙ e)
    ∙ unchanged (with_pressure 9 k v) (pressure_keeps 9 k v) (λ a h. still_if (is_at 9 k a && sounds a) a (record a { pressure = v }) (ap (λ b. b && sounds a) (not_at k a h))) m.notes
nine_notes m t d (Control c n v) s e = ap (λ x. others (notes_turned m t x n v (role n))) (s ∙ e) ∙ nine_turned m t n v (role n)
nine_notes m t d (Program c p) s e = refl
nine_notes m t d (Pressure c v) s e = refl
nine_notes m t d (Bend c v) s e = refl

-- it leaves all else as it was
drum_step : (m : Music) (t : ℕ) (msg : Msg) → Steady m → channel_of msg ≡ 9 → IsSameMusicElsewhere (advance t (Plays msg) m) m
drum_step m t msg st e =
    let none : asks m msg ≡ None = asks_none m msg e in
    let a : Music = act t msg m in
    let zones : a.zones ≡ m.zones = ap (λ x. zones_with x m.zones) none in
    let channels : (c : ℕ) → c ≢ 9 → get_or a.channels c default_channel ≡ get_or m.channels c default_channel = λ c o.
    ap (λ x. get_or (bend_ranges x a.zones (set m.channels (channel_of msg) (apply (channel_at m (channel_of msg)) msg))) c default_channel) none
    ∙ ap (λ d. get_or (set m.channels d (apply (channel_at m (channel_of msg)) msg)) c default_channel) e
    ∙ get_or-set_other m.channels 9 c (apply (channel_at m (channel_of msg)) msg) default_channel o in
    record {
      channels = channels;
      zones = zones;
      notes =
          map_others (settle_note a.channels a.zones t) (settle_keeps a.channels a.zones t) a.notes
          ∙ ap (map (settle_note a.channels a.zones t)) (nine_notes m t (channel_of msg) msg refl e)
          ∙ ap (λ z. map (settle_note a.channels z t) (others m.notes)) zones
          ∙ map_agree (settle_note a.channels m.zones t) (settle_note m.channels m.zones t) (settled_alike a.channels m.channels m.zones t channels) m.notes
          ∙ sym (map_others (settle_note m.channels m.zones t) (settle_keeps m.channels m.zones t) m.notes)
          ∙ ap others (st.now.notes t);
    }

same_then : (m x y : Music) → IsSameMusicElsewhere m x → IsSameMusicElsewhere x y → IsSameMusicElsewhere m y
same_then m x y h k = record { channels = λ c o. h.channels c o ∙ k.channels c o; zones = h.zones ∙ k.zones; notes = h.notes ∙ k.notes }

alike_doing : (t : ℕ) (d : Doing) (m x : Music) → Steady m → Steady x → IsSameMusicElsewhere m x → ((msg : Msg) → d ≡ Plays msg → channel_of msg ≢ 9) → IsSameMusicElsewhere (advance t d m) (advance t d x)
alike_doing t (Plays msg) m x sm sx h other = settle_alike t (act t msg m) (act t msg x) (act_alike t msg m x (sm.now.channels ∙ sym sx.now.channels) h (other msg refl))
alike_doing t Resets m x sm sx h other = record { channels = λ c o. refl; zones = refl; notes = changed (ending t) (ending_keeps t) m.notes x.notes h.notes }
alike_doing t (Tunes r) m x sm sx h other = h
alike_doing t Nothing m x sm sx h other = h

-- ---- the tuning
pub record TunedAlike (u w : Tuning) : Type 0 where
  pub values : u.values ≡ w.values
  pub selected : (c : ℕ) → c ≢ 9 → selected_of u c ≡ selected_of w c
  pub wide : length u.selected ≡ length w.selected

chosen_alike : (c v : ℕ) (g : Target) (u w : Tuning) → TunedAlike u w → TunedAlike (chosen c v g u) (chosen c v g w)
chosen_alike c v TuningProgram u w h = record {
  values = h.values;
  selected = λ i o. set_alike None u.selected w.selected c i (Some v) h.wide (h.selected i o);
  wide = set_length u.selected c (Some v) ∙ h.wide ∙ sym (set_length w.selected c (Some v));
}
chosen_alike c v Nowhere u w h = h
chosen_alike c v ZoneSize u w h = h
chosen_alike c v (Value p) u w h = h

chosen_by_alike : (m x : Music) (c v : ℕ) (r : Role) (u w : Tuning) → channel_at m c ≡ channel_at x c → TunedAlike u w → TunedAlike (chosen_by m c v r u) (chosen_by x c v r w)
chosen_by_alike m x c v EntryHigh u w e h =
    subst (λ (s : Channel). TunedAlike (chosen c v (target (channel_at m c).selection) u) (chosen c v (target s.selection) w)) e (chosen_alike c v (target (channel_at m c).selection) u w h)
chosen_by_alike m x c v Stored u w e h = h
chosen_by_alike m x c v EntryLow u w e h = h
chosen_by_alike m x c v NrpnLow u w e h = h
chosen_by_alike m x c v NrpnHigh u w e h = h
chosen_by_alike m x c v RpnLow u w e h = h
chosen_by_alike m x c v RpnHigh u w e h = h
chosen_by_alike m x c v AllSoundOff u w e h = h
chosen_by_alike m x c v ResetControllers u w e h = h
chosen_by_alike m x c v AllNotesOff u w e h = h
chosen_by_alike m x c v Ignored u w e h = h

heard_alike : (m x : Music) (msg : Msg) (u w : Tuning) → channel_at m (channel_of msg) ≡ channel_at x (channel_of msg) → TunedAlike u w → TunedAlike (tuning_heard m msg u) (tuning_heard x msg w)
heard_alike m x (Control c n v) u w e h = chosen_by_alike m x c v (role n) u w e h
heard_alike m x (NoteOn c k v) u w e h = h
heard_alike m x (NoteOff c k v) u w e h = h
heard_alike m x (KeyPressure c k v) u w e h = h
heard_alike m x (Program c p) u w e h = h
heard_alike m x (Pressure c v) u w e h = h
heard_alike m x (Bend c v) u w e h = h

tuned_doing : (d : Doing) (m x : Music) (u w : Tuning) → IsSameMusicElsewhere m x → TunedAlike u w → ((msg : Msg) → d ≡ Plays msg → channel_of msg ≢ 9) → TunedAlike (tuning_after m d u) (tuning_after x d w)
tuned_doing (Plays msg) m x u w h k other = heard_alike m x msg u w (h.channels (channel_of msg) (other msg refl)) k
tuned_doing Resets m x u w h k other = record { values = refl; selected = λ c o. refl; wide = refl }
tuned_doing (Tunes r) m x u w h k other = record { values = ap (retuned r.program r.keys) k.values; selected = k.selected; wide = k.wide }
tuned_doing Nothing m x u w h k other = k

-- a message on channel 10 selects for channel 10
nine_chosen : (v : ℕ) (g : Target) (u : Tuning) → TunedAlike (chosen 9 v g u) u
nine_chosen v TuningProgram u = record { values = refl; selected = λ c o. get_or-set_other u.selected 9 c (Some v) None o; wide = set_length u.selected 9 (Some v) }
nine_chosen v Nowhere u = record { values = refl; selected = λ c o. refl; wide = refl }
nine_chosen v ZoneSize u = record { values = refl; selected = λ c o. refl; wide = refl }
nine_chosen v (Value p) u = record { values = refl; selected = λ c o. refl; wide = refl }

tuned_itself : (u : Tuning) → TunedAlike u u
tuned_itself u = record { values = refl; selected = λ c o. refl; wide = refl }

nine_chosen_by : (m : Music) (v : ℕ) (r : Role) (u : Tuning) → TunedAlike (chosen_by m 9 v r u) u
nine_chosen_by m v EntryHigh u = nine_chosen v (target (channel_at m 9).selection) u
nine_chosen_by m v Stored u = tuned_itself u
nine_chosen_by m v EntryLow u = tuned_itself u
nine_chosen_by m v NrpnLow u = tuned_itself u
nine_chosen_by m v NrpnHigh u = tuned_itself u
nine_chosen_by m v RpnLow u = tuned_itself u
nine_chosen_by m v RpnHigh u = tuned_itself u
nine_chosen_by m v AllSoundOff u = tuned_itself u
nine_chosen_by m v ResetControllers u = tuned_itself u
nine_chosen_by m v AllNotesOff u = tuned_itself u
nine_chosen_by m v Ignored u = tuned_itself u

drum_tuned : (m : Music) (msg : Msg) (u : Tuning) → channel_of msg ≡ 9 → TunedAlike (tuning_heard m msg u) u
drum_tuned m (Control c n v) u e = subst (λ d. TunedAlike (chosen_by m d v (role n) u) u) (sym e) (nine_chosen_by m v (role n) u)
drum_tuned m (NoteOn c k v) u e = tuned_itself u
drum_tuned m (NoteOff c k v) u e = tuned_itself u
drum_tuned m (KeyPressure c k v) u e = tuned_itself u
drum_tuned m (Program c p) u e = tuned_itself u
drum_tuned m (Pressure c v) u e = tuned_itself u
drum_tuned m (Bend c v) u e = tuned_itself u

tuned_then : (u v w : Tuning) → TunedAlike u v → TunedAlike v w → TunedAlike u w
tuned_then u v w h k = record { values = h.values ∙ k.values; selected = λ c o. h.selected c o ∙ k.selected c o; wide = h.wide ∙ k.wide }

-- ---- all events
pub record HeardAlike (r s : Receiver) : Type 0 where
  pub steady : Steady r.music
  pub steady_too : Steady s.music
  pub music : IsSameMusicElsewhere r.music s.music
  pub tuning : TunedAlike r.tuning s.tuning

drum_heard : (r s : Receiver) (e : MidiEvent) → HeardAlike r s → (w : MidiWhat) → e.what ≡ w → is_drum_message w ≡ true → HeardAlike (receive r e) s
drum_heard r s e h (Says msg) is d =
    let nine : channel_of msg ≡ 9 = eqb-true (channel_of msg) 9 d in
    record {
      steady = steady-step r.music e h.steady;
      steady_too = h.steady_too;
      music = subst (λ w. IsSameMusicElsewhere (advance e.tick (doing w) r.music) s.music) (sym is) (same_then (advance e.tick (Plays msg) r.music) r.music s.music (drum_step r.music e.tick msg h.steady nine) h.music);
      tuning = subst (λ w. TunedAlike (tuning_after r.music (doing w) r.tuning) s.tuning) (sym is) (tuned_then (tuning_heard r.music msg r.tuning) r.tuning s.tuning (drum_tuned r.music msg r.tuning nine) h.tuning);
    }
drum_heard r s e h (SysexOf lead bytes) is d = absurd cc
drum_heard r s e h (MetaOf kind bytes) is d = absurd cc

no_drum_plays : (w : MidiWhat) → is_drum_message w ≡ false → (msg : Msg) → doing w ≡ Plays msg → channel_of msg ≢ 9
no_drum_plays (Says x) d msg g = subst (λ y. channel_of y ≢ 9) (ap message_of g) (eqb-false (channel_of x) 9 d)
  where
    message_of : Doing → Msg
    message_of (Plays y) = y
    message_of _ = x
no_drum_plays (SysexOf lead bytes) d msg g = absurd (sysex_no_play lead bytes msg g)
no_drum_plays (MetaOf kind bytes) d msg g = absurd cc

other_heard : (r s : Receiver) (e : MidiEvent) → HeardAlike r s → is_drum_message e.what ≡ false → HeardAlike (receive r e) (receive s e)
other_heard r s e h d = record {
  steady = steady-step r.music e h.steady;
  steady_too = steady-step s.music e h.steady_too;
  music = alike_doing e.tick (doing e.what) r.music s.music h.steady h.steady_too h.music (no_drum_plays e.what d);
  tuning = tuned_doing (doing e.what) r.music s.music r.tuning s.tuning h.music h.tuning (no_drum_plays e.what d);
}

all_heard : (r s : Receiver) (es : List MidiEvent) → HeardAlike r s → HeardAlike (receive_all r es) (receive_all s (without_drums es))
all_heard r s [] h = h
all_heard r s (e ∷ es) h = pick (is_drum_message e.what) refl (λ x y k. all_heard x y es k)
  where
    pick : (b : Bool) → is_drum_message e.what ≡ b → ((x y : Receiver) → HeardAlike x y → HeardAlike (receive_all x es) (receive_all y (without_drums es)))
        → HeardAlike (receive_all (receive r e) es) (receive_all s (cond (not b) (e ∷ without_drums es) (without_drums es)))
    pick true d later = later (receive r e) s (drum_heard r s e h e.what refl d)
    pick false d later = later (receive r e) (receive s e) (other_heard r s e h d)

pub drums_apart : EventsSettle → (es : List MidiEvent) → HeardAlike (after es) (after (without_drums es))
drums_apart settled es = all_heard start start es (record {
  steady = steady-quiet settled;
  steady_too = steady-quiet settled;
  music = record { channels = λ c o. refl; zones = refl; notes = refl };
  tuning = tuned_itself untuned;
})
