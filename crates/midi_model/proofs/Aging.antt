-- What one event does to the ends of notes.
use Rattle.std.proofs.Common.{◌≡◌, ℕ, zero, suc, List, [], ◌∷◌, ◌++◌, Bool, true, false, cond, ◌&&◌, Option, Some, None, refl, ap, ◌∙◌, map, nat_eq}
use Rattle.mt_base.specs.declared.event.Msg.{Msg}
use Rattle.mt_base.specs.declared.event.Msg.TheVariants.{NoteOn, NoteOff, KeyPressure, Control, Program, Pressure, Bend}
use Rattle.midi_model.specs.Sysex.{Doing, Plays, Resets, Tunes, Nothing}
use Rattle.midi_model.specs.Channel.{Role, Stored, EntryHigh, EntryLow, NrpnLow, NrpnHigh, RpnLow, RpnHigh, AllSoundOff, ResetControllers, AllNotesOff, Ignored, Channel, control_of, role}
use Rattle.midi_model.specs.Zones.{Zones, governor}
use Rattle.midi_model.specs.Notes.{Note, sounds, is_down, is_at, hears, is_pedal_down, ending, releasing, cut_off, release_key, with_pressure, sostenuto, without_pressure, end_all, release_all}
use Rattle.midi_model.specs.Music.{Music, channel_at, begun, notes_turned, notes_after, is_over, settle_note, act, advance}
use Rattle.midi_model.specs.MusicLaws.{begun_by, EndsBy, Ages, Grows}

ends_same : (t : ℕ) (e : Option ℕ) → EndsBy t e e
ends_same t None = tt
ends_same t (Some e) = refl

ends_then : (t : ℕ) (a b c : Option ℕ) → EndsBy t a b → EndsBy t b c → EndsBy t a c
ends_then t (Some x) (Some y) c h k = k ∙ h
ends_then t (Some x) None c h k = absurd cc
ends_then t None (Some y) (Some z) h k = let e : z ≡ y = cc in e ∙ h
ends_then t None (Some y) None h k = absurd cc
ends_then t None None c h k = k

pub ages_same : (t : ℕ) (n : Note) → Ages t n n
ages_same t n = record { channel = refl; key = refl; onset = refl; ended = ends_same t n.ended }

ages_then : (t : ℕ) (a b c : Note) → Ages t a b → Ages t b c → Ages t a c
ages_then t a b c h k = record {
  channel = k.channel ∙ h.channel;
  key = k.key ∙ h.key;
  onset = k.onset ∙ h.onset;
  ended = ends_then t a.ended b.ended c.ended h.ended k.ended;
}

ages_if : (t : ℕ) (b : Bool) (n x y : Note) → Ages t n x → Ages t n y → Ages t n (cond b x y)
ages_if t true n x y h k = h
ages_if t false n x y h k = k

ages_ending : (t : ℕ) (n : Note) → Ages t n (ending t n)
ages_ending t n = by_end n.ended
  where
    by_end : (e : Option ℕ) → (let x : Note = record n { ended = e } in Ages t x (ending t x))
    by_end None = record { channel = refl; key = refl; onset = refl; ended = refl }
    by_end (Some e) = ages_same t (record n { ended = Some e })

ages_releasing : (t s v : ℕ) (n : Note) → Ages t n (releasing s v n)
ages_releasing t s v n = ages_if t (is_down n) n (record n { release = Some (s, v) }) n (record { channel = refl; key = refl; onset = refl; ended = ends_same t n.ended }) (ages_same t n)

ages_cut : (t c k : ℕ) (n : Note) → Ages t n (cut_off t c k n)
ages_cut t c k n = ages_if t (is_at c k n) n (ending t n) n (ages_ending t n) (ages_same t n)

ages_release : (t c k v : ℕ) (n : Note) → Ages t n (release_key t c k v n)
ages_release t c k v n = ages_if t (is_at c k n) n (releasing t v n) n (ages_releasing t t v n) (ages_same t n)

ages_press : (t c k v : ℕ) (n : Note) → Ages t n (with_pressure c k v n)
ages_press t c k v n = ages_if t (is_at c k n && sounds n) n (record n { pressure = v }) n (record { channel = refl; key = refl; onset = refl; ended = ends_same t n.ended }) (ages_same t n)

ages_sostenuto : (t : ℕ) (z : Zones) (c before v : ℕ) (n : Note) → Ages t n (sostenuto z c before v n)
ages_sostenuto t z c before v n =
    let free : Note = record n { captured = false } in
    let held : Note = record n { captured = true } in
    let to_free : Ages t n free = record { channel = refl; key = refl; onset = refl; ended = ends_same t n.ended } in
    let to_held : Ages t n held = record { channel = refl; key = refl; onset = refl; ended = ends_same t n.ended } in
    ages_if t (nat_eq (governor z n.channel) c && sounds n) n _ n
    (ages_if t (is_pedal_down before) n _ _
    (ages_if t (is_pedal_down v) n n free (ages_same t n) to_free)
    (ages_if t (is_pedal_down v && is_down n) n held n to_held (ages_same t n)))
    (ages_same t n)

ages_relax : (t c : ℕ) (n : Note) → Ages t n (without_pressure c n)
ages_relax t c n = ages_if t (nat_eq n.channel c && sounds n) n (record n { pressure = 0 }) n (record { channel = refl; key = refl; onset = refl; ended = ends_same t n.ended }) (ages_same t n)

ages_end_all : (t : ℕ) (z : Zones) (c : ℕ) (n : Note) → Ages t n (end_all t z c n)
ages_end_all t z c n = ages_if t (hears z c n) n (ending t n) n (ages_ending t n) (ages_same t n)

ages_release_all : (t : ℕ) (z : Zones) (c : ℕ) (n : Note) → Ages t n (release_all t z c n)
ages_release_all t z c n = ages_if t (hears z c n) n (releasing t 64 n) n (ages_releasing t t 64 n) (ages_same t n)

ages_settle : (ss : List Channel) (z : Zones) (t : ℕ) (n : Note) → Ages t n (settle_note ss z t n)
ages_settle ss z t n = ages_if t (is_over ss z n) n (ending t n) n (ages_ending t n) (ages_same t n)

-- ---- of lists
pub grows_same : (t : ℕ) (ns : List Note) → Grows t [] ns ns
grows_same t [] = refl
grows_same t (n ∷ ns) = (ages_same t n, grows_same t ns)

grows_map : (t : ℕ) (f : Note → Note) → ((n : Note) → Ages t n (f n)) → (ns : List Note) → Grows t [] ns (map f ns)
grows_map t f h [] = refl
grows_map t f h (n ∷ ns) = (h n, grows_map t f h ns)

grows_then : (t : ℕ) (f : Note → Note) → ((n : Note) → Ages t n (f n)) → (b ns xs : List Note) → Grows t b ns xs → Grows t (map f b) ns (map f xs)
grows_then t f h b [] xs g = ap (map f) g
grows_then t f h b (n ∷ ns) [] g = g
grows_then t f h b (n ∷ ns) (x ∷ xs) g = (ages_then t n x (f x) g.0 (h x), grows_then t f h b ns xs g.1)

grows_end : (t : ℕ) (f : Note → Note) → ((n : Note) → Ages t n (f n)) → (b ns : List Note) → Grows t b ns (map f ns ++ b)
grows_end t f h b [] = refl
grows_end t f h b (n ∷ ns) = (h n, grows_end t f h b ns)

turned : (m : Music) (t c n v : ℕ) (r : Role) → Grows t [] m.notes (notes_turned m t c n v r)
turned m t c n v Stored = pick (nat_eq n 66)
  where
    pick : (b : Bool) → Grows t [] m.notes (cond b (map (sostenuto m.zones c (control_of (channel_at m c) 66) v) m.notes) m.notes)
    pick true = grows_map t (sostenuto m.zones c (control_of (channel_at m c) 66) v) (ages_sostenuto t m.zones c (control_of (channel_at m c) 66) v) m.notes
    pick false = grows_same t m.notes
turned m t c n v ResetControllers =
    let f : Note → Note = sostenuto m.zones c (control_of (channel_at m c) 66) 0 in
    grows_map t (λ x. without_pressure c (f x)) (λ x. ages_then t x (f x) (without_pressure c (f x)) (ages_sostenuto t m.zones c (control_of (channel_at m c) 66) 0 x) (ages_relax t c (f x))) m.notes
turned m t c n v AllSoundOff = grows_map t (end_all t m.zones c) (ages_end_all t m.zones c) m.notes
turned m t c n v AllNotesOff = grows_map t (release_all t m.zones c) (ages_release_all t m.zones c) m.notes
turned m t c n v EntryHigh = grows_same t m.notes
turned m t c n v EntryLow = grows_same t m.notes
turned m t c n v NrpnLow = grows_same t m.notes
turned m t c n v NrpnHigh = grows_same t m.notes
turned m t c n v RpnLow = grows_same t m.notes
turned m t c n v RpnHigh = grows_same t m.notes
turned m t c n v Ignored = grows_same t m.notes

aged_message : (m : Music) (t : ℕ) (msg : Msg) → Grows t (begun_by m t (Plays msg)) m.notes (notes_after m t msg)
aged_message m t (NoteOn c k zero) = grows_map t (release_key t c k 64) (ages_release t c k 64) m.notes
aged_message m t (NoteOn c k (suc v)) = grows_end t (cut_off t c k) (ages_cut t c k) (begun m t c k (suc v) ∷ []) m.notes
aged_message m t (NoteOff c k v) = grows_map t (release_key t c k v) (ages_release t c k v) m.notes
aged_message m t (KeyPressure c k v) = grows_map t (with_pressure c k v) (ages_press t c k v) m.notes
aged_message m t (Control c n v) = turned m t c n v (role n)
aged_message m t (Program c p) = grows_same t m.notes
aged_message m t (Pressure c v) = grows_same t m.notes
aged_message m t (Bend c v) = grows_same t m.notes

-- a note that begins doesn't end as it settles
settled_begun : (ss : List Channel) (z : Zones) (m : Music) (t : ℕ) (msg : Msg) → map (settle_note ss z t) (begun_by m t (Plays msg)) ≡ begun_by m t (Plays msg)
settled_begun ss z m t (NoteOn c k zero) = refl
settled_begun ss z m t (NoteOn c k (suc v)) = refl
settled_begun ss z m t (NoteOff c k v) = refl
settled_begun ss z m t (KeyPressure c k v) = refl
settled_begun ss z m t (Control c n v) = refl
settled_begun ss z m t (Program c p) = refl
settled_begun ss z m t (Pressure c v) = refl
settled_begun ss z m t (Bend c v) = refl

pub aged_after : (m : Music) (t : ℕ) (d : Doing) → Grows t (begun_by m t d) m.notes (advance t d m).notes
aged_after m t (Plays msg) =
    let a : Music = act t msg m in
    let f : Note → Note = settle_note a.channels a.zones t in
    let g : Grows t (map f (begun_by m t (Plays msg))) m.notes (map f a.notes) = grows_then t f (ages_settle a.channels a.zones t) (begun_by m t (Plays msg)) m.notes a.notes (aged_message m t msg) in
    rw (settled_begun a.channels a.zones m t msg) at g
aged_after m t Resets = grows_map t (ending t) (ages_ending t) m.notes
aged_after m t (Tunes r) = grows_same t m.notes
aged_after m t Nothing = grows_same t m.notes
