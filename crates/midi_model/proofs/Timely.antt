-- Where events come in the order of their ticks, no note ends before it began.
use Rattle.std.proofs.Common.{◌≡◌, ℕ, zero, suc, ◌≤◌, List, [], ◌∷◌, ◌++◌, Bool, true, false, cond, ◌&&◌, Some, map, nat_eq, arith}
use Rattle.std.specs.List.{AllByRecursion}
use Rattle.mt_base.specs.Midi.{MidiEvent}
use Rattle.mt_base.specs.declared.event.Msg.{Msg}
use Rattle.mt_base.specs.declared.event.Msg.TheVariants.{NoteOn, NoteOff, KeyPressure, Control, Program, Pressure, Bend}
use Rattle.midi_model.specs.Channel.{Role, Stored, EntryHigh, EntryLow, NrpnLow, NrpnHigh, RpnLow, RpnHigh, AllSoundOff, ResetControllers, AllNotesOff, Ignored, Channel, control_of, role}
use Rattle.midi_model.specs.Sysex.{Doing, Plays, Resets, Tunes, Nothing, doing}
use Rattle.midi_model.specs.Zones.{Zones, governor}
use Rattle.midi_model.specs.Notes.{Note, sounds, is_down, is_at, hears, is_pedal_down, ending, releasing, cut_off, release_key, with_pressure, sostenuto, without_pressure, end_all, release_all}
use Rattle.midi_model.specs.Music.{Music, quiet, channel_at, begun, notes_turned, notes_after, is_over, settle_note, act, advance, step, play}
use Rattle.midi_model.specs.Order.{AreInOrder, EndsInTime}

-- at tick t: the note began by then, and where it ended it did so in time
record Timely (t : ℕ) (n : Note) : Type 0 where
  begun : n.onset ≤ t
  ended : EndsInTime n

timely_if : (t : ℕ) (b : Bool) (x y : Note) → Timely t x → Timely t y → Timely t (cond b x y)
timely_if t true x y h k = h
timely_if t false x y h k = k

timely_ending : (t : ℕ) (n : Note) → Timely t n → Timely t (ending t n)
timely_ending t n h = timely_if t (sounds n) (record n { ended = Some t }) n (record { begun = h.begun; ended = λ u e. let same : t ≡ u = cc in let b : n.onset ≤ t = h.begun in omega (arith, same, b) }) h

timely_releasing : (t s v : ℕ) (n : Note) → Timely t n → Timely t (releasing s v n)
timely_releasing t s v n h = timely_if t (is_down n) (record n { release = Some (s, v) }) n (record { begun = h.begun; ended = h.ended }) h

timely_cut : (t c k : ℕ) (n : Note) → Timely t n → Timely t (cut_off t c k n)
timely_cut t c k n h = timely_if t (is_at c k n) (ending t n) n (timely_ending t n h) h

timely_release : (t s c k v : ℕ) (n : Note) → Timely t n → Timely t (release_key s c k v n)
timely_release t s c k v n h = timely_if t (is_at c k n) (releasing s v n) n (timely_releasing t s v n h) h

timely_press : (t c k v : ℕ) (n : Note) → Timely t n → Timely t (with_pressure c k v n)
timely_press t c k v n h = timely_if t (is_at c k n && sounds n) (record n { pressure = v }) n (record { begun = h.begun; ended = h.ended }) h

timely_sostenuto : (t : ℕ) (z : Zones) (c before v : ℕ) (n : Note) → Timely t n → Timely t (sostenuto z c before v n)
timely_sostenuto t z c before v n h =
    let free : Note = record n { captured = false } in
    let held : Note = record n { captured = true } in
    let to_free : Timely t free = record { begun = h.begun; ended = h.ended } in
    let to_held : Timely t held = record { begun = h.begun; ended = h.ended } in
    timely_if t (nat_eq (governor z n.channel) c && sounds n) _ n
    (timely_if t (is_pedal_down before) _ _
    (timely_if t (is_pedal_down v) n free h to_free)
    (timely_if t (is_pedal_down v && is_down n) held n to_held h))
    h

timely_unpressed : (t c : ℕ) (n : Note) → Timely t n → Timely t (without_pressure c n)
timely_unpressed t c n h = timely_if t (nat_eq n.channel c && sounds n) (record n { pressure = 0 }) n (record { begun = h.begun; ended = h.ended }) h

timely_end_all : (t : ℕ) (z : Zones) (c : ℕ) (n : Note) → Timely t n → Timely t (end_all t z c n)
timely_end_all t z c n h = timely_if t (hears z c n) (ending t n) n (timely_ending t n h) h

timely_release_all : (t : ℕ) (z : Zones) (c : ℕ) (n : Note) → Timely t n → Timely t (release_all t z c n)
timely_release_all t z c n h = timely_if t (hears z c n) (releasing t 64 n) n (timely_releasing t t 64 n h) h

timely_settle : (ss : List Channel) (z : Zones) (t : ℕ) (n : Note) → Timely t n → Timely t (settle_note ss z t n)
timely_settle ss z t n h = timely_if t (is_over ss z n) (ending t n) n (timely_ending t n h) h

abbrev AllTimely : ℕ → List Note → Type 0
AllTimely t ns = AllByRecursion (Timely t) ns

all_map : (t : ℕ) (f : Note → Note) → ((n : Note) → Timely t n → Timely t (f n)) → (ns : List Note) → AllTimely t ns → AllTimely t (map f ns)
all_map t f h [] k = tt
all_map t f h (n ∷ ns) k = (h n k.0, all_map t f h ns k.1)

all_later : (s t : ℕ) (ns : List Note) → s ≤ t → AllTimely s ns → AllTimely t ns
all_later s t [] l h = tt
all_later s t (n ∷ ns) l h = (record { begun = (let b : n.onset ≤ s = h.0.begun in omega (arith, b, l)); ended = h.0.ended }, all_later s t ns l h.1)

all_append : (t : ℕ) (ns xs : List Note) → AllTimely t ns → AllTimely t xs → AllTimely t (ns ++ xs)
all_append t [] xs h k = k
all_append t (n ∷ ns) xs h k = (h.0, all_append t ns xs h.1 k)

turned : (m : Music) (t c n v : ℕ) (r : Role) → AllTimely t m.notes → AllTimely t (notes_turned m t c n v r)
turned m t c n v Stored h = pick (nat_eq n 66)
  where
    pick : (b : Bool) → AllTimely t (cond b (map (sostenuto m.zones c (control_of (channel_at m c) 66) v) m.notes) m.notes)
    pick true = all_map t (sostenuto m.zones c (control_of (channel_at m c) 66) v) (timely_sostenuto t m.zones c (control_of (channel_at m c) 66) v) m.notes h
    pick false = h
turned m t c n v ResetControllers h =
    let f : Note → Note = sostenuto m.zones c (control_of (channel_at m c) 66) 0 in
    all_map t (λ x. without_pressure c (f x)) (λ x k. timely_unpressed t c (f x) (timely_sostenuto t m.zones c (control_of (channel_at m c) 66) 0 x k)) m.notes h
turned m t c n v AllSoundOff h = all_map t (end_all t m.zones c) (timely_end_all t m.zones c) m.notes h
turned m t c n v AllNotesOff h = all_map t (release_all t m.zones c) (timely_release_all t m.zones c) m.notes h
turned m t c n v EntryHigh h = h
turned m t c n v EntryLow h = h
turned m t c n v NrpnLow h = h
turned m t c n v NrpnHigh h = h
turned m t c n v RpnLow h = h
turned m t c n v RpnHigh h = h
turned m t c n v Ignored h = h

after_message : (m : Music) (t : ℕ) (msg : Msg) → AllTimely t m.notes → AllTimely t (notes_after m t msg)
after_message m t (NoteOn c k zero) h = all_map t (release_key t c k 64) (timely_release t t c k 64) m.notes h
after_message m t (NoteOn c k (suc v)) h =
    all_append t (map (cut_off t c k) m.notes) (begun m t c k (suc v) ∷ []) (all_map t (cut_off t c k) (timely_cut t c k) m.notes h)
    (record { begun = omega arith; ended = λ u e. absurd cc }, tt)
after_message m t (NoteOff c k v) h = all_map t (release_key t c k v) (timely_release t t c k v) m.notes h
after_message m t (KeyPressure c k v) h = all_map t (with_pressure c k v) (timely_press t c k v) m.notes h
after_message m t (Control c n v) h = turned m t c n v (role n) h
after_message m t (Program c p) h = h
after_message m t (Pressure c v) h = h
after_message m t (Bend c v) h = h

advanced : (m : Music) (t : ℕ) (d : Doing) → AllTimely t m.notes → AllTimely t (advance t d m).notes
advanced m t (Plays msg) h =
    let a : Music = act t msg m in
    all_map t (settle_note a.channels a.zones t) (timely_settle a.channels a.zones t) a.notes (after_message m t msg h)
advanced m t Resets h = all_map t (ending t) (timely_ending t) m.notes h
advanced m t (Tunes r) h = h
advanced m t Nothing h = h

in_time : (t : ℕ) (ns : List Note) → AllTimely t ns → AllByRecursion EndsInTime ns
in_time t [] h = tt
in_time t (n ∷ ns) h = (h.0.ended, in_time t ns h.1)

timely_play : (t : ℕ) (m : Music) (es : List MidiEvent) → AreInOrder t es → AllTimely t m.notes → AllByRecursion EndsInTime (play m es).notes
timely_play t m [] o h = in_time t m.notes h
timely_play t m (e ∷ es) o h = timely_play e.tick (step m e) es o.1 (advanced m e.tick (doing e.what) (all_later t e.tick m.notes o.0 h))

pub ends_in_time : (es : List MidiEvent) → AreInOrder 0 es → AllByRecursion EndsInTime (play quiet es).notes
ends_in_time es o = timely_play 0 quiet es o tt
