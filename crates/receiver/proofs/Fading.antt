-- What one event does to each note of the list, and which note it begins.
use Rattle.std.proofs.Common.{◌≡◌, ℕ, zero, suc, List, [], ◌∷◌, ◌++◌, Bool, true, false, cond, ◌&&◌, refl, ap, sym, ◌∙◌, map, nat_eq}
use Rattle.std.proofs.lemmas.List.{append-nil, map-id, map-append}
use Rattle.mt_base.specs.declared.event.Msg.{Msg}
use Rattle.mt_base.specs.declared.event.Msg.TheVariants.{NoteOn, NoteOff, KeyPressure, Control, Program, Pressure, Bend}
use Rattle.midi_model.specs.Channel.{Channel, Role, Stored, EntryHigh, EntryLow, NrpnLow, NrpnHigh, RpnLow, RpnHigh, AllSoundOff, ResetControllers, AllNotesOff, Ignored, control_of, role}
use Rattle.midi_model.specs.Sysex.{Doing, Plays, Resets, Tunes, Nothing}
use Rattle.midi_model.specs.Zones.{Zones, governor}
use Rattle.midi_model.specs.Notes.{Note, sounds, is_down, is_at, hears, is_pedal_down, ending, releasing, cut_off, release_key, with_pressure, sostenuto, without_pressure, end_all, release_all, Fades}
use Rattle.midi_model.specs.Music.{Music, channel_at, channels_after, zones_after, begun, notes_turned, notes_after, is_over, settle_note, advance}

-- what a controller does to a note
abbrev pub by_role : Music → ℕ → ℕ → ℕ → ℕ → Role → Note → Note
by_role m t c n v Stored x = cond (nat_eq n 66) (sostenuto m.zones c (control_of (channel_at m c) 66) v x) x
by_role m t c n v ResetControllers x = without_pressure c (sostenuto m.zones c (control_of (channel_at m c) 66) 0 x)
by_role m t c n v AllSoundOff x = end_all t m.zones c x
by_role m t c n v AllNotesOff x = release_all t m.zones c x
by_role m t c n v _ x = x

-- what a message does to a note, before what nothing holds ends
abbrev pub by_message : Music → ℕ → Msg → Note → Note
by_message m t (NoteOn c k zero) x = release_key t c k 64 x
by_message m t (NoteOn c k (suc v)) x = cut_off t c k x
by_message m t (NoteOff c k v) x = release_key t c k v x
by_message m t (KeyPressure c k v) x = with_pressure c k v x
by_message m t (Control c n v) x = by_role m t c n v (role n) x
by_message m t _ x = x

-- what an event does to a note
abbrev pub by_event : Music → ℕ → Doing → Note → Note
by_event m t (Plays msg) x = settle_note (channels_after m msg) (zones_after m msg) t (by_message m t msg x)
by_event m t Resets x = ending t x
by_event m t _ x = x

-- the note that it begins
abbrev pub new_by : Music → ℕ → Msg → List Note
new_by m t (NoteOn c k (suc v)) = begun m t c k (suc v) ∷ []
new_by m t _ = []

abbrev pub new_notes : Music → ℕ → Doing → List Note
new_notes m t (Plays msg) = new_by m t msg
new_notes m t _ = []

map_twice : (f g : Note → Note) (ns : List Note) → map g (map f ns) ≡ map (λ n. g (f n)) ns
map_twice f g [] = refl
map_twice f g (n ∷ ns) = ap (λ xs. g (f n) ∷ xs) (map_twice f g ns)

turned_all : (m : Music) (t c n v : ℕ) (r : Role) → notes_turned m t c n v r ≡ map (by_role m t c n v r) m.notes
turned_all m t c n v Stored = pick (nat_eq n 66)
  where
    pick : (b : Bool) → cond b (map (sostenuto m.zones c (control_of (channel_at m c) 66) v) m.notes) m.notes
        ≡ map (λ x. cond b (sostenuto m.zones c (control_of (channel_at m c) 66) v x) x) m.notes
    pick true = refl
    pick false = sym (map-id m.notes)
turned_all m t c n v ResetControllers = refl
turned_all m t c n v AllSoundOff = refl
turned_all m t c n v AllNotesOff = refl
turned_all m t c n v EntryHigh = sym (map-id m.notes)
turned_all m t c n v EntryLow = sym (map-id m.notes)
turned_all m t c n v NrpnLow = sym (map-id m.notes)
turned_all m t c n v NrpnHigh = sym (map-id m.notes)
turned_all m t c n v RpnLow = sym (map-id m.notes)
turned_all m t c n v RpnHigh = sym (map-id m.notes)
turned_all m t c n v Ignored = sym (map-id m.notes)

after_all : (m : Music) (t : ℕ) (msg : Msg) → notes_after m t msg ≡ map (by_message m t msg) m.notes ++ new_by m t msg
after_all m t (NoteOn c k zero) = sym (append-nil _)
after_all m t (NoteOn c k (suc v)) = refl
after_all m t (NoteOff c k v) = sym (append-nil _)
after_all m t (KeyPressure c k v) = sym (append-nil _)
after_all m t (Control c n v) = turned_all m t c n v (role n) ∙ sym (append-nil _)
after_all m t (Program c p) = sym (append-nil _ ∙ map-id m.notes)
after_all m t (Pressure c v) = sym (append-nil _ ∙ map-id m.notes)
after_all m t (Bend c v) = sym (append-nil _ ∙ map-id m.notes)

-- a new note is held by its key
new_settled : (m : Music) (t : ℕ) (msg : Msg) (ss : List Channel) (z : Zones) → map (settle_note ss z t) (new_by m t msg) ≡ new_by m t msg
new_settled m t (NoteOn c k zero) ss z = refl
new_settled m t (NoteOn c k (suc v)) ss z = refl
new_settled m t (NoteOff c k v) ss z = refl
new_settled m t (KeyPressure c k v) ss z = refl
new_settled m t (Control c n v) ss z = refl
new_settled m t (Program c p) ss z = refl
new_settled m t (Pressure c v) ss z = refl
new_settled m t (Bend c v) ss z = refl

-- the notes after an event
pub advance_notes : (m : Music) (t : ℕ) (d : Doing) → (advance t d m).notes ≡ map (by_event m t d) m.notes ++ new_notes m t d
advance_notes m t (Plays msg) =
    let g : Note → Note = settle_note (channels_after m msg) (zones_after m msg) t in
    let f : Note → Note = by_message m t msg in
    ap (map g) (after_all m t msg)
    ∙ map-append g (map f m.notes) (new_by m t msg)
    ∙ ap (λ xs. xs ++ map g (new_by m t msg)) (map_twice f g m.notes)
    ∙ ap (λ xs. map (λ n. g (f n)) m.notes ++ xs) (new_settled m t msg (channels_after m msg) (zones_after m msg))
advance_notes m t Resets = sym (append-nil _)
advance_notes m t (Tunes r) = sym (append-nil _ ∙ map-id m.notes)
advance_notes m t Nothing = sym (append-nil _ ∙ map-id m.notes)

-- ---- what never changes of a note
fades_same : (n : Note) → Fades n n
fades_same n = record { channel = refl; key = refl; onset = refl; velocity = refl; voice = refl; sounds = λ h. h }

pub fades_then : (a b c : Note) → Fades a b → Fades b c → Fades a c
fades_then a b c h k = record {
  channel = k.channel ∙ h.channel;
  key = k.key ∙ h.key;
  onset = k.onset ∙ h.onset;
  velocity = k.velocity ∙ h.velocity;
  voice = k.voice ∙ h.voice;
  sounds = λ x. h.sounds (k.sounds x);
}

fades_if : (b : Bool) (n x y : Note) → Fades n x → Fades n y → Fades n (cond b x y)
fades_if true n x y h k = h
fades_if false n x y h k = k

fades_ending : (t : ℕ) (n : Note) → Fades n (ending t n)
fades_ending t n = fades_if (sounds n) n _ n (record { channel = refl; key = refl; onset = refl; velocity = refl; voice = refl; sounds = λ h. absurd cc }) (fades_same n)

fades_releasing : (t v : ℕ) (n : Note) → Fades n (releasing t v n)
fades_releasing t v n = fades_if (is_down n) n _ n (record { channel = refl; key = refl; onset = refl; velocity = refl; voice = refl; sounds = λ h. h }) (fades_same n)

fades_release_key : (t c k v : ℕ) (n : Note) → Fades n (release_key t c k v n)
fades_release_key t c k v n = fades_if (is_at c k n) n (releasing t v n) n (fades_releasing t v n) (fades_same n)

pub fades_pressure : (b : Bool) (v : ℕ) (n : Note) → Fades n (cond b (record n { pressure = v }) n)
fades_pressure b v n = fades_if b n _ n (record { channel = refl; key = refl; onset = refl; velocity = refl; voice = refl; sounds = λ h. h }) (fades_same n)

fades_captured : (b u : Bool) (n : Note) → Fades n (cond b (record n { captured = u }) n)
fades_captured b u n = fades_if b n _ n (record { channel = refl; key = refl; onset = refl; velocity = refl; voice = refl; sounds = λ h. h }) (fades_same n)

fades_sostenuto : (z : Zones) (c before v : ℕ) (n : Note) → Fades n (sostenuto z c before v n)
fades_sostenuto z c before v n =
    fades_if (nat_eq (governor z n.channel) c && sounds n) n _ n
    (fades_if (is_pedal_down before) n _ _
    (fades_if (is_pedal_down v) n n _ (fades_same n) (fades_captured true false n))
    (fades_captured (is_pedal_down v && is_down n) true n))
    (fades_same n)

fades_role : (m : Music) (t c n v : ℕ) (r : Role) (x : Note) → Fades x (by_role m t c n v r x)
fades_role m t c n v Stored x = fades_if (nat_eq n 66) x _ x (fades_sostenuto m.zones c (control_of (channel_at m c) 66) v x) (fades_same x)
fades_role m t c n v ResetControllers x =
    let y : Note = sostenuto m.zones c (control_of (channel_at m c) 66) 0 x in
    fades_then x y (without_pressure c y) (fades_sostenuto m.zones c (control_of (channel_at m c) 66) 0 x) (fades_pressure (nat_eq y.channel c && sounds y) 0 y)
fades_role m t c n v AllSoundOff x = fades_if (hears m.zones c x) x (ending t x) x (fades_ending t x) (fades_same x)
fades_role m t c n v AllNotesOff x = fades_if (hears m.zones c x) x (releasing t 64 x) x (fades_releasing t 64 x) (fades_same x)
fades_role m t c n v EntryHigh x = fades_same x
fades_role m t c n v EntryLow x = fades_same x
fades_role m t c n v NrpnLow x = fades_same x
fades_role m t c n v NrpnHigh x = fades_same x
fades_role m t c n v RpnLow x = fades_same x
fades_role m t c n v RpnHigh x = fades_same x
fades_role m t c n v Ignored x = fades_same x

fades_message : (m : Music) (t : ℕ) (msg : Msg) (x : Note) → Fades x (by_message m t msg x)
fades_message m t (NoteOn c k zero) x = fades_release_key t c k 64 x
fades_message m t (NoteOn c k (suc v)) x = fades_if (is_at c k x) x (ending t x) x (fades_ending t x) (fades_same x)
fades_message m t (NoteOff c k v) x = fades_release_key t c k v x
fades_message m t (KeyPressure c k v) x = fades_pressure (is_at c k x && sounds x) v x
fades_message m t (Control c n v) x = fades_role m t c n v (role n) x
fades_message m t (Program c p) x = fades_same x
fades_message m t (Pressure c v) x = fades_same x
fades_message m t (Bend c v) x = fades_same x

pub fades_settle : (ss : List Channel) (z : Zones) (t : ℕ) (n : Note) → Fades n (settle_note ss z t n)
fades_settle ss z t n = fades_if (is_over ss z n) n (ending t n) n (fades_ending t n) (fades_same n)

pub fades_event : (m : Music) (t : ℕ) (d : Doing) (x : Note) → Fades x (by_event m t d x)
fades_event m t (Plays msg) x =
    let y : Note = by_message m t msg x in
    fades_then x y (by_event m t (Plays msg) x) (fades_message m t msg x) (fades_settle (channels_after m msg) (zones_after m msg) t y)
fades_event m t Resets x = fades_ending t x
fades_event m t (Tunes r) x = fades_same x
fades_event m t Nothing x = fades_same x
