-- What never changes of a note, and that at most one note sounds on a key.
use Rattle.std.proofs.Common.{◌≡◌, ℕ, zero, suc, ◌+◌, ◌≤◌, List, [], ◌∷◌, ◌++◌, Bool, true, false, cond, ◌&&◌, Option, Some, None, refl, ap, sym, ◌∙◌, subst, map, nat_eq, arith}
use Rattle.std.proofs.lemmas.Bool.{eqb-true}
use Rattle.std.proofs.lemmas.List.{append-nil}
use Rattle.mt_base.specs.Midi.{MidiEvent}
use Rattle.mt_base.specs.declared.event.Msg.{Msg}
use Rattle.mt_base.specs.declared.event.Msg.TheVariants.{NoteOn, NoteOff, KeyPressure, Control, Program, Pressure, Bend}
use Rattle.midi_model.specs.Channel.{Role, Stored, EntryHigh, EntryLow, NrpnLow, NrpnHigh, RpnLow, RpnHigh, AllSoundOff, ResetControllers, AllNotesOff, Ignored}
use Rattle.midi_model.specs.Sysex.{Doing, Plays, Resets, Tunes, Nothing, doing}
use Rattle.midi_model.specs.Channel.{Channel, control_of, role}
use Rattle.midi_model.specs.Zones.{Zones, governor}
use Rattle.midi_model.specs.Notes.{Note, sounds, is_down, is_at, hears, is_pedal_down, ending, releasing, cut_off, release_key, with_pressure, sostenuto, without_pressure, end_all, release_all, Fades, sounding_on}
use Rattle.midi_model.specs.Music.{Music, quiet, channel_at, begun, notes_turned, notes_after, is_over, settle_note, act, advance, step, play}
use Rattle.midi_model.specs.MusicLaws.{AllFade, begun_by}

fades_same : (n : Note) → Fades n n
fades_same n = record { channel = refl; key = refl; onset = refl; velocity = refl; voice = refl; sounds = λ h. h }

fades_then : (a b c : Note) → Fades a b → Fades b c → Fades a c
fades_then a b c h k = record {
  channel = k.channel ∙ h.channel;
  key = k.key ∙ h.key;
  onset = k.onset ∙ h.onset;
  velocity = k.velocity ∙ h.velocity;
  voice = k.voice ∙ h.voice;
  sounds = λ x. h.sounds (k.sounds x);
}

fades_if : (b : Bool) (n x y : Note) → Fades n x → Fades n y → Fades n (cond b x y)
fades_if true n x y h k = h
fades_if false n x y h k = k

pub fades_ending : (t : ℕ) (n : Note) → Fades n (ending t n)
fades_ending t n = fades_if (sounds n) n _ n (record { channel = refl; key = refl; onset = refl; velocity = refl; voice = refl; sounds = λ h. absurd cc }) (fades_same n)

fades_lifting : (t v : ℕ) (n : Note) → Fades n (releasing t v n)
fades_lifting t v n = fades_if (is_down n) n _ n (record { channel = refl; key = refl; onset = refl; velocity = refl; voice = refl; sounds = λ h. h }) (fades_same n)

pub fades_cut : (t c k : ℕ) (n : Note) → Fades n (cut_off t c k n)
fades_cut t c k n = fades_if (is_at c k n) n (ending t n) n (fades_ending t n) (fades_same n)

pub fades_lift : (t c k v : ℕ) (n : Note) → Fades n (release_key t c k v n)
fades_lift t c k v n = fades_if (is_at c k n) n (releasing t v n) n (fades_lifting t v n) (fades_same n)

pub fades_press : (c k v : ℕ) (n : Note) → Fades n (with_pressure c k v n)
fades_press c k v n = fades_if (is_at c k n && sounds n) n _ n (record { channel = refl; key = refl; onset = refl; velocity = refl; voice = refl; sounds = λ h. h }) (fades_same n)

fades_sostenuto : (z : Zones) (c before v : ℕ) (n : Note) → Fades n (sostenuto z c before v n)
fades_sostenuto z c before v n =
    let free : Note = record n { captured = false } in
    let held : Note = record n { captured = true } in
    let to_free : Fades n free = record { channel = refl; key = refl; onset = refl; velocity = refl; voice = refl; sounds = λ h. h } in
    let to_held : Fades n held = record { channel = refl; key = refl; onset = refl; velocity = refl; voice = refl; sounds = λ h. h } in
    fades_if (nat_eq (governor z n.channel) c && sounds n) n _ n
    (fades_if (is_pedal_down before) n _ _
    (fades_if (is_pedal_down v) n n free (fades_same n) to_free)
    (fades_if (is_pedal_down v && is_down n) n held n to_held (fades_same n)))
    (fades_same n)

fades_relax : (c : ℕ) (n : Note) → Fades n (without_pressure c n)
fades_relax c n = fades_if (nat_eq n.channel c && sounds n) n _ n (record { channel = refl; key = refl; onset = refl; velocity = refl; voice = refl; sounds = λ h. h }) (fades_same n)

fades_silence : (t : ℕ) (z : Zones) (c : ℕ) (n : Note) → Fades n (end_all t z c n)
fades_silence t z c n = fades_if (hears z c n) n (ending t n) n (fades_ending t n) (fades_same n)

fades_lift_all : (t : ℕ) (z : Zones) (c : ℕ) (n : Note) → Fades n (release_all t z c n)
fades_lift_all t z c n = fades_if (hears z c n) n (releasing t 64 n) n (fades_lifting t 64 n) (fades_same n)

pub fades_settle : (ss : List Channel) (z : Zones) (t : ℕ) (n : Note) → Fades n (settle_note ss z t n)
fades_settle ss z t n = fades_if (is_over ss z n) n (ending t n) n (fades_ending t n) (fades_same n)

-- of a list, note by note
pub all_fade : (f : Note → Note) → ((n : Note) → Fades n (f n)) → (ns : List Note) → AllFade ns (map f ns)
all_fade f h [] = tt
all_fade f h (n ∷ ns) = (h n, all_fade f h ns)

all_same : (ns : List Note) → AllFade ns ns
all_same [] = tt
all_same (n ∷ ns) = (fades_same n, all_same ns)

pub fade_turned : (m : Music) (t c n v : ℕ) (r : Role) → AllFade m.notes (notes_turned m t c n v r)
fade_turned m t c n v Stored = pick (nat_eq n 66)
  where
    old : ℕ
    old = control_of (channel_at m c) 66

    pick : (b : Bool) → AllFade m.notes (cond b (map (sostenuto m.zones c (control_of (channel_at m c) 66) v) m.notes) m.notes)
    pick true = all_fade (sostenuto m.zones c (control_of (channel_at m c) 66) v) (fades_sostenuto m.zones c (control_of (channel_at m c) 66) v) m.notes
    pick false = all_same m.notes
fade_turned m t c n v ResetControllers =
    let f : Note → Note = sostenuto m.zones c (control_of (channel_at m c) 66) 0 in
    all_fade (λ x. without_pressure c (f x)) (λ x. fades_then x (f x) (without_pressure c (f x)) (fades_sostenuto m.zones c (control_of (channel_at m c) 66) 0 x) (fades_relax c (f x))) m.notes
fade_turned m t c n v AllSoundOff = all_fade (end_all t m.zones c) (fades_silence t m.zones c) m.notes
fade_turned m t c n v AllNotesOff = all_fade (release_all t m.zones c) (fades_lift_all t m.zones c) m.notes
fade_turned m t c n v EntryHigh = all_same m.notes
fade_turned m t c n v EntryLow = all_same m.notes
fade_turned m t c n v NrpnLow = all_same m.notes
fade_turned m t c n v NrpnHigh = all_same m.notes
fade_turned m t c n v RpnLow = all_same m.notes
fade_turned m t c n v RpnHigh = all_same m.notes
fade_turned m t c n v Ignored = all_same m.notes

all_then : (ns xs ys : List Note) → AllFade ns xs → AllFade xs ys → AllFade ns ys
all_then [] [] [] h k = tt
all_then [] [] (c ∷ ys) h k = absurd k
all_then [] (b ∷ xs) ys h k = absurd h
all_then (a ∷ ns) [] ys h k = absurd h
all_then (a ∷ ns) (b ∷ xs) [] h k = absurd k
all_then (a ∷ ns) (b ∷ xs) (c ∷ ys) h k = (fades_then a b c h.0 k.0, all_then ns xs ys h.1 k.1)

and_one : (n : Note) (ns xs : List Note) → AllFade ns xs → AllFade (ns ++ n ∷ []) (xs ++ n ∷ [])
and_one n [] [] h = (fades_same n, tt)
and_one n [] (b ∷ xs) h = absurd h
and_one n (a ∷ ns) [] h = absurd h
and_one n (a ∷ ns) (b ∷ xs) h = (h.0, and_one n ns xs h.1)

and_none : (ns xs : List Note) → AllFade ns xs → AllFade (ns ++ []) xs
and_none ns xs h = subst (λ zs. AllFade zs xs) (sym (append-nil ns)) h

-- the notes after a message, before they settle
faded_message : (m : Music) (t : ℕ) (msg : Msg) → AllFade (m.notes ++ begun_by m t (Plays msg)) (notes_after m t msg)
faded_message m t (NoteOn c k zero) = and_none m.notes _ (all_fade (release_key t c k 64) (fades_lift t c k 64) m.notes)
faded_message m t (NoteOn c k (suc v)) = and_one (begun m t c k (suc v)) m.notes _ (all_fade (cut_off t c k) (fades_cut t c k) m.notes)
faded_message m t (NoteOff c k v) = and_none m.notes _ (all_fade (release_key t c k v) (fades_lift t c k v) m.notes)
faded_message m t (KeyPressure c k v) = and_none m.notes _ (all_fade (with_pressure c k v) (fades_press c k v) m.notes)
faded_message m t (Control c n v) = and_none m.notes _ (fade_turned m t c n v (role n))
faded_message m t (Program c p) = and_none m.notes _ (all_same m.notes)
faded_message m t (Pressure c v) = and_none m.notes _ (all_same m.notes)
faded_message m t (Bend c v) = and_none m.notes _ (all_same m.notes)

-- the notes after an event: those from before and the one that it begins, faded
pub faded_after : (m : Music) (t : ℕ) (d : Doing) → AllFade (m.notes ++ begun_by m t d) (advance t d m).notes
faded_after m t (Plays msg) =
    let a : Music = act t msg m in
    all_then (m.notes ++ begun_by m t (Plays msg)) a.notes _ (faded_message m t msg) (all_fade (settle_note a.channels a.zones t) (fades_settle a.channels a.zones t) a.notes)
faded_after m t Resets = and_none m.notes _ (all_fade (ending t) (fades_ending t) m.notes)
faded_after m t (Tunes r) = and_none m.notes _ (all_same m.notes)
faded_after m t Nothing = and_none m.notes _ (all_same m.notes)

-- how many sound on a key never grows while notes fade
fewer : (c k : ℕ) (ns xs : List Note) → AllFade ns xs → sounding_on c k xs ≤ sounding_on c k ns
fewer c k [] [] h = omega arith
fewer c k [] (x ∷ xs) h = absurd h
fewer c k (n ∷ ns) [] h = absurd h
fewer c k (n ∷ ns) (x ∷ xs) h =
    let tail : sounding_on c k xs ≤ sounding_on c k ns = fewer c k ns xs h.1 in
    let at : is_at c k x ≡ is_at c k n = ap (λ a. nat_eq a c && nat_eq x.key k) h.0.channel ∙ ap (λ b. nat_eq n.channel c && nat_eq b k) h.0.key in
    let head : cond (is_at c k x && sounds x) 1 0 ≤ cond (is_at c k n && sounds n) 1 0 =
    (rw at (pick (is_at c k n) (sounds x) (sounds n) h.0.sounds)) in
    omega (arith, tail, head)
  where
    pick : (a s u : Bool) → (s ≡ true → u ≡ true) → cond (a && s) 1 0 ≤ cond (a && u) 1 0
    pick false s u h = omega arith
    pick true false u h = omega arith
    pick true true true h = omega arith
    pick true true false h = (let e : false ≡ true = h refl in absurd cc)

-- none is left on a key whose notes were cut off
none_cut : (t c k : ℕ) (ns : List Note) → sounding_on c k (map (cut_off t c k) ns) ≡ 0
none_cut t c k [] = refl
none_cut t c k (n ∷ ns) = rw (none_cut t c k ns) (pick (is_at c k n) refl)
  where
    gone : (a : Bool) (e : Option ℕ) → cond (a && sounds (ending t (record n { ended = e }))) 1 0 + 0 ≡ 0
    gone true None = refl
    gone true (Some x) = refl
    gone false e = refl

    pick : (a : Bool) → is_at c k n ≡ a → cond (is_at c k (cond a (ending t n) n) && sounds (cond a (ending t n) n)) 1 0 + 0 ≡ 0
    pick false e = rw e refl
    pick true e = gone (is_at c k (ending t n)) n.ended

counted_append : (c k : ℕ) (xs ys : List Note) → sounding_on c k (xs ++ ys) ≡ sounding_on c k xs + sounding_on c k ys
counted_append c k [] ys = omega arith
counted_append c k (x ∷ xs) ys = omega (arith, counted_append c k xs ys)

new_on : (m : Music) (t c k v d j : ℕ) → sounding_on d j (map (cut_off t c k) m.notes) ≤ 1 → sounding_on d j (map (cut_off t c k) m.notes ++ begun m t c k v ∷ []) ≤ 1
new_on m t c k v d j h = rw (counted_append d j (map (cut_off t c k) m.notes) (begun m t c k v ∷ [])) (pick (nat_eq c d) (nat_eq k j) refl refl)
  where
    pick : (a b : Bool) → nat_eq c d ≡ a → nat_eq k j ≡ b → sounding_on d j (map (cut_off t c k) m.notes) + (cond ((a && b) && true) 1 0 + 0) ≤ 1
    pick false b e f = omega (arith, h)
    pick true false e f = omega (arith, h)
    pick true true e f =
        let same_channel : c ≡ d = eqb-true c d e in
        let same_key : k ≡ j = eqb-true k j f in
        let none : sounding_on d j (map (cut_off t c k) m.notes) ≡ 0 = ap (λ x. sounding_on x j (map (cut_off t c k) m.notes)) (sym same_channel) ∙ ap (λ x. sounding_on c x (map (cut_off t c k) m.notes)) (sym same_key) ∙ none_cut t c k m.notes in
        omega (arith, none)

abbrev AtMostOne : List Note → Type 0
AtMostOne ns = (c k : ℕ) → sounding_on c k ns ≤ 1

still_one : (ns xs : List Note) → AllFade ns xs → AtMostOne ns → AtMostOne xs
still_one ns xs f h = λ c k. omega (arith, fewer c k ns xs f, h c k)

one_after : (m : Music) (t : ℕ) (msg : Msg) → AtMostOne m.notes → AtMostOne (notes_after m t msg)
one_after m t (NoteOn c k zero) h = still_one m.notes _ (all_fade (release_key t c k 64) (fades_lift t c k 64) m.notes) h
one_after m t (NoteOn c k (suc v)) h = λ d j. new_on m t c k (suc v) d j (still_one m.notes (map (cut_off t c k) m.notes) (all_fade (cut_off t c k) (fades_cut t c k) m.notes) h d j)
one_after m t (NoteOff c k v) h = still_one m.notes _ (all_fade (release_key t c k v) (fades_lift t c k v) m.notes) h
one_after m t (KeyPressure c k v) h = still_one m.notes _ (all_fade (with_pressure c k v) (fades_press c k v) m.notes) h
one_after m t (Control c n v) h = still_one m.notes _ (fade_turned m t c n v (role n)) h
one_after m t (Program c p) h = h
one_after m t (Pressure c v) h = h
one_after m t (Bend c v) h = h

one_advance : (m : Music) (t : ℕ) (d : Doing) → AtMostOne m.notes → AtMostOne (advance t d m).notes
one_advance m t (Plays msg) h =
    let a : Music = act t msg m in
    still_one a.notes _ (all_fade (settle_note a.channels a.zones t) (fades_settle a.channels a.zones t) a.notes) (one_after m t msg h)
one_advance m t Resets h = still_one m.notes _ (all_fade (ending t) (fades_ending t) m.notes) h
one_advance m t (Tunes r) h = h
one_advance m t Nothing h = h

one_play : (m : Music) (es : List MidiEvent) → AtMostOne m.notes → AtMostOne (play m es).notes
one_play m [] h = h
one_play m (e ∷ es) h = one_play (step m e) es (one_advance m e.tick (doing e.what) h)

-- at most one note sounds on a key of a channel
pub one_sounds : (es : List MidiEvent) (c k : ℕ) → sounding_on c k (play quiet es).notes ≤ 1
one_sounds es c k = one_play quiet es (λ d j. omega arith) c k
