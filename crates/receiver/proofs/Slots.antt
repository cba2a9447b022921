-- What one event does to the note that sounds on one key.
use Rattle.std.proofs.Common.{◌≡◌, ℕ, zero, suc, ◌+◌, ◌≤◌, ◌<◌, get_or, List, [], ◌∷◌, ◌++◌, Bool, true, false, cond, if◌then◌else◌, not, ◌&&◌, ◌||◌, Option, Some, None, is_some, refl, ap, sym, ◌∙◌, map, length, nat_eq, arith}
use Rattle.std.proofs.lemmas.Bool.{eqb-true, eq-eqb, and_parts, and_from, false_from_ne_true}
use Rattle.std.proofs.lemmas.List.{length-map, length-append}
use Rattle.std.specs.Option.{option_or}
use Rattle.mt_base.specs.Midi.{MidiEvent}
use Rattle.mt_base.specs.declared.event.Msg.{Msg}
use Rattle.mt_base.specs.declared.event.Msg.TheVariants.{NoteOn, NoteOff, KeyPressure, Control, Program, Pressure, Bend}
use Rattle.midi_model.specs.Channel.{Role, Stored, EntryHigh, EntryLow, NrpnLow, NrpnHigh, RpnLow, RpnHigh, AllSoundOff, ResetControllers, AllNotesOff, Ignored, control_of, role}
use Rattle.midi_model.specs.Sysex.{Doing, Plays, Resets, Tunes, Nothing, doing}
use Rattle.midi_model.specs.Notes.{Note, sounds, is_at, ending, cut_off, sostenuto, sounding_on}
use Rattle.midi_model.specs.Music.{Music, channel_at, zones_after, channels_after, begun, settle_note, step, play, quiet, key_pressure, key_pressures}
use Rattle.midi_model.specs.Receiver.{Receiver, start, receive, receive_all, after}
use Rattle.receiver.specs.Sounding.{sounding_from, sounding_at, ended_on}
use Rattle.receiver.specs.Turns.{set_up, kept, turned, sounding_after, strikes, begins, pressure_in}
use Rattle.receiver.proofs.Keeping.{sounding_map, ended_map, kept_same, kept_none, kept_then, or_none, ending_ends, sounding_append}
use Rattle.receiver.proofs.SetUp.{after_set_up}
use Rattle.receiver.proofs.Fading.{by_role, by_message, by_event, new_notes, advance_notes, fades_settle, fades_event}

-- at most one note sounds on a key
abbrev pub AtMostOne : List Note → Type 0
AtMostOne ns = (c k : ℕ) → sounding_on c k ns ≤ 1

turned_one : (m : Music) (t c n v : ℕ) (r : Role) (d j i : ℕ) (ns : List Note)
    → kept (by_role m t c n v r) (sounding_from i ns d j) ≡ turned m t c n v r (sounding_from i ns d j)
turned_one m t c n v Stored d j i ns = pick (nat_eq n 66) (kept_same (λ x. x) d j (λ x h. refl) i ns)
  where
    pick : (b : Bool) → kept (λ x. x) (sounding_from i ns d j) ≡ sounding_from i ns d j
        → kept (λ x. cond b (sostenuto m.zones c (control_of (channel_at m c) 66) v x) x) (sounding_from i ns d j)
        ≡ cond b (kept (sostenuto m.zones c (control_of (channel_at m c) 66) v) (sounding_from i ns d j)) (sounding_from i ns d j)
    pick true e = refl
    pick false e = e
turned_one m t c n v ResetControllers d j i ns = refl
turned_one m t c n v AllSoundOff d j i ns = refl
turned_one m t c n v AllNotesOff d j i ns = refl
turned_one m t c n v EntryHigh d j i ns = kept_same (λ x. x) d j (λ x h. refl) i ns
turned_one m t c n v EntryLow d j i ns = kept_same (λ x. x) d j (λ x h. refl) i ns
turned_one m t c n v NrpnLow d j i ns = kept_same (λ x. x) d j (λ x h. refl) i ns
turned_one m t c n v NrpnHigh d j i ns = kept_same (λ x. x) d j (λ x h. refl) i ns
turned_one m t c n v RpnLow d j i ns = kept_same (λ x. x) d j (λ x h. refl) i ns
turned_one m t c n v RpnHigh d j i ns = kept_same (λ x. x) d j (λ x h. refl) i ns
turned_one m t c n v Ignored d j i ns = kept_same (λ x. x) d j (λ x h. refl) i ns

nat_eq_turned : (a b : ℕ) → nat_eq a b ≡ nat_eq b a
nat_eq_turned a b = pick (nat_eq a b) (nat_eq b a) (λ e. eq-eqb b a (sym (eqb-true a b e))) (λ e. eq-eqb a b (sym (eqb-true b a e)))
  where
    pick : (x y : Bool) → (x ≡ true → y ≡ true) → (y ≡ true → x ≡ true) → x ≡ y
    pick true y h k = sym (h refl)
    pick false true h k = k refl
    pick false false h k = refl

where_at : (c k : ℕ) (n : Note) → is_at c k n ≡ true → (n.channel ≡ c) × (n.key ≡ k)
where_at c k n h =
    let p = and_parts (nat_eq n.channel c) (nat_eq n.key k) h in
    (eqb-true n.channel c p.0, eqb-true n.key k p.1)

-- a note on cuts off the note of its own key, and no other
cut_here : (t c k d j : ℕ) → (nat_eq c d && nat_eq k j) ≡ true → (n : Note) → is_at d j n ≡ true → sounds (cut_off t c k n) ≡ false
cut_here t c k d j same n h =
    let p = and_parts (nat_eq c d) (nat_eq k j) same in
    let at : is_at c k n ≡ true = ap (λ a. is_at a k n) (eqb-true c d p.0) ∙ ap (λ b. is_at d b n) (eqb-true k j p.1) ∙ h in
    ap (λ b. sounds (cond b (ending t n) n)) at ∙ ending_ends t n

cut_other : (t c k d j : ℕ) → (nat_eq c d && nat_eq k j) ≡ false → (n : Note) → is_at d j n ≡ true → cut_off t c k n ≡ n
cut_other t c k d j other n h =
    let there : (n.channel ≡ d) × (n.key ≡ j) = where_at d j n h in
    ap (λ b. cond b (ending t n) n) (false_from_ne_true (is_at c k n) (λ e.
    let here : (n.channel ≡ c) × (n.key ≡ k) = where_at c k n e in
    let same : (nat_eq c d && nat_eq k j) ≡ true = and_from (nat_eq c d) (nat_eq k j) (eq-eqb c d (sym here.0 ∙ there.0)) (eq-eqb k j (sym here.1 ∙ there.1)) in
    let no : false ≡ true = sym other ∙ same in absurd cc))

struck_none : (m : Music) (t c k v d j i : ℕ) (ns : List Note) → (nat_eq c d && nat_eq k j) ≡ true
    → kept (by_event m t (Plays (NoteOn c k (suc v)))) (sounding_from i ns d j) ≡ None
struck_none m t c k v d j i ns same =
    let msg : Msg = NoteOn c k (suc v) in
    let f : Note → Note = by_event m t (Plays msg) in
    let gone : (n : Note) → is_at d j n ≡ true → sounds (f n) ≡ false = λ n h. false_from_ne_true (sounds (f n)) (λ e.
    let cut : sounds (cut_off t c k n) ≡ true = (fades_settle (channels_after m msg) (zones_after m msg) t (cut_off t c k n)).sounds e in
    let no : true ≡ false = sym cut ∙ cut_here t c k d j same n h in absurd cc) in
    kept_none f d j gone i ns

-- The note that sounds after an event: what is left of the one that sounded, or the one that began.
by_settling : (m : Music) (t : ℕ) (msg : Msg) (o x : Option (ℕ × Note)) → kept (by_message m t msg) o ≡ x
    → option_or (kept (by_event m t (Plays msg)) o) None ≡ kept (settle_note (channels_after m msg) (zones_after m msg) t) x
by_settling m t msg o x e =
    let g : Note → Note = settle_note (channels_after m msg) (zones_after m msg) t in
    or_none (kept (by_event m t (Plays msg)) o)
    ∙ kept_then (by_message m t msg) g (fades_settle (channels_after m msg) (zones_after m msg) t) o
    ∙ ap (kept g) e

turned_struck : (m : Music) (next t c k v d j i : ℕ) (ns : List Note) (p : Bool) → (nat_eq c d && nat_eq k j) ≡ p
    → (let msg : Msg = NoteOn c k (suc v) in
    let new : Note = begun m t c k (suc v) in
    option_or (kept (by_event m t (Plays msg)) (sounding_from i ns d j)) (cond (p && true) (Some (next, new)) None)
    ≡ kept (settle_note (channels_after m msg) (zones_after m msg) t) (cond p (Some (next, new)) (sounding_from i ns d j)))
turned_struck m next t c k v d j i ns true e = ap (λ o. option_or o (Some (next, begun m t c k (suc v)))) (struck_none m t c k v d j i ns e)
turned_struck m next t c k v d j i ns false e = by_settling m t (NoteOn c k (suc v)) _ _ (kept_same (cut_off t c k) d j (cut_other t c k d j e) i ns)

turned_event : (m : Music) (next t : ℕ) (e : Doing) (d j i : ℕ) (ns : List Note)
    → option_or (kept (by_event m t e) (sounding_from i ns d j)) (sounding_from next (new_notes m t e) d j)
    ≡ sounding_after m next t e d j (sounding_from i ns d j)
turned_event m next t (Plays (NoteOn c k zero)) d j i ns = by_settling m t (NoteOn c k zero) _ _ refl
turned_event m next t (Plays (NoteOn c k (suc v))) d j i ns =
    let msg : Msg = NoteOn c k (suc v) in
    let g : Note → Note = settle_note (channels_after m msg) (zones_after m msg) t in
    turned_struck m next t c k v d j i ns (nat_eq c d && nat_eq k j) refl
    ∙ ap (λ a. kept g (cond (a && nat_eq k j) (Some (next, begun m t c k (suc v))) (sounding_from i ns d j))) (nat_eq_turned c d)
    ∙ ap (λ b. kept g (cond (nat_eq d c && b) (Some (next, begun m t c k (suc v))) (sounding_from i ns d j))) (nat_eq_turned k j)
turned_event m next t (Plays (NoteOff c k v)) d j i ns = by_settling m t (NoteOff c k v) _ _ refl
turned_event m next t (Plays (KeyPressure c k v)) d j i ns = by_settling m t (KeyPressure c k v) _ _ refl
turned_event m next t (Plays (Control c n v)) d j i ns = by_settling m t (Control c n v) _ _ (turned_one m t c n v (role n) d j i ns)
turned_event m next t (Plays (Program c p)) d j i ns = by_settling m t (Program c p) _ _ (kept_same (λ x. x) d j (λ x h. refl) i ns)
turned_event m next t (Plays (Pressure c v)) d j i ns = by_settling m t (Pressure c v) _ _ (kept_same (λ x. x) d j (λ x h. refl) i ns)
turned_event m next t (Plays (Bend c v)) d j i ns = by_settling m t (Bend c v) _ _ (kept_same (λ x. x) d j (λ x h. refl) i ns)
turned_event m next t Resets d j i ns = or_none _ ∙ kept_none (ending t) d j (λ n h. ending_ends t n) i ns
turned_event m next t (Tunes r) d j i ns = or_none _ ∙ kept_same (λ x. x) d j (λ x h. refl) i ns
turned_event m next t Nothing d j i ns = or_none _ ∙ kept_same (λ x. x) d j (λ x h. refl) i ns

-- it ended where its key was struck, or none sounds there any more
or_nothing : (o : Option (ℕ × Note)) → not (is_some o) ≡ not (is_some (option_or o None))
or_nothing None = refl
or_nothing (Some x) = refl

struck_or_gone : (m : Music) (next t : ℕ) (e : Doing) (d j i : ℕ) (ns : List Note)
    → not (is_some (kept (by_event m t e) (sounding_from i ns d j)))
    ≡ (strikes e d j || not (is_some (option_or (kept (by_event m t e) (sounding_from i ns d j)) (sounding_from next (new_notes m t e) d j))))
struck_or_gone m next t (Plays (NoteOn c k zero)) d j i ns = or_nothing _
struck_or_gone m next t (Plays (NoteOn c k (suc v))) d j i ns =
    let o : Option (ℕ × Note) = kept (by_event m t (Plays (NoteOn c k (suc v)))) (sounding_from i ns d j) in
    rw (nat_eq_turned d c, nat_eq_turned j k) (pick (nat_eq c d && nat_eq k j) o (struck_none m t c k v d j i ns))
  where
    pick : (p : Bool) (o : Option (ℕ × Note)) → (p ≡ true → o ≡ None)
        → not (is_some o) ≡ (p || not (is_some (option_or o (cond (p && true) (Some (next, begun m t c k (suc v))) None))))
    pick true o h = ap (λ x. not (is_some x)) (h refl)
    pick false o h = or_nothing o
struck_or_gone m next t (Plays (NoteOff c k v)) d j i ns = or_nothing _
struck_or_gone m next t (Plays (KeyPressure c k v)) d j i ns = or_nothing _
struck_or_gone m next t (Plays (Control c n v)) d j i ns = or_nothing _
struck_or_gone m next t (Plays (Program c p)) d j i ns = or_nothing _
struck_or_gone m next t (Plays (Pressure c v)) d j i ns = or_nothing _
struck_or_gone m next t (Plays (Bend c v)) d j i ns = or_nothing _
struck_or_gone m next t Resets d j i ns = or_nothing _
struck_or_gone m next t (Tunes r) d j i ns = or_nothing _
struck_or_gone m next t Nothing d j i ns = or_nothing _

left_or_new : (m : Music) (next t : ℕ) (e : Doing) (d j : ℕ) → suc (length m.notes) ≡ next → sounding_on d j m.notes ≤ 1
    → sounding_at (map (by_event m t e) m.notes ++ new_notes m t e) d j
    ≡ option_or (kept (by_event m t e) (sounding_at m.notes d j)) (sounding_from next (new_notes m t e) d j)
left_or_new m next t e d j len one =
    let f : Note → Note = by_event m t e in
    let n : length (map f m.notes) + 1 ≡ next = omega (arith, length-map m.notes f, len) in
    sounding_append d j 1 (map f m.notes) (new_notes m t e)
    ∙ ap (λ a. option_or (sounding_from 1 (map f m.notes) d j) (sounding_from a (new_notes m t e) d j)) n
    ∙ ap (λ o. option_or o (sounding_from next (new_notes m t e) d j)) (sounding_map f (fades_event m t e) d j 1 m.notes one)

-- the note that sounds on a key after one event
pub sounding_step : (m : Music) (e : MidiEvent) (next d j : ℕ) → suc (length m.notes) ≡ next → AtMostOne m.notes
    → sounding_at (step m e).notes d j ≡ sounding_after (set_up m.channels m.zones) next e.tick (doing e.what) d j (sounding_at m.notes d j)
sounding_step m e next d j len one =
    ap (λ ns. sounding_at ns d j) (advance_notes m e.tick (doing e.what))
    ∙ left_or_new m next e.tick (doing e.what) d j len (one d j)
    ∙ turned_event m next e.tick (doing e.what) d j 1 m.notes
    ∙ sym (after_set_up m next e.tick (doing e.what) d j (sounding_at m.notes d j))

-- whether a note on a key ends at an event
pub ended_step : (m : Music) (e : MidiEvent) (d j : ℕ) → AtMostOne m.notes
    → ended_on d j m.notes (step m e).notes
    ≡ (is_some (sounding_at m.notes d j) && (strikes (doing e.what) d j || not (is_some (sounding_at (step m e).notes d j))))
ended_step m e d j one =
    let t : ℕ = e.tick in
    let w : Doing = doing e.what in
    let next : ℕ = suc (length m.notes) in
    let is : (step m e).notes ≡ map (by_event m t w) m.notes ++ new_notes m t w = advance_notes m t w in
    ap (λ ns. ended_on d j m.notes ns) is
    ∙ ended_map (by_event m t w) d j 1 m.notes (new_notes m t w) (one d j)
    ∙ ap (λ b. is_some (sounding_at m.notes d j) && b) (struck_or_gone m next t w d j 1 m.notes)
    ∙ sym (ap (λ o. is_some (sounding_at m.notes d j) && (strikes w d j || not (is_some o)))
    (ap (λ ns. sounding_at ns d j) is ∙ left_or_new m next t w d j refl (one d j)))

-- how many notes have begun
pub count_step : (m : Music) (e : MidiEvent) → length (step m e).notes ≡ (if begins (doing e.what) then suc (length m.notes) else length m.notes)
count_step m e =
    ap length (advance_notes m e.tick (doing e.what))
    ∙ length-append (map (by_event m e.tick (doing e.what)) m.notes) (new_notes m e.tick (doing e.what))
    ∙ ap (λ n. n + length (new_notes m e.tick (doing e.what))) (length-map m.notes (by_event m e.tick (doing e.what)))
    ∙ by_doing (doing e.what)
  where
    by_doing : (w : Doing) → length m.notes + length (new_notes m e.tick w) ≡ cond (begins w) (suc (length m.notes)) (length m.notes)
    by_doing (Plays (NoteOn c k zero)) = omega arith
    by_doing (Plays (NoteOn c k (suc v))) = omega arith
    by_doing (Plays (NoteOff c k v)) = omega arith
    by_doing (Plays (KeyPressure c k v)) = omega arith
    by_doing (Plays (Control c n v)) = omega arith
    by_doing (Plays (Program c p)) = omega arith
    by_doing (Plays (Pressure c v)) = omega arith
    by_doing (Plays (Bend c v)) = omega arith
    by_doing Resets = omega arith
    by_doing (Tunes r) = omega arith
    by_doing Nothing = omega arith

-- ---- the pressures of the keys
pub pressure_at : (ns : List Note) (c k : ℕ) → key_pressure ns c k ≡ pressure_in (sounding_at ns c k)
pressure_at ns c k = from 1 ns
  where
    pick : (p : Bool) (i : ℕ) (n : Note) (v : ℕ) (o : Option (ℕ × Note)) → v ≡ pressure_in o → cond p n.pressure v ≡ pressure_in (cond p (Some (i, n)) o)
    pick true i n v o e = refl
    pick false i n v o e = e

    from : (i : ℕ) (xs : List Note) → key_pressure xs c k ≡ pressure_in (sounding_from i xs c k)
    from i [] = refl
    from i (n ∷ xs) = pick (is_at c k n && sounds n) i n (key_pressure xs c k) (sounding_from (suc i) xs c k) (from (suc i) xs)

pressures_from : (ns : List Note) (c start count : ℕ) (xs : List ℕ) → length xs ≡ count
    → ((i : ℕ) → i < count → get_or xs i 0 ≡ key_pressure ns c (start + i)) → xs ≡ key_pressures ns c start count
pressures_from ns c start zero [] e h = refl
pressures_from ns c start zero (x ∷ xs) e h = absurd (omega (arith, e))
pressures_from ns c start (suc count) [] e h = absurd (omega (arith, e))
pressures_from ns c start (suc count) (x ∷ xs) e h =
    let first : x ≡ key_pressure ns c start = h 0 (omega arith) ∙ ap (key_pressure ns c) (omega arith) in
    let rest : xs ≡ key_pressures ns c (suc start) count = pressures_from ns c (suc start) count xs (omega (arith, e))
    (λ i l. h (suc i) (omega (arith, l)) ∙ ap (key_pressure ns c) (omega arith)) in
    ap (λ y. y ∷ xs) first ∙ ap (λ ys. key_pressure ns c start ∷ ys) rest

-- 128 values that are those of the keys are the channel's list of them
pub pressures_list : (ns : List Note) (c : ℕ) (xs : List ℕ) → length xs ≡ 128
    → ((k : ℕ) → k < 128 → get_or xs k 0 ≡ key_pressure ns c k) → xs ≡ key_pressures ns c 0 128
pressures_list ns c xs e h = pressures_from ns c 0 128 xs e (λ i l. h i l ∙ ap (key_pressure ns c) (omega arith))

-- ---- one event more
receive_more : (r : Receiver) (es : List MidiEvent) (e : MidiEvent) → receive_all r (es ++ e ∷ []) ≡ receive (receive_all r es) e
receive_more r [] e = refl
receive_more r (x ∷ es) e = receive_more (receive r x) es e

pub after_append : (es : List MidiEvent) (e : MidiEvent) → after (es ++ e ∷ []) ≡ receive (after es) e
after_append es e = receive_more start es e

music_received : (r : Receiver) (es : List MidiEvent) → (receive_all r es).music ≡ play r.music es
music_received r [] = refl
music_received r (e ∷ es) = music_received (receive r e) es

pub music_after : (es : List MidiEvent) → (after es).music ≡ play quiet es
music_after es = music_received start es
