-- Valid events keep the channels of a receiver well formed.
use Rattle.std.proofs.Common.{◌≡◌, ℕ, zero, suc, ◌+◌, ◌≤◌, List, [], ◌∷◌, ◌++◌, Bool, true, false, cond, ◌&&◌, nat_eq, Option, Some, None, refl, ap, arith, length, map, set, get_or, replicate}
use Rattle.std.specs.List.{AllByRecursion}
use Rattle.std.proofs.lemmas.Bool.{cond_both}
use Rattle.mt_base.specs.Midi.{MidiEvent, MidiWhat, Says, SysexOf, MetaOf, channel_of}
use Rattle.mt_base.specs.Valid.{IsValidMsg, IsValidEvent, IsValidWhat}
use Rattle.mt_base.specs.declared.event.Msg.{Msg}
use Rattle.mt_base.specs.declared.event.Msg.TheVariants.{NoteOn, NoteOff, KeyPressure, Control, Program, Pressure, Bend}
use Rattle.midi_model.specs.Params.{Entry, rpn}
use Rattle.midi_model.specs.Channel.{Channel, State, Role, Stored, EntryHigh, EntryLow, NrpnLow, NrpnHigh, RpnLow, RpnHigh, AllSoundOff, ResetControllers, AllNotesOff, Ignored, default_channel, control_of, role, apply, apply_state}
use Rattle.midi_model.specs.WellFormed.{IsEntered, IsWellFormed}
use Rattle.midi_model.specs.Sysex.{Plays, Resets, Nothing, doing, is_reset, tunes, tuning_of, Retune}
use Rattle.midi_model.specs.Zones.{Zones, bend_range, bend_range_at, bend_ranges_from, bend_ranges, governor}
use Rattle.midi_model.specs.Notes.{Note, sounds, is_down, is_at, is_pedal_down, ending, releasing, cut_off, release_key, with_pressure, sostenuto, without_pressure, end_all, release_all, hears}
use Rattle.midi_model.specs.Music.{Music, quiet, channel_at, asks, zones_after, channels_after, notes_turned, notes_after, begun, is_over, settle_note, reset, advance, step, play, key_pressure, key_pressures, state_at}
use Rattle.state_laws.specs.StateLaws.{unpressed, AreWellFormed, given}
use Rattle.state_laws.proofs.Laws.{Laws}
use Rattle.state_laws.proofs.Keeping.{Keys, keys_zero, made, controls_of, selected_of, rest_of, entered_put, well_after, well_at_first}

-- ---- channels, with no key pressed

abbrev Well : Channel → Type 0
Well s = IsWellFormed (unpressed s)

rekeyed : (s : State) (ks : List ℕ) → IsWellFormed s → Keys ks
    → (let t : State = record { own = s.own; keys = ks } in IsWellFormed t)
rekeyed s ks h k = made (record { own = s.own; keys = ks }) (controls_of s h) (selected_of s h) (h.canonical, h.entered) (rest_of s h) k

well_applied : Laws → (s : Channel) (m : Msg) → Well s → IsValidMsg m → Well (apply s m)
well_applied l s m h ok = rekeyed (apply_state (unpressed s) m) (replicate 128 0) (well_after l (unpressed s) m h ok) keys_zero

well_default : Well default_channel
well_default = well_at_first

well_range : Laws → (n : ℕ) (s : Channel) → n ≤ 127 → Well s → Well (bend_range n s)
well_range l n s low h =
    let e : Entry = record { parameter = rpn 0; value = (n, 0) } in
    let is : IsEntered e = record { small = record { high = omega arith; low = omega arith }; settable = refl; high = low; low = omega arith } in
    made (unpressed (bend_range n s)) (controls_of (unpressed s) h) (selected_of (unpressed s) h) (l.form (rpn 0) (n, 0) s.params h.canonical, entered_put (rpn 0) (n, 0) s.params is h.entered) (rest_of (unpressed s) h) keys_zero

well_range_at : Laws → (z : Zones) (m c : ℕ) (s : Channel) → Well s → Well (bend_range_at z m c s)
well_range_at l z m c s h =
    cond_both (nat_eq c m) (bend_range 2 s) (cond (nat_eq (governor z c) m) (bend_range 48 s) s) Well (λ _. well_range l 2 s (omega arith) h)
    (λ _. cond_both (nat_eq (governor z c) m) (bend_range 48 s) s Well (λ _. well_range l 48 s (omega arith) h) (λ _. h))

-- all channels
abbrev AllWell : List Channel → Type 0
AllWell = AllByRecursion Well

well_at : (ss : List Channel) (c : ℕ) → AllWell ss → Well (get_or ss c default_channel)
well_at [] c h = well_default
well_at (s ∷ ss) zero h = h.0
well_at (s ∷ ss) (suc c) h = well_at ss c h.1

well_set : (ss : List Channel) (c : ℕ) (x : Channel) → AllWell ss → Well x → AllWell (set ss c x)
well_set [] c x h k = tt
well_set (s ∷ ss) zero x h k = (k, h.1)
well_set (s ∷ ss) (suc c) x h k = (h.0, well_set ss c x h.1 k)

well_ranges_from : Laws → (z : Zones) (m c : ℕ) (ss : List Channel) → AllWell ss → AllWell (bend_ranges_from z m c ss)
well_ranges_from l z m c [] h = tt
well_ranges_from l z m c (s ∷ ss) h = (well_range_at l z m c s h.0, well_ranges_from l z m (c + 1) ss h.1)

well_ranges : Laws → (a : Option (ℕ × ℕ)) (z : Zones) (ss : List Channel) → AllWell ss → AllWell (bend_ranges a z ss)
well_ranges l None z ss h = h
well_ranges l (Some (m, zero)) z ss h = h
well_ranges l (Some (m, suc n)) z ss h = well_ranges_from l z m 0 ss h

-- ---- the pressures of notes

abbrev Low : Note → Type 0
Low n = n.pressure ≤ 127

abbrev AllLow : List Note → Type 0
AllLow = AllByRecursion Low

low_map : (f : Note → Note) (ns : List Note) → ((n : Note) → Low n → Low (f n)) → AllLow ns → AllLow (map f ns)
low_map f [] g h = tt
low_map f (n ∷ ns) g h = (g n h.0, low_map f ns g h.1)

low_append : (a b : List Note) → AllLow a → AllLow b → AllLow (a ++ b)
low_append [] b h k = k
low_append (n ∷ a) b h k = (h.0, low_append a b h.1 k)

low_if : (b : Bool) (x y : Note) → Low x → Low y → Low (cond b x y)
low_if true x y h k = h
low_if false x y h k = k

low_ending : (t : ℕ) (n : Note) → Low n → Low (ending t n)
low_ending t n h = low_if (sounds n) (record n { ended = Some t }) n h h

low_releasing : (t v : ℕ) (n : Note) → Low n → Low (releasing t v n)
low_releasing t v n h = low_if (is_down n) (record n { release = Some (t, v) }) n h h

low_sostenuto : (z : Zones) (c a b : ℕ) (n : Note) → Low n → Low (sostenuto z c a b n)
low_sostenuto z c a b n h =
    let one : Note = record n { captured = false } in
    let two : Note = record n { captured = true } in
    low_if (nat_eq (governor z n.channel) c && sounds n) (cond (is_pedal_down a) (cond (is_pedal_down b) n one) (cond (is_pedal_down b && is_down n) two n)) n
    (low_if (is_pedal_down a) (cond (is_pedal_down b) n one) (cond (is_pedal_down b && is_down n) two n) (low_if (is_pedal_down b) n one h h) (low_if (is_pedal_down b && is_down n) two n h h)) h

low_without : (c : ℕ) (n : Note) → Low n → Low (without_pressure c n)
low_without c n h = low_if (nat_eq n.channel c && sounds n) (record n { pressure = 0 }) n (omega arith) h

low_turned : (m : Music) (t c n v : ℕ) (r : Role) → AllLow m.notes → AllLow (notes_turned m t c n v r)
low_turned m t c n v Stored h =
    let f : Note → Note = sostenuto m.zones c (control_of (channel_at m c) 66) v in
    cond_both (nat_eq n 66) (map f m.notes) m.notes AllLow (λ _. low_map f m.notes (low_sostenuto m.zones c (control_of (channel_at m c) 66) v) h) (λ _. h)
low_turned m t c n v ResetControllers h =
    low_map (λ x. without_pressure c (sostenuto m.zones c (control_of (channel_at m c) 66) 0 x)) m.notes (λ x k. low_without c (sostenuto m.zones c (control_of (channel_at m c) 66) 0 x) (low_sostenuto m.zones c (control_of (channel_at m c) 66) 0 x k)) h
low_turned m t c n v AllSoundOff h = low_map (end_all t m.zones c) m.notes (λ x k. low_if (hears m.zones c x) (ending t x) x (low_ending t x k) k) h
low_turned m t c n v AllNotesOff h =
    low_map (release_all t m.zones c) m.notes (λ x k. low_if (hears m.zones c x) (releasing t 64 x) x (low_releasing t 64 x k) k) h
low_turned m t c n v EntryHigh h = h
low_turned m t c n v EntryLow h = h
low_turned m t c n v NrpnLow h = h
low_turned m t c n v NrpnHigh h = h
low_turned m t c n v RpnLow h = h
low_turned m t c n v RpnHigh h = h
low_turned m t c n v Ignored h = h

low_release : (t c k v : ℕ) (ns : List Note) → AllLow ns → AllLow (map (release_key t c k v) ns)
low_release t c k v ns h = low_map (release_key t c k v) ns (λ x g. low_if (is_at c k x) (releasing t v x) x (low_releasing t v x g) g) h

low_after : (m : Music) (t : ℕ) (msg : Msg) → IsValidMsg msg → AllLow m.notes → AllLow (notes_after m t msg)
low_after m t (NoteOn c k zero) ok h = low_release t c k 64 m.notes h
low_after m t (NoteOn c k (suc v)) ok h =
    low_append (map (cut_off t c k) m.notes) (begun m t c k (suc v) ∷ []) (low_map (cut_off t c k) m.notes (λ x g. low_if (is_at c k x) (ending t x) x (low_ending t x g) g) h) (omega arith, tt)
low_after m t (NoteOff c k v) ok h = low_release t c k v m.notes h
low_after m t (KeyPressure c k v) ok h =
    low_map (with_pressure c k v) m.notes (λ x g. low_if (is_at c k x && sounds x) (record x { pressure = v }) x ok.2 g) h
low_after m t (Control c n v) ok h = low_turned m t c n v (role n) h
low_after m t (Program c p) ok h = h
low_after m t (Pressure c v) ok h = h
low_after m t (Bend c v) ok h = h

-- ---- the music

well_channels : Laws → (m : Music) (msg : Msg) → IsValidMsg msg → AllWell m.channels → AllWell (channels_after m msg)
well_channels l m msg ok h =
    let c : ℕ = channel_of msg in
    let s : Channel = apply (channel_at m c) msg in
    well_ranges l (asks m msg) (zones_after m msg) (set m.channels c s) (well_set m.channels c s h (well_applied l (channel_at m c) msg (well_at m.channels c h) ok))

sound_play : Laws → (m : Music) (t : ℕ) (msg : Msg) → IsValidMsg msg → AreWellFormed m → AreWellFormed (advance t (Plays msg) m)
sound_play l m t msg ok h = record {
  channels = well_channels l m msg ok h.channels;
  pressures =
      low_map (settle_note (channels_after m msg) (zones_after m msg) t) (notes_after m t msg) (λ x g. low_if (is_over (channels_after m msg) (zones_after m msg) x) (ending t x) x (low_ending t x g) g) (low_after m t msg ok h.pressures);
}

well_quiet : (n : ℕ) → AllWell (replicate n default_channel)
well_quiet zero = tt
well_quiet (suc n) = (well_default, well_quiet n)

sound_reset : (m : Music) (t : ℕ) → AreWellFormed m → AreWellFormed (reset t m)
sound_reset m t h = record { channels = well_quiet 16; pressures = low_map (ending t) m.notes (low_ending t) h.pressures }

sound_tunes : (m : Music) (t : ℕ) (r : Option Retune) → AreWellFormed m → AreWellFormed (advance t (tunes r) m)
sound_tunes m t (Some r) h = h
sound_tunes m t None h = h

sound_sysex : (m : Music) (t : ℕ) (a b : Bool) (r : Option Retune) → AreWellFormed m
    → AreWellFormed (advance t (cond a (cond b Resets (tunes r)) Nothing) m)
sound_sysex m t true true r h = sound_reset m t h
sound_sysex m t true false r h = sound_tunes m t r h
sound_sysex m t false b r h = h

sound_what : Laws → (m : Music) (t : ℕ) (w : MidiWhat) → IsValidWhat w → AreWellFormed m → AreWellFormed (advance t (doing w) m)
sound_what l m t (Says msg) ok h = sound_play l m t msg ok h
sound_what l m t (SysexOf lead bs) ok h = sound_sysex m t (nat_eq lead 240) (is_reset bs) (tuning_of bs) h
sound_what l m t (MetaOf kind bs) ok h = h

sound_all : Laws → (m : Music) (es : List MidiEvent) → AllByRecursion IsValidEvent es → AreWellFormed m
    → AreWellFormed (play m es)
sound_all l m [] ok h = h
sound_all l m (e ∷ es) ok h = sound_all l (step m e) es ok.1 (sound_what l m e.tick e.what ok.0.what h)

-- ---- its states

low_pressure : (ns : List Note) (c k : ℕ) → AllLow ns → key_pressure ns c k ≤ 127
low_pressure [] c k h = omega arith
low_pressure (n ∷ ns) c k h =
    cond_both (is_at c k n && sounds n) n.pressure (key_pressure ns c k) (λ (v : ℕ). v ≤ 127) (λ _. h.0) (λ _. low_pressure ns c k h.1)

low_pressures : (ns : List Note) (c i m j : ℕ) → AllLow ns → get_or (key_pressures ns c i m) j 0 ≤ 127
low_pressures ns c i zero j h = omega arith
low_pressures ns c i (suc m) zero h = low_pressure ns c i h
low_pressures ns c i (suc m) (suc j) h = low_pressures ns c (suc i) m j h

length_pressures : (ns : List Note) (c i m : ℕ) → length (key_pressures ns c i m) ≡ m
length_pressures ns c i zero = refl
length_pressures ns c i (suc m) = ap suc (length_pressures ns c (suc i) m)

pub state_well : (m : Music) (c : ℕ) → AreWellFormed m → IsWellFormed (state_at m c)
state_well m c h =
    rekeyed (unpressed (channel_at m c)) (key_pressures m.notes c 0 128) (well_at m.channels c h.channels)
    (record { length = length_pressures m.notes c 0 128; bytes = λ j. low_pressures m.notes c 0 128 j h.pressures })

pub event_keeps : Laws → (m : Music) (e : MidiEvent) → AreWellFormed m → IsValidEvent e → AreWellFormed (step m e)
event_keeps l m e h ok = sound_what l m e.tick e.what ok.what h

pub receivers_well : Laws → (es : List MidiEvent) → AllByRecursion IsValidEvent es → AreWellFormed (play quiet es)
receivers_well l es ok = sound_all l quiet es ok (record { channels = well_quiet 16; pressures = tt })

pub well_with : Laws → (s : State) (range bend : ℕ) (keys : List ℕ)
    → IsWellFormed s → range ≤ 127 → bend ≤ 16383 → length keys ≡ 128 → ((k : ℕ) → get_or keys k 0 ≤ 127)
    → IsWellFormed (given s range bend keys)
well_with l s range bend keys h r b n k =
    let e : Entry = record { parameter = rpn 0; value = (range, 0) } in
    let is : IsEntered e = record { small = record { high = omega arith; low = omega arith }; settable = refl; high = r; low = omega arith } in
    let rest = rest_of s h in
    made (given s range bend keys) (controls_of s h) (selected_of s h)
    (l.form (rpn 0) (range, 0) s.own.params h.canonical, entered_put (rpn 0) (range, 0) s.own.params is h.entered)
    (record { high = h.bank_high; low = h.bank_low; program = h.program; bend = b; pressure = h.pressure }) (record { length = n; bytes = k })
