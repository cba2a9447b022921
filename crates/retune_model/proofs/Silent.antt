-- What isn't heard in the music.
use Rattle.std.proofs.Common.{◌≡◌, ℕ, zero, suc, ◌<◌, List, [], ◌∷◌, true, false, cond, Option, Some, None, refl, ap, sym, ◌∙◌, length, map, set, get_or}
use Rattle.std.proofs.lemmas.List.{length-set, get_or-set_same, set-get_or}
use Rattle.mt_base.specs.declared.event.Msg.TheVariants.{Control}
use Rattle.mt_base.specs.Midi.{MidiEvent, SysexOf}
use Rattle.midi_model.specs.Sysex.{Resets, tunes, tuning_of, is_reset, Retune}
use Rattle.midi_model.specs.Channel.{Channel, Selection, nothing_selected, default_channel, control_of, Target, TuningProgram, target, with_high}
use Rattle.midi_model.specs.Zones.{governor, bend_ranges, zones_with}
use Rattle.midi_model.specs.Notes.{Note}
use Rattle.midi_model.specs.Music.{Music, channel_at, pedal, settle_note, settle, asked, advance, step, play}
use Rattle.retune_model.specs.Blocks.{says, selecting, Group, Selects, Sends, events_of, all_events, IsSilent, AreSilent}
use Rattle.retune_model.proofs.Steady.{play-append}
use Rattle.retune_model.proofs.Steady.{Steady}

-- a channel's selection replaced
abbrev pub turned : ℕ → Selection → Music → Music
turned c s m = record m { channels = set m.channels c (record (channel_at m c) { selection = s }) }

-- what a write at c keeps of its element, it keeps of all
set_keeps : {A B : Type 0} (f : A → B) (xs : List A) (c i : ℕ) (x d : A) → f x ≡ f (get_or xs c d) → f (get_or (set xs c x) i d) ≡ f (get_or xs i d)
set_keeps f [] c i x d h = refl
set_keeps f (y ∷ ys) zero zero x d h = h
set_keeps f (y ∷ ys) zero (suc i) x d h = refl
set_keeps f (y ∷ ys) (suc c) zero x d h = refl
set_keeps f (y ∷ ys) (suc c) (suc i) x d h = set_keeps f ys c i x d h

set_again : {A : Type 0} (xs : List A) (c : ℕ) (x y : A) → set (set xs c x) c y ≡ set xs c y
set_again [] c x y = refl
set_again (z ∷ zs) zero x y = refl
set_again (z ∷ zs) (suc c) x y = ap (λ r. z ∷ r) (set_again zs c x y)

pub pedal-turned : (m : Music) (c : ℕ) (s : Selection) (n : Note) → pedal (turned c s m).channels m.zones n ≡ pedal m.channels m.zones n
pedal-turned m c s n = set_keeps (λ x. control_of x 64) m.channels c (governor m.zones n.channel) (record (channel_at m c) { selection = s }) default_channel refl

settle-turned : (m : Music) (c : ℕ) (s : Selection) (t : ℕ) (n : Note) → settle_note (turned c s m).channels m.zones t n ≡ settle_note m.channels m.zones t n
settle-turned m c s t n = rw (pedal-turned m c s n) refl

settle_all-turned : (m : Music) (c : ℕ) (s : Selection) (t : ℕ) (ns : List Note) → map (settle_note (turned c s m).channels m.zones t) ns ≡ map (settle_note m.channels m.zones t) ns
settle_all-turned m c s t [] = refl
settle_all-turned m c s t (n ∷ ns) = rw (settle-turned m c s t n, settle_all-turned m c s t ns) refl

pub steady-turned : (m : Music) (c : ℕ) (s : Selection) → Steady m → Steady (turned c s m)
steady-turned m c s h = record {
  now = record {
    notes = λ t. settle_all-turned m c s t m.notes ∙ h.now.notes t;
    channels = length-set m.channels c (record (channel_at m c) { selection = s }) ∙ h.now.channels;
  };
  later = h.later;
}

pub turned-at : (m : Music) (c : ℕ) (s : Selection) → c < length m.channels → (channel_at (turned c s m) c).selection ≡ s
turned-at m c s h = ap (λ x. x.selection) (get_or-set_same m.channels c (record (channel_at m c) { selection = s }) default_channel h)

-- settling changes nothing where the music is steady
pub settle-steady : (m : Music) (t : ℕ) → Steady m → settle t m ≡ m
settle-steady m t h = ap (λ ns. record m { notes = ns }) (h.now.notes t)

abbrev pub after_high : ℕ → Selection → Selection
after_high v s = record { registered = true; rpn = (v, s.rpn.1); nrpn = s.nrpn }

abbrev pub after_low : ℕ → Selection → Selection
after_low v s = record { registered = true; rpn = (s.rpn.0, v); nrpn = s.nrpn }

turned-again : (m : Music) (c : ℕ) (s u : Selection) → c < length m.channels → turned c u (turned c s m) ≡ turned c u m
turned-again m c s u h =
    let x : Channel = record (channel_at m c) { selection = s } in
    let at : get_or (set m.channels c x) c default_channel ≡ x = get_or-set_same m.channels c x default_channel h in
    let last : set (set m.channels c x) c (record (get_or (set m.channels c x) c default_channel) { selection = u }) ≡ set m.channels c (record (channel_at m c) { selection = u })
    = ap (λ y. set (set m.channels c x) c (record y { selection = u })) at ∙ set_again m.channels c x (record (channel_at m c) { selection = u }) in
    ap (λ cs. record m { channels = cs }) last

pub turned-same : (m : Music) (c : ℕ) → turned c (channel_at m c).selection m ≡ m
turned-same m c = ap (λ cs. record m { channels = cs }) (set-get_or m.channels c default_channel)

hear_high : (m : Music) (t track c v : ℕ) → Steady m → step m (says t track (Control c 101 v)) ≡ turned c (after_high v (channel_at m c).selection) m
hear_high m t track c v h = settle-steady (turned c (after_high v (channel_at m c).selection) m) t (steady-turned m c (after_high v (channel_at m c).selection) h)

hear_low : (m : Music) (t track c v : ℕ) → Steady m → step m (says t track (Control c 100 v)) ≡ turned c (after_low v (channel_at m c).selection) m
hear_low m t track c v h = settle-steady (turned c (after_low v (channel_at m c).selection) m) t (steady-turned m c (after_low v (channel_at m c).selection) h)

pub high : (m : Music) (s : Selection) (t track c v : ℕ) → Steady m → c < length m.channels → step (turned c s m) (says t track (Control c 101 v)) ≡ turned c (after_high v s) m
high m s t track c v h low =
    hear_high (turned c s m) t track c v (steady-turned m c s h)
    ∙ ap (λ x. turned c (after_high v x) (turned c s m)) (turned-at m c s low)
    ∙ turned-again m c s (after_high v s) low

pub low_byte : (m : Music) (s : Selection) (t track c v : ℕ) → Steady m → c < length m.channels → step (turned c s m) (says t track (Control c 100 v)) ≡ turned c (after_low v s) m
low_byte m s t track c v h low =
    hear_low (turned c s m) t track c v (steady-turned m c s h)
    ∙ ap (λ x. turned c (after_low v x) (turned c s m)) (turned-at m c s low)
    ∙ turned-again m c s (after_low v s) low

-- data entry, by what it writes to
abbrev entered : Music → ℕ → ℕ → Target → Music
entered m c v w = record {
  channels = bend_ranges (asked c v w) (zones_with (asked c v w) m.zones) (set m.channels c (record (channel_at m c) { params = with_high v w (channel_at m c).params }));
  zones = zones_with (asked c v w) m.zones;
  notes = m.notes;
}

-- where it selects a tuning program the music stays as it was
pub entry_silent : (m : Music) (t track c v : ℕ) → Steady m → target (channel_at m c).selection ≡ TuningProgram → step m (says t track (Control c 6 v)) ≡ m
entry_silent m t track c v h e =
    ap (λ w. settle t (entered m c v w)) e
    ∙ ap (λ cs. settle t (record m { channels = cs })) (set-get_or m.channels c default_channel)
    ∙ settle-steady m t h

abbrev pub tuning_selected : Selection
tuning_selected = record { registered = true; rpn = (0, 3); nrpn = (127, 127) }

-- the five messages that select a tuning program aren't heard in the music
pub select_silent : (m : Music) (t track c p : ℕ) → Steady m → c < length m.channels → (channel_at m c).selection ≡ nothing_selected → play m (selecting t track c p) ≡ m
select_silent m t track c p h low e =
    let back : turned c nothing_selected m ≡ m = ap (λ s. turned c s m) (sym e) ∙ turned-same m c in
    let first : Selection = after_high 0 nothing_selected in
    let third : Selection = after_high 127 tuning_selected in
    let tail : MidiEvent → List MidiEvent → Music → Music = λ x xs y. play y (x ∷ xs) in
    let e1 : MidiEvent = says t track (Control c 101 0) in
    let e2 : MidiEvent = says t track (Control c 100 3) in
    let e3 : MidiEvent = says t track (Control c 6 p) in
    let e4 : MidiEvent = says t track (Control c 101 127) in
    let e5 : MidiEvent = says t track (Control c 100 127) in
    let at : target (channel_at (turned c tuning_selected m) c).selection ≡ TuningProgram = ap target (turned-at m c tuning_selected low) in
    ap (λ y. play y (e1 ∷ e2 ∷ e3 ∷ e4 ∷ e5 ∷ [])) (sym back)
    ∙ ap (λ y. play y (e2 ∷ e3 ∷ e4 ∷ e5 ∷ [])) (high m nothing_selected t track c 0 h low)
    ∙ ap (λ y. play y (e3 ∷ e4 ∷ e5 ∷ [])) (low_byte m first t track c 3 h low)
    ∙ ap (λ y. play y (e4 ∷ e5 ∷ [])) (entry_silent (turned c tuning_selected m) t track c p (steady-turned m c tuning_selected h) at)
    ∙ ap (λ y. play y (e5 ∷ [])) (high m tuning_selected t track c 127 h low)
    ∙ low_byte m third t track c 127 h low
    ∙ back

tunes_silent : (m : Music) (t : ℕ) (r : Option Retune) → advance t (tunes r) m ≡ m
tunes_silent m t (Some r) = refl
tunes_silent m t None = refl

-- nor is a system exclusive message that is no reset
pub sysex_silent : (m : Music) (t track : ℕ) (bytes : List ℕ) → is_reset bytes ≡ false → step m (record { tick = t; track = track; what = SysexOf 240 bytes }) ≡ m
sysex_silent m t track bytes e = ap (λ b. advance t (cond b Resets (tunes (tuning_of bytes))) m) e ∙ tunes_silent m t (tuning_of bytes)

pub group_silent : (m : Music) (g : Group) → Steady m → IsSilent m g → play m (events_of g) ≡ m
group_silent m (Selects t track c p) h s = select_silent m t track c p h (rw h.now.channels s.0) s.1
group_silent m (Sends t track bytes) h s = sysex_silent m t track bytes s

pub groups_silent : (m : Music) (gs : List Group) → Steady m → AreSilent m gs → play m (all_events gs) ≡ m
groups_silent m [] h s = refl
groups_silent m (g ∷ gs) h s =
    play-append m (events_of g) (all_events gs)
    ∙ ap (λ y. play y (all_events gs)) (group_silent m g h s.0)
    ∙ groups_silent m gs h s.1
