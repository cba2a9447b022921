-- A bend: it changes its channel's bend alone, and leaves all notes.
use Rattle.std.proofs.Common.{◌≡◌, ◌<◌, ◌∙◌, ℕ, suc, ℤ, List, [], ◌∷◌, ◌++◌, Bool, true, false, cond, not, ◌&&◌, Option, Some, None, is_some, map, set, get_or, refl, sym, ap, subst, length, arith, inl, inr}
use Rattle.std.proofs.lemmas.List.{get_or-set_same, get_or-set_other}
use Rattle.std.proofs.lemmas.Bool.Decides.{eqb_tells}
use Rattle.std.specs.Option.{option_map}
use Rattle.mt_base.specs.declared.event.Msg.TheVariants.{Bend}
use Rattle.mt_base.specs.Midi.{MidiEvent, Says}
use Rattle.midi_model.specs.Sysex.{doing}
use Rattle.midi_model.specs.Channel.{Channel, default_channel, control_of, apply}
use Rattle.midi_model.specs.Zones.{Zones, governor}
use Rattle.midi_model.specs.Notes.{Note, is_pedal_down, ending}
use Rattle.midi_model.specs.Music.{Music, quiet, play, step, channel_at, settle_note}
use Rattle.midi_model.specs.MusicLaws.{IsSettled, EventsSettle}
use Rattle.midi_model.specs.Receiver.{start}
use Rattle.retune_model.specs.Options.{Options}
use Rattle.retune_model.specs.Source.{bend_in_steps}
use Rattle.retune_model.specs.Ports.{events_on, of_port, port_at, music_at, resets}
use Rattle.retune_model.specs.Faults.{Targets, Kind, BendTooFar, is_part, is_bend}
use Rattle.retune_model.specs.Pairs.{Pair}
use Rattle.retune_model.specs.Rests.{pairs_at}
use Rattle.retune_model.specs.SourceFaults.{first_beyond, bend_of}
use Rattle.lifetimes.specs.Told.{music_on}
use Rattle.lifetimes.specs.Due.{AreLeft, LeavesPart, bend_due, early_due, too_far, with_bend}
use Rattle.lifetimes.proofs.NotesKept.{music_all}

-- ---- nothing is left to settle

settled_play : EventsSettle → (m : Music) (es : List MidiEvent) → IsSettled m → IsSettled (play m es)
settled_play law m [] h = h
settled_play law m (e ∷ es) h = settled_play law (step m e) es (law m e h)

pub settled_on : EventsSettle → (z : ℕ) (es : List MidiEvent) → IsSettled (music_on z es)
settled_on law z es = subst IsSettled (sym (music_all start (events_on z es)))
    (settled_play law quiet (events_on z es) (record { notes = λ t. refl; channels = refl }))

-- ---- a channel that keeps its controllers

same_controls : (cs : List Channel) (c g : ℕ) (s : Channel) → c < length cs → s.controls ≡ (get_or cs c default_channel).controls
    → control_of (get_or (set cs c s) g default_channel) 64 ≡ control_of (get_or cs g default_channel) 64
same_controls cs c g s low same = elim (eqb_tells g c) [
  | inl t ↦ ap (λ i. control_of (get_or (set cs c s) i default_channel) 64) t.1
      ∙ (ap (λ (x : Channel). control_of x 64) (get_or-set_same cs c s default_channel low)
      ∙ (ap (λ l. get_or l 64 0) same ∙ ap (λ i. control_of (get_or cs i default_channel) 64) (sym t.1)))
  | inr t ↦ ap (λ (x : Channel). control_of x 64) (get_or-set_other cs c g s default_channel t.1)
]

settle_same : (ss us : List Channel) (z : Zones) (t : ℕ) (ns : List Note)
    → ((g : ℕ) → control_of (get_or us g default_channel) 64 ≡ control_of (get_or ss g default_channel) 64)
    → map (settle_note us z t) ns ≡ map (settle_note ss z t) ns
settle_same ss us z t [] same = refl
settle_same ss us z t (n ∷ ns) same =
    ap (λ p. cond (is_some n.release && (not n.captured && not (is_pedal_down p))) (ending t n) n ∷ map (settle_note us z t) ns)
    (same (governor z n.channel))
    ∙ ap (λ xs. settle_note ss z t n ∷ xs) (settle_same ss us z t ns same)

pub left_same : (c : ℕ) (ns : List Note) → AreLeft c ns ns
left_same c [] = tt
left_same c (n ∷ ns) = ((refl, λ h. refl), left_same c ns)

-- ---- a bend

pub turn_leaves : EventsSettle → (z : ℕ) (es : List MidiEvent) (e : MidiEvent) (c v : ℕ) → e.what ≡ Says (Bend c v) → c < 16 → LeavesPart z es e c
turn_leaves law z es e c v is cl =
    let m : Music = music_on z es in
    let settled : IsSettled m = settled_on law z es in
    let long : length m.channels ≡ 16 = settled.channels in
    let kept : (step m (record e { what = Says (Bend c v) })).notes ≡ m.notes =
    settle_same m.channels (set m.channels c (apply (channel_at m c) (Bend c v))) m.zones e.tick m.notes
    (λ g. same_controls m.channels c g (apply (channel_at m c) (Bend c v)) (omega (arith, cl, long)) refl)
    ∙ settled.notes e.tick in
    let now : (step m e).notes ≡ m.notes = ap (λ w. (step m (record e { what = w })).notes) is ∙ kept in
    record {
      notes = subst (λ xs. AreLeft c m.notes xs) (sym now) (left_same c m.notes);
      no_reset = ap (λ w. resets (doing w)) is;
    }

pub turned_channel : EventsSettle → (z : ℕ) (es : List MidiEvent) (e : MidiEvent) (c v : ℕ) → e.what ≡ Says (Bend c v) → c < 16
    → channel_at (step (music_on z es) e) c ≡ apply (channel_at (music_on z es) c) (Bend c v)
turned_channel law z es e c v is cl =
    let m : Music = music_on z es in
    let long : length m.channels ≡ 16 = (settled_on law z es).channels in
    ap (λ w. channel_at (step m (record e { what = w })) c) is
    ∙ get_or-set_same m.channels c (apply (channel_at m c) (Bend c v)) default_channel (omega (arith, cl, long))

-- kind 4 is all that a bend can be
pub turn_due : (o : Options) (table : Targets) (es : List MidiEvent) (e : MidiEvent) (z c v : ℕ) (r : ℤ) → e.what ≡ Says (Bend c v)
    → is_part o c ≡ true
    → r ≡ bend_in_steps o.range (channel_at (music_at (of_port z (es ++ e ∷ [])) (suc (length es))) c)
    → bend_due o table es e z c r ≡ early_due o table es e z (Bend c v)
turn_due o table es e z c v r is part same =
    let after : Music = music_at (of_port z (es ++ e ∷ [])) (suc (length es)) in
    let pairs : List Pair = pairs_at o (is_part o) table (port_at (es ++ e ∷ []) z) (suc (length es)) in
    let found : Option (ℤ × ℤ) = first_beyond (record { port = z; channel = c }) (bend_in_steps o.range (channel_at after c)) pairs in
    ap (λ x. cond (is_bend o.route) (too_far (first_beyond (record { port = z; channel = c }) x pairs)) None) same
    ∙ (only (is_bend o.route) found (with_bend o table es e z) (ap (λ w. (BendTooFar, bend_of z o after pairs BendTooFar w)) is)
    ∙ ap (λ b. option_map (with_bend o table es e z) (cond (is_bend o.route && (b && is_some found)) (Some BendTooFar) None)) (sym part))
  where
    only : (b : Bool) (x : Option (ℤ × ℤ)) (told : Kind → Kind × Option (ℤ × ℤ)) → told BendTooFar ≡ (BendTooFar, x)
        → cond b (too_far x) None ≡ option_map told (cond (b && (true && is_some x)) (Some BendTooFar) None)
    only false x told h = refl
    only true None told h = refl
    only true (Some y) told h = ap Some (sym h)
