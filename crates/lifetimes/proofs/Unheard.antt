-- A port on which no channel message came plays no note.
use Rattle.std.proofs.Common.{◌≡◌, ◌∙◌, ℕ, suc, List, [], ◌∷◌, Bool, true, false, cond, ◌&&◌, ◌||◌, nat_eq, Option, Some, None, refl, ap}
use Rattle.std.specs.List.{AllByRecursion}
use Rattle.std.proofs.lemmas.Bool.{eqb-true, eq-eqb, or_right}
use Rattle.mt_base.specs.Midi.{MidiWhat, Says, SysexOf, MetaOf, MidiEvent}
use Rattle.midi_model.specs.Sysex.{Retune, Resets, Nothing, doing, is_reset, tunes, tuning_of}
use Rattle.midi_model.specs.Notes.{sounds}
use Rattle.midi_model.specs.Music.{Music, quiet, play, step, advance}
use Rattle.midi_model.specs.Receiver.{start}
use Rattle.retune_model.specs.Ports.{port_of, ports_after, all_zero, with_event, of_port_from, unnumbered, events_on}
use Rattle.retune_model.specs.SourceFaults.{is_message, has_port, with_port, ports_used}
use Rattle.retune_model.specs.Options.{Options}
use Rattle.retune_model.specs.Faults.{Targets, is_part, any_note}
use Rattle.retune_model.specs.Pairs.{Pair}
use Rattle.mt_base.specs.declared.pair.Part.{Part as PartOf}
use Rattle.receiver.specs.Sounding.{sounding_at}
use Rattle.lifetimes.specs.declared.change.Begun.{Begun}
use Rattle.lifetimes.specs.Told.{music_on, pair_sounds, is_of_pair, sounding_on, told_of}
use Rattle.lifetimes.proofs.NotesKept.{music_all}

-- ---- a port that has had a message

had_before : (z p : ℕ) (b : Bool) (used : List ℕ) → has_port z used ≡ true → has_port z (with_port b p used) ≡ true
had_before z p false used h = h
had_before z p true used h = pick (has_port p used)
  where
    pick : (c : Bool) → has_port z (cond c used (p ∷ used)) ≡ true
    pick true = h
    pick false = or_right (nat_eq p z) (has_port z used) h

has_now : (z : ℕ) (used : List ℕ) → has_port z (with_port true z used) ≡ true
has_now z used = pick (has_port z used) refl
  where
    pick : (c : Bool) → has_port z used ≡ c → has_port z (cond c used (z ∷ used)) ≡ true
    pick true e = e
    pick false e = ap (λ b. b || has_port z used) (eq-eqb z z refl)

still_has : (z : ℕ) (ports : ℕ → ℕ) (used : List ℕ) (es : List MidiEvent) → has_port z used ≡ true → has_port z (ports_used ports used es) ≡ true
still_has z ports used [] h = h
still_has z ports used (e ∷ es) h = still_has z (ports_after ports e) (with_port (is_message e.what) (port_of ports e) used) es
    (had_before z (port_of ports e) (is_message e.what) used h)

-- ---- one that had none

no_message_from : (z : ℕ) (ports : ℕ → ℕ) (k : ℕ) (used : List ℕ) (es : List MidiEvent) → has_port z (ports_used ports used es) ≡ false
    → AllByRecursion (λ e. is_message e.what ≡ false) (unnumbered (of_port_from z ports k es))
no_message_from z ports k used [] h = tt
no_message_from z ports k used (e ∷ es) h =
    pick (nat_eq (port_of ports e) z) (eqb-true (port_of ports e) z)
    (no_message_from z (ports_after ports e) (suc k) (with_port (is_message e.what) (port_of ports e) used) es h)
  where
    silent : (b : Bool) → is_message e.what ≡ b → port_of ports e ≡ z → is_message e.what ≡ false
    silent false is at = is
    silent true is at = absurd
        (let now : has_port z (with_port (is_message e.what) (port_of ports e) used)
        ≡ true = ap (λ b. has_port z (with_port b (port_of ports e) used)) is ∙ ap (λ p. has_port z (with_port true p used)) at
        ∙ has_now z used in
        let later = still_has z (ports_after ports e) (with_port (is_message e.what) (port_of ports e) used) es now in
        two (has_port z (ports_used ports used (e ∷ es))) later h)
      where
        two : (b : Bool) → b ≡ true → b ≡ false → ⊥
        two b x y = cc

    pick : (b : Bool) → (b ≡ true → port_of ports e ≡ z) → AllByRecursion (λ e. is_message e.what
        ≡ false) (unnumbered (of_port_from z (ports_after ports e) (suc k) es))
        → AllByRecursion (λ e. is_message e.what ≡ false) (unnumbered
        (with_event b (record { position = suc k; event = e }) (of_port_from z (ports_after ports e) (suc k) es)))
    pick true at rest = (silent (is_message e.what) refl (at refl), rest)
    pick false at rest = rest

pub no_message : (z : ℕ) (es : List MidiEvent) → has_port z (ports_used all_zero [] es) ≡ false
    → AllByRecursion (λ e. is_message e.what ≡ false) (events_on z es)
no_message z es h = no_message_from z all_zero 0 [] es h

stays_quiet : (e : MidiEvent) → is_message e.what ≡ false → step quiet e ≡ quiet
stays_quiet e h = by_what e.what h
  where
    by_sysex : (a b : Bool) (r : Option Retune) → advance e.tick (cond a (cond b Resets (tunes r)) Nothing) quiet ≡ quiet
    by_sysex false b r = refl
    by_sysex true true r = refl
    by_sysex true false None = refl
    by_sysex true false (Some r) = refl

    by_what : (what : MidiWhat) → is_message what ≡ false → advance e.tick (doing what) quiet ≡ quiet
    by_what (Says msg) h = absurd cc
    by_what (SysexOf lead bytes) h = by_sysex (nat_eq lead 0xf0) (is_reset bytes) (tuning_of bytes)
    by_what (MetaOf kind bytes) h = refl

plays_nothing : (es : List MidiEvent) → AllByRecursion (λ e. is_message e.what ≡ false) es → play quiet es ≡ quiet
plays_nothing [] h = refl
plays_nothing (e ∷ es) h = ap (λ m. play m es) (stays_quiet e h.0) ∙ plays_nothing es h.1

-- its music is as at the start
pub unheard_port : (z : ℕ) (es : List MidiEvent) → has_port z (ports_used all_zero [] es) ≡ false → music_on z es ≡ quiet
unheard_port z es h = music_all start (events_on z es) ∙ plays_nothing (events_on z es) (no_message z es h)

-- and no pair of it sounds or holds
pub silent_pair : (o : Options) (table : Targets) (es : List MidiEvent) (p : Pair) → has_port p.part.port (ports_used all_zero [] es) ≡ false → pair_sounds o table es p ≡ false
silent_pair o table es p h = ap (λ (m : Music). any_note (λ n. (is_part o n.channel && sounds n) && is_of_pair o table p n) m.notes) (unheard_port p.part.port es h)

pub silent_key : (o : Options) (table : Targets) (es : List MidiEvent) (p : PartOf) (k : ℕ) → has_port p.port (ports_used all_zero [] es) ≡ false → sounding_on o table es p k ≡ None
silent_key o table es p k h =
    ap (λ (m : Music). cond (is_part o p.channel) (told_of o table es p k (sounding_at m.notes p.channel k)) None) (unheard_port p.port es h) ∙ either (is_part o p.channel)
  where
    either : (b : Bool) → (let none : Option (Begun × Bool) = None in cond b none none ≡ none)
    either true = refl
    either false = refl
