-- What is taken from a list of events, with one event more.
use Rattle.std.proofs.Common.{◌≡◌, ◌∙◌, ℕ, suc, ◌+◌, List, [], ◌∷◌, ◌++◌, Bool, true, false, cond, not, ◌&&◌, ◌||◌, nat_eq, refl, ap, length, arith}
use Rattle.std.proofs.lemmas.Bool.{eq-eqb, ne_eqb}
use Rattle.std.proofs.lemmas.List.{append-nil}
use Rattle.std.proofs.lemmas.List.Elements.{filter-append}
use Rattle.std.proofs.Math.Seq.{take-length}
use Rattle.mt_base.specs.Midi.{MidiEvent}
use Rattle.midi_model.specs.Sysex.{doing}
use Rattle.midi_model.specs.Music.{quiet, play}
use Rattle.midi_model.specs.Receiver.{Receiver, start, receive, receive_all, after}
use Rattle.retune_model.specs.Options.{Options, is_drum_message}
use Rattle.retune_model.specs.Ports.{port_of, ports_after, ports_from, all_zero, with_event, of_port_from, of_port, unnumbered, events_on, music_at, is_reset_at, resets}
use Rattle.retune_model.specs.PortLaws.{MusicAtAPosition}
use Rattle.retune_model.specs.Drums.{without_drums}
use Rattle.lifetimes.specs.Told.{music_on, port_on}
use Rattle.lifetimes.specs.Stands.{heard_on}

-- ---- the events of a port

events_next_from : (z : ℕ) (ports : ℕ → ℕ) (k : ℕ) (es : List MidiEvent) (e : MidiEvent)
    → unnumbered (of_port_from z ports k (es ++ e ∷ [])) ≡ unnumbered (of_port_from z ports k es)
    ++ cond (nat_eq (port_of (ports_from ports es) e) z) (e ∷ []) []
events_next_from z ports k [] e = pick (nat_eq (port_of ports e) z)
  where
    pick : (b : Bool) → unnumbered (with_event b (record { position = suc k; event = e }) []) ≡ cond b (e ∷ []) []
    pick true = refl
    pick false = refl
events_next_from z ports k (x ∷ es) e = pick (nat_eq (port_of ports x) z) (events_next_from z (ports_after ports x) (suc k) es e)
  where
    pick : (b : Bool) → unnumbered (of_port_from z (ports_after ports x) (suc k) (es ++ e ∷ []))
        ≡ unnumbered (of_port_from z (ports_after ports x) (suc k) es)
        ++ cond (nat_eq (port_of (ports_from (ports_after ports x) es) e) z) (e ∷ []) []
        → unnumbered (with_event b (record { position = suc k; event = x }) (of_port_from z (ports_after ports x) (suc k) (es ++ e ∷ [])))
        ≡ unnumbered (with_event b (record { position = suc k; event = x }) (of_port_from z (ports_after ports x) (suc k) es))
        ++ cond (nat_eq (port_of (ports_from (ports_after ports x) es) e) z) (e ∷ []) []
    pick true h = ap (λ l. x ∷ l) h
    pick false h = h

-- an event of the port comes behind its others
pub events_next : (z : ℕ) (es : List MidiEvent) (e : MidiEvent) → port_on es e ≡ z → events_on z (es ++ e ∷ []) ≡ events_on z es ++ e ∷ []
events_next z es e is = events_next_from z all_zero 0 es e ∙ ap (λ b. events_on z es ++ cond b (e ∷ []) []) (eq-eqb (port_on es e) z is)

-- one of another port changes nothing
pub events_same : (z : ℕ) (es : List MidiEvent) (e : MidiEvent) → (port_on es e ≡ z → ⊥) → events_on z (es ++ e ∷ []) ≡ events_on z es
events_same z es e other =
    events_next_from z all_zero 0 es e
    ∙ (ap (λ b. events_on z es ++ cond b (e ∷ []) []) (ne_eqb (port_on es e) z other) ∙ append-nil (events_on z es))

-- ---- what its receiver hears

pub drumless_next : (es : List MidiEvent) (e : MidiEvent)
    → without_drums (es ++ e ∷ []) ≡ without_drums es ++ cond (not (is_drum_message e.what)) (e ∷ []) []
drumless_next es e = filter-append (λ (x : MidiEvent). not (is_drum_message x.what)) es (e ∷ [])

pub heard_next : (o : Options) (z : ℕ) (es : List MidiEvent) (e : MidiEvent) → port_on es e ≡ z → (o.keep_drums && is_drum_message e.what) ≡ false
    → heard_on o z (es ++ e ∷ []) ≡ heard_on o z es ++ e ∷ []
heard_next o z es e is told =
    ap (λ l. cond o.keep_drums (without_drums l) l) (events_next z es e is)
    ∙ pick o.keep_drums (is_drum_message e.what) told (drumless_next (events_on z es) e)
  where
    pick : (b d : Bool) → (b && d) ≡ false → without_drums (events_on z es ++ e ∷ []) ≡ without_drums (events_on z es) ++ cond (not d) (e ∷ []) []
        → cond b (without_drums (events_on z es ++ e ∷ [])) (events_on z es ++ e ∷ [])
        ≡ cond b (without_drums (events_on z es)) (events_on z es) ++ e ∷ []
    pick false d k h = refl
    pick true false k h = h
    pick true true k h = absurd cc

-- a message of kept drums it doesn't hear
pub heard_past : (o : Options) (z : ℕ) (es : List MidiEvent) (e : MidiEvent) → port_on es e ≡ z → (o.keep_drums && is_drum_message e.what) ≡ true
    → heard_on o z (es ++ e ∷ []) ≡ heard_on o z es
heard_past o z es e is kept =
    ap (λ l. cond o.keep_drums (without_drums l) l) (events_next z es e is)
    ∙ pick o.keep_drums (is_drum_message e.what) kept (drumless_next (events_on z es) e)
  where
    pick : (b d : Bool) → (b && d) ≡ true → without_drums (events_on z es ++ e ∷ []) ≡ without_drums (events_on z es) ++ cond (not d) (e ∷ []) []
        → cond b (without_drums (events_on z es ++ e ∷ [])) (events_on z es ++ e ∷ []) ≡ cond b (without_drums (events_on z es)) (events_on z es)
    pick false d kept h = absurd cc
    pick true false kept h = absurd cc
    pick true true kept h = h ∙ append-nil (without_drums (events_on z es))

pub heard_same : (o : Options) (z : ℕ) (es : List MidiEvent) (e : MidiEvent) → (port_on es e ≡ z → ⊥) → heard_on o z (es ++ e ∷ []) ≡ heard_on o z es
heard_same o z es e other = ap (λ l. cond o.keep_drums (without_drums l) l) (events_same z es e other)

-- ---- the receiver

received_next : (r : Receiver) (es : List MidiEvent) (e : MidiEvent) → receive_all r (es ++ e ∷ []) ≡ receive (receive_all r es) e
received_next r [] e = refl
received_next r (x ∷ es) e = received_next (receive r x) es e

pub after_next : (es : List MidiEvent) (e : MidiEvent) → after (es ++ e ∷ []) ≡ receive (after es) e
after_next es e = received_next start es e

played_all : (r : Receiver) (es : List MidiEvent) → play r.music es ≡ (receive_all r es).music
played_all r [] = refl
played_all r (e ∷ es) = played_all (receive r e) es

-- ---- at the last position
pub music_there : MusicAtAPosition → (z : ℕ) (es : List MidiEvent) → music_at (of_port z es) (length es) ≡ music_on z es
music_there law z es = law z es (length es) ∙ (ap (λ l. play quiet (events_on z l)) (take-length es) ∙ played_all start (events_on z es))

reset_last_from : (z : ℕ) (ports : ℕ → ℕ) (k : ℕ) (es : List MidiEvent) (e : MidiEvent) (j : ℕ) → j ≡ suc (length es + k)
    → is_reset_at (of_port_from z ports k (es ++ e ∷ [])) j ≡ (nat_eq (port_of (ports_from ports es) e) z && resets (doing e.what))
reset_last_from z ports k [] e j is = pick (nat_eq (port_of ports e) z) (resets (doing e.what)) (eq-eqb (suc k) j (omega (arith, is)))
  where
    pick : (b r : Bool) → nat_eq (suc k) j ≡ true → is_reset_at (with_event b (record { position = suc k; event = e }) []) j
        ≡ (b && resets (doing e.what))
    pick true r h = ap (λ d. (d && resets (doing e.what)) || false) h ∙ or_none (resets (doing e.what))
      where
        or_none : (b : Bool) → (b || false) ≡ b
        or_none true = refl
        or_none false = refl
    pick false r h = refl
reset_last_from z ports k (x ∷ es) e j is = pick (nat_eq (port_of ports x) z) (ne_eqb (suc k) j (λ s. omega (arith, is, s)))
    (reset_last_from z (ports_after ports x) (suc k) es e j (omega (arith, is)))
  where
    pick : (b : Bool) → nat_eq (suc k) j ≡ false → is_reset_at (of_port_from z (ports_after ports x) (suc k) (es ++ e ∷ [])) j
        ≡ (nat_eq (port_of (ports_from (ports_after ports x) es) e) z && resets (doing e.what))
        → is_reset_at (with_event b (record { position = suc k; event = x }) (of_port_from z (ports_after ports x) (suc k) (es ++ e ∷ []))) j
        ≡ (nat_eq (port_of (ports_from (ports_after ports x) es) e) z && resets (doing e.what))
    pick true g h = ap (λ c. (c && resets (doing x.what)) || is_reset_at (of_port_from z (ports_after ports x) (suc k) (es ++ e ∷ [])) j) g ∙ h
    pick false g h = h

pub reset_last : (z : ℕ) (es : List MidiEvent) (e : MidiEvent)
    → is_reset_at (of_port z (es ++ e ∷ [])) (suc (length es)) ≡ (nat_eq (port_on es e) z && resets (doing e.what))
reset_last z es e = reset_last_from z all_zero 0 es e (suc (length es)) (omega arith)

-- ---- the length

pub longer : (es : List MidiEvent) (e : MidiEvent) → length (es ++ e ∷ []) ≡ suc (length es)
longer [] e = refl
longer (x ∷ es) e = ap suc (longer es e)
