-- Each note on of a retuned part of a source that the octave route takes is of a used key, and of a part that the setup names.
use Rattle.std.proofs.Common.{◌≡◌, ◌≤◌, ◌<◌, ℕ, zero, suc, List, [], ◌∷◌, Bool, true, false, nat_eq, Some, refl, arith}
use Rattle.std.specs.List.{AllByRecursion}
use Rattle.std.specs.Option.{is_some}
use Rattle.std.proofs.lemmas.Bool.{and_from, eq-eqb}
use Rattle.mt_base.specs.declared.event.Msg.{Msg}
use Rattle.mt_base.specs.declared.event.Msg.TheVariants.{NoteOn, NoteOff, KeyPressure, Control, Program, Pressure, Bend}
use Rattle.mt_base.specs.Midi.{MidiWhat, Says, SysexOf, MetaOf, MidiEvent}
use Rattle.mt_base.specs.Valid.{IsValidWhat}
use Rattle.midi_model.specs.Music.{Music, step}
use Rattle.midi_model.specs.MusicLaws.{NotesFade}
use Rattle.midi_model.specs.Order.{AreInOrder}
use Rattle.retune_model.specs.Table.{Bounds}
use Rattle.retune_model.specs.Options.{Options, has_drums, keeps_drums, is_retuned}
use Rattle.retune_model.specs.Faults.{Targets, is_part}
use Rattle.retune_model.specs.Ports.{with_event, of_port_from, unnumbered, events_on, port_of, ports_after, all_zero}
use Rattle.retune_model.specs.Dump.{has_note_on}
use Rattle.retune_model.proofs.Begun.{AllNotes, Begins, BeginsIn, all_step}
use Rattle.retune_model.proofs.Faultless.{IsFineMessage, IsFineEvent}
use Rattle.retune_model.proofs.Served.{Shows, IsKnown, found, unless, still_part}
use Rattle.octave_route.specs.Classes.{is_used}
use Rattle.octave_route.specs.Output.{is_tuned, begins_key}

pub record IsKeyed (o : Options) (table : Targets) (used : ℕ) (es : List MidiEvent) (c k t : ℕ) : Type 0 where
  pub low : k < 128
  pub bounds : Bounds
  pub found : table k t ≡ Some bounds
  pub wanted : is_used used k ≡ true
  pub channel : c ≤ 15
  pub part : is_part o c ≡ true
  pub some : has_note_on (is_part o) es ≡ true
  pub tuned : is_tuned o es c ≡ true

abbrev pub IsKeyedIn : Options → Targets → ℕ → List MidiEvent → ℕ → ℕ → ℕ → Type 0
IsKeyedIn o table used es c k t = is_retuned (keeps_drums o es) c ≡ true → IsKeyed o table used es c k t

-- the keys of what an event begins are in the set
abbrev pub Uses : Options → ℕ → MidiWhat → Type 0
Uses o used w = (key : ℕ) → begins_key (is_part o) key w ≡ true → is_used used key ≡ true

keyed_note_on : (o : Options) (table : Targets) (used : ℕ) (es : List MidiEvent) (m : Music) (c k v t : ℕ)
    → IsFineMessage o table m t (NoteOn c k (suc v)) → c ≤ 15 → k ≤ 127
    → Shows o es (Says (NoteOn c k (suc v))) → Uses o used (Says (NoteOn c k (suc v))) → IsKeyedIn o table used es c k t
keyed_note_on o table used es m c k v t fine channel key shows uses retuned =
    let part : is_part o c ≡ true = still_part o.keep_drums (has_drums es) (nat_eq c 9) shows.drums retuned in
    let bounds = found (table k t) (unless (is_part o c) (is_some (table k t)) fine.mapped part) in
    record {
      low = omega (arith, key);
      bounds = bounds.value;
      found = bounds.is;
      wanted = uses k (and_from (is_part o c) (nat_eq k k) part (eq-eqb k k refl));
      channel = channel;
      part = part;
      some = shows.part part;
      tuned = and_from (is_part o c) (has_note_on (λ d. nat_eq d c) es) part (shows.channel c (eq-eqb c c refl));
    }

begins_message : (o : Options) (table : Targets) (used : ℕ) (es : List MidiEvent) (m : Music) (t : ℕ) (msg : Msg) → IsFineMessage o table m t msg
    → IsValidWhat (Says msg)
    → Shows o es (Says msg) → Uses o used (Says msg) → Begins (IsKeyedIn o table used es) t msg
begins_message o table used es m t (NoteOn c k (suc v)) fine valid shows uses = keyed_note_on o table used es m c k v t fine valid.0 valid.1 shows
    uses
begins_message o table used es m t (NoteOn c k zero) fine valid shows uses = tt
begins_message o table used es m t (NoteOff c k v) fine valid shows uses = tt
begins_message o table used es m t (KeyPressure c k v) fine valid shows uses = tt
begins_message o table used es m t (Control c n v) fine valid shows uses = tt
begins_message o table used es m t (Program c p) fine valid shows uses = tt
begins_message o table used es m t (Pressure c v) fine valid shows uses = tt
begins_message o table used es m t (Bend c v) fine valid shows uses = tt

begins_what : (o : Options) (table : Targets) (used : ℕ) (es : List MidiEvent) (m : Music) (t : ℕ) (w : MidiWhat) → IsFineEvent o table m t w
    → IsValidWhat w
    → Shows o es w → Uses o used w → BeginsIn (IsKeyedIn o table used es) t w
begins_what o table used es m t (Says msg) fine valid shows uses = begins_message o table used es m t msg fine valid shows uses
begins_what o table used es m t (SysexOf lead bs) fine valid shows uses = tt
begins_what o table used es m t (MetaOf kind bs) fine valid shows uses = tt

pub keyed_step : NotesFade → (o : Options) (table : Targets) (used : ℕ) (es : List MidiEvent) (m : Music) (e : MidiEvent)
    → IsFineEvent o table m e.tick e.what → IsKnown o es e → Uses o used e.what
    → AllNotes (IsKeyedIn o table used es) m.notes → AllNotes (IsKeyedIn o table used es) (step m e).notes
keyed_step fade o table used es m e fine known uses h =
    all_step fade (IsKeyedIn o table used es) m e h (begins_what o table used es m e.tick e.what fine known.0.what known.1 uses)

-- ---- the events of a port are some of those of the file, in their order

all_from : (P : MidiEvent → Type 0) (z : ℕ) (ports : ℕ → ℕ) (a : ℕ) (es : List MidiEvent) → AllByRecursion P es
    → AllByRecursion P (unnumbered (of_port_from z ports a es))
all_from P z ports a [] h = tt
all_from P z ports a (e ∷ es) h = pick (nat_eq (port_of ports e) z) (all_from P z (ports_after ports e) (suc a) es h.1)
  where
    pick : (b : Bool) → AllByRecursion P (unnumbered (of_port_from z (ports_after ports e) (suc a) es))
        → AllByRecursion P (unnumbered (with_event b (record { position = suc a; event = e }) (of_port_from z (ports_after ports e) (suc a) es)))
    pick true r = (h.0, r)
    pick false r = r

pub all_on : (P : MidiEvent → Type 0) (z : ℕ) (es : List MidiEvent) → AllByRecursion P es → AllByRecursion P (events_on z es)
all_on P z es h = all_from P z all_zero 0 es h

from_earlier : (s t : ℕ) (es : List MidiEvent) → s ≤ t → AreInOrder t es → AreInOrder s es
from_earlier s t [] l h = tt
from_earlier s t (e ∷ es) l h = (omega (arith, l, h.0), h.1)

order_from : (z : ℕ) (ports : ℕ → ℕ) (a t : ℕ) (es : List MidiEvent) → AreInOrder t es → AreInOrder t (unnumbered (of_port_from z ports a es))
order_from z ports a t [] h = tt
order_from z ports a t (e ∷ es) h = pick (nat_eq (port_of ports e) z) (order_from z (ports_after ports e) (suc a) e.tick es h.1)
  where
    rest : List MidiEvent
    rest = unnumbered (of_port_from z (ports_after ports e) (suc a) es)

    pick : (b : Bool) → AreInOrder e.tick rest → AreInOrder t (unnumbered (with_event b (record { position = suc a; event = e }) (of_port_from z
        (ports_after ports e) (suc a) es)))
    pick true r = (h.0, r)
    pick false r = from_earlier t e.tick rest h.0 r

pub order_on : (z : ℕ) (es : List MidiEvent) → AreInOrder 0 es → AreInOrder 0 (events_on z es)
order_on z es h = order_from z all_zero 0 0 es h
