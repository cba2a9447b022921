-- The dump route's output plays the same; and what can be played comes in the order of ticks.
use Rattle.std.proofs.Common.{◌≡◌, ◌≤◌, ◌<◌, ℕ, List, [], ◌∷◌, Bool, true, false, cond, refl, sym, subst, arith, nat_le, nat_lt}
use Rattle.std.specs.Prelude.{◌==◌}
use Rattle.std.specs.List.{AllByRecursion}
use Rattle.std.proofs.lemmas.Bool.{eqb-true, ltb-true}
use Rattle.mt_base.specs.Midi.{MidiEvent}
use Rattle.midi_model.specs.Merged.{precedes, InOrder}
use Rattle.midi_model.specs.Order.{AreInOrder}
use Rattle.retune_model.specs.Table.{Scaling}
use Rattle.retune_model.specs.Options.{Options}
use Rattle.retune_model.specs.PlaysTheSame.{PlaysTheSameMusic, PlayTheSame, plain_device, KeepsDrums}
use Rattle.retune_model.specs.Faults.{Targets}
use Rattle.retune_model.specs.Dump.{dumped}
use Rattle.retune_model.specs.Dumpable.{IsDumpable}
use Rattle.retune_model.specs.Ports.{events_on}
use Rattle.retune_model.proofs.Laws.{Laws}
use Rattle.retune_model.proofs.OnePort.{dumped as port_dumped, dumpable_port}
use Rattle.retune_model.proofs.PortsApart.{dump_on}
use Rattle.retune_model.proofs.Receivers.{by_events}
use Rattle.retune_model.proofs.DumpSame.{dump_plays_the_same}
use Rattle.retune_model.proofs.Others.{others_kept, drums_kept}

pub dump_drums : (o : Options) (bytes : List ℕ) (es : List MidiEvent) (z : ℕ) → KeepsDrums o (events_on z es) (events_on z (dumped o bytes es))
dump_drums o bytes es z = subst (KeepsDrums o (events_on z es)) (sym (dump_on o bytes es z)) (drums_kept o bytes (events_on z es))

pub dump_music : (laws : Laws) (scaling : Scaling) (o : Options) (table : Targets) (bytes : List ℕ) (es : List MidiEvent) → IsDumpable scaling o table bytes es
    → (z : ℕ) → PlaysTheSameMusic scaling o table (plain_device o) (events_on z es) (events_on z (dumped o bytes es))
dump_music laws scaling o table bytes es d z =
    subst (PlaysTheSameMusic scaling o table (plain_device o) (events_on z es)) (sym (dump_on o bytes es z))
    (by_events scaling o table (events_on z es) (port_dumped o bytes (events_on z es)) (dump_plays_the_same laws scaling o table bytes (events_on z es) (dumpable_port scaling o table bytes es d z)))

pub dump_same : (laws : Laws) (scaling : Scaling) (o : Options) (table : Targets) (bytes : List ℕ) (es : List MidiEvent) → IsDumpable scaling o table bytes es → PlayTheSame scaling o table (plain_device o) es (dumped o bytes es)
dump_same laws scaling o table bytes es d =
    record { music = dump_music laws scaling o table bytes es d; others = others_kept scaling o table bytes es d; drums = dump_drums o bytes es }

not_before : (e f : MidiEvent) → precedes e f ≡ true → e.tick ≤ f.tick
not_before e f h = pick (e.tick == f.tick) refl h
  where
    pick : (b : Bool) → (e.tick == f.tick) ≡ b → cond b (nat_le e.track f.track) (nat_lt e.tick f.tick) ≡ true → e.tick ≤ f.tick
    pick true x k = (let same : e.tick ≡ f.tick = eqb-true e.tick f.tick x in omega (arith, same))
    pick false x k = (let less : e.tick < f.tick = ltb-true e.tick f.tick k in omega (arith, less))

-- from the tick of an event that may stand before all of them
after_event : (x : MidiEvent) (es : List MidiEvent) → AllByRecursion (λ f. precedes x f ≡ true) es → InOrder es → AreInOrder x.tick es
after_event x [] h o = tt
after_event x (e ∷ es) h o = (not_before x e h.0, after_event e es o.0 o.1)

pub ticks_in_order : (es : List MidiEvent) → InOrder es → AreInOrder 0 es
ticks_in_order [] o = tt
ticks_in_order (e ∷ es) o = (omega arith, after_event e es o.0 o.1)
