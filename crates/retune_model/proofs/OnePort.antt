-- What the dump and live routes write on one port, for the events of that port; and what those of a source that they take have.
use Rattle.std.proofs.Common.{◌≡◌, ◌≤◌, ℕ, suc, List, [], ◌∷◌, Bool, true, false, arith, nat_eq}
use Rattle.std.specs.List.{AllByRecursion}
use Rattle.mt_base.specs.Midi.{MidiEvent}
use Rattle.mt_base.specs.Valid.{IsValidEvent}
use Rattle.midi_model.specs.Order.{AreInOrder}
use Rattle.midi_model.specs.Music.{quiet}
use Rattle.retune_model.specs.Table.{Scaling, IsTable, AreFewTerms}
use Rattle.retune_model.specs.Options.{Options, ByDump, ByLive}
use Rattle.retune_model.specs.Ports.{port_of, ports_after, all_zero, with_event, of_port_from, unnumbered, events_on}
use Rattle.retune_model.specs.Faults.{Targets}
use Rattle.retune_model.specs.Routes.{dump_output, live_output}
use Rattle.retune_model.specs.Dump.{IsDumpOf, AreChangesOf, tuning_at, told_value, dump_setup, live_setup}
use Rattle.retune_model.specs.Dumpable as whole
use Rattle.retune_model.proofs.Faultless.{AreFineFrom, port_fine}

abbrev pub dumped : Options → List ℕ → List MidiEvent → List MidiEvent
dumped o bytes es = dump_output (dump_setup o bytes es) es

abbrev pub told_live : Options → (ℕ → List ℕ) → List MidiEvent → List MidiEvent
told_live o change es = live_output (live_setup o change es) es

pub record IsDumpable (scaling : Scaling) (o : Options) (table : Targets) (bytes : List ℕ) (es : List MidiEvent) : Type 0 where
  pub route : o.route ≡ ByDump
  pub valid : AllByRecursion IsValidEvent es
  pub in_order : AreInOrder 0 es
  pub faultless : AreFineFrom o table quiet es
  pub bounds : IsTable scaling table
  pub few_terms : AreFewTerms scaling
  pub one_table : (key onset : ℕ) → table key onset ≡ table key 0
  pub dump : IsDumpOf o.program (tuning_at table) bytes

pub record IsLivable (scaling : Scaling) (o : Options) (table : Targets) (change : ℕ → List ℕ) (es : List MidiEvent) : Type 0 where
  pub route : o.route ≡ ByLive
  pub valid : AllByRecursion IsValidEvent es
  pub in_order : AreInOrder 0 es
  pub faultless : AreFineFrom o table quiet es
  pub bounds : IsTable scaling table
  pub few_terms : AreFewTerms scaling
  pub one_table : (key onset : ℕ) → table key onset ≡ table key 0
  pub changes : AreChangesOf o.program (told_value table) change

-- ---- the events of a port are some of those of the file, in their order
from_earlier : (s t : ℕ) (es : List MidiEvent) → s ≤ t → AreInOrder t es → AreInOrder s es
from_earlier s t [] l h = tt
from_earlier s t (e ∷ es) l h = (omega (arith, l, h.0), h.1)

order_from : (z : ℕ) (ports : ℕ → ℕ) (a t : ℕ) (es : List MidiEvent) → AreInOrder t es → AreInOrder t (unnumbered (of_port_from z ports a es))
order_from z ports a t [] h = tt
order_from z ports a t (e ∷ es) h = pick (nat_eq (port_of ports e) z) (order_from z (ports_after ports e) (suc a) e.tick es h.1)
  where
    pick : (b : Bool) → AreInOrder e.tick (unnumbered (of_port_from z (ports_after ports e) (suc a) es)) → AreInOrder t (unnumbered (with_event b (record { position = suc a; event = e }) (of_port_from z (ports_after ports e) (suc a) es)))
    pick true r = (h.0, r)
    pick false r = from_earlier t e.tick (unnumbered (of_port_from z (ports_after ports e) (suc a) es)) h.0 r

all_from : (P : MidiEvent → Type 0) (z : ℕ) (ports : ℕ → ℕ) (a : ℕ) (es : List MidiEvent) → AllByRecursion P es → AllByRecursion P (unnumbered (of_port_from z ports a es))
all_from P z ports a [] h = tt
all_from P z ports a (e ∷ es) h = pick (nat_eq (port_of ports e) z) (all_from P z (ports_after ports e) (suc a) es h.1)
  where
    pick : (b : Bool) → AllByRecursion P (unnumbered (of_port_from z (ports_after ports e) (suc a) es)) → AllByRecursion P (unnumbered (with_event b (record { position = suc a; event = e }) (of_port_from z (ports_after ports e) (suc a) es)))
    pick true r = (h.0, r)
    pick false r = r

pub dumpable_port : (scaling : Scaling) (o : Options) (table : Targets) (bytes : List ℕ) (es : List MidiEvent) → whole.IsDumpable scaling o table bytes es → (z : ℕ) → IsDumpable scaling o table bytes (events_on z es)
dumpable_port scaling o table bytes es d z = record {
  route = d.route;
  valid = all_from IsValidEvent z all_zero 0 es d.valid;
  in_order = order_from z all_zero 0 0 es d.in_order;
  faultless = port_fine o table es z d.faultless;
  bounds = d.bounds;
  few_terms = d.few_terms;
  one_table = d.one_table;
  dump = d.dump;
}

pub livable_port : (scaling : Scaling) (o : Options) (table : Targets) (change : ℕ → List ℕ) (es : List MidiEvent) → whole.IsLivable scaling o table change es → (z : ℕ) → IsLivable scaling o table change (events_on z es)
livable_port scaling o table change es d z = record {
  route = d.route;
  valid = all_from IsValidEvent z all_zero 0 es d.valid;
  in_order = order_from z all_zero 0 0 es d.in_order;
  faultless = port_fine o table es z d.faultless;
  bounds = d.bounds;
  few_terms = d.few_terms;
  one_table = d.one_table;
  changes = d.changes;
}
