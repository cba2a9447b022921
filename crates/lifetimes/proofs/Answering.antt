-- What one step answers, by the kind that is due, and by the note that begins.
use Rattle.std.proofs.Common.{◌≡◌, ◌≤◌, ◌∙◌, ◌+◌, ℕ, zero, suc, ℤ, List, [], ◌∷◌, ◌++◌, cond, Bool, true, false, Option, Some, None, is_some, Result, Ok, Err, length, refl, ap, arith}
use Rattle.std.specs.Option.{option_map}
use Rattle.std.specs.Prelude.{OnErr, IsErrAnd}
use Rattle.lifetimes.specs.Causes.{wanting}
use Rattle.lifetimes.specs.declared.fault.StepFault.{StepFault}
use Rattle.lifetimes.specs.declared.port.Strike.{Strike}
use Rattle.mt_base.specs.declared.event.Msg.TheVariants.{NoteOn, NoteOff, KeyPressure, Control, Program, Pressure, Bend}
use Rattle.mt_base.specs.Midi.{MidiWhat, Says, SysexOf, MetaOf, MidiEvent}
use Rattle.midi_model.specs.Order.{AreInOrder}
use Rattle.retune_model.specs.Options.{Options}
use Rattle.retune_model.specs.Ports.{port_of, ports_from, all_zero, port_at, music_at, tick_from}
use Rattle.retune_model.specs.Faults.{Targets, Kind, is_part}
use Rattle.retune_model.specs.Rests.{pairs_at, nobody}
use Rattle.retune_model.specs.SourceFaults.{Fault, placed_at, bend_of, kind_behind, breaks_ports, fault_of, fault_at}
use Rattle.lifetimes.specs.Told.{port_on, due_kind, told_fault, source_of, strike_of, begun_by, begun_of, aim_in, aim_steps as steps_told}
use Rattle.lifetimes.specs.declared.change.Begun.{Begun}
use Rattle.lifetimes.proofs.Prefix.{take_all, drop_all}
use Rattle.lifetimes.proofs.StruckSteps.{aim_steps}

abbrev pub placed : ℕ → MidiEvent → Kind × Option (ℤ × ℤ) → Fault
placed k e x = record { position = k; tick = e.tick; track = e.track; kind = x.0; bend = x.1 }

-- the fault of the last event is the kind that is due, at its place
pub fault_by_due : (o : Options) (table : Targets) (es : List MidiEvent) (e : MidiEvent)
    → fault_at o table (es ++ e ∷ []) (length es)
    ≡ option_map (placed (suc (length es)) e) (due_kind o table (breaks_ports es e) (port_at (es ++ e ∷ []) (port_on es e)) (length es) e)
fault_by_due o table es e =
    ap (fault_of o table (es ++ e ∷ []) (length es)) (drop_all es e)
    ∙ ap at (take_all es e)
    ∙ pick (kind_behind o table (breaks_ports es e) (port_at (es ++ e ∷ []) (port_on es e)) (length es) e)
  where
    bent : ℕ → Kind → Option (ℤ × ℤ)
    bent z kind = bend_of z o (music_at (port_at (es ++ e ∷ []) z).events (suc (length es))) (pairs_at o (is_part o) table (port_at (es ++ e ∷ []) z) (suc (length es))) kind e.what

    at : List MidiEvent → Option Fault
    at ts = placed_at (suc (length es)) e (bent (port_of (ports_from all_zero ts) e))
        (kind_behind o table (breaks_ports ts e) (port_at (es ++ e ∷ []) (port_of (ports_from all_zero ts) e)) (length es) e)

    pick : (x : Option Kind) → placed_at (suc (length es)) e (bent (port_on es e)) x ≡ option_map (placed (suc (length es)) e) (option_map (λ kind. (kind, bent (port_on es e) kind)) x)
    pick None = refl
    pick (Some kind) = refl

-- an event that comes no earlier
pub order_more : (a : ℕ) (es : List MidiEvent) (e : MidiEvent) → AreInOrder a es → tick_from a es (length es) ≤ e.tick → AreInOrder a (es ++ e ∷ [])
order_more a [] e h le = (le, tt)
order_more a (x ∷ es) e h le = (h.0, order_more x.tick es e h.1 le)

-- what is told of the note that begins
pub begun_told : (o : Options) (table : Targets) (z n t : ℕ) (what : MidiWhat) → begun_of z n (strike_of o table t what) ≡ begun_by o table z n t what
begun_told o table z n t (Says (NoteOn c k (suc v))) = pick (is_part o c)
  where
    told : ℤ → Begun
    told q = record { note = n; pair = record { part = record { port = z; channel = c }; steps = q }; key = k; target = aim_in o table k t }

    pick : (b : Bool) → begun_of z n (cond b (Some (record { channel = c; key = k; target = aim_in o table k t })) None) ≡ cond b (Some (told (steps_told o table k t))) None
    pick true = ap (λ q. Some (told q)) (aim_steps o table (record nobody { key = k; onset = t }))
    pick false = refl
begun_told o table z n t (Says (NoteOn c k zero)) = refl
begun_told o table z n t (Says (NoteOff c k v)) = refl
begun_told o table z n t (Says (KeyPressure c k v)) = refl
begun_told o table z n t (Says (Control c k v)) = refl
begun_told o table z n t (Says (Program c p)) = refl
begun_told o table z n t (Says (Pressure c v)) = refl
begun_told o table z n t (Says (Bend c v)) = refl
begun_told o table z n t (SysexOf lead bytes) = refl
begun_told o table z n t (MetaOf kind bytes) = refl

-- the place of a note is told only where one begins
pub same_note : (z n m : ℕ) (strike : Option Strike) → (is_some strike ≡ true → n ≡ m) → begun_of z n strike ≡ begun_of z m strike
same_note z n m None h = refl
same_note z n m (Some s) h = ap (λ k. begun_of z k (Some s)) (h refl)

-- want of memory is no fault of the source
pub no_source : {A : Type 0} (r : Result A StepFault) → IsErrAnd r (λ f. f ≡ wanting) → told_fault r ≡ None
no_source (Ok a) h = absurd h
no_source (Err f) h = ap source_of h

pub on_err : {A : Type 0} (r : Result A StepFault) (P : Type 0) → P → OnErr r P
on_err (Ok a) P p = tt
on_err (Err f) P p = p

pub plus_one : (n : ℕ) → 1 + n ≡ suc n
plus_one n = omega arith
