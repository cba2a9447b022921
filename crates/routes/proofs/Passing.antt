-- A source that is passed on, event by event.
use Rattle.std.proofs.Common.{◌≡◌, ◌<◌, ◌≤◌, ◌^◌, ℕ, zero, suc, List, [], ◌∷◌, ◌++◌, Bool, true, false, cond, not, ◌&&◌, nat_eq, Option, Some, None, length, refl, ap, sym, subst, ◌∙◌, arith, length-append}
use Rattle.std.specs.Prelude.{IfSome}
use Rattle.std.specs.List.{AllByRecursion}
use Rattle.std.specs.Option.{option_map}
use Rattle.std.proofs.lemmas.List.{append_assoc}
use Rattle.mt_base.specs.declared.event.Msg.TheVariants.{NoteOn, NoteOff, KeyPressure, Control, Program, Pressure, Bend}
use Rattle.mt_base.specs.Midi.{MidiWhat, Says, SysexOf, MetaOf, MidiEvent}
use Rattle.mt_base.specs.Valid.{IsValidEvent, IsValidWhat}
use Rattle.midi_model.specs.Sysex.{doing}
use Rattle.midi_model.specs.Writing.{Written}
use Rattle.midi_model.specs.TuningBytes.{change_bytes}
use Rattle.retune_model.specs.Options.{Options}
use Rattle.retune_model.specs.Faults.{Targets, is_part}
use Rattle.retune_model.specs.Ports.{ports_after, ports_from, all_zero, events_on}
use Rattle.retune_model.specs.PortOutput.{kept_for}
use Rattle.retune_model.specs.Blocks as blocks
use Rattle.retune_model.specs.Dump.{has_note_on, dump_if, told_value}
use Rattle.retune_model.specs.Routes.{Told, nothing_told, live_next, live_block}
use Rattle.lifetimes.specs.Told.{port_on}
use Rattle.lifetimes.specs.Noted.{AreNoted}
use Rattle.routes.specs.declared.device.Device.{Device}
use Rattle.routes.specs.declared.kept.Kept.{Kept}
use Rattle.routes.specs.Putting.{IsPut}
use Rattle.routes.specs.Routed.{dump_of, routed, is_live, lives, passed}
use Rattle.routes.specs.Device.{block_events}
use Rattle.routes.specs.Kept.{told_in, key_begun, told_of, due_if}
use Rattle.routes.proofs.Blocks.{Suits, block_same}
use Rattle.routes.proofs.Bytes.{told_fits}
use Rattle.routes.proofs.Channels.{channels_are, some_marked, valid_on}
use Rattle.routes.proofs.Lives.{routed_is_passed}
use Rattle.routes.proofs.Puts.{not_begun}
use Rattle.lifetimes.proofs.Ported.{ports_append}

-- Of all events a front was taken, for which P holds; what it causes was put, and what the rest causes is still to come.
pub record Passing (P : List MidiEvent → Type 0) (o : Options) (table : Targets) (all rest : List MidiEvent) (kept : Kept)
    (old new : List Written) : Type 0 where
  pub front : List MidiEvent
  pub split : all ≡ front ++ rest
  pub stands : P front
  pub put : IsPut old (routed o table all) (passed (is_live o.route) o table all (ports_from all_zero front) (length front) (told_in kept) rest) new

pub begins : (P : List MidiEvent → Type 0) (o : Options) (table : Targets) (all rest : List MidiEvent) (kept : Kept) (old : List Written) → P []
    → rest ≡ all → told_in kept ≡ (λ z. nothing_told)
    → Passing P o table all rest kept old old
begins P o table all rest kept old stands is nothing = record {
  front = [];
  split = sym is;
  stands = stands;
  put = subst (λ l. IsPut old (routed o table all) l old)
      (routed_is_passed o table all
      ∙ ap (λ s. passed (is_live o.route) o table all all_zero 0 s all) (sym nothing)
      ∙ ap (λ es. passed (is_live o.route) o table all all_zero 0 (told_in kept) es) (sym is))
      (not_begun old (routed o table all));
}

-- ---- one event

-- what is kept in mind of the event's port, behind it
abbrev pub next_states : Options → Targets → List MidiEvent → ℕ → (ℕ → Told) → MidiEvent → ℕ → Told
next_states o table all z s e = kept_for z (live_next (lives (is_live o.route) o table (events_on z all)) (s z) (doing e.what)) s

abbrev pub later : Options → Targets → List MidiEvent → List MidiEvent → ℕ → (ℕ → Told) → MidiEvent → List MidiEvent → List MidiEvent
later o table all front z s e rest = passed (is_live o.route) o table all (ports_after (ports_from all_zero front) e) (suc (length front))
    (next_states o table all z s e) rest

-- the event's block comes next
pub block_next : (P : List MidiEvent → Type 0) (o : Options) (table : Targets) (all rest : List MidiEvent) (kept : Kept)
    (old new : List Written) (p : Passing P o table all rest kept old new)
    (e : MidiEvent) (more : List MidiEvent) (z : ℕ) (block : List MidiEvent) → rest ≡ e ∷ more → z ≡ port_on p.front e
    → block ≡ blocks.written (live_block (lives (is_live o.route) o table (events_on z all)) (told_in kept z) e)
    → IsPut old (routed o table all) (block ++ later o table all p.front z (told_in kept) e more) new
block_next P o table all rest kept old new p e more z block is at same =
    let s = told_in kept in
    subst (λ l. IsPut old (routed o table all) l new)
    (ap (λ es. passed (is_live o.route) o table all (ports_from all_zero p.front) (length p.front) s es) is
    ∙ ap (λ y. blocks.written (live_block (lives (is_live o.route) o table (events_on y all)) (s y) e) ++ later o table all p.front y s e more)
    (sym at)
    ∙ ap (λ xs. xs ++ later o table all p.front z s e more) (sym same))
    p.put

-- it was put
pub passes : (P Q : List MidiEvent → Type 0) (o : Options) (table : Targets) (all rest : List MidiEvent) (kept kept2 : Kept)
    (old new new2 : List Written) (p : Passing P o table all rest kept old new)
    (e : MidiEvent) (more : List MidiEvent) (z : ℕ) → rest ≡ e ∷ more → Q (p.front ++ e ∷ []) → told_in kept2
    ≡ next_states o table all z (told_in kept) e
    → IsPut old (routed o table all) (later o table all p.front z (told_in kept) e more) new2
    → Passing Q o table all more kept2 old new2
passes P Q o table all rest kept kept2 old new new2 p e more z is stands states put =
    let count : suc (length p.front) ≡ length (p.front ++ e ∷ []) = omega (arith, length-append p.front (e ∷ [])) in
    record {
      front = p.front ++ e ∷ [];
      split = p.split ∙ ap (λ l. p.front ++ l) is ∙ sym (append_assoc p.front (e ∷ []) more);
      stands = stands;
      put = subst (λ l. IsPut old (routed o table all) l new2)
          (ap (λ ports. passed (is_live o.route) o table all ports (suc (length p.front)) (next_states o table all z (told_in kept) e) more)
          (sym (ports_append all_zero p.front e))
          ∙ ap (λ k. passed (is_live o.route) o table all (ports_from all_zero (p.front ++ e ∷ [])) k
          (next_states o table all z (told_in kept) e) more) count
          ∙ ap (λ s. passed (is_live o.route) o table all (ports_from all_zero (p.front ++ e ∷ [])) (length (p.front ++ e ∷ [])) s more) (sym states))
          put;
    }

-- ---- what the program has of the event

-- keys and values that a message can say
unfoldable IsSayable : Option (ℕ × ℕ) → Type 0
IsSayable told = IfSome told (λ x. x.0 < 128) × IfSome told (λ x. x.1 ≤ 2097150)

note_sayable : (live : Bool) (o : Options) (table : Targets) (c k v : ℕ) (b : Bool) → (live && is_part o c) ≡ b → k ≤ 127
    → IsSayable (told_of live o table (Says (NoteOn c k (suc v))))
unfolding IsSayable
note_sayable live o table c k v true is low = rw is (omega (arith, low), told_fits table k)
note_sayable live o table c k v false is low = rw is (tt, tt)

sayable : (live : Bool) (o : Options) (table : Targets) (w : MidiWhat) → IsValidWhat w → IsSayable (told_of live o table w)
unfolding IsSayable
sayable live o table (Says (NoteOn c k zero)) valid = (tt, tt)
sayable live o table (Says (NoteOn c k (suc v))) valid = note_sayable live o table c k v (live && is_part o c) refl valid.1
sayable live o table (Says (NoteOff c k v)) valid = (tt, tt)
sayable live o table (Says (KeyPressure c k v)) valid = (tt, tt)
sayable live o table (Says (Control c k v)) valid = (tt, tt)
sayable live o table (Says (Program c v)) valid = (tt, tt)
sayable live o table (Says (Pressure c v)) valid = (tt, tt)
sayable live o table (Says (Bend c v)) valid = (tt, tt)
sayable live o table (SysexOf lead bytes) valid = (tt, tt)
sayable live o table (MetaOf kind bytes) valid = (tt, tt)

pub key_sayable : (live : Bool) (o : Options) (table : Targets) (w : MidiWhat) (told : Option (ℕ × ℕ)) → IsValidWhat w → told ≡ told_of live o table w
    → IfSome told (λ x. x.0 < 128)
unfolding IsSayable
key_sayable live o table w told valid is = subst (λ (x : Option (ℕ × ℕ)). IfSome x (λ y. y.0 < 128)) (sym is) (sayable live o table w valid).0

pub value_sayable : (live : Bool) (o : Options) (table : Targets) (w : MidiWhat) (told : Option (ℕ × ℕ)) → IsValidWhat w → told
    ≡ told_of live o table w → IfSome told (λ x. x.1 ≤ 2097150)
unfolding IsSayable
value_sayable live o table w told valid is = subst (λ (x : Option (ℕ × ℕ)). IfSome x (λ y. y.1 ≤ 2097150)) (sym is) (sayable live o table w valid).1

-- the program's setup of a port is that of the port's parts
dumps_are : (live : Bool) (some : Bool) (bytes dump : List ℕ) → (live ≡ false → bytes ≡ dump) → dump_if (not live && some) bytes
    ≡ dump_if (not live && some) dump
dumps_are true some bytes dump is = refl
dumps_are false some bytes dump is = ap (dump_if some) (is refl)

pub device_suits : (d : Device) (mask : ℕ) (o : Options) (table : Targets) (all : List MidiEvent) (z : ℕ) → d.live ≡ is_live o.route
    → (d.live ≡ false → d.dump.items ≡ dump_of o table) → d.program ≡ o.program
    → mask < 2 ^ 16 → AllByRecursion IsValidEvent all → AreNoted o (events_on z all) mask
    → Suits d mask (lives (is_live o.route) o table (events_on z all)).setup
device_suits d mask o table all z live dump program fits valid noted = record {
  dumps = dumps_are d.live (not (nat_eq mask 0)) d.dump.items (dump_of o table) dump
      ∙ ap (λ b. dump_if (not d.live && b) (dump_of o table)) (some_marked o (events_on z all) mask fits (valid_on z all valid) noted)
      ∙ ap (λ b. dump_if (not b && has_note_on (is_part o) (events_on z all)) (dump_of o table)) live;
  channels = channels_are o (events_on z all) mask noted;
  program = program;
}

-- the program's block is that of the event
pub block_is : (d : Device) (mask : ℕ) (o : Options) (table : Targets) (es : List MidiEvent) (s : Told) (e : MidiEvent) (told : Option (ℕ × ℕ))
    → Suits d mask (lives (is_live o.route) o table es).setup → d.program ≡ o.program → told ≡ told_of (is_live o.route) o table e.what
    → block_events d mask s.begun (due_if s.keys told) e ≡ blocks.written (live_block (lives (is_live o.route) o table es) s e)
block_is d mask o table es s e told suits program is =
    ap (λ x. block_events d mask s.begun (due_if s.keys x) e) is
    ∙ block_same d mask (lives (is_live o.route) o table es) s e (told_value table) suits
    (λ k. ap (λ p. change_bytes p k (told_value table k)) (sym program))

-- what the program puts for the event comes next
pub turn : (P : List MidiEvent → Type 0) (o : Options) (table : Targets) (all rest : List MidiEvent) (kept : Kept)
    (old new : List Written) (p : Passing P o table all rest kept old new)
    (e : MidiEvent) (more : List MidiEvent) (d : Device) (mask z : ℕ) (told : Option (ℕ × ℕ)) → rest ≡ e ∷ more → d.live ≡ is_live o.route
    → (d.live ≡ false → d.dump.items ≡ dump_of o table) → d.program ≡ o.program
    → mask < 2 ^ 16 → AllByRecursion IsValidEvent all → AreNoted o (events_on z all) mask → z ≡ port_on p.front e → told
    ≡ told_of (is_live o.route) o table e.what
    → IsPut old (routed o table all) (block_events d mask (told_in kept z).begun (due_if (told_in kept z).keys told) e ++ later o table all p.front z
    (told_in kept) e more) new
turn P o table all rest kept old new p e more d mask z told is live dump program fits valid noted at by =
    block_next P o table all rest kept old new p e more z
    (block_events d mask (told_in kept z).begun (due_if (told_in kept z).keys told) e) is at
    (block_is d mask o table (events_on z all) (told_in kept z) e told
    (device_suits d mask o table all z live dump program fits valid noted) program by)

keys_alone : (f : ℕ → ℕ) (k : Option ℕ) → option_map (λ (x : ℕ × ℕ). x.0) (option_map (λ (j : ℕ). (j, f j)) k) ≡ k
keys_alone f None = refl
keys_alone f (Some k) = refl

pub key_is : (live : Bool) (o : Options) (table : Targets) (w : MidiWhat) (told : Option (ℕ × ℕ)) → told ≡ told_of live o table w
    → option_map (λ (x : ℕ × ℕ). x.0) told ≡ key_begun (λ c. live && is_part o c) w
key_is live o table w told is = ap (option_map (λ (x : ℕ × ℕ). x.0)) is ∙ keys_alone (told_value table) (key_begun (λ c. live && is_part o c) w)

-- a key and value where a change is due
pub due_keeps : (P : ℕ × ℕ → Type 0) (keys : ℕ → Bool) (told : Option (ℕ × ℕ)) → IfSome told P → IfSome (due_if keys told) P
due_keeps P keys None h = tt
due_keeps P keys (Some x) h = pick (keys x.0)
  where
    pick : (b : Bool) → IfSome (cond b None (Some x)) P
    pick true = tt
    pick false = h

pub key_low : (told : Option (ℕ × ℕ)) → IfSome told (λ x. x.0 < 128) → IfSome (option_map (λ (x : ℕ × ℕ). x.0) told) (λ k. k < 128)
key_low None h = tt
key_low (Some x) h = h
