-- Whether a channel message is of a fifth port, and what its kinds are then.
use Rattle.std.proofs.Common.{◌≡◌, ◌≤◌, ◌<◌, ◌∙◌, ◌+◌, ℕ, zero, suc, List, [], ◌∷◌, ◌++◌, Bool, true, false, cond, not, ◌&&◌, ◌||◌, Option, Some, None, is_some, ℤ, nat_lt, length, refl, sym, ap, nat_eq, nat_le, arith, reverse, take, drop}
use Rattle.std.specs.Option.{option_map, option_or}
use Rattle.std.proofs.lemmas.Bool.{le-leb, lt-leb}
use Rattle.std.proofs.lemmas.List.{length-reverse}
use Rattle.mt_base.specs.declared.event.Msg.{Msg}
use Rattle.mt_base.specs.declared.event.Msg.TheVariants.{NoteOn, NoteOff, KeyPressure, Control, Program, Pressure, Bend}
use Rattle.mt_base.specs.Midi.{MidiWhat, MidiEvent, Says, channel_of}
use Rattle.midi_model.specs.Channel.{counted}
use Rattle.midi_model.specs.Music.{Music, channel_at}
use Rattle.retune_model.specs.Options.{Options, bends_notes}
use Rattle.retune_model.specs.Ports.{PortEvents, named_port, ports_from, all_zero, music_at, port_at}
use Rattle.retune_model.specs.Faults.{Targets, Kind, UnmappedKey, KeyOutOfDevice, Unison, BendTooFar, ModeMessage, DataStep, TuningInSource, MpeSource, Port, TooManyParameters, PolyInMpe, Restrike, is_part, first_that, is_unmapped, is_out_of_device, is_unison, is_restrike, is_bend, is_mode, is_data_step, is_tuning_entry, is_zone_entry, is_poly}
use Rattle.retune_model.specs.Pairs.{Pair}
use Rattle.retune_model.specs.Rests.{pairs_at}
use Rattle.retune_model.specs.SourceFaults.{names_another, has_started, is_message, has_port, ports_used, breaks_ports, message_tests, kind_in, bend_of, beyond_after}
use Rattle.lifetimes.specs.Told.{port_on, due_kind}
use Rattle.lifetimes.specs.Due.{early_due, tests_of}
use Rattle.lifetimes.specs.Stands.{place_from}
use Rattle.lifetimes.proofs.Places.{place_le, nowhere, has_reverse}

-- ---- whether there is a place for its port

two : (b : Bool) → b ≡ true → b ≡ false → ⊥
two b x y = cc

length_used : (numbers used : List ℕ) → numbers ≡ reverse used → length numbers ≡ length used
length_used numbers used same = ap length same ∙ length-reverse used

has_used : (z : ℕ) (numbers used : List ℕ) → numbers ≡ reverse used → has_port z used ≡ has_port z numbers
has_used z numbers used same = sym (has_reverse z used) ∙ ap (has_port z) (sym same)

-- none that is listed is behind them all
behind_them : (i z : ℕ) (ns : List ℕ) → has_port z ns ≡ false → place_from i z ns ≡ i + length ns
behind_them i z [] h = omega arith
behind_them i z (n ∷ ns) h = pick (nat_eq n z) h (behind_them (suc i) z ns)
  where
    pick : (b : Bool) → (b || has_port z ns) ≡ false → (has_port z ns ≡ false → place_from (suc i) z ns ≡ suc i + length ns)
        → cond b i (place_from (suc i) z ns) ≡ i + suc (length ns)
    pick true e later = absurd cc
    pick false e later = (let l = later e in omega (arith, l))

-- where one of the four is free or the port's own, it isn't
pub fits : (z : ℕ) (numbers used : List ℕ) → numbers ≡ reverse used → place_from 0 z numbers < 4 → (not (has_port z used) && nat_le 4 (length used)) ≡ false
fits z numbers used same low = pick (has_port z used) refl
  where
    pick : (b : Bool) → has_port z used ≡ b → (not b && nat_le 4 (length used)) ≡ false
    pick true h = refl
    pick false h =
        let n : length numbers ≡ length used = length_used numbers used same in
        let s : place_from 0 z numbers ≡ 0 + length numbers = behind_them 0 z numbers (sym (has_used z numbers used same) ∙ h) in
        lt-leb 4 (length used) (omega (arith, n, s, low))

-- where all four are others', it is
pub full : (z : ℕ) (numbers used : List ℕ) → numbers ≡ reverse used → 4 ≤ place_from 0 z numbers → length numbers ≤ 4 → (not (has_port z used) && nat_le 4 (length used)) ≡ true
full z numbers used same high few =
    let le = place_le 0 z numbers in
    let all : place_from 0 z numbers ≡ 0 + length numbers = omega (arith, le, high, few) in
    let n = length_used numbers used same in
    ap (λ b. not b && nat_le 4 (length used)) (has_used z numbers used same ∙ nowhere 0 z numbers all)
    ∙ le-leb 4 (length used) (omega (arith, n, le, high, few))

-- of a message no other rule of ports speaks
pub of_message : (es : List MidiEvent) (e : MidiEvent) (msg : Msg) (z : ℕ) → e.what ≡ Says msg → port_on es e ≡ z
    → breaks_ports es e ≡ (not (has_port z (ports_used all_zero [] es)) && nat_le 4 (length (ports_used all_zero [] es)))
of_message es e msg z is here =
    let used : List ℕ = ports_used all_zero [] es in
    ap (λ w. (names_another (named_port w) (ports_from all_zero es e.track) && has_started e.track es) || (is_message w && (not (has_port (port_on es e) used) && nat_le 4 (length used)))) is
    ∙ ap (λ p. not (has_port p used) && nat_le 4 (length used)) here

-- ---- its kinds

and_false : (b : Bool) → (b && false) ≡ false
and_false true = refl
and_false false = refl

-- a test that asks for a retuned part, behind another
guarded : (a b c : Bool) → b ≡ false → (a && (b && c)) ≡ false
guarded a b c h = ap (λ x. a && (x && c)) h ∙ and_false a

asked : (b c : Bool) → b ≡ false → (b && c) ≡ false
asked b c h = ap (λ x. x && c) h

module _ (o : Options) (table : Targets) (m : Music) (t : ℕ) where
  no_unmapped : (msg : Msg) → is_part o (channel_of msg) ≡ false → is_unmapped o table t msg ≡ false
  no_unmapped (NoteOn c k (suc v)) h = asked (is_part o c) _ h
  no_unmapped (NoteOn c k zero) h = refl
  no_unmapped (NoteOff c k v) h = refl
  no_unmapped (KeyPressure c k v) h = refl
  no_unmapped (Control c n v) h = refl
  no_unmapped (Program c p) h = refl
  no_unmapped (Pressure c v) h = refl
  no_unmapped (Bend c v) h = refl

  no_out : (msg : Msg) → is_part o (channel_of msg) ≡ false → is_out_of_device o table t msg ≡ false
  no_out (NoteOn c k (suc v)) h = asked (is_part o c) _ h
  no_out (NoteOn c k zero) h = refl
  no_out (NoteOff c k v) h = refl
  no_out (KeyPressure c k v) h = refl
  no_out (Control c n v) h = refl
  no_out (Program c p) h = refl
  no_out (Pressure c v) h = refl
  no_out (Bend c v) h = refl

  no_unison : (msg : Msg) → is_part o (channel_of msg) ≡ false → is_unison o table m t msg ≡ false
  no_unison (NoteOn c k (suc v)) h = guarded (bends_notes o.route) (is_part o c) _ h
  no_unison (NoteOn c k zero) h = refl
  no_unison (NoteOff c k v) h = refl
  no_unison (KeyPressure c k v) h = refl
  no_unison (Control c n v) h = refl
  no_unison (Program c p) h = refl
  no_unison (Pressure c v) h = refl
  no_unison (Bend c v) h = refl

  no_restrike : (msg : Msg) → is_part o (channel_of msg) ≡ false → is_restrike o table m t msg ≡ false
  no_restrike (NoteOn c k (suc v)) h = guarded (bends_notes o.route) (is_part o c) _ h
  no_restrike (NoteOn c k zero) h = refl
  no_restrike (NoteOff c k v) h = refl
  no_restrike (KeyPressure c k v) h = refl
  no_restrike (Control c n v) h = refl
  no_restrike (Program c p) h = refl
  no_restrike (Pressure c v) h = refl
  no_restrike (Bend c v) h = refl

  -- modes, steps of data, and data entry of tunings and zones
  no_control : (f : Msg → Bool) → ((c n v : ℕ) → is_part o c ≡ false → f (Control c n v) ≡ false) → ((c k v : ℕ) → f (NoteOn c k v) ≡ false) → ((c k v : ℕ) → f (NoteOff c k v) ≡ false)
      → ((c k v : ℕ) → f (KeyPressure c k v) ≡ false) → ((c p : ℕ) → f (Program c p) ≡ false) → ((c v : ℕ) → f (Pressure c v) ≡ false) → ((c v : ℕ) → f (Bend c v) ≡ false)
      → (msg : Msg) → is_part o (channel_of msg) ≡ false → f msg ≡ false
  no_control f control on off key program pressure bend (Control c n v) h = control c n v h
  no_control f control on off key program pressure bend (NoteOn c k v) h = on c k v
  no_control f control on off key program pressure bend (NoteOff c k v) h = off c k v
  no_control f control on off key program pressure bend (KeyPressure c k v) h = key c k v
  no_control f control on off key program pressure bend (Program c p) h = program c p
  no_control f control on off key program pressure bend (Pressure c v) h = pressure c v
  no_control f control on off key program pressure bend (Bend c v) h = bend c v

  no_poly : (msg : Msg) → is_part o (channel_of msg) ≡ false → is_poly o msg ≡ false
  no_poly (KeyPressure c k v) h = rw h (and_false _)
  no_poly (NoteOn c k v) h = refl
  no_poly (NoteOff c k v) h = refl
  no_poly (Control c n v) h = refl
  no_poly (Program c p) h = refl
  no_poly (Pressure c v) h = refl
  no_poly (Bend c v) h = refl

-- where no test holds but that of ports
only_ports : (a b c d e f g h breaks i j k : Bool) → a ≡ false → b ≡ false → c ≡ false → d ≡ false → e ≡ false → f ≡ false → g ≡ false → h ≡ false → i ≡ false → j ≡ false → k ≡ false
    → first_that ((UnmappedKey, a) ∷ (KeyOutOfDevice, b) ∷ (Unison, c) ∷ (BendTooFar, d) ∷ (ModeMessage, e) ∷ (DataStep, f) ∷ (TuningInSource, g) ∷ (MpeSource, h)
    ∷ (Port, breaks) ∷ (TooManyParameters, i) ∷ (PolyInMpe, j) ∷ (Restrike, k) ∷ [])
    ≡ cond breaks (Some Port) None
only_ports a b c d e f g h breaks i j k oa ob oc od oe of og oh oi oj ok = rw (oa, ob, oc, od, oe, of, og, oh, oi, oj, ok) refl

-- kept drums have no fault but that
drum_tests : (z : ℕ) (o : Options) (table : Targets) (t : ℕ) (m after : Music) (breaks : Bool) (pairs : List Pair) (msg : Msg) → is_part o (channel_of msg) ≡ false
    → first_that (message_tests z o table t m after breaks pairs msg) ≡ cond breaks (Some Port) None
drum_tests z o table t m after breaks pairs msg none =
    only_ports _ _ _ _ _ _ _ _ breaks _ _ _
    (no_unmapped o table m t msg none)
    (no_out o table m t msg none)
    (no_unison o table m t msg none)
    (guarded (is_bend o.route) (is_part o (channel_of msg)) (is_some (beyond_after z o after pairs msg)) none)
    (no_control o table m t (is_mode o) (λ c n v. asked (is_part o c) _) (λ c k v. refl) (λ c k v. refl) (λ c k v. refl) (λ c p. refl) (λ c v. refl) (λ c v. refl) msg none)
    (no_control o table m t (is_data_step o) (λ c n v. asked (is_part o c) _) (λ c k v. refl) (λ c k v. refl) (λ c k v. refl) (λ c p. refl) (λ c v. refl) (λ c v. refl) msg none)
    (no_control o table m t (is_tuning_entry o m) (λ c n v. asked (is_part o c) _) (λ c k v. refl) (λ c k v. refl) (λ c k v. refl) (λ c p. refl) (λ c v. refl) (λ c v. refl) msg none)
    (no_control o table m t (is_zone_entry o m) (λ c n v. asked (is_part o c) _) (λ c k v. refl) (λ c k v. refl) (λ c k v. refl) (λ c p. refl) (λ c v. refl) (λ c v. refl) msg none)
    (asked (is_part o (channel_of msg)) (nat_lt 16 (counted (channel_at after (channel_of msg)))) none)
    (no_poly o table m t msg none)
    (no_restrike o table m t msg none)

pub drum_due : (o : Options) (table : Targets) (breaks : Bool) (port : PortEvents) (k : ℕ) (e : MidiEvent) (msg : Msg) → e.what ≡ Says msg → is_part o (channel_of msg) ≡ false
    → due_kind o table breaks port k e ≡ cond breaks (Some (Port, None)) None
drum_due o table breaks port k e msg is none =
    let m = music_at port.events k in
    ap (λ w. option_map (kept w) (kind_in port.number o table e.tick m after breaks pairs w)) is
    ∙ ap (option_map (kept (Says msg))) (drum_tests port.number o table e.tick m after breaks pairs msg none)
    ∙ pick breaks
  where
    after : Music
    after = music_at port.events (suc k)

    pairs : List Pair
    pairs = pairs_at o (is_part o) table port (suc k)

    kept : MidiWhat → Kind → Kind × Option (ℤ × ℤ)
    kept w kind = (kind, bend_of port.number o after pairs kind w)

    pick : (b : Bool) → option_map (kept (Says msg)) (cond b (Some Port) None) ≡ cond b (Some (Port, None)) None
    pick true = refl
    pick false = refl

first_append : (xs ys : List (Kind × Bool)) → first_that (xs ++ ys) ≡ option_or (first_that xs) (first_that ys)
first_append [] ys = refl
first_append (x ∷ xs) ys = ap (cond x.1 (Some x.0)) (first_append xs ys) ∙ pick x.1
  where
    pick : (b : Bool) → cond b (Some x.0) (option_or (first_that xs) (first_that ys)) ≡ option_or (cond b (Some x.0) (first_that xs)) (first_that ys)
    pick true = refl
    pick false = refl

-- of a fifth port's the kinds before that of ports come first
pub fifth_due : (o : Options) (table : Targets) (es : List MidiEvent) (e : MidiEvent) (z : ℕ) (msg : Msg) → e.what ≡ Says msg
    → due_kind o table true (port_at (es ++ e ∷ []) z) (length es) e ≡ option_or (early_due o table es e z msg) (Some (Port, None))
fifth_due o table es e z msg is =
    ap (λ w. option_map (kept w) (kind_in z o table e.tick m after true pairs w)) is
    ∙ ap (option_map (kept (Says msg))) (first_append (take 8 (message_tests z o table e.tick m after false pairs msg)) (drop 8 (message_tests z o table e.tick m after true pairs msg)))
    ∙ pick (first_that (take 8 (message_tests z o table e.tick m after false pairs msg)))
    ∙ ap (λ w. option_or (option_map (kept w) (first_that (take 8 (tests_of o table es e z msg)))) (Some (Port, None))) (sym is)
  where
    port : PortEvents
    port = port_at (es ++ e ∷ []) z

    m : Music
    m = music_at port.events (length es)

    after : Music
    after = music_at port.events (suc (length es))

    pairs : List Pair
    pairs = pairs_at o (is_part o) table port (suc (length es))

    kept : MidiWhat → Kind → Kind × Option (ℤ × ℤ)
    kept w kind = (kind, bend_of z o after pairs kind w)

    pick : (x : Option Kind) → option_map (kept (Says msg)) (option_or x (Some Port)) ≡ option_or (option_map (kept (Says msg)) x) (Some (Port, None))
    pick (Some k) = refl
    pick None = refl
