-- A channel's state stays well formed.
use Rattle.std.proofs.Common.{◌≡◌, ℕ, zero, suc, ◌≤◌, List, [], ◌∷◌, Bool, true, false, cond, ◌&&◌, nat_eq, nat_lt, refl, ap, sym, ◌∙◌, arith, length, set, get_or, replicate}
use Rattle.std.proofs.lemmas.Bool.{cond_both, false≢true}
use Rattle.std.proofs.lemmas.List.{length-set, get_or-set_other}
use Rattle.mt_base.specs.declared.event.Msg.{Msg}
use Rattle.mt_base.specs.declared.event.Msg.TheVariants.{NoteOn, NoteOff, KeyPressure, Control, Program, Pressure, Bend}
use Rattle.mt_base.specs.Valid.{IsValidMsg}
use Rattle.midi_model.specs.Params.{Parameter, Entry, rank, pair_eq, default_value, value_of, with_front, put, IsCanonical}
use Rattle.midi_model.specs.ParameterLaws.{IsSmall}
use Rattle.midi_model.specs.Channel.{default_state, State, Selection, Voice, Role, Stored, EntryHigh, EntryLow, NrpnLow, NrpnHigh, RpnLow, RpnHigh, AllSoundOff, ResetControllers, AllNotesOff, Ignored, Target, Nowhere, TuningProgram, ZoneSize, Value, role, target_in, target, with_high, with_low, reset_controls, controlled, reset_keys, apply_state, nothing_selected, default_controls}
use Rattle.midi_model.specs.WellFormed.{is_kept, is_stored, is_value, is_settable, IsEntered, AreEntered, IsWellFormed}
use Rattle.state_laws.proofs.Laws.{Laws}

-- ---- parameters

abbrev pub Bytes : ℕ × ℕ → Type 0
Bytes v = (v.0 ≤ 127) × (v.1 ≤ 127)

default_bytes : (a b : Bool) → Bytes (cond a (2, 0) (cond b (0, 64) (64, 0)))
default_bytes true b = (omega arith, omega arith)
default_bytes false true = (omega arith, omega arith)
default_bytes false false = (omega arith, omega arith)

pub value_bytes : (es : List Entry) (p : Parameter) → AreEntered es → Bytes (value_of es p)
value_bytes [] p h = default_bytes (nat_eq (rank p) 0) (nat_eq (rank p) 5)
value_bytes (e ∷ es) p h =
    cond_both (nat_eq (rank e.parameter) (rank p)) e.value (value_of es p) Bytes (λ _. (h.0.high, h.0.low)) (λ _. value_bytes es p h.1)

pub entered_front : (p : Parameter) (v : ℕ × ℕ) (es : List Entry)
    → (let e : Entry = record { parameter = p; value = v } in IsEntered e) → AreEntered es → AreEntered (with_front p v es)
entered_front p v es e h = cond_both (pair_eq v (default_value p)) es (record { parameter = p; value = v } ∷ es) AreEntered (λ _. h) (λ _. (e, h))

pub entered_put : (p : Parameter) (v : ℕ × ℕ) (es : List Entry)
    → (let e : Entry = record { parameter = p; value = v } in IsEntered e) → AreEntered es → AreEntered (put p v es)
entered_put p v [] e h = entered_front p v [] e tt
entered_put p v (x ∷ es) e h =
    let r : Bool = nat_eq (rank x.parameter) (rank p) in
    let rest : AreEntered (cond r es (x ∷ es)) = cond_both r es (x ∷ es) AreEntered (λ _. h.1) (λ _. h) in
    cond_both (nat_lt (rank x.parameter) (rank p)) (x ∷ put p v es) (with_front p v (cond r es (x ∷ es))) AreEntered
    (λ _. (h.0, entered_put p v es e h.1))
    (λ _. entered_front p v (cond r es (x ∷ es)) e rest)

-- a parameter that data entry gives a value is one in bytes of seven bits
abbrev pub Fits : Target → Type 0
Fits (Value p) = IsSmall p × (is_settable p ≡ true)
Fits _ = Unit {0}

-- the target by its three tests
abbrev pub target_by : Parameter → Bool → Bool → Bool → Target
target_by p r s t = cond r Nowhere (cond s TuningProgram (cond t ZoneSize (Value p)))

fits_by : (p : Parameter) (r s t : Bool) → IsSmall p → is_settable p ≡ is_value (target_by p r s t) → Fits (target_by p r s t)
fits_by p true s t h e = tt
fits_by p false true t h e = tt
fits_by p false false true h e = tt
fits_by p false false false h e = (h, e)

fits_in : (b : Bool) (x : ℕ × ℕ) → Bytes x → Fits (target_in b x)
fits_in b x h =
    fits_by (record { registered = b; high = x.0; low = x.1 }) (pair_eq x (127, 127)) (b && pair_eq x (0, 3)) (b && pair_eq x (0, 6)) (record { high = omega (arith, h.0); low = omega (arith, h.1) }) refl

abbrev pub Selected : Selection → Type 0
Selected s = Bytes s.rpn × Bytes s.nrpn

pub fits : (s : Selection) → Selected s → Fits (target s)
fits s h = cond_both s.registered (target_in true s.rpn) (target_in false s.nrpn) Fits (λ _. fits_in true s.rpn h.0) (λ _. fits_in false s.nrpn h.1)

abbrev pub Good : List Entry → Type 0
Good es = IsCanonical es × AreEntered es

good_high : Laws → (v : ℕ) (t : Target) (es : List Entry) → Fits t → v ≤ 127 → Good es → Good (with_high v t es)
good_high l v (Value p) es f h g =
    (l.form p (v, (value_of es p).1) es g.0, entered_put p (v, (value_of es p).1) es (record { small = f.0; settable = f.1; high = h; low = (value_bytes es p g.1).1 }) g.1)
good_high l v Nowhere es f h g = g
good_high l v TuningProgram es f h g = g
good_high l v ZoneSize es f h g = g

good_low : Laws → (v : ℕ) (t : Target) (es : List Entry) → Fits t → v ≤ 127 → Good es → Good (with_low v t es)
good_low l v (Value p) es f h g =
    (l.form p ((value_of es p).0, v) es g.0, entered_put p ((value_of es p).0, v) es (record { small = f.0; settable = f.1; high = (value_bytes es p g.1).0; low = h }) g.1)
good_low l v Nowhere es f h g = g
good_low l v TuningProgram es f h g = g
good_low l v ZoneSize es f h g = g

-- ---- lists of bytes

pub bytes_set : (xs : List ℕ) (i v : ℕ) → ((k : ℕ) → get_or xs k 0 ≤ 127) → v ≤ 127 → (k : ℕ) → get_or (set xs i v) k 0 ≤ 127
bytes_set [] i v h w k = h k
bytes_set (x ∷ xs) zero v h w zero = w
bytes_set (x ∷ xs) zero v h w (suc k) = h (suc k)
bytes_set (x ∷ xs) (suc i) v h w zero = h zero
bytes_set (x ∷ xs) (suc i) v h w (suc k) = bytes_set xs i v (λ j. h (suc j)) w k

pub zeros : (m k : ℕ) → (let z : ℕ = 0 in get_or (replicate m z) k z ≡ z)
zeros zero k = refl
zeros (suc m) zero = refl
zeros (suc m) (suc k) = zeros m k

pub record Controls (xs : List ℕ) : Type 0 where
  length : length xs ≡ 120
  unstored : (n : ℕ) → is_stored n ≡ false → get_or xs n 0 ≡ 0
  bytes : (n : ℕ) → get_or xs n 0 ≤ 127

pub unstored_set : (xs : List ℕ) (i v : ℕ) → is_stored i ≡ true → ((n : ℕ) → is_stored n ≡ false → get_or xs n 0 ≡ 0)
    → (n : ℕ) → is_stored n ≡ false → get_or (set xs i v) n 0 ≡ 0
unstored_set xs i v s h n u = get_or-set_other xs i n v 0 (λ e. false≢true (sym u ∙ ap is_stored e ∙ s)) ∙ h n u

controls_set : (xs : List ℕ) (i v : ℕ) → is_stored i ≡ true → v ≤ 127 → Controls xs → Controls (set xs i v)
controls_set xs i v s w h = record {
  length = length-set xs i v ∙ h.length;
  unstored = unstored_set xs i v s h.unstored;
  bytes = bytes_set xs i v h.bytes w;
}

pub record Keys (xs : List ℕ) : Type 0 where
  pub length : length xs ≡ 128
  pub bytes : (n : ℕ) → get_or xs n 0 ≤ 127

keys_set : (xs : List ℕ) (i v : ℕ) → v ≤ 127 → Keys xs → Keys (set xs i v)
keys_set xs i v w h = record { length = length-set xs i v ∙ h.length; bytes = bytes_set xs i v h.bytes w }

pub keys_zero : Keys (replicate 128 0)
keys_zero = record { length = refl; bytes = λ n. rw (zeros 128 n) (omega arith) }

-- ---- states

pub record Rest (v : Voice) (b p : ℕ) : Type 0 where
  pub high : v.high ≤ 127
  pub low : v.low ≤ 127
  pub program : v.program ≤ 127
  pub bend : b ≤ 16383
  pub pressure : p ≤ 127

pub made : (s : State) → Controls s.own.controls → Selected s.own.selection → Good s.own.params
    → Rest s.own.voice s.own.bend s.own.pressure → Keys s.keys → IsWellFormed s
made s c sel p r k = record {
  controls = c.length;
  unstored = c.unstored;
  control_bytes = c.bytes;
  rpn_high = sel.0.0;
  rpn_low = sel.0.1;
  nrpn_high = sel.1.0;
  nrpn_low = sel.1.1;
  canonical = p.0;
  entered = p.1;
  bank_high = r.high;
  bank_low = r.low;
  program = r.program;
  bend = r.bend;
  pressure = r.pressure;
  keys = k.length;
  key_bytes = k.bytes;
}

pub controls_of : (s : State) → IsWellFormed s → Controls s.own.controls
controls_of s h = record { length = h.controls; unstored = h.unstored; bytes = h.control_bytes }

pub selected_of : (s : State) → IsWellFormed s → Selected s.own.selection
selected_of s h = ((h.rpn_high, h.rpn_low), (h.nrpn_high, h.nrpn_low))

pub rest_of : (s : State) → IsWellFormed s → Rest s.own.voice s.own.bend s.own.pressure
rest_of s h = record { high = h.bank_high; low = h.bank_low; program = h.program; bend = h.bend; pressure = h.pressure }

pub keys_of : (s : State) → IsWellFormed s → Keys s.keys
keys_of s h = record { length = h.keys; bytes = h.key_bytes }

none_selected : Selected nothing_selected
none_selected = ((omega arith, omega arith), (omega arith, omega arith))

controls_reset : (xs : List ℕ) → Controls xs → Controls (reset_controls xs)
controls_reset xs h =
    controls_set _ 67 0 refl (omega arith) (controls_set _ 66 0 refl (omega arith) (controls_set _ 65 0 refl (omega arith) (controls_set _ 64 0 refl (omega arith)
    (controls_set _ 11 127 refl (omega arith) (controls_set xs 1 0 refl (omega arith) h)))))

-- a state after a controller with this role
abbrev turned : State → ℕ → ℕ → Role → State
turned s n v r = record { own = controlled s.own n v r; keys = reset_keys s.keys r }

well_controlled : Laws → (s : State) (n v : ℕ) (r : Role) → role n ≡ r → v ≤ 127 → IsWellFormed s → IsWellFormed (turned s n v r)
well_controlled l s n v Stored e w h =
    made (turned s n v Stored) (controls_set s.own.controls n v (ap is_kept e) w (controls_of s h)) (selected_of s h) (h.canonical, h.entered) (rest_of s h) (keys_of s h)
well_controlled l s n v EntryHigh e w h =
    made (turned s n v EntryHigh) (controls_of s h) (selected_of s h) (good_high l v (target s.own.selection) s.own.params (fits s.own.selection (selected_of s h)) w (h.canonical, h.entered)) (rest_of s h) (keys_of s h)
well_controlled l s n v EntryLow e w h =
    made (turned s n v EntryLow) (controls_of s h) (selected_of s h) (good_low l v (target s.own.selection) s.own.params (fits s.own.selection (selected_of s h)) w (h.canonical, h.entered)) (rest_of s h) (keys_of s h)
well_controlled l s n v NrpnLow e w h =
    made (turned s n v NrpnLow) (controls_of s h) ((h.rpn_high, h.rpn_low), (h.nrpn_high, w)) (h.canonical, h.entered) (rest_of s h) (keys_of s h)
well_controlled l s n v NrpnHigh e w h =
    made (turned s n v NrpnHigh) (controls_of s h) ((h.rpn_high, h.rpn_low), (w, h.nrpn_low)) (h.canonical, h.entered) (rest_of s h) (keys_of s h)
well_controlled l s n v RpnLow e w h =
    made (turned s n v RpnLow) (controls_of s h) ((h.rpn_high, w), (h.nrpn_high, h.nrpn_low)) (h.canonical, h.entered) (rest_of s h) (keys_of s h)
well_controlled l s n v RpnHigh e w h =
    made (turned s n v RpnHigh) (controls_of s h) ((w, h.rpn_low), (h.nrpn_high, h.nrpn_low)) (h.canonical, h.entered) (rest_of s h) (keys_of s h)
well_controlled l s n v ResetControllers e w h =
    made (turned s n v ResetControllers) (controls_reset s.own.controls (controls_of s h)) none_selected (h.canonical, h.entered) (record { high = h.bank_high; low = h.bank_low; program = h.program; bend = omega arith; pressure = omega arith }) keys_zero
well_controlled l s n v AllSoundOff e w h = h
well_controlled l s n v AllNotesOff e w h = h
well_controlled l s n v Ignored e w h = h

struck : (s : State) (c k v : ℕ) → IsWellFormed s → IsWellFormed (apply_state s (NoteOn c k v))
struck s c k zero h = h
struck s c k (suc v) h =
    made (apply_state s (NoteOn c k (suc v))) (controls_of s h) (selected_of s h) (h.canonical, h.entered) (rest_of s h) (keys_set s.keys k 0 (omega arith) (keys_of s h))

pub well_after : Laws → (s : State) (m : Msg) → IsWellFormed s → IsValidMsg m → IsWellFormed (apply_state s m)
well_after l s (NoteOn c k v) h ok = struck s c k v h
well_after l s (NoteOff c k v) h ok = h
well_after l s (KeyPressure c k v) h ok =
    made (apply_state s (KeyPressure c k v)) (controls_of s h) (selected_of s h) (h.canonical, h.entered) (rest_of s h) (keys_set s.keys k v ok.2 (keys_of s h))
well_after l s (Control c n v) h ok = well_controlled l s n v (role n) refl ok.2 h
well_after l s (Program c p) h ok =
    made (apply_state s (Program c p)) (controls_of s h) (selected_of s h) (h.canonical, h.entered) (record { high = h.control_bytes 0; low = h.control_bytes 32; program = ok.1; bend = h.bend; pressure = h.pressure }) (keys_of s h)
well_after l s (Pressure c v) h ok =
    made (apply_state s (Pressure c v)) (controls_of s h) (selected_of s h) (h.canonical, h.entered) (record { high = h.bank_high; low = h.bank_low; program = h.program; bend = h.bend; pressure = ok.1 }) (keys_of s h)
well_after l s (Bend c v) h ok =
    made (apply_state s (Bend c v)) (controls_of s h) (selected_of s h) (h.canonical, h.entered) (record { high = h.bank_high; low = h.bank_low; program = h.program; bend = ok.1; pressure = h.pressure }) (keys_of s h)

controls_zero : Controls (replicate 120 0)
controls_zero = record { length = refl; unstored = λ n _. zeros 120 n; bytes = λ n. rw (zeros 120 n) (omega arith) }

controls_default : Controls default_controls
controls_default =
    controls_set _ 91 40 refl (omega arith) (controls_set _ 79 64 refl (omega arith) (controls_set _ 78 64 refl (omega arith) (controls_set _ 77 64 refl (omega arith)
    (controls_set _ 76 64 refl (omega arith) (controls_set _ 75 64 refl (omega arith) (controls_set _ 74 64 refl (omega arith) (controls_set _ 73 64 refl (omega arith)
    (controls_set _ 72 64 refl (omega arith) (controls_set _ 71 64 refl (omega arith) (controls_set _ 70 64 refl (omega arith) (controls_set _ 11 127 refl (omega arith)
    (controls_set _ 10 64 refl (omega arith) (controls_set _ 8 64 refl (omega arith) (controls_set (replicate 120 0) 7 100 refl (omega arith) controls_zero))))))))))))))

pub well_at_first : IsWellFormed default_state
well_at_first =
    made default_state controls_default none_selected (tt, tt) (record { high = omega arith; low = omega arith; program = omega arith; bend = omega arith; pressure = omega arith }) keys_zero
