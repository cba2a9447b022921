-- What the messages are where the wanted state is the one after a single message: that message, where it changes anything.
use Rattle.std.specs.Prelude.{◌≡◌, ◌<◌, ℕ, List, [], ◌∷◌, ◌++◌, Bool, true, false, nat_eq, if◌then◌else◌, get_or}
use Rattle.mt_base.specs.declared.event.Msg.{Msg}
use Rattle.mt_base.specs.declared.event.Msg.TheVariants.{KeyPressure, Control, Program, Pressure, Bend}
use Rattle.midi_model.specs.Params.{Parameter, value_of}
use Rattle.midi_model.specs.Channel.{State, Role, NrpnLow, NrpnHigh, RpnLow, RpnHigh, Value, role, target, control_of, apply_state}
use Rattle.midi_model.specs.WellFormed.{is_stored, IsWellFormed}
use Rattle.midi_model.specs.Bring.{where_differs, voice_eq, choose_parameter, bring}

-- what brings channel c from a state to the one after a message
abbrev pub following : ℕ → State → Msg → List Msg
following c s m = bring c s (apply_state s m)

abbrev pub WritesNothing : Type 0
WritesNothing = (c : ℕ) (s : State) → IsWellFormed s → bring c s s ≡ []

abbrev pub WritesTheController : Type 0
WritesTheController = (c n v : ℕ) (s : State) → IsWellFormed s → is_stored n ≡ true
    → following c s (Control c n v) ≡ where_differs (control_of s.own n) v (Control c n v)

-- a byte of a parameter's number
abbrev pub is_selecting : Role → Bool
is_selecting NrpnLow = true
is_selecting NrpnHigh = true
is_selecting RpnLow = true
is_selecting RpnHigh = true
is_selecting _ = false

-- the number of a parameter alone changes nothing that is brought
abbrev pub WritesNoNumber : Type 0
WritesNoNumber = (c n v : ℕ) (s : State) → IsWellFormed s → is_selecting (role n) ≡ true
    → following c s (Control c n v) ≡ []

-- data entry of a byte that was another: the parameter's number, the byte, and nothing selected
abbrev pub entering : ℕ → Parameter → ℕ → ℕ → ℕ → List Msg
entering c p old n v = if nat_eq old v then []
    else choose_parameter c p ++ Control c n v ∷ Control c 101 127 ∷ Control c 100 127 ∷ []

abbrev pub WritesTheHighByte : Type 0
WritesTheHighByte = (c v : ℕ) (s : State) (p : Parameter) → IsWellFormed s → v < 128 → target s.own.selection ≡ Value p
    → following c s (Control c 6 v) ≡ entering c p (value_of s.own.params p).0 6 v

abbrev pub WritesTheLowByte : Type 0
WritesTheLowByte = (c v : ℕ) (s : State) (p : Parameter) → IsWellFormed s → v < 128 → target s.own.selection ≡ Value p
    → following c s (Control c 38 v) ≡ entering c p (value_of s.own.params p).1 38 v

abbrev pub WritesTheProgram : Type 0
WritesTheProgram = (c p : ℕ) (s : State) → IsWellFormed s
    → following c s (Program c p)
    ≡ (if voice_eq s.own.voice (apply_state s (Program c p)).own.voice then [] else Program c p ∷ [])

abbrev pub WritesThePressure : Type 0
WritesThePressure = (c v : ℕ) (s : State) → IsWellFormed s
    → following c s (Pressure c v) ≡ where_differs s.own.pressure v (Pressure c v)

abbrev pub WritesTheBend : Type 0
WritesTheBend = (c v : ℕ) (s : State) → IsWellFormed s
    → following c s (Bend c v) ≡ where_differs s.own.bend v (Bend c v)

abbrev pub WritesTheKeyPressure : Type 0
WritesTheKeyPressure = (c k v : ℕ) (s : State) → IsWellFormed s → k < 128
    → following c s (KeyPressure c k v) ≡ where_differs (get_or s.keys k 0) v (KeyPressure c k v)
