-- The messages that bring a channel from one state to another, each compared with the state that those before it reach (this
-- project's own; the messages are those of MIDI 1.0). The order is: voice, controllers, parameters, pressure, bend, key
-- pressures.
use Rattle.std.specs.Prelude.{ℕ, ◌+◌, List, [], ◌∷◌, ◌++◌, Bool, ◌&&◌, not, nat_eq, if◌then◌else◌, map, filter}
use Rattle.mt_base.specs.declared.event.Msg.{Msg}
use Rattle.mt_base.specs.declared.event.Msg.TheVariants.{KeyPressure, Control, Program, Pressure, Bend}
use Rattle.midi_model.specs.Params.{Parameter, Entry, pair_eq, default_value, value_of}
use Rattle.midi_model.specs.Channel.{Channel, State, Voice, control_of, apply_state}

abbrev pub apply_all : State → List Msg → State
apply_all s [] = s
apply_all s (m ∷ ms) = apply_all (apply_state s m) ms

abbrev pub where_differs : ℕ → ℕ → Msg → List Msg
where_differs a b m = if nat_eq a b then [] else m ∷ []

abbrev pub voice_eq : Voice → Voice → Bool
voice_eq a b = nat_eq a.high b.high && (nat_eq a.low b.low && nat_eq a.program b.program)

-- Where the voices differ: the bank controllers that differ, then the program. A voice can only be reached so.
abbrev pub bring_voice : ℕ → Channel → Voice → List Msg
bring_voice c now v = if voice_eq now.voice v then []
    else (where_differs (control_of now 0) v.high (Control c 0 v.high) ++ where_differs (control_of now 32) v.low (Control c 32 v.low)) ++ Program c v.program ∷ []

-- each controller that differs, by number
abbrev pub bring_controls : ℕ → ℕ → List ℕ → List ℕ → List Msg
bring_controls c n (x ∷ xs) (y ∷ ys) = where_differs x y (Control c n y) ++ bring_controls c (n + 1) xs ys
bring_controls c n _ _ = []

-- a parameter's number is selected by its high byte, then its low
abbrev pub choose_parameter : ℕ → Parameter → List Msg
choose_parameter c p = if p.registered then Control c 101 p.high ∷ Control c 100 p.low ∷ [] else Control c 99 p.high ∷ Control c 98 p.low ∷ []

-- then the bytes of its value that differ
abbrev pub bring_parameter : ℕ → ℕ × ℕ → Entry → List Msg
bring_parameter c now e = choose_parameter c e.parameter ++ (where_differs now.0 e.value.0 (Control c 6 e.value.0) ++ where_differs now.1 e.value.1 (Control c 38 e.value.1))

abbrev pub made_default : Entry → Entry
made_default e = record { parameter = e.parameter; value = default_value e.parameter }

-- parameters that differ: those whose wanted value is the default come first, then the others, each group in the order of
-- numbers. So no more are away from their defaults on the way than at one of its ends.
abbrev pub to_default : List Entry → List Entry → List Entry
to_default now wanted = map made_default (filter (λ e. pair_eq (value_of wanted e.parameter) (default_value e.parameter)) now)

abbrev pub to_other : List Entry → List Entry → List Entry
to_other now wanted = filter (λ e. not (pair_eq (value_of now e.parameter) e.value)) wanted

abbrev pub bring_each : ℕ → List Entry → List Entry → List Msg
bring_each c now [] = []
bring_each c now (e ∷ es) = bring_parameter c (value_of now e.parameter) e ++ bring_each c now es

-- where a parameter was selected, none is in the end
abbrev pub closed : ℕ → List Msg → List Msg
closed c [] = []
closed c (m ∷ ms) = (m ∷ ms) ++ Control c 101 127 ∷ Control c 100 127 ∷ []

-- a registered parameter's high byte is set, and nothing left selected
abbrev pub registered : ℕ → ℕ → ℕ → List Msg
registered c low value = Control c 101 0 ∷ Control c 100 low ∷ Control c 6 value ∷ Control c 101 127 ∷ Control c 100 127 ∷ []

-- each key pressure that differs, by key
abbrev pub bring_keys : ℕ → ℕ → List ℕ → List ℕ → List Msg
bring_keys c k (x ∷ xs) (y ∷ ys) = where_differs x y (KeyPressure c k y) ++ bring_keys c (k + 1) xs ys
bring_keys c k _ _ = []

abbrev pub bring : ℕ → State → State → List Msg
bring c now wanted =
    let voice = bring_voice c now.own wanted.own.voice in
    let middle = (apply_all now voice).own in
    ((((voice ++ bring_controls c 0 middle.controls wanted.own.controls)
    ++ closed c (bring_each c now.own.params (to_default now.own.params wanted.own.params ++ to_other now.own.params wanted.own.params)))
    ++ where_differs now.own.pressure wanted.own.pressure (Pressure c wanted.own.pressure))
    ++ where_differs now.own.bend wanted.own.bend (Bend c wanted.own.bend))
    ++ bring_keys c 0 now.keys wanted.keys
