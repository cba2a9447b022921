-- The state of one channel, and what a channel message does to it (MIDI 1.0 Detailed Specification; the defaults, and what
-- the standard leaves open, are this project's profile).
use Rattle.std.specs.Prelude.{ℕ, suc, List, [], Bool, true, false, ◌&&◌, ◌||◌, nat_eq, nat_le, if◌then◌else◌, get_or, set, replicate, length, filter}
use Rattle.mt_base.specs.declared.event.Msg.{Msg}
use Rattle.mt_base.specs.declared.event.Msg.TheVariants.{NoteOn, KeyPressure, Control, Program, Pressure, Bend}
use Rattle.midi_model.specs.Params.{Parameter, Entry, counts, pair_eq, value_of, put}

-- the sound that a program message chose: both bytes of the bank, and the program
pub record Voice : Type 0 where
  pub high : ℕ
  pub low : ℕ
  pub program : ℕ

-- which parameter data entry writes to: the registered and the non-registered number, high and low byte, and whether the
-- registered one came last
pub record Selection : Type 0 where
  pub registered : Bool
  pub rpn : ℕ × ℕ
  pub nrpn : ℕ × ℕ

-- a channel, without the pressures of its keys and without its tuning program
pub record Channel : Type 0 where
  pub controls : List ℕ
  pub selection : Selection
  pub params : List Entry
  pub voice : Voice
  pub bend : ℕ
  pub pressure : ℕ

-- a channel with the pressures of its 128 keys
pub record State : Type 0 where
  pub own : Channel
  pub keys : List ℕ

-- 127, 127 of either kind is no parameter (MIDI 1.0: the null number)
abbrev pub nothing_selected : Selection
nothing_selected = record { registered = true; rpn = (127, 127); nrpn = (127, 127) }

-- What a controller number is for: a value that is stored; the high or low byte of data entry (6, 38); a byte of a parameter
-- number (98 to 101); all sound off (120); reset all controllers (121); all notes off, which the modes omni off and poly do
-- too (123, 124, 127). Data increment and decrement (96, 97), local control (122) and the modes omni on and mono (125, 126)
-- are ignored: this project's profile.
pub data Role : Type 0 where
  Stored : Role
  EntryHigh : Role
  EntryLow : Role
  NrpnLow : Role
  NrpnHigh : Role
  RpnLow : Role
  RpnHigh : Role
  AllSoundOff : Role
  ResetControllers : Role
  AllNotesOff : Role
  Ignored : Role

-- the controllers 0 to 119: volume (7) 100, balance and pan (8, 10) 64, expression (11) 127, sound controllers (70 to 79) 64,
-- reverb (91) 40, all others 0 (this project's profile)
abbrev pub default_controls : List ℕ
default_controls = set (set (set (set (set (set (set (set (set (set (set (set (set (set (set (replicate 120 0) 7 100) 8 64) 10 64) 11 127) 70 64) 71 64) 72 64) 73 64) 74 64) 75 64) 76 64) 77 64) 78 64) 79 64) 91 40

-- a channel as it is at the start and after a reset
abbrev pub default_channel : Channel
default_channel = record {
  controls = default_controls;
  selection = nothing_selected;
  params = [];
  voice = record { high = 0; low = 0; program = 0 };
  bend = 8192;
  pressure = 0;
}

abbrev pub default_state : State
default_state = record { own = default_channel; keys = replicate 128 0 }

-- how many parameters count for the limit
abbrev pub counted : Channel → ℕ
counted s = length (filter counts s.params)

abbrev pub role : ℕ → Role
role n = if nat_eq n 6 then EntryHigh
    else if nat_eq n 38 then EntryLow
    else if nat_eq n 96 || nat_eq n 97 then Ignored
    else if nat_eq n 98 then NrpnLow
    else if nat_eq n 99 then NrpnHigh
    else if nat_eq n 100 then RpnLow
    else if nat_eq n 101 then RpnHigh
    else if nat_le n 119 then Stored
    else if nat_eq n 120 then AllSoundOff
    else if nat_eq n 121 then ResetControllers
    else if nat_eq n 123 || (nat_eq n 124 || nat_eq n 127) then AllNotesOff
    else Ignored

-- What data entry writes to: RPN 3 is the tuning program (MIDI Tuning Standard), RPN 6 the size of a zone (MPE 1.0); all else
-- is a value of its own.
pub data Target : Type 0 where
  Nowhere : Target
  TuningProgram : Target
  ZoneSize : Target
  Value : Parameter → Target

abbrev pub target_in : Bool → ℕ × ℕ → Target
target_in registered p = if pair_eq p (127, 127) then Nowhere
    else if registered && pair_eq p (0, 3) then TuningProgram
    else if registered && pair_eq p (0, 6) then ZoneSize
    else Value (record { registered = registered; high = p.0; low = p.1 })

abbrev pub target : Selection → Target
target s = if s.registered then target_in true s.rpn else target_in false s.nrpn

-- data entry of the high byte, which leaves the low byte as it was, and of the low byte, which leaves the high
abbrev pub with_high : ℕ → Target → List Entry → List Entry
with_high v (Value p) es = put p (v, (value_of es p).1) es
with_high v _ es = es

abbrev pub with_low : ℕ → Target → List Entry → List Entry
with_low v (Value p) es = put p ((value_of es p).0, v) es
with_low v _ es = es

-- a controller's value
abbrev pub control_of : Channel → ℕ → ℕ
control_of s n = get_or s.controls n 0

-- what reset all controllers sets: modulation 0, expression 127, the pedals 64 to 67 up (this project's profile)
abbrev pub reset_controls : List ℕ → List ℕ
reset_controls cs = set (set (set (set (set (set cs 1 0) 11 127) 64 0) 65 0) 66 0) 67 0

-- what a controller with this role does to the channel
abbrev pub controlled : Channel → ℕ → ℕ → Role → Channel
controlled s n v Stored = record s { controls = set s.controls n v }
controlled s n v EntryHigh = record s { params = with_high v (target s.selection) s.params }
controlled s n v EntryLow = record s { params = with_low v (target s.selection) s.params }
controlled s n v NrpnLow = record s { selection = record { registered = false; rpn = s.selection.rpn; nrpn = (s.selection.nrpn.0, v) } }
controlled s n v NrpnHigh = record s { selection = record { registered = false; rpn = s.selection.rpn; nrpn = (v, s.selection.nrpn.1) } }
controlled s n v RpnLow = record s { selection = record { registered = true; rpn = (s.selection.rpn.0, v); nrpn = s.selection.nrpn } }
controlled s n v RpnHigh = record s { selection = record { registered = true; rpn = (v, s.selection.rpn.1); nrpn = s.selection.nrpn } }
controlled s n v ResetControllers = record s { controls = reset_controls s.controls; selection = nothing_selected; bend = 8192; pressure = 0 }
controlled s n v _ = s

-- What a message to a channel does to it. A program takes its bank from the bank controllers 0 and 32, which alone choose no
-- sound. Note messages don't change it.
abbrev pub apply : Channel → Msg → Channel
apply s (Control c n v) = controlled s n v (role n)
apply s (Program c p) = record s { voice = record { high = control_of s 0; low = control_of s 32; program = p } }
apply s (Pressure c v) = record s { pressure = v }
apply s (Bend c v) = record s { bend = v }
apply s _ = s

abbrev pub reset_keys : List ℕ → Role → List ℕ
reset_keys ks ResetControllers = replicate 128 0
reset_keys ks _ = ks

-- What a message does to the pressures of its 128 keys, as far as no note has to be known: a new note has pressure 0.
abbrev pub apply_keys : List ℕ → Msg → List ℕ
apply_keys ks (NoteOn c k (suc v)) = set ks k 0
apply_keys ks (KeyPressure c k v) = set ks k v
apply_keys ks (Control c n v) = reset_keys ks (role n)
apply_keys ks _ = ks

-- a channel's whole state after a message, its tuning program aside
abbrev pub apply_state : State → Msg → State
apply_state s m = record { own = apply s.own m; keys = apply_keys s.keys m }
