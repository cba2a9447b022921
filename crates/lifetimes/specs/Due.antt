-- What the program asks of a message to a retuned part, in parts: the kinds of the definitions in their order.
use Rattle.std.specs.Prelude.{◌≡◌, ◌≤ℤ◌, ◌<ℤ◌, ◌+ℤ◌, ℕ, suc, ℤ, negsuc, List, [], ◌∷◌, ◌++◌, Bool, true, false, ◌&&◌, nat_eq, not, take, drop, length, if◌then◌else◌, Option, Some, None, is_some}
use Rattle.std.specs.Option.{option_map}
use Rattle.std.specs.List.{AllByRecursion}
use Rattle.mt_base.specs.declared.event.Msg.{Msg}
use Rattle.mt_base.specs.Midi.{MidiEvent, Says}
use Rattle.mt_base.specs.Valid.{IsValidEvent}
use Rattle.midi_model.specs.Order.{AreInOrder}
use Rattle.midi_model.specs.Notes.{Note}
use Rattle.midi_model.specs.Music.{step}
use Rattle.midi_model.specs.Sysex.{doing}
use Rattle.retune_model.specs.Table.{Bounds}
use Rattle.retune_model.specs.Options.{Options}
use Rattle.retune_model.specs.Ports.{port_at, music_at, resets}
use Rattle.retune_model.specs.Faults.{Targets, Kind, UnmappedKey, KeyOutOfDevice, BendTooFar, ModeMessage, DataStep, is_part, is_unmapped, is_out_of_device, is_mode, is_data_step, is_within_bend, is_bend, misses_target, int_eq, first_that}
use Rattle.retune_model.specs.Rests.{pairs_at}
use Rattle.retune_model.specs.SourceFaults.{IsFaultless, message_tests, bend_of, first_beyond}
use Rattle.lifetimes.specs.Told.{port_on, music_on, aim_in}
use Rattle.lifetimes.specs.Stands.{PortStands}
use Rattle.key_pitch.specs.declared.aim.Aim.{Aim}
use Rattle.key_pitch.specs.declared.aim.Aim.TheVariants.{Bend as AimAt}
use Rattle.mt_base.specs.declared.event.Msg.TheVariants.{NoteOn}
use Rattle.lifetimes.specs.declared.port.Strike.{Strike}
use Rattle.lifetimes.specs.declared.port.Port.{Port}

-- a kind, and the steps that it keeps
abbrev pub Due : Type 0
Due = Option (Kind × Option (ℤ × ℤ))

abbrev pub plainly : Option Kind → Due
plainly kind = option_map (λ k. (k, None)) kind

abbrev pub too_far : Option (ℤ × ℤ) → Due
too_far found = option_map (λ x. (BendTooFar, Some x)) found

-- ---- by a message alone

abbrev pub target_tests : Options → Option Bounds → List (Kind × Bool)
target_tests o b = (UnmappedKey, not (is_some b)) ∷ (KeyOutOfDevice, misses_target o b) ∷ []

abbrev pub alone_tests : Options → Targets → ℕ → Msg → List (Kind × Bool)
alone_tests o table t msg =
    (UnmappedKey, is_unmapped o table t msg)
    ∷ (KeyOutOfDevice, is_out_of_device o table t msg)
    ∷ (ModeMessage, is_mode o msg)
    ∷ (DataStep, is_data_step o msg)
    ∷ []

-- ---- by a port

-- What is known of an event and of its port right before the port takes it. The port may be one that waits: z is its number.
pub record IsNext (o : Options) (table : Targets) (es : List MidiEvent) (e : MidiEvent) (z : ℕ) (port : Port) : Type 0 where
  pub valid : AllByRecursion IsValidEvent (es ++ e ∷ [])
  pub order : AreInOrder 0 (es ++ e ∷ [])
  pub faultless : IsFaultless o table es
  pub stands : PortStands o table es (record port { number = z })
  pub here : port_on es e ≡ z

-- the note on of a retuned part, with its target
pub record IsStrike (o : Options) (table : Targets) (e : MidiEvent) (v : ℕ) (strike : Strike) : Type 0 where
  pub what : e.what ≡ Says (NoteOn strike.channel strike.key (suc v))
  pub part : is_part o strike.channel ≡ true
  pub target : strike.target ≡ aim_in o table strike.key e.tick

-- the same key with the same bend
abbrev pub is_same_aim : Aim → Aim → Bool
is_same_aim (AimAt k q) (AimAt j r) = nat_eq k j && int_eq q r
is_same_aim _ _ = false

-- the notes of a channel stay as they are, and none begins
abbrev pub AreLeft : ℕ → List Note → List Note → Type 0
AreLeft c [] [] = Unit {0}
AreLeft c (n ∷ ns) (x ∷ xs) = ((x.channel ≡ n.channel) × (n.channel ≡ c → x ≡ n)) × AreLeft c ns xs
AreLeft c _ _ = ⊥

-- an event that is no reset and leaves the notes of a channel
pub record LeavesPart (z : ℕ) (es : List MidiEvent) (e : MidiEvent) (c : ℕ) : Type 0 where
  pub notes : AreLeft c (music_on z es).notes (step (music_on z es) e).notes
  pub no_reset : resets (doing e.what) ≡ false

-- its tests, in the order of the kinds; what is said of ports is left out
abbrev pub tests_of : Options → Targets → List MidiEvent → MidiEvent → ℕ → Msg → List (Kind × Bool)
tests_of o table es e z msg =
    let port = port_at (es ++ e ∷ []) z in
    message_tests z o table e.tick (music_at port.events (length es)) (music_at port.events (suc (length es))) false (pairs_at o (is_part o) table port (suc (length es))) msg

abbrev pub with_bend : Options → Targets → List MidiEvent → MidiEvent → ℕ → Kind → Kind × Option (ℤ × ℤ)
with_bend o table es e z kind =
    let port = port_at (es ++ e ∷ []) z in
    (kind, bend_of z o (music_at port.events (suc (length es))) (pairs_at o (is_part o) table port (suc (length es))) kind e.what)

-- of the kinds before those of ports, and of those behind that of parameters
abbrev pub early_due : Options → Targets → List MidiEvent → MidiEvent → ℕ → Msg → Due
early_due o table es e z msg = option_map (with_bend o table es e z) (first_that (take 8 (tests_of o table es e z msg)))

abbrev pub late_due : Options → Targets → List MidiEvent → MidiEvent → ℕ → Msg → Due
late_due o table es e z msg = plainly (first_that (drop 10 (tests_of o table es e z msg)))

-- where a bend of the part goes too far with a pair that is there after the event
abbrev pub bend_due : Options → Targets → List MidiEvent → MidiEvent → ℕ → ℕ → ℤ → Due
bend_due o table es e z c moved =
    if is_bend o.route then too_far (first_beyond (record { port = z; channel = c }) moved (pairs_at o (is_part o) table (port_at (es ++ e ∷ []) z) (suc (length es)))) else None

-- ---- the least that goes too far

-- the least numbers of steps of the program's
abbrev pub least_steps : ℤ
least_steps = negsuc 2147483647

pub record IsFirstBeyond (there : ℤ → Bool) (moved q : ℤ) : Type 0 where
  pub here : there q ≡ true
  pub beyond : is_within_bend (q +ℤ moved) ≡ false
  pub least : (p : ℤ) → least_steps ≤ℤ p → p <ℤ q → there p ≡ true → is_within_bend (p +ℤ moved) ≡ true

abbrev pub NoneBeyond : (ℤ → Bool) → ℤ → Type 0
NoneBeyond there moved = (p : ℤ) → least_steps ≤ℤ p → there p ≡ true → is_within_bend (p +ℤ moved) ≡ true
