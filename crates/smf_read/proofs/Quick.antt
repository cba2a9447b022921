-- Quick ways of reading: a quantity of one byte, and a channel message.
use Rattle.std.proofs.Common.{◌≡◌, ℕ, ◌+◌, ◌-◌, ◌*◌, ◌<◌, ◌≤◌, List, [], ◌∷◌, length, get_or, take, drop, Ok, eqb, false, refl, ap, inl, inr, arith}
use Rattle.std.proofs.lemmas.Bool.{lt-ltb, le-ltb, ne_eqb}
use Rattle.std.proofs.lemmas.List.{take_all}
use Rattle.mt_base.specs.Midi.{MidiWhat, Says}
use Rattle.midi_model.specs.declared.numbers.TheConstants.{LAST_TICK}
use Rattle.smf_read.specs.Short.{IsShort, IsSingle, msg_of}
use Rattle.midi_model.specs.Reading.{quantity_at, quantity_from, data_at, message_at, body_at, event_at, is_short, IsLong}

one_byte : (b : ℕ) (bytes : List ℕ) → b < 128 → quantity_at (b ∷ bytes) ≡ Ok (b, bytes)
unfolding quantity_at quantity_from
one_byte b bytes low = rw (lt-ltb b 128 low) (ap (λ (n : ℕ). Ok (n, bytes)) (omega arith))

not_short : (status : ℕ) → IsLong status → is_short status ≡ false
not_short status long = elim long.2 [
  | inl low ↦ rw (lt-ltb status 192 low) refl
  | inr high ↦ let more : 192 ≤ status = omega (arith, high) in rw (le-ltb status 192 more, le-ltb status 224 high) refl
]

long_data : (status d e : ℕ) (bytes : List ℕ) → IsLong status → d < 128 → e < 128 → message_at status (d ∷ e ∷ bytes) ≡ Ok (msg_of status d e, bytes)
unfolding message_at data_at
long_data status d e bytes long low low2 = rw (lt-ltb d 128 low, lt-ltb e 128 low2, not_short status long) refl

running_long : (running d e : ℕ) (bytes : List ℕ) → IsLong running → d < 128 → e < 128 → body_at running (d ∷ e ∷ bytes) ≡ Ok (Says (msg_of running d e), running, bytes)
unfolding body_at
running_long running d e bytes long low low2 =
    let some : eqb running 0 ≡ false = ne_eqb running 0 (λ z. omega (arith, z, long.0)) in
    rw (lt-ltb d 128 low, some, long_data running d e bytes long low low2) refl

status_long : (running status d e : ℕ) (bytes : List ℕ) → IsLong status → d < 128 → e < 128 → body_at running (status ∷ d ∷ e ∷ bytes) ≡ Ok (Says (msg_of status d e), status, bytes)
unfolding body_at
status_long running status d e bytes long low low2 =
    rw (le-ltb status 128 long.0, lt-ltb status 240 long.1, long_data status d e bytes long low low2) refl

single_data : (status d : ℕ) (bytes : List ℕ) → IsSingle status → d < 128 → message_at status (d ∷ bytes) ≡ Ok (msg_of status d 0, bytes)
unfolding message_at data_at
single_data status d bytes single low = rw (lt-ltb d 128 low, le-ltb status 192 single.0, lt-ltb status 224 single.1) refl

running_one : (running d : ℕ) (bytes : List ℕ) → IsSingle running → d < 128 → body_at running (d ∷ bytes) ≡ Ok (Says (msg_of running d 0), running, bytes)
unfolding body_at
running_one running d bytes single low =
    let some : eqb running 0 ≡ false = ne_eqb running 0 (λ z. omega (arith, z, single.0)) in
    rw (lt-ltb d 128 low, some, single_data running d bytes single low) refl

status_one : (running status d : ℕ) (bytes : List ℕ) → IsSingle status → d < 128 → body_at running (status ∷ d ∷ bytes) ≡ Ok (Says (msg_of status d 0), status, bytes)
unfolding body_at
status_one running status d bytes single low =
    let channel : 128 ≤ status = omega (arith, single.0) in
    let message : status < 240 = omega (arith, single.1) in
    rw (le-ltb status 128 channel, lt-ltb status 240 message, single_data status d bytes single low) refl

-- ---- the same of what stands at the front of some bytes

pub one_byte_at : (bytes : List ℕ) → 1 ≤ length bytes → get_or bytes 0 0 < 128 → quantity_at bytes ≡ Ok (get_or bytes 0 0, take (length bytes - 1) (drop 1 bytes))
one_byte_at [] some low = absurd (omega (arith, some))
one_byte_at (b ∷ bytes) some low = rw (take_all (length (b ∷ bytes) - 1) bytes (omega arith)) (one_byte b bytes low)

two_bytes : (h l : ℕ) (bytes : List ℕ) → 128 ≤ h → l < 128 → quantity_at (h ∷ l ∷ bytes) ≡ Ok ((h - 128) * 128 + l, bytes)
unfolding quantity_at quantity_from
two_bytes h l bytes high low = rw (le-ltb h 128 high, lt-ltb l 128 low) (ap (λ (n : ℕ). Ok (n, bytes)) (omega arith))

-- an event whose delta and body are known
event_is : (running before delta status : ℕ) (bytes rest after : List ℕ) (what : MidiWhat) → quantity_at bytes ≡ Ok (delta, rest) → body_at running rest ≡ Ok (what, status, after) → before + delta ≤ LAST_TICK
    → event_at running before bytes ≡ Ok (record { tick = before + delta; what = what }, status, after)
unfolding event_at
event_is running before delta status bytes rest after what q b le = rw (q, le-ltb LAST_TICK (before + delta) le, b) refl

pub running_short : (running : ℕ) (bytes : List ℕ) → 3 ≤ length bytes → get_or bytes 0 0 < 128 → get_or bytes 1 0 < 128 → get_or bytes 2 0 < 128 → IsLong running
    → IsShort running bytes (record { delta = get_or bytes 0 0; status = running; first = get_or bytes 1 0; second = get_or bytes 2 0; len = 3 })
running_short running [] some l0 l1 l2 long = absurd (omega (arith, some))
running_short running (a ∷ []) some l0 l1 l2 long = absurd (omega (arith, some))
running_short running (a ∷ d ∷ []) some l0 l1 l2 long = absurd (omega (arith, some))
running_short running (a ∷ d ∷ e ∷ bytes) some l0 l1 l2 long = record {
  reads = λ before le. event_is running before a running (a ∷ d ∷ e ∷ bytes) (d ∷ e ∷ bytes) bytes _ (one_byte a (d ∷ e ∷ bytes) l0) (running_long running d e bytes long l1 l2) le;
  small = omega (arith, l0);
  low = long.0;
  high = long.1;
  first = l1;
  second = l2;
  some = omega arith;
  within = omega arith;
}

pub status_short : (running : ℕ) (bytes : List ℕ) → 4 ≤ length bytes → get_or bytes 0 0 < 128 → IsLong (get_or bytes 1 0) → get_or bytes 2 0 < 128 → get_or bytes 3 0 < 128
    → IsShort running bytes (record { delta = get_or bytes 0 0; status = get_or bytes 1 0; first = get_or bytes 2 0; second = get_or bytes 3 0; len = 4 })
status_short running [] some l0 long l2 l3 = absurd (omega (arith, some))
status_short running (a ∷ []) some l0 long l2 l3 = absurd (omega (arith, some))
status_short running (a ∷ s ∷ []) some l0 long l2 l3 = absurd (omega (arith, some))
status_short running (a ∷ s ∷ d ∷ []) some l0 long l2 l3 = absurd (omega (arith, some))
status_short running (a ∷ s ∷ d ∷ e ∷ bytes) some l0 long l2 l3 = record {
  reads = λ before le. event_is running before a s (a ∷ s ∷ d ∷ e ∷ bytes) (s ∷ d ∷ e ∷ bytes) bytes _ (one_byte a (s ∷ d ∷ e ∷ bytes) l0) (status_long running s d e bytes long l2 l3) le;
  small = omega (arith, l0);
  low = long.0;
  high = long.1;
  first = l2;
  second = l3;
  some = omega arith;
  within = omega arith;
}

pub later_short : (running : ℕ) (bytes : List ℕ) → 4 ≤ length bytes → 128 ≤ get_or bytes 0 0 → get_or bytes 0 0 < 256 → get_or bytes 1 0 < 128 → get_or bytes 2 0 < 128 → get_or bytes 3 0 < 128 → IsLong running
    → IsShort running bytes (record { delta = (get_or bytes 0 0 - 128) * 128 + get_or bytes 1 0; status = running; first = get_or bytes 2 0; second = get_or bytes 3 0; len = 4 })
later_short running [] some high fits l1 l2 l3 long = absurd (omega (arith, some))
later_short running (h ∷ []) some high fits l1 l2 l3 long = absurd (omega (arith, some))
later_short running (h ∷ l ∷ []) some high fits l1 l2 l3 long = absurd (omega (arith, some))
later_short running (h ∷ l ∷ d ∷ []) some high fits l1 l2 l3 long = absurd (omega (arith, some))
later_short running (h ∷ l ∷ d ∷ e ∷ bytes) some high fits l1 l2 l3 long = record {
  reads = λ before le. event_is running before ((h - 128) * 128 + l) running (h ∷ l ∷ d ∷ e ∷ bytes) (d ∷ e ∷ bytes) bytes _ (two_bytes h l (d ∷ e ∷ bytes) high l1) (running_long running d e bytes long l2 l3) le;
  small = omega (arith, high, fits, l1);
  low = long.0;
  high = long.1;
  first = l2;
  second = l3;
  some = omega arith;
  within = omega arith;
}

pub running_single : (running : ℕ) (bytes : List ℕ) → 2 ≤ length bytes → get_or bytes 0 0 < 128 → get_or bytes 1 0 < 128 → IsSingle running
    → IsShort running bytes (record { delta = get_or bytes 0 0; status = running; first = get_or bytes 1 0; second = 0; len = 2 })
running_single running [] some l0 l1 single = absurd (omega (arith, some))
running_single running (a ∷ []) some l0 l1 single = absurd (omega (arith, some))
running_single running (a ∷ d ∷ bytes) some l0 l1 single = record {
  reads = λ before le. event_is running before a running (a ∷ d ∷ bytes) (d ∷ bytes) bytes _ (one_byte a (d ∷ bytes) l0) (running_one running d bytes single l1) le;
  small = omega (arith, l0);
  low = omega (arith, single.0);
  high = omega (arith, single.1);
  first = l1;
  second = omega arith;
  some = omega arith;
  within = omega arith;
}

pub status_single : (running : ℕ) (bytes : List ℕ) → 3 ≤ length bytes → get_or bytes 0 0 < 128 → IsSingle (get_or bytes 1 0) → get_or bytes 2 0 < 128
    → IsShort running bytes (record { delta = get_or bytes 0 0; status = get_or bytes 1 0; first = get_or bytes 2 0; second = 0; len = 3 })
status_single running [] some l0 single l2 = absurd (omega (arith, some))
status_single running (a ∷ []) some l0 single l2 = absurd (omega (arith, some))
status_single running (a ∷ s ∷ []) some l0 single l2 = absurd (omega (arith, some))
status_single running (a ∷ s ∷ d ∷ bytes) some l0 single l2 = record {
  reads = λ before le. event_is running before a s (a ∷ s ∷ d ∷ bytes) (s ∷ d ∷ bytes) bytes _ (one_byte a (s ∷ d ∷ bytes) l0) (status_one running s d bytes single l2) le;
  small = omega (arith, l0);
  low = omega (arith, single.0);
  high = omega (arith, single.1);
  first = l2;
  second = omega arith;
  some = omega arith;
  within = omega arith;
}
