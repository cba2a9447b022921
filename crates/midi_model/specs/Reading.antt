-- Reading from left to right, with the first fault that is met (Standard MIDI File 1.0; channel messages by the MIDI 1.0
-- Detailed Specification). A fault says how many bytes are left where it stands.
use Rattle.std.specs.Prelude.{◌≡◌, ◌<◌, ◌≤◌, ◌⊎◌, ℕ, zero, suc, ◌+◌, ◌-◌, ◌*◌, ◌^◌, List, [], ◌∷◌, length, take, drop, Bool, false, ◌&&◌, ◌||◌, Result, Ok, Err, Option, Some, None, nat_lt, ◌==◌, if◌then◌else◌}
use Rattle.std.specs.Borrow.{Bor}
use Rattle.midi_model.specs.declared.numbers.TheConstants.{LAST_TICK, META, END_OF_TRACK}
use Rattle.midi_model.specs.declared.fault.SmfKind.{SmfKind}
use Rattle.midi_model.specs.declared.fault.SmfKind.TheVariants.{Truncated, BadDelta, NoStatus, BadStatus, BadData, MissingEnd, TrackTooLong}
use Rattle.midi_model.specs.declared.fault.Stop.{Stop}
use Rattle.mt_base.specs.declared.event.Msg.{Msg}
use Rattle.mt_base.specs.declared.event.Msg.TheVariants.{NoteOff, NoteOn, KeyPressure, Control, Program, Pressure, Bend}
use Rattle.mt_base.specs.Midi.{MidiWhat, Says, SysexOf, MetaOf, Timed, is_end}

infixl 10 ◌>>=◌
abbrev pub ◌>>=◌ : {A B : Type 0} → Result A Stop → (A → Result B Stop) → Result B Stop
(Ok x) >>= f = f x
(Err e) >>= f = Err e

-- What a function returned, a value and the bytes behind it, is what reading on lists gives.
abbrev pub Gives : {X Y : Type 0} → (X → Y) → Result (X × Bor (List ℕ)) Stop → Result (Y × List ℕ) Stop → Type 0
Gives view (Ok x) read = read ≡ Ok (view x.0, x.1.now)
Gives view (Err e) read = read ≡ Err e

-- The same with the running status that holds afterwards.
abbrev pub Gives3 : {X Y : Type 0} → (X → Y) → Result (X × ℕ × Bor (List ℕ)) Stop → Result (Y × ℕ × List ℕ) Stop → Type 0
Gives3 view (Ok x) read = read ≡ Ok (view x.0, x.1, x.2.now)
Gives3 view (Err e) read = read ≡ Err e

-- What is left behind a value, or where a fault stands, is no more than so many bytes.
abbrev pub Within : {X : Type 0} → Result (X × Bor (List ℕ)) Stop → ℕ → Type 0
Within (Ok x) n = length x.1.now ≤ n
Within (Err e) n = e.left ≤ n

abbrev pub Within3 : {X : Type 0} → Result (X × ℕ × Bor (List ℕ)) Stop → ℕ → Type 0
Within3 (Ok x) n = length x.2.now ≤ n
Within3 (Err e) n = e.left ≤ n

-- a fault where these bytes are left
abbrev pub stop : {A : Type 0} → List ℕ → SmfKind → Result A Stop
stop bytes kind = Err (record { left = length bytes; kind = kind })

-- what the bytes before may say, where so many may come after the next
abbrev pub room : ℕ → ℕ
room zero = 2 ^ 21
room (suc zero) = 2 ^ 14
room (suc (suc zero)) = 2 ^ 7
room _ = 1

-- A variable-length quantity: turns is how many bytes may come after the next one, before what the bytes so far say.
unfoldable pub quantity_from : ℕ → ℕ → List ℕ → Result (ℕ × List ℕ) Stop
quantity_from turns before [] = stop [] Truncated
quantity_from zero before (b ∷ bs) = if nat_lt b 128 then Ok (before * 128 + b, bs) else stop (b ∷ bs) BadDelta
quantity_from (suc turns) before (b ∷ bs) = if nat_lt b 128 then Ok (before * 128 + b, bs) else quantity_from turns (before * 128 + (b - 128)) bs

unfoldable pub quantity_at : List ℕ → Result (ℕ × List ℕ) Stop
quantity_at bytes = quantity_from 3 0 bytes

-- a data byte of a channel message
unfoldable pub data_at : List ℕ → Result (ℕ × List ℕ) Stop
data_at [] = stop [] Truncated
data_at (b ∷ bs) = if nat_lt b 128 then Ok (b, bs) else stop (b ∷ bs) BadData

-- the message of a status byte and its data bytes
abbrev pub long_msg : ℕ → ℕ → ℕ → Msg
long_msg status d e =
    if nat_lt status 144 then NoteOff (status - 128) d e
    else if nat_lt status 160 then NoteOn (status - 144) d e
    else if nat_lt status 176 then KeyPressure (status - 160) d e
    else if nat_lt status 192 then Control (status - 176) d e
    else Bend (status - 224) (d + 128 * e)

abbrev pub short_msg : ℕ → ℕ → Msg
short_msg status d = if nat_lt status 208 then Program (status - 192) d else Pressure (status - 208) d

abbrev pub is_short : ℕ → Bool
is_short status = if nat_lt status 192 then false else nat_lt status 224

-- a status byte of a message with two data bytes
abbrev pub IsLong : ℕ → Type 0
IsLong status = (128 ≤ status) × (status < 240) × ((status < 192) ⊎ (224 ≤ status))

-- a running status: none, or the status byte of a channel message
abbrev pub IsRunning : ℕ → Type 0
IsRunning running = (0 < running → 128 ≤ running) × (running < 240)

-- a message whose status is known
unfoldable pub message_at : ℕ → List ℕ → Result (Msg × List ℕ) Stop
message_at status bytes = do
  d ← data_at bytes
  if is_short status then Ok (short_msg status d.0, d.1) else (do
    e ← data_at d.1
    Ok (long_msg status d.0 e.0, e.1))

-- so many bytes
unfoldable pub bytes_at : ℕ → List ℕ → Result (List ℕ × List ℕ) Stop
bytes_at n bytes = if nat_lt (length bytes) n then stop [] Truncated else Ok (take n bytes, drop n bytes)

-- a length, and that many bytes
unfoldable pub content_at : List ℕ → Result (List ℕ × List ℕ) Stop
content_at bytes = do
  n ← quantity_at bytes
  bytes_at n.0 n.1

-- a meta event behind its first byte: an end of track has no content
unfoldable pub meta_at : List ℕ → Result (MidiWhat × List ℕ) Stop
meta_at [] = stop [] Truncated
meta_at (kind ∷ bytes) = do
  n ← quantity_at bytes
  if kind == END_OF_TRACK && nat_lt 0 n.0 then stop bytes BadData else (do
    x ← bytes_at n.0 n.1
    Ok (MetaOf kind x.0, x.1))

-- a message whose status byte is known, as an event, and the running status after it
abbrev pub says_at : ℕ → List ℕ → Result (MidiWhat × ℕ × List ℕ) Stop
says_at status bytes = do
  m ← message_at status bytes
  Ok (Says m.0, status, m.1)

-- a meta event as one, after which no status runs on
abbrev pub meta_alone_at : List ℕ → Result (MidiWhat × ℕ × List ℕ) Stop
meta_alone_at bytes = do
  x ← meta_at bytes
  Ok (x.0, 0, x.1)

-- an event behind its delta, and the running status after it; 0 is none
unfoldable pub body_at : ℕ → List ℕ → Result (MidiWhat × ℕ × List ℕ) Stop
body_at running [] = stop [] Truncated
body_at running (b ∷ bytes) =
    if nat_lt b 128 then (if running == 0 then stop (b ∷ bytes) NoStatus else says_at running (b ∷ bytes))
    else if nat_lt b 240 then says_at b bytes
    else if b == 240 || b == 247 then (do
      x ← content_at bytes
      Ok (SysexOf b x.0, 0, x.1))
    else if b == META then meta_alone_at bytes
    else stop (b ∷ bytes) BadStatus

-- an event, where the events before it end at a tick
unfoldable pub event_at : ℕ → ℕ → List ℕ → Result (Timed × ℕ × List ℕ) Stop
event_at running before bytes = do
  delta ← quantity_at bytes
  if nat_lt LAST_TICK (before + delta.0) then stop bytes TrackTooLong else (do
    x ← body_at running delta.1
    Ok (record { tick = before + delta.0; what = x.0 }, x.1, x.2))

-- The events of a track up to its end or to the first fault, and the fault.
pub record Run : Type 0 where
  pub events : List Timed
  pub fault : Option Stop

abbrev pub failed : Stop → Run
failed e = record { events = []; fault = Some e }

abbrev pub last : Timed → Run
last e = record { events = e ∷ []; fault = None }

abbrev pub in_front : Timed → Run → Run
in_front e run = record { events = e ∷ run.events; fault = run.fault }

-- after one event, where next reads on
abbrev pub continued : (ℕ → ℕ → List ℕ → Run) → Result (Timed × ℕ × List ℕ) Stop → Run
continued next (Err e) = failed e
continued next (Ok x) = if is_end x.0.what then last x.0 else in_front x.0 (next x.1 x.0.tick x.2)

-- turns is more than how many bytes there are
unfoldable pub track_from : ℕ → ℕ → ℕ → List ℕ → Run
track_from zero running before bytes = failed (record { left = 0; kind = MissingEnd })
track_from (suc turns) running before [] = failed (record { left = 0; kind = MissingEnd })
track_from (suc turns) running before (b ∷ bytes) = continued (track_from turns) (event_at running before (b ∷ bytes))

-- what is left of a track
unfoldable pub rest_of_track : ℕ → ℕ → List ℕ → Run
rest_of_track running before bytes = track_from (suc (length bytes)) running before bytes

-- the content of a track chunk
abbrev pub track_in : List ℕ → Run
track_in bytes = rest_of_track 0 0 bytes
