-- How many bytes a block takes in a track. Its events stand at one tick, so each but the first has a delta of one byte.
use Rattle.std.proofs.Common.{◌≡◌, ◌≤◌, ◌+◌, ◌-◌, ◌*◌, ℕ, Bool, true, false, cond, eqb, List, [], ◌∷◌, ◌++◌, ap, map, length, arith, lit≤}
use Rattle.std.proofs.lemmas.Bool.{cond_both}
use Rattle.std.proofs.lemmas.List.{length-append}
use Rattle.mt_base.specs.declared.event.Msg.{Msg}
use Rattle.mt_base.specs.declared.event.Msg.TheVariants.{NoteOn, NoteOff, KeyPressure, Control, Program, Pressure, Bend}
use Rattle.mt_base.specs.Midi.{MidiWhat, Says, SysexOf, MetaOf, Timed, MidiEvent}
use Rattle.midi_model.specs.Merged.{of_track, timed}
use Rattle.midi_model.specs.SizeLaws.{most_of_track, WrittenIsWithinMost}
use Rattle.midi_model.specs.Writing.{quantity_bytes, status_of, data_of, running_after, body_bytes, event_bytes, events_bytes, track_bytes, most_bytes}
use Rattle.bend_laws.proofs.Playing.{saying}

-- ---- one event

-- a delta, by the law of what is written, of a message alone
delta_most : WrittenIsWithinMost → (n : ℕ) → length (quantity_bytes n) ≤ 4
unfolding events_bytes
delta_most within n =
    let e : Timed = record { tick = n; what = Says (NoteOn 0 0 0) } in
    let all : length (track_bytes (e ∷ [])) ≤ 7 = within (e ∷ []) in
    let whole : n - 0 ≡ n = omega arith in
    omega (
      arith,
      all,
      ap (λ (d : ℕ). length (quantity_bytes d)) whole,
      length-append (quantity_bytes (n - 0)) (body_bytes 0 (Says (NoteOn 0 0 0))),
      length-append (event_bytes 0 0 e) [],
    )

delta_none : (t : ℕ) → length (quantity_bytes (t - t)) ≡ 1
unfolding quantity_bytes
delta_none t = let none : t - t ≡ 0 = omega arith in ap (λ (d : ℕ). length (quantity_bytes d)) none

data_most : (m : Msg) → length (data_of m) ≤ 2
data_most (NoteOff c key velocity) = lit≤ tt
data_most (NoteOn c key velocity) = lit≤ tt
data_most (KeyPressure c key value) = lit≤ tt
data_most (Control c number value) = lit≤ tt
data_most (Program c program) = lit≤ tt
data_most (Pressure c value) = lit≤ tt
data_most (Bend c value) = lit≤ tt

said_body : (running : ℕ) (m : Msg) → length (body_bytes running (Says m)) ≤ 3
said_body running m = cond_both (eqb running (status_of m)) (data_of m) (status_of m ∷ data_of m) (λ bs. length bs ≤ 3)
    (λ e. omega (arith, data_most m)) (λ e. omega (arith, data_most m))

-- a message at a tick
said_event : WrittenIsWithinMost → (running before t : ℕ) (m : Msg) →
    (let e : Timed = record { tick = t; what = Says m } in length (event_bytes running before e) ≤ 7)
said_event within running before t m =
    omega (arith, delta_most within (t - before), said_body running m, length-append (quantity_bytes (t - before)) (body_bytes running (Says m)))

-- one at the tick of the event before it
said_beside : (running t : ℕ) (m : Msg) →
    (let e : Timed = record { tick = t; what = Says m } in length (event_bytes running t e) ≤ 4)
said_beside running t m =
    omega (arith, delta_none t, said_body running m, length-append (quantity_bytes (t - t)) (body_bytes running (Says m)))

any_event : WrittenIsWithinMost → (running before t : ℕ) (w : MidiWhat) →
    (let e : Timed = record { tick = t; what = w } in length (event_bytes running before e) ≤ most_bytes w)
any_event within running before t (Says m) = said_event within running before t m
any_event within running before t (SysexOf lead content) =
    omega (
      arith,
      delta_most within (t - before),
      delta_most within (length content),
      length-append (quantity_bytes (length content)) content,
      length-append (quantity_bytes (t - before)) (body_bytes running (SysexOf lead content)),
    )
any_event within running before t (MetaOf kind content) =
    omega (
      arith,
      delta_most within (t - before),
      delta_most within (length content),
      length-append (quantity_bytes (length content)) content,
      length-append (quantity_bytes (t - before)) (body_bytes running (MetaOf kind content)),
    )

-- ---- the events of a track

-- they take at most so many bytes, whatever stands before them
abbrev pub TakeAtMost : ℕ → List MidiEvent → ℕ → Type 0
TakeAtMost track es n = (running before : ℕ) → length (events_bytes running before (map timed (of_track track es))) ≤ n

abbrev pub most_in : ℕ → List MidiEvent → ℕ
most_in track es = most_of_track (map timed (of_track track es))

pub none_take : (track : ℕ) → TakeAtMost track [] 0
unfolding events_bytes
none_take track running before = omega arith

pub one_takes : WrittenIsWithinMost → (track : ℕ) (e : MidiEvent) (es : List MidiEvent) (n : ℕ) → TakeAtMost track es n →
    TakeAtMost track (e ∷ es) (most_in track (e ∷ []) + n)
unfolding events_bytes
one_takes within track e es n h running before = pick (eqb e.track track)
  where
    rest : List Timed
    rest = map timed (of_track track es)

    pick : (b : Bool) → length (events_bytes running before (map timed (cond b (e ∷ of_track track es) (of_track track es))))
        ≤ most_of_track (map timed (cond b (e ∷ []) [])) + n
    pick true = omega (
      arith,
      any_event within running before e.tick e.what,
      h (running_after e.what) e.tick,
      length-append (event_bytes running before (timed e)) (events_bytes (running_after e.what) e.tick rest),
    )
    pick false = omega (arith, h running before)

-- messages at the tick of the event before them
said_later : (track : ℕ) (e : MidiEvent) (es : List MidiEvent) (n : ℕ) → TakeAtMost track es n → (ms : List Msg) (running : ℕ) →
    length (events_bytes running e.tick (map timed (of_track track (saying e ms ++ es)))) ≤ 4 * length ms + n
unfolding events_bytes
said_later track e es n h [] running = omega (arith, h running e.tick)
said_later track e es n h (m ∷ ms) running =
    pick (eqb e.track track) (said_later track e es n h ms (status_of m)) (said_later track e es n h ms running)
  where
    x : MidiEvent
    x = record e { what = Says m }

    rest : List MidiEvent
    rest = of_track track (saying e ms ++ es)

    pick : (b : Bool) → length (events_bytes (status_of m) e.tick (map timed rest)) ≤ 4 * length ms + n →
        length (events_bytes running e.tick (map timed rest)) ≤ 4 * length ms + n →
        length (events_bytes running e.tick (map timed (cond b (x ∷ rest) rest))) ≤ 4 * length (m ∷ ms) + n
    pick true i j = omega (
      arith,
      i,
      said_beside running e.tick m,
      length-append (event_bytes running e.tick (timed x)) (events_bytes (status_of m) e.tick (map timed rest)),
    )
    pick false i j = omega (arith, j)

-- messages at one tick
pub said_take : WrittenIsWithinMost → (track : ℕ) (e : MidiEvent) (es : List MidiEvent) (n : ℕ) → TakeAtMost track es n → (ms : List Msg) →
    TakeAtMost track (saying e ms ++ es) (4 * length ms + 3 + n)
unfolding events_bytes
said_take within track e es n h [] running before = omega (arith, h running before)
said_take within track e es n h (m ∷ ms) running before =
    pick (eqb e.track track) (said_later track e es n h ms (status_of m)) (said_take within track e es n h ms running before)
  where
    x : MidiEvent
    x = record e { what = Says m }

    rest : List MidiEvent
    rest = of_track track (saying e ms ++ es)

    pick : (b : Bool) → length (events_bytes (status_of m) e.tick (map timed rest)) ≤ 4 * length ms + n →
        length (events_bytes running before (map timed rest)) ≤ 4 * length ms + 3 + n →
        length (events_bytes running before (map timed (cond b (x ∷ rest) rest))) ≤ 4 * length (m ∷ ms) + 3 + n
    pick true i j = omega (
      arith,
      i,
      said_event within running before e.tick m,
      length-append (event_bytes running before (timed x)) (events_bytes (status_of m) e.tick (map timed rest)),
    )
    pick false i j = omega (arith, j)
