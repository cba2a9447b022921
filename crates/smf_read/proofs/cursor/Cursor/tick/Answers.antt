use Rattle.std.proofs.Common.{◌<◌, length, ap, sym, map, inl, inr, arith}
use Rattle.std.proofs.lemmas.Bool.{cases_eq}
use Rattle.mt_base.specs.Midi.{placed}
use Rattle.midi_model.specs.Merged.{first_tick}
use Rattle.smf_read.proofs.Runs.{no_events, some_left, first_tick_is, has_delta}
use Rattle.smf_read.proofs.cursor.Cursor.tick.Goals as goal

pub returns-in-Err : goal.returns-in-Err
returns-in-Err c =
    let s = c.args.self.now in
    elim (cases_eq (length s.rest.now) 0) [
      | inl none ↦ sym (ap (λ l. first_tick (map (placed s.track) l)) (no_events s.running s.tick s.rest.now none))
      | inr some ↦ let more : 0 < length s.rest.now = omega (arith, some) in absurd (has_delta c.reading_laws.ensures.first_tick s.running s.tick s.rest.now c.in-Err.field-0 s.status more (s.sound more) c.in-Err.ensures.gives)
    ]

pub returns-in-Ok : goal.returns-in-Ok
returns-in-Ok c =
    let s = c.args.self.now in
    let some : 0 < length s.rest.now = some_left s.rest.now _ c.in-Ok.ensures.gives in
    sym (first_tick_is c.reading_laws.ensures.first_tick s.track s.running s.tick s.rest.now _ s.status some (s.sound some) c.in-Ok.ensures.gives)
