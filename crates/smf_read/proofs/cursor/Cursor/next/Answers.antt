use Rattle.std.proofs.Common.{◌≡◌, ◌+◌, ◌-◌, ◌∷◌, List, ℕ, length, take, drop, map, refl, ap, sym, ◌∙◌, arith}
use Rattle.std.proofs.lemmas.List.{take_all, length-drop}
use Rattle.mt_base.specs.Midi.{placed, Timed, Says}
use Rattle.midi_model.specs.Reading.{rest_of_track}
use Rattle.smf_read.specs.Short.{msg_of}
use Rattle.smf_read.proofs.Runs.{goes_on}
use Rattle.smf_read.proofs.cursor.Cursor.next.Goals as goal

pub returns-clause-some : goal.returns-clause-some
returns-clause-some c =
    let s = c.args.self.now in
    let m = c.in-Some.short in
    let e : Timed = record { tick = s.tick + m.delta; what = Says (msg_of m.status m.first m.second) } in
    let whole : take (length s.rest.now - m.len) (drop m.len s.rest.now) ≡ drop m.len s.rest.now = take_all (length s.rest.now - m.len) (drop m.len s.rest.now) (omega (arith, length-drop m.len s.rest.now)) in
    let reads = c.in-Some.ensures.reads s.tick c.if-self-short-le-LAST_TICK.true in
    rw c.message.ensures.is (ap (λ r. map (placed s.track) r.events) (goes_on c.reading_laws.ensures.events c.reading_laws.ensures.two_bytes s.running s.tick s.rest.now _ s.status reads refl)
    ∙ ap (λ (l : List ℕ). placed s.track e ∷ map (placed s.track) (rest_of_track m.status e.tick l).events) (sym whole))
