use Rattle.std.proofs.Common.{◌<◌, length, ap, sym, ◌∙◌, ◌∷◌, map}
use Rattle.mt_base.specs.Midi.{placed}
use Rattle.std.proofs.lemmas.Bool.{eqb-true}
use Rattle.smf_read.specs.Views.{timed}
use Rattle.smf_read.proofs.Steps.{nonzero}
use Rattle.smf_read.proofs.Runs.{no_events, nothing_left, ends, goes_on, fails}
use Rattle.smf_read.proofs.cursor.Cursor.any_next.Goals as goal

pub returns-then-is_empty-clause-none : goal.returns-then-is_empty-clause-none
returns-then-is_empty-clause-none c =
    let s = c.args.self.now in
    let none = ap (map (placed s.track)) (no_events s.running s.tick s.rest.now (eqb-true _ 0 (sym c.if-is_empty.ensures))) in
    (none, none)

pub returns-then-is_end-clause-some : goal.returns-then-is_end-clause-some
returns-then-is_end-clause-some c =
    let s = c.args.self.now in
    let done = ends c.reading_laws.ensures.events c.reading_laws.ensures.two_bytes s.running s.tick s.rest.now _ s.status c.in-Ok.ensures.gives (sym c.if-is_end.ensures) in
    ap (λ r. map (placed s.track) r.events) done ∙ ap (λ r. map (placed s.track) (timed c.in-Ok.found ∷ r.events)) (sym (nothing_left s.running s.tick))

pub returns-in-Err-clause-none : goal.returns-in-Err-clause-none
returns-in-Err-clause-none c =
    let s = c.args.self.now in
    let some : 0 < length s.rest.now = nonzero _ (sym c.if-is_empty.ensures) in
    (ap (λ r. map (placed s.track) r.events) (fails c.reading_laws.ensures.events s.running s.tick s.rest.now c.in-Err.field-0 s.status some c.in-Err.ensures.gives), ap (λ r. map (placed s.track) r.events) (nothing_left s.running s.tick))

pub returns-else-is_end-clause-some : goal.returns-else-is_end-clause-some
returns-else-is_end-clause-some c =
    let s = c.args.self.now in
    ap (λ r. map (placed s.track) r.events) (goes_on c.reading_laws.ensures.events c.reading_laws.ensures.two_bytes s.running s.tick s.rest.now _ s.status c.in-Ok.ensures.gives (sym c.if-is_end.ensures))

pub invariant_of-self-in-Ok : goal.invariant_of-self-in-Ok
invariant_of-self-in-Ok c =
    let s = c.args.self.now in
    let some : 0 < length s.rest.now = nonzero _ (sym c.if-is_empty.ensures) in
    record {
      in_time = c.in-Ok.ensures.tick;
      status = c.in-Ok.ensures.running;
      sound = λ _. sym (ap (λ r. r.fault) (goes_on c.reading_laws.ensures.events c.reading_laws.ensures.two_bytes s.running s.tick s.rest.now _ s.status c.in-Ok.ensures.gives (sym c.if-is_end.ensures))) ∙ s.sound some;
      all_sound = s.all_sound;
    }
