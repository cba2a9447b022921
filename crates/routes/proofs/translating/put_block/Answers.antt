use Rattle.std.proofs.Common.{ℕ, List, ◌∷◌, ◌++◌, Bool, ◌&&◌, Option, ◌≡◌}
use Rattle.mt_base.specs.Midi.{view, MidiEvent}
use Rattle.midi_model.specs.Writing.{Written}
use Rattle.event_stream.specs.Distributed.{MayPut}
use Rattle.routes.specs.declared.device.Device.{Device}
use Rattle.routes.specs.Putting.{sent_at, put_one, put_all, IsPut}
use Rattle.routes.specs.Device as spec
use Rattle.routes.proofs.Puts.{more_put, one_put, may_still, may_next, may_first, stopped, if_ok, if_err, on_err}
use Rattle.routes.proofs.Around.{Around, may_before, put_before, front_before, may_after, put_after, front_after}
use Rattle.routes.proofs.translating.put_block.Goals as goal

-- an event with the change that is due before it, and the setup around them
abbrev block : List Written → Device → ℕ → Bool → Option (ℕ × ℕ) → MidiEvent → Around
block old d mask begun due e =
    let again = begun && spec.resets_all e.what in
    record {
      old = old;
      setup = λ b. spec.setup_if b d mask e;
      first = spec.is_first begun e.what;
      rest = sent_at e (spec.changes_in d.program due) ++ e ∷ spec.setup_if again d mask e;
      again = again;
    }

-- it is put so far as it stands behind the change, and behind the event
changed : (old : List Written) (d : Device) (mask : ℕ) (begun : Bool) (due : Option (ℕ × ℕ)) (e : MidiEvent) (asked : Bool) (a b : List Written)
    → asked ≡ spec.is_first begun e.what → a ≡ put_all old (spec.setup_if asked d mask e) → b
    ≡ put_all a (sent_at e (spec.changes_in d.program due))
    → IsPut old (spec.block_events d mask begun due e) (e ∷ spec.setup_if (begun && spec.resets_all e.what) d mask e) b
changed old d mask begun due e asked a b is first change =
    let k = block old d mask begun due e in
    more_put old (spec.block_events d mask begun due e) (sent_at e (spec.changes_in d.program due)) (e ∷ k.setup k.again) a b
    (put_before k asked a is first) change

passed : (old : List Written) (d : Device) (mask : ℕ) (begun : Bool) (due : Option (ℕ × ℕ)) (e : MidiEvent) (asked : Bool) (a b p : List Written)
    → asked ≡ spec.is_first begun e.what → a ≡ put_all old (spec.setup_if asked d mask e) → b
    ≡ put_all a (sent_at e (spec.changes_in d.program due)) → p ≡ put_one b e
    → IsPut old (spec.block_events d mask begun due e) (spec.setup_if (begun && spec.resets_all e.what) d mask e) p
passed old d mask begun due e asked a b p is first change put =
    one_put old (spec.block_events d mask begun due e) e (spec.setup_if (begun && spec.resets_all e.what) d mask e) b p
    (changed old d mask begun due e asked a b is first change) put

pub put_setup-requires-clause-may : goal.put_setup-requires-clause-may
put_setup-requires-clause-may c =
    let k = block c.args.out.now c.args.device.now c.args.channels c.args.begun c.args.due (view c.args.event.now) in
    may_before k _ c.is_first-first.ensures c.requires.may

pub returns-in_err-put_setup-clause-front : goal.returns-in_err-put_setup-clause-front
returns-in_err-put_setup-clause-front c =
    let k = block c.args.out.now c.args.device.now c.args.channels c.args.begun c.args.due (view c.args.event.now) in
    on_err _ c.from_residual.result (front_before k _ _ c.is_first-first.ensures c.in_err-put_setup.ensures.front)

pub put_change-requires-clause-may : goal.put_change-requires-clause-may
put_change-requires-clause-may c =
    let k = block c.args.out.now c.args.device.now c.args.channels c.args.begun c.args.due (view c.args.event.now) in
    may_next k.old _ (sent_at (view c.args.event.now) (spec.changes_in c.args.device.now.program c.args.due))
    (view c.args.event.now ∷ k.setup k.again) _ c.requires.may
    (put_before k _ _ c.is_first-first.ensures c.in_ok-put_setup.ensures.put)

pub put-requires : goal.put-requires
put-requires c =
    let here = changed c.args.out.now c.args.device.now c.args.channels c.args.begun c.args.due (view c.args.event.now) _ _ _
    c.is_first-first.ensures c.in_ok-put_setup.ensures.put c.in_ok-put_change.ensures.put in
    let may : MayPut c.put_change.new.out (view c.args.event.now) = may_first _ _ _ (may_still _ _ _ _ c.requires.may here) in
    record { valid = may.valid; exists = may.exists; «open» = may.open_still; order = may.in_order }

pub returns-in_err-put_change-clause-front : goal.returns-in_err-put_change-clause-front
returns-in_err-put_change-clause-front c =
    let k = block c.args.out.now c.args.device.now c.args.channels c.args.begun c.args.due (view c.args.event.now) in
    on_err _ c.from_residual-in_err-put_change.result (stopped k.old _ k.rest _ _
    (put_before k _ _ c.is_first-first.ensures c.in_ok-put_setup.ensures.put) c.in_err-put_change.ensures.unchanged)

pub returns-in_err-put-clause-front : goal.returns-in_err-put-clause-front
returns-in_err-put-clause-front c =
    let here = changed c.args.out.now c.args.device.now c.args.channels c.args.begun c.args.due (view c.args.event.now) _ _ _
    c.is_first-first.ensures c.in_ok-put_setup.ensures.put c.in_ok-put_change.ensures.put in
    on_err _ c.from_residual-in_err-put.result (stopped _ _ _ _ _ here c.in_err-put.ensures.unchanged)

pub put_setup-requires-2-clause-may : goal.put_setup-requires-2-clause-may
put_setup-requires-2-clause-may c =
    let k = block c.args.out.now c.args.device.now c.args.channels c.args.begun c.args.due (view c.args.event.now) in
    let here = passed c.args.out.now c.args.device.now c.args.channels c.args.begun c.args.due (view c.args.event.now) _ _ _ _
    c.is_first-first.ensures c.in_ok-put_setup.ensures.put c.in_ok-put_change.ensures.put c.in_ok-put.ensures.appended in
    may_after k _ _ c.is_again-again.ensures c.requires.may here

pub returns-clause-put : goal.returns-clause-put
returns-clause-put c =
    let k = block c.args.out.now c.args.device.now c.args.channels c.args.begun c.args.due (view c.args.event.now) in
    let here = passed c.args.out.now c.args.device.now c.args.channels c.args.begun c.args.due (view c.args.event.now) _ _ _ _
    c.is_first-first.ensures c.in_ok-put_setup.ensures.put c.in_ok-put_change.ensures.put c.in_ok-put.ensures.appended in
    if_ok _ _ c.put_setup-2.result (put_after k _ _ _ c.is_again-again.ensures here) c.put_setup-2.ensures.put

pub returns-clause-front : goal.returns-clause-front
returns-clause-front c =
    let k = block c.args.out.now c.args.device.now c.args.channels c.args.begun c.args.due (view c.args.event.now) in
    let here = passed c.args.out.now c.args.device.now c.args.channels c.args.begun c.args.due (view c.args.event.now) _ _ _ _
    c.is_first-first.ensures c.in_ok-put_setup.ensures.put c.in_ok-put_change.ensures.put c.in_ok-put.ensures.appended in
    if_err _ _ c.put_setup-2.result (front_after k _ _ _ c.is_again-again.ensures here) c.put_setup-2.ensures.front
