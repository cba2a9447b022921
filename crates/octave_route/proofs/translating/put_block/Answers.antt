use Rattle.std.proofs.Common.{ℕ, List, ◌∷◌, Bool, ◌&&◌, ◌≡◌}
use Rattle.mt_base.specs.Midi.{view, MidiEvent}
use Rattle.midi_model.specs.Writing.{Written}
use Rattle.event_stream.specs.Distributed.{MayPut}
use Rattle.routes.specs.Device.{is_first, resets_all}
use Rattle.routes.specs.Putting.{put_one, put_all, IsPut}
use Rattle.routes.proofs.Puts.{not_begun, one_put, may_still, may_first, stopped, if_ok, if_err, on_err}
use Rattle.routes.proofs.Around.{Around, whole, may_before, put_before, may_after, put_after}
use Rattle.octave_route.specs.Putting as spec
use Rattle.octave_route.proofs.translating.put_block.Goals as goal

-- an event, and the setup around it
abbrev block : List Written → ℕ → List ℕ → Bool → MidiEvent → Around
block old mask values begun e =
    let again = begun && resets_all e.what in
    record {
      old = old;
      setup = λ b. spec.setup_if b mask values e;
      first = is_first begun e.what;
      rest = e ∷ spec.setup_if again mask values e;
      again = again;
    }

-- it is put so far as it stands in front of the last setup
passed : (old : List Written) (mask : ℕ) (values : List ℕ) (begun : Bool) (e : MidiEvent) (asked : Bool) (a b : List Written)
    → asked ≡ is_first begun e.what → a ≡ put_all old (spec.setup_if asked mask values e) → b ≡ put_one a e
    → IsPut old (spec.block_events mask values begun e) (spec.setup_if (begun && resets_all e.what) mask values e) b
passed old mask values begun e asked a b is first put =
    let k = block old mask values begun e in
    one_put old (spec.block_events mask values begun e) e (k.setup k.again) a b (put_before k asked a is first) put

pub put_setup-requires-clause-may : goal.put_setup-requires-clause-may
put_setup-requires-clause-may c =
    let k = block c.args.out.now c.args.channels c.args.values.now c.args.begun (view c.args.event.now) in
    may_before k _ c.is_first-first.ensures c.requires.may

pub returns-in_err-put_setup-clause-front : goal.returns-in_err-put_setup-clause-front
returns-in_err-put_setup-clause-front c =
    let k = block c.args.out.now c.args.channels c.args.values.now c.args.begun (view c.args.event.now) in
    on_err _ c.from_residual.result
    (stopped k.old (whole k) (whole k) k.old _ (not_begun k.old (whole k)) c.in_err-put_setup.ensures.unchanged)

pub put-requires : goal.put-requires
put-requires c =
    let k = block c.args.out.now c.args.channels c.args.values.now c.args.begun (view c.args.event.now) in
    let may : MayPut c.put_setup.new.out (view c.args.event.now) = may_first _ _ _ (may_still k.old (whole k) k.rest _ c.requires.may
    (put_before k _ _ c.is_first-first.ensures c.in_ok-put_setup.ensures.put)) in
    record { valid = may.valid; exists = may.exists; «open» = may.open_still; order = may.in_order }

pub returns-in_err-put-clause-front : goal.returns-in_err-put-clause-front
returns-in_err-put-clause-front c =
    let k = block c.args.out.now c.args.channels c.args.values.now c.args.begun (view c.args.event.now) in
    on_err _ c.from_residual-in_err-put.result (stopped k.old (whole k) k.rest _ _
    (put_before k _ _ c.is_first-first.ensures c.in_ok-put_setup.ensures.put) c.in_err-put.ensures.unchanged)

pub put_setup-requires-2-clause-may : goal.put_setup-requires-2-clause-may
put_setup-requires-2-clause-may c =
    let k = block c.args.out.now c.args.channels c.args.values.now c.args.begun (view c.args.event.now) in
    let here = passed c.args.out.now c.args.channels c.args.values.now c.args.begun (view c.args.event.now) _ _ _
    c.is_first-first.ensures c.in_ok-put_setup.ensures.put c.in_ok-put.ensures.appended in
    may_after k _ _ c.is_again-again.ensures c.requires.may here

pub returns-clause-put : goal.returns-clause-put
returns-clause-put c =
    let k = block c.args.out.now c.args.channels c.args.values.now c.args.begun (view c.args.event.now) in
    let here = passed c.args.out.now c.args.channels c.args.values.now c.args.begun (view c.args.event.now) _ _ _
    c.is_first-first.ensures c.in_ok-put_setup.ensures.put c.in_ok-put.ensures.appended in
    if_ok _ _ c.put_setup-2.result (put_after k _ _ _ c.is_again-again.ensures here) c.put_setup-2.ensures.put

pub returns-clause-front : goal.returns-clause-front
returns-clause-front c =
    let k = block c.args.out.now c.args.channels c.args.values.now c.args.begun (view c.args.event.now) in
    let here = passed c.args.out.now c.args.channels c.args.values.now c.args.begun (view c.args.event.now) _ _ _
    c.is_first-first.ensures c.in_ok-put_setup.ensures.put c.in_ok-put.ensures.appended in
    if_err _ _ c.put_setup-2.result (stopped k.old (whole k) (k.setup k.again) _ _ here) c.put_setup-2.ensures.unchanged
