use Rattle.std.proofs.Common.{List, Bool, ◌&&◌, Option, ◌≡◌, ◌++◌}
use Rattle.std.specs.Prelude.{option_map}
use Rattle.mt_base.specs.declared.event.Msg.{Msg}
use Rattle.mt_base.specs.Midi.{view, MidiEvent}
use Rattle.midi_model.specs.Writing.{Written}
use Rattle.routes.specs.Device.{is_first, resets_all}
use Rattle.routes.specs.Putting.{IsPut, put_all}
use Rattle.routes.proofs.Puts.{more_put, may_next, front_of, if_ok, if_err, on_err}
use Rattle.routes.proofs.Around.{Around, may_before, put_before, front_before, may_after, put_after, front_after}
use Rattle.channel_model.specs.MpeOutput.{zones_setup}
use Rattle.mpe_route.specs.Zones.{zones_in}
use Rattle.mpe_route.specs.Putting as spec
use Rattle.mpe_route.proofs.translating.put_block.Goals as goal

-- an event with what it causes, and the setup around it
abbrev block : List Written → List Msg → Bool → Option (List Msg) → MidiEvent → Around
block old ms begun caused e =
    let again = begun && resets_all e.what in
    record {
      old = old;
      setup = λ b. spec.said_if b ms e;
      first = is_first begun e.what;
      rest = spec.passed caused e ++ spec.said_if again ms e;
      again = again;
    }

-- it is put so far as it stands in front of the last setup
passed : (old : List Written) (ms : List Msg) (begun : Bool) (caused : Option (List Msg)) (e : MidiEvent) (asked : Bool) (a b : List Written)
    → asked ≡ is_first begun e.what → a ≡ put_all old (spec.said_if asked ms e) → b ≡ put_all a (spec.passed caused e)
    → IsPut old (spec.block_events ms begun caused e) (spec.said_if (begun && resets_all e.what) ms e) b
passed old ms begun caused e asked a b is first here =
    let k = block old ms begun caused e in
    more_put old (spec.block_events ms begun caused e) (spec.passed caused e) (k.setup k.again) a b (put_before k asked a is first) here

pub put_setup-requires-clause-may : goal.put_setup-requires-clause-may
put_setup-requires-clause-may c =
    let ms = zones_setup c.args.range (zones_in c.args.plan.now c.args.port) in
    let k = block c.args.out.now ms c.args.begun (option_map (λ a. a.items) c.args.caused.now) (view c.args.event.now) in
    may_before k _ c.is_first-first.ensures c.requires.may

pub returns-in_err-put_setup-clause-front : goal.returns-in_err-put_setup-clause-front
returns-in_err-put_setup-clause-front c =
    let ms = zones_setup c.args.range (zones_in c.args.plan.now c.args.port) in
    let k = block c.args.out.now ms c.args.begun (option_map (λ a. a.items) c.args.caused.now) (view c.args.event.now) in
    on_err _ c.from_residual.result (front_before k _ _ c.is_first-first.ensures c.in_err-put_setup.ensures.front)

pub put_caused-requires : goal.put_caused-requires
put_caused-requires c =
    let ms = zones_setup c.args.range (zones_in c.args.plan.now c.args.port) in
    let caused = option_map (λ a. a.items) c.args.caused.now in
    let k = block c.args.out.now ms c.args.begun caused (view c.args.event.now) in
    may_next k.old _ (spec.passed caused (view c.args.event.now)) (k.setup k.again) _ c.requires.may
    (put_before k _ _ c.is_first-first.ensures c.in_ok-put_setup.ensures.put)

pub returns-in_err-put_caused-clause-front : goal.returns-in_err-put_caused-clause-front
returns-in_err-put_caused-clause-front c =
    let ms = zones_setup c.args.range (zones_in c.args.plan.now c.args.port) in
    let caused = option_map (λ a. a.items) c.args.caused.now in
    let k = block c.args.out.now ms c.args.begun caused (view c.args.event.now) in
    on_err _ c.from_residual-in_err-put_caused.result (front_of k.old _ (spec.passed caused (view c.args.event.now)) (k.setup k.again) _ _
    (put_before k _ _ c.is_first-first.ensures c.in_ok-put_setup.ensures.put) c.in_err-put_caused.ensures.front)

pub put_setup-requires-2-clause-may : goal.put_setup-requires-2-clause-may
put_setup-requires-2-clause-may c =
    let ms = zones_setup c.args.range (zones_in c.args.plan.now c.args.port) in
    let caused = option_map (λ a. a.items) c.args.caused.now in
    let k = block c.args.out.now ms c.args.begun caused (view c.args.event.now) in
    may_after k _ _ c.is_again-again.ensures c.requires.may (passed k.old ms c.args.begun caused (view c.args.event.now) _ _ _
    c.is_first-first.ensures c.in_ok-put_setup.ensures.put c.in_ok-put_caused.ensures.put)

pub returns-clause-put : goal.returns-clause-put
returns-clause-put c =
    let ms = zones_setup c.args.range (zones_in c.args.plan.now c.args.port) in
    let caused = option_map (λ a. a.items) c.args.caused.now in
    let k = block c.args.out.now ms c.args.begun caused (view c.args.event.now) in
    let here = passed k.old ms c.args.begun caused (view c.args.event.now) _ _ _
    c.is_first-first.ensures c.in_ok-put_setup.ensures.put c.in_ok-put_caused.ensures.put in
    if_ok _ _ c.put_setup-2.result (put_after k _ _ _ c.is_again-again.ensures here) c.put_setup-2.ensures.put

pub returns-clause-front : goal.returns-clause-front
returns-clause-front c =
    let ms = zones_setup c.args.range (zones_in c.args.plan.now c.args.port) in
    let caused = option_map (λ a. a.items) c.args.caused.now in
    let k = block c.args.out.now ms c.args.begun caused (view c.args.event.now) in
    let here = passed k.old ms c.args.begun caused (view c.args.event.now) _ _ _
    c.is_first-first.ensures c.in_ok-put_setup.ensures.put c.in_ok-put_caused.ensures.put in
    if_err _ _ c.put_setup-2.result (front_after k _ _ _ c.is_again-again.ensures here) c.put_setup-2.ensures.front
