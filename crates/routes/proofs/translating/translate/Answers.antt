use Rattle.std.proofs.Common.{◌≡◌, ◌<◌, ◌∙◌, List, sym, subst, rules}
use Rattle.std.specs.List.{AllByRecursion}
use Rattle.mt_base.specs.Midi.{view, MidiEvent}
use Rattle.mt_base.specs.Valid.{IsValidEvent}
use Rattle.retune_model.specs.Ports.{events_on}
use Rattle.lifetimes.specs.Stands.{asked, table_in}
use Rattle.lifetimes.specs.Tracks.{TracksStand}
use Rattle.routes.specs.Routed.{routed, is_live, lives}
use Rattle.routes.specs.Device.{block_events}
use Rattle.routes.specs.Kept.{told_in, told_of, due_if}
use Rattle.routes.proofs.Passing.{begins, passes, later, turn, key_is, key_sayable, value_sayable}
use Rattle.routes.proofs.Puts.{more_put, may_next, front_of, on_err}
use Rattle.routes.proofs.translating.translate.Goals as goal

pub events-init : goal.events-init
events-init g c = record {
  all = c.rewind.ensures.all;
  valid = subst (λ (l : List MidiEvent). AllByRecursion IsValidEvent l) (sym c.rewind.ensures.rest) c.requires.valid;
  tracks = subst (λ (l : List MidiEvent). AllByRecursion (λ e. e.track < 1024) l) (sym c.rewind.ensures.rest) c.requires.tracks;
  passing = begins (TracksStand c.new-tracks.result) (asked c.args.parts.now)
      (g.T.Aims.table (table_in c.args.parts.now)) (g.S.EventStream.all c.args.stream.now)
      (g.S.EventStream.rest c.rewind.new.self) c.new-kept.result c.args.out.now c.new-tracks.ensures c.rewind.ensures.rest c.new-kept.ensures;
}

pub pass_on-requires : goal.pass_on-requires
pass_on-requires g c =
    let o = asked c.args.parts.now in
    let table = g.T.Aims.table (table_in c.args.parts.now) in
    let all = g.S.EventStream.all c.args.stream.now in
    let rest = g.S.EventStream.rest c.events.stream in
    let more = g.S.EventStream.rest c.next.new.self in
    let e = view c.in-Some.event in
    let p = c.events.invariant.passing in
    let d = c.device_for-device.result in
    let z = c.port_of-port.result in
    let mask = c.parts-channels.result in
    let told = c.told_key-told.result in
    let fits : mask < 65536 = search rules in
    let by : told ≡ told_of (is_live o.route) o table e.what = subst (λ b. told ≡ told_of b o table e.what) c.device_for-device.ensures.live
    c.told_key-told.ensures in
    let block = block_events d mask (told_in c.events.kept z).begun (due_if (told_in c.events.kept z).keys told) e in
    let next = turn (TracksStand c.events.tracks) o table all rest c.events.kept c.args.out.now c.events.out p e more d mask z told
    c.in-Some.ensures.some c.device_for-device.ensures.live c.device_for-device.ensures.dump
    c.device_for-device.ensures.program fits c.requires.valid (c.parts-channels.ensures o all c.requires.noted)
    (c.port_of-port.ensures p.front p.stands) by in
    let valid : IsValidEvent e = (subst (λ (l : List MidiEvent). AllByRecursion IsValidEvent l) c.in-Some.ensures.some c.events.invariant.valid).0 in
    record {
      program = search rules;
      key = key_sayable (is_live o.route) o table e.what told valid.what by;
      value = value_sayable (is_live o.route) o table e.what told valid.what by;
      may = may_next c.args.out.now (routed o table all) block
          (later o table all p.front z (told_in c.events.kept) e more) c.events.out c.requires.may next;
    }

pub events-preserved : goal.events-preserved
events-preserved g c =
    let o = asked c.args.parts.now in
    let table = g.T.Aims.table (table_in c.args.parts.now) in
    let all = g.S.EventStream.all c.args.stream.now in
    let rest = g.S.EventStream.rest c.events.stream in
    let more = g.S.EventStream.rest c.next.new.self in
    let e = view c.in-Some.event in
    let p = c.events.invariant.passing in
    let d = c.device_for-device.result in
    let z = c.port_of-port.result in
    let mask = c.parts-channels.result in
    let told = c.told_key-told.result in
    let fits : mask < 65536 = search rules in
    let by : told ≡ told_of (is_live o.route) o table e.what = subst (λ b. told ≡ told_of b o table e.what) c.device_for-device.ensures.live
    c.told_key-told.ensures in
    let block = block_events d mask (told_in c.events.kept z).begun (due_if (told_in c.events.kept z).keys told) e in
    let next = turn (TracksStand c.events.tracks) o table all rest c.events.kept c.args.out.now c.events.out p e more d mask z told
    c.in-Some.ensures.some c.device_for-device.ensures.live c.device_for-device.ensures.dump
    c.device_for-device.ensures.program fits c.requires.valid (c.parts-channels.ensures o all c.requires.noted)
    (c.port_of-port.ensures p.front p.stands) by in
    let some = c.in-Some.ensures.some in
    record {
      all = c.in-Some.ensures.all ∙ c.events.invariant.all;
      valid = (subst (λ (l : List MidiEvent). AllByRecursion IsValidEvent l) some c.events.invariant.valid).1;
      tracks = (subst (λ (l : List MidiEvent). AllByRecursion (λ x. x.track < 1024) l) some c.events.invariant.tracks).1;
      passing = passes (TracksStand c.events.tracks) (TracksStand c.take.new.self) o table all rest c.events.kept c.pass_on.new.kept c.args.out.now
          c.events.out c.pass_on.new.out p e more z
          some (c.take.ensures p.front p.stands)
          (c.in_ok-pass_on.ensures.kept (lives (is_live o.route) o table (events_on z all)) (key_is (is_live o.route) o table e.what told by))
          (more_put c.args.out.now (routed o table all) block
          (later o table all p.front z (told_in c.events.kept) e more) c.events.out c.pass_on.new.out next c.in_ok-pass_on.ensures.put);
    }

pub returns-in_err-pass_on-clause-front : goal.returns-in_err-pass_on-clause-front
returns-in_err-pass_on-clause-front g c =
    let o = asked c.args.parts.now in
    let table = g.T.Aims.table (table_in c.args.parts.now) in
    let all = g.S.EventStream.all c.args.stream.now in
    let rest = g.S.EventStream.rest c.events.stream in
    let more = g.S.EventStream.rest c.next.new.self in
    let e = view c.in-Some.event in
    let p = c.events.invariant.passing in
    let d = c.device_for-device.result in
    let z = c.port_of-port.result in
    let mask = c.parts-channels.result in
    let told = c.told_key-told.result in
    let fits : mask < 65536 = search rules in
    let by : told ≡ told_of (is_live o.route) o table e.what = subst (λ b. told ≡ told_of b o table e.what) c.device_for-device.ensures.live
    c.told_key-told.ensures in
    let block = block_events d mask (told_in c.events.kept z).begun (due_if (told_in c.events.kept z).keys told) e in
    let next = turn (TracksStand c.events.tracks) o table all rest c.events.kept c.args.out.now c.events.out p e more d mask z told
    c.in-Some.ensures.some c.device_for-device.ensures.live c.device_for-device.ensures.dump
    c.device_for-device.ensures.program fits c.requires.valid (c.parts-channels.ensures o all c.requires.noted)
    (c.port_of-port.ensures p.front p.stands) by in
    on_err _ c.from_residual.result
    (front_of c.args.out.now (routed o table all) block (later o table all p.front z
    (told_in c.events.kept) e more) c.events.out c.pass_on.new.out next c.in_err-pass_on.ensures.front)
