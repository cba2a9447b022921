use Rattle.std.proofs.Common.{rules, ◌≡◌, ◌≤◌, ◌<◌, ◌∙◌, sym, ap, subst, arith, length, take, drop, set, slice_index_or, [], Option}
use Rattle.std.specs.List.{AllByRecursion}
use Rattle.std.proofs.lemmas.List.{drop-set}
use Rattle.receiver.specs.Stands.{HasRoom, begun_in}
use Rattle.lifetimes.specs.Views.{options_of}
use Rattle.lifetimes.specs.Port.{HasPlace}
use Rattle.lifetimes.specs.Stands.{PortStands, place_of, place_from}
use Rattle.lifetimes.specs.declared.port.Port.{Port}
use Rattle.lifetimes.specs.declared.port.Strike.{Strike}
use Rattle.lifetimes.proofs.Opened.{kept_at, kept_set, counted_at, counted_set}
use Rattle.lifetimes.proofs.AllPorts.{numbers_of}
use Rattle.lifetimes.proofs.Admitting.{IsAlike, stands_alike, all_set, all_set_behind, all_set_there, numbers_alike}
use Rattle.lifetimes.proofs.source.Source.admit.Goals as goal

pub invariant_of-self-clause-kept : goal.invariant_of-self-clause-kept
invariant_of-self-clause-kept c =
    let old = c.args.self.now in
    let place = c.place-place.result in
    let within : place < length old.ports = search rules in
    λ some. kept_set old.ports place c.admit.new.self (c.admit.ensures.kept old.options.tail
    (λ s. kept_at old.ports place c.index-self-place.result within (old.kept s)) some) (old.kept some)

pub invariant_of-self-clause-counted : goal.invariant_of-self-clause-counted
invariant_of-self-clause-counted c =
    let old = c.args.self.now in
    let place = c.place-place.result in
    let within : place < length old.ports = search rules in
    counted_set old.position old.ports place c.admit.new.self
    (subst (λ r. begun_in r ≤ old.position) (sym c.admit.ensures.player)
    (counted_at old.position old.ports place c.index-self-place.result within old.counted)) old.counted

pub returns-in_err-admit-clause-stands : goal.returns-in_err-admit-clause-stands
returns-in_err-admit-clause-stands c = λ table es s.
    let old = c.args.self.now in
    let place = c.place-place.result in
    let x : Port = c.index-self-place.result in
    let new : Port = c.admit.new.self in
    let o = options_of old.options in
    let within : place < length old.ports = search rules in
    let alike : IsAlike (slice_index_or old.ports place x) new = record {
      number = c.admit.ensures.number;
      player = c.admit.ensures.player;
      struck = c.admit.ensures.struck;
      listed = c.admit.ensures.listed;
      rests = c.admit.ensures.rests;
    } in
    record {
      faultless = s.faultless;
      valid = s.valid;
      order = s.order;
      position = s.position;
      tick = s.tick;
      begun = s.begun;
      tracks = s.tracks;
      numbers = numbers_alike old.used old.ports place x new within alike.number ∙ s.numbers;
      ports = all_set (PortStands o table es) x new old.used old.ports place
          (stands_alike o table es (slice_index_or old.ports place x) new alike) s.ports;
      waiting = all_set_behind (PortStands o table []) x new old.used old.ports place
          (stands_alike o table [] (slice_index_or old.ports place x) new alike) s.waiting;
    }

pub returns-in_err-admit-clause-can : goal.returns-in_err-admit-clause-can
returns-in_err-admit-clause-can c = λ what can.
    let old = c.args.self.now in
    let place = c.place-place.result in
    let x : Port = c.index-self-place.result in
    let new : Port = c.admit.new.self in
    let within : place < length old.ports = search rules in
    let same : place_from 0 c.args.port (numbers_of (take old.used (set old.ports place new))) ≡ place_of old c.args.port =
    ap (place_from 0 c.args.port) (numbers_alike old.used old.ports place x new within c.admit.ensures.number) in
    record {
      place = λ says. (let low = can.place says in omega (arith, low, same));
      room = λ heard. subst (λ i. AllByRecursion (λ (p : Port). HasRoom p.player what) (take 1 (drop i (set old.ports place new)))) (sym same)
          (all_set_there (λ (p : Port). HasRoom p.player what) x new (place_of old c.args.port) old.ports place
          (subst (λ r. HasRoom r what) (sym c.admit.ensures.player)) (can.room heard));
    }

pub returns-in_ok-admit-clause-stands : goal.returns-in_ok-admit-clause-stands
returns-in_ok-admit-clause-stands c = λ table es s.
    let old = c.args.self.now in
    let place = c.place-place.result in
    let x : Port = c.index-self-place.result in
    let new : Port = c.admit.new.self in
    let o = options_of old.options in
    let within : place < length old.ports = search rules in
    let alike : IsAlike (slice_index_or old.ports place x) new = record {
      number = c.admit.ensures.number;
      player = c.admit.ensures.player;
      struck = c.admit.ensures.struck;
      listed = c.admit.ensures.listed;
      rests = c.admit.ensures.rests;
    } in
    record {
      faultless = s.faultless;
      valid = s.valid;
      order = s.order;
      position = s.position;
      tick = s.tick;
      begun = s.begun;
      tracks = s.tracks;
      numbers = numbers_alike old.used old.ports place x new within alike.number ∙ s.numbers;
      ports = all_set (PortStands o table es) x new old.used old.ports place
          (stands_alike o table es (slice_index_or old.ports place x) new alike) s.ports;
      waiting = all_set_behind (PortStands o table []) x new old.used old.ports place
          (stands_alike o table [] (slice_index_or old.ports place x) new alike) s.waiting;
    }

pub returns-in_ok-admit-clause-can : goal.returns-in_ok-admit-clause-can
returns-in_ok-admit-clause-can c = λ what can.
    let old = c.args.self.now in
    let place = c.place-place.result in
    let x : Port = c.index-self-place.result in
    let new : Port = c.admit.new.self in
    let within : place < length old.ports = search rules in
    let same : place_from 0 c.args.port (numbers_of (take old.used (set old.ports place new))) ≡ place_of old c.args.port =
    ap (place_from 0 c.args.port) (numbers_alike old.used old.ports place x new within c.admit.ensures.number) in
    record {
      place = λ says. (let low = can.place says in omega (arith, low, same));
      room = λ heard. subst (λ i. AllByRecursion (λ (p : Port). HasRoom p.player what) (take 1 (drop i (set old.ports place new)))) (sym same)
          (all_set_there (λ (p : Port). HasRoom p.player what) x new (place_of old c.args.port) old.ports place
          (subst (λ r. HasRoom r what) (sym c.admit.ensures.player)) (can.room heard));
    }

pub returns-in_ok-admit-clause-place : goal.returns-in_ok-admit-clause-place
returns-in_ok-admit-clause-place c =
    let old = c.args.self.now in
    let place = c.place-place.result in
    let x : Port = c.index-self-place.result in
    let new : Port = c.admit.new.self in
    let within : place < length old.ports = search rules in
    let same : place_from 0 c.args.port (numbers_of (take old.used (set old.ports place new))) ≡ place =
    ap (place_from 0 c.args.port) (numbers_alike old.used old.ports place x new within c.admit.ensures.number)
    ∙ sym c.place-place.ensures.place in
    subst (λ i. AllByRecursion (λ (p : Port). HasPlace old.options.tail p c.args.strike.now) (take 1 (drop i (set old.ports place new)))) (sym same)
    (subst (λ ps. AllByRecursion (λ (p : Port). HasPlace old.options.tail p c.args.strike.now) (take 1 ps))
    (sym (drop-set old.ports place new within))
    (subst (λ (s : Option Strike). HasPlace old.options.tail new s) (sym c.in-Some.is) (c.in_ok-admit.ensures.place old.options.tail), tt))
