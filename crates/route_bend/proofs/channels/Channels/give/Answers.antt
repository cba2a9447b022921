use Rattle.std.proofs.Common.{◌≡◌, ◌<◌, length, set, slice_index, refl, ap, subst, rules, arith, w32, to_z, of_z}
use Rattle.std.proofs.lemmas.Int.{to_z-of_z}
use Rattle.lifetimes.specs.Views.{pair_of}
use Rattle.route_bend.specs.Channels.{Gives}
use Rattle.route_bend.specs.declared.channels.Channels.{Channels}
use Rattle.route_bend.proofs.Giving.{gives, with_bit}
use Rattle.route_bend.proofs.channels.Channels.give.Goals as goal

pub returns : goal.returns
returns c =
    let s = c.args.self.now in
    let p = pair_of c.args.pair.now in
    let mid = c.take_away.new.self in
    let n = c.number-number.result in
    let i = c.number.result in
    let kept = to_z w32 (of_z w32 p.steps) in
    let new : Channels = record mid { given = set mid.given i (with_bit (slice_index mid.given i) n); steps = set mid.steps n kept } in
    let low : n < 16 = omega (arith, c.number-number.ensures.bound) in
    let part : p.part.channel < 16 = omega (arith, c.number.ensures.value, c.number.ensures.bound) in
    let masks : length mid.given ≡ 16 = search rules in
    let all_steps : length mid.steps ≡ 16 = search rules in
    subst (λ k. Gives p k s new) c.number-number.ensures.value
    (gives p n s mid new low part masks all_steps c.take_away.ensures refl refl
    (ap (λ k. set mid.given k (with_bit (slice_index mid.given k) n)) c.number.ensures.value)
    (ap (set mid.steps n) (to_z-of_z w32 p.steps (search rules))))
