use Rattle.std.proofs.Common.{◌≡◌, ◌<◌, ◌∙◌, None, Some, length, get_or, sym, ap, subst, arith}
use Rattle.std.proofs.lemmas.List.{length-map, map-set, get_or-map}
use Rattle.lifetimes.specs.Views.{pair_of}
use Rattle.least_replay.specs.Found.{IsPut}
use Rattle.least_replay.specs.FoundView.{slot_of, slots_of}
use Rattle.least_replay.proofs.Exact.{put_set}
use Rattle.least_replay.proofs.found.put.Goals as goal

pub returns-then-place-len-clause-put : goal.returns-then-place-len-clause-put
returns-then-place-len-clause-put c =
    let items = c.args.going.now.items in
    let place = c.free_place-place.result in
    let l : place < length items = (let t = c.if-place-len.true in let e = c.len.ensures in omega (arith, t, e)) in
    let free : get_or items place None ≡ None = ap (λ xs. get_or xs place None) (sym c.as_slice.ensures.value) ∙ c.free_place-place.ensures.free in
    subst (λ ys. IsPut (slots_of items) ys (record { pair = pair_of c.args.run.pair; run = c.args.run.run }))
    (sym (map-set slot_of items place (Some c.args.run)))
    (put_set (slots_of items) place (record { pair = pair_of c.args.run.pair; run = c.args.run.run })
    (let m = length-map items slot_of in omega (arith, l, m))
    (get_or-map slot_of items place None None l ∙ ap slot_of free))
