use Rattle.std.proofs.Common.{◌≡◌, ◌≤◌, ◌+◌, ℕ, length, take, arith, ap, ◌∙◌, List}
use Rattle.std.proofs.lemmas.List.{length-map, length-take}
use Rattle.midi_model.specs.Params.{put}
use Rattle.receiver.specs.declared.param.Param.{Param}
use Rattle.receiver.specs.Params.{entries_of, entry_of, parameter_of}
use Rattle.receiver.proofs.Tidy.{length_put}
use Rattle.receiver.proofs.state.ChannelState.params.Goals as goal

-- a parameter that is put in makes the list longer by one at most
grown : (p : Param) (old new : List Param) → entries_of new ≡ put (parameter_of p) p.value (entries_of old) → length (entries_of new) ≤ length (entries_of old) + 1
grown p old new e = let l = ap length e in let m = length_put (parameter_of p) p.value (entries_of old) in omega (arith, l, m)

first : (i : ℕ) (others params slice : List Param) → slice ≡ others → length slice ≤ 16 → params ≡ take i others → length (entries_of params) ≤ 16
first i others params slice s few e =
    let n = length-map params entry_of in
    let t = ap length e ∙ length-take i others in
    let l = ap length s in
    omega (arith, n, t, l, few)

pub put_in-requires : goal.put_in-requires
put_in-requires c =
    let x = c.registered.result in
    let n = length_put (parameter_of x) x.value (entries_of c.loop-param.params.items) in
    let few = first c.loop-param.param-index c.args.self.now.others.items c.loop-param.params.items c.as_slice-param-items.result.now c.as_slice-param-items.ensures.value c.as_slice-param-items.ensures.fits c.loop-param.invariant in
    (omega arith, omega (arith, n, few))

pub put_in-requires-2 : goal.put_in-requires-2
put_in-requires-2 c =
    let x = c.registered-2.result in
    let n = length_put (parameter_of x) x.value (entries_of c.put_in.new.others.items) in
    let few = first c.loop-param.param-index c.args.self.now.others.items c.loop-param.params.items c.as_slice-param-items.result.now c.as_slice-param-items.ensures.value c.as_slice-param-items.ensures.fits c.loop-param.invariant in
    let one = grown c.registered.result c.loop-param.params.items c.put_in.new.others.items c.put_in.ensures in
    (omega arith, omega (arith, n, few, one))

pub put_in-requires-3 : goal.put_in-requires-3
put_in-requires-3 c =
    let x = c.registered-3.result in
    let n = length_put (parameter_of x) x.value (entries_of c.put_in-2.new.others.items) in
    let few = first c.loop-param.param-index c.args.self.now.others.items c.loop-param.params.items c.as_slice-param-items.result.now c.as_slice-param-items.ensures.value c.as_slice-param-items.ensures.fits c.loop-param.invariant in
    let one = grown c.registered.result c.loop-param.params.items c.put_in.new.others.items c.put_in.ensures in
    let two = grown c.registered-2.result c.put_in.new.others.items c.put_in-2.new.others.items c.put_in-2.ensures in
    (omega arith, omega (arith, n, few, one, two))

pub put_in-requires-4 : goal.put_in-requires-4
put_in-requires-4 c =
    let x = c.registered-4.result in
    let n = length_put (parameter_of x) x.value (entries_of c.put_in-3.new.others.items) in
    let few = first c.loop-param.param-index c.args.self.now.others.items c.loop-param.params.items c.as_slice-param-items.result.now c.as_slice-param-items.ensures.value c.as_slice-param-items.ensures.fits c.loop-param.invariant in
    let one = grown c.registered.result c.loop-param.params.items c.put_in.new.others.items c.put_in.ensures in
    let two = grown c.registered-2.result c.put_in.new.others.items c.put_in-2.new.others.items c.put_in-2.ensures in
    let three = grown c.registered-3.result c.put_in-2.new.others.items c.put_in-3.new.others.items c.put_in-3.ensures in
    (omega arith, omega (arith, n, few, one, two, three))
