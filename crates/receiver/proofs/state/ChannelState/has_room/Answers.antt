use Rattle.std.proofs.Common.{◌≤◌, length, arith, ◌∙◌, sym, ap}
use Rattle.std.proofs.lemmas.List.{length-map}
use Rattle.receiver.specs.Params.{entries_of, entry_of, parameter_of}
use Rattle.receiver.specs.Kept.{is_apart}
use Rattle.receiver.proofs.Laws.{laws}
use Rattle.receiver.proofs.Fixed.{counted_apart, counted_own, own_from}
use Rattle.receiver.proofs.state.ChannelState.has_room.Goals as goal

pub returns-then-is_kept_apart : goal.returns-then-is_kept_apart
returns-then-is_kept_apart c =
    let s = c.args.self.now in
    let x = c.args.param in
    let h = ap is_apart (sym c.rank.ensures) ∙ sym c.is_kept_apart.ensures ∙ c.if-is_kept_apart.true in
    let n = counted_apart s.fixed (entries_of s.others.items) (parameter_of x) x.value s.others_fit h in
    let m = length-map s.others.items entry_of in
    let few : length s.others.items ≤ 16 = omega (arith, c.len.ensures.value, c.len.ensures.fits) in
    (λ t. omega (arith, n, m, few), λ t. grind (arith, c.len.ensures.fits))

pub returns-else-is_kept_apart : goal.returns-else-is_kept_apart
returns-else-is_kept_apart c =
    let e = c.parameter_laws.ensures in
    let l = laws e.given e.others e.form e.equal in
    let s = c.args.self.now in
    let x = c.args.param in
    let h = ap is_apart (sym c.rank.ensures) ∙ sym c.is_kept_apart.ensures ∙ c.if-is_kept_apart.false in
    let n = counted_own l s.fixed (entries_of s.others.items) (parameter_of x) x.value s.ordered s.others_fit (own_from (parameter_of x) h) c.requires.entered in
    (λ t. (let k = c.has_room.ensures.0 t in omega (arith, n, k)), λ t. c.has_room.ensures.1 (omega (arith, n, t)))
