use Rattle.std.proofs.Common.{arith, ◌∙◌, sym, ap}
use Rattle.receiver.specs.Params.{entries_of, parameter_of}
use Rattle.receiver.specs.Kept.{is_apart, is_canonical, are_others}
use Rattle.receiver.specs.State.{own_of, params_of}
use Rattle.receiver.proofs.Laws.{laws}
use Rattle.receiver.proofs.Tidy.{others_put, ordered_put}
use Rattle.receiver.proofs.Fixed.{tidy_others, set_own, counted_own, own_from, is_other_own}
use Rattle.receiver.proofs.state.ChannelState.set_value.Goals as goal

pub set_apart-requires : goal.set_apart-requires
set_apart-requires c = record {
  entered = c.requires.entered;
  apart = ap is_apart (sym c.rank.ensures) ∙ sym c.is_kept_apart.ensures ∙ c.if-is_kept_apart.true;
}

pub put_in-requires : goal.put_in-requires
put_in-requires c =
    let e = c.parameter_laws.ensures in
    let l = laws e.given e.others e.form e.equal in
    let s = c.args.self.now in
    let x = c.args.param in
    let h = ap is_apart (sym c.rank.ensures) ∙ sym c.is_kept_apart.ensures ∙ c.if-is_kept_apart.false in
    let n = counted_own l s.fixed (entries_of s.others.items) (parameter_of x) x.value s.ordered s.others_fit (own_from (parameter_of x) h) c.requires.entered in
    omega (arith, n, c.requires.room)

pub invariant_of-self-clause-ordered : goal.invariant_of-self-clause-ordered
invariant_of-self-clause-ordered c =
    let e = c.parameter_laws.ensures in
    let l = laws e.given e.others e.form e.equal in
    let s = c.args.self.now in
    let x = c.args.param in
    let es = entries_of s.others.items in
    ap is_canonical c.put_in.ensures ∙ ordered_put l (parameter_of x) x.value es s.ordered

pub invariant_of-self-clause-others_fit : goal.invariant_of-self-clause-others_fit
invariant_of-self-clause-others_fit c =
    let s = c.args.self.now in
    let x = c.args.param in
    let es = entries_of s.others.items in
    let h = ap is_apart (sym c.rank.ensures) ∙ sym c.is_kept_apart.ensures ∙ c.if-is_kept_apart.false in
    let o = own_from (parameter_of x) h in
    ap are_others c.put_in.ensures ∙ others_put (parameter_of x) x.value es (is_other_own (parameter_of x) x.value o c.requires.entered) s.others_fit

pub returns-else-is_kept_apart-clause-own : goal.returns-else-is_kept_apart-clause-own
returns-else-is_kept_apart-clause-own c =
    let e = c.parameter_laws.ensures in
    let l = laws e.given e.others e.form e.equal in
    let s = c.args.self.now in
    let x = c.args.param in
    let es = entries_of s.others.items in
    let h = ap is_apart (sym c.rank.ensures) ∙ sym c.is_kept_apart.ensures ∙ c.if-is_kept_apart.false in
    ap (λ ps. record (own_of s) { params = ps })
    (ap (params_of s.fixed) c.put_in.ensures
    ∙ set_own l s.fixed es (parameter_of x) x.value (tidy_others es s.ordered s.others_fit) c.requires.entered.small (own_from (parameter_of x) h))
