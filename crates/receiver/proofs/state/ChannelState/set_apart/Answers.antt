use Rattle.std.proofs.Common.{◌<◌, length, ◌∙◌, sym, ap, rules}
use Rattle.midi_model.specs.Params.{rank}
use Rattle.midi_model.specs.ParameterLaws.{IsSmall}
use Rattle.receiver.specs.Params.{entries_of, parameter_of}
use Rattle.receiver.specs.State.{own_of}
use Rattle.receiver.proofs.Laws.{laws}
use Rattle.receiver.proofs.Fixed.{tidy_others, set_0, set_1, set_2, set_3, apart_last}
use Rattle.receiver.proofs.Low.{pair_set}
use Rattle.receiver.proofs.state.ChannelState.set_apart.Goals as goal

pub returns-then-rank-eq0-clause-own : goal.returns-then-rank-eq0-clause-own
returns-then-rank-eq0-clause-own c =
    let e = c.parameter_laws.ensures in
    let l = laws e.given e.others e.form e.equal in
    let s = c.args.self.now in
    let x = c.args.param in
    let es = entries_of s.others.items in
    let few : 0 < length s.fixed = search rules in
    let small : IsSmall (parameter_of x) = c.requires.entered.small in
    ap (λ ps. record (own_of s) { params = ps }) (set_0 l s.fixed es (parameter_of x) x.value few (tidy_others es s.ordered s.others_fit) small (sym c.rank-rank.ensures ∙ c.if-rank-eq0.true))

pub returns-then-rank-eq1-clause-own : goal.returns-then-rank-eq1-clause-own
returns-then-rank-eq1-clause-own c =
    let e = c.parameter_laws.ensures in
    let l = laws e.given e.others e.form e.equal in
    let s = c.args.self.now in
    let x = c.args.param in
    let es = entries_of s.others.items in
    let few : 1 < length s.fixed = search rules in
    let small : IsSmall (parameter_of x) = c.requires.entered.small in
    ap (λ ps. record (own_of s) { params = ps }) (set_1 l s.fixed es (parameter_of x) x.value few (tidy_others es s.ordered s.others_fit) small (sym c.rank-rank.ensures ∙ c.if-rank-eq1.true))

pub returns-then-rank-eq2-clause-own : goal.returns-then-rank-eq2-clause-own
returns-then-rank-eq2-clause-own c =
    let e = c.parameter_laws.ensures in
    let l = laws e.given e.others e.form e.equal in
    let s = c.args.self.now in
    let x = c.args.param in
    let es = entries_of s.others.items in
    let few : 2 < length s.fixed = search rules in
    let small : IsSmall (parameter_of x) = c.requires.entered.small in
    ap (λ ps. record (own_of s) { params = ps }) (set_2 l s.fixed es (parameter_of x) x.value few (tidy_others es s.ordered s.others_fit) small (sym c.rank-rank.ensures ∙ c.if-rank-eq2.true))

pub returns-else-rank-eq2-clause-own : goal.returns-else-rank-eq2-clause-own
returns-else-rank-eq2-clause-own c =
    let e = c.parameter_laws.ensures in
    let l = laws e.given e.others e.form e.equal in
    let s = c.args.self.now in
    let x = c.args.param in
    let es = entries_of s.others.items in
    let few : 3 < length s.fixed = search rules in
    let small : IsSmall (parameter_of x) = c.requires.entered.small in
    let last = apart_last (rank (parameter_of x)) c.requires.apart (λ e. c.if-rank-eq0.false (c.rank-rank.ensures ∙ e)) (λ e. c.if-rank-eq1.false (c.rank-rank.ensures ∙ e)) (λ e. c.if-rank-eq2.false (c.rank-rank.ensures ∙ e)) in
    ap (λ ps. record (own_of s) { params = ps }) (set_3 l s.fixed es (parameter_of x) x.value few (tidy_others es s.ordered s.others_fit) small last)

pub invariant_of-self-clause-fixed_fit : goal.invariant_of-self-clause-fixed_fit
invariant_of-self-clause-fixed_fit c =
    pair_set c.args.self.now.fixed 0 c.args.param.value c.requires.entered.high c.requires.entered.low c.args.self.now.fixed_fit

pub invariant_of-self-then-rank-eq1-clause-fixed_fit : goal.invariant_of-self-then-rank-eq1-clause-fixed_fit
invariant_of-self-then-rank-eq1-clause-fixed_fit c =
    pair_set c.args.self.now.fixed 1 c.args.param.value c.requires.entered.high c.requires.entered.low c.args.self.now.fixed_fit

pub invariant_of-self-then-rank-eq2-clause-fixed_fit : goal.invariant_of-self-then-rank-eq2-clause-fixed_fit
invariant_of-self-then-rank-eq2-clause-fixed_fit c =
    pair_set c.args.self.now.fixed 2 c.args.param.value c.requires.entered.high c.requires.entered.low c.args.self.now.fixed_fit

pub invariant_of-self-else-rank-eq2-clause-fixed_fit : goal.invariant_of-self-else-rank-eq2-clause-fixed_fit
invariant_of-self-else-rank-eq2-clause-fixed_fit c =
    pair_set c.args.self.now.fixed 3 c.args.param.value c.requires.entered.high c.requires.entered.low c.args.self.now.fixed_fit
