use Rattle.std.proofs.Common.{◌≡◌, ◌∙◌, sym, ap, rules, true, false, subst, List}
use Rattle.midi_model.specs.Params.{rank, value_of, IsCanonical}
use Rattle.receiver.specs.declared.param.Param.{Param}
use Rattle.receiver.specs.Params.{entries_of, numbered}
use Rattle.receiver.specs.Kept.{is_apart}
use Rattle.receiver.proofs.Laws.{laws}
use Rattle.receiver.proofs.Tidy.{canonical_from}
use Rattle.receiver.proofs.Fixed.{tidy_others, value_0, value_1, value_2, value_3, value_own, own_from, apart_last}
use Rattle.receiver.proofs.state.ChannelState.value_at.Goals as goal

pub value_in-requires : goal.value_in-requires
value_in-requires c =
    let s = c.args.self.now in
    let P : List Param → Type 0 = λ os. IsCanonical (entries_of os) in
    subst P (sym c.as_slice.ensures.value) (canonical_from (entries_of s.others.items) s.ordered)

pub returns-then-not-is_kept_apart : goal.returns-then-not-is_kept_apart
returns-then-not-is_kept_apart c =
    let e = c.parameter_laws.ensures in
    let l = laws e.given e.others e.form e.equal in
    let s = c.args.self.now in
    let p = numbered c.args.registered c.args.high c.args.low in
    let d : c.is_kept_apart.result ≡ false = search rules in
    let h = ap is_apart (sym c.rank_of-rank.ensures) ∙ sym c.is_kept_apart.ensures ∙ d in
    c.value_in.ensures ∙ ap (λ os. value_of (entries_of os) p) c.as_slice.ensures.value ∙ value_own l s.fixed (entries_of s.others.items) p (own_from p h)

pub returns-then-rank-eq0 : goal.returns-then-rank-eq0
returns-then-rank-eq0 c =
    let e = c.parameter_laws.ensures in
    let l = laws e.given e.others e.form e.equal in
    let s = c.args.self.now in
    let es = entries_of s.others.items in
    value_0 l s.fixed es (numbered c.args.registered c.args.high c.args.low) (tidy_others es s.ordered s.others_fit) (sym c.rank_of-rank.ensures ∙ c.if-rank-eq0.true)

pub returns-then-rank-eq1 : goal.returns-then-rank-eq1
returns-then-rank-eq1 c =
    let e = c.parameter_laws.ensures in
    let l = laws e.given e.others e.form e.equal in
    let s = c.args.self.now in
    let es = entries_of s.others.items in
    value_1 l s.fixed es (numbered c.args.registered c.args.high c.args.low) (tidy_others es s.ordered s.others_fit) (sym c.rank_of-rank.ensures ∙ c.if-rank-eq1.true)

pub returns-then-rank-eq2 : goal.returns-then-rank-eq2
returns-then-rank-eq2 c =
    let e = c.parameter_laws.ensures in
    let l = laws e.given e.others e.form e.equal in
    let s = c.args.self.now in
    let es = entries_of s.others.items in
    value_2 l s.fixed es (numbered c.args.registered c.args.high c.args.low) (tidy_others es s.ordered s.others_fit) (sym c.rank_of-rank.ensures ∙ c.if-rank-eq2.true)

pub returns-else-rank-eq2 : goal.returns-else-rank-eq2
returns-else-rank-eq2 c =
    let e = c.parameter_laws.ensures in
    let l = laws e.given e.others e.form e.equal in
    let s = c.args.self.now in
    let es = entries_of s.others.items in
    let p = numbered c.args.registered c.args.high c.args.low in
    let d : c.is_kept_apart.result ≡ true = search rules in
    let h = ap is_apart (sym c.rank_of-rank.ensures) ∙ sym c.is_kept_apart.ensures ∙ d in
    value_3 l s.fixed es p (tidy_others es s.ordered s.others_fit)
    (apart_last (rank p) h (λ e. c.if-rank-eq0.false (c.rank_of-rank.ensures ∙ e)) (λ e. c.if-rank-eq1.false (c.rank_of-rank.ensures ∙ e)) (λ e. c.if-rank-eq2.false (c.rank_of-rank.ensures ∙ e)))
