use Rattle.std.proofs.Common.{◌<◌, ◌^◌, ◌∙◌, rules, ap, sym, refl, slice_index}
use Rattle.route_bend.specs.Channels.{is_given}
use Rattle.route_bend.proofs.Masks.{has_none_from}
use Rattle.route_bend.proofs.channels.Channels.end.Goals as goal

pub returns-clause-none : goal.returns-clause-none
returns-clause-none c d from low =
    let mask = slice_index c.args.self.now.given c.number.result in
    let fits : mask < 2 ^ 16 = search rules in
    ap (λ a. is_given c.args.self.now a d) (sym c.number.ensures.value) ∙ has_none_from mask _ d fits refl from
