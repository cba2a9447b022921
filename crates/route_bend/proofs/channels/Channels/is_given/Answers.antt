use Rattle.std.proofs.Common.{◌∙◌, slice_index, ap}
use Rattle.route_bend.specs.Channels.{is_given}
use Rattle.route_bend.proofs.Masks.{tested}
use Rattle.route_bend.proofs.channels.Channels.is_given.Goals as goal

pub returns : goal.returns
returns c =
    tested (slice_index c.args.self.now.given c.number.result) c.args.number c.requires
    ∙ ap (λ p. is_given c.args.self.now p c.args.number) c.number.ensures.value
