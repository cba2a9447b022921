use Rattle.std.proofs.Common.{◌≡◌, ◌∙◌, length, slice_index, sym, rules, arith}
use Rattle.receiver.specs.Notes.{has}
use Rattle.lifetimes.proofs.EachPart.{ends_alone, placed_at}
use Rattle.lifetimes.proofs.port.Port.end_here.Goals as goal

pub end_all-requires : goal.end_all-requires
end_all-requires c some =
    let many : length c.args.self.now.parts ≡ 16 = search rules in
    placed_at c.args.self.now.parts c.number-place.result c.index-self-place.result (c.requires.kept some)
    (omega (arith, many, c.number-place.ensures.bound))

pub returns-clause-parts : goal.returns-clause-parts
returns-clause-parts c =
    let many : length c.args.self.now.parts ≡ 16 = search rules in
    ends_alone (λ e. has (slice_index c.args.ends.now.keys e)) c.args.tick c.args.tail c.number-place.result c.args.self.now.parts
    c.index-self-place.result c.end_all.new.self
    (omega (arith, many, c.number-place.ensures.bound))
    (λ e k el kl apart. c.requires.others e k el kl (λ s. apart (s ∙ sym c.number-place.ensures.value))) c.end_all.ensures
