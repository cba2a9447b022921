use Rattle.std.proofs.Common.{rules, refl, arith, false, slice_index}
use Rattle.receiver.specs.Notes.{has}
use Rattle.lifetimes.specs.OnePart.{PartEnds}
use Rattle.lifetimes.proofs.EachPart.{none_done, one_done, kept_left}
use Rattle.lifetimes.proofs.port.Port.end_all.Goals as goal

pub loop-place-init : goal.loop-place-init
loop-place-init c = record { number = refl; player = refl; parts = none_done _ c.args.self.now.parts (search rules) }

pub end_all-requires : goal.end_all-requires
end_all-requires c =
    kept_left c.args.tail c.loop-place.place c.args.self.now.parts c.loop-place.self.parts _ c.index-self-place.result (search rules)
    (omega (arith, c.loop-place-test.true)) c.requires c.loop-place.invariant.parts

pub loop-place-preserved : goal.loop-place-preserved
loop-place-preserved c =
    let i = c.loop-place.invariant in
    record {
      number = i.number;
      player = i.player;
      parts = one_done (λ e. PartEnds false
          (has (slice_index c.args.ends.now.keys e)) c.args.tick c.args.tail) c.loop-place.place c.args.self.now.parts c.loop-place.self.parts
          c.index-self-place.result c.end_all.new.self (omega (arith, c.loop-place-test.true)) i.parts c.end_all.ensures;
    }

pub returns-clause-parts : goal.returns-clause-parts
returns-clause-parts c place low d = c.loop-place.invariant.parts.done place (omega (arith, low, c.loop-place-test.false)) d

pub returns-clause-many : goal.returns-clause-many
returns-clause-many c = c.loop-place.invariant.parts.long
