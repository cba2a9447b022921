use Rattle.std.proofs.Common.{arith, true}
use Rattle.lifetimes.specs.OnePart.{PartEnds}
use Rattle.lifetimes.proofs.PartEnding.{all_end}
use Rattle.lifetimes.proofs.EachPart.{one_done}
use Rattle.lifetimes.proofs.port.Port.clear.Goals as goal

pub loop-place-preserved : goal.loop-place-preserved
loop-place-preserved c =
    let now = c.loop-place.self in
    let p = c.loop-place.place in
    let i = c.loop-place.invariant in
    record {
      number = i.number;
      player = i.player;
      parts = λ which tick tail. one_done
          (λ e. PartEnds true (which e) tick tail) p c.args.self.now.parts now.parts c.index-self-place.result c.clear.new.self
          (omega (arith, c.loop-place-test.true)) (i.parts which tick tail)
          (all_end (which p) tick tail _ _ c.clear.ensures.struck c.clear.ensures.sounding c.clear.ensures.rests);
    }

pub returns-clause-parts : goal.returns-clause-parts
returns-clause-parts c which tick tail place low d = (c.loop-place.invariant.parts which tick tail).done place
    (omega (arith, low, c.loop-place-test.false)) d

pub returns-clause-many : goal.returns-clause-many
returns-clause-many c = (c.loop-place.invariant.parts (λ d k. true) 0 0).long
