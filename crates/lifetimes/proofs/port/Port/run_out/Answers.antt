use Rattle.std.proofs.Common.{rules, ◌<◌, ◌∙◌, get_or, refl, arith}
use Rattle.std.proofs.lemmas.List.{length-set}
use Rattle.lifetimes.proofs.PartEnding.{none_forgotten}
use Rattle.lifetimes.proofs.EachPart.{one_forgets}
use Rattle.lifetimes.proofs.port.Port.run_out.Goals as goal

pub loop-channel-init : goal.loop-channel-init
loop-channel-init c = record {
  number = refl;
  player = refl;
  long = search rules;
  parts = λ place low d. none_forgotten c.args.tick c.args.tail (get_or c.args.self.now.parts place d);
}

pub loop-channel-preserved : goal.loop-channel-preserved
loop-channel-preserved c =
    let now = c.loop-channel.self in
    let i = c.loop-channel.invariant in
    let p = c.number.result in
    let low : p < 16 = omega (arith, c.number.ensures.bound) in
    record {
      number = i.number;
      player = i.player;
      long = length-set now.parts p c.run_out.new.self ∙ i.long;
      parts = one_forgets c.args.tick c.args.tail p c.args.self.now.parts now.parts c.index-self-number.result c.run_out.new.self i.long low i.parts
          (c.run_out.ensures c.args.tick c.args.tail (omega (arith, c.if-tick-end.false)));
    }
