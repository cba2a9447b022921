use Rattle.std.proofs.Common.{rules, refl, arith}
use Rattle.lifetimes.specs.Views.{options_of}
use Rattle.lifetimes.proofs.source.Source.new.Goals as goal

pub invariant_of-result : goal.invariant_of-result
invariant_of-result c = record {
  range_some = c.requires.range_some;
  range_high = c.requires.range_high;
  few = search rules;
  kept = λ lt. rw (c.new-2.ensures.kept c.args.options.tail lt, c.new-3.ensures.kept c.args.options.tail lt, c.new-4.ensures.kept c.args.options.tail lt, c.new-5.ensures.kept c.args.options.tail lt) refl;
  some = search rules;
  counted = rw (c.new-2.ensures.begun, c.new-3.ensures.begun, c.new-4.ensures.begun, c.new-5.ensures.begun) refl;
}

pub returns-clause-stands : goal.returns-clause-stands
returns-clause-stands c table = record {
  faultless = λ k lt. absurd (omega (arith, lt));
  valid = tt;
  order = tt;
  position = refl;
  tick = refl;
  begun = refl;
  tracks = c.new.ensures;
  numbers = refl;
  ports = tt;
  waiting = (
    c.new-2.ensures.stands (options_of c.args.options) table,
    (
      c.new-3.ensures.stands (options_of c.args.options) table,
      (c.new-4.ensures.stands (options_of c.args.options) table, (c.new-5.ensures.stands (options_of c.args.options) table, tt)),
    ),
  );
}
