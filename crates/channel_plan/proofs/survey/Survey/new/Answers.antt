use Rattle.std.proofs.Common.{refl, sym, subst}
use Rattle.std.proofs.lemmas.List.{get_or-replicate}
use Rattle.channel_plan.specs.Passing.{channels_in}
use Rattle.channel_plan.proofs.Surveyed.{nothing_before}
use Rattle.channel_plan.specs.Surveys.{AreTallies}
use Rattle.channel_plan.proofs.survey.Survey.new.Goals as goal

pub returns : goal.returns
returns c o table es by = record {
  counted = by;
  noted = c.new.ensures o;
  drums = λ z low. get_or-replicate 256 z _ _ low;
  tallies = subst (λ ts. AreTallies o table es 0 ts) (sym c.new-2.ensures.items) (record {
    stand = tt;
    others = λ z part is none j low. nothing_before c.taken_laws.ensures.pairs o (channels_in o part) table es z j low;
  });
  empty = c.new-3.ensures.empty;
  high = λ z low. refl;
}
