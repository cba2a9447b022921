use Rattle.std.proofs.Common.{sym, subst}
use Rattle.midi_model.specs.Merged.{merged}
use Rattle.retune_model.specs.PlaysTheSame.{PlayTheSame, plain_device}
use Rattle.retune_model.proofs.Laws.{laws}
use Rattle.retune_model.proofs.LiveFile.{live_same}
use Rattle.retune_model.proofs.routes.live_plays_the_same.Goals as goal

pub returns-clause-events : goal.returns-clause-events
returns-clause-events c = live_same (laws c.sums.ensures.least c.sums.ensures.most c.exact.ensures.least c.exact.ensures.most c.wider.ensures.least c.wider.ensures.most c.music_laws.ensures.settled c.music_laws.ensures.fade)

pub returns-clause-file : goal.returns-clause-file
returns-clause-file c scaling o table told source out shape is d = record {
  shape = shape;
  events = subst (λ x. PlayTheSame scaling o table (plain_device o) (merged source) x) (sym is) (returns-clause-events c scaling o table told (merged source) d);
}
