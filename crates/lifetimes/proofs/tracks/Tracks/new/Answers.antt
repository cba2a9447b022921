use Rattle.std.proofs.Common.{false}
use Rattle.std.proofs.lemmas.List.{get_or-replicate}
use Rattle.lifetimes.proofs.tracks.Tracks.new.Goals as goal

pub returns : goal.returns
returns c = record {
  ports = λ track below. get_or-replicate 1024 track 0 0 below;
  started = λ track below. get_or-replicate 1024 track false false below;
}
