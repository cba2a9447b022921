use Rattle.std.proofs.Common.{◌++◌, ◌+◌, length, take, ap, sym, ◌∙◌, length-append}
use Rattle.std.proofs.KnownBytes.{Consumes-trans}
use Rattle.mtune_real.proofs.reading.has_more.Goals as goal

pub loop-taken-preserved : goal.loop-taken-preserved
loop-taken-preserved g c =
    let (bytes, read, long) = c.loop-taken.invariant in
    let piece = take c.in_ok-count.count c.read.new.buf in
    let more = ap (λ k. k + length piece) long ∙ ap (λ k. c.loop-taken.taken + k) (sym c.in_ok-count.ensures.bound.1) in
    (bytes ++ piece, Consumes-trans _ _ _ bytes piece read c.in_ok-count.ensures.bytes.0, length-append bytes piece ∙ more)
