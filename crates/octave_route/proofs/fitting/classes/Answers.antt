use Rattle.key_pitch.specs.Aims.{table_of}
use Rattle.octave_route.proofs.Fit.{fit_next}
use Rattle.octave_route.proofs.fitting.classes.Goals as goal

pub loop-key-preserved : goal.loop-key-preserved
loop-key-preserved c = fit_next (table_of c.args.table.now) c.args.used c.loop-key.key c.loop-key.invariant c.in_ok-check.ensures.fits
