use Rattle.smf_read.proofs.reading.+quantity_from.Given as goal

abbrev pub decreases-quantity_from : goal.decreases-quantity_from
decreases-quantity_from l = l.turns
