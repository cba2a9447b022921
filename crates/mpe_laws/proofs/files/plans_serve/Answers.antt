use Rattle.mpe_laws.proofs.Fitting.{Cited, plans_serve}
use Rattle.mpe_laws.proofs.files.plans_serve.Goals as goal

pub returns : goal.returns
returns c =
    let cited : Cited = record {
      within = c.held_laws.ensures.within;
      next = c.held_laws.ensures.next;
      begun = c.held_laws.ensures.begun;
      one = c.rests_are_runs.ensures.one_begins;
      aimed = c.sound_sources.ensures.aimed;
      timed = c.position_laws.ensures.timed;
    } in
    record { serve = plans_serve cited }
