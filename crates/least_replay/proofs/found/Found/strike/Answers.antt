use Rattle.std.proofs.Common.{◌∙◌, suc, take, sym, ap}
use Rattle.std.specs.Prelude.{unwrap_or}
use Rattle.lifetimes.specs.Views.{pair_of}
use Rattle.lifetimes.specs.Stands.{asked, table_in}
use Rattle.lifetimes.specs.Told.{count_begun}
use Rattle.channel_plan.specs.Told.{channel_in}
use Rattle.channel_plan.proofs.Beginning.{EventKit, begins_note_told, begins_nothing_told}
use Rattle.least_replay.specs.FoundView.{all_seen, slots_of}
use Rattle.least_replay.specs.Serving.{channel_at}
use Rattle.least_replay.proofs.Facts.{few_begin}
use Rattle.least_replay.proofs.Steps.{none_begins}
use Rattle.least_replay.proofs.Striking.{note_counts, nothing_begins, other_begins}
use Rattle.least_replay.proofs.found.Found.strike.Goals as goal

pub returns-in-None-clause-goes : goal.returns-in-None-clause-goes
returns-in-None-clause-goes g c es k e sound at comes stands told resets was =
    let o = asked c.args.parts.now in
    let table = g.T.Aims.table (table_in c.args.parts.now) in
    let self = c.args.self.now in
    let z = c.args.port in
    let kit : EventKit = record {
      taken = c.taken_laws.ensures.next;
      begun = c.counting_laws.ensures.begun;
      aimed = c.counting_laws.ensures.aimed;
      reset = c.event_laws.ensures.reset;
      events = c.event_laws.ensures.events;
    } in
    let same = c.pair_laws.ensures.told in
    let few = few_begin same c.fewest_channels.ensures.once c.rests_are_runs.ensures.one_begins c.sound_sources.ensures.aimed o table es z sound in
    let nothing = begins_nothing_told kit o table es k e comes (suc (count_begun o (take k es))) (sym told ∙ c.in-None.is) in
    none_begins o table es (channel_at o es c.args.plan.now) z few k (all_seen self.runs.items) (slots_of self.going.items) same
    (nothing_begins c.run_counts.ensures.none o table es z k sound nothing) was

pub returns-then-begun-port-clause-goes : goal.returns-then-begun-port-clause-goes
returns-then-begun-port-clause-goes g c es k e sound at comes stands told resets was =
    let o = asked c.args.parts.now in
    let table = g.T.Aims.table (table_in c.args.parts.now) in
    let self = c.args.self.now in
    let z = c.args.port in
    let b = c.in-Some.begun in
    let kit : EventKit = record {
      taken = c.taken_laws.ensures.next;
      begun = c.counting_laws.ensures.begun;
      aimed = c.counting_laws.ensures.aimed;
      reset = c.event_laws.ensures.reset;
      events = c.event_laws.ensures.events;
    } in
    let same = c.pair_laws.ensures.told in
    let few = few_begin same c.fewest_channels.ensures.once c.rests_are_runs.ensures.one_begins c.sound_sources.ensures.aimed o table es z sound in
    let begins = begins_note_told kit o table es k e comes (suc (count_begun o (take k es))) b
    (λ h. record { bends = h; in_order = stands.order; faultless = stands.faultless }) (sym told ∙ c.in-Some.is) in
    none_begins o table es (channel_at o es c.args.plan.now) z few k (all_seen self.runs.items) (slots_of self.going.items) same
    (other_begins c.run_counts.ensures.none o table es z k e (pair_of b.pair) sound begins.0 c.if-begun-port.true) was

pub returns-clause-goes : goal.returns-clause-goes
returns-clause-goes g c es k e sound at comes stands told resets was =
    let o = asked c.args.parts.now in
    let table = g.T.Aims.table (table_in c.args.parts.now) in
    let plan = c.args.plan.now in
    let z = c.args.port in
    let b = c.in-Some.begun in
    let kit : EventKit = record {
      taken = c.taken_laws.ensures.next;
      begun = c.counting_laws.ensures.begun;
      aimed = c.counting_laws.ensures.aimed;
      reset = c.event_laws.ensures.reset;
      events = c.event_laws.ensures.events;
    } in
    let is = sym told ∙ c.in-Some.is in
    let begins = begins_note_told kit o table es k e comes (suc (count_begun o (take k es))) b
    (λ h. record { bends = h; in_order = stands.order; faultless = stands.faultless }) is in
    let channel = c.channel_of.ensures ∙ ap (λ n. unwrap_or (channel_in plan n) 0) (note_counts o table es k e b (pair_of b.pair) is begins.0) in
    c.begin.ensures.goes es (channel_at o es plan) z k e sound at (sym c.if-begun-port.false) channel resets stands begins.0 was
