use Rattle.std.proofs.Common.{◌≡◌, ◌∙◌, length, take, sym, ap, subst, arith}
use Rattle.std.specs.List.{AllByRecursion}
use Rattle.std.specs.Vec.{with_items}
use Rattle.std.proofs.lemmas.List.{with_items_is}
use Rattle.retune_model.specs.Options.{Options}
use Rattle.lifetimes.specs.Stands.{asked, table_in}
use Rattle.lifetimes.specs.Told.{is_sounding}
use Rattle.least_replay.specs.Found.{GoesKept}
use Rattle.least_replay.specs.FoundView.{all_seen, slots_of, needs_now, IsGoing}
use Rattle.least_replay.specs.Ending.{keep_runs}
use Rattle.least_replay.proofs.Facts.{few_begin, sounding_now, needs_at}
use Rattle.least_replay.proofs.Steps.{keeps, keeps_nothing}
use Rattle.least_replay.proofs.found.Found.keep.Goals as goal

pub returns-then-options-gt0-clause-kept : goal.returns-then-options-gt0-clause-kept
returns-then-options-gt0-clause-kept g c es channels z k sound le stands was =
    let o = asked c.args.parts.now in
    let table = g.T.Aims.table (table_in c.args.parts.now) in
    let self = c.args.self.now in
    let sounds = is_sounding o table (take k es) in
    let needs = needs_now o table (take k es) in
    let own = c.counting_laws.ensures.own in
    let holding = c.counting_laws.ensures.holding in
    let music = c.position_laws.ensures.music in
    let few = few_begin c.pair_laws.ensures.told c.fewest_channels.ensures.once c.rests_are_runs.ensures.one_begins c.sound_sources.ensures.aimed
    o table es z sound in
    let runs = (with_items self.runs c.keep_all.new.runs).items in
    let runs_are = with_items_is self.runs c.keep_all.new.runs (c.keep_all.auto.runs ∙ c.as_mut_slice.ensures.len) in
    let rs : all_seen runs ≡ keep_runs sounds needs (slots_of self.going.items) (all_seen self.runs.items) =
    ap all_seen runs_are ∙ c.keep_all.ensures (take k es) stands
    ∙ ap (λ xs. keep_runs sounds needs (slots_of xs) (all_seen c.as_mut_slice.result.now)) c.as_slice.ensures.value
    ∙ ap (λ xs. keep_runs sounds needs (slots_of self.going.items) (all_seen xs)) c.as_mut_slice.ensures.value in
    subst (λ ys. GoesKept o table es channels z k ys (slots_of self.going.items)) (sym rs)
    (keeps o table es channels z few sounds needs k (all_seen self.runs.items) (slots_of self.going.items) le
    (λ p there. sounding_now own holding music o table es z sound k k p le there)
    (λ p there. needs_at own holding music o table es z sound k k p there) was)

pub returns-then-options-gt0-clause-going : goal.returns-then-options-gt0-clause-going
returns-then-options-gt0-clause-going g c =
    let o = asked c.args.parts.now in
    let self = c.args.self.now in
    let runs = (with_items self.runs c.keep_all.new.runs).items in
    let runs_are = with_items_is self.runs c.keep_all.new.runs (c.keep_all.auto.runs ∙ c.as_mut_slice.ensures.len) in
    let n : length runs ≡ length self.runs.items = ap length runs_are ∙ c.keep_all.auto.runs ∙ ap length c.as_mut_slice.ensures.value in
    subst (λ m. AllByRecursion (IsGoing o m) self.going.items) (sym n) c.requires.going

pub returns-else-options-gt0-clause-kept : goal.returns-else-options-gt0-clause-kept
returns-else-options-gt0-clause-kept g c es channels z k sound le stands was =
    let o = asked c.args.parts.now in
    let table = g.T.Aims.table (table_in c.args.parts.now) in
    let self = c.args.self.now in
    let few = few_begin c.pair_laws.ensures.told c.fewest_channels.ensures.once c.rests_are_runs.ensures.one_begins c.sound_sources.ensures.aimed
    o table es z sound in
    let none = c.if-options-gt0.false in
    let same : c.options.result.tail ≡ o.tail = ap (λ (x : Options). x.tail) c.options.ensures in
    keeps_nothing o table es channels z few k (all_seen self.runs.items) (slots_of self.going.items)
    (λ tail. absurd (omega (arith, tail, none, same))) was
