use Rattle.std.proofs.Common.{◌≡◌, ◌≢◌, ◌≤◌, ℕ, List, Some, sym, ap, ◌∙◌, arith}
use Rattle.mt_base.specs.Midi.{MidiEvent}
use Rattle.retune_model.specs.Options.{Options}
use Rattle.retune_model.specs.Faults.{Targets}
use Rattle.retune_model.specs.Places.{nth}
use Rattle.least_replay.specs.Cover.{Table}
use Rattle.least_replay.specs.Measure.{Run, IsMeasureOf, runs_of, first_of, last_of}
use Rattle.least_replay.specs.Priced.{AreAssigned, place_of}
use Rattle.least_replay.proofs.RunLists.{nth_below}
use Rattle.least_replay.proofs.Costing.{are_runs, first_is, last_is}
use Rattle.least_replay.proofs.Facts.{few_begin, none_first}
use Rattle.least_replay.proofs.Priced.{price_is}
use Rattle.least_replay.proofs.serving.measured_prices.Goals as goal

pub returns-clause-runs : goal.returns-clause-runs
returns-clause-runs c o table es z t sound measure = are_runs o table es z
    (few_begin c.pair_laws.ensures.told c.fewest_channels.ensures.once c.rests_are_runs.ensures.one_begins c.sound_sources.ensures.aimed o table es z
    sound) t measure

apart : (o : Options) (table : Targets) (es : List MidiEvent) (z : ℕ) (t : Table) (row : ℕ → ℕ) → IsMeasureOf o table es z t
    → AreAssigned o table es z t row → (a b : ℕ) (q s : Run) (j : ℕ) → nth a (runs_of o table es z) ≡ Some q
    → nth b (runs_of o table es z) ≡ Some s → a ≢ b → q.first ≤ j → j ≤ q.last → s.first ≤ j → j ≤ s.last → row q.first ≢ row s.first
apart o table es z t row measure is a b q s j na nb d fa la fb lb same =
    let all : List Run = runs_of o table es z in
    let many = measure.runs in
    let xa = nth_below all a q na in
    let xb = nth_below all b s nb in
    let ea = first_is all a q na in
    let ga = last_is all a q na in
    let eb = first_is all b s nb in
    let gb = last_is all b s nb in
    is.apart a b j (omega (arith, xa, many)) (omega (arith, xb, many)) d (omega (arith, ea, fa), omega (arith, ga, la))
    (omega (arith, eb, fb), omega (arith, gb, lb)) (ap row ea ∙ same ∙ ap row (sym eb))

pub returns-clause-price : goal.returns-clause-price
returns-clause-price c o table es z t row sound measure is =
    let told = c.pair_laws.ensures.told in
    let runs = c.rests_are_runs.ensures.one_begins in
    let aimed = c.sound_sources.ensures.aimed in
    price_is told c.elsewhere.ensures.reset o table es z (none_first runs aimed o table es z sound)
    (few_begin told c.fewest_channels.ensures.once runs aimed o table es z sound) row (apart o table es z t row measure is) t measure

pub returns-clause-least : goal.returns-clause-least
returns-clause-least c o table es z t u v p row sound measure good is =
    let e = returns-clause-price c o table es z t row sound measure is in
    let l = c.no_assignment_costs_less.ensures t u v p good (first_of (runs_of o table es z)) (last_of (runs_of o table es z))
    (place_of o table es z row) (returns-clause-runs c o table es z t sound measure) is in
    omega (arith, e, l)
