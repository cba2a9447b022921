use Rattle.std.proofs.Common.{◌≡◌, ◌∙◌, ◌++◌, ◌∷◌, [], suc, true, false, length, take, refl, sym, ap, subst, arith}
use Rattle.std.proofs.lemmas.List.{length-map, length-append, map_push}
use Rattle.std.proofs.lemmas.Result.{on_ok_weaker}
use Rattle.lifetimes.specs.Views.{pair_of}
use Rattle.lifetimes.specs.Stands.{asked, table_in}
use Rattle.least_replay.specs.Found.{goes_on, Goes, GoesEnded, IsPut, resets_on}
use Rattle.least_replay.specs.declared.found.Run.{Run}
use Rattle.least_replay.specs.FoundView.{seen, all_seen, slots_of}
use Rattle.least_replay.proofs.Exact.{going_more}
use Rattle.least_replay.proofs.Facts.{few_begin, needs_at}
use Rattle.least_replay.proofs.Steps.{none_begins, one_begins, goes_there, goes_not}
use Rattle.least_replay.proofs.Striking.{begun_there, only_begins, none_new}
use Rattle.least_replay.proofs.found.Found.begin.Goals as goal

pub returns-then-goes_on-clause-goes : goal.returns-then-goes_on-clause-goes
returns-then-goes_on-clause-goes g c es channels z k e sound at port channel resets stands begins was =
    let o = asked c.args.parts.now in
    let table = g.T.Aims.table (table_in c.args.parts.now) in
    let self = c.args.self.now in
    let p = pair_of c.args.pair.now in
    let y = p.part.port in
    let rs = all_seen self.runs.items in
    let xs = slots_of self.going.items in
    let told = c.pair_laws.ensures.told in
    let few = few_begin told c.fewest_channels.ensures.once c.rests_are_runs.ensures.one_begins c.sound_sources.ensures.aimed o table es y sound in
    let was' : GoesEnded o table es channels y k rs xs = subst (λ w. GoesEnded o table es channels w k rs xs) port was in
    let on : goes_on xs p ≡ true = ap (λ ys. goes_on (slots_of ys) p) (sym c.as_slice.ensures.value) ∙ sym c.goes_on.ensures ∙ c.if-goes_on.true in
    let lk = begins.within in
    let there = goes_there o table es channels y few k rs xs p (omega (arith, lk)) told was' on in
    subst (λ w. Goes o table es channels w (suc k) rs xs) (sym port)
    (none_begins o table es channels y few k rs xs told (none_new o table es k e p sound begins c.run_counts.ensures.one there) was')

pub returns-clause-goes : goal.returns-clause-goes
returns-clause-goes g c es channels z k e sound at port channel resets stands begins was =
    let o = asked c.args.parts.now in
    let table = g.T.Aims.table (table_in c.args.parts.now) in
    let self = c.args.self.now in
    let p = pair_of c.args.pair.now in
    let y = p.part.port in
    let rs = all_seen self.runs.items in
    let xs = slots_of self.going.items in
    let told = c.pair_laws.ensures.told in
    let aimed = c.sound_sources.ensures.aimed in
    let few = few_begin told c.fewest_channels.ensures.once c.rests_are_runs.ensures.one_begins aimed o table es y sound in
    let was' : GoesEnded o table es channels y k rs xs = subst (λ w. GoesEnded o table es channels w k rs xs) port was in
    let off : goes_on xs p ≡ false = ap (λ ys. goes_on (slots_of ys) p) (sym c.as_slice.ensures.value) ∙ sym c.goes_on.ensures ∙ c.if-goes_on.false in
    let lk = begins.within in
    let there = begun_there o table es k e p sound begins told c.held_laws.ensures.begun aimed in
    let gone = goes_not o table es channels y few k rs xs p told was' off there in
    let only = only_begins o table es k e p sound begins told c.held_laws.ensures.begun aimed (few k lk) gone in
    let run : Run = record {
      first = c.args.position;
      last = 4294967295;
      resets_first = self.resets;
      resets_last = 0;
      needs = c.wanted.result;
      left = c.new.result;
      channel = c.args.channel;
    } in
    let items : c.push.new.self.items ≡ self.runs.items ++ run ∷ [] = c.in_ok-push.ensures.items in
    let rs' : all_seen c.push.new.self.items ≡ rs ++ seen run ∷ [] = ap all_seen items ∙ map_push seen self.runs.items run in
    let n : c.len.result ≡ length rs = (let a = c.len.ensures in let b = length-map self.runs.items seen in omega (arith, a, b)) in
    let needs = c.wanted.ensures.state (take (suc k) es) stands
    ∙ needs_at c.counting_laws.ensures.own c.counting_laws.ensures.holding c.position_laws.ensures.music o table es y sound (suc k) (suc k) p there in
    on_ok_weaker c.put.result
    (λ put. subst (λ w. Goes o table es channels w (suc k) (all_seen c.push.new.self.items) (slots_of c.put.new.going.items)) (sym port)
    (subst (λ ss. Goes o table es channels y (suc k) ss (slots_of c.put.new.going.items)) (sym rs')
    (one_begins o table es channels y few k rs xs (slots_of c.put.new.going.items) p (seen run) lk told only.1 only.0
    (subst (λ m. IsPut xs (slots_of c.put.new.going.items) (record { pair = p; run = m })) n put)
    (at, refl, subst (λ w. self.resets ≡ resets_on es w (suc k)) port resets, needs, channel) was')))
    c.put.ensures.put

pub returns-clause-going : goal.returns-clause-going
returns-clause-going g c =
    let o = asked c.args.parts.now in
    let self = c.args.self.now in
    let items = c.in_ok-push.ensures.items in
    let long = ap length items ∙ length-append self.runs.items _ in
    let n = c.len.ensures in
    c.put.ensures.going o (length c.push.new.self.items)
    (going_more o (length self.runs.items) (length c.push.new.self.items) self.going.items (omega (arith, long)) c.requires.going)
    (omega (arith, long, n), c.requires.part)
