use Rattle.std.proofs.Common.{◌≡◌, ◌∙◌, suc, map, take, refl, sym, ap, subst, rules}
use Rattle.std.specs.List.{AllByRecursion}
use Rattle.lifetimes.specs.Stands.{asked, table_in}
use Rattle.lifetimes.specs.Told.{is_held, port_on, count_begun}
use Rattle.channel_plan.specs.Tallies.{TallyStands, begun_for}
use Rattle.channel_plan.specs.Surveys.{AreTallies, IsPartBegun, key}
use Rattle.channel_plan.proofs.BegunPairs.{goes_on, on_ok}
use Rattle.channel_plan.proofs.Opened.{part_begun, bends_where, parts_where, none_next, written}
use Rattle.channel_plan.proofs.tallies.count_all.Goals as goal

pub returns : goal.returns
returns g c es k e stands next at timed by ts =
    let o = asked c.args.parts.now in
    let table = g.T.Aims.table (table_in c.args.parts.now) in
    let front = take (suc k) es in
    let xs = c.open.new.tallies.items in
    let new = c.go_on.new.tallies in
    let change = c.args.change.now in
    let value = c.as_mut_slice.ensures.value in
    let of_part : IsPartBegun o change.begun =
    subst (IsPartBegun o) (sym next.tells.begun) (part_begun o table (port_on (take k es) e) (suc (count_begun o (take k es))) e.tick e.what) in
    let opened : AreTallies o table es k xs = c.in_ok-open.ensures.stand o table es k by of_part ts in
    let same : map key new ≡ map key xs = c.go_on.ensures.keys ∙ ap (map key) value in
    let laws = c.counting_laws.ensures in
    on_ok c.go_on.result
    (λ stand. subst (AreTallies o table es (suc k)) (sym (written c.open.new.tallies.len xs new (search rules) same)) (record {
      stand = stand;
      others = none_next o table es k xs new change.begun c.args.counted (is_held o table front) by c.in_ok-open.ensures.there opened same
          (λ z part is. goes_on laws.pairs laws.begun laws.aimed o table es k e change z part (bends_where o o.route part is)
          (parts_where o o.route part is) next
          (record { bends = bends_where o o.route part is; in_order = stands.order; faultless = stands.faultless })
          (begun_for z part change.begun) refl);
    }))
    (c.go_on.ensures.stand es k e stands next at timed (subst (AllByRecursion (TallyStands o table es k)) (sym value) opened.stand))
