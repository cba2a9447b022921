use Rattle.std.proofs.Common.{◌++◌, ◌∷◌, [], suc, true, ap, sym, ◌∙◌, subst, arith}
use Rattle.std.specs.List.{AllByRecursion}
use Rattle.lifetimes.specs.Views.{pair_of}
use Rattle.lifetimes.specs.Stands.{asked, table_in}
use Rattle.channel_plan.specs.Serving.{head, heads, RowFreed, RowStands, given_as}
use Rattle.channel_plan.proofs.Each.{each_at, map_same}
use Rattle.channel_plan.proofs.Served.{other_row, one_given, own_given}
use Rattle.channel_plan.proofs.serving.give_note.Goals as goal
use Rattle.channel_plan.proofs.serving.give_note.Goals.{in-Some+in_default-give_on, in_default}

pub returns-in-Some-give_on-clause-given : goal.returns-in-Some-give_on-clause-given
returns-in-Some-give_on-clause-given g c es gs k e order stands begins count next apart served all =
    let o = asked c.args.parts.now in
    let table = g.T.Aims.table (table_in c.args.parts.now) in
    let p = pair_of c.args.pair.now in
    let rows = c.args.rows.now in
    let i = c.in-Some.row in
    let d = c.index-rows-row.result in
    let at = c.in-Some.ensures.some in
    let l = at.within in
    let bends = c.requires.bends (omega (arith, l)) in
    let g' = given_as p c.in-Some-give_on.chosen in
    let r = c.in-Some-give_on.ensures.some es gs k e order stands begins count next (at.serves d) (each_at
    (RowFreed o table es gs k) rows i d l all) in (
      one_given (RowFreed o table es gs k) (RowStands o table es (gs ++ g' ∷ []) (suc k)) p.part.port p.part.channel
          (λ u freed not_served. other_row o table es gs k e p bends begins count u g' freed not_served)
          rows i d c.give_on.new.row l apart (at.serves d) all r.0,
      r.1,
    )

pub returns-in-Some-give_on-clause-heads : goal.returns-in-Some-give_on-clause-heads
returns-in-Some-give_on-clause-heads g c =
    map_same head c.args.rows.now c.in-Some.row c.give_on.new.row c.index-rows-row.result c.in-Some.ensures.some.within c.in-Some-give_on.ensures.head

pub returns-clause-given : goal.returns-clause-given
returns-clause-given g c es gs k e order stands begins count next apart served all =
    let o = asked c.args.parts.now in
    let table = g.T.Aims.table (table_in c.args.parts.now) in
    let p = pair_of c.args.pair.now in
    let g' = given_as p (record { channel = p.part.channel; run = c.args.next; is_new = true }) in
    elim c.match-find_row.branch [
      | in-Some+in_default-give_on w ↦
          absurd (w.in_default-give_on.ensures.none es gs k e stands begins count (w.in-Some.ensures.some.serves w.index-rows-row.result)
          (each_at (RowFreed o table es gs k) c.args.rows.now w.in-Some.row w.index-rows-row.result w.in-Some.ensures.some.within all))
      | in_default w ↦
          (let r = own_given o table es gs k e p g' c.args.next c.args.rows.now begins next c.requires.bends served w.in_default.ensures.none in
          (subst (AllByRecursion (RowStands o table es (gs ++ g' ∷ []) (suc k))) (sym w.rows-is) r.0, r.1))
    ]

pub returns-clause-heads : goal.returns-clause-heads
returns-clause-heads g c = elim c.match-find_row.branch [
  | in-Some+in_default-give_on w ↦ ap heads w.rows-is
      ∙ map_same head c.args.rows.now w.in-Some.row w.give_on.new.row w.index-rows-row.result w.in-Some.ensures.some.within w.give_on.ensures.head
  | in_default w ↦ ap heads w.rows-is
]
