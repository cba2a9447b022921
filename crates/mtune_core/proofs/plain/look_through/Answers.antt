use Rattle.std.proofs.Common.{◌≡◌, [], length, refl, sym, ap, subst, ◌∙◌}
use Rattle.retune_model.specs.Options.{Options}
use Rattle.key_pitch.specs.Aims.{by_onset}
use Rattle.lifetimes.specs.Stands.{Stands, table_in}
use Rattle.mtune_core.proofs.Put.{few_tracks}
use Rattle.mtune_core.proofs.plain.look_through.Goals as goal

pub survey-requires : goal.survey-requires
survey-requires c κs =
    let es = c.new.result.all in
    let n = length c.args.smf.now.tracks in
    let playable = c.new.ensures.playable in
    let table : by_onset (table_in c.new-parts.result).now ≡ by_onset c.args.table.now = ap (λ b. by_onset b.now) c.new-parts.ensures.table in
    let restless = ap (λ (o : Options). o.tail) c.new-parts.ensures.options ∙ c.requires.plain.restless in
    let stands = subst (λ t. Stands t c.new-parts.result []) (sym table) c.new-parts.ensures.stands in (
      (refl, tt),
      (
        restless,
        (
          stands,
          (
            playable.valid,
            (c.playable_in_order.ensures.ticks n es playable, (few_tracks n es playable c.requires.few, c.new.ensures.few)),
          ),
        ),
      ),
    )
