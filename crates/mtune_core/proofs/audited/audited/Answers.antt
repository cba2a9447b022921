use Rattle.std.proofs.Common.{◌≡◌, [], length, refl, sym, ap, subst}
use Rattle.midi_model.specs.Merged.{merged}
use Rattle.retune_model.specs.SourceFaults.{IsFaultless}
use Rattle.key_pitch.specs.Aims.{by_onset}
use Rattle.lifetimes.specs.Stands.{Stands, asked, table_in}
use Rattle.lifetimes.specs.Views.{options_of}
use Rattle.mtune_core.proofs.Put.{few_tracks, handed}
use Rattle.mtune_core.proofs.audited.audited.Goals as goal

pub hear-requires : goal.hear-requires
hear-requires c κs =
    let es = c.new-2.result.all in
    let n = length c.args.smf.now.tracks in
    let p = asked c.new-parts.result in
    let playable = c.new-2.ensures.playable in
    let table : by_onset (table_in c.new-parts.result).now ≡ by_onset c.args.table.now = ap (λ b. by_onset b.now) c.new-parts.ensures.table in
    let stands = subst (λ t. Stands t c.new-parts.result []) (sym table) c.new-parts.ensures.stands in
    let faultless = handed IsFaultless (options_of c.args.options) p (by_onset c.args.table.now) (by_onset (table_in c.new-parts.result).now)
    (merged c.args.smf.now) es c.new-parts.ensures.options table c.new-2.ensures.all c.requires.faultless in (
      (refl, tt),
      (
        stands,
        (
          playable.valid,
          (
            c.playable_in_order.ensures.ticks n es playable,
            (
              few_tracks n es playable c.requires.few,
              (c.new-2.ensures.few, (faultless, c.in_ok-audit.ensures p)),
            ),
          ),
        ),
      ),
    )
