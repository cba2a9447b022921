use Rattle.std.proofs.Common.{◌≡◌, ◌≤◌, [], length, true, false, refl, ap, sym, subst, ◌∙◌, inl, inr, arith}
use Rattle.midi_model.specs.Merged.{merged}
use Rattle.key_pitch.specs.Aims.{by_onset}
use Rattle.retune_model.specs.Options.{Options, ByBend, ByMpe, bends_notes}
use Rattle.retune_model.specs.Options.{Route as RouteOf}
use Rattle.retune_model.specs.SourceFaults.{IsFaultless}
use Rattle.lifetimes.specs.declared.options.Route.{Route}
use Rattle.lifetimes.specs.Stands.{Stands, asked, table_in}
use Rattle.lifetimes.specs.Views.{route_of}
use Rattle.channel_plan.specs.Planned.{IsPlan}
use Rattle.channel_plan.specs.Refused.{IsTaken}
use Rattle.mpe_route.specs.Planned.{zoned}
use Rattle.route_bend.specs.Bent.{bent}
use Rattle.routes.specs.Putting.{AllMayPut}
use Rattle.command_line.specs.Words.{view_command}
use Rattle.mtune_core.specs.Asked.{allowed_by}
use Rattle.mtune_core.specs.Written.{planned_events}
use Rattle.mtune_core.proofs.ByPlan.{are_asked, given_back, may_be_put, on_ok, put_by_plan, source_of}
use Rattle.mtune_core.proofs.Put.{few_tracks}
use Rattle.mtune_core.proofs.planned.put_events.Goals as goal

pub unreachable-requires : goal.unreachable-requires
unreachable-requires c =
    let bends : Route → Type 0 = λ r. bends_notes (route_of r) ≡ true in
    elim c.in-Dump.is [
      | inl s ↦ (let no : false ≡ true = subst bends s c.requires.bends in cc)
      | inr s ↦ (let no : false ≡ true = subst bends s c.requires.bends in cc)
    ]

pub translate-requires : goal.translate-requires
translate-requires c κs =
    let k = view_command c.args.command.now in
    let o = k.options in
    let a = allowed_by k in
    let t = by_onset c.args.table.now in
    let p = asked c.new-parts.result in
    let u = by_onset (table_in c.new-parts.result).now in
    let es = c.new-events.result.all in
    let source = merged c.args.smf.now in
    let plan = c.args.plan.now in
    let n = length c.args.smf.now.tracks in
    let playable = c.new-events.ensures.playable in
    let options : p ≡ o = c.new-parts.ensures.options in
    let table : u ≡ t = ap (λ b. by_onset b.now) c.new-parts.ensures.table in
    let all : es ≡ source = c.new-events.ensures.all in
    let bend : o.route ≡ ByBend = ap route_of c.in-Bend.is in
    let may = subst (λ (r : RouteOf). AllMayPut c.args.out.now (planned_events r o a t plan source)) bend
    (may_be_put c.puts_are_dealt.ensures.may c.planned_is_playable.ensures o a t c.args.smf.now plan c.args.out.now
    (source_of o a t c.args.smf.now plan es all c.new-events.ensures.playable c.requires.bends c.requires.range c.requires.taken c.requires.plan)
    c.requires.none) in (
      (refl, tt),
      (
        ap (λ (x : Options). x.route) options ∙ bend,
        (
          subst (λ x. Stands x c.new-parts.result []) (sym table) c.new-parts.ensures.stands,
          (
            playable.valid,
            (
              c.playable_in_order.ensures.ticks n es playable,
              (
                few_tracks n es playable c.requires.few,
                (
                  c.new-events.ensures.few,
                  (
                    given_back (λ x b v fs. IsFaultless x v fs) o p a a t u source es options refl table all c.requires.taken.faultless,
                    record {
                      allowed = a;
                      planned = given_back (λ x b v fs. IsPlan x b v fs plan) o p a a t u source es options refl table all c.requires.plan;
                      may = given_back (λ x b v fs. AllMayPut c.args.out.now (bent x b v fs plan)) o p a a t u source es options refl table all may;
                    },
                  ),
                ),
              ),
            ),
          ),
        ),
      ),
    )

pub returns-in-Bend : goal.returns-in-Bend
returns-in-Bend c =
    let k = view_command c.args.command.now in
    let o = k.options in
    let a = allowed_by k in
    let t = by_onset c.args.table.now in
    let p = asked c.new-parts.result in
    let u = by_onset (table_in c.new-parts.result).now in
    let es = c.new-events.result.all in
    let source = merged c.args.smf.now in
    let plan = c.args.plan.now in
    let options : p ≡ o = c.new-parts.ensures.options in
    let table : u ≡ t = ap (λ b. by_onset b.now) c.new-parts.ensures.table in
    let all : es ≡ source = c.new-events.ensures.all in
    let bend : o.route ≡ ByBend = ap route_of c.in-Bend.is in
    let its_plan : IsPlan p a u es plan =
    given_back (λ x b v fs. IsPlan x b v fs plan) o p a a t u source es options refl table all c.requires.plan in
    record {
      put = put_by_plan c.puts_are_dealt.ensures.dealt c.translate.result (length c.args.smf.now.tracks) c.args.out.now c.translate.new.out
          (λ x v fs. bent x a v fs plan) o p t u source es
          (planned_events o.route o a t plan source) c.requires.none options table all
          (ap (λ (r : RouteOf). planned_events r o a t plan source) (sym bend))
          (on_ok c.translate.result (λ h. h a its_plan) c.translate.ensures.put)
          (c.planned_is_playable.ensures o a t c.args.smf.now plan
          (source_of o a t c.args.smf.now plan es all c.new-events.ensures.playable c.requires.bends c.requires.range c.requires.taken
          c.requires.plan));
    }

pub translate-requires-in-Mpe : goal.translate-requires-in-Mpe
translate-requires-in-Mpe c κs =
    let k = view_command c.args.command.now in
    let o = k.options in
    let a = allowed_by k in
    let t = by_onset c.args.table.now in
    let p = asked c.new-parts.result in
    let u = by_onset (table_in c.new-parts.result).now in
    let es = c.new-events.result.all in
    let source = merged c.args.smf.now in
    let plan = c.args.plan.now in
    let n = length c.args.smf.now.tracks in
    let high = c.requires.range.range_high in
    let options : p ≡ o = c.new-parts.ensures.options in
    let table : u ≡ t = ap (λ b. by_onset b.now) c.new-parts.ensures.table in
    let all : es ≡ source = c.new-events.ensures.all in
    let mpe : o.route ≡ ByMpe = ap route_of c.in-Mpe.is in
    let may = subst (λ (r : RouteOf). AllMayPut c.args.out.now (planned_events r o a t plan source)) mpe
    (may_be_put c.puts_are_dealt.ensures.may c.planned_is_playable.ensures o a t c.args.smf.now plan c.args.out.now
    (source_of o a t c.args.smf.now plan es all c.new-events.ensures.playable c.requires.bends c.requires.range c.requires.taken c.requires.plan)
    c.requires.none) in (
      (refl, tt),
      (
        ap (λ (x : Options). x.route) options ∙ mpe,
        (
          subst (λ (x : Options). x.range ≤ 127) (sym options) (omega (arith, high)),
          (
            subst (λ x. Stands x c.new-parts.result []) (sym table) c.new-parts.ensures.stands,
            (
              are_asked c.playable_in_order.ensures.ticks n es c.new-events.ensures.playable c.requires.few c.new-events.ensures.few,
              (
                record {
                  allowed = a;
                  gives = given_back (λ x b v fs. IsPlan x b v fs plan) o p a a t u source es options refl table all c.requires.plan;
                  taken = given_back (λ x b v fs. IsTaken x b v fs) o p a a t u source es options refl table all c.requires.taken;
                },
                given_back (λ x b v fs. AllMayPut c.args.out.now (zoned x v fs plan)) o p a a t u source es options refl table all may,
              ),
            ),
          ),
        ),
      ),
    )

pub returns : goal.returns
returns c =
    let k = view_command c.args.command.now in
    let o = k.options in
    let a = allowed_by k in
    let t = by_onset c.args.table.now in
    let p = asked c.new-parts.result in
    let u = by_onset (table_in c.new-parts.result).now in
    let es = c.new-events.result.all in
    let source = merged c.args.smf.now in
    let plan = c.args.plan.now in
    let options : p ≡ o = c.new-parts.ensures.options in
    let table : u ≡ t = ap (λ b. by_onset b.now) c.new-parts.ensures.table in
    let all : es ≡ source = c.new-events.ensures.all in
    let mpe : o.route ≡ ByMpe = ap route_of c.in-Mpe.is in
    record {
      put = put_by_plan c.puts_are_dealt.ensures.dealt c.translate-in-Mpe.result (length c.args.smf.now.tracks) c.args.out.now
          c.translate-in-Mpe.new.out (λ x v fs. zoned x v fs plan) o p t u source es
          (planned_events o.route o a t plan source) c.requires.none options table all
          (ap (λ (r : RouteOf). planned_events r o a t plan source) (sym mpe))
          c.translate-in-Mpe.ensures.put
          (c.planned_is_playable.ensures o a t c.args.smf.now plan
          (source_of o a t c.args.smf.now plan es all c.new-events.ensures.playable c.requires.bends c.requires.range c.requires.taken
          c.requires.plan));
    }
