use Rattle.std.proofs.Common.{◌≡◌, ◌≤◌, ℕ, List, [], length, map, refl, sym, ap, subst, ◌∙◌, arith}
use Rattle.mt_base.specs.Midi.{MidiEvent}
use Rattle.midi_model.specs.Merged.{IsPlayable, merged}
use Rattle.midi_model.specs.Order.{AreInOrder}
use Rattle.midi_model.specs.Writing.{Written, written}
use Rattle.event_stream.specs.Distributed.{distributed}
use Rattle.retune_model.specs.Options.{Options, ByBend}
use Rattle.retune_model.specs.Faults.{Targets}
use Rattle.key_pitch.specs.Aims.{by_onset}
use Rattle.lifetimes.specs.Views.{options_of}
use Rattle.lifetimes.specs.Stands.{Stands, asked, table_in}
use Rattle.routes.specs.Putting.{AllMayPut, put_all}
use Rattle.channel_plan.specs.declared.plan.Plan.{Plan}
use Rattle.route_bend.specs.Bent.{IsPlanOf, bent}
use Rattle.route_bend.specs.Laws.{IsBendable, OutputIsPlayable}
use Rattle.route_tests.proofs.Handing.{handed, few_tracks}
use Rattle.route_tests.proofs.tests.output.bent.Goals as goal

-- the plan, and what is written by it, are of the source as it is passed on
record Ready (n : ℕ) (o : Options) (t : Targets) (es : List MidiEvent) (plan : Plan) : Type 0 where
  pub planned : IsPlanOf o t es plan
  pub bendable : IsBendable o planned.allowed t es plan
  pub playable : IsPlayable n (bent o planned.allowed t es plan)

ready : OutputIsPlayable → (n : ℕ) (asked o : Options) (given t : Targets) (source es : List MidiEvent) (plan : Plan) → o ≡ asked → t ≡ given
    → es ≡ source → asked.route ≡ ByBend → asked.range ≤ 96 → IsPlayable n es → AreInOrder 0 es → IsPlanOf asked given source plan
    → Ready n o t es plan
ready law n asked o given t source es plan options table events route high playable order built =
    let planned : IsPlanOf o t es plan = handed (λ x y l. IsPlanOf x y l plan) asked o given t source es options table events built in
    let h : IsBendable o planned.allowed t es plan = record {
      route = ap (λ (x : Options). x.route) options ∙ route;
      range = omega (arith, ap (λ (x : Options). x.range) options, high);
      valid = playable.valid;
      in_order = order;
      faultless = planned.taken.faultless;
      planned = planned.gives;
    } in
    record { planned = planned; bendable = h; playable = law o planned.allowed t es plan h n playable }

pub translate-requires : goal.translate-requires
translate-requires c κs =
    let n = length c.args.smf.now.tracks in
    let o = asked c.new-parts.result in
    let t = by_onset (table_in c.new-parts.result).now in
    let es = c.new-2.result.all in
    let plan = c.args.plan.now in
    let given = by_onset c.args.table.now in
    let playable = c.new-2.ensures.playable in
    let order = c.playable_in_order.ensures.ticks n es playable in
    let few : n ≤ 1024 = omega (arith, c.tracks.ensures.few, c.tracks.ensures.value) in
    let table : t ≡ given = ap (λ b. by_onset b.now) c.new-parts.ensures.table in
    let r : Ready n o t es plan = ready c.bent_plays_the_same.ensures.playable n (options_of c.args.options) o given t (merged c.args.smf.now) es plan
    c.new-parts.ensures.options table c.new-2.ensures.all c.requires.route c.requires.high playable order c.requires.plan in
    let out : c.in_ok-out.out ≡ map written (distributed n []) = c.in_ok-out.ensures.stands
    ∙ ap (λ (k : ℕ). map written (distributed k [])) c.tracks.ensures.value in
    let may = subst (λ (w : List Written). AllMayPut w (bent o r.planned.allowed t es plan)) (sym out)
    (c.puts_are_dealt.ensures.may n (bent o r.planned.allowed t es plan) r.playable) in
    let stands = subst (λ x. Stands x c.new-parts.result []) (sym table) c.new-parts.ensures.stands in (
      (refl, tt),
      (
        r.bendable.route,
        (
          stands,
          (
            playable.valid,
            (
              order,
              (
                few_tracks n es playable few,
                (
                  c.new-2.ensures.few,
                  (
                    r.bendable.faultless,
                    record { allowed = r.planned.allowed; planned = r.planned.gives; may = may },
                  ),
                ),
              ),
            ),
          ),
        ),
      ),
    )

pub returns : goal.returns
returns c =
    let n = length c.args.smf.now.tracks in
    let o = asked c.new-parts.result in
    let t = by_onset (table_in c.new-parts.result).now in
    let es = c.new-2.result.all in
    let plan = c.args.plan.now in
    let given = by_onset c.args.table.now in
    let playable = c.new-2.ensures.playable in
    let order = c.playable_in_order.ensures.ticks n es playable in
    let table : t ≡ given = ap (λ b. by_onset b.now) c.new-parts.ensures.table in
    let r : Ready n o t es plan = ready c.bent_plays_the_same.ensures.playable n (options_of c.args.options) o given t (merged c.args.smf.now) es plan
    c.new-parts.ensures.options table c.new-2.ensures.all c.requires.route c.requires.high playable order c.requires.plan in
    let fs = bent o r.planned.allowed t es plan in
    let out : c.in_ok-out.out ≡ map written (distributed n []) = c.in_ok-out.ensures.stands
    ∙ ap (λ (k : ℕ). map written (distributed k [])) c.tracks.ensures.value in
    let stands = c.in_ok-translate.ensures.put r.planned.allowed r.planned.gives ∙ ap (λ (w : List Written). put_all w fs) out
    ∙ c.puts_are_dealt.ensures.dealt n fs r.playable in
    c.into_tracks.ensures.ended n fs stands r.playable
