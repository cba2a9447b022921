use Rattle.std.proofs.Common.{◌≡◌, ◌≤◌, ◌∙◌, ℕ, true, List, [], length, map, refl, sym, ap, subst, arith}
use Rattle.std.specs.Prelude.{Option, IfSome}
use Rattle.mt_base.specs.Midi.{MidiEvent}
use Rattle.midi_model.specs.Merged.{merged, IsPlayable}
use Rattle.midi_model.specs.Writing.{Written, written}
use Rattle.event_stream.specs.Distributed.{distributed}
use Rattle.retune_model.specs.Options.{Options, ByMpe}
use Rattle.retune_model.specs.Faults.{Targets}
use Rattle.key_pitch.specs.Aims.{by_onset}
use Rattle.lifetimes.specs.Stands.{SourceStands, asked, table_in}
use Rattle.routes.specs.Putting.{AllMayPut, put_all}
use Rattle.channel_plan.specs.Passing.{AreAsked}
use Rattle.channel_plan.specs.declared.plan.Plan.{Plan}
use Rattle.mpe_route.specs.Planned.{IsPlanOf, zoned}
use Rattle.mpe_route.specs.Laws.{IsZonable, ZonedIsPlayable}
use Rattle.mpe_route.proofs.tests.output.Goals as goal

-- what holds of options, a table and events holds of those that are the same
handed : (P : Options → Targets → List MidiEvent → Type 0) (o p : Options) (t u : Targets) (es fs : List MidiEvent) → p ≡ o → u ≡ t → fs ≡ es
    → P o t es → P p u fs
handed P o p t u es fs options table events h =
    subst (λ x. P x u fs) (sym options) (subst (λ x. P o x fs) (sym table) (subst (λ x. P o t x) (sym events) h))

-- the plan, and what is written by it, are of the source as it is passed on
pub record Ready (n : ℕ) (o : Options) (t : Targets) (es : List MidiEvent) (plan : Plan) : Type 0 where
  pub zonable : IsZonable o t es plan
  pub playable : IsPlayable n (zoned o t es plan)

ready : ZonedIsPlayable → (n : ℕ) (asked o : Options) (given t : Targets) (source es : List MidiEvent) (plan : Plan) → o ≡ asked → t ≡ given
    → es ≡ source → asked.route ≡ ByMpe → asked.range ≤ 96 → IsPlayable n source → AreAsked es → IsPlanOf asked given source plan → Ready n o t es plan
ready law n asked o given t source es plan options table events route high playable asks planned =
    let h : IsZonable o t es plan = record {
      route = ap (λ (x : Options). x.route) options ∙ route;
      range = omega (arith, ap (λ (x : Options). x.range) options, high);
      valid = asks.valid;
      in_order = asks.order;
      planned = handed (λ x y l. IsPlanOf x y l plan) asked o given t source es options table events planned;
    } in
    record { zonable = h; playable = law o t es plan h n (subst (IsPlayable n) (sym events) playable) }

pub translate-requires : goal.translate-requires
translate-requires c κs =
    let n = length c.args.smf.now.tracks in
    let o = asked c.new-parts.result in
    let t = by_onset (table_in c.new-parts.result) in
    let es = c.events_of-events.result.all in
    let plan = c.in-Some.plan in
    let options : Options = record { route = ByMpe; range = c.args.range; keep_drums = true; program = 0; tail = 0 } in
    let planned : IsPlanOf options (by_onset c.args.table) (merged c.args.smf.now) plan = subst
    (λ (x : Option Plan). IfSome x (IsPlanOf options (by_onset c.args.table) (merged c.args.smf.now))) c.in-Some.is c.in_ok-plan.ensures in
    let r : Ready n o t es plan = ready c.zoned_plays_the_same.ensures.playable n options o (by_onset c.args.table) t (merged c.args.smf.now) es plan
    c.new-parts.ensures.options (ap by_onset c.new-parts.ensures.table) c.events_of-events.ensures.all refl c.requires.high
    c.tracks-count.ensures.playable c.events_of-events.ensures.asked planned in
    let out : c.in_ok-out-in-Some.out ≡ map written (distributed n []) = c.in_ok-out-in-Some.ensures.stands
    ∙ ap (λ (k : ℕ). map written (distributed k [])) c.tracks-count.ensures.value in
    let put = subst (λ (w : List Written). AllMayPut w (zoned o t es plan)) (sym out) (c.puts_are_dealt.ensures.may n (zoned o t es plan) r.playable) in
    let stands = subst (λ u. SourceStands (by_onset u) c.new-parts.result.source []) (sym c.new-parts.ensures.table)
    c.new-parts.ensures.stands in (
      (refl, tt),
      (r.zonable.route, (r.zonable.range, (stands, (c.events_of-events.ensures.asked, (r.zonable.planned, put))))),
    )

pub bytes_of-requires : goal.bytes_of-requires
bytes_of-requires c =
    let n = length c.args.smf.now.tracks in
    let o = asked c.new-parts.result in
    let t = by_onset (table_in c.new-parts.result) in
    let es = c.events_of-events.result.all in
    let plan = c.in-Some.plan in
    let options : Options = record { route = ByMpe; range = c.args.range; keep_drums = true; program = 0; tail = 0 } in
    let planned : IsPlanOf options (by_onset c.args.table) (merged c.args.smf.now) plan = subst
    (λ (x : Option Plan). IfSome x (IsPlanOf options (by_onset c.args.table) (merged c.args.smf.now))) c.in-Some.is c.in_ok-plan.ensures in
    let r : Ready n o t es plan = ready c.zoned_plays_the_same.ensures.playable n options o (by_onset c.args.table) t (merged c.args.smf.now) es plan
    c.new-parts.ensures.options (ap by_onset c.new-parts.ensures.table) c.events_of-events.ensures.all refl c.requires.high
    c.tracks-count.ensures.playable c.events_of-events.ensures.asked planned in
    let out : c.in_ok-out-in-Some.out ≡ map written (distributed n []) = c.in_ok-out-in-Some.ensures.stands
    ∙ ap (λ (k : ℕ). map written (distributed k [])) c.tracks-count.ensures.value in
    record {
      ended = c.into_tracks-tracks.ensures.ended n (zoned o t es plan)
          (c.in_ok-translate-in-Some.ensures.put ∙ ap (λ (w : List Written). put_all w (zoned o t es plan)) out
          ∙ c.puts_are_dealt.ensures.dealt n (zoned o t es plan) r.playable) r.playable;
    }
