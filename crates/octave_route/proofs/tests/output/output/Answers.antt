use Rattle.std.proofs.Common.{◌≡◌, ◌≤◌, ◌<◌, ℕ, List, [], length, map, refl, sym, ap, subst, ◌∙◌, arith, rules}
use Rattle.std.specs.List.{AllByRecursion}
use Rattle.mt_base.specs.Midi.{MidiEvent}
use Rattle.midi_model.specs.Merged.{IsPlayable}
use Rattle.midi_model.specs.Writing.{Written, written}
use Rattle.event_stream.specs.Distributed.{distributed}
use Rattle.retune_model.specs.Options.{Options}
use Rattle.retune_model.specs.Faults.{Targets}
use Rattle.retune_model.specs.SourceFaults.{IsFaultless}
use Rattle.retune_model.proofs.Fronts.{all_weaker}
use Rattle.key_pitch.specs.Aims.{by_onset}
use Rattle.lifetimes.specs.Noted.{IsNoted}
use Rattle.lifetimes.specs.Stands.{Stands, asked, table_in}
use Rattle.routes.specs.Putting.{AllMayPut}
use Rattle.octave_route.specs.Output.{octaved}
use Rattle.octave_route.proofs.tests.output.output.Goals as goal

few_tracks : (n : ℕ) (es : List MidiEvent) → IsPlayable n es → n ≤ 1024 → AllByRecursion (λ e. e.track < 1024) es
few_tracks n es playable few = all_weaker (λ e. e.track < n) (λ e. e.track < 1024) (λ e h. omega (arith, h, few)) es playable.in_tracks

-- what holds of options, a table and events holds of those that are the same
handed : (P : Options → Targets → List MidiEvent → Type 0) (o p : Options) (t u : Targets) (es fs : List MidiEvent) → p ≡ o → u ≡ t → fs ≡ es
    → P o t es → P p u fs
handed P o p t u es fs options table events h = subst (λ x. P x u fs) (sym options) (subst (λ x. P o x fs) (sym table) (subst (λ x. P o t x) (sym events) h))

pub look-requires : goal.look-requires
look-requires c κs =
    let n = length c.args.smf.now.tracks in
    let es = c.new.result.all in
    let playable = c.new.ensures.playable in
    let few : n ≤ 1024 = omega (arith, c.tracks-count.ensures.few, c.tracks-count.ensures.value) in
    let table : by_onset (table_in c.new-parts.result).now ≡ by_onset c.args.table.now = ap (λ b. by_onset b.now) c.new-parts.ensures.table in
    let stands = subst (λ t. Stands t c.new-parts.result []) (sym table) c.new-parts.ensures.stands in
    ((refl, tt), (stands, (playable.valid, (c.playable_in_order.ensures.ticks n es playable, (few_tracks n es playable few, c.new.ensures.few)))))

pub translate-requires : goal.translate-requires
translate-requires c κs =
    let n = length c.args.smf.now.tracks in
    let o = asked c.new-parts.result in
    let t = by_onset (table_in c.new-parts.result).now in
    let p = asked c.restart.new.self in
    let u = by_onset (table_in c.restart.new.self).now in
    let es = c.new.result.all in
    let fs = c.new-in-Some-2.result.all in
    let vs = c.args.values.now in
    let playable = c.new-in-Some-2.ensures.playable in
    let few : n ≤ 1024 = omega (arith, c.tracks-count.ensures.few, c.tracks-count.ensures.value) in
    let options : p ≡ o = c.restart.ensures.options ∙ c.look.ensures.options in
    let table : u ≡ t = ap (λ b. by_onset b.now) (c.restart.ensures.table ∙ c.look.ensures.table) in
    let events : fs ≡ es = c.new-in-Some-2.ensures.all ∙ sym c.new.ensures.all in
    let faultless = handed IsFaultless o p t u es fs options table events c.in-Some.ensures.faultless in
    let noted = handed (λ x y l. IsNoted x l c.in-Some.noted) o p t u es fs options table events c.in-Some.ensures.noted in
    let out : c.in_ok-out-in-Some.out ≡ map written (distributed n []) = c.in_ok-out-in-Some.ensures.stands
    ∙ ap (λ (k : ℕ). map written (distributed k [])) c.tracks-count.ensures.value in
    let may = c.puts_are_dealt.ensures.may n (octaved p vs fs) (c.octaved_is_playable.ensures n p vs fs twelve playable) in
    let put = subst (λ (w : List Written). AllMayPut w (octaved p vs fs)) (sym out) may in (
      (refl, tt),
      (
        c.restart.ensures.stands,
        (
          playable.valid,
          (
            c.playable_in_order.ensures.ticks n fs playable,
            (
              few_tracks n fs playable few,
              (c.new-in-Some-2.ensures.few, (faultless, (noted, (c.requires, put)))),
            ),
          ),
        ),
      ),
    )
  where
    twelve : length c.args.values.now ≡ 12
    twelve = search rules
