use Rattle.std.proofs.Common.{◌<◌, ◌≤◌, ℕ, List, length, arith}
use Rattle.std.specs.List.{AllByRecursion}
use Rattle.mt_base.specs.Midi.{MidiEvent}
use Rattle.midi_model.specs.Merged.{IsPlayable}
use Rattle.retune_model.proofs.Fronts.{all_weaker}
use Rattle.mpe_route.proofs.tests.events_of.Goals as goal

few_tracks : (n : ℕ) (es : List MidiEvent) → IsPlayable n es → n ≤ 1024 → AllByRecursion (λ e. e.track < 1024) es
few_tracks n es playable few = all_weaker (λ e. e.track < n) (λ e. e.track < 1024) (λ e h. omega (arith, h, few)) es playable.in_tracks

pub returns-clause-asked : goal.returns-clause-asked
returns-clause-asked c =
    let n = length c.args.smf.now.tracks in
    let es = c.new.result.all in
    let playable = c.new.ensures.playable in
    let few : n ≤ 1024 = omega (arith, c.tracks.ensures.few, c.tracks.ensures.value) in
    record {
      valid = playable.valid;
      order = c.playable_in_order.ensures.ticks n es playable;
      tracks = few_tracks n es playable few;
      few = c.new.ensures.few;
    }
