-- What holds of options, a table and events holds of those that are the same; and what is asked of the events of a file.
use Rattle.std.proofs.Common.{◌≡◌, ◌≤◌, ◌<◌, ℕ, List, length, sym, subst, arith}
use Rattle.std.specs.List.{AllByRecursion}
use Rattle.mt_base.specs.Midi.{MidiEvent}
use Rattle.midi_model.specs.Order.{AreInOrder}
use Rattle.midi_model.specs.Merged.{IsPlayable}
use Rattle.retune_model.specs.Options.{Options}
use Rattle.retune_model.specs.Faults.{Targets}
use Rattle.retune_model.proofs.Fronts.{all_weaker}
use Rattle.channel_plan.specs.Passing.{AreAsked}

pub handed : (P : Options → Targets → List MidiEvent → Type 0) (o p : Options) (t u : Targets) (es fs : List MidiEvent) → p ≡ o → u ≡ t → fs ≡ es
    → P o t es → P p u fs
handed P o p t u es fs options table events h = subst (λ x. P x u fs) (sym options) (subst (λ x. P o x fs) (sym table) (subst (λ x. P o t x) (sym events) h))

pub few_tracks : (n : ℕ) (es : List MidiEvent) → IsPlayable n es → n ≤ 1024 → AllByRecursion (λ e. e.track < 1024) es
few_tracks n es playable few = all_weaker (λ e. e.track < n) (λ e. e.track < 1024) (λ e h. omega (arith, h, few)) es playable.in_tracks

pub are_asked : (n : ℕ) (es : List MidiEvent) → AreInOrder 0 es → IsPlayable n es → n ≤ 1024 → length es ≤ 2097152 → AreAsked es
are_asked n es order playable few short = record { valid = playable.valid; order = order; tracks = few_tracks n es playable few; few = short }
