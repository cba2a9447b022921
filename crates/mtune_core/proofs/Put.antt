-- What was put into new tracks, and what holds of it.
use Rattle.std.proofs.Common.{◌≡◌, ◌≤◌, ◌<◌, ℕ, List, [], map, sym, ap, subst, ◌∙◌, arith}
use Rattle.std.specs.List.{AllByRecursion}
use Rattle.mt_base.specs.Midi.{MidiEvent}
use Rattle.midi_model.specs.Merged.{IsPlayable}
use Rattle.midi_model.specs.Writing.{Written, written}
use Rattle.event_stream.specs.Distributed.{distributed}
use Rattle.retune_model.specs.Options.{Options}
use Rattle.retune_model.specs.Faults.{Targets}
use Rattle.routes.specs.Laws.{PutIsDealt}
use Rattle.routes.specs.Putting.{put_all}
use Rattle.mtune_core.proofs.Dealt.{each_weaker}

-- what holds of options, a table and events holds of those that are the same
pub handed : (P : Options → Targets → List MidiEvent → Type 0) (o p : Options) (t u : Targets) (es fs : List MidiEvent) → p ≡ o → u ≡ t → fs ≡ es
    → P o t es → P p u fs
handed P o p t u es fs options table events h =
    subst (λ x. P x u fs) (sym options) (subst (λ x. P o x fs) (sym table) (subst (λ x. P o t x) (sym events) h))

pub few_tracks : (n : ℕ) (es : List MidiEvent) → IsPlayable n es → n ≤ 1024 → AllByRecursion (λ e. e.track < 1024) es
few_tracks n es playable few = each_weaker (λ e. e.track < n) (λ e. e.track < 1024) es (λ e h. omega (arith, h, few)) playable.in_tracks

pub texts : PutIsDealt → (k n : ℕ) (es : List MidiEvent) (new out items : List Written) → new ≡ map written (distributed k []) → k ≡ n
    → out ≡ put_all new es → items ≡ out → IsPlayable n es
    → items ≡ map written (distributed n es)
texts dealt k n es new out items begun count put taken playable =
    taken ∙ put ∙ ap (λ (w : List Written). put_all w es) (begun ∙ ap (λ (j : ℕ). map written (distributed j [])) count) ∙ dealt n es playable
