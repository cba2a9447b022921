use Rattle.std.proofs.Common.{ap, ◌∙◌, ◌&&◌, ◌++◌, ℕ, Bool, List, get_or, length, nat_le, nat_lt}
use Rattle.midi_model.specs.Notes.{Note}
use Rattle.retune_model.specs.Ports.{of_port, tick_to}
use Rattle.retune_model.specs.Rests.{begun_pairs, notes_at, past_at, lasts, nobody}
use Rattle.retune_model.proofs.Longer.{tick_front, events_front, event_front, reset_front, music_front, notes_front, past_front, pairs_front, held_front, most_front}
use Rattle.retune_model.proofs.front.front_laws.Goals as goal

pub returns-clause-tick : goal.returns-clause-tick
returns-clause-tick c = tick_front

pub returns-clause-events : goal.returns-clause-events
returns-clause-events c = events_front

pub returns-clause-event : goal.returns-clause-event
returns-clause-event c = event_front

pub returns-clause-reset : goal.returns-clause-reset
returns-clause-reset c = reset_front

pub returns-clause-music : goal.returns-clause-music
returns-clause-music c = music_front

pub returns-clause-notes : goal.returns-clause-notes
returns-clause-notes c = notes_front

pub returns-clause-holding : goal.returns-clause-holding
returns-clause-holding c part tail front back z k i le =
    let test : ℕ → List Note → ℕ → Bool = λ past ns t. nat_le past i && (nat_lt i (length ns) && lasts tail t (get_or ns i nobody)) in
    ap (λ p. test p (notes_at part (of_port z (front ++ back)) k) (tick_to (front ++ back) k)) (past_front part front back z k le)
    ∙ (ap (λ ns. test (past_at part (of_port z front) k) ns (tick_to (front ++ back) k)) (notes_front part front back z k le)
    ∙ ap (test (past_at part (of_port z front) k) (notes_at part (of_port z front) k)) (tick_front front back k le))

pub returns-clause-pairs : goal.returns-clause-pairs
returns-clause-pairs c = pairs_front

pub returns-clause-held : goal.returns-clause-held
returns-clause-held c = held_front

pub returns-clause-begun : goal.returns-clause-begun
returns-clause-begun c o part table front back z k le = ap (begun_pairs z o part table) (event_front front back z k le)

pub returns-clause-most : goal.returns-clause-most
returns-clause-most c = most_front
