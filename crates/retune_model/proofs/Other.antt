-- Events of other ports, and resets.
use Rattle.std.proofs.Common.{◌≡◌, ◌≤◌, ℕ, suc, List, [], ◌∷◌, Bool, true, false, cond, refl, ap, sym, ◌∙◌, drop}
use Rattle.std.specs.List.{filter}
use Rattle.std.proofs.Math.Seq.{drop-length}
use Rattle.std.proofs.lemmas.Bool.{cond-true, cond-false}
use Rattle.midi_model.specs.Notes.{Note}
use Rattle.midi_model.specs.Music.{Music, play}
use Rattle.retune_model.specs.Options.{Options}
use Rattle.retune_model.specs.Faults.{Targets}
use Rattle.retune_model.specs.Ports.{PortEvents, music_at, is_reset_at, event_at}
use Rattle.retune_model.specs.Pairs.{pairs_of}
use Rattle.retune_model.specs.Rests.{notes_at, past_at, lasts, pairs_at, held_at}
use Rattle.retune_model.proofs.Moments.{Timely, ages_same}
use Rattle.retune_model.proofs.Events.{any_resets, reset_at, music_next}
use Rattle.retune_model.proofs.Timeline.{past_kept, past_reset, lasts_back}

narrower : (tail r s : ℕ) → r ≤ s → (ns : List Note) → filter (lasts tail s) (filter (lasts tail r) ns) ≡ filter (lasts tail s) ns
narrower tail r s l [] = refl
narrower tail r s l (n ∷ ns) = pick (lasts tail r n) (lasts tail s n) refl refl (narrower tail r s l ns)
  where
    pick : (a b : Bool) → lasts tail r n ≡ a → lasts tail s n ≡ b → filter (lasts tail s) (filter (lasts tail r) ns) ≡ filter (lasts tail s) ns
        → filter (lasts tail s) (cond a (n ∷ filter (lasts tail r) ns) (filter (lasts tail r) ns)) ≡ cond b (n ∷ filter (lasts tail s) ns) (filter (lasts tail s) ns)
    pick true true e f h = cond-true (lasts tail s n) (n ∷ filter (lasts tail s) (filter (lasts tail r) ns)) (filter (lasts tail s) (filter (lasts tail r) ns)) f ∙ ap (λ l. n ∷ l) h
    pick true false e f h = cond-false (lasts tail s n) (n ∷ filter (lasts tail s) (filter (lasts tail r) ns)) (filter (lasts tail s) (filter (lasts tail r) ns)) f ∙ h
    pick false true e f h = absurd (let g : lasts tail r n ≡ true = lasts_back tail r s n n (ages_same s n) l f in cc)
    pick false false e f h = h

pub other_port : (o : Options) (part : ℕ → Bool) (table : Targets) (port : PortEvents) → Timely port → (k : ℕ) → event_at port.events (suc k) ≡ []
    → pairs_at o part table port (suc k) ≡ held_at o part table port (suc k)
other_port o part table port timed k none =
    let same : music_at port.events (suc k) ≡ music_at port.events k = music_next 0 k port.events timed.ascend ∙ ap (play (music_at port.events k)) none in
    let notes : notes_at part port.events (suc k) ≡ notes_at part port.events k = ap (λ (m : Music). filter (λ n. part n.channel) m.notes) same in
    let past : past_at part port.events (suc k) ≡ past_at part port.events k = past_kept (notes_at part port.events) (is_reset_at port.events) k (reset_at (suc k) port.events ∙ ap any_resets none) in
    ap (pairs_of port.number o table) (
    ap (λ c. filter (lasts o.tail (port.tick (suc k))) (drop c (notes_at part port.events (suc k)))) past
    ∙ ap (λ xs. filter (lasts o.tail (port.tick (suc k))) (drop (past_at part port.events k) xs)) notes
    ∙ sym (narrower o.tail (port.tick k) (port.tick (suc k)) (timed.order k) (drop (past_at part port.events k) (notes_at part port.events k))))

pub after_reset : (o : Options) (part : ℕ → Bool) (table : Targets) (port : PortEvents) (k : ℕ) → is_reset_at port.events (suc k) ≡ true → pairs_at o part table port (suc k) ≡ []
after_reset o part table port k r =
    ap (λ c. pairs_of port.number o table (filter (lasts o.tail (port.tick (suc k))) (drop c (notes_at part port.events (suc k))))) (past_reset (notes_at part port.events) (is_reset_at port.events) k r)
    ∙ ap (λ xs. pairs_of port.number o table (filter (lasts o.tail (port.tick (suc k))) xs)) (drop-length (notes_at part port.events (suc k)))
