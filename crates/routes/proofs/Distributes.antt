-- What was put into new tracks is what was dealt out to them.
use Rattle.std.proofs.Common.{◌≡◌, ◌<◌, ℕ, List, [], ◌∷◌, ◌++◌, map, sym, ap, subst, ◌∙◌, arith, append_assoc}
use Rattle.std.proofs.lemmas.List.{append-nil, length-map}
use Rattle.mt_base.specs.Midi.{MidiEvent}
use Rattle.midi_model.specs.Merged.{IsPlayable}
use Rattle.midi_model.specs.Writing.{Written, written}
use Rattle.event_stream.specs.Distributed.{distributed, MayPut}
use Rattle.routes.specs.Laws.{PlayableMayBePut, PutIsDealt}
use Rattle.routes.specs.Putting.{put_one, put_all, AllMayPut}
use Rattle.event_stream.proofs.Dealing.{length_dealt}
use Rattle.routes.proofs.Premises.{PutLaws}

-- one event behind those before it
put_next : PutLaws → (n : ℕ) (xs : List MidiEvent) (e : MidiEvent) → MayPut (map written (distributed n xs)) e
    → put_one (map written (distributed n xs)) e ≡ map written (distributed n (xs ++ e ∷ []))
put_next laws n xs e h =
    let low : e.track < n = omega (arith, h.exists, length-map (distributed n xs) written, length_dealt 0 n xs) in
    laws.dealt n xs e low

-- behind what was put before
may_from : PutLaws → (n : ℕ) (xs ys : List MidiEvent) → IsPlayable n (xs ++ ys) → AllMayPut (map written (distributed n xs)) ys
unfolding AllMayPut
may_from laws n xs [] h = tt
may_from laws n xs (y ∷ ys) h =
    let here : MayPut (map written (distributed n xs)) y = laws.may n xs y ys h in
    let next = put_next laws n xs y here in (
      here,
      subst (λ (w : List Written). AllMayPut w ys) (sym next)
          (may_from laws n (xs ++ y ∷ []) ys (subst (IsPlayable n) (sym (append_assoc xs (y ∷ []) ys)) h)),
    )

put_from : PutLaws → (n : ℕ) (xs ys : List MidiEvent) → AllMayPut (map written (distributed n xs)) ys → put_all (map written (distributed n xs)) ys
    ≡ map written (distributed n (xs ++ ys))
unfolding AllMayPut put_all
put_from laws n xs [] h = ap (λ (l : List MidiEvent). map written (distributed n l)) (sym (append-nil xs))
put_from laws n xs (y ∷ ys) h =
    let next = put_next laws n xs y h.0 in
    ap (λ (w : List Written). put_all w ys) next
    ∙ put_from laws n (xs ++ y ∷ []) ys (subst (λ (w : List Written). AllMayPut w ys) next h.1)
    ∙ ap (λ (l : List MidiEvent). map written (distributed n l)) (append_assoc xs (y ∷ []) ys)

pub may_all : PutLaws → PlayableMayBePut
may_all laws n es h = may_from laws n [] es h

pub put_is : PutLaws → PutIsDealt
put_is laws n es h = put_from laws n [] es (may_all laws n es h)
