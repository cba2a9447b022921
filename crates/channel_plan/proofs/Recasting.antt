-- Notes are given channels anew, one after another.
use Rattle.std.proofs.Common.{◌≡◌, ◌≤◌, ◌<◌, ◌+◌, ℕ, zero, suc, List, [], ◌∷◌, length, take, get_or, slice_set, refl, ap, ◌∙◌, arith}
use Rattle.channel_plan.specs.declared.plan.Given.{Given}
use Rattle.channel_plan.specs.Told.{recast_note, recast_notes}

-- one note more
pub one_more : (z : ℕ) (used rows runs : List ℕ) (gs : List Given) (i : ℕ) (r : ℕ) (d : Given) → i < length runs → i < length gs →
    slice_set (recast_notes z used rows (take i runs) gs) i (recast_note z used rows (get_or runs i r) (get_or (recast_notes z used rows (take i runs) gs) i d)) ≡ recast_notes z used rows (take (suc i) runs) gs
one_more z used rows [] gs i r d l m = absurd (omega (arith, l))
one_more z used rows (run ∷ runs) [] i r d l m = absurd (omega (arith, m))
one_more z used rows (run ∷ runs) (g ∷ gs) zero r d l m = refl
one_more z used rows (run ∷ runs) (g ∷ gs) (suc i) r d l m = ap (λ ys. recast_note z used rows run g ∷ ys) (one_more z used rows runs gs i r d (omega (arith, l)) (omega (arith, m)))

-- once all notes are given theirs
pub all_given : (z : ℕ) (used rows runs : List ℕ) (gs : List Given) (i : ℕ) → length gs ≤ i → recast_notes z used rows (take i runs) gs ≡ recast_notes z used rows runs gs
all_given z used rows [] gs zero l = refl
all_given z used rows [] gs (suc i) l = refl
all_given z used rows (run ∷ runs) [] zero l = refl
all_given z used rows (run ∷ runs) [] (suc i) l = refl
all_given z used rows (run ∷ runs) (g ∷ gs) zero l = absurd (omega (arith, l))
all_given z used rows (run ∷ runs) (g ∷ gs) (suc i) l = ap (λ ys. recast_note z used rows run g ∷ ys) (all_given z used rows runs gs i (omega (arith, l)))

pub one_given : (z : ℕ) (used rows runs : List ℕ) (gs hs : List Given) (i r : ℕ) (g h : Given) → hs ≡ recast_notes z used rows (take i runs) gs → length hs ≡ length gs → i < length runs → i < length hs →
    g ≡ get_or hs i g → h ≡ recast_note z used rows (get_or runs i r) g → slice_set hs i h ≡ recast_notes z used rows (take (i + 1) runs) gs
one_given z used rows runs gs hs i r g h e n l m is to =
    let s : suc i ≡ i + 1 = omega arith in
    ap (slice_set hs i) (to ∙ ap (recast_note z used rows (get_or runs i r)) (is ∙ ap (λ ys. get_or ys i g) e))
    ∙ ap (λ ys. slice_set ys i (recast_note z used rows (get_or runs i r) (get_or (recast_notes z used rows (take i runs) gs) i g))) e
    ∙ one_more z used rows runs gs i r g l (omega (arith, n, m))
    ∙ ap (λ k. recast_notes z used rows (take k runs) gs) s
