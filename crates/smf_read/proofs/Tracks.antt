-- Reading tracks one after the other, as a loop does.
use Rattle.std.proofs.Common.{◌≡◌, ℕ, suc, ◌-◌, ◌+◌, ◌≤◌, ◌<◌, List, [], ◌∷◌, ◌++◌, Result, Ok, Err, refl, sym, ap, ◌∙◌, append_assoc, arith}
use Rattle.std.proofs.lemmas.List.{append-nil}
use Rattle.midi_model.specs.declared.fault.Stop.{Stop}
use Rattle.midi_model.specs.Reading.{◌>>=◌}
use Rattle.midi_model.specs.FileText.{track_at, tracks_at}

abbrev Read : Type 0
Read = Result (List (List ℕ) × List ℕ) Stop

-- what was read before, and what is still read
abbrev pub with_front : List (List ℕ) → Read → Read
with_front front read = read >>= λ x. Ok (front ++ x.0, x.1)

regroup : (front : List (List ℕ)) (n : List ℕ) (read : Read) → with_front front (read >>= λ x. Ok (n ∷ x.0, x.1)) ≡ with_front (front ++ n ∷ []) read
regroup front n (Ok x) = ap (λ (ns : List (List ℕ)). Ok (ns, x.1)) (simp append_assoc)
regroup front n (Err f) = refl

pub goes_on : (front : List (List ℕ)) (count i : ℕ) (bytes : List ℕ) (n : List ℕ) (after : List ℕ) (total : Read) → i < count → track_at bytes ≡ Ok (n, after)
    → with_front front (tracks_at (count - i) bytes) ≡ total → with_front (front ++ n ∷ []) (tracks_at (count - (i + 1)) after) ≡ total
unfolding tracks_at
goes_on front count i bytes n after total lt h so_far =
    let k : count - i ≡ suc (count - (i + 1)) = omega arith in
    let one : with_front front (tracks_at (count - i) bytes) ≡ with_front (front ++ n ∷ []) (tracks_at (count - (i + 1)) after) = rw (k, h) (regroup front n (tracks_at (count - (i + 1)) after)) in
    sym one ∙ so_far

pub ends : (e : Stop) (front : List (List ℕ)) (count i : ℕ) (bytes : List ℕ) (total : Read) → i < count → track_at bytes ≡ Err e
    → with_front front (tracks_at (count - i) bytes) ≡ total → total ≡ Err e
unfolding tracks_at
ends e front count i bytes total lt h so_far =
    let k : count - i ≡ suc (count - (i + 1)) = omega arith in
    let one : with_front front (tracks_at (count - i) bytes) ≡ Err e = rw (k, h) refl in
    sym so_far ∙ one

pub is_done : (front : List (List ℕ)) (count i : ℕ) (bytes : List ℕ) (total : Read) → count ≤ i → with_front front (tracks_at (count - i) bytes) ≡ total → total ≡ Ok (front, bytes)
unfolding tracks_at
is_done front count i bytes total le so_far =
    let k : count - i ≡ 0 = omega arith in
    let one : with_front front (tracks_at (count - i) bytes) ≡ Ok (front, bytes) = rw k (ap (λ (ns : List (List ℕ)). Ok (ns, bytes)) (append-nil front)) in
    sym so_far ∙ one
