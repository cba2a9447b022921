-- Going on to the next track chunk.
use Rattle.std.proofs.Common.{◌≡◌, ℕ, zero, suc, ◌≤◌, ◌<◌, List, length, drop, true, false, cond, eqb, ltb, Result, Ok, Err, refl, ap, arith}
use Rattle.std.proofs.lemmas.Bool.{ltb-false}
use Rattle.std.proofs.lemmas.List.{length-drop}
use Rattle.midi_model.specs.declared.fault.Stop.{Stop}
use Rattle.midi_model.specs.Reading.{◌>>=◌}
use Rattle.midi_model.specs.FileText.{Chunk, chunk_at, content_from, next_content}
use Rattle.midi_model.proofs.Laws.{guarded, ok_is}

-- a chunk takes at least a byte
pub chunk_shorter : (bytes : List ℕ) (x : Chunk × List ℕ) → chunk_at bytes ≡ Ok x → length x.1 < length bytes
unfolding chunk_at
chunk_shorter bytes x e =
    let g = guarded (ltb (length bytes) 8) _ _ x e in
    let h = guarded (ltb (length (drop 4 (drop 4 bytes))) _) _ _ x g.1 in
    let long : 8 ≤ length bytes = ltb-false (length bytes) 8 g.0 in
    omega (arith, ap (λ y. length y.1) (ok_is _ x h.1), length-drop {A = ℕ}, long)

-- which continuation is taken doesn't matter where they agree on what was read
agree : {B : Type 0} (f g : Chunk × List ℕ → Result B Stop) (r : Result (Chunk × List ℕ) Stop) → ((x : Chunk × List ℕ) → r ≡ Ok x → f x ≡ g x) → (r >>= f) ≡ (r >>= g)
agree f g (Err e) h = refl
agree f g (Ok x) h = h x refl

fuel : (n m : ℕ) (bytes : List ℕ) → length bytes < n → length bytes < m → content_from n bytes ≡ content_from m bytes
unfolding content_from
fuel zero m bytes lt lt2 = absurd (omega (arith, lt))
fuel (suc n) zero bytes lt lt2 = absurd (omega (arith, lt2))
fuel (suc n) (suc m) bytes lt lt2 = agree _ _ (chunk_at bytes) (λ x e.
    let small = chunk_shorter bytes x e in
    ap (cond (eqb x.0.name 0x4d54726b) (Ok (x.0.content, x.1))) (fuel n m x.1 (omega (arith, small, lt)) (omega (arith, small, lt2))))

pub skips : (bytes : List ℕ) (x : Chunk × List ℕ) → chunk_at bytes ≡ Ok x → eqb x.0.name 0x4d54726b ≡ false → next_content bytes ≡ next_content x.1
unfolding next_content content_from
skips bytes x e h =
    let small = chunk_shorter bytes x e in
    rw (e, h) (fuel (length bytes) (suc (length x.1)) x.1 small (omega arith))

pub takes_it : (bytes : List ℕ) (x : Chunk × List ℕ) → chunk_at bytes ≡ Ok x → eqb x.0.name 0x4d54726b ≡ true → next_content bytes ≡ Ok (x.0.content, x.1)
unfolding next_content content_from
takes_it bytes x e h = rw (e, h) refl

pub stops : (bytes : List ℕ) (e : Stop) → chunk_at bytes ≡ Err e → next_content bytes ≡ Err e
unfolding next_content content_from
stops bytes e h = rw h refl

-- the content of the chunk at the front, or of a later one
pub by_chunks : (bytes : List ℕ) → next_content bytes ≡ (chunk_at bytes >>= λ c. cond (eqb c.0.name 0x4d54726b) (Ok (c.0.content, c.1)) (next_content c.1))
unfolding next_content content_from
by_chunks bytes = agree _ _ (chunk_at bytes) (λ x e.
    let small = chunk_shorter bytes x e in
    ap (cond (eqb x.0.name 0x4d54726b) (Ok (x.0.content, x.1))) (fuel (length bytes) (suc (length x.1)) x.1 small (omega arith)))
