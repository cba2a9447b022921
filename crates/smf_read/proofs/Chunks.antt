-- Going on to the next chunk, by the law that `reading_laws` states.
use Rattle.std.proofs.Common.{◌≡◌, ℕ, List, true, false, eqb, Ok, Err, refl, ◌∙◌}
use Rattle.midi_model.specs.declared.fault.Stop.{Stop}
use Rattle.midi_model.specs.FileText.{Chunk, chunk_at, next_content}
use Rattle.midi_model.specs.ReadingLaws.{ContentByChunks}

pub skips : ContentByChunks → (bytes : List ℕ) (x : Chunk × List ℕ) → chunk_at bytes ≡ Ok x → eqb x.0.name 0x4d54726b ≡ false → next_content bytes ≡ next_content x.1
skips law bytes x e h = law bytes ∙ rw (e, h) refl

pub takes_it : ContentByChunks → (bytes : List ℕ) (x : Chunk × List ℕ) → chunk_at bytes ≡ Ok x → eqb x.0.name 0x4d54726b ≡ true → next_content bytes ≡ Ok (x.0.content, x.1)
takes_it law bytes x e h = law bytes ∙ rw (e, h) refl

pub stops : ContentByChunks → (bytes : List ℕ) (e : Stop) → chunk_at bytes ≡ Err e → next_content bytes ≡ Err e
stops law bytes e h = law bytes ∙ rw h refl
