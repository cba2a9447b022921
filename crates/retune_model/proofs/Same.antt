-- What a translation by blocks writes is the same music as its source.
use Rattle.std.proofs.Common.{◌≡◌, List, [], ◌∷◌, ◌++◌, refl, ap, sym, ◌∙◌}
use Rattle.midi_model.specs.Music.{Music, quiet, step, play}
use Rattle.midi_model.specs.Receiver.{start, after}
use Rattle.retune_model.specs.Blocks.{all_events, AreSilent, Block, written, output, sources, Fits}
use Rattle.midi_model.specs.MusicLaws.{EventsSettle}
use Rattle.retune_model.proofs.Steady.{play-append, music_all}
use Rattle.retune_model.proofs.Steady.{Steady, steady-quiet, steady-step, steady-play}
use Rattle.retune_model.proofs.Silent.{groups_silent}

-- one block
pub same_block : (m : Music) (b : Block) → Steady m → AreSilent m b.before → AreSilent (step m b.event) b.behind → play m (written b) ≡ step m b.event
same_block m b h before behind =
    play-append m (all_events b.before) (b.event ∷ all_events b.behind)
    ∙ ap (λ y. play y (b.event ∷ all_events b.behind)) (groups_silent m b.before h before)
    ∙ groups_silent (step m b.event) b.behind (steady-step m b.event h) behind

-- all blocks
pub same_output : (m : Music) (bs : List Block) → Steady m → Fits m bs → play m (output bs) ≡ play m (sources bs)
same_output m [] h f = refl
same_output m (b ∷ bs) h f =
    play-append m (written b) (output bs)
    ∙ ap (λ y. play y (output bs)) (same_block m b h f.0 f.1)
    ∙ same_output (step m b.event) bs (steady-step m b.event h) f.2

fits-front : (m : Music) (xs ys : List Block) → Fits m (xs ++ ys) → Fits m xs
fits-front m [] ys f = tt
fits-front m (x ∷ xs) ys f = (f.0, f.1, fits-front (step m x.event) xs ys f.2)

fits-back : (m : Music) (xs ys : List Block) → Fits m (xs ++ ys) → Fits (play m (sources xs)) ys
fits-back m [] ys f = f
fits-back m (x ∷ xs) ys f = fits-back (step m x.event) xs ys f.2

-- after each source event
pub same_each : (settled : EventsSettle) (xs ys : List Block) → Fits quiet (xs ++ ys) → (after (output xs)).music ≡ (after (sources xs)).music
same_each settled xs ys f =
    music_all start (output xs) ∙ same_output quiet xs (steady-quiet settled) (fits-front quiet xs ys f) ∙ sym (music_all start (sources xs))

-- and within its block, right after the source event itself
pub same_within : (settled : EventsSettle) (xs : List Block) (b : Block) (ys : List Block) → Fits quiet (xs ++ b ∷ ys)
    → (after (output xs ++ (all_events b.before ++ b.event ∷ []))).music ≡ (after (sources xs ++ b.event ∷ [])).music
same_within settled xs b ys f =
    let here : Music = play quiet (sources xs) in
    music_all start (output xs ++ (all_events b.before ++ b.event ∷ []))
    ∙ play-append quiet (output xs) (all_events b.before ++ b.event ∷ [])
    ∙ ap (λ y. play y (all_events b.before ++ b.event ∷ [])) (same_output quiet xs (steady-quiet settled) (fits-front quiet xs (b ∷ ys) f))
    ∙ play-append here (all_events b.before) (b.event ∷ [])
    ∙ ap (λ y. play y (b.event ∷ [])) (groups_silent here b.before (steady-play quiet (sources xs) (steady-quiet settled)) (fits-back quiet xs (b ∷ ys) f).0)
    ∙ sym (play-append quiet (sources xs) (b.event ∷ []))
    ∙ sym (music_all start (sources xs ++ b.event ∷ []))
