use Rattle.std.proofs.Common.{◌≡◌, ◌<◌, ◌≤◌, List, [], ◌∷◌, ℕ, length, arith, sym, subst}
use Rattle.std.proofs.lemmas.Result.{IfOk-weaker}
use Rattle.midi_model.specs.Writing.{Written, written}
use Rattle.mtune_files.specs.Sample.{sample_events, sample_bytes}
use Rattle.mtune_files.proofs.Sampled.{sample_writable, one_track_len}
use Rattle.mtune_files.proofs.chords.sample.Goals as goal

pub returns-clause-spells : goal.returns-clause-spells
returns-clause-spells c =
    let writable = sample_writable c.args.chords c.requires.few in
    c.finish.ensures.spells (sample_events c.args.chords ∷ []) (grind (arith, c.in_ok-track.ensures.stands)) writable

pub returns-clause-short : goal.returns-clause-short
returns-clause-short c =
    let es = sample_events c.args.chords in
    let content : length (written es).bytes ≤ 4000090 =
    subst (λ (w : Written). length w.bytes ≤ 4000090) c.in_ok-track.ensures.stands c.in_ok-track.ensures.short in
    let few : length (sample_bytes c.args.chords) < 4194304 = omega (arith, content, one_track_len es) in
    IfOk-weaker c.finish.result (λ v. v.items ≡ sample_bytes c.args.chords) (λ v. length v.items < 4194304)
    (λ v is. subst (λ (bytes : List ℕ). length bytes < 4194304) (sym is) few)
    (c.finish.ensures.bytes (es ∷ []) (grind (arith, c.in_ok-track.ensures.stands)))
