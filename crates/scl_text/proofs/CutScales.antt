-- A scale text that is cut before its last pitch line.
use Rattle.std.proofs.Common.{◌≡◌, ℕ, zero, suc, ◌+◌, ◌<◌, ◌≤◌, List, [], ◌∷◌, ◌++◌, length, take, refl, sym, ap, subst, inl, inr, arith}
use Rattle.scala_lines.specs.Lines.{Numbered, content}
use Rattle.scala_lines.specs.Cuts.{CutLeavesFew}
use Rattle.scl_text.specs.declared.entry.Entry.{Entry}
use Rattle.scl_text.specs.declared.fault.SclKind.{SclKind}
use Rattle.scl_text.specs.declared.fault.SclKind.TheVariants.{NoDescription, NoCount, MissingPitch}
use Rattle.scl_text.specs.Spelling.{ArePitches, IsScale, StopsWith, IsFault, ScaleText, ScaleFault}
use Rattle.scl_text.specs.Cuts.{last_pitch_line, IsMissing}

-- the first i pitch lines are the pitch lines of the first i entries
abbrev FirstPitches : ℕ → List Numbered → List Entry → Type 0
FirstPitches i lines entries = (ps : List Numbered) × (es : List Entry) × (take i lines ≡ ps ++ []) × ArePitches ps es × (length es ≡ i)

first_pitches : (i : ℕ) (pitches more : List Numbered) (entries : List Entry) → ArePitches pitches entries → i ≤ length entries → FirstPitches i (pitches ++ more) entries
first_pitches zero pitches more entries a few = ([], [], refl, tt, refl)
first_pitches (suc i) [] more [] a few = absurd (omega (arith, few))
first_pitches (suc i) [] more (e ∷ es) a few = absurd a
first_pitches (suc i) (p ∷ ps) more [] a few = absurd a
first_pitches (suc i) (p ∷ ps) more (e ∷ es) a few =
    let r = first_pitches i ps more es a.1 (omega (arith, few)) in
    let long = r.4 in
    (p ∷ r.0, e ∷ r.1, ap (λ ls. p ∷ ls) r.2, (a.0, r.3), omega (arith, long))

-- with only the first j of the lines that aren't comments
cut_scale : (missing : ℕ) (lines : List Numbered) (entries : List Entry) (j : ℕ) → IsScale lines entries → j ≤ length entries + 1
    → (kind : SclKind) × IsMissing kind × IsFault missing (take j lines) missing kind
cut_scale missing [] entries j s few = absurd s
cut_scale missing (d ∷ []) entries j s few = absurd s
cut_scale missing (d ∷ c ∷ lines) entries zero s few = (NoDescription, inl refl, (refl, refl))
cut_scale missing (d ∷ c ∷ lines) entries (suc zero) s few = (NoCount, inr (inl refl), (refl, refl))
cut_scale missing (d ∷ c ∷ lines) entries (suc (suc i)) (n, count, (pitches, more, e, a, l)) few =
    let first = first_pitches i pitches more entries a (omega (arith, few)) in
    let long = first.4 in
    let stops : StopsWith missing n (take i (pitches ++ more)) missing MissingPitch =
    (first.0, [], first.1, first.2, first.3, omega (arith, long, l, few), (refl, refl)) in
    let P : List Numbered → Type 0 = λ ls. StopsWith missing n (take i ls) missing MissingPitch in
    (MissingPitch, inr (inr refl), inr (n, count, subst P (sym e) stops))

pub cut_misses : CutLeavesFew → (lines : List (List ℕ)) (entries : List Entry) (n : ℕ) → ScaleText lines entries → n < last_pitch_line lines entries
    → (kind : SclKind) × IsMissing kind × ScaleFault (take n lines) (n + 1) kind
cut_misses leaves lines entries n s before =
    let cut = leaves lines n (length entries + 1) before in
    let r = cut_scale (n + 1) (content lines) entries cut.1.0 s cut.1.1 in
    let P : List Numbered → Type 0 = λ ls. IsFault (n + 1) ls (n + 1) r.0 in
    let Q : ℕ → Type 0 = λ k. IsFault (k + 1) (content (take n lines)) (n + 1) r.0 in
    (r.0, r.1, subst Q (sym cut.0) (subst P (sym cut.1.2) r.2))
