-- A text that is read is a scale text, and a scale text is read; each text has a scale or a first fault.
use Rattle.std.proofs.Common.{◌≡◌, ℕ, zero, suc, ◌+◌, ◌<◌, List, [], ◌∷◌, ◌++◌, length, slice_get, Some, Result, Ok, Err, refl, sym, ap, subst, inl, inr, arith}
use Rattle.scala_lines.specs.Laws.{DecimalsAreLow}
use Rattle.scala_lines.specs.Lines.{Numbered, content}
use Rattle.scl_text.specs.declared.entry.Entry.{Entry}
use Rattle.scl_text.specs.declared.entry.Entry.TheVariants.{Ratio, Cents}
use Rattle.scl_text.specs.declared.fault.SclKind.{SclKind}
use Rattle.scl_text.specs.declared.fault.SclKind.TheVariants.{NoDescription, NoCount, MissingPitch}
use Rattle.scala_lines.specs.Reading.{Fault, ◌>>=◌, fault, on_line}
use Rattle.scl_text.specs.Reading.{count_of, entries_at, scale_at, scale_of}
use Rattle.scl_text.specs.Pitch.{pitch_of}
use Rattle.scl_text.specs.Spelling.{IsPitch, ArePitches, BeginsWith, IsScale, ScaleText, NoPitch, StopsWith, IsFault, ScaleFault}
use Rattle.scl_text.specs.Ranges.{IsEntry, IsInRange}
use Rattle.scala_lines.specs.Laws.{ArePrefixes, AreNumbers}
use Rattle.scala_lines.specs.Steps.{bind_ok, bind_err, on_line_ok, on_line_err}
use Rattle.scl_text.proofs.Values.{pitch_takes, pitch_again, pitch_fault_takes, pitch_fault_again, pitch_in_range}
use Rattle.scl_text.proofs.Counts.{count_takes, count_again, count_fault_takes, count_fault_again}

abbrev Read : Type 0
Read = Result (List Entry) (Fault SclKind)

ok_is : (x y : List Entry) → (let r : Read = Ok x in r) ≡ Ok y → x ≡ y
ok_is x y e = cc

err_is : (x y : Fault SclKind) → (let r : Read = Err x in r) ≡ Err y → x ≡ y
err_is x y e = cc

-- ---- pitch lines

begins : (n : ℕ) (line : Numbered) (lines : List Numbered) (entry : Entry) (entries : List Entry) → IsPitch line.bytes entry → BeginsWith n lines entries → BeginsWith (suc n) (line ∷ lines) (entry ∷ entries)
begins n line lines entry entries p (pitches, more, e, a, l) = (line ∷ pitches, more, ap (λ r. line ∷ r) e, (p, a), omega (arith, l))

entries_take : ArePrefixes → (missing n : ℕ) (lines : List Numbered) (entries : List Entry) → entries_at missing n lines ≡ Ok entries → BeginsWith n lines entries
unfolding entries_at
entries_take prefixes missing zero lines entries e = subst (BeginsWith 0 lines) (ok_is [] entries e) ([], lines, refl, tt, refl)
entries_take prefixes missing (suc n) [] entries e = absurd cc
entries_take prefixes missing (suc n) (line ∷ lines) entries e =
    let a = bind_ok (on_line line.number (pitch_of line.bytes)) _ entries e in
    let b = bind_ok (entries_at missing n lines) _ entries a.2 in
    subst (BeginsWith (suc n) (line ∷ lines)) (ok_is _ entries b.2)
    (begins n line lines a.0 b.0 (pitch_takes prefixes line.bytes a.0 (on_line_ok line.number (pitch_of line.bytes) a.0 a.1)) (entries_take prefixes missing n lines b.0 b.1))

entries_again : ArePrefixes → (missing n : ℕ) (pitches more : List Numbered) (entries : List Entry) → ArePitches pitches entries → length entries ≡ n → entries_at missing n (pitches ++ more) ≡ Ok entries
unfolding entries_at
entries_again prefixes missing zero [] more [] a l = refl
entries_again prefixes missing (suc n) [] more [] a l = absurd (omega (arith, l))
entries_again prefixes missing n [] more (entry ∷ entries) a l = absurd a
entries_again prefixes missing n (line ∷ lines) more [] a l = absurd a
entries_again prefixes missing zero (line ∷ lines) more (entry ∷ entries) a l = absurd (omega (arith, l))
entries_again prefixes missing (suc n) (line ∷ lines) more (entry ∷ entries) a l =
    rw (pitch_again prefixes line.bytes entry a.0, entries_again prefixes missing n lines more entries a.1 (omega (arith, l))) refl

stops : (missing n : ℕ) (first : Numbered) (lines : List Numbered) (entry : Entry) (line : ℕ) (kind : SclKind) → IsPitch first.bytes entry → StopsWith missing n lines line kind → StopsWith missing (suc n) (first ∷ lines) line kind
stops missing n first lines entry line kind p (pitches, rest, entries, e, a, few, none) =
    (first ∷ pitches, rest, entry ∷ entries, ap (λ r. first ∷ r) e, (p, a), omega (arith, few), none)

-- a fault, seen by its line and its kind
abbrev On : (ℕ → SclKind → Type 0) → Fault SclKind → Type 0
On P f = P f.line f.kind

entries_fault : ArePrefixes → (missing n : ℕ) (lines : List Numbered) (f : Fault SclKind) → entries_at missing n lines ≡ Err f → On (StopsWith missing n lines) f
unfolding entries_at
entries_fault prefixes missing zero lines f e = absurd (let h : (let r : Read = Ok [] in r) ≡ Err f = e in cc)
entries_fault prefixes missing (suc n) [] f e =
    subst (On (StopsWith missing (suc n) [])) (err_is (record { line = missing; kind = MissingPitch }) f e) ([], [], [], refl, tt, omega arith, (refl, refl))
entries_fault prefixes missing (suc n) (line ∷ lines) f e =
    elim (bind_err (on_line line.number (pitch_of line.bytes)) (λ entry. entries_at missing n lines >>= λ entries. Ok (entry ∷ entries)) f e) [
      | inl b ↦ let p = on_line_err line.number (pitch_of line.bytes) f b in
          subst (On (StopsWith missing (suc n) (line ∷ lines))) (sym p.2)
          ([], line ∷ lines, [], refl, tt, omega arith, (refl, pitch_fault_takes prefixes line.bytes p.0 p.1))
      | inr b ↦ elim (bind_err (entries_at missing n lines) (λ entries. Ok (b.0 ∷ entries)) f b.2) [
        | inl d ↦ stops missing n line lines b.0 f.line f.kind (pitch_takes prefixes line.bytes b.0 (on_line_ok line.number (pitch_of line.bytes) b.0 b.1)) (entries_fault prefixes missing n lines f d)
        | inr d ↦ absurd (let h : (let r : Read = Ok (b.0 ∷ d.0) in r) ≡ Err f = d.2 in cc)
      ]
    ]

entries_fault_again : ArePrefixes → (missing n : ℕ) (pitches rest : List Numbered) (entries : List Entry) (line : ℕ) (kind : SclKind) → ArePitches pitches entries → length entries < n → NoPitch missing rest line kind
    → entries_at missing n (pitches ++ rest) ≡ fault line kind
unfolding entries_at
entries_fault_again prefixes missing zero pitches rest entries line kind a few none = absurd (omega (arith, few))
entries_fault_again prefixes missing (suc n) [] [] [] line kind a few none = rw (none.0, none.1) refl
entries_fault_again prefixes missing (suc n) [] (first ∷ more) [] line kind a few none = rw (pitch_fault_again prefixes first.bytes kind none.1, none.0) refl
entries_fault_again prefixes missing (suc n) [] rest (entry ∷ entries) line kind a few none = absurd a
entries_fault_again prefixes missing (suc n) (first ∷ lines) rest [] line kind a few none = absurd a
entries_fault_again prefixes missing (suc n) (first ∷ lines) rest (entry ∷ entries) line kind a few none =
    rw (pitch_again prefixes first.bytes entry a.0, entries_fault_again prefixes missing n lines rest entries line kind a.1 (omega (arith, few)) none) refl

-- ---- the text

scale_takes : ArePrefixes → AreNumbers → (missing : ℕ) (lines : List Numbered) (entries : List Entry) → scale_at missing lines ≡ Ok entries → IsScale lines entries
unfolding scale_at
scale_takes prefixes numbers missing [] entries e = absurd cc
scale_takes prefixes numbers missing (d ∷ []) entries e = absurd cc
scale_takes prefixes numbers missing (d ∷ c ∷ lines) entries e =
    let a = bind_ok (on_line c.number (count_of c.bytes)) (λ n. entries_at missing n lines) entries e in
    (a.0, count_takes numbers c.bytes a.0 (on_line_ok c.number (count_of c.bytes) a.0 a.1), entries_take prefixes missing a.0 lines entries a.2)

scale_again : ArePrefixes → AreNumbers → (missing : ℕ) (lines : List Numbered) (entries : List Entry) → IsScale lines entries → scale_at missing lines ≡ Ok entries
unfolding scale_at
scale_again prefixes numbers missing [] entries s = absurd s
scale_again prefixes numbers missing (d ∷ []) entries s = absurd s
scale_again prefixes numbers missing (d ∷ c ∷ lines) entries (n, count, (pitches, more, e, a, l)) =
    rw (count_again numbers c.bytes n count, e) (entries_again prefixes missing n pitches more entries a l)

fault_takes : ArePrefixes → AreNumbers → (missing : ℕ) (lines : List Numbered) (f : Fault SclKind) → scale_at missing lines ≡ Err f → On (IsFault missing lines) f
unfolding scale_at
fault_takes prefixes numbers missing [] f e = subst (On (IsFault missing [])) (err_is (record { line = missing; kind = NoDescription }) f e) (refl, refl)
fault_takes prefixes numbers missing (d ∷ []) f e = subst (On (IsFault missing (d ∷ []))) (err_is (record { line = missing; kind = NoCount }) f e) (refl, refl)
fault_takes prefixes numbers missing (d ∷ c ∷ lines) f e =
    elim (bind_err (on_line c.number (count_of c.bytes)) (λ n. entries_at missing n lines) f e) [
      | inl b ↦ let p = on_line_err c.number (count_of c.bytes) f b in
          subst (On (IsFault missing (d ∷ c ∷ lines))) (sym p.2) (inl (refl, count_fault_takes numbers c.bytes p.0 p.1))
      | inr b ↦ inr (b.0, count_takes numbers c.bytes b.0 (on_line_ok c.number (count_of c.bytes) b.0 b.1), entries_fault prefixes missing b.0 lines f b.2)
    ]

fault_again : ArePrefixes → AreNumbers → (missing : ℕ) (lines : List Numbered) (line : ℕ) (kind : SclKind) → IsFault missing lines line kind → scale_at missing lines ≡ fault line kind
unfolding scale_at
fault_again prefixes numbers missing [] line kind s = rw (s.0, s.1) refl
fault_again prefixes numbers missing (d ∷ []) line kind s = rw (s.0, s.1) refl
fault_again prefixes numbers missing (d ∷ c ∷ lines) line kind (inl s) = rw (count_fault_again numbers c.bytes kind s.1, s.0) refl
fault_again prefixes numbers missing (d ∷ c ∷ lines) line kind (inr (n, count, (pitches, rest, entries, e, a, few, none))) =
    rw (count_again numbers c.bytes n count, e) (entries_fault_again prefixes missing n pitches rest entries line kind a few none)

pub read_is_scale : ArePrefixes → AreNumbers → (lines : List (List ℕ)) (entries : List Entry) → scale_of lines ≡ Ok entries → ScaleText lines entries
read_is_scale prefixes numbers lines entries e = scale_takes prefixes numbers (length lines + 1) (content lines) entries e

pub scale_is_read : ArePrefixes → AreNumbers → (lines : List (List ℕ)) (entries : List Entry) → ScaleText lines entries → scale_of lines ≡ Ok entries
scale_is_read prefixes numbers lines entries s = scale_again prefixes numbers (length lines + 1) (content lines) entries s

pub read_is_fault : ArePrefixes → AreNumbers → (lines : List (List ℕ)) (line : ℕ) (kind : SclKind) → scale_of lines ≡ fault line kind → ScaleFault lines line kind
read_is_fault prefixes numbers lines line kind e = fault_takes prefixes numbers (length lines + 1) (content lines) (record { line = line; kind = kind }) e

pub fault_is_read : ArePrefixes → AreNumbers → (lines : List (List ℕ)) (line : ℕ) (kind : SclKind) → ScaleFault lines line kind → scale_of lines ≡ fault line kind
fault_is_read prefixes numbers lines line kind s = fault_again prefixes numbers (length lines + 1) (content lines) line kind s

-- ---- what a scale keeps

each_in_range : DecimalsAreLow → (pitches : List Numbered) (entries : List Entry) → ArePitches pitches entries → (k : ℕ) (entry : Entry) → slice_get entries k ≡ Some entry → IsEntry entry
each_in_range low_decimals [] [] a k entry e = absurd cc
each_in_range low_decimals [] (x ∷ xs) a k entry e = absurd a
each_in_range low_decimals (l ∷ ls) [] a k entry e = absurd a
each_in_range low_decimals (l ∷ ls) (x ∷ xs) a zero entry e = subst IsEntry (let h : x ≡ entry = cc in h) (pitch_in_range low_decimals l.bytes x a.0)
each_in_range low_decimals (l ∷ ls) (x ∷ xs) a (suc k) entry e = each_in_range low_decimals ls xs a.1 k entry e

kept_by : DecimalsAreLow → (lines : List Numbered) (entries : List Entry) → IsScale lines entries → IsInRange entries
kept_by low_decimals [] entries s = absurd s
kept_by low_decimals (d ∷ []) entries s = absurd s
kept_by low_decimals (d ∷ c ∷ lines) entries (n, (digits, has, is, some, few), (pitches, more, e, a, l)) = record {
  some = omega (arith, some, l);
  few = omega (arith, few, l);
  ratios = λ k num den at. each_in_range low_decimals pitches entries a k (Ratio num den) at;
  cents = λ k n at. each_in_range low_decimals pitches entries a k (Cents n) at;
}

pub kept : ArePrefixes → AreNumbers → DecimalsAreLow → (missing : ℕ) (lines : List Numbered) (entries : List Entry) → scale_at missing lines ≡ Ok entries → IsInRange entries
kept prefixes numbers low_decimals missing lines entries e = kept_by low_decimals lines entries (scale_takes prefixes numbers missing lines entries e)
