-- A text that is read is a mapping text, and a mapping text is read; each text has a mapping or a first fault.
use Rattle.std.proofs.Common.{◌≡◌, ℕ, zero, suc, ◌+◌, ◌≤◌, List, [], ◌∷◌, length, slice_get, Option, Some, None, Result, Ok, Err, refl, sym, ap, subst, ◌∙◌, inl, inr, arith}
use Rattle.scala_lines.specs.Lines.{Numbered, content, entry_lines}
use Rattle.kbm_text.specs.declared.fault.KbmKind.{KbmKind}
use Rattle.kbm_text.specs.declared.fault.KbmKind.TheVariants.{MissingField, SizeRange, KeyRange, DegreeRange}
use Rattle.scala_lines.specs.Reading.{Fault, ◌>>=◌, fault, on_line}
use Rattle.kbm_text.specs.Reading.{field_at, Keys, keys_at, entries_at, map_at, map_of}
use Rattle.kbm_text.specs.Field.{number_in, frequency_of, entry_of}
use Rattle.kbm_text.specs.Map.{KeyMap}
use Rattle.kbm_text.specs.Spelling.{IsIn, NotIn, IsFrequency, NoFrequency, IsEntry, AreEntries, IsMap, MapText, EntriesFault, FieldFault, OctaveFault, FrequencyFault, ReferenceFault, MiddleFault, LastFault, FirstFault, IsFault, MapFault}
use Rattle.scala_lines.specs.Laws.{ArePrefixes, AreNumbers}
use Rattle.scala_lines.specs.Steps.{ok_is, err_is, ok_not_err, bind_ok, bind_err, on_line_ok, on_line_err}
use Rattle.kbm_text.proofs.Fields.{in_takes, in_again, out_takes, out_again, entry_takes, entry_again, no_entry_takes, no_entry_again}
use Rattle.kbm_text.proofs.Frequencies.{frequency_takes, frequency_again, no_frequency_takes, no_frequency_again}

-- ---- entries

entries_take : ArePrefixes → AreNumbers → (n : ℕ) (lines : List Numbered) (entries : List (Option ℕ)) → entries_at n lines ≡ Ok entries → AreEntries n lines entries
unfolding entries_at
entries_take prefixes numbers zero lines entries e = sym (ok_is [] entries e)
entries_take prefixes numbers (suc n) [] entries e =
    let b = bind_ok (entries_at n []) _ entries e in
    subst (AreEntries (suc n) []) (ok_is (None ∷ b.0) entries b.2) (refl, entries_take prefixes numbers n [] b.0 b.1)
entries_take prefixes numbers (suc n) (line ∷ lines) entries e =
    let a = bind_ok (on_line line.number (entry_of line.bytes)) _ entries e in
    let b = bind_ok (entries_at n lines) _ entries a.2 in
    subst (AreEntries (suc n) (line ∷ lines)) (ok_is (a.0 ∷ b.0) entries b.2)
    (entry_takes prefixes numbers line.bytes a.0 (on_line_ok line.number (entry_of line.bytes) a.0 a.1), entries_take prefixes numbers n lines b.0 b.1)

entries_again : ArePrefixes → AreNumbers → (n : ℕ) (lines : List Numbered) (entries : List (Option ℕ)) → AreEntries n lines entries → entries_at n lines ≡ Ok entries
unfolding entries_at
entries_again prefixes numbers zero lines entries a = rw a refl
entries_again prefixes numbers (suc n) [] [] a = absurd a
entries_again prefixes numbers (suc n) (line ∷ lines) [] a = absurd a
entries_again prefixes numbers (suc n) [] (entry ∷ entries) a = rw (entries_again prefixes numbers n [] entries a.1, a.0) refl
entries_again prefixes numbers (suc n) (line ∷ lines) (entry ∷ entries) a = rw (entry_again prefixes numbers line.bytes entry a.0, entries_again prefixes numbers n lines entries a.1) refl

-- a fault, seen by its line and its kind
abbrev On : (ℕ → KbmKind → Type 0) → Fault KbmKind → Type 0
On P f = P f.line f.kind

none_left : (n : ℕ) (f : Fault KbmKind) → entries_at n [] ≡ Err f → ⊥
unfolding entries_at
none_left zero f e = ok_not_err {A = List (Option ℕ)} [] f e
none_left (suc n) f e = elim (bind_err (entries_at n []) (λ entries. Ok (None ∷ entries)) f e) [
  | inl b ↦ none_left n f b
  | inr b ↦ ok_not_err {A = List (Option ℕ)} (None ∷ b.0) f b.2
]

entries_fault : ArePrefixes → AreNumbers → (n : ℕ) (lines : List Numbered) (f : Fault KbmKind) → entries_at n lines ≡ Err f → On (EntriesFault n lines) f
unfolding entries_at
entries_fault prefixes numbers zero lines f e = absurd (ok_not_err {A = List (Option ℕ)} [] f e)
entries_fault prefixes numbers (suc n) [] f e = absurd (none_left (suc n) f e)
entries_fault prefixes numbers (suc n) (line ∷ lines) f e =
    elim (bind_err (on_line line.number (entry_of line.bytes)) (λ entry. entries_at n lines >>= λ entries. Ok (entry ∷ entries)) f e) [
      | inl b ↦ let p = on_line_err line.number (entry_of line.bytes) f b in
          subst (On (EntriesFault (suc n) (line ∷ lines))) (sym p.2) (inl (refl, no_entry_takes prefixes numbers line.bytes p.0 p.1))
      | inr b ↦ elim (bind_err (entries_at n lines) (λ entries. Ok (b.0 ∷ entries)) f b.2) [
        | inl d ↦ inr (b.0, entry_takes prefixes numbers line.bytes b.0 (on_line_ok line.number (entry_of line.bytes) b.0 b.1), entries_fault prefixes numbers n lines f d)
        | inr d ↦ absurd (ok_not_err {A = List (Option ℕ)} (b.0 ∷ d.0) f d.2)
      ]
    ]

entries_fault_again : ArePrefixes → AreNumbers → (n : ℕ) (lines : List Numbered) (line : ℕ) (kind : KbmKind) → EntriesFault n lines line kind → entries_at n lines ≡ fault line kind
unfolding entries_at
entries_fault_again prefixes numbers zero lines line kind h = absurd h
entries_fault_again prefixes numbers (suc n) [] line kind h = absurd h
entries_fault_again prefixes numbers (suc n) (first ∷ lines) line kind (inl h) = rw (no_entry_again prefixes numbers first.bytes kind h.1, h.0) refl
entries_fault_again prefixes numbers (suc n) (first ∷ lines) line kind (inr (entry, is, h)) = rw (entry_again prefixes numbers first.bytes entry is, entries_fault_again prefixes numbers n lines line kind h) refl

-- what a mapping keeps of them
many : (n : ℕ) (lines : List Numbered) (entries : List (Option ℕ)) → AreEntries n lines entries → length entries ≡ n
many zero lines entries a = ap length a
many (suc n) [] [] a = absurd a
many (suc n) (line ∷ lines) [] a = absurd a
many (suc n) [] (entry ∷ entries) a = let h = many n [] entries a.1 in omega (arith, h)
many (suc n) (line ∷ lines) (entry ∷ entries) a = let h = many n lines entries a.1 in omega (arith, h)

pub as_many : ArePrefixes → AreNumbers → (n : ℕ) (lines : List Numbered) (entries : List (Option ℕ)) → entries_at n lines ≡ Ok entries → length entries ≡ n
as_many prefixes numbers n lines entries e = many n lines entries (entries_take prefixes numbers n lines entries e)

degree_low : (line : List ℕ) (entry : Option ℕ) (degree : ℕ) → IsEntry line entry → entry ≡ Some degree → degree ≤ 16383
degree_low line None degree i e = absurd cc
degree_low line (Some n) degree (digits, has, is, low, high) e = let h : n ≡ degree = cc in omega (arith, high, h)

each_low : (n : ℕ) (lines : List Numbered) (entries : List (Option ℕ)) → AreEntries n lines entries → (k degree : ℕ) → slice_get entries k ≡ Some (Some degree) → degree ≤ 16383
each_low zero lines [] a k degree e = absurd (let h : (let o : Option (Option ℕ) = None in o) ≡ Some (Some degree) = e in cc)
each_low zero lines (x ∷ xs) a k degree e = absurd (let h = a in cc)
each_low (suc n) [] [] a k degree e = absurd a
each_low (suc n) (line ∷ lines) [] a k degree e = absurd a
each_low (suc n) [] (entry ∷ entries) a zero degree e = absurd (let h : entry ≡ Some degree = cc in let g = a.0 in cc)
each_low (suc n) [] (entry ∷ entries) a (suc k) degree e = each_low n [] entries a.1 k degree e
each_low (suc n) (line ∷ lines) (entry ∷ entries) a zero degree e = degree_low line.bytes entry degree a.0 (let h : entry ≡ Some degree = cc in h)
each_low (suc n) (line ∷ lines) (entry ∷ entries) a (suc k) degree e = each_low n lines entries a.1 k degree e

pub degrees : ArePrefixes → AreNumbers → (n : ℕ) (lines : List Numbered) (entries : List (Option ℕ)) → entries_at n lines ≡ Ok entries → (k degree : ℕ) → slice_get entries k ≡ Some (Some degree) → degree ≤ 16383
degrees prefixes numbers n lines entries e = each_low n lines entries (entries_take prefixes numbers n lines entries e)

-- ---- one field

-- a field that was read
field_takes : (missing : ℕ) (read : List ℕ → Result ℕ KbmKind) (lines : List Numbered) (x : ℕ × List Numbered) → field_at missing read lines ≡ Ok x
    → (line : Numbered) × (lines ≡ line ∷ x.1) × (read line.bytes ≡ Ok x.0)
unfolding field_at
field_takes missing read [] x e = absurd (ok_not_err x (record { line = missing; kind = MissingField }) (sym e))
field_takes missing read (line ∷ lines) x e =
    let b = bind_ok (on_line line.number (read line.bytes)) (λ n. Ok (n, lines)) x e in
    let h : (b.0, lines) ≡ x = ok_is (b.0, lines) x b.2 in
    (line, ap (λ (y : ℕ × List Numbered). line ∷ y.1) h, on_line_ok line.number (read line.bytes) b.0 b.1 ∙ ap (λ (y : ℕ × List Numbered). let r : Result ℕ KbmKind = Ok y.0 in r) h)

field_again : (missing : ℕ) (read : List ℕ → Result ℕ KbmKind) (line : Numbered) (lines : List Numbered) (n : ℕ) → read line.bytes ≡ Ok n → field_at missing read (line ∷ lines) ≡ Ok (n, lines)
unfolding field_at
field_again missing read line lines n e = rw e refl

-- the fault of a field and what comes behind it
stopped : {A : Type 0} (missing : ℕ) (read : List ℕ → Result ℕ KbmKind) (next : ℕ × List Numbered → Result A (Fault KbmKind)) (lines : List Numbered) (f : Fault KbmKind)
    (good : List ℕ → ℕ → Type 0) (bad : List ℕ → KbmKind → Type 0) (behind : ℕ → List Numbered → ℕ → KbmKind → Type 0)
    → ((line : List ℕ) (n : ℕ) → read line ≡ Ok n → good line n) → ((line : List ℕ) (kind : KbmKind) → read line ≡ Err kind → bad line kind)
    → ((n : ℕ) (rest : List Numbered) → next (n, rest) ≡ Err f → On (behind n rest) f)
    → (field_at missing read lines >>= next) ≡ Err f → On (FieldFault missing good bad behind lines) f
unfolding field_at
stopped {A} missing read next [] f good bad behind g b h e =
    subst (On (FieldFault missing good bad behind [])) (err_is {A = A} (record { line = missing; kind = MissingField }) f e) (refl, refl)
stopped {A} missing read next (line ∷ lines) f good bad behind g b h e =
    elim (bind_err (on_line line.number (read line.bytes) >>= λ n. Ok (n, lines)) next f e) [
      | inl x ↦ elim (bind_err (on_line line.number (read line.bytes)) (λ n. Ok (n, lines)) f x) [
        | inl y ↦ let p = on_line_err line.number (read line.bytes) f y in
            subst (On (FieldFault missing good bad behind (line ∷ lines))) (sym p.2) (inl (refl, b line.bytes p.0 p.1))
        | inr y ↦ absurd (ok_not_err (y.0, lines) f y.2)
      ]
      | inr x ↦
          let y = bind_ok (on_line line.number (read line.bytes)) (λ n. Ok (n, lines)) x.0 x.1 in
          let same : (y.0, lines) ≡ x.0 = ok_is (y.0, lines) x.0 y.2 in
          inr (y.0, g line.bytes y.0 (on_line_ok line.number (read line.bytes) y.0 y.1), h y.0 lines (ap next same ∙ x.2))
    ]

stopped_again : {A : Type 0} (missing : ℕ) (read : List ℕ → Result ℕ KbmKind) (next : ℕ × List Numbered → Result A (Fault KbmKind)) (lines : List Numbered) (line : ℕ) (kind : KbmKind)
    (good : List ℕ → ℕ → Type 0) (bad : List ℕ → KbmKind → Type 0) (behind : ℕ → List Numbered → ℕ → KbmKind → Type 0)
    → ((l : List ℕ) (n : ℕ) → good l n → read l ≡ Ok n) → ((l : List ℕ) (k : KbmKind) → bad l k → read l ≡ Err k)
    → ((n : ℕ) (rest : List Numbered) → behind n rest line kind → next (n, rest) ≡ fault line kind)
    → FieldFault missing good bad behind lines line kind → (field_at missing read lines >>= next) ≡ fault line kind
unfolding field_at
stopped_again missing read next [] line kind good bad behind g b h s = rw (s.0, s.1) refl
stopped_again missing read next (first ∷ lines) line kind good bad behind g b h (inl s) = rw (b first.bytes kind s.1, s.0) refl
stopped_again missing read next (first ∷ lines) line kind good bad behind g b h (inr (n, is, s)) = rw (g first.bytes n is) (h n lines s)

-- ---- the text

-- where one field comes after another
binds : {A B C : Type 0} (r : Result A (Fault KbmKind)) (f : A → Result B (Fault KbmKind)) (g : B → Result C (Fault KbmKind)) → ((r >>= f) >>= g) ≡ (r >>= λ x. f x >>= g)
binds (Ok x) f g = refl
binds (Err e) f g = refl

-- the mapping that is made of what was read
made : Keys → ℕ → ℕ → List (Option ℕ) → KeyMap
made keys frequency octave entries = record {
  first = keys.first;
  last = keys.last;
  middle = keys.middle;
  reference = keys.reference;
  nanohertz = frequency;
  octave = octave;
  entries = entries;
}

map_takes : ArePrefixes → AreNumbers → (missing : ℕ) (lines : List Numbered) (m : KeyMap) → map_at missing lines ≡ Ok m → IsMap lines m
unfolding map_at keys_at made
map_takes prefixes numbers missing lines m e =
    let a = bind_ok (field_at missing (number_in SizeRange 0 4096) lines) _ m e in
    let k = bind_ok (keys_at missing a.0.1) _ m a.2 in
    let f = bind_ok (field_at missing frequency_of k.0.1) _ m k.2 in
    let o = bind_ok (field_at missing (number_in DegreeRange 0 16383) f.0.1) _ m f.2 in
    let s = bind_ok (entries_at a.0.0 (entry_lines o.0.1)) _ m o.2 in
    let k1 = bind_ok (field_at missing (number_in KeyRange 0 127) a.0.1) _ k.0 k.1 in
    let k2 = bind_ok (field_at missing (number_in KeyRange k1.0.0 127) k1.0.1) _ k.0 k1.2 in
    let k3 = bind_ok (field_at missing (number_in KeyRange 0 127) k2.0.1) _ k.0 k2.2 in
    let k4 = bind_ok (field_at missing (number_in KeyRange 0 127) k3.0.1) _ k.0 k3.2 in
    let keys : (record { first = k1.0.0; last = k2.0.0; middle = k3.0.0; reference = k4.0.0 }, k4.0.1) ≡ k.0 = ok_is _ k.0 k4.2 in
    let l1 = field_takes missing (number_in SizeRange 0 4096) lines a.0 a.1 in
    let l2 = field_takes missing (number_in KeyRange 0 127) a.0.1 k1.0 k1.1 in
    let l3 = field_takes missing (number_in KeyRange k1.0.0 127) k1.0.1 k2.0 k2.1 in
    let l4 = field_takes missing (number_in KeyRange 0 127) k2.0.1 k3.0 k3.1 in
    let l5 = field_takes missing (number_in KeyRange 0 127) k3.0.1 k4.0 k4.1 in
    let l6 = field_takes missing frequency_of k.0.1 f.0 f.1 in
    let l7 = field_takes missing (number_in DegreeRange 0 16383) f.0.1 o.0 o.1 in
    let rest : k4.0.1 ≡ l6.0 ∷ l7.0 ∷ o.0.1 = ap (λ (y : Keys × List Numbered). y.1) keys ∙ l6.1 ∙ ap (λ r. l6.0 ∷ r) l7.1 in
    let all : lines ≡ l1.0 ∷ l2.0 ∷ l3.0 ∷ l4.0 ∷ l5.0 ∷ l6.0 ∷ l7.0 ∷ o.0.1 =
    l1.1 ∙ ap (λ r. l1.0 ∷ r) (l2.1 ∙ ap (λ r. l2.0 ∷ r) (l3.1 ∙ ap (λ r. l3.0 ∷ r) (l4.1 ∙ ap (λ r. l4.0 ∷ r) (l5.1 ∙ ap (λ r. l5.0 ∷ r) rest)))) in
    let P : List Numbered → Type 0 = λ ls. IsMap ls m in
    let same : made (record { first = k1.0.0; last = k2.0.0; middle = k3.0.0; reference = k4.0.0 }) f.0.0 o.0.0 s.0 ≡ m =
    ap (λ (y : Keys × List Numbered). made y.0 f.0.0 o.0.0 s.0) keys ∙ ok_is _ m s.2 in
    let Q : KeyMap → Type 0 = λ x. IsMap (l1.0 ∷ l2.0 ∷ l3.0 ∷ l4.0 ∷ l5.0 ∷ l6.0 ∷ l7.0 ∷ o.0.1) x in
    subst P (sym all) (subst Q same (
      a.0.0,
      in_takes numbers SizeRange 0 4096 l1.0.bytes a.0.0 l1.2,
      in_takes numbers KeyRange 0 127 l2.0.bytes k1.0.0 l2.2,
      in_takes numbers KeyRange k1.0.0 127 l3.0.bytes k2.0.0 l3.2,
      in_takes numbers KeyRange 0 127 l4.0.bytes k3.0.0 l4.2,
      in_takes numbers KeyRange 0 127 l5.0.bytes k4.0.0 l5.2,
      frequency_takes prefixes l6.0.bytes f.0.0 l6.2,
      in_takes numbers DegreeRange 0 16383 l7.0.bytes o.0.0 l7.2,
      entries_take prefixes numbers a.0.0 (entry_lines o.0.1) s.0 s.1,
    ))

map_again : ArePrefixes → AreNumbers → (missing : ℕ) (lines : List Numbered) (m : KeyMap) → IsMap lines m → map_at missing lines ≡ Ok m
unfolding map_at keys_at
map_again prefixes numbers missing (a ∷ b ∷ c ∷ d ∷ e ∷ f ∷ o ∷ lines) m (n, size, first, last, middle, reference, frequency, octave, entries) =
    rw (
      field_again missing (number_in SizeRange 0 4096) a (b ∷ c ∷ d ∷ e ∷ f ∷ o ∷ lines) n (in_again numbers SizeRange 0 4096 a.bytes n size),
      field_again missing (number_in KeyRange 0 127) b (c ∷ d ∷ e ∷ f ∷ o ∷ lines) m.first (in_again numbers KeyRange 0 127 b.bytes m.first first),
      field_again missing (number_in KeyRange m.first 127) c (d ∷ e ∷ f ∷ o ∷ lines) m.last (in_again numbers KeyRange m.first 127 c.bytes m.last last),
      field_again missing (number_in KeyRange 0 127) d (e ∷ f ∷ o ∷ lines) m.middle (in_again numbers KeyRange 0 127 d.bytes m.middle middle),
      field_again missing (number_in KeyRange 0 127) e (f ∷ o ∷ lines) m.reference (in_again numbers KeyRange 0 127 e.bytes m.reference reference),
      field_again missing frequency_of f (o ∷ lines) m.nanohertz (frequency_again prefixes f.bytes m.nanohertz frequency),
      field_again missing (number_in DegreeRange 0 16383) o lines m.octave (in_again numbers DegreeRange 0 16383 o.bytes m.octave octave),
      entries_again prefixes numbers n (entry_lines lines) m.entries entries,
    ) refl
map_again prefixes numbers missing [] m h = absurd h
map_again prefixes numbers missing (a ∷ []) m h = absurd h
map_again prefixes numbers missing (a ∷ b ∷ []) m h = absurd h
map_again prefixes numbers missing (a ∷ b ∷ c ∷ []) m h = absurd h
map_again prefixes numbers missing (a ∷ b ∷ c ∷ d ∷ []) m h = absurd h
map_again prefixes numbers missing (a ∷ b ∷ c ∷ d ∷ e ∷ []) m h = absurd h
map_again prefixes numbers missing (a ∷ b ∷ c ∷ d ∷ e ∷ f ∷ []) m h = absurd h

fault_takes : ArePrefixes → AreNumbers → (missing : ℕ) (lines : List Numbered) (f : Fault KbmKind) → map_at missing lines ≡ Err f → On (IsFault missing lines) f
unfolding map_at keys_at
fault_takes prefixes numbers missing lines f e =
    stopped missing (number_in SizeRange 0 4096) _ lines f (IsIn 0 4096) (NotIn SizeRange 0 4096) _ (in_takes numbers SizeRange 0 4096) (out_takes numbers SizeRange 0 4096) (λ size r1 e1.
    stopped missing (number_in KeyRange 0 127) _ r1 f (IsIn 0 127) (NotIn KeyRange 0 127) _ (in_takes numbers KeyRange 0 127) (out_takes numbers KeyRange 0 127) (λ first r2 e2.
    stopped missing (number_in KeyRange first 127) _ r2 f (IsIn first 127) (NotIn KeyRange first 127) _ (in_takes numbers KeyRange first 127) (out_takes numbers KeyRange first 127) (λ last r3 e3.
    stopped missing (number_in KeyRange 0 127) _ r3 f (IsIn 0 127) (NotIn KeyRange 0 127) _ (in_takes numbers KeyRange 0 127) (out_takes numbers KeyRange 0 127) (λ middle r4 e4.
    stopped missing (number_in KeyRange 0 127) _ r4 f (IsIn 0 127) (NotIn KeyRange 0 127) _ (in_takes numbers KeyRange 0 127) (out_takes numbers KeyRange 0 127) (λ reference r5 e5.
    stopped missing frequency_of _ r5 f IsFrequency NoFrequency _ (frequency_takes prefixes) (no_frequency_takes prefixes) (λ frequency r6 e6.
    stopped missing (number_in DegreeRange 0 16383) _ r6 f (IsIn 0 16383) (NotIn DegreeRange 0 16383) _ (in_takes numbers DegreeRange 0 16383) (out_takes numbers DegreeRange 0 16383) (λ octave r7 e7.
    at_entries size (entry_lines r7) f _ e7) e6) e5)
    (sym (binds (field_at missing (number_in KeyRange 0 127) r4) _ _) ∙ e4))
    (sym (binds (field_at missing (number_in KeyRange 0 127) r3) _ _) ∙ e3))
    (sym (binds (field_at missing (number_in KeyRange first 127) r2) _ _) ∙ e2))
    (sym (binds (field_at missing (number_in KeyRange 0 127) r1) _ _) ∙ e1)) e
  where
    at_entries : (n : ℕ) (ls : List Numbered) (g : Fault KbmKind) (make : List (Option ℕ) → KeyMap) → (entries_at n ls >>= λ entries. Ok (make entries)) ≡ Err g → On (EntriesFault n ls) g
    at_entries n ls g make h = elim (bind_err (entries_at n ls) (λ entries. Ok (make entries)) g h) [
      | inl b ↦ entries_fault prefixes numbers n ls g b
      | inr b ↦ absurd (ok_not_err (make b.0) g b.2)
    ]

-- what comes behind each field
abbrev after_octave : ℕ → Keys → ℕ → ℕ × List Numbered → Result KeyMap (Fault KbmKind)
after_octave size keys frequency octave = entries_at size (entry_lines octave.1) >>= λ entries. Ok (record {
  first = keys.first;
  last = keys.last;
  middle = keys.middle;
  reference = keys.reference;
  nanohertz = frequency;
  octave = octave.0;
  entries = entries;
})

abbrev after_frequency : ℕ → ℕ → Keys → ℕ × List Numbered → Result KeyMap (Fault KbmKind)
after_frequency missing size keys frequency = field_at missing (number_in DegreeRange 0 16383) frequency.1 >>= after_octave size keys frequency.0

abbrev after_keys : ℕ → ℕ → Keys × List Numbered → Result KeyMap (Fault KbmKind)
after_keys missing size keys = field_at missing frequency_of keys.1 >>= after_frequency missing size keys.0

abbrev after_size : ℕ → ℕ × List Numbered → Result KeyMap (Fault KbmKind)
after_size missing size = keys_at missing size.1 >>= after_keys missing size.0

abbrev after_reference : ℕ → ℕ → ℕ → ℕ × List Numbered → Result (Keys × List Numbered) (Fault KbmKind)
after_reference first last middle reference = Ok (record { first = first; last = last; middle = middle; reference = reference.0 }, reference.1)

abbrev after_middle : ℕ → ℕ → ℕ → ℕ × List Numbered → Result (Keys × List Numbered) (Fault KbmKind)
after_middle missing first last middle = field_at missing (number_in KeyRange 0 127) middle.1 >>= after_reference first last middle.0

abbrev after_last : ℕ → ℕ → ℕ × List Numbered → Result (Keys × List Numbered) (Fault KbmKind)
after_last missing first last = field_at missing (number_in KeyRange 0 127) last.1 >>= after_middle missing first last.0

abbrev after_first : ℕ → ℕ × List Numbered → Result (Keys × List Numbered) (Fault KbmKind)
after_first missing first = field_at missing (number_in KeyRange first.0 127) first.1 >>= after_last missing first.0

octave_again : ArePrefixes → AreNumbers → (missing size : ℕ) (keys : Keys) (frequency : ℕ) (r : List Numbered) (line : ℕ) (kind : KbmKind) → OctaveFault missing size r line kind → after_frequency missing size keys (frequency, r) ≡ fault line kind
octave_again prefixes numbers missing size keys frequency r line kind s =
    stopped_again {A = KeyMap} missing (number_in DegreeRange 0 16383) (after_octave size keys frequency) r line kind (IsIn 0 16383) (NotIn DegreeRange 0 16383) (λ octave lines. EntriesFault size (entry_lines lines))
    (in_again numbers DegreeRange 0 16383) (out_again numbers DegreeRange 0 16383) (λ octave r1 s1. rw (entries_fault_again prefixes numbers size (entry_lines r1) line kind s1) refl) s

frequency_fault_again : ArePrefixes → AreNumbers → (missing size : ℕ) (keys : Keys) (r : List Numbered) (line : ℕ) (kind : KbmKind) → FrequencyFault missing size r line kind → after_keys missing size (keys, r) ≡ fault line kind
frequency_fault_again prefixes numbers missing size keys r line kind s =
    stopped_again {A = KeyMap} missing frequency_of (after_frequency missing size keys) r line kind IsFrequency NoFrequency (λ frequency. OctaveFault missing size)
    (frequency_again prefixes) (no_frequency_again prefixes) (λ frequency r1 s1. octave_again prefixes numbers missing size keys frequency r1 line kind s1) s

reference_again : ArePrefixes → AreNumbers → (missing size first last middle : ℕ) (r : List Numbered) (line : ℕ) (kind : KbmKind) → ReferenceFault missing size r line kind → (after_middle missing first last (middle, r) >>= after_keys missing size) ≡ fault line kind
reference_again prefixes numbers missing size first last middle r line kind s =
    binds (field_at missing (number_in KeyRange 0 127) r) (after_reference first last middle) (after_keys missing size)
    ∙ stopped_again {A = KeyMap} missing (number_in KeyRange 0 127) (λ x. after_reference first last middle x >>= after_keys missing size) r line kind (IsIn 0 127) (NotIn KeyRange 0 127) (λ reference. FrequencyFault missing size)
    (in_again numbers KeyRange 0 127) (out_again numbers KeyRange 0 127) (λ reference r1 s1. frequency_fault_again prefixes numbers missing size (record { first = first; last = last; middle = middle; reference = reference }) r1 line kind s1) s

middle_again : ArePrefixes → AreNumbers → (missing size first last : ℕ) (r : List Numbered) (line : ℕ) (kind : KbmKind) → MiddleFault missing size r line kind → (after_last missing first (last, r) >>= after_keys missing size) ≡ fault line kind
middle_again prefixes numbers missing size first last r line kind s =
    binds (field_at missing (number_in KeyRange 0 127) r) (after_middle missing first last) (after_keys missing size)
    ∙ stopped_again {A = KeyMap} missing (number_in KeyRange 0 127) (λ x. after_middle missing first last x >>= after_keys missing size) r line kind (IsIn 0 127) (NotIn KeyRange 0 127) (λ middle. ReferenceFault missing size)
    (in_again numbers KeyRange 0 127) (out_again numbers KeyRange 0 127) (λ middle r1 s1. reference_again prefixes numbers missing size first last middle r1 line kind s1) s

last_again : ArePrefixes → AreNumbers → (missing size first : ℕ) (r : List Numbered) (line : ℕ) (kind : KbmKind) → LastFault missing size first r line kind → (after_first missing (first, r) >>= after_keys missing size) ≡ fault line kind
last_again prefixes numbers missing size first r line kind s =
    binds (field_at missing (number_in KeyRange first 127) r) (after_last missing first) (after_keys missing size)
    ∙ stopped_again {A = KeyMap} missing (number_in KeyRange first 127) (λ x. after_last missing first x >>= after_keys missing size) r line kind (IsIn first 127) (NotIn KeyRange first 127) (λ last. MiddleFault missing size)
    (in_again numbers KeyRange first 127) (out_again numbers KeyRange first 127) (λ last r1 s1. middle_again prefixes numbers missing size first last r1 line kind s1) s

first_again : ArePrefixes → AreNumbers → (missing size : ℕ) (r : List Numbered) (line : ℕ) (kind : KbmKind) → FirstFault missing size r line kind → after_size missing (size, r) ≡ fault line kind
unfolding keys_at
first_again prefixes numbers missing size r line kind s =
    binds (field_at missing (number_in KeyRange 0 127) r) (after_first missing) (after_keys missing size)
    ∙ stopped_again {A = KeyMap} missing (number_in KeyRange 0 127) (λ x. after_first missing x >>= after_keys missing size) r line kind (IsIn 0 127) (NotIn KeyRange 0 127) (λ first. LastFault missing size first)
    (in_again numbers KeyRange 0 127) (out_again numbers KeyRange 0 127) (λ first r1 s1. last_again prefixes numbers missing size first r1 line kind s1) s

fault_again : ArePrefixes → AreNumbers → (missing : ℕ) (lines : List Numbered) (line : ℕ) (kind : KbmKind) → IsFault missing lines line kind → map_at missing lines ≡ fault line kind
unfolding map_at
fault_again prefixes numbers missing lines line kind s =
    stopped_again {A = KeyMap} missing (number_in SizeRange 0 4096) (after_size missing) lines line kind (IsIn 0 4096) (NotIn SizeRange 0 4096) (λ size. FirstFault missing size)
    (in_again numbers SizeRange 0 4096) (out_again numbers SizeRange 0 4096) (λ size r1 s1. first_again prefixes numbers missing size r1 line kind s1) s

pub read_is_map : ArePrefixes → AreNumbers → (lines : List (List ℕ)) (m : KeyMap) → map_of lines ≡ Ok m → MapText lines m
read_is_map prefixes numbers lines m e = map_takes prefixes numbers (length lines + 1) (content lines) m e

pub map_is_read : ArePrefixes → AreNumbers → (lines : List (List ℕ)) (m : KeyMap) → MapText lines m → map_of lines ≡ Ok m
map_is_read prefixes numbers lines m s = map_again prefixes numbers (length lines + 1) (content lines) m s

pub read_is_fault : ArePrefixes → AreNumbers → (lines : List (List ℕ)) (line : ℕ) (kind : KbmKind) → map_of lines ≡ fault line kind → MapFault lines line kind
read_is_fault prefixes numbers lines line kind e = fault_takes prefixes numbers (length lines + 1) (content lines) (record { line = line; kind = kind }) e

pub fault_is_read : ArePrefixes → AreNumbers → (lines : List (List ℕ)) (line : ℕ) (kind : KbmKind) → MapFault lines line kind → map_of lines ≡ fault line kind
fault_is_read prefixes numbers lines line kind s = fault_again prefixes numbers (length lines + 1) (content lines) line kind s
