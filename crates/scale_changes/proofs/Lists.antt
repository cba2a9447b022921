-- A list that is read is a list of changes, and a list of changes is read; each text has one or a first fault.
use Rattle.std.proofs.Common.{◌≡◌, ℕ, zero, suc, ◌≤◌, List, [], ◌∷◌, ◌++◌, length, Ok, Err, refl, sym, ap, subst, inl, inr, arith}
use Rattle.scala_lines.specs.Laws.{ArePrefixes, AreNumbers}
use Rattle.scala_lines.specs.Lines.{Numbered, content, entry_lines}
use Rattle.scala_lines.specs.Reading.{Fault, ◌>>=◌, fault, on_line}
use Rattle.scala_lines.specs.Steps.{ok_is, err_is, ok_not_err, bind_ok, bind_err, on_line_ok, on_line_err, IsExact}
use Rattle.scale_changes.specs.declared.fault.ListKind.{ListKind}
use Rattle.scale_changes.specs.declared.fault.ListKind.TheVariants.{TooMany}
use Rattle.scale_changes.specs.Names.{Change}
use Rattle.scale_changes.specs.Reading.{change_of, list_at, list_of}
use Rattle.scale_changes.specs.Spelling.{IsChange, AreChanges, ListText, CantBeTaken, StopsAtLine, ListTextFault}
use Rattle.scale_changes.proofs.Ticks.{change_takes, change_again, no_change_takes, no_change_again}

abbrev Taken : ℕ → ℕ → List Numbered → List Change → Type 0
Taken most last lines changes = AreChanges last lines changes × (length changes ≤ most)

list_takes : ArePrefixes → AreNumbers → (most last : ℕ) (lines : List Numbered) (changes : List Change) → list_at most last lines ≡ Ok changes → Taken most last lines changes
unfolding list_at
list_takes laws numbers most last [] changes e = subst (Taken most last []) (ok_is {E = Fault ListKind} [] changes e) (tt, omega arith)
list_takes laws numbers zero last (line ∷ lines) changes e = absurd (ok_not_err changes (record { line = line.number; kind = TooMany }) (sym e))
list_takes laws numbers (suc most) last (line ∷ lines) changes e =
    let a = bind_ok (on_line line.number (change_of last line.bytes)) _ changes e in
    let b = bind_ok (list_at most a.0.0 lines) _ changes a.2 in
    let h = list_takes laws numbers most a.0.0 lines b.0 b.1 in
    let few = h.1 in
    subst (Taken (suc most) last (line ∷ lines)) (ok_is {E = Fault ListKind} (a.0 ∷ b.0) changes b.2)
    ((change_takes laws numbers last line.bytes a.0 (on_line_ok line.number (change_of last line.bytes) a.0 a.1), h.0), omega (arith, few))

list_again : ArePrefixes → AreNumbers → (most last : ℕ) (lines : List Numbered) (changes : List Change) → AreChanges last lines changes → length changes ≤ most → list_at most last lines ≡ Ok changes
unfolding list_at
list_again laws numbers most last [] [] a few = refl
list_again laws numbers most last [] (c ∷ cs) a few = absurd a
list_again laws numbers most last (line ∷ lines) [] a few = absurd a
list_again laws numbers zero last (line ∷ lines) (c ∷ cs) a few = absurd (omega (arith, few))
list_again laws numbers (suc most) last (line ∷ lines) (c ∷ cs) a few =
    rw (change_again laws numbers last line.bytes c a.0, list_again laws numbers most c.0 lines cs a.1 (omega (arith, few))) refl

-- a fault, seen by its line and its kind
abbrev Stops : ℕ → ℕ → List Numbered → Fault ListKind → Type 0
Stops most last lines f = StopsAtLine most last lines f.line f.kind

-- one more change in front
one_more : (most last : ℕ) (line : Numbered) (lines : List Numbered) (change : Change) (f : Fault ListKind) → IsChange last line.bytes change → Stops most change.0 lines f → Stops (suc most) last (line ∷ lines) f
one_more most last line lines change f is s = record {
  taken = line ∷ s.taken;
  changes = change ∷ s.changes;
  first = s.first;
  rest = s.rest;
  placed = ap (λ ls. line ∷ ls) s.placed;
  are_changes = (is, s.are_changes);
  number = s.number;
  cause = elim s.cause [
    | inl h ↦ (let many = h.0 in inl (omega (arith, many), h.1))
    | inr h ↦ (let room = h.0 in inr (omega (arith, room), h.1))
  ];
}

fault_takes : ArePrefixes → AreNumbers → (most last : ℕ) (lines : List Numbered) (f : Fault ListKind) → list_at most last lines ≡ Err f → Stops most last lines f
unfolding list_at
fault_takes laws numbers most last [] f e = absurd (ok_not_err {A = List Change} [] f e)
fault_takes laws numbers zero last (line ∷ lines) f e =
    subst (Stops zero last (line ∷ lines)) (err_is {A = List Change} (record { line = line.number; kind = TooMany }) f e) (record {
      taken = [];
      changes = [];
      first = line;
      rest = lines;
      placed = refl;
      are_changes = tt;
      number = refl;
      cause = inl (refl, refl);
    })
fault_takes laws numbers (suc most) last (line ∷ lines) f e =
    elim (bind_err (on_line line.number (change_of last line.bytes)) (λ change. list_at most change.0 lines >>= λ changes. Ok (change ∷ changes)) f e) [
      | inl b ↦ let p = on_line_err line.number (change_of last line.bytes) f b in
          subst (Stops (suc most) last (line ∷ lines)) (sym p.2) (record {
            taken = [];
            changes = [];
            first = line;
            rest = lines;
            placed = refl;
            are_changes = tt;
            number = refl;
            cause = inr (omega arith, no_change_takes laws numbers last line.bytes p.0 p.1);
          })
      | inr b ↦ elim (bind_err (list_at most b.0.0 lines) (λ changes. Ok (b.0 ∷ changes)) f b.2) [
        | inl d ↦ one_more most last line lines b.0 f (change_takes laws numbers last line.bytes b.0 (on_line_ok line.number (change_of last line.bytes) b.0 b.1)) (fault_takes laws numbers most b.0.0 lines f d)
        | inr d ↦ absurd (ok_not_err {A = List Change} (b.0 ∷ d.0) f d.2)
      ]
    ]

stop_again : ArePrefixes → AreNumbers → (most last : ℕ) (taken : List Numbered) (changes : List Change) (first : Numbered) (rest : List Numbered) (kind : ListKind)
    → AreChanges last taken changes → CantBeTaken most last changes first.bytes kind → list_at most last (taken ++ first ∷ rest) ≡ fault first.number kind
unfolding list_at
stop_again laws numbers zero last [] [] first rest kind a (inl h) = rw h.1 refl
stop_again laws numbers (suc most) last [] [] first rest kind a (inl h) = absurd (let many = h.0 in omega (arith, many))
stop_again laws numbers zero last [] [] first rest kind a (inr h) = absurd (let room = h.0 in omega (arith, room))
stop_again laws numbers (suc most) last [] [] first rest kind a (inr h) = rw (no_change_again laws numbers last first.bytes kind h.1) refl
stop_again laws numbers most last [] (c ∷ cs) first rest kind a h = absurd a
stop_again laws numbers most last (line ∷ lines) [] first rest kind a h = absurd a
stop_again laws numbers zero last (line ∷ lines) (c ∷ cs) first rest kind a (inl h) = absurd (let many = h.0 in omega (arith, many))
stop_again laws numbers zero last (line ∷ lines) (c ∷ cs) first rest kind a (inr h) = absurd (let room = h.0 in omega (arith, room))
stop_again laws numbers (suc most) last (line ∷ lines) (c ∷ cs) first rest kind a (inl h) =
    let many = h.0 in
    rw (change_again laws numbers last line.bytes c a.0, stop_again laws numbers most c.0 lines cs first rest kind a.1 (inl (omega (arith, many), h.1))) refl
stop_again laws numbers (suc most) last (line ∷ lines) (c ∷ cs) first rest kind a (inr h) =
    let room = h.0 in
    rw (change_again laws numbers last line.bytes c a.0, stop_again laws numbers most c.0 lines cs first rest kind a.1 (inr (omega (arith, room), h.1))) refl

fault_again : ArePrefixes → AreNumbers → (most last : ℕ) (lines : List Numbered) (line : ℕ) (kind : ListKind) → StopsAtLine most last lines line kind → list_at most last lines ≡ fault line kind
fault_again laws numbers most last lines line kind s =
    rw (s.placed, s.number) (stop_again laws numbers most last s.taken s.changes s.first s.rest kind s.are_changes s.cause)

pub exact : ArePrefixes → AreNumbers → (lines : List (List ℕ)) → IsExact (ListText lines) (ListTextFault lines) (list_of lines)
exact laws numbers lines = record {
  value = λ changes e. list_takes laws numbers 16 0 (entry_lines (content lines)) changes e;
  again = λ changes s. list_again laws numbers 16 0 (entry_lines (content lines)) changes s.0 s.1;
  fault = λ line kind e. fault_takes laws numbers 16 0 (entry_lines (content lines)) (record { line = line; kind = kind }) e;
  fault_again = λ line kind s. fault_again laws numbers 16 0 (entry_lines (content lines)) line kind s;
}
