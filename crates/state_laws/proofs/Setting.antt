-- Which values the parameters have after some were set.
use Rattle.std.proofs.Common.{◌≡◌, ◌≢◌, inl, inr, ℕ, ◌≤◌, List, [], ◌∷◌, ◌++◌, nat_eq, refl, ap, sym, ◌∙◌, subst}
use Rattle.std.proofs.lemmas.Bool.{eqb-true, cases_eq, cond_both}
use Rattle.midi_model.specs.Params.{Parameter, Entry, rank, value_of, put}
use Rattle.midi_model.specs.Bring.{to_default, to_other}
use Rattle.midi_model.specs.WellFormed.{IsEntered, AreEntered}
use Rattle.state_laws.proofs.Laws.{Laws}
use Rattle.state_laws.proofs.Keeping.{Good, entered_put, value_bytes}
use Rattle.state_laws.proofs.Values.{value_by, value_or, skip_or, found_or, value_or-missed, Misses, Apart, changes_set, changes_apart, entered_append, entered_to_default, entered_to_other, small}
use Rattle.state_laws.proofs.Steps.{high_set, low_set, entered, entered_all}

-- the second list is the first with one parameter set
pub record Sets (before after : List Entry) (p : Parameter) (v : ℕ × ℕ) : Type 0 where
  pub good : Good after
  pub here : value_of after p ≡ v
  pub others : (q : Parameter) → rank q ≢ rank p → value_of after q ≡ value_of before q

pub sets_put : Laws → (ps : List Entry) (e : Entry) → Good ps → IsEntered e
    → Sets ps (put e.parameter e.value ps) e.parameter e.value
sets_put l ps e g h = record {
  good = (l.form e.parameter e.value ps g.0, entered_put e.parameter e.value ps h g.1);
  here = l.given e.parameter e.value ps g.0;
  others = λ q d. l.others e.parameter q e.value ps d;
}

pub sets_same : (ps : List Entry) (p : Parameter) (v : ℕ × ℕ) → Good ps → value_of ps p ≡ v → Sets ps ps p v
sets_same ps p v g h = record { good = g; here = h; others = λ q d. refl }

pub sets_then : (a b c : List Entry) (p : Parameter) (v w : ℕ × ℕ) → Sets a b p v → Sets b c p w → Sets a c p w
sets_then a b c p v w h k = record { good = k.good; here = k.here; others = λ q d. k.others q d ∙ h.others q d }

-- with the value that is known
abbrev pub made : Entry → ℕ × ℕ → Entry
made e v = record { parameter = e.parameter; value = v }

pub sets_high : Laws → (ps : List Entry) (e : Entry) (v : ℕ × ℕ) → Good ps → IsEntered e → v.1 ≤ 127
    → value_of ps e.parameter ≡ v → Sets ps (high_set v e ps) e.parameter (e.value.0, v.1)
sets_high l ps e v g h k x =
    cond_both (nat_eq v.0 e.value.0) ps (put e.parameter (e.value.0, (value_of ps e.parameter).1) ps) (λ (r : List Entry). Sets ps r e.parameter (e.value.0, v.1))
    (λ t. sets_same ps e.parameter (e.value.0, v.1) g (x ∙ ap (λ y. (y, v.1)) (eqb-true v.0 e.value.0 t)))
    (λ t. subst (λ (y : ℕ). Sets ps (put e.parameter (e.value.0, y) ps) e.parameter (e.value.0, v.1)) (ap (λ z. z.1) (sym x))
    (sets_put l ps (made e (e.value.0, v.1)) g (record { small = h.small; settable = h.settable; high = h.high; low = k })))

pub sets_low : Laws → (ps : List Entry) (e : Entry) (v : ℕ × ℕ) → Good ps → IsEntered e
    → value_of ps e.parameter ≡ (e.value.0, v.1) → Sets ps (low_set v e ps) e.parameter e.value
sets_low l ps e v g h x =
    cond_both (nat_eq v.1 e.value.1) ps (put e.parameter ((value_of ps e.parameter).0, e.value.1) ps) (λ (r : List Entry). Sets ps r e.parameter e.value)
    (λ t. sets_same ps e.parameter e.value g (x ∙ ap (λ y. (e.value.0, y)) (eqb-true v.1 e.value.1 t)))
    (λ t. subst (λ (y : ℕ). Sets ps (put e.parameter (y, e.value.1) ps) e.parameter e.value) (ap (λ z. z.0) (sym x)) (sets_put l ps e g h))

pub sets_entered : Laws → (ps : List Entry) (e : Entry) (v : ℕ × ℕ) → Good ps → IsEntered e → v.1 ≤ 127
    → value_of ps e.parameter ≡ v → Sets ps (entered v e ps) e.parameter e.value
sets_entered l ps e v g h k x =
    let one = sets_high l ps e v g h k x in
    sets_then ps (high_set v e ps) (entered v e ps) e.parameter (e.value.0, v.1) e.value one (sets_low l (high_set v e ps) e v one.good h one.here)

-- ---- several

-- the parameters to be set have the values from before
abbrev pub Fresh : List Entry → List Entry → List Entry → Type 0
Fresh now ps [] = Unit {0}
Fresh now ps (e ∷ es) = (value_of ps e.parameter ≡ value_of now e.parameter) × Fresh now ps es

pub fresh_same : (now es : List Entry) → Fresh now now es
fresh_same now [] = tt
fresh_same now (e ∷ es) = (refl, fresh_same now es)

pub fresh_after : (now ps qs es : List Entry) (p : Parameter) (v : ℕ × ℕ) → Sets ps qs p v → Misses (rank p) es
    → Fresh now ps es → Fresh now qs es
fresh_after now ps qs [] p v s m f = tt
fresh_after now ps qs (e ∷ es) p v s m f = (s.others e.parameter m.0 ∙ f.0, fresh_after now ps qs es p v s m.1 f.1)

pub record AllSet (before after es : List Entry) : Type 0 where
  pub good : Good after
  pub values : (q : Parameter) → value_of after q ≡ value_or es (value_of before q) q

pub all_set : Laws → (now es ps : List Entry) → ((q : Parameter) → (value_of now q).1 ≤ 127) → Good ps → AreEntered es
    → Apart es → Fresh now ps es → AllSet ps (entered_all now es ps) es
all_set l now [] ps b g h a f = record { good = g; values = λ q. refl }
all_set l now (e ∷ es) ps b g h a f =
    let v : ℕ × ℕ = value_of now e.parameter in
    let s = sets_entered l ps e v g h.0 (b e.parameter) f.0 in
    let rest = all_set l now es (entered v e ps) b s.good h.1 a.1 (fresh_after now ps (entered v e ps) es e.parameter e.value s a.0 f.1) in
    let here : (q : Parameter) → rank e.parameter ≡ rank q → value_of (entered_all now es (entered v e ps)) q ≡ value_or (e ∷ es) (value_of ps q) q =
    λ q x. rest.values q ∙ value_or-missed es (value_of (entered v e ps) q) q (subst (λ (n : ℕ). Misses n es) x a.0)
    ∙ value_by (entered v e ps) q e.parameter (sym x) ∙ s.here ∙ sym (found_or e es (value_of ps q) q x) in
    let other : (q : Parameter) → rank e.parameter ≢ rank q → value_of (entered_all now es (entered v e ps)) q ≡ value_or (e ∷ es) (value_of ps q) q =
    λ q x. rest.values q ∙ ap (λ d. value_or es d q) (s.others q (λ y. x (sym y))) ∙ sym (skip_or e es (value_of ps q) q x) in
    record {
      good = rest.good;
      values = λ q. elim (cases_eq (rank e.parameter) (rank q)) [
        | inl x ↦ here q x
        | inr x ↦ other q x
      ];
    }

-- the parameters that differ, set one after another, give the wanted list
abbrev pub changes : List Entry → List Entry → List Entry
changes now wanted = to_default now wanted ++ to_other now wanted

pub entered_changes : (now wanted : List Entry) → AreEntered now → AreEntered wanted → AreEntered (changes now wanted)
entered_changes now wanted hn hw =
    entered_append (to_default now wanted) (to_other now wanted) (entered_to_default now wanted hn) (entered_to_other now wanted hw)

pub changed_all : Laws → (now wanted : List Entry) → Good now → Good wanted → entered_all now (changes now wanted) now ≡ wanted
changed_all l now wanted gn gw =
    let s =
    all_set l now (changes now wanted) now (λ q. (value_bytes now q gn.1).1) gn (entered_changes now wanted gn.1 gw.1) (changes_apart now wanted gn.0 gw.0) (fresh_same now (changes now wanted)) in
    l.equal (entered_all now (changes now wanted) now) wanted s.good.0 gw.0 (small (entered_all now (changes now wanted) now) s.good.1) (small wanted gw.1) (λ q. s.values q ∙ changes_set now wanted q gn.0 gw.0)
