-- The lines of notes, one by one.
use Rattle.std.proofs.Common.{◌≡◌, ◌<◌, ℕ, suc, List, [], ◌∷◌, ◌++◌, Bool, Option, Some, None, length, drop, refl, ap, sym, ◌∙◌, append_assoc}
use Rattle.std.specs.Prelude.{filter_map, fold}
use Rattle.std.specs.List.{cons_option}
use Rattle.std.proofs.Math.Seq.{drop-cons}
use Rattle.retune_model.specs.Faults.{Targets}
use Rattle.key_report.specs.declared.keys.KeyError.{KeyError}
use Rattle.key_report.specs.declared.range.ErrorRange.{ErrorRange}
use Rattle.key_report.specs.Keys.{with_error}
use Rattle.channel_plan.specs.declared.plan.Plan.{Plan}
use Rattle.audit_report.specs.declared.played.Played.{Played}
use Rattle.audit_report.specs.Audit.{note_at, nothing_played}
use Rattle.audit_report.specs.Texts.{channel_told, line_if, lines_from, note_error}

-- the notes from the i-th on, counted from 0
first_of : (ps : List Played) (i : ℕ) → i < length ps → drop i ps ≡ note_at ps i ∷ drop (suc i) ps
first_of ps i l = drop-cons ps i nothing_played l

pub lines_more : (range : Option ℕ) (table : Targets) (plan : Option Plan) (ports : Bool) (ps : List Played) (i j : ℕ) (out new all : List ℕ)
    → i < length ps → j ≡ suc i
    → out ++ lines_from range table plan ports (suc i) (drop i ps) ≡ all
    → new ≡ out ++ line_if ports (suc i) (channel_told plan (suc i) (note_at ps i)) (note_at ps i) (note_error range table (note_at ps i))
    → new ++ lines_from range table plan ports (suc j) (drop j ps) ≡ all
lines_more range table plan ports ps i j out new all l e was put =
    let line : List ℕ = line_if ports (suc i) (channel_told plan (suc i) (note_at ps i)) (note_at ps i) (note_error range table (note_at ps i)) in
    ap (λ k. new ++ lines_from range table plan ports (suc k) (drop k ps)) e
    ∙ (ap (λ x. x ++ lines_from range table plan ports (suc (suc i)) (drop (suc i) ps)) put
    ∙ (append_assoc out line (lines_from range table plan ports (suc (suc i)) (drop (suc i) ps))
    ∙ (ap (λ xs. out ++ lines_from range table plan ports (suc i) xs) (sym (first_of ps i l)) ∙ was)))

joined_more : (e : Option KeyError) (es : List KeyError) (whole : Option ErrorRange)
    → fold with_error whole (cons_option e es) ≡ fold with_error (fold with_error whole (cons_option e [])) es
joined_more None es whole = refl
joined_more (Some e) es whole = refl

pub whole_more : (range : Option ℕ) (table : Targets) (ps : List Played) (i j : ℕ) (whole new all : Option ErrorRange) → i < length ps → j ≡ suc i
    → fold with_error whole (filter_map (note_error range table) (drop i ps)) ≡ all
    → new ≡ fold with_error whole (cons_option (note_error range table (note_at ps i)) [])
    → fold with_error new (filter_map (note_error range table) (drop j ps)) ≡ all
whole_more range table ps i j whole new all l e was joined =
    ap (λ k. fold with_error new (filter_map (note_error range table) (drop k ps))) e
    ∙ (ap (λ w. fold with_error w (filter_map (note_error range table) (drop (suc i) ps))) joined
    ∙ (sym (joined_more (note_error range table (note_at ps i)) (filter_map (note_error range table) (drop (suc i) ps)) whole)
    ∙ (ap (λ xs. fold with_error whole (filter_map (note_error range table) xs)) (sym (first_of ps i l)) ∙ was)))

-- what is put for a note, by its number, its channel and its error
pub put_is : (range : Option ℕ) (table : Targets) (plan : Option Plan) (ports : Bool) (p q : Played) (i n channel : ℕ) (e : Option KeyError)
    (out new : List ℕ) → n ≡ suc i → channel ≡ channel_told plan n p → e ≡ note_error range table p → p ≡ q
    → new ≡ out ++ line_if ports n channel p e
    → new ≡ out ++ line_if ports (suc i) (channel_told plan (suc i) q) q (note_error range table q)
put_is range table plan ports p q i n channel e out new number on error same put =
    put ∙ (ap (λ x. out ++ line_if ports n x p e) on
    ∙ (ap (λ x. out ++ line_if ports n (channel_told plan n p) p x) error
    ∙ (ap (λ m. out ++ line_if ports m (channel_told plan m p) p (note_error range table p)) number
    ∙ ap (λ (x : Played). out ++ line_if ports (suc i) (channel_told plan (suc i) x) x (note_error range table x)) same)))

pub joined_is : (range : Option ℕ) (table : Targets) (p q : Played) (e : Option KeyError) (whole new : Option ErrorRange) → e ≡ note_error range table p
    → p ≡ q → new ≡ fold with_error whole (cons_option e []) → new ≡ fold with_error whole (cons_option (note_error range table q) [])
joined_is range table p q e whole new error same joined =
    joined ∙ ap (λ x. fold with_error whole (cons_option x [])) (error ∙ ap (note_error range table) same)
