-- The messages that set parameters, one after another.
use Rattle.std.proofs.Common.{◌≡◌, ℕ, ◌+◌, ◌<◌, List, [], ◌∷◌, ◌++◌, refl, ap, sym, ◌∙◌, length, get_or, take, drop}
use Rattle.std.proofs.lemmas.List.{append-nil, append_assoc, map-append, take-append-drop, take_more}
use Rattle.mt_base.specs.declared.event.Msg.{Msg}
use Rattle.midi_model.specs.Params.{Entry, value_of}
use Rattle.midi_model.specs.Bring.{bring_parameter, bring_each}
use Rattle.receiver.specs.Params.{entry_of, entries_of}
use Rattle.receiver.specs.declared.param.Param.{Param}

each_append : (c : ℕ) (now xs ys : List Entry) → bring_each c now (xs ++ ys) ≡ bring_each c now xs ++ bring_each c now ys
each_append c now [] ys = refl
each_append c now (x ∷ xs) ys =
    ap (λ r. bring_parameter c (value_of now x.parameter) x ++ r) (each_append c now xs ys)
    ∙ sym (append_assoc (bring_parameter c (value_of now x.parameter) x) (bring_each c now xs) (bring_each c now ys))

-- the first ones, and those behind them
pub each_split : (c : ℕ) (now : List Entry) (i : ℕ) (ps : List Param)
    → bring_each c now (entries_of (take i ps)) ++ bring_each c now (entries_of (drop i ps)) ≡ bring_each c now (entries_of ps)
each_split c now i ps =
    sym (each_append c now (entries_of (take i ps)) (entries_of (drop i ps)))
    ∙ ap (bring_each c now) (sym (map-append entry_of (take i ps) (drop i ps)) ∙ ap entries_of (take-append-drop i ps))

-- one more
pub each_next : (c : ℕ) (now : List Entry) (i : ℕ) (ps : List Param) (d : Param) → i < length ps
    → bring_each c now (entries_of (take i ps)) ++ bring_parameter c (value_of now (entry_of (get_or ps i d)).parameter) (entry_of (get_or ps i d)) ≡ bring_each c now (entries_of (take (i + 1) ps))
each_next c now i ps d low =
    let p : Param = get_or ps i d in
    let first : List Entry = entries_of (take i ps) in
    let one : List Msg = bring_parameter c (value_of now (entry_of p).parameter) (entry_of p) in
    ap (λ l. bring_each c now first ++ l) (sym (append-nil one))
    ∙ sym (each_append c now first (entry_of p ∷ []))
    ∙ ap (bring_each c now) (sym (map-append entry_of (take i ps) (p ∷ [])) ∙ ap entries_of (sym (take_more ps i d low)))
