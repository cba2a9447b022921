-- Where a scale that comes again has the table that it had, the same table is in force wherever the same scale is.
use Rattle.std.proofs.Common.{◌≡◌, ◌≢◌, ℕ, List, [], ◌∷◌, Option, Some, None, Bool, true, false, refl, ap, sym, ◌∙◌, inl, inr}
use Rattle.std.specs.Prelude.{◌⊎◌, nat_le, if◌then◌else◌, unwrap_or}
use Rattle.scl_text.specs.declared.entry.Entry.{Entry}
use Rattle.kbm_text.specs.Map.{KeyMap}
use Rattle.retune_model.specs.Table.{IsOnePerScale}
use Rattle.key_pitch.specs.declared.table.KeyTable.{KeyTable}
use Rattle.key_pitch.specs.InForce.{IsTimeline, ticks_of, later_or, in_force}
use Rattle.key_pitch.specs.ByTick.{table_if, by_entries, scales_in_force, AreTablesOf, HasTable, AreOnePerScale}
use Rattle.key_pitch.proofs.LastBegun.{always_begun}
use Rattle.key_pitch.proofs.Stretches.{Paired, paired}

-- a scale that is in force is the first of a list with its table, or it is in force among the later ones
Chosen : ℕ → ℕ × List Entry → ℕ × KeyTable → List (ℕ × List Entry) → List (ℕ × KeyTable) → List Entry → Option KeyTable → Type 0
Chosen tick s t scales tables scale is = ((s.1 ≡ scale) × (is ≡ Some t.1)) ⊎ ((in_force tick scales ≡ Some scale) × (is ≡ in_force tick tables))

chosen_both : (m : KeyMap) (tick : ℕ) (s : ℕ × List Entry) (t : ℕ × KeyTable) (scales : List (ℕ × List Entry)) (tables : List (ℕ × KeyTable)) (scale : List Entry)
    → (o : Option (List Entry)) (u : Option KeyTable) (b c : Bool) → in_force tick scales ≡ o → in_force tick tables ≡ u → Paired m o u → b ≡ c
    → later_or o (if b then Some s.1 else None) ≡ Some scale → Chosen tick s t scales tables scale (later_or u (if c then Some t.1 else None))
unfolding Chosen
chosen_both m tick s t scales tables scale (Some x) (Some y) b c o_is u_is pair same is = inr (o_is ∙ is, sym u_is)
chosen_both m tick s t scales tables scale None None true true o_is u_is pair same is = inl (cc, refl)
chosen_both m tick s t scales tables scale None None false false o_is u_is pair same is = absurd cc
chosen_both m tick s t scales tables scale None None true false o_is u_is pair same is = absurd cc
chosen_both m tick s t scales tables scale None None false true o_is u_is pair same is = absurd cc
chosen_both m tick s t scales tables scale None (Some y) b c o_is u_is pair same is = absurd pair
chosen_both m tick s t scales tables scale (Some x) None b c o_is u_is pair same is = absurd pair

chosen : (m : KeyMap) (tick : ℕ) (s : ℕ × List Entry) (t : ℕ × KeyTable) (scales : List (ℕ × List Entry)) (tables : List (ℕ × KeyTable)) (scale : List Entry)
    → AreTablesOf (s ∷ scales) m (t ∷ tables) → in_force tick (s ∷ scales) ≡ Some scale
    → Chosen tick s t scales tables scale (in_force tick (t ∷ tables))
chosen m tick s t scales tables scale are is =
    chosen_both m tick s t scales tables scale (in_force tick scales) (in_force tick tables) (nat_le s.0 tick) (nat_le t.0 tick) refl refl (paired m tick scales tables are.3)
    (ap (λ n. nat_le n tick) are.0) is

has_table : (m : KeyMap) (tick : ℕ) (scales : List (ℕ × List Entry)) (tables : List (ℕ × KeyTable)) (scale : List Entry) (table : KeyTable)
    → AreTablesOf scales m tables → HasTable scale table scales tables → in_force tick scales ≡ Some scale → in_force tick tables ≡ Some table
unfolding Chosen
has_table m tick [] [] scale table are has is = absurd cc
has_table m tick [] (t ∷ tables) scale table are has is = absurd are
has_table m tick (s ∷ scales) [] scale table are has is = absurd are
has_table m tick (s ∷ scales) (t ∷ tables) scale table are has is = elim (chosen m tick s t scales tables scale are is) [
  | inl here ↦ here.1 ∙ ap Some (sym (has.0 (sym here.0)))
  | inr later ↦ later.1 ∙ has_table m tick scales tables scale table are.3 has.1 later.0
]

same_tables : (m : KeyMap) (a b : ℕ) (scales : List (ℕ × List Entry)) (tables : List (ℕ × KeyTable)) (scale : List Entry)
    → AreTablesOf scales m tables → AreOnePerScale scales tables → in_force a scales ≡ Some scale → in_force b scales ≡ Some scale
    → in_force a tables ≡ in_force b tables
unfolding Chosen
same_tables m a b [] [] scale are one at_a at_b = refl
same_tables m a b [] (t ∷ tables) scale are one at_a at_b = absurd are
same_tables m a b (s ∷ scales) [] scale are one at_a at_b = absurd are
same_tables m a b (s ∷ scales) (t ∷ tables) scale are one at_a at_b = elim (chosen m a s t scales tables scale are at_a) [
  | inl x ↦ elim (chosen m b s t scales tables scale are at_b) [
    | inl y ↦ x.1 ∙ sym y.1
    | inr y ↦ x.1 ∙ sym (y.1 ∙ has_table m b scales tables s.1 t.1 are.3 one.0 (y.0 ∙ ap Some (sym x.0)))
  ]
  | inr x ↦ elim (chosen m b s t scales tables scale are at_b) [
    | inl y ↦ (x.1 ∙ has_table m a scales tables s.1 t.1 are.3 one.0 (x.0 ∙ ap Some (sym y.0))) ∙ sym y.1
    | inr y ↦ x.1 ∙ (same_tables m a b scales tables scale are.3 one.1 x.0 y.0 ∙ sym y.1)
  ]
]

-- a scale is in force wherever a table is
some_scale : (m : KeyMap) (o : Option (List Entry)) (u : Option KeyTable) → Paired m o u → u ≢ None → o ≡ Some (unwrap_or o [])
some_scale m (Some x) u pair some = refl
some_scale m None None pair some = absurd (some refl)
some_scale m None (Some y) pair some = absurd pair

pub one_per_scale : (m : KeyMap) (scales : List (ℕ × List Entry)) (tables : List (ℕ × KeyTable)) → AreTablesOf scales m tables
    → IsTimeline (ticks_of tables) → AreOnePerScale scales tables
    → IsOnePerScale (scales_in_force scales m) (by_entries tables)
one_per_scale m scales tables are timeline one key a b same =
    let some : (tick : ℕ) → in_force tick scales ≡ Some (unwrap_or (in_force tick scales) []) =
    λ tick. some_scale m (in_force tick scales) (in_force tick tables) (paired m tick scales tables are) (always_begun tick tables timeline) in
    ap (λ t. table_if t key) (same_tables m a b scales tables (unwrap_or (in_force a scales) []) are one (some a) (some b ∙ ap Some (sym same)))
