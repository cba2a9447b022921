-- Tables of scales, each from its scale's tick on, give the pitches of the scale in force.
use Rattle.std.proofs.Common.{◌≡◌, ◌≢◌, ℕ, ◌≤◌, List, [], ◌∷◌, Option, Some, None, Bool, true, false, refl, ap}
use Rattle.std.specs.Prelude.{nat_le, if◌then◌else◌, unwrap_or}
use Rattle.scl_text.specs.declared.entry.Entry.{Entry}
use Rattle.kbm_text.specs.Map.{KeyMap}
use Rattle.retune_model.specs.Scale.{scale_pitch, term_count, ratios_of_key}
use Rattle.retune_model.specs.Table.{Bound, IsTable, AreFewTerms, one_scale}
use Rattle.key_pitch.specs.declared.table.KeyTable.{KeyTable}
use Rattle.key_pitch.specs.InForce.{IsTimeline, ticks_of, later_or, in_force}
use Rattle.key_pitch.specs.Aims.{table_of}
use Rattle.key_pitch.specs.ByTick.{table_if, by_entries, scales_in_force, AreTablesOf}
use Rattle.key_pitch.proofs.LastBegun.{always_begun}

-- a scale and its table, or neither
abbrev pub Paired : KeyMap → Option (List Entry) → Option KeyTable → Type 0
Paired m None None = Unit {0}
Paired m (Some s) (Some t) = IsTable (one_scale s m) (λ key onset. table_of t key) × AreFewTerms (one_scale s m)
Paired m _ _ = ⊥

paired_later : (m : KeyMap) (s u : Option (List Entry)) (t v : Option KeyTable) → Paired m s t → Paired m u v → Paired m (later_or s u) (later_or t v)
paired_later m None u None v p q = q
paired_later m (Some s) u (Some t) v p q = p
paired_later m None u (Some t) v p q = absurd p
paired_later m (Some s) u None v p q = absurd p

paired_if : (m : KeyMap) (b c : Bool) (s : List Entry) (t : KeyTable) → b ≡ c → IsTable (one_scale s m) (λ key onset. table_of t key) → AreFewTerms (one_scale s m)
    → Paired m (if b then Some s else None) (if c then Some t else None)
paired_if m true true s t same table few = (table, few)
paired_if m false false s t same table few = tt
paired_if m true false s t same table few = absurd (cc)
paired_if m false true s t same table few = absurd (cc)

pub paired : (m : KeyMap) (tick : ℕ) (scales : List (ℕ × List Entry)) (tables : List (ℕ × KeyTable)) → AreTablesOf scales m tables
    → Paired m (in_force tick scales) (in_force tick tables)
paired m tick [] [] are = tt
paired m tick (s ∷ scales) (t ∷ tables) are = paired_later m (in_force tick scales) _ (in_force tick tables) _ (paired m tick scales tables are.3)
    (paired_if m (nat_le s.0 tick) (nat_le t.0 tick) s.1 t.1 (ap (λ n. nat_le n tick) are.0) are.1 are.2)
paired m tick [] (t ∷ tables) are = absurd are
paired m tick (s ∷ scales) [] are = absurd are

bound_paired : (m : KeyMap) (key onset : ℕ) → key ≤ 127 → (s : Option (List Entry)) (t : Option KeyTable) → Paired m s t → t ≢ None
    → Bound (term_count (unwrap_or s []) m key) (ratios_of_key (unwrap_or s []) m key) (scale_pitch (unwrap_or s []) m key) (table_if t key)
bound_paired m key onset low (Some s) (Some t) p some = p.0.bounds key onset low
bound_paired m key onset low None None p some = absurd (some refl)
bound_paired m key onset low (Some s) None p some = absurd p
bound_paired m key onset low None (Some t) p some = absurd p

few_paired : (m : KeyMap) (key onset : ℕ) → key ≤ 127 → (s : Option (List Entry)) (t : Option KeyTable) → Paired m s t → t ≢ None
    → term_count (unwrap_or s []) m key ≤ 1700
few_paired m key onset low (Some s) (Some t) p some = p.1 key onset low
few_paired m key onset low None None p some = absurd (some refl)
few_paired m key onset low (Some s) None p some = absurd p
few_paired m key onset low None (Some t) p some = absurd p

pub table_of_stretches : (m : KeyMap) (scales : List (ℕ × List Entry)) (tables : List (ℕ × KeyTable)) → AreTablesOf scales m tables → IsTimeline (ticks_of tables)
    → IsTable (scales_in_force scales m) (by_entries tables)
table_of_stretches m scales tables are timeline = record {
  bounds = λ key onset low. bound_paired m key onset low (in_force onset scales) (in_force onset tables) (paired m onset scales tables are) (always_begun onset tables timeline);
}

pub few_of_stretches : (m : KeyMap) (scales : List (ℕ × List Entry)) (tables : List (ℕ × KeyTable)) → AreTablesOf scales m tables → IsTimeline (ticks_of tables)
    → AreFewTerms (scales_in_force scales m)
few_of_stretches m scales tables are timeline key onset low =
    few_paired m key onset low (in_force onset scales) (in_force onset tables) (paired m onset scales tables are) (always_begun onset tables timeline)
