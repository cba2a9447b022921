-- The states of channels with the pressures of their keys.
use Rattle.std.proofs.Common.{◌≡◌, ◌≢◌, ◌<◌, ◌+◌, ℕ, zero, suc, Bool, true, false, cond, ◌&&◌, List, [], ◌∷◌, Some, refl, ap, sym, ◌∙◌, subst, filter, nat_eq, length, set, get_or, replicate, arith, inl, inr}
use Rattle.std.specs.List.{AllByRecursion}
use Rattle.std.proofs.lemmas.Bool.{cases_Bool, cases_eq, both_ways, eq-eqb, ne_eqb, and_left, and_from, and_right}
use Rattle.std.proofs.lemmas.List.{get_or-set_same, get_or-set_other}
use Rattle.retune_model.specs.Pairs.{Pair, is_same_pair}
use Rattle.midi_model.specs.Notes.{Note, sounds, is_at}
use Rattle.midi_model.specs.Music.{key_pressure, key_pressures}
use Rattle.retune_model.specs.Table.{BendTarget}
use Rattle.retune_model.specs.Options.{Options}
use Rattle.retune_model.specs.PlaysTheSame.{Pairwise}
use Rattle.retune_model.specs.Faults.{Targets, is_part, int_eq, target_of}
use Rattle.channel_model.specs.Choice.{wanted_keys, key_set, has_pair}
use Rattle.channel_model.specs.BendOutput.{pair_with}
use Rattle.bend_laws.specs.Follows.{Has, SoundsAlike, IsPlayedBy, IsMatched, IsAmong}
use Rattle.bend_laws.specs.Simulation.{retuned}
use Rattle.bend_laws.proofs.Equal.{same_pair, other_pair}
use Rattle.bend_laws.proofs.Bringing.{wanted_wide}
use Rattle.bend_laws.proofs.Keys.{aim_fits}
use Rattle.bend_laws.proofs.Matching.{output_sounds}

-- ---- a list by its elements

shift : (k i : ℕ) → suc k + i ≡ k + suc i
shift k i = omega arith

no_shift : (k : ℕ) → k + 0 ≡ k
no_shift k = omega arith

pub pressures_are : (ns : List Note) (d : ℕ) (ws : List ℕ) (k n : ℕ) → length ws ≡ n → ((i : ℕ) → i < n →
    key_pressure ns d (k + i) ≡ get_or ws i 0) → key_pressures ns d k n ≡ ws
pressures_are ns d [] k zero l h = refl
pressures_are ns d (w ∷ ws) k zero l h = absurd (omega (arith, l))
pressures_are ns d [] k (suc n) l h = absurd (omega (arith, l))
pressures_are ns d (w ∷ ws) k (suc n) l h =
    ap (λ x. x ∷ key_pressures ns d (suc k) n) (ap (key_pressure ns d) (sym (no_shift k)) ∙ h 0 (omega arith))
    ∙ ap (λ xs. w ∷ xs) (pressures_are ns d ws (suc k) n (omega (arith, l)) (λ i low. ap (key_pressure ns d) (shift k i) ∙ h (suc i)
    (omega (arith, low))))

-- ---- no pressure where nothing sounds

silent_pressure : (d k : ℕ) (ns : List Note) → AllByRecursion (λ n. n.channel ≡ d → sounds n ≡ false) ns → key_pressure ns d k ≡ 0
silent_pressure d k [] h = refl
silent_pressure d k (n ∷ ns) h = elim (cases_eq n.channel d) [
  | inl e ↦ ap (λ b. cond b n.pressure (key_pressure ns d k)) (and_right (is_at d k n) (sounds n) (h.0 e)) ∙ silent_pressure d k ns h.1
  | inr e ↦ ap (λ b. cond b n.pressure (key_pressure ns d k)) (and_left (is_at d k n) (sounds n)
      (and_left (nat_eq n.channel d) (nat_eq n.key k) (ne_eqb n.channel d e))) ∙ silent_pressure d k ns h.1
]

pub silent_pressures : (d : ℕ) (ns : List Note) → AllByRecursion (λ n. n.channel ≡ d → sounds n ≡ false) ns → (k n : ℕ) →
    key_pressures ns d k n ≡ replicate n 0
silent_pressures d ns h k zero = refl
silent_pressures d ns h k (suc n) = ap (λ x. x ∷ key_pressures ns d (suc k) n) (silent_pressure d k ns h) ∙ ap (λ xs. 0 ∷ xs)
    (silent_pressures d ns h (suc k) n)

-- ---- a pair's keys

abbrev Among : ℕ → Options → Targets → List Pair → Note → Type 0
Among port o table ps n = is_part o n.channel ≡ true → sounds n ≡ true → IsAmong port ps n.channel (target_of o table n)

abbrev sounds_on : Options → List Note → List Note
sounds_on o ns = filter (λ n. is_part o n.channel && sounds n) ns

-- a note that is of no part, or doesn't sound, on both sides
skip : (o : Options) (table : Targets) (p : Pair) (d i : ℕ) (a b : Note) (ns xs : List Note) → (is_part o a.channel && sounds a) ≡ false →
    (is_at d i b && sounds b) ≡ false →
    key_pressure xs d i ≡ get_or (wanted_keys o table p (sounds_on o ns)) i 0 → key_pressure (b ∷ xs) d i
    ≡ get_or (wanted_keys o table p (sounds_on o (a ∷ ns))) i 0
skip o table p d i a b ns xs h g rest =
    ap (λ q. cond q b.pressure (key_pressure xs d i)) g ∙ rest
    ∙ ap (λ q. get_or (wanted_keys o table p (cond q (a ∷ sounds_on o ns) (sounds_on o ns))) i 0) (sym h)

-- a note of the pair
take : (port : ℕ) (o : Options) (table : Targets) (p : Pair) (d i : ℕ) (a b : Note) (ns xs : List Note) (t : BendTarget) →
    target_of o table a ≡ Some t → pair_with port a.channel t ≡ p → (is_part o a.channel && sounds a) ≡ true → b.channel ≡ d → sounds b ≡ true →
    b.key ≡ t.key → b.pressure ≡ a.pressure →
    (nat_eq a.channel p.part.channel && int_eq t.steps p.steps) ≡ true → key_pressure xs d i
    ≡ get_or (wanted_keys o table p (sounds_on o ns)) i 0 → key_pressure (b ∷ xs) d i
    ≡ get_or (wanted_keys o table p (sounds_on o (a ∷ ns))) i 0
take port o table p d i a b ns xs t aim same h on s key pressure is rest =
    let W : List ℕ = wanted_keys o table p (sounds_on o ns) in
    let right : get_or (wanted_keys o table p (sounds_on o (a ∷ ns))) i 0 ≡ get_or (set W t.key a.pressure) i 0 =
    ap (λ q. get_or (wanted_keys o table p (cond q (a ∷ sounds_on o ns) (sounds_on o ns))) i 0) h
    ∙ ap (λ u. get_or (cond (has_pair p a u) (key_set W u a.pressure) W) i 0) aim
    ∙ ap (λ q. get_or (cond q (set W t.key a.pressure) W) i 0) is in
    let left : key_pressure (b ∷ xs) d i ≡ cond (nat_eq t.key i) a.pressure (key_pressure xs d i) =
    ap (λ q. cond ((q && nat_eq b.key i) && sounds b) b.pressure (key_pressure xs d i)) (eq-eqb b.channel d on)
    ∙ ap (λ q. cond (nat_eq b.key i && q) b.pressure (key_pressure xs d i)) s ∙ ap (λ q. cond q b.pressure (key_pressure xs d i))
    (and_true (nat_eq b.key i))
    ∙ ap (λ q. cond (nat_eq q i) b.pressure (key_pressure xs d i)) key ∙ ap (λ q. cond (nat_eq t.key i) q (key_pressure xs d i)) pressure in
    left ∙ elim (cases_eq t.key i) [
      | inl e ↦ ap (λ q. cond q a.pressure (key_pressure xs d i)) (eq-eqb t.key i e)
          ∙ sym (get_or-set_same W t.key a.pressure 0 (subst (λ l. t.key < l) (sym (wanted_wide o table p (sounds_on o ns)))
          (aim_fits o.range (table a.key a.onset) t aim))) ∙ ap (λ q. get_or (set W t.key a.pressure) q 0) e
      | inr e ↦ ap (λ q. cond q a.pressure (key_pressure xs d i)) (ne_eqb t.key i e) ∙ rest
          ∙ sym (get_or-set_other W t.key i a.pressure 0 (λ q. e (sym q)))
    ] ∙ sym right
  where
    and_true : (q : Bool) → (q && true) ≡ q
    and_true true = refl
    and_true false = refl

-- a note of another pair
pass : (port : ℕ) (o : Options) (table : Targets) (p : Pair) (d i : ℕ) (a b : Note) (ns xs : List Note) (t : BendTarget) →
    target_of o table a ≡ Some t → (is_part o a.channel && sounds a) ≡ true → b.channel ≢ d →
    (nat_eq a.channel p.part.channel && int_eq t.steps p.steps) ≡ false →
    key_pressure xs d i ≡ get_or (wanted_keys o table p (sounds_on o ns)) i 0 → key_pressure (b ∷ xs) d i
    ≡ get_or (wanted_keys o table p (sounds_on o (a ∷ ns))) i 0
pass port o table p d i a b ns xs t aim h off other rest =
    let W : List ℕ = wanted_keys o table p (sounds_on o ns) in
    ap (λ q. cond ((q && nat_eq b.key i) && sounds b) b.pressure (key_pressure xs d i)) (ne_eqb b.channel d off) ∙ rest
    ∙ sym (ap (λ q. get_or (wanted_keys o table p (cond q (a ∷ sounds_on o ns) (sounds_on o ns))) i 0) h
    ∙ ap (λ u. get_or (cond (has_pair p a u) (key_set W u a.pressure) W) i 0) aim
    ∙ ap (λ q. get_or (cond q (set W t.key a.pressure) W) i 0) other)

-- a pair of the port is told by its channel and its steps
pub at_port : (port c : ℕ) (t : BendTarget) (p : Pair) → p.part.port ≡ port → is_same_pair (pair_with port c t) p
    ≡ (nat_eq c p.part.channel && int_eq t.steps p.steps)
at_port port c t p e = ap (λ b. (b && nat_eq c p.part.channel) && int_eq t.steps p.steps) (eq-eqb port p.part.port (sym e))

pub pair_pressure : (port : ℕ) (o : Options) (table : Targets) (place : Pair → ℕ) (ps : List Pair) (p : Pair) → p.part.port ≡ port →
    is_part o (place p) ≡ true → ((q : Pair) → Has ps q → place q ≡ place p → q ≡ p) → (i : ℕ) (ns xs : List Note) →
    Pairwise (IsMatched port o table place) ns xs → AllByRecursion (Among port o table ps) ns →
    key_pressure xs (place p) i ≡ get_or (wanted_keys o table p (sounds_on o ns)) i 0
pair_pressure port o table place ps p of_port used apart i [] [] m h = sym (zeros 128 i)
  where
    zeros : (n i : ℕ) → ◌≡◌ {A = ℕ} (get_or (replicate n 0) i 0) 0
    zeros zero i = refl
    zeros (suc n) zero = refl
    zeros (suc n) (suc i) = zeros n i
pair_pressure port o table place ps p of_port used apart i [] (b ∷ xs) m h = absurd m
pair_pressure port o table place ps p of_port used apart i (a ∷ ns) [] m h = absurd m
pair_pressure port o table place ps p of_port used apart i (a ∷ ns) (b ∷ xs) m h =
    let rest : key_pressure xs (place p) i ≡ get_or (wanted_keys o table p (sounds_on o ns)) i 0 =
    pair_pressure port o table place ps p of_port used apart i ns xs m.1 h.1 in
    elim (cases_Bool (is_part o a.channel)) [
      | inr n ↦ skip o table p (place p) i a b ns xs (and_left (is_part o a.channel) (sounds a) n)
          (and_left (is_at (place p) i b) (sounds b) (and_left (nat_eq b.channel (place p)) (nat_eq b.key i)
          (ne_eqb b.channel (place p) (λ e. both_ways (is_part o a.channel) n (sym m.0.retuned ∙ ap (is_part o) e ∙ used))))) rest
      | inl y ↦ (let g : IsPlayedBy port o table place a b = m.0.played y in
          elim (cases_Bool (sounds a)) [
            | inr n ↦ skip o table p (place p) i a b ns xs (and_right (is_part o a.channel) (sounds a) n)
                (and_right (is_at (place p) i b) (sounds b) (output_sounds port o table place a b g ∙ n)) rest
            | inl s ↦ (let z : SoundsAlike (place (pair_with port a.channel g.target)) a b = g.sounding s in
                let there : Has ps (pair_with port a.channel g.target) = subst (IsAmong port ps a.channel) g.aim (h.0 y s) in
                elim (cases_Bool (is_same_pair (pair_with port a.channel g.target) p)) [
                  | inl e ↦ (let same : pair_with port a.channel g.target ≡ p = same_pair (pair_with port a.channel g.target) p e in
                      take port o table p (place p) i a b ns xs g.target g.aim same (and_from (is_part o a.channel) (sounds a) y s)
                      (z.channel ∙ ap place same) (output_sounds port o table place a b g ∙ s) g.key z.pressure
                      (sym (at_port port a.channel g.target p of_port) ∙ e) rest)
                  | inr e ↦ pass port o table p (place p) i a b ns xs g.target g.aim (and_from (is_part o a.channel) (sounds a) y s)
                      (λ k. other_pair (pair_with port a.channel g.target) p e (apart (pair_with port a.channel g.target) there (sym z.channel
                      ∙ k))) (sym (at_port port a.channel g.target p of_port) ∙ e) rest
                ])
          ])
    ]

-- ---- the retuned notes alone

pub played_retuned : (port : ℕ) (o : Options) (table : Targets) (place : Pair → ℕ) (ns xs : List Note) →
    Pairwise (IsMatched port o table place) ns xs → Pairwise (IsPlayedBy port o table place) (retuned o ns) (retuned o xs)
played_retuned port o table place [] [] m = tt
played_retuned port o table place [] (b ∷ xs) m = absurd m
played_retuned port o table place (a ∷ ns) [] m = absurd m
played_retuned port o table place (a ∷ ns) (b ∷ xs) m =
    let rest : Pairwise (IsPlayedBy port o table place) (retuned o ns) (retuned o xs) = played_retuned port o table place ns xs m.1 in
    elim (cases_Bool (is_part o a.channel)) [
      | inl y ↦ subst (λ q. Pairwise (IsPlayedBy port o table place) (cond q (a ∷ retuned o ns) (retuned o ns)) (retuned o (b ∷ xs))) (sym y)
          (subst (λ q. Pairwise (IsPlayedBy port o table place) (a ∷ retuned o ns) (cond q (b ∷ retuned o xs) (retuned o xs)))
          (sym (m.0.retuned ∙ y)) (m.0.played y, rest))
      | inr n ↦ subst (λ q. Pairwise (IsPlayedBy port o table place) (cond q (a ∷ retuned o ns) (retuned o ns)) (retuned o (b ∷ xs))) (sym n)
          (subst (λ q. Pairwise (IsPlayedBy port o table place) (retuned o ns) (cond q (b ∷ retuned o xs) (retuned o xs)))
          (sym (m.0.retuned ∙ n)) rest)
    ]
