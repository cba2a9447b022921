-- The pressure that a target key has of a pair's notes: that of the source key of the note that aims at it.
use Rattle.std.proofs.Common.{◌≡◌, ◌∙◌, ℕ, suc, ℤ, List, [], ◌∷◌, Bool, true, false, cond, ◌&&◌, nat_eq, Option, Some, None, is_some, refl, sym, ap, subst}
use Rattle.std.specs.Prelude.{filter}
use Rattle.std.specs.List.{AllByRecursion}
use Rattle.std.proofs.lemmas.Bool.{eqb-true, eq-eqb, and_parts, and_from, or_parts, both_ways, false_from_ne_true}
use Rattle.midi_model.specs.Notes.{Note, sounds, is_at}
use Rattle.midi_model.specs.Music.{key_pressure}
use Rattle.retune_model.specs.Table.{Bounds, BendTarget, bend_target}
use Rattle.retune_model.specs.Options.{Options}
use Rattle.retune_model.specs.PlaysTheSame.{bend_target_if}
use Rattle.retune_model.specs.Faults.{Targets, is_part, int_eq, is_same_target, target_of, any_note}
use Rattle.key_pitch.specs.Aims.{on_bend, bend_aim}
use Rattle.receiver.specs.Sounding.{sounding_from}
use Rattle.lifetimes.specs.Lists.{entry_of}
use Rattle.lifetimes.specs.Stands.{pair_on}
use Rattle.lifetimes.specs.declared.notes.Sounding.{Sounding}
use Rattle.lifetimes.proofs.Kept.{int_eq_tells, same_int}
use Rattle.lifetimes.proofs.StruckSteps.{is_on}
use Rattle.lifetimes.proofs.PressedKeys.{aims_at, pressure_aimed}
use Rattle.lifetimes.proofs.TargetsApart.{IsAlone, AreAlone}

-- whether an entry has these steps and this key as its target
abbrev pub is_there : ℕ → ℤ → Sounding → Bool
is_there k q x = int_eq x.steps q && nat_eq x.target k

-- the note that sounds on a key is one of the list
pub of_sounding : (P : Note → Type 0) (c j i : ℕ) (ns : List Note) (x : ℕ × Note) → sounding_from i ns c j ≡ Some x → AllByRecursion P ns
    → P x.1
of_sounding P c j i [] x e h = absurd cc
of_sounding P c j i (n ∷ ns) x e h = pick (is_at c j n && sounds n) e (λ g. of_sounding P c j (suc i) ns x g h.1)
  where
    pick : (b : Bool) → cond b (Some (i, n)) (sounding_from (suc i) ns c j) ≡ Some x
        → (sounding_from (suc i) ns c j ≡ Some x → P x.1) → P x.1
    pick true e later = (let same : x ≡ (i, n) = cc in subst (λ (y : ℕ × Note). P y.1) (sym same) h.0)
    pick false e later = later e

-- ---- by what was struck

-- a note aims at a key as the entry of its own key does
pub aims_so : (range z c j k : ℕ) (q : ℤ) (n : Note) (b : Option Bounds) → n.channel ≡ c → is_some (bend_target_if range b) ≡ true
    → aims_at (pair_on z c q) k n (bend_target_if range b) ≡ is_there k q (entry_of j (bend_aim range b))
aims_so range z c j k q n None same has = absurd cc
aims_so range z c j k q n (Some b) same has = pick (bend_target range b) has
  where
    pick : (t : Option BendTarget) → is_some t ≡ true → aims_at (pair_on z c q) k n t ≡ is_there k q (entry_of j (on_bend t))
    pick None has = absurd cc
    pick (Some t) has = ap (λ b. (b && int_eq t.steps q) && nat_eq t.key k) (eq-eqb n.channel c same)

-- ---- two notes that aim at a key

-- what is so of a note that aims at a key
record Aims (c k : ℕ) (q : ℤ) (n : Note) (t : BendTarget) : Type 0 where
  pub channel : n.channel ≡ c
  pub steps : t.steps ≡ q
  pub key : t.key ≡ k

aims_parts : (z c k : ℕ) (q : ℤ) (n : Note) (t : BendTarget) → aims_at (pair_on z c q) k n (Some t) ≡ true → Aims c k q n t
aims_parts z c k q n t h =
    let a = and_parts (nat_eq n.channel c && int_eq t.steps q) (nat_eq t.key k) h in
    let b = and_parts (nat_eq n.channel c) (int_eq t.steps q) a.0 in
    record { channel = eqb-true n.channel c b.0; steps = int_eq_tells t.steps q b.1; key = eqb-true t.key k a.1 }

aims_here : (z c k : ℕ) (q : ℤ) (n : Note) (t : Option BendTarget) → aims_at (pair_on z c q) k n t ≡ true → n.channel ≡ c
aims_here z c k q n None h = absurd cc
aims_here z c k q n (Some t) h = (aims_parts z c k q n t h).channel

same_aimed : (z c k : ℕ) (q : ℤ) (n m : Note) (s t : Option BendTarget) → aims_at (pair_on z c q) k n s ≡ true
    → aims_at (pair_on z c q) k m t ≡ true
    → is_same_target s t ≡ true
same_aimed z c k q n m None t f g = absurd cc
same_aimed z c k q n m (Some s) None f g = absurd cc
same_aimed z c k q n m (Some s) (Some t) f g =
    let a = aims_parts z c k q n s f in
    let b = aims_parts z c k q m t g in
    and_from (nat_eq s.key t.key) (int_eq s.steps t.steps) (eq-eqb s.key t.key (a.key ∙ sym b.key))
    (ap (int_eq s.steps) (b.steps ∙ sym a.steps) ∙ same_int s.steps)

-- ---- the first note that aims at a key

module _ (o : Options) (table : Targets) (z c : ℕ) (q : ℤ) (k : ℕ) where
  abbrev aimed : Note → Bool
  aimed n = aims_at (pair_on z c q) k n (target_of o table n)

  abbrev retuned : List Note → List Note
  retuned ns = filter (λ n. is_part o n.channel && sounds n) ns

  abbrev of_notes : List Note → ℕ
  of_notes ns = pressure_aimed o table (pair_on z c q) k (retuned ns)

  -- a note in front
  heads : (n : Note) (ns : List Note) → of_notes (n ∷ ns) ≡ cond ((is_part o n.channel && sounds n) && aimed n) n.pressure (of_notes ns)
  heads n ns = pick (is_part o n.channel && sounds n)
    where
      pick : (b : Bool) → pressure_aimed o table (pair_on z c q) k (cond b (n ∷ retuned ns) (retuned ns))
          ≡ cond (b && aimed n) n.pressure (of_notes ns)
      pick true = refl
      pick false = refl

  -- where none of the channel does
  pub none_aims : (ns : List Note) → any_note (λ n. (sounds n && nat_eq n.channel c) && aimed n) ns ≡ false → of_notes ns ≡ 0
  none_aims [] h = refl
  none_aims (n ∷ ns) h =
      let e = or_parts ((sounds n && nat_eq n.channel c) && aimed n) (any_note (λ n. (sounds n && nat_eq n.channel c) && aimed n) ns) h in
      heads n ns ∙ (ap (λ b. cond b n.pressure (of_notes ns)) (no e.0) ∙ none_aims ns e.1)
    where
      no : ((sounds n && nat_eq n.channel c) && aimed n) ≡ false → ((is_part o n.channel && sounds n) && aimed n) ≡ false
      no e = false_from_ne_true ((is_part o n.channel && sounds n) && aimed n) (λ h.
          let a = and_parts (is_part o n.channel && sounds n) (aimed n) h in
          let b = and_parts (is_part o n.channel) (sounds n) a.0 in
          both_ways ((sounds n && nat_eq n.channel c) && aimed n) e
          (and_from (sounds n && nat_eq n.channel c) (aimed n)
          (and_from (sounds n) (nat_eq n.channel c) b.1 (eq-eqb n.channel c (aims_here z c k q n (target_of o table n) a.1))) a.1))

  -- where the note on a source key does, and none on another
  pub first_aims : (j i : ℕ) (ns : List Note) (x : ℕ × Note) → is_part o c ≡ true → AreAlone o table ns
      → sounding_from i ns c j ≡ Some x → aimed x.1 ≡ true → of_notes ns ≡ key_pressure ns c j
  first_aims j i [] x part alone on aims = absurd cc
  first_aims j i (n ∷ ns) x part alone on aims =
      heads n ns ∙ pick (is_at c j n && sounds n) refl on (λ g. first_aims j (suc i) ns x part alone.1 g aims)
    where
      -- another note with that target is of that key
      another : (is_at c j n && sounds n) ≡ false → sounding_from (suc i) ns c j ≡ Some x
          → ((is_part o n.channel && sounds n) && aimed n) ≡ false
      another e g = false_from_ne_true ((is_part o n.channel && sounds n) && aimed n) (λ h.
          let a = and_parts (is_part o n.channel && sounds n) (aimed n) h in
          let b = and_parts (is_part o n.channel) (sounds n) a.0 in
          let there = is_on c j (suc i) ns x g in
          let channel = aims_here z c k q n (target_of o table n) a.1 in
          let key = of_sounding (IsAlone o table n) c j (suc i) ns x g alone.0 b.1 there.sounds b.0 (channel ∙ sym there.channel)
          (same_aimed z c k q n x.1 (target_of o table n) (target_of o table x.1) a.1 aims) ∙ there.key in
          both_ways (is_at c j n && sounds n) e
          (and_from (is_at c j n) (sounds n) (and_from (nat_eq n.channel c) (nat_eq n.key j) (eq-eqb n.channel c channel) (eq-eqb n.key j key)) b.1))

      itself : (is_at c j n && sounds n) ≡ true → x ≡ (i, n) → ((is_part o n.channel && sounds n) && aimed n) ≡ true
      itself e same =
          let a = and_parts (is_at c j n) (sounds n) e in
          let b = and_parts (nat_eq n.channel c) (nat_eq n.key j) a.0 in
          and_from (is_part o n.channel && sounds n) (aimed n)
          (and_from (is_part o n.channel) (sounds n) (ap (is_part o) (eqb-true n.channel c b.0) ∙ part) a.1)
          (sym (ap (λ (y : ℕ × Note). aimed y.1) same) ∙ aims)

      pick : (b : Bool) → (is_at c j n && sounds n) ≡ b → cond b (Some (i, n)) (sounding_from (suc i) ns c j) ≡ Some x
          → (sounding_from (suc i) ns c j ≡ Some x → of_notes ns ≡ key_pressure ns c j)
          → cond ((is_part o n.channel && sounds n) && aimed n) n.pressure (of_notes ns) ≡ cond b n.pressure (key_pressure ns c j)
      pick true e g later = ap (λ b. cond b n.pressure (of_notes ns)) (itself e (let same : x ≡ (i, n) = cc in same))
      pick false e g later = ap (λ b. cond b n.pressure (of_notes ns)) (another e g) ∙ later g
