-- Notes of a part that sound have targets of their own; so each finds its pressure among the wanted pressures of its pair's keys.
use Rattle.std.proofs.Common.{◌≡◌, ◌≢◌, ◌<◌, ℕ, ℤ, pos, negsuc, Bool, true, false, cond, ◌&&◌, List, [], ◌∷◌, ◌++◌, Option, Some, None, refl, ap, sym, ◌∙◌, subst, filter, nat_eq, nat_le, set, get_or, arith, inl, inr}
use Rattle.std.specs.List.{AllByRecursion}
use Rattle.std.proofs.lemmas.Bool.{cases_Bool, both_ways, eqb-true, and_from, and_parts, leb-true}
use Rattle.std.proofs.lemmas.List.{get_or-set_same, get_or-set_other, append-nil}
use Rattle.midi_model.specs.Sysex.{Doing}
use Rattle.midi_model.specs.Notes.{Note, sounds, Fades}
use Rattle.midi_model.specs.Music.{Music, advance}
use Rattle.midi_model.specs.MusicLaws.{AllFade, begun_by, NotesFade}
use Rattle.retune_model.specs.Table.{Bounds, BendTarget, up_to, with_steps, nearest_key, nearest_steps}
use Rattle.retune_model.specs.Options.{Options}
use Rattle.retune_model.specs.PlaysTheSame.{bend_target_if}
use Rattle.retune_model.specs.Faults.{Targets, is_part, int_eq, is_same_target, target_of}
use Rattle.channel_model.specs.Choice.{wanted_keys, key_set, has_pair}
use Rattle.channel_model.specs.BendOutput.{pair_with}
use Rattle.bend_laws.specs.Follows.{AreTwo, AreApart}
use Rattle.bend_laws.proofs.Equal.{nat_itself, int_itself, same_target, same_int}
use Rattle.bend_laws.proofs.Lists.{all_weaker, all_both}
use Rattle.bend_laws.proofs.Bringing.{wanted_wide}

-- ---- a target's key is a key

below : (z : ℤ) (k : ℕ) → up_to 127 z ≡ Some k → k < 128
below (pos n) k h = pick (nat_le n 127) refl h
  where
    pick : (b : Bool) → nat_le n 127 ≡ b → cond b (Some n) None ≡ Some k → k < 128
    pick true e g = (let same : n ≡ k = cc in let l = leb-true n 127 e in omega (arith, same, l))
    pick false e g = absurd cc
below (negsuc n) k h = absurd cc

with_below : (q : ℤ) (x : Option ℕ) (t : BendTarget) → ((k : ℕ) → x ≡ Some k → k < 128) → with_steps q x ≡ Some t → t.key < 128
with_below q None t f h = absurd cc
with_below q (Some k) t f h = let e : k ≡ t.key = cc in subst (λ n. n < 128) e (f k refl)

pub aim_fits : (range : ℕ) (x : Option Bounds) (t : BendTarget) → bend_target_if range x ≡ Some t → t.key < 128
aim_fits range None t h = absurd cc
aim_fits range (Some b) t h = with_below (nearest_steps range b.lo) (up_to 127 (nearest_key b.lo)) t (below (nearest_key b.lo)) h

-- ---- the pressure of a key

-- what a note that sounds finds
abbrev pub Finds : ℕ → Options → Targets → List Note → Note → Type 0
Finds port o table ns a = is_part o a.channel ≡ true → sounds a ≡ true → (t : BendTarget) → target_of o table a ≡ Some t
    → get_or (wanted_keys o table (pair_with port a.channel t) (filter (λ n. is_part o n.channel && sounds n) ns)) t.key 0 ≡ a.pressure

found_first : (port : ℕ) (o : Options) (table : Targets) (ns : List Note) (n : Note) → Finds port o table (n ∷ ns) n
found_first port o table ns n p s t h =
    let S : List Note = filter (λ x. is_part o x.channel && sounds x) ns in
    let W : List ℕ = wanted_keys o table (pair_with port n.channel t) S in
    let it : (nat_eq n.channel n.channel && int_eq t.steps t.steps) ≡ true = and_from (nat_eq n.channel n.channel) (int_eq t.steps t.steps)
    (nat_itself n.channel) (int_itself t.steps) in
    ap (λ b. get_or (wanted_keys o table (pair_with port n.channel t) (cond b (n ∷ S) S)) t.key 0) (and_from (is_part o n.channel) (sounds n) p s)
    ∙ ap (λ x. get_or (cond (has_pair (pair_with port n.channel t) n x) (key_set W x n.pressure) W) t.key 0) h
    ∙ ap (λ b. get_or (cond b (set W t.key n.pressure) W) t.key 0) it
    ∙ get_or-set_same W t.key n.pressure 0 (subst (λ l. t.key < l) (sym (wanted_wide o table (pair_with port n.channel t) S))
    (aim_fits o.range (table n.key n.onset) t h))

-- a note before it that has another target
found_behind : (port : ℕ) (o : Options) (table : Targets) (ns : List Note) (n a : Note) → AreTwo o table n a → Finds port o table ns a →
    Finds port o table (n ∷ ns) a
found_behind port o table ns n a two f p s t h =
    let S : List Note = filter (λ x. is_part o x.channel && sounds x) ns in
    let W : List ℕ = wanted_keys o table (pair_with port a.channel t) S in
    elim (cases_Bool (is_part o n.channel && sounds n)) [
      | inr e ↦ ap (λ b. get_or (wanted_keys o table (pair_with port a.channel t) (cond b (n ∷ S) S)) t.key 0) e ∙ f p s t h
      | inl e ↦ ap (λ b. get_or (wanted_keys o table (pair_with port a.channel t) (cond b (n ∷ S) S)) t.key 0) e
          ∙ passes (target_of o table n) refl (and_parts (is_part o n.channel) (sounds n) e).0 (and_parts (is_part o n.channel) (sounds n) e).1 W
          ∙ f p s t h
    ]
  where
    apart : (u : BendTarget) → target_of o table n ≡ Some u → is_part o n.channel ≡ true → sounds n ≡ true → n.channel ≡ a.channel →
        u.steps ≡ t.steps → t.key ≢ u.key
    apart u e q r c st k = both_ways (is_same_target (target_of o table n) (target_of o table a)) (two.target r s q c)
        (ap (λ x. is_same_target x (target_of o table a)) e ∙ ap (λ x. is_same_target (Some u) x) h ∙ same_target u t (sym k) st)

    passes : (x : Option BendTarget) → target_of o table n ≡ x → is_part o n.channel ≡ true → sounds n ≡ true → (W : List ℕ) →
        get_or (cond (has_pair (pair_with port a.channel t) n x) (key_set W x n.pressure) W) t.key 0 ≡ get_or W t.key 0
    passes None e q r W = refl
    passes (Some u) e q r W = elim (cases_Bool (nat_eq n.channel a.channel && int_eq u.steps t.steps)) [
      | inr other ↦ ap (λ b. get_or (cond b (set W u.key n.pressure) W) t.key 0) other
      | inl same ↦ ap (λ b. get_or (cond b (set W u.key n.pressure) W) t.key 0) same
          ∙ get_or-set_other W u.key t.key n.pressure 0 (apart u e q r (eqb-true n.channel a.channel (and_parts (nat_eq n.channel a.channel)
          (int_eq u.steps t.steps) same).0) (same_int u.steps t.steps (and_parts (nat_eq n.channel a.channel) (int_eq u.steps t.steps) same).1))
    ]

pub all_find : (port : ℕ) (o : Options) (table : Targets) (ns : List Note) → AreApart o table ns → AllByRecursion (Finds port o table ns) ns
all_find port o table [] h = tt
all_find port o table (n ∷ ns) h = (
  found_first port o table ns n,
  all_weaker (λ a. AreTwo o table n a × Finds port o table ns a) (Finds port o table (n ∷ ns))
      (λ a k. found_behind port o table ns n a k.0 k.1) ns (all_both (AreTwo o table n)
      (Finds port o table ns) ns h.0 (all_find port o table ns h.1)),
)

-- ---- notes that fade stay apart

pub same_aim : (o : Options) (table : Targets) (a x : Note) → Fades a x → target_of o table x ≡ target_of o table a
same_aim o table a x f = ap (λ k. bend_target_if o.range (table k x.onset)) f.key ∙ ap (λ t. bend_target_if o.range (table a.key t)) f.onset

two_fade : (o : Options) (table : Targets) (a b x y : Note) → Fades a x → Fades b y → AreTwo o table a b → AreTwo o table x y
two_fade o table a b x y f g h = record {
  key = λ s r p c. ap (λ k. nat_eq k y.key) f.key ∙ ap (λ k. nat_eq a.key k) g.key ∙ h.key (f.sounds s) (g.sounds r)
      (ap (is_part o) (sym f.channel) ∙ p) (sym f.channel ∙ c ∙ g.channel);
  target = λ s r p c. ap (λ t. is_same_target t (target_of o table y)) (same_aim o table a x f) ∙ ap (λ t. is_same_target (target_of o table a) t)
      (same_aim o table b y g)
      ∙ h.target (f.sounds s) (g.sounds r) (ap (is_part o) (sym f.channel) ∙ p) (sym f.channel ∙ c ∙ g.channel);
}

one_fades : (o : Options) (table : Targets) (a x : Note) (ns xs : List Note) → Fades a x → AllFade ns xs → AllByRecursion (AreTwo o table a) ns →
    AllByRecursion (AreTwo o table x) xs
one_fades o table a x [] [] f g h = tt
one_fades o table a x [] (y ∷ ys) f g h = absurd g
one_fades o table a x (b ∷ bs) [] f g h = absurd g
one_fades o table a x (b ∷ bs) (y ∷ ys) f g h = (two_fade o table a b x y f g.0 h.0, one_fades o table a x bs ys f g.1 h.1)

pub apart_fades : (o : Options) (table : Targets) (ns xs : List Note) → AllFade ns xs → AreApart o table ns → AreApart o table xs
apart_fades o table [] [] g h = tt
apart_fades o table [] (y ∷ ys) g h = absurd g
apart_fades o table (b ∷ bs) [] g h = absurd g
apart_fades o table (b ∷ bs) (y ∷ ys) g h = (one_fades o table b y bs ys g.0 g.1 h.0, apart_fades o table bs ys g.1 h.1)

-- after an event that begins no note
pub apart_after : NotesFade → (o : Options) (table : Targets) (m : Music) (t : ℕ) (d : Doing) → begun_by m t d ≡ [] → AreApart o table m.notes →
    AreApart o table (advance t d m).notes
apart_after law o table m t d none h =
    apart_fades o table m.notes (advance t d m).notes (subst (λ ns. AllFade ns (advance t d m).notes)
    (ap (λ x. m.notes ++ x) none ∙ append-nil m.notes) (law m t d)) h
