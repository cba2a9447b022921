-- A note begins on one part of a port, or a pair gets its place there.
use Rattle.std.proofs.Common.{◌≡◌, ◌≢◌, ◌<◌, ◌∙◌, ℕ, ℤ, List, [], Bool, true, false, cond, ◌&&◌, ◌||◌, nat_eq, if◌then◌else◌, Some, Result, Ok, Err, length, map, set, get_or, refl, sym, ap, subst, arith, inl, inr}
use Rattle.std.specs.Prelude.{OnOk}
use Rattle.std.proofs.lemmas.Bool.{and_from, eq-eqb, ne_eqb}
use Rattle.std.proofs.lemmas.Bool.Decides.{eqb_tells}
use Rattle.std.proofs.lemmas.List.{length-set}
use Rattle.key_pitch.specs.declared.aim.Aim.{Aim}
use Rattle.retune_model.specs.Faults.{int_eq}
use Rattle.lifetimes.specs.declared.notes.Notes.{Notes}
use Rattle.lifetimes.specs.declared.port.Port.{Port}
use Rattle.lifetimes.specs.declared.port.Strike.{Strike}
use Rattle.lifetimes.specs.Lists.{ListsSounding, entry_of, struck_at, has_steps}
use Rattle.lifetimes.specs.OnePart.{is_placed, are_placed}
use Rattle.lifetimes.specs.Port.{ListsAll, IsKept, HasPlace, Begins, all_placed, struck_in, listed_in, rests_in, strikes_on, struck_after}
use Rattle.lifetimes.specs.Resting.{IsAdmitted, end_kept}
use Rattle.lifetimes.proofs.Placed.{one_more_placed, stay_placed, placed_of}
use Rattle.lifetimes.proofs.PartEnding.{relisted}
use Rattle.lifetimes.proofs.EachPart.{set_here, set_there, placed_at, placed_set, part_lists, part_struck, part_rests}

turned : (a b : ℕ) → nat_eq a b ≡ nat_eq b a
turned a b = elim (eqb_tells a b) [
  | inl t ↦ t.0 ∙ sym (eq-eqb b a (sym t.1))
  | inr t ↦ t.0 ∙ sym (ne_eqb b a (λ e. t.1 (sym e)))
]

or_cond : (b c : Bool) → cond b true c ≡ (b || c)
or_cond true c = refl
or_cond false c = refl

-- one part changes, but not in this
pub same_field : {B : Type 0} (f : Notes → B) (ns : List Notes) (p : ℕ) (x y : Notes) (e : B) → p < length ns → f y ≡ get_or (map f ns) p e
    → (c : ℕ) → get_or (map f (set ns p y)) c e ≡ get_or (map f ns) c e
same_field f ns p x y e low same c = elim (eqb_tells c p) [
  | inl t ↦ ap (λ i. get_or (map f (set ns p y)) i e) t.1 ∙ (set_here f ns p y e low ∙ (same ∙ ap (λ i. get_or (map f ns) i e) (sym t.1)))
  | inr t ↦ set_there f ns p c y e t.1
]

module _ (p key n : ℕ) (target : Aim) (old new : Port) (x y : Notes) (lo : length old.parts ≡ 16) (low : p < 16) (kl : key < 128)
    (is : new.parts ≡ set old.parts p y)
    (listed : (at : ℕ → Bool) → ListsSounding (get_or old.parts p x).struck (get_or old.parts p x).sounding.items at → at key ≡ false
    → ListsSounding y.struck y.sounding.items (λ k. if nat_eq k key then true else at k))
    (pairs : (q : ℤ) → has_steps y.sounding.items q ≡ true
    → (int_eq (entry_of key target).steps q || has_steps (get_or old.parts p x).sounding.items q) ≡ true)
    (struck : (k : ℕ) → k < 128 → struck_at y.struck k
    ≡ (if nat_eq k key then record { note = n; target = target } else struck_at (get_or old.parts p x).struck k))
    (rests : y.rests.items.items ≡ (get_or old.parts p x).rests.items.items) where
  abbrev pub s : Strike
  s = record { channel = p; key = key; target = target }

  within : p < length old.parts
  within = omega (arith, low, lo)

  struck_here : struck_in new p ≡ y.struck
  struck_here = ap (λ ns. get_or (map (λ m. m.struck) ns) p []) is ∙ set_here (λ m. m.struck) old.parts p y [] within

  listed_here : listed_in new p ≡ y.sounding.items
  listed_here = ap (λ ns. get_or (map (λ m. m.sounding.items) ns) p []) is ∙ set_here (λ m. m.sounding.items) old.parts p y [] within

  struck_other : (c : ℕ) → p ≢ c → struck_in new c ≡ struck_in old c
  struck_other c ne = ap (λ ns. get_or (map (λ m. m.struck) ns) c []) is ∙ set_there (λ m. m.struck) old.parts p c y [] (λ e. ne (sym e))

  listed_other : (c : ℕ) → p ≢ c → listed_in new c ≡ listed_in old c
  listed_other c ne = ap (λ ns. get_or (map (λ m. m.sounding.items) ns) c []) is
      ∙ set_there (λ m. m.sounding.items) old.parts p c y [] (λ e. ne (sym e))

  struck_then : (c k : ℕ) → c < 16 → k < 128 → struck_at (struck_in new c) k ≡ struck_after (Some s) n c k (struck_at (struck_in old c) k)
  struck_then c k cl below = elim (eqb_tells p c) [
    | inl t ↦ subst (λ i. struck_at (struck_in new i) k ≡ struck_after (Some s) n i k (struck_at (struck_in old i) k)) t.1
        (ap (λ ss. struck_at ss k) struck_here
        ∙ struck k below
        ∙ ap (λ b. cond b (record { note = n; target = target }) (struck_at (get_or old.parts p x).struck k)) (turned k key)
        ∙ ap (λ ss. cond (nat_eq key k) (record { note = n; target = target }) (struck_at ss k)) (sym (part_struck old p x lo low))
        ∙ ap (λ b. cond (b && nat_eq key k) (record { note = n; target = target }) (struck_at (struck_in old p) k)) (sym (eq-eqb p p refl)))
    | inr t ↦ ap (λ ss. struck_at ss k) (struck_other c t.1)
        ∙ ap (λ b. cond (b && nat_eq key k) (record { note = n; target = target }) (struck_at (struck_in old c) k)) (sym t.0)
  ]

  listed_then : (at : ℕ → ℕ → Bool) → ListsAll old at → ((c k : ℕ) → strikes_on (Some s) c k ≡ true → at c k ≡ false)
      → ListsAll new (λ c k. strikes_on (Some s) c k || at c k)
  listed_then at l apart c cl = elim (eqb_tells p c) [
    | inl t ↦ subst (λ i. ListsSounding (struck_in new i) (listed_in new i) (λ k. strikes_on (Some s) i k || at i k)) t.1
        (subst (λ ss. ListsSounding ss (listed_in new p) (λ k. strikes_on (Some s) p k || at p k)) (sym struck_here)
        (subst (λ xs. ListsSounding y.struck xs (λ k. strikes_on (Some s) p k || at p k)) (sym listed_here)
        (relisted y.struck y.sounding.items _ _
        (listed (at p) (part_lists old p x (at p) lo low (l p low))
        (apart p key (and_from (nat_eq p p) (nat_eq key key) (eq-eqb p p refl) (eq-eqb key key refl))))
        (λ k below. ap (λ b. cond b true (at p k)) (turned k key) ∙ or_cond (nat_eq key k) (at p k)
        ∙ ap (λ b. (b && nat_eq key k) || at p k) (sym (eq-eqb p p refl))))))
    | inr t ↦ subst (λ ss. ListsSounding ss (listed_in new c) (λ k. strikes_on (Some s) c k || at c k)) (sym (struck_other c t.1))
        (subst (λ xs. ListsSounding (struck_in old c) xs (λ k. strikes_on (Some s) c k || at c k)) (sym (listed_other c t.1))
        (relisted (struck_in old c) (listed_in old c) _ _ (l c cl) (λ k below. ap (λ b. (b && nat_eq key k) || at c k) (sym t.0))))
  ]

  rests_then : (c : ℕ) → c < 16 → rests_in new c ≡ rests_in old c
  rests_then c cl =
      ap (λ ns. get_or (map (λ m. m.rests.items.items) ns) c []) is
      ∙ same_field (λ m. m.rests.items.items) old.parts p x y [] within (rests ∙ sym (part_rests old p x lo low)) c

  kept_then : (tail : ℕ) → HasPlace tail old (Some s) → IsKept tail old → IsKept tail new
  kept_then tail place k some =
      ap all_placed is
      ∙ placed_set old.parts p y within (k some)
      (ap (λ rs. are_placed rs y.sounding.items) rests
      ∙ one_more_placed (get_or old.parts p x).rests.items.items (get_or old.parts p x).sounding.items y.sounding.items
      (entry_of key target).steps pairs
      (ap (λ rs. is_placed rs (entry_of key target).steps) (sym (part_rests old p x lo low)) ∙ place some)
      (placed_at old.parts p x (k some) within))

  pub begins : new.number ≡ old.number → new.player ≡ old.player → Begins (Some s) n old new
  begins number player = record {
    number = number;
    player = player;
    many = ap length is ∙ length-set old.parts p y;
    struck = struck_then;
    listed = listed_then;
    rests = rests_then;
    kept = kept_then;
  }

-- ---- a pair gets its place

pub on_ok : {E X : Type 0} {A B : Type 0} (r : Result X E) → (A → B) → OnOk r A → OnOk r B
on_ok (Ok x) f a = f a
on_ok (Err e) f a = tt

module _ (p : ℕ) (old : Port) (x y : Notes) (lo : length old.parts ≡ 16) (low : p < 16)
    (listed : y.sounding ≡ (get_or old.parts p x).sounding)
    (ends : (q : ℤ) → end_kept y.rests.items.items q ≡ end_kept (get_or old.parts p x).rests.items.items q)
    (admitted : (q : ℤ) → IsAdmitted (get_or old.parts p x).rests.items.items q → IsAdmitted y.rests.items.items q) where
  pub admits_ends : (c : ℕ) (q : ℤ) → c < 16
      → end_kept (get_or (map (λ m. m.rests.items.items) (set old.parts p y)) c []) q ≡ end_kept (rests_in old c) q
  admits_ends c q cl = elim (eqb_tells c p) [
    | inl t ↦ ap (λ i. end_kept (get_or (map (λ m. m.rests.items.items) (set old.parts p y)) i []) q) t.1
        ∙ ap (λ rs. end_kept rs q) (set_here (λ m. m.rests.items.items) old.parts p y [] (omega (arith, low, lo)))
        ∙ ends q
        ∙ ap (λ rs. end_kept rs q) (sym (part_rests old p x lo low))
        ∙ ap (λ i. end_kept (rests_in old i) q) (sym t.1)
    | inr t ↦ ap (λ rs. end_kept rs q) (set_there (λ m. m.rests.items.items) old.parts p c y [] t.1)
  ]

  pub admits_kept : all_placed old.parts ≡ true → all_placed (set old.parts p y) ≡ true
  admits_kept k =
      placed_set old.parts p y (omega (arith, low, lo)) k
      (stay_placed (get_or old.parts p x).rests.items.items y.rests.items.items (get_or old.parts p x).sounding.items y.sounding.items
      (λ q h. ap (λ xs. has_steps xs.items q) (sym listed) ∙ h) (λ q h. admitted q) (placed_at old.parts p x k (omega (arith, low, lo))))

  pub admits_place : (channel : ℕ) (q s : ℤ) → p ≡ channel → s ≡ q → IsAdmitted y.rests.items.items s
      → is_placed (get_or (map (λ m. m.rests.items.items) (set old.parts p y)) channel []) q ≡ true
  admits_place channel q s is same a =
      ap (λ i. is_placed (get_or (map (λ m. m.rests.items.items) (set old.parts p y)) i []) q) (sym is)
      ∙ ap (λ rs. is_placed rs q) (set_here (λ m. m.rests.items.items) old.parts p y [] (omega (arith, low, lo)))
      ∙ ap (is_placed y.rests.items.items) (sym same)
      ∙ placed_of y.rests.items.items s a
