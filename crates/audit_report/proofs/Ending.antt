-- The notes of a port after an event: those from before, of which some ended, and the one that it begins.
use Rattle.std.proofs.Common.{◌≡◌, ◌≤◌, ◌<◌, ◌+◌, ℕ, suc, List, [], ◌∷◌, ◌++◌, Bool, true, false, cond, not, ◌&&◌, ◌||◌, Option, Some, None, refl, ap, sym, ◌∙◌, arith}
use Rattle.std.specs.Prelude.{map, filter, nat_eq, is_some}
use Rattle.std.specs.List.{AllByRecursion}
use Rattle.std.proofs.lemmas.Bool.{eq-eqb}
use Rattle.midi_model.specs.Notes.{Note, Fades, sounds, sounding_on, is_at}
use Rattle.midi_model.specs.MusicLaws.{AllFade, Ages, EndsBy, Grows}
use Rattle.receiver.specs.Sounding.{ended_on}
use Rattle.audit_report.specs.Audit.{marked}
use Rattle.audit_report.specs.Played.{played_on}

-- ---- which of them ended

at_itself : (n : Note) → is_at n.channel n.key n ≡ true
at_itself n = ap (λ b. b && nat_eq n.key n.key) (eq-eqb n.channel n.channel refl) ∙ eq-eqb n.key n.key refl

-- where none sounds, none ends
none_ends : (c k : ℕ) (ns xs : List Note) → sounding_on c k ns ≡ 0 → ended_on c k ns xs ≡ false
none_ends c k [] xs h = refl
none_ends c k (n ∷ ns) [] h = refl
none_ends c k (n ∷ ns) (x ∷ xs) h = pick (is_at c k n) (sounds n) h (none_ends c k ns xs)
  where
    pick : (a s : Bool) → cond (a && s) 1 0 + sounding_on c k ns ≡ 0 → (sounding_on c k ns ≡ 0 → ended_on c k ns xs ≡ false)
        → ((a && (s && not (sounds x))) || ended_on c k ns xs) ≡ false
    pick true true g rest = absurd (omega (arith, g))
    pick true false g rest = rest (omega (arith, g))
    pick false s g rest = rest (omega (arith, g))

-- Of each retuned note that sounds it is told whether it ends.
abbrev pub AreTold : (ℕ → Bool) → (ℕ → ℕ → Bool) → List Note → List Note → Type 0
AreTold part f [] xs = Unit {0}
AreTold part f (n ∷ ns) [] = Unit {0}
AreTold part f (n ∷ ns) (x ∷ xs) = (part n.channel ≡ true → sounds n ≡ true → f n.channel n.key ≡ not (sounds x)) × AreTold part f ns xs

abbrev pub HasLowKeys : (ℕ → Bool) → Note → Type 0
HasLowKeys part n = part n.channel ≡ true → (n.channel < 16) × (n.key < 128)

-- what is told of a key, where a note sounds there
abbrev pub Tells : (ℕ → Bool) → (ℕ → ℕ → Bool) → List Note → List Note → Type 0
Tells part f ns xs = (c k : ℕ) → c < 16 → k < 128 → sounding_on c k ns ≡ 1 → f c k ≡ (part c && ended_on c k ns xs)

counted : (a s : Bool) (m : ℕ) → (a && s) ≡ true → cond (a && s) 1 0 + m ≡ suc m
counted a s m h = ap (λ b. cond b 1 0 + m) h ∙ (let e : 1 + m ≡ suc m = omega arith in e)

told_head : (part : ℕ → Bool) (f : ℕ → ℕ → Bool) (n x : Note) (ns xs : List Note) → (sounding_on n.channel n.key (n ∷ ns) ≤ 1)
    → Tells part f (n ∷ ns) (x ∷ xs) → HasLowKeys part n → part n.channel ≡ true → sounds n ≡ true → f n.channel n.key ≡ not (sounds x)
told_head part f n x ns xs one tells low is unended =
    let both : (is_at n.channel n.key n && sounds n) ≡ true = ap (λ b. b && sounds n) (at_itself n) ∙ unended in
    let count : sounding_on n.channel n.key (n ∷ ns) ≡ suc (sounding_on n.channel n.key ns) = counted (is_at n.channel n.key n) (sounds n)
    (sounding_on n.channel n.key ns) both in
    let rest : sounding_on n.channel n.key ns ≡ 0 = omega (arith, one, count) in
    let l = low is in
    tells n.channel n.key l.0 l.1 (omega (arith, count, rest))
    ∙ (ap (λ b. b && ((is_at n.channel n.key n && (sounds n && not (sounds x))) || ended_on n.channel n.key ns xs)) is
    ∙ (ap (λ b. (b && (sounds n && not (sounds x))) || ended_on n.channel n.key ns xs) (at_itself n)
    ∙ (ap (λ b. (b && not (sounds x)) || ended_on n.channel n.key ns xs) unended
    ∙ (ap (λ b. not (sounds x) || b) (none_ends n.channel n.key ns xs rest) ∙ or_false (not (sounds x))))))
  where
    or_false : (b : Bool) → (b || false) ≡ b
    or_false true = refl
    or_false false = refl

tells_rest : (part : ℕ → Bool) (f : ℕ → ℕ → Bool) (n x : Note) (ns xs : List Note) → ((c k : ℕ) → sounding_on c k (n ∷ ns) ≤ 1)
    → Tells part f (n ∷ ns) (x ∷ xs) → Tells part f ns xs
tells_rest part f n x ns xs one tells c k a b h = pick (is_at c k n) (sounds n) refl refl (one c k)
  where
    pick : (p s : Bool) → is_at c k n ≡ p → sounds n ≡ s → cond (p && s) 1 0 + sounding_on c k ns ≤ 1 → f c k ≡ (part c && ended_on c k ns xs)
    pick true true u v g = absurd (omega (arith, g, h))
    pick true false u v g =
        let none : (is_at c k n && sounds n) ≡ false = ap (λ b. is_at c k n && b) v ∙ and_false (is_at c k n) in
        tells c k a b (ap (λ b. cond b 1 0 + sounding_on c k ns) none ∙ (let e : 0 + sounding_on c k ns ≡ 1 = omega (arith, h) in e))
        ∙ (ap (λ b. part c && ((is_at c k n && (b && not (sounds x))) || ended_on c k ns xs)) v
        ∙ ap (λ b. part c && (b || ended_on c k ns xs)) (and_false (is_at c k n)))
      where
        and_false : (b : Bool) → (b && false) ≡ false
        and_false true = refl
        and_false false = refl
    pick false s u v g =
        tells c k a b (ap (λ b. cond (b && sounds n) 1 0 + sounding_on c k ns) u ∙ (let e : 0 + sounding_on c k ns ≡ 1 = omega (arith, h) in e))
        ∙ ap (λ b. part c && ((b && (sounds n && not (sounds x))) || ended_on c k ns xs)) u

fewer : (n : Note) (ns : List Note) → ((c k : ℕ) → sounding_on c k (n ∷ ns) ≤ 1) → (c k : ℕ) → sounding_on c k ns ≤ 1
fewer n ns one c k = let h = one c k in omega (arith, h)

pub are_told : (part : ℕ → Bool) (f : ℕ → ℕ → Bool) (ns xs : List Note) → ((c k : ℕ) → sounding_on c k ns ≤ 1) → Tells part f ns xs
    → AllByRecursion (HasLowKeys part) ns → AreTold part f ns xs
are_told part f [] xs one tells low = tt
are_told part f (n ∷ ns) [] one tells low = tt
are_told part f (n ∷ ns) (x ∷ xs) one tells low = (
  told_head part f n x ns xs (one n.channel n.key) tells low.0,
  are_told part f ns xs (fewer n ns one) (tells_rest part f n x ns xs one tells) low.1,
)

-- ---- as they are told

same_note : (z : ℕ) (a b : Note) (e : Option ℕ) → b.channel ≡ a.channel → b.key ≡ a.key → b.onset ≡ a.onset → b.velocity ≡ a.velocity → b.ended ≡ e
    → played_on z b ≡ record (played_on z a) { ended = e }
same_note z a b e c k t v d =
    ap (λ x. record (played_on z b) { part = record { port = z; channel = x } }) c
    ∙ (ap (λ x. record (played_on z b) { part = record { port = z; channel = a.channel }; key = x }) k
    ∙ (ap (λ x. record (played_on z b) { part = record { port = z; channel = a.channel }; key = a.key; onset = x }) t
    ∙ (ap (λ x. record (played_on z b) { part = record { port = z; channel = a.channel }; key = a.key; onset = a.onset; velocity = x }) v
    ∙ ap (λ x. record (played_on z a) { ended = x }) d)))

aged : (z t : ℕ) (f : ℕ → ℕ → Bool) (n x : Note) → Ages t n x → Fades n x → (sounds n ≡ true → f n.channel n.key ≡ not (sounds x))
    → played_on z x ≡ marked z f t (played_on z n)
aged z t f n x a g told = pick n.ended x.ended refl refl a.ended
  where
    pick : (e d : Option ℕ) → n.ended ≡ e → x.ended ≡ d → EndsBy t e d → played_on z x ≡ marked z f t (played_on z n)
    pick (Some e) d u v h =
        same_note z n x (Some e) a.channel a.key a.onset g.velocity (v ∙ h)
        ∙ (ap (λ y. record (played_on z n) { ended = y }) (sym u)
        ∙ sym (ap (λ b. cond b (record (played_on z n) { ended = Some t }) (played_on z n)) (never (nat_eq z z) (f n.channel n.key) (ap (λ y. not
        (is_some y)) u))))
      where
        never : (p q : Bool) {s : Bool} → s ≡ false → (p && (q && s)) ≡ false
        never true true w = w
        never true false w = refl
        never false q w = refl
    pick None None u v h =
        same_note z n x None a.channel a.key a.onset g.velocity v
        ∙ (ap (λ y. record (played_on z n) { ended = y }) (sym u)
        ∙ sym (ap (λ b. cond b (record (played_on z n) { ended = Some t }) (played_on z n)) (ap (λ b. nat_eq z z && (b && not (is_some n.ended)))
        (told (ap (λ y. not (is_some y)) u) ∙ ap (λ y. not (not (is_some y))) v) ∙ and_false (nat_eq z z))))
      where
        and_false : (b : Bool) → (b && false) ≡ false
        and_false true = refl
        and_false false = refl
    pick None (Some d) u v h =
        same_note z n x (Some t) a.channel a.key a.onset g.velocity (v ∙ ap (λ y. Some y) h)
        ∙ sym (ap (λ b. cond b (record (played_on z n) { ended = Some t }) (played_on z n))
        (ap (λ b. b && (f n.channel n.key && not (is_some n.ended))) (eq-eqb z z refl)
        ∙ (ap (λ b. b && not (is_some n.ended)) (told (ap (λ y. not (is_some y)) u) ∙ ap (λ y. not (not (is_some y))) v)
        ∙ ap (λ y. not (is_some y)) u)))

pub notes_next : (z t : ℕ) (part : ℕ → Bool) (f : ℕ → ℕ → Bool) (b ns xs : List Note) → Grows t b ns xs → AllFade (ns ++ b) xs → AreTold part f ns xs
    → map (played_on z) (filter (λ n. part n.channel) xs)
    ≡ map (marked z f t) (map (played_on z) (filter (λ n. part n.channel) ns)) ++ map (played_on z) (filter (λ n. part n.channel) b)
notes_next z t part f b [] xs g fade told = ap (λ ys. map (played_on z) (filter (λ n. part n.channel) ys)) g
notes_next z t part f b (n ∷ ns) [] g fade told = absurd g
notes_next z t part f b (n ∷ ns) (x ∷ xs) g fade told =
    ap (λ c. map (played_on z) (cond (part c) (x ∷ filter (λ n. part n.channel) xs) (filter (λ n. part n.channel) xs))) g.0.channel
    ∙ pick (part n.channel) refl (notes_next z t part f b ns xs g.1 fade.1 told.1)
  where
    pick : (p : Bool) → part n.channel ≡ p
        → map (played_on z) (filter (λ n. part n.channel) xs) ≡ map (marked z f t) (map (played_on z) (filter (λ n. part n.channel) ns)) ++ map
        (played_on z) (filter (λ n. part n.channel) b)
        → map (played_on z) (cond p (x ∷ filter (λ n. part n.channel) xs) (filter (λ n. part n.channel) xs))
        ≡ map (marked z f t) (map (played_on z) (cond p (n ∷ filter (λ n. part n.channel) ns) (filter (λ n. part n.channel) ns))) ++ map
        (played_on z) (filter (λ n. part n.channel) b)
    pick true is h =
        ap (λ y. y ∷ map (played_on z) (filter (λ n. part n.channel) xs)) (aged z t f n x g.0 fade.0 (told.0 is))
        ∙ ap (λ ys. marked z f t (played_on z n) ∷ ys) h
    pick false is h = h
