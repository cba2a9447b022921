-- The key pressures that an event changes, over all channels that a part holds: at most one for each note of the part that sounds, and at
-- most 128 notes of a part sound.
use Rattle.std.proofs.Common.{◌≡◌, ◌≢◌, ◌<◌, ◌≤◌, ◌+◌, ◌&&◌, ℕ, Bool, true, false, cond, List, [], ◌∷◌, Option, Some, None, refl, ap, sym, ◌∙◌, subst, map, filter, length, nat_eq, eqb, arith, inl, inr}
use Rattle.std.specs.List.{AllByRecursion, IsDistinct, list_any}
use Rattle.std.proofs.lemmas.Bool.{cases_Bool, cond_both, both_ways, eqb-true, ne_eqb, and_parts, or_cases, false_from_ne_true, and_from}
use Rattle.std.proofs.lemmas.List.{length-map}
use Rattle.std.proofs.lemmas.Map.Steps.{length-le_from_distinct_below}
use Rattle.retune_model.specs.Pairs.{Pair}
use Rattle.midi_model.specs.Notes.{Note, sounds, Fades}
use Rattle.midi_model.specs.MusicLaws.{AllFade}
use Rattle.retune_model.specs.Table.{BendTarget}
use Rattle.retune_model.specs.Options.{Options}
use Rattle.retune_model.specs.Faults.{Targets, is_part, int_eq, target_of}
use Rattle.channel_model.specs.Choice.{wanted_keys, key_set, has_pair}
use Rattle.channel_model.specs.BendOutput.{pair_with, Held}
use Rattle.state_laws.specs.Counts.{differing}
use Rattle.bend_laws.specs.Follows.{AreTwo, AreApart}
use Rattle.bend_laws.proofs.Equal.{same_int}
use Rattle.bend_laws.proofs.Keys.{same_aim}
use Rattle.bend_laws.proofs.Lists.{all_weaker}
use Rattle.bend_laws.proofs.Holding.{OnOwnChannels}
use Rattle.bend_laws.proofs.Wellness.{KeysLow}
use Rattle.bend_laws.proofs.Differing.{differing_itself, differing_first, differing_both}

-- ---- different numbers are few

any_below : (n q : ℕ) (xs : List ℕ) → AllByRecursion (λ x. x < n) xs → list_any (eqb q) xs ≡ true → q < n
any_below n q [] h m = absurd (both_ways false refl m)
any_below n q (x ∷ xs) h m = elim (or_cases (eqb q x) (list_any (eqb q) xs) m) [
  | inl e ↦ subst (λ y. y < n) (sym (eqb-true q x e)) h.0
  | inr e ↦ any_below n q xs h.1 e
]

few_numbers : (n : ℕ) (xs : List ℕ) → IsDistinct eqb xs → AllByRecursion (λ x. x < n) xs → length xs ≤ n
few_numbers n xs d h = length-le_from_distinct_below xs n d (λ q m. any_below n q xs h m)

-- ---- the channels that a part holds are sixteen at most

abbrev channels_of : List Held → List ℕ
channels_of hs = map (λ (h : Held). h.channel) hs

channels_below : (hs : List Held) → AllByRecursion (λ h. h.channel < 16) hs → AllByRecursion (λ c. c < 16) (channels_of hs)
channels_below [] h = tt
channels_below (g ∷ gs) h = (h.0, channels_below gs h.1)

channels_other : (c : ℕ) (hs : List Held) → AllByRecursion (λ h. h.channel ≢ c) hs → AllByRecursion (λ d. eqb c d ≡ false) (channels_of hs)
channels_other c [] h = tt
channels_other c (g ∷ gs) h = (ne_eqb c g.channel (λ e. h.0 (sym e)), channels_other c gs h.1)

channels_distinct : (hs : List Held) → OnOwnChannels hs → IsDistinct eqb (channels_of hs)
unfolding IsDistinct
channels_distinct [] h = tt
channels_distinct (g ∷ gs) h = (channels_other g.channel gs h.0, channels_distinct gs h.1)

pub held_few : (hs : List Held) → OnOwnChannels hs → AllByRecursion (λ h. h.channel < 16) hs → length hs ≤ 16
held_few hs own below =
    let few = few_numbers 16 (channels_of hs) (channels_distinct hs own) (channels_below hs below) in
    omega (arith, few, length-map hs (λ (h : Held). h.channel))

-- ---- the notes of a part that sound are 128 at most

abbrev is_heard : Options → ℕ → Note → Bool
is_heard o c n = (is_part o n.channel && sounds n) && nat_eq n.channel c

abbrev keys_heard : Options → ℕ → List Note → List ℕ
keys_heard o c ns = map (λ (n : Note). n.key) (filter (λ n. is_heard o c n) ns)

heard_low : (o : Options) (c : ℕ) (ns : List Note) → KeysLow ns → AllByRecursion (λ k. k < 128) (keys_heard o c ns)
heard_low o c [] h = tt
heard_low o c (n ∷ ns) h =
    let rest : List Note = filter (λ x. is_heard o c x) ns in
    cond_both (is_heard o c n) (n ∷ rest) rest (λ xs. AllByRecursion (λ k. k < 128) (map (λ (x : Note). x.key) xs))
    (λ e. (h.0, heard_low o c ns h.1)) (λ e. heard_low o c ns h.1)

heard_other : (o : Options) (table : Targets) (c : ℕ) (a : Note) (ns : List Note) → is_heard o c a ≡ true → AllByRecursion (AreTwo o table a) ns →
    AllByRecursion (λ k. eqb a.key k ≡ false) (keys_heard o c ns)
heard_other o table c a [] e h = tt
heard_other o table c a (n ∷ ns) e h =
    let rest : List Note = filter (λ x. is_heard o c x) ns in
    let later = heard_other o table c a ns e h.1 in
    let here = and_parts (is_part o a.channel && sounds a) (nat_eq a.channel c) e in
    let part = and_parts (is_part o a.channel) (sounds a) here.0 in
    cond_both (is_heard o c n) (n ∷ rest) rest (λ xs. AllByRecursion (λ k. eqb a.key k ≡ false) (map (λ (x : Note). x.key) xs))
    (λ f. (
      (let there = and_parts (is_part o n.channel && sounds n) (nat_eq n.channel c) f in
          h.0.key part.1 (and_parts (is_part o n.channel) (sounds n) there.0).1 part.0
          (eqb-true a.channel c here.1 ∙ sym (eqb-true n.channel c there.1))),
      later,
    )) (λ f. later)

heard_distinct : (o : Options) (table : Targets) (c : ℕ) (ns : List Note) → AreApart o table ns → IsDistinct eqb (keys_heard o c ns)
unfolding IsDistinct
heard_distinct o table c [] h = tt
heard_distinct o table c (n ∷ ns) h =
    let rest : List Note = filter (λ x. is_heard o c x) ns in
    let later : IsDistinct eqb (keys_heard o c ns) = heard_distinct o table c ns h.1 in
    cond_both (is_heard o c n) (n ∷ rest) rest (λ xs. IsDistinct eqb (map (λ (x : Note). x.key) xs))
    (λ e. (heard_other o table c n ns e h.0, later)) (λ e. later)

heard_few : (o : Options) (table : Targets) (c : ℕ) (ns : List Note) → AreApart o table ns → KeysLow ns → length (keys_heard o c ns) ≤ 128
heard_few o table c ns apart low = few_numbers 128 (keys_heard o c ns) (heard_distinct o table c ns apart) (heard_low o c ns low)

-- ---- a note is of one pair that the part holds

abbrev one_if : Bool → ℕ
one_if b = cond b 1 0

-- how many of them have the note
abbrev hits : Options → Targets → List Held → Note → ℕ
hits o table [] n = 0
hits o table (h ∷ hs) n = one_if (has_pair h.pair n (target_of o table n)) + hits o table hs n

pair_of_note : (z : ℕ) (p : Pair) (n : Note) (t : BendTarget) → p.part.port ≡ z → has_pair p n (Some t) ≡ true → p ≡ pair_with z n.channel t
pair_of_note z p n t port h =
    let e = and_parts (nat_eq n.channel p.part.channel) (int_eq t.steps p.steps) h in
    let c : n.channel ≡ p.part.channel = eqb-true n.channel p.part.channel e.0 in
    let s : t.steps ≡ p.steps = same_int t.steps p.steps e.1 in
    ap (λ x. let q : Pair = record { part = record { port = x; channel = p.part.channel }; steps = p.steps } in q) port
    ∙ ap (λ x. let q : Pair = record { part = record { port = z; channel = x }; steps = p.steps } in q) (sym c)
    ∙ ap (λ x. let q : Pair = record { part = record { port = z; channel = n.channel }; steps = x } in q) (sym s)

-- each is of the port, on the channel of its pair
abbrev pub AreHeldOn : ℕ → (Pair → ℕ) → ℕ → List Held → Type 0
AreHeldOn z place c hs = AllByRecursion (λ (h : Held). (h.pair.part.port ≡ z) × ((h.pair.part.channel ≡ c) × (h.channel ≡ place h.pair))) hs

missed : (o : Options) (table : Targets) (hs : List Held) (n : Note) → AllByRecursion (λ h. has_pair h.pair n (target_of o table n) ≡ false) hs →
    hits o table hs n ≡ 0
missed o table [] n h = refl
missed o table (g ∷ gs) n h =
    let rest = missed o table gs n h.1 in
    let none : one_if (has_pair g.pair n (target_of o table n)) ≡ 0 = ap one_if h.0 in
    omega (arith, rest, none)

hits_one : (z : ℕ) (o : Options) (table : Targets) (place : Pair → ℕ) (c : ℕ) (hs : List Held) (n : Note) → OnOwnChannels hs →
    AreHeldOn z place c hs → hits o table hs n ≤ 1
hits_one z o table place c [] n own on = omega arith
hits_one z o table place c (g ∷ gs) n own on = elim (cases_Bool (has_pair g.pair n (target_of o table n))) [
  | inl e ↦ (let rest : hits o table gs n ≡ 0 = missed o table gs n (others (target_of o table n) e gs own.0 on.1) in
      let one : one_if (has_pair g.pair n (target_of o table n)) ≡ 1 = ap one_if e in
      omega (arith, rest, one))
  | inr e ↦ (let none : one_if (has_pair g.pair n (target_of o table n)) ≡ 0 = ap one_if e in
      omega (arith, none, hits_one z o table place c gs n own.1 on.1))
]
  where
    others : (x : Option BendTarget) → has_pair g.pair n x ≡ true → (hs : List Held) → AllByRecursion (λ h. h.channel ≢ g.channel) hs →
        AreHeldOn z place c hs → AllByRecursion (λ h. has_pair h.pair n x ≡ false) hs
    others x e [] d k = tt
    others None e (h ∷ hs) d k = absurd (both_ways false refl e)
    others (Some t) e (h ∷ hs) d k = (
      false_from_ne_true (has_pair h.pair n (Some t)) (λ f. d.0 (k.0.1.1 ∙ ap place (pair_of_note z h.pair n t k.0.0 f
          ∙ sym (pair_of_note z g.pair n t on.0.0 e)) ∙ sym on.0.1.1)),
      others (Some t) e hs d.1 k.1,
    )

hits_none : (z : ℕ) (o : Options) (table : Targets) (place : Pair → ℕ) (c : ℕ) (hs : List Held) (n : Note) → nat_eq n.channel c ≡ false →
    AreHeldOn z place c hs → hits o table hs n ≡ 0
hits_none z o table place c hs n other on =
    missed o table hs n (all_weaker (λ (h : Held). (h.pair.part.port ≡ z) × ((h.pair.part.channel ≡ c) × (h.channel ≡ place h.pair)))
    (λ h. has_pair h.pair n (target_of o table n) ≡ false)
    (λ h k. miss h.pair (target_of o table n) k.1.0) hs on)
  where
    miss : (p : Pair) (x : Option BendTarget) → p.part.channel ≡ c → has_pair p n x ≡ false
    miss p None e = refl
    miss p (Some t) e = ap (λ d. nat_eq n.channel d && int_eq t.steps p.steps) e ∙ ap (λ b. b && int_eq t.steps p.steps) other

-- ---- one note more

abbrev is_sounding : Options → Note → Bool
is_sounding o n = is_part o n.channel && sounds n

abbrev pub keys_of : Options → Targets → Pair → List Note → List ℕ
keys_of o table p ns = wanted_keys o table p (filter (λ n. is_sounding o n) ns)

same_pair_of : (p : Pair) (n x : Note) (t : Option BendTarget) → x.channel ≡ n.channel → has_pair p x t ≡ has_pair p n t
same_pair_of p n x None h = refl
same_pair_of p n x (Some t) h = ap (λ c. nat_eq c p.part.channel && int_eq t.steps p.steps) h

both_keys : (hit : Bool) (v w : List ℕ) (t : Option BendTarget) (a b : ℕ) →
    differing (cond hit (key_set v t a) v) (cond hit (key_set w t b) w) ≤ differing v w + one_if hit
both_keys true v w None a b = omega arith
both_keys true v w (Some t) a b = omega (arith, differing_both v w t.key a b)
both_keys false v w t a b = omega arith

first_keys : (hit : Bool) (v w : List ℕ) (t : Option BendTarget) (a : ℕ) → differing (cond hit (key_set v t a) v) w ≤ differing v w + one_if hit
first_keys true v w None a = omega arith
first_keys true v w (Some t) a = omega (arith, differing_first v w t.key a)
first_keys false v w t a = omega arith

one_more : (o : Options) (table : Targets) (p : Pair) (n x : Note) (ns xs : List Note) → Fades n x →
    differing (keys_of o table p (n ∷ ns)) (keys_of o table p (x ∷ xs))
    ≤ differing (keys_of o table p ns) (keys_of o table p xs) + cond (is_sounding o n) (one_if (has_pair p n (target_of o table n))) 0
one_more o table p n x ns xs f = pick (is_sounding o n) refl
  where
    fs : List Note
    fs = filter (λ y. is_sounding o y) ns

    gs : List Note
    gs = filter (λ y. is_sounding o y) xs

    v : List ℕ
    v = wanted_keys o table p fs

    w : List ℕ
    w = wanted_keys o table p gs

    hit : Bool
    hit = has_pair p n (target_of o table n)

    -- the note after it has the same pair
    after : wanted_keys o table p (x ∷ gs) ≡ cond hit (key_set w (target_of o table n) x.pressure) w
    after = ap (λ t. cond (has_pair p x t) (key_set w t x.pressure) w) (same_aim o table n x f)
        ∙ ap (λ b. cond b (key_set w (target_of o table n) x.pressure) w) (same_pair_of p n x (target_of o table n) f.channel)

    fades : is_sounding o x ≡ true → is_sounding o n ≡ true
    fades e = let both = and_parts (is_part o x.channel) (sounds x) e in
        and_from (is_part o n.channel) (sounds n) (ap (is_part o) (sym f.channel) ∙ both.0) (f.sounds both.1)

    pick : (b : Bool) → is_sounding o n ≡ b → differing (wanted_keys o table p (cond b (n ∷ fs) fs))
        (wanted_keys o table p (cond (is_sounding o x) (x ∷ gs) gs)) ≤ differing v w + cond b (one_if hit) 0
    pick true e = cond_both (is_sounding o x) (x ∷ gs) gs
        (λ zs. differing (wanted_keys o table p (n ∷ fs)) (wanted_keys o table p zs) ≤ differing v w + one_if hit)
        (λ g. subst (λ ks. differing (wanted_keys o table p (n ∷ fs)) ks ≤ differing v w + one_if hit) (sym after)
        (both_keys hit v w (target_of o table n) n.pressure x.pressure))
        (λ g. first_keys hit v w (target_of o table n) n.pressure)
    pick false e = cond_both (is_sounding o x) (x ∷ gs) gs (λ zs. differing v (wanted_keys o table p zs) ≤ differing v w + 0)
        (λ g. absurd (both_ways (is_sounding o n) e (fades g))) (λ g. omega arith)

-- ---- all of them

-- at how many keys the pressures that the held pairs need differ
abbrev pub keys_differ : Options → Targets → (before after : List Note) → List Held → ℕ
keys_differ o table before after [] = 0
keys_differ o table before after (h ∷ hs) =
    differing (keys_of o table h.pair before) (keys_of o table h.pair after) + keys_differ o table before after hs

none_differ : (o : Options) (table : Targets) (hs : List Held) → keys_differ o table [] [] hs ≡ 0
none_differ o table [] = refl
none_differ o table (h ∷ hs) = omega (arith, none_differ o table hs, differing_itself (keys_of o table h.pair []))

note_differs : (o : Options) (table : Targets) (hs : List Held) (n x : Note) (ns xs : List Note) → Fades n x →
    keys_differ o table (n ∷ ns) (x ∷ xs) hs ≤ keys_differ o table ns xs hs + cond (is_sounding o n) (hits o table hs n) 0
note_differs o table [] n x ns xs f = omega arith
note_differs o table (h ∷ hs) n x ns xs f =
    let one = one_more o table h.pair n x ns xs f in
    let rest = note_differs o table hs n x ns xs f in
    both (is_sounding o n) (one_if (has_pair h.pair n (target_of o table n))) (hits o table hs n)
    (differing (keys_of o table h.pair (n ∷ ns)) (keys_of o table h.pair (x ∷ xs)))
    (differing (keys_of o table h.pair ns) (keys_of o table h.pair xs))
    (keys_differ o table (n ∷ ns) (x ∷ xs) hs) (keys_differ o table ns xs hs) one rest
  where
    both : (b : Bool) (i j a c d e : ℕ) → a ≤ c + cond b i 0 → d ≤ e + cond b j 0 → a + d ≤ c + e + cond b (i + j) 0
    both true i j a c d e h g = omega (arith, h, g)
    both false i j a c d e h g = omega (arith, h, g)

notes_differ : (z : ℕ) (o : Options) (table : Targets) (place : Pair → ℕ) (c : ℕ) (hs : List Held) → OnOwnChannels hs → AreHeldOn z place c hs →
    (ns xs : List Note) → AllFade ns xs → keys_differ o table ns xs hs ≤ length (keys_heard o c ns)
notes_differ z o table place c hs own on [] [] f = omega (arith, none_differ o table hs)
notes_differ z o table place c hs own on [] (x ∷ xs) f = absurd f
notes_differ z o table place c hs own on (n ∷ ns) [] f = absurd f
notes_differ z o table place c hs own on (n ∷ ns) (x ∷ xs) f =
    pick (is_sounding o n) (nat_eq n.channel c) refl (note_differs o table hs n x ns xs f.0)
    (notes_differ z o table place c hs own on ns xs f.1) (hits_one z o table place c hs n own on)
  where
    kept : List Note
    kept = filter (λ y. is_heard o c y) ns

    pick : (s d : Bool) → nat_eq n.channel c ≡ d →
        keys_differ o table (n ∷ ns) (x ∷ xs) hs ≤ keys_differ o table ns xs hs + cond s (hits o table hs n) 0 →
        keys_differ o table ns xs hs ≤ length (map (λ (y : Note). y.key) kept) → hits o table hs n ≤ 1 →
        keys_differ o table (n ∷ ns) (x ∷ xs) hs ≤ length (map (λ (y : Note). y.key) (cond (s && d) (n ∷ kept) kept))
    pick true true e h g one = omega (arith, h, g, one)
    pick true false e h g one = let none = hits_none z o table place c hs n e on in omega (arith, h, g, none)
    pick false d e h g one = omega (arith, h, g)

-- The pressures of 128 keys at most differ, over all channels that the part holds together.
pub keys_few : (z : ℕ) (o : Options) (table : Targets) (place : Pair → ℕ) (c : ℕ) (hs : List Held) → OnOwnChannels hs → AreHeldOn z place c hs →
    (ns xs : List Note) → AllFade ns xs → AreApart o table ns → KeysLow ns → keys_differ o table ns xs hs ≤ 128
keys_few z o table place c hs own on ns xs f apart low =
    omega (arith, notes_differ z o table place c hs own on ns xs f, heard_few o table c ns apart low)
