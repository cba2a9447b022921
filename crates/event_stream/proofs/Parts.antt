-- What is left of each track of a merge.
use Rattle.std.proofs.Common.{◌≡◌, ℕ, zero, suc, ◌+◌, ◌*◌, ◌%◌, ◌<◌, ◌≤◌, List, [], ◌∷◌, length, map, set, get_or, take, Some, None, refl, sym, ap, subst, ◌∙◌, arith}
use Rattle.std.specs.Prelude.{All, Contains}
use Rattle.std.specs.List.{AllByRecursion}
use Rattle.std.proofs.lemmas.List.{map-set, get_or-map, length-map}
use Rattle.std.proofs.lemmas.List.Elements.{recursion_from_All}
use Rattle.mt_base.specs.Midi.{Timed, MidiEvent, placed}
use Rattle.mt_base.specs.Valid.{IsValidEvent}
use Rattle.midi_model.specs.Merged.{InOrder, AreTracksOf, merged_tracks, first_tick, timed}
use Rattle.event_stream.specs.Keys.{key_of, keys_of, AreInOrder}
use Rattle.event_stream.specs.Merges.{IsPart, AreParts, untracked}
use Rattle.event_stream.proofs.Ordering.{FirstIsTaken, each_weaker}
use Rattle.event_stream.proofs.Taking.{takes, first_by_key, merged_empty}
use Rattle.event_stream.proofs.Dealing.{back_in_place, timed_placed}

-- ---- lists of lists

pub take_set : {X : Type 0} (n i : ℕ) (x : X) (xs : List X) → take n (set xs i x) ≡ set (take n xs) i x
take_set zero i x xs = refl
take_set (suc n) i x [] = refl
take_set (suc n) zero x (y ∷ xs) = refl
take_set (suc n) (suc i) x (y ∷ xs) = ap (λ l. y ∷ l) (take_set n i x xs)

-- ---- events and their tracks

same_placed : (n : ℕ) (es : List MidiEvent) → AllByRecursion (λ e. e.track ≡ n) es → map (placed n) (map timed es) ≡ es
same_placed n [] h = refl
same_placed n (e ∷ es) h = ap (λ x. x ∷ map (placed n) (map timed es)) (back_in_place n e h.0) ∙ ap (λ l. e ∷ l) (same_placed n es h.1)

pub parts_in_order : (n : ℕ) (parts : List (List MidiEvent)) → AreParts n parts → AreInOrder n (untracked parts)
parts_in_order n [] h = tt
parts_in_order n (es ∷ parts) h = (subst InOrder (sym (same_placed n es h.0.in_track)) h.0.in_order, parts_in_order (suc n) parts h.1)

without_first : (n : ℕ) (e : MidiEvent) (es : List MidiEvent) → IsPart n (e ∷ es) → IsPart n es
without_first n e es h = record { in_time = h.in_time.1; in_order = h.in_order.1; in_track = h.in_track.1 }

pub parts_without : (n i : ℕ) (e : MidiEvent) (es : List MidiEvent) (parts : List (List MidiEvent)) → get_or parts i [] ≡ e ∷ es → AreParts n parts → AreParts n (set parts i es)
parts_without n i e es [] head h = tt
parts_without n zero e es (fs ∷ parts) head h = (without_first n e es (subst (IsPart n) head h.0), h.1)
parts_without n (suc i) e es (fs ∷ parts) head h = (h.0, parts_without (suc n) i e es parts head h.1)

pub part_at : (n i t : ℕ) (parts : List (List MidiEvent)) → t ≡ n + i → AreParts n parts → IsPart t (get_or parts i [])
part_at n i t [] is h = record { in_time = tt; in_order = tt; in_track = tt }
part_at n zero t (es ∷ parts) is h = let e : n ≡ t = omega (arith, is) in subst (λ m. IsPart m es) e h.0
part_at n (suc i) t (es ∷ parts) is h = part_at (suc n) i t parts (omega (arith, is)) h.1

-- ---- keys

pub length_keys : (n : ℕ) (ts : List (List Timed)) → length (keys_of n ts) ≡ length ts
length_keys n [] = refl
length_keys n (es ∷ ts) = ap suc (length_keys (suc n) ts)

pub key_at : (n i t d : ℕ) (ts : List (List Timed)) → t ≡ n + i → i < length ts → get_or (keys_of n ts) i d ≡ key_of t (get_or ts i [])
key_at n i t d [] is lt = absurd (omega (arith, lt))
key_at n zero t d (es ∷ ts) is lt = let e : n ≡ t = omega (arith, is) in ap (λ m. key_of m es) e
key_at n (suc i) t d (es ∷ ts) is lt = key_at (suc n) i t d ts (omega (arith, is)) (omega (arith, lt))

pub keys_set : (n i t : ℕ) (es : List Timed) (ts : List (List Timed)) → t ≡ n + i → keys_of n (set ts i es) ≡ set (keys_of n ts) i (key_of t es)
keys_set n i t es [] is = refl
keys_set n zero t es (fs ∷ ts) is = let e : n ≡ t = omega (arith, is) in ap (λ m. key_of m es ∷ keys_of (suc n) ts) e
keys_set n (suc i) t es (fs ∷ ts) is = ap (λ l. key_of n fs ∷ l) (keys_set (suc n) i t es ts (omega (arith, is)))

none_some : {A : Type 0} (x : ℕ) → None ≡ Some x → A
none_some x e = absurd cc

same_some : (x y : ℕ) → Some x ≡ Some y → x ≡ y
same_some x y e = cc

pub key_some : (track tick : ℕ) (es : List MidiEvent) → first_tick es ≡ Some tick → key_of track (map timed es) ≡ tick * 65536 + track
key_some track tick [] h = none_some tick h
key_some track tick (e ∷ es) h = ap (λ t. t * 65536 + track) (same_some e.tick tick h)

pub key_none : (track : ℕ) (es : List MidiEvent) → first_tick es ≡ None → key_of track (map timed es) ≡ 18446744073709551615
key_none track [] h = refl
key_none track (e ∷ es) h = none_some e.tick (sym h)

-- ---- the least key

pub record Found (key t : ℕ) (parts : List (List MidiEvent)) : Type 0 where
  pub first : MidiEvent
  pub more : List MidiEvent
  pub within : t < length parts
  pub head : get_or parts t [] ≡ first ∷ more
  pub is_key : key ≡ first.tick * 65536 + t

found_at : (key k t : ℕ) (parts : List (List MidiEvent)) (es : List MidiEvent) → length parts ≤ 1024 → k < length parts → get_or parts k [] ≡ es → key ≡ key_of k (map timed es) → (key ≡ 18446744073709551615 → ⊥) → t ≡ key % 65536 → Found key t parts
found_at key k t parts [] few lt here is not same = absurd (not is)
found_at key k t parts (e ∷ es) few lt here is not same =
    let one : k ≡ t = omega (arith, is, few, lt, same) in
    record {
      first = e;
      more = es;
      within = subst (λ m. m < length parts) one lt;
      head = subst (λ m. get_or parts m [] ≡ e ∷ es) one here;
      is_key = is ∙ ap (λ m. e.tick * 65536 + m) one;
    }

pub found : (key t : ℕ) (numbers : List ℕ) (parts : List (List MidiEvent)) → numbers ≡ keys_of 0 (untracked parts) → length parts ≤ 1024 → Contains numbers key → (key ≡ 18446744073709551615 → ⊥) → t ≡ key % 65536 → Found key t parts
found key t numbers parts is few among not same =
    let c = subst (λ l. Contains l key) is among in
    let k = c.0 in
    let lt : k < length (untracked parts) = omega (arith, c.1, length_keys 0 (untracked parts)) in
    let lt2 : k < length parts = omega (arith, lt, length-map parts (map timed)) in
    found_at key k t parts (get_or parts k []) few lt2 refl
    (sym c.2 ∙ key_at 0 k k key (untracked parts) (omega arith) lt ∙ ap (key_of k) (get_or-map (map timed) parts k [] [] lt2)) not same

-- The merged order of what is left begins with the event of the least key, and goes on without it.
pub takes_found : FirstIsTaken → (key t : ℕ) (numbers : List ℕ) (parts : List (List MidiEvent)) → numbers ≡ keys_of 0 (untracked parts) → length parts ≤ 1024 → AreParts 0 parts → All (λ (k : ℕ). key ≤ k) numbers → (f : Found key t parts)
    → merged_tracks (untracked parts) ≡ f.first ∷ merged_tracks (untracked (set parts t f.more))
takes_found taken key t numbers parts is few h least f =
    let ts = untracked parts in
    let lt : t < length ts = omega (arith, f.within, length-map parts (map timed)) in
    let part = subst (IsPart t) f.head (part_at 0 t t parts (omega arith) h) in
    let here = back_in_place t f.first part.in_track.0 in
    let head : get_or ts t [] ≡ timed f.first ∷ map timed f.more = get_or-map (map timed) parts t [] [] f.within ∙ ap (map timed) f.head in
    let all = recursion_from_All _ (keys_of 0 ts) (subst (All (λ (k : ℕ). key ≤ k)) is least) in
    let low : AllByRecursion (λ (k : ℕ). f.first.tick * 65536 + t ≤ k) (keys_of 0 ts) = subst (λ n. AllByRecursion (λ (k : ℕ). n ≤ k) (keys_of 0 ts)) f.is_key all in
    let first = first_by_key (placed t (timed f.first)) 0 ts (omega (arith, few, length-map parts (map timed))) low in
    takes taken t (timed f.first) (map timed f.more) ts lt head first (parts_in_order 0 parts h)
    ∙ ap (λ e. e ∷ merged_tracks (set ts t (map timed f.more))) here
    ∙ ap (λ l. f.first ∷ merged_tracks l) (sym (map-set (map timed) parts t f.more))

all_empty : (n : ℕ) (parts : List (List MidiEvent)) → n + length parts ≤ 1024 → AreParts n parts → AllByRecursion (λ (k : ℕ). 18446744073709551615 ≤ k) (keys_of n (untracked parts)) → AllByRecursion (λ es. es ≡ []) (untracked parts)
all_empty n [] few h k = tt
all_empty n ([] ∷ parts) few h k = (refl, all_empty (suc n) parts (omega (arith, few)) h.1 k.1)
all_empty n ((e ∷ es) ∷ parts) few h k = absurd (omega (arith, h.0.in_time.0, k.0, few))

-- Where the least key is the greatest number, nothing is left.
pub none_found : (key : ℕ) (numbers : List ℕ) (parts : List (List MidiEvent)) → numbers ≡ keys_of 0 (untracked parts) → length parts ≤ 1024 → AreParts 0 parts → All (λ (k : ℕ). key ≤ k) numbers → key ≡ 18446744073709551615
    → merged_tracks (untracked parts) ≡ []
none_found key numbers parts is few h least end =
    let all = recursion_from_All _ (keys_of 0 (untracked parts)) (subst (All (λ (k : ℕ). 18446744073709551615 ≤ k)) is (subst (λ n. All (λ (k : ℕ). n ≤ k) numbers) end least)) in
    merged_empty (untracked parts) (all_empty 0 parts (omega (arith, few)) h all)

-- ---- the tracks of a file

abbrev pub placed_from : ℕ → List (List Timed) → List (List MidiEvent)
placed_from n [] = []
placed_from n (es ∷ ts) = map (placed n) es ∷ placed_from (suc n) ts

pub length_placed : (n : ℕ) (ts : List (List Timed)) → length (placed_from n ts) ≡ length ts
length_placed n [] = refl
length_placed n (es ∷ ts) = ap suc (length_placed (suc n) ts)

pub placed_at : (n i t : ℕ) (ts : List (List Timed)) → t ≡ n + i → get_or (placed_from n ts) i [] ≡ map (placed t) (get_or ts i [])
placed_at n i t [] is = refl
placed_at n zero t (es ∷ ts) is = let e : n ≡ t = omega (arith, is) in ap (λ m. map (placed m) es) e
placed_at n (suc i) t (es ∷ ts) is = placed_at (suc n) i t ts (omega (arith, is))

pub untracked_placed : (n : ℕ) (ts : List (List Timed)) → untracked (placed_from n ts) ≡ ts
untracked_placed n [] = refl
untracked_placed n (es ∷ ts) = ap (λ l. l ∷ untracked (placed_from (suc n) ts)) (timed_placed n es) ∙ ap (λ l. es ∷ l) (untracked_placed (suc n) ts)

pub parts_of_tracks : (n : ℕ) (ts : List (List Timed)) → AreTracksOf n ts → AreParts n (placed_from n ts)
parts_of_tracks n [] h = tt
parts_of_tracks n (es ∷ ts) h = (
  record {
    in_time = each_weaker _ _ (map (placed n) es) (λ e (v : IsValidEvent e). v.tick) h.0.valid;
    in_order = h.0.in_order;
    in_track = h.0.in_track;
  },
  parts_of_tracks (suc n) ts h.1,
)
