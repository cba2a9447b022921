-- The cursors of a merge, and a step of one of them.
use Rattle.std.proofs.Common.{◌≡◌, ℕ, ◌+◌, ◌%◌, ◌<◌, ◌≤◌, List, [], ◌∷◌, ◌++◌, length, map, set, get_or, take, Option, Some, None, sym, ap, subst, ◌∙◌, arith, get_or-set_same}
use Rattle.std.specs.Prelude.{All, Contains, IfSome, IfNone}
use Rattle.std.proofs.lemmas.List.{map-set, get_or-map, get_or-take, length-map, length-take, set-get_or, take_more, take_more_set, take_all}
use Rattle.mt_base.specs.declared.event.Event.{Event}
use Rattle.mt_base.specs.Midi.{Timed, MidiEvent, view}
use Rattle.midi_model.specs.Merged.{AreTracksOf, merged_tracks, timed}
use Rattle.smf_read.specs.declared.cursor.Cursor.{Cursor}
use Rattle.smf_read.specs.Remaining.{remaining, all_of}
use Rattle.event_stream.specs.Keys.{key_of, keys_of}
use Rattle.event_stream.specs.Merges.{AreParts, untracked, parts_left, whole_parts, merged_left, IsMerge}
use Rattle.event_stream.proofs.Ordering.{FirstIsTaken}
use Rattle.event_stream.proofs.Parts.{take_set, parts_without, length_keys, key_at, keys_set, Found, found, takes_found, none_found, placed_from, length_placed, untracked_placed, parts_of_tracks}

-- ---- loops over cursors

pub one_more : {X : Type 0} (xs ys : List X) (i : ℕ) (x d : X) → i < length xs → i < length ys → take i xs ≡ take i ys → x ≡ get_or ys i d → take (i + 1) (set xs i x) ≡ take (i + 1) ys
one_more xs ys i x d lt lt2 so_far here =
    take_more_set xs i x lt ∙ ap (λ l. l ++ x ∷ []) so_far ∙ ap (λ y. take i ys ++ y ∷ []) here ∙ sym (take_more ys i d lt2)

pub one_more_of : {X Y : Type 0} (f : X → Y) (xs : List X) (ys : List Y) (i : ℕ) (x : X) (d : Y) → i < length xs → i < length ys → take i (map f xs) ≡ take i ys → f x ≡ get_or ys i d
    → take (i + 1) (map f (set xs i x)) ≡ take (i + 1) ys
one_more_of f xs ys i x d lt lt2 so_far here =
    ap (take (i + 1)) (map-set f xs i x) ∙ one_more (map f xs) ys i (f x) d (omega (arith, lt, length-map xs f)) lt2 so_far here

pub same_of : {X Y : Type 0} (f : X → Y) (xs : List X) (i : ℕ) (x : X) (d : Y) → f x ≡ get_or (map f xs) i d → map f (set xs i x) ≡ map f xs
same_of f xs i x d here = map-set f xs i x ∙ ap (set (map f xs) i) here ∙ set-get_or (map f xs) i d

pub written_of : {X Y : Type 0} (f : X → Y) (xs : List X) (i : ℕ) (x : X) (d : Y) → i < length xs → get_or (map f (set xs i x)) i d ≡ f x
written_of f xs i x d lt = ap (λ l. get_or l i d) (map-set f xs i x) ∙ get_or-set_same (map f xs) i (f x) d (omega (arith, lt, length-map xs f))

-- ---- one step of a cursor

pub some_at : (r : Option Event) (a b old new : List MidiEvent) → IfSome r (λ e. a ≡ view e ∷ b) → old ≡ a → new ≡ b → IfSome r (λ e. old ≡ view e ∷ new)
some_at None a b old new h p q = tt
some_at (Some e) a b old new h p q = p ∙ h ∙ ap (λ l. view e ∷ l) (sym q)

-- ---- keys

pub length_left : (tracks : ℕ) (cursors : List Cursor) → tracks ≤ length cursors → length (parts_left tracks cursors) ≡ tracks
length_left tracks cursors le = omega (arith, length-take tracks (map remaining cursors), length-map cursors remaining, le)

pub count_keys : (tracks : ℕ) (cursors : List Cursor) → tracks ≤ length cursors → length (keys_of 0 (untracked (parts_left tracks cursors))) ≡ tracks
count_keys tracks cursors le = length_keys 0 (untracked (parts_left tracks cursors)) ∙ length-map (parts_left tracks cursors) (map timed) ∙ length_left tracks cursors le

pub key_in : (tracks i : ℕ) (cursors : List Cursor) → i < tracks → tracks ≤ length cursors
    → key_of i (map timed (get_or (map remaining cursors) i [])) ≡ get_or (keys_of 0 (untracked (parts_left tracks cursors))) i 0
key_in tracks i cursors lt le =
    let parts = parts_left tracks cursors in
    let low : i < length parts = omega (arith, lt, length_left tracks cursors le) in
    sym (key_at 0 i i 0 (untracked parts) (omega arith) (omega (arith, low, length-map parts (map timed)))
    ∙ ap (key_of i) (get_or-map (map timed) parts i [] [] low)
    ∙ ap (λ es. key_of i (map timed es)) (get_or-take tracks (map remaining cursors) i [] lt))

-- ---- a step of the merge

few_parts : (tracks : ℕ) (cursors : List Cursor) (numbers : List ℕ) (key : ℕ) → IsMerge tracks cursors numbers key → length (parts_left tracks cursors) ≡ tracks
few_parts tracks cursors numbers key m = length_left tracks cursors (omega (arith, m.few, m.size))

pub merge_found : (tracks : ℕ) (cursors : List Cursor) (numbers : List ℕ) (key t : ℕ) → IsMerge tracks cursors numbers key → t ≡ key % 65536 → (key ≡ 18446744073709551615 → ⊥) → Found key t (parts_left tracks cursors)
merge_found tracks cursors numbers key t m same not =
    found key t numbers (parts_left tracks cursors) m.keys (omega (arith, m.few, few_parts tracks cursors numbers key m)) m.among not same

pub found_in : (tracks : ℕ) (cursors : List Cursor) (numbers : List ℕ) (key t : ℕ) → IsMerge tracks cursors numbers key → Found key t (parts_left tracks cursors) → t < tracks
found_in tracks cursors numbers key t m f = omega (arith, f.within, few_parts tracks cursors numbers key m)

pub in_table : (tracks : ℕ) (cursors : List Cursor) (numbers : List ℕ) (key t : ℕ) → IsMerge tracks cursors numbers key → t < tracks → t < length cursors
in_table tracks cursors numbers key t m lt = omega (arith, lt, m.few, m.size)

pub in_keys : (tracks : ℕ) (cursors : List Cursor) (numbers : List ℕ) (key t : ℕ) → IsMerge tracks cursors numbers key → t < tracks → t < length numbers
in_keys tracks cursors numbers key t m lt = omega (arith, lt, ap length m.keys, count_keys tracks cursors (omega (arith, m.few, m.size)))

-- what the step of one cursor did
pub record Stepped (t : ℕ) (old new : List Cursor) (taken : Option Event) (tail : List MidiEvent) : Type 0 where
  pub some : IfSome taken (λ e. get_or (map remaining old) t [] ≡ view e ∷ tail)
  pub none : IfNone taken (get_or (map remaining old) t [] ≡ [])
  pub others : map remaining new ≡ set (map remaining old) t tail
  pub all : map all_of new ≡ map all_of old
  pub size : length new ≡ length old

head_at : (tracks t : ℕ) (cursors : List Cursor) → t < tracks → get_or (map remaining cursors) t [] ≡ get_or (parts_left tracks cursors) t []
head_at tracks t cursors lt = sym (get_or-take tracks (map remaining cursors) t [] lt)

same_tail : (e f : MidiEvent) (es fs : List MidiEvent) → e ∷ es ≡ f ∷ fs → (e ≡ f) × (es ≡ fs)
same_tail e f es fs h = (cc, cc)

tail_is : (taken : Option Event) (head tail : List MidiEvent) (first : MidiEvent) (more : List MidiEvent) → IfSome taken (λ e. head ≡ view e ∷ tail) → IfNone taken (head ≡ []) → head ≡ first ∷ more → more ≡ tail
tail_is None head tail first more some none is = absurd cc
tail_is (Some e) head tail first more some none is = (same_tail first (view e) more tail (sym is ∙ some)).1

parts_after : (tracks t : ℕ) (old new : List Cursor) (tail : List MidiEvent) → map remaining new ≡ set (map remaining old) t tail → parts_left tracks new ≡ set (parts_left tracks old) t tail
parts_after tracks t old new tail is = ap (take tracks) is ∙ take_set tracks t tail (map remaining old)

pub merge_next : (tracks t key number least : ℕ) (old new : List Cursor) (numbers numbers2 : List ℕ) (taken : Option Event) (tail : List MidiEvent) → IsMerge tracks old numbers key → Found key t (parts_left tracks old) → Stepped t old new taken tail
    → number ≡ key_of t (map timed tail) → numbers2 ≡ set numbers t number → All (λ (k : ℕ). least ≤ k) numbers2 → Contains numbers2 least → IsMerge tracks new numbers2 least
merge_next tracks t key number least old new numbers numbers2 taken tail m f s is put low among =
    let lt = found_in tracks old numbers key t m f in
    let parts = parts_left tracks old in
    let after = parts_after tracks t old new tail s.others in
    let head = head_at tracks t old lt ∙ f.head in
    let more = tail_is taken (get_or (map remaining old) t []) tail f.first f.more s.some s.none head in
    record {
      some = m.some;
      few = m.few;
      size = s.size ∙ m.size;
      keys = put ∙ ap (set numbers t) is ∙ ap (λ l. set l t (key_of t (map timed tail))) m.keys ∙ sym (keys_set 0 t t (map timed tail) (untracked parts) (omega arith))
          ∙ ap (keys_of 0) (sym (map-set (map timed) parts t tail)) ∙ ap (λ l. keys_of 0 (untracked l)) (sym after);
      least = low;
      among = among;
      left = subst (AreParts 0) (sym after) (parts_without 0 t f.first tail parts (f.head ∙ ap (λ l. f.first ∷ l) more) m.left);
      whole = subst (λ l. AreParts 0 (take tracks l)) (sym s.all) m.whole;
    }

next_of : (taken : Option Event) (head tail old new : List MidiEvent) (first : MidiEvent) (more : List MidiEvent) (go : List MidiEvent → List MidiEvent) → IfSome taken (λ e. head ≡ view e ∷ tail) → head ≡ first ∷ more
    → old ≡ first ∷ go more → new ≡ go tail → IfSome taken (λ e. old ≡ view e ∷ new)
next_of None head tail old new first more go some is o n = tt
next_of (Some e) head tail old new first more go some is o n =
    let both = same_tail first (view e) more tail (sym is ∙ some) in
    o ∙ ap (λ x. x ∷ go more) both.0 ∙ ap (λ l. view e ∷ go l) both.1 ∙ ap (λ l. view e ∷ l) (sym n)

pub rest_next : FirstIsTaken → (tracks t key : ℕ) (old new : List Cursor) (numbers : List ℕ) (taken : Option Event) (tail : List MidiEvent) → IsMerge tracks old numbers key → Found key t (parts_left tracks old) → Stepped t old new taken tail
    → IfSome taken (λ e. merged_left tracks old ≡ view e ∷ merged_left tracks new)
rest_next first_is tracks t key old new numbers taken tail m f s =
    let lt = found_in tracks old numbers key t m f in
    let parts = parts_left tracks old in
    let few : length parts ≤ 1024 = omega (arith, m.few, few_parts tracks old numbers key m) in
    next_of taken (get_or (map remaining old) t []) tail (merged_left tracks old) (merged_left tracks new) f.first f.more (λ es. merged_tracks (untracked (set parts t es))) s.some (head_at tracks t old lt ∙ f.head)
    (takes_found first_is key t numbers parts m.keys few m.left m.least f)
    (ap (λ l. merged_tracks (untracked l)) (parts_after tracks t old new tail s.others))

none_of : (P : Type 0) (taken : Option Event) (head : List MidiEvent) (first : MidiEvent) (more : List MidiEvent) → IfNone taken (head ≡ []) → head ≡ first ∷ more → IfNone taken P
none_of P None head first more none is = absurd cc
none_of P (Some e) head first more none is = tt

pub never_none : (P : Type 0) (tracks t key : ℕ) (old new : List Cursor) (numbers : List ℕ) (taken : Option Event) (tail : List MidiEvent) → IsMerge tracks old numbers key → Found key t (parts_left tracks old) → Stepped t old new taken tail
    → IfNone taken P
never_none P tracks t key old new numbers taken tail m f s =
    let lt = found_in tracks old numbers key t m f in
    none_of P taken (get_or (map remaining old) t []) f.first f.more s.none (head_at tracks t old lt ∙ f.head)

pub nothing_left : (tracks key : ℕ) (cursors : List Cursor) (numbers : List ℕ) → IsMerge tracks cursors numbers key → key ≡ 18446744073709551615 → merged_left tracks cursors ≡ []
nothing_left tracks key cursors numbers m end =
    none_found key numbers (parts_left tracks cursors) m.keys (omega (arith, m.few, few_parts tracks cursors numbers key m)) m.left m.least end

-- ---- from the start again

pub merge_again : (tracks key least : ℕ) (old new : List Cursor) (numbers numbers2 : List ℕ) → IsMerge tracks old numbers key → map remaining new ≡ map all_of old → map all_of new ≡ map all_of old → length new ≡ length old
    → numbers2 ≡ keys_of 0 (untracked (parts_left tracks new)) → All (λ (k : ℕ). least ≤ k) numbers2 → Contains numbers2 least → IsMerge tracks new numbers2 least
merge_again tracks key least old new numbers numbers2 m left all size keys low among = record {
  some = m.some;
  few = m.few;
  size = size ∙ m.size;
  keys = keys;
  least = low;
  among = among;
  left = subst (λ l. AreParts 0 (take tracks l)) (sym left) m.whole;
  whole = subst (λ l. AreParts 0 (take tracks l)) (sym all) m.whole;
}

-- ---- the start

pub all_placed : (tracks : ℕ) (ls : List (List MidiEvent)) (ts : List (List Timed)) → tracks ≡ length ts → take tracks ls ≡ take tracks (placed_from 0 ts) → take tracks ls ≡ placed_from 0 ts
all_placed tracks ls ts is h = h ∙ take_all tracks (placed_from 0 ts) (omega (arith, is, length_placed 0 ts))

pub merge_start : (tracks least : ℕ) (cursors : List Cursor) (numbers : List ℕ) (ts : List (List Timed)) → 0 < tracks → tracks ≤ 1024 → length cursors ≡ 1024 → parts_left tracks cursors ≡ placed_from 0 ts → whole_parts tracks cursors ≡ placed_from 0 ts → AreTracksOf 0 ts
    → numbers ≡ keys_of 0 (untracked (parts_left tracks cursors)) → All (λ (k : ℕ). least ≤ k) numbers → Contains numbers least → IsMerge tracks cursors numbers least
merge_start tracks least cursors numbers ts some few size left whole are keys low among = record {
  some = some;
  few = few;
  size = size;
  keys = keys;
  least = low;
  among = among;
  left = subst (AreParts 0) (sym left) (parts_of_tracks 0 ts are);
  whole = subst (AreParts 0) (sym whole) (parts_of_tracks 0 ts are);
}

pub merged_start : (parts : List (List MidiEvent)) (ts : List (List Timed)) → parts ≡ placed_from 0 ts → merged_tracks (untracked parts) ≡ merged_tracks ts
merged_start parts ts is = ap (λ l. merged_tracks (untracked l)) is ∙ ap merged_tracks (untracked_placed 0 ts)
