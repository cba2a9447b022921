-- A port that gets its number.
use Rattle.std.proofs.Common.{◌≡◌, ◌≤◌, ◌<◌, ℕ, zero, suc, List, [], ◌∷◌, Bool, true, false, cond, ◌&&◌, nat_le, refl, ap, arith, length, take, drop, set, slice_index_or}
use Rattle.std.specs.List.{AllByRecursion}
use Rattle.std.proofs.lemmas.Bool.{and_parts, and_from, leb-true, le-leb}
use Rattle.lifetimes.specs.declared.port.Port.{Port}
use Rattle.lifetimes.specs.Port.{all_kept, all_counted, all_placed}
use Rattle.lifetimes.specs.Steps.{numbered_at}
use Rattle.receiver.specs.Stands.{begun_in}

abbrev pub renumbered : Port → ℕ → Port
renumbered x z = record x { number = z }

pub as_numbered : (ports : List Port) (i : ℕ) (d : Port) (z : ℕ) → set ports i (renumbered (slice_index_or ports i d) z) ≡ numbered_at ports i z
as_numbered [] i d z = refl
as_numbered (p ∷ ports) zero d z = refl
as_numbered (p ∷ ports) (suc i) d z = ap (λ ps. p ∷ ps) (as_numbered ports i d z)

pub kept_numbered : (ports : List Port) (i z : ℕ) → all_kept (numbered_at ports i z) ≡ all_kept ports
kept_numbered [] i z = refl
kept_numbered (p ∷ ports) zero z = refl
kept_numbered (p ∷ ports) (suc i) z = ap (λ b. all_placed p.parts && b) (kept_numbered ports i z)

pub counted_numbered : (n : ℕ) (ports : List Port) (i z : ℕ) → all_counted n (numbered_at ports i z) ≡ all_counted n ports
counted_numbered n [] i z = refl
counted_numbered n (p ∷ ports) zero z = refl
counted_numbered n (p ∷ ports) (suc i) z = ap (λ b. nat_le (begun_in p.player) n && b) (counted_numbered n ports i z)

-- ---- what is always so of all ports, of one of them

pub kept_at : (ports : List Port) (i : ℕ) (d : Port) → i < length ports → all_kept ports ≡ true → all_placed (slice_index_or ports i d).parts ≡ true
kept_at [] i d l h = absurd (omega (arith, l))
kept_at (p ∷ ports) zero d l h = (and_parts (all_placed p.parts) (all_kept ports) h).0
kept_at (p ∷ ports) (suc i) d l h = kept_at ports i d (omega (arith, l)) (and_parts (all_placed p.parts) (all_kept ports) h).1

pub kept_set : (ports : List Port) (i : ℕ) (new : Port) → all_placed new.parts ≡ true → all_kept ports ≡ true → all_kept (set ports i new) ≡ true
kept_set [] i new n h = h
kept_set (p ∷ ports) zero new n h = and_from (all_placed new.parts) (all_kept ports) n (and_parts (all_placed p.parts) (all_kept ports) h).1
kept_set (p ∷ ports) (suc i) new n h =
    let two = and_parts (all_placed p.parts) (all_kept ports) h in
    and_from (all_placed p.parts) (all_kept (set ports i new)) two.0 (kept_set ports i new n two.1)

pub counted_at : (n : ℕ) (ports : List Port) (i : ℕ) (d : Port) → i < length ports → all_counted n ports ≡ true
    → begun_in (slice_index_or ports i d).player ≤ n
counted_at n [] i d l h = absurd (omega (arith, l))
counted_at n (p ∷ ports) zero d l h = leb-true (begun_in p.player) n (and_parts (nat_le (begun_in p.player) n) (all_counted n ports) h).0
counted_at n (p ∷ ports) (suc i) d l h =
    counted_at n ports i d (omega (arith, l)) (and_parts (nat_le (begun_in p.player) n) (all_counted n ports) h).1

pub counted_set : (n : ℕ) (ports : List Port) (i : ℕ) (new : Port) → begun_in new.player ≤ n → all_counted n ports ≡ true
    → all_counted n (set ports i new) ≡ true
counted_set n [] i new m h = h
counted_set n (p ∷ ports) zero new m h =
    and_from (nat_le (begun_in new.player) n) (all_counted n ports) (le-leb (begun_in new.player) n m)
    (and_parts (nat_le (begun_in p.player) n) (all_counted n ports) h).1
counted_set n (p ∷ ports) (suc i) new m h =
    let two = and_parts (nat_le (begun_in p.player) n) (all_counted n ports) h in
    and_from (nat_le (begun_in p.player) n) (all_counted n (set ports i new)) two.0 (counted_set n ports i new m two.1)

pub counted_more : (n m : ℕ) (ports : List Port) → n ≤ m → all_counted n ports ≡ true → all_counted m ports ≡ true
counted_more n m [] l h = h
counted_more n m (p ∷ ports) l h =
    let two = and_parts (nat_le (begun_in p.player) n) (all_counted n ports) h in
    let low = leb-true (begun_in p.player) n two.0 in
    and_from (nat_le (begun_in p.player) m) (all_counted m ports) (le-leb (begun_in p.player) m (omega (arith, l, low)))
    (counted_more n m ports l two.1)

-- ---- a port at a place, but for its number

numbered_there : (P : Port → Type 0) → ((p : Port) (z : ℕ) → P p → P (renumbered p z)) → (ports : List Port) (i j z : ℕ)
    → AllByRecursion P (take 1 (drop i ports)) → AllByRecursion P (take 1 (drop i (numbered_at ports j z)))
numbered_there P f [] i j z h = h
numbered_there P f (p ∷ ports) zero zero z h = (f p z h.0, tt)
numbered_there P f (p ∷ ports) zero (suc j) z h = (h.0, tt)
numbered_there P f (p ∷ ports) (suc i) zero z h = h
numbered_there P f (p ∷ ports) (suc i) (suc j) z h = numbered_there P f ports i j z h

pub opened_there : (P : Port → Type 0) → ((p : Port) (z : ℕ) → P p → P (renumbered p z)) → (b : Bool) (ports : List Port) (i j z : ℕ)
    → AllByRecursion P (take 1 (drop i ports)) → AllByRecursion P (take 1 (drop i (cond b (numbered_at ports j z) ports)))
opened_there P f true ports i j z h = numbered_there P f ports i j z h
opened_there P f false ports i j z h = h

-- some port
pub some_port : (ports : List Port) → 0 < length ports → Port
some_port [] l = absurd (omega (arith, l))
some_port (p ∷ ports) l = p
