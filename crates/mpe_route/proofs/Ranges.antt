-- The ranges of a zone's members, one after the other.
use Rattle.std.proofs.Common.{◌≡◌, ◌<◌, ◌≤◌, ◌+◌, ◌-◌, ◌*◌, ◌++◌, ℕ, zero, suc, Bool, true, false, cond, nat_eq, [], length, refl, ap, ◌∙◌, arith, length-append}
use Rattle.midi_model.specs.Bring.{registered}
use Rattle.channel_model.specs.MpeOutput.{Zone, member_at, members_from, range_each, zone_setup, master_of}

pub each_from : (z : Zone) (range n m : ℕ) → n < m
    → range_each range (members_from z n (m - n)) ≡ registered (member_at z n) 0 range ++ range_each range (members_from z (n + 1) (m - (n + 1)))
each_from z range n m low =
    let one : m - n ≡ suc (m - (n + 1)) = omega (arith, low) in
    ap (λ k. range_each range (members_from z n k)) one

-- what sets a zone is short
ranges_length : (z : Zone) (range n i : ℕ) → length (range_each range (members_from z i n)) ≡ 5 * n
ranges_length z range zero i = refl
ranges_length z range (suc n) i =
    let rest = ranges_length z range n (i + 1) in
    length-append (registered (member_at z i) 0 range) (range_each range (members_from z (i + 1) n)) ∙ omega (arith, rest)

pub setup_length : (range : ℕ) (z : Zone) → length (zone_setup range z) ≤ 5 + 5 * z.members
setup_length range z = pick (nat_eq range 48)
  where
    pick : (b : Bool) → length (registered (master_of z) 6 z.members ++ cond b [] (range_each range (members_from z 0 z.members))) ≤ 5 + 5 * z.members
    pick true = omega arith
    pick false =
        let most = ranges_length z range z.members 0 in
        omega (arith, length-append (registered (master_of z) 6 z.members) (range_each range (members_from z 0 z.members)), most)
