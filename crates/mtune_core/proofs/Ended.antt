-- How a call ends.
use Rattle.std.proofs.Common.{◌≡◌, ◌⊎◌, ℕ, List, Bool, true, false, ap, inl, inr}
use Rattle.mtune_files.specs.Counts.{one_say}
use Rattle.mtune_files.specs.Outside.{Outside, after_say, AfterFailedSay}
use Rattle.mtune_files.specs.declared.counts.Counts.{Counts}

pub clash : (b : Bool) → b ≡ true → b ≡ false → ⊥
clash true e f = absurd cc
clash false e f = absurd cc

-- what a say, which may fail, makes of the counts of failures
abbrev pub MaySay : Counts → Counts → Type 0
MaySay before now = (now ≡ before) ⊎ (now ≡ one_say before)

pub told_faults : (text : List ℕ) (before now : Outside) → (now ≡ after_say text before) ⊎ AfterFailedSay text before now
    → MaySay before.faults now.faults
told_faults text before now (inl e) = inl (ap (λ (o : Outside). o.faults) e)
told_faults text before now (inr f) = inr (ap (λ (o : Outside). o.faults) f.only)
