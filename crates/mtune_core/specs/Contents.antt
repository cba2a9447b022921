-- The contents that names have. What is held is told or not: where it isn't, some content is meant that was loaded.
use Rattle.std.specs.Prelude.{ℕ, ◌≡◌, ◌≤◌, ◌⊎◌, List, length}
use Rattle.mtune_files.specs.declared.which.Which.{Which}
use Rattle.mtune_files.specs.Outside.{Outside, IsHeld, IsLongerThan, IsWithin, MayFail, after_load, after_failed_load}
use Rattle.mtune_core.specs.declared.outcome.Fault.{Fault}
use Rattle.mtune_core.specs.declared.outcome.Fault.TheVariants.{Load, TooLong, Memory}

-- a content that a name has, of at most so many bytes
pub record Content (o : Outside) (name : List ℕ) (limit : ℕ) : Type 0 where
  pub bytes : List ℕ
  pub held : IsHeld o name bytes
  pub short : length bytes ≤ limit

-- it is such a content
abbrev pub At : Outside → List ℕ → ℕ → (List ℕ → Type 0) → Type 0
At o name limit P = (content : Content o name limit) × P content.bytes

-- The load of a content ended so: it failed, as it may where the name isn't held or the outside isn't steady; what is held is
-- longer than the limit; or there was no memory for what is held and isn't longer.
abbrev pub LoadCause : Which → List ℕ → ℕ → Outside → Outside → Fault → Type 0
LoadCause which name limit before now (Load w) = (w ≡ which) × MayFail before name
    × (now ≡ after_failed_load which before)
LoadCause which name limit before now (TooLong w) = (w ≡ which) × IsLongerThan before name limit
    × (now ≡ after_load which before)
LoadCause which name limit before now Memory = IsWithin before name limit × (now ≡ after_load which before)
LoadCause which name limit before now _ = ⊥

-- The load ended so, or the content that was loaded has such a fault.
abbrev pub ContentCause : Which → List ℕ → ℕ → (List ℕ → Fault → Type 0)
    → Outside → Outside → Fault → Type 0
ContentCause which name limit IsFault before now fault = LoadCause which name limit before now fault
    ⊎ (At before name limit (λ bytes. IsFault bytes fault) × (now ≡ after_load which before))
