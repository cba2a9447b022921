-- The outside of the program, as far as it is told, and what each call makes of it.
use Rattle.std.specs.Prelude.{ℕ, ◌≡◌, ◌≤◌, ◌<◌, List, length, Bool, true, Some, None}
use Rattle.std.specs.declared.option.Option.{Option}
use Rattle.mtune_files.specs.Counts.{one_load, one_store, one_say}
use Rattle.mtune_files.specs.Names.{Held, content_at, stored, appended, IsSameBut, AppendsFront}
use Rattle.mtune_files.specs.declared.counts.Counts.{Counts}
use Rattle.mtune_files.specs.declared.which.Which.{Which}

-- What is held under names and what was said, each where it is told; how many calls of each kind
-- failed, and how many were made; and whether a name that is held is always loaded.
pub record Outside : Type 0 where
  pub held : Option Held
  pub said : Option (List ℕ)
  pub faults : Counts
  pub calls : Counts
  pub steady : Bool

-- ---- what a name has, where it is told what is held

-- the name has this content
abbrev pub IsContent : Option Held → List ℕ → List ℕ → Type 0
IsContent None name content = Unit {0}
IsContent (Some h) name content = content_at h name ≡ Some content

abbrev pub IsHeld : Outside → List ℕ → List ℕ → Type 0
IsHeld o name content = IsContent o.held name content

-- the name has a content of this kind
abbrev pub HasContent : Option Held → List ℕ → (List ℕ → Type 0) → Type 0
HasContent None name P = Unit {0}
HasContent (Some h) name P = (content : List ℕ) × (content_at h name ≡ Some content) × P content

abbrev pub IsLongerThan : Outside → List ℕ → ℕ → Type 0
IsLongerThan o name limit = HasContent o.held name (λ content. limit < length content)

abbrev pub IsWithin : Outside → List ℕ → ℕ → Type 0
IsWithin o name limit = HasContent o.held name (λ content. length content ≤ limit)

-- it is told that the name is held
abbrev pub IsNamed : Option Held → List ℕ → Type 0
IsNamed None name = ⊥
IsNamed (Some h) name = (content : List ℕ) × (content_at h name ≡ Some content)

-- a load of the name may fail
abbrev pub MayFail : Outside → List ℕ → Type 0
MayFail o name = o.steady ≡ true → IsNamed o.held name → ⊥

-- ---- the outside after a call

-- only loaded
abbrev pub after_load : Which → Outside → Outside
after_load which o = record o { calls = one_load which o.calls }

abbrev pub after_failed_load : Which → Outside → Outside
after_failed_load which o = record o {
  calls = one_load which o.calls;
  faults = one_load which o.faults;
}

-- only stored
abbrev pub after_store : List ℕ → List ℕ → Outside → Outside
after_store name content o = record o {
  calls = one_store o.calls;
  held = stored o.held name content;
}

-- What is held at the name then isn't known. All other names hold what they held.
pub record AfterFailedStore (name : List ℕ) (before now : Outside) : Type 0 where
  pub others : IsSameBut name before.held now.held
  pub only : now ≡ record before {
    calls = one_store before.calls;
    faults = one_store before.faults;
    held = now.held;
  }

-- only said
abbrev pub after_say : List ℕ → Outside → Outside
after_say text o = record o { calls = one_say o.calls; said = appended o.said text }

-- A front of the text was said then.
pub record AfterFailedSay (text : List ℕ) (before now : Outside) : Type 0 where
  pub front : AppendsFront text before.said now.said
  pub only : now ≡ record before {
    calls = one_say before.calls;
    faults = one_say before.faults;
    said = now.said;
  }
