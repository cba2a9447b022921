-- What an event does to a row: its places and the numbers of their runs.
use Rattle.std.proofs.Common.{◌≡◌, ◌<◌, ℕ, zero, suc, List, [], ◌∷◌, Bool, true, false, cond, ◌&&◌, not, Option, Some, None, IfSome, length, map, get_or, set, refl, sym, ap, ◌∙◌, inl, inr}
use Rattle.std.specs.Set.{is_member}
use Rattle.std.proofs.lemmas.Bool.{and_parts, cases_eq}
use Rattle.std.proofs.lemmas.List.{get_or-set_same, get_or-set_other}
use Rattle.mt_base.specs.Midi.{MidiEvent}
use Rattle.midi_model.specs.Channel.{State}
use Rattle.retune_model.specs.Options.{Options}
use Rattle.retune_model.specs.Faults.{Targets, is_part}
use Rattle.retune_model.specs.Pairs.{Pair, is_same_pair}
use Rattle.retune_model.specs.Runs.{since, begins}
use Rattle.plan_laws.specs.Placing.{Seen, nowhere, seen_at, Has, leave_if, leave, clear, begun_on, begin_on}
use Rattle.plan_laws.specs.Rows.{needed, keeps_before, sounds_after, keep_if, keep, kept, IsRowOf, IsRowAt, RowIsOfParts}
use Rattle.channel_plan.specs.Seeing.{ArePartsOn}

-- ---- the pairs on places

-- what has a pair afterwards had it before
abbrev Keeps : (Seen → Seen) → Type 0
Keeps f = (s : Seen) (p : Pair) → (f s).pair ≡ Some p → s.pair ≡ Some p

leave_was : (holds : Pair → Bool) (leaves : Pair → Option State) (k : ℕ) → Keeps (leave holds leaves k)
leave_was holds leaves k s p h = pick s.pair refl h
  where
    pick : (x : Option Pair) → s.pair ≡ x → (leave_if holds leaves k x s).pair ≡ Some p → s.pair ≡ Some p
    pick None e h = h
    pick (Some q) e h = by_it (holds q) h
      where
        by_it : (b : Bool) → (cond b s (record { pair = None; left = (leave_if (λ y. false) leaves k (Some q) s).left; since = k })).pair ≡ Some p
            → s.pair ≡ Some p
        by_it true h = h
        by_it false h = absurd cc

keep_was : (sounds : Pair → Bool) (needs : Pair → State) → Keeps (keep sounds needs)
keep_was sounds needs s p h = pick s.pair h
  where
    pick : (x : Option Pair) → (keep_if sounds needs x s).pair ≡ Some p → s.pair ≡ Some p
    pick None h = h
    pick (Some q) h = by_it (sounds q) h
      where
        by_it : (b : Bool) → (cond b s (record { pair = s.pair; left = needs q; since = s.since })).pair ≡ Some p → s.pair ≡ Some p
        by_it true h = h
        by_it false h = h

mapped_was : (f : Seen → Seen) → Keeps f → (ss : List Seen) (c : ℕ) (p : Pair) → (seen_at (map f ss) c).pair ≡ Some p → (seen_at ss c).pair ≡ Some p
mapped_was f was [] c p h = h
mapped_was f was (s ∷ ss) zero p h = was s p h
mapped_was f was (s ∷ ss) (suc c) p h = mapped_was f was ss c p h

pub left_was : (holds : Pair → Bool) (leaves : Pair → Option State) (k : ℕ) (ss : List Seen) (c : ℕ) (p : Pair)
    → (seen_at (map (leave holds leaves k) ss) c).pair ≡ Some p → (seen_at ss c).pair ≡ Some p
left_was holds leaves k ss c p h = mapped_was (leave holds leaves k) (leave_was holds leaves k) ss c p h

pub kept_was : (o : Options) (table : Targets) (es : List MidiEvent) (ss : List Seen) (c : ℕ) (p : Pair)
    → (seen_at (kept o table es ss) c).pair ≡ Some p → (seen_at ss c).pair ≡ Some p
kept_was o table es ss c p h = pick (keeps_before o) h
  where
    f : Seen → Seen
    f = keep (sounds_after o table es) (needed o table es)

    pick : (b : Bool) → (seen_at (cond b (map f ss) ss) c).pair ≡ Some p → (seen_at ss c).pair ≡ Some p
    pick true h = mapped_was f (keep_was (sounds_after o table es) (needed o table es)) ss c p h
    pick false h = h

pub kept_then : (o : Options) (table : Targets) (es : List MidiEvent) (ss : List Seen) → keeps_before o ≡ true
    → map (keep (sounds_after o table es) (needed o table es)) ss ≡ kept o table es ss
kept_then o table es ss e = sym (ap (λ b. cond b (map (keep (sounds_after o table es) (needed o table es)) ss) ss) e)

-- after a reset none has one
pub none_cleared : (k : ℕ) (ss : List Seen) (c : ℕ) (p : Pair) → (seen_at (map (clear k) ss) c).pair ≡ Some p → ⊥
none_cleared k [] c p h = absurd cc
none_cleared k (s ∷ ss) zero p h = absurd cc
none_cleared k (s ∷ ss) (suc c) p h = none_cleared k ss c p h

-- ---- the pairs are of parts

pub if_some : (x : Option Pair) (P : Pair → Type 0) → ((p : Pair) → x ≡ Some p → P p) → IfSome x P
if_some None P h = tt
if_some (Some p) P h = h p refl

pub parts_on : RowIsOfParts → (o : Options) (part : ℕ → Bool) (table : Targets) (es : List MidiEvent) (z : ℕ) (row : ℕ
    → ℕ) (k : ℕ) (ss tt : List Seen)
    → IsRowOf o part table es → IsRowAt o part table es z row k ss
    → ((c : ℕ) (p : Pair) → (seen_at tt c).pair ≡ Some p → (seen_at ss c).pair ≡ Some p) → ArePartsOn o tt
parts_on law o part table es z row k ss tt of is was c = if_some (seen_at tt c).pair (λ p. is_part o p.part.channel ≡ true)
    (λ p h. of.parts p.part.channel (law o part table es z row k ss c p of is (was c p h)).0)

-- ---- the numbers of runs

-- each pair on a place has there the number of its run
abbrev pub Numbered : (ℕ → List Pair) → (ℕ → ℕ) → ℕ → List Seen → List ℕ → Type 0
Numbered at number k ss ns = (c : ℕ) (p : Pair) → (seen_at ss c).pair ≡ Some p → get_or ns c 0 ≡ number (since is_same_pair at p k)

pub numbers_was : (at : ℕ → List Pair) (number : ℕ → ℕ) (k : ℕ) (ss tt : List Seen) (ns ms : List ℕ) → Numbered at number k ss ns → ms ≡ ns
    → ((c : ℕ) (p : Pair) → (seen_at tt c).pair ≡ Some p → (seen_at ss c).pair ≡ Some p) → Numbered at number k tt ms
numbers_was at number k ss tt ns ms are e was c p h = ap (λ xs. get_or xs c 0) e ∙ are c p (was c p h)

-- a run that goes on began where it did
pub since_stays : (at : ℕ → List Pair) (p : Pair) (k : ℕ) → Has (at k) p → since is_same_pair at p (suc k) ≡ since is_same_pair at p k
since_stays at p k h = ap (λ b. cond b (since is_same_pair at p k) (suc k)) h

pub numbers_stay : (at : ℕ → List Pair) (number : ℕ → ℕ) (k : ℕ) (ss : List Seen) (ns : List ℕ) → Numbered at number k ss ns
    → ((c : ℕ) (p : Pair) → (seen_at ss c).pair ≡ Some p → Has (at k) p) → Numbered at number (suc k) ss ns
numbers_stay at number k ss ns are has c p h = are c p h ∙ ap number (sym (since_stays at p k (has c p h)))

-- one that goes on doesn't begin
pub goes_on : (at : ℕ → List Pair) (k : ℕ) (p : Pair) → Has (at k) p → begins is_same_pair at k p ≡ false
goes_on at k p h = ap (λ b. is_member is_same_pair (at (suc k)) p && not b) h ∙ and_false (is_member is_same_pair (at (suc k)) p)
  where
    and_false : (b : Bool) → b && false ≡ false
    and_false true = refl
    and_false false = refl

-- one that begins, begins here
pub since_begins : (at : ℕ → List Pair) (p : Pair) (k : ℕ) → begins is_same_pair at k p ≡ true → since is_same_pair at p (suc k) ≡ suc k
since_begins at p k h = ap (λ b. cond b (since is_same_pair at p k) (suc k)) (not_true (is_member is_same_pair (at k) p) (and_parts (is_member
    is_same_pair (at (suc k)) p) (not (is_member is_same_pair (at k) p)) h).1)
  where
    not_true : (b : Bool) → not b ≡ true → b ≡ false
    not_true true h = absurd cc
    not_true false h = refl

-- a run begins on a place, with its number
pub numbers_with : (at : ℕ → List Pair) (number : ℕ → ℕ) (k : ℕ) (ss : List Seen) (ns : List ℕ) (c n : ℕ) (p : Pair) → c < length ss → c < length ns
    → Numbered at number (suc k) ss ns → number (since is_same_pair at p (suc k)) ≡ n → Numbered at number (suc k) (begin_on ss c p) (set ns c n)
numbers_with at number k ss ns c n p l m are e d q h = elim (cases_eq d c) [
  | inl s ↦ (
      let there : Some p ≡ Some q = sym (ap (λ x. x.pair) (get_or-set_same ss c (begun_on p (seen_at ss c)) nowhere l))
      ∙ ap (λ j. (seen_at (begin_on ss c p) j).pair) (sym s) ∙ h in
      let same : p ≡ q = cc in
      ap (λ j. get_or (set ns c n) j 0) s ∙ get_or-set_same ns c n 0 m ∙ sym e ∙ ap (λ x. number (since is_same_pair at x (suc k))) same)
  | inr o ↦ get_or-set_other ns c d n 0 o ∙ are d q (sym (ap (λ x. x.pair) (get_or-set_other ss c d (begun_on p (seen_at ss c)) nowhere o)) ∙ h)
]
