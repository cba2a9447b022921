-- The bends that are kept, at first and after a reset.
use Rattle.std.proofs.Common.{◌≡◌, ◌≤◌, ◌<◌, ◌+◌, ◌*◌, ◌&&◌, ℕ, zero, suc, Bool, true, false, cond, nat_eq, nat_lt, if◌then◌else◌, List, Option, Some, None, get_or, replicate, refl, sym, ap, ◌∙◌, inl, inr, arith}
use Rattle.std.proofs.lemmas.Bool.{cases_Bool, cases_eq, eq-eqb, ne_eqb, lt-ltb, le-ltb, ltb-true, ltb-false}
use Rattle.std.proofs.lemmas.List.{get_or-replicate}
use Rattle.mt_base.specs.Midi.{MidiWhat, Says, SysexOf, MetaOf}
use Rattle.midi_model.specs.Sysex.{Resets, Nothing, Retune, tunes, doing, is_reset, tuning_of}
use Rattle.retune_model.specs.SourceFaults.{is_message}
use Rattle.retune_model.specs.PortOutput.{kept_for}
use Rattle.retune_model.specs.Routes.{dump_next}
use Rattle.mpe_route.specs.Kept.{with_bend, without_bends}
use Rattle.routes.proofs.States.{ext}
use Rattle.mpe_laws.proofs.Ops.{and_false}

never_begun : (n i : ℕ) → get_or (replicate n false) i false ≡ false
never_begun zero i = refl
never_begun (suc n) zero = refl
never_begun (suc n) (suc i) = never_begun n i

abbrev pub begun_first : ℕ → Bool
begun_first z = get_or (replicate 256 false) z false

pub none_begun : begun_first ≡ (λ z. false)
none_begun = ext begun_first (λ z. false) (λ z. never_begun 256 z)

-- what begun stays so, where an event is no channel message
pub still_begun : (begun : ℕ → Bool) (port : ℕ) (w : MidiWhat) → is_message w ≡ false
    → begun ≡ kept_for port (dump_next (begun port) (doing w)) begun
still_begun begun port w h = ext begun (kept_for port (dump_next (begun port) (doing w)) begun) (λ z. elim (cases_eq z port) [
  | inl same ↦ ap begun same ∙ sym (same_state w h) ∙ sym (ap (λ b. cond b (dump_next (begun port) (doing w)) (begun z)) (eq-eqb z port same))
  | inr other ↦ sym (ap (λ b. cond b (dump_next (begun port) (doing w)) (begun z)) (ne_eqb z port other))
])
  where
    same_state : (x : MidiWhat) → is_message x ≡ false → dump_next (begun port) (doing x) ≡ begun port
    same_state (Says m) k = absurd (let no : ⊥ = cc in no)
    same_state (MetaOf kind bytes) k = refl
    same_state (SysexOf lead bytes) k = pick (nat_eq lead 240) (is_reset bytes) (tuning_of bytes)
      where
        pick : (a b : Bool) (r : Option Retune) → dump_next (begun port) (cond a (cond b Resets (tunes r)) Nothing) ≡ begun port
        pick false b r = refl
        pick true true r = refl
        pick true false None = refl
        pick true false (Some y) = refl

pub all_level : (z d : ℕ) → z < 256 → d < 16 → (let levels : List ℕ = replicate 4096 8192 in get_or levels (z * 16 + d) 0 ≡ 8192)
all_level z d byte low = get_or-replicate 4096 (z * 16 + d) 8192 0 (omega (arith, byte, low))

-- the bends once those of the channels below n of a port are level
abbrev pub unbent : ℕ → ℕ → (ℕ → ℕ → ℕ) → ℕ → ℕ → ℕ
unbent port n bends z d = if nat_eq z port && nat_lt d n then 8192 else bends z d

lt_zero : (d : ℕ) → nat_lt d 0 ≡ false
lt_zero d = le-ltb d 0 (omega arith)

pub unbent_first : (port : ℕ) (bends : ℕ → ℕ → ℕ) (z d : ℕ) → bends z d ≡ unbent port 0 bends z d
unbent_first port bends z d =
    sym (ap (λ b. cond (nat_eq z port && b) 8192 (bends z d)) (lt_zero d) ∙ ap (λ b. cond b 8192 (bends z d)) (and_false (nat_eq z port)))

pub unbent_next : (port n : ℕ) (bends : ℕ → ℕ → ℕ) (z d : ℕ) → with_bend port n 8192 (unbent port n bends) z d ≡ unbent port (n + 1) bends z d
unbent_next port n bends z d = pick (nat_eq z port)
  where
    below : nat_lt d (n + 1) ≡ cond (nat_eq d n) true (nat_lt d n)
    below = elim (cases_eq d n) [
      | inl same ↦ lt-ltb d (n + 1) (omega (arith, same)) ∙ sym (ap (λ b. cond b true (nat_lt d n)) (eq-eqb d n same))
      | inr other ↦ elim (cases_Bool (nat_lt d n)) [
        | inl lt ↦ (let l = ltb-true d n lt in lt-ltb d (n + 1) (omega (arith, l))) ∙ sym lt
            ∙ sym (ap (λ b. cond b true (nat_lt d n)) (ne_eqb d n other))
        | inr ge ↦ (let l = ltb-false d n ge in le-ltb d (n + 1) (omega (arith, l, other))) ∙ sym ge
            ∙ sym (ap (λ b. cond b true (nat_lt d n)) (ne_eqb d n other))
      ]
    ]

    same : (a : Bool) → cond a 8192 (cond (nat_lt d n) 8192 (bends z d)) ≡ cond (cond a true (nat_lt d n)) 8192 (bends z d)
    same true = refl
    same false = refl

    pick : (a : Bool) → cond (a && nat_eq d n) 8192 (cond (a && nat_lt d n) 8192 (bends z d)) ≡ cond (a && nat_lt d (n + 1)) 8192 (bends z d)
    pick true = same (nat_eq d n) ∙ sym (ap (λ b. cond b 8192 (bends z d)) below)
    pick false = refl

pub unbent_last : (port n : ℕ) (bends : ℕ → ℕ → ℕ) (z d : ℕ) → d < 16 → 16 ≤ n → unbent port n bends z d ≡ without_bends port bends z d
unbent_last port n bends z d low last = pick (nat_eq z port)
  where
    pick : (a : Bool) → cond (a && nat_lt d n) 8192 (bends z d) ≡ cond a 8192 (bends z d)
    pick true = ap (λ b. cond b 8192 (bends z d)) (lt-ltb d n (omega (arith, low, last)))
    pick false = refl
