-- Which key an event strikes.
use Rattle.std.proofs.Common.{◌≡◌, ℕ, zero, suc, ◌<◌, List, Bool, true, false, ◌&&◌, nat_eq, Option, Some, None, cond, refl, arith, ◌+◌, ◌^◌, ◌||◌, not, ap, ◌∙◌, inl, inr, length, set, get_or, bit_and, bit_or, subst, sym}
use Rattle.std.proofs.lemmas.Bool.{eq-eqb}
use Rattle.std.proofs.lemmas.Bool.Decides.{eqb_tells}
use Rattle.std.proofs.lemmas.List.{get_or-set_same, get_or-set_other}
use Rattle.std.specs.Int.{bit_not, w128}
use Rattle.mt_base.specs.declared.event.Msg.TheVariants.{NoteOn}
use Rattle.mt_base.specs.Midi.{SysexOf}
use Rattle.midi_model.specs.Sysex.{Retune, tunes, is_reset, tuning_of, doing, Resets, Nothing}
use Rattle.receiver.specs.Notes.{has}
use Rattle.receiver.specs.Turns.{strikes, strikes_by}
use Rattle.receiver.proofs.Bits.{has_and, has_or, has_not}

pub strikes_here : (d k v c j : ℕ) → 0 < v → d ≡ c → strikes_by (NoteOn d k v) c j ≡ nat_eq j k
strikes_here d k zero c j some same = absurd (omega (arith, some))
strikes_here d k (suc v) c j some same = rw (same, eq-eqb c c refl) refl

-- system exclusive messages strike none
pub strikes_none : (lead : ℕ) (bytes : List ℕ) (c j : ℕ) → strikes (doing (SysexOf lead bytes)) c j ≡ false
strikes_none lead bytes c j = pick (nat_eq lead 0xf0) (is_reset bytes) (tuning_of bytes)
  where
    pick : (x y : Bool) (o : Option Retune) → strikes (cond x (cond y Resets (tunes o)) Nothing) c j ≡ false
    pick false y o = refl
    pick true true o = refl
    pick true false None = refl
    pick true false (Some r) = refl

-- ---- the keys whose notes ended: those that sounded, and were struck or don't sound now
struck_or_quiet : (x y : Bool) → (not x || y) ≡ (y || not x)
struck_or_quiet true true = refl
struck_or_quiet true false = refl
struck_or_quiet false true = refl
struck_or_quiet false false = refl

pub has_ended : (a b s k : ℕ) (t : Bool) → b < 2 ^ 128 → k < 128 → has s k ≡ t
    → has (bit_and a (bit_or (bit_not w128 b) s)) k ≡ (has a k && (t || not (has b k)))
has_ended a b s k t fits below e =
    has_and a (bit_or (bit_not w128 b) s) k
    ∙ ap (λ x. has a k && x)
    (has_or (bit_not w128 b) s k ∙ ap (λ x. x || has s k) (has_not b k fits below) ∙ struck_or_quiet (has b k) (has s k) ∙ ap (λ x. x || not (has b k)) e)

-- one channel more
pub ended_more : (keys before now : List ℕ) (i s : ℕ) (f : ℕ → ℕ → Bool) → i < length keys → get_or now i 0 < 2 ^ 128
    → ((k : ℕ) → k < 128 → has s k ≡ f i k)
    → ((c k : ℕ) → c < i → k < 128 → has (get_or keys c 0) k ≡ (has (get_or before c 0) k && (f c k || not (has (get_or now c 0) k))))
    → (c k : ℕ) → c < i + 1 → k < 128
    → has (get_or (set keys i (bit_and (get_or before i 0) (bit_or (bit_not w128 (get_or now i 0)) s))) c 0) k
    ≡ (has (get_or before c 0) k && (f c k || not (has (get_or now c 0) k)))
ended_more keys before now i s f long fits struck done c k low below =
    let x : ℕ = bit_and (get_or before i 0) (bit_or (bit_not w128 (get_or now i 0)) s) in
    let P : ℕ → Type 0 = λ d. has (get_or (set keys i x) d 0) k ≡ (has (get_or before d 0) k && (f d k || not (has (get_or now d 0) k))) in
    elim (eqb_tells c i) [
      | inl t ↦ subst P (sym t.1) (ap (λ y. has y k) (get_or-set_same keys i x 0 long)
          ∙ has_ended (get_or before i 0) (get_or now i 0) s k (f i k) fits below (struck k below))
      | inr t ↦ ap (λ y. has y k) (get_or-set_other keys i c x 0 t.1) ∙ done c k (let ne = t.1 in omega (arith, low, ne)) below
    ]
