-- A note holds exactly where it sounds or, in the words of the rule, rests; and what is held at an event.
use Rattle.std.proofs.Common.{◌≡◌, ◌≤◌, ◌<◌, ◌+◌, ℕ, suc, List, Bool, true, false, not, ◌&&◌, ◌||◌, Option, Some, None, refl, ap, sym, ◌∙◌, subst, get_or, arith, inl, inr, nat_lt}
use Rattle.std.specs.Prelude.{is_some}
use Rattle.std.proofs.lemmas.Bool.{cases_Bool, and_parts, ltb-true, lt-ltb}
use Rattle.retune_model.specs.Pairs.{Pair}
use Rattle.midi_model.specs.Notes.{Note, sounds}
use Rattle.retune_model.specs.Options.{Options}
use Rattle.retune_model.specs.Faults.{Targets}
use Rattle.retune_model.specs.Ports.{PortEvents, is_reset_at}
use Rattle.retune_model.specs.Rests.{notes_at, nobody, past_at, lasts, is_within_tail, held_at, holds_at, pair_of, AreAimed, SoundsOrRests, Keeps}
use Rattle.retune_model.proofs.Timeline.{count, note, count_le, past, holds_parts, holds_from, sounding_holds, came_to_rest, none_since, past_same, ends_there, stays_ended}
use Rattle.retune_model.proofs.Moments.{Timely, timeline}
use Rattle.retune_model.proofs.Ordered.{Has, found_behind}
use Rattle.retune_model.proofs.Resting.{held_is, still_held, sounding_held}

within : (tail t : ℕ) (n : Note) (u : ℕ) → n.ended ≡ Some u → lasts tail t n ≡ nat_lt t (u + tail)
within tail t n u e = ap (λ x. not (is_some x) || is_within_tail tail t x) e

pub written : (part : ℕ → Bool) (tail : ℕ) (port : PortEvents) → Timely port → (k i : ℕ) → holds_at part tail port k i ≡ true → SoundsOrRests part tail port k i
written part tail port timed k i h =
    let at : ℕ → List Note = notes_at part port.events in
    let T = timeline part port timed in
    let p = holds_parts at (is_reset_at port.events) port.tick tail k i h in
    elim (cases_Bool (sounds (note at k i))) [
      | inl s ↦ inl (p.begun, s)
      | inr s ↦
          let r = came_to_rest T k i p.begun s in
          inr (
            r.0,
            record {
              by = r.1.by;
              begun = r.1.begun;
              sounded = r.1.sounded;
              silent = r.1.silent;
              no_reset = λ l from to.
                  let b : i < count at r.0 = r.1.begun in
                  let c : count at r.0 ≤ count at (suc l) = count_le T r.0 (suc l) (omega (arith, from)) in
                  none_since T k i l p.later (omega (arith, b, c)) to;
              in_time = ltb-true (port.tick k) (port.tick (suc r.0) + tail) (sym (within tail (port.tick k) (note at k i) (port.tick (suc r.0)) r.1.ended) ∙ p.lasts);
            },
          )
    ]

pub as_written : (part : ℕ → Bool) (tail : ℕ) (port : PortEvents) → Timely port → (k i : ℕ) → SoundsOrRests part tail port k i → holds_at part tail port k i ≡ true
as_written part tail port timed k i (inl s) = holds_from (notes_at part port.events) (is_reset_at port.events) port.tick tail k i (sounding_holds (timeline part port timed) tail k i s.0 s.1)
as_written part tail port timed k i (inr r) =
    let at : ℕ → List Note = notes_at part port.events in
    let T = timeline part port timed in
    let j : ℕ = r.0 in
    let low : j < k = r.1.by in
    let b : i < count at j = r.1.begun in
    let c : count at j ≤ count at k = count_le T j k (omega (arith, low)) in
    let d : count at j ≤ count at (suc j) = count_le T j (suc j) (omega arith) in
    let p : past at (is_reset_at port.events) k ≡ past at (is_reset_at port.events) j = past_same at (is_reset_at port.events) j k (omega (arith, low)) r.1.no_reset in
    let q : past at (is_reset_at port.events) j ≤ i = (sounding_holds T tail j i b r.1.sounded).later in
    let e : (note at k i).ended ≡ Some (port.tick (suc j)) = stays_ended T (port.tick (suc j)) i (suc j) k low (omega (arith, b, d)) (ends_there T i j b r.1.sounded r.1.silent) in
    holds_from at (is_reset_at port.events) port.tick tail k i (record {
      later = omega (arith, p, q);
      begun = omega (arith, b, c);
      lasts = within tail (port.tick k) (note at k i) (port.tick (suc j)) e ∙ lt-ltb (port.tick k) (port.tick (suc j) + tail) r.1.in_time;
    })

-- ---- the pairs that are held at an event
silent_ended : (tail t : ℕ) (x : Option ℕ) → not (is_some x) ≡ false → (not (is_some x) || is_within_tail tail t x) ≡ true → (e : ℕ) × (x ≡ Some e) × (t < e + tail)
silent_ended tail t None s h = absurd cc
silent_ended tail t (Some e) s h = (e, refl, ltb-true t (e + tail) h)

pub kept : (o : Options) (part : ℕ → Bool) (table : Targets) (port : PortEvents) (k : ℕ) (p : Pair) → Has (held_at o part table port (suc k)) p
    → (i : ℕ) × Keeps part o.tail port k i × (pair_of port.number o table (get_or (notes_at part port.events k) i nobody) ≡ p)
kept o part table port k p h =
    let x = found_behind port.number o table (λ n. lasts o.tail (port.tick k) n && lasts o.tail (port.tick (suc k)) n) (past_at part port.events k) (notes_at part port.events k) p (subst (λ (ps : List Pair). Has ps p) (held_is o part table port k) h) in
    let n : Note = note (notes_at part port.events) k x.0 in
    let two = and_parts (lasts o.tail (port.tick k) n) (lasts o.tail (port.tick (suc k)) n) x.1.passes in (
      x.0,
      elim (cases_Bool (sounds n)) [
        | inl s ↦ record { begun = x.1.there; keeps = inl s }
        | inr s ↦ record {
          begun = x.1.there;
          keeps = inr (holds_from (notes_at part port.events) (is_reset_at port.events) port.tick o.tail k x.0 (record { later = x.1.later; begun = x.1.there; lasts = two.0 }), silent_ended o.tail (port.tick (suc k)) n.ended s two.1);
        }
      ],
      x.1.pair,
    )

pub keeps_held : (o : Options) (part : ℕ → Bool) (table : Targets) (port : PortEvents) → Timely port → AreAimed o part table port.events → (k : ℕ) (p : Pair) (i : ℕ)
    → Keeps part o.tail port k i → pair_of port.number o table (get_or (notes_at part port.events k) i nobody) ≡ p → Has (held_at o part table port (suc k)) p
keeps_held o part table port timed aimed k p i h same =
    subst (λ (q : Pair). Has (held_at o part table port (suc k)) q) same (elim h.keeps [
      | inl s ↦ sounding_held o part table port timed aimed k i h.begun s
      | inr r ↦ still_held o part table port timed aimed k i (holds_parts (notes_at part port.events) (is_reset_at port.events) port.tick o.tail k i r.0)
          (within o.tail (port.tick (suc k)) (note (notes_at part port.events) k i) r.1.0 r.1.1 ∙ lt-ltb (port.tick (suc k)) (r.1.0 + o.tail) r.1.2)
    ])
