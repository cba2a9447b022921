-- What a bend, or data entry of its sensitivity, makes of the pairs of its part.
use Rattle.std.proofs.Common.{◌≡◌, ◌≤◌, ◌<◌, ◌∙◌, ℕ, suc, ℤ, List, [], ◌∷◌, ◌++◌, Bool, true, false, cond, ◌||◌, nat_eq, Some, None, sym, ap, subst, length}
use Rattle.std.specs.List.{AllByRecursion}
use Rattle.std.specs.Set.{is_member}
use Rattle.mt_base.specs.Midi.{MidiEvent}
use Rattle.mt_base.specs.Valid.{IsValidEvent}
use Rattle.midi_model.specs.Order.{AreInOrder}
use Rattle.retune_model.specs.Options.{Options, bends_notes}
use Rattle.retune_model.specs.Ports.{Numbered, port_of, ports_from, all_zero, with_event, of_port, port_at, tick_to, tick_from}
use Rattle.retune_model.specs.PortLaws.{PortsAreTimed}
use Rattle.retune_model.specs.Faults.{Targets, BendTooFar, is_part, is_bend, int_eq}
use Rattle.retune_model.specs.FaultLaws.{SoundPortsAreAimed}
use Rattle.retune_model.specs.Pairs.{Pair, is_same_pair}
use Rattle.retune_model.specs.Rests.{pairs_at, is_aimed, is_within_tail, IsAimedPort}
use Rattle.retune_model.specs.SourceFaults.{IsFaultless, first_beyond}
use Rattle.lifetimes.specs.Lists.{has_steps}
use Rattle.lifetimes.specs.Resting.{end_kept}
use Rattle.lifetimes.specs.Port.{struck_in, listed_in, rests_in}
use Rattle.lifetimes.specs.Stands.{end_of_pair, pair_on, sounds_on}
use Rattle.lifetimes.specs.Due.{IsNext, LeavesPart, IsFirstBeyond, NoneBeyond, too_far, bend_due}
use Rattle.lifetimes.specs.declared.port.Port.{Port}
use Rattle.lifetimes.specs.declared.notes.Sounding.{Sounding}
use Rattle.lifetimes.specs.declared.rests.Rest.{Rest}
use Rattle.lifetimes.specs.Within.{BendLaws}
use Rattle.lifetimes.proofs.Beyond.{bends_by}
use Rattle.lifetimes.proofs.StruckNow.{all_front}
use Rattle.lifetimes.proofs.Prefix.{port_more, last_of, tick_last}
use Rattle.lifetimes.proofs.Appended.{longer}
use Rattle.lifetimes.proofs.ListedKeys.{keys_listed}
use Rattle.lifetimes.proofs.SoundsByKeys.{sounds_by_keys}
use Rattle.lifetimes.proofs.PairsTold.{holds_or_rests}
use Rattle.lifetimes.proofs.PairSets.{held_tells}
use Rattle.lifetimes.proofs.LeftAlone.{sounds_left, end_left}
use Rattle.lifetimes.proofs.Decided.{found_is, none_is}

-- ---- the events up to the one at hand

pub order_front : (t : ℕ) (es : List MidiEvent) (e : MidiEvent) → AreInOrder t (es ++ e ∷ []) → AreInOrder t es
order_front t [] e h = tt
order_front t (x ∷ es) e h = (h.0, order_front x.tick es e h.1)

pub order_last : (t : ℕ) (es : List MidiEvent) (e : MidiEvent) → AreInOrder t (es ++ e ∷ []) → tick_from t es (length es) ≤ e.tick
order_last t [] e h = h.0
order_last t (x ∷ es) e h = order_last x.tick es e h.1

all_append : {A : Type 0} (P : A → Type 0) (xs ys : List A) → AllByRecursion P xs → AllByRecursion P ys → AllByRecursion P (xs ++ ys)
all_append P [] ys h k = k
all_append P (x ∷ xs) ys h k = (h.0, all_append P xs ys h.1 k)

pub aimed_next : SoundPortsAreAimed → PortsAreTimed → (o : Options) (table : Targets) (es : List MidiEvent) (e : MidiEvent) (z : ℕ)
    → bends_notes o.route ≡ true → AreInOrder 0 (es ++ e ∷ [])
    → IsFaultless o table es → is_aimed o (is_part o) table e.tick e.what ≡ true → IsAimedPort o (is_part o) table (port_at (es ++ e ∷ []) z)
aimed_next aimed timed o table es e z bends order faultless this = record {
  timed = timed z (es ++ e ∷ []) order;
  aimed = subst (λ ns. AllByRecursion (λ n. is_aimed o (is_part o) table n.event.tick n.event.what ≡ true) ns) (sym (port_more z es e))
      (all_append (λ n. is_aimed o (is_part o) table n.event.tick n.event.what ≡ true) (of_port z es)
      (last_of z (ports_from all_zero es) (length es) e)
      (aimed o (is_part o) table es z (λ c h. h) (record { bends = bends; in_order = order_front 0 es e order; faultless = faultless })).aimed
      (pick (nat_eq (port_of (ports_from all_zero es) e) z)));
}
  where
    pick : (b : Bool) → AllByRecursion (λ (n : Numbered). is_aimed o (is_part o) table n.event.tick n.event.what ≡ true)
        (with_event b (record { position = suc (length es); event = e }) [])
    pick true = (this, tt)
    pick false = tt

-- ---- the pairs behind an event that leaves the notes of the part

-- the steps of the pairs that sound or rest
abbrev pub is_there : Options → Port → ℕ → ℕ → ℤ → Bool
is_there o port c t q = has_steps (listed_in port c) q || is_within_tail o.tail t (end_kept (rests_in port c) q)

pub there_is : BendLaws → (o : Options) (table : Targets) (es : List MidiEvent) (e : MidiEvent) (z c : ℕ) (port : Port) (q : ℤ)
    → IsNext o table es e z port → bends_notes o.route ≡ true
    → c < 16 → is_part o c ≡ true → is_aimed o (is_part o) table e.tick e.what ≡ true → LeavesPart z es e c
    → is_member is_same_pair (pairs_at o (is_part o) table (port_at (es ++ e ∷ []) z) (suc (length es))) (pair_on z c q) ≡ is_there o port c e.tick q
there_is l o table es e z c port q next bends cl part this left =
    let p : Pair = pair_on z c q in
    let all : List MidiEvent = es ++ e ∷ [] in
    let now : Port = record port { number = z } in
    let tick : tick_to all (length all) ≡ e.tick = ap (tick_to all) (longer es e) ∙ tick_last es e in
    ap (λ k. is_member is_same_pair (pairs_at o (is_part o) table (port_at all z) k) p) (sym (longer es e))
    ∙ (sym (held_tells l.pairs o table all z c q bends (aimed_next l.aimed l.timed o table es e z bends next.order next.faultless this))
    ∙ (holds_or_rests l.music l.timed l.holds o table all p next.order
    ∙ (ap (λ b. b || is_within_tail o.tail (tick_to all (length all)) (end_of_pair o table all p)) (sounds_left o table es e z c q next.here left
    ∙ (sym (sounds_by_keys l.fade l.one_note o table es now c q (all_front IsValidEvent es (e ∷ []) next.valid) next.stands cl)
    ∙ keys_listed (λ x. int_eq x.steps q) (struck_in port c) (listed_in port c) (sounds_on o z es c) (next.stands.listed c cl)))
    ∙ (ap (λ t. has_steps (listed_in port c) q || is_within_tail o.tail t (end_of_pair o table all p)) tick
    ∙ (ap (λ x. has_steps (listed_in port c) q || is_within_tail o.tail e.tick x)
    (end_left l.music l.timed l.ends l.forget o table es e z c q next.order next.here left)
    ∙ ap (λ b. has_steps (listed_in port c) q || b) (sym (next.stands.rests c q e.tick cl part (order_last 0 es e next.order))))))))

pub bend_found : BendLaws → (o : Options) (table : Targets) (es : List MidiEvent) (e : MidiEvent) (z c : ℕ) (port : Port) (r q : ℤ)
    → IsNext o table es e z port → is_bend o.route ≡ true → 1 ≤ o.range
    → c < 16 → is_part o c ≡ true → is_aimed o (is_part o) table e.tick e.what ≡ true → LeavesPart z es e c
    → IsFirstBeyond (is_there o port c e.tick) r q
    → Some (BendTooFar, Some (q, r)) ≡ bend_due o table es e z c r
bend_found l o table es e z c port r q next bends some cl part this left first =
    sym (ap (λ b. cond b (too_far (first_beyond (record { port = z; channel = c }) r
    (pairs_at o (is_part o) table (port_at (es ++ e ∷ []) z) (suc (length es))))) None) bends
    ∙ ap too_far (found_is l.some l.none o table (port_at (es ++ e ∷ []) z) (suc (length es)) c (is_there o port c e.tick) r q
    (record { tells = λ p. there_is l o table es e z c port p next (bends_by o bends) cl part this left; range = some }) first))

pub bend_none : BendLaws → (o : Options) (table : Targets) (es : List MidiEvent) (e : MidiEvent) (z c : ℕ) (port : Port) (r : ℤ)
    → IsNext o table es e z port → is_bend o.route ≡ true → 1 ≤ o.range
    → c < 16 → is_part o c ≡ true → is_aimed o (is_part o) table e.tick e.what ≡ true → LeavesPart z es e c
    → NoneBeyond (is_there o port c e.tick) r → None ≡ bend_due o table es e z c r
bend_none l o table es e z c port r next bends some cl part this left none =
    sym (ap (λ b. cond b (too_far (first_beyond (record { port = z; channel = c }) r
    (pairs_at o (is_part o) table (port_at (es ++ e ∷ []) z) (suc (length es))))) None) bends
    ∙ ap too_far (none_is l.some o table (port_at (es ++ e ∷ []) z) (suc (length es)) c (is_there o port c e.tick) r
    (record { tells = λ p. there_is l o table es e z c port p next (bends_by o bends) cl part this left; range = some }) none))

-- ---- by what the program has of the part

-- the test by the lists that it reads, at its tick
abbrev pub is_in : ℕ → ℕ → List Sounding → List Rest → ℤ → Bool
is_in tail t xs rs q = has_steps xs q || is_within_tail tail t (end_kept rs q)

pub told_found : BendLaws → (o : Options) (table : Targets) (es : List MidiEvent) (e : MidiEvent) (z c : ℕ) (port : Port) (xs : List Sounding)
    (rs : List Rest) (t : ℕ) (r s q p : ℤ)
    → IsNext o table es e z port → is_bend o.route ≡ true → 1 ≤ o.range → c < 16 → is_part o c ≡ true
    → is_aimed o (is_part o) table e.tick e.what ≡ true → LeavesPart z es e c
    → xs ≡ listed_in port c → rs ≡ rests_in port c → e.tick ≡ t → s ≡ r → p ≡ q → IsFirstBeyond (is_in o.tail t xs rs) s q
    → Some (BendTooFar, Some (p, s)) ≡ bend_due o table es e z c r
told_found l o table es e z c port xs rs t r s q p next bends some cl part this left sounding resting tick same steps first =
    ap (λ x. Some (BendTooFar, Some (x, s))) steps ∙ (ap (λ x. Some (BendTooFar, Some (q, x))) same
    ∙ bend_found l o table es e z c port r q next bends some cl part this left
    (subst (λ ys. IsFirstBeyond (is_in o.tail e.tick ys (rests_in port c)) r q) sounding
    (subst (λ ys. IsFirstBeyond (is_in o.tail e.tick xs ys) r q) resting
    (subst (λ u. IsFirstBeyond (is_in o.tail u xs rs) r q) (sym tick)
    (subst (λ x. IsFirstBeyond (is_in o.tail t xs rs) x q) same first)))))

pub told_none : BendLaws → (o : Options) (table : Targets) (es : List MidiEvent) (e : MidiEvent) (z c : ℕ) (port : Port) (xs : List Sounding)
    (rs : List Rest) (t : ℕ) (r s : ℤ)
    → IsNext o table es e z port → is_bend o.route ≡ true → 1 ≤ o.range → c < 16 → is_part o c ≡ true
    → is_aimed o (is_part o) table e.tick e.what ≡ true → LeavesPart z es e c
    → xs ≡ listed_in port c → rs ≡ rests_in port c → e.tick ≡ t → s ≡ r → NoneBeyond (is_in o.tail t xs rs) s → None ≡ bend_due o table es e z c r
told_none l o table es e z c port xs rs t r s next bends some cl part this left sounding resting tick same none =
    bend_none l o table es e z c port r next bends some cl part this left
    (subst (λ ys. NoneBeyond (is_in o.tail e.tick ys (rests_in port c)) r) sounding
    (subst (λ ys. NoneBeyond (is_in o.tail e.tick xs ys) r) resting
    (subst (λ u. NoneBeyond (is_in o.tail u xs rs) r) (sym tick)
    (subst (λ x. NoneBeyond (is_in o.tail t xs rs) x) same none))))
