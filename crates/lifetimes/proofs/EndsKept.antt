-- The last end of a pair, with one event more.
use Rattle.std.proofs.Common.{◌≡◌, ◌≤◌, ◌∙◌, ℕ, zero, suc, ◌+◌, pos, List, [], ◌∷◌, ◌++◌, Bool, true, false, cond, ◌&&◌, nat_eq, Option, Some, None, refl, sym, ap, subst, length, drop, arith}
use Rattle.std.specs.List.{filter}
use Rattle.std.proofs.lemmas.Bool.{eq-eqb, le-ltb}
use Rattle.mt_base.specs.Midi.{MidiEvent}
use Rattle.midi_model.specs.Notes.{Note}
use Rattle.midi_model.specs.Music.{Music}
use Rattle.midi_model.specs.Order.{AreInOrder}
use Rattle.midi_model.specs.Sysex.{doing}
use Rattle.retune_model.specs.Options.{Options, bends_notes}
use Rattle.retune_model.specs.Ports.{resets, is_reset_at, of_port, port_at, PortEvents, AreTimed, tick_to}
use Rattle.retune_model.specs.PortLaws.{MusicAtAPosition, PortsAreTimed}
use Rattle.retune_model.specs.Faults.{Targets, int_eq, is_part, target_of}
use Rattle.retune_model.specs.Pairs.{Pair, is_same_pair}
use Rattle.retune_model.specs.Rests.{notes_at, past_at, pair_of, steps_of, is_within_tail}
use Rattle.retune_model.specs.LastEnds.{later_end, latest_end, last_end, has_ended}
use Rattle.retune_model.specs.RestLaws.{since_reset, EndsAreKept, ResetsForgetEnds}
use Rattle.lifetimes.specs.Told.{port_on, is_of_pair}
use Rattle.lifetimes.specs.Stands.{latest_of, end_of_pair}
use Rattle.lifetimes.proofs.Prefix.{notes_more, past_more, tick_last}
use Rattle.lifetimes.proofs.Appended.{reset_last, longer}

-- ---- on all routes as on bend

-- A table by which all steps are those that are told: where notes aren't bent no key has a target, and all steps are 0.
abbrev pub told_table : Options → Targets → Targets
told_table o table = cond (bends_notes o.route) table (λ k t. None)

pub same_test : (o : Options) (table : Targets) (p : Pair) (n : Note)
    → is_of_pair o table p n ≡ is_same_pair (pair_of p.part.port o (told_table o table) n) p
same_test o table p n = pick (bends_notes o.route) (nat_eq p.part.port p.part.port) (eq-eqb p.part.port p.part.port refl)
  where
    pick : (b q : Bool) → q ≡ true → (nat_eq n.channel p.part.channel && int_eq (cond b (steps_of (target_of o table n)) (pos 0)) p.steps)
        ≡ ((q && nat_eq n.channel p.part.channel) && int_eq (steps_of (target_of o (cond b table (λ k t. None)) n)) p.steps)
    pick true true h = refl
    pick false true h = refl
    pick b false h = absurd cc

latest_same : (o : Options) (table : Targets) (p : Pair) (ns : List Note)
    → latest_of o table p ns ≡ latest_end p.part.port o (told_table o table) p ns
latest_same o table p [] = refl
latest_same o table p (n ∷ ns) =
    ap (λ b. cond b (later_end n.ended (latest_of o table p ns)) (latest_of o table p ns)) (same_test o table p n)
    ∙ ap (λ e. cond (is_same_pair (pair_of p.part.port o (told_table o table) n) p) (later_end n.ended e) e) (latest_same o table p ns)

-- at the position before
last_before : (o : Options) (part : ℕ → Bool) (table : Targets) (z : ℕ) (es : List MidiEvent) (e : MidiEvent) (p : Pair)
    → last_end o part table (port_at (es ++ e ∷ []) z) (length es) p ≡ last_end o part table (port_at es z) (length es) p
last_before o part table z es e p =
    ap (λ c. latest_end z o table p (drop c (notes_at part (of_port z (es ++ e ∷ [])) (length es)))) (past_more part z (length es) es e (omega arith))
    ∙ ap (λ ns. latest_end z o table p (drop (past_at part (of_port z es) (length es)) ns)) (notes_more part z (length es) es e (omega arith))

-- ---- one event more

-- whether a note of a pair ends by the event, of those since the last reset
abbrev pub ends_pair_by : Options → Targets → List MidiEvent → MidiEvent → Pair → Bool
ends_pair_by o table es e p =
    let port = port_at (es ++ e ∷ []) p.part.port in
    has_ended p.part.port o (told_table o table) p (since_reset (is_part o) port (length es) (length es))
    (since_reset (is_part o) port (length es) (suc (length es)))

-- what is kept then
abbrev pub end_next : Bool → Bool → ℕ → Option ℕ → Option ℕ
end_next reset ended t before = cond reset None (cond ended (Some t) before)

pub pair_end_next : PortsAreTimed → EndsAreKept → ResetsForgetEnds
    → (o : Options) (table : Targets) (es : List MidiEvent) (e : MidiEvent) (p : Pair) → AreInOrder 0 (es ++ e ∷ [])
    → end_of_pair o table (es ++ e ∷ []) p
    ≡ end_next (nat_eq (port_on es e) p.part.port && resets (doing e.what)) (ends_pair_by o table es e p) e.tick (end_of_pair o table es p)
pair_end_next timed kept forget o table es e p order =
    latest_same o table p _
    ∙ ap (λ k. last_end o (is_part o) tbl port k p) (longer es e)
    ∙ pick (is_reset_at port.events (suc (length es))) refl
    ∙ ap (λ b. end_next b (ends_pair_by o table es e p) e.tick (end_of_pair o table es p)) (reset_last z es e)
  where
    z : ℕ
    z = p.part.port

    tbl : Targets
    tbl = told_table o table

    port : PortEvents
    port = port_at (es ++ e ∷ []) p.part.port

    before : last_end o (is_part o) tbl port (length es) p ≡ end_of_pair o table es p
    before = last_before o (is_part o) tbl z es e p ∙ sym (latest_same o table p _)

    pick : (b : Bool) → is_reset_at port.events (suc (length es)) ≡ b
        → last_end o (is_part o) tbl port (suc (length es)) p ≡ end_next b (ends_pair_by o table es e p) e.tick (end_of_pair o table es p)
    pick true r = forget o (is_part o) tbl port (length es) p r
    pick false r =
        kept o (is_part o) tbl port (timed z (es ++ e ∷ []) order) (length es) p r
        ∙ ap (λ t. cond (ends_pair_by o table es e p) (Some t) (last_end o (is_part o) tbl port (length es) p)) (tick_last es e)
        ∙ ap (λ x. cond (ends_pair_by o table es e p) (Some e.tick) x) before

-- ---- no end is later than the last event

abbrev pub EndedBy : ℕ → Option ℕ → Type 0
EndedBy t None = Unit {0}
EndedBy t (Some e) = e ≤ t

ended_by_from : EndsAreKept → ResetsForgetEnds → (o : Options) (part : ℕ → Bool) (table : Targets) (port : PortEvents) → AreTimed port → (p : Pair)
    → last_end o part table port 0 p ≡ None → (k : ℕ) → EndedBy (port.tick k) (last_end o part table port k p)
ended_by_from kept forget o part table port timed p none zero = subst (EndedBy (port.tick 0)) (sym none) tt
ended_by_from kept forget o part table port timed p none (suc k) =
    pick (is_reset_at port.events (suc k)) refl (ended_by_from kept forget o part table port timed p none k)
  where
    later : (b : Bool) (x : Option ℕ) → EndedBy (port.tick k) x → EndedBy (port.tick (suc k)) (cond b (Some (port.tick (suc k))) x)
    later true x h = omega arith
    later false None h = tt
    later false (Some e) h = let up = timed.order k in omega (arith, h, up)

    pick : (b : Bool) → is_reset_at port.events (suc k) ≡ b → EndedBy (port.tick k) (last_end o part table port k p)
        → EndedBy (port.tick (suc k)) (last_end o part table port (suc k) p)
    pick true r h = subst (EndedBy (port.tick (suc k))) (sym (forget o part table port k p r)) tt
    pick false r h = subst (EndedBy (port.tick (suc k))) (sym (kept o part table port timed k p r))
        (later (has_ended port.number o table p (since_reset part port k k) (since_reset part port k (suc k))) (last_end o part table port k p) h)

pub end_by : MusicAtAPosition → PortsAreTimed → EndsAreKept → ResetsForgetEnds
    → (o : Options) (table : Targets) (es : List MidiEvent) (p : Pair) → AreInOrder 0 es
    → EndedBy (tick_to es (length es)) (end_of_pair o table es p)
end_by music timed kept forget o table es p order =
    subst (EndedBy (tick_to es (length es))) (sym (latest_same o table p _))
    (ended_by_from kept forget o (is_part o) (told_table o table) port (timed z es order) p none (length es))
  where
    z : ℕ
    z = p.part.port

    port : PortEvents
    port = port_at es p.part.port

    none : last_end o (is_part o) (told_table o table) port 0 p ≡ None
    none = ap (λ (m : Music). latest_end z o (told_table o table) p
        (drop (past_at (is_part o) port.events 0) (filter (λ (n : Note). is_part o n.channel) m.notes))) (music z es 0)
        ∙ ap (latest_end z o (told_table o table) p) (nothing (past_at (is_part o) port.events 0))
      where
        nothing : (k : ℕ) → (let ns : List Note = [] in drop k ns ≡ ns)
        nothing zero = refl
        nothing (suc k) = refl

-- so without a tail none is within it
pub out_of_tail : (s t : ℕ) (x : Option ℕ) → EndedBy s x → s ≤ t → is_within_tail 0 t x ≡ false
out_of_tail s t None h l = refl
out_of_tail s t (Some e) h l = le-ltb t (e + 0) (omega (arith, h, l))
