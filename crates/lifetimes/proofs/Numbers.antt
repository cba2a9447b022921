-- The numbers of retuned notes, with one event more.
use Rattle.std.proofs.Common.{◌≡◌, ◌∙◌, ℕ, ◌+◌, List, [], ◌∷◌, ◌++◌, Bool, true, false, cond, ◌&&◌, zero, suc, Some, None, is_some, nat_eq, refl, ap, arith}
use Rattle.mt_base.specs.declared.pair.Part.{Part as PartOf}
use Rattle.mt_base.specs.declared.event.Msg.TheVariants.{NoteOn, NoteOff, KeyPressure, Control, Program, Pressure, Bend}
use Rattle.mt_base.specs.Midi.{MidiWhat, Says, SysexOf, MetaOf, MidiEvent}
use Rattle.retune_model.specs.Options.{Options}
use Rattle.retune_model.specs.PlaysTheSame.{begins_note}
use Rattle.retune_model.specs.Ports.{port_of, ports_after, ports_from, all_zero}
use Rattle.retune_model.specs.Faults.{Targets, is_part}
use Rattle.lifetimes.specs.declared.port.Strike.{Strike}
use Rattle.lifetimes.specs.Told.{aim_in, strike_of, count_begun, strikes_key, number_from, number_of, port_on}

-- whether an event behind some strikes a key of a part
abbrev is_struck : PartOf → ℕ → (ℕ → ℕ) → List MidiEvent → MidiEvent → Bool
is_struck p k ports es e = nat_eq (port_of (ports_from ports es) e) p.port && strikes_key p.channel k e.what

number_next_from : (o : Options) (p : PartOf) (k : ℕ) (ports : ℕ → ℕ) (n last : ℕ) (es : List MidiEvent) (e : MidiEvent)
    → number_from o p k ports n last (es ++ e ∷ [])
    ≡ cond (is_struck p k ports es e) (count_begun o (es ++ e ∷ []) + n) (number_from o p k ports n last es)
number_next_from o p k ports n last [] e =
    let b : ℕ = cond (begins_note (is_part o) e.what) 1 0 in
    ap (λ m. cond (is_struck p k ports [] e) m last) (let same : b + n ≡ (b + 0) + n = omega arith in same)
number_next_from o p k ports n last (x ∷ es) e =
    let b : ℕ = cond (begins_note (is_part o) x.what) 1 0 in
    let before : ℕ = cond (is_struck p k ports [] x) (b + n) last in
    number_next_from o p k (ports_after ports x) (b + n) before es e
    ∙ ap (λ m. cond (is_struck p k ports (x ∷ es) e) m (number_from o p k (ports_after ports x) (b + n) before es))
    (let same : count_begun o (es ++ e ∷ []) + (b + n) ≡ (b + count_begun o (es ++ e ∷ [])) + n = omega arith in same)

-- the number of the note that began last on a key: the event's own where it strikes the key
pub number_next : (o : Options) (p : PartOf) (k : ℕ) (es : List MidiEvent) (e : MidiEvent)
    → number_of o p k (es ++ e ∷ [])
    ≡ cond (nat_eq (port_on es e) p.port && strikes_key p.channel k e.what) (count_begun o (es ++ e ∷ [])) (number_of o p k es)
number_next o p k es e =
    number_next_from o p k all_zero 0 0 es e
    ∙ ap (λ m. cond (is_struck p k all_zero es e) m (number_of o p k es))
    (let same : count_begun o (es ++ e ∷ []) + 0 ≡ count_begun o (es ++ e ∷ []) = omega arith in same)

-- how many began
pub count_next : (o : Options) (es : List MidiEvent) (e : MidiEvent)
    → count_begun o (es ++ e ∷ []) ≡ cond (begins_note (is_part o) e.what) 1 0 + count_begun o es
count_next o [] e = refl
count_next o (x ∷ es) e =
    let b : ℕ = cond (begins_note (is_part o) x.what) 1 0 in
    let c : ℕ = cond (begins_note (is_part o) e.what) 1 0 in
    let r : count_begun o (es ++ e ∷ []) ≡ c + count_begun o es = count_next o es e in
    omega (arith, r)

-- the note on of a retuned part is the one that counts
pub strike_counts : (o : Options) (table : Targets) (t : ℕ) (what : MidiWhat) → is_some (strike_of o table t what) ≡ begins_note (is_part o) what
strike_counts o table t (Says (NoteOn c k (suc v))) = pick (is_part o c) (record { channel = c; key = k; target = aim_in o table k t })
  where
    pick : (b : Bool) (s : Strike) → is_some (cond b (Some s) None) ≡ b
    pick true s = refl
    pick false s = refl
strike_counts o table t (Says (NoteOn c k zero)) = refl
strike_counts o table t (Says (NoteOff c k v)) = refl
strike_counts o table t (Says (KeyPressure c k v)) = refl
strike_counts o table t (Says (Control c n v)) = refl
strike_counts o table t (Says (Program c p)) = refl
strike_counts o table t (Says (Pressure c v)) = refl
strike_counts o table t (Says (Bend c v)) = refl
strike_counts o table t (SysexOf lead bytes) = refl
strike_counts o table t (MetaOf kind bytes) = refl
