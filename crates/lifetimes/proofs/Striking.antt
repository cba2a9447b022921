-- What sounds, and what was struck, after an event that a port takes.
use Rattle.std.proofs.Common.{◌≡◌, ◌<◌, ◌∙◌, ℕ, zero, suc, List, [], ◌∷◌, ◌++◌, Bool, true, false, cond, not, ◌&&◌, ◌||◌, nat_eq, Option, Some, None, is_some, refl, sym, ap, arith, slice_index}
use Rattle.std.proofs.lemmas.Bool.{eqb-true, and_parts}
use Rattle.mt_base.specs.declared.event.Msg.TheVariants.{NoteOn, NoteOff, KeyPressure, Control, Program, Pressure, Bend}
use Rattle.mt_base.specs.Midi.{MidiWhat, Says, SysexOf, MetaOf, MidiEvent}
use Rattle.mt_base.specs.Valid.{IsValidWhat}
use Rattle.midi_model.specs.Sysex.{doing}
use Rattle.retune_model.specs.Options.{Options}
use Rattle.retune_model.specs.Ports.{resets}
use Rattle.retune_model.specs.Faults.{Targets, is_part}
use Rattle.receiver.specs.Notes.{has}
use Rattle.receiver.specs.Sounding.{sounding_at, ended_on}
use Rattle.receiver.specs.declared.ends.Ends.{Ends}
use Rattle.lifetimes.specs.Told.{aim_in, strike_of, strikes_key}
use Rattle.lifetimes.specs.Port.{strikes_on, struck_after, is_left, sounds_then}
use Rattle.lifetimes.specs.declared.notes.Struck.{Struck}
use Rattle.lifetimes.specs.declared.port.Strike.{Strike}
use Rattle.lifetimes.proofs.Laws.{Laws}
use Rattle.lifetimes.proofs.EventNext.{notes_of, sounds_if_left, struck_now, cut_off, reset_silences}

-- ---- the note on that an event is

and_none : (b : Bool) → (b && false) ≡ false
and_none true = refl
and_none false = refl

strike_made : (o : Options) (d j c k : ℕ) (s : Strike) → s.channel ≡ d → s.key ≡ j → (a b : Bool) → nat_eq d c ≡ b → (b ≡ true → is_part o c ≡ a)
    → strikes_on (cond a (Some s) None) c k ≡ (is_part o c && (nat_eq d c && nat_eq j k))
strike_made o d j c k s at on a b e f = here a b e f
  where
    test : strikes_on (Some s) c k ≡ (nat_eq d c && nat_eq j k)
    test = ap (λ x. nat_eq x c && nat_eq s.key k) at ∙ ap (λ x. nat_eq d c && nat_eq x k) on

    other : nat_eq d c ≡ false → (is_part o c && (nat_eq d c && nat_eq j k)) ≡ false
    other e = ap (λ x. is_part o c && (x && nat_eq j k)) e ∙ and_none (is_part o c)

    here : (a b : Bool) → nat_eq d c ≡ b → (b ≡ true → is_part o c ≡ a)
        → strikes_on (cond a (Some s) None) c k ≡ (is_part o c && (nat_eq d c && nat_eq j k))
    here true true e f = test ∙ sym (ap (λ x. x && (nat_eq d c && nat_eq j k)) (f refl))
    here true false e f = test ∙ ap (λ x. x && nat_eq j k) e ∙ sym (other e)
    here false true e f = sym (ap (λ x. x && (nat_eq d c && nat_eq j k)) (f refl))
    here false false e f = sym (other e)

-- it strikes a key of a retuned part
pub strikes_same : (o : Options) (table : Targets) (t : ℕ) (what : MidiWhat) (c k : ℕ)
    → strikes_on (strike_of o table t what) c k ≡ (is_part o c && strikes_key c k what)
strikes_same o table t (Says (NoteOn d j (suc v))) c k =
    strike_made o d j c k (record { channel = d; key = j; target = aim_in o table j t }) refl refl (is_part o d) (nat_eq d c) refl
    (λ h. ap (is_part o) (sym (eqb-true d c h)))
strikes_same o table t (Says (NoteOn d j zero)) c k = sym (and_none (is_part o c))
strikes_same o table t (Says (NoteOff d j v)) c k = sym (and_none (is_part o c))
strikes_same o table t (Says (KeyPressure d j v)) c k = sym (and_none (is_part o c))
strikes_same o table t (Says (Control d n v)) c k = sym (and_none (is_part o c))
strikes_same o table t (Says (Program d p)) c k = sym (and_none (is_part o c))
strikes_same o table t (Says (Pressure d v)) c k = sym (and_none (is_part o c))
strikes_same o table t (Says (Bend d v)) c k = sym (and_none (is_part o c))
strikes_same o table t (SysexOf lead bytes) c k = sym (and_none (is_part o c))
strikes_same o table t (MetaOf kind bytes) c k = sym (and_none (is_part o c))

-- of a valid message it is a key of a channel
pub struck_valid : (c k : ℕ) (what : MidiWhat) → IsValidWhat what → strikes_key c k what ≡ true → (c < 16) × (k < 128)
struck_valid c k (Says (NoteOn d j (suc v))) valid h =
    let p = and_parts (nat_eq d c) (nat_eq j k) h in
    let a : d ≡ c = eqb-true d c p.0 in
    let b : j ≡ k = eqb-true j k p.1 in
    let l = valid.0 in
    let m = valid.1 in
    (omega (arith, a, l), omega (arith, b, m))
struck_valid c k (Says (NoteOn d j zero)) valid h = absurd cc
struck_valid c k (Says (NoteOff d j v)) valid h = absurd cc
struck_valid c k (Says (KeyPressure d j v)) valid h = absurd cc
struck_valid c k (Says (Control d n v)) valid h = absurd cc
struck_valid c k (Says (Program d p)) valid h = absurd cc
struck_valid c k (Says (Pressure d v)) valid h = absurd cc
struck_valid c k (Says (Bend d v)) valid h = absurd cc
struck_valid c k (SysexOf lead bytes) valid h = absurd cc
struck_valid c k (MetaOf kind bytes) valid h = absurd cc

abbrev struck_as : Options → Targets → ℕ → ℕ → ℕ → Struck
struck_as o table n t k = record { note = n; target = aim_in o table k t }

-- what was struck there is the note that begins
pub struck_by : (o : Options) (table : Targets) (t : ℕ) (what : MidiWhat) (n c k : ℕ) (old : Struck) → is_part o c ≡ true
    → strikes_key c k what ≡ true
    → struck_after (strike_of o table t what) n c k old ≡ record { note = n; target = aim_in o table k t }
struck_by o table t (Says (NoteOn d j (suc v))) n c k old part h =
    let p = and_parts (nat_eq d c) (nat_eq j k) h in
    ap (λ a. struck_after (cond a (Some (record { channel = d; key = j; target = aim_in o table j t })) None) n c k old)
    (ap (is_part o) (eqb-true d c p.0) ∙ part)
    ∙ ap (λ b. cond b (struck_as o table n t j) old) h
    ∙ ap (struck_as o table n t) (eqb-true j k p.1)
struck_by o table t (Says (NoteOn d j zero)) n c k old part h = absurd cc
struck_by o table t (Says (NoteOff d j v)) n c k old part h = absurd cc
struck_by o table t (Says (KeyPressure d j v)) n c k old part h = absurd cc
struck_by o table t (Says (Control d m v)) n c k old part h = absurd cc
struck_by o table t (Says (Program d p)) n c k old part h = absurd cc
struck_by o table t (Says (Pressure d v)) n c k old part h = absurd cc
struck_by o table t (Says (Bend d v)) n c k old part h = absurd cc
struck_by o table t (SysexOf lead bytes) n c k old part h = absurd cc
struck_by o table t (MetaOf kind bytes) n c k old part h = absurd cc

-- and elsewhere what it was
pub struck_kept : (strike : Option Strike) (n c k : ℕ) (old : Struck) → strikes_on strike c k ≡ false → struck_after strike n c k old ≡ old
struck_kept None n c k old h = refl
struck_kept (Some s) n c k old h = ap (λ b. cond b (record { note = n; target = s.target }) old) h

-- ---- what sounds

combined : (p k r s t e : Bool) → (k ≡ true → t ≡ true) → (k ≡ false → t ≡ (s && not e)) → (r ≡ true → t ≡ false)
    → ((p && k) || (not r && ((p && s) && not (p && e)))) ≡ (p && t)
combined false k true s t e f g h = refl
combined false k false s t e f g h = refl
combined true true r s t e f g h = sym (f refl)
combined true false true s t e f g h = sym (h refl)
combined true false false s t e f g h = sym (g refl)

none_left : (p r s e : Bool) → p ≡ true → (s && not e) ≡ false → (not r && ((p && s) && not (p && e))) ≡ false
none_left true true s e h l = refl
none_left true false s e h l = l
none_left false r s e h l = absurd cc

module _ (laws : Laws) (o : Options) (table : Targets) (es : List MidiEvent) (e : MidiEvent) (ends : Ends)
    (bits : (c k : ℕ) → c < 16 → k < 128
    → has (slice_index ends.keys c) k ≡ (is_part o c && ended_on c k (notes_of es) (notes_of (es ++ e ∷ [])))) where
  -- the retuned notes that sound, key by key, before the event and after it
  abbrev pub sounding_before : ℕ → ℕ → Bool
  sounding_before c k = is_part o c && is_some (sounding_at (notes_of es) c k)

  abbrev pub sounding_after : ℕ → ℕ → Bool
  sounding_after c k = is_part o c && is_some (sounding_at (notes_of (es ++ e ∷ [])) c k)

  pub sounds_next : (c k : ℕ) → c < 16 → k < 128 → sounds_then e.what ends (strike_of o table e.tick e.what) sounding_before c k ≡ sounding_after c k
  sounds_next c k low below =
      ap (λ b. b || is_left e.what ends sounding_before c k) (strikes_same o table e.tick e.what c k)
      ∙ ap (λ b. (is_part o c && strikes_key c k e.what) || (not (resets (doing e.what)) && (sounding_before c k && not b))) (bits c k low below)
      ∙ combined (is_part o c) (strikes_key c k e.what) (resets (doing e.what)) (is_some (sounding_at (notes_of es) c k))
      (is_some (sounding_at (notes_of (es ++ e ∷ [])) c k)) (ended_on c k (notes_of es) (notes_of (es ++ e ∷ [])))
      (λ h. ap is_some (struck_now laws.age laws.one es e c k h).1)
      (sounds_if_left laws.age laws.one es e c k)
      (λ h. ap is_some (reset_silences es e c k h))

  -- on the key of the note that begins none is left
  pub none_left_there : IsValidWhat e.what → (c k : ℕ) → strikes_on (strike_of o table e.tick e.what) c k ≡ true
      → is_left e.what ends sounding_before c k ≡ false
  none_left_there valid c k h =
      let p = and_parts (is_part o c) (strikes_key c k e.what) (sym (strikes_same o table e.tick e.what c k) ∙ h) in
      let v = struck_valid c k e.what valid p.1 in
      ap (λ b. not (resets (doing e.what)) && (sounding_before c k && not b)) (bits c k v.0 v.1)
      ∙ none_left (is_part o c) (resets (doing e.what)) (is_some (sounding_at (notes_of es) c k))
      (ended_on c k (notes_of es) (notes_of (es ++ e ∷ []))) p.0 (cut_off laws.age laws.one es e c k p.1)
