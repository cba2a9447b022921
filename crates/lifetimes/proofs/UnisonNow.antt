-- Whether a note on is a unison, by what was struck on the keys that sound.
use Rattle.std.proofs.Common.{◌≡◌, ◌<◌, ◌∙◌, ℕ, zero, suc, ℤ, pos, negsuc, List, [], ◌∷◌, Bool, true, false, cond, ◌&&◌, not, nat_eq, Option, Some, None, is_some, refl, sym, ap, subst}
use Rattle.std.specs.List.{AllByRecursion}
use Rattle.std.proofs.lemmas.Bool.{eqb-true, eq-eqb}
use Rattle.mt_base.specs.declared.event.Msg.TheVariants.{NoteOn, NoteOff, KeyPressure, Control, Program, Pressure, Bend}
use Rattle.mt_base.specs.Midi.{MidiWhat, Says, SysexOf, MetaOf, MidiEvent}
use Rattle.mt_base.specs.Valid.{IsValidEvent}
use Rattle.midi_model.specs.Notes.{Note, sounds, is_at}
use Rattle.midi_model.specs.MusicLaws.{NotesFade}
use Rattle.midi_model.specs.ReceiverLaws.{OneNoteSoundsOnAKey}
use Rattle.retune_model.specs.Table.{Bounds, BendTarget, bend_target}
use Rattle.retune_model.specs.Options.{Options, bends_notes}
use Rattle.retune_model.specs.PlaysTheSame.{bend_target_if}
use Rattle.retune_model.specs.Ports.{Numbered, unnumbered, events_on, of_port}
use Rattle.retune_model.specs.Rests.{is_aimed, AreAimed}
use Rattle.retune_model.specs.Faults.{Targets, is_part, int_eq, any_note, target_of, is_same_target, is_unison}
use Rattle.key_pitch.specs.Aims.{tuning_aim, bend_aim, on_bend}
use Rattle.key_pitch.specs.declared.aim.Aim.TheVariants.{Bend as AimAt}
use Rattle.receiver.specs.Sounding.{sounding_from, sounding_at}
use Rattle.lifetimes.specs.Told.{music_on}
use Rattle.lifetimes.specs.Lists.{any_key, entry_of, entry_at, is_beside}
use Rattle.lifetimes.specs.Port.{struck_in}
use Rattle.lifetimes.specs.Stands.{PortStands, sounds_on}
use Rattle.lifetimes.specs.declared.port.Port.{Port}
use Rattle.lifetimes.proofs.AnyNote.{both}
use Rattle.lifetimes.proofs.KeysAndNotes.{keys_and_notes, any_key_same}
use Rattle.lifetimes.proofs.NotesKept.{OfBegun, OfNote, all_notes, keys_low}
use Rattle.lifetimes.proofs.StruckSteps.{is_on}

-- ---- all notes have targets

abbrev HasTarget : Options → Targets → ℕ → ℕ → ℕ → Type 0
HasTarget o table c k t = is_part o c ≡ true → is_some (bend_target_if o.range (table k t)) ≡ true

aimed_begins : (o : Options) (table : Targets) (t : ℕ) (what : MidiWhat) → is_aimed o (is_part o) table t what ≡ true
    → OfBegun (HasTarget o table) t what
aimed_begins o table t (Says (NoteOn c k (suc v))) h =
    λ part. sym (ap (λ b. cond b (is_some (bend_target_if o.range (table k t))) true) part) ∙ h
aimed_begins o table t (Says (NoteOn c k zero)) h = tt
aimed_begins o table t (Says (NoteOff c k v)) h = tt
aimed_begins o table t (Says (KeyPressure c k v)) h = tt
aimed_begins o table t (Says (Control c n v)) h = tt
aimed_begins o table t (Says (Program c p)) h = tt
aimed_begins o table t (Says (Pressure c v)) h = tt
aimed_begins o table t (Says (Bend c v)) h = tt
aimed_begins o table t (SysexOf lead bytes) h = tt
aimed_begins o table t (MetaOf kind bytes) h = tt

all_aimed : (o : Options) (table : Targets) (ns : List Numbered) → AreAimed o (is_part o) table ns
    → AllByRecursion (λ e. OfBegun (HasTarget o table) e.tick e.what) (unnumbered ns)
all_aimed o table [] h = tt
all_aimed o table (n ∷ ns) h = (aimed_begins o table n.event.tick n.event.what h.0, all_aimed o table ns h.1)

-- what holds of all notes holds of one that sounds on a key
of_sounding : (P : Note → Type 0) (c k i : ℕ) (ns : List Note) (x : ℕ × Note) → AllByRecursion P ns → sounding_from i ns c k ≡ Some x → P x.1
of_sounding P c k i [] x h e = absurd cc
of_sounding P c k i (n ∷ ns) x h e = pick (is_at c k n && sounds n) e (of_sounding P c k (suc i) ns x h.1)
  where
    pick : (b : Bool) → cond b (Some (i, n)) (sounding_from (suc i) ns c k) ≡ Some x → (sounding_from (suc i) ns c k ≡ Some x → P x.1) → P x.1
    pick true f later = let same : n ≡ x.1 = cc in subst P same h.0
    pick false f later = later f

-- ---- the same target

turned : (a b c d : Bool) → a ≡ d → b ≡ c → (a && b) ≡ (c && d)
turned true true true true e f = refl
turned true false false true e f = refl
turned false true true false e f = refl
turned false false false false e f = refl
turned true b c false e f = absurd cc
turned false b c true e f = absurd cc
turned a true false d e f = absurd cc
turned a false true d e f = absurd cc

nat_turned : (a b : ℕ) → nat_eq a b ≡ nat_eq b a
nat_turned a b = both (nat_eq a b) (nat_eq b a) (λ h. eq-eqb b a (sym (eqb-true a b h))) (λ h. eq-eqb a b (sym (eqb-true b a h)))

int_turned : (a b : ℤ) → int_eq a b ≡ int_eq b a
int_turned (pos a) (pos b) = nat_turned a b
int_turned (negsuc a) (negsuc b) = nat_turned a b
int_turned (pos a) (negsuc b) = refl
int_turned (negsuc a) (pos b) = refl

beside : (t : Option BendTarget) (i k j : ℕ) (q : ℤ) → is_some t ≡ true
    → is_same_target t (Some (record { key = j; steps = q })) ≡ is_beside (entry_of k (AimAt j q)) (entry_of i (on_bend t))
beside None i k j q h = absurd cc
beside (Some t) i k j q h = turned (nat_eq t.key j) (int_eq t.steps q) (int_eq q t.steps) (nat_eq j t.key) (nat_turned t.key j) (int_turned t.steps q)

beside_if : (range : ℕ) (b : Option Bounds) (i k j : ℕ) (q : ℤ) → is_some (bend_target_if range b) ≡ true
    → is_same_target (bend_target_if range b) (Some (record { key = j; steps = q }))
    ≡ is_beside (entry_of k (AimAt j q)) (entry_of i (bend_aim range b))
beside_if range None i k j q h = absurd cc
beside_if range (Some b) i k j q h = beside (bend_target range b) i k j q h

-- ---- a note on with a target, after events whose note ons have targets

module _ (fade : NotesFade) (one : OneNoteSoundsOnAKey) (o : Options) (table : Targets) (es : List MidiEvent) (port : Port) (c k t j : ℕ) (q : ℤ)
    (bends : bends_notes o.route ≡ true) (part : is_part o c ≡ true) (stands : PortStands o table es port) (cl : c < 16)
    (aimed : AreAimed o (is_part o) table (of_port port.number es))
    (target : bend_target_if o.range (table k t) ≡ Some (record { key = j; steps = q })) where
  abbrev notes : List Note
  notes = (music_on port.number es).notes

  -- a note that sounds has a target
  aimed_note : (i : ℕ) (x : ℕ × Note) → sounding_at notes c i ≡ Some x → is_some (bend_target_if o.range (table i x.1.onset)) ≡ true
  aimed_note i x on =
      let is = is_on c i 1 notes x on in
      sym (ap (λ a. is_some (bend_target_if o.range (table a x.1.onset))) is.key)
      ∙ of_sounding (OfNote (HasTarget o table)) c i 1 notes x
      (all_notes (HasTarget o table) fade (events_on port.number es) (all_aimed o table (of_port port.number es) aimed)) on
      (ap (is_part o) is.channel ∙ part)

  -- and is beside the note on where what was struck on its key is
  agree : (i : ℕ) (x : ℕ × Note) → i < 128 → sounding_at notes c i ≡ Some x
      → (not (nat_eq x.1.key k) && is_same_target (target_of o table x.1) (bend_target_if o.range (table k t)))
      ≡ (not (nat_eq i k) && is_beside (entry_of k (AimAt j q)) (entry_at (struck_in port c) i))
  agree i x il on =
      ap (λ a. not (nat_eq a k) && is_same_target (bend_target_if o.range (table a x.1.onset)) (bend_target_if o.range (table k t)))
      (is_on c i 1 notes x on).key
      ∙ (ap (λ b. not (nat_eq i k) && is_same_target (bend_target_if o.range (table i x.1.onset)) b) target
      ∙ (ap (λ b. not (nat_eq i k) && b) (beside_if o.range (table i x.1.onset) i k j q (aimed_note i x on))
      ∙ (ap (λ b. not (nat_eq i k) && is_beside (entry_of k (AimAt j q)) (entry_of i b))
      (sym (ap (λ b. cond b (bend_aim o.range (table i x.1.onset)) (tuning_aim (table i x.1.onset))) bends))
      ∙ ap (λ s. not (nat_eq i k) && is_beside (entry_of k (AimAt j q)) (entry_of i s.target)) (sym (stands.struck c i x cl il part on)))))

  pub unison_is : (v : ℕ) → AllByRecursion IsValidEvent es
      → is_unison o table (music_on port.number es) t (NoteOn c k (suc v))
      ≡ any_key (λ i. sounds_on o port.number es c i && (not (nat_eq i k) && is_beside (entry_of k (AimAt j q)) (entry_at (struck_in port c) i))) 128
  unison_is v valid =
      let f : Note → Bool = λ n. not (nat_eq n.key k) && is_same_target (target_of o table n) (bend_target_if o.range (table k t)) in
      let g : ℕ → Bool = λ i. not (nat_eq i k) && is_beside (entry_of k (AimAt j q)) (entry_at (struck_in port c) i) in
      let some : Bool = any_note (λ n. (sounds n && nat_eq n.channel c) && f n) notes in
      ap (λ b. b && (is_part o c && some)) bends ∙ (ap (λ b. b && some) part
      ∙ (keys_and_notes c f g notes (one (events_on port.number es) c) (keys_low fade port.number es valid) agree
      ∙ any_key_same (λ i. is_some (sounding_at notes c i) && g i) (λ i. sounds_on o port.number es c i && g i) 128
      (λ i low. ap (λ b. (b && is_some (sounding_at notes c i)) && g i) (sym part))))
