-- The pressures that a port gives to the target keys of a pair are those that are wanted.
use Rattle.std.proofs.Common.{◌≡◌, ◌≢◌, ◌<◌, ◌≤◌, ◌∙◌, ◌+◌, ℕ, zero, suc, ℤ, List, [], ◌∷◌, Bool, true, false, cond, ◌&&◌, nat_eq, Option, Some, None, is_some, length, get_or, refl, sym, ap, arith, inl, inr}
use Rattle.std.specs.Prelude.{filter}
use Rattle.std.specs.List.{AllByRecursion, list_any}
use Rattle.std.proofs.lemmas.Bool.{and_parts, and_from, and_right, or_from, ne_eqb, eq-eqb}
use Rattle.std.proofs.lemmas.Grind.{same_number_lists}
use Rattle.mt_base.specs.declared.event.Msg.TheVariants.{NoteOn, NoteOff, KeyPressure, Control, Program, Pressure, Bend}
use Rattle.mt_base.specs.Midi.{MidiWhat, Says, SysexOf, MetaOf, MidiEvent}
use Rattle.midi_model.specs.Notes.{Note, sounds, sounding_on}
use Rattle.midi_model.specs.Music.{key_pressure, key_pressures}
use Rattle.midi_model.specs.MusicLaws.{NotesFade}
use Rattle.midi_model.specs.Receiver.{after}
use Rattle.retune_model.specs.Options.{Options, bends_notes}
use Rattle.retune_model.specs.PlaysTheSame.{bend_target_if}
use Rattle.retune_model.specs.Drums.{DrumsStandApart}
use Rattle.retune_model.specs.Ports.{Numbered, unnumbered, of_port, events_on}
use Rattle.retune_model.specs.Faults.{Targets, is_part, int_eq, target_of, any_note}
use Rattle.retune_model.specs.Rests.{is_aimed, AreAimed}
use Rattle.retune_model.specs.Pairs.{sounding}
use Rattle.channel_model.specs.Choice.{wanted_keys}
use Rattle.key_pitch.specs.Aims.{bend_aim, tuning_aim}
use Rattle.receiver.specs.Sounding.{sounding_at}
use Rattle.lifetimes.specs.Lists.{entry_of, entry_at, no_note}
use Rattle.lifetimes.specs.Port.{struck_in, listed_in}
use Rattle.lifetimes.specs.Pressing.{pressed_by_all}
use Rattle.lifetimes.specs.Stands.{PortStands, heard_on, sounds_on, pair_on}
use Rattle.lifetimes.specs.Told.{music_on, aim_in}
use Rattle.lifetimes.specs.declared.notes.Sounding.{Sounding}
use Rattle.lifetimes.specs.declared.port.Port.{Port}
use Rattle.lifetimes.proofs.AimedNotes.{is_there, of_sounding, aims_so, none_aims, first_aims}
use Rattle.lifetimes.proofs.HeardParts.{heard_pressure}
use Rattle.lifetimes.proofs.KeysAndNotes.{keys_and_notes, any_key_same}
use Rattle.lifetimes.proofs.ListedKeys.{key_listed, keys_listed}
use Rattle.lifetimes.proofs.NotesKept.{OfBegun, OfNote, all_notes}
use Rattle.lifetimes.proofs.PressedKeys.{Pressed, pressed_at, pressed_all_long, aims_at, pressure_aimed, wanted_at, wanted_long}
use Rattle.lifetimes.proofs.StruckSteps.{is_on}
use Rattle.lifetimes.proofs.TargetsApart.{AreAlone}

-- ---- the notes of a list that have some steps

abbrev with_steps : ℤ → List Sounding → List Sounding
with_steps q xs = filter (λ x. int_eq x.steps q) xs

-- one of them, by its place in the whole list
abbrev IsAmong : ℤ → List Sounding → Sounding → Type 0
IsAmong q xs x = (j : ℕ) × (j < length xs) × (get_or xs j no_note ≡ x) × (int_eq x.steps q ≡ true)

among : (q : ℤ) (xs : List Sounding) (i : ℕ) → i < length (with_steps q xs) → IsAmong q xs (get_or (with_steps q xs) i no_note)
among q [] i low = absurd (omega (arith, low))
among q (x ∷ xs) i low = pick (int_eq x.steps q) refl i low (among q xs)
  where
    pick : (b : Bool) → int_eq x.steps q ≡ b → (i : ℕ) → i < length (cond b (x ∷ with_steps q xs) (with_steps q xs))
        → ((i : ℕ) → i < length (with_steps q xs) → IsAmong q xs (get_or (with_steps q xs) i no_note))
        → IsAmong q (x ∷ xs) (get_or (cond b (x ∷ with_steps q xs) (with_steps q xs)) i no_note)
    pick true e zero low later = (0, omega arith, refl, e)
    pick true e (suc i) low later = (let r = later i (omega (arith, low)) in (suc r.0, (let l = r.1 in omega (arith, l)), r.2, r.3))
    pick false e i low later = (let r = later i low in (suc r.0, (let l = r.1 in omega (arith, l)), r.2, r.3))

-- none has a key as its target
abbrev NoTarget : ℕ → List Sounding → Type 0
NoTarget k ys = (i : ℕ) → i < length ys → (get_or ys i no_note).target ≢ k

none_there : (k : ℕ) (q : ℤ) (xs : List Sounding) → NoTarget k (with_steps q xs) → list_any (is_there k q) xs ≡ false
none_there k q [] none = refl
none_there k q (x ∷ xs) none = pick (int_eq x.steps q) refl none (none_there k q xs)
  where
    pick : (b : Bool) → int_eq x.steps q ≡ b → NoTarget k (cond b (x ∷ with_steps q xs) (with_steps q xs))
        → (NoTarget k (with_steps q xs) → list_any (is_there k q) xs ≡ false) → list_any (is_there k q) (x ∷ xs) ≡ false
    pick true e none later = or_from (is_there k q x) (list_any (is_there k q) xs)
        (and_right (int_eq x.steps q) (nat_eq x.target k) (ne_eqb x.target k (none 0 (omega arith))))
        (later (λ i low. none (suc i) (omega (arith, low))))
    pick false e none later = or_from (is_there k q x) (list_any (is_there k q) xs) (ap (λ b. b && nat_eq x.target k) e) (later none)

low_keys : (q : ℤ) (P : Sounding → Type 0) (xs : List Sounding) → AllByRecursion (λ x. (x.key < 128) × P x) xs
    → AllByRecursion (λ x. x.key < 128) (with_steps q xs)
low_keys q P [] h = tt
low_keys q P (x ∷ xs) h = pick (int_eq x.steps q) (low_keys q P xs h.1)
  where
    pick : (b : Bool) → AllByRecursion (λ x. x.key < 128) (with_steps q xs)
        → AllByRecursion (λ x. x.key < 128) (cond b (x ∷ with_steps q xs) (with_steps q xs))
    pick true r = (h.0.0, r)
    pick false r = r

-- ---- each retuned note has a target

abbrev pub HasTarget : Options → Targets → ℕ → ℕ → ℕ → Type 0
HasTarget o table c k t = is_part o c ≡ true → is_some (bend_target_if o.range (table k t)) ≡ true

aimed_event : (o : Options) (table : Targets) (t : ℕ) (what : MidiWhat) → is_aimed o (is_part o) table t what ≡ true
    → OfBegun (HasTarget o table) t what
aimed_event o table t (Says (NoteOn c k (suc v))) h = λ part. sym (ap (λ b. cond b (is_some (bend_target_if o.range (table k t))) true) part) ∙ h
aimed_event o table t (Says (NoteOn c k zero)) h = tt
aimed_event o table t (Says (NoteOff c k v)) h = tt
aimed_event o table t (Says (KeyPressure c k v)) h = tt
aimed_event o table t (Says (Control c n v)) h = tt
aimed_event o table t (Says (Program c p)) h = tt
aimed_event o table t (Says (Pressure c v)) h = tt
aimed_event o table t (Says (Bend c v)) h = tt
aimed_event o table t (SysexOf lead bytes) h = tt
aimed_event o table t (MetaOf kind bytes) h = tt

aimed_events : (o : Options) (table : Targets) (ns : List Numbered) → AreAimed o (is_part o) table ns
    → AllByRecursion (λ e. OfBegun (HasTarget o table) e.tick e.what) (unnumbered ns)
aimed_events o table [] h = tt
aimed_events o table (n ∷ ns) h = (aimed_event o table n.event.tick n.event.what h.0, aimed_events o table ns h.1)

pub have_targets : NotesFade → (o : Options) (table : Targets) (z : ℕ) (es : List MidiEvent) → AreAimed o (is_part o) table (of_port z es)
    → AllByRecursion (OfNote (HasTarget o table)) (music_on z es).notes
have_targets fade o table z es h = all_notes (HasTarget o table) fade (events_on z es) (aimed_events o table (of_port z es) h)

-- ---- by the keys of the port

get_pressure : (ns : List Note) (c i m j : ℕ) → j < m → get_or (key_pressures ns c i m) j 0 ≡ key_pressure ns c (i + j)
get_pressure ns c i zero j low = absurd (omega (arith, low))
get_pressure ns c i (suc m) zero low = (let e : i ≡ i + 0 = omega arith in ap (key_pressure ns c) e)
get_pressure ns c i (suc m) (suc j) low =
    (let e : suc i + j ≡ i + suc j = omega arith in get_pressure ns c (suc i) m j (omega (arith, low)) ∙ ap (key_pressure ns c) e)

key_given : (ns : List Note) (c k : ℕ) → k < 128 → get_or (key_pressures ns c 0 128) k 0 ≡ key_pressure ns c k
key_given ns c k low = get_pressure ns c 0 128 k low ∙ (let e : 0 + k ≡ k = omega arith in ap (key_pressure ns c) e)

-- what is known of a port in a source without a fault, where notes are bent
pub record IsBent (o : Options) (table : Targets) (es : List MidiEvent) (port : Port) (c : ℕ) : Type 0 where
  pub stands : PortStands o table es port
  pub bends : bends_notes o.route ≡ true
  pub low : c < 16
  pub part : is_part o c ≡ true
  pub alone : AreAlone o table (music_on port.number es).notes
  pub targets : AllByRecursion (OfNote (HasTarget o table)) (music_on port.number es).notes
  pub keys : AllByRecursion (λ n. n.key < 128) (music_on port.number es).notes
  pub one : (k : ℕ) → sounding_on c k (music_on port.number es).notes ≤ 1

module _ (o : Options) (table : Targets) (es : List MidiEvent) (port : Port) (c : ℕ) (q : ℤ) (bent : IsBent o table es port c) (k : ℕ) where
  abbrev ns : List Note
  ns = (music_on port.number es).notes

  abbrev aimed : Note → Bool
  aimed n = aims_at (pair_on port.number c q) k n (target_of o table n)

  abbrev aimed_pressure : ℕ
  aimed_pressure = pressure_aimed o table (pair_on port.number c q) k (sounding o (music_on port.number es))

  -- the note of a key aims at k where the entry of its key does
  agree : (j : ℕ) (x : ℕ × Note) → j < 128 → sounding_at ns c j ≡ Some x → aimed x.1 ≡ is_there k q (entry_at (struck_in port c) j)
  agree j x low on =
      let there = is_on c j 1 ns x on in
      let has = of_sounding (OfNote (HasTarget o table)) c j 1 ns x on bent.targets (ap (is_part o) there.channel ∙ bent.part) in
      aims_so o.range port.number c j k q x.1 (table x.1.key x.1.onset) there.channel has
      ∙ (ap (λ b. let a = table x.1.key x.1.onset in is_there k q (entry_of j (cond b (bend_aim o.range a) (tuning_aim a)))) (sym bent.bends)
      ∙ (ap (λ i. is_there k q (entry_of j (aim_in o table i x.1.onset))) there.key
      ∙ ap (λ s. is_there k q (entry_of j s.target)) (sym (bent.stands.struck c j x bent.low low bent.part on))))

  by_list : any_note (λ n. (sounds n && nat_eq n.channel c) && aimed n) ns ≡ list_any (is_there k q) (listed_in port c)
  by_list =
      let there : ℕ → Bool = λ j. is_there k q (entry_at (struck_in port c) j) in
      keys_and_notes c aimed there ns bent.one bent.keys agree
      ∙ (any_key_same (λ j. is_some (sounding_at ns c j) && there j) (λ j. sounds_on o port.number es c j && there j) 128
      (λ j low. ap (λ b. (b && is_some (sounding_at ns c j)) && there j) (sym bent.part))
      ∙ keys_listed (is_there k q) (struck_in port c) (listed_in port c) (sounds_on o port.number es c) (bent.stands.listed c bent.low))

  module _ (apart : DrumsStandApart) where
    abbrev given : List ℕ
    given = key_pressures (after (heard_on o port.number es)).music.notes c 0 128

    -- a listed note gives the key its pressure
    given_there : (x : Sounding) → IsAmong q (listed_in port c) x → x.target ≡ k → get_or given x.key 0 ≡ aimed_pressure
    given_there x a target =
        (let r = key_listed (struck_in port c) (listed_in port c) (sounds_on o port.number es c) x a.0 (bent.stands.listed c bent.low) a.1 a.2 in
        pick (sounding_at ns c x.key) refl r.0 r.1 (and_parts (is_part o c) (is_some (sounding_at ns c x.key)) r.2).1)
      where
        pick : (y : Option (ℕ × Note)) → sounding_at ns c x.key ≡ y → x.key < 128 → entry_at (struck_in port c) x.key ≡ x → is_some y ≡ true
            → get_or given x.key 0 ≡ aimed_pressure
        pick None on low own there = absurd cc
        pick (Some y) on low own there =
            key_given (after (heard_on o port.number es)).music.notes c x.key low
            ∙ (heard_pressure apart o port.number es c x.key bent.part
            ∙ sym (first_aims o table port.number c q k x.key 1 ns y bent.part bent.alone on
            (agree x.key y low on ∙ (ap (is_there k q) own ∙ and_from (int_eq x.steps q) (nat_eq x.target k) a.3 (eq-eqb x.target k target)))))

    pressure_wanted : (keys : List ℕ) → k < 128 → length keys ≡ 128 → get_or keys k 0 ≡ 0
        → get_or (pressed_by_all given (with_steps q (listed_in port c)) keys) k 0 ≡ aimed_pressure
    pressure_wanted keys low long relaxed =
        pick (get_or (pressed_by_all given (with_steps q (listed_in port c)) keys) k 0)
        (pressed_at given (with_steps q (listed_in port c)) keys k long low
        (low_keys q (λ x. entry_at (struck_in port c) x.key ≡ x) (listed_in port c) (bent.stands.listed c bent.low).own))
      where
        pick : (v : ℕ) → Pressed given (with_steps q (listed_in port c)) keys k v → v ≡ aimed_pressure
        pick v (inl r) = r.3 ∙ given_there (get_or (with_steps q (listed_in port c)) r.0 no_note) (among q (listed_in port c) r.0 r.1) r.2
        pick v (inr r) = r.1 ∙ (relaxed ∙ sym (none_aims o table port.number c q k ns (by_list ∙ none_there k q (listed_in port c) r.0)))

pub keys_wanted : DrumsStandApart → (o : Options) (table : Targets) (es : List MidiEvent) (port : Port) (c : ℕ) (q : ℤ) (keys : List ℕ)
    → IsBent o table es port c → length keys ≡ 128 → ((k : ℕ) → k < 128 → get_or keys k 0 ≡ 0)
    → pressed_by_all (key_pressures (after (heard_on o port.number es)).music.notes c 0 128) (filter (λ x. int_eq x.steps q) (listed_in port c)) keys
    ≡ wanted_keys o table (pair_on port.number c q) (sounding o (music_on port.number es))
keys_wanted apart o table es port c q keys bent long relaxed =
    let ps = key_pressures (after (heard_on o port.number es)).music.notes c 0 128 in
    let size = pressed_all_long ps (with_steps q (listed_in port c)) keys ∙ long in
    same_number_lists _ _ (size ∙ sym (wanted_long o table (pair_on port.number c q) (sounding o (music_on port.number es)))) (λ k low.
    let kl : k < 128 = omega (arith, low, size) in
    pressure_wanted o table es port c q bent k apart keys kl long (relaxed k kl)
    ∙ sym (wanted_at o table (pair_on port.number c q) k (sounding o (music_on port.number es)) kl))
