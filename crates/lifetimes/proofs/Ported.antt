-- The ports of the tracks and which tracks have started, with one event more.
use Rattle.std.proofs.Common.{◌≡◌, ◌<◌, ◌∙◌, ℕ, List, [], ◌∷◌, ◌++◌, Bool, true, false, cond, ◌&&◌, ◌||◌, Some, None, is_some, length, set, refl, sym, ap, nat_eq, get_or, inl, inr}
use Rattle.std.specs.Prelude.{unwrap_or}
use Rattle.std.proofs.lemmas.List.{get_or-set_same, get_or-set_other}
use Rattle.std.proofs.lemmas.Bool.{eq-eqb, ne_eqb}
use Rattle.std.proofs.lemmas.Bool.Decides.{eqb_tells}
use Rattle.mt_base.specs.Midi.{MidiEvent}
use Rattle.retune_model.specs.Ports.{named_port, ports_after, ports_from, all_zero}
use Rattle.retune_model.specs.SourceFaults.{is_message, has_started}
use Rattle.lifetimes.specs.Tracks.{TracksStand}

pub ports_append : (ports : ℕ → ℕ) (es : List MidiEvent) (e : MidiEvent) → ports_from ports (es ++ e ∷ []) ≡ ports_after (ports_from ports es) e
ports_append ports [] e = refl
ports_append ports (x ∷ es) e = ports_append (ports_after ports x) es e

abbrev pub starts : ℕ → MidiEvent → Bool
starts track e = nat_eq e.track track && (is_message e.what || is_some (named_port e.what))

or_false : (b : Bool) → (b || false) ≡ b
or_false true = refl
or_false false = refl

pub started_append : (track : ℕ) (es : List MidiEvent) (e : MidiEvent) → has_started track (es ++ e ∷ []) ≡ (has_started track es || starts track e)
started_append track [] e = or_false (starts track e)
started_append track (x ∷ es) e = pick (starts track x) (started_append track es e)
  where
    pick : (b : Bool) → has_started track (es ++ e ∷ []) ≡ (has_started track es || starts track e)
        → (b || has_started track (es ++ e ∷ [])) ≡ ((b || has_started track es) || starts track e)
    pick true h = refl
    pick false h = h

-- the port of one track after one event more
port_next : (es : List MidiEvent) (e : MidiEvent) (k : ℕ)
    → ports_from all_zero (es ++ e ∷ []) k ≡ cond (nat_eq k e.track) (unwrap_or (named_port e.what) (ports_from all_zero es e.track)) (ports_from all_zero es k)
port_next es e k = ap (λ f. f k) (ports_append all_zero es e)

-- no port is named: the ports stay
stay : (es : List MidiEvent) (e : MidiEvent) (k : ℕ) → named_port e.what ≡ None → ports_from all_zero (es ++ e ∷ []) k ≡ ports_from all_zero es k
stay es e k is = elim (eqb_tells k e.track) [
  | inl t ↦ rw (port_next es e k, t.0, is, t.1) refl
  | inr t ↦ rw (port_next es e k, t.0) refl
]

or_true : (b : Bool) → (b || true) ≡ true
or_true true = refl
or_true false = refl

-- a track starts
started_next : (started : List Bool) (es : List MidiEvent) (e : MidiEvent) (k : ℕ) → e.track < length started
    → (is_message e.what || is_some (named_port e.what)) ≡ true → get_or started k false ≡ has_started k es
    → get_or (set started e.track true) k false ≡ has_started k (es ++ e ∷ [])
started_next started es e k long is before = elim (eqb_tells k e.track) [
  | inl t ↦ (let same : nat_eq e.track k ≡ true = eq-eqb e.track k (sym t.1) in
      let now : has_started k (es ++ e ∷ []) ≡ true = started_append k es e ∙ (ap (λ b. has_started k es || (b && (is_message e.what || is_some (named_port e.what)))) same ∙ (ap (λ b. has_started k es || b) is ∙ or_true (has_started k es))) in
      (ap (λ j. get_or (set started e.track true) j false) t.1 ∙ get_or-set_same started e.track true false long) ∙ sym now)
  | inr t ↦ (let other : nat_eq e.track k ≡ false = ne_eqb e.track k (λ x. t.1 (sym x)) in
      let now : has_started k (es ++ e ∷ []) ≡ has_started k es = started_append k es e ∙ (ap (λ b. has_started k es || (b && (is_message e.what || is_some (named_port e.what)))) other ∙ or_false (has_started k es)) in
      get_or-set_other started e.track k true false t.1 ∙ (before ∙ sym now))
]

-- an event that starts none
started_stay : (es : List MidiEvent) (e : MidiEvent) (k : ℕ) → (is_message e.what || is_some (named_port e.what)) ≡ false → has_started k (es ++ e ∷ []) ≡ has_started k es
started_stay es e k is = started_append k es e ∙ (ap (λ b. has_started k es || (nat_eq e.track k && b)) is ∙ (ap (λ b. has_started k es || b) (and_false (nat_eq e.track k)) ∙ or_false (has_started k es)))
  where
    and_false : (b : Bool) → (b && false) ≡ false
    and_false true = refl
    and_false false = refl

-- ---- the three turns of the program

pub names : (ports : List ℕ) (started : List Bool) (es : List MidiEvent) (e : MidiEvent) (p : ℕ) → e.track < length ports → e.track < length started
    → named_port e.what ≡ Some p → TracksStand (record { ports = ports; started = started }) es
    → TracksStand (record { ports = set ports e.track p; started = set started e.track true }) (es ++ e ∷ [])
names ports started es e p long most is s = record {
  ports = λ k below. elim (eqb_tells k e.track) [
    | inl t ↦ (let now : ports_from all_zero (es ++ e ∷ []) k ≡ p = rw (port_next es e k, t.0, is) refl in
        (ap (λ j. get_or (set ports e.track p) j 0) t.1 ∙ get_or-set_same ports e.track p 0 long) ∙ sym now)
    | inr t ↦ (let now : ports_from all_zero (es ++ e ∷ []) k ≡ ports_from all_zero es k = rw (port_next es e k, t.0) refl in
        get_or-set_other ports e.track k p 0 t.1 ∙ (s.ports k below ∙ sym now))
  ];
  started = λ k below. started_next started es e k most (ap (λ o. is_message e.what || is_some o) is ∙ or_true (is_message e.what)) (s.started k below);
}

pub speaks : (ports : List ℕ) (started : List Bool) (es : List MidiEvent) (e : MidiEvent) → e.track < length started
    → named_port e.what ≡ None → is_message e.what ≡ true → TracksStand (record { ports = ports; started = started }) es
    → TracksStand (record { ports = ports; started = set started e.track true }) (es ++ e ∷ [])
speaks ports started es e most is message s = record {
  ports = λ k below. s.ports k below ∙ sym (stay es e k is);
  started = λ k below. started_next started es e k most (ap (λ b. b || is_some (named_port e.what)) message) (s.started k below);
}

pub passes : (ports : List ℕ) (started : List Bool) (es : List MidiEvent) (e : MidiEvent)
    → named_port e.what ≡ None → is_message e.what ≡ false → TracksStand (record { ports = ports; started = started }) es
    → TracksStand (record { ports = ports; started = started }) (es ++ e ∷ [])
passes ports started es e is message s = record {
  ports = λ k below. s.ports k below ∙ sym (stay es e k is);
  started = λ k below. s.started k below ∙ sym (started_stay es e k (ap (λ b. b || is_some (named_port e.what)) message ∙ ap is_some is));
}
