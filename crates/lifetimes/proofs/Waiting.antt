-- A port that doesn't hear an event stands for one event more: that of another port, or a message of kept drums.
use Rattle.std.proofs.Common.{◌≡◌, ◌≤◌, ◌<◌, ◌∙◌, ℕ, zero, suc, ℤ, List, [], ◌∷◌, ◌++◌, Bool, true, false, cond, not, ◌&&◌, ◌||◌, nat_eq, Option, Some, None, is_some, refl, sym, ap, subst, arith, length, drop}
use Rattle.std.specs.List.{filter}
use Rattle.std.specs.Option.{option_map}
use Rattle.std.proofs.lemmas.List.{append-nil}
use Rattle.std.proofs.lemmas.Bool.{eq-eqb, eqb-true, ne_eqb, and_parts}
use Rattle.mt_base.specs.declared.pair.Part.{Part as PartOf}
use Rattle.mt_base.specs.declared.event.Msg.TheVariants.{NoteOn, NoteOff, KeyPressure, Control, Program, Pressure, Bend}
use Rattle.mt_base.specs.Midi.{MidiWhat, Says, SysexOf, MetaOf, MidiEvent}
use Rattle.midi_model.specs.Notes.{Note, sounds}
use Rattle.midi_model.specs.Music.{Music}
use Rattle.midi_model.specs.Order.{AreInOrder}
use Rattle.midi_model.specs.Receiver.{after}
use Rattle.midi_model.specs.Sysex.{doing}
use Rattle.retune_model.specs.Options.{Options, is_drum_message}
use Rattle.retune_model.specs.Drums.{without_drums, others, DrumsStandApart}
use Rattle.retune_model.specs.Ports.{resets, events_on, of_port, port_at, PortEvents, tick_to}
use Rattle.retune_model.specs.Faults.{Targets, is_part}
use Rattle.retune_model.specs.Pairs.{Pair, is_same_pair}
use Rattle.retune_model.specs.Rests.{notes_at, past_at, pair_of, is_within_tail}
use Rattle.retune_model.specs.LastEnds.{has_ended}
use Rattle.receiver.specs.Sounding.{sounding_at}
use Rattle.receiver.specs.Stands.{PlayerStands}
use Rattle.lifetimes.specs.Lists.{struck_at}
use Rattle.lifetimes.specs.Resting.{end_kept}
use Rattle.lifetimes.specs.Told.{music_on, port_on, strikes_key, count_begun, number_of, aim_in}
use Rattle.lifetimes.specs.Port.{struck_in, rests_in}
use Rattle.lifetimes.specs.Stands.{heard_on, sounds_on, end_of_pair, pair_on, PortStands}
use Rattle.lifetimes.specs.declared.notes.Struck.{Struck}
use Rattle.lifetimes.specs.declared.port.Port.{Port}
use Rattle.lifetimes.proofs.Laws.{Laws}
use Rattle.lifetimes.proofs.Appended.{heard_same, heard_past, events_same, events_next, drumless_next, music_there, longer}
use Rattle.lifetimes.proofs.Prefix.{music_more, tick_more}
use Rattle.lifetimes.proofs.HeardParts.{note_on, heard_notes}
use Rattle.lifetimes.proofs.Numbers.{number_next}
use Rattle.lifetimes.proofs.EndsKept.{told_table, ends_pair_by, end_next, pair_end_next}
use Rattle.lifetimes.proofs.Taking.{listed_as}

-- the retuned notes of a port
abbrev pub retuned_on : Options → ℕ → List MidiEvent → List Note
retuned_on o z es = filter (λ (n : Note). is_part o n.channel) (music_on z es).notes

-- an event that a port doesn't hear
pub record IsPassed (o : Options) (es : List MidiEvent) (e : MidiEvent) (z : ℕ) : Type 0 where
  pub heard : heard_on o z (es ++ e ∷ []) ≡ heard_on o z es
  pub notes : (c k : ℕ) → is_part o c ≡ true → note_on (music_on z (es ++ e ∷ [])).notes c k ≡ note_on (music_on z es).notes c k
  pub retuned : retuned_on o z (es ++ e ∷ []) ≡ retuned_on o z es
  pub strikes : (c k : ℕ) → is_part o c ≡ true → (nat_eq (port_on es e) z && strikes_key c k e.what) ≡ false
  pub resets : (nat_eq (port_on es e) z && resets (doing e.what)) ≡ false

none_ended : (z : ℕ) (o : Options) (table : Targets) (p : Pair) (ns : List Note) → has_ended z o table p ns ns ≡ false
none_ended z o table p [] = refl
none_ended z o table p (n ∷ ns) = pick (is_same_pair (pair_of z o table n) p) (sounds n) ∙ none_ended z o table p ns
  where
    pick : (a s : Bool) → ((a && (s && not s)) || has_ended z o table p ns ns) ≡ has_ended z o table p ns ns
    pick false s = refl
    pick true true = refl
    pick true false = refl

is_some_same : (a b : Option (ℕ × Note)) → option_map (λ x. x.1) a ≡ option_map (λ x. x.1) b → is_some a ≡ is_some b
is_some_same None None h = refl
is_some_same (Some x) (Some y) h = refl
is_some_same None (Some y) h = absurd cc
is_some_same (Some x) None h = absurd cc

was_there : (a b : Option (ℕ × Note)) (x : ℕ × Note) → option_map (λ x. x.1) a ≡ option_map (λ x. x.1) b → a ≡ Some x
    → (y : ℕ × Note) × (b ≡ Some y) × (x.1 ≡ y.1)
was_there None b x h is = absurd cc
was_there (Some w) None x h is = absurd cc
was_there (Some w) (Some y) x h is = (y, refl, cc)

module _ (laws : Laws) (o : Options) (table : Targets) (es : List MidiEvent) (e : MidiEvent) (port : Port) (order : AreInOrder 0 (es ++ e ∷ []))
    (passed : IsPassed o es e port.number) (stands : PortStands o table es port) where
  struck : (c k : ℕ) (x : ℕ × Note) → c < 16 → k < 128 → is_part o c ≡ true → sounding_at (music_on port.number (es ++ e ∷ [])).notes c k ≡ Some x
      → struck_at (struck_in port c) k ≡ record {
        note = number_of o (record { port = port.number; channel = c }) k
            (es ++ e ∷ []);
        target = aim_in o table k x.1.onset;
      }
  struck c k x low below part s =
      let y = was_there _ _ x (passed.notes c k part) s in
      stands.struck c k y.0 low below part y.1
      ∙ ap (told (number_of o p k es)) (sym (ap (λ (n : Note). n.onset) y.2))
      ∙ ap (λ m. told m x.1.onset)
      (sym (number_next o p k es e ∙ ap (λ b. cond b (count_begun o (es ++ e ∷ [])) (number_of o p k es)) (passed.strikes c k part)))
    where
      p : PartOf
      p = record { port = port.number; channel = c }

      told : ℕ → ℕ → Struck
      told m t = record { note = m; target = aim_in o table k t }

  sounds_same : (c k : ℕ) → sounds_on o port.number es c k ≡ sounds_on o port.number (es ++ e ∷ []) c k
  sounds_same c k = pick (is_part o c) refl
    where
      pick : (b : Bool) → is_part o c ≡ b → (b && is_some (sounding_at (music_on port.number es).notes c k))
          ≡ (b && is_some (sounding_at (music_on port.number (es ++ e ∷ [])).notes c k))
      pick true is = is_some_same _ _ (sym (passed.notes c k is))
      pick false is = refl

  none_by : (p : Pair) → p.part.port ≡ port.number → ends_pair_by o table es e p ≡ false
  none_by p at =
      ap (λ ns. has_ended z o (told_table o table) p (drop past then) (drop past ns)) (same_notes z at)
      ∙ none_ended z o (told_table o table) p (drop past then)
    where
      z : ℕ
      z = p.part.port

      events : PortEvents
      events = port_at (es ++ e ∷ []) p.part.port

      then : List Note
      then = notes_at (is_part o) events.events (length es)

      past : ℕ
      past = past_at (is_part o) events.events (length es)

      chosen : Music → List Note
      chosen m = filter (λ (n : Note). is_part o n.channel) m.notes

      same_notes : (z : ℕ) → z ≡ port.number → notes_at (is_part o) (of_port z (es ++ e ∷ [])) (suc (length es))
          ≡ notes_at (is_part o) (of_port z (es ++ e ∷ [])) (length es)
      same_notes z at =
          ap (notes_at (is_part o) (of_port z (es ++ e ∷ []))) (sym (longer es e))
          ∙ ap chosen (music_there laws.music z (es ++ e ∷ []))
          ∙ subst (λ y. retuned_on o y (es ++ e ∷ []) ≡ retuned_on o y es) (sym at) passed.retuned
          ∙ ap chosen (sym (music_more z (length es) es e (omega arith) ∙ music_there laws.music z es))

  end_same : (c : ℕ) (q : ℤ) → end_of_pair o table (es ++ e ∷ []) (pair_on port.number c q) ≡ end_of_pair o table es (pair_on port.number c q)
  end_same c q =
      pair_end_next laws.timed laws.kept laws.forgotten o table es e (pair_on port.number c q) order
      ∙ ap (λ b. end_next b (ends_pair_by o table es e (pair_on port.number c q)) e.tick
      (end_of_pair o table es (pair_on port.number c q))) passed.resets
      ∙ ap (λ b. end_next false b e.tick (end_of_pair o table es (pair_on port.number c q))) (none_by (pair_on port.number c q) refl)

  rests : (c : ℕ) (q : ℤ) (t : ℕ) → c < 16 → is_part o c ≡ true → tick_to (es ++ e ∷ []) (length (es ++ e ∷ [])) ≤ t
      → is_within_tail o.tail t (end_kept (rests_in port c) q)
      ≡ is_within_tail o.tail t (end_of_pair o table (es ++ e ∷ []) (pair_on port.number c q))
  rests c q t low part late =
      let up = (laws.timed port.number (es ++ e ∷ []) order).order (length es) in
      let a = tick_more (length es) es e (omega arith) in
      let b = ap (tick_to (es ++ e ∷ [])) (longer es e) in
      stands.rests c q t low part (omega (arith, up, a, b, late)) ∙ ap (is_within_tail o.tail t) (sym (end_same c q))

  pub passed_stands : PortStands o table (es ++ e ∷ []) port
  passed_stands = record {
    player = subst (PlayerStands port.player) (sym passed.heard) stands.player;
    struck = struck;
    listed = listed_as port (sounds_on o port.number es) (sounds_on o port.number (es ++ e ∷ [])) (λ c k low below. sounds_same c k) stands.listed;
    rests = rests;
  }

-- ---- an event of another port
pub port_waits : Laws → (o : Options) (table : Targets) (es : List MidiEvent) (e : MidiEvent) (port : Port) → AreInOrder 0 (es ++ e ∷ [])
    → (port_on es e ≡ port.number → ⊥)
    → PortStands o table es port → PortStands o table (es ++ e ∷ []) port
port_waits laws o table es e port order other stands =
    passed_stands laws o table es e port order
    (record {
      heard = heard_same o port.number es e other;
      notes = λ c k part. ap (λ ms. note_on (notes ms) c k) same;
      retuned = ap (λ ms. filter (λ (n : Note). is_part o n.channel) (notes ms)) same;
      strikes = λ c k part. ap (λ b. b && strikes_key c k e.what) away;
      resets = ap (λ b. b && resets (doing e.what)) away;
    })
    stands
  where
    same : events_on port.number (es ++ e ∷ []) ≡ events_on port.number es
    same = events_same port.number es e other

    away : nat_eq (port_on es e) port.number ≡ false
    away = ne_eqb (port_on es e) port.number other

    notes : List MidiEvent → List Note
    notes ms = (after ms).music.notes

-- ---- a message of kept drums
drums_only : (c k : ℕ) (what : MidiWhat) → is_drum_message what ≡ true → not (nat_eq c 9) ≡ true → strikes_key c k what ≡ false
drums_only c k (Says (NoteOn d j (suc v))) h part =
    let at : d ≡ 9 = eqb-true d 9 h in
    ap (λ b. b && nat_eq j k) (pick (nat_eq d c) refl at)
  where
    pick : (b : Bool) → nat_eq d c ≡ b → d ≡ 9 → b ≡ false
    pick false is at = refl
    pick true is at = absurd (two (nat_eq c 9) (ap (λ x. nat_eq x 9) (sym (eqb-true d c is)) ∙ eq-eqb d 9 at) part)
      where
        two : (b : Bool) → b ≡ true → not b ≡ true → ⊥
        two true x y = cc
        two false x y = cc
drums_only c k (Says (NoteOn d j zero)) h part = refl
drums_only c k (Says (NoteOff d j v)) h part = refl
drums_only c k (Says (KeyPressure d j v)) h part = refl
drums_only c k (Says (Control d n v)) h part = refl
drums_only c k (Says (Program d p)) h part = refl
drums_only c k (Says (Pressure d v)) h part = refl
drums_only c k (Says (Bend d v)) h part = refl
drums_only c k (SysexOf lead bytes) h part = refl
drums_only c k (MetaOf kind bytes) h part = refl

no_reset : (what : MidiWhat) → is_drum_message what ≡ true → resets (doing what) ≡ false
no_reset (Says msg) h = refl
no_reset (SysexOf lead bytes) h = absurd cc
no_reset (MetaOf kind bytes) h = absurd cc

-- it changes none of the other notes
pub others_same : DrumsStandApart → (z : ℕ) (es : List MidiEvent) (e : MidiEvent) → port_on es e ≡ z → is_drum_message e.what ≡ true
    → others (music_on z (es ++ e ∷ [])).notes ≡ others (music_on z es).notes
others_same apart z es e here drum =
    (apart (events_on z (es ++ e ∷ []))).notes
    ∙ ap (λ ms. others (after ms).music.notes)
    (ap without_drums (events_next z es e here) ∙ drumless_next (events_on z es) e
    ∙ ap (λ d. without_drums (events_on z es) ++ cond (not d) (e ∷ []) []) drum ∙ append-nil (without_drums (events_on z es)))
    ∙ sym (apart (events_on z es)).notes

pub drums_wait : Laws → (o : Options) (table : Targets) (es : List MidiEvent) (e : MidiEvent) (port : Port) → AreInOrder 0 (es ++ e ∷ [])
    → port_on es e ≡ port.number
    → (o.keep_drums && is_drum_message e.what) ≡ true → PortStands o table es port → PortStands o table (es ++ e ∷ []) port
drums_wait laws o table es e port order here kept stands =
    passed_stands laws o table es e port order
    (record {
      heard = heard_past o z es e here kept;
      notes = λ c k part. sym (heard_notes laws.apart o z (es ++ e ∷ []) c k part)
          ∙ ap (λ ms. note_on (after ms).music.notes c k) (heard_past o z es e here kept)
          ∙ heard_notes laws.apart o z es c k part;
      retuned =
          ap (λ b. beside b (music_on z (es ++ e ∷ [])).notes) k.0
          ∙ others_same laws.apart z es e here k.1
          ∙ sym (ap (λ b. beside b (music_on z es).notes) k.0);
      strikes =
          λ c j part. ap (λ b. nat_eq (port_on es e) z && b) (drums_only c j e.what k.1 (sym (ap (λ b. not (b && nat_eq c 9)) k.0) ∙ part))
          ∙ none (nat_eq (port_on es e) z);
      resets = ap (λ b. nat_eq (port_on es e) z && b) (no_reset e.what k.1) ∙ none (nat_eq (port_on es e) z);
    })
    stands
  where
    z : ℕ
    z = port.number

    k : (o.keep_drums ≡ true) × (is_drum_message e.what ≡ true)
    k = and_parts o.keep_drums (is_drum_message e.what) kept

    beside : Bool → List Note → List Note
    beside b ns = filter (λ (n : Note). not (b && nat_eq n.channel 9)) ns

    none : (b : Bool) → (b && false) ≡ false
    none true = refl
    none false = refl
