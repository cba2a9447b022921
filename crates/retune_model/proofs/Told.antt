-- On live each retuned part has the program, and each key that was told has its value.
use Rattle.std.proofs.Common.{◌≡◌, ℕ, zero, suc, List, [], ◌∷◌, ◌++◌, Bool, true, false, cond, ◌&&◌, ◌||◌, not, Option, Some, None, refl, ap, sym, ◌∙◌, ◌⊎◌, inl, inr, length, nat_eq, subst, get_or}
use Rattle.std.specs.List.{AllByRecursion}
use Rattle.std.proofs.lemmas.Bool.{ltb-true, eqb-true, eq-eqb}
use Rattle.mt_base.specs.declared.event.Msg.{Msg}
use Rattle.mt_base.specs.declared.event.Msg.TheVariants.{NoteOn, NoteOff, KeyPressure, Control, Program, Pressure, Bend}
use Rattle.mt_base.specs.Midi.{MidiEvent}
use Rattle.midi_model.specs.Sysex.{Doing, Plays, Resets, Tunes, Nothing, doing, Retune}
use Rattle.midi_model.specs.Music.{Music, quiet, step}
use Rattle.midi_model.specs.Tuning.{Tuning, untuned, selected_of, tuning_after}
use Rattle.retune_model.specs.Blocks.{Group, Selects, Sends}
use Rattle.retune_model.specs.Routes.{Live, Told, nothing_told, IsHarmless, IsHarmlessLive, selects, setup_at, tuned_by, renewed, tuning_run, dump_before, dump_behind, change_due, keys_told, live_before, live_next, live_block, live_output}
use Rattle.retune_model.specs.Plain.{is_plain, ArePlain, IsTold, told_after, Reads}
use Rattle.midi_model.specs.Receiver.{start, after}
use Rattle.midi_model.specs.MusicLaws.{EventsSettle}
use Rattle.retune_model.proofs.Steady.{steady-quiet}
use Rattle.retune_model.proofs.SameMusic.{Ready, live_keeps, unselected-quiet}
use Rattle.retune_model.proofs.Tunings.{received}
use Rattle.retune_model.proofs.Tuned.{values_selects, wide_selects, all_selects, Leaves, leaves_message, all_left}

abbrev pub AllHave : Live → Tuning → Type 0
AllHave l u = AllByRecursion (λ c. selected_of u c ≡ Some l.setup.program) l.setup.channels

tuned_append : (xs ys : List Group) (u : Tuning) → tuned_by (xs ++ ys) u ≡ tuned_by ys (tuned_by xs u)
tuned_append [] ys u = refl
tuned_append (Selects t track c p ∷ gs) ys u = tuned_append gs ys _
tuned_append (Sends t track bytes ∷ gs) ys u = tuned_append gs ys _

-- a setup without dumps: the values stay, the parts have the program
record Set_up (l : Live) (u v : Tuning) : Type 0 where
  values : v.values ≡ u.values
  selected : AllHave l v
  wide : length v.selected ≡ 16

set_up : (l : Live) (e : MidiEvent) (u : Tuning) → IsHarmless l.setup → l.setup.dumps ≡ [] → length u.selected ≡ 16 → Set_up l u (tuned_by (setup_at l.setup e) u)
set_up l e u h none wide =
    let gs : List Group = selects e.tick e.track l.setup.program l.setup.channels in
    let P : List (List ℕ) → Type 0 = λ ds. Set_up l u (tuned_by (setup_at (record l.setup { dumps = ds }) e) u) in
    subst P (sym none) (record {
      values = values_selects e.tick e.track l.setup.program l.setup.channels u;
      selected = all_selects e.tick e.track l.setup.program l.setup.channels u h.channels wide;
      wide = wide_selects e.tick e.track l.setup.program l.setup.channels u ∙ wide;
    })

-- after what stands before a channel message, but for the change of a key
before_message : (l : Live) (value : ℕ → ℕ) (s : Told) (e : MidiEvent) (msg : Msg) (u : Tuning) → IsHarmless l.setup → l.setup.dumps ≡ [] → IsTold l value s u
    → Set_up l u (tuned_by (dump_before l.setup s.begun e (Plays msg)) u)
before_message l value s e msg u h none k = pick s.begun refl
  where
    pick : (b : Bool) → s.begun ≡ b → Set_up l u (tuned_by (dump_before l.setup b e (Plays msg)) u)
    pick false b = set_up l e u h none k.wide
    pick true b = record { values = refl; selected = k.selected b; wide = k.wide }

abbrev Values : Live → (ℕ → ℕ) → (ℕ → Bool) → Tuning → Type 0
Values l value keys u = (k : ℕ) → keys k ≡ true → u.values l.setup.program k ≡ Some (value k)

record Changed (l : Live) (value : ℕ → ℕ) (keys : ℕ → Bool) (v w : Tuning) : Type 0 where
  values : Values l value keys w
  selected : w.selected ≡ v.selected

or_cases : (x y : Bool) → (x || y) ≡ true → (x ≡ true) ⊎ (y ≡ true)
or_cases true y h = inl refl
or_cases false y h = inr h

abbrev one_key : Live → (ℕ → ℕ) → ℕ → Tuning → Tuning
one_key l value k v = renewed (Some (record { program = l.setup.program; keys = (k, Some (value k)) ∷ [] })) v

one_key_here : (l : Live) (value : ℕ → ℕ) (k j : ℕ) (v : Tuning) → k ≡ j → (one_key l value k v).values l.setup.program j ≡ Some (value j)
one_key_here l value k j v e = rw (eq-eqb l.setup.program l.setup.program refl, eq-eqb j k (sym e)) (ap (λ x. Some (value x)) e)

one_key_kept : (l : Live) (value : ℕ → ℕ) (k j : ℕ) (v : Tuning) → v.values l.setup.program j ≡ Some (value j) → (one_key l value k v).values l.setup.program j ≡ Some (value j)
one_key_kept l value k j v h = pick (nat_eq j k) refl
  where
    old : Option ℕ
    old = v.values l.setup.program j

    pick : (b : Bool) → nat_eq j k ≡ b → (one_key l value k v).values l.setup.program j ≡ Some (value j)
    pick true b = one_key_here l value k j v (sym (eqb-true j k b))
    pick false b = rw (eq-eqb l.setup.program l.setup.program refl, b) h

changed : (l : Live) (value : ℕ → ℕ) (s : Told) (m : Music) (e : MidiEvent) (msg : Msg) (v : Tuning) → Reads l value → is_plain l.is_retuned m (Plays msg) ≡ true → Values l value s.keys v
    → Changed l value (keys_told l s.keys msg) v (tuned_by (change_due l s e msg) v)
changed l value s m e (NoteOn c k (suc x)) v r plain h = pick (l.is_retuned c) (s.keys k) refl
  where
    pick : (a b : Bool) → s.keys k ≡ b → Changed l value (λ j. (a && nat_eq k j) || s.keys j) v (tuned_by (cond (a && not b) (Sends e.tick e.track (l.change k) ∷ []) []) v)
    pick false b e2 = record { values = h; selected = refl }
    pick true true e2 = record {
      values = λ j t. elim (or_cases (nat_eq k j) (s.keys j) t) [
        | inl y ↦ h j (ap s.keys (sym (eqb-true k j y)) ∙ e2)
        | inr y ↦ h j y
      ];
      selected = refl;
    }
    pick true false e2 = (let P : Option Retune → Type 0 = λ o. Changed l value (λ j. nat_eq k j || s.keys j) v (renewed o v) in
        subst P (sym (r.change k (ltb-true k 128 plain))) (record {
          values = λ j t. elim (or_cases (nat_eq k j) (s.keys j) t) [
            | inl y ↦ one_key_here l value k j v (eqb-true k j y)
            | inr y ↦ one_key_kept l value k j v (h j y)
          ];
          selected = refl;
        }))
changed l value s m e (NoteOn c k zero) v r plain h = record { values = h; selected = refl }
changed l value s m e (NoteOff c k x) v r plain h = record { values = h; selected = refl }
changed l value s m e (KeyPressure c k x) v r plain h = record { values = h; selected = refl }
changed l value s m e (Control c n x) v r plain h = record { values = h; selected = refl }
changed l value s m e (Program c p) v r plain h = record { values = h; selected = refl }
changed l value s m e (Pressure c x) v r plain h = record { values = h; selected = refl }
changed l value s m e (Bend c x) v r plain h = record { values = h; selected = refl }

-- a source message, with what stands before it
pub told_message : (l : Live) (value : ℕ → ℕ) (s : Told) (m : Music) (e : MidiEvent) (msg : Msg) (u : Tuning) → IsHarmless l.setup → Reads l value → AllByRecursion (λ c. l.is_retuned c ≡ true) l.setup.channels
    → is_plain l.is_retuned m (Plays msg) ≡ true → IsTold l value s u
    → IsTold l value (live_next l s (Plays msg)) (tuning_after m (Plays msg) (tuned_by (live_before l s e (Plays msg)) u))
told_message l value s m e msg u h r parts plain k =
    let v : Tuning = tuned_by (dump_before l.setup s.begun e (Plays msg)) u in
    let first : Set_up l u v = before_message l value s e msg u h r.none k in
    let w : Tuning = tuned_by (change_due l s e msg) v in
    let second : Changed l value (keys_told l s.keys msg) v w = changed l value s m e msg v r plain (λ j t. ap (λ f. f l.setup.program j) first.values ∙ k.values j t) in
    let third : Leaves l.is_retuned w (tuning_after m (Plays msg) w) = leaves_message l.is_retuned m msg w plain in
    let have : AllHave l w = all_left l.is_retuned l.setup.program l.setup.channels v w (λ d t. ap (λ x. selected_at x d) second.selected) parts first.selected in
    let P : Tuning → Type 0 = λ x. IsTold l value (live_next l s (Plays msg)) (tuning_after m (Plays msg) x) in
    subst P (sym (tuned_append (dump_before l.setup s.begun e (Plays msg)) (change_due l s e msg) u)) (record {
      values = λ j t. ap (λ f. f l.setup.program j) third.values ∙ second.values j t;
      selected = λ t. all_left l.is_retuned l.setup.program l.setup.channels w (tuning_after m (Plays msg) w) third.selected parts have;
      wide = third.wide ∙ ap length second.selected ∙ first.wide;
    })
  where
    selected_at : List (Option ℕ) → ℕ → Option ℕ
    selected_at xs d = get_or xs d None

told_reset : (l : Live) (value : ℕ → ℕ) (b : Bool) (m : Music) (e : MidiEvent) → IsHarmless l.setup → Reads l value
    → IsTold l value (record { begun = b; keys = λ k. false }) (tuned_by (dump_behind l.setup b e Resets) untuned)
told_reset l value false m e h r = record { values = λ k t. absurd cc; selected = λ t. absurd cc; wide = refl }
told_reset l value true m e h r =
    let x : Set_up l untuned (tuned_by (setup_at l.setup e) untuned) = set_up l e untuned h r.none refl in
    record { values = λ k t. absurd cc; selected = λ t. x.selected; wide = x.wide }

pub told_next : (l : Live) (value : ℕ → ℕ) (s : Told) (m : Music) (e : MidiEvent) (d : Doing) (u : Tuning) → IsHarmless l.setup → Reads l value → AllByRecursion (λ c. l.is_retuned c ≡ true) l.setup.channels
    → is_plain l.is_retuned m d ≡ true → IsTold l value s u
    → IsTold l value (live_next l s d) (tuned_by (dump_behind l.setup s.begun e d) (tuning_after m d (tuned_by (live_before l s e d) u)))
told_next l value s m e (Plays msg) u h r parts plain k = pick s.begun
  where
    pick : (b : Bool) → IsTold l value (live_next l s (Plays msg)) (tuned_by (dump_behind l.setup b e (Plays msg)) (tuning_after m (Plays msg) (tuned_by (live_before l s e (Plays msg)) u)))
    pick true = told_message l value s m e msg u h r parts plain k
    pick false = told_message l value s m e msg u h r parts plain k
told_next l value s m e Resets u h r parts plain k = told_reset l value s.begun m e h r
told_next l value s m e (Tunes x) u h r parts plain k = absurd cc
told_next l value s m e Nothing u h r parts plain k = pick s.begun
  where
    pick : (b : Bool) → IsTold l value s (tuned_by (dump_behind l.setup b e Nothing) u)
    pick true = k
    pick false = k

pub told_run : (l : Live) (value : ℕ → ℕ) (s : Told) (m : Music) (es : List MidiEvent) (u : Tuning) → IsHarmless l.setup → Reads l value → AllByRecursion (λ c. l.is_retuned c ≡ true) l.setup.channels
    → ArePlain l.is_retuned m es → IsTold l value s u → IsTold l value (told_after l s es) (tuning_run (live_block l) (λ x e. live_next l x (doing e.what)) s m u es)
told_run l value s m [] u h r parts plain k = k
told_run l value s m (e ∷ es) u h r parts plain k = told_run l value (live_next l s (doing e.what)) (step m e) es _ h r parts plain.1 (told_next l value s m e (doing e.what) u h r parts plain.0 k)

pub live_tuned : (settled : EventsSettle) (l : Live) (value : ℕ → ℕ) (es : List MidiEvent) → IsHarmlessLive l → Reads l value → AllByRecursion (λ c. l.is_retuned c ≡ true) l.setup.channels
    → ArePlain l.is_retuned quiet es → IsTold l value (told_after l nothing_told es) (after (live_output l es)).tuning
live_tuned settled l value es h r parts plain =
    let whole : (after (live_output l es)).tuning ≡ tuning_run (live_block l) (λ s e. live_next l s (doing e.what)) nothing_told quiet untuned es =
    ap (λ x. x.tuning) (received (live_block l) (λ s e. live_next l s (doing e.what)) (λ s m. Ready s.begun m) (live_keeps l h) nothing_told start es (steady-quiet settled) (unselected-quiet quiet refl)) in
    let Q : Tuning → Type 0 = λ u. IsTold l value (told_after l nothing_told es) u in
    subst Q (sym whole) (told_run l value nothing_told quiet es untuned h.setup r parts plain (record { values = λ k t. absurd cc; selected = λ t. absurd cc; wide = refl }))
