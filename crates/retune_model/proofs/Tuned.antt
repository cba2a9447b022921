-- After dump's setup, and behind each reset, every retuned part plays the dumped values.
use Rattle.std.proofs.Common.{◌≡◌, ◌≢◌, ℕ, ◌<◌, List, [], ◌∷◌, ◌++◌, Bool, true, false, Option, Some, None, refl, ap, sym, ◌∙◌, ◌⊎◌, inl, inr, length, set, get_or, eqb, subst}
use Rattle.std.specs.List.{AllByRecursion}
use Rattle.std.proofs.lemmas.List.{length-set, get_or-set_same, get_or-set_other}
use Rattle.std.proofs.lemmas.Bool.{eqb-true, eqb-false}
use Rattle.mt_base.specs.declared.event.Msg.{Msg}
use Rattle.mt_base.specs.declared.event.Msg.TheVariants.{NoteOn, NoteOff, KeyPressure, Control, Program, Pressure, Bend}
use Rattle.mt_base.specs.Midi.{MidiEvent}
use Rattle.midi_model.specs.Channel.{Role, Stored, EntryHigh, EntryLow, NrpnLow, NrpnHigh, RpnLow, RpnHigh, AllSoundOff, ResetControllers, AllNotesOff, Ignored}
use Rattle.midi_model.specs.Sysex.{Doing, Plays, Resets, Tunes, Nothing, doing, tuning_of, Retune}
use Rattle.midi_model.specs.Channel.{role, Target, Nowhere, TuningProgram, ZoneSize, Value, target}
use Rattle.midi_model.specs.Music.{Music, quiet, channel_at, step}
use Rattle.midi_model.specs.Tuning.{Tuning, untuned, selected_of, chosen, chosen_by, tuning_after}
use Rattle.midi_model.specs.Receiver.{start, after}
use Rattle.retune_model.specs.Blocks.{Group}
use Rattle.retune_model.specs.Routes.{Setup, IsHarmless, sends, selects, setup_at, tuned_by, renewed, tuning_run, dump_before, dump_behind, dump_next, dump_block, dump_output}
use Rattle.retune_model.specs.Plain.{is_plain_entry, is_plain, ArePlain, valued, told, IsTuned, has_begun}
use Rattle.midi_model.specs.MusicLaws.{EventsSettle}
use Rattle.retune_model.proofs.Steady.{steady-quiet}
use Rattle.retune_model.proofs.SameMusic.{Ready, dump_keeps, unselected-quiet}
use Rattle.retune_model.proofs.Tunings.{received}

abbrev with_values : (ℕ → ℕ → Option ℕ) → Tuning → Tuning
with_values v u = record u { values = v }

renewed_values : (o : Option Retune) (u : Tuning) → renewed o u ≡ with_values (valued o u.values) u
renewed_values (Some r) u = refl
renewed_values None u = refl

tuned_sends : (t track : ℕ) (bs : List (List ℕ)) (gs : List Group) (u : Tuning) → tuned_by (sends t track bs ++ gs) u ≡ tuned_by gs (with_values (told bs u.values) u)
tuned_sends t track [] gs u = refl
tuned_sends t track (b ∷ bs) gs u = ap (λ x. tuned_by (sends t track bs ++ gs) x) (renewed_values (tuning_of b) u) ∙ tuned_sends t track bs gs (with_values (valued (tuning_of b) u.values) u)

pub values_selects : (t track p : ℕ) (cs : List ℕ) (u : Tuning) → (tuned_by (selects t track p cs) u).values ≡ u.values
values_selects t track p [] u = refl
values_selects t track p (c ∷ cs) u = values_selects t track p cs (record u { selected = set u.selected c (Some p) })

pub wide_selects : (t track p : ℕ) (cs : List ℕ) (u : Tuning) → length (tuned_by (selects t track p cs) u).selected ≡ length u.selected
wide_selects t track p [] u = refl
wide_selects t track p (c ∷ cs) u = wide_selects t track p cs (record u { selected = set u.selected c (Some p) }) ∙ length-set u.selected c (Some p)

either : (b : Bool) → (b ≡ true) ⊎ (b ≡ false)
either true = inl refl
either false = inr refl

-- what is selected stays so while the same program is selected elsewhere
kept_selects : (t track p d : ℕ) (cs : List ℕ) (u : Tuning) → AllByRecursion (λ c. c < 16) cs → length u.selected ≡ 16 → selected_of u d ≡ Some p
    → selected_of (tuned_by (selects t track p cs) u) d ≡ Some p
kept_selects t track p d [] u low wide h = h
kept_selects t track p d (c ∷ cs) u low wide h =
    let now : selected_of (record u { selected = set u.selected c (Some p) }) d ≡ Some p =
    elim (either (eqb d c)) [
      | inl e ↦ ap (λ k. get_or (set u.selected c (Some p)) k None) (eqb-true d c e) ∙ get_or-set_same u.selected c (Some p) None (rw wide low.0)
      | inr e ↦ get_or-set_other u.selected c d (Some p) None (eqb-false d c e) ∙ h
    ] in
    kept_selects t track p d cs (record u { selected = set u.selected c (Some p) }) low.1 (length-set u.selected c (Some p) ∙ wide) now

pub all_selects : (t track p : ℕ) (cs : List ℕ) (u : Tuning) → AllByRecursion (λ c. c < 16) cs → length u.selected ≡ 16
    → AllByRecursion (λ c. selected_of (tuned_by (selects t track p cs) u) c ≡ Some p) cs
all_selects t track p [] u low wide = tt
all_selects t track p (c ∷ cs) u low wide =
    let here : selected_of (record u { selected = set u.selected c (Some p) }) c ≡ Some p = get_or-set_same u.selected c (Some p) None (rw wide low.0) in
    let next : length (set u.selected c (Some p)) ≡ 16 = length-set u.selected c (Some p) ∙ wide in
    (kept_selects t track p c cs (record u { selected = set u.selected c (Some p) }) low.1 next here, all_selects t track p cs (record u { selected = set u.selected c (Some p) }) low.1 next)

-- a setup on values that are none
tuned_setup : (s : Setup) (e : MidiEvent) (u : Tuning) → IsHarmless s → u.values ≡ untuned.values → length u.selected ≡ 16 → IsTuned s (tuned_by (setup_at s e) u)
tuned_setup s e u h none wide =
    let v : Tuning = with_values (told s.dumps u.values) u in
    let P : Tuning → Type 0 = λ x. IsTuned s x in
    subst P (sym (tuned_sends e.tick e.track s.dumps (selects e.tick e.track s.program s.channels) u)) (record {
      values = values_selects e.tick e.track s.program s.channels v ∙ ap (λ x. told s.dumps x) none;
      selected = all_selects e.tick e.track s.program s.channels v h.channels wide;
      wide = wide_selects e.tick e.track s.program s.channels v ∙ wide;
    })

-- a plain event that is no reset leaves the values, and what the retuned parts have selected
pub record Leaves (part : ℕ → Bool) (u v : Tuning) : Type 0 where
  pub values : v.values ≡ u.values
  pub selected : (d : ℕ) → part d ≡ true → selected_of v d ≡ selected_of u d
  pub wide : length v.selected ≡ length u.selected

leaves_same : (part : ℕ → Bool) (u : Tuning) → Leaves part u u
leaves_same part u = record { values = refl; selected = λ d h. refl; wide = refl }

apart : (part : ℕ → Bool) (c d : ℕ) → part c ≡ false → part d ≡ true → d ≢ c
apart part c d h k e = let same : part d ≡ part c = ap part e in absurd cc

leaves_chosen : (part : ℕ → Bool) (c v : ℕ) (b : Bool) (w : Target) (u : Tuning) → part c ≡ b → is_plain_entry b EntryHigh w ≡ true → Leaves part u (chosen c v w u)
leaves_chosen part c v true TuningProgram u e h = absurd cc
leaves_chosen part c v false TuningProgram u e h = record {
  values = refl;
  selected = λ d k. get_or-set_other u.selected c d (Some v) None (apart part c d e k);
  wide = length-set u.selected c (Some v);
}
leaves_chosen part c v b Nowhere u e h = leaves_same part u
leaves_chosen part c v b ZoneSize u e h = leaves_same part u
leaves_chosen part c v b (Value p) u e h = leaves_same part u

leaves_turned : (part : ℕ → Bool) (m : Music) (c v : ℕ) (r : Role) (u : Tuning) → is_plain_entry (part c) r (target (channel_at m c).selection) ≡ true → Leaves part u (chosen_by m c v r u)
leaves_turned part m c v EntryHigh u h = leaves_chosen part c v (part c) (target (channel_at m c).selection) u refl h
leaves_turned part m c v Stored u h = leaves_same part u
leaves_turned part m c v EntryLow u h = leaves_same part u
leaves_turned part m c v NrpnLow u h = leaves_same part u
leaves_turned part m c v NrpnHigh u h = leaves_same part u
leaves_turned part m c v RpnLow u h = leaves_same part u
leaves_turned part m c v RpnHigh u h = leaves_same part u
leaves_turned part m c v AllSoundOff u h = leaves_same part u
leaves_turned part m c v ResetControllers u h = leaves_same part u
leaves_turned part m c v AllNotesOff u h = leaves_same part u
leaves_turned part m c v Ignored u h = leaves_same part u

pub leaves_message : (part : ℕ → Bool) (m : Music) (msg : Msg) (u : Tuning) → is_plain part m (Plays msg) ≡ true → Leaves part u (tuning_after m (Plays msg) u)
leaves_message part m (Control c n v) u h = leaves_turned part m c v (role n) u h
leaves_message part m (NoteOn c k v) u h = leaves_same part u
leaves_message part m (NoteOff c k v) u h = leaves_same part u
leaves_message part m (KeyPressure c k v) u h = leaves_same part u
leaves_message part m (Program c p) u h = leaves_same part u
leaves_message part m (Pressure c v) u h = leaves_same part u
leaves_message part m (Bend c v) u h = leaves_same part u

pub all_left : (part : ℕ → Bool) (p : ℕ) (cs : List ℕ) (u v : Tuning) → ((d : ℕ) → part d ≡ true → selected_of v d ≡ selected_of u d)
    → AllByRecursion (λ c. part c ≡ true) cs → AllByRecursion (λ c. selected_of u c ≡ Some p) cs → AllByRecursion (λ c. selected_of v c ≡ Some p) cs
all_left part p [] u v h parts k = tt
all_left part p (c ∷ cs) u v h parts k = (h c parts.0 ∙ k.0, all_left part p cs u v h parts.1 k.1)

still_tuned : (s : Setup) (part : ℕ → Bool) (u v : Tuning) → AllByRecursion (λ c. part c ≡ true) s.channels → Leaves part u v → IsTuned s u → IsTuned s v
still_tuned s part u v parts l h = record {
  values = l.values ∙ h.values;
  selected = all_left part s.program s.channels u v l.selected parts h.selected;
  wide = l.wide ∙ h.wide;
}

-- before any channel message no program has a value; after one, the setup stands
abbrev pub Tells : Setup → Bool → Tuning → Type 0
Tells s true u = IsTuned s u
Tells s false u = (u.values ≡ untuned.values) × (length u.selected ≡ 16)

pub tells_next : (s : Setup) (part : ℕ → Bool) (b : Bool) (m : Music) (e : MidiEvent) (d : Doing) (u : Tuning) → IsHarmless s → AllByRecursion (λ c. part c ≡ true) s.channels
    → is_plain part m d ≡ true → Tells s b u → Tells s (dump_next b d) (tuned_by (dump_behind s b e d) (tuning_after m d (tuned_by (dump_before s b e d) u)))
tells_next s part false m e (Plays msg) u h parts plain k =
    let v : Tuning = tuned_by (setup_at s e) u in
    still_tuned s part v (tuning_after m (Plays msg) v) parts (leaves_message part m msg v plain) (tuned_setup s e u h k.0 k.1)
tells_next s part true m e (Plays msg) u h parts plain k = still_tuned s part u (tuning_after m (Plays msg) u) parts (leaves_message part m msg u plain) k
tells_next s part false m e Resets u h parts plain k = (refl, refl)
tells_next s part true m e Resets u h parts plain k = tuned_setup s e untuned h refl refl
tells_next s part b m e (Tunes r) u h parts plain k = absurd cc
tells_next s part false m e Nothing u h parts plain k = k
tells_next s part true m e Nothing u h parts plain k = k

pub tells_run : (s : Setup) (part : ℕ → Bool) (b : Bool) (m : Music) (es : List MidiEvent) (u : Tuning) → IsHarmless s → AllByRecursion (λ c. part c ≡ true) s.channels
    → ArePlain part m es → Tells s b u → Tells s (has_begun b es) (tuning_run (dump_block s) (λ c e. dump_next c (doing e.what)) b m u es)
tells_run s part b m [] u h parts plain k = k
tells_run s part b m (e ∷ es) u h parts plain k = tells_run s part (dump_next b (doing e.what)) (step m e) es _ h parts plain.1 (tells_next s part b m e (doing e.what) u h parts plain.0 k)

-- once a channel message came, every retuned part plays the setup's tuning
pub dump_tuned : (settled : EventsSettle) (s : Setup) (part : ℕ → Bool) (es : List MidiEvent) → IsHarmless s → AllByRecursion (λ c. part c ≡ true) s.channels
    → ArePlain part quiet es → has_begun false es ≡ true → IsTuned s (after (dump_output s es)).tuning
dump_tuned settled s part es h parts plain begun =
    let whole : (after (dump_output s es)).tuning ≡ tuning_run (dump_block s) (λ c e. dump_next c (doing e.what)) false quiet untuned es =
    ap (λ x. x.tuning) (received (dump_block s) (λ b e. dump_next b (doing e.what)) Ready (dump_keeps s h) false start es (steady-quiet settled) (unselected-quiet quiet refl)) in
    let P : Bool → Type 0 = λ b. Tells s b (tuning_run (dump_block s) (λ c e. dump_next c (doing e.what)) false quiet untuned es) in
    let Q : Tuning → Type 0 = λ u. IsTuned s u in
    subst Q (sym whole) (subst P begun (tells_run s part false quiet es untuned h parts plain (refl, refl)))
