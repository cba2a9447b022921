-- On live each retuned note that sounds was told, and is played within the bound of its source pitch.
use Rattle.std.proofs.Common.{◌≡◌, ◌≤◌, ◌<◌, ◌+◌, ◌*◌, ℕ, zero, suc, List, [], ◌∷◌, Bool, true, false, not, ◌&&◌, nat_eq, Option, Some, refl, ap, sym, ◌∙◌, subst, arith, ℤ, pos, ◌+ℤ◌, map}
use Rattle.std.specs.Option.{unwrap_or, is_some}
use Rattle.std.specs.List.{AllByRecursion}
use Rattle.std.proofs.lemmas.Int.{ints}
use Rattle.std.proofs.lemmas.Bool.{eq-eqb, both_ways, and_from, or_left, or_right}
use Rattle.mt_base.specs.Pitch.{Pitch, exactly, added, Within}
use Rattle.mt_base.specs.declared.event.Msg.{Msg}
use Rattle.mt_base.specs.declared.event.Msg.TheVariants.{NoteOn, NoteOff, KeyPressure, Control, Program, Pressure, Bend}
use Rattle.mt_base.specs.Midi.{MidiWhat, Says, SysexOf, MetaOf, MidiEvent}
use Rattle.mt_base.specs.Valid.{IsValidWhat}
use Rattle.midi_model.specs.Sysex.{Doing, Plays, Resets, Tunes, Nothing}
use Rattle.midi_model.specs.Channel.{Channel}
use Rattle.midi_model.specs.Zones.{no_zones}
use Rattle.midi_model.specs.Notes.{Note, sounds, ending, Fades}
use Rattle.midi_model.specs.Music.{Music, channel_at, begun, advance, step}
use Rattle.midi_model.specs.MusicLaws.{NotesFade}
use Rattle.midi_model.specs.Tuning.{Tuning, selected_of}
use Rattle.midi_model.specs.Played.{played, in_steps, fine, coarse, bent}
use Rattle.retune_model.proofs.Begun.{AllNotes, Begins, BeginsIn, BeginsA, all_step, all_advanced, all_silent}
use Rattle.retune_model.specs.Table.{Scaling, terms_at, ratios_at_key, Bounds, IsTable, AreFewTerms, tuning_target}
use Rattle.retune_model.specs.Options.{Options, Route, ByLive, has_drums, keeps_drums, is_retuned, half_step, bound}
use Rattle.retune_model.specs.Source.{moved, heard_if, source_pitch}
use Rattle.retune_model.specs.PlaysTheSame.{IsWithin}
use Rattle.retune_model.specs.Faults.{Targets, is_part, has_target, misses_target}
use Rattle.retune_model.specs.Routes.{Live, Told, keys_told, live_next}
use Rattle.retune_model.specs.Plain.{IsTold}
use Rattle.retune_model.specs.Dump.{has_note_on, tuning_if, told_value, live_setup}
use Rattle.retune_model.proofs.Laws.{PitchLaws}
use Rattle.retune_model.proofs.Faultless.{IsFineMessage, IsFineEvent}
use Rattle.retune_model.proofs.Heard.{played_alone, has_pitch}
use Rattle.retune_model.proofs.Rounded.{heard_within}
use Rattle.retune_model.proofs.Served.{Shows, IsKnown, found, unless, still_part, of_passed}
use Rattle.retune_model.proofs.Told.{AllHave}
use Rattle.retune_model.proofs.Tunings.{made}

-- ---- what never changes: a note on of a retuned part has a target, and its channel is one of the setup's
pub record IsTellable (table : Targets) (l : Live) (c k t : ℕ) : Type 0 where
  pub low : k < 128
  pub bounds : Bounds
  pub found : table k t ≡ Some bounds
  pub target : tuning_target bounds ≡ Some (told_value table k)
  pub selected : (u : Tuning) → AllHave l u → selected_of u c ≡ Some l.setup.program
  pub part : l.is_retuned c ≡ true

abbrev pub IsTellableIn : Options → Targets → (ℕ → List ℕ) → List MidiEvent → ℕ → ℕ → ℕ → Type 0
IsTellableIn o table change source c k t = is_retuned (keeps_drums o source) c ≡ true → IsTellable table (live_setup o change source) c k t

tellable_note_on : (o : Options) (table : Targets) (change : ℕ → List ℕ) (source : List MidiEvent) (m : Music) (c k v t : ℕ) → o.route ≡ ByLive → ((key onset : ℕ) → table key onset ≡ table key 0)
    → IsFineMessage o table m t (NoteOn c k (suc v)) → c ≤ 15 → k ≤ 127 → Shows o source (Says (NoteOn c k (suc v))) → IsTellableIn o table change source c k t
tellable_note_on o table change source m c k v t route one f channel key shows retuned =
    let part : is_part o c ≡ true = still_part o.keep_drums (has_drums source) (nat_eq c 9) shows.drums retuned in
    let bounds = found (table k t) (unless (is_part o c) (is_some (table k t)) f.mapped part) in
    let misses : (is_part o c && not (has_target o.route o.range bounds.value)) ≡ false = ap (λ x. is_part o c && misses_target o x) (sym bounds.is) ∙ f.in_device in
    let has : has_target o.route o.range bounds.value ≡ true = unless (is_part o c) (has_target o.route o.range bounds.value) misses part in
    let value = found (tuning_target bounds.value) (ap (λ r. has_target r o.range bounds.value) (sym route) ∙ has) in
    let told : told_value table k ≡ value.value = ap (λ x. unwrap_or x 0) (ap tuning_if (sym (one k t) ∙ bounds.is) ∙ value.is) in
    record {
      low = omega (arith, key);
      bounds = bounds.value;
      found = bounds.is;
      target = value.is ∙ ap (λ x. Some x) (sym told);
      selected = λ u have. of_passed (λ d. selected_of u d ≡ Some o.program) (λ d. is_part o d && has_note_on (λ x. nat_eq x d) source) 16 0 c (omega arith) (omega (arith, channel))
          (and_from (is_part o c) (has_note_on (λ x. nat_eq x c) source) part (shows.channel c (eq-eqb c c refl))) have;
      part = part;
    }

begins_message : (o : Options) (table : Targets) (change : ℕ → List ℕ) (source : List MidiEvent) (m : Music) (t : ℕ) (msg : Msg) → o.route ≡ ByLive → ((key onset : ℕ) → table key onset ≡ table key 0)
    → IsFineMessage o table m t msg → IsValidWhat (Says msg) → Shows o source (Says msg) → Begins (IsTellableIn o table change source) t msg
begins_message o table change source m t (NoteOn c k (suc v)) route one f valid shows = tellable_note_on o table change source m c k v t route one f valid.0 valid.1 shows
begins_message o table change source m t (NoteOn c k zero) route one f valid shows = tt
begins_message o table change source m t (NoteOff c k v) route one f valid shows = tt
begins_message o table change source m t (KeyPressure c k v) route one f valid shows = tt
begins_message o table change source m t (Control c n v) route one f valid shows = tt
begins_message o table change source m t (Program c p) route one f valid shows = tt
begins_message o table change source m t (Pressure c v) route one f valid shows = tt
begins_message o table change source m t (Bend c v) route one f valid shows = tt

begins_what : (o : Options) (table : Targets) (change : ℕ → List ℕ) (source : List MidiEvent) (m : Music) (t : ℕ) (w : MidiWhat) → o.route ≡ ByLive → ((key onset : ℕ) → table key onset ≡ table key 0)
    → IsFineEvent o table m t w → IsValidWhat w → Shows o source w → BeginsIn (IsTellableIn o table change source) t w
begins_what o table change source m t (Says msg) route one f valid shows = begins_message o table change source m t msg route one f valid shows
begins_what o table change source m t (SysexOf lead bs) route one f valid shows = tt
begins_what o table change source m t (MetaOf kind bs) route one f valid shows = tt

pub tellable_step : NotesFade → (o : Options) (table : Targets) (change : ℕ → List ℕ) (source : List MidiEvent) (m : Music) (e : MidiEvent) → o.route ≡ ByLive → ((key onset : ℕ) → table key onset ≡ table key 0)
    → IsFineEvent o table m e.tick e.what → IsKnown o source e → AllNotes (IsTellableIn o table change source) m.notes → AllNotes (IsTellableIn o table change source) (step m e).notes
tellable_step fade o table change source m e route one f known h = all_step fade (IsTellableIn o table change source) m e h (begins_what o table change source m e.tick e.what route one f known.0.what known.1)

-- ---- what a sounding note was told
abbrev pub IsToldNote : (ℕ → Bool) → Told → Note → Type 0
IsToldNote part s n = sounds n ≡ true → part n.channel ≡ true → (s.keys n.key ≡ true) × (s.begun ≡ true)

told_fades : (part : ℕ → Bool) (s : Told) (a b : Note) → Fades a b → IsToldNote part s a → IsToldNote part s b
told_fades part s a b f h on is =
    let x = h (f.sounds on) (ap part (sym f.channel) ∙ is) in
    (ap s.keys f.key ∙ x.0, x.1)

-- once told a key stays so until a reset
keys_stay : (l : Live) (keys : ℕ → Bool) (msg : Msg) (k : ℕ) → keys k ≡ true → keys_told l keys msg k ≡ true
keys_stay l keys (NoteOn c j (suc v)) k h = or_right (l.is_retuned c && nat_eq j k) (keys k) h
keys_stay l keys (NoteOn c j zero) k h = h
keys_stay l keys (NoteOff c j v) k h = h
keys_stay l keys (KeyPressure c j v) k h = h
keys_stay l keys (Control c n v) k h = h
keys_stay l keys (Program c p) k h = h
keys_stay l keys (Pressure c v) k h = h
keys_stay l keys (Bend c v) k h = h

told_stays : (l : Live) (part : ℕ → Bool) (s : Told) (msg : Msg) (ns : List Note) → AllByRecursion (IsToldNote part s) ns → AllByRecursion (IsToldNote part (live_next l s (Plays msg))) ns
told_stays l part s msg [] h = tt
told_stays l part s msg (n ∷ ns) h = ((λ on is. let x = h.0 on is in (keys_stay l s.keys msg n.key x.0, refl)), told_stays l part s msg ns h.1)

-- the note that a message begins is told with it
told_begun : (l : Live) (part : ℕ → Bool) (s : Told) (m : Music) (t : ℕ) (msg : Msg) → ((c k v : ℕ) → msg ≡ NoteOn c k (suc v) → part c ≡ true → l.is_retuned c ≡ true) → BeginsA (IsToldNote part (live_next l s (Plays msg))) m t (Plays msg)
told_begun l part s m t (NoteOn c k (suc v)) h = ((λ on is. (or_left (l.is_retuned c && nat_eq k k) (s.keys k) (and_from (l.is_retuned c) (nat_eq k k) (h c k v refl is) (eq-eqb k k refl)), refl)), tt)
told_begun l part s m t (NoteOn c k zero) h = tt
told_begun l part s m t (NoteOff c k v) h = tt
told_begun l part s m t (KeyPressure c k v) h = tt
told_begun l part s m t (Control c n v) h = tt
told_begun l part s m t (Program c p) h = tt
told_begun l part s m t (Pressure c v) h = tt
told_begun l part s m t (Bend c v) h = tt

none_told : (part : ℕ → Bool) (s : Told) (ns : List Note) → AllByRecursion (λ n. sounds n ≡ false) ns → AllByRecursion (IsToldNote part s) ns
none_told part s [] h = tt
none_told part s (n ∷ ns) h = ((λ on is. absurd (both_ways (sounds n) h.0 on)), none_told part s ns h.1)

pub told_advance : NotesFade → (l : Live) (part : ℕ → Bool) (s : Told) (m : Music) (t : ℕ) (d : Doing) → ((msg : Msg) (c k v : ℕ) → d ≡ Plays msg → msg ≡ NoteOn c k (suc v) → part c ≡ true → l.is_retuned c ≡ true)
    → AllByRecursion (IsToldNote part s) m.notes → AllByRecursion (IsToldNote part (live_next l s d)) (advance t d m).notes
told_advance fade l part s m t (Plays msg) f h =
    all_advanced fade (IsToldNote part (live_next l s (Plays msg))) (told_fades part (live_next l s (Plays msg))) m t (Plays msg) (told_stays l part s msg m.notes h) (told_begun l part s m t msg (λ c k v. f msg c k v refl))
told_advance fade l part s m t Resets f h = none_told part (live_next l s Resets) (map (ending t) m.notes) (all_silent t m.notes)
told_advance fade l part s m t (Tunes r) f h = h
told_advance fade l part s m t Nothing f h = h

-- ---- such a note's pitch
pub record Tells (scaling : Scaling) (o : Options) (table : Targets) : Type 0 where
  pub laws : PitchLaws
  pub route : o.route ≡ ByLive
  pub bounds : IsTable scaling table
  pub few_terms : AreFewTerms scaling

pub heard_live : (scaling : Scaling) (o : Options) (table : Targets) (l : Live) (m : Music) (u : Tuning) (s : Told) (n : Note) → Tells scaling o table
    → m.zones ≡ no_zones → IsTold l (told_value table) s u → IsTellable table l n.channel n.key n.onset → s.keys n.key ≡ true → s.begun ≡ true
    → IsWithin (source_pitch scaling o m n) (played (made m u) n) (bound o)
heard_live scaling o table l m u s n g z told h key begun =
    let p = has_pitch scaling table n.key n.onset h.bounds g.bounds h.low h.found in
    let c : Channel = channel_at m n.channel in
    let x : ℤ = (fine c +ℤ coarse c) +ℤ bent c in
    let v : ℕ = told_value table n.key in
    let value : u.values l.setup.program n.key ≡ Some v = told.values n.key key in
    let sum : played (made m u) n ≡ ((pos (195312500 * v) +ℤ fine c) +ℤ coarse c) +ℤ bent c =
    played_alone (made m u) n l.setup.program z (h.selected u (told.selected begun)) ∙ ap (λ w. ((in_steps n.key w +ℤ fine c) +ℤ coarse c) +ℤ bent c) value in
    let again : ((pos (195312500 * v) +ℤ fine c) +ℤ coarse c) +ℤ bent c ≡ pos (195312500 * v) +ℤ x = regroup (pos (195312500 * v)) (fine c) (coarse c) (bent c) in
    let near : Within (added p.pitch (exactly x)) (played (made m u) n) (97656250 + 32000000) =
    heard_within g.laws p.pitch (terms_at scaling n.key n.onset) (ratios_at_key scaling n.key n.onset) h.bounds v x (played (made m u) n) p.bounds (g.few_terms n.key n.onset (omega (arith, h.low))) h.target (sum ∙ again) in
    let P : Route → Type 0 = λ r. Within (added p.pitch (exactly ((fine c +ℤ coarse c) +ℤ moved r o.range c))) (played (made m u) n) (half_step r o.range + 32000000) in
    let Q : Option Pitch → Type 0 = λ q. IsWithin (heard_if o c q) (played (made m u) n) (bound o) in
    subst Q (sym p.is) (subst P (sym g.route) near)
  where
    regroup : (a b c d : ℤ) → ((a +ℤ b) +ℤ c) +ℤ d ≡ a +ℤ ((b +ℤ c) +ℤ d)
    regroup a b c d = omega (arith, ints)
