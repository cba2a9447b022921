-- The live route's output plays the same as its source.
use Rattle.std.proofs.Common.{◌≡◌, ◌≤◌, ◌<◌, ℕ, zero, suc, List, [], ◌∷◌, ◌++◌, Bool, true, false, cond, ◌&&◌, not, nat_eq, Some, refl, ap, sym, ◌∙◌, subst, map, append_assoc}
use Rattle.std.specs.List.{AllByRecursion, filter}
use Rattle.mt_base.specs.declared.event.Msg.{Msg}
use Rattle.mt_base.specs.declared.event.Msg.TheVariants.{NoteOn, NoteOff, KeyPressure, Control, Program, Pressure, Bend}
use Rattle.mt_base.specs.Midi.{MidiWhat, Says, SysexOf, MetaOf, MidiEvent}
use Rattle.midi_model.specs.Sysex.{Doing, Plays, Resets, Tunes, Nothing, doing}
use Rattle.midi_model.specs.Zones.{no_zones}
use Rattle.midi_model.specs.Notes.{Note, sounds, cut_off}
use Rattle.midi_model.specs.Music.{Music, quiet, begun, act, settle_note, advance, step, play}
use Rattle.midi_model.specs.Tuning.{Tuning, untuned, tuning_after}
use Rattle.midi_model.specs.Receiver.{Receiver, start, receive, after}
use Rattle.retune_model.proofs.Steady.{Steady, steady-quiet, steady-step}
use Rattle.retune_model.proofs.Begun.{AllNotes}
use Rattle.retune_model.specs.Table.{Scaling}
use Rattle.retune_model.specs.Options.{Options, ByLive, bends_notes, has_drums, keeps_drums, is_drum_message, is_retuned}
use Rattle.retune_model.specs.PlaysTheSame.{Pairwise, until, at_tick, retuned_notes, key_of, bend_target_if, output_key, IsSameNote, HasSameNotes}
use Rattle.retune_model.proofs.Receivers.{SoundsTheSame, HasSameSound, Beginning, last_note, beginning, beginnings_from, BeginsAlike, BeginsTheSame, PlaysTheSameMusic}
use Rattle.retune_model.specs.Faults.{Targets, is_part}
use Rattle.retune_model.specs.Blocks.{Group, Sends, events_of, all_events, AreSilent, written}
use Rattle.retune_model.specs.Routes.{translated, Live, Told, nothing_told, IsHarmlessLive, tuned_by, tuning_run, dump_before, dump_behind, change_due, live_before, live_next, live_block, live_output}
use Rattle.retune_model.specs.Plain.{is_plain, ArePlain, IsTold, told_after, Reads}
use Rattle.retune_model.specs.Dump.{told_value, live_setup}
use Rattle.retune_model.proofs.OnePort.{IsLivable, told_live}
use Rattle.retune_model.proofs.Laws.{Laws}
use Rattle.retune_model.proofs.SameMusic.{Ready, live_keeps, unselected-quiet}
use Rattle.retune_model.proofs.Tunings.{made, groups_received, received}
use Rattle.retune_model.proofs.Told.{told_message, told_next, told_run}
use Rattle.retune_model.proofs.Faultless.{IsFineEvent, AreFineFrom, all_plain, no_zones_step, sysex_no_play}
use Rattle.retune_model.proofs.Fronts.{all_append, all_front, Split, split, until_source, until_split, ticks_before, ticks_behind, plain_front, faultless_front}
use Rattle.retune_model.proofs.Served.{Shows, IsKnown, still_part, setup_harmless, setup_parts}
use Rattle.retune_model.proofs.DumpSame.{last_added, pairwise_same, pairwise_append, of_notes, every_note, known, source_music, no_beginnings, LastHas, event}
use Rattle.retune_model.proofs.LiveNotes.{IsTellableIn, tellable_step, IsToldNote, told_advance, Tells, heard_live}

-- the route's blocks from a state on
abbrev pub blocks : Live → Told → List MidiEvent → List MidiEvent
blocks l s es = translated (live_block l) (λ x e. live_next l x (doing e.what)) s es

-- ---- the output up to a tick
ticks_change : (P : ℕ → Type 0) (l : Live) (s : Told) (e : MidiEvent) (msg : Msg) → P e.tick → AllByRecursion (λ x. P x.tick) (all_events (change_due l s e msg))
ticks_change P l s e (NoteOn c k (suc v)) p = pick (l.is_retuned c && not (s.keys k))
  where
    pick : (b : Bool) → AllByRecursion (λ x. P x.tick) (all_events (cond b (Sends e.tick e.track (l.change k) ∷ []) []))
    pick true = (p, tt)
    pick false = tt
ticks_change P l s e (NoteOn c k zero) p = tt
ticks_change P l s e (NoteOff c k v) p = tt
ticks_change P l s e (KeyPressure c k v) p = tt
ticks_change P l s e (Control c n v) p = tt
ticks_change P l s e (Program c n) p = tt
ticks_change P l s e (Pressure c v) p = tt
ticks_change P l s e (Bend c v) p = tt

-- of the events of two lists of groups, what holds of both
pub both_groups : (Q : MidiEvent → Type 0) (gs hs : List Group) → AllByRecursion Q (all_events gs) → AllByRecursion Q (all_events hs) → AllByRecursion Q (all_events (gs ++ hs))
both_groups Q [] hs h k = k
both_groups Q (g ∷ gs) hs h k = subst (λ x. AllByRecursion Q x) refl (all_append Q (events_of g) (all_events (gs ++ hs)) (all_front Q (events_of g) (all_events gs) h) (both_groups Q gs hs (behind (events_of g) (all_events gs) h) k))
  where
    behind : (xs ys : List MidiEvent) → AllByRecursion Q (xs ++ ys) → AllByRecursion Q ys
    behind [] ys x = x
    behind (a ∷ xs) ys x = behind xs ys x.1

ticks_live : (P : ℕ → Type 0) (l : Live) (s : Told) (e : MidiEvent) (d : Doing) → P e.tick → AllByRecursion (λ x. P x.tick) (all_events (live_before l s e d))
ticks_live P l s e (Plays msg) p = both_groups (λ x. P x.tick) (dump_before l.setup s.begun e (Plays msg)) (change_due l s e msg) (ticks_before P l.setup s.begun e (Plays msg) p) (ticks_change P l s e msg p)
ticks_live P l s e Resets p = tt
ticks_live P l s e (Tunes x) p = tt
ticks_live P l s e Nothing p = tt

ticks_blocks : (P : ℕ → Type 0) (l : Live) (s : Told) (es : List MidiEvent) → AllByRecursion (λ e. P e.tick) es → AllByRecursion (λ e. P e.tick) (blocks l s es)
ticks_blocks P l s [] h = tt
ticks_blocks P l s (e ∷ es) h =
    all_append (λ x. P x.tick) (written (live_block l s e)) (blocks l (live_next l s (doing e.what)) es)
    (all_append (λ x. P x.tick) (all_events (live_before l s e (doing e.what))) (e ∷ all_events (dump_behind l.setup s.begun e (doing e.what))) (ticks_live P l s e (doing e.what) h.0) (h.0, ticks_behind P l.setup s.begun e (doing e.what) h.0))
    (ticks_blocks P l (live_next l s (doing e.what)) es h.1)

blocks-append : (l : Live) (s : Told) (xs ys : List MidiEvent) → blocks l s (xs ++ ys) ≡ blocks l s xs ++ blocks l (told_after l s xs) ys
blocks-append l s [] ys = refl
blocks-append l s (x ∷ xs) ys =
    ap (λ z. written (live_block l s x) ++ z) (blocks-append l (live_next l s (doing x.what)) xs ys)
    ∙ sym (append_assoc (written (live_block l s x)) (blocks l (live_next l s (doing x.what)) xs) (blocks l (told_after l (live_next l s (doing x.what)) xs) ys))

until_output : (t : ℕ) (l : Live) (es : List MidiEvent) (c : Split t es) → until t (live_output l es) ≡ live_output l c.early
until_output t l es c =
    ap (λ x. until t (blocks l nothing_told x)) c.is
    ∙ ap (until t) (blocks-append l nothing_told c.early c.late)
    ∙ until_split t (blocks l nothing_told c.early) (blocks l (told_after l nothing_told c.early) c.late) (ticks_blocks (λ x. x ≤ t) l nothing_told c.early c.early_ticks) (ticks_blocks (λ x. t < x) l (told_after l nothing_told c.early) c.late c.late_ticks)

-- ---- the premises
harmless : (scaling : Scaling) (o : Options) (table : Targets) (change : ℕ → List ℕ) (es : List MidiEvent) → IsLivable scaling o table change es → IsHarmlessLive (live_setup o change es)
harmless scaling o table change es d = record {
  setup = record { dumps = tt; channels = (setup_harmless o (change 0) es (d.changes.no_reset 0)).channels };
  change = d.changes.no_reset;
}

reads : (scaling : Scaling) (o : Options) (table : Targets) (change : ℕ → List ℕ) (es : List MidiEvent) → IsLivable scaling o table change es → Reads (live_setup o change es) (told_value table)
reads scaling o table change es d = record { none = refl; change = d.changes.reads }

tells : (laws : Laws) (scaling : Scaling) (o : Options) (table : Targets) (change : ℕ → List ℕ) (es : List MidiEvent) → IsLivable scaling o table change es → Tells scaling o table
tells laws scaling o table change es d = record { laws = laws.pitch; route = d.route; bounds = d.bounds; few_terms = d.few_terms }

-- ---- what is kept by each event: notes that have targets, notes that were told
record IsKept (o : Options) (table : Targets) (change : ℕ → List ℕ) (source : List MidiEvent) (s : Told) (m : Music) : Type 0 where
  zones : m.zones ≡ no_zones
  tellable : AllNotes (IsTellableIn o table change source) m.notes
  told : AllByRecursion (IsToldNote (is_retuned (keeps_drums o source)) s) m.notes

part_note : (o : Options) (source : List MidiEvent) (w : MidiWhat) → Shows o source w → (msg : Msg) (c k v : ℕ) → doing w ≡ Plays msg → msg ≡ NoteOn c k (suc v) → is_retuned (keeps_drums o source) c ≡ true → is_part o c ≡ true
part_note o source (Says x) shows msg c k v e f is =
    let same : x ≡ NoteOn c k (suc v) = ap (λ d. message_of x d) e ∙ f in
    let drums : nat_eq c 9 ≡ true → has_drums source ≡ true = λ h. shows.drums (nine x same h) in
    still_part o.keep_drums (has_drums source) (nat_eq c 9) drums is
  where
    message_of : Msg → Doing → Msg
    message_of y (Plays z) = z
    message_of y _ = y

    nine : (y : Msg) → y ≡ NoteOn c k (suc v) → nat_eq c 9 ≡ true → is_drum_message (Says y) ≡ true
    nine y g h = ap (λ z. is_drum_message (Says z)) g ∙ h
part_note o source (SysexOf lead bs) shows msg c k v e f is = absurd (sysex_no_play lead bs msg e)
part_note o source (MetaOf kind bs) shows msg c k v e f is = absurd cc

kept_step : (laws : Laws) (scaling : Scaling) (o : Options) (table : Targets) (change : ℕ → List ℕ) (source : List MidiEvent) (s : Told) (m : Music) (e : MidiEvent) → IsLivable scaling o table change source → IsFineEvent o table m e.tick e.what
    → IsKnown o source e → IsKept o table change source s m → IsKept o table change source (live_next (live_setup o change source) s (doing e.what)) (step m e)
kept_step laws scaling o table change source s m e d f known k = record {
  zones = no_zones_step o table m e f k.zones;
  tellable = tellable_step laws.fade o table change source m e d.route d.one_table f known k.tellable;
  told = told_advance laws.fade (live_setup o change source) (is_retuned (keeps_drums o source)) s m e.tick (doing e.what) (part_note o source e.what known.1) k.told;
}

kept_play : (laws : Laws) (scaling : Scaling) (o : Options) (table : Targets) (change : ℕ → List ℕ) (source : List MidiEvent) (s : Told) (m : Music) (es : List MidiEvent) → IsLivable scaling o table change source → AreFineFrom o table m es
    → AllByRecursion (IsKnown o source) es → IsKept o table change source s m → IsKept o table change source (told_after (live_setup o change source) s es) (play m es)
kept_play laws scaling o table change source s m [] d f known k = k
kept_play laws scaling o table change source s m (e ∷ es) d f known k = kept_play laws scaling o table change source (live_next (live_setup o change source) s (doing e.what)) (step m e) es d f.1 known.1 (kept_step laws scaling o table change source s m e d f.0 known.0 k)

at_first : (o : Options) (table : Targets) (change : ℕ → List ℕ) (source : List MidiEvent) → IsKept o table change source nothing_told quiet
at_first o table change source = record { zones = refl; tellable = tt; told = tt }

-- a front of the source, and what the route makes of it
record IsFront (o : Options) (table : Targets) (change : ℕ → List ℕ) (source xs : List MidiEvent) : Type 0 where
  kept : IsKept o table change source (told_after (live_setup o change source) nothing_told xs) (play quiet xs)
  tuning : Tuning
  output : after (live_output (live_setup o change source) xs) ≡ made (play quiet xs) tuning
  is_told : IsTold (live_setup o change source) (told_value table) (told_after (live_setup o change source) nothing_told xs) tuning

front : (laws : Laws) (scaling : Scaling) (o : Options) (table : Targets) (change : ℕ → List ℕ) (es xs ys : List MidiEvent) → IsLivable scaling o table change es → es ≡ xs ++ ys → IsFront o table change es xs
front laws scaling o table change es xs ys d e =
    let l : Live = live_setup o change es in
    let h : IsHarmlessLive l = harmless scaling o table change es d in
    let clean : AreFineFrom o table quiet xs = faultless_front o table quiet xs ys (subst (λ z. AreFineFrom o table quiet z) e d.faultless) in
    let plain : ArePlain (is_part o) quiet xs = plain_front (is_part o) quiet xs ys (subst (λ z. ArePlain (is_part o) quiet z) e (all_plain o table quiet es d.valid d.faultless)) in
    let all : AllByRecursion (IsKnown o es) xs = all_front (IsKnown o es) xs ys (subst (λ z. AllByRecursion (IsKnown o es) z) e (known o es d.valid)) in
    record {
      kept = kept_play laws scaling o table change es nothing_told quiet xs d clean all (at_first o table change es);
      tuning = tuning_run (live_block l) (λ s x. live_next l s (doing x.what)) nothing_told quiet untuned xs;
      output = received (live_block l) (λ s x. live_next l s (doing x.what)) (λ s m. Ready s.begun m) (live_keeps l h) nothing_told start xs (steady-quiet laws.settled) (unselected-quiet quiet refl);
      is_told = told_run l (told_value table) nothing_told quiet xs untuned h.setup (reads scaling o table change es d) (setup_parts o (change 0) es) plain (record { values = λ k t. absurd cc; selected = λ t. absurd cc; wide = refl });
    }

-- ---- at a tick
same_note : (o : Options) (table : Targets) (n : Note) → o.route ≡ ByLive → IsSameNote (output_key o table) n n
same_note o table n route = record {
  key = ap (λ r. cond (bends_notes r) (key_of (bend_target_if o.range (table n.key n.onset))) (Some n.key)) route;
  onset = refl;
  velocity = refl;
  voice = refl;
  release = refl;
  ended = refl;
}

notes_at : (laws : Laws) (scaling : Scaling) (o : Options) (table : Targets) (change : ℕ → List ℕ) (es xs ys : List MidiEvent) (part : ℕ → Bool) → IsLivable scaling o table change es → es ≡ xs ++ ys
    → Pairwise (IsSameNote (output_key o table)) (retuned_notes part (after xs)) (retuned_notes part (after (live_output (live_setup o change es) xs)))
notes_at laws scaling o table change es xs ys part d e =
    let f = front laws scaling o table change es xs ys d e in
    let P : Receiver → Type 0 = λ r. Pairwise (IsSameNote (output_key o table)) (retuned_notes part r) (retuned_notes part (after (live_output (live_setup o change es) xs))) in
    let Q : Receiver → Type 0 = λ r. Pairwise (IsSameNote (output_key o table)) (retuned_notes part (made (play quiet xs) (after xs).tuning)) (retuned_notes part r) in
    subst P (sym (source_music xs)) (subst Q (sym f.output)
    (pairwise_same (IsSameNote (output_key o table)) (filter (λ n. part n.channel) (play quiet xs).notes)
    (every_note (λ n. IsSameNote (output_key o table) n n) (λ n. same_note o table n d.route) (filter (λ n. part n.channel) (play quiet xs).notes))))

sound_note : (scaling : Scaling) (o : Options) (table : Targets) (change : ℕ → List ℕ) (source : List MidiEvent) (s : Told) (m : Music) (w u : Tuning) → Tells scaling o table → m.zones ≡ no_zones
    → IsTold (live_setup o change source) (told_value table) s u → (n : Note) → IsTellableIn o table change source n.channel n.key n.onset → IsToldNote (is_retuned (keeps_drums o source)) s n
    → is_retuned (keeps_drums o source) n.channel ≡ true → sounds n ≡ true → SoundsTheSame scaling o (made m w) (made m u) n n
sound_note scaling o table change source s m w u g z told n tellable is_told part on =
    let x = is_told on part in
    record {
      controls = refl;
      pressure = refl;
      key_pressure = refl;
      parameters = λ p k. refl;
      pitch = heard_live scaling o table (live_setup o change source) m u s n g z told (tellable part) x.0 x.1;
    }

sound_notes : (scaling : Scaling) (o : Options) (table : Targets) (change : ℕ → List ℕ) (source : List MidiEvent) (s : Told) (m : Music) (w u : Tuning) (ns : List Note) → Tells scaling o table → m.zones ≡ no_zones
    → IsTold (live_setup o change source) (told_value table) s u → AllNotes (IsTellableIn o table change source) ns → AllByRecursion (IsToldNote (is_retuned (keeps_drums o source)) s) ns
    → AllByRecursion (λ n. is_retuned (keeps_drums o source) n.channel ≡ true → sounds n ≡ true → SoundsTheSame scaling o (made m w) (made m u) n n) ns
sound_notes scaling o table change source s m w u [] g z told h k = tt
sound_notes scaling o table change source s m w u (n ∷ ns) g z told h k =
    (sound_note scaling o table change source s m w u g z told n h.0 k.0, sound_notes scaling o table change source s m w u ns g z told h.1 k.1)

sound_at : (laws : Laws) (scaling : Scaling) (o : Options) (table : Targets) (change : ℕ → List ℕ) (es xs ys : List MidiEvent) → IsLivable scaling o table change es → es ≡ xs ++ ys
    → Pairwise (λ a b. sounds a ≡ true → SoundsTheSame scaling o (after xs) (after (live_output (live_setup o change es) xs)) a b)
    (retuned_notes (is_retuned (keeps_drums o es)) (after xs)) (retuned_notes (is_retuned (keeps_drums o es)) (after (live_output (live_setup o change es) xs)))
sound_at laws scaling o table change es xs ys d e =
    let f = front laws scaling o table change es xs ys d e in
    let part : ℕ → Bool = is_retuned (keeps_drums o es) in
    let m : Music = play quiet xs in
    let w : Tuning = (after xs).tuning in
    let R : Receiver → Receiver → Note → Note → Type 0 = λ rs ro a b. sounds a ≡ true → SoundsTheSame scaling o rs ro a b in
    let P : Receiver → Type 0 = λ r. Pairwise (R r (after (live_output (live_setup o change es) xs))) (retuned_notes part r) (retuned_notes part (after (live_output (live_setup o change es) xs))) in
    let Q : Receiver → Type 0 = λ r. Pairwise (R (made m w) r) (retuned_notes part (made m w)) (retuned_notes part r) in
    let S : Note → Type 0 = λ n. sounds n ≡ true → SoundsTheSame scaling o (made m w) (made m f.tuning) n n in
    subst P (sym (source_music xs)) (subst Q (sym f.output)
    (pairwise_same (R (made m w) (made m f.tuning)) (filter (λ n. part n.channel) m.notes)
    (of_notes part S m.notes
    (sound_notes scaling o table change es (told_after (live_setup o change es) nothing_told xs) m w f.tuning m.notes (tells laws scaling o table change es d) f.kept.zones f.is_told f.kept.tellable f.kept.told))))

same_notes : (laws : Laws) (scaling : Scaling) (o : Options) (table : Targets) (change : ℕ → List ℕ) (es : List MidiEvent) → IsLivable scaling o table change es → HasSameNotes (output_key o table) (is_retuned (keeps_drums o es)) es (told_live o change es)
same_notes laws scaling o table change es d t =
    let c = split t 0 es d.in_order in
    let part : ℕ → Bool = is_retuned (keeps_drums o es) in
    let P : List MidiEvent → Type 0 = λ x. Pairwise (IsSameNote (output_key o table)) (retuned_notes part (after x)) (retuned_notes part (at_tick t (told_live o change es))) in
    let Q : List MidiEvent → Type 0 = λ y. Pairwise (IsSameNote (output_key o table)) (retuned_notes part (after c.early)) (retuned_notes part (after y)) in
    subst P (sym (until_source t es c)) (subst Q (sym (until_output t (live_setup o change es) es c)) (notes_at laws scaling o table change es c.early c.late part d c.is))

same_sounds : (laws : Laws) (scaling : Scaling) (o : Options) (table : Targets) (change : ℕ → List ℕ) (es : List MidiEvent) → IsLivable scaling o table change es → HasSameSound scaling o (is_retuned (keeps_drums o es)) es (told_live o change es)
same_sounds laws scaling o table change es d t =
    let c = split t 0 es d.in_order in
    let part : ℕ → Bool = is_retuned (keeps_drums o es) in
    let R : List MidiEvent → List MidiEvent → Type 0 = λ x y. Pairwise (λ a b. sounds a ≡ true → SoundsTheSame scaling o (after x) (after y) a b) (retuned_notes part (after x)) (retuned_notes part (after y)) in
    let P : List MidiEvent → Type 0 = λ x. R x (until t (told_live o change es)) in
    let Q : List MidiEvent → Type 0 = λ y. R c.early y in
    subst P (sym (until_source t es c)) (subst Q (sym (until_output t (live_setup o change es) es c)) (sound_at laws scaling o table change es c.early c.late d c.is))

-- ---- right from its beginning
abbrev IsPlain : (ℕ → Bool) → Note → Type 0
IsPlain part n = (part n.channel ≡ true) × (sounds n ≡ true)

last_sounds : (part : ℕ → Bool) (m : Music) (t c k v : ℕ) → part c ≡ true → LastHas (IsPlain part) (advance t (Plays (NoteOn c k (suc v))) m).notes
last_sounds part m t c k v h =
    let a : Music = act t (NoteOn c k (suc v)) m in
    last_added (IsPlain part) (settle_note a.channels a.zones t) (map (cut_off t c k) m.notes) (begun m t c k (suc v)) (h, refl)

last_alike : (scaling : Scaling) (o : Options) (table : Targets) (change : ℕ → List ℕ) (source : List MidiEvent) (s : Told) (m : Music) (w u : Tuning) (track : ℕ) (ns : List Note) → Tells scaling o table
    → m.zones ≡ no_zones → IsTold (live_setup o change source) (told_value table) s u → AllNotes (IsTellableIn o table change source) ns → AllByRecursion (IsToldNote (is_retuned (keeps_drums o source)) s) ns
    → LastHas (IsPlain (is_retuned (keeps_drums o source))) ns → Pairwise (BeginsAlike scaling o) (last_note (made m w) track ns) (last_note (made m u) track ns)
last_alike scaling o table change source s m w u track [] g z told h k last = tt
last_alike scaling o table change source s m w u track (n ∷ []) g z told h k last =
    let x = k.0 last.1 last.0 in
    (record { track = refl; pitch = heard_live scaling o table (live_setup o change source) m u s n g z told (h.0 last.0) x.0 x.1 }, tt)
last_alike scaling o table change source s m w u track (n ∷ x ∷ ns) g z told h k last = last_alike scaling o table change source s m w u track (x ∷ ns) g z told h.1 k.1 last

-- one event: now is the music after it
one_alike : (laws : Laws) (scaling : Scaling) (o : Options) (table : Targets) (change : ℕ → List ℕ) (source : List MidiEvent) (s : Told) (m : Music) (w u : Tuning) (t track : ℕ) (what : MidiWhat)
    → IsLivable scaling o table change source → is_plain (is_part o) m (doing what) ≡ true → IsTold (live_setup o change source) (told_value table) s u
    → IsKept o table change source (live_next (live_setup o change source) s (doing what)) (step m (event t track what))
    → Pairwise (BeginsAlike scaling o)
    (beginning (is_retuned (keeps_drums o source)) (receive (made m w) (event t track what)) (event t track what))
    (beginning (is_retuned (keeps_drums o source)) (receive (made m (tuned_by (live_before (live_setup o change source) s (event t track what) (doing what)) u)) (event t track what)) (event t track what))
one_alike laws scaling o table change source s m w u t track (Says (NoteOn c k (suc v))) d plain told kept = pick (is_retuned (keeps_drums o source) c) refl
  where
    now : Music
    now = step m (event t track (Says (NoteOn c k (suc v))))

    heard_tuning : Tuning
    heard_tuning = tuning_after m (Plays (NoteOn c k (suc v))) (tuned_by (live_before (live_setup o change source) s (event t track (Says (NoteOn c k (suc v)))) (Plays (NoteOn c k (suc v)))) u)

    pick : (x : Bool) → is_retuned (keeps_drums o source) c ≡ x → Pairwise (BeginsAlike scaling o)
        (cond x (last_note (made now (tuning_after m (Plays (NoteOn c k (suc v))) w)) track now.notes) [])
        (cond x (last_note (made now heard_tuning) track now.notes) [])
    pick true h = last_alike scaling o table change source (live_next (live_setup o change source) s (Plays (NoteOn c k (suc v)))) now (tuning_after m (Plays (NoteOn c k (suc v))) w) heard_tuning track now.notes (tells laws scaling o table change source d)
        kept.zones
        (told_message (live_setup o change source) (told_value table) s m (event t track (Says (NoteOn c k (suc v)))) (NoteOn c k (suc v)) u (harmless scaling o table change source d).setup (reads scaling o table change source d) (setup_parts o (change 0) source) plain told)
        kept.tellable kept.told (last_sounds (is_retuned (keeps_drums o source)) m t c k v h)
    pick false h = tt
one_alike laws scaling o table change source s m w u t track (Says (NoteOn c k zero)) d plain told kept = tt
one_alike laws scaling o table change source s m w u t track (Says (NoteOff c k v)) d plain told kept = tt
one_alike laws scaling o table change source s m w u t track (Says (KeyPressure c k v)) d plain told kept = tt
one_alike laws scaling o table change source s m w u t track (Says (Control c n v)) d plain told kept = tt
one_alike laws scaling o table change source s m w u t track (Says (Program c p)) d plain told kept = tt
one_alike laws scaling o table change source s m w u t track (Says (Pressure c v)) d plain told kept = tt
one_alike laws scaling o table change source s m w u t track (Says (Bend c v)) d plain told kept = tt
one_alike laws scaling o table change source s m w u t track (SysexOf lead bs) d plain told kept = tt
one_alike laws scaling o table change source s m w u t track (MetaOf kind bs) d plain told kept = tt

block_beginnings : (part : ℕ → Bool) (l : Live) (s : Told) (m : Music) (u : Tuning) (e : MidiEvent) (rest : List MidiEvent) → Steady m
    → AreSilent m (live_before l s e (doing e.what)) → AreSilent (step m e) (dump_behind l.setup s.begun e (doing e.what))
    → (let v : Tuning = tuned_by (live_before l s e (doing e.what)) u in
    beginnings_from part (made m u) (written (live_block l s e) ++ rest)
    ≡ beginning part (receive (made m v) e) e ++ beginnings_from part (made (step m e) (tuned_by (dump_behind l.setup s.begun e (doing e.what)) (tuning_after m (doing e.what) v))) rest)
block_beginnings part l s m u e rest st before behind =
    let gs : List Group = live_before l s e (doing e.what) in
    let hs : List Group = dump_behind l.setup s.begun e (doing e.what) in
    let r : Receiver = made m (tuned_by gs u) in
    ap (beginnings_from part (made m u)) (append_assoc (all_events gs) (e ∷ all_events hs) rest)
    ∙ no_beginnings part (made m u) gs (e ∷ all_events hs ++ rest)
    ∙ ap (λ x. beginnings_from part x (e ∷ all_events hs ++ rest)) (groups_received (made m u) gs st before)
    ∙ ap (λ x. beginning part (receive r e) e ++ x)
    (no_beginnings part (receive r e) hs rest ∙ ap (λ x. beginnings_from part x rest) (groups_received (receive r e) hs (steady-step m e st) behind))

begin_run : (laws : Laws) (scaling : Scaling) (o : Options) (table : Targets) (change : ℕ → List ℕ) (source : List MidiEvent) (s : Told) (m : Music) (w u : Tuning) (es : List MidiEvent)
    → IsLivable scaling o table change source → Steady m → Ready s.begun m → IsTold (live_setup o change source) (told_value table) s u → IsKept o table change source s m
    → AreFineFrom o table m es → ArePlain (is_part o) m es → AllByRecursion (IsKnown o source) es
    → Pairwise (BeginsAlike scaling o) (beginnings_from (is_retuned (keeps_drums o source)) (made m w) es) (beginnings_from (is_retuned (keeps_drums o source)) (made m u) (blocks (live_setup o change source) s es))
begin_run laws scaling o table change source s m w u [] d st ready told kept f plain all = tt
begin_run laws scaling o table change source s m w u (e ∷ es) d st ready told kept f plain all =
    let l : Live = live_setup o change source in
    let part : ℕ → Bool = is_retuned (keeps_drums o source) in
    let h : IsHarmlessLive l = harmless scaling o table change source d in
    let k = live_keeps l h s m e st ready in
    let s2 : Told = live_next l s (doing e.what) in
    let rest : List MidiEvent = blocks l s2 es in
    let v : Tuning = tuned_by (live_before l s e (doing e.what)) u in
    let next : Tuning = tuned_by (dump_behind l.setup s.begun e (doing e.what)) (tuning_after m (doing e.what) v) in
    let kept_now : IsKept o table change source s2 (step m e) = kept_step laws scaling o table change source s m e d f.0 all.0 kept in
    let P : List Beginning → Type 0 = λ x. Pairwise (BeginsAlike scaling o) (beginnings_from part (made m w) (e ∷ es)) x in
    subst P (sym (block_beginnings part l s m u e rest st k.before k.behind))
    (pairwise_append (BeginsAlike scaling o) (beginning part (receive (made m w) e) e) (beginnings_from part (receive (made m w) e) es) (beginning part (receive (made m v) e) e) (beginnings_from part (made (step m e) next) rest)
    (one_alike laws scaling o table change source s m w u e.tick e.track e.what d plain.0 told kept_now)
    (begin_run laws scaling o table change source s2 (step m e) (tuning_after m (doing e.what) w) next es d (steady-step m e st) k.ready
    (told_next l (told_value table) s m e (doing e.what) u h.setup (reads scaling o table change source d) (setup_parts o (change 0) source) plain.0 told) kept_now f.1 plain.1 all.1))

same_beginnings : (laws : Laws) (scaling : Scaling) (o : Options) (table : Targets) (change : ℕ → List ℕ) (es : List MidiEvent) → IsLivable scaling o table change es → BeginsTheSame scaling o (is_retuned (keeps_drums o es)) es (told_live o change es)
same_beginnings laws scaling o table change es d =
    begin_run laws scaling o table change es nothing_told quiet untuned untuned es d (steady-quiet laws.settled) (unselected-quiet quiet refl)
    (record { values = λ k t. absurd cc; selected = λ t. absurd cc; wide = refl }) (at_first o table change es) d.faultless (all_plain o table quiet es d.valid d.faultless) (known o es d.valid)

pub live_plays_the_same : (laws : Laws) (scaling : Scaling) (o : Options) (table : Targets) (change : ℕ → List ℕ) (es : List MidiEvent) → IsLivable scaling o table change es → PlaysTheSameMusic scaling o table es (told_live o change es)
live_plays_the_same laws scaling o table change es d = record {
  notes = same_notes laws scaling o table change es d;
  sound = same_sounds laws scaling o table change es d;
  beginnings = same_beginnings laws scaling o table change es d;
}
