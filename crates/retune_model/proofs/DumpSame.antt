-- The dump route's output plays the same as its source.
use Rattle.std.proofs.Common.{◌≡◌, ℕ, zero, suc, List, [], ◌∷◌, ◌++◌, Bool, true, false, cond, Some, refl, ap, sym, ◌∙◌, subst, map, append_assoc}
use Rattle.std.specs.List.{AllByRecursion, filter}
use Rattle.mt_base.specs.declared.event.Msg.{Msg}
use Rattle.mt_base.specs.declared.event.Msg.TheVariants.{NoteOn, NoteOff, KeyPressure, Control, Program, Pressure, Bend}
use Rattle.mt_base.specs.Midi.{MidiWhat, Says, SysexOf, MetaOf, MidiEvent}
use Rattle.mt_base.specs.Valid.{IsValidEvent}
use Rattle.midi_model.specs.Sysex.{Doing, Plays, Resets, Tunes, Nothing, doing}
use Rattle.midi_model.specs.Zones.{no_zones}
use Rattle.midi_model.specs.Notes.{Note, sounds, cut_off}
use Rattle.midi_model.specs.Music.{Music, quiet, begun, act, settle_note, advance, step, play}
use Rattle.midi_model.specs.Tuning.{Tuning, untuned, tuning_after}
use Rattle.midi_model.specs.Receiver.{Receiver, start, receive, receive_all, after}
use Rattle.retune_model.proofs.Steady.{Steady, steady-quiet, steady-step}
use Rattle.retune_model.proofs.Steady.{music_all, receive_all-append}
use Rattle.retune_model.proofs.Begun.{AllNotes}
use Rattle.retune_model.specs.Table.{Scaling}
use Rattle.retune_model.specs.Options.{Options, ByDump, bends_notes, keeps_drums, is_retuned}
use Rattle.retune_model.specs.PlaysTheSame.{Pairwise, until, at_tick, retuned_notes, key_of, bend_target_if, output_key, IsSameNote, HasSameNotes}
use Rattle.retune_model.proofs.Receivers.{SoundsTheSame, HasSameSound, Beginning, last_note, beginning, beginnings_from, BeginsAlike, BeginsTheSame, PlaysTheSameMusic}
use Rattle.retune_model.specs.Faults.{Targets, is_part}
use Rattle.retune_model.specs.Blocks.{Group, Selects, Sends, events_of, all_events, AreSilent, written}
use Rattle.retune_model.specs.Routes.{Setup, IsHarmless, tuned_by, tuning_run, dump_before, dump_behind, dump_next, dump_block, dump_output}
use Rattle.retune_model.specs.Plain.{is_plain, ArePlain, IsTuned, has_begun}
use Rattle.retune_model.specs.Dump.{dump_setup}
use Rattle.retune_model.proofs.OnePort.{IsDumpable, dumped}
use Rattle.retune_model.proofs.Laws.{Laws}
use Rattle.retune_model.proofs.SameMusic.{Ready, dump_keeps, unselected-quiet}
use Rattle.retune_model.proofs.Tunings.{made, groups_received, received}
use Rattle.retune_model.proofs.Tuned.{Tells, tells_next, tells_run}
use Rattle.retune_model.proofs.Faultless.{AreFineFrom, all_plain, no_zones_step}
use Rattle.retune_model.proofs.Heard.{IsHeard, Serves, heard}
use Rattle.retune_model.proofs.Fronts.{all_weaker, split, until_source, until_output, blocks, all_front, plain_front, faultless_front}
use Rattle.retune_model.proofs.Served.{IsServed, IsKnown, all_show, all_known, setup_harmless, setup_parts, served_step, served_play, zones_play}

pub pairwise_same : {A : Type 0} (R : A → A → Type 0) (xs : List A) → AllByRecursion (λ x. R x x) xs → Pairwise R xs xs
pairwise_same R [] h = tt
pairwise_same R (x ∷ xs) h = (h.0, pairwise_same R xs h.1)

pub pairwise_append : {A B : Type 0} (R : A → B → Type 0) (xs us : List A) (ys vs : List B) → Pairwise R xs ys → Pairwise R us vs → Pairwise R (xs ++ us) (ys ++ vs)
pairwise_append R [] us [] vs h k = k
pairwise_append R [] us (y ∷ ys) vs h k = absurd h
pairwise_append R (x ∷ xs) us [] vs h k = absurd h
pairwise_append R (x ∷ xs) us (y ∷ ys) vs h k = (h.0, pairwise_append R xs us ys vs h.1 k)

-- what holds of each note of some channels, of those notes
pub of_notes : (part : ℕ → Bool) (Q : Note → Type 0) (ns : List Note) → AllByRecursion (λ n. part n.channel ≡ true → Q n) ns → AllByRecursion Q (filter (λ n. part n.channel) ns)
of_notes part Q [] h = tt
of_notes part Q (n ∷ ns) h = pick (part n.channel) refl (of_notes part Q ns h.1)
  where
    pick : (b : Bool) → part n.channel ≡ b → AllByRecursion Q (filter (λ n. part n.channel) ns) → AllByRecursion Q (cond b (n ∷ filter (λ n. part n.channel) ns) (filter (λ n. part n.channel) ns))
    pick true e k = (h.0 e, k)
    pick false e k = k

-- ---- before any channel message there is no note
silent_next : (b : Bool) (m : Music) (t : ℕ) (d : Doing) → dump_next b d ≡ false → m.notes ≡ [] → (advance t d m).notes ≡ []
silent_next b m t (Plays msg) h k = absurd cc
silent_next b m t Resets h k = rw k refl
silent_next b m t (Tunes r) h k = k
silent_next b m t Nothing h k = k

begun_stays : (es : List MidiEvent) → has_begun true es ≡ true
begun_stays [] = refl
begun_stays (e ∷ es) = ap (λ b. has_begun b es) (next_stays (doing e.what)) ∙ begun_stays es
  where
    next_stays : (d : Doing) → dump_next true d ≡ true
    next_stays (Plays msg) = refl
    next_stays Resets = refl
    next_stays (Tunes r) = refl
    next_stays Nothing = refl

unbegun : (b : Bool) (m : Music) (es : List MidiEvent) → has_begun b es ≡ false → m.notes ≡ [] → (play m es).notes ≡ []
unbegun b m [] h k = k
unbegun b m (e ∷ es) h k = pick (dump_next b (doing e.what)) refl (unbegun (dump_next b (doing e.what)) (step m e) es h)
  where
    clash : true ≡ false → ⊥
    clash x = absurd cc

    pick : (x : Bool) → dump_next b (doing e.what) ≡ x → ((step m e).notes ≡ [] → (play (step m e) es).notes ≡ []) → (play (step m e) es).notes ≡ []
    pick true e2 rest = absurd (clash (sym (begun_stays es) ∙ ap (λ y. has_begun y es) (sym e2) ∙ h))
    pick false e2 rest = rest (silent_next b m e.tick (doing e.what) e2 k)

-- ---- at a tick
same_note : (o : Options) (table : Targets) (n : Note) → o.route ≡ ByDump → IsSameNote (output_key o table) n n
same_note o table n route = record {
  key = ap (λ r. cond (bends_notes r) (key_of (bend_target_if o.range (table n.key n.onset))) (Some n.key)) route;
  onset = refl;
  velocity = refl;
  voice = refl;
  release = refl;
  ended = refl;
}

pub every_note : (Q : Note → Type 0) → ((n : Note) → Q n) → (ns : List Note) → AllByRecursion Q ns
every_note Q f [] = tt
every_note Q f (n ∷ ns) = (f n, every_note Q f ns)

same_sound : (scaling : Scaling) (o : Options) (table : Targets) (bytes : List ℕ) (source : List MidiEvent) (m : Music) (w u : Tuning) → Serves scaling o table (dump_setup o bytes source) bytes
    → m.zones ≡ no_zones → IsTuned (dump_setup o bytes source) u → (n : Note) → IsHeard table (dump_setup o bytes source) bytes n.channel n.key n.onset
    → SoundsTheSame scaling o (made m w) (made m u) n n
same_sound scaling o table bytes source m w u g z tuned n h = record {
  controls = refl;
  pressure = refl;
  key_pressure = refl;
  parameters = λ p k. refl;
  pitch = heard scaling o table (dump_setup o bytes source) bytes m u n g z tuned h;
}

-- the premises, for a source and its setup
serves : (laws : Laws) (scaling : Scaling) (o : Options) (table : Targets) (bytes : List ℕ) (es : List MidiEvent) → IsDumpable scaling o table bytes es → Serves scaling o table (dump_setup o bytes es) bytes
serves laws scaling o table bytes es d = record { laws = laws.pitch; route = d.route; bounds = d.bounds; few_terms = d.few_terms; one_table = d.one_table; dump = d.dump }

pub known : (o : Options) (es : List MidiEvent) → AllByRecursion IsValidEvent es → AllByRecursion (IsKnown o es) es
known o es h = all_known o es es h (all_show o es)

-- a front of the source, and what the route makes of it
record IsFront (o : Options) (table : Targets) (bytes : List ℕ) (source xs : List MidiEvent) : Type 0 where
  served : AllNotes (IsServed o table bytes source) (play quiet xs).notes
  zones : (play quiet xs).zones ≡ no_zones
  tuning : Tuning
  output : after (dump_output (dump_setup o bytes source) xs) ≡ made (play quiet xs) tuning
  tells : Tells (dump_setup o bytes source) (has_begun false xs) tuning

front : (laws : Laws) (scaling : Scaling) (o : Options) (table : Targets) (bytes : List ℕ) (es xs ys : List MidiEvent) → IsDumpable scaling o table bytes es → es ≡ xs ++ ys → IsFront o table bytes es xs
front laws scaling o table bytes es xs ys d e =
    let s : Setup = dump_setup o bytes es in
    let harmless : IsHarmless s = setup_harmless o bytes es d.dump.no_reset in
    let clean : AreFineFrom o table quiet xs = faultless_front o table quiet xs ys (subst (λ z. AreFineFrom o table quiet z) e d.faultless) in
    let plain : ArePlain (is_part o) quiet xs = plain_front (is_part o) quiet xs ys (subst (λ z. ArePlain (is_part o) quiet z) e (all_plain o table quiet es d.valid d.faultless)) in
    let all : AllByRecursion (IsKnown o es) xs = all_front (IsKnown o es) xs ys (subst (λ z. AllByRecursion (IsKnown o es) z) e (known o es d.valid)) in
    record {
      served = served_play laws.fade o table bytes es quiet xs d.route clean all tt;
      zones = zones_play o table quiet xs clean refl;
      tuning = tuning_run (dump_block s) (λ c x. dump_next c (doing x.what)) false quiet untuned xs;
      output = received (dump_block s) (λ c x. dump_next c (doing x.what)) Ready (dump_keeps s harmless) false start xs (steady-quiet laws.settled) (unselected-quiet quiet refl);
      tells = tells_run s (is_part o) false quiet xs untuned harmless (setup_parts o bytes es) plain (refl, refl);
    }

-- the source's receiver, and the output's, with the same music
pub source_music : (xs : List MidiEvent) → after xs ≡ made (play quiet xs) (after xs).tuning
source_music xs = ap (λ m. made m (after xs).tuning) (music_all start xs)

notes_at : (laws : Laws) (scaling : Scaling) (o : Options) (table : Targets) (bytes : List ℕ) (es xs ys : List MidiEvent) (part : ℕ → Bool) → IsDumpable scaling o table bytes es → es ≡ xs ++ ys
    → Pairwise (IsSameNote (output_key o table)) (retuned_notes part (after xs)) (retuned_notes part (after (dump_output (dump_setup o bytes es) xs)))
notes_at laws scaling o table bytes es xs ys part d e =
    let f = front laws scaling o table bytes es xs ys d e in
    let P : Receiver → Type 0 = λ r. Pairwise (IsSameNote (output_key o table)) (retuned_notes part r) (retuned_notes part (after (dump_output (dump_setup o bytes es) xs))) in
    let Q : Receiver → Type 0 = λ r. Pairwise (IsSameNote (output_key o table)) (retuned_notes part (made (play quiet xs) (after xs).tuning)) (retuned_notes part r) in
    subst P (sym (source_music xs)) (subst Q (sym f.output)
    (pairwise_same (IsSameNote (output_key o table)) (filter (λ n. part n.channel) (play quiet xs).notes)
    (every_note (λ n. IsSameNote (output_key o table) n n) (λ n. same_note o table n d.route) (filter (λ n. part n.channel) (play quiet xs).notes))))

-- once the setup stands each retuned note sounds the same; before, there is none
sound_alike : (scaling : Scaling) (o : Options) (table : Targets) (bytes : List ℕ) (source : List MidiEvent) (b : Bool) (m : Music) (w u : Tuning) → Serves scaling o table (dump_setup o bytes source) bytes
    → Tells (dump_setup o bytes source) b u → (b ≡ false → m.notes ≡ []) → AllNotes (IsServed o table bytes source) m.notes → m.zones ≡ no_zones
    → Pairwise (λ a c. sounds a ≡ true → SoundsTheSame scaling o (made m w) (made m u) a c) (filter (λ n. is_retuned (keeps_drums o source) n.channel) m.notes) (filter (λ n. is_retuned (keeps_drums o source) n.channel) m.notes)
sound_alike scaling o table bytes source true m w u g tuned none served z =
    let part : ℕ → Bool = is_retuned (keeps_drums o source) in
    let Q : Note → Type 0 = λ n. sounds n ≡ true → SoundsTheSame scaling o (made m w) (made m u) n n in
    pairwise_same (λ a c. sounds a ≡ true → SoundsTheSame scaling o (made m w) (made m u) a c) (filter (λ n. part n.channel) m.notes)
    (of_notes part Q m.notes
    (all_weaker (λ n. IsServed o table bytes source n.channel n.key n.onset) (λ n. part n.channel ≡ true → Q n)
    (λ n h k l. same_sound scaling o table bytes source m w u g z tuned n (h k)) m.notes served))
sound_alike scaling o table bytes source false m w u g tuned none served z =
    let part : ℕ → Bool = is_retuned (keeps_drums o source) in
    let P : List Note → Type 0 = λ ns. Pairwise (λ a c. sounds a ≡ true → SoundsTheSame scaling o (made m w) (made m u) a c) (filter (λ n. part n.channel) ns) (filter (λ n. part n.channel) ns) in
    subst P (sym (none refl)) tt

sound_at : (laws : Laws) (scaling : Scaling) (o : Options) (table : Targets) (bytes : List ℕ) (es xs ys : List MidiEvent) → IsDumpable scaling o table bytes es → es ≡ xs ++ ys
    → Pairwise (λ a b. sounds a ≡ true → SoundsTheSame scaling o (after xs) (after (dump_output (dump_setup o bytes es) xs)) a b)
    (retuned_notes (is_retuned (keeps_drums o es)) (after xs)) (retuned_notes (is_retuned (keeps_drums o es)) (after (dump_output (dump_setup o bytes es) xs)))
sound_at laws scaling o table bytes es xs ys d e =
    let f = front laws scaling o table bytes es xs ys d e in
    let part : ℕ → Bool = is_retuned (keeps_drums o es) in
    let m : Music = play quiet xs in
    let w : Tuning = (after xs).tuning in
    let R : Receiver → Receiver → Note → Note → Type 0 = λ rs ro a b. sounds a ≡ true → SoundsTheSame scaling o rs ro a b in
    let P : Receiver → Type 0 = λ r. Pairwise (R r (after (dump_output (dump_setup o bytes es) xs))) (retuned_notes part r) (retuned_notes part (after (dump_output (dump_setup o bytes es) xs))) in
    let Q : Receiver → Type 0 = λ r. Pairwise (R (made m w) r) (retuned_notes part (made m w)) (retuned_notes part r) in
    subst P (sym (source_music xs)) (subst Q (sym f.output)
    (sound_alike scaling o table bytes es (has_begun false xs) m w f.tuning (serves laws scaling o table bytes es d) f.tells (λ h. unbegun false quiet xs h refl) f.served f.zones))

pub same_notes : (laws : Laws) (scaling : Scaling) (o : Options) (table : Targets) (bytes : List ℕ) (es : List MidiEvent) → IsDumpable scaling o table bytes es → HasSameNotes (output_key o table) (is_retuned (keeps_drums o es)) es (dumped o bytes es)
same_notes laws scaling o table bytes es d t =
    let c = split t 0 es d.in_order in
    let part : ℕ → Bool = is_retuned (keeps_drums o es) in
    let P : List MidiEvent → Type 0 = λ x. Pairwise (IsSameNote (output_key o table)) (retuned_notes part (after x)) (retuned_notes part (at_tick t (dumped o bytes es))) in
    let Q : List MidiEvent → Type 0 = λ y. Pairwise (IsSameNote (output_key o table)) (retuned_notes part (after c.early)) (retuned_notes part (after y)) in
    subst P (sym (until_source t es c)) (subst Q (sym (until_output t (dump_setup o bytes es) es c)) (notes_at laws scaling o table bytes es c.early c.late part d c.is))

pub same_sounds : (laws : Laws) (scaling : Scaling) (o : Options) (table : Targets) (bytes : List ℕ) (es : List MidiEvent) → IsDumpable scaling o table bytes es → HasSameSound scaling o (is_retuned (keeps_drums o es)) es (dumped o bytes es)
same_sounds laws scaling o table bytes es d t =
    let c = split t 0 es d.in_order in
    let part : ℕ → Bool = is_retuned (keeps_drums o es) in
    let R : List MidiEvent → List MidiEvent → Type 0 = λ x y. Pairwise (λ a b. sounds a ≡ true → SoundsTheSame scaling o (after x) (after y) a b) (retuned_notes part (after x)) (retuned_notes part (after y)) in
    let P : List MidiEvent → Type 0 = λ x. R x (until t (dumped o bytes es)) in
    let Q : List MidiEvent → Type 0 = λ y. R c.early y in
    subst P (sym (until_source t es c)) (subst Q (sym (until_output t (dump_setup o bytes es) es c)) (sound_at laws scaling o table bytes es c.early c.late d c.is))

-- ---- right from its beginning
pub no_beginning : (part : ℕ → Bool) (r : Receiver) (g : Group) (ys : List MidiEvent) → beginnings_from part r (events_of g ++ ys) ≡ beginnings_from part (receive_all r (events_of g)) ys
no_beginning part r (Selects t track c p) ys = refl
no_beginning part r (Sends t track bytes) ys = refl

pub no_beginnings : (part : ℕ → Bool) (r : Receiver) (gs : List Group) (ys : List MidiEvent) → beginnings_from part r (all_events gs ++ ys) ≡ beginnings_from part (receive_all r (all_events gs)) ys
no_beginnings part r [] ys = refl
no_beginnings part r (g ∷ gs) ys =
    ap (beginnings_from part r) (append_assoc (events_of g) (all_events gs) ys)
    ∙ no_beginning part r g (all_events gs ++ ys)
    ∙ no_beginnings part (receive_all r (events_of g)) gs ys
    ∙ ap (λ x. beginnings_from part x ys) (sym (receive_all-append r (events_of g) (all_events gs)))

-- what holds of the last note of a list
abbrev pub LastHas : (Note → Type 0) → List Note → Type 0
LastHas P [] = Unit {0}
LastHas P (n ∷ []) = P n
LastHas P (n ∷ m ∷ ns) = LastHas P (m ∷ ns)

pub last_added : (P : Note → Type 0) (f : Note → Note) (ns : List Note) (n : Note) → P (f n) → LastHas P (map f (ns ++ n ∷ []))
last_added P f [] n h = h
last_added P f (x ∷ []) n h = h
last_added P f (x ∷ y ∷ ns) n h = last_added P f (y ∷ ns) n h

pub last_begun : (part : ℕ → Bool) (m : Music) (t c k v : ℕ) → part c ≡ true → LastHas (λ n. part n.channel ≡ true) (advance t (Plays (NoteOn c k (suc v))) m).notes
last_begun part m t c k v h =
    let a : Music = act t (NoteOn c k (suc v)) m in
    last_added (λ n. part n.channel ≡ true) (settle_note a.channels a.zones t) (map (cut_off t c k) m.notes) (begun m t c k (suc v))
    h

last_alike : (scaling : Scaling) (o : Options) (table : Targets) (bytes : List ℕ) (source : List MidiEvent) (m : Music) (w u : Tuning) (track : ℕ) (ns : List Note) → Serves scaling o table (dump_setup o bytes source) bytes
    → m.zones ≡ no_zones → IsTuned (dump_setup o bytes source) u → AllNotes (IsServed o table bytes source) ns → LastHas (λ n. is_retuned (keeps_drums o source) n.channel ≡ true) ns
    → Pairwise (BeginsAlike scaling o) (last_note (made m w) track ns) (last_note (made m u) track ns)
last_alike scaling o table bytes source m w u track [] g z tuned served last = tt
last_alike scaling o table bytes source m w u track (n ∷ []) g z tuned served last =
    (record { track = refl; pitch = heard scaling o table (dump_setup o bytes source) bytes m u n g z tuned (served.0 last) }, tt)
last_alike scaling o table bytes source m w u track (n ∷ x ∷ ns) g z tuned served last = last_alike scaling o table bytes source m w u track (x ∷ ns) g z tuned served.1 last

-- the tuning right after a message: that of the setup
tuned_now : (s : Setup) (part : ℕ → Bool) (b : Bool) (m : Music) (e : MidiEvent) (msg : Msg) (u : Tuning) → IsHarmless s → AllByRecursion (λ c. part c ≡ true) s.channels → is_plain part m (Plays msg) ≡ true
    → Tells s b u → IsTuned s (tuning_after m (Plays msg) (tuned_by (dump_before s b e (Plays msg)) u))
tuned_now s part true m e msg u h parts plain k = tells_next s part true m e (Plays msg) u h parts plain k
tuned_now s part false m e msg u h parts plain k = tells_next s part false m e (Plays msg) u h parts plain k

abbrev pub event : ℕ → ℕ → MidiWhat → MidiEvent
event t track what = record { tick = t; track = track; what = what }

-- one event: m is the music after it
one_alike : (laws : Laws) (scaling : Scaling) (o : Options) (table : Targets) (bytes : List ℕ) (source : List MidiEvent) (b : Bool) (m : Music) (w u : Tuning) (t track : ℕ) (what : MidiWhat)
    → IsDumpable scaling o table bytes source → is_plain (is_part o) m (doing what) ≡ true → Tells (dump_setup o bytes source) b u
    → (step m (event t track what)).zones ≡ no_zones → AllNotes (IsServed o table bytes source) (step m (event t track what)).notes
    → Pairwise (BeginsAlike scaling o)
    (beginning (is_retuned (keeps_drums o source)) (receive (made m w) (event t track what)) (event t track what))
    (beginning (is_retuned (keeps_drums o source)) (receive (made m (tuned_by (dump_before (dump_setup o bytes source) b (event t track what) (doing what)) u)) (event t track what)) (event t track what))
one_alike laws scaling o table bytes source b m w u t track (Says (NoteOn c k (suc v))) d plain tells z served = pick (is_retuned (keeps_drums o source) c) refl
  where
    part : ℕ → Bool
    part = is_retuned (keeps_drums o source)

    now : Music
    now = step m (event t track (Says (NoteOn c k (suc v))))

    heard_tuning : Tuning
    heard_tuning = tuning_after m (Plays (NoteOn c k (suc v))) (tuned_by (dump_before (dump_setup o bytes source) b (event t track (Says (NoteOn c k (suc v)))) (Plays (NoteOn c k (suc v)))) u)

    pick : (x : Bool) → part c ≡ x → Pairwise (BeginsAlike scaling o)
        (cond x (last_note (made now (tuning_after m (Plays (NoteOn c k (suc v))) w)) track now.notes) [])
        (cond x (last_note (made now heard_tuning) track now.notes) [])
    pick true h = last_alike scaling o table bytes source now (tuning_after m (Plays (NoteOn c k (suc v))) w) heard_tuning track now.notes (serves laws scaling o table bytes source d) z
        (tuned_now (dump_setup o bytes source) (is_part o) b m (event t track (Says (NoteOn c k (suc v)))) (NoteOn c k (suc v)) u (setup_harmless o bytes source d.dump.no_reset) (setup_parts o bytes source) plain tells)
        served (last_begun part m t c k v h)
    pick false h = tt
one_alike laws scaling o table bytes source b m w u t track (Says (NoteOn c k zero)) d plain tells z served = tt
one_alike laws scaling o table bytes source b m w u t track (Says (NoteOff c k v)) d plain tells z served = tt
one_alike laws scaling o table bytes source b m w u t track (Says (KeyPressure c k v)) d plain tells z served = tt
one_alike laws scaling o table bytes source b m w u t track (Says (Control c n v)) d plain tells z served = tt
one_alike laws scaling o table bytes source b m w u t track (Says (Program c p)) d plain tells z served = tt
one_alike laws scaling o table bytes source b m w u t track (Says (Pressure c v)) d plain tells z served = tt
one_alike laws scaling o table bytes source b m w u t track (Says (Bend c v)) d plain tells z served = tt
one_alike laws scaling o table bytes source b m w u t track (SysexOf lead bs) d plain tells z served = tt
one_alike laws scaling o table bytes source b m w u t track (MetaOf kind bs) d plain tells z served = tt

-- the beginnings of a block and of what follows it
block_beginnings : (part : ℕ → Bool) (s : Setup) (b : Bool) (m : Music) (u : Tuning) (e : MidiEvent) (rest : List MidiEvent) → Steady m
    → AreSilent m (dump_before s b e (doing e.what)) → AreSilent (step m e) (dump_behind s b e (doing e.what))
    → (let v : Tuning = tuned_by (dump_before s b e (doing e.what)) u in
    beginnings_from part (made m u) (written (dump_block s b e) ++ rest)
    ≡ beginning part (receive (made m v) e) e ++ beginnings_from part (made (step m e) (tuned_by (dump_behind s b e (doing e.what)) (tuning_after m (doing e.what) v))) rest)
block_beginnings part s b m u e rest st before behind =
    let gs : List Group = dump_before s b e (doing e.what) in
    let hs : List Group = dump_behind s b e (doing e.what) in
    let r : Receiver = made m (tuned_by gs u) in
    ap (beginnings_from part (made m u)) (append_assoc (all_events gs) (e ∷ all_events hs) rest)
    ∙ no_beginnings part (made m u) gs (e ∷ all_events hs ++ rest)
    ∙ ap (λ x. beginnings_from part x (e ∷ all_events hs ++ rest)) (groups_received (made m u) gs st before)
    ∙ ap (λ x. beginning part (receive r e) e ++ x)
    (no_beginnings part (receive r e) hs rest ∙ ap (λ x. beginnings_from part x rest) (groups_received (receive r e) hs (steady-step m e st) behind))

begin_run : (laws : Laws) (scaling : Scaling) (o : Options) (table : Targets) (bytes : List ℕ) (source : List MidiEvent) (b : Bool) (m : Music) (w u : Tuning) (es : List MidiEvent)
    → IsDumpable scaling o table bytes source → Steady m → Ready b m → Tells (dump_setup o bytes source) b u → m.zones ≡ no_zones → AllNotes (IsServed o table bytes source) m.notes
    → AreFineFrom o table m es → ArePlain (is_part o) m es → AllByRecursion (IsKnown o source) es
    → Pairwise (BeginsAlike scaling o) (beginnings_from (is_retuned (keeps_drums o source)) (made m w) es) (beginnings_from (is_retuned (keeps_drums o source)) (made m u) (blocks (dump_setup o bytes source) b es))
begin_run laws scaling o table bytes source b m w u [] d st ready tells z served f plain all = tt
begin_run laws scaling o table bytes source b m w u (e ∷ es) d st ready tells z served f plain all =
    let s : Setup = dump_setup o bytes source in
    let part : ℕ → Bool = is_retuned (keeps_drums o source) in
    let harmless : IsHarmless s = setup_harmless o bytes source d.dump.no_reset in
    let k = dump_keeps s harmless b m e st ready in
    let rest : List MidiEvent = blocks s (dump_next b (doing e.what)) es in
    let v : Tuning = tuned_by (dump_before s b e (doing e.what)) u in
    let next : Tuning = tuned_by (dump_behind s b e (doing e.what)) (tuning_after m (doing e.what) v) in
    let z_now : (step m e).zones ≡ no_zones = no_zones_step o table m e f.0 z in
    let served_now : AllNotes (IsServed o table bytes source) (step m e).notes = served_step laws.fade o table bytes source m e d.route f.0 all.0 served in
    let P : List Beginning → Type 0 = λ x. Pairwise (BeginsAlike scaling o) (beginnings_from part (made m w) (e ∷ es)) x in
    subst P (sym (block_beginnings part s b m u e rest st k.before k.behind))
    (pairwise_append (BeginsAlike scaling o) (beginning part (receive (made m w) e) e) (beginnings_from part (receive (made m w) e) es) (beginning part (receive (made m v) e) e) (beginnings_from part (made (step m e) next) rest)
    (one_alike laws scaling o table bytes source b m w u e.tick e.track e.what d plain.0 tells z_now served_now)
    (begin_run laws scaling o table bytes source (dump_next b (doing e.what)) (step m e) (tuning_after m (doing e.what) w) next es d (steady-step m e st) k.ready
    (tells_next s (is_part o) b m e (doing e.what) u harmless (setup_parts o bytes source) plain.0 tells) z_now served_now f.1 plain.1 all.1))

pub same_beginnings : (laws : Laws) (scaling : Scaling) (o : Options) (table : Targets) (bytes : List ℕ) (es : List MidiEvent) → IsDumpable scaling o table bytes es → BeginsTheSame scaling o (is_retuned (keeps_drums o es)) es (dumped o bytes es)
same_beginnings laws scaling o table bytes es d =
    begin_run laws scaling o table bytes es false quiet untuned untuned es d (steady-quiet laws.settled) (unselected-quiet quiet refl) (refl, refl) refl tt d.faultless (all_plain o table quiet es d.valid d.faultless) (known o es d.valid)

pub dump_plays_the_same : (laws : Laws) (scaling : Scaling) (o : Options) (table : Targets) (bytes : List ℕ) (es : List MidiEvent) → IsDumpable scaling o table bytes es → PlaysTheSameMusic scaling o table es (dumped o bytes es)
dump_plays_the_same laws scaling o table bytes es d = record {
  notes = same_notes laws scaling o table bytes es d;
  sound = same_sounds laws scaling o table bytes es d;
  beginnings = same_beginnings laws scaling o table bytes es d;
}
