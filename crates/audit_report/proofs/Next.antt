-- The notes of a source with one event more.
use Rattle.std.proofs.Common.{◌≡◌, ◌≤◌, ◌<◌, ◌+◌, ℕ, zero, suc, List, [], ◌∷◌, ◌++◌, Bool, true, false, cond, not, ◌&&◌, Option, Some, None, length, set, refl, ap, sym, ◌∙◌, subst, arith, append-nil}
use Rattle.std.specs.Prelude.{map, filter, nat_eq, nat_lt, is_some, slice_index}
use Rattle.std.specs.List.{AllByRecursion}
use Rattle.std.proofs.lemmas.Bool.{eq-eqb, eqb-true, lt-ltb}
use Rattle.std.proofs.lemmas.List.{length-append, length-map, map-append}
use Rattle.std.proofs.lemmas.List.Elements.{filter-append}
use Rattle.mt_base.specs.declared.event.Msg.TheVariants.{NoteOn}
use Rattle.mt_base.specs.Midi.{MidiWhat, Says, SysexOf, MidiEvent}
use Rattle.midi_model.specs.Sysex.{Retune, Resets, Nothing, doing, is_reset, tuning_of, tunes}
use Rattle.midi_model.specs.Notes.{Note, sounds, sounding_on, is_at as is_struck}
use Rattle.midi_model.specs.Music.{Music, begun}
use Rattle.midi_model.specs.MusicLaws.{NotesAge, NotesFade, begun_by}
use Rattle.midi_model.specs.Receiver.{Receiver, start, receive, receive_all, after}
use Rattle.midi_model.specs.ReceiverLaws.{OneNoteSoundsOnAKey}
use Rattle.retune_model.specs.Options.{Options}
use Rattle.retune_model.specs.Ports.{all_zero, events_on, port_of, ports_after, ports_from}
use Rattle.retune_model.specs.PlaysTheSame.{begins_note}
use Rattle.retune_model.specs.Faults.{Targets, is_part}
use Rattle.retune_model.specs.FrontLaws.{EventsWithNext}
use Rattle.receiver.specs.Notes.{has}
use Rattle.receiver.specs.Sounding.{ended_on}
use Rattle.lifetimes.specs.declared.change.Begun.{Begun}
use Rattle.lifetimes.specs.declared.change.Change.{Change}
use Rattle.lifetimes.specs.Told.{TellsChange, aim_in, aim_steps, begun_by as told_by, count_begun, music_on, port_on}
use Rattle.audit_report.specs.declared.played.Played.{Played}
use Rattle.audit_report.specs.Audit.{AreHeard, IsIndexed, IsLow, channels_below, is_at, is_key, is_on, marked, note_at, place_of, ports_begun, velocity_in}
use Rattle.audit_report.specs.Played.{notes_on, played_on}
use Rattle.audit_report.proofs.Ending.{AreTold, HasLowKeys, Tells, are_told, notes_next}
use Rattle.audit_report.proofs.Indexed.{SameKey, indexed_more, sounds_there}

-- ---- what an event begins

abbrev pub new_note : ℕ → MidiWhat → Begun → Played
new_note t what b = record { part = b.pair.part; key = b.key; onset = t; velocity = velocity_in what; ended = None }

abbrev port_in : Played → ℕ
port_in p = p.part.port

abbrev one_if : Bool → ℕ → List ℕ
one_if b z = cond b (z ∷ []) []

record Begins (o : Options) (z t : ℕ) (m : Music) (what : MidiWhat) (new : List Played) : Type 0 where
  pub notes : map (played_on z) (filter (λ n. is_part o n.channel) (begun_by m t (doing what))) ≡ new
  pub order : one_if (begins_note (is_part o) what) z ≡ map port_in new

begins_some : (o : Options) (table : Targets) (z n t : ℕ) (m : Music) (what : MidiWhat) (b : Begun) → told_by o table z n t what ≡ Some b
    → Begins o z t m what (new_note t what b ∷ [])
begins_some o table z n t m (Says (NoteOn c k (suc v))) b h = pick (is_part o c) refl h
  where
    pick : (x : Bool) → is_part o c ≡ x
        → cond {A = Option Begun} x (Some (record {
          note = n;
          pair = record {
            part =
                record { port = z; channel = c };
            steps = aim_steps o table k t;
          };
          key = k;
          target = aim_in o table k t;
        })) None ≡ Some b
        → Begins o z t m (Says (NoteOn c k (suc v))) (new_note t (Says (NoteOn c k (suc v))) b ∷ [])
    pick true e g =
        let same : ◌≡◌ {A = Begun} (record {
          note = n;
          pair = record {
            part =
                record { port = z; channel = c };
            steps = aim_steps o table k t;
          };
          key = k;
          target = aim_in o table k t;
        }) b = cc in
        subst (λ (x : Begun). Begins o z t m (Says (NoteOn c k (suc v))) (new_note t (Says (NoteOn c k (suc v))) x ∷ [])) same (record {
          notes = ap (λ x. map (played_on z) (cond x (begun m t c k (suc v) ∷ []) [])) e;
          order = ap (λ x. one_if x z) e;
        })
    pick false e g = absurd cc
begins_some o table z n t m what b h = absurd cc

begins_none : (o : Options) (table : Targets) (z n t : ℕ) (m : Music) (what : MidiWhat) → told_by o table z n t what ≡ None → Begins o z t m what []
begins_none o table z n t m (Says (NoteOn c k (suc v))) h = pick (is_part o c) refl h
  where
    pick : (x : Bool) → is_part o c ≡ x
        → cond {A = Option Begun} x (Some (record {
          note = n;
          pair = record {
            part =
                record { port = z; channel = c };
            steps = aim_steps o table k t;
          };
          key = k;
          target = aim_in o table k t;
        })) None ≡ None
        → Begins o z t m (Says (NoteOn c k (suc v))) []
    pick true e g = absurd cc
    pick false e g = record {
      notes = ap (λ x. map (played_on z) (cond x (begun m t c k (suc v) ∷ []) [])) e;
      order = ap (λ x. one_if x z) e;
    }
begins_none o table z n t m (SysexOf lead bs) h =
    record {
      notes = ap (λ x. map (played_on z) (filter (λ n. is_part o n.channel) x)) (pick (nat_eq lead 0xf0) (is_reset bs)
          (tuning_of bs));
      order = refl;
    }
  where
    pick : (a b : Bool) (r : Option Retune) → begun_by m t (cond a (cond b Resets (tunes r)) Nothing) ≡ []
    pick true true r = refl
    pick true false (Some r) = refl
    pick true false None = refl
    pick false b r = refl
begins_none o table z n t m what h = record { notes = refl; order = refl }

-- ---- ports

ports_next : (o : Options) (ports : ℕ → ℕ) (es : List MidiEvent) (e : MidiEvent)
    → ports_begun o ports (es ++ e ∷ []) ≡ ports_begun o ports es ++ one_if (begins_note (is_part o) e.what) (port_of (ports_from ports es) e)
ports_next o ports [] e = refl
ports_next o ports (x ∷ xs) e = pick (begins_note (is_part o) x.what) (ports_next o (ports_after ports x) xs e)
  where
    pick : (b : Bool)
        → ports_begun o (ports_after ports x) (xs ++ e ∷ []) ≡ ports_begun o (ports_after ports x) xs ++ one_if (begins_note (is_part o) e.what)
        (port_of (ports_from (ports_after ports x) xs) e)
        → cond b (port_of ports x ∷ ports_begun o (ports_after ports x) (xs ++ e ∷ [])) (ports_begun o (ports_after ports x) (xs ++ e ∷ []))
        ≡ cond b (port_of ports x ∷ ports_begun o (ports_after ports x) xs) (ports_begun o (ports_after ports x) xs)
        ++ one_if (begins_note (is_part o) e.what) (port_of (ports_from (ports_after ports x) xs) e)
    pick true h = ap (λ r. port_of ports x ∷ r) h
    pick false h = h

pub as_many : (o : Options) (ports : ℕ → ℕ) (es : List MidiEvent) → length (ports_begun o ports es) ≡ count_begun o es
as_many o ports [] = refl
as_many o ports (x ∷ xs) = pick (begins_note (is_part o) x.what) (as_many o (ports_after ports x) xs)
  where
    pick : (b : Bool) → length (ports_begun o (ports_after ports x) xs) ≡ count_begun o xs
        → length (cond b (port_of ports x ∷ ports_begun o (ports_after ports x) xs) (ports_begun o
        (ports_after ports x) xs)) ≡ cond b 1 0 + count_begun o xs
    pick true h = omega (arith, h)
    pick false h = omega (arith, h)

-- ---- marks leave parts alone

same_part : (b : Bool) (p : Played) (t : ℕ) → (cond b (record p { ended = Some t }) p).part ≡ p.part
same_part true p t = refl
same_part false p t = refl

ports_marked : (z : ℕ) (f : ℕ → ℕ → Bool) (t : ℕ) (ps : List Played) → map port_in (map (marked z f t) ps) ≡ map port_in ps
ports_marked z f t [] = refl
ports_marked z f t (p ∷ ps) =
    ap (λ x. x.port ∷ map port_in (map (marked z f t) ps)) (same_part (is_at z f p) p t) ∙ ap (λ xs. p.part.port ∷ xs) (ports_marked z f t ps)

marked_on : (y z : ℕ) (f : ℕ → ℕ → Bool) (t : ℕ) (ps : List Played) → filter (is_on y) (map (marked z f t) ps) ≡ map (marked z f t) (filter
    (is_on y) ps)
marked_on y z f t [] = refl
marked_on y z f t (p ∷ ps) =
    ap (λ x. cond (nat_eq x.port y) (marked z f t p ∷ filter (is_on y) (map (marked z f t) ps)) (filter (is_on y) (map (marked z f t) ps)))
    (same_part (is_at z f p) p t)
    ∙ pick (nat_eq p.part.port y) (marked_on y z f t ps)
  where
    pick : (b : Bool) → filter (is_on y) (map (marked z f t) ps) ≡ map (marked z f t) (filter (is_on y) ps)
        → cond b (marked z f t p ∷ filter (is_on y) (map (marked z f t) ps)) (filter (is_on y) (map (marked z f t) ps))
        ≡ map (marked z f t) (cond b (p ∷ filter (is_on y) ps) (filter (is_on y) ps))
    pick true h = ap (λ r. marked z f t p ∷ r) h
    pick false h = h

elsewhere : (y z : ℕ) (f : ℕ → ℕ → Bool) (t : ℕ) (ns : List Note) → nat_eq y z ≡ false
    → map (marked z f t) (map (played_on y) ns) ≡ map (played_on y) ns
elsewhere y z f t [] d = refl
elsewhere y z f t (n ∷ ns) d =
    ap (λ b. cond (b && (f n.channel n.key && not (is_some n.ended))) (record (played_on y n) { ended = Some t }) (played_on y n) ∷ map
    (marked z f t) (map (played_on y) ns)) d
    ∙ ap (λ r. played_on y n ∷ r) (elsewhere y z f t ns d)

-- ---- keys and channels are low

low_from : (ps : List Played) → ((i : ℕ) → i < length ps → IsLow (note_at ps i)) → AllByRecursion IsLow ps
low_from [] h = tt
low_from (p ∷ ps) h = (h 0 (omega arith), low_from ps (λ i l. h (suc i) (omega (arith, l))))

low_kept : (f : Played → Bool) (ps : List Played) → AllByRecursion IsLow ps → AllByRecursion IsLow (filter f ps)
low_kept f [] h = tt
low_kept f (p ∷ ps) h = pick (f p) (low_kept f ps h.1)
  where
    pick : (b : Bool) → AllByRecursion IsLow (filter f ps) → AllByRecursion IsLow (cond b (p ∷ filter f ps) (filter f ps))
    pick true r = (h.0, r)
    pick false r = r

low_notes : (z : ℕ) (part : ℕ → Bool) (ns : List Note) → AllByRecursion IsLow (map (played_on z) (filter (λ n. part n.channel) ns))
    → AllByRecursion (HasLowKeys part) ns
low_notes z part [] h = tt
low_notes z part (n ∷ ns) h = pick (part n.channel) refl h (low_notes z part ns)
  where
    pick : (b : Bool) → part n.channel ≡ b → AllByRecursion IsLow (map (played_on z) (cond b (n ∷ filter (λ n. part n.channel) ns) (filter
        (λ n. part n.channel) ns)))
        → (AllByRecursion IsLow (map (played_on z) (filter (λ n. part n.channel) ns)) → AllByRecursion (HasLowKeys part) ns)
        → AllByRecursion (HasLowKeys part) (n ∷ ns)
    pick true e g rest = (λ is. (let low : IsLow (played_on z n) = g.0 in (low.channel, low.key)), rest g.1)
    pick false e g rest = (λ is. absurd (let no : true ≡ false = sym is ∙ e in cc), rest g)

-- ---- the music of a port

music_next : (xs : List MidiEvent) (e : MidiEvent) → (after (xs ++ e ∷ [])) ≡ receive (after xs) e
music_next xs e = all_receive start xs
  where
    all_receive : (r : Receiver) (ys : List MidiEvent) → receive_all r (ys ++ e ∷ []) ≡ receive (receive_all r ys) e
    all_receive r [] = refl
    all_receive r (y ∷ ys) = all_receive (receive r y) ys

events_here : EventsWithNext → (es : List MidiEvent) (e : MidiEvent) → events_on (port_on es e) (es ++ e ∷ []) ≡ events_on (port_on es e) es ++ e ∷ []
events_here law es e = law es e (port_on es e)
    ∙ ap (λ b. cond b (events_on (port_on es e) es ++ e ∷ []) (events_on (port_on es e) es)) (eq-eqb (port_on es e) (port_on es e) refl)

events_there : EventsWithNext → (es : List MidiEvent) (e : MidiEvent) (y : ℕ) → nat_eq (port_on es e) y ≡ false
    → events_on y (es ++ e ∷ []) ≡ events_on y es
events_there law es e y d = law es e y ∙ ap (λ b. cond b (events_on y es ++ e ∷ []) (events_on y es)) d

-- ---- what is told of the ends

tells : (o : Options) (es : List MidiEvent) (e : MidiEvent) (keys : List ℕ) (ns xs : List Note)
    → ((c k : ℕ) → c < 16 → k < 128 → has (slice_index keys c) k ≡ (is_part o c && ended_on c k ns xs))
    → Tells (is_part o) (channels_below keys 16) ns xs
tells o es e keys ns xs h c k a b one =
    ap (λ x. x && (nat_lt k 128 && has (slice_index keys c) k)) (lt-ltb c 16 a)
    ∙ (ap (λ x. x && has (slice_index keys c) k) (lt-ltb k 128 b) ∙ h c k a b)

-- ---- one note on a key

at_on : (z : ℕ) (f : ℕ → ℕ → Bool) (ps : List Played) → filter (is_at z f) (filter (is_on z) ps) ≡ filter (is_at z f) ps
at_on z f [] = refl
at_on z f (p ∷ ps) = pick (nat_eq p.part.port z) refl (at_on z f ps)
  where
    pick : (b : Bool) → nat_eq p.part.port z ≡ b → filter (is_at z f) (filter (is_on z) ps) ≡ filter (is_at z f) ps
        → filter (is_at z f) (cond b (p ∷ filter (is_on z) ps) (filter (is_on z) ps)) ≡ cond (is_at z f p) (p ∷ filter (is_at z f) ps) (filter
        (is_at z f) ps)
    pick true e h = ap (λ r. cond (is_at z f p) (p ∷ r) r) h
    pick false e h = h ∙ sym (ap (λ b. cond (b && (f p.part.channel p.key && not (is_some p.ended))) (p ∷ filter (is_at z f) ps) (filter
        (is_at z f) ps)) e)

counts : (z c k : ℕ) (ns : List Note) → length (filter (is_at z (is_key c k)) (map (played_on z) ns)) ≡ sounding_on c k ns
counts z c k [] = refl
counts z c k (n ∷ ns) =
    ap (λ b. length (cond (b && ((nat_eq n.channel c && nat_eq n.key k) && not (is_some n.ended))) (played_on z n ∷ filter (is_at z (is_key c k))
    (map (played_on z) ns)) (filter (is_at z (is_key c k)) (map (played_on z) ns)))) (eq-eqb z z refl)
    ∙ pick (is_struck c k n && sounds n) (counts z c k ns)
  where
    pick : (b : Bool) → length (filter (is_at z (is_key c k)) (map (played_on z) ns)) ≡ sounding_on c k ns
        → length (cond b (played_on z n ∷ filter (is_at z (is_key c k)) (map (played_on z) ns)) (filter (is_at z (is_key c k)) (map
        (played_on z) ns)))
        ≡ cond b 1 0 + sounding_on c k ns
    pick true h = omega (arith, h)
    pick false h = omega (arith, h)

fewer : (part : ℕ → Bool) (c k : ℕ) (ns : List Note) → sounding_on c k (filter (λ n. part n.channel) ns) ≤ sounding_on c k ns
fewer part c k [] = omega arith
fewer part c k (n ∷ ns) = pick (part n.channel) (fewer part c k ns)
  where
    pick : (b : Bool) → sounding_on c k (filter (λ n. part n.channel) ns) ≤ sounding_on c k ns
        → sounding_on c k (cond b (n ∷ filter (λ n. part n.channel) ns) (filter (λ n. part n.channel) ns)) ≤ sounding_on c k (n ∷ ns)
    pick true h = omega (arith, h)
    pick false h = omega (arith, h)

some_at : (f : Played → Bool) (ps : List Played) (i : ℕ) → i < length ps → f (note_at ps i) ≡ true → 1 ≤ length (filter f ps)
some_at f [] i l h = absurd (omega (arith, l))
some_at f (p ∷ ps) zero l h = subst (λ b. 1 ≤ length (cond b (p ∷ filter f ps) (filter f ps))) (sym h) (omega arith)
some_at f (p ∷ ps) (suc i) l h = pick (f p) (some_at f ps i (omega (arith, l)) h)
  where
    pick : (b : Bool) → 1 ≤ length (filter f ps) → 1 ≤ length (cond b (p ∷ filter f ps) (filter f ps))
    pick true r = omega (arith, r)
    pick false r = r

both_count : (f : Played → Bool) (ps : List Played) (p : Played) → f p ≡ true → length (filter f (ps ++ p ∷ [])) ≡ length (filter f ps) + 1
both_count f ps p h =
    ap length (filter-append f ps (p ∷ [])) ∙ (length-append (filter f ps) (filter f (p ∷ []))
    ∙ ap (λ b. length (filter f ps) + length (cond b (p ∷ []) [])) h)

-- no other note sounds on the key of a note that begins
alone : (z : ℕ) (part : ℕ → Bool) (ps : List Played) (p : Played) (xs : List Note) → ((c k : ℕ) → sounding_on c k xs ≤ 1)
    → filter (is_on z) (ps ++ p ∷ []) ≡ map (played_on z) (filter (λ n. part n.channel) xs) → p.part.port ≡ z → p.ended ≡ None
    → (i : ℕ) → i < length ps → SameKey (note_at ps i) p → (note_at ps i).ended ≡ None → ⊥
alone z part ps p xs one here on unended i l same silent =
    let c : ℕ = p.part.channel in
    let k : ℕ = p.key in
    let at : Played → Bool = is_at z (is_key c k) in
    let all : length (filter at (ps ++ p ∷ [])) ≡ sounding_on c k (filter (λ n. part n.channel) xs) =
    ap length (sym (at_on z (is_key c k) (ps ++ p ∷ [])) ∙ ap (filter at) here) ∙ counts z c k (filter (λ n. part n.channel) xs) in
    let few : sounding_on c k (filter (λ n. part n.channel) xs) ≤ sounding_on c k xs = fewer part c k xs in
    let most : sounding_on c k xs ≤ 1 = one c k in
    let new : at p ≡ true = sounds_there z c k p (record { port = on; channel = refl; key = refl; unended = unended }) in
    let two : length (filter at (ps ++ p ∷ [])) ≡ length (filter at ps) + 1 = both_count at ps p new in
    let old : at (note_at ps i) ≡ true = sounds_there z c k (note_at ps i) (record {
      port = same.port
          ∙ on;
      channel = same.channel;
      key = same.key;
      unended = silent;
    }) in
    let some : 1 ≤ length (filter at ps) = some_at at ps i l old in
    omega (arith, all, few, most, two, some)

-- ---- one event more

-- What it rests on, as contracts have it.
pub record MusicLaws : Type 0 where
  pub age : NotesAge
  pub fade : NotesFade
  pub one : OneNoteSoundsOnAKey
  pub events : EventsWithNext

abbrev ends : Change → ℕ → ℕ → Bool
ends change = channels_below change.ended.keys 16

abbrev ended_now : List MidiEvent → MidiEvent → Change → List Played → List Played
ended_now es e change ps = map (marked (port_on es e) (ends change) e.tick) ps

on_port : MusicLaws → (o : Options) (table : Targets) (es : List MidiEvent) (e : MidiEvent) (change : Change) (last : List ℕ) (ps new : List Played)
    → TellsChange o table es e change → AreHeard o es last ps
    → Begins o (port_on es e) e.tick (music_on (port_on es e) es) e.what new
    → map (played_on (port_on es e)) (notes_on o (es ++ e ∷ []) (port_on es e))
    ≡ filter (is_on (port_on es e)) (ended_now es e change ps) ++ new
on_port laws o table es e change last ps new told heard begins =
    let z : ℕ = port_on es e in
    let part : ℕ → Bool = is_part o in
    let m : Music = music_on z es in
    let later : Music = music_on z (es ++ e ∷ []) in
    let is : later ≡ (receive (after (events_on z es)) e).music = ap (λ xs. (after xs).music) (events_here laws.events es e)
    ∙ ap (λ (r : Receiver). r.music) (music_next (events_on z es) e) in
    let low : AllByRecursion (HasLowKeys part) m.notes =
    low_notes z part m.notes (subst (λ xs. AllByRecursion IsLow xs) (heard.of_port z) (low_kept (is_on z) ps (low_from ps heard.indexed.low))) in
    let now : List Note = (receive (after (events_on z es)) e).music.notes in
    let ended : (c k : ℕ) → c < 16 → k < 128 → has (slice_index change.ended.keys c) k ≡ (part c && ended_on c k m.notes now) =
    λ c k a b. told.ended c k a b ∙ ap (λ (x : Music). part c && ended_on c k m.notes x.notes) is in
    let are : AreTold part (ends change) m.notes now =
    are_told part (ends change) m.notes now (λ c k. laws.one (events_on z es) c k) (tells o es e change.ended.keys m.notes now ended) low in
    let next = notes_next z e.tick part (ends change) (begun_by m e.tick (doing e.what)) m.notes now (laws.age m e.tick (doing e.what))
    (laws.fade m e.tick (doing e.what)) are in
    ap (λ (x : Music). map (played_on z) (filter (λ n. part n.channel) x.notes)) is
    ∙ (next ∙ (ap (λ xs. map (marked z (ends change) e.tick) xs ++ map (played_on z) (filter (λ n. part n.channel) (begun_by m e.tick
    (doing e.what)))) (sym (heard.of_port z))
    ∙ (ap (λ xs. xs ++ map (played_on z) (filter (λ n. part n.channel) (begun_by m e.tick (doing e.what)))) (sym (marked_on z z
    (ends change) e.tick ps))
    ∙ ap (λ xs. filter (is_on z) (ended_now es e change ps) ++ xs) begins.notes)))

off_port : MusicLaws → (o : Options) (es : List MidiEvent) (e : MidiEvent) (change : Change) (last : List ℕ) (ps : List Played) (y : ℕ)
    → AreHeard o es last ps → nat_eq (port_on es e) y ≡ false
    → filter (is_on y) (ended_now es e change ps) ≡ map (played_on y) (notes_on o (es ++ e ∷ []) y)
off_port laws o es e change last ps y heard d =
    marked_on y (port_on es e) (ends change) e.tick ps
    ∙ (ap (map (marked (port_on es e) (ends change) e.tick)) (heard.of_port y)
    ∙ (elsewhere y (port_on es e) (ends change) e.tick (notes_on o es y) (swap (port_on es e) y d)
    ∙ ap (λ xs. map (played_on y) (filter (λ n. is_part o n.channel) (after xs).music.notes)) (sym (events_there laws.events es e y d))))
  where
    swap : (a b : ℕ) → nat_eq a b ≡ false → nat_eq b a ≡ false
    swap a b h = pick (nat_eq b a) refl
      where
        pick : (x : Bool) → nat_eq b a ≡ x → x ≡ false
        pick true g = absurd (let no : true ≡ false = sym (eq-eqb a b (sym (eqb-true b a g))) ∙ h in cc)
        pick false g = refl

-- the notes of a port that are new
new_on : (z : ℕ) (new : List Played) (y : ℕ) → AllByRecursion (λ p. p.part.port ≡ z) new → nat_eq z y ≡ false → filter (is_on y) new ≡ []
new_on z [] y on d = refl
new_on z (p ∷ ps) y on d =
    ap (λ x. cond (nat_eq x y) (p ∷ filter (is_on y) ps) (filter (is_on y) ps)) on.0
    ∙ (ap (λ b. cond b (p ∷ filter (is_on y) ps) (filter (is_on y) ps)) d ∙ new_on z ps y on.1 d)

new_here : (z : ℕ) (new : List Played) → AllByRecursion (λ p. p.part.port ≡ z) new → filter (is_on z) new ≡ new
new_here z [] on = refl
new_here z (p ∷ ps) on = ap (λ b. cond b (p ∷ filter (is_on z) ps) (filter (is_on z) ps)) (eq-eqb p.part.port z on.0)
    ∙ ap (λ xs. p ∷ xs) (new_here z ps on.1)

ports_are : (b : Bool) (z : ℕ) (new : List Played) → one_if b z ≡ map port_in new → AllByRecursion (λ p. p.part.port ≡ z) new
ports_are b z [] h = tt
ports_are true z (p ∷ []) h = (let same : z ≡ p.part.port = cc in sym same, tt)
ports_are true z (p ∷ q ∷ ps) h = absurd cc
ports_are false z (p ∷ ps) h = absurd cc

of_ports : MusicLaws → (o : Options) (table : Targets) (es : List MidiEvent) (e : MidiEvent) (change : Change) (last : List ℕ) (ps new : List Played)
    → TellsChange o table es e change → AreHeard o es last ps
    → Begins o (port_on es e) e.tick (music_on (port_on es e) es) e.what new
    → (y : ℕ) → filter (is_on y) (ended_now es e change ps ++ new) ≡ map (played_on y) (notes_on o (es ++ e ∷ []) y)
of_ports laws o table es e change last ps new told heard begins y =
    filter-append (is_on y) (ended_now es e change ps) new ∙ pick (nat_eq (port_on es e) y) refl
  where
    on : AllByRecursion (λ p. p.part.port ≡ port_on es e) new
    on = ports_are (begins_note (is_part o) e.what) (port_on es e) new begins.order

    pick : (b : Bool) → nat_eq (port_on es e) y ≡ b
        → filter (is_on y) (ended_now es e change ps) ++ filter (is_on y) new ≡ map (played_on y) (notes_on o (es ++ e ∷ []) y)
    pick true h = subst (λ x. filter (is_on x) (ended_now es e change ps) ++ filter (is_on x) new ≡ map (played_on x) (notes_on o
        (es ++ e ∷ []) x)) (eqb-true (port_on es e) y h)
        (ap (λ r. filter (is_on (port_on es e)) (ended_now es e change ps) ++ r) (new_here (port_on es e) new on)
        ∙ sym (on_port laws o table es e change last ps new told heard begins))
    pick false h = ap (λ r. filter (is_on y) (ended_now es e change ps) ++ r) (new_on (port_on es e) new y on h)
        ∙ (append-nil (filter (is_on y) (ended_now es e change ps)) ∙ off_port laws o es e change last ps y heard h)

order_next : (o : Options) (es : List MidiEvent) (e : MidiEvent) (change : Change) (last : List ℕ) (ps new : List Played) → AreHeard o es last ps
    → one_if (begins_note (is_part o) e.what) (port_on es e) ≡ map port_in new
    → map port_in (ended_now es e change ps ++ new) ≡ ports_begun o all_zero (es ++ e ∷ [])
order_next o es e change last ps new heard order =
    map-append port_in (ended_now es e change ps) new
    ∙ (ap (λ xs. xs ++ map port_in new) (ports_marked (port_on es e) (ends change) e.tick ps ∙ heard.order)
    ∙ (ap (λ xs. ports_begun o all_zero es ++ xs) (sym order) ∙ sym (ports_next o all_zero es e)))

pub heard_none : MusicLaws → (o : Options) (table : Targets) (es : List MidiEvent) (e : MidiEvent) (change : Change) (last : List ℕ)
    (ps qs : List Played)
    → TellsChange o table es e change → AreHeard o es last ps → qs ≡ ended_now es e change ps → IsIndexed last qs → change.begun ≡ None
    → AreHeard o (es ++ e ∷ []) last qs
heard_none laws o table es e change last ps qs told heard are indexed none =
    let begins = begins_none o table (port_on es e) (suc (count_begun o es)) e.tick (music_on (port_on es e) es) e.what (sym told.begun ∙ none) in
    let all : qs ≡ ended_now es e change ps ++ [] = are ∙ sym (append-nil (ended_now es e change ps)) in
    record {
      of_port = λ y. ap (filter (is_on y)) all ∙ of_ports laws o table es e change last ps [] told heard begins y;
      order = ap (map port_in) all ∙ order_next o es e change last ps [] heard begins.order;
      indexed = indexed;
    }

-- how many there were
counted : (o : Options) (es : List MidiEvent) (e : MidiEvent) (change : Change) (last : List ℕ) (ps qs : List Played) → AreHeard o es last ps
    → qs ≡ ended_now es e change ps → count_begun o es ≡ length qs
counted o es e change last ps qs heard are =
    sym (as_many o all_zero es) ∙ (ap length (sym heard.order) ∙ (length-map ps port_in
    ∙ (sym (length-map ps (marked (port_on es e) (ends change) e.tick)) ∙ ap length (sym are))))

begun_number : (o : Options) (table : Targets) (z n t : ℕ) (what : MidiWhat) (b : Begun) → told_by o table z n t what ≡ Some b → b.note ≡ n
begun_number o table z n t (Says (NoteOn c k (suc v))) b h = pick (is_part o c) h
  where
    pick : (x : Bool)
        → cond {A = Option Begun} x (Some (record {
          note = n;
          pair = record {
            part =
                record { port = z; channel = c };
            steps = aim_steps o table k t;
          };
          key = k;
          target = aim_in o table k t;
        })) None ≡ Some b
        → b.note ≡ n
    pick true g = let same : n ≡ b.note = cc in sym same
    pick false g = absurd cc
begun_number o table z n t what b h = absurd cc

pub heard_some : MusicLaws → (o : Options) (table : Targets) (es : List MidiEvent) (e : MidiEvent) (change : Change) (last : List ℕ)
    (ps qs : List Played) (b : Begun)
    (p : Played) → TellsChange o table es e change → AreHeard o es last ps → qs ≡ ended_now es e change ps → IsIndexed last qs → change.begun ≡ Some b
    → p ≡ new_note e.tick e.what b → IsLow p
    → AreHeard o (es ++ e ∷ []) (set last (place_of p.part.port p.part.channel p.key) b.note) (qs ++ p ∷ [])
heard_some laws o table es e change last ps qs b p told heard are indexed some is low =
    let z : ℕ = port_on es e in
    let by : told_by o table z (suc (count_begun o es)) e.tick e.what ≡ Some b = sym told.begun ∙ some in
    let begins = begins_some o table z (suc (count_begun o es)) e.tick (music_on z es) e.what b by in
    let all : qs ++ p ∷ [] ≡ ended_now es e change ps ++ new_note e.tick e.what b ∷ [] =
    ap (λ xs. xs ++ p ∷ []) are ∙ ap (λ x. ended_now es e change ps ++ x ∷ []) is in
    let here : (y : ℕ) → filter (is_on y) (qs ++ p ∷ []) ≡ map (played_on y) (notes_on o (es ++ e ∷ []) y) =
    λ y. ap (filter (is_on y)) all ∙ of_ports laws o table es e change last ps (new_note e.tick e.what b ∷ []) told heard begins y in
    let on : AllByRecursion (λ p. p.part.port ≡ z) (new_note e.tick e.what b ∷ []) = ports_are (begins_note (is_part o) e.what) z
    (new_note e.tick e.what b ∷ []) begins.order in
    let port : p.part.port ≡ z = ap port_in is ∙ on.0 in
    let number : b.note ≡ suc (length qs) = begun_number o table z (suc (count_begun o es)) e.tick e.what b by
    ∙ ap suc (counted o es e change last ps qs heard are) in
    record {
      of_port = here;
      order = ap (map port_in) all ∙ order_next o es e change last ps (new_note e.tick e.what b ∷ []) heard begins.order;
      indexed = indexed_more last qs p b.note indexed low number
          (alone z (is_part o) qs p (music_on z (es ++ e ∷ [])).notes (λ c k. laws.one (events_on z (es ++ e ∷ [])) c k) (here z) port (ap (λ
          (x : Played). x.ended) is));
    }

-- before any event
pub heard_at_first : (o : Options) (last : List ℕ) → length last ≡ 524288 → AreHeard o [] last []
heard_at_first o last places = record {
  of_port = λ z. refl;
  order = refl;
  indexed = record { places = places; low = λ i l. absurd (omega (arith, l)); sounding = λ i l unended. absurd (omega (arith, l)) };
}
