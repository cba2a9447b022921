-- Each retuned note of a source without a fault has a line: its key had a target when it began.
use Rattle.std.proofs.Common.{◌≡◌, ◌<◌, ◌≤◌, ◌&&◌, ◌++◌, ℕ, suc, zero, List, [], ◌∷◌, Bool, true, false, cond, not, nat_eq, Option, Some, None, is_some, drop, refl, sym, subst, arith}
use Rattle.std.specs.Prelude.{filter, option_map}
use Rattle.std.specs.List.{AllByRecursion}
use Rattle.mt_base.specs.declared.event.Msg.{Msg}
use Rattle.mt_base.specs.declared.event.Msg.TheVariants.{NoteOn, NoteOff, KeyPressure, Control, Program, Pressure, Bend}
use Rattle.mt_base.specs.Midi.{MidiWhat, Says, SysexOf, MetaOf, MidiEvent}
use Rattle.mt_base.specs.Valid.{IsValidMsg, IsValidWhat, IsValidEvent}
use Rattle.midi_model.specs.Notes.{Note}
use Rattle.midi_model.specs.Music.{Music, quiet, play, step}
use Rattle.midi_model.specs.MusicLaws.{NotesFade}
use Rattle.midi_model.specs.Receiver.{start}
use Rattle.retune_model.specs.Table.{Bounds, tuning_target, bend_target}
use Rattle.retune_model.specs.Options.{Route, ByDump, ByLive, ByBend, ByMpe, Options, bends_notes}
use Rattle.retune_model.specs.Ports.{all_zero, events_on, port_of, ports_after}
use Rattle.retune_model.specs.PlaysTheSame.{begins_note}
use Rattle.retune_model.specs.Faults.{Targets, is_part, has_target, misses_target}
use Rattle.retune_model.specs.SourceFaults.{IsFaultless}
use Rattle.retune_model.proofs.Begun.{AllNotes, Begins, BeginsIn, all_step}
use Rattle.retune_model.proofs.Faultless.{IsFineMessage, IsFineEvent, AreFineFrom, port_fine}
use Rattle.lifetimes.proofs.NotesKept.{music_all, on_port}
use Rattle.key_report.specs.declared.target.Target.TheVariants.{Value}
use Rattle.key_report.specs.Targets.{bent_to, target_of, target_if}
use Rattle.audit_report.specs.declared.played.Played.{Played}
use Rattle.audit_report.specs.Laws.{HasLine, NotesWithTargetsAreTold, EachNoteIsTold}
use Rattle.audit_report.specs.Played.{dealt, first_on, notes_on, played_on}

-- ---- a key without a fault has a target

abbrev range_on : Options → Option ℕ
range_on o = cond (bends_notes o.route) (Some o.range) None

kept : (b : Bool) → not b ≡ false → b ≡ true
kept true h = refl
kept false h = absurd cc

without : (a b : Bool) → (a && b) ≡ false → a ≡ true → b ≡ false
without true b h k = h
without false b h k = absurd cc

mapped : {A B : Type 0} (f : A → B) (x : Option A) → is_some x ≡ true → is_some (option_map f x) ≡ true
mapped f None h = absurd cc
mapped f (Some a) h = refl

on_route : (route : Route) (range : ℕ) (b : Bounds) → has_target route range b ≡ true
    → is_some (target_of (cond (bends_notes route) (Some range) None) b) ≡ true
on_route ByDump range b h = mapped Value (tuning_target b) h
on_route ByLive range b h = mapped Value (tuning_target b) h
on_route ByBend range b h = mapped bent_to (bend_target range b) h
on_route ByMpe range b h = mapped bent_to (bend_target range b) h

targeted : (o : Options) (b : Option Bounds) → is_some b ≡ true → misses_target o b ≡ false → is_some (target_if (range_on o) b) ≡ true
targeted o None h g = absurd cc
targeted o (Some b) h g = on_route o.route o.range b (kept (has_target o.route o.range b) g)

abbrev IsTargeted : Options → Targets → ℕ → ℕ → Type 0
IsTargeted o table k t = (k < 128) × (is_some (target_if (range_on o) (table k t)) ≡ true)

-- ---- each note that begins on a retuned part is on such a key

abbrev OfPart : Options → Targets → ℕ → ℕ → ℕ → Type 0
OfPart o table c k t = is_part o c ≡ true → IsTargeted o table k t

begins_message : (o : Options) (table : Targets) (m : Music) (t : ℕ) (msg : Msg) → IsFineMessage o table m t msg → IsValidMsg msg
    → Begins (OfPart o table) t msg
begins_message o table m t (NoteOn c k (suc v)) f valid = λ part.
    let low : k ≤ 127 = valid.1 in (
      omega (arith, low),
      targeted o (table k t) (kept (is_some (table k t)) (without (is_part o c) (not (is_some (table k t))) f.mapped part))
          (without (is_part o c) (misses_target o (table k t)) f.in_device part),
    )
begins_message o table m t (NoteOn c k zero) f valid = tt
begins_message o table m t (NoteOff c k v) f valid = tt
begins_message o table m t (KeyPressure c k v) f valid = tt
begins_message o table m t (Control c n v) f valid = tt
begins_message o table m t (Program c p) f valid = tt
begins_message o table m t (Pressure c v) f valid = tt
begins_message o table m t (Bend c v) f valid = tt

begins_what : (o : Options) (table : Targets) (m : Music) (t : ℕ) (w : MidiWhat) → IsFineEvent o table m t w → IsValidWhat w
    → BeginsIn (OfPart o table) t w
begins_what o table m t (Says msg) f valid = begins_message o table m t msg f valid
begins_what o table m t (SysexOf lead bs) f valid = tt
begins_what o table m t (MetaOf kind bs) f valid = tt

all_played : NotesFade → (o : Options) (table : Targets) (m : Music) (es : List MidiEvent) → AllByRecursion IsValidEvent es
    → AreFineFrom o table m es → AllNotes (OfPart o table) m.notes → AllNotes (OfPart o table) (play m es).notes
all_played fade o table m [] valid fine h = h
all_played fade o table m (e ∷ es) valid fine h = all_played fade o table (step m e) es valid.1 fine.1
    (all_step fade (OfPart o table) m e h (begins_what o table m e.tick e.what fine.0 valid.0.what))

-- ---- the retuned notes of a port

abbrev IsTargetedNote : Options → Targets → Note → Type 0
IsTargetedNote o table n = IsTargeted o table n.key n.onset

abbrev is_in : Options → Note → Bool
is_in o n = is_part o n.channel

with_note : (o : Options) (table : Targets) (n : Note) (xs : List Note) → OfPart o table n.channel n.key n.onset
    → AllByRecursion (IsTargetedNote o table) xs → AllByRecursion (IsTargetedNote o table) (cond (is_in o n) (n ∷ xs) xs)
with_note o table n xs h rest = pick (is_part o n.channel) refl
  where
    pick : (b : Bool) → is_part o n.channel ≡ b → AllByRecursion (IsTargetedNote o table) (cond b (n ∷ xs) xs)
    pick true e = (h e, rest)
    pick false e = rest

of_parts : (o : Options) (table : Targets) (ns : List Note) → AllNotes (OfPart o table) ns
    → AllByRecursion (IsTargetedNote o table) (filter (is_in o) ns)
of_parts o table [] h = tt
of_parts o table (n ∷ ns) h = with_note o table n (filter (is_in o) ns) h.0 (of_parts o table ns h.1)

on_ports : NotesFade → (o : Options) (table : Targets) (es : List MidiEvent) → AllByRecursion IsValidEvent es → IsFaultless o table es
    → (z : ℕ) → AllByRecursion (IsTargetedNote o table) (notes_on o es z)
on_ports fade o table es valid fine z =
    subst (λ (m : Music). AllByRecursion (IsTargetedNote o table) (filter (is_in o) m.notes)) (sym (music_all start (events_on z es)))
    (of_parts o table (play quiet (events_on z es)).notes
    (all_played fade o table quiet (events_on z es) (on_port IsValidEvent z es valid) (port_fine o table es z fine) tt))

-- ---- what holds of the notes of each port holds of those of all ports

abbrev AllOn : (Played → Type 0) → (ℕ → List Note) → Type 0
AllOn P left = (z : ℕ) → AllByRecursion (λ n. P (played_on z n)) (left z)

abbrev behind : ℕ → (ℕ → List Note) → ℕ → List Note
behind z left y = cond (nat_eq y z) (drop 1 (left y)) (left y)

without_first : (P : Note → Type 0) (ns : List Note) → AllByRecursion P ns → AllByRecursion P (drop 1 ns)
without_first P [] h = tt
without_first P (n ∷ ns) h = h.1

all_behind : (P : Played → Type 0) (z : ℕ) (left : ℕ → List Note) → AllOn P left → AllOn P (behind z left)
all_behind P z left h y = pick (nat_eq y z)
  where
    pick : (b : Bool) → AllByRecursion (λ n. P (played_on y n)) (cond b (drop 1 (left y)) (left y))
    pick true = without_first (λ n. P (played_on y n)) (left y) (h y)
    pick false = h y

with_first : (P : Played → Type 0) (z : ℕ) (ns : List Note) (xs : List Played) → AllByRecursion (λ n. P (played_on z n)) ns
    → AllByRecursion P xs → AllByRecursion P (first_on z ns ++ xs)
with_first P z [] xs h g = g
with_first P z (n ∷ ns) xs h g = (h.0, g)

either : (P : Played → Type 0) (b : Bool) (xs ys : List Played) → AllByRecursion P xs → AllByRecursion P ys → AllByRecursion P (cond b xs ys)
either P true xs ys h g = h
either P false xs ys h g = g

all_dealt : (P : Played → Type 0) (o : Options) (ports : ℕ → ℕ) (left : ℕ → List Note) (es : List MidiEvent) → AllOn P left
    → AllByRecursion P (dealt o ports left es)
all_dealt P o ports left [] h = tt
all_dealt P o ports left (e ∷ es) h =
    let z : ℕ = port_of ports e in
    let rest : List Played = dealt o (ports_after ports e) (behind z left) es in
    either P (begins_note (is_part o) e.what) (first_on z (left z) ++ rest) (dealt o (ports_after ports e) left es)
    (with_first P z (left z) rest (h z) (all_dealt P o (ports_after ports e) (behind z left) es (all_behind P z left h)))
    (all_dealt P o (ports_after ports e) left es h)

-- ---- each has a line

notes_told : NotesWithTargetsAreTold → (o : Options) (table : Targets) (z : ℕ) (ns : List Note) → AllByRecursion (IsTargetedNote o table) ns
    → AllByRecursion (λ n. HasLine table (range_on o) (played_on z n)) ns
notes_told told o table z [] h = tt
notes_told told o table z (n ∷ ns) h = (told table (range_on o) (played_on z n) h.0.0 h.0.1, notes_told told o table z ns h.1)

pub all_told : NotesFade → NotesWithTargetsAreTold → EachNoteIsTold
all_told fade told o table es valid fine = all_dealt (HasLine table (range_on o)) o all_zero (notes_on o es) es
    (λ z. notes_told told o table z (notes_on o es z) (on_ports fade o table es valid fine z))
