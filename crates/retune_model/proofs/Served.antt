-- Each note on of a retuned part of a source that dump takes is served by the setup.
use Rattle.std.proofs.Common.{◌≡◌, ◌≤◌, ◌<◌, ◌+◌, ℕ, zero, suc, List, [], ◌∷◌, Bool, true, false, cond, not, ◌&&◌, nat_eq, Option, Some, None, refl, ap, sym, ◌∙◌, subst, arith, inl, inr}
use Rattle.std.specs.List.{AllByRecursion, filter}
use Rattle.std.specs.Option.{is_some}
use Rattle.std.proofs.lemmas.Bool.{and_from, and_parts, or_left, or_right, cases_eq, eq-eqb}
use Rattle.mt_base.specs.declared.event.Msg.{Msg}
use Rattle.mt_base.specs.declared.event.Msg.TheVariants.{NoteOn, NoteOff, KeyPressure, Control, Program, Pressure, Bend}
use Rattle.mt_base.specs.Midi.{MidiWhat, Says, SysexOf, MetaOf, MidiEvent}
use Rattle.mt_base.specs.Valid.{IsValidWhat, IsValidEvent}
use Rattle.midi_model.specs.Sysex.{is_reset}
use Rattle.midi_model.specs.Tuning.{selected_of}
use Rattle.midi_model.specs.Music.{Music, step, play}
use Rattle.midi_model.specs.MusicLaws.{NotesFade}
use Rattle.midi_model.specs.Zones.{no_zones}
use Rattle.retune_model.proofs.Begun.{AllNotes, Begins, BeginsIn, all_step}
use Rattle.retune_model.specs.Table.{tuning_target}
use Rattle.retune_model.specs.Options.{Options, ByDump, has_drums, is_drum_message, keeps_drums, is_retuned}
use Rattle.retune_model.specs.PlaysTheSame.{begins_note}
use Rattle.retune_model.specs.Faults.{Targets, is_part, has_target, misses_target}
use Rattle.retune_model.specs.Routes.{IsHarmless}
use Rattle.retune_model.specs.Dump.{has_note_on, from_up, dump_if, dump_setup}
use Rattle.retune_model.proofs.Faultless.{IsFineMessage, IsFineEvent, AreFineFrom, no_zones_step}
use Rattle.retune_model.proofs.Heard.{IsHeard}
use Rattle.retune_model.proofs.Fronts.{all_weaker}

-- what an event of a source shows of the whole source
pub record Shows (o : Options) (source : List MidiEvent) (w : MidiWhat) : Type 0 where
  pub part : begins_note (is_part o) w ≡ true → has_note_on (is_part o) source ≡ true
  pub channel : (c : ℕ) → begins_note (λ d. nat_eq d c) w ≡ true → has_note_on (λ d. nat_eq d c) source ≡ true
  pub drums : is_drum_message w ≡ true → has_drums source ≡ true

shows_more : (o : Options) (source : List MidiEvent) (x : MidiEvent) (e : MidiEvent) → Shows o source e.what → Shows o (x ∷ source) e.what
shows_more o source x e h = record {
  part = λ k. or_right (begins_note (is_part o) x.what) (has_note_on (is_part o) source) (h.part k);
  channel = λ c k. or_right (begins_note (λ d. nat_eq d c) x.what) (has_note_on (λ d. nat_eq d c) source) (h.channel c k);
  drums = λ k. or_right (is_drum_message x.what) (has_drums source) (h.drums k);
}

pub all_show : (o : Options) (source : List MidiEvent) → AllByRecursion (λ e. Shows o source e.what) source
all_show o [] = tt
all_show o (x ∷ xs) = (
  record {
    part = λ k. or_left (begins_note (is_part o) x.what) (has_note_on (is_part o) xs) k;
    channel = λ c k. or_left (begins_note (λ d. nat_eq d c) x.what) (has_note_on (λ d. nat_eq d c) xs) k;
    drums = λ k. or_left (is_drum_message x.what) (has_drums xs) k;
  },
  all_weaker (λ e. Shows o xs e.what) (λ e. Shows o (x ∷ xs) e.what) (shows_more o xs x) xs (all_show o xs),
)

-- what holds of all that pass a test holds of each that does
pub of_passed : (Q : ℕ → Type 0) (f : ℕ → Bool) (n a c : ℕ) → a ≤ c → c < a + n → f c ≡ true → AllByRecursion Q (filter f (from_up a n)) → Q c
of_passed Q f zero a c low high e h = absurd (omega (arith, low, high))
of_passed Q f (suc n) a c low high e h = elim (cases_eq c a) [
  | inl same ↦ (let at : f a ≡ true = ap f (sym same) ∙ e in subst Q (sym same) (first (f a) at h))
  | inr other ↦ of_passed Q f n (a + 1) c (omega (arith, low, other)) (omega (arith, high)) e (rest (f a) h)
]
  where
    first : (b : Bool) → b ≡ true → AllByRecursion Q (cond b (a ∷ filter f (from_up (a + 1) n)) (filter f (from_up (a + 1) n))) → Q a
    first true k x = x.0
    first false k x = absurd cc

    rest : (b : Bool) → AllByRecursion Q (cond b (a ∷ filter f (from_up (a + 1) n)) (filter f (from_up (a + 1) n))) → AllByRecursion Q (filter f (from_up (a + 1) n))
    rest true x = x.1
    rest false x = x

-- what holds of each that passes holds of all
all_passed : (Q : ℕ → Type 0) (f : ℕ → Bool) (xs : List ℕ) → AllByRecursion (λ c. f c ≡ true → Q c) xs → AllByRecursion Q (filter f xs)
all_passed Q f [] h = tt
all_passed Q f (x ∷ xs) h = pick (f x) refl (all_passed Q f xs h.1)
  where
    pick : (b : Bool) → f x ≡ b → AllByRecursion Q (filter f xs) → AllByRecursion Q (cond b (x ∷ filter f xs) (filter f xs))
    pick true e k = (h.0 e, k)
    pick false e k = k

low_from_up : (f : ℕ → Bool) (n a m : ℕ) → a + n ≤ m → AllByRecursion (λ c. f c ≡ true → c < m) (from_up a n)
low_from_up f zero a m l = tt
low_from_up f (suc n) a m l = ((λ k. omega (arith, l)), low_from_up f n (a + 1) m (omega (arith, l)))

parts_from_up : (o : Options) (g : ℕ → Bool) (n a : ℕ) → AllByRecursion (λ c. (is_part o c && g c) ≡ true → is_part o c ≡ true) (from_up a n)
parts_from_up o g zero a = tt
parts_from_up o g (suc n) a = ((λ k. (and_parts (is_part o a) (g a) k).0), parts_from_up o g n (a + 1))

pub setup_harmless : (o : Options) (bytes : List ℕ) (source : List MidiEvent) → is_reset bytes ≡ false → IsHarmless (dump_setup o bytes source)
setup_harmless o bytes source h = record {
  dumps = dumps (has_note_on (is_part o) source);
  channels = all_passed (λ c. c < 16) (λ c. is_part o c && has_note_on (λ d. nat_eq d c) source) (from_up 0 16) (low_from_up (λ c. is_part o c && has_note_on (λ d. nat_eq d c) source) 16 0 16 (omega arith));
}
  where
    dumps : (b : Bool) → AllByRecursion (λ x. is_reset x ≡ false) (dump_if b bytes)
    dumps true = (h, tt)
    dumps false = tt

pub setup_parts : (o : Options) (bytes : List ℕ) (source : List MidiEvent) → AllByRecursion (λ c. is_part o c ≡ true) (dump_setup o bytes source).channels
setup_parts o bytes source = all_passed (λ c. is_part o c ≡ true) (λ c. is_part o c && has_note_on (λ d. nat_eq d c) source) (from_up 0 16) (parts_from_up o (λ c. has_note_on (λ d. nat_eq d c) source) 16 0)

-- ---- a note on
pub record Found {A : Type 0} (x : Option A) : Type 0 where
  pub value : A
  pub is : x ≡ Some value

pub found : {A : Type 0} (x : Option A) → is_some x ≡ true → Found x
found None h = absurd cc
found (Some a) h = record { value = a; is = refl }

pub unless : (a b : Bool) → (a && not b) ≡ false → a ≡ true → b ≡ true
unless true true h k = refl
unless true false h k = absurd cc
unless false b h k = absurd cc

-- drums that are kept are those of the source
pub still_part : (keep has nine : Bool) → (nine ≡ true → has ≡ true) → not ((keep && has) && nine) ≡ true → not (keep && nine) ≡ true
still_part false has nine f h = refl
still_part true has false f h = refl
still_part true true true f h = h
still_part true false true f h = (let e : false ≡ true = f refl in absurd cc)

heard_note_on : (o : Options) (table : Targets) (bytes : List ℕ) (source : List MidiEvent) (m : Music) (c k v t : ℕ) → o.route ≡ ByDump → IsFineMessage o table m t (NoteOn c k (suc v)) → c ≤ 15 → k ≤ 127
    → Shows o source (Says (NoteOn c k (suc v))) → is_retuned (keeps_drums o source) c ≡ true → IsHeard table (dump_setup o bytes source) bytes c k t
heard_note_on o table bytes source m c k v t route f channel key shows retuned =
    let part : is_part o c ≡ true = still_part o.keep_drums (has_drums source) (nat_eq c 9) shows.drums retuned in
    let bounds = found (table k t) (unless (is_part o c) (is_some (table k t)) f.mapped part) in
    let misses : (is_part o c && not (has_target o.route o.range bounds.value)) ≡ false = ap (λ x. is_part o c && misses_target o x) (sym bounds.is) ∙ f.in_device in
    let has : has_target o.route o.range bounds.value ≡ true = unless (is_part o c) (has_target o.route o.range bounds.value) misses part in
    let value = found (tuning_target bounds.value) (ap (λ r. has_target r o.range bounds.value) (sym route) ∙ has) in
    record {
      low = omega (arith, key);
      bounds = bounds.value;
      found = bounds.is;
      value = value.value;
      target = value.is;
      dumped = ap (λ b. dump_if b bytes) (shows.part part);
      selected = λ u tuned. of_passed (λ d. selected_of u d ≡ Some o.program) (λ d. is_part o d && has_note_on (λ x. nat_eq x d) source) 16 0 c (omega arith) (omega (arith, channel))
          (and_from (is_part o c) (has_note_on (λ x. nat_eq x c) source) part (shows.channel c (eq-eqb c c refl))) tuned.selected;
    }

-- a retuned note is one that the setup serves
abbrev pub IsServed : Options → Targets → List ℕ → List MidiEvent → ℕ → ℕ → ℕ → Type 0
IsServed o table bytes source c k t = is_retuned (keeps_drums o source) c ≡ true → IsHeard table (dump_setup o bytes source) bytes c k t

begins_message : (o : Options) (table : Targets) (bytes : List ℕ) (source : List MidiEvent) (m : Music) (t : ℕ) (msg : Msg) → o.route ≡ ByDump → IsFineMessage o table m t msg → IsValidWhat (Says msg)
    → Shows o source (Says msg) → Begins (IsServed o table bytes source) t msg
begins_message o table bytes source m t (NoteOn c k (suc v)) route f valid shows = heard_note_on o table bytes source m c k v t route f valid.0 valid.1 shows
begins_message o table bytes source m t (NoteOn c k zero) route f valid shows = tt
begins_message o table bytes source m t (NoteOff c k v) route f valid shows = tt
begins_message o table bytes source m t (KeyPressure c k v) route f valid shows = tt
begins_message o table bytes source m t (Control c n v) route f valid shows = tt
begins_message o table bytes source m t (Program c p) route f valid shows = tt
begins_message o table bytes source m t (Pressure c v) route f valid shows = tt
begins_message o table bytes source m t (Bend c v) route f valid shows = tt

begins_what : (o : Options) (table : Targets) (bytes : List ℕ) (source : List MidiEvent) (m : Music) (t : ℕ) (w : MidiWhat) → o.route ≡ ByDump → IsFineEvent o table m t w → IsValidWhat w
    → Shows o source w → BeginsIn (IsServed o table bytes source) t w
begins_what o table bytes source m t (Says msg) route f valid shows = begins_message o table bytes source m t msg route f valid shows
begins_what o table bytes source m t (SysexOf lead bs) route f valid shows = tt
begins_what o table bytes source m t (MetaOf kind bs) route f valid shows = tt

-- what is known of each event, but for its fault
abbrev pub IsKnown : Options → List MidiEvent → MidiEvent → Type 0
IsKnown o source e = IsValidEvent e × Shows o source e.what

pub served_step : NotesFade → (o : Options) (table : Targets) (bytes : List ℕ) (source : List MidiEvent) (m : Music) (e : MidiEvent) → o.route ≡ ByDump → IsFineEvent o table m e.tick e.what → IsKnown o source e
    → AllNotes (IsServed o table bytes source) m.notes → AllNotes (IsServed o table bytes source) (step m e).notes
served_step fade o table bytes source m e route f known h = all_step fade (IsServed o table bytes source) m e h (begins_what o table bytes source m e.tick e.what route f known.0.what known.1)

pub served_play : NotesFade → (o : Options) (table : Targets) (bytes : List ℕ) (source : List MidiEvent) (m : Music) (es : List MidiEvent) → o.route ≡ ByDump → AreFineFrom o table m es → AllByRecursion (IsKnown o source) es
    → AllNotes (IsServed o table bytes source) m.notes → AllNotes (IsServed o table bytes source) (play m es).notes
served_play fade o table bytes source m [] route f known h = h
served_play fade o table bytes source m (e ∷ es) route f known h = served_play fade o table bytes source (step m e) es route f.1 known.1 (served_step fade o table bytes source m e route f.0 known.0 h)

pub zones_play : (o : Options) (table : Targets) (m : Music) (es : List MidiEvent) → AreFineFrom o table m es → m.zones ≡ no_zones → (play m es).zones ≡ no_zones
zones_play o table m [] f z = z
zones_play o table m (e ∷ es) f z = zones_play o table (step m e) es f.1 (no_zones_step o table m e f.0 z)

pub all_known : (o : Options) (source es : List MidiEvent) → AllByRecursion IsValidEvent es → AllByRecursion (λ e. Shows o source e.what) es → AllByRecursion (IsKnown o source) es
all_known o source [] h k = tt
all_known o source (e ∷ es) h k = ((h.0, k.0), all_known o source es h.1 k.1)
