-- What holds of each note on, by its channel, key and tick, holds of each note that began.
use Rattle.std.proofs.Common.{◌≡◌, ◌<◌, ℕ, zero, suc, List, [], ◌∷◌, ◌++◌, Bool, true, false, cond, nat_eq, Option, Some, None, refl, sym, subst, arith}
use Rattle.std.specs.List.{AllByRecursion}
use Rattle.mt_base.specs.declared.event.Msg.TheVariants.{NoteOn, NoteOff, KeyPressure, Control, Program, Pressure, Bend}
use Rattle.mt_base.specs.Midi.{MidiWhat, Says, SysexOf, MetaOf, MidiEvent}
use Rattle.mt_base.specs.Valid.{IsValidWhat, IsValidEvent}
use Rattle.midi_model.specs.Sysex.{Retune, Resets, Nothing, doing, is_reset, tunes, tuning_of}
use Rattle.midi_model.specs.Notes.{Note}
use Rattle.midi_model.specs.Music.{Music, quiet, begun, step, play}
use Rattle.midi_model.specs.MusicLaws.{NotesFade, AllFade, begun_by}
use Rattle.midi_model.specs.Receiver.{Receiver, start, receive, receive_all, after}
use Rattle.retune_model.specs.Ports.{port_of, ports_after, with_event, of_port_from, events_on, unnumbered, all_zero}

-- of the note that an event begins
abbrev pub OfBegun : (ℕ → ℕ → ℕ → Type 0) → ℕ → MidiWhat → Type 0
OfBegun P t (Says (NoteOn c k (suc v))) = P c k t
OfBegun P t _ = Unit {0}

abbrev pub OfNote : (ℕ → ℕ → ℕ → Type 0) → Note → Type 0
OfNote P n = P n.channel n.key n.onset

faded : (P : ℕ → ℕ → ℕ → Type 0) (ns xs : List Note) → AllFade ns xs → AllByRecursion (OfNote P) ns → AllByRecursion (OfNote P) xs
faded P [] [] f h = tt
faded P (n ∷ ns) (x ∷ xs) f h = (
  subst (λ t. P x.channel x.key t) (sym f.0.onset) (subst (λ k. P x.channel k n.onset) (sym f.0.key) (subst (λ c. P c n.key n.onset) (sym f.0.channel) h.0)),
  faded P ns xs f.1 h.1,
)
faded P [] (x ∷ xs) f h = absurd f
faded P (n ∷ ns) [] f h = absurd f

pub joined : (P : Note → Type 0) (xs ys : List Note) → AllByRecursion P xs → AllByRecursion P ys → AllByRecursion P (xs ++ ys)
joined P [] ys a b = b
joined P (x ∷ xs) ys a b = (a.0, joined P xs ys a.1 b)

tuned_begins : (Q : List Note → Type 0) (m : Music) (t : ℕ) (r : Option Retune) → Q [] → Q (begun_by m t (tunes r))
tuned_begins Q m t None h = h
tuned_begins Q m t (Some r) h = h

sysex_begins : (Q : List Note → Type 0) (m : Music) (t lead : ℕ) (bytes : List ℕ) → Q [] → Q (begun_by m t (doing (SysexOf lead bytes)))
sysex_begins Q m t lead bytes h = pick (nat_eq lead 0xf0) (is_reset bytes)
  where
    pick : (a b : Bool) → Q (begun_by m t (cond a (cond b Resets (tunes (tuning_of bytes))) Nothing))
    pick true true = h
    pick true false = tuned_begins Q m t (tuning_of bytes) h
    pick false b = h

-- an event begins no note or one
pub begun_list : (Q : List Note → Type 0) (m : Music) (t : ℕ) (what : MidiWhat) → Q []
    → ((c k v : ℕ) → what ≡ Says (NoteOn c k (suc v)) → Q (begun m t c k (suc v) ∷ []))
    → Q (begun_by m t (doing what))
begun_list Q m t (Says (NoteOn c k (suc v))) h f = f c k v refl
begun_list Q m t (Says (NoteOn c k zero)) h f = h
begun_list Q m t (Says (NoteOff c k v)) h f = h
begun_list Q m t (Says (KeyPressure c k v)) h f = h
begun_list Q m t (Says (Control c n v)) h f = h
begun_list Q m t (Says (Program c p)) h f = h
begun_list Q m t (Says (Pressure c v)) h f = h
begun_list Q m t (Says (Bend c v)) h f = h
begun_list Q m t (SysexOf lead bytes) h f = sysex_begins Q m t lead bytes h
begun_list Q m t (MetaOf kind bytes) h f = h

begun_too : (P : ℕ → ℕ → ℕ → Type 0) (m : Music) (t : ℕ) (what : MidiWhat) → OfBegun P t what → AllByRecursion (OfNote P) (begun_by m t (doing what))
begun_too P m t what h = begun_list (AllByRecursion (OfNote P)) m t what tt (λ c k v e. (subst (OfBegun P t) e h, tt))

played_all : (P : ℕ → ℕ → ℕ → Type 0) → NotesFade → (m : Music) (es : List MidiEvent) → AllByRecursion (λ e. OfBegun P e.tick e.what) es
    → AllByRecursion (OfNote P) m.notes → AllByRecursion (OfNote P) (play m es).notes
played_all P fade m [] h k = k
played_all P fade m (e ∷ es) h k =
    played_all P fade (step m e) es h.1
    (faded P (m.notes ++ begun_by m e.tick (doing e.what)) (step m e).notes (fade m e.tick (doing e.what))
    (joined (OfNote P) m.notes (begun_by m e.tick (doing e.what)) k (begun_too P m e.tick e.what h.0)))

pub music_all : (r : Receiver) (es : List MidiEvent) → (receive_all r es).music ≡ play r.music es
music_all r [] = refl
music_all r (e ∷ es) = music_all (receive r e) es

pub all_notes : (P : ℕ → ℕ → ℕ → Type 0) → NotesFade → (es : List MidiEvent) → AllByRecursion (λ e. OfBegun P e.tick e.what) es
    → AllByRecursion (OfNote P) (after es).music.notes
all_notes P fade es h = subst (λ (m : Music). AllByRecursion (OfNote P) m.notes) (sym (music_all start es)) (played_all P fade quiet es h tt)

-- ---- keys of valid events

low_key : (e : MidiEvent) → IsValidEvent e → OfBegun (λ c k t. k < 128) e.tick e.what
low_key e h = pick e.what h.what
  where
    pick : (what : MidiWhat) → IsValidWhat what → OfBegun (λ c k t. k < 128) e.tick what
    pick (Says (NoteOn c k (suc v))) h = (let l = h.1 in omega (arith, l))
    pick (Says (NoteOn c k zero)) h = tt
    pick (Says (NoteOff c k v)) h = tt
    pick (Says (KeyPressure c k v)) h = tt
    pick (Says (Control c n v)) h = tt
    pick (Says (Program c p)) h = tt
    pick (Says (Pressure c v)) h = tt
    pick (Says (Bend c v)) h = tt
    pick (SysexOf lead bytes) h = tt
    pick (MetaOf kind bytes) h = tt

pub each_event : (P Q : MidiEvent → Type 0) (es : List MidiEvent) → ((e : MidiEvent) → P e → Q e) → AllByRecursion P es → AllByRecursion Q es
each_event P Q [] f h = tt
each_event P Q (e ∷ es) f h = (f e h.0, each_event P Q es f h.1)

of_port : (P : MidiEvent → Type 0) (z : ℕ) (ports : ℕ → ℕ) (k : ℕ) (es : List MidiEvent) → AllByRecursion P es
    → AllByRecursion P (unnumbered (of_port_from z ports k es))
of_port P z ports k [] h = tt
of_port P z ports k (e ∷ es) h = pick (nat_eq (port_of ports e) z) (of_port P z (ports_after ports e) (suc k) es h.1)
  where
    pick : (b : Bool) → AllByRecursion P (unnumbered (of_port_from z (ports_after ports e) (suc k) es))
        → AllByRecursion P (unnumbered (with_event b (record { position = suc k; event = e }) (of_port_from z (ports_after ports e) (suc k) es)))
    pick true r = (h.0, r)
    pick false r = r

-- what holds of all events holds of those of a port
pub on_port : (P : MidiEvent → Type 0) (z : ℕ) (es : List MidiEvent) → AllByRecursion P es → AllByRecursion P (events_on z es)
on_port P z es h = of_port P z all_zero 0 es h

pub keys_low : NotesFade → (z : ℕ) (es : List MidiEvent) → AllByRecursion IsValidEvent es
    → AllByRecursion (λ n. n.key < 128) (after (events_on z es)).music.notes
keys_low fade z es valid =
    all_notes (λ c k t. k < 128) fade (events_on z es) (each_event IsValidEvent (λ e. OfBegun (λ c k t. k < 128) e.tick e.what) (events_on z es) low_key (on_port IsValidEvent z es valid))
