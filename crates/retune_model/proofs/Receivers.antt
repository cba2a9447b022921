-- "Plays the same", told by the receivers that the events lead to; what is told so is told by the events.
use Rattle.std.proofs.Common.{◌≡◌, ◌≢◌, ℕ, List, [], ◌∷◌, ◌++◌, Bool, true, false, cond, Option, refl, ap, sym, ◌∙◌, subst, map}
use Rattle.std.proofs.lemmas.List.{map-append}
use Rattle.mt_base.specs.Midi.{MidiEvent}
use Rattle.midi_model.specs.Params.{Parameter, value_of, rpn}
use Rattle.midi_model.specs.Notes.{Note, sounds}
use Rattle.midi_model.specs.Receiver.{Receiver, start, receive, after}
use Rattle.midi_model.specs.Played.{played}
use Rattle.retune_model.specs.Table.{Scaling, Bounds}
use Rattle.retune_model.specs.Options.{Options, keeps_drums, is_retuned, bound}
use Rattle.retune_model.specs.Source.{source_pitch}
use Rattle.retune_model.specs.PlaysTheSame as told
use Rattle.retune_model.specs.PlaysTheSame.{Pairwise, at_tick, until, retuned_notes, IsWithin, begins_note, output_key, HasSameNotes, plain_device, state_of}
use Rattle.retune_model.proofs.Steady.{receive_all-append}

-- ---- by receivers
pub record SoundsTheSame (scaling : Scaling) (o : Options) (rs ro : Receiver) (a b : Note) : Type 0 where
  pub controls : (state_of ro.music b).controls ≡ (state_of rs.music a).controls
  pub pressure : (state_of ro.music b).pressure ≡ (state_of rs.music a).pressure
  pub key_pressure : b.pressure ≡ a.pressure
  pub parameters : (p : Parameter) → p ≢ rpn 0 → value_of (state_of ro.music b).params p ≡ value_of (state_of rs.music a).params p
  pub pitch : IsWithin (source_pitch scaling o rs.music a) (played ro b) (bound o)

abbrev pub HasSameSound : Scaling → Options → (ℕ → Bool) → List MidiEvent → List MidiEvent → Type 0
HasSameSound scaling o part source out = (t : ℕ) →
    Pairwise (λ a b. sounds a ≡ true → SoundsTheSame scaling o (at_tick t source) (at_tick t out) a b) (retuned_notes part (at_tick t source)) (retuned_notes part (at_tick t out))

pub record Beginning : Type 0 where
  pub receiver : Receiver
  pub note : Note
  pub track : ℕ

abbrev pub last_note : Receiver → ℕ → List Note → List Beginning
last_note r track [] = []
last_note r track (n ∷ []) = record { receiver = r; note = n; track = track } ∷ []
last_note r track (n ∷ m ∷ ns) = last_note r track (m ∷ ns)

abbrev pub beginning : (ℕ → Bool) → Receiver → MidiEvent → List Beginning
beginning part r e = cond (begins_note part e.what) (last_note r e.track r.music.notes) []

abbrev pub beginnings_from : (ℕ → Bool) → Receiver → List MidiEvent → List Beginning
beginnings_from part r [] = []
beginnings_from part r (e ∷ es) = beginning part (receive r e) e ++ beginnings_from part (receive r e) es

pub record BeginsAlike (scaling : Scaling) (o : Options) (a b : Beginning) : Type 0 where
  pub track : b.track ≡ a.track
  pub pitch : IsWithin (source_pitch scaling o a.receiver.music a.note) (played b.receiver b.note) (bound o)

abbrev pub BeginsTheSame : Scaling → Options → (ℕ → Bool) → List MidiEvent → List MidiEvent → Type 0
BeginsTheSame scaling o part source out = Pairwise (BeginsAlike scaling o) (beginnings_from part start source) (beginnings_from part start out)

pub record PlaysTheSameMusic (scaling : Scaling) (o : Options) (table : ℕ → ℕ → Option Bounds) (source out : List MidiEvent) : Type 0 where
  pub notes : HasSameNotes (output_key o table) (is_retuned (keeps_drums o source)) source out
  pub sound : HasSameSound scaling o (is_retuned (keeps_drums o source)) source out
  pub beginnings : BeginsTheSame scaling o (is_retuned (keeps_drums o source)) source out

-- ---- by events
pub pairwise_weaker : {A B : Type 0} (R S : A → B → Type 0) → ((a : A) (b : B) → R a b → S a b) → (xs : List A) (ys : List B) → Pairwise R xs ys → Pairwise S xs ys
pairwise_weaker R S f [] [] h = tt
pairwise_weaker R S f [] (y ∷ ys) h = absurd h
pairwise_weaker R S f (x ∷ xs) [] h = absurd h
pairwise_weaker R S f (x ∷ xs) (y ∷ ys) h = (f x y h.0, pairwise_weaker R S f xs ys h.1)

pairwise_unmapped : {A B C D : Type 0} (R : C → D → Type 0) (f : A → C) (g : B → D) (xs : List A) (ys : List B) → Pairwise R (map f xs) (map g ys) → Pairwise (λ a b. R (f a) (g b)) xs ys
pairwise_unmapped R f g [] [] h = tt
pairwise_unmapped R f g [] (y ∷ ys) h = absurd h
pairwise_unmapped R f g (x ∷ xs) [] h = absurd h
pairwise_unmapped R f g (x ∷ xs) (y ∷ ys) h = (h.0, pairwise_unmapped R f g xs ys h.1)

same_sound : (scaling : Scaling) (o : Options) (part : ℕ → Bool) (source out : List MidiEvent) → HasSameSound scaling o part source out → told.HasSameSound scaling o (plain_device o) part source out
same_sound scaling o part source out h t =
    pairwise_weaker (λ a b. sounds a ≡ true → SoundsTheSame scaling o (at_tick t source) (at_tick t out) a b) (λ a b. sounds a ≡ true → told.SoundsTheSame scaling o (plain_device o) (until t source) (until t out) a b)
    (λ a b f s. let x = f s in record { settings = record { controls = x.controls; pressure = x.pressure; key_pressure = x.key_pressure; parameters = x.parameters }; pitch = x.pitch })
    (retuned_notes part (at_tick t source)) (retuned_notes part (at_tick t out)) (h t)

heard : told.Beginning → Beginning
heard b = record { receiver = after b.events; note = b.note; track = b.track }

last_heard : (es : List MidiEvent) (track : ℕ) (ns : List Note) → map heard (told.last_note es track ns) ≡ last_note (after es) track ns
unfolding heard
last_heard es track [] = refl
last_heard es track (n ∷ []) = refl
last_heard es track (n ∷ m ∷ ns) = last_heard es track (m ∷ ns)

begun_heard : (part : ℕ → Bool) (es : List MidiEvent) (e : MidiEvent) → map heard (told.beginning part es e) ≡ beginning part (after es) e
begun_heard part es e = pick (begins_note part e.what)
  where
    pick : (b : Bool) → map heard (cond b (told.last_note es e.track (after es).music.notes) []) ≡ cond b (last_note (after es) e.track (after es).music.notes) []
    pick true = last_heard es e.track (after es).music.notes
    pick false = refl

all_heard : (part : ℕ → Bool) (before es : List MidiEvent) → map heard (told.beginnings_from part before es) ≡ beginnings_from part (after before) es
all_heard part before [] = refl
all_heard part before (e ∷ es) =
    let now : List MidiEvent = before ++ e ∷ [] in
    let same : after now ≡ receive (after before) e = receive_all-append start before (e ∷ []) in
    map-append heard (told.beginning part now e) (told.beginnings_from part now es)
    ∙ ap (λ l. l ++ map heard (told.beginnings_from part now es)) (begun_heard part now e)
    ∙ ap (λ l. beginning part (after now) e ++ l) (all_heard part now es)
    ∙ ap (λ r. beginning part r e ++ beginnings_from part r es) same

same_beginnings : (scaling : Scaling) (o : Options) (part : ℕ → Bool) (source out : List MidiEvent) → BeginsTheSame scaling o part source out → told.BeginsTheSame scaling o (plain_device o) part source out
unfolding heard
same_beginnings scaling o part source out h =
    let xs : List told.Beginning = told.beginnings part source in
    let ys : List told.Beginning = told.beginnings part out in
    pairwise_weaker (λ a b. BeginsAlike scaling o (heard a) (heard b)) (told.BeginsAlike scaling o (plain_device o)) (λ a b x. record { track = x.track; pitch = x.pitch }) xs ys
    (pairwise_unmapped (BeginsAlike scaling o) heard heard xs ys
    (subst (λ l. Pairwise (BeginsAlike scaling o) l (map heard ys)) (sym (all_heard part [] source)) (subst (λ l. Pairwise (BeginsAlike scaling o) (beginnings_from part start source) l) (sym (all_heard part [] out)) h)))

pub by_events : (scaling : Scaling) (o : Options) (table : ℕ → ℕ → Option Bounds) (source out : List MidiEvent) → PlaysTheSameMusic scaling o table source out → told.PlaysTheSameMusic scaling o table (plain_device o) source out
by_events scaling o table source out h = record {
  notes = h.notes;
  sound = same_sound scaling o (is_retuned (keeps_drums o source)) source out h.sound;
  beginnings = same_beginnings scaling o (is_retuned (keeps_drums o source)) source out h.beginnings;
}
