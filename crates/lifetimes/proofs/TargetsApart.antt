-- In a source without a fault, where notes are bent, no two keys of a part sound with the same target.
use Rattle.std.proofs.Common.{◌≡◌, ◌<◌, ◌≤◌, ◌∙◌, ◌+◌, ℕ, zero, suc, List, [], ◌∷◌, ◌++◌, Bool, true, false, cond, not, ◌&&◌, ◌||◌, nat_eq, Option, Some, None, length, get_or, take, drop, map, refl, sym, ap, subst, arith, inl, inr}
use Rattle.std.specs.Prelude.{filter, ◌⊎◌}
use Rattle.std.specs.List.{AllByRecursion}
use Rattle.std.proofs.lemmas.Bool.{eq-eqb, eqb-true}
use Rattle.std.proofs.lemmas.List.{drop_more, take-append-drop, length-take-le}
use Rattle.mt_base.specs.declared.event.Msg.TheVariants.{NoteOn}
use Rattle.mt_base.specs.Midi.{Says, MidiEvent, end_of_track}
use Rattle.midi_model.specs.Sysex.{doing}
use Rattle.midi_model.specs.Merged.{of_track}
use Rattle.midi_model.specs.Notes.{Note, sounds, Fades}
use Rattle.midi_model.specs.Music.{Music, begun, step}
use Rattle.midi_model.specs.MusicLaws.{NotesFade, AllFade, begun_by}
use Rattle.retune_model.specs.Options.{Options, bends_notes}
use Rattle.retune_model.specs.Ports.{Numbered, PortEvents, of_port, event_at, music_at, port_at, last_named}
use Rattle.retune_model.specs.PortLaws.{TrackNamesThePort, MusicAtAPosition, OwnEventsPlay, OtherEventsDont}
use Rattle.retune_model.specs.PlaysTheSame.{bend_target_if}
use Rattle.retune_model.specs.Faults.{Targets, Kind, UnmappedKey, KeyOutOfDevice, Unison, is_unmapped, is_out_of_device, is_unison, is_part, is_same_target, target_of, any_note}
use Rattle.retune_model.specs.FaultLaws.{FaultlessPorts}
use Rattle.retune_model.specs.SourceFaults.{IsFaultless, IsFine, AreFine, kind_in}
use Rattle.retune_model.specs.Rests.{pairs_at}
use Rattle.lifetimes.specs.Told.{music_on}
use Rattle.lifetimes.proofs.NotesKept.{begun_list, joined as both_lists}
use Rattle.lifetimes.proofs.PairsTold.{music_last}

-- two notes of a part that sound with the same target are of one key
abbrev pub IsAlone : Options → Targets → Note → Note → Type 0
IsAlone o table n x = sounds n ≡ true → sounds x ≡ true → is_part o n.channel ≡ true → n.channel ≡ x.channel → is_same_target (target_of o table n) (target_of o table x) ≡ true → n.key ≡ x.key

abbrev pub AreAlone : Options → Targets → List Note → Type 0
AreAlone o table [] = Unit {0}
AreAlone o table (n ∷ ns) = AllByRecursion (IsAlone o table n) ns × AreAlone o table ns

-- ---- notes fade

target_kept : (o : Options) (table : Targets) (n x : Note) → Fades n x → target_of o table x ≡ target_of o table n
target_kept o table n x f = ap (λ k. bend_target_if o.range (table k x.onset)) f.key ∙ ap (λ t. bend_target_if o.range (table n.key t)) f.onset

alone_kept : (o : Options) (table : Targets) (n m x y : Note) → Fades n x → Fades m y → IsAlone o table n m → IsAlone o table x y
alone_kept o table n m x y f g h s u part same target =
    f.key ∙ (h (f.sounds s) (g.sounds u) (ap (is_part o) (sym f.channel) ∙ part) (sym f.channel ∙ (same ∙ g.channel))
    (ap (λ a. is_same_target a (target_of o table m)) (sym (target_kept o table n x f)) ∙ (ap (is_same_target (target_of o table x)) (sym (target_kept o table m y g)) ∙ target))
    ∙ sym g.key)

each_kept : (o : Options) (table : Targets) (n x : Note) (ms ys : List Note) → Fades n x → AllFade ms ys → AllByRecursion (IsAlone o table n) ms
    → AllByRecursion (IsAlone o table x) ys
each_kept o table n x [] [] f g h = tt
each_kept o table n x (m ∷ ms) (y ∷ ys) f g h = (alone_kept o table n m x y f g.0 h.0, each_kept o table n x ms ys f g.1 h.1)
each_kept o table n x [] (y ∷ ys) f g h = absurd g
each_kept o table n x (m ∷ ms) [] f g h = absurd g

all_kept : (o : Options) (table : Targets) (ns xs : List Note) → AllFade ns xs → AreAlone o table ns → AreAlone o table xs
all_kept o table [] [] f h = tt
all_kept o table (n ∷ ns) (x ∷ xs) f h = (each_kept o table n x ns xs f.0 f.1 h.0, all_kept o table ns xs f.1 h.1)
all_kept o table [] (x ∷ xs) f h = absurd f
all_kept o table (n ∷ ns) [] f h = absurd f

-- ---- a note begins

-- no note sounds on another key with the target of each of the second
abbrev Beside : Options → Targets → List Note → List Note → Type 0
Beside o table ns bs = AllByRecursion (λ b. AllByRecursion (λ n. IsAlone o table n b) ns) bs

heads : (o : Options) (table : Targets) (n : Note) (ns bs : List Note) → Beside o table (n ∷ ns) bs
    → AllByRecursion (IsAlone o table n) bs × Beside o table ns bs
heads o table n ns [] h = (tt, tt)
heads o table n ns (b ∷ bs) h = (let r = heads o table n ns bs h.1 in ((h.0.0, r.0), (h.0.1, r.1)))

appended : (o : Options) (table : Targets) (ns bs : List Note) → AreAlone o table ns → AreAlone o table bs → Beside o table ns bs
    → AreAlone o table (ns ++ bs)
appended o table [] bs a b h = b
appended o table (n ∷ ns) bs a b h = (let r = heads o table n ns bs h in (both_lists (IsAlone o table n) ns bs a.0 r.0, appended o table ns bs a.1 b r.1))

-- where no note sounds on another key with its target
fresh : (o : Options) (table : Targets) (b : Note) (ns : List Note) → (is_part o b.channel ≡ true
    → any_note (λ n. (sounds n && nat_eq n.channel b.channel) && (not (nat_eq n.key b.key) && is_same_target (target_of o table n) (target_of o table b))) ns ≡ false)
    → AllByRecursion (λ n. IsAlone o table n b) ns
fresh o table b [] none = tt
fresh o table b (n ∷ ns) none = (
  first,
  fresh o table b ns (λ part. rest ((sounds n && nat_eq n.channel b.channel) && (not (nat_eq n.key b.key) && is_same_target (target_of o table n) (target_of o table b)))
      (any_note (λ n. (sounds n && nat_eq n.channel b.channel) && (not (nat_eq n.key b.key) && is_same_target (target_of o table n) (target_of o table b))) ns) (none part)),
)
  where
    rest : (x y : Bool) → (x || y) ≡ false → y ≡ false
    rest true y e = absurd cc
    rest false y e = e

    left : (x y : Bool) → (x || y) ≡ false → x ≡ false
    left true y e = absurd cc
    left false y e = refl

    by_key : (k : Bool) → nat_eq n.key b.key ≡ k → (s u t : Bool) → s ≡ true → u ≡ true → t ≡ true → ((s && u) && (not k && t)) ≡ false
        → n.key ≡ b.key
    by_key true e s u t a c d h = eqb-true n.key b.key e
    by_key false e true true true a c d h = absurd cc
    by_key false e true true false a c d h = absurd cc
    by_key false e true false t a c d h = absurd cc
    by_key false e false u t a c d h = absurd cc

    first : IsAlone o table n b
    first s u part same target = by_key (nat_eq n.key b.key) refl (sounds n) (nat_eq n.channel b.channel) (is_same_target (target_of o table n) (target_of o table b))
        s (eq-eqb n.channel b.channel same) target
        (left ((sounds n && nat_eq n.channel b.channel) && (not (nat_eq n.key b.key) && is_same_target (target_of o table n) (target_of o table b)))
        (any_note (λ n. (sounds n && nat_eq n.channel b.channel) && (not (nat_eq n.key b.key) && is_same_target (target_of o table n) (target_of o table b))) ns)
        (none (ap (is_part o) (sym same) ∙ part)))

-- ---- one event without a fault

third : (a b u : Bool) (rest : Option Kind) → cond a (Some UnmappedKey) (cond b (Some KeyOutOfDevice) (cond u (Some Unison) rest)) ≡ None → u ≡ false
third true b u rest e = absurd cc
third false true u rest e = absurd cc
third false false true rest e = absurd cc
third false false false rest e = refl

no_unison : (o : Options) (table : Targets) (port : PortEvents) (p : ℕ) (e : MidiEvent) (c k v : ℕ) → bends_notes o.route ≡ true
    → IsFine o table port p e → e.what ≡ Says (NoteOn c k (suc v))
    → is_part o c ≡ true
    → any_note (λ n. (sounds n && nat_eq n.channel c) && (not (nat_eq n.key k) && is_same_target (target_of o table n) (bend_target_if o.range (table k e.tick)))) (music_at port.events p).notes ≡ false
no_unison o table port p e c k v bends fine is part =
    let f : Note → Bool = λ n. (sounds n && nat_eq n.channel c) && (not (nat_eq n.key k) && is_same_target (target_of o table n) (bend_target_if o.range (table k e.tick))) in
    let judged = ap (kind_in port.number o table e.tick (music_at port.events p) (music_at port.events (suc p)) false (pairs_at o (is_part o) table port (suc p))) (sym is) ∙ fine in
    sym (ap (λ b. b && (is_part o c && any_note f (music_at port.events p).notes)) bends ∙ ap (λ b. b && any_note f (music_at port.events p).notes) part)
    ∙ third (is_unmapped o table e.tick (NoteOn c k (suc v))) (is_out_of_device o table e.tick (NoteOn c k (suc v)))
    (is_unison o table (music_at port.events p) e.tick (NoteOn c k (suc v))) _ judged

alone_then : NotesFade → (o : Options) (table : Targets) (port : PortEvents) (p : ℕ) (e : MidiEvent) → bends_notes o.route ≡ true
    → IsFine o table port p e
    → AreAlone o table (music_at port.events p).notes → AreAlone o table (step (music_at port.events p) e).notes
alone_then fade o table port p e bends fine h =
    let m = music_at port.events p in
    let bs = begun_by m e.tick (doing e.what) in
    all_kept o table (m.notes ++ bs) (step m e).notes (fade m e.tick (doing e.what))
    (appended o table m.notes bs h (begun_list (AreAlone o table) m e.tick e.what tt (λ c k v is. (tt, tt)))
    (begun_list (Beside o table m.notes) m e.tick e.what tt (λ c k v is.
    (fresh o table (begun m e.tick c k (suc v)) m.notes (λ part. no_unison o table port p e c k v bends fine is part), tt))))

-- ---- by positions

here : (P : Numbered → Type 0) (ns : List Numbered) (k : ℕ) (e : MidiEvent) → AllByRecursion P ns → event_at ns k ≡ e ∷ []
    → (n : Numbered) × P n × (n.position ≡ k) × (n.event ≡ e)
here P [] k e h is = absurd cc
here P (n ∷ ns) k e h is = pick (nat_eq n.position k) (eqb-true n.position k) is (here P ns k e h.1)
  where
    pick : (b : Bool) → (b ≡ true → n.position ≡ k)
        → map (λ (x : Numbered). x.event) (cond b (n ∷ filter (λ x. nat_eq x.position k) ns) (filter (λ x. nat_eq x.position k) ns)) ≡ e ∷ []
        → (event_at ns k ≡ e ∷ [] → (n : Numbered) × P n × (n.position ≡ k) × (n.event ≡ e)) → (n : Numbered) × P n × (n.position ≡ k) × (n.event ≡ e)
    pick true at is later = (n, h.0, at refl, (let same : n.event ≡ e = cc in same))
    pick false at is later = later is

fine_here : (o : Options) (table : Targets) (port : PortEvents) (k : ℕ) (e : MidiEvent) → AreFine o table port
    → event_at port.events (suc k) ≡ e ∷ [] → IsFine o table port k e
fine_here o table port k e fine is =
    let r = here (λ n. (j : ℕ) → n.position ≡ suc j → IsFine o table port j n.event) port.events (suc k) e fine is in
    subst (IsFine o table port k) r.3 (r.1 k r.2)

-- at a position there is one event of the port or none
one_or_none : TrackNamesThePort → (z : ℕ) (es : List MidiEvent) (k : ℕ) → k < length es
    → (e : MidiEvent) × ((event_at (of_port z es) (suc k) ≡ e ∷ []) ⊎ (event_at (of_port z es) (suc k) ≡ []))
one_or_none names z es k low =
    let d : MidiEvent = record { tick = 0; track = 0; what = end_of_track } in
    let e = get_or es k d in
    let later = drop (k + 1) es in
    let front = take k es in
    let whole : front ++ e ∷ later ≡ es = ap (λ xs. front ++ xs) (sym (drop_more es k d low)) ∙ take-append-drop k es in
    let long : length front ≡ k = length-take-le k es (omega (arith, low)) in
    let at : event_at (of_port z es) (suc k) ≡ cond (nat_eq (last_named 0 (of_track e.track (front ++ e ∷ []))) z) (e ∷ []) [] =
    ap (λ xs. event_at (of_port z xs) (suc k)) (sym whole) ∙ (ap (λ n. event_at (of_port z (front ++ e ∷ later)) (suc n)) (sym long) ∙ names z front e later) in
    (e, pick (nat_eq (last_named 0 (of_track e.track (front ++ e ∷ []))) z) (event_at (of_port z es) (suc k)) e at)
  where
    pick : (b : Bool) (xs : List MidiEvent) (e : MidiEvent) → xs ≡ cond b (e ∷ []) [] → (xs ≡ e ∷ []) ⊎ (xs ≡ [])
    pick true xs e h = inl h
    pick false xs e h = inr h

pub record Laws : Type 0 where
  pub names : TrackNamesThePort
  pub at : MusicAtAPosition
  pub own : OwnEventsPlay
  pub other : OtherEventsDont
  pub fade : NotesFade
  pub fine : FaultlessPorts

alone_at : Laws → (o : Options) (table : Targets) (es : List MidiEvent) (z k : ℕ) → bends_notes o.route ≡ true → IsFaultless o table es
    → k ≤ length es
    → AreAlone o table (music_at (of_port z es) k).notes
alone_at laws o table es z zero bends faultless le = subst (λ (m : Music). AreAlone o table m.notes) (sym (laws.at z es 0)) tt
alone_at laws o table es z (suc k) bends faultless le = pick (one_or_none laws.names z es k (omega (arith, le))) (alone_at laws o table es z k bends faultless (omega (arith, le)))
  where
    pick : (e : MidiEvent) × ((event_at (of_port z es) (suc k) ≡ e ∷ []) ⊎ (event_at (of_port z es) (suc k) ≡ []))
        → AreAlone o table (music_at (of_port z es) k).notes
        → AreAlone o table (music_at (of_port z es) (suc k)).notes
    pick (e, inl is) h = subst (λ (m : Music). AreAlone o table m.notes) (sym (laws.own z es k e is))
        (alone_then laws.fade o table (port_at es z) k e bends (fine_here o table (port_at es z) k e (laws.fine o table es z faultless) is) h)
    pick (e, inr is) h = subst (λ (m : Music). AreAlone o table m.notes) (sym (laws.other z es k is)) h

pub alone : Laws → (o : Options) (table : Targets) (es : List MidiEvent) (z : ℕ) → bends_notes o.route ≡ true → IsFaultless o table es
    → AreAlone o table (music_on z es).notes
alone laws o table es z bends faultless = subst (λ (m : Music). AreAlone o table m.notes) (music_last laws.at z es) (alone_at laws o table es z (length es) bends faultless (omega arith))
