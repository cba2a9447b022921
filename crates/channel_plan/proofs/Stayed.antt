-- Where notes don't rest, a pair stays at an event that ends no note of its channel.
use Rattle.std.proofs.Common.{◌≡◌, ◌∙◌, ◌<◌, ◌++◌, ◌⊎◌, ℕ, zero, suc, Bool, true, false, cond, not, ◌&&◌, ◌||◌, nat_eq, Option, Some, None, List, [], ◌∷◌, filter, length, take, slice_index, refl, sym, ap, subst, arith, inl, inr}
use Rattle.std.specs.List.{AllByRecursion}
use Rattle.std.specs.Set.{is_member}
use Rattle.std.proofs.Math.Seq.{take-length}
use Rattle.std.proofs.lemmas.Bool.{eqb-true, eq-eqb}
use Rattle.std.proofs.lemmas.Bool.Decides.{eqb_tells}
use Rattle.std.proofs.lemmas.List.{take-append-le}
use Rattle.std.proofs.lemmas.Nat.Bits.{bit_at-zero}
use Rattle.mt_base.specs.declared.event.Msg.TheVariants.{NoteOn, NoteOff, KeyPressure, Control, Program, Pressure, Bend}
use Rattle.mt_base.specs.Midi.{MidiWhat, Says, SysexOf, MetaOf, MidiEvent}
use Rattle.mt_base.specs.Valid.{IsValidEvent, IsValidWhat}
use Rattle.midi_model.specs.Order.{AreInOrder}
use Rattle.midi_model.specs.Sysex.{Retune, Resets, Nothing, doing, is_reset, tunes, tuning_of}
use Rattle.midi_model.specs.Notes.{Note, sounds, is_at}
use Rattle.midi_model.specs.Music.{Music, quiet, step, play}
use Rattle.midi_model.specs.MusicLaws.{Ages, Grows, NotesAge, begun_by}
use Rattle.midi_model.specs.Receiver.{Receiver, receive, receive_all, start}
use Rattle.retune_model.specs.Table.{BendTarget}
use Rattle.retune_model.specs.PlaysTheSame.{bend_target_if}
use Rattle.retune_model.specs.Options.{Options, restless}
use Rattle.retune_model.specs.Ports.{of_port, of_port_from, with_event, unnumbered, port_of, ports_after, all_zero, events_on, music_at, port_at}
use Rattle.retune_model.specs.PortLaws.{MusicAtAPosition, OwnEventsPlay, OtherEventsDont, PortsAreTimed}
use Rattle.retune_model.specs.FrontLaws.{EventOfNext}
use Rattle.retune_model.specs.Faults.{Targets, is_part, target_of}
use Rattle.retune_model.specs.Pairs.{Pair, is_same_pair, is_same_part, pair_if, pairs_of, sounding}
use Rattle.retune_model.specs.PairOrder.{HasOneMore}
use Rattle.retune_model.specs.Rests.{pairs_at}
use Rattle.retune_model.specs.RestLaws.{OnlySoundingHold}
use Rattle.retune_model.specs.PortNeed.{pairs_on}
use Rattle.receiver.specs.Notes.{has}
use Rattle.receiver.specs.Sounding.{ended_on}
use Rattle.receiver.specs.declared.ends.Ends.{Ends}
use Rattle.lifetimes.specs.Told.{music_on, port_on, is_held, TellsEnds}

first_part : (a b : Bool) → (a && b) ≡ true → a ≡ true
first_part true b h = refl
first_part false b h = absurd cc

other_part : (a b : Bool) → (a && b) ≡ true → b ≡ true
other_part true b h = h
other_part false b h = absurd cc

both_true : (a b : Bool) → a ≡ true → b ≡ true → (a && b) ≡ true
both_true true b h k = k
both_true false b h k = absurd cc

later_false : (a b : Bool) → (a || b) ≡ false → b ≡ false
later_false true b h = absurd cc
later_false false b h = h

either_true : (a b : Bool) → b ≡ true → (a || b) ≡ true
either_true true b h = refl
either_true false b h = h

-- ---- keys are below 128, and channels below 16

abbrev Low : Note → Type 0
Low n = (n.channel < 16) × (n.key < 128)

grown_low : (t : ℕ) (b ns xs : List Note) → Grows t b ns xs → AllByRecursion Low b → AllByRecursion Low ns
    → AllByRecursion Low xs
grown_low t b [] xs grows lb ln = subst (AllByRecursion Low) (sym grows) lb
grown_low t b (n ∷ ns) [] grows lb ln = absurd grows
grown_low t b (n ∷ ns) (x ∷ xs) grows lb ln =
    let channel : x.channel ≡ n.channel = grows.0.channel in
    let key : x.key ≡ n.key = grows.0.key in
    let low = ln.0.0 in
    let below = ln.0.1 in
    ((omega (arith, channel, low), omega (arith, key, below)), grown_low t b ns xs grows.1 lb ln.1)

begun_sysex : (m : Music) (t lead : ℕ) (bytes : List ℕ) → AllByRecursion Low (begun_by m t (doing (SysexOf lead bytes)))
begun_sysex m t lead bytes = pick (nat_eq lead 0xf0) (is_reset bytes) (tuning_of bytes)
  where
    pick : (a b : Bool) (r : Option Retune) → AllByRecursion Low (begun_by m t (cond a (cond b Resets (tunes r)) Nothing))
    pick false b r = tt
    pick true true r = tt
    pick true false None = tt
    pick true false (Some r) = tt

begun_low : (m : Music) (t : ℕ) (w : MidiWhat) → IsValidWhat w → AllByRecursion Low (begun_by m t (doing w))
begun_low m t (Says (NoteOn c k (suc v))) valid =
    let channel = valid.0 in
    let key = valid.1 in
    ((omega (arith, channel), omega (arith, key)), tt)
begun_low m t (Says (NoteOn c k zero)) valid = tt
begun_low m t (Says (NoteOff c k v)) valid = tt
begun_low m t (Says (KeyPressure c k v)) valid = tt
begun_low m t (Says (Control c k v)) valid = tt
begun_low m t (Says (Program c v)) valid = tt
begun_low m t (Says (Pressure c v)) valid = tt
begun_low m t (Says (Bend c v)) valid = tt
begun_low m t (SysexOf lead bytes) valid = begun_sysex m t lead bytes
begun_low m t (MetaOf kind bytes) valid = tt

pub all_low : NotesAge → (m : Music) (es : List MidiEvent) → AllByRecursion IsValidEvent es → AllByRecursion Low m.notes
    → AllByRecursion Low (play m es).notes
all_low age m [] valid low = low
all_low age m (e ∷ es) valid low =
    all_low age (step m e) es valid.1 (grown_low e.tick (begun_by m e.tick (doing e.what)) m.notes (step m e).notes (age m e.tick (doing e.what))
    (begun_low m e.tick e.what valid.0.what) low)

-- ---- the pairs of notes that sound

module _ (more : HasOneMore) (o : Options) (table : Targets) (p : Pair) (z : ℕ) (t : ℕ) (b : List Note) where
  abbrev on : Note → Bool
  on n = is_part o n.channel && sounds n

  abbrev among : List Note → Bool
  among ns = is_member is_same_pair (pairs_of z o table ns) p

  -- a pair is there too where one note more is
  with_more : (c : ℕ) (x : Option BendTarget) (ps : List Pair) → is_member is_same_pair ps p ≡ true
      → is_member is_same_pair (pair_if z c x ps) p ≡ true
  with_more c None ps h = h
  with_more c (Some x) ps h =
      more (record { part = record { port = z; channel = c }; steps = x.steps }) p ps
      ∙ either_true (is_same_pair p (record { part = record { port = z; channel = c }; steps = x.steps })) (is_member is_same_pair ps p) h

  skipped : (x : Note) (xs : List Note) → among (filter on xs) ≡ true → among (filter on (x ∷ xs)) ≡ true
  skipped x xs h = pick (on x)
    where
      pick : (a : Bool) → among (cond a (x ∷ filter on xs) (filter on xs)) ≡ true
      pick true = with_more x.channel (target_of o table x) (pairs_of z o table (filter on xs)) h
      pick false = h

  -- it is that of the first note, or of a later one
  first_or : (c : ℕ) (x : Option BendTarget) (ps : List Pair) → is_member is_same_pair (pair_if z c x ps) p ≡ true
      → ((nat_eq p.part.channel c ≡ true) × ((qs : List Pair) → is_member is_same_pair (pair_if z c x qs) p ≡ true))
      ⊎ (is_member is_same_pair ps p ≡ true)
  first_or c None ps h = inr h
  first_or c (Some x) ps h =
      pick (is_same_pair p (record { part = record { port = z; channel = c }; steps = x.steps })) refl
      (sym (more (record { part = record { port = z; channel = c }; steps = x.steps }) p ps) ∙ h)
    where
      pick : (a : Bool) → is_same_pair p (record { part = record { port = z; channel = c }; steps = x.steps }) ≡ a
          → (a || is_member is_same_pair ps p) ≡ true
          → ((nat_eq p.part.channel c ≡ true) × ((qs : List Pair) → is_member is_same_pair (pair_if z c (Some x) qs) p ≡ true))
          ⊎ (is_member is_same_pair ps p ≡ true)
      pick true same h = inl (
        other_part (nat_eq p.part.port z) (nat_eq p.part.channel c) (first_part (is_same_part p.part (record { port = z; channel = c })) _ same),
        λ qs. more (record { part = record { port = z; channel = c }; steps = x.steps }) p qs ∙ ap (λ d. d || is_member is_same_pair qs p) same,
      )
      pick false same h = inr h

  sound_after : (q a s y r : Bool) → q ≡ true → a ≡ true → s ≡ true → (q && ((a && (s && not y)) || r)) ≡ false → y ≡ true
  sound_after true true true true r hq ha hs h = refl
  sound_after true true true false r hq ha hs h = absurd cc
  sound_after false a s y r hq ha hs h = absurd cc
  sound_after true false s y r hq ha hs h = absurd cc
  sound_after true true false y r hq ha hs h = absurd cc

  later_none : (q a r : Bool) → (q && (a || r)) ≡ false → (q && r) ≡ false
  later_none false a r h = refl
  later_none true true r h = absurd cc
  later_none true false r h = h

  abbrev c : ℕ
  c = p.part.channel

  abbrev NoneEnds : List Note → List Note → Type 0
  NoneEnds ns xs = (k : ℕ) → c < 16 → k < 128 → (is_part o c && ended_on c k ns xs) ≡ false

  sounding_still : (n x : Note) (ns xs : List Note) → Ages t n x → Low n → NoneEnds (n ∷ ns) (x ∷ xs) → on n ≡ true → nat_eq c n.channel ≡ true
      → ((qs : List Pair) → is_member is_same_pair (pair_if z n.channel (target_of o table n) qs) p ≡ true) → among (filter on (x ∷ xs)) ≡ true
  sounding_still n x ns xs ages low none is same all =
      let at : c ≡ n.channel = eqb-true c n.channel same in
      let part : is_part o n.channel ≡ true = first_part (is_part o n.channel) (sounds n) is in
      let here : is_at c n.key n ≡ true =
      both_true (nat_eq n.channel c) (nat_eq n.key n.key) (eq-eqb n.channel c (sym at)) (eq-eqb n.key n.key refl) in
      let still : sounds x ≡ true =
      sound_after (is_part o c) (is_at c n.key n) (sounds n) (sounds x) (ended_on c n.key ns xs) (ap (is_part o) at ∙ part) here
      (other_part (is_part o n.channel) (sounds n) is)
      (let below = low.0 in none n.key (omega (arith, at, below)) low.1) in
      let now : on x ≡ true = both_true (is_part o x.channel) (sounds x) (ap (is_part o) ages.channel ∙ part) still in
      let qs : List Pair = pairs_of z o table (filter on xs) in
      ap (λ a. among (cond a (x ∷ filter on xs) (filter on xs))) now
      ∙ ap (λ d. is_member is_same_pair (pair_if z d (target_of o table x) qs) p) ages.channel
      ∙ ap (λ k. is_member is_same_pair (pair_if z n.channel (bend_target_if o.range (table k x.onset)) qs) p) ages.key
      ∙ ap (λ k. is_member is_same_pair (pair_if z n.channel (bend_target_if o.range (table n.key k)) qs) p) ages.onset
      ∙ all qs

  one_still : (n x : Note) (ns xs : List Note) (a : Bool) → on n ≡ a → Ages t n x → Low n → NoneEnds (n ∷ ns) (x ∷ xs)
      → (among (filter on ns) ≡ true → among (filter on xs) ≡ true)
      → among (cond a (n ∷ filter on ns) (filter on ns)) ≡ true → among (filter on (x ∷ xs)) ≡ true
  one_still n x ns xs false is ages low none rest h = skipped x xs (rest h)
  one_still n x ns xs true is ages low none rest h = elim (first_or n.channel (target_of o table n) (pairs_of z o table (filter on ns)) h) [
    | inl f ↦ sounding_still n x ns xs ages low none is f.0 f.1
    | inr l ↦ skipped x xs (rest l)
  ]

  pub stay : (ns xs : List Note) → Grows t b ns xs → AllByRecursion Low ns → NoneEnds ns xs
      → among (filter on ns) ≡ true → among (filter on xs) ≡ true
  stay [] xs grows low none h = absurd cc
  stay (n ∷ ns) [] grows low none h = absurd grows
  stay (n ∷ ns) (x ∷ xs) grows low none h =
      one_still n x ns xs (on n) refl grows.0 low.0 none
      (stay ns xs grows.1 low.1 (λ k few below. later_none (is_part o c) (is_at c k n && (sounds n && not (sounds x))) (ended_on c k ns xs)
      (none k few below))) h

-- ---- one event more

music_all : (r : Receiver) (es : List MidiEvent) → (receive_all r es).music ≡ play r.music es
music_all r [] = refl
music_all r (e ∷ es) = music_all (receive r e) es

front_of : (es : List MidiEvent) (e : MidiEvent) → take (length es) (es ++ e ∷ []) ≡ es
front_of es e = take-append-le (length es) es (e ∷ []) (omega arith) ∙ take-length es

longer : (es : List MidiEvent) (e : MidiEvent) → length (es ++ e ∷ []) ≡ suc (length es)
longer [] e = refl
longer (x ∷ es) e = ap suc (longer es e)

none_in : (k : ℕ) → has 0 k ≡ false
none_in k = rw (bit_at-zero k) refl

valid_from : (z : ℕ) (ports : ℕ → ℕ) (k : ℕ) (es : List MidiEvent) → AllByRecursion IsValidEvent es
    → AllByRecursion IsValidEvent (unnumbered (of_port_from z ports k es))
valid_from z ports k [] valid = tt
valid_from z ports k (e ∷ es) valid = pick (nat_eq (port_of ports e) z) (valid_from z (ports_after ports e) (suc k) es valid.1)
  where
    pick : (b : Bool) → AllByRecursion IsValidEvent (unnumbered (of_port_from z (ports_after ports e) (suc k) es))
        → AllByRecursion IsValidEvent (unnumbered (with_event b (record { position = suc k; event = e })
        (of_port_from z (ports_after ports e) (suc k) es)))
    pick true r = (valid.0, r)
    pick false r = r

valid_on : (z : ℕ) (es : List MidiEvent) → AllByRecursion IsValidEvent es → AllByRecursion IsValidEvent (events_on z es)
valid_on z es valid = valid_from z all_zero 0 es valid

-- the laws that serve
pub record Laws : Type 0 where
  pub age : NotesAge
  pub more : HasOneMore
  pub at : MusicAtAPosition
  pub own : OwnEventsPlay
  pub other : OtherEventsDont
  pub timed : PortsAreTimed
  pub event : EventOfNext
  pub alone : OnlySoundingHold

module _ (laws : Laws) (o : Options) (table : Targets) (es : List MidiEvent) (e : MidiEvent) (p : Pair) (order : AreInOrder 0 (es ++ e ∷ []))
    (silent : o.tail ≡ 0) where
  abbrev all : List MidiEvent
  all = es ++ e ∷ []

  abbrev y : ℕ
  y = p.part.port

  before : music_at (of_port y all) (length es) ≡ music_on y es
  before = laws.at y all (length es) ∙ ap (λ l. play quiet (events_on y l)) (front_of es e) ∙ sym (music_all start (events_on y es))

  after_it : music_at (of_port y all) (suc (length es)) ≡ music_on y all
  after_it =
      laws.at y all (suc (length es))
      ∙ ap (λ k. play quiet (events_on y (take k all))) (sym (longer es e))
      ∙ ap (λ l. play quiet (events_on y l)) (take-length all) ∙ sym (music_all start (events_on y all))

  abbrev sound : Music → Bool
  sound m = is_member is_same_pair (pairs_of y o table (sounding o m)) p

  as_sounding : (k : ℕ) → is_member is_same_pair (pairs_on o (is_part o) table all y k) p ≡ sound (music_at (of_port y all) k)
  as_sounding k =
      let rest : o ≡ restless o = ap (λ t. record o { tail = t }) silent in
      ap (λ x. is_member is_same_pair (pairs_at x (is_part o) table (port_at all y) k) p) rest
      ∙ ap (λ ps. is_member is_same_pair ps p) (laws.alone o table (port_at all y) (laws.timed y all order) k)

  pub stays : (ended : Ends) → AllByRecursion IsValidEvent es → TellsEnds o es e ended
      → (port_on es e ≡ y → slice_index ended.keys p.part.channel ≡ 0)
      → is_member is_same_pair (pairs_on o (is_part o) table all y (length es)) p ≡ true → is_held o table all p ≡ true
  stays ended valid tells quiet_there h =
      ap (λ k. is_member is_same_pair (pairs_on o (is_part o) table all y k) p) (longer es e)
      ∙ as_sounding (suc (length es))
      ∙ elim (eqb_tells (port_on es e) y) [
        | inl t ↦ here t.0 t.1
        | inr t ↦ ap sound (laws.other y all (length es) (laws.event es e [] y ∙ ap (λ b. cond b (e ∷ []) []) t.0)) ∙ there
      ]
    where
      there : sound (music_at (of_port y all) (length es)) ≡ true
      there = sym (as_sounding (length es)) ∙ h

      here : nat_eq (port_on es e) y ≡ true → port_on es e ≡ y → sound (music_at (of_port y all) (suc (length es))) ≡ true
      here same at =
          let m : Music = music_at (of_port y all) (length es) in
          let next : music_at (of_port y all) (suc (length es)) ≡ step m e =
          laws.own y all (length es) e (laws.event es e [] y ∙ ap (λ b. cond b (e ∷ []) []) same) in
          let own : AllByRecursion Low m.notes =
          subst (λ (x : Music). AllByRecursion Low x.notes) (sym (music_all start (events_on y es)) ∙ sym before)
          (all_low laws.age quiet (events_on y es) (valid_on y es valid) tt) in
          ap sound next
          ∙ stay laws.more o table p y e.tick (begun_by m e.tick (doing e.what)) m.notes (step m e).notes (laws.age m e.tick (doing e.what)) own
          (λ k few below.
          ap (λ x. is_part o p.part.channel && ended_on p.part.channel k x.notes (step m e).notes) before
          ∙ ap (λ x. is_part o p.part.channel && ended_on p.part.channel k (music_on y es).notes x.notes) (sym next ∙ after_it)
          ∙ ap (λ z. is_part o p.part.channel && ended_on p.part.channel k (music_on z es).notes (music_on z all).notes) (sym at)
          ∙ sym (tells p.part.channel k few below)
          ∙ ap (λ mask. has mask k) (quiet_there at) ∙ none_in k)
          there
