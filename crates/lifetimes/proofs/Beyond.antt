-- In a source without a fault each pair of a part is within a bend, together with the part's bend, at each position of the source.
use Rattle.std.proofs.Common.{◌≡◌, ◌≤◌, ◌<◌, ◌⊎◌, ◌∙◌, ℕ, zero, suc, ℤ, ◌+ℤ◌, List, [], ◌∷◌, ◌++◌, Bool, true, false, cond, not, ◌&&◌, ◌||◌, nat_eq, Option, Some, None, is_some, length, set, get_or, refl, sym, ap, subst, arith, inl, inr}
use Rattle.std.specs.List.{AllByRecursion, filter}
use Rattle.std.specs.Set.{is_member}
use Rattle.std.proofs.lemmas.List.{get_or-set_other}
use Rattle.std.proofs.lemmas.Bool.{both_ways, or_cases, and_parts, or_left, eqb-true, eq-eqb}
use Rattle.mt_base.specs.declared.event.Msg.{Msg}
use Rattle.mt_base.specs.declared.event.Msg.TheVariants.{NoteOn, NoteOff, KeyPressure, Control, Program, Pressure, Bend}
use Rattle.mt_base.specs.Midi.{MidiWhat, Says, SysexOf, MetaOf, MidiEvent, channel_of}
use Rattle.midi_model.specs.Sysex.{Retune, tunes, tuning_of, is_reset, Doing, Plays, Resets, Tunes, Nothing, doing}
use Rattle.midi_model.specs.Merged.{of_track}
use Rattle.midi_model.specs.Channel.{Channel, default_channel, apply}
use Rattle.midi_model.specs.Zones.{bend_ranges}
use Rattle.midi_model.specs.Music.{Music, channel_at, asks, zones_after, advance, step}
use Rattle.midi_model.specs.Order.{AreInOrder}
use Rattle.retune_model.specs.Table.{BendTarget}
use Rattle.retune_model.specs.Options.{Options, Route, ByDump, ByLive, ByBend, ByMpe, bends_notes}
use Rattle.retune_model.specs.Source.{bend_in_steps}
use Rattle.retune_model.specs.PlaysTheSame.{bend_target_if}
use Rattle.retune_model.specs.Ports.{Numbered, PortEvents, unnumbered, last_named, of_port, event_at, is_reset_at, resets, port_at, music_at}
use Rattle.retune_model.specs.Faults.{Targets, Kind, is_part, is_bend, is_within_bend, first_that}
use Rattle.retune_model.specs.Pairs.{Part, Pair, is_same_pair, is_same_part, pair_if}
use Rattle.retune_model.specs.Rests.{pairs_at, begun_pair, begun_pairs, IsAimedPort}
use Rattle.retune_model.specs.SourceFaults.{IsFaultless, IsFine, first_beyond, message_tests, kind_in, kind_behind}
use Rattle.retune_model.specs.FaultLaws.{NoneIsBeyond, OnlyZoneEntriesAskForZones, FaultlessPorts, SoundPortsAreAimed}
use Rattle.retune_model.specs.PortLaws.{TrackNamesThePort, OwnEventsPlay, OtherEventsDont}
use Rattle.lifetimes.specs.Within.{moved_at, AllWithin}
use Rattle.retune_model.specs.RestLaws.{HeldWasThere, HeldOrBegun, RestsRunOutElsewhere, ResetsEndAll, OneRunBegins}

-- the laws of the definitions that this stands on
pub record Laws : Type 0 where
  pub none : NoneIsBeyond
  pub zones : OnlyZoneEntriesAskForZones
  pub fine : FaultlessPorts
  pub aimed : SoundPortsAreAimed
  pub port : TrackNamesThePort
  pub own : OwnEventsPlay
  pub other : OtherEventsDont
  pub was_there : HeldWasThere
  pub next : HeldOrBegun
  pub elsewhere : RestsRunOutElsewhere
  pub reset : ResetsEndAll
  pub begins : OneRunBegins

abbrev pub Has : List Pair → Pair → Type 0
Has ps p = is_member is_same_pair ps p ≡ true

-- ---- what the tests of a message say

pub none_holds : (xs : List (Kind × Bool)) → first_that xs ≡ None → AllByRecursion (λ x. x.1 ≡ false) xs
none_holds [] e = tt
none_holds (x ∷ xs) e = pick x.1 refl e (none_holds xs)
  where
    pick : (b : Bool) → x.1 ≡ b → cond b (Some x.0) (first_that xs) ≡ None
        → (first_that xs ≡ None → AllByRecursion (λ (y : Kind × Bool). y.1 ≡ false) xs)
        → (x.1 ≡ false) × AllByRecursion (λ (y : Kind × Bool). y.1 ≡ false) xs
    pick true h k rest = absurd cc
    pick false h k rest = (h, rest k)

none_found : (a b : Bool) (x : Option (ℤ × ℤ)) → a ≡ true → b ≡ true → (a && (b && is_some x)) ≡ false → x ≡ None
none_found true true None f g h = refl
none_found true true (Some y) f g h = absurd cc
none_found true false x f g h = absurd cc
none_found false b x f g h = absurd cc

-- ---- the event at a position

fine_here : (Q : ℕ → MidiEvent → Type 0) (k : ℕ) (e : MidiEvent) (ns : List Numbered)
    → AllByRecursion (λ n. (j : ℕ) → n.position ≡ suc j → Q j n.event) ns
    → event_at ns (suc k) ≡ e ∷ [] → Q k e
fine_here Q k e [] h at = absurd cc
fine_here Q k e (n ∷ ns) h at = pick (nat_eq n.position (suc k)) refl at (fine_here Q k e ns h.1)
  where
    pick : (b : Bool) → nat_eq n.position (suc k) ≡ b
        → unnumbered (cond b (n ∷ filter (λ x. nat_eq x.position (suc k)) ns) (filter (λ x. nat_eq x.position (suc k)) ns)) ≡ e ∷ []
        → (event_at ns (suc k) ≡ e ∷ [] → Q k e) → Q k e
    pick true is g rest = let same : n.event ≡ e = cc in subst (Q k) same (h.0 k (eqb-true n.position (suc k) is))
    pick false is g rest = rest g

reset_here : (k : ℕ) (e : MidiEvent) (ns : List Numbered) → event_at ns k ≡ e ∷ [] → resets (doing e.what) ≡ true → is_reset_at ns k ≡ true
reset_here k e [] at r = absurd cc
reset_here k e (n ∷ ns) at r = pick (nat_eq n.position k) refl at (reset_here k e ns)
  where
    pick : (b : Bool) → nat_eq n.position k ≡ b
        → unnumbered (cond b (n ∷ filter (λ x. nat_eq x.position k) ns) (filter (λ x. nat_eq x.position k) ns)) ≡ e ∷ []
        → (event_at ns k ≡ e ∷ [] → resets (doing e.what) ≡ true → is_reset_at ns k ≡ true)
        → ((b && resets (doing n.event.what)) || is_reset_at ns k) ≡ true
    pick true is g rest = let same : n.event ≡ e = cc in
        or_left (resets (doing n.event.what)) (is_reset_at ns k) (ap (λ (x : MidiEvent). resets (doing x.what)) same ∙ r)
    pick false is g rest = rest g r

-- ---- what an event begins, and the channels that it leaves

abbrev part_at : ℕ → ℕ → Part
part_at z c = record { port = z; channel = c }

part_is : (p q : Part) → is_same_part p q ≡ true → p ≡ q
part_is p q h =
    let two = and_parts (nat_eq p.port q.port) (nat_eq p.channel q.channel) h in
    ap (λ x. part_at x p.channel) (eqb-true p.port q.port two.0) ∙ ap (part_at q.port) (eqb-true p.channel q.channel two.1)

pub begun_of : (z : ℕ) (o : Options) (part : ℕ → Bool) (table : Targets) (t : ℕ) (msg : Msg) (p : Pair)
    → Has (begun_pair z o part table t (Says msg)) p
    → p.part ≡ record { port = z; channel = channel_of msg }
begun_of z o part table t (NoteOn c k zero) p h = absurd cc
begun_of z o part table t (NoteOn c k (suc v)) p h = pick (part c) (bend_target_if o.range (table k t)) h
  where
    pick : (b : Bool) (x : Option BendTarget) → Has (cond b (pair_if z c x []) []) p → p.part ≡ record { port = z; channel = c }
    pick false x g = absurd cc
    pick true None g = absurd cc
    pick true (Some x) g = elim (or_cases (is_same_pair p (record { part = record { port = z; channel = c }; steps = x.steps })) false g) [
      | inl f ↦ part_is p.part (record { port = z; channel = c }) (and_parts _ _ f).0
      | inr f ↦ absurd cc
    ]
begun_of z o part table t (NoteOff c k v) p h = absurd cc
begun_of z o part table t (KeyPressure c k v) p h = absurd cc
begun_of z o part table t (Control c n v) p h = absurd cc
begun_of z o part table t (Program c q) p h = absurd cc
begun_of z o part table t (Pressure c v) p h = absurd cc
begun_of z o part table t (Bend c v) p h = absurd cc

-- a message that asks for no zone leaves the other channels
pub other_channel : (m : Music) (t : ℕ) (msg : Msg) (c : ℕ) → asks m msg ≡ None → nat_eq (channel_of msg) c ≡ false
    → channel_at (advance t (Plays msg) m) c ≡ channel_at m c
other_channel m t msg c none other =
    let cs : List Channel = set m.channels (channel_of msg) (apply (channel_at m (channel_of msg)) msg) in
    ap (λ x. get_or (bend_ranges x (zones_after m msg) cs) c default_channel) none
    ∙ get_or-set_other m.channels (channel_of msg) c (apply (channel_at m (channel_of msg)) msg) default_channel
    (λ same. both_ways (nat_eq (channel_of msg) c) other (eq-eqb (channel_of msg) c (sym same)))

-- ---- one event more

-- what is told of an event and of the moments before and after it
pub record Next (o : Options) (table : Targets) (port : PortEvents) (k : ℕ) (e : MidiEvent) : Type 0 where
  pub at : event_at port.events (suc k) ≡ e ∷ []
  pub music : music_at port.events (suc k) ≡ step (music_at port.events k) e
  pub aimed : IsAimedPort o (is_part o) table port

-- a pair that is there after the event was there before, or the event begins it
pub came : Laws → (o : Options) (table : Targets) (port : PortEvents) (k : ℕ) (e : MidiEvent) → Next o table port k e → (p : Pair)
    → Has (pairs_at o (is_part o) table port (suc k)) p
    → Has (pairs_at o (is_part o) table port k) p ⊎ Has (begun_pair port.number o (is_part o) table e.tick e.what) p
came l o table port k e n p h = elim (l.next o (is_part o) table port n.aimed k p h) [
  | inl g ↦ inl (l.was_there o (is_part o) table port n.aimed k p g)
  | inr g ↦ inr (subst (λ (es : List MidiEvent). Has (begun_pairs port.number o (is_part o) table es) p) n.at g)
]

-- where the event leaves the channel and begins no pair of it
pub stays : Laws → (o : Options) (table : Targets) (port : PortEvents) (c k : ℕ) (e : MidiEvent) → Next o table port k e
    → channel_at (step (music_at port.events k) e) c ≡ channel_at (music_at port.events k) c
    → ((p : Pair) → Has (begun_pair port.number o (is_part o) table e.tick e.what) p → p.part ≡ record { port = port.number; channel = c } → ⊥)
    → AllWithin o table port c k → AllWithin o table port c (suc k)
stays l o table port c k e n same none before p h is = elim (came l o table port k e n p h) [
  | inl g ↦ ap (λ s. is_within_bend (p.steps +ℤ bend_in_steps o.range s)) (ap (λ m. channel_at m c) n.music ∙ same) ∙ before p g is
  | inr g ↦ absurd (none p g is)
]

after_message : Laws → (o : Options) (table : Targets) (port : PortEvents) (c k : ℕ) (e : MidiEvent) (msg : Msg) → e.what ≡ Says msg
    → is_bend o.route ≡ true → is_part o c ≡ true
    → kind_behind o table false port k e ≡ None → Next o table port k e → AllWithin o table port c k → AllWithin o table port c (suc k)
after_message l o table port c k e msg is bends part fine n before = pick (nat_eq (channel_of msg) c) refl
  where
    tests : AllByRecursion (λ x. x.1 ≡ false)
        (message_tests port.number o table e.tick (music_at port.events k) (music_at port.events (suc k)) false
        (pairs_at o (is_part o) table port (suc k)) msg)
    tests = none_holds (message_tests port.number o table e.tick (music_at port.events k) (music_at port.events (suc k)) false
        (pairs_at o (is_part o) table port (suc k)) msg)
        (ap (kind_in port.number o table e.tick (music_at port.events k) (music_at port.events (suc k)) false
        (pairs_at o (is_part o) table port (suc k))) (sym is) ∙ fine)

    found : channel_of msg ≡ c → first_beyond (record { port = port.number; channel = c }) (moved_at o port c (suc k))
        (pairs_at o (is_part o) table port (suc k)) ≡ None
    found same = subst (λ d. first_beyond (record { port = port.number; channel = d }) (moved_at o port d (suc k))
        (pairs_at o (is_part o) table port (suc k)) ≡ None) same
        (none_found (is_bend o.route) (is_part o (channel_of msg)) _ bends (ap (is_part o) same ∙ part) tests.1.1.1.0)

    pick : (b : Bool) → nat_eq (channel_of msg) c ≡ b → AllWithin o table port c (suc k)
    pick true same = l.none o (is_part o) table port (suc k) (record { port = port.number; channel = c }) (moved_at o port c (suc k))
        (found (eqb-true (channel_of msg) c same))
    pick false other = stays l o table port c k e n
        (ap (λ w. channel_at (advance e.tick (doing w) (music_at port.events k)) c) is
        ∙ other_channel (music_at port.events k) e.tick msg c (l.zones o (music_at port.events k) msg tests.1.1.1.1.1.1.1.0) other)
        (λ p h own. let of : p.part ≡ record { port = port.number; channel = channel_of msg } =
        begun_of port.number o (is_part o) table e.tick msg p (subst (λ w. Has (begun_pair port.number o (is_part o) table e.tick w) p) is h) in
        let same : channel_of msg ≡ c = ap (λ (x : Part). x.channel) (sym of ∙ own) in both_ways (nat_eq (channel_of msg) c) other
        (eq-eqb (channel_of msg) c same))
        before

-- an event that is no message is a reset, or leaves the music
after_another : Laws → (o : Options) (table : Targets) (port : PortEvents) (c k : ℕ) (e : MidiEvent) (d : Doing) → doing e.what ≡ d
    → ((msg : Msg) → d ≡ Plays msg → ⊥)
    → begun_pair port.number o (is_part o) table e.tick e.what ≡ [] → Next o table port k e → AllWithin o table port c k
    → AllWithin o table port c (suc k)
after_another l o table port c k e (Plays msg) is not none n before = absurd (not msg refl)
after_another l o table port c k e Resets is not none n before = λ p h own.
    absurd (let empty : Has [] p = subst (λ (ps : List Pair). Has ps p)
    (l.reset o (is_part o) table port k (reset_here (suc k) e port.events n.at (ap resets is))) h in cc)
after_another l o table port c k e (Tunes r) is not none n before =
    stays l o table port c k e n (ap (λ x. channel_at (advance e.tick x (music_at port.events k)) c) is)
    (λ p h own. absurd (let empty : Has [] p = subst (λ (ps : List Pair). Has ps p) none h in cc)) before
after_another l o table port c k e Nothing is not none n before =
    stays l o table port c k e n (ap (λ x. channel_at (advance e.tick x (music_at port.events k)) c) is)
    (λ p h own. absurd (let empty : Has [] p = subst (λ (ps : List Pair). Has ps p) none h in cc)) before

no_message : (lead : ℕ) (bytes : List ℕ) (msg : Msg) → doing (SysexOf lead bytes) ≡ Plays msg → ⊥
no_message lead bytes msg h = pick (nat_eq lead 0xf0) (is_reset bytes) (tuning_of bytes) h
  where
    pick : (a b : Bool) (x : Option Retune) → cond a (cond b Resets (tunes x)) Nothing ≡ Plays msg → ⊥
    pick false b x g = cc
    pick true true x g = cc
    pick true false None g = cc
    pick true false (Some r) g = cc

after_own : Laws → (o : Options) (table : Targets) (port : PortEvents) (c k : ℕ) (e : MidiEvent) (w : MidiWhat) → e.what ≡ w
    → is_bend o.route ≡ true → is_part o c ≡ true
    → kind_behind o table false port k e ≡ None → Next o table port k e → AllWithin o table port c k → AllWithin o table port c (suc k)
after_own l o table port c k e (Says msg) is bends part fine n before = after_message l o table port c k e msg is bends part fine n before
after_own l o table port c k e (SysexOf lead bytes) is bends part fine n before = after_another l o table port c k e (doing e.what) refl
    (λ msg h. no_message lead bytes msg (ap doing (sym is) ∙ h)) (ap (begun_pair port.number o (is_part o) table e.tick) is) n before
after_own l o table port c k e (MetaOf kind bytes) is bends part fine n before = after_another l o table port c k e (doing e.what) refl
    (λ msg h. absurd (let g : Nothing ≡ Plays msg = ap doing (sym is) ∙ h in cc)) (ap (begun_pair port.number o (is_part o) table e.tick) is) n before

-- ---- at each position

pub bends_by : (o : Options) → is_bend o.route ≡ true → bends_notes o.route ≡ true
bends_by o h = pick o.route h
  where
    pick : (r : Route) → is_bend r ≡ true → bends_notes r ≡ true
    pick ByDump g = absurd cc
    pick ByLive g = absurd cc
    pick ByBend g = refl
    pick ByMpe g = absurd cc

pub sound : Laws → (o : Options) (table : Targets) (es : List MidiEvent) (z : ℕ) → bends_notes o.route ≡ true → AreInOrder 0 es
    → IsFaultless o table es
    → IsAimedPort o (is_part o) table (port_at es z)
sound l o table es z bends order faultless = l.aimed o (is_part o) table es z (λ c h. h)
    (record { bends = bends; in_order = order; faultless = faultless })

next_position : Laws → (o : Options) (table : Targets) (es before : List MidiEvent) (e : MidiEvent) (later : List MidiEvent) (z c : ℕ)
    → es ≡ before ++ e ∷ later
    → is_bend o.route ≡ true → is_part o c ≡ true → AreInOrder 0 es → IsFaultless o table es
    → AllWithin o table (port_at es z) c (length before) → AllWithin o table (port_at es z) c (suc (length before))
next_position l o table es before e later z c is bends part order faultless within =
    pick (nat_eq (last_named 0 (of_track e.track (before ++ e ∷ []))) z)
    (ap (λ xs. event_at (of_port z xs) (suc (length before))) is ∙ l.port z before e later)
  where
    aimed : IsAimedPort o (is_part o) table (port_at es z)
    aimed = sound l o table es z (bends_by o bends) order faultless

    pick : (b : Bool) → event_at (of_port z es) (suc (length before)) ≡ cond b (e ∷ []) [] → AllWithin o table (port_at es z) c (suc (length before))
    pick false none = λ p h own.
        ap (λ m. is_within_bend (p.steps +ℤ bend_in_steps o.range (channel_at m c))) (l.other z es (length before) none)
        ∙ within p (l.was_there o (is_part o) table (port_at es z) aimed (length before) p
        (subst (λ (ps : List Pair). Has ps p) (l.elsewhere o (is_part o) table (port_at es z) aimed.timed (length before) none) h)) own
    pick true one = after_own l o table (port_at es z) c (length before) e e.what refl bends part
        (fine_here (λ k x. IsFine o table (port_at es z) k x) (length before) e (of_port z es) (l.fine o table es z faultless) one)
        (record { at = one; music = l.own z es (length before) e one; aimed = aimed }) within

record Split (es : List MidiEvent) (k : ℕ) : Type 0 where
  pub before : List MidiEvent
  pub event : MidiEvent
  pub later : List MidiEvent
  pub is : es ≡ before ++ event ∷ later
  pub place : length before ≡ k

split : (es : List MidiEvent) (k : ℕ) → k < length es → Split es k
split [] k low = absurd (omega arith)
split (e ∷ es) zero low = record { before = []; event = e; later = es; is = refl; place = refl }
split (e ∷ es) (suc k) low =
    let s = split es k (omega arith) in
    record { before = e ∷ s.before; event = s.event; later = s.later; is = ap (λ xs. e ∷ xs) s.is; place = ap suc s.place }

pub within : Laws → (o : Options) (table : Targets) (es : List MidiEvent) (z c : ℕ) → is_bend o.route ≡ true → is_part o c ≡ true → AreInOrder 0 es
    → IsFaultless o table es
    → (k : ℕ) → k ≤ length es → AllWithin o table (port_at es z) c k
within l o table es z c bends part order faultless zero low = λ p h own.
    absurd (let empty : Has [] p = subst (λ (ps : List Pair). Has ps p)
    (l.begins o (is_part o) table (port_at es z) 0 (sound l o table es z (bends_by o bends) order faultless)).none h in cc)
within l o table es z c bends part order faultless (suc k) low =
    let s = split es k low in
    subst (λ j. AllWithin o table (port_at es z) c (suc j)) s.place
    (next_position l o table es s.before s.event s.later z c s.is bends part order faultless
    (subst (λ j. AllWithin o table (port_at es z) c j) (sym s.place) (within l o table es z c bends part order faultless k (omega arith))))
