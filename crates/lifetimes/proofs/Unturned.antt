-- A message that turns no bend: no note on of a retuned part, no bend and no data entry. It leaves its part's bend, or puts it back to none, and
-- begins no pair. So no pair goes too far, and the message alone tells which of the kinds before those of ports it is.
use Rattle.std.proofs.Common.{◌≡◌, ◌≤◌, ◌<◌, ◌⊎◌, ◌∙◌, ◌+◌, ◌*◌, ◌/◌, ℕ, zero, suc, ℤ, pos, ◌+ℤ◌, ◌-ℤ◌, ◌*ℤ◌, List, [], ◌∷◌, ◌++◌, Bool, true, false, cond, ◌&&◌, ◌||◌, nat_eq, Option, Some, None, is_some, length, set, get_or, refl, sym, ap, subst, arith, inl, inr}
use Rattle.std.specs.Int.{int_div_euclid}
use Rattle.std.specs.Option.{option_map}
use Rattle.std.proofs.Math.Bool.{and-false}
use Rattle.std.proofs.Math.Nat.{div-eq_of_lt}
use Rattle.std.proofs.lemmas.Bool.{both_ways}
use Rattle.std.proofs.lemmas.Int.{ints}
use Rattle.std.proofs.lemmas.List.{get_or-set_same}
use Rattle.mt_base.specs.declared.event.Msg.{Msg}
use Rattle.mt_base.specs.declared.event.Msg.TheVariants.{NoteOn, NoteOff, KeyPressure, Control, Program, Pressure, Bend}
use Rattle.mt_base.specs.Midi.{Says, MidiEvent, channel_of}
use Rattle.mt_base.specs.Valid.{IsValidEvent, IsValidMsg, IsValidWhat}
use Rattle.midi_model.specs.Channel.{Channel, Selection, default_channel, apply, controlled, Role, Stored, EntryHigh, EntryLow, NrpnLow, NrpnHigh, RpnLow, RpnHigh, AllSoundOff, ResetControllers, AllNotesOff, Ignored, role}
use Rattle.midi_model.specs.Zones.{bend_ranges}
use Rattle.midi_model.specs.Sysex.{Plays, doing}
use Rattle.midi_model.specs.Music.{Music, channel_at, asks, asked_by, zones_after, advance}
use Rattle.midi_model.specs.MusicLaws.{EventsSettle}
use Rattle.midi_model.specs.Merged.{of_track}
use Rattle.retune_model.specs.Options.{Options}
use Rattle.retune_model.specs.Source.{sensitivity, bend_in_steps}
use Rattle.retune_model.specs.Ports.{PortEvents, last_named, of_port, port_at, music_at}
use Rattle.retune_model.specs.PortLaws.{TrackNamesThePort}
use Rattle.retune_model.specs.Faults.{Targets, Kind, UnmappedKey, KeyOutOfDevice, Unison, BendTooFar, ModeMessage, DataStep, TuningInSource, MpeSource, is_part, is_bend, is_within_bend, is_entry, is_selected, is_unison, is_tuning_entry, is_zone_entry, first_that}
use Rattle.retune_model.specs.FaultLaws.{LeastIsKept}
use Rattle.retune_model.specs.Pairs.{Part, Pair}
use Rattle.retune_model.specs.Rests.{pairs_at, begun_pair, begun_pairs, begun_at, is_aimed, IsAimedPort}
use Rattle.retune_model.specs.RestLaws.{HeldWasThere, HeldOrBegun}
use Rattle.retune_model.specs.SourceFaults.{first_beyond, beyond_after}
use Rattle.lifetimes.specs.Told.{music_on, strike_of}
use Rattle.lifetimes.specs.Within.{BendLaws, PairsAreWithin}
use Rattle.lifetimes.specs.Due.{IsNext, plainly, alone_tests, early_due, with_bend}
use Rattle.lifetimes.specs.declared.port.Port.{Port}
use Rattle.lifetimes.proofs.Beyond.{Has, bends_by}
use Rattle.lifetimes.proofs.StruckNow.{last_one}
use Rattle.lifetimes.proofs.Prefix.{pairs_more}
use Rattle.lifetimes.proofs.Appended.{music_there}
use Rattle.lifetimes.proofs.BendNow.{order_front, aimed_next}
use Rattle.lifetimes.proofs.LeftAlone.{music_after}
use Rattle.lifetimes.proofs.Decided.{pairs_within}
use Rattle.lifetimes.proofs.Turned.{settled_on}

abbrev pub TurnsNothing : Msg → Type 0
TurnsNothing (NoteOn c k (suc v)) = ⊥
TurnsNothing (Control c n v) = is_entry (role n) ≡ false
TurnsNothing (Bend c v) = ⊥
TurnsNothing _ = Unit {0}

-- ---- what it leaves of its channel

no_zone : (m : Music) (c v : ℕ) (r : Role) → is_entry r ≡ false → asked_by m c v r ≡ None
no_zone m c v Stored h = refl
no_zone m c v EntryHigh h = absurd cc
no_zone m c v EntryLow h = refl
no_zone m c v NrpnLow h = refl
no_zone m c v NrpnHigh h = refl
no_zone m c v RpnLow h = refl
no_zone m c v RpnHigh h = refl
no_zone m c v AllSoundOff h = refl
no_zone m c v ResetControllers h = refl
no_zone m c v AllNotesOff h = refl
no_zone m c v Ignored h = refl

-- what it doesn't ask for, begin or enter
record IsPlain (o : Options) (table : Targets) (z t : ℕ) (m : Music) (msg : Msg) : Type 0 where
  asks_none : asks m msg ≡ None
  begins_none : begun_pair z o (is_part o) table t (Says msg) ≡ []
  aimed : is_aimed o (is_part o) table t (Says msg) ≡ true
  unison : is_unison o table m t msg ≡ false
  tuning : is_tuning_entry o m msg ≡ false
  zone : is_zone_entry o m msg ≡ false

plain : (o : Options) (table : Targets) (z t : ℕ) (m : Music) (msg : Msg) → TurnsNothing msg → IsPlain o table z t m msg
plain o table z t m (NoteOn c k zero) h =
    record { asks_none = refl; begins_none = refl; aimed = refl; unison = refl; tuning = refl; zone = refl }
plain o table z t m (NoteOn c k (suc v)) h = absurd h
plain o table z t m (NoteOff c k v) h =
    record { asks_none = refl; begins_none = refl; aimed = refl; unison = refl; tuning = refl; zone = refl }
plain o table z t m (KeyPressure c k v) h =
    record { asks_none = refl; begins_none = refl; aimed = refl; unison = refl; tuning = refl; zone = refl }
plain o table z t m (Control c n v) h =
    let s : Selection = (channel_at m c).selection in
    record {
      asks_none = no_zone m c v (role n) h;
      begins_none = refl;
      aimed = refl;
      unison = refl;
      tuning = ap (λ b. is_part o c && (b && (is_selected 3 s || is_selected 4 s))) h ∙ and-false (is_part o c);
      zone = ap (λ b. is_part o c && (b && is_selected 6 s)) h ∙ and-false (is_part o c);
    }
plain o table z t m (Program c p) h =
    record { asks_none = refl; begins_none = refl; aimed = refl; unison = refl; tuning = refl; zone = refl }
plain o table z t m (Pressure c v) h =
    record { asks_none = refl; begins_none = refl; aimed = refl; unison = refl; tuning = refl; zone = refl }
plain o table z t m (Bend c v) h = absurd h

pub channel_low : (msg : Msg) → IsValidMsg msg → channel_of msg < 16
channel_low (NoteOn c k v) h = let low = h.0 in omega (arith, low)
channel_low (NoteOff c k v) h = let low = h.0 in omega (arith, low)
channel_low (KeyPressure c k v) h = let low = h.0 in omega (arith, low)
channel_low (Control c n v) h = let low = h.0 in omega (arith, low)
channel_low (Program c p) h = let low = h.0 in omega (arith, low)
channel_low (Pressure c v) h = let low = h.0 in omega (arith, low)
channel_low (Bend c v) h = let low = h.0 in omega (arith, low)

-- a message that asks for no zone changes its own channel by itself
pub own_channel : (m : Music) (t : ℕ) (msg : Msg) → length m.channels ≡ 16 → channel_of msg < 16 → asks m msg ≡ None
    → channel_at (advance t (Plays msg) m) (channel_of msg) ≡ apply (channel_at m (channel_of msg)) msg
own_channel m t msg long low none =
    let c : ℕ = channel_of msg in
    let cs : List Channel = set m.channels c (apply (channel_at m c) msg) in
    ap (λ x. get_or (bend_ranges x (zones_after m msg) cs) c default_channel) none
    ∙ get_or-set_same m.channels c (apply (channel_at m c) msg) default_channel (omega (arith, long, low))

half : (range : ℕ) → 1 ≤ range → (100 * range) / (200 * range) ≡ 0
half range some = div-eq_of_lt (let l : 100 * range < 200 * range = omega (arith, some) in l)

none_times : (a n : ℕ) → (pos 2 *ℤ (pos 8192 -ℤ pos 8192)) *ℤ pos a +ℤ pos n ≡ pos n
none_times a n = ap pos (let same : 0 * a + n ≡ n = omega arith in same)

no_bend : (range : ℕ) (s : Channel) → 1 ≤ range → s.bend ≡ 8192 → bend_in_steps range s ≡ pos 0
no_bend range s some is =
    ap (λ b. int_div_euclid ((pos 2 *ℤ (pos b -ℤ pos 8192)) *ℤ pos (sensitivity s) +ℤ pos (100 * range)) (pos (200 * range))) is
    ∙ (ap (λ x. int_div_euclid x (pos (200 * range))) (none_times (sensitivity s) (100 * range)) ∙ ap pos (half range some))

bend_left : (range : ℕ) (s : Channel) (msg : Msg) → 1 ≤ range → TurnsNothing msg
    → (bend_in_steps range (apply s msg) ≡ bend_in_steps range s) ⊎ (bend_in_steps range (apply s msg) ≡ pos 0)
bend_left range s (NoteOn c k zero) some h = inl refl
bend_left range s (NoteOn c k (suc v)) some h = absurd h
bend_left range s (NoteOff c k v) some h = inl refl
bend_left range s (KeyPressure c k v) some h = inl refl
bend_left range s (Control c n v) some h = pick (role n) h
  where
    pick : (r : Role) → is_entry r ≡ false
        → (bend_in_steps range (controlled s n v r) ≡ bend_in_steps range s) ⊎ (bend_in_steps range (controlled s n v r) ≡ pos 0)
    pick Stored g = inl refl
    pick EntryHigh g = absurd cc
    pick EntryLow g = absurd cc
    pick NrpnLow g = inl refl
    pick NrpnHigh g = inl refl
    pick RpnLow g = inl refl
    pick RpnHigh g = inl refl
    pick AllSoundOff g = inl refl
    pick ResetControllers g = inr (no_bend range (controlled s n v ResetControllers) some refl)
    pick AllNotesOff g = inl refl
    pick Ignored g = inl refl
bend_left range s (Program c p) some h = inl refl
bend_left range s (Pressure c v) some h = inl refl
bend_left range s (Bend c v) some h = absurd h

-- where all pairs of a part are within a bend, none is found beyond
pub none_found : LeastIsKept → (o : Options) (table : Targets) (port : PortEvents) (k : ℕ) (part : Part) (r : ℤ)
    → ((p : Pair) → Has (pairs_at o (is_part o) table port k) p → p.part ≡ part → is_within_bend (p.steps +ℤ r) ≡ true)
    → first_beyond part r (pairs_at o (is_part o) table port k) ≡ None
none_found kept o table port k part r all = pick (first_beyond part r (pairs_at o (is_part o) table port k)) refl
  where
    pick : (x : Option (ℤ × ℤ)) → first_beyond part r (pairs_at o (is_part o) table port k) ≡ x
        → first_beyond part r (pairs_at o (is_part o) table port k) ≡ None
    pick None is = is
    pick (Some y) is =
        let x = kept o (is_part o) table port k part r y.0 y.1 is in
        absurd (both_ways (is_within_bend (y.0 +ℤ r)) x.1.beyond (all (record { part = part; steps = y.0 }) x.1.there refl))

plus_none : (q : ℤ) → q +ℤ pos 0 ≡ q
plus_none q = omega (arith, ints)

-- ---- the laws, and the event at hand

pub record Laws : Type 0 where
  pub bends : BendLaws
  pub settled : EventsSettle
  pub port : TrackNamesThePort
  pub was_there : HeldWasThere
  pub next : HeldOrBegun
  pub within : PairsAreWithin

module _ (l : Laws) (o : Options) (table : Targets) (es : List MidiEvent) (e : MidiEvent) (z : ℕ) (port : Port) (msg : Msg)
    (next : IsNext o table es e z port) (is : e.what ≡ Says msg) (turns : TurnsNothing msg) (some : 1 ≤ o.range)
    (part : is_part o (channel_of msg) ≡ true) where
  here : Part
  here = record { port = z; channel = channel_of msg }

  now : PortEvents
  now = port_at (es ++ e ∷ []) z

  after : Music
  after = music_at (of_port z (es ++ e ∷ [])) (suc (length es))

  Holds : ℕ → Pair → Type 0
  Holds k p = Has (pairs_at o (is_part o) table (port_at (es ++ e ∷ []) z) k) p

  -- whether a pair is within a bend with the part's bend
  Within : Channel → Pair → Type 0
  Within s p = is_within_bend (p.steps +ℤ bend_in_steps o.range s) ≡ true

  none_begun : begun_at o (is_part o) table now (suc (length es)) ≡ []
  unfolding now
  none_begun =
      ap (begun_pairs z o (is_part o) table) (l.port z es e []) ∙ pick (nat_eq (last_named 0 (of_track e.track (es ++ e ∷ []))) z)
    where
      pick : (b : Bool) → begun_pairs z o (is_part o) table (cond b (e ∷ []) []) ≡ []
      pick true = ap (begun_pair z o (is_part o) table e.tick) is ∙ (plain o table z e.tick (music_on z es) msg turns).begins_none
      pick false = refl

  came : is_bend o.route ≡ true → (p : Pair) → Holds (suc (length es)) p → Holds (length es) p
  unfolding now Holds
  came bends p h =
      let aimed : IsAimedPort o (is_part o) table now =
      aimed_next l.bends.aimed l.bends.timed o table es e z (bends_by o bends) next.order next.faultless
      (ap (is_aimed o (is_part o) table e.tick) is ∙ (plain o table z e.tick (music_on z es) msg turns).aimed) in
      elim (l.next o (is_part o) table now aimed (length es) p h) [
        | inl g ↦ l.was_there o (is_part o) table now aimed (length es) p g
        | inr g ↦ absurd (let empty : Has [] p = subst (λ (ps : List Pair). Has ps p) none_begun g in cc)
      ]

  was_within : is_bend o.route ≡ true → (p : Pair) → Holds (length es) p → p.part ≡ here
      → Within (channel_at (music_on z es) (channel_of msg)) p
  unfolding Holds here Within
  was_within bends p h own =
      ap (λ m. is_within_bend (p.steps +ℤ bend_in_steps o.range (channel_at m (channel_of msg)))) (sym (music_there l.bends.music z es))
      ∙ l.within o table es z (channel_of msg) bends part (order_front 0 es e next.order) next.faultless (length es) (omega arith) p
      (subst (λ ps. Has ps p) (pairs_more o (is_part o) table z (length es) es e (omega arith)) h) own

  channel_now : channel_at after (channel_of msg) ≡ apply (channel_at (music_on z es) (channel_of msg)) msg
  unfolding after
  channel_now =
      let m : Music = music_on z es in
      ap (λ x. channel_at x (channel_of msg)) (music_after l.bends.music z es e next.here)
      ∙ (ap (λ w. channel_at (advance e.tick (doing w) m) (channel_of msg)) is
      ∙ own_channel m e.tick msg (settled_on l.settled z es).channels
      (channel_low msg (subst IsValidWhat is (last_one IsValidEvent es e next.valid).what))
      (plain o table z e.tick m msg turns).asks_none)

  within_now : is_bend o.route ≡ true → (p : Pair) → Holds (suc (length es)) p → p.part ≡ here
      → Within (channel_at after (channel_of msg)) p
  unfolding Holds Within
  within_now bends p h own =
      ap (λ s. is_within_bend (p.steps +ℤ bend_in_steps o.range s)) channel_now
      ∙ elim (bend_left o.range (channel_at (music_on z es) (channel_of msg)) msg some turns) [
        | inl same ↦ ap (λ r. is_within_bend (p.steps +ℤ r)) same ∙ was_within bends p (came bends p h) own
        | inr none ↦ ap (λ r. is_within_bend (p.steps +ℤ r)) none
            ∙ (ap is_within_bend (plus_none p.steps) ∙ pairs_within z o table _ p some h)
      ]

  -- kind 4 doesn't hold
  none_beyond : (is_bend o.route && (is_part o (channel_of msg)
      && is_some (beyond_after z o (music_at (of_port z (es ++ e ∷ [])) (suc (length es)))
      (pairs_at o (is_part o) table (port_at (es ++ e ∷ []) z) (suc (length es))) msg))) ≡ false
  unfolding now here after Holds Within
  none_beyond = pick (is_bend o.route) (is_part o (channel_of msg)) _
      (λ bends. none_found l.bends.some o table now (suc (length es)) here (bend_in_steps o.range (channel_at after (channel_of msg)))
      (within_now bends))
    where
      pick : (b p : Bool) (found : Option (ℤ × ℤ)) → (b ≡ true → found ≡ None) → (b && (p && is_some found)) ≡ false
      pick false p found none = refl
      pick true false found none = refl
      pick true true found none = ap is_some (none refl)

-- ---- its kinds

-- of the first eight kinds, those that a message alone tells
abbrev eight : Bool → Bool → Bool → Bool → Bool → Bool → Bool → Bool → List (Kind × Bool)
eight a b u v x y t z =
    (UnmappedKey, a) ∷ (KeyOutOfDevice, b) ∷ (Unison, u) ∷ (BendTooFar, v)
    ∷ (ModeMessage, x) ∷ (DataStep, y) ∷ (TuningInSource, t) ∷ (MpeSource, z) ∷ []

record KeepsNoSteps (told : Kind → Kind × Option (ℤ × ℤ)) : Type 0 where
  unmapped : told UnmappedKey ≡ (UnmappedKey, None)
  out : told KeyOutOfDevice ≡ (KeyOutOfDevice, None)
  mode : told ModeMessage ≡ (ModeMessage, None)
  data_step : told DataStep ≡ (DataStep, None)

four : (told : Kind → Kind × Option (ℤ × ℤ)) (a b x y : Bool) → KeepsNoSteps told
    → option_map told (first_that (eight a b false false x y false false))
    ≡ plainly (first_that ((UnmappedKey, a) ∷ (KeyOutOfDevice, b) ∷ (ModeMessage, x) ∷ (DataStep, y) ∷ []))
four told true b x y k = ap Some k.unmapped
four told false true x y k = ap Some k.out
four told false false true y k = ap Some k.mode
four told false false false true k = ap Some k.data_step
four told false false false false k = refl

alone : (told : Kind → Kind × Option (ℤ × ℤ)) (a b u v x y t z : Bool) → KeepsNoSteps told
    → u ≡ false → v ≡ false → t ≡ false → z ≡ false
    → option_map told (first_that (eight a b u v x y t z))
    ≡ plainly (first_that ((UnmappedKey, a) ∷ (KeyOutOfDevice, b) ∷ (ModeMessage, x) ∷ (DataStep, y) ∷ []))
alone told a b u v x y t z k hu hv ht hz =
    ap (λ w. option_map told (first_that (eight a b w v x y t z))) hu
    ∙ (ap (λ w. option_map told (first_that (eight a b false w x y t z))) hv
    ∙ (ap (λ w. option_map told (first_that (eight a b false false x y w z))) ht
    ∙ (ap (λ w. option_map told (first_that (eight a b false false x y false w))) hz ∙ four told a b x y k)))

pub unturned_due : Laws → (o : Options) (table : Targets) (es : List MidiEvent) (e : MidiEvent) (z t : ℕ) (port : Port) (msg : Msg)
    → IsNext o table es e z port → e.what ≡ Says msg → TurnsNothing msg → 1 ≤ o.range → is_part o (channel_of msg) ≡ true
    → e.tick ≡ t → early_due o table es e z msg ≡ plainly (first_that (alone_tests o table t msg))
unturned_due l o table es e z t port msg next is turns some part tick =
    let p = plain o table z e.tick (music_at (of_port z (es ++ e ∷ [])) (length es)) msg turns in
    alone (with_bend o table es e z) _ _ _ _ _ _ _ _ (record { unmapped = refl; out = refl; mode = refl; data_step = refl })
    p.unison (none_beyond l o table es e z port msg next is turns some part) p.tuning p.zone
    ∙ ap (λ x. plainly (first_that (alone_tests o table x msg))) tick

-- ---- which messages they are

abbrev pub turns : Msg → Bool
turns (Control c n v) = nat_eq n 6 || nat_eq n 38
turns (Bend c v) = true
turns _ = false

no_entry : (n : ℕ) → (nat_eq n 6 || nat_eq n 38) ≡ false → is_entry (role n) ≡ false
no_entry n h = grind arith

-- without a strike
pub unturned : (o : Options) (table : Targets) (t : ℕ) (msg : Msg) → is_part o (channel_of msg) ≡ true
    → None ≡ strike_of o table t (Says msg) → turns msg ≡ false → TurnsNothing msg
unturned o table t (NoteOn c k zero) part struck h = tt
unturned o table t (NoteOn c k (suc v)) part struck h = absurd (none _ (is_part o c) part struck)
  where
    none : {A : Type 0} (x : A) (b : Bool) → b ≡ true → None ≡ cond b (Some x) None → ⊥
    none x true p s = cc
    none x false p s = cc
unturned o table t (NoteOff c k v) part struck h = tt
unturned o table t (KeyPressure c k v) part struck h = tt
unturned o table t (Control c n v) part struck h = no_entry n h
unturned o table t (Program c p) part struck h = tt
unturned o table t (Pressure c v) part struck h = tt
unturned o table t (Bend c v) part struck h = absurd cc
