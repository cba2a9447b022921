-- The first of all kinds that a message of a retuned part is: of those before the kinds of ports, else too many parameters, else of those behind.
use Rattle.std.proofs.Common.{◌≡◌, ◌≤◌, ◌∙◌, ℕ, suc, ℤ, List, [], ◌∷◌, ◌++◌, Bool, true, false, cond, ◌&&◌, nat_lt, not, Option, Some, None, is_some, length, take, drop, get_or, refl, sym, ap, subst, inl, inr}
use Rattle.std.specs.Prelude.{IsTrue, ◌↔◌}
use Rattle.std.specs.Option.{option_map}
use Rattle.std.proofs.lemmas.Bool.{both_ways, cases_lt, lt-ltb, le-ltb, iff_false}
use Rattle.mt_base.specs.declared.event.Msg.{Msg}
use Rattle.mt_base.specs.Midi.{Says, MidiEvent, channel_of}
use Rattle.mt_base.specs.Valid.{IsValidEvent, IsValidWhat}
use Rattle.midi_model.specs.Sysex.{doing}
use Rattle.midi_model.specs.Channel.{default_channel, apply, counted}
use Rattle.midi_model.specs.Music.{Music, channel_at, advance}
use Rattle.midi_model.specs.MusicLaws.{EventsSettle}
use Rattle.retune_model.specs.Options.{Options}
use Rattle.retune_model.specs.Ports.{of_port, port_at, music_at}
use Rattle.retune_model.specs.PortLaws.{MusicAtAPosition}
use Rattle.retune_model.specs.Drums.{DrumsStandApart}
use Rattle.retune_model.specs.Faults.{Targets, Kind, Port, TooManyParameters, PolyInMpe, Restrike, is_part, is_zone_entry, first_that}
use Rattle.retune_model.specs.FaultLaws.{OnlyZoneEntriesAskForZones}
use Rattle.retune_model.specs.Rests.{pairs_at}
use Rattle.retune_model.specs.SourceFaults.{kind_in, has_too_many}
use Rattle.receiver.specs.Stands.{HasRoom, states_of}
use Rattle.lifetimes.specs.Told.{music_on, due_kind}
use Rattle.lifetimes.specs.Due.{Due, IsNext, plainly, early_due, late_due, tests_of, with_bend}
use Rattle.lifetimes.specs.declared.port.Port.{Port as Kept}
use Rattle.lifetimes.proofs.Beyond.{none_holds}
use Rattle.lifetimes.proofs.HeardParts.{heard_channel}
use Rattle.lifetimes.proofs.LeftAlone.{music_after}
use Rattle.lifetimes.proofs.StruckNow.{some_mapped, last_one, music_before}
use Rattle.lifetimes.proofs.Turned.{settled_on}
use Rattle.lifetimes.proofs.Unturned.{channel_low, own_channel}

-- ---- the first of two lists

found_first : (xs ys : List (Kind × Bool)) (k : Kind) → first_that xs ≡ Some k → first_that (xs ++ ys) ≡ Some k
found_first [] ys k is = absurd cc
found_first (x ∷ xs) ys k is = pick x.1 is (found_first xs ys k)
  where
    pick : (b : Bool) → cond b (Some x.0) (first_that xs) ≡ Some k → (first_that xs ≡ Some k → first_that (xs ++ ys) ≡ Some k)
        → cond b (Some x.0) (first_that (xs ++ ys)) ≡ Some k
    pick true e later = e
    pick false e later = later e

none_first : (xs ys : List (Kind × Bool)) → first_that xs ≡ None → first_that (xs ++ ys) ≡ first_that ys
none_first [] ys is = refl
none_first (x ∷ xs) ys is = pick x.1 is (none_first xs ys)
  where
    pick : (b : Bool) → cond b (Some x.0) (first_that xs) ≡ None → (first_that xs ≡ None → first_that (xs ++ ys) ≡ first_that ys)
        → cond b (Some x.0) (first_that (xs ++ ys)) ≡ first_that ys
    pick true e later = absurd cc
    pick false e later = later e

is_none : {A : Type 0} (x : Option A) → is_some x ≡ false → x ≡ None
is_none None h = refl
is_none (Some a) h = absurd cc

-- ---- the first eight

pub due_of : (o : Options) (table : Targets) (es : List MidiEvent) (e : MidiEvent) (z : ℕ) (msg : Msg) → e.what ≡ Says msg
    → due_kind o table false (port_at (es ++ e ∷ []) z) (length es) e
    ≡ option_map (with_bend o table es e z) (first_that (tests_of o table es e z msg))
due_of o table es e z msg is =
    let port = port_at (es ++ e ∷ []) z in
    ap (λ w. option_map (with_bend o table es e z)
    (kind_in z o table e.tick (music_at port.events (length es)) (music_at port.events (suc (length es))) false
    (pairs_at o (is_part o) table port (suc (length es))) w)) is

-- one of them
pub early_found : (o : Options) (table : Targets) (es : List MidiEvent) (e : MidiEvent) (z : ℕ) (msg : Msg) (told : Due) → e.what ≡ Says msg
    → told ≡ early_due o table es e z msg → is_some told ≡ true → told ≡ due_kind o table false (port_at (es ++ e ∷ []) z) (length es) e
early_found o table es e z msg told is early some = pick (first_that first) refl early ∙ sym (due_of o table es e z msg is)
  where
    first : List (Kind × Bool)
    first = take 8 (tests_of o table es e z msg)

    pick : (x : Option Kind) → first_that first ≡ x → told ≡ option_map (with_bend o table es e z) x
        → told ≡ option_map (with_bend o table es e z) (first_that (tests_of o table es e z msg))
    pick None found same = absurd (both_ways (is_some told) (ap is_some same) some)
    pick (Some k) found same =
        same ∙ ap (option_map (with_bend o table es e z)) (sym (found_first first (drop 8 (tests_of o table es e z msg)) k found))

-- none of them
pub none_early : (o : Options) (table : Targets) (es : List MidiEvent) (e : MidiEvent) (z : ℕ) (msg : Msg) (told : Due)
    → told ≡ early_due o table es e z msg → is_some told ≡ false → first_that (take 8 (tests_of o table es e z msg)) ≡ None
none_early o table es e z msg told early none =
    is_none (first_that (take 8 (tests_of o table es e z msg)))
    (sym (some_mapped (with_bend o table es e z) (first_that (take 8 (tests_of o table es e z msg)))) ∙ (ap is_some (sym early) ∙ none))

-- ---- parameters

-- the channel after the event, where it enters no zone
channel_then : EventsSettle → MusicAtAPosition → OnlyZoneEntriesAskForZones
    → (o : Options) (table : Targets) (es : List MidiEvent) (e : MidiEvent) (z : ℕ) (port : Kept) (msg : Msg)
    → IsNext o table es e z port → e.what ≡ Says msg → first_that (take 8 (tests_of o table es e z msg)) ≡ None
    → channel_at (music_at (of_port z (es ++ e ∷ [])) (suc (length es))) (channel_of msg)
    ≡ apply (channel_at (music_on z es) (channel_of msg)) msg
channel_then settled music zones o table es e z port msg next is none =
    let m : Music = music_on z es in
    let no_zone : is_zone_entry o m msg ≡ false =
    ap (λ x. is_zone_entry o x msg) (sym (music_before music z es e))
    ∙ (none_holds (take 8 (tests_of o table es e z msg)) none).1.1.1.1.1.1.1.0 in
    ap (λ x. channel_at x (channel_of msg)) (music_after music z es e next.here)
    ∙ (ap (λ w. channel_at (advance e.tick (doing w) m) (channel_of msg)) is
    ∙ own_channel m e.tick msg (settled_on settled z es).channels
    (channel_low msg (subst IsValidWhat is (last_one IsValidEvent es e next.valid).what)) (zones o m msg no_zone))

-- what is said of room
pub room_due : EventsSettle → MusicAtAPosition → OnlyZoneEntriesAskForZones → DrumsStandApart
    → (o : Options) (table : Targets) (es : List MidiEvent) (e : MidiEvent) (z : ℕ) (port : Kept) (msg : Msg)
    → IsNext o table es e z port → e.what ≡ Says msg → is_part o (channel_of msg) ≡ true
    → first_that (take 8 (tests_of o table es e z msg)) ≡ None
    → (room : Bool) → (IsTrue room ↔ HasRoom port.player (Says msg)) → (b : Bool) → room ≡ b
    → has_too_many o (music_at (of_port z (es ++ e ∷ [])) (suc (length es))) msg ≡ not b
room_due settled music zones apart o table es e z port msg next is part none room says b told =
    let c : ℕ = channel_of msg in
    let after : Music = music_at (of_port z (es ++ e ∷ [])) (suc (length es)) in
    ap (λ x. x && nat_lt 16 (counted (channel_at after c))) part
    ∙ (ap (λ s. nat_lt 16 (counted s))
    (channel_then settled music zones o table es e z port msg next is none ∙ ap (λ s. apply s msg) (sym heard))
    ∙ pick (counted (apply (get_or (states_of port.player) c default_channel) msg)) b says told)
  where
    heard : get_or (states_of port.player) (channel_of msg) default_channel ≡ channel_at (music_on z es) (channel_of msg)
    heard = ap (λ ss. get_or ss (channel_of msg) default_channel) next.stands.player.channels
        ∙ heard_channel apart o z es (channel_of msg) part

    pick : (n : ℕ) (b : Bool) → (IsTrue room ↔ (n ≤ 16)) → room ≡ b → nat_lt 16 n ≡ not b
    pick n true few h = le-ltb 16 n (few.0 h)
    pick n false few h = elim (cases_lt 16 n) [ inl l ↦ lt-ltb 16 n l | inr l ↦ absurd (iff_false few h l) ]

-- ---- behind the first eight

abbrev behind : Bool → Bool → Bool → List (Kind × Bool)
behind many poly again = (Port, false) ∷ (TooManyParameters, many) ∷ (PolyInMpe, poly) ∷ (Restrike, again) ∷ []

late_kinds : (told : Kind → Kind × Option (ℤ × ℤ)) (many poly again : Bool)
    → told PolyInMpe ≡ (PolyInMpe, None) → told Restrike ≡ (Restrike, None) → many ≡ false
    → option_map told (first_that (behind many poly again)) ≡ plainly (first_that ((PolyInMpe, poly) ∷ (Restrike, again) ∷ []))
late_kinds told true poly again p r none = absurd cc
late_kinds told false true again p r none = ap Some p
late_kinds told false false true p r none = ap Some r
late_kinds told false false false p r none = refl

many_kinds : (told : Kind → Kind × Option (ℤ × ℤ)) (many poly again : Bool) → told TooManyParameters ≡ (TooManyParameters, None)
    → many ≡ true → option_map told (first_that (behind many poly again)) ≡ Some (TooManyParameters, None)
many_kinds told true poly again t some = ap Some t
many_kinds told false poly again t some = absurd cc

past_eight : (o : Options) (table : Targets) (es : List MidiEvent) (e : MidiEvent) (z : ℕ) (msg : Msg) → e.what ≡ Says msg
    → first_that (take 8 (tests_of o table es e z msg)) ≡ None
    → due_kind o table false (port_at (es ++ e ∷ []) z) (length es) e
    ≡ option_map (with_bend o table es e z) (first_that (drop 8 (tests_of o table es e z msg)))
past_eight o table es e z msg is none =
    due_of o table es e z msg is
    ∙ ap (option_map (with_bend o table es e z))
    (none_first (take 8 (tests_of o table es e z msg)) (drop 8 (tests_of o table es e z msg)) none)

pub many_due : (o : Options) (table : Targets) (es : List MidiEvent) (e : MidiEvent) (z : ℕ) (msg : Msg) → e.what ≡ Says msg
    → first_that (take 8 (tests_of o table es e z msg)) ≡ None
    → has_too_many o (music_at (of_port z (es ++ e ∷ [])) (suc (length es))) msg ≡ true
    → Some (TooManyParameters, None) ≡ due_kind o table false (port_at (es ++ e ∷ []) z) (length es) e
many_due o table es e z msg is none many = sym (past_eight o table es e z msg is none ∙ many_kinds (with_bend o table es e z) _ _ _ refl many)

pub late_is_due : (o : Options) (table : Targets) (es : List MidiEvent) (e : MidiEvent) (z : ℕ) (msg : Msg) → e.what ≡ Says msg
    → first_that (take 8 (tests_of o table es e z msg)) ≡ None
    → has_too_many o (music_at (of_port z (es ++ e ∷ [])) (suc (length es))) msg ≡ false
    → late_due o table es e z msg ≡ due_kind o table false (port_at (es ++ e ∷ []) z) (length es) e
late_is_due o table es e z msg is none few = sym (past_eight o table es e z msg is none ∙ late_kinds (with_bend o table es e z) _ _ _ refl refl few)
