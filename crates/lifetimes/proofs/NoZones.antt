-- A source without a fault sets no zone.
use Rattle.std.proofs.Common.{◌≡◌, ◌∙◌, ℕ, suc, List, [], ◌∷◌, ◌++◌, Bool, true, false, cond, nat_eq, Option, Some, None, length, refl, sym, ap, subst, inl, inr}
use Rattle.std.specs.List.{AllByRecursion}
use Rattle.std.proofs.lemmas.List.{append-nil}
use Rattle.std.proofs.lemmas.Bool.Decides.{eqb_tells}
use Rattle.mt_base.specs.declared.event.Msg.{Msg}
use Rattle.mt_base.specs.Midi.{MidiWhat, Says, SysexOf, MetaOf, MidiEvent}
use Rattle.midi_model.specs.Sysex.{Retune, tunes, tuning_of, is_reset, Resets, Nothing, doing}
use Rattle.midi_model.specs.Zones.{no_zones, zones_with}
use Rattle.midi_model.specs.Music.{Music, asks, advance}
use Rattle.midi_model.specs.Receiver.{after}
use Rattle.retune_model.specs.Options.{Options}
use Rattle.retune_model.specs.Ports.{Numbered, PortEvents, with_event, of_port, port_at, music_at}
use Rattle.retune_model.specs.PortLaws.{MusicAtAPosition}
use Rattle.retune_model.specs.Faults.{Targets, is_part}
use Rattle.retune_model.specs.FaultLaws.{OnlyZoneEntriesAskForZones, FaultlessPorts}
use Rattle.retune_model.specs.Rests.{pairs_at}
use Rattle.retune_model.specs.SourceFaults.{IsFaultless, IsFine, message_tests, kind_in, kind_behind}
use Rattle.lifetimes.specs.Told.{music_on, port_on}
use Rattle.lifetimes.proofs.Appended.{events_same}
use Rattle.lifetimes.proofs.Beyond.{none_holds}
use Rattle.lifetimes.proofs.LeftAlone.{music_next}
use Rattle.lifetimes.proofs.Prefix.{port_more, faultless_front}
use Rattle.lifetimes.proofs.StruckNow.{last_one, music_before}

pub record Laws : Type 0 where
  pub zones : OnlyZoneEntriesAskForZones
  pub fine : FaultlessPorts
  pub music : MusicAtAPosition

-- ---- along a list, by its last element

joined : {A : Type 0} (xs ys : List A) (y : A) → (xs ++ y ∷ []) ++ ys ≡ xs ++ y ∷ ys
joined [] ys y = refl
joined (x ∷ xs) ys y = ap (λ l. x ∷ l) (joined xs ys y)

by_last : {A : Type 0} (P : List A → Type 0) → ((xs : List A) (x : A) → P xs → P (xs ++ x ∷ [])) → (xs ys : List A) → P xs
    → P (xs ++ ys)
by_last P next xs [] h = subst P (sym (append-nil xs)) h
by_last P next xs (y ∷ ys) h = subst P (joined xs ys y) (by_last P next (xs ++ y ∷ []) ys (next xs y h))

-- ---- one event

zones_then : (m : Music) (t : ℕ) (w : MidiWhat) → ((msg : Msg) → w ≡ Says msg → asks m msg ≡ None) → m.zones ≡ no_zones
    → (advance t (doing w) m).zones ≡ no_zones
zones_then m t (Says msg) none before = ap (λ a. zones_with a m.zones) (none msg refl) ∙ before
zones_then m t (SysexOf lead bytes) none before = pick (nat_eq lead 0xf0) (is_reset bytes) (tuning_of bytes)
  where
    pick : (a b : Bool) (x : Option Retune) → (advance t (cond a (cond b Resets (tunes x)) Nothing) m).zones ≡ no_zones
    pick false b x = before
    pick true true x = refl
    pick true false None = before
    pick true false (Some r) = before
zones_then m t (MetaOf kind bytes) none before = before

-- the last event of a source without a fault
fine_last : Laws → (o : Options) (table : Targets) (z : ℕ) (es : List MidiEvent) (e : MidiEvent) → IsFaultless o table (es ++ e ∷ [])
    → nat_eq (port_on es e) z ≡ true → kind_behind o table false (port_at (es ++ e ∷ []) z) (length es) e ≡ None
fine_last l o table z es e faultless here =
    last_one Fine (of_port z es) (record { position = suc (length es); event = e })
    (subst (λ b. AllByRecursion Fine (of_port z es ++ with_event b (record { position = suc (length es); event = e }) [])) here
    (subst (AllByRecursion Fine) (port_more z es e) (l.fine o table (es ++ e ∷ []) z faultless))) (length es) refl
  where
    Fine : Numbered → Type 0
    Fine n = (k : ℕ) → n.position ≡ suc k → IsFine o table (port_at (es ++ e ∷ []) z) k n.event

zones_next : Laws → (o : Options) (table : Targets) (z : ℕ) (es : List MidiEvent) (e : MidiEvent) → IsFaultless o table (es ++ e ∷ [])
    → (music_on z es).zones ≡ no_zones → (music_on z (es ++ e ∷ [])).zones ≡ no_zones
zones_next l o table z es e faultless before = elim (eqb_tells (port_on es e) z) [
  | inl t ↦ ap (λ m. m.zones) (music_next z es e t.1) ∙ zones_then (music_on z es) e.tick e.what (asks_none t.0) before
  | inr t ↦ ap (λ l. (after l).music.zones) (events_same z es e t.1) ∙ before
]
  where
    port : PortEvents
    port = port_at (es ++ e ∷ []) z

    asks_none : nat_eq (port_on es e) z ≡ true → (msg : Msg) → e.what ≡ Says msg → asks (music_on z es) msg ≡ None
    asks_none here msg is =
        let m : Music = music_at port.events (length es) in
        let now : Music = music_at port.events (suc (length es)) in
        let pairs = pairs_at o (is_part o) table port (suc (length es)) in
        let tests = none_holds (message_tests z o table e.tick m now false pairs msg)
        (ap (kind_in z o table e.tick m now false pairs) (sym is) ∙ fine_last l o table z es e faultless here) in
        ap (λ x. asks x msg) (sym (music_before l.music z es e)) ∙ l.zones o m msg tests.1.1.1.1.1.1.1.0

pub no_zones_on : Laws → (o : Options) (table : Targets) (z : ℕ) (es : List MidiEvent) → IsFaultless o table es → (music_on z es).zones ≡ no_zones
no_zones_on l o table z es = by_last (λ xs. IsFaultless o table xs → (music_on z xs).zones ≡ no_zones)
    (λ xs x before faultless. zones_next l o table z xs x faultless (before (faultless_front o table xs x faultless)))
    [] es (λ faultless. refl)
