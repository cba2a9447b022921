-- A port that has taken nothing stands for the events before its first channel message, where none of them has a fault.
use Rattle.std.proofs.Common.{◌≡◌, ◌∙◌, ℕ, zero, suc, List, [], ◌∷◌, ◌++◌, Bool, true, false, cond, not, ◌&&◌, nat_eq, Option, Some, None, is_some, refl, sym, ap, subst, arith, length, drop}
use Rattle.std.specs.List.{AllByRecursion, filter}
use Rattle.std.proofs.lemmas.Bool.{and_parts, and_from, or_left, or_right}
use Rattle.mt_base.specs.Midi.{MidiWhat, Says, SysexOf, MetaOf, MidiEvent}
use Rattle.midi_model.specs.Notes.{Note}
use Rattle.midi_model.specs.Music.{Music, quiet, advance}
use Rattle.midi_model.specs.Sysex.{Wanted, Exactly, Any, is_wanted, begins, is_tuning, is_dump, is_change, tuning_of, is_reset, Retune, tunes, Doing, Resets, Nothing, doing}
use Rattle.midi_model.specs.Tuning.{untuned, tuning_after}
use Rattle.midi_model.specs.Receiver.{Receiver, start, receive, receive_all, after}
use Rattle.retune_model.specs.Options.{Options, is_drum_message}
use Rattle.retune_model.specs.Drums.{without_drums}
use Rattle.retune_model.specs.Ports.{Numbered, PortEvents, port_of, ports_after, all_zero, with_event, of_port_from, of_port, unnumbered, events_on, port_at, music_at, tick_to}
use Rattle.retune_model.specs.Faults.{Targets, TuningInSource, is_part, any_note}
use Rattle.retune_model.specs.FaultLaws.{FaultlessPorts}
use Rattle.retune_model.specs.Pairs.{Pair}
use Rattle.retune_model.specs.PortLaws.{MusicAtAPosition}
use Rattle.retune_model.specs.Rests.{past_at, pairs_at, lasts, is_within_tail}
use Rattle.retune_model.specs.SourceFaults.{is_message, has_port, ports_used, kind_in, IsFine, IsFaultless}
use Rattle.receiver.specs.Sounding.{sounding_at}
use Rattle.receiver.specs.Stands.{PlayerStands, AreFew}
use Rattle.receiver.specs.declared.player.Player.{Player}
use Rattle.lifetimes.specs.Told.{music_on, pair_holds, is_of_pair}
use Rattle.lifetimes.specs.Stands.{heard_on, sounds_on, latest_of, end_of_pair, pair_on, PortStands}
use Rattle.lifetimes.specs.declared.port.Port.{Port}
use Rattle.lifetimes.proofs.Appended.{music_there}
use Rattle.lifetimes.proofs.Taking.{listed_as}
use Rattle.lifetimes.proofs.Unheard.{no_message, unheard_port}

-- ---- a tuning message begins as one

begins_front : (ws vs : List Wanted) (bs : List ℕ) → begins (ws ++ vs) bs ≡ true → begins ws bs ≡ true
begins_front [] vs bs h = refl
begins_front (w ∷ ws) vs [] h = h
begins_front (w ∷ ws) vs (b ∷ bs) h =
    let two = and_parts (is_wanted w b) (begins (ws ++ vs) bs) h in
    and_from (is_wanted w b) (begins ws bs) two.0 (begins_front ws vs bs two.1)

dump_begins : (bs : List ℕ) → is_dump bs ≡ true → is_tuning bs ≡ true
dump_begins bs h = or_left _ _ (begins_front (Exactly 0x7e ∷ Any ∷ Exactly 0x08 ∷ []) (Exactly 1 ∷ []) bs (and_parts _ _ (and_parts _ _ h).1).0)

change_begins : (bs : List ℕ) → is_change bs ≡ true → is_tuning bs ≡ true
change_begins bs h =
    or_right (begins (Exactly 0x7e ∷ Any ∷ Exactly 0x08 ∷ []) bs) (begins (Exactly 0x7f ∷ Any ∷ Exactly 0x08 ∷ []) bs)
    (begins_front (Exactly 0x7f ∷ Any ∷ Exactly 0x08 ∷ []) (Exactly 2 ∷ []) bs (and_parts _ _ (and_parts _ _ h).1).0)

two : (b : Bool) → b ≡ true → b ≡ false → ⊥
two b x y = cc

no_tuning : (bs : List ℕ) → is_tuning bs ≡ false → tuning_of bs ≡ None
no_tuning bs h = pick (is_dump bs) (is_change bs) _ _ refl refl
  where
    pick : (d c : Bool) (x y : Retune) → is_dump bs ≡ d → is_change bs ≡ c → cond d (Some x) (cond c (Some y) None) ≡ None
    pick true c x y e f = absurd (two (is_tuning bs) (dump_begins bs e) h)
    pick false true x y e f = absurd (two (is_tuning bs) (change_begins bs f) h)
    pick false false x y e f = refl

-- ---- an event without a fault tunes nothing

abbrev TunesNothing : MidiWhat → Type 0
TunesNothing (SysexOf lead bytes) = (nat_eq lead 0xf0 && is_tuning bytes) ≡ false
TunesNothing _ = Unit {0}

fine_tunes_nothing : (z : ℕ) (o : Options) (table : Targets) (t : ℕ) (m now : Music) (ports : Bool) (pairs : List Pair) (what : MidiWhat)
    → kind_in z o table t m now ports pairs what ≡ None → TunesNothing what
fine_tunes_nothing z o table t m now ports pairs (Says msg) h = tt
fine_tunes_nothing z o table t m now ports pairs (SysexOf lead bytes) h = pick (nat_eq lead 0xf0 && is_tuning bytes) h
  where
    pick : (b : Bool) → cond b (Some TuningInSource) None ≡ None → b ≡ false
    pick true e = absurd cc
    pick false e = refl
fine_tunes_nothing z o table t m now ports pairs (MetaOf kind bytes) h = tt

tune_nothing : (o : Options) (table : Targets) (port : PortEvents) (z : ℕ) (ports : ℕ → ℕ) (k : ℕ) (es : List MidiEvent)
    → AllByRecursion (λ n. (j : ℕ) → n.position ≡ suc j → IsFine o table port j n.event) (of_port_from z ports k es)
    → AllByRecursion (λ e. TunesNothing e.what) (unnumbered (of_port_from z ports k es))
tune_nothing o table port z ports k [] h = tt
tune_nothing o table port z ports k (e ∷ es) h = pick (nat_eq (port_of ports e) z) h (tune_nothing o table port z (ports_after ports e) (suc k) es)
  where
    later : List Numbered
    later = of_port_from z (ports_after ports e) (suc k) es

    pick : (b : Bool) → AllByRecursion (λ n. (j : ℕ) → n.position ≡ suc j → IsFine o table port j n.event)
        (with_event b (record { position = suc k; event = e }) later)
        → (AllByRecursion (λ n. (j : ℕ) → n.position ≡ suc j → IsFine o table port j n.event) later
        → AllByRecursion (λ e. TunesNothing e.what) (unnumbered later))
        → AllByRecursion (λ e. TunesNothing e.what) (unnumbered (with_event b (record { position = suc k; event = e }) later))
    pick true h rest = (
      fine_tunes_nothing port.number o table e.tick (music_at port.events k) (music_at port.events (suc k)) false
          (pairs_at o (is_part o) table port (suc k)) e.what (h.0 k refl),
      rest h.1,
    )
    pick false h rest = rest h

-- ---- what such events leave of a player

abbrev IsIdle : MidiEvent → Type 0
IsIdle e = (is_message e.what ≡ false) × TunesNothing e.what

idle : (es : List MidiEvent) → AllByRecursion (λ e. is_message e.what ≡ false) es → AllByRecursion (λ e. TunesNothing e.what) es
    → AllByRecursion IsIdle es
idle [] a b = tt
idle (e ∷ es) a b = ((a.0, b.0), idle es a.1 b.1)

abbrev done : ℕ → Doing → Receiver
done t d = record { music = advance t d quiet; tuning = tuning_after quiet d untuned }

idle_still : (e : MidiEvent) → IsIdle e → receive start e ≡ start
idle_still e h = by_what e.what h.0 h.1
  where
    by_sysex : (a b : Bool) (x : Option Retune) → (a ≡ true → x ≡ None) → done e.tick (cond a (cond b Resets (tunes x)) Nothing) ≡ start
    by_sysex false b x none = refl
    by_sysex true true x none = refl
    by_sysex true false x none = ap (λ y. done e.tick (tunes y)) (none refl)

    untuning : (lead : ℕ) (bytes : List ℕ) (a t : Bool) → is_tuning bytes ≡ t → (a && t) ≡ false → a ≡ true → tuning_of bytes ≡ None
    untuning lead bytes true false is h at = no_tuning bytes is
    untuning lead bytes true true is h at = absurd cc
    untuning lead bytes false t is h at = absurd cc

    by_what : (what : MidiWhat) → is_message what ≡ false → TunesNothing what → done e.tick (doing what) ≡ start
    by_what (Says msg) a b = absurd cc
    by_what (SysexOf lead bytes) a b =
        by_sysex (nat_eq lead 0xf0) (is_reset bytes) (tuning_of bytes) (untuning lead bytes (nat_eq lead 0xf0) (is_tuning bytes) refl b)
    by_what (MetaOf kind bytes) a b = refl

all_still : (es : List MidiEvent) → AllByRecursion IsIdle es → after es ≡ start
all_still [] h = refl
all_still (e ∷ es) h = ap (λ r. receive_all r es) (idle_still e h.0) ∙ all_still es h.1

idle_too : (es : List MidiEvent) → AllByRecursion IsIdle es → AllByRecursion IsIdle (without_drums es)
idle_too [] h = tt
idle_too (e ∷ es) h = pick (not (is_drum_message e.what)) (idle_too es h.1)
  where
    pick : (b : Bool) → AllByRecursion IsIdle (without_drums es) → AllByRecursion IsIdle (cond b (e ∷ without_drums es) (without_drums es))
    pick true rest = (h.0, rest)
    pick false rest = rest

stands_still : (player : Player) (es : List MidiEvent) → after es ≡ start → PlayerStands player [] → PlayerStands player es
stands_still player es same s = record {
  channels = s.channels ∙ ap (λ (x : Receiver). x.music.channels) (sym same);
  zones = s.zones ∙ ap (λ (x : Receiver). x.music.zones) (sym same);
  begun = s.begun ∙ ap (λ (x : Receiver). length x.music.notes) (sym same);
  notes = λ c k low below. s.notes c k low below ∙ ap (λ (x : Receiver). sounding_at x.music.notes c k) (sym same);
  selected = s.selected ∙ ap (λ (x : Receiver). x.tuning.selected) (sym same);
  few = subst (λ (x : Receiver). AreFew x.music) (sym same) s.few;
}

-- ---- the port

-- no pair of a port that plays nothing has ended
no_end : MusicAtAPosition → (o : Options) (table : Targets) (es : List MidiEvent) (p : Pair)
    → has_port p.part.port (ports_used all_zero [] es) ≡ false → end_of_pair o table es p ≡ None
no_end music o table es p unheard =
    ap (λ (m : Music). latest_of o table p (drop past (filter (λ (n : Note). is_part o n.channel) m.notes)))
    (music_there music p.part.port es ∙ unheard_port p.part.port es unheard)
    ∙ ap (latest_of o table p) (nothing past)
  where
    past : ℕ
    past = past_at (is_part o) (of_port p.part.port es) (length es)

    nothing : (k : ℕ) → (let ns : List Note = [] in drop k ns ≡ ns)
    nothing zero = refl
    nothing (suc k) = refl

pub port_opens : MusicAtAPosition → FaultlessPorts → (o : Options) (table : Targets) (es : List MidiEvent) (z : ℕ) (port : Port)
    → IsFaultless o table es
    → has_port z (ports_used all_zero [] es) ≡ false → PortStands o table [] port → PortStands o table es (record port { number = z })
port_opens music fine o table es z port faultless unheard stands = record {
  player = stands_still port.player (heard_on o z es) (all_still (heard_on o z es) (heard o.keep_drums))
      (subst (PlayerStands port.player) (none_heard o.keep_drums) stands.player);
  struck = λ c k x low below part s. absurd (never c k x s);
  listed = listed_as port (sounds_on o port.number []) (sounds_on o z es)
      (λ c k low below. ap (λ (m : Music). is_part o c && is_some (sounding_at m.notes c k)) (sym (unheard_port z es unheard))) stands.listed;
  rests = λ c q t low part late.
      stands.rests c q t low part (omega arith)
      ∙ ap (is_within_tail o.tail t) (no_end music o table [] (pair_on port.number c q) refl ∙ sym (no_end music o table es (pair_on z c q) unheard));
}
  where
    mine : List MidiEvent
    mine = events_on z es

    heard : (b : Bool) → AllByRecursion IsIdle (cond b (without_drums mine) mine)
    heard b = pick b (idle mine (no_message z es unheard) (tune_nothing o table (port_at es z) z all_zero 0 es (fine o table es z faultless)))
      where
        pick : (b : Bool) → AllByRecursion IsIdle mine → AllByRecursion IsIdle (cond b (without_drums mine) mine)
        pick true h = idle_too mine h
        pick false h = h

    none_heard : (b : Bool) → cond b (without_drums (events_on port.number [])) (events_on port.number []) ≡ []
    none_heard true = refl
    none_heard false = refl

    never : (c k : ℕ) (x : ℕ × Note) → sounding_at (music_on z es).notes c k ≡ Some x → ⊥
    never c k x s = two_cases (ap (λ (m : Music). sounding_at m.notes c k) (sym (unheard_port z es unheard)) ∙ s)
      where
        two_cases : (let none : Option (ℕ × Note) = None in none ≡ Some x) → ⊥
        two_cases h = cc

-- no pair of such a port holds
pub unheld_port : MusicAtAPosition → (o : Options) (table : Targets) (es : List MidiEvent) (p : Pair)
    → has_port p.part.port (ports_used all_zero [] es) ≡ false → pair_holds o table es p ≡ false
unheld_port music o table es p unheard =
    ap (λ (m : Music). any_note (is_of_pair o table p) (filter lasting (drop past (filter (λ (n : Note). is_part o n.channel) m.notes))))
    (music_there music p.part.port es ∙ unheard_port p.part.port es unheard)
    ∙ ap (λ ns. any_note (is_of_pair o table p) (filter lasting ns)) (nothing past)
  where
    past : ℕ
    past = past_at (is_part o) (of_port p.part.port es) (length es)

    lasting : Note → Bool
    lasting = lasts o.tail (tick_to es (length es))

    nothing : (k : ℕ) → (let ns : List Note = [] in drop k ns ≡ ns)
    nothing zero = refl
    nothing (suc k) = refl
