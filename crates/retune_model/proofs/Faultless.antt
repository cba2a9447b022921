-- What a source without faults doesn't do: it sends no tuning message, sets no zone and selects no program on a retuned part.
use Rattle.std.proofs.Common.{◌≡◌, ◌≤◌, ◌<◌, ◌-◌, ℕ, suc, length, take, drop, get_or, min, List, [], ◌∷◌, ◌++◌, Bool, true, false, cond, not, ◌&&◌, ◌||◌, nat_eq, Option, Some, None, refl, ap, sym, ◌∙◌, subst, arith}
use Rattle.std.specs.List.{AllByRecursion}
use Rattle.std.proofs.lemmas.Bool.{both_ways, and_parts, and_from, or_left, or_right, le-leb, lt-ltb, eqb-true}
use Rattle.mt_base.specs.declared.event.Msg.{Msg}
use Rattle.mt_base.specs.declared.event.Msg.TheVariants.{NoteOn, NoteOff, KeyPressure, Control, Program, Pressure, Bend}
use Rattle.mt_base.specs.Midi.{MidiWhat, Says, SysexOf, MetaOf, MidiEvent}
use Rattle.mt_base.specs.Valid.{IsValidMsg, IsValidWhat, IsValidEvent}
use Rattle.midi_model.specs.Sysex.{Wanted, Exactly, Any, is_wanted, begins, key_values, changes, is_dump, is_change, tuning_of, is_reset, Retune, tunes, Doing, Plays, Resets, Tunes, Nothing, doing, is_tuning}
use Rattle.midi_model.specs.Params.{pair_eq}
use Rattle.midi_model.specs.Channel.{Role, Stored, EntryHigh, EntryLow, NrpnLow, NrpnHigh, RpnLow, RpnHigh, AllSoundOff, ResetControllers, AllNotesOff, Ignored, Selection, role, Target, Nowhere, TuningProgram, ZoneSize, Value, target_in, target}
use Rattle.midi_model.specs.Zones.{no_zones, zones_with}
use Rattle.midi_model.specs.Music.{Music, quiet, play, channel_at, asked, asked_by, asks, advance, step}
use Rattle.retune_model.specs.Options.{Options, is_retuned}
use Rattle.retune_model.specs.Plain.{is_plain_entry, is_plain, ArePlain}
use Rattle.retune_model.specs.Ports.{Numbered, PortEvents, all_zero, of_port, events_on, unnumbered, events_to, music_at, port_at, Ascend}
use Rattle.retune_model.specs.Faults.{Targets, TuningInSource, is_part, is_entry, is_selected, is_tuning_entry, is_zone_entry, is_unmapped, is_out_of_device}
use Rattle.retune_model.specs.Pairs.{Pair}
use Rattle.retune_model.specs.Rests.{pairs_at}
use Rattle.retune_model.specs.SourceFaults.{message_tests, kind_in, IsFine, IsFaultless}
use Rattle.retune_model.proofs.Events.{came, none_yet}
use Rattle.retune_model.proofs.Numbering.{ascend_from}
use Rattle.retune_model.proofs.Faulty.{none_holds, fine_ports}

-- what a message without a fault is not
pub record IsFineMessage (o : Options) (table : Targets) (m : Music) (t : ℕ) (msg : Msg) : Type 0 where
  pub mapped : is_unmapped o table t msg ≡ false
  pub in_device : is_out_of_device o table t msg ≡ false
  pub tuning : is_tuning_entry o m msg ≡ false
  pub zone : is_zone_entry o m msg ≡ false

-- and what an event without one is not
abbrev pub IsFineEvent : Options → Targets → Music → ℕ → MidiWhat → Type 0
IsFineEvent o table m t (Says msg) = IsFineMessage o table m t msg
IsFineEvent o table m t (SysexOf lead bytes) = (nat_eq lead 0xf0 && is_tuning bytes) ≡ false
IsFineEvent o table m t (MetaOf kind bytes) = Unit {0}

-- of the events of a port, one after the other
abbrev pub AreFineFrom : Options → Targets → Music → List MidiEvent → Type 0
AreFineFrom o table m [] = Unit {0}
AreFineFrom o table m (e ∷ es) = IsFineEvent o table m e.tick e.what × AreFineFrom o table (step m e) es

fine_event : (z : ℕ) (o : Options) (table : Targets) (m after : Music) (t : ℕ) (ports : Bool) (pairs : List Pair) (w : MidiWhat) → kind_in z o table t m after ports pairs w ≡ None → IsFineEvent o table m t w
fine_event z o table m after t ports pairs (Says msg) e =
    let h = none_holds (message_tests z o table t m after ports pairs msg) e in
    record { mapped = h.0; in_device = h.1.0; tuning = h.1.1.1.1.1.1.0; zone = h.1.1.1.1.1.1.1.0 }
fine_event z o table m after t ports pairs (SysexOf lead bytes) e = pick (nat_eq lead 0xf0 && is_tuning bytes) e
  where
    pick : (b : Bool) → cond b (Some TuningInSource) None ≡ None → b ≡ false
    pick true h = absurd cc
    pick false h = refl
fine_event z o table m after t ports pairs (MetaOf kind bytes) e = tt

-- positions to a list
fine_from : (o : Options) (table : Targets) (music : ℕ → Music) (m : Music) (a : ℕ) (ns : List Numbered) → Ascend a ns → ((k : ℕ) → a ≤ k → music k ≡ play m (events_to k ns))
    → AllByRecursion (λ n. (k : ℕ) → n.position ≡ suc k → IsFineEvent o table (music k) n.event.tick n.event.what) ns → AreFineFrom o table m (unnumbered ns)
fine_from o table music m a [] up at h = tt
fine_from o table music m a (n ∷ ns) up at h =
    let k : ℕ = n.position - 1 in
    let low : a < n.position = up.0 in
    let here : music k ≡ m = at k (omega (arith, low)) ∙ ap (play m) (none_yet k k (n ∷ ns) (omega (arith, low), up.1) (omega arith)) in (
      subst (λ x. IsFineEvent o table x n.event.tick n.event.what) here (h.0 k (omega (arith, low))),
      fine_from o table music (step m n.event) n.position ns up.1 (λ j l. at j (omega (arith, low, l)) ∙ ap (play m) (came j n ns (le-leb n.position j l))) h.1,
    )

-- ---- the selected parameter, read off what data entry writes to
program_true : (p : ℕ × ℕ) → target_in true p ≡ TuningProgram → pair_eq p (0, 3) ≡ true
program_true p e = pick (pair_eq p (127, 127)) (pair_eq p (0, 3)) (pair_eq p (0, 6)) e
  where
    pick : (a b c : Bool) → cond a Nowhere (cond b TuningProgram (cond c ZoneSize (Value (record { registered = true; high = p.0; low = p.1 })))) ≡ TuningProgram → b ≡ true
    pick true b c h = absurd cc
    pick false true c h = refl
    pick false false true h = absurd cc
    pick false false false h = absurd cc

zone_true : (p : ℕ × ℕ) → target_in true p ≡ ZoneSize → pair_eq p (0, 6) ≡ true
zone_true p e = pick (pair_eq p (127, 127)) (pair_eq p (0, 3)) (pair_eq p (0, 6)) e
  where
    pick : (a b c : Bool) → cond a Nowhere (cond b TuningProgram (cond c ZoneSize (Value (record { registered = true; high = p.0; low = p.1 })))) ≡ ZoneSize → c ≡ true
    pick true b c h = absurd cc
    pick false true c h = absurd cc
    pick false false true h = refl
    pick false false false h = absurd cc

program_false : (p : ℕ × ℕ) (v : Target) → target_in false p ≡ v → (v ≡ TuningProgram → ⊥) × (v ≡ ZoneSize → ⊥)
program_false p v e = pick (pair_eq p (127, 127)) v e
  where
    pick : (a : Bool) (w : Target) → cond a Nowhere (Value (record { registered = false; high = p.0; low = p.1 })) ≡ w → (w ≡ TuningProgram → ⊥) × (w ≡ ZoneSize → ⊥)
    pick true w h = ((λ k. absurd cc), (λ k. absurd cc))
    pick false w h = ((λ k. absurd cc), (λ k. absurd cc))

program_selected : (s : Selection) → target s ≡ TuningProgram → is_selected 3 s ≡ true
program_selected s e = pick s.registered e
  where
    pick : (b : Bool) → cond b (target_in true s.rpn) (target_in false s.nrpn) ≡ TuningProgram → (b && pair_eq s.rpn (0, 3)) ≡ true
    pick true h = program_true s.rpn h
    pick false h = absurd ((program_false s.nrpn TuningProgram h).0 refl)

zone_selected : (s : Selection) → target s ≡ ZoneSize → is_selected 6 s ≡ true
zone_selected s e = pick s.registered e
  where
    pick : (b : Bool) → cond b (target_in true s.rpn) (target_in false s.nrpn) ≡ ZoneSize → (b && pair_eq s.rpn (0, 6)) ≡ true
    pick true h = zone_true s.rpn h
    pick false h = absurd ((program_false s.nrpn ZoneSize h).1 refl)

-- ---- data entry is plain
entry_plain : (b : Bool) (r : Role) (s : Selection) → (b && (is_entry r && (is_selected 3 s || is_selected 4 s))) ≡ false → is_plain_entry b r (target s) ≡ true
entry_plain false r s h = refl
entry_plain true Stored s h = refl
entry_plain true EntryLow s h = refl
entry_plain true NrpnLow s h = refl
entry_plain true NrpnHigh s h = refl
entry_plain true RpnLow s h = refl
entry_plain true RpnHigh s h = refl
entry_plain true AllSoundOff s h = refl
entry_plain true ResetControllers s h = refl
entry_plain true AllNotesOff s h = refl
entry_plain true Ignored s h = refl
entry_plain true EntryHigh s h = pick (target s) refl
  where
    pick : (w : Target) → target s ≡ w → is_plain_entry true EntryHigh w ≡ true
    pick Nowhere e = refl
    pick TuningProgram e = absurd (both_ways (is_selected 3 s || is_selected 4 s) h (or_left (is_selected 3 s) (is_selected 4 s) (program_selected s e)))
    pick ZoneSize e = refl
    pick (Value p) e = refl

-- ---- a tuning message begins as one
begins_front : (ws vs : List Wanted) (bs : List ℕ) → begins (ws ++ vs) bs ≡ true → begins ws bs ≡ true
begins_front [] vs bs h = refl
begins_front (w ∷ ws) vs [] h = h
begins_front (w ∷ ws) vs (b ∷ bs) h =
    let two = and_parts (is_wanted w b) (begins (ws ++ vs) bs) h in
    and_from (is_wanted w b) (begins ws bs) two.0 (begins_front ws vs bs two.1)

dump_tunes : (bs : List ℕ) → is_dump bs ≡ true → is_tuning bs ≡ true
dump_tunes bs h =
    let a = and_parts _ _ h in
    let b = and_parts _ _ a.1 in
    or_left _ _ (begins_front (Exactly 0x7e ∷ Any ∷ Exactly 0x08 ∷ []) (Exactly 1 ∷ []) bs b.0)

change_tunes : (bs : List ℕ) → is_change bs ≡ true → is_tuning bs ≡ true
change_tunes bs h =
    let a = and_parts _ _ h in
    let b = and_parts _ _ a.1 in
    or_right (begins (Exactly 0x7e ∷ Any ∷ Exactly 0x08 ∷ []) bs) (begins (Exactly 0x7f ∷ Any ∷ Exactly 0x08 ∷ []) bs) (begins_front (Exactly 0x7f ∷ Any ∷ Exactly 0x08 ∷ []) (Exactly 2 ∷ []) bs b.0)

pub no_tuning : (bs : List ℕ) → is_tuning bs ≡ false → tuning_of bs ≡ None
no_tuning bs h =
    let x : Retune = record { program = get_or bs 4 0; keys = key_values 0 (take 384 (drop 21 bs)) } in
    let y : Retune = record { program = get_or bs 4 0; keys = changes (take (length bs - 7) (drop 6 bs)) } in
    pick (is_dump bs) (is_change bs) x y refl refl
  where
    pick : (d c : Bool) (x y : Retune) → is_dump bs ≡ d → is_change bs ≡ c → cond d (Some x) (cond c (Some y) None) ≡ None
    pick true c x y e f = absurd (both_ways (is_tuning bs) h (dump_tunes bs e))
    pick false true x y e f = absurd (both_ways (is_tuning bs) h (change_tunes bs f))
    pick false false x y e f = refl

-- ---- an event without a fault is plain
plain_message : (o : Options) (table : Targets) (m : Music) (t : ℕ) (msg : Msg) → IsFineMessage o table m t msg → IsValidMsg msg → is_plain (is_part o) m (Plays msg) ≡ true
plain_message o table m t (Control c n v) f valid = entry_plain (is_part o c) (role n) (channel_at m c).selection f.tuning
plain_message o table m t (NoteOn c k v) f valid = lt-ltb k 128 (omega (arith, valid.1))
plain_message o table m t (NoteOff c k v) f valid = refl
plain_message o table m t (KeyPressure c k v) f valid = refl
plain_message o table m t (Program c p) f valid = refl
plain_message o table m t (Pressure c v) f valid = refl
plain_message o table m t (Bend c v) f valid = refl

plain_sysex : (part : ℕ → Bool) (m : Music) (lead : ℕ) (bs : List ℕ) (b : Bool) → nat_eq lead 240 ≡ b → (b && is_tuning bs) ≡ false
    → is_plain part m (cond b (cond (is_reset bs) Resets (tunes (tuning_of bs))) Nothing) ≡ true
plain_sysex part m lead bs false e h = refl
plain_sysex part m lead bs true e h = inner (is_tuning bs) refl h
  where
    last : (r : Bool) (x : Option Retune) → x ≡ None → is_plain part m (cond r Resets (tunes x)) ≡ true
    last true x k = refl
    last false None k = refl
    last false (Some y) k = absurd cc

    inner : (u : Bool) → is_tuning bs ≡ u → u ≡ false → is_plain part m (cond (is_reset bs) Resets (tunes (tuning_of bs))) ≡ true
    inner true k l = absurd cc
    inner false k l = last (is_reset bs) (tuning_of bs) (no_tuning bs k)

plain_what : (o : Options) (table : Targets) (m : Music) (t : ℕ) (w : MidiWhat) → IsFineEvent o table m t w → IsValidWhat w → is_plain (is_part o) m (doing w) ≡ true
plain_what o table m t (Says msg) e valid = plain_message o table m t msg e valid
plain_what o table m t (SysexOf lead bs) e valid = plain_sysex (is_part o) m lead bs (nat_eq lead 240) refl e
plain_what o table m t (MetaOf kind bs) e valid = refl

pub all_plain : (o : Options) (table : Targets) (m : Music) (es : List MidiEvent) → AllByRecursion IsValidEvent es → AreFineFrom o table m es → ArePlain (is_part o) m es
all_plain o table m [] valid h = tt
all_plain o table m (e ∷ es) valid h = (plain_what o table m e.tick e.what h.0 valid.0.what, all_plain o table (step m e) es valid.1 h.1)

-- ---- it sets no zone
part_of_edge : (o : Options) (c : ℕ) → (nat_eq c 0 || nat_eq c 15) ≡ true → is_part o c ≡ true
part_of_edge o c h = pick (nat_eq c 0) refl
  where
    at : (x : ℕ) → c ≡ x → is_retuned o.keep_drums x ≡ true → is_part o c ≡ true
    at x e k = ap (is_part o) e ∙ k

    none : (b : Bool) → not (b && false) ≡ true
    none true = refl
    none false = refl

    pick : (a : Bool) → nat_eq c 0 ≡ a → is_part o c ≡ true
    pick true e = at 0 (eqb-true c 0 e) (none o.keep_drums)
    pick false e = at 15 (eqb-true c 15 (ap (λ a. a || nat_eq c 15) (sym e) ∙ h)) (none o.keep_drums)

asks_none : (o : Options) (m : Music) (c n v : ℕ) (r : Role) → (is_part o c && (is_entry r && is_selected 6 (channel_at m c).selection)) ≡ false → asked_by m c v r ≡ None
asks_none o m c n v Stored h = refl
asks_none o m c n v EntryLow h = refl
asks_none o m c n v NrpnLow h = refl
asks_none o m c n v NrpnHigh h = refl
asks_none o m c n v RpnLow h = refl
asks_none o m c n v RpnHigh h = refl
asks_none o m c n v AllSoundOff h = refl
asks_none o m c n v ResetControllers h = refl
asks_none o m c n v AllNotesOff h = refl
asks_none o m c n v Ignored h = refl
asks_none o m c n v EntryHigh h = pick (target (channel_at m c).selection) refl
  where
    edge : (b : Bool) → (nat_eq c 0 || nat_eq c 15) ≡ b → is_selected 6 (channel_at m c).selection ≡ true → cond {A = Option (ℕ × ℕ)} b (Some (c, min v 15)) None ≡ None
    edge true e s = absurd (both_ways (is_part o c && is_selected 6 (channel_at m c).selection) h (and_from (is_part o c) (is_selected 6 (channel_at m c).selection) (part_of_edge o c e) s))
    edge false e s = refl

    pick : (w : Target) → target (channel_at m c).selection ≡ w → asked c v w ≡ None
    pick Nowhere e = refl
    pick TuningProgram e = refl
    pick ZoneSize e = edge (nat_eq c 0 || nat_eq c 15) refl (zone_selected (channel_at m c).selection e)
    pick (Value p) e = refl

pub message_asks_none : (o : Options) (m : Music) (msg : Msg) → is_zone_entry o m msg ≡ false → asks m msg ≡ None
message_asks_none o m (Control c n v) h = asks_none o m c n v (role n) h
message_asks_none o m (NoteOn c k v) h = refl
message_asks_none o m (NoteOff c k v) h = refl
message_asks_none o m (KeyPressure c k v) h = refl
message_asks_none o m (Program c p) h = refl
message_asks_none o m (Pressure c v) h = refl
message_asks_none o m (Bend c v) h = refl

zones_advance : (m : Music) (t : ℕ) (d : Doing) → ((msg : Msg) → d ≡ Plays msg → asks m msg ≡ None) → m.zones ≡ no_zones → (advance t d m).zones ≡ no_zones
zones_advance m t (Plays msg) h z = ap (λ a. zones_with a m.zones) (h msg refl) ∙ z
zones_advance m t Resets h z = refl
zones_advance m t (Tunes r) h z = z
zones_advance m t Nothing h z = z

pub sysex_no_play : (lead : ℕ) (bs : List ℕ) (msg : Msg) → doing (SysexOf lead bs) ≡ Plays msg → ⊥
sysex_no_play lead bs msg e = pick (nat_eq lead 240) (is_reset bs) (tuning_of bs) e
  where
    pick : (a b : Bool) (x : Option Retune) → cond a (cond b Resets (tunes x)) Nothing ≡ Plays msg → ⊥
    pick false b x h = absurd cc
    pick true true x h = absurd cc
    pick true false None h = absurd cc
    pick true false (Some y) h = absurd cc

zones_what : (o : Options) (table : Targets) (m : Music) (t : ℕ) (w : MidiWhat) → IsFineEvent o table m t w → m.zones ≡ no_zones → (advance t (doing w) m).zones ≡ no_zones
zones_what o table m t (Says msg) e z = zones_advance m t (Plays msg) (λ x h. subst (λ y. asks m y ≡ None) (same h) (message_asks_none o m msg e.zone)) z
  where
    message_of : Doing → Msg
    message_of (Plays x) = x
    message_of _ = msg

    same : {x : Msg} → Plays msg ≡ Plays x → msg ≡ x
    same h = ap message_of h
zones_what o table m t (SysexOf lead bs) e z = zones_advance m t (doing (SysexOf lead bs)) (λ x h. absurd (sysex_no_play lead bs x h)) z
zones_what o table m t (MetaOf kind bs) e z = z

pub no_zones_step : (o : Options) (table : Targets) (m : Music) (e : MidiEvent) → IsFineEvent o table m e.tick e.what → m.zones ≡ no_zones → (step m e).zones ≡ no_zones
no_zones_step o table m e h z = zones_what o table m e.tick e.what h z

-- ---- each port of a source without a fault
fine_at : (o : Options) (table : Targets) (port : PortEvents) (ns : List Numbered) → AllByRecursion (λ n. (k : ℕ) → n.position ≡ suc k → IsFine o table port k n.event) ns
    → AllByRecursion (λ n. (k : ℕ) → n.position ≡ suc k → IsFineEvent o table (music_at port.events k) n.event.tick n.event.what) ns
fine_at o table port [] h = tt
fine_at o table port (n ∷ ns) h =
    ((λ k e. fine_event port.number o table (music_at port.events k) (music_at port.events (suc k)) n.event.tick false (pairs_at o (is_part o) table port (suc k)) n.event.what (h.0 k e)), fine_at o table port ns h.1)

pub port_fine : (o : Options) (table : Targets) (es : List MidiEvent) (z : ℕ) → IsFaultless o table es → AreFineFrom o table quiet (events_on z es)
port_fine o table es z fine =
    fine_from o table (music_at (of_port z es)) quiet 0 (of_port z es) (ascend_from z all_zero 0 es) (λ k l. refl) (fine_at o table (port_at es z) (of_port z es) (fine_ports o table es z fine))
