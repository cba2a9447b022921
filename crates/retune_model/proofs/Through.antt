-- Each port of an output by blocks is what its rule makes of the port's events.
use Rattle.std.proofs.Common.{◌≡◌, ℕ, zero, suc, List, [], ◌∷◌, ◌++◌, Bool, true, false, cond, None, refl, ap, sym, ◌∙◌, subst, map, inl, inr, nat_eq}
use Rattle.std.specs.Prelude.{unwrap_or}
use Rattle.std.specs.List.{AllByRecursion}
use Rattle.std.proofs.Math.Path.{fun_ext}
use Rattle.std.proofs.lemmas.Bool.{cases_eq, eqb-true, eq-eqb, ne_eqb, cond-true, cond-false}
use Rattle.mt_base.specs.declared.event.Msg.{Msg}
use Rattle.mt_base.specs.declared.event.Msg.TheVariants.{NoteOn, NoteOff, KeyPressure, Control, Program, Pressure, Bend}
use Rattle.mt_base.specs.Midi.{MidiWhat, Says, SysexOf, MetaOf, MidiEvent}
use Rattle.midi_model.specs.Sysex.{Doing, Plays, Resets, Tunes, Nothing, doing}
use Rattle.retune_model.specs.Ports.{Numbered, NamesNoOther, named_port, port_of, ports_after, ports_from, with_event, of_port_from}
use Rattle.retune_model.specs.Blocks.{Group, Selects, Sends, events_of, all_events, Block, written}
use Rattle.retune_model.specs.Routes.{translated, Setup, sends, selects, setup_at, dump_before, dump_behind, dump_block, Live, Told, change_due, live_before, live_block}
use Rattle.retune_model.proofs.Fronts.{all_append}
use Rattle.retune_model.specs.PortOutput.{through, kept_for, through_ports_from, IsBeside}

-- ---- the events of a port, without positions
abbrev on : ℕ → (ℕ → ℕ) → List MidiEvent → List MidiEvent
on z ports [] = []
on z ports (e ∷ es) = cond (nat_eq (port_of ports e) z) (e ∷ on z (ports_after ports e) es) (on z (ports_after ports e) es)

pub on_is : (z : ℕ) (ports : ℕ → ℕ) (k : ℕ) (es : List MidiEvent) → map (λ (n : Numbered). n.event) (of_port_from z ports k es) ≡ on z ports es
on_is z ports k [] = refl
on_is z ports k (e ∷ es) = pick (nat_eq (port_of ports e) z) (on_is z (ports_after ports e) (suc k) es)
  where
    pick : (b : Bool) → map (λ (n : Numbered). n.event) (of_port_from z (ports_after ports e) (suc k) es) ≡ on z (ports_after ports e) es
        → map (λ (n : Numbered). n.event) (with_event b (record { position = suc k; event = e }) (of_port_from z (ports_after ports e) (suc k) es)) ≡ cond b (e ∷ on z (ports_after ports e) es) (on z (ports_after ports e) es)
    pick true r = ap (λ xs. e ∷ xs) r
    pick false r = r

on_append : (z : ℕ) (ports : ℕ → ℕ) (xs ys : List MidiEvent) → on z ports (xs ++ ys) ≡ on z ports xs ++ on z (ports_from ports xs) ys
on_append z ports [] ys = refl
on_append z ports (x ∷ xs) ys = pick (nat_eq (port_of ports x) z) (on_append z (ports_after ports x) xs ys)
  where
    pick : (b : Bool) → on z (ports_after ports x) (xs ++ ys) ≡ on z (ports_after ports x) xs ++ on z (ports_from (ports_after ports x) xs) ys
        → cond b (x ∷ on z (ports_after ports x) (xs ++ ys)) (on z (ports_after ports x) (xs ++ ys)) ≡ cond b (x ∷ on z (ports_after ports x) xs) (on z (ports_after ports x) xs) ++ on z (ports_from (ports_after ports x) xs) ys
    pick true r = ap (λ l. x ∷ l) r
    pick false r = r

-- what names no port leaves the table
no_name : (ports : ℕ → ℕ) (e : MidiEvent) → named_port e.what ≡ None → ports_after ports e ≡ ports
no_name ports e h = fun_ext (λ t. pick (nat_eq t e.track) t refl)
  where
    pick : (b : Bool) (t : ℕ) → nat_eq t e.track ≡ b → cond b (port_of ports e) (ports t) ≡ ports t
    pick false t g = refl
    pick true t g = ap (λ x. unwrap_or x (ports e.track)) h ∙ ap ports (sym (eqb-true t e.track g))

-- ---- the events of a block are all of one port
record IsOf (ports : ℕ → ℕ) (e : MidiEvent) (block : List MidiEvent) : Type 0 where
  own : (z : ℕ) → port_of ports e ≡ z → on z ports block ≡ block
  other : (z : ℕ) → (port_of ports e ≡ z → ⊥) → on z ports block ≡ []
  after : ports_from ports block ≡ ports_after ports e

plain_own : (ports : ℕ → ℕ) (track z : ℕ) → ports track ≡ z → (ws : List MidiEvent) → AllByRecursion (λ x. x.track ≡ track) ws → AllByRecursion (λ x. named_port x.what ≡ None) ws → on z ports ws ≡ ws
plain_own ports track z h [] a b = refl
plain_own ports track z h (x ∷ ws) a b =
    let here : port_of ports x ≡ z = ap (λ y. unwrap_or y (ports x.track)) b.0 ∙ ap ports a.0 ∙ h in
    cond-true (nat_eq (port_of ports x) z) (x ∷ on z (ports_after ports x) ws) (on z (ports_after ports x) ws) (eq-eqb (port_of ports x) z here)
    ∙ ap (λ (p : ℕ → ℕ). x ∷ on z p ws) (no_name ports x b.0)
    ∙ ap (λ l. x ∷ l) (plain_own ports track z h ws a.1 b.1)

plain_other : (ports : ℕ → ℕ) (track z : ℕ) → (ports track ≡ z → ⊥) → (ws : List MidiEvent) → AllByRecursion (λ x. x.track ≡ track) ws → AllByRecursion (λ x. named_port x.what ≡ None) ws → on z ports ws ≡ []
plain_other ports track z h [] a b = refl
plain_other ports track z h (x ∷ ws) a b =
    let here : port_of ports x ≡ ports track = ap (λ y. unwrap_or y (ports x.track)) b.0 ∙ ap ports a.0 in
    cond-false (nat_eq (port_of ports x) z) (x ∷ on z (ports_after ports x) ws) (on z (ports_after ports x) ws) (ne_eqb (port_of ports x) z (λ e. h (sym here ∙ e)))
    ∙ ap (λ (p : ℕ → ℕ). on z p ws) (no_name ports x b.0)
    ∙ plain_other ports track z h ws a.1 b.1

plain_after : (ports : ℕ → ℕ) (ws : List MidiEvent) → AllByRecursion (λ x. named_port x.what ≡ None) ws → ports_from ports ws ≡ ports
plain_after ports [] b = refl
plain_after ports (x ∷ ws) b = ap (λ (p : ℕ → ℕ). ports_from p ws) (no_name ports x b.0) ∙ plain_after ports ws b.1

of_block : (ports : ℕ → ℕ) (e : MidiEvent) (ws : List MidiEvent) → IsBeside e ws → IsOf ports e ws
of_block ports e ws h = elim h.names [
  | inl plain ↦
      let here : port_of ports e ≡ ports e.track = ap (λ y. unwrap_or y (ports e.track)) plain.0 in
      record {
        own = λ z s. plain_own ports e.track z (sym here ∙ s) ws h.in_track plain.1;
        other = λ z n. plain_other ports e.track z (λ s. n (here ∙ s)) ws h.in_track plain.1;
        after = plain_after ports ws plain.1 ∙ sym (no_name ports e plain.0);
      }
  | inr same ↦ subst (λ (l : List MidiEvent). IsOf ports e l) (sym same) (record {
    own = λ z s. cond-true (nat_eq (port_of ports e) z) (e ∷ []) [] (eq-eqb (port_of ports e) z s);
    other = λ z n. cond-false (nat_eq (port_of ports e) z) (e ∷ []) [] (ne_eqb (port_of ports e) z n);
    after = refl;
  })
]

-- ---- all blocks
pub through_on : {S : Type 0} (block : ℕ → S → Numbered → List MidiEvent) (next : ℕ → S → Numbered → S) → ((z : ℕ) (s : S) (n : Numbered) → IsBeside n.event (block z s n))
    → (z : ℕ) (ports : ℕ → ℕ) (k : ℕ) (s : ℕ → S) (es : List MidiEvent) → on z ports (through_ports_from block next ports k s es) ≡ through (block z) (next z) (s z) (of_port_from z ports k es)
through_on block next beside z ports k s [] = refl
through_on {S} block next beside z ports k s (e ∷ es) =
    let w : ℕ = port_of ports e in
    let n : Numbered = record { position = suc k; event = e } in
    let ws : List MidiEvent = block w (s w) n in
    let kept : ℕ → S = kept_for w (next w (s w) n) s in
    let rest : List MidiEvent = through_ports_from block next (ports_after ports e) (suc k) kept es in
    let later : List Numbered = of_port_from z (ports_after ports e) (suc k) es in
    let is : IsOf ports e ws = of_block ports e ws (beside w (s w) n) in
    let ih : on z (ports_after ports e) rest ≡ through (block z) (next z) (kept z) later = through_on block next beside z (ports_after ports e) (suc k) kept es in
    let split : on z ports (ws ++ rest) ≡ on z ports ws ++ through (block z) (next z) (kept z) later =
    on_append z ports ws rest ∙ ap (λ (p : ℕ → ℕ). on z ports ws ++ on z p rest) is.after ∙ ap (λ l. on z ports ws ++ l) ih in
    split ∙ elim (cases_eq w z) [
      | inl same ↦
          ap (λ l. l ++ through (block z) (next z) (kept z) later) (is.own z same ∙ ap (λ y. block y (s y) n) same)
          ∙ ap (λ (x : S). block z (s z) n ++ through (block z) (next z) x later) (cond-true (nat_eq z w) (next w (s w) n) (s z) (eq-eqb z w (sym same)) ∙ ap (λ y. next y (s y) n) same)
          ∙ sym (ap (λ b. through (block z) (next z) (s z) (with_event b n later)) (eq-eqb w z same))
      | inr apart ↦
          ap (λ l. l ++ through (block z) (next z) (kept z) later) (is.other z apart)
          ∙ ap (λ (x : S). through (block z) (next z) x later) (cond-false (nat_eq z w) (next w (s w) n) (s z) (ne_eqb z w (λ g. apart (sym g))))
          ∙ sym (ap (λ b. through (block z) (next z) (s z) (with_event b n later)) (ne_eqb w z apart))
    ]

-- ---- blocks of groups
pub through_translated : {S : Type 0} (block : S → MidiEvent → Block) (next : S → MidiEvent → S) (s : S) (ns : List Numbered)
    → through (λ x (n : Numbered). written (block x n.event)) (λ x (n : Numbered). next x n.event) s ns ≡ translated block next s (map (λ (n : Numbered). n.event) ns)
through_translated block next s [] = refl
through_translated block next s (n ∷ ns) = ap (λ l. written (block s n.event) ++ l) (through_translated block next (next s n.event) ns)

-- all groups stand in a track
abbrev InTrack : ℕ → List Group → Type 0
InTrack track [] = Unit {0}
InTrack track (Selects t u c p ∷ gs) = (u ≡ track) × InTrack track gs
InTrack track (Sends t u bytes ∷ gs) = (u ≡ track) × InTrack track gs

in_append : (track : ℕ) (xs ys : List Group) → InTrack track xs → InTrack track ys → InTrack track (xs ++ ys)
in_append track [] ys h k = k
in_append track (Selects t u c p ∷ xs) ys h k = (h.0, in_append track xs ys h.1 k)
in_append track (Sends t u bytes ∷ xs) ys h k = (h.0, in_append track xs ys h.1 k)

groups_in : (track : ℕ) (gs : List Group) → InTrack track gs → AllByRecursion (λ x. x.track ≡ track) (all_events gs)
groups_in track [] h = tt
groups_in track (Selects t u c p ∷ gs) h = all_append (λ x. x.track ≡ track) (events_of (Selects t u c p)) (all_events gs) (h.0, (h.0, (h.0, (h.0, (h.0, tt))))) (groups_in track gs h.1)
groups_in track (Sends t u bytes ∷ gs) h = (h.0, groups_in track gs h.1)

groups_plain : (gs : List Group) → AllByRecursion (λ x. named_port x.what ≡ None) (all_events gs)
groups_plain [] = tt
groups_plain (Selects t u c p ∷ gs) = all_append (λ x. named_port x.what ≡ None) (events_of (Selects t u c p)) (all_events gs) (refl, (refl, (refl, (refl, (refl, tt))))) (groups_plain gs)
groups_plain (Sends t u bytes ∷ gs) = (refl, groups_plain gs)

sends_in : (t track : ℕ) (bs : List (List ℕ)) → InTrack track (sends t track bs)
sends_in t track [] = tt
sends_in t track (b ∷ bs) = (refl, sends_in t track bs)

selects_in : (t track p : ℕ) (cs : List ℕ) → InTrack track (selects t track p cs)
selects_in t track p [] = tt
selects_in t track p (c ∷ cs) = (refl, selects_in t track p cs)

setup_in : (s : Setup) (e : MidiEvent) → InTrack e.track (setup_at s e)
setup_in s e = in_append e.track (sends e.tick e.track s.dumps) (selects e.tick e.track s.program s.channels) (sends_in e.tick e.track s.dumps) (selects_in e.tick e.track s.program s.channels)

before_in : (s : Setup) (b : Bool) (e : MidiEvent) (d : Doing) → InTrack e.track (dump_before s b e d)
before_in s false e (Plays msg) = setup_in s e
before_in s true e d = tt
before_in s false e Resets = tt
before_in s false e (Tunes r) = tt
before_in s false e Nothing = tt

behind_in : (s : Setup) (b : Bool) (e : MidiEvent) (d : Doing) → InTrack e.track (dump_behind s b e d)
behind_in s true e Resets = setup_in s e
behind_in s false e d = tt
behind_in s true e (Plays msg) = tt
behind_in s true e (Tunes r) = tt
behind_in s true e Nothing = tt

due_in : (l : Live) (s : Told) (e : MidiEvent) (msg : Msg) → InTrack e.track (change_due l s e msg)
due_in l s e (NoteOn c k zero) = tt
due_in l s e (NoteOn c k (suc v)) = pick _
  where
    pick : (b : Bool) → InTrack e.track (cond b (Sends e.tick e.track (l.change k) ∷ []) [])
    pick true = (refl, tt)
    pick false = tt
due_in l s e (NoteOff c k v) = tt
due_in l s e (KeyPressure c k v) = tt
due_in l s e (Control c n v) = tt
due_in l s e (Program c p) = tt
due_in l s e (Pressure c v) = tt
due_in l s e (Bend c v) = tt

live_before_in : (l : Live) (s : Told) (e : MidiEvent) (d : Doing) → InTrack e.track (live_before l s e d)
live_before_in l s e (Plays msg) = in_append e.track (dump_before l.setup s.begun e (Plays msg)) (change_due l s e msg) (before_in l.setup s.begun e (Plays msg)) (due_in l s e msg)
live_before_in l s e Resets = tt
live_before_in l s e (Tunes r) = tt
live_before_in l s e Nothing = tt

around : (before behind : Doing → List Group) (e : MidiEvent) → before Nothing ≡ [] → behind Nothing ≡ [] → InTrack e.track (before (doing e.what)) → InTrack e.track (behind (doing e.what))
    → IsBeside e (all_events (before (doing e.what)) ++ e ∷ all_events (behind (doing e.what)))
around before behind e none none2 h k = by_what e.what refl
  where
    tracks : AllByRecursion (λ x. x.track ≡ e.track) (all_events (before (doing e.what)) ++ e ∷ all_events (behind (doing e.what)))
    tracks = all_append (λ x. x.track ≡ e.track) (all_events (before (doing e.what))) (e ∷ all_events (behind (doing e.what))) (groups_in e.track (before (doing e.what)) h) (refl, groups_in e.track (behind (doing e.what)) k)

    plain : named_port e.what ≡ None → IsBeside e (all_events (before (doing e.what)) ++ e ∷ all_events (behind (doing e.what)))
    plain g = record {
      in_track = all_append (λ x. x.track ≡ e.track) (all_events (before (doing e.what))) (e ∷ all_events (behind (doing e.what))) (groups_in e.track (before (doing e.what)) h) (refl, groups_in e.track (behind (doing e.what)) k);
      names = inl (g, all_append (λ x. named_port x.what ≡ None) (all_events (before (doing e.what))) (e ∷ all_events (behind (doing e.what))) (groups_plain (before (doing e.what))) (g, groups_plain (behind (doing e.what))));
    }

    by_what : (w : MidiWhat) → e.what ≡ w → IsBeside e (all_events (before (doing e.what)) ++ e ∷ all_events (behind (doing e.what)))
    by_what (Says msg) g = plain (ap named_port g)
    by_what (SysexOf lead bytes) g = plain (ap named_port g)
    by_what (MetaOf kind bytes) g = record {
      in_track = tracks;
      names = inr (ap (λ d. all_events (before d) ++ e ∷ all_events (behind d)) (ap doing g) ∙ ap (λ gs. all_events gs ++ e ∷ all_events (behind Nothing)) none ∙ ap (λ gs. e ∷ all_events gs) none2);
    }

pub dump_beside : (s : Setup) (b : Bool) (e : MidiEvent) → IsBeside e (written (dump_block s b e))
dump_beside s b e = around (λ d. dump_before s b e d) (λ d. dump_behind s b e d) e (none b) (none2 b) (before_in s b e (doing e.what)) (behind_in s b e (doing e.what))
  where
    none : (c : Bool) → dump_before s c e Nothing ≡ []
    none true = refl
    none false = refl

    none2 : (c : Bool) → dump_behind s c e Nothing ≡ []
    none2 true = refl
    none2 false = refl

pub live_beside : (l : Live) (s : Told) (e : MidiEvent) → IsBeside e (written (live_block l s e))
live_beside l s e = around (λ d. live_before l s e d) (λ d. dump_behind l.setup s.begun e d) e refl (none2 s.begun) (live_before_in l s e (doing e.what)) (behind_in l.setup s.begun e (doing e.what))
  where
    none2 : (c : Bool) → dump_behind l.setup c e Nothing ≡ []
    none2 true = refl
    none2 false = refl

-- ---- a file of port 0 alone
zero_next : (ports : ℕ → ℕ) (e : MidiEvent) → ((t : ℕ) → ports t ≡ 0) → unwrap_or (named_port e.what) 0 ≡ 0 → (t : ℕ) → ports_after ports e t ≡ 0
zero_next ports e z h t = pick (nat_eq t e.track)
  where
    pick : (b : Bool) → cond b (port_of ports e) (ports t) ≡ 0
    pick true = ap (unwrap_or (named_port e.what)) (z e.track) ∙ h
    pick false = z t

pub through_zero : {S : Type 0} (block : ℕ → S → Numbered → List MidiEvent) (next : ℕ → S → Numbered → S) (ports : ℕ → ℕ) (k : ℕ) (s : ℕ → S) (es : List MidiEvent)
    → ((t : ℕ) → ports t ≡ 0) → AllByRecursion NamesNoOther es → through_ports_from block next ports k s es ≡ through (block 0) (next 0) (s 0) (of_port_from 0 ports k es)
through_zero block next ports k s [] z h = refl
through_zero {S} block next ports k s (e ∷ es) z h =
    let n : Numbered = record { position = suc k; event = e } in
    let here : port_of ports e ≡ 0 = ap (unwrap_or (named_port e.what)) (z e.track) ∙ h.0 in
    ap (λ w. block w (s w) n ++ through_ports_from block next (ports_after ports e) (suc k) (kept_for w (next w (s w) n) s) es) here
    ∙ ap (λ l. block 0 (s 0) n ++ l) (through_zero block next (ports_after ports e) (suc k) (kept_for 0 (next 0 (s 0) n) s) es (zero_next ports e z h.0) h.1)
    ∙ sym (ap (λ b. through (block 0) (next 0) (s 0) (with_event b n (of_port_from 0 (ports_after ports e) (suc k) es))) (eq-eqb (port_of ports e) 0 here))
