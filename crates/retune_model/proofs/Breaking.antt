-- A source without a fault breaks no rule of ports; and where only the first port is named, none is broken.
use Rattle.std.proofs.Common.{◌≡◌, ◌-◌, ◌∙◌, ℕ, zero, suc, ℤ, List, [], ◌∷◌, Bool, true, false, cond, not, ◌&&◌, ◌||◌, Option, Some, None, refl, ap, sym, subst, length, drop, take, arith, nat_eq, nat_le}
use Rattle.std.specs.Prelude.{unwrap_or}
use Rattle.std.specs.List.{AllByRecursion}
use Rattle.std.proofs.lemmas.List.{length-drop}
use Rattle.std.proofs.lemmas.Bool.{or_from, and_right, eq-eqb}
use Rattle.mt_base.specs.Midi.{MidiWhat, Says, SysexOf, MetaOf, MidiEvent}
use Rattle.midi_model.specs.Music.{Music, quiet, step, play}
use Rattle.retune_model.specs.Options.{Options}
use Rattle.retune_model.specs.Ports.{PortEvents, NamesNoOther, named_port, port_of, ports_after, ports_from, all_zero, of_port, port_at, music_at}
use Rattle.retune_model.specs.Faults.{Targets, Kind, Port, is_part}
use Rattle.retune_model.specs.Pairs.{Pair}
use Rattle.retune_model.specs.Rests.{pairs_at}
use Rattle.retune_model.specs.SourceFaults.{is_message, changes_port, opens_fifth, breaks_ports, names_another, has_started, has_port, with_port, ports_used, message_tests, kind_in, kind_behind, bend_of, fault_of, placed_at, fault_behind, IsFaultless, BreakNoPorts, FineInTurn}
use Rattle.retune_model.proofs.Numbering.{among_first, one_port}
use Rattle.retune_model.proofs.Faulty.{none_holds, placed_none}

-- ---- of a source without a fault
breaks_nothing : (z : ℕ) (o : Options) (table : Targets) (t : ℕ) (m after : Music) (before : List MidiEvent) (e : MidiEvent) (pairs : List Pair) (w : MidiWhat) → e.what ≡ w
    → kind_in z o table t m after (breaks_ports before e) pairs w ≡ None → breaks_ports before e ≡ false
breaks_nothing z o table t m after before e pairs (Says msg) is h =
    let a = none_holds (message_tests z o table t m after (breaks_ports before e) pairs msg) h in
    a.1.1.1.1.1.1.1.1.0
breaks_nothing z o table t m after before e pairs (SysexOf lead bytes) is h =
    or_from (changes_port before e) (opens_fifth before e) (ap (λ w. names_another (named_port w) (ports_from all_zero before e.track) && has_started e.track before) is)
    (ap (λ w. is_message w && (not (has_port (port_of (ports_from all_zero before) e) (ports_used all_zero [] before)) && nat_le 4 (length (ports_used all_zero [] before)))) is)
breaks_nothing z o table t m after before e pairs (MetaOf kind bytes) is h = pick (breaks_ports before e) h
  where
    pick : (b : Bool) → cond b (Some Port) None ≡ None → b ≡ false
    pick true g = absurd cc
    pick false g = refl

pub break_none : (o : Options) (table : Targets) (es : List MidiEvent) → IsFaultless o table es → BreakNoPorts es
break_none o table es fine k e later g =
    let long : length (drop k es) ≡ suc (length later) = ap length g in
    let left : length (drop k es) ≡ length es - k = length-drop k es in
    let port : PortEvents = port_at es (port_of (ports_from all_zero (take k es)) e) in
    let here : fault_of o table es k (e ∷ later) ≡ None = ap (fault_of o table es k) (sym g) ∙ fine k (omega (arith, long, left)) in
    breaks_nothing port.number o table e.tick (music_at port.events k) (music_at port.events (suc k)) (take k es) e (pairs_at o (is_part o) table port (suc k)) e.what refl
    (placed_none (suc k) e (λ kind. bend_of port.number o (music_at port.events (suc k)) (pairs_at o (is_part o) table port (suc k)) kind e.what) (kind_behind o table (breaks_ports (take k es) e) port k e) here)

-- ---- where only the first port is named
zero_from : (ports : ℕ → ℕ) (es : List MidiEvent) → ((t : ℕ) → ports t ≡ 0) → AllByRecursion NamesNoOther es → (t : ℕ) → ports_from ports es t ≡ 0
zero_from ports [] zeros h t = zeros t
zero_from ports (e ∷ es) zeros h t = zero_from (ports_after ports e) es after h.1 t
  where
    here : port_of ports e ≡ 0
    here = ap (unwrap_or (named_port e.what)) (zeros e.track) ∙ h.0

    pick : (b : Bool) (s : ℕ) → cond b (port_of ports e) (ports s) ≡ 0
    pick true s = here
    pick false s = zeros s

    after : (s : ℕ) → ports_after ports e s ≡ 0
    after s = pick (nat_eq s e.track) s

-- at most the first port has had a message
abbrev AtMostFirst : List ℕ → Type 0
AtMostFirst [] = Unit {0}
AtMostFirst (p ∷ []) = p ≡ 0
AtMostFirst (p ∷ q ∷ ps) = ⊥

with_first : (b : Bool) (z : ℕ) (ps : List ℕ) → z ≡ 0 → AtMostFirst ps → AtMostFirst (with_port b z ps)
with_first false z ps e h = h
with_first true z [] e h = e
with_first true z (p ∷ []) e h = subst AtMostFirst (sym (ap (λ b. cond b (p ∷ []) (z ∷ p ∷ [])) (ap (λ x. x || false) (eq-eqb p z (h ∙ sym e))))) h
with_first true z (p ∷ q ∷ ps) e h = absurd h

first_used : (ports : ℕ → ℕ) (used : List ℕ) (es : List MidiEvent) → ((t : ℕ) → ports t ≡ 0) → AllByRecursion NamesNoOther es → AtMostFirst used → AtMostFirst (ports_used ports used es)
first_used ports used [] zeros h u = u
first_used ports used (e ∷ es) zeros h u =
    first_used (ports_after ports e) (with_port (is_message e.what) (port_of ports e) used) es (zero_from ports (e ∷ []) zeros (h.0, tt)) h.1
    (with_first (is_message e.what) (port_of ports e) used (ap (unwrap_or (named_port e.what)) (zeros e.track) ∙ h.0) u)

too_few : (ps : List ℕ) → AtMostFirst ps → nat_le 4 (length ps) ≡ false
too_few [] h = refl
too_few (p ∷ []) h = refl
too_few (p ∷ q ∷ ps) h = absurd h

none_other : (w : MidiWhat) (port : ℕ) → unwrap_or (named_port w) 0 ≡ 0 → port ≡ 0 → names_another (named_port w) port ≡ false
none_other w port h e = pick (named_port w) h
  where
    pick : (x : Option ℕ) → unwrap_or x 0 ≡ 0 → names_another x port ≡ false
    pick None g = refl
    pick (Some p) g = ap not (eq-eqb p port (g ∙ sym e))

fronts : (P : MidiEvent → Type 0) (k : ℕ) (es : List MidiEvent) → AllByRecursion P es → AllByRecursion P (take k es)
fronts P zero [] h = tt
fronts P zero (e ∷ es) h = tt
fronts P (suc k) [] h = tt
fronts P (suc k) (e ∷ es) h = (h.0, fronts P k es h.1)

behind : (P : MidiEvent → Type 0) (k : ℕ) (es : List MidiEvent) (e : MidiEvent) (later : List MidiEvent) → AllByRecursion P es → drop k es ≡ e ∷ later → P e
behind P zero es e later h g = (subst (λ (l : List MidiEvent). AllByRecursion P l) g h).0
behind P (suc k) [] e later h g = absurd cc
behind P (suc k) (x ∷ es) e later h g = behind P k es e later h.1 g

pub one_port_breaks_none : (es : List MidiEvent) → AllByRecursion NamesNoOther es → BreakNoPorts es
one_port_breaks_none es h k e later g =
    let before : List MidiEvent = take k es in
    let named : AllByRecursion NamesNoOther before = fronts NamesNoOther k es h in
    or_from (changes_port before e) (opens_fifth before e)
    (ap (λ b. b && has_started e.track before) (none_other e.what (ports_from all_zero before e.track) (behind NamesNoOther k es e later h g) (zero_from all_zero before (λ t. refl) named e.track)))
    (and_right (is_message e.what) (not (has_port (port_of (ports_from all_zero before) e) (ports_used all_zero [] before)) && nat_le 4 (length (ports_used all_zero [] before)))
    (and_right (not (has_port (port_of (ports_from all_zero before) e) (ports_used all_zero [] before))) (nat_le 4 (length (ports_used all_zero [] before))) (too_few (ports_used all_zero [] before) (first_used all_zero [] before (λ t. refl) named tt))))

-- ---- so there the music is that of all events so far
turn_at : (o : Options) (table : Targets) (m : Music) (k : ℕ) (es : List MidiEvent) (e : MidiEvent) (later : List MidiEvent) → FineInTurn o table m es → drop k es ≡ e ∷ later
    → (pairs : List Pair) → kind_in 0 o table e.tick (play m (take k es)) (play m (take (suc k) es)) false pairs e.what ≡ None
turn_at o table m zero [] e later h g pairs = absurd cc
turn_at o table m (suc k) [] e later h g pairs = absurd cc
turn_at o table m zero (x ∷ es) e later h g pairs =
    let same : x ≡ e = ap (first_of x) g in
    subst (λ y. kind_in 0 o table y.tick m (play m (take 1 (x ∷ es))) false pairs y.what ≡ None) same (subst (λ l. kind_in 0 o table x.tick m (play (step m x) l) false pairs x.what ≡ None) (sym (none_taken es)) (h.0 pairs))
  where
    first_of : MidiEvent → List MidiEvent → MidiEvent
    first_of d [] = d
    first_of d (y ∷ ys) = y

    none_taken : (ys : List MidiEvent) → take 0 ys ≡ []
    none_taken [] = refl
    none_taken (y ∷ ys) = refl
turn_at o table m (suc k) (x ∷ es) e later h g pairs = turn_at o table (step m x) k es e later h.1 g pairs

first_music : (es : List MidiEvent) (k : ℕ) → AllByRecursion NamesNoOther es → music_at (of_port 0 es) k ≡ play quiet (take k es)
first_music es k h = ap (play quiet) (among_first 0 all_zero 0 k k es (omega arith) ∙ one_port all_zero 0 (take k es) (λ t. refl) (fronts NamesNoOther k es h))

pub in_turn_faultless : (o : Options) (table : Targets) (es : List MidiEvent) → AllByRecursion NamesNoOther es → FineInTurn o table quiet es → IsFaultless o table es
in_turn_faultless o table es h fine k l = go (drop k es) refl
  where
    go : (rest : List MidiEvent) → drop k es ≡ rest → fault_of o table es k rest ≡ None
    go [] g = refl
    go (e ∷ later) g =
        let z : ℕ = port_of (ports_from all_zero (take k es)) e in
        let first : z ≡ 0 = ap (unwrap_or (named_port e.what)) (zero_from all_zero (take k es) (λ t. refl) (fronts NamesNoOther k es h) e.track) ∙ behind NamesNoOther k es e later h g in
        let P : ℕ → Type 0 = λ y. fault_behind o table es (port_at es y) k e ≡ None in
        let pairs : List Pair = pairs_at o (is_part o) table (port_at es 0) (suc k) in
        let kind : kind_behind o table false (port_at es 0) k e ≡ None =
        ap (λ m. kind_in 0 o table e.tick m (music_at (of_port 0 es) (suc k)) false pairs e.what) (first_music es k h)
        ∙ ap (λ m. kind_in 0 o table e.tick (play quiet (take k es)) m false pairs e.what) (first_music es (suc k) h)
        ∙ turn_at o table quiet k es e later fine g pairs in
        let bend : Kind → Option (ℤ × ℤ) = λ x. bend_of 0 o (music_at (of_port 0 es) (suc k)) pairs x e.what in
        subst P (sym first)
        (ap (λ b. placed_at (suc k) e bend (kind_behind o table b (port_at es 0) k e)) (one_port_breaks_none es h k e later g) ∙ ap (placed_at (suc k) e bend) kind)
