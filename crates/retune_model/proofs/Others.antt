-- The dump route passes system exclusive and meta events on, and the messages of kept drums.
use Rattle.std.proofs.Common.{◌≡◌, ◌-◌, ℕ, suc, length, take, drop, arith, List, [], ◌∷◌, ◌++◌, Bool, true, false, cond, not, ◌&&◌, nat_eq, Some, None, refl, ap, sym, ◌∙◌, map}
use Rattle.std.specs.Prelude.{◌==◌}
use Rattle.std.specs.List.{AllByRecursion, filter}
use Rattle.std.proofs.lemmas.List.{length-drop}
use Rattle.std.proofs.lemmas.List.Elements.{filter-append}
use Rattle.mt_base.specs.Midi.{MidiWhat, Says, SysexOf, MetaOf, Timed, MidiEvent}
use Rattle.midi_model.specs.Sysex.{Doing, Plays, Resets, Tunes, Nothing, doing, is_tuning}
use Rattle.midi_model.specs.Music.{Music}
use Rattle.midi_model.specs.Merged.{timed}
use Rattle.retune_model.specs.Options.{Options, is_drum_message, has_drums}
use Rattle.retune_model.specs.Table.{Scaling}
use Rattle.retune_model.specs.PlaysTheSame.{is_tuning_event, is_no_message, other_events, without_tuning, KeepsOtherEvents, drum_events, KeepsDrums}
use Rattle.retune_model.specs.Ports.{PortEvents, port_of, ports_from, all_zero, port_at, music_at, events_on}
use Rattle.retune_model.specs.Faults.{Targets, TuningInSource, is_part}
use Rattle.retune_model.specs.Pairs.{Pair}
use Rattle.retune_model.specs.Rests.{pairs_at}
use Rattle.retune_model.specs.SourceFaults.{kind_in, kind_behind, bend_of, breaks_ports, fault_behind, fault_of, IsFaultless}
use Rattle.retune_model.specs.Blocks.{Group, Block, all_events, written}
use Rattle.retune_model.specs.Routes.{Setup, sends, selects, setup_at, dump_before, dump_behind, dump_next, dump_block, dump_output}
use Rattle.retune_model.specs.Dump.{has_note_on, dump_if, dump_setup, dumped}
use Rattle.retune_model.specs.Dumpable.{IsDumpable}
use Rattle.retune_model.proofs.Lists.{filter_twice}
use Rattle.retune_model.proofs.Faulty.{each_event, placed_none}
use Rattle.retune_model.proofs.Fronts.{all_weaker}
use Rattle.retune_model.proofs.Ported.{kept_block, kept_next, as_translated, passed}
use Rattle.retune_model.proofs.Served.{setup_parts}

pub filter_timed : (g : Timed → Bool) (xs : List MidiEvent) → filter g (map timed xs) ≡ map timed (filter (λ e. g (timed e)) xs)
filter_timed g [] = refl
filter_timed g (x ∷ xs) = pick (g (timed x)) (filter_timed g xs)
  where
    pick : (b : Bool) → filter g (map timed xs) ≡ map timed (filter (λ e. g (timed e)) xs) → cond b (timed x ∷ filter g (map timed xs)) (filter g (map timed xs)) ≡ map timed (cond b (x ∷ filter (λ e. g (timed e)) xs) (filter (λ e. g (timed e)) xs))
    pick true h = ap (λ r. timed x ∷ r) h
    pick false h = h

-- ---- what a test refuses of a setup, and lets through of a source
pub none_pass : (test : MidiEvent → Bool) (xs : List MidiEvent) → AllByRecursion (λ x. test x ≡ false) xs → filter test xs ≡ []
none_pass test [] h = refl
none_pass test (x ∷ xs) h = ap (λ b. cond b (x ∷ filter test xs) (filter test xs)) h.0 ∙ none_pass test xs h.1

abbrev pub Refuses : (MidiEvent → Bool) → Setup → Type 0
Refuses test s = (e : MidiEvent) → AllByRecursion (λ x. test x ≡ false) (all_events (setup_at s e))

pub none_before : (test : MidiEvent → Bool) (s : Setup) (b : Bool) (e : MidiEvent) (d : Doing) → Refuses test s → filter test (all_events (dump_before s b e d)) ≡ []
none_before test s false e (Plays msg) h = none_pass test (all_events (setup_at s e)) (h e)
none_before test s false e Resets h = refl
none_before test s false e (Tunes x) h = refl
none_before test s false e Nothing h = refl
none_before test s true e (Plays msg) h = refl
none_before test s true e Resets h = refl
none_before test s true e (Tunes x) h = refl
none_before test s true e Nothing h = refl

pub none_behind : (test : MidiEvent → Bool) (s : Setup) (b : Bool) (e : MidiEvent) (d : Doing) → Refuses test s → filter test (all_events (dump_behind s b e d)) ≡ []
none_behind test s true e Resets h = none_pass test (all_events (setup_at s e)) (h e)
none_behind test s false e Resets h = refl
none_behind test s false e (Plays msg) h = refl
none_behind test s false e (Tunes x) h = refl
none_behind test s false e Nothing h = refl
none_behind test s true e (Plays msg) h = refl
none_behind test s true e (Tunes x) h = refl
none_behind test s true e Nothing h = refl

-- a block lets its event through, and nothing else
pub let_through : (test : MidiEvent → Bool) (before : List MidiEvent) (e : MidiEvent) (behind : List MidiEvent) → filter test before ≡ [] → filter test behind ≡ [] → filter test (before ++ e ∷ behind) ≡ cond (test e) (e ∷ []) []
let_through test before e behind h k = filter-append test before (e ∷ behind) ∙ ap (λ x. x ++ filter test (e ∷ behind)) h ∙ ap (λ x. cond (test e) (e ∷ x) x) k

pub dump_lets : (test : MidiEvent → Bool) (s : Setup) → Refuses test s → (b : Bool) (e : MidiEvent) → filter test (written (dump_block s b e)) ≡ cond (test e) (e ∷ []) []
dump_lets test s h b e =
    let_through test (all_events (dump_before s b e (doing e.what))) e (all_events (dump_behind s b e (doing e.what))) (none_before test s b e (doing e.what) h) (none_behind test s b e (doing e.what) h)

-- ---- system exclusive and meta events
abbrev pub is_other : ℕ → MidiEvent → Bool
is_other track e = (e.track == track) && is_no_message e.what

abbrev pub is_other_untuned : ℕ → MidiEvent → Bool
is_other_untuned track e = is_other track e && not (is_tuning_event e.what)

pub sends_refused : (track t u : ℕ) (bs : List (List ℕ)) (gs : List Group) → AllByRecursion (λ b. is_tuning b ≡ true) bs → AllByRecursion (λ x. is_other_untuned track x ≡ false) (all_events gs)
    → AllByRecursion (λ x. is_other_untuned track x ≡ false) (all_events (sends t u bs ++ gs))
sends_refused track t u [] gs h k = k
sends_refused track t u (b ∷ bs) gs h k = (pick (u == track) (is_tuning b) h.0, sends_refused track t u bs gs h.1 k)
  where
    pick : (x y : Bool) → y ≡ true → ((x && true) && not (true && y)) ≡ false
    pick true true e = refl
    pick false true e = refl
    pick true false e = absurd cc
    pick false false e = absurd cc

pub selects_refused : (track t u p : ℕ) (cs : List ℕ) → AllByRecursion (λ x. is_other_untuned track x ≡ false) (all_events (selects t u p cs))
selects_refused track t u p [] = tt
selects_refused track t u p (c ∷ cs) = (pick (u == track), (pick (u == track), (pick (u == track), (pick (u == track), (pick (u == track), selects_refused track t u p cs)))))
  where
    pick : (x : Bool) → ((x && false) && true) ≡ false
    pick true = refl
    pick false = refl

untuned_kind : (z : ℕ) (o : Options) (table : Targets) (t : ℕ) (m after : Music) (ports : Bool) (pairs : List Pair) (w : MidiWhat) → kind_in z o table t m after ports pairs w ≡ None → is_tuning_event w ≡ false
untuned_kind z o table t m after ports pairs (Says msg) e = refl
untuned_kind z o table t m after ports pairs (MetaOf kind bs) e = refl
untuned_kind z o table t m after ports pairs (SysexOf lead bs) e = pick (nat_eq lead 0xf0 && is_tuning bs) e
  where
    pick : (b : Bool) → cond b (Some TuningInSource) None ≡ None → b ≡ false
    pick true h = absurd cc
    pick false h = refl

untuned_event : (o : Options) (table : Targets) (es : List MidiEvent) (port : PortEvents) (k : ℕ) (e : MidiEvent) → fault_behind o table es port k e ≡ None → is_tuning_event e.what ≡ false
untuned_event o table es port k e h =
    untuned_kind port.number o table e.tick (music_at port.events k) (music_at port.events (suc k)) (breaks_ports (take k es) e) (pairs_at o (is_part o) table port (suc k)) e.what
    (placed_none (suc k) e (λ kind. bend_of port.number o (music_at port.events (suc k)) (pairs_at o (is_part o) table port (suc k)) kind e.what) (kind_behind o table (breaks_ports (take k es) e) port k e) h)

pub all_untuned : (o : Options) (table : Targets) (track : ℕ) (es : List MidiEvent) → IsFaultless o table es → AllByRecursion (λ e. is_other_untuned track e ≡ is_other track e) es
all_untuned o table track es fine = each_event (λ e. is_other_untuned track e ≡ is_other track e) es (λ k e later g.
    let long : length (drop k es) ≡ suc (length later) = ap length g in
    let left : length (drop k es) ≡ length es - k = length-drop k es in
    let here : fault_of o table es k (e ∷ later) ≡ None = ap (fault_of o table es k) (sym g) ∙ fine k (omega (arith, long, left)) in
    ap (λ b. is_other track e && not b) (untuned_event o table es (port_at es (port_of (ports_from all_zero (take k es)) e)) k e here) ∙ plain (is_other track e))
  where
    plain : (b : Bool) → (b && not false) ≡ b
    plain true = refl
    plain false = refl

all_dumps : (b : Bool) (bytes : List ℕ) → is_tuning bytes ≡ true → AllByRecursion (λ x. is_tuning x ≡ true) (dump_if b bytes)
all_dumps true bytes h = (h, tt)
all_dumps false bytes h = tt

pub other_by_test : (track : ℕ) (es : List MidiEvent) → other_events track es ≡ map timed (filter (is_other track) es)
other_by_test track es = ap (map timed) (filter_twice (λ e. e.track == track) (λ e. is_no_message e.what) es)

pub others_kept : (scaling : Scaling) (o : Options) (table : Targets) (bytes : List ℕ) (es : List MidiEvent) → IsDumpable scaling o table bytes es → KeepsOtherEvents o es (dumped o bytes es)
others_kept scaling o table bytes es d track =
    let block : ℕ → Bool → MidiEvent → Block = λ z b e. dump_block (dump_setup o bytes (events_on z es)) b e in
    let next : ℕ → Bool → MidiEvent → Bool = λ z b e. dump_next b (doing e.what) in
    let refused : (z : ℕ) → Refuses (is_other_untuned track) (dump_setup o bytes (events_on z es)) = λ z e. let s : Setup = dump_setup o bytes (events_on z es) in
    sends_refused track e.tick e.track s.dumps (selects e.tick e.track s.program s.channels) (all_dumps (has_note_on (is_part o) (events_on z es)) bytes d.dump.tuning) (selects_refused track e.tick e.track s.program s.channels) in
    ap (λ r. without_tuning r (other_events track (dumped o bytes es))) d.route
    ∙ ap (λ x. filter (λ (e : Timed). not (is_tuning_event e.what)) x) (other_by_test track (dumped o bytes es))
    ∙ filter_timed (λ e. not (is_tuning_event e.what)) (filter (is_other track) (dumped o bytes es))
    ∙ ap (map timed) (filter_twice (is_other track) (λ e. not (is_tuning_event e.what)) (dumped o bytes es))
    ∙ ap (λ l. map timed (filter (is_other_untuned track) l)) (as_translated block next all_zero 0 (λ z. false) es)
    ∙ ap (map timed) (passed (is_other_untuned track) (is_other track) (kept_block block) (kept_next next) (λ s e. dump_lets (is_other_untuned track) (dump_setup o bytes (events_on (port_of s.ports e) es)) (refused (port_of s.ports e)) (s.kept (port_of s.ports e)) e)
    (record { ports = all_zero; kept = λ z. false }) es (all_untuned o table track es d.faultless))
    ∙ sym (other_by_test track es)

-- ---- drums
abbrev pub is_drum_on : ℕ → MidiEvent → Bool
is_drum_on track e = (e.track == track) && is_drum_message e.what

pub drums_by_test : (track : ℕ) (es : List MidiEvent) → drum_events track es ≡ map timed (filter (is_drum_on track) es)
drums_by_test track es = ap (map timed) (filter_twice (λ e. e.track == track) (λ e. is_drum_message e.what) es)

pub neither : (b : Bool) → (b && false) ≡ false
neither true = refl
neither false = refl

pub sends_no_drums : (track t u : ℕ) (bs : List (List ℕ)) (gs : List Group) → AllByRecursion (λ x. is_drum_on track x ≡ false) (all_events gs) → AllByRecursion (λ x. is_drum_on track x ≡ false) (all_events (sends t u bs ++ gs))
sends_no_drums track t u [] gs h = h
sends_no_drums track t u (b ∷ bs) gs h = (neither (u == track), sends_no_drums track t u bs gs h)

pub selects_no_drums : (track t u p : ℕ) (cs : List ℕ) → AllByRecursion (λ c. nat_eq c 9 ≡ false) cs → AllByRecursion (λ x. is_drum_on track x ≡ false) (all_events (selects t u p cs))
selects_no_drums track t u p [] h = tt
selects_no_drums track t u p (c ∷ cs) h =
    let here : ((u == track) && nat_eq c 9) ≡ false = ap (λ b. (u == track) && b) h.0 ∙ neither (u == track) in
    (here, (here, (here, (here, (here, selects_no_drums track t u p cs h.1)))))

pub not_nine : (keep nine : Bool) → keep ≡ true → not (keep && nine) ≡ true → nine ≡ false
not_nine true true e h = absurd cc
not_nine true false e h = refl
not_nine false nine e h = absurd cc

pub kept_by : (keep has : Bool) → (keep && has) ≡ true → keep ≡ true
kept_by true has h = refl
kept_by false has h = absurd cc

pub every_same : (test : MidiEvent → Bool) (es : List MidiEvent) → AllByRecursion (λ e. test e ≡ test e) es
every_same test [] = tt
every_same test (e ∷ es) = (refl, every_same test es)

-- on one port
pub drums_kept : (o : Options) (bytes : List ℕ) (es : List MidiEvent) → KeepsDrums o es (dump_output (dump_setup o bytes es) es)
drums_kept o bytes es keeps track =
    let s : Setup = dump_setup o bytes es in
    let apart : AllByRecursion (λ c. nat_eq c 9 ≡ false) s.channels =
    all_weaker (λ c. is_part o c ≡ true) (λ c. nat_eq c 9 ≡ false) (λ c h. not_nine o.keep_drums (nat_eq c 9) (kept_by o.keep_drums (has_drums es) keeps) h) s.channels (setup_parts o bytes es) in
    let refused : Refuses (is_drum_on track) s = λ e. sends_no_drums track e.tick e.track s.dumps (selects e.tick e.track s.program s.channels) (selects_no_drums track e.tick e.track s.program s.channels apart) in
    drums_by_test track (dump_output s es)
    ∙ ap (map timed) (passed (is_drum_on track) (is_drum_on track) (dump_block s) (λ b e. dump_next b (doing e.what)) (dump_lets (is_drum_on track) s refused) false es (every_same (is_drum_on track) es))
    ∙ sym (drums_by_test track es)
