-- The live route passes system exclusive and meta events on, and the messages of kept drums; so its output plays the same.
use Rattle.std.proofs.Common.{◌≡◌, ℕ, zero, suc, List, [], ◌∷◌, Bool, true, false, cond, not, ◌&&◌, nat_eq, refl, ap, sym, ◌∙◌, subst, map}
use Rattle.std.specs.Prelude.{◌==◌}
use Rattle.std.specs.List.{AllByRecursion, filter}
use Rattle.mt_base.specs.declared.event.Msg.{Msg}
use Rattle.mt_base.specs.declared.event.Msg.TheVariants.{NoteOn, NoteOff, KeyPressure, Control, Program, Pressure, Bend}
use Rattle.mt_base.specs.Midi.{SysexOf, Timed, MidiEvent}
use Rattle.midi_model.specs.Sysex.{Doing, Plays, Resets, Tunes, Nothing, doing, is_tuning}
use Rattle.midi_model.specs.Merged.{timed}
use Rattle.retune_model.specs.Table.{Scaling}
use Rattle.retune_model.specs.Options.{Options, has_drums}
use Rattle.retune_model.specs.PlaysTheSame.{is_tuning_event, other_events, without_tuning, PlaysTheSameMusic, PlayTheSame, plain_device, KeepsOtherEvents, KeepsDrums}
use Rattle.retune_model.specs.Faults.{Targets, is_part}
use Rattle.retune_model.specs.Blocks.{Sends, Block, all_events, written}
use Rattle.retune_model.specs.Routes.{Setup, Live, Told, nothing_told, dump_before, dump_behind, change_due, live_before, live_next, live_block}
use Rattle.retune_model.specs.Dump.{live_setup, told_live}
use Rattle.retune_model.specs.Dumpable.{IsLivable}
use Rattle.retune_model.proofs.Laws.{Laws}
use Rattle.retune_model.proofs.Fronts.{all_weaker}
use Rattle.retune_model.proofs.Served.{setup_parts}
use Rattle.retune_model.proofs.Lists.{filter_twice}
use Rattle.retune_model.proofs.Others.{filter_timed, none_pass, none_behind, let_through, Refuses, is_other, is_other_untuned, selects_refused, all_untuned, other_by_test, is_drum_on, drums_by_test, neither, selects_no_drums, not_nine, kept_by, every_same}
use Rattle.retune_model.specs.Ports.{port_of, all_zero, events_on}
use Rattle.retune_model.proofs.Ported.{kept_block, kept_next, as_translated, passed}
use Rattle.retune_model.proofs.OnePort.{told_live as port_told, livable_port}
use Rattle.retune_model.proofs.PortsApart.{live_on}
use Rattle.retune_model.proofs.Receivers.{by_events}
use Rattle.retune_model.proofs.LiveSame.{both_groups, live_plays_the_same}

-- what a test refuses of the route's setup and changes
record RefusesLive (test : MidiEvent → Bool) (l : Live) : Type 0 where
  setup : Refuses test l.setup
  change : (e : MidiEvent) (k : ℕ) → test (record { tick = e.tick; track = e.track; what = SysexOf 240 (l.change k) }) ≡ false

refused_change : (test : MidiEvent → Bool) (l : Live) (s : Told) (e : MidiEvent) (msg : Msg) → RefusesLive test l → AllByRecursion (λ x. test x ≡ false) (all_events (change_due l s e msg))
refused_change test l s e (NoteOn c k (suc v)) h = pick (l.is_retuned c && not (s.keys k))
  where
    pick : (b : Bool) → AllByRecursion (λ x. test x ≡ false) (all_events (cond b (Sends e.tick e.track (l.change k) ∷ []) []))
    pick true = (h.change e k, tt)
    pick false = tt
refused_change test l s e (NoteOn c k zero) h = tt
refused_change test l s e (NoteOff c k v) h = tt
refused_change test l s e (KeyPressure c k v) h = tt
refused_change test l s e (Control c n v) h = tt
refused_change test l s e (Program c n) h = tt
refused_change test l s e (Pressure c v) h = tt
refused_change test l s e (Bend c v) h = tt

refused_before : (test : MidiEvent → Bool) (s : Setup) (b : Bool) (e : MidiEvent) (msg : Msg) → Refuses test s → AllByRecursion (λ x. test x ≡ false) (all_events (dump_before s b e (Plays msg)))
refused_before test s false e msg h = h e
refused_before test s true e msg h = tt

none_live : (test : MidiEvent → Bool) (l : Live) (s : Told) (e : MidiEvent) (d : Doing) → RefusesLive test l → filter test (all_events (live_before l s e d)) ≡ []
none_live test l s e (Plays msg) h =
    none_pass test (all_events (live_before l s e (Plays msg)))
    (both_groups (λ x. test x ≡ false) (dump_before l.setup s.begun e (Plays msg)) (change_due l s e msg) (refused_before test l.setup s.begun e msg h.setup) (refused_change test l s e msg h))
none_live test l s e Resets h = refl
none_live test l s e (Tunes x) h = refl
none_live test l s e Nothing h = refl

live_lets : (test : MidiEvent → Bool) (l : Live) → RefusesLive test l → (s : Told) (e : MidiEvent) → filter test (written (live_block l s e)) ≡ cond (test e) (e ∷ []) []
live_lets test l h s e =
    let_through test (all_events (live_before l s e (doing e.what))) e (all_events (dump_behind l.setup s.begun e (doing e.what))) (none_live test l s e (doing e.what) h) (none_behind test l.setup s.begun e (doing e.what) h.setup)

tuning_refused : (track u : ℕ) (b : Bool) → b ≡ true → (((u == track) && true) && not (true && b)) ≡ false
tuning_refused track u b h = ap (λ x. ((u == track) && true) && not x) h ∙ neither ((u == track) && true)

pub others_kept : (scaling : Scaling) (o : Options) (table : Targets) (change : ℕ → List ℕ) (es : List MidiEvent) → IsLivable scaling o table change es → KeepsOtherEvents o es (told_live o change es)
others_kept scaling o table change es d track =
    let setup : ℕ → Live = λ z. live_setup o change (events_on z es) in
    let block : ℕ → Told → MidiEvent → Block = λ z s e. live_block (setup z) s e in
    let next : ℕ → Told → MidiEvent → Told = λ z s e. live_next (setup z) s (doing e.what) in
    let refused : (z : ℕ) → RefusesLive (is_other_untuned track) (setup z) =
    λ z. record { setup = λ e. selects_refused track e.tick e.track (setup z).setup.program (setup z).setup.channels; change = λ e k. tuning_refused track e.track (is_tuning (change k)) (d.changes.tuning k) } in
    ap (λ r. without_tuning r (other_events track (told_live o change es))) d.route
    ∙ ap (λ x. filter (λ (e : Timed). not (is_tuning_event e.what)) x) (other_by_test track (told_live o change es))
    ∙ filter_timed (λ e. not (is_tuning_event e.what)) (filter (is_other track) (told_live o change es))
    ∙ ap (map timed) (filter_twice (is_other track) (λ e. not (is_tuning_event e.what)) (told_live o change es))
    ∙ ap (λ l. map timed (filter (is_other_untuned track) l)) (as_translated block next all_zero 0 (λ z. nothing_told) es)
    ∙ ap (map timed) (passed (is_other_untuned track) (is_other track) (kept_block block) (kept_next next)
    (λ s e. live_lets (is_other_untuned track) (setup (port_of s.ports e)) (refused (port_of s.ports e)) (s.kept (port_of s.ports e)) e) (record { ports = all_zero; kept = λ z. nothing_told }) es (all_untuned o table track es d.faultless))
    ∙ sym (other_by_test track es)

-- on one port
drums_kept : (o : Options) (change : ℕ → List ℕ) (es : List MidiEvent) → KeepsDrums o es (port_told o change es)
drums_kept o change es keeps track =
    let l : Live = live_setup o change es in
    let apart : AllByRecursion (λ c. nat_eq c 9 ≡ false) l.setup.channels =
    all_weaker (λ c. is_part o c ≡ true) (λ c. nat_eq c 9 ≡ false) (λ c h. not_nine o.keep_drums (nat_eq c 9) (kept_by o.keep_drums (has_drums es) keeps) h) l.setup.channels (setup_parts o [] es) in
    let refused : RefusesLive (is_drum_on track) l = record { setup = λ e. selects_no_drums track e.tick e.track l.setup.program l.setup.channels apart; change = λ e k. neither (e.track == track) } in
    drums_by_test track (port_told o change es)
    ∙ ap (map timed) (passed (is_drum_on track) (is_drum_on track) (live_block l) (λ s e. live_next l s (doing e.what)) (live_lets (is_drum_on track) l refused) nothing_told es (every_same (is_drum_on track) es))
    ∙ sym (drums_by_test track es)

pub live_drums : (o : Options) (change : ℕ → List ℕ) (es : List MidiEvent) (z : ℕ) → KeepsDrums o (events_on z es) (events_on z (told_live o change es))
live_drums o change es z = subst (KeepsDrums o (events_on z es)) (sym (live_on o change es z)) (drums_kept o change (events_on z es))

pub live_music : (laws : Laws) (scaling : Scaling) (o : Options) (table : Targets) (change : ℕ → List ℕ) (es : List MidiEvent) → IsLivable scaling o table change es
    → (z : ℕ) → PlaysTheSameMusic scaling o table (plain_device o) (events_on z es) (events_on z (told_live o change es))
live_music laws scaling o table change es d z =
    subst (PlaysTheSameMusic scaling o table (plain_device o) (events_on z es)) (sym (live_on o change es z))
    (by_events scaling o table (events_on z es) (port_told o change (events_on z es)) (live_plays_the_same laws scaling o table change (events_on z es) (livable_port scaling o table change es d z)))

pub live_same : (laws : Laws) (scaling : Scaling) (o : Options) (table : Targets) (change : ℕ → List ℕ) (es : List MidiEvent) → IsLivable scaling o table change es → PlayTheSame scaling o table (plain_device o) es (told_live o change es)
live_same laws scaling o table change es d =
    record { music = live_music laws scaling o table change es d; others = others_kept scaling o table change es d; drums = live_drums o change es }
