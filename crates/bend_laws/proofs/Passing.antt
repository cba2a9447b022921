-- The system exclusive and meta events of a track are passed on as they are.
use Rattle.std.proofs.Common.{◌≡◌, ℕ, suc, Bool, true, false, cond, eqb, List, [], ◌∷◌, ◌++◌, refl, ap, sym, ◌∙◌, map, filter, not}
use Rattle.std.specs.List.{AllByRecursion}
use Rattle.std.proofs.lemmas.Bool.{cond_both}
use Rattle.std.proofs.lemmas.List.Elements.{filter-append}
use Rattle.mt_base.specs.declared.event.Msg.{Msg}
use Rattle.mt_base.specs.Midi.{MidiWhat, Says, SysexOf, MetaOf, Timed, MidiEvent, channel_of}
use Rattle.midi_model.specs.Merged.{timed, of_track}
use Rattle.midi_model.specs.Music.{Music, step}
use Rattle.retune_model.specs.Options.{Options, bends_notes}
use Rattle.retune_model.specs.PlaysTheSame.{is_tuning_event, is_no_message, other_events, KeepsOtherEvents}
use Rattle.retune_model.specs.Faults.{Targets, is_part}
use Rattle.retune_model.specs.Ports.{port_of, ports_after, all_zero}
use Rattle.channel_model.specs.BendOutput.{placed_at, PortRuns, Played, unplayed}
use Rattle.bend_laws.specs.Moments.{Moment, part_causes, port_causes, port_block, moment_at}
use Rattle.bend_laws.proofs.Blockwise.{block_of, state_after, file_from, file_output}
use Rattle.bend_laws.proofs.Lists.{map_append, all_always, all_mapped}

-- the events of a track of which a test holds
abbrev pub kept : (MidiWhat → Bool) → ℕ → List MidiEvent → List Timed
kept f track es = map timed (filter (λ e. f e.what) (of_track track es))

pub kept_append : (f : MidiWhat → Bool) (track : ℕ) (xs ys : List MidiEvent) → kept f track (xs ++ ys) ≡ kept f track xs ++ kept f track ys
kept_append f track xs ys =
    ap (λ es. map timed (filter (λ (e : MidiEvent). f e.what) es)) (filter-append (λ (e : MidiEvent). eqb e.track track) xs ys)
    ∙ ap (map timed) (filter-append (λ (e : MidiEvent). f e.what) (of_track track xs) (of_track track ys))
    ∙ map_append timed (filter (λ (e : MidiEvent). f e.what) (of_track track xs)) (filter (λ (e : MidiEvent). f e.what) (of_track track ys))

pub kept_none : (f : MidiWhat → Bool) (track : ℕ) (e : MidiEvent) (ws : List MidiWhat) → AllByRecursion (λ w. f w ≡ false) ws →
    kept f track (placed_at e ws) ≡ []
kept_none f track e [] h = refl
kept_none f track e (w ∷ ws) h = pick (eqb e.track track) (kept_none f track e ws h.1)
  where
    pick : (b : Bool) → kept f track (placed_at e ws) ≡ [] → map timed (filter (λ (x : MidiEvent). f x.what)
        (cond b (record e { what = w } ∷ of_track track (placed_at e ws)) (of_track track (placed_at e ws)))) ≡ []
    pick true g = ap (λ c. map timed (cond c (record e { what = w } ∷ filter (λ (x : MidiEvent). f x.what) (of_track track (placed_at e ws)))
        (filter (λ (x : MidiEvent). f x.what) (of_track track (placed_at e ws))))) h.0 ∙ g
    pick false g = g

-- ---- a block

block_other : (port : ℕ) (o : Options) (table : Targets) (k : Moment) (before out : Music) (t place : ℕ) (w : MidiWhat) (track : ℕ) →
    (let e : MidiEvent = record { tick = t; track = place; what = w } in kept is_no_message track (port_block port o table k before out e)
    ≡ kept is_no_message track (e ∷ []))
block_other port o table k before out t place (Says msg) track =
    let e : MidiEvent = record { tick = t; track = place; what = Says msg } in
    let ms : List Msg = part_causes port o table k before (step before e) out t msg in
    kept_none is_no_message track e (port_causes port o table k before (step before e) out t (Says msg))
    (cond_both (is_part o (channel_of msg)) (map Says ms) (Says msg ∷ []) (AllByRecursion (λ w. is_no_message w ≡ false))
    (λ p. all_mapped (λ w. is_no_message w ≡ false) Says (λ m. Unit {0}) (λ m u. refl) ms (all_always (λ m. Unit {0}) (λ m. tt) ms))
    (λ p. (refl, tt)))
    ∙ sym (kept_none is_no_message track e (Says msg ∷ []) (refl, tt))
block_other port o table k before out t place (SysexOf lead bytes) track = refl
block_other port o table k before out t place (MetaOf kind bytes) track = refl

other_same : (o : Options) (table : Targets) (runs : ℕ → PortRuns) (ports : ℕ → ℕ) (k : ℕ) (s : ℕ → Played) (es : List MidiEvent) (track : ℕ) →
    other_events track (file_from o table runs ports k s es) ≡ other_events track es
other_same o table runs ports k s [] track = refl
other_same o table runs ports k s (e ∷ es) track =
    let z : ℕ = port_of ports e in
    let block : List MidiEvent = block_of o table (runs z) k (s z) e in
    let rest : List MidiEvent = file_from o table runs (ports_after ports e) (suc k) (state_after o table runs ports k s e) es in
    kept_append is_no_message track block rest
    ∙ ap (λ xs. xs ++ kept is_no_message track rest) (block_other (runs z).number o table (moment_at (runs z) (suc k))
    (s z).source (s z).out e.tick e.track e.what track)
    ∙ ap (λ ys. kept is_no_message track (e ∷ []) ++ ys) (other_same o table runs (ports_after ports e) (suc k)
    (state_after o table runs ports k s e) es track)
    ∙ sym (kept_append is_no_message track (e ∷ []) es)

pub keeps_all_others : (o : Options) (table : Targets) (runs : ℕ → PortRuns) (es : List MidiEvent) → bends_notes o.route ≡ true →
    KeepsOtherEvents o es (file_output o table runs es)
keeps_all_others o table runs es bends track =
    let xs : List Timed = other_events track (file_output o table runs es) in
    ap (λ b. cond b xs (filter (λ (e : Timed). not (is_tuning_event e.what)) xs)) bends ∙ other_same o table runs all_zero 0 (λ z. unplayed) es track
