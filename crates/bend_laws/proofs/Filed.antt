-- The sentences of a file: those of its ports, and those of all its events.
use Rattle.std.proofs.Common.{◌≡◌, ◌≤◌, ◌<◌, ℕ, Bool, List, ap, sym, ◌∙◌, subst, length, map, filter, get_or, suc, true, arith}
use Rattle.std.specs.List.{AllByRecursion}
use Rattle.mt_base.specs.Midi.{MidiEvent}
use Rattle.mt_base.specs.Valid.{IsValidEvent}
use Rattle.midi_model.specs.WellFormed.{IsWellFormed}
use Rattle.midi_model.specs.Merged.{IsPlayable, merged}
use Rattle.midi_model.specs.FileText.{MidiFile}
use Rattle.midi_model.specs.Music.{quiet, channel_at, play, Music, state_at}
use Rattle.retune_model.specs.Table.{Scaling}
use Rattle.midi_model.specs.Notes.{Note}
use Rattle.midi_model.specs.Receiver.{start, after}
use Rattle.retune_model.specs.Options.{Options, keeps_drums, is_retuned}
use Rattle.retune_model.specs.Ports.{Numbered, of_port, port_at, events_on, all_zero}
use Rattle.retune_model.specs.PlaysTheSame.{plain_device, PlayTheSame, PlaysTheSameMusic, KeepsDrums, HasSameShape, PlaysTheSame}
use Rattle.retune_model.specs.Faults.{Targets}
use Rattle.retune_model.specs.Pairs.{Pair, is_same_pair, channels_of}
use Rattle.retune_model.specs.Runs.{since}
use Rattle.channel_model.specs.Choice.{from_state}
use Rattle.channel_model.specs.Rows.{used_row, IsBendPlan}
use Rattle.bend_laws.specs.Brought.{IsSameAside}
use Rattle.channel_model.specs.Laws.{BentPorts}
use Rattle.channel_model.specs.BendOutput.{PortRuns, runs_on, bend_output}
use Rattle.bend_laws.specs.Moments.{port_output, Both}
use Rattle.bend_laws.specs.Follows.{AreUsed, SoundAmong, Follows}
use Rattle.bend_laws.specs.Positions.{both_at, up_to_position}
use Rattle.bend_laws.proofs.Planning.{IsPlanned}
use Rattle.bend_laws.specs.Simulation.{PlaysAt, IsState, planned_channels}
use Rattle.midi_model.proofs.Same.{music_all}
use Rattle.bend_laws.proofs.Opening.{all_blocks}
use Rattle.bend_laws.proofs.Drumless.{notes_either}
use Rattle.bend_laws.proofs.Ticks.{AreTimely}
use Rattle.bend_laws.specs.Bent.{uses, IsBent, IsTuned, IsOnUsed, NoneHeld}
use Rattle.bend_laws.proofs.Given.{Laws}
use Rattle.bend_laws.proofs.Shown.{plays_at, free_silent}
use Rattle.bend_laws.proofs.Outputs.{out_is, blocks_are}
use Rattle.bend_laws.proofs.Righting.{output_valid, output_used, keeps_all_drums}
use Rattle.bend_laws.proofs.Musical.{MusicLaws, same_music}
use Rattle.bend_laws.proofs.Passing.{keeps_all_others}
use Rattle.bend_laws.proofs.Orderly.{output_playable}
use Rattle.bend_laws.proofs.Rows.{row_used, lane_used, lane_apart}
use Rattle.bend_laws.proofs.Placing.{all_of_ports}
use Rattle.bend_laws.proofs.Ported.{PortFacts, timely_port, planned_port, placed_on}
use Rattle.bend_laws.proofs.Simulates.{follows_at, source_is}
use Rattle.bend_laws.proofs.Leaving.{IsLane, left_as}
use Rattle.bend_laws.proofs.States.{silent_pressures}
use Rattle.bend_laws.proofs.Quieting.{keys_as}

-- a port of the file, with its plan
pub record OnPort (o : Options) (allowed : ℕ → Bool) (table : Targets) (es : List MidiEvent) (need : ℕ → ℕ) (channel : ℕ → ℕ → Pair → ℕ)
    (z : ℕ) : Type 0 where
  pub used : AreUsed o (uses o allowed (need z))
  pub planned : IsPlanned IsWellFormed o table (uses o allowed (need z)) (runs_on o table es channel z) (of_port z es) (length es)
  pub timely : AreTimely (of_port z es) (length es)

pub on_port : PortFacts → (o : Options) (allowed : ℕ → Bool) (table : Targets) (es : List MidiEvent) (need : ℕ → ℕ) (channel : ℕ → ℕ → Pair → ℕ) →
    IsBent o allowed table es need channel → (z : ℕ) → OnPort o allowed table es need channel z
on_port f o allowed table es need channel b z = record {
  used = row_used o allowed (need z) b.route;
  planned = planned_port f o allowed table es need channel b z;
  timely = timely_port f.timed o allowed table es need channel b z;
}

pub port_plays : Laws IsWellFormed → PortFacts → (o : Options) (allowed : ℕ → Bool) (table : Targets) (es : List MidiEvent) (need : ℕ → ℕ)
    (channel : ℕ → ℕ → Pair → ℕ) → IsBent o allowed table es need channel → (z k : ℕ) → k ≤ length es →
    (let runs = runs_on o table es channel z in PlaysAt o table (uses o allowed (need z)) runs (of_port z es) k
    (both_at o table runs (of_port z es) k))
port_plays laws f o allowed table es need channel b z k low =
    let p : OnPort o allowed table es need channel z = on_port f o allowed table es need channel b z in
    plays_at IsWellFormed laws o table (uses o allowed (need z)) p.used (runs_on o table es channel z) (of_port z es) (length es) p.planned k low

pub port_blocks : PortFacts → (o : Options) (allowed : ℕ → Bool) (table : Targets) (es : List MidiEvent) (need : ℕ → ℕ)
    (channel : ℕ → ℕ → Pair → ℕ) → IsBent o allowed table es need channel → (z k : ℕ) →
    (let runs = runs_on o table es channel z in
    (both_at o table runs (of_port z es) k).out ≡ play quiet (port_output o table runs quiet quiet (up_to_position k (of_port z es))))
port_blocks f o allowed table es need channel b z k =
    let runs : PortRuns = runs_on o table es channel z in
    out_is o table runs (of_port z es) k ∙ ap (play quiet)
    (blocks_are o table runs (of_port z es) k (on_port f o allowed table es need channel b z).timely.rising)

-- the output of the file, by its ports
abbrev written : Options → Targets → (ℕ → ℕ → Pair → ℕ) → List MidiEvent → ℕ → List MidiEvent
written o table channel es z = port_output o table (runs_on o table es channel z) quiet quiet (of_port z es)

pub same_file : MusicLaws → PortFacts → BentPorts → (o : Options) (allowed : ℕ → Bool) (table : Targets) (es : List MidiEvent) (need : ℕ → ℕ)
    (channel : ℕ → ℕ → Pair → ℕ) → IsBent o allowed table es need channel →
    (scaling : Scaling) → IsTuned scaling o table → PlayTheSame scaling o table (plain_device o) es (bend_output o table channel es)
same_file m f ports o allowed table es need channel b scaling tuned =
    let is : (z : ℕ) → events_on z (bend_output o table channel es) ≡ written o table channel es z = λ z. ports o table channel es z in
    record {
      music = λ z. (
          let p : OnPort o allowed table es need channel z = on_port f o allowed table es need channel b z in
          subst (PlaysTheSameMusic scaling o table (plain_device o) (events_on z es)) (sym (is z))
          (same_music m scaling o table (uses o allowed (need z)) p.used (runs_on o table es channel z) (of_port z es) (length es) p.planned
          (record { timely = p.timely; bounds = tuned.bounds; few_terms = tuned.few_terms; range = tuned.range })));
      others = keeps_all_others o table (runs_on o table es channel) es b.sound.bends;
      drums = λ z. (
          let p : OnPort o allowed table es need channel z = on_port f o allowed table es need channel b z in
          subst (KeepsDrums o (events_on z es)) (sym (is z))
          (keeps_all_drums IsWellFormed m.laws o table (uses o allowed (need z)) p.used (runs_on o table es channel z) (of_port z es)
          (length es) p.planned p.timely));
    }

pub whole_file : MusicLaws → PortFacts → BentPorts → (o : Options) (allowed : ℕ → Bool) (table : Targets) (need : ℕ → ℕ)
    (channel : ℕ → ℕ → Pair → ℕ) (source out : MidiFile) → HasSameShape source out → merged out ≡ bend_output o table channel (merged source) →
    IsBent o allowed table (merged source) need channel → (scaling : Scaling) → IsTuned scaling o table → PlaysTheSame scaling o table source out
whole_file m f ports o allowed table need channel source out shape is b scaling tuned = record {
  shape = shape;
  events = subst (PlayTheSame scaling o table (plain_device o) (merged source)) (sym is)
      (same_file m f ports o allowed table (merged source) need channel b scaling tuned);
}

pub file_playable : Laws IsWellFormed → PortFacts → BentPorts → (o : Options) (allowed : ℕ → Bool) (table : Targets) (es : List MidiEvent)
    (need : ℕ → ℕ) (channel : ℕ → ℕ → Pair → ℕ) → IsBent o allowed table es need channel →
    (tracks : ℕ) → IsPlayable tracks es → IsPlayable tracks (bend_output o table channel es)
file_playable laws f ports o allowed table es need channel b tracks playable =
    let valid : (z : ℕ) → AllByRecursion IsValidEvent (events_on z (bend_output o table channel es)) = λ z. (
    let p : OnPort o allowed table es need channel z = on_port f o allowed table es need channel b z in
    subst (AllByRecursion IsValidEvent) (sym (ports o table channel es z))
    (output_valid IsWellFormed laws o table (uses o allowed (need z)) p.used (runs_on o table es channel z) (of_port z es)
    (length es) p.planned p.timely)) in
    output_playable tracks o table (runs_on o table es channel) es (all_of_ports IsValidEvent all_zero 0
    (bend_output o table channel es) valid) playable

pub file_used : Laws IsWellFormed → PortFacts → BentPorts → (o : Options) (allowed : ℕ → Bool) (table : Targets) (es : List MidiEvent)
    (need : ℕ → ℕ) (channel : ℕ → ℕ → Pair → ℕ) → IsBent o allowed table es need channel →
    (z : ℕ) → AllByRecursion (IsOnUsed o (uses o allowed (need z))) (events_on z (bend_output o table channel es))
file_used laws f ports o allowed table es need channel b z =
    let p : OnPort o allowed table es need channel z = on_port f o allowed table es need channel b z in
    subst (AllByRecursion (IsOnUsed o (uses o allowed (need z)))) (sym (ports o table channel es z))
    (output_used IsWellFormed laws o table (uses o allowed (need z)) p.used (runs_on o table es channel z) (of_port z es)
    (length es) p.planned p.timely)

pub port_left : Laws IsWellFormed → PortFacts → (o : Options) (allowed : ℕ → Bool) (table : Targets) (es : List MidiEvent) (need : ℕ → ℕ)
    (channel : ℕ → ℕ → Pair → ℕ) → IsBent o allowed table es need channel →
    (z instant : ℕ) (row : ℕ → ℕ) → IsBendPlan o allowed table es z (need z) instant row (channel z) → (k i : ℕ) → k < length es → i < need z →
    (let runs = runs_on o table es channel z in let c = get_or (used_row o allowed (need z)) i 0 in
    NoneHeld runs k c → IsState (state_at (both_at o table runs (of_port z es) k).out c) (from_state o table (port_at es z) row i k))
port_left laws f o allowed table es need channel b z instant row plan k i low small free =
    let n : ℕ = need z in
    let runs : PortRuns = runs_on o table es channel z in
    let used : List ℕ = used_row o allowed n in
    let c : ℕ = get_or used i 0 in
    let p : OnPort o allowed table es need channel z = on_port f o allowed table es need channel b z in
    let lane : IsLane runs (length es) row i c = record {
      here = λ j q l m h. plan.given j q ∙ ap (λ x. get_or used x 0) h;
      there = λ j q l m h. lane_apart o allowed n plan.within (row (since is_same_pair runs.pairs q j)) i
          ((placed_on f o allowed table es need channel b z instant row plan j l).below q m) small (sym (plan.given j q) ∙ h);
    } in
    let here : Both = both_at o table runs (of_port z es) k in
    let u : uses o allowed n c ≡ true = lane_used o allowed n plan.within i small in
    let at_most : k ≤ length es = omega (arith, low) in
    let follows : Follows IsWellFormed z o table (uses o allowed n) (runs.channel k) (runs.pairs k) here =
    follows_at IsWellFormed laws o table (uses o allowed n) p.used runs (of_port z es) (length es) p.planned k at_most in
    let among : SoundAmong z o table (runs.held (suc k)) here.source.notes =
    subst (λ (m : Music). SoundAmong z o table (runs.held (suc k)) m.notes) (sym (source_is o table runs (of_port z es) k)) (p.planned.held k low) in
    record {
      own = subst (IsSameAside (channel_at here.out c))
          (left_as IsWellFormed laws o table (uses o allowed n) p.used runs (port_at es z) (length es) p.planned p.timely.rising row i c lane k
          at_most free)
          (follows.states c u);
      keys = silent_pressures c here.out.notes
          (free_silent z o table (uses o allowed n) p.used (runs.channel k) (runs.held (suc k)) here follows.notes among c u free) 0 128
          ∙ sym (keys_as IsWellFormed o table (uses o allowed n) runs (port_at es z) (length es) p.planned p.timely.rising row i c lane k low free);
    }

-- the retuned notes of a port of the output are on the channels that the plan names
pub port_channels : Laws IsWellFormed → PortFacts → BentPorts → (o : Options) (allowed : ℕ → Bool) (table : Targets) (es : List MidiEvent)
    (need : ℕ → ℕ) (channel : ℕ → ℕ → Pair → ℕ) → IsBent o allowed table es need channel →
    (z : ℕ) → channels_of (is_retuned (keeps_drums o (events_on z es))) z (bend_output o table channel es)
    ≡ planned_channels o table (runs_on o table es channel z) (of_port z es) (length es)
port_channels laws f ports o allowed table es need channel b z =
    let runs : PortRuns = runs_on o table es channel z in
    let ns : List Numbered = of_port z es in
    let last : ℕ = length es in
    let out : List MidiEvent = port_output o table runs quiet quiet ns in
    let p : OnPort o allowed table es need channel z = on_port f o allowed table es need channel b z in
    let drums : Bool = keeps_drums o (events_on z es) in
    let on : (ℕ → Bool) → List Note → List ℕ = λ part ms. map (λ (n : Note). n.channel) (filter (λ (n : Note). part n.channel) ms) in
    let played : (both_at o table runs ns last).out ≡ play quiet out =
    out_is o table runs ns last ∙ ap (play quiet) (all_blocks o table runs ns last p.timely) in
    ap (λ (xs : List MidiEvent). on (is_retuned drums) (after xs).music.notes) (ports o table channel es z)
    ∙ ap (λ (m : Music). on (is_retuned drums) m.notes) (music_all start out)
    ∙ ap (map (λ (n : Note). n.channel)) (notes_either IsWellFormed laws o table (uses o allowed (need z)) p.used runs ns last p.planned p.timely)
    ∙ ap (λ (m : Music). on (is_retuned o.keep_drums) m.notes) (sym played)
    ∙ (plays_at IsWellFormed laws o table (uses o allowed (need z)) p.used runs ns last p.planned last (omega arith)).channels
