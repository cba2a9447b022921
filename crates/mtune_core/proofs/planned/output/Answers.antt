use Rattle.std.proofs.Common.{◌≡◌, ◌<◌, ◌^◌, ℕ, List, length, map, ap, sym, subst, ◌∙◌, arith}
use Rattle.std.specs.Prelude.{All, IfOk}
use Rattle.std.proofs.lemmas.List.{length-map}
use Rattle.mt_base.specs.Midi.{MidiEvent}
use Rattle.midi_model.specs.Merged.{merged}
use Rattle.midi_model.specs.Writing.{Written, written, file_bytes}
use Rattle.event_stream.specs.Distributed.{distributed}
use Rattle.smf_write.specs.Content.{file_of}
use Rattle.key_pitch.specs.Aims.{by_onset}
use Rattle.command_line.specs.Words.{view_command}
use Rattle.mtune_core.specs.Asked.{allowed_by}
use Rattle.mtune_core.specs.OutputLaws.{IsSourceOf}
use Rattle.mtune_core.specs.Written.{planned_events}
use Rattle.mtune_core.proofs.ByPlan.{formats}
use Rattle.mtune_core.proofs.Dealt.{length_dealt}
use Rattle.mtune_core.proofs.planned.output.Goals as goal

-- the source and its plan
its_source : (c : goal.After-into_tracks) → IsSourceOf (view_command c.args.command.now).options (allowed_by (view_command c.args.command.now))
    (by_onset c.args.table.now) c.args.smf.now c.args.plan.now
its_source c = record {
  playable = c.tracks.ensures.playable;
  bends = c.requires.bends;
  range = c.requires.range;
  taken = c.requires.taken;
  is_plan = c.requires.plan;
}

abbrev its_events : goal.After-into_tracks → List MidiEvent
its_events c = planned_events (view_command c.args.command.now).options.route (view_command c.args.command.now).options
    (allowed_by (view_command c.args.command.now)) (by_onset c.args.table.now)
    c.args.plan.now (merged c.args.smf.now)

-- the tracks stand for what is made by the plan
its_texts : (c : goal.After-into_tracks) → c.into_tracks.result.items ≡ map written (distributed (length c.args.smf.now.tracks) (its_events c))
its_texts c = c.into_tracks.ensures.tracks ∙ c.in_ok-put_events.ensures.put

how_many : (c : goal.After-into_tracks) → length c.into_tracks.result.items ≡ length c.args.smf.now.tracks
how_many c =
    let n = length c.args.smf.now.tracks in
    ap length (its_texts c) ∙ length-map (distributed n (its_events c)) written ∙ length_dealt 0 n (its_events c)

pub finish-requires-clause-one_or_more : goal.finish-requires-clause-one_or_more
finish-requires-clause-one_or_more c = let len = how_many c in omega (arith, len, c.tracks.ensures.some, c.tracks.ensures.value)

pub finish-requires-clause-few : goal.finish-requires-clause-few
finish-requires-clause-few c = let len = how_many c in omega (arith, len, c.tracks.ensures.few, c.tracks.ensures.value)

pub finish-requires-clause-ended : goal.finish-requires-clause-ended
finish-requires-clause-ended c =
    let k = view_command c.args.command.now in
    c.into_tracks.ensures.ended (length c.args.smf.now.tracks) (its_events c) c.in_ok-put_events.ensures.put
    (c.planned_is_playable.ensures k.options (allowed_by k) (by_onset c.args.table.now) c.args.smf.now c.args.plan.now (its_source c))

pub finish-requires-clause-short : goal.finish-requires-clause-short
finish-requires-clause-short c =
    let k = view_command c.args.command.now in
    let bytes = c.requires.short in
    subst (All (λ (w : Written). length w.bytes < 2 ^ 32)) (sym (its_texts c))
    (c.planned_is_short.ensures bytes.0 k.options (allowed_by k) (by_onset c.args.table.now) c.args.smf.now c.args.plan.now bytes.1 bytes.2
    (its_source c))

pub finish-requires-clause-formats : goal.finish-requires-clause-formats
finish-requires-clause-formats c =
    let few = c.requires.format in
    formats c.format.result (length c.into_tracks.result.items) (length c.args.smf.now.tracks) (omega (arith, few, c.format.ensures))
    (λ e. c.requires.one (sym c.format.ensures ∙ e)) (how_many c)

pub returns : goal.returns
returns c =
    let k = view_command c.args.command.now in
    let events = planned_events k.options.route k.options (allowed_by k) (by_onset c.args.table.now) c.args.plan.now (merged c.args.smf.now) in
    let ts = distributed (length c.args.smf.now.tracks) events in
    let texts : c.into_tracks.result.items ≡ map written ts = c.into_tracks.ensures.tracks ∙ c.in_ok-put_events.ensures.put in
    subst (λ (f : ℕ). IfOk c.finish.result (λ v. v.items ≡ file_bytes (file_of f c.args.smf.now.division ts))) c.format.ensures
    (subst (λ (d : ℕ). IfOk c.finish.result (λ v. v.items ≡ file_bytes (file_of c.format.result d ts))) c.division.ensures
    (c.finish.ensures.bytes ts texts))
