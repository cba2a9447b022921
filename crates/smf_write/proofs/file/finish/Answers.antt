use Rattle.std.proofs.Common.{◌≡◌, ◌∙◌, sym, arith, List, map, subst, ℕ}
use Rattle.midi_model.specs.FileText.{MidiFile}
use Rattle.midi_model.specs.Spelling.{Spells}
use Rattle.midi_model.specs.Writing.{written, file_bytes}
use Rattle.mt_base.specs.Midi.{Timed}
use Rattle.smf_write.proofs.Parts.{chunk_step, chunks_end, is_file, is_writable}
use Rattle.smf_write.proofs.file.finish.Goals as goal

pub loop-track-preserved : goal.loop-track-preserved
loop-track-preserved c = chunk_step _ _ _ c.deref-track-items.result.now c.loop-track.track-index c.track-item.result (omega (arith, c.loop-track-test.true)) c.track-item.is c.in_ok-push_chunk.ensures c.loop-track.invariant

written_all : (c : goal.After-drop-tracks-2) (ts : List (List Timed)) → c.args.tracks.items ≡ map written ts → c.loop-track.out.items ≡ file_bytes (record { format = c.args.format; division = c.args.division; tracks = ts })
written_all c ts is = chunks_end _ _ c.deref-track-items.result.now c.loop-track.track-index (omega (arith, c.loop-track-test.false)) c.loop-track.invariant
    ∙ is_file c.args.format c.args.division c.deref-track-items.result.now ts (c.deref-track-items.ensures.value ∙ is)

pub returns : goal.returns
returns c = record {
  bytes = λ ts is. written_all c ts is;
  spells = λ ts is writable.
      let file : MidiFile = record { format = c.args.format; division = c.args.division; tracks = ts } in
      subst (λ (bytes : List ℕ). Spells bytes file) (sym (written_all c ts is))
      (c.writing_laws.ensures.spells file (is_writable c.args.format c.args.division c.args.tracks.items ts is c.requires.one_or_more c.requires.few c.requires.short c.requires.formats (omega (arith, c.ranges.division)) writable));
}
