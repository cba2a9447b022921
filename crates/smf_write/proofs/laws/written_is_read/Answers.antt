use Rattle.midi_model.specs.Writing.{file_bytes}
use Rattle.smf_write.proofs.laws.written_is_read.Goals as goal

pub returns : goal.returns
returns c =
    let spelt = c.writing_laws.ensures.spells in
    record {
      spells = spelt;
      only = λ file other h is. c.file_laws.ensures.one_file (file_bytes file) other file is (spelt file h);
      again = λ file h. c.file_laws.ensures.only (file_bytes file) file (spelt file h);
      shortest = c.writing_laws.ensures.shortest;
    }
