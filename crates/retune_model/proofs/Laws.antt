-- The laws of the crates below that the proofs take, as one premise.
use Rattle.mt_base.specs.Laws.{LeastOfSum, MostOfSum, LeastOfExact, MostOfExact, LeastOfLess, MostOfMore}
use Rattle.midi_model.specs.MusicLaws.{EventsSettle, NotesFade}

-- of pitches, which `sums`, `exact` and `wider` state
pub record PitchLaws : Type 0 where
  pub least_of_sum : LeastOfSum
  pub most_of_sum : MostOfSum
  pub least_of_exact : LeastOfExact
  pub most_of_exact : MostOfExact
  pub least_of_less : LeastOfLess
  pub most_of_more : MostOfMore

-- and of music, which `music_laws` states
pub record Laws : Type 0 where
  pub pitch : PitchLaws
  pub settled : EventsSettle
  pub fade : NotesFade

pub laws : LeastOfSum → MostOfSum → LeastOfExact → MostOfExact → LeastOfLess → MostOfMore → EventsSettle → NotesFade → Laws
laws ls ms le me ll mm s f = record {
  pitch = record { least_of_sum = ls; most_of_sum = ms; least_of_exact = le; most_of_exact = me; least_of_less = ll; most_of_more = mm };
  settled = s;
  fade = f;
}
