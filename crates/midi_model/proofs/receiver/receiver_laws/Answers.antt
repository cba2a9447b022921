use Rattle.std.proofs.Common.{◌≤◌, subst, sym}
use Rattle.std.specs.List.{AllByRecursion}
use Rattle.midi_model.specs.Notes.{sounding_on}
use Rattle.midi_model.specs.Zones.{AreApart}
use Rattle.midi_model.specs.Music.{Music}
use Rattle.midi_model.specs.Receiver.{start}
use Rattle.midi_model.specs.Order.{EndsInTime}
use Rattle.midi_model.proofs.Channels.{zones_apart}
use Rattle.midi_model.proofs.Fades.{one_sounds}
use Rattle.midi_model.proofs.Same.{music_all}
use Rattle.midi_model.proofs.Timely.{ends_in_time}
use Rattle.midi_model.proofs.receiver.receiver_laws.Goals as goal

pub returns-clause-one_note : goal.returns-clause-one_note
returns-clause-one_note c = λ es ch k. subst (λ (m : Music). sounding_on ch k m.notes ≤ 1) (sym (music_all start es)) (one_sounds es ch k)

pub returns-clause-zones_apart : goal.returns-clause-zones_apart
returns-clause-zones_apart c = λ es. subst (λ (m : Music). AreApart m.zones) (sym (music_all start es)) (zones_apart es)

pub returns-clause-ends_in_time : goal.returns-clause-ends_in_time
returns-clause-ends_in_time c = λ es o. subst (λ (m : Music). AllByRecursion EndsInTime m.notes) (sym (music_all start es)) (ends_in_time es o)
