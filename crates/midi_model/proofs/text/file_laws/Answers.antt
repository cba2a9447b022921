use Rattle.std.proofs.Common.{refl, take, inl, inr}
use Rattle.midi_model.specs.declared.fault.SmfKind.TheVariants.{MissingTrack}
use Rattle.midi_model.proofs.Files.{file_takes, file_again, one_file}
use Rattle.midi_model.proofs.Faulting.{fault_takes, fault_again, one_fault, file_or_fault, never_both}
use Rattle.midi_model.proofs.Cutting.{cut_off}
use Rattle.midi_model.proofs.Placing.{missing_place}
use Rattle.midi_model.proofs.Longest.{longest}
use Rattle.midi_model.proofs.Ending.{offset_is}
use Rattle.midi_model.proofs.Laws.{none_runs}
use Rattle.midi_model.proofs.Playing.{spelled_tracks, spelled_playable}
use Rattle.midi_model.proofs.text.file_laws.Goals as goal

pub returns-clause-one_file : goal.returns-clause-one_file
returns-clause-one_file c bytes a b is is2 = one_file bytes a b is is2

pub returns-clause-found : goal.returns-clause-found
returns-clause-found c bytes file e = file_takes bytes file e

pub returns-clause-only : goal.returns-clause-only
returns-clause-only c bytes file is = file_again bytes file is

pub returns-clause-first : goal.returns-clause-first
returns-clause-first c bytes offset kind e = fault_takes bytes offset kind e

pub returns-clause-read_first : goal.returns-clause-read_first
returns-clause-read_first c bytes offset kind f = fault_again bytes offset kind f

pub returns-clause-one_fault : goal.returns-clause-one_fault
returns-clause-one_fault c bytes at kind at2 kind2 f g = one_fault bytes at kind at2 kind2 f g

pub returns-clause-either : goal.returns-clause-either
returns-clause-either c bytes = file_or_fault bytes

pub returns-clause-never_both : goal.returns-clause-never_both
returns-clause-never_both c bytes file offset kind is f = never_both bytes file offset kind is f

pub returns-clause-tracks : goal.returns-clause-tracks
returns-clause-tracks c bytes file few is = spelled_tracks bytes file few is

pub returns-clause-playable : goal.returns-clause-playable
returns-clause-playable c bytes file few is = spelled_playable bytes file few is

pub returns-clause-cut : goal.returns-clause-cut
returns-clause-cut c bytes file is n lt =
    let r = cut_off bytes file is n lt in
    (r.0, r.1, r.2, r.3, λ other o. never_both (take n bytes) other r.0 r.1 o r.2)

pub returns-clause-longest : goal.returns-clause-longest
returns-clause-longest c content back kind t front rest events running tick are parts = longest 0 0 content back kind t front rest events running tick none_runs are parts

pub returns-clause-offset : goal.returns-clause-offset
returns-clause-offset c bytes offset kind f = offset_is bytes offset kind f

pub returns-clause-exactly_one : goal.returns-clause-exactly_one
returns-clause-exactly_one c bytes = elim (file_or_fault bytes) [
  | inl (file, is) ↦ inl (file, is, (λ other o. one_file bytes other file o is), (λ offset kind f. never_both bytes file offset kind is f))
  | inr (offset, kind, f) ↦ inr (offset, kind, f, (λ at other g. one_fault bytes at other offset kind g f), (λ file is. never_both bytes file offset kind is f))
]

pub returns-clause-missing : goal.returns-clause-missing
returns-clause-missing c bytes offset f = missing_place bytes offset MissingTrack f refl
