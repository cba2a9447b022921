use Rattle.std.proofs.Common.{◌≡◌, ◌+◌, ℕ, List, [], ◌∷◌, get_or, refl, ap, arith}
use Rattle.mt_base.specs.Midi.{Timed}
use Rattle.midi_model.specs.Writing.{most_bytes}
use Rattle.midi_model.specs.SizeLaws.{most_of_track}
use Rattle.midi_model.proofs.Sizes.{most, track_most, spelled_most, spelled_count}
use Rattle.midi_model.proofs.bytes.size_laws.Goals as goal

same : (es : List Timed) → most_of_track es ≡ most es
same [] = refl
same (e ∷ es) = ap (λ (n : ℕ). most_bytes e.what + n) (same es)

pub returns-clause-written : goal.returns-clause-written
returns-clause-written c es = omega (arith, same es, track_most es)

pub returns-clause-track : goal.returns-clause-track
returns-clause-track c bytes file is t = omega (arith, same (get_or file.tracks t []), spelled_most bytes file is t)

pub returns-clause-events : goal.returns-clause-events
returns-clause-events c = spelled_count
