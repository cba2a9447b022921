use Rattle.std.proofs.Common.{◌≡◌, true}
use Rattle.midi_model.specs.Notes.{sounds}
use Rattle.retune_model.specs.PlaysTheSame.{until, at_tick, retuned_notes, IsSameNote, HasSameSettings, IsInTune, SoundsTheSame, beginnings, BeginsAlike}
use Rattle.retune_model.proofs.PlaceByPlace.{each_place, all_places, two_hold}
use Rattle.retune_model.proofs.Receivers.{pairwise_weaker}
use Rattle.retune_model.proofs.comparing.place_laws.Goals as goal

pub returns-clause-notes : goal.returns-clause-notes
returns-clause-notes c goes_to part source out = (
  (λ h t. each_place (IsSameNote goes_to) (retuned_notes part (at_tick t source)) (retuned_notes part (at_tick t out)) (h t)),
  (λ h t. all_places (IsSameNote goes_to) (retuned_notes part (at_tick t source)) (retuned_notes part (at_tick t out)) (h t)),
)

pub returns-clause-sound : goal.returns-clause-sound
returns-clause-sound c scaling o device part source out = (
  (λ h. record {
    settings = λ t. each_place (λ a b. sounds a ≡ true → HasSameSettings (until t source) (until t out) a b) (retuned_notes part (at_tick t source)) (retuned_notes part (at_tick t out))
        (pairwise_weaker (λ a b. sounds a ≡ true → SoundsTheSame scaling o device (until t source) (until t out) a b) (λ a b. sounds a ≡ true → HasSameSettings (until t source) (until t out) a b)
        (λ a b f s. (f s).settings) (retuned_notes part (at_tick t source)) (retuned_notes part (at_tick t out)) (h t));
    pitch = λ t. each_place (λ a b. sounds a ≡ true → IsInTune scaling o device (until t source) (until t out) a b) (retuned_notes part (at_tick t source)) (retuned_notes part (at_tick t out))
        (pairwise_weaker (λ a b. sounds a ≡ true → SoundsTheSame scaling o device (until t source) (until t out) a b) (λ a b. sounds a ≡ true → IsInTune scaling o device (until t source) (until t out) a b)
        (λ a b f s. (f s).pitch) (retuned_notes part (at_tick t source)) (retuned_notes part (at_tick t out)) (h t));
  }),
  (λ h t. two_hold (λ a b. sounds a ≡ true → HasSameSettings (until t source) (until t out) a b) (λ a b. sounds a ≡ true → IsInTune scaling o device (until t source) (until t out) a b)
      (λ a b. sounds a ≡ true → SoundsTheSame scaling o device (until t source) (until t out) a b) (λ a b f g s. record { settings = f s; pitch = g s })
      (retuned_notes part (at_tick t source)) (retuned_notes part (at_tick t out))
      (all_places (λ a b. sounds a ≡ true → HasSameSettings (until t source) (until t out) a b) (retuned_notes part (at_tick t source)) (retuned_notes part (at_tick t out)) (h.settings t))
      (all_places (λ a b. sounds a ≡ true → IsInTune scaling o device (until t source) (until t out) a b) (retuned_notes part (at_tick t source)) (retuned_notes part (at_tick t out)) (h.pitch t))),
)

pub returns-clause-beginnings : goal.returns-clause-beginnings
returns-clause-beginnings c scaling o device part source out = (
  (λ h. each_place (BeginsAlike scaling o device) (beginnings part source) (beginnings part out) h),
  (λ h. all_places (BeginsAlike scaling o device) (beginnings part source) (beginnings part out) h),
)

pub returns-clause-valid : goal.returns-clause-valid
returns-clause-valid c holds pair notes last channel = (
  (λ h k low i j. h.one_pair k i j low),
  (λ h. record { one_pair = λ k i j low. h k low i j }),
)
