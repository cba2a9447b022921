use Rattle.std.proofs.Common.{List, [], ◌∷◌, refl}
use Rattle.receiver.specs.declared.playing.Playing.{Playing}
use Rattle.receiver.proofs.Channels.{AreFresh, ◌also◌, fresh_states, fresh_selected, fresh_slot}
use Rattle.receiver.proofs.Limit.{few_defaults}
use Rattle.receiver.proofs.player.Player.new.Goals as goal

pub returns-clause-stands : goal.returns-clause-stands
returns-clause-stands c =
    let xs : List Playing = c.new.result ∷ c.new-2.result ∷ c.new-3.result ∷ c.new-4.result ∷ c.new-5.result ∷ c.new-6.result
    ∷ c.new-7.result ∷ c.new-8.result ∷ c.new-9.result ∷ c.new-10.result ∷ c.new-11.result
    ∷ c.new-12.result ∷ c.new-13.result ∷ c.new-14.result ∷ c.new-15.result ∷ c.new-16.result ∷ [] in
    let fresh : AreFresh xs =
    record { heard = c.new.ensures.heard; own = c.new.ensures.own; tuning = c.new.ensures.tuning }
    also record { heard = c.new-2.ensures.heard; own = c.new-2.ensures.own; tuning = c.new-2.ensures.tuning }
    also record { heard = c.new-3.ensures.heard; own = c.new-3.ensures.own; tuning = c.new-3.ensures.tuning }
    also record { heard = c.new-4.ensures.heard; own = c.new-4.ensures.own; tuning = c.new-4.ensures.tuning }
    also record { heard = c.new-5.ensures.heard; own = c.new-5.ensures.own; tuning = c.new-5.ensures.tuning }
    also record { heard = c.new-6.ensures.heard; own = c.new-6.ensures.own; tuning = c.new-6.ensures.tuning }
    also record { heard = c.new-7.ensures.heard; own = c.new-7.ensures.own; tuning = c.new-7.ensures.tuning }
    also record { heard = c.new-8.ensures.heard; own = c.new-8.ensures.own; tuning = c.new-8.ensures.tuning }
    also record { heard = c.new-9.ensures.heard; own = c.new-9.ensures.own; tuning = c.new-9.ensures.tuning }
    also record { heard = c.new-10.ensures.heard; own = c.new-10.ensures.own; tuning = c.new-10.ensures.tuning }
    also record { heard = c.new-11.ensures.heard; own = c.new-11.ensures.own; tuning = c.new-11.ensures.tuning }
    also record { heard = c.new-12.ensures.heard; own = c.new-12.ensures.own; tuning = c.new-12.ensures.tuning }
    also record { heard = c.new-13.ensures.heard; own = c.new-13.ensures.own; tuning = c.new-13.ensures.tuning }
    also record { heard = c.new-14.ensures.heard; own = c.new-14.ensures.own; tuning = c.new-14.ensures.tuning }
    also record { heard = c.new-15.ensures.heard; own = c.new-15.ensures.own; tuning = c.new-15.ensures.tuning }
    also record { heard = c.new-16.ensures.heard; own = c.new-16.ensures.own; tuning = c.new-16.ensures.tuning }
    also record { each = tt } in
    record {
      channels = fresh_states xs fresh.each;
      zones = refl;
      begun = refl;
      notes = λ d k low below. fresh_slot xs d k d below fresh.each;
      selected = fresh_selected xs fresh.each;
      few = few_defaults 16;
    }
