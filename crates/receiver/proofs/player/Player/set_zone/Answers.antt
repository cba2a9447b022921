use Rattle.std.proofs.Common.{◌∙◌, ap, sym, nat_eq, Some, if◌then◌else◌}
use Rattle.midi_model.specs.Zones.{zones_with, bend_ranges_from}
use Rattle.receiver.specs.Stands.{states_of}
use Rattle.receiver.specs.Zones.{zones_in}
use Rattle.receiver.proofs.Ranges.{by_master, with_members}
use Rattle.receiver.proofs.player.Player.set_zone.Goals as goal

pub returns-then-members-gt0-clause-zones : goal.returns-then-members-gt0-clause-zones
returns-then-members-gt0-clause-zones c = ap zones_in c.give_ranges.ensures.rest.zones ∙ c.set.ensures ∙ ap (λ m. zones_with (Some (if nat_eq m 0 then 0 else 15, c.args.members)) (zones_in c.args.self.now.zones)) c.number.ensures.value ∙ by_master c.args.master c.args.members (zones_in c.args.self.now.zones) c.requires.place

pub returns-then-members-gt0-clause-states : goal.returns-then-members-gt0-clause-states
returns-then-members-gt0-clause-states c =
    let ss = states_of c.args.self.now in
    c.give_ranges.ensures.states
    ∙ ap (λ z. bend_ranges_from (zones_in z) c.args.master 0 ss) (sym c.give_ranges.ensures.rest.zones)
    ∙ sym (with_members c.args.members c.args.master (zones_in c.give_ranges.new.self.zones) ss c.if-members-gt0.true)
