use Rattle.std.proofs.Common.{◌≡◌, ◌∙◌, sym, true, false}
use Rattle.midi_model.specs.Sysex.{is_reset, tuning_of}
use Rattle.receiver.proofs.Stepping.{unplayed}
use Rattle.receiver.proofs.player.Player.system.Goals as goal

pub returns-then-is_reset : goal.returns-then-is_reset
returns-then-is_reset c tick =
    let yes-reset : is_reset c.args.bytes.now ≡ true = sym c.is_reset.ensures ∙ c.if-is_reset.true in
    rw yes-reset (record {
      states = c.reset.ensures.states;
      zones = c.reset.ensures.zones;
      begun = c.reset.ensures.begun;
      notes = c.reset.ensures.notes;
      selected = c.reset.ensures.selected;
    })

pub returns-else-is_reset : goal.returns-else-is_reset
returns-else-is_reset c tick =
    let no-reset : is_reset c.args.bytes.now ≡ false = sym c.is_reset.ensures ∙ c.if-is_reset.false in
    rw no-reset (unplayed c.args.self.now tick (tuning_of c.args.bytes.now))
