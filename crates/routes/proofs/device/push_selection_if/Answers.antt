use Rattle.std.proofs.Common.{◌≡◌, ◌∙◌, ◌++◌, ℕ, Bool, true, false, sym, ap}
use Rattle.std.proofs.lemmas.List.{append-nil}
use Rattle.midi_model.specs.TuningBytes.{select_of}
use Rattle.receiver.specs.Notes.{has}
use Rattle.routes.specs.Device.{selection_if}
use Rattle.routes.proofs.Channels.{is_there, not_there}
use Rattle.routes.proofs.device.push_selection_if.Goals as goal

pub returns-then-channels-number-ne0 : goal.returns-then-channels-number-ne0
returns-then-channels-number-ne0 c =
    let channel : c.at.result ≡ c.args.number = c.at.ensures in
    let there : has c.args.channels c.args.number ≡ true = is_there 16 c.args.channels c.args.number c.requires.number c.if-channels-number-ne0.true in
    c.push_selection.ensures
    ∙ ap (λ (k : ℕ). c.args.out.now.items ++ select_of k c.args.program) channel
    ∙ ap (λ (b : Bool). c.args.out.now.items ++ selection_if b c.args.number c.args.program) (sym there)

pub returns-else-channels-number-ne0 : goal.returns-else-channels-number-ne0
returns-else-channels-number-ne0 c =
    let gone : has c.args.channels c.args.number ≡ false = not_there 16 c.args.channels c.args.number c.requires.number c.if-channels-number-ne0.false in
    sym (append-nil c.args.out.now.items) ∙ ap (λ (b : Bool). c.args.out.now.items ++ selection_if b c.args.number c.args.program) (sym gone)
