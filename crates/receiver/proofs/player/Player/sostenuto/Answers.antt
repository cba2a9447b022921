use Rattle.std.proofs.Common.{rules, ◌≡◌, ◌∙◌, sym, ap, true, false}
use Rattle.midi_model.specs.Channel.{control_of}
use Rattle.midi_model.specs.Music.{channel_at}
use Rattle.midi_model.specs.Notes.{is_pedal_down}
use Rattle.receiver.specs.Stands.{slot, set_up_of}
use Rattle.receiver.specs.Zones.{zones_in}
use Rattle.receiver.proofs.Here.{slot_here}
use Rattle.receiver.proofs.Pedals.{goes_down, goes_up, stays_down, stays_up}
use Rattle.receiver.proofs.Loops.{pedal_here}
use Rattle.receiver.proofs.player.Player.sostenuto.Goals as goal

pub returns-then-not-is_down-clause-notes : goal.returns-then-not-is_down-clause-notes
returns-then-not-is_down-clause-notes c d k dl kl =
    let s = c.args.self.now in
    let b = control_of (channel_at (set_up_of s) c.args.channel) 66 in
    let was : is_pedal_down b ≡ true =
    ap is_pedal_down (pedal_here s.channels c.number.result c.args.channel c.index-self-number.result 66 (search rules) c.number.ensures.value ∙ sym c.get-before.ensures) ∙ sym c.is_down.ensures ∙ c.if-is_down.true in
    let is : is_pedal_down c.args.value ≡ false = sym c.is_down-then-is_down.ensures ∙ c.if-not-is_down.true in
    c.turn.ensures.notes d k dl kl ∙ sym (goes_up (zones_in s.zones) c.args.channel b c.args.value c.args.tick (slot s d k) was is)

pub returns-else-not-is_down-clause-notes : goal.returns-else-not-is_down-clause-notes
returns-else-not-is_down-clause-notes c d k dl kl =
    let s = c.args.self.now in
    let b = control_of (channel_at (set_up_of s) c.args.channel) 66 in
    let was : is_pedal_down b ≡ true =
    ap is_pedal_down (pedal_here s.channels c.number.result c.args.channel c.index-self-number.result 66 (search rules) c.number.ensures.value ∙ sym c.get-before.ensures) ∙ sym c.is_down.ensures ∙ c.if-is_down.true in
    let is : is_pedal_down c.args.value ≡ true = sym c.is_down-then-is_down.ensures ∙ c.if-not-is_down.false in
    sym (stays_down (zones_in s.zones) c.args.channel b c.args.value d k (slot s d k) (slot_here s.channels d k) was is)

pub returns-then-is_down-2-clause-notes : goal.returns-then-is_down-2-clause-notes
returns-then-is_down-2-clause-notes c d k dl kl =
    let s = c.args.self.now in
    let b = control_of (channel_at (set_up_of s) c.args.channel) 66 in
    let was : is_pedal_down b ≡ false =
    ap is_pedal_down (pedal_here s.channels c.number.result c.args.channel c.index-self-number.result 66 (search rules) c.number.ensures.value ∙ sym c.get-before.ensures) ∙ sym c.is_down.ensures ∙ c.if-is_down.false in
    let is : is_pedal_down c.args.value ≡ true = sym c.is_down-else-is_down.ensures ∙ c.if-is_down-2.true in
    c.turn-then-is_down-2.ensures.notes d k dl kl ∙ sym (goes_down (zones_in s.zones) c.args.channel b c.args.value c.args.tick (slot s d k) was is)

pub returns-else-is_down-2-clause-notes : goal.returns-else-is_down-2-clause-notes
returns-else-is_down-2-clause-notes c d k dl kl =
    let s = c.args.self.now in
    let b = control_of (channel_at (set_up_of s) c.args.channel) 66 in
    let was : is_pedal_down b ≡ false =
    ap is_pedal_down (pedal_here s.channels c.number.result c.args.channel c.index-self-number.result 66 (search rules) c.number.ensures.value ∙ sym c.get-before.ensures) ∙ sym c.is_down.ensures ∙ c.if-is_down.false in
    let is : is_pedal_down c.args.value ≡ false = sym c.is_down-else-is_down.ensures ∙ c.if-is_down-2.false in
    sym (stays_up (zones_in s.zones) c.args.channel b c.args.value d k (slot s d k) (slot_here s.channels d k) was is)
