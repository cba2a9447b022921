use Rattle.std.proofs.Common.{rules, ◌∙◌, sym}
use Rattle.mt_base.specs.Midi.{view}
use Rattle.lifetimes.proofs.Ported.{names, speaks, passes}
use Rattle.lifetimes.proofs.tracks.Tracks.take.Goals as goal

pub returns-in-Some : goal.returns-in-Some
returns-in-Some c = λ es s. names c.args.self.now.ports c.args.self.now.started es (view c.args.event.now) c.in-Some.port (search rules) (search rules) (sym c.named_port.ensures ∙ c.in-Some.is) s

pub returns-then-is_message : goal.returns-then-is_message
returns-then-is_message c = λ es s. speaks c.args.self.now.ports c.args.self.now.started es (view c.args.event.now) (search rules) (sym c.named_port.ensures ∙ c.in-None.is) (sym c.is_message.ensures ∙ c.if-is_message.true) s

pub returns-else-is_message : goal.returns-else-is_message
returns-else-is_message c = λ es s. passes c.args.self.now.ports c.args.self.now.started es (view c.args.event.now) (sym c.named_port.ensures ∙ c.in-None.is) (sym c.is_message.ensures ∙ c.if-is_message.false) s
