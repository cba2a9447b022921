use Rattle.std.proofs.Common.{◌+◌, ◌*◌, ◌^◌, ◌%◌, refl, sym, ◌∙◌, arith}
use Rattle.std.specs.Int.Bits.{bit_or}
use Rattle.mt_base.specs.Midi.{view}
use Rattle.lifetimes.specs.Views.{options_of}
use Rattle.mtune_core.proofs.Surveyed.{with_key, without_key, low_key, no_key}
use Rattle.mtune_core.proofs.counting.Used.take.Goals as goal

pub returns-in-Some : goal.returns-in-Some
returns-in-Some c = λ es used.
    let old = c.args.self.now in
    let key = c.in-Some.key in
    with_key (options_of c.args.options) es (view c.args.event.now) key old
    (record { notes = old.notes + 1; keys = bit_or old.keys (1 * 2 ^ key % 2 ^ 128) }) (sym c.begun.ensures.key ∙ c.in-Some.is)
    (low_key c.begun.result key c.in-Some.is c.begun.ensures.low) (omega arith) refl used

pub returns-in_default : goal.returns-in_default
returns-in_default c = λ es used. without_key (options_of c.args.options) es (view c.args.event.now) c.args.self.now
    (sym c.begun.ensures.key ∙ no_key c.begun.result c.in_default.not-Some) used
