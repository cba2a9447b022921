use Rattle.std.proofs.Common.{refl}
use Rattle.clap.proofs.OnLiterals.{clap_on_literals}
use Rattle.command_line.specs.Words.{number_from}
use Rattle.command_line.specs.Channels.{channels_from}
use Rattle.command_line.proofs.Digits.{numbers_are_read}
use Rattle.command_line.proofs.laws.words_by_example.Goals as goal

pub returns-clause-none : goal.returns-clause-none
unfolding clap_on_literals number_from
returns-clause-none c = refl

pub returns-clause-help : goal.returns-clause-help
unfolding clap_on_literals number_from
returns-clause-help c = refl

pub returns-clause-least : goal.returns-clause-least
unfolding clap_on_literals number_from
returns-clause-least c = refl

pub returns-clause-many : goal.returns-clause-many
unfolding clap_on_literals number_from
returns-clause-many c = refl

pub returns-clause-range : goal.returns-clause-range
unfolding clap_on_literals number_from
returns-clause-range c = refl

pub returns-clause-listed : goal.returns-clause-listed
unfolding clap_on_literals number_from
returns-clause-listed c = refl

pub returns-clause-fits : goal.returns-clause-fits
unfolding clap_on_literals number_from
returns-clause-fits c = refl

pub returns-clause-channels : goal.returns-clause-channels
unfolding channels_from
returns-clause-channels c = refl

pub returns-clause-no_channels : goal.returns-clause-no_channels
unfolding channels_from
returns-clause-no_channels c = refl

pub returns-clause-zero : goal.returns-clause-zero
unfolding channels_from
returns-clause-zero c = refl

pub returns-clause-turned : goal.returns-clause-turned
unfolding channels_from
returns-clause-turned c = refl

pub returns-clause-open : goal.returns-clause-open
unfolding channels_from
returns-clause-open c = refl

pub returns-clause-beyond : goal.returns-clause-beyond
unfolding channels_from
returns-clause-beyond c = refl

pub returns-clause-numbers : goal.returns-clause-numbers
returns-clause-numbers c = numbers_are_read
