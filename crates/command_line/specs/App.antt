-- The command, as `clap` is given it.
use Rattle.std.specs.Prelude.{ℕ, Some, true, codes}
use Rattle.clap.specs.Words.{App, Rule, Text, new_app, new_rule, with_rule}
use Rattle.clap.specs.Simple.{on_top}
use Rattle.clap.specs.declared.builder.ValueParser.TheVariants.{Unsigned}
use Rattle.clap.specs.declared.builder.ArgAction.TheVariants.{Set, SetTrue}

-- an option with a text; one that is required; one with a whole number from low to high; one without a value
abbrev pub text_option : Text → Rule
text_option name = record (new_rule name) { long = Some name; action = Some Set }

abbrev pub required_option : Text → Rule
required_option name = record (text_option name) { required = true }

abbrev pub number_option : Text → ℕ → ℕ → Rule
number_option name low high = record (text_option name) { parser = Some (Unsigned low high) }

abbrev pub flag : Text → Rule
flag name = record (new_rule name) { long = Some name; action = Some SetTrue }

abbrev pub with_scale : App → App
with_scale a = with_rule (with_rule (with_rule a (required_option (codes "scale"))) (text_option (codes "map"))) (flag (codes "a440"))

abbrev pub with_route : App → App
with_route a = with_rule (with_rule (with_rule a (text_option (codes "route"))) (text_option (codes "channels"))) (text_option (codes "drums"))

abbrev pub with_numbers : App → App
with_numbers a = with_rule (with_rule a (number_option (codes "range") 1 96)) (number_option (codes "program") 0 127)

abbrev pub with_more_numbers : App → App
with_more_numbers a = with_rule (with_rule a (number_option (codes "tail") 0 268435455)) (number_option (codes "sample") 1 100000)

-- the input is the one word that belongs to no option
abbrev pub with_files : App → App
with_files a = with_rule (with_rule (with_rule a (flag (codes "audit"))) (required_option (codes "out")))
    (record (new_rule (codes "input")) { required = true; action = Some Set })

abbrev pub app : App
app = with_files (with_more_numbers (with_numbers (with_route (with_scale (on_top (λ s. record s { no_binary_name = true }) (new_app (codes "mtune")))))))
