use Rattle.std.proofs.Common.{sym, ap, ◌∙◌, Some}
use Rattle.scl_text.specs.Forms.{view_form}
use Rattle.scl_text.proofs.Values.{decimals_are}
use Rattle.scl_text.proofs.pitch.pitch.Goals as goal

pub cents-requires : goal.cents-requires
cents-requires c = let f = c.in-Some-Cents in
    decimals_are c.prefixes.ensures
    c.args.line.now f.negative f.whole.now f.decimals.now (sym f.ensures ∙ ap (λ w. Some (view_form w)) f.field-0-is)
