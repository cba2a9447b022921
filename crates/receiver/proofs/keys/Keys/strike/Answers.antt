use Rattle.std.proofs.Common.{rules, refl, inl, inr}
use Rattle.std.proofs.lemmas.List.{get_or-set_same, get_or-set_other}
use Rattle.std.proofs.lemmas.Bool.Decides.{eqb_tells}
use Rattle.receiver.specs.Notes.{unstruck}
use Rattle.receiver.proofs.Bits.{has_set, has_cleared}
use Rattle.receiver.proofs.keys.Keys.strike.Goals as goal

pub returns : goal.returns
returns c = λ k below.
    let s = c.args.self.now in
    let key = c.args.key in
    rw (has_set s.sounding key k c.requires, has_set s.down key k c.requires, has_cleared s.captured key k c.requires below)
    (elim (eqb_tells k key) [
      | inl t ↦ rw (t.0, t.1, get_or-set_same s.struck key c.args.struck unstruck (search rules)) refl
      | inr t ↦ rw (t.0, get_or-set_other s.struck key k c.args.struck unstruck t.1) refl
    ])
