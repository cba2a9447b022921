use Rattle.std.proofs.Common.{rules, get_or, refl, inl, inr}
use Rattle.std.proofs.lemmas.List.{get_or-set_same, get_or-set_other}
use Rattle.std.proofs.lemmas.Bool.Decides.{eqb_tells}
use Rattle.receiver.specs.Notes.{has, unstruck}
use Rattle.receiver.proofs.Bits.{has_cleared, has_tested, has_not_tested}
use Rattle.receiver.proofs.LettingUp.{down_goes_up, up_stays}
use Rattle.receiver.proofs.keys.Keys.release.Goals as goal

pub returns-then-self-bit-ne0 : goal.returns-then-self-bit-ne0
returns-then-self-bit-ne0 c = λ k below.
    let s = c.args.self.now in
    let key = c.args.key in
    rw (has_cleared s.down key k c.requires below)
    (elim (eqb_tells k key) [
      | inl t ↦ rw (t.0, t.1, get_or-set_same s.struck key _ unstruck (search rules), has_tested s.down key c.requires c.if-self-bit-ne0.true)
          (down_goes_up (get_or s.struck key unstruck) c.args.tick c.args.velocity (has s.sounding key) (has s.captured key))
      | inr t ↦ rw (t.0, get_or-set_other s.struck key k _ unstruck t.1) refl
    ])

pub returns-else-self-bit-ne0 : goal.returns-else-self-bit-ne0
returns-else-self-bit-ne0 c = λ k below.
    let s = c.args.self.now in
    let key = c.args.key in
    elim (eqb_tells k key) [
      | inl t ↦ rw (t.0, t.1, has_not_tested s.down key c.requires c.if-self-bit-ne0.false)
          (up_stays (get_or s.struck key unstruck) c.args.tick c.args.velocity (has s.sounding key) (has s.captured key))
      | inr t ↦ rw t.0 refl
    ]
