use Rattle.std.proofs.Common.{rules, ◌≡◌, false, is_some, w32, to_z, of_z}
use Rattle.std.specs.Prelude.{is_ok}
use Rattle.lifetimes.proofs.Edits.{when_none, maybe_rises, maybe_ends, maybe_admitted}
use Rattle.lifetimes.proofs.rests.Rests.admit.Goals as goal

pub invariant_of-self : goal.invariant_of-self
invariant_of-self c = record {
  rising =
      (let xs = c.args.self.now.items.items in
      let lone : is_some c.place.result ≡ false = search (rules, c.is_some.ensures, c.if-is_some.false) in
      let none = when_none c.place.result lone c.place.ensures.none in
      maybe_rises (is_ok c.insert.result) xs c.insert.new.self.items c.from-place.result _ c.insert.ensures.items c.from-place.ensures.bound c.args.self.now.rising c.from-place.ensures.point none);
}

pub returns-in-Ok-clause-ends : goal.returns-in-Ok-clause-ends
returns-in-Ok-clause-ends c = λ q.
    let xs = c.args.self.now.items.items in
    let lone : is_some c.place.result ≡ false = search (rules, c.is_some.ensures, c.if-is_some.false) in
    let none = when_none c.place.result lone c.place.ensures.none in
    maybe_ends (is_ok c.insert.result) xs c.insert.new.self.items c.from-place.result (to_z w32 (of_z w32 c.args.steps)) q c.insert.ensures.items none

pub returns-in-Ok-clause-admitted : goal.returns-in-Ok-clause-admitted
returns-in-Ok-clause-admitted c = λ q a.
    maybe_admitted (is_ok c.insert.result) c.args.self.now.items.items c.insert.new.self.items c.from-place.result _ q c.insert.ensures.items c.from-place.ensures.bound a
