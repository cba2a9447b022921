use Rattle.std.proofs.Common.{rules, ◌≡◌, ◌∙◌, sym, false, w32, of_z, nat_eq}
use Rattle.retune_model.specs.Faults.{int_eq}
use Rattle.lifetimes.specs.Lists.{has_steps}
use Rattle.lifetimes.proofs.ListedKeys.{keys_listed}
use Rattle.lifetimes.proofs.notes.Notes.sounds.Goals as goal

pub returns-in-Some-clause-keys : goal.returns-in-Some-clause-keys
returns-in-Some-clause-keys c = λ at l.
    let listed : nat_eq (of_z w32 c.in-Some.note.steps) (of_z w32 c.args.steps) ≡ has_steps c.args.self.now.sounding.items c.args.steps =
    search (rules, c.in-Some.ensures.some) in
    listed ∙ sym (keys_listed (λ x. int_eq x.steps c.args.steps) c.args.self.now.struck c.args.self.now.sounding.items at l)

pub returns-in-None-clause-keys : goal.returns-in-None-clause-keys
returns-in-None-clause-keys c = λ at l.
    let listed : false ≡ has_steps c.args.self.now.sounding.items c.args.steps = search (rules, c.in-None.ensures.none) in
    listed ∙ sym (keys_listed (λ x. int_eq x.steps c.args.steps) c.args.self.now.struck c.args.self.now.sounding.items at l)
