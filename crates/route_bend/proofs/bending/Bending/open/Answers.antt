use Rattle.std.proofs.Common.{◌≡◌, ◌++◌, ◌∷◌, [], List, None, length, rules, sym, ap, subst, ◌∙◌}
use Rattle.std.proofs.lemmas.Bool.{ne_eqb}
use Rattle.route_bend.specs.declared.channels.Channels.{Channels}
use Rattle.route_bend.specs.Channels.{IsFresh}
use Rattle.route_bend.specs.Standing.{found_in}
use Rattle.route_bend.specs.Preparing.{IsFoundAt}
use Rattle.route_bend.proofs.Found.{others_found, last_is, last_found}
use Rattle.route_bend.proofs.bending.Bending.open.Goals as goal

pub returns-in-Ok-clause-found : goal.returns-in-Ok-clause-found
returns-in-Ok-clause-found c =
    let ss = c.args.self.now.ports.items in
    let none : found_in ss c.args.port ≡ None =
    subst (λ (l : List Channels). found_in l c.args.port ≡ None) c.as_slice.ensures.value c.in_default.ensures.none in
    let long : length ss ≡ c.len-place.result = search rules in
    subst (λ (l : List Channels). IsFoundAt l c.args.port c.len-place.result) (sym c.in-Ok.ensures.items)
    (subst (λ n. IsFoundAt (ss ++ c.new.result ∷ []) c.args.port n) long
    (last_found ss c.new.result c.args.port c.new.ensures.port none))

pub returns-in-Ok-clause-others : goal.returns-in-Ok-clause-others
returns-in-Ok-clause-others c = λ z other.
    ap (λ (l : List Channels). found_in l z) c.in-Ok.ensures.items
    ∙ others_found c.args.self.now.ports.items c.new.result z (ne_eqb c.new.result.port z (λ f. other (sym f ∙ c.new.ensures.port)))

pub returns-in-Ok-clause-fresh : goal.returns-in-Ok-clause-fresh
returns-in-Ok-clause-fresh c = λ s none is.
    let one : c.new.result ≡ s = last_is c.args.self.now.ports.items c.new.result s c.args.port c.new.ensures.port none
    (sym (ap (λ (l : List Channels). found_in l c.args.port) c.in-Ok.ensures.items) ∙ is) in
    (ap (λ (x : Channels). x.port) (sym one) ∙ c.new.ensures.port, subst IsFresh one c.new.ensures.fresh)
