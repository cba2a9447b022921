use Rattle.std.proofs.Common.{rules, ◌≡◌, ◌∙◌, ◌+◌, suc, true, cond, refl, sym, ap, arith}
use Rattle.std.proofs.lemmas.Bool.{eq-eqb, and_from}
use Rattle.mt_base.specs.Midi.{view_what}
use Rattle.retune_model.specs.SourceFaults.{is_message}
use Rattle.lifetimes.specs.Port.{all_kept, all_counted}
use Rattle.lifetimes.specs.Stands.{place_of}
use Rattle.lifetimes.specs.Steps.{opens, numbered_at}
use Rattle.lifetimes.proofs.Opened.{as_numbered, kept_numbered, counted_numbered}
use Rattle.lifetimes.proofs.source.Source.open.Goals as goal

pub invariant_of-self-clause-kept : goal.invariant_of-self-clause-kept
invariant_of-self-clause-kept c =
    λ some. ap all_kept (as_numbered c.args.self.now.ports c.place-place.result c.index-self-place.result c.args.port)
    ∙ kept_numbered c.args.self.now.ports c.place-place.result c.args.port ∙ c.args.self.now.kept some

pub invariant_of-self-clause-counted : goal.invariant_of-self-clause-counted
invariant_of-self-clause-counted c =
    ap (all_counted c.args.self.now.position) (as_numbered c.args.self.now.ports c.place-place.result c.index-self-place.result c.args.port)
    ∙ counted_numbered c.args.self.now.position c.args.self.now.ports c.place-place.result c.args.port ∙ c.args.self.now.counted

pub returns-then-is_message-clause-opens : goal.returns-then-is_message-clause-opens
returns-then-is_message-clause-opens c =
    let at : place_of c.args.self.now c.args.port ≡ c.args.self.now.used = search rules in
    let says : is_message (view_what c.args.what.now) ≡ true = search rules in
    let yes : opens c.args.self.now c.args.port (view_what c.args.what.now) ≡ true = and_from _ _ says (eq-eqb _ _ at) in
    record {
      used =
          (let more : c.args.self.now.used + 1 ≡ suc c.args.self.now.used = omega arith in more)
          ∙ sym (ap (λ b. cond b (suc c.args.self.now.used) c.args.self.now.used) yes);
      ports = as_numbered c.args.self.now.ports c.place-place.result c.index-self-place.result c.args.port
          ∙ ap (λ i. numbered_at c.args.self.now.ports i c.args.port) c.if-place-self.true
          ∙ sym (ap (λ b. cond b (numbered_at c.args.self.now.ports c.args.self.now.used c.args.port) c.args.self.now.ports) yes);
      options = refl;
      tracks = refl;
      position = refl;
      tick = refl;
      begun = refl;
    }
