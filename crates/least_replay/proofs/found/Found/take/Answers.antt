use Rattle.std.proofs.Common.{◌≡◌, ◌-◌, ◌∙◌, ◌&&◌, suc, cond, take, nat_eq, sym, ap, arith}
use Rattle.mt_base.specs.Midi.{view_what}
use Rattle.midi_model.specs.Sysex.{doing}
use Rattle.retune_model.specs.Ports.{resets}
use Rattle.lifetimes.specs.Stands.{asked}
use Rattle.lifetimes.specs.Told.{port_on}
use Rattle.channel_plan.proofs.Goes.{reset_is}
use Rattle.least_replay.specs.Found.{resets_on}
use Rattle.least_replay.specs.Serving.{channel_at}
use Rattle.least_replay.proofs.Striking.{resets_next}
use Rattle.least_replay.proofs.found.Found.take.Goals as goal

pub returns-clause-goes : goal.returns-clause-goes
returns-clause-goes g c es k e sound at comes what stands tells old kept =
    let o = asked c.args.parts.now in
    let z = c.args.port in
    let here : c.is_here-is_reset.result ≡ (nat_eq (port_on (take k es) e) z && resets (doing e.what)) =
    c.is_here-is_reset.ensures
    ∙ ap (λ n. nat_eq n z && c.resets.result) tells.port
    ∙ ap (λ b. nat_eq (port_on (take k es) e) z && b)
    (c.resets.ensures ∙ reset_is (view_what c.args.what.now) ∙ ap (λ w. resets (doing w)) (sym what)) in
    let counted : c.count_if-self.result ≡ resets_on es z (suc k) =
    c.count_if-self.ensures
    ∙ ap (λ n. cond c.is_here-is_reset.result (suc n) n) (c.end.ensures.resets ∙ old)
    ∙ ap (λ b. cond b (suc (resets_on es z k)) (resets_on es z k)) here
    ∙ sym (resets_next c.event_laws.ensures.reset es z k e comes) in
    let last : c.args.position - 1 ≡ k = omega (arith, at) in
    let ended = c.end.ensures.ended es (channel_at o es c.args.plan.now) z k sound (c.taken_laws.ensures.next es k e comes).2 last old stands kept in
    c.strike.ensures.goes es k e sound at comes stands tells.begun counted ended

pub returns-clause-resets : goal.returns-clause-resets
returns-clause-resets g c es k e comes what tells old =
    let z = c.args.port in
    let here : c.is_here-is_reset.result ≡ (nat_eq (port_on (take k es) e) z && resets (doing e.what)) =
    c.is_here-is_reset.ensures
    ∙ ap (λ n. nat_eq n z && c.resets.result) tells.port
    ∙ ap (λ b. nat_eq (port_on (take k es) e) z && b)
    (c.resets.ensures ∙ reset_is (view_what c.args.what.now) ∙ ap (λ w. resets (doing w)) (sym what)) in
    c.strike.ensures.resets ∙ c.count_if-self.ensures
    ∙ ap (λ n. cond c.is_here-is_reset.result (suc n) n) (c.end.ensures.resets ∙ old)
    ∙ ap (λ b. cond b (suc (resets_on es z k)) (resets_on es z k)) here
    ∙ sym (resets_next c.event_laws.ensures.reset es z k e comes)
