use Rattle.std.proofs.Common.{◌<◌, ◌≤◌, ◌∙◌, ℕ, Bool, Option, sym, ap, subst}
use Rattle.std.specs.Prelude.{IfSome}
use Rattle.mt_base.specs.Midi.{view}
use Rattle.routes.specs.Putting.{AllMayPut, put_all, IsFront}
use Rattle.routes.specs.Device.{block_events}
use Rattle.routes.specs.Kept.{told_in, due_if}
use Rattle.routes.proofs.Passing.{due_keeps, key_low}
use Rattle.routes.proofs.Puts.{on_err}
use Rattle.routes.proofs.translating.pass_on.Goals as goal

pub put_block-requires : goal.put_block-requires
put_block-requires c =
    let e = view c.args.event.now in
    let d = c.args.device.now in
    let s = told_in c.args.kept.now c.args.port in
    record {
      program = c.requires.program;
      key = subst (λ (x : Option (ℕ × ℕ)). IfSome x (λ y. y.0 < 128)) (sym c.due-due.ensures)
          (due_keeps (λ y. y.0 < 128) s.keys c.args.told c.requires.key);
      value = subst (λ (x : Option (ℕ × ℕ)). IfSome x (λ y. y.1 ≤ 2097150)) (sym c.due-due.ensures)
          (due_keeps (λ y. y.1 ≤ 2097150) s.keys c.args.told c.requires.value);
      may = subst (λ (b : Bool). AllMayPut c.args.out.now (block_events d c.args.channels b c.due-due.result e)) (sym c.begun-begun.ensures)
          (subst (λ (x : Option (ℕ × ℕ)). AllMayPut c.args.out.now (block_events d c.args.channels s.begun x e))
          (sym c.due-due.ensures) c.requires.may);
    }

pub returns-in_err-put_block-clause-front : goal.returns-in_err-put_block-clause-front
returns-in_err-put_block-clause-front c =
    let e = view c.args.event.now in
    let d = c.args.device.now in
    let s = told_in c.args.kept.now c.args.port in
    on_err _ c.from_residual.result
    (subst (λ (b : Bool). IsFront c.args.out.now (block_events d c.args.channels b
    (due_if s.keys c.args.told) e) c.put_block.new.out) c.begun-begun.ensures
    (subst (λ (x : Option (ℕ × ℕ)). IsFront c.args.out.now (block_events d c.args.channels c.begun-begun.result x e) c.put_block.new.out) c.due-due.ensures c.in_err-put_block.ensures.front))

pub take-requires : goal.take-requires
take-requires c = subst (λ (x : Option ℕ). IfSome x (λ k. k < 128)) (sym c.key_of.ensures) (key_low c.args.told c.requires.key)

pub returns-clause-put : goal.returns-clause-put
returns-clause-put c =
    let e = view c.args.event.now in
    let d = c.args.device.now in
    let s = told_in c.args.kept.now c.args.port in
    c.in_ok-put_block.ensures.put
    ∙ ap (λ (b : Bool). put_all c.args.out.now (block_events d c.args.channels b c.due-due.result e)) c.begun-begun.ensures
    ∙ ap (λ (x : Option (ℕ × ℕ)). put_all c.args.out.now (block_events d c.args.channels s.begun x e)) c.due-due.ensures

pub returns-clause-kept : goal.returns-clause-kept
returns-clause-kept c l is = c.take.ensures l (c.key_of.ensures ∙ is)
