use Rattle.std.proofs.Common.{◌≡◌, ◌<◌, ℕ, None, get_or, set, ap, sym, ◌∙◌, inl, inr, arith, get_or-set_same, get_or-set_other, length-set}
use Rattle.std.proofs.lemmas.Bool.{cases_eq}
use Rattle.midi_model.specs.TuningBytes.{IsTuningValue, dump_bytes}
use Rattle.retune_model.specs.Dump.{tuning_at}
use Rattle.routes.proofs.Bytes.{values_are, each_set}
use Rattle.routes.proofs.device.dump_targets.Goals as goal

pub loop-key-preserved : goal.loop-key-preserved
loop-key-preserved g c = record {
  full = length-set c.loop-key.targets c.loop-key.key c.target.result ∙ c.loop-key.invariant.full;
  each = λ k below. elim (cases_eq k c.loop-key.key) [
    | inl e ↦ ap (λ j. get_or (set c.loop-key.targets c.loop-key.key c.target.result) j None) e
        ∙ get_or-set_same c.loop-key.targets c.loop-key.key c.target.result None (omega (arith, c.loop-key-test.true, c.loop-key.invariant.full))
        ∙ c.target.ensures.value
        ∙ ap (λ j. tuning_at (g.T.Aims.table c.args.table.now) j) (sym e)
    | inr n ↦ get_or-set_other c.loop-key.targets c.loop-key.key k c.target.result None n ∙ c.loop-key.invariant.each k (omega (arith, below, n))
  ];
  fit = each_set IsTuningValue c.loop-key.targets c.loop-key.key c.target.result c.loop-key.invariant.fit c.target.ensures.fits;
}

pub returns : goal.returns
returns g c =
    let all : (k : ℕ) → k < 128 → get_or c.loop-key.targets k None ≡ tuning_at (g.T.Aims.table c.args.table.now) k =
    λ k low. c.loop-key.invariant.each k (omega (arith, low)) in
    c.dump.ensures.bytes ∙ ap (dump_bytes c.args.program) (values_are
    (tuning_at (g.T.Aims.table c.args.table.now)) c.loop-key.targets c.loop-key.invariant.full all)
