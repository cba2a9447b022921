use Rattle.std.proofs.Common.{arith, length, ◌≤◌}
use Rattle.std.proofs.lemmas.List.{length-map}
use Rattle.receiver.specs.Params.{entries_of, entry_of}
use Rattle.receiver.proofs.Laws.{laws}
use Rattle.receiver.proofs.Fixed.{tidy_others, tidy_all, counted_are}
use Rattle.receiver.proofs.Low.{low_at, unstored_zero, params_entered}
use Rattle.receiver.proofs.state.ChannelState.well_formed.Goals as goal

pub returns-clause-formed : goal.returns-clause-formed
returns-clause-formed c =
    let e = c.parameter_laws.ensures in
    let l = laws e.given e.others e.form e.equal in
    let s = c.args.self.now in
    let es = entries_of s.others.items in
    record {
      controls = c.len-controls.ensures.items;
      unstored = λ n h. unstored_zero s.controls.items n h s.only_stored;
      control_bytes = λ n. low_at s.controls.items n s.controls_fit;
      rpn_high = s.rpn_fits.0;
      rpn_low = s.rpn_fits.1;
      nrpn_high = s.nrpn_fits.0;
      nrpn_low = s.nrpn_fits.1;
      canonical = (tidy_all l s.fixed es (tidy_others es s.ordered s.others_fit)).0;
      entered = params_entered s.fixed es s.fixed_fit s.others_fit;
      bank_high = s.voice_fits.0;
      bank_low = s.voice_fits.1;
      program = s.voice_fits.2;
      bend = s.bend_fits;
      pressure = s.pressure_fits;
      keys = c.len-keys.ensures.items;
      key_bytes = λ k. low_at s.keys.items k s.keys_fit;
    }

pub returns-clause-few : goal.returns-clause-few
returns-clause-few c =
    let s = c.args.self.now in
    let n = counted_are s.fixed (entries_of s.others.items) s.others_fit in
    let m = length-map s.others.items entry_of in
    let few : length s.others.items ≤ 16 = omega (arith, c.len-others.ensures.value, c.len-others.ensures.fits) in
    omega (arith, n, m, few)
