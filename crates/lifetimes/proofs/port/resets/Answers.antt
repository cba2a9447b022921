use Rattle.std.proofs.Common.{◌≡◌, ◌∙◌, ℕ, List, Bool, true, false, cond, Some, None, refl, sym}
use Rattle.mt_base.specs.Midi.{SysexOf}
use Rattle.midi_model.specs.Sysex.{Resets, is_reset, tunes, tuning_of}
use Rattle.retune_model.specs.Ports.{resets}
use Rattle.lifetimes.specs.Port.{is_reset_of}
use Rattle.lifetimes.proofs.port.resets.Goals as goal

by_bytes : (bs : List ℕ) → is_reset bs ≡ is_reset_of (SysexOf 240 bs)
by_bytes bs = pick (is_reset bs)
  where
    no_tuning_resets : (t : _) → resets (tunes t) ≡ false
    no_tuning_resets None = refl
    no_tuning_resets (Some t) = refl

    pick : (b : Bool) → b ≡ resets (cond b Resets (tunes (tuning_of bs)))
    pick true = refl
    pick false = sym (no_tuning_resets (tuning_of bs))

pub returns-then-lead : goal.returns-then-lead
returns-then-lead c = rw (c.in-Sysex.is, c.if-lead.true) (c.is_reset.ensures ∙ by_bytes c.in-Sysex.bytes.now)
