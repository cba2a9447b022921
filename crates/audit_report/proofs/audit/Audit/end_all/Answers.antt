use Rattle.std.proofs.Common.{◌≡◌, ◌+◌, ℕ, refl, sym, ◌∙◌, subst}
use Rattle.std.specs.Prelude.{map, slice_index}
use Rattle.receiver.specs.Notes.{has}
use Rattle.audit_report.specs.Audit.{channels_below, keys_below, marked}
use Rattle.audit_report.proofs.Marking.{marks_then, next_channel, no_channels_yet, no_key}
use Rattle.audit_report.proofs.audit.Audit.end_all.Goals as goal

pub loop-channel-init : goal.loop-channel-init
loop-channel-init c = record {
  indexed = λ h. h;
  last = refl;
  notes = λ h. sym (no_key c.args.port (channels_below c.args.ended.now.keys 0) c.args.tick c.args.self.now.notes.items
      (no_channels_yet c.args.ended.now.keys));
}

pub loop-channel-preserved : goal.loop-channel-preserved
loop-channel-preserved c = record {
  indexed = λ h. c.end_keys.ensures.indexed (c.loop-channel.invariant.indexed h);
  last = c.end_keys.ensures.last ∙ c.loop-channel.invariant.last;
  notes = λ h. marks_then c.args.port (channels_below c.args.ended.now.keys c.loop-channel.channel)
      (keys_below (has (slice_index c.args.ended.now.keys c.loop-channel.channel)) c.loop-channel.channel 128)
      (channels_below c.args.ended.now.keys
      (c.loop-channel.channel + 1)) c.args.tick c.args.self.now.notes.items c.loop-channel.self.notes.items c.end_keys.new.self.notes.items
      (c.loop-channel.invariant.notes h)
      (subst (λ (i : ℕ). c.end_keys.new.self.notes.items ≡ map (marked c.args.port (keys_below (has
      (slice_index c.args.ended.now.keys i)) c.loop-channel.channel 128) c.args.tick) c.loop-channel.self.notes.items)
      c.from.ensures (c.end_keys.ensures.notes (c.loop-channel.invariant.indexed h))) (next_channel c.args.ended.now.keys c.loop-channel.channel);
}
