use Rattle.std.proofs.Common.{◌≡◌, ◌∙◌, ℕ, Bool, true, false, cond, Option, None, Some, nat_eq, refl, sym, subst, slice_index, slice_index_or}
use Rattle.mt_base.specs.Midi.{MidiWhat, Says, SysexOf, MetaOf, view_what}
use Rattle.midi_model.specs.Sysex.{Retune, Resets, Nothing, doing, tunes, is_reset, tuning_of}
use Rattle.retune_model.specs.Ports.{resets}
use Rattle.retune_model.specs.SourceFaults.{is_message}
use Rattle.receiver.specs.Notes.{has}
use Rattle.receiver.specs.Reach.{spares}
use Rattle.lifetimes.specs.OnePart.{PartEnds}
use Rattle.lifetimes.specs.Port.{EachPart, is_reset_of}
use Rattle.lifetimes.proofs.PartEnding.{none_ends}
use Rattle.lifetimes.proofs.port.Port.let_go.Goals as goal

message_is_no_reset : (w : MidiWhat) → is_message w ≡ true → is_reset_of w ≡ false
message_is_no_reset (Says msg) is = refl
message_is_no_reset (SysexOf lead bytes) is = absurd cc
message_is_no_reset (MetaOf kind bytes) is = absurd cc

-- an event that is neither a message nor a reset ends no note
sysex_spares : (lead reset : Bool) (o : Option Retune) (c : ℕ) → resets (cond lead (cond reset Resets (tunes o)) Nothing) ≡ false
    → spares (cond lead (cond reset Resets (tunes o)) Nothing) c ≡ true
sysex_spares true true o c kept = absurd cc
sysex_spares true false None c kept = refl
sysex_spares true false (Some r) c kept = refl
sysex_spares false reset o c kept = refl

other_spares : (w : MidiWhat) (c : ℕ) → is_message w ≡ false → is_reset_of w ≡ false → spares (doing w) c ≡ true
other_spares (Says msg) c none kept = absurd cc
other_spares (SysexOf lead bytes) c none kept = sysex_spares (nat_eq lead 240) (is_reset bytes) (tuning_of bytes) c kept
other_spares (MetaOf kind bytes) c none kept = refl

pub returns-then-is_message-clause-parts : goal.returns-then-is_message-clause-parts
returns-then-is_message-clause-parts c =
    subst (λ r. EachPart (λ e. PartEnds r (has (slice_index c.args.ends.now.keys e)) c.args.tick c.args.tail) c.args.self.now c.end_all.new.self)
    (sym (message_is_no_reset (view_what c.args.what.now) (sym c.is_message.ensures ∙ c.if-is_message.true))) c.end_all.ensures.parts

pub returns-then-resets-clause-parts : goal.returns-then-resets-clause-parts
returns-then-resets-clause-parts c =
    subst (λ r. EachPart (λ e. PartEnds r (has (slice_index c.args.ends.now.keys e)) c.args.tick c.args.tail) c.args.self.now c.clear.new.self)
    (sym c.if-resets.true ∙ c.resets.ensures) (c.clear.ensures.parts (λ e. has (slice_index c.args.ends.now.keys e)) c.args.tick c.args.tail)

pub returns-else-resets-clause-parts : goal.returns-else-resets-clause-parts
returns-else-resets-clause-parts c =
    let w = view_what c.args.what.now in
    let none : is_message w ≡ false = sym c.is_message.ensures ∙ c.if-is_message.false in
    let kept : is_reset_of w ≡ false = sym c.resets.ensures ∙ c.if-resets.false in
    subst (λ r. EachPart (λ e. PartEnds r (has (slice_index c.args.ends.now.keys e)) c.args.tick c.args.tail) c.args.self.now c.args.self.now)
    (sym kept) (λ e el d. none_ends (has (slice_index c.args.ends.now.keys e)) c.args.tick c.args.tail (slice_index_or c.args.self.now.parts e d)
    (λ k kl. c.requires.spared e k el kl (other_spares w e none kept)))
