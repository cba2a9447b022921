use Rattle.std.proofs.Common.{◌∙◌, ◌&&◌, sym, ap, nat_eq, cond}
use Rattle.std.proofs.lemmas.Bool.{eq-eqb}
use Rattle.midi_model.specs.Channel.{control_of}
use Rattle.midi_model.specs.Music.{channel_at}
use Rattle.midi_model.specs.Notes.{sounds, sostenuto, without_pressure}
use Rattle.receiver.specs.Stands.{slot, set_up_of}
use Rattle.receiver.specs.Turns.{kept, turned}
use Rattle.receiver.specs.Zones.{zones_in}
use Rattle.receiver.proofs.Fading.{fades_pressure}
use Rattle.receiver.proofs.Here.{Slot, slot_here}
use Rattle.receiver.proofs.Keeping.{kept_then}
use Rattle.receiver.proofs.Pedals.{all_off, all_up}
use Rattle.receiver.proofs.player.Player.turn_notes.Goals as goal

pub returns-in-SoundOff-clause-notes : goal.returns-in-SoundOff-clause-notes
returns-in-SoundOff-clause-notes c d k dl kl =
    let s = c.args.self.now in
    c.turn.ensures.notes d k dl kl ∙ all_off (zones_in s.zones) c.args.channel c.args.tick d k (slot s d k) (slot_here s.channels d k)
    ∙ ap (λ r. turned (set_up_of s) c.args.tick c.args.channel c.args.number c.args.value r (slot s d k)) c.in-SoundOff.ensures.role

pub returns-in-NotesOff-clause-notes : goal.returns-in-NotesOff-clause-notes
returns-in-NotesOff-clause-notes c d k dl kl =
    let s = c.args.self.now in
    c.turn-in-NotesOff.ensures.notes d k dl kl ∙ all_up (zones_in s.zones) c.args.channel c.args.tick d k (slot s d k) (slot_here s.channels d k)
    ∙ ap (λ r. turned (set_up_of s) c.args.tick c.args.channel c.args.number c.args.value r (slot s d k)) c.in-NotesOff.ensures.role

pub returns-in-Reset-clause-notes : goal.returns-in-Reset-clause-notes
returns-in-Reset-clause-notes c d k dl kl =
    let s = c.args.self.now in
    let i = c.args.channel in
    let b = control_of (channel_at (set_up_of s) i) 66 in
    c.relax.ensures.notes d k dl kl ∙ ap (kept (without_pressure i)) (c.sostenuto.ensures.notes d k dl kl)
    ∙ sym (kept_then (sostenuto (zones_in s.zones) i b 0) (without_pressure i) (λ n. fades_pressure (nat_eq n.channel i && sounds n) 0 n) (slot s d k))
    ∙ ap (λ r. turned (set_up_of s) c.args.tick i c.args.number c.args.value r (slot s d k)) c.in-Reset.ensures.role

pub returns-then-number-eq66-clause-notes : goal.returns-then-number-eq66-clause-notes
returns-then-number-eq66-clause-notes c d k dl kl =
    let s = c.args.self.now in
    let i = c.args.channel in
    let b = control_of (channel_at (set_up_of s) i) 66 in
    let moved : Slot = kept (sostenuto (zones_in s.zones) i b c.args.value) (slot s d k) in
    c.sostenuto-then-number-eq66.ensures.notes d k dl kl
    ∙ sym (ap (λ t. cond t moved (slot s d k)) (eq-eqb c.args.number 66 c.if-number-eq66.true))
    ∙ ap (λ r. turned (set_up_of s) c.args.tick i c.args.number c.args.value r (slot s d k)) c.in-Keep.ensures.role
