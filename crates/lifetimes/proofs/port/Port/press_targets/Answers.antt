use Rattle.std.proofs.Common.{◌≡◌, ◌∙◌, ◌+◌, refl, sym, ap, [], drop, w32}
use Rattle.std.specs.Prelude.{filter}
use Rattle.std.proofs.lemmas.Int.{to_z-of_z}
use Rattle.std.proofs.lemmas.List.{at_drop_more}
use Rattle.std.proofs.Math.ListN.{drop_of_length-le}
use Rattle.midi_model.specs.Music.{key_pressures}
use Rattle.midi_model.specs.Receiver.{after}
use Rattle.retune_model.specs.Faults.{int_eq}
use Rattle.lifetimes.specs.Lists.{no_note}
use Rattle.lifetimes.specs.Port.{listed_in}
use Rattle.lifetimes.specs.Pressing.{pressed_by_all}
use Rattle.lifetimes.specs.declared.notes.Sounding.{Sounding}
use Rattle.lifetimes.proofs.port.Port.press_targets.Goals as goal

pub loop-note-init : goal.loop-note-init
loop-note-init c = (refl, refl, refl)

pub loop-note-preserved : goal.loop-note-preserved
loop-note-preserved c =
    let ks = c.state-source.result.now.keys.items in
    let xs = c.with_steps-note-items.result.now in
    let i = c.loop-note.note-index in (
      c.press_target.ensures.own ∙ c.loop-note.invariant.0,
      c.press_target.ensures.tuning ∙ c.loop-note.invariant.1,
      ap (pressed_by_all ks (drop (i + 1) xs)) c.press_target.ensures.keys
          ∙ (sym (at_drop_more (λ ys. pressed_by_all ks ys c.loop-note.state.keys.items) xs i no_note c.loop-note-test.true) ∙ c.loop-note.invariant.2),
    )

pub returns-clause-own : goal.returns-clause-own
returns-clause-own c = c.loop-note.invariant.0

pub returns-clause-keys : goal.returns-clause-keys
returns-clause-keys c = λ es stands.
    let ks = c.state-source.result.now.keys.items in
    let xs = c.with_steps-note-items.result.now in
    let keys = c.args.state.now.keys.items in
    let done : drop c.loop-note.note-index xs ≡ [] = drop_of_length-le xs c.loop-note-test.false in
    let listed : xs ≡ filter (λ (x : Sounding). int_eq x.steps c.args.steps) (listed_in c.args.self.now c.args.channel) =
    c.with_steps-note-items.ensures
    ∙ (ap (λ q. filter (λ (x : Sounding). int_eq x.steps q) c.notes.result.now.sounding.items) (to_z-of_z w32 c.args.steps c.ranges.steps)
    ∙ ap (filter (λ (x : Sounding). int_eq x.steps c.args.steps)) c.notes.ensures.listed) in
    sym (ap (λ ys. pressed_by_all ks ys c.loop-note.state.keys.items) done)
    ∙ (c.loop-note.invariant.2
    ∙ (ap (λ ps. pressed_by_all ps xs keys) (c.state-source.ensures.keys es stands)
    ∙ ap (λ ys. pressed_by_all (key_pressures (after es).music.notes c.args.channel 0 128) ys keys) listed))

pub returns-clause-tuning : goal.returns-clause-tuning
returns-clause-tuning c = c.loop-note.invariant.1
