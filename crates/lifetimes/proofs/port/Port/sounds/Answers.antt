use Rattle.std.proofs.Common.{◌≡◌, ◌<◌, ◌∙◌, sym, ap, subst, w32, to_z, of_z, List, rules, ◌&&◌}
use Rattle.std.proofs.lemmas.Int.{to_z-of_z}
use Rattle.retune_model.specs.Faults.{int_eq}
use Rattle.lifetimes.specs.Lists.{ListsSounding, any_key, entry_at}
use Rattle.lifetimes.specs.Port.{struck_in}
use Rattle.lifetimes.specs.Stands.{sounds_on}
use Rattle.lifetimes.specs.declared.notes.Struck.{Struck}
use Rattle.lifetimes.specs.declared.notes.Sounding.{Sounding}
use Rattle.lifetimes.proofs.SoundsByKeys.{sounds_by_keys}
use Rattle.lifetimes.proofs.PairSets.{is_sounding_tells}
use Rattle.lifetimes.proofs.port.Port.sounds.Goals as goal

pub returns-clause-sounds : goal.returns-clause-sounds
returns-clause-sounds c = λ o table es valid stands.
    let port = c.args.self.now in
    let channel = c.args.channel in
    let low : channel < 16 = search rules in
    let steps : to_z w32 (of_z w32 c.args.steps) ≡ c.args.steps = to_z-of_z w32 c.args.steps c.ranges.steps in
    let here : ListsSounding c.notes.result.now.struck c.notes.result.now.sounding.items (sounds_on o port.number es channel) =
    subst (λ (ss : List Struck). ListsSounding ss c.notes.result.now.sounding.items (sounds_on o port.number es channel)) (sym c.notes.ensures.struck)
    (subst (λ (xs : List Sounding). ListsSounding (struck_in port channel) xs (sounds_on o port.number es channel)) (sym c.notes.ensures.listed) (stands.listed channel low)) in
    c.sounds.ensures.keys (sounds_on o port.number es channel) here
    ∙ (ap (λ ss. any_key (λ k. sounds_on o port.number es channel k && int_eq (entry_at ss k).steps (to_z w32 (of_z w32 c.args.steps))) 128) c.notes.ensures.struck
    ∙ (ap (λ q. any_key (λ k. sounds_on o port.number es channel k && int_eq (entry_at (struck_in port channel) k).steps q) 128) steps
    ∙ sounds_by_keys c.music_laws.ensures.fade c.receiver_laws.ensures.one_note o table es port channel c.args.steps valid stands low))

pub returns-clause-pairs : goal.returns-clause-pairs
returns-clause-pairs c = λ o table es valid order faultless stands bends.
    returns-clause-sounds c o table es valid stands
    ∙ is_sounding_tells c.rests_are_runs.ensures.pairs c.sound_sources.ensures.aimed c.rests_as_written.ensures.holds c.position_laws.ensures.music
    o table es c.args.self.now.number c.args.channel c.args.steps bends order faultless
