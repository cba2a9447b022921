use Rattle.std.proofs.Common.{◌≡◌, ◌<◌, ◌∙◌, refl, sym, ap, Option, Some, Bool, true, false, not, is_some, ℤ, to_z, of_z, w32, rules}
use Rattle.std.proofs.lemmas.Int.{to_z-of_z}
use Rattle.lifetimes.specs.Lists.{struck_at, entry_at}
use Rattle.lifetimes.specs.Port.{struck_in}
use Rattle.lifetimes.specs.declared.change.Begun.{Begun}
use Rattle.lifetimes.specs.declared.notes.Struck.{Struck}
use Rattle.lifetimes.proofs.BegunThere.{begun_told, none_told}
use Rattle.lifetimes.proofs.port.Port.begun.Goals as goal

not_not : (b : Bool) → not (not b) ≡ b
not_not true = refl
not_not false = refl

pub returns-in-Some : goal.returns-in-Some
returns-in-Some c = λ o table es stands.
    let port = c.args.self.now in
    let low : c.args.channel < 16 = search rules in
    let struck : c.struck-struck.result ≡ struck_at (struck_in port c.args.channel) c.args.key = c.struck-struck.ensures ∙ ap (λ ss. struck_at ss c.args.key) c.notes-notes.ensures.struck in
    let steps : to_z w32 (of_z w32 c.steps.result) ≡ (entry_at (struck_in port c.args.channel) c.args.key).steps =
    to_z-of_z w32 c.steps.result (search rules) ∙ (c.steps.ensures ∙ ap (λ ss. (entry_at ss c.args.key).steps) c.notes-notes.ensures.struck) in
    let up : c.is_none.result ≡ not (is_some c.in-Some.note.released) = sym (ap not c.is_none.ensures ∙ not_not c.is_none.result) in
    let f : Struck → ℤ → Bool → Option (Begun × Bool) = λ s q b. Some (
      record {
        note = s.note;
        pair = record { part = record { port = port.number; channel = c.args.channel }; steps = q };
        key = c.args.key;
        target = s.target;
      },
      b,
    ) in
    ap (λ s. f s (to_z w32 (of_z w32 c.steps.result)) c.is_none.result) struck
    ∙ (ap (λ q. f (struck_at (struck_in port c.args.channel) c.args.key) q c.is_none.result) steps
    ∙ (ap (f (struck_at (struck_in port c.args.channel) c.args.key) (entry_at (struck_in port c.args.channel) c.args.key).steps) up
    ∙ begun_told c.music_laws.ensures.fade c.drums_stand_apart.ensures.music o table es port c.args.channel c.args.key c.in-Some.note stands low c.requires
    (sym (c.sounding.ensures _ stands.player) ∙ c.in-Some.is)))

pub returns-in-None : goal.returns-in-None
returns-in-None c = λ o table es stands.
    none_told c.drums_stand_apart.ensures.music o table es c.args.self.now c.args.channel c.args.key (sym (c.sounding.ensures _ stands.player) ∙ c.in-None.is)
