-- The steps of a note that sounds are those of what was struck on its key.
use Rattle.std.proofs.Common.{◌≡◌, ◌∙◌, ℕ, suc, pos, List, [], ◌∷◌, Bool, true, false, cond, ◌&&◌, nat_eq, Option, Some, None, refl, ap}
use Rattle.std.proofs.lemmas.Bool.{eqb-true}
use Rattle.midi_model.specs.Notes.{Note, sounds}
use Rattle.retune_model.specs.Table.{Bounds, BendTarget, bend_target, tuning_target}
use Rattle.retune_model.specs.Options.{Options, bends_notes}
use Rattle.retune_model.specs.PlaysTheSame.{bend_target_if}
use Rattle.retune_model.specs.Rests.{steps_of}
use Rattle.retune_model.specs.Faults.{Targets, target_of}
use Rattle.key_pitch.specs.Aims.{tuning_aim, on_tuning, bend_aim, on_bend}
use Rattle.receiver.specs.Sounding.{sounding_from}
use Rattle.lifetimes.specs.Told.{aim_in, steps_in}
use Rattle.lifetimes.specs.Lists.{entry_of}

-- a note that sounds on a key of a channel is of that key and channel
pub record IsOn (c k : ℕ) (n : Note) : Type 0 where
  pub channel : n.channel ≡ c
  pub key : n.key ≡ k
  pub sounds : sounds n ≡ true

pub is_on : (c k i : ℕ) (ns : List Note) (x : ℕ × Note) → sounding_from i ns c k ≡ Some x → IsOn c k x.1
is_on c k i [] x e = absurd cc
is_on c k i (n ∷ ns) x e = pick (nat_eq n.channel c) (nat_eq n.key k) (sounds n) (eqb-true n.channel c) (eqb-true n.key k) refl e (is_on c k (suc i) ns x)
  where
    pick : (a b s : Bool) → (a ≡ true → n.channel ≡ c) → (b ≡ true → n.key ≡ k) → sounds n ≡ s
        → cond ((a && b) && s) (Some (i, n)) (sounding_from (suc i) ns c k) ≡ Some x
        → (sounding_from (suc i) ns c k ≡ Some x → IsOn c k x.1) → IsOn c k x.1
    pick true true true f g s e later =
        (let same : x ≡ (i, n) = cc in
        record { channel = ap (λ y. y.1.channel) same ∙ f refl; key = ap (λ y. y.1.key) same ∙ g refl; sounds = ap (λ (y : ℕ × Note). sounds y.1) same ∙ s })
    pick true true false f g s e later = later e
    pick true false s f g h e later = later e
    pick false b s f g h e later = later e

on_tuning_steps : (k : ℕ) (v : Option ℕ) → (entry_of k (on_tuning v)).steps ≡ pos 0
on_tuning_steps k None = refl
on_tuning_steps k (Some v) = refl

on_bend_steps : (k : ℕ) (t : Option BendTarget) → (entry_of k (on_bend t)).steps ≡ steps_of t
on_bend_steps k None = refl
on_bend_steps k (Some t) = refl

tuned_steps : (k : ℕ) (b : Option Bounds) → (entry_of k (tuning_aim b)).steps ≡ pos 0
tuned_steps k None = refl
tuned_steps k (Some b) = on_tuning_steps k (tuning_target b)

bent_steps : (k range : ℕ) (b : Option Bounds) → (entry_of k (bend_aim range b)).steps ≡ steps_of (bend_target_if range b)
bent_steps k range None = refl
bent_steps k range (Some b) = on_bend_steps k (bend_target range b)

pub aim_steps : (o : Options) (table : Targets) (n : Note) → (entry_of n.key (aim_in o table n.key n.onset)).steps ≡ steps_in o table n
aim_steps o table n = pick (bends_notes o.route)
  where
    pick : (b : Bool) → (entry_of n.key (cond b (bend_aim o.range (table n.key n.onset)) (tuning_aim (table n.key n.onset)))).steps
        ≡ cond b (steps_of (target_of o table n)) (pos 0)
    pick true = bent_steps n.key o.range (table n.key n.onset)
    pick false = tuned_steps n.key (table n.key n.onset)
