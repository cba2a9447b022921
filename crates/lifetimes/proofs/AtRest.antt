-- The state that a pair's channel needs where its port has played nothing.
use Rattle.std.proofs.Common.{◌≡◌, ◌≤◌, ◌<◌, ◌∙◌, ℕ, zero, suc, pos, ◌+ℤ◌, ◌-ℤ◌, ◌*ℤ◌, ◌*◌, get_or, replicate, refl, ap, arith}
use Rattle.std.specs.Int.{int_div_euclid}
use Rattle.std.proofs.lemmas.Int.{ints}
use Rattle.std.proofs.Math.Nat.{div-eq_of_lt}
use Rattle.midi_model.specs.Params.{rpn, put}
use Rattle.midi_model.specs.Channel.{Channel, State, default_channel}
use Rattle.midi_model.specs.Music.{quiet}
use Rattle.retune_model.specs.Options.{Options}
use Rattle.retune_model.specs.Source.{sensitivity, bend_in_steps}
use Rattle.retune_model.specs.Faults.{Targets}
use Rattle.retune_model.specs.Pairs.{Pair}
use Rattle.channel_model.specs.Choice.{bend_value, wanted}

-- no bend moves it
unmoved : (range : ℕ) → 1 ≤ range → bend_in_steps range default_channel ≡ pos 0
unmoved range some =
    let half : (pos 2 *ℤ (pos 8192 -ℤ pos 8192)) *ℤ pos (sensitivity default_channel) +ℤ pos (100 * range) ≡ pos (100 * range) =
    omega (arith, ints) in
    ap (λ z. int_div_euclid z (pos (200 * range))) half ∙ ap pos (div-eq_of_lt (let l : 100 * range < 200 * range = omega (arith, some) in l))

all_default : (n c : ℕ) → get_or (replicate n default_channel) c default_channel ≡ default_channel
all_default zero c = refl
all_default (suc n) zero = refl
all_default (suc n) (suc c) = all_default n c

-- a channel as at the start, with the sensitivity of the route and the bend of the pair
abbrev pub bent_channel : Channel → ℕ → ℕ → State
bent_channel s range bend = record { own = record s { params = put (rpn 0) (range, 0) s.params; bend = bend }; keys = replicate 128 0 }

pub wanted_at_rest : (o : Options) (table : Targets) (p : Pair) → 1 ≤ o.range
    → wanted o table quiet p ≡ bent_channel default_channel o.range (bend_value ((pos 8192 +ℤ p.steps) +ℤ pos 0))
wanted_at_rest o table p some =
    ap (λ s. bent_channel s o.range (bend_value ((pos 8192 +ℤ p.steps) +ℤ bend_in_steps o.range s))) (all_default 16 p.part.channel)
    ∙ ap (λ m. bent_channel default_channel o.range (bend_value ((pos 8192 +ℤ p.steps) +ℤ m))) (unmoved o.range some)
