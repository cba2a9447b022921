-- What the laws of bringing say of the messages that are written.
use Rattle.std.proofs.Common.{◌≡◌, ℕ, ◌≤◌, arith, max, subst}
use Rattle.midi_model.specs.Channel.{State, counted}
use Rattle.midi_model.specs.WellFormed.{IsWellFormed}
use Rattle.midi_model.specs.Bring.{bring}
use Rattle.midi_model.specs.Music.{Music, state_at}
use Rattle.state_laws.specs.Reached.{Match, Reaches}
use Rattle.state_laws.specs.Sent.{HasRoom, SendsValidOnes, SendsOnlySettings}
use Rattle.state_laws.specs.Counts.{SendsAtMost, SendsFewOnes}
use Rattle.state_laws.specs.Heard.{CanBring, SoundsOnce, SoundsWherePressed, brought_to}
use Rattle.state_laws.specs.HeardLaws.{Arrives, LeavesTheOthers, KeepsTheTuning}
use Rattle.replay.specs.Brings.{Brings, IsHeard, heard}

pub brings_so : Reaches → HasRoom → SendsAtMost → SendsFewOnes → SendsValidOnes → SendsOnlySettings
    → (c : ℕ) (now wanted : State) → c ≤ 15 → IsWellFormed now → IsWellFormed wanted → counted now.own ≤ 16
    → counted wanted.own ≤ 16
    → Brings c now wanted (bring c now wanted)
brings_so reach room most few valid settings c now wanted ok from to less fewer = record {
  reached = reach c now wanted from to;
  room = λ k. within (counted now.own) (counted wanted.own) _ less fewer (room c now wanted from to k ok);
  most = most c now wanted from to less fewer;
  few = few c now wanted from to;
  valid = valid c now wanted from to ok;
  settings = settings c now wanted from to ok;
}
  where
    within : (a b n : ℕ) → a ≤ 16 → b ≤ 16 → n ≤ max a b → n ≤ 16
    within a b n h k l = omega (arith, h, k, l)

pub heard_so : Arrives → LeavesTheOthers → KeepsTheTuning → (c : ℕ) (now wanted : State)
    → IsHeard c now wanted (bring c now wanted)
heard_so arrive others tuning c now wanted = record {
  reached = λ m t track can at. at_state m t track (state_at m c) at (arrive m t track c wanted) can;
  others = λ m t track d can x. others m t track c now wanted can d x;
  tuning = λ r t track can. tuning r t track c now wanted can;
}
  where
    at_state : (m : Music) (t track : ℕ) (s : State) → s ≡ now
        → (CanBring m c s wanted → SoundsOnce c m → SoundsWherePressed c wanted (brought_to m t track c s wanted) → Match (state_at (brought_to m t track c s wanted) c) wanted)
        → CanBring m c now wanted → SoundsOnce c m → SoundsWherePressed c wanted (heard m t track (bring c now wanted))
        → Match (state_at (heard m t track (bring c now wanted)) c) wanted
    at_state m t track s e h =
        subst (λ (x : State). CanBring m c x wanted → SoundsOnce c m → SoundsWherePressed c wanted (brought_to m t track c x wanted) → Match (state_at (brought_to m t track c x wanted) c) wanted) e h
