-- What a list of messages does that brings a channel from one state to another.
use Rattle.std.specs.Prelude.{◌≡◌, ◌≤◌, ◌<◌, ◌≢◌, ℕ, List, length, take}
use Rattle.std.specs.List.{AllByRecursion}
use Rattle.mt_base.specs.Valid.{IsValidMsg}
use Rattle.mt_base.specs.declared.event.Msg.{Msg}
use Rattle.midi_model.specs.Channel.{Channel, State, counted}
use Rattle.midi_model.specs.Bring.{apply_all, bring_voice, bring}
use Rattle.midi_model.specs.Music.{Music, state_at, play}
use Rattle.midi_model.specs.Receiver.{Receiver, receive_all}
use Rattle.state_laws.specs.Reached.{Match}
use Rattle.state_laws.specs.Sent.{Along, OnlySets}
use Rattle.state_laws.specs.Counts.{few}
use Rattle.state_laws.specs.Heard.{events_of, CanBring, SoundsOnce, SoundsWherePressed}

-- the channel once the voice is brought
abbrev pub after_voice : ℕ → State → State → Channel
after_voice c now wanted = (apply_all now (bring_voice c now.own wanted.own.voice)).own

-- The state is the wanted one after the messages, the selection aside, and never more than 16 parameters count on the way. The
-- messages are few and valid, to this channel alone, and neither notes nor resets, zones nor tuning programs.
pub record Brings (c : ℕ) (now wanted : State) (ms : List Msg) : Type 0 where
  pub reached : Match (apply_all now ms) wanted
  pub room : (k : ℕ) → counted (apply_all now (take k ms)).own ≤ 16
  pub most : length ms ≤ 391
  pub few : length ms ≤ few now wanted
  pub valid : AllByRecursion IsValidMsg ms
  pub settings : Along (OnlySets c) now ms

-- the music after the messages, at tick t in a track
abbrev pub heard : Music → ℕ → ℕ → List Msg → Music
heard m t track ms = play m (events_of t track ms)

-- A receiver without zones whose channel is in state `now` has it in the wanted state after the messages, the selection aside,
-- where every key that is wanted pressed sounds then. All other channels are as they were, and so are the tunings.
pub record IsHeard (c : ℕ) (now wanted : State) (ms : List Msg) : Type 0 where
  pub reached : (m : Music) (t track : ℕ) → CanBring m c now wanted → state_at m c ≡ now → SoundsOnce c m
      → SoundsWherePressed c wanted (heard m t track ms) → Match (state_at (heard m t track ms) c) wanted
  pub others : (m : Music) (t track d : ℕ) → CanBring m c now wanted → d ≢ c
      → state_at (heard m t track ms) d ≡ state_at m d
  pub tuning : (r : Receiver) (t track : ℕ) → CanBring r.music c now wanted
      → (receive_all r (events_of t track ms)).tuning ≡ r.tuning

-- on any channel the messages are n
abbrev pub HasLength : State → State → ℕ → Type 0
HasLength now wanted n = (c : ℕ) → length (bring c now wanted) ≡ n

-- on any channel they are more than n
abbrev pub IsLonger : State → State → ℕ → Type 0
IsLonger now wanted n = (c : ℕ) → n < length (bring c now wanted)
