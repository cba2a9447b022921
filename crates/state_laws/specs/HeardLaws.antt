-- Laws of the music that is heard where a channel is brought to a state.
use Rattle.std.specs.Prelude.{◌≡◌, ◌≢◌, ◌≤◌, ℕ, map, max, get_or, take}
use Rattle.midi_model.specs.Channel.{State, counted}
use Rattle.midi_model.specs.Notes.{sounding_on}
use Rattle.midi_model.specs.Music.{Music, channel_at, state_at, play}
use Rattle.midi_model.specs.MusicLaws.{IsSettled}
use Rattle.midi_model.specs.Receiver.{Receiver, receive_all}
use Rattle.midi_model.specs.Bring.{bring}
use Rattle.state_laws.specs.Reached.{Match}
use Rattle.state_laws.specs.Heard.{events_of, brought_to, pressed, IsBrought, CanBring, HasSamePedals, IsSilent, SoundsOnce, SoundsWherePressed}

-- ---- from a state whose key pressures may be any: those of the notes that sound, or of notes that have ended

-- a sentence about music at a tick, a track, and a channel that can be brought from one state to another
abbrev pub OfBringing : (Music → ℕ → ℕ → ℕ → State → State → Type 0) → Type 0
OfBringing P = (m : Music) (t track c : ℕ) (now wanted : State) → CanBring m c now wanted → P m t track c now wanted

abbrev pub Plays : Type 0
Plays = OfBringing (λ m t track c now wanted.
    IsBrought t c now wanted m (brought_to m t track c now wanted))

-- each other channel is as it was
abbrev pub LeavesTheOthers : Type 0
LeavesTheOthers = OfBringing (λ m t track c now wanted.
    (d : ℕ) → d ≢ c → state_at (brought_to m t track c now wanted) d ≡ state_at m d)

-- where no note sounds on the channel, the notes are as they were
abbrev pub LeavesTheSilent : Type 0
LeavesTheSilent = OfBringing (λ m t track c now wanted.
    IsSilent c m → (brought_to m t track c now wanted).notes ≡ m.notes)

-- where both pedals are up or down as before, no note ends, and only pressures change
abbrev pub EndsNone : Type 0
EndsNone = OfBringing (λ m t track c now wanted. HasSamePedals now.own wanted.own
    → (brought_to m t track c now wanted).notes ≡ map (pressed c now.keys wanted.keys) m.notes)

-- on no key more notes sound
abbrev pub SoundsNoMore : Type 0
SoundsNoMore = OfBringing (λ m t track c now wanted. (d k : ℕ)
    → sounding_on d k (brought_to m t track c now wanted).notes ≤ sounding_on d k m.notes)

-- after any of the messages no more of the channel's parameters count than at one of the ends
abbrev pub HasRoomOnTheWay : Type 0
HasRoomOnTheWay = OfBringing (λ m t track c now wanted. (k : ℕ)
    → counted (channel_at (play m (events_of t track (take k (bring c now wanted)))) c)
    ≤ max (counted now.own) (counted wanted.own))

-- no tuning program is chosen
abbrev pub KeepsTheTuning : Type 0
KeepsTheTuning = (r : Receiver) (t track c : ℕ) (now wanted : State) → CanBring r.music c now wanted
    → (receive_all r (events_of t track (bring c now wanted))).tuning ≡ r.tuning

-- nothing is left to settle
abbrev pub StaysSettled : Type 0
StaysSettled = (m : Music) (t track c : ℕ) (now wanted : State)
    → IsSettled m → IsSettled (brought_to m t track c now wanted)

-- ---- from the state that the channel has

-- a sentence about the music after channel c was brought from its state to the wanted one
abbrev pub OfArriving : (Music → ℕ → State → Music → Type 0) → Type 0
OfArriving P = (m : Music) (t track c : ℕ) (wanted : State) → CanBring m c (state_at m c) wanted
    → P m c wanted (brought_to m t track c (state_at m c) wanted)

-- where every key that is wanted pressed sounds then, the channel is at the wanted state, the selection aside
abbrev pub Arrives : Type 0
Arrives = OfArriving (λ m c wanted after.
    SoundsOnce c m → SoundsWherePressed c wanted after → Match (state_at after c) wanted)

-- so it is where its pedals are as before and each key that is wanted pressed sounds before
abbrev pub ArrivesUnderThePedals : Type 0
ArrivesUnderThePedals = OfArriving (λ m c wanted after.
    SoundsOnce c m → HasSamePedals (channel_at m c) wanted.own → SoundsWherePressed c wanted m
    → Match (state_at after c) wanted)

-- and where no note sounds and no key is wanted pressed
abbrev pub ArrivesInSilence : Type 0
ArrivesInSilence = OfArriving (λ m c wanted after.
    IsSilent c m → ((k : ℕ) → get_or wanted.keys k 0 ≡ 0) → Match (state_at after c) wanted)
