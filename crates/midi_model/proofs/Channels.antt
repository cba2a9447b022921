-- What one message does to each channel, and that the zones never share a channel.
use Rattle.std.proofs.Common.{◌≡◌, ◌≢◌, ℕ, zero, suc, ◌+◌, ◌<◌, List, [], ◌∷◌, Bool, true, false, cond, Option, Some, None, refl, ap, ◌∙◌, ◌⊎◌, inl, inr, length, set, get_or, arith, nat_lt, nat_eq}
use Rattle.std.proofs.lemmas.List.{get_or-set_same, get_or-set_other}
use Rattle.std.proofs.lemmas.Bool.{ltb-true}
use Rattle.mt_base.specs.Midi.{MidiEvent, channel_of}
use Rattle.mt_base.specs.declared.event.Msg.{Msg}
use Rattle.midi_model.specs.Sysex.{Doing, Plays, Resets, Tunes, Nothing, doing}
use Rattle.midi_model.specs.Channel.{Channel, apply, default_channel}
use Rattle.midi_model.specs.Zones.{Zones, left_beside, zones_with, bend_ranges, bend_ranges_from, bend_range_at, AreApart}
use Rattle.midi_model.specs.Music.{Music, quiet, channel_at, asks, act, settle, advance, step, play}

-- where no zone is asked for, a message acts on its own channel alone
pub own_after : (m : Music) (t : ℕ) (msg : Msg) → asks m msg ≡ None → channel_of msg < length m.channels
    → channel_at (settle t (act t msg m)) (channel_of msg) ≡ apply (channel_at m (channel_of msg)) msg
own_after m t msg e low =
    let c : ℕ = channel_of msg in
    ap (λ a. get_or (bend_ranges a (zones_with a m.zones) (set m.channels c (apply (channel_at m c) msg))) c default_channel) e
    ∙ get_or-set_same m.channels c (apply (channel_at m c) msg) default_channel low

pub other_after : (m : Music) (t : ℕ) (msg : Msg) (d : ℕ) → asks m msg ≡ None → d ≢ channel_of msg
    → channel_at (settle t (act t msg m)) d ≡ channel_at m d
other_after m t msg d e apart =
    let c : ℕ = channel_of msg in
    ap (λ a. get_or (bend_ranges a (zones_with a m.zones) (set m.channels c (apply (channel_at m c) msg))) d default_channel) e
    ∙ get_or-set_other m.channels c d (apply (channel_at m c) msg) default_channel apart

get_or-bend_ranges_from : (z : Zones) (m c i : ℕ) (ss : List Channel) (d : Channel) → i < length ss → get_or (bend_ranges_from z m c ss) i d ≡ bend_range_at z m (c + i) (get_or ss i d)
get_or-bend_ranges_from z m c i [] d h = absurd (omega (arith, h))
get_or-bend_ranges_from z m c zero (s ∷ ss) d h = let e : c ≡ c + 0 = omega arith in ap (λ k. bend_range_at z m k s) e
get_or-bend_ranges_from z m c (suc i) (s ∷ ss) d h =
    let e : (c + 1) + i ≡ c + suc i = omega arith in
    get_or-bend_ranges_from z m (c + 1) i ss d (omega (arith, h)) ∙ ap (λ k. bend_range_at z m k (get_or ss i d)) e

-- a zone that is set gives each channel its bend range
pub bend_ranges-at : (z : Zones) (m n i : ℕ) (ss : List Channel) → i < length ss → get_or (bend_ranges (Some (m, suc n)) z ss) i default_channel ≡ bend_range_at z m i (get_or ss i default_channel)
bend_ranges-at z m n i ss h = let e : 0 + i ≡ i = omega arith in get_or-bend_ranges_from z m 0 i ss default_channel h ∙ ap (λ k. bend_range_at z m k (get_or ss i default_channel)) e

apart_first : (n other : ℕ) → (n + left_beside n other < 15) ⊎ ((n ≡ 0) ⊎ (left_beside n other ≡ 0))
apart_first zero other = inr (inl refl)
apart_first (suc n) other = pick (nat_lt (suc n + other) 15) refl
  where
    pick : (b : Bool) → nat_lt (suc n + other) 15 ≡ b → (suc n + cond b other 0 < 15) ⊎ ((suc n ≡ 0) ⊎ (cond b other 0 ≡ 0))
    pick true e = inl (ltb-true (suc n + other) 15 e)
    pick false e = inr (inr refl)

turn_round : (a b : ℕ) → (a + b < 15) ⊎ ((a ≡ 0) ⊎ (b ≡ 0)) → (b + a < 15) ⊎ ((b ≡ 0) ⊎ (a ≡ 0))
turn_round a b (inl h) = inl (omega (arith, h))
turn_round a b (inr (inl h)) = inr (inr h)
turn_round a b (inr (inr h)) = inr (inl h)

apart_with : (a : Option (ℕ × ℕ)) (z : Zones) → AreApart z → AreApart (zones_with a z)
apart_with None z h = h
apart_with (Some s) z h = pick (nat_eq s.0 0)
  where
    pick : (b : Bool) → AreApart (cond b (record { lower = s.1; upper = left_beside s.1 z.upper }) (record { lower = left_beside s.1 z.lower; upper = s.1 }))
    pick true = apart_first s.1 z.upper
    pick false = turn_round s.1 (left_beside s.1 z.lower) (apart_first s.1 z.lower)

apart_advance : (m : Music) (t : ℕ) (d : Doing) → AreApart m.zones → AreApart (advance t d m).zones
apart_advance m t (Plays msg) h = apart_with (asks m msg) m.zones h
apart_advance m t Resets h = inr (inl refl)
apart_advance m t (Tunes r) h = h
apart_advance m t Nothing h = h

apart_play : (m : Music) (es : List MidiEvent) → AreApart m.zones → AreApart (play m es).zones
apart_play m [] h = h
apart_play m (e ∷ es) h = apart_play (step m e) es (apart_advance m e.tick (doing e.what) h)

pub zones_apart : (es : List MidiEvent) → AreApart (play quiet es).zones
zones_apart es = apart_play quiet es (inr (inl refl))
