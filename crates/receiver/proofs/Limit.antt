-- At most 16 parameters count on each channel: what an event has to leave as it is, and what it may change.
use Rattle.std.proofs.Common.{◌≡◌, ℕ, zero, suc, ◌+◌, ◌<◌, ◌≤◌, List, [], ◌∷◌, ◌++◌, Bool, true, false, cond, nat_eq, Option, Some, None, length, set, replicate, refl, ap, sym, ◌∙◌, subst, arith}
use Rattle.std.specs.List.{AllByRecursion}
use Rattle.std.proofs.lemmas.List.{length-map}
use Rattle.mt_base.specs.Midi.{MidiEvent, MidiWhat, Says, SysexOf, MetaOf, channel_of}
use Rattle.mt_base.specs.declared.event.Msg.{Msg}
use Rattle.midi_model.specs.Params.{rpn}
use Rattle.midi_model.specs.Channel.{Channel, default_channel, counted}
use Rattle.midi_model.specs.Zones.{Zones, governor, bend_range, bend_range_at, bend_ranges_from, bend_ranges_sized, bend_ranges}
use Rattle.midi_model.specs.Sysex.{Plays, Resets, Nothing, Retune, doing, tunes, is_reset, tuning_of}
use Rattle.midi_model.specs.Music.{Music, asks, zones_after, advance}
use Rattle.midi_model.specs.Receiver.{after}
use Rattle.receiver.specs.declared.player.Player.{Player}
use Rattle.receiver.specs.State.{own_of}
use Rattle.receiver.specs.Stands.{PlayerStands, AreFew, HasRoom, HasRoomIn}
use Rattle.receiver.proofs.Tidy.{not_counted}
use Rattle.receiver.proofs.Slots.{after_append}

abbrev pub Few : List Channel → Type 0
Few ss = AllByRecursion (λ s. counted s ≤ 16) ss

-- the bend sensitivity doesn't count
range_counted : (n : ℕ) (s : Channel) → counted (bend_range n s) ≡ counted s
range_counted n s = ap length (not_counted (rpn 0) (n, 0) s.params refl)

range_at_counted : (z : Zones) (m c : ℕ) (s : Channel) → counted (bend_range_at z m c s) ≡ counted s
range_at_counted z m c s = pick (nat_eq c m) (nat_eq (governor z c) m)
  where
    pick : (x y : Bool) → counted (cond x (bend_range 2 s) (cond y (bend_range 48 s) s)) ≡ counted s
    pick true y = range_counted 2 s
    pick false true = range_counted 48 s
    pick false false = refl

ranges_few : (z : Zones) (m c : ℕ) (ss : List Channel) → Few ss → Few (bend_ranges_from z m c ss)
ranges_few z m c [] h = tt
ranges_few z m c (s ∷ ss) h = (let e = range_at_counted z m c s in let k : counted s ≤ 16 = h.0 in omega (arith, e, k), ranges_few z m (c + 1) ss h.1)

few_ranges : (z : Zones) (m c : ℕ) (ss : List Channel) → Few (bend_ranges_from z m c ss) → Few ss
few_ranges z m c [] h = tt
few_ranges z m c (s ∷ ss) h = (let e = range_at_counted z m c s in let k : counted (bend_range_at z m c s) ≤ 16 = h.0 in omega (arith, e, k), few_ranges z m (c + 1) ss h.1)

set_up_few : (a : Option (ℕ × ℕ)) (z : Zones) (ss : List Channel) → (Few ss → Few (bend_ranges a z ss)) × (Few (bend_ranges a z ss) → Few ss)
set_up_few None z ss = (λ h. h, λ h. h)
set_up_few (Some s) z ss = pick s.1
  where
    pick : (n : ℕ) → (Few ss → Few (bend_ranges_sized n s.0 z ss)) × (Few (bend_ranges_sized n s.0 z ss) → Few ss)
    pick zero = (λ h. h, λ h. h)
    pick (suc n) = (ranges_few z s.0 0 ss, few_ranges z s.0 0 ss)

-- one channel changes
few_set : (ss : List Channel) (i : ℕ) (y : Channel) → Few ss → counted y ≤ 16 → Few (set ss i y)
few_set [] i y h k = tt
few_set (s ∷ ss) zero y h k = (k, h.1)
few_set (s ∷ ss) (suc i) y h k = (h.0, few_set ss i y h.1 k)

set_few : (ss : List Channel) (i : ℕ) (y : Channel) → i < length ss → Few (set ss i y) → counted y ≤ 16
set_few [] i y low h = absurd (omega (arith, low))
set_few (s ∷ ss) zero y low h = h.0
set_few (s ∷ ss) (suc i) y low h = set_few ss i y (omega (arith, low)) h.1

pub few_defaults : (n : ℕ) → Few (replicate n default_channel)
few_defaults zero = tt
few_defaults (suc n) = (omega arith, few_defaults n)

-- an event that leaves its own channel within the limit leaves all within it, and no other does
few_after : (m : Music) (t : ℕ) (w : MidiWhat) → Few m.channels → HasRoomIn m.channels w → Few (advance t (doing w) m).channels
few_after m t (Says msg) h room = (set_up_few (asks m msg) (zones_after m msg) _).0 (few_set m.channels (channel_of msg) _ h room)
few_after m t (SysexOf lead bytes) h room = pick (nat_eq lead 0xf0) (is_reset bytes) (tuning_of bytes)
  where
    pick : (x y : Bool) (o : Option Retune) → Few (advance t (cond x (cond y Resets (tunes o)) Nothing) m).channels
    pick false y o = h
    pick true true o = few_defaults 16
    pick true false None = h
    pick true false (Some r) = h
few_after m t (MetaOf kind bytes) h room = h

room_before : (m : Music) (t : ℕ) (msg : Msg) → channel_of msg < length m.channels → Few (advance t (Plays msg) m).channels → HasRoomIn m.channels (Says msg)
room_before m t msg low h = set_few m.channels (channel_of msg) _ low ((set_up_few (asks m msg) (zones_after m msg) _).1 h)

-- the same, for what stands for a list of events
pub few_more : (r : Player) (es : List MidiEvent) (e : MidiEvent) → PlayerStands r es → HasRoom r e.what → AreFew (after (es ++ e ∷ [])).music
few_more r es e stands room =
    let P : List Channel → Type 0 = λ ss. HasRoomIn ss e.what in
    subst (λ x. AreFew x.music) (sym (after_append es e)) (few_after (after es).music e.tick e.what stands.few (subst P stands.channels room))

pub room_for : (r : Player) (es : List MidiEvent) (e : MidiEvent) (msg : Msg) → length r.channels ≡ 16 → channel_of msg < 16
    → PlayerStands r es → e.what ≡ Says msg
    → AreFew (after (es ++ e ∷ [])).music → HasRoom r (Says msg)
room_for r es e msg all low stands same few =
    let m : Music = (after es).music in
    let P : List Channel → Type 0 = λ ss. HasRoomIn ss (Says msg) in
    let Q : MidiWhat → Type 0 = λ w. Few (advance e.tick (doing w) m).channels in
    let n : length m.channels ≡ 16 = ap length (sym stands.channels) ∙ length-map r.channels (λ s. own_of s.state) ∙ all in
    subst P (sym stands.channels)
    (room_before m e.tick msg (omega (arith, n, low)) (subst Q same (subst (λ x. AreFew x.music) (after_append es e) few)))
