-- After each event nothing is left to settle.
use Rattle.std.proofs.Common.{◌≡◌, ℕ, zero, suc, ◌+◌, List, [], ◌∷◌, Bool, true, false, cond, Option, Some, None, refl, ap, ◌∙◌, length, map, set}
use Rattle.std.proofs.lemmas.List.{length-set}
use Rattle.mt_base.specs.Midi.{MidiEvent, channel_of}
use Rattle.mt_base.specs.declared.event.Msg.{Msg}
use Rattle.midi_model.specs.Sysex.{Doing, Plays, Resets, Tunes, Nothing, doing}
use Rattle.midi_model.specs.Channel.{Channel, apply}
use Rattle.midi_model.specs.Zones.{Zones, bend_ranges, bend_ranges_from}
use Rattle.midi_model.specs.Notes.{Note, ending}
use Rattle.midi_model.specs.Music.{Music, quiet, channel_at, asks, zones_after, channels_after, act, is_over, settle_note, advance, step}
use Rattle.midi_model.specs.MusicLaws.{IsSettled}

ending_twice_at : (t u : ℕ) (n : Note) (e : Option ℕ) → (let x : Note = record n { ended = e } in ending u (ending t x) ≡ ending t x)
ending_twice_at t u n None = refl
ending_twice_at t u n (Some s) = refl

pub ending_twice : (t u : ℕ) (n : Note) → ending u (ending t n) ≡ ending t n
ending_twice t u n = ending_twice_at t u n n.ended

over_ending_at : (ss : List Channel) (z : Zones) (t : ℕ) (n : Note) (e : Option ℕ) → (let x : Note = record n { ended = e } in is_over ss z (ending t x) ≡ is_over ss z x)
over_ending_at ss z t n None = refl
over_ending_at ss z t n (Some s) = refl

over_ending : (ss : List Channel) (z : Zones) (t : ℕ) (n : Note) → is_over ss z (ending t n) ≡ is_over ss z n
over_ending ss z t n = over_ending_at ss z t n n.ended

-- a note that has ended isn't changed by settling
pub settle_ended : (ss : List Channel) (z : Zones) (t u : ℕ) (n : Note) → settle_note ss z u (ending t n) ≡ ending t n
settle_ended ss z t u n = pick (is_over ss z (ending t n))
  where
    pick : (b : Bool) → cond b (ending u (ending t n)) (ending t n) ≡ ending t n
    pick true = ending_twice t u n
    pick false = refl

pub settle_twice : (ss : List Channel) (z : Zones) (t u : ℕ) (n : Note) → settle_note ss z u (settle_note ss z t n) ≡ settle_note ss z t n
settle_twice ss z t u n = pick (is_over ss z n) refl
  where
    pick : (b : Bool) → is_over ss z n ≡ b → settle_note ss z u (cond b (ending t n) n) ≡ cond b (ending t n) n
    pick true e = settle_ended ss z t u n
    pick false e = ap (λ b. cond b (ending u n) n) e

pub all_settled : (ss : List Channel) (z : Zones) (t u : ℕ) (ns : List Note) → map (settle_note ss z u) (map (settle_note ss z t) ns) ≡ map (settle_note ss z t) ns
all_settled ss z t u [] = refl
all_settled ss z t u (n ∷ ns) = rw (settle_twice ss z t u n, all_settled ss z t u ns) refl

pub all_ended : (ss : List Channel) (z : Zones) (t u : ℕ) (ns : List Note) → map (settle_note ss z u) (map (ending t) ns) ≡ map (ending t) ns
all_ended ss z t u [] = refl
all_ended ss z t u (n ∷ ns) = rw (settle_ended ss z t u n, all_ended ss z t u ns) refl

length-bend_ranges_from : (z : Zones) (m c : ℕ) (ss : List Channel) → length (bend_ranges_from z m c ss) ≡ length ss
length-bend_ranges_from z m c [] = refl
length-bend_ranges_from z m c (s ∷ ss) = ap suc (length-bend_ranges_from z m (c + 1) ss)

length-bend_ranges : (a : Option (ℕ × ℕ)) (z : Zones) (ss : List Channel) → length (bend_ranges a z ss) ≡ length ss
length-bend_ranges None z ss = refl
length-bend_ranges (Some (m, zero)) z ss = refl
length-bend_ranges (Some (m, suc n)) z ss = length-bend_ranges_from z m 0 ss

pub length-channels : (m : Music) (msg : Msg) → length (channels_after m msg) ≡ length m.channels
length-channels m msg =
    let c : ℕ = channel_of msg in
    length-bend_ranges (asks m msg) (zones_after m msg) (set m.channels c (apply (channel_at m c) msg)) ∙ length-set m.channels c (apply (channel_at m c) msg)

settled_advance : (m : Music) (t : ℕ) (d : Doing) → IsSettled m → IsSettled (advance t d m)
settled_advance m t (Plays msg) h = record {
  notes = λ u. all_settled (channels_after m msg) (zones_after m msg) t u (act t msg m).notes;
  channels = length-channels m msg ∙ h.channels;
}
settled_advance m t Resets h = record {
  notes = λ u. all_ended quiet.channels quiet.zones t u m.notes;
  channels = refl;
}
settled_advance m t (Tunes r) h = h
settled_advance m t Nothing h = h

pub settled_step : (m : Music) (e : MidiEvent) → IsSettled m → IsSettled (step m e)
settled_step m e h = settled_advance m e.tick (doing e.what) h
