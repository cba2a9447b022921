-- What an event does to a note needs no more of the music than its channels and zones.
use Rattle.std.proofs.Common.{◌≡◌, ℕ, zero, suc, Option, refl, ap, get_or, set}
use Rattle.mt_base.specs.Midi.{channel_of}
use Rattle.mt_base.specs.declared.event.Msg.{Msg}
use Rattle.mt_base.specs.declared.event.Msg.TheVariants.{NoteOn, NoteOff, KeyPressure, Control, Program, Pressure, Bend}
use Rattle.midi_model.specs.Channel.{Role, Stored, EntryHigh, EntryLow, NrpnLow, NrpnHigh, RpnLow, RpnHigh, AllSoundOff, ResetControllers, AllNotesOff, Ignored, role, apply, default_channel}
use Rattle.midi_model.specs.Sysex.{Doing, Plays, Resets, Tunes, Nothing}
use Rattle.midi_model.specs.Zones.{zones_with, bend_ranges}
use Rattle.midi_model.specs.Notes.{Note}
use Rattle.midi_model.specs.Music.{Music, asked_by, asks, zones_after, channels_after}
use Rattle.receiver.specs.Turns.{set_up, turned, acted, sounding_after}

asked_set_up : (m : Music) (c v : ℕ) (r : Role) → asked_by (set_up m.channels m.zones) c v r ≡ asked_by m c v r
asked_set_up m c v Stored = refl
asked_set_up m c v EntryHigh = refl
asked_set_up m c v EntryLow = refl
asked_set_up m c v NrpnLow = refl
asked_set_up m c v NrpnHigh = refl
asked_set_up m c v RpnLow = refl
asked_set_up m c v RpnHigh = refl
asked_set_up m c v AllSoundOff = refl
asked_set_up m c v ResetControllers = refl
asked_set_up m c v AllNotesOff = refl
asked_set_up m c v Ignored = refl

asks_set_up : (m : Music) (msg : Msg) → asks (set_up m.channels m.zones) msg ≡ asks m msg
asks_set_up m (NoteOn c k v) = refl
asks_set_up m (NoteOff c k v) = refl
asks_set_up m (KeyPressure c k v) = refl
asks_set_up m (Control c n v) = asked_set_up m c v (role n)
asks_set_up m (Program c p) = refl
asks_set_up m (Pressure c v) = refl
asks_set_up m (Bend c v) = refl

pub zones_set_up : (m : Music) (msg : Msg) → zones_after (set_up m.channels m.zones) msg ≡ zones_after m msg
zones_set_up m msg = ap (λ a. zones_with a m.zones) (asks_set_up m msg)

pub channels_set_up : (m : Music) (msg : Msg) → channels_after (set_up m.channels m.zones) msg ≡ channels_after m msg
channels_set_up m msg =
    let c : ℕ = channel_of msg in
    ap (λ a. bend_ranges a (zones_with a m.zones) (set m.channels c (apply (get_or m.channels c default_channel) msg))) (asks_set_up m msg)

turned_set_up : (m : Music) (t c n v : ℕ) (r : Role) (o : Option (ℕ × Note)) → turned (set_up m.channels m.zones) t c n v r o ≡ turned m t c n v r o
turned_set_up m t c n v Stored o = refl
turned_set_up m t c n v EntryHigh o = refl
turned_set_up m t c n v EntryLow o = refl
turned_set_up m t c n v NrpnLow o = refl
turned_set_up m t c n v NrpnHigh o = refl
turned_set_up m t c n v RpnLow o = refl
turned_set_up m t c n v RpnHigh o = refl
turned_set_up m t c n v AllSoundOff o = refl
turned_set_up m t c n v ResetControllers o = refl
turned_set_up m t c n v AllNotesOff o = refl
turned_set_up m t c n v Ignored o = refl

acted_set_up : (m : Music) (next t : ℕ) (msg : Msg) (d j : ℕ) (o : Option (ℕ × Note))
    → acted (set_up m.channels m.zones) next t msg d j o ≡ acted m next t msg d j o
acted_set_up m next t (NoteOn c k zero) d j o = refl
acted_set_up m next t (NoteOn c k (suc v)) d j o = refl
acted_set_up m next t (NoteOff c k v) d j o = refl
acted_set_up m next t (KeyPressure c k v) d j o = refl
acted_set_up m next t (Control c n v) d j o = turned_set_up m t c n v (role n) o
acted_set_up m next t (Program c p) d j o = refl
acted_set_up m next t (Pressure c v) d j o = refl
acted_set_up m next t (Bend c v) d j o = refl

pub after_set_up : (m : Music) (next t : ℕ) (e : Doing) (d j : ℕ) (o : Option (ℕ × Note))
    → sounding_after (set_up m.channels m.zones) next t e d j o ≡ sounding_after m next t e d j o
after_set_up m next t (Plays msg) d j o = rw (channels_set_up m msg, zones_set_up m msg, acted_set_up m next t msg d j o) refl
after_set_up m next t Resets d j o = refl
after_set_up m next t (Tunes r) d j o = refl
after_set_up m next t Nothing d j o = refl
