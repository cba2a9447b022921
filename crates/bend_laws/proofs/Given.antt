-- The laws that the proof rests on, and what is known of a message without a fault.
use Rattle.std.proofs.Common.{◌≡◌, ◌&&◌, ◌<◌, ◌≤◌, ℕ, pos, true, false, List, None, is_some, sym, ◌∙◌, subst, length, arith}
use Rattle.retune_model.specs.Pairs.{Pair}
use Rattle.mt_base.specs.declared.event.Msg.{Msg}
use Rattle.mt_base.specs.declared.event.Msg.TheVariants.{NoteOn, NoteOff, KeyPressure, Control, Program, Pressure, Bend}
use Rattle.mt_base.specs.Midi.{Says, channel_of}
use Rattle.mt_base.specs.Valid.{IsValidMsg}
use Rattle.midi_model.specs.Channel.{State}
use Rattle.midi_model.specs.Notes.{Note}
use Rattle.midi_model.specs.Music.{Music, channel_at}
use Rattle.midi_model.specs.MusicLaws.{EventsSettle, NotesFade}
use Rattle.retune_model.specs.Options.{Options}
use Rattle.retune_model.specs.Faults.{Targets, is_part, is_zone_entry, is_unison, is_restrike, is_bend, is_unmapped, is_out_of_device}
use Rattle.retune_model.specs.SourceFaults.{beyond_after, message_tests, kind_in}
use Rattle.retune_model.specs.FaultLaws.{OnlyZoneEntriesAskForZones}
use Rattle.retune_model.specs.PlaysTheSame.{Pairwise}
use Rattle.channel_model.specs.Choice.{wanted}
use Rattle.bend_laws.proofs.Brought.{BringReaches}
use Rattle.bend_laws.specs.Follows.{IsPlayedBy, IsMatched}
use Rattle.bend_laws.proofs.Lists.{pair_second}
use Rattle.bend_laws.proofs.Bringing.{KeysFit}
use Rattle.bend_laws.proofs.Keys.{aim_fits}
use Rattle.retune_model.proofs.Faulty.{none_holds}

pub record Laws (Good : State → Type 0) : Type 0 where
  pub bringing : BringReaches Good
  pub settle : EventsSettle
  pub fade : NotesFade
  pub zones : OnlyZoneEntriesAskForZones

-- what a message without a fault is not
pub record IsFine (port : ℕ) (o : Options) (table : Targets) (m after : Music) (pairs : List Pair) (t : ℕ) (msg : Msg) : Type 0 where
  pub mapped : is_unmapped o table t msg ≡ false
  pub in_device : is_out_of_device o table t msg ≡ false
  pub unison : is_unison o table m t msg ≡ false
  pub bend : (is_bend o.route && (is_part o (channel_of msg) && is_some (beyond_after port o after pairs msg))) ≡ false
  pub zone : is_zone_entry o m msg ≡ false
  pub restrike : is_restrike o table m t msg ≡ false

pub fine : (port : ℕ) (o : Options) (table : Targets) (m after : Music) (pairs : List Pair) (t : ℕ) (msg : Msg) →
    kind_in port o table t m after false pairs (Says msg) ≡ None →
    IsFine port o table m after pairs t msg
fine port o table m after pairs t msg e =
    let h = none_holds (message_tests port o table t m after false pairs msg) e in
    record { mapped = h.0; in_device = h.1.0; unison = h.1.1.0; bend = h.1.1.1.0; zone = h.1.1.1.1.1.1.1.0; restrike = h.1.1.1.1.1.1.1.1.1.1.1.0 }

pub valid_channel : (msg : Msg) → IsValidMsg msg → channel_of msg < 16
valid_channel (NoteOn c k v) h = (let l : c ≤ 15 = h.0 in omega (arith, l))
valid_channel (NoteOff c k v) h = (let l : c ≤ 15 = h.0 in omega (arith, l))
valid_channel (KeyPressure c k v) h = (let l : c ≤ 15 = h.0 in omega (arith, l))
valid_channel (Control c n v) h = (let l : c ≤ 15 = h.0 in omega (arith, l))
valid_channel (Program c p) h = (let l : c ≤ 15 = h.0 in omega (arith, l))
valid_channel (Pressure c v) h = (let l : c ≤ 15 = h.0 in omega (arith, l))
valid_channel (Bend c v) h = (let l : c ≤ 15 = h.0 in omega (arith, l))

-- a part's controllers
pub wide_part : (Good : State → Type 0) → BringReaches Good → (o : Options) (table : Targets) (m : Music) →
    ((p : Pair) → Good (wanted o table m p)) → (c : ℕ) → length (channel_at m c).controls ≡ 120
wide_part Good law o table m good c = let p : Pair = record {
  part = record { port = 0; channel = c };
  steps =
      pos 0;
} in law.wide (wanted o table m p) (good p)

-- the output's keys are keys
key_fits : (port : ℕ) (o : Options) (table : Targets) (place : Pair → ℕ) (a b : Note) → IsMatched port o table place a b →
    is_part o b.channel ≡ true → b.key < 128
key_fits port o table place a b h p = let y : IsPlayedBy port o table place a b = h.played (sym h.retuned ∙ p) in subst (λ k. k < 128) (sym y.key)
    (aim_fits o.range (table a.key a.onset) y.target y.aim)

pub keys_fit : (port : ℕ) (o : Options) (table : Targets) (place : Pair → ℕ) (ns xs : List Note) → Pairwise (IsMatched port o table place) ns xs →
    KeysFit o xs
keys_fit port o table place ns xs h = pair_second (IsMatched port o table place) (λ b. is_part o b.channel ≡ true → b.key < 128)
    (key_fits port o table place) ns xs h
