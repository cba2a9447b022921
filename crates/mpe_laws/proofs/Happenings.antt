-- Every kind of event of the port keeps the relation.
use Rattle.std.proofs.Common.{◌≡◌, ℕ, zero, suc, true, false, List, Option, Some, None, refl, ap, ◌∙◌, inl, inr}
use Rattle.std.proofs.lemmas.Bool.{cases_Bool, both_ways}
use Rattle.mt_base.specs.declared.event.Msg.{Msg}
use Rattle.mt_base.specs.declared.event.Msg.TheVariants.{NoteOn, NoteOff, KeyPressure, Control, Program, Pressure, Bend}
use Rattle.mt_base.specs.Midi.{MidiWhat, Says, SysexOf, MetaOf, MidiEvent, channel_of}
use Rattle.midi_model.specs.Sysex.{doing}
use Rattle.midi_model.specs.Music.{Music, step, play}
use Rattle.retune_model.specs.Options.{Options}
use Rattle.retune_model.specs.Ports.{resets}
use Rattle.retune_model.specs.Pairs.{Pair}
use Rattle.retune_model.specs.Faults.{Targets, is_part, is_poly}
use Rattle.retune_model.specs.SourceFaults.{message_tests, kind_in}
use Rattle.channel_model.specs.MpeOutput.{Zone, zone_of, mpe_block}
use Rattle.bend_laws.specs.Moments.{Moment}
use Rattle.retune_model.proofs.Faulty.{none_holds}
use Rattle.bend_laws.proofs.Changing.{said_at}
use Rattle.bend_laws.proofs.Still.{port_event}
use Rattle.mpe_laws.specs.Zoned.{AreZones, SetsUp}
use Rattle.mpe_laws.specs.Follows.{Follows, IsGiven}
use Rattle.mpe_laws.proofs.Standing.{Laws}
use Rattle.mpe_laws.proofs.Forwarding.{forward_follows}
use Rattle.mpe_laws.proofs.Aside.{drum_follows, none_follows}
use Rattle.mpe_laws.proofs.Lifted.{note_off, note_zero, release_follows}
use Rattle.mpe_laws.proofs.Struck.{strike_follows}
use Rattle.mpe_laws.proofs.Passing.{passed_follows, reset_follows}

-- an event keeps it
abbrev Kept : ℕ → Options → Targets → List Zone → Moment → Music → Music → MidiEvent → Type 0
Kept port o table zones k m x e = Follows port o table zones k.old k.was m x → IsGiven port o table zones k m e →
    Follows port o table zones k.new k.is (step m e) (play x (mpe_block port o table zones k.was true m x k.old k.new e))

not_poly : (port : ℕ) (o : Options) (table : Targets) (m after : Music) (pairs : List Pair) (t : ℕ) (msg : Msg) →
    kind_in port o table t m after false pairs (Says msg) ≡ None → is_poly o msg ≡ false
not_poly port o table m after pairs t msg e = let h = none_holds (message_tests port o table t m after false pairs msg) e in h.1.1.1.1.1.1.1.1.1.1.0

with_zone : Laws → (port : ℕ) (o : Options) (table : Targets) (zones : List Zone) → AreZones o zones → (k : Moment) (m x : Music) (t track : ℕ)
    (msg : Msg) → is_part o (channel_of msg) ≡ true → (z : Zone) → zone_of (channel_of msg) zones ≡ Some z → Kept port o table zones k m x
    (said_at t track msg)
with_zone laws port o table zones row k m x t track (NoteOn c j zero) part z of = release_follows laws port o table zones row k m x t track c j 64
    (NoteOn c j zero) (λ d i. NoteOn d i zero) z (note_zero c j) part of
with_zone laws port o table zones row k m x t track (NoteOn c j
    (suc v)) part z of = strike_follows laws port o table zones row k m x t track c j v part
with_zone laws port o table zones row k m x t track (NoteOff c j v) part z of = release_follows laws port o table zones row k m x t track c j v
    (NoteOff c j v) (λ d i. NoteOff d i v) z (note_off c j v) part of
with_zone laws port o table zones row k m x t track (KeyPressure c j v) part z of = λ follows sound.
    absurd (both_ways (is_poly o (KeyPressure c j v)) (not_poly port o table m (step m (said_at t track (KeyPressure c j v))) k.is t
    (KeyPressure c j v) sound.faultless)
    (ap (λ r. is_poly (record o { route = r }) (KeyPressure c j v)) row.route ∙ part))
with_zone laws port o table zones row k m x t track (Control c n v) part z of = forward_follows laws port o table zones row k m x t track
    (Control c n v) z tt part of
with_zone laws port o table zones row k m x t track (Program c p) part z of = forward_follows laws port o table zones row k m x t track
    (Program c p) z tt part of
with_zone laws port o table zones row k m x t track (Pressure c v) part z of = forward_follows laws port o table zones row k m x t track
    (Pressure c v) z tt part of
with_zone laws port o table zones row k m x t track (Bend c v) part z of = forward_follows laws port o table zones row k m x t track
    (Bend c v) z tt part of

without_zone : Laws → (port : ℕ) (o : Options) (table : Targets) (zones : List Zone) → AreZones o zones → (k : Moment) (m x : Music) (t track : ℕ)
    (msg : Msg) → is_part o (channel_of msg) ≡ true → zone_of (channel_of msg) zones ≡ None → Kept port o table zones k m x (said_at t track msg)
without_zone laws port o table zones row k m x t track (NoteOn c j zero) part none = none_follows laws port o table zones row k m x t track
    (NoteOn c j zero) part none refl refl (λ p b. b)
without_zone laws port o table zones row k m x t track (NoteOn c j
    (suc v)) part none = strike_follows laws port o table zones row k m x t track c j v part
without_zone laws port o table zones row k m x t track (NoteOff c j v) part none = none_follows laws port o table zones row k m x t track
    (NoteOff c j v) part none refl refl (λ p b. b)
without_zone laws port o table zones row k m x t track (KeyPressure c j v) part none = none_follows laws port o table zones row k m x t track
    (KeyPressure c j v) part none refl refl (λ p b. b)
without_zone laws port o table zones row k m x t track (Control c n v) part none = none_follows laws port o table zones row k m x t track
    (Control c n v) part none refl refl (λ p b. b)
without_zone laws port o table zones row k m x t track (Program c q) part none = none_follows laws port o table zones row k m x t track
    (Program c q) part none refl refl (λ p b. b)
without_zone laws port o table zones row k m x t track (Pressure c v) part none = none_follows laws port o table zones row k m x t track
    (Pressure c v) part none refl refl (λ p b. b)
without_zone laws port o table zones row k m x t track (Bend c v) part none = none_follows laws port o table zones row k m x t track
    (Bend c v) part none refl refl (λ p b. b)

part_kept : Laws → (port : ℕ) (o : Options) (table : Targets) (zones : List Zone) → AreZones o zones → (k : Moment) (m x : Music) (t track : ℕ)
    (msg : Msg) → is_part o (channel_of msg) ≡ true → (u : Option Zone) → zone_of (channel_of msg) zones ≡ u → Kept port o table zones k m x
    (said_at t track msg)
part_kept laws port o table zones row k m x t track msg part (Some z) h = with_zone laws port o table zones row k m x t track msg part z h
part_kept laws port o table zones row k m x t track msg part None h = without_zone laws port o table zones row k m x t track msg part h

what_kept : Laws → (port : ℕ) (o : Options) (table : Targets) (zones : List Zone) → AreZones o zones → SetsUp o zones → (k : Moment) (m x : Music)
    (t track : ℕ) (w : MidiWhat) → Kept port o table zones k m x (port_event t track w)
what_kept laws port o table zones row sets k m x t track (Says msg) follows sound = elim (cases_Bool (is_part o (channel_of msg))) [
  | inl part ↦ part_kept laws port o table zones row k m x t track msg part (zone_of (channel_of msg) zones) refl follows sound
  | inr drum ↦ drum_follows laws port o table zones row k m x t track msg drum follows sound
]
what_kept laws port o table zones row sets k m x t track (SysexOf lead bytes) follows sound = elim (cases_Bool (resets (doing
    (SysexOf lead bytes)))) [
      | inl r ↦ reset_follows laws port o table zones row sets k m x t track (SysexOf lead bytes) tt r follows sound
      | inr r ↦ passed_follows port o table zones row k m x t track (SysexOf lead bytes) tt r follows sound
    ]
what_kept laws port o table zones row sets k m x t track (MetaOf kind bytes) follows sound = passed_follows port o table zones row k m x t track
    (MetaOf kind bytes) tt refl follows sound

pub event_kept : Laws → (port : ℕ) (o : Options) (table : Targets) (zones : List Zone) → AreZones o zones → SetsUp o zones → (k : Moment)
    (m x : Music) (e : MidiEvent) →
    Follows port o table zones k.old k.was m x → IsGiven port o table zones k m e → Follows port o table zones k.new k.is (step m e) (play x
    (mpe_block port o table zones k.was true m x k.old k.new e))
event_kept laws port o table zones row sets k m x e follows sound =
    what_kept laws port o table zones row sets k m x e.tick e.track e.what follows sound
