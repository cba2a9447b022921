-- Every kind of event of the port keeps the relation.
use Rattle.std.proofs.Common.{◌≡◌, ℕ, zero, suc, Bool, true, refl, sym, subst, inl, inr}
use Rattle.std.proofs.lemmas.Bool.{cases_Bool}
use Rattle.mt_base.specs.declared.event.Msg.{Msg}
use Rattle.mt_base.specs.declared.event.Msg.TheVariants.{NoteOn, NoteOff, KeyPressure, Control, Program, Pressure, Bend}
use Rattle.mt_base.specs.Midi.{MidiWhat, Says, SysexOf, MetaOf, MidiEvent, channel_of}
use Rattle.midi_model.specs.Sysex.{doing}
use Rattle.midi_model.specs.Channel.{role, Role, Stored, EntryHigh, EntryLow, NrpnLow, NrpnHigh, RpnLow, RpnHigh, AllSoundOff, ResetControllers, AllNotesOff, Ignored, State}
use Rattle.retune_model.specs.Options.{Options}
use Rattle.retune_model.specs.Ports.{resets}
use Rattle.retune_model.specs.Faults.{Targets, is_part}
use Rattle.bend_laws.specs.Moments.{Moment, Both, next_both}
use Rattle.bend_laws.specs.Follows.{IsGiven, AreUsed, Follows}
use Rattle.bend_laws.proofs.Given.{Laws}
use Rattle.bend_laws.proofs.Changing.{said_at, BringsAll, change_follows}
use Rattle.bend_laws.proofs.Still.{port_event, passed_follows, ignored_follows}
use Rattle.bend_laws.proofs.Altered.{reset_follows}
use Rattle.bend_laws.proofs.Elsewhere.{drum_follows}
use Rattle.bend_laws.proofs.Releasing.{note_off, note_zero, release_follows}
use Rattle.bend_laws.proofs.Sending.{IsSent, send_follows}
use Rattle.bend_laws.proofs.Beginning.{begin_follows}

-- an event keeps it
abbrev Kept : (State → Type 0) → ℕ → Options → Targets → (ℕ → Bool) → Moment → Both → MidiEvent → Type 0
Kept Good port o table used k b e = Follows Good port o table used k.old k.was b → IsGiven Good port o table used k b.source e →
    Follows Good port o table used k.new k.is (next_both port o table k b e)

controller_kept : (Good : State → Type 0) → Laws Good → (port : ℕ) (o : Options) (table : Targets) (used : ℕ → Bool) → AreUsed o used →
    (k : Moment) (b : Both) (t track c n v : ℕ) → is_part o c ≡ true → (r : Role) → role n ≡ r →
    Kept Good port o table used k b (said_at t track (Control c n v))
controller_kept Good laws port o table used row k b t track c n v part Stored e =
    change_follows Good laws port o table used row k b t track (Control c n v) (subst BringsAll (sym e) tt) part
controller_kept Good laws port o table used row k b t track c n v part EntryHigh e =
    change_follows Good laws port o table used row k b t track (Control c n v) (subst BringsAll (sym e) tt) part
controller_kept Good laws port o table used row k b t track c n v part EntryLow e =
    change_follows Good laws port o table used row k b t track (Control c n v) (subst BringsAll (sym e) tt) part
controller_kept Good laws port o table used row k b t track c n v part NrpnLow e =
    change_follows Good laws port o table used row k b t track (Control c n v) (subst BringsAll (sym e) tt) part
controller_kept Good laws port o table used row k b t track c n v part NrpnHigh e =
    change_follows Good laws port o table used row k b t track (Control c n v) (subst BringsAll (sym e) tt) part
controller_kept Good laws port o table used row k b t track c n v part RpnLow e =
    change_follows Good laws port o table used row k b t track (Control c n v) (subst BringsAll (sym e) tt) part
controller_kept Good laws port o table used row k b t track c n v part RpnHigh e =
    change_follows Good laws port o table used row k b t track (Control c n v) (subst BringsAll (sym e) tt) part
controller_kept Good laws port o table used row k b t track c n v part ResetControllers e =
    change_follows Good laws port o table used row k b t track (Control c n v) (subst BringsAll (sym e) tt) part
controller_kept Good laws port o table used row k b t track c n v part AllSoundOff e =
    send_follows Good laws port o table used row k b t track c n v (subst IsSent (sym e) tt) part
controller_kept Good laws port o table used row k b t track c n v part AllNotesOff e =
    send_follows Good laws port o table used row k b t track c n v (subst IsSent (sym e) tt) part
controller_kept Good laws port o table used row k b t track c n v part Ignored e =
    ignored_follows Good laws port o table used k b t track c n v e part

part_kept : (Good : State → Type 0) → Laws Good → (port : ℕ) (o : Options) (table : Targets) (used : ℕ → Bool) → AreUsed o used → (k : Moment)
    (b : Both) (t track : ℕ) (msg : Msg) → is_part o (channel_of msg) ≡ true → Kept Good port o table used k b (said_at t track msg)
part_kept Good laws port o table used row k b t track (NoteOn c j zero) part =
    release_follows Good laws port o table used row k b t track c j 64 (NoteOn c j zero) (λ d i. NoteOn d i zero) (note_zero c j) part
part_kept Good laws port o table used row k b t track (NoteOn c j (suc v)) part = begin_follows Good laws port o table used row k b t track c j v part
part_kept Good laws port o table used row k b t track (NoteOff c j v) part =
    release_follows Good laws port o table used row k b t track c j v (NoteOff c j v) (λ d i. NoteOff d i v) (note_off c j v) part
part_kept Good laws port o table used row k b t track (Control c n v) part =
    controller_kept Good laws port o table used row k b t track c n v part (role n) refl
part_kept Good laws port o table used row k b t track (KeyPressure c j v) part =
    change_follows Good laws port o table used row k b t track (KeyPressure c j v) tt part
part_kept Good laws port o table used row k b t track (Program c p) part =
    change_follows Good laws port o table used row k b t track (Program c p) tt part
part_kept Good laws port o table used row k b t track (Pressure c v) part =
    change_follows Good laws port o table used row k b t track (Pressure c v) tt part
part_kept Good laws port o table used row k b t track (Bend c v) part = change_follows Good laws port o table used row k b t track (Bend c v) tt part

what_kept : (Good : State → Type 0) → Laws Good → (port : ℕ) (o : Options) (table : Targets) (used : ℕ → Bool) → AreUsed o used → (k : Moment)
    (b : Both) (t track : ℕ) (w : MidiWhat) → Kept Good port o table used k b (port_event t track w)
what_kept Good laws port o table used row k b t track (Says msg) follows sound = elim (cases_Bool (is_part o (channel_of msg))) [
  | inl part ↦ part_kept Good laws port o table used row k b t track msg part follows sound
  | inr drum ↦ drum_follows Good laws port o table used row k b t track msg drum follows sound
]
what_kept Good laws port o table used row k b t track (SysexOf lead bytes) follows sound = elim (cases_Bool (resets (doing (SysexOf lead bytes)))) [
  | inl r ↦ reset_follows Good laws port o table used k b t track (SysexOf lead bytes) tt r follows sound
  | inr r ↦ passed_follows Good port o table used k b t track (SysexOf lead bytes) tt r follows sound
]
what_kept Good laws port o table used row k b t track (MetaOf kind bytes) follows sound =
    passed_follows Good port o table used k b t track (MetaOf kind bytes) tt refl follows sound

pub event_kept : (Good : State → Type 0) → Laws Good → (port : ℕ) (o : Options) (table : Targets) (used : ℕ → Bool) → AreUsed o used → (k : Moment)
    (b : Both) (e : MidiEvent) →
    Follows Good port o table used k.old k.was b → IsGiven Good port o table used k b.source e →
    Follows Good port o table used k.new k.is (next_both port o table k b e)
event_kept Good laws port o table used row k b e follows sound = what_kept Good laws port o table used row k b e.tick e.track e.what follows sound
