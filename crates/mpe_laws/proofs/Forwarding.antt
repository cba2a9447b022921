-- A message of a part with a zone that is sent on to the master.
use Rattle.std.proofs.Common.{◌≡◌, ◌<◌, ℕ, true, false, ◌&&◌, List, [], ◌∷◌, Some, refl, ap, sym, ◌∙◌, subst, map, set, get_or, inl, inr}
use Rattle.std.proofs.lemmas.Bool.{cases_eq}
use Rattle.std.proofs.lemmas.List.{get_or-set_same, get_or-set_other}
use Rattle.retune_model.specs.Pairs.{Pair}
use Rattle.mt_base.specs.declared.event.Msg.{Msg}
use Rattle.mt_base.specs.declared.event.Msg.TheVariants.{NoteOn, NoteOff, KeyPressure, Control, Program, Pressure, Bend}
use Rattle.mt_base.specs.Midi.{Says, MidiEvent, channel_of}
use Rattle.midi_model.specs.Sysex.{Plays}
use Rattle.midi_model.specs.Channel.{Channel, default_channel, apply, role}
use Rattle.midi_model.specs.Zones.{Zones, no_zones}
use Rattle.midi_model.specs.Notes.{Note}
use Rattle.midi_model.specs.Music.{Music, channel_at, notes_after, settle_note, advance, step, play}
use Rattle.midi_model.specs.MusicLaws.{IsSettled, begun_by}
use Rattle.retune_model.specs.Options.{Options}
use Rattle.retune_model.specs.PlaysTheSame.{Pairwise}
use Rattle.retune_model.specs.Faults.{Targets, is_part, is_zone_entry, is_entry, is_selected}
use Rattle.channel_model.specs.MpeOutput.{Zone, master_of, zone_of, on_channel, in_zone, mpe_block}
use Rattle.bend_laws.specs.Moments.{Moment}
use Rattle.bend_laws.specs.Follows.{Begins}
use Rattle.bend_laws.proofs.Turned.{plain}
use Rattle.bend_laws.proofs.Keys.{apart_after}
use Rattle.bend_laws.proofs.Given.{IsFine, fine}
use Rattle.bend_laws.proofs.Changing.{said_at}
use Rattle.mpe_laws.specs.Zoned.{planned, AreZones}
use Rattle.mpe_laws.specs.Follows.{Follows, IsGiven}
use Rattle.mpe_laws.proofs.Ops.{Governed}
use Rattle.mpe_laws.proofs.Steering.{zonal, same_zone, IsForwarded, forward_notes}
use Rattle.mpe_laws.proofs.Standing.{Laws, all_governed, Stands, still_follows, Masters, all_settle, told, channels_told, source_told, out_told, part_block}

-- what is to be shown of two musics that settled
pub record Settles (port : ℕ) (o : Options) (table : Targets) (zones : List Zone) (place : Pair → ℕ) (t : ℕ) (m x : Music) : Type 0 where
  pub ss : List Channel
  pub us : List Channel
  pub ns : List Note
  pub xs : List Note
  pub source : m ≡ told no_zones ss t ns
  pub out : x ≡ told (planned zones) us t xs
  pub notes : Pairwise (Governed port o table zones place) ns xs
  pub masters : Masters zones ss us

pub notes_told : (port : ℕ) (o : Options) (table : Targets) (zones : List Zone) (place : Pair → ℕ) (t : ℕ) (m x : Music) →
    Settles port o table zones place t m x → Pairwise (Governed port o table zones place) m.notes x.notes
notes_told port o table zones place t m x h =
    subst (λ (n : Music). Pairwise (Governed port o table zones place) n.notes x.notes) (sym h.source)
    (subst (λ (n : Music). Pairwise (Governed port o table zones place) (map (settle_note h.ss no_zones t) h.ns) n.notes) (sym h.out)
    (all_settle port o table zones place t h.ss h.us h.ns h.xs h.masters h.notes))

pub masters_told : (port : ℕ) (o : Options) (table : Targets) (zones : List Zone) (place : Pair → ℕ) (t : ℕ) (m x : Music) →
    Settles port o table zones place t m x → (c : ℕ) (z : Zone) → zone_of c zones ≡ Some z → channel_at x (master_of z) ≡ channel_at m c
masters_told port o table zones place t m x h c z of = ap (λ (n : Music). channel_at n (master_of z)) h.out ∙ h.masters c z of ∙ ap (λ
    (n : Music). channel_at n c) (sym h.source)

-- a music in which nothing is left to settle
pub settled_told : (w : Zones) (m : Music) (t : ℕ) → m.zones ≡ w → IsSettled m → m ≡ told w m.channels t m.notes
settled_told w m t z s =
    ap (λ ns. let x : Music = record { channels = m.channels; zones = m.zones; notes = ns } in x) (sym (s.notes t)) ∙ ap
    (λ v. told v m.channels t m.notes) z

-- ---- the message on the master

sent_channel : (d : ℕ) (msg : Msg) → channel_of (on_channel d msg) ≡ d
sent_channel d (NoteOn c k v) = refl
sent_channel d (NoteOff c k v) = refl
sent_channel d (KeyPressure c k v) = refl
sent_channel d (Control c n v) = refl
sent_channel d (Program c p) = refl
sent_channel d (Pressure c v) = refl
sent_channel d (Bend c v) = refl

sent_applies : (d : ℕ) (s : Channel) (msg : Msg) → apply s (on_channel d msg) ≡ apply s msg
sent_applies d s (NoteOn c k v) = refl
sent_applies d s (NoteOff c k v) = refl
sent_applies d s (KeyPressure c k v) = refl
sent_applies d s (Control c n v) = refl
sent_applies d s (Program c p) = refl
sent_applies d s (Pressure c v) = refl
sent_applies d s (Bend c v) = refl

sent_entry : (o : Options) (m x : Music) (d : ℕ) (msg : Msg) → is_part o d ≡ true → is_part o (channel_of msg) ≡ true →
    channel_at x d ≡ channel_at m (channel_of msg) → is_zone_entry o m msg ≡ false → is_zone_entry o x (on_channel d msg) ≡ false
sent_entry o m x d (NoteOn c k v) p q e h = refl
sent_entry o m x d (NoteOff c k v) p q e h = refl
sent_entry o m x d (KeyPressure c k v) p q e h = refl
sent_entry o m x d (Control c n v) p q e h =
    ap (λ (s : Channel). is_part o d && (is_entry (role n) && is_selected 6 s.selection)) e
    ∙ ap (λ b. b && (is_entry (role n) && is_selected 6 (channel_at m c).selection)) (p ∙ sym q) ∙ h
sent_entry o m x d (Program c p') p q e h = refl
sent_entry o m x d (Pressure c v) p q e h = refl
sent_entry o m x d (Bend c v) p q e h = refl

begins_none : (m : Music) (t : ℕ) (msg : Msg) → IsForwarded msg → begun_by m t (Plays msg) ≡ []
begins_none m t (NoteOn c k v) f = absurd f
begins_none m t (NoteOff c k v) f = refl
begins_none m t (KeyPressure c k v) f = refl
begins_none m t (Control c n v) f = refl
begins_none m t (Program c p) f = refl
begins_none m t (Pressure c v) f = refl
begins_none m t (Bend c v) f = refl

pub begins_no_pair : (port : ℕ) (o : Options) (table : Targets) (t : ℕ) (msg : Msg) → IsForwarded msg → (p : Pair) → Begins port o table t
    (Says msg) p → ⊥
begins_no_pair port o table t (NoteOn c k v) f p b = f
begins_no_pair port o table t (NoteOff c k v) f p b = b
begins_no_pair port o table t (KeyPressure c k v) f p b = b
begins_no_pair port o table t (Control c n v) f p b = b
begins_no_pair port o table t (Program c q) f p b = b
begins_no_pair port o table t (Pressure c v) f p b = b
begins_no_pair port o table t (Bend c v) f p b = b

zone_sends : (port : ℕ) (o : Options) (table : Targets) (there : List Pair) (m x : Music) (was is : Pair → ℕ) (t : ℕ) (msg : Msg) (z : Zone) →
    IsForwarded msg → in_zone port o table there m x was is t msg (Some z) ≡ on_channel (master_of z) msg ∷ []
zone_sends port o table there m x was is t (NoteOn c k v) z f = absurd f
zone_sends port o table there m x was is t (NoteOff c k v) z f = absurd f
zone_sends port o table there m x was is t (KeyPressure c k v) z f = absurd f
zone_sends port o table there m x was is t (Control c n v) z f = refl
zone_sends port o table there m x was is t (Program c p) z f = refl
zone_sends port o table there m x was is t (Pressure c v) z f = refl
zone_sends port o table there m x was is t (Bend c v) z f = refl

-- ---- the event

pub forward_follows : Laws → (port : ℕ) (o : Options) (table : Targets) (zones : List Zone) → AreZones o zones → (k : Moment) (m x : Music)
    (t track : ℕ) (msg : Msg) (z : Zone) → IsForwarded msg → is_part o (channel_of msg) ≡ true → zone_of (channel_of msg) zones ≡ Some z →
    Follows port o table zones k.old k.was m x → IsGiven port o table zones k m (said_at t track msg) → Follows port o table zones k.new k.is
    (step m (said_at t track msg)) (play x (mpe_block port o table zones k.was true m x k.old k.new (said_at t track msg)))
forward_follows laws port o table zones row k m x t track msg z f part of follows sound =
    let e : MidiEvent = said_at t track msg in
    let c : ℕ = channel_of msg in
    let d : ℕ = master_of z in
    let mg : Msg = on_channel d msg in
    let after : Music = advance t (Plays msg) m in
    let y : Music = advance t (Plays mg) x in
    let fit : IsFine port o table m after k.is t msg = fine port o table m after k.is t msg sound.faultless in
    let A : Channel = apply (get_or m.channels c default_channel) msg in
    let ss : List Channel = set m.channels c A in
    let us : List Channel = set x.channels d A in
    let ns : List Note = notes_after (plain m.channels m.notes) t msg in
    let xs : List Note = notes_after (zonal zones x.channels x.notes) t mg in
    let source : after ≡ told no_zones ss t ns = source_told m t msg follows.source_zones (laws.zones o m msg fit.zone) in
    let out_channels : channels_told x.channels mg ≡ us =
    ap (λ q. set x.channels q (apply (get_or x.channels q default_channel) mg)) (sent_channel d msg)
    ∙ ap (set x.channels d) (sent_applies d (get_or x.channels d default_channel) msg ∙ ap (λ s. apply s msg) (follows.masters c z of)) in
    let out : y ≡ told (planned zones) us t xs =
    out_told zones x t mg follows.out_zones (laws.zones o x mg (sent_entry o m x d msg (row.retuned_master c z of) part
    (follows.masters c z of) fit.zone)) ∙ ap (λ vs. told (planned zones) vs t xs) out_channels in
    let tells : Settles port o table zones k.old t after y = record {
      ss = ss;
      us = us;
      ns = ns;
      xs = xs;
      source = source;
      out = out;
      notes = forward_notes port o table zones row k.old z t m.channels x.channels m.notes x.notes msg f of (follows.masters c z of)
          (all_governed port o table zones row k m x e follows sound);
      masters = λ q w h. elim (cases_eq q c) [
        | inl i ↦ (let same : w ≡ z = same_zone w z (zone_of q zones) (zone_of c zones) h of (ap (λ r. zone_of r zones) i) in
            ap (λ v. get_or us (master_of v) default_channel) same ∙ get_or-set_same x.channels d A default_channel (subst (λ l. d < l)
            (sym follows.out_settled.channels) (row.low_master c z of))
            ∙ sym (get_or-set_same m.channels c A default_channel (subst (λ l. c < l) (sym follows.source_settled.channels) (row.low c z of)))
            ∙ ap (λ r. get_or ss r default_channel) (sym i))
        | inr i ↦ get_or-set_other x.channels d (master_of w) A default_channel (λ r. i (row.own q c w z h of r)) ∙ follows.masters q w h ∙ sym
            (get_or-set_other m.channels c q A default_channel i)
      ];
    } in
    let stands : Stands port o table zones k x after y = record {
      notes = notes_told port o table zones k.old t after y tells;
      apart = apart_after laws.fade o table m t (Plays msg) (begins_none m t msg f) follows.apart;
      masters = masters_told port o table zones k.old t after y tells;
      members = λ q g low h. ap (λ (n : Music). channel_at n q) out ∙ get_or-set_other x.channels d q A default_channel (row.beside c q g z h of);
      source_zones = ap (λ (n : Music). n.zones) source;
      source_settled = laws.settle m e follows.source_settled;
      out_zones = ap (λ (n : Music). n.zones) out;
      out_settled = laws.settle x (said_at t track mg) follows.out_settled;
    } in
    let block : play x (mpe_block port o table zones k.was true m x k.old k.new e) ≡ y =
    part_block port o table zones k m x t track msg (mg ∷ []) part (ap (in_zone port o table k.was m x k.old k.new t msg) of
    ∙ zone_sends port o table k.was m x k.old k.new t msg z f) in
    subst (Follows port o table zones k.new k.is after) (sym block) (still_follows port o table zones k m x e y follows sound
    (begins_no_pair port o table t msg f) stands)
