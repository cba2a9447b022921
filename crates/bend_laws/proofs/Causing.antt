-- How many messages an event causes: 392 at most. A note on causes what brings one channel to what its pair needs, 391 at most, and the note
-- on. Another message of a part causes, on each of the sixteen channels that the part may hold, fifteen at most beside key pressures, and
-- of these 128 at most over all channels together.
use Rattle.std.proofs.Common.{◌≡◌, ◌<◌, ◌≤◌, ◌⊎◌, ◌+◌, ◌*◌, ◌++◌, ℕ, zero, suc, Bool, true, cond, List, [], ◌∷◌, Option, Some, None, refl, ap, sym, ◌∙◌, subst, map, length, arith, inl, inr}
use Rattle.std.specs.List.{AllByRecursion}
use Rattle.std.specs.Set.{is_member}
use Rattle.std.proofs.lemmas.Bool.{cond_both}
use Rattle.std.proofs.lemmas.List.{length-append, get_or-set_same, append-nil}
use Rattle.retune_model.specs.Pairs.{Pair, is_same_pair}
use Rattle.mt_base.specs.declared.event.Msg.{Msg}
use Rattle.mt_base.specs.declared.event.Msg.TheVariants.{NoteOn, NoteOff, KeyPressure, Control, Program, Pressure, Bend}
use Rattle.mt_base.specs.Midi.{MidiWhat, Says, SysexOf, MetaOf, MidiEvent, channel_of}
use Rattle.midi_model.specs.WellFormed.{IsWellFormed}
use Rattle.midi_model.specs.Sysex.{Plays}
use Rattle.midi_model.specs.Params.{rpn, put}
use Rattle.midi_model.specs.ParameterLaws.{PutGivesTheValue, PutLeavesTheOthers}
use Rattle.midi_model.specs.Channel.{Channel, State, Role, Stored, EntryHigh, EntryLow, NrpnLow, NrpnHigh, RpnLow, RpnHigh, AllSoundOff, ResetControllers, AllNotesOff, Ignored, default_channel, counted, role, apply}
use Rattle.midi_model.specs.Notes.{Note}
use Rattle.midi_model.specs.Music.{Music, channel_at, step, state_at}
use Rattle.midi_model.specs.MusicLaws.{AllFade, NotesFade}
use Rattle.midi_model.specs.Bring.{bring}
use Rattle.retune_model.specs.Table.{BendTarget}
use Rattle.retune_model.specs.Options.{Options}
use Rattle.retune_model.specs.FaultLaws.{OnlyZoneEntriesAskForZones}
use Rattle.retune_model.specs.PlaysTheSame.{bend_target_if}
use Rattle.retune_model.specs.Faults.{Targets, is_part, target_of}
use Rattle.channel_model.specs.Choice.{wanted}
use Rattle.channel_model.specs.BendOutput.{Held, pair_with, pressed_note, off_at, note_begins, note_released, held_by, bring_all, send_all, controller_causes}
use Rattle.state_laws.specs.Counts.{differing, differing_params, few, SendsFewOnes, SendsAtMost, ChangesThoseThatDiffer}
use Rattle.bend_laws.specs.Moments.{Moment, Both, part_causes, port_causes}
use Rattle.bend_laws.specs.Brought.{IsReached}
use Rattle.bend_laws.specs.Follows.{Has, IsGiven, AreUsed, Follows}
use Rattle.bend_laws.specs.Simulation.{IsState}
use Rattle.bend_laws.proofs.Playing.{reached_play}
use Rattle.bend_laws.proofs.Bridge.{ReceiversStay, well_reached}
use Rattle.bend_laws.proofs.Holding.{OnOwnChannels, held_all, held_own}
use Rattle.bend_laws.proofs.Given.{IsFine, fine, valid_channel}
use Rattle.bend_laws.proofs.Turned.{said}
use Rattle.bend_laws.proofs.Changing.{said_at, BringsAll, Changes, causes_bring, none_begun}
use Rattle.bend_laws.proofs.Wellness.{IsFineSource}
use Rattle.bend_laws.proofs.Shown.{begun_there}
use Rattle.bend_laws.proofs.Roomy.{AreRoomy, wanted_roomy}
use Rattle.bend_laws.proofs.Differing.{LittleDiffers, differing_itself, both_put, params_same, params_alike, message_little}
use Rattle.bend_laws.proofs.Pressing.{AreHeldOn, keys_of, keys_differ, keys_few, held_few}

-- what is cited of states, parameters and notes
pub record CountLaws : Type 0 where
  pub few : SendsFewOnes
  pub most : SendsAtMost
  pub those : ChangesThoseThatDiffer
  pub given : PutGivesTheValue
  pub others : PutLeavesTheOthers
  pub stay : ReceiversStay
  pub fade : NotesFade
  pub zones : OnlyZoneEntriesAskForZones

-- what is known around an event of a port
pub record IsAround (port : ℕ) (o : Options) (table : Targets) (used : ℕ → Bool) (k : Moment) (b : Both) (e : MidiEvent) : Type 0 where
  pub row : AreUsed o used
  pub follows : Follows IsWellFormed port o table used k.old k.was b
  pub given : IsGiven IsWellFormed port o table used k b.source e
  pub there : (p : Pair) → Has k.was p → IsState (state_at b.out (k.old p)) (wanted o table b.source p)
  pub source : IsFineSource b.source
  pub left : (c : ℕ) → counted (b.left c) ≤ 16
  pub roomy : AreRoomy o (step b.source e)

-- ---- a note on

begun_count : CountLaws → (port : ℕ) (o : Options) (table : Targets) (used : ℕ → Bool) (k : Moment) (b : Both) (t track c j v : ℕ) →
    (let e : MidiEvent = said_at t track (NoteOn c j (suc v)) in IsAround port o table used k b e → is_part o c ≡ true → (x : Option BendTarget) →
    bend_target_if o.range (table j t) ≡ x → length (note_begins port o table k.was (step b.source e) b.out k.new c (suc v) x) ≤ 392)
begun_count laws port o table used k b t track c j v a part None aim = omega arith
begun_count laws port o table used k b t track c j v a part (Some x) aim =
    let e : MidiEvent = said_at t track (NoteOn c j (suc v)) in
    let p : Pair = pair_with port c x in
    let d : ℕ = k.new p in
    let after : Music = step b.source e in
    let now : State = state_at b.out d in
    let is : Has k.is p = begun_there IsWellFormed port o table used k.old k.was k b t track c j v a.follows a.given part x aim in
    let same : counted (channel_at b.out d) ≡ counted (b.left d) =
    ap (λ es. let s : Channel = record default_channel { params = es } in counted s) (a.follows.states d (a.given.used_is p is)).params in
    let room : counted now.own ≤ 16 = omega (arith, same, a.left d) in
    let ms : List Msg = bring d now (wanted o table after p) in
    let most : length ms ≤ 391 = laws.most d now (wanted o table after p) (well_reached laws.stay b.out d a.follows.out_reached) (a.given.good p) room
    (wanted_roomy o table after p a.roomy part) in
    let first : List Msg = cond (is_member is_same_pair k.was p) [] ms in
    let one : length first ≤ 391 = cond_both (is_member is_same_pair k.was p) [] ms (λ l. length l ≤ 391) (λ i. omega arith) (λ i. most) in
    omega (arith, one, length-append first (NoteOn d x.key (suc v) ∷ []))

-- ---- the end of a note

pub released_count : (port : ℕ) (o : Options) (table : Targets) (place : Pair → ℕ) (off : ℕ → ℕ → Msg) (c : ℕ) (x : Option Note) →
    length (note_released port o table place off c x) ≤ 1
released_count port o table place off c None = omega arith
released_count port o table place off c (Some n) = pick (target_of o table n)
  where
    pick : (x : Option BendTarget) → length (off_at port place off c x) ≤ 1
    pick None = omega arith
    pick (Some t) = omega arith

-- ---- the channels that a part holds

sent_count : (n v : ℕ) (hs : List Held) → length (send_all n v hs) ≡ length hs
sent_count n v [] = refl
sent_count n v (h ∷ hs) = ap suc (sent_count n v hs)

held_owned : (port : ℕ) (o : Options) (table : Targets) (used : ℕ → Bool) (k : Moment) (b : Both) (e : MidiEvent) →
    IsAround port o table used k b e → (c : ℕ) → OnOwnChannels (held_by k.old c k.holds)
held_owned port o table used k b e a c =
    held_own k.old c k.holds a.given.once (λ p q h g. a.given.apart_was p q (a.given.was_there p h) (a.given.was_there q g))

held_count : (port : ℕ) (o : Options) (table : Targets) (used : ℕ → Bool) (k : Moment) (b : Both) (e : MidiEvent) →
    IsAround port o table used k b e → (c : ℕ) → length (held_by k.old c k.holds) ≤ 16
held_count port o table used k b e a c =
    held_few (held_by k.old c k.holds) (held_owned port o table used k b e a c)
    (held_all (λ h. h.channel < 16) k.old c k.holds (λ p h i. a.row.channel (k.old p) (a.given.used_was p (a.given.was_there p h))))

-- the part's channel after the message
channel_after : OnlyZoneEntriesAskForZones → (port : ℕ) (o : Options) (table : Targets) (used : ℕ → Bool) (k : Moment) (b : Both)
    (t track : ℕ) (msg : Msg) → IsAround port o table used k b (said_at t track msg) →
    channel_at (step b.source (said_at t track msg)) (channel_of msg) ≡ apply (channel_at b.source (channel_of msg)) msg
channel_after zones port o table used k b t track msg a =
    let c : ℕ = channel_of msg in
    let after : Music = step b.source (said_at t track msg) in
    let fit : IsFine port o table b.source after k.is t msg = fine port o table b.source after k.is t msg a.given.faultless in
    let low : c < 16 = valid_channel msg a.given.valid.what in
    let wide = a.follows.source_settled.channels in
    ap (λ (x : Music). channel_at x c) (said b.source t msg (zones o b.source msg fit.zone))
    ∙ get_or-set_same b.source.channels c (apply (channel_at b.source c) msg) default_channel (omega (arith, low, wide))

-- beside key pressures fifteen on each channel
brought_count : CountLaws → (port : ℕ) (o : Options) (table : Targets) (used : ℕ → Bool) (k : Moment) (b : Both) (t track : ℕ) (msg : Msg) →
    (let after : Music = step b.source (said_at t track msg) in
    IsAround port o table used k b (said_at t track msg) → (p : Pair) → Has k.holds p → p.part.channel ≡ channel_of msg →
    length (bring (k.old p) (state_at b.out (k.old p)) (wanted o table after p))
    ≤ 15 + differing (keys_of o table p b.source.notes) (keys_of o table p after.notes))
brought_count laws port o table used k b t track msg a p holds on =
    omega (arith, sent, at_controls, at_params, at_keys, little_count little)
  where
    e : MidiEvent
    e = said_at t track msg

    after : Music
    after = step b.source e

    c : ℕ
    c = p.part.channel

    s : Channel
    s = channel_at b.source c

    x : Channel
    x = channel_at after c

    now : State
    now = state_at b.out (k.old p)

    was : State
    was = wanted o table b.source p

    to : State
    to = wanted o table after p

    is : IsState now was
    is = a.there p (a.given.was_there p holds)

    well : IsWellFormed now
    well = well_reached laws.stay b.out (k.old p) a.follows.out_reached

    sent : length (bring (k.old p) now to) ≤ few now to
    sent = laws.few (k.old p) now to well (a.given.good p)

    at_controls : differing now.own.controls to.own.controls ≡ differing s.controls x.controls
    at_controls = ap (λ cs. differing cs x.controls) is.own.controls

    at_params : differing_params now.own.params to.own.params ≡ differing_params was.own.params to.own.params
    at_params = ap (λ ps. differing_params ps to.own.params) is.own.params

    at_keys : differing now.keys to.keys ≡ differing was.keys to.keys
    at_keys = ap (λ ks. differing ks to.keys) is.keys

    little : LittleDiffers s x
    little = subst (LittleDiffers s) (sym (ap (channel_at after) on ∙ channel_after laws.zones port o table used k b t track msg a
        ∙ ap (λ d. apply (channel_at b.source d) msg) (sym on))) (message_little laws.others s msg)

    little_count : LittleDiffers s x → differing s.controls x.controls + 4 * differing_params was.own.params to.own.params ≤ 6
    little_count (inl (same, some)) =
        let none = params_same laws.those was to (a.follows.good_source p) (a.given.good p) (ap (put (rpn 0) (o.range, 0)) (sym same)) in
        omega (arith, none, some)
    little_count (inr (same, one)) =
        let reached : IsReached after = reached_play b.source (e ∷ []) (a.given.valid, tt) a.source.reached in
        let alike = both_put laws.given laws.others one.other (rpn 0) (o.range, 0) s.params x.params
        (well_reached laws.stay b.source c a.source.reached).canonical (well_reached laws.stay after c reached).canonical one.alike in
        let most = params_alike laws.those was to (a.follows.good_source p) (a.given.good p) one.other alike in
        omega (arith, most, ap (differing s.controls) same, differing_itself s.controls)

brings_few : (o : Options) (table : Targets) (before after out : Music) (hs : List Held) →
    AllByRecursion (λ h. length (bring h.channel (state_at out h.channel) (wanted o table after h.pair))
    ≤ 15 + differing (keys_of o table h.pair before.notes) (keys_of o table h.pair after.notes)) hs →
    length (bring_all o table after out hs) ≤ 15 * length hs + keys_differ o table before.notes after.notes hs
brings_few o table before after out [] h = omega arith
brings_few o table before after out (g ∷ gs) h =
    let rest = brings_few o table before after out gs h.1 in
    omega (arith, h.0, rest, length-append (bring g.channel (state_at out g.channel) (wanted o table after g.pair)) (bring_all o table after out gs))

changed_count : CountLaws → (port : ℕ) (o : Options) (table : Targets) (used : ℕ → Bool) (k : Moment) (b : Both) (t track : ℕ) (msg : Msg) →
    (let e : MidiEvent = said_at t track msg in Changes msg → IsAround port o table used k b e →
    length (part_causes port o table k b.source (step b.source e) b.out t msg) ≤ 392)
changed_count laws port o table used k b t track msg changes a =
    let e : MidiEvent = said_at t track msg in
    let after : Music = step b.source e in
    let c : ℕ = channel_of msg in
    let hs : List Held = held_by k.old c k.holds in
    let own : OnOwnChannels hs = held_owned port o table used k b e a c in
    let on : AreHeldOn port k.old c hs =
    held_all (λ (h : Held). (h.pair.part.port ≡ port) × ((h.pair.part.channel ≡ c) × (h.channel ≡ k.old h.pair))) k.old c k.holds
    (λ p h i. (a.given.ports_was p (a.given.was_there p h), (i, refl))) in
    let fades : AllFade b.source.notes after.notes =
    subst (λ ns. AllFade ns after.notes) (ap (λ x. b.source.notes ++ x) (none_begun b.source t msg changes) ∙ append-nil b.source.notes)
    (laws.fade b.source t (Plays msg)) in
    let keys = keys_few port o table k.old c hs own on b.source.notes after.notes fades a.follows.apart a.source.low in
    let brings = brings_few o table b.source after b.out hs
    (held_all (λ h. length (bring h.channel (state_at b.out h.channel) (wanted o table after h.pair))
    ≤ 15 + differing (keys_of o table h.pair b.source.notes) (keys_of o table h.pair after.notes)) k.old c k.holds
    (brought_count laws port o table used k b t track msg a)) in
    omega (
      arith,
      keys,
      brings,
      held_count port o table used k b e a c,
      ap length (causes_bring port o table k b.source after b.out t msg changes),
    )

-- ---- any message of a part

control_count : CountLaws → (port : ℕ) (o : Options) (table : Targets) (used : ℕ → Bool) (k : Moment) (b : Both) (t track c n v : ℕ) (r : Role) →
    role n ≡ r → (let e : MidiEvent = said_at t track (Control c n v) in IsAround port o table used k b e →
    length (part_causes port o table k b.source (step b.source e) b.out t (Control c n v)) ≤ 392)
control_count laws port o table used k b t track c n v AllSoundOff is a =
    omega (
      arith,
      ap (λ r. length (controller_causes o table (step b.source (said_at t track (Control c n v))) b.out (held_by k.old c k.holds) n v r)) is,
      sent_count n v (held_by k.old c k.holds),
      held_count port o table used k b (said_at t track (Control c n v)) a c,
    )
control_count laws port o table used k b t track c n v AllNotesOff is a =
    omega (
      arith,
      ap (λ r. length (controller_causes o table (step b.source (said_at t track (Control c n v))) b.out (held_by k.old c k.holds) n v r)) is,
      sent_count n v (held_by k.old c k.holds),
      held_count port o table used k b (said_at t track (Control c n v)) a c,
    )
control_count laws port o table used k b t track c n v Ignored is a =
    omega (
      arith,
      ap (λ r. length (controller_causes o table (step b.source (said_at t track (Control c n v))) b.out (held_by k.old c k.holds) n v r)) is,
    )
control_count laws port o table used k b t track c n v Stored is a =
    changed_count laws port o table used k b t track (Control c n v) (subst BringsAll (sym is) tt) a
control_count laws port o table used k b t track c n v EntryHigh is a =
    changed_count laws port o table used k b t track (Control c n v) (subst BringsAll (sym is) tt) a
control_count laws port o table used k b t track c n v EntryLow is a =
    changed_count laws port o table used k b t track (Control c n v) (subst BringsAll (sym is) tt) a
control_count laws port o table used k b t track c n v NrpnLow is a =
    changed_count laws port o table used k b t track (Control c n v) (subst BringsAll (sym is) tt) a
control_count laws port o table used k b t track c n v NrpnHigh is a =
    changed_count laws port o table used k b t track (Control c n v) (subst BringsAll (sym is) tt) a
control_count laws port o table used k b t track c n v RpnLow is a =
    changed_count laws port o table used k b t track (Control c n v) (subst BringsAll (sym is) tt) a
control_count laws port o table used k b t track c n v RpnHigh is a =
    changed_count laws port o table used k b t track (Control c n v) (subst BringsAll (sym is) tt) a
control_count laws port o table used k b t track c n v ResetControllers is a =
    changed_count laws port o table used k b t track (Control c n v) (subst BringsAll (sym is) tt) a

part_count : CountLaws → (port : ℕ) (o : Options) (table : Targets) (used : ℕ → Bool) (k : Moment) (b : Both) (t track : ℕ) (msg : Msg) →
    (let e : MidiEvent = said_at t track msg in IsAround port o table used k b e → is_part o (channel_of msg) ≡ true →
    length (part_causes port o table k b.source (step b.source e) b.out t msg) ≤ 392)
part_count laws port o table used k b t track (NoteOn c j zero) a part =
    omega (arith, released_count port o table k.old (λ d i. NoteOn d i 0) c (pressed_note c j b.source.notes))
part_count laws port o table used k b t track (NoteOn c j (suc v)) a part =
    begun_count laws port o table used k b t track c j v a part (bend_target_if o.range (table j t)) refl
part_count laws port o table used k b t track (NoteOff c j v) a part =
    omega (arith, released_count port o table k.old (λ d i. NoteOff d i v) c (pressed_note c j b.source.notes))
part_count laws port o table used k b t track (Control c n v) a part =
    control_count laws port o table used k b t track c n v (role n) refl a
part_count laws port o table used k b t track (KeyPressure c j v) a part = changed_count laws port o table used k b t track (KeyPressure c j v) tt a
part_count laws port o table used k b t track (Program c p) a part = changed_count laws port o table used k b t track (Program c p) tt a
part_count laws port o table used k b t track (Pressure c v) a part = changed_count laws port o table used k b t track (Pressure c v) tt a
part_count laws port o table used k b t track (Bend c v) a part = changed_count laws port o table used k b t track (Bend c v) tt a

-- ---- any event

pub record AreFew (ws : List MidiWhat) : Type 0 where
  pub messages : List Msg
  pub is : ws ≡ map Says messages
  pub few : length messages ≤ 392

-- a few messages, or the event itself
abbrev pub IsShort : MidiWhat → List MidiWhat → Type 0
IsShort w ws = AreFew ws ⊎ (ws ≡ w ∷ [])

pub event_count : CountLaws → (port : ℕ) (o : Options) (table : Targets) (used : ℕ → Bool) (k : Moment) (b : Both) (t track : ℕ) (w : MidiWhat) →
    (let e : MidiEvent = record { tick = t; track = track; what = w } in IsAround port o table used k b e →
    IsShort w (port_causes port o table k b.source (step b.source e) b.out t w))
event_count laws port o table used k b t track (Says msg) a =
    let ms : List Msg = part_causes port o table k b.source (step b.source (said_at t track msg)) b.out t msg in
    cond_both (is_part o (channel_of msg)) (map Says ms) (Says msg ∷ []) (IsShort (Says msg))
    (λ part. inl (record { messages = ms; is = refl; few = part_count laws port o table used k b t track msg a part })) (λ drum. inr refl)
event_count laws port o table used k b t track (SysexOf lead bytes) a = inr refl
event_count laws port o table used k b t track (MetaOf kind bytes) a = inr refl
