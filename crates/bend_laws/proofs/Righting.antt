-- The messages of each block are valid, and those of a part's go to parts' channels.
use Rattle.std.proofs.Common.{◌≡◌, ◌<◌, ◌≤◌, ◌⊎◌, ℕ, zero, suc, Bool, true, false, ◌&&◌, not, nat_eq, map, List, [], ◌∷◌, ◌++◌, Option, Some, None, refl, ap, sym, ◌∙◌, subst, arith, inl, inr}
use Rattle.std.specs.List.{AllByRecursion}
use Rattle.std.specs.Set.{is_member}
use Rattle.std.proofs.lemmas.Bool.{cases_Bool, both_ways}
use Rattle.retune_model.specs.Pairs.{Pair, is_same_pair}
use Rattle.mt_base.specs.declared.event.Msg.{Msg}
use Rattle.mt_base.specs.declared.event.Msg.TheVariants.{NoteOn, NoteOff, KeyPressure, Control, Program, Pressure, Bend}
use Rattle.mt_base.specs.Midi.{MidiWhat, Says, SysexOf, MetaOf, MidiEvent, channel_of}
use Rattle.mt_base.specs.Valid.{IsValidMsg, IsValidEvent}
use Rattle.midi_model.specs.Channel.{State, role, Role, Stored, EntryHigh, EntryLow, NrpnLow, NrpnHigh, RpnLow, RpnHigh, AllSoundOff, ResetControllers, AllNotesOff, Ignored}
use Rattle.midi_model.specs.Notes.{Note, sounds}
use Rattle.midi_model.specs.Music.{Music, quiet, step, state_at}
use Rattle.midi_model.specs.Bring.{bring}
use Rattle.retune_model.specs.Table.{BendTarget}
use Rattle.retune_model.specs.Options.{Options, is_drum_message, has_drums}
use Rattle.retune_model.specs.PlaysTheSame.{bend_target_if, drum_events, KeepsDrums}
use Rattle.retune_model.specs.Faults.{Targets, is_part, target_of}
use Rattle.retune_model.specs.Ports.{Numbered, unnumbered, Ascend}
use Rattle.channel_model.specs.Choice.{wanted}
use Rattle.channel_model.specs.BendOutput.{Held, held_by, pair_with, pressed_note, note_released, off_at, bring_all, send_all, controller_causes, PortRuns}
use Rattle.bend_laws.specs.Moments.{Moment, Both, setup, strikes, part_causes, port_block, moment, port_output}
use Rattle.bend_laws.specs.Brought.{IsReached}
use Rattle.bend_laws.proofs.Brought.{BringReaches}
use Rattle.bend_laws.specs.Bent.{IsOnUsed}
use Rattle.bend_laws.specs.Follows.{Has, IsAmong, IsGiven, AreUsed, Follows}
use Rattle.bend_laws.specs.Positions.{port_event, both_at, up_to_position}
use Rattle.bend_laws.proofs.Planning.{block_if, blocks_to, IsPlanned}
use Rattle.bend_laws.proofs.Ticks.{AreTimely}
use Rattle.bend_laws.proofs.Lists.{all_weaker, all_append, all_mapped, all_both}
use Rattle.bend_laws.proofs.Holding.{held_all}
use Rattle.bend_laws.proofs.Playing.{saying, saying_valid}
use Rattle.bend_laws.proofs.Keys.{aim_fits}
use Rattle.bend_laws.proofs.Given.{Laws}
use Rattle.bend_laws.proofs.Changing.{said_at, part_block}
use Rattle.bend_laws.proofs.Elsewhere.{drum_block}
use Rattle.bend_laws.proofs.Lifting.{pressed_element, at_channel, sounds_down}
use Rattle.bend_laws.proofs.Simulates.{source_is, sound_at, follows_at}
use Rattle.bend_laws.proofs.Spelled.{bring_holds}
use Rattle.bend_laws.proofs.Shown.{begun_there}
use Rattle.bend_laws.proofs.Outputs.{none_yet, events_if}
use Rattle.bend_laws.proofs.Opening.{events_longer, all_up, all_blocks}
use Rattle.bend_laws.proofs.Passing.{kept, kept_append, kept_none}

-- a valid message on a used channel, which is a part's
abbrev pub IsRight : Options → (ℕ → Bool) → Msg → Type 0
IsRight o used msg = IsValidMsg msg × ((is_part o (channel_of msg) ≡ true) × (used (channel_of msg) ≡ true))

-- what is held is on a used channel
record IsUsedOne (o : Options) (used : ℕ → Bool) (h : Held) : Type 0 where
  channel : h.channel < 16
  part : is_part o h.channel ≡ true
  used_one : used h.channel ≡ true

bring_right : (Good : State → Type 0) → BringReaches Good → (o : Options) (used : ℕ → Bool) (out : Music) (c : ℕ) (w : State) → IsReached out →
    c < 16 → is_part o c ≡ true → used c ≡ true → Good w →
    AllByRecursion (IsRight o used) (bring c (state_at out c) w)
bring_right Good law o used out c w reached low part u good =
    let P : Msg → Type 0 = λ m. (is_part o (channel_of m) ≡ true) × (used (channel_of m) ≡ true) in
    all_both IsValidMsg P (bring c (state_at out c) w) (law.valid out c w reached low good)
    (bring_holds c P (record {
      control = λ n v. (part, u);
      program = λ p. (part, u);
      pressure = λ v. (part, u);
      bend = λ v. (part, u);
      key =
          λ k v. (part, u);
    }) (state_at out c) w)

all_right : (Good : State → Type 0) → BringReaches Good → (o : Options) (table : Targets) (used : ℕ → Bool) (after out : Music) → IsReached out →
    ((p : Pair) → Good (wanted o table after p)) → (hs : List Held) → AllByRecursion (IsUsedOne o used) hs →
    AllByRecursion (IsRight o used) (bring_all o table after out hs)
all_right Good law o table used after out reached good [] can = tt
all_right Good law o table used after out reached good (h ∷ hs) can =
    all_append (IsRight o used) (bring h.channel (state_at out h.channel) (wanted o table after h.pair)) (bring_all o table after out hs)
    (bring_right Good law o used out h.channel (wanted o table after h.pair) reached can.0.channel can.0.part can.0.used_one (good h.pair))
    (all_right Good law o table used after out reached good hs can.1)

sent_right : (o : Options) (used : ℕ → Bool) (n v : ℕ) → n ≤ 127 → v ≤ 127 → (hs : List Held) → AllByRecursion (IsUsedOne o used) hs →
    AllByRecursion (IsRight o used) (send_all n v hs)
sent_right o used n v low small [] can = tt
sent_right o used n v low small (h ∷ hs) can = (
  ((omega (arith, can.0.channel), low, small), (can.0.part, can.0.used_one)),
  sent_right o used n v low small hs can.1,
)

-- ---- a part's block

-- what is known where a block begins
record Known (Good : State → Type 0) (port : ℕ) (o : Options) (table : Targets) (used : ℕ → Bool) (k : Moment) (b : Both)
    (e : MidiEvent) : Type 0 where
  follows : Follows Good port o table used k.old k.was b
  sound : IsGiven Good port o table used k b.source e

can_bring : (Good : State → Type 0) (port : ℕ) (o : Options) (table : Targets) (used : ℕ → Bool) → AreUsed o used → (k : Moment) (b : Both)
    (e : MidiEvent) → Known Good port o table used k b e → (c : ℕ) → AllByRecursion (IsUsedOne o used) (held_by k.old c k.holds)
can_bring Good port o table used row k b e h c = held_all (IsUsedOne o used) k.old c k.holds (λ p i g. let u : used (k.old p) ≡ true =
    h.sound.used_was p (h.sound.was_there p i) in record { channel = row.channel (k.old p) u; part = row.retuned (k.old p) u; used_one = u })

held_right : (Good : State → Type 0) → Laws Good → (port : ℕ) (o : Options) (table : Targets) (used : ℕ → Bool) → AreUsed o used → (k : Moment)
    (b : Both) (e : MidiEvent) → Known Good port o table used k b e → (c : ℕ) →
    AllByRecursion (IsRight o used) (bring_all o table (step b.source e) b.out (held_by k.old c k.holds))
held_right Good laws port o table used row k b e h c =
    all_right Good laws.bringing o table used (step b.source e) b.out h.follows.out_reached h.sound.good (held_by k.old c k.holds)
    (can_bring Good port o table used row k b e h c)

controller_right : (Good : State → Type 0) → Laws Good → (port : ℕ) (o : Options) (table : Targets) (used : ℕ → Bool) → AreUsed o used →
    (k : Moment) (b : Both) (e : MidiEvent) → Known Good port o table used k b e → (c n v : ℕ) → n ≤ 127 → v ≤ 127 → (x : Role) →
    AllByRecursion (IsRight o used) (controller_causes o table (step b.source e) b.out (held_by k.old c k.holds) n v x)
controller_right Good laws port o table used row k b e h c n v low small AllSoundOff = sent_right o used n v low small (held_by k.old c k.holds)
    (can_bring Good port o table used row k b e h c)
controller_right Good laws port o table used row k b e h c n v low small AllNotesOff = sent_right o used n v low small (held_by k.old c k.holds)
    (can_bring Good port o table used row k b e h c)
controller_right Good laws port o table used row k b e h c n v low small Ignored = tt
controller_right Good laws port o table used row k b e h c n v low small Stored = held_right Good laws port o table used row k b e h c
controller_right Good laws port o table used row k b e h c n v low small EntryHigh = held_right Good laws port o table used row k b e h c
controller_right Good laws port o table used row k b e h c n v low small EntryLow = held_right Good laws port o table used row k b e h c
controller_right Good laws port o table used row k b e h c n v low small NrpnLow = held_right Good laws port o table used row k b e h c
controller_right Good laws port o table used row k b e h c n v low small NrpnHigh = held_right Good laws port o table used row k b e h c
controller_right Good laws port o table used row k b e h c n v low small RpnLow = held_right Good laws port o table used row k b e h c
controller_right Good laws port o table used row k b e h c n v low small RpnHigh = held_right Good laws port o table used row k b e h c
controller_right Good laws port o table used row k b e h c n v low small ResetControllers = held_right Good laws port o table used row k b e h c

setup_right : (Good : State → Type 0) → Laws Good → (port : ℕ) (o : Options) (table : Targets) (used : ℕ → Bool) → AreUsed o used → (k : Moment)
    (b : Both) (e : MidiEvent) → Known Good port o table used k b e → (p : Pair) → used (k.new p) ≡ true → (x : Bool) →
    AllByRecursion (IsRight o used) (setup o table k (step b.source e) b.out p x)
setup_right Good laws port o table used row k b e h p u true = tt
setup_right Good laws port o table used row k b e h p u false = bring_right Good laws.bringing o used b.out (k.new p)
    (wanted o table (step b.source e) p) h.follows.out_reached (row.channel (k.new p) u) (row.retuned (k.new p) u) u (h.sound.good p)

strikes_right : (Good : State → Type 0) → Laws Good → (port : ℕ) (o : Options) (table : Targets) (used : ℕ → Bool) → AreUsed o used → (k : Moment)
    (b : Both) (e : MidiEvent) → Known Good port o table used k b e → (c v : ℕ) → v ≤ 127 → (x : Option BendTarget) →
    ((t : BendTarget) → x ≡ Some t → (t.key < 128) × (used (k.new (pair_with port c t)) ≡ true)) → AllByRecursion (IsRight o used)
    (strikes port o table k (step b.source e) b.out c v x)
strikes_right Good laws port o table used row k b e h c v small None there = tt
strikes_right Good laws port o table used row k b e h c v small (Some t) there =
    let p : Pair = pair_with port c t in
    let u : used (k.new p) ≡ true = (there t refl).1 in
    all_append (IsRight o used) (setup o table k (step b.source e) b.out p (is_member is_same_pair k.was p)) (NoteOn (k.new p) t.key v ∷ [])
    (setup_right Good laws port o table used row k b e h p u (is_member is_same_pair k.was p))
    (((omega (arith, row.channel (k.new p) u), omega (arith, (there t refl).0), small), (row.retuned (k.new p) u, u)), tt)

-- a note off, of either kind
released_right : (Good : State → Type 0) (port : ℕ) (o : Options) (table : Targets) (used : ℕ → Bool) → AreUsed o used → (k : Moment) (b : Both)
    (e : MidiEvent) → Known Good port o table used k b e → (off : ℕ → ℕ → Msg) →
    ((d i : ℕ) → d < 16 → i < 128 → (is_part o d ≡ true) × (used d ≡ true) → IsRight o used (off d i)) → (c j : ℕ) → is_part o c ≡ true →
    (x : Option Note) → pressed_note c j b.source.notes ≡ x → AllByRecursion (IsRight o used) (note_released port o table k.old off c x)
released_right Good port o table used row k b e h off right c j part None is = tt
released_right Good port o table used row k b e h off right c j part (Some n) is = pick (target_of o table n) refl
  where
    among : Note → Type 0
    among a = is_part o a.channel ≡ true → sounds a ≡ true → IsAmong port k.holds a.channel (target_of o table a)

    pick : (x : Option BendTarget) → target_of o table n ≡ x → AllByRecursion (IsRight o used) (off_at port k.old off c x)
    pick None aim = tt
    pick (Some t) aim =
        let held = pressed_element (λ a. is_part o a.channel ≡ true → sounds a ≡ true →
        IsAmong port k.holds a.channel (target_of o table a)) c j b.source.notes n h.sound.held is in
        let here : n.channel ≡ c = at_channel c j n held.1 in
        let there : Has k.holds (pair_with port c t) = subst (λ q. Has k.holds (pair_with port q t)) here
        (subst (IsAmong port k.holds n.channel) aim (held.0 (ap (is_part o) here ∙ part) (sounds_down n held.2))) in
        let u : used (k.old (pair_with port c t)) ≡ true = h.sound.used_was (pair_with port c t) (h.sound.was_there (pair_with port c t) there) in (
          right (k.old (pair_with port c t)) t.key (row.channel (k.old (pair_with port c t)) u) (aim_fits o.range (table n.key n.onset) t aim)
              (row.retuned (k.old (pair_with port c t)) u, u),
          tt,
        )

part_right : (Good : State → Type 0) → Laws Good → (port : ℕ) (o : Options) (table : Targets) (used : ℕ → Bool) → AreUsed o used → (k : Moment)
    (b : Both) (t track : ℕ) (msg : Msg) → Known Good port o table used k b (said_at t track msg) → is_part o (channel_of msg) ≡ true →
    AllByRecursion (IsRight o used) (part_causes port o table k b.source (step b.source (said_at t track msg)) b.out t msg)
part_right Good laws port o table used row k b t track (NoteOn c j zero) h part =
    released_right Good port o table used row k b (said_at t track (NoteOn c j zero)) h (λ d i. NoteOn d i zero)
    (λ d i low key p. ((omega (arith, low), omega (arith, key), omega arith), p)) c j part (pressed_note c j b.source.notes) refl
part_right Good laws port o table used row k b t track (NoteOn c j (suc v)) h part =
    strikes_right Good laws port o table used row k b (said_at t track (NoteOn c j (suc v))) h c (suc v) h.sound.valid.what.2
    (bend_target_if o.range (table j t))
    (λ x aim. (
      aim_fits o.range (table j t) x aim,
      h.sound.used_is (pair_with port c x)
          (begun_there Good port o table used k.old k.was k b t track c j v h.follows h.sound part x aim),
    ))
part_right Good laws port o table used row k b t track (NoteOff c j v) h part =
    released_right Good port o table used row k b (said_at t track (NoteOff c j v)) h (λ d i. NoteOff d i v)
    (λ d i low key p. ((omega (arith, low), omega (arith, key), h.sound.valid.what.2), p)) c j part (pressed_note c j b.source.notes) refl
part_right Good laws port o table used row k b t track (Control c n v) h part =
    controller_right Good laws port o table used row k b (said_at t track (Control c n v)) h c n v h.sound.valid.what.1 h.sound.valid.what.2
    (role n)
part_right Good laws port o table used row k b t track (KeyPressure c j v) h part =
    held_right Good laws port o table used row k b (said_at t track (KeyPressure c j v)) h c
part_right Good laws port o table used row k b t track (Program c p) h part =
    held_right Good laws port o table used row k b (said_at t track (Program c p)) h c
part_right Good laws port o table used row k b t track (Pressure c v) h part =
    held_right Good laws port o table used row k b (said_at t track (Pressure c v)) h c
part_right Good laws port o table used row k b t track (Bend c v) h part =
    held_right Good laws port o table used row k b (said_at t track (Bend c v)) h c

-- ---- any block

-- valid messages on parts' channels, in place of a message on such a channel
pub record IsCaused (o : Options) (used : ℕ → Bool) (e : MidiEvent) (block : List MidiEvent) : Type 0 where
  pub message : Msg
  pub messages : List Msg
  pub what : e.what ≡ Says message
  pub part : is_part o (channel_of message) ≡ true
  pub is : block ≡ saying e messages
  pub right : AllByRecursion (IsRight o used) messages

-- the channel of a message, or of another where there is none
abbrev pub channel_in : Msg → MidiWhat → ℕ
channel_in m (Says msg) = channel_of msg
channel_in m _ = channel_of m

-- an event that is no message of a part
pub record IsOther (o : Options) (e : MidiEvent) (block : List MidiEvent) : Type 0 where
  pub is : block ≡ e ∷ []
  pub other : (msg : Msg) → e.what ≡ Says msg → is_part o (channel_of msg) ≡ false

-- a block is its event alone, or what a part's message causes
abbrev pub Shaped : Options → (ℕ → Bool) → MidiEvent → List MidiEvent → Type 0
Shaped o used e block = IsOther o e block ⊎ IsCaused o used e block

block_shaped : (Good : State → Type 0) → Laws Good → (port : ℕ) (o : Options) (table : Targets) (used : ℕ → Bool) → AreUsed o used → (k : Moment)
    (b : Both) (t track : ℕ) (w : MidiWhat) →
    (let e : MidiEvent = record { tick = t; track = track; what = w } in Known Good port o table used k b e →
    Shaped o used e (port_block port o table k b.source b.out e))
block_shaped Good laws port o table used row k b t track (Says msg) h = elim (cases_Bool (is_part o (channel_of msg))) [
  | inl part ↦ inr (record {
    message = msg;
    messages = part_causes port o table k b.source (step b.source (said_at t track msg)) b.out t msg;
    what = refl;
    part = part;
    is = part_block port o table k b.source b.out t track msg (part_causes port o table k b.source
        (step b.source (said_at t track msg)) b.out t msg) part refl;
    right = part_right Good laws port o table used row k b t track msg h part;
  })
  | inr drum ↦ inl (record {
    is = drum_block port o table k b.source b.out t track msg drum;
    other = λ m h. ap (λ w. is_part o (channel_in msg w))
        (sym h) ∙ drum;
  })
]
block_shaped Good laws port o table used row k b t track (SysexOf lead bytes) h = inl (record { is = refl; other = λ m g. absurd cc })
block_shaped Good laws port o table used row k b t track (MetaOf kind bytes) h = inl (record { is = refl; other = λ m g. absurd cc })

pub shaped_at : (Good : State → Type 0) → Laws Good → (o : Options) (table : Targets) (used : ℕ → Bool) → AreUsed o used → (plan : PortRuns)
    (ns : List Numbered) (last : ℕ) → IsPlanned Good o table used plan ns last → (k : ℕ) → k < last → (e : MidiEvent) →
    port_event ns (suc k) ≡ Some e →
    Shaped o used e (port_block plan.number o table (moment plan k) (both_at o table plan ns k).source (both_at o table plan ns k).out e)
shaped_at Good laws o table used row plan ns last given k low e is = block_shaped Good laws plan.number o table used row (moment plan k)
    (both_at o table plan ns k) e.tick e.track e.what (record {
      follows = follows_at Good laws o table used row plan ns last given k (omega (arith, low));
      sound = subst (λ m. IsGiven Good plan.number o table used (moment plan k) m e) (sym (source_is o table plan ns k))
          (sound_at Good o table used plan ns last given k low e is);
    })

-- ---- all is valid

shaped_valid : (o : Options) (used : ℕ → Bool) (e : MidiEvent) (block : List MidiEvent) → IsValidEvent e → Shaped o used e block →
    AllByRecursion IsValidEvent block
shaped_valid o used e block v (inl h) = subst (AllByRecursion IsValidEvent) (sym h.is) (v, tt)
shaped_valid o used e block v (inr h) = subst (AllByRecursion IsValidEvent) (sym h.is)
    (saying_valid e h.messages v.tick (all_weaker (IsRight o used) IsValidMsg (λ m r. r.0) h.messages h.right))

valid_to : (Good : State → Type 0) → Laws Good → (o : Options) (table : Targets) (used : ℕ → Bool) → AreUsed o used → (plan : PortRuns)
    (ns : List Numbered) (last : ℕ) → IsPlanned Good o table used plan ns last → (k : ℕ) → k ≤ last →
    AllByRecursion IsValidEvent (blocks_to o table plan ns k)
valid_to Good laws o table used row plan ns last given zero low = tt
valid_to Good laws o table used row plan ns last given (suc k) low =
    all_append IsValidEvent (blocks_to o table plan ns k) (block_if plan.number o table (moment plan k) (both_at o table plan ns k)
    (port_event ns (suc k))) (valid_to Good laws o table used row plan ns last given k (omega (arith, low))) (go (port_event ns (suc k)) refl)
  where
    go : (x : Option MidiEvent) → port_event ns (suc k) ≡ x → AllByRecursion IsValidEvent (block_if plan.number o table (moment plan k)
        (both_at o table plan ns k) x)
    go None is = tt
    go (Some e) is = shaped_valid o used e (port_block plan.number o table (moment plan k)
        (both_at o table plan ns k).source (both_at o table plan ns k).out e) (given.valid k e low is)
        (shaped_at Good laws o table used row plan ns last given k low e is)

pub output_valid : (Good : State → Type 0) → Laws Good → (o : Options) (table : Targets) (used : ℕ → Bool) → AreUsed o used → (plan : PortRuns)
    (ns : List Numbered) (last : ℕ) → IsPlanned Good o table used plan ns last → AreTimely ns last →
    AllByRecursion IsValidEvent (port_output o table plan quiet quiet ns)
output_valid Good laws o table used row plan ns last given timely =
    subst (AllByRecursion IsValidEvent) (all_blocks o table plan ns last timely)
    (valid_to Good laws o table used row plan ns last given last (omega arith))

-- ---- the channels that are spoken to

shaped_used : (o : Options) (used : ℕ → Bool) (e : MidiEvent) (block : List MidiEvent) → Shaped o used e block →
    AllByRecursion (IsOnUsed o used) block
shaped_used o used e block (inl h) = subst (AllByRecursion (IsOnUsed o used)) (sym h.is)
    ((λ msg g part. absurd (both_ways (is_part o (channel_of msg)) (h.other msg g) part)), tt)
shaped_used o used e block (inr h) = subst (AllByRecursion (IsOnUsed o used)) (sym h.is) (all_said h.messages h.right)
  where
    all_said : (ms : List Msg) → AllByRecursion (IsRight o used) ms → AllByRecursion (IsOnUsed o used) (saying e ms)
    all_said [] r = tt
    all_said (m ∷ ms) r = ((λ msg g part. ap (λ w. used (channel_in m w)) (sym g) ∙ r.0.1.1), all_said ms r.1)

used_to : (Good : State → Type 0) → Laws Good → (o : Options) (table : Targets) (used : ℕ → Bool) → AreUsed o used → (plan : PortRuns)
    (ns : List Numbered) (last : ℕ) → IsPlanned Good o table used plan ns last → (k : ℕ) → k ≤ last →
    AllByRecursion (IsOnUsed o used) (blocks_to o table plan ns k)
used_to Good laws o table used row plan ns last given zero low = tt
used_to Good laws o table used row plan ns last given (suc k) low =
    all_append (IsOnUsed o used) (blocks_to o table plan ns k) (block_if plan.number o table (moment plan k) (both_at o table plan ns k)
    (port_event ns (suc k)))
    (used_to Good laws o table used row plan ns last given k (omega (arith, low))) (go (port_event ns (suc k)) refl)
  where
    go : (x : Option MidiEvent) → port_event ns (suc k) ≡ x → AllByRecursion (IsOnUsed o used)
        (block_if plan.number o table (moment plan k) (both_at o table plan ns k) x)
    go None is = tt
    go (Some e) is = shaped_used o used e (port_block plan.number o table (moment plan k)
        (both_at o table plan ns k).source (both_at o table plan ns k).out e) (shaped_at Good laws o table used row plan ns last given k low e is)

pub output_used : (Good : State → Type 0) → Laws Good → (o : Options) (table : Targets) (used : ℕ → Bool) → AreUsed o used → (plan : PortRuns)
    (ns : List Numbered) (last : ℕ) → IsPlanned Good o table used plan ns last → AreTimely ns last →
    AllByRecursion (IsOnUsed o used) (port_output o table plan quiet quiet ns)
output_used Good laws o table used row plan ns last given timely =
    subst (AllByRecursion (IsOnUsed o used)) (all_blocks o table plan ns last timely)
    (used_to Good laws o table used row plan ns last given last (omega arith))

-- ---- kept drums

pub no_drum : (o : Options) (c : ℕ) → o.keep_drums ≡ true → is_part o c ≡ true → nat_eq c 9 ≡ false
no_drum o c keep part = other (nat_eq c 9) (ap (λ b. not (b && nat_eq c 9)) (sym keep) ∙ part)
  where
    other : (b : Bool) → not b ≡ true → b ≡ false
    other true h = absurd cc
    other false h = refl

shaped_drums : (o : Options) (used : ℕ → Bool) → o.keep_drums ≡ true → (track : ℕ) (e : MidiEvent) (block : List MidiEvent) →
    Shaped o used e block → kept is_drum_message track block ≡ kept is_drum_message track (e ∷ [])
shaped_drums o used keep track e block (inl h) = ap (kept is_drum_message track) h.is
shaped_drums o used keep track e block (inr h) =
    ap (kept is_drum_message track) h.is
    ∙ kept_none is_drum_message track e (map Says h.messages) (all_mapped (λ w. is_drum_message w ≡ false) Says (IsRight o used)
    (λ m r. no_drum o (channel_of m) keep r.1.0) h.messages h.right)
    ∙ sym (kept_none is_drum_message track e (e.what ∷ []) (ap is_drum_message h.what ∙ no_drum o (channel_of h.message) keep h.part, tt))

drums_to : (Good : State → Type 0) → Laws Good → (o : Options) (table : Targets) (used : ℕ → Bool) → AreUsed o used → (plan : PortRuns)
    (ns : List Numbered) (last : ℕ) → IsPlanned Good o table used plan ns last → Ascend 0 ns → o.keep_drums ≡ true → (track k : ℕ) → k ≤ last →
    kept is_drum_message track (blocks_to o table plan ns k) ≡ kept is_drum_message track (unnumbered (up_to_position k ns))
drums_to Good laws o table used row plan ns last given rising keep track zero low = sym (ap (λ xs. kept is_drum_message track (unnumbered xs))
    (none_yet 0 ns rising 0 (omega arith)))
drums_to Good laws o table used row plan ns last given rising keep track (suc k) low =
    kept_append is_drum_message track (blocks_to o table plan ns k) (block_if plan.number o table (moment plan k) (both_at o table plan ns k)
    (port_event ns (suc k)))
    ∙ ap (λ xs. xs ++ kept is_drum_message track (block_if plan.number o table (moment plan k) (both_at o table plan ns k)
    (port_event ns (suc k)))) (drums_to Good laws o table used row plan ns last given rising keep track k (omega (arith, low)))
    ∙ ap (λ ys. kept is_drum_message track (unnumbered (up_to_position k ns)) ++ ys) (go (port_event ns (suc k)) refl)
    ∙ sym (kept_append is_drum_message track (unnumbered (up_to_position k ns)) (events_if (port_event ns (suc k))))
    ∙ sym (ap (kept is_drum_message track) (events_longer ns rising k))
  where
    go : (x : Option MidiEvent) → port_event ns (suc k) ≡ x → kept is_drum_message track (block_if plan.number o table (moment plan k)
        (both_at o table plan ns k) x) ≡ kept is_drum_message track (events_if x)
    go None is = refl
    go (Some e) is = shaped_drums o used keep track e (port_block plan.number o table (moment plan k)
        (both_at o table plan ns k).source (both_at o table plan ns k).out e) (shaped_at Good laws o table used row plan ns last given k low e is)

-- whether or not this port has any
pub port_drums : (Good : State → Type 0) → Laws Good → (o : Options) (table : Targets) (used : ℕ → Bool) → AreUsed o used → (plan : PortRuns)
    (ns : List Numbered) (last : ℕ) → IsPlanned Good o table used plan ns last → AreTimely ns last → o.keep_drums ≡ true → (track : ℕ) →
    drum_events track (port_output o table plan quiet quiet ns) ≡ drum_events track (unnumbered ns)
port_drums Good laws o table used row plan ns last given timely keep track =
    ap (kept is_drum_message track) (sym (all_blocks o table plan ns last timely))
    ∙ drums_to Good laws o table used row plan ns last given timely.rising keep track last (omega arith)
    ∙ ap (λ xs. kept is_drum_message track (unnumbered xs)) (all_up last ns timely.within)

pub keeps_all_drums : (Good : State → Type 0) → Laws Good → (o : Options) (table : Targets) (used : ℕ → Bool) → AreUsed o used → (plan : PortRuns)
    (ns : List Numbered) (last : ℕ) → IsPlanned Good o table used plan ns last → AreTimely ns last →
    KeepsDrums o (unnumbered ns) (port_output o table plan quiet quiet ns)
keeps_all_drums Good laws o table used row plan ns last given timely keeps track =
    port_drums Good laws o table used row plan ns last given timely (first o.keep_drums (has_drums (unnumbered ns)) keeps) track
  where
    first : (a b : Bool) → (a && b) ≡ true → a ≡ true
    first true b h = refl
    first false b h = absurd cc
