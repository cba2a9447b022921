-- The messages of each block are valid, and those of a part's go to the masters and members of zones.
use Rattle.std.proofs.Common.{◌≡◌, ◌<◌, ◌≤◌, ◌⊎◌, arith, ℕ, zero, suc, pos, ◌+ℤ◌, Bool, true, false, nat_eq, List, [], ◌∷◌, ◌++◌, Option, Some, None, refl, ap, sym, ◌∙◌, subst, map, inl, inr}
use Rattle.std.specs.List.{AllByRecursion}
use Rattle.std.specs.Set.{is_member}
use Rattle.std.proofs.lemmas.Bool.{cases_Bool, both_ways, cond_both}
use Rattle.std.proofs.lemmas.List.{append-nil}
use Rattle.mt_base.specs.declared.event.Msg.{Msg}
use Rattle.mt_base.specs.declared.event.Msg.TheVariants.{NoteOn, NoteOff, KeyPressure, Control, Program, Pressure, Bend}
use Rattle.mt_base.specs.Midi.{MidiWhat, Says, SysexOf, MetaOf, MidiEvent, channel_of}
use Rattle.mt_base.specs.Valid.{IsValidMsg, IsValidEvent}
use Rattle.midi_model.specs.Sysex.{Doing, Plays, Resets, Tunes, Nothing, doing}
use Rattle.midi_model.specs.Notes.{Note, sounds}
use Rattle.midi_model.specs.Music.{Music, channel_at, play}
use Rattle.retune_model.specs.Table.{BendTarget}
use Rattle.retune_model.specs.Options.{Options, is_drum_message}
use Rattle.retune_model.specs.PlaysTheSame.{drum_events}
use Rattle.retune_model.specs.Faults.{Targets, is_part, target_of}
use Rattle.retune_model.specs.Pairs.{Pair, is_same_pair}
use Rattle.retune_model.specs.Ports.{Numbered, unnumbered, Ascend}
use Rattle.channel_model.specs.Choice.{bend_value}
use Rattle.channel_model.specs.BendOutput.{PortRuns, pair_with, placed_at, pressed_note, note_released, off_at}
use Rattle.channel_model.specs.MpeOutput.{Zone, Zoned, unzoned, zone_of, master_of, zones_setup, on_channel, zone_causes, in_zone, setup_behind, mpe_block}
use Rattle.bend_laws.specs.Moments.{Moment, moment}
use Rattle.bend_laws.specs.Follows.{Has, IsAmong}
use Rattle.bend_laws.specs.Positions.{port_event, up_to_position}
use Rattle.bend_laws.proofs.Ticks.{AreTimely}
use Rattle.bend_laws.proofs.Lists.{all_weaker, all_append, all_mapped}
use Rattle.bend_laws.proofs.Playing.{saying, saying_append, saying_valid}
use Rattle.bend_laws.proofs.Keys.{aim_fits}
use Rattle.bend_laws.proofs.Changing.{said_at}
use Rattle.bend_laws.proofs.Lifting.{pressed_element, at_channel, sounds_down}
use Rattle.bend_laws.proofs.Wellness.{bend_fits}
use Rattle.bend_laws.proofs.Outputs.{none_yet, events_if}
use Rattle.bend_laws.proofs.Opening.{events_longer, all_up}
use Rattle.bend_laws.proofs.Passing.{kept, kept_append, kept_none}
use Rattle.bend_laws.proofs.Righting.{channel_in, no_drum}
use Rattle.mpe_laws.specs.Zoned.{IsMember, IsOfZone}
use Rattle.mpe_laws.specs.Follows.{Follows, IsGiven}
use Rattle.mpe_laws.specs.Positions.{zoned_at}
use Rattle.mpe_laws.specs.Sources.{IsOnZones}
use Rattle.mpe_laws.proofs.Standing.{Laws}
use Rattle.mpe_laws.proofs.Planning.{IsPlanned}
use Rattle.mpe_laws.proofs.Allowed.{Asked, its_part}
use Rattle.mpe_laws.proofs.Passing.{setup_of, passed_block}
use Rattle.mpe_laws.proofs.Everywhere.{what_at, given_at, follows_at, source_is}
use Rattle.mpe_laws.proofs.Ticked.{zoned_output}
use Rattle.mpe_laws.proofs.Opened.{zoned_if, zoned_to, all_zoned, Opened, opens, known_at, part_said, drum_said}
use Rattle.mpe_laws.proofs.Setups.{setup_holds}
use Rattle.mpe_laws.proofs.Struck.{bend_first}
use Rattle.mpe_laws.proofs.Strikes.{IsStruck, strikes_at}

-- a valid message on a master or a member, which is a part's
abbrev pub IsRight : Options → List Zone → Msg → Type 0
IsRight o zones msg = IsValidMsg msg × ((is_part o (channel_of msg) ≡ true) × IsOfZone zones (channel_of msg))

-- the channels of zones
pub of_member : (zones : List Zone) (p : Pair) (d : ℕ) → IsMember zones p d → IsOfZone zones d
of_member zones p d i = record {
  zone = i.zone;
  of = ap (λ c. zone_of c zones) (its_part p.part.channel zones i.zone i.of) ∙ i.of;
  is = inr i.is;
}

of_master : (zones : List Zone) (c : ℕ) (z : Zone) → zone_of c zones ≡ Some z → IsOfZone zones (master_of z)
of_master zones c z h = record { zone = z; of = ap (λ b. zone_of b zones) (its_part c zones z h) ∙ h; is = inl refl }

setup_right : (o : Options) (zones : List Zone) → Asked o zones → o.range ≤ 127 → AllByRecursion (IsRight o zones) (zones_setup o.range zones)
setup_right o zones asked range = setup_holds (IsRight o zones) o zones
    (λ c n v of low part small value other. ((omega (arith, low), small, value), (part, of))) asked range

-- ---- what a part's message causes

-- what is known where a block begins
record Known (port : ℕ) (o : Options) (table : Targets) (zones : List Zone) (k : Moment) (m y : Music) (e : MidiEvent) : Type 0 where
  follows : Follows port o table zones k.old k.was m y
  given : IsGiven port o table zones k m e

on_member : (o : Options) (zones : List Zone) → Asked o zones → (p : Pair) (d : ℕ) → IsMember zones p d →
    (is_part o d ≡ true) × IsOfZone zones d
on_member o zones asked p d i = (asked.row.retuned_member d (master_of i.zone) i.is, of_member zones p d i)

released_right : (port : ℕ) (o : Options) (table : Targets) (zones : List Zone) → Asked o zones → (k : Moment) (m y : Music) (e : MidiEvent) →
    Known port o table zones k m y e → (off : ℕ → ℕ → Msg) →
    ((d i : ℕ) → d < 16 → i < 128 → (is_part o d ≡ true) × IsOfZone zones d → IsRight o zones (off d i)) → (c j : ℕ) → is_part o c ≡ true →
    (x : Option Note) → pressed_note c j m.notes ≡ x → AllByRecursion (IsRight o zones) (note_released port o table k.old off c x)
released_right port o table zones asked k m y e h off right c j part None is = tt
released_right port o table zones asked k m y e h off right c j part (Some n) is = pick (target_of o table n) refl
  where
    pick : (x : Option BendTarget) → target_of o table n ≡ x → AllByRecursion (IsRight o zones) (off_at port k.old off c x)
    pick None aim = tt
    pick (Some t) aim =
        let held = pressed_element (λ a. is_part o a.channel ≡ true → sounds a ≡ true →
        IsAmong port k.holds a.channel (target_of o table a)) c j m.notes n h.given.held is in
        let here : n.channel ≡ c = at_channel c j n held.1 in
        let p : Pair = pair_with port c t in
        let there : Has k.holds p = subst (λ q. Has k.holds (pair_with port q t)) here
        (subst (IsAmong port k.holds n.channel) aim (held.0 (ap (is_part o) here ∙ part) (sounds_down n held.2))) in
        let i : IsMember zones p (k.old p) = h.given.member_was p (h.given.was_there p there) in (
          right (k.old p) t.key i.low (aim_fits o.range (table n.key n.onset) t aim) (on_member o zones asked p (k.old p) i),
          tt,
        )

bend_right : (o : Options) (zones : List Zone) → Asked o zones → (k : Moment) (y : Music) (p : Pair) (there : Bool) → IsMember zones p (k.new p) →
    AllByRecursion (IsRight o zones) (bend_first k y p there)
bend_right o zones asked k y p true i = tt
bend_right o zones asked k y p false i =
    let b : ℕ = bend_value (pos 8192 +ℤ p.steps) in
    cond_both (nat_eq (channel_at y (k.new p)).bend b) [] (Bend (k.new p) b ∷ []) (AllByRecursion (IsRight o zones)) (λ e. tt)
    (λ e. (((omega (arith, i.low), bend_fits (pos 8192 +ℤ p.steps)), on_member o zones asked p (k.new p) i), tt))

sent_valid : (g : ℕ) (msg : Msg) → g < 16 → IsValidMsg msg → IsValidMsg (on_channel g msg)
sent_valid g (NoteOn c k v) low h = (omega (arith, low), h.1, h.2)
sent_valid g (NoteOff c k v) low h = (omega (arith, low), h.1, h.2)
sent_valid g (KeyPressure c k v) low h = (omega (arith, low), h.1, h.2)
sent_valid g (Control c n v) low h = (omega (arith, low), h.1, h.2)
sent_valid g (Program c p) low h = (omega (arith, low), h.1)
sent_valid g (Pressure c v) low h = (omega (arith, low), h.1)
sent_valid g (Bend c v) low h = (omega (arith, low), h.1)

zone_right : (port : ℕ) (o : Options) (table : Targets) (zones : List Zone) → Asked o zones → (k : Moment) (m y : Music) (t track : ℕ) (msg : Msg) →
    Known port o table zones k m y (said_at t track msg) → is_part o (channel_of msg) ≡ true → (z : Zone) → zone_of (channel_of msg) zones ≡ Some z →
    AllByRecursion (IsRight o zones) (in_zone port o table k.was m y k.old k.new t msg (zone_of (channel_of msg) zones))
zone_right port o table zones asked k m y t track msg h part z of = by_kind msg h part of
  where
    Right : Msg → Type 0
    Right u = AllByRecursion (IsRight o zones) (in_zone port o table k.was m y k.old k.new t u (zone_of (channel_of u) zones))

    found : (u : Msg) → zone_of (channel_of u) zones ≡ Some z →
        AllByRecursion (IsRight o zones) (zone_causes port o table k.was m y k.old k.new (master_of z) t u) → Right u
    found u f r = subst (λ s. AllByRecursion (IsRight o zones) (in_zone port o table k.was m y k.old k.new t u s)) (sym f) r

    sent : (u : Msg) → zone_of (channel_of u) zones ≡ Some z → IsValidMsg u → channel_of (on_channel (master_of z) u) ≡ master_of z →
        AllByRecursion (IsRight o zones) (on_channel (master_of z) u ∷ [])
    sent u f v is = (
      (
        sent_valid (master_of z) u (asked.row.low_master (channel_of u) z f) v,
        (
          ap (is_part o) is ∙ asked.row.retuned_master (channel_of u) z f,
          subst (IsOfZone zones) (sym is) (of_master zones (channel_of u) z f),
        ),
      ),
      tt,
    )

    by_kind : (u : Msg) → Known port o table zones k m y (said_at t track u) → is_part o (channel_of u) ≡ true →
        zone_of (channel_of u) zones ≡ Some z → Right u
    by_kind (NoteOn c j zero) g p f = found (NoteOn c j zero) f
        (released_right port o table zones asked k m y (said_at t track (NoteOn c j zero)) g (λ d i. NoteOn d i zero)
        (λ d i low key q. ((omega (arith, low), omega (arith, key), omega arith), q)) c j p (pressed_note c j m.notes) refl)
    by_kind (NoteOn c j (suc v)) g p f =
        let s : IsStruck port o table zones k m y t c j v = strikes_at port o table zones asked.row k m y t track c j v p g.follows g.given in
        let q : Pair = pair_with port c s.aim in
        let bend : List Msg = bend_first k y q (is_member is_same_pair k.was q) in
        let last : List Msg = NoteOn (k.new q) s.aim.key (suc v) ∷ [] in
        let key : s.aim.key < 128 = aim_fits o.range (table j t) s.aim s.aims in
        subst (AllByRecursion (IsRight o zones)) (sym s.is) (all_append (IsRight o zones) bend last
        (bend_right o zones asked k y q (is_member is_same_pair k.was q) s.member)
        (((omega (arith, s.member.low), omega (arith, key), g.given.valid.what.2), on_member o zones asked q (k.new q) s.member), tt))
    by_kind (NoteOff c j v) g p f = found (NoteOff c j v) f
        (released_right port o table zones asked k m y (said_at t track (NoteOff c j v)) g (λ d i. NoteOff d i v)
        (λ d i low key q. ((omega (arith, low), omega (arith, key), g.given.valid.what.2), q)) c j p (pressed_note c j m.notes) refl)
    by_kind (KeyPressure c j v) g p f = found (KeyPressure c j v) f (sent (KeyPressure c j v) f g.given.valid.what refl)
    by_kind (Control c n v) g p f = found (Control c n v) f (sent (Control c n v) f g.given.valid.what refl)
    by_kind (Program c x) g p f = found (Program c x) f (sent (Program c x) f g.given.valid.what refl)
    by_kind (Pressure c v) g p f = found (Pressure c v) f (sent (Pressure c v) f g.given.valid.what refl)
    by_kind (Bend c v) g p f = found (Bend c v) f (sent (Bend c v) f g.given.valid.what refl)

part_right : (port : ℕ) (o : Options) (table : Targets) (zones : List Zone) → Asked o zones → (k : Moment) (m y : Music) (t track : ℕ) (msg : Msg) →
    Known port o table zones k m y (said_at t track msg) → is_part o (channel_of msg) ≡ true → (u : Option Zone) →
    zone_of (channel_of msg) zones ≡ u →
    AllByRecursion (IsRight o zones) (in_zone port o table k.was m y k.old k.new t msg (zone_of (channel_of msg) zones))
part_right port o table zones asked k m y t track msg h part None of =
    subst (λ s. AllByRecursion (IsRight o zones) (in_zone port o table k.was m y k.old k.new t msg s)) (sym of) tt
part_right port o table zones asked k m y t track msg h part (Some z) of = zone_right port o table zones asked k m y t track msg h part z of

-- ---- any block

-- an event that is no message of a part, with right messages around it
pub record IsPassed (o : Options) (zones : List Zone) (e : MidiEvent) (block : List MidiEvent) : Type 0 where
  pub lead : List Msg
  pub behind : List Msg
  pub is : block ≡ saying e lead ++ e ∷ saying e behind
  pub lead_right : AllByRecursion (IsRight o zones) lead
  pub behind_right : AllByRecursion (IsRight o zones) behind
  pub other : (msg : Msg) → e.what ≡ Says msg → is_part o (channel_of msg) ≡ false

-- right messages in place of a part's
pub record IsCaused (o : Options) (zones : List Zone) (e : MidiEvent) (block : List MidiEvent) : Type 0 where
  pub message : Msg
  pub messages : List Msg
  pub what : e.what ≡ Says message
  pub part : is_part o (channel_of message) ≡ true
  pub is : block ≡ saying e messages
  pub right : AllByRecursion (IsRight o zones) messages

abbrev pub Shaped : Options → List Zone → MidiEvent → List MidiEvent → Type 0
Shaped o zones e block = IsPassed o zones e block ⊎ IsCaused o zones e block

lead_right : (o : Options) (zones : List Zone) → Asked o zones → o.range ≤ 127 → (lead : List Msg) →
    ((lead ≡ []) ⊎ (lead ≡ zones_setup o.range zones)) → AllByRecursion (IsRight o zones) lead
lead_right o zones asked range lead (inl h) = subst (AllByRecursion (IsRight o zones)) (sym h) tt
lead_right o zones asked range lead (inr h) = subst (AllByRecursion (IsRight o zones)) (sym h) (setup_right o zones asked range)

-- the setup behind an event, as messages
record IsBehind (o : Options) (zones : List Zone) (d : Doing) : Type 0 where
  messages : List Msg
  is : setup_behind (setup_of o zones) true d ≡ map Says messages
  right : AllByRecursion (IsRight o zones) messages

is_behind : (o : Options) (zones : List Zone) → Asked o zones → o.range ≤ 127 → (d : Doing) → IsBehind o zones d
is_behind o zones asked range (Plays msg) = record { messages = []; is = refl; right = tt }
is_behind o zones asked range Resets = record { messages = zones_setup o.range zones; is = refl; right = setup_right o zones asked range }
is_behind o zones asked range (Tunes r) = record { messages = []; is = refl; right = tt }
is_behind o zones asked range Nothing = record { messages = []; is = refl; right = tt }

other_shaped : (port : ℕ) (o : Options) (table : Targets) (zones : List Zone) → Asked o zones → o.range ≤ 127 → (k : Moment) (m y : Music)
    (t track : ℕ) (w : MidiWhat) (lead : List Msg) → AllByRecursion (IsRight o zones) lead → ((msg : Msg) → w ≡ Says msg → ⊥) →
    (let e : MidiEvent = what_at t track w in
    mpe_block port o table zones k.was true m y k.old k.new e ≡ e ∷ placed_at e (setup_behind (setup_of o zones) true (doing w)) →
    Shaped o zones e (saying e lead ++ mpe_block port o table zones k.was true m y k.old k.new e))
other_shaped port o table zones asked range k m y t track w lead right none is =
    let e : MidiEvent = what_at t track w in
    let b : IsBehind o zones (doing w) = is_behind o zones asked range (doing w) in
    inl (record {
      lead = lead;
      behind = b.messages;
      is = ap (λ xs. saying e lead ++ xs) is ∙ ap (λ ws. saying e lead ++ e ∷ placed_at e ws) b.is;
      lead_right = right;
      behind_right = b.right;
      other = λ msg h. absurd (none msg h);
    })

led_shaped : (port : ℕ) (o : Options) (table : Targets) (zones : List Zone) → Asked o zones → o.range ≤ 127 → (k : Moment) (m y : Music)
    (t track : ℕ) (w : MidiWhat) (lead : List Msg) → AllByRecursion (IsRight o zones) lead →
    (let e : MidiEvent = what_at t track w in Known port o table zones k m y e →
    Shaped o zones e (saying e lead ++ mpe_block port o table zones k.was true m y k.old k.new e))
led_shaped port o table zones asked range k m y t track (Says msg) lead right h =
    let e : MidiEvent = said_at t track msg in
    let causes : List Msg = in_zone port o table k.was m y k.old k.new t msg (zone_of (channel_of msg) zones) in
    elim (cases_Bool (is_part o (channel_of msg))) [
      | inl part ↦ inr (record {
        message = msg;
        messages = lead ++ causes;
        what = refl;
        part = part;
        is = ap (λ xs. saying e lead ++ xs) (part_said port o table zones k m y t track msg causes part refl) ∙ sym (saying_append e lead causes);
        right = all_append (IsRight o zones) lead causes right
            (part_right port o table zones asked k m y t track msg h part (zone_of (channel_of msg) zones) refl);
      })
      | inr drum ↦ inl (record {
        lead = lead;
        behind = [];
        is = ap (λ xs. saying e lead ++ xs) (drum_said port o table zones k m y t track msg drum);
        lead_right = right;
        behind_right = tt;
        other = λ u g. ap (λ w. is_part o (channel_in u w)) (sym g) ∙ drum;
      })
    ]
led_shaped port o table zones asked range k m y t track (SysexOf lead_byte bytes) lead right h =
    other_shaped port o table zones asked range k m y t track (SysexOf lead_byte bytes) lead right (λ msg g. absurd cc)
    (passed_block port o table zones k m y t track (SysexOf lead_byte bytes) tt)
led_shaped port o table zones asked range k m y t track (MetaOf kind bytes) lead right h =
    other_shaped port o table zones asked range k m y t track (MetaOf kind bytes) lead right (λ msg g. absurd cc)
    (passed_block port o table zones k m y t track (MetaOf kind bytes) tt)

opened_shaped : (port : ℕ) (o : Options) (table : Targets) (zones : List Zone) → Asked o zones → o.range ≤ 127 → (k : Moment) (m x : Music)
    (t track : ℕ) (w : MidiWhat) (block : List MidiEvent) → IsGiven port o table zones k m (what_at t track w) →
    Opened port o table zones k m x (what_at t track w) block → Shaped o zones (what_at t track w) block
opened_shaped port o table zones asked range k m x t track w block given (inl h) = inl (record {
  lead = [];
  behind = [];
  is = h.is;
  lead_right = tt;
  behind_right = tt;
  other = λ msg g. absurd (h.none msg g);
})
opened_shaped port o table zones asked range k m x t track w block given (inr h) =
    let e : MidiEvent = what_at t track w in
    subst (Shaped o zones e) (sym h.is) (led_shaped port o table zones asked range k m (play x (saying e h.lead)) t track w h.lead
    (lead_right o zones asked range h.lead h.lead_is) (record { follows = h.follows; given = given }))

pub shaped_at : Laws → (o : Options) (table : Targets) (zones : List Zone) → Asked o zones → o.range ≤ 127 → (runs : PortRuns) (ns : List Numbered)
    (last : ℕ) → IsPlanned o table zones runs ns last → (k : ℕ) → k < last → (e : MidiEvent) → port_event ns (suc k) ≡ Some e →
    Shaped o zones e (zoned_if o table zones runs k (zoned_at o table zones runs ns k) (Some e))
shaped_at laws o table zones asked range runs ns last g k low e is =
    let s : Zoned = zoned_at o table zones runs ns k in
    opened_shaped runs.number o table zones asked range (moment runs k) s.source s.out e.tick e.track e.what
    (zoned_if o table zones runs k s (Some e))
    (given_at o table zones runs ns last g k low s.source (source_is o table zones runs ns k) e is)
    (opens laws runs.number o table zones asked.sets (moment runs k) s.begun s.source s.out e.tick e.track e.what
    (known_at o table zones runs k s (follows_at laws o table zones asked.row asked.sets runs ns last g k (omega (arith, low)))))

-- ---- what holds of each block holds of the output

abbrev pub OfBlocks : Options → List Zone → (MidiEvent → Type 0) → Type 0
OfBlocks o zones P = (e : MidiEvent) (block : List MidiEvent) → IsValidEvent e → Shaped o zones e block → AllByRecursion P block

holds_to : Laws → (P : MidiEvent → Type 0) (o : Options) (table : Targets) (zones : List Zone) → Asked o zones → o.range ≤ 127 → OfBlocks o zones P →
    (runs : PortRuns) (ns : List Numbered) (last : ℕ) → IsPlanned o table zones runs ns last → (k : ℕ) → k ≤ last →
    AllByRecursion P (zoned_to o table zones runs ns k)
holds_to laws P o table zones asked range f runs ns last g zero low = tt
holds_to laws P o table zones asked range f runs ns last g (suc k) low =
    all_append P (zoned_to o table zones runs ns k) (zoned_if o table zones runs k (zoned_at o table zones runs ns k) (port_event ns (suc k)))
    (holds_to laws P o table zones asked range f runs ns last g k (omega (arith, low))) (go (port_event ns (suc k)) refl)
  where
    go : (x : Option MidiEvent) → port_event ns (suc k) ≡ x →
        AllByRecursion P (zoned_if o table zones runs k (zoned_at o table zones runs ns k) x)
    go None is = tt
    go (Some e) is = f e (zoned_if o table zones runs k (zoned_at o table zones runs ns k) (Some e)) (g.valid k e low is)
        (shaped_at laws o table zones asked range runs ns last g k low e is)

pub output_holds : Laws → (P : MidiEvent → Type 0) (o : Options) (table : Targets) (zones : List Zone) → Asked o zones → o.range ≤ 127 →
    OfBlocks o zones P → (runs : PortRuns) (ns : List Numbered) (last : ℕ) → IsPlanned o table zones runs ns last → AreTimely ns last →
    AllByRecursion P (zoned_output o table zones runs unzoned ns)
output_holds laws P o table zones asked range f runs ns last g timely =
    subst (AllByRecursion P) (all_zoned o table zones runs ns last timely)
    (holds_to laws P o table zones asked range f runs ns last g last (omega arith))

said_valid : (o : Options) (zones : List Zone) (e : MidiEvent) (ms : List Msg) → IsValidEvent e → AllByRecursion (IsRight o zones) ms →
    AllByRecursion IsValidEvent (saying e ms)
said_valid o zones e ms v r = saying_valid e ms v.tick (all_weaker (IsRight o zones) IsValidMsg (λ m q. q.0) ms r)

pub blocks_valid : (o : Options) (zones : List Zone) → OfBlocks o zones IsValidEvent
blocks_valid o zones e block v (inl h) = subst (AllByRecursion IsValidEvent) (sym h.is)
    (all_append IsValidEvent (saying e h.lead) (e ∷ saying e h.behind) (said_valid o zones e h.lead v h.lead_right)
    (v, said_valid o zones e h.behind v h.behind_right))
blocks_valid o zones e block v (inr h) = subst (AllByRecursion IsValidEvent) (sym h.is) (said_valid o zones e h.messages v h.right)

said_zoned : (o : Options) (zones : List Zone) (e : MidiEvent) (ms : List Msg) → AllByRecursion (IsRight o zones) ms →
    AllByRecursion (IsOnZones (is_part o) zones) (saying e ms)
said_zoned o zones e [] r = tt
said_zoned o zones e (m ∷ ms) r = (
  (λ msg g part. subst (λ w. IsOfZone zones (channel_in m w)) g r.0.1.1),
  said_zoned o zones e ms r.1,
)

pub blocks_zoned : (o : Options) (zones : List Zone) → OfBlocks o zones (IsOnZones (is_part o) zones)
blocks_zoned o zones e block v (inl h) = subst (AllByRecursion (IsOnZones (is_part o) zones)) (sym h.is)
    (all_append (IsOnZones (is_part o) zones) (saying e h.lead) (e ∷ saying e h.behind) (said_zoned o zones e h.lead h.lead_right) (
      (λ msg g part. absurd (both_ways (is_part o (channel_of msg)) (h.other msg g) part)),
      said_zoned o zones e h.behind h.behind_right,
    ))
blocks_zoned o zones e block v (inr h) = subst (AllByRecursion (IsOnZones (is_part o) zones)) (sym h.is) (said_zoned o zones e h.messages h.right)

-- ---- kept drums

said_none : (o : Options) (zones : List Zone) → o.keep_drums ≡ true → (track : ℕ) (e : MidiEvent) (ms : List Msg) →
    AllByRecursion (IsRight o zones) ms → kept is_drum_message track (saying e ms) ≡ []
said_none o zones keep track e ms r = kept_none is_drum_message track e (map Says ms)
    (all_mapped (λ w. is_drum_message w ≡ false) Says (IsRight o zones) (λ m q. no_drum o (channel_of m) keep q.1.0) ms r)

shaped_drums : (o : Options) (zones : List Zone) → o.keep_drums ≡ true → (track : ℕ) (e : MidiEvent) (block : List MidiEvent) →
    Shaped o zones e block → kept is_drum_message track block ≡ kept is_drum_message track (e ∷ [])
shaped_drums o zones keep track e block (inl h) =
    ap (kept is_drum_message track) h.is ∙ kept_append is_drum_message track (saying e h.lead) (e ∷ saying e h.behind)
    ∙ ap (λ xs. xs ++ kept is_drum_message track (e ∷ saying e h.behind)) (said_none o zones keep track e h.lead h.lead_right)
    ∙ kept_append is_drum_message track (e ∷ []) (saying e h.behind)
    ∙ ap (λ xs. kept is_drum_message track (e ∷ []) ++ xs) (said_none o zones keep track e h.behind h.behind_right)
    ∙ append-nil (kept is_drum_message track (e ∷ []))
shaped_drums o zones keep track e block (inr h) =
    ap (kept is_drum_message track) h.is ∙ said_none o zones keep track e h.messages h.right
    ∙ sym (kept_none is_drum_message track e (e.what ∷ []) (ap is_drum_message h.what ∙ no_drum o (channel_of h.message) keep h.part, tt))

drums_to : Laws → (o : Options) (table : Targets) (zones : List Zone) → Asked o zones → o.range ≤ 127 → (runs : PortRuns) (ns : List Numbered)
    (last : ℕ) → IsPlanned o table zones runs ns last → Ascend 0 ns → o.keep_drums ≡ true → (track k : ℕ) → k ≤ last →
    kept is_drum_message track (zoned_to o table zones runs ns k) ≡ kept is_drum_message track (unnumbered (up_to_position k ns))
drums_to laws o table zones asked range runs ns last g rising keep track zero low =
    sym (ap (λ xs. kept is_drum_message track (unnumbered xs)) (none_yet 0 ns rising 0 (omega arith)))
drums_to laws o table zones asked range runs ns last g rising keep track (suc k) low =
    let block : Option MidiEvent → List MidiEvent = zoned_if o table zones runs k (zoned_at o table zones runs ns k) in
    kept_append is_drum_message track (zoned_to o table zones runs ns k) (block (port_event ns (suc k)))
    ∙ ap (λ xs. xs ++ kept is_drum_message track (block (port_event ns (suc k))))
    (drums_to laws o table zones asked range runs ns last g rising keep track k (omega (arith, low)))
    ∙ ap (λ ys. kept is_drum_message track (unnumbered (up_to_position k ns)) ++ ys) (go (port_event ns (suc k)) refl)
    ∙ sym (kept_append is_drum_message track (unnumbered (up_to_position k ns)) (events_if (port_event ns (suc k))))
    ∙ sym (ap (kept is_drum_message track) (events_longer ns rising k))
  where
    go : (x : Option MidiEvent) → port_event ns (suc k) ≡ x →
        kept is_drum_message track (zoned_if o table zones runs k (zoned_at o table zones runs ns k) x) ≡ kept is_drum_message track (events_if x)
    go None is = refl
    go (Some e) is = shaped_drums o zones keep track e (zoned_if o table zones runs k (zoned_at o table zones runs ns k) (Some e))
        (shaped_at laws o table zones asked range runs ns last g k low e is)

pub port_drums : Laws → (o : Options) (table : Targets) (zones : List Zone) → Asked o zones → o.range ≤ 127 → (runs : PortRuns) (ns : List Numbered)
    (last : ℕ) → IsPlanned o table zones runs ns last → AreTimely ns last → o.keep_drums ≡ true → (track : ℕ) →
    drum_events track (zoned_output o table zones runs unzoned ns) ≡ drum_events track (unnumbered ns)
port_drums laws o table zones asked range runs ns last g timely keep track =
    ap (kept is_drum_message track) (sym (all_zoned o table zones runs ns last timely))
    ∙ drums_to laws o table zones asked range runs ns last g timely.rising keep track last (omega arith)
    ∙ ap (λ xs. kept is_drum_message track (unnumbered xs)) (all_up last ns timely.within)
