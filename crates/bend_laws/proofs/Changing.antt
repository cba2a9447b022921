-- Messages that change a part's channel or press its keys: all channels that the part holds are brought to what their pairs need.
use Rattle.std.proofs.Common.{◌≡◌, ◌≢◌, ℕ, pos, ◌+ℤ◌, Bool, true, cond, List, [], ◌∷◌, refl, ap, sym, ◌∙◌, subst, map, inl, inr}
use Rattle.std.specs.List.{AllByRecursion}
use Rattle.std.specs.Set.{is_member}
use Rattle.std.proofs.lemmas.Bool.{cases_eq, both_ways}
use Rattle.retune_model.specs.Pairs.{Pair, is_same_pair}
use Rattle.mt_base.specs.declared.event.Msg.{Msg}
use Rattle.mt_base.specs.declared.event.Msg.TheVariants.{NoteOn, NoteOff, KeyPressure, Control, Program, Pressure, Bend}
use Rattle.mt_base.specs.Midi.{Says, MidiEvent, channel_of}
use Rattle.midi_model.specs.Sysex.{Plays}
use Rattle.midi_model.specs.Params.{rpn, put}
use Rattle.midi_model.specs.Channel.{Channel, role, Role, Stored, EntryHigh, EntryLow, NrpnLow, NrpnHigh, RpnLow, RpnHigh, AllSoundOff, ResetControllers, AllNotesOff, Ignored, State}
use Rattle.midi_model.specs.Music.{Music, channel_at, step, play, state_at}
use Rattle.midi_model.specs.MusicLaws.{begun_by}
use Rattle.retune_model.specs.Options.{Options}
use Rattle.retune_model.specs.Source.{bend_in_steps}
use Rattle.retune_model.specs.Faults.{Targets, is_part}
use Rattle.retune_model.specs.PlaysTheSame.{Pairwise}
use Rattle.channel_model.specs.Choice.{wanted, bend_value}
use Rattle.channel_model.specs.BendOutput.{Held, held_by, bring_all, controller_causes, placed_at}
use Rattle.bend_laws.specs.Moments.{Moment, Both, part_causes, port_block, next_both}
use Rattle.bend_laws.specs.Brought.{IsSameAside}
use Rattle.bend_laws.specs.Follows.{Has, IsMatched, AreApart, Begins, IsGiven, AreUsed, Follows}
use Rattle.bend_laws.proofs.Lists.{all_always}
use Rattle.bend_laws.proofs.Holding.{held_pair, OnOwnChannels, all_at, held_in, held_all, held_own}
use Rattle.bend_laws.proofs.Turned.{IsTurnedBy}
use Rattle.bend_laws.proofs.Turning.{Brings, IsBringing, message_turns}
use Rattle.bend_laws.proofs.Playing.{saying}
use Rattle.bend_laws.proofs.Bringing.{CanBring, AreBrought, all_brought}
use Rattle.bend_laws.proofs.Keys.{apart_after}
use Rattle.bend_laws.proofs.Matching.{Around, notes_turned}
use Rattle.bend_laws.proofs.Stepping.{Stepped, follows_next, Quiet, quiet_moment, moved_notes}
use Rattle.bend_laws.proofs.Given.{Laws, IsFine, fine, valid_channel, wide_part, keys_fit}

abbrev pub said_at : ℕ → ℕ → Msg → MidiEvent
said_at t track msg = record { tick = t; track = track; what = Says msg }

-- messages that cause a bring: all that change the part's channel but notes and 120, 123, 124, 127, and not those that are ignored
abbrev pub BringsAll : Role → Type 0
BringsAll AllSoundOff = ⊥
BringsAll AllNotesOff = ⊥
BringsAll Ignored = ⊥
BringsAll _ = Unit {0}

abbrev pub Changes : Msg → Type 0
Changes (NoteOn c k v) = ⊥
Changes (NoteOff c k v) = ⊥
Changes (Control c n v) = BringsAll (role n)
Changes _ = Unit {0}

role_brings : (r : Role) → BringsAll r → Brings r
role_brings Stored h = tt
role_brings EntryHigh h = tt
role_brings EntryLow h = tt
role_brings NrpnLow h = tt
role_brings NrpnHigh h = tt
role_brings RpnLow h = tt
role_brings RpnHigh h = tt
role_brings ResetControllers h = tt
role_brings AllSoundOff h = absurd h
role_brings AllNotesOff h = absurd h
role_brings Ignored h = absurd h

is_bringing : (msg : Msg) → Changes msg → IsBringing msg
is_bringing (NoteOn c k v) h = absurd h
is_bringing (NoteOff c k v) h = absurd h
is_bringing (Control c n v) h = role_brings (role n) h
is_bringing (KeyPressure c k v) h = tt
is_bringing (Program c p) h = tt
is_bringing (Pressure c v) h = tt
is_bringing (Bend c v) h = tt

controller_brings : (o : Options) (table : Targets) (after out : Music) (hs : List Held) (n v : ℕ) (r : Role) → BringsAll r →
    controller_causes o table after out hs n v r ≡ bring_all o table after out hs
controller_brings o table after out hs n v Stored h = refl
controller_brings o table after out hs n v EntryHigh h = refl
controller_brings o table after out hs n v EntryLow h = refl
controller_brings o table after out hs n v NrpnLow h = refl
controller_brings o table after out hs n v NrpnHigh h = refl
controller_brings o table after out hs n v RpnLow h = refl
controller_brings o table after out hs n v RpnHigh h = refl
controller_brings o table after out hs n v ResetControllers h = refl
controller_brings o table after out hs n v AllSoundOff h = absurd h
controller_brings o table after out hs n v AllNotesOff h = absurd h
controller_brings o table after out hs n v Ignored h = absurd h

pub causes_bring : (port : ℕ) (o : Options) (table : Targets) (k : Moment) (before after out : Music) (t : ℕ) (msg : Msg) → Changes msg →
    part_causes port o table k before after out t msg ≡ bring_all o table after out (held_by k.old (channel_of msg) k.holds)
causes_bring port o table k before after out t (NoteOn c j v) h = absurd h
causes_bring port o table k before after out t (NoteOff c j v) h = absurd h
causes_bring port o table k before after out t (Control c n v) h = controller_brings o table after out (held_by k.old c k.holds) n v (role n) h
causes_bring port o table k before after out t (KeyPressure c j v) h = refl
causes_bring port o table k before after out t (Program c p) h = refl
causes_bring port o table k before after out t (Pressure c v) h = refl
causes_bring port o table k before after out t (Bend c v) h = refl

-- the block of a part's message
pub part_block : (port : ℕ) (o : Options) (table : Targets) (k : Moment) (before out : Music) (t track : ℕ) (msg : Msg) (ms : List Msg) →
    is_part o (channel_of msg) ≡ true → part_causes port o table k before (step before (said_at t track msg)) out t msg ≡ ms →
    port_block port o table k before out (said_at t track msg) ≡ saying (said_at t track msg) ms
part_block port o table k before out t track msg ms p h =
    ap (λ b. placed_at (said_at t track msg) (cond b (map Says (part_causes port o table k before (step before (said_at t track msg)) out t msg))
    (Says msg ∷ []))) p ∙ ap (saying (said_at t track msg)) h

none_begins : (port : ℕ) (o : Options) (table : Targets) (t : ℕ) (msg : Msg) → Changes msg → (p : Pair) → Begins port o table t (Says msg) p → ⊥
none_begins port o table t (NoteOn c k v) h p b = h
none_begins port o table t (NoteOff c k v) h p b = b
none_begins port o table t (Control c n v) h p b = b
none_begins port o table t (KeyPressure c k v) h p b = b
none_begins port o table t (Program c x) h p b = b
none_begins port o table t (Pressure c v) h p b = b
none_begins port o table t (Bend c v) h p b = b

pub none_begun : (m : Music) (t : ℕ) (msg : Msg) → Changes msg → begun_by m t (Plays msg) ≡ []
none_begun m t (NoteOn c k v) h = absurd h
none_begun m t (NoteOff c k v) h = refl
none_begun m t (Control c n v) h = refl
none_begun m t (KeyPressure c k v) h = refl
none_begun m t (Program c x) h = refl
none_begun m t (Pressure c v) h = refl
none_begun m t (Bend c v) h = refl

-- what a pair's channel needs follows from its part's channel alone
abbrev needs : Options → Pair → Channel → Channel
needs o p s = record s { params = put (rpn 0) (o.range, 0) s.params; bend = bend_value ((pos 8192 +ℤ p.steps) +ℤ bend_in_steps o.range s) }

pub same_own : (o : Options) (table : Targets) (m x : Music) (p : Pair) → channel_at x p.part.channel ≡ channel_at m p.part.channel →
    (wanted o table x p).own ≡ (wanted o table m p).own
same_own o table m x p h = ap (needs o p) h

-- ---- the event

change_stepped : (Good : State → Type 0) → Laws Good → (port : ℕ) (o : Options) (table : Targets) (used : ℕ → Bool) → AreUsed o used → (k : Moment)
    (b : Both) (t track : ℕ) (msg : Msg) → Changes msg → is_part o (channel_of msg) ≡ true →
    Follows Good port o table used k.old k.was b → IsGiven Good port o table used k b.source (said_at t track msg) →
    Stepped port o table used k b (step b.source (said_at t track msg)) (play b.out (port_block port o table k b.source b.out (said_at t track msg)))
change_stepped Good laws port o table used row k b t track msg brings part follows sound =
    let e : MidiEvent = said_at t track msg in
    let c : ℕ = channel_of msg in
    let src : Music = b.source in
    let out : Music = b.out in
    let after : Music = step src e in
    let hs : List Held = held_by k.old c k.holds in
    let quiet : Quiet k = quiet_moment Good port o table used k src e sound (none_begins port o table t msg brings) in
    let fit : IsFine port o table src after k.is t msg = fine port o table src after k.is t msg sound.faultless in
    let turns : IsTurnedBy c t src after = message_turns src t msg (is_bringing msg brings) follows.source_zones follows.source_settled
    (laws.zones o src msg fit.zone) (valid_channel msg sound.valid.what)
    (wide_part Good laws.bringing o table src follows.good_source c) in
    let was : (p : Pair) → Has k.holds p → Has k.was p = sound.was_there in
    let used_old : (p : Pair) → Has k.holds p → used (k.old p) ≡ true = λ p h. sound.used_was p (was p h) in
    let own : OnOwnChannels hs = held_own k.old c k.holds sound.once (λ p q h g. sound.apart_was p q (was p h) (was q g)) in
    let can : AllByRecursion (CanBring o) hs = held_all (CanBring o) k.old c k.holds (λ p h i. record {
      channel = row.channel (k.old p)
          (used_old p h);
      part = row.retuned (k.old p) (used_old p h);
    }) in
    let x : Music = play out (saying e (bring_all o table after out hs)) in
    let to : AreBrought o table after out t hs out x =
    all_brought Good laws.bringing o table after out e sound.valid.tick sound.good hs own can out follows.out_zones follows.out_reached
    (keys_fit port o table k.old src.notes out.notes follows.notes) (all_always (λ h. state_at out h.channel ≡ state_at out h.channel)
    (λ h. refl) hs) in
    -- each pair that holds is at what it needed before
    let at : (p : Pair) → Has k.holds p → IsSameAside (channel_at out (k.old p)) (wanted o table src p).own =
    λ p h. subst (IsSameAside (channel_at out (k.old p))) (follows.at_wanted p (was p h)) (follows.states (k.old p) (used_old p h)) in
    let around : Around o table k c t src after out = record {
      part = part;
      apart = λ p q h g. sound.apart_was p q (was p h) (was q g);
      own = own;
      now = λ p h. (at p h).controls;
    } in
    let apart : AreApart o table after.notes = apart_after laws.fade o table src t (Plays msg) (none_begun src t msg brings) follows.apart in
    let notes : Pairwise (IsMatched port o table k.old) after.notes x.notes =
    notes_turned port o table k c t src after out x around turns apart sound.held to follows.notes in
    let is : Stepped port o table used k b after x = record {
      notes = moved_notes port o table k after.notes x.notes quiet sound.there notes;
      apart = apart;
      begins = λ p g. absurd (quiet.none p g);
      holds = λ p h free. elim (cases_eq p.part.channel c) [
        | inl i ↦ all_at (λ g. IsSameAside (channel_at x g.channel) (wanted o table after g.pair).own)
            (held_pair k.old p) hs (held_in k.old c k.holds p h i) to.at
        | inr i ↦ subst (λ s. IsSameAside s (wanted o table after p).own)
            (sym (to.others (k.old p) (held_all (λ g. k.old p ≢ g.channel) k.old c k.holds (λ q g j same. i (ap (λ (r : Pair). r.part.channel)
            (sound.apart_was p q (was p h) (was q g) same) ∙ j)))))
            (subst (IsSameAside (channel_at out (k.old p))) (sym (same_own o table src after p (turns.others p.part.channel i))) (at p h))
      ];
      others = λ d u free none. subst (λ s. IsSameAside s (b.left d))
          (sym (to.others d (held_all (λ g. d ≢ g.channel) k.old c k.holds (λ q g j same. none q g (sym same))))) (follows.states d u);
      same = λ p i h. absurd (both_ways (is_member is_same_pair k.holds p) h (quiet.held p i));
      source_zones = turns.zones;
      source_settled = laws.settle src e follows.source_settled;
      out_zones = to.zones;
      out_reached = to.reached;
    } in
    subst (Stepped port o table used k b after) (sym (ap (play out)
    (part_block port o table k src out t track msg (bring_all o table after out hs) part
    (causes_bring port o table k src after out t msg brings)))) is

pub change_follows : (Good : State → Type 0) → Laws Good → (port : ℕ) (o : Options) (table : Targets) (used : ℕ → Bool) → AreUsed o used →
    (k : Moment) (b : Both) (t track : ℕ) (msg : Msg) → Changes msg → is_part o (channel_of msg) ≡ true →
    Follows Good port o table used k.old k.was b → IsGiven Good port o table used k b.source (said_at t track msg) →
    Follows Good port o table used k.new k.is (next_both port o table k b (said_at t track msg))
change_follows Good laws port o table used row k b t track msg brings part follows sound =
    follows_next Good port o table used k b (said_at t track msg) follows sound refl
    (change_stepped Good laws port o table used row k b t track msg brings part follows sound)
