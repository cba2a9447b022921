-- No used channel of the output ever has selected a tuning program.
use Rattle.std.proofs.Common.{◌≡◌, ◌≢◌, ◌<◌, ◌≤◌, ◌^◌, ℕ, zero, suc, Bool, true, false, List, [], ◌∷◌, ◌++◌, Option, Some, None, refl, ap, sym, ◌∙◌, subst, map, get_or, replicate, arith, inl, inr}
use Rattle.std.specs.List.{AllByRecursion}
use Rattle.std.specs.Set.{is_member}
use Rattle.std.proofs.lemmas.Bool.{cases_Bool, both_ways}
use Rattle.std.proofs.lemmas.List.{get_or-set_other}
use Rattle.retune_model.specs.Pairs.{Pair, is_same_pair}
use Rattle.mt_base.specs.declared.event.Msg.{Msg}
use Rattle.mt_base.specs.declared.event.Msg.TheVariants.{NoteOn, NoteOff, KeyPressure, Control, Program, Pressure, Bend}
use Rattle.mt_base.specs.Midi.{MidiWhat, Says, SysexOf, MetaOf, MidiEvent, channel_of}
use Rattle.midi_model.specs.WellFormed.{IsWellFormed}
use Rattle.midi_model.specs.Sysex.{Doing, Plays, Resets, Tunes, Nothing, doing}
use Rattle.midi_model.specs.Channel.{State, role, Role, Stored, EntryHigh, EntryLow, NrpnLow, NrpnHigh, RpnLow, RpnHigh, AllSoundOff, ResetControllers, AllNotesOff, Ignored, Target, Nowhere, TuningProgram, ZoneSize, Value, target}
use Rattle.midi_model.specs.Zones.{no_zones}
use Rattle.midi_model.specs.Notes.{Note}
use Rattle.midi_model.specs.Music.{Music, quiet, channel_at, step, play, state_at}
use Rattle.midi_model.specs.Tuning.{Tuning, selected_of, chosen, chosen_by, tuning_heard, tuning_after}
use Rattle.midi_model.specs.Receiver.{Receiver, start, receive, receive_all}
use Rattle.midi_model.specs.Bring.{bring}
use Rattle.retune_model.specs.Table.{BendTarget}
use Rattle.retune_model.specs.Options.{Options}
use Rattle.retune_model.specs.PlaysTheSame.{bend_target_if}
use Rattle.retune_model.specs.Faults.{Targets, is_part, target_of}
use Rattle.retune_model.specs.Ports.{Numbered}
use Rattle.channel_model.specs.Choice.{wanted}
use Rattle.channel_model.specs.BendOutput.{Held, held_by, pair_with, pressed_note, note_released, off_at, bring_all, send_all, controller_causes, PortRuns}
use Rattle.state_laws.specs.HeardLaws.{KeepsTheTuning}
use Rattle.bend_laws.specs.Moments.{Moment, Both, setup, strikes, part_causes, port_block, moment, port_output}
use Rattle.bend_laws.specs.Brought.{IsReached}
use Rattle.bend_laws.proofs.Brought.{brought_on, IsBroughtTo}
use Rattle.mt_base.specs.Valid.{IsValidMsg}
use Rattle.midi_model.specs.MusicLaws.{IsSettled}
use Rattle.bend_laws.specs.Follows.{Has, IsGiven, AreUsed, Follows}
use Rattle.bend_laws.specs.Positions.{port_event, both_at}
use Rattle.bend_laws.proofs.Planning.{block_if, blocks_to, IsPlanned}
use Rattle.bend_laws.proofs.Ticks.{IsUntuned, AreTimely}
use Rattle.bend_laws.proofs.Lists.{all_weaker, all_always, all_both}
use Rattle.bend_laws.proofs.Holding.{OnOwnChannels, held_all, held_own}
use Rattle.bend_laws.proofs.Playing.{saying, saying_append, saying_valid, reached_play, settled_reached, state_kept}
use Rattle.bend_laws.proofs.Bringing.{KeysFit, CanBring, keys_fit_on, on_channel, on_elsewhere}
use Rattle.bend_laws.proofs.Given.{Laws, keys_fit}
use Rattle.bend_laws.proofs.Changing.{said_at, part_block}
use Rattle.bend_laws.proofs.Still.{no_message}
use Rattle.bend_laws.proofs.Elsewhere.{drum_block}
use Rattle.bend_laws.proofs.Simulates.{source_is, sound_at, follows_at}
use Rattle.bend_laws.proofs.Shown.{begun_there}
use Rattle.bend_laws.proofs.Outputs.{out_is}
use Rattle.bend_laws.proofs.Ticking.{AtPosition, at_position}
use Rattle.midi_model.proofs.Same.{music_all}
use Rattle.bend_laws.proofs.Bridge.{same_events, well_reached, ReceiversStay}

abbrev pub IsQuietOn : (ℕ → Bool) → Tuning → Type 0
IsQuietOn used s = (c : ℕ) → used c ≡ true → selected_of s c ≡ None

pub all_receive : (r : Receiver) (xs ys : List MidiEvent) → receive_all r (xs ++ ys) ≡ receive_all (receive_all r xs) ys
all_receive r [] ys = refl
all_receive r (x ∷ xs) ys = all_receive (receive r x) xs ys

-- ---- bringing

-- one channel that is brought
one_quiet : KeepsTheTuning → (r : Receiver) (e : MidiEvent) (c : ℕ) (now w : State) → IsWellFormed now → IsWellFormed w → c < 16 →
    r.music.zones ≡ no_zones →
    IsSettled r.music → now.own ≡ channel_at r.music c → (receive_all r (saying e (bring c now w))).tuning ≡ r.tuning
one_quiet law r e c now w good want low z s own = ap (λ es. (receive_all r es).tuning) (sym (same_events e (bring c now w)))
    ∙ law r e.tick e.track c now w (record { settled = s; no_zone = z; channel = omega (arith, low); from = good; to = want; own = own })

-- several, one after another
several_quiet : Laws IsWellFormed → KeepsTheTuning → ReceiversStay → (o : Options) (table : Targets) (after out : Music) (e : MidiEvent) →
    e.tick < 2 ^ 28 → ((p : Pair) → IsWellFormed (wanted o table after p)) → (hs : List Held) → OnOwnChannels hs →
    AllByRecursion (CanBring o) hs → (r : Receiver) → r.music.zones ≡ no_zones → IsReached r.music → KeysFit o r.music.notes →
    AllByRecursion (λ h. state_at r.music h.channel ≡ state_at out h.channel) hs →
    (receive_all r (saying e (bring_all o table after out hs))).tuning ≡ r.tuning
several_quiet laws law stay o table after out e tick good [] d can r z reached keys s = refl
several_quiet laws law stay o table after out e tick good (h ∷ hs) d can r z reached keys s =
    let m : Music = r.music in
    let c : ℕ = h.channel in
    let w : State = wanted o table after h.pair in
    let ms : List Msg = bring c (state_at out c) w in
    let own : channel_at m c ≡ channel_at out c = ap (λ (q : State). q.own) s.0 in
    let to : IsBroughtTo c e.tick w m (play m (saying e ms)) = subst (λ q. IsBroughtTo c e.tick w m (play m (saying e (bring c q w)))) s.0
    (laws.bringing.reaches m e c w z reached can.0.channel (all_weaker (λ n. is_part o n.channel ≡ true → n.key < 128)
    (λ n. n.channel ≡ c → n.key < 128) (λ n f k. f (ap (is_part o) k ∙ can.0.part)) m.notes keys) (good h.pair)) in
    let f : Note → Note = brought_on c e.tick (channel_at out c) w in
    let notes : (play m (saying e ms)).notes ≡ map f m.notes = to.notes ∙ ap (λ q. map (brought_on c e.tick q w) m.notes) own in
    let x : Receiver = receive_all r (saying e ms) in
    let is : x.music ≡ play m (saying e ms) = music_all r (saying e ms) in
    let valid : AllByRecursion IsValidMsg ms = subst (λ q. AllByRecursion IsValidMsg (bring c q w)) s.0
    (laws.bringing.valid m c w reached can.0.channel (good h.pair)) in
    let states : AllByRecursion (λ g. state_at (play m (saying e ms)) g.channel ≡ state_at out g.channel) hs =
    all_weaker (λ g. (g.channel ≢ c) × (state_at m g.channel ≡ state_at out g.channel))
    (λ g. state_at (play m (saying e ms)) g.channel ≡ state_at out g.channel)
    (λ g q. state_kept g.channel m (play m (saying e ms)) f (to.others g.channel q.0) notes (on_channel c e.tick (channel_at out c) w)
    (λ n k. on_elsewhere c e.tick (channel_at out c) w n (λ j. q.0 (sym k ∙ j))) ∙ q.1)
    hs (all_both (λ g. g.channel ≢ c) (λ g. state_at m g.channel ≡ state_at out g.channel) hs d.0 s.1) in
    let first : x.tuning ≡ r.tuning = one_quiet law r e c (state_at out c) w (subst IsWellFormed s.0 (well_reached stay m c reached))
    (good h.pair) can.0.channel z (settled_reached laws.settle m reached) (sym own) in
    ap (λ es. (receive_all r es).tuning) (saying_append e ms (bring_all o table after out hs)) ∙ ap (λ (y : Receiver). y.tuning)
    (all_receive r (saying e ms) (saying e (bring_all o table after out hs)))
    ∙ several_quiet laws law stay o table after out e tick good hs d.1 can.1 x (ap (λ (y : Music). y.zones) is ∙ to.zones ∙ z)
    (subst IsReached (sym is) (reached_play m (saying e ms) (saying_valid e ms tick valid) reached))
    (subst (λ (y : Music). KeysFit o y.notes) (sym is) (subst (KeysFit o) (sym notes) (keys_fit_on o c e.tick (channel_at out c) w m.notes keys)))
    (subst (λ y. AllByRecursion (λ g. state_at y g.channel ≡ state_at out g.channel) hs) (sym is) states)
    ∙ first

-- ---- messages that are no data entry

abbrev pub IsMute : Msg → Type 0
IsMute msg = (m : Music) (s : Tuning) → tuning_heard m msg s ≡ s

pub mute_role : (m : Music) (c v : ℕ) (r : Role) (s : Tuning) → (r ≢ EntryHigh) → chosen_by m c v r s ≡ s
mute_role m c v EntryHigh s h = absurd (h refl)
mute_role m c v Stored s h = refl
mute_role m c v EntryLow s h = refl
mute_role m c v NrpnLow s h = refl
mute_role m c v NrpnHigh s h = refl
mute_role m c v RpnLow s h = refl
mute_role m c v RpnHigh s h = refl
mute_role m c v AllSoundOff s h = refl
mute_role m c v ResetControllers s h = refl
mute_role m c v AllNotesOff s h = refl
mute_role m c v Ignored s h = refl

pub all_mute : (r : Receiver) (e : MidiEvent) (ms : List Msg) → AllByRecursion IsMute ms → (receive_all r (saying e ms)).tuning ≡ r.tuning
all_mute r e [] h = refl
all_mute r e (m ∷ ms) h = all_mute (receive r (record e { what = Says m })) e ms h.1 ∙ h.0 r.music r.tuning

pub released_mute : (port : ℕ) (o : Options) (table : Targets) (place : Pair → ℕ) (off : ℕ → ℕ → Msg) → ((d i : ℕ) → IsMute (off d i)) → (c : ℕ)
    (x : Option Note) → AllByRecursion IsMute (note_released port o table place off c x)
released_mute port o table place off h c None = tt
released_mute port o table place off h c (Some n) = pick (target_of o table n)
  where
    pick : (x : Option BendTarget) → AllByRecursion IsMute (off_at port place off c x)
    pick None = tt
    pick (Some t) = (h (place (pair_with port c t)) t.key, tt)

sent_mute : (n v : ℕ) (hs : List Held) → (role n ≢ EntryHigh) → AllByRecursion IsMute (send_all n v hs)
sent_mute n v [] h = tt
sent_mute n v (g ∷ gs) h = ((λ m s. mute_role m g.channel v (role n) s h), sent_mute n v gs h)

-- ---- one block

-- what is known where a block begins
record Before (port : ℕ) (o : Options) (table : Targets) (used : ℕ → Bool) (k : Moment) (b : Both) (e : MidiEvent) (r : Receiver) : Type 0 where
  follows : Follows IsWellFormed port o table used k.old k.was b
  sound : IsGiven IsWellFormed port o table used k b.source e
  music : r.music ≡ b.out

held_quiet : Laws IsWellFormed → KeepsTheTuning → ReceiversStay → (port : ℕ) (o : Options) (table : Targets) (used : ℕ → Bool) → AreUsed o used →
    (k : Moment) (b : Both) (e : MidiEvent) (r : Receiver) → Before port o table used k b e r → (c : ℕ) →
    (receive_all r (saying e (bring_all o table (step b.source e) b.out (held_by k.old c k.holds)))).tuning ≡ r.tuning
held_quiet laws law stay port o table used row k b e r h c =
    let used_old : (p : Pair) → Has k.holds p → used (k.old p) ≡ true = λ p i. h.sound.used_was p (h.sound.was_there p i) in
    let hs : List Held = held_by k.old c k.holds in
    several_quiet laws law stay o table (step b.source e) b.out e h.sound.valid.tick h.sound.good hs
    (held_own k.old c k.holds h.sound.once (λ p q i g. h.sound.apart_was p q (h.sound.was_there p i) (h.sound.was_there q g)))
    (held_all (CanBring o) k.old c k.holds (λ p i g. record {
      channel = row.channel (k.old p) (used_old p i);
      part = row.retuned (k.old p)
          (used_old p i);
    })) r
    (ap (λ (m : Music). m.zones) h.music ∙ h.follows.out_zones) (subst IsReached (sym h.music) h.follows.out_reached)
    (subst (λ (m : Music). KeysFit o m.notes) (sym h.music) (keys_fit port o table k.old b.source.notes b.out.notes h.follows.notes))
    (all_always (λ g. state_at r.music g.channel ≡ state_at b.out g.channel) (λ g. ap (λ m. state_at m g.channel) h.music) hs)

setup_quiet : Laws IsWellFormed → KeepsTheTuning → ReceiversStay → (port : ℕ) (o : Options) (table : Targets) (used : ℕ → Bool) → AreUsed o used →
    (k : Moment) (b : Both) (e : MidiEvent) (r : Receiver) → Before port o table used k b e r → (p : Pair) → Has k.is p → (x : Bool) →
    (receive_all r (saying e (setup o table k (step b.source e) b.out p x))).tuning ≡ r.tuning
setup_quiet laws law stay port o table used row k b e r h p i true = refl
setup_quiet laws law stay port o table used row k b e r h p i false =
    let d : ℕ = k.new p in
    one_quiet law r e d (state_at b.out d) (wanted o table (step b.source e) p) (well_reached stay b.out d h.follows.out_reached) (h.sound.good p)
    (row.channel d (h.sound.used_is p i))
    (ap (λ (m : Music). m.zones) h.music ∙ h.follows.out_zones) (subst IsSettled (sym h.music)
    (settled_reached laws.settle b.out h.follows.out_reached)) (ap (λ m. channel_at m d) (sym h.music))

-- the messages of a part
controller_quiet : Laws IsWellFormed → KeepsTheTuning → ReceiversStay → (port : ℕ) (o : Options) (table : Targets) (used : ℕ → Bool) →
    AreUsed o used → (k : Moment) (b : Both) (e : MidiEvent) (r : Receiver) → Before port o table used k b e r → (c n v : ℕ) (x : Role) →
    role n ≡ x →
    (receive_all r (saying e (controller_causes o table (step b.source e) b.out (held_by k.old c k.holds) n v x))).tuning ≡ r.tuning
controller_quiet laws law stay port o table used row k b e r h c n v AllSoundOff is = all_mute r e (send_all n v (held_by k.old c k.holds))
    (sent_mute n v (held_by k.old c k.holds) (λ g. (let z : AllSoundOff ≡ EntryHigh = sym is ∙ g in cc)))
controller_quiet laws law stay port o table used row k b e r h c n v AllNotesOff is = all_mute r e (send_all n v (held_by k.old c k.holds))
    (sent_mute n v (held_by k.old c k.holds) (λ g. (let z : AllNotesOff ≡ EntryHigh = sym is ∙ g in cc)))
controller_quiet laws law stay port o table used row k b e r h c n v Ignored is = refl
controller_quiet laws law stay port o table used row k b e r h c n v Stored is = held_quiet laws law stay port o table used row k b e r h c
controller_quiet laws law stay port o table used row k b e r h c n v EntryHigh is = held_quiet laws law stay port o table used row k b e r h c
controller_quiet laws law stay port o table used row k b e r h c n v EntryLow is = held_quiet laws law stay port o table used row k b e r h c
controller_quiet laws law stay port o table used row k b e r h c n v NrpnLow is = held_quiet laws law stay port o table used row k b e r h c
controller_quiet laws law stay port o table used row k b e r h c n v NrpnHigh is = held_quiet laws law stay port o table used row k b e r h c
controller_quiet laws law stay port o table used row k b e r h c n v RpnLow is = held_quiet laws law stay port o table used row k b e r h c
controller_quiet laws law stay port o table used row k b e r h c n v RpnHigh is = held_quiet laws law stay port o table used row k b e r h c
controller_quiet laws law stay port o table used row k b e r h c n v ResetControllers is = held_quiet laws law stay port o table used row k b e r h c

strike_quiet : Laws IsWellFormed → KeepsTheTuning → ReceiversStay → (port : ℕ) (o : Options) (table : Targets) (used : ℕ → Bool) → AreUsed o used →
    (k : Moment) (b : Both) (e : MidiEvent) (r : Receiver) → Before port o table used k b e r → (c v : ℕ) (x : Option BendTarget) →
    ((t : BendTarget) → x ≡ Some t → Has k.is (pair_with port c t)) →
    (receive_all r (saying e (strikes port o table k (step b.source e) b.out c v x))).tuning ≡ r.tuning
strike_quiet laws law stay port o table used row k b e r h c v None there = refl
strike_quiet laws law stay port o table used row k b e r h c v (Some t) there =
    let p : Pair = pair_with port c t in
    let ms : List Msg = setup o table k (step b.source e) b.out p (is_member is_same_pair k.was p) in
    let last : List Msg = NoteOn (k.new p) t.key v ∷ [] in
    ap (λ es. (receive_all r es).tuning) (saying_append e ms last) ∙ ap (λ (y : Receiver). y.tuning) (all_receive r (saying e ms) (saying e last))
    ∙ all_mute (receive_all r (saying e ms)) e last ((λ m s. refl), tt)
    ∙ setup_quiet laws law stay port o table used row k b e r h p (there t refl) (is_member is_same_pair k.was p)

part_quiet : Laws IsWellFormed → KeepsTheTuning → ReceiversStay → (port : ℕ) (o : Options) (table : Targets) (used : ℕ → Bool) → AreUsed o used →
    (k : Moment) (b : Both) (t track : ℕ) (msg : Msg) (r : Receiver) → Before port o table used k b (said_at t track msg) r →
    is_part o (channel_of msg) ≡ true →
    (receive_all r (saying (said_at t track msg) (part_causes port o table k b.source (step b.source (said_at t track msg)) b.out t msg))).tuning
    ≡ r.tuning
part_quiet laws law stay port o table used row k b t track (NoteOn c j zero) r h part = all_mute r (said_at t track (NoteOn c j zero))
    (note_released port o table k.old (λ d i. NoteOn d i zero) c (pressed_note c j b.source.notes))
    (released_mute port o table k.old (λ d i. NoteOn d i zero) (λ d i m s. refl) c (pressed_note c j b.source.notes))
part_quiet laws law stay port o table used row k b t track (NoteOn c j (suc v)) r h part =
    strike_quiet laws law stay port o table used row k b (said_at t track (NoteOn c j (suc v))) r h c (suc v) (bend_target_if o.range (table j t))
    (λ x aim. begun_there IsWellFormed port o table used k.old k.was k b t track c j v h.follows h.sound part x aim)
part_quiet laws law stay port o table used row k b t track (NoteOff c j v) r h part = all_mute r (said_at t track (NoteOff c j v))
    (note_released port o table k.old (λ d i. NoteOff d i v) c (pressed_note c j b.source.notes))
    (released_mute port o table k.old (λ d i. NoteOff d i v) (λ d i m s. refl) c (pressed_note c j b.source.notes))
part_quiet laws law stay port o table used row k b t track (Control c n v) r h part =
    controller_quiet laws law stay port o table used row k b (said_at t track (Control c n v)) r h c n v (role n) refl
part_quiet laws law stay port o table used row k b t track (KeyPressure c j v) r h part =
    held_quiet laws law stay port o table used row k b (said_at t track (KeyPressure c j v)) r h c
part_quiet laws law stay port o table used row k b t track (Program c p) r h part =
    held_quiet laws law stay port o table used row k b (said_at t track (Program c p)) r h c
part_quiet laws law stay port o table used row k b t track (Pressure c v) r h part =
    held_quiet laws law stay port o table used row k b (said_at t track (Pressure c v)) r h c
part_quiet laws law stay port o table used row k b t track (Bend c v) r h part =
    held_quiet laws law stay port o table used row k b (said_at t track (Bend c v)) r h c

-- kept drums select on their own channel alone
pub chosen_else : (c v d : ℕ) (x : Target) (s : Tuning) → d ≢ c → selected_of (chosen c v x s) d ≡ selected_of s d
chosen_else c v d TuningProgram s h = get_or-set_other s.selected c d (Some v) None h
chosen_else c v d Nowhere s h = refl
chosen_else c v d ZoneSize s h = refl
chosen_else c v d (Value p) s h = refl

role_else : (m : Music) (c v d : ℕ) (r : Role) (s : Tuning) → d ≢ c → selected_of (chosen_by m c v r s) d ≡ selected_of s d
role_else m c v d EntryHigh s h = chosen_else c v d (target (channel_at m c).selection) s h
role_else m c v d Stored s h = refl
role_else m c v d EntryLow s h = refl
role_else m c v d NrpnLow s h = refl
role_else m c v d NrpnHigh s h = refl
role_else m c v d RpnLow s h = refl
role_else m c v d RpnHigh s h = refl
role_else m c v d AllSoundOff s h = refl
role_else m c v d ResetControllers s h = refl
role_else m c v d AllNotesOff s h = refl
role_else m c v d Ignored s h = refl

pub heard_else : (m : Music) (msg : Msg) (d : ℕ) (s : Tuning) → d ≢ channel_of msg → selected_of (tuning_heard m msg s) d ≡ selected_of s d
heard_else m (NoteOn c k v) d s h = refl
heard_else m (NoteOff c k v) d s h = refl
heard_else m (KeyPressure c k v) d s h = refl
heard_else m (Control c n v) d s h = role_else m c v d (role n) s h
heard_else m (Program c p) d s h = refl
heard_else m (Pressure c v) d s h = refl
heard_else m (Bend c v) d s h = refl

pub none_selected : (n c : ℕ) → get_or (replicate n (let x : Option ℕ = None in x)) c None ≡ None
none_selected zero c = refl
none_selected (suc n) zero = refl
none_selected (suc n) (suc c) = none_selected n c

pub passed_quiet : (used : ℕ → Bool) (m : Music) (d : Doing) (s : Tuning) → ((msg : Msg) → d ≢ Plays msg) → IsQuietOn used s →
    IsQuietOn used (tuning_after m d s)
passed_quiet used m (Plays msg) s h q = absurd (h msg refl)
passed_quiet used m Resets s h q = λ c u. none_selected 16 c
passed_quiet used m (Tunes r) s h q = q
passed_quiet used m Nothing s h q = q

block_quiet : Laws IsWellFormed → KeepsTheTuning → ReceiversStay → (port : ℕ) (o : Options) (table : Targets) (used : ℕ → Bool) → AreUsed o used →
    (k : Moment) (b : Both) (t track : ℕ) (w : MidiWhat) (r : Receiver) →
    (let e : MidiEvent = record { tick = t; track = track; what = w } in Before port o table used k b e r → IsQuietOn used r.tuning →
    IsQuietOn used (receive_all r (port_block port o table k b.source b.out e)).tuning)
block_quiet laws law stay port o table used row k b t track (Says msg) r h q = elim (cases_Bool (is_part o (channel_of msg))) [
  | inl part ↦ subst (IsQuietOn used) (sym (ap (λ es. (receive_all r es).tuning)
      (part_block port o table k b.source b.out t track msg (part_causes port o table k b.source
      (step b.source (said_at t track msg)) b.out t msg) part refl) ∙ part_quiet laws law stay port o table used row k b t track msg r h part)) q
  | inr drum ↦ subst (λ es. IsQuietOn used (receive_all r es).tuning) (sym (drum_block port o table k b.source b.out t track msg drum))
      (λ c u. heard_else r.music msg c r.tuning (λ e. both_ways (is_part o (channel_of msg)) drum (ap (is_part o) (sym e) ∙ row.retuned c u)) ∙ q c u)
]
block_quiet laws law stay port o table used row k b t track (SysexOf lead bytes) r h q =
    passed_quiet used r.music (doing (SysexOf lead bytes)) r.tuning (no_message (SysexOf lead bytes) tt) q
block_quiet laws law stay port o table used row k b t track (MetaOf kind bytes) r h q = q

-- ---- all blocks

pub blocks_quiet : Laws IsWellFormed → KeepsTheTuning → ReceiversStay → (o : Options) (table : Targets) (used : ℕ → Bool) → AreUsed o used →
    (plan : PortRuns) (ns : List Numbered) (last : ℕ) → IsPlanned IsWellFormed o table used plan ns last →
    (k : ℕ) → k ≤ last → IsQuietOn used (receive_all start (blocks_to o table plan ns k)).tuning
blocks_quiet laws law stay o table used row plan ns last given zero low = λ c u. none_selected 16 c
blocks_quiet laws law stay o table used row plan ns last given (suc k) low =
    go (blocks_quiet laws law stay o table used row plan ns last given k (omega arith)) (port_event ns (suc k)) refl
  where
    b : Both
    b = both_at o table plan ns k

    go : IsQuietOn used (receive_all start (blocks_to o table plan ns k)).tuning → (x : Option MidiEvent) → port_event ns (suc k) ≡ x →
        IsQuietOn used (receive_all start (blocks_to o table plan ns k ++ block_if plan.number o table (moment plan k)
        (both_at o table plan ns k) x)).tuning
    go q None is = subst (λ (y : Receiver). IsQuietOn used y.tuning) (sym (all_receive start (blocks_to o table plan ns k) [])) q
    go q (Some e) is =
        let r : Receiver = receive_all start (blocks_to o table plan ns k) in
        let before : Before plan.number o table used (moment plan k) (both_at o table plan ns k) e r = record {
          follows = follows_at IsWellFormed laws o table used row plan ns last given k (omega arith);
          sound = subst (λ m. IsGiven IsWellFormed plan.number o table used (moment plan k) m e) (sym (source_is o table plan ns k))
              (sound_at IsWellFormed o table used plan ns last given k low e is);
          music = music_all start (blocks_to o table plan ns k) ∙ sym (out_is o table plan ns k);
        } in
        subst (λ (y : Receiver). IsQuietOn used y.tuning) (sym (all_receive start (blocks_to o table plan ns k)
        (port_block plan.number o table (moment plan k) (both_at o table plan ns k).source (both_at o table plan ns k).out e)))
        (block_quiet laws law stay plan.number o table used row (moment plan k) (both_at o table plan ns k) e.tick e.track e.what r before q)

-- at every tick
pub is_untuned : Laws IsWellFormed → KeepsTheTuning → ReceiversStay → (o : Options) (table : Targets) (used : ℕ → Bool) → AreUsed o used →
    (plan : PortRuns) (ns : List Numbered) (last : ℕ) → IsPlanned IsWellFormed o table used plan ns last → AreTimely ns last →
    IsUntuned used (port_output o table plan quiet quiet ns)
is_untuned laws law stay o table used row plan ns last given timely t c u =
    let at : AtPosition o table plan ns last t = at_position o table plan ns last t timely in
    ap (λ es. selected_of (receive_all start es).tuning c) at.blocks
    ∙ blocks_quiet laws law stay o table used row plan ns last given at.position at.within c u
