-- The channels of the output's retuned notes are those that the plan names: a block begins one note at most, where the event does.
use Rattle.std.proofs.Common.{◌≡◌, ◌⊎◌, ℕ, zero, suc, Bool, true, false, cond, List, [], ◌∷◌, ◌++◌, Option, Some, None, refl, ap, sym, ◌∙◌, subst, map, inl, inr}
use Rattle.std.specs.List.{AllByRecursion}
use Rattle.std.specs.Set.{is_member}
use Rattle.std.proofs.lemmas.Bool.{cases_Bool}
use Rattle.std.proofs.lemmas.List.{append-nil}
use Rattle.retune_model.specs.Pairs.{Pair, is_same_pair}
use Rattle.mt_base.specs.declared.event.Msg.{Msg}
use Rattle.mt_base.specs.declared.event.Msg.TheVariants.{NoteOn, NoteOff, KeyPressure, Control, Program, Pressure, Bend}
use Rattle.mt_base.specs.Midi.{MidiWhat, Says, SysexOf, MetaOf, MidiEvent, channel_of}
use Rattle.midi_model.specs.Sysex.{Doing, Plays, Resets, Tunes, Nothing, doing}
use Rattle.midi_model.specs.Channel.{State, role, Role, Stored, EntryHigh, EntryLow, NrpnLow, NrpnHigh, RpnLow, RpnHigh, AllSoundOff, ResetControllers, AllNotesOff, Ignored}
use Rattle.midi_model.specs.Notes.{Note}
use Rattle.midi_model.specs.Music.{Music, begun, step, play, state_at}
use Rattle.midi_model.specs.MusicLaws.{AllFade, begun_by, NotesFade}
use Rattle.midi_model.specs.Bring.{bring}
use Rattle.retune_model.specs.Table.{BendTarget}
use Rattle.retune_model.specs.Options.{Options}
use Rattle.retune_model.specs.PlaysTheSame.{bend_target_if}
use Rattle.retune_model.specs.Faults.{Targets, is_part, target_of}
use Rattle.channel_model.specs.Choice.{wanted}
use Rattle.channel_model.specs.BendOutput.{Held, held_by, pair_with, pressed_note, note_released, off_at, bring_all, send_all, controller_causes}
use Rattle.bend_laws.specs.Moments.{Moment, setup, strikes, part_causes, port_block}
use Rattle.bend_laws.specs.Simulation.{retuned, on_target, channel_begun}
use Rattle.bend_laws.proofs.Playing.{saying, play_saying}
use Rattle.bend_laws.proofs.Spelled.{bring_holds}
use Rattle.bend_laws.proofs.Changing.{said_at, part_block}
use Rattle.bend_laws.proofs.Still.{port_event, no_message}
use Rattle.bend_laws.proofs.Elsewhere.{drum_block}

-- ---- messages that begin no note

abbrev pub NoNote : Msg → Type 0
NoNote (NoteOn c k (suc v)) = ⊥
NoNote _ = Unit {0}

abbrev pub NoNotes : List Msg → Type 0
NoNotes ms = AllByRecursion NoNote ms

pub both_none : (xs ys : List Msg) → NoNotes xs → NoNotes ys → NoNotes (xs ++ ys)
both_none [] ys h g = g
both_none (x ∷ xs) ys h g = (h.0, both_none xs ys h.1 g)

bring_none : (c : ℕ) (now wanted : State) → NoNotes (bring c now wanted)
bring_none c now wanted = bring_holds c NoNote (record {
  control = λ n v. tt;
  program = λ p. tt;
  pressure = λ v. tt;
  bend = λ v. tt;
  key =
      λ k v. tt;
}) now wanted

all_none : (o : Options) (table : Targets) (after out : Music) (hs : List Held) → NoNotes (bring_all o table after out hs)
all_none o table after out [] = tt
all_none o table after out (h ∷ hs) =
    both_none (bring h.channel (state_at out h.channel) (wanted o table after h.pair)) (bring_all o table after out hs)
    (bring_none h.channel (state_at out h.channel) (wanted o table after h.pair)) (all_none o table after out hs)

send_none : (n v : ℕ) (hs : List Held) → NoNotes (send_all n v hs)
send_none n v [] = tt
send_none n v (h ∷ hs) = (tt, send_none n v hs)

controller_none : (o : Options) (table : Targets) (after out : Music) (hs : List Held) (n v : ℕ) (r : Role) →
    NoNotes (controller_causes o table after out hs n v r)
controller_none o table after out hs n v AllSoundOff = send_none n v hs
controller_none o table after out hs n v AllNotesOff = send_none n v hs
controller_none o table after out hs n v Ignored = tt
controller_none o table after out hs n v Stored = all_none o table after out hs
controller_none o table after out hs n v EntryHigh = all_none o table after out hs
controller_none o table after out hs n v EntryLow = all_none o table after out hs
controller_none o table after out hs n v NrpnLow = all_none o table after out hs
controller_none o table after out hs n v NrpnHigh = all_none o table after out hs
controller_none o table after out hs n v RpnLow = all_none o table after out hs
controller_none o table after out hs n v RpnHigh = all_none o table after out hs
controller_none o table after out hs n v ResetControllers = all_none o table after out hs

pub released_none : (port : ℕ) (o : Options) (table : Targets) (place : Pair → ℕ) (off : ℕ → ℕ → Msg) → ((d i : ℕ) → NoNote (off d i)) → (c : ℕ)
    (x : Option Note) → NoNotes (note_released port o table place off c x)
released_none port o table place off h c None = tt
released_none port o table place off h c (Some n) = pick (target_of o table n)
  where
    pick : (x : Option BendTarget) → NoNotes (off_at port place off c x)
    pick None = tt
    pick (Some t) = (h (place (pair_with port c t)) t.key, tt)

-- ---- the channels of retuned notes

abbrev pub note_channels : Options → List Note → List ℕ
note_channels o ns = map (λ (n : Note). n.channel) (retuned o ns)

channels_fade : (o : Options) (ns xs : List Note) → AllFade ns xs → note_channels o xs ≡ note_channels o ns
channels_fade o [] [] h = refl
channels_fade o [] (x ∷ xs) h = absurd h
channels_fade o (n ∷ ns) [] h = absurd h
channels_fade o (n ∷ ns) (x ∷ xs) h =
    let rest : note_channels o xs ≡ note_channels o ns = channels_fade o ns xs h.1 in
    ap (λ b. map (λ (y : Note). y.channel) (cond b (x ∷ retuned o xs) (retuned o xs))) (ap (is_part o) h.0.channel)
    ∙ pick (is_part o n.channel) n x (retuned o ns) (retuned o xs) h.0.channel rest
  where
    pick : (b : Bool) (n x : Note) (ms ys : List Note) → x.channel ≡ n.channel → map (λ (y : Note). y.channel) ys
        ≡ map (λ (y : Note). y.channel) ms → map (λ (y : Note). y.channel) (cond b (x ∷ ys) ys) ≡ map (λ (y : Note). y.channel) (cond b (n ∷ ms) ms)
    pick true n x ms ys c r = ap (λ d. d ∷ map (λ (y : Note). y.channel) ys) c ∙ ap (λ ds. n.channel ∷ ds) r
    pick false n x ms ys c r = r

channels_append : (o : Options) (ns xs : List Note) → note_channels o (ns ++ xs) ≡ note_channels o ns ++ note_channels o xs
channels_append o [] xs = refl
channels_append o (n ∷ ns) xs = pick (is_part o n.channel) (channels_append o ns xs)
  where
    pick : (b : Bool) → note_channels o (ns ++ xs) ≡ note_channels o ns ++ note_channels o xs → map (λ (y : Note). y.channel)
        (cond b (n ∷ retuned o (ns ++ xs)) (retuned o (ns ++ xs))) ≡ map (λ (y : Note). y.channel)
        (cond b (n ∷ retuned o ns) (retuned o ns)) ++ note_channels o xs
    pick true r = ap (λ ds. n.channel ∷ ds) r
    pick false r = r

-- those that one event begins
abbrev pub begun_channels : Options → MidiWhat → List ℕ
begun_channels o (Says (NoteOn c k (suc v))) = cond (is_part o c) (c ∷ []) []
begun_channels o _ = []

message_channels : (o : Options) (m : Music) (t : ℕ) (msg : Msg) → note_channels o (begun_by m t (Plays msg)) ≡ begun_channels o (Says msg)
message_channels o m t (NoteOn c k zero) = refl
message_channels o m t (NoteOn c k (suc v)) = pick (is_part o c)
  where
    pick : (b : Bool) → map (λ (y : Note). y.channel) (cond b (begun m t c k (suc v) ∷ []) []) ≡ cond b (c ∷ []) []
    pick true = refl
    pick false = refl
message_channels o m t (NoteOff c k v) = refl
message_channels o m t (KeyPressure c k v) = refl
message_channels o m t (Control c n v) = refl
message_channels o m t (Program c p) = refl
message_channels o m t (Pressure c v) = refl
message_channels o m t (Bend c v) = refl

silent_channels : (o : Options) (m : Music) (t : ℕ) (d : Doing) → ((msg : Msg) → d ≡ Plays msg → ⊥) → note_channels o (begun_by m t d) ≡ []
silent_channels o m t (Plays msg) h = absurd (h msg refl)
silent_channels o m t Resets h = refl
silent_channels o m t (Tunes r) h = refl
silent_channels o m t Nothing h = refl

event_channels : (o : Options) (m : Music) (t : ℕ) (w : MidiWhat) → note_channels o (begun_by m t (doing w)) ≡ begun_channels o w
event_channels o m t (Says msg) = message_channels o m t msg
event_channels o m t (SysexOf lead bytes) = silent_channels o m t (doing (SysexOf lead bytes)) (no_message (SysexOf lead bytes) tt)
event_channels o m t (MetaOf kind bytes) = refl

pub step_channels : NotesFade → (o : Options) (m : Music) (e : MidiEvent) → note_channels o (step m e).notes
    ≡ note_channels o m.notes ++ begun_channels o e.what
step_channels law o m e =
    channels_fade o (m.notes ++ begun_by m e.tick (doing e.what)) (step m e).notes (law m e.tick (doing e.what))
    ∙ channels_append o m.notes (begun_by m e.tick (doing e.what))
    ∙ ap (λ ds. note_channels o m.notes ++ ds) (event_channels o m e.tick e.what)

none_channels : (o : Options) (msg : Msg) → NoNote msg → begun_channels o (Says msg) ≡ []
none_channels o (NoteOn c k zero) h = refl
none_channels o (NoteOn c k (suc v)) h = absurd h
none_channels o (NoteOff c k v) h = refl
none_channels o (KeyPressure c k v) h = refl
none_channels o (Control c n v) h = refl
none_channels o (Program c p) h = refl
none_channels o (Pressure c v) h = refl
none_channels o (Bend c v) h = refl

-- messages that begin no note leave the channels
pub quiet_channels : NotesFade → (o : Options) (e : MidiEvent) (ms : List Msg) → NoNotes ms → (m : Music) →
    note_channels o (play m (saying e ms)).notes ≡ note_channels o m.notes
quiet_channels law o e [] h m = refl
quiet_channels law o e (x ∷ xs) h m =
    let y : MidiEvent = record e { what = Says x } in
    quiet_channels law o e xs h.1 (step m y) ∙ step_channels law o m y ∙ ap (λ ds. note_channels o m.notes ++ ds) (none_channels o x h.0)
    ∙ append-nil (note_channels o m.notes)

-- ---- a block

pub part_none : (port : ℕ) (o : Options) (table : Targets) (k : Moment) (before after out : Music) (t : ℕ) (msg : Msg) → NoNote msg →
    NoNotes (part_causes port o table k before after out t msg)
part_none port o table k before after out t (NoteOn c j zero) h = released_none port o table k.old (λ d i. NoteOn d i zero)
    (λ d i. tt) c (pressed_note c j before.notes)
part_none port o table k before after out t (NoteOn c j (suc v)) h = absurd h
part_none port o table k before after out t (NoteOff c j v) h = released_none port o table k.old (λ d i. NoteOff d i v)
    (λ d i. tt) c (pressed_note c j before.notes)
part_none port o table k before after out t (Control c n v) h = controller_none o table after out (held_by k.old c k.holds) n v (role n)
part_none port o table k before after out t (KeyPressure c j v) h = all_none o table after out (held_by k.old c k.holds)
part_none port o table k before after out t (Program c p) h = all_none o table after out (held_by k.old c k.holds)
part_none port o table k before after out t (Pressure c v) h = all_none o table after out (held_by k.old c k.holds)
part_none port o table k before after out t (Bend c v) h = all_none o table after out (held_by k.old c k.holds)

pub none_planned : (port : ℕ) (o : Options) (table : Targets) (place : Pair → ℕ) (t : ℕ) (msg : Msg) → NoNote msg →
    channel_begun port o table place t (Says msg) ≡ []
none_planned port o table place t (NoteOn c k zero) h = refl
none_planned port o table place t (NoteOn c k (suc v)) h = absurd h
none_planned port o table place t (NoteOff c k v) h = refl
none_planned port o table place t (KeyPressure c k v) h = refl
none_planned port o table place t (Control c n v) h = refl
none_planned port o table place t (Program c p) h = refl
none_planned port o table place t (Pressure c v) h = refl
none_planned port o table place t (Bend c v) h = refl

pub setup_none : (o : Options) (table : Targets) (k : Moment) (after out : Music) (p : Pair) (b : Bool) → NoNotes (setup o table k after out p b)
setup_none o table k after out p true = tt
setup_none o table k after out p false = bring_none (k.new p) (state_at out (k.new p)) (wanted o table after p)

-- a note on's block, by its target
struck_channels : NotesFade → (port : ℕ) (o : Options) (table : Targets) (k : Moment) (after out : Music) (e : MidiEvent) (c v : ℕ)
    (x : Option BendTarget) → ((t : BendTarget) → x ≡ Some t → is_part o (k.new (pair_with port c t)) ≡ true) →
    note_channels o (play out (saying e (strikes port o table k after out c (suc v) x))).notes ≡ note_channels o out.notes ++ on_target port k.new c x
struck_channels law port o table k after out e c v None h = sym (append-nil (note_channels o out.notes))
struck_channels law port o table k after out e c v (Some t) h =
    let p : Pair = pair_with port c t in
    let ms : List Msg = setup o table k after out p (is_member is_same_pair k.was p) in
    let m : Music = play out (saying e ms) in
    let y : MidiEvent = record e { what = Says (NoteOn (k.new p) t.key (suc v)) } in
    ap (λ (z : Music). note_channels o z.notes) (play_saying out e ms (NoteOn (k.new p) t.key (suc v) ∷ [])) ∙ step_channels law o m y
    ∙ ap (λ ds. ds ++ begun_channels o y.what) (quiet_channels law o e ms (setup_none o table k after out p (is_member is_same_pair k.was p)) out)
    ∙ ap (λ b. note_channels o out.notes ++ cond b (k.new p ∷ []) []) (h t refl)

pub is_note : (msg : Msg) → NoNote msg ⊎ ((c : ℕ) × (j : ℕ) × (v : ℕ) × (msg ≡ NoteOn c j (suc v)))
is_note (NoteOn c k zero) = inl tt
is_note (NoteOn c k (suc v)) = inr (c, k, v, refl)
is_note (NoteOff c k v) = inl tt
is_note (KeyPressure c k v) = inl tt
is_note (Control c n v) = inl tt
is_note (Program c p) = inl tt
is_note (Pressure c v) = inl tt
is_note (Bend c v) = inl tt

-- the channel of each pair is a part's
abbrev pub Placed : ℕ → Options → Targets → Moment → ℕ → MidiWhat → Type 0
Placed port o table k t (Says (NoteOn c j (suc v))) = is_part o c ≡ true → (x : BendTarget) → bend_target_if o.range (table j t) ≡ Some x →
    is_part o (k.new (pair_with port c x)) ≡ true
Placed port o table k t _ = Unit {0}

-- a kept drum is on no channel of a part
pub drum_same : (port : ℕ) (o : Options) (table : Targets) (place : Pair → ℕ) (t : ℕ) (m : Msg) → is_part o (channel_of m) ≡ false →
    begun_channels o (Says m) ≡ channel_begun port o table place t (Says m)
drum_same port o table place t (NoteOn c j zero) h = refl
drum_same port o table place t (NoteOn c j (suc v)) h = ap (λ b. cond b (c ∷ []) []) h
    ∙ ap (λ b. cond b (on_target port place c (bend_target_if o.range (table j t))) []) (sym h)
drum_same port o table place t (NoteOff c j v) h = refl
drum_same port o table place t (KeyPressure c j v) h = refl
drum_same port o table place t (Control c n v) h = refl
drum_same port o table place t (Program c p) h = refl
drum_same port o table place t (Pressure c v) h = refl
drum_same port o table place t (Bend c v) h = refl

message_block : NotesFade → (port : ℕ) (o : Options) (table : Targets) (k : Moment) (before out : Music) (t track : ℕ) (msg : Msg) →
    Placed port o table k t (Says msg) →
    note_channels o (play out (port_block port o table k before out (said_at t track msg))).notes
    ≡ note_channels o out.notes ++ channel_begun port o table k.new t (Says msg)
message_block law port o table k before out t track msg placed = elim (cases_Bool (is_part o (channel_of msg))) [
  | inr drum ↦ ap (λ es. note_channels o (play out es).notes) (drum_block port o table k before out t track msg drum)
      ∙ step_channels law o out (said_at t track msg) ∙ ap (λ ds. note_channels o out.notes ++ ds) (drum_same port o table k.new t msg drum)
  | inl part ↦ elim (is_note msg) [
    | inl none ↦ ap (λ es. note_channels o (play out es).notes)
        (part_block port o table k before out t track msg (part_causes port o table k before
        (step before (said_at t track msg)) out t msg) part refl)
        ∙ quiet_channels law o (said_at t track msg) (part_causes port o table k before (step before (said_at t track msg)) out t msg)
        (part_none port o table k before (step before (said_at t track msg)) out t msg none) out
        ∙ sym (append-nil (note_channels o out.notes)) ∙ ap (λ ds. note_channels o out.notes ++ ds) (sym (none_planned port o table k.new t msg none))
    | inr (c, j, v, e) ↦ subst Goal (sym e) (λ p h. struck c j v p h) part placed
  ]
]
  where
    Goal : Msg → Type 0
    Goal m = is_part o (channel_of m) ≡ true → Placed port o table k t (Says m) →
        note_channels o (play out (port_block port o table k before out (said_at t track m))).notes
        ≡ note_channels o out.notes ++ channel_begun port o table k.new t (Says m)

    struck : (c j v : ℕ) → is_part o c ≡ true → (is_part o c ≡ true → (x : BendTarget) → bend_target_if o.range (table j t) ≡ Some x →
        is_part o (k.new (pair_with port c x)) ≡ true) →
        note_channels o (play out (port_block port o table k before out (said_at t track (NoteOn c j (suc v))))).notes
        ≡ note_channels o out.notes ++ cond (is_part o c) (on_target port k.new c (bend_target_if o.range (table j t))) []
    struck c j v p h =
        let e : MidiEvent = said_at t track (NoteOn c j (suc v)) in
        ap (λ es. note_channels o (play out es).notes) (part_block port o table k before out t track (NoteOn c j (suc v))
        (strikes port o table k (step before e) out c (suc v) (bend_target_if o.range (table j t))) p refl)
        ∙ struck_channels law port o table k (step before e) out e c v (bend_target_if o.range (table j t)) (h p)
        ∙ ap (λ b. note_channels o out.notes ++ cond b (on_target port k.new c (bend_target_if o.range (table j t))) []) (sym p)

pub block_channels : NotesFade → (port : ℕ) (o : Options) (table : Targets) (k : Moment) (before out : Music) (t track : ℕ) (w : MidiWhat) →
    Placed port o table k t w →
    note_channels o (play out (port_block port o table k before out (port_event t track w))).notes
    ≡ note_channels o out.notes ++ channel_begun port o table k.new t w
block_channels law port o table k before out t track (Says msg) placed = message_block law port o table k before out t track msg placed
block_channels law port o table k before out t track (SysexOf lead bytes) placed = step_channels law o out (port_event t track (SysexOf lead bytes))
block_channels law port o table k before out t track (MetaOf kind bytes) placed = step_channels law o out (port_event t track (MetaOf kind bytes))
