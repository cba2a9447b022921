-- Where drums are kept but the source has none, no note is on channel 10 on either side, so it is the same which of the two ways its
-- notes are told apart.
use Rattle.std.proofs.Common.{◌≡◌, ◌≢◌, ◌≤◌, ℕ, zero, suc, Bool, true, false, cond, ◌&&◌, not, nat_eq, nat_le, List, [], ◌∷◌, ◌++◌, Option, Some, None, refl, ap, sym, ◌∙◌, subst, filter, arith, inl, inr}
use Rattle.std.specs.List.{AllByRecursion}
use Rattle.std.proofs.lemmas.Bool.{cases_Bool, cond_both, or_parts}
use Rattle.mt_base.specs.declared.event.Msg.{Msg}
use Rattle.mt_base.specs.declared.event.Msg.TheVariants.{NoteOn, NoteOff, KeyPressure, Control, Program, Pressure, Bend}
use Rattle.mt_base.specs.Midi.{MidiWhat, Says, SysexOf, MetaOf, MidiEvent, channel_of}
use Rattle.midi_model.specs.Sysex.{Doing, Plays, Resets, Tunes, Nothing, doing}
use Rattle.midi_model.specs.Channel.{State}
use Rattle.midi_model.specs.Notes.{Note, sounds}
use Rattle.midi_model.specs.Music.{Music, quiet, step, play}
use Rattle.midi_model.specs.MusicLaws.{AllFade, begun_by, NotesFade}
use Rattle.midi_model.specs.Receiver.{start, after}
use Rattle.retune_model.specs.Table.{Scaling}
use Rattle.retune_model.specs.Options.{Options, is_drum_message, has_drums, keeps_drums, is_retuned}
use Rattle.retune_model.specs.PlaysTheSame.{Pairwise, until, at_tick, retuned_notes, IsSameNote, SoundsTheSame, begins_note, last_note, beginnings_from, beginnings, BeginsAlike, output_key, HasSameNotes, HasSameSound, BeginsTheSame, PlaysTheSameMusic, plain_device}
use Rattle.retune_model.specs.Faults.{Targets}
use Rattle.retune_model.specs.Ports.{Numbered, unnumbered}
use Rattle.channel_model.specs.BendOutput.{PortRuns}
use Rattle.bend_laws.specs.Moments.{port_block, moment, port_output}
use Rattle.bend_laws.specs.Follows.{AreUsed}
use Rattle.bend_laws.specs.Positions.{port_event, both_at}
use Rattle.bend_laws.proofs.Planning.{block_if, blocks_to, IsPlanned}
use Rattle.bend_laws.proofs.Ticks.{AreTimely}
use Rattle.bend_laws.proofs.Lists.{all_append}
use Rattle.bend_laws.proofs.Playing.{saying}
use Rattle.bend_laws.proofs.Given.{Laws}
use Rattle.bend_laws.proofs.Still.{no_message}
use Rattle.midi_model.proofs.Same.{music_all}
use Rattle.bend_laws.proofs.Opening.{all_blocks}
use Rattle.bend_laws.proofs.Righting.{IsRight, Shaped, shaped_at, no_drum}

-- ---- events

abbrev pub NoDrums : List MidiEvent → Type 0
NoDrums es = AllByRecursion (λ e. is_drum_message e.what ≡ false) es

pub none_has : (es : List MidiEvent) → has_drums es ≡ false → NoDrums es
none_has [] h = tt
none_has (e ∷ es) h = let g = or_parts (is_drum_message e.what) (has_drums es) h in (g.0, none_has es g.1)

-- the event at a position is one of them
pub is_one : (P : MidiEvent → Type 0) (ns : List Numbered) → AllByRecursion P (unnumbered ns) → (k : ℕ) (e : MidiEvent) → port_event ns k ≡ Some e → P e
is_one P [] h k e is = absurd cc
is_one P (n ∷ ns) h k e is = pick (nat_eq n.position k) is (λ g. is_one P ns h.1 k e g)
  where
    pick : (b : Bool) → cond b (Some n.event) (port_event ns k) ≡ Some e → (port_event ns k ≡ Some e → P e) → P e
    pick true g f = subst P (let same : n.event ≡ e = cc in same) h.0
    pick false g f = f g

shaped_none : (o : Options) (used : ℕ → Bool) → o.keep_drums ≡ true → (e : MidiEvent) (block : List MidiEvent) → is_drum_message e.what ≡ false →
    Shaped o used e block → NoDrums block
shaped_none o used keep e block h (inl i) = subst NoDrums (sym i.is) (h, tt)
shaped_none o used keep e block h (inr c) = subst NoDrums (sym c.is) (all_said c.messages c.right)
  where
    all_said : (ms : List Msg) → AllByRecursion (IsRight o used) ms → NoDrums (saying e ms)
    all_said [] r = tt
    all_said (m ∷ ms) r = (no_drum o (channel_of m) keep r.0.1.0, all_said ms r.1)

none_to : (Good : State → Type 0) → Laws Good → (o : Options) (table : Targets) (used : ℕ → Bool) → AreUsed o used → (plan : PortRuns)
    (ns : List Numbered) (last : ℕ) → IsPlanned Good o table used plan ns last → o.keep_drums ≡ true → NoDrums (unnumbered ns) → (k : ℕ) →
    k ≤ last →
    NoDrums (blocks_to o table plan ns k)
none_to Good laws o table used row plan ns last given keep none zero low = tt
none_to Good laws o table used row plan ns last given keep none (suc k) low =
    all_append (λ e. is_drum_message e.what ≡ false) (blocks_to o table plan ns k) (block_if plan.number o table (moment plan k)
    (both_at o table plan ns k) (port_event ns (suc k)))
    (none_to Good laws o table used row plan ns last given keep none k (omega (arith, low))) (go (port_event ns (suc k)) refl)
  where
    go : (x : Option MidiEvent) → port_event ns (suc k) ≡ x → NoDrums (block_if plan.number o table (moment plan k) (both_at o table plan ns k) x)
    go None is = tt
    go (Some e) is = shaped_none o used keep e (port_block plan.number o table (moment plan k)
        (both_at o table plan ns k).source (both_at o table plan ns k).out e) (is_one (λ x. is_drum_message x.what ≡ false) ns none (suc k) e is)
        (shaped_at Good laws o table used row plan ns last given k low e is)

-- ---- notes

abbrev pub NoDrumNotes : List Note → Type 0
NoDrumNotes ns = AllByRecursion (λ (n : Note). nat_eq n.channel 9 ≡ false) ns

faded_none : (ns xs : List Note) → AllFade ns xs → NoDrumNotes ns → NoDrumNotes xs
faded_none [] [] h g = tt
faded_none [] (x ∷ xs) h g = absurd h
faded_none (n ∷ ns) [] h g = absurd h
faded_none (n ∷ ns) (x ∷ xs) h g = (ap (λ c. nat_eq c 9) h.0.channel ∙ g.0, faded_none ns xs h.1 g.1)

silent_none : (m : Music) (t : ℕ) (d : Doing) → ((msg : Msg) → d ≢ Plays msg) → NoDrumNotes (begun_by m t d)
silent_none m t (Plays msg) h = absurd (h msg refl)
silent_none m t Resets h = tt
silent_none m t (Tunes r) h = tt
silent_none m t Nothing h = tt

message_none : (m : Music) (t : ℕ) (msg : Msg) → nat_eq (channel_of msg) 9 ≡ false → NoDrumNotes (begun_by m t (Plays msg))
message_none m t (NoteOn c k zero) h = tt
message_none m t (NoteOn c k (suc v)) h = (h, tt)
message_none m t (NoteOff c k v) h = tt
message_none m t (KeyPressure c k v) h = tt
message_none m t (Control c n v) h = tt
message_none m t (Program c p) h = tt
message_none m t (Pressure c v) h = tt
message_none m t (Bend c v) h = tt

begun_none : (m : Music) (t : ℕ) (w : MidiWhat) → is_drum_message w ≡ false → NoDrumNotes (begun_by m t (doing w))
begun_none m t (Says msg) h = message_none m t msg h
begun_none m t (SysexOf lead bytes) h = silent_none m t (doing (SysexOf lead bytes)) (no_message (SysexOf lead bytes) tt)
begun_none m t (MetaOf kind bytes) h = tt

pub played_none : NotesFade → (m : Music) (es : List MidiEvent) → NoDrums es → NoDrumNotes m.notes → NoDrumNotes (play m es).notes
played_none law m [] h g = g
played_none law m (e ∷ es) h g =
    played_none law (step m e) es h.1
    (faded_none (m.notes ++ begun_by m e.tick (doing e.what)) (step m e).notes (law m e.tick (doing e.what))
    (all_append (λ (n : Note). nat_eq n.channel 9 ≡ false) m.notes (begun_by m e.tick (doing e.what)) g (begun_none m e.tick e.what h.0)))

until_none : (t : ℕ) (es : List MidiEvent) → NoDrums es → NoDrums (until t es)
until_none t [] h = tt
until_none t (e ∷ es) h = cond_both (nat_le e.tick t) (e ∷ until t es) (until t es) NoDrums (λ k. (h.0, until_none t es h.1))
    (λ k. until_none t es h.1)

tick_none : NotesFade → (t : ℕ) (es : List MidiEvent) → NoDrums es → NoDrumNotes (at_tick t es).music.notes
tick_none law t es h = subst (λ (m : Music). NoDrumNotes m.notes) (sym (music_all start (until t es)))
    (played_none law quiet (until t es) (until_none t es h) tt)

-- ---- the two tests agree elsewhere

pub either : (a b : Bool) (c : ℕ) → nat_eq c 9 ≡ false → is_retuned a c ≡ is_retuned b c
either true true c h = refl
either false false c h = refl
either true false c h = ap not h
either false true c h = sym (ap not h)

either_notes : (a b : Bool) (ns : List Note) → NoDrumNotes ns → filter (λ (n : Note). is_retuned a n.channel) ns
    ≡ filter (λ (n : Note). is_retuned b n.channel) ns
either_notes a b [] h = refl
either_notes a b (n ∷ ns) h =
    ap (λ x. cond x (n ∷ filter (λ (y : Note). is_retuned a y.channel) ns) (filter (λ (y : Note). is_retuned a y.channel) ns))
    (either a b n.channel h.0)
    ∙ ap (λ ys. cond (is_retuned b n.channel) (n ∷ ys) ys) (either_notes a b ns h.1)

either_message : (a b : Bool) (msg : Msg) → nat_eq (channel_of msg) 9 ≡ false → begins_note (is_retuned a) (Says msg) ≡ begins_note (is_retuned b)
    (Says msg)
either_message a b (NoteOn c k zero) h = refl
either_message a b (NoteOn c k (suc v)) h = either a b c h
either_message a b (NoteOff c k v) h = refl
either_message a b (KeyPressure c k v) h = refl
either_message a b (Control c n v) h = refl
either_message a b (Program c p) h = refl
either_message a b (Pressure c v) h = refl
either_message a b (Bend c v) h = refl

either_begins : (a b : Bool) (w : MidiWhat) → is_drum_message w ≡ false → begins_note (is_retuned a) w ≡ begins_note (is_retuned b) w
either_begins a b (Says msg) h = either_message a b msg h
either_begins a b (SysexOf lead bytes) h = refl
either_begins a b (MetaOf kind bytes) h = refl

either_beginnings : (a b : Bool) (before es : List MidiEvent) → NoDrums es → beginnings_from (is_retuned a) before es
    ≡ beginnings_from (is_retuned b) before es
either_beginnings a b before [] h = refl
either_beginnings a b before (e ∷ es) h =
    let now : List MidiEvent = before ++ e ∷ [] in
    ap (λ x. cond x (last_note now e.track (after now).music.notes) [] ++ beginnings_from (is_retuned a) now es) (either_begins a b e.what h.0)
    ∙ ap (λ ys. cond (begins_note (is_retuned b) e.what) (last_note now e.track (after now).music.notes) [] ++ ys) (either_beginnings a b now es h.1)

-- ---- the three sentences

pub record AreSame (scaling : Scaling) (o : Options) (table : Targets) (drums : Bool) (source out : List MidiEvent) : Type 0 where
  pub notes : HasSameNotes (output_key o table) (is_retuned drums) source out
  pub sound : HasSameSound scaling o (plain_device o) (is_retuned drums) source out
  pub beginnings : BeginsTheSame scaling o (plain_device o) (is_retuned drums) source out

either_same : NotesFade → (scaling : Scaling) (o : Options) (table : Targets) (a b : Bool) (source out : List MidiEvent) → NoDrums source →
    NoDrums out → AreSame scaling o table a source out → AreSame scaling o table b source out
either_same law scaling o table a b source out none_source none_out h = record {
  notes = λ t. subst (λ xs. Pairwise (IsSameNote (output_key o table)) xs (retuned_notes (is_retuned b) (at_tick t out)))
      (either_notes a b (at_tick t source).music.notes (tick_none law t source none_source))
      (subst (Pairwise (IsSameNote (output_key o table)) (retuned_notes (is_retuned a) (at_tick t source)))
      (either_notes a b (at_tick t out).music.notes (tick_none law t out none_out)) (h.notes t));
  sound = λ t.
      let R : Note → Note → Type 0 = λ x y. sounds x ≡ true → SoundsTheSame scaling o (plain_device o) (until t source) (until t out) x y in
      subst (λ xs. Pairwise R xs (retuned_notes (is_retuned b) (at_tick t out)))
      (either_notes a b (at_tick t source).music.notes (tick_none law t source none_source))
      (subst (Pairwise R (retuned_notes (is_retuned a) (at_tick t source)))
      (either_notes a b (at_tick t out).music.notes (tick_none law t out none_out)) (h.sound t));
  beginnings = subst (λ xs. Pairwise (BeginsAlike scaling o (plain_device o)) xs (beginnings (is_retuned b) out))
      (either_beginnings a b [] source none_source)
      (subst (Pairwise (BeginsAlike scaling o (plain_device o)) (beginnings (is_retuned a) source))
      (either_beginnings a b [] out none_out) h.beginnings);
}

pub and_true : (a b : Bool) → b ≡ true → (a && b) ≡ a
and_true true b h = h
and_true false b h = refl

and_none : (a b : Bool) → a ≡ false → (a && b) ≡ a
and_none true b h = absurd cc
and_none false b h = refl

pub plays_same_music : (Good : State → Type 0) → Laws Good → (scaling : Scaling) (o : Options) (table : Targets) (used : ℕ → Bool) →
    AreUsed o used → (plan : PortRuns) (ns : List Numbered) (last : ℕ) → IsPlanned Good o table used plan ns last → AreTimely ns last →
    AreSame scaling o table o.keep_drums (unnumbered ns) (port_output o table plan quiet quiet ns) →
    PlaysTheSameMusic scaling o table (plain_device o) (unnumbered ns) (port_output o table plan quiet quiet ns)
plays_same_music Good laws scaling o table used row plan ns last given timely h =
    let source : List MidiEvent = unnumbered ns in
    let out : List MidiEvent = port_output o table plan quiet quiet ns in
    let S : Bool → Type 0 = λ d. AreSame scaling o table d source out in
    let is : S (keeps_drums o source) = elim (cases_Bool (has_drums source)) [
      | inl some ↦ subst S (sym (and_true o.keep_drums (has_drums source) some)) h
      | inr none ↦ elim (cases_Bool o.keep_drums) [
        | inr lost ↦ subst S (sym (and_none o.keep_drums (has_drums source) lost)) h
        | inl keep ↦ either_same laws.fade scaling o table o.keep_drums (keeps_drums o source) source out (none_has source none)
            (subst NoDrums (all_blocks o table plan ns last timely)
            (none_to Good laws o table used row plan ns last given keep (none_has source none) last (omega arith))) h
      ]
    ] in
    record { notes = is.notes; sound = is.sound; beginnings = is.beginnings }

-- ---- the output's retuned notes, whichever way they are told apart

pub notes_either : (Good : State → Type 0) → Laws Good → (o : Options) (table : Targets) (used : ℕ → Bool) → AreUsed o used → (plan : PortRuns)
    (ns : List Numbered) (last : ℕ) → IsPlanned Good o table used plan ns last → AreTimely ns last →
    filter (λ (n : Note). is_retuned (keeps_drums o (unnumbered ns)) n.channel) (play quiet (port_output o table plan quiet quiet ns)).notes
    ≡ filter (λ (n : Note). is_retuned o.keep_drums n.channel) (play quiet (port_output o table plan quiet quiet ns)).notes
notes_either Good laws o table used row plan ns last given timely =
    let source : List MidiEvent = unnumbered ns in
    let out : List MidiEvent = port_output o table plan quiet quiet ns in
    let played : List Note = (play quiet out).notes in
    let S : Bool → Type 0 =
    λ d. filter (λ (n : Note). is_retuned d n.channel) played ≡ filter (λ (n : Note). is_retuned o.keep_drums n.channel) played in
    elim (cases_Bool (has_drums source)) [
      | inl some ↦ subst S (sym (and_true o.keep_drums (has_drums source) some)) refl
      | inr none ↦ elim (cases_Bool o.keep_drums) [
        | inr lost ↦ subst S (sym (and_none o.keep_drums (has_drums source) lost)) refl
        | inl keep ↦ either_notes (keeps_drums o source) o.keep_drums played (played_none laws.fade quiet out
            (subst NoDrums (all_blocks o table plan ns last timely)
            (none_to Good laws o table used row plan ns last given keep (none_has source none) last (omega arith))) tt)
      ]
    ]
