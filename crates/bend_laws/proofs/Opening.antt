-- Each retuned note is heard within the bound of its source pitch right from its beginning, in a track of the same number.
use Rattle.std.proofs.Common.{◌≡◌, ◌≤◌, ℕ, zero, suc, Bool, true, false, cond, List, [], ◌∷◌, ◌++◌, Option, Some, None, refl, ap, sym, ◌∙◌, subst, append_assoc, map, arith, inl, inr}
use Rattle.std.specs.List.{AllByRecursion}
use Rattle.std.specs.Set.{is_member}
use Rattle.std.proofs.lemmas.Bool.{cases_Bool, le-leb}
use Rattle.std.proofs.lemmas.List.{append-nil}
use Rattle.std.proofs.lemmas.List.Elements.{filter-append}
use Rattle.retune_model.specs.Pairs.{Pair, is_same_pair}
use Rattle.mt_base.specs.declared.event.Msg.{Msg}
use Rattle.mt_base.specs.declared.event.Msg.TheVariants.{NoteOn, NoteOff, KeyPressure, Control, Program, Pressure, Bend}
use Rattle.mt_base.specs.Midi.{MidiWhat, Says, SysexOf, MetaOf, MidiEvent, channel_of}
use Rattle.midi_model.specs.WellFormed.{IsWellFormed}
use Rattle.midi_model.specs.Sysex.{Plays}
use Rattle.midi_model.specs.ParameterLaws.{PutGivesTheValue, PutLeavesTheOthers}
use Rattle.midi_model.specs.Zones.{no_zones}
use Rattle.midi_model.specs.Notes.{Note, sounds, cut_off, Fades}
use Rattle.midi_model.specs.Music.{Music, quiet, begun, step, play}
use Rattle.midi_model.specs.MusicLaws.{IsSettled, AllFade, NotesFade}
use Rattle.midi_model.specs.Tuning.{selected_of}
use Rattle.midi_model.specs.Receiver.{Receiver, start, receive, after}
use Rattle.retune_model.specs.Table.{Scaling, BendTarget}
use Rattle.retune_model.specs.Options.{Options}
use Rattle.retune_model.specs.PlaysTheSame.{Pairwise, SoundsTheSame, Beginning, begins_note, last_note, beginning, beginnings_from, beginnings, BeginsAlike, BeginsTheSame, plain_device}
use Rattle.retune_model.specs.Faults.{Targets, is_part}
use Rattle.retune_model.specs.Ports.{Numbered, unnumbered, Ascend}
use Rattle.channel_model.specs.BendOutput.{pair_with, PortRuns}
use Rattle.state_laws.specs.HeardLaws.{KeepsTheTuning}
use Rattle.bend_laws.specs.Moments.{Moment, Both, setup, strikes, part_causes, port_block, moment, port_output}
use Rattle.bend_laws.specs.Follows.{IsGiven, AreUsed, Follows}
use Rattle.bend_laws.specs.Positions.{port_event, both_next, both_at, up_to_position}
use Rattle.bend_laws.proofs.Planning.{block_if, blocks_to, IsPlanned}
use Rattle.bend_laws.specs.Simulation.{retuned}
use Rattle.bend_laws.proofs.Ticks.{AreTimely}
use Rattle.bend_laws.proofs.Lists.{map_append, pair_append}
use Rattle.bend_laws.proofs.Playing.{saying, saying_append}
use Rattle.bend_laws.proofs.Given.{Laws, IsFine, fine}
use Rattle.bend_laws.proofs.Changing.{said_at, part_block}
use Rattle.bend_laws.proofs.Elsewhere.{drum_block}
use Rattle.bend_laws.proofs.Striking.{new_note, strikes_note, aimed}
use Rattle.bend_laws.proofs.Simulates.{source_is, sound_at, follows_at}
use Rattle.bend_laws.proofs.Planned.{NoNote, NoNotes, part_none, setup_none, is_note}
use Rattle.bend_laws.proofs.Shown.{begun_there}
use Rattle.bend_laws.proofs.Outputs.{none_yet, numbered_at, one_more, events_if, event_listed, out_is, source_is_played, blocks_are}
use Rattle.midi_model.proofs.Same.{music_all}
use Rattle.bend_laws.proofs.Pitching.{Scales}
use Rattle.bend_laws.proofs.Hearing.{sound_at_position}
use Rattle.bend_laws.proofs.Untuning.{all_receive, blocks_quiet}
use Rattle.bend_laws.proofs.Bridge.{ReceiversStay}

-- ---- beginnings of lists

pub begin_append : (part : ℕ → Bool) (b xs ys : List MidiEvent) → beginnings_from part b (xs ++ ys)
    ≡ beginnings_from part b xs ++ beginnings_from part (b ++ xs) ys
begin_append part b [] ys = ap (λ zs. beginnings_from part zs ys) (sym (append-nil b))
begin_append part b (x ∷ xs) ys =
    let now : List MidiEvent = b ++ x ∷ [] in
    ap (λ zs. beginning part now x ++ zs) (begin_append part now xs ys)
    ∙ sym (append_assoc (beginning part now x) (beginnings_from part now xs) (beginnings_from part (now ++ xs) ys))
    ∙ ap (λ zs. (beginning part now x ++ beginnings_from part now xs) ++ beginnings_from part zs ys) (append_assoc b (x ∷ []) xs)

pub none_begins : (part : ℕ → Bool) (msg : Msg) → NoNote msg → begins_note part (Says msg) ≡ false
none_begins part (NoteOn c k zero) h = refl
none_begins part (NoteOn c k (suc v)) h = absurd h
none_begins part (NoteOff c k v) h = refl
none_begins part (KeyPressure c k v) h = refl
none_begins part (Control c n v) h = refl
none_begins part (Program c p) h = refl
none_begins part (Pressure c v) h = refl
none_begins part (Bend c v) h = refl

no_beginning : (part : ℕ → Bool) (now : List MidiEvent) (e : MidiEvent) → begins_note part e.what ≡ false → beginning part now e ≡ []
no_beginning part now e h = ap (λ b. cond b (last_note now e.track (after now).music.notes) []) h

pub no_beginnings : (part : ℕ → Bool) (b : List MidiEvent) (e : MidiEvent) (ms : List Msg) → NoNotes ms → beginnings_from part b (saying e ms) ≡ []
no_beginnings part b e [] h = refl
no_beginnings part b e (m ∷ ms) h =
    let x : MidiEvent = record e { what = Says m } in
    let now : List MidiEvent = b ++ x ∷ [] in
    ap (λ zs. zs ++ beginnings_from part now (saying e ms)) (no_beginning part now x (none_begins part m h.0)) ∙ no_beginnings part now e ms h.1

pub drum_begins : (o : Options) (msg : Msg) → is_part o (channel_of msg) ≡ false → begins_note (is_part o) (Says msg) ≡ false
drum_begins o (NoteOn c k zero) h = refl
drum_begins o (NoteOn c k (suc v)) h = h
drum_begins o (NoteOff c k v) h = refl
drum_begins o (KeyPressure c k v) h = refl
drum_begins o (Control c n v) h = refl
drum_begins o (Program c p) h = refl
drum_begins o (Pressure c v) h = refl
drum_begins o (Bend c v) h = refl

-- ---- the last note

abbrev one_beginning : List MidiEvent → ℕ → Note → List Beginning
one_beginning es track n = record { events = es; note = n; track = track } ∷ []

last_end : (es : List MidiEvent) (track : ℕ) (xs : List Note) (n : Note) → last_note es track (xs ++ n ∷ []) ≡ one_beginning es track n
last_end es track [] n = refl
last_end es track (x ∷ []) n = refl
last_end es track (x ∷ y ∷ ys) n = last_end es track (y ∷ ys) n

pair_end : (R : Note → Note → Type 0) (xs ys : List Note) (a b : Note) → Pairwise R (xs ++ a ∷ []) (ys ++ b ∷ []) → R a b
pair_end R [] [] a b h = h.0
pair_end R [] (y ∷ []) a b h = absurd h.1
pair_end R [] (y ∷ z ∷ ys) a b h = absurd h.1
pair_end R (x ∷ []) [] a b h = absurd h.1
pair_end R (x ∷ z ∷ xs) [] a b h = absurd h.1
pair_end R (x ∷ xs) (y ∷ ys) a b h = pair_end R xs ys a b h.1

record EndsIn (n : Note) (xs : List Note) : Type 0 where
  front : List Note
  note : Note
  is : xs ≡ front ++ note ∷ []
  fades : Fades n note

faded_end : (ns : List Note) (n : Note) (xs : List Note) → AllFade (ns ++ n ∷ []) xs → EndsIn n xs
faded_end [] n [] h = absurd h
faded_end [] n (x ∷ []) h = record { front = []; note = x; is = refl; fades = h.0 }
faded_end [] n (x ∷ y ∷ ys) h = absurd h.1
faded_end (m ∷ ms) n [] h = absurd h
faded_end (m ∷ ms) n (x ∷ xs) h = let r : EndsIn n xs = faded_end ms n xs h.1 in record {
  front = x ∷ r.front;
  note = r.note;
  is =
      ap (λ zs. x ∷ zs) r.is;
  fades = r.fades;
}

retuned_end : (o : Options) (xs : List Note) (n : Note) → is_part o n.channel ≡ true → retuned o (xs ++ n ∷ []) ≡ retuned o xs ++ n ∷ []
retuned_end o xs n part = filter-append (λ x. is_part o x.channel) xs (n ∷ []) ∙ ap (λ b. retuned o xs ++ cond b (n ∷ []) []) part

-- ---- one block

-- once two lists of events have come, the retuned notes that sound are heard alike
abbrev pub HeardAlike : Scaling → Options → List MidiEvent → List MidiEvent → Type 0
HeardAlike scaling o es xs =
    Pairwise (λ x y. sounds x ≡ true → SoundsTheSame scaling o (plain_device o) es xs x y) (retuned o (after es).music.notes)
    (retuned o (after xs).music.notes)

abbrev pub StartAlike : Scaling → Options → List Beginning → List Beginning → Type 0
StartAlike scaling o xs ys = Pairwise (BeginsAlike scaling o (plain_device o)) xs ys

-- a new note, behind messages that begin none
pub struck_alike : NotesFade → (scaling : Scaling) (o : Options) (es xs : List MidiEvent) (t track c j v d i : ℕ) (ms : List Msg) →
    is_part o c ≡ true → is_part o d ≡ true → NoNotes ms →
    (after es).music.zones ≡ no_zones → IsSettled (after es).music →
    (let e : MidiEvent = said_at t track (NoteOn c j (suc v)) in let block : List MidiEvent = saying e (ms ++ NoteOn d i (suc v) ∷ []) in
    HeardAlike scaling o (es ++ e ∷ []) (xs ++ block) → StartAlike scaling o (beginnings_from (is_part o) es (e ∷ []))
    (beginnings_from (is_part o) xs block))
struck_alike law scaling o es xs t track c j v d i ms part there none z settled h =
    let e : MidiEvent = said_at t track (NoteOn c j (suc v)) in
    let y : MidiEvent = said_at t track (NoteOn d i (suc v)) in
    let block : List MidiEvent = saying e (ms ++ NoteOn d i (suc v) ∷ []) in
    let zs : List MidiEvent = xs ++ saying e ms in
    let es1 : List MidiEvent = es ++ e ∷ [] in
    let xs1 : List MidiEvent = zs ++ y ∷ [] in
    let x : Receiver = after zs in
    let parted : block ≡ saying e ms ++ y ∷ [] = saying_append e ms (NoteOn d i (suc v) ∷ []) in
    let reached : xs ++ block ≡ xs1 = ap (λ q. xs ++ q) parted ∙ sym (append_assoc xs (saying e ms) (y ∷ [])) in
    let rs1 : after es1 ≡ receive (after es) e = all_receive start es (e ∷ []) in
    let ro1 : after xs1 ≡ receive x y = all_receive start zs (y ∷ []) in
    let n : Note = new_note (after es).music t c j (suc v) in
    let front : List Note = map (cut_off t c j) (after es).music.notes in
    let source : (after es1).music.notes ≡ front ++ n ∷ [] = ap (λ (r : Receiver). r.music.notes) rs1 ∙ ap (λ (m : Music). m.notes)
    (strikes_note (after es).music t c j v z settled) in
    let end : EndsIn (begun x.music t d i (suc v)) (receive x y).music.notes =
    faded_end x.music.notes (begun x.music t d i (suc v)) (receive x y).music.notes (law x.music t (Plays (NoteOn d i (suc v)))) in
    let end_is : (after xs1).music.notes ≡ end.front ++ end.note ∷ [] = ap (λ (r : Receiver). r.music.notes) ro1 ∙ end.is in
    let on : is_part o end.note.channel ≡ true = ap (is_part o) end.fades.channel ∙ there in
    let R : Note → Note → Type 0 = λ a b. sounds a ≡ true → SoundsTheSame scaling o (plain_device o) es1 xs1 a b in
    let heard : Pairwise R (retuned o (after es1).music.notes) (retuned o (after xs1).music.notes) = subst (HeardAlike scaling o es1) reached h in
    let ends : Pairwise R (retuned o front ++ n ∷ []) (retuned o end.front ++ end.note ∷ []) =
    subst (λ ys. Pairwise R (retuned o front ++ n ∷ []) ys) (ap (retuned o) end_is ∙ retuned_end o end.front end.note on)
    (subst (λ qs. Pairwise R qs (retuned o (after xs1).music.notes)) (ap (retuned o) source ∙ retuned_end o front n part) heard) in
    let alike : SoundsTheSame scaling o (plain_device o) es1 xs1 n end.note = pair_end R (retuned o front)
    (retuned o end.front) n end.note ends refl in
    let left : beginnings_from (is_part o) es (e ∷ []) ≡ one_beginning es1 track n =
    ap (λ b. cond b (last_note es1 track (after es1).music.notes) [] ++ []) part ∙ append-nil (last_note es1 track (after es1).music.notes)
    ∙ ap (last_note es1 track) source ∙ last_end es1 track front n in
    let right : beginnings_from (is_part o) xs block ≡ one_beginning xs1 track end.note =
    ap (beginnings_from (is_part o) xs) parted ∙ begin_append (is_part o) xs (saying e ms) (y ∷ [])
    ∙ ap (λ q. q ++ beginnings_from (is_part o) zs (y ∷ [])) (no_beginnings (is_part o) xs e ms none)
    ∙ ap (λ b. cond b (last_note xs1 track (after xs1).music.notes) [] ++ []) there ∙ append-nil (last_note xs1 track (after xs1).music.notes)
    ∙ ap (last_note xs1 track) end_is
    ∙ last_end xs1 track end.front end.note in
    subst (λ q. StartAlike scaling o q (beginnings_from (is_part o) xs block)) (sym left)
    (subst (λ q. StartAlike scaling o (one_beginning es1 track n) q) (sym right) (record { track = refl; pitch = alike.pitch }, tt))

-- nothing begins on either side
pub neither : (scaling : Scaling) (o : Options) (xs ys : List Beginning) → xs ≡ [] → ys ≡ [] → StartAlike scaling o xs ys
neither scaling o xs ys h g = subst (λ zs. StartAlike scaling o zs ys) (sym h) (subst (λ zs. StartAlike scaling o [] zs) (sym g) tt)

pub one_none : (part : ℕ → Bool) (b : List MidiEvent) (e : MidiEvent) → begins_note part e.what ≡ false → beginnings_from part b (e ∷ []) ≡ []
one_none part b e h = ap (λ zs. zs ++ []) (no_beginning part (b ++ e ∷ []) e h)

-- what is known where a block begins
record Here (port : ℕ) (o : Options) (table : Targets) (used : ℕ → Bool) (k : Moment) (b : Both) (e : MidiEvent) (es : List MidiEvent) : Type 0 where
  follows : Follows IsWellFormed port o table used k.old k.was b
  sound : IsGiven IsWellFormed port o table used k b.source e
  music : (after es).music ≡ b.source

note_alike : NotesFade → (scaling : Scaling) (port : ℕ) (o : Options) (table : Targets) (used : ℕ → Bool) → AreUsed o used → (k : Moment)
    (b : Both) (t track c j v : ℕ) (es xs : List MidiEvent) → Here port o table used k b (said_at t track (NoteOn c j (suc v))) es →
    is_part o c ≡ true →
    (let e : MidiEvent = said_at t track (NoteOn c j (suc v)) in HeardAlike scaling o (es ++ e ∷ [])
    (xs ++ port_block port o table k b.source b.out e) →
    StartAlike scaling o (beginnings_from (is_part o) es (e ∷ [])) (beginnings_from (is_part o) xs (port_block port o table k b.source b.out e)))
note_alike law scaling port o table used row k b t track c j v es xs here part =
    let msg : Msg = NoteOn c j (suc v) in
    let e : MidiEvent = said_at t track msg in
    let later : Music = step b.source e in
    let fit : IsFine port o table b.source later k.is t msg = fine port o table b.source later k.is t msg here.sound.faultless in
    let target = aimed o table t c j v row.route part fit.mapped fit.in_device in
    let x : BendTarget = target.0 in
    let p : Pair = pair_with port c x in
    let there : is_part o (k.new p) ≡ true = row.retuned (k.new p)
    (here.sound.used_is p (begun_there IsWellFormed port o table used k.old k.was k b t track c j v here.follows here.sound part x target.1)) in
    let ms : List Msg = setup o table k later b.out p (is_member is_same_pair k.was p) in
    subst (λ zs. HeardAlike scaling o (es ++ e ∷ []) (xs ++ zs) → StartAlike scaling o (beginnings_from (is_part o) es (e ∷ []))
    (beginnings_from (is_part o) xs zs))
    (sym (part_block port o table k b.source b.out t track msg (ms ++ NoteOn (k.new p) x.key (suc v) ∷ []) part
    (ap (strikes port o table k later b.out c (suc v)) target.1)))
    (struck_alike law scaling o es xs t track c j v (k.new p) x.key ms part there (setup_none o table k later b.out p
    (is_member is_same_pair k.was p))
    (ap (λ (m : Music). m.zones) here.music ∙ here.follows.source_zones) (subst IsSettled (sym here.music) here.follows.source_settled))

message_alike : NotesFade → (scaling : Scaling) (port : ℕ) (o : Options) (table : Targets) (used : ℕ → Bool) → AreUsed o used → (k : Moment)
    (b : Both) (t track : ℕ) (msg : Msg) (es xs : List MidiEvent) → Here port o table used k b (said_at t track msg) es →
    (let e : MidiEvent = said_at t track msg in HeardAlike scaling o (es ++ e ∷ []) (xs ++ port_block port o table k b.source b.out e) →
    StartAlike scaling o (beginnings_from (is_part o) es (e ∷ [])) (beginnings_from (is_part o) xs (port_block port o table k b.source b.out e)))
message_alike law scaling port o table used row k b t track msg es xs here heard =
    let e : MidiEvent = said_at t track msg in
    elim (cases_Bool (is_part o (channel_of msg))) [
      | inr drum ↦ neither scaling o (beginnings_from (is_part o) es (e ∷ []))
          (beginnings_from (is_part o) xs (port_block port o table k b.source b.out e)) (one_none (is_part o) es e (drum_begins o msg drum))
          (ap (beginnings_from (is_part o) xs) (drum_block port o table k b.source b.out t track msg drum)
          ∙ one_none (is_part o) xs e (drum_begins o msg drum))
      | inl part ↦ elim (is_note msg) [
        | inl none ↦ neither scaling o (beginnings_from (is_part o) es (e ∷ []))
            (beginnings_from (is_part o) xs (port_block port o table k b.source b.out e))
            (one_none (is_part o) es e (none_begins (is_part o) msg none))
            (ap (beginnings_from (is_part o) xs) (part_block port o table k b.source b.out t track msg
            (part_causes port o table k b.source (step b.source e) b.out t msg) part refl)
            ∙ no_beginnings (is_part o) xs e (part_causes port o table k b.source (step b.source e) b.out t msg)
            (part_none port o table k b.source (step b.source e) b.out t msg none))
        | inr (c, j, v, same) ↦ subst Goal (sym same)
            (λ p h g. note_alike law scaling port o table used row k b t track c j v es xs h p g) part here heard
      ]
    ]
  where
    Goal : Msg → Type 0
    Goal m = is_part o (channel_of m) ≡ true → Here port o table used k b (said_at t track m) es →
        HeardAlike scaling o (es ++ (said_at t track m) ∷ []) (xs ++ port_block port o table k b.source b.out (said_at t track m)) →
        StartAlike scaling o (beginnings_from (is_part o) es (said_at t track m ∷ []))
        (beginnings_from (is_part o) xs (port_block port o table k b.source b.out (said_at t track m)))

event_alike : NotesFade → (scaling : Scaling) (port : ℕ) (o : Options) (table : Targets) (used : ℕ → Bool) → AreUsed o used → (k : Moment)
    (b : Both) (t track : ℕ) (w : MidiWhat) (es xs : List MidiEvent) →
    (let e : MidiEvent = record { tick = t; track = track; what = w } in Here port o table used k b e es → HeardAlike scaling o (es ++ e ∷ [])
    (xs ++ port_block port o table k b.source b.out e) →
    StartAlike scaling o (beginnings_from (is_part o) es (e ∷ [])) (beginnings_from (is_part o) xs (port_block port o table k b.source b.out e)))
event_alike law scaling port o table used row k b t track (Says msg) es xs here heard =
    message_alike law scaling port o table used row k b t track msg es xs here heard
event_alike law scaling port o table used row k b t track (SysexOf lead bytes) es xs here heard = tt
event_alike law scaling port o table used row k b t track (MetaOf kind bytes) es xs here heard = tt

-- ---- all blocks

-- the source's events up to the next position
pub events_longer : (ns : List Numbered) → Ascend 0 ns → (k : ℕ) → unnumbered (up_to_position (suc k) ns)
    ≡ unnumbered (up_to_position k ns) ++ events_if (port_event ns (suc k))
events_longer ns rising k =
    ap unnumbered (one_more 0 ns rising k) ∙ map_append (λ (n : Numbered). n.event) (up_to_position k ns) (numbered_at ns (suc k))
    ∙ ap (λ xs. unnumbered (up_to_position k ns) ++ xs) (event_listed ns (suc k))

begins_to : Laws IsWellFormed → PutGivesTheValue → PutLeavesTheOthers → KeepsTheTuning → ReceiversStay → (scaling : Scaling) (o : Options)
    (table : Targets) → Scales scaling o table → (used : ℕ → Bool) → AreUsed o used → (plan : PortRuns) (ns : List Numbered) (last : ℕ) →
    IsPlanned IsWellFormed o table used plan ns last → Ascend 0 ns → (k : ℕ) → k ≤ last →
    StartAlike scaling o (beginnings (is_part o) (unnumbered (up_to_position k ns))) (beginnings (is_part o) (blocks_to o table plan ns k))
begins_to laws gives others tuning stay scaling o table scales used row plan ns last given rising zero low =
    subst (λ xs. StartAlike scaling o (beginnings (is_part o) (unnumbered xs)) []) (sym (none_yet 0 ns rising 0 (omega arith))) tt
begins_to laws gives others tuning stay scaling o table scales used row plan ns last given rising (suc k) low =
    subst (λ xs. StartAlike scaling o (beginnings (is_part o) xs) (beginnings (is_part o) (blocks_to o table plan ns (suc k))))
    (sym (events_longer ns rising k))
    (go (begins_to laws gives others tuning stay scaling o table scales used row plan ns last given rising k (omega arith))
    (port_event ns (suc k)) refl)
  where
    go : StartAlike scaling o (beginnings (is_part o) (unnumbered (up_to_position k ns))) (beginnings (is_part o) (blocks_to o table plan ns k)) →
        (x : Option MidiEvent) → port_event ns (suc k) ≡ x →
        StartAlike scaling o (beginnings (is_part o) (unnumbered (up_to_position k ns) ++ events_if x))
        (beginnings (is_part o) (blocks_to o table plan ns k ++ block_if plan.number o table (moment plan k) (both_at o table plan ns k) x))
    go h None is =
        subst (λ xs. StartAlike scaling o (beginnings (is_part o) xs) (beginnings (is_part o) (blocks_to o table plan ns k ++ [])))
        (sym (append-nil (unnumbered (up_to_position k ns))))
        (subst (λ ys. StartAlike scaling o (beginnings (is_part o) (unnumbered (up_to_position k ns))) (beginnings (is_part o) ys))
        (sym (append-nil (blocks_to o table plan ns k))) h)
    go h (Some e) is =
        let S : Beginning → Beginning → Type 0 = BeginsAlike scaling o (plain_device o) in
        let es : List MidiEvent = unnumbered (up_to_position k ns) in
        let bs : List MidiEvent = blocks_to o table plan ns k in
        let block : List MidiEvent = port_block plan.number o table (moment plan k)
        (both_at o table plan ns k).source (both_at o table plan ns k).out e in
        let is_source : (after es).music ≡ (both_at o table plan ns k).source = music_all start es
        ∙ sym (source_is_played o table plan ns k rising) in
        let is_out : (after bs).music ≡ (both_at o table plan ns k).out = music_all start bs ∙ sym (out_is o table plan ns k) in
        let here : Here plan.number o table used (moment plan k) (both_at o table plan ns k) e es = record {
          follows = follows_at IsWellFormed laws o table used row plan ns last given k (omega arith);
          sound = subst (λ m. IsGiven IsWellFormed plan.number o table used (moment plan k) m e) (sym (source_is o table plan ns k))
              (sound_at IsWellFormed o table used plan ns last given k low e is);
          music = is_source;
        } in
        let source_next : (after (es ++ e ∷ [])).music ≡ (both_at o table plan ns (suc k)).source =
        ap (λ (r : Receiver). r.music) (all_receive start es (e ∷ [])) ∙ ap (λ m. step m e) is_source
        ∙ sym (ap (λ x. (both_next plan.number o table (moment plan k) (both_at o table plan ns k) x).source) is) in
        let out_next : (after (bs ++ block)).music ≡ (both_at o table plan ns (suc k)).out =
        ap (λ (r : Receiver). r.music) (all_receive start bs block) ∙ music_all (after bs) block ∙ ap (λ m. play m block) is_out
        ∙ sym (ap (λ x. (both_next plan.number o table (moment plan k) (both_at o table plan ns k) x).out) is) in
        let all : blocks_to o table plan ns (suc k) ≡ bs ++ block = ap (λ x. bs ++ block_if plan.number o table (moment plan k)
        (both_at o table plan ns k) x) is in
        let heard : HeardAlike scaling o (es ++ e ∷ []) (bs ++ block) =
        sound_at_position laws gives others stay scaling o table scales used row plan ns last given (suc k) low (es ++ e ∷ [])
        (bs ++ block) source_next out_next
        (λ c u. ap (λ zs. selected_of (after zs).tuning c) (sym all)
        ∙ blocks_quiet laws tuning stay o table used row plan ns last given (suc k) low c u) in
        subst (λ xs. Pairwise S xs (beginnings (is_part o) (bs ++ block))) (sym (begin_append (is_part o) [] es (e ∷ [])))
        (subst (λ ys. Pairwise S (beginnings (is_part o) es ++ beginnings_from (is_part o) es (e ∷ [])) ys)
        (sym (begin_append (is_part o) [] bs block))
        (pair_append S (beginnings (is_part o) es) (beginnings_from (is_part o) es (e ∷ [])) (beginnings (is_part o) bs)
        (beginnings_from (is_part o) bs block) h
        (event_alike laws.fade scaling plan.number o table used row (moment plan k)
        (both_at o table plan ns k) e.tick e.track e.what es bs here heard)))

pub all_up : (m : ℕ) (ns : List Numbered) → AllByRecursion (λ (n : Numbered). n.position ≤ m) ns → up_to_position m ns ≡ ns
all_up m [] h = refl
all_up m (n ∷ ns) h = ap (λ b. cond b (n ∷ up_to_position m ns) (up_to_position m ns)) (le-leb n.position m h.0) ∙ ap (λ xs. n ∷ xs) (all_up m ns h.1)

-- the blocks up to the last position are the output
pub all_blocks : (o : Options) (table : Targets) (plan : PortRuns) (ns : List Numbered) (last : ℕ) → AreTimely ns last →
    blocks_to o table plan ns last ≡ port_output o table plan quiet quiet ns
all_blocks o table plan ns last timely = blocks_are o table plan ns last timely.rising ∙ ap (port_output o table plan quiet quiet)
    (all_up last ns timely.within)

pub begins_same : Laws IsWellFormed → PutGivesTheValue → PutLeavesTheOthers → KeepsTheTuning → ReceiversStay → (scaling : Scaling) (o : Options)
    (table : Targets) → Scales scaling o table → (used : ℕ → Bool) → AreUsed o used → (plan : PortRuns) (ns : List Numbered) (last : ℕ) →
    IsPlanned IsWellFormed o table used plan ns last → AreTimely ns last → BeginsTheSame scaling o (plain_device o) (is_part o) (unnumbered ns)
    (port_output o table plan quiet quiet ns)
begins_same laws gives others tuning stay scaling o table scales used row plan ns last given timely =
    subst (λ xs. StartAlike scaling o (beginnings (is_part o) (unnumbered xs)) (beginnings (is_part o) (port_output o table plan quiet quiet ns)))
    (all_up last ns timely.within)
    (subst (λ ys. StartAlike scaling o (beginnings (is_part o) (unnumbered (up_to_position last ns))) (beginnings (is_part o) ys))
    (all_blocks o table plan ns last timely)
    (begins_to laws gives others tuning stay scaling o table scales used row plan ns last given timely.rising last (omega arith)))
