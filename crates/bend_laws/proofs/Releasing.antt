-- A note off of a part: it goes to the note's channel with its target key, where the key is down.
use Rattle.std.proofs.Common.{◌≡◌, ◌<◌, arith, ℕ, zero, Bool, true, false, not, ◌&&◌, List, [], ◌∷◌, Option, Some, None, is_some, refl, ap, sym, ◌∙◌, subst, map, nat_eq, get_or, inl, inr}
use Rattle.std.specs.List.{AllByRecursion}
use Rattle.std.proofs.lemmas.Bool.{cases_Bool, both_ways, eq-eqb, and_from, and_right, false_from_ne_true}
use Rattle.retune_model.specs.Pairs.{Pair}
use Rattle.mt_base.specs.declared.event.Msg.{Msg}
use Rattle.mt_base.specs.declared.event.Msg.TheVariants.{NoteOn, NoteOff}
use Rattle.mt_base.specs.Midi.{Says, MidiEvent, channel_of}
use Rattle.mt_base.specs.Valid.{IsValidMsg}
use Rattle.midi_model.specs.Sysex.{Plays}
use Rattle.midi_model.specs.Channel.{control_of, State}
use Rattle.midi_model.specs.Zones.{no_zones}
use Rattle.midi_model.specs.Notes.{Note, sounds, is_down, is_at}
use Rattle.midi_model.specs.Music.{Music, channel_at, pedal, settle_note, advance, step, play}
use Rattle.midi_model.specs.MusicLaws.{IsSettled, begun_by}
use Rattle.retune_model.specs.Table.{BendTarget}
use Rattle.retune_model.specs.Options.{Options}
use Rattle.retune_model.specs.PlaysTheSame.{Pairwise}
use Rattle.retune_model.specs.Faults.{Targets, is_part, target_of}
use Rattle.channel_model.specs.Choice.{wanted}
use Rattle.channel_model.specs.BendOutput.{pair_with, pressed_note, note_released, off_at}
use Rattle.bend_laws.specs.Moments.{Moment, Both, part_causes, port_block, next_both}
use Rattle.bend_laws.specs.Brought.{IsSameAside, IsReached}
use Rattle.bend_laws.specs.Follows.{Has, IsPlayedBy, IsMatched, AreApart, IsAmong, Begins, IsGiven, AreUsed, Follows}
use Rattle.bend_laws.proofs.Lists.{all_weaker, pair_map, pair_along, pair_first}
use Rattle.bend_laws.proofs.Turned.{plain, is_plain}
use Rattle.bend_laws.proofs.Playing.{saying, saying_valid, reached_play}
use Rattle.bend_laws.proofs.Keys.{aim_fits, apart_after}
use Rattle.bend_laws.proofs.Stepping.{follows_next, quiet_moment}
use Rattle.bend_laws.proofs.Given.{Laws}
use Rattle.bend_laws.proofs.Changing.{said_at, part_block}
use Rattle.bend_laws.proofs.Still.{StandsStill, held_state, still_stepped, nothing_changes}
use Rattle.bend_laws.proofs.Matching.{output_sounds}
use Rattle.bend_laws.proofs.Lifting.{lifted, lifted_form, sounds_down, lifted_music, pedal_is, played_lifted, down_alike, pressed_element, none_pressed, at_channel, at_key, Tells, all_tell, off_lifts, zero_lifts}

-- ---- a note's pedal is its part's

pub pedals_alike : (Good : State → Type 0) (port : ℕ) (o : Options) (table : Targets) (used : ℕ → Bool) (k : Moment) (b : Both) (e : MidiEvent) →
    Follows Good port o table used k.old k.was b → IsGiven Good port o table used k b.source e →
    (x y : Note) → (h : IsPlayedBy port o table k.old x y) → (sounds x ≡ true → Has k.holds (pair_with port x.channel h.target)) →
    sounds x ≡ true → pedal b.out.channels no_zones y ≡ pedal b.source.channels no_zones x
pedals_alike Good port o table used k b e follows sound x y h holds s =
    let p : Pair = pair_with port x.channel h.target in
    let at : IsSameAside (channel_at b.out (k.old p)) (wanted o table b.source p).own =
    held_state Good port o table used k b e follows sound p (sound.was_there p (holds s)) in
    pedal_is b.out y ∙ ap (λ c. control_of (channel_at b.out c) 64) (h.sounding s).channel ∙ ap (λ cs. get_or cs 64 0) at.controls
    ∙ sym (pedal_is b.source x)

-- ---- the notes that are hit

-- what is known of the note that is released: its target, and that its pair holds
pub record IsReleased (port : ℕ) (o : Options) (table : Targets) (k : Moment) (c : ℕ) (n : Note) (t : BendTarget) : Type 0 where
  pub part : is_part o c ≡ true
  pub aim : target_of o table n ≡ Some t
  pub holds : Has k.holds (pair_with port c t)

some_target : (a b : BendTarget) (x y : Option BendTarget) → x ≡ Some a → y ≡ Some b → x ≡ y → a ≡ b
some_target a b x y h g e = cc

pub target_eq : (a b : BendTarget) → a.key ≡ b.key → a.steps ≡ b.steps → a ≡ b
target_eq a b h g = ap (λ x. let y : BendTarget = record { key = x; steps = a.steps } in y) h
    ∙ ap (λ x. let y : BendTarget = record { key = b.key; steps = x } in y) g

pub hits_alike : (port : ℕ) (o : Options) (table : Targets) (k : Moment) (c j : ℕ) (n : Note) (t : BendTarget) → IsReleased port o table k c n t →
    ((p q : Pair) → Has k.holds p → Has k.holds q → k.old p ≡ k.old q → p ≡ q) → (a b : Note) →
    (h : IsPlayedBy port o table k.old a b) → is_part o a.channel ≡ true → (sounds a ≡ true → Has k.holds (pair_with port a.channel h.target)) →
    Tells o table c j n a →
    (is_at (k.old (pair_with port c t)) t.key b && is_down b) ≡ (is_at c j a && is_down a)
hits_alike port o table k c j n t r apart a b h part holds tells = elim (cases_Bool (sounds a)) [
  | inr s ↦ and_right (is_at d t.key b) (is_down b) (ap (λ q. q && not (is_some b.release)) (output_sounds port o table k.old a b h ∙ s))
      ∙ sym (and_right (is_at c j a) (is_down a) (ap (λ q. q && not (is_some a.release)) s))
  | inl s ↦ ap (λ q. q && is_down b) (same s) ∙ ap (λ q. is_at c j a && q) (down_alike port o table k.old a b h)
]
  where
    d : ℕ
    d = k.old (pair_with port c t)

    forth : sounds a ≡ true → is_at c j a ≡ true → is_at (k.old (pair_with port c t)) t.key b ≡ true
    forth s i =
        let aim : h.target ≡ t = some_target h.target t (target_of o table a) (target_of o table n) h.aim r.aim ((tells s part h.target h.aim).0 i) in
        and_from (nat_eq b.channel (k.old (pair_with port c t))) (nat_eq b.key t.key)
        (eq-eqb b.channel (k.old (pair_with port c t)) ((h.sounding s).channel ∙ ap (λ u. k.old (pair_with port a.channel u)) aim
        ∙ ap (λ u. k.old (pair_with port u t)) (at_channel c j a i)))
        (eq-eqb b.key t.key (h.key ∙ ap (λ (u : BendTarget). u.key) aim))

    back : sounds a ≡ true → is_at (k.old (pair_with port c t)) t.key b ≡ true → is_at c j a ≡ true
    back s i =
        let p : pair_with port a.channel h.target ≡ pair_with port c t = apart (pair_with port a.channel h.target) (pair_with port c t)
        (holds s) r.holds (sym (h.sounding s).channel ∙ at_channel (k.old (pair_with port c t)) t.key b i) in
        let aim : h.target ≡ t = target_eq h.target t (sym h.key ∙ at_key (k.old (pair_with port c t)) t.key b i) (ap (λ (q : Pair). q.steps) p) in
        let channel : a.channel ≡ c = ap (λ (q : Pair). q.part.channel) p in
        and_from (nat_eq a.channel c) (nat_eq a.key j) (eq-eqb a.channel c channel)
        (eq-eqb a.key j ((tells s part h.target h.aim).1 channel (h.aim ∙ ap Some aim ∙ sym r.aim)))

    same : sounds a ≡ true → is_at (k.old (pair_with port c t)) t.key b ≡ is_at c j a
    same s = elim (cases_Bool (is_at c j a)) [
      | inl i ↦ forth s i ∙ sym i
      | inr i ↦ false_from_ne_true (is_at (k.old (pair_with port c t)) t.key b) (λ g. both_ways (is_at c j a) i (back s g)) ∙ sym i
    ]

-- ---- the event

-- a message that releases a key of a part, and the message for the output's channel and key
pub record IsOff (c j v : ℕ) (msg : Msg) (off : ℕ → ℕ → Msg) : Type 0 where
  pub channel : channel_of msg ≡ c
  pub source : (m : Music) (t : ℕ) → m.zones ≡ no_zones → advance t (Plays msg) m ≡ lifted_music m t c j v
  pub out : (m : Music) (t d i : ℕ) → m.zones ≡ no_zones → advance t (Plays (off d i)) m ≡ lifted_music m t d i v
  pub causes : (port : ℕ) (o : Options) (table : Targets) (k : Moment) (before after x : Music) (t : ℕ) →
      part_causes port o table k before after x t msg ≡ note_released port o table k.old off c (pressed_note c j before.notes)
  pub none : (port : ℕ) (o : Options) (table : Targets) (t : ℕ) (p : Pair) → Begins port o table t (Says msg) p → ⊥
  pub begun : (m : Music) (t : ℕ) → begun_by m t (Plays msg) ≡ []
  pub valid : (d i : ℕ) → d < 16 → i < 128 → IsValidMsg msg → IsValidMsg (off d i)

pub note_off : (c j v : ℕ) → IsOff c j v (NoteOff c j v) (λ d i. NoteOff d i v)
note_off c j v = record {
  channel = refl;
  source = λ m t z. off_lifts m t c j v z;
  out = λ m t d i z. off_lifts m t d i v z;
  causes =
      λ port o table k before after x t. refl;
  none = λ port o table t p h. h;
  begun = λ m t. refl;
  valid =
      λ d i l k h. (omega (arith, l), omega (arith, k), h.2);
}

pub note_zero : (c j : ℕ) → IsOff c j 64 (NoteOn c j zero) (λ d i. NoteOn d i zero)
note_zero c j = record {
  channel = refl;
  source = λ m t z. zero_lifts m t c j z;
  out = λ m t d i z. zero_lifts m t d i z;
  causes =
      λ port o table k before after x t. refl;
  none = λ port o table t p h. h;
  begun = λ m t. refl;
  valid =
      λ d i l k h. (omega (arith, l), omega (arith, k), omega arith);
}

-- what is seen of two notes
abbrev Seen : ℕ → Options → Targets → Moment → ℕ → ℕ → Note → Note → Note → Type 0
Seen port o table k c j n a b = (IsMatched port o table k.old a b × (is_part o a.channel ≡ true → sounds a ≡ true →
    IsAmong port k.holds a.channel (target_of o table a))) × Tells o table c j n a

lifted_match : (Good : State → Type 0) (port : ℕ) (o : Options) (table : Targets) (used : ℕ → Bool) (k : Moment) (b : Both) (e : MidiEvent) →
    Follows Good port o table used k.old k.was b → IsGiven Good port o table used k b.source e →
    (t c j v : ℕ) (n : Note) (aim : BendTarget) → IsReleased port o table k c n aim → (x y : Note) → Seen port o table k c j n x y →
    IsMatched port o table k.old (lifted t v (is_at c j x && is_down x) (pedal b.source.channels no_zones x) x)
    (lifted t v (is_at (k.old (pair_with port c aim)) aim.key y && is_down y) (pedal b.out.channels no_zones y) y)
lifted_match Good port o table used k b e follows sound t c j v n aim r x y ((m, among), tells) = record {
  retuned = m.retuned;
  played = λ p.
      let h : IsPlayedBy port o table k.old x y = m.played p in
      let holds : sounds x ≡ true → Has k.holds (pair_with port x.channel h.target) = λ s. subst (IsAmong port k.holds x.channel) h.aim (among p s) in
      played_lifted port o table k.old t v (pedal b.source.channels no_zones x) (pedal b.out.channels no_zones y) (is_at c j x && is_down x)
      (is_at (k.old (pair_with port c aim)) aim.key y && is_down y) x y h
      (hits_alike port o table k c j n aim r (λ q s i l. sound.apart_was q s (sound.was_there q i) (sound.was_there s l)) x y h p holds tells)
      (pedals_alike Good port o table used k b e follows sound x y h holds);
}

-- a note of a part has a target
abbrev pub HasAim : Options → Targets → Note → Type 0
HasAim o table a = is_part o a.channel ≡ true → (t : BendTarget) × (target_of o table a ≡ Some t)

pub has_aim : (port : ℕ) (o : Options) (table : Targets) (place : Pair → ℕ) (a b : Note) → IsMatched port o table place a b → HasAim o table a
has_aim port o table place a b m p = let h : IsPlayedBy port o table place a b = m.played p in (h.target, h.aim)

-- nothing is hit
none_hit : (m : Music) (t c j v : ℕ) → m.zones ≡ no_zones → IsSettled m → AllByRecursion (λ n. (is_at c j n && is_down n) ≡ false) m.notes →
    lifted_music m t c j v ≡ m
none_hit m t c j v z s none =
    let each : AllByRecursion (λ n. lifted t v (is_at c j n && is_down n) (pedal m.channels no_zones n) n
    ≡ settle_note m.channels no_zones t n) m.notes =
    all_weaker (λ n. (is_at c j n && is_down n) ≡ false) (λ n. lifted t v (is_at c j n && is_down n)
    (pedal m.channels no_zones n) n ≡ settle_note m.channels no_zones t n)
    (λ n h. ap (λ q. lifted t v q (pedal m.channels no_zones n) n) h ∙ sym (lifted_form m.channels t v n false)) m.notes none in
    ap (plain m.channels) (mapped m.notes each ∙ ap (λ w. map (settle_note m.channels w t) m.notes) (sym z) ∙ s.notes t) ∙ sym (is_plain m z)
  where
    mapped : (ns : List Note) → AllByRecursion (λ n. lifted t v (is_at c j n && is_down n)
        (pedal m.channels no_zones n) n ≡ settle_note m.channels no_zones t n) ns →
        map (λ n. lifted t v (is_at c j n && is_down n) (pedal m.channels no_zones n) n) ns ≡ map (settle_note m.channels no_zones t) ns
    mapped [] h = refl
    mapped (n ∷ ns) h = ap (λ x. x ∷ map (λ y. lifted t v (is_at c j y && is_down y) (pedal m.channels no_zones y) y) ns) h.0
        ∙ ap (λ xs. settle_note m.channels no_zones t n ∷ xs) (mapped ns h.1)

pub release_follows : (Good : State → Type 0) → Laws Good → (port : ℕ) (o : Options) (table : Targets) (used : ℕ → Bool) → AreUsed o used →
    (k : Moment) (b : Both) (t track c j v : ℕ) (msg : Msg) (off : ℕ → ℕ → Msg) → IsOff c j v msg off → is_part o c ≡ true →
    Follows Good port o table used k.old k.was b → IsGiven Good port o table used k b.source (said_at t track msg) →
    Follows Good port o table used k.new k.is (next_both port o table k b (said_at t track msg))
release_follows Good laws port o table used row k b t track c j v msg off is part follows sound =
    follows_next Good port o table used k b e follows sound refl (still_stepped Good port o table used k b e
    (play b.out (port_block port o table k b.source b.out e)) follows sound (quiet_moment Good port o table used k b.source e sound
    (is.none port o table t)) (by_note (pressed_note c j b.source.notes) refl))
  where
    e : MidiEvent
    e = said_at t track msg

    block : (x : Option Note) → pressed_note c j b.source.notes ≡ x → port_block port o table k b.source b.out (said_at t track msg)
        ≡ saying (said_at t track msg) (note_released port o table k.old off c x)
    block x h = part_block port o table k b.source b.out t track msg (note_released port o table k.old off c x) (ap (is_part o) is.channel ∙ part)
        (is.causes port o table k b.source (step b.source (said_at t track msg)) b.out t ∙ ap (note_released port o table k.old off c) h)

    after : step b.source (said_at t track msg) ≡ lifted_music b.source t c j v
    after = is.source b.source t follows.source_zones

    to_note : (n : Note) (aim : BendTarget) → pressed_note c j b.source.notes ≡ Some n → IsReleased port o table k c n aim →
        StandsStill port o table used k b (step b.source (said_at t track msg))
        (play b.out (port_block port o table k b.source b.out (said_at t track msg)))
    to_note n aim pressed r =
        let d : ℕ = k.old (pair_with port c aim) in
        let among_all : Note → Type 0 = λ a. is_part o a.channel ≡ true → sounds a ≡ true → IsAmong port k.holds a.channel (target_of o table a) in
        let seen : Pairwise (Seen port o table k c j n) b.source.notes b.out.notes =
        pair_along (λ x y. IsMatched port o table k.old x y × among_all x) (Tells o table c j n) b.source.notes b.out.notes
        (pair_along (IsMatched port o table k.old) among_all b.source.notes b.out.notes follows.notes sound.held)
        (all_tell o table c j b.source.notes n follows.apart pressed) in
        let x : Music = lifted_music b.out t d aim.key v in
        let out : play b.out (port_block port o table k b.source b.out (said_at t track msg)) ≡ x =
        ap (play b.out) (block (Some n) pressed ∙ ap (λ u. saying (said_at t track msg) (off_at port k.old off c u)) r.aim)
        ∙ is.out b.out t d aim.key follows.out_zones in
        let still : StandsStill port o table used k b (lifted_music b.source t c j v) x = record {
          notes = pair_map (Seen port o table k c j n) (IsMatched port o table k.old) (λ y. lifted t v (is_at c j y && is_down y)
              (pedal b.source.channels no_zones y) y) (λ y. lifted t v (is_at d aim.key y && is_down y) (pedal b.out.channels no_zones y) y)
              (lifted_match Good port o table used k b (said_at t track msg) follows sound t c j v n aim r) b.source.notes b.out.notes seen;
          apart = subst (λ (m : Music). AreApart o table m.notes) after (apart_after laws.fade o table b.source t (Plays msg)
              (is.begun b.source t) follows.apart);
          source = λ q p. refl;
          out = λ q u. refl;
          source_zones = refl;
          source_settled = subst IsSettled after (laws.settle b.source (said_at t track msg) follows.source_settled);
          out_zones = refl;
          out_reached = subst IsReached (is.out b.out t d aim.key follows.out_zones)
              (reached_play b.out (saying (said_at t track msg) (off d aim.key ∷ [])) (saying_valid (said_at t track msg)
              (off d aim.key ∷ []) sound.valid.tick (
                is.valid d aim.key (row.channel d (sound.used_was (pair_with port c aim) (sound.was_there (pair_with port c aim) r.holds)))
                    (aim_fits o.range (table n.key n.onset) aim r.aim) sound.valid.what,
                tt,
              )) follows.out_reached);
        } in
        subst (λ m. StandsStill port o table used k b m (play b.out (port_block port o table k b.source b.out (said_at t track msg)))) (sym after)
        (subst (λ m. StandsStill port o table used k b (lifted_music b.source t c j v) m) (sym out) still)

    by_note : (x : Option Note) → pressed_note c j b.source.notes ≡ x → StandsStill port o table used k b (step b.source (said_at t track msg))
        (play b.out (port_block port o table k b.source b.out (said_at t track msg)))
    by_note None h = nothing_changes Good port o table used k b (step b.source (said_at t track msg))
        (play b.out (port_block port o table k b.source b.out (said_at t track msg))) follows
        (after ∙ none_hit b.source t c j v follows.source_zones follows.source_settled (none_pressed c j b.source.notes h))
        (ap (play b.out) (block None h))
    by_note (Some n) h =
        let among_all : Note → Type 0 = λ a. is_part o a.channel ≡ true → sounds a ≡ true → IsAmong port k.holds a.channel (target_of o table a) in
        let aims : AllByRecursion (HasAim o table) b.source.notes = pair_first (IsMatched port o table k.old) (HasAim o table)
        (has_aim port o table k.old) b.source.notes b.out.notes follows.notes in
        let found = pressed_element (HasAim o table) c j b.source.notes n aims h in
        let held = pressed_element among_all c j b.source.notes n sound.held h in
        let here : n.channel ≡ c = at_channel c j n found.1 in
        let n_part : is_part o n.channel ≡ true = ap (is_part o) here ∙ part in
        let aim = found.0 n_part in
        to_note n aim.0 h (record {
          part = part;
          aim = aim.1;
          holds =
              subst (λ q. Has k.holds (pair_with port q aim.0)) here (subst (IsAmong port k.holds n.channel) aim.1
              (held.0 n_part (sounds_down n found.2)));
        })
