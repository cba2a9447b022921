-- A note on of a part: where the run of its pair begins, its channel is brought to what the pair needs; then the note begins there.
use Rattle.std.proofs.Common.{◌≡◌, ◌≢◌, ◌<◌, arith, ℕ, suc, Bool, true, false, not, ◌&&◌, List, [], ◌∷◌, ◌++◌, Some, refl, ap, sym, ◌∙◌, subst, map, nat_eq, inl, inr}
use Rattle.std.specs.List.{AllByRecursion}
use Rattle.std.specs.Set.{is_member}
use Rattle.std.proofs.lemmas.Bool.{cases_Bool, cases_eq, both_ways, eq-eqb, and_from, false_from_ne_true}
use Rattle.retune_model.specs.Pairs.{Pair, is_same_pair}
use Rattle.mt_base.specs.declared.event.Msg.{Msg}
use Rattle.mt_base.specs.declared.event.Msg.TheVariants.{NoteOn}
use Rattle.mt_base.specs.Midi.{Says, MidiEvent}
use Rattle.midi_model.specs.Channel.{Channel, State}
use Rattle.midi_model.specs.Zones.{no_zones}
use Rattle.midi_model.specs.Notes.{Note, sounds, is_at, ending, cut_off}
use Rattle.midi_model.specs.Music.{Music, channel_at, step, play, state_at}
use Rattle.midi_model.specs.Bring.{bring}
use Rattle.retune_model.specs.Table.{BendTarget}
use Rattle.retune_model.specs.Options.{Options}
use Rattle.retune_model.specs.PlaysTheSame.{Pairwise, bend_target_if}
use Rattle.retune_model.specs.Faults.{Targets, is_part, is_same_target, target_of}
use Rattle.channel_model.specs.Choice.{wanted}
use Rattle.channel_model.specs.BendOutput.{pair_with}
use Rattle.bend_laws.specs.Moments.{Moment, Both, setup, strikes, port_block, next_both}
use Rattle.bend_laws.specs.Brought.{IsSameAside, IsReached}
use Rattle.bend_laws.proofs.Brought.{brought_on, IsBroughtTo}
use Rattle.bend_laws.specs.Follows.{Has, SoundsAlike, IsPlayedBy, IsMatched, AreApart, IsAmong, Begins, IsGiven, AreUsed, Follows}
use Rattle.bend_laws.proofs.Equal.{target_key, target_steps, same_target}
use Rattle.bend_laws.proofs.Lists.{all_weaker, all_both, map_kept, pair_map, pair_along, pair_second, pair_append}
use Rattle.bend_laws.proofs.Playing.{saying, saying_valid, play_saying, reached_play, settled_reached}
use Rattle.bend_laws.proofs.Keys.{aim_fits}
use Rattle.bend_laws.proofs.Bringing.{KeysFit, on_here, on_elsewhere}
use Rattle.bend_laws.proofs.Matching.{output_sounds, brought_silent}
use Rattle.bend_laws.proofs.Altered.{played_ended}
use Rattle.bend_laws.proofs.Stepping.{BeginsAt, Stepped, follows_next}
use Rattle.bend_laws.proofs.Given.{Laws, IsFine, fine, keys_fit}
use Rattle.bend_laws.proofs.Changing.{said_at, part_block, same_own}
use Rattle.bend_laws.proofs.Still.{held_state}
use Rattle.bend_laws.proofs.Lifting.{at_channel, at_key}
use Rattle.bend_laws.proofs.Releasing.{target_eq}
use Rattle.bend_laws.proofs.Striking.{new_note, struck, strikes_note, cut_here, cut_not, cut_channel, cut_silent, aimed, IsAside, all_aside, struck_apart}

-- ---- what is known around the event

-- the note's part, key, target and pair; the pair is there after it
pub record Strike (port : ℕ) (o : Options) (table : Targets) (k : Moment) (t c j : ℕ) (x : BendTarget) : Type 0 where
  pub part : is_part o c ≡ true
  pub aim : bend_target_if o.range (table j t) ≡ Some x
  pub there : Has k.is (pair_with port c x)
  pub was : (p : Pair) → Has k.holds p → Has k.was p
  pub kept : (p : Pair) → Has k.was p → Has k.is p → k.new p ≡ k.old p
  pub apart : (p q : Pair) → Has k.is p → Has k.is q → k.new p ≡ k.new q → p ≡ q

-- what is known of a note of the source: its pair held, it holds its channel while it sounds on, and its target
abbrev pub Held_note : ℕ → Options → Targets → Moment → ℕ → ℕ → ℕ → BendTarget → Note → Type 0
Held_note port o table k t c j x a = ((is_part o a.channel ≡ true → sounds a ≡ true → IsAmong port k.holds a.channel (target_of o table a))
    × (is_part o (cut_off t c j a).channel ≡ true → sounds (cut_off t c j a) ≡ true →
    IsAmong port k.is (cut_off t c j a).channel (target_of o table (cut_off t c j a)))) × IsAside o table c j x a

abbrev Seen : ℕ → Options → Targets → Moment → ℕ → ℕ → ℕ → BendTarget → Note → Note → Type 0
Seen port o table k t c j x a b = IsMatched port o table k.old a b × Held_note port o table k t c j x a

holding : (port : ℕ) (o : Options) (table : Targets) (k : Moment) (t c j : ℕ) (x : BendTarget) (a b : Note) → Held_note port o table k t c j x a →
    (h : IsPlayedBy port o table k.old a b) → is_part o a.channel ≡ true → sounds a ≡ true → Has k.holds (pair_with port a.channel h.target)
holding port o table k t c j x a b g h part s = subst (IsAmong port k.holds a.channel) h.aim (g.0.0 part s)

-- a note that isn't cut off is there afterwards
staying : (port : ℕ) (o : Options) (table : Targets) (k : Moment) (t c j : ℕ) (x : BendTarget) (a b : Note) → Held_note port o table k t c j x a →
    (h : IsPlayedBy port o table k.old a b) → is_part o a.channel ≡ true → sounds a ≡ true → is_at c j a ≡ false →
    Has k.is (pair_with port a.channel h.target)
staying port o table k t c j x a b g h part s not =
    subst (IsAmong port k.is a.channel) h.aim
    (subst (λ (y : Note). is_part o y.channel ≡ true → sounds y ≡ true → IsAmong port k.is y.channel (target_of o table y))
    (cut_not t c j a not) g.0.1 part s)

-- the same key, the same pair
struck_pair : (port : ℕ) (o : Options) (table : Targets) (k : Moment) (t c j : ℕ) (x : BendTarget) (a b : Note) →
    Held_note port o table k t c j x a → (h : IsPlayedBy port o table k.old a b) → sounds a ≡ true → is_at c j a ≡ true → (a.channel ≡ c) ×
    (h.target ≡ x)
struck_pair port o table k t c j x a b g h s at =
    let same : is_same_target (Some h.target) (Some x) ≡ true = ap (λ u. is_same_target u (Some x)) (sym h.aim) ∙ g.1.same s (at_channel c j a at)
    (eq-eqb a.key j (at_key c j a at)) in
    (at_channel c j a at, target_eq h.target x (target_key h.target x same) (target_steps h.target x same))

-- the note's channel is the new note's exactly where its pair is
on_new : (port : ℕ) (o : Options) (table : Targets) (k : Moment) (t c j : ℕ) (x : BendTarget) → Strike port o table k t c j x → (a b : Note) →
    Held_note port o table k t c j x a → (h : IsPlayedBy port o table k.old a b) → is_part o a.channel ≡ true → sounds a ≡ true →
    b.channel ≡ k.new (pair_with port c x) → pair_with port a.channel h.target ≡ pair_with port c x
on_new port o table k t c j x w a b g h part s on = elim (cases_Bool (is_at c j a)) [
  | inl e ↦ (let two = struck_pair port o table k t c j x a b g h s e in ap (λ d. pair_with port d h.target) two.0 ∙ ap (pair_with port c) two.1)
  | inr e ↦ (let p : Pair = pair_with port a.channel h.target in
      let there : Has k.is p = staying port o table k t c j x a b g h part s e in
      w.apart p (pair_with port c x) there w.there (w.kept p (w.was p (holding port o table k t c j x a b g h part s)) there
      ∙ sym (h.sounding s).channel ∙ on))
]

hit_same : (port : ℕ) (o : Options) (table : Targets) (k : Moment) (t c j : ℕ) (x : BendTarget) → Strike port o table k t c j x → (a b : Note) →
    Held_note port o table k t c j x a → (h : IsPlayedBy port o table k.old a b) → is_part o a.channel ≡ true → sounds a ≡ true →
    is_at (k.new (pair_with port c x)) x.key b ≡ is_at c j a
hit_same port o table k t c j x w a b g h part s = elim (cases_Bool (is_at c j a)) [
  | inl e ↦ (let two = struck_pair port o table k t c j x a b g h s e in
      let p : Pair = pair_with port a.channel h.target in
      let same : p ≡ pair_with port c x = ap (λ d. pair_with port d h.target) two.0 ∙ ap (pair_with port c) two.1 in
      let was : Has k.was (pair_with port c x) = subst (Has k.was) same (w.was p (holding port o table k t c j x a b g h part s)) in
      and_from (nat_eq b.channel (k.new (pair_with port c x))) (nat_eq b.key x.key)
      (eq-eqb b.channel (k.new (pair_with port c x)) ((h.sounding s).channel ∙ ap k.old same ∙ sym (w.kept (pair_with port c x) was w.there)))
      (eq-eqb b.key x.key (h.key ∙ ap (λ (u : BendTarget). u.key) two.1)) ∙ sym e)
  | inr e ↦ false_from_ne_true (is_at (k.new (pair_with port c x)) x.key b) (λ at.
      let same : pair_with port a.channel h.target ≡ pair_with port c x =
      on_new port o table k t c j x w a b g h part s (at_channel (k.new (pair_with port c x)) x.key b at) in
      let channel : a.channel ≡ c = ap (λ (q : Pair). q.part.channel) same in
      let key : nat_eq a.key j ≡ false = ap (λ q. q && nat_eq a.key j) (sym (eq-eqb a.channel c channel)) ∙ e in
      both_ways (is_same_target (target_of o table a) (Some x)) (g.1.other s channel key)
      (ap (λ u. is_same_target u (Some x)) h.aim ∙ same_target h.target x (sym h.key ∙ at_key (k.new (pair_with port c x)) x.key b at)
      (ap (λ (q : Pair). q.steps) same))) ∙ sym e
]

-- ---- the notes

moved_played : (port : ℕ) (o : Options) (table : Targets) (was is : Pair → ℕ) (a b : Note) → (h : IsPlayedBy port o table was a b) →
    (sounds a ≡ true → is (pair_with port a.channel h.target) ≡ was (pair_with port a.channel h.target)) → IsPlayedBy port o table is a b
moved_played port o table was is a b h e = record {
  target = h.target;
  aim = h.aim;
  key = h.key;
  onset = h.onset;
  velocity = h.velocity;
  voice = h.voice;
  release = h.release;
  ended = h.ended;
  sounding = λ s. (let y : SoundsAlike (was (pair_with port a.channel h.target)) a b = h.sounding s in record {
    channel = y.channel
        ∙ sym (e s);
    captured = y.captured;
    pressure = y.pressure;
  });
}

cut_played : (port : ℕ) (o : Options) (table : Targets) (k : Moment) (t c j : ℕ) (x : BendTarget) → Strike port o table k t c j x → (a b : Note) →
    Held_note port o table k t c j x a → IsPlayedBy port o table k.old a b → is_part o a.channel ≡ true →
    IsPlayedBy port o table k.new (cut_off t c j a) (cut_off t (k.new (pair_with port c x)) x.key b)
cut_played port o table k t c j x w a b g h part = elim (cases_Bool (sounds a)) [
  | inr s ↦ subst (λ y. IsPlayedBy port o table k.new y (cut_off t d x.key b)) (sym (cut_silent t c j a s))
      (subst (IsPlayedBy port o table k.new a) (sym (cut_silent t d x.key b (output_sounds port o table k.old a b h ∙ s)))
      (moved_played port o table k.old k.new a b h (λ q. absurd (both_ways (sounds a) s q))))
  | inl s ↦ elim (cases_Bool (is_at c j a)) [
    | inl e ↦ subst (λ y. IsPlayedBy port o table k.new y (cut_off t d x.key b)) (sym (cut_here t c j a e))
        (subst (IsPlayedBy port o table k.new (ending t a)) (sym (cut_here t d x.key b (hit_same port o table k t c j x w a b g h part s ∙ e)))
        (played_ended port o table k.old k.new t a b h))
    | inr e ↦ subst (λ y. IsPlayedBy port o table k.new y (cut_off t d x.key b)) (sym (cut_not t c j a e))
        (subst (IsPlayedBy port o table k.new a) (sym (cut_not t d x.key b (hit_same port o table k t c j x w a b g h part s ∙ e)))
        (moved_played port o table k.old k.new a b h (λ q. w.kept (pair_with port a.channel h.target)
        (w.was (pair_with port a.channel h.target) (holding port o table k t c j x a b g h part s))
        (staying port o table k t c j x a b g h part s e))))
  ]
]
  where
    d : ℕ
    d = k.new (pair_with port c x)

pub cut_match : (port : ℕ) (o : Options) (table : Targets) (k : Moment) (t c j : ℕ) (x : BendTarget) → Strike port o table k t c j x → (a b : Note) →
    Seen port o table k t c j x a b → IsMatched port o table k.new (cut_off t c j a) (cut_off t (k.new (pair_with port c x)) x.key b)
cut_match port o table k t c j x w a b (m, g) = record {
  retuned = ap (is_part o) (cut_channel t (k.new (pair_with port c x)) x.key b) ∙ m.retuned ∙ ap (is_part o) (sym (cut_channel t c j a));
  played = λ p. (let q : is_part o a.channel ≡ true = ap (is_part o) (sym (cut_channel t c j a))
      ∙ p in cut_played port o table k t c j x w a b g (m.played q) q);
}

-- ---- the output once the channel is ready

pub record IsReady (o : Options) (table : Targets) (k : Moment) (after out : Music) (p : Pair) (m : Music) : Type 0 where
  pub notes : m.notes ≡ out.notes
  pub here : IsSameAside (channel_at m (k.new p)) (wanted o table after p).own
  pub others : (d : ℕ) → d ≢ k.new p → channel_at m d ≡ channel_at out d
  pub same : Has k.was p → (d : ℕ) → channel_at m d ≡ channel_at out d
  pub zones : m.zones ≡ no_zones
  pub reached : IsReached m

-- no note sounds on the channel of a run that begins
silent_on : (port : ℕ) (o : Options) (table : Targets) (k : Moment) (t c j : ℕ) (x : BendTarget) → Strike port o table k t c j x →
    is_part o (k.new (pair_with port c x)) ≡ true → is_member is_same_pair k.was (pair_with port c x) ≡ false → (a b : Note) →
    Seen port o table k t c j x a b → b.channel ≡ k.new (pair_with port c x) → sounds b ≡ false
silent_on port o table k t c j x w used new a b (m, g) on = false_from_ne_true (sounds b) (λ s.
    let part : is_part o a.channel ≡ true = sym m.retuned ∙ (ap (is_part o) on ∙ used) in
    let h : IsPlayedBy port o table k.old a b = m.played part in
    let sa : sounds a ≡ true = sym (output_sounds port o table k.old a b h) ∙ s in
    let p : Pair = pair_with port a.channel h.target in
    let same : p ≡ pair_with port c x = on_new port o table k t c j x w a b g h part sa on in
    both_ways (is_member is_same_pair k.was (pair_with port c x)) new (subst (Has k.was) same
    (w.was p (holding port o table k t c j x a b g h part sa))))

ready : (Good : State → Type 0) → Laws Good → (port : ℕ) (o : Options) (table : Targets) (used : ℕ → Bool) → AreUsed o used → (k : Moment)
    (b : Both) (e : MidiEvent) (t c j : ℕ) (x : BendTarget) → Strike port o table k t c j x →
    Follows Good port o table used k.old k.was b → IsGiven Good port o table used k b.source e →
    ((d : ℕ) → channel_at (step b.source e) d ≡ channel_at b.source d) → Pairwise (Seen port o table k t c j x) b.source.notes b.out.notes →
    (r : Bool) → is_member is_same_pair k.was (pair_with port c x) ≡ r → IsReady o table k (step b.source e) b.out (pair_with port c x)
    (play b.out (saying e (setup o table k (step b.source e) b.out (pair_with port c x) r)))
ready Good laws port o table used row k b e t c j x w follows sound same seen true was =
    let p : Pair = pair_with port c x in
    let new : k.new p ≡ k.old p = w.kept p was w.there in
    record {
      notes = refl;
      here = subst (λ d. IsSameAside (channel_at b.out d) (wanted o table (step b.source e) p).own) (sym new)
          (subst (IsSameAside (channel_at b.out (k.old p))) (sym (same_own o table b.source (step b.source e) p (same p.part.channel)))
          (held_state Good port o table used k b e follows sound p was));
      others = λ d h. refl;
      same = λ h d. refl;
      zones = follows.out_zones;
      reached = follows.out_reached;
    }
ready Good laws port o table used row k b e t c j x w follows sound same seen false was =
    let p : Pair = pair_with port c x in
    let d : ℕ = k.new p in
    let after : Music = step b.source e in
    let want : State = wanted o table after p in
    let out : Music = b.out in
    let u : used d ≡ true = sound.used_is p w.there in
    let ms : List Msg = bring d (state_at out d) want in
    let fit : KeysFit o out.notes = keys_fit port o table k.old b.source.notes out.notes follows.notes in
    let to : IsBroughtTo d e.tick want out (play out (saying e ms)) =
    laws.bringing.reaches out e d want follows.out_zones follows.out_reached (row.channel d u)
    (all_weaker (λ n. is_part o n.channel ≡ true → n.key < 128) (λ n. n.channel ≡ d → n.key < 128)
    (λ n f i. f (ap (is_part o) i ∙ row.retuned d u)) out.notes fit) (sound.good p) in
    let silent : AllByRecursion (λ n. n.channel ≡ d → sounds n ≡ false) out.notes =
    pair_second (Seen port o table k t c j x) (λ n. n.channel ≡ d → sounds n ≡ false)
    (silent_on port o table k t c j x w (row.retuned d u) was) b.source.notes out.notes seen in
    let kept : AllByRecursion (λ n. brought_on d e.tick (channel_at out d) want n ≡ n) out.notes =
    all_weaker (λ n. n.channel ≡ d → sounds n ≡ false) (λ n. brought_on d e.tick (channel_at out d) want n ≡ n)
    (λ n f. elim (cases_eq n.channel d) [
      | inl i ↦ on_here d e.tick (channel_at out d) want n i ∙ brought_silent e.tick (channel_at out d) want n (f i)
      | inr i ↦ on_elsewhere d e.tick (channel_at out d) want n i
    ]) out.notes silent in
    record {
      notes = to.notes ∙ map_kept (brought_on d e.tick (channel_at out d) want) out.notes kept;
      here = to.channel;
      others = to.others;
      same = λ h. absurd (both_ways (is_member is_same_pair k.was p) was h);
      zones = to.zones ∙ follows.out_zones;
      reached = reached_play out (saying e ms) (saying_valid e ms sound.valid.tick (laws.bringing.valid out d want follows.out_reached
          (row.channel d u) (sound.good p))) follows.out_reached;
    }

-- ---- the event

pub last_of : (P : Note → Type 0) (ns : List Note) (n : Note) → AllByRecursion P (ns ++ n ∷ []) → P n
last_of P [] n h = h.0
last_of P (x ∷ xs) n h = last_of P xs n h.1

pub front_of : (P : Note → Type 0) (f : Note → Note) (ns xs : List Note) → AllByRecursion P (map f ns ++ xs) → AllByRecursion (λ n. P (f n)) ns
front_of P f [] xs h = tt
front_of P f (n ∷ ns) xs h = (h.0, front_of P f ns xs h.1)

begin_stepped : (Good : State → Type 0) → Laws Good → (port : ℕ) (o : Options) (table : Targets) (used : ℕ → Bool) → AreUsed o used → (k : Moment)
    (b : Both) (t track c j v : ℕ) → is_part o c ≡ true →
    Follows Good port o table used k.old k.was b → IsGiven Good port o table used k b.source (said_at t track (NoteOn c j (suc v))) →
    Stepped port o table used k b (step b.source (said_at t track (NoteOn c j (suc v))))
    (play b.out (port_block port o table k b.source b.out (said_at t track (NoteOn c j (suc v)))))
begin_stepped Good laws port o table used row k b t track c j v part follows sound =
    let msg : Msg = NoteOn c j (suc v) in
    let e : MidiEvent = said_at t track msg in
    let src : Music = b.source in
    let out : Music = b.out in
    let after : Music = step src e in
    let fit : IsFine port o table src after k.is t msg = fine port o table src after k.is t msg sound.faultless in
    let target = aimed o table t c j v row.route part fit.mapped fit.in_device in
    let x : BendTarget = target.0 in
    let p : Pair = pair_with port c x in
    let d : ℕ = k.new p in
    let is : after ≡ struck src t c j (suc v) = strikes_note src t c j v follows.source_zones follows.source_settled in
    let same : (q : ℕ) → channel_at after q ≡ channel_at src q = λ q. ap (λ (m : Music). channel_at m q) is in
    let among : Note → Type 0 = λ a. is_part o a.channel ≡ true → sounds a ≡ true → IsAmong port k.holds a.channel (target_of o table a) in
    let later : Note → Type 0 = λ a. is_part o a.channel ≡ true → sounds a ≡ true → IsAmong port k.is a.channel (target_of o table a) in
    let there : AllByRecursion later (struck src t c j (suc v)).notes = subst (λ (m : Music). AllByRecursion later m.notes) is sound.there in
    let w : Strike port o table k t c j x = record {
      part = part;
      aim = target.1;
      there = subst (IsAmong port k.is c) target.1 (last_of later (map (cut_off t c j) src.notes) (new_note src t c j (suc v)) there part refl);
      was = sound.was_there;
      kept = sound.kept;
      apart = sound.apart_is;
    } in
    let aside : AllByRecursion (IsAside o table c j x) src.notes =
    all_aside o table t c j v x src.notes row.route part target.1 fit.unison fit.restrike in
    let cut_later : Note → Type 0 = λ a. later (cut_off t c j a) in
    let seen : Pairwise (Seen port o table k t c j x) src.notes out.notes =
    pair_along (IsMatched port o table k.old) (Held_note port o table k t c j x) src.notes out.notes follows.notes
    (all_both (λ a. among a × cut_later a) (IsAside o table c j x) src.notes (all_both among cut_later src.notes sound.held
    (front_of later (cut_off t c j) src.notes (new_note src t c j (suc v) ∷ []) there)) aside) in
    let was : Bool = is_member is_same_pair k.was p in
    let ms : List Msg = setup o table k after out p was in
    let m : Music = play out (saying e ms) in
    let r : IsReady o table k after out p m = ready Good laws port o table used row k b e t c j x w follows sound same seen was refl in
    let y : Music = struck m t d x.key (suc v) in
    let played : play out (port_block port o table k src out e) ≡ y =
    ap (play out) (part_block port o table k src out t track msg (ms ++ NoteOn d x.key (suc v) ∷ []) part
    (ap (strikes port o table k after out c (suc v)) target.1))
    ∙ play_saying out e ms (NoteOn d x.key (suc v) ∷ []) ∙ strikes_note m t d x.key v r.zones (settled_reached laws.settle m r.reached) in
    let u : used d ≡ true = sound.used_is p w.there in
    let new : IsMatched port o table k.new (new_note src t c j (suc v)) (new_note m t d x.key (suc v)) = record {
      retuned = row.retuned d u ∙ sym part;
      played = λ q. record {
        target = x;
        aim = target.1;
        key = refl;
        onset = refl;
        velocity = refl;
        voice = r.here.voice ∙ ap (λ (s : Channel). s.voice) (same c);
        release = refl;
        ended = refl;
        sounding = λ s. record { channel = refl; captured = refl; pressure = refl };
      };
    } in
    let old : Pairwise (IsMatched port o table k.new) (map (cut_off t c j) src.notes) (map (cut_off t d x.key) out.notes) =
    pair_map (Seen port o table k t c j x) (IsMatched port o table k.new) (cut_off t c j) (cut_off t d x.key)
    (cut_match port o table k t c j x w) src.notes out.notes seen in
    let notes : Pairwise (IsMatched port o table k.new) (struck src t c j (suc v)).notes y.notes =
    pair_append (IsMatched port o table k.new) (map (cut_off t c j) src.notes) (new_note src t c j (suc v) ∷ []) (map (cut_off t d x.key) m.notes)
    (new_note m t d x.key (suc v) ∷ [])
    (subst (λ ns. Pairwise (IsMatched port o table k.new) (map (cut_off t c j) src.notes) (map (cut_off t d x.key) ns)) (sym r.notes) old)
    (new, tt) in
    -- the pair that a run begins with is the note's
    let begins : (q : Pair) → BeginsAt k q → q ≡ p = λ q g.
    (let f : Begins port o table t (Says msg) q = sound.from q g.is (false_from_ne_true (is_member is_same_pair k.holds q)
    (λ h. both_ways (is_member is_same_pair k.was q) g.new (sound.was_there q h))) in
    let one : f.1.0 ≡ x = (let a : bend_target_if o.range (table j t) ≡ Some f.1.0 = f.1.1 in let z : bend_target_if o.range (table j t) ≡ Some x =
    target.1 in cc) in
    f.1.2 ∙ ap (pair_with port c) one) in
    let needs : (q : Pair) → (wanted o table after q).own ≡ (wanted o table src q).own = λ q. same_own o table src after q (same q.part.channel) in
    let done : Stepped port o table used k b after y = record {
      notes = subst (λ (z : Music). Pairwise (IsMatched port o table k.new) z.notes y.notes) (sym is) notes;
      apart = subst (λ (z : Music). AreApart o table z.notes) (sym is) (struck_apart o table src t c j (suc v) x target.1 aside follows.apart);
      begins = λ q g. subst (λ z. IsSameAside (channel_at m (k.new z)) (wanted o table after z).own) (sym (begins q g)) r.here;
      holds = λ q h free. elim (cases_eq (k.old q) d) [
        | inl i ↦ elim (cases_Bool (is_member is_same_pair k.was p)) [
          | inl g ↦ (let z : q ≡ p = sound.apart_was q p (sound.was_there q h) g (i ∙ sound.kept p g w.there) in
              subst (λ f. IsSameAside (channel_at m f) (wanted o table after q).own) (sym i)
              (subst (λ f. IsSameAside (channel_at m d) (wanted o table after f).own) (sym z) r.here))
          | inr g ↦ absurd (free p (record { is = w.there; new = g }) (sym i))
        ]
        | inr i ↦ subst (λ f. IsSameAside f (wanted o table after q).own) (sym (r.others (k.old q) i))
            (subst (IsSameAside (channel_at out (k.old q))) (sym (needs q))
            (held_state Good port o table used k b e follows sound q (sound.was_there q h)))
      ];
      others = λ q g free none. elim (cases_eq q d) [
        | inl i ↦ elim (cases_Bool (is_member is_same_pair k.was p)) [
          | inl h ↦ subst (λ f. IsSameAside f (b.left q)) (sym (r.same h q)) (follows.states q g)
          | inr h ↦ absurd (free p (record { is = w.there; new = h }) (sym i))
        ]
        | inr i ↦ subst (λ f. IsSameAside f (b.left q)) (sym (r.others q i)) (follows.states q g)
      ];
      same = λ q i h. sym (needs q);
      source_zones = ap (λ (z : Music). z.zones) is;
      source_settled = laws.settle src e follows.source_settled;
      out_zones = refl;
      out_reached = subst IsReached (strikes_note m t d x.key v r.zones (settled_reached laws.settle m r.reached))
          (reached_play m (saying e (NoteOn d x.key (suc v) ∷ []))
          (saying_valid e (NoteOn d x.key (suc v) ∷ []) sound.valid.tick (
            (
              omega (arith, row.channel d u),
              omega (arith, aim_fits o.range (table j t) x target.1),
              sound.valid.what.2,
            ),
            tt,
          )) r.reached);
    } in
    subst (Stepped port o table used k b after) (sym played) done

pub begin_follows : (Good : State → Type 0) → Laws Good → (port : ℕ) (o : Options) (table : Targets) (used : ℕ → Bool) → AreUsed o used →
    (k : Moment) (b : Both) (t track c j v : ℕ) → is_part o c ≡ true →
    Follows Good port o table used k.old k.was b → IsGiven Good port o table used k b.source (said_at t track (NoteOn c j (suc v))) →
    Follows Good port o table used k.new k.is (next_both port o table k b (said_at t track (NoteOn c j (suc v))))
begin_follows Good laws port o table used row k b t track c j v part follows sound =
    follows_next Good port o table used k b (said_at t track (NoteOn c j (suc v))) follows sound refl
    (begin_stepped Good laws port o table used row k b t track c j v part follows sound)
