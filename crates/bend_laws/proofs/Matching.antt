-- Where a message of a part brings the channels that the part holds, the notes stay matched.
use Rattle.std.proofs.Common.{◌≡◌, ◌≢◌, ℕ, Bool, true, false, not, List, [], ◌∷◌, Option, Some, None, is_some, refl, ap, sym, ◌∙◌, subst, map, get_or, inl, inr}
use Rattle.std.specs.List.{AllByRecursion}
use Rattle.std.proofs.lemmas.Bool.{cases_Bool, both_ways, cases_eq}
use Rattle.retune_model.specs.Pairs.{Pair}
use Rattle.midi_model.specs.Channel.{Channel, State, control_of}
use Rattle.midi_model.specs.Notes.{Note, sounds}
use Rattle.midi_model.specs.Music.{Music, channel_at}
use Rattle.retune_model.specs.Options.{Options}
use Rattle.retune_model.specs.PlaysTheSame.{Pairwise}
use Rattle.retune_model.specs.Faults.{Targets, is_part, target_of}
use Rattle.channel_model.specs.Choice.{wanted}
use Rattle.channel_model.specs.BendOutput.{Held, held_by, pair_with}
use Rattle.bend_laws.specs.Moments.{Moment}
use Rattle.bend_laws.proofs.Brought.{turned_captured, turned_ended, turned, end_of, pressed, brought, brought_on}
use Rattle.bend_laws.specs.Follows.{Has, SoundsAlike, IsPlayedBy, IsMatched, AreApart, IsAmong, SoundAmong}
use Rattle.bend_laws.proofs.Lists.{pair_map, pair_along}
use Rattle.bend_laws.proofs.Holding.{held_pair, OnOwnChannels, held_in, held_all}
use Rattle.bend_laws.proofs.Turned.{IsTurned, IsTurnedBy}
use Rattle.bend_laws.proofs.Bringing.{brought_by, brought_none, brought_one, on_channel, on_here, on_elsewhere, AreBrought}
use Rattle.bend_laws.proofs.Keys.{Finds, all_find}

-- ---- a note that is turned

pub sounded : (t x y h : ℕ) (r : Option (ℕ × ℕ)) (k : Bool) (e : Option ℕ) → not (is_some (turned_ended t x y h r k e)) ≡ true → not (is_some e) ≡ true
sounded t x y h r k None s = refl
sounded t x y h r k (Some e) s = s

pub sounded_before : (t p : ℕ) (now after : Channel) (a : Note) → sounds (turned t now after p a) ≡ true → sounds a ≡ true
sounded_before t p now after a s = sounded t (control_of now 66) (control_of after 66) (control_of after 64) a.release a.captured a.ended s

-- a note that had ended keeps its end and whether it was captured
silent_end : (t x y h : ℕ) (r : Option (ℕ × ℕ)) (k : Bool) (e : Option ℕ) → not (is_some e) ≡ false → turned_ended t x y h r k e ≡ e
silent_end t x y h r k None s = absurd cc
silent_end t x y h r k (Some e) s = refl

silent_captured : (x y : ℕ) (r : Option (ℕ × ℕ)) (k : Bool) (e : Option ℕ) → not (is_some e) ≡ false → turned_captured x y r k e ≡ k
silent_captured x y r k None s = absurd cc
silent_captured x y r k (Some e) s = refl

silent_pressed : (keys : List ℕ) (key p : ℕ) (e : Option ℕ) → not (is_some e) ≡ false → pressed keys key p e ≡ p
silent_pressed keys key p None s = absurd cc
silent_pressed keys key p (Some e) s = refl

abbrev noted : Note → Bool → ℕ → Option ℕ → Note
noted n k p e = record n { captured = k; pressure = p; ended = e }

pub brought_silent : (t : ℕ) (now : Channel) (w : State) (n : Note) → sounds n ≡ false → brought t now w n ≡ n
brought_silent t now w n s =
    let x : ℕ = control_of now 66 in
    let y : ℕ = control_of w.own 66 in
    let h : ℕ = control_of w.own 64 in
    let e : turned_ended t x y h n.release n.captured n.ended ≡ n.ended = silent_end t x y h n.release n.captured n.ended s in
    ap (λ z. noted n (turned_captured x y n.release n.captured n.ended) (pressed w.keys n.key n.pressure z) z) e
    ∙ ap (λ k. noted n k (pressed w.keys n.key n.pressure n.ended) n.ended) (silent_captured x y n.release n.captured n.ended s)
    ∙ ap (λ p. noted n n.captured p n.ended) (silent_pressed w.keys n.key n.pressure n.ended s)

on_silent : (c t : ℕ) (now : Channel) (w : State) (n : Note) → sounds n ≡ false → brought_on c t now w n ≡ n
on_silent c t now w n s = elim (cases_eq n.channel c) [
  | inl e ↦ on_here c t now w n e ∙ brought_silent t now w n s
  | inr e ↦ on_elsewhere c t now w n e
]

pub by_silent : (o : Options) (table : Targets) (after out : Music) (t : ℕ) (hs : List Held) (n : Note) → sounds n ≡ false →
    brought_by o table after out t hs n ≡ n
by_silent o table after out t [] n s = refl
by_silent o table after out t (h ∷ hs) n s =
    ap (brought_by o table after out t hs) (on_silent h.channel t (channel_at out h.channel) (wanted o table after h.pair) n s)
    ∙ by_silent o table after out t hs n s

pub by_channel : (o : Options) (table : Targets) (after out : Music) (t : ℕ) (hs : List Held) (n : Note) →
    (brought_by o table after out t hs n).channel ≡ n.channel
by_channel o table after out t [] n = refl
by_channel o table after out t (h ∷ hs) n =
    by_channel o table after out t hs (brought_on h.channel t (channel_at out h.channel) (wanted o table after h.pair) n)
    ∙ on_channel h.channel t (channel_at out h.channel) (wanted o table after h.pair) n

-- ---- both notes

ended_alike : (t x y h u v g : ℕ) (r s : Option (ℕ × ℕ)) (k l : Bool) (e f : Option ℕ) → u ≡ x → v ≡ y → g ≡ h → s ≡ r → l ≡ k → f ≡ e →
    turned_ended t u v g s l f ≡ turned_ended t x y h r k e
ended_alike t x y h u v g r s k l e f a b c d i j = cc

captured_alike : (x y u v : ℕ) (r s : Option (ℕ × ℕ)) (k l : Bool) (e f : Option ℕ) → u ≡ x → v ≡ y → s ≡ r → l ≡ k → f ≡ e →
    turned_captured u v s l f ≡ turned_captured x y r k e
captured_alike x y u v r s k l e f a b d i j = cc

-- what the output's note becomes, seen from the source's
pressed_sounding : (keys : List ℕ) (key p : ℕ) (e : Option ℕ) → not (is_some e) ≡ true → pressed keys key p e ≡ get_or keys key 0
pressed_sounding keys key p None s = refl
pressed_sounding keys key p (Some e) s = absurd cc

both_turned : (port : ℕ) (o : Options) (table : Targets) (place : Pair → ℕ) (t p : ℕ) (now after mine : Channel) (w : State) (a b : Note) →
    (h : IsPlayedBy port o table place a b) → sounds a ≡ true →
    mine.controls ≡ now.controls → w.own.controls ≡ after.controls → (sounds (turned t now after p a) ≡ true → get_or w.keys h.target.key 0 ≡ p) →
    IsPlayedBy port o table place (turned t now after p a) (brought t mine w b)
both_turned port o table place t p now after mine w a b h s m i k =
    let alike : SoundsAlike (place (pair_with port a.channel h.target)) a b = h.sounding s in
    let x : control_of mine 66 ≡ control_of now 66 = ap (λ cs. get_or cs 66 0) m in
    let y : control_of w.own 66 ≡ control_of after 66 = ap (λ cs. get_or cs 66 0) i in
    let z : control_of w.own 64 ≡ control_of after 64 = ap (λ cs. get_or cs 64 0) i in
    let e : end_of t mine w.own b ≡ end_of t now after a =
    ended_alike t (control_of now 66) (control_of after 66) (control_of after 64) (control_of mine 66) (control_of w.own 66)
    (control_of w.own 64) a.release b.release a.captured b.captured a.ended b.ended x y z h.release alike.captured h.ended in
    record {
      target = h.target;
      aim = h.aim;
      key = h.key;
      onset = h.onset;
      velocity = h.velocity;
      voice = h.voice;
      release = h.release;
      ended = e;
      sounding = λ now_sounds. record {
        channel = alike.channel;
        captured = captured_alike (control_of now 66) (control_of after 66) (control_of mine 66)
            (control_of w.own 66) a.release b.release a.captured b.captured a.ended b.ended x y h.release alike.captured h.ended;
        pressure = pressed_sounding w.keys b.key b.pressure (end_of t mine w.own b) (ap (λ q. not (is_some q)) e ∙ now_sounds)
            ∙ ap (λ j. get_or w.keys j 0) h.key ∙ k now_sounds;
      };
    }

-- a note that had ended
silent_turned : (port : ℕ) (o : Options) (table : Targets) (place : Pair → ℕ) (t p : ℕ) (now after : Channel) (a b : Note) →
    IsPlayedBy port o table place a b → sounds a ≡ false → IsPlayedBy port o table place (turned t now after p a) b
silent_turned port o table place t p now after a b h s = record {
  target = h.target;
  aim = h.aim;
  key = h.key;
  onset = h.onset;
  velocity = h.velocity;
  voice = h.voice;
  release = h.release;
  ended = h.ended ∙ sym (silent_end t (control_of now 66) (control_of after 66) (control_of after 64) a.release a.captured a.ended s);
  sounding = λ g. absurd (both_ways (sounds a) s (sounded_before t p now after a g));
}

pub output_sounds : (port : ℕ) (o : Options) (table : Targets) (place : Pair → ℕ) (a b : Note) → IsPlayedBy port o table place a b →
    sounds b ≡ sounds a
output_sounds port o table place a b h = ap (λ e. not (is_some e)) h.ended

-- ---- one note, at a message of part c that brings what the part holds

-- what is known around the message
pub record Around (o : Options) (table : Targets) (k : Moment) (c t : ℕ) (src after out : Music) : Type 0 where
  pub part : is_part o c ≡ true
  pub apart : (p q : Pair) → Has k.holds p → Has k.holds q → k.old p ≡ k.old q → p ≡ q
  pub own : OnOwnChannels (held_by k.old c k.holds)
  pub now : (p : Pair) → Has k.holds p → (channel_at out (k.old p)).controls ≡ (channel_at src p.part.channel).controls

abbrev pub Seen : ℕ → Options → Targets → Moment → ℕ → ℕ → (src after : Music) → (Note → Note) → Note → Note → Type 0
Seen port o table k c t src after turn a b =
    ((IsMatched port o table k.old a b × (is_part o a.channel ≡ true → sounds a ≡ true → IsAmong port k.holds a.channel (target_of o table a))) ×
    IsTurned c t (channel_at src c) (channel_at after c) a (turn a))
    × Finds port o table after.notes (turn a)

turn_channel : (c t : ℕ) (now after : Channel) (a x : Note) → IsTurned c t now after a x → x.channel ≡ a.channel
turn_channel c t now after a x h = elim (cases_eq a.channel c) [
  | inl e ↦ ap (λ (n : Note). n.channel) (h.here e)
  | inr e ↦ ap (λ (n : Note). n.channel) (h.elsewhere e)
]

played_turned : (port : ℕ) (o : Options) (table : Targets) (k : Moment) (c t : ℕ) (src after out : Music) → Around o table k c t src after out →
    (turn : Note → Note) (a b : Note) → Seen port o table k c t src after turn a b →
    (h : IsPlayedBy port o table k.old a b) → is_part o a.channel ≡ true → IsPlayedBy port o table k.old (turn a)
    (brought_by o table after out t (held_by k.old c k.holds) b)
played_turned port o table k c t src after out w turn a b seen h part = elim (cases_Bool (sounds a)) [
  | inr s ↦ (let y : Note = brought_by o table after out t (held_by k.old c k.holds) b in
      let same : y ≡ b = by_silent o table after out t (held_by k.old c k.holds) b (output_sounds port o table k.old a b h ∙ s) in
      subst (λ z. IsPlayedBy port o table k.old (turn a) z) (sym same) (elim (cases_eq a.channel c) [
        | inl e ↦ subst (λ x. IsPlayedBy port o table k.old x b) (sym (seen.0.1.here e))
            (silent_turned port o table k.old t seen.0.1.pressure (channel_at src c) (channel_at after c) a b h s)
        | inr e ↦ subst (λ x. IsPlayedBy port o table k.old x b) (sym (seen.0.1.elsewhere e)) h
      ]))
  | inl s ↦ (let p : Pair = pair_with port a.channel h.target in
      let holds : Has k.holds p = subst (IsAmong port k.holds a.channel) h.aim (seen.0.0.1 part s) in
      let on : b.channel ≡ k.old p = (h.sounding s).channel in
      elim (cases_eq a.channel c) [
        | inl e ↦ (let x : Note = turned t (channel_at src c) (channel_at after c) seen.0.1.pressure a in
            let is : turn a ≡ x = seen.0.1.here e in
            let finds : Finds port o table after.notes x = subst (Finds port o table after.notes) is seen.1 in
            subst (λ z. IsPlayedBy port o table k.old z (brought_by o table after out t (held_by k.old c k.holds) b)) (sym is)
            (subst (λ z. IsPlayedBy port o table k.old x z) (sym (brought_one o table after out t (held_pair k.old p)
            (held_by k.old c k.holds) b (held_in k.old c k.holds p holds e) w.own on))
            (both_turned port o table k.old t seen.0.1.pressure (channel_at src c) (channel_at after c) (channel_at out (k.old p))
            (wanted o table after p) a b h s
            (w.now p holds ∙ ap (λ d. (channel_at src d).controls) e) (ap (λ d. (channel_at after d).controls) e)
            (λ g. finds part g h.target h.aim))))
        | inr e ↦ subst (λ z. IsPlayedBy port o table k.old z (brought_by o table after out t (held_by k.old c k.holds) b))
            (sym (seen.0.1.elsewhere e))
            (subst (λ z. IsPlayedBy port o table k.old a z)
            (sym (brought_none o table after out t (held_by k.old c k.holds) b (held_all (λ g. b.channel ≢ g.channel) k.old c k.holds
            (λ q m i same. e (ap (λ (r : Pair). r.part.channel) (w.apart p q holds m (sym on ∙ same)) ∙ i)))))
            h)
      ])
]

matched_turned : (port : ℕ) (o : Options) (table : Targets) (k : Moment) (c t : ℕ) (src after out : Music) → Around o table k c t src after out →
    (turn : Note → Note) (a b : Note) → Seen port o table k c t src after turn a b →
    IsMatched port o table k.old (turn a) (brought_by o table after out t (held_by k.old c k.holds) b)
matched_turned port o table k c t src after out w turn a b seen =
    let same : (turn a).channel ≡ a.channel = turn_channel c t (channel_at src c) (channel_at after c) a (turn a) seen.0.1 in
    record {
      retuned = ap (is_part o) (by_channel o table after out t (held_by k.old c k.holds) b) ∙ seen.0.0.0.retuned ∙ ap (is_part o) (sym same);
      played = λ p. (let q : is_part o a.channel ≡ true = ap (is_part o) (sym same)
          ∙ p in played_turned port o table k c t src after out w turn a b seen (seen.0.0.0.played q) q);
    }

pub all_unmap : (P : Note → Type 0) (f : Note → Note) (ns : List Note) → AllByRecursion P (map f ns) → AllByRecursion (λ n. P (f n)) ns
all_unmap P f [] h = tt
all_unmap P f (n ∷ ns) h = (h.0, all_unmap P f ns h.1)

-- all notes
pub notes_turned : (port : ℕ) (o : Options) (table : Targets) (k : Moment) (c t : ℕ) (src after out x : Music) →
    Around o table k c t src after out → IsTurnedBy c t src after →
    AreApart o table after.notes → SoundAmong port o table k.holds src.notes → AreBrought o table after out t (held_by k.old c k.holds) out x →
    Pairwise (IsMatched port o table k.old) src.notes out.notes →
    Pairwise (IsMatched port o table k.old) after.notes x.notes
notes_turned port o table k c t src after out x w turns apart among to match =
    let among_all : Note → Type 0 = λ a. is_part o a.channel ≡ true → sounds a ≡ true → IsAmong port k.holds a.channel (target_of o table a) in
    let turned_all : Note → Type 0 = λ a. IsTurned c t (channel_at src c) (channel_at after c) a (turns.turn a) in
    let found : Note → Type 0 = λ a. Finds port o table after.notes (turns.turn a) in
    let finds : AllByRecursion found src.notes = all_unmap (Finds port o table after.notes) turns.turn src.notes
    (subst (AllByRecursion (Finds port o table after.notes)) turns.notes (all_find port o table after.notes apart)) in
    let two : Pairwise (λ a b. IsMatched port o table k.old a b × among_all a) src.notes out.notes =
    pair_along (IsMatched port o table k.old) among_all src.notes out.notes match among in
    let three : Pairwise (λ a b. (IsMatched port o table k.old a b × among_all a) × turned_all a) src.notes out.notes =
    pair_along (λ a b. IsMatched port o table k.old a b × among_all a) turned_all src.notes out.notes two turns.each in
    let seen : Pairwise (Seen port o table k c t src after turns.turn) src.notes out.notes =
    pair_along (λ a b. (IsMatched port o table k.old a b × among_all a) × turned_all a) found src.notes out.notes three finds in
    let done : Pairwise (IsMatched port o table k.old) (map turns.turn src.notes)
    (map (brought_by o table after out t (held_by k.old c k.holds)) out.notes) =
    pair_map (Seen port o table k c t src after turns.turn)
    (IsMatched port o table k.old) turns.turn (brought_by o table after out t (held_by k.old c k.holds))
    (matched_turned port o table k c t src after out w turns.turn) src.notes out.notes seen in
    subst (λ ns. Pairwise (IsMatched port o table k.old) ns x.notes) (sym turns.notes)
    (subst (λ ns. Pairwise (IsMatched port o table k.old) (map turns.turn src.notes) ns) (sym to.notes) done)
