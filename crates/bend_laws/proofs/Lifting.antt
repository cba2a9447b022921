-- Keys that go up, and the notes that end by it.
use Rattle.std.proofs.Common.{◌≡◌, ℕ, zero, Bool, true, false, cond, not, ◌&&◌, ◌||◌, List, [], ◌∷◌, Option, Some, None, is_some, refl, ap, sym, ◌∙◌, subst, map, nat_eq, set, get_or, inl, inr}
use Rattle.std.specs.List.{AllByRecursion}
use Rattle.std.proofs.lemmas.Bool.{cases_Bool, both_ways, eq-eqb, eqb-true, and_parts}
use Rattle.std.proofs.lemmas.List.{set-get_or}
use Rattle.retune_model.specs.Pairs.{Pair}
use Rattle.mt_base.specs.declared.event.Msg.TheVariants.{NoteOn, NoteOff}
use Rattle.midi_model.specs.Sysex.{Plays}
use Rattle.midi_model.specs.Channel.{Channel, default_channel, control_of}
use Rattle.midi_model.specs.Zones.{no_zones}
use Rattle.midi_model.specs.Notes.{Note, sounds, is_down, is_at, hears, is_pedal_down, ending, releasing, release_key, release_all}
use Rattle.midi_model.specs.Music.{Music, channel_at, pedal, settle_note, advance}
use Rattle.retune_model.specs.Table.{BendTarget}
use Rattle.retune_model.specs.Options.{Options}
use Rattle.retune_model.specs.Faults.{Targets, is_part, is_same_target, target_of}
use Rattle.channel_model.specs.BendOutput.{pair_with, pressed_note}
use Rattle.bend_laws.specs.Follows.{SoundsAlike, IsPlayedBy, AreTwo, AreApart}
use Rattle.bend_laws.proofs.Equal.{own_governor, same_target}
use Rattle.bend_laws.proofs.Lists.{all_weaker, map_map}
use Rattle.bend_laws.proofs.Turned.{plain, said}
use Rattle.bend_laws.proofs.Altered.{altered, played_altered}

-- ---- one note whose key goes up or not, and which then settles

abbrev pub over_at : (t : ℕ) → (release : Option (ℕ × ℕ)) → (captured : Bool) → (hold : ℕ) → Option ℕ → Option ℕ
over_at t r k h (Some s) = Some s
over_at t r k h None = cond (is_some r && (not k && not (is_pedal_down h))) (Some t) None

abbrev pub lifted_release : ℕ → ℕ → Bool → Option (ℕ × ℕ) → Option (ℕ × ℕ)
lifted_release t v hit r = cond hit (Some (t, v)) r

abbrev pub lifted : (t v : ℕ) → (hit : Bool) → (hold : ℕ) → Note → Note
lifted t v hit h n = altered n (lifted_release t v hit n.release) n.captured n.pressure (over_at t
    (lifted_release t v hit n.release) n.captured h n.ended)

settled_form : (t h : ℕ) (r : Option (ℕ × ℕ)) (n : Note) (e : Option ℕ) →
    (let y : Note = record n { release = r; ended = e } in cond (is_some r && (not n.captured && not (is_pedal_down h)))
    (ending t y) y ≡ record n { release = r; ended = over_at t r n.captured h e })
settled_form t h r n (Some s) = pick (is_some r && (not n.captured && not (is_pedal_down h)))
  where
    pick : (b : Bool) → cond b (record n { release = r; ended = Some s }) (record n { release = r; ended = Some s }) ≡ record n {
      release =
          r;
      ended = Some s;
    }
    pick true = refl
    pick false = refl
settled_form t h r n None = pick (is_some r && (not n.captured && not (is_pedal_down h)))
  where
    pick : (b : Bool) → cond b (record n { release = r; ended = Some t }) (record n { release = r; ended = None }) ≡ record n {
      release =
          r;
      ended = cond b (Some t) None;
    }
    pick true = refl
    pick false = refl

pub lifted_form : (ss : List Channel) (t v : ℕ) (n : Note) (hit : Bool) →
    settle_note ss no_zones t (cond hit (record n { release = Some (t, v) }) n) ≡ lifted t v hit (pedal ss no_zones n) n
lifted_form ss t v n true = settled_form t (pedal ss no_zones n) (Some (t, v)) n n.ended
lifted_form ss t v n false = settled_form t (pedal ss no_zones n) n.release n n.ended

two_tests : (a b : Bool) (x y : Note) → cond a (cond b x y) y ≡ cond (a && b) x y
two_tests true b x y = refl
two_tests false b x y = refl

pub lifts_key : (ss : List Channel) (t c j v : ℕ) (n : Note) → settle_note ss no_zones t (release_key t c j v n)
    ≡ lifted t v (is_at c j n && is_down n) (pedal ss no_zones n) n
lifts_key ss t c j v n = ap (settle_note ss no_zones t) (two_tests (is_at c j n) (is_down n) (record n { release = Some (t, v) }) n)
    ∙ lifted_form ss t v n (is_at c j n && is_down n)

twice : (b : Bool) → (b || b) ≡ b
twice true = refl
twice false = refl

pub heard_here : (c : ℕ) (n : Note) → hears no_zones c n ≡ nat_eq n.channel c
heard_here c n = ap (λ d. nat_eq n.channel c || nat_eq d c) (own_governor n.channel) ∙ twice (nat_eq n.channel c)

pub lifts_all : (ss : List Channel) (t c : ℕ) (n : Note) → settle_note ss no_zones t (release_all t no_zones c n)
    ≡ lifted t 64 (nat_eq n.channel c && is_down n) (pedal ss no_zones n) n
lifts_all ss t c n =
    ap (settle_note ss no_zones t) (ap (λ b. cond b (releasing t 64 n) n) (heard_here c n) ∙ two_tests (nat_eq n.channel c) (is_down n)
    (record n { release = Some (t, 64) }) n) ∙ lifted_form ss t 64 n (nat_eq n.channel c && is_down n)

-- the hold pedal that a note listens to is that of its own channel
pub pedal_is : (m : Music) (n : Note) → pedal m.channels no_zones n ≡ control_of (channel_at m n.channel) 64
pedal_is m n = ap (λ d. control_of (get_or m.channels d default_channel) 64) (own_governor n.channel)

-- ---- both notes

pub silent_over : (t h : ℕ) (r : Option (ℕ × ℕ)) (k : Bool) (e : Option ℕ) → not (is_some e) ≡ false → over_at t r k h e ≡ e
silent_over t h r k None s = absurd cc
silent_over t h r k (Some e) s = refl

sounded_over : (t h : ℕ) (r : Option (ℕ × ℕ)) (k : Bool) (e : Option ℕ) → not (is_some (over_at t r k h e)) ≡ true → not (is_some e) ≡ true
sounded_over t h r k None s = refl
sounded_over t h r k (Some e) s = s

over_alike : (t h g : ℕ) (r s : Option (ℕ × ℕ)) (k l : Bool) (e f : Option ℕ) → g ≡ h → s ≡ r → l ≡ k → f ≡ e → over_at t s l g f ≡ over_at t r k h e
over_alike t h g r s k l e f a b c d = cc

pub down_alike : (port : ℕ) (o : Options) (table : Targets) (place : Pair → ℕ) (a b : Note) → IsPlayedBy port o table place a b →
    is_down b ≡ is_down a
down_alike port o table place a b h = ap (λ e. not (is_some e) && not (is_some b.release)) h.ended ∙ ap (λ r. sounds a && not (is_some r)) h.release

pub played_lifted : (port : ℕ) (o : Options) (table : Targets) (place : Pair → ℕ) (t v h g : ℕ) (hit hits : Bool) (a b : Note) →
    IsPlayedBy port o table place a b → hits ≡ hit → (sounds a ≡ true → g ≡ h) → IsPlayedBy port o table place (lifted t v hit h a)
    (lifted t v hits g b)
played_lifted port o table place t v h g hit hits a b p same pedals =
    let release : lifted_release t v hits b.release ≡ lifted_release t v hit a.release = ap (λ x. lifted_release t v x b.release) same
    ∙ ap (lifted_release t v hit) p.release in
    let r : Option (ℕ × ℕ) = lifted_release t v hit a.release in
    let s : Option (ℕ × ℕ) = lifted_release t v hits b.release in
    let ended : over_at t s b.captured g b.ended ≡ over_at t r a.captured h a.ended = elim (cases_Bool (sounds a)) [
      | inl i ↦ over_alike t h g r s a.captured b.captured a.ended b.ended (pedals i) release (p.sounding i).captured p.ended
      | inr i ↦ silent_over t g s b.captured b.ended (ap (λ e. not (is_some e)) p.ended ∙ i) ∙ p.ended ∙ sym (silent_over t h r a.captured a.ended i)
    ] in
    played_altered port o table place place a b r s a.captured b.captured a.pressure b.pressure (over_at t r a.captured h a.ended)
    (over_at t s b.captured g b.ended) p release ended
    (λ i. (let y : SoundsAlike (place (pair_with port a.channel p.target)) a b =
    p.sounding (sounded_over t h r a.captured a.ended i) in record { on = y.channel; captured = y.captured; pressure = y.pressure }))

-- ---- the note whose key is down

pub pressed_element : (P : Note → Type 0) (c j : ℕ) (ns : List Note) (n : Note) → AllByRecursion P ns → pressed_note c j ns ≡ Some n → P n ×
    (is_at c j n ≡ true) × (is_down n ≡ true)
pressed_element P c j [] n h e = absurd cc
pressed_element P c j (x ∷ xs) n h e = elim (cases_Bool (is_at c j x && is_down x)) [
  | inl i ↦ (let same : x ≡ n = (let g : cond true (Some x) (pressed_note c j xs) ≡ Some n = ap (λ b. cond b (Some x) (pressed_note c j xs))
      (sym i) ∙ e in cc) in
      let two = and_parts (is_at c j x) (is_down x) i in
      (subst P same h.0, ap (is_at c j) (sym same) ∙ two.0, ap is_down (sym same) ∙ two.1))
  | inr i ↦ pressed_element P c j xs n h.1 (ap (λ b. cond b (Some x) (pressed_note c j xs)) (sym i) ∙ e)
]

pub none_pressed : (c j : ℕ) (ns : List Note) → pressed_note c j ns ≡ None → AllByRecursion (λ n. (is_at c j n && is_down n) ≡ false) ns
none_pressed c j [] e = tt
none_pressed c j (x ∷ xs) e = elim (cases_Bool (is_at c j x && is_down x)) [
  | inl i ↦ (let g : cond true (Some x) (pressed_note c j xs) ≡ None = ap (λ b. cond b (Some x) (pressed_note c j xs)) (sym i) ∙ e in absurd cc)
  | inr i ↦ (i, none_pressed c j xs (ap (λ b. cond b (Some x) (pressed_note c j xs)) (sym i) ∙ e))
]

-- among the notes of a part that sound, that note alone has its key, and it alone has its target
abbrev pub Tells : Options → Targets → ℕ → ℕ → Note → Note → Type 0
Tells o table c j n a = sounds a ≡ true → is_part o a.channel ≡ true → (t : BendTarget) → target_of o table a ≡ Some t
    → ((is_at c j a ≡ true → target_of o table a ≡ target_of o table n) × (a.channel ≡ c → target_of o table a ≡ target_of o table n → a.key ≡ j))

pub at_channel : (c j : ℕ) (n : Note) → is_at c j n ≡ true → n.channel ≡ c
at_channel c j n h = eqb-true n.channel c (and_parts (nat_eq n.channel c) (nat_eq n.key j) h).0

pub at_key : (c j : ℕ) (n : Note) → is_at c j n ≡ true → n.key ≡ j
at_key c j n h = eqb-true n.key j (and_parts (nat_eq n.channel c) (nat_eq n.key j) h).1

pub sounds_down : (n : Note) → is_down n ≡ true → sounds n ≡ true
sounds_down n h = (and_parts (sounds n) (not (is_some n.release)) h).0

same_aims : (o : Options) (table : Targets) (x y : Note) (t : BendTarget) → target_of o table x ≡ Some t → target_of o table y ≡ Some t →
    is_same_target (target_of o table x) (target_of o table y) ≡ true
same_aims o table x y t h g = ap (λ u. is_same_target u (target_of o table y)) h ∙ ap (is_same_target (Some t)) g ∙ same_target t t refl refl

-- a note behind the pressed one, and a note before it
tells_behind : (o : Options) (table : Targets) (c j : ℕ) (n a : Note) → is_at c j n ≡ true → is_down n ≡ true → AreTwo o table n a →
    Tells o table c j n a
tells_behind o table c j n a here down two s p t aim = (
  (λ i. absurd (both_ways (nat_eq n.key a.key)
      (two.key (sounds_down n down) s (ap (is_part o) (at_channel c j n here ∙ sym (at_channel c j a i)) ∙ p)
      (at_channel c j n here ∙ sym (at_channel c j a i)))
      (eq-eqb n.key a.key (at_key c j n here ∙ sym (at_key c j a i))))),
  (λ e same. absurd (both_ways (is_same_target (target_of o table n) (target_of o table a))
      (two.target (sounds_down n down) s (ap (is_part o) (at_channel c j n here ∙ sym e) ∙ p) (at_channel c j n here ∙ sym e))
      (same_aims o table n a t (sym same ∙ aim) aim))),
)

tells_before : (o : Options) (table : Targets) (c j : ℕ) (n a : Note) → is_at c j n ≡ true → is_down n ≡ true → AreTwo o table a n →
    Tells o table c j n a
tells_before o table c j n a here down two s p t aim = (
  (λ i. absurd (both_ways (nat_eq a.key n.key)
      (two.key s (sounds_down n down) p (at_channel c j a i ∙ sym (at_channel c j n here)))
      (eq-eqb a.key n.key (at_key c j a i ∙ sym (at_key c j n here))))),
  (λ e same. absurd (both_ways (is_same_target (target_of o table a) (target_of o table n))
      (two.target s (sounds_down n down) p (e ∙ sym (at_channel c j n here)))
      (same_aims o table a n t aim (sym same ∙ aim)))),
)

tells_itself : (o : Options) (table : Targets) (c j : ℕ) (n a : Note) → a ≡ n → is_at c j n ≡ true → Tells o table c j n a
tells_itself o table c j n a same here s p t aim = ((λ i. ap (target_of o table) same), (λ e k. ap (λ (x : Note). x.key) same ∙ at_key c j n here))

pub all_tell : (o : Options) (table : Targets) (c j : ℕ) (ns : List Note) (n : Note) → AreApart o table ns → pressed_note c j ns ≡ Some n →
    AllByRecursion (Tells o table c j n) ns
all_tell o table c j [] n h e = tt
all_tell o table c j (x ∷ xs) n h e = elim (cases_Bool (is_at c j x && is_down x)) [
  | inl i ↦ (let same : x ≡ n = (let g : cond true (Some x) (pressed_note c j xs) ≡ Some n = ap (λ b. cond b (Some x) (pressed_note c j xs))
      (sym i) ∙ e in cc) in
      let two = and_parts (is_at c j x) (is_down x) i in
      let here : is_at c j n ≡ true = ap (is_at c j) (sym same) ∙ two.0 in
      let down : is_down n ≡ true = ap is_down (sym same) ∙ two.1 in (
        tells_itself o table c j n x same here,
        all_weaker (AreTwo o table x) (Tells o table c j n)
            (λ a w. tells_behind o table c j n a here down (subst (λ y. AreTwo o table y a) same w)) xs h.0,
      ))
  | inr i ↦ (let g : pressed_note c j xs ≡ Some n = ap (λ b. cond b (Some x) (pressed_note c j xs)) (sym i) ∙ e in
      let at = pressed_element (AreTwo o table x) c j xs n h.0 g in
      (tells_before o table c j n x at.1 at.2 at.0, all_tell o table c j xs n h.1 g))
]

-- ---- the music after a key went up

abbrev pub lifted_music : Music → (t c j v : ℕ) → Music
lifted_music m t c j v = plain m.channels (map (λ n. lifted t v (is_at c j n && is_down n) (pedal m.channels no_zones n) n) m.notes)

map_each : (f g : Note → Note) → ((n : Note) → f n ≡ g n) → (ns : List Note) → map f ns ≡ map g ns
map_each f g h [] = refl
map_each f g h (n ∷ ns) = ap (λ x. x ∷ map f ns) (h n) ∙ ap (λ xs. g n ∷ xs) (map_each f g h ns)

abbrev resettled : List Channel → ℕ → List Note → Music
resettled ss t ns = plain ss (map (settle_note ss no_zones t) ns)

raised : (m : Music) (t c j v : ℕ) → m.zones ≡ no_zones →
    (let x : Music = record {
      channels = set m.channels c (channel_at m c);
      zones = m.zones;
      notes =
          map (settle_note (set m.channels c (channel_at m c)) m.zones t) (map (release_key t c j v) m.notes);
    } in x ≡ lifted_music m t c j v)
raised m t c j v z =
    ap (λ w. let x : Music = record {
      channels = set m.channels c (channel_at m c);
      zones = w;
      notes =
          map (settle_note (set m.channels c (channel_at m c)) w t) (map (release_key t c j v) m.notes);
    } in x) z
    ∙ ap (λ ss. resettled ss t (map (release_key t c j v) m.notes)) (set-get_or m.channels c default_channel)
    ∙ ap (plain m.channels) (map_map (settle_note m.channels no_zones t) (release_key t c j v) m.notes
    ∙ map_each (λ n. settle_note m.channels no_zones t (release_key t c j v n)) (λ n. lifted t v (is_at c j n && is_down n)
    (pedal m.channels no_zones n) n) (lifts_key m.channels t c j v) m.notes)

pub off_lifts : (m : Music) (t c j v : ℕ) → m.zones ≡ no_zones → advance t (Plays (NoteOff c j v)) m ≡ lifted_music m t c j v
off_lifts m t c j v z = said m t (NoteOff c j v) refl ∙ raised m t c j v z

pub zero_lifts : (m : Music) (t c j : ℕ) → m.zones ≡ no_zones → advance t (Plays (NoteOn c j zero)) m ≡ lifted_music m t c j 64
zero_lifts m t c j z = said m t (NoteOn c j zero) refl ∙ raised m t c j 64 z
