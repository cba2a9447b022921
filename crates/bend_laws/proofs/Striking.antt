-- What a note on does to a music, and what is known of its target.
use Rattle.std.proofs.Common.{◌≡◌, ℕ, suc, Bool, true, false, cond, not, ◌&&◌, List, [], ◌∷◌, ◌++◌, Option, Some, None, is_some, refl, ap, sym, ◌∙◌, subst, map, nat_eq, set, inl, inr}
use Rattle.std.specs.List.{AllByRecursion}
use Rattle.std.proofs.lemmas.Bool.{cases_Bool, both_ways, eq-eqb, or_parts, not-false, cond_both}
use Rattle.std.proofs.lemmas.List.{set-get_or}
use Rattle.mt_base.specs.declared.event.Msg.TheVariants.{NoteOn}
use Rattle.midi_model.specs.Sysex.{Plays}
use Rattle.midi_model.specs.Channel.{default_channel, Voice}
use Rattle.midi_model.specs.Zones.{no_zones, governor}
use Rattle.midi_model.specs.Notes.{Note, sounds, is_at, ending, cut_off, Fades}
use Rattle.midi_model.specs.Music.{Music, channel_at, begun, settle_note, advance}
use Rattle.midi_model.specs.MusicLaws.{IsSettled, AllFade}
use Rattle.retune_model.specs.Table.{Bounds, BendTarget, bend_target}
use Rattle.retune_model.specs.Options.{ByBend, Options, bends_notes}
use Rattle.retune_model.specs.PlaysTheSame.{bend_target_if}
use Rattle.retune_model.specs.Faults.{Targets, is_part, is_same_target, target_of, any_note, has_target, misses_target, is_unmapped, is_out_of_device}
use Rattle.bend_laws.specs.Follows.{AreTwo, AreApart}
use Rattle.bend_laws.proofs.Equal.{own_governor}
use Rattle.bend_laws.proofs.Lists.{all_weaker, all_both, map_map, map_append}
use Rattle.bend_laws.proofs.Turned.{plain, said, Stays, all_stay}
use Rattle.bend_laws.proofs.Altered.{ending_form, ending_channel, never_sounds}
use Rattle.bend_laws.proofs.Keys.{apart_fades}
use Rattle.bend_laws.proofs.Elsewhere.{apart_append}
use Rattle.bend_laws.proofs.Sending.{settle_ended, stays_put}

-- ---- the music

abbrev pub new_note : Music → (t c j v : ℕ) → Note
new_note m t c j v = record {
  channel = c;
  key = j;
  onset = t;
  velocity = v;
  voice = (channel_at m c).voice;
  release = None;
  captured =
      false;
  pressure = 0;
  ended = None;
}

abbrev pub struck : Music → (t c j v : ℕ) → Music
struck m t c j v = plain m.channels (map (cut_off t c j) m.notes ++ new_note m t c j v ∷ [])

cut_settles : (m : Music) (t c j : ℕ) (n : Note) → Stays m.channels n → settle_note m.channels no_zones t (cut_off t c j n) ≡ cut_off t c j n
cut_settles m t c j n s = cond_both (is_at c j n) (ending t n) n (λ x. settle_note m.channels no_zones t x ≡ x) (λ e. settle_ended m.channels t n)
    (λ e. stays_put m t n s)

abbrev voiced : ℕ → ℕ → ℕ → ℕ → Voice → Note
voiced t c j v s = record { channel = c; key = j; onset = t; velocity = v; voice = s; release = None; captured = false; pressure = 0; ended = None }

begun_is : (m : Music) (t c j v : ℕ) → m.zones ≡ no_zones → begun m t c j v ≡ new_note m t c j v
begun_is m t c j v z = ap (λ w. voiced t c j v (channel_at m (governor w c)).voice) z ∙ ap (λ d. voiced t c j v (channel_at m d).voice)
    (own_governor c)

all_cut : (m : Music) (t c j : ℕ) (ns : List Note) → AllByRecursion (Stays m.channels) ns →
    map (λ n. settle_note m.channels no_zones t (cut_off t c j n)) ns ≡ map (cut_off t c j) ns
all_cut m t c j [] h = refl
all_cut m t c j (n ∷ ns) h = ap (λ x. x ∷ map (λ y. settle_note m.channels no_zones t (cut_off t c j y)) ns) (cut_settles m t c j n h.0)
    ∙ ap (λ xs. cut_off t c j n ∷ xs) (all_cut m t c j ns h.1)

pub strikes_note : (m : Music) (t c j v : ℕ) → m.zones ≡ no_zones → IsSettled m → advance t (Plays (NoteOn c j (suc v))) m ≡ struck m t c j (suc v)
strikes_note m t c j v z s =
    let ns : List Note = map (cut_off t c j) m.notes ++ begun m t c j (suc v) ∷ [] in
    said m t (NoteOn c j (suc v)) refl
    ∙ ap (λ w. let x : Music = record {
      channels = set m.channels c (channel_at m c);
      zones = w;
      notes =
          map (settle_note (set m.channels c (channel_at m c)) w t) ns;
    } in x) z
    ∙ ap (λ ss. plain ss (map (settle_note ss no_zones t) ns)) (set-get_or m.channels c default_channel)
    ∙ ap (plain m.channels) (map_append (settle_note m.channels no_zones t) (map (cut_off t c j) m.notes) (begun m t c j (suc v) ∷ [])
    ∙ ap (λ xs. xs ++ begun m t c j (suc v) ∷ []) (map_map (settle_note m.channels no_zones t) (cut_off t c j) m.notes
    ∙ all_cut m t c j m.notes (all_stay m z s))
    ∙ ap (λ n. map (cut_off t c j) m.notes ++ n ∷ []) (begun_is m t c j (suc v) z))

-- ---- a note that is cut off, or not

pub cut_here : (t c j : ℕ) (n : Note) → is_at c j n ≡ true → cut_off t c j n ≡ ending t n
cut_here t c j n h = ap (λ b. cond b (ending t n) n) h

pub cut_not : (t c j : ℕ) (n : Note) → is_at c j n ≡ false → cut_off t c j n ≡ n
cut_not t c j n h = ap (λ b. cond b (ending t n) n) h

pub cut_channel : (t c j : ℕ) (n : Note) → (cut_off t c j n).channel ≡ n.channel
cut_channel t c j n = cond_both (is_at c j n) (ending t n) n (λ (x : Note). x.channel ≡ n.channel) (λ e. ending_channel t n) (λ e. refl)

pub cut_silent : (t c j : ℕ) (n : Note) → sounds n ≡ false → cut_off t c j n ≡ n
cut_silent t c j n s = cond_both (is_at c j n) (ending t n) n (λ x. x ≡ n) (λ e. ap (λ b. cond b (record n { ended = Some t }) n) s) (λ e. refl)

pub ended_silent : (t : ℕ) (n : Note) → sounds (ending t n) ≡ true → ⊥
ended_silent t n s = never_sounds t n.ended (ap sounds (sym (ending_form t n)) ∙ s)

fades_itself : (n : Note) → Fades n n
fades_itself n = record { channel = refl; key = refl; onset = refl; velocity = refl; voice = refl; sounds = λ h. h }

fades_ended : (t : ℕ) (n : Note) → Fades n (ending t n)
fades_ended t n = subst (Fades n) (sym (ending_form t n))
    (record { channel = refl; key = refl; onset = refl; velocity = refl; voice = refl; sounds = λ h. absurd (never_sounds t n.ended h) })

cut_fades : (t c j : ℕ) (ns : List Note) → AllFade ns (map (cut_off t c j) ns)
cut_fades t c j [] = tt
cut_fades t c j (n ∷ ns) = (cond_both (is_at c j n) (ending t n) n (Fades n) (λ e. fades_ended t n) (λ e. fades_itself n), cut_fades t c j ns)

-- ---- the target

pub some_if : (b : Bool) (x : Option BendTarget) → not (is_some x) ≡ false → (t : BendTarget) × (x ≡ Some t)
some_if b None h = absurd cc
some_if b (Some t) h = (t, refl)

pub aimed : (o : Options) (table : Targets) (t c j v : ℕ) → o.route ≡ ByBend → is_part o c ≡ true →
    is_unmapped o table t (NoteOn c j (suc v)) ≡ false → is_out_of_device o table t (NoteOn c j (suc v)) ≡ false → (x : BendTarget) ×
    (bend_target_if o.range (table j t) ≡ Some x)
aimed o table t c j v route part mapped device = pick (table j t) refl
  where
    pick : (bounds : Option Bounds) → table j t ≡ bounds → (x : BendTarget) × (bend_target_if o.range (table j t) ≡ Some x)
    pick None e = absurd (let h : (true && not (is_some (table j t))) ≡ false = ap (λ b. b && not (is_some (table j t))) (sym part) ∙ mapped in
        let g : not (is_some (table j t)) ≡ true = ap (λ x. not (is_some x)) e in both_ways (not (is_some (table j t))) h g)
    pick (Some y) e =
        let h : misses_target o (table j t) ≡ false = ap (λ b. b && misses_target o (table j t)) (sym part) ∙ device in
        let g : not (has_target o.route o.range y) ≡ false = ap (misses_target o) (sym e) ∙ h in
        let i : not (is_some (bend_target o.range y)) ≡ false = ap (λ r. not (has_target r o.range y)) (sym route) ∙ g in
        let r = some_if true (bend_target o.range y) i in
        (r.0, ap (bend_target_if o.range) e ∙ r.1)

-- what is known of the notes that sound on its part: the same key has the same target, another key another
pub record IsAside (o : Options) (table : Targets) (c j : ℕ) (x : BendTarget) (a : Note) : Type 0 where
  pub other : sounds a ≡ true → a.channel ≡ c → nat_eq a.key j ≡ false → is_same_target (target_of o table a) (Some x) ≡ false
  pub same : sounds a ≡ true → a.channel ≡ c → nat_eq a.key j ≡ true → is_same_target (target_of o table a) (Some x) ≡ true

pub any_false : (f : Note → Bool) (ns : List Note) → any_note f ns ≡ false → AllByRecursion (λ n. f n ≡ false) ns
any_false f [] h = tt
any_false f (n ∷ ns) h = let e = or_parts (f n) (any_note f ns) h in (e.0, any_false f ns e.1)

pub two_false : (a b x : Bool) → a ≡ true → b ≡ true → (a && (b && x)) ≡ false → x ≡ false
two_false true true x h g i = i
two_false true false x h g i = absurd cc
two_false false b x h g i = absurd cc

pub not_both : (a b x : Bool) → ((a && b) && x) ≡ false → a ≡ true → b ≡ true → x ≡ false
not_both true true x i h g = i
not_both true false x i h g = absurd cc
not_both false b x i h g = absurd cc

pub all_aside : (o : Options) (table : Targets) (t c j v : ℕ) (x : BendTarget) (ns : List Note) → o.route ≡ ByBend → is_part o c ≡ true →
    bend_target_if o.range (table j t) ≡ Some x →
    (bends_notes o.route && (is_part o c && any_note (λ n. (sounds n && nat_eq n.channel c) &&
    (not (nat_eq n.key j) && is_same_target (target_of o table n) (bend_target_if o.range (table j t)))) ns)) ≡ false →
    (bends_notes o.route && (is_part o c && any_note (λ n. (sounds n && nat_eq n.channel c) &&
    (nat_eq n.key j && not (is_same_target (target_of o table n) (bend_target_if o.range (table j t))))) ns)) ≡ false →
    AllByRecursion (IsAside o table c j x) ns
all_aside o table t c j v x ns route part aim unison restrike =
    let u : Note → Bool = λ n. (sounds n && nat_eq n.channel c) && (not (nat_eq n.key j) && is_same_target (target_of o table n)
    (bend_target_if o.range (table j t))) in
    let r : Note → Bool = λ n. (sounds n && nat_eq n.channel c) && (nat_eq n.key j && not (is_same_target (target_of o table n)
    (bend_target_if o.range (table j t)))) in
    all_weaker (λ n. (u n ≡ false) × (r n ≡ false)) (IsAside o table c j x)
    (λ n h. record {
      other = λ s e k.
          let f : (not (nat_eq n.key j) && is_same_target (target_of o table n) (bend_target_if o.range (table j t))) ≡ false = not_both (sounds n)
          (nat_eq n.channel c) (not (nat_eq n.key j) && is_same_target (target_of o table n)
          (bend_target_if o.range (table j t))) h.0 s (eq-eqb n.channel c e) in
          ap (is_same_target (target_of o table n)) (sym aim)
          ∙ (ap (λ b. not b && is_same_target (target_of o table n) (bend_target_if o.range (table j t))) (sym k) ∙ f);
      same = λ s e k.
          let f : (nat_eq n.key j && not (is_same_target (target_of o table n) (bend_target_if o.range (table j t)))) ≡ false = not_both (sounds n)
          (nat_eq n.channel c) (nat_eq n.key j && not (is_same_target (target_of o table n)
          (bend_target_if o.range (table j t)))) h.1 s (eq-eqb n.channel c e) in
          ap (is_same_target (target_of o table n)) (sym aim) ∙ not-false (is_same_target (target_of o table n)
          (bend_target_if o.range (table j t))) (ap (λ b. b && not (is_same_target (target_of o table n) (bend_target_if o.range (table j t))))
          (sym k) ∙ f);
    }) ns (all_both (λ n. u n ≡ false) (λ n. r n ≡ false) ns
    (any_false u ns (two_false (bends_notes o.route) (is_part o c) (any_note u ns) (ap bends_notes route) part unison))
    (any_false r ns (two_false (bends_notes o.route) (is_part o c) (any_note r ns) (ap bends_notes route) part restrike)))

-- ---- notes stay apart

cut_apart : (o : Options) (table : Targets) (m : Music) (t c j v : ℕ) (x : BendTarget) (a : Note) → bend_target_if o.range (table j t) ≡ Some x →
    IsAside o table c j x a → AreTwo o table (cut_off t c j a) (new_note m t c j v)
cut_apart o table m t c j v x a aim h = elim (cases_Bool (is_at c j a)) [
  | inl e ↦ (let ended : sounds (cut_off t c j a) ≡ true → ⊥ = λ s. ended_silent t a (ap sounds (sym (cut_here t c j a e)) ∙ s) in
      record { key = λ s r p i. absurd (ended s); target = λ s r p i. absurd (ended s) })
  | inr e ↦ subst (λ y. AreTwo o table y (new_note m t c j v)) (sym (cut_not t c j a e)) (record {
    key = λ s r p i. other_key i e;
    target = λ s r p i. ap (is_same_target (target_of o table a)) aim ∙ h.other s i (other_key i e);
  })
]
  where
    other_key : a.channel ≡ c → is_at c j a ≡ false → nat_eq a.key j ≡ false
    other_key i e = ap (λ b. b && nat_eq a.key j) (sym (eq-eqb a.channel c i)) ∙ e

pub struck_apart : (o : Options) (table : Targets) (m : Music) (t c j v : ℕ) (x : BendTarget) → bend_target_if o.range (table j t) ≡ Some x →
    AllByRecursion (IsAside o table c j x) m.notes → AreApart o table m.notes → AreApart o table (struck m t c j v).notes
struck_apart o table m t c j v x aim h g =
    apart_append o table (map (cut_off t c j) m.notes) (new_note m t c j v) (apart_fades o table m.notes (map (cut_off t c j) m.notes)
    (cut_fades t c j m.notes) g)
    (all_mapped_notes m.notes h)
  where
    all_mapped_notes : (ns : List Note) → AllByRecursion (IsAside o table c j x) ns → AllByRecursion (λ a. AreTwo o table a (new_note m t c j v))
        (map (cut_off t c j) ns)
    all_mapped_notes [] q = tt
    all_mapped_notes (n ∷ ns) q = (cut_apart o table m t c j v x n aim q.0, all_mapped_notes ns q.1)
