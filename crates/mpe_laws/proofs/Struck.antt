-- A note on of a part: where its pair's run begins, the member gets the pair's bend; then the note begins there.
use Rattle.std.proofs.Common.{◌≡◌, ◌≢◌, ◌<◌, ℕ, suc, pos, ◌+ℤ◌, Bool, true, false, cond, not, ◌&&◌, List, [], ◌∷◌, ◌++◌, Option, Some, None, is_some, refl, ap, sym, ◌∙◌, subst, map, set, get_or, nat_eq, inl, inr}
use Rattle.std.specs.List.{AllByRecursion}
use Rattle.std.specs.Set.{is_member}
use Rattle.std.proofs.lemmas.Bool.{cases_Bool, cases_eq, both_ways, cond_both, eq-eqb, eqb-true, not-false}
use Rattle.std.proofs.lemmas.List.{set-get_or, get_or-set_same, get_or-set_other}
use Rattle.retune_model.specs.Pairs.{Pair, is_same_pair}
use Rattle.mt_base.specs.declared.event.Msg.{Msg}
use Rattle.mt_base.specs.declared.event.Msg.TheVariants.{NoteOn, Bend}
use Rattle.mt_base.specs.Midi.{Says, MidiEvent}
use Rattle.midi_model.specs.Sysex.{Plays}
use Rattle.midi_model.specs.Channel.{Channel, default_channel}
use Rattle.midi_model.specs.Zones.{no_zones, master, governor}
use Rattle.midi_model.specs.Notes.{Note, sounds, is_at, ending, cut_off}
use Rattle.midi_model.specs.Music.{Music, channel_at, begun, advance, step, play}
use Rattle.midi_model.specs.MusicLaws.{IsSettled}
use Rattle.midi_model.specs.Bring.{where_differs}
use Rattle.retune_model.specs.Table.{Bounds, BendTarget, bend_target}
use Rattle.retune_model.specs.Options.{ByMpe, Options, bends_notes}
use Rattle.retune_model.specs.PlaysTheSame.{Pairwise, bend_target_if}
use Rattle.retune_model.specs.Faults.{Targets, is_part, is_same_target, target_of, any_note, has_target, misses_target, is_unmapped, is_out_of_device}
use Rattle.channel_model.specs.Choice.{bend_value}
use Rattle.channel_model.specs.BendOutput.{pair_with}
use Rattle.channel_model.specs.MpeOutput.{Zone, master_of, zone_of, in_zone, member_begins, mpe_block}
use Rattle.bend_laws.specs.Moments.{Moment}
use Rattle.bend_laws.specs.Follows.{Has, IsMatched, AreApart, IsAmong, Begins}
use Rattle.bend_laws.proofs.Equal.{own_governor}
use Rattle.bend_laws.proofs.Lists.{all_weaker, all_both, pair_map, pair_along, pair_append, pair_weaker, pair_first}
use Rattle.bend_laws.proofs.Turned.{plain}
use Rattle.bend_laws.proofs.Playing.{saying, play_saying}
use Rattle.bend_laws.proofs.Altered.{ending_form}
use Rattle.bend_laws.proofs.Given.{IsFine, fine}
use Rattle.bend_laws.proofs.Changing.{said_at}
use Rattle.bend_laws.proofs.Striking.{new_note, struck, strikes_note, cut_channel, cut_silent, some_if, IsAside, any_false, two_false, not_both, struck_apart}
use Rattle.bend_laws.proofs.Beginning.{Strike, Held_note, cut_match, last_of, front_of}
use Rattle.mpe_laws.specs.Zoned.{planned, member_state, AreZones, IsMember}
use Rattle.mpe_laws.specs.Follows.{IsZoned, Follows, IsGiven}
use Rattle.mpe_laws.proofs.Ops.{Governed, zoned_moved, governed_moved, sounded}
use Rattle.mpe_laws.proofs.Steering.{zonal}
use Rattle.mpe_laws.proofs.Standing.{Laws, holds_was, by_member, all_governed, told, source_told, out_told, part_block}
use Rattle.mpe_laws.proofs.Forwarding.{Settles, notes_told, masters_told, settled_told}

-- ---- the target, and the notes of the part that sound

pub aimed : (o : Options) (table : Targets) (t c j v : ℕ) → o.route ≡ ByMpe → is_part o c ≡ true → is_unmapped o table t (NoteOn c j (suc v))
    ≡ false →
    is_out_of_device o table t (NoteOn c j (suc v)) ≡ false → (x : BendTarget) × (bend_target_if o.range (table j t) ≡ Some x)
aimed o table t c j v route part mapped device = pick (table j t) refl
  where
    pick : (bounds : Option Bounds) → table j t ≡ bounds → (x : BendTarget) × (bend_target_if o.range (table j t) ≡ Some x)
    pick None e = absurd (let h : (true && not (is_some (table j t))) ≡ false = ap (λ b. b && not (is_some (table j t))) (sym part) ∙ mapped in
        let g : not (is_some (table j t)) ≡ true = ap (λ x. not (is_some x)) e in both_ways (not (is_some (table j t))) h g)
    pick (Some y) e =
        let h : misses_target o (table j t) ≡ false = ap (λ b. b && misses_target o (table j t)) (sym part) ∙ device in
        let g : not (has_target o.route o.range y) ≡ false = ap (misses_target o) (sym e) ∙ h in
        let i : not (is_some (bend_target o.range y)) ≡ false = ap (λ r. not (has_target r o.range y)) (sym route) ∙ g in
        let r = some_if true (bend_target o.range y) i in
        (r.0, ap (bend_target_if o.range) e ∙ r.1)

all_aside : (o : Options) (table : Targets) (t c j v : ℕ) (x : BendTarget) (ns : List Note) → o.route ≡ ByMpe → is_part o c ≡ true →
    bend_target_if o.range (table j t) ≡ Some x →
    (bends_notes o.route && (is_part o c && any_note (λ n. (sounds n && nat_eq n.channel c) && (not (nat_eq n.key j) && is_same_target
    (target_of o table n) (bend_target_if o.range (table j t)))) ns)) ≡ false →
    (bends_notes o.route && (is_part o c && any_note (λ n. (sounds n && nat_eq n.channel c) && (nat_eq n.key j && not (is_same_target
    (target_of o table n) (bend_target_if o.range (table j t))))) ns)) ≡ false →
    AllByRecursion (IsAside o table c j x) ns
all_aside o table t c j v x ns route part aim unison restrike =
    let u : Note → Bool = λ n. (sounds n && nat_eq n.channel c) && (not (nat_eq n.key j) && is_same_target (target_of o table n)
    (bend_target_if o.range (table j t))) in
    let r : Note → Bool = λ n. (sounds n && nat_eq n.channel c) && (nat_eq n.key j && not (is_same_target (target_of o table n)
    (bend_target_if o.range (table j t)))) in
    all_weaker (λ n. (u n ≡ false) × (r n ≡ false)) (IsAside o table c j x)
    (λ n h. record {
      other = λ s e k.
          let f : (not (nat_eq n.key j) && is_same_target (target_of o table n) (bend_target_if o.range (table j t))) ≡ false = not_both
          (sounds n) (nat_eq n.channel c) (not (nat_eq n.key j) && is_same_target (target_of o table n) (bend_target_if o.range
          (table j t))) h.0 s (eq-eqb n.channel c e) in
          ap (is_same_target (target_of o table n)) (sym aim) ∙ (ap (λ b. not b && is_same_target (target_of o table n) (bend_target_if o.range
          (table j t))) (sym k) ∙ f);
      same = λ s e k.
          let f : (nat_eq n.key j && not (is_same_target (target_of o table n) (bend_target_if o.range (table j t)))) ≡ false = not_both
          (sounds n) (nat_eq n.channel c) (nat_eq n.key j && not (is_same_target (target_of o table n) (bend_target_if o.range
          (table j t)))) h.1 s (eq-eqb n.channel c e) in
          ap (is_same_target (target_of o table n)) (sym aim) ∙ not-false (is_same_target (target_of o table n) (bend_target_if o.range
          (table j t))) (ap (λ b. b && not (is_same_target (target_of o table n) (bend_target_if o.range (table j t)))) (sym k) ∙ f);
    }) ns (all_both (λ n. u n ≡ false) (λ n. r n ≡ false) ns
    (any_false u ns (two_false (bends_notes o.route) (is_part o c) (any_note u ns) (ap bends_notes route) part unison))
    (any_false r ns (two_false (bends_notes o.route) (is_part o c) (any_note r ns) (ap bends_notes route) part restrike)))

-- ---- the output once the member has the pair's bend

pub record IsReady (port : ℕ) (o : Options) (table : Targets) (zones : List Zone) (k : Moment) (p : Pair) (m x y : Music) : Type 0 where
  pub notes : Pairwise (Governed port o table zones k.old) m.notes y.notes
  pub masters : (c : ℕ) (z : Zone) → zone_of c zones ≡ Some z → channel_at y (master_of z) ≡ channel_at m c
  pub members : (d g : ℕ) → d < 16 → master (planned zones) d ≡ Some g → channel_at y d ≡ member_state o.range (channel_at y d).bend
  pub here : (channel_at y (k.new p)).bend ≡ bend_value (pos 8192 +ℤ p.steps)
  pub others : (d : ℕ) → d ≢ k.new p → channel_at y d ≡ channel_at x d
  pub zones_are : y.zones ≡ planned zones
  pub settled : IsSettled y

abbrev with_bend : ℕ → Channel → Channel
with_bend v s = record s { bend = v }

unbent : (port : ℕ) (o : Options) (table : Targets) (zones : List Zone) (k : Moment) (p : Pair) (m x : Music) →
    Follows port o table zones k.old k.was m x → Pairwise (Governed port o table zones k.old) m.notes x.notes → (channel_at x
    (k.new p)).bend ≡ bend_value (pos 8192 +ℤ p.steps) → IsReady port o table zones k p m x x
unbent port o table zones k p m x follows notes here = record {
  notes = notes;
  masters = follows.masters;
  members = follows.members;
  here = here;
  others = λ d h. refl;
  zones_are = follows.out_zones;
  settled = follows.out_settled;
}

bent_ready : Laws → (port : ℕ) (o : Options) (table : Targets) (zones : List Zone) → AreZones o zones → (k : Moment) (p : Pair) (m x : Music)
    (t track : ℕ) → Follows port o table zones k.old k.was m x → Pairwise (Governed port o table zones k.old) m.notes x.notes → IsMember zones p
    (k.new p) →
    IsReady port o table zones k p m x (advance t (Plays (Bend (k.new p) (bend_value (pos 8192 +ℤ p.steps)))) x)
bent_ready laws port o table zones row k p m x t track follows notes w =
    let d : ℕ = k.new p in
    let v : ℕ = bend_value (pos 8192 +ℤ p.steps) in
    let y : Music = advance t (Plays (Bend d v)) x in
    let S : Channel = get_or x.channels d default_channel in
    let us : List Channel = set x.channels d (with_bend v S) in
    let out : y ≡ told (planned zones) us t x.notes = out_told zones x t (Bend d v) follows.out_zones refl in
    let others : (q : ℕ) → q ≢ d → channel_at y q ≡ channel_at x q = λ q h. ap (λ (n : Music). channel_at n q) out
    ∙ get_or-set_other x.channels d q (with_bend v S) default_channel h in
    let here : channel_at y d ≡ member_state o.range v =
    ap (λ (n : Music). channel_at n d) out ∙ get_or-set_same x.channels d (with_bend v S) default_channel (subst (λ l. d < l)
    (sym follows.out_settled.channels) w.low)
    ∙ ap (with_bend v) (follows.members d (master_of w.zone) w.low w.is) in
    let s : Settles port o table zones k.old t m y = record {
      ss = m.channels;
      us = us;
      ns = m.notes;
      xs = x.notes;
      source = settled_told no_zones m t follows.source_zones follows.source_settled;
      out = out;
      notes = notes;
      masters = λ q z h. get_or-set_other x.channels d (master_of z) (with_bend v S) default_channel (λ i. row.beside q d
          (master_of w.zone) z w.is h (sym i)) ∙ follows.masters q z h;
    } in
    record {
      notes = notes_told port o table zones k.old t m y s;
      masters = masters_told port o table zones k.old t m y s;
      members = λ q g low h. elim (cases_eq q d) [
        | inl i ↦ subst (λ r. channel_at y r ≡ member_state o.range (channel_at y r).bend) (sym i) (here ∙ ap (member_state o.range) (sym (ap (λ
            (u : Channel). u.bend) here)))
        | inr i ↦ others q i ∙ follows.members q g low h ∙ ap (member_state o.range) (ap (λ (u : Channel). u.bend) (sym (others q i)))
      ];
      here = ap (λ (u : Channel). u.bend) here;
      others = others;
      zones_are = ap (λ (n : Music). n.zones) out;
      settled = laws.settle x (said_at t track (Bend d v)) follows.out_settled;
    }

abbrev pub bend_first : Moment → Music → Pair → Bool → List Msg
bend_first k x p r = let v : ℕ = bend_value (pos 8192 +ℤ p.steps) in cond r [] (where_differs (channel_at x (k.new p)).bend v (Bend (k.new p) v))

ready : Laws → (port : ℕ) (o : Options) (table : Targets) (zones : List Zone) → AreZones o zones → (k : Moment) (p : Pair) (m x : Music)
    (t track : ℕ) (msg : Msg) → Follows port o table zones k.old k.was m x → Pairwise (Governed port o table zones k.old) m.notes x.notes →
    IsMember zones p (k.new p) →
    (Has k.was p → k.new p ≡ k.old p) → (r : Bool) → is_member is_same_pair k.was p ≡ r → IsReady port o table zones k p m x (play x (saying
    (said_at t track msg) (bend_first k x p r)))
ready laws port o table zones row k p m x t track msg follows notes w kept true was = unbent port o table zones k p m x follows notes (ap (λ d.
    (channel_at x d).bend) (kept was) ∙ follows.bent p was)
ready laws port o table zones row k p m x t track msg follows notes w kept false was = pick (nat_eq (channel_at x (k.new p)).bend (bend_value
    (pos 8192 +ℤ p.steps))) refl
  where
    pick : (b : Bool) → nat_eq (channel_at x (k.new p)).bend (bend_value (pos 8192 +ℤ p.steps)) ≡ b →
        IsReady port o table zones k p m x (play x (saying (said_at t track msg) (cond b [] (Bend (k.new p) (bend_value
        (pos 8192 +ℤ p.steps)) ∷ []))))
    pick true h = unbent port o table zones k p m x follows notes (eqb-true (channel_at x (k.new p)).bend (bend_value (pos 8192 +ℤ p.steps)) h)
    pick false h = bent_ready laws port o table zones row k p m x t track follows notes w

-- ---- the notes

cut_pressure : (t c j : ℕ) (n : Note) → (cut_off t c j n).pressure ≡ n.pressure
cut_pressure t c j n = cond_both (is_at c j n) (ending t n) n (λ (x : Note). x.pressure ≡ n.pressure) (λ e. ap (λ (x : Note). x.pressure)
    (ending_form t n)) (λ e. refl)

cut_pair : (port : ℕ) (o : Options) (table : Targets) (zones : List Zone) (k : Moment) (t c j : ℕ) (x : BendTarget) →
    Strike port o table k t c j x → (a b : Note) → Governed port o table zones k.old a b × Held_note port o table k t c j x a →
    Governed port o table zones k.new (cut_off t c j a) (cut_off t (k.new (pair_with port c x)) x.key b)
cut_pair port o table zones k t c j x w a b (g, held) =
    let d : ℕ = k.new (pair_with port c x) in
    record {
      matched = cut_match port o table k t c j x w a b (g.matched, held);
      governed = λ p s. governed_moved zones a b (cut_off t c j a) (cut_off t d x.key b) (cut_channel t c j a) (cut_channel t d x.key b)
          (g.governed (ap (is_part o) (sym (cut_channel t c j a)) ∙ p) (sounded (cut_off t c j) a (cut_silent t c j a) s));
      zoned = λ p. zoned_moved zones a (cut_off t c j a) (cut_channel t c j a) (cut_pressure t c j a) (g.zoned (ap (is_part o) (sym
          (cut_channel t c j a)) ∙ p));
    }

-- ---- the event

pub strike_follows : Laws → (port : ℕ) (o : Options) (table : Targets) (zones : List Zone) → AreZones o zones → (k : Moment) (m x : Music)
    (t track c j v : ℕ) → is_part o c ≡ true →
    Follows port o table zones k.old k.was m x → IsGiven port o table zones k m (said_at t track (NoteOn c j (suc v))) →
    Follows port o table zones k.new k.is (step m (said_at t track (NoteOn c j (suc v)))) (play x
    (mpe_block port o table zones k.was true m x k.old k.new (said_at t track (NoteOn c j (suc v)))))
strike_follows laws port o table zones row k m x t track c j v part follows sound =
    let msg : Msg = NoteOn c j (suc v) in
    let e : MidiEvent = said_at t track msg in
    let after : Music = advance t (Plays msg) m in
    let fit : IsFine port o table m after k.is t msg = fine port o table m after k.is t msg sound.faultless in
    let target = aimed o table t c j v row.route part fit.mapped fit.in_device in
    let aim : BendTarget = target.0 in
    let p : Pair = pair_with port c aim in
    let d : ℕ = k.new p in
    let is : after ≡ struck m t c j (suc v) = strikes_note m t c j v follows.source_zones follows.source_settled in
    let among : Note → Type 0 = λ a. is_part o a.channel ≡ true → sounds a ≡ true → IsAmong port k.holds a.channel (target_of o table a) in
    let later : Note → Type 0 = λ a. is_part o a.channel ≡ true → sounds a ≡ true → IsAmong port k.is a.channel (target_of o table a) in
    let there : AllByRecursion later (struck m t c j (suc v)).notes = subst (λ (n : Music). AllByRecursion later n.notes) is sound.there in
    let was : (q : Pair) → Has k.holds q → Has k.was q = holds_was port o table zones k m e sound in
    let w : Strike port o table k t c j aim = record {
      part = part;
      aim = target.1;
      there = subst (IsAmong port k.is c) target.1 (last_of later (map (cut_off t c j) m.notes) (new_note m t c j (suc v)) there part refl);
      was = was;
      kept = sound.kept;
      apart = sound.apart_is;
    } in
    let i : IsMember zones p d = sound.member_is p w.there in
    let of : zone_of c zones ≡ Some i.zone = i.of in
    let aside : AllByRecursion
    (IsAside o table c j aim) m.notes = all_aside o table t c j v aim m.notes row.route part target.1 fit.unison fit.restrike in
    let cut_later : Note → Type 0 = λ a. later (cut_off t c j a) in
    let held : AllByRecursion (Held_note port o table k t c j aim) m.notes =
    all_both (λ a. among a × cut_later a) (IsAside o table c j aim) m.notes (all_both among cut_later m.notes sound.held (front_of later
    (cut_off t c j) m.notes (new_note m t c j (suc v) ∷ []) there)) aside in
    let r : Bool = is_member is_same_pair k.was p in
    let ms : List Msg = bend_first k x p r in
    let x1 : Music = play x (saying e ms) in
    let q : IsReady port o table zones k p m x x1 = ready laws port o table zones row k p m x t track msg follows
    (all_governed port o table zones row k m x e follows sound) i (λ h. sound.kept p h w.there) r refl in
    let mg : Msg = NoteOn d aim.key (suc v) in
    let y : Music = advance t (Plays mg) x1 in
    let ns : List Note = map (cut_off t c j) m.notes ++ begun (plain m.channels m.notes) t c j (suc v) ∷ [] in
    let xs : List Note = map (cut_off t d aim.key) x1.notes ++ begun (zonal zones x1.channels x1.notes) t d aim.key (suc v) ∷ [] in
    let source : after ≡ told no_zones m.channels t ns = source_told m t msg follows.source_zones refl ∙ ap (λ ss. told no_zones ss t ns)
    (set-get_or m.channels c default_channel) in
    let out : y ≡ told (planned zones) x1.channels t xs = out_told zones x1 t mg q.zones_are refl ∙ ap (λ us. told (planned zones) us t xs)
    (set-get_or x1.channels d default_channel) in
    let governs : governor (planned zones) d ≡ master_of i.zone = by_member zones p d i in
    let new : Governed port o table zones k.new (begun (plain m.channels m.notes) t c j (suc v)) (begun
    (zonal zones x1.channels x1.notes) t d aim.key (suc v)) = record {
      matched = record {
        retuned = row.retuned_member d (master_of i.zone) i.is ∙ sym part;
        played = λ h. record {
          target = aim;
          aim = target.1;
          key = refl;
          onset = refl;
          velocity = refl;
          voice = ap (λ s. (get_or x1.channels s default_channel).voice) governs ∙ ap (λ (s : Channel). s.voice) (q.masters c i.zone of) ∙ ap
              (λ s. (get_or m.channels s default_channel).voice) (sym (own_governor c));
          release = refl;
          ended = refl;
          sounding = λ s. record { channel = refl; captured = refl; pressure = refl };
        };
      };
      governed = λ h s. record { zone = i.zone; of = of; by = governs; inside = λ b z f. row.beside b d (master_of i.zone) z i.is f };
      zoned = λ h. (refl, (i.zone, of));
    } in
    let s : Settles port o table zones k.new t after y = record {
      ss = m.channels;
      us = x1.channels;
      ns = ns;
      xs = xs;
      source = source;
      out = out;
      notes = pair_append (Governed port o table zones k.new) (map (cut_off t c j) m.notes) (begun (plain m.channels m.notes) t c j (suc v) ∷ [])
          (map (cut_off t d aim.key) x1.notes) (begun (zonal zones x1.channels x1.notes) t d aim.key (suc v) ∷ [])
          (pair_map (λ a b. Governed port o table zones k.old a b × Held_note port o table k t c j aim a) (Governed port o table zones k.new)
          (cut_off t c j) (cut_off t d aim.key) (cut_pair port o table zones k t c j aim w) m.notes x1.notes
          (pair_along (Governed port o table zones k.old) (Held_note port o table k t c j aim) m.notes x1.notes q.notes held)) (new, tt);
      masters = q.masters;
    } in
    let same : (b : ℕ) → channel_at y b ≡ channel_at x1 b = λ b. ap (λ (n : Music). channel_at n b) out in
    let only : (b : Pair) → Begins port o table t (Says msg) b → b ≡ p = λ b f.
    (let one : f.1.0 ≡ aim = (let a : bend_target_if o.range (table j t) ≡ Some f.1.0 = f.1.1 in let z : bend_target_if o.range
    (table j t) ≡ Some aim = target.1 in cc) in
    f.1.2 ∙ ap (pair_with port c) one) in
    let done : Follows port o table zones k.new k.is after y = record {
      notes = pair_weaker (Governed port o table zones k.new) (IsMatched port o table k.new) (λ a b g. g.matched) after.notes y.notes
          (notes_told port o table zones k.new t after y s);
      zoned = pair_first (Governed port o table zones k.new) (IsZoned o zones) (λ a b g. g.zoned) after.notes y.notes
          (notes_told port o table zones k.new t after y s);
      apart = subst (λ (n : Music). AreApart o table n.notes) (sym is) (struck_apart o table m t c j (suc v) aim target.1 aside follows.apart);
      masters = masters_told port o table zones k.new t after y s;
      members = λ b g low h. same b ∙ q.members b g low h ∙ ap (member_state o.range) (ap (λ (u : Channel). u.bend) (sym (same b)));
      bent = λ b h. ap (λ (u : Channel). u.bend) (same (k.new b)) ∙ elim (cases_eq (k.new b) d) [
        | inl f ↦ subst (λ u. (channel_at x1 (k.new u)).bend ≡ bend_value (pos 8192 +ℤ u.steps)) (sym (sound.apart_is b p h w.there f)) q.here
        | inr f ↦ elim (cases_Bool (is_member is_same_pair k.holds b)) [
          | inl g ↦ ap (λ (u : Channel). u.bend) (q.others (k.new b) f) ∙ ap (λ u. (channel_at x u).bend) (sound.kept b (was b g) h)
              ∙ follows.bent b (was b g)
          | inr g ↦ absurd (f (ap k.new (only b (sound.from b h g))))
        ]
      ];
      source_zones = ap (λ (n : Music). n.zones) source;
      source_settled = laws.settle m e follows.source_settled;
      out_zones = ap (λ (n : Music). n.zones) out;
      out_settled = laws.settle x1 (said_at t track mg) q.settled;
    } in
    subst (Follows port o table zones k.new k.is after)
    (sym (part_block port o table zones k m x t track msg (ms ++ mg ∷ []) part
    (ap (in_zone port o table k.was m x k.old k.new t msg) of ∙ ap (member_begins port o k.was x k.new c (suc v)) target.1)
    ∙ play_saying x e ms (mg ∷ []))) done
