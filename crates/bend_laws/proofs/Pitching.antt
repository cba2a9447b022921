-- The pitch of each retuned note: the bend isn't cut at its ends, and what is played is within half a step and a thousandth of a cent.
use Rattle.std.proofs.Common.{◌≡◌, ◌≢◌, ◌≤◌, ◌<◌, ◌+◌, ◌*◌, ℕ, zero, suc, Bool, true, false, cond, not, ◌&&◌, List, [], ◌∷◌, ◌++◌, Option, Some, None, is_some, refl, ap, sym, ◌∙◌, subst, arith, inl, inr, pos, ℤ, ◌+ℤ◌, ◌-ℤ◌, ◌*ℤ◌, ◌≤ℤ◌}
use Rattle.std.specs.List.{AllByRecursion}
use Rattle.std.specs.Option.{unwrap_or}
use Rattle.std.specs.Set.{is_member}
use Rattle.std.proofs.lemmas.Int.{ints}
use Rattle.std.proofs.lemmas.Bool.{cases_Bool, cases_eq, both_ways, or_cases, not-false}
use Rattle.std.proofs.lemmas.Bool.Decides.{nat_tests}
use Rattle.mt_base.specs.declared.event.Msg.{Msg}
use Rattle.mt_base.specs.declared.event.Msg.TheVariants.{NoteOn, NoteOff, KeyPressure, Control, Program, Pressure, Bend}
use Rattle.mt_base.specs.Midi.{channel_of}
use Rattle.mt_base.specs.Pitch.{Pitch, exactly, added, Within}
use Rattle.midi_model.specs.Sysex.{Plays}
use Rattle.midi_model.specs.Params.{value_of, rpn}
use Rattle.midi_model.specs.Channel.{Channel}
use Rattle.midi_model.specs.Zones.{no_zones, master}
use Rattle.midi_model.specs.Notes.{Note, sounds, Fades}
use Rattle.midi_model.specs.Music.{Music, channel_at, asks, advance}
use Rattle.midi_model.specs.MusicLaws.{IsSettled, begun_by, NotesFade}
use Rattle.midi_model.specs.Tuning.{selected_of}
use Rattle.midi_model.specs.Receiver.{Receiver}
use Rattle.midi_model.specs.Played.{played, by_program, fine, coarse, bent, bends}
use Rattle.retune_model.specs.Table.{Scaling, terms_at, ratios_at_key, Bounds, AreBounds, IsTable, AreFewTerms, BendTarget, bend_target}
use Rattle.retune_model.specs.Options.{Route, ByBend, Options, half_step, bound}
use Rattle.retune_model.specs.Source.{bend_in_steps, moved, heard_if, source_pitch}
use Rattle.retune_model.specs.PlaysTheSame.{IsWithin, bend_target_if}
use Rattle.retune_model.specs.Faults.{Targets, is_part, target_of, is_bend, is_within_bend}
use Rattle.retune_model.specs.SourceFaults.{first_beyond, beyond_after}
use Rattle.retune_model.specs.Pairs.{Part, Pair, is_same_part, is_same_pair}
use Rattle.channel_model.specs.BendOutput.{pair_with}
use Rattle.bend_laws.specs.Follows.{Has, IsAmong, SoundAmong}
use Rattle.bend_laws.proofs.Equal.{same_pair, part_itself}
use Rattle.channel_model.specs.Choice.{bend_value}
use Rattle.bend_laws.proofs.Lists.{all_weaker, all_append, all_both}
use Rattle.bend_laws.proofs.Keys.{same_aim}
use Rattle.bend_laws.proofs.Elsewhere.{GoesOn, goes_on}
use Rattle.bend_laws.proofs.Fading.{faded}
use Rattle.bend_laws.proofs.Steps.{more_steps, not_cut, IsNear, near}
use Rattle.retune_model.proofs.Heard.{has_pitch, HasPitch}
use Rattle.retune_model.proofs.Laws.{PitchLaws}

-- ---- within the bound

pub heard_within : (laws : PitchLaws) (p : Pitch) (terms : ℕ) (ratios : List (ℕ × ℕ)) (b : Bounds) (range : ℕ) (t : BendTarget) (x n : ℤ) →
    AreBounds p terms ratios b → terms ≤ 1700 → 0 < range → bend_target range b ≡ Some t
    → n ≡ (pos (3200000000000 * t.key) +ℤ (pos (390625000 * range) *ℤ t.steps)) +ℤ x → Within (added p (exactly x)) n (195312500 * range + 32000000)
heard_within laws p terms ratios b range t x n a few positive e same =
    let r : IsNear b.lo range t = near range b t positive e in
    let S : ℤ = pos (3200000000000 * t.key) +ℤ (pos (390625000 * range) *ℤ t.steps) in
    let least : (n -ℤ pos (195312500 * range + 32000000)) ≤ℤ (b.lo +ℤ x) = lower b.lo S x n range same r.low in
    let most : (b.hi +ℤ x) ≤ℤ (n +ℤ pos (195312500 * range + 32000000)) = upper b.lo b.hi S x n range terms same r.high a.narrow few in
    record {
      least = laws.least_of_less (added p (exactly x)) (b.lo +ℤ x)
          (n -ℤ pos (195312500 * range + 32000000)) least (laws.least_of_sum p (exactly x) b.lo x a.least (laws.least_of_exact x));
      most = laws.most_of_more (added p (exactly x)) (b.hi +ℤ x)
          (n +ℤ pos (195312500 * range + 32000000)) most (laws.most_of_sum p (exactly x) b.hi x a.most (laws.most_of_exact x));
    }
  where
    lower : (lo S x n : ℤ) (r : ℕ) → n ≡ S +ℤ x → S ≤ℤ (lo +ℤ pos (195312500 * r)) → (n -ℤ pos (195312500 * r + 32000000)) ≤ℤ (lo +ℤ x)
    lower lo S x n r e h = omega (arith, ints, e, h)

    upper : (lo hi S x n : ℤ) (r terms : ℕ) → n ≡ S +ℤ x → lo ≤ℤ (S +ℤ pos (195312500 * r)) → hi ≤ℤ (lo +ℤ pos (18000 * terms)) → terms ≤ 1700 →
        (hi +ℤ x) ≤ℤ (n +ℤ pos (195312500 * r + 32000000))
    upper lo hi S x n r terms e h g f = omega (arith, ints, e, h, g, f)

-- ---- what is played

no_master : (c : ℕ) → master no_zones c ≡ None
no_master c = grind (arith, nat_tests)

abbrev pub pitch_by : Receiver → Note → Option ℕ → Option ℕ → ℤ
pitch_by r n m p =
    let s = channel_at r.music (unwrap_or m n.channel) in
    ((by_program r.tuning p n.key +ℤ fine s) +ℤ coarse s) +ℤ bends r n.channel m

played_is : (r : Receiver) (n : Note) → r.music.zones ≡ no_zones → selected_of r.tuning n.channel ≡ None
    → played r n ≡ ((pos (3200000000000 * n.key) +ℤ fine (channel_at r.music n.channel)) +ℤ coarse (channel_at r.music n.channel)) +ℤ bent
    (channel_at r.music n.channel)
played_is r n z e =
    let none : master r.music.zones n.channel ≡ None = ap (λ x. master x n.channel) z ∙ no_master n.channel in
    ap (λ m. pitch_by r n m (selected_of r.tuning (unwrap_or m n.channel))) none ∙ ap (λ q. pitch_by r n None q) e

-- the two channels of a note, as far as its pitch goes
pub record IsTunedAlike (range : ℕ) (q : ℤ) (cs co : Channel) : Type 0 where
  pub fine : value_of co.params (rpn 1) ≡ value_of cs.params (rpn 1)
  pub coarse : value_of co.params (rpn 2) ≡ value_of cs.params (rpn 2)
  pub range_set : value_of co.params (rpn 0) ≡ (range, 0)
  pub bend : co.bend ≡ bend_value ((pos 8192 +ℤ q) +ℤ bend_in_steps range cs)
  pub uncut : is_within_bend (q +ℤ bend_in_steps range cs) ≡ true

bent_is : (range : ℕ) (q : ℤ) (cs co : Channel) → IsTunedAlike range q cs co → bent co
    ≡ (pos (390625000 * range) *ℤ q) +ℤ (bend_in_steps range cs *ℤ pos (390625000 * range))
bent_is range q cs co h =
    let r : ℤ = bend_in_steps range cs in
    let sens : 3906250 * (100 * range + 0) ≡ 390625000 * range = omega arith in
    let at : (pos co.bend -ℤ pos 8192) ≡ (q +ℤ r) = ap (λ b. pos b -ℤ pos 8192) h.bend ∙ ap (λ z. pos (bend_value z) -ℤ pos 8192) (regroup q r)
    ∙ ap (λ z. z -ℤ pos 8192) (not_cut (q +ℤ r) h.uncut) ∙ away (q +ℤ r) in
    ap (λ (v : ℕ × ℕ). pos (3906250 * (100 * v.0 + v.1)) *ℤ (pos co.bend -ℤ pos 8192)) h.range_set
    ∙ ap (λ s. pos s *ℤ (pos co.bend -ℤ pos 8192)) sens ∙ ap (λ z. pos (390625000 * range) *ℤ z) at ∙ more_steps (390625000 * range) q r
  where
    regroup : (q r : ℤ) → (pos 8192 +ℤ q) +ℤ r ≡ pos 8192 +ℤ (q +ℤ r)
    regroup q r = omega (arith, ints)

    away : (z : ℤ) → (pos 8192 +ℤ z) -ℤ pos 8192 ≡ z
    away z = omega (arith, ints)

-- ---- one note

pub record Scales (scaling : Scaling) (o : Options) (table : Targets) : Type 0 where
  pub laws : PitchLaws
  pub route : o.route ≡ ByBend
  pub range : 0 < o.range
  pub bounds : IsTable scaling table
  pub few_terms : AreFewTerms scaling

pub bounds_of : (o : Options) (table : Targets) (k t : ℕ) (x : BendTarget) → bend_target_if o.range (table k t) ≡ Some x → (b : Bounds) ×
    (table k t ≡ Some b) × (bend_target o.range b ≡ Some x)
bounds_of o table k t x h = pick (table k t) refl h
  where
    pick : (y : Option Bounds) → table k t ≡ y → bend_target_if o.range y ≡ Some x → (b : Bounds) × (table k t ≡ Some b) ×
        (bend_target o.range b ≡ Some x)
    pick None e g = absurd cc
    pick (Some b) e g = (b, e, g)

pub pitch_alike : (scaling : Scaling) (o : Options) (table : Targets) → Scales scaling o table → (m : Music) (ro : Receiver) (a b : Note)
    (t : BendTarget) → a.key < 128 → target_of o table a ≡ Some t → b.key ≡ t.key →
    ro.music.zones ≡ no_zones → selected_of ro.tuning b.channel ≡ None → IsTunedAlike o.range t.steps (channel_at m a.channel)
    (channel_at ro.music b.channel) → IsWithin (source_pitch scaling o m a) (played ro b) (bound o)
pitch_alike scaling o table g m ro a b t low aim key z none alike =
    let found = bounds_of o table a.key a.onset t aim in
    let p : HasPitch scaling a.key a.onset found.0 = has_pitch scaling table a.key a.onset found.0 g.bounds low found.1 in
    let cs : Channel = channel_at m a.channel in
    let co : Channel = channel_at ro.music b.channel in
    let r : ℤ = bend_in_steps o.range cs *ℤ pos (390625000 * o.range) in
    let x : ℤ = (fine cs +ℤ coarse cs) +ℤ r in
    let K : ℤ = pos (3200000000000 * t.key) in
    let Q : ℤ = pos (390625000 * o.range) *ℤ t.steps in
    let same_fine : fine co ≡ fine cs = ap (λ (v : ℕ × ℕ). pos 390625000 *ℤ (pos (128 * v.0 + v.1) -ℤ pos 8192)) alike.fine in
    let same_coarse : coarse co ≡ coarse cs = ap (λ (v : ℕ × ℕ). pos 3200000000000 *ℤ (pos v.0 -ℤ pos 64)) alike.coarse in
    let sum : played ro b ≡ (K +ℤ Q) +ℤ x = played_is ro b z none ∙ ap (λ k. ((pos (3200000000000 * k) +ℤ fine co) +ℤ coarse co) +ℤ bent co) key
    ∙ ap (λ f. ((K +ℤ f) +ℤ coarse co) +ℤ bent co) same_fine
    ∙ ap (λ f. ((K +ℤ fine cs) +ℤ f) +ℤ bent co) same_coarse ∙ ap (λ f. ((K +ℤ fine cs) +ℤ coarse cs) +ℤ f) (bent_is o.range t.steps cs co alike)
    ∙ regroup K (fine cs) (coarse cs) Q r in
    let close : Within (added p.pitch (exactly x)) (played ro b) (195312500 * o.range + 32000000) =
    heard_within g.laws p.pitch (terms_at scaling a.key a.onset)
    (ratios_at_key scaling a.key a.onset) found.0 o.range t x (played ro b) p.bounds (g.few_terms a.key a.onset (omega (
      arith,
      low,
    ))) g.range found.2 sum in
    let P : Route → Type 0 = λ w. Within (added p.pitch (exactly ((fine cs +ℤ coarse cs) +ℤ moved w o.range cs))) (played ro b)
    (half_step w o.range + 32000000) in
    let R : Option Pitch → Type 0 = λ q. IsWithin (heard_if o cs q) (played ro b) (bound o) in
    subst R (sym p.is) (subst P (sym g.route) close)
  where
    regroup : (k f c q r : ℤ) → ((k +ℤ f) +ℤ c) +ℤ (q +ℤ r) ≡ (k +ℤ q) +ℤ ((f +ℤ c) +ℤ r)
    regroup k f c q r = omega (arith, ints)

-- ---- no bend is cut: what a source without fault 4 keeps

abbrev pub BendsFit : Options → Targets → Music → Note → Type 0
BendsFit o table m n = is_part o n.channel ≡ true → sounds n ≡ true → (t : BendTarget) → target_of o table n ≡ Some t →
    is_within_bend (t.steps +ℤ bend_in_steps o.range (channel_at m n.channel)) ≡ true

-- after a message: of its own part by the test, of the others as before
two_true : (a b x : Bool) → a ≡ true → b ≡ true → (a && (b && x)) ≡ false → x ≡ false
two_true true true x h g i = i
two_true true false x h g i = absurd cc
two_true false b x h g i = absurd cc

abbrev FitsElsewhere : Options → Targets → Music → ℕ → Note → Type 0
FitsElsewhere o table m c n = n.channel ≢ c → BendsFit o table m n

elsewhere_fades : (o : Options) (table : Targets) (m : Music) (c : ℕ) (a b : Note) → Fades a b → FitsElsewhere o table m c a →
    FitsElsewhere o table m c b
elsewhere_fades o table m c a b f h other part s t aim =
    subst (λ d. is_within_bend (t.steps +ℤ bend_in_steps o.range (channel_at m d)) ≡ true) (sym f.channel)
    (h (λ e. other (f.channel ∙ e)) (ap (is_part o) (sym f.channel) ∙ part) (f.sounds s) t (sym (same_aim o table a b f) ∙ aim))

begun_elsewhere : (o : Options) (table : Targets) (m : Music) (t : ℕ) (msg : Msg) → AllByRecursion (FitsElsewhere o table m (channel_of msg))
    (begun_by m t (Plays msg))
begun_elsewhere o table m t (NoteOn c k zero) = tt
begun_elsewhere o table m t (NoteOn c k (suc v)) = ((λ other. absurd (other refl)), tt)
begun_elsewhere o table m t (NoteOff c k v) = tt
begun_elsewhere o table m t (KeyPressure c k v) = tt
begun_elsewhere o table m t (Control c n v) = tt
begun_elsewhere o table m t (Program c p) = tt
begun_elsewhere o table m t (Pressure c v) = tt
begun_elsewhere o table m t (Bend c v) = tt

-- where no pair of a part is found too far, all of them are within a bend
abbrev part_of : ℕ → ℕ → Part
part_of port c = record { port = port; channel = c }

none_beyond : (part : Part) (r : ℤ) (ps : List Pair) → first_beyond part r ps ≡ None → (p : Pair) → Has ps p → p.part ≡ part →
    is_within_bend (p.steps +ℤ r) ≡ true
none_beyond part r [] none p h e = absurd (both_ways false refl h)
none_beyond part r (q ∷ qs) none p h e =
    pick (is_same_part q.part part && not (is_within_bend (q.steps +ℤ r))) refl none (λ g m. none_beyond part r qs g p m e)
  where
    pick : (b : Bool) → (is_same_part q.part part && not (is_within_bend (q.steps +ℤ r))) ≡ b → cond b (Some (q.steps, r))
        (first_beyond part r qs) ≡ None →
        (first_beyond part r qs ≡ None → Has qs p → is_within_bend (p.steps +ℤ r) ≡ true) → is_within_bend (p.steps +ℤ r) ≡ true
    pick true f g rest = absurd cc
    pick false f g rest = elim (or_cases (is_same_pair p q) (is_member is_same_pair qs p) h) [
      | inl same ↦ (let i : p ≡ q = same_pair p q same in
          let it : is_same_part q.part part ≡ true = ap (λ (x : Pair). is_same_part x.part part) (sym i) ∙ ap (λ x. is_same_part x part) e
          ∙ part_itself part in
          ap (λ (x : Pair). is_within_bend (x.steps +ℤ r)) i
          ∙ not-false (is_within_bend (q.steps +ℤ r)) (ap (λ b. b && not (is_within_bend (q.steps +ℤ r))) (sym it) ∙ f))
      | inr m ↦ rest g m
    ]

is_none : (x : Option (ℤ × ℤ)) → is_some x ≡ false → x ≡ None
is_none None e = refl
is_none (Some x) e = absurd cc

pub fits_message : NotesFade → (port : ℕ) (o : Options) (table : Targets) (ps : List Pair) (m : Music) (t : ℕ) (msg : Msg) → o.route ≡ ByBend →
    m.zones ≡ no_zones → IsSettled m → asks m msg ≡ None →
    (is_bend o.route && (is_part o (channel_of msg) && is_some (beyond_after port o (advance t (Plays msg) m) ps msg))) ≡ false →
    SoundAmong port o table ps (advance t (Plays msg) m).notes → AllByRecursion (BendsFit o table m) m.notes →
    AllByRecursion (BendsFit o table (advance t (Plays msg) m)) (advance t (Plays msg) m).notes
fits_message fade port o table ps m t msg route z s none test among h =
    let c : ℕ = channel_of msg in
    let after : Music = advance t (Plays msg) m in
    let g : GoesOn m c (begun_by m t (Plays msg)) after = goes_on m t msg z s none in
    let others : AllByRecursion (FitsElsewhere o table m c) after.notes =
    faded (FitsElsewhere o table m c) (elsewhere_fades o table m c) (m.notes ++ begun_by m t (Plays msg)) after.notes (fade m t (Plays msg))
    (all_append (FitsElsewhere o table m c) m.notes (begun_by m t (Plays msg)) (all_weaker (BendsFit o table m) (FitsElsewhere o table m c)
    (λ n k other. k) m.notes h) (begun_elsewhere o table m t msg)) in
    let Own : Note → Type 0 = λ n. n.channel ≡ c → BendsFit o table after n in
    let own : AllByRecursion Own after.notes = elim (cases_Bool (is_part o c)) [
      | inr no_part ↦ every Own (λ n e part. absurd (both_ways (is_part o c) no_part (ap (is_part o) (sym e) ∙ part))) after.notes
      | inl part ↦ (let within : first_beyond (part_of port c) (bend_in_steps o.range (channel_at after c)) ps ≡ None =
          is_none (beyond_after port o after ps msg) (two_true (is_bend o.route) (is_part o c) (is_some (beyond_after port o after ps msg))
          (ap is_bend route) part test) in
          all_weaker (λ n. is_part o n.channel ≡ true → sounds n ≡ true → IsAmong port ps n.channel (target_of o table n)) Own
          (λ n k e p sn x aim. subst (λ d. is_within_bend (x.steps +ℤ bend_in_steps o.range (channel_at after d)) ≡ true) (sym e)
          (none_beyond (part_of port c) (bend_in_steps o.range (channel_at after c)) ps within (pair_with port n.channel x)
          (subst (IsAmong port ps n.channel) aim (k p sn)) (ap (part_of port) e)))
          after.notes among)
    ] in
    all_weaker (λ n. Own n × FitsElsewhere o table m c n) (BendsFit o table after)
    (λ n k. elim (cases_eq n.channel c) [
      | inl e ↦ k.0 e
      | inr e ↦ (λ part sn x aim. subst (λ ch. is_within_bend (x.steps +ℤ bend_in_steps o.range ch) ≡ true) (sym (g.others n.channel e))
          (k.1 e part sn x aim))
    ]) after.notes (all_both Own (FitsElsewhere o table m c) after.notes own others)
  where
    every : (P : Note → Type 0) → ((n : Note) → P n) → (ns : List Note) → AllByRecursion P ns
    every P k [] = tt
    every P k (n ∷ ns) = (k n, every P k ns)
