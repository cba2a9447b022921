-- What changes a note on both sides alike.
use Rattle.std.proofs.Common.{◌≡◌, ◌≢◌, ℕ, Bool, true, false, cond, not, ◌&&◌, List, Option, Some, None, is_some, refl, ap, sym, ◌∙◌, subst, get_or, inl, inr}
use Rattle.std.proofs.lemmas.Bool.{cases_Bool, both_ways, cond_both}
use Rattle.retune_model.specs.Pairs.{Pair}
use Rattle.midi_model.specs.Channel.{Channel, default_channel, control_of}
use Rattle.midi_model.specs.Zones.{no_zones, governor}
use Rattle.midi_model.specs.Notes.{Note, sounds, is_down, is_pedal_down, ending, releasing}
use Rattle.midi_model.specs.Music.{pedal, is_over, settle_note}
use Rattle.retune_model.specs.Options.{Options}
use Rattle.retune_model.specs.Faults.{Targets, is_part}
use Rattle.channel_model.specs.BendOutput.{pair_with}
use Rattle.channel_model.specs.MpeOutput.{Zone, master_of, zone_of}
use Rattle.bend_laws.proofs.Brought.{turned_captured}
use Rattle.bend_laws.specs.Follows.{SoundsAlike, IsPlayedBy, IsMatched}
use Rattle.bend_laws.proofs.Equal.{own_governor}
use Rattle.bend_laws.proofs.Altered.{ending_form, ending_channel, played_ended, played_altered}
use Rattle.bend_laws.proofs.Lifting.{down_alike}
use Rattle.bend_laws.proofs.Matching.{output_sounds}
use Rattle.mpe_laws.specs.Zoned.{planned}
use Rattle.mpe_laws.specs.Follows.{IsZoned}
use Rattle.bend_laws.proofs.Elsewhere.{releasing_channel}

-- the zone of a note's part, which governs the output's note
pub record IsGoverned (zones : List Zone) (a b : Note) : Type 0 where
  pub zone : Zone
  pub of : zone_of a.channel zones ≡ Some zone
  pub by : governor (planned zones) b.channel ≡ master_of zone
  pub inside : (c : ℕ) (w : Zone) → zone_of c zones ≡ Some w → b.channel ≢ master_of w

pub record Governed (port : ℕ) (o : Options) (table : Targets) (zones : List Zone) (place : Pair → ℕ) (a b : Note) : Type 0 where
  pub matched : IsMatched port o table place a b
  pub governed : is_part o a.channel ≡ true → sounds a ≡ true → IsGoverned zones a b
  pub zoned : IsZoned o zones a

-- ---- a change that hits a note or not

pub record IsOp (port : ℕ) (o : Options) (table : Targets) (place : Pair → ℕ) (f : Bool → Note → Note) : Type 0 where
  pub channel : (h : Bool) (n : Note) → (f h n).channel ≡ n.channel
  pub pressure : (h : Bool) (n : Note) → (f h n).pressure ≡ n.pressure
  pub silent : (h : Bool) (n : Note) → sounds n ≡ false → f h n ≡ n
  pub miss : (n : Note) → f false n ≡ n
  pub hit : (a b : Note) → IsPlayedBy port o table place a b → sounds a ≡ true → IsPlayedBy port o table place (f true a) (f true b)

pub sounded : (f : Note → Note) (n : Note) → (sounds n ≡ false → f n ≡ n) → sounds (f n) ≡ true → sounds n ≡ true
sounded f n h s = elim (cases_Bool (sounds n)) [
  | inl i ↦ i
  | inr i ↦ absurd (both_ways (sounds n) i (ap sounds (sym (h i)) ∙ s))
]

pub governed_moved : (zones : List Zone) (a b x y : Note) → x.channel ≡ a.channel → y.channel ≡ b.channel → IsGoverned zones a b →
    IsGoverned zones x y
governed_moved zones a b x y h g i = record {
  zone = i.zone;
  of = ap (λ c. zone_of c zones) h ∙ i.of;
  by = ap (governor (planned zones)) g ∙ i.by;
  inside = λ c w h e. i.inside c w h (sym g ∙ e);
}

pub zoned_moved : (zones : List Zone) (a x : Note) → x.channel ≡ a.channel → x.pressure ≡ a.pressure → (a.pressure ≡ 0) × ((z : Zone) ×
    (zone_of a.channel zones ≡ Some z)) → (x.pressure ≡ 0) × ((z : Zone) × (zone_of x.channel zones ≡ Some z))
zoned_moved zones a x h g i = (g ∙ i.0, (i.1.0, ap (λ c. zone_of c zones) h ∙ i.1.1))

pub op_pair : (port : ℕ) (o : Options) (table : Targets) (zones : List Zone) (place : Pair → ℕ) (f : Bool → Note → Note) →
    IsOp port o table place f → (a b : Note) (h g : Bool) → Governed port o table zones place a b →
    (is_part o a.channel ≡ true → sounds a ≡ true → g ≡ h) → Governed port o table zones place (f h a) (f g b)
op_pair port o table zones place f op a b h g both same = record {
  matched = record {
    retuned = ap (is_part o) (op.channel g b) ∙ both.matched.retuned ∙ ap (is_part o) (sym (op.channel h a));
    played = λ p. (let q : is_part o a.channel ≡ true = ap (is_part o) (sym (op.channel h a)) ∙ p in elim (cases_Bool (sounds a)) [
      | inl s ↦ subst (λ z. IsPlayedBy port o table place (f h a) (f z b)) (sym (same q s)) (by_hit h (both.matched.played q) s)
      | inr s ↦ (let y : IsPlayedBy port o table place a b = both.matched.played q in
          subst (λ z. IsPlayedBy port o table place z (f g b)) (sym (op.silent h a s)) (subst (IsPlayedBy port o table place a) (sym
          (op.silent g b (output_sounds port o table place a b y ∙ s))) y))
    ]);
  };
  governed = λ p s. governed_moved zones a b (f h a) (f g b) (op.channel h a) (op.channel g b) (both.governed (ap (is_part o) (sym
      (op.channel h a)) ∙ p) (sounded (f h) a (op.silent h a) s));
  zoned = λ p. zoned_moved zones a (f h a) (op.channel h a) (op.pressure h a) (both.zoned (ap (is_part o) (sym (op.channel h a)) ∙ p));
}
  where
    by_hit : (r : Bool) → IsPlayedBy port o table place a b → sounds a ≡ true → IsPlayedBy port o table place (f r a) (f r b)
    by_hit true y s = op.hit a b y s
    by_hit false y s = subst (λ z. IsPlayedBy port o table place z (f false b)) (sym (op.miss a)) (subst (IsPlayedBy port o table place a) (sym
        (op.miss b)) y)

-- ---- ending

abbrev pub ends : ℕ → Bool → Note → Note
ends t h n = cond h (ending t n) n

ending_pressure : (t : ℕ) (n : Note) → (ending t n).pressure ≡ n.pressure
ending_pressure t n = ap (λ (x : Note). x.pressure) (ending_form t n)

pub ending_silent : (t : ℕ) (n : Note) → sounds n ≡ false → ending t n ≡ n
ending_silent t n s = ap (λ b. cond b (record n { ended = Some t }) n) s

pub ends_op : (port : ℕ) (o : Options) (table : Targets) (place : Pair → ℕ) (t : ℕ) → IsOp port o table place (ends t)
ends_op port o table place t = record {
  channel = λ h n. cond_both h (ending t n) n (λ (y : Note). y.channel ≡ n.channel) (λ e. ending_channel t n) (λ e. refl);
  pressure = λ h n. cond_both h (ending t n) n (λ (y : Note). y.pressure ≡ n.pressure) (λ e. ending_pressure t n) (λ e. refl);
  silent = λ h n s. cond_both h (ending t n) n (λ y. y ≡ n) (λ e. ending_silent t n s) (λ e. refl);
  miss = λ n. refl;
  hit = λ a b y s. played_ended port o table place place t a b y;
}

-- ---- releasing

abbrev pub releases : ℕ → ℕ → Bool → Note → Note
releases t v h n = cond h (releasing t v n) n

releasing_pressure : (t v : ℕ) (n : Note) → (releasing t v n).pressure ≡ n.pressure
releasing_pressure t v n = cond_both (is_down n) (record n { release = Some (t, v) }) n (λ (y : Note). y.pressure ≡ n.pressure) (λ e. refl)
    (λ e. refl)

releasing_silent : (t v : ℕ) (n : Note) → sounds n ≡ false → releasing t v n ≡ n
releasing_silent t v n s = ap (λ b. cond (b && not (is_some n.release)) (record n { release = Some (t, v) }) n) s

released_pair : (port : ℕ) (o : Options) (table : Targets) (place : Pair → ℕ) (t v : ℕ) (a b : Note) → IsPlayedBy port o table place a b →
    (d : Bool) → IsPlayedBy port o table place (cond d (record a { release = Some (t, v) }) a) (cond d (record b { release = Some (t, v) }) b)
released_pair port o table place t v a b y true = played_altered port o table place place a b (Some (t, v)) (Some
    (t, v)) a.captured b.captured a.pressure b.pressure a.ended b.ended y refl y.ended
    (λ i. (let z : SoundsAlike (place
    (pair_with port a.channel y.target)) a b = y.sounding i in record { on = z.channel; captured = z.captured; pressure = z.pressure }))
released_pair port o table place t v a b y false = y

pub releases_op : (port : ℕ) (o : Options) (table : Targets) (place : Pair → ℕ) (t v : ℕ) → IsOp port o table place (releases t v)
releases_op port o table place t v = record {
  channel = λ h n. cond_both h (releasing t v n) n (λ (y : Note). y.channel ≡ n.channel) (λ e. releasing_channel t v n) (λ e. refl);
  pressure = λ h n. cond_both h (releasing t v n) n (λ (y : Note). y.pressure ≡ n.pressure) (λ e. releasing_pressure t v n) (λ e. refl);
  silent = λ h n s. cond_both h (releasing t v n) n (λ y. y ≡ n) (λ e. releasing_silent t v n s) (λ e. refl);
  miss = λ n. refl;
  hit = λ a b y s. subst (λ d. IsPlayedBy port o table place (releasing t v a) (cond d (record b { release = Some (t, v) }) b)) (sym
      (down_alike port o table place a b y)) (released_pair port o table place t v a b y (is_down a));
}

-- ---- sostenuto

abbrev pub sustains : ℕ → ℕ → Bool → Note → Note
sustains x v h n = cond (h && sounds n) (cond (is_pedal_down x) (cond (is_pedal_down v) n (record n { captured = false })) (cond
    (is_pedal_down v && is_down n) (record n { captured = true }) n)) n

sustains_true : (x v : ℕ) (n : Note) (e : Option ℕ) →
    (let y : Note = record n { ended = e } in sustains x v true y ≡ record y { captured = turned_captured x v y.release y.captured e })
sustains_true x v n (Some s) = refl
sustains_true x v n None = pick (is_pedal_down x) (is_pedal_down v) (is_some n.release)
  where
    pick : (a b r : Bool) → cond a (cond b (record n { ended = None }) (record n { ended = None; captured = false })) (cond (b && not r)
        (record n { ended = None; captured = true }) (record n { ended = None })) ≡ record n {
          ended = None;
          captured = cond a
              (cond b n.captured false) (cond (b && not r) true n.captured);
        }
    pick true true r = refl
    pick true false r = refl
    pick false true true = refl
    pick false true false = refl
    pick false false r = refl

pub sustains_form : (x v : ℕ) (h : Bool) (n : Note) → sustains x v h n ≡ record n {
  captured = cond h
      (turned_captured x v n.release n.captured n.ended) n.captured;
}
sustains_form x v true n = sustains_true x v n n.ended
sustains_form x v false n = refl

captured_alike : (x v : ℕ) (r s : Option (ℕ × ℕ)) (k l : Bool) (e f : Option ℕ) → s ≡ r → l ≡ k → f ≡ e →
    turned_captured x v s l f ≡ turned_captured x v r k e
captured_alike x v r s k l e f b d i = cc

pub and_false : (b : Bool) → (b && false) ≡ false
and_false true = refl
and_false false = refl

pub sustains_op : (port : ℕ) (o : Options) (table : Targets) (place : Pair → ℕ) (x v : ℕ) → IsOp port o table place (sustains x v)
sustains_op port o table place x v = record {
  channel = λ h n. ap (λ (y : Note). y.channel) (sustains_form x v h n);
  pressure = λ h n. ap (λ (y : Note). y.pressure) (sustains_form x v h n);
  silent = λ h n s. ap (λ b. cond b (cond (is_pedal_down x) (cond (is_pedal_down v) n (record n { captured = false })) (cond
      (is_pedal_down v && is_down n) (record n { captured = true }) n)) n) (ap (λ b. h && b) s ∙ and_false h);
  miss = λ n. refl;
  hit = λ a b y s.
      let z : SoundsAlike (place (pair_with port a.channel y.target)) a b = y.sounding s in
      let k : Bool = turned_captured x v a.release a.captured a.ended in
      let l : Bool = turned_captured x v b.release b.captured b.ended in
      subst (λ n. IsPlayedBy port o table place n (sustains x v true b)) (sym (sustains_form x v true a)) (subst (IsPlayedBy port o table place
      (record a { captured = k })) (sym (sustains_form x v true b))
      (played_altered port o table place place a b a.release b.release k l a.pressure b.pressure a.ended b.ended y y.release y.ended
      (λ i. record {
        on = z.channel;
        captured = captured_alike x v a.release b.release a.captured b.captured a.ended b.ended y.release z.captured y.ended;
        pressure = z.pressure;
      })));
}

-- ---- settling, where the masters have the pedals of their parts

over_same : (r s : Option (ℕ × ℕ)) (k l : Bool) (p q : ℕ) → s ≡ r → l ≡ k → q ≡ p → (is_some s && (not l && not (is_pedal_down q))) ≡
    (is_some r && (not k && not (is_pedal_down p)))
over_same r s k l p q a b c = cc

pub settle_pair : (port : ℕ) (o : Options) (table : Targets) (zones : List Zone) (place : Pair → ℕ) (t : ℕ) (ss us : List Channel) → ((c : ℕ)
    (z : Zone) → zone_of c zones ≡ Some z → get_or us (master_of z) default_channel ≡ get_or ss c default_channel) →
    (a b : Note) → Governed port o table zones place a b → Governed port o table zones place (settle_note ss no_zones t a) (settle_note us
    (planned zones) t b)
settle_pair port o table zones place t ss us masters a b g =
    op_pair port o table zones place (ends t) (ends_op port o table place t) a b (is_over ss no_zones a) (is_over us (planned zones) b) g
    (λ p s.
    let y : IsPlayedBy port o table place a b = g.matched.played p in
    let i : IsGoverned zones a b = g.governed p s in
    let pedals : pedal us (planned zones) b ≡ pedal ss no_zones a =
    ap (λ d. control_of (get_or us d default_channel) 64) i.by ∙ ap (λ (x : Channel). control_of x 64) (masters a.channel i.zone i.of) ∙ ap
    (λ d. control_of (get_or ss d default_channel) 64) (sym (own_governor a.channel)) in
    over_same a.release b.release a.captured b.captured (pedal ss no_zones a) (pedal us (planned zones) b) y.release (y.sounding s).captured pedals)
