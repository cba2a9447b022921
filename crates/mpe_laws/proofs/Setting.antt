-- What the messages of the setup do, one after the other, where no note sounds.
use Rattle.std.proofs.Common.{◌≡◌, ◌≢◌, ◌<◌, ◌+◌, arith, ℕ, zero, suc, Bool, true, false, cond, ◌||◌, List, [], ◌∷◌, Option, Some, None, refl, ap, sym, ◌∙◌, subst, map, set, get_or, length, nat_eq, min}
use Rattle.std.specs.List.{AllByRecursion}
use Rattle.std.proofs.lemmas.Bool.{cond_both, eq-eqb}
use Rattle.std.proofs.lemmas.List.{set-get_or, get_or-set_same, get_or-set_other}
use Rattle.mt_base.specs.declared.event.Msg.{Msg}
use Rattle.mt_base.specs.declared.event.Msg.TheVariants.{Control}
use Rattle.mt_base.specs.Midi.{MidiEvent}
use Rattle.midi_model.specs.Sysex.{Plays}
use Rattle.midi_model.specs.Params.{Entry, rpn, put, value_of, pair_eq}
use Rattle.midi_model.specs.Channel.{Channel, default_channel, default_controls, controlled, apply, role, target}
use Rattle.midi_model.specs.Zones.{Zones, governor, zones_with, bend_range, bend_range_at, bend_ranges, bend_ranges_from}
use Rattle.midi_model.specs.Notes.{Note, sounds, ending}
use Rattle.midi_model.specs.Music.{Music, channel_at, asks, asked, notes_turned, notes_after, is_over, settle_note, advance, play}
use Rattle.midi_model.specs.MusicLaws.{IsSettled}
use Rattle.midi_model.specs.Bring.{registered}
use Rattle.bend_laws.proofs.Lists.{map_kept, all_weaker}
use Rattle.bend_laws.proofs.Turned.{said}
use Rattle.bend_laws.proofs.Playing.{saying}
use Rattle.bend_laws.proofs.Changing.{said_at}
use Rattle.mpe_laws.specs.Zoned.{member_state}
use Rattle.mpe_laws.proofs.Ops.{ending_silent}
use Rattle.mpe_laws.proofs.Standing.{Laws}

abbrev pub Silent : List Note → Type 0
Silent ns = AllByRecursion (λ n. sounds n ≡ false) ns

-- no note sounds, and nothing is left to settle
pub record Calm (ns : List Note) (x : Music) : Type 0 where
  pub settled : IsSettled x
  pub notes : x.notes ≡ ns
  pub silent : Silent x.notes

settle_silent : (ss : List Channel) (w : Zones) (t : ℕ) (n : Note) → sounds n ≡ false → settle_note ss w t n ≡ n
settle_silent ss w t n s = cond_both (is_over ss w n) (ending t n) n (λ y. y ≡ n) (λ e. ending_silent t n s) (λ e. refl)

pub all_silent : (ss : List Channel) (w : Zones) (t : ℕ) (ns : List Note) → Silent ns → map (settle_note ss w t) ns ≡ ns
all_silent ss w t ns h = map_kept (settle_note ss w t) ns (all_weaker (λ n. sounds n ≡ false) (λ n. settle_note ss w t n ≡ n)
    (settle_silent ss w t) ns h)

-- one channel changes
pub record Went (ns : List Note) (c : ℕ) (x y : Music) (s : Channel) : Type 0 where
  pub calm : Calm ns y
  pub here : channel_at y c ≡ s
  pub others : (q : ℕ) → q ≢ c → channel_at y q ≡ channel_at x q
  pub zones_are : y.zones ≡ x.zones

went : Laws → (ns : List Note) (x : Music) → Calm ns x → (t c n v : ℕ) (s u : Channel) → c < 16 → channel_at x c ≡ s → asks x
    (Control c n v) ≡ None → notes_turned x t c n v (role n) ≡ x.notes → controlled s n v (role n) ≡ u →
    Went ns c x (advance t (Plays (Control c n v)) x) u
went laws ns x calm t c n v s u low is none same does =
    let msg : Msg = Control c n v in
    let y : Music = advance t (Plays msg) x in
    let A : Channel = apply (channel_at x c) msg in
    let ss : List Channel = set x.channels c A in
    let out : y ≡ (let z : Music = record {
      channels = ss;
      zones = x.zones;
      notes = map (settle_note ss x.zones t)
          (notes_after x t msg);
    } in z) = said x t msg none in
    let notes : y.notes ≡ x.notes = ap (λ (z : Music). z.notes) out ∙ ap (map (settle_note ss x.zones t)) same
    ∙ all_silent ss x.zones t x.notes calm.silent in
    record {
      calm = record {
        settled = laws.settle x (said_at t 0 msg) calm.settled;
        notes = notes ∙ calm.notes;
        silent = subst Silent
            (sym notes) calm.silent;
      };
      here = ap (λ (z : Music). channel_at z c) out ∙ get_or-set_same x.channels c A default_channel (subst (λ l. c < l)
          (sym calm.settled.channels) low) ∙ ap (λ q. apply q msg) is ∙ does;
      others = λ q h. ap (λ (z : Music). channel_at z q) out ∙ get_or-set_other x.channels c q A default_channel h;
      zones_are = ap (λ (z : Music). z.zones) out;
    }

then_went : (ns : List Note) (c : ℕ) (x y z : Music) (s u : Channel) → Went ns c x y s → Went ns c y z u → Went ns c x z u
then_went ns c x y z s u f g = record {
  calm = g.calm;
  here = g.here;
  others = λ q h. g.others q h ∙ f.others q h;
  zones_are = g.zones_are
      ∙ f.zones_are;
}

-- a channel that has its defaults but for what is selected and its parameters
abbrev pub shaped : ℕ → ℕ → List Entry → Channel
shaped a b es = record {
  controls = default_controls;
  selection = record { registered = true; rpn = (a, b); nrpn = (127, 127) };
  params = es;
  voice = record { high = 0; low = 0; program = 0 };
  bend = 8192;
  pressure = 0;
}

-- a parameter is selected, and none is
selects : Laws → (ns : List Note) (x : Music) → Calm ns x → (t c low : ℕ) (es : List Entry) → c < 16 → channel_at x c ≡ shaped 127 127 es →
    Went ns c x (advance t (Plays (Control c 100 low)) (advance t (Plays (Control c 101 0)) x)) (shaped 0 low es)
selects laws ns x calm t c low es fits is =
    let y : Music = advance t (Plays (Control c 101 0)) x in
    let f : Went ns c x y (shaped 0 127 es) = went laws ns x calm t c 101 0 (shaped 127 127 es) (shaped 0 127 es) fits is refl refl refl in
    then_went ns c x y (advance t (Plays (Control c 100 low)) y) (shaped 0 127 es) (shaped 0 low es) f (went laws ns y f.calm t c 100 low
    (shaped 0 127 es) (shaped 0 low es) fits f.here refl refl refl)

closes : Laws → (ns : List Note) (x : Music) → Calm ns x → (t c a b : ℕ) (es : List Entry) → c < 16 → channel_at x c ≡ shaped a b es → Went ns c x
    (advance t (Plays (Control c 100 127)) (advance t (Plays (Control c 101 127)) x)) (shaped 127 127 es)
closes laws ns x calm t c a b es fits is =
    let y : Music = advance t (Plays (Control c 101 127)) x in
    let f : Went ns c x y (shaped 127 b es) = went laws ns x calm t c 101 127 (shaped a b es) (shaped 127 b es) fits is refl refl refl in
    then_went ns c x y (advance t (Plays (Control c 100 127)) y) (shaped 127 b es) (shaped 127 127 es) f (went laws ns y f.calm t c 100 127
    (shaped 127 b es) (shaped 127 127 es) fits f.here refl refl refl)

-- ---- a member's bend sensitivity

put_again : (range r : ℕ) → put (rpn 0) (range, (value_of (put (rpn 0) (r, 0) []) (rpn 0)).1) (put (rpn 0) (r, 0) []) ≡ put (rpn 0) (range, 0) []
put_again range r = pick (pair_eq (r, 0) (2, 0))
  where
    one : Entry
    one = record { parameter = rpn 0; value = (r, 0) }

    pick : (b : Bool) → put (rpn 0) (range, (value_of (cond b [] (record { parameter = rpn 0; value = (r, 0) } ∷ [])) (rpn 0)).1) (cond b []
        (record { parameter = rpn 0; value = (r, 0) } ∷ [])) ≡ put (rpn 0) (range, 0) []
    pick true = refl
    pick false = refl

pub ranges : Laws → (ns : List Note) (x : Music) → Calm ns x → (e : MidiEvent) (c range r : ℕ) → c < 16 → channel_at x c ≡ member_state r 8192 →
    Went ns c x (play x (saying e (registered c 0 range))) (member_state range 8192)
ranges laws ns x calm e c range r fits is =
    let t : ℕ = e.tick in
    let es : List Entry = put (rpn 0) (r, 0) [] in
    let fs : List Entry = put (rpn 0) (range, 0) [] in
    let a : Music = advance t (Plays (Control c 100 0)) (advance t (Plays (Control c 101 0)) x) in
    let f : Went ns c x a (shaped 0 0 es) = selects laws ns x calm t c 0 es fits is in
    let b : Music = advance t (Plays (Control c 6 range)) a in
    let g : Went ns c a b (shaped 0 0 fs) = went laws ns a f.calm t c 6 range (shaped 0 0 es) (shaped 0 0 fs) fits f.here (ap (λ
    (s : Channel). asked c range (target s.selection)) f.here) refl (ap (shaped 0 0) (put_again range r)) in
    let d : Music = advance t (Plays (Control c 100 127)) (advance t (Plays (Control c 101 127)) b) in
    then_went ns c x b d (shaped 0 0 fs) (shaped 127 127 fs) (then_went ns c x a b (shaped 0 0 es) (shaped 0 0 fs) f g)
    (closes laws ns b g.calm t c 0 0 fs fits g.here)

-- ---- a zone's size

ranged : (w : Zones) (m k : ℕ) (ss : List Channel) (q : ℕ) → q < length ss → get_or
    (bend_ranges_from w m k ss) q default_channel ≡ bend_range_at w m (k + q) (get_or ss q default_channel)
ranged w m k [] q low = absurd (let h : q < 0 = low in omega (arith, h))
ranged w m k (s ∷ ss) zero low = ap (λ j. bend_range_at w m j s) (let e : k ≡ k + 0 = omega arith in e)
ranged w m k (s ∷ ss) (suc q) low = ranged w m (k + 1) ss q (let h : suc q < suc (length ss) = low in omega (arith, h)) ∙ ap
    (λ j. bend_range_at w m j (get_or ss q default_channel)) (let e : k + 1 + q ≡ k + suc q = omega arith in e)

pub record Zoned (ns : List Note) (c n : ℕ) (x y : Music) : Type 0 where
  pub calm : Calm ns y
  pub zones_are : y.zones ≡ zones_with (Some (c, suc n)) x.zones
  pub each : (q : ℕ) → q < 16 → channel_at y q ≡ bend_range_at (zones_with (Some (c, suc n)) x.zones) c q (channel_at x q)

sized : Laws → (ns : List Note) (x : Music) → Calm ns x → (t c v n : ℕ) (es : List Entry) → channel_at x c ≡ shaped 0 6 es → asks x
    (Control c 6 v) ≡ Some (c, suc n) → Zoned ns c n x (advance t (Plays (Control c 6 v)) x)
sized laws ns x calm t c v n es is asked_for =
    let msg : Msg = Control c 6 v in
    let w : Zones = zones_with (Some (c, suc n)) x.zones in
    let same : set x.channels c (apply (channel_at x c) msg) ≡ x.channels = ap (set x.channels c) (ap (λ s. apply s msg) is ∙ sym is)
    ∙ set-get_or x.channels c default_channel in
    let ss : List Channel = bend_ranges_from w c 0 x.channels in
    let y : Music = advance t (Plays msg) x in
    let made : Option (ℕ × ℕ) → List Channel → Music = λ a us. (let vs : List Channel = bend_ranges a
    (zones_with a x.zones) us in record {
      channels = vs;
      zones = zones_with a x.zones;
      notes = map (settle_note vs
          (zones_with a x.zones) t) x.notes;
    }) in
    let out : y ≡ made (Some (c, suc n)) x.channels = ap (λ a. made a (set x.channels c (apply (channel_at x c) msg))) asked_for ∙ ap (made (Some
    (c, suc n))) same in
    let notes : y.notes ≡ x.notes = ap (λ (z : Music). z.notes) out ∙ all_silent ss w t x.notes calm.silent in
    record {
      calm = record {
        settled = laws.settle x (said_at t 0 msg) calm.settled;
        notes = notes ∙ calm.notes;
        silent = subst Silent
            (sym notes) calm.silent;
      };
      zones_are = ap (λ (z : Music). z.zones) out;
      each = λ q low. ap (λ (z : Music). channel_at z q) out ∙ ranged w c 0 x.channels q (subst (λ l. q < l) (sym calm.settled.channels) low) ∙ ap
          (λ j. bend_range_at w c j (channel_at x q)) (let e : 0 + q ≡ q = omega arith in e);
    }

-- the whole block for a zone's size, on a master that has its defaults
pub record SetSize (ns : List Note) (c n : ℕ) (x y : Music) : Type 0 where
  pub calm : Calm ns y
  pub zones_are : y.zones ≡ zones_with (Some (c, suc n)) x.zones
  pub here : channel_at y c ≡ default_channel
  pub others : (q : ℕ) → q < 16 → q ≢ c → channel_at y q ≡ bend_range_at (zones_with (Some (c, suc n)) x.zones) c q (channel_at x q)

pub sizes : Laws → (ns : List Note) (x : Music) → Calm ns x → (e : MidiEvent) (c n : ℕ) → c < 16 → (nat_eq c 0 || nat_eq c 15) ≡ true → min
    (suc n) 15 ≡ suc n → channel_at x c ≡ default_channel → SetSize ns c n x (play x (saying e (registered c 6 (suc n))))
sizes laws ns x calm e c n fits outer few is =
    let t : ℕ = e.tick in
    let a : Music = advance t (Plays (Control c 100 6)) (advance t (Plays (Control c 101 0)) x) in
    let f : Went ns c x a (shaped 0 6 []) = selects laws ns x calm t c 6 [] fits is in
    let b : Music = advance t (Plays (Control c 6 (suc n))) a in
    let asked_for : asks a (Control c 6 (suc n)) ≡ Some (c, suc n) =
    ap (λ (s : Channel). asked c (suc n) (target s.selection)) f.here ∙ ap (λ q. cond q (Some (c, min (suc n) 15)) None) outer ∙ ap (λ q. Some
    (c, q)) few in
    let g : Zoned ns c n a b = sized laws ns a f.calm t c (suc n) n [] f.here asked_for in
    let w : Zones = zones_with (Some (c, suc n)) x.zones in
    let zones_same : zones_with (Some (c, suc n)) a.zones ≡ w = ap (zones_with (Some (c, suc n))) f.zones_are in
    let at_b : channel_at b c ≡ shaped 0 6 [] =
    g.each c fits ∙ ap (λ q. cond q (bend_range 2 (channel_at a c)) (cond (nat_eq (governor (zones_with (Some (c, suc n)) a.zones) c) c)
    (bend_range 48 (channel_at a c)) (channel_at a c))) (eq-eqb c c refl)
    ∙ ap (bend_range 2) f.here in
    let d : Music = advance t (Plays (Control c 100 127)) (advance t (Plays (Control c 101 127)) b) in
    let h : Went ns c b d (shaped 127 127 []) = closes laws ns b g.calm t c 0 6 [] fits at_b in
    record {
      calm = h.calm;
      zones_are = h.zones_are ∙ g.zones_are ∙ zones_same;
      here = h.here;
      others = λ q low i. h.others q i ∙ g.each q low ∙ ap (λ z. bend_range_at z c q (channel_at a q)) zones_same ∙ ap (bend_range_at w c q)
          (f.others q i);
    }
