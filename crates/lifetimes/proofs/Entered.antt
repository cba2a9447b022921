-- Data entry: what it makes of its channel's bend and bend sensitivity, and that it leaves the notes of its channel.
use Rattle.std.proofs.Common.{◌≡◌, ◌≢◌, ◌<◌, ◌∙◌, ℕ, zero, suc, ◌+◌, ◌-◌, List, [], ◌∷◌, Bool, true, false, cond, ◌&&◌, ◌||◌, not, nat_eq, nat_le, nat_lt, Option, Some, None, is_some, map, set, get_or, length, refl, sym, ap, subst, arith, inl, inr}
use Rattle.std.specs.Prelude.{min, unwrap_or}
use Rattle.std.proofs.lemmas.List.{get_or-set_same, get_or-set_other, length-set}
use Rattle.std.proofs.lemmas.Bool.{both_ways, and_parts, eqb-true, eq-eqb, lt-ltb}
use Rattle.std.proofs.lemmas.Bool.Decides.{eqb_tells}
use Rattle.mt_base.specs.Midi.{MidiEvent, Says}
use Rattle.midi_model.specs.Sysex.{doing}
use Rattle.midi_model.specs.Params.{Entry, rank, pair_eq, value_of, put, rpn, IsCanonical}
use Rattle.midi_model.specs.ParameterLaws.{PutGivesTheValue, PutLeavesTheOthers}
use Rattle.midi_model.specs.Channel.{Channel, Selection, default_channel, control_of, Target, Nowhere, TuningProgram, ZoneSize, Value, target_in, target, with_high, with_low}
use Rattle.midi_model.specs.Zones.{Zones, no_zones, governor, left_beside, zones_with, bend_range, bend_range_at, bend_ranges_from, bend_ranges}
use Rattle.midi_model.specs.Notes.{Note, sounds, is_pedal_down, ending}
use Rattle.midi_model.specs.Music.{Music, channel_at, asked, step, is_over, settle_note}
use Rattle.midi_model.specs.MusicLaws.{IsSettled, EventsSettle}
use Rattle.retune_model.specs.Ports.{resets}
use Rattle.retune_model.specs.Faults.{is_selected}
use Rattle.lifetimes.specs.Told.{music_on}
use Rattle.lifetimes.specs.Due.{AreLeft, LeavesPart}
use Rattle.lifetimes.specs.Entry.{entry, sensitivity_then}
use Rattle.lifetimes.proofs.Turned.{settled_on}

-- ---- the bend sensitivities that a zone sets

-- all else of a channel they leave
range_keeps : {A : Type 0} (f : Channel → A) → ((n : ℕ) (s : Channel) → f (bend_range n s) ≡ f s) → (z : Zones) (m c : ℕ) (s : Channel)
    → f (bend_range_at z m c s) ≡ f s
range_keeps f keeps z m c s = pick (nat_eq c m) (nat_eq (governor z c) m)
  where
    pick : (a b : Bool) → f (cond a (bend_range 2 s) (cond b (bend_range 48 s) s)) ≡ f s
    pick true b = keeps 2 s
    pick false true = keeps 48 s
    pick false false = refl

ranges_keep_from : {A : Type 0} (f : Channel → A) → ((n : ℕ) (s : Channel) → f (bend_range n s) ≡ f s) → (z : Zones) (m c i : ℕ) (ss : List Channel)
    → f (get_or (bend_ranges_from z m c ss) i default_channel) ≡ f (get_or ss i default_channel)
ranges_keep_from f keeps z m c i [] = refl
ranges_keep_from f keeps z m c zero (s ∷ ss) = range_keeps f keeps z m c s
ranges_keep_from f keeps z m c (suc i) (s ∷ ss) = ranges_keep_from f keeps z m (c + 1) i ss

ranges_keep : {A : Type 0} (f : Channel → A) → ((n : ℕ) (s : Channel) → f (bend_range n s) ≡ f s) → (a : Option (ℕ × ℕ)) (z : Zones)
    (ss : List Channel) (i : ℕ) → f (get_or (bend_ranges a z ss) i default_channel) ≡ f (get_or ss i default_channel)
ranges_keep f keeps None z ss i = refl
ranges_keep f keeps (Some (m, zero)) z ss i = refl
ranges_keep f keeps (Some (m, suc n)) z ss i = ranges_keep_from f keeps z m 0 i ss

-- the master gets two semitones
master_range : (z : Zones) (m c i : ℕ) (ss : List Channel) → i < length ss → nat_eq (c + i) m ≡ true
    → get_or (bend_ranges_from z m c ss) i default_channel ≡ bend_range 2 (get_or ss i default_channel)
master_range z m c i [] low is = absurd (omega (arith, low))
master_range z m c zero (s ∷ ss) low is =
    let e : c + 0 ≡ c = omega arith in
    ap (λ b. cond b (bend_range 2 s) (cond (nat_eq (governor z c) m) (bend_range 48 s) s)) (ap (λ k. nat_eq k m) (sym e) ∙ is)
master_range z m c (suc i) (s ∷ ss) low is =
    let e : (c + 1) + i ≡ c + suc i = omega arith in
    master_range z m (c + 1) i ss (omega (arith, low)) (ap (λ k. nat_eq k m) e ∙ is)

-- ---- what data entry writes to

-- neither the bend sensitivity nor the size of a zone
abbrev IsAside : Target → Type 0
IsAside (Value p) = rank (rpn 0) ≢ rank p
IsAside ZoneSize = ⊥
IsAside _ = Unit {0}

chosen : (low : ℕ) (s : Selection) → is_selected low s ≡ true → target s ≡ target_in true (0, low)
chosen low s h =
    let two = and_parts s.registered (pair_eq s.rpn (0, low)) h in
    let bytes = and_parts (nat_eq s.rpn.0 0) (nat_eq s.rpn.1 low) two.1 in
    ap (λ b. cond b (target_in true s.rpn) (target_in false s.nrpn)) two.0
    ∙ (ap (λ x. target_in true (x, s.rpn.1)) (eqb-true s.rpn.0 0 bytes.0) ∙ ap (λ x. target_in true (0, x)) (eqb-true s.rpn.1 low bytes.1))

aside : (s : Selection) → is_selected 0 s ≡ false → is_selected 6 s ≡ false → IsAside (target s)
aside s = pick s.registered
  where
    far : (p : ℕ × ℕ) → rank (rpn 0) ≢ rank (record { registered = false; high = p.0; low = p.1 })
    far p same = omega (arith, same)

    apart : (p : ℕ × ℕ) → pair_eq p (0, 0) ≡ false → rank (rpn 0) ≢ rank (record { registered = true; high = p.0; low = p.1 })
    apart p other same =
        let high : p.0 ≡ 0 = omega (arith, same) in
        let low : p.1 ≡ 0 = omega (arith, same) in
        both_ways (pair_eq p (0, 0)) other (ap (λ x. nat_eq x 0 && nat_eq p.1 0) high ∙ ap (λ x. nat_eq x 0) low)

    other_rpn : (x y z : Bool) → z ≡ false → pair_eq s.rpn (0, 0) ≡ false
        → IsAside (cond x Nowhere (cond y TuningProgram (cond z ZoneSize (Value (record { registered = true; high = s.rpn.0; low = s.rpn.1 })))))
    other_rpn true y z e h = tt
    other_rpn false true z e h = tt
    other_rpn false false true e h = absurd cc
    other_rpn false false false e h = apart s.rpn h

    other_nrpn : (x : Bool) → IsAside (cond x Nowhere (Value (record { registered = false; high = s.nrpn.0; low = s.nrpn.1 })))
    other_nrpn true = tt
    other_nrpn false = far s.nrpn

    pick : (b : Bool) → (b && pair_eq s.rpn (0, 0)) ≡ false → (b && pair_eq s.rpn (0, 6)) ≡ false
        → IsAside (cond b (target_in true s.rpn) (target_in false s.nrpn))
    pick true h g = other_rpn (pair_eq s.rpn (127, 127)) (pair_eq s.rpn (0, 3)) (pair_eq s.rpn (0, 6)) g h
    pick false h g = other_nrpn (pair_eq s.nrpn (127, 127))

-- ---- the channel after it

abbrev zone_by : ℕ → Bool → ℕ → Target → Option (ℕ × ℕ)
zone_by c true v t = asked c v t
zone_by c false v t = None

abbrev params_by : Bool → ℕ → Target → List Entry → List Entry
params_by true v t ps = with_high v t ps
params_by false v t ps = with_low v t ps

abbrev with_params : Music → ℕ → List Entry → Channel
with_params m c ps = record (channel_at m c) { params = ps }

abbrev channels_by : Music → ℕ → Option (ℕ × ℕ) → List Entry → List Channel
channels_by m c a ps = bend_ranges a (zones_with a m.zones) (set m.channels c (with_params m c ps))

abbrev value_by : Music → ℕ → Option (ℕ × ℕ) → List Entry → ℕ × ℕ
value_by m c a ps = value_of (get_or (channels_by m c a ps) c default_channel).params (rpn 0)

plain_value : (m : Music) (c : ℕ) (ps : List Entry) → c < length m.channels → value_by m c None ps ≡ value_of ps (rpn 0)
plain_value m c ps low = ap (λ (s : Channel). value_of s.params (rpn 0))
    (get_or-set_same m.channels c (with_params m c ps) default_channel low)

zone_value : PutGivesTheValue → (m : Music) (c v : ℕ) (ps : List Entry) → c < length m.channels → IsCanonical ps
    → value_by m c (asked c v ZoneSize) ps ≡ cond (nat_lt 0 v && (nat_eq c 0 || nat_eq c 15)) (2, 0) (value_of ps (rpn 0))
zone_value given m c v ps low canonical = pick (nat_eq c 0 || nat_eq c 15) v
  where
    all : List Channel
    all = set m.channels c (with_params m c ps)

    set_zone : (n : ℕ) → value_by m c (Some (c, suc n)) ps ≡ (2, 0)
    set_zone n =
        let long = length-set m.channels c (with_params m c ps) in
        let e : 0 + c ≡ c = omega arith in
        ap (λ (s : Channel). value_of s.params (rpn 0))
        (master_range (zones_with (Some (c, suc n)) m.zones) c 0 c all (omega (arith, low, long)) (eq-eqb (0 + c) c e)
        ∙ ap (bend_range 2) (get_or-set_same m.channels c (with_params m c ps) default_channel low))
        ∙ given (rpn 0) (2, 0) ps canonical

    pick : (x : Bool) (v : ℕ) → value_by m c (cond x (Some (c, min v 15)) None) ps ≡ cond (nat_lt 0 v && x) (2, 0) (value_of ps (rpn 0))
    pick true zero = let e : min 0 15 ≡ 0 = omega arith in ap (λ n. value_by m c (Some (c, n)) ps) e ∙ plain_value m c ps low
    pick false zero = plain_value m c ps low
    pick true (suc w) = let e : min (suc w) 15 ≡ suc (min w 14) = omega arith in
        ap (λ n. value_by m c (Some (c, n)) ps) e ∙ (set_zone (min w 14)
        ∙ sym (ap (λ b. cond (b && true) (2, 0) (value_of ps (rpn 0))) (lt-ltb 0 (suc w) (omega arith))))
    pick false (suc w) = plain_value m c ps low
        ∙ sym (ap (λ b. cond (b && false) (2, 0) (value_of ps (rpn 0))) (lt-ltb 0 (suc w) (omega arith)))

value_then : PutGivesTheValue → PutLeavesTheOthers → (m : Music) (c : ℕ) (is_high : Bool) (v : ℕ) → c < length m.channels
    → IsCanonical (channel_at m c).params
    → value_by m c (zone_by c is_high v (target (channel_at m c).selection))
    (params_by is_high v (target (channel_at m c).selection) (channel_at m c).params) ≡ sensitivity_then (channel_at m c) c is_high v
value_then given others m c is_high v low canonical = pick (is_selected 0 chosen_by) (is_selected 6 chosen_by) refl refl
  where
    chosen_by : Selection
    chosen_by = (channel_at m c).selection

    ps : List Entry
    ps = (channel_at m c).params

    old : ℕ × ℕ
    old = value_of ps (rpn 0)

    by_bend : (h : Bool) → value_by m c (zone_by c h v (Value (rpn 0))) (params_by h v (Value (rpn 0)) ps) ≡ cond h (v, old.1) (old.0, v)
    by_bend true = plain_value m c (put (rpn 0) (v, old.1) ps) low ∙ given (rpn 0) (v, old.1) ps canonical
    by_bend false = plain_value m c (put (rpn 0) (old.0, v) ps) low ∙ given (rpn 0) (old.0, v) ps canonical

    by_zone : (h : Bool) → value_by m c (zone_by c h v ZoneSize) (params_by h v ZoneSize ps)
        ≡ cond (h && (nat_lt 0 v && (nat_eq c 0 || nat_eq c 15))) (2, 0) old
    by_zone true = zone_value given m c v ps low canonical
    by_zone false = plain_value m c ps low

    by_other : (h : Bool) (t : Target) → IsAside t → value_by m c (zone_by c h v t) (params_by h v t ps) ≡ old
    by_other true Nowhere far = plain_value m c ps low
    by_other true TuningProgram far = plain_value m c ps low
    by_other true ZoneSize far = absurd far
    by_other true (Value p) far = plain_value m c (put p (v, (value_of ps p).1) ps) low ∙ others p (rpn 0) (v, (value_of ps p).1) ps far
    by_other false Nowhere far = plain_value m c ps low
    by_other false TuningProgram far = plain_value m c ps low
    by_other false ZoneSize far = absurd far
    by_other false (Value p) far = plain_value m c (put p ((value_of ps p).0, v) ps) low ∙ others p (rpn 0) ((value_of ps p).0, v) ps far

    pick : (a b : Bool) → is_selected 0 chosen_by ≡ a → is_selected 6 chosen_by ≡ b
        → value_by m c (zone_by c is_high v (target chosen_by)) (params_by is_high v (target chosen_by) ps)
        ≡ cond a (cond is_high (v, old.1) (old.0, v)) (cond (b && (is_high && (nat_lt 0 v && (nat_eq c 0 || nat_eq c 15)))) (2, 0) old)
    pick true b p q = ap (λ t. value_by m c (zone_by c is_high v t) (params_by is_high v t ps)) (chosen 0 chosen_by p) ∙ by_bend is_high
    pick false true p q = ap (λ t. value_by m c (zone_by c is_high v t) (params_by is_high v t ps)) (chosen 6 chosen_by q) ∙ by_zone is_high
    pick false false p q = by_other is_high (target chosen_by) (aside chosen_by p q)

bend_then : (m : Music) (c : ℕ) (a : Option (ℕ × ℕ)) (ps : List Entry) → c < length m.channels
    → (get_or (channels_by m c a ps) c default_channel).bend ≡ (channel_at m c).bend
bend_then m c a ps low = ranges_keep (λ s. s.bend) (λ n s. refl) a (zones_with a m.zones) (set m.channels c (with_params m c ps)) c
    ∙ ap (λ (s : Channel). s.bend) (get_or-set_same m.channels c (with_params m c ps) default_channel low)

-- what the bend of a channel goes by
pub record IsEntered (s now : Channel) (c : ℕ) (is_high : Bool) (v : ℕ) : Type 0 where
  pub bend : now.bend ≡ s.bend
  pub value : value_of now.params (rpn 0) ≡ sensitivity_then s c is_high v

pub entered : PutGivesTheValue → PutLeavesTheOthers → (m : Music) (e : MidiEvent) (c : ℕ) (is_high : Bool) (v : ℕ) → e.what ≡ Says (entry c is_high v)
    → c < length m.channels → IsCanonical (channel_at m c).params → IsEntered (channel_at m c) (channel_at (step m e) c) c is_high v
entered given others m e c is_high v is low canonical =
    subst (λ w. IsEntered (channel_at m c) (channel_at (step m (record e { what = w })) c) c is_high v) (sym is) (pick is_high)
  where
    to : Target
    to = target (channel_at m c).selection

    pick : (h : Bool) → IsEntered (channel_at m c) (channel_at (step m (record e { what = Says (entry c h v) })) c) c h v
    pick true = record {
      bend = bend_then m c (asked c v to) (with_high v to (channel_at m c).params) low;
      value = value_then given others m c true v low canonical;
    }
    pick false = record {
      bend = bend_then m c None (with_low v to (channel_at m c).params) low;
      value = value_then given others m c false v low canonical;
    }

-- ---- its notes

left_settled : (c : ℕ) (f g : Note → Note) → ((n : Note) → (f n).channel ≡ n.channel) → ((n : Note) → n.channel ≡ c → f n ≡ g n) → (ns : List Note)
    → map g ns ≡ ns → AreLeft c ns (map f ns)
left_settled c f g keeps same [] h = tt
left_settled c f g keeps same (n ∷ ns) h =
    let first : g n ≡ n = cc in
    let rest : map g ns ≡ ns = cc in
    ((keeps n, λ is. same n is ∙ first), left_settled c f g keeps same ns rest)

settle_keeps : (ss : List Channel) (z : Zones) (t : ℕ) (n : Note) → (settle_note ss z t n).channel ≡ n.channel
settle_keeps ss z t n = pick (is_over ss z n) (sounds n)
  where
    pick : (a b : Bool) → (let x : Note = cond a (cond b (record n { ended = Some t }) n) n in x.channel) ≡ n.channel
    pick false b = refl
    pick true false = refl
    pick true true = refl

-- a zone's master governs itself, where no zone was before
own_master : (c v : ℕ) (t : Target) → governor (zones_with (asked c v t) no_zones) c ≡ governor no_zones c
own_master c v Nowhere = refl
own_master c v TuningProgram = refl
own_master c v (Value p) = refl
own_master c v ZoneSize = pick (nat_eq c 0) (nat_eq c 15) refl refl (min v 15)
  where
    none_beside : (n : ℕ) → left_beside n 0 ≡ 0
    none_beside zero = refl
    none_beside (suc n) = choose (nat_lt (suc n + 0) 15)
      where
        choose : (b : Bool) → (let u : ℕ = cond b 0 0 in u) ≡ zero
        choose true = refl
        choose false = refl

    lower : (n : ℕ) → governor (zones_with (Some (0, n)) no_zones) 0 ≡ governor no_zones 0
    lower n = ap (λ u. governor (record { lower = n; upper = u }) 0) (none_beside n)

    last : (b : Bool) → (let g : ℕ = unwrap_or (cond (b && false) (Some 15) None) 15 in g) ≡ 15
    last true = refl
    last false = refl

    upper : (n : ℕ) → governor (zones_with (Some (15, n)) no_zones) 15 ≡ governor no_zones 15
    upper n = ap (λ l. governor (record { lower = l; upper = n }) 15) (none_beside n) ∙ last (nat_le (15 - n) 15)

    pick : (a b : Bool) → nat_eq c 0 ≡ a → nat_eq c 15 ≡ b → (n : ℕ)
        → governor (zones_with (cond (a || b) (Some (c, n)) None) no_zones) c ≡ governor no_zones c
    pick true b p q n = subst (λ d. governor (zones_with (Some (d, n)) no_zones) d ≡ governor no_zones d) (sym (eqb-true c 0 p)) (lower n)
    pick false true p q n = subst (λ d. governor (zones_with (Some (d, n)) no_zones) d ≡ governor no_zones d) (sym (eqb-true c 15 q)) (upper n)
    pick false false p q n = refl

same_controls : (m : Music) (c g : ℕ) (a : Option (ℕ × ℕ)) (ps : List Entry) → c < length m.channels
    → (get_or (channels_by m c a ps) g default_channel).controls ≡ (channel_at m g).controls
same_controls m c g a ps low =
    ranges_keep (λ s. s.controls) (λ n s. refl) a (zones_with a m.zones) (set m.channels c (with_params m c ps)) g
    ∙ elim (eqb_tells g c) [
      | inl t ↦ ap (λ i. (get_or (set m.channels c (with_params m c ps)) i default_channel).controls) t.1
          ∙ (ap (λ (s : Channel). s.controls) (get_or-set_same m.channels c (with_params m c ps) default_channel low)
          ∙ ap (λ i. (channel_at m i).controls) (sym t.1))
      | inr t ↦ ap (λ (s : Channel). s.controls) (get_or-set_other m.channels c g (with_params m c ps) default_channel t.1)
    ]

-- where the channel is governed as before, the notes that were settled are
left_by : (m : Music) (c t : ℕ) (a : Option (ℕ × ℕ)) (ps : List Entry) → IsSettled m → c < length m.channels
    → governor (zones_with a m.zones) c ≡ governor m.zones c
    → AreLeft c m.notes (map (settle_note (channels_by m c a ps) (zones_with a m.zones) t) m.notes)
left_by m c t a ps settled low governed = left_settled c (settle_note now zones t) (settle_note m.channels m.zones t) (settle_keeps now zones t) same
    m.notes (settled.notes t)
  where
    now : List Channel
    now = channels_by m c a ps

    zones : Zones
    zones = zones_with a m.zones

    pedal_on : List Channel → ℕ → ℕ
    pedal_on ss g = control_of (get_or ss g default_channel) 64

    same : (n : Note) → n.channel ≡ c → settle_note now zones t n ≡ settle_note m.channels m.zones t n
    same n is = ap (λ p. cond (is_some n.release && (not n.captured && not (is_pedal_down p))) (ending t n) n)
        (ap (λ d. pedal_on now (governor zones d)) is
        ∙ (ap (λ l. get_or l 64 0) (same_controls m c (governor zones c) a ps low)
        ∙ (ap (pedal_on m.channels) governed ∙ ap (λ d. pedal_on m.channels (governor m.zones d)) (sym is))))

pub entry_leaves : EventsSettle → (z : ℕ) (es : List MidiEvent) (e : MidiEvent) (c : ℕ) (is_high : Bool) (v : ℕ) → e.what ≡ Says (entry c is_high v)
    → c < 16 → (music_on z es).zones ≡ no_zones → LeavesPart z es e c
entry_leaves law z es e c is_high v is below none = record {
  notes = subst (λ w. AreLeft c m.notes (step m (record e { what = w })).notes) (sym is) (pick is_high);
  no_reset = ap (λ w. resets (doing w)) is;
}
  where
    m : Music
    m = music_on z es

    settled : IsSettled m
    settled = settled_on law z es

    low : c < length m.channels
    low = let long = settled.channels in omega (arith, below, long)

    to : Target
    to = target (channel_at m c).selection

    governed : governor (zones_with (asked c v to) m.zones) c ≡ governor m.zones c
    governed = ap (λ x. governor (zones_with (asked c v to) x) c) none ∙ (own_master c v to ∙ ap (λ x. governor x c) (sym none))

    pick : (h : Bool) → AreLeft c m.notes (step m (record e { what = Says (entry c h v) })).notes
    pick true = left_by m c e.tick (asked c v to) (with_high v to (channel_at m c).params) settled low governed
    pick false = left_by m c e.tick None (with_low v to (channel_at m c).params) settled low refl
