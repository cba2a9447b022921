-- What a message that is sent on to the master does to the notes of both sides.
use Rattle.std.proofs.Common.{◌≡◌, ◌≢◌, ℕ, Bool, true, false, cond, ◌&&◌, ◌||◌, List, Option, Some, refl, ap, sym, ◌∙◌, subst, map, nat_eq, get_or, inl, inr}
use Rattle.std.proofs.lemmas.Bool.{cases_Bool, cases_eq, cond_both, eq-eqb, ne_eqb}
use Rattle.retune_model.specs.Pairs.{Pair}
use Rattle.mt_base.specs.declared.event.Msg.{Msg}
use Rattle.mt_base.specs.declared.event.Msg.TheVariants.{NoteOn, NoteOff, KeyPressure, Control, Program, Pressure, Bend}
use Rattle.mt_base.specs.Midi.{channel_of}
use Rattle.midi_model.specs.Channel.{Channel, default_channel, control_of, role, Role, Stored, EntryHigh, EntryLow, NrpnLow, NrpnHigh, RpnLow, RpnHigh, AllSoundOff, ResetControllers, AllNotesOff, Ignored}
use Rattle.midi_model.specs.Zones.{no_zones, governor}
use Rattle.midi_model.specs.Notes.{Note, sounds, hears, sostenuto, without_pressure, end_all, release_all}
use Rattle.midi_model.specs.Music.{Music, notes_turned, notes_after}
use Rattle.retune_model.specs.Options.{Options}
use Rattle.retune_model.specs.PlaysTheSame.{Pairwise}
use Rattle.retune_model.specs.Faults.{Targets, is_part}
use Rattle.channel_model.specs.MpeOutput.{Zone, master_of, zone_of, on_channel}
use Rattle.bend_laws.specs.Follows.{IsPlayedBy}
use Rattle.bend_laws.proofs.Equal.{own_governor}
use Rattle.bend_laws.proofs.Lists.{pair_map}
use Rattle.bend_laws.proofs.Turned.{plain}
use Rattle.bend_laws.proofs.Lifting.{heard_here}
use Rattle.bend_laws.proofs.Matching.{output_sounds}
use Rattle.mpe_laws.specs.Zoned.{planned, AreZones}
use Rattle.mpe_laws.proofs.Ops.{IsGoverned, Governed, op_pair, ends, ends_op, releases, releases_op, sustains, sustains_op, zoned_moved, governed_moved}

-- a music with the planned zones
abbrev pub zonal : List Zone → List Channel → List Note → Music
zonal zones us xs = record { channels = us; zones = planned zones; notes = xs }

pub is_zonal : (zones : List Zone) (x : Music) → x.zones ≡ planned zones → x ≡ zonal zones x.channels x.notes
is_zonal zones x h = ap (λ z. let y : Music = record { channels = x.channels; zones = z; notes = x.notes } in y) h

pub same_zone : (a b : Zone) (x y : Option Zone) → x ≡ Some a → y ≡ Some b → x ≡ y → a ≡ b
same_zone a b x y h g e = cc

-- ---- which notes the master's messages reach

pub hit_governs : (o : Options) (zones : List Zone) → AreZones o zones → (c : ℕ) (z : Zone) → zone_of c zones ≡ Some z → (a b : Note) →
    IsGoverned zones a b → nat_eq (governor (planned zones) b.channel) (master_of z) ≡ nat_eq a.channel c
hit_governs o zones row c z of a b i = elim (cases_eq a.channel c) [
  | inl e ↦ (let same : i.zone ≡ z = same_zone i.zone z (zone_of a.channel zones) (zone_of c zones) i.of of (ap (λ d. zone_of d zones) e) in
      eq-eqb (governor (planned zones) b.channel) (master_of z) (i.by ∙ ap master_of same) ∙ sym (eq-eqb a.channel c e))
  | inr e ↦ ne_eqb (governor (planned zones) b.channel) (master_of z) (λ q. e (row.own a.channel c i.zone z i.of of (sym i.by ∙ q))) ∙ sym
      (ne_eqb a.channel c e)
]

pub governs_here : (c : ℕ) (n : Note) → nat_eq (governor no_zones n.channel) c ≡ nat_eq n.channel c
governs_here c n = ap (λ d. nat_eq d c) (own_governor n.channel)

hit_hears : (o : Options) (zones : List Zone) → AreZones o zones → (c : ℕ) (z : Zone) → zone_of c zones ≡ Some z → (a b : Note) →
    IsGoverned zones a b → hears (planned zones) (master_of z) b ≡ hears no_zones c a
hit_hears o zones row c z of a b i =
    ap (λ q. q || nat_eq (governor (planned zones) b.channel) (master_of z)) (ne_eqb b.channel (master_of z) (i.inside c z of))
    ∙ hit_governs o zones row c z of a b i ∙ sym (heard_here c a)

-- ---- reset all controllers, and the pressures of keys

relax_channel : (c : ℕ) (n : Note) → (without_pressure c n).channel ≡ n.channel
relax_channel c n = cond_both (nat_eq n.channel c && sounds n) (record n { pressure = 0 }) n (λ (y : Note). y.channel ≡ n.channel) (λ e. refl)
    (λ e. refl)

relax_none : (c : ℕ) (n : Note) → n.pressure ≡ 0 → without_pressure c n ≡ n
relax_none c n h = cond_both (nat_eq n.channel c && sounds n) (record n { pressure = 0 }) n (λ y. y ≡ n) (λ e. ap
    (λ p. let y : Note = record n { pressure = p } in y) (sym h)) (λ e. refl)

and_no : (b : Bool) → (b && false) ≡ false
and_no true = refl
and_no false = refl

relax_else : (c : ℕ) (n : Note) → (sounds n ≡ true → n.channel ≢ c) → without_pressure c n ≡ n
relax_else c n h = elim (cases_Bool (sounds n)) [
  | inl s ↦ ap (λ b. cond (b && sounds n) (record n { pressure = 0 }) n) (ne_eqb n.channel c (h s))
  | inr s ↦ ap (λ b. cond b (record n { pressure = 0 }) n) (ap (λ b. nat_eq n.channel c && b) s ∙ and_no (nat_eq n.channel c))
]

relax_pair : (port : ℕ) (o : Options) (table : Targets) (zones : List Zone) (place : Pair → ℕ) (c : ℕ) (z : Zone) → zone_of c zones ≡ Some z →
    (a b : Note) → Governed port o table zones place a b → Governed port o table zones place (without_pressure c a) (without_pressure (master_of z) b)
relax_pair port o table zones place c z of a b g = record {
  matched = record {
    retuned = ap (is_part o) (relax_channel (master_of z) b) ∙ g.matched.retuned ∙ ap (is_part o) (sym (relax_channel c a));
    played = λ p. (let q : is_part o a.channel ≡ true = ap (is_part o) (sym (relax_channel c a)) ∙ p in
        let y : IsPlayedBy port o table place a b = g.matched.played q in
        subst (λ n. IsPlayedBy port o table place n (without_pressure (master_of z) b)) (sym (relax_none c a (g.zoned q).0))
        (subst (IsPlayedBy port o table place a) (sym (relax_else (master_of z) b (λ s. (g.governed q (sym
        (output_sounds port o table place a b y) ∙ s)).inside c z of))) y));
  };
  governed = λ p s. (let q : is_part o a.channel ≡ true = ap (is_part o) (sym (relax_channel c a)) ∙ p in
      governed_moved zones a b (without_pressure c a) (without_pressure (master_of z) b) (relax_channel c a) (relax_channel (master_of z) b)
      (g.governed q (ap sounds (sym (relax_none c a (g.zoned q).0)) ∙ s)));
  zoned = λ p. (let q : is_part o a.channel ≡ true = ap (is_part o) (sym (relax_channel c a)) ∙ p in zoned_moved zones a (without_pressure c a)
      (relax_channel c a) (ap (λ (n : Note). n.pressure) (relax_none c a (g.zoned q).0)) (g.zoned q));
}

-- ---- each controller

abbrev Both : ℕ → Options → Targets → List Zone → (Pair → ℕ) → List Note → List Note → Type 0
Both port o table zones place = Pairwise (Governed port o table zones place)

sustain_pair : (port : ℕ) (o : Options) (table : Targets) (zones : List Zone) → AreZones o zones → (place : Pair → ℕ) (c : ℕ) (z : Zone) →
    zone_of c zones ≡ Some z → (x y v : ℕ) → y ≡ x → (a b : Note) → Governed port o table zones place a b →
    Governed port o table zones place (sostenuto no_zones c x v a) (sostenuto (planned zones) (master_of z) y v b)
sustain_pair port o table zones row place c z of x y v same a b g =
    subst (λ w. Governed port o table zones place (sostenuto no_zones c x v a) (sostenuto (planned zones) (master_of z) w v b)) (sym same)
    (op_pair port o table zones place (sustains x v) (sustains_op port o table place x v) a b (nat_eq (governor no_zones a.channel) c) (nat_eq
    (governor (planned zones) b.channel) (master_of z)) g
    (λ p s. hit_governs o zones row c z of a b (g.governed p s) ∙ sym (governs_here c a)))

pub turned_pair : (port : ℕ) (o : Options) (table : Targets) (zones : List Zone) → AreZones o zones → (place : Pair → ℕ) (c : ℕ) (z : Zone) →
    zone_of c zones ≡ Some z → (t n v : ℕ) (ss us : List Channel) (ns xs : List Note) →
    get_or us (master_of z) default_channel ≡ get_or ss c default_channel → Pairwise (Governed port o table zones place) ns xs → (r : Role) →
    Pairwise (Governed port o table zones place) (notes_turned (plain ss ns) t c n v r) (notes_turned (zonal zones us xs) t (master_of z) n v r)
turned_pair port o table zones row place c z of t n v ss us ns xs same h Stored = pick (nat_eq n 66)
  where
    x : ℕ
    x = control_of (get_or ss c default_channel) 66

    y : ℕ
    y = control_of (get_or us (master_of z) default_channel) 66

    pick : (b : Bool) → Pairwise (Governed port o table zones place) (cond b (map (sostenuto no_zones c (control_of
        (get_or ss c default_channel) 66) v) ns) ns) (cond b (map (sostenuto (planned zones) (master_of z) (control_of (get_or us
        (master_of z) default_channel) 66) v) xs) xs)
    pick true = pair_map (Governed port o table zones place) (Governed port o table zones place) (sostenuto no_zones c x v) (sostenuto
        (planned zones) (master_of z) y v) (sustain_pair port o table zones row place c z of x y v (ap (λ
        (s : Channel). control_of s 66) same)) ns xs h
    pick false = h
turned_pair port o table zones row place c z of t n v ss us ns xs same h ResetControllers =
    let x : ℕ = control_of (get_or ss c default_channel) 66 in
    let y : ℕ = control_of (get_or us (master_of z) default_channel) 66 in
    pair_map (Governed port o table zones place) (Governed port o table zones place) (λ a. without_pressure c (sostenuto no_zones c x 0 a))
    (λ a. without_pressure (master_of z) (sostenuto (planned zones) (master_of z) y 0 a))
    (λ a b g. relax_pair port o table zones place c z of (sostenuto no_zones c x 0 a) (sostenuto (planned zones) (master_of z) y 0 b)
    (sustain_pair port o table zones row place c z of x y 0 (ap (λ (s : Channel). control_of s 66) same) a b g)) ns xs h
turned_pair port o table zones row place c z of t n v ss us ns xs same h AllSoundOff =
    pair_map (Governed port o table zones place) (Governed port o table zones place) (end_all t no_zones c) (end_all t (planned zones) (master_of z))
    (λ a b g. op_pair port o table zones place (ends t) (ends_op port o table place t) a b (hears no_zones c a) (hears (planned zones)
    (master_of z) b) g (λ p s. hit_hears o zones row c z of a b (g.governed p s))) ns xs h
turned_pair port o table zones row place c z of t n v ss us ns xs same h AllNotesOff =
    pair_map (Governed port o table zones place) (Governed port o table zones place) (release_all t no_zones c) (release_all t (planned zones)
    (master_of z))
    (λ a b g. op_pair port o table zones place (releases t 64) (releases_op port o table place t 64) a b (hears no_zones c a) (hears
    (planned zones) (master_of z) b) g (λ p s. hit_hears o zones row c z of a b (g.governed p s))) ns xs h
turned_pair port o table zones row place c z of t n v ss us ns xs same h EntryHigh = h
turned_pair port o table zones row place c z of t n v ss us ns xs same h EntryLow = h
turned_pair port o table zones row place c z of t n v ss us ns xs same h NrpnLow = h
turned_pair port o table zones row place c z of t n v ss us ns xs same h NrpnHigh = h
turned_pair port o table zones row place c z of t n v ss us ns xs same h RpnLow = h
turned_pair port o table zones row place c z of t n v ss us ns xs same h RpnHigh = h
turned_pair port o table zones row place c z of t n v ss us ns xs same h Ignored = h

-- ---- each message that is sent on

abbrev pub IsForwarded : Msg → Type 0
IsForwarded (NoteOn c k v) = ⊥
IsForwarded (NoteOff c k v) = ⊥
IsForwarded (KeyPressure c k v) = ⊥
IsForwarded _ = Unit {0}

pub forward_notes : (port : ℕ) (o : Options) (table : Targets) (zones : List Zone) → AreZones o zones → (place : Pair → ℕ) (z : Zone) (t : ℕ)
    (ss us : List Channel) (ns xs : List Note) (msg : Msg) → IsForwarded msg → zone_of (channel_of msg) zones ≡ Some z →
    get_or us (master_of z) default_channel ≡ get_or ss (channel_of msg) default_channel → Pairwise (Governed port o table zones place) ns xs →
    Pairwise (Governed port o table zones place) (notes_after (plain ss ns) t msg) (notes_after (zonal zones us xs) t (on_channel (master_of z) msg))
forward_notes port o table zones row place z t ss us ns xs (NoteOn c k v) f of same h = absurd f
forward_notes port o table zones row place z t ss us ns xs (NoteOff c k v) f of same h = absurd f
forward_notes port o table zones row place z t ss us ns xs (KeyPressure c k v) f of same h = absurd f
forward_notes port o table zones row place z t ss us ns xs
    (Control c n v) f of same h = turned_pair port o table zones row place c z of t n v ss us ns xs same h (role n)
forward_notes port o table zones row place z t ss us ns xs (Program c p) f of same h = h
forward_notes port o table zones row place z t ss us ns xs (Pressure c v) f of same h = h
forward_notes port o table zones row place z t ss us ns xs (Bend c v) f of same h = h
