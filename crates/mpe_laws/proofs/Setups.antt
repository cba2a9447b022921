-- What the messages of the setup are: controllers on masters and members, which select no tuning program.
use Rattle.std.proofs.Common.{◌≡◌, ◌<◌, ◌≤◌, ◌+◌, ◌⊎◌, arith, ℕ, zero, suc, true, cond, List, [], ◌∷◌, ◌++◌, Some, None, refl, ap, sym, ◌∙◌, subst, length, nat_eq, inl, inr}
use Rattle.std.specs.List.{AllByRecursion}
use Rattle.std.proofs.lemmas.Bool.{cond_both}
use Rattle.std.proofs.lemmas.List.{get_or-set_same}
use Rattle.mt_base.specs.declared.event.Msg.{Msg}
use Rattle.mt_base.specs.declared.event.Msg.TheVariants.{Control}
use Rattle.mt_base.specs.Midi.{MidiEvent}
use Rattle.midi_model.specs.Sysex.{Plays}
use Rattle.midi_model.specs.Channel.{Channel, Selection, EntryHigh, RpnLow, RpnHigh, ResetControllers, default_channel, controlled, apply, role, target}
use Rattle.midi_model.specs.Zones.{master}
use Rattle.midi_model.specs.Music.{Music, channel_at, asks, advance}
use Rattle.midi_model.specs.MusicLaws.{IsSettled}
use Rattle.midi_model.specs.Tuning.{Tuning, chosen}
use Rattle.midi_model.specs.Receiver.{Receiver, receive_all}
use Rattle.midi_model.specs.Bring.{registered}
use Rattle.retune_model.specs.Options.{Options}
use Rattle.retune_model.specs.Faults.{is_part}
use Rattle.channel_model.specs.MpeOutput.{Zone, zone_of, master_of, member_at, members_from, range_each, zone_setup, zones_setup}
use Rattle.bend_laws.proofs.Lists.{all_append}
use Rattle.bend_laws.proofs.Turned.{said}
use Rattle.bend_laws.proofs.Playing.{saying, saying_append, settled_play}
use Rattle.bend_laws.proofs.Changing.{said_at}
use Rattle.midi_model.proofs.Same.{music_all}
use Rattle.bend_laws.proofs.Untuning.{all_receive}
use Rattle.mpe_laws.specs.Zoned.{planned, IsOfZone}
use Rattle.mpe_laws.proofs.Standing.{Laws}
use Rattle.mpe_laws.proofs.Allowed.{AreMembers, Asked}

-- ---- what holds of controllers on masters and members holds of the setup

abbrev pub OfSettings : Options → List Zone → (Msg → Type 0) → Type 0
OfSettings o zones P = (c n v : ℕ) → IsOfZone zones c → c < 16 → is_part o c ≡ true → n ≤ 127 → v ≤ 127 → (role n ≡ ResetControllers → ⊥) →
    P (Control c n v)

registered_hold : (P : Msg → Type 0) (o : Options) (zones : List Zone) → OfSettings o zones P → (c low v : ℕ) → IsOfZone zones c → c < 16 →
    is_part o c ≡ true → low ≤ 127 → v ≤ 127 → AllByRecursion P (registered c low v)
registered_hold P o zones f c low v of fits part small value =
    let high : role 101 ≡ ResetControllers → ⊥ = λ e. (let z : RpnHigh ≡ ResetControllers = e in cc) in
    let small_byte : role 100 ≡ ResetControllers → ⊥ = λ e. (let z : RpnLow ≡ ResetControllers = e in cc) in
    let entry : role 6 ≡ ResetControllers → ⊥ = λ e. (let z : EntryHigh ≡ ResetControllers = e in cc) in
    let closed : AllByRecursion P (Control c 101 127 ∷ Control c 100 127 ∷ []) =
    (f c 101 127 of fits part (omega arith) (omega arith) high, (f c 100 127 of fits part (omega arith) (omega arith) small_byte, tt)) in (
      f c 101 0 of fits part (omega arith) (omega arith) high,
      (
        f c 100 low of fits part (omega arith) small small_byte,
        (
          f c 6 v of fits part (omega arith) value entry,
          closed,
        ),
      ),
    )

members_hold : (P : Msg → Type 0) (o : Options) (zones : List Zone) → OfSettings o zones P → Asked o zones → o.range ≤ 127 → (z : Zone) →
    zone_of z.part zones ≡ Some z → (i n : ℕ) → i + n ≤ z.members → AllByRecursion P (range_each o.range (members_from z i n))
members_hold P o zones f asked range z of i zero few = tt
members_hold P o zones f asked range z of i (suc n) few =
    let d : ℕ = member_at z i in
    let its : AreMembers zones z = asked.members z.part z of in
    let here : i < z.members = omega (arith, few) in
    let is : master (planned zones) d ≡ Some (master_of z) = its.is i here in
    all_append P (registered d 0 o.range) (range_each o.range (members_from z (i + 1) n))
    (registered_hold P o zones f d 0 o.range (record { zone = z; of = of; is = inr is }) (its.low i here)
    (asked.row.retuned_member d (master_of z) is) (omega arith) range)
    (members_hold P o zones f asked range z of (i + 1) n (omega (arith, few)))

zone_holds : (P : Msg → Type 0) (o : Options) (zones : List Zone) → OfSettings o zones P → Asked o zones → o.range ≤ 127 → (z : Zone) →
    zone_of z.part zones ≡ Some z → z.members ≤ 15 → AllByRecursion P (zone_setup o.range z)
zone_holds P o zones f asked range z of few =
    all_append P (registered (master_of z) 6 z.members) (cond (nat_eq o.range 48) [] (range_each o.range (members_from z 0 z.members)))
    (registered_hold P o zones f (master_of z) 6 z.members (record { zone = z; of = of; is = inl refl }) (asked.row.low_master z.part z of)
    (asked.row.retuned_master z.part z of) (omega arith) (omega (arith, few)))
    (cond_both (nat_eq o.range 48) [] (range_each o.range (members_from z 0 z.members)) (AllByRecursion P) (λ e. tt)
    (λ e. members_hold P o zones f asked range z of 0 z.members (omega arith)))

pub setup_holds : (P : Msg → Type 0) (o : Options) (zones : List Zone) → OfSettings o zones P → Asked o zones → o.range ≤ 127 →
    AllByRecursion P (zones_setup o.range zones)
setup_holds P o zones f asked range = go zones asked.few asked.each
  where
    go : (zs : List Zone) → AllByRecursion (λ z. z.members ≤ 15) zs → AllByRecursion (λ z. zone_of z.part zones ≡ Some z) zs →
        AllByRecursion P (zones_setup o.range zs)
    go [] few each = tt
    go (z ∷ zs) few each = all_append P (zone_setup o.range z) (zones_setup o.range zs) (zone_holds P o zones f asked range z each.0 few.0)
        (go zs few.1 each.1)

-- ---- no tuning program is selected

after_control : (x : Music) (t c n v : ℕ) → c < 16 → length x.channels ≡ 16 → asks x (Control c n v) ≡ None →
    channel_at (advance t (Plays (Control c n v)) x) c ≡ controlled (channel_at x c) n v (role n)
after_control x t c n v low sixteen none =
    ap (λ (z : Music). channel_at z c) (said x t (Control c n v) none)
    ∙ get_or-set_same x.channels c (apply (channel_at x c) (Control c n v)) default_channel (subst (λ l. c < l) (sym sixteen) low)

-- registered parameters 0 and 6 are no tuning programs
abbrev IsSetting : ℕ → Type 0
IsSetting low = (low ≡ 0) ⊎ (low ≡ 6)

no_program : (c low v : ℕ) (nrpn : ℕ × ℕ) (s : Tuning) → IsSetting low →
    chosen c v (target (let q : Selection = record { registered = true; rpn = (0, low); nrpn = nrpn } in q)) s ≡ s
no_program c low v nrpn s (inl e) =
    ap (λ l. chosen c v (target (let q : Selection = record { registered = true; rpn = (0, l); nrpn = nrpn } in q)) s) e
no_program c low v nrpn s (inr e) =
    ap (λ l. chosen c v (target (let q : Selection = record { registered = true; rpn = (0, l); nrpn = nrpn } in q)) s) e

registered_quiet : Laws → (r : Receiver) (e : MidiEvent) (c low v : ℕ) → c < 16 → IsSettled r.music → IsSetting low →
    (receive_all r (saying e (registered c low v))).tuning ≡ r.tuning
registered_quiet laws r e c low v fits settled is =
    let t : ℕ = e.tick in
    let x : Music = r.music in
    let y : Music = advance t (Plays (Control c 101 0)) x in
    let z : Music = advance t (Plays (Control c 100 low)) y in
    let one : channel_at y c ≡ controlled (channel_at x c) 101 0 (role 101) = after_control x t c 101 0 fits settled.channels refl in
    let two : channel_at z c ≡ controlled (channel_at y c) 100 low (role 100) =
    after_control y t c 100 low fits (laws.settle x (said_at t 0 (Control c 101 0)) settled).channels refl in
    ap (λ (s : Channel). chosen c v (target s.selection) r.tuning) two
    ∙ ap (λ (s : Channel). chosen c v (target (controlled s 100 low (role 100)).selection) r.tuning) one
    ∙ no_program c low v (channel_at x c).selection.nrpn r.tuning is

-- one list of messages behind another
pub quiet_append : Laws → (r : Receiver) (e : MidiEvent) (xs ys : List Msg) → IsSettled r.music →
    (receive_all r (saying e xs)).tuning ≡ r.tuning → ((s : Receiver) → IsSettled s.music → (receive_all s (saying e ys)).tuning ≡ s.tuning) →
    (receive_all r (saying e (xs ++ ys))).tuning ≡ r.tuning
quiet_append laws r e xs ys settled first later =
    ap (λ es. (receive_all r es).tuning) (saying_append e xs ys) ∙ ap (λ (s : Receiver). s.tuning) (all_receive r (saying e xs) (saying e ys))
    ∙ later (receive_all r (saying e xs)) (subst IsSettled (sym (music_all r (saying e xs))) (settled_play laws.settle r.music (saying e xs) settled))
    ∙ first

members_quiet : Laws → (o : Options) (zones : List Zone) → Asked o zones → (z : Zone) → zone_of z.part zones ≡ Some z → (e : MidiEvent) (i n : ℕ) →
    i + n ≤ z.members → (r : Receiver) → IsSettled r.music →
    (receive_all r (saying e (range_each o.range (members_from z i n)))).tuning ≡ r.tuning
members_quiet laws o zones asked z of e i zero few r settled = refl
members_quiet laws o zones asked z of e i (suc n) few r settled =
    quiet_append laws r e (registered (member_at z i) 0 o.range) (range_each o.range (members_from z (i + 1) n)) settled
    (registered_quiet laws r e (member_at z i) 0 o.range ((asked.members z.part z of).low i (omega (arith, few))) settled (inl refl))
    (members_quiet laws o zones asked z of e (i + 1) n (omega (arith, few)))

zone_quiet : Laws → (o : Options) (zones : List Zone) → Asked o zones → (z : Zone) → zone_of z.part zones ≡ Some z → (e : MidiEvent) (r : Receiver) →
    IsSettled r.music → (receive_all r (saying e (zone_setup o.range z))).tuning ≡ r.tuning
zone_quiet laws o zones asked z of e r settled =
    quiet_append laws r e (registered (master_of z) 6 z.members) (cond (nat_eq o.range 48) [] (range_each o.range (members_from z 0 z.members)))
    settled (registered_quiet laws r e (master_of z) 6 z.members (asked.row.low_master z.part z of) settled (inr refl))
    (λ s h. cond_both (nat_eq o.range 48) [] (range_each o.range (members_from z 0 z.members))
    (λ ms. (receive_all s (saying e ms)).tuning ≡ s.tuning) (λ q. refl) (λ q. members_quiet laws o zones asked z of e 0 z.members (omega arith) s h))

pub setup_quiet : Laws → (o : Options) (zones : List Zone) → Asked o zones → (e : MidiEvent) (r : Receiver) → IsSettled r.music →
    (receive_all r (saying e (zones_setup o.range zones))).tuning ≡ r.tuning
setup_quiet laws o zones asked e = go zones asked.each
  where
    go : (zs : List Zone) → AllByRecursion (λ z. zone_of z.part zones ≡ Some z) zs → (r : Receiver) → IsSettled r.music →
        (receive_all r (saying e (zones_setup o.range zs))).tuning ≡ r.tuning
    go [] each r settled = refl
    go (z ∷ zs) each r settled = quiet_append laws r e (zone_setup o.range z) (zones_setup o.range zs) settled
        (zone_quiet laws o zones asked z each.0 e r settled) (go zs each.1)
