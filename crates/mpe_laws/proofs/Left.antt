-- Each member has the bend of the pair that was there last, as the choice of members reckons.
use Rattle.std.proofs.Common.{◌≡◌, ◌≢◌, ◌<◌, ◌≤◌, ◌+◌, ◌⊎◌, ℕ, zero, suc, pos, ◌+ℤ◌, Bool, true, false, cond, nat_eq, List, [], ◌∷◌, ◌++◌, Option, Some, None, refl, ap, sym, ◌∙◌, subst, set, get_or, inl, inr}
use Rattle.std.specs.List.{AllByRecursion}
use Rattle.std.specs.Set.{is_member}
use Rattle.std.proofs.lemmas.Bool.{cases_Bool, cases_eq, both_ways, cond_both}
use Rattle.std.proofs.lemmas.List.{get_or-set_same, get_or-set_other}
use Rattle.mt_base.specs.declared.event.Msg.{Msg}
use Rattle.mt_base.specs.declared.event.Msg.TheVariants.{NoteOn, NoteOff, KeyPressure, Control, Program, Pressure, Bend}
use Rattle.mt_base.specs.Midi.{MidiWhat, Says, SysexOf, MetaOf, MidiEvent, channel_of}
use Rattle.midi_model.specs.Sysex.{Doing, Plays, Resets, Tunes, Nothing, doing}
use Rattle.midi_model.specs.Channel.{Channel, Role, Stored, EntryHigh, EntryLow, NrpnLow, NrpnHigh, RpnLow, RpnHigh, AllSoundOff, ResetControllers, AllNotesOff, Ignored, default_channel, controlled, apply, role}
use Rattle.midi_model.specs.Zones.{Zones, master, governor, bend_range, bend_ranges, bend_ranges_from}
use Rattle.midi_model.specs.Notes.{Note}
use Rattle.midi_model.specs.Music.{Music, quiet, channel_at, asks, zones_after, advance, step, play}
use Rattle.midi_model.specs.MusicLaws.{IsSettled}
use Rattle.retune_model.specs.Table.{BendTarget}
use Rattle.retune_model.specs.Options.{Options}
use Rattle.retune_model.specs.Faults.{Targets, is_part, target_of}
use Rattle.retune_model.specs.Pairs.{Pair, is_same_pair}
use Rattle.retune_model.specs.Ports.{resets}
use Rattle.channel_model.specs.Choice.{bend_value}
use Rattle.channel_model.specs.BendOutput.{pair_with, placed_at, pressed_note, note_released, off_at}
use Rattle.channel_model.specs.MpeOutput.{Zone, master_of, zone_of, zones_setup, zone_causes, in_zone, setup_behind, mpe_block}
use Rattle.bend_laws.specs.Moments.{Moment}
use Rattle.bend_laws.specs.Follows.{Has}
use Rattle.bend_laws.proofs.Altered.{all_default, is_resets}
use Rattle.bend_laws.proofs.Playing.{saying, play_append}
use Rattle.bend_laws.proofs.Changing.{said_at}
use Rattle.bend_laws.proofs.Still.{no_change, no_message}
use Rattle.mpe_laws.specs.Zoned.{planned}
use Rattle.mpe_laws.specs.Follows.{Follows, IsGiven}
use Rattle.mpe_laws.proofs.Standing.{Laws}
use Rattle.mpe_laws.proofs.Allowed.{Asked}
use Rattle.mpe_laws.proofs.Passing.{setup_of, passed_block}
use Rattle.mpe_laws.proofs.Everywhere.{what_at, quiet_stays}
use Rattle.mpe_laws.proofs.Opened.{Opened, part_said, drum_said}
use Rattle.mpe_laws.proofs.Setups.{setup_holds}
use Rattle.mpe_laws.proofs.Struck.{bend_first}
use Rattle.mpe_laws.proofs.Strikes.{IsStruck, strikes_at}

-- ---- messages that leave a channel's bend

abbrev pub Spares : ℕ → Msg → Type 0
Spares d msg = channel_of msg ≡ d → (s : Channel) → (apply s msg).bend ≡ s.bend

other_spares : (d : ℕ) (msg : Msg) → channel_of msg ≢ d → Spares d msg
other_spares d msg h e = absurd (h e)

role_spares : (s : Channel) (n v : ℕ) (r : Role) → (r ≡ ResetControllers → ⊥) → (controlled s n v r).bend ≡ s.bend
role_spares s n v ResetControllers h = absurd (h refl)
role_spares s n v Stored h = refl
role_spares s n v EntryHigh h = refl
role_spares s n v EntryLow h = refl
role_spares s n v NrpnLow h = refl
role_spares s n v NrpnHigh h = refl
role_spares s n v RpnLow h = refl
role_spares s n v RpnHigh h = refl
role_spares s n v AllSoundOff h = refl
role_spares s n v AllNotesOff h = refl
role_spares s n v Ignored h = refl

-- setting a zone changes no bend
from_spares : (w : Zones) (m k : ℕ) (ss : List Channel) (d : ℕ) →
    (get_or (bend_ranges_from w m k ss) d default_channel).bend ≡ (get_or ss d default_channel).bend
from_spares w m k [] d = refl
from_spares w m k (s ∷ ss) zero =
    cond_both (nat_eq k m) (bend_range 2 s) (cond (nat_eq (governor w k) m) (bend_range 48 s) s) (λ (x : Channel). x.bend ≡ s.bend) (λ e. refl)
    (λ e. cond_both (nat_eq (governor w k) m) (bend_range 48 s) s (λ (x : Channel). x.bend ≡ s.bend) (λ i. refl) (λ i. refl))
from_spares w m k (s ∷ ss) (suc d) = from_spares w m (k + 1) ss d

sized_spares : (n m : ℕ) (w : Zones) (ss : List Channel) (d : ℕ) →
    (get_or (bend_ranges (Some (m, n)) w ss) d default_channel).bend ≡ (get_or ss d default_channel).bend
sized_spares zero m w ss d = refl
sized_spares (suc n) m w ss d = from_spares w m 0 ss d

ranges_spare : (a : Option (ℕ × ℕ)) (w : Zones) (ss : List Channel) (d : ℕ) →
    (get_or (bend_ranges a w ss) d default_channel).bend ≡ (get_or ss d default_channel).bend
ranges_spare None w ss d = refl
ranges_spare (Some x) w ss d = sized_spares x.1 x.0 w ss d

one_spared : (x : Music) (t d : ℕ) (msg : Msg) → d < 16 → IsSettled x → Spares d msg →
    (channel_at (advance t (Plays msg) x) d).bend ≡ (channel_at x d).bend
one_spared x t d msg low settled h =
    let c : ℕ = channel_of msg in
    let own : Channel = apply (channel_at x c) msg in
    ranges_spare (asks x msg) (zones_after x msg) (set x.channels c own) d ∙ elim (cases_eq c d) [
      | inl e ↦ (let here : get_or (set x.channels d own) d default_channel ≡ own =
          get_or-set_same x.channels d own default_channel (subst (λ l. d < l) (sym settled.channels) low) in
          ap (λ (s : Channel). s.bend) (ap (λ j. get_or (set x.channels j own) d default_channel) e ∙ here) ∙ h e (channel_at x c)
          ∙ ap (λ j. (channel_at x j).bend) e)
      | inr e ↦ ap (λ (s : Channel). s.bend) (get_or-set_other x.channels c d own default_channel (λ i. e (sym i)))
    ]

all_spared : Laws → (e : MidiEvent) (d : ℕ) → d < 16 → (ms : List Msg) → AllByRecursion (Spares d) ms → (x : Music) → IsSettled x →
    (channel_at (play x (saying e ms)) d).bend ≡ (channel_at x d).bend
all_spared laws e d low [] h x settled = refl
all_spared laws e d low (m ∷ ms) h x settled =
    let y : MidiEvent = record e { what = Says m } in
    all_spared laws e d low ms h.1 (step x y) (laws.settle x y settled) ∙ one_spared x e.tick d m low settled h.0

setup_spares : (o : Options) (zones : List Zone) → Asked o zones → o.range ≤ 127 → (d : ℕ) → AllByRecursion (Spares d) (zones_setup o.range zones)
setup_spares o zones asked range d = setup_holds (Spares d) o zones
    (λ c n v of low part small value other e s. role_spares s n v (role n) other) asked range

lead_spares : (o : Options) (zones : List Zone) → Asked o zones → o.range ≤ 127 → (d : ℕ) (lead : List Msg) →
    ((lead ≡ []) ⊎ (lead ≡ zones_setup o.range zones)) → AllByRecursion (Spares d) lead
lead_spares o zones asked range d lead (inl h) = subst (AllByRecursion (Spares d)) (sym h) tt
lead_spares o zones asked range d lead (inr h) = subst (AllByRecursion (Spares d)) (sym h) (setup_spares o zones asked range d)

-- ---- what an event causes, where no run begins on the member

-- a member on which no run is after the event
record IsBare (zones : List Zone) (k : Moment) (d : ℕ) : Type 0 where
  governed : ℕ
  member : master (planned zones) d ≡ Some governed
  low : d < 16
  free : (p : Pair) → Has k.is p → k.new p ≢ d

released_spare : (d z : ℕ) (o : Options) (table : Targets) (place : Pair → ℕ) (off : ℕ → ℕ → Msg) →
    ((g i : ℕ) → Spares d (off g i)) → (c : ℕ) (x : Option Note) → AllByRecursion (Spares d) (note_released z o table place off c x)
released_spare d z o table place off h c None = tt
released_spare d z o table place off h c (Some n) = pick (target_of o table n)
  where
    pick : (x : Option BendTarget) → AllByRecursion (Spares d) (off_at z place off c x)
    pick None = tt
    pick (Some t) = (h (place (pair_with z c t)) t.key, tt)

bend_spares : (d : ℕ) (k : Moment) (y : Music) (p : Pair) (there : Bool) → k.new p ≢ d → AllByRecursion (Spares d) (bend_first k y p there)
bend_spares d k y p true h = tt
bend_spares d k y p false h =
    let b : ℕ = bend_value (pos 8192 +ℤ p.steps) in
    cond_both (nat_eq (channel_at y (k.new p)).bend b) [] (Bend (k.new p) b ∷ []) (AllByRecursion (Spares d)) (λ e. tt)
    (λ e. (other_spares d (Bend (k.new p) b) h, tt))

and_spares : (d : ℕ) (xs ys : List Msg) → AllByRecursion (Spares d) xs → AllByRecursion (Spares d) ys → AllByRecursion (Spares d) (xs ++ ys)
and_spares d [] ys h g = g
and_spares d (x ∷ xs) ys h g = (h.0, and_spares d xs ys h.1 g)

part_spares : (port : ℕ) (o : Options) (table : Targets) (zones : List Zone) → Asked o zones → (k : Moment) (m y : Music) (t track d : ℕ) →
    IsBare zones k d → (msg : Msg) → is_part o (channel_of msg) ≡ true → Follows port o table zones k.old k.was m y →
    IsGiven port o table zones k m (said_at t track msg) → (u : Option Zone) → zone_of (channel_of msg) zones ≡ u →
    AllByRecursion (Spares d) (in_zone port o table k.was m y k.old k.new t msg u)
part_spares port o table zones asked k m y t track d bare msg part follows given None of = tt
part_spares port o table zones asked k m y t track d bare msg part follows given (Some z) of = by_kind msg part given of
  where
    aside : (c : ℕ) → zone_of c zones ≡ Some z → (u : Msg) → channel_of u ≡ master_of z → AllByRecursion (Spares d) (u ∷ [])
    aside c f u is = (other_spares d u (λ e. asked.row.beside c d bare.governed z bare.member f (sym e ∙ is)), tt)

    by_kind : (u : Msg) → is_part o (channel_of u) ≡ true → IsGiven port o table zones k m (said_at t track u) → zone_of (channel_of u) zones
        ≡ Some z →
        AllByRecursion (Spares d) (zone_causes port o table k.was m y k.old k.new (master_of z) t u)
    by_kind (NoteOn c j zero) p g f = released_spare d port o table k.old (λ b i. NoteOn b i 0) (λ b i e s. refl) c (pressed_note c j m.notes)
    by_kind (NoteOn c j (suc v)) p g f =
        let s : IsStruck port o table zones k m y t c j v = strikes_at port o table zones asked.row k m y t track c j v p follows g in
        let q : Pair = pair_with port c s.aim in
        let bend : List Msg = bend_first k y q (is_member is_same_pair k.was q) in
        subst (AllByRecursion (Spares d))
        (sym s.is ∙ ap (in_zone port o table k.was m y k.old k.new t (NoteOn c j (suc v))) f)
        (and_spares d bend (NoteOn (k.new q) s.aim.key (suc v) ∷ [])
        (bend_spares d k y q (is_member is_same_pair k.was q) (bare.free q s.there)) ((λ e x. refl), tt))
    by_kind (NoteOff c j v) p g f = released_spare d port o table k.old (λ b i. NoteOff b i v) (λ b i e s. refl) c (pressed_note c j m.notes)
    by_kind (KeyPressure c j v) p g f = aside c f (KeyPressure (master_of z) j v) refl
    by_kind (Control c n v) p g f = aside c f (Control (master_of z) n v) refl
    by_kind (Program c x) p g f = aside c f (Program (master_of z) x) refl
    by_kind (Pressure c v) p g f = aside c f (Pressure (master_of z) v) refl
    by_kind (Bend c v) p g f = aside c f (Bend (master_of z) v) refl

-- the bend after an event
abbrev BendsTo : ℕ → Music → Doing → Music → Type 0
BendsTo d x doing y = (channel_at y d).bend ≡ cond (resets doing) 8192 (channel_at x d).bend

quiet_bend : (d : ℕ) → (channel_at quiet d).bend ≡ 8192
quiet_bend d = ap (λ (s : Channel). s.bend) (all_default 16 d)

behind_spares : Laws → (o : Options) (zones : List Zone) → Asked o zones → o.range ≤ 127 → (e : MidiEvent) (d : ℕ) → d < 16 →
    (x : Doing) (y : Music) →
    IsSettled y → (channel_at (play y (placed_at e (setup_behind (setup_of o zones) true x))) d).bend ≡ (channel_at y d).bend
behind_spares laws o zones asked range e d low (Plays msg) y settled = refl
behind_spares laws o zones asked range e d low Resets y settled =
    all_spared laws e d low (zones_setup o.range zones) (setup_spares o zones asked range d) y settled
behind_spares laws o zones asked range e d low (Tunes r) y settled = refl
behind_spares laws o zones asked range e d low Nothing y settled = refl

-- what is no message
passed_bends : Laws → (port : ℕ) (o : Options) (table : Targets) (zones : List Zone) → Asked o zones → o.range ≤ 127 → (k : Moment) (m y : Music)
    (t track d : ℕ) → d < 16 → (w : MidiWhat) → ((msg : Msg) → doing w ≢ Plays msg) → IsSettled y →
    (let e : MidiEvent = what_at t track w in
    mpe_block port o table zones k.was true m y k.old k.new e ≡ e ∷ placed_at e (setup_behind (setup_of o zones) true (doing w)) →
    BendsTo d y (doing w) (play y (mpe_block port o table zones k.was true m y k.old k.new e)))
passed_bends laws port o table zones asked range k m y t track d low w none settled is =
    let e : MidiEvent = what_at t track w in
    ap (λ es. (channel_at (play y es) d).bend) is
    ∙ behind_spares laws o zones asked range e d low (doing w) (step y e) (laws.settle y e settled)
    ∙ elim (cases_Bool (resets (doing w))) [
      | inl r ↦ ap (λ x. (channel_at (advance t x y) d).bend) (is_resets (doing w) r) ∙ quiet_bend d
          ∙ sym (ap (λ b. cond b 8192 (channel_at y d).bend) r)
      | inr r ↦ ap (λ (x : Music). (channel_at x d).bend) (no_change y t (doing w) r none) ∙ sym (ap (λ b. cond b 8192 (channel_at y d).bend) r)
    ]

main_bends : Laws → (port : ℕ) (o : Options) (table : Targets) (zones : List Zone) → Asked o zones → o.range ≤ 127 → (k : Moment) (m y : Music)
    (t track d : ℕ) → IsBare zones k d → (w : MidiWhat) → Follows port o table zones k.old k.was m y →
    IsGiven port o table zones k m (what_at t track w) →
    BendsTo d y (doing w) (play y (mpe_block port o table zones k.was true m y k.old k.new (what_at t track w)))
main_bends laws port o table zones asked range k m y t track d bare (Says msg) follows given =
    elim (cases_Bool (is_part o (channel_of msg))) [
      | inl part ↦ (let causes : List Msg = in_zone port o table k.was m y k.old k.new t msg (zone_of (channel_of msg) zones) in
          ap (λ es. (channel_at (play y es) d).bend) (part_said port o table zones k m y t track msg causes part refl)
          ∙ all_spared laws (said_at t track msg) d bare.low causes
          (part_spares port o table zones asked k m y t track d bare msg part follows given (zone_of (channel_of msg) zones) refl) y
          follows.out_settled)
      | inr drum ↦ ap (λ es. (channel_at (play y es) d).bend) (drum_said port o table zones k m y t track msg drum)
          ∙ one_spared y t d msg bare.low follows.out_settled (other_spares d msg (λ e. both_ways (is_part o (channel_of msg)) drum
          (ap (is_part o) e ∙ asked.row.retuned_member d bare.governed bare.member)))
    ]
main_bends laws port o table zones asked range k m y t track d bare (SysexOf lead bytes) follows given =
    passed_bends laws port o table zones asked range k m y t track d bare.low (SysexOf lead bytes) (no_message (SysexOf lead bytes) tt)
    follows.out_settled (passed_block port o table zones k m y t track (SysexOf lead bytes) tt)
main_bends laws port o table zones asked range k m y t track d bare (MetaOf kind bytes) follows given =
    passed_bends laws port o table zones asked range k m y t track d bare.low (MetaOf kind bytes) (no_message (MetaOf kind bytes) tt)
    follows.out_settled (passed_block port o table zones k m y t track (MetaOf kind bytes) tt)

-- before the first message nothing is bent
early_stays : (d : ℕ) (x : Music) (t : ℕ) (a : Doing) → x ≡ quiet → ((msg : Msg) → a ≢ Plays msg) → BendsTo d x a (advance t a x)
early_stays d x t a h none =
    let here : (channel_at x d).bend ≡ 8192 = ap (λ (y : Music). (channel_at y d).bend) h ∙ quiet_bend d in
    ap (λ y. (channel_at (advance t a y) d).bend) h ∙ ap (λ (y : Music). (channel_at y d).bend) (quiet_stays t a none) ∙ quiet_bend d
    ∙ cond_both (resets a) 8192 (channel_at x d).bend (λ b. 8192 ≡ b) (λ e. refl) (λ e. sym here)

early_bends : (d : ℕ) (x : Music) (t track : ℕ) (w : MidiWhat) → x ≡ quiet → ((msg : Msg) → w ≡ Says msg → ⊥) →
    BendsTo d x (doing w) (step x (what_at t track w))
early_bends d x t track (Says msg) h none = absurd (none msg refl)
early_bends d x t track (SysexOf lead bytes) h none = early_stays d x t (doing (SysexOf lead bytes)) h (no_message (SysexOf lead bytes) tt)
early_bends d x t track (MetaOf kind bytes) h none = early_stays d x t (doing (MetaOf kind bytes)) h (no_message (MetaOf kind bytes) tt)

pub block_bends : Laws → (port : ℕ) (o : Options) (table : Targets) (zones : List Zone) → Asked o zones → o.range ≤ 127 → (k : Moment) (m x : Music)
    (t track d g : ℕ) → master (planned zones) d ≡ Some g → d < 16 → ((p : Pair) → Has k.is p → k.new p ≢ d) → (w : MidiWhat)
    (block : List MidiEvent) → IsSettled x → IsGiven port o table zones k m (what_at t track w) →
    Opened port o table zones k m x (what_at t track w) block → BendsTo d x (doing w) (play x block)
block_bends laws port o table zones asked range k m x t track d g member low free w block settled given (inl h) =
    subst (λ es. BendsTo d x (doing w) (play x es)) (sym h.is) (early_bends d x t track w h.out h.none)
block_bends laws port o table zones asked range k m x t track d g member low free w block settled given (inr h) =
    let e : MidiEvent = what_at t track w in
    let y : Music = play x (saying e h.lead) in
    let main : List MidiEvent = mpe_block port o table zones k.was true m y k.old k.new e in
    let bare : IsBare zones k d = record { governed = g; member = member; low = low; free = free } in
    let led : (channel_at y d).bend ≡ (channel_at x d).bend =
    all_spared laws e d low h.lead (lead_spares o zones asked range d h.lead h.lead_is) x settled in
    ap (λ es. (channel_at (play x es) d).bend) h.is ∙ ap (λ (z : Music). (channel_at z d).bend) (play_append x (saying e h.lead) main)
    ∙ main_bends laws port o table zones asked range k m y t track d bare w h.follows given
    ∙ ap (cond (resets (doing w)) 8192) led
