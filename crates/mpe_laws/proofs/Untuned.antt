-- No master ever has selected a tuning program.
use Rattle.std.proofs.Common.{◌≡◌, ◌≢◌, ◌≤◌, ◌⊎◌, ◌&&◌, ◌||◌, arith, ℕ, zero, suc, pos, ◌+ℤ◌, Bool, true, false, cond, nat_eq, List, [], ◌∷◌, ◌++◌, Option, Some, None, refl, ap, sym, ◌∙◌, subst, inl, inr}
use Rattle.std.specs.List.{AllByRecursion}
use Rattle.std.specs.Set.{is_member}
use Rattle.std.proofs.lemmas.Bool.{cases_Bool, both_ways, cond_both, or_parts}
use Rattle.std.proofs.lemmas.List.{append-nil}
use Rattle.mt_base.specs.declared.event.Msg.{Msg}
use Rattle.mt_base.specs.declared.event.Msg.TheVariants.{NoteOn, NoteOff, KeyPressure, Control, Program, Pressure, Bend}
use Rattle.mt_base.specs.Midi.{MidiWhat, Says, SysexOf, MetaOf, MidiEvent, channel_of}
use Rattle.midi_model.specs.Sysex.{Doing, Plays, Resets, Tunes, Nothing, doing}
use Rattle.midi_model.specs.Params.{Parameter, pair_eq}
use Rattle.midi_model.specs.Channel.{Channel, Selection, Role, Stored, EntryHigh, EntryLow, NrpnLow, NrpnHigh, RpnLow, RpnHigh, AllSoundOff, ResetControllers, AllNotesOff, Ignored, role, Nowhere, TuningProgram, ZoneSize, Value, target}
use Rattle.midi_model.specs.Music.{Music, channel_at, step, play}
use Rattle.midi_model.specs.MusicLaws.{IsSettled}
use Rattle.midi_model.specs.Bring.{where_differs}
use Rattle.midi_model.specs.Tuning.{Tuning, selected_of, chosen, chosen_by, tuning_after}
use Rattle.midi_model.specs.Receiver.{Receiver, start, receive, receive_all}
use Rattle.retune_model.specs.Table.{BendTarget}
use Rattle.retune_model.specs.Options.{Options}
use Rattle.retune_model.specs.PlaysTheSame.{bend_target_if}
use Rattle.retune_model.specs.Faults.{Targets, is_part, is_entry, is_selected}
use Rattle.retune_model.specs.SourceFaults.{message_tests}
use Rattle.retune_model.specs.Pairs.{Pair, is_same_pair}
use Rattle.retune_model.specs.Ports.{Numbered, Ascend}
use Rattle.channel_model.specs.Choice.{bend_value}
use Rattle.channel_model.specs.BendOutput.{PortRuns, pair_with, placed_at, pressed_note, note_released}
use Rattle.channel_model.specs.MpeOutput.{Zone, Zoned, zone_of, master_of, zones_setup, member_begins, zone_causes, in_zone, setup_behind, mpe_block}
use Rattle.bend_laws.specs.Moments.{Moment, moment}
use Rattle.bend_laws.specs.Positions.{port_event}
use Rattle.retune_model.proofs.Faulty.{none_holds}
use Rattle.bend_laws.proofs.Playing.{saying, settled_play}
use Rattle.bend_laws.proofs.Changing.{said_at}
use Rattle.bend_laws.proofs.Still.{no_message}
use Rattle.midi_model.proofs.Same.{music_all}
use Rattle.bend_laws.proofs.Untuning.{all_receive, IsMute, all_mute, released_mute, heard_else, none_selected}
use Rattle.mpe_laws.specs.Follows.{Follows, IsGiven}
use Rattle.mpe_laws.specs.Positions.{zoned_at}
use Rattle.mpe_laws.proofs.Standing.{Laws}
use Rattle.mpe_laws.proofs.Planning.{IsPlanned}
use Rattle.mpe_laws.proofs.Allowed.{Asked}
use Rattle.mpe_laws.proofs.Passing.{setup_of, passed_block}
use Rattle.mpe_laws.proofs.Everywhere.{what_at, quiet_settled, given_at, follows_at, source_is}
use Rattle.mpe_laws.proofs.Opened.{zoned_if, zoned_to, played_to, Opened, opens, known_at, part_said, drum_said}
use Rattle.mpe_laws.proofs.Setups.{setup_quiet}

abbrev pub QuietMasters : List Zone → Tuning → Type 0
QuietMasters zones s = (c : ℕ) (w : Zone) → zone_of c zones ≡ Some w → selected_of s (master_of w) ≡ None

same_quiet : (zones : List Zone) (s u : Tuning) → u ≡ s → QuietMasters zones s → QuietMasters zones u
same_quiet zones s u e q = subst (QuietMasters zones) (sym e) q

-- ---- a part's message on its master

not_program : (c v : ℕ) (s : Tuning) (a b z : Bool) (p : Parameter) → b ≡ false →
    chosen c v (cond a Nowhere (cond b TuningProgram (cond z ZoneSize (Value p)))) s ≡ s
not_program c v s true b z p h = refl
not_program c v s false true z p h = absurd cc
not_program c v s false false true p h = refl
not_program c v s false false false p h = refl

-- no tuning program is selected for data entry
not_chosen : (c v : ℕ) (s : Tuning) (registered : Bool) (p n : ℕ × ℕ) → (registered && pair_eq p (0, 3)) ≡ false →
    chosen c v (target (let q : Selection = record { registered = registered; rpn = p; nrpn = n } in q)) s ≡ s
not_chosen c v s true p n h = not_program c v s (pair_eq p (127, 127)) (pair_eq p (0, 3)) (pair_eq p (0, 6))
    (let q : Parameter = record { registered = true; high = p.0; low = p.1 } in q) h
not_chosen c v s false p n h = not_program c v s (pair_eq n (127, 127)) false false
    (let q : Parameter = record { registered = false; high = n.0; low = n.1 } in q) refl

entry_quiet : (o : Options) (m y : Music) (c g v : ℕ) (s : Tuning) → is_part o c ≡ true → channel_at y g ≡ channel_at m c → (r : Role) →
    (is_part o c && (is_entry r && (is_selected 3 (channel_at m c).selection || is_selected 4 (channel_at m c).selection))) ≡ false →
    chosen_by y g v r s ≡ s
entry_quiet o m y c g v s part same EntryHigh test =
    let u : Selection = (channel_at m c).selection in
    let one : (is_selected 3 u || is_selected 4 u) ≡ false = ap (λ b. b && (is_selected 3 u || is_selected 4 u)) (sym part) ∙ test in
    ap (λ (x : Channel). chosen g v (target x.selection) s) same
    ∙ not_chosen g v s u.registered u.rpn u.nrpn (or_parts (is_selected 3 u) (is_selected 4 u) one).0
entry_quiet o m y c g v s part same Stored test = refl
entry_quiet o m y c g v s part same EntryLow test = refl
entry_quiet o m y c g v s part same NrpnLow test = refl
entry_quiet o m y c g v s part same NrpnHigh test = refl
entry_quiet o m y c g v s part same RpnLow test = refl
entry_quiet o m y c g v s part same RpnHigh test = refl
entry_quiet o m y c g v s part same AllSoundOff test = refl
entry_quiet o m y c g v s part same ResetControllers test = refl
entry_quiet o m y c g v s part same AllNotesOff test = refl
entry_quiet o m y c g v s part same Ignored test = refl

-- ---- what a part's message causes

-- what is known where a block begins
record Here (port : ℕ) (o : Options) (table : Targets) (zones : List Zone) (k : Moment) (m y : Music) (e : MidiEvent) (r : Receiver) : Type 0 where
  follows : Follows port o table zones k.old k.was m y
  given : IsGiven port o table zones k m e
  music : r.music ≡ y

differs_mute : (c x v : ℕ) (there : Bool) → AllByRecursion IsMute (cond there [] (where_differs x v (Bend c v)))
differs_mute c x v true = tt
differs_mute c x v false = cond_both (nat_eq x v) [] (Bend c v ∷ []) (AllByRecursion IsMute) (λ e. tt) (λ e. ((λ m s. refl), tt))

both_mute : (xs ys : List Msg) → AllByRecursion IsMute xs → AllByRecursion IsMute ys → AllByRecursion IsMute (xs ++ ys)
both_mute [] ys h g = g
both_mute (x ∷ xs) ys h g = (h.0, both_mute xs ys h.1 g)

begins_mute : (port : ℕ) (o : Options) (there : List Pair) (out : Music) (place : Pair → ℕ) (c v : ℕ) (x : Option BendTarget) →
    AllByRecursion IsMute (member_begins port o there out place c v x)
begins_mute port o there out place c v None = tt
begins_mute port o there out place c v (Some t) =
    let p : Pair = pair_with port c t in
    let b : ℕ = bend_value (pos 8192 +ℤ t.steps) in
    both_mute (cond (is_member is_same_pair there p) [] (where_differs (channel_at out (place p)).bend b (Bend (place p) b)))
    (NoteOn (place p) t.key v ∷ [])
    (differs_mute (place p) (channel_at out (place p)).bend b (is_member is_same_pair there p)) ((λ m s. refl), tt)

zone_quiet : (port : ℕ) (o : Options) (table : Targets) (zones : List Zone) (k : Moment) (m y : Music) (t track : ℕ) (msg : Msg) (r : Receiver) →
    Here port o table zones k m y (said_at t track msg) r → is_part o (channel_of msg) ≡ true → (z : Zone) →
    zone_of (channel_of msg) zones ≡ Some z →
    (receive_all r (saying (said_at t track msg) (zone_causes port o table k.was m y k.old k.new (master_of z) t msg))).tuning ≡ r.tuning
zone_quiet port o table zones k m y t track (NoteOn c j zero) r h part z of = all_mute r (said_at t track (NoteOn c j zero))
    (note_released port o table k.old (λ d i. NoteOn d i 0) c (pressed_note c j m.notes))
    (released_mute port o table k.old (λ d i. NoteOn d i 0) (λ d i n s. refl) c (pressed_note c j m.notes))
zone_quiet port o table zones k m y t track (NoteOn c j (suc v)) r h part z of = all_mute r (said_at t track (NoteOn c j (suc v)))
    (member_begins port o k.was y k.new c (suc v) (bend_target_if o.range (table j t)))
    (begins_mute port o k.was y k.new c (suc v) (bend_target_if o.range (table j t)))
zone_quiet port o table zones k m y t track (NoteOff c j v) r h part z of = all_mute r (said_at t track (NoteOff c j v))
    (note_released port o table k.old (λ d i. NoteOff d i v) c (pressed_note c j m.notes))
    (released_mute port o table k.old (λ d i. NoteOff d i v) (λ d i n s. refl) c (pressed_note c j m.notes))
zone_quiet port o table zones k m y t track (KeyPressure c j v) r h part z of = refl
zone_quiet port o table zones k m y t track (Control c n v) r h part z of =
    let e : MidiEvent = said_at t track (Control c n v) in
    let tests = none_holds (message_tests port o table t m (step m e) false k.is (Control c n v)) h.given.faultless in
    entry_quiet o m r.music c (master_of z) v r.tuning part
    (ap (λ (x : Music). channel_at x (master_of z)) h.music ∙ h.follows.masters c z of) (role n) tests.1.1.1.1.1.1.0
zone_quiet port o table zones k m y t track (Program c p) r h part z of = refl
zone_quiet port o table zones k m y t track (Pressure c v) r h part z of = refl
zone_quiet port o table zones k m y t track (Bend c v) r h part z of = refl

part_quiet : (port : ℕ) (o : Options) (table : Targets) (zones : List Zone) (k : Moment) (m y : Music) (t track : ℕ) (msg : Msg) (r : Receiver) →
    Here port o table zones k m y (said_at t track msg) r → is_part o (channel_of msg) ≡ true → (u : Option Zone) →
    zone_of (channel_of msg) zones ≡ u →
    (receive_all r (saying (said_at t track msg) (in_zone port o table k.was m y k.old k.new t msg u))).tuning ≡ r.tuning
part_quiet port o table zones k m y t track msg r h part None of = refl
part_quiet port o table zones k m y t track msg r h part (Some z) of = zone_quiet port o table zones k m y t track msg r h part z of

-- ---- one block

passed_quiet : (zones : List Zone) (m : Music) (d : Doing) (s : Tuning) → ((msg : Msg) → d ≢ Plays msg) → QuietMasters zones s →
    QuietMasters zones (tuning_after m d s)
passed_quiet zones m (Plays msg) s h q = absurd (h msg refl)
passed_quiet zones m Resets s h q = λ c w of. none_selected 16 (master_of w)
passed_quiet zones m (Tunes r) s h q = q
passed_quiet zones m Nothing s h q = q

behind_quiet : Laws → (o : Options) (zones : List Zone) → Asked o zones → (e : MidiEvent) (d : Doing) (r : Receiver) → IsSettled r.music →
    (receive_all r (placed_at e (setup_behind (setup_of o zones) true d))).tuning ≡ r.tuning
behind_quiet laws o zones asked e (Plays msg) r settled = refl
behind_quiet laws o zones asked e Resets r settled = setup_quiet laws o zones asked e r settled
behind_quiet laws o zones asked e (Tunes x) r settled = refl
behind_quiet laws o zones asked e Nothing r settled = refl

main_quiet : Laws → (port : ℕ) (o : Options) (table : Targets) (zones : List Zone) → Asked o zones → (k : Moment) (m y : Music) (t track : ℕ)
    (w : MidiWhat) (r : Receiver) → Here port o table zones k m y (what_at t track w) r → QuietMasters zones r.tuning →
    QuietMasters zones (receive_all r (mpe_block port o table zones k.was true m y k.old k.new (what_at t track w))).tuning
main_quiet laws port o table zones asked k m y t track (Says msg) r h q = elim (cases_Bool (is_part o (channel_of msg))) [
  | inl part ↦ same_quiet zones r.tuning
      (receive_all r (mpe_block port o table zones k.was true m y k.old k.new (said_at t track msg))).tuning
      (ap (λ es. (receive_all r es).tuning) (part_said port o table zones k m y t track msg
      (in_zone port o table k.was m y k.old k.new t msg (zone_of (channel_of msg) zones)) part refl)
      ∙ part_quiet port o table zones k m y t track msg r h part (zone_of (channel_of msg) zones) refl) q
  | inr drum ↦ subst (λ es. QuietMasters zones (receive_all r es).tuning) (sym (drum_said port o table zones k m y t track msg drum))
      (λ c w of. heard_else r.music msg (master_of w) r.tuning (λ e. both_ways (is_part o (channel_of msg)) drum
      (ap (is_part o) (sym e) ∙ asked.row.retuned_master c w of)) ∙ q c w of)
]
main_quiet laws port o table zones asked k m y t track (SysexOf lead bytes) r h q =
    let w : MidiWhat = SysexOf lead bytes in
    let e : MidiEvent = what_at t track w in
    let s : Receiver = receive r e in
    let settled : IsSettled s.music = laws.settle r.music e (subst IsSettled (sym h.music) h.follows.out_settled) in
    subst (λ es. QuietMasters zones (receive_all r es).tuning) (sym (passed_block port o table zones k m y t track w tt))
    (same_quiet zones s.tuning (receive_all s (placed_at e (setup_behind (setup_of o zones) true (doing w)))).tuning
    (behind_quiet laws o zones asked e (doing w) s settled) (passed_quiet zones r.music (doing w) r.tuning (no_message w tt) q))
main_quiet laws port o table zones asked k m y t track (MetaOf kind bytes) r h q =
    subst (λ es. QuietMasters zones (receive_all r es).tuning) (sym (passed_block port o table zones k m y t track (MetaOf kind bytes) tt)) q

lead_quiet : Laws → (o : Options) (zones : List Zone) → Asked o zones → (e : MidiEvent) (r : Receiver) → IsSettled r.music → (lead : List Msg) →
    ((lead ≡ []) ⊎ (lead ≡ zones_setup o.range zones)) → (receive_all r (saying e lead)).tuning ≡ r.tuning
lead_quiet laws o zones asked e r settled lead (inl h) = ap (λ ms. (receive_all r (saying e ms)).tuning) h
lead_quiet laws o zones asked e r settled lead (inr h) = ap (λ ms. (receive_all r (saying e ms)).tuning) h
    ∙ setup_quiet laws o zones asked e r settled

early_quiet : (zones : List Zone) (r : Receiver) (t track : ℕ) (w : MidiWhat) → ((msg : Msg) → w ≡ Says msg → ⊥) → QuietMasters zones r.tuning →
    QuietMasters zones (receive r (what_at t track w)).tuning
early_quiet zones r t track (Says msg) h q = absurd (h msg refl)
early_quiet zones r t track (SysexOf lead bytes) h q =
    passed_quiet zones r.music (doing (SysexOf lead bytes)) r.tuning (no_message (SysexOf lead bytes) tt) q
early_quiet zones r t track (MetaOf kind bytes) h q = q

block_quiet : Laws → (port : ℕ) (o : Options) (table : Targets) (zones : List Zone) → Asked o zones → (k : Moment) (m x : Music) (t track : ℕ)
    (w : MidiWhat) (block : List MidiEvent) → IsGiven port o table zones k m (what_at t track w) →
    Opened port o table zones k m x (what_at t track w) block → (r : Receiver) → r.music ≡ x → IsSettled r.music → QuietMasters zones r.tuning →
    QuietMasters zones (receive_all r block).tuning
block_quiet laws port o table zones asked k m x t track w block given (inl h) r music settled q =
    subst (λ es. QuietMasters zones (receive_all r es).tuning) (sym h.is) (early_quiet zones r t track w h.none q)
block_quiet laws port o table zones asked k m x t track w block given (inr h) r music settled q =
    let e : MidiEvent = what_at t track w in
    let y : Music = play x (saying e h.lead) in
    let s : Receiver = receive_all r (saying e h.lead) in
    let main : List MidiEvent = mpe_block port o table zones k.was true m y k.old k.new e in
    let led : QuietMasters zones s.tuning =
    same_quiet zones r.tuning s.tuning (lead_quiet laws o zones asked e r settled h.lead h.lead_is) q in
    subst (λ es. QuietMasters zones (receive_all r es).tuning) (sym h.is)
    (subst (λ (u : Receiver). QuietMasters zones u.tuning) (sym (all_receive r (saying e h.lead) main))
    (main_quiet laws port o table zones asked k m y t track w s (record {
      follows = h.follows;
      given = given;
      music = music_all r (saying e h.lead) ∙ ap (λ n. play n (saying e h.lead)) music;
    }) led))

-- ---- at every position

pub quiet_to : Laws → (o : Options) (table : Targets) (zones : List Zone) → Asked o zones → (runs : PortRuns) (ns : List Numbered) (last : ℕ) →
    IsPlanned o table zones runs ns last → Ascend 0 ns → (k : ℕ) → k ≤ last →
    QuietMasters zones (receive_all start (zoned_to o table zones runs ns k)).tuning
quiet_to laws o table zones asked runs ns last g rising zero low = λ c w of. none_selected 16 (master_of w)
quiet_to laws o table zones asked runs ns last g rising (suc k) low =
    go (quiet_to laws o table zones asked runs ns last g rising k (omega (arith, low))) (port_event ns (suc k)) refl
  where
    go : QuietMasters zones (receive_all start (zoned_to o table zones runs ns k)).tuning → (x : Option MidiEvent) → port_event ns (suc k) ≡ x →
        QuietMasters zones (receive_all start (zoned_to o table zones runs ns k
        ++ zoned_if o table zones runs k (zoned_at o table zones runs ns k) x)).tuning
    go q None is = subst (λ es. QuietMasters zones (receive_all start es).tuning) (sym (append-nil (zoned_to o table zones runs ns k))) q
    go q (Some e) is =
        let s : Zoned = zoned_at o table zones runs ns k in
        let before : List MidiEvent = zoned_to o table zones runs ns k in
        let block : List MidiEvent = zoned_if o table zones runs k s (Some e) in
        let r : Receiver = receive_all start before in
        let given : IsGiven runs.number o table zones (moment runs k) s.source e =
        given_at o table zones runs ns last g k (omega (arith, low)) s.source (source_is o table zones runs ns k) e is in
        let opened : Opened runs.number o table zones (moment runs k) s.source s.out e block =
        opens laws runs.number o table zones asked.sets (moment runs k) s.begun s.source s.out e.tick e.track e.what
        (known_at o table zones runs k s (follows_at laws o table zones asked.row asked.sets runs ns last g k (omega (arith, low)))) in
        let music : r.music ≡ s.out = music_all start before ∙ sym (played_to o table zones runs ns rising k) in
        subst (λ (y : Receiver). QuietMasters zones y.tuning) (sym (all_receive start before block))
        (block_quiet laws runs.number o table zones asked (moment runs k) s.source s.out e.tick e.track e.what block given opened r music
        (subst IsSettled (sym (music_all start before)) (settled_play laws.settle start.music before quiet_settled)) q)
