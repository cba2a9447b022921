-- Each retuned note is heard within the bound of its source pitch right from its beginning, in a track of the same number.
use Rattle.std.proofs.Common.{◌≡◌, ◌≤◌, ◌⊎◌, arith, ℕ, zero, suc, true, false, List, [], ◌∷◌, ◌++◌, Option, Some, None, refl, ap, sym, ◌∙◌, subst, append_assoc, inl, inr}
use Rattle.std.specs.Set.{is_member}
use Rattle.std.proofs.lemmas.Bool.{cases_Bool}
use Rattle.std.proofs.lemmas.List.{append-nil}
use Rattle.mt_base.specs.declared.event.Msg.{Msg}
use Rattle.mt_base.specs.declared.event.Msg.TheVariants.{NoteOn}
use Rattle.mt_base.specs.Midi.{MidiWhat, Says, SysexOf, MetaOf, MidiEvent, channel_of}
use Rattle.midi_model.specs.Sysex.{Doing, Plays, Resets, Tunes, Nothing, doing}
use Rattle.midi_model.specs.Music.{Music, step, play}
use Rattle.midi_model.specs.MusicLaws.{IsSettled, NotesFade}
use Rattle.midi_model.specs.Receiver.{Receiver, start, after}
use Rattle.retune_model.specs.Table.{Scaling}
use Rattle.retune_model.specs.Options.{Options}
use Rattle.retune_model.specs.PlaysTheSame.{Pairwise, Beginning, beginnings_from, beginnings, BeginsAlike, BeginsTheSame, begins_note, plain_device}
use Rattle.retune_model.specs.Faults.{Targets, is_part}
use Rattle.retune_model.specs.Pairs.{Pair, is_same_pair}
use Rattle.retune_model.specs.Ports.{Numbered, unnumbered, Ascend}
use Rattle.channel_model.specs.BendOutput.{PortRuns, pair_with, placed_at}
use Rattle.channel_model.specs.MpeOutput.{Zone, Zoned, unzoned, zones_setup, zone_of, in_zone, setup_behind, mpe_block}
use Rattle.bend_laws.specs.Moments.{Moment, moment}
use Rattle.bend_laws.specs.Positions.{port_event, up_to_position}
use Rattle.bend_laws.proofs.Ticks.{AreTimely}
use Rattle.bend_laws.proofs.Lists.{pair_append}
use Rattle.bend_laws.proofs.Playing.{saying, saying_append}
use Rattle.bend_laws.proofs.Changing.{said_at}
use Rattle.bend_laws.proofs.Outputs.{none_yet, events_if, source_played}
use Rattle.bend_laws.proofs.Planned.{NoNote, NoNotes, both_none, is_note}
use Rattle.midi_model.proofs.Same.{music_all}
use Rattle.bend_laws.proofs.Untuning.{all_receive}
use Rattle.bend_laws.proofs.Opening.{HeardAlike, StartAlike, begin_append, none_begins, no_beginnings, drum_begins, one_none, neither, struck_alike, events_longer, all_up}
use Rattle.mpe_laws.specs.Follows.{Follows, IsGiven}
use Rattle.mpe_laws.specs.Positions.{zoned_at, zoned_next}
use Rattle.mpe_laws.proofs.Standing.{Laws}
use Rattle.mpe_laws.proofs.Planning.{IsPlanned}
use Rattle.mpe_laws.proofs.Allowed.{Asked}
use Rattle.mpe_laws.proofs.Passing.{setup_of, passed_block}
use Rattle.mpe_laws.proofs.Everywhere.{what_at, given_at, follows_at, source_is}
use Rattle.mpe_laws.proofs.Ticked.{zoned_output}
use Rattle.mpe_laws.proofs.Opened.{zoned_if, zoned_to, played_to, all_zoned, Opened, opens, known_at, part_said, drum_said}
use Rattle.mpe_laws.proofs.Setups.{setup_holds}
use Rattle.mpe_laws.proofs.Strikes.{IsStruck, strikes_at, bend_none, caused_none}
use Rattle.mpe_laws.proofs.Struck.{bend_first}
use Rattle.mpe_laws.proofs.Untuned.{QuietMasters, quiet_to}
use Rattle.mpe_laws.proofs.Heard.{Scaled, sound_at}

pub setup_none : (o : Options) (zones : List Zone) → Asked o zones → o.range ≤ 127 → NoNotes (zones_setup o.range zones)
setup_none o zones asked range = setup_holds NoNote o zones (λ c n v of low part small value other. tt) asked range

pub lead_none : (o : Options) (zones : List Zone) → Asked o zones → o.range ≤ 127 → (lead : List Msg) →
    ((lead ≡ []) ⊎ (lead ≡ zones_setup o.range zones)) → NoNotes lead
lead_none o zones asked range lead (inl h) = subst NoNotes (sym h) tt
lead_none o zones asked range lead (inr h) = subst NoNotes (sym h) (setup_none o zones asked range)

-- what is known where a block begins: the events before it, those of the source and those written
record Here (port : ℕ) (o : Options) (table : Targets) (zones : List Zone) (k : Moment) (m y : Music) (e : MidiEvent)
    (es : List MidiEvent) : Type 0 where
  follows : Follows port o table zones k.old k.was m y
  given : IsGiven port o table zones k m e
  source : (after es).music ≡ m

-- a block that is led by a setup begins what it begins alone, where the setup's messages are counted to those before it
note_alike : NotesFade → (scaling : Scaling) (port : ℕ) (o : Options) (table : Targets) (zones : List Zone) → Asked o zones →
    (k : Moment) (m y : Music)
    (t track c j v : ℕ) (lead : List Msg) (es xs : List MidiEvent) → NoNotes lead →
    Here port o table zones k m y (said_at t track (NoteOn c j (suc v))) es → is_part o c ≡ true →
    (let e : MidiEvent = said_at t track (NoteOn c j (suc v)) in
    let block : List MidiEvent = saying e lead ++ mpe_block port o table zones k.was true m y k.old k.new e in
    HeardAlike scaling o (es ++ e ∷ []) (xs ++ block) →
    StartAlike scaling o (beginnings_from (is_part o) es (e ∷ [])) (beginnings_from (is_part o) xs block))
note_alike fade scaling port o table zones asked k m y t track c j v lead es xs none h part =
    let msg : Msg = NoteOn c j (suc v) in
    let e : MidiEvent = said_at t track msg in
    let s : IsStruck port o table zones k m y t c j v = strikes_at port o table zones asked.row k m y t track c j v part h.follows h.given in
    let p : Pair = pair_with port c s.aim in
    let bend : List Msg = bend_first k y p (is_member is_same_pair k.was p) in
    let last : List Msg = NoteOn (k.new p) s.aim.key (suc v) ∷ [] in
    let is : saying e lead ++ mpe_block port o table zones k.was true m y k.old k.new e ≡ saying e ((lead ++ bend) ++ last) =
    ap (λ b. saying e lead ++ b) (part_said port o table zones k m y t track msg (bend ++ last) part s.is)
    ∙ sym (saying_append e lead (bend ++ last)) ∙ ap (saying e) (sym (append_assoc lead bend last)) in
    subst (λ b. HeardAlike scaling o (es ++ e ∷ []) (xs ++ b) → StartAlike scaling o (beginnings_from (is_part o) es (e ∷ []))
    (beginnings_from (is_part o) xs b)) (sym is)
    (struck_alike fade scaling o es xs t track c j v (k.new p) s.aim.key (lead ++ bend) part
    (asked.row.retuned_member (k.new p) _ s.member.is) (both_none lead bend none (bend_none k y p (is_member is_same_pair k.was p)))
    (ap (λ (n : Music). n.zones) h.source ∙ h.follows.source_zones) (subst IsSettled (sym h.source) h.follows.source_settled))

-- a message that begins no note
still_alike : (scaling : Scaling) (port : ℕ) (o : Options) (table : Targets) (zones : List Zone) (k : Moment) (m y : Music) (t track : ℕ) (msg : Msg)
    (lead : List Msg) (es xs : List MidiEvent) → NoNotes lead → NoNote msg → is_part o (channel_of msg) ≡ true →
    (let e : MidiEvent = said_at t track msg in
    let block : List MidiEvent = saying e lead ++ mpe_block port o table zones k.was true m y k.old k.new e in
    StartAlike scaling o (beginnings_from (is_part o) es (e ∷ [])) (beginnings_from (is_part o) xs block))
still_alike scaling port o table zones k m y t track msg lead es xs none still part =
    let e : MidiEvent = said_at t track msg in
    let block : List MidiEvent = saying e lead ++ mpe_block port o table zones k.was true m y k.old k.new e in
    let causes : List Msg = in_zone port o table k.was m y k.old k.new t msg (zone_of (channel_of msg) zones) in
    neither scaling o (beginnings_from (is_part o) es (e ∷ [])) (beginnings_from (is_part o) xs block)
    (one_none (is_part o) es e (none_begins (is_part o) msg still))
    (ap (λ b. beginnings_from (is_part o) xs (saying e lead ++ b)) (part_said port o table zones k m y t track msg causes part refl)
    ∙ ap (beginnings_from (is_part o) xs) (sym (saying_append e lead causes))
    ∙ no_beginnings (is_part o) xs e (lead ++ causes) (both_none lead causes none
    (caused_none port o table k.was m y k.old k.new t msg (zone_of (channel_of msg) zones) still)))

-- a kept drum
drum_alike : (scaling : Scaling) (port : ℕ) (o : Options) (table : Targets) (zones : List Zone) (k : Moment) (m y : Music) (t track : ℕ) (msg : Msg)
    (lead : List Msg) (es xs : List MidiEvent) → NoNotes lead → is_part o (channel_of msg) ≡ false →
    (let e : MidiEvent = said_at t track msg in
    let block : List MidiEvent = saying e lead ++ mpe_block port o table zones k.was true m y k.old k.new e in
    StartAlike scaling o (beginnings_from (is_part o) es (e ∷ [])) (beginnings_from (is_part o) xs block))
drum_alike scaling port o table zones k m y t track msg lead es xs none drum =
    let e : MidiEvent = said_at t track msg in
    let block : List MidiEvent = saying e lead ++ mpe_block port o table zones k.was true m y k.old k.new e in
    neither scaling o (beginnings_from (is_part o) es (e ∷ [])) (beginnings_from (is_part o) xs block)
    (one_none (is_part o) es e (drum_begins o msg drum))
    (ap (λ b. beginnings_from (is_part o) xs (saying e lead ++ b)) (drum_said port o table zones k m y t track msg drum)
    ∙ begin_append (is_part o) xs (saying e lead) (e ∷ [])
    ∙ ap (λ bs. bs ++ beginnings_from (is_part o) (xs ++ saying e lead) (e ∷ [])) (no_beginnings (is_part o) xs e lead none)
    ∙ one_none (is_part o) (xs ++ saying e lead) e (drum_begins o msg drum))

behind_none : (o : Options) (zones : List Zone) → Asked o zones → o.range ≤ 127 → (xs : List MidiEvent) (e : MidiEvent) (d : Doing) →
    beginnings_from (is_part o) xs (placed_at e (setup_behind (setup_of o zones) true d)) ≡ []
behind_none o zones asked range xs e (Plays msg) = refl
behind_none o zones asked range xs e Resets = no_beginnings (is_part o) xs e (zones_setup o.range zones) (setup_none o zones asked range)
behind_none o zones asked range xs e (Tunes r) = refl
behind_none o zones asked range xs e Nothing = refl

-- what is no message
other_alike : (scaling : Scaling) (port : ℕ) (o : Options) (table : Targets) (zones : List Zone) → Asked o zones → o.range ≤ 127 → (k : Moment)
    (m y : Music) (t track : ℕ) (w : MidiWhat) (lead : List Msg) (es xs : List MidiEvent) → NoNotes lead → begins_note (is_part o) w ≡ false →
    (let e : MidiEvent = what_at t track w in
    mpe_block port o table zones k.was true m y k.old k.new e ≡ e ∷ placed_at e (setup_behind (setup_of o zones) true (doing w)) →
    StartAlike scaling o (beginnings_from (is_part o) es (e ∷ []))
    (beginnings_from (is_part o) xs (saying e lead ++ mpe_block port o table zones k.was true m y k.old k.new e)))
other_alike scaling port o table zones asked range k m y t track w lead es xs none still is =
    let e : MidiEvent = what_at t track w in
    let block : List MidiEvent = saying e lead ++ mpe_block port o table zones k.was true m y k.old k.new e in
    let led : List MidiEvent = xs ++ saying e lead in
    let behind : List MidiEvent = placed_at e (setup_behind (setup_of o zones) true (doing w)) in
    neither scaling o (beginnings_from (is_part o) es (e ∷ [])) (beginnings_from (is_part o) xs block) (one_none (is_part o) es e still)
    (ap (λ b. beginnings_from (is_part o) xs (saying e lead ++ b)) is
    ∙ begin_append (is_part o) xs (saying e lead) (e ∷ behind)
    ∙ ap (λ bs. bs ++ beginnings_from (is_part o) led (e ∷ behind)) (no_beginnings (is_part o) xs e lead none)
    ∙ begin_append (is_part o) led (e ∷ []) behind
    ∙ ap (λ bs. bs ++ beginnings_from (is_part o) (led ++ e ∷ []) behind) (one_none (is_part o) led e still)
    ∙ behind_none o zones asked range (led ++ e ∷ []) e (doing w))

led_alike : NotesFade → (scaling : Scaling) (port : ℕ) (o : Options) (table : Targets) (zones : List Zone) → Asked o zones → o.range ≤ 127 →
    (k : Moment) (m y : Music) (t track : ℕ) (w : MidiWhat) (lead : List Msg) (es xs : List MidiEvent) → NoNotes lead →
    Here port o table zones k m y (what_at t track w) es →
    (let e : MidiEvent = what_at t track w in
    let block : List MidiEvent = saying e lead ++ mpe_block port o table zones k.was true m y k.old k.new e in
    HeardAlike scaling o (es ++ e ∷ []) (xs ++ block) →
    StartAlike scaling o (beginnings_from (is_part o) es (e ∷ [])) (beginnings_from (is_part o) xs block))
led_alike fade scaling port o table zones asked range k m y t track (Says msg) lead es xs none here heard =
    elim (cases_Bool (is_part o (channel_of msg))) [
      | inr drum ↦ drum_alike scaling port o table zones k m y t track msg lead es xs none drum
      | inl part ↦ elim (is_note msg) [
        | inl still ↦ still_alike scaling port o table zones k m y t track msg lead es xs none still part
        | inr (c, j, v, same) ↦ subst Goal (sym same)
            (λ p h g. note_alike fade scaling port o table zones asked k m y t track c j v lead es xs none h p g) part here heard
      ]
    ]
  where
    Goal : Msg → Type 0
    Goal u = is_part o (channel_of u) ≡ true → Here port o table zones k m y (said_at t track u) es →
        HeardAlike scaling o (es ++ said_at t track u ∷ [])
        (xs ++ (saying (said_at t track u) lead ++ mpe_block port o table zones k.was true m y k.old k.new (said_at t track u))) →
        StartAlike scaling o (beginnings_from (is_part o) es (said_at t track u ∷ []))
        (beginnings_from (is_part o) xs (saying (said_at t track u) lead
        ++ mpe_block port o table zones k.was true m y k.old k.new (said_at t track u)))
led_alike fade scaling port o table zones asked range k m y t track (SysexOf lead_byte bytes) lead es xs none here heard =
    other_alike scaling port o table zones asked range k m y t track (SysexOf lead_byte bytes) lead es xs none refl
    (passed_block port o table zones k m y t track (SysexOf lead_byte bytes) tt)
led_alike fade scaling port o table zones asked range k m y t track (MetaOf kind bytes) lead es xs none here heard =
    other_alike scaling port o table zones asked range k m y t track (MetaOf kind bytes) lead es xs none refl
    (passed_block port o table zones k m y t track (MetaOf kind bytes) tt)

early_alike : (scaling : Scaling) (o : Options) (t track : ℕ) (w : MidiWhat) (es xs : List MidiEvent) → ((msg : Msg) → w ≡ Says msg → ⊥) →
    StartAlike scaling o (beginnings_from (is_part o) es (what_at t track w ∷ [])) (beginnings_from (is_part o) xs (what_at t track w ∷ []))
early_alike scaling o t track (Says msg) es xs h = absurd (h msg refl)
early_alike scaling o t track (SysexOf lead bytes) es xs h = tt
early_alike scaling o t track (MetaOf kind bytes) es xs h = tt

event_alike : NotesFade → (scaling : Scaling) (port : ℕ) (o : Options) (table : Targets) (zones : List Zone) → Asked o zones → o.range ≤ 127 →
    (k : Moment) (m x : Music) (t track : ℕ) (w : MidiWhat) (block es xs : List MidiEvent) → IsGiven port o table zones k m (what_at t track w) →
    Opened port o table zones k m x (what_at t track w) block → (after es).music ≡ m →
    HeardAlike scaling o (es ++ what_at t track w ∷ []) (xs ++ block) →
    StartAlike scaling o (beginnings_from (is_part o) es (what_at t track w ∷ [])) (beginnings_from (is_part o) xs block)
event_alike fade scaling port o table zones asked range k m x t track w block es xs given (inl h) source heard =
    subst (λ b. StartAlike scaling o (beginnings_from (is_part o) es (what_at t track w ∷ [])) (beginnings_from (is_part o) xs b)) (sym h.is)
    (early_alike scaling o t track w es xs h.none)
event_alike fade scaling port o table zones asked range k m x t track w block es xs given (inr h) source heard =
    let e : MidiEvent = what_at t track w in
    let y : Music = play x (saying e h.lead) in
    subst (λ b. HeardAlike scaling o (es ++ e ∷ []) (xs ++ b) →
    StartAlike scaling o (beginnings_from (is_part o) es (e ∷ [])) (beginnings_from (is_part o) xs b)) (sym h.is)
    (led_alike fade scaling port o table zones asked range k m y t track w h.lead es xs (lead_none o zones asked range h.lead h.lead_is)
    (record { follows = h.follows; given = given; source = source })) heard

-- ---- all blocks

begins_to : Laws → (scaling : Scaling) (o : Options) (table : Targets) → Scaled scaling o table → o.range ≤ 127 → (zones : List Zone) →
    Asked o zones → (runs : PortRuns) (ns : List Numbered) (last : ℕ) → IsPlanned o table zones runs ns last → Ascend 0 ns → (k : ℕ) → k ≤ last →
    StartAlike scaling o (beginnings (is_part o) (unnumbered (up_to_position k ns))) (beginnings (is_part o) (zoned_to o table zones runs ns k))
begins_to laws scaling o table scaled range zones asked runs ns last g rising zero low =
    subst (λ xs. StartAlike scaling o (beginnings (is_part o) (unnumbered xs)) []) (sym (none_yet 0 ns rising 0 (omega arith))) tt
begins_to laws scaling o table scaled range zones asked runs ns last g rising (suc k) low =
    subst (λ xs. StartAlike scaling o (beginnings (is_part o) xs) (beginnings (is_part o) (zoned_to o table zones runs ns (suc k))))
    (sym (events_longer ns rising k))
    (go (begins_to laws scaling o table scaled range zones asked runs ns last g rising k (omega (arith, low))) (port_event ns (suc k)) refl)
  where
    go : StartAlike scaling o (beginnings (is_part o) (unnumbered (up_to_position k ns)))
        (beginnings (is_part o) (zoned_to o table zones runs ns k)) →
        (x : Option MidiEvent) → port_event ns (suc k) ≡ x →
        StartAlike scaling o (beginnings (is_part o) (unnumbered (up_to_position k ns) ++ events_if x))
        (beginnings (is_part o) (zoned_to o table zones runs ns k ++ zoned_if o table zones runs k (zoned_at o table zones runs ns k) x))
    go h None is =
        subst (λ xs. StartAlike scaling o (beginnings (is_part o) xs) (beginnings (is_part o) (zoned_to o table zones runs ns k ++ [])))
        (sym (append-nil (unnumbered (up_to_position k ns))))
        (subst (λ ys. StartAlike scaling o (beginnings (is_part o) (unnumbered (up_to_position k ns))) (beginnings (is_part o) ys))
        (sym (append-nil (zoned_to o table zones runs ns k))) h)
    go h (Some e) is =
        let S : Beginning → Beginning → Type 0 = BeginsAlike scaling o (plain_device o) in
        let s : Zoned = zoned_at o table zones runs ns k in
        let es : List MidiEvent = unnumbered (up_to_position k ns) in
        let bs : List MidiEvent = zoned_to o table zones runs ns k in
        let block : List MidiEvent = zoned_if o table zones runs k s (Some e) in
        let is_source : (after es).music ≡ s.source = music_all start es
        ∙ sym (source_is o table zones runs ns k ∙ source_played ns rising k) in
        let is_out : (after bs).music ≡ s.out = music_all start bs ∙ sym (played_to o table zones runs ns rising k) in
        let given : IsGiven runs.number o table zones (moment runs k) s.source e =
        given_at o table zones runs ns last g k (omega (arith, low)) s.source (source_is o table zones runs ns k) e is in
        let opened : Opened runs.number o table zones (moment runs k) s.source s.out e block =
        opens laws runs.number o table zones asked.sets (moment runs k) s.begun s.source s.out e.tick e.track e.what
        (known_at o table zones runs k s (follows_at laws o table zones asked.row asked.sets runs ns last g k (omega (arith, low)))) in
        let source_next : (after (es ++ e ∷ [])).music ≡ (zoned_at o table zones runs ns (suc k)).source =
        ap (λ (r : Receiver). r.music) (all_receive start es (e ∷ [])) ∙ ap (λ m. step m e) is_source
        ∙ sym (ap (λ x. (zoned_next o table zones runs k s x).source) is) in
        let out_next : (after (bs ++ block)).music ≡ (zoned_at o table zones runs ns (suc k)).out =
        ap (λ (r : Receiver). r.music) (all_receive start bs block) ∙ music_all (after bs) block ∙ ap (λ m. play m block) is_out
        ∙ sym (ap (λ x. (zoned_next o table zones runs k s x).out) is) in
        let all : zoned_to o table zones runs ns (suc k) ≡ bs ++ block = ap (λ x. bs ++ zoned_if o table zones runs k s x) is in
        let heard : HeardAlike scaling o (es ++ e ∷ []) (bs ++ block) =
        sound_at laws scaling o table scaled zones asked runs ns last g (suc k) low (es ++ e ∷ []) (bs ++ block) source_next out_next
        (subst (λ zs. QuietMasters zones (after zs).tuning) all (quiet_to laws o table zones asked runs ns last g rising (suc k) low)) in
        subst (λ xs. Pairwise S xs (beginnings (is_part o) (bs ++ block))) (sym (begin_append (is_part o) [] es (e ∷ [])))
        (subst (λ ys. Pairwise S (beginnings (is_part o) es ++ beginnings_from (is_part o) es (e ∷ [])) ys)
        (sym (begin_append (is_part o) [] bs block))
        (pair_append S (beginnings (is_part o) es) (beginnings_from (is_part o) es (e ∷ [])) (beginnings (is_part o) bs)
        (beginnings_from (is_part o) bs block) h
        (event_alike laws.fade scaling runs.number o table zones asked range (moment runs k) s.source s.out e.tick e.track e.what block es bs given
        opened is_source heard)))

pub begins_same : Laws → (scaling : Scaling) (o : Options) (table : Targets) → Scaled scaling o table → o.range ≤ 127 → (zones : List Zone) →
    Asked o zones → (runs : PortRuns) (ns : List Numbered) (last : ℕ) → IsPlanned o table zones runs ns last → AreTimely ns last →
    BeginsTheSame scaling o (plain_device o) (is_part o) (unnumbered ns) (zoned_output o table zones runs unzoned ns)
begins_same laws scaling o table scaled range zones asked runs ns last g timely =
    subst (λ xs. StartAlike scaling o (beginnings (is_part o) (unnumbered xs)) (beginnings (is_part o) (zoned_output o table zones runs unzoned ns)))
    (all_up last ns timely.within)
    (subst (λ ys. StartAlike scaling o (beginnings (is_part o) (unnumbered (up_to_position last ns))) (beginnings (is_part o) ys))
    (all_zoned o table zones runs ns last timely)
    (begins_to laws scaling o table scaled range zones asked runs ns last g timely.rising last (omega arith)))
