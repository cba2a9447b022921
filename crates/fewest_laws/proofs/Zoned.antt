-- The output of the MPE route uses the fewest members of each zone.
use Rattle.std.proofs.Common.{◌≡◌, ◌≤◌, ◌<◌, ◌+◌, ◌-◌, ℕ, zero, suc, List, [], ◌∷◌, ◌++◌, Bool, true, false, cond, nat_eq, Some, refl, ap, sym, ◌∙◌, subst, length, map, filter, get_or, arith, inl, inr}
use Rattle.std.specs.Prelude.{is_some, ◌&&◌}
use Rattle.std.specs.List.{IsDistinct, AllByRecursion}
use Rattle.std.proofs.lemmas.Bool.{cases_Bool, ne_eqb, eq-eqb, eqb-true}
use Rattle.std.proofs.lemmas.Grind.{get_or_default_zero}
use Rattle.std.proofs.lemmas.Map.Keys.{IsDistinct-from_apart}
use Rattle.mt_base.specs.declared.event.Msg.{Msg}
use Rattle.mt_base.specs.declared.event.Msg.TheVariants.{NoteOn, NoteOff, KeyPressure, Control, Program, Pressure, Bend}
use Rattle.mt_base.specs.Midi.{MidiWhat, Says, SysexOf, MetaOf, MidiEvent, channel_of}
use Rattle.midi_model.specs.Music.{Music, quiet, play}
use Rattle.midi_model.specs.MusicLaws.{NotesAge, Grows}
use Rattle.midi_model.specs.Notes.{Note}
use Rattle.midi_model.specs.Receiver.{start, after}
use Rattle.retune_model.specs.Options.{Options, is_drum_message, has_drums, keeps_drums, is_retuned}
use Rattle.retune_model.specs.Faults.{Targets, is_part}
use Rattle.retune_model.specs.Pairs.{Pair, pairs_of, channels_of}
use Rattle.retune_model.specs.Places.{nth}
use Rattle.retune_model.specs.PlaysTheSame.{retuned_notes, bend_target_if}
use Rattle.retune_model.specs.PortNeed.{IsNeedOf, need_of, pairs_on}
use Rattle.retune_model.specs.Ports.{Numbered, PortEvents, of_port, port_at, events_on, unnumbered, event_at, music_at}
use Rattle.retune_model.specs.PortOutput.{through}
use Rattle.retune_model.specs.Rests.{notes_at, nobody, pair_of, pair_at, began_at, begun_at, is_aimed, AreAimed}
use Rattle.retune_model.specs.RunLaws.{NeedIsDetermined}
use Rattle.retune_model.specs.NeedLaws.{CountingFindsNeed}
use Rattle.channel_model.specs.BendOutput.{PortRuns, runs_on}
use Rattle.channel_model.specs.Laws.{ShortestMemberIsFree, ZonedPorts}
use Rattle.channel_model.specs.MpeOutput.{Zone, member_at, members_from, zone_of, lower_allowed, upper_allowed, unzoned, zoned_block, next_zoned, mpe_output}
use Rattle.channel_model.specs.Rows.{only, zone_row, zones_on}
use Rattle.bend_laws.specs.Simulation.{planned_channels}
use Rattle.bend_laws.proofs.Drumless.{NoDrums, none_has, either, and_true}
use Rattle.bend_laws.proofs.Opening.{all_up}
use Rattle.bend_laws.proofs.Placing.{port_within}
use Rattle.midi_model.proofs.Same.{music_all}
use Rattle.mpe_laws.specs.FileLaws.{PortsAreTheirBlocks, PortsAreOnTheirChannels, ZonedIsOnZones, PlansServe}
use Rattle.mpe_laws.specs.Positions.{zoned_at}
use Rattle.mpe_laws.specs.Sources.{on_port, AreAllowed, IsMpe, in_its_zone, zoned_channel, IsPlannedMpe}
use Rattle.mpe_laws.proofs.Allowed.{row_at}
use Rattle.retune_model.proofs.Moments.{Timely, timely, HasTarget, begun_notes, begun_to, timeline, pairs_begun_at, aimed_at}
use Rattle.retune_model.proofs.Timeline.{AtMostOne}
use Rattle.fewest_laws.specs.Fewest.{retuned_on, channels_beside, part_channels_read, IsFewestIn}
use Rattle.fewest_laws.specs.Laws.{ZonedUsesFewest}
use Rattle.fewest_laws.specs.Using.{AreOfRuns}
use Rattle.fewest_laws.proofs.Reading.{named, planned_named, named_read, one_pair}
use Rattle.fewest_laws.proofs.Using.{UsingLaws, uses_fewest}

-- What it rests on, as contracts have it.
pub record ZonedLaws : Type 0 where
  pub using : UsingLaws
  pub serve : PlansServe
  pub blocks : PortsAreTheirBlocks
  pub ports : ZonedPorts
  pub channels : PortsAreOnTheirChannels
  pub on_zones : ZonedIsOnZones
  pub free : ShortestMemberIsFree
  pub counted : CountingFindsNeed
  pub determined : NeedIsDetermined
  pub age : NotesAge

-- ---- the channels of the notes of a part, among those of all notes

-- by the list of all channels
abbrev beside : (ℕ → Bool) → List Note → List ℕ → List ℕ
beside part (n ∷ ns) (c ∷ cs) = cond (part n.channel) (c ∷ beside part ns cs) (beside part ns cs)
beside part _ _ = []

beside_notes : (part : ℕ → Bool) (ns ms : List Note) → channels_beside part ns ms ≡ beside part ns (map (λ (n : Note). n.channel) ms)
beside_notes part [] [] = refl
beside_notes part [] (m ∷ ms) = refl
beside_notes part (n ∷ ns) [] = refl
beside_notes part (n ∷ ns) (m ∷ ms) = ap (λ cs. cond (part n.channel) (m.channel ∷ cs) cs) (beside_notes part ns ms)

-- notes that have aged, with those that begin
beside_grown : (part : ℕ → Bool) (t : ℕ) (b ns xs : List Note) (cs ds : List ℕ) → Grows t b ns xs → length cs ≡ length ns
    → beside part xs (cs ++ ds) ≡ beside part ns cs ++ beside part b ds
beside_grown part t b [] xs [] ds g same = ap (λ ys. beside part ys ds) g
beside_grown part t b [] xs (c ∷ cs) ds g same = absurd (omega (arith, same))
beside_grown part t b (n ∷ ns) [] cs ds g same = absurd g
beside_grown part t b (n ∷ ns) (x ∷ xs) [] ds g same = absurd (omega (arith, same))
beside_grown part t b (n ∷ ns) (x ∷ xs) (c ∷ cs) ds g same =
    let rest = beside_grown part t b ns xs cs ds g.1 (omega (arith, same)) in
    ap (λ p. cond p (c ∷ beside part xs (cs ++ ds)) (beside part xs (cs ++ ds))) (ap part g.0.channel)
    ∙ ap (λ ys. cond (part n.channel) (c ∷ ys) ys) rest
    ∙ pick (part n.channel)
  where
    pick : (p : Bool) → cond p (c ∷ (beside part ns cs ++ beside part b ds)) (beside part ns cs ++ beside part b ds)
        ≡ cond p (c ∷ beside part ns cs) (beside part ns cs) ++ beside part b ds
    pick true = refl
    pick false = refl

-- the note that begins
beside_begun : (z : ℕ) (o : Options) (table : Targets) (part : ℕ → Bool) (place : Pair → ℕ) (b : List Note) → AtMostOne b
    → AllByRecursion (HasTarget o table) b
    → beside part b (map place (pairs_of z o table b)) ≡ map place (pairs_of z o table (filter (λ (n : Note). part n.channel) b))
beside_begun z o table part place [] one aimed = refl
beside_begun z o table part place (n ∷ []) one aimed =
    ap (λ ps. beside part (n ∷ []) (map place ps)) (one_pair z o table n aimed.0) ∙ pick (part n.channel)
  where
    pick : (p : Bool) → cond p (place (pair_of z o table n) ∷ []) [] ≡ map place (pairs_of z o table (cond p (n ∷ []) []))
    pick true = sym (ap (map place) (one_pair z o table n aimed.0))
    pick false = refl
beside_begun z o table part place (n ∷ m ∷ b) one aimed = absurd one

-- a part is within the retuned channels
twice : (part whole : ℕ → Bool) → ((c : ℕ) → part c ≡ true → whole c ≡ true) → (ns : List Note)
    → filter (λ (n : Note). part n.channel) (filter (λ (n : Note). whole n.channel) ns) ≡ filter (λ (n : Note). part n.channel) ns
twice part whole within [] = refl
twice part whole within (n ∷ ns) = elim (cases_Bool (part n.channel)) [
  | inl p ↦
      ap (λ w. filter (λ (x : Note). part x.channel)
      (cond w (n ∷ filter (λ (x : Note). whole x.channel) ns) (filter (λ (x : Note). whole x.channel) ns))) (within n.channel p)
      ∙ ap (λ ys. cond (part n.channel) (n ∷ ys) ys) (twice part whole within ns)
  | inr p ↦ pick p (whole n.channel) ∙ twice part whole within ns
      ∙ sym (ap (λ q. cond q (n ∷ filter (λ (x : Note). part x.channel) ns) (filter (λ (x : Note). part x.channel) ns)) p)
]
  where
    pick : part n.channel ≡ false → (w : Bool)
        → filter (λ (x : Note). part x.channel) (cond w (n ∷ filter (λ (x : Note). whole x.channel) ns) (filter (λ (x : Note). whole x.channel) ns))
        ≡ filter (λ (x : Note). part x.channel) (filter (λ (x : Note). whole x.channel) ns)
    pick p true =
        ap (λ q. cond q (n ∷ filter (λ (x : Note). part x.channel) (filter (λ (x : Note). whole x.channel) ns))
        (filter (λ (x : Note). part x.channel) (filter (λ (x : Note). whole x.channel) ns))) p
    pick p false = refl

begun_twice : (part whole : ℕ → Bool) → ((c : ℕ) → part c ≡ true → whole c ≡ true) → (m : Music) (es : List MidiEvent)
    → filter (λ (n : Note). part n.channel) (begun_notes whole m es) ≡ begun_notes part m es
begun_twice part whole within m [] = refl
begun_twice part whole within m (e ∷ es) = twice part whole within _

-- up to a position
part_named : (o : Options) (part whole : ℕ → Bool) → ((c : ℕ) → part c ≡ true → whole c ≡ true)
    → (table : Targets) (port : PortEvents) (channel : ℕ → Pair → ℕ)
    → Timely port → ((k : ℕ) → AllByRecursion (HasTarget o table) (begun_to whole port.events (suc k)))
    → ((k : ℕ) → length (named o whole table port channel k) ≡ length (notes_at whole port.events k)) → (k : ℕ)
    → beside part (notes_at whole port.events k) (named o whole table port channel k) ≡ named o part table port channel k
part_named o part whole within table port channel timed aimed all zero = ap (λ ns. beside part ns []) (timeline whole port timed).none
part_named o part whole within table port channel timed aimed all (suc k) =
    let T = timeline whole port timed in
    let b : List Note = begun_to whole port.events (suc k) in
    let place : Pair → ℕ = channel (suc k) in
    beside_grown part (port.tick (suc k)) b (notes_at whole port.events k) (notes_at whole port.events (suc k)) (named o whole table port channel k)
    (map place (begun_at o whole table port (suc k))) (T.grows k) (all k)
    ∙ ap (λ cs. cs ++ beside part b (map place (begun_at o whole table port (suc k))))
    (part_named o part whole within table port channel timed aimed all k)
    ∙ ap (λ cs. named o part table port channel k ++ cs)
    (ap (λ ps. beside part b (map place ps)) (sym (pairs_begun_at o whole table port k))
    ∙ beside_begun port.number o table part place b (T.one k) (aimed k)
    ∙ ap (λ ns. map place (pairs_of port.number o table ns)) (begun_twice part whole within (music_at port.events k) (event_at port.events (suc k)))
    ∙ ap (map place) (pairs_begun_at o part table port k))

-- ---- zones

-- a zone of a port: it is found by its part, which is retuned, and its members are channels
record IsGood (o : Options) (zones : List Zone) (zone : Zone) : Type 0 where
  found : zone_of zone.part zones ≡ Some zone
  part : is_part o zone.part ≡ true
  few : zone.members ≤ 15

found_first : (z : Zone) (zs : List Zone) → zone_of z.part (z ∷ zs) ≡ Some z
found_first z zs = ap (λ b. cond b (Some z) (zone_of z.part zs)) (eq-eqb z.part z.part refl)

lower_few : (drums : Bool) (zones : List Zone) → lower_allowed drums zones ≤ 15
lower_few true zones = omega arith
lower_few false [] = omega arith
lower_few false (l ∷ []) = omega arith
lower_few false (l ∷ u ∷ zs) = omega arith

upper_few : (drums : Bool) → upper_allowed drums ≤ 15
upper_few true = omega arith
upper_few false = omega arith

good_zone : (o : Options) (drums : Bool) (zones : List Zone) → AreAllowed o drums zones → (i : ℕ) (zone : Zone) → nth i zones ≡ Some zone
    → IsGood o zones zone
good_zone o drums [] h i zone is = absurd cc
good_zone o drums (l ∷ []) h zero zone is =
    let same : l ≡ zone = cc in
    let few = h.few in
    let most = lower_few drums (l ∷ []) in
    subst (IsGood o (l ∷ [])) same (record { found = found_first l []; part = h.retuned; few = omega (arith, few, most) })
good_zone o drums (l ∷ []) h (suc i) zone is = absurd cc
good_zone o drums (l ∷ u ∷ []) h zero zone is =
    let same : l ≡ zone = cc in
    let few = h.0.few in
    let most = lower_few drums (l ∷ u ∷ []) in
    subst (IsGood o (l ∷ u ∷ [])) same (record { found = found_first l (u ∷ []); part = h.0.retuned; few = omega (arith, few, most) })
good_zone o drums (l ∷ u ∷ []) h (suc zero) zone is =
    let same : u ≡ zone = cc in
    let few = h.1.0.few in
    let most = upper_few drums in
    subst (IsGood o (l ∷ u ∷ [])) same (record {
      found = ap (λ b. cond b (Some l) (zone_of u.part (u ∷ []))) (ne_eqb l.part u.part (λ e. h.1.1 e)) ∙ found_first u [];
      part = h.1.0.retuned;
      few = omega (arith, few, most);
    })
good_zone o drums (l ∷ u ∷ []) h (suc (suc i)) zone is = absurd cc
good_zone o drums (l ∷ u ∷ v ∷ zs) h i zone is = absurd h

member_apart : (zone : Zone) (i j : ℕ) → i < 15 → j < 15 → member_at zone i ≡ member_at zone j → i ≡ j
member_apart zone i j a b e = pick zone.upper e
  where
    pick : (u : Bool) → cond u (14 - i) (1 + i) ≡ cond u (14 - j) (1 + j) → i ≡ j
    pick true g = omega (arith, a, b, g)
    pick false g = omega (arith, g)

pub members_length : (zone : Zone) (i n : ℕ) → length (members_from zone i n) ≡ n
members_length zone i zero = refl
members_length zone i (suc n) = ap suc (members_length zone (i + 1) n)

at_member : (zone : Zone) (i : ℕ) → i < zone.members → get_or (zone_row zone) i 0 ≡ member_at zone i
at_member zone i l = row_at zone 0 zone.members i l ∙ ap (member_at zone) (let e : 0 + i ≡ i = omega arith in e)

row_apart : (zone : Zone) → zone.members ≤ 15 → IsDistinct nat_eq (zone_row zone)
row_apart zone few =
    let row = zone_row zone in
    let many : length row ≡ zone.members = members_length zone 0 zone.members in
    IsDistinct-from_apart nat_eq row (λ i j d less low.
    ne_eqb (get_or row i d) (get_or row j d) (λ e. (
    let a : get_or row i 0 ≡ member_at zone i = at_member zone i (omega (arith, less, low, many)) in
    let b : get_or row j 0 ≡ member_at zone j = at_member zone j (omega (arith, low, many)) in
    let same : i ≡ j = member_apart zone i j (omega (arith, less, low, many, few)) (omega (arith, low, many, few))
    (sym a ∙ sym (get_or_default_zero row i d (omega (arith, less, low))) ∙ e ∙ get_or_default_zero row j d low ∙ b) in
    absurd (omega (arith, less, same)))))

-- ---- a port

-- the retuned notes that are read from the source and from the output
source_notes : (o : Options) (es : List MidiEvent) (z : ℕ) (whole : ℕ → Bool) → retuned_notes whole (after (events_on z es)) ≡ notes_at whole
    (of_port z es) (length es)
source_notes o es z whole =
    ap (λ (m : Music). filter (λ (n : Note). whole n.channel) m.notes)
    (music_all start (events_on z es) ∙ ap (λ ns. play quiet (unnumbered ns)) (sym (all_up (length es) (of_port z es) (port_within z es))))

out_channels : ZonedLaws → (o : Options) (table : Targets) (es : List MidiEvent) (zones : ℕ → List Zone) (channel : ℕ → ℕ → Pair → ℕ)
    → IsMpe o table es zones channel → (z : ℕ)
    → channels_of (retuned_on o es z) z (mpe_output o table zones channel es) ≡ planned_channels (on_port o es z) table (runs_on o table es channel z)
    (of_port z es) (length es)
out_channels laws o table es zones channel b z =
    let runs : PortRuns = runs_on o table es channel z in
    let ns = of_port z es in
    let out : List MidiEvent = through (zoned_block o table (zones z) runs) (next_zoned o table (zones z) runs) unzoned ns in
    let on : List Note → List ℕ = λ ms. map (λ (n : Note). n.channel) (filter (λ (n : Note). retuned_on o es z n.channel) ms) in
    let played : (zoned_at o table (zones z) runs ns (length es)).out ≡ play quiet out =
    laws.blocks o table es zones channel b z (length es)
    ∙ ap (λ xs. play quiet (through (zoned_block o table (zones z) runs) (next_zoned o table (zones z) runs) unzoned xs))
    (all_up (length es) ns (port_within z es)) in
    ap (λ (xs : List MidiEvent). on (after xs).music.notes) (laws.ports o table zones channel es z)
    ∙ ap (λ (m : Music). on m.notes) (music_all start out)
    ∙ ap (λ (m : Music). on m.notes) (sym played)
    ∙ laws.channels o table es zones channel b z (length es) (omega arith)

-- ---- whichever way retuned notes are told apart

-- where two tests agree on a message
aimed_message : (o q : Options) (p r : ℕ → Bool) (table : Targets) (t : ℕ) (m : Msg) → q.range ≡ o.range → r (channel_of m) ≡ p (channel_of m)
    → is_aimed o p table t (Says m) ≡ true → is_aimed q r table t (Says m) ≡ true
aimed_message o q p r table t (NoteOn c k zero) range same h = refl
aimed_message o q p r table t (NoteOn c k (suc v)) range same h =
    ap (λ b. cond b (is_some (bend_target_if q.range (table k t))) true) same
    ∙ ap (λ n. cond (p c) (is_some (bend_target_if n (table k t))) true) range ∙ h
aimed_message o q p r table t (NoteOff c k v) range same h = refl
aimed_message o q p r table t (KeyPressure c k v) range same h = refl
aimed_message o q p r table t (Control c n v) range same h = refl
aimed_message o q p r table t (Program c x) range same h = refl
aimed_message o q p r table t (Pressure c v) range same h = refl
aimed_message o q p r table t (Bend c v) range same h = refl

abbrev AgreeOn : (ℕ → Bool) → (ℕ → Bool) → MidiWhat → Type 0
AgreeOn p r (Says m) = r (channel_of m) ≡ p (channel_of m)
AgreeOn p r _ = Unit {0}

aimed_what : (o q : Options) (p r : ℕ → Bool) (table : Targets) (t : ℕ) (w : MidiWhat) → q.range ≡ o.range → AgreeOn p r w
    → is_aimed o p table t w ≡ true → is_aimed q r table t w ≡ true
aimed_what o q p r table t (Says m) range same h = aimed_message o q p r table t m range same h
aimed_what o q p r table t (SysexOf lead bytes) range same h = refl
aimed_what o q p r table t (MetaOf kind bytes) range same h = refl

aimed_as : (o q : Options) (p r : ℕ → Bool) (table : Targets) (ns : List Numbered) → q.range ≡ o.range
    → AllByRecursion (λ n. AgreeOn p r n.event.what) ns
    → AreAimed o p table ns → AreAimed q r table ns
aimed_as o q p r table [] range same h = tt
aimed_as o q p r table (n ∷ ns) range same h =
    (aimed_what o q p r table n.event.tick n.event.what range same.0 h.0, aimed_as o q p r table ns range same.1 h.1)

agree_always : (p : ℕ → Bool) (ns : List Numbered) → AllByRecursion (λ n. AgreeOn p p n.event.what) ns
agree_always p [] = tt
agree_always p (n ∷ ns) = (by_what n.event.what, agree_always p ns)
  where
    by_what : (w : MidiWhat) → AgreeOn p p w
    by_what (Says m) = refl
    by_what (SysexOf lead bytes) = tt
    by_what (MetaOf kind bytes) = tt

agree_drumless : (a b : Bool) (ns : List Numbered) → NoDrums (unnumbered ns)
    → AllByRecursion (λ n. AgreeOn (is_retuned a) (is_retuned b) n.event.what) ns
agree_drumless a b [] h = tt
agree_drumless a b (n ∷ ns) h = (by_what n.event.what h.0, agree_drumless a b ns h.1)
  where
    by_what : (w : MidiWhat) → is_drum_message w ≡ false → AgreeOn (is_retuned a) (is_retuned b) w
    by_what (Says m) g = either b a (channel_of m) g
    by_what (SysexOf lead bytes) g = tt
    by_what (MetaOf kind bytes) g = tt

still_part : (keep has : Bool) (c : ℕ) → is_retuned keep c ≡ true → is_retuned (keep && has) c ≡ true
still_part true true c h = h
still_part true false c h = refl
still_part false has c h = refl

agree_on_port : (o : Options) (es : List MidiEvent) (z : ℕ) → AllByRecursion (λ (n : Numbered). AgreeOn (is_part o) (retuned_on o es z) n.event.what)
    (of_port z es)
agree_on_port o es z = elim (cases_Bool (has_drums (events_on z es))) [
  | inl some ↦ subst (λ d. AllByRecursion (λ (n : Numbered). AgreeOn (is_part o) (is_retuned d) n.event.what) (of_port z es))
      (sym (and_true o.keep_drums (has_drums (events_on z es)) some)) (agree_always (is_part o) (of_port z es))
  | inr none ↦ agree_drumless o.keep_drums (keeps_drums o (events_on z es)) (of_port z es) (none_has (events_on z es) none)
]

-- a note that passes a test does
all_pass : (part : ℕ → Bool) (ns : List Note) → AllByRecursion (λ (n : Note). part n.channel ≡ true) (filter (λ (n : Note). part n.channel) ns)
all_pass part [] = tt
all_pass part (n ∷ ns) = pick (part n.channel) refl (all_pass part ns)
  where
    rest : List Note
    rest = filter (λ (x : Note). part x.channel) ns

    pick : (b : Bool) → part n.channel ≡ b → AllByRecursion (λ (x : Note). part x.channel ≡ true) rest
        → AllByRecursion (λ (x : Note). part x.channel ≡ true) (cond b (n ∷ rest) rest)
    pick true e g = (e, g)
    pick false e g = g

of_all : (P : Note → Type 0) (ns : List Note) (i : ℕ) → AllByRecursion P ns → i < length ns → P (get_or ns i nobody)
of_all P [] i h l = absurd (omega (arith, l))
of_all P (n ∷ ns) zero h l = h.0
of_all P (n ∷ ns) (suc i) h l = of_all P ns i h.1 (omega (arith, l))

passed_at : (part : ℕ → Bool) (ns : List Note) (i : ℕ) → i < length (filter (λ (n : Note). part n.channel) ns)
    → part (get_or (filter (λ (n : Note). part n.channel) ns) i nobody).channel ≡ true
passed_at part ns i l = of_all (λ (n : Note). part n.channel ≡ true) (filter (λ (n : Note). part n.channel) ns) i (all_pass part ns) l

-- ---- a zone of a port

zone_uses : ZonedLaws → (o : Options) (table : Targets) (es : List MidiEvent) (channel : ℕ → Zone → ℕ → Pair → ℕ) → IsPlannedMpe o table es channel
    → (z : ℕ)
    → IsMpe o table es (zones_on o table es) (zoned_channel (zones_on o table es) channel) → (i : ℕ) (zone : Zone)
    → nth i (zones_on o table es z) ≡ Some zone
    → IsFewestIn o table es (mpe_output o table (zones_on o table es) (zoned_channel (zones_on o table es) channel) es) z zone
zone_uses laws o table es channel planned z b i zone stands =
    let zones = zones_on o table es in
    let given : ℕ → ℕ → Pair → ℕ = zoned_channel zones channel in
    let out = mpe_output o table zones given es in
    let runs = runs_on o table es given z in
    let part : ℕ → Bool = only zone.part in
    let whole : ℕ → Bool = retuned_on o es z in
    let q : Options = on_port o es z in
    let port = port_at es z in
    let ns = of_port z es in
    let last = length es in
    let good = good_zone o (keeps_drums o (events_on z es)) (zones z) (b.ports z).allowed i zone stands in
    let have = planned.plans z i zone stands in
    let plan = have.plan in
    let row = zone_row zone in
    let parts : (c : ℕ) → part c ≡ true → is_part o c ≡ true = λ c e. ap (is_part o) (eqb-true c zone.part e) ∙ good.part in
    let within : (c : ℕ) → part c ≡ true → whole c ≡ true = λ c e. still_part o.keep_drums (has_drums (events_on z es)) c (parts c e) in
    let aimed = laws.using.aimed o part table es z parts b.sound in
    let all_aimed = laws.using.aimed o (is_part o) table es z (λ c e. e) b.sound in
    let timed = timely laws.age port aimed.timed in
    let part_aimed = aimed_as o q part part table ns refl (agree_always part ns) aimed.aimed in
    let whole_aimed = aimed_as o q (is_part o) whole table ns refl (agree_on_port o es z) all_aimed.aimed in
    let read = named_read q part table port (given z) timed part_aimed last last (omega arith) in
    let is : part_channels_read o part es out z ≡ named q part table port (given z) last =
    beside_notes part (retuned_notes whole (after (events_on z es))) (retuned_notes whole (after (events_on z out)))
    ∙ ap (λ ms. beside part ms (channels_of whole z out)) (source_notes o es z whole)
    ∙ ap (beside part (notes_at whole ns last)) (out_channels laws o table es zones given b z
    ∙ planned_named q table port runs timed.ascend refl last)
    ∙ part_named q part whole within table port (given z) timed (λ k. aimed_at q whole table ns whole_aimed k)
    (λ k. (named_read q whole table port (given z) timed whole_aimed k k (omega arith)).all) last in
    let counted = laws.counted o part table es z in
    let same = laws.determined (pairs_on o part table es z) last zone.members (need_of o part table es z).0 have.instant (need_of o part table es z).1
    plan.need counted in
    let many : length row ≡ zone.members = members_length zone 0 zone.members in
    let of_runs : AreOfRuns o part table es z row have.row (part_channels_read o part es out z) =
    λ j l. (let p : Pair = pair_at q part table port last j in
    let k : ℕ = began_at part ns last j in
    let mine : p.part.channel ≡ zone.part = eqb-true p.part.channel zone.part (passed_at part (music_at ns last).notes j l) in
    ap (λ cs. get_or cs j 0) is ∙ read.each j l
    ∙ ap (in_its_zone (channel z) k p) (ap (λ c. zone_of c (zones z)) mine ∙ good.found)
    ∙ plan.given k p mine) in
    record {
      channels = uses_fewest laws.using o part table es z zone.members (need_of o part table es z).1 row have.row (part_channels_read o part es out z)
          parts b.sound (subst (λ n. IsNeedOf o part table es z n (need_of o part table es z).1) (sym same.0) counted)
          (laws.free o part table es z zone.members have.row plan.takes) many (row_apart zone good.few) (ap length is ∙ read.all) of_runs;
      place = have.row;
      chosen = plan.takes;
      runs = of_runs;
    }

pub zoned_uses_fewest : ZonedLaws → ZonedUsesFewest
zoned_uses_fewest laws o table es channel planned z =
    let b = laws.serve o table es channel planned in
    record {
      zones = λ i zone stands. zone_uses laws o table es channel planned z b i zone stands;
      no_other = laws.on_zones o table es (zones_on o table es) (zoned_channel (zones_on o table es) channel) b z;
    }
