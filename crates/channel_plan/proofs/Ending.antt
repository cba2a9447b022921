-- After all events, what was given is what a plan gives.
use Rattle.std.proofs.Common.{◌≡◌, ◌≤◌, ◌<◌, ℕ, zero, suc, List, [], ◌∷◌, Bool, true, false, cond, ◌&&◌, ◌||◌, Option, Some, None, length, map, take, nat_eq, refl, sym, ap, ◌∙◌, subst, arith}
use Rattle.std.specs.Prelude.{◌↔◌, is_some, IsSome, slice_get}
use Rattle.std.specs.List.{AllByRecursion}
use Rattle.std.proofs.lemmas.Bool.{eqb-true, eq-eqb, and_parts, both_ways}
use Rattle.std.proofs.lemmas.List.{length-map, length-take-le}
use Rattle.mt_base.specs.Midi.{MidiEvent, MidiWhat, Says, SysexOf, MetaOf}
use Rattle.mt_base.specs.declared.event.Msg.TheVariants.{NoteOn, NoteOff, KeyPressure, Control, Program, Pressure, Bend}
use Rattle.retune_model.specs.Options.{Options, Route, ByDump, ByLive, ByBend, ByMpe, bends_notes}
use Rattle.retune_model.specs.Ports.{events_on, port_at, event_at}
use Rattle.retune_model.specs.PlaysTheSame.{begins_note, bend_target_if}
use Rattle.retune_model.specs.Table.{BendTarget}
use Rattle.retune_model.specs.Faults.{Targets, is_part, is_bend}
use Rattle.retune_model.specs.Pairs.{Pair, is_same_pair, pair_if}
use Rattle.retune_model.specs.Places.{nth}
use Rattle.retune_model.specs.Rests.{begun_at, begun_pair, begun_pairs}
use Rattle.retune_model.specs.Runs.{begins}
use Rattle.retune_model.specs.SourceFaults.{IsSound, IsFaultless}
use Rattle.retune_model.specs.PortNeed.{AreParts, IsNeedOf, need_of, pairs_on}
use Rattle.retune_model.specs.NeedLaws.{CountingFindsNeed}
use Rattle.retune_model.specs.Dump.{has_note_on, parts_with_notes}
use Rattle.channel_model.specs.Choice.{setup_length, member_setup, TakesBest}
use Rattle.channel_model.specs.MpeOutput.{Zone as ZoneOf}
use Rattle.channel_model.specs.Refusals.{FitsOn, Fits}
use Rattle.channel_model.specs.Rows.{allowed_row, zone_row, only, zones_on, channel_by, IsBendPlan}
use Rattle.plan_laws.specs.EventLaws.{BegunFollowsEvent}
use Rattle.plan_laws.specs.RunCounts.{NoRunIsCounted, NoneBeginsUnbegun}
use Rattle.plan_laws.specs.Rows.{cost_on}
use Rattle.channel_plan.specs.Passing.{AreAsked, channels_in}
use Rattle.channel_plan.specs.Told.{port_in, or_of, of_note, channel_in}
use Rattle.channel_plan.specs.Planned.{note_ons, notes_to, Begins, targets_by, unbent, runs_to, runs_on, row_of, bend_row, bend_channel, need_told, position_told, zone_position, GivesByBend, GivesInZone, GivesChannels}
use Rattle.channel_plan.specs.Seeing.{seen}
use Rattle.channel_plan.specs.Serving.{head, heads, serves, serves_part, some_serves, RowStands, NotesGiven}
use Rattle.channel_plan.specs.Giving.{Gives, HasChannels, AreHeads, without_runs}
use Rattle.channel_plan.specs.declared.plan.PortPlan.{PortPlan}
use Rattle.channel_plan.specs.declared.plan.Plan.{Plan}
use Rattle.channel_plan.specs.declared.plan.Given.{Given}
use Rattle.channel_plan.specs.declared.rowing.Used.{Used}
use Rattle.channel_plan.proofs.Noting.{none_begun_at, no_parts}
use Rattle.channel_plan.proofs.Heading.{IsZoneOn, zones_fit, parts_are, length_members}

-- the laws that are used
pub record EndLaws : Type 0 where
  pub counted : CountingFindsNeed
  pub follows : BegunFollowsEvent
  pub unbegun : NoneBeginsUnbegun
  pub none : NoRunIsCounted

-- ---- which notes there are

slice_there : {A : Type 0} (xs : List A) (n : ℕ) → n < length xs → is_some (slice_get xs n) ≡ true
slice_there [] n l = absurd (omega (arith, l))
slice_there (x ∷ xs) zero l = refl
slice_there (x ∷ xs) (suc n) l = slice_there xs n (omega (arith, l))

there_slice : {A : Type 0} (xs : List A) (n : ℕ) → is_some (slice_get xs n) ≡ true → n < length xs
there_slice [] n h = absurd (both_ways false refl h)
there_slice (x ∷ xs) zero h = omega (arith)
there_slice (x ∷ xs) (suc n) h = (let l = there_slice xs n h in omega (arith, l))

some_or : (x : Option Given) → is_some (or_of None (λ (g : Given). Some g.channel) x) ≡ is_some x
some_or None = refl
some_or (Some g) = refl

take_all : (es : List MidiEvent) → take (length es) es ≡ es
take_all [] = refl
take_all (e ∷ es) = ap (λ xs. e ∷ xs) (take_all es)

pub notes_told : (gs : List Given) (m : ℕ) → length gs ≡ m → (n : ℕ) → IsSome (or_of None (λ (g : Given). Some g.channel) (of_note gs n)) ↔ ((0 < n)
    × (n ≤ m))
notes_told gs m long zero = ((λ h. absurd (both_ways false refl h)), (λ l. (let z = l.0 in absurd (omega (arith, z)))))
notes_told gs m long (suc n) = (
  (λ h. (let l = there_slice gs n (sym (some_or (slice_get gs n)) ∙ h) in (omega (arith), omega (arith, l, long)))),
  (λ l. some_or (slice_get gs n) ∙ slice_there gs n (let k = l.1 in omega (arith, k, long))),
)

-- ---- a row, as a plan has it

-- of the pairs of these channels of port z, on a row of channels
record Ends (o : Options) (table : Targets) (es : List MidiEvent) (plan : Plan) (z : ℕ) (part : ℕ → Bool) (used : List ℕ) : Type 0 where
  takes : TakesBest (pairs_on o part table es z) (length es) (length used) (cost_on o part table es z (row_of o es plan used)) (row_of o es plan used)
  given : (k : ℕ) (p : Pair) → k ≤ length es → begun_at o part table (port_at es z) k ≡ p ∷ []
      → channel_in plan (notes_to o es k) ≡ Some (channel_by used (row_of o es plan used) (pairs_on o part table es z) k p)

-- where a row serves them
row_ends : (o : Options) (table : Targets) (es : List MidiEvent) (plan : Plan) (u : Used) → RowStands o table es plan.given.items (length es) u
    → Ends o table es plan u.port (channels_in o u.part) u.channels.items
row_ends o table es plan u stands = record {
  takes = subst (λ n. TakesBest (pairs_on o (channels_in o u.part) table es u.port) (length es) n (cost_on o (channels_in o u.part) table es u.port
      row) row)
      (length-map u.places.items seen ∙ stands.ready.long) (stands.stands row (λ b l. refl)).places.takes;
  given = λ k p l begun. stands.given row (λ b m. refl) k p l begun;
}
  where
    row : ℕ → ℕ
    row = row_of o es plan u.channels.items

-- where no note of them begins
silent_ends : EndLaws → (o : Options) (table : Targets) (es : List MidiEvent) (plan : Plan) (z : ℕ) (part : ℕ → Bool) (used : List ℕ)
    → IsSound o table es
    → AreParts o part → has_note_on part (events_on z es) ≡ false → Ends o table es plan z part used
silent_ends laws o table es plan z part used sound parts silent = record {
  takes = record {
    within = λ k p l b. absurd (none k p b);
    free = λ k p l b. absurd (none k p b);
    best = λ k p c l b m f. absurd (none k p b);
  };
  given = λ k p l begun. (let e : ◌≡◌ {A = List Pair} [] (p ∷ []) = sym (none_begun_at o part table es z k silent) ∙ begun in absurd cc);
}
  where
    none : (k : ℕ) (p : Pair) → begins is_same_pair (pairs_on o part table es z) k p ≡ true → ⊥
    none k p b = laws.unbegun o part table es z k p parts sound (none_begun_at o part table es z (suc k) silent) b

-- the row that serves a note
record Serves (o : Options) (allowed : ℕ → Bool) (table : Targets) (es : List MidiEvent) (plan : Plan) (z c : ℕ) : Type 0 where
  used : Used
  stands : RowStands o table es plan.given.items (length es) used
  channels : HasChannels o.route o allowed table es (head used)
  serves : serves (head used) z c ≡ true

served_by : (o : Options) (allowed : ℕ → Bool) (table : Targets) (es : List MidiEvent) (plan : Plan) (z c : ℕ) (rows : List Used)
    → some_serves (heads rows) z c ≡ true
    → AllByRecursion (HasChannels o.route o allowed table es) (heads rows) → AllByRecursion (RowStands o table es plan.given.items (length es)) rows
    → Serves o allowed table es plan z c
served_by o allowed table es plan z c [] s channels stands = absurd (both_ways false refl s)
served_by o allowed table es plan z c (u ∷ rows) s channels stands = pick (serves (head u) z c) refl s (λ t. served_by o allowed table es plan z c
    rows t channels.1 stands.1)
  where
    pick : (b : Bool) → serves (head u) z c ≡ b → b || some_serves (heads rows) z c ≡ true → (some_serves (heads rows) z c ≡ true
        → Serves o allowed table es plan z c)
        → Serves o allowed table es plan z c
    pick true e s more = record { used = u; stands = stands.0; channels = channels.0; serves = e }
    pick false e s more = more s

-- it is of the port and its channels
moved : (o : Options) (table : Targets) (es : List MidiEvent) (plan : Plan) (z : ℕ) (part : Option ℕ) (used : List ℕ) (u : Used) → u.port ≡ z
    → u.part ≡ part
    → u.channels.items ≡ used → Ends o table es plan u.port (channels_in o u.part) u.channels.items → Ends o table es plan z (channels_in o part) used
moved o table es plan z part used u port same channels ends =
    subst (λ cs. Ends o table es plan z (channels_in o part) cs) channels
    (subst (λ q. Ends o table es plan z (channels_in o q) u.channels.items) same
    (subst (λ y. Ends o table es plan y (channels_in o u.part) u.channels.items) port ends))

module _ (laws : EndLaws) (o : Options) (allowed : ℕ → Bool) (table : Targets) (es : List MidiEvent) (plan : Plan) (rows : List Used) (asked :
    AreAsked es) (faultless : IsFaultless o table es)
    (fits : Fits o allowed table es) (are : AreHeads o allowed table es (heads rows)) (stands : AllByRecursion (RowStands o table es plan.given.items
    (length es)) rows) where
  sound : bends_notes o.route ≡ true → IsSound o table es
  sound bends = record { bends = bends; in_order = asked.order; faultless = faultless }

  served : bends_notes o.route ≡ true → (z c : ℕ) → c < 16 → is_part o c ≡ true → has_note_on (λ d. nat_eq d c) (events_on z es) ≡ true
      → Serves o allowed table es plan z c
  served bends z c l part on = served_by o allowed table es plan z c rows (are.served bends z c l part on) are.channels stands

  port_of_it : (z c : ℕ) (s : Serves o allowed table es plan z c) → s.used.port ≡ z
  port_of_it z c s = eqb-true s.used.port z (and_parts (nat_eq s.used.port z) (serves_part s.used.part c) s.serves).0

  -- on bend
  bend_ends : o.route ≡ ByBend → (z : ℕ) → Ends o table es plan z (is_part o) (bend_row o allowed table es z)
  bend_ends route z = pick (parts_with_notes o (events_on z es)) refl (parts_are o table es z)
    where
      bends : bends_notes o.route ≡ true
      bends = ap bends_notes route

      On : ℕ → Type 0
      On c = (c < 16) × (is_part o c && has_note_on (λ d. nat_eq d c) (events_on z es) ≡ true)

      pick : (cs : List ℕ) → parts_with_notes o (events_on z es) ≡ cs → AllByRecursion On (parts_with_notes o (events_on z es))
          → Ends o table es plan z (is_part o) (bend_row o allowed table es z)
      pick [] e on = silent_ends laws o table es plan z (is_part o) (bend_row o allowed table es z) (sound bends) (λ c h. h) (no_parts o es z
          asked.valid e)
      pick (c ∷ cs) e on =
          let here : On c = (let all : AllByRecursion On (c ∷ cs) = subst (AllByRecursion On) e on in all.0) in
          let both = and_parts (is_part o c) (has_note_on (λ d. nat_eq d c) (events_on z es)) here.1 in
          let it = served bends z c here.0 both.0 both.1 in
          let has : HasChannels ByBend o allowed table es (head it.used) = subst (λ r. HasChannels r o allowed table es (head it.used)) route
          it.channels in
          let port = port_of_it z c it in
          moved o table es plan z None (bend_row o allowed table es z) it.used port has.0 (has.1 ∙ ap (bend_row o allowed table es) port)
          (row_ends o table es plan it.used it.stands)

  -- on MPE
  zone_ends : o.route ≡ ByMpe → (z i : ℕ) (zone : ZoneOf) → nth i (zones_on o table es z) ≡ Some zone → IsZoneOn o table es z zone
      → Ends o table es plan z (only zone.part) (zone_row zone)
  zone_ends route z i zone there is =
      let it = served (ap bends_notes route) z zone.part is.low is.part is.noted in
      let has : HasChannels ByMpe o allowed table es (head it.used) = subst (λ r. HasChannels r o allowed table es (head it.used)) route it.channels
      in
      let port = port_of_it z zone.part it in
      let part = part_is it.used.part has.0 (and_parts (nat_eq it.used.port z) (serves_part it.used.part zone.part) it.serves).1 in
      moved o table es plan z (Some zone.part) (zone_row zone) it.used port part
      (has.1 zone i (subst (λ y. nth i (zones_on o table es y) ≡ Some zone) (sym port) there) part)
      (row_ends o table es plan it.used it.stands)
    where
      part_is : (q : Option ℕ) → IsSome q → serves_part q zone.part ≡ true → q ≡ Some zone.part
      part_is None some s = absurd (both_ways false refl some)
      part_is (Some d) some s = ap Some (eqb-true d zone.part s)

-- ---- a note of one part

pair_only : (z c d : ℕ) (t : Option BendTarget) (p : Pair) (a : Bool) → cond a (pair_if z c t []) [] ≡ p ∷ [] → p.part.channel ≡ d
    → (cond (nat_eq c d) (pair_if z c t []) [] ≡ p ∷ [])
pair_only z c d t p false h e = (let f : ◌≡◌ {A = List Pair} [] (p ∷ []) = h in absurd cc)
pair_only z c d None p true h e = (let f : ◌≡◌ {A = List Pair} [] (p ∷ []) = h in absurd cc)
pair_only z c d (Some t) p true h e =
    let same : record { part = record { port = z; channel = c }; steps = t.steps } ≡ p = cc in
    ap (λ b. cond b (pair_if z c (Some t) []) []) (eq-eqb c d (ap (λ q. q.part.channel) same ∙ e)) ∙ h

begun_only : (z d : ℕ) (o : Options) (table : Targets) (t : ℕ) (w : MidiWhat) (p : Pair) → begun_pair z o (is_part o) table t w ≡ p ∷ []
    → p.part.channel ≡ d
    → begun_pair z o (only d) table t w ≡ p ∷ []
begun_only z d o table t (Says (NoteOn c k (suc v))) p h e = pair_only z c d (bend_target_if o.range (table k t)) p (is_part o c) h e
begun_only z d o table t (Says (NoteOn c k zero)) p h e = h
begun_only z d o table t (Says (NoteOff c k v)) p h e = h
begun_only z d o table t (Says (KeyPressure c k v)) p h e = h
begun_only z d o table t (Says (Control c k v)) p h e = h
begun_only z d o table t (Says (Program c v)) p h e = h
begun_only z d o table t (Says (Pressure c v)) p h e = h
begun_only z d o table t (Says (Bend c v)) p h e = h
begun_only z d o table t (SysexOf lead bytes) p h e = h
begun_only z d o table t (MetaOf kind bytes) p h e = h

begins_only : (z d : ℕ) (o : Options) (table : Targets) (es : List MidiEvent) (p : Pair) → begun_pairs z o (is_part o) table es ≡ p ∷ []
    → p.part.channel ≡ d
    → begun_pairs z o (only d) table es ≡ p ∷ []
begins_only z d o table [] p h e = h
begins_only z d o table (x ∷ xs) p h e = begun_only z d o table x.tick x.what p h e

-- ---- runs

no_notes : (o : Options) (es : List MidiEvent) → has_note_on (is_part o) es ≡ false → note_ons o es ≡ []
no_notes o [] h = refl
no_notes o (e ∷ es) h = pick (begins_note (is_part o) e.what) h (λ g. no_notes o es g)
  where
    pick : (b : Bool) → b || has_note_on (is_part o) es ≡ false → (has_note_on (is_part o) es ≡ false → note_ons o es ≡ [])
        → cond b (e ∷ note_ons o es) (note_ons o es) ≡ []
    pick true h more = absurd (both_ways false refl (sym h))
    pick false h more = more h

no_runs : EndLaws → (o : Options) (table : Targets) (es : List MidiEvent) (z : ℕ) → IsSound o table es
    → has_note_on (is_part o) (events_on z es) ≡ false
    → (k : ℕ) → runs_to (pairs_on o (is_part o) table es z) k ≡ 0
no_runs laws o table es z sound silent zero = refl
no_runs laws o table es z sound silent (suc k) =
    let before = no_runs laws o table es z sound silent k in
    let none = ap length (laws.none o table es z k sound (none_begun_at o (is_part o) table es z (suc k) silent)) in
    omega (arith, before, none)

count_in : (ps : List PortPlan) (z : ℕ) (runs : ℕ → ℕ) → AllByRecursion (λ (p : PortPlan). p.runs ≡ runs p.number) ps → (port_in ps z ≡ None
    → 0 ≡ runs z)
    → or_of 0 (λ p. p.runs) (port_in ps z) ≡ runs z
count_in [] z runs all none = none refl
count_in (p ∷ ps) z runs all none = pick (nat_eq p.number z) refl none (λ n. count_in ps z runs all.1 n)
  where
    pick : (b : Bool) → nat_eq p.number z ≡ b → (cond b (Some p) (port_in ps z) ≡ None → 0 ≡ runs z) → ((port_in ps z ≡ None → 0 ≡ runs z)
        → or_of 0 (λ p. p.runs) (port_in ps z) ≡ runs z)
        → or_of 0 (λ p. p.runs) (cond b (Some p) (port_in ps z)) ≡ runs z
    pick true e n more = all.0 ∙ ap runs (eqb-true p.number z e)
    pick false e n more = more n

-- ports that count their runs stand where they stood
pub silent_still : (X : ℕ → Type 0) (ps qs : List PortPlan) → map without_runs qs ≡ map without_runs ps → ((z : ℕ) → port_in ps z ≡ None → X z)
    → (z : ℕ)
    → port_in qs z ≡ None → X z
silent_still X ps qs same silent z none = silent z (none_of (port_in ps z) (sym (is_there ps z) ∙ ap (λ xs. is_some (port_in xs z)) (sym same)
    ∙ is_there qs z ∙ ap is_some none))
  where
    is_there : (xs : List PortPlan) (z : ℕ) → is_some (port_in (map without_runs xs) z) ≡ is_some (port_in xs z)
    is_there [] z = refl
    is_there (x ∷ xs) z = pick (nat_eq x.number z) (is_there xs z)
      where
        pick : (b : Bool) → is_some (port_in (map without_runs xs) z) ≡ is_some (port_in xs z)
            → is_some (cond b (Some (without_runs x)) (port_in (map without_runs xs) z)) ≡ is_some (cond b (Some x) (port_in xs z))
        pick true h = refl
        pick false h = h

    none_of : (x : Option PortPlan) → is_some x ≡ false → x ≡ None
    none_of None h = refl
    none_of (Some p) h = absurd (both_ways true h refl)

-- ---- what is given

each_nth : {A : Type 0} (P : A → Type 0) (xs : List A) (i : ℕ) (x : A) → AllByRecursion P xs → nth i xs ≡ Some x → P x
each_nth P [] i x all there = absurd cc
each_nth P (y ∷ ys) zero x all there = (let same : y ≡ x = cc in subst P same all.0)
each_nth P (y ∷ ys) (suc i) x all there = each_nth P ys i x all.1 there

module _ (laws : EndLaws) (o : Options) (allowed : ℕ → Bool) (table : Targets) (es : List MidiEvent) (plan : Plan) (rows : List Used) (asked :
    AreAsked es) (faultless : IsFaultless o table es)
    (fits : Fits o allowed table es) (are : AreHeads o allowed table es (heads rows)) (stands : AllByRecursion (RowStands o table es plan.given.items
    (length es)) rows) where
  follows : (by : Targets) (z k : ℕ) (p : Pair) → begun_at o (is_part o) by (port_at es z) k ≡ p ∷ [] → k ≤ length es
  follows by z k p begun = (let f = laws.follows o (is_part o) by es z k p begun in let e = f.is in let l = f.within in omega (arith, e, l))

  by_table : bends_notes o.route ≡ true → (z k : ℕ) (p : Pair) → Begins o table es z k p → begun_at o (is_part o) table (port_at es z) k ≡ p ∷ []
  by_table bends z k p begun = ap (λ b. begun_at o (is_part o) (cond b table unbent) (port_at es z) k) (sym bends) ∙ begun

  by_bend : o.route ≡ ByBend → (z : ℕ) → GivesByBend o allowed table es plan z
  by_bend route z = record {
    chosen = subst (λ n. IsBendPlan o allowed table es z n (position_told o table es z) row channel) (sym needs)
        (subst (λ i. IsBendPlan o allowed table es z need.0 i row channel) (sym position) plain);
    given = λ k p begun. ends.given k p (follows (targets_by o table) z k p begun) (by_table (ap bends_notes route) z k p begun);
  }
    where
      need : ℕ × ℕ
      need = need_of o (is_part o) table es z

      bend : is_bend o.route ≡ true
      bend = ap is_bend route

      needs : need_told o table es z ≡ need.0
      needs = ap (λ b. cond b need.0 0) bend

      position : position_told o table es z ≡ need.1
      position = ap (λ b. cond b need.1 0) bend

      row : ℕ → ℕ
      row = row_of o es plan (bend_row o allowed table es z)

      channel : ℕ → Pair → ℕ
      channel = bend_channel o allowed table es plan z

      ends : Ends o table es plan z (is_part o) (bend_row o allowed table es z)
      ends = bend_ends laws o allowed table es plan rows asked faultless fits are stands route z

      within : need.0 ≤ length (allowed_row o allowed)
      within = (let all : FitsOn ByBend o allowed table es = subst (λ r. FitsOn r o allowed table es) route fits in
          all z need.0 need.1 (laws.counted o (is_part o) table es z))

      plain : IsBendPlan o allowed table es z need.0 need.1 row channel
      plain = record {
        need = laws.counted o (is_part o) table es z;
        within = within;
        takes = subst (λ cost. TakesBest (pairs_on o (is_part o) table es z) (length es) need.0 cost row)
            (ap (λ b. λ p c k. cond b (setup_length o table (port_at es z) row p c k) (member_setup (port_at es z) (pairs_on o (is_part o) table es
            z) row p c k)) bend)
            (subst (λ n. TakesBest (pairs_on o (is_part o) table es z) (length es) n (cost_on o (is_part o) table es z row) row)
            (length-take-le need.0 (allowed_row o allowed) within) ends.takes);
        given = λ k p. refl;
      }

  in_zone : o.route ≡ ByMpe → (z i : ℕ) (zone : ZoneOf) → nth i (zones_on o table es z) ≡ Some zone → GivesInZone o table es plan z zone
  in_zone route z i zone there = record {
    chosen = record {
      need = subst (λ n. IsNeedOf o (only zone.part) table es z n (zone_position o table es z zone)) (sym is.need) (laws.counted o (only zone.part)
          table es z);
      takes = subst (λ cost. TakesBest (pairs_on o (only zone.part) table es z) (length es) zone.members cost row)
          (ap (λ b. λ p c k. cond b (setup_length o table (port_at es z) row p c k) (member_setup (port_at es z) (pairs_on o (only zone.part) table
          es z) row p c k)) (ap is_bend route))
          (subst (λ n. TakesBest (pairs_on o (only zone.part) table es z) (length es) n (cost_on o (only zone.part) table es z row) row)
          (length_members zone 0 zone.members) ends.takes);
      given = λ k p part. refl;
    };
    given = λ k p part begun. ends.given k p (follows (targets_by o table) z k p begun)
        (begins_only z zone.part o table (event_at (port_at es z).events k) p (by_table (ap bends_notes route) z k p begun) part);
  }
    where
      row : ℕ → ℕ
      row = row_of o es plan (zone_row zone)

      is : IsZoneOn o table es z zone
      is = (let all : FitsOn ByMpe o allowed table es = subst (λ r. FitsOn r o allowed table es) route fits in
          each_nth (IsZoneOn o table es z) (zones_on o table es z) i zone (zones_fit o table es z laws.counted (all z).0 (all z).1) there)

      ends : Ends o table es plan z (only zone.part) (zone_row zone)
      ends = zone_ends laws o allowed table es plan rows asked faultless fits are stands route z i zone there is

  pub ending : ((z : ℕ) → port_in plan.ports.items z ≡ None → has_note_on (is_part o) (events_on z es) ≡ false)
      → NotesGiven o table es (length es) plan.ports.items plan.given.items plan.runs.items → Gives o allowed table es plan
  ending silent notes = record {
    channels = by_route o.route refl;
    notes = notes_told plan.given.items (length (note_ons o es)) (notes.given ∙ ap (λ xs. length (note_ons o xs)) (take_all es));
    runs = λ z k p begun. notes.runs z k p (follows (targets_by o table) z k p begun) begun;
    run_count = λ z. count_in plan.ports.items z (λ y. runs_on o table es y (length es)) notes.counted (λ none. sym (runless (bends_notes o.route)
        refl z (silent z none)));
  }
    where
      own : bends_notes o.route ≡ false → (z k : ℕ) (p : Pair) → Begins o table es z k p → channel_in plan (notes_to o es k) ≡ Some p.part.channel
      own none z k p begun = notes.own none z k p (follows (targets_by o table) z k p begun) begun

      by_route : (r : Route) → o.route ≡ r → GivesChannels r o allowed table es plan
      by_route ByDump e = own (ap bends_notes e)
      by_route ByLive e = own (ap bends_notes e)
      by_route ByBend e = by_bend e
      by_route ByMpe e = in_zone e

      runless : (b : Bool) → bends_notes o.route ≡ b → (z : ℕ) → has_note_on (is_part o) (events_on z es) ≡ false
          → runs_on o table es z (length es) ≡ 0
      runless true e z none = ap (λ b. cond b (runs_to (pairs_on o (is_part o) table es z) (length es)) (length (note_ons o (events_on z (take
          (length es) es))))) e
          ∙ no_runs laws o table es z (record { bends = e; in_order = asked.order; faultless = faultless }) none (length es)
      runless false e z none = ap (λ b. cond b (runs_to (pairs_on o (is_part o) table es z) (length es)) (length (note_ons o (events_on z (take
          (length es) es))))) e
          ∙ ap (λ xs. length (note_ons o (events_on z xs))) (take_all es) ∙ ap length (no_notes o (events_on z es) none)
