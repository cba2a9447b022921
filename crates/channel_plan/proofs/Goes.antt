-- What is given to the notes of a source, event by event.
use Rattle.std.proofs.Common.{◌≡◌, ◌≤◌, ◌<◌, ◌++◌, ℕ, suc, List, [], ◌∷◌, Bool, true, false, cond, ◌&&◌, Option, Some, None, length, map, take, nat_eq, refl, sym, ap, ◌∙◌, subst, arith, inl, inr}
use Rattle.std.specs.List.{AllByRecursion}
use Rattle.std.proofs.lemmas.Bool.{cases_lt, both_ways, eqb-true, eq-eqb, cond-true, cond-false, false_from_ne_true}
use Rattle.std.proofs.lemmas.List.{length-append}
use mathlib.Core.List.{append_assoc}
use Rattle.mt_base.specs.Midi.{MidiWhat, SysexOf, Says, MetaOf, MidiEvent}
use Rattle.midi_model.specs.Sysex.{doing, is_reset, Retune, Resets, Nothing, tunes, tuning_of}
use Rattle.retune_model.specs.Options.{Options, Route, ByDump, ByLive, ByBend, ByMpe, bends_notes}
use Rattle.retune_model.specs.Ports.{port_at, events_on, resets}
use Rattle.retune_model.specs.Faults.{Targets, is_part}
use Rattle.retune_model.specs.Pairs.{Pair, is_same_pair}
use Rattle.retune_model.specs.Rests.{begun_at}
use Rattle.retune_model.specs.Runs.{since}
use Rattle.retune_model.specs.PortNeed.{pairs_on}
use Rattle.retune_model.specs.SourceFaults.{IsSound, IsFaultless, fault_at}
use Rattle.plan_laws.specs.EventLaws.{BegunFollowsEvent}
use Rattle.plan_laws.specs.RunCounts.{NoRunIsCounted}
use Rattle.lifetimes.specs.Views.{fault_of}
use Rattle.lifetimes.specs.Told.{source_of}
use Rattle.lifetimes.specs.declared.fault.StepFault.{StepFault}
use Rattle.lifetimes.specs.declared.fault.StepFault.TheVariants.{Source}
use Rattle.lifetimes.specs.declared.fault.SourceFault.{SourceFault}
use Rattle.channel_plan.specs.Finding.{ArePlanned}
use Rattle.channel_plan.specs.Passing.{channels_in}
use Rattle.channel_plan.specs.Told.{or_of, of_note, port_in}
use Rattle.channel_plan.specs.Planned.{Begins, note_ons, notes_to, runs_on, runs_to, run_told, number_at, unbent, targets_by}
use Rattle.channel_plan.specs.Serving.{Head, head, heads, RowStands, RowFreed, BeginsNote, BeginsNothing, IsGiven, NotesGiven, channel_of_note, given_as}
use Rattle.channel_plan.specs.Giving.{without_runs, with_run, HasChannels, AreHeads, ServesAll, is_reset_by, Goes, GoesFreed}
use Rattle.channel_plan.specs.declared.plan.Given.{Given}
use Rattle.channel_plan.specs.declared.plan.PortPlan.{PortPlan}
use Rattle.channel_plan.specs.declared.rowing.Used.{Used}
use Rattle.channel_plan.specs.declared.giving.Giving.{Giving}
use Rattle.channel_plan.specs.declared.serving.Chosen.{Chosen}
use Rattle.channel_plan.proofs.Each.{each_map}
use Rattle.channel_plan.proofs.Served.{fewer_notes, note_same, note_last, channel_same, channel_last}

-- ---- a reset

pub reset_is : (w : MidiWhat) → is_reset_by w ≡ resets (doing w)
reset_is (Says m) = refl
reset_is (MetaOf kind bytes) = refl
reset_is (SysexOf lead bytes) = pick (nat_eq lead 240) (is_reset bytes)
  where
    none : (x : Option Retune) → false ≡ resets (tunes x)
    none None = refl
    none (Some r) = refl

    pick : (a b : Bool) → (a && b) ≡ resets (cond a (cond b Resets (tunes (tuning_of bytes))) Nothing)
    pick true true = refl
    pick true false = none (tuning_of bytes)
    pick false b = refl

-- ---- the plans of ports

pub each_mapped : {A : Type 0} (P Q : A → Type 0) (f : A → A) (xs : List A) → ((x : A) → P x → Q (f x)) → AllByRecursion P xs
    → AllByRecursion Q (map f xs)
each_mapped P Q f [] h all = tt
each_mapped P Q f (x ∷ xs) h all = (h x all.0, each_mapped P Q f xs h all.1)

none_plain : (ports : List PortPlan) (z : ℕ) → port_in ports z ≡ None → port_in (map without_runs ports) z ≡ None
none_plain [] z h = refl
none_plain (p ∷ ps) z h = pick (λ g. none_plain ps z g) (nat_eq p.number z) h
  where
    pick : (port_in ps z ≡ None → port_in (map without_runs ps) z ≡ None) → (b : Bool) → cond b (Some p) (port_in ps z) ≡ None
        → cond b (Some (without_runs p)) (port_in (map without_runs ps) z) ≡ None
    pick deeper true g = absurd cc
    pick deeper false g = deeper g

plain_none : (ports : List PortPlan) (z : ℕ) → port_in (map without_runs ports) z ≡ None → port_in ports z ≡ None
plain_none [] z h = refl
plain_none (p ∷ ps) z h = pick (λ g. plain_none ps z g) (nat_eq p.number z) h
  where
    pick : (port_in (map without_runs ps) z ≡ None → port_in ps z ≡ None) → (b : Bool)
        → cond b (Some (without_runs p)) (port_in (map without_runs ps) z) ≡ None
        → cond b (Some p) (port_in ps z) ≡ None
    pick deeper true g = absurd cc
    pick deeper false g = deeper g

pub none_still : (old new : List PortPlan) (z : ℕ) → map without_runs new ≡ map without_runs old → port_in new z ≡ None → port_in old z ≡ None
none_still old new z same h = plain_none old z (ap (λ ps. port_in ps z) (sym same) ∙ none_plain new z h)

pub run_leaves : (z : ℕ) (ports : List PortPlan) → map without_runs (map (with_run z) ports) ≡ map without_runs ports
run_leaves z [] = refl
run_leaves z (p ∷ ps) = ap (λ q. q ∷ map without_runs (map (with_run z) ps)) (pick (nat_eq p.number z))
    ∙ ap (λ qs. without_runs p ∷ qs) (run_leaves z ps)
  where
    pick : (b : Bool) → without_runs (cond b (record p { runs = suc p.runs }) p) ≡ without_runs p
    pick true = refl
    pick false = refl

module _ (o : Options) (table : Targets) (es : List MidiEvent) (k : ℕ) where
  pub next_is : (ports : List PortPlan) (z : ℕ) → AllByRecursion (λ (p : PortPlan). p.runs ≡ runs_on o table es p.number k) ports
      → (port_in ports z ≡ None → ⊥)
      → or_of 0 (λ p. p.runs) (port_in ports z) ≡ runs_on o table es z k
  next_is [] z all some = absurd (some refl)
  next_is (p ∷ ps) z all some = pick (λ h. next_is ps z all.1 h) (nat_eq p.number z) refl some
    where
      pick : ((port_in ps z ≡ None → ⊥) → or_of 0 (λ q. q.runs) (port_in ps z) ≡ runs_on o table es z k) → (b : Bool) → nat_eq p.number z ≡ b
          → (cond b (Some p) (port_in ps z) ≡ None → ⊥) → or_of 0 (λ q. q.runs) (cond b (Some p) (port_in ps z)) ≡ runs_on o table es z k
      pick deeper true h g = all.0 ∙ ap (λ y. runs_on o table es y k) (eqb-true p.number z h)
      pick deeper false h g = deeper g

  -- where no note begins on a port
  still : NoRunIsCounted → (z : ℕ) → (bends_notes o.route ≡ true → IsSound o table es)
      → (bends_notes o.route ≡ true → begun_at o (is_part o) table (port_at es z) (suc k) ≡ [])
      → (bends_notes o.route ≡ false → runs_on o table es z (suc k) ≡ runs_on o table es z k) → runs_on o table es z (suc k) ≡ runs_on o table es z k
  still law z sound none own = pick (bends_notes o.route) refl
    where
      bent : bends_notes o.route ≡ true → (j : ℕ) → runs_on o table es z j ≡ runs_to (pairs_on o (is_part o) table es z) j
      bent h j = cond-true (bends_notes o.route) (runs_to (pairs_on o (is_part o) table es z) j) (length (note_ons o (events_on z (take j es)))) h

      pick : (b : Bool) → bends_notes o.route ≡ b → runs_on o table es z (suc k) ≡ runs_on o table es z k
      pick true h = bent h (suc k) ∙ (let e = ap length (law o table es z k (sound h) (none h)) in let s = bent h k in omega (arith, e, s))
      pick false h = own h

  -- ---- a note begins

  module _ (e : MidiEvent) (p : Pair) (begins : BeginsNote o table es k e p) (sound : bends_notes o.route ≡ true
      → IsSound o table es) (law : NoRunIsCounted) where
    others_stay : (y : ℕ) → nat_eq p.part.port y ≡ false → runs_on o table es y (suc k) ≡ runs_on o table es y k
    others_stay y apart = still law y sound
        (λ h. begins.begun h (is_part o) y (λ c t. t) ∙ ap (λ b. cond (b && is_part o p.part.channel) (p ∷ []) []) apart)
        (λ h. begins.runs h y ∙ cond-false (nat_eq p.part.port y) (suc (runs_on o table es y k)) (runs_on o table es y k) apart)

    turned : (x y : ℕ) → nat_eq x y ≡ false → nat_eq y x ≡ false
    turned x y h = false_from_ne_true (nat_eq y x) (λ t. both_ways (nat_eq x y) h (eq-eqb x y (sym (eqb-true y x t))))

    module _ (x : Chosen) (given : IsGiven o table es k p x) where
      counted_new : x.is_new ≡ true → (q : PortPlan) → q.runs ≡ runs_on o table es q.number k
          → (with_run p.part.port q).runs ≡ runs_on o table es (with_run p.part.port q).number (suc k)
      counted_new new q h = pick (nat_eq q.number p.part.port) refl
        where
          pick : (b : Bool) → nat_eq q.number p.part.port ≡ b
              → (cond b (record q { runs = suc q.runs }) q).runs ≡ runs_on o table es (cond b (record q { runs = suc q.runs }) q).number (suc k)
          pick true s = ap suc (h ∙ ap (λ y. runs_on o table es y k) (eqb-true q.number p.part.port s))
              ∙ sym (given.count ∙ cond-true x.is_new (suc (runs_on o table es p.part.port k)) (runs_on o table es p.part.port k) new)
              ∙ ap (λ y. runs_on o table es y (suc k)) (sym (eqb-true q.number p.part.port s))
          pick false s = h ∙ sym (others_stay q.number (turned q.number p.part.port s))

      counted_old : x.is_new ≡ false → (q : PortPlan) → q.runs ≡ runs_on o table es q.number k → q.runs ≡ runs_on o table es q.number (suc k)
      counted_old old q h = pick (nat_eq q.number p.part.port) refl
        where
          pick : (b : Bool) → nat_eq q.number p.part.port ≡ b → q.runs ≡ runs_on o table es q.number (suc k)
          pick true s = h ∙ ap (λ y. runs_on o table es y k) (eqb-true q.number p.part.port s)
              ∙ sym (given.count ∙ cond-false x.is_new (suc (runs_on o table es p.part.port k)) (runs_on o table es p.part.port k) old)
              ∙ ap (λ y. runs_on o table es y (suc k)) (sym (eqb-true q.number p.part.port s))
          pick false s = h ∙ sym (others_stay q.number (turned q.number p.part.port s))

      few_new : (q : PortPlan) → q.runs ≤ k → (with_run p.part.port q).runs ≤ suc k
      few_new q h = pick (nat_eq q.number p.part.port)
        where
          pick : (b : Bool) → (cond b (record q { runs = suc q.runs }) q).runs ≤ suc k
          pick true = omega (arith, h)
          pick false = omega (arith, h)

      -- the note that begins has the run that it is given
      run_there : (z : ℕ) (q : Pair) → Begins o table es z (suc k) q → x.run ≡ run_told o table es z (suc k) q
      run_there z q begun = given.run ∙ pick (bends_notes o.route) refl
        where
          pick : (b : Bool) → bends_notes o.route ≡ b → run_told o table es p.part.port (suc k) p ≡ run_told o table es z (suc k) q
          pick true h = found (nat_eq p.part.port z) (is_part o p.part.channel) refl
              (sym (begins.begun h (is_part o) z (λ c t. t))
              ∙ ap (λ t. begun_at o (is_part o) t (port_at es z) (suc k)) (sym (cond-true (bends_notes o.route) table unbent h)) ∙ begun)
            where
              found : (a d : Bool) → nat_eq p.part.port z ≡ a → cond (a && d) (p ∷ []) [] ≡ q ∷ []
                  → run_told o table es p.part.port (suc k) p ≡ run_told o table es z (suc k) q
              found true true s g = (let r : p ≡ q = cc in
                  ap (λ y. run_told o table es y (suc k) p) (eqb-true p.part.port z s) ∙ ap (run_told o table es z (suc k)) r)
              found true false s g = absurd cc
              found false d s g = absurd cc
          pick false h = (let own = begins.own h z q begun in
              ap (number_at (runs_on o table es p.part.port)) (cond-false (bends_notes o.route) (since is_same_pair (pairs_on o
              (is_part o) table es p.part.port) p (suc k)) (suc k) h)
              ∙ ap (λ y. runs_on o table es y k) (sym own.0)
              ∙ ap (number_at (runs_on o table es z)) (sym (cond-false (bends_notes o.route) (since is_same_pair (pairs_on o (is_part o) table es z) q
              (suc k)) (suc k) h)))

      pub notes_more : (old new : List PortPlan) (gs : List Given) (rs : List ℕ) → NotesGiven o table es k old gs rs
          → AllByRecursion (λ (q : PortPlan). q.runs ≡ runs_on o table es q.number (suc k)) new
          → AllByRecursion (λ (q : PortPlan). q.runs ≤ suc k) new
          → NotesGiven o table es (suc k) new (gs ++ given_as p x ∷ []) (rs ++ x.run ∷ [])
      notes_more old new gs rs was counted few = record {
        given = length-append gs (given_as p x ∷ []) ∙ (let a = was.given in let b = begins.counted in omega (arith, a, b));
        numbered = length-append rs (x.run ∷ []) ∙ (let a = was.numbered in let b = begins.counted in omega (arith, a, b));
        counted = counted;
        few = few;
        own = λ h z j q le begun. elim (cases_lt j (suc k)) [
          | inl l ↦ (let fewer = fewer_notes o es j k (omega (arith, l)) in let a = was.given in
              channel_same gs (given_as p x) (notes_to o es j) (omega (arith, fewer, a)) ∙ was.own h z j q (omega (arith, l)) begun)
          | inr l ↦ (let s : j ≡ suc k = omega (arith, l, le) in
              ap (λ n. channel_of_note (gs ++ given_as p x ∷ []) (notes_to o es n)) s
              ∙ channel_last gs (given_as p x) (notes_to o es (suc k)) (begins.counted ∙ ap suc (sym was.given))
              ∙ ap Some (given.own h ∙ sym (begins.own h z q (subst (λ n. Begins o table es z n q) s begun)).1))
        ];
        runs = λ z j q le begun. elim (cases_lt j (suc k)) [
          | inl l ↦ (let fewer = fewer_notes o es j k (omega (arith, l)) in let a = was.numbered in
              note_same rs x.run (notes_to o es j) (omega (arith, fewer, a)) ∙ was.runs z j q (omega (arith, l)) begun)
          | inr l ↦ (let s : j ≡ suc k = omega (arith, l, le) in
              ap (λ n. of_note (rs ++ x.run ∷ []) (notes_to o es n)) s
              ∙ note_last rs x.run (notes_to o es (suc k)) (begins.counted ∙ ap suc (sym was.numbered))
              ∙ ap Some (run_there z q (subst (λ n. Begins o table es z n q) s begun))
              ∙ ap (λ n. Some (run_told o table es z n q)) (sym s))
        ];
      }

      pub notes_new : (ports : List PortPlan) (gs : List Given) (rs : List ℕ) → NotesGiven o table es k ports gs rs → x.is_new ≡ true
          → NotesGiven o table es (suc k) (map (with_run p.part.port) ports) (gs ++ given_as p x ∷ []) (rs ++ x.run ∷ [])
      notes_new ports gs rs was new = notes_more ports (map (with_run p.part.port) ports) gs rs was
          (each_mapped (λ (q : PortPlan). q.runs ≡ runs_on o table es q.number k) (λ (q : PortPlan). q.runs
          ≡ runs_on o table es q.number (suc k)) (with_run p.part.port) ports
          (counted_new new) was.counted)
          (each_mapped (λ (q : PortPlan). q.runs ≤ k) (λ (q : PortPlan). q.runs ≤ suc k) (with_run p.part.port) ports few_new was.few)

      pub notes_old : (ports : List PortPlan) (gs : List Given) (rs : List ℕ) → NotesGiven o table es k ports gs rs → x.is_new ≡ false
          → NotesGiven o table es (suc k) ports (gs ++ given_as p x ∷ []) (rs ++ x.run ∷ [])
      notes_old ports gs rs was old = notes_more ports ports gs rs was
          (each_map (λ (q : PortPlan). q.runs ≡ runs_on o table es q.number k) (λ (q : PortPlan). q.runs
          ≡ runs_on o table es q.number (suc k)) ports (counted_old old) was.counted)
          (each_map (λ (q : PortPlan). q.runs ≤ k) (λ (q : PortPlan). q.runs ≤ suc k) ports (λ q h. omega (arith, h)) was.few)

  -- ---- no note begins

  pub quiet : NoRunIsCounted → (bends_notes o.route ≡ true → IsSound o table es) → BeginsNothing o table es k → (ports : List PortPlan) (g : Giving)
      → GoesFreed o table es k ports g → Goes o table es (suc k) ports g
  quiet law sound nothing ports g was = record {
    rows = each_map (RowFreed o table es g.given.items k) (RowStands o table es g.given.items (suc k)) g.rows.items quiet_row was.rows;
    notes = record {
      given = was.notes.given ∙ sym nothing.counted;
      numbered = was.notes.numbered ∙ sym nothing.counted;
      counted = each_map (λ (q : PortPlan). q.runs ≡ runs_on o table es q.number k) (λ (q : PortPlan). q.runs
          ≡ runs_on o table es q.number (suc k)) ports
          (λ q h. h ∙ sym (still law q.number sound (λ b. nothing.begun (is_part o) table q.number (λ c t. t))
          (λ b. nothing.runs b q.number))) was.notes.counted;
      few = each_map (λ (q : PortPlan). q.runs ≤ k) (λ (q : PortPlan). q.runs ≤ suc k) ports (λ q h. omega (arith, h)) was.notes.few;
      own = λ h z j q le begun. elim (cases_lt j (suc k)) [
        | inl l ↦ was.notes.own h z j q (omega (arith, l)) begun
        | inr l ↦ absurd (never z j q le l begun)
      ];
      runs = λ z j q le begun. elim (cases_lt j (suc k)) [
        | inl l ↦ was.notes.runs z j q (omega (arith, l)) begun
        | inr l ↦ absurd (never z j q le l begun)
      ];
    };
  }
    where
      never : (z j : ℕ) (q : Pair) → j ≤ suc k → suc k ≤ j → Begins o table es z j q → ⊥
      never z j q le l begun =
          let s : suc k ≡ j = omega (arith, l, le) in
          let x : [] ≡ q ∷ [] = sym (nothing.begun (is_part o) (targets_by o table) z (λ c t. t))
          ∙ ap (begun_at o (is_part o) (targets_by o table) (port_at es z)) s ∙ begun in cc

      quiet_row : (u : Used) → RowFreed o table es g.given.items k u → RowStands o table es g.given.items (suc k) u
      quiet_row u freed = record {
        ready = freed.ready;
        given = λ row agrees j q le begun. elim (cases_lt j (suc k)) [
          | inl l ↦ freed.given row (λ b m. agrees b (omega (arith, m))) j q (omega (arith, l)) begun
          | inr l ↦ (let s : suc k ≡ j = omega (arith, l, le) in
              let x : [] ≡ q ∷ [] = sym (nothing.begun (channels_in o u.part) table u.port freed.ready.of.parts)
              ∙ ap (begun_at o (channels_in o u.part) table (port_at es u.port)) s ∙ begun in absurd cc)
        ];
        stands = λ row agrees. freed.stays row (λ b m. agrees b (omega (arith, m))) (nothing.begun
            (channels_in o u.part) table u.port freed.ready.of.parts);
      }

-- ---- before the first event, and where there is a row

pub bends_of : (o : Options) (allowed : ℕ → Bool) (table : Targets) (es : List MidiEvent) (rows : List Used)
    → AreHeads o allowed table es (heads rows)
    → 0 < length rows → bends_notes o.route ≡ true
bends_of o allowed table es [] are l = absurd (omega (arith, l))
bends_of o allowed table es (u ∷ us) are l = by_route o.route are.channels.0
  where
    by_route : (r : Route) → HasChannels r o allowed table es (head u) → bends_notes r ≡ true
    by_route ByDump h = absurd h
    by_route ByLive h = absurd h
    by_route ByBend h = refl
    by_route ByMpe h = refl

pub first_notes : BegunFollowsEvent → (o : Options) (allowed : ℕ → Bool) (table : Targets) (es : List MidiEvent) (ports : List PortPlan)
    → ArePlanned o allowed table es ports → NotesGiven o table es 0 ports [] []
first_notes follows o allowed table es ports planned = record {
  given = refl;
  numbered = refl;
  counted = each_map (λ (q : PortPlan). q.runs ≡ 0) (λ (q : PortPlan). q.runs ≡ runs_on o table es q.number 0) ports (λ q h. h
      ∙ sym (none_yet q.number)) planned.begun;
  few = each_map (λ (q : PortPlan). q.runs ≡ 0) (λ (q : PortPlan). q.runs ≤ 0) ports (λ q h. omega (arith, h)) planned.begun;
  own = λ h z j p le begun. absurd (never z j p le begun);
  runs = λ z j p le begun. absurd (never z j p le begun);
}
  where
    none_yet : (z : ℕ) → runs_on o table es z 0 ≡ 0
    none_yet z = either (bends_notes o.route)
      where
        either : (b : Bool) → cond b 0 0 ≡ (let n : ℕ = 0 in n)
        either true = refl
        either false = refl

    never : (z j : ℕ) (p : Pair) → j ≤ 0 → Begins o table es z j p → ⊥
    never z j p le begun = (let f = follows o (is_part o) (targets_by o table) es z j p begun in let s = f.is in omega (arith, s, le))

-- each row stands at the first position as it does before any event
pub few_runs : (k : ℕ) (ports : List PortPlan) → k < 4294967295 → AllByRecursion (λ (p : PortPlan). p.runs ≤ k) ports
    → AllByRecursion (λ (p : PortPlan). p.runs < 4294967295) ports
few_runs k ports low all = each_map (λ (p : PortPlan). p.runs ≤ k) (λ (p : PortPlan). p.runs < 4294967295) ports (λ p h. omega (arith, h, low)) all

-- no event has a fault
pub not_faulty : ((o : Options) (table : Targets) (front back : List MidiEvent) → IsFaultless o table (front ++ back) → IsFaultless o table front)
    → (o : Options) (table : Targets) (es front : List MidiEvent) (e : MidiEvent) (more : List MidiEvent) → es ≡ front ++ e ∷ more
    → IsFaultless o table es → fault_at o table (front ++ e ∷ []) (length front) ≡ None
not_faulty fronts o table es front e more is h =
    fronts o table (front ++ e ∷ []) more (subst (IsFaultless o table) (is ∙ sym (append_assoc front (e ∷ []) more)) h) (length front)
    (omega (arith, length-append front (e ∷ [])))

pub not_told : (f : StepFault) (x : SourceFault) → f ≡ Source x → source_of f ≡ None → ⊥
not_told f x is none = let some : Some (fault_of x) ≡ None = ap source_of (sym is) ∙ none in absurd cc

pub served_all : (o : Options) (allowed : ℕ → Bool) (table : Targets) (es : List MidiEvent) (old new : List PortPlan) (hs : List Head)
    → AreHeads o allowed table es hs
    → ArePlanned o allowed table es old → map without_runs new ≡ map without_runs old → ServesAll o es new hs
served_all o allowed table es old new hs are planned same = record {
  apart = are.apart;
  served = are.served;
  planned = λ z none. planned.silent z (none_still old new z same none);
}
