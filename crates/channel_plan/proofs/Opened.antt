-- Tallies: which are there, and what stands for a port, or a part of it, that has none.
use Rattle.std.proofs.Common.{◌≡◌, ◌∙◌, ◌≤◌, ◌++◌, ℕ, zero, suc, Bool, true, false, cond, ◌&&◌, not, nat_eq, Option, Some, None, is_some, ◌⊎◌, List, [], ◌∷◌, map, filter, length, take, drop, refl, sym, ap, subst, arith, inl, inr}
use Rattle.std.specs.List.{AllByRecursion}
use Rattle.std.specs.Option.{option_map}
use Rattle.std.proofs.Math.Seq.{take-length}
use Rattle.std.proofs.lemmas.Bool.{eqb-true, eq-eqb, both_ways, cases_lt}
use Rattle.std.proofs.lemmas.List.{take-append-le, length-map}
use Rattle.mt_base.specs.declared.event.Msg.TheVariants.{NoteOn, NoteOff, KeyPressure, Control, Program, Pressure, Bend}
use Rattle.mt_base.specs.Midi.{MidiWhat, Says, SysexOf, MetaOf, MidiEvent}
use Rattle.retune_model.specs.Options.{Options, Route, ByDump, ByLive, ByBend, ByMpe, bends_notes}
use Rattle.retune_model.specs.Ports.{tick_to}
use Rattle.retune_model.specs.Faults.{Targets, is_part}
use Rattle.retune_model.specs.Pairs.{Pair}
use Rattle.retune_model.specs.PortNeed.{AreParts, pairs_on}
use Rattle.lifetimes.specs.Views.{pair_of}
use Rattle.lifetimes.specs.Told.{begun_by}
use Rattle.lifetimes.specs.declared.change.Begun.{Begun}
use Rattle.plan_laws.specs.Counting.{with_each}
use Rattle.channel_plan.specs.Passing.{channels_in}
use Rattle.channel_plan.specs.Counts.{Counts, IsEmpty, IsTimed, pairs_begun}
use Rattle.channel_plan.specs.Tallies.{TallyStands, serves, begun_for}
use Rattle.channel_plan.specs.Surveys.{IsCountedBy, counts_on, IsCounted, is_same_part, key, tally_in, counted_with, HasTally, HasTallyOf, IsPartBegun, AreTallies}
use Rattle.channel_plan.specs.declared.survey.Counted.{Counted}
use Rattle.channel_plan.specs.declared.survey.Counted.TheVariants.{Nothing, Ports, Parts}
use Rattle.channel_plan.specs.declared.tally.Tally.{Tally}
use Rattle.channel_plan.specs.declared.counter.Counter.{Counter}

-- ---- which are there

abbrev is_for : ℕ → Option ℕ → ℕ × Option ℕ → Bool
is_for z part k = nat_eq k.0 z && is_same_part k.1 part

pub key_same : (t u : Tally) → t.port ≡ u.port → t.part ≡ u.part → key t ≡ key u
key_same t u p q = ap (λ z. (z, t.part)) p ∙ ap (λ part. (u.port, part)) q

pub none_by_keys : (ts us : List Tally) (z : ℕ) (part : Option ℕ) → map key ts ≡ map key us → tally_in ts z part ≡ None → tally_in us z part ≡ None
none_by_keys ts [] z part same none = refl
none_by_keys [] (u ∷ us) z part same none = absurd cc
none_by_keys (t ∷ ts) (u ∷ us) z part same none =
    pick (is_for z part (key t)) (is_for z part (key u)) (ap (λ ks. first ks) same) none
    (none_by_keys ts us z part (ap (λ ks. rest ks) same))
  where
    first : List (ℕ × Option ℕ) → Bool
    first [] = false
    first (k ∷ ks) = is_for z part k

    rest : List (ℕ × Option ℕ) → List (ℕ × Option ℕ)
    rest [] = []
    rest (k ∷ ks) = ks

    pick : (a b : Bool) → a ≡ b → cond a (Some t) (tally_in ts z part) ≡ None → (tally_in ts z part ≡ None → tally_in us z part ≡ None)
        → cond b (Some u) (tally_in us z part) ≡ None
    pick true b h n f = absurd cc
    pick false true h n f = absurd cc
    pick false false h n f = f n

pub none_before : (ts : List Tally) (t : Tally) (z : ℕ) (part : Option ℕ) → tally_in (ts ++ t ∷ []) z part ≡ None → tally_in ts z part ≡ None
none_before [] t z part none = refl
none_before (x ∷ ts) t z part none = pick (is_for z part (key x)) none (none_before ts t z part)
  where
    pick : (a : Bool) → cond a (Some x) (tally_in (ts ++ t ∷ []) z part) ≡ None → (tally_in (ts ++ t ∷ []) z part ≡ None → tally_in ts z part ≡ None)
        → cond a (Some x) (tally_in ts z part) ≡ None
    pick true n f = absurd cc
    pick false n f = f n

own_part : (part : Option ℕ) → is_same_part part part ≡ true
own_part None = refl
own_part (Some c) = eq-eqb c c refl

pub one_there : (ts : List Tally) (t : Tally) → is_some (tally_in (ts ++ t ∷ []) t.port t.part) ≡ true
one_there [] t = ap (λ b. is_some (cond (b && is_same_part t.part t.part) (Some t) None)) (eq-eqb t.port t.port refl)
    ∙ ap (λ b. is_some (cond b (Some t) None)) (own_part t.part)
one_there (x ∷ ts) t = pick (is_for t.port t.part (key x)) (one_there ts t)
  where
    pick : (a : Bool) → is_some (tally_in (ts ++ t ∷ []) t.port t.part) ≡ true
        → is_some (cond a (Some x) (tally_in (ts ++ t ∷ []) t.port t.part)) ≡ true
    pick true h = refl
    pick false h = h

pub none_found : {A B : Type 0} (f : A → B) (r : Option A) (b : Bool) → is_some r ≡ not b → b ≡ true → option_map f r ≡ None
none_found f None b h told = refl
none_found f (Some a) true h told = absurd cc
none_found f (Some a) false h told = absurd cc

-- ---- what is counted

pub bends_where : (o : Options) (r : Route) (part : Option ℕ) → counts_on o r part → bends_notes r ≡ true
bends_where o ByDump part h = absurd h
bends_where o ByLive part h = absurd h
bends_where o ByBend part h = refl
bends_where o ByMpe part h = refl

pub parts_where : (o : Options) (r : Route) (part : Option ℕ) → counts_on o r part → AreParts o (channels_in o part)
parts_where o ByDump part h = absurd h
parts_where o ByLive part h = absurd h
parts_where o ByBend None h = λ c is. is
parts_where o ByBend (Some d) h = absurd h
parts_where o ByMpe None h = absurd h
parts_where o ByMpe (Some d) h = λ c is. ap (is_part o) (eqb-true c d is) ∙ h

-- a note of a part is counted with its own port, or its own part
pub counted_where : (o : Options) (r : Route) (counted : Counted) (c : ℕ) (part : Option ℕ) → IsCountedBy r counted → is_part o c ≡ true
    → counted_with counted c ≡ Some part → counts_on o r part
counted_where o r Nothing c part by is told = absurd cc
counted_where o ByBend Ports c None by is told = tt
counted_where o ByBend Ports c (Some d) by is told = absurd cc
counted_where o ByMpe Parts c None by is told = absurd cc
counted_where o ByMpe Parts c (Some d) by is told = subst (λ p. counts_on o ByMpe p) (same told) is
  where
    same : Some (Some c) ≡ Some (Some d) → Some c ≡ Some d
    same h = cc
counted_where o ByDump Ports c part by is told = absurd by
counted_where o ByLive Ports c part by is told = absurd by
counted_where o ByMpe Ports c part by is told = absurd by
counted_where o ByDump Parts c part by is told = absurd by
counted_where o ByLive Parts c part by is told = absurd by
counted_where o ByBend Parts c part by is told = absurd by

part_if : (o : Options) (c : ℕ) (b : Begun) (a : Bool) → is_part o c ≡ a → is_part o b.pair.part.channel ≡ is_part o c
    → IsPartBegun o (cond a (Some b) None)
part_if o c b true is same = same ∙ is
part_if o c b false is same = tt

pub part_begun : (o : Options) (table : Targets) (z n t : ℕ) (w : MidiWhat) → IsPartBegun o (begun_by o table z n t w)
part_begun o table z n t (Says (NoteOn c k (suc v))) = part_if o c _ (is_part o c) refl refl
part_begun o table z n t (Says (NoteOn c k zero)) = tt
part_begun o table z n t (Says (NoteOff c k v)) = tt
part_begun o table z n t (Says (KeyPressure c k v)) = tt
part_begun o table z n t (Says (Control c k v)) = tt
part_begun o table z n t (Says (Program c v)) = tt
part_begun o table z n t (Says (Pressure c v)) = tt
part_begun o table z n t (Says (Bend c v)) = tt
part_begun o table z n t (SysexOf lead bytes) = tt
part_begun o table z n t (MetaOf kind bytes) = tt

-- What has no tally has no note that begins, where each that begins has one.
pub none_begins : (o : Options) (r : Route) (counted : Counted) (ts : List Tally) (begun : Option Begun) (z : ℕ) (part : Option ℕ)
    → IsCountedBy r counted → counts_on o r part → HasTallyOf counted ts begun → tally_in ts z part ≡ None → begun_for z part begun ≡ None
none_begins o r counted ts None z part by is there none = refl
none_begins o r counted ts (Some b) z part by is there none =
    pick (nat_eq b.pair.part.port z) (serves part b.pair.part.channel) refl refl
  where
    has_none : (part : Option ℕ) → HasTally ts b.pair.part.port (Some part) → nat_eq b.pair.part.port z ≡ true → tally_in ts z part ≡ None → ⊥
    has_none part h same none = both_ways (is_some (tally_in ts z part)) (ap is_some none)
        (ap (λ y. is_some (tally_in ts y part)) (sym (eqb-true b.pair.part.port z same)) ∙ h)

    served : (r : Route) (counted : Counted) (part : Option ℕ) → IsCountedBy r counted → counts_on o r part → serves part b.pair.part.channel ≡ true
        → HasTally ts b.pair.part.port (counted_with counted b.pair.part.channel) → HasTally ts b.pair.part.port (Some part)
    served ByBend Ports None by is same h = h
    served ByMpe Parts (Some d) by is same h = subst (λ c. HasTally ts b.pair.part.port (Some (Some c))) (eqb-true b.pair.part.channel d same) h
    served ByBend Ports (Some d) by is same h = absurd is
    served ByMpe Parts None by is same h = absurd is
    served ByDump counted part by is same h = absurd is
    served ByLive counted part by is same h = absurd is
    served ByBend Nothing part by is same h = absurd by
    served ByBend Parts part by is same h = absurd by
    served ByMpe Nothing part by is same h = absurd by
    served ByMpe Ports part by is same h = absurd by

    pick : (x y : Bool) → nat_eq b.pair.part.port z ≡ x → serves part b.pair.part.channel ≡ y → cond (x && y) (Some b.pair) None ≡ None
    pick true true p q = absurd (has_none part (served r counted part by is q there) p none)
    pick true false p q = refl
    pick false y p q = refl

-- ---- nothing is counted yet

pub empty_counts : (at : ℕ → List Pair) (k : ℕ) (c : Counter) → IsEmpty c → ((j : ℕ) → j ≤ k → at j ≡ []) → Counts at k c
empty_counts at k c empty none =
    let start : at 0 ≡ [] = none 0 (omega arith) in
    let zero_at : c.instant.position ≡ 0 = ap (λ i. i.position) empty.instant in
    record {
      pairs = ap (map pair_of) empty.pairs ∙ sym (none k (omega arith));
      most = record {
        need = rw (zero_at, empty.need) (record {
          in_time = omega arith;
          reached = ap length start;
          most = λ j low. omega (arith, ap length (none j low));
          first = λ j low. absurd (omega (arith, low));
        });
        witness = ap (map pair_of) empty.witness ∙ sym start ∙ ap at (sym zero_at);
      };
    }

pub empty_timed : (es : List MidiEvent) (c : Counter) → IsEmpty c → IsTimed (tick_to es) c.instant
empty_timed es c empty = record { holds = ap (λ i. i.tick) empty.instant ∙ start es ∙ ap (tick_to es) (sym (ap (λ i. i.position) empty.instant)) }
  where
    start : (es : List MidiEvent) → 0 ≡ tick_to es 0
    start [] = refl
    start (e ∷ es) = refl

pub opened : (o : Options) (table : Targets) (es : List MidiEvent) (k : ℕ) (ts : List Tally) (t : Tally) → IsCounted o t.part → IsEmpty t.counter
    → tally_in ts t.port t.part ≡ None → AreTallies o table es k ts → AreTallies o table es k (ts ++ t ∷ [])
opened o table es k ts t is empty none ts_stand = record {
  stand = all_with ts ts_stand.stand;
  others = λ z part counted gone. ts_stand.others z part counted (none_before ts t z part gone);
}
  where
    stands : TallyStands o table es k t
    stands = record {
      bends = bends_where o o.route t.part is;
      parts = parts_where o o.route t.part is;
      counts = empty_counts _ k t.counter empty (ts_stand.others t.port t.part is none);
      timed = empty_timed es t.counter empty;
    }

    all_with : (xs : List Tally) → AllByRecursion (TallyStands o table es k) xs → AllByRecursion (TallyStands o table es k) (xs ++ t ∷ [])
    all_with [] h = (stands, tt)
    all_with (x ∷ xs) h = (h.0, all_with xs h.1)

-- ---- all tallies, at the next position

pub written : (n : ℕ) (xs new : List Tally) → n ≡ length xs → map key new ≡ map key xs → take n (new ++ drop (length new) xs) ≡ new
written n xs new at same =
    let long : length new ≡ length xs = sym (length-map new key) ∙ ap length same ∙ length-map xs key in
    take-append-le n new (drop (length new) xs) (omega (arith, at, long))
    ∙ ap (λ j. take j new) (at ∙ sym long) ∙ take-length new

-- pairs begin where there is a tally, and nowhere else
pub none_next : (o : Options) (table : Targets) (es : List MidiEvent) (k : ℕ) (ts us : List Tally) (begun : Option Begun) (counted : Counted)
    (holds : Pair → Bool)
    → IsCountedBy o.route counted → HasTallyOf counted ts begun → AreTallies o table es k ts → map key us ≡ map key ts
    → ((z : ℕ) (part : Option ℕ) → IsCounted o part → pairs_on o (channels_in o part) table es z (suc k)
    ≡ with_each (pairs_begun (begun_for z part begun)) (filter holds (pairs_on o (channels_in o part) table es z k)))
    → (z : ℕ) (part : Option ℕ) → IsCounted o part → tally_in us z part ≡ None → (j : ℕ) → j ≤ suc k
    → pairs_on o (channels_in o part) table es z j ≡ []
none_next o table es k ts us begun counted holds by there old same goes z part is none j low =
    let gone : tally_in ts z part ≡ None = none_by_keys us ts z part same none in
    elim (up_to j k low) [
      | inl m ↦ old.others z part is gone j m
      | inr m ↦ ap (pairs_on o (channels_in o part) table es z) m
          ∙ goes z part is
          ∙ ap (λ b. with_each (pairs_begun b) (filter holds (pairs_on o (channels_in o part) table es z k)))
          (none_begins o o.route counted ts begun z part by is there gone)
          ∙ ap (filter holds) (old.others z part is gone k (omega arith))
    ]
  where
    up_to : (j k : ℕ) → j ≤ suc k → (j ≤ k) ⊎ (j ≡ suc k)
    up_to j k low = elim (cases_lt k j) [ inl h ↦ inr (omega (arith, low, h)) | inr h ↦ inl h ]
