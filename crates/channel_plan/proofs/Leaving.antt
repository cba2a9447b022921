-- What an event leaves of the pairs that are counted together, where notes don't rest.
use Rattle.std.proofs.Common.{◌≡◌, ◌≢◌, ◌∙◌, ◌≤◌, ◌++◌, ℕ, suc, Bool, true, false, nat_lt, List, [], ◌∷◌, filter, length, take, slice_index, sym, ap, subst, arith}
use Rattle.std.specs.List.{AllByRecursion}
use Rattle.std.specs.Set.{is_member}
use Rattle.std.proofs.lemmas.Bool.{ltb-false}
use Rattle.mt_base.specs.Midi.{MidiEvent}
use Rattle.mt_base.specs.Valid.{IsValidEvent}
use Rattle.midi_model.specs.Order.{AreInOrder}
use Rattle.retune_model.specs.Options.{Options}
use Rattle.retune_model.specs.Faults.{Targets, is_part}
use Rattle.retune_model.specs.Pairs.{Pair, is_same_pair}
use Rattle.retune_model.specs.PortNeed.{AreParts, pairs_on}
use Rattle.retune_model.specs.SourceFaults.{IsSound}
use Rattle.plan_laws.specs.Counting.{ComesAt, NextIsTaken, PairsAreTaken, PairsAreOwn, HoldingIsThere}
use Rattle.lifetimes.specs.Told.{port_on, is_held, TellsEnds}
use Rattle.receiver.specs.declared.ends.Ends.{Ends}
use Rattle.channel_plan.specs.Staying.{StaysUnlessEnded}
use Rattle.channel_plan.proofs.Keeping.{all_pass}

all_front : (xs ys : List MidiEvent) → AllByRecursion IsValidEvent (xs ++ ys) → AllByRecursion IsValidEvent xs
all_front [] ys all = tt
all_front (x ∷ xs) ys all = (all.0, all_front xs ys all.1)

-- there is no tail where it isn't above 0
pub silent_by : (t n : ℕ) → t ≡ n → nat_lt 0 t ≡ false → n ≡ 0
silent_by t n same calm = let low = ltb-false 0 t calm in omega (arith, same, low)

-- the laws that serve
pub record Laws : Type 0 where
  pub next : NextIsTaken
  pub taken : PairsAreTaken
  pub own : PairsAreOwn
  pub holding : HoldingIsThere
  pub stays : StaysUnlessEnded

module _ (laws : Laws) (o : Options) (table : Targets) (es : List MidiEvent) (k : ℕ) (e : MidiEvent) (part : ℕ → Bool) (z : ℕ) where
  abbrev front : List MidiEvent
  front = take (suc k) es

  module _ (comes : ComesAt es k e) (parts : AreParts o part) (sound : IsSound o table front) where
    abbrev among : List Pair → Pair → Bool
    among ps p = is_member is_same_pair ps p

    taken_here : (p : ℕ → Bool) (y : ℕ) → pairs_on o p table front y k ≡ pairs_on o p table es y k
    taken_here p y = laws.taken o p table es y k (suc k) (omega arith) (let long = (laws.next es k e comes).2 in omega (arith, long))

    short : k ≤ length front
    short =
        let whole = (laws.next es k e comes).0 in
        let long = (laws.next es k e comes).1 in
        let more = more_than (take k es) e in
        let same = ap length whole in
        omega (arith, long, more, same)
      where
        more_than : (xs : List MidiEvent) (x : MidiEvent) → length xs ≤ length (xs ++ x ∷ [])
        more_than [] x = omega arith
        more_than (y ∷ xs) x = let h = more_than xs x in omega (arith, h)

    -- a pair that is counted is of the port, and among those of all parts
    pub of_port : (p : Pair) → among (pairs_on o part table es z k) p ≡ true
        → (p.part.port ≡ z) × (among (pairs_on o (is_part o) table (take k es ++ e ∷ []) p.part.port (length (take k es))) p ≡ true)
    of_port p here =
        let there : among (pairs_on o part table front z k) p ≡ true = ap (λ ps. among ps p) (taken_here part z) ∙ here in
        let own = laws.own o part table front z k p parts sound there in
        let of_part : among (pairs_on o part table front p.part.port k) p ≡ true =
        ap (λ y. among (pairs_on o part table front y k) p) own.0 ∙ there in
        let held = laws.holding o part table front k p parts sound.in_order short own.1 in
        let all = laws.holding o (is_part o) table front k p (λ c h. h) sound.in_order short (parts p.part.channel own.1) in (
          own.0,
          ap (λ l. among (pairs_on o (is_part o) table l p.part.port (length (take k es))) p) (sym (laws.next es k e comes).0)
              ∙ ap (λ j. among (pairs_on o (is_part o) table front p.part.port j) p) (laws.next es k e comes).1
              ∙ sym all ∙ held ∙ of_part,
        )

    module _ (ended : Ends) (valid : AllByRecursion IsValidEvent front) (silent : o.tail ≡ 0) (tells : TellsEnds o (take k es) e ended) where
      pub still : (p : Pair) → among (pairs_on o part table es z k) p ≡ true
          → (port_on (take k es) e ≡ p.part.port → slice_index ended.keys p.part.channel ≡ 0)
          → is_held o table front p ≡ true
      still p here none =
          let whole = (laws.next es k e comes).0 in
          ap (λ l. is_held o table l p) whole
          ∙ laws.stays o table (take k es) e ended p (subst (AreInOrder 0) whole sound.in_order)
          (all_front (take k es) (e ∷ []) (subst (AllByRecursion IsValidEvent) whole valid)) silent tells none (of_port p here).1

      -- of another port all stay
      pub all_stay : port_on (take k es) e ≢ z → filter (is_held o table front) (pairs_on o part table es z k) ≡ pairs_on o part table es z k
      all_stay apart =
          all_pass (is_held o table front) (pairs_on o part table es z k)
          (λ p here. still p here (λ same. absurd (apart (same ∙ (of_port p here).0))))
