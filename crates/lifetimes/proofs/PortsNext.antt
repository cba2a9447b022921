-- The ports in use, with one event more.
use Rattle.std.proofs.Common.{◌≡◌, ◌≤◌, ◌<◌, ◌∙◌, ℕ, zero, suc, List, [], ◌∷◌, ◌++◌, Bool, true, false, cond, ◌&&◌, ◌||◌, nat_eq, refl, sym, ap, subst, arith, length, take, drop, set, reverse, slice_index_or, replicate, inl, inr}
use Rattle.std.specs.Prelude.{◌⊎◌}
use Rattle.std.specs.List.{AllByRecursion}
use Rattle.std.proofs.lemmas.Grind.{reverse_onto}
use Rattle.std.proofs.lemmas.Bool.{eq-eqb, eqb-true, eqb-false, or_right}
use Rattle.std.proofs.lemmas.List.{drop-set-lt}
use Rattle.std.proofs.Math.Seq.{take-set-lt}
use Rattle.mt_base.specs.Midi.{MidiEvent}
use Rattle.mt_base.specs.Valid.{IsValidEvent}
use Rattle.midi_model.specs.Order.{AreInOrder}
use Rattle.retune_model.specs.Options.{Options, is_drum_message}
use Rattle.retune_model.specs.Ports.{all_zero}
use Rattle.retune_model.specs.Faults.{Targets}
use Rattle.retune_model.specs.FaultLaws.{FaultlessPorts}
use Rattle.retune_model.specs.SourceFaults.{is_message, has_port, with_port, ports_used, IsFaultless}
use Rattle.receiver.specs.declared.ends.Ends.{Ends}
use Rattle.lifetimes.specs.Told.{TellsEnds, music_on, port_on, strike_of, count_begun}
use Rattle.lifetimes.specs.Port.{Takes}
use Rattle.lifetimes.specs.Stands.{PortStands, place_from}
use Rattle.lifetimes.specs.Steps.{numbered_at}
use Rattle.lifetimes.specs.declared.port.Port.{Port}
use Rattle.lifetimes.proofs.Laws.{Laws}
use Rattle.lifetimes.proofs.Opened.{renumbered}
use Rattle.lifetimes.proofs.Opening.{port_opens}
use Rattle.lifetimes.proofs.Places.{here, none_here, unused, used_more, map_from, has_reverse, of_each}
use Rattle.lifetimes.proofs.AllPorts.{times, used_once, times_reverse, used_same, numbers_of, numbers_kept, all_wait, all_but, all_past}
use Rattle.lifetimes.proofs.NoneEnds.{none_by_drums, none_unheard, none_told}
use Rattle.lifetimes.proofs.Taking.{IsTaken, port_takes, tells_ends}

-- ---- a port more is in use

opened_stand : (P Q : Port → Type 0) (z : ℕ) (ports : List Port) (u : ℕ) → u < length ports → ((p : Port) → Q p → P (renumbered p z))
    → AllByRecursion P (take u ports) → AllByRecursion Q (drop u ports) → AllByRecursion P (take (suc u) (numbered_at ports u z))
opened_stand P Q z [] u l f a b = absurd (omega (arith, l))
opened_stand P Q z (p ∷ ports) zero l f a b = (f p b.0, tt)
opened_stand P Q z (p ∷ ports) (suc u) l f a b = (a.0, opened_stand P Q z ports u (omega (arith, l)) f a.1 b)

opened_wait : (Q : Port → Type 0) (z : ℕ) (ports : List Port) (u : ℕ) → AllByRecursion Q (drop u ports)
    → AllByRecursion Q (drop (suc u) (numbered_at ports u z))
opened_wait Q z [] u b = tt
opened_wait Q z (p ∷ ports) zero b = b.1
opened_wait Q z (p ∷ ports) (suc u) b = opened_wait Q z ports u b

opened_numbers : (z : ℕ) (ports : List Port) (u : ℕ) → u < length ports
    → numbers_of (take (suc u) (numbered_at ports u z)) ≡ numbers_of (take u ports) ++ z ∷ []
opened_numbers z [] u l = absurd (omega (arith, l))
opened_numbers z (p ∷ ports) zero l = refl
opened_numbers z (p ∷ ports) (suc u) l = ap (λ ns. p.number ∷ ns) (opened_numbers z ports u (omega (arith, l)))

opened_here : (z : ℕ) (ports : List Port) (u : ℕ) (d : Port) → u < length ports → (slice_index_or (numbered_at ports u z) u d).number ≡ z
opened_here z [] u d l = absurd (omega (arith, l))
opened_here z (p ∷ ports) zero d l = refl
opened_here z (p ∷ ports) (suc u) d l = opened_here z ports u d (omega (arith, l))

opened_length : (z : ℕ) (ports : List Port) (u : ℕ) → length (numbered_at ports u z) ≡ length ports
opened_length z [] u = refl
opened_length z (p ∷ ports) zero = refl
opened_length z (p ∷ ports) (suc u) = ap suc (opened_length z ports u)

-- The ports before an event that comes next, its own opened where it opens one: place is that of its port.
pub record AreOpen (o : Options) (table : Targets) (es : List MidiEvent) (e : MidiEvent) (place used : ℕ) (ports : List Port) : Type 0 where
  pub most : used ≤ length ports
  pub numbers : numbers_of (take used ports) ≡ reverse (ports_used all_zero [] (es ++ e ∷ []))
  pub stand : AllByRecursion (PortStands o table es) (take used ports)
  pub wait : AllByRecursion (PortStands o table []) (drop used ports)
  pub number : place < used → (d : Port) → (slice_index_or ports place d).number ≡ port_on es e
  pub none : used ≤ place → has_port (port_on es e) (numbers_of (take used ports)) ≡ false
  pub unheard : used ≤ place → has_port (port_on es e) (ports_used all_zero [] es) ≡ false

module _ (laws : Laws) (fine : FaultlessPorts) (o : Options) (table : Targets) (es : List MidiEvent) (e : MidiEvent) (place used : ℕ)
    (ports : List Port)
    (faultless : IsFaultless o table es) (most : used ≤ length ports) (numbers : numbers_of (take used ports) ≡ reverse (ports_used all_zero [] es))
    (stand : AllByRecursion (PortStands o table es) (take used ports)) (wait : AllByRecursion (PortStands o table []) (drop used ports))
    (at : place ≡ place_from 0 (port_on es e) (numbers_of (take used ports))) (low : is_message e.what ≡ true → place < length ports) where
  used_next : ports_used all_zero [] (es ++ e ∷ []) ≡ with_port (is_message e.what) (port_on es e) (ports_used all_zero [] es)
  used_next = used_more all_zero [] es e

  unheard_late : used ≤ place → has_port (port_on es e) (ports_used all_zero [] es) ≡ false
  unheard_late late = unused (port_on es e) (numbers_of (take used ports)) (ports_used all_zero [] es) numbers
      (none_here (λ (p : Port). p.number) ports used (port_on es e) place at late)

  -- one that had its place
  had : with_port (is_message e.what) (port_on es e) (ports_used all_zero [] es) ≡ ports_used all_zero [] es → AreOpen o table es e place used ports
  had same = record {
    most = most;
    numbers = numbers ∙ ap reverse (sym (used_next ∙ same));
    stand = stand;
    wait = wait;
    number = λ few d. here (λ (p : Port). p.number) ports used (port_on es e) place (slice_index_or ports place d) d at few
        (omega (arith, few, most)) refl;
    none = λ late. none_here (λ (p : Port). p.number) ports used (port_on es e) place at late;
    unheard = unheard_late;
  }

  -- one that is opened
  opened : is_message e.what ≡ true → place ≡ used → AreOpen o table es e place (suc used) (numbered_at ports used (port_on es e))
  opened says is = record {
    most = (let l = opened_length (port_on es e) ports used in omega (arith, inside, l));
    numbers = opened_numbers (port_on es e) ports used inside
        ∙ ap (λ ns. ns ++ port_on es e ∷ []) numbers
        ∙ sym (reverse_onto (ports_used all_zero [] es) (port_on es e) [])
        ∙ ap reverse (sym (used_next ∙ ap (λ b. with_port b (port_on es e) (ports_used all_zero [] es)) says
        ∙ ap (λ b. cond b (ports_used all_zero [] es) (port_on es e ∷ ports_used all_zero [] es)) first));
    stand = opened_stand (PortStands o table es) (PortStands o table []) (port_on es e) ports used inside
        (λ p waits. port_opens laws.music fine o table es (port_on es e) p faultless first waits) stand wait;
    wait = opened_wait (PortStands o table []) (port_on es e) ports used wait;
    number =
        λ few d. ap (λ i. (slice_index_or (numbered_at ports used (port_on es e)) i d).number) is
        ∙ opened_here (port_on es e) ports used d inside;
    none = λ late. absurd (omega (arith, late, is));
    unheard = λ late. absurd (omega (arith, late, is));
  }
    where
      inside : used < length ports
      inside = let l = low says in omega (arith, l, is)

      first : has_port (port_on es e) (ports_used all_zero [] es) ≡ false
      first = unheard_late (omega (arith, is))

  there : (k : ℕ) (ns : List ℕ) (n : ℕ) (rest : List ℕ) → n ≡ port_on es e → drop k ns ≡ n ∷ rest → has_port (port_on es e) ns ≡ true
  there zero [] n rest same h = absurd cc
  there (suc k) [] n rest same h = absurd cc
  there zero (m ∷ ns) n rest same h = ap (λ b. b || has_port (port_on es e) ns) (eq-eqb m (port_on es e) (first m n ns rest h ∙ same))
    where
      first : (m n : ℕ) (ns ms : List ℕ) → m ∷ ns ≡ n ∷ ms → m ≡ n
      first m n ns ms h = cc
  there (suc k) (m ∷ ns) n rest same h = or_right (nat_eq m (port_on es e)) (has_port (port_on es e) ns) (there k ns n rest same h)

  listed : place < used → (d : Port) → has_port (port_on es e) (ports_used all_zero [] es) ≡ true
  listed few d =
      let within : place < length ports = omega (arith, few, most) in
      let x : Port = slice_index_or ports place d in
      sym (has_reverse (port_on es e) (ports_used all_zero [] es)) ∙ ap (has_port (port_on es e)) (sym numbers)
      ∙ there place (numbers_of (take used ports)) x.number _ (here (λ (p : Port). p.number) ports used (port_on es e) place x d at few within refl)
      (map_from (λ (p : Port). p.number) ports used place x d few within refl)

  pub open_next : place ≤ used → (d : Port)
      → AreOpen o table es e place (cond (is_message e.what && nat_eq place used) (suc used) used)
      (cond (is_message e.what && nat_eq place used) (numbered_at ports used (port_on es e)) ports)
  open_next bound d = pick (is_message e.what) (nat_eq place used) refl refl
    where
      pick : (m b : Bool) → is_message e.what ≡ m → nat_eq place used ≡ b
          → AreOpen o table es e place (cond (m && b) (suc used) used) (cond (m && b) (numbered_at ports used (port_on es e)) ports)
      pick false b says is = had (ap (λ m. with_port m (port_on es e) (ports_used all_zero [] es)) says)
      pick true true says is = opened says (eqb-true place used is)
      pick true false says is =
          had (used_same (is_message e.what) (port_on es e) (ports_used all_zero [] es)
          (listed (let ne = eqb-false place used is in omega (arith, bound, ne)) d))

-- ---- and after it

pub record AreNext (o : Options) (table : Targets) (es : List MidiEvent) (e : MidiEvent) (ends : Ends) (used : ℕ) (ports : List Port) : Type 0 where
  pub numbers : numbers_of (take used ports) ≡ reverse (ports_used all_zero [] (es ++ e ∷ []))
  pub stand : AllByRecursion (PortStands o table (es ++ e ∷ [])) (take used ports)
  pub wait : AllByRecursion (PortStands o table []) (drop used ports)
  pub tells : TellsEnds o es e ends

module _ (laws : Laws) (o : Options) (table : Targets) (es : List MidiEvent) (e : MidiEvent) (place used : ℕ) (ports : List Port)
    (valid : AllByRecursion IsValidEvent es) (valid_too : IsValidEvent e) (order : AreInOrder 0 es) (order_too : AreInOrder 0 (es ++ e ∷ []))
    (h : AreOpen o table es e place used ports) where
  pub passed_next : ((used ≤ place) ⊎ ((o.keep_drums && is_drum_message e.what) ≡ true))
      → AreNext o table es e (record { keys = replicate 16 0 }) used ports
  passed_next (inl late) = record {
    numbers = h.numbers;
    stand = all_wait laws o table es e order_too (take used ports) (h.none late) h.stand;
    wait = h.wait;
    tells = none_told o es e (none_unheard o (port_on es e) es (music_on (port_on es e) (es ++ e ∷ [])).notes (h.unheard late));
  }
  passed_next (inr kept) = record {
    numbers = h.numbers;
    stand = all_past laws o table es e order_too kept (take used ports) h.stand;
    wait = h.wait;
    tells = none_told o es e (none_by_drums laws o (port_on es e) es e refl kept);
  }

  pub taken_next : place < used → (o.keep_drums && is_drum_message e.what) ≡ false → (ends : Ends) (d new : Port)
      → Takes o.tail e.tick e.what (strike_of o table e.tick e.what) (count_begun o (es ++ e ∷ [])) (slice_index_or ports place d) ends new
      → AreNext o table es e ends used (set ports place new)
  taken_next few told ends d new takes = record {
    numbers =
        ap numbers_of (take-set-lt used ports place new few)
        ∙ numbers_kept (take used ports) place new rest (behind ∙ ap (λ n. n ∷ rest) (sym (takes.number ∙ h.number few d)))
        ∙ h.numbers;
    stand = subst (AllByRecursion (PortStands o table (es ++ e ∷ []))) (sym (take-set-lt used ports place new few))
        (all_but laws o table es e order_too (take used ports) place new rest behind once (port_takes o table es e old ends new taken) h.stand);
    wait = subst (AllByRecursion (PortStands o table [])) (sym (drop-set-lt used ports place new few)) h.wait;
    tells = tells_ends o table es e old ends new taken;
  }
    where
      within : place < length ports
      within = let m = h.most in omega (arith, few, m)

      old : Port
      old = slice_index_or ports place d

      rest : List ℕ
      rest = drop (suc place) (numbers_of (take used ports))

      behind : drop place (numbers_of (take used ports)) ≡ port_on es e ∷ rest
      behind =
          map_from (λ (p : Port). p.number) ports used place (slice_index_or ports place d) d few within refl
          ∙ ap (λ n. n ∷ rest) (h.number few d)

      once : times (port_on es e) (numbers_of (take used ports)) ≤ 1
      once =
          let same : times (port_on es e) (numbers_of (take used ports)) ≡ times (port_on es e) (ports_used all_zero [] (es ++ e ∷ [])) =
          ap (times (port_on es e)) h.numbers ∙ times_reverse (port_on es e) (ports_used all_zero [] (es ++ e ∷ [])) in
          let most = used_once (es ++ e ∷ []) (port_on es e) in
          omega (arith, same, most)

      taken : IsTaken o table es e (slice_index_or ports place d) ends new
      taken = record {
        laws = laws;
        valid = valid;
        valid_too = valid_too;
        order = order;
        order_too = order_too;
        stands = of_each (PortStands o table es) ports used place (slice_index_or ports place d) d few within refl h.stand;
        here = sym (h.number few d);
        told = told;
        takes = takes;
      }
