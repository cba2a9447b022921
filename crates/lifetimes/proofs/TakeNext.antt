-- A source that takes an event stands for one event more.
use Rattle.std.proofs.Common.{◌≡◌, ◌≤◌, ◌<◌, ◌∙◌, ℕ, suc, ◌+◌, List, [], ◌∷◌, ◌++◌, Bool, true, false, cond, not, ◌&&◌, nat_eq, nat_lt, Option, None, is_some, refl, sym, ap, subst, length, take, drop, slice_index_or, inl, inr}
use Rattle.std.specs.Prelude.{◌⊎◌}
use Rattle.std.specs.List.{AllByRecursion}
use Rattle.std.proofs.lemmas.Bool.{and_parts, and_cases, ltb-true, ltb-false}
use Rattle.mt_base.specs.Midi.{MidiEvent}
use Rattle.mt_base.specs.Valid.{IsValidEvent}
use Rattle.retune_model.specs.Options.{is_drum_message}
use Rattle.retune_model.specs.Faults.{Targets}
use Rattle.retune_model.specs.Ports.{tick_to}
use Rattle.retune_model.specs.FaultLaws.{FaultlessPorts}
use Rattle.retune_model.specs.SourceFaults.{is_message, fault_at, IsFaultless}
use Rattle.receiver.specs.declared.ends.Ends.{Ends}
use Rattle.lifetimes.specs.Views.{options_of}
use Rattle.lifetimes.specs.Told.{TellsEnds, port_on, strike_of, count_begun}
use Rattle.lifetimes.specs.Tracks.{TracksStand}
use Rattle.lifetimes.specs.Port.{Takes}
use Rattle.lifetimes.specs.Stands.{PortStands, SourceStands, place_of}
use Rattle.lifetimes.specs.Steps.{ComesNext, Opens, Counts, Hears, is_taken, is_heard, numbered_at}
use Rattle.lifetimes.specs.declared.options.Options.{Options as Asked}
use Rattle.lifetimes.specs.declared.port.Port.{Port}
use Rattle.lifetimes.specs.declared.port.Strike.{Strike}
use Rattle.lifetimes.specs.declared.source.Source.{Source}
use Rattle.lifetimes.proofs.Laws.{Laws}
use Rattle.lifetimes.proofs.Prefix.{faultless_more, tick_last}
use Rattle.lifetimes.proofs.Appended.{longer}
use Rattle.lifetimes.proofs.Numbers.{count_next, strike_counts}
use Rattle.lifetimes.proofs.PortsNext.{AreOpen, AreNext, open_next, passed_next, taken_next}

all_more : (es : List MidiEvent) (e : MidiEvent) → AllByRecursion IsValidEvent es → IsValidEvent e → AllByRecursion IsValidEvent (es ++ e ∷ [])
all_more [] e h k = (k, tt)
all_more (x ∷ es) e h k = (h.0, all_more es e h.1 k)

unkept : (b : Bool) → not b ≡ true → b ≡ false
unkept true h = absurd cc
unkept false h = refl

kept : (b : Bool) → not b ≡ false → b ≡ true
kept true h = refl
kept false h = absurd cc

-- the steps by which a source takes an event
pub record IsStepped (table : Targets) (es : List MidiEvent) (e : MidiEvent) (port : ℕ) (strike : Option Strike) (place : ℕ) (ends : Ends)
    (old first counted new : Source) : Type 0 where
  pub next : ComesNext table old es e port strike
  pub faultless : fault_at (options_of old.options) table (es ++ e ∷ []) (length es) ≡ None
  pub at : place ≡ place_of old port
  pub bound : place ≤ old.used
  pub low : is_message e.what ≡ true → place < length old.ports
  pub most : old.used ≤ length old.ports
  pub opens : Opens port e.what old first
  pub counts : Counts e strike first counted
  pub hears : Hears place e strike ends counted new

module _ (laws : Laws) (fine : FaultlessPorts) (table : Targets) (es : List MidiEvent) (e : MidiEvent) (port : ℕ) (strike : Option Strike)
    (place : ℕ) (ends : Ends)
    (old first counted new : Source) (h : IsStepped table es e port strike place ends old first counted new) (d : Port) where
  used_now : counted.used ≡ cond (is_message e.what && nat_eq place old.used) (suc old.used) old.used
  used_now = h.counts.used ∙ h.opens.used ∙ ap (λ i. cond (is_message e.what && nat_eq i old.used) (suc old.used) old.used) (sym h.at)

  ports_now : counted.ports ≡ cond (is_message e.what && nat_eq place old.used) (numbered_at old.ports old.used (port_on es e)) old.ports
  ports_now =
      h.counts.ports ∙ h.opens.ports
      ∙ ap (λ i. cond (is_message e.what && nat_eq i old.used) (numbered_at old.ports old.used port) old.ports) (sym h.at)
      ∙ ap (λ z. cond (is_message e.what && nat_eq place old.used) (numbered_at old.ports old.used z) old.ports) h.next.at

  are_open : AreOpen (options_of old.options) table es e place counted.used counted.ports
  are_open =
      subst (λ u. AreOpen (options_of old.options) table es e place u counted.ports) (sym used_now)
      (subst (λ ps. AreOpen (options_of old.options) table es e place
      (cond (is_message e.what && nat_eq place old.used) (suc old.used) old.used) ps) (sym ports_now)
      (open_next laws fine (options_of old.options) table es e place old.used old.ports
      h.next.stands.faultless h.most h.next.stands.numbers h.next.stands.ports h.next.stands.waiting
      (h.at ∙ ap (place_of old) h.next.at) h.low h.bound d))

  begun_now : counted.begun ≡ count_begun (options_of old.options) (es ++ e ∷ [])
  begun_now =
      h.counts.begun
      ∙ ap (λ n. cond (is_some strike) 1 0 + n) (h.opens.begun ∙ h.next.stands.begun)
      ∙ ap (λ (s : Option Strike). cond (is_some s) 1 0 + count_begun (options_of old.options) es) h.next.begins
      ∙ ap (λ b. cond b 1 0 + count_begun (options_of old.options) es) (strike_counts (options_of old.options) table e.tick e.what)
      ∙ sym (count_next (options_of old.options) es e)

  same_options : counted.options ≡ old.options
  same_options = h.counts.options ∙ h.opens.options

  taken_or_not : (b : Bool) → is_taken counted place e.what ≡ b → AreNext (options_of old.options) table es e ends new.used new.ports
  taken_or_not true is =
      let p = and_parts (nat_lt place counted.used) (is_heard counted.options e.what) is in
      let told : (old.options.keep_drums && is_drum_message e.what) ≡ false =
      unkept _ (ap (λ (a : Asked). is_heard a e.what) (sym same_options) ∙ p.1) in
      subst (λ u. AreNext (options_of old.options) table es e ends u new.ports) (sym h.hears.used)
      (subst (λ ps. AreNext (options_of old.options) table es e ends counted.used ps) (sym (h.hears.alone is d))
      (taken_next laws (options_of old.options) table es e place counted.used counted.ports
      h.next.stands.valid h.next.valid h.next.stands.order h.next.order are_open
      (ltb-true place counted.used p.0) told ends d (slice_index_or new.ports place d)
      (subst (λ n. Takes old.options.tail e.tick e.what (strike_of (options_of old.options) table e.tick e.what) n
      (slice_index_or counted.ports place d) ends (slice_index_or new.ports place d)) begun_now
      (subst (λ s. Takes old.options.tail e.tick e.what s counted.begun (slice_index_or counted.ports place d) ends
      (slice_index_or new.ports place d)) h.next.begins
      (subst (λ (a : Asked). Takes a.tail e.tick e.what strike counted.begun (slice_index_or counted.ports place d) ends
      (slice_index_or new.ports place d)) same_options (h.hears.takes is d))))))
  taken_or_not false is =
      subst (λ u. AreNext (options_of old.options) table es e ends u new.ports) (sym h.hears.used)
      (subst (λ ps. AreNext (options_of old.options) table es e ends counted.used ps) (sym (h.hears.passed is))
      (subst (λ x. AreNext (options_of old.options) table es e x counted.used counted.ports) (sym (h.hears.silent is))
      (passed_next laws (options_of old.options) table es e place counted.used counted.ports
      h.next.stands.valid h.next.valid h.next.stands.order h.next.order are_open why)))
    where
      why : (counted.used ≤ place) ⊎ ((old.options.keep_drums && is_drum_message e.what) ≡ true)
      why = elim (and_cases (nat_lt place counted.used) (is_heard counted.options e.what) is) [
        | inl late ↦ inl (ltb-false place counted.used late)
        | inr deaf ↦ inr (kept _ (ap (λ (a : Asked). is_heard a e.what) (sym same_options) ∙ deaf))
      ]

  next_ports : AreNext (options_of old.options) table es e ends new.used new.ports
  next_ports = taken_or_not (is_taken counted place e.what) refl

  options_now : new.options ≡ old.options
  options_now = h.hears.options ∙ same_options

  pub source_tells : TellsEnds (options_of old.options) es e ends
  source_tells = next_ports.tells

  pub source_next : SourceStands table new (es ++ e ∷ [])
  source_next = record {
    faultless = subst (λ (a : Asked). IsFaultless (options_of a) table (es ++ e ∷ [])) (sym options_now)
        (faultless_more (options_of old.options) table es e h.next.stands.faultless h.faultless);
    valid = all_more es e h.next.stands.valid h.next.valid;
    order = h.next.order;
    position = h.hears.position ∙ h.counts.position ∙ ap suc (h.opens.position ∙ h.next.stands.position) ∙ sym (longer es e);
    tick = h.hears.tick ∙ h.counts.tick ∙ sym (ap (tick_to (es ++ e ∷ [])) (longer es e) ∙ tick_last es e);
    begun = h.hears.begun ∙ begun_now ∙ ap (λ (a : Asked). count_begun (options_of a) (es ++ e ∷ [])) (sym options_now);
    tracks = subst (λ t. TracksStand t (es ++ e ∷ [])) (sym h.hears.tracks)
        (h.counts.tracks es (subst (λ t. TracksStand t es) (sym h.opens.tracks) h.next.stands.tracks));
    numbers = next_ports.numbers;
    ports = subst (λ (a : Asked). AllByRecursion (PortStands (options_of a) table (es ++ e ∷ [])) (take new.used new.ports))
        (sym options_now) next_ports.stand;
    waiting = subst (λ (a : Asked). AllByRecursion (PortStands (options_of a) table []) (drop new.used new.ports)) (sym options_now) next_ports.wait;
  }
