-- The output follows the source at every position.
use Rattle.std.proofs.Common.{◌≡◌, ◌<◌, ◌≤◌, ℕ, zero, suc, Bool, true, false, List, [], Option, Some, None, refl, ap, sym, ◌∙◌, subst, arith, inl, inr}
use Rattle.std.specs.Set.{is_member}
use Rattle.std.proofs.lemmas.Bool.{cases_Bool, both_ways}
use Rattle.retune_model.specs.Pairs.{Pair, is_same_pair}
use Rattle.mt_base.specs.Midi.{MidiEvent}
use Rattle.midi_model.specs.Channel.{default_channel, State}
use Rattle.midi_model.specs.Music.{Music, quiet, channel_at, step}
use Rattle.retune_model.specs.Options.{Options}
use Rattle.retune_model.specs.Faults.{Targets}
use Rattle.retune_model.specs.Ports.{Numbered}
use Rattle.retune_model.specs.SourceFaults.{kind_in}
use Rattle.channel_model.specs.Choice.{wanted}
use Rattle.channel_model.specs.BendOutput.{PortRuns}
use Rattle.bend_laws.specs.Moments.{Moment, Both, nothing_yet, moment}
use Rattle.bend_laws.specs.Follows.{Has, SoundAmong, IsGiven, AreUsed, Follows}
use Rattle.bend_laws.specs.Positions.{port_event, both_next, both_at}
use Rattle.bend_laws.proofs.Planning.{source_next, source_at, BeginsIf, IsPlanned}
use Rattle.bend_laws.proofs.Given.{Laws}
use Rattle.bend_laws.proofs.Altered.{same_aside, all_default}
use Rattle.bend_laws.proofs.Stepping.{Quiet, moved_notes}
use Rattle.bend_laws.proofs.Events.{event_kept}

next_source : (port : ℕ) (o : Options) (table : Targets) (k : Moment) (b : Both) (m : Music) (x : Option MidiEvent) → b.source ≡ m →
    (both_next port o table k b x).source ≡ source_next m x
next_source port o table k b m None h = h
next_source port o table k b m (Some e) h = ap (λ s. step s e) h

pub source_is : (o : Options) (table : Targets) (plan : PortRuns) (ns : List Numbered) (k : ℕ) → (both_at o table plan ns k).source ≡ source_at ns k
source_is o table plan ns zero = refl
source_is o table plan ns (suc k) = next_source plan.number o table (moment plan k) (both_at o table plan ns k) (source_at ns k)
    (port_event ns (suc k)) (source_is o table plan ns k)

none_there : (ps : List Pair) (p : Pair) → ps ≡ [] → Has ps p → ⊥
none_there ps p h i = both_ways false refl (ap (λ qs. is_member is_same_pair qs p) (sym h) ∙ i)

at_first : (Good : State → Type 0) → Laws Good → (o : Options) (table : Targets) (used : ℕ → Bool) (plan : PortRuns) (ns : List Numbered)
    (last : ℕ) → IsPlanned Good o table used plan ns last → Follows Good plan.number o table used (plan.channel 0) (plan.pairs 0) nothing_yet
at_first Good laws o table used plan ns last given = record {
  notes = tt;
  states = λ c u. same_aside (channel_at quiet c) default_channel (all_default 16 c);
  at_wanted = λ p i. absurd (none_there (plan.pairs 0) p given.start i);
  apart = tt;
  good_source = λ p. given.good 0 p (omega arith);
  source_zones = refl;
  source_settled = record { notes = λ t. refl; channels = refl };
  out_zones = refl;
  out_reached = record { events = []; valid = tt; is = refl };
}

-- at a position of another port rests may end, and nothing else changes
waits : (Good : State → Type 0) (port : ℕ) (o : Options) (table : Targets) (used : ℕ → Bool) (old new : Pair → ℕ) (was is : List Pair) (b : Both) →
    ((p : Pair) → Has is p → Has was p × (new p ≡ old p)) → SoundAmong port o table is b.source.notes →
    Follows Good port o table used old was b → Follows Good port o table used new is b
waits Good port o table used old new was is b h among f =
    let k : Moment = record { was = was; holds = is; is = is; old = old; new = new } in
    let quiet : Quiet k = record {
      held = λ p i. i;
      none = λ p g. both_ways (is_member is_same_pair was p) g.new (h p g.is).0;
      stays =
          λ p i. (h p i).1;
    } in
    record {
      notes = moved_notes port o table k b.source.notes b.out.notes quiet among f.notes;
      states = f.states;
      at_wanted = λ p i. ap b.left (h p i).1 ∙ f.at_wanted p (h p i).0;
      apart = f.apart;
      good_source = f.good_source;
      source_zones = f.source_zones;
      source_settled = f.source_settled;
      out_zones = f.out_zones;
      out_reached = f.out_reached;
    }

pub sound_at : (Good : State → Type 0) (o : Options) (table : Targets) (used : ℕ → Bool) (plan : PortRuns) (ns : List Numbered) (last : ℕ) →
    IsPlanned Good o table used plan ns last → (k : ℕ) → k < last → (e : MidiEvent) → port_event ns (suc k) ≡ Some e →
    IsGiven Good plan.number o table used (moment plan k) (source_at ns k) e
sound_at Good o table used plan ns last given k low e is =
    let next : source_at ns (suc k) ≡ step (source_at ns k) e = ap (source_next (source_at ns k)) is in
    record {
      valid = given.valid k e low is;
      faultless = subst (λ m. kind_in plan.number o table e.tick (source_at ns k) m false (plan.pairs (suc k)) e.what
          ≡ None) next (given.faultless k e low is);
      held = given.held k low;
      there = subst (λ (m : Music). SoundAmong plan.number o table (plan.pairs (suc k)) m.notes) next (given.there (suc k) low);
      once = given.once k low;
      was_there = λ p h. given.was_there k p low h;
      from = λ p i h. subst (λ x. BeginsIf plan.number o table x p) is (given.from k p low i h);
      kept = λ p h i. given.kept k p low h i;
      apart_was = λ p q h g. given.apart k p q (omega arith) h g;
      apart_is = λ p q h g. given.apart (suc k) p q low h g;
      parts = λ p h. given.parts k p (omega arith) h;
      ports_was = λ p h. given.ports k p (omega arith) h;
      ports_is = λ p h. given.ports (suc k) p low h;
      used_was = λ p h. given.used_at k p (omega arith) h;
      used_is = λ p h. given.used_at (suc k) p low h;
      good = λ p. subst (λ m. Good (wanted o table m p)) next (given.good (suc k) p low);
      reset = λ r. given.reset k e low is r;
    }

pub follows_at : (Good : State → Type 0) → Laws Good → (o : Options) (table : Targets) (used : ℕ → Bool) → AreUsed o used → (plan : PortRuns)
    (ns : List Numbered) (last : ℕ) → IsPlanned Good o table used plan ns last →
    (k : ℕ) → k ≤ last → Follows Good plan.number o table used (plan.channel k) (plan.pairs k) (both_at o table plan ns k)
follows_at Good laws o table used row plan ns last given zero low = at_first Good laws o table used plan ns last given
follows_at Good laws o table used row plan ns last given (suc k) low =
    go (follows_at Good laws o table used row plan ns last given k (omega arith)) (port_event ns (suc k)) refl
  where
    b : Both
    b = both_at o table plan ns k

    go : Follows Good plan.number o table used (plan.channel k) (plan.pairs k) (both_at o table plan ns k) → (x : Option MidiEvent) →
        port_event ns (suc k) ≡ x →
        Follows Good plan.number o table used (plan.channel (suc k)) (plan.pairs (suc k))
        (both_next plan.number o table (moment plan k) (both_at o table plan ns k) x)
    go f (Some e) is =
        event_kept Good laws plan.number o table used row (moment plan k) (both_at o table plan ns k) e f
        (subst (λ m. IsGiven Good plan.number o table used (moment plan k) m e) (sym (source_is o table plan ns k))
        (sound_at Good o table used plan ns last given k low e is))
    go f None is =
        let same : source_at ns (suc k) ≡ (both_at o table plan ns k).source = ap (source_next (source_at ns k)) is
        ∙ sym (source_is o table plan ns k) in
        waits Good plan.number o table used (plan.channel k) (plan.channel (suc k)) (plan.pairs k) (plan.pairs (suc k)) (both_at o table plan ns k)
        (λ p i.
        let h : is_member is_same_pair (plan.held (suc k)) p ≡ true = elim (cases_Bool (is_member is_same_pair (plan.held (suc k)) p)) [
          | inl g ↦ g
          | inr g ↦ absurd (subst (λ x. BeginsIf plan.number o table x p) is (given.from k p low i g))
        ] in
        let was : Has (plan.pairs k) p = given.was_there k p low h in
        (was, given.kept k p low was i))
        (subst (λ (m : Music). SoundAmong plan.number o table (plan.pairs (suc k)) m.notes) same (given.there (suc k) low)) f
