-- No part of a source without a fault has more than 16 parameters that count; so neither has what a pair needs, nor a channel as it is
-- left.
use Rattle.std.proofs.Common.{◌≡◌, ◌≤◌, ◌||◌, ℕ, zero, suc, Bool, true, false, cond, List, [], ◌∷◌, Option, Some, None, refl, ap, sym, ◌∙◌, subst, filter, length, nat_eq, nat_lt, arith, inl, inr}
use Rattle.std.proofs.lemmas.Bool.{cases_Bool, cases_eq, cond_both, eqb-true, ltb-false, and_from}
use Rattle.std.proofs.lemmas.List.{get_or-set_other}
use Rattle.retune_model.specs.Pairs.{Pair}
use Rattle.mt_base.specs.declared.event.Msg.{Msg}
use Rattle.mt_base.specs.Midi.{MidiWhat, Says, SysexOf, MetaOf, MidiEvent, channel_of}
use Rattle.midi_model.specs.WellFormed.{IsWellFormed}
use Rattle.midi_model.specs.Sysex.{doing}
use Rattle.midi_model.specs.Params.{Entry, rank, counts, pair_eq, default_value, rpn, with_front, put}
use Rattle.midi_model.specs.Channel.{Channel, default_channel, counted, apply}
use Rattle.midi_model.specs.Music.{Music, channel_at, asks, advance, step}
use Rattle.retune_model.specs.FaultLaws.{OnlyZoneEntriesAskForZones}
use Rattle.retune_model.specs.Options.{Options}
use Rattle.retune_model.specs.Faults.{Targets, is_part}
use Rattle.retune_model.specs.Ports.{Numbered, resets}
use Rattle.retune_model.specs.SourceFaults.{has_too_many, message_tests, kind_in}
use Rattle.channel_model.specs.Choice.{wanted}
use Rattle.channel_model.specs.BendOutput.{PortRuns}
use Rattle.bend_laws.specs.Moments.{left_after, moment, Both}
use Rattle.bend_laws.specs.Follows.{Has}
use Rattle.bend_laws.specs.Positions.{port_event, both_next, both_at}
use Rattle.bend_laws.proofs.Planning.{source_next, source_at, IsPlanned}
use Rattle.bend_laws.proofs.Given.{IsFine, fine}
use Rattle.retune_model.proofs.Faulty.{none_holds}
use Rattle.bend_laws.proofs.Turned.{said}
use Rattle.bend_laws.proofs.Altered.{all_default, is_resets}
use Rattle.bend_laws.proofs.Still.{IsPassed, no_change, no_message}
use Rattle.bend_laws.proofs.Stepping.{BeginsAt, left_cases}
use Rattle.bend_laws.proofs.Simulates.{source_is}

-- ---- the bend sensitivity is no parameter that counts

front_counted : (v : ℕ × ℕ) (es : List Entry) → filter counts (with_front (rpn 0) v es) ≡ filter counts es
front_counted v es =
    cond_both (pair_eq v (default_value (rpn 0))) es (record { parameter = rpn 0; value = v } ∷ es) (λ xs. filter counts xs ≡ filter counts es)
    (λ e. refl) (λ e. refl)

uncounted : (e : Entry) → nat_eq (rank e.parameter) 0 ≡ true → counts e ≡ false
uncounted e h = ap (λ n. nat_lt 6 n || nat_eq n 4) (eqb-true (rank e.parameter) 0 h)

put_counted : (v : ℕ × ℕ) (es : List Entry) → filter counts (put (rpn 0) v es) ≡ filter counts es
put_counted v [] = front_counted v []
put_counted v (e ∷ es) =
    let later : List Entry = cond (nat_eq (rank e.parameter) 0) es (e ∷ es) in
    let same : filter counts later ≡ filter counts (e ∷ es) =
    cond_both (nat_eq (rank e.parameter) 0) es (e ∷ es) (λ xs. filter counts xs ≡ filter counts (e ∷ es))
    (λ z. sym (ap (λ b. cond b (e ∷ filter counts es) (filter counts es)) (uncounted e z))) (λ z. refl) in
    cond_both (nat_lt (rank e.parameter) 0) (e ∷ put (rpn 0) v es) (with_front (rpn 0) v later) (λ xs. filter counts xs ≡ filter counts (e ∷ es))
    (λ z. ap (λ l. cond (counts e) (e ∷ l) l) (put_counted v es)) (λ z. front_counted v later ∙ same)

-- ---- the source

abbrev pub AreRoomy : Options → Music → Type 0
AreRoomy o m = (c : ℕ) → is_part o c ≡ true → counted (channel_at m c) ≤ 16

pub wanted_roomy : (o : Options) (table : Targets) (m : Music) (p : Pair) → AreRoomy o m → is_part o p.part.channel ≡ true →
    counted (wanted o table m p).own ≤ 16
wanted_roomy o table m p h part =
    let same : counted (wanted o table m p).own ≡ counted (channel_at m p.part.channel) = ap length
    (put_counted (o.range, 0) (channel_at m p.part.channel).params) in
    omega (arith, same, h p.part.channel part)

default_roomy : counted default_channel ≤ 16
default_roomy = omega arith

-- the message's own channel, by the fault that it hasn't
own_roomy : (port : ℕ) (o : Options) (table : Targets) (m after : Music) (pairs : List Pair) (t : ℕ) (msg : Msg) →
    kind_in port o table t m after false pairs (Says msg) ≡ None → is_part o (channel_of msg) ≡ true →
    counted (channel_at after (channel_of msg)) ≤ 16
own_roomy port o table m after pairs t msg e part =
    let h = none_holds (message_tests port o table t m after false pairs msg) e in
    let few : has_too_many o after msg ≡ false = h.1.1.1.1.1.1.1.1.1.0 in
    let n : ℕ = counted (channel_at after (channel_of msg)) in
    elim (cases_Bool (nat_lt 16 n)) [
      | inl many ↦ absurd (let is : has_too_many o after msg ≡ true = and_from (is_part o (channel_of msg)) (nat_lt 16 n) part many in cc)
      | inr fits ↦ ltb-false 16 n fits
    ]

message_roomy : OnlyZoneEntriesAskForZones → (port : ℕ) (o : Options) (table : Targets) (m : Music) (pairs : List Pair) (t : ℕ) (msg : Msg) →
    kind_in port o table t m (advance t (doing (Says msg)) m) false pairs (Says msg) ≡ None → AreRoomy o m →
    AreRoomy o (advance t (doing (Says msg)) m)
message_roomy zones port o table m pairs t msg e h c part =
    let after : Music = advance t (doing (Says msg)) m in
    let fit : IsFine port o table m after pairs t msg = fine port o table m after pairs t msg e in
    let none : asks m msg ≡ None = zones o m msg fit.zone in
    elim (cases_eq c (channel_of msg)) [
      | inl same ↦ subst (λ d. counted (channel_at after d) ≤ 16) (sym same)
          (own_roomy port o table m after pairs t msg e (ap (is_part o) (sym same) ∙ part))
      | inr other ↦ (let kept : channel_at after c ≡ channel_at m c = ap (λ (x : Music). channel_at x c) (said m t msg none)
          ∙ get_or-set_other m.channels (channel_of msg) c (apply (channel_at m (channel_of msg)) msg) default_channel other in
          subst (λ s. counted s ≤ 16) (sym kept) (h c part))
    ]

passed_roomy : (o : Options) (m : Music) (t : ℕ) (w : MidiWhat) → IsPassed w → AreRoomy o m → AreRoomy o (advance t (doing w) m)
passed_roomy o m t w passed h c part = elim (cases_Bool (resets (doing w))) [
  | inl r ↦ (let to : channel_at (advance t (doing w) m) c ≡ default_channel =
      ap (λ d. channel_at (advance t d m) c) (is_resets (doing w) r) ∙ all_default 16 c in
      subst (λ s. counted s ≤ 16) (sym to) default_roomy)
  | inr r ↦ subst (λ (x : Music). counted (channel_at x c) ≤ 16) (sym (no_change m t (doing w) r (no_message w passed))) (h c part)
]

event_roomy : OnlyZoneEntriesAskForZones → (port : ℕ) (o : Options) (table : Targets) (m : Music) (pairs : List Pair) (t : ℕ) (w : MidiWhat) →
    kind_in port o table t m (advance t (doing w) m) false pairs w ≡ None → AreRoomy o m → AreRoomy o (advance t (doing w) m)
event_roomy zones port o table m pairs t (Says msg) e h = message_roomy zones port o table m pairs t msg e h
event_roomy zones port o table m pairs t (SysexOf lead bytes) e h = passed_roomy o m t (SysexOf lead bytes) tt h
event_roomy zones port o table m pairs t (MetaOf kind bytes) e h = passed_roomy o m t (MetaOf kind bytes) tt h

pub source_roomy : OnlyZoneEntriesAskForZones → (o : Options) (table : Targets) (used : ℕ → Bool) (plan : PortRuns) (ns : List Numbered)
    (last : ℕ) → IsPlanned IsWellFormed o table used plan ns last → (k : ℕ) → k ≤ last → AreRoomy o (source_at ns k)
source_roomy zones o table used plan ns last given zero low = λ c part. subst (λ s. counted s ≤ 16) (sym (all_default 16 c)) default_roomy
source_roomy zones o table used plan ns last given (suc k) low =
    go (port_event ns (suc k)) refl (source_roomy zones o table used plan ns last given k (omega arith))
  where
    go : (x : Option MidiEvent) → port_event ns (suc k) ≡ x → AreRoomy o (source_at ns k) → AreRoomy o (source_next (source_at ns k) x)
    go None is h = h
    go (Some e) is h =
        event_roomy zones plan.number o table (source_at ns k) (plan.pairs (suc k)) e.tick e.what
        (subst (λ x. kind_in plan.number o table e.tick (source_at ns k) (source_next (source_at ns k) x) false (plan.pairs (suc k)) e.what ≡ None) is
        (given.faultless k e low is)) h

-- ---- how channels are left

left_next : (o : Options) (table : Targets) (plan : PortRuns) (k : ℕ) (after : Music) (r : Bool) (left : ℕ → Channel) →
    ((p : Pair) → BeginsAt (moment plan k) p → counted (wanted o table after p).own ≤ 16) →
    ((p : Pair) → Has (plan.held (suc k)) p → counted (wanted o table after p).own ≤ 16) →
    ((c : ℕ) → counted (left c) ≤ 16) → (c : ℕ) → counted (left_after o table (moment plan k) after r left c) ≤ 16
left_next o table plan k after true left f g h c = default_roomy
left_next o table plan k after false left f g h c =
    left_cases o table (moment plan k) after left c (λ s. counted s ≤ 16) (λ p begins on. f p begins) (λ none p holds on. g p holds)
    (λ none free. h c)

pub left_roomy : OnlyZoneEntriesAskForZones → (o : Options) (table : Targets) (used : ℕ → Bool) (plan : PortRuns) (ns : List Numbered)
    (last : ℕ) → IsPlanned IsWellFormed o table used plan ns last → (k : ℕ) → k ≤ last → (c : ℕ) →
    counted ((both_at o table plan ns k).left c) ≤ 16
left_roomy zones o table used plan ns last given zero low = λ c. default_roomy
left_roomy zones o table used plan ns last given (suc k) low =
    go (port_event ns (suc k)) refl (left_roomy zones o table used plan ns last given k (omega arith))
  where
    b : Both
    b = both_at o table plan ns k

    go : (x : Option MidiEvent) → port_event ns (suc k) ≡ x → ((c : ℕ) → counted (b.left c) ≤ 16) → (c : ℕ) →
        counted ((both_next plan.number o table (moment plan k) b x).left c) ≤ 16
    go None is h = h
    go (Some e) is h =
        let next : source_at ns (suc k) ≡ step b.source e =
        ap (source_next (source_at ns k)) is ∙ ap (λ m. step m e) (sym (source_is o table plan ns k)) in
        let roomy : AreRoomy o (step b.source e) = subst (AreRoomy o) next (source_roomy zones o table used plan ns last given (suc k) low) in
        left_next o table plan k (step b.source e) (resets (doing e.what)) b.left
        (λ p begins. wanted_roomy o table (step b.source e) p roomy (given.parts (suc k) p low begins.is))
        (λ p holds. wanted_roomy o table (step b.source e) p roomy (given.parts k p (omega arith) (given.was_there k p low holds))) h
