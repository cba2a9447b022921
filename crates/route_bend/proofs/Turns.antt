-- What is known around each event of a source with a plan.
use Rattle.std.proofs.Common.{◌≡◌, ◌≢◌, ◌<◌, ◌++◌, ◌&&◌, ◌+◌, ℕ, suc, Bool, true, false, cond, nat_eq, List, [], ◌∷◌, Option, Some, None, length, take, drop, refl, ap, sym, ◌∙◌, subst, arith, inl, inr}
use Rattle.std.specs.Set.{is_member}
use Rattle.std.proofs.lemmas.Bool.{cases_Bool, both_ways, eq-eqb, ne_eqb}
use Rattle.std.proofs.lemmas.List.{take-append-drop, length-take-le}
use Rattle.mt_base.specs.declared.event.Msg.{Msg}
use Rattle.mt_base.specs.Midi.{MidiEvent, Says}
use Rattle.midi_model.specs.WellFormed.{IsWellFormed}
use Rattle.midi_model.specs.Channel.{default_channel}
use Rattle.midi_model.specs.Music.{Music, step, asks}
use Rattle.retune_model.specs.Options.{Options, Route, ByBend, bends_notes, restless}
use Rattle.retune_model.specs.Faults.{Targets, is_part}
use Rattle.retune_model.specs.Pairs.{Pair, is_same_pair, pair_if}
use Rattle.retune_model.specs.Ports.{Numbered, Ascend, of_port, port_at, port_of, ports_from, all_zero, event_at, events_on}
use Rattle.retune_model.specs.PortNeed.{pairs_on}
use Rattle.retune_model.specs.SourceFaults.{kind_in}
use Rattle.retune_model.specs.Rests.{pairs_at, held_at, begun_at, begun_pair, IsAimedPort}
use Rattle.retune_model.specs.RestLaws.{HeldIsThere}
use Rattle.retune_model.specs.FrontLaws.{EventOfNext}
use Rattle.retune_model.specs.PortLaws.{MusicAtAPosition}
use Rattle.retune_model.specs.PlaysTheSame.{begins_note, bend_target_if}
use Rattle.channel_model.specs.BendOutput.{PortRuns, pair_with}
use Rattle.plan_laws.specs.Counting.{ComesAt, NextIsTaken, PairsAreTaken, BegunIsOfEvent}
use Rattle.plan_laws.specs.FromLaws.{HeldHolds}
use Rattle.plan_laws.proofs.Following.{reset_of_event}
use Rattle.bend_laws.specs.Bent.{IsBent}
use Rattle.bend_laws.specs.Follows.{Has, IsGiven, AreUsed}
use Rattle.bend_laws.specs.Moments.{Both, moment}
use Rattle.bend_laws.specs.Positions.{port_event, both_next, both_at}
use Rattle.bend_laws.proofs.Altered.{same_aside}
use Rattle.bend_laws.proofs.Given.{Laws, fine}
use Rattle.bend_laws.proofs.Outputs.{events_if, source_is_played}
use Rattle.bend_laws.proofs.Placing.{event_is}
use Rattle.bend_laws.proofs.Planning.{BeginsIf, IsPlanned}
use Rattle.bend_laws.proofs.Ported.{PortFacts, planned_port}
use Rattle.bend_laws.proofs.Rows.{row_used}
use Rattle.bend_laws.proofs.Shown.{plays_at}
use Rattle.bend_laws.proofs.Simulates.{source_is, sound_at, follows_at}
use Rattle.receiver.proofs.Slots.{music_after}
use Rattle.lifetimes.specs.Told.{port_on, count_begun}
use Rattle.channel_plan.specs.Planned.{need_told, bend_channel, note_ons, notes_to, targets_by, unbent, GivesByBend, GivesChannels}
use Rattle.channel_plan.specs.Told.{channel_in}
use Rattle.channel_plan.specs.declared.plan.Plan.{Plan}
use Rattle.route_bend.specs.Standing.{runs_by, used_by}
use Rattle.route_bend.specs.Turning.{EventsTurn, OthersWait, PositionsAreSeen, NotesAreGiven, NothingIsThere}

-- what is cited of the crates below
pub record Cited : Type 0 where
  pub laws : Laws IsWellFormed
  pub facts : PortFacts
  pub taken : NextIsTaken
  pub pairs : PairsAreTaken
  pub next : EventOfNext
  pub music : MusicAtAPosition
  pub still : HeldIsThere
  pub held : HeldHolds
  pub begun : BegunIsOfEvent

-- ---- the event of a port

some_event : (x : Option MidiEvent) (e : MidiEvent) → events_if x ≡ e ∷ [] → x ≡ Some e
some_event (Some y) e h = (let same : y ≡ e = cc in ap Some same)
some_event None e h = absurd cc

no_event : (x : Option MidiEvent) → events_if x ≡ [] → x ≡ None
no_event (Some y) h = absurd cc
no_event None h = refl

event_next : Cited → (es : List MidiEvent) (z k : ℕ) (e : MidiEvent) → ComesAt es k e →
    event_at (of_port z es) (suc k) ≡ cond (nat_eq (port_on (take k es) e) z) (e ∷ []) []
event_next c es z k e comes =
    let long : length (take k es) ≡ k = (c.taken es k e comes).1 in
    let whole : take k es ++ e ∷ drop (suc k) es ≡ es = ap (λ xs. take k es ++ xs) (sym comes) ∙ take-append-drop k es in
    ap (λ xs. event_at (of_port z xs) (suc k)) (sym whole)
    ∙ ap (λ n. event_at (of_port z (take k es ++ e ∷ drop (suc k) es)) (suc n)) (sym long)
    ∙ c.next (take k es) e (drop (suc k) es) z

event_here : Cited → (es : List MidiEvent) (z k : ℕ) (e : MidiEvent) → ComesAt es k e → Ascend 0 (of_port z es) → z ≡ port_on (take k es) e →
    port_event (of_port z es) (suc k) ≡ Some e
event_here c es z k e comes rising at =
    some_event (port_event (of_port z es) (suc k)) e (sym (event_is 0 (of_port z es) rising (suc k)) ∙ event_next c es z k e comes
    ∙ ap (λ b. cond b (e ∷ []) []) (eq-eqb (port_on (take k es) e) z (sym at)))

event_elsewhere : Cited → (es : List MidiEvent) (z k : ℕ) (e : MidiEvent) → ComesAt es k e → Ascend 0 (of_port z es) → z ≢ port_on (take k es) e →
    port_event (of_port z es) (suc k) ≡ None
event_elsewhere c es z k e comes rising at =
    no_event (port_event (of_port z es) (suc k)) (sym (event_is 0 (of_port z es) rising (suc k)) ∙ event_next c es z k e comes
    ∙ ap (λ b. cond b (e ∷ []) []) (ne_eqb (port_on (take k es) e) z (λ s. at (sym s))))

-- ---- around an event of the port

zone_free : (z : ℕ) (o : Options) (table : Targets) (m after : Music) (pairs : List Pair) (t : ℕ) (msg : Msg) → Laws IsWellFormed →
    kind_in z o table t m after false pairs (Says msg) ≡ None → asks m msg ≡ None
zone_free z o table m after pairs t msg laws h = laws.zones o m msg (fine z o table m after pairs t msg h).zone

pub turns : Cited → EventsTurn
turns c o allowed table es plan k e z at =
    let need : ℕ → ℕ = need_told o table es in
    let channel : ℕ → ℕ → Pair → ℕ = bend_channel o allowed table es plan in
    let b : IsBent o allowed table es need channel = at.bending.bent in
    let used : ℕ → Bool = used_by o allowed table es z in
    let runs : PortRuns = runs_by o allowed table es plan z in
    let ns : List Numbered = of_port z es in
    let planned : IsPlanned IsWellFormed o table used runs ns (length es) = planned_port c.facts o allowed table es need channel b z in
    let row : AreUsed o used = row_used o allowed (need z) b.route in
    let rising : Ascend 0 ns = (c.facts.timed z es b.sound.in_order).ascend in
    let here : port_event ns (suc k) ≡ Some e = event_here c es z k e at.comes rising at.port in
    let both : Both = both_at o table runs ns k in
    let low : k < length es = at.within in
    let sound : IsGiven IsWellFormed z o table used (moment runs k) both.source e =
    subst (λ m. IsGiven IsWellFormed z o table used (moment runs k) m e) (sym (source_is o table runs ns k))
    (sound_at IsWellFormed o table used runs ns (length es) planned k low e here) in
    let aimed : IsAimedPort o (is_part o) table (port_at es z) = c.facts.aimed o (is_part o) table es z (λ d h. h) b.sound in
    record {
      row = row;
      follows = follows_at IsWellFormed c.laws o table used row runs ns (length es) planned k (omega (arith, low));
      sound = sound;
      shows = plays_at IsWellFormed c.laws o table used row runs ns (length es) planned k (omega (arith, low));
      next = ap (both_next z o table (moment runs k) both) here;
      zones = λ m is. zone_free z o table both.source (step both.source e) (runs.pairs (suc k)) e.tick m c.laws
          (subst (λ w. kind_in z o table e.tick both.source (step both.source e) false (runs.pairs (suc k)) w ≡ None) is sound.faultless);
      still = λ none. (
          let same : restless o ≡ o = ap (λ t. record o { tail = t }) (sym none) in
          ap (λ x. held_at x (is_part o) table (port_at es z) (suc k)) (sym same)
          ∙ c.still o (is_part o) table (port_at es z) (c.facts.timed z es b.sound.in_order) k
          ∙ ap (λ x. pairs_at x (is_part o) table (port_at es z) k) same);
      rests = λ some none p h. c.held o (is_part o) table (port_at es z) k p aimed some
          (reset_of_event c.taken c.next es z k e at.comes ∙ ap (λ r. nat_eq (port_of (ports_from all_zero (take k es)) e) z && r) none
          ∙ nothing_and (nat_eq (port_of (ports_from all_zero (take k es)) e) z)) h;
    }
  where
    nothing_and : (x : Bool) → (x && false) ≡ false
    nothing_and true = refl
    nothing_and false = refl

-- ---- around an event of another port

pub waits : Cited → OthersWait
waits c o allowed table es plan k e z y at other =
    let need : ℕ → ℕ = need_told o table es in
    let channel : ℕ → ℕ → Pair → ℕ = bend_channel o allowed table es plan in
    let b : IsBent o allowed table es need channel = at.bending.bent in
    let used : ℕ → Bool = used_by o allowed table es y in
    let runs : PortRuns = runs_by o allowed table es plan y in
    let ns : List Numbered = of_port y es in
    let planned : IsPlanned IsWellFormed o table used runs ns (length es) = planned_port c.facts o allowed table es need channel b y in
    let rising : Ascend 0 ns = (c.facts.timed y es b.sound.in_order).ascend in
    let none : port_event ns (suc k) ≡ None = event_elsewhere c es y k e at.comes rising (λ s. other (s ∙ sym at.port)) in
    let low : k < length es = at.within in
    let held : (p : Pair) → Has (runs.pairs (suc k)) p → Has (runs.held (suc k)) p = λ p i.
    elim (cases_Bool (is_member is_same_pair (runs.held (suc k)) p)) [
      | inl g ↦ g
      | inr g ↦ absurd (subst (λ x. BeginsIf y o table x p) none (planned.from k p low i g))
    ] in
    let was : (p : Pair) → Has (runs.pairs (suc k)) p → Has (runs.pairs k) p = λ p i. planned.was_there k p low (held p i) in
    record {
      same = ap (both_next y o table (moment runs k) (both_at o table runs ns k)) none;
      there = was;
      kept = λ p i. planned.kept k p low (was p i) i;
    }

-- ---- what the parts tell

pub sees : Cited → PositionsAreSeen
sees c o allowed table es plan z k bending low =
    let b : IsBent o allowed table es (need_told o table es) (bend_channel o allowed table es plan) = bending.bent in
    let runs : PortRuns = runs_by o allowed table es plan z in
    let ns : List Numbered = of_port z es in
    let rising : Ascend 0 ns = (c.facts.timed z es b.sound.in_order).ascend in
    record {
      music = music_after (events_on z (take k es)) ∙ sym (c.music z es k) ∙ sym (source_is_played o table runs ns k rising);
      held = λ p at. ap (λ y. is_member is_same_pair (pairs_on o (is_part o) table (take k es) y (length (take k es))) p) at
          ∙ ap (λ n. is_member is_same_pair (pairs_on o (is_part o) table (take k es) z n) p) (length-take-le k es low)
          ∙ ap (λ ps. is_member is_same_pair ps p) (c.pairs o (is_part o) table es z k k (omega arith) low);
    }

-- ---- the channel of a note that begins

counted : (o : Options) (xs : List MidiEvent) → count_begun o xs ≡ length (note_ons o xs)
counted o [] = refl
counted o (y ∷ xs) = pick (begins_note (is_part o) y.what) (counted o xs)
  where
    pick : (b : Bool) → count_begun o xs ≡ length (note_ons o xs) → cond b 1 0 + count_begun o xs ≡ length
        (cond b (y ∷ note_ons o xs) (note_ons o xs))
    pick true h = omega (arith, h)
    pick false h = omega (arith, h)

one_note_more : (o : Options) (xs : List MidiEvent) (e : MidiEvent) → begins_note (is_part o) e.what ≡ true →
    length (note_ons o (xs ++ e ∷ [])) ≡ suc (length (note_ons o xs))
one_note_more o [] e h = ap (λ b. length (cond b (e ∷ []) [])) h
one_note_more o (y ∷ xs) e h = pick (begins_note (is_part o) y.what) (one_note_more o xs e h)
  where
    pick : (b : Bool) → length (note_ons o (xs ++ e ∷ [])) ≡ suc (length (note_ons o xs)) →
        length (cond b (y ∷ note_ons o (xs ++ e ∷ [])) (note_ons o (xs ++ e ∷ []))) ≡ suc (length (cond b (y ∷ note_ons o xs) (note_ons o xs)))
    pick true g = ap suc g
    pick false g = g

pub given_by : (o : Options) (allowed : ℕ → Bool) (table : Targets) (es : List MidiEvent) (plan : Plan) (r : Route) → r ≡ ByBend →
    GivesChannels r o allowed table es plan → (z : ℕ) → GivesByBend o allowed table es plan z
given_by o allowed table es plan r bend h = subst (λ y. GivesChannels y o allowed table es plan) bend h

pub gives : Cited → NotesAreGiven
gives c o allowed table es plan k e z d j v x at what part aim =
    let bend : o.route ≡ ByBend = at.bending.bent.route in
    let p : Pair = pair_with z d x in
    let plan_gives : GivesByBend o allowed table es plan z = given_by o allowed table es plan o.route bend at.bending.planned.channels z in
    let by : targets_by o table ≡ table = ap (λ r. cond (bends_notes r) table unbent) bend in
    let begins : begun_at o (is_part o) (targets_by o table) (port_at es z) (suc k) ≡ p ∷ [] =
    ap (λ y. begun_at o (is_part o) y (port_at es z) (suc k)) by
    ∙ c.begun o (is_part o) table es z k e at.comes
    ∙ ap (λ b. cond b (begun_pair z o (is_part o) table e.tick e.what) []) (eq-eqb (port_on (take k es) e) z (sym at.port))
    ∙ ap (begun_pair z o (is_part o) table e.tick) what
    ∙ ap (λ b. cond b (pair_if z d (bend_target_if o.range (table j e.tick)) []) []) part
    ∙ ap (λ y. pair_if z d y []) aim in
    let note : begins_note (is_part o) e.what ≡ true = ap (begins_note (is_part o)) what ∙ part in
    let number : suc (count_begun o (take k es)) ≡ notes_to o es (suc k) =
    ap suc (counted o (take k es)) ∙ sym (one_note_more o (take k es) e note) ∙ ap (λ xs. length (note_ons o xs)) (sym (c.taken es k e at.comes).0) in
    ap (channel_in plan) number ∙ plan_gives.given (suc k) p begins

-- ---- the start

pub starts : Cited → NothingIsThere
starts c o allowed table es plan z bending =
    let planned : IsPlanned IsWellFormed o table (used_by o allowed table es z) (runs_by o allowed table es plan z) (of_port z es) (length es) =
    planned_port c.facts o allowed table es (need_told o table es) (bend_channel o allowed table es plan) bending.bent z in
    record {
      none = λ p i. both_ways false refl (ap (λ ps. is_member is_same_pair ps p) (sym planned.start) ∙ i);
      own = λ d u. same_aside default_channel default_channel refl;
    }
