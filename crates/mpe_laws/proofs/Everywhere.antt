-- The relation at every position.
use Rattle.std.proofs.Common.{◌≡◌, ◌<◌, ◌≤◌, arith, ℕ, zero, suc, Bool, true, false, List, [], ◌∷◌, ◌++◌, Option, Some, None, refl, ap, sym, ◌∙◌, subst, inl, inr}
use Rattle.std.specs.Set.{is_member}
use Rattle.std.proofs.lemmas.Bool.{cases_Bool, both_ways}
use Rattle.mt_base.specs.declared.event.Msg.{Msg}
use Rattle.mt_base.specs.Midi.{MidiWhat, Says, SysexOf, MetaOf, MidiEvent}
use Rattle.midi_model.specs.Sysex.{Doing, Plays, Resets, Tunes, Nothing, doing}
use Rattle.midi_model.specs.Music.{Music, quiet, channel_at, advance, step, play}
use Rattle.midi_model.specs.MusicLaws.{IsSettled}
use Rattle.retune_model.specs.Options.{Options}
use Rattle.retune_model.specs.Routes.{dump_next}
use Rattle.retune_model.specs.Faults.{Targets}
use Rattle.retune_model.specs.Ports.{Numbered}
use Rattle.retune_model.specs.SourceFaults.{kind_in}
use Rattle.retune_model.specs.Pairs.{Pair, is_same_pair}
use Rattle.channel_model.specs.BendOutput.{placed_at, PortRuns}
use Rattle.channel_model.specs.MpeOutput.{Zone, Zoned, setup_before, setup_behind, mpe_causes, mpe_block}
use Rattle.bend_laws.specs.Moments.{Moment, moment}
use Rattle.bend_laws.specs.Follows.{Has, SoundAmong}
use Rattle.bend_laws.specs.Positions.{port_event}
use Rattle.bend_laws.proofs.Planning.{source_next, source_at, BeginsIf}
use Rattle.bend_laws.proofs.Playing.{play_append, settled_play}
use Rattle.bend_laws.proofs.Stepping.{Quiet, moved_notes}
use Rattle.bend_laws.proofs.Altered.{all_default}
use Rattle.bend_laws.proofs.Changing.{said_at}
use Rattle.bend_laws.proofs.Still.{IsPassed, no_message, none_passed}
use Rattle.mpe_laws.specs.Zoned.{AreZones, SetsUp}
use Rattle.mpe_laws.specs.Follows.{Follows, IsGiven}
use Rattle.mpe_laws.specs.Positions.{zoned_next, zoned_at, FollowsAt}
use Rattle.mpe_laws.proofs.Planning.{IsPlanned}
use Rattle.mpe_laws.proofs.Standing.{Laws}
use Rattle.mpe_laws.proofs.Passing.{setup_of, set_up_follows}
use Rattle.mpe_laws.proofs.Happenings.{event_kept}

-- what is given of an event of the port
pub given_at : (o : Options) (table : Targets) (zones : List Zone) (plan : PortRuns) (ns : List Numbered) (last : ℕ) →
    IsPlanned o table zones plan ns last → (k : ℕ) → k < last → (m : Music) → m ≡ source_at ns k → (e : MidiEvent) →
    port_event ns (suc k) ≡ Some e → IsGiven plan.number o table zones (moment plan k) m e
given_at o table zones plan ns last g k low m is e h =
    let low_k : k ≤ last = omega (arith, low) in
    let low_s : suc k ≤ last = omega (arith, low) in
    let next : source_at ns (suc k) ≡ step (source_at ns k) e = ap (source_next (source_at ns k)) h in
    subst (λ x. IsGiven plan.number o table zones (moment plan k) x e) (sym is) (record {
      valid = g.valid k e low h;
      faultless = subst (λ x. kind_in plan.number o table e.tick (source_at ns k) x false (plan.pairs (suc k)) e.what ≡ None) next
          (g.faultless k e low h);
      held = g.held k low;
      there = subst (λ (x : Music). SoundAmong plan.number o table (plan.pairs (suc k)) x.notes) next (g.there (suc k) low_s);
      was_there = λ p i. g.was_there k p low i;
      from = λ p i j. subst (λ x. BeginsIf plan.number o table x p) h (g.from k p low i j);
      kept = λ p i j. g.kept k p low i j;
      apart_was = λ p q i j s. g.apart k p q low_k i j s;
      apart_is = λ p q i j s. g.apart (suc k) p q low_s i j s;
      member_was = λ p i. g.member k p low_k i;
      member_is = λ p i. g.member (suc k) p low_s i;
      reset = λ r. g.reset k e low h r;
    })

-- ---- the first message

first_block : (port : ℕ) (o : Options) (table : Targets) (zones : List Zone) (k : Moment) (m x : Music) (t track : ℕ) (msg : Msg) →
    (let e : MidiEvent = said_at t track msg in let y : Music = play x (placed_at e (setup_of o zones)) in play x
    (mpe_block port o table zones k.was false m x k.old k.new e) ≡ play y (mpe_block port o table zones k.was true m y k.old k.new e))
first_block port o table zones k m x t track msg = play_append x (placed_at (said_at t track msg) (setup_of o zones)) (placed_at
    (said_at t track msg) (mpe_causes port o table zones k.was m (play x (placed_at (said_at t track msg) (setup_of o zones))) k.old k.new t
    (Says msg) ++ []))

pub quiet_settled : IsSettled quiet
quiet_settled = record { notes = λ t. refl; channels = refl }

pub set_up : Laws → (port : ℕ) (o : Options) (table : Targets) (zones : List Zone) → SetsUp o zones → (place : Pair → ℕ) (there : List Pair)
    (e : MidiEvent) → ((p : Pair) → Has there p → ⊥) → Follows port o table zones place there quiet (play quiet (placed_at e (setup_of o zones)))
set_up laws port o table zones sets place there e none = set_up_follows laws port o table zones place there quiet (play quiet (placed_at e
    (setup_of o zones))) [] (sets e [] tt) (settled_play laws.settle quiet (placed_at e (setup_of o zones)) quiet_settled) tt tt tt
    (all_default 16) refl quiet_settled none

-- before it nothing changes
pub quiet_stays : (t : ℕ) (d : Doing) → ((msg : Msg) → d ≡ Plays msg → ⊥) → advance t d quiet ≡ quiet
quiet_stays t (Plays msg) h = absurd (h msg refl)
quiet_stays t Resets h = refl
quiet_stays t (Tunes r) h = refl
quiet_stays t Nothing h = refl

pub no_setup : (setup : List MidiWhat) (d : Doing) → ((msg : Msg) → d ≡ Plays msg → ⊥) → setup_before setup false d ≡ []
no_setup setup (Plays msg) h = absurd (h msg refl)
no_setup setup Resets h = refl
no_setup setup (Tunes r) h = refl
no_setup setup Nothing h = refl

pub none_behind : (setup : List MidiWhat) (d : Doing) → setup_behind setup false d ≡ []
none_behind setup (Plays msg) = refl
none_behind setup Resets = refl
none_behind setup (Tunes r) = refl
none_behind setup Nothing = refl

stays_unbegun : (b : Bool) (d : Doing) → ((msg : Msg) → d ≡ Plays msg → ⊥) → dump_next b d ≡ b
stays_unbegun b (Plays msg) h = absurd (h msg refl)
stays_unbegun b Resets h = refl
stays_unbegun b (Tunes r) h = refl
stays_unbegun b Nothing h = refl

abbrev pub what_at : ℕ → ℕ → MidiWhat → MidiEvent
what_at t track w = record { tick = t; track = track; what = w }

quiet_block : (port : ℕ) (o : Options) (table : Targets) (zones : List Zone) (k : Moment) (m : Music) (t track : ℕ) (w : MidiWhat) → IsPassed w →
    play quiet (mpe_block port o table zones k.was false m quiet k.old k.new (what_at t track w)) ≡ quiet
quiet_block port o table zones k m t track (Says msg) h = absurd h
quiet_block port o table zones k m t track (SysexOf lead bytes) h =
    let w : MidiWhat = SysexOf lead bytes in
    ap (λ ws. play quiet (placed_at (what_at t track w) ws ++ placed_at (what_at t track w) (w ∷ setup_behind (setup_of o zones) false
    (doing w)))) (no_setup (setup_of o zones) (doing w) (no_message w tt))
    ∙ ap (λ ws. play (step quiet (what_at t track w)) (placed_at (what_at t track w) ws)) (none_behind (setup_of o zones) (doing w))
    ∙ quiet_stays t (doing w) (no_message w tt)
quiet_block port o table zones k m t track (MetaOf kind bytes) h = refl

-- ---- from position to position

-- with the music of the source
record Stands (o : Options) (table : Targets) (zones : List Zone) (plan : PortRuns) (ns : List Numbered) (k : ℕ) (s : Zoned) : Type 0 where
  source : s.source ≡ source_at ns k
  follows : FollowsAt o table zones plan k s

abbrev Next : Options → Targets → List Zone → PortRuns → List Numbered → ℕ → Zoned → MidiEvent → Type 0
Next o table zones plan ns k s e = Stands o table zones plan ns (suc k) (zoned_next o table zones plan k s (Some e))

passed_next : (o : Options) (table : Targets) (zones : List Zone) (plan : PortRuns) (ns : List Numbered) (k : ℕ) (m x : Music) (t track : ℕ)
    (w : MidiWhat) → IsPassed w → m ≡ quiet → x ≡ quiet → ((p : Pair) → Has (plan.pairs k) p → ⊥) →
    step m (what_at t track w) ≡ source_at ns (suc k) → IsGiven plan.number o table zones (moment plan k) m (what_at t track w) →
    Next o table zones plan ns k (record { source = m; out = x; begun = false }) (what_at t track w)
passed_next o table zones plan ns k m x t track w passed hm hx none is sound =
    let e : MidiEvent = what_at t track w in
    let K : Moment = moment plan k in
    record {
      source = is;
      follows = record {
        before = λ f. (
          ap (λ n. step n e) hm ∙ quiet_stays t (doing w) (no_message w passed),
          (
            ap (λ n. play n (mpe_block plan.number o table zones K.was false m n K.old K.new e)) hx
                ∙ quiet_block plan.number o table zones K m t track w passed,
            λ p i. elim (cases_Bool (is_member is_same_pair K.holds p)) [
              | inl h ↦ none p (sound.was_there p h)
              | inr h ↦ none_passed plan.number o table t w passed p (sound.from p i h)
            ],
          ),
        );
        after = λ f. absurd (both_ways (dump_next false (doing w)) (stays_unbegun false (doing w) (no_message w passed)) f);
      };
    }

unbegun_next : Laws → (o : Options) (table : Targets) (zones : List Zone) → AreZones o zones → SetsUp o zones → (plan : PortRuns)
    (ns : List Numbered) (k : ℕ) (m x : Music) (t track : ℕ) (w : MidiWhat) → m ≡ quiet → x ≡ quiet → ((p : Pair) → Has (plan.pairs k) p → ⊥) →
    step m (what_at t track w) ≡ source_at ns (suc k) → IsGiven plan.number o table zones (moment plan k) m (what_at t track w) →
    Next o table zones plan ns k (record { source = m; out = x; begun = false }) (what_at t track w)
unbegun_next laws o table zones row sets plan ns k m x t track (Says msg) hm hx none is sound =
    let e : MidiEvent = said_at t track msg in
    let K : Moment = moment plan k in
    let y : Music = play quiet (placed_at e (setup_of o zones)) in
    let sound_q : IsGiven plan.number o table zones K quiet e = subst (λ n. IsGiven plan.number o table zones K n e) hm sound in
    let kept : Follows plan.number o table zones K.new K.is (step quiet e) (play y
    (mpe_block plan.number o table zones K.was true quiet y K.old K.new e)) = event_kept laws plan.number o table zones row sets K quiet y e
    (set_up laws plan.number o table zones sets K.old K.was e none) sound_q in
    record {
      source = is;
      follows = record {
        before = λ f. absurd (both_ways true f refl);
        after = λ f. subst (λ n. Follows plan.number o table zones K.new K.is (step n e) (play x
            (mpe_block plan.number o table zones K.was false n x K.old K.new e))) (sym hm)
            (subst (λ n. Follows plan.number o table zones K.new K.is (step quiet e) (play n
            (mpe_block plan.number o table zones K.was false quiet n K.old K.new e))) (sym hx)
            (subst (Follows plan.number o table zones K.new K.is (step quiet e)) (sym
            (first_block plan.number o table zones K quiet quiet t track msg)) kept));
      };
    }
unbegun_next laws o table zones row sets plan ns k m x t track
    (SysexOf lead bytes) hm hx none is sound = passed_next o table zones plan ns k m x t track (SysexOf lead bytes) tt hm hx none is sound
unbegun_next laws o table zones row sets plan ns k m x t track
    (MetaOf kind bytes) hm hx none is sound = passed_next o table zones plan ns k m x t track (MetaOf kind bytes) tt hm hx none is sound

stays_begun : (d : Doing) → dump_next true d ≡ true
stays_begun (Plays msg) = refl
stays_begun Resets = refl
stays_begun (Tunes r) = refl
stays_begun Nothing = refl

event_next : Laws → (o : Options) (table : Targets) (zones : List Zone) → AreZones o zones → SetsUp o zones → (plan : PortRuns)
    (ns : List Numbered) (last : ℕ) → IsPlanned o table zones plan ns last → (k : ℕ) → k < last → (m x : Music) (begun : Bool) (e : MidiEvent) →
    port_event ns (suc k) ≡ Some e →
    Stands o table zones plan ns k (record { source = m; out = x; begun = begun }) → Next o table zones plan ns k
    (record { source = m; out = x; begun = begun }) e
event_next laws o table zones row sets plan ns last g k low m x false e h f =
    let quiet_now = f.follows.before refl in
    unbegun_next laws o table zones row sets plan ns k m x e.tick e.track e.what quiet_now.0 quiet_now.1.0 quiet_now.1.1 (ap
    (λ n. step n e) f.source ∙ sym (ap (source_next (source_at ns k)) h)) (given_at o table zones plan ns last g k low m f.source e h)
event_next laws o table zones row sets plan ns last g k low m x true e h f = record {
  source = ap (λ n. step n e) f.source ∙ sym (ap (source_next (source_at ns k)) h);
  follows = record {
    before = λ i. absurd (both_ways (dump_next true (doing e.what)) i (stays_begun (doing e.what)));
    after = λ i. event_kept laws plan.number o table zones row sets (moment plan k) m x e (f.follows.after refl)
        (given_at o table zones plan ns last g k low m f.source e h);
  };
}

-- where the port has no event nothing changes: what is there was there
rest_next : (o : Options) (table : Targets) (zones : List Zone) (plan : PortRuns) (ns : List Numbered) (last : ℕ) →
    IsPlanned o table zones plan ns last → (k : ℕ) → k < last → (s : Zoned) → port_event ns (suc k) ≡ None → Stands o table zones plan ns k s →
    Stands o table zones plan ns (suc k) s
rest_next o table zones plan ns last g k low s h f =
    let was : (p : Pair) → Has (plan.pairs (suc k)) p → Has (plan.pairs k) p = λ p i. elim (cases_Bool (is_member is_same_pair (plan.held
    (suc k)) p)) [
      | inl j ↦ g.was_there k p low j
      | inr j ↦ absurd (subst (λ x. BeginsIf plan.number o table x p) h (g.from k p low i j))
    ] in
    let same : source_at ns (suc k) ≡ source_at ns k = ap (source_next (source_at ns k)) h in
    record {
      source = f.source ∙ sym same;
      follows = record {
        before = λ i. (let q = f.follows.before i in (q.0, (q.1.0, λ p j. q.1.1 p (was p j))));
        after = λ i. rested (f.follows.after i) was (subst (λ n. SoundAmong plan.number o table (plan.pairs (suc k)) n.notes) (same ∙ sym f.source)
            (g.there (suc k) (omega (arith, low))));
      };
    }
  where
    quiet_here : ((p : Pair) → Has (plan.pairs (suc k)) p → Has (plan.pairs k) p) → Quiet
        (record { was = plan.pairs k; holds = plan.pairs k; is = plan.pairs (suc k); old = plan.channel k; new = plan.channel (suc k) })
    quiet_here was = record {
      held = was;
      none = λ p c. both_ways (is_member is_same_pair (plan.pairs k) p) c.new
          (was p c.is);
      stays = λ p i. g.kept k p low (was p i) i;
    }

    rested : Follows plan.number o table zones (plan.channel k) (plan.pairs k) s.source s.out → ((p : Pair) → Has (plan.pairs (suc k)) p → Has
        (plan.pairs k) p) → SoundAmong plan.number o table (plan.pairs (suc k)) s.source.notes → Follows plan.number o table zones (plan.channel
        (suc k)) (plan.pairs (suc k)) s.source s.out
    rested r was among = record {
      notes = moved_notes plan.number o table (record {
        was = plan.pairs k;
        holds = plan.pairs k;
        is = plan.pairs
            (suc k);
        old = plan.channel k;
        new = plan.channel (suc k);
      }) s.source.notes s.out.notes (quiet_here was) among r.notes;
      zoned = r.zoned;
      apart = r.apart;
      masters = r.masters;
      members = r.members;
      bent = λ p i. ap (λ d. (channel_at s.out d).bend) (g.kept k p low (was p i) i) ∙ r.bent p (was p i);
      source_zones = r.source_zones;
      source_settled = r.source_settled;
      out_zones = r.out_zones;
      out_settled = r.out_settled;
    }

stands_at : Laws → (o : Options) (table : Targets) (zones : List Zone) → AreZones o zones → SetsUp o zones → (plan : PortRuns)
    (ns : List Numbered) (last : ℕ) → IsPlanned o table zones plan ns last → (k : ℕ) → k ≤ last →
    Stands o table zones plan ns k (zoned_at o table zones plan ns k)
stands_at laws o table zones row sets plan ns last g zero low = record {
  source = refl;
  follows = record {
    before = λ f. (refl, (refl, λ p h. both_ways false refl (ap (λ ps. is_member is_same_pair ps p) (sym g.start) ∙ h)));
    after = λ f. absurd (both_ways false refl f);
  };
}
stands_at laws o table zones row sets plan ns last g (suc k) low =
    pick (stands_at laws o table zones row sets plan ns last g k (omega (arith, low))) (port_event ns (suc k)) refl
  where
    pick : Stands o table zones plan ns k (zoned_at o table zones plan ns k) → (e : Option MidiEvent) → port_event ns (suc k) ≡ e →
        Stands o table zones plan ns (suc k) (zoned_next o table zones plan k (zoned_at o table zones plan ns k) e)
    pick before (Some e) h = event_next laws o table zones row sets plan ns last g k (omega (arith, low))
        (zoned_at o table zones plan ns k).source (zoned_at o table zones plan ns k).out (zoned_at o table zones plan ns k).begun e h before
    pick before None h = rest_next o table zones plan ns last g k (omega (arith, low)) (zoned_at o table zones plan ns k) h before

pub follows_at : Laws → (o : Options) (table : Targets) (zones : List Zone) → AreZones o zones → SetsUp o zones → (plan : PortRuns)
    (ns : List Numbered) (last : ℕ) → IsPlanned o table zones plan ns last → (k : ℕ) → k ≤ last →
    FollowsAt o table zones plan k (zoned_at o table zones plan ns k)
follows_at laws o table zones row sets plan ns last g k low = (stands_at laws o table zones row sets plan ns last g k low).follows

pub source_is : (o : Options) (table : Targets) (zones : List Zone) (plan : PortRuns) (ns : List Numbered) (k : ℕ) →
    (zoned_at o table zones plan ns k).source ≡ source_at ns k
source_is o table zones plan ns zero = refl
source_is o table zones plan ns (suc k) = go (source_is o table zones plan ns k) (port_event ns (suc k))
  where
    go : (zoned_at o table zones plan ns k).source ≡ source_at ns k → (x : Option MidiEvent) →
        (zoned_next o table zones plan k (zoned_at o table zones plan ns k) x).source ≡ source_next (source_at ns k) x
    go h None = h
    go h (Some e) = ap (λ m. step m e) h
