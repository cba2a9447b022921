-- What the output plays at each position.
use Rattle.std.proofs.Common.{◌≡◌, ◌≢◌, ◌≤◌, ◌++◌, ◌+◌, ℕ, zero, suc, Bool, true, false, List, Option, Some, None, refl, ap, sym, ◌∙◌, subst, map, arith}
use Rattle.std.specs.List.{AllByRecursion}
use Rattle.std.proofs.lemmas.Bool.{false_from_ne_true}
use Rattle.std.proofs.lemmas.List.{append-nil}
use Rattle.retune_model.specs.Pairs.{Pair, sounding}
use Rattle.mt_base.specs.declared.event.Msg.TheVariants.{NoteOn, NoteOff, KeyPressure, Control, Program, Pressure, Bend}
use Rattle.mt_base.specs.Midi.{MidiWhat, Says, SysexOf, MetaOf, MidiEvent}
use Rattle.midi_model.specs.Channel.{State}
use Rattle.midi_model.specs.Notes.{Note, sounds, cut_off}
use Rattle.midi_model.specs.Music.{Music, channel_at, key_pressure}
use Rattle.retune_model.specs.Table.{BendTarget}
use Rattle.retune_model.specs.Options.{Options}
use Rattle.retune_model.specs.PlaysTheSame.{Pairwise, bend_target_if}
use Rattle.retune_model.specs.Faults.{Targets, is_part, target_of}
use Rattle.retune_model.specs.Ports.{Numbered}
use Rattle.channel_model.specs.Choice.{wanted_keys}
use Rattle.channel_model.specs.BendOutput.{pair_with, PortRuns}
use Rattle.bend_laws.specs.Moments.{Moment, Both, moment}
use Rattle.bend_laws.specs.Brought.{IsSameAside}
use Rattle.bend_laws.specs.Follows.{Has, IsPlayedBy, IsMatched, IsAmong, SoundAmong, IsGiven, AreUsed, Follows}
use Rattle.bend_laws.specs.Positions.{port_event, both_next, both_at}
use Rattle.bend_laws.proofs.Planning.{IsPlanned}
use Rattle.bend_laws.specs.Simulation.{channel_if, planned_channels, PlaysAt}
use Rattle.bend_laws.proofs.Lists.{pair_along, pair_second}
use Rattle.bend_laws.proofs.Matching.{output_sounds}
use Rattle.bend_laws.proofs.Bringing.{wanted_wide}
use Rattle.bend_laws.proofs.Given.{Laws}
use Rattle.bend_laws.proofs.Striking.{new_note, strikes_note}
use Rattle.bend_laws.proofs.Beginning.{last_of}
use Rattle.bend_laws.proofs.Changing.{said_at}
use Rattle.bend_laws.proofs.Simulates.{source_is, sound_at, follows_at}
use Rattle.bend_laws.proofs.States.{pressures_are, silent_pressures, pair_pressure, played_retuned}
use Rattle.bend_laws.proofs.Planned.{note_channels, Placed, block_channels}

-- ---- the channels that the plan names

pub begun_there : (Good : State → Type 0) (port : ℕ) (o : Options) (table : Targets) (used : ℕ → Bool) (place : Pair → ℕ) (there : List Pair)
    (k : Moment) (b : Both) (t track c j v : ℕ) → Follows Good port o table used place there b →
    IsGiven Good port o table used k b.source (said_at t track (NoteOn c j (suc v))) → is_part o c ≡ true → (x : BendTarget) →
    bend_target_if o.range (table j t) ≡ Some x → Has k.is (pair_with port c x)
begun_there Good port o table used place there k b t track c j v follows sound part x aim =
    let later : Note → Type 0 = λ a. is_part o a.channel ≡ true → sounds a ≡ true → IsAmong port k.is a.channel (target_of o table a) in
    subst (IsAmong port k.is c) aim (last_of later (map (cut_off t c j) b.source.notes) (new_note b.source t c j (suc v))
    (subst (λ (m : Music). AllByRecursion later m.notes)
    (strikes_note b.source t c j v follows.source_zones follows.source_settled) sound.there) part refl)

is_placed : (Good : State → Type 0) (port : ℕ) (o : Options) (table : Targets) (used : ℕ → Bool) → AreUsed o used → (place : Pair → ℕ)
    (there : List Pair) (k : Moment) (b : Both) → Follows Good port o table used place there b → (t track : ℕ) (w : MidiWhat) →
    (let e : MidiEvent = record { tick = t; track = track; what = w } in IsGiven Good port o table used k b.source e) → Placed port o table k t w
is_placed Good port o table used row place there k b follows t track (Says (NoteOn c j zero)) sound = tt
is_placed Good port o table used row place there k b follows t track (Says (NoteOn c j (suc v))) sound =
    λ part x aim. row.retuned (k.new (pair_with port c x)) (sound.used_is (pair_with port c x)
    (begun_there Good port o table used place there k b t track c j v follows sound part x aim))
is_placed Good port o table used row place there k b follows t track (Says (NoteOff c j v)) sound = tt
is_placed Good port o table used row place there k b follows t track (Says (KeyPressure c j v)) sound = tt
is_placed Good port o table used row place there k b follows t track (Says (Control c n v)) sound = tt
is_placed Good port o table used row place there k b follows t track (Says (Program c p)) sound = tt
is_placed Good port o table used row place there k b follows t track (Says (Pressure c v)) sound = tt
is_placed Good port o table used row place there k b follows t track (Says (Bend c v)) sound = tt
is_placed Good port o table used row place there k b follows t track (SysexOf lead bytes) sound = tt
is_placed Good port o table used row place there k b follows t track (MetaOf kind bytes) sound = tt

channels_at : (Good : State → Type 0) → Laws Good → (o : Options) (table : Targets) (used : ℕ → Bool) → AreUsed o used → (plan : PortRuns)
    (ns : List Numbered) (last : ℕ) → IsPlanned Good o table used plan ns last →
    (k : ℕ) → k ≤ last → note_channels o (both_at o table plan ns k).out.notes ≡ planned_channels o table plan ns k
channels_at Good laws o table used row plan ns last given zero low = refl
channels_at Good laws o table used row plan ns last given (suc k) low =
    go (channels_at Good laws o table used row plan ns last given k (omega arith)) (port_event ns (suc k)) refl
  where
    go : note_channels o (both_at o table plan ns k).out.notes ≡ planned_channels o table plan ns k → (x : Option MidiEvent) →
        port_event ns (suc k) ≡ x →
        note_channels o (both_next plan.number o table (moment plan k) (both_at o table plan ns k) x).out.notes
        ≡ planned_channels o table plan ns k ++ channel_if plan.number o table (plan.channel (suc k)) x
    go h None is = h ∙ sym (append-nil (planned_channels o table plan ns k))
    go h (Some e) is =
        let b : Both = both_at o table plan ns k in
        let follows : Follows Good plan.number o table used (plan.channel k) (plan.pairs k) b =
        follows_at Good laws o table used row plan ns last given k (omega arith) in
        let sound : IsGiven Good plan.number o table used (moment plan k) b.source e =
        subst (λ m. IsGiven Good plan.number o table used (moment plan k) m e) (sym (source_is o table plan ns k))
        (sound_at Good o table used plan ns last given k low e is) in
        block_channels laws.fade plan.number o table (moment plan k) b.source b.out e.tick e.track e.what
        (is_placed Good plan.number o table used row (plan.channel k) (plan.pairs k) (moment plan k) b follows e.tick e.track e.what sound)
        ∙ ap (λ ds. ds ++ channel_if plan.number o table (plan.channel (suc k)) (Some e)) h

-- ---- channels on which nothing is

pub free_silent : (port : ℕ) (o : Options) (table : Targets) (used : ℕ → Bool) → AreUsed o used → (place : Pair → ℕ)
    (there : List Pair) (b : Both) → Pairwise (IsMatched port o table place) b.source.notes b.out.notes →
    SoundAmong port o table there b.source.notes →
    (c : ℕ) → used c ≡ true → ((p : Pair) → Has there p → place p ≢ c) → AllByRecursion (λ n. n.channel ≡ c → sounds n ≡ false) b.out.notes
free_silent port o table used row place there b matched among c u free =
    let all : Note → Type 0 = λ a. is_part o a.channel ≡ true → sounds a ≡ true → IsAmong port there a.channel (target_of o table a) in
    pair_second (λ x y. IsMatched port o table place x y × all x) (λ n. n.channel ≡ c → sounds n ≡ false)
    (λ x y q on. false_from_ne_true (sounds y) (λ s.
    let part : is_part o x.channel ≡ true = sym q.0.retuned ∙ (ap (is_part o) on ∙ row.retuned c u) in
    let h : IsPlayedBy port o table place x y = q.0.played part in
    let sx : sounds x ≡ true = sym (output_sounds port o table place x y h) ∙ s in
    free (pair_with port x.channel h.target) (subst (IsAmong port there x.channel) h.aim (q.1 part sx)) (sym (h.sounding sx).channel ∙ on)))
    b.source.notes b.out.notes (pair_along (IsMatched port o table place) all b.source.notes b.out.notes matched among)

-- ---- all at once

pub plays_at : (Good : State → Type 0) → Laws Good → (o : Options) (table : Targets) (used : ℕ → Bool) → AreUsed o used → (plan : PortRuns)
    (ns : List Numbered) (last : ℕ) → IsPlanned Good o table used plan ns last →
    (k : ℕ) → k ≤ last → PlaysAt o table used plan ns k (both_at o table plan ns k)
plays_at Good laws o table used row plan ns last given k low =
    let b : Both = both_at o table plan ns k in
    let follows : Follows Good plan.number o table used (plan.channel k) (plan.pairs k) b =
    follows_at Good laws o table used row plan ns last given k low in
    let among : SoundAmong plan.number o table (plan.pairs k) b.source.notes =
    subst (λ (m : Music). SoundAmong plan.number o table (plan.pairs k) m.notes) (sym (source_is o table plan ns k)) (given.there k low) in
    record {
      notes = played_retuned plan.number o table (plan.channel k) b.source.notes b.out.notes follows.notes;
      channels = channels_at Good laws o table used row plan ns last given k low;
      there = λ p i. record {
        own = subst (IsSameAside (channel_at b.out (plan.channel k p))) (follows.at_wanted p i)
            (follows.states (plan.channel k p) (given.used_at k p low i));
        keys = pressures_are b.out.notes (plan.channel k p)
            (wanted_keys o table p (sounding o b.source)) 0 128 (wanted_wide o table p (sounding o b.source))
            (λ i0 small. ap (key_pressure b.out.notes (plan.channel k p)) (zero_more i0) ∙ pair_pressure plan.number o table (plan.channel k)
            (plan.pairs k) p (given.ports k p low i) (row.retuned (plan.channel k p) (given.used_at k p low i))
            (λ q g same. given.apart k q p low g i same) i0 b.source.notes b.out.notes follows.notes among);
      };
      silent = λ c u free. free_silent plan.number o table used row (plan.channel k) (plan.pairs k) b follows.notes among c u free;
      left = λ c u free. record {
        own = follows.states c u;
        keys = silent_pressures c b.out.notes (free_silent plan.number o table used row (plan.channel k)
            (plan.pairs k) b follows.notes among c u free) 0 128;
      };
    }
  where
    zero_more : (i : ℕ) → 0 + i ≡ i
    zero_more i = omega arith
