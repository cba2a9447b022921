-- At every tick each retuned note that sounds is heard within the bound of its source pitch.
use Rattle.std.proofs.Common.{◌≡◌, ◌<◌, ◌≤◌, ℕ, zero, suc, Bool, true, false, cond, List, [], ◌∷◌, Option, Some, None, refl, ap, sym, ◌∙◌, subst, map, arith, inl, inr}
use Rattle.std.specs.List.{AllByRecursion}
use Rattle.std.proofs.lemmas.Bool.{cases_Bool}
use Rattle.retune_model.specs.Pairs.{Pair}
use Rattle.mt_base.specs.Midi.{MidiWhat, Says, SysexOf, MetaOf, MidiEvent}
use Rattle.midi_model.specs.WellFormed.{IsWellFormed}
use Rattle.midi_model.specs.Sysex.{Plays, Resets, doing}
use Rattle.midi_model.specs.Params.{value_of, rpn}
use Rattle.midi_model.specs.ParameterLaws.{PutGivesTheValue, PutLeavesTheOthers}
use Rattle.midi_model.specs.Channel.{Channel, State}
use Rattle.midi_model.specs.Zones.{no_zones}
use Rattle.midi_model.specs.Notes.{Note, sounds, ending}
use Rattle.midi_model.specs.Music.{Music, quiet, channel_at, advance}
use Rattle.midi_model.specs.MusicLaws.{IsSettled}
use Rattle.midi_model.specs.Tuning.{selected_of}
use Rattle.midi_model.specs.Receiver.{Receiver, after}
use Rattle.retune_model.specs.Table.{Scaling}
use Rattle.retune_model.specs.Options.{Options, bound}
use Rattle.retune_model.specs.PlaysTheSame.{Pairwise, until, IsWithin, SoundsTheSame, HasSameSound, plain_device}
use Rattle.retune_model.specs.Source.{source_pitch}
use Rattle.midi_model.specs.Played.{played}
use Rattle.retune_model.specs.Ports.{Numbered, resets, unnumbered}
use Rattle.retune_model.specs.Faults.{Targets, is_part, target_of}
use Rattle.retune_model.specs.SourceFaults.{kind_in}
use Rattle.channel_model.specs.Choice.{wanted}
use Rattle.channel_model.specs.BendOutput.{pair_with, PortRuns}
use Rattle.bend_laws.specs.Moments.{Both, moment, port_output}
use Rattle.bend_laws.specs.Brought.{IsSameAside}
use Rattle.bend_laws.specs.Follows.{Has, IsPlayedBy, IsAmong, SoundAmong, IsGiven, AreUsed, Follows}
use Rattle.bend_laws.specs.Positions.{port_event, both_at}
use Rattle.bend_laws.proofs.Planning.{source_next, source_at, IsPlanned}
use Rattle.bend_laws.specs.Simulation.{retuned, PlaysAt}
use Rattle.bend_laws.proofs.Ticks.{AreTimely, IsSetAlike, IsUntuned}
use Rattle.bend_laws.proofs.Lists.{pair_weaker, pair_along}
use Rattle.bend_laws.proofs.Given.{Laws, IsFine, fine}
use Rattle.bend_laws.proofs.Altered.{is_resets}
use Rattle.bend_laws.proofs.Still.{IsPassed, no_change, no_message}
use Rattle.bend_laws.proofs.Striking.{ended_silent}
use Rattle.bend_laws.proofs.Simulates.{source_is, sound_at, follows_at}
use Rattle.bend_laws.proofs.Shown.{plays_at}
use Rattle.bend_laws.proofs.Bridge.{well_reached, ReceiversStay}
use Rattle.bend_laws.proofs.Wellness.{IsFineSource, fine_source, KeysLow}
use Rattle.bend_laws.proofs.Ticking.{AtPosition, at_position, set_alike}
use Rattle.bend_laws.proofs.Pitching.{Scales, IsTunedAlike, pitch_alike, BendsFit, fits_message}

-- ---- no bend is cut, at any position

abbrev AllFit : Options → Targets → Music → Type 0
AllFit o table m = AllByRecursion (BendsFit o table m) m.notes

ended_fit : (o : Options) (table : Targets) (m : Music) (t : ℕ) (ns : List Note) → AllByRecursion (BendsFit o table m) (map (ending t) ns)
ended_fit o table m t [] = tt
ended_fit o table m t (n ∷ ns) = ((λ part s x aim. absurd (ended_silent t n s)), ended_fit o table m t ns)

passed_fit : (o : Options) (table : Targets) (m : Music) (t : ℕ) (w : MidiWhat) → IsPassed w → AllFit o table m →
    AllFit o table (advance t (doing w) m)
passed_fit o table m t w passed h = elim (cases_Bool (resets (doing w))) [
  | inl r ↦ subst (λ d. AllFit o table (advance t d m)) (sym (is_resets (doing w) r)) (ended_fit o table (advance t Resets m) t m.notes)
  | inr r ↦ subst (AllFit o table) (sym (no_change m t (doing w) r (no_message w passed))) h
]

event_fits : (Good : State → Type 0) → Laws Good → (port : ℕ) (o : Options) (table : Targets) (used : ℕ → Bool) → AreUsed o used → (ps : List Pair)
    (m : Music) (t : ℕ) (w : MidiWhat) → m.zones ≡ no_zones → IsSettled m →
    kind_in port o table t m (advance t (doing w) m) false ps w ≡ None → SoundAmong port o table ps (advance t (doing w) m).notes →
    AllFit o table m → AllFit o table (advance t (doing w) m)
event_fits Good laws port o table used row ps m t (Says msg) z s fine_at among h =
    let fit : IsFine port o table m (advance t (Plays msg) m) ps t msg = fine port o table m (advance t (Plays msg) m) ps t msg fine_at in
    fits_message laws.fade port o table ps m t msg row.route z s (laws.zones o m msg fit.zone) fit.bend among h
event_fits Good laws port o table used row ps m t (SysexOf lead bytes) z s fine_at among h = passed_fit o table m t (SysexOf lead bytes) tt h
event_fits Good laws port o table used row ps m t (MetaOf kind bytes) z s fine_at among h = passed_fit o table m t (MetaOf kind bytes) tt h

all_fit : (Good : State → Type 0) → Laws Good → (o : Options) (table : Targets) (used : ℕ → Bool) → AreUsed o used → (plan : PortRuns)
    (ns : List Numbered) (last : ℕ) → IsPlanned Good o table used plan ns last → (k : ℕ) → k ≤ last → AllFit o table (source_at ns k)
all_fit Good laws o table used row plan ns last given zero low = tt
all_fit Good laws o table used row plan ns last given (suc k) low = go (all_fit Good laws o table used row plan ns last given k (omega arith))
    (port_event ns (suc k)) refl
  where
    go : AllFit o table (source_at ns k) → (x : Option MidiEvent) → port_event ns (suc k) ≡ x → AllFit o table (source_next (source_at ns k) x)
    go h None is = h
    go h (Some e) is =
        let follows : Follows Good plan.number o table used (plan.channel k) (plan.pairs k) (both_at o table plan ns k) =
        follows_at Good laws o table used row plan ns last given k (omega arith) in
        let sound : IsGiven Good plan.number o table used (moment plan k) (source_at ns k) e =
        sound_at Good o table used plan ns last given k low e is in
        event_fits Good laws plan.number o table used row (plan.pairs (suc k)) (source_at ns k) e.tick e.what (ap (λ (m : Music). m.zones)
        (sym (source_is o table plan ns k)) ∙ follows.source_zones) (subst IsSettled (source_is o table plan ns k) follows.source_settled)
        sound.faultless sound.there h

-- ---- the notes

pub sound_at_position : Laws IsWellFormed → PutGivesTheValue → PutLeavesTheOthers → ReceiversStay → (scaling : Scaling) (o : Options)
    (table : Targets) → Scales scaling o table → (used : ℕ → Bool) → AreUsed o used → (plan : PortRuns) (ns : List Numbered) (last : ℕ) →
    IsPlanned IsWellFormed o table used plan ns last → (k : ℕ) → k ≤ last → (es xs : List MidiEvent) →
    (after es).music ≡ (both_at o table plan ns k).source → (after xs).music ≡ (both_at o table plan ns k).out →
    ((c : ℕ) → used c ≡ true → selected_of (after xs).tuning c ≡ None) →
    Pairwise (λ x y. sounds x ≡ true → SoundsTheSame scaling o (plain_device o) es xs x y) (retuned o (after es).music.notes)
    (retuned o (after xs).music.notes)
sound_at_position laws gives others stay scaling o table scales used row plan ns last given k low es xs is_source is_out quiet_now =
    let rs : Receiver = after es in
    let ro : Receiver = after xs in
    let b : Both = both_at o table plan ns k in
    let src : source_at ns k ≡ b.source = sym (source_is o table plan ns k) in
    let follows : Follows IsWellFormed plan.number o table used (plan.channel k) (plan.pairs k) b =
    follows_at IsWellFormed laws o table used row plan ns last given k low in
    let plays : PlaysAt o table used plan ns k b = plays_at IsWellFormed laws o table used row plan ns last given k low in
    let among : SoundAmong plan.number o table (plan.pairs k) b.source.notes =
    subst (λ (m : Music). SoundAmong plan.number o table (plan.pairs k) m.notes) src (given.there k low) in
    let fine_now : IsFineSource b.source = subst IsFineSource src (fine_source ns last given.valid k low) in
    let fits : AllFit o table b.source = subst (AllFit o table) src (all_fit IsWellFormed laws o table used row plan ns last given k low) in
    let Q : Note → Type 0 = λ n. (sounds n ≡ true → IsAmong plan.number (plan.pairs k) n.channel (target_of o table n)) ×
    ((is_part o n.channel ≡ true) × (BendsFit o table b.source n × (n.key < 128))) in
    let R : Note → Note → Type 0 = λ x y. sounds x ≡ true → SoundsTheSame scaling o (plain_device o) es xs x y in
    let zs : rs.music.zones ≡ no_zones = ap (λ (m : Music). m.zones) is_source ∙ follows.source_zones in
    let zo : ro.music.zones ≡ no_zones = ap (λ (m : Music). m.zones) is_out ∙ follows.out_zones in
    let done : Pairwise R (retuned o b.source.notes) (retuned o b.out.notes) =
    pair_weaker (λ x y. IsPlayedBy plan.number o table (plan.channel k) x y × Q x) R
    (λ x y q s.
    let h : IsPlayedBy plan.number o table (plan.channel k) x y = q.0 in
    let p : Pair = pair_with plan.number x.channel h.target in
    let d : ℕ = plan.channel k p in
    let there : Has (plan.pairs k) p = subst (IsAmong plan.number (plan.pairs k) x.channel) h.aim (q.1.0 s) in
    let is : IsSameAside (channel_at b.out d) (wanted o table b.source p).own = (plays.there p there).own in
    let on : y.channel ≡ d = (h.sounding s).channel in
    let part : Channel = channel_at b.source x.channel in
    let co : channel_at ro.music y.channel ≡ channel_at b.out d = ap (λ (m : Music). channel_at m y.channel) is_out ∙ ap (channel_at b.out) on in
    let tuned : IsTunedAlike o.range h.target.steps part (channel_at ro.music y.channel) = subst (IsTunedAlike o.range h.target.steps part)
    (sym co) (record {
      fine = ap (λ es. value_of es (rpn 1)) is.params ∙ others (rpn 0) (rpn 1) (o.range, 0) part.params (λ e. let f : 1 ≡ 0 = e in omega (arith, f));
      coarse = ap (λ es. value_of es (rpn 2)) is.params ∙ others (rpn 0) (rpn 2) (o.range, 0) part.params (λ e. let f : 2 ≡ 0 =
          e in omega (arith, f));
      range_set = ap (λ es. value_of es (rpn 0)) is.params ∙ gives (rpn 0) (
        o.range,
        0,
      ) part.params (well_reached stay b.source x.channel fine_now.reached).canonical;
      bend = is.bend;
      uncut = q.1.1.1.0 q.1.1.0 s h.target h.aim;
    }) in
    let set : IsSetAlike o table rs ro x y = set_alike others plan.number o table rs ro (plan.channel k) x y zs zo h s
    (subst (λ (m : Music). IsSameAside (channel_at m d) (wanted o table rs.music p).own) (sym is_out)
    (subst (λ (m : Music). IsSameAside (channel_at b.out d) (wanted o table m p).own) (sym is_source) is)) in
    let none : selected_of ro.tuning y.channel ≡ None = ap (selected_of ro.tuning) on ∙ quiet_now d (given.used_at k p low there) in
    let pitch = pitch_alike scaling o table scales b.source ro x y h.target q.1.1.1.1 h.aim h.key zo none tuned in
    record {
      settings = record {
        controls = set.controls;
        pressure = set.pressure;
        key_pressure = set.key_pressure;
        parameters =
            set.parameters;
      };
      pitch = subst (λ (m : Music). IsWithin (source_pitch scaling o m x) (played ro y) (bound o)) (sym is_source) pitch;
    })
    (retuned o b.source.notes) (retuned o b.out.notes) (pair_along (IsPlayedBy plan.number o table (plan.channel k)) Q (retuned o b.source.notes)
    (retuned o b.out.notes) plays.notes (all_parts (plan.pairs k) b.source b.source.notes among fits fine_now.low)) in
    subst (λ (m : Music). Pairwise R (retuned o m.notes) (retuned o ro.music.notes)) (sym is_source)
    (subst (λ (m : Music). Pairwise R (retuned o b.source.notes) (retuned o m.notes)) (sym is_out) done)
  where
    all_parts : (ps : List Pair) (m : Music) (ns : List Note) → SoundAmong plan.number o table ps ns → AllByRecursion (BendsFit o table m) ns →
        KeysLow ns →
        AllByRecursion (λ n. (sounds n ≡ true → IsAmong plan.number ps n.channel (target_of o table n)) ×
        ((is_part o n.channel ≡ true) × (BendsFit o table m n × (n.key < 128)))) (retuned o ns)
    all_parts ps m [] a f l = tt
    all_parts ps m (n ∷ ns) a f l = pick (is_part o n.channel) refl (all_parts ps m ns a.1 f.1 l.1)
      where
        pick : (b : Bool) → is_part o n.channel ≡ b → AllByRecursion (λ n. (sounds n ≡ true →
            IsAmong plan.number ps n.channel (target_of o table n)) × ((is_part o n.channel ≡ true) × (BendsFit o table m n × (n.key < 128))))
            (retuned o ns) →
            AllByRecursion (λ n. (sounds n ≡ true → IsAmong plan.number ps n.channel (target_of o table n)) ×
            ((is_part o n.channel ≡ true) × (BendsFit o table m n × (n.key < 128)))) (cond b (n ∷ retuned o ns) (retuned o ns))
        pick true e g = ((a.0 e, (e, (f.0, l.0))), g)
        pick false e g = g

pub same_sound : Laws IsWellFormed → PutGivesTheValue → PutLeavesTheOthers → ReceiversStay → (scaling : Scaling) (o : Options) (table : Targets) →
    Scales scaling o table → (used : ℕ → Bool) → AreUsed o used → (plan : PortRuns) (ns : List Numbered) (last : ℕ) →
    IsPlanned IsWellFormed o table used plan ns last → AreTimely ns last → IsUntuned used (port_output o table plan quiet quiet ns) →
    HasSameSound scaling o (plain_device o) (is_part o) (unnumbered ns) (port_output o table plan quiet quiet ns)
same_sound laws gives others stay scaling o table scales used row plan ns last given timely untuned t =
    let at : AtPosition o table plan ns last t = at_position o table plan ns last t timely in
    sound_at_position laws gives others stay scaling o table scales used row plan ns last given at.position at.within (until t (unnumbered ns))
    (until t (port_output o table plan quiet quiet ns)) at.source at.out (untuned t)
