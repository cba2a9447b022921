-- The sentences of a file: those of its ports, and those of all its events.
use Rattle.std.proofs.Common.{◌≡◌, ◌&&◌, ℕ, Bool, true, false, List, refl, ap, sym, ◌∙◌, subst, length, inl, inr}
use Rattle.std.specs.List.{AllByRecursion}
use Rattle.std.proofs.lemmas.Bool.{cases_Bool}
use Rattle.mt_base.specs.Midi.{MidiEvent}
use Rattle.mt_base.specs.Valid.{IsValidEvent}
use Rattle.midi_model.specs.ParameterLaws.{PutGivesTheValue}
use Rattle.midi_model.specs.Merged.{merged}
use Rattle.retune_model.specs.Table.{Scaling}
use Rattle.retune_model.specs.Options.{Options, has_drums, keeps_drums, is_retuned}
use Rattle.retune_model.specs.Ports.{Numbered, of_port, events_on, unnumbered, all_zero, is_reset_at}
use Rattle.retune_model.specs.PortNeed.{pairs_on}
use Rattle.midi_model.specs.Music.{channel_at}
use Rattle.retune_model.specs.PlaysTheSame.{plain_device, PlayTheSame, PlaysTheSameMusic, KeepsDrums, drum_events}
use Rattle.retune_model.specs.Faults.{Targets, is_part}
use Rattle.retune_model.specs.Pairs.{Pair}
use Rattle.channel_model.specs.Laws.{ZonedPorts}
use Rattle.channel_model.specs.BendOutput.{PortRuns, runs_on}
use Rattle.channel_model.specs.MpeOutput.{Zone, Zoned, member_at, unzoned, mpe_output}
use Rattle.channel_model.specs.Choice.{last_on, member_bend}
use Rattle.channel_model.specs.Rows.{only}
use Rattle.bend_laws.specs.Bent.{IsTuned}
use Rattle.bend_laws.proofs.Ticks.{AreTimely}
use Rattle.bend_laws.proofs.Outputs.{source_played}
use Rattle.bend_laws.proofs.Placing.{port_within, port_order, all_of_ports}
use Rattle.retune_model.proofs.Laws.{PitchLaws}
use Rattle.bend_laws.proofs.Drumless.{NoDrums, none_has, and_true}
use Rattle.mpe_laws.specs.Positions.{zoned_at, FollowsAt}
use Rattle.mpe_laws.specs.Sources.{on_port, IsMpe, IsOnZones}
use Rattle.mpe_laws.specs.FileLaws.{PortsFollow, PortsAreTheirEvents, PortsAreTheirBlocks, ZonedPlaysTheSame, ZonedFilePlaysTheSame, ZonedIsPlayable, ZonedIsOnZones, PortsBegin, PortsAreOnTheirChannels, MembersAreLeft, ZonedAddsFewBytes}
use Rattle.mpe_laws.proofs.Standing.{Laws}
use Rattle.mpe_laws.proofs.Planning.{IsPlanned}
use Rattle.mpe_laws.proofs.Allowed.{Asked, allowed_zones, allowed_as}
use Rattle.mpe_laws.proofs.Everywhere.{follows_at, source_is}
use Rattle.mpe_laws.proofs.Played.{out_is}
use Rattle.bend_laws.specs.Simulation.{planned_channels}
use Rattle.bend_laws.proofs.Planned.{note_channels}
use Rattle.mpe_laws.proofs.Placed.{channels_at}
use Rattle.mpe_laws.proofs.Lasting.{Lane, left_at}
use Rattle.mpe_laws.proofs.Sizes.{output_short}
use Rattle.mpe_laws.proofs.Opened.{begun_is}
use Rattle.mpe_laws.proofs.Ported.{PortFacts, planned_port}
use Rattle.mpe_laws.proofs.Ticked.{zoned_output, same_notes}
use Rattle.mpe_laws.proofs.Heard.{Scaled, same_sound}
use Rattle.mpe_laws.proofs.Begun.{begins_same}
use Rattle.mpe_laws.proofs.Shaped.{output_holds, blocks_valid, blocks_zoned, port_drums}
use Rattle.mpe_laws.proofs.Filed.{keeps_all_others, output_playable}
use Rattle.mpe_laws.proofs.Portwise.{with_drums, output_same, at_same, planned_same, sound_as, begins_alike}

-- what is cited of the crates below
pub record Given : Type 0 where
  pub laws : Laws
  pub facts : PortFacts
  pub given : PutGivesTheValue
  pub apart : ZonedPorts
  pub pitches : PitchLaws

-- ---- a port of the file

-- no part is lost where a port has no drums
pub parts_stay : (keep has : Bool) (c : ℕ) → is_retuned keep c ≡ true → is_retuned (keep && has) c ≡ true
parts_stay true true c h = h
parts_stay true false c h = refl
parts_stay false has c h = refl

-- what is known of it, with its own options
record OnPort (o : Options) (table : Targets) (es : List MidiEvent) (zones : ℕ → List Zone) (channel : ℕ → ℕ → Pair → ℕ) (z : ℕ) : Type 0 where
  asked : Asked (on_port o es z) (zones z)
  planned : IsPlanned (on_port o es z) table (zones z) (runs_on o table es channel z) (of_port z es) (length es)
  timely : AreTimely (of_port z es) (length es)
  out : zoned_output (on_port o es z) table (zones z) (runs_on o table es channel z) unzoned (of_port z es)
      ≡ zoned_output o table (zones z) (runs_on o table es channel z) unzoned (of_port z es)
  at : (k : ℕ) → zoned_at (on_port o es z) table (zones z) (runs_on o table es channel z) (of_port z es) k
      ≡ zoned_at o table (zones z) (runs_on o table es channel z) (of_port z es) k

port_asked : Given → (o : Options) (table : Targets) (es : List MidiEvent) (zones : ℕ → List Zone) (channel : ℕ → ℕ → Pair → ℕ) →
    IsMpe o table es zones channel → (z : ℕ) → Asked (on_port o es z) (zones z)
port_asked f o table es zones channel b z = allowed_zones f.laws (on_port o es z) b.route (zones z)
    (allowed_as o (on_port o es z) (keeps_drums o (events_on z es)) (parts_stay o.keep_drums (has_drums (events_on z es))) (zones z)
    (b.ports z).allowed)

on_port_of : Given → (o : Options) (table : Targets) (es : List MidiEvent) (zones : ℕ → List Zone) (channel : ℕ → ℕ → Pair → ℕ) →
    IsMpe o table es zones channel → (z : ℕ) → OnPort o table es zones channel z
on_port_of f o table es zones channel b z =
    let drums : Bool = keeps_drums o (events_on z es) in
    let runs : PortRuns = runs_on o table es channel z in
    let ns : List Numbered = of_port z es in
    let asked : Asked (on_port o es z) (zones z) = port_asked f o table es zones channel b z in
    let planned : IsPlanned o table (zones z) runs ns (length es) = planned_port f.facts o table es zones channel b z (on_port o es z) asked in
    let S : Bool → Type 0 = λ x. IsPlanned (with_drums x o) table (zones z) runs ns (length es)
    × ((zoned_output (with_drums x o) table (zones z) runs unzoned ns ≡ zoned_output o table (zones z) runs unzoned ns)
    × ((k : ℕ) → zoned_at (with_drums x o) table (zones z) runs ns k ≡ zoned_at o table (zones z) runs ns k)) in
    let s : S drums = elim (cases_Bool (has_drums (events_on z es))) [
      | inl some ↦ subst S (sym (and_true o.keep_drums (has_drums (events_on z es)) some)) (planned, (refl, λ k. refl))
      | inr none ↦ (let drumless : NoDrums (unnumbered ns) = none_has (events_on z es) none in (
        planned_same f.laws.fade o o.keep_drums drums table (zones z) runs ns (length es) drumless planned,
        (
          output_same o drums o.keep_drums table (zones z) runs unzoned ns drumless,
          at_same o drums o.keep_drums table (zones z) runs ns drumless,
        ),
      ))
    ] in
    record {
      asked = asked;
      planned = s.0;
      timely = record {
        rising = (f.facts.timed z es b.sound.in_order).ascend;
        within = port_within z es;
        in_order = port_order 0 z all_zero 0 es b.sound.in_order;
      };
      out = s.1.0;
      at = s.1.1;
    }

pub port_follows : Given → PortsFollow
port_follows f o table es zones channel b z k low =
    let p : OnPort o table es zones channel z = on_port_of f o table es zones channel b z in
    let runs : PortRuns = runs_on o table es channel z in
    subst (FollowsAt (on_port o es z) table (zones z) runs k) (p.at k)
    (follows_at f.laws (on_port o es z) table (zones z) p.asked.row p.asked.sets runs (of_port z es) (length es) p.planned k low)

pub port_source : Given → PortsAreTheirEvents
port_source f o table es zones channel b z k = source_is o table (zones z) (runs_on o table es channel z) (of_port z es) k
    ∙ source_played (of_port z es) (f.facts.timed z es b.sound.in_order).ascend k

pub port_out : Given → PortsAreTheirBlocks
port_out f o table es zones channel b z = out_is o table (zones z) (runs_on o table es channel z) (of_port z es)
    (f.facts.timed z es b.sound.in_order).ascend

pub port_begins : Given → PortsBegin
port_begins f o table es zones channel b z = begun_is o table (zones z) (runs_on o table es channel z) (of_port z es)
    (f.facts.timed z es b.sound.in_order).ascend

pub port_channels : Given → PortsAreOnTheirChannels
port_channels f o table es zones channel b z k low =
    let p : OnPort o table es zones channel z = on_port_of f o table es zones channel b z in
    let runs : PortRuns = runs_on o table es channel z in
    subst (λ (s : Zoned). note_channels (on_port o es z) s.out.notes ≡ planned_channels (on_port o es z) table runs (of_port z es) k) (p.at k)
    (channels_at f.laws (on_port o es z) table (zones z) p.asked b.range runs (of_port z es) (length es) p.planned k low)

pub port_left : Given → MembersAreLeft
port_left f o table es zones channel b z c w of instant row plan k i low within =
    let p : OnPort o table es zones channel z = on_port_of f o table es zones channel b z in
    let l : Lane o (on_port o es z) table es zones channel z c w i = record {
      facts = f.facts;
      source = b;
      asked = p.asked;
      planned = p.planned;
      of = of;
      plan = record { instant = instant; row = row; plan = plan };
      within = within;
    } in
    subst (λ (s : Zoned). (channel_at s.out (member_at w i)).bend
    ≡ member_bend (last_on (is_reset_at (of_port z es)) (pairs_on o (only w.part) table es z) row i k)) (p.at k)
    (left_at f.laws o (on_port o es z) table es zones channel z c w i l b.range k low)

-- the music of a port
port_music : Given → (o : Options) (table : Targets) (es : List MidiEvent) (zones : ℕ → List Zone) (channel : ℕ → ℕ → Pair → ℕ) →
    IsMpe o table es zones channel → (scaling : Scaling) → IsTuned scaling o table → (z : ℕ) →
    PlaysTheSameMusic scaling o table (plain_device o) (events_on z es) (events_on z (mpe_output o table zones channel es))
port_music f o table es zones channel b scaling tuned z =
    let p : OnPort o table es zones channel z = on_port_of f o table es zones channel b z in
    let q : Options = on_port o es z in
    let drums : Bool = keeps_drums o (events_on z es) in
    let runs : PortRuns = runs_on o table es channel z in
    let ns : List Numbered = of_port z es in
    let out : List MidiEvent = zoned_output q table (zones z) runs unzoned ns in
    let scaled : Scaled scaling q table = record {
      laws = f.pitches;
      given = f.given;
      route = b.route;
      range = tuned.range;
      bounds = tuned.bounds;
      few_terms = tuned.few_terms;
    } in
    subst (PlaysTheSameMusic scaling o table (plain_device o) (events_on z es)) (p.out ∙ sym (f.apart o table zones channel es z)) (record {
      notes = same_notes q table (zones z) runs ns (length es) b.route p.timely
          (follows_at f.laws q table (zones z) p.asked.row p.asked.sets runs ns (length es) p.planned);
      sound = sound_as scaling o drums (is_part q) (events_on z es) out
          (same_sound f.laws scaling q table scaled (zones z) p.asked runs ns (length es) p.planned p.timely);
      beginnings = begins_alike scaling o drums (is_part q) (events_on z es) out
          (begins_same f.laws scaling q table scaled b.range (zones z) p.asked runs ns (length es) p.planned p.timely);
    })

port_keeps : Given → (o : Options) (table : Targets) (es : List MidiEvent) (zones : ℕ → List Zone) (channel : ℕ → ℕ → Pair → ℕ) →
    IsMpe o table es zones channel → (z : ℕ) → KeepsDrums o (events_on z es) (events_on z (mpe_output o table zones channel es))
port_keeps f o table es zones channel b z keeps track =
    let p : OnPort o table es zones channel z = on_port_of f o table es zones channel b z in
    ap (drum_events track) (f.apart o table zones channel es z ∙ sym p.out)
    ∙ port_drums f.laws (on_port o es z) table (zones z) p.asked b.range (runs_on o table es channel z) (of_port z es) (length es) p.planned
    p.timely keeps track

-- ---- the file

pub same_file : Given → ZonedPlaysTheSame
same_file f o table es zones channel b scaling tuned = record {
  music = port_music f o table es zones channel b scaling tuned;
  others = keeps_all_others o table zones (runs_on o table es channel) es b.sound.bends;
  drums = port_keeps f o table es zones channel b;
}

pub whole_file : Given → ZonedFilePlaysTheSame
whole_file f o table zones channel source out shape is b scaling tuned = record {
  shape = shape;
  events = subst (PlayTheSame scaling o table (plain_device o) (merged source)) (sym is)
      (same_file f o table (merged source) zones channel b scaling tuned);
}

pub file_playable : Given → ZonedIsPlayable
file_playable f o table es zones channel b tracks playable =
    let valid : (z : ℕ) → AllByRecursion IsValidEvent (events_on z (mpe_output o table zones channel es)) = λ z. (
    let p : OnPort o table es zones channel z = on_port_of f o table es zones channel b z in
    subst (AllByRecursion IsValidEvent) (p.out ∙ sym (f.apart o table zones channel es z))
    (output_holds f.laws IsValidEvent (on_port o es z) table (zones z) p.asked b.range (blocks_valid (on_port o es z) (zones z))
    (runs_on o table es channel z) (of_port z es) (length es) p.planned p.timely)) in
    output_playable tracks o table zones (runs_on o table es channel) es
    (all_of_ports IsValidEvent all_zero 0 (mpe_output o table zones channel es) valid) playable

pub file_zoned : Given → ZonedIsOnZones
file_zoned f o table es zones channel b z =
    let p : OnPort o table es zones channel z = on_port_of f o table es zones channel b z in
    let q : Options = on_port o es z in
    subst (AllByRecursion (IsOnZones (is_part q) (zones z))) (p.out ∙ sym (f.apart o table zones channel es z))
    (output_holds f.laws (IsOnZones (is_part q) (zones z)) q table (zones z) p.asked b.range (blocks_zoned q (zones z))
    (runs_on o table es channel z) (of_port z es) (length es) p.planned p.timely)

pub file_short : Given → ZonedAddsFewBytes
file_short f o table es zones channel b track = output_short track o table zones (λ z. (
    let asked : Asked (on_port o es z) (zones z) = port_asked f o table es zones channel b z in record { two = asked.two; few = asked.few }))
    (runs_on o table es channel) es
