-- At every position each retuned note that sounds has its source's settings, and is heard within the bound of its source pitch.
use Rattle.std.proofs.Common.{◌≡◌, ◌<◌, ◌≤◌, ◌+◌, ◌*◌, ℕ, pos, ℤ, ◌+ℤ◌, ◌-ℤ◌, ◌*ℤ◌, Bool, true, false, cond, List, [], ◌∷◌, Option, Some, None, refl, ap, sym, ◌∙◌, subst, arith, inl, inr}
use Rattle.std.specs.List.{AllByRecursion}
use Rattle.std.specs.Option.{unwrap_or}
use Rattle.std.proofs.lemmas.Int.{ints}
use Rattle.std.proofs.lemmas.Bool.{cases_Bool}
use Rattle.mt_base.specs.Pitch.{Pitch, exactly, added, Within}
use Rattle.mt_base.specs.Midi.{MidiEvent}
use Rattle.midi_model.specs.Params.{value_of, rpn}
use Rattle.midi_model.specs.ParameterLaws.{PutGivesTheValue}
use Rattle.midi_model.specs.Channel.{Channel}
use Rattle.midi_model.specs.Zones.{master}
use Rattle.midi_model.specs.Notes.{Note, sounds}
use Rattle.midi_model.specs.Music.{Music, quiet, channel_at}
use Rattle.midi_model.specs.Tuning.{selected_of}
use Rattle.midi_model.specs.Receiver.{Receiver, after}
use Rattle.midi_model.specs.Played.{played, fine, coarse, bent}
use Rattle.retune_model.specs.Table.{Scaling, IsTable, AreFewTerms, terms_at, ratios_at_key, BendTarget}
use Rattle.retune_model.specs.Options.{Route, ByMpe, Options, half_step, bound}
use Rattle.retune_model.specs.Source.{moved, heard_if, source_pitch}
use Rattle.retune_model.specs.PlaysTheSame.{Pairwise, until, IsWithin, state_of, SoundsTheSame, HasSameSound, plain_device}
use Rattle.retune_model.specs.Ports.{Numbered, unnumbered}
use Rattle.retune_model.specs.Faults.{Targets, is_part, target_of, is_within_bend}
use Rattle.retune_model.specs.Pairs.{Pair}
use Rattle.channel_model.specs.Choice.{bend_value}
use Rattle.channel_model.specs.BendOutput.{PortRuns, pair_with}
use Rattle.channel_model.specs.MpeOutput.{Zone, Zoned, unzoned, master_of}
use Rattle.bend_laws.specs.Follows.{Has, IsPlayedBy, IsAmong, SoundAmong}
use Rattle.bend_laws.specs.Simulation.{retuned}
use Rattle.bend_laws.proofs.Lists.{pair_weaker, pair_along}
use Rattle.bend_laws.proofs.States.{played_retuned}
use Rattle.bend_laws.proofs.Steps.{not_cut}
use Rattle.bend_laws.proofs.Pitching.{bounds_of, heard_within, pitch_by}
use Rattle.retune_model.proofs.Heard.{HasPitch, has_pitch}
use Rattle.retune_model.proofs.Laws.{PitchLaws}
use Rattle.bend_laws.proofs.Planning.{source_at}
use Rattle.bend_laws.proofs.Ticks.{AreTimely}
use Rattle.bend_laws.proofs.Ticking.{own_state}
use Rattle.bend_laws.proofs.Wellness.{KeysLow, fine_source}
use Rattle.mpe_laws.specs.Zoned.{planned, member_state, IsMember}
use Rattle.mpe_laws.specs.Follows.{Follows}
use Rattle.mpe_laws.specs.Positions.{zoned_at, FollowsAt}
use Rattle.mpe_laws.proofs.Standing.{Laws}
use Rattle.mpe_laws.proofs.Planning.{IsPlanned}
use Rattle.mpe_laws.proofs.Allowed.{Asked}
use Rattle.mpe_laws.proofs.Everywhere.{follows_at, source_is}
use Rattle.mpe_laws.proofs.Ticked.{zoned_output, AtPosition, at_position}
use Rattle.mpe_laws.proofs.Opened.{zoned_is}
use Rattle.mpe_laws.proofs.Untuned.{QuietMasters, quiet_to}
use Rattle.mpe_laws.proofs.Bending.{target_fits}

-- what is known of the scaling and its table
pub record Scaled (scaling : Scaling) (o : Options) (table : Targets) : Type 0 where
  pub laws : PitchLaws
  pub given : PutGivesTheValue
  pub route : o.route ≡ ByMpe
  pub range : 0 < o.range
  pub bounds : IsTable scaling table
  pub few_terms : AreFewTerms scaling

-- ---- one note

-- a member's bend
member_bent : PutGivesTheValue → (range : ℕ) (q : ℤ) (c : Channel) → c ≡ member_state range c.bend → c.bend ≡ bend_value (pos 8192 +ℤ q) →
    is_within_bend q ≡ true → bent c ≡ pos (390625000 * range) *ℤ q
member_bent gives range q c is here fits =
    let set : value_of c.params (rpn 0) ≡ (range, 0) = ap (λ (s : Channel). value_of s.params (rpn 0)) is ∙ gives (rpn 0) (range, 0) [] tt in
    let sens : 3906250 * (100 * range + 0) ≡ 390625000 * range = omega arith in
    let at : (pos c.bend -ℤ pos 8192) ≡ q = ap (λ b. pos b -ℤ pos 8192) here ∙ ap (λ z. z -ℤ pos 8192) (not_cut q fits) ∙ away q in
    ap (λ (v : ℕ × ℕ). pos (3906250 * (100 * v.0 + v.1)) *ℤ (pos c.bend -ℤ pos 8192)) set
    ∙ ap (λ s. pos s *ℤ (pos c.bend -ℤ pos 8192)) sens ∙ ap (λ z. pos (390625000 * range) *ℤ z) at
  where
    away : (z : ℤ) → (pos 8192 +ℤ z) -ℤ pos 8192 ≡ z
    away z = omega (arith, ints)

member_played : (r : Receiver) (n : Note) (g : ℕ) → master r.music.zones n.channel ≡ Some g → selected_of r.tuning g ≡ None →
    played r n ≡ ((pos (3200000000000 * n.key) +ℤ fine (channel_at r.music g)) +ℤ coarse (channel_at r.music g))
    +ℤ (bent (channel_at r.music n.channel) +ℤ bent (channel_at r.music g))
member_played r n g is none = ap (λ m. pitch_by r n m (selected_of r.tuning (unwrap_or m n.channel))) is ∙ ap (pitch_by r n (Some g)) none

-- the two channels of a note, and its part's
record IsSteered (o : Options) (t : BendTarget) (ro : Receiver) (b : Note) (part : Channel) : Type 0 where
  master_is : ℕ
  member : master ro.music.zones b.channel ≡ Some master_is
  untuned : selected_of ro.tuning master_is ≡ None
  at_master : channel_at ro.music master_is ≡ part
  at_member : channel_at ro.music b.channel ≡ member_state o.range (channel_at ro.music b.channel).bend
  bend : (channel_at ro.music b.channel).bend ≡ bend_value (pos 8192 +ℤ t.steps)

pitch_alike : (scaling : Scaling) (o : Options) (table : Targets) → Scaled scaling o table → (m : Music) (ro : Receiver) (a b : Note)
    (t : BendTarget) → a.key < 128 → target_of o table a ≡ Some t → b.key ≡ t.key → IsSteered o t ro b (channel_at m a.channel) →
    IsWithin (source_pitch scaling o m a) (played ro b) (bound o)
pitch_alike scaling o table g m ro a b t low aim key s =
    let found = bounds_of o table a.key a.onset t aim in
    let p : HasPitch scaling a.key a.onset found.0 = has_pitch scaling table a.key a.onset found.0 g.bounds low found.1 in
    let cs : Channel = channel_at m a.channel in
    let x : ℤ = (fine cs +ℤ coarse cs) +ℤ bent cs in
    let K : ℤ = pos (3200000000000 * t.key) in
    let Q : ℤ = pos (390625000 * o.range) *ℤ t.steps in
    let on : bent (channel_at ro.music b.channel) ≡ Q =
    member_bent g.given o.range t.steps (channel_at ro.music b.channel) s.at_member s.bend (target_fits o.range found.0 t g.range found.2) in
    let sum : played ro b ≡ (K +ℤ Q) +ℤ x = member_played ro b s.master_is s.member s.untuned
    ∙ ap (λ (c : Channel). ((pos (3200000000000 * b.key) +ℤ fine c) +ℤ coarse c) +ℤ (bent (channel_at ro.music b.channel) +ℤ bent c)) s.at_master
    ∙ ap (λ k. ((pos (3200000000000 * k) +ℤ fine cs) +ℤ coarse cs) +ℤ (bent (channel_at ro.music b.channel) +ℤ bent cs)) key
    ∙ ap (λ q. ((K +ℤ fine cs) +ℤ coarse cs) +ℤ (q +ℤ bent cs)) on ∙ regroup K (fine cs) (coarse cs) Q (bent cs) in
    let close : Within (added p.pitch (exactly x)) (played ro b) (195312500 * o.range + 32000000) =
    heard_within g.laws p.pitch (terms_at scaling a.key a.onset) (ratios_at_key scaling a.key a.onset) found.0 o.range t x (played ro b) p.bounds
    (g.few_terms a.key a.onset (omega (arith, low))) g.range found.2 sum in
    let P : Route → Type 0 = λ w. Within (added p.pitch (exactly ((fine cs +ℤ coarse cs) +ℤ moved w o.range cs))) (played ro b)
    (half_step w o.range + 32000000) in
    let R : Option Pitch → Type 0 = λ q. IsWithin (heard_if o cs q) (played ro b) (bound o) in
    subst R (sym p.is) (subst P (sym g.route) close)
  where
    regroup : (k f c q r : ℤ) → ((k +ℤ f) +ℤ c) +ℤ (q +ℤ r) ≡ (k +ℤ q) +ℤ ((f +ℤ c) +ℤ r)
    regroup k f c q r = omega (arith, ints)

-- ---- the notes at a position

-- of a note of a part: its pair is there while it sounds, and its key is a key
abbrev OfPart : ℕ → Options → Targets → List Pair → Note → Type 0
OfPart port o table ps n = (sounds n ≡ true → IsAmong port ps n.channel (target_of o table n)) × (n.key < 128)

of_parts : (port : ℕ) (o : Options) (table : Targets) (ps : List Pair) (ns : List Note) → SoundAmong port o table ps ns → KeysLow ns →
    AllByRecursion (OfPart port o table ps) (retuned o ns)
of_parts port o table ps [] a l = tt
of_parts port o table ps (n ∷ ns) a l = pick (is_part o n.channel) refl (of_parts port o table ps ns a.1 l.1)
  where
    pick : (b : Bool) → is_part o n.channel ≡ b → AllByRecursion (OfPart port o table ps) (retuned o ns) →
        AllByRecursion (OfPart port o table ps) (cond b (n ∷ retuned o ns) (retuned o ns))
    pick true e g = ((a.0 e, l.0), g)
    pick false e g = g

-- what is known of both musics once the setup stands
record Heard (port : ℕ) (o : Options) (table : Targets) (zones : List Zone) (place : Pair → ℕ) (there : List Pair) (m x : Music)
    (es xs : List MidiEvent) : Type 0 where
  follows : Follows port o table zones place there m x
  members : (p : Pair) → Has there p → IsMember zones p (place p)
  among : SoundAmong port o table there m.notes
  low : KeysLow m.notes
  source : (after es).music ≡ m
  out : (after xs).music ≡ x
  untuned : QuietMasters zones (after xs).tuning

note_sounds : (scaling : Scaling) (port : ℕ) (o : Options) (table : Targets) → Scaled scaling o table → (zones : List Zone) (place : Pair → ℕ)
    (there : List Pair) (m x : Music) (es xs : List MidiEvent) → Heard port o table zones place there m x es xs → (a b : Note) →
    IsPlayedBy port o table place a b → OfPart port o table there a → sounds a ≡ true →
    SoundsTheSame scaling o (plain_device o) es xs a b
note_sounds scaling port o table scaled zones place there m x es xs h a b y of s =
    let rs : Receiver = after es in
    let ro : Receiver = after xs in
    let p : Pair = pair_with port a.channel y.target in
    let i : IsMember zones p (place p) = h.members p (subst (IsAmong port there a.channel) y.aim (of.0 s)) in
    let g : ℕ = master_of i.zone in
    let on : b.channel ≡ place p = (y.sounding s).channel in
    let zoned : ro.music.zones ≡ planned zones = ap (λ (n : Music). n.zones) h.out ∙ h.follows.out_zones in
    let member : master ro.music.zones b.channel ≡ Some g = ap (λ w. master w b.channel) zoned ∙ ap (master (planned zones)) on ∙ i.is in
    let here : channel_at ro.music b.channel ≡ channel_at x (place p) = ap (λ (n : Music). channel_at n b.channel) h.out ∙ ap (channel_at x) on in
    let at_master : channel_at ro.music g ≡ channel_at m a.channel = ap (λ (n : Music). channel_at n g) h.out
    ∙ h.follows.masters a.channel i.zone i.of in
    let its : state_of ro.music b ≡ channel_at m a.channel = ap (λ w. channel_at ro.music (unwrap_or w b.channel)) member ∙ at_master in
    let own : state_of rs.music a ≡ channel_at m a.channel = own_state rs.music a (ap (λ (n : Music). n.zones) h.source ∙ h.follows.source_zones)
    ∙ ap (λ (n : Music). channel_at n a.channel) h.source in
    let same : state_of ro.music b ≡ state_of rs.music a = its ∙ sym own in
    let plain : channel_at x (place p) ≡ member_state o.range (channel_at x (place p)).bend = h.follows.members (place p) g i.low i.is in
    let steered : IsSteered o y.target ro b (channel_at m a.channel) = record {
      master_is = g;
      member = member;
      untuned = h.untuned a.channel i.zone i.of;
      at_master = at_master;
      at_member = subst (λ (c : Channel). c ≡ member_state o.range c.bend) (sym here) plain;
      bend = ap (λ (c : Channel). c.bend) here ∙ h.follows.bent p (subst (IsAmong port there a.channel) y.aim (of.0 s));
    } in
    record {
      settings = record {
        controls = ap (λ (c : Channel). c.controls) same;
        pressure = ap (λ (c : Channel). c.pressure) same;
        key_pressure = (y.sounding s).pressure;
        parameters = λ q other. ap (λ (c : Channel). value_of c.params q) same;
      };
      pitch = subst (λ (n : Music). IsWithin (source_pitch scaling o n a) (played ro b) (bound o)) (sym h.source)
          (pitch_alike scaling o table scaled m ro a b y.target of.1 y.aim y.key steered);
    }

abbrev pub SoundAlike : Scaling → Options → List MidiEvent → List MidiEvent → List Note → List Note → Type 0
SoundAlike scaling o es xs ns ys = Pairwise (λ a b. sounds a ≡ true →
    SoundsTheSame scaling o (plain_device o) es xs a b) (retuned o ns) (retuned o ys)

all_sound : (scaling : Scaling) (port : ℕ) (o : Options) (table : Targets) → Scaled scaling o table → (zones : List Zone) (place : Pair → ℕ)
    (there : List Pair) (m x : Music) (es xs : List MidiEvent) → Heard port o table zones place there m x es xs →
    SoundAlike scaling o es xs m.notes x.notes
all_sound scaling port o table scaled zones place there m x es xs h =
    pair_weaker (λ a b. IsPlayedBy port o table place a b × OfPart port o table there a)
    (λ a b. sounds a ≡ true → SoundsTheSame scaling o (plain_device o) es xs a b)
    (λ a b q. note_sounds scaling port o table scaled zones place there m x es xs h a b q.0 q.1) (retuned o m.notes) (retuned o x.notes)
    (pair_along (IsPlayedBy port o table place) (OfPart port o table there) (retuned o m.notes) (retuned o x.notes)
    (played_retuned port o table place m.notes x.notes h.follows.notes) (of_parts port o table there m.notes h.among h.low))

pub sound_at : Laws → (scaling : Scaling) (o : Options) (table : Targets) → Scaled scaling o table → (zones : List Zone) → Asked o zones →
    (runs : PortRuns) (ns : List Numbered) (last : ℕ) → IsPlanned o table zones runs ns last → (k : ℕ) → k ≤ last → (es xs : List MidiEvent) →
    (after es).music ≡ (zoned_at o table zones runs ns k).source → (after xs).music ≡ (zoned_at o table zones runs ns k).out →
    QuietMasters zones (after xs).tuning → SoundAlike scaling o es xs (after es).music.notes (after xs).music.notes
sound_at laws scaling o table scaled zones asked runs ns last g k low es xs is_source is_out untuned =
    let s : Zoned = zoned_at o table zones runs ns k in
    let now : FollowsAt o table zones runs k s = follows_at laws o table zones asked.row asked.sets runs ns last g k low in
    let src : source_at ns k ≡ s.source = sym (source_is o table zones runs ns k) in
    subst (λ (m : Music). SoundAlike scaling o es xs m.notes (after xs).music.notes) (sym is_source)
    (subst (λ (m : Music). SoundAlike scaling o es xs s.source.notes m.notes) (sym is_out)
    (elim (cases_Bool s.begun) [
      | inl begun ↦ all_sound scaling runs.number o table scaled zones (runs.channel k) (runs.pairs k) s.source s.out es xs (record {
        follows = now.after begun;
        members = λ p h. g.member k p low h;
        among = subst (λ (m : Music). SoundAmong runs.number o table (runs.pairs k) m.notes) src (g.there k low);
        low = subst (λ (m : Music). KeysLow m.notes) src (fine_source ns last g.valid k low).low;
        source = is_source;
        out = is_out;
        untuned = untuned;
      })
      | inr not_yet ↦ (let q = now.before not_yet in
          subst (λ (m : Music). SoundAlike scaling o es xs m.notes s.out.notes) (sym q.0)
          (subst (λ (m : Music). SoundAlike scaling o es xs quiet.notes m.notes) (sym q.1.0) tt))
    ]))

-- ---- at every tick

pub same_sound : Laws → (scaling : Scaling) (o : Options) (table : Targets) → Scaled scaling o table → (zones : List Zone) → Asked o zones →
    (runs : PortRuns) (ns : List Numbered) (last : ℕ) → IsPlanned o table zones runs ns last → AreTimely ns last →
    HasSameSound scaling o (plain_device o) (is_part o) (unnumbered ns) (zoned_output o table zones runs unzoned ns)
same_sound laws scaling o table scaled zones asked runs ns last g timely t =
    let at : AtPosition o table zones runs ns last t = at_position o table zones runs ns last t timely in
    sound_at laws scaling o table scaled zones asked runs ns last g at.position at.within (until t (unnumbered ns))
    (until t (zoned_output o table zones runs unzoned ns)) at.source at.out
    (subst (λ es. QuietMasters zones (after es).tuning)
    (zoned_is o table zones runs ns timely.rising at.position ∙ sym at.blocks)
    (quiet_to laws o table zones asked runs ns last g timely.rising at.position at.within))
