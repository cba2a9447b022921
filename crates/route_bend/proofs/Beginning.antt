-- A note of a part begins: its channel by the plan, and what is kept of its port.
use Rattle.std.proofs.Common.{◌≡◌, ◌≢◌, ℕ, ℤ, pos, suc, Bool, true, false, cond, List, [], Option, Some, None, take, refl, ap, sym, ◌∙◌, subst, inl, inr}
use Rattle.std.specs.Set.{is_member}
use Rattle.std.proofs.lemmas.Bool.{both_ways, false_from_ne_true, cases_eq}
use Rattle.mt_base.specs.declared.event.Msg.{Msg}
use Rattle.mt_base.specs.declared.event.Msg.TheVariants.{NoteOn}
use Rattle.mt_base.specs.Midi.{MidiWhat, MidiEvent, Says}
use Rattle.midi_model.specs.Music.{Music, step}
use Rattle.retune_model.specs.Table.{BendTarget}
use Rattle.retune_model.specs.Options.{Options, bends_notes}
use Rattle.retune_model.specs.PlaysTheSame.{bend_target_if}
use Rattle.retune_model.specs.SourceFaults.{kind_in}
use Rattle.retune_model.specs.Faults.{Targets, is_part}
use Rattle.retune_model.specs.Pairs.{Pair, is_same_pair}
use Rattle.retune_model.specs.Ports.{Numbered, of_port}
use Rattle.retune_model.specs.Rests.{steps_of}
use Rattle.channel_model.specs.Choice.{wanted}
use Rattle.channel_model.specs.BendOutput.{PortRuns, pair_with, note_begins}
use Rattle.state_laws.specs.Reached.{IgnoresTheSelections}
use Rattle.bend_laws.specs.Moments.{Both}
use Rattle.bend_laws.specs.Positions.{both_at}
use Rattle.bend_laws.proofs.Changing.{said_at}
use Rattle.bend_laws.proofs.Given.{IsFine, fine}
use Rattle.bend_laws.proofs.Striking.{aimed}
use Rattle.key_pitch.specs.declared.aim.Aim.TheVariants.{Bend as AimAt}
use Rattle.key_pitch.specs.Aims.{bend_aim, tuning_aim}
use Rattle.lifetimes.specs.Told.{port_on, music_on, begun_by, count_begun, aim_steps, aim_in}
use Rattle.lifetimes.specs.declared.change.Begun.{Begun}
use Rattle.channel_plan.specs.Told.{channel_in}
use Rattle.channel_plan.specs.declared.plan.Plan.{Plan}
use Rattle.route_bend.specs.Channels.{is_given, is_on, BeginsOn, IsFresh}
use Rattle.route_bend.specs.Sent.{begun_on}
use Rattle.route_bend.specs.Standing.{ChannelsStand, IsAt, PortStands, AllStand, StandIf, IsExact, IsPrepared, runs_by, used_by, found_in, caused}
use Rattle.route_bend.specs.Preparing.{IsReady, PreparedIf}
use Rattle.route_bend.specs.Turning.{IsTurn, EventsTurn, OthersWait, PositionsAreSeen, NotesAreGiven}
use Rattle.route_bend.specs.declared.channels.Channels.{Channels}
use Rattle.route_bend.specs.declared.bending.Bending.{Bending}
use Rattle.route_bend.proofs.Owning.{opened}
use Rattle.route_bend.proofs.Pressed.{aim_told, aim_none}
use Rattle.route_bend.proofs.Striking as strike
use Rattle.route_bend.proofs.Everywhere.{all_none}
use Rattle.route_bend.proofs.Along.{after_is}

some_begun : (a b : Begun) → Some a ≡ Some b → a ≡ b
some_begun a b h = cc

same_place : (a b : ℕ) → Some a ≡ Some b → a ≡ b
same_place a b h = cc

same_message : (a b : Msg) → Says a ≡ Says b → a ≡ b
same_message a b h = cc

same_kept : (a b : Channels) → Some a ≡ Some b → a ≡ b
same_kept a b h = cc

-- what is told of a note that a message begins as the n-th
abbrev pub begun_note : Options → Targets → ℕ → ℕ → ℕ → ℕ → ℕ → Begun
begun_note o table z n t c j = record {
  note = n;
  pair = record { part = record { port = z; channel = c }; steps = aim_steps o table j t };
  key = j;
  target = aim_in o table j t;
}

pub told_begun : (o : Options) (table : Targets) (z n t : ℕ) (w : MidiWhat) (c j v : ℕ) (b : Begun) → w ≡ Says (NoteOn c j (suc v)) →
    is_part o c ≡ true →
    Some b ≡ begun_by o table z n t w → b ≡ begun_note o table z n t c j
told_begun o table z n t w c j v b what part h =
    some_begun b (begun_note o table z n t c j) (h ∙ ap (begun_by o table z n t) what
    ∙ ap (λ r. cond r (Some (begun_note o table z n t c j)) None) part)

pub fresh_exact : (runs : PortRuns) (k c : ℕ) (s : Channels) → IsFresh s → IsExact runs k c s
fresh_exact runs k c s fresh d low g = absurd (both_ways (is_given s c d) (fresh.given c d) g)

module _ (turn : EventsTurn) (wait : OthersWait) (seen : PositionsAreSeen) (given : NotesAreGiven) (law : IgnoresTheSelections) (o : Options)
    (allowed : ℕ → Bool)
    (table : Targets) (es : List MidiEvent) (plan : Plan) (k : ℕ) (e : MidiEvent) (at : IsAt o allowed table es plan k e (port_on (take k es) e))
    (c j v : ℕ) (what : e.what ≡ Says (NoteOn c j (suc v))) (part : is_part o c ≡ true) where
  abbrev pub z : ℕ
  z = port_on (take k es) e

  abbrev pub runs : PortRuns
  runs = runs_by o allowed table es plan (port_on (take k es) e)

  abbrev pub ns : List Numbered
  ns = of_port (port_on (take k es) e) es

  abbrev pub used : ℕ → Bool
  used = used_by o allowed table es (port_on (take k es) e)

  here : IsTurn o table used runs ns k e
  here = turn o allowed table es plan k e z at

  abbrev both : Both
  both = both_at o table runs ns k

  fit : IsFine z o table both.source (step both.source e) (runs.pairs (suc k)) e.tick (NoteOn c j (suc v))
  fit = fine z o table both.source (step both.source e) (runs.pairs (suc k)) e.tick (NoteOn c j (suc v))
      (subst (λ w. kind_in z o table e.tick both.source (step both.source e) false (runs.pairs (suc k)) w ≡ None) what here.sound.faultless)

  -- it has a target, and the plan a channel
  pub aim : (x : BendTarget) × (bend_target_if o.range (table j e.tick) ≡ Some x)
  aim = aimed o table e.tick c j v here.row.route part fit.mapped fit.in_device

  pub never_missed : bends_notes o.route ≡ true → (b : Begun) → Some b ≡ begun_by o table z (suc (count_begun o (take k es))) e.tick e.what →
      ((y : ℕ) (q : ℤ) → b.target ≡ AimAt y q → ⊥) → ⊥
  never_missed bends b h miss =
      let is : b.target ≡ bend_aim o.range (table j e.tick) =
      ap (λ (r : Begun). r.target) (told_begun o table z (suc (count_begun o (take k es))) e.tick e.what c j v b what part h)
      ∙ ap (λ r. cond r (bend_aim o.range (table j e.tick)) (tuning_aim (table j e.tick))) bends in
      let none : bend_target_if o.range (table j e.tick) ≡ None = aim_none o.range (table j e.tick) (λ y q g. miss y q (is ∙ g)) in
      let some : Some aim.0 ≡ None = sym aim.1 ∙ none in
      absurd cc

  pub never_free : (b : Begun) → Some b ≡ begun_by o table z (suc (count_begun o (take k es))) e.tick e.what → channel_in plan b.note ≡ None → ⊥
  never_free b h none =
      let number : b.note ≡ suc (count_begun o (take k es)) =
      ap (λ (r : Begun). r.note) (told_begun o table z (suc (count_begun o (take k es))) e.tick e.what c j v b what part h) in
      let some : Some (runs.channel (suc k) (pair_with z c aim.0)) ≡ None =
      sym (given o allowed table es plan k e z c j v aim.0 at what part aim.1) ∙ ap (channel_in plan) (sym number) ∙ none in
      absurd cc

  -- ---- its target

  module _ (b : Begun) (begun : Some b ≡ begun_by o table (port_on (take k es) e) (suc (count_begun o (take k es))) e.tick e.what)
      (bends : bends_notes o.route ≡ true) (y : ℕ) (q : ℤ) (target : b.target ≡ AimAt y q) where
    abbrev pub target_at : BendTarget
    target_at = record { key = y; steps = q }

    abbrev pub pair_at : Pair
    pair_at = pair_with (port_on (take k es) e) c (let r : BendTarget = record { key = y; steps = q } in r)

    as_told : b ≡ begun_note o table z (suc (count_begun o (take k es))) e.tick c j
    as_told = told_begun o table z (suc (count_begun o (take k es))) e.tick e.what c j v b what part begun

    pub port_is : b.pair.part.port ≡ z
    port_is = ap (λ (r : Begun). r.pair.part.port) as_told

    pub aim_is : bend_target_if o.range (table j e.tick) ≡ Some target_at
    aim_is = aim_told o.range (table j e.tick) y q
        (sym (ap (λ (r : Begun). r.target) as_told ∙ ap (λ r. cond r (bend_aim o.range (table j e.tick)) (tuning_aim (table j e.tick))) bends)
        ∙ target)

    pub steps_is : b.pair.steps ≡ q
    steps_is = ap (λ (r : Begun). r.pair.steps) as_told ∙ ap (λ r. cond r (steps_of (bend_target_if o.range (table j e.tick))) (pos 0)) bends
        ∙ ap steps_of aim_is

    pub place_is : (d : ℕ) → channel_in plan b.note ≡ Some d → d ≡ runs.channel (suc k) pair_at
    place_is d h = same_place d (runs.channel (suc k) pair_at) (sym h ∙ ap (λ (r : Begun). channel_in plan r.note) as_told
        ∙ given o allowed table es plan k e z c j v target_at at what part aim_is)

  -- ---- what is kept of its port, and what is sent

  module _ (x : BendTarget) (aim_x : bend_target_if o.range (table j e.tick) ≡ Some x) (s : Channels)
      (stands : PortStands o allowed table es plan (port_on (take k es) e) k s)
      (exact : IsExact (runs_by o allowed table es plan (port_on (take k es) e)) k c s) where
    abbrev pub own_pair : Pair
    own_pair = pair_with (port_on (take k es) e) c x

    abbrev pub own_place : ℕ
    own_place = (runs_by o allowed table es plan (port_on (take k es) e)).channel (suc k) (pair_with (port_on (take k es) e) c x)

    same : e ≡ said_at e.tick e.track (NoteOn c j (suc v))
    same = ap (λ w. let f : MidiEvent = record { tick = e.tick; track = e.track; what = w } in f) what

    said : IsTurn o table used runs ns k (said_at e.tick e.track (NoteOn c j (suc v)))
    said = subst (IsTurn o table used runs ns k) same here

    music : music_on z (take (suc k) es) ≡ step both.source (said_at e.tick e.track (NoteOn c j (suc v)))
    music = after_is turn seen o allowed table es plan k e z at ∙ ap (step both.source) same

    pub goes : (y : Channels) → (is_on s own_pair own_place ≡ true → y ≡ s) →
        (is_on s own_pair own_place ≡ false → BeginsOn own_pair own_place (wanted o table (music_on (port_on (take k es) e)
        (take (suc k) es)) own_pair) s y) → PortStands o allowed table es plan (port_on (take k es) e) (suc k) y
    goes y kept begins = pick (is_member is_same_pair (runs.pairs k) own_pair) refl
      where
        pick : (r : Bool) → is_member is_same_pair (runs.pairs k) own_pair ≡ r → ChannelsStand o table used runs ns (suc k) y
        pick true was = subst (λ q. ChannelsStand o table used runs ns (suc k) q)
            (sym (kept (strike.is_there o table used runs ns k e.tick e.track c j v said part x aim_x s stands was)))
            (strike.goes_on o table used runs ns k e.tick e.track c j v said part x aim_x s stands was)
        pick false new = strike.begun_stands o table used runs ns k e.tick e.track c j v said part x aim_x s stands exact new y
            (subst (λ (m : Music). BeginsOn own_pair own_place (wanted o table m own_pair) s y) music
            (begins (false_from_ne_true (is_on s own_pair own_place) (λ g. strike.nowhere o table used runs ns k e.tick e.track c j v said part x
            aim_x s stands exact new own_place
            (strike.low o table used runs ns k e.tick e.track c j v said part x aim_x) g))))

    pub causes : caused o table (runs_by o allowed table es plan (port_on (take k es) e)) (of_port (port_on (take k es) e) es) k e
        (NoteOn c j (suc v))
        ≡ begun_on (wanted o table (music_on (port_on (take k es) e) (take (suc k) es)) own_pair) s own_pair own_place x.key (suc v)
    causes =
        ap (note_begins z o table (runs.pairs k) (step both.source e) both.out (runs.channel (suc k)) c (suc v)) aim_x
        ∙ ap (λ f. note_begins z o table (runs.pairs k) (step both.source f) both.out (runs.channel (suc k)) c (suc v) (Some x)) same
        ∙ pick (is_member is_same_pair (runs.pairs k) own_pair) refl
        ∙ ap (λ (m : Music). begun_on (wanted o table m own_pair) s own_pair own_place x.key (suc v)) (sym music)
      where
        pick : (r : Bool) → is_member is_same_pair (runs.pairs k) own_pair ≡ r →
            note_begins z o table (runs.pairs k) (step both.source (said_at e.tick e.track (NoteOn c j (suc v)))) both.out (runs.channel (suc k)) c
            (suc v) (Some x)
            ≡ begun_on (wanted o table (step both.source (said_at e.tick e.track (NoteOn c j (suc v)))) own_pair) s own_pair own_place x.key (suc v)
        pick true was = strike.strikes_there o table used runs ns k e.tick e.track c j v said part x aim_x s stands was
        pick false new = strike.strikes_new o table used runs ns k e.tick e.track c j v said part x aim_x law s stands exact new

  -- ---- in the file

  -- what is kept of the port, which may have been opened
  pub ready_here : (b : Bending) → IsReady o allowed table es plan k e b → (ports : List Channels) (s : Channels) →
      found_in ports (port_on (take k es) e) ≡ Some s →
      ((r : Channels) → found_in b.ports.items (port_on (take k es) e) ≡ Some r → found_in ports (port_on (take k es) e) ≡ Some r) →
      ((r : Channels) → found_in b.ports.items (port_on (take k es) e) ≡ None → found_in ports (port_on (take k es) e) ≡ Some r
      → (r.port ≡ port_on (take k es) e) × IsFresh r) →
      PortStands o allowed table es plan (port_on (take k es) e) k s
      × (IsExact (runs_by o allowed table es plan (port_on (take k es) e)) k c s × (b.out.messages.items ≡ []))
  ready_here b ready ports s is same fresh = pick (found_in b.ports.items z) refl
    where
      prepared : PreparedIf o allowed table es plan k e (NoteOn c j (suc v)) z (found_in b.ports.items z) b.out.messages.items
      prepared = ready.ready (NoteOn c j (suc v)) what part

      pick : (r : Option Channels) → found_in b.ports.items z ≡ r → PortStands o allowed table es plan z k s × (IsExact runs k c s
          × (b.out.messages.items ≡ []))
      pick (Some r) h =
          let kept : IsPrepared o table used runs ns k e (NoteOn c j (suc v)) r b.out.messages.items =
          subst (λ y. PreparedIf o allowed table es plan k e (NoteOn c j (suc v)) z y b.out.messages.items) h prepared in
          let one : s ≡ r = same_kept s r (sym is ∙ same r h) in (
            subst (λ y. PortStands o allowed table es plan z k y) (sym one) kept.stands,
            (subst (λ y. IsExact runs k c y) (sym one) (kept.exact refl), kept.none refl),
          )
      pick None h =
          let new = fresh s h is in (
            opened o table used runs ns k s here.row.channel (all_none turn wait o allowed table es plan k e at b.ports.items ready.stands h)
                new.1 new.0,
            (
              fresh_exact runs k c s new.1,
              subst (λ y. PreparedIf o allowed table es plan k e (NoteOn c j (suc v)) z y b.out.messages.items) h
                  prepared,
            ),
          )

  -- all ports stand with it
  pub all_opened : (old new : List Channels) (s : Channels) → AllStand o allowed table es plan k old →
      ((y : ℕ) → y ≢ port_on (take k es) e → found_in new y ≡ found_in old y) → found_in new (port_on (take k es) e) ≡ Some s →
      PortStands o allowed table es plan (port_on (take k es) e) k s → AllStand o allowed table es plan k new
  all_opened old new s stands others is own y = elim (cases_eq y z) [
    | inl i ↦ subst (λ r. StandIf o table (used_by o allowed table es r) (runs_by o allowed table es plan r) (of_port r es) k
        (found_in new r)) (sym i)
        (subst (StandIf o table used runs ns k) (sym is) own)
    | inr i ↦ subst (StandIf o table (used_by o allowed table es y) (runs_by o allowed table es plan y) (of_port y es) k) (sym (others y i))
        (stands y)
  ]
