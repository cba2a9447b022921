-- From positions to ticks: the events up to a tick are those up to a position, on both sides.
use Rattle.std.proofs.Common.{◌≡◌, ◌<◌, ◌≤◌, ◌+◌, ◌*◌, ℕ, pos, ◌+ℤ◌, Bool, true, false, cond, List, [], ◌∷◌, ◌++◌, Some, refl, ap, sym, ◌∙◌, subst, nat_le, arith, inl, inr}
use Rattle.std.specs.List.{AllByRecursion}
use Rattle.std.proofs.lemmas.Bool.{cases_lt, le-leb, lt-leb}
use Rattle.std.proofs.lemmas.List.{append-nil}
use Rattle.std.proofs.lemmas.List.Elements.{filter-append}
use Rattle.retune_model.specs.Pairs.{Pair}
use Rattle.mt_base.specs.Midi.{MidiWhat, MidiEvent}
use Rattle.midi_model.specs.Params.{Parameter, rank, value_of, rpn}
use Rattle.midi_model.specs.ParameterLaws.{PutLeavesTheOthers}
use Rattle.midi_model.specs.Channel.{Channel, State}
use Rattle.midi_model.specs.Zones.{no_zones, governor}
use Rattle.midi_model.specs.Notes.{Note, sounds}
use Rattle.midi_model.specs.Music.{Music, quiet, channel_at, step, play}
use Rattle.midi_model.specs.Order.{AreInOrder}
use Rattle.midi_model.specs.Receiver.{Receiver, start}
use Rattle.retune_model.specs.Options.{ByBend, Options, bends_notes}
use Rattle.retune_model.specs.PlaysTheSame.{Pairwise, until, at_tick, retuned_notes, key_of, output_key, IsSameNote, state_of, HasSameNotes}
use Rattle.retune_model.specs.Faults.{Targets, is_part, target_of}
use Rattle.retune_model.specs.Ports.{Numbered, unnumbered, Ascend}
use Rattle.channel_model.specs.Choice.{wanted, bend_value}
use Rattle.retune_model.specs.Source.{bend_in_steps}
use Rattle.channel_model.specs.BendOutput.{pair_with, placed_at, PortRuns}
use Rattle.bend_laws.specs.Moments.{Both, port_causes, port_block, moment_at, port_output}
use Rattle.bend_laws.specs.Brought.{IsSameAside}
use Rattle.bend_laws.specs.Follows.{IsPlayedBy, AreUsed}
use Rattle.bend_laws.specs.Positions.{both_at, up_to_position}
use Rattle.bend_laws.proofs.Planning.{blocks_to, IsPlanned}
use Rattle.bend_laws.specs.Simulation.{retuned, PlaysAt}
use Rattle.bend_laws.proofs.Ticks.{AreTimely, IsSetAlike}
use Rattle.bend_laws.proofs.Equal.{own_governor}
use Rattle.bend_laws.proofs.Lists.{all_weaker, all_append, map_append, pair_weaker}
use Rattle.bend_laws.proofs.Given.{Laws}
use Rattle.bend_laws.proofs.Shown.{plays_at}
use Rattle.bend_laws.proofs.Outputs.{none_yet, output_append, out_is, source_is_played, blocks_are}
use Rattle.midi_model.proofs.Same.{music_all}

-- ---- the events up to a tick, and those later

pub record Split (t : ℕ) (ns : List Numbered) : Type 0 where
  pub early : List Numbered
  pub late : List Numbered
  pub is : ns ≡ early ++ late
  pub early_ticks : AllByRecursion (λ (n : Numbered). n.event.tick ≤ t) early
  pub late_ticks : AllByRecursion (λ (n : Numbered). t < n.event.tick) late

all_from : (a : ℕ) (ns : List Numbered) → AreInOrder a (unnumbered ns) → AllByRecursion (λ (n : Numbered). a ≤ n.event.tick) ns
all_from a [] h = tt
all_from a (n ∷ ns) h = (
  h.0,
  all_weaker (λ (x : Numbered). n.event.tick ≤ x.event.tick) (λ (x : Numbered). a ≤ x.event.tick)
      (λ x g. omega (arith, g, h.0)) ns (all_from n.event.tick ns h.1),
)

pub split : (t a : ℕ) (ns : List Numbered) → AreInOrder a (unnumbered ns) → Split t ns
split t a [] h = record { early = []; late = []; is = refl; early_ticks = tt; late_ticks = tt }
split t a (n ∷ ns) h = elim (cases_lt t n.event.tick) [
  | inl l ↦ record {
    early = [];
    late = n ∷ ns;
    is = refl;
    early_ticks = tt;
    late_ticks = (
      l,
      all_weaker (λ (x : Numbered). n.event.tick ≤ x.event.tick) (λ (x : Numbered). t < x.event.tick)
          (λ x g. omega (arith, g, l)) ns (all_from n.event.tick ns h.1),
    );
  }
  | inr l ↦ (let r : Split t ns = split t n.event.tick ns h.1 in record {
    early = n ∷ r.early;
    late = r.late;
    is =
        ap (λ xs. n ∷ xs) r.is;
    early_ticks = (l, r.early_ticks);
    late_ticks = r.late_ticks;
  })
]

-- the position of the last
pub last_from : ℕ → List Numbered → ℕ
last_from a [] = a
last_from a (n ∷ ns) = last_from n.position ns

last_grows : (a : ℕ) (xs ys : List Numbered) → Ascend a (xs ++ ys) → a ≤ last_from a xs
unfolding last_from
last_grows a [] ys h = omega arith
last_grows a (n ∷ ns) ys h = let g : n.position ≤ last_from n.position ns = last_grows n.position ns ys h.1 in let l : a < n.position =
    h.0 in omega (arith, g, l)

pub up_to_last : (a : ℕ) (xs ys : List Numbered) → Ascend a (xs ++ ys) → up_to_position (last_from a xs) (xs ++ ys) ≡ xs
unfolding last_from
up_to_last a [] ys h = none_yet a ys h a (omega arith)
up_to_last a (n ∷ ns) ys h =
    ap (λ b. cond b (n ∷ up_to_position (last_from n.position ns) (ns ++ ys)) (up_to_position (last_from n.position ns) (ns ++ ys)))
    (le-leb n.position (last_from n.position ns) (last_grows n.position ns ys h.1))
    ∙ ap (λ zs. n ∷ zs) (up_to_last n.position ns ys h.1)

pub last_within : (a m : ℕ) (xs ys : List Numbered) → a ≤ m → AllByRecursion (λ (n : Numbered). n.position ≤ m) (xs ++ ys) → last_from a xs ≤ m
unfolding last_from
last_within a m [] ys l h = l
last_within a m (n ∷ ns) ys l h = last_within n.position m ns ys h.0 h.1

-- ---- events by their ticks

until_early : (t : ℕ) (es : List MidiEvent) → AllByRecursion (λ e. e.tick ≤ t) es → until t es ≡ es
until_early t [] h = refl
until_early t (e ∷ es) h = ap (λ b. cond b (e ∷ until t es) (until t es)) (le-leb e.tick t h.0) ∙ ap (λ xs. e ∷ xs) (until_early t es h.1)

until_late : (t : ℕ) (es : List MidiEvent) → AllByRecursion (λ e. t < e.tick) es → until t es ≡ []
until_late t [] h = refl
until_late t (e ∷ es) h = ap (λ b. cond b (e ∷ until t es) (until t es)) (lt-leb e.tick t h.0) ∙ until_late t es h.1

pub until_split : (t : ℕ) (xs ys : List MidiEvent) → AllByRecursion (λ e. e.tick ≤ t) xs → AllByRecursion (λ e. t < e.tick) ys → until t (xs ++ ys) ≡ xs
until_split t xs ys h g = filter-append (λ e. nat_le e.tick t) xs ys ∙ ap (λ zs. zs ++ until t ys) (until_early t xs h) ∙ ap (λ zs. xs ++ zs)
    (until_late t ys g) ∙ append-nil xs

pub ticks_of : (P : ℕ → Type 0) (ns : List Numbered) → AllByRecursion (λ (n : Numbered). P n.event.tick) ns → AllByRecursion (λ e. P e.tick)
    (unnumbered ns)
ticks_of P [] h = tt
ticks_of P (n ∷ ns) h = (h.0, ticks_of P ns h.1)

-- a block stands at its event's tick
pub block_ticks : (P : ℕ → Type 0) (e : MidiEvent) (ws : List MidiWhat) → P e.tick → AllByRecursion (λ x. P x.tick) (placed_at e ws)
block_ticks P e [] h = tt
block_ticks P e (w ∷ ws) h = (h, block_ticks P e ws h)

output_ticks : (P : ℕ → Type 0) (o : Options) (table : Targets) (plan : PortRuns) (src out : Music) (ns : List Numbered) →
    AllByRecursion (λ (n : Numbered). P n.event.tick) ns → AllByRecursion (λ e. P e.tick) (port_output o table plan src out ns)
output_ticks P o table plan src out [] h = tt
output_ticks P o table plan src out (n ∷ ns) h =
    let block : List MidiEvent = port_block plan.number o table (moment_at plan n.position) src out n.event in
    all_append (λ e. P e.tick) block (port_output o table plan (step src n.event) (play out block) ns)
    (block_ticks P n.event (port_causes plan.number o table (moment_at plan n.position) src (step src n.event) out n.event.tick n.event.what) h.0)
    (output_ticks P o table plan (step src n.event) (play out block) ns h.1)

until_output : (t : ℕ) (o : Options) (table : Targets) (plan : PortRuns) (xs ys : List Numbered) →
    AllByRecursion (λ (n : Numbered). n.event.tick ≤ t) xs → AllByRecursion (λ (n : Numbered). t < n.event.tick) ys →
    until t (port_output o table plan quiet quiet (xs ++ ys)) ≡ port_output o table plan quiet quiet xs
until_output t o table plan xs ys h g =
    let rest = output_append o table plan quiet quiet xs ys in
    ap (until t) rest ∙ until_split t (port_output o table plan quiet quiet xs) _ (output_ticks (λ x. x ≤ t) o table plan quiet quiet xs h)
    (output_ticks (λ x. t < x) o table plan _ _ ys g)

-- ---- the musics at a tick are those at a position

pub record AtPosition (o : Options) (table : Targets) (plan : PortRuns) (ns : List Numbered) (last t : ℕ) : Type 0 where
  pub position : ℕ
  pub within : position ≤ last
  pub source : (at_tick t (unnumbered ns)).music ≡ (both_at o table plan ns position).source
  pub out : (at_tick t (port_output o table plan quiet quiet ns)).music ≡ (both_at o table plan ns position).out
  pub blocks : until t (port_output o table plan quiet quiet ns) ≡ blocks_to o table plan ns position

pub at_position : (o : Options) (table : Targets) (plan : PortRuns) (ns : List Numbered) (last t : ℕ) → AreTimely ns last →
    AtPosition o table plan ns last t
at_position o table plan ns last t h =
    let s : Split t ns = split t 0 ns h.in_order in
    let k : ℕ = last_from 0 s.early in
    let rising : Ascend 0 (s.early ++ s.late) = subst (Ascend 0) s.is h.rising in
    let early : up_to_position k ns ≡ s.early = ap (up_to_position k) s.is ∙ up_to_last 0 s.early s.late rising in
    record {
      position = k;
      within = last_within 0 last s.early s.late (omega arith) (subst (AllByRecursion (λ (n : Numbered). n.position ≤ last)) s.is h.within);
      source = music_all start (until t (unnumbered ns))
          ∙ ap (λ xs. play quiet (until t (unnumbered xs))) s.is ∙ ap (λ es. play quiet (until t es))
          (map_append (λ (n : Numbered). n.event) s.early s.late)
          ∙ ap (play quiet) (until_split t (unnumbered s.early) (unnumbered s.late) (ticks_of (λ x. x ≤ t) s.early s.early_ticks)
          (ticks_of (λ x. t < x) s.late s.late_ticks))
          ∙ ap (λ xs. play quiet (unnumbered xs)) (sym early) ∙ sym (source_is_played o table plan ns k h.rising);
      out = music_all start (until t (port_output o table plan quiet quiet ns))
          ∙ ap (λ xs. play quiet (until t (port_output o table plan quiet quiet xs))) s.is ∙ ap (play quiet)
          (until_output t o table plan s.early s.late s.early_ticks s.late_ticks)
          ∙ ap (λ xs. play quiet (port_output o table plan quiet quiet xs)) (sym early) ∙ ap (play quiet)
          (sym (blocks_are o table plan ns k h.rising)) ∙ sym (out_is o table plan ns k);
      blocks = ap (λ xs. until t (port_output o table plan quiet quiet xs)) s.is
          ∙ until_output t o table plan s.early s.late s.early_ticks s.late_ticks
          ∙ ap (port_output o table plan quiet quiet) (sym early) ∙ sym (blocks_are o table plan ns k h.rising);
    }

-- ---- the same notes

same_note : (port : ℕ) (o : Options) (table : Targets) (place : Pair → ℕ) → o.route ≡ ByBend → (a b : Note) → IsPlayedBy port o table place a b →
    IsSameNote (output_key o table) a b
same_note port o table place route a b h = record {
  key = ap (λ r. cond (bends_notes r) (key_of (target_of o table a)) (Some a.key)) route ∙ ap key_of h.aim ∙ ap Some (sym h.key);
  onset = h.onset;
  velocity = h.velocity;
  voice = h.voice;
  release = h.release;
  ended = h.ended;
}

pub same_notes : (Good : State → Type 0) → Laws Good → (o : Options) (table : Targets) (used : ℕ → Bool) → AreUsed o used → (plan : PortRuns)
    (ns : List Numbered) (last : ℕ) → IsPlanned Good o table used plan ns last → AreTimely ns last →
    HasSameNotes (output_key o table) (is_part o) (unnumbered ns) (port_output o table plan quiet quiet ns)
same_notes Good laws o table used row plan ns last given timely t =
    let at : AtPosition o table plan ns last t = at_position o table plan ns last t timely in
    let b : Both = both_at o table plan ns at.position in
    let plays : PlaysAt o table used plan ns at.position b = plays_at Good laws o table used row plan ns last given at.position at.within in
    let R : Note → Note → Type 0 = IsSameNote (output_key o table) in
    subst (λ (m : Music). Pairwise R (retuned o m.notes) (retuned_notes (is_part o) (at_tick t (port_output o table plan quiet quiet ns))))
    (sym at.source)
    (subst (λ (m : Music). Pairwise R (retuned o b.source.notes) (retuned o m.notes)) (sym at.out)
    (pair_weaker (IsPlayedBy plan.number o table (plan.channel at.position)) R (same_note plan.number o table (plan.channel at.position) row.route)
    (retuned o b.source.notes) (retuned o b.out.notes) plays.notes))

-- ---- the same settings

rank_zero : (p : Parameter) → rank p ≡ 0 → p ≡ rpn 0
rank_zero p h = by_kind p.registered p.high p.low h
  where
    by_kind : (r : Bool) (a b : ℕ) → (cond r 0 16384 + 128 * a) + b ≡ 0 → (let q : Parameter =
        record { registered = r; high = a; low = b } in q ≡ rpn 0)
    by_kind false a b e = absurd (omega (arith, e))
    by_kind true a b e = (let x : a ≡ 0 = omega (arith, e) in let y : b ≡ 0 = omega (arith, e) in
        ap (λ u. let q : Parameter = record { registered = true; high = u; low = b } in q) x
        ∙ ap (λ u. let q : Parameter = record { registered = true; high = 0; low = u } in q) y)

pub own_state : (m : Music) (n : Note) → m.zones ≡ no_zones → channel_at m (governor m.zones n.channel) ≡ channel_at m n.channel
own_state m n z = ap (λ w. channel_at m (governor w n.channel)) z ∙ ap (channel_at m) (own_governor n.channel)

-- one note that sounds, on plain musics
pub set_alike : PutLeavesTheOthers → (port : ℕ) (o : Options) (table : Targets) (rs ro : Receiver) (place : Pair → ℕ) (a b : Note) →
    rs.music.zones ≡ no_zones → ro.music.zones ≡ no_zones → (h : IsPlayedBy port o table place a b) → sounds a ≡ true →
    IsSameAside (channel_at ro.music (place (pair_with port a.channel h.target)))
    (wanted o table rs.music (pair_with port a.channel h.target)).own → IsSetAlike o table rs ro a b
set_alike law port o table rs ro place a b zs zo h s is =
    let out : state_of ro.music b ≡ channel_at ro.music (place (pair_with port a.channel h.target)) = own_state ro.music b zo
    ∙ ap (channel_at ro.music) (h.sounding s).channel in
    let src : state_of rs.music a ≡ channel_at rs.music a.channel = own_state rs.music a zs in
    let part : Channel = channel_at rs.music a.channel in
    record {
      target = h.target;
      aim = h.aim;
      controls = ap (λ (c : Channel). c.controls) out ∙ is.controls ∙ ap (λ (c : Channel). c.controls) (sym src);
      pressure = ap (λ (c : Channel). c.pressure) out ∙ is.pressure ∙ ap (λ (c : Channel). c.pressure) (sym src);
      key_pressure = (h.sounding s).pressure;
      parameters = λ p other. ap (λ (c : Channel). value_of c.params p) out ∙ ap (λ es. value_of es p) is.params
          ∙ law (rpn 0) p (o.range, 0) part.params (λ e. other (rank_zero p e)) ∙ ap (λ (c : Channel). value_of c.params p) (sym src);
      bend = ap (λ (c : Channel). c.bend) out ∙ is.bend ∙ ap (λ (c : Channel). bend_value
          ((pos 8192 +ℤ h.target.steps) +ℤ bend_in_steps o.range c)) (sym src);
    }
