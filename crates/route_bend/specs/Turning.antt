-- What is known of a source with a plan around each of its events: the output follows the source on each port.
use Rattle.std.specs.Prelude.{◌≡◌, ◌≢◌, ◌<◌, ◌≤◌, ℕ, suc, List, Bool, true, false, Some, None, take, length}
use Rattle.std.specs.Set.{is_member}
use Rattle.mt_base.specs.declared.event.Msg.{Msg}
use Rattle.mt_base.specs.declared.event.Msg.TheVariants.{NoteOn}
use Rattle.mt_base.specs.Midi.{MidiEvent, Says}
use Rattle.midi_model.specs.Sysex.{doing}
use Rattle.midi_model.specs.WellFormed.{IsWellFormed}
use Rattle.midi_model.specs.Music.{asks}
use Rattle.retune_model.specs.Options.{Options}
use Rattle.retune_model.specs.Faults.{Targets, is_part}
use Rattle.retune_model.specs.Pairs.{Pair, is_same_pair}
use Rattle.retune_model.specs.Ports.{Numbered, of_port, resets}
use Rattle.retune_model.specs.Table.{BendTarget}
use Rattle.retune_model.specs.PlaysTheSame.{bend_target_if}
use Rattle.channel_model.specs.BendOutput.{PortRuns, pair_with}
use Rattle.bend_laws.specs.Follows.{Has, IsGiven, AreUsed, Follows}
use Rattle.bend_laws.specs.Moments.{moment, next_both}
use Rattle.bend_laws.specs.Positions.{both_at}
use Rattle.bend_laws.specs.Simulation.{PlaysAt}
use Rattle.lifetimes.specs.Told.{is_held, music_on, count_begun}
use Rattle.channel_plan.specs.Told.{channel_in}
use Rattle.channel_plan.specs.declared.plan.Plan.{Plan}
use Rattle.route_bend.specs.Standing.{IsBending, IsAt, NoneStands, runs_by, used_by}

-- Around event k + 1 of a port.
pub record IsTurn (o : Options) (table : Targets) (used : ℕ → Bool) (plan : PortRuns) (ns : List Numbered) (k : ℕ) (e : MidiEvent) : Type 0 where
  pub row : AreUsed o used
  pub follows : Follows IsWellFormed plan.number o table used (plan.channel k) (plan.pairs k) (both_at o table plan ns k)
  pub sound : IsGiven IsWellFormed plan.number o table used (moment plan k) (both_at o table plan ns k).source e
  pub shows : PlaysAt o table used plan ns k (both_at o table plan ns k)
  pub next : both_at o table plan ns (suc k) ≡ next_both plan.number o table (moment plan k) (both_at o table plan ns k) e
  -- it sets no zone
  pub zones : (m : Msg) → e.what ≡ Says m → asks (both_at o table plan ns k).source m ≡ None
  -- without rests the pairs that are there hold their channels at the event; with rests, what holds its channel is there after it
  pub still : o.tail ≡ 0 → plan.held (suc k) ≡ plan.pairs k
  pub rests : 0 < o.tail → resets (doing e.what) ≡ false → (p : Pair) → Has (plan.held (suc k)) p → Has (plan.pairs (suc k)) p

-- At an event of another port rests may run out, and nothing else changes.
pub record IsWait (o : Options) (table : Targets) (plan : PortRuns) (ns : List Numbered) (k : ℕ) : Type 0 where
  pub same : both_at o table plan ns (suc k) ≡ both_at o table plan ns k
  pub there : (p : Pair) → Has (plan.pairs (suc k)) p → Has (plan.pairs k) p
  pub kept : (p : Pair) → Has (plan.pairs (suc k)) p → plan.channel (suc k) p ≡ plan.channel k p

-- What the parts tell after the first k events is so at position k.
pub record IsSeen (o : Options) (table : Targets) (es : List MidiEvent) (plan : PortRuns) (z k : ℕ) : Type 0 where
  pub music : music_on z (take k es) ≡ (both_at o table plan (of_port z es) k).source
  pub held : (p : Pair) → p.part.port ≡ z → is_held o table (take k es) p ≡ is_member is_same_pair (plan.pairs k) p

-- ---- laws

abbrev pub EventsTurn : Type 0
EventsTurn = (o : Options) (allowed : ℕ → Bool) (table : Targets) (es : List MidiEvent) (plan : Plan) (k : ℕ) (e : MidiEvent) (z : ℕ)
    → IsAt o allowed table es plan k e z → IsTurn o table (used_by o allowed table es z) (runs_by o allowed table es plan z) (of_port z es) k e

abbrev pub OthersWait : Type 0
OthersWait = (o : Options) (allowed : ℕ → Bool) (table : Targets) (es : List MidiEvent) (plan : Plan) (k : ℕ) (e : MidiEvent) (z y : ℕ)
    → IsAt o allowed table es plan k e z → y ≢ z → IsWait o table (runs_by o allowed table es plan y) (of_port y es) k

abbrev pub PositionsAreSeen : Type 0
PositionsAreSeen = (o : Options) (allowed : ℕ → Bool) (table : Targets) (es : List MidiEvent) (plan : Plan) (z k : ℕ)
    → IsBending o allowed table es plan → k ≤ length es → IsSeen o table es (runs_by o allowed table es plan z) z k

-- The plan gives a note that event k + 1 begins the channel of its pair's run.
abbrev pub NotesAreGiven : Type 0
NotesAreGiven = (o : Options) (allowed : ℕ → Bool) (table : Targets) (es : List MidiEvent) (plan : Plan) (k : ℕ) (e : MidiEvent) (z c j v : ℕ)
    (x : BendTarget) → IsAt o allowed table es plan k e z → e.what ≡ Says (NoteOn c j (suc v)) → is_part o c ≡ true
    → bend_target_if o.range (table j e.tick) ≡ Some x
    → channel_in plan (suc (count_begun o (take k es))) ≡ Some ((runs_by o allowed table es plan z).channel (suc k) (pair_with z c x))

-- At the start no run has begun.
abbrev pub NothingIsThere : Type 0
NothingIsThere = (o : Options) (allowed : ℕ → Bool) (table : Targets) (es : List MidiEvent) (plan : Plan) (z : ℕ) → IsBending o allowed table es plan
    → NoneStands o table (used_by o allowed table es z) (runs_by o allowed table es plan z) (of_port z es) 0
