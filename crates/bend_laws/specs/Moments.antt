-- The events of one port, with what is written for them on the bend route and how its channels are left (this project's own). A pair
-- of a part and a bend has a channel of its own for as long as its run lasts, which may be longer than its notes sound; the events of
-- other ports count as positions too.
use Rattle.std.specs.Prelude.{ℕ, suc, List, [], Bool, true, false, not, if◌then◌else◌, Option, Some, None, filter}
use Rattle.std.specs.Set.{is_member}
use Rattle.mt_base.specs.declared.event.Msg.{Msg}
use Rattle.mt_base.specs.Midi.{MidiWhat, MidiEvent}
use Rattle.midi_model.specs.Sysex.{doing}
use Rattle.midi_model.specs.Channel.{Channel, default_channel}
use Rattle.midi_model.specs.Music.{Music, quiet, play, step, state_at}
use Rattle.midi_model.specs.Bring.{bring}
use Rattle.retune_model.specs.Table.{BendTarget}
use Rattle.retune_model.specs.Options.{Options}
use Rattle.retune_model.specs.Ports.{Numbered, resets}
use Rattle.retune_model.specs.Faults.{Targets}
use Rattle.retune_model.specs.Pairs.{Pair, is_same_pair}
use Rattle.retune_model.specs.PortOutput.{through}
use Rattle.channel_model.specs.Choice.{wanted, on_place}
use Rattle.channel_model.specs.BendOutput as bend
use Rattle.channel_model.specs.BendOutput.{PortRuns, before_it, next_block, next_played}

-- Around one event of the port: the pairs at the position before it, those whose runs hold their channel at it, those at the
-- position after it, and the channel of each pair's run before and after.
pub record Moment : Type 0 where
  pub was : List Pair
  pub holds : List Pair
  pub is : List Pair
  pub old : Pair → ℕ
  pub new : Pair → ℕ

-- the pairs whose runs begin with the event
abbrev pub begins_here : Moment → List Pair
begins_here k = filter (λ p. not (is_member is_same_pair k.was p)) k.is

-- ---- what an event causes

-- what brings a new note's channel to what the pair needs, where its run begins here
abbrev pub setup : Options → Targets → Moment → (after out : Music) → Pair → Bool → List Msg
setup o table k after out p there = if there then [] else bring (k.new p) (state_at out (k.new p)) (wanted o table after p)

abbrev pub strikes : ℕ → Options → Targets → Moment → (after out : Music) → (part velocity : ℕ) → Option BendTarget → List Msg
strikes port o table k after out part velocity t = bend.note_begins port o table k.was after out k.new part velocity t

abbrev pub part_causes : ℕ → Options → Targets → Moment → (before after out : Music) → ℕ → Msg → List Msg
part_causes port o table k before after out t m = bend.part_causes port o table k.was k.holds before after out k.old k.new t m

abbrev pub port_causes : ℕ → Options → Targets → Moment → (before after out : Music) → ℕ → MidiWhat → List MidiWhat
port_causes port o table k before after out t w = bend.bend_causes port o table k.was k.holds before after out k.old k.new t w

abbrev pub port_block : ℕ → Options → Targets → Moment → (before out : Music) → MidiEvent → List MidiEvent
port_block port o table k before out e = bend.bend_block port o table k.was k.holds before out k.old k.new e

-- ---- the state in which a channel is left

abbrev pub left_by : Options → Targets → (after : Music) → Channel → Option Pair → Option Pair → Channel
left_by o table after c (Some p) held = (wanted o table after p).own
left_by o table after c None (Some p) = (wanted o table after p).own
left_by o table after c None None = c

-- A channel is at what its pair needs after each event at which its run begins or holds it; a channel that no run holds stays as
-- it was left; a reset sets all to the defaults.
abbrev pub left_after : Options → Targets → Moment → (after : Music) → (reset : Bool) → (ℕ → Channel) → ℕ → Channel
left_after o table k after true left c = default_channel
left_after o table k after false left c = left_by o table after (left c) (on_place k.new c (begins_here k)) (on_place k.old c k.holds)

-- ---- from event to event

-- the source's music, the output's, and the state in which each channel was left
pub record Both : Type 0 where
  pub source : Music
  pub out : Music
  pub left : ℕ → Channel

abbrev pub nothing_yet : Both
nothing_yet = record { source = quiet; out = quiet; left = λ c. default_channel }

abbrev pub next_both : ℕ → Options → Targets → Moment → Both → MidiEvent → Both
next_both port o table k b e = record {
  source = step b.source e;
  out = play b.out (port_block port o table k b.source b.out e);
  left = left_after o table k (step b.source e) (resets (doing e.what)) b.left;
}

-- around the event at a position; and at position k + 1
abbrev pub moment_at : PortRuns → ℕ → Moment
moment_at p k = record { was = p.pairs (before_it k); holds = p.held k; is = p.pairs k; old = p.channel (before_it k); new = p.channel k }

abbrev pub moment : PortRuns → ℕ → Moment
moment p k = moment_at p (suc k)

-- The output of the port, from the music before its first event on.
abbrev pub port_output : Options → Targets → PortRuns → (before out : Music) → List Numbered → List MidiEvent
port_output o table plan before out ns = through (next_block o table plan) (next_played o table plan) (record { source = before; out = out }) ns
