-- A source with its plan is one that the laws of bends are about.
use Rattle.std.proofs.Common.{ℕ, Bool, List, ap}
use Rattle.mt_base.specs.Midi.{MidiEvent}
use Rattle.midi_model.specs.Merged.{merged}
use Rattle.retune_model.specs.Options.{Options, bends_notes}
use Rattle.retune_model.specs.Faults.{Targets}
use Rattle.bend_laws.specs.FileLaws as laws
use Rattle.channel_plan.specs.Planned.{need_told, position_told, bend_channel, bend_row, row_of}
use Rattle.channel_plan.specs.declared.plan.Plan.{Plan}
use Rattle.route_bend.specs.Standing.{IsBending}
use Rattle.route_bend.specs.Laws.{IsBendable, PlansBend, PortsPlayAlong, SourcesPlay, OutputsPlay, NotesAreOnPlan, ChannelsAreLeft, OutputPlaysTheSame, FilePlaysTheSame, OutputIsPlayable, OutputAddsFewBytes, OutputIsOnTheRow}
use Rattle.route_bend.proofs.Turns.{given_by}

pub plans_bend : PlansBend
plans_bend o allowed table es plan b = record {
  route = b.route;
  range = b.range;
  valid = b.valid;
  sound = record { bends = ap bends_notes b.route; in_order = b.in_order; faultless = b.faultless };
  ports = λ z. record {
    instant = position_told o table es z;
    row = row_of o es plan (bend_row o allowed table es z);
    plan = (given_by o allowed table es plan o.route b.route b.planned.channels z).chosen;
  };
}

pub is_bending : (o : Options) (allowed : ℕ → Bool) (table : Targets) (es : List MidiEvent) (plan : Plan) → IsBendable o allowed table es plan →
    IsBending o allowed table es plan
is_bending o allowed table es plan b = record { bent = plans_bend o allowed table es plan b; planned = b.planned }

pub ports_play : laws.PortsPlay → PortsPlayAlong
ports_play law o allowed table es plan b z k low =
    law o allowed table es (need_told o table es) (bend_channel o allowed table es plan) (plans_bend o allowed table es plan b) z k low

pub sources_play : laws.PortsAreTheirEvents → SourcesPlay
sources_play law o allowed table es plan b z k =
    law o allowed table es (need_told o table es) (bend_channel o allowed table es plan) (plans_bend o allowed table es plan b) z k

pub outputs_play : laws.PortsAreTheirBlocks → OutputsPlay
outputs_play law o allowed table es plan b z k =
    law o allowed table es (need_told o table es) (bend_channel o allowed table es plan) (plans_bend o allowed table es plan b) z k

pub on_plan : laws.NotesAreOnTheirChannels → NotesAreOnPlan
on_plan law o allowed table es plan b z =
    law o allowed table es (need_told o table es) (bend_channel o allowed table es plan) (plans_bend o allowed table es plan b) z

pub are_left : laws.PortsAreLeft → ChannelsAreLeft
are_left law o allowed table es plan b z k i low here free =
    law o allowed table es (need_told o table es) (bend_channel o allowed table es plan) (plans_bend o allowed table es plan b) z
    (position_told o table es z) (row_of o es plan (bend_row o allowed table es z))
    (given_by o allowed table es plan o.route b.route b.planned.channels z).chosen k i low here free

pub plays_the_same : laws.BentPlaysTheSame → OutputPlaysTheSame
plays_the_same law o allowed table es plan b scaling tuned =
    law o allowed table es (need_told o table es) (bend_channel o allowed table es plan) (plans_bend o allowed table es plan b) scaling tuned

pub file_plays_the_same : laws.BentFilePlaysTheSame → FilePlaysTheSame
file_plays_the_same law o allowed table plan source out shape is b scaling tuned =
    law o allowed table (need_told o table (merged source)) (bend_channel o allowed table (merged source) plan) source out shape is
    (plans_bend o allowed table (merged source) plan b) scaling tuned

pub is_playable : laws.BentIsPlayable → OutputIsPlayable
is_playable law o allowed table es plan b tracks h =
    law o allowed table es (need_told o table es) (bend_channel o allowed table es plan) (plans_bend o allowed table es plan b) tracks h

pub adds_few_bytes : laws.BentAddsFewBytes → OutputAddsFewBytes
adds_few_bytes law o allowed table es plan b track =
    law o allowed table es (need_told o table es) (bend_channel o allowed table es plan) (plans_bend o allowed table es plan b) track

pub is_on_the_row : laws.BentIsOnTheRow → OutputIsOnTheRow
is_on_the_row law o allowed table es plan b z =
    law o allowed table es (need_told o table es) (bend_channel o allowed table es plan) (plans_bend o allowed table es plan b) z
