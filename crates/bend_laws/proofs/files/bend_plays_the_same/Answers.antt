use Rattle.midi_model.specs.WellFormed.{IsWellFormed}
use Rattle.bend_laws.proofs.Given.{Laws}
use Rattle.bend_laws.proofs.Bridge.{ReceiversStay}
use Rattle.bend_laws.proofs.Whole.{Cited, all_laws, stays, one_sounds}
use Rattle.bend_laws.proofs.Outputs.{source_is_played}
use Rattle.bend_laws.proofs.Musical.{MusicLaws}
use Rattle.bend_laws.proofs.Ported.{PortFacts, HeldStandOnce, stand_once, timely_port}
use Rattle.retune_model.specs.Rests.{held_at}
use Rattle.bend_laws.proofs.Causing.{CountLaws}
use Rattle.bend_laws.proofs.Short.{file_short}
use Rattle.bend_laws.proofs.Filed.{port_plays, port_blocks, same_file, file_playable, file_used, port_channels, port_left, whole_file}
use Rattle.channel_model.specs.BendOutput.{runs_on}
use Rattle.retune_model.specs.Ports.{of_port}
use Rattle.bend_laws.proofs.files.bend_plays_the_same.Goals as goal

pub returns : goal.returns
returns c =
    let below : Cited = record {
      settle = c.music_laws.ensures.settled;
      fade = c.music_laws.ensures.fade;
      zones = c.zone_entries_set_zones.ensures;
      one = c.receiver_laws.ensures.one_note;
      receivers = c.states_stay_well_formed.ensures.receivers;
      channels = c.states_stay_well_formed.ensures.channels;
      reaches = c.bring_reaches.ensures.wanted;
      valid = c.messages_only_set.ensures.valid;
      plays = c.a_receiver_follows.ensures.plays;
    } in
    let laws : Laws IsWellFormed = all_laws below in
    let stay : ReceiversStay = stays below in
    let once : HeldStandOnce = λ o part table port k. stand_once (held_at o part table port k) (c.pairs_in_order.ensures.held o part table port k) in
    let facts : PortFacts = record {
      within = c.held_laws.ensures.within;
      sounding = c.held_laws.ensures.sounding;
      next = c.held_laws.ensures.next;
      once = once;
      pairs = c.rests_are_runs.ensures.pairs;
      one = c.rests_are_runs.ensures.one_begins;
      reset = c.elsewhere.ensures.reset;
      aimed = c.sound_sources.ensures.aimed;
      fine = c.sound_sources.ensures.fine;
      timed = c.position_laws.ensures.timed;
      free = c.best_is_free.ensures.shortest;
      one_sounds = one_sounds c.receiver_laws.ensures.one_note;
      stay = stay;
      given = c.states_stay_well_formed.ensures.given;
    } in
    let music : MusicLaws = record {
      laws = laws;
      given = c.parameter_laws.ensures.given;
      others = c.parameter_laws.ensures.others;
      tuning = c.a_receiver_follows.ensures.tuning;
      stay = stay;
      pitches = record {
        least_of_sum = c.sums.ensures.least;
        most_of_sum = c.sums.ensures.most;
        least_of_exact = c.exact.ensures.least;
        most_of_exact = c.exact.ensures.most;
        least_of_less = c.wider.ensures.least;
        most_of_more = c.wider.ensures.most;
      };
    } in
    let counts : CountLaws = record {
      few = c.messages_are_few.ensures.few;
      most = c.messages_are_few.ensures.most;
      those = c.messages_are_few.ensures.those;
      given = c.parameter_laws.ensures.given;
      others = c.parameter_laws.ensures.others;
      stay = stay;
      fade = c.music_laws.ensures.fade;
      zones = c.zone_entries_set_zones.ensures;
    } in
    record {
      ports = port_plays laws facts;
      source = λ o allowed table es need channel b z k. source_is_played o table (runs_on o table es channel z)
          (of_port z es) k (timely_port facts.timed o allowed table es need channel b z).rising;
      out = port_blocks facts;
      channels = port_channels laws facts c.outputs_apart.ensures.bend;
      left = port_left laws facts;
      same = same_file music facts c.outputs_apart.ensures.bend;
      file = whole_file music facts c.outputs_apart.ensures.bend;
      playable = file_playable laws facts c.outputs_apart.ensures.bend;
      few_bytes = file_short c.size_laws.ensures.written laws counts facts;
      on_row = file_used laws facts c.outputs_apart.ensures.bend;
    }
