use Rattle.mpe_laws.proofs.Standing.{Laws}
use Rattle.mpe_laws.proofs.Ported.{PortFacts}
use Rattle.mpe_laws.proofs.Whole.{Given, port_follows, port_source, port_out, port_begins, port_channels, port_left, same_file, whole_file, file_playable, file_zoned, file_short}
use Rattle.mpe_laws.proofs.files.mpe_plays_the_same.Goals as goal

pub returns : goal.returns
returns c =
    let laws : Laws = record {
      settle = c.music_laws.ensures.settled;
      fade = c.music_laws.ensures.fade;
      zones = c.zone_entries_set_zones.ensures;
    } in
    let facts : PortFacts = record {
      within = c.held_laws.ensures.within;
      sounding = c.held_laws.ensures.sounding;
      next = c.held_laws.ensures.next;
      one = c.rests_are_runs.ensures.one_begins;
      reset = c.elsewhere.ensures.reset;
      aimed = c.sound_sources.ensures.aimed;
      fine = c.sound_sources.ensures.fine;
      timed = c.position_laws.ensures.timed;
      parts = c.part_alone.ensures.within;
      free = c.best_is_free.ensures.member;
    } in
    let all : Given = record {
      laws = laws;
      facts = facts;
      given = c.parameter_laws.ensures.given;
      apart = c.outputs_apart.ensures.mpe;
      pitches = record {
        least_of_sum = c.sums.ensures.least;
        most_of_sum = c.sums.ensures.most;
        least_of_exact = c.exact.ensures.least;
        most_of_exact = c.exact.ensures.most;
        least_of_less = c.wider.ensures.least;
        most_of_more = c.wider.ensures.most;
      };
    } in
    record {
      ports = port_follows all;
      source = port_source all;
      out = port_out all;
      begun = port_begins all;
      channels = port_channels all;
      left = port_left all;
      same = same_file all;
      file = whole_file all;
      playable = file_playable all;
      on_zones = file_zoned all;
      few_bytes = file_short all;
    }
