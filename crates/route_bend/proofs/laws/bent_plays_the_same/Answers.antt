use Rattle.route_bend.proofs.Bents.{plans_bend, ports_play, sources_play, outputs_play, on_plan, are_left, plays_the_same, file_plays_the_same, is_playable, adds_few_bytes, is_on_the_row}
use Rattle.route_bend.proofs.laws.bent_plays_the_same.Goals as goal

pub returns : goal.returns
returns c =
    let law = c.bend_plays_the_same.ensures in
    record {
      plan = plans_bend;
      ports = ports_play law.ports;
      source = sources_play law.source;
      out = outputs_play law.out;
      channels = on_plan law.channels;
      left = are_left law.left;
      same = plays_the_same law.same;
      file = file_plays_the_same law.file;
      playable = is_playable law.playable;
      few_bytes = adds_few_bytes law.few_bytes;
      on_row = is_on_the_row law.on_row;
    }
