use Rattle.channel_plan.proofs.Stayed.{stays}
use Rattle.channel_plan.proofs.staying.staying.Goals as goal

pub returns : goal.returns
returns c o table es e ended p order valid silent tells quiet h =
    stays (record {
      age = c.music_laws.ensures.age;
      more = c.order_laws.ensures.has_more;
      at = c.position_laws.ensures.music;
      own = c.position_laws.ensures.own;
      other = c.position_laws.ensures.other;
      timed = c.position_laws.ensures.timed;
      event = c.next_laws.ensures.event;
      alone = c.without_rests.ensures.pairs;
    }) o table es e p order silent ended valid tells quiet h
