use Rattle.plan_laws.proofs.Following.{reset_of_event, events_go_on, begun_follows}
use Rattle.plan_laws.proofs.events.event_laws.Goals as goal

pub returns : goal.returns
returns c = record {
  reset = reset_of_event c.taken_laws.ensures.next c.next_laws.ensures.event;
  events = events_go_on c.taken_laws.ensures.next c.next_laws.ensures.events;
  begun = begun_follows;
}
