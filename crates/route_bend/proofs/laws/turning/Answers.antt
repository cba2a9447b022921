use Rattle.retune_model.specs.Rests.{held_at}
use Rattle.bend_laws.proofs.Whole as whole
use Rattle.bend_laws.proofs.Whole.{all_laws, stays, one_sounds}
use Rattle.bend_laws.proofs.Ported.{HeldStandOnce, stand_once}
use Rattle.route_bend.proofs.Turns.{Cited, turns, waits, sees, gives, starts}
use Rattle.route_bend.proofs.laws.turning.Goals as goal

pub returns : goal.returns
returns c =
    let below : whole.Cited = record {
      settle = c.music_laws.ensures.settled;
      fade = c.music_laws.ensures.fade;
      zones = c.zone_entries_set_zones.ensures;
      one = c.receiver_laws.ensures.one_note;
      receivers = c.states_stay_well_formed.ensures.receivers;
      channels = c.states_stay_well_formed.ensures.channels;
      reaches = c.bring_reaches.ensures.wanted;
      valid = c.messages_only_set.ensures.valid;
      plays = c.a_receiver_follows.ensures.plays;
    } in
    let once : HeldStandOnce = λ o part table port k. stand_once (held_at o part table port k) (c.pairs_in_order.ensures.held o part table port k) in
    let cited : Cited = record {
      laws = all_laws below;
      facts = record {
        within = c.held_laws.ensures.within;
        sounding = c.held_laws.ensures.sounding;
        next = c.held_laws.ensures.next;
        once = once;
        pairs = c.rests_are_runs.ensures.pairs;
        one = c.rests_are_runs.ensures.one_begins;
        reset = c.elsewhere.ensures.reset;
        aimed = c.sound_sources.ensures.aimed;
        fine = c.sound_sources.ensures.fine;
        timed = c.position_laws.ensures.timed;
        free = c.best_is_free.ensures.shortest;
        one_sounds = one_sounds c.receiver_laws.ensures.one_note;
        stay = stays below;
        given = c.states_stay_well_formed.ensures.given;
      };
      taken = c.taken_laws.ensures.next;
      pairs = c.taken_laws.ensures.pairs;
      next = c.next_laws.ensures.event;
      music = c.position_laws.ensures.music;
      still = c.without_rests.ensures.held;
      held = c.leaving_laws.ensures.held;
      begun = c.counting_laws.ensures.begun;
    } in
    record {
      turn = turns cited;
      wait = waits cited;
      seen = sees cited;
      given = gives cited;
      start = starts cited;
      ignored
          = c.bring_reaches.ensures.ignored;
      one = c.receiver_laws.ensures.one_note;
      taken = c.taken_laws.ensures.next;
    }
