-- Events that are put around others: a setup in front of them or none, and one behind them or none, as the program asked for each.
use Rattle.std.proofs.Common.{◌≡◌, List, ◌++◌, Bool, sym, subst}
use Rattle.mt_base.specs.Midi.{MidiEvent}
use Rattle.midi_model.specs.Writing.{Written}
use Rattle.routes.specs.Putting.{put_all, AllMayPut, IsPut, IsFront}
use Rattle.routes.proofs.Puts.{not_begun, more_put, may_still, may_next, front_of, last_put, last_front}

-- the tracks at first; what is put in front where it is asked for, and whether; what follows; and whether it is asked for behind
pub record Around : Type 0 where
  pub old : List Written
  pub setup : Bool → List MidiEvent
  pub first : Bool
  pub rest : List MidiEvent
  pub again : Bool

abbrev pub whole : Around → List MidiEvent
whole k = k.setup k.first ++ k.rest

start : (k : Around) (asked : Bool) → asked ≡ k.first → IsPut k.old (whole k) (k.setup asked ++ k.rest) k.old
start k asked is = subst (λ (b : Bool). IsPut k.old (whole k) (k.setup b ++ k.rest) k.old) (sym is) (not_begun k.old (whole k))

-- ---- in front

pub may_before : (k : Around) (asked : Bool) → asked ≡ k.first → AllMayPut k.old (whole k) → AllMayPut k.old (k.setup asked)
may_before k asked is may = may_next k.old (whole k) (k.setup asked) k.rest k.old may (start k asked is)

pub put_before : (k : Around) (asked : Bool) (new : List Written) → asked ≡ k.first → new ≡ put_all k.old (k.setup asked)
    → IsPut k.old (whole k) k.rest new
put_before k asked new is put = more_put k.old (whole k) (k.setup asked) k.rest k.old new (start k asked is) put

pub front_before : (k : Around) (asked : Bool) (new : List Written) → asked ≡ k.first → IsFront k.old (k.setup asked) new
    → IsFront k.old (whole k) new
front_before k asked new is front = front_of k.old (whole k) (k.setup asked) k.rest k.old new (start k asked is) front

-- ---- behind

behind : (k : Around) (asked : Bool) (now : List Written) → asked ≡ k.again → IsPut k.old (whole k) (k.setup k.again) now
    → IsPut k.old (whole k) (k.setup asked) now
behind k asked now is h = subst (λ (b : Bool). IsPut k.old (whole k) (k.setup b) now) (sym is) h

pub may_after : (k : Around) (asked : Bool) (now : List Written) → asked ≡ k.again → AllMayPut k.old (whole k)
    → IsPut k.old (whole k) (k.setup k.again) now → AllMayPut now (k.setup asked)
may_after k asked now is may h = may_still k.old (whole k) (k.setup asked) now may (behind k asked now is h)

pub put_after : (k : Around) (asked : Bool) (now new : List Written) → asked ≡ k.again → IsPut k.old (whole k) (k.setup k.again) now
    → new ≡ put_all now (k.setup asked) → new ≡ put_all k.old (whole k)
put_after k asked now new is h put = last_put k.old (whole k) (k.setup asked) now new (behind k asked now is h) put

pub front_after : (k : Around) (asked : Bool) (now new : List Written) → asked ≡ k.again → IsPut k.old (whole k) (k.setup k.again) now
    → IsFront now (k.setup asked) new → IsFront k.old (whole k) new
front_after k asked now new is h front = last_front k.old (whole k) (k.setup asked) now new (behind k asked now is h) front
