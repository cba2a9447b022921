-- What is written, event by event.
use Rattle.std.proofs.Common.{◌≡◌, ℕ, List, [], ◌∷◌, ◌++◌, Bool, false, refl, sym, ap, ◌∙◌, append_assoc}
use Rattle.std.proofs.lemmas.List.{append-nil}
use Rattle.mt_base.specs.Midi.{Timed, is_end}
use Rattle.midi_model.specs.Writing.{events_bytes, event_bytes, running_after, last_tick, last_running, is_ended, Written, written, with_event}

pub events_bytes-append : (running before : ℕ) (es : List Timed) (e : Timed) → events_bytes running before (es ++ e ∷ []) ≡ events_bytes running before es ++ event_bytes (last_running running es) (last_tick before es) e
unfolding events_bytes last_running last_tick
events_bytes-append running before [] e = append-nil (event_bytes running before e)
events_bytes-append running before (x ∷ es) e =
    ap (λ r. event_bytes running before x ++ r) (events_bytes-append (running_after x.what) x.tick es e)
    ∙ sym (append_assoc (event_bytes running before x) (events_bytes (running_after x.what) x.tick es) (event_bytes (last_running (running_after x.what) es) (last_tick x.tick es) e))

pub last_tick-append : (before : ℕ) (es : List Timed) (e : Timed) → last_tick before (es ++ e ∷ []) ≡ e.tick
unfolding last_tick
last_tick-append before [] e = refl
last_tick-append before (x ∷ es) e = last_tick-append x.tick es e

pub last_running-append : (running : ℕ) (es : List Timed) (e : Timed) → last_running running (es ++ e ∷ []) ≡ running_after e.what
unfolding last_running
last_running-append running [] e = refl
last_running-append running (x ∷ es) e = last_running-append (running_after x.what) es e

pub is_ended-append : (ended : Bool) (es : List Timed) (e : Timed) → is_ended ended (es ++ e ∷ []) ≡ is_end e.what
unfolding is_ended
is_ended-append ended [] e = refl
is_ended-append ended (x ∷ es) e = is_ended-append (is_end x.what) es e

abbrev made : List ℕ → ℕ → ℕ → Bool → Written
made bytes tick running ended = record { bytes = bytes; tick = tick; running = running; ended = ended }

same : (bytes bytes2 : List ℕ) (tick tick2 running running2 : ℕ) (ended ended2 : Bool) → bytes ≡ bytes2 → tick ≡ tick2 → running ≡ running2 → ended ≡ ended2 → made bytes tick running ended ≡ made bytes2 tick2 running2 ended2
same bytes bytes2 tick tick2 running running2 ended ended2 a b c d = cc

-- what stands for a list, with an event more, stands for the list with that event at its end
pub written-append : (es : List Timed) (e : Timed) → with_event (written es) e ≡ written (es ++ e ∷ [])
written-append es e = same _ _ _ _ _ _ _ _
    (sym (events_bytes-append 0 0 es e)) (sym (last_tick-append 0 es e)) (sym (last_running-append 0 es e)) (sym (is_ended-append _ es e))

pub nothing_written : made [] 0 0 false ≡ written []
unfolding events_bytes last_tick last_running is_ended
nothing_written = refl
