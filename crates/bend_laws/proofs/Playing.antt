-- Playing a block on channels of its own: events in order, states of other channels, music that events lead to.
use Rattle.std.proofs.Common.{◌≡◌, ◌<◌, ◌^◌, ℕ, zero, suc, cond, ◌&&◌, List, [], ◌∷◌, ◌++◌, refl, ap, sym, ◌∙◌, subst, map, nat_eq, inl, inr}
use Rattle.std.proofs.lemmas.Bool.{cases_Bool, eqb-true}
use Rattle.std.specs.List.{AllByRecursion}
use Rattle.mt_base.specs.Valid.{IsValidMsg, IsValidEvent}
use Rattle.mt_base.specs.Midi.{MidiWhat, Says, MidiEvent}
use Rattle.mt_base.specs.declared.event.Msg.{Msg}
use Rattle.midi_model.specs.Channel.{Channel, State}
use Rattle.midi_model.specs.Notes.{Note, sounds, is_at}
use Rattle.midi_model.specs.Music.{Music, quiet, channel_at, step, play, key_pressure, key_pressures, state_at}
use Rattle.midi_model.specs.MusicLaws.{IsSettled, EventsSettle}
use Rattle.channel_model.specs.BendOutput.{placed_at}
use Rattle.bend_laws.specs.Brought.{IsReached}
use Rattle.bend_laws.proofs.Lists.{map_append, all_append}

pub play_append : (m : Music) (xs ys : List MidiEvent) → play m (xs ++ ys) ≡ play (play m xs) ys
play_append m [] ys = refl
play_append m (x ∷ xs) ys = play_append (step m x) xs ys

abbrev pub saying : MidiEvent → List Msg → List MidiEvent
saying e ms = placed_at e (map Says ms)

pub saying_append : (e : MidiEvent) (xs ys : List Msg) → saying e (xs ++ ys) ≡ saying e xs ++ saying e ys
saying_append e xs ys = ap (placed_at e) (map_append Says xs ys) ∙ map_append (λ (w : MidiWhat). record e { what = w }) (map Says xs) (map Says ys)

pub play_saying : (m : Music) (e : MidiEvent) (xs ys : List Msg) → play m (saying e (xs ++ ys)) ≡ play (play m (saying e xs)) (saying e ys)
play_saying m e xs ys = ap (play m) (saying_append e xs ys) ∙ play_append m (saying e xs) (saying e ys)

pub reached_play : (m : Music) (es : List MidiEvent) → AllByRecursion IsValidEvent es → IsReached m → IsReached (play m es)
reached_play m es v r = record {
  events = r.events ++ es;
  valid = all_append IsValidEvent r.events es r.valid v;
  is = ap (λ x. play x es) r.is
      ∙ sym (play_append quiet r.events es);
}

-- valid messages at a tick are valid events
pub saying_valid : (e : MidiEvent) (ms : List Msg) → e.tick < 2 ^ 28 → AllByRecursion IsValidMsg ms → AllByRecursion IsValidEvent (saying e ms)
saying_valid e [] low h = tt
saying_valid e (m ∷ ms) low h = (record { tick = low; what = h.0 }, saying_valid e ms low h.1)

pub settled_play : EventsSettle → (m : Music) (es : List MidiEvent) → IsSettled m → IsSettled (play m es)
settled_play law m [] h = h
settled_play law m (e ∷ es) h = settled_play law (step m e) es (law m e h)

pub settled_reached : EventsSettle → (m : Music) → IsReached m → IsSettled m
settled_reached law m r = subst IsSettled (sym r.is) (settled_play law quiet r.events (record { notes = λ t. refl; channels = refl }))

-- ---- key pressures of a channel whose notes stay

key_pressure_kept : (d k : ℕ) (f : Note → Note) → ((n : Note) → (f n).channel ≡ n.channel) → ((n : Note) → n.channel ≡ d → f n ≡ n) →
    (ns : List Note) → key_pressure (map f ns) d k ≡ key_pressure ns d k
key_pressure_kept d k f same kept [] = refl
key_pressure_kept d k f same kept (n ∷ ns) = elim (cases_Bool (nat_eq n.channel d)) [
  | inl e ↦ ap (λ (x : Note). cond (is_at d k x && sounds x) x.pressure (key_pressure (map f ns) d k)) (kept n (eqb-true n.channel d e))
      ∙ ap (λ r. cond (is_at d k n && sounds n) n.pressure r) (key_pressure_kept d k f same kept ns)
  | inr e ↦ ap (λ b. cond ((b && nat_eq (f n).key k) && sounds (f n)) (f n).pressure (key_pressure (map f ns) d k))
      (ap (λ c. nat_eq c d) (same n) ∙ e)
      ∙ key_pressure_kept d k f same kept ns ∙ ap (λ b. cond ((b && nat_eq n.key k) && sounds n) n.pressure (key_pressure ns d k)) (sym e)
]

key_pressures_kept : (d : ℕ) (f : Note → Note) → ((n : Note) → (f n).channel ≡ n.channel) → ((n : Note) → n.channel ≡ d → f n ≡ n) →
    (ns : List Note) (k n : ℕ) → key_pressures (map f ns) d k n ≡ key_pressures ns d k n
key_pressures_kept d f same kept ns k zero = refl
key_pressures_kept d f same kept ns k (suc n) =
    ap (λ x. x ∷ key_pressures (map f ns) d (suc k) n) (key_pressure_kept d k f same kept ns) ∙ ap (λ xs. key_pressure ns d k ∷ xs)
    (key_pressures_kept d f same kept ns (suc k) n)

abbrev state : Channel → List ℕ → State
state own keys = record { own = own; keys = keys }

pub state_kept : (d : ℕ) (m x : Music) (f : Note → Note) → channel_at x d ≡ channel_at m d → x.notes ≡ map f m.notes →
    ((n : Note) → (f n).channel ≡ n.channel) → ((n : Note) → n.channel ≡ d → f n ≡ n) → state_at x d ≡ state_at m d
state_kept d m x f own notes same kept =
    ap (λ c. state c (key_pressures x.notes d 0 128)) own ∙ ap (λ ns. state (channel_at m d) (key_pressures ns d 0 128)) notes
    ∙ ap (λ ks. state (channel_at m d) ks) (key_pressures_kept d f same kept m.notes 0 128)
