-- The output's events stand in order, in their tracks, and each track ends once, where the source's do.
use Rattle.std.proofs.Common.{◌≡◌, ℕ, suc, ◌<◌, Bool, true, false, cond, eqb, nat_le, nat_lt, List, [], ◌∷◌, ◌++◌, refl, ap, sym, ◌∙◌, subst, map, arith, inl, inr}
use Rattle.std.specs.List.{AllByRecursion}
use Rattle.std.proofs.lemmas.Bool.{cases_Bool, cond_both, eq-eqb, le-leb}
use Rattle.mt_base.specs.declared.event.Msg.{Msg}
use Rattle.mt_base.specs.Midi.{MidiWhat, Says, SysexOf, MetaOf, MidiEvent, channel_of, is_end}
use Rattle.mt_base.specs.Valid.{IsValidEvent}
use Rattle.midi_model.specs.Merged.{precedes, InOrder, EndsOnce, of_track, IsPlayable}
use Rattle.midi_model.specs.Music.{Music, step}
use Rattle.retune_model.specs.Options.{Options}
use Rattle.retune_model.specs.Faults.{Targets, is_part}
use Rattle.retune_model.specs.Ports.{port_of, ports_after, all_zero}
use Rattle.channel_model.specs.BendOutput.{placed_at, PortRuns, Played, unplayed}
use Rattle.bend_laws.specs.Moments.{Moment, part_causes, port_causes, port_block, moment_at}
use Rattle.bend_laws.proofs.Blockwise.{causes_of, block_of, state_after, file_from, file_output}
use Rattle.bend_laws.proofs.Lists.{all_always, all_append, all_mapped}

-- ---- places

-- a block stands at its event's tick, in its track
pub block_places : (P : ℕ → ℕ → Type 0) (e : MidiEvent) (ws : List MidiWhat) → P e.tick e.track → AllByRecursion (λ x. P x.tick x.track)
    (placed_at e ws)
block_places P e [] h = tt
block_places P e (w ∷ ws) h = (h, block_places P e ws h)

output_places : (P : ℕ → ℕ → Type 0) (o : Options) (table : Targets) (runs : ℕ → PortRuns) (ports : ℕ → ℕ) (k : ℕ) (s : ℕ → Played)
    (es : List MidiEvent) → AllByRecursion (λ e. P e.tick e.track) es →
    AllByRecursion (λ e. P e.tick e.track) (file_from o table runs ports k s es)
output_places P o table runs ports k s [] h = tt
output_places P o table runs ports k s (e ∷ es) h =
    let z : ℕ = port_of ports e in
    all_append (λ x. P x.tick x.track) (block_of o table (runs z) k (s z) e) (file_from o table runs (ports_after ports e) (suc k)
    (state_after o table runs ports k s e) es)
    (block_places P e (causes_of o table (runs z) k (s z) e) h.0)
    (output_places P o table runs (ports_after ports e) (suc k) (state_after o table runs ports k s e) es h.1)

-- ---- order

itself : (e : MidiEvent) → precedes e e ≡ true
itself e = ap (λ b. cond b (nat_le e.track e.track) (nat_lt e.tick e.tick)) (eq-eqb e.tick e.tick refl) ∙ le-leb e.track e.track (omega arith)

abbrev pub at : MidiEvent → ℕ → ℕ → MidiEvent
at e t track = record e { tick = t; track = track }

-- a block, before events that may stand behind its own
pub order_block : (e : MidiEvent) (ws : List MidiWhat) (ys : List MidiEvent) → AllByRecursion (λ y. precedes e y ≡ true) ys → InOrder ys →
    InOrder (placed_at e ws ++ ys)
order_block e [] ys p h = h
order_block e (w ∷ ws) ys p h = (
  all_append (λ y. precedes e y ≡ true) (placed_at e ws) ys (block_places (λ t track. precedes e (at e t track) ≡ true) e ws (itself e)) p,
  order_block e ws ys p h,
)

output_order : (o : Options) (table : Targets) (runs : ℕ → PortRuns) (ports : ℕ → ℕ) (k : ℕ) (s : ℕ → Played) (es : List MidiEvent) → InOrder es →
    InOrder (file_from o table runs ports k s es)
output_order o table runs ports k s [] h = tt
output_order o table runs ports k s (e ∷ es) h =
    let z : ℕ = port_of ports e in
    order_block e (causes_of o table (runs z) k (s z) e) (file_from o table runs (ports_after ports e) (suc k)
    (state_after o table runs ports k s e) es)
    (output_places (λ t track. precedes e (at e t track) ≡ true) o table runs (ports_after ports e) (suc k)
    (state_after o table runs ports k s e) es h.0)
    (output_order o table runs (ports_after ports e) (suc k) (state_after o table runs ports k s e) es h.1)

-- ---- ends of tracks

ends_cons : (x : MidiEvent) (ys : List MidiEvent) → is_end x.what ≡ false → EndsOnce ys → EndsOnce (x ∷ ys)
ends_cons x [] h g = absurd g
ends_cons x (y ∷ ys) h g = (h, g)

goes_on : (e : MidiEvent) (es : List MidiEvent) → is_end e.what ≡ false → EndsOnce (e ∷ es) → EndsOnce es
goes_on e [] h g = absurd (let is : is_end e.what ≡ true = g in cc)
goes_on e (f ∷ es) h g = g.1

nothing_after : (e : MidiEvent) (es : List MidiEvent) → is_end e.what ≡ true → EndsOnce (e ∷ es) → es ≡ []
nothing_after e [] h g = refl
nothing_after e (f ∷ es) h g = absurd (let is : is_end e.what ≡ false = g.0 in cc)

abbrev pub Elsewhere : ℕ → List MidiEvent → Type 0
Elsewhere t es = AllByRecursion (λ e. eqb e.track t ≡ false) es

pub is_elsewhere : (t : ℕ) (es : List MidiEvent) → of_track t es ≡ [] → Elsewhere t es
is_elsewhere t [] h = tt
is_elsewhere t (e ∷ es) h = pick (eqb e.track t) refl h (is_elsewhere t es)
  where
    pick : (b : Bool) → eqb e.track t ≡ b → cond b (e ∷ of_track t es) (of_track t es) ≡ [] → (of_track t es ≡ [] → Elsewhere t es) →
        (eqb e.track t ≡ false) × Elsewhere t es
    pick true is g f = absurd cc
    pick false is g f = (is, f g)

pub none_there : (t : ℕ) (es : List MidiEvent) → Elsewhere t es → of_track t es ≡ []
none_there t [] h = refl
none_there t (e ∷ es) h = ap (λ b. cond b (e ∷ of_track t es) (of_track t es)) h.0 ∙ none_there t es h.1

-- a block without an end, in its track, before what ends it
pub ends_block : (t : ℕ) (e : MidiEvent) (ws : List MidiWhat) → AllByRecursion (λ w. is_end w ≡ false) ws → (ys : List MidiEvent) →
    EndsOnce (of_track t ys) → EndsOnce (of_track t (placed_at e ws ++ ys))
ends_block t e [] h ys g = g
ends_block t e (w ∷ ws) h ys g =
    let x : MidiEvent = record e { what = w } in
    let rest : EndsOnce (of_track t (placed_at e ws ++ ys)) = ends_block t e ws h.1 ys g in
    cond_both (eqb e.track t) (x ∷ of_track t (placed_at e ws ++ ys))
    (of_track t (placed_at e ws ++ ys)) EndsOnce (λ k. ends_cons x (of_track t (placed_at e ws ++ ys)) h.0 rest) (λ k. rest)

-- an event that is passed on
pub ends_passed : (b : Bool) (e : MidiEvent) (source out : List MidiEvent) → (source ≡ [] → out ≡ []) → (EndsOnce source → EndsOnce out) →
    EndsOnce (cond b (e ∷ source) source) → EndsOnce (cond b (e ∷ out) out)
ends_passed false e source out none later h = later h
ends_passed true e source out none later h = elim (cases_Bool (is_end e.what)) [
  | inl is ↦ subst (λ es. EndsOnce (e ∷ es)) (sym (none (nothing_after e source is h))) is
  | inr not ↦ ends_cons e out not (later (goes_on e source not h))
]

-- an event that is no end
pub ends_later : (b : Bool) (e : MidiEvent) (source : List MidiEvent) → is_end e.what ≡ false → EndsOnce (cond b (e ∷ source) source) → EndsOnce source
ends_later false e source goes h = h
ends_later true e source goes h = goes_on e source goes h

event_ends : (t : ℕ) (port : ℕ) (o : Options) (table : Targets) (k : Moment) (before out : Music) (tick track : ℕ) (w : MidiWhat)
    (source rest : List MidiEvent) → (of_track t source ≡ [] → of_track t rest ≡ []) → (EndsOnce (of_track t source) → EndsOnce (of_track t rest)) →
    (let e : MidiEvent = record { tick = tick; track = track; what = w } in EndsOnce (of_track t (e ∷ source)) →
    EndsOnce (of_track t (port_block port o table k before out e ++ rest)))
event_ends t port o table k before out tick track (Says msg) source rest none later h =
    let e : MidiEvent = record { tick = tick; track = track; what = Says msg } in
    let ms : List Msg = part_causes port o table k before (step before e) out tick msg in
    ends_block t e (port_causes port o table k before (step before e) out tick (Says msg))
    (cond_both (is_part o (channel_of msg)) (map Says ms) (Says msg ∷ []) (AllByRecursion (λ w. is_end w ≡ false))
    (λ p. all_mapped (λ w. is_end w ≡ false) Says (λ m. Unit {0}) (λ m u. refl) ms (all_always (λ m. Unit {0}) (λ m. tt) ms)) (λ p. (refl, tt)))
    rest (later (ends_later (eqb track t) e (of_track t source) refl h))
event_ends t port o table k before out tick track (SysexOf lead bytes) source rest none later h = ends_passed (eqb track t)
    (let e : MidiEvent = record { tick = tick; track = track; what = SysexOf lead bytes } in e) (of_track t source) (of_track t rest) none later h
event_ends t port o table k before out tick track (MetaOf kind bytes) source rest none later h = ends_passed (eqb track t)
    (let e : MidiEvent = record { tick = tick; track = track; what = MetaOf kind bytes } in e) (of_track t source) (of_track t rest) none later h

output_ends : (t : ℕ) (o : Options) (table : Targets) (runs : ℕ → PortRuns) (ports : ℕ → ℕ) (k : ℕ) (s : ℕ → Played) (es : List MidiEvent) →
    EndsOnce (of_track t es) → EndsOnce (of_track t (file_from o table runs ports k s es))
output_ends t o table runs ports k s [] h = h
output_ends t o table runs ports k s (e ∷ es) h =
    let z : ℕ = port_of ports e in
    let rest : List MidiEvent = file_from o table runs (ports_after ports e) (suc k) (state_after o table runs ports k s e) es in
    event_ends t (runs z).number o table (moment_at (runs z) (suc k)) (s z).source (s z).out e.tick e.track e.what es rest
    (λ none. none_there t rest (output_places (λ tick track. eqb track t ≡ false) o table runs (ports_after ports e) (suc k)
    (state_after o table runs ports k s e) es (is_elsewhere t es none)))
    (output_ends t o table runs (ports_after ports e) (suc k) (state_after o table runs ports k s e) es) h

pub output_playable : (tracks : ℕ) (o : Options) (table : Targets) (runs : ℕ → PortRuns) (es : List MidiEvent) →
    AllByRecursion IsValidEvent (file_output o table runs es) → IsPlayable tracks es → IsPlayable tracks (file_output o table runs es)
output_playable tracks o table runs es valid h = record {
  valid = valid;
  in_order = output_order o table runs all_zero 0 (λ z. unplayed) es h.in_order;
  in_tracks = output_places (λ tick track. track < tracks) o table runs all_zero 0 (λ z. unplayed) es h.in_tracks;
  ended = λ t low. output_ends t o table runs all_zero 0 (λ z. unplayed) es (h.ended t low);
}
