-- What is written for a file, block by block: other events are passed on, and all stands in order.
use Rattle.std.proofs.Common.{◌≡◌, ℕ, suc, ◌<◌, Bool, true, false, cond, eqb, List, [], ◌∷◌, ◌++◌, refl, ap, sym, ◌∙◌, subst, map, filter, not}
use Rattle.std.specs.List.{AllByRecursion}
use Rattle.std.proofs.lemmas.Bool.{cond_both}
use Rattle.std.proofs.lemmas.List.{append-nil}
use Rattle.mt_base.specs.declared.event.Msg.{Msg}
use Rattle.mt_base.specs.Midi.{MidiWhat, Says, SysexOf, MetaOf, Timed, MidiEvent, channel_of, is_end}
use Rattle.mt_base.specs.Valid.{IsValidEvent}
use Rattle.midi_model.specs.Merged.{precedes, InOrder, EndsOnce, of_track, IsPlayable}
use Rattle.midi_model.specs.Sysex.{Doing, Plays, Resets, Tunes, Nothing, doing}
use Rattle.midi_model.specs.Music.{Music, play}
use Rattle.retune_model.specs.Options.{Options, bends_notes}
use Rattle.retune_model.specs.PlaysTheSame.{is_tuning_event, is_no_message, other_events, KeepsOtherEvents}
use Rattle.retune_model.specs.Faults.{Targets, is_part}
use Rattle.retune_model.specs.Ports.{Numbered, port_of, ports_after, all_zero}
use Rattle.retune_model.specs.PortOutput.{kept_for, through_ports_from}
use Rattle.channel_model.specs.BendOutput.{PortRuns, placed_at, before_it}
use Rattle.channel_model.specs.MpeOutput.{Zone, Zoned, unzoned, zones_setup, zone_of, in_zone, setup_before, setup_behind, mpe_causes, zoned_block, next_zoned}
use Rattle.bend_laws.proofs.Lists.{map_append, all_always, all_append, all_mapped}
use Rattle.bend_laws.proofs.Passing.{kept, kept_append, kept_none}
use Rattle.bend_laws.proofs.Orderly.{at, block_places, is_elsewhere, none_there, order_block, ends_block, ends_passed, ends_later}
use Rattle.mpe_laws.proofs.Passing.{setup_of}

-- ---- what is written for an event

abbrev pub setup_first : Options → List Zone → Zoned → MidiEvent → List MidiWhat
setup_first o zones s e = setup_before (setup_of o zones) s.begun (doing e.what)

abbrev pub caused : Options → Targets → List Zone → PortRuns → Zoned → Numbered → List MidiWhat
caused o table zones runs s n = mpe_causes runs.number o table zones (runs.pairs (before_it n.position)) s.source
    (play s.out (placed_at n.event (setup_first o zones s n.event))) (runs.channel (before_it n.position)) (runs.channel n.position) n.event.tick
    n.event.what

abbrev pub all_of : Options → Targets → List Zone → PortRuns → Zoned → Numbered → List MidiWhat
all_of o table zones runs s n = setup_first o zones s n.event
    ++ (caused o table zones runs s n ++ setup_behind (setup_of o zones) s.begun (doing n.event.what))

pub placed_is : (o : Options) (table : Targets) (zones : List Zone) (runs : PortRuns) (s : Zoned) (n : Numbered) →
    zoned_block o table zones runs s n ≡ placed_at n.event (all_of o table zones runs s n)
placed_is o table zones runs s n = sym (map_append (λ (w : MidiWhat). record n.event { what = w }) (setup_first o zones s n.event)
    (caused o table zones runs s n ++ setup_behind (setup_of o zones) s.begun (doing n.event.what)))

-- what holds of each message holds of the setup
abbrev OfMessages : (MidiWhat → Type 0) → Type 0
OfMessages P = (m : Msg) → P (Says m)

said_hold : (P : MidiWhat → Type 0) → OfMessages P → (ms : List Msg) → AllByRecursion P (map Says ms)
said_hold P f ms = all_mapped P Says (λ m. Unit {0}) (λ m u. f m) ms (all_always (λ m. Unit {0}) (λ m. tt) ms)

before_hold : (P : MidiWhat → Type 0) → OfMessages P → (ms : List Msg) (b : Bool) (d : Doing) → AllByRecursion P (setup_before (map Says ms) b d)
before_hold P f ms true d = tt
before_hold P f ms false (Plays msg) = said_hold P f ms
before_hold P f ms false Resets = tt
before_hold P f ms false (Tunes r) = tt
before_hold P f ms false Nothing = tt

behind_hold : (P : MidiWhat → Type 0) → OfMessages P → (ms : List Msg) (b : Bool) (d : Doing) → AllByRecursion P (setup_behind (map Says ms) b d)
behind_hold P f ms false d = tt
behind_hold P f ms true (Plays msg) = tt
behind_hold P f ms true Resets = said_hold P f ms
behind_hold P f ms true (Tunes r) = tt
behind_hold P f ms true Nothing = tt

-- ---- other events

message_other : (o : Options) (table : Targets) (zones : List Zone) (runs : PortRuns) (s : Zoned) (k t track : ℕ) (msg : Msg) →
    (let n : Numbered = record { position = k; event = record { tick = t; track = track; what = Says msg } } in
    (P : MidiWhat → Type 0) → OfMessages P → AllByRecursion P (all_of o table zones runs s n))
message_other o table zones runs s k t track msg P f =
    let n : Numbered = record { position = k; event = record { tick = t; track = track; what = Says msg } } in
    let e : MidiEvent = n.event in
    let causes : List Msg = in_zone runs.number o table (runs.pairs (before_it k)) s.source (play s.out (placed_at e (setup_first o zones s e)))
    (runs.channel (before_it k)) (runs.channel k) t msg (zone_of (channel_of msg) zones) in
    all_append P (setup_first o zones s e) (caused o table zones runs s n ++ setup_behind (setup_of o zones) s.begun (doing e.what))
    (before_hold P f (zones_setup o.range zones) s.begun (doing e.what))
    (all_append P (caused o table zones runs s n) (setup_behind (setup_of o zones) s.begun (doing e.what))
    (cond_both (is_part o (channel_of msg)) (map Says causes) (Says msg ∷ []) (AllByRecursion P) (λ p. said_hold P f causes) (λ p. (f msg, tt)))
    (behind_hold P f (zones_setup o.range zones) s.begun (doing e.what)))

passed_other : (o : Options) (table : Targets) (zones : List Zone) (runs : PortRuns) (s : Zoned) (n : Numbered) (w : MidiWhat) → n.event.what ≡ w →
    caused o table zones runs s n ≡ w ∷ [] → (track : ℕ) →
    kept is_no_message track (zoned_block o table zones runs s n) ≡ kept is_no_message track (n.event ∷ [])
passed_other o table zones runs s n w what is track =
    let e : MidiEvent = n.event in
    let first : List MidiWhat = setup_first o zones s e in
    let behind : List MidiWhat = setup_behind (setup_of o zones) s.begun (doing e.what) in
    let none : OfMessages (λ u. is_no_message u ≡ false) = λ m. refl in
    kept_append is_no_message track (placed_at e first) (placed_at e (caused o table zones runs s n ++ behind))
    ∙ ap (λ xs. xs ++ kept is_no_message track (placed_at e (caused o table zones runs s n ++ behind)))
    (kept_none is_no_message track e first (before_hold (λ u. is_no_message u ≡ false) none (zones_setup o.range zones) s.begun (doing e.what)))
    ∙ ap (λ ws. kept is_no_message track (placed_at e (ws ++ behind))) (is ∙ ap (λ u. u ∷ []) (sym what))
    ∙ kept_append is_no_message track (e ∷ []) (placed_at e behind)
    ∙ ap (λ xs. kept is_no_message track (e ∷ []) ++ xs)
    (kept_none is_no_message track e behind (behind_hold (λ u. is_no_message u ≡ false) none (zones_setup o.range zones) s.begun (doing e.what)))
    ∙ append-nil (kept is_no_message track (e ∷ []))

block_other : (o : Options) (table : Targets) (zones : List Zone) (runs : PortRuns) (s : Zoned) (k t place : ℕ) (w : MidiWhat) (track : ℕ) →
    (let n : Numbered = record { position = k; event = record { tick = t; track = place; what = w } } in
    kept is_no_message track (zoned_block o table zones runs s n) ≡ kept is_no_message track (n.event ∷ []))
block_other o table zones runs s k t place (Says msg) track =
    let n : Numbered = record { position = k; event = record { tick = t; track = place; what = Says msg } } in
    let e : MidiEvent = n.event in
    ap (kept is_no_message track) (placed_is o table zones runs s n)
    ∙ kept_none is_no_message track e (all_of o table zones runs s n)
    (message_other o table zones runs s k t place msg (λ u. is_no_message u ≡ false) (λ m. refl))
    ∙ sym (kept_none is_no_message track e (Says msg ∷ []) (refl, tt))
block_other o table zones runs s k t place (SysexOf lead bytes) track =
    let n : Numbered = record { position = k; event = record { tick = t; track = place; what = SysexOf lead bytes } } in
    passed_other o table zones runs s n (SysexOf lead bytes) refl refl track
block_other o table zones runs s k t place (MetaOf kind bytes) track =
    let n : Numbered = record { position = k; event = record { tick = t; track = place; what = MetaOf kind bytes } } in
    passed_other o table zones runs s n (MetaOf kind bytes) refl refl track

-- ---- the file

abbrev pub file_from : Options → Targets → (ℕ → List Zone) → (ℕ → PortRuns) → (ℕ → ℕ) → ℕ → (ℕ → Zoned) → List MidiEvent → List MidiEvent
file_from o table zones runs ports k s es = through_ports_from (λ z x n. zoned_block o table (zones z) (runs z) x n)
    (λ z x n. next_zoned o table (zones z) (runs z) x n) ports k s es

abbrev pub file_output : Options → Targets → (ℕ → List Zone) → (ℕ → PortRuns) → List MidiEvent → List MidiEvent
file_output o table zones runs es = file_from o table zones runs all_zero 0 (λ z. unzoned) es

abbrev pub state_after : Options → Targets → (ℕ → List Zone) → (ℕ → PortRuns) → (ℕ → ℕ) → ℕ → (ℕ → Zoned) → MidiEvent → ℕ → Zoned
state_after o table zones runs ports k s e =
    let z = port_of ports e in
    let n : Numbered = record { position = suc k; event = e } in
    kept_for z (next_zoned o table (zones z) (runs z) (s z) n) s

abbrev pub numbered : ℕ → MidiEvent → Numbered
numbered k e = record { position = suc k; event = e }

other_same : (o : Options) (table : Targets) (zones : ℕ → List Zone) (runs : ℕ → PortRuns) (ports : ℕ → ℕ) (k : ℕ) (s : ℕ → Zoned)
    (es : List MidiEvent) (track : ℕ) → other_events track (file_from o table zones runs ports k s es) ≡ other_events track es
other_same o table zones runs ports k s [] track = refl
other_same o table zones runs ports k s (e ∷ es) track =
    let z : ℕ = port_of ports e in
    let block : List MidiEvent = zoned_block o table (zones z) (runs z) (s z) (numbered k e) in
    let rest : List MidiEvent = file_from o table zones runs (ports_after ports e) (suc k) (state_after o table zones runs ports k s e) es in
    kept_append is_no_message track block rest
    ∙ ap (λ xs. xs ++ kept is_no_message track rest)
    (block_other o table (zones z) (runs z) (s z) (suc k) e.tick e.track e.what track)
    ∙ ap (λ ys. kept is_no_message track (e ∷ []) ++ ys) (other_same o table zones runs (ports_after ports e) (suc k)
    (state_after o table zones runs ports k s e) es track)
    ∙ sym (kept_append is_no_message track (e ∷ []) es)

pub keeps_all_others : (o : Options) (table : Targets) (zones : ℕ → List Zone) (runs : ℕ → PortRuns) (es : List MidiEvent) →
    bends_notes o.route ≡ true → KeepsOtherEvents o es (file_output o table zones runs es)
keeps_all_others o table zones runs es bends track =
    let xs : List Timed = other_events track (file_output o table zones runs es) in
    ap (λ b. cond b xs (filter (λ (e : Timed). not (is_tuning_event e.what)) xs)) bends
    ∙ other_same o table zones runs all_zero 0 (λ z. unzoned) es track

-- ---- places and order

output_places : (P : ℕ → ℕ → Type 0) (o : Options) (table : Targets) (zones : ℕ → List Zone) (runs : ℕ → PortRuns) (ports : ℕ → ℕ) (k : ℕ)
    (s : ℕ → Zoned) (es : List MidiEvent) → AllByRecursion (λ e. P e.tick e.track) es →
    AllByRecursion (λ e. P e.tick e.track) (file_from o table zones runs ports k s es)
output_places P o table zones runs ports k s [] h = tt
output_places P o table zones runs ports k s (e ∷ es) h =
    let z : ℕ = port_of ports e in
    all_append (λ x. P x.tick x.track) (zoned_block o table (zones z) (runs z) (s z) (numbered k e))
    (file_from o table zones runs (ports_after ports e) (suc k) (state_after o table zones runs ports k s e) es)
    (subst (AllByRecursion (λ x. P x.tick x.track)) (sym (placed_is o table (zones z) (runs z) (s z) (numbered k e)))
    (block_places P e (all_of o table (zones z) (runs z) (s z) (numbered k e)) h.0))
    (output_places P o table zones runs (ports_after ports e) (suc k) (state_after o table zones runs ports k s e) es h.1)

output_order : (o : Options) (table : Targets) (zones : ℕ → List Zone) (runs : ℕ → PortRuns) (ports : ℕ → ℕ) (k : ℕ) (s : ℕ → Zoned)
    (es : List MidiEvent) → InOrder es → InOrder (file_from o table zones runs ports k s es)
output_order o table zones runs ports k s [] h = tt
output_order o table zones runs ports k s (e ∷ es) h =
    let z : ℕ = port_of ports e in
    let rest : List MidiEvent = file_from o table zones runs (ports_after ports e) (suc k) (state_after o table zones runs ports k s e) es in
    subst (λ xs. InOrder (xs ++ rest)) (sym (placed_is o table (zones z) (runs z) (s z) (numbered k e)))
    (order_block e (all_of o table (zones z) (runs z) (s z) (numbered k e)) rest
    (output_places (λ t track. precedes e (at e t track) ≡ true) o table zones runs (ports_after ports e) (suc k)
    (state_after o table zones runs ports k s e) es h.0)
    (output_order o table zones runs (ports_after ports e) (suc k) (state_after o table zones runs ports k s e) es h.1))

-- ---- ends of tracks

-- an event that is no end, with messages around it
inner_ends : (t : ℕ) (o : Options) (table : Targets) (zones : List Zone) (runs : PortRuns) (s : Zoned) (n : Numbered) (source rest : List MidiEvent) →
    is_end n.event.what ≡ false → AllByRecursion (λ w. is_end w ≡ false) (all_of o table zones runs s n) →
    (EndsOnce (of_track t source) → EndsOnce (of_track t rest)) → EndsOnce (of_track t (n.event ∷ source)) →
    EndsOnce (of_track t (zoned_block o table zones runs s n ++ rest))
inner_ends t o table zones runs s n source rest inner all later h =
    subst (λ xs. EndsOnce (of_track t (xs ++ rest))) (sym (placed_is o table zones runs s n))
    (ends_block t n.event (all_of o table zones runs s n) all rest (later (ends_later (eqb n.event.track t) n.event (of_track t source) inner h)))

around : (o : Options) (table : Targets) (zones : List Zone) (runs : PortRuns) (s : Zoned) (k t track lead : ℕ) (bytes : List ℕ) →
    (let n : Numbered = record { position = k; event = record { tick = t; track = track; what = SysexOf lead bytes } } in
    AllByRecursion (λ w. is_end w ≡ false) (all_of o table zones runs s n))
around o table zones runs s k t track lead bytes =
    let n : Numbered = record { position = k; event = record { tick = t; track = track; what = SysexOf lead bytes } } in
    let e : MidiEvent = n.event in
    let behind : List MidiWhat = setup_behind (setup_of o zones) s.begun (doing e.what) in
    all_append (λ w. is_end w ≡ false) (setup_first o zones s e) (SysexOf lead bytes ∷ behind)
    (before_hold (λ w. is_end w ≡ false) (λ m. refl) (zones_setup o.range zones) s.begun (doing e.what))
    (refl, behind_hold (λ w. is_end w ≡ false) (λ m. refl) (zones_setup o.range zones) s.begun (doing e.what))

-- a meta event is passed on alone
meta_alone : (o : Options) (table : Targets) (zones : List Zone) (runs : PortRuns) (begun : Bool) (m x : Music) (k t track kind : ℕ)
    (bytes : List ℕ) →
    (let e : MidiEvent = record { tick = t; track = track; what = MetaOf kind bytes } in
    zoned_block o table zones runs (record { begun = begun; source = m; out = x }) (record { position = k; event = e }) ≡ e ∷ [])
meta_alone o table zones runs true m x k t track kind bytes = refl
meta_alone o table zones runs false m x k t track kind bytes = refl

event_ends : (t : ℕ) (o : Options) (table : Targets) (zones : List Zone) (runs : PortRuns) (s : Zoned) (k tick track : ℕ) (w : MidiWhat)
    (source rest : List MidiEvent) → (of_track t source ≡ [] → of_track t rest ≡ []) → (EndsOnce (of_track t source) → EndsOnce (of_track t rest)) →
    (let e : MidiEvent = record { tick = tick; track = track; what = w } in EndsOnce (of_track t (e ∷ source)) →
    EndsOnce (of_track t (zoned_block o table zones runs s (record { position = k; event = e }) ++ rest)))
event_ends t o table zones runs s k tick track (Says msg) source rest none later h =
    inner_ends t o table zones runs s
    (let n : Numbered = record { position = k; event = record { tick = tick; track = track; what = Says msg } } in n) source rest refl
    (message_other o table zones runs s k tick track msg (λ u. is_end u ≡ false) (λ m. refl)) later h
event_ends t o table zones runs s k tick track (SysexOf lead bytes) source rest none later h =
    inner_ends t o table zones runs s
    (let n : Numbered = record { position = k; event = record { tick = tick; track = track; what = SysexOf lead bytes } } in n) source rest refl
    (around o table zones runs s k tick track lead bytes) later h
event_ends t o table zones runs s k tick track (MetaOf kind bytes) source rest none later h =
    let e : MidiEvent = record { tick = tick; track = track; what = MetaOf kind bytes } in
    subst (λ xs. EndsOnce (of_track t (xs ++ rest))) (sym (meta_alone o table zones runs s.begun s.source s.out k tick track kind bytes))
    (ends_passed (eqb track t) e (of_track t source) (of_track t rest) none later h)

output_ends : (t : ℕ) (o : Options) (table : Targets) (zones : ℕ → List Zone) (runs : ℕ → PortRuns) (ports : ℕ → ℕ) (k : ℕ) (s : ℕ → Zoned)
    (es : List MidiEvent) → EndsOnce (of_track t es) → EndsOnce (of_track t (file_from o table zones runs ports k s es))
output_ends t o table zones runs ports k s [] h = h
output_ends t o table zones runs ports k s (e ∷ es) h =
    let z : ℕ = port_of ports e in
    let rest : List MidiEvent = file_from o table zones runs (ports_after ports e) (suc k) (state_after o table zones runs ports k s e) es in
    event_ends t o table (zones z) (runs z) (s z) (suc k) e.tick e.track e.what es rest
    (λ none. none_there t rest (output_places (λ tick track. eqb track t ≡ false) o table zones runs (ports_after ports e) (suc k)
    (state_after o table zones runs ports k s e) es (is_elsewhere t es none)))
    (output_ends t o table zones runs (ports_after ports e) (suc k) (state_after o table zones runs ports k s e) es) h

pub output_playable : (tracks : ℕ) (o : Options) (table : Targets) (zones : ℕ → List Zone) (runs : ℕ → PortRuns) (es : List MidiEvent) →
    AllByRecursion IsValidEvent (file_output o table zones runs es) → IsPlayable tracks es → IsPlayable tracks (file_output o table zones runs es)
output_playable tracks o table zones runs es valid h = record {
  valid = valid;
  in_order = output_order o table zones runs all_zero 0 (λ z. unzoned) es h.in_order;
  in_tracks = output_places (λ tick track. track < tracks) o table zones runs all_zero 0 (λ z. unzoned) es h.in_tracks;
  ended = λ t low. output_ends t o table zones runs all_zero 0 (λ z. unzoned) es (h.ended t low);
}
