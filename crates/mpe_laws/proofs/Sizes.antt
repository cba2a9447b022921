-- Each event causes few bytes beside its own.
use Rattle.std.proofs.Common.{◌≡◌, ◌≤◌, ◌+◌, ◌*◌, arith, ℕ, zero, suc, Bool, true, false, cond, eqb, nat_eq, List, [], ◌∷◌, ◌++◌, Option, Some, None, refl, ap, ◌∙◌, map, length, pos, ◌+ℤ◌}
use Rattle.std.specs.List.{AllByRecursion}
use Rattle.std.specs.Set.{is_member}
use Rattle.std.proofs.lemmas.Bool.{cond_both}
use Rattle.std.proofs.lemmas.List.{length-append}
use Rattle.std.proofs.lemmas.List.Elements.{filter-append}
use Rattle.mt_base.specs.declared.event.Msg.{Msg}
use Rattle.mt_base.specs.declared.event.Msg.TheVariants.{NoteOn, NoteOff, KeyPressure, Control, Program, Pressure, Bend}
use Rattle.mt_base.specs.Midi.{MidiWhat, Says, SysexOf, MetaOf, Timed, MidiEvent, channel_of}
use Rattle.midi_model.specs.Sysex.{Doing, Plays, Resets, Tunes, Nothing, doing}
use Rattle.midi_model.specs.Merged.{of_track, timed}
use Rattle.midi_model.specs.SizeLaws.{most_of_track}
use Rattle.midi_model.specs.Music.{Music, channel_at, play}
use Rattle.midi_model.specs.Bring.{where_differs, registered}
use Rattle.retune_model.specs.Table.{BendTarget}
use Rattle.retune_model.specs.Options.{Options}
use Rattle.retune_model.specs.PlaysTheSame.{bend_target_if}
use Rattle.retune_model.specs.Faults.{Targets, is_part}
use Rattle.retune_model.specs.Pairs.{Pair, is_same_pair}
use Rattle.retune_model.specs.Ports.{Numbered, port_of, ports_after, all_zero}
use Rattle.channel_model.specs.Choice.{bend_value}
use Rattle.channel_model.specs.BendOutput.{PortRuns, pair_with, placed_at, before_it, pressed_note}
use Rattle.channel_model.specs.MpeOutput.{Zone, Zoned, unzoned, master_of, zone_of, members_from, range_each, zone_setup, zones_setup, member_begins, zone_causes, in_zone, setup_before, setup_behind, zoned_block}
use Rattle.bend_laws.proofs.Lists.{map_append}
use Rattle.bend_laws.proofs.Playing.{saying}
use Rattle.bend_laws.proofs.Bytes.{most_in}
use Rattle.bend_laws.proofs.Causing.{released_count}
use Rattle.mpe_laws.proofs.Passing.{setup_of}
use Rattle.mpe_laws.proofs.Filed.{setup_first, caused, file_from, file_output, state_after, numbered}

-- at most two zones, each of at most fifteen members
pub record AreShort (zones : List Zone) : Type 0 where
  pub two : length zones ≤ 2
  pub few : AllByRecursion (λ z. z.members ≤ 15) zones

-- ---- how many messages

ranges_count : (range : ℕ) (z : Zone) (i n : ℕ) → length (range_each range (members_from z i n)) ≡ 5 * n
ranges_count range z i zero = refl
ranges_count range z i (suc n) = omega (arith, ranges_count range z (i + 1) n)

zone_count : (range : ℕ) (z : Zone) → z.members ≤ 15 → length (zone_setup range z) ≤ 80
zone_count range z few =
    cond_both (nat_eq range 48) [] (range_each range (members_from z 0 z.members))
    (λ ms. length (registered (master_of z) 6 z.members ++ ms) ≤ 80) (λ e. omega arith)
    (λ e. omega (arith, few, ranges_count range z 0 z.members))

setup_count : (range : ℕ) (zones : List Zone) → AllByRecursion (λ z. z.members ≤ 15) zones →
    length (zones_setup range zones) ≤ 80 * length zones
setup_count range [] few = omega arith
setup_count range (z ∷ zs) few =
    omega (arith, length-append (zone_setup range z) (zones_setup range zs), zone_count range z few.0, setup_count range zs few.1)

differs_count : (c x v : ℕ) (there : Bool) → length (cond there [] (where_differs x v (Bend c v))) ≤ 1
differs_count c x v true = omega arith
differs_count c x v false = cond_both (nat_eq x v) [] (Bend c v ∷ []) (λ ms. length ms ≤ 1) (λ e. omega arith) (λ e. omega arith)

begins_count : (z : ℕ) (o : Options) (there : List Pair) (out : Music) (place : Pair → ℕ) (c v : ℕ) (x : Option BendTarget) →
    length (member_begins z o there out place c v x) ≤ 2
begins_count z o there out place c v None = omega arith
begins_count z o there out place c v (Some t) =
    let p : Pair = pair_with z c t in
    let b : ℕ = bend_value (pos 8192 +ℤ t.steps) in
    let first : List Msg = cond (is_member is_same_pair there p) [] (where_differs (channel_at out (place p)).bend b (Bend (place p) b)) in
    let one : length first ≤ 1 = differs_count (place p) (channel_at out (place p)).bend b (is_member is_same_pair there p) in
    omega (arith, length-append first (NoteOn (place p) t.key v ∷ []), one)

zone_causes_count : (z : ℕ) (o : Options) (table : Targets) (there : List Pair) (before out : Music) (was is : Pair → ℕ) (g t : ℕ) (msg : Msg) →
    length (zone_causes z o table there before out was is g t msg) ≤ 2
zone_causes_count z o table there before out was is g t (NoteOn c k zero) =
    omega (arith, released_count z o table was (λ d j. NoteOn d j 0) c (pressed_note c k before.notes))
zone_causes_count z o table there before out was is g t (NoteOn c k (suc v)) =
    begins_count z o there out is c (suc v) (bend_target_if o.range (table k t))
zone_causes_count z o table there before out was is g t (NoteOff c k v) =
    omega (arith, released_count z o table was (λ d j. NoteOff d j v) c (pressed_note c k before.notes))
zone_causes_count z o table there before out was is g t (KeyPressure c k v) = omega arith
zone_causes_count z o table there before out was is g t (Control c n v) = omega arith
zone_causes_count z o table there before out was is g t (Program c p) = omega arith
zone_causes_count z o table there before out was is g t (Pressure c v) = omega arith
zone_causes_count z o table there before out was is g t (Bend c v) = omega arith

causes_count : (z : ℕ) (o : Options) (table : Targets) (there : List Pair) (before out : Music) (was is : Pair → ℕ) (t : ℕ) (msg : Msg)
    (u : Option Zone) → length (in_zone z o table there before out was is t msg u) ≤ 2
causes_count z o table there before out was is t msg None = omega arith
causes_count z o table there before out was is t msg (Some w) = zone_causes_count z o table there before out was is (master_of w) t msg

-- ---- how many bytes in a track

sum_append : (xs ys : List Timed) → most_of_track (xs ++ ys) ≡ most_of_track xs + most_of_track ys
sum_append [] ys = omega arith
sum_append (x ∷ xs) ys = omega (arith, sum_append xs ys)

most_append : (t : ℕ) (xs ys : List MidiEvent) → most_in t (xs ++ ys) ≡ most_in t xs + most_in t ys
most_append t xs ys =
    ap (λ l. most_of_track (map timed l)) (filter-append (λ (f : MidiEvent). eqb f.track t) xs ys)
    ∙ ap most_of_track (map_append timed (of_track t xs) (of_track t ys))
    ∙ sum_append (map timed (of_track t xs)) (map timed (of_track t ys))

said_most : (t : ℕ) (e : MidiEvent) (ms : List Msg) → most_in t (saying e ms) ≤ 7 * length ms
said_most t e [] = omega arith
said_most t e (m ∷ ms) =
    let rest : List MidiEvent = of_track t (saying e ms) in
    let x : MidiEvent = record e { what = Says m } in
    cond_both (eqb e.track t) (x ∷ rest) rest (λ xs. most_of_track (map timed xs) ≤ 7 * length (m ∷ ms)) (λ h. omega (arith, said_most t e ms))
    (λ h. omega (arith, said_most t e ms))

-- at one event there is one setup at most
around_most : (t : ℕ) (e : MidiEvent) (ms : List Msg) (b : Bool) (d : Doing) →
    most_in t (placed_at e (setup_before (map Says ms) b d)) + most_in t (placed_at e (setup_behind (map Says ms) b d)) ≤ 7 * length ms
around_most t e ms true (Plays msg) = omega arith
around_most t e ms false (Plays msg) = omega (arith, said_most t e ms)
around_most t e ms true Resets = omega (arith, said_most t e ms)
around_most t e ms false Resets = omega arith
around_most t e ms true (Tunes r) = omega arith
around_most t e ms false (Tunes r) = omega arith
around_most t e ms true Nothing = omega arith
around_most t e ms false Nothing = omega arith

caused_most : (track : ℕ) (o : Options) (table : Targets) (zones : List Zone) (runs : PortRuns) (s : Zoned) (k t place : ℕ) (w : MidiWhat) →
    (let n : Numbered = record { position = k; event = record { tick = t; track = place; what = w } } in
    most_in track (placed_at n.event (caused o table zones runs s n)) ≤ most_in track (n.event ∷ []) + 14)
caused_most track o table zones runs s k t place (Says msg) =
    let e : MidiEvent = record { tick = t; track = place; what = Says msg } in
    let causes : List Msg = in_zone runs.number o table (runs.pairs (before_it k)) s.source (play s.out (placed_at e (setup_first o zones s e)))
    (runs.channel (before_it k)) (runs.channel k) t msg (zone_of (channel_of msg) zones) in
    let few : length causes ≤ 2 = causes_count runs.number o table (runs.pairs (before_it k)) s.source
    (play s.out (placed_at e (setup_first o zones s e))) (runs.channel (before_it k)) (runs.channel k) t msg (zone_of (channel_of msg) zones) in
    cond_both (is_part o (channel_of msg)) (map Says causes) (Says msg ∷ [])
    (λ ws. most_in track (placed_at e ws) ≤ most_in track (e ∷ []) + 14) (λ p. omega (arith, said_most track e causes, few)) (λ p. omega arith)
caused_most track o table zones runs s k t place (SysexOf lead bytes) = omega arith
caused_most track o table zones runs s k t place (MetaOf kind bytes) = omega arith

block_most : (track : ℕ) (o : Options) (table : Targets) (zones : List Zone) → AreShort zones → (runs : PortRuns) (s : Zoned) (n : Numbered) →
    most_in track (zoned_block o table zones runs s n) ≤ most_in track (n.event ∷ []) + 1600
block_most track o table zones short runs s n =
    let e : MidiEvent = n.event in
    let first : List MidiWhat = setup_first o zones s e in
    let causes : List MidiWhat = caused o table zones runs s n in
    let behind : List MidiWhat = setup_behind (setup_of o zones) s.begun (doing e.what) in
    let apart : placed_at e (causes ++ behind) ≡ placed_at e causes ++ placed_at e behind =
    map_append (λ (w : MidiWhat). record e { what = w }) causes behind in
    let one = most_append track (placed_at e first) (placed_at e (causes ++ behind)) in
    let two : most_in track (placed_at e (causes ++ behind)) ≡ most_in track (placed_at e causes) + most_in track (placed_at e behind) =
    ap (most_in track) apart ∙ most_append track (placed_at e causes) (placed_at e behind) in
    let setups = around_most track e (zones_setup o.range zones) s.begun (doing e.what) in
    let own = caused_most track o table zones runs s n.position e.tick e.track e.what in
    let few : length (zones_setup o.range zones) ≤ 80 * length zones = setup_count o.range zones short.few in
    let zones_two : length zones ≤ 2 = short.two in
    omega (arith, one, two, setups, own, few, zones_two)

-- ---- the file

from_short : (track : ℕ) (o : Options) (table : Targets) (zones : ℕ → List Zone) → ((z : ℕ) → AreShort (zones z)) → (runs : ℕ → PortRuns)
    (ports : ℕ → ℕ) (k : ℕ) (s : ℕ → Zoned) (es : List MidiEvent) →
    most_in track (file_from o table zones runs ports k s es) ≤ most_in track es + 1600 * length es
from_short track o table zones short runs ports k s [] = omega arith
from_short track o table zones short runs ports k s (e ∷ es) =
    let z : ℕ = port_of ports e in
    let block : List MidiEvent = zoned_block o table (zones z) (runs z) (s z) (numbered k e) in
    let rest : List MidiEvent = file_from o table zones runs (ports_after ports e) (suc k) (state_after o table zones runs ports k s e) es in
    let later = from_short track o table zones short runs (ports_after ports e) (suc k) (state_after o table zones runs ports k s e) es in
    let both = most_append track block rest in
    let source = most_append track (e ∷ []) es in
    let here = block_most track o table (zones z) (short z) (runs z) (s z) (numbered k e) in
    omega (arith, both, source, here, later)

pub output_short : (track : ℕ) (o : Options) (table : Targets) (zones : ℕ → List Zone) → ((z : ℕ) → AreShort (zones z)) → (runs : ℕ → PortRuns)
    (es : List MidiEvent) → most_in track (file_output o table zones runs es) ≤ most_in track es + 1600 * length es
output_short track o table zones short runs es = from_short track o table zones short runs all_zero 0 (λ z. unzoned) es
