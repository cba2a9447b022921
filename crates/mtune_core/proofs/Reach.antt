-- Where the scale pitches of the keys that are used are from 0 to 12,700 cents, no event has the fault that its key has no pitch, or no
-- target that a device can play, in whichever table.
use Rattle.std.proofs.Common.{◌≡◌, ◌⊎◌, ◌<◌, ◌≤◌, ◌/◌, ℕ, zero, suc, ℤ, pos, negsuc, ◌+ℤ◌, ◌≤ℤ◌, List, [], ◌∷◌, Bool, true, false, not, cond, Option, Some, None, is_some, take, drop, refl, sym, ap, subst, ◌∙◌, arith, inl, inr}
use Rattle.std.specs.Prelude.{◌&&◌, ◌||◌, nat_eq, IfSome}
use Rattle.std.specs.Int.{int_div_euclid}
use Rattle.std.specs.List.{AllByRecursion}
use Rattle.std.proofs.lemmas.Bool.{le-leb, eq-eqb, eqb-true}
use Rattle.std.proofs.lemmas.Int.{ints}
use Rattle.std.proofs.Math.Nat.{div-le_of_le-mul, div-lt_iff_lt-mul}
use Rattle.mt_base.specs.declared.event.Msg.{Msg}
use Rattle.mt_base.specs.declared.event.Msg.TheVariants.{NoteOn}
use Rattle.mt_base.specs.Laws.{EndsInOrder}
use Rattle.mt_base.specs.Midi.{MidiWhat, MidiEvent, Says, SysexOf, MetaOf}
use Rattle.mt_base.specs.Pitch.{Pitch, IsPitch, AtLeast, AtMost}
use Rattle.mt_base.specs.Valid.{IsValidEvent, IsValidWhat}
use Rattle.midi_model.specs.Music.{Music}
use Rattle.midi_model.specs.Sysex.{is_tuning}
use Rattle.retune_model.specs.Table.{Scaling, Bounds, AreBounds, Bound, AreFewTerms, IsTable, pitch_at, terms_at, ratios_at_key, up_to, nearest_key, tuning_target, with_steps}
use Rattle.retune_model.specs.Options.{Route, ByDump, ByLive, ByBend, ByMpe, Options}
use Rattle.retune_model.specs.Ports.{port_of, ports_from, all_zero, port_at, music_at}
use Rattle.retune_model.specs.Rests.{pairs_at}
use Rattle.retune_model.specs.Pairs.{Pair}
use Rattle.retune_model.specs.Faults.{Targets, Kind, UnmappedKey, KeyOutOfDevice, TuningInSource, Port, is_part, has_target, misses_target, is_unmapped, is_out_of_device, first_that}
use Rattle.retune_model.specs.SourceFaults.{Fault, kind_in, kind_behind, bend_of, breaks_ports, message_tests, placed_at, fault_of, first_fault}
use Rattle.retune_model.specs.FaultLaws.{FirstIsOfAnEvent}
use Rattle.mtune_core.proofs.Ended.{clash}
use Rattle.mtune_core.specs.Report.{begins_on, uses_key}
use Rattle.mtune_core.specs.Accepted.{IsInReach, AreInReach, HasNoOtherFault}

-- ---- a pitch in reach has a target

-- half a step more than 12,700 cents lies before the end of the greatest step, and half a semitone more before the end of the greatest key
step_fits : (z : ℤ) → pos 0 ≤ℤ z → z ≤ℤ pos 406400097656250 → is_some (up_to 2097150 (int_div_euclid z (pos 195312500))) ≡ true
step_fits (pos a) low high =
    let few : a / 195312500 ≤ 2097150 = div-le_of_le-mul 195312500 (omega (arith, ints, high)) in
    ap (λ b. is_some (cond b (Some (a / 195312500)) None)) (le-leb (a / 195312500) 2097150 few)
step_fits (negsuc a) low high = absurd (omega (arith, ints, low))

key_fits : (z : ℤ) → pos 0 ≤ℤ z → z ≤ℤ pos 408000000000000 → is_some (up_to 127 (int_div_euclid z (pos 3200000000000))) ≡ true
key_fits (pos a) low high =
    let less : a / 3200000000000 < 128 = (div-lt_iff_lt-mul {k = 3200000000000} {x = a} {y = 128} (omega arith)).1 (omega (arith, ints, high)) in
    let few : a / 3200000000000 ≤ 127 = omega (arith, less) in
    ap (λ b. is_some (cond b (Some (a / 3200000000000)) None)) (le-leb (a / 3200000000000) 127 few)
key_fits (negsuc a) low high = absurd (omega (arith, ints, low))

with_some : (q : ℤ) (key : Option ℕ) → is_some key ≡ true → is_some (with_steps q key) ≡ true
with_some q None h = absurd cc
with_some q (Some k) h = refl

on_route : (route : Route) (range : ℕ) (b : Bounds) → is_some (tuning_target b) ≡ true → is_some (up_to 127 (nearest_key b.lo)) ≡ true
    → has_target route range b ≡ true
on_route ByDump range b step key = step
on_route ByLive range b step key = step
on_route ByBend range b step key = with_some _ (up_to 127 (nearest_key b.lo)) key
on_route ByMpe range b step key = with_some _ (up_to 127 (nearest_key b.lo)) key

-- the ends of bounds are at most a thousandth of a cent apart, which is less than half a step
bounds_fit : EndsInOrder → (o : Options) (p : Pitch) (terms : ℕ) (ratios : List (ℕ × ℕ)) (b : Bounds) → AreBounds p terms ratios b → terms ≤ 1700
    → IsPitch p → AtLeast p (pos 0) → AtMost p (pos 406400000000000) → has_target o.route o.range b ≡ true
bounds_fit ends o p terms ratios b a few is least most =
    let low : pos 0 ≤ℤ b.hi = ends p (pos 0) b.hi is least a.most in
    let high : b.lo ≤ℤ pos 406400000000000 = ends p b.lo (pos 406400000000000) is a.least most in
    let narrow = a.narrow in
    on_route o.route o.range b (step_fits (b.lo +ℤ pos 97656250) (omega (arith, ints, low, narrow, few)) (omega (arith, ints, high)))
    (key_fits (b.lo +ℤ pos 1600000000000) (omega (arith, ints, low, narrow, few)) (omega (arith, ints, high)))

abbrev IsTargeted : Options → Option Bounds → Type 0
IsTargeted o b = (is_some b ≡ true) × (misses_target o b ≡ false)

bound_fits : EndsInOrder → (o : Options) (p : Pitch) (terms : ℕ) (ratios : List (ℕ × ℕ)) (b : Option Bounds) → Bound terms ratios (Some p) b
    → terms ≤ 1700
    → IsPitch p → AtLeast p (pos 0) → AtMost p (pos 406400000000000) → IsTargeted o b
bound_fits ends o p terms ratios None a few is least most = absurd a
bound_fits ends o p terms ratios (Some b) a few is least most = (refl, ap not (bounds_fit ends o p terms ratios b a few is least most))

-- the same scale at each tick
abbrev pub IsSteady : Scaling → Type 0
IsSteady s = (key onset : ℕ) → pitch_at s key onset ≡ pitch_at s key 0

key_is_targeted : EndsInOrder → (o : Options) (s : Scaling) (table : Targets) (key onset : ℕ) → IsSteady s → AreFewTerms s → IsTable s table
    → key ≤ 127 → IsInReach s key → IsTargeted o (table key onset)
key_is_targeted ends o s table key onset steady few is_table low r =
    bound_fits ends o r.pitch (terms_at s key onset) (ratios_at_key s key onset) (table key onset)
    (subst (λ p. Bound (terms_at s key onset) (ratios_at_key s key onset) p (table key onset)) (steady key onset ∙ r.of_key)
    (is_table.bounds key onset low))
    (few key onset low) r.is_pitch r.least r.most

-- ---- faults of keys

abbrev IsOfKey : Kind → Type 0
IsOfKey kind = (kind ≡ UnmappedKey) ⊎ (kind ≡ KeyOutOfDevice)

abbrev is_of_key : Kind → Bool
is_of_key UnmappedKey = true
is_of_key KeyOutOfDevice = true
is_of_key _ = false

of_key : (kind : Kind) → IsOfKey kind → is_of_key kind ≡ true
of_key kind (inl e) = ap is_of_key e
of_key kind (inr e) = ap is_of_key e

either : (b : Bool) (kind : Kind) (later : Option Kind) → is_of_key kind ≡ false → IfSome later (λ k. is_of_key k ≡ false)
    → IfSome (cond b (Some kind) later) (λ k. is_of_key k ≡ false)
either true kind later h g = h
either false kind later h g = g

-- the first test of some that holds is one of them
none_of_key : (xs : List (Kind × Bool)) → AllByRecursion (λ x. is_of_key x.0 ≡ false) xs → IfSome (first_that xs) (λ kind. is_of_key kind ≡ false)
none_of_key [] h = tt
none_of_key (x ∷ xs) h = either x.1 x.0 (first_that xs) h.0 (none_of_key xs h.1)

-- where the first two tests fail, another holds
of_others : (z : ℕ) (o : Options) (table : Targets) (t : ℕ) (m after : Music) (ports : Bool) (pairs : List Pair) (msg : Msg)
    → is_unmapped o table t msg ≡ false → is_out_of_device o table t msg ≡ false
    → IfSome (first_that (message_tests z o table t m after ports pairs msg)) (λ kind. is_of_key kind ≡ false)
of_others z o table t m after ports pairs msg mapped inside =
    let tests = message_tests z o table t m after ports pairs msg in
    let rest = drop 2 tests in
    let skip : first_that tests ≡ first_that rest =
    ap (λ b. cond b (Some UnmappedKey) (cond (is_out_of_device o table t msg) (Some KeyOutOfDevice) (first_that rest))) mapped
    ∙ ap (λ b. cond b (Some KeyOutOfDevice) (first_that rest)) inside in
    subst (λ k. IfSome k (λ kind. is_of_key kind ≡ false)) (sym skip)
    (none_of_key rest (refl, (refl, (refl, (refl, (refl, (refl, (refl, (refl, (refl, (refl, tt)))))))))))

-- each key that an event begins a note on is targeted
abbrev HasTargets : Options → Targets → MidiEvent → Type 0
HasTargets o table e = (key : ℕ) → begins_on o key e.what ≡ true → IsTargeted o (table key e.tick)

mapped_there : (o : Options) (table : Targets) (t : ℕ) (msg : Msg) → ((key : ℕ) → begins_on o key (Says msg) ≡ true → IsTargeted o (table key t))
    → is_unmapped o table t msg ≡ false
mapped_there o table t (NoteOn c k (suc v)) h = pick (is_part o c) refl
  where
    pick : (b : Bool) → is_part o c ≡ b → (b && not (is_some (table k t))) ≡ false
    pick true e = ap not (h k (ap (λ x. x && nat_eq k k) e ∙ eq-eqb k k refl)).0
    pick false e = refl
mapped_there o table t msg h = refl

inside_there : (o : Options) (table : Targets) (t : ℕ) (msg : Msg) → ((key : ℕ) → begins_on o key (Says msg) ≡ true → IsTargeted o (table key t))
    → is_out_of_device o table t msg ≡ false
inside_there o table t (NoteOn c k (suc v)) h = pick (is_part o c) refl
  where
    pick : (b : Bool) → is_part o c ≡ b → (b && misses_target o (table k t)) ≡ false
    pick true e = (h k (ap (λ x. x && nat_eq k k) e ∙ eq-eqb k k refl)).1
    pick false e = refl
inside_there o table t msg h = refl

no_key_kind : (z : ℕ) (o : Options) (table : Targets) (m after : Music) (ports : Bool) (pairs : List Pair) (e : MidiEvent) → HasTargets o table e
    → IfSome (kind_in z o table e.tick m after ports pairs e.what) (λ kind. is_of_key kind ≡ false)
no_key_kind z o table m after ports pairs e h = by_what e.what h
  where
    by_what : (what : MidiWhat) → ((key : ℕ) → begins_on o key what ≡ true → IsTargeted o (table key e.tick))
        → IfSome (kind_in z o table e.tick m after ports pairs what) (λ kind. is_of_key kind ≡ false)
    by_what (Says msg) g = of_others z o table e.tick m after ports pairs msg (mapped_there o table e.tick msg g) (inside_there o table e.tick msg g)
    by_what (SysexOf lead bytes) g = pick (nat_eq lead 0xf0 && is_tuning bytes)
      where
        pick : (b : Bool) → IfSome (cond b (Some TuningInSource) None) (λ kind. is_of_key kind ≡ false)
        pick true = refl
        pick false = tt
    by_what (MetaOf kind bytes) g = pick ports
      where
        pick : (b : Bool) → IfSome (cond b (Some Port) None) (λ kind. is_of_key kind ≡ false)
        pick true = refl
        pick false = tt

placed_kind : (k : ℕ) (e : MidiEvent) (bend : Kind → Option (ℤ × ℤ)) (kind : Option Kind) (f : Fault) → IfSome kind (λ x. is_of_key x ≡ false)
    → placed_at k e bend kind ≡ Some f → is_of_key f.kind ≡ false
placed_kind k e bend None f h is = absurd cc
placed_kind k e bend (Some kind) f h is = let same : kind ≡ f.kind = cc in subst (λ x. is_of_key x ≡ false) same h

not_at : (o : Options) (table : Targets) (es : List MidiEvent) (k : ℕ) (rest : List MidiEvent) (f : Fault) → AllByRecursion (HasTargets o table) rest
    → fault_of o table es k rest ≡ Some f → is_of_key f.kind ≡ false
not_at o table es k [] f h is = absurd cc
not_at o table es k (e ∷ rest) f h is =
    let port = port_at es (port_of (ports_from all_zero (take k es)) e) in
    let before = music_at port.events k in
    let after = music_at port.events (suc k) in
    let pairs = pairs_at o (is_part o) table port (suc k) in
    placed_kind (suc k) e (λ kind. bend_of port.number o after pairs kind e.what) (kind_behind o table (breaks_ports (take k es) e) port k e) f
    (no_key_kind port.number o table before after (breaks_ports (take k es) e) pairs e h.0) is

-- ---- all events

all_behind : (P : MidiEvent → Type 0) (k : ℕ) (es : List MidiEvent) → AllByRecursion P es → AllByRecursion P (drop k es)
all_behind P zero es h = h
all_behind P (suc k) [] h = tt
all_behind P (suc k) (e ∷ es) h = all_behind P k es h.1

or_left : (a b : Bool) → a ≡ true → (a || b) ≡ true
or_left true b e = refl
or_left false b e = absurd cc

or_right : (a b : Bool) → b ≡ true → (a || b) ≡ true
or_right true b e = refl
or_right false b e = e

-- a key on which a valid event begins a note
key_below : (o : Options) (key : ℕ) (e : MidiEvent) → IsValidEvent e → begins_on o key e.what ≡ true → key < 128
key_below o key e valid h = by_what e.what valid.what h
  where
    by_what : (what : MidiWhat) → IsValidWhat what → begins_on o key what ≡ true → key < 128
    by_what (Says (NoteOn c k (suc v))) g b = pick (is_part o c) (nat_eq k key) refl b
      where
        pick : (x y : Bool) → nat_eq k key ≡ y → (x && y) ≡ true → key < 128
        pick true true e i = let same : k ≡ key = eqb-true k key e in omega (arith, same, g)
        pick true false e i = absurd cc
        pick false y e i = absurd cc
    by_what _ g b = absurd cc

have_targets : (o : Options) (table : Targets) (es : List MidiEvent) → AllByRecursion IsValidEvent es
    → ((key onset : ℕ) → key < 128 → uses_key o key es ≡ true → IsTargeted o (table key onset)) → AllByRecursion (HasTargets o table) es
have_targets o table [] valid h = tt
have_targets o table (e ∷ es) valid h = (
  λ key b. h key e.tick (key_below o key e valid.0 b) (or_left (begins_on o key e.what) (uses_key o key es) b),
  have_targets o table es valid.1 (λ key onset low u. h key onset low (or_right (begins_on o key e.what) (uses_key o key es) u)),
)

pub in_reach_has_no_fault : EndsInOrder → FirstIsOfAnEvent → (s : Scaling) (o : Options) (table : Targets) (es : List MidiEvent) (f : Fault)
    → AllByRecursion IsValidEvent es → IsSteady s → AreFewTerms s → IsTable s table
    → AreInReach s o es → HasNoOtherFault o table es → first_fault o table es ≡ Some f → ⊥
in_reach_has_no_fault ends first s o table es f valid steady few is_table reach other is =
    let at = first o table es f is in
    let k = at.0 in
    let targets = have_targets o table es valid (λ key onset low u. key_is_targeted ends o s table key onset steady few is_table (omega (arith, low))
    (reach key low u)) in
    clash (is_of_key f.kind) (of_key f.kind (other k f at.1.there at.1.here))
    (not_at o table es k (drop k es) f (all_behind (HasTargets o table) k es targets) at.1.here)
