-- The options of a command that was read are within their ranges.
use Rattle.std.proofs.Common.{◌≡◌, ◌≤◌, ◌+◌, ◌*◌, ◌-◌, ◌&&◌, ◌||◌, ℕ, List, [], ◌∷◌, Bool, true, false, cond, not, nat_eq, Option, Some, None, refl, subst, length, arith}
use Rattle.std.specs.Prelude.{codes, min, is_some, option_map, IfSome}
use Rattle.std.proofs.lemmas.Bool.{or_parts}
use Rattle.std.proofs.Math.Nat.{le-max_left, max-le, min-le_left}
use Rattle.clap.specs.Words.{Row, Text, fault_of, first_of, matches_of}
use Rattle.retune_model.specs.Options.{Route, ByDump, ByLive, ByBend, ByMpe, Options, bends_notes}
use Rattle.retune_model.specs.Faults.{is_bend}
use Rattle.command_line.specs.App.{app}
use Rattle.command_line.specs.Words.{Command, Read, Wrong, number_from, number_of, number_or, usual_range, is_told, is_set, route_in, drums_in, channels_in, options_in, command_by, is_unfit, reading_by, reading_in, reading_of}
use Rattle.mtune_core.specs.Asked.{AreInRange, IsFit, IsPlain}

-- ---- numbers

at_most : (high n : ℕ) (text : Text) → n ≤ high → number_from high n text ≤ high
unfolding number_from
at_most high n [] l = l
at_most high n (b ∷ bs) l = at_most high (min high (10 * n + (b - 48))) bs (min-le_left high (10 * n + (b - 48)))

of_within : (low high : ℕ) (text : Text) → low ≤ high → (low ≤ number_of low high text) × (number_of low high text ≤ high)
of_within low high text l = (le-max_left low (number_from high 0 text), max-le l (at_most high 0 text (omega arith)))

or_within : (other low high : ℕ) (text : Option Text) → low ≤ other → other ≤ high → (low ≤ number_or other low high text)
    × (number_or other low high text ≤ high)
or_within other low high None a b = (a, b)
or_within other low high (Some text) a b = of_within low high text (omega (arith, a, b))

if_within : (low high : ℕ) (text : Option Text) → low ≤ high → IfSome (option_map (number_of low high) text) (λ n. (low ≤ n) × (n ≤ high))
if_within low high None l = tt
if_within low high (Some text) l = of_within low high text l

usual_some : (route : Route) → (1 ≤ usual_range route) × (usual_range route ≤ 96)
usual_some ByDump = (omega arith, omega arith)
usual_some ByLive = (omega arith, omega arith)
usual_some ByBend = (omega arith, omega arith)
usual_some ByMpe = (omega arith, omega arith)

none_told : (text : Option Text) → is_some text ≡ false → number_or 0 0 268435455 text ≡ 0
none_told None h = refl
none_told (Some text) h = absurd cc

unfit_told : (told bends : Bool) → (told && not bends) ≡ false → bends ≡ false → told ≡ false
unfit_told false bends h g = refl
unfit_told true true h g = absurd cc
unfit_told true false h g = absurd cc

-- ---- the command

in_range : (rows : List Row) (route : Route) (keeps : Bool) → is_unfit rows route ≡ false → AreInRange (options_in rows route keeps)
in_range rows route keeps fits =
    let usual = usual_some route in
    let range = or_within (usual_range route) 1 96 (first_of (codes "range") rows) usual.0 usual.1 in
    let ranged = is_told rows (codes "range") && not (bends_notes route) in
    let channelled = is_told rows (codes "channels") && not (is_bend route) in
    let rested = is_told rows (codes "tail") && not (is_bend route) in
    let programmed = is_told rows (codes "program") && not (not (bends_notes route)) in
    let mapped = is_told rows (codes "map") && not (not (is_set rows (codes "a440"))) in
    let a = or_parts (ranged || channelled || rested || programmed) mapped fits in
    let b = or_parts (ranged || channelled || rested) programmed a.0 in
    let c = or_parts (ranged || channelled) rested b.0 in
    record {
      range_some = range.0;
      range_high = range.1;
      program = (or_within 0 0 127 (first_of (codes "program") rows) (omega arith) (omega arith)).1;
      restless = λ other. none_told (first_of (codes "tail") rows) (unfit_told (is_told rows (codes "tail")) (is_bend route) c.1 other);
    }

by_rows : (rows : List Row) (c : Command) (route : Option Route) (keeps : Option Bool) (allowed : Option ℕ)
    → reading_by rows route keeps allowed ≡ Read c → IsFit c
by_rows rows c (Some route) (Some keeps) (Some allowed) h = pick (is_unfit rows route) refl h
  where
    pick : (b : Bool) → is_unfit rows route ≡ b → cond b (Wrong 3) (Read (command_by rows route keeps allowed)) ≡ Read c → IsFit c
    pick true e g = absurd cc
    pick false e g =
        let same : command_by rows route keeps allowed ≡ c = cc in
        subst IsFit same (record { range = in_range rows route keeps e; sample = if_within 1 100000 (first_of (codes "sample") rows) (omega arith) })
by_rows rows c None keeps allowed h = absurd cc
by_rows rows c (Some route) None allowed h = absurd cc
by_rows rows c (Some route) (Some keeps) None h = absurd cc

pub read_is_fit : (words : List Text) (c : Command) → reading_of words ≡ Read c → IsFit c
read_is_fit words c h = pick (nat_eq (length (fault_of app words)) 0) h
  where
    pick : (b : Bool) → cond b (reading_in (matches_of app words)) (Wrong 1) ≡ Read c → IsFit c
    pick true g =
        by_rows (matches_of app words) c (route_in (matches_of app words)) (drums_in (matches_of app words)) (channels_in (matches_of app words)) g
    pick false g = absurd cc

-- ---- on dump and live

not_bend : (route : Route) → bends_notes route ≡ false → is_bend route ≡ false
not_bend ByDump h = refl
not_bend ByLive h = refl
not_bend ByBend h = absurd cc
not_bend ByMpe h = refl

pub plain : (o : Options) → AreInRange o → bends_notes o.route ≡ false → IsPlain o
plain o h route = record {
  route = route;
  range_some = h.range_some;
  range_high = h.range_high;
  program = h.program;
  restless = h.restless (not_bend o.route route);
}

pub of_plain : (o : Options) → IsPlain o → AreInRange o
of_plain o h = record {
  range_some = h.range_some;
  range_high = h.range_high;
  program = h.program;
  restless = λ other. h.restless;
}
