use Rattle.std.proofs.Common.{◌≡◌, ◌+◌, ◌*◌, ℕ, List, length, take, get_or, [], ◌∷◌, nat_le, nat_eq, true, Option, Some, arith, sym, ◌∙◌, ap}
use Rattle.std.proofs.lemmas.List.{length-take}
use Rattle.std.proofs.lemmas.Bool.{ne_eqb, lt-leb, and_left, and_right}
use Rattle.retune_model.specs.Octave.{are_data}
use Rattle.octave_route.proofs.Values.{data_are_values}
use Rattle.octave_route.proofs.Written.{no_body, no_form, body}
use Rattle.octave_route.proofs.messages.read_body.Goals as goal

pub returns-then-rest-ne25-clause-read : goal.returns-then-rest-ne25-clause-read
returns-then-rest-ne25-clause-read c =
    let a = c.args in
    no_body a.device a.ff a.gg a.hh a.rest.now
    (no_form a.device a.ff a.gg a.hh a.rest.now (and_right (nat_le a.ff 3) _ (and_left (nat_eq (length a.rest.now) 25) _ (ne_eqb (length a.rest.now) 25 c.if-rest-ne25.true))))

pub returns-then-rest-clause-read : goal.returns-then-rest-clause-read
returns-then-rest-clause-read c =
    let a = c.args in
    no_body a.device a.ff a.gg a.hh a.rest.now
    (no_form a.device a.ff a.gg a.hh a.rest.now (and_right (nat_le a.ff 3) _ (and_right (nat_eq (length a.rest.now) 25) _ (ne_eqb (get_or a.rest.now 24 0) 0xf7 c.if-rest.true))))

pub returns-then-ff-gt3-clause-read : goal.returns-then-ff-gt3-clause-read
returns-then-ff-gt3-clause-read c =
    let a = c.args in
    no_body a.device a.ff a.gg a.hh a.rest.now (no_form a.device a.ff a.gg a.hh a.rest.now (and_left (nat_le a.ff 3) _ (lt-leb a.ff 3 (omega (arith, c.if-ff-gt3.true)))))

pub read_values-requires : goal.read_values-requires
read_values-requires c = record { size = omega (arith, length-take 24 c.args.rest.now, c.if-rest-ne25.false) }

pub returns-clause-read : goal.returns-clause-read
returns-clause-read c =
    let a = c.args in
    let four : are_data (a.device ∷ a.ff ∷ a.gg ∷ a.hh ∷ []) ≡ true = sym c.are_data.ensures ∙ c.if-not-are_data.false in
    let others : are_data (take 24 a.rest.now) ≡ true = sym c.are_data-2.ensures ∙ c.if-not-are_data-2.false in
    let number : 16384 * c.from.result + 128 * c.from-2.result + c.from-3.result ≡ 16384 * a.ff + 128 * a.gg + a.hh = omega (arith, c.from.ensures, c.from-2.ensures, c.from-3.ensures) in
    ap (λ n. let o : Option (ℕ × List ℕ) = Some (n, c.read_values.result) in o) number
    ∙ ap (λ vs. let o : Option (ℕ × List ℕ) = Some (16384 * a.ff + 128 * a.gg + a.hh, vs) in o) c.read_values.ensures
    ∙ sym (body a.device a.ff a.gg a.hh a.rest.now four others (omega (arith, c.if-ff-gt3.false)) (omega (arith, c.if-rest-ne25.false)) (omega (arith, c.if-rest.false)))

pub returns-clause-range : goal.returns-clause-range
returns-clause-range c =
    let others : are_data (take 24 c.args.rest.now) ≡ true = sym c.are_data-2.ensures ∙ c.if-not-are_data-2.false in
    rw c.read_values.ensures (data_are_values (take 24 c.args.rest.now) others)
