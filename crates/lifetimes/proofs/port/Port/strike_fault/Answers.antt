use Rattle.std.proofs.Common.{◌≡◌, ◌∙◌, ◌+ℤ◌, Bool, ◌&&◌, not, refl, sym, ap, rules, w32, to_z, of_z}
use Rattle.std.proofs.lemmas.Int.{to_z-of_z}
use Rattle.retune_model.specs.Faults.{is_within_bend}
use Rattle.lifetimes.specs.Views.{options_of}
use Rattle.lifetimes.proofs.StruckPairs.{Laws, laws_of}
use Rattle.lifetimes.proofs.StruckDue.{target_due, bent_strike, bent_due, unison_by, moved_is, far_told}
use Rattle.lifetimes.proofs.port.Port.strike_fault.Goals as goal
use Rattle.lifetimes.proofs.port.Port.strike_fault.Goals.{else-is_bend-via-then-is_bend+else-is_beyond, else-is_bend-via-else-is_bend}

pub returns-then-is_some : goal.returns-then-is_some
returns-then-is_some c table es e z v next strike =
    target_due es z c.target_fault-fault.result strike
    (c.target_fault-fault.ensures (options_of c.args.options.now) table c.args.strike.now.key e.tick strike.target)
    (sym c.is_some.ensures ∙ c.if-is_some.true)

pub returns-then-has_unison : goal.returns-then-has_unison
returns-then-has_unison c table es e z v next strike =
    let laws : Laws = laws_of c.music_laws.ensures.settled c.music_laws.ensures.age c.held_laws.ensures.within c.held_laws.ensures.next
    c.pairs_are_within.ensures c.bend_laws.ensures in
    let bent = bent_strike next strike c.in-Bend.is in
    let unison = unison_by laws next bent c.notes.ensures.struck c.notes.ensures.listed c.in-Bend.is c.has_unison.ensures ∙ c.if-has_unison.true in
    bent_due laws next bent unison refl

pub returns-then-is_beyond : goal.returns-then-is_beyond
returns-then-is_beyond c table es e z v next strike =
    let laws : Laws = laws_of c.music_laws.ensures.settled c.music_laws.ensures.age c.held_laws.ensures.within c.held_laws.ensures.next
    c.pairs_are_within.ensures c.bend_laws.ensures in
    let bent = bent_strike next strike c.in-Bend.is in
    let unison = unison_by laws next bent c.notes.ensures.struck c.notes.ensures.listed c.in-Bend.is c.has_unison.ensures ∙ c.if-has_unison.false in
    let steps : to_z w32 (of_z w32 c.in-Bend.steps) ≡ c.in-Bend.steps = search rules in
    let moved = to_z-of_z w32 c.moved-moved.result (record { sfits = c.moved-moved.type_inv }) in
    let within : Bool = is_within_bend (to_z w32 (of_z w32 c.in-Bend.steps) +ℤ to_z w32 (of_z w32 c.moved-moved.result)) in
    let now = moved_is laws next bent c.drums_stand_apart.ensures.music (moved ∙ c.moved-moved.ensures.own _ next.stands.player) in
    far_told laws next bent unison steps now c.is_bend.ensures
    (ap (λ b. b && not within) c.if-is_bend.true ∙ (sym c.is_beyond.ensures ∙ c.if-is_beyond.true))

pub returns : goal.returns
returns c table es e z v next strike =
    let laws : Laws = laws_of c.music_laws.ensures.settled c.music_laws.ensures.age c.held_laws.ensures.within c.held_laws.ensures.next
    c.pairs_are_within.ensures c.bend_laws.ensures in
    let bent = bent_strike next strike c.in-Bend.is in
    let unison = unison_by laws next bent c.notes.ensures.struck c.notes.ensures.listed c.in-Bend.is c.has_unison.ensures ∙ c.if-has_unison.false in
    let steps : to_z w32 (of_z w32 c.in-Bend.steps) ≡ c.in-Bend.steps = search rules in
    let moved = to_z-of_z w32 c.moved-moved.result (record { sfits = c.moved-moved.type_inv }) in
    let within : Bool = is_within_bend (to_z w32 (of_z w32 c.in-Bend.steps) +ℤ to_z w32 (of_z w32 c.moved-moved.result)) in
    let now = moved_is laws next bent c.drums_stand_apart.ensures.music (moved ∙ c.moved-moved.ensures.own _ next.stands.player) in
    far_told laws next bent unison steps now c.is_bend.ensures
    (elim c.else-is_bend.branch [
      | else-is_bend-via-then-is_bend+else-is_beyond w ↦ ap (λ b. b && not within) w.if-is_bend.true
          ∙ (sym w.is_beyond.ensures ∙ w.if-is_beyond.false)
      | else-is_bend-via-else-is_bend w ↦ ap (λ b. b && not within) w.if-is_bend.false
    ])
