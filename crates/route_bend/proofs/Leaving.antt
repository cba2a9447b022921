-- The channels of a part are let go of, one after another.
use Rattle.std.proofs.Common.{◌≡◌, ◌≢◌, ◌<◌, ◌+◌, ◌*◌, ◌^◌, ◌%◌, ◌∙◌, ℕ, List, Bool, true, false, cond, not, ◌&&◌, nat_eq, nat_lt, bit_and, set, length, slice_index, refl, sym, ap}
use Rattle.std.specs.Int.{bit_not, w16}
use Rattle.std.proofs.lemmas.Bool.{and_right, eqb-true}
use Rattle.std.proofs.lemmas.List.{get_or-set_same, get_or-set_other}
use Rattle.retune_model.specs.Pairs.{Pair}
use Rattle.receiver.specs.Notes.{has}
use Rattle.route_bend.specs.Channels.{is_given, pair_on, EndBy, Leaves}
use Rattle.route_bend.specs.Single.{LeavesSome}
use Rattle.route_bend.specs.declared.channels.Channels.{Channels}
use Rattle.route_bend.proofs.Masks.{cleared_here, cleared_beside}
use Rattle.route_bend.proofs.OneByOne.{further, at_first, at_one, behind_end}

-- the pair of a run, where neither the port nor the steps change
pub same_pair : (old new : Channels) (a c : ℕ) → new.port ≡ old.port → new.steps ≡ old.steps → pair_on new a c ≡ pair_on old a c
same_pair old new a c port steps = rw (port, steps) refl

-- a mask without its bit
abbrev pub without : ℕ → ℕ → ℕ
without mask c = bit_and mask (bit_not w16 (1 * 2 ^ c % 2 ^ 16))

-- the bit of a channel is cleared in the mask of a part
pub bit_cleared : (old new : List ℕ) (part number : ℕ) → part < length old → number < 16
    → new ≡ set old part (without (slice_index old part) number)
    → (a c : ℕ) → c < 16 → (a ≢ part → has (slice_index new a) c ≡ has (slice_index old a) c)
    × (a ≡ part → c ≢ number → has (slice_index new a) c ≡ has (slice_index old a) c)
    × (a ≡ part → c ≡ number → has (slice_index new a) c ≡ false)
bit_cleared old new part number within low set_is a c below =
    let mask = slice_index old part in
    let changed : has (slice_index new a) c ≡ has (slice_index (set old part (without mask number)) a) c =
    ap (λ (l : List ℕ). has (slice_index l a) c) set_is in
    let there : slice_index (set old part (without mask number)) part ≡ without mask number =
    get_or-set_same old part (without mask number) 0 within in (
      (λ other. changed ∙ ap (λ m. has m c) (get_or-set_other old part a (without mask number) 0 other)),
      (λ same beside. changed ∙ (rw same (ap (λ m. has m c) there ∙ cleared_beside mask number c low below beside))),
      (λ same here. changed ∙ (rw (same, here) (ap (λ m. has m number) there ∙ cleared_here mask number low))),
    )

pub left_one : (stays : Pair → Bool) (part number : ℕ) (old new : Channels) → part < length old.given → number < 16
    → new.port ≡ old.port → new.states ≡ old.states → new.steps ≡ old.steps
    → new.given ≡ set old.given part (without (slice_index old.given part) number)
    → stays (pair_on old part number) ≡ false
    → LeavesSome (λ c. nat_eq c number) stays part old new
left_one stays part number old new within low port states steps given over = record {
  kept = record { port = port; states = states };
  steps = steps;
  given = λ a c below.
      (let cases = bit_cleared old.given new.given part number within low given a c below in
      at_one a part c number (is_given old a c) (is_given new a c) (is_given old a c && stays (pair_on old a c))
      cases.0 cases.1
      (λ same here. cases.2 same here ∙ sym (and_right (is_given old a c) (stays (pair_on old a c)) (rw (same, here) over))));
}

pub unleft_one : (stays : Pair → Bool) (part number : ℕ) (s : Channels)
    → (is_given s part number && not (stays (pair_on s part number))) ≡ false
    → LeavesSome (λ c. nat_eq c number) stays part s s
unleft_one stays part number s on = record {
  kept = record { port = refl; states = refl };
  steps = refl;
  given = λ a c below. at_one a part c number (is_given s a c) (is_given s a c) (is_given s a c && stays (pair_on s a c))
      (λ other. refl) (λ same beside. refl)
      (λ same here. rw (same, here) (pick (is_given s part number) (stays (pair_on s part number)) on));
}
  where
    pick : (g t : Bool) → (g && not t) ≡ false → g ≡ (g && t)
    pick false t e = refl
    pick true true e = refl
    pick true false e = absurd cc

pub leaves_first : (stays : Pair → Bool) (part : ℕ) (s : Channels) → LeavesSome (λ c. nat_lt c 0) stays part s s
leaves_first stays part s = record {
  kept = record { port = refl; states = refl };
  steps = refl;
  given = λ a c below. at_first (nat_eq a part) c (is_given s a c) (is_given s a c && stays (pair_on s a c));
}

pub leaves_next : (stays : Pair → Bool) (part i : ℕ) (old now new : Channels)
    → LeavesSome (λ c. nat_lt c i) stays part old now → LeavesSome (λ c. nat_eq c i) stays part now new
    → LeavesSome (λ c. nat_lt c (i + 1)) stays part old new
leaves_next stays part i old now new so step = record {
  kept = record { port = step.kept.port ∙ so.kept.port; states = step.kept.states ∙ so.kept.states };
  steps = step.steps ∙ so.steps;
  given = λ a c below. further (nat_eq a part) i c (is_given old a c) (is_given old a c && stays (pair_on old a c)) (is_given now a c)
      (is_given new a c) (is_given now a c && stays (pair_on now a c)) (so.given a c below) (step.given a c below)
      (λ here same. ap (λ b. b && stays (pair_on now a c)) same
      ∙ ap (λ p. is_given old a c && stays p) (same_pair old now a c so.kept.port so.steps));
}

-- a channel that wasn't given to a part isn't, whether its pair is there or not
passed_over : (here before given stays : Bool) → (here ≡ true → before ≡ false → given ≡ false)
    → cond (here && before) (given && stays) given ≡ cond here (given && stays) given
passed_over false before given stays off = refl
passed_over true true given stays off = refl
passed_over true false given stays off = off refl refl ∙ sym (ap (λ g. g && stays) (off refl refl))

pub leaves_last : (stays : Pair → Bool) (part i : ℕ) (old new : Channels) → EndBy old part i
    → LeavesSome (λ c. nat_lt c i) stays part old new → Leaves stays part old new
leaves_last stays part i old new none so = record {
  kept = so.kept;
  steps = so.steps;
  given = λ a c below. so.given a c below
      ∙ passed_over (nat_eq a part) (nat_lt c i) (is_given old a c) (stays (pair_on old a c))
      (λ here behind. ap (λ x. is_given old x c) (eqb-true a part here) ∙ none c (behind_end c i behind) below);
}
