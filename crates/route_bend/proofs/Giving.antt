-- A channel is given to the run of one pair.
use Rattle.std.proofs.Common.{◌≡◌, ◌<◌, ◌≤◌, ◌+◌, ◌-◌, ◌*◌, ◌^◌, ◌%◌, ◌∙◌, ◌++◌, ℕ, ℤ, pos, List, [], Bool, true, false, cond, ◌&&◌, nat_eq, nat_lt, bit_or, set, get_or, replicate, length, slice_index, refl, sym, ap, arith, inl, inr}
use Rattle.std.proofs.lemmas.Bool.{cases_eq, cases_lt}
use Rattle.std.proofs.lemmas.Bool.Decides.{eqb_tells}
use Rattle.std.proofs.lemmas.List.{get_or-set_same, get_or-set_other, get_or_past, get_or-replicate, get_or_default, get_or-map, length-set, same_lists, set-set}
use Rattle.std.proofs.lemmas.Nat.Bits.{bit_at_ones}
use Rattle.mt_base.specs.declared.event.Msg.{Msg}
use Rattle.midi_model.specs.Channel.{Channel, State, default_state}
use Rattle.midi_model.specs.Bring.{bring}
use Rattle.retune_model.specs.Pairs.{Pair}
use Rattle.receiver.specs.Notes.{has}
use Rattle.receiver.specs.State.{state_of}
use Rattle.receiver.specs.declared.state.ChannelState.{ChannelState}
use Rattle.route_bend.specs.Channels.{is_given, is_on, state_in, Gives, BeginsOn}
use Rattle.route_bend.specs.Sent.{relaxed}
use Rattle.route_bend.specs.Single.{TakesAway, readied}
use Rattle.route_bend.specs.declared.channels.Channels.{Channels}
use Rattle.route_bend.proofs.Masks.{has_none, set_here, set_beside}
use Rattle.route_bend.proofs.OneByOne.{further, at_first, at_last, at_one, place_set}
use Rattle.route_bend.proofs.Leaving.{without, bit_cleared}
use Rattle.route_bend.proofs.Renewing.{state_set}

-- the parts below a number aren't given the channel any more
pub record IsCleared (channel below : ℕ) (old new : Channels) : Type 0 where
  pub port : new.port ≡ old.port
  pub states : new.states ≡ old.states
  pub steps : new.steps ≡ old.steps
  pub long : length new.given ≡ length old.given
  pub given : (a c : ℕ) → c < 16 → is_given new a c ≡ cond (nat_eq c channel && nat_lt a below) false (is_given old a c)

pub cleared_first : (channel : ℕ) (s : Channels) → IsCleared channel 0 s s
cleared_first channel s = record {
  port = refl;
  states = refl;
  steps = refl;
  long = refl;
  given = λ a c below. at_first (nat_eq c channel) a (is_given s a c) false;
}

pub cleared_next : (channel i : ℕ) (old now new : Channels) → i < length now.given → channel < 16
    → new.port ≡ now.port → new.states ≡ now.states → new.steps ≡ now.steps
    → new.given ≡ set now.given i (without (slice_index now.given i) channel)
    → IsCleared channel i old now → IsCleared channel (i + 1) old new
cleared_next channel i old now new within low port states steps given so = record {
  port = port ∙ so.port;
  states = states ∙ so.states;
  steps = steps ∙ so.steps;
  long = ap length given ∙ length-set now.given i (without (slice_index now.given i) channel) ∙ so.long;
  given = λ a c below.
      (let cases = bit_cleared now.given new.given i channel within low given a c below in
      further (nat_eq c channel) i a (is_given old a c) false (is_given now a c) (is_given new a c) false (so.given a c below)
      (at_one c channel a i (is_given now a c) (is_given new a c) false
      (λ other. elim (cases_eq a i) [ inl e ↦ cases.1 e other | inr ne ↦ cases.0 ne ])
      (λ same beside. cases.0 beside)
      (λ same here. cases.2 here same))
      (λ here same. refl));
}

-- no part has it
all_cleared : (channel i : ℕ) (old new : Channels) → 16 ≤ i → length old.given ≡ 16 → IsCleared channel i old new
    → (a c : ℕ) → c < 16 → is_given new a c ≡ cond (nat_eq c channel) false (is_given old a c)
all_cleared channel i old new far lo so a c below = elim (cases_lt a 16) [
  | inl low ↦ so.given a c below ∙ at_last (nat_eq c channel) i a (is_given old a c) false (λ here. omega (arith, far, low))
  | inr past ↦ (let was : is_given old a c ≡ false = ap (λ m. has m c) (get_or_past old.given a 0 (omega (arith, lo, past))) ∙ has_none c in
      let is : is_given new a c ≡ false = ap (λ m. has m c) (get_or_past new.given a 0 (omega (arith, lo, so.long, past))) ∙ has_none c in
      rw (is, was) (none (nat_eq c channel)))
]
  where
    none : (b : Bool) → false ≡ cond b false false
    none true = refl
    none false = refl

pub taken_away : (channel i : ℕ) (old new : Channels) → 16 ≤ i → length old.given ≡ 16 → IsCleared channel i old new
    → TakesAway channel old new
taken_away channel i old new far lo so = record {
  kept = record { port = so.port; states = so.states };
  steps = so.steps;
  given = all_cleared channel i old new far lo so;
}

-- a mask with its bit
abbrev pub with_bit : ℕ → ℕ → ℕ
with_bit mask c = bit_or mask (1 * 2 ^ c % 2 ^ 16)

given_alone : (part channel : ℕ) (old mid new : List ℕ) → part < length mid → channel < 16
    → ((a c : ℕ) → c < 16 → has (slice_index mid a) c ≡ cond (nat_eq c channel) false (has (slice_index old a) c))
    → new ≡ set mid part (with_bit (slice_index mid part) channel)
    → (a c : ℕ) → c < 16 → has (slice_index new a) c ≡ cond (nat_eq c channel) (nat_eq a part) (has (slice_index old a) c)
given_alone part channel old mid new within low cleared set_is a c below =
    let bit = with_bit (slice_index mid part) channel in
    let changed : has (slice_index new a) c ≡ has (slice_index (set mid part bit) a) c = ap (λ (l : List ℕ). has (slice_index l a) c) set_is in
    let there : slice_index (set mid part bit) part ≡ bit = get_or-set_same mid part bit 0 within in
    changed ∙ elim (eqb_tells a part) [
      | inl t ↦ elim (eqb_tells c channel) [
        | inl u ↦ rw (t.0, u.0, t.1, u.1) (ap (λ m. has m channel) there ∙ set_here (slice_index mid part) channel low)
        | inr u ↦ rw (u.0, t.1) (ap (λ m. has m c) there ∙ set_beside (slice_index mid part) channel c low u.1 ∙ cleared part c below
            ∙ beside u.0)
      ]
      | inr t ↦ rw t.0 (ap (λ m. has m c) (get_or-set_other mid part a bit 0 t.1) ∙ cleared a c below)
    ]
  where
    beside : nat_eq c channel ≡ false → cond (nat_eq c channel) false (has (slice_index old part) c) ≡ has (slice_index old part) c
    beside off = rw off refl

pub gives : (p : Pair) (channel : ℕ) (old mid new : Channels) → channel < 16 → p.part.channel < 16
    → length mid.given ≡ 16 → length mid.steps ≡ 16 → TakesAway channel old mid
    → new.port ≡ mid.port → new.states ≡ mid.states
    → new.given ≡ set mid.given p.part.channel (with_bit (slice_index mid.given p.part.channel) channel)
    → new.steps ≡ set mid.steps channel p.steps
    → Gives p channel old new
gives p channel old mid new low part lm ls so port states given steps = record {
  kept = record { port = port ∙ so.kept.port; states = states ∙ so.kept.states };
  given = given_alone p.part.channel channel old.given mid.given new.given (omega (arith, part, lm)) low so.given given;
  steps = λ c below. ap (λ (l : List ℤ). get_or l c (pos 0)) steps ∙ place_set mid.steps channel p.steps (pos 0) c (omega (arith, low, ls))
      ∙ ap (λ (l : List ℤ). cond (nat_eq c channel) p.steps (get_or l c (pos 0))) so.steps;
}

-- ---- a run begins

same_state : (s t : State) → s.own ≡ t.own → s.keys ≡ t.keys → s ≡ t
same_state s t own keys =
    let made : Channel → List ℕ → State = λ o k. record { own = o; keys = k } in
    ap (λ o. made o s.keys) own ∙ ap (made t.own) keys

-- a state whose keys have all lost their pressures
pub all_relaxed : (s t : State) → t.own ≡ s.own → length t.keys ≡ 128
    → ((k : ℕ) → k < 128 → slice_index t.keys k ≡ cond (has (2 ^ 128 - 1) k) 0 (slice_index s.keys k))
    → t ≡ record s { keys = replicate 128 0 }
all_relaxed s t own long zero = same_state t (record s { keys = replicate 128 0 }) own
    (same_lists t.keys (replicate 128 0) long (λ k d within.
    let low : k < 128 = omega (arith, within, long) in
    get_or_default t.keys k d 0 within ∙ zero k low
    ∙ ap (λ b. cond b 0 (slice_index s.keys k)) (ap (λ b. nat_eq b 1) (bit_at_ones 128 k low))
    ∙ sym (get_or-replicate 128 k 0 d low)))

pub begins_on : (p : Pair) (channel : ℕ) (wanted : State) (old mid new : Channels) (eased state : ChannelState) → channel < length old.states
    → Gives p channel old mid → new.port ≡ mid.port → new.given ≡ mid.given → new.steps ≡ mid.steps
    → new.states ≡ set (set mid.states channel eased) channel state → state_of state ≡ wanted
    → BeginsOn p channel wanted old new
begins_on p channel wanted old mid new eased state within so port given steps states is = record {
  port = port ∙ so.kept.port;
  given = λ a c below. ap (λ (l : List ℕ). has (slice_index l a) c) given ∙ so.given a c below;
  steps = λ c below. ap (λ (l : List ℤ). get_or l c (pos 0)) steps ∙ so.steps c below;
  states = λ c below. state_set old new channel c state within
      (states ∙ set-set mid.states channel eased state ∙ ap (λ (l : List ChannelState). set l channel state) so.kept.states)
      ∙ ap (λ s. cond (nat_eq c channel) s (state_in old c)) is;
}

-- the channel's state without key pressures, once the channel was given
pub relaxed_in : (s mid : Channels) (i channel : ℕ) (eased before after : ChannelState) → i < length s.states → i ≡ channel → mid.states ≡ s.states
    → state_of eased ≡ relaxed (state_of (get_or mid.states i before))
    → state_of (get_or (set mid.states i eased) i after) ≡ relaxed (state_in s channel)
relaxed_in s mid i channel eased before after low at same is =
    let long : length mid.states ≡ length s.states = ap length same in
    ap state_of (get_or-set_same mid.states i eased after (omega (arith, low, long))) ∙ is
    ∙ ap relaxed (ap (λ (l : List ChannelState). state_of (get_or l i before)) same
    ∙ sym (get_or-map state_of s.states i before default_state low) ∙ ap (state_in s) at)

pub readies : (wanted : State) (s : Channels) (p : Pair) (channel : ℕ) (now goal : State) (out new : List Msg) → is_on s p channel ≡ false
    → now ≡ relaxed (state_in s channel) → goal ≡ wanted → new ≡ out ++ bring channel now goal → new ≡ out ++ readied wanted s p channel
readies wanted s p channel now goal out new off is_now is_goal put =
    put ∙ ap (λ (ms : List Msg). out ++ ms) (ap (λ x. bring channel x goal) is_now ∙ ap (bring channel (relaxed (state_in s channel))) is_goal
    ∙ ap (λ b. cond b [] (bring channel (relaxed (state_in s channel)) wanted)) (sym off))
