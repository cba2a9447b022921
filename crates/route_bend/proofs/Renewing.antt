-- The channels of a part get their states, one after another, and the messages that bring them there.
use Rattle.std.proofs.Common.{◌≡◌, ◌≢◌, ◌<◌, ◌≤◌, ◌+◌, ◌-◌, ◌++◌, ◌∙◌, ℕ, zero, suc, List, [], ◌∷◌, Bool, true, false, cond, ◌&&◌, nat_eq, nat_lt, set, get_or, map, length, slice_index, refl, sym, ap, arith, inl, inr}
use Rattle.std.proofs.lemmas.Bool.{le-ltb, ne_eqb, eq-eqb}
use Rattle.std.proofs.lemmas.Bool.Decides.{leb_tells}
use Rattle.std.proofs.lemmas.List.{append_assoc, append-nil, map-set, length-map}
use Rattle.mt_base.specs.declared.event.Msg.{Msg}
use Rattle.mt_base.specs.declared.event.Msg.TheVariants.{Control}
use Rattle.midi_model.specs.Channel.{State, default_state}
use Rattle.midi_model.specs.Bring.{bring}
use Rattle.retune_model.specs.Dump.{from_up}
use Rattle.retune_model.specs.Pairs.{Pair}
use Rattle.receiver.specs.Notes.{has}
use Rattle.receiver.specs.State.{state_of}
use Rattle.receiver.specs.declared.state.ChannelState.{ChannelState}
use Rattle.route_bend.specs.Channels.{is_given, state_in, pair_on, EndBy, Renews}
use Rattle.route_bend.specs.Sent.{brought, sent}
use Rattle.route_bend.specs.Single.{RenewsSome}
use Rattle.route_bend.specs.declared.channels.Channels.{Channels}
use Rattle.route_bend.proofs.OneByOne.{further, at_first, at_last, at_one_of, place_set}
use Rattle.route_bend.proofs.Leaving.{same_pair}

-- one channel gets a state
state_set_in : (xs : List ChannelState) (i c : ℕ) (state : ChannelState) → i < length xs
    → get_or (map state_of (set xs i state)) c default_state ≡ cond (nat_eq c i) (state_of state) (get_or (map state_of xs) c default_state)
state_set_in xs i c state within =
    let long = length-map xs state_of in
    ap (λ (l : List State). get_or l c default_state) (map-set state_of xs i state)
    ∙ place_set (map state_of xs) i (state_of state) default_state c (omega (arith, long, within))

pub state_set : (old new : Channels) (i c : ℕ) (state : ChannelState) → i < length old.states → new.states ≡ set old.states i state
    → state_in new c ≡ cond (nat_eq c i) (state_of state) (state_in old c)
state_set old new i c state within set_is =
    ap (λ (l : List ChannelState). get_or (map state_of l) c default_state) set_is ∙ state_set_in old.states i c state within

pub renewed_one : (wanted : Pair → State) (part number : ℕ) (old new : Channels) (state : ChannelState) → number < length old.states
    → new.port ≡ old.port → new.given ≡ old.given → new.steps ≡ old.steps → new.states ≡ set old.states number state
    → state_of state ≡ wanted (pair_on old part number) → is_given old part number ≡ true
    → RenewsSome (λ c. nat_eq c number) wanted part old new
renewed_one wanted part number old new state within port given steps states is on = record {
  kept = record { port = port; given = given; steps = steps };
  states = λ c below.
      (let becomes = state_set old new number c state within states in
      at_one_of (is_given old part c) c number (state_in old c) (state_in new c) (wanted (pair_on old part c))
      (λ off. becomes ∙ (let apart : c ≢ number = λ same. absurd (clash c same off) in rw (ne_eqb c number apart) refl))
      (λ apart. becomes ∙ (rw (ne_eqb c number apart) refl))
      (λ here same. becomes ∙ (rw same (rw (eq-eqb number number refl) is))));
}
  where
    clash : (c : ℕ) → c ≡ number → is_given old part c ≡ false → ⊥
    clash c same off = (let both : true ≡ false = sym on ∙ ap (is_given old part) (sym same) ∙ off in cc)

-- a channel that was given to a part comes before its end
before_end : (s : Channels) (part i c : ℕ) → EndBy s part i → c < 16 → is_given s part c ≡ true → c < i
before_end s part i c none low on = elim (leb_tells i c) [
  | inl t ↦ absurd (let both : true ≡ false = sym on ∙ none c t.1 low in cc)
  | inr t ↦ omega (arith, t.1)
]

pub renews_first : (wanted : Pair → State) (part : ℕ) (s : Channels) → RenewsSome (λ c. nat_lt c 0) wanted part s s
renews_first wanted part s = record {
  kept = record { port = refl; given = refl; steps = refl };
  states = λ c below. at_first (is_given s part c) c (state_in s c) (wanted (pair_on s part c));
}

-- which channels a part was given stays
pub same_given : (old new : Channels) (a c : ℕ) → new.given ≡ old.given → is_given new a c ≡ is_given old a c
same_given old new a c given = ap (λ (l : List ℕ). has (slice_index l a) c) given

pub renews_next : (wanted : Pair → State) (part i : ℕ) (old now new : Channels)
    → RenewsSome (λ c. nat_lt c i) wanted part old now → RenewsSome (λ c. nat_eq c i) wanted part now new
    → RenewsSome (λ c. nat_lt c (i + 1)) wanted part old new
renews_next wanted part i old now new so step = record {
  kept = record { port = step.kept.port ∙ so.kept.port; given = step.kept.given ∙ so.kept.given; steps = step.kept.steps ∙ so.kept.steps };
  states = λ c below. further (is_given old part c) i c (state_in old c) (wanted (pair_on old part c)) (state_in now c) (state_in new c)
      (wanted (pair_on now part c)) (so.states c below)
      (step.states c below
      ∙ ap (λ b. cond (b && nat_eq c i) (wanted (pair_on now part c)) (state_in now c)) (same_given old now part c so.kept.given))
      (λ here same. ap wanted (same_pair old now part c so.kept.port so.kept.steps));
}

pub renews_last : (wanted : Pair → State) (part i : ℕ) (old new : Channels) → EndBy old part i
    → RenewsSome (λ c. nat_lt c i) wanted part old new → Renews wanted part old new
renews_last wanted part i old new none so = record {
  kept = so.kept;
  states = λ c below. so.states c below
      ∙ at_last (is_given old part c) i c (state_in old c) (wanted (pair_on old part c)) (before_end old part i c none below);
}

-- ---- what is sent

-- the channels from one on: that one, and those behind it
up_from : (i : ℕ) → i < 16 → from_up i (16 - i) ≡ i ∷ from_up (i + 1) (16 - (i + 1))
up_from i low = (let next : 16 - i ≡ suc (16 - (i + 1)) = omega (arith, low) in ap (from_up i) next)

-- what is put so far, with what the channels from one on are still to cause, is the whole
pub put_next : (causes : List ℕ → List Msg) (i : ℕ) (now new whole : List Msg) → i < 16
    → ((c : ℕ) (cs : List ℕ) → causes (c ∷ cs) ≡ causes (c ∷ []) ++ causes cs)
    → now ++ causes (from_up i (16 - i)) ≡ whole → new ≡ now ++ causes (i ∷ [])
    → new ++ causes (from_up (i + 1) (16 - (i + 1))) ≡ whole
put_next causes i now new whole low parts so put =
    let rest = from_up (i + 1) (16 - (i + 1)) in
    ap (λ (ms : List Msg). ms ++ causes rest) put
    ∙ append_assoc now (causes (i ∷ [])) (causes rest)
    ∙ ap (λ (ms : List Msg). now ++ ms) (sym (ap causes (up_from i low) ∙ parts i rest))
    ∙ so

pub put_last : (causes : List ℕ → List Msg) (i : ℕ) (now whole : List Msg) → causes (from_up i (16 - i)) ≡ []
    → now ++ causes (from_up i (16 - i)) ≡ whole → now ≡ whole
put_last causes i now whole none so = sym (ap (λ (ms : List Msg). now ++ ms) none ∙ append-nil now) ∙ so

pub brought_parts : (wanted : Pair → State) (s : Channels) (part c : ℕ) (cs : List ℕ)
    → brought wanted s part (c ∷ cs) ≡ brought wanted s part (c ∷ []) ++ brought wanted s part cs
brought_parts wanted s part c cs =
    let one = cond (is_given s part c) (bring c (state_in s c) (wanted (pair_on s part c))) [] in
    ap (λ (ms : List Msg). ms ++ brought wanted s part cs) (sym (append-nil one))

-- where a channel wasn't renewed yet, it is brought from where it was
pub brought_same : (wanted : Pair → State) (part i : ℕ) (old now : Channels) → i < 16 → RenewsSome (λ c. nat_lt c i) wanted part old now
    → brought wanted now part (i ∷ []) ≡ brought wanted old part (i ∷ [])
brought_same wanted part i old now low so =
    let still = so.states i low ∙ unmet (is_given old part i) (wanted (pair_on old part i)) (state_in old i) in
    ap (λ b. cond b (bring i (state_in now i) (wanted (pair_on now part i))) [] ++ []) (same_given old now part i so.kept.given)
    ∙ ap (λ s. cond (is_given old part i) (bring i s (wanted (pair_on now part i))) [] ++ []) still
    ∙ ap (λ p. cond (is_given old part i) (bring i (state_in old i) (wanted p)) [] ++ []) (same_pair old now part i so.kept.port so.kept.steps)
  where
    unmet : (b : Bool) (x y : State) → cond (b && nat_lt i i) x y ≡ y
    unmet false x y = refl
    unmet true x y = rw (le-ltb i i (omega arith)) refl

-- the messages that bring a channel of a part
pub brings_one : (wanted : Pair → State) (s : Channels) (part number channel : ℕ) (now goal : State) (out new : List Msg)
    → is_given s part number ≡ true → channel ≡ number → now ≡ state_in s number → goal ≡ wanted (pair_on s part number)
    → new ≡ out ++ bring channel now goal → new ≡ out ++ brought wanted s part (number ∷ [])
brings_one wanted s part number channel now goal out new on is_channel is_now is_goal put =
    let one = bring number (state_in s number) (wanted (pair_on s part number)) in
    put ∙ ap (λ (ms : List Msg). out ++ ms)
    (ap (λ c. bring c now goal) is_channel ∙ ap (λ x. bring number x goal) is_now ∙ ap (bring number (state_in s number)) is_goal
    ∙ sym (append-nil one) ∙ ap (λ b. cond b one [] ++ []) (sym on))

-- channels that weren't given to a part get nothing
nothing_from : (causes : List ℕ → List Msg) (s : Channels) (part i n : ℕ) → ((c : ℕ) → i ≤ c → c < i + n → is_given s part c ≡ false)
    → causes [] ≡ [] → ((c : ℕ) (cs : List ℕ) → is_given s part c ≡ false → causes (c ∷ cs) ≡ causes cs) → causes (from_up i n) ≡ []
nothing_from causes s part i zero off none over = none
nothing_from causes s part i (suc n) off none over =
    over i (from_up (i + 1) n) (off i (omega arith) (omega arith))
    ∙ nothing_from causes s part (i + 1) n (λ c from low. off c (omega (arith, from)) (omega (arith, low))) none over

off_from : (s : Channels) (part i : ℕ) → EndBy s part i → (c : ℕ) → i ≤ c → c < i + (16 - i) → is_given s part c ≡ false
off_from s part i end c from low = end c from (omega (arith, from, low))

pub brought_none : (wanted : Pair → State) (s : Channels) (part i : ℕ) → EndBy s part i → brought wanted s part (from_up i (16 - i)) ≡ []
brought_none wanted s part i end = nothing_from (brought wanted s part) s part i (16 - i) (off_from s part i end) refl (λ c cs off. rw off refl)

pub sent_parts : (s : Channels) (part n v c : ℕ) (cs : List ℕ) → sent s part n v (c ∷ cs) ≡ sent s part n v (c ∷ []) ++ sent s part n v cs
sent_parts s part n v c cs =
    let one = cond (is_given s part c) (Control c n v ∷ []) [] in
    ap (λ (ms : List Msg). ms ++ sent s part n v cs) (sym (append-nil one))

pub sends_one : (s : Channels) (part n v number channel : ℕ) (out new : List Msg) → is_given s part number ≡ true → channel ≡ number
    → new ≡ out ++ Control channel n v ∷ [] → new ≡ out ++ sent s part n v (number ∷ [])
sends_one s part n v number channel out new on is_channel put =
    put ∙ ap (λ (ms : List Msg). out ++ ms) (ap (λ c. Control c n v ∷ []) is_channel ∙ ap (λ b. cond b (Control number n v ∷ []) [] ++ []) (sym on))

pub sent_none : (s : Channels) (part n v i : ℕ) → EndBy s part i → sent s part n v (from_up i (16 - i)) ≡ []
sent_none s part n v i end = nothing_from (sent s part n v) s part i (16 - i) (off_from s part i end) refl (λ c cs off. rw off refl)
