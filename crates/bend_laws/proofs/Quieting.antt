-- The state in which a channel was left has no key pressed.
use Rattle.std.proofs.Common.{◌≡◌, ◌<◌, ◌≤◌, ◌&&◌, ℕ, zero, suc, Bool, true, false, cond, List, [], ◌∷◌, Option, Some, None, refl, ap, sym, ◌∙◌, subst, filter, replicate, arith, inl, inr}
use Rattle.std.specs.Set.{is_member}
use Rattle.std.proofs.lemmas.Bool.{cases_Bool, both_ways, false_from_ne_true, and_parts}
use Rattle.midi_model.specs.Channel.{State}
use Rattle.midi_model.specs.Notes.{Note, sounds}
use Rattle.midi_model.specs.Music.{Music}
use Rattle.retune_model.specs.Table.{BendTarget}
use Rattle.retune_model.specs.Options.{Options}
use Rattle.retune_model.specs.Faults.{Targets, is_part, target_of}
use Rattle.retune_model.specs.Ports.{PortEvents, Ascend, music_at, is_reset_at}
use Rattle.retune_model.specs.Pairs.{Pair, is_same_pair}
use Rattle.retune_model.specs.Runs.{since}
use Rattle.channel_model.specs.Choice.{wanted, wanted_keys, key_set, has_pair, on_place, pair_on, last_or, last_on, left_state}
use Rattle.channel_model.specs.BendOutput.{PortRuns, pair_with}
use Rattle.bend_laws.specs.Follows.{Has, IsAmong, SoundAmong}
use Rattle.bend_laws.specs.Bent.{NoneHeld}
use Rattle.bend_laws.proofs.Planning.{source_at, IsPlanned}
use Rattle.bend_laws.proofs.Equal.{same_pair}
use Rattle.bend_laws.proofs.Stepping.{Found, found, not_found}
use Rattle.bend_laws.proofs.States.{at_port}
use Rattle.bend_laws.proofs.Outputs.{source_played}
use Rattle.bend_laws.proofs.Leaving.{IsLane, before_is}

-- a pair that is not among those that sound has no note that sounds
other_note : (z : ℕ) (o : Options) (table : Targets) (p : Pair) (ps : List Pair) → p.part.port ≡ z → is_member is_same_pair ps p ≡ false →
    (n : Note) (x : Option BendTarget) → IsAmong z ps n.channel x → has_pair p n x ≡ false
other_note z o table p ps of none n None h = refl
other_note z o table p ps of none n (Some t) h =
    sym (at_port z n.channel t p of)
    ∙ false_from_ne_true (is_same_pair (pair_with z n.channel t) p)
    (λ s. both_ways (is_member is_same_pair ps p) none (subst (Has ps) (same_pair (pair_with z n.channel t) p s) h))

unsounded : (z : ℕ) (o : Options) (table : Targets) (p : Pair) (ps : List Pair) → p.part.port ≡ z → is_member is_same_pair ps p ≡ false →
    (ns : List Note) → SoundAmong z o table ps ns → wanted_keys o table p (filter (λ n. is_part o n.channel && sounds n) ns) ≡ replicate 128 0
unsounded z o table p ps of none [] among = refl
unsounded z o table p ps of none (n ∷ ns) among =
    let S : List Note = filter (λ m. is_part o m.channel && sounds m) ns in
    let W : List ℕ = wanted_keys o table p S in
    let rest : W ≡ replicate 128 0 = unsounded z o table p ps of none ns among.1 in
    elim (cases_Bool (is_part o n.channel && sounds n)) [
      | inr e ↦ ap (λ b. wanted_keys o table p (cond b (n ∷ S) S)) e ∙ rest
      | inl e ↦ (let two = and_parts (is_part o n.channel) (sounds n) e in
          ap (λ b. wanted_keys o table p (cond b (n ∷ S) S)) e
          ∙ ap (λ b. cond b (key_set W (target_of o table n) n.pressure) W)
          (other_note z o table p ps of none n (target_of o table n) (among.0 two.0 two.1)) ∙ rest)
    ]

pub keys_as : (Good : State → Type 0) (o : Options) (table : Targets) (used : ℕ → Bool) (plan : PortRuns) (port : PortEvents) (last : ℕ) →
    IsPlanned Good o table used plan port.events last → Ascend 0 port.events →
    (row : ℕ → ℕ) (i c : ℕ) → IsLane plan last row i c → (k : ℕ) → k < last → NoneHeld plan k c →
    (left_state o table port plan.held (last_on (is_reset_at port.events) plan.pairs row i k)).keys ≡ replicate 128 0
keys_as Good o table used plan port last given rising row i c lane zero low free = refl
keys_as Good o table used plan port last given rising row i c lane (suc k) low free =
    pick (pair_on plan.pairs row i (suc k)) refl (λ f. keys_as Good o table used plan port last given rising row i c lane k (omega (arith, low)) f)
  where
    before : Option (ℕ × Pair)
    before = last_on (is_reset_at port.events) plan.pairs row i k

    keys_of : Option (ℕ × Pair) → List ℕ
    keys_of x = (left_state o table port plan.held x).keys

    -- no note of a pair sounds where it isn't among those that do
    silent : (p : Pair) (ps : List Pair) (j : ℕ) → p.part.port ≡ plan.number → is_member is_same_pair ps p ≡ false →
        SoundAmong plan.number o table ps (source_at port.events j).notes → (wanted o table (music_at port.events j) p).keys ≡ replicate 128 0
    silent p ps j of none among =
        unsounded plan.number o table p ps of none (music_at port.events j).notes
        (subst (λ (m : Music). SoundAmong plan.number o table ps m.notes) (source_played port.events rising j) among)

    taken : (p : Pair) → pair_on plan.pairs row i (suc k) ≡ Some p → keys_of (Some (suc k, p)) ≡ replicate 128 0
    taken p h =
        let r : Found (λ q. row (since is_same_pair plan.pairs q (suc k))) i (plan.pairs (suc k)) p =
        found (λ q. row (since is_same_pair plan.pairs q (suc k))) i (plan.pairs (suc k)) p h in
        let at_most : suc k ≤ last = omega (arith, low) in
        let gone : is_member is_same_pair (plan.held (suc (suc k))) p ≡ false =
        false_from_ne_true (is_member is_same_pair (plan.held (suc (suc k))) p) (λ m. free p m (lane.here (suc k) p at_most r.there r.on)) in
        ap (λ x. (wanted o table (music_at port.events (cond x (suc (suc k)) (suc k))) p).keys) gone
        ∙ silent p (plan.held (suc (suc k))) (suc k) (given.ports (suc k) p at_most r.there) gone (given.held (suc k) low)

    held_one : pair_on plan.pairs row i (suc k) ≡ None → (p : Pair) → Found (plan.channel k) c (plan.held (suc k)) p →
        keys_of before ≡ replicate 128 0
    held_one h p r =
        let at_most : suc k ≤ last = omega (arith, low) in
        let was : Has (plan.pairs k) p = given.was_there k p at_most r.there in
        let gone : is_member is_same_pair (plan.pairs (suc k)) p ≡ false =
        false_from_ne_true (is_member is_same_pair (plan.pairs (suc k)) p)
        (λ m. not_found (λ q. row (since is_same_pair plan.pairs q (suc k))) i (plan.pairs (suc k)) h p m
        (lane.there (suc k) p at_most m (given.kept k p at_most was m ∙ r.on))) in
        ap keys_of (before_is Good o table used plan port.events last given (is_reset_at port.events) row i c lane k at_most p r)
        ∙ ap (λ x. (wanted o table (music_at port.events (cond x (suc k) k)) p).keys) r.there
        ∙ silent p (plan.pairs (suc k)) (suc k) (given.ports k p (omega (arith, low)) was) gone (given.there (suc k) at_most)

    untaken : pair_on plan.pairs row i (suc k) ≡ None → (NoneHeld plan k c → keys_of before ≡ replicate 128 0) →
        (r : Bool) (y : Option Pair) → on_place (plan.channel k) c (plan.held (suc k)) ≡ y → keys_of (last_or (suc k) None r before) ≡ replicate 128 0
    untaken h rest true y g = refl
    untaken h rest false None g = rest (not_found (plan.channel k) c (plan.held (suc k)) g)
    untaken h rest false (Some p) g = held_one h p (found (plan.channel k) c (plan.held (suc k)) p g)

    pick : (x : Option Pair) → pair_on plan.pairs row i (suc k) ≡ x → (NoneHeld plan k c → keys_of before ≡ replicate 128 0) →
        keys_of (last_or (suc k) (pair_on plan.pairs row i (suc k)) (is_reset_at port.events (suc k)) before) ≡ replicate 128 0
    pick (Some p) h rest = ap (λ x. keys_of (last_or (suc k) x (is_reset_at port.events (suc k)) before)) h ∙ taken p h
    pick None h rest =
        ap (λ x. keys_of (last_or (suc k) x (is_reset_at port.events (suc k)) before)) h
        ∙ untaken h rest (is_reset_at port.events (suc k)) (on_place (plan.channel k) c (plan.held (suc k))) refl
