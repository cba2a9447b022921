-- What the laws say of a port's runs, and of what the parts tell of them.
use Rattle.std.proofs.Common.{◌≡◌, ◌≤◌, ◌<◌, ℕ, suc, List, [], Bool, true, false, cond, Some, None, length, take, refl, sym, ap, ◌∙◌, subst, arith, nat_lt}
use Rattle.std.specs.Set.{is_member}
use Rattle.std.proofs.lemmas.Bool.{both_ways, false_from_ne_true, ltb-true, ltb-false}
use Rattle.mt_base.specs.Midi.{MidiEvent}
use Rattle.midi_model.specs.Channel.{State}
use Rattle.retune_model.specs.Options.{Options, restless}
use Rattle.retune_model.specs.Ports.{port_at, of_port, music_at, is_reset_at}
use Rattle.retune_model.specs.PortLaws.{MusicAtAPosition}
use Rattle.retune_model.specs.Faults.{Targets, is_part}
use Rattle.retune_model.specs.FaultLaws.{SoundPortsAreAimed}
use Rattle.retune_model.specs.Pairs.{Pair, is_same_pair}
use Rattle.retune_model.specs.PortNeed.{pairs_on, held_on}
use Rattle.retune_model.specs.NeedLaws.{PairsStandOnce}
use Rattle.retune_model.specs.RestLaws.{OneRunBegins, HeldIsThere}
use Rattle.retune_model.specs.Runs.{begins}
use Rattle.retune_model.specs.RunLaws.{PairsAreTold}
use Rattle.retune_model.specs.SourceFaults.{IsSound}
use Rattle.channel_model.specs.Choice.{wanted, left_state, beginning_at}
use Rattle.plan_laws.specs.Placing.{or_kept}
use Rattle.plan_laws.specs.Counting.{PairsAreOwn, HoldingIsThere}
use Rattle.plan_laws.specs.FromLaws.{HeldHolds}
use Rattle.plan_laws.proofs.Rowing.{music_there}
use Rattle.lifetimes.specs.Told.{is_held, is_sounding, music_on}
use Rattle.least_replay.specs.Found.{IsThere}
use Rattle.least_replay.specs.FoundView.{needs_now, leaves_now}
use Rattle.least_replay.proofs.RunLists.{one_passes}

pub few_begin : PairsAreTold → PairsStandOnce → OneRunBegins → SoundPortsAreAimed → (o : Options) (table : Targets) (es : List MidiEvent) (z : ℕ)
    → IsSound o table es → (k : ℕ) → k < length es → length (beginning_at (pairs_on o (is_part o) table es z) k) ≤ 1
few_begin told once runs aimed o table es z sound k lk =
    let ones = runs o (is_part o) table (port_at es z) (length es) (aimed o (is_part o) table es z (λ c t. t) sound) in
    one_passes (λ p. begins is_same_pair (pairs_on o (is_part o) table es z) k p) (pairs_on o (is_part o) table es z (suc k))
    (once o (is_part o) table es z (suc k)) told (λ x y h g. ones.one k x y lk h g)

pub none_first : OneRunBegins → SoundPortsAreAimed → (o : Options) (table : Targets) (es : List MidiEvent) (z : ℕ) → IsSound o table es
    → pairs_on o (is_part o) table es z 0 ≡ []
none_first runs aimed o table es z sound =
    (runs o (is_part o) table (port_at es z) (length es) (aimed o (is_part o) table es z (λ c t. t) sound)).none

module _ (own : PairsAreOwn) (holding : HoldingIsThere) (music : MusicAtAPosition) (o : Options) (table : Targets) (es : List MidiEvent) (z : ℕ)
    (sound : IsSound o table es) where
  pub held_now : (k j : ℕ) (p : Pair) → k ≤ length es → IsThere o table es z j p
      → is_held o table (take k es) p ≡ is_member is_same_pair (pairs_on o (is_part o) table es z k) p
  held_now k j p le there =
      let mine = own o (is_part o) table es z j p (λ c t. t) sound there in
      holding o (is_part o) table es k p (λ c t. t) sound.in_order le mine.1
      ∙ ap (λ y. is_member is_same_pair (pairs_on o (is_part o) table es y k) p) mine.0

  pub sounding_now : (k j : ℕ) (p : Pair) → k ≤ length es → IsThere o table es z j p
      → is_sounding o table (take k es) p ≡ is_member is_same_pair (pairs_on (restless o) (is_part o) table es z k) p
  sounding_now k j p le there =
      let mine = own o (is_part o) table es z j p (λ c t. t) sound there in
      holding (restless o) (is_part o) table es k p (λ c t. t) sound.in_order le mine.1
      ∙ ap (λ y. is_member is_same_pair (pairs_on (restless o) (is_part o) table es y k) p) mine.0

  pub needs_at : (k j : ℕ) (p : Pair) → IsThere o table es z j p
      → needs_now o table (take k es) p ≡ wanted o table (music_at (of_port z es) k) p
  needs_at k j p there =
      let mine = own o (is_part o) table es z j p (λ c t. t) sound there in
      ap (λ y. wanted o table (music_on y (take k es)) p) mine.0 ∙ ap (λ m. wanted o table m p) (music_there music z es k)

  pub left_at : HeldHolds → HeldIsThere → SoundPortsAreAimed → (k : ℕ) (p : Pair) (v : State) → IsThere o table es z k p
      → is_member is_same_pair (pairs_on o (is_part o) table es z (suc k)) p ≡ false → is_reset_at (of_port z es) (suc k) ≡ false
      → (0 < o.tail → v ≡ wanted o table (music_at (of_port z es) k) p)
      → or_kept v (leaves_now o table (take (suc k) es) p) ≡ left_state o table (port_at es z) (held_on o (is_part o) table es z) (Some (k, p))
  left_at holds there aimed k p v on gone calm kept =
      let port = aimed o (is_part o) table es z (λ c t. t) sound in
      let held : Bool = is_member is_same_pair (held_on o (is_part o) table es z (suc k)) p in
      pick (nat_lt 0 o.tail) refl
      (λ tail. false_from_ne_true held (λ h. both_ways (is_member is_same_pair (pairs_on o (is_part o) table es z (suc k)) p) gone
      (holds o (is_part o) table (port_at es z) k p port tail calm h)))
      (λ none. (let same : restless o ≡ o = ap (λ t. record o { tail = t }) (sym none) in
      subst (λ (x : Options). is_member is_same_pair (held_on x (is_part o) table es z (suc k)) p ≡ true) same
      (ap (λ ps. is_member is_same_pair ps p) (there o (is_part o) table (port_at es z) port.timed k)
      ∙ ap (λ (x : Options). is_member is_same_pair (pairs_on x (is_part o) table es z k) p) same ∙ on)))
      (needs_at (suc k) k p on)
    where
      pick : (b : Bool) → nat_lt 0 o.tail ≡ b
          → (0 < o.tail → is_member is_same_pair (held_on o (is_part o) table es z (suc k)) p ≡ false)
          → (o.tail ≡ 0 → is_member is_same_pair (held_on o (is_part o) table es z (suc k)) p ≡ true)
          → needs_now o table (take (suc k) es) p ≡ wanted o table (music_at (of_port z es) (suc k)) p
          → or_kept v (cond b None (Some (needs_now o table (take (suc k) es) p)))
          ≡ left_state o table (port_at es z) (held_on o (is_part o) table es z) (Some (k, p))
      pick true e before after needs =
          let tail : 0 < o.tail = ltb-true 0 o.tail e in
          kept tail ∙ ap (λ b. wanted o table (music_at (of_port z es) (cond b (suc k) k)) p) (sym (before tail))
      pick false e before after needs =
          let none : o.tail ≡ 0 = (let l = ltb-false 0 o.tail e in omega (arith, l)) in
          needs ∙ ap (λ b. wanted o table (music_at (of_port z es) (cond b (suc k) k)) p) (sym (after none))
