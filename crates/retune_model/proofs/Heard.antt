-- A retuned note of the dump route is played within the bound of its source pitch.
use Rattle.std.proofs.Common.{◌≡◌, ◌≤◌, ◌<◌, ◌+◌, ◌*◌, ℕ, zero, suc, List, [], ◌∷◌, Bool, true, false, cond, ◌&&◌, nat_eq, Option, Some, None, refl, ap, sym, ◌∙◌, subst, arith, inl, inr, ℤ, pos, ◌+ℤ◌}
use Rattle.std.specs.Option.{unwrap_or}
use Rattle.std.proofs.lemmas.Int.{ints}
use Rattle.std.proofs.lemmas.Bool.{cases_eq, eq-eqb, eqb-true}
use Rattle.std.proofs.lemmas.Bool.Decides.{nat_tests}
use Rattle.mt_base.specs.Pitch.{Pitch, exactly, added, Within}
use Rattle.midi_model.specs.Channel.{Channel}
use Rattle.midi_model.specs.Zones.{no_zones, master}
use Rattle.midi_model.specs.Notes.{Note}
use Rattle.midi_model.specs.Music.{Music, channel_at}
use Rattle.midi_model.specs.Tuning.{Tuning, selected_of, renew, retuned}
use Rattle.midi_model.specs.TuningBytes.{numbered}
use Rattle.midi_model.specs.Receiver.{Receiver}
use Rattle.midi_model.specs.Played.{played, in_steps, by_program, fine, coarse, bent, bends}
use Rattle.retune_model.specs.Table.{Scaling, pitch_at, terms_at, ratios_at_key, Bounds, AreBounds, Bound, IsTable, AreFewTerms, tuning_target}
use Rattle.retune_model.specs.Options.{Options, Route, ByDump, half_step, bound}
use Rattle.retune_model.specs.Source.{moved, heard_if, source_pitch}
use Rattle.retune_model.specs.PlaysTheSame.{IsWithin}
use Rattle.retune_model.specs.Routes.{Setup}
use Rattle.retune_model.specs.Plain.{valued, told, IsTuned}
use Rattle.retune_model.specs.Faults.{Targets}
use Rattle.retune_model.specs.Dump.{tuning_if, tuning_at, values_from, IsDumpOf}
use Rattle.retune_model.proofs.Laws.{PitchLaws}
use Rattle.retune_model.proofs.Tunings.{made}
use Rattle.retune_model.proofs.Rounded.{heard_within}

-- without zones a channel is nobody's member
no_master : (c : ℕ) → master no_zones c ≡ None
no_master c = grind (arith, nat_tests)

-- a note's pitch, by the master and the program of the channel that governs
abbrev pitch_by : Receiver → Note → Option ℕ → Option ℕ → ℤ
pitch_by r n m p =
    let s = channel_at r.music (unwrap_or m n.channel) in
    ((by_program r.tuning p n.key +ℤ fine s) +ℤ coarse s) +ℤ bends r n.channel m

pub played_alone : (r : Receiver) (n : Note) (p : ℕ) → r.music.zones ≡ no_zones → selected_of r.tuning n.channel ≡ Some p
    → played r n ≡ ((in_steps n.key (r.tuning.values p n.key) +ℤ fine (channel_at r.music n.channel)) +ℤ coarse (channel_at r.music n.channel)) +ℤ bent (channel_at r.music n.channel)
played_alone r n p z e =
    let none : master r.music.zones n.channel ≡ None = ap (λ x. master x n.channel) z ∙ no_master n.channel in
    ap (λ m. pitch_by r n m (selected_of r.tuning (unwrap_or m n.channel))) none ∙ ap (λ q. pitch_by r n None q) e

-- each of n keys from k on, with what it is told
abbrev each_key : (ℕ → Option ℕ) → ℕ → ℕ → List (ℕ × Option ℕ)
each_key f k zero = []
each_key f k (suc n) = (k, f k) ∷ each_key f (k + 1) n

numbered_each : (f : ℕ → Option ℕ) (k n : ℕ) → numbered k (values_from f k n) ≡ each_key f k n
numbered_each f k zero = refl
numbered_each f k (suc n) = ap (λ xs. (k, f k) ∷ xs) (numbered_each f (k + 1) n)

-- what is told of the keys from a on leaves those below
past : (program : ℕ) (f : ℕ → Option ℕ) (n a k p : ℕ) (old : ℕ → ℕ → Option ℕ) → k < a → retuned program (each_key f a n) old p k ≡ old p k
past program f zero a k p old h = refl
past program f (suc n) a k p old h =
    past program f n (a + 1) k p (λ q j. cond (nat_eq q program && nat_eq j a) (renew (f a) (old q j)) (old q j)) (omega (arith, h)) ∙ untouched (nat_eq p program) (nat_eq k a) refl
  where
    untouched : (x y : Bool) → nat_eq k a ≡ y → cond (x && y) (renew (f a) (old p k)) (old p k) ≡ old p k
    untouched false y e = refl
    untouched true false e = refl
    untouched true true e = (let same : k ≡ a = eqb-true k a e in absurd (omega (arith, h, same)))

told_key : (program : ℕ) (f : ℕ → Option ℕ) (n a k v : ℕ) (old : ℕ → ℕ → Option ℕ) → a ≤ k → k < a + n → f k ≡ Some v → retuned program (each_key f a n) old program k ≡ Some v
told_key program f zero a k v old low high e = absurd (omega (arith, low, high))
told_key program f (suc n) a k v old low high e =
    let new : ℕ → ℕ → Option ℕ = λ q j. cond (nat_eq q program && nat_eq j a) (renew (f a) (old q j)) (old q j) in
    elim (cases_eq k a) [
      | inl same ↦ past program f n (a + 1) k program new (omega (arith, same)) ∙ here same
      | inr other ↦ told_key program f n (a + 1) k v new (omega (arith, low, other)) (omega (arith, high)) e
    ]
  where
    here : k ≡ a → cond (nat_eq program program && nat_eq k a) (renew (f a) (old program k)) (old program k) ≡ Some v
    here same = rw (eq-eqb program program refl, eq-eqb k a same, sym (ap f same) ∙ e) refl

-- a note on that the setup serves: its key has bounds and a target, the dump is sent, its channel has the program
pub record IsHeard (table : Targets) (s : Setup) (bytes : List ℕ) (c k t : ℕ) : Type 0 where
  pub low : k < 128
  pub bounds : Bounds
  pub found : table k t ≡ Some bounds
  pub value : ℕ
  pub target : tuning_target bounds ≡ Some value
  pub dumped : s.dumps ≡ bytes ∷ []
  pub selected : (u : Tuning) → IsTuned s u → selected_of u c ≡ Some s.program

-- the program then has the target at that key
value_of_key : (table : Targets) (s : Setup) (bytes : List ℕ) (c k t : ℕ) (u : Tuning) → ((key onset : ℕ) → table key onset ≡ table key 0) → IsDumpOf s.program (tuning_at table) bytes
    → (h : IsHeard table s bytes c k t) → IsTuned s u → u.values s.program k ≡ Some h.value
value_of_key table s bytes c k t u one d h tuned =
    let none : ℕ → ℕ → Option ℕ = λ p j. None in
    let at : tuning_at table k ≡ Some h.value = ap tuning_if (sym (one k t) ∙ h.found) ∙ h.target in
    ap (λ f. f s.program k) tuned.values
    ∙ ap (λ ds. told ds none s.program k) h.dumped
    ∙ ap (λ r. valued r none s.program k) d.reads
    ∙ ap (λ ks. retuned s.program ks none s.program k) (numbered_each (tuning_at table) 0 128)
    ∙ told_key s.program (tuning_at table) 128 0 k h.value none (omega arith) (omega (arith, h.low)) at

-- the bounds of a key that has some are those of its pitch
pub record HasPitch (scaling : Scaling) (k t : ℕ) (b : Bounds) : Type 0 where
  pub pitch : Pitch
  pub is : pitch_at scaling k t ≡ Some pitch
  pub bounds : AreBounds pitch (terms_at scaling k t) (ratios_at_key scaling k t) b

pub has_pitch : (scaling : Scaling) (table : Targets) (k t : ℕ) (b : Bounds) → IsTable scaling table → k < 128 → table k t ≡ Some b → HasPitch scaling k t b
has_pitch scaling table k t b is low e =
    let h : Bound (terms_at scaling k t) (ratios_at_key scaling k t) (pitch_at scaling k t) (Some b) =
    subst (λ x. Bound (terms_at scaling k t) (ratios_at_key scaling k t) (pitch_at scaling k t) x) e (is.bounds k t (omega (arith, low))) in
    pick (pitch_at scaling k t) refl h
  where
    pick : (p : Option Pitch) → pitch_at scaling k t ≡ p → Bound (terms_at scaling k t) (ratios_at_key scaling k t) p (Some b) → HasPitch scaling k t b
    pick None x y = absurd y
    pick (Some p) x y = record { pitch = p; is = x; bounds = y }

-- what all notes of the route need
pub record Serves (scaling : Scaling) (o : Options) (table : Targets) (s : Setup) (bytes : List ℕ) : Type 0 where
  pub laws : PitchLaws
  pub route : o.route ≡ ByDump
  pub bounds : IsTable scaling table
  pub few_terms : AreFewTerms scaling
  pub one_table : (key onset : ℕ) → table key onset ≡ table key 0
  pub dump : IsDumpOf s.program (tuning_at table) bytes

pub heard : (scaling : Scaling) (o : Options) (table : Targets) (s : Setup) (bytes : List ℕ) (m : Music) (u : Tuning) (n : Note) → Serves scaling o table s bytes
    → m.zones ≡ no_zones → IsTuned s u → IsHeard table s bytes n.channel n.key n.onset → IsWithin (source_pitch scaling o m n) (played (made m u) n) (bound o)
heard scaling o table s bytes m u n g z tuned h =
    let p = has_pitch scaling table n.key n.onset h.bounds g.bounds h.low h.found in
    let c : Channel = channel_at m n.channel in
    let x : ℤ = (fine c +ℤ coarse c) +ℤ bent c in
    let value : u.values s.program n.key ≡ Some h.value = value_of_key table s bytes n.channel n.key n.onset u g.one_table g.dump h tuned in
    let sum : played (made m u) n ≡ ((pos (195312500 * h.value) +ℤ fine c) +ℤ coarse c) +ℤ bent c =
    played_alone (made m u) n s.program z (h.selected u tuned) ∙ ap (λ w. ((in_steps n.key w +ℤ fine c) +ℤ coarse c) +ℤ bent c) value in
    let again : ((pos (195312500 * h.value) +ℤ fine c) +ℤ coarse c) +ℤ bent c ≡ pos (195312500 * h.value) +ℤ x = regroup (pos (195312500 * h.value)) (fine c) (coarse c) (bent c) in
    let near : Within (added p.pitch (exactly x)) (played (made m u) n) (97656250 + 32000000) =
    heard_within g.laws p.pitch (terms_at scaling n.key n.onset) (ratios_at_key scaling n.key n.onset) h.bounds h.value x (played (made m u) n) p.bounds (g.few_terms n.key n.onset (omega (arith, h.low))) h.target (sum ∙ again) in
    let P : Route → Type 0 = λ r. Within (added p.pitch (exactly ((fine c +ℤ coarse c) +ℤ moved r o.range c))) (played (made m u) n) (half_step r o.range + 32000000) in
    let Q : Option Pitch → Type 0 = λ q. IsWithin (heard_if o c q) (played (made m u) n) (bound o) in
    subst Q (sym p.is) (subst P (sym g.route) near)
  where
    regroup : (a b c d : ℤ) → ((a +ℤ b) +ℤ c) +ℤ d ≡ a +ℤ ((b +ℤ c) +ℤ d)
    regroup a b c d = omega (arith, ints)
