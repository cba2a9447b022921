-- The kinds of a note on, in their order: by its target, by the keys that sound, and by its own pair.
use Rattle.std.proofs.Common.{◌≡◌, ◌∙◌, ℕ, suc, ℤ, ◌+ℤ◌, List, [], ◌∷◌, ◌++◌, Bool, true, false, cond, ◌&&◌, not, nat_eq, Option, Some, None, is_some, length, refl, sym, ap, subst}
use Rattle.std.specs.Option.{option_map}
use Rattle.mt_base.specs.declared.event.Msg.TheVariants.{NoteOn}
use Rattle.mt_base.specs.Midi.{MidiEvent}
use Rattle.mt_base.specs.Valid.{IsValidEvent}
use Rattle.midi_model.specs.Music.{Music, channel_at}
use Rattle.midi_model.specs.Receiver.{after}
use Rattle.retune_model.specs.Drums.{DrumsStandApart}
use Rattle.retune_model.specs.Table.{Bounds, BendTarget, bend_target, tuning_target}
use Rattle.retune_model.specs.Options.{Options, Route, ByDump, ByLive, ByBend, ByMpe, bends_notes}
use Rattle.retune_model.specs.Source.{bend_in_steps}
use Rattle.retune_model.specs.PlaysTheSame.{bend_target_if}
use Rattle.retune_model.specs.Ports.{of_port, music_at}
use Rattle.retune_model.specs.Faults.{Targets, Kind, UnmappedKey, KeyOutOfDevice, Unison, BendTooFar, is_part, is_bend, is_within_bend, has_target, misses_target, is_unison, first_that}
use Rattle.retune_model.specs.Pairs.{Pair}
use Rattle.retune_model.specs.SourceFaults.{first_beyond, bend_of}
use Rattle.key_pitch.specs.Aims.{tuning_aim, on_tuning, bend_aim, on_bend}
use Rattle.key_pitch.specs.declared.aim.Aim.{Aim}
use Rattle.key_pitch.specs.declared.aim.Aim.TheVariants.{Bend as AimAt}
use Rattle.lifetimes.specs.Told.{music_on, aim_in, told_kind}
use Rattle.lifetimes.specs.Lists.{ListsSounding, any_key, entry_of, entry_at, is_beside}
use Rattle.lifetimes.specs.Port.{struck_in, listed_in}
use Rattle.lifetimes.specs.Stands.{sounds_on, heard_on}
use Rattle.lifetimes.specs.Due.{IsNext, IsStrike, plainly, target_tests, with_bend, early_due}
use Rattle.lifetimes.specs.declared.fault.SourceKind.{SourceKind}
use Rattle.lifetimes.specs.declared.notes.Sounding.{Sounding}
use Rattle.lifetimes.specs.declared.notes.Struck.{Struck}
use Rattle.lifetimes.specs.declared.port.Port.{Port}
use Rattle.lifetimes.specs.declared.port.Strike.{Strike}
use Rattle.lifetimes.proofs.HeardParts.{heard_channel}
use Rattle.lifetimes.proofs.BendNow.{order_front}
use Rattle.lifetimes.proofs.StruckNow.{all_front, music_before, strike_low}
use Rattle.lifetimes.proofs.StruckPairs.{Laws, IsBent, moved_now, pairs_then, channel_kept, own_beyond}
use Rattle.lifetimes.proofs.UnisonNow.{unison_is}

-- ---- by its target

some_told : (x : Option SourceKind) → is_some (told_kind x) ≡ is_some x
some_told None = refl
some_told (Some x) = refl

pub target_due : {o : Options} {table : Targets} (es : List MidiEvent) {e : MidiEvent} (z : ℕ) {v : ℕ} {s : Strike} (fault : Option SourceKind)
    → IsStrike o table e v s → told_kind fault ≡ plainly (first_that (target_tests o (table s.key e.tick))) → is_some fault ≡ true
    → told_kind fault ≡ early_due o table es e z (NoteOn s.channel s.key (suc v))
target_due {o} {table} es {e} z {v} {s} fault strike is some =
    is ∙ pick (is_part o s.channel) (not (is_some (table s.key e.tick))) (misses_target o (table s.key e.tick)) _
    strike.part (ap is_some (sym is) ∙ (some_told fault ∙ some))
  where
    pick : (p a m : Bool) (rest : Option Kind) → p ≡ true
        → is_some (plainly (cond a (Some UnmappedKey) (cond m (Some KeyOutOfDevice) None))) ≡ true
        → plainly (cond a (Some UnmappedKey) (cond m (Some KeyOutOfDevice) None))
        ≡ option_map (with_bend o table es e z) (cond (p && a) (Some UnmappedKey) (cond (p && m) (Some KeyOutOfDevice) rest))
    pick true true m rest h k = refl
    pick true false true rest h k = refl
    pick true false false rest h k = absurd cc
    pick false a m rest h k = absurd cc

-- ---- where its target is a bend

bent_if : (range : ℕ) (b : Option Bounds) (j : ℕ) (q : ℤ) → bend_aim range b ≡ AimAt j q
    → bend_target_if range b ≡ Some (record { key = j; steps = q })
bent_if range None j q h = absurd cc
bent_if range (Some b) j q h = pick (bend_target range b) h
  where
    pick : (t : Option BendTarget) → on_bend t ≡ AimAt j q → t ≡ Some (record { key = j; steps = q })
    pick None g = absurd cc
    pick (Some t) g =
        let key : t.key ≡ j = cc in
        let steps : t.steps ≡ q = cc in
        ap (λ a. let x : BendTarget = record { key = a; steps = t.steps } in Some x) key
        ∙ ap (λ a. let x : BendTarget = record { key = j; steps = a } in Some x) steps

not_tuned : (b : Option Bounds) (j : ℕ) (q : ℤ) → tuning_aim b ≡ AimAt j q → ⊥
not_tuned None j q h = cc
not_tuned (Some b) j q h = pick (tuning_target b) h
  where
    pick : (t : Option ℕ) → on_tuning t ≡ AimAt j q → ⊥
    pick None g = cc
    pick (Some t) g = cc

bent_of : (o : Options) (table : Targets) (k t j : ℕ) (q : ℤ) → aim_in o table k t ≡ AimAt j q
    → (bends_notes o.route ≡ true) × (bend_target_if o.range (table k t) ≡ Some (record { key = j; steps = q }))
bent_of o table k t j q h = pick (bends_notes o.route) refl h
  where
    pick : (b : Bool) → bends_notes o.route ≡ b → cond b (bend_aim o.range (table k t)) (tuning_aim (table k t)) ≡ AimAt j q
        → (bends_notes o.route ≡ true) × (bend_target_if o.range (table k t) ≡ Some (record { key = j; steps = q }))
    pick true is g = (is, bent_if o.range (table k t) j q g)
    pick false is g = absurd (not_tuned (table k t) j q g)

pub bent_strike : {o : Options} {table : Targets} {es : List MidiEvent} {e : MidiEvent} {z v j : ℕ} {q : ℤ} {port : Port} {s : Strike}
    → IsNext o table es e z port → IsStrike o table e v s → s.target ≡ AimAt j q → IsBent o table e s.channel s.key v j q
bent_strike {o} {table} {es} {e} {z} {v} {j} {q} {port} {s} next strike aim =
    let bent = bent_of o table s.key e.tick j q (sym strike.target ∙ aim) in
    record {
      what = strike.what;
      low = (strike_low o table es e z v port s next strike).0;
      part = strike.part;
      bends = bent.0;
      target = bent.1;
    }

-- so its key has a pitch, and the device has the target
mapped : (range : ℕ) (b : Option Bounds) (t : BendTarget) → bend_target_if range b ≡ Some t → not (is_some b) ≡ false
mapped range None t h = absurd cc
mapped range (Some b) t h = refl

in_device : (o : Options) (b : Option Bounds) (t : BendTarget) → bends_notes o.route ≡ true → bend_target_if o.range b ≡ Some t
    → misses_target o b ≡ false
in_device o None t bends h = refl
in_device o (Some b) t bends h = pick o.route bends
  where
    pick : (r : Route) → bends_notes r ≡ true → not (has_target r o.range b) ≡ false
    pick ByDump g = absurd cc
    pick ByLive g = absurd cc
    pick ByBend g = ap (λ x. not (is_some x)) h
    pick ByMpe g = ap (λ x. not (is_some x)) h

module _ (laws : Laws) {o : Options} {table : Targets} {es : List MidiEvent} {e : MidiEvent} {z : ℕ} {port : Port} {c k v j : ℕ} {q : ℤ}
    (next : IsNext o table es e z port) (bent : IsBent o table e c k v j q) where
  abbrev moved : ℤ
  moved = moved_now o z es c

  -- whether its channel's bend goes too far with its own pair
  abbrev is_far : Bool
  is_far = is_bend o.route && not (is_within_bend (q +ℤ moved))

  -- of the kinds before those of ports it is a unison, or else goes too far, or is none
  pub bent_due : {u f : Bool} → is_unison o table (music_on z es) e.tick (NoteOn c k (suc v)) ≡ u → is_far ≡ f
      → cond u (Some (Unison, None)) (cond f (Some (BendTooFar, Some (q, moved))) None) ≡ early_due o table es e z (NoteOn c k (suc v))
  bent_due {u} {f} unison far =
      let all : List MidiEvent = es ++ e ∷ [] in
      let then : Music = music_at (of_port z all) (suc (length es)) in
      let pairs : List Pair = pairs_then o table es e z in
      let found : Option (ℤ × ℤ) = first_beyond (record { port = z; channel = c }) (bend_in_steps o.range (channel_at then c)) pairs in
      pick (is_part o c) (not (is_some (table k e.tick))) (misses_target o (table k e.tick)) u (is_bend o.route) (is_within_bend (q +ℤ moved)) f found
      (with_bend o table es e z) bent.part (mapped o.range (table k e.tick) _ bent.target) (in_device o (table k e.tick) _ bent.bends bent.target)
      far
      (λ bend. ap (λ s. first_beyond (record { port = z; channel = c }) (bend_in_steps o.range s) pairs)
      (channel_kept laws next bent) ∙ own_beyond laws next bent bend)
      refl (ap (λ w. (BendTooFar, bend_of z o then pairs BendTooFar w)) bent.what)
      ∙ ap (λ b. option_map (with_bend o table es e z) (cond (is_part o c && not (is_some (table k e.tick))) (Some UnmappedKey)
      (cond (is_part o c && misses_target o (table k e.tick)) (Some KeyOutOfDevice)
      (cond b (Some Unison) (cond (is_bend o.route && (is_part o c && is_some found)) (Some BendTooFar) None)))))
      (sym (ap (λ m. is_unison o table m e.tick (NoteOn c k (suc v))) (music_before laws.bend.music z es e) ∙ unison))
    where
      pick : (p a m u b w f : Bool) (x : Option (ℤ × ℤ)) (told : Kind → Kind × Option (ℤ × ℤ)) → p ≡ true → a ≡ false → m ≡ false
          → (b && not w) ≡ f → (b ≡ true → x ≡ cond w None (Some (q, moved)))
          → told Unison ≡ (Unison, None) → told BendTooFar ≡ (BendTooFar, x)
          → cond u (Some (Unison, None)) (cond f (Some (BendTooFar, Some (q, moved))) None)
          ≡ option_map told (cond (p && a) (Some UnmappedKey) (cond (p && m) (Some KeyOutOfDevice)
          (cond u (Some Unison) (cond (b && (p && is_some x)) (Some BendTooFar) None))))
      pick true false false true b w f x told hp ha hm far is one two = ap Some (sym one)
      pick true false false false false w f x told hp ha hm far is one two = ap (λ y. cond y (Some (BendTooFar, Some (q, moved))) None) (sym far)
      pick true false false false true w f x told hp ha hm far is one two = by_found w f x far (is refl) two
        where
          by_found : (w f : Bool) (x : Option (ℤ × ℤ)) → not w ≡ f → x ≡ cond w None (Some (q, moved)) → told BendTooFar ≡ (BendTooFar, x)
              → cond f (Some (BendTooFar, Some (q, moved))) None ≡ option_map told (cond (is_some x) (Some BendTooFar) None)
          by_found true f None g h i = ap (λ y. cond y (Some (BendTooFar, Some (q, moved))) None) (sym g)
          by_found true f (Some y) g h i = absurd cc
          by_found false f None g h i = absurd cc
          by_found false f (Some y) g h i = ap (λ y. cond y (Some (BendTooFar, Some (q, moved))) None) (sym g)
              ∙ (ap (λ y. Some (BendTooFar, y)) (sym h) ∙ ap Some (sym i))
      pick false a m u b w f x told hp ha hm far is one two = absurd cc
      pick true true m u b w f x told hp ha hm far is one two = absurd cc
      pick true false true u b w f x told hp ha hm far is one two = absurd cc

  -- a unison, by what the part lists
  pub unison_by : {ss : List Struck} {xs : List Sounding} {target : Aim} {found : Bool}
      → ss ≡ struck_in port c → xs ≡ listed_in port c → target ≡ AimAt j q
      → ((at : ℕ → Bool) → ListsSounding ss xs at
      → found ≡ any_key (λ i. at i && (not (nat_eq i k) && is_beside (entry_of k target) (entry_at ss i))) 128)
      → is_unison o table (music_on z es) e.tick (NoteOn c k (suc v)) ≡ found
  unison_by {ss} {xs} {target} {found} struck listed aim tells =
      let at : ℕ → Bool = sounds_on o z es c in
      unison_is laws.bend.fade laws.bend.one_note o table es (record port { number = z }) c k e.tick j q bent.bends bent.part next.stands bent.low
      (laws.bend.aimed o (is_part o) table es z (λ d h. h)
      (record { bends = bent.bends; in_order = order_front 0 es e next.order; faultless = next.faultless })).aimed
      bent.target v (all_front IsValidEvent es (e ∷ []) next.valid)
      ∙ (ap (λ t. any_key (λ i. at i && (not (nat_eq i k) && is_beside (entry_of k t) (entry_at (struck_in port c) i))) 128) (sym aim)
      ∙ (ap (λ ys. any_key (λ i. at i && (not (nat_eq i k) && is_beside (entry_of k target) (entry_at ys i))) 128) (sym struck)
      ∙ sym (tells at (subst (λ ys. ListsSounding ss ys at) (sym listed)
      (subst (λ ys. ListsSounding ys (listed_in port c) at) (sym struck) (next.stands.listed c bent.low))))))

  -- its channel's bend, by what the receiver hears
  pub moved_is : DrumsStandApart → {r : ℤ} → r ≡ bend_in_steps o.range (channel_at (after (heard_on o z es)).music c) → r ≡ moved
  moved_is apart own = own ∙ ap (bend_in_steps o.range) (heard_channel apart o z es c bent.part)

  -- the kind, by what the program has of the pair and of the bend
  pub far_told : {p r : ℤ} {b f : Bool} → is_unison o table (music_on z es) e.tick (NoteOn c k (suc v)) ≡ false → p ≡ q → r ≡ moved
      → b ≡ is_bend o.route → (b && not (is_within_bend (p +ℤ r))) ≡ f
      → cond f (Some (BendTooFar, Some (p, r))) None ≡ early_due o table es e z (NoteOn c k (suc v))
  far_told {p} {r} {b} {f} unison steps same route far =
      ap (λ a. cond f (Some (BendTooFar, Some (a, r))) None) steps ∙ (ap (λ a. cond f (Some (BendTooFar, Some (q, a))) None) same
      ∙ bent_due unison (sym (ap (λ d. d && not (is_within_bend (p +ℤ r))) route
      ∙ (ap (λ a. is_bend o.route && not (is_within_bend (a +ℤ r))) steps ∙ ap (λ a. is_bend o.route && not (is_within_bend (q +ℤ a))) same)) ∙ far))
