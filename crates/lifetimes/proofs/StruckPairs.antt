-- The pairs of a part behind a note on: those from before it that still hold, and its own. So its own alone can go too far.
use Rattle.std.proofs.Common.{◌≡◌, ◌<◌, ◌⊎◌, ◌+◌, ◌∙◌, ℕ, suc, ℤ, pos, ◌+ℤ◌, List, [], ◌∷◌, ◌++◌, Bool, true, false, cond, ◌&&◌, ◌||◌, nat_eq, Option, Some, None, is_some, length, refl, sym, ap, subst, arith, inl, inr}
use Rattle.std.specs.List.{filter}
use Rattle.std.specs.Set.{is_member}
use Rattle.std.proofs.lemmas.Bool.{both_ways, or_cases, or_left, or_right, and_parts, eq-eqb, ne_eqb}
use Rattle.std.proofs.lemmas.List.{get_or-set_same}
use Rattle.mt_base.specs.declared.event.Msg.TheVariants.{NoteOn}
use Rattle.mt_base.specs.Midi.{MidiEvent, Says}
use Rattle.midi_model.specs.Channel.{default_channel}
use Rattle.midi_model.specs.Notes.{Note, sounds, is_at}
use Rattle.midi_model.specs.Music.{Music, channel_at, step}
use Rattle.midi_model.specs.MusicLaws.{EventsSettle, NotesAge}
use Rattle.retune_model.specs.Options.{Options, bends_notes}
use Rattle.retune_model.specs.Source.{bend_in_steps}
use Rattle.retune_model.specs.PlaysTheSame.{bend_target_if}
use Rattle.retune_model.specs.Ports.{Numbered, port_of, ports_from, ports_after, all_zero, with_event, of_port_from, of_port, events_on, unnumbered, event_at, music_at, port_at}
use Rattle.retune_model.specs.Faults.{Targets, is_part, is_bend, is_within_bend, int_eq, any_note}
use Rattle.retune_model.specs.Pairs.{Pair, is_same_pair, pair_if}
use Rattle.retune_model.specs.Rests.{pairs_at, begun_pair, begun_pairs, steps_of, is_aimed, IsAimedPort}
use Rattle.retune_model.specs.RestLaws.{HeldWasThere, HeldOrBegun}
use Rattle.retune_model.specs.SourceFaults.{first_beyond}
use Rattle.receiver.specs.Sounding.{sounding_from}
use Rattle.lifetimes.specs.Told.{port_on, music_on, strikes_key, steps_in, is_of_pair, pair_sounds}
use Rattle.lifetimes.specs.Stands.{pair_on}
use Rattle.lifetimes.specs.Within.{BendLaws, PairsAreWithin}
use Rattle.lifetimes.specs.Due.{IsNext}
use Rattle.lifetimes.specs.declared.port.Port.{Port}
use Rattle.lifetimes.proofs.AnyNote.{joined}
use Rattle.lifetimes.proofs.Kept.{int_eq_tells, same_int}
use Rattle.lifetimes.proofs.Appended.{events_next, music_there, longer}
use Rattle.lifetimes.proofs.EventNext.{notes_of, struck_now}
use Rattle.lifetimes.proofs.StruckSteps.{is_on}
use Rattle.lifetimes.proofs.Beyond.{Has}
use Rattle.lifetimes.proofs.BendNow.{order_front, aimed_next}
use Rattle.lifetimes.proofs.Prefix.{pairs_more}
use Rattle.lifetimes.proofs.PairsTold.{holds_or_rests}
use Rattle.lifetimes.proofs.PairSets.{held_tells}
use Rattle.lifetimes.proofs.LeftAlone.{music_after}
use Rattle.lifetimes.proofs.Turned.{settled_on}

-- the event at the last position
last_event_from : (z : ℕ) (ports : ℕ → ℕ) (k : ℕ) (es : List MidiEvent) (e : MidiEvent) (j : ℕ) → j ≡ suc (length es + k)
    → event_at (of_port_from z ports k (es ++ e ∷ [])) j ≡ cond (nat_eq (port_of (ports_from ports es) e) z) (e ∷ []) []
last_event_from z ports k [] e j is = pick (nat_eq (port_of ports e) z) (eq-eqb (suc k) j (omega (arith, is)))
  where
    pick : (b : Bool) → nat_eq (suc k) j ≡ true → event_at (with_event b (record { position = suc k; event = e }) []) j ≡ cond b (e ∷ []) []
    pick true h = ap (λ d. unnumbered (cond d (record { position = suc k; event = e } ∷ []) [])) h
    pick false h = refl
last_event_from z ports k (x ∷ es) e j is = pick (nat_eq (port_of ports x) z) (ne_eqb (suc k) j (λ s. omega (arith, is, s)))
    (last_event_from z (ports_after ports x) (suc k) es e j (omega (arith, is)))
  where
    pick : (b : Bool) → nat_eq (suc k) j ≡ false
        → event_at (of_port_from z (ports_after ports x) (suc k) (es ++ e ∷ [])) j
        ≡ cond (nat_eq (port_of (ports_from (ports_after ports x) es) e) z) (e ∷ []) []
        → event_at (with_event b (record { position = suc k; event = x }) (of_port_from z (ports_after ports x) (suc k) (es ++ e ∷ []))) j
        ≡ cond (nat_eq (port_of (ports_from (ports_after ports x) es) e) z) (e ∷ []) []
    pick true g h = ap (λ c. unnumbered (cond c (record { position = suc k; event = x } ∷ later) later)) g ∙ h
      where
        later : List Numbered
        later = filter (λ n. nat_eq n.position j) (of_port_from z (ports_after ports x) (suc k) (es ++ e ∷ []))
    pick false g h = h

last_event : (z : ℕ) (es : List MidiEvent) (e : MidiEvent) → port_on es e ≡ z → event_at (of_port z (es ++ e ∷ [])) (suc (length es)) ≡ e ∷ []
last_event z es e here = last_event_from z all_zero 0 es e (suc (length es)) (omega arith)
    ∙ ap (λ b. cond b (e ∷ []) []) (eq-eqb (port_on es e) z here)

-- some note is the one that sounds on a key
any_there : (f : Note → Bool) (c k i : ℕ) (ns : List Note) (x : ℕ × Note) → sounding_from i ns c k ≡ Some x → f x.1 ≡ true → any_note f ns ≡ true
any_there f c k i [] x e h = absurd cc
any_there f c k i (n ∷ ns) x e h = pick (is_at c k n && sounds n) e (λ g. any_there f c k (suc i) ns x g h)
  where
    pick : (b : Bool) → cond b (Some (i, n)) (sounding_from (suc i) ns c k) ≡ Some x
        → (sounding_from (suc i) ns c k ≡ Some x → any_note f ns ≡ true) → (f n || any_note f ns) ≡ true
    pick true g later = or_left (f n) (any_note f ns) ((let same : n ≡ x.1 = cc in ap f same) ∙ h)
    pick false g later = or_right (f n) (any_note f ns) (later g)

-- a note on that is bent
pub record IsBent (o : Options) (table : Targets) (e : MidiEvent) (c k v j : ℕ) (q : ℤ) : Type 0 where
  pub what : e.what ≡ Says (NoteOn c k (suc v))
  pub low : c < 16
  pub part : is_part o c ≡ true
  pub bends : bends_notes o.route ≡ true
  pub target : bend_target_if o.range (table k e.tick) ≡ Some (record { key = j; steps = q })

-- the laws that this stands on
pub record Laws : Type 0 where
  pub settle : EventsSettle
  pub age : NotesAge
  pub was_there : HeldWasThere
  pub next : HeldOrBegun
  pub within : PairsAreWithin
  pub bend : BendLaws

pub laws_of : EventsSettle → NotesAge → HeldWasThere → HeldOrBegun → PairsAreWithin → BendLaws → Laws
laws_of settle age was_there next within bend =
    record { settle = settle; age = age; was_there = was_there; next = next; within = within; bend = bend }

-- the steps of a channel's bend before the note on, and the pairs behind it
abbrev pub moved_now : Options → ℕ → List MidiEvent → ℕ → ℤ
moved_now o z es c = bend_in_steps o.range (channel_at (music_on z es) c)

abbrev pub pairs_then : Options → Targets → List MidiEvent → MidiEvent → ℕ → List Pair
pairs_then o table es e z = pairs_at o (is_part o) table (port_at (es ++ e ∷ []) z) (suc (length es))

module _ (laws : Laws) {o : Options} {table : Targets} {es : List MidiEvent} {e : MidiEvent} {z : ℕ} {port : Port} {c k v j : ℕ} {q : ℤ}
    (next : IsNext o table es e z port) (bent : IsBent o table e c k v j q) where
  abbrev all : List MidiEvent
  all = es ++ e ∷ []

  abbrev own : Pair
  own = pair_on z c q

  abbrev pairs : List Pair
  pairs = pairs_then o table es e z

  abbrev moved : ℤ
  moved = moved_now o z es c

  -- the note on leaves its channel's bend
  pub channel_kept : channel_at (music_at (of_port z all) (suc (length es))) c ≡ channel_at (music_on z es) c
  channel_kept =
      let m : Music = music_on z es in
      let long = (settled_on laws.settle z es).channels in
      let low = bent.low in
      ap (λ n. channel_at n c) (music_after laws.bend.music z es e next.here)
      ∙ (ap (λ w. channel_at (step m (record e { what = w })) c) bent.what
      ∙ get_or-set_same m.channels c (channel_at m c) default_channel (omega (arith, low, long)))

  -- all note ons up to it have targets
  aimed_now : IsAimedPort o (is_part o) table (port_at all z)
  aimed_now = aimed_next laws.bend.aimed laws.bend.timed o table es e z bent.bends next.order next.faultless
      (ap (is_aimed o (is_part o) table e.tick) bent.what
      ∙ (ap (λ b. cond b (is_some (bend_target_if o.range (table k e.tick))) true) bent.part ∙ ap is_some bent.target))

  -- what it begins
  begun_own : begun_pair z o (is_part o) table e.tick e.what ≡ own ∷ []
  begun_own = ap (begun_pair z o (is_part o) table e.tick) bent.what
      ∙ (ap (λ b. cond b (pair_if z c (bend_target_if o.range (table k e.tick)) []) []) bent.part ∙ ap (λ t. pair_if z c t []) bent.target)

  -- a pair behind it was there before it, or has its steps
  came_now : (p : Pair) → Has pairs p → Has (pairs_at o (is_part o) table (port_at es z) (length es)) p ⊎ (p.steps ≡ q)
  came_now p h = elim (laws.next o (is_part o) table (port_at all z) aimed_now (length es) p h) [
    | inl g ↦ inl (subst (λ (ps : List Pair). Has ps p) (pairs_more o (is_part o) table z (length es) es e (omega arith))
        (laws.was_there o (is_part o) table (port_at all z) aimed_now (length es) p g))
    | inr g ↦ inr (elim (or_cases (is_same_pair p own) false
        (subst (λ (ps : List Pair). Has ps p) (ap (begun_pairs z o (is_part o) table) (last_event z es e next.here) ∙ begun_own) g)) [
          | inl f ↦ int_eq_tells p.steps q (and_parts _ _ f).1
          | inr f ↦ absurd cc
        ])
  ]

  -- its own pair is there
  own_sounds : pair_sounds o table all own ≡ true
  own_sounds =
      let struck = struck_now laws.age laws.bend.one_note (events_on z es) e c k
      (ap (strikes_key c k) bent.what ∙ joined (nat_eq c c) (nat_eq k k) (eq-eqb c c refl) (eq-eqb k k refl)) in
      let x = struck.0 in
      let on = is_on c k 1 (notes_of (events_on z es ++ e ∷ [])) x struck.1 in
      let is : Note → Bool = λ n. (is_part o n.channel && sounds n) && is_of_pair o table own n in
      let steps : steps_in o table x.1 ≡ q =
      ap (λ b. cond b (steps_of (bend_target_if o.range (table x.1.key x.1.onset))) (pos 0)) bent.bends
      ∙ (ap (λ a. steps_of (bend_target_if o.range (table a x.1.onset))) on.key
      ∙ (ap (λ t. steps_of (bend_target_if o.range (table k t))) struck.2 ∙ ap steps_of bent.target)) in
      ap (λ l. any_note is (notes_of l)) (events_next z es e next.here)
      ∙ any_there is c k 1 (notes_of (events_on z es ++ e ∷ [])) x struck.1
      (joined (is_part o x.1.channel && sounds x.1) (is_of_pair o table own x.1)
      (joined (is_part o x.1.channel) (sounds x.1) (ap (is_part o) on.channel ∙ bent.part) on.sounds)
      (joined (nat_eq x.1.channel c) (int_eq (steps_in o table x.1) q) (eq-eqb x.1.channel c on.channel)
      (ap (λ s. int_eq s q) steps ∙ same_int q)))

  own_there : Has pairs own
  own_there =
      ap (λ n. is_member is_same_pair (pairs_at o (is_part o) table (port_at all z) n) own) (sym (longer es e))
      ∙ (sym (held_tells laws.bend.pairs o table all z c q bent.bends aimed_now)
      ∙ (holds_or_rests laws.bend.music laws.bend.timed laws.bend.holds o table all own next.order
      ∙ or_left (pair_sounds o table all own) _ own_sounds))

  -- those from before are within the bend
  within_before : is_bend o.route ≡ true → (p : Pair) → Has (pairs_at o (is_part o) table (port_at es z) (length es)) p
      → p.part ≡ record { port = z; channel = c } → is_within_bend (p.steps +ℤ moved) ≡ true
  within_before bend p h is =
      ap (λ m. is_within_bend (p.steps +ℤ bend_in_steps o.range (channel_at m c))) (sym (music_there laws.bend.music z es))
      ∙ laws.within o table es z c bend bent.part (order_front 0 es e next.order) next.faultless (length es) (omega arith) p h is

  -- so the first that goes too far is its own, or there is none
  pub own_beyond : is_bend o.route ≡ true
      → first_beyond (record { port = z; channel = c }) moved pairs ≡ cond (is_within_bend (q +ℤ moved)) None (Some (q, moved))
  own_beyond bend = pick (first_beyond (record { port = z; channel = c }) moved pairs) (is_within_bend (q +ℤ moved)) refl refl
    where
      pick : (x : Option (ℤ × ℤ)) (w : Bool) → first_beyond (record { port = z; channel = c }) moved pairs ≡ x
          → is_within_bend (q +ℤ moved) ≡ w
          → first_beyond (record { port = z; channel = c }) moved pairs ≡ cond w None (Some (q, moved))
      pick None true is far = is
      pick None false is far = absurd (both_ways (is_within_bend (q +ℤ moved)) far
          (laws.bend.none o (is_part o) table (port_at all z) (suc (length es)) (record { port = z; channel = c }) moved is own own_there refl))
      pick (Some y) w is far =
          let kept = laws.bend.some o (is_part o) table (port_at all z) (suc (length es)) (record { port = z; channel = c }) moved y.0 y.1 is in
          elim (came_now (pair_on z c y.0) kept.1.there) [
            | inl g ↦ absurd (both_ways (is_within_bend (y.0 +ℤ moved)) kept.1.beyond (within_before bend (pair_on z c y.0) g refl))
            | inr g ↦ is ∙ (ap (λ a. Some (a, y.1)) g ∙ (ap (λ a. Some (q, a)) kept.0
                ∙ ap (λ b. cond b None (Some (q, moved))) (sym (ap (λ a. is_within_bend (a +ℤ moved)) (sym g) ∙ kept.1.beyond) ∙ far)))
          ]
