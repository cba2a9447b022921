-- The channel that the plan gives a note that sounds is that of its pair's run.
use Rattle.std.proofs.Common.{◌≡◌, ◌≤◌, ◌+◌, ◌++◌, ◌&&◌, ℕ, zero, suc, Bool, true, false, cond, List, [], ◌∷◌, Some, refl, sym, ap, ◌∙◌, subst, length, take, nat_eq, inl, inr, arith}
use Rattle.std.specs.List.{AllByRecursion}
use Rattle.std.proofs.lemmas.Bool.{cases_Bool, cases_eq, eq-eqb, ne_eqb, eqb-true, and_parts}
use Rattle.mt_base.specs.declared.event.Msg.TheVariants.{NoteOn, NoteOff, KeyPressure, Control, Program, Pressure, Bend}
use Rattle.mt_base.specs.declared.pair.Part.{Part as PartOf}
use Rattle.mt_base.specs.Midi.{MidiWhat, Says, SysexOf, MetaOf, MidiEvent}
use Rattle.midi_model.specs.Notes.{Note, sounds}
use Rattle.midi_model.specs.Music.{Music}
use Rattle.retune_model.specs.Table.{BendTarget}
use Rattle.retune_model.specs.Options.{Options, bends_notes}
use Rattle.retune_model.specs.Ports.{of_port, port_at, events_on}
use Rattle.retune_model.specs.PlaysTheSame.{begins_note, bend_target_if}
use Rattle.retune_model.specs.Faults.{Targets, is_part, target_of}
use Rattle.retune_model.specs.Pairs.{pair_if}
use Rattle.retune_model.specs.Rests.{begun_at, begun_pair}
use Rattle.retune_model.specs.PortNeed.{pairs_on}
use Rattle.channel_model.specs.MpeOutput.{Zone, zone_of}
use Rattle.channel_model.specs.BendOutput.{pair_with, runs_on}
use Rattle.channel_model.specs.Rows.{zones_on}
use Rattle.bend_laws.specs.Follows.{Has, IsAmong, SoundAmong}
use Rattle.bend_laws.proofs.Outputs.{source_played}
use Rattle.mpe_laws.specs.Sources.{IsMpe}
use Rattle.mpe_laws.proofs.Planning.{IsPlanned}
use Rattle.plan_laws.specs.Counting.{ComesAt}
use Rattle.receiver.specs.Sounding.{sounding_from, sounding_at}
use Rattle.lifetimes.specs.Told.{music_on, port_on, strikes_key, count_begun, number_of}
use Rattle.lifetimes.proofs.Appended.{events_same}
use Rattle.lifetimes.proofs.EventNext.{notes_of, sounds_as_before, struck_now}
use Rattle.lifetimes.proofs.Numbers.{number_next, count_next}
use Rattle.lifetimes.proofs.StruckSteps.{is_on}
use Rattle.lifetimes.proofs.Telling.{now_on}
use Rattle.channel_plan.specs.Planned.{unbent, note_ons, notes_to, Begins, GivesInZone}
use Rattle.channel_plan.specs.Told.{channel_in}
use Rattle.channel_plan.specs.declared.plan.Plan.{Plan}
use Rattle.mpe_route.specs.Planned.{planned_channel}
use Rattle.mpe_route.specs.Laws.{IsZonable}
use Rattle.mpe_route.proofs.Kit.{Kit, Next, next_at, music_is}
use Rattle.mpe_route.proofs.Source.{is_mpe, gives_in, in_zone_is, planned_there}
use Rattle.mpe_route.proofs.PlannedZones.{IsAt, zone_at}

-- ---- notes that were begun

pub counted : (o : Options) (es : List MidiEvent) → count_begun o es ≡ length (note_ons o es)
counted o [] = refl
counted o (e ∷ es) = pick (begins_note (is_part o) e.what) (counted o es)
  where
    pick : (b : Bool) → count_begun o es ≡ length (note_ons o es)
        → cond b 1 0 + count_begun o es ≡ length (cond b (e ∷ note_ons o es) (note_ons o es))
    pick true h = omega (arith, h)
    pick false h = omega (arith, h)

-- what holds of all notes holds of one that sounds
pub of_sounding : (P : Note → Type 0) (c k i : ℕ) (ns : List Note) (x : ℕ × Note) → AllByRecursion P ns → sounding_from i ns c k ≡ Some x → P x.1
of_sounding P c k i [] x h s = absurd cc
of_sounding P c k i (n ∷ ns) x h s = pick ((nat_eq n.channel c && nat_eq n.key k) && sounds n) s (of_sounding P c k (suc i) ns x h.1)
  where
    pick : (b : Bool) → cond b (Some (i, n)) (sounding_from (suc i) ns c k) ≡ Some x → (sounding_from (suc i) ns c k ≡ Some x → P x.1) → P x.1
    pick true g later = let same : (i, n) ≡ x = cc in subst (λ (y : ℕ × Note). P y.1) same h.0
    pick false g later = later g

-- an event that strikes a key is a note on of it
pub record IsStroke (c k : ℕ) (w : MidiWhat) : Type 0 where
  pub velocity : ℕ
  pub is : w ≡ Says (NoteOn c k (suc velocity))

pub stroke : (c k : ℕ) (w : MidiWhat) → strikes_key c k w ≡ true → IsStroke c k w
stroke c k (Says (NoteOn d j (suc v))) h =
    let p = and_parts (nat_eq d c) (nat_eq j k) h in
    record {
      velocity = v;
      is = ap (λ x. Says (NoteOn x j (suc v))) (eqb-true d c p.0) ∙ ap (λ x. Says (NoteOn c x (suc v))) (eqb-true j k p.1);
    }
stroke c k (Says (NoteOn d j zero)) h = absurd cc
stroke c k (Says (NoteOff d j v)) h = absurd cc
stroke c k (Says (KeyPressure d j v)) h = absurd cc
stroke c k (Says (Control d n v)) h = absurd cc
stroke c k (Says (Program d p)) h = absurd cc
stroke c k (Says (Pressure d v)) h = absurd cc
stroke c k (Says (Bend d v)) h = absurd cc
stroke c k (SysexOf lead bytes) h = absurd cc
stroke c k (MetaOf kind bytes) h = absurd cc

-- ---- a source

module _ (kit : Kit) (o : Options) (table : Targets) (es : List MidiEvent) (plan : Plan) (h : IsZonable o table es plan) where
  pub mpe : IsMpe o table es (zones_on o table es) (planned_channel o table es plan)
  mpe = is_mpe kit.serve o table es plan h

  pub ported : (z : ℕ) → IsPlanned o table (zones_on o table es z) (runs_on o table es (planned_channel o table es plan) z) (of_port z es) (length es)
  ported = planned_there kit.laws kit.facts o table es (zones_on o table es) (planned_channel o table es plan) mpe

  -- the pair of a note that sounds is there
  pub pair_there : (z k c j : ℕ) (x : ℕ × Note) (t : BendTarget) → k ≤ length es → is_part o c ≡ true
      → sounding_at (music_on z (take k es)).notes c j ≡ Some x → target_of o table x.1 ≡ Some t
      → Has (pairs_on o (is_part o) table es z k) (pair_with z c t)
  pair_there z k c j x t low part s aim =
      let ps = pairs_on o (is_part o) table es z k in
      let rising = (kit.facts.timed z es h.in_order).ascend in
      let on = is_on c j 1 (music_on z (take k es)).notes x s in
      let there : SoundAmong z o table ps (music_on z (take k es)).notes =
      subst (λ (m : Music). SoundAmong z o table ps m.notes) (source_played (of_port z es) rising k ∙ music_is kit es z k low)
      ((ported z).there k low) in
      let here = of_sounding (λ n. is_part o n.channel ≡ true → sounds n ≡ true → IsAmong z ps n.channel (target_of o table n)) c j 1
      (music_on z (take k es)).notes x there s in
      subst (λ d. Has ps (pair_with z d t)) on.channel
      (subst (IsAmong z ps x.1.channel) aim (here (ap (is_part o) on.channel ∙ part) on.sounds))

  -- the pair that a note on begins
  pub begun_there : (z k : ℕ) (e : MidiEvent) (c j v : ℕ) (t : BendTarget) → ComesAt es k e → port_on (take k es) e ≡ z
      → e.what ≡ Says (NoteOn c j (suc v)) → is_part o c ≡ true → bend_target_if o.range (table j e.tick) ≡ Some t
      → begun_at o (is_part o) table (port_at es z) (suc k) ≡ pair_with z c t ∷ []
  begun_there z k e c j v t comes at what part aim =
      kit.events.begun o (is_part o) table es z k e comes
      ∙ ap (λ b. cond b (begun_pair z o (is_part o) table e.tick e.what) []) (eq-eqb (port_on (take k es) e) z at)
      ∙ ap (begun_pair z o (is_part o) table e.tick) what
      ∙ ap (λ b. cond b (pair_if z c (bend_target_if o.range (table j e.tick)) []) []) part
      ∙ ap (λ x. pair_if z c x []) aim

  -- the channel of a note that begins
  pub channel_begun : (z k : ℕ) (e : MidiEvent) (c j v : ℕ) (t : BendTarget) (w : Zone) → ComesAt es k e → port_on (take k es) e ≡ z
      → e.what ≡ Says (NoteOn c j (suc v)) → is_part o c ≡ true → bend_target_if o.range (table j e.tick) ≡ Some t
      → zone_of c (zones_on o table es z) ≡ Some w
      → channel_in plan (suc (count_begun o (take k es))) ≡ Some (planned_channel o table es plan z (suc k) (pair_with z c t))
  channel_begun z k e c j v t w comes at what part aim of =
      let p = pair_with z c t in
      let i : IsAt (zones_on o table es z) c w = zone_at c (zones_on o table es z) w of in
      let gives : GivesInZone o table es plan z w = gives_in o table es plan h z i.place w i.is in
      let begins : Begins o table es z (suc k) p =
      ap (λ b. begun_at o (is_part o) (cond b table unbent) (port_at es z) (suc k)) (ap bends_notes h.route)
      ∙ begun_there z k e c j v t comes at what part aim in
      let number : suc (count_begun o (take k es)) ≡ notes_to o es (suc k) =
      ap suc (counted o (take k es)) ∙ sym (ap (λ b. length (note_ons o (take k es)) + length (cond b (e ∷ []) []))
      (ap (begins_note (is_part o)) what ∙ part) ∙ plus_one (length (note_ons o (take k es)))) ∙ sym (ones (kit.events.taken es k e comes).0) in
      ap (channel_in plan) number
      ∙ gives.given (suc k) p (sym i.part) begins
      ∙ ap Some (sym (in_zone_is o table es plan z (suc k) p w of))
    where
      plus_one : (n : ℕ) → n + 1 ≡ suc n
      plus_one n = omega arith

      more : (xs : List MidiEvent) (y : MidiEvent)
          → length (note_ons o (xs ++ y ∷ [])) ≡ length (note_ons o xs) + length (cond (begins_note (is_part o) y.what) (y ∷ []) [])
      more [] y = zero_and (length (cond (begins_note (is_part o) y.what) (y ∷ []) []))
        where
          zero_and : (n : ℕ) → n ≡ 0 + n
          zero_and n = omega arith
      more (x ∷ xs) y = pick (begins_note (is_part o) x.what) (more xs y)
        where
          pick : (b : Bool) → length (note_ons o (xs ++ y ∷ []))
              ≡ length (note_ons o xs) + length (cond (begins_note (is_part o) y.what) (y ∷ []) [])
              → length (cond b (x ∷ note_ons o (xs ++ y ∷ [])) (note_ons o (xs ++ y ∷ [])))
              ≡ length (cond b (x ∷ note_ons o xs) (note_ons o xs)) + length (cond (begins_note (is_part o) y.what) (y ∷ []) [])
          pick true g = omega (arith, g)
          pick false g = g

      ones : take (suc k) es ≡ take k es ++ e ∷ []
          → notes_to o es (suc k) ≡ length (note_ons o (take k es)) + length (cond (begins_note (is_part o) e.what) (e ∷ []) [])
      ones is = ap (λ xs. length (note_ons o xs)) is ∙ more (take k es) e

  abbrev HasChannel : ℕ → Type 0
  HasChannel k = (z c j : ℕ) (x : ℕ × Note) (t : BendTarget) (w : Zone) → is_part o c ≡ true
      → zone_of c (zones_on o table es z) ≡ Some w → sounding_at (music_on z (take k es)).notes c j ≡ Some x → target_of o table x.1 ≡ Some t
      → (let p : PartOf = record { port = z; channel = c } in
      channel_in plan (number_of o p j (take k es)) ≡ Some (planned_channel o table es plan z k (pair_with z c t)))

  -- it goes on to sound
  goes_on : (k : ℕ) → suc k ≤ length es → HasChannel k → (z c j : ℕ) (x y : ℕ × Note) (t : BendTarget) (w : Zone) → is_part o c ≡ true
      → zone_of c (zones_on o table es z) ≡ Some w → sounding_at (music_on z (take (suc k) es)).notes c j ≡ Some x
      → sounding_at (music_on z (take k es)).notes c j ≡ Some y → x.1.onset ≡ y.1.onset → target_of o table x.1 ≡ Some t
      → (let p : PartOf = record { port = z; channel = c } in number_of o p j (take (suc k) es) ≡ number_of o p j (take k es)
      → channel_in plan (number_of o p j (take (suc k) es)) ≡ Some (planned_channel o table es plan z (suc k) (pair_with z c t)))
  goes_on k low before z c j x y t w part of now was onset aim number =
      let on = is_on c j 1 (music_on z (take (suc k) es)).notes x now in
      let on_before = is_on c j 1 (music_on z (take k es)).notes y was in
      let same : target_of o table y.1 ≡ target_of o table x.1 =
      ap (λ i. bend_target_if o.range (table i y.1.onset)) (on_before.key ∙ sym on.key)
      ∙ ap (λ u. bend_target_if o.range (table x.1.key u)) (sym onset) in
      ap (channel_in plan) number ∙ before z c j y t w part of was (same ∙ aim)
      ∙ ap Some (sym ((ported z).kept k (pair_with z c t) (omega (arith, low))
      (pair_there z k c j y t (omega (arith, low)) part was (same ∙ aim))
      (pair_there z (suc k) c j x t low part now aim)))

  channel_next : (k : ℕ) → suc k ≤ length es → HasChannel k → HasChannel (suc k)
  channel_next k low before z c j x t w part of s aim = elim (cases_eq (port_on (take k es) n.event) z) [
    | inl at ↦ elim (cases_Bool (strikes_key c j n.event.what)) [
      | inl is ↦ struck at is
      | inr is ↦ (
          let b = sounds_as_before kit.age kit.one (events_on z (take k es)) n.event c j is x (here at) in
          goes_on k low before z c j x b.0 t w part of s b.1 b.2 aim
          (number false (ap (λ a. nat_eq (port_on (take k es) n.event) z && a) is ∙ none (nat_eq (port_on (take k es) n.event) z))))
    ]
    | inr other ↦ goes_on k low before z c j x x t w part of s
        (ap (λ l. sounding_at (notes_of l) c j) (sym (events_same z (take k es) n.event other)) ∙ now) refl aim
        (number false (ap (λ a. a && strikes_key c j n.event.what) (ne_eqb (port_on (take k es) n.event) z other)))
  ]
    where
      n : Next es k
      n = next_at es k (omega (arith, low))

      p : PartOf
      p = record { port = z; channel = c }

      grows : take (suc k) es ≡ take k es ++ n.event ∷ []
      grows = (kit.events.taken es k n.event n.comes).0

      number : (b : Bool) → (nat_eq (port_on (take k es) n.event) z && strikes_key c j n.event.what) ≡ b
          → number_of o p j (take (suc k) es) ≡ cond b (count_begun o (take k es ++ n.event ∷ [])) (number_of o p j (take k es))
      number b is = ap (number_of o p j) grows ∙ number_next o p j (take k es) n.event
          ∙ ap (λ a. cond a (count_begun o (take k es ++ n.event ∷ [])) (number_of o p j (take k es))) is

      now : sounding_at (music_on z (take k es ++ n.event ∷ [])).notes c j ≡ Some x
      now = ap (λ l. sounding_at (music_on z l).notes c j) (sym grows) ∙ s

      here : port_on (take k es) n.event ≡ z → sounding_at (notes_of (events_on z (take k es) ++ n.event ∷ [])) c j ≡ Some x
      here at = ap (λ ns. sounding_at ns c j) (now_on z (take k es) n.event at) ∙ now

      none : (b : Bool) → (b && false) ≡ false
      none true = refl
      none false = refl

      same_onset : (a b : ℕ × Note) → Some a ≡ Some b → a.1.onset ≡ b.1.onset
      same_onset a b e = let same : a ≡ b = cc in ap (λ (y : ℕ × Note). y.1.onset) same

      struck : port_on (take k es) n.event ≡ z → strikes_key c j n.event.what ≡ true
          → channel_in plan (number_of o p j (take (suc k) es)) ≡ Some (planned_channel o table es plan z (suc k) (pair_with z c t))
      struck at is =
          let st = stroke c j n.event.what is in
          let b = struck_now kit.age kit.one (events_on z (take k es)) n.event c j is in
          let onset : x.1.onset ≡ n.event.tick = same_onset x b.0 (sym (here at) ∙ b.1) ∙ b.2 in
          let key : x.1.key ≡ j = (is_on c j 1 (music_on z (take (suc k) es)).notes x s).key in
          let target : bend_target_if o.range (table j n.event.tick) ≡ Some t =
          sym (ap (λ i. bend_target_if o.range (table i x.1.onset)) key ∙ ap (λ u. bend_target_if o.range (table j u)) onset) ∙ aim in
          let count : count_begun o (take k es ++ n.event ∷ []) ≡ suc (count_begun o (take k es)) =
          count_next o (take k es) n.event
          ∙ ap (λ a. cond a 1 0 + count_begun o (take k es)) (ap (begins_note (is_part o)) st.is ∙ part) ∙ one_more (count_begun o (take k es)) in
          ap (channel_in plan) (number true (ap (λ a. a && strikes_key c j n.event.what) (eq-eqb (port_on (take k es) n.event) z at) ∙ is) ∙ count)
          ∙ channel_begun z k n.event c j st.velocity t w n.comes at st.is part target of
        where
          one_more : (m : ℕ) → 1 + m ≡ suc m
          one_more m = omega arith

  pub channels_at : (k : ℕ) → k ≤ length es → HasChannel k
  channels_at zero low = λ z c j x t w part of s aim. absurd (let no : ⊥ = cc in no)
  channels_at (suc k) low = channel_next k low (channels_at k (omega (arith, low)))
