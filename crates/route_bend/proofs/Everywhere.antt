-- What is kept of all ports, from one event to the next.
use Rattle.std.proofs.Common.{◌≡◌, ◌≢◌, ◌&&◌, ℕ, zero, suc, Bool, true, false, cond, List, [], ◌∷◌, Option, Some, None, set, take, refl, ap, sym, ◌∙◌, subst, inl, inr}
use Rattle.std.specs.Set.{is_member}
use Rattle.std.proofs.lemmas.Bool.{cases_eq, both_ways, eq-eqb, ne_eqb, or_left, and_parts}
use Rattle.mt_base.specs.declared.event.Msg.{Msg}
use Rattle.mt_base.specs.declared.event.Msg.TheVariants.{NoteOn, NoteOff, KeyPressure, Control, Program, Pressure, Bend}
use Rattle.mt_base.specs.Midi.{MidiWhat, Says, SysexOf, MetaOf, MidiEvent, channel_of}
use Rattle.midi_model.specs.Sysex.{doing}
use Rattle.midi_model.specs.Channel.{Role, Stored, EntryHigh, EntryLow, NrpnLow, NrpnHigh, RpnLow, RpnHigh, AllSoundOff, ResetControllers, AllNotesOff, Ignored, role}
use Rattle.midi_model.specs.Notes.{Note, is_down, is_at}
use Rattle.midi_model.specs.Music.{Music, channel_at, step}
use Rattle.retune_model.specs.Table.{BendTarget}
use Rattle.retune_model.specs.Options.{Options}
use Rattle.retune_model.specs.Faults.{Targets, is_part, target_of}
use Rattle.retune_model.specs.Pairs.{Pair, is_same_pair}
use Rattle.retune_model.specs.Ports.{Numbered, of_port, resets}
use Rattle.channel_model.specs.BendOutput.{PortRuns, pair_with, held_by, bring_all, controller_causes, pressed_note, note_released, off_at}
use Rattle.bend_laws.specs.Follows.{Has, IsAmong, SoundAmong, Begins}
use Rattle.bend_laws.specs.Moments.{Both, Moment, moment}
use Rattle.bend_laws.specs.Positions.{both_at}
use Rattle.bend_laws.proofs.Elsewhere.{drum_begins}
use Rattle.bend_laws.proofs.Equal.{pair_itself}
use Rattle.bend_laws.proofs.Lifting.{at_channel, sounds_down}
use Rattle.bend_laws.proofs.Stepping.{Quiet}
use Rattle.bend_laws.proofs.Still.{IsPassed, none_passed}
use Rattle.lifetimes.specs.Told.{port_on}
use Rattle.channel_plan.specs.declared.plan.Plan.{Plan}
use Rattle.route_bend.specs.Channels.{IsFresh}
use Rattle.route_bend.specs.Standing.{ChannelsStand, NoneStands, StandIf, IsAt, PortStands, AllStand, runs_by, used_by, found_in, caused, strikes}
use Rattle.route_bend.specs.Preparing.{IsFoundAt}
use Rattle.route_bend.specs.Turning.{IsTurn, IsWait, EventsTurn, OthersWait}
use Rattle.route_bend.specs.declared.channels.Channels.{Channels}
use Rattle.route_bend.proofs.Owning.{waited, none_waited, quiet, unmoved, none_unmoved, none_reset, opened, others_stay, none_stay}

-- ---- a port that waits, and one of which nothing is kept

wait_if : (o : Options) (table : Targets) (used : ℕ → Bool) (plan : PortRuns) (ns : List Numbered) (k : ℕ) → IsWait o table plan ns k →
    (x : Option Channels) →
    StandIf o table used plan ns k x → StandIf o table used plan ns (suc k) x
wait_if o table used plan ns k w (Some s) h = waited o table used plan ns k s w h
wait_if o table used plan ns k w None h = none_waited o table used plan ns k w h

no_pairs : (ps : List Pair) → ((p : Pair) → Has ps p → ⊥) → ps ≡ []
no_pairs [] h = refl
no_pairs (p ∷ ps) h = absurd (h p (or_left (is_same_pair p p) (is_member is_same_pair ps p) (pair_itself p)))

module _ (o : Options) (table : Targets) (used : ℕ → Bool) (plan : PortRuns) (ns : List Numbered) (k : ℕ) (e : MidiEvent)
    (t : IsTurn o table used plan ns k e) where
  abbrev pub b : Both
  b = both_at o table plan ns k

  abbrev pub w : Moment
  w = moment plan k

  abbrev pub after : Music
  after = step (both_at o table plan ns k).source e

  -- ---- an event that is no message of a part

  abbrev pub IsOther : Type 0
  IsOther = (m : Msg) → e.what ≡ Says m → is_part o (channel_of m) ≡ false

  nothing_begins : (x : MidiWhat) → ((m : Msg) → x ≡ Says m → is_part o (channel_of m) ≡ false) → (p : Pair) →
      Begins plan.number o table e.tick x p → ⊥
  nothing_begins (Says m) h p g = drum_begins plan.number o table e.tick m (h m refl) p g
  nothing_begins (SysexOf lead bytes) h p g = none_passed plan.number o table e.tick (SysexOf lead bytes) tt p g
  nothing_begins (MetaOf kind bytes) h p g = none_passed plan.number o table e.tick (MetaOf kind bytes) tt p g

  other_quiet : IsOther → Quiet w
  other_quiet h = quiet o table used plan ns k e t (nothing_begins e.what h)

  other_stay : IsOther → resets (doing e.what) ≡ false → (p : Pair) → Has w.holds p →
      channel_at after p.part.channel ≡ channel_at b.source p.part.channel
  other_stay h none p i = pick e.what refl
    where
      pick : (x : MidiWhat) → e.what ≡ x → channel_at after p.part.channel ≡ channel_at b.source p.part.channel
      pick (Says m) is = others_stay o table used plan ns k e t m is p.part.channel (λ s. both_ways (is_part o (channel_of m)) (h m is)
          (ap (is_part o) (sym s) ∙ t.sound.parts p (t.sound.was_there p i)))
      pick (SysexOf lead bytes) is = none_stay o table used plan ns k e t (subst IsPassed (sym is) tt) none p.part.channel
      pick (MetaOf kind bytes) is = none_stay o table used plan ns k e t (subst IsPassed (sym is) tt) none p.part.channel

  pub other_goes_on : IsOther → resets (doing e.what) ≡ false → (x : Option Channels) → StandIf o table used plan ns k x →
      StandIf o table used plan ns (suc k) x
  other_goes_on h none (Some s) stands = unmoved o table used plan ns k e t (other_quiet h) none (other_stay h none) s stands
  other_goes_on h none None stands = none_unmoved o table used plan ns k e t (other_quiet h) none stands

  pub reset_goes_on : resets (doing e.what) ≡ true → (s : Channels) → IsFresh s → s.port ≡ plan.number → ChannelsStand o table used plan ns (suc k) s
  reset_goes_on reset s fresh port = opened o table used plan ns (suc k) s t.row.channel (none_reset o table used plan ns k e t reset) fresh port

  pub none_resets : resets (doing e.what) ≡ true → NoneStands o table used plan ns (suc k)
  none_resets reset = none_reset o table used plan ns k e t reset

  -- ---- where nothing is kept, a message of a part that begins no note causes nothing

  none_held : NoneStands o table used plan ns k → w.holds ≡ []
  none_held h = no_pairs w.holds (λ p i. h.none p (t.sound.was_there p i))

  held_none : NoneStands o table used plan ns k → (c : ℕ) → held_by w.old c w.holds ≡ []
  held_none h c = ap (held_by w.old c) (none_held h)

  unaimed : NoneStands o table used plan ns k → (c : ℕ) (x : Option BendTarget) → IsAmong plan.number w.holds c x → x ≡ None
  unaimed h c None g = refl
  unaimed h c (Some y) g = absurd (h.none (pair_with plan.number c y) (t.sound.was_there (pair_with plan.number c y) g))

  none_down : NoneStands o table used plan ns k → (off : ℕ → ℕ → Msg) (c j : ℕ) → is_part o c ≡ true → (xs : List Note) →
      SoundAmong plan.number o table w.holds xs → note_released plan.number o table w.old off c (pressed_note c j xs) ≡ []
  none_down h off c j part [] g = refl
  none_down h off c j part (n ∷ xs) g = by_it (is_at c j n && is_down n) refl (none_down h off c j part xs g.1)
    where
      by_it : (r : Bool) → (is_at c j n && is_down n) ≡ r → note_released plan.number o table w.old off c (pressed_note c j xs) ≡ []
          → note_released plan.number o table w.old off c (cond r (Some n) (pressed_note c j xs)) ≡ []
      by_it false f rest = rest
      by_it true f rest =
          let both = and_parts (is_at c j n) (is_down n) f in
          let at : n.channel ≡ c = at_channel c j n both.0 in
          let there : IsAmong plan.number w.holds c (target_of o table n) = subst (λ d. IsAmong plan.number w.holds d (target_of o table n)) at
          (g.0 (ap (is_part o) at ∙ part) (sounds_down n both.1)) in
          ap (off_at plan.number w.old off c) (unaimed h c (target_of o table n) there)

  no_note : NoneStands o table used plan ns k → (off : ℕ → ℕ → Msg) (c j : ℕ) → is_part o c ≡ true →
      note_released plan.number o table w.old off c (pressed_note c j b.source.notes) ≡ []
  no_note h off c j part = none_down h off c j part b.source.notes t.sound.held

  controls_none : (n v : ℕ) (r : Role) → controller_causes o table after b.out [] n v r ≡ []
  controls_none n v Stored = refl
  controls_none n v EntryHigh = refl
  controls_none n v EntryLow = refl
  controls_none n v NrpnLow = refl
  controls_none n v NrpnHigh = refl
  controls_none n v RpnLow = refl
  controls_none n v RpnHigh = refl
  controls_none n v AllSoundOff = refl
  controls_none n v ResetControllers = refl
  controls_none n v AllNotesOff = refl
  controls_none n v Ignored = refl

  pub nothing_caused : NoneStands o table used plan ns k → (m : Msg) → is_part o (channel_of m) ≡ true → strikes m ≡ false →
      caused o table plan ns k e m ≡ []
  nothing_caused h (NoteOn c j zero) part calm = no_note h (λ d i. NoteOn d i 0) c j part
  nothing_caused h (NoteOn c j (suc v)) part calm = absurd cc
  nothing_caused h (NoteOff c j v) part calm = no_note h (λ d i. NoteOff d i v) c j part
  nothing_caused h (KeyPressure c j v) part calm = ap (bring_all o table after b.out) (held_none h c)
  nothing_caused h (Control c n v) part calm = ap (λ hs. controller_causes o table after b.out hs n v (role n)) (held_none h c)
      ∙ controls_none n v (role n)
  nothing_caused h (Program c x) part calm = ap (bring_all o table after b.out) (held_none h c)
  nothing_caused h (Pressure c v) part calm = ap (bring_all o table after b.out) (held_none h c)
  nothing_caused h (Bend c v) part calm = ap (bring_all o table after b.out) (held_none h c)

  message_quiet : (m : Msg) → strikes m ≡ false → (p : Pair) → Begins plan.number o table e.tick (Says m) p → ⊥
  message_quiet (NoteOn c j zero) calm p g = g
  message_quiet (NoteOn c j (suc v)) calm p g = absurd cc
  message_quiet (NoteOff c j v) calm p g = g
  message_quiet (KeyPressure c j v) calm p g = g
  message_quiet (Control c n v) calm p g = g
  message_quiet (Program c x) calm p g = g
  message_quiet (Pressure c v) calm p g = g
  message_quiet (Bend c v) calm p g = g

  pub says_quiet : (m : Msg) → e.what ≡ Says m → strikes m ≡ false → Quiet w
  says_quiet m is calm = quiet o table used plan ns k e t (λ p g. message_quiet m calm p (subst (λ x. Begins plan.number o table e.tick x p) is g))

  pub none_goes_on : NoneStands o table used plan ns k → (m : Msg) → e.what ≡ Says m → strikes m ≡ false → NoneStands o table used plan ns (suc k)
  none_goes_on h m is calm = none_unmoved o table used plan ns k e t (says_quiet m is calm) (ap (λ x. resets (doing x)) is) h

-- ---- all ports

module _ (turn : EventsTurn) (wait : OthersWait) (o : Options) (allowed : ℕ → Bool) (table : Targets) (es : List MidiEvent) (plan : Plan) (k : ℕ)
    (e : MidiEvent) (at : IsAt o allowed table es plan k e (port_on (take k es) e)) where
  abbrev pub z : ℕ
  z = port_on (take k es) e

  pub here : IsTurn o table (used_by o allowed table es z) (runs_by o allowed table es plan z) (of_port z es) k e
  here = turn o allowed table es plan k e z at

  -- the event's port alone changes
  pub each_port : (old new : List Channels) → AllStand o allowed table es plan k old → ((y : ℕ) → y ≢ z → found_in new y ≡ found_in old y) →
      StandIf o table (used_by o allowed table es z) (runs_by o allowed table es plan z) (of_port z es) (suc k) (found_in new z) →
      AllStand o allowed table es plan (suc k) new
  each_port old new stands others own y = elim (cases_eq y z) [
    | inl i ↦ subst (λ x. StandIf o table (used_by o allowed table es x) (runs_by o allowed table es plan x) (of_port x es) (suc k) (found_in new x))
        (sym i) own
    | inr i ↦ subst (StandIf o table (used_by o allowed table es y) (runs_by o allowed table es plan y) (of_port y es) (suc k)) (sym (others y i))
        (wait_if o table (used_by o allowed table es y) (runs_by o allowed table es plan y) (of_port y es) k
        (wait o allowed table es plan k e z y at i)
        (found_in old y) (stands y))
  ]

  pub all_others : IsOther o table (used_by o allowed table es z) (runs_by o allowed table es plan z) (of_port z es) k e here →
      resets (doing e.what) ≡ false → (ports : List Channels) → AllStand o allowed table es plan k ports →
      AllStand o allowed table es plan (suc k) ports
  all_others h none ports stands = each_port ports ports stands (λ y i. refl) (other_goes_on o table (used_by o allowed table es z)
      (runs_by o allowed table es plan z) (of_port z es) k e here h none (found_in ports z) (stands z))

  -- where nothing is kept of the port
  pub all_none : (ports : List Channels) → AllStand o allowed table es plan k ports → found_in ports z ≡ None →
      NoneStands o table (used_by o allowed table es z) (runs_by o allowed table es plan z) (of_port z es) k
  all_none ports stands none = subst (StandIf o table (used_by o allowed table es z) (runs_by o allowed table es plan z) (of_port z es) k) none
      (stands z)

  pub all_some : (ports : List Channels) (s : Channels) → AllStand o allowed table es plan k ports → found_in ports z ≡ Some s →
      PortStands o allowed table es plan z k s
  all_some ports s stands some = subst (StandIf o table (used_by o allowed table es z) (runs_by o allowed table es plan z) (of_port z es) k) some
      (stands z)

  pub none_after : (ports : List Channels) → AllStand o allowed table es plan k ports → found_in ports z ≡ None →
      NoneStands o table (used_by o allowed table es z) (runs_by o allowed table es plan z) (of_port z es) (suc k) →
      AllStand o allowed table es plan (suc k) ports
  none_after ports stands none own = each_port ports ports stands (λ y i. refl) (subst (StandIf o table (used_by o allowed table es z)
      (runs_by o allowed table es plan z) (of_port z es) (suc k)) (sym none) own)

  -- where the port's channels are replaced
  pub all_replaced : (ports : List Channels) (i : ℕ) (s : Channels) → AllStand o allowed table es plan k ports → IsFoundAt ports z i → s.port ≡ z →
      PortStands o allowed table es plan z (suc k) s → AllStand o allowed table es plan (suc k) (set ports i s)
  all_replaced ports i s stands found port own =
      each_port ports (set ports i s) stands (λ y j. found.replaced s y port
      ∙ ap (λ r. cond r (Some s) (found_in ports y)) (ne_eqb z y (λ f. j (sym f))))
      (subst (StandIf o table (used_by o allowed table es z) (runs_by o allowed table es plan z) (of_port z es) (suc k))
      (sym (found.replaced s z port ∙ ap (λ r. cond r (Some s) (found_in ports z)) (eq-eqb z z refl))) own)

-- at one position
pub replaced_now : (o : Options) (allowed : ℕ → Bool) (table : Targets) (es : List MidiEvent) (plan : Plan) (k z i : ℕ) (ports : List Channels)
    (s : Channels) →
    AllStand o allowed table es plan k ports → IsFoundAt ports z i → s.port ≡ z → PortStands o allowed table es plan z k s →
    AllStand o allowed table es plan k (set ports i s)
replaced_now o allowed table es plan k z i ports s stands found port own y = elim (cases_eq z y) [
  | inl j ↦ subst (StandIf o table (used_by o allowed table es y) (runs_by o allowed table es plan y) (of_port y es) k)
      (sym (found.replaced s y port ∙ ap (λ r. cond r (Some s) (found_in ports y)) (eq-eqb z y j)))
      (subst (λ x. PortStands o allowed table es plan x k s) j own)
  | inr j ↦ subst (StandIf o table (used_by o allowed table es y) (runs_by o allowed table es plan y) (of_port y es) k)
      (sym (found.replaced s y port ∙ ap (λ r. cond r (Some s) (found_in ports y)) (ne_eqb z y j))) (stands y)
]
