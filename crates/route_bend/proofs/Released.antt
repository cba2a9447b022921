-- A key of a part goes up: where its note off is sent.
use Rattle.std.proofs.Common.{◌≡◌, ◌≢◌, ◌<◌, ◌≤◌, ◌++◌, ℕ, ℤ, Bool, true, false, List, [], ◌∷◌, Option, Some, None, ap, sym, ◌∙◌, subst}
use Rattle.std.specs.List.{AllByRecursion}
use Rattle.std.proofs.lemmas.Bool.{and_from}
use Rattle.std.proofs.lemmas.List.{append-nil}
use Rattle.mt_base.specs.declared.event.Msg.{Msg}
use Rattle.mt_base.specs.Midi.{MidiEvent}
use Rattle.midi_model.specs.Notes.{Note, sounds, sounding_on}
use Rattle.midi_model.specs.Music.{Music}
use Rattle.retune_model.specs.Table.{BendTarget}
use Rattle.retune_model.specs.Options.{Options, bends_notes}
use Rattle.retune_model.specs.Faults.{Targets, is_part, int_eq, target_of}
use Rattle.retune_model.specs.Pairs.{Pair}
use Rattle.retune_model.specs.Ports.{Numbered}
use Rattle.retune_model.specs.Rests.{steps_of}
use Rattle.channel_model.specs.BendOutput.{PortRuns, pair_with, pressed_note, note_released}
use Rattle.bend_laws.specs.Follows.{Has, IsAmong}
use Rattle.bend_laws.specs.Moments.{Moment, moment}
use Rattle.bend_laws.specs.Positions.{both_at}
use Rattle.bend_laws.proofs.Equal.{int_itself}
use Rattle.bend_laws.proofs.Lifting.{at_channel}
use Rattle.key_pitch.specs.declared.aim.Aim.TheVariants.{Bend as AimAt}
use Rattle.lifetimes.specs.Told.{music_on, sounding_on as told_on}
use Rattle.lifetimes.specs.declared.change.Begun.{Begun}
use Rattle.route_bend.specs.Channels.{is_given, is_on, steps_in}
use Rattle.route_bend.specs.Standing.{ChannelsStand}
use Rattle.route_bend.specs.Turning.{IsTurn}
use Rattle.route_bend.specs.declared.channels.Channels.{Channels}
use Rattle.route_bend.proofs.Speaking.{on_given, on_steps}
use Rattle.route_bend.proofs.Pressed.{note_part, none_told, up_told, IsDown, down_told, aim_told, aim_none, nothing_released, unaimed_released, aimed_released}

pub nothing_sent : (old ms : List Msg) → ms ≡ [] → old ≡ old ++ ms
nothing_sent old ms h = sym (append-nil old) ∙ ap (λ l. old ++ l) (sym h)

pub one_sent : (old new ms : List Msg) (m : Msg) → new ≡ old ++ m ∷ [] → ms ≡ m ∷ [] → new ≡ old ++ ms
one_sent old new ms m put h = put ∙ ap (λ l. old ++ l) (sym h)

module _ (o : Options) (table : Targets) (used : ℕ → Bool) (plan : PortRuns) (ns : List Numbered) (k : ℕ) (e : MidiEvent)
    (t : IsTurn o table used plan ns k e) (s : Channels) (stands : ChannelsStand o table used plan ns k s) (es : List MidiEvent) (c key : ℕ)
    (bends : bends_notes o.route ≡ true) (part : is_part o c ≡ true) (one : sounding_on c key (music_on plan.number es).notes ≤ 1)
    (music : music_on plan.number es ≡ (both_at o table plan ns k).source) (off : ℕ → ℕ → Msg) where
  abbrev pub w : Moment
  w = moment plan k

  -- what is sent for the key
  abbrev pub sent_off : List Msg
  sent_off = note_released plan.number o table (plan.channel k) off c (pressed_note c key (both_at o table plan ns k).source.notes)

  abbrev pub told : Option (Begun × Bool)
  told = told_on o table es (note_part o table es plan.number c key bends part one) key

  pressed_here : (x : Option Note) → pressed_note c key (music_on plan.number es).notes ≡ x →
      pressed_note c key (both_at o table plan ns k).source.notes ≡ x
  pressed_here x h = ap (λ (m : Music). pressed_note c key m.notes) (sym music) ∙ h

  pub none_off : told ≡ None → sent_off ≡ []
  none_off h = nothing_released plan.number o table (plan.channel k) off c (pressed_note c key (both_at o table plan ns k).source.notes)
      (pressed_here None (none_told o table es plan.number c key bends part one h))

  pub up_off : (b : Begun) → told ≡ Some (b, false) → sent_off ≡ []
  up_off b h = nothing_released plan.number o table (plan.channel k) off c (pressed_note c key (both_at o table plan ns k).source.notes)
      (pressed_here None (up_told o table es plan.number c key bends part one b h))

  among : Note → Type 0
  among n = is_part o n.channel ≡ true → sounds n ≡ true → IsAmong plan.number w.holds n.channel (target_of o table n)

  down : (b : Begun) → told ≡ Some (b, true) → IsDown o table es plan.number c key bends part one among b
  unfolding among
  down b h = down_told o table es plan.number c key bends part one among
      (subst (λ (m : Music). AllByRecursion (λ n. is_part o n.channel ≡ true → sounds n ≡ true → IsAmong plan.number w.holds n.channel
      (target_of o table n)) m.notes) (sym music) t.sound.held) b h

  pub unaimed_off : (b : Begun) → told ≡ Some (b, true) → ((j : ℕ) (q : ℤ) → b.target ≡ AimAt j q → ⊥) → sent_off ≡ []
  unaimed_off b h none =
      let d : IsDown o table es plan.number c key bends part one among b = down b h in
      unaimed_released plan.number o table (plan.channel k) off c (pressed_note c key (both_at o table plan ns k).source.notes) d.note
      (pressed_here (Some d.note) d.pressed) (aim_none o.range (table d.note.key d.note.onset) (λ j q g. none j q (d.target ∙ g)))

  aim_is : (b : Begun) (d : IsDown o table es plan.number c key bends part one among b) (j : ℕ) (q : ℤ) → b.target ≡ AimAt j q →
      target_of o table d.note ≡ Some (record { key = j; steps = q })
  aim_is b d j q h = aim_told o.range (table d.note.key d.note.onset) j q (sym d.target ∙ h)

  -- the pair of the note, and its steps
  pair_there : (b : Begun) (d : IsDown o table es plan.number c key bends part one among b) (j : ℕ) (q : ℤ) → b.target ≡ AimAt j q →
      Has w.was (pair_with plan.number c (record { key = j; steps = q }))
  unfolding among
  pair_there b d j q h =
      let here : d.note.channel ≡ c = at_channel c key d.note d.found.at in
      t.sound.was_there (pair_with plan.number c (record { key = j; steps = q }))
      (subst (λ x. IsAmong plan.number w.holds x (Some (record { key = j; steps = q }))) here
      (subst (IsAmong plan.number w.holds d.note.channel) (aim_is b d j q h) (d.found.holds (ap (is_part o) here ∙ part) d.found.sounds)))

  steps_are : (b : Begun) (d : IsDown o table es plan.number c key bends part one among b) (j : ℕ) (q : ℤ) → b.target ≡ AimAt j q → b.pair.steps ≡ q
  steps_are b d j q h = d.steps ∙ ap steps_of (aim_is b d j q h)

  pub aimed_off : (b : Begun) → told ≡ Some (b, true) → (j : ℕ) (q : ℤ) → b.target ≡ AimAt j q → (x : ℕ) → x < 16 → is_given s c x ≡ true →
      steps_in s x ≡ b.pair.steps → sent_off ≡ off x j ∷ []
  aimed_off b h j q aim x low given steps =
      let d : IsDown o table es plan.number c key bends part one among b = down b h in
      let y : BendTarget = record { key = j; steps = q } in
      let p : Pair = pair_with plan.number c y in
      let was : Has w.was p = pair_there b d j q aim in
      let on : is_on s p x ≡ true = and_from (is_given s c x) (int_eq (steps_in s x) q) given
      (ap (λ i. int_eq i q) (steps ∙ steps_are b d j q aim) ∙ int_itself q) in
      let same : plan.channel k p ≡ x = stands.once p (plan.channel k p) x (t.row.channel (plan.channel k p) (t.sound.used_was p was)) low
      (stands.on p was) on in
      aimed_released plan.number o table (plan.channel k) off c (pressed_note c key (both_at o table plan ns k).source.notes) d.note y
      (pressed_here (Some d.note) d.pressed) (aim_is b d j q aim) ∙ ap (λ n. off n j ∷ []) same

  pub never_lost : (b : Begun) → told ≡ Some (b, true) → (j : ℕ) (q : ℤ) → b.target ≡ AimAt j q → ((x : ℕ) → x < 16 → is_given s c x ≡ true →
      steps_in s x ≢ b.pair.steps) → ⊥
  never_lost b h j q aim none =
      let d : IsDown o table es plan.number c key bends part one among b = down b h in
      let p : Pair = pair_with plan.number c (record { key = j; steps = q }) in
      let was : Has w.was p = pair_there b d j q aim in
      let on : is_on s p (plan.channel k p) ≡ true = stands.on p was in
      none (plan.channel k p) (t.row.channel (plan.channel k p) (t.sound.used_was p was)) (on_given s p (plan.channel k p) on)
      (on_steps s p (plan.channel k p) on ∙ sym (steps_are b d j q aim))
