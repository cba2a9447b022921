-- The channels of the output's retuned notes are those that the plan names: a block begins one note at most, where the event does.
use Rattle.std.proofs.Common.{◌≡◌, ◌≤◌, arith, ℕ, zero, suc, true, cond, List, [], ◌∷◌, ◌++◌, Option, Some, None, refl, ap, sym, ◌∙◌, subst, inl, inr}
use Rattle.std.specs.Set.{is_member}
use Rattle.std.proofs.lemmas.Bool.{cases_Bool}
use Rattle.std.proofs.lemmas.List.{append-nil}
use Rattle.mt_base.specs.declared.event.Msg.{Msg}
use Rattle.mt_base.specs.declared.event.Msg.TheVariants.{NoteOn}
use Rattle.mt_base.specs.Midi.{MidiWhat, Says, SysexOf, MetaOf, MidiEvent, channel_of}
use Rattle.midi_model.specs.Sysex.{Doing, Plays, Resets, Tunes, Nothing, doing}
use Rattle.midi_model.specs.Music.{Music, step, play}
use Rattle.midi_model.specs.MusicLaws.{NotesFade}
use Rattle.retune_model.specs.Options.{Options}
use Rattle.retune_model.specs.Faults.{Targets, is_part}
use Rattle.retune_model.specs.PlaysTheSame.{bend_target_if}
use Rattle.retune_model.specs.Pairs.{Pair, is_same_pair}
use Rattle.retune_model.specs.Ports.{Numbered}
use Rattle.channel_model.specs.BendOutput.{PortRuns, pair_with, placed_at}
use Rattle.channel_model.specs.MpeOutput.{Zone, Zoned, zones_setup, zone_of, in_zone, setup_behind, mpe_block}
use Rattle.bend_laws.specs.Moments.{Moment, moment}
use Rattle.bend_laws.specs.Positions.{port_event}
use Rattle.bend_laws.specs.Simulation.{on_target, channel_begun, channel_if, planned_channels}
use Rattle.bend_laws.proofs.Playing.{saying, play_append, play_saying}
use Rattle.bend_laws.proofs.Changing.{said_at}
use Rattle.bend_laws.proofs.Planned.{NoNote, note_channels, begun_channels, step_channels, quiet_channels, none_planned, drum_same, is_note}
use Rattle.mpe_laws.specs.Follows.{Follows, IsGiven}
use Rattle.mpe_laws.specs.Positions.{zoned_next, zoned_at}
use Rattle.mpe_laws.proofs.Standing.{Laws}
use Rattle.mpe_laws.proofs.Planning.{IsPlanned}
use Rattle.mpe_laws.proofs.Allowed.{Asked}
use Rattle.mpe_laws.proofs.Passing.{setup_of, passed_block}
use Rattle.mpe_laws.proofs.Everywhere.{what_at, given_at, follows_at, source_is}
use Rattle.mpe_laws.proofs.Opened.{zoned_if, Opened, opens, known_at, part_said, drum_said}
use Rattle.mpe_laws.proofs.Struck.{bend_first}
use Rattle.mpe_laws.proofs.Strikes.{IsStruck, strikes_at, bend_none, caused_none}
use Rattle.mpe_laws.proofs.Begun.{setup_none, lead_none}

-- what an event adds to the channels
abbrev Adds : ℕ → Options → Targets → Moment → Music → MidiEvent → List MidiEvent → Type 0
Adds port o table k y e block = note_channels o (play y block).notes ≡ note_channels o y.notes ++ channel_begun port o table k.new e.tick e.what

struck_adds : NotesFade → (port : ℕ) (o : Options) (table : Targets) (zones : List Zone) → Asked o zones → (k : Moment) (m y : Music)
    (t track c j v : ℕ) → is_part o c ≡ true → Follows port o table zones k.old k.was m y →
    (let e : MidiEvent = said_at t track (NoteOn c j (suc v)) in IsGiven port o table zones k m e →
    Adds port o table k y e (mpe_block port o table zones k.was true m y k.old k.new e))
struck_adds fade port o table zones asked k m y t track c j v part follows given =
    let e : MidiEvent = said_at t track (NoteOn c j (suc v)) in
    let s : IsStruck port o table zones k m y t c j v = strikes_at port o table zones asked.row k m y t track c j v part follows given in
    let p : Pair = pair_with port c s.aim in
    let bend : List Msg = bend_first k y p (is_member is_same_pair k.was p) in
    let last : MidiEvent = record e { what = Says (NoteOn (k.new p) s.aim.key (suc v)) } in
    let own : is_part o (k.new p) ≡ true = asked.row.retuned_member (k.new p) _ s.member.is in
    let planned : channel_begun port o table k.new t (Says (NoteOn c j (suc v))) ≡ k.new p ∷ [] =
    ap (λ b. cond b (on_target port k.new c (bend_target_if o.range (table j t))) []) part ∙ ap (on_target port k.new c) s.aims in
    ap (λ es. note_channels o (play y es).notes)
    (part_said port o table zones k m y t track (NoteOn c j (suc v)) (bend ++ NoteOn (k.new p) s.aim.key (suc v) ∷ []) part s.is)
    ∙ ap (λ (z : Music). note_channels o z.notes) (play_saying y e bend (NoteOn (k.new p) s.aim.key (suc v) ∷ []))
    ∙ step_channels fade o (play y (saying e bend)) last
    ∙ ap (λ ds. ds ++ begun_channels o last.what) (quiet_channels fade o e bend (bend_none k y p (is_member is_same_pair k.was p)) y)
    ∙ ap (λ b. note_channels o y.notes ++ cond b (k.new p ∷ []) []) own
    ∙ ap (λ ds. note_channels o y.notes ++ ds) (sym planned)

still_adds : NotesFade → (port : ℕ) (o : Options) (table : Targets) (zones : List Zone) (k : Moment) (m y : Music) (t track : ℕ) (msg : Msg) →
    NoNote msg → is_part o (channel_of msg) ≡ true →
    Adds port o table k y (said_at t track msg) (mpe_block port o table zones k.was true m y k.old k.new (said_at t track msg))
still_adds fade port o table zones k m y t track msg none part =
    let causes : List Msg = in_zone port o table k.was m y k.old k.new t msg (zone_of (channel_of msg) zones) in
    ap (λ es. note_channels o (play y es).notes) (part_said port o table zones k m y t track msg causes part refl)
    ∙ quiet_channels fade o (said_at t track msg) causes
    (caused_none port o table k.was m y k.old k.new t msg (zone_of (channel_of msg) zones) none) y
    ∙ sym (append-nil (note_channels o y.notes))
    ∙ ap (λ ds. note_channels o y.notes ++ ds) (sym (none_planned port o table k.new t msg none))

behind_adds : NotesFade → (o : Options) (zones : List Zone) → Asked o zones → o.range ≤ 127 → (e : MidiEvent) (d : Doing) (y : Music) →
    note_channels o (play y (placed_at e (setup_behind (setup_of o zones) true d))).notes ≡ note_channels o y.notes
behind_adds fade o zones asked range e (Plays msg) y = refl
behind_adds fade o zones asked range e Resets y = quiet_channels fade o e (zones_setup o.range zones) (setup_none o zones asked range) y
behind_adds fade o zones asked range e (Tunes r) y = refl
behind_adds fade o zones asked range e Nothing y = refl

main_adds : NotesFade → (port : ℕ) (o : Options) (table : Targets) (zones : List Zone) → Asked o zones → o.range ≤ 127 → (k : Moment)
    (m y : Music) (t track : ℕ) (w : MidiWhat) → Follows port o table zones k.old k.was m y → IsGiven port o table zones k m (what_at t track w) →
    Adds port o table k y (what_at t track w) (mpe_block port o table zones k.was true m y k.old k.new (what_at t track w))
main_adds fade port o table zones asked range k m y t track (Says msg) follows given = elim (cases_Bool (is_part o (channel_of msg))) [
  | inr drum ↦ ap (λ es. note_channels o (play y es).notes) (drum_said port o table zones k m y t track msg drum)
      ∙ step_channels fade o y (said_at t track msg) ∙ ap (λ ds. note_channels o y.notes ++ ds) (drum_same port o table k.new t msg drum)
  | inl part ↦ elim (is_note msg) [
    | inl none ↦ still_adds fade port o table zones k m y t track msg none part
    | inr (c, j, v, same) ↦ subst Goal (sym same) (λ p g. struck_adds fade port o table zones asked k m y t track c j v p follows g) part given
  ]
]
  where
    Goal : Msg → Type 0
    Goal u = is_part o (channel_of u) ≡ true → IsGiven port o table zones k m (said_at t track u) →
        Adds port o table k y (said_at t track u) (mpe_block port o table zones k.was true m y k.old k.new (said_at t track u))
main_adds fade port o table zones asked range k m y t track (SysexOf lead bytes) follows given =
    let w : MidiWhat = SysexOf lead bytes in
    let e : MidiEvent = what_at t track w in
    ap (λ es. note_channels o (play y es).notes) (passed_block port o table zones k m y t track w tt)
    ∙ behind_adds fade o zones asked range e (doing w) (step y e) ∙ step_channels fade o y e
main_adds fade port o table zones asked range k m y t track (MetaOf kind bytes) follows given =
    let w : MidiWhat = MetaOf kind bytes in
    let e : MidiEvent = what_at t track w in
    ap (λ es. note_channels o (play y es).notes) (passed_block port o table zones k m y t track w tt) ∙ step_channels fade o y e

early_adds : NotesFade → (port : ℕ) (o : Options) (table : Targets) (k : Moment) (x : Music) (t track : ℕ) (w : MidiWhat) →
    ((msg : Msg) → w ≡ Says msg → ⊥) → Adds port o table k x (what_at t track w) (what_at t track w ∷ [])
early_adds fade port o table k x t track (Says msg) h = absurd (h msg refl)
early_adds fade port o table k x t track (SysexOf lead bytes) h = step_channels fade o x (what_at t track (SysexOf lead bytes))
early_adds fade port o table k x t track (MetaOf kind bytes) h = step_channels fade o x (what_at t track (MetaOf kind bytes))

block_adds : NotesFade → (port : ℕ) (o : Options) (table : Targets) (zones : List Zone) → Asked o zones → o.range ≤ 127 → (k : Moment)
    (m x : Music) (t track : ℕ) (w : MidiWhat) (block : List MidiEvent) → IsGiven port o table zones k m (what_at t track w) →
    Opened port o table zones k m x (what_at t track w) block → Adds port o table k x (what_at t track w) block
block_adds fade port o table zones asked range k m x t track w block given (inl h) =
    subst (Adds port o table k x (what_at t track w)) (sym h.is) (early_adds fade port o table k x t track w h.none)
block_adds fade port o table zones asked range k m x t track w block given (inr h) =
    let e : MidiEvent = what_at t track w in
    let y : Music = play x (saying e h.lead) in
    let main : List MidiEvent = mpe_block port o table zones k.was true m y k.old k.new e in
    ap (λ es. note_channels o (play x es).notes) h.is ∙ ap (λ (z : Music). note_channels o z.notes) (play_append x (saying e h.lead) main)
    ∙ main_adds fade port o table zones asked range k m y t track w h.follows given
    ∙ ap (λ ds. ds ++ channel_begun port o table k.new t w)
    (quiet_channels fade o e h.lead (lead_none o zones asked range h.lead h.lead_is) x)

pub channels_at : Laws → (o : Options) (table : Targets) (zones : List Zone) → Asked o zones → o.range ≤ 127 → (runs : PortRuns)
    (ns : List Numbered) (last : ℕ) → IsPlanned o table zones runs ns last → (k : ℕ) → k ≤ last →
    note_channels o (zoned_at o table zones runs ns k).out.notes ≡ planned_channels o table runs ns k
channels_at laws o table zones asked range runs ns last g zero low = refl
channels_at laws o table zones asked range runs ns last g (suc k) low =
    go (channels_at laws o table zones asked range runs ns last g k (omega (arith, low))) (port_event ns (suc k)) refl
  where
    go : note_channels o (zoned_at o table zones runs ns k).out.notes ≡ planned_channels o table runs ns k → (x : Option MidiEvent) →
        port_event ns (suc k) ≡ x →
        note_channels o (zoned_next o table zones runs k (zoned_at o table zones runs ns k) x).out.notes
        ≡ planned_channels o table runs ns k ++ channel_if runs.number o table (runs.channel (suc k)) x
    go h None is = h ∙ sym (append-nil (planned_channels o table runs ns k))
    go h (Some e) is =
        let s : Zoned = zoned_at o table zones runs ns k in
        let block : List MidiEvent = zoned_if o table zones runs k s (Some e) in
        let given : IsGiven runs.number o table zones (moment runs k) s.source e =
        given_at o table zones runs ns last g k (omega (arith, low)) s.source (source_is o table zones runs ns k) e is in
        let opened : Opened runs.number o table zones (moment runs k) s.source s.out e block =
        opens laws runs.number o table zones asked.sets (moment runs k) s.begun s.source s.out e.tick e.track e.what
        (known_at o table zones runs k s (follows_at laws o table zones asked.row asked.sets runs ns last g k (omega (arith, low)))) in
        block_adds laws.fade runs.number o table zones asked range (moment runs k) s.source s.out e.tick e.track e.what block given opened
        ∙ ap (λ ds. ds ++ channel_if runs.number o table (runs.channel (suc k)) (Some e)) h
