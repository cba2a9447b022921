-- What stands for a list of events stands, after one more event, for the list with that event at its end.
use Rattle.std.proofs.Common.{arith, ◌≤◌, ◌≡◌, ◌<◌, ◌+◌, ◌++◌, ◌&&◌, ◌||◌, not, ℕ, suc, List, [], ◌∷◌, Bool, true, false, cond, Option, Some, None, is_some, refl, ap, sym, subst, ◌∙◌, set, get_or, length, add-one}
use Rattle.std.proofs.lemmas.List.{set-get_or}
use Rattle.mt_base.specs.Midi.{MidiEvent, MidiWhat}
use Rattle.mt_base.specs.declared.event.Msg.{Msg}
use Rattle.mt_base.specs.declared.event.Msg.TheVariants.{NoteOn, NoteOff, KeyPressure, Control, Program, Pressure, Bend}
use Rattle.midi_model.specs.Channel.{Role, Stored, EntryHigh, EntryLow, NrpnLow, NrpnHigh, RpnLow, RpnHigh, AllSoundOff, ResetControllers, AllNotesOff, Ignored, role, Target, Nowhere, TuningProgram, ZoneSize, Value, target}
use Rattle.midi_model.specs.Sysex.{Retune, Doing, Plays, Resets, Tunes, Nothing, doing, tunes}
use Rattle.midi_model.specs.Music.{Music, channel_at, advance, step}
use Rattle.midi_model.specs.Tuning.{Tuning, chosen, chosen_by, tuning_heard, tuning_after}
use Rattle.midi_model.specs.Receiver.{after, receive}
use Rattle.receiver.specs.declared.ends.Ends.{Ends}
use Rattle.receiver.specs.declared.player.Player.{Player}
use Rattle.receiver.specs.Sounding.{sounding_at, ended_on}
use Rattle.receiver.specs.Following.{FollowsBy}
use Rattle.receiver.specs.Reach.{is_silent, TellsBy}
use Rattle.receiver.specs.Stands.{PlayerStands, HoldValues, HasRoom, TellsEnded, set_up_of, slot, selected_in}
use Rattle.receiver.specs.State.{program_chosen, program_by}
use Rattle.receiver.specs.declared.tunings.Tunings.{Tunings}
use Rattle.receiver.specs.Tunings.{value_in, HearsBy}
use Rattle.receiver.specs.Turns.{set_up, begins, strikes, sounding_after, channels_by, zones_by, selected_by, values_by}
use Rattle.receiver.proofs.Limit.{few_more}
use Rattle.receiver.proofs.Retuning.{retuned_same}
use Rattle.receiver.proofs.SetUp.{channels_set_up, zones_set_up}
use Rattle.receiver.proofs.Slots.{AtMostOne, sounding_step, ended_step, count_step, after_append}

step_channels : (m : Music) (t : ℕ) (d : Doing) → channels_by (set_up m.channels m.zones) d ≡ (advance t d m).channels
step_channels m t (Plays msg) = channels_set_up m msg
step_channels m t Resets = refl
step_channels m t (Tunes r) = refl
step_channels m t Nothing = refl

step_zones : (m : Music) (t : ℕ) (d : Doing) → zones_by (set_up m.channels m.zones) d ≡ (advance t d m).zones
step_zones m t (Plays msg) = zones_set_up m msg
step_zones m t Resets = refl
step_zones m t (Tunes r) = refl
step_zones m t Nothing = refl

-- data entry of the high byte, by what it writes to
entry_selected : (c v : ℕ) (g : Target) (s : Tuning) → set s.selected c (program_chosen v g (get_or s.selected c None)) ≡ (chosen c v g s).selected
entry_selected c v Nowhere s = set-get_or s.selected c None
entry_selected c v TuningProgram s = refl
entry_selected c v ZoneSize s = set-get_or s.selected c None
entry_selected c v (Value p) s = set-get_or s.selected c None

entry_values : (c v : ℕ) (g : Target) (s : Tuning) (p k : ℕ) → s.values p k ≡ (chosen c v g s).values p k
entry_values c v Nowhere s p k = refl
entry_values c v TuningProgram s p k = refl
entry_values c v ZoneSize s p k = refl
entry_values c v (Value q) s p k = refl

control_selected : (m : Music) (c v : ℕ) (r : Role) (s : Tuning) → set s.selected c (program_by (channel_at m c) v r (get_or s.selected c None)) ≡ (chosen_by m c v r s).selected
control_selected m c v EntryHigh s = entry_selected c v (target (channel_at m c).selection) s
control_selected m c v Stored s = set-get_or s.selected c None
control_selected m c v EntryLow s = set-get_or s.selected c None
control_selected m c v NrpnLow s = set-get_or s.selected c None
control_selected m c v NrpnHigh s = set-get_or s.selected c None
control_selected m c v RpnLow s = set-get_or s.selected c None
control_selected m c v RpnHigh s = set-get_or s.selected c None
control_selected m c v AllSoundOff s = set-get_or s.selected c None
control_selected m c v ResetControllers s = set-get_or s.selected c None
control_selected m c v AllNotesOff s = set-get_or s.selected c None
control_selected m c v Ignored s = set-get_or s.selected c None

control_values : (m : Music) (c v : ℕ) (r : Role) (s : Tuning) (p k : ℕ) → s.values p k ≡ (chosen_by m c v r s).values p k
control_values m c v EntryHigh s p k = entry_values c v (target (channel_at m c).selection) s p k
control_values m c v Stored s p k = refl
control_values m c v EntryLow s p k = refl
control_values m c v NrpnLow s p k = refl
control_values m c v NrpnHigh s p k = refl
control_values m c v RpnLow s p k = refl
control_values m c v RpnHigh s p k = refl
control_values m c v AllSoundOff s p k = refl
control_values m c v ResetControllers s p k = refl
control_values m c v AllNotesOff s p k = refl
control_values m c v Ignored s p k = refl

message_selected : (m : Music) (msg : Msg) (s : Tuning) → selected_by (set_up m.channels m.zones) (Plays msg) s.selected ≡ (tuning_heard m msg s).selected
message_selected m (Control c n v) s = control_selected m c v (role n) s
message_selected m (NoteOn c k v) s = set-get_or s.selected c None
message_selected m (NoteOff c k v) s = set-get_or s.selected c None
message_selected m (KeyPressure c k v) s = set-get_or s.selected c None
message_selected m (Program c p) s = set-get_or s.selected c None
message_selected m (Pressure c v) s = set-get_or s.selected c None
message_selected m (Bend c v) s = set-get_or s.selected c None

message_values : (m : Music) (msg : Msg) (s : Tuning) (p k : ℕ) → s.values p k ≡ (tuning_heard m msg s).values p k
message_values m (Control c n v) s p k = control_values m c v (role n) s p k
message_values m (NoteOn c key v) s p k = refl
message_values m (NoteOff c key v) s p k = refl
message_values m (KeyPressure c key v) s p k = refl
message_values m (Program c n) s p k = refl
message_values m (Pressure c v) s p k = refl
message_values m (Bend c v) s p k = refl

step_selected : (m : Music) (d : Doing) (s : Tuning) → selected_by (set_up m.channels m.zones) d s.selected ≡ (tuning_after m d s).selected
step_selected m (Plays msg) s = message_selected m msg s
step_selected m Resets s = refl
step_selected m (Tunes r) s = refl
step_selected m Nothing s = refl

step_values : (m : Music) (d : Doing) (s : Tuning) (f : ℕ → ℕ → Option ℕ) (p k : ℕ) → f p k ≡ s.values p k → values_by d f p k ≡ (tuning_after m d s).values p k
step_values m (Plays msg) s f p k e = e ∙ message_values m msg s p k
step_values m Resets s f p k e = refl
step_values m (Tunes r) s f p k e = retuned_same r.program r.keys f s.values p k e
step_values m Nothing s f p k e = e

-- the same channels and zones
pub same_set_up : (r : Player) (es : List MidiEvent) → PlayerStands r es → set_up_of r ≡ set_up (after es).music.channels (after es).music.zones
same_set_up r es h = ap (λ ss. set_up ss (set_up_of r).zones) h.channels ∙ ap (set_up (after es).music.channels) h.zones

more : (b : Bool) (n k : ℕ) → n ≡ k → cond b (n + 1) n ≡ cond b (suc k) k
more true n k e = add-one n ∙ ap suc e
more false n k e = e

-- no event begins more than one note
pub one_more : (b : Bool) (n : ℕ) → cond b (n + 1) n ≤ n + 1
one_more true n = omega arith
one_more false n = omega arith

-- the note of a key
slot_then : (r s : Player) (t : ℕ) (es : List MidiEvent) (e : MidiEvent) → PlayerStands r es → FollowsBy r t (doing e.what) s → e.tick ≡ t → AtMostOne (after es).music.notes
    → (c k : ℕ) → c < 16 → k < 128 → slot s c k ≡ sounding_at (step (after es).music e).notes c k
slot_then r s t es e h f at one c k cl kl =
    let m = (after es).music in
    let next : suc (length m.notes) ≡ r.begun + 1 = sym (add-one r.begun ∙ ap suc h.begun) in
    f.notes c k cl kl
    ∙ ap (λ u. sounding_after u (r.begun + 1) t (doing e.what) c k (slot r c k)) (same_set_up r es h)
    ∙ ap (λ u. sounding_after (set_up m.channels m.zones) (r.begun + 1) u (doing e.what) c k (slot r c k)) (sym at)
    ∙ ap (sounding_after (set_up m.channels m.zones) (r.begun + 1) e.tick (doing e.what) c k) (h.notes c k cl kl)
    ∙ sym (sounding_step m e (r.begun + 1) c k next one)

pub stands_then : (r s : Player) (t : ℕ) (es : List MidiEvent) (e : MidiEvent) → PlayerStands r es → HasRoom r e.what → FollowsBy r t (doing e.what) s → e.tick ≡ t → AtMostOne (after es).music.notes
    → PlayerStands s (es ++ e ∷ [])
stands_then r s t es e h room f at one =
    let m = (after es).music in
    let u = (after es).tuning in
    let d = doing e.what in
    let now : after (es ++ e ∷ []) ≡ receive (after es) e = after_append es e in
    record {
      channels = f.states ∙ ap (λ x. channels_by x d) (same_set_up r es h) ∙ step_channels m e.tick d ∙ sym (ap (λ x. x.music.channels) now);
      zones = f.zones ∙ ap (λ x. zones_by x d) (same_set_up r es h) ∙ step_zones m e.tick d ∙ sym (ap (λ x. x.music.zones) now);
      begun = f.begun ∙ more (begins d) r.begun (length m.notes) h.begun ∙ sym (ap (λ x. length x.music.notes) now ∙ count_step m e);
      notes = λ c k cl kl. slot_then r s t es e h f at one c k cl kl ∙ sym (ap (λ x. sounding_at x.music.notes c k) now);
      selected = f.selected ∙ ap (λ x. selected_by x d (selected_in r)) (same_set_up r es h) ∙ ap (selected_by (set_up m.channels m.zones) d) h.selected ∙ step_selected m d u ∙ sym (ap (λ x. x.tuning.selected) now);
      few = few_more r es e h room;
    }

-- an event that does nothing to the music changes nothing that the player keeps
pub silent_follows : (p : Player) (t : ℕ) (d : Doing) → is_silent d ≡ true → FollowsBy p t d p
silent_follows p t (Plays msg) e = absurd cc
silent_follows p t Resets e = absurd cc
silent_follows p t (Tunes r) e = record { states = refl; zones = refl; begun = refl; notes = λ c k cl kl. refl; selected = refl }
silent_follows p t Nothing e = record { states = refl; zones = refl; begun = refl; notes = λ c k cl kl. refl; selected = refl }

silent_tunes : (o : Option Retune) → is_silent (tunes o) ≡ true
silent_tunes None = refl
silent_tunes (Some r) = refl

pub silent_reset : (o : Option Retune) (b : Bool) → is_silent (cond b Resets (tunes o)) ≡ not b
silent_reset o true = refl
silent_reset o false = silent_tunes o

-- nor does a tuning message
pub unplayed : (p : Player) (t : ℕ) (o : Option Retune) → FollowsBy p t (tunes o) p
unplayed p t o = silent_follows p t (tunes o) (silent_tunes o)

-- the tuning programs
pub values_then : (old new : Tunings) (es : List MidiEvent) (e : MidiEvent) → HoldValues old es → HearsBy (doing e.what) old new → HoldValues new (es ++ e ∷ [])
values_then old new es e h f p k pl kl =
    f p k pl kl
    ∙ step_values (after es).music (doing e.what) (after es).tuning (value_in old) p k (h p k pl kl)
    ∙ sym (ap (λ x. x.tuning.values p k) (after_append es e))

-- which notes ended
pub ended_then : (r s : Player) (t : ℕ) (es : List MidiEvent) (e : MidiEvent) → PlayerStands r es → FollowsBy r t (doing e.what) s → e.tick ≡ t → AtMostOne (after es).music.notes
    → (c k : ℕ) → c < 16 → k < 128
    → (is_some (slot r c k) && (strikes (doing e.what) c k || not (is_some (slot s c k)))) ≡ ended_on c k (after es).music.notes (after (es ++ e ∷ [])).music.notes
ended_then r s t es e h f at one c k cl kl =
    let m = (after es).music in
    ap (λ o. is_some o && (strikes (doing e.what) c k || not (is_some (slot s c k)))) (h.notes c k cl kl)
    ∙ ap (λ o. is_some (sounding_at m.notes c k) && (strikes (doing e.what) c k || not (is_some o))) (slot_then r s t es e h f at one c k cl kl)
    ∙ sym (ended_step m e c k one)
    ∙ sym (ap (λ x. ended_on c k m.notes x.music.notes) (after_append es e))

pub tells_then : (r s : Player) (ends : Ends) (t : ℕ) (es : List MidiEvent) (e : MidiEvent) (what : MidiWhat) → PlayerStands r es
    → FollowsBy r t (doing what) s → TellsBy r (doing what) s ends
    → e.tick ≡ t → e.what ≡ what → AtMostOne (after es).music.notes → TellsEnded ends (after es).music.notes (after (es ++ e ∷ [])).music.notes
tells_then r s ends t es e what h f tells at is one c k cl kl =
    tells c k cl kl
    ∙ ap (λ w. is_some (slot r c k) && (strikes (doing w) c k || not (is_some (slot s c k)))) (sym is)
    ∙ ended_then r s t es e h (subst (λ w. FollowsBy r t (doing w) s) (sym is) f) at one c k cl kl
