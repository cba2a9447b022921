-- How the output's music follows the source's on the bend route.
use Rattle.std.specs.Prelude.{◌≡◌, ◌<◌, ℕ, suc, List, [], ◌∷◌, Bool, true, false, nat_eq, Option, Some, None}
use Rattle.std.specs.List.{AllByRecursion, IsDistinct}
use Rattle.std.specs.Set.{is_member}
use Rattle.retune_model.specs.Pairs.{Pair, is_same_pair}
use Rattle.mt_base.specs.declared.event.Msg.TheVariants.{NoteOn}
use Rattle.mt_base.specs.Valid.{IsValidEvent}
use Rattle.mt_base.specs.Midi.{MidiWhat, Says, MidiEvent}
use Rattle.midi_model.specs.Sysex.{Resets, doing}
use Rattle.midi_model.specs.Channel.{State}
use Rattle.midi_model.specs.Zones.{no_zones}
use Rattle.midi_model.specs.Notes.{Note, sounds}
use Rattle.midi_model.specs.Music.{Music, channel_at, step}
use Rattle.midi_model.specs.MusicLaws.{IsSettled}
use Rattle.retune_model.specs.Table.{BendTarget}
use Rattle.retune_model.specs.Options.{ByBend, Options}
use Rattle.retune_model.specs.PlaysTheSame.{Pairwise, bend_target_if}
use Rattle.retune_model.specs.Faults.{Targets, is_part, is_same_target, target_of}
use Rattle.channel_model.specs.Choice.{wanted}
use Rattle.channel_model.specs.BendOutput.{pair_with}
use Rattle.retune_model.specs.SourceFaults.{kind_in}
use Rattle.bend_laws.specs.Moments.{Moment, Both}
use Rattle.bend_laws.specs.Brought.{IsSameAside, IsReached}

abbrev pub Has : List Pair → Pair → Type 0
Has ps p = is_member is_same_pair ps p ≡ true

-- ---- notes

-- what the two notes share while they sound: the output's is on the channel of its pair's run
pub record SoundsAlike (place : ℕ) (a b : Note) : Type 0 where
  pub channel : b.channel ≡ place
  pub captured : b.captured ≡ a.captured
  pub pressure : b.pressure ≡ a.pressure

-- A retuned note of the source and the output's: the same but for the key, which is the target's, and the channel.
pub record IsPlayedBy (port : ℕ) (o : Options) (table : Targets) (place : Pair → ℕ) (a b : Note) : Type 0 where
  pub target : BendTarget
  pub aim : target_of o table a ≡ Some target
  pub key : b.key ≡ target.key
  pub onset : b.onset ≡ a.onset
  pub velocity : b.velocity ≡ a.velocity
  pub voice : b.voice ≡ a.voice
  pub release : b.release ≡ a.release
  pub ended : b.ended ≡ a.ended
  pub sounding : sounds a ≡ true → SoundsAlike (place (pair_with port a.channel target)) a b

-- the note of a retuned part is played by the output's; the note of another channel stands beside one of another channel
pub record IsMatched (port : ℕ) (o : Options) (table : Targets) (place : Pair → ℕ) (a b : Note) : Type 0 where
  pub retuned : is_part o b.channel ≡ is_part o a.channel
  pub played : is_part o a.channel ≡ true → IsPlayedBy port o table place a b

-- two notes of a part that sound have neither the same key nor the same target
pub record AreTwo (o : Options) (table : Targets) (a b : Note) : Type 0 where
  pub key : sounds a ≡ true → sounds b ≡ true → is_part o a.channel ≡ true → a.channel ≡ b.channel → nat_eq a.key b.key ≡ false
  pub target : sounds a ≡ true → sounds b ≡ true → is_part o a.channel ≡ true → a.channel ≡ b.channel → is_same_target (target_of o table a)
      (target_of o table b) ≡ false

abbrev pub AreApart : Options → Targets → List Note → Type 0
AreApart o table [] = Unit {0}
AreApart o table (n ∷ ns) = AllByRecursion (λ x. AreTwo o table n x) ns × AreApart o table ns

-- the pair of each retuned note that sounds is among these
abbrev pub IsAmong : ℕ → List Pair → ℕ → Option BendTarget → Type 0
IsAmong port ps part (Some t) = Has ps (pair_with port part t)
IsAmong port ps part None = Unit {0}

abbrev pub SoundAmong : ℕ → Options → Targets → List Pair → List Note → Type 0
SoundAmong port o table ps ns = AllByRecursion (λ n. is_part o n.channel ≡ true → sounds n ≡ true →
    IsAmong port ps n.channel (target_of o table n)) ns

-- ---- what is given of one event

-- whether a message begins a note of this pair
abbrev pub Begins : ℕ → Options → Targets → ℕ → MidiWhat → Pair → Type 0
Begins port o table t (Says (NoteOn c k (suc v))) p = (is_part o c ≡ true) × ((x : BendTarget) × (bend_target_if o.range (table k t) ≡ Some x) ×
    (p ≡ pair_with port c x))
Begins port o table t _ p = ⊥

-- The event is valid and has no fault; `used` says which channels are used.
pub record IsGiven (Good : State → Type 0) (port : ℕ) (o : Options) (table : Targets) (used : ℕ → Bool) (k : Moment) (before : Music)
    (e : MidiEvent) : Type 0 where
  pub valid : IsValidEvent e
  pub faultless : kind_in port o table e.tick before (step before e) false k.is e.what ≡ None
  -- the pairs that sound before the event hold their channels at it, and what sounds after it is there then
  pub held : SoundAmong port o table k.holds before.notes
  pub there : SoundAmong port o table k.is (step before e).notes
  -- what holds was there; what is there held its channel, or the event begins a note of it
  pub once : IsDistinct is_same_pair k.holds
  pub was_there : (p : Pair) → Has k.holds p → Has k.was p
  pub from : (p : Pair) → Has k.is p → is_member is_same_pair k.holds p ≡ false → Begins port o table e.tick e.what p
  -- a run keeps its channel; different pairs have different channels; all are used ones
  pub kept : (p : Pair) → Has k.was p → Has k.is p → k.new p ≡ k.old p
  pub apart_was : (p q : Pair) → Has k.was p → Has k.was q → k.old p ≡ k.old q → p ≡ q
  pub apart_is : (p q : Pair) → Has k.is p → Has k.is q → k.new p ≡ k.new q → p ≡ q
  pub parts : (p : Pair) → Has k.was p → is_part o p.part.channel ≡ true
  pub ports_was : (p : Pair) → Has k.was p → p.part.port ≡ port
  pub ports_is : (p : Pair) → Has k.is p → p.part.port ≡ port
  pub used_was : (p : Pair) → Has k.was p → used (k.old p) ≡ true
  pub used_is : (p : Pair) → Has k.is p → used (k.new p) ≡ true
  -- what each pair needs can be brought to
  pub good : (p : Pair) → Good (wanted o table (step before e) p)
  -- after a reset nothing is there
  pub reset : doing e.what ≡ Resets → k.is ≡ []

-- the used channels are channels, and no drums are played on them
pub record AreUsed (o : Options) (used : ℕ → Bool) : Type 0 where
  pub route : o.route ≡ ByBend
  pub channel : (c : ℕ) → used c ≡ true → c < 16
  pub retuned : (c : ℕ) → used c ≡ true → is_part o c ≡ true

-- ---- the relation

-- The output follows the source: their notes are matched one by one; each used channel is in the state in which it was left, what
-- is selected aside; and the channel of each pair that is there was left at what the pair needs.
pub record Follows (Good : State → Type 0) (port : ℕ) (o : Options) (table : Targets) (used : ℕ → Bool) (place : Pair → ℕ) (there : List Pair)
    (b : Both) : Type 0 where
  pub notes : Pairwise (IsMatched port o table place) b.source.notes b.out.notes
  pub states : (c : ℕ) → used c ≡ true → IsSameAside (channel_at b.out c) (b.left c)
  pub at_wanted : (p : Pair) → Has there p → b.left (place p) ≡ (wanted o table b.source p).own
  pub apart : AreApart o table b.source.notes
  pub good_source : (p : Pair) → Good (wanted o table b.source p)
  pub source_zones : b.source.zones ≡ no_zones
  pub source_settled : IsSettled b.source
  pub out_zones : b.out.zones ≡ no_zones
  pub out_reached : IsReached b.out
