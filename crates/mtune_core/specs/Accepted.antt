-- What is asked of the words and the contents, so that the call has no reason to refuse them.
use Rattle.std.specs.Prelude.{ℕ, ◌≡◌, ◌<◌, ◌⊎◌, pos, List, true, Some, length}
use Rattle.mt_base.specs.Midi.{MidiEvent}
use Rattle.mt_base.specs.Pitch.{Pitch, IsPitch, AtLeast, AtMost}
use Rattle.midi_model.specs.FileText.{MidiFile}
use Rattle.midi_model.specs.Merged.{merged}
use Rattle.midi_model.specs.Spelling.{Spells}
use Rattle.retune_model.specs.Table.{Scaling, IsTable, pitch_at}
use Rattle.retune_model.specs.Options.{Options}
use Rattle.retune_model.specs.Faults.{Targets, UnmappedKey, KeyOutOfDevice}
use Rattle.retune_model.specs.SourceFaults.{Fault, fault_at}
use Rattle.mtune_files.specs.declared.which.Which.{Which}
use Rattle.mtune_files.specs.declared.counts.Counts.{Counts}
use Rattle.mtune_files.specs.Counts.{Rose, loads_of}
use Rattle.mtune_files.specs.Names.{Held}
use Rattle.mtune_files.specs.Outside.{Outside}
use Rattle.channel_model.specs.Refusals.{Fits}
use Rattle.command_line.specs.Words.{Command, Read, reading_of}
use Rattle.mtune_core.specs.Asked.{allowed_by}
use Rattle.mtune_core.specs.Inputs.{Input}
use Rattle.mtune_core.specs.Report.{uses_key}
use Rattle.mtune_core.specs.Table.{Tuning, scaling_of}

-- the scale pitch of a key is from 0 to 12,700 cents, of 32,000,000,000 grains each
pub record IsInReach (scaling : Scaling) (key : ℕ) : Type 0 where
  pub pitch : Pitch
  pub is_pitch : IsPitch pitch
  pub of_key : pitch_at scaling key 0 ≡ Some pitch
  pub least : AtLeast pitch (pos 0)
  pub most : AtMost pitch (pos 406400000000000)

-- so it is for each key that a retuned part has a note on of
abbrev pub AreInReach : Scaling → Options → List MidiEvent → Type 0
AreInReach scaling o es = (key : ℕ) → key < 128 → uses_key o key es ≡ true → IsInReach scaling key

-- no event has a fault of another kind than that its key has no pitch, or a target that a device can't play
abbrev pub HasNoOtherFault : Options → Targets → List MidiEvent → Type 0
HasNoOtherFault o table es = (k : ℕ) (f : Fault) → k < length es → fault_at o table es k ≡ Some f → (f.kind ≡ UnmappedKey) ⊎ (f.kind ≡ KeyOutOfDevice)

-- The words are those of a command, and it is told what is held. Its scale and its mapping are read, and give each key a pitch of
-- few enough terms. At the input's name stand bytes that spell a file, or the sample is taken. The scale pitches of its keys are in a
-- device's reach, and its events have no other fault, whichever table of the scale is taken; on bend and MPE it needs no more channels
-- than it may have. No content is longer than its limit.
pub record IsAccepted (o : Outside) (words : List (List ℕ)) : Type 0 where
  pub names : Held
  pub command : Command
  pub told : o.held ≡ Some names
  pub is_command : reading_of words ≡ Read command
  pub tuning : Tuning o command
  pub input : Input o command
  pub source : MidiFile
  pub spelled : Spells input.bytes source
  pub in_reach : AreInReach (scaling_of tuning) command.options (merged source)
  pub no_other_fault : (table : Targets) → IsTable (scaling_of tuning) table → HasNoOtherFault command.options table (merged source)
  pub fits : (table : Targets) → IsTable (scaling_of tuning) table → Fits command.options (allowed_by command) table (merged source)

-- no count of failures rose
pub record NoneRose (before now : Counts) : Type 0 where
  pub loads : (which : Which) → Rose (loads_of which before) (loads_of which now) → ⊥
  pub stores : Rose before.stores now.stores → ⊥
  pub says : Rose before.says now.says → ⊥
