-- A source with a plan of channels for each of its ports, as the bend route is given one.
use Rattle.std.specs.Prelude.{◌≡◌, ◌≢◌, ◌≤◌, ◌<◌, ℕ, suc, Bool, true, List, nat_eq}
use Rattle.std.specs.List.{AllByRecursion}
use Rattle.std.specs.Set.{is_member}
use Rattle.mt_base.specs.declared.event.Msg.{Msg}
use Rattle.mt_base.specs.Midi.{MidiEvent, Says, channel_of}
use Rattle.mt_base.specs.Valid.{IsValidEvent}
use Rattle.retune_model.specs.Table.{Scaling, IsTable, AreFewTerms}
use Rattle.retune_model.specs.Options.{Options, ByBend}
use Rattle.retune_model.specs.Faults.{Targets, is_part}
use Rattle.retune_model.specs.Pairs.{Pair, is_same_pair}
use Rattle.retune_model.specs.SourceFaults.{IsSound}
use Rattle.channel_model.specs.BendOutput.{PortRuns}
use Rattle.channel_model.specs.Rows.{used_row, IsBendPlan}

-- the channels of the used row of a port that needs n
abbrev pub uses : Options → (ℕ → Bool) → ℕ → ℕ → Bool
uses o allowed n c = is_member nat_eq (used_row o allowed n) c

-- A plan of a port gives its runs their channels.
pub record IsBentPort (o : Options) (allowed : ℕ → Bool) (table : Targets) (es : List MidiEvent) (z n : ℕ) (channel : ℕ → Pair → ℕ) : Type 0 where
  pub instant : ℕ
  pub row : ℕ → ℕ
  pub plan : IsBendPlan o allowed table es z n instant row channel

-- The events are valid and have no fault, and each port has a plan; `need z` is what port z needs.
pub record IsBent (o : Options) (allowed : ℕ → Bool) (table : Targets) (es : List MidiEvent) (need : ℕ → ℕ)
    (channel : ℕ → ℕ → Pair → ℕ) : Type 0 where
  pub route : o.route ≡ ByBend
  pub range : o.range ≤ 127
  pub valid : AllByRecursion IsValidEvent es
  pub sound : IsSound o table es
  pub ports : (z : ℕ) → IsBentPort o allowed table es z (need z) (channel z)

-- The table is one of the scaling, and no pitch of it has many terms.
pub record IsTuned (scaling : Scaling) (o : Options) (table : Targets) : Type 0 where
  pub bounds : IsTable scaling table
  pub few_terms : AreFewTerms scaling
  pub range : 0 < o.range

-- A message of a part is on a used channel; kept drums, and what is no message, are as they are.
abbrev pub IsOnUsed : Options → (ℕ → Bool) → MidiEvent → Type 0
IsOnUsed o used e = (msg : Msg) → e.what ≡ Says msg → is_part o (channel_of msg) ≡ true → used (channel_of msg) ≡ true

-- At the event behind a position no run holds a channel.
abbrev pub NoneHeld : PortRuns → ℕ → ℕ → Type 0
NoneHeld runs k c = (p : Pair) → is_member is_same_pair (runs.held (suc k)) p ≡ true → runs.channel k p ≢ c
