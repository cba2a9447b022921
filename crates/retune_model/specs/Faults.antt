-- The kinds of what a source may not hold, numbered 1 to 12 in the order in which they stand here, and tests of a message for them (this
-- project's own).
use Rattle.std.specs.Prelude.{ℕ, suc, ℤ, pos, negsuc, List, [], ◌∷◌, Bool, true, false, ◌&&◌, ◌||◌, not, nat_eq, nat_lt, if◌then◌else◌, Option, Some, None, is_some}
use Rattle.mt_base.specs.declared.event.Msg.{Msg}
use Rattle.mt_base.specs.declared.event.Msg.TheVariants.{NoteOn, KeyPressure, Control}
use Rattle.midi_model.specs.Params.{pair_eq}
use Rattle.midi_model.specs.Channel.{Selection, Role, EntryHigh, EntryLow, role}
use Rattle.midi_model.specs.Notes.{Note, sounds}
use Rattle.midi_model.specs.Music.{Music, channel_at}
use Rattle.retune_model.specs.Table.{Bounds, BendTarget, bend_target, tuning_target}
use Rattle.retune_model.specs.Options.{Route, ByDump, ByLive, ByBend, ByMpe, Options, bends_notes, is_retuned}
use Rattle.retune_model.specs.PlaysTheSame.{bend_target_if}

pub data Kind : Type 0 where
  UnmappedKey : Kind
  KeyOutOfDevice : Kind
  Unison : Kind
  BendTooFar : Kind
  ModeMessage : Kind
  DataStep : Kind
  TuningInSource : Kind
  MpeSource : Kind
  Port : Kind
  TooManyParameters : Kind
  PolyInMpe : Kind
  Restrike : Kind

-- the table of bounds, by key and the tick at which a note begins
abbrev pub Targets : Type 0
Targets = ℕ → ℕ → Option Bounds

abbrev pub is_part : Options → ℕ → Bool
is_part o c = is_retuned o.keep_drums c

-- ---- tests of a message, at its tick, with the music before it

abbrev pub has_target : Route → ℕ → Bounds → Bool
has_target ByDump range b = is_some (tuning_target b)
has_target ByLive range b = is_some (tuning_target b)
has_target ByBend range b = is_some (bend_target range b)
has_target ByMpe range b = is_some (bend_target range b)

abbrev pub misses_target : Options → Option Bounds → Bool
misses_target o (Some b) = not (has_target o.route o.range b)
misses_target o None = false

-- a note on of a retuned part whose key has no pitch; and one whose target a device can't play
abbrev pub is_unmapped : Options → Targets → ℕ → Msg → Bool
is_unmapped o table t (NoteOn c k (suc v)) = is_part o c && not (is_some (table k t))
is_unmapped o table t _ = false

abbrev pub is_out_of_device : Options → Targets → ℕ → Msg → Bool
is_out_of_device o table t (NoteOn c k (suc v)) = is_part o c && misses_target o (table k t)
is_out_of_device o table t _ = false

-- whole numbers, and bend targets
abbrev pub int_eq : ℤ → ℤ → Bool
int_eq (pos a) (pos b) = nat_eq a b
int_eq (negsuc a) (negsuc b) = nat_eq a b
int_eq _ _ = false

abbrev pub is_same_target : Option BendTarget → Option BendTarget → Bool
is_same_target (Some a) (Some b) = nat_eq a.key b.key && int_eq a.steps b.steps
is_same_target _ _ = false

abbrev pub target_of : Options → Targets → Note → Option BendTarget
target_of o table n = bend_target_if o.range (table n.key n.onset)

abbrev pub any_note : (Note → Bool) → List Note → Bool
any_note f [] = false
any_note f (n ∷ ns) = f n || any_note f ns

-- bend and MPE: another source key of the part sounds with the same target; and the same source key sounds with another
abbrev pub is_unison : Options → Targets → Music → ℕ → Msg → Bool
is_unison o table m t (NoteOn c k (suc v)) = bends_notes o.route && (is_part o c
    && any_note (λ n. (sounds n && nat_eq n.channel c) && (not (nat_eq n.key k) && is_same_target (target_of o table n) (bend_target_if o.range (table k t)))) m.notes)
is_unison o table m t _ = false

abbrev pub is_restrike : Options → Targets → Music → ℕ → Msg → Bool
is_restrike o table m t (NoteOn c k (suc v)) = bends_notes o.route && (is_part o c
    && any_note (λ n. (sounds n && nat_eq n.channel c) && (nat_eq n.key k && not (is_same_target (target_of o table n) (bend_target_if o.range (table k t))))) m.notes)
is_restrike o table m t _ = false

-- the steps of a pair and those of its part's bend are together within a bend's
abbrev pub is_within_bend : ℤ → Bool
is_within_bend (pos n) = nat_lt n 8192
is_within_bend (negsuc n) = nat_lt n 8192

abbrev pub is_bend : Route → Bool
is_bend ByBend = true
is_bend _ = false

-- controllers 125 and 126, the modes omni on and mono; 96 and 97, data increment and decrement
abbrev pub is_mode : Options → Msg → Bool
is_mode o (Control c n v) = is_part o c && (nat_eq n 125 || nat_eq n 126)
is_mode o _ = false

abbrev pub is_data_step : Options → Msg → Bool
is_data_step o (Control c n v) = is_part o c && (nat_eq n 96 || nat_eq n 97)
is_data_step o _ = false

abbrev pub is_entry : Role → Bool
is_entry EntryHigh = true
is_entry EntryLow = true
is_entry _ = false

-- whether the registered parameter of this low byte is selected
abbrev pub is_selected : ℕ → Selection → Bool
is_selected low s = s.registered && pair_eq s.rpn (0, low)

-- data entry of the tuning program or tuning bank, RPN 3 and 4; of the size of a zone, RPN 6
abbrev pub is_tuning_entry : Options → Music → Msg → Bool
is_tuning_entry o m (Control c n v) = is_part o c && (is_entry (role n) && (is_selected 3 (channel_at m c).selection || is_selected 4 (channel_at m c).selection))
is_tuning_entry o m _ = false

abbrev pub is_zone_entry : Options → Music → Msg → Bool
is_zone_entry o m (Control c n v) = is_part o c && (is_entry (role n) && is_selected 6 (channel_at m c).selection)
is_zone_entry o m _ = false

abbrev pub is_poly : Options → Msg → Bool
is_poly o (KeyPressure c k v) = is_mpe o.route && is_part o c
  where
    is_mpe : Route → Bool
    is_mpe ByMpe = true
    is_mpe _ = false
is_poly o _ = false

-- ---- the first that holds

abbrev pub first_that : List (Kind × Bool) → Option Kind
first_that [] = None
first_that (x ∷ xs) = if x.1 then Some x.0 else first_that xs
