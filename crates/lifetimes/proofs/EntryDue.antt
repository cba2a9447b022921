-- What data entry can be: a bend that goes too far, or by the parameter that it writes to.
use Rattle.std.proofs.Common.{◌≡◌, ◌∙◌, ℕ, suc, ℤ, List, [], ◌∷◌, ◌++◌, Bool, true, false, cond, ◌&&◌, ◌||◌, Option, Some, None, is_some, length, refl, sym, ap}
use Rattle.std.specs.Option.{option_map, option_or}
use Rattle.mt_base.specs.Midi.{MidiEvent, Says}
use Rattle.midi_model.specs.Channel.{Channel, Selection}
use Rattle.midi_model.specs.Music.{Music, channel_at}
use Rattle.retune_model.specs.Options.{Options}
use Rattle.retune_model.specs.Source.{bend_in_steps}
use Rattle.retune_model.specs.Ports.{of_port, port_at, music_at}
use Rattle.retune_model.specs.Faults.{Targets, Kind, BendTooFar, ModeMessage, DataStep, TuningInSource, MpeSource, is_part, is_bend, is_selected}
use Rattle.retune_model.specs.Pairs.{Pair}
use Rattle.retune_model.specs.Rests.{pairs_at}
use Rattle.retune_model.specs.SourceFaults.{first_beyond, bend_of}
use Rattle.lifetimes.specs.Told.{told_kind}
use Rattle.lifetimes.specs.Due.{bend_due, early_due, plainly, too_far, with_bend}
use Rattle.lifetimes.specs.Entry.{entry, entry_kind}
use Rattle.lifetimes.specs.declared.fault.SourceKind.{SourceKind}

pub told_or : (a b : Option SourceKind) → told_kind (option_or a b) ≡ option_or (told_kind a) (told_kind b)
told_or None b = refl
told_or (Some a) b = refl

-- the first of the kinds that there are
first_of : (bends part tuning zone : Bool) (found : Option (ℤ × ℤ)) (told : Kind → Kind × Option (ℤ × ℤ)) → part ≡ true
    → told BendTooFar ≡ (BendTooFar, found) → told TuningInSource ≡ (TuningInSource, None) → told MpeSource ≡ (MpeSource, None)
    → option_or (cond bends (too_far found) None) (plainly (cond tuning (Some TuningInSource) (cond zone (Some MpeSource) None)))
    ≡ option_map told (cond (bends && (part && is_some found)) (Some BendTooFar) (cond (part && false) (Some ModeMessage)
    (cond (part && false) (Some DataStep) (cond (part && tuning) (Some TuningInSource) (cond (part && zone) (Some MpeSource) None)))))
first_of bends false tuning zone found told part b t z = absurd cc
first_of true true tuning zone (Some x) told part b t z = ap Some (sym b)
first_of true true true zone None told part b t z = ap Some (sym t)
first_of true true false true None told part b t z = ap Some (sym z)
first_of true true false false None told part b t z = refl
first_of false true true zone found told part b t z = ap Some (sym t)
first_of false true false true found told part b t z = ap Some (sym z)
first_of false true false false found told part b t z = refl

pub entry_due : (o : Options) (table : Targets) (es : List MidiEvent) (e : MidiEvent) (z c : ℕ) (is_high : Bool) (v : ℕ) (s : Channel) (r : ℤ)
    → e.what ≡ Says (entry c is_high v) → is_part o c ≡ true → s ≡ channel_at (music_at (of_port z (es ++ e ∷ [])) (length es)) c
    → r ≡ bend_in_steps o.range (channel_at (music_at (of_port z (es ++ e ∷ [])) (suc (length es))) c)
    → option_or (bend_due o table es e z c r) (plainly (entry_kind s.selection)) ≡ early_due o table es e z (entry c is_high v)
entry_due o table es e z c is_high v s r is part same moved =
    ap (λ (x : Channel). option_or (bend_due o table es e z c r) (plainly (entry_kind x.selection))) same
    ∙ (ap (λ x. option_or (bend_due o table es e z c x) (plainly (entry_kind to))) moved ∙ pick is_high is)
  where
    before : Music
    before = music_at (of_port z (es ++ e ∷ [])) (length es)

    now : Music
    now = music_at (of_port z (es ++ e ∷ [])) (suc (length es))

    pairs : List Pair
    pairs = pairs_at o (is_part o) table (port_at (es ++ e ∷ []) z) (suc (length es))

    to : Selection
    to = (channel_at before c).selection

    found : Option (ℤ × ℤ)
    found = first_beyond (record { port = z; channel = c }) (bend_in_steps o.range (channel_at now c)) pairs

    pick : (h : Bool) → e.what ≡ Says (entry c h v)
        → option_or (bend_due o table es e z c (bend_in_steps o.range (channel_at now c))) (plainly (entry_kind to))
        ≡ early_due o table es e z (entry c h v)
    pick true at = first_of (is_bend o.route) (is_part o c) (is_selected 3 to || is_selected 4 to) (is_selected 6 to) found
        (with_bend o table es e z) part (ap (λ w. (BendTooFar, bend_of z o now pairs BendTooFar w)) at) refl refl
    pick false at = first_of (is_bend o.route) (is_part o c) (is_selected 3 to || is_selected 4 to) (is_selected 6 to) found
        (with_bend o table es e z) part (ap (λ w. (BendTooFar, bend_of z o now pairs BendTooFar w)) at) refl refl
