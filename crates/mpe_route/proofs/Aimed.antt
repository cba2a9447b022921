-- What the program makes of a note, and of the messages that are about it, is what the definitions make of it.
use Rattle.std.proofs.Common.{◌≡◌, ◌≤◌, ℕ, suc, pos, ◌+ℤ◌, Bool, true, false, not, cond, List, Option, Some, None, is_some, refl, sym, ap, ◌∙◌}
use Rattle.mt_base.specs.declared.event.Msg.{Msg}
use Rattle.mt_base.specs.declared.pair.Part.{Part as PartOf}
use Rattle.mt_base.specs.declared.event.Msg.TheVariants.{NoteOn}
use Rattle.mt_base.specs.Midi.{Says, MidiEvent}
use Rattle.midi_model.specs.Notes.{Note, sounding_on}
use Rattle.retune_model.specs.Table.{Bounds, BendTarget, bend_target}
use Rattle.retune_model.specs.Options.{Options, bends_notes}
use Rattle.retune_model.specs.PlaysTheSame.{bend_target_if}
use Rattle.retune_model.specs.Faults.{Targets, is_part, target_of}
use Rattle.retune_model.specs.Pairs.{Pair}
use Rattle.channel_model.specs.Choice.{bend_value}
use Rattle.channel_model.specs.BendOutput.{pair_with, pressed_note, off_at, note_released}
use Rattle.key_pitch.specs.declared.aim.Aim.TheVariants as aims
use Rattle.key_pitch.specs.Aims.{on_bend, bend_aim, tuning_aim}
use Rattle.receiver.specs.Sounding.{sounding_at}
use Rattle.lifetimes.specs.Told.{music_on, told_of, begun_as, begun_by, aim_in, aim_steps, number_of}
use Rattle.channel_plan.specs.Told.{channel_in}
use Rattle.channel_plan.specs.declared.plan.Plan.{Plan}
use Rattle.mpe_route.specs.declared.caused.Played.{Played}
use Rattle.mpe_route.specs.Caused.{played_on, played_if, down_of, released_at, released_as}
use Rattle.mpe_route.proofs.Released.{pressed_by, pressed_is}

-- a note with a target, on a channel
abbrev pub played_to : ℕ → BendTarget → Played
played_to d t = record { channel = d; key = t.key; bend = bend_value (pos 8192 +ℤ t.steps) }

abbrev pub aimed : Option ℕ → Option BendTarget → Option Played
aimed (Some d) (Some t) = Some (played_to d t)
aimed None (Some t) = None
aimed d None = None

unaimed : (d : Option ℕ) → played_on d aims.Unmapped ≡ None
unaimed (Some d) = refl
unaimed None = refl

beyond : (d : Option ℕ) → played_on d aims.OutOfDevice ≡ None
beyond (Some d) = refl
beyond None = refl

on_target : (d : Option ℕ) (x : Option BendTarget) → played_on d (on_bend x) ≡ aimed d x
on_target (Some d) (Some t) = refl
on_target None (Some t) = refl
on_target d None = beyond d

pub played_is : (o : Options) (table : Targets) (d : Option ℕ) (k t : ℕ) → bends_notes o.route ≡ true
    → played_on d (aim_in o table k t) ≡ aimed d (bend_target_if o.range (table k t))
played_is o table d k t bends =
    ap (λ b. played_on d (cond b (bend_aim o.range (table k t)) (tuning_aim (table k t)))) bends ∙ by_bounds (table k t)
  where
    by_bounds : (b : Option Bounds) → played_on d (bend_aim o.range b) ≡ aimed d (bend_target_if o.range b)
    by_bounds None = unaimed d
    by_bounds (Some b) = on_target d (bend_target o.range b)

-- the note that a note on of a part begins, as the n-th
pub note_begun : (o : Options) (table : Targets) (plan : Plan) (z t c j v n : ℕ) → bends_notes o.route ≡ true → is_part o c ≡ true
    → played_if plan (begun_by o table z n t (Says (NoteOn c j (suc v)))) ≡ aimed (channel_in plan n) (bend_target_if o.range (table j t))
note_begun o table plan z t c j v n bends part =
    ap (λ b. played_if plan (cond b (Some (record {
      note = n;
      pair = record { part = record { port = z; channel = c }; steps = aim_steps o table j t };
      key = j;
      target = aim_in o table j t;
    })) None)) part
    ∙ played_is o table (channel_in plan n) j t bends

-- a note on of another channel begins none
pub note_not_begun : (o : Options) (table : Targets) (plan : Plan) (z t c j v n : ℕ) → is_part o c ≡ false
    → played_if plan (begun_by o table z n t (Says (NoteOn c j (suc v)))) ≡ None
note_not_begun o table plan z t c j v n part =
    ap (λ b. played_if plan (cond b (Some (record {
      note = n;
      pair = record { part = record { port = z; channel = c }; steps = aim_steps o table j t };
      key = j;
      target = aim_in o table j t;
    })) None)) part

-- ---- a note off

-- where the plan gives the note that sounds the channel of its pair
pub released_is : (o : Options) (table : Targets) (front : List MidiEvent) (plan : Plan) (z c k : ℕ) (was : Pair → ℕ) (off : ℕ → ℕ → Msg)
    → bends_notes o.route ≡ true → is_part o c ≡ true → sounding_on c k (music_on z front).notes ≤ 1
    → ((x : ℕ × Note) (t : BendTarget) → sounding_at (music_on z front).notes c k ≡ Some x → target_of o table x.1 ≡ Some t
    → (let p : PartOf = record { port = z; channel = c } in channel_in plan (number_of o p k front) ≡ Some (was (pair_with z c t))))
    → note_released z o table was off c (pressed_note c k (music_on z front).notes)
    ≡ released_as off (released_at o table front plan z (Some (c, k)))
released_is o table front plan z c k was off bends part one channel =
    ap (note_released z o table was off c) (pressed_is c k 1 ns one)
    ∙ by_sounding (sounding_at ns c k) channel
    ∙ sym (ap (λ b. released_as off (played_if plan (down_of (cond b (told_of o table front p k (sounding_at ns c k)) None)))) part)
  where
    ns : List Note
    ns = (music_on z front).notes

    p : PartOf
    p = record { port = z; channel = c }

    by_target : (x : ℕ × Note) (u : Option BendTarget) → target_of o table x.1 ≡ u
        → ((t : BendTarget) → u ≡ Some t → channel_in plan (number_of o p k front) ≡ Some (was (pair_with z c t)))
        → off_at z was off c u ≡ released_as off (aimed (channel_in plan (number_of o p k front)) u)
    by_target x (Some t) is channel = sym (ap (λ d. released_as off (aimed d (Some t))) (channel t refl))
    by_target x None is channel = refl

    by_release : (x : ℕ × Note) (b : Bool)
        → ((t : BendTarget) → target_of o table x.1 ≡ Some t → channel_in plan (number_of o p k front) ≡ Some (was (pair_with z c t)))
        → note_released z o table was off c (cond b (Some x.1) None)
        ≡ released_as off (played_if plan (down_of (Some (begun_as o table p (number_of o p k front) x.1, b))))
    by_release x true channel =
        by_target x (target_of o table x.1) refl channel
        ∙ sym (ap (released_as off) (played_is o table (channel_in plan (number_of o p k front)) x.1.key x.1.onset bends))
    by_release x false channel = refl

    by_sounding : (s : Option (ℕ × Note))
        → ((x : ℕ × Note) (t : BendTarget) → s ≡ Some x → target_of o table x.1 ≡ Some t
        → channel_in plan (number_of o p k front) ≡ Some (was (pair_with z c t)))
        → note_released z o table was off c (pressed_by s) ≡ released_as off (played_if plan (down_of (told_of o table front p k s)))
    by_sounding None channel = refl
    by_sounding (Some x) channel = by_release x (not (is_some x.1.release)) (λ t is. channel x t refl is)
