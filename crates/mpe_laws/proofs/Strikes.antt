-- What a note on of a part causes once the setup stands: the bend of its member, where that is another, and the note there.
use Rattle.std.proofs.Common.{◌≡◌, ℕ, zero, suc, pos, ◌+ℤ◌, Bool, true, false, nat_eq, List, [], ◌∷◌, ◌++◌, Option, Some, None, refl, ap, ◌∙◌, subst, map}
use Rattle.std.specs.List.{AllByRecursion}
use Rattle.std.specs.Set.{is_member}
use Rattle.std.proofs.lemmas.Bool.{cond_both}
use Rattle.mt_base.specs.declared.event.Msg.{Msg}
use Rattle.mt_base.specs.declared.event.Msg.TheVariants.{NoteOn, NoteOff, KeyPressure, Control, Program, Pressure, Bend}
use Rattle.midi_model.specs.Notes.{Note, sounds, cut_off}
use Rattle.midi_model.specs.Music.{Music, channel_at, step}
use Rattle.retune_model.specs.Table.{BendTarget}
use Rattle.retune_model.specs.Options.{Options}
use Rattle.retune_model.specs.PlaysTheSame.{bend_target_if}
use Rattle.retune_model.specs.Faults.{Targets, is_part, target_of}
use Rattle.retune_model.specs.Pairs.{Pair, is_same_pair}
use Rattle.channel_model.specs.Choice.{bend_value}
use Rattle.channel_model.specs.BendOutput.{pair_with, pressed_note}
use Rattle.channel_model.specs.MpeOutput.{Zone, zone_of, master_of, member_begins, zone_causes, in_zone}
use Rattle.bend_laws.specs.Moments.{Moment}
use Rattle.bend_laws.specs.Follows.{Has, IsAmong}
use Rattle.bend_laws.proofs.Given.{IsFine, fine}
use Rattle.bend_laws.proofs.Changing.{said_at}
use Rattle.bend_laws.proofs.Striking.{new_note, struck, strikes_note}
use Rattle.bend_laws.proofs.Beginning.{last_of}
use Rattle.bend_laws.proofs.Planned.{NoNote, NoNotes, released_none}
use Rattle.mpe_laws.specs.Zoned.{AreZones, IsMember}
use Rattle.mpe_laws.specs.Follows.{Follows, IsGiven}
use Rattle.mpe_laws.proofs.Struck.{aimed, bend_first}

-- the note's pair is there, its member is one of its part's zone, and this is what is written
pub record IsStruck (port : ℕ) (o : Options) (table : Targets) (zones : List Zone) (k : Moment) (m y : Music) (t c j v : ℕ) : Type 0 where
  pub aim : BendTarget
  pub aims : bend_target_if o.range (table j t) ≡ Some aim
  pub there : Has k.is (pair_with port c aim)
  pub member : IsMember zones (pair_with port c aim) (k.new (pair_with port c aim))
  pub is : in_zone port o table k.was m y k.old k.new t (NoteOn c j (suc v)) (zone_of c zones)
      ≡ bend_first k y (pair_with port c aim) (is_member is_same_pair k.was (pair_with port c aim))
      ++ NoteOn (k.new (pair_with port c aim)) aim.key (suc v) ∷ []

pub strikes_at : (port : ℕ) (o : Options) (table : Targets) (zones : List Zone) → AreZones o zones → (k : Moment) (m y : Music) (t track c j v : ℕ) →
    is_part o c ≡ true → Follows port o table zones k.old k.was m y →
    IsGiven port o table zones k m (said_at t track (NoteOn c j (suc v))) → IsStruck port o table zones k m y t c j v
strikes_at port o table zones row k m y t track c j v part follows given =
    let msg : Msg = NoteOn c j (suc v) in
    let after : Music = step m (said_at t track msg) in
    let fit : IsFine port o table m after k.is t msg = fine port o table m after k.is t msg given.faultless in
    let target = aimed o table t c j v row.route part fit.mapped fit.in_device in
    let p : Pair = pair_with port c target.0 in
    let later : Note → Type 0 = λ a. is_part o a.channel ≡ true → sounds a ≡ true → IsAmong port k.is a.channel (target_of o table a) in
    let there : AllByRecursion later (struck m t c j (suc v)).notes = subst (λ (n : Music). AllByRecursion later n.notes)
    (strikes_note m t c j v follows.source_zones follows.source_settled) given.there in
    let here : Has k.is p = subst (IsAmong port k.is c) target.1
    (last_of later (map (cut_off t c j) m.notes) (new_note m t c j (suc v)) there part refl) in
    let member : IsMember zones p (k.new p) = given.member_is p here in
    record {
      aim = target.0;
      aims = target.1;
      there = here;
      member = member;
      is = ap (in_zone port o table k.was m y k.old k.new t msg) member.of ∙ ap (member_begins port o k.was y k.new c (suc v)) target.1;
    }

pub bend_none : (k : Moment) (y : Music) (p : Pair) (there : Bool) → NoNotes (bend_first k y p there)
bend_none k y p true = tt
bend_none k y p false =
    let b : ℕ = bend_value (pos 8192 +ℤ p.steps) in
    cond_both (nat_eq (channel_at y (k.new p)).bend b) [] (Bend (k.new p) b ∷ []) NoNotes (λ e. tt) (λ e. (tt, tt))

-- any other message of a part begins no note
zone_none : (port : ℕ) (o : Options) (table : Targets) (there : List Pair) (m y : Music) (was is : Pair → ℕ) (g t : ℕ) (msg : Msg) → NoNote msg →
    NoNotes (zone_causes port o table there m y was is g t msg)
zone_none port o table there m y was is g t (NoteOn c j zero) h =
    released_none port o table was (λ d i. NoteOn d i 0) (λ d i. tt) c (pressed_note c j m.notes)
zone_none port o table there m y was is g t (NoteOn c j (suc v)) h = absurd h
zone_none port o table there m y was is g t (NoteOff c j v) h =
    released_none port o table was (λ d i. NoteOff d i v) (λ d i. tt) c (pressed_note c j m.notes)
zone_none port o table there m y was is g t (KeyPressure c j v) h = (tt, tt)
zone_none port o table there m y was is g t (Control c n v) h = (tt, tt)
zone_none port o table there m y was is g t (Program c p) h = (tt, tt)
zone_none port o table there m y was is g t (Pressure c v) h = (tt, tt)
zone_none port o table there m y was is g t (Bend c v) h = (tt, tt)

pub caused_none : (port : ℕ) (o : Options) (table : Targets) (there : List Pair) (m y : Music) (was is : Pair → ℕ) (t : ℕ) (msg : Msg)
    (u : Option Zone) → NoNote msg → NoNotes (in_zone port o table there m y was is t msg u)
caused_none port o table there m y was is t msg None h = tt
caused_none port o table there m y was is t msg (Some z) h = zone_none port o table there m y was is (master_of z) t msg h
