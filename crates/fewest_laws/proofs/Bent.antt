-- The output of the bend route uses the fewest channels.
use Rattle.std.proofs.Common.{◌≡◌, ◌≤◌, ℕ, List, Bool, nat_eq, refl, ap, sym, ◌∙◌, subst, length, get_or, arith}
use Rattle.std.specs.List.{AllByRecursion, IsDistinct}
use Rattle.std.proofs.lemmas.Bool.{ne_eqb}
use Rattle.std.proofs.lemmas.Grind.{get_or_default_zero}
use Rattle.std.proofs.lemmas.List.{length-take-le}
use Rattle.std.proofs.lemmas.Map.Keys.{IsDistinct-from_apart}
use Rattle.mt_base.specs.Midi.{MidiEvent}
use Rattle.midi_model.specs.MusicLaws.{NotesAge}
use Rattle.retune_model.specs.Options.{Options}
use Rattle.retune_model.specs.Faults.{Targets, is_part}
use Rattle.retune_model.specs.NeedLaws.{CountingFindsNeed}
use Rattle.retune_model.specs.Pairs.{Pair}
use Rattle.retune_model.specs.PortNeed.{need_of, pairs_on}
use Rattle.retune_model.specs.Ports.{port_at, events_on}
use Rattle.retune_model.specs.RunLaws.{NeedIsDetermined}
use Rattle.channel_model.specs.BendOutput.{runs_on, bend_output}
use Rattle.channel_model.specs.Laws.{ShortestIsFree}
use Rattle.channel_model.specs.Rows.{allowed_row, used_row, IsBendPlan}
use Rattle.bend_laws.specs.Bent.{uses, IsBent, IsOnUsed}
use Rattle.bend_laws.specs.FileLaws.{NotesAreOnTheirChannels, BentIsOnTheRow}
use Rattle.bend_laws.proofs.Rows.{lane_apart}
use Rattle.retune_model.proofs.Moments.{timely}
use Rattle.fewest_laws.specs.Fewest.{IsFewestOn, channels_read}
use Rattle.fewest_laws.specs.Laws.{BentUsesFewest}
use Rattle.fewest_laws.specs.Using.{AreOfRuns}
use Rattle.fewest_laws.proofs.Reading.{planned_named, named_read}
use Rattle.fewest_laws.proofs.Using.{UsingLaws, uses_fewest}

-- What it rests on, as contracts have it.
pub record BentLaws : Type 0 where
  pub using : UsingLaws
  pub channels : NotesAreOnTheirChannels
  pub on_row : BentIsOnTheRow
  pub free : ShortestIsFree
  pub counted : CountingFindsNeed
  pub determined : NeedIsDetermined
  pub age : NotesAge

row_apart : (o : Options) (allowed : ℕ → Bool) (n : ℕ) → n ≤ length (allowed_row o allowed) → length (used_row o allowed n) ≡ n
    → IsDistinct nat_eq (used_row o allowed n)
row_apart o allowed n within many =
    let row = used_row o allowed n in
    IsDistinct-from_apart nat_eq row (λ i j d less low.
    ne_eqb (get_or row i d) (get_or row j d) (λ e. (
    let same : i ≡ j = lane_apart o allowed n within i j (omega (arith, less, low, many)) (omega (arith, low, many))
    (sym (get_or_default_zero row i d (omega (arith, less, low))) ∙ e ∙ get_or_default_zero row j d low) in
    absurd (omega (arith, less, same)))))

-- with the need of the plan, which is what is counted
by_need : BentLaws → (o : Options) (allowed : ℕ → Bool) (table : Targets) (es : List MidiEvent) (need : ℕ → ℕ) (channel : ℕ → ℕ → Pair → ℕ)
    → IsBent o allowed table es need channel → (z instant : ℕ) (place : ℕ → ℕ) → IsBendPlan o allowed table es z (need_of o (is_part o) table es z).0
    instant place (channel z)
    → need z ≡ (need_of o (is_part o) table es z).0 → IsFewestOn o allowed table es (bend_output o table channel es) z
by_need laws o allowed table es need channel b z instant place plan same =
    let n = (need_of o (is_part o) table es z).0 in
    let port = port_at es z in
    let row = used_row o allowed n in
    let aimed = laws.using.aimed o (is_part o) table es z (λ c h. h) b.sound in
    let read = named_read o (is_part o) table port (channel z) (timely laws.age port aimed.timed) aimed.aimed (length es) (length es) (omega arith) in
    let is = laws.channels o allowed table es need channel b z ∙ planned_named o table port (runs_on o table es channel z) aimed.timed.ascend refl
    (length es) in
    let many : length row ≡ n = length-take-le n (allowed_row o allowed) plan.within in
    let runs : AreOfRuns o (is_part o) table es z row place (channels_read o es (bend_output o table channel es) z) =
    λ i l. ap (λ cs. get_or cs i 0) is ∙ read.each i l ∙ plan.given _ _ in
    record {
      channels = uses_fewest laws.using o (is_part o) table es z n (need_of o (is_part o) table es z).1 row place
          (channels_read o es (bend_output o table channel es) z)
          (λ c h. h) b.sound (laws.counted o (is_part o) table es z) (laws.free o table es z n place plan.takes) many
          (row_apart o allowed n plan.within many) (ap length is ∙ read.all) runs;
      no_other = subst (λ m. AllByRecursion (IsOnUsed o (uses o allowed m)) (events_on z (bend_output o table channel es))) same
          (laws.on_row o allowed table es need channel b z);
      place = place;
      chosen = plan.takes;
      runs = runs;
    }

pub bent_uses_fewest : BentLaws → BentUsesFewest
bent_uses_fewest laws o allowed table es need channel b z =
    let p = b.ports z in
    let counted = laws.counted o (is_part o) table es z in
    let same : need z ≡ (need_of o (is_part o) table es z).0 =
    (laws.determined (pairs_on o (is_part o) table es z) (length es) (need z) (need_of o (is_part o) table es z).0 p.instant
    (need_of o (is_part o) table es z).1 p.plan.need counted).0 in
    by_need laws o allowed table es need channel b z p.instant p.row
    (subst (λ n. IsBendPlan o allowed table es z n p.instant p.row (channel z)) same p.plan) same
