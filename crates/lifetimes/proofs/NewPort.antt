-- A port before any event.
use Rattle.std.proofs.Common.{◌≡◌, ◌<◌, ◌∙◌, ℕ, zero, suc, List, [], ◌∷◌, Bool, true, false, ◌&&◌, length, get_or, refl, sym, ap, subst, arith}
use Rattle.std.specs.List.{AllByRecursion}
use Rattle.std.proofs.lemmas.Bool.{and_from}
use Rattle.retune_model.specs.Options.{Options}
use Rattle.retune_model.specs.Faults.{Targets, is_part}
use Rattle.retune_model.specs.Rests.{is_within_tail}
use Rattle.receiver.specs.Stands.{PlayerStands}
use Rattle.lifetimes.specs.declared.notes.Notes.{Notes}
use Rattle.lifetimes.specs.declared.port.Port.{Port}
use Rattle.lifetimes.specs.Lists.{ListsSounding}
use Rattle.lifetimes.specs.Resting.{end_kept}
use Rattle.lifetimes.specs.OnePart.{are_placed}
use Rattle.lifetimes.specs.Port.{all_placed}
use Rattle.lifetimes.specs.Stands.{PortStands, heard_on}
use Rattle.lifetimes.proofs.Placed.{none_listed}
use Rattle.lifetimes.proofs.PartEnding.{relisted}
use Rattle.lifetimes.proofs.EachPart.{first, port_lists, part_rests}

-- no note of a part sounds or rests
abbrev pub IsQuiet : Notes → Type 0
IsQuiet n = ListsSounding n.struck n.sounding.items (λ k. false) × (n.rests.items.items ≡ [])

quiet_at : (ns : List Notes) (c : ℕ) (d : Notes) → AllByRecursion IsQuiet ns → c < length ns → IsQuiet (get_or ns c d)
quiet_at [] c d q low = absurd (omega (arith, low))
quiet_at (n ∷ ns) zero d q low = q.0
quiet_at (n ∷ ns) (suc c) d q low = quiet_at ns c d q.1 (omega (arith, low))

pub quiet_placed : (ns : List Notes) → AllByRecursion IsQuiet ns → all_placed ns ≡ true
quiet_placed [] q = refl
quiet_placed (n ∷ ns) q = and_from (are_placed n.rests.items.items n.sounding.items) (all_placed ns)
    (ap (are_placed n.rests.items.items) (none_listed n.struck n.sounding.items q.0.0)) (quiet_placed ns q.1)

none_heard : (o : Options) → heard_on o 0 [] ≡ []
none_heard o = pick o.keep_drums
  where
    pick : (b : Bool) → heard_on (record o { keep_drums = b }) 0 [] ≡ []
    pick true = refl
    pick false = refl

and_false : (b : Bool) → (b && false) ≡ false
and_false true = refl
and_false false = refl

pub new_stands : (o : Options) (table : Targets) (port : Port) → port.number ≡ 0 → length port.parts ≡ 16 → AllByRecursion IsQuiet port.parts
    → PlayerStands port.player [] → PortStands o table [] port
new_stands o table port here many q s = record {
  player = subst (λ z. PlayerStands port.player (heard_on o z [])) (sym here) (subst (PlayerStands port.player) (sym (none_heard o)) s);
  struck = λ c k x low below is e. absurd cc;
  listed = λ c low. port_lists port c d _ many low
      (relisted (get_or port.parts c d).struck (get_or port.parts c d).sounding.items _ _ (quiet_at port.parts c d q (omega (arith, low, many))).0
      (λ k below. sym (and_false (is_part o c))));
  rests = λ c p t low is le.
      ap (λ rs. is_within_tail o.tail t (end_kept rs p)) (part_rests port c d many low ∙ (quiet_at port.parts c d q (omega (arith, low, many))).1);
}
  where
    d : Notes
    d = first port.parts (omega (arith, many))
