-- The musics at a position are those of the port's events up to it, and of what is written for them.
use Rattle.std.proofs.Common.{◌≡◌, ℕ, zero, suc, List, [], ◌∷◌, ◌++◌, Option, Some, None, refl, ap, sym, ◌∙◌, subst, cond, arith, inl, inr}
use Rattle.std.proofs.lemmas.Bool.{cases_eq, eq-eqb, ne_eqb}
use Rattle.mt_base.specs.Midi.{MidiEvent}
use Rattle.midi_model.specs.Music.{quiet, play}
use Rattle.retune_model.specs.Options.{Options}
use Rattle.retune_model.specs.Faults.{Targets}
use Rattle.retune_model.specs.Ports.{Numbered, Ascend}
use Rattle.retune_model.specs.PortOutput.{through}
use Rattle.channel_model.specs.BendOutput.{PortRuns}
use Rattle.channel_model.specs.MpeOutput.{Zone, Zoned, unzoned, zoned_block, next_zoned}
use Rattle.bend_laws.specs.Positions.{port_event, up_to_position}
use Rattle.bend_laws.proofs.Playing.{play_append}
use Rattle.bend_laws.proofs.Outputs.{numbered_at, none_yet, one_more}
use Rattle.mpe_laws.specs.Positions.{zoned_next, zoned_at}

-- what is kept in mind after a list of events
abbrev pub zoned_over : Options → Targets → List Zone → PortRuns → Zoned → List Numbered → Zoned
zoned_over o table zones runs s [] = s
zoned_over o table zones runs s (n ∷ ns) = zoned_over o table zones runs (next_zoned o table zones runs s n) ns

over_append : (o : Options) (table : Targets) (zones : List Zone) (runs : PortRuns) (s : Zoned) (xs ys : List Numbered) →
    zoned_over o table zones runs s (xs ++ ys) ≡ zoned_over o table zones runs (zoned_over o table zones runs s xs) ys
over_append o table zones runs s [] ys = refl
over_append o table zones runs s (n ∷ ns) ys = over_append o table zones runs (next_zoned o table zones runs s n) ns ys

-- the event at a position
pub at_event : (ns : List Numbered) (k : ℕ) → (P : List Numbered → Option MidiEvent → Type 0) → P [] None →
    ((n : Numbered) → n.position ≡ k → P (n ∷ []) (Some n.event)) → P (numbered_at ns k) (port_event ns k)
at_event [] k P none some = none
at_event (n ∷ ns) k P none some = elim (cases_eq n.position k) [
  | inl e ↦ subst (λ b. P (cond b (n ∷ []) (numbered_at ns k)) (cond b (Some n.event) (port_event ns k))) (sym (eq-eqb n.position k e)) (some n e)
  | inr e ↦ subst (λ b. P (cond b (n ∷ []) (numbered_at ns k)) (cond b (Some n.event) (port_event ns k))) (sym (ne_eqb n.position k e))
      (at_event ns k P none some)
]

one_over : (o : Options) (table : Targets) (zones : List Zone) (runs : PortRuns) (ns : List Numbered) (k : ℕ) (s : Zoned) →
    zoned_over o table zones runs s (numbered_at ns (suc k)) ≡ zoned_next o table zones runs k s (port_event ns (suc k))
one_over o table zones runs ns k s = at_event ns (suc k)
    (λ xs x. zoned_over o table zones runs s xs ≡ zoned_next o table zones runs k s x) refl
    (λ n e. ap (λ j. next_zoned o table zones runs s (let m : Numbered = record { position = j; event = n.event } in m)) e)

pub over_is : (o : Options) (table : Targets) (zones : List Zone) (runs : PortRuns) (ns : List Numbered) → Ascend 0 ns → (k : ℕ) →
    zoned_over o table zones runs unzoned (up_to_position k ns) ≡ zoned_at o table zones runs ns k
over_is o table zones runs ns r zero = ap (zoned_over o table zones runs unzoned) (none_yet 0 ns r 0 (omega arith))
over_is o table zones runs ns r (suc k) =
    ap (zoned_over o table zones runs unzoned) (one_more 0 ns r k)
    ∙ over_append o table zones runs unzoned (up_to_position k ns) (numbered_at ns (suc k))
    ∙ ap (λ s. zoned_over o table zones runs s (numbered_at ns (suc k))) (over_is o table zones runs ns r k)
    ∙ one_over o table zones runs ns k (zoned_at o table zones runs ns k)

out_over : (o : Options) (table : Targets) (zones : List Zone) (runs : PortRuns) (s : Zoned) (ns : List Numbered) →
    (zoned_over o table zones runs s ns).out ≡ play s.out (through (zoned_block o table zones runs) (next_zoned o table zones runs) s ns)
out_over o table zones runs s [] = refl
out_over o table zones runs s (n ∷ ns) =
    let next : Zoned = next_zoned o table zones runs s n in
    out_over o table zones runs next ns
    ∙ sym (play_append s.out (zoned_block o table zones runs s n) (through (zoned_block o table zones runs) (next_zoned o table zones runs) next ns))

pub out_is : (o : Options) (table : Targets) (zones : List Zone) (runs : PortRuns) (ns : List Numbered) → Ascend 0 ns → (k : ℕ) →
    (zoned_at o table zones runs ns k).out
    ≡ play quiet (through (zoned_block o table zones runs) (next_zoned o table zones runs) unzoned (up_to_position k ns))
out_is o table zones runs ns r k = ap (λ (s : Zoned). s.out) (sym (over_is o table zones runs ns r k))
    ∙ out_over o table zones runs unzoned (up_to_position k ns)
