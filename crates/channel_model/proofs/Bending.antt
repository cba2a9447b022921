-- A block of the bend route stands beside its event.
use Rattle.std.proofs.Common.{◌≡◌, ℕ, List, [], ◌∷◌, Bool, true, false, cond, None, refl, ap, sym, ◌∙◌, subst, map, inl, inr}
use Rattle.std.specs.Prelude.{◌⊎◌}
use Rattle.std.specs.List.{AllByRecursion}
use Rattle.mt_base.specs.declared.event.Msg.{Msg}
use Rattle.mt_base.specs.Midi.{MidiWhat, Says, SysexOf, MetaOf, MidiEvent, channel_of}
use Rattle.midi_model.specs.Music.{Music, step}
use Rattle.retune_model.specs.Options.{Options}
use Rattle.retune_model.specs.Ports.{named_port}
use Rattle.retune_model.specs.Faults.{Targets, is_part}
use Rattle.retune_model.specs.Pairs.{Pair}
use Rattle.retune_model.specs.PortOutput.{IsBeside}
use Rattle.channel_model.specs.BendOutput.{part_causes, bend_causes, placed_at, bend_block}

placed_in : (e : MidiEvent) (ws : List MidiWhat) → AllByRecursion (λ x. x.track ≡ e.track) (placed_at e ws)
placed_in e [] = tt
placed_in e (w ∷ ws) = (refl, placed_in e ws)

said_plain : (e : MidiEvent) (ms : List Msg) → AllByRecursion (λ x. named_port x.what ≡ None) (placed_at e (map Says ms))
said_plain e [] = tt
said_plain e (m ∷ ms) = (refl, said_plain e ms)

pub bend_beside : (z : ℕ) (o : Options) (table : Targets) (there held : List Pair) (before out : Music) (was is : Pair → ℕ) (e : MidiEvent) → IsBeside e (bend_block z o table there held before out was is e)
bend_beside z o table there held before out was is e = record {
  in_track = placed_in e (bend_causes z o table there held before (step before e) out was is e.tick e.what);
  names = by_what e.what refl;
}
  where
    by_what : (w : MidiWhat) → e.what ≡ w → ((named_port e.what ≡ None) × AllByRecursion (λ x. named_port x.what ≡ None) (bend_block z o table there held before out was is e)) ⊎ (bend_block z o table there held before out was is e ≡ e ∷ [])
    by_what (Says m) g = inl (
      ap named_port g,
      subst (λ w. AllByRecursion (λ x. named_port x.what ≡ None) (placed_at e (bend_causes z o table there held before (step before e) out was is e.tick w))) (sym g) (pick (is_part o (channel_of m))),
    )
      where
        pick : (b : Bool) → AllByRecursion (λ x. named_port x.what ≡ None) (placed_at e (cond b (map Says (part_causes z o table there held before (step before e) out was is e.tick m)) (Says m ∷ [])))
        pick true = said_plain e (part_causes z o table there held before (step before e) out was is e.tick m)
        pick false = (refl, tt)
    by_what (SysexOf lead bytes) g = inr (ap (λ w. placed_at e (bend_causes z o table there held before (step before e) out was is e.tick w)) g ∙ ap (λ w. record e { what = w } ∷ []) (sym g))
    by_what (MetaOf kind bytes) g = inr (ap (λ w. placed_at e (bend_causes z o table there held before (step before e) out was is e.tick w)) g ∙ ap (λ w. record e { what = w } ∷ []) (sym g))
