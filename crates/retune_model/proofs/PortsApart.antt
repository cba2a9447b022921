-- On dump and live each port of the output is the output for the port's events alone.
use Rattle.std.proofs.Common.{◌≡◌, ◌∙◌, ℕ, Bool, false, List, refl, ap}
use Rattle.std.specs.List.{AllByRecursion}
use Rattle.mt_base.specs.Midi.{MidiEvent}
use Rattle.midi_model.specs.Sysex.{doing}
use Rattle.retune_model.specs.Options.{Options}
use Rattle.retune_model.specs.Ports.{Numbered, NamesNoOther, all_zero, of_port, events_on}
use Rattle.retune_model.specs.Blocks.{written}
use Rattle.retune_model.specs.Routes.{Told, nothing_told, dump_block, dump_next, dump_output, live_block, live_next, live_output}
use Rattle.retune_model.specs.Dump.{dump_setup, live_setup, dumped, told_live}
use Rattle.retune_model.proofs.Numbering.{one_port}
use Rattle.retune_model.proofs.Through.{on_is, through_on, through_zero, through_translated, dump_beside, live_beside}

pub dump_on : (o : Options) (bytes : List ℕ) (es : List MidiEvent) (z : ℕ) → events_on z (dumped o bytes es) ≡ dump_output (dump_setup o bytes (events_on z es)) (events_on z es)
dump_on o bytes es z =
    on_is z all_zero 0 (dumped o bytes es)
    ∙ through_on (λ y (b : Bool) (n : Numbered). written (dump_block (dump_setup o bytes (events_on y es)) b n.event)) (λ y (b : Bool) (n : Numbered). dump_next b (doing n.event.what))
    (λ y b n. dump_beside (dump_setup o bytes (events_on y es)) b n.event) z all_zero 0 (λ y. false) es
    ∙ through_translated (dump_block (dump_setup o bytes (events_on z es))) (λ b e. dump_next b (doing e.what)) false (of_port z es)

pub live_on : (o : Options) (change : ℕ → List ℕ) (es : List MidiEvent) (z : ℕ) → events_on z (told_live o change es) ≡ live_output (live_setup o change (events_on z es)) (events_on z es)
live_on o change es z =
    on_is z all_zero 0 (told_live o change es)
    ∙ through_on (λ y (b : Told) (n : Numbered). written (live_block (live_setup o change (events_on y es)) b n.event)) (λ y (b : Told) (n : Numbered). live_next (live_setup o change (events_on y es)) b (doing n.event.what))
    (λ y b n. live_beside (live_setup o change (events_on y es)) b n.event) z all_zero 0 (λ y. nothing_told) es
    ∙ through_translated (live_block (live_setup o change (events_on z es))) (λ b e. live_next (live_setup o change (events_on z es)) b (doing e.what)) nothing_told (of_port z es)

-- where no event names another port than the first, the whole output is the first port's
pub dump_alone : (o : Options) (bytes : List ℕ) (es : List MidiEvent) → AllByRecursion NamesNoOther es → dumped o bytes es ≡ dump_output (dump_setup o bytes es) es
dump_alone o bytes es zeros =
    through_zero (λ y (b : Bool) (n : Numbered). written (dump_block (dump_setup o bytes (events_on y es)) b n.event)) (λ y (b : Bool) (n : Numbered). dump_next b (doing n.event.what)) all_zero 0 (λ y. false) es (λ t. refl) zeros
    ∙ through_translated (dump_block (dump_setup o bytes (events_on 0 es))) (λ b e. dump_next b (doing e.what)) false (of_port 0 es)
    ∙ ap (λ l. dump_output (dump_setup o bytes l) l) (one_port all_zero 0 es (λ t. refl) zeros)

pub live_alone : (o : Options) (change : ℕ → List ℕ) (es : List MidiEvent) → AllByRecursion NamesNoOther es → told_live o change es ≡ live_output (live_setup o change es) es
live_alone o change es zeros =
    through_zero (λ y (b : Told) (n : Numbered). written (live_block (live_setup o change (events_on y es)) b n.event)) (λ y (b : Told) (n : Numbered). live_next (live_setup o change (events_on y es)) b (doing n.event.what)) all_zero 0 (λ y. nothing_told) es (λ t. refl) zeros
    ∙ through_translated (live_block (live_setup o change (events_on 0 es))) (λ b e. live_next (live_setup o change (events_on 0 es)) b (doing e.what)) nothing_told (of_port 0 es)
    ∙ ap (λ l. live_output (live_setup o change l) l) (one_port all_zero 0 es (λ t. refl) zeros)
