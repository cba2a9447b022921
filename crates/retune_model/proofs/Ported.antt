-- A translation port by port is one translation, in whose mind are the ports so far and what each port keeps.
use Rattle.std.proofs.Common.{◌≡◌, ◌∙◌, ℕ, suc, List, [], ◌∷◌, ◌++◌, Bool, true, false, cond, refl, ap}
use Rattle.std.specs.List.{AllByRecursion, filter}
use Rattle.std.proofs.lemmas.List.Elements.{filter-append}
use Rattle.mt_base.specs.Midi.{MidiEvent}
use Rattle.retune_model.specs.Ports.{Numbered, port_of, ports_after}
use Rattle.retune_model.specs.PortOutput.{kept_for, through_ports_from}
use Rattle.retune_model.specs.Blocks.{Block, written}
use Rattle.retune_model.specs.Routes.{translated}

pub record Kept (S : Type 0) : Type 0 where
  pub ports : ℕ → ℕ
  pub kept : ℕ → S

abbrev pub kept_block : {S : Type 0} → (ℕ → S → MidiEvent → Block) → Kept S → MidiEvent → Block
kept_block block s e = block (port_of s.ports e) (s.kept (port_of s.ports e)) e

abbrev pub kept_next : {S : Type 0} → (ℕ → S → MidiEvent → S) → Kept S → MidiEvent → Kept S
kept_next next s e = let z = port_of s.ports e in record { ports = ports_after s.ports e; kept = kept_for z (next z (s.kept z) e) s.kept }

pub as_translated : {S : Type 0} (block : ℕ → S → MidiEvent → Block) (next : ℕ → S → MidiEvent → S) (ports : ℕ → ℕ) (k : ℕ) (s : ℕ → S) (es : List MidiEvent)
    → through_ports_from (λ z x (n : Numbered). written (block z x n.event)) (λ z x (n : Numbered). next z x n.event) ports k s es ≡ translated (kept_block block) (kept_next next) (record { ports = ports; kept = s }) es
as_translated block next ports k s [] = refl
as_translated block next ports k s (e ∷ es) =
    let z : ℕ = port_of ports e in
    ap (λ l. written (block z (s z) e) ++ l) (as_translated block next (ports_after ports e) (suc k) (kept_for z (next z (s z) e) s) es)

-- ---- what a test lets through of the source's events alone
pub passed : {S : Type 0} (test test2 : MidiEvent → Bool) (block : S → MidiEvent → Block) (next : S → MidiEvent → S) → ((s : S) (e : MidiEvent) → filter test (written (block s e)) ≡ cond (test e) (e ∷ []) [])
    → (s : S) (es : List MidiEvent) → AllByRecursion (λ e. test e ≡ test2 e) es → filter test (translated block next s es) ≡ filter test2 es
passed test test2 block next alone s [] same = refl
passed test test2 block next alone s (e ∷ es) same =
    filter-append test (written (block s e)) (translated block next (next s e) es)
    ∙ ap (λ l. l ++ filter test (translated block next (next s e) es)) (alone s e)
    ∙ ap (λ l. cond (test e) (e ∷ []) [] ++ l) (passed test test2 block next alone (next s e) es same.1)
    ∙ ap (λ c. cond c (e ∷ []) [] ++ filter test2 es) same.0
    ∙ joined (test2 e)
  where
    joined : (c : Bool) → cond c (e ∷ []) [] ++ filter test2 es ≡ cond c (e ∷ filter test2 es) (filter test2 es)
    joined true = refl
    joined false = refl
