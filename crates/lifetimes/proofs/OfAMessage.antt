-- Whether a channel message breaks a rule of ports, by the place of its port.
use Rattle.std.proofs.Common.{◌≡◌, ◌≤◌, ◌<◌, ◌∙◌, ℕ, List, [], true, false, Option, length, sym, arith}
use Rattle.mt_base.specs.declared.event.Msg.{Msg}
use Rattle.mt_base.specs.Midi.{MidiEvent, Says}
use Rattle.retune_model.specs.Faults.{Targets}
use Rattle.retune_model.specs.Ports.{all_zero}
use Rattle.retune_model.specs.SourceFaults.{breaks_ports, ports_used}
use Rattle.lifetimes.specs.Stands.{place_of, numbers_in}
use Rattle.lifetimes.specs.Steps.{ComesNext}
use Rattle.lifetimes.specs.declared.port.Port.{Port}
use Rattle.lifetimes.specs.declared.port.Strike.{Strike}
use Rattle.lifetimes.specs.declared.source.Source.{Source}
use Rattle.lifetimes.proofs.Places.{at_most}
use Rattle.lifetimes.proofs.Fifth.{fits, full, of_message}

-- where its port has a place, it doesn't
pub breaks_none : (table : Targets) (s : Source) (es : List MidiEvent) (e : MidiEvent) (z i : ℕ) (strike : Option Strike) (msg : Msg) → ComesNext table s es e z strike
    → e.what ≡ Says msg → i ≡ place_of s z → i < 4 → breaks_ports es e ≡ false
breaks_none table s es e z i strike msg next is at low =
    let low_too : place_of s z < 4 = omega (arith, at, low) in
    of_message es e msg z is (sym next.at) ∙ fits z (numbers_in s) (ports_used all_zero [] es) next.stands.numbers low_too

-- where all four are others', it does
pub breaks_some : (table : Targets) (s : Source) (es : List MidiEvent) (e : MidiEvent) (z i : ℕ) (strike : Option Strike) (msg : Msg) → ComesNext table s es e z strike
    → e.what ≡ Says msg → i ≡ place_of s z → 4 ≤ i → breaks_ports es e ≡ true
breaks_some table s es e z i strike msg next is at high =
    let most : length (numbers_in s) ≤ s.used = at_most (λ (p : Port). p.number) s.used s.ports in
    let few = s.few in
    let high_too : 4 ≤ place_of s z = omega (arith, at, high) in
    of_message es e msg z is (sym next.at) ∙ full z (numbers_in s) (ports_used all_zero [] es) next.stands.numbers high_too (omega (arith, most, few))
