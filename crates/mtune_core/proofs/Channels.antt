-- How many channels have retuned notes.
use Rattle.std.proofs.Common.{◌≡◌, ◌<◌, ◌≤◌, ◌+◌, ◌-◌, ℕ, zero, suc, List, ◌∷◌, length, filter, Bool, true, false, cond, refl, sym, ap, ◌∙◌, arith}
use Rattle.mt_base.specs.Midi.{MidiEvent}
use Rattle.retune_model.specs.Options.{Options}
use Rattle.retune_model.specs.Ports.{events_on}
use Rattle.retune_model.specs.Dump.{from_up, parts_with_notes}
use Rattle.receiver.specs.Notes.{has}
use Rattle.lifetimes.specs.Noted.{AreNoted}
use Rattle.mtune_core.specs.Report.{channels_from}

-- the same numbers from one on that pass two tests which agree
same_passed : (f g : ℕ → Bool) (c n : ℕ) → ((i : ℕ) → i < c + n → f i ≡ g i) → filter f (from_up c n) ≡ filter g (from_up c n)
same_passed f g c zero same = refl
same_passed f g c (suc n) same =
    let here : f c ≡ g c = same c (omega arith) in
    let later = same_passed f g (c + 1) n (λ i lt. same i (omega (arith, lt))) in
    ap (λ b. cond b (c ∷ filter f (from_up (c + 1) n)) (filter f (from_up (c + 1) n))) here ∙ ap (λ cs. cond (g c) (c ∷ cs) cs) later

-- a mask has the channels of a port
pub mask_has : (o : Options) (es : List MidiEvent) (mask : ℕ) → AreNoted o es mask
    → length (filter (λ c. has mask c) (from_up 0 16)) ≡ length (parts_with_notes o es)
mask_has o es mask noted = ap length (same_passed (λ c. has mask c) _ 0 16 noted)

-- one number more that is looked at
counted_next : (f : ℕ → Bool) (c n count : ℕ) (b : Bool) → f c ≡ b
    → (count + cond b 1 0) + length (filter f (from_up (c + 1) n)) ≡ count + length (filter f (from_up c (suc n)))
counted_next f c n count true e = let is : length (filter f (from_up c (suc n))) ≡ suc (length (filter f (from_up (c + 1) n))) =
    ap (λ b. length (cond b (c ∷ filter f (from_up (c + 1) n)) (filter f (from_up (c + 1) n)))) e in omega (arith, is)
counted_next f c n count false e = let is : length (filter f (from_up c (suc n))) ≡ length (filter f (from_up (c + 1) n)) =
    ap (λ b. length (cond b (c ∷ filter f (from_up (c + 1) n)) (filter f (from_up (c + 1) n)))) e in omega (arith, is)

pub next_channel : (f : ℕ → Bool) (c count bit total : ℕ) → c < 16 → bit ≡ cond (f c) 1 0 → count + length (filter f (from_up c (16 - c))) ≡ total
    → (count + bit) + length (filter f (from_up (c + 1) (16 - (c + 1)))) ≡ total
next_channel f c count bit total low is inv =
    let n = 16 - (c + 1) in
    let same : 16 - c ≡ suc n = omega (arith, low) in
    ap (λ x. (count + x) + length (filter f (from_up (c + 1) n))) is ∙ counted_next f c n count (f c) refl
    ∙ ap (λ k. count + length (filter f (from_up c k))) (sym same) ∙ inv

pub bit_is_low : (b : Bool) → cond b 1 0 ≤ 1
bit_is_low true = omega arith
bit_is_low false = omega arith

-- and one port more
port_next : (o : Options) (es : List MidiEvent) (port n : ℕ) → channels_from o es port (suc n)
    ≡ length (parts_with_notes o (events_on port es)) + channels_from o es (port + 1) n
unfolding channels_from
port_next o es port n = refl

pub no_port : (o : Options) (es : List MidiEvent) (port : ℕ) → channels_from o es port 0 ≡ 0
unfolding channels_from
no_port o es port = refl

pub next_port : (o : Options) (es : List MidiEvent) (port count here total : ℕ) → port < 256 → here ≡ length (parts_with_notes o (events_on port es))
    → count + channels_from o es port (256 - port) ≡ total
    → (count + here) + channels_from o es (port + 1) (256 - (port + 1)) ≡ total
next_port o es port count here total low is inv =
    let n = 256 - (port + 1) in
    let same : 256 - port ≡ suc n = omega (arith, low) in
    let left : channels_from o es port (256 - port) ≡ here + channels_from o es (port + 1) n = ap (λ k. channels_from o es port k) same
    ∙ port_next o es port n ∙ ap (λ k. k + channels_from o es (port + 1) n) (sym is) in
    omega (arith, left, inv)
