-- The channels of a mask.
use Rattle.std.proofs.Common.{◌≡◌, ◌≢◌, ◌<◌, ◌≤◌, ◌^◌, ◌*◌, ◌%◌, ◌+◌, ◌-◌, ℕ, zero, suc, List, [], ◌∷◌, ◌++◌, Bool, true, false, cond, not, ◌&&◌, ◌||◌, filter, length, nat_eq, bit_and, refl, ap, sym, ◌∙◌, arith, inl, inr}
use Rattle.std.specs.List.{AllByRecursion}
use Rattle.std.specs.Int.{bit_at, trailing_zeros, w16}
use Rattle.std.proofs.lemmas.Bool.Decides.{eqb_tells}
use Rattle.std.proofs.lemmas.Bool.{and_parts, eq-eqb}
use Rattle.std.proofs.lemmas.Nat.{one_shl, pow_pos}
use Rattle.std.proofs.lemmas.Nat.Bits.{bit_at-lt, and_pow, bit_at-trailing_zeros, bit_at-zero}
use Rattle.mt_base.specs.declared.event.Msg.TheVariants.{NoteOn, NoteOff, KeyPressure, Control, Program, Pressure, Bend}
use Rattle.mt_base.specs.Midi.{MidiWhat, Says, SysexOf, MetaOf, MidiEvent}
use Rattle.mt_base.specs.Valid.{IsValidEvent, IsValidWhat}
use Rattle.retune_model.specs.Options.{Options}
use Rattle.retune_model.specs.PlaysTheSame.{begins_note}
use Rattle.retune_model.specs.Faults.{is_part}
use Rattle.retune_model.specs.Ports.{with_event, of_port_from, unnumbered, events_on, port_of, ports_after, all_zero}
use Rattle.retune_model.specs.Dump.{has_note_on, from_up, parts_with_notes}
use Rattle.receiver.specs.Notes.{has}
use Rattle.lifetimes.specs.Noted.{AreNoted}
use Rattle.routes.specs.Device.{channels_in, selection_if, selections}

-- ---- one bit of a mask

tested : (w a c : ℕ) → c < w → bit_and a (1 * 2 ^ c % 2 ^ w) ≡ bit_at a c * 2 ^ c
tested w a c within = ap (bit_and a) (one_shl c w within) ∙ and_pow a c

bit_is : (b : ℕ) → b < 2 → (nat_eq b 1 ≡ true → b ≡ 1) × (nat_eq b 1 ≡ false → b ≡ 0)
bit_is zero h = ((λ e. absurd cc), λ e. refl)
bit_is (suc zero) h = ((λ e. refl), λ e. absurd cc)
bit_is (suc (suc b)) h = absurd (omega (arith, h))

pub is_there : (w a c : ℕ) → c < w → bit_and a (1 * 2 ^ c % 2 ^ w) ≢ 0 → has a c ≡ true
is_there w a c within some = pick (has a c) refl
  where
    pick : (b : Bool) → has a c ≡ b → b ≡ true
    pick true h = refl
    pick false h = (let none : bit_at a c ≡ 0 = (bit_is (bit_at a c) (bit_at-lt a c)).1 h in
        (let gone : bit_at a c * 2 ^ c ≡ 0 = rw none (omega arith) in absurd (some (tested w a c within ∙ gone))))

pub not_there : (w a c : ℕ) → c < w → bit_and a (1 * 2 ^ c % 2 ^ w) ≡ 0 → has a c ≡ false
not_there w a c within none = pick (has a c) refl
  where
    pick : (b : Bool) → has a c ≡ b → b ≡ false
    pick false h = refl
    pick true h = (let one : bit_at a c ≡ 1 = (bit_is (bit_at a c) (bit_at-lt a c)).0 h in
        let zero_is : 1 * 2 ^ c ≡ 0 = ap (λ b. b * 2 ^ c) (sym one) ∙ sym (tested w a c within) ∙ none in
        let some : 0 < 2 ^ c = pow_pos c in absurd (omega (arith, zero_is, some)))

-- ---- the selections, channel by channel

select_next : (program mask c n : ℕ) (b : Bool) → has mask c ≡ b
    → selections program (filter (has mask) (from_up c (suc n)))
    ≡ selection_if b c program ++ selections program (filter (has mask) (from_up (c + 1) n))
select_next program mask c n true is = rw is refl
select_next program mask c n false is = rw is refl

-- those from a channel on: its own, where the mask has it, and those behind it
pub selects_from : (program mask c : ℕ) → c < 16 → selections program (filter (has mask) (from_up c (16 - c)))
    ≡ selection_if (has mask c) c program ++ selections program (filter (has mask) (from_up (c + 1) (16 - (c + 1))))
selects_from program mask c low =
    let next : 16 - c ≡ suc (16 - (c + 1)) = omega (arith, low) in
    ap (λ (n : ℕ). selections program (filter (has mask) (from_up c n))) next ∙ select_next program mask c (16 - (c + 1)) (has mask c) refl

-- and behind the last there are none
pub no_selects : (program mask c : ℕ) → 16 ≤ c → selections program (filter (has mask) (from_up c (16 - c))) ≡ []
no_selects program mask c high = let none : 16 - c ≡ 0 = omega (arith, high) in ap
    (λ (n : ℕ). selections program (filter (has mask) (from_up c n))) none

pub selection_length : (b : Bool) (c program : ℕ) → length (selection_if b c program) ≤ 5
selection_length true c program = omega arith
selection_length false c program = omega arith

-- ---- the parts that have a note on

filter_alike : (f g : ℕ → Bool) (c n : ℕ) → ((d : ℕ) → d < c + n → f d ≡ g d) → filter f (from_up c n) ≡ filter g (from_up c n)
filter_alike f g c zero same = refl
filter_alike f g c (suc n) same =
    ap (λ b. cond b (c ∷ filter f (from_up (c + 1) n)) (filter f (from_up (c + 1) n))) (same c (omega arith))
    ∙ ap (λ l. cond (g c) (c ∷ l) l) (filter_alike f g (c + 1) n (λ d low. same d (omega (arith, low))))

pub channels_are : (o : Options) (es : List MidiEvent) (mask : ℕ) → AreNoted o es mask → channels_in mask ≡ parts_with_notes o es
channels_are o es mask h = filter_alike (has mask) (λ c. is_part o c && has_note_on (λ d. nat_eq d c) es) 0 16 (λ d low. h d (omega (arith, low)))

-- a note on of a part is one of its channel, and the other way round
note_of_part : (o : Options) (c : ℕ) (w : MidiWhat) → is_part o c ≡ true → begins_note (λ d. nat_eq d c) w ≡ true → begins_note (is_part o) w ≡ true
note_of_part o c (Says (NoteOn d k (suc v))) part is = elim (eqb_tells d c) [
  | inl t ↦ ap (is_part o) t.1 ∙ part
  | inr t ↦ (let other = t.0 in absurd cc)
]
note_of_part o c (Says (NoteOn d k zero)) part is = absurd cc
note_of_part o c (Says (NoteOff d k v)) part is = absurd cc
note_of_part o c (Says (KeyPressure d k v)) part is = absurd cc
note_of_part o c (Says (Control d k v)) part is = absurd cc
note_of_part o c (Says (Program d v)) part is = absurd cc
note_of_part o c (Says (Pressure d v)) part is = absurd cc
note_of_part o c (Says (Bend d v)) part is = absurd cc
note_of_part o c (SysexOf lead bytes) part is = absurd cc
note_of_part o c (MetaOf kind bytes) part is = absurd cc

or_left : (a b : Bool) → a ≡ true → (a || b) ≡ true
or_left a b h = rw h refl

or_right : (a b : Bool) → b ≡ true → (a || b) ≡ true
or_right true b h = refl
or_right false b h = h

some_of : (o : Options) (c : ℕ) (es : List MidiEvent) → is_part o c ≡ true → has_note_on (λ d. nat_eq d c) es ≡ true → has_note_on (is_part o) es
    ≡ true
some_of o c [] part is = absurd cc
some_of o c (e ∷ es) part is = pick (begins_note (λ d. nat_eq d c) e.what) refl is (λ g. some_of o c es part g)
  where
    pick : (b : Bool) → begins_note (λ d. nat_eq d c) e.what ≡ b → (b || has_note_on (λ d. nat_eq d c) es) ≡ true
        → (has_note_on (λ d. nat_eq d c) es ≡ true → has_note_on (is_part o) es ≡ true)
        → (begins_note (is_part o) e.what || has_note_on (is_part o) es) ≡ true
    pick true h g more = or_left (begins_note (is_part o) e.what) (has_note_on (is_part o) es) (note_of_part o c e.what part h)
    pick false h g more = or_right (begins_note (is_part o) e.what) (has_note_on (is_part o) es) (more g)

-- the channel of some note on of a part
record HasPart (o : Options) (es : List MidiEvent) : Type 0 where
  channel : ℕ
  low : channel < 16
  part : is_part o channel ≡ true
  note : has_note_on (λ d. nat_eq d channel) es ≡ true

part_of_note : (o : Options) (w : MidiWhat) (es : List MidiEvent) → IsValidWhat w → begins_note (is_part o) w ≡ true
    → (c : ℕ) × (c < 16) × (is_part o c ≡ true) × (begins_note (λ d. nat_eq d c) w ≡ true)
part_of_note o (Says (NoteOn d k (suc v))) es valid is = (d, omega (arith, valid.0), is, eq-eqb d d refl)
part_of_note o (Says (NoteOn d k zero)) es valid is = absurd cc
part_of_note o (Says (NoteOff d k v)) es valid is = absurd cc
part_of_note o (Says (KeyPressure d k v)) es valid is = absurd cc
part_of_note o (Says (Control d k v)) es valid is = absurd cc
part_of_note o (Says (Program d v)) es valid is = absurd cc
part_of_note o (Says (Pressure d v)) es valid is = absurd cc
part_of_note o (Says (Bend d v)) es valid is = absurd cc
part_of_note o (SysexOf lead bytes) es valid is = absurd cc
part_of_note o (MetaOf kind bytes) es valid is = absurd cc

found : (o : Options) (es : List MidiEvent) → AllByRecursion IsValidEvent es → has_note_on (is_part o) es ≡ true → HasPart o es
found o [] valid is = absurd cc
found o (e ∷ es) valid is = pick (begins_note (is_part o) e.what) refl is (λ g. found o es valid.1 g)
  where
    pick : (b : Bool) → begins_note (is_part o) e.what ≡ b → (b || has_note_on (is_part o) es) ≡ true
        → (has_note_on (is_part o) es ≡ true → HasPart o es) → HasPart o (e ∷ es)
    pick true h g more = (let x = part_of_note o e.what es valid.0.what h in
        record {
          channel = x.0;
          low = x.1;
          part = x.2;
          note = or_left (begins_note (λ d. nat_eq d x.0) e.what)
              (has_note_on (λ d. nat_eq d x.0) es) x.3;
        })
    pick false h g more = (let x = more g in
        record {
          channel = x.channel;
          low = x.low;
          part = x.part;
          note = or_right (begins_note (λ d. nat_eq d x.channel) e.what)
              (has_note_on (λ d. nat_eq d x.channel) es) x.note;
        })

both_true : (a b : Bool) → a ≡ true → b ≡ true → (a && b) ≡ true
both_true a b h g = rw (h, g) refl

-- some channel is marked exactly where a part has a note on
pub some_marked : (o : Options) (es : List MidiEvent) (mask : ℕ) → mask < 2 ^ 16 → AllByRecursion IsValidEvent es → AreNoted o es mask
    → not (nat_eq mask 0) ≡ has_note_on (is_part o) es
some_marked o es mask fits valid h = pick (has_note_on (is_part o) es) refl
  where
    pick : (b : Bool) → has_note_on (is_part o) es ≡ b → not (nat_eq mask 0) ≡ b
    pick true is = (let x = found o es valid is in
        let bit : has mask x.channel ≡ true = h x.channel x.low
        ∙ both_true (is_part o x.channel) (has_note_on (λ d. nat_eq d x.channel) es) x.part x.note in
        elim (eqb_tells mask 0) [
          | inl t ↦ (let none : has mask x.channel ≡ false = ap (λ m. has m x.channel) t.1
              ∙ ap (λ b. nat_eq b 1) (bit_at-zero x.channel) in absurd cc)
          | inr t ↦ rw t.0 refl
        ])
    pick false is = elim (eqb_tells mask 0) [
      | inl t ↦ rw t.0 refl
      | inr t ↦ (let ne = t.1 in
          let low = bit_at-trailing_zeros w16 mask (omega (arith, ne)) fits in
          let c = trailing_zeros w16 mask in
          let bit : has mask c ≡ true = ap (λ b. nat_eq b 1) low.1 in
          let parts = and_parts (is_part o c) (has_note_on (λ d. nat_eq d c) es) (sym (h c low.0) ∙ bit) in
          let some : has_note_on (is_part o) es ≡ true = some_of o c es parts.0 parts.1 in absurd cc)
    ]

-- ---- the events of a port are valid

valid_from : (z : ℕ) (ports : ℕ → ℕ) (k : ℕ) (es : List MidiEvent) → AllByRecursion IsValidEvent es
    → AllByRecursion IsValidEvent (unnumbered (of_port_from z ports k es))
valid_from z ports k [] h = tt
valid_from z ports k (e ∷ es) h = pick (nat_eq (port_of ports e) z) (valid_from z (ports_after ports e) (suc k) es h.1)
  where
    pick : (b : Bool) → AllByRecursion IsValidEvent (unnumbered (of_port_from z (ports_after ports e) (suc k) es))
        → AllByRecursion IsValidEvent (unnumbered (with_event b (record { position = suc k; event = e })
        (of_port_from z (ports_after ports e) (suc k) es)))
    pick true more = (h.0, more)
    pick false more = more

pub valid_on : (z : ℕ) (es : List MidiEvent) → AllByRecursion IsValidEvent es → AllByRecursion IsValidEvent (events_on z es)
valid_on z es h = valid_from z all_zero 0 es h

-- ---- whether a bit of a mask is set, as it is tested

pub bit_tested : (w a c : ℕ) → c < w → not (nat_eq (bit_and a (1 * 2 ^ c % 2 ^ w)) 0) ≡ has a c
bit_tested w a c within = elim (eqb_tells (bit_and a (1 * 2 ^ c % 2 ^ w)) 0) [
  | inl t ↦ rw t.0 (sym (not_there w a c within t.1))
  | inr t ↦ rw t.0 (sym (is_there w a c within t.1))
]
