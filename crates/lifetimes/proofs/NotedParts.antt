-- Which parts have a note on, with one event more.
use Rattle.std.proofs.Common.{◌≡◌, ◌<◌, ◌∙◌, ℕ, zero, suc, List, [], ◌∷◌, ◌++◌, Bool, true, false, cond, ◌&&◌, ◌||◌, nat_eq, Option, Some, None, ◌*◌, ◌^◌, ◌%◌, bit_or, set, slice_index, length, refl, sym, ap, inl, inr}
use Rattle.std.proofs.lemmas.List.{get_or-set_same, get_or-set_other}
use Rattle.std.proofs.lemmas.Bool.{eq-eqb, ne_eqb}
use Rattle.std.proofs.lemmas.Bool.Decides.{eqb_tells}
use Rattle.std.proofs.lemmas.Nat.Bits.{bit_at_set_same, bit_at_set_other, bit_at-zero}
use Rattle.std.specs.Int.{w16}
use Rattle.mt_base.specs.declared.event.Msg.TheVariants.{NoteOn, NoteOff, KeyPressure, Control, Program, Pressure, Bend}
use Rattle.mt_base.specs.Midi.{MidiWhat, Says, SysexOf, MetaOf, MidiEvent}
use Rattle.retune_model.specs.Options.{Options}
use Rattle.retune_model.specs.PlaysTheSame.{begins_note}
use Rattle.retune_model.specs.Ports.{events_on}
use Rattle.retune_model.specs.Faults.{Targets, is_part}
use Rattle.retune_model.specs.Dump.{has_note_on}
use Rattle.receiver.specs.Notes.{has}
use Rattle.lifetimes.specs.declared.change.Begun.{Begun}
use Rattle.lifetimes.specs.Told.{port_on, begun_by}
use Rattle.lifetimes.specs.Noted.{AreNoted}
use Rattle.lifetimes.proofs.Appended.{events_next, events_same}

or_assoc : (a b c : Bool) → (a || (b || c)) ≡ ((a || b) || c)
or_assoc true b c = refl
or_assoc false b c = refl

or_none : (b : Bool) → (b || false) ≡ b
or_none true = refl
or_none false = refl

note_on_more : (part : ℕ → Bool) (es : List MidiEvent) (e : MidiEvent) → has_note_on part (es ++ e ∷ []) ≡ (has_note_on part es || begins_note part e.what)
note_on_more part [] e = or_none (begins_note part e.what)
note_on_more part (x ∷ es) e = ap (λ b. begins_note part x.what || b) (note_on_more part es e) ∙ or_assoc (begins_note part x.what) (has_note_on part es) (begins_note part e.what)

-- one bit of a mask of sixteen set
has_with : (a c k : ℕ) → c < 16 → has (bit_or a (1 * 2 ^ c % 2 ^ 16)) k ≡ cond (nat_eq k c) true (has a k)
has_with a c k within = elim (eqb_tells k c) [
  | inl t ↦ rw (t.0, t.1, bit_at_set_same w16 a c within) refl
  | inr t ↦ rw (t.0, bit_at_set_other w16 a c within k t.1) refl
]

-- whether a note begins on a channel
abbrev begun_on : Option Begun → ℕ → Bool
begun_on None c = false
begun_on (Some b) c = nat_eq b.pair.part.channel c

same_part : (o : Options) (d c : ℕ) (p : Bool) → is_part o d ≡ p → cond p (nat_eq d c) false ≡ (is_part o c && nat_eq d c)
same_part o d c p is = elim (eqb_tells d c) [
  | inl t ↦ rw t.0 (pick p (sym is ∙ ap (is_part o) t.1))
  | inr t ↦ rw t.0 (neither p (is_part o c))
]
  where
    pick : (q : Bool) → q ≡ is_part o c → cond q true false ≡ (is_part o c && true)
    pick true h = ap (λ b. b && true) h
    pick false h = ap (λ b. b && true) h

    neither : (q r : Bool) → cond q false false ≡ (r && false)
    neither true true = refl
    neither true false = refl
    neither false true = refl
    neither false false = refl

begun_when : (o : Options) (table : Targets) (z n t d k v c : ℕ) (p : Bool) → is_part o d ≡ p
    → begun_on (begun_by o table z n t (Says (NoteOn d k (suc v)))) c ≡ cond p (nat_eq d c) false
begun_when o table z n t d k v c true is = rw is refl
begun_when o table z n t d k v c false is = rw is refl

pub never : (b : Bool) → false ≡ (b && false)
never true = refl
never false = refl

-- what is told of a message is whether it is a note on of a retuned part
begun_notes : (o : Options) (table : Targets) (z n t : ℕ) (w : MidiWhat) (c : ℕ)
    → begun_on (begun_by o table z n t w) c ≡ (is_part o c && begins_note (λ d. nat_eq d c) w)
begun_notes o table z n t (Says (NoteOn d k zero)) c = never (is_part o c)
begun_notes o table z n t (Says (NoteOn d k (suc v))) c = begun_when o table z n t d k v c (is_part o d) refl ∙ same_part o d c (is_part o d) refl
begun_notes o table z n t (Says (NoteOff d k v)) c = never (is_part o c)
begun_notes o table z n t (Says (KeyPressure d k v)) c = never (is_part o c)
begun_notes o table z n t (Says (Control d k v)) c = never (is_part o c)
begun_notes o table z n t (Says (Program d v)) c = never (is_part o c)
begun_notes o table z n t (Says (Pressure d v)) c = never (is_part o c)
begun_notes o table z n t (Says (Bend d v)) c = never (is_part o c)
begun_notes o table z n t (SysexOf lead bytes) c = never (is_part o c)
begun_notes o table z n t (MetaOf kind bytes) c = never (is_part o c)

both : (p a b : Bool) → (p && (a || b)) ≡ ((p && a) || (p && b))
both true a b = refl
both false a b = refl

abbrev noted_on : Options → ℕ → List MidiEvent → Bool
noted_on o c es = is_part o c && has_note_on (λ d. nat_eq d c) es

-- the event's port
noted_here : (o : Options) (table : Targets) (es : List MidiEvent) (e : MidiEvent) (n z c : ℕ) (begun : Option Begun)
    → port_on es e ≡ z → begun ≡ begun_by o table (port_on es e) n e.tick e.what
    → noted_on o c (events_on z (es ++ e ∷ [])) ≡ (noted_on o c (events_on z es) || begun_on begun c)
noted_here o table es e n z c begun here is =
    ap (noted_on o c) (events_next z es e here)
    ∙ ap (λ b. is_part o c && b) (note_on_more (λ d. nat_eq d c) (events_on z es) e)
    ∙ both (is_part o c) (has_note_on (λ d. nat_eq d c) (events_on z es)) (begins_note (λ d. nat_eq d c) e.what)
    ∙ ap (λ b. noted_on o c (events_on z es) || b) (sym (begun_notes o table (port_on es e) n e.tick e.what c) ∙ ap (λ b. begun_on b c) (sym is))

-- no note begins: nothing changes
pub noted_still : (o : Options) (table : Targets) (es : List MidiEvent) (e : MidiEvent) (n z mask : ℕ) (begun : Option Begun)
    → begun ≡ None → begun ≡ begun_by o table (port_on es e) n e.tick e.what → AreNoted o (events_on z es) mask → AreNoted o (events_on z (es ++ e ∷ [])) mask
noted_still o table es e n z mask begun none is h c low = elim (eqb_tells (port_on es e) z) [
  | inl t ↦ h c low ∙ sym (noted_here o table es e n z c begun t.1 is ∙ ap (λ b. noted_on o c (events_on z es) || begun_on b c) none ∙ or_none (noted_on o c (events_on z es)))
  | inr t ↦ h c low ∙ ap (noted_on o c) (sym (events_same z es e t.1))
]

set_bit : (a c d : ℕ) → d < 16 → has (bit_or a (1 * 2 ^ d % 2 ^ 16)) c ≡ (has a c || nat_eq d c)
set_bit a c d low = has_with a d c low ∙ elim (eqb_tells c d) [
  | inl t ↦ rw (t.0, t.1, eq-eqb d d refl) (or_true (has a d))
  | inr t ↦ rw (t.0, ne_eqb d c (λ x. t.1 (sym x))) (sym (or_none (has a c)))
]
  where
    or_true : (b : Bool) → true ≡ (b || true)
    or_true true = refl
    or_true false = refl

-- a note begins: its channel's bit is set on its port
pub noted_more : (o : Options) (table : Targets) (es : List MidiEvent) (e : MidiEvent) (n port z : ℕ) (masks : List ℕ) (b : Begun) → b.pair.part.channel < 16
    → port ≡ port_on es e → port < length masks → Some b ≡ begun_by o table (port_on es e) n e.tick e.what → AreNoted o (events_on z es) (slice_index masks z)
    → AreNoted o (events_on z (es ++ e ∷ [])) (slice_index (set masks port (bit_or (slice_index masks port) (1 * 2 ^ b.pair.part.channel % 2 ^ 16))) z)
noted_more o table es e n port z masks b fits at within is h c low = elim (eqb_tells z port) [
  | inl t ↦ (let there : port_on es e ≡ z = sym at ∙ sym t.1 in
      let same = ap (λ k. slice_index (set masks port (bit_or (slice_index masks port) (1 * 2 ^ b.pair.part.channel % 2 ^ 16))) k) t.1 ∙ get_or-set_same masks port (bit_or (slice_index masks port) (1 * 2 ^ b.pair.part.channel % 2 ^ 16)) 0 within in
      ap (λ m. has m c) same ∙ set_bit (slice_index masks port) c b.pair.part.channel fits
      ∙ ap (λ k. has (slice_index masks k) c || nat_eq b.pair.part.channel c) (sym t.1)
      ∙ ap (λ x. x || nat_eq b.pair.part.channel c) (h c low)
      ∙ sym (noted_here o table es e n z c (Some b) there is))
  | inr t ↦ ap (λ m. has m c) (get_or-set_other masks port z (bit_or (slice_index masks port) (1 * 2 ^ b.pair.part.channel % 2 ^ 16)) 0 t.1) ∙ h c low
      ∙ ap (noted_on o c) (sym (events_same z es e (λ x. t.1 (sym x ∙ sym at))))
]

pub none_noted : (c : ℕ) → has 0 c ≡ false
none_noted c = rw (bit_at-zero c) refl
