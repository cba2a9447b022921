-- What is kept in mind of each port, with one event more.
use Rattle.std.proofs.Common.{◌≡◌, ◌<◌, ◌^◌, ◌*◌, ◌%◌, ℕ, zero, suc, List, Bool, true, false, cond, ◌&&◌, ◌||◌, nat_eq, Option, Some, None, bit_or, get_or, set, slice_index, length, replicate, refl, ap, sym, ◌∙◌, inl, inr}
use Rattle.std.proofs.lemmas.List.{get_or-set_same, get_or-set_other, set-get_or}
use Rattle.std.proofs.lemmas.Bool.{eq-eqb, ne_eqb}
use Rattle.std.proofs.lemmas.Bool.Decides.{eqb_tells}
use Rattle.std.proofs.lemmas.Nat.Bits.{bit_at_set_same, bit_at_set_other, bit_at-zero}
use Rattle.std.specs.Int.{w128}
use Rattle.mt_base.specs.declared.event.Msg.{Msg}
use Rattle.mt_base.specs.declared.event.Msg.TheVariants.{NoteOn, NoteOff, KeyPressure, Control, Program, Pressure, Bend}
use Rattle.mt_base.specs.Midi.{MidiWhat, Says, SysexOf, MetaOf}
use Rattle.midi_model.specs.Sysex.{Retune, Resets, Nothing, tunes, doing, is_reset, tuning_of}
use Rattle.retune_model.specs.SourceFaults.{is_message}
use Rattle.retune_model.specs.PortOutput.{kept_for}
use Rattle.retune_model.specs.Routes.{Live, Told, nothing_told, keys_told, live_next}
use Rattle.receiver.specs.Notes.{has}
use Rattle.routes.specs.declared.kept.Kept.{Kept}
use Rattle.routes.specs.Device.{resets_all}
use Rattle.routes.specs.Kept.{told_in, key_begun}

pub ext : {A B : Type 0} (f g : A → B) → ((x : A) → f x ≡ g x) → f ≡ g
ext f g h = λ i. λ x. h x i

has_set : (a key k : ℕ) → key < 128 → has (bit_or a (1 * 2 ^ key % 2 ^ 128)) k ≡ (nat_eq key k || has a k)
has_set a key k within = elim (eqb_tells k key) [
  | inl t ↦ rw (t.1, bit_at_set_same w128 a key within, eq-eqb key key refl) refl
  | inr t ↦ rw (bit_at_set_other w128 a key within k t.1, ne_eqb key k (λ x. t.1 (sym x))) refl
]

pub has_none : (k : ℕ) → has 0 k ≡ false
has_none k = rw (bit_at-zero k) refl

-- the same in other words: a state of one port is exchanged
abbrev with_state : Kept → ℕ → Bool → ℕ → Kept
with_state k port begun keys = record { begun = set k.begun port begun; keys = set k.keys port keys }

told_there : (k : Kept) (port : ℕ) (begun : Bool) (keys : ℕ) (u : Told) → port < length k.begun → port < length k.keys
    → u.begun ≡ begun → ((j : ℕ) → has keys j ≡ u.keys j) → (z : ℕ) → told_in (with_state k port begun keys) z ≡ kept_for port u (told_in k) z
told_there k port begun keys u low1 low2 is same z = elim (eqb_tells z port) [
  | inl t ↦ (let at : get_or (set k.begun port begun) z false ≡ u.begun = ap (λ j. get_or (set k.begun port begun) j false) t.1
      ∙ get_or-set_same k.begun port begun false low1 ∙ sym is in
      let by : slice_index (set k.keys port keys) z ≡ keys = ap (λ j. slice_index (set k.keys port keys) j) t.1
      ∙ get_or-set_same k.keys port keys 0 low2 in
      rw t.0 (ap (λ (b : Bool). record { begun = b; keys = has (slice_index (set k.keys port keys) z) }) at
      ∙ ap (λ (m : ℕ). record { begun = u.begun; keys = has m }) by
      ∙ ap (λ (f : ℕ → Bool). record { begun = u.begun; keys = f }) (ext (has keys) u.keys same)))
  | inr t ↦ rw t.0 (ap (λ (b : Bool). record { begun = b; keys = has (slice_index (set k.keys port keys) z) })
      (get_or-set_other k.begun port z begun false t.1)
      ∙ ap (λ (m : ℕ). record { begun = get_or k.begun z false; keys = has m }) (get_or-set_other k.keys port z keys 0 t.1))
]

pub told_set : (k : Kept) (port : ℕ) (begun : Bool) (keys : ℕ) (u : Told) → port < length k.begun → port < length k.keys
    → u.begun ≡ begun → ((j : ℕ) → has keys j ≡ u.keys j) → told_in (with_state k port begun keys) ≡ kept_for port u (told_in k)
told_set k port begun keys u low1 low2 is same = ext (told_in (with_state k port begun keys)) (kept_for port u (told_in k))
    (told_there k port begun keys u low1 low2 is same)

-- nothing changes
pub told_still : (k : Kept) (port : ℕ) (u : Told) → u ≡ told_in k port → told_in k ≡ kept_for port u (told_in k)
told_still k port u is = ext (told_in k) (kept_for port u (told_in k)) (λ z. elim (eqb_tells z port) [
  | inl t ↦ rw t.0 (ap (told_in k) t.1 ∙ sym is)
  | inr t ↦ rw t.0 refl
])

-- ---- the keys that are told after a message

some_same : {A : Type 0} (a b : A) → Some a ≡ Some b → a ≡ b
some_same a b h = cc

pub key_told : (l : Live) (m : Msg) (key keys j : ℕ) → key < 128 → Some key ≡ key_begun l.is_retuned (Says m)
    → has (bit_or keys (1 * 2 ^ key % 2 ^ 128)) j ≡ keys_told l (has keys) m j
key_told l (NoteOn c k zero) key keys j low is = absurd cc
key_told l (NoteOn c k (suc v)) key keys j low is = pick (l.is_retuned c) is
  where
    pick : (p : Bool) → Some key ≡ cond p (Some k) None → has (bit_or keys (1 * 2 ^ key % 2 ^ 128)) j ≡ ((p && nat_eq k j) || has keys j)
    pick true h = has_set keys key j low ∙ ap (λ x. nat_eq x j || has keys j) (some_same key k h)
    pick false h = absurd cc
key_told l (NoteOff c k v) key keys j low is = absurd cc
key_told l (KeyPressure c k v) key keys j low is = absurd cc
key_told l (Control c k v) key keys j low is = absurd cc
key_told l (Program c v) key keys j low is = absurd cc
key_told l (Pressure c v) key keys j low is = absurd cc
key_told l (Bend c v) key keys j low is = absurd cc

pub none_told : (l : Live) (m : Msg) (keys : ℕ → Bool) (j : ℕ) → None ≡ key_begun l.is_retuned (Says m) → keys j ≡ keys_told l keys m j
none_told l (NoteOn c k zero) keys j is = refl
none_told l (NoteOn c k (suc v)) keys j is = pick (l.is_retuned c) is
  where
    pick : (p : Bool) → None ≡ cond p (Some k) None → keys j ≡ ((p && nat_eq k j) || keys j)
    pick true h = absurd cc
    pick false h = refl
none_told l (NoteOff c k v) keys j is = refl
none_told l (KeyPressure c k v) keys j is = refl
none_told l (Control c k v) keys j is = refl
none_told l (Program c v) keys j is = refl
none_told l (Pressure c v) keys j is = refl
none_told l (Bend c v) keys j is = refl

-- an event that is no message
pub doing_reset : (w : MidiWhat) → resets_all w ≡ true → doing w ≡ Resets
doing_reset (Says m) is = absurd cc
doing_reset (SysexOf lead bytes) is = pick (nat_eq lead 240) (is_reset bytes) is
  where
    pick : (a b : Bool) → (a && b) ≡ true → cond a (cond b Resets (tunes (tuning_of bytes))) Nothing ≡ Resets
    pick true true h = refl
    pick true false h = absurd cc
    pick false b h = absurd cc
doing_reset (MetaOf kind bytes) is = absurd cc

-- ---- before any event, and one event more

get_same : {A : Type 0} (n i : ℕ) (a : A) → get_or (replicate n a) i a ≡ a
get_same zero i a = refl
get_same (suc n) zero a = refl
get_same (suc n) (suc i) a = get_same n i a

pub told_new : told_in (record { begun = replicate 256 false; keys = replicate 256 0 }) ≡ (λ z. nothing_told)
told_new = ext (told_in (record { begun = replicate 256 false; keys = replicate 256 0 })) (λ z. nothing_told) (λ z.
    ap (λ (b : Bool). record { begun = b; keys = has (get_or (replicate 256 0) z 0) }) (get_same 256 z false)
    ∙ ap (λ (m : ℕ). record { begun = false; keys = has m }) (get_same 256 z 0)
    ∙ ap (λ (f : ℕ → Bool). record { begun = false; keys = f }) (ext (has 0) (λ k. false) has_none))

abbrev pub next_state : Live → Kept → ℕ → MidiWhat → Told
next_state l k port w = live_next l (told_in k port) (doing w)

message_next : (l : Live) (k : Kept) (port keys : ℕ) (m : Msg) → port < length k.begun → port < length k.keys
    → ((j : ℕ) → has keys j ≡ keys_told l (has (slice_index k.keys port)) m j)
    → told_in (with_state k port true keys) ≡ kept_for port (next_state l k port (Says m)) (told_in k)
message_next l k port keys m low1 low2 same = told_set k port true keys (next_state l k port (Says m)) low1 low2 refl same

pub message_key : (l : Live) (k : Kept) (port key : ℕ) (w : MidiWhat) → port < length k.begun → port < length k.keys → key < 128 → is_message w ≡ true
    → Some key ≡ key_begun l.is_retuned w
    → told_in (with_state k port true (bit_or (slice_index k.keys port) (1 * 2 ^ key % 2 ^ 128))) ≡ kept_for port (next_state l k port w) (told_in k)
message_key l k port key (Says m) low1 low2 low is h = message_next l k port (bit_or (slice_index k.keys port) (1 * 2 ^ key % 2 ^ 128)) m low1 low2
    (λ j. key_told l m key (slice_index k.keys port) j low h)
message_key l k port key (SysexOf lead bytes) low1 low2 low is h = absurd cc
message_key l k port key (MetaOf kind bytes) low1 low2 low is h = absurd cc

pub message_alone : (l : Live) (k : Kept) (port : ℕ) (w : MidiWhat) → port < length k.begun → port < length k.keys → is_message w ≡ true → None
    ≡ key_begun l.is_retuned w
    → told_in (record { begun = set k.begun port true; keys = k.keys }) ≡ kept_for port (next_state l k port w) (told_in k)
message_alone l k port (Says m) low1 low2 is h =
    ap (λ (ks : List ℕ). told_in (record { begun = set k.begun port true; keys = ks })) (sym (set-get_or k.keys port 0))
    ∙ message_next l k port (slice_index k.keys port) m low1 low2 (λ j. none_told l m (has (slice_index k.keys port)) j h)
message_alone l k port (SysexOf lead bytes) low1 low2 is h = absurd cc
message_alone l k port (MetaOf kind bytes) low1 low2 is h = absurd cc

pub reset_next : (l : Live) (k : Kept) (port : ℕ) (w : MidiWhat) → port < length k.begun → port < length k.keys → resets_all w ≡ true
    → told_in (record { begun = k.begun; keys = set k.keys port 0 }) ≡ kept_for port (next_state l k port w) (told_in k)
reset_next l k port w low1 low2 is =
    ap (λ (bs : List Bool). told_in (record { begun = bs; keys = set k.keys port 0 })) (sym (set-get_or k.begun port false))
    ∙ told_set k port (get_or k.begun port false) 0 (live_next l (told_in k port) Resets) low1 low2 refl has_none
    ∙ ap (λ d. kept_for port (live_next l (told_in k port) d) (told_in k)) (sym (doing_reset w is))

pub other_next : (l : Live) (k : Kept) (port : ℕ) (w : MidiWhat) → is_message w ≡ false → resets_all w ≡ false → told_in k
    ≡ kept_for port (next_state l k port w) (told_in k)
other_next l k port (Says m) not_message not_reset = absurd cc
other_next l k port (SysexOf lead bytes) not_message not_reset = told_still k port (next_state l k port (SysexOf lead bytes))
    (pick (nat_eq lead 240) (is_reset bytes) (tuning_of bytes) not_reset)
  where
    pick : (a b : Bool) (r : Option Retune) → (a && b) ≡ false → live_next l (told_in k port) (cond a (cond b Resets (tunes r)) Nothing)
        ≡ told_in k port
    pick true true r h = absurd cc
    pick true false None h = refl
    pick true false (Some x) h = refl
    pick false b r h = refl
other_next l k port (MetaOf kind bytes) not_message not_reset = told_still k port (next_state l k port (MetaOf kind bytes)) refl
