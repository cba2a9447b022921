-- The pitch of a note: how far a bend goes, and what is read off the receiver.
use Rattle.std.proofs.Common.{to_z, of_z, FitsSigned, ◌≡◌, ℕ, suc, ◌*◌, ◌<◌, ◌≤◌, ℤ, pos, negsuc, ◌+ℤ◌, ◌-ℤ◌, ◌*ℤ◌, true, List, get_or, length, Option, Some, None, is_some, arith, refl, sym, ap, ◌∙◌, subst}
use Rattle.std.specs.Prelude.{◌≤ℤ◌, neg_ℤ}
use Rattle.std.specs.Option.{option_map}
use Rattle.std.proofs.Math.IntN.{pos-*ℤ-pos, pos-*ℤ-negsuc}
use Rattle.std.proofs.Math.Nat.{mul-le-mul_left}
use Rattle.std.specs.Int.{w128}
use Rattle.std.proofs.lemmas.Bool.{false≢true}
use Rattle.std.proofs.lemmas.Int.{ints, to_z-of_z}
use Rattle.std.proofs.lemmas.List.{get_or-map}
use Rattle.mt_base.specs.Midi.{MidiEvent}
use Rattle.midi_model.specs.Channel.{default_channel}
use Rattle.midi_model.specs.Zones.{master, governor}
use Rattle.midi_model.specs.Notes.{Note}
use Rattle.midi_model.specs.Music.{channel_at}
use Rattle.midi_model.specs.Tuning.{selected_of}
use Rattle.midi_model.specs.Receiver.{Receiver as Model, after}
use Rattle.midi_model.specs.Played.{fine, coarse, by_program, bends, played}
use Rattle.receiver.specs.declared.playing.Playing.{Playing}
use Rattle.receiver.specs.declared.player.Player.{Player}
use Rattle.receiver.specs.Notes.{Told, note_of}
use Rattle.receiver.specs.Heard.{heard_by, heard}
use Rattle.receiver.specs.Sounding.{sounding_at}
use Rattle.receiver.specs.State.{own_of}
use Rattle.receiver.specs.Stands.{PlayerStands}
use Rattle.receiver.proofs.Here.{IsHere, slot_here}

-- n times what is at least -d, and at most d
times_low : (n d : ℕ) (z : ℤ) → neg_ℤ (pos d) ≤ℤ z → neg_ℤ (pos (n * d)) ≤ℤ (pos n *ℤ z)
times_low n d (pos a) h = rw (pos-*ℤ-pos n a) omega (arith, ints)
times_low n d (negsuc a) h =
    let l : suc a ≤ d = omega (arith, ints) in
    let p : n * suc a ≤ n * d = mul-le-mul_left n l in
    rw (pos-*ℤ-negsuc n a) omega (arith, ints, p)

times_high : (n d : ℕ) (z : ℤ) → z ≤ℤ pos d → (pos n *ℤ z) ≤ℤ pos (n * d)
times_high n d (pos a) h =
    let l : a ≤ d = omega (arith, ints) in
    let p : n * a ≤ n * d = mul-le-mul_left n l in
    rw (pos-*ℤ-pos n a) omega (arith, ints, p)
times_high n d (negsuc a) h = rw (pos-*ℤ-negsuc n a) omega (arith, ints)

-- a bend of b at n grains a step
pub bend_low : (n b : ℕ) → n ≤ 1000000000000 → neg_ℤ (pos 10000000000000000) ≤ℤ (pos n *ℤ (pos b -ℤ pos 8192))
bend_low n b few = let p = times_low n 8192 (pos b -ℤ pos 8192) (omega (arith, ints)) in omega (arith, ints, p, few)

pub bend_high : (n b : ℕ) → n ≤ 1000000000000 → b ≤ 16383 → (pos n *ℤ (pos b -ℤ pos 8192)) ≤ℤ pos 10000000000000000
bend_high n b few low = let p = times_high n 8192 (pos b -ℤ pos 8192) (omega (arith, ints, low)) in omega (arith, ints, p, few)

-- the same in 128 bits
pub bend_product : (n b : ℕ) → n ≤ 1000000000000 → b ≤ 16383
    → to_z w128 n *ℤ to_z w128 (of_z w128 (to_z w128 b -ℤ pos 8192)) ≡ pos n *ℤ (pos b -ℤ pos 8192)
bend_product n b few low =
    let left : to_z w128 n ≡ pos n = omega (arith, ints, few) in
    let right : to_z w128 (of_z w128 (to_z w128 b -ℤ pos 8192)) ≡ pos b -ℤ pos 8192 = omega (arith, ints, low) in
    ap (λ z. z *ℤ to_z w128 (of_z w128 (to_z w128 b -ℤ pos 8192))) left ∙ ap (λ z. pos n *ℤ z) right

pub bend_fits : (n b : ℕ) → n ≤ 1000000000000 → b ≤ 16383 → FitsSigned w128 (to_z w128 n *ℤ to_z w128 (of_z w128 (to_z w128 b -ℤ pos 8192)))
bend_fits n b few low =
    subst (FitsSigned w128) (sym (bend_product n b few low)) (grind (arith, ints, bend_low n b few, bend_high n b few low))

pub bend_kept : (n b : ℕ) → n ≤ 1000000000000 → b ≤ 16383
    → to_z w128 (of_z w128 (to_z w128 n *ℤ to_z w128 (of_z w128 (to_z w128 b -ℤ pos 8192)))) ≡ pos n *ℤ (pos b -ℤ pos 8192)
bend_kept n b few low = to_z-of_z w128 _ (bend_fits n b few low) ∙ bend_product n b few low

-- a channel's own state, and its tuning program
pub own_stands : (r : Player) (es : List MidiEvent) (c i : ℕ) (d : Playing) → PlayerStands r es → length r.channels ≡ 16 → c < 16 → i ≡ c
    → own_of (get_or r.channels i d).state ≡ channel_at (after es).music c
own_stands r es c i d stands all low same =
    ap (λ j. own_of (get_or r.channels j d).state) same
    ∙ sym (get_or-map (λ s. own_of s.state) r.channels c d default_channel (omega (arith, all, low)))
    ∙ ap (λ ss. get_or ss c default_channel) stands.channels

pub selected_stands : (r : Player) (es : List MidiEvent) (c i : ℕ) (d : Playing) → PlayerStands r es → length r.channels ≡ 16 → c < 16 → i ≡ c
    → (get_or r.channels i d).state.tuning ≡ selected_of (after es).tuning c
selected_stands r es c i d stands all low same =
    ap (λ j. (get_or r.channels j d).state.tuning) same
    ∙ sym (get_or-map (λ s. s.state.tuning) r.channels c d None (omega (arith, all, low)))
    ∙ ap (λ ss. get_or ss c None) stands.selected

-- the pitch of a note by its channel and its key
abbrev pub played_at : Model → ℕ → ℕ → ℤ
played_at r c k =
    let g = governor r.music.zones c in
    let s = channel_at r.music g in
    ((by_program r.tuning (selected_of r.tuning g) k +ℤ fine s) +ℤ coarse s) +ℤ bends r c (master r.music.zones c)

played_here : (r : Model) (c k : ℕ) (o : Option (ℕ × Note)) → is_some o ≡ true → IsHere c k o → option_map (λ x. played r x.1) o ≡ Some (played_at r c k)
played_here r c k None some here = absurd (false≢true some)
played_here r c k (Some x) some (a, b, s) =
    let same : played_at r x.1.channel x.1.key ≡ played_at r c k = ap (λ d. played_at r d x.1.key) a ∙ ap (played_at r c) b in
    ap Some same

is_heard : (c k p : ℕ) (o : Option Told) → is_some o ≡ true → is_some (heard_by c k p o) ≡ true
is_heard c k p None some = some
is_heard c k p (Some n) some = refl

-- where a note sounds on a key, the pitch is that
pub pitch_stands : (r : Player) (es : List MidiEvent) (c k i : ℕ) (d : Playing) → PlayerStands r es → length r.channels ≡ 16 → c < 16 → k < 128 → i ≡ c
    → is_some (note_of (get_or r.channels i d).keys k) ≡ true
    → option_map (λ x. played (after es) x.1) (sounding_at (after es).music.notes c k) ≡ Some (played_at (after es) c k)
pitch_stands r es c k i d stands all low below same some =
    let f : Playing → Option (ℕ × Note) = λ s. heard c s k in
    let there : f (get_or r.channels c d) ≡ sounding_at (after es).music.notes c k =
    sym (get_or-map f r.channels c d None (omega (arith, all, low))) ∙ stands.notes c k low below in
    let sounding : is_some (note_of (get_or r.channels c d).keys k) ≡ true = subst (λ j. is_some (note_of (get_or r.channels j d).keys k) ≡ true) same some in
    played_here (after es) c k _
    (ap is_some (sym there) ∙ is_heard c k _ _ sounding)
    (subst (IsHere c k) (stands.notes c k low below) (slot_here r.channels c k))

-- the sum of equal numbers
pub summed : {a b c d e f g h : ℤ} → a ≡ e → b ≡ f → c ≡ g → d ≡ h → ((a +ℤ b) +ℤ c) +ℤ d ≡ ((e +ℤ f) +ℤ g) +ℤ h
summed p q r s = rw (p, q, r, s) refl
