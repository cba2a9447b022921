-- A port as the program keeps it, channel by channel, and what one event does to it.
use Rattle.std.specs.Prelude.{◌≡◌, ◌≤◌, ◌<◌, ℕ, ℤ, List, [], ◌++◌, ◌∷◌, length, map, get_or, slice_index, Bool, true, false, ◌&&◌, ◌||◌, not, nat_eq, nat_le, if◌then◌else◌, Option, Some, None}
use Rattle.mt_base.specs.Midi.{MidiWhat, MidiEvent}
use Rattle.midi_model.specs.Sysex.{doing}
use Rattle.midi_model.specs.Receiver.{after}
use Rattle.retune_model.specs.Faults.{int_eq}
use Rattle.retune_model.specs.Ports.{resets}
use Rattle.retune_model.specs.Rests.{is_within_tail}
use Rattle.receiver.specs.declared.ends.Ends.{Ends}
use Rattle.receiver.specs.Notes.{has}
use Rattle.receiver.specs.Stands.{PlayerStands, TellsEnded, begun_in}
use Rattle.lifetimes.specs.Lists.{ListsSounding, any_key, entry_at, entry_of, struck_at}
use Rattle.lifetimes.specs.Resting.{end_kept}
use Rattle.lifetimes.specs.OnePart.{is_placed, are_placed, IsKeptOrLost}
use Rattle.lifetimes.specs.declared.notes.Sounding.{Sounding}
use Rattle.lifetimes.specs.declared.notes.Struck.{Struck}
use Rattle.lifetimes.specs.declared.notes.Notes.{Notes}
use Rattle.lifetimes.specs.declared.rests.Rest.{Rest}
use Rattle.lifetimes.specs.declared.port.Strike.{Strike}
use Rattle.lifetimes.specs.declared.port.Port.{Port}

-- ---- channel by channel

-- what was struck, the notes that sound, and the pairs that may rest
abbrev pub struck_in : Port → ℕ → List Struck
struck_in port c = get_or (map (λ n. n.struck) port.parts) c []

abbrev pub listed_in : Port → ℕ → List Sounding
listed_in port c = get_or (map (λ n. n.sounding.items) port.parts) c []

abbrev pub rests_in : Port → ℕ → List Rest
rests_in port c = get_or (map (λ n. n.rests.items.items) port.parts) c []

-- on each channel just the notes are listed that sound; at c k tells whether one sounds on key k of channel c
abbrev pub ListsAll : Port → (ℕ → ℕ → Bool) → Type 0
ListsAll port at = (c : ℕ) → c < 16 → ListsSounding (struck_in port c) (listed_in port c) (at c)

-- ---- what is always so

-- each pair that sounds has a place among those that may rest
abbrev pub all_placed : List Notes → Bool
all_placed [] = true
all_placed (n ∷ ns) = are_placed n.rests.items.items n.sounding.items && all_placed ns

-- where notes rest
abbrev pub IsKept : ℕ → Port → Type 0
IsKept tail port = 0 < tail → all_placed port.parts ≡ true

abbrev pub all_kept : List Port → Bool
all_kept [] = true
all_kept (p ∷ ps) = all_placed p.parts && all_kept ps

abbrev pub AreKept : ℕ → List Port → Type 0
AreKept tail ports = 0 < tail → all_kept ports ≡ true

-- the pair of a note that will begin has a place
abbrev pub has_place : Port → Option Strike → Bool
has_place port None = true
has_place port (Some s) = is_placed (rests_in port s.channel) (entry_of s.key s.target).steps

abbrev pub HasPlace : ℕ → Port → Option Strike → Type 0
HasPlace tail port strike = 0 < tail → has_place port strike ≡ true

-- no more notes began on a port than so many
abbrev pub all_counted : ℕ → List Port → Bool
all_counted n [] = true
all_counted n (p ∷ ps) = nat_le (begun_in p.player) n && all_counted n ps

-- ---- one event

-- It is so of what each part was and is.
abbrev pub EachPart : (ℕ → Notes → Notes → Type 0) → Port → Port → Type 0
EachPart Becomes old new = (c : ℕ) → c < 16 → (d : Notes) → Becomes c (get_or old.parts c d) (get_or new.parts c d)

abbrev pub strikes_on : Option Strike → ℕ → ℕ → Bool
strikes_on None c k = false
strikes_on (Some s) c k = nat_eq s.channel c && nat_eq s.key k

-- what was struck on a key; a note that begins is the n-th
abbrev pub struck_after : Option Strike → ℕ → ℕ → ℕ → Struck → Struck
struck_after None n c k old = old
struck_after (Some s) n c k old = if nat_eq s.channel c && nat_eq s.key k then record { note = n; target = s.target } else old

abbrev pub is_reset_of : MidiWhat → Bool
is_reset_of what = resets (doing what)

-- whether a note sounds on a key before a note begins
abbrev pub is_left : MidiWhat → Ends → (ℕ → ℕ → Bool) → ℕ → ℕ → Bool
is_left what ends at c k = not (is_reset_of what) && (at c k && not (has (slice_index ends.keys c) k))

-- and after it began
abbrev pub sounds_then : MidiWhat → Ends → Option Strike → (ℕ → ℕ → Bool) → ℕ → ℕ → Bool
sounds_then what ends strike at c k = strikes_on strike c k || is_left what ends at c k

-- whether a note of a pair ended; the steps are those of what was struck before
abbrev pub ends_pair : Ends → Port → ℕ → ℤ → Bool
ends_pair ends port c q = any_key (λ k. has (slice_index ends.keys c) k && int_eq (entry_at (struck_in port c) k).steps q) 128

abbrev pub end_then : MidiWhat → Ends → ℕ → Port → ℕ → ℤ → Option ℕ
end_then what ends tick port c q = if is_reset_of what then None else if ends_pair ends port c q then Some tick else end_kept (rests_in port c) q

-- The player took the event, and told what ended.
pub record Plays (old : Port) (ended : Ends) (new : Port) (es : List MidiEvent) (e : MidiEvent) : Type 0 where
  pub stands : PlayerStands new.player (es ++ e ∷ [])
  pub ends : TellsEnded ended (after es).music.notes (after (es ++ e ∷ [])).music.notes

-- A note begins, the n-th, or none does.
pub record Begins (strike : Option Strike) (n : ℕ) (old new : Port) : Type 0 where
  pub number : new.number ≡ old.number
  pub player : new.player ≡ old.player
  pub many : length new.parts ≡ length old.parts
  pub struck : (c k : ℕ) → c < 16 → k < 128 → struck_at (struck_in new c) k ≡ struck_after strike n c k (struck_at (struck_in old c) k)
  pub listed : (at : ℕ → ℕ → Bool) → ListsAll old at → ((c k : ℕ) → strikes_on strike c k ≡ true → at c k ≡ false)
      → ListsAll new (λ c k. strikes_on strike c k || at c k)
  pub rests : (c : ℕ) → c < 16 → rests_in new c ≡ rests_in old c
  pub kept : (tail : ℕ) → HasPlace tail old strike → IsKept tail old → IsKept tail new

-- A port takes what an event at a tick says, and a note that begins by it as the n-th: what sounds after it where no note ended that
-- didn't sound, and none sounds on the key of the note that begins; and what rests from then on.
pub record Takes (tail : ℕ) (tick : ℕ) (what : MidiWhat) (strike : Option Strike) (n : ℕ) (old : Port) (ends : Ends) (new : Port) : Type 0 where
  pub number : new.number ≡ old.number
  pub plays : (es : List MidiEvent) (e : MidiEvent) → PlayerStands old.player es → e.tick ≡ tick → e.what ≡ what → Plays old ends new es e
  pub struck : (c k : ℕ) → c < 16 → k < 128 → struck_at (struck_in new c) k ≡ struck_after strike n c k (struck_at (struck_in old c) k)
  pub listed : (at : ℕ → ℕ → Bool) → ListsAll old at
      → ((c k : ℕ) → c < 16 → k < 128 → has (slice_index ends.keys c) k ≡ true → at c k ≡ true)
      → ((c k : ℕ) → strikes_on strike c k ≡ true → is_left what ends at c k ≡ false)
      → ListsAll new (sounds_then what ends strike at)
  pub rests : (at : ℕ → ℕ → Bool) → ListsAll old at
      → ((c k : ℕ) → c < 16 → k < 128 → has (slice_index ends.keys c) k ≡ true → at c k ≡ true)
      → 0 < tail → (c : ℕ) (q : ℤ) (t : ℕ) → c < 16 → tick ≤ t
      → is_within_tail tail t (end_kept (rests_in new c) q) ≡ is_within_tail tail t (end_then what ends tick old c q)
  -- where notes don't rest, no end is kept anew
  pub still : tail ≡ 0 → (c : ℕ) (q : ℤ) → c < 16 → IsKeptOrLost (end_kept (rests_in old c) q) (end_kept (rests_in new c) q)
