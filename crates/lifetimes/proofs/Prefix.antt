-- With one event more, all that was at a position is as before.
use Rattle.std.proofs.Common.{◌≡◌, ◌≤◌, ◌<◌, ◌+◌, ◌∙◌, ℕ, zero, suc, List, [], ◌∷◌, ◌++◌, Bool, true, false, cond, ◌&&◌, ◌||◌, Option, None, length, refl, sym, ap, nat_eq, nat_le, arith, filter, take, drop, inl, inr}
use Rattle.std.proofs.lemmas.Bool.{cases_lt, lt-leb, ne_eqb}
use Rattle.std.proofs.lemmas.List.{length-append}
use Rattle.std.proofs.lemmas.List.Elements.{filter-append}
use Rattle.mt_base.specs.Midi.{MidiEvent}
use Rattle.midi_model.specs.Sysex.{doing}
use Rattle.midi_model.specs.Notes.{Note}
use Rattle.midi_model.specs.Music.{Music, quiet, play}
use Rattle.retune_model.specs.Options.{Options}
use Rattle.retune_model.specs.Ports.{Numbered, PortEvents, port_of, ports_after, ports_from, all_zero, with_event, of_port_from, of_port, unnumbered, events_to, music_at, resets, is_reset_at, tick_from, tick_to, port_at}
use Rattle.retune_model.specs.Faults.{Targets, is_part}
use Rattle.retune_model.specs.Pairs.{Pair, pairs_of}
use Rattle.retune_model.specs.Rests.{notes_at, last_reset, past_at, lasts, holding, pairs_at}
use Rattle.retune_model.specs.SourceFaults.{Fault, placed_at, bend_of, kind_in, breaks_ports, fault_behind, fault_of, fault_at, IsFaultless}

-- the last event of a file, where it is of this port
abbrev pub last_of : ℕ → (ℕ → ℕ) → ℕ → MidiEvent → List Numbered
last_of z ports k e = with_event (nat_eq (port_of ports e) z) (record { position = suc k; event = e }) []

with_append : (b : Bool) (n : Numbered) (xs ys : List Numbered) → with_event b n (xs ++ ys) ≡ with_event b n xs ++ ys
with_append true n xs ys = refl
with_append false n xs ys = refl

pub of_port_more : (z : ℕ) (ports : ℕ → ℕ) (a : ℕ) (es : List MidiEvent) (e : MidiEvent)
    → of_port_from z ports a (es ++ e ∷ []) ≡ of_port_from z ports a es ++ last_of z (ports_from ports es) (a + length es) e
of_port_more z ports a [] e = (let n : a ≡ a + 0 = omega arith in ap (λ k. last_of z ports k e) n)
of_port_more z ports a (x ∷ es) e =
    let n : suc a + length es ≡ a + suc (length es) = omega arith in
    ap (with_event (nat_eq (port_of ports x) z) (record { position = suc a; event = x })) (of_port_more z (ports_after ports x) (suc a) es e ∙ ap (λ k. of_port_from z (ports_after ports x) (suc a) es ++ last_of z (ports_from (ports_after ports x) es) k e) n)
    ∙ with_append (nat_eq (port_of ports x) z) (record { position = suc a; event = x }) _ _

pub port_more : (z : ℕ) (es : List MidiEvent) (e : MidiEvent) → of_port z (es ++ e ∷ []) ≡ of_port z es ++ last_of z (ports_from all_zero es) (length es) e
port_more z es e = (let n : 0 + length es ≡ length es = omega arith in of_port_more z all_zero 0 es e ∙ ap (λ k. of_port z es ++ last_of z (ports_from all_zero es) k e) n)

none_behind : {A : Type 0} (xs : List A) → xs ++ [] ≡ xs
none_behind [] = refl
none_behind (x ∷ xs) = ap (λ y. x ∷ y) (none_behind xs)

-- a later event isn't among those up to a position
none_late : (z : ℕ) (ports : ℕ → ℕ) (k m : ℕ) (e : MidiEvent) → k ≤ m → filter (λ (n : Numbered). nat_le n.position k) (last_of z ports m e) ≡ []
none_late z ports k m e le = pick (nat_eq (port_of ports e) z)
  where
    pick : (b : Bool) → filter (λ (n : Numbered). nat_le n.position k) (with_event b (record { position = suc m; event = e }) []) ≡ []
    pick true = (let l : nat_le (suc m) k ≡ false = lt-leb (suc m) k (omega (arith, le)) in rw l refl)
    pick false = refl

pub events_more : (z k : ℕ) (es : List MidiEvent) (e : MidiEvent) → k ≤ length es → events_to k (of_port z (es ++ e ∷ [])) ≡ events_to k (of_port z es)
events_more z k es e le =
    ap (events_to k) (port_more z es e)
    ∙ ap unnumbered (filter-append (λ (n : Numbered). nat_le n.position k) (of_port z es) (last_of z (ports_from all_zero es) (length es) e)
    ∙ (ap (λ xs. filter (λ (n : Numbered). nat_le n.position k) (of_port z es) ++ xs) (none_late z (ports_from all_zero es) k (length es) e le) ∙ none_behind _))

pub music_more : (z k : ℕ) (es : List MidiEvent) (e : MidiEvent) → k ≤ length es → music_at (of_port z (es ++ e ∷ [])) k ≡ music_at (of_port z es) k
music_more z k es e le = ap (play quiet) (events_more z k es e le)

-- ---- ticks

tick_more_from : (t k : ℕ) (es : List MidiEvent) (e : MidiEvent) → k ≤ length es → tick_from t (es ++ e ∷ []) k ≡ tick_from t es k
tick_more_from t zero [] e le = refl
tick_more_from t (suc k) [] e le = absurd (omega (arith, le))
tick_more_from t zero (x ∷ es) e le = refl
tick_more_from t (suc k) (x ∷ es) e le = tick_more_from x.tick k es e (omega (arith, le))

pub tick_more : (k : ℕ) (es : List MidiEvent) (e : MidiEvent) → k ≤ length es → tick_to (es ++ e ∷ []) k ≡ tick_to es k
tick_more k es e le = tick_more_from 0 k es e le

tick_last_from : (t : ℕ) (es : List MidiEvent) (e : MidiEvent) → tick_from t (es ++ e ∷ []) (suc (length es)) ≡ e.tick
tick_last_from t [] e = refl
tick_last_from t (x ∷ es) e = tick_last_from x.tick es e

pub tick_last : (es : List MidiEvent) (e : MidiEvent) → tick_to (es ++ e ∷ []) (suc (length es)) ≡ e.tick
tick_last es e = tick_last_from 0 es e

-- ---- resets

reset_append : (k : ℕ) (xs ys : List Numbered) → is_reset_at (xs ++ ys) k ≡ (is_reset_at xs k || is_reset_at ys k)
reset_append k [] ys = refl
reset_append k (x ∷ xs) ys = ap (λ b. (nat_eq x.position k && resets (doing x.event.what)) || b) (reset_append k xs ys) ∙ or_assoc (nat_eq x.position k && resets (doing x.event.what)) (is_reset_at xs k) (is_reset_at ys k)
  where
    or_assoc : (a b c : Bool) → (a || (b || c)) ≡ ((a || b) || c)
    or_assoc true b c = refl
    or_assoc false b c = refl

no_reset : (z : ℕ) (ports : ℕ → ℕ) (k m : ℕ) (e : MidiEvent) → k ≤ m → is_reset_at (last_of z ports m e) k ≡ false
no_reset z ports k m e le = pick (nat_eq (port_of ports e) z)
  where
    pick : (b : Bool) → is_reset_at (with_event b (record { position = suc m; event = e }) []) k ≡ false
    pick true = (let other : nat_eq (suc m) k ≡ false = ne_eqb (suc m) k (λ same. absurd (omega (arith, same, le))) in rw other refl)
    pick false = refl

or_false : (b : Bool) → (b || false) ≡ b
or_false true = refl
or_false false = refl

pub reset_more : (z k : ℕ) (es : List MidiEvent) (e : MidiEvent) → k ≤ length es → is_reset_at (of_port z (es ++ e ∷ [])) k ≡ is_reset_at (of_port z es) k
reset_more z k es e le =
    ap (λ ns. is_reset_at ns k) (port_more z es e) ∙ (reset_append k (of_port z es) (last_of z (ports_from all_zero es) (length es) e)
    ∙ (ap (λ b. is_reset_at (of_port z es) k || b) (no_reset z (ports_from all_zero es) k (length es) e le) ∙ or_false (is_reset_at (of_port z es) k)))

last_reset_more : (f g : ℕ → Bool) (m k : ℕ) → ((j : ℕ) → j ≤ m → f j ≡ g j) → k ≤ m → last_reset f k ≡ last_reset g k
last_reset_more f g m zero same le = refl
last_reset_more f g m (suc k) same le = ap (λ b. cond b (suc k) (last_reset f k)) (same (suc k) le) ∙ ap (cond (g (suc k)) (suc k)) (last_reset_more f g m k same (omega (arith, le)))

last_reset_le : (f : ℕ → Bool) (k : ℕ) → last_reset f k ≤ k
last_reset_le f zero = omega arith
last_reset_le f (suc k) = pick (f (suc k)) (last_reset_le f k)
  where
    pick : (b : Bool) → last_reset f k ≤ k → cond b (suc k) (last_reset f k) ≤ suc k
    pick true h = omega arith
    pick false h = omega (arith, h)

-- ---- notes and pairs

pub notes_more : (part : ℕ → Bool) (z k : ℕ) (es : List MidiEvent) (e : MidiEvent) → k ≤ length es → notes_at part (of_port z (es ++ e ∷ [])) k ≡ notes_at part (of_port z es) k
notes_more part z k es e le = ap (λ m. filter (λ (n : Note). part n.channel) m.notes) (music_more z k es e le)

pub past_more : (part : ℕ → Bool) (z k : ℕ) (es : List MidiEvent) (e : MidiEvent) → k ≤ length es → past_at part (of_port z (es ++ e ∷ [])) k ≡ past_at part (of_port z es) k
past_more part z k es e le =
    let same : last_reset (is_reset_at (of_port z (es ++ e ∷ []))) k ≡ last_reset (is_reset_at (of_port z es)) k = last_reset_more _ _ (length es) k (λ j l. reset_more z j es e l) le in
    let here : last_reset (is_reset_at (of_port z es)) k ≤ length es = (let l = last_reset_le (is_reset_at (of_port z es)) k in omega (arith, l, le)) in
    ap (λ j. length (notes_at part (of_port z (es ++ e ∷ [])) j)) same ∙ ap length (notes_more part z (last_reset (is_reset_at (of_port z es)) k) es e here)

pub holding_more : (part : ℕ → Bool) (tail z k : ℕ) (es : List MidiEvent) (e : MidiEvent) → k ≤ length es → holding part tail (port_at (es ++ e ∷ []) z) k ≡ holding part tail (port_at es z) k
holding_more part tail z k es e le =
    ap (λ t. filter (lasts tail t) (drop (past_at part (of_port z (es ++ e ∷ [])) k) (notes_at part (of_port z (es ++ e ∷ [])) k))) (tick_more k es e le)
    ∙ (ap (λ p. filter (lasts tail (tick_to es k)) (drop p (notes_at part (of_port z (es ++ e ∷ [])) k))) (past_more part z k es e le)
    ∙ ap (λ ns. filter (lasts tail (tick_to es k)) (drop (past_at part (of_port z es) k) ns)) (notes_more part z k es e le))

pub pairs_more : (o : Options) (part : ℕ → Bool) (table : Targets) (z k : ℕ) (es : List MidiEvent) (e : MidiEvent) → k ≤ length es
    → pairs_at o part table (port_at (es ++ e ∷ []) z) k ≡ pairs_at o part table (port_at es z) k
pairs_more o part table z k es e le = ap (pairs_of z o table) (holding_more part o.tail z k es e le)

-- ---- faults

take_more : {A : Type 0} (k : ℕ) (es : List A) (e : A) → k ≤ length es → take k (es ++ e ∷ []) ≡ take k es
take_more zero es e le = refl
take_more (suc k) [] e le = absurd (omega (arith, le))
take_more (suc k) (x ∷ es) e le = ap (λ xs. x ∷ xs) (take_more k es e (omega (arith, le)))

pub take_all : {A : Type 0} (es : List A) (e : A) → take (length es) (es ++ e ∷ []) ≡ es
take_all [] e = refl
take_all (x ∷ es) e = ap (λ xs. x ∷ xs) (take_all es e)

pub drop_all : {A : Type 0} (es : List A) (e : A) → drop (length es) (es ++ e ∷ []) ≡ e ∷ []
drop_all [] e = refl
drop_all (x ∷ es) e = drop_all es e

-- the events behind a position that is not the end
record Behind {A : Type 0} (k : ℕ) (es : List A) (e : A) : Type 0 where
  here : A
  later : List A
  before : drop k es ≡ here ∷ later
  now : drop k (es ++ e ∷ []) ≡ here ∷ (later ++ e ∷ [])

behind : {A : Type 0} (k : ℕ) (es : List A) (e : A) → k < length es → Behind k es e
behind k [] e lt = absurd (omega (arith, lt))
behind zero (x ∷ es) e lt = record { here = x; later = es; before = refl; now = refl }
behind (suc k) (x ∷ es) e lt = (let b = behind k es e (omega (arith, lt)) in record { here = b.here; later = b.later; before = b.before; now = b.now })

-- a fault by what it is judged by: the events before, the music before and after, and the pairs
abbrev pub judged : Options → Targets → ℕ → ℕ → MidiEvent → List MidiEvent → Music → Music → List Pair → Option Fault
judged o table z k x es m after pairs =
    placed_at (suc k) x (λ kind. bend_of z o after pairs kind x.what) (kind_in z o table x.tick m after (breaks_ports es x) pairs x.what)

pub behind_more : (o : Options) (table : Targets) (z k : ℕ) (es : List MidiEvent) (e x : MidiEvent) → k < length es
    → fault_behind o table (es ++ e ∷ []) (port_at (es ++ e ∷ []) z) k x ≡ fault_behind o table es (port_at es z) k x
behind_more o table z k es e x lt =
    let f = judged o table z k x in
    let new : PortEvents = port_at (es ++ e ∷ []) z in
    ap (λ ts. f ts (music_at new.events k) (music_at new.events (suc k)) (pairs_at o (is_part o) table new (suc k))) (take_more k es e (omega (arith, lt)))
    ∙ (ap (λ m. f (take k es) m (music_at new.events (suc k)) (pairs_at o (is_part o) table new (suc k))) (music_more z k es e (omega (arith, lt)))
    ∙ (ap (λ m. f (take k es) (music_at (of_port z es) k) m (pairs_at o (is_part o) table new (suc k))) (music_more z (suc k) es e (omega (arith, lt)))
    ∙ ap (f (take k es) (music_at (of_port z es) k) (music_at (of_port z es) (suc k))) (pairs_more o (is_part o) table z (suc k) es e (omega (arith, lt)))))

pub fault_more : (o : Options) (table : Targets) (k : ℕ) (es : List MidiEvent) (e : MidiEvent) → k < length es → fault_at o table (es ++ e ∷ []) k ≡ fault_at o table es k
fault_more o table k es e lt =
    let b = behind k es e lt in
    ap (fault_of o table (es ++ e ∷ []) k) b.now
    ∙ (ap (λ ps. fault_behind o table (es ++ e ∷ []) (port_at (es ++ e ∷ []) (port_of (ports_from all_zero ps) b.here)) k b.here) (take_more k es e (omega (arith, lt)))
    ∙ (behind_more o table (port_of (ports_from all_zero (take k es)) b.here) k es e b.here lt ∙ sym (ap (fault_of o table es k) b.before)))

-- what is so of each event of a list and of one more, is so of all
pub faultless_more : (o : Options) (table : Targets) (es : List MidiEvent) (e : MidiEvent) → IsFaultless o table es → fault_at o table (es ++ e ∷ []) (length es) ≡ None → IsFaultless o table (es ++ e ∷ [])
faultless_more o table es e all last k lt = elim (cases_lt k (length es)) [
  | inl l ↦ fault_more o table k es e l ∙ all k l
  | inr l ↦ (let n = length-append es (e ∷ []) in
      let same : k ≡ length es = omega (arith, lt, l, n) in
      ap (fault_at o table (es ++ e ∷ [])) same ∙ last)
]

pub faultless_front : (o : Options) (table : Targets) (es : List MidiEvent) (e : MidiEvent) → IsFaultless o table (es ++ e ∷ []) → IsFaultless o table es
faultless_front o table es e all k lt = (let n = length-append es (e ∷ []) in sym (fault_more o table k es e lt) ∙ all k (omega (arith, lt, n)))
