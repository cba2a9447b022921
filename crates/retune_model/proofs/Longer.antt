-- When more events follow, all that was at a position is as before.
use Rattle.std.proofs.Common.{◌≡◌, ◌≤◌, ◌<◌, ◌+◌, ◌∙◌, ℕ, zero, suc, List, [], ◌∷◌, ◌++◌, Bool, true, false, cond, Option, None, Some, length, refl, sym, ap, subst, nat_eq, arith, filter, take, drop, inl, inr, append_assoc}
use Rattle.std.proofs.lemmas.Bool.{cases_lt, cases_Bool}
use Rattle.std.proofs.lemmas.List.{length-append, take-append-le}
use Rattle.mt_base.specs.Midi.{MidiEvent}
use Rattle.midi_model.specs.Notes.{Note}
use Rattle.midi_model.specs.Music.{Music, quiet, play}
use Rattle.retune_model.specs.Options.{Options}
use Rattle.retune_model.specs.Ports.{Numbered, PortEvents, port_of, ports_after, ports_from, all_zero, with_event, of_port_from, of_port, unnumbered, event_at, music_at, is_reset_at, tick_from, tick_to, port_at}
use Rattle.retune_model.specs.Faults.{Targets, is_part}
use Rattle.retune_model.specs.Pairs.{Pair, pairs_of}
use Rattle.retune_model.specs.Rests.{notes_at, last_reset, past_at, lasts, holding, pairs_at, held_at}
use Rattle.retune_model.specs.PortNeed.{greater, most}
use Rattle.retune_model.specs.SourceFaults.{Fault, placed_at, bend_of, kind_in, breaks_ports, fault_behind, fault_of, fault_at, IsFaultless, IsFirst}
use Rattle.retune_model.proofs.Events.{none_at, now, not_now, any_resets, reset_at}
use Rattle.retune_model.proofs.Numbering.{ascend_from, among_first}

-- ---- events

with_append : (b : Bool) (n : Numbered) (xs ys : List Numbered) → with_event b n (xs ++ ys) ≡ with_event b n xs ++ ys
with_append true n xs ys = refl
with_append false n xs ys = refl

pub of_port_append : (z : ℕ) (ports : ℕ → ℕ) (a : ℕ) (es fs : List MidiEvent)
    → of_port_from z ports a (es ++ fs) ≡ of_port_from z ports a es ++ of_port_from z (ports_from ports es) (a + length es) fs
of_port_append z ports a [] fs = (let n : a ≡ a + 0 = omega arith in ap (λ k. of_port_from z ports k fs) n)
of_port_append z ports a (x ∷ es) fs =
    let n : suc a + length es ≡ a + suc (length es) = omega arith in
    let back : ℕ → List Numbered = λ k. of_port_from z (ports_from (ports_after ports x) es) k fs in
    ap (with_event (nat_eq (port_of ports x) z) (record { position = suc a; event = x }))
    (of_port_append z (ports_after ports x) (suc a) es fs ∙ ap (λ k. of_port_from z (ports_after ports x) (suc a) es ++ back k) n)
    ∙ with_append (nat_eq (port_of ports x) z) (record { position = suc a; event = x }) _ _

pub events_front : (front back : List MidiEvent) (z : ℕ) → of_port z (front ++ back)
    ≡ of_port z front ++ of_port_from z (ports_from all_zero front) (length front) back
events_front front back z =
    let n : 0 + length front ≡ length front = omega arith in
    of_port_append z all_zero 0 front back ∙ ap (λ k. of_port z front ++ of_port_from z (ports_from all_zero front) k back) n

pub event_front_from : (z : ℕ) (ports : ℕ → ℕ) (a k : ℕ) (es fs : List MidiEvent) → k ≤ a + length es
    → event_at (of_port_from z ports a (es ++ fs)) k ≡ event_at (of_port_from z ports a es) k
event_front_from z ports a k [] fs le = none_at a k (of_port_from z ports a fs) (ascend_from z ports a fs) (omega (arith, le))
event_front_from z ports a k (x ∷ es) fs le =
    pick (nat_eq (port_of ports x) z) (event_front_from z (ports_after ports x) (suc a) k es fs (omega (arith, le)))
  where
    n : Numbered
    n = record { position = suc a; event = x }

    long : List Numbered
    long = of_port_from z (ports_after ports x) (suc a) (es ++ fs)

    short : List Numbered
    short = of_port_from z (ports_after ports x) (suc a) es

    pick : (b : Bool) → event_at (of_port_from z (ports_after ports x) (suc a) (es ++ fs)) k
        ≡ event_at (of_port_from z (ports_after ports x) (suc a) es) k
        → event_at (with_event b (record { position = suc a; event = x }) (of_port_from z (ports_after ports x) (suc a) (es ++ fs))) k
        ≡ event_at (with_event b (record { position = suc a; event = x }) (of_port_from z (ports_after ports x) (suc a) es)) k
    pick false h = h
    pick true h = elim (cases_Bool (nat_eq (suc a) k)) [
      | inl e ↦ now k n long e ∙ (ap (λ es. x ∷ es) h ∙ sym (now k n short e))
      | inr e ↦ not_now k n long e ∙ (h ∙ sym (not_now k n short e))
    ]

pub event_front : (front back : List MidiEvent) (z k : ℕ) → k ≤ length front → event_at (of_port z (front ++ back)) k ≡ event_at (of_port z front) k
event_front front back z k le = event_front_from z all_zero 0 k front back (omega (arith, le))

pub reset_front : (front back : List MidiEvent) (z k : ℕ) → k ≤ length front
    → is_reset_at (of_port z (front ++ back)) k ≡ is_reset_at (of_port z front) k
reset_front front back z k le = reset_at k (of_port z (front ++ back)) ∙ (ap any_resets (event_front front back z k le)
    ∙ sym (reset_at k (of_port z front)))

pub music_front : (front back : List MidiEvent) (z k : ℕ) → k ≤ length front → music_at (of_port z (front ++ back)) k ≡ music_at (of_port z front) k
music_front front back z k le =
    ap (play quiet) (among_first z all_zero 0 k k (front ++ back) (omega arith)
    ∙ (ap (λ es. unnumbered (of_port_from z all_zero 0 es)) (take-append-le k front back le)
    ∙ sym (among_first z all_zero 0 k k front (omega arith))))

-- the events of a port with the next of the file
map_append : (xs ys : List Numbered) → unnumbered (xs ++ ys) ≡ unnumbered xs ++ unnumbered ys
map_append [] ys = refl
map_append (x ∷ xs) ys = ap (λ es. x.event ∷ es) (map_append xs ys)

pub events_next : (front : List MidiEvent) (e : MidiEvent) (z : ℕ)
    → unnumbered (of_port z (front ++ e ∷ []))
    ≡ cond (nat_eq (port_of (ports_from all_zero front) e) z) (unnumbered (of_port z front) ++ e ∷ []) (unnumbered (of_port z front))
events_next front e z = ap unnumbered (events_front front (e ∷ []) z) ∙ pick (nat_eq (port_of (ports_from all_zero front) e) z)
  where
    none_behind : (xs : List Numbered) → unnumbered (xs ++ []) ≡ unnumbered xs
    none_behind [] = refl
    none_behind (x ∷ xs) = ap (λ es. x.event ∷ es) (none_behind xs)

    pick : (b : Bool) → unnumbered (of_port z front ++ with_event b (record { position = suc (length front); event = e }) [])
        ≡ cond b (unnumbered (of_port z front) ++ e ∷ []) (unnumbered (of_port z front))
    pick true = map_append (of_port z front) (record { position = suc (length front); event = e } ∷ [])
    pick false = none_behind (of_port z front)

-- ---- ticks

tick_front_from : (t k : ℕ) (es fs : List MidiEvent) → k ≤ length es → tick_from t (es ++ fs) k ≡ tick_from t es k
tick_front_from t zero [] [] le = refl
tick_front_from t zero [] (x ∷ fs) le = refl
tick_front_from t (suc k) [] fs le = absurd (omega (arith, le))
tick_front_from t zero (x ∷ es) fs le = refl
tick_front_from t (suc k) (x ∷ es) fs le = tick_front_from x.tick k es fs (omega (arith, le))

pub tick_front : (front back : List MidiEvent) (k : ℕ) → k ≤ length front → tick_to (front ++ back) k ≡ tick_to front k
tick_front front back k le = tick_front_from 0 k front back le

tick_next_from : (t : ℕ) (es : List MidiEvent) (e : MidiEvent) (fs : List MidiEvent) → tick_from t (es ++ e ∷ fs) (suc (length es)) ≡ e.tick
tick_next_from t [] e [] = refl
tick_next_from t [] e (x ∷ fs) = refl
tick_next_from t (x ∷ es) e fs = tick_next_from x.tick es e fs

pub tick_next : (front : List MidiEvent) (e : MidiEvent) (back : List MidiEvent) → tick_to (front ++ e ∷ back) (suc (length front)) ≡ e.tick
tick_next front e back = tick_next_from 0 front e back

-- ---- notes and pairs

last_reset_same : (f g : ℕ → Bool) (m k : ℕ) → ((j : ℕ) → j ≤ m → f j ≡ g j) → k ≤ m → last_reset f k ≡ last_reset g k
last_reset_same f g m zero same le = refl
last_reset_same f g m (suc k) same le =
    ap (λ b. cond b (suc k) (last_reset f k)) (same (suc k) le) ∙ ap (cond (g (suc k)) (suc k)) (last_reset_same f g m k same (omega (arith, le)))

last_reset_le : (f : ℕ → Bool) (k : ℕ) → last_reset f k ≤ k
last_reset_le f zero = omega arith
last_reset_le f (suc k) = pick (f (suc k)) (last_reset_le f k)
  where
    pick : (b : Bool) → last_reset f k ≤ k → cond b (suc k) (last_reset f k) ≤ suc k
    pick true h = omega arith
    pick false h = omega (arith, h)

pub notes_front : (part : ℕ → Bool) (front back : List MidiEvent) (z k : ℕ) → k ≤ length front
    → notes_at part (of_port z (front ++ back)) k ≡ notes_at part (of_port z front) k
notes_front part front back z k le = ap (λ m. filter (λ (n : Note). part n.channel) m.notes) (music_front front back z k le)

pub past_front : (part : ℕ → Bool) (front back : List MidiEvent) (z k : ℕ) → k ≤ length front
    → past_at part (of_port z (front ++ back)) k ≡ past_at part (of_port z front) k
past_front part front back z k le =
    let f : ℕ → Bool = is_reset_at (of_port z (front ++ back)) in
    let g : ℕ → Bool = is_reset_at (of_port z front) in
    let same : last_reset f k ≡ last_reset g k = last_reset_same f g (length front) k (λ j l. reset_front front back z j l) le in
    let here : last_reset g k ≤ length front = (let l = last_reset_le g k in omega (arith, l, le)) in
    ap (λ j. length (notes_at part (of_port z (front ++ back)) j)) same ∙ ap length (notes_front part front back z (last_reset g k) here)

pub holding_front : (part : ℕ → Bool) (tail : ℕ) (front back : List MidiEvent) (z k : ℕ) → k ≤ length front
    → holding part tail (port_at (front ++ back) z) k ≡ holding part tail (port_at front z) k
holding_front part tail front back z k le =
    let long : List Numbered = of_port z (front ++ back) in
    ap (λ t. filter (lasts tail t) (drop (past_at part long k) (notes_at part long k))) (tick_front front back k le)
    ∙ (ap (λ p. filter (lasts tail (tick_to front k)) (drop p (notes_at part long k))) (past_front part front back z k le)
    ∙ ap (λ ns. filter (lasts tail (tick_to front k)) (drop (past_at part (of_port z front) k) ns)) (notes_front part front back z k le))

pub pairs_front : (o : Options) (part : ℕ → Bool) (table : Targets) (front back : List MidiEvent) (z k : ℕ) → k ≤ length front
    → pairs_at o part table (port_at (front ++ back) z) k ≡ pairs_at o part table (port_at front z) k
pairs_front o part table front back z k le = ap (pairs_of z o table) (holding_front part o.tail front back z k le)

pub held_front : (o : Options) (part : ℕ → Bool) (table : Targets) (front back : List MidiEvent) (z k : ℕ) → k ≤ length front
    → held_at o part table (port_at (front ++ back) z) k ≡ held_at o part table (port_at front z) k
held_front o part table front back z zero le = refl
held_front o part table front back z (suc k) le =
    let f : ℕ → List Note → List Pair = λ t ns. pairs_of z o table (filter (lasts o.tail t) ns) in
    ap (λ t. f t (holding part o.tail (port_at (front ++ back) z) k)) (tick_front front back (suc k) le)
    ∙ ap (f (tick_to front (suc k))) (holding_front part o.tail front back z k (omega (arith, le)))

-- the greatest number of pairs, where two sequences are the same up to a position
pub most_same : (f g : ℕ → List Pair) (k : ℕ) → ((j : ℕ) → j ≤ k → f j ≡ g j) → most f k ≡ most g k
most_same f g zero same = ap (λ ps. (length ps, 0)) (same 0 (omega arith))
most_same f g (suc k) same =
    ap (λ best. greater best (length (f (suc k))) (suc k)) (most_same f g k (λ j l. same j (omega (arith, l))))
    ∙ ap (λ ps. greater (most g k) (length ps) (suc k)) (same (suc k) (omega arith))

pub most_front : (o : Options) (part : ℕ → Bool) (table : Targets) (front back : List MidiEvent) (z k : ℕ) → k ≤ length front
    → most (pairs_at o part table (port_at (front ++ back) z)) k ≡ most (pairs_at o part table (port_at front z)) k
most_front o part table front back z k le =
    most_same (pairs_at o part table (port_at (front ++ back) z)) (pairs_at o part table (port_at front z)) k
    (λ j l. pairs_front o part table front back z j (omega (arith, l, le)))

-- ---- faults

-- the events behind a position that is not the end
record Behind {A : Type 0} (k : ℕ) (es fs : List A) : Type 0 where
  here : A
  later : List A
  before : drop k es ≡ here ∷ later
  now : drop k (es ++ fs) ≡ here ∷ (later ++ fs)

behind : {A : Type 0} (k : ℕ) (es fs : List A) → k < length es → Behind k es fs
behind k [] fs lt = absurd (omega (arith, lt))
behind zero (x ∷ es) fs lt = record { here = x; later = es; before = refl; now = refl }
behind (suc k) (x ∷ es) fs lt =
    (let b = behind k es fs (omega (arith, lt)) in record { here = b.here; later = b.later; before = b.before; now = b.now })

-- a fault by what it is judged by: the events before, the music before and after, and the pairs
abbrev judged : Options → Targets → ℕ → ℕ → MidiEvent → List MidiEvent → Music → Music → List Pair → Option Fault
judged o table z k x es m after pairs =
    placed_at (suc k) x (λ kind. bend_of z o after pairs kind x.what) (kind_in z o table x.tick m after (breaks_ports es x) pairs x.what)

behind_front : (o : Options) (table : Targets) (z k : ℕ) (es fs : List MidiEvent) (x : MidiEvent) → k < length es
    → fault_behind o table (es ++ fs) (port_at (es ++ fs) z) k x ≡ fault_behind o table es (port_at es z) k x
behind_front o table z k es fs x lt =
    let f : List MidiEvent → Music → Music → List Pair → Option Fault = judged o table z k x in
    let new : PortEvents = port_at (es ++ fs) z in
    let before : Music = music_at (of_port z es) k in
    let pairs : List Pair = pairs_at o (is_part o) table new (suc k) in
    ap (λ ts. f ts (music_at new.events k) (music_at new.events (suc k)) pairs) (take-append-le k es fs (omega (arith, lt)))
    ∙ (ap (λ m. f (take k es) m (music_at new.events (suc k)) pairs) (music_front es fs z k (omega (arith, lt)))
    ∙ (ap (λ m. f (take k es) before m pairs) (music_front es fs z (suc k) (omega (arith, lt)))
    ∙ ap (f (take k es) before (music_at (of_port z es) (suc k))) (pairs_front o (is_part o) table es fs z (suc k) (omega (arith, lt)))))

pub fault_front : (o : Options) (table : Targets) (front back : List MidiEvent) (k : ℕ) → k < length front
    → fault_at o table (front ++ back) k ≡ fault_at o table front k
fault_front o table front back k lt =
    let b = behind k front back lt in
    let port : List MidiEvent → ℕ = λ before. port_of (ports_from all_zero before) b.here in
    ap (fault_of o table (front ++ back) k) b.now
    ∙ (ap (λ ps. fault_behind o table (front ++ back) (port_at (front ++ back) (port ps)) k b.here) (take-append-le k front back (omega (arith, lt)))
    ∙ (behind_front o table (port (take k front)) k front back b.here lt ∙ sym (ap (fault_of o table front k) b.before)))

pub faultless_front : (o : Options) (table : Targets) (front back : List MidiEvent) → IsFaultless o table (front ++ back) → IsFaultless o table front
faultless_front o table front back all k lt = (let n = length-append front back in sym (fault_front o table front back k lt)
    ∙ all k (omega (arith, lt, n)))

pub faultless_next : (o : Options) (table : Targets) (front : List MidiEvent) (e : MidiEvent) → IsFaultless o table front
    → fault_at o table (front ++ e ∷ []) (length front) ≡ None → IsFaultless o table (front ++ e ∷ [])
faultless_next o table front e all last k lt = elim (cases_lt k (length front)) [
  | inl l ↦ fault_front o table front (e ∷ []) k l ∙ all k l
  | inr l ↦ (let n = length-append front (e ∷ []) in
      let same : k ≡ length front = omega (arith, lt, l, n) in
      ap (fault_at o table (front ++ e ∷ [])) same ∙ last)
]

pub is_first_front : (o : Options) (table : Targets) (front back : List MidiEvent) (k : ℕ) (f : Fault) → IsFirst o table front k f
    → IsFirst o table (front ++ back) k f
is_first_front o table front back k f h =
    let n = length-append front back in
    let low : k < length front = h.there in
    record {
      there = omega (arith, low, n);
      here = fault_front o table front back k low ∙ h.here;
      none_before = λ j l. fault_front o table front back j (omega (arith, l, low)) ∙ h.none_before j l;
    }

pub next_is_first : (o : Options) (table : Targets) (front : List MidiEvent) (e : MidiEvent) (back : List MidiEvent) (f : Fault)
    → IsFaultless o table front
    → fault_at o table (front ++ e ∷ []) (length front) ≡ Some f → IsFirst o table (front ++ e ∷ back) (length front) f
next_is_first o table front e back f all here =
    let n = length-append front (e ∷ []) in
    let first : IsFirst o table (front ++ e ∷ []) (length front) f =
    record { there = omega (arith, n); here = here; none_before = λ j l. fault_front o table front (e ∷ []) j l ∙ all j l } in
    subst (λ es. IsFirst o table es (length front) f) (append_assoc front (e ∷ []) back)
    (is_first_front o table (front ++ e ∷ []) back (length front) f first)
