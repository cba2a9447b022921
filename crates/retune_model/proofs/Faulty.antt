-- The first fault of a source, and what a source without one has.
use Rattle.std.proofs.Common.{◌≡◌, ◌≤◌, ◌<◌, ◌+◌, ◌-◌, ℕ, zero, suc, ℤ, pos, negsuc, ◌+ℤ◌, List, [], ◌∷◌, ◌++◌, Bool, true, false, cond, not, ◌&&◌, nat_lt, Option, Some, None, refl, ap, sym, ◌∙◌, subst, length, drop, take, arith, inl, inr, nat_eq}
use Rattle.std.specs.Prelude.{is_some}
use Rattle.std.specs.List.{AllByRecursion}
use Rattle.std.specs.Set.{is_member}
use Rattle.std.proofs.Math.Seq.{drop-append_seam}
use Rattle.std.proofs.lemmas.List.{length-drop}
use Rattle.std.proofs.lemmas.Bool.{cases_lt, or_cases, both_ways, eqb-true, eq-eqb, ltb-true, le-ltb, cond-true, not-false, or_left, or_right, or_from, and_right}
use Rattle.retune_model.specs.Pairs.{Part, Pair, is_same_part, is_same_pair, int_lt, is_earlier_part, is_before}
use Rattle.mt_base.specs.declared.event.Msg.{Msg}
use Rattle.mt_base.specs.declared.event.Msg.TheVariants.{NoteOn, NoteOff, KeyPressure, Control, Program, Pressure, Bend}
use Rattle.mt_base.specs.Midi.{MidiWhat, Says, SysexOf, MetaOf, MidiEvent}
use Rattle.midi_model.specs.Music.{Music}
use Rattle.retune_model.specs.Table.{Bounds}
use Rattle.retune_model.specs.Options.{Options, Route, ByDump, ByLive, ByBend, ByMpe, bends_notes}
use Rattle.retune_model.specs.PlaysTheSame.{bend_target_if}
use Rattle.retune_model.specs.Faults.{Targets, Kind, is_part, is_unmapped, is_out_of_device, has_target, misses_target, is_within_bend, first_that}
use Rattle.retune_model.specs.Ports.{Numbered, PortEvents, port_at, music_at, port_of, ports_after, all_zero, ports_from, with_event, of_port_from}
use Rattle.retune_model.specs.Rests.{pairs_at, is_aimed}
use Rattle.retune_model.specs.SourceFaults.{Fault, first_beyond, message_tests, kind_in, kind_behind, breaks_ports, bend_of, placed_at, fault_behind, fault_of, fault_at, IsFaultless, or_else, first_from, IsLeastBeyond, IsFine, AreFine, BreakNoPorts}
use Rattle.retune_model.proofs.SamePairs.{same_part, part_itself, same_pair}
use Rattle.retune_model.specs.PairOrder.{AreOrdered}
use Rattle.retune_model.proofs.Ordered.{Has, itself, before_cases}

-- ---- the first of some faults
pub none_first : (fault : ℕ → Option Fault) (k n : ℕ) → first_from fault k n ≡ None → (j : ℕ) → k ≤ j → j < k + n → fault j ≡ None
none_first fault k zero h j l m = absurd (omega (arith, l, m))
none_first fault k (suc n) h j l m = pick (fault k) refl h (none_first fault (suc k) n)
  where
    pick : (x : Option Fault) → fault k ≡ x → or_else x (first_from fault (suc k) n) ≡ None → (first_from fault (suc k) n ≡ None → (i : ℕ) → suc k ≤ i → i < suc k + n → fault i ≡ None) → fault j ≡ None
    pick (Some f) e r later = absurd cc
    pick None e r later = elim (cases_lt k j) [
      | inl g ↦ later r j g (omega (arith, m))
      | inr g ↦ let same : j ≡ k = omega (arith, l, g) in ap fault same ∙ e
    ]

pub first_none : (fault : ℕ → Option Fault) (k n : ℕ) → ((j : ℕ) → k ≤ j → j < k + n → fault j ≡ None) → first_from fault k n ≡ None
first_none fault k zero h = refl
first_none fault k (suc n) h = ap (λ x. or_else x (first_from fault (suc k) n)) (h k (omega arith) (omega arith)) ∙ first_none fault (suc k) n (λ j l m. h j (omega (arith, l)) (omega (arith, m)))

pub first_some : (fault : ℕ → Option Fault) (k n : ℕ) (f : Fault) → first_from fault k n ≡ Some f → (j : ℕ) × (k ≤ j) × (j < k + n) × (fault j ≡ Some f) × ((i : ℕ) → k ≤ i → i < j → fault i ≡ None)
first_some fault k zero f h = absurd cc
first_some fault k (suc n) f h = pick (fault k) refl h (first_some fault (suc k) n f)
  where
    pick : (x : Option Fault) → fault k ≡ x → or_else x (first_from fault (suc k) n) ≡ Some f
        → (first_from fault (suc k) n ≡ Some f → (j : ℕ) × (suc k ≤ j) × (j < suc k + n) × (fault j ≡ Some f) × ((i : ℕ) → suc k ≤ i → i < j → fault i ≡ None))
        → (j : ℕ) × (k ≤ j) × (j < k + suc n) × (fault j ≡ Some f) × ((i : ℕ) → k ≤ i → i < j → fault i ≡ None)
    pick (Some g) e r later = (k, omega arith, omega arith, e ∙ r, λ i l m. absurd (omega (arith, l, m)))
    pick None e r later =
        let x = later r in
        let low : suc k ≤ x.0 = x.1 in
        let high : x.0 < suc k + n = x.2 in (
          x.0,
          omega (arith, low),
          omega (arith, high),
          x.3,
          λ i l m. elim (cases_lt k i) [
            | inl g ↦ x.4 i g m
            | inr g ↦ let same : i ≡ k = omega (arith, l, g) in ap fault same ∙ e
          ],
        )

pub first_is : (fault : ℕ → Option Fault) (k n j : ℕ) (f : Fault) → k ≤ j → j < k + n → fault j ≡ Some f → ((i : ℕ) → k ≤ i → i < j → fault i ≡ None) → first_from fault k n ≡ Some f
first_is fault k zero j f l m e h = absurd (omega (arith, l, m))
first_is fault k (suc n) j f l m e h = elim (cases_lt k j) [
  | inl g ↦ ap (λ x. or_else x (first_from fault (suc k) n)) (h k (omega arith) g) ∙ first_is fault (suc k) n j f g (omega (arith, m)) e (λ i a b. h i (omega (arith, a)) b)
  | inr g ↦ let same : k ≡ j = omega (arith, l, g) in ap (λ x. or_else x (first_from fault (suc k) n)) (ap fault same ∙ e)
]

-- ---- where it is
pub placed_none : (k : ℕ) (e : MidiEvent) (bend : Kind → Option (ℤ × ℤ)) (x : Option Kind) → placed_at k e bend x ≡ None → x ≡ None
placed_none k e bend None h = refl
placed_none k e bend (Some kind) h = absurd cc

placed_some : (k : ℕ) (e : MidiEvent) (bend : Kind → Option (ℤ × ℤ)) (x : Option Kind) (f : Fault) → placed_at k e bend x ≡ Some f → (f.position ≡ k) × (f.tick ≡ e.tick) × (f.track ≡ e.track)
placed_some k e bend None f h = absurd cc
placed_some k e bend (Some kind) f h = (ap (λ x. position_of x) (sym h), ap (λ x. tick_of x) (sym h), ap (λ x. track_of x) (sym h))
  where
    position_of : Option Fault → ℕ
    position_of (Some g) = g.position
    position_of None = 0

    tick_of : Option Fault → ℕ
    tick_of (Some g) = g.tick
    tick_of None = 0

    track_of : Option Fault → ℕ
    track_of (Some g) = g.track
    track_of None = 0

pub fault_placed : (o : Options) (table : Targets) (before : List MidiEvent) (e : MidiEvent) (later : List MidiEvent) (f : Fault) → fault_at o table (before ++ e ∷ later) (length before) ≡ Some f
    → (f.position ≡ suc (length before)) × (f.tick ≡ e.tick) × (f.track ≡ e.track)
fault_placed o table before e later f h =
    let es : List MidiEvent = before ++ e ∷ later in
    let g : fault_of o table es (length before) (e ∷ later) ≡ Some f = ap (fault_of o table es (length before)) (sym (drop-append_seam before (e ∷ later))) ∙ h in
    placed_some (suc (length before)) e _ _ f g

-- ---- each note on has a target
pub none_holds : (xs : List (Kind × Bool)) → first_that xs ≡ None → AllByRecursion (λ x. x.1 ≡ false) xs
none_holds [] e = tt
none_holds (x ∷ xs) e = pick x.1 refl e (none_holds xs)
  where
    pick : (b : Bool) → x.1 ≡ b → cond b (Some x.0) (first_that xs) ≡ None → (first_that xs ≡ None → AllByRecursion (λ (y : Kind × Bool). y.1 ≡ false) xs) → (x.1 ≡ false) × AllByRecursion (λ (y : Kind × Bool). y.1 ≡ false) xs
    pick true h k rest = absurd cc
    pick false h k rest = (h, rest k)

aimed_route : (route : Route) (range : ℕ) (b : Bounds) → bends_notes route ≡ true → not (has_target route range b) ≡ false → is_some (bend_target_if range (Some b)) ≡ true
aimed_route ByDump range b h g = absurd cc
aimed_route ByLive range b h g = absurd cc
aimed_route ByBend range b h g = not-false (has_target ByBend range b) g
aimed_route ByMpe range b h g = not-false (has_target ByMpe range b) g

aimed_note : (o : Options) (p : Bool) (x : Option Bounds) → bends_notes o.route ≡ true → (p && not (is_some x)) ≡ false → (p && misses_target o x) ≡ false → cond p (is_some (bend_target_if o.range x)) true ≡ true
aimed_note o false x h f g = refl
aimed_note o true None h f g = absurd cc
aimed_note o true (Some b) h f g = aimed_route o.route o.range b h g

aimed_message : (o : Options) (table : Targets) (t : ℕ) (msg : Msg) → bends_notes o.route ≡ true → is_unmapped o table t msg ≡ false → is_out_of_device o table t msg ≡ false → is_aimed o (is_part o) table t (Says msg) ≡ true
aimed_message o table t (NoteOn c k zero) h f g = refl
aimed_message o table t (NoteOn c k (suc v)) h f g = aimed_note o (is_part o c) (table k t) h f g
aimed_message o table t (NoteOff c k v) h f g = refl
aimed_message o table t (KeyPressure c k v) h f g = refl
aimed_message o table t (Control c n v) h f g = refl
aimed_message o table t (Program c p) h f g = refl
aimed_message o table t (Pressure c v) h f g = refl
aimed_message o table t (Bend c v) h f g = refl

aimed_what : (z : ℕ) (o : Options) (table : Targets) (t : ℕ) (m after : Music) (ports : Bool) (pairs : List Pair) (w : MidiWhat) → bends_notes o.route ≡ true → kind_in z o table t m after ports pairs w ≡ None → is_aimed o (is_part o) table t w ≡ true
aimed_what z o table t m after ports pairs (Says msg) h k =
    let a = none_holds (message_tests z o table t m after ports pairs msg) k in
    aimed_message o table t msg h a.0 a.1.0
aimed_what z o table t m after ports pairs (SysexOf lead bytes) h k = refl
aimed_what z o table t m after ports pairs (MetaOf kind bytes) h k = refl

aimed_behind : (o : Options) (table : Targets) (es : List MidiEvent) (port : PortEvents) (k : ℕ) (e : MidiEvent) → bends_notes o.route ≡ true → fault_behind o table es port k e ≡ None
    → is_aimed o (is_part o) table e.tick e.what ≡ true
aimed_behind o table es port k e bends h =
    let after : Music = music_at port.events (suc k) in
    let pairs : List Pair = pairs_at o (is_part o) table port (suc k) in
    let kind : Option Kind = kind_in port.number o table e.tick (music_at port.events k) after (breaks_ports (take k es) e) pairs e.what in
    aimed_what port.number o table e.tick (music_at port.events k) after (breaks_ports (take k es) e) pairs e.what bends (placed_none (suc k) e (λ x. bend_of port.number o after pairs x e.what) kind h)

pub each_event : (P : MidiEvent → Type 0) (es : List MidiEvent) → ((k : ℕ) (e : MidiEvent) (later : List MidiEvent) → drop k es ≡ e ∷ later → P e) → AllByRecursion P es
each_event P [] h = tt
each_event P (e ∷ es) h = (h 0 e es refl, each_event P es (λ k x later g. h (suc k) x later g))

pub all_aimed : (o : Options) (table : Targets) (es : List MidiEvent) → bends_notes o.route ≡ true → IsFaultless o table es → AllByRecursion (λ e. is_aimed o (is_part o) table e.tick e.what ≡ true) es
all_aimed o table es bends fine = each_event (λ e. is_aimed o (is_part o) table e.tick e.what ≡ true) es (λ k e later g.
    let long : length (drop k es) ≡ suc (length later) = ap length g in
    let left : length (drop k es) ≡ length es - k = length-drop k es in
    let here : fault_of o table es k (e ∷ later) ≡ None = ap (fault_of o table es k) (sym g) ∙ fine k (omega (arith, long, left)) in
    aimed_behind o table es (port_at es (port_of (ports_from all_zero (take k es)) e)) k e bends here)

-- and so has each of a part
narrower : (o : Options) (part : ℕ → Bool) (table : Targets) (t : ℕ) (w : MidiWhat) → ((c : ℕ) → part c ≡ true → is_part o c ≡ true) → is_aimed o (is_part o) table t w ≡ true → is_aimed o part table t w ≡ true
narrower o part table t (Says (NoteOn c k zero)) parts h = refl
narrower o part table t (Says (NoteOn c k (suc v))) parts h = pick (part c) refl
  where
    pick : (b : Bool) → part c ≡ b → cond b (is_some (bend_target_if o.range (table k t))) true ≡ true
    pick false e = refl
    pick true e = sym (cond-true (is_part o c) (is_some (bend_target_if o.range (table k t))) true (parts c e)) ∙ h
narrower o part table t (Says (NoteOff c k v)) parts h = refl
narrower o part table t (Says (KeyPressure c k v)) parts h = refl
narrower o part table t (Says (Control c n v)) parts h = refl
narrower o part table t (Says (Program c p)) parts h = refl
narrower o part table t (Says (Pressure c v)) parts h = refl
narrower o part table t (Says (Bend c v)) parts h = refl
narrower o part table t (SysexOf lead bytes) parts h = refl
narrower o part table t (MetaOf kind bytes) parts h = refl

pub all_narrower : (o : Options) (part : ℕ → Bool) (table : Targets) (es : List MidiEvent) → ((c : ℕ) → part c ≡ true → is_part o c ≡ true)
    → AllByRecursion (λ e. is_aimed o (is_part o) table e.tick e.what ≡ true) es → AllByRecursion (λ e. is_aimed o part table e.tick e.what ≡ true) es
all_narrower o part table [] parts h = tt
all_narrower o part table (e ∷ es) parts h = (narrower o part table e.tick e.what parts h.0, all_narrower o part table es parts h.1)

-- ---- the least that goes too far
int_other_way : (a b : ℤ) → int_lt a b ≡ true → int_lt b a ≡ false
int_other_way (pos a) (pos b) h = let x : a < b = ltb-true a b h in le-ltb b a (omega (arith, x))
int_other_way (pos a) (negsuc b) h = absurd cc
int_other_way (negsuc a) (pos b) h = refl
int_other_way (negsuc a) (negsuc b) h = let x : b < a = ltb-true b a h in le-ltb a b (omega (arith, x))

int_not_itself : (a : ℤ) → int_lt a a ≡ false
int_not_itself (pos a) = le-ltb a a (omega arith)
int_not_itself (negsuc a) = le-ltb a a (omega arith)

not_earlier : (p q : Part) → p ≡ q → is_earlier_part p q ≡ false
not_earlier p q e = ap (is_earlier_part p) (sym e) ∙ or_from (nat_lt p.port p.port) (nat_eq p.port p.port && nat_lt p.channel p.channel) (le-ltb p.port p.port (omega arith))
    (and_right (nat_eq p.port p.port) (nat_lt p.channel p.channel) (le-ltb p.channel p.channel (omega arith)))

later_steps : (p q : Pair) → is_before p q ≡ true → p.part ≡ q.part → int_lt q.steps p.steps ≡ false
later_steps p q h e = elim (before_cases p q h) [
  | inl l ↦ absurd (both_ways (is_earlier_part p.part q.part) (not_earlier p.part q.part e) l)
  | inr s ↦ int_other_way p.steps q.steps s.1
]

member_all : (P : Pair → Type 0) (ps : List Pair) (p : Pair) → AllByRecursion P ps → Has ps p → P p
member_all P [] p h m = absurd cc
member_all P (q ∷ qs) p h m = elim (or_cases (is_same_pair p q) (is_member is_same_pair qs p) m) [
  | inl e ↦ subst P (sym (same_pair p q e)) h.0
  | inr e ↦ member_all P qs p h.1 e
]

abbrev made : Part → ℤ → Pair
made part steps = record { part = part; steps = steps }

pub least_beyond : (part : Part) (r : ℤ) (ps : List Pair) → AreOrdered ps → (q s : ℤ) → first_beyond part r ps ≡ Some (q, s) → (s ≡ r) × IsLeastBeyond part r ps q
least_beyond part r [] o q s h = absurd cc
least_beyond part r (p ∷ ps) o q s h = pick (is_same_part p.part part) (is_within_bend (p.steps +ℤ r)) refl refl h (least_beyond part r ps o.1 q s)
  where
    first : Option (ℤ × ℤ) → ℤ
    first (Some x) = x.0
    first None = q

    second : Option (ℤ × ℤ) → ℤ
    second (Some x) = x.1
    second None = s

    on : (steps : ℤ) → p.steps ≡ steps → is_same_part p.part part ≡ true → is_within_bend (p.steps +ℤ r) ≡ false → IsLeastBeyond part r (p ∷ ps) steps
    on steps same e w =
        let at : p ≡ made part steps = ap (λ c. made c p.steps) (same_part p.part part e) ∙ ap (made part) same in
        record {
          there = or_left (is_same_pair (made part steps) p) (is_member is_same_pair ps (made part steps)) (ap (is_same_pair (made part steps)) at ∙ itself (made part steps));
          beyond = ap (λ x. is_within_bend (x +ℤ r)) (sym same) ∙ w;
          least = λ x m c b. ap (int_lt x.steps) (sym same) ∙ elim (or_cases (is_same_pair x p) (is_member is_same_pair ps x) m) [
            | inl f ↦ ap (λ (y : Pair). int_lt y.steps p.steps) (same_pair x p f) ∙ int_not_itself p.steps
            | inr f ↦ later_steps p x (member_all (λ y. is_before p y ≡ true) ps x o.0 f) (same_part p.part part e ∙ sym c)
          ];
        }

    passed : IsLeastBeyond part r ps q → ((x : Pair) → x ≡ p → x.part ≡ part → is_within_bend (x.steps +ℤ r) ≡ false → ⊥) → IsLeastBeyond part r (p ∷ ps) q
    passed x none = record {
      there = or_right (is_same_pair (made part q) p) (is_member is_same_pair ps (made part q)) x.there;
      beyond = x.beyond;
      least = λ y m c b. elim (or_cases (is_same_pair y p) (is_member is_same_pair ps y) m) [
        | inl f ↦ absurd (none y (same_pair y p f) c b)
        | inr f ↦ x.least y f c b
      ];
    }

    pick : (a b : Bool) → is_same_part p.part part ≡ a → is_within_bend (p.steps +ℤ r) ≡ b → cond (a && not b) (Some (p.steps, r)) (first_beyond part r ps) ≡ Some (q, s)
        → (first_beyond part r ps ≡ Some (q, s) → (s ≡ r) × IsLeastBeyond part r ps q) → (s ≡ r) × IsLeastBeyond part r (p ∷ ps) q
    pick true false e w g later = (sym (ap second g), on q (ap first g) e w)
    pick true true e w g later = let x = later g in (x.0, passed x.1 (λ u y c b. both_ways (is_within_bend (p.steps +ℤ r)) (ap (λ (z : Pair). is_within_bend (z.steps +ℤ r)) (sym y) ∙ b) w))
    pick false b e w g later = let x = later g in (x.0, passed x.1 (λ u y c b. both_ways (is_same_part p.part part) e (part_itself p.part part (ap (λ (z : Pair). z.part) (sym y) ∙ c))))

pub none_beyond : (part : Part) (r : ℤ) (ps : List Pair) → first_beyond part r ps ≡ None → (p : Pair) → Has ps p → p.part ≡ part → is_within_bend (p.steps +ℤ r) ≡ true
none_beyond part r [] h p m c = absurd cc
none_beyond part r (q ∷ qs) h p m c = pick (is_same_part q.part part) (is_within_bend (q.steps +ℤ r)) refl refl h (none_beyond part r qs)
  where
    pick : (a b : Bool) → is_same_part q.part part ≡ a → is_within_bend (q.steps +ℤ r) ≡ b → cond (a && not b) (Some (q.steps, r)) (first_beyond part r qs) ≡ None
        → (first_beyond part r qs ≡ None → (x : Pair) → Has qs x → x.part ≡ part → is_within_bend (x.steps +ℤ r) ≡ true) → is_within_bend (p.steps +ℤ r) ≡ true
    pick true false e w g later = absurd cc
    pick true true e w g later = elim (or_cases (is_same_pair p q) (is_member is_same_pair qs p) m) [
      | inl f ↦ ap (λ (z : Pair). is_within_bend (z.steps +ℤ r)) (same_pair p q f) ∙ w
      | inr f ↦ later g p f c
    ]
    pick false b e w g later = elim (or_cases (is_same_pair p q) (is_member is_same_pair qs p) m) [
      | inl f ↦ absurd (both_ways (is_same_part q.part part) e (part_itself q.part part (ap (λ (z : Pair). z.part) (sym (same_pair p q f)) ∙ c)))
      | inr f ↦ later g p f c
    ]

-- ---- each port alone
no_port_fault : (z : ℕ) (o : Options) (table : Targets) (t : ℕ) (m after : Music) (ports : Bool) (pairs : List Pair) (w : MidiWhat) → kind_in z o table t m after ports pairs w ≡ None → kind_in z o table t m after false pairs w ≡ None
no_port_fault z o table t m after ports pairs (Says msg) h =
    let a = none_holds (message_tests z o table t m after ports pairs msg) h in
    let quiet : ports ≡ false = a.1.1.1.1.1.1.1.1.0 in
    ap (λ b. kind_in z o table t m after b pairs (Says msg)) (sym quiet) ∙ h
no_port_fault z o table t m after ports pairs (SysexOf lead bytes) h = h
no_port_fault z o table t m after ports pairs (MetaOf kind bytes) h = refl

fine_behind : (o : Options) (table : Targets) (es : List MidiEvent) (port : PortEvents) (k : ℕ) (e : MidiEvent) → fault_behind o table es port k e ≡ None → IsFine o table port k e
fine_behind o table es port k e h =
    let after : Music = music_at port.events (suc k) in
    let pairs : List Pair = pairs_at o (is_part o) table port (suc k) in
    let kind : Option Kind = kind_in port.number o table e.tick (music_at port.events k) after (breaks_ports (take k es) e) pairs e.what in
    no_port_fault port.number o table e.tick (music_at port.events k) after (breaks_ports (take k es) e) pairs e.what (placed_none (suc k) e (λ x. bend_of port.number o after pairs x e.what) kind h)

each_of_port : (P : Numbered → Type 0) (z : ℕ) (ports : ℕ → ℕ) (a : ℕ) (es : List MidiEvent)
    → ((k j : ℕ) (e : MidiEvent) (later : List MidiEvent) → j ≡ a + k → drop k es ≡ e ∷ later → port_of (ports_from ports (take k es)) e ≡ z → P (record { position = suc j; event = e })) → AllByRecursion P (of_port_from z ports a es)
each_of_port P z ports a [] h = tt
each_of_port P z ports a (e ∷ es) h = pick (nat_eq (port_of ports e) z) refl (each_of_port P z (ports_after ports e) (suc a) es (λ k j x later s g p. h (suc k) j x later (omega (arith, s)) g p))
  where
    pick : (b : Bool) → nat_eq (port_of ports e) z ≡ b → AllByRecursion P (of_port_from z (ports_after ports e) (suc a) es) → AllByRecursion P (with_event b (record { position = suc a; event = e }) (of_port_from z (ports_after ports e) (suc a) es))
    pick true g r = (h 0 a e es (omega arith) refl (eqb-true (port_of ports e) z g), r)
    pick false g r = r

pub fine_ports : (o : Options) (table : Targets) (es : List MidiEvent) (z : ℕ) → IsFaultless o table es → AreFine o table (port_at es z)
fine_ports o table es z fine = each_of_port (λ n. (k : ℕ) → n.position ≡ suc k → IsFine o table (port_at es z) k n.event) z all_zero 0 es (λ k j e later s g p i same.
    let long : length (drop k es) ≡ suc (length later) = ap length g in
    let left : length (drop k es) ≡ length es - k = length-drop k es in
    let at : k ≡ i = omega (arith, s, same) in
    let here : fault_of o table es k (e ∷ later) ≡ None = ap (fault_of o table es k) (sym g) ∙ fine k (omega (arith, long, left)) in
    subst (λ l. IsFine o table (port_at es z) l e) at (fine_behind o table es (port_at es z) k e (ap (λ y. fault_behind o table es (port_at es y) k e) (sym p) ∙ here)))

-- ---- and back: from each port to the file
in_port : (P : Numbered → Type 0) (z : ℕ) (ports : ℕ → ℕ) (a k : ℕ) (es : List MidiEvent) (e : MidiEvent) (later : List MidiEvent) → AllByRecursion P (of_port_from z ports a es)
    → drop k es ≡ e ∷ later → port_of (ports_from ports (take k es)) e ≡ z → (j : ℕ) → j ≡ a + k → P (record { position = suc j; event = e })
in_port P z ports a zero [] e later h g p j s = absurd cc
in_port P z ports a (suc k) [] e later h g p j s = absurd cc
in_port P z ports a zero (x ∷ es) e later h g p j s =
    let same : x ≡ e = ap (first_of x) g in
    let here : port_of ports x ≡ z = ap (port_of ports) same ∙ p in
    let all : AllByRecursion P (record { position = suc a; event = x } ∷ of_port_from z (ports_after ports x) (suc a) es) =
    subst (λ b. AllByRecursion P (with_event b (record { position = suc a; event = x }) (of_port_from z (ports_after ports x) (suc a) es))) (eq-eqb (port_of ports x) z here) h in
    subst (λ i. P (record { position = suc i; event = e })) (let at : a ≡ j = omega (arith, s) in at) (subst (λ y. P (record { position = suc a; event = y })) same all.0)
  where
    first_of : MidiEvent → List MidiEvent → MidiEvent
    first_of d [] = d
    first_of d (y ∷ ys) = y
in_port P z ports a (suc k) (x ∷ es) e later h g p j s = pick (nat_eq (port_of ports x) z) h (λ r. in_port P z (ports_after ports x) (suc a) k es e later r g p j (omega (arith, s)))
  where
    pick : (b : Bool) → AllByRecursion P (with_event b (record { position = suc a; event = x }) (of_port_from z (ports_after ports x) (suc a) es))
        → (AllByRecursion P (of_port_from z (ports_after ports x) (suc a) es) → P (record { position = suc j; event = e })) → P (record { position = suc j; event = e })
    pick true r later = later r.1
    pick false r later = later r

pub faultless_ports : (o : Options) (table : Targets) (es : List MidiEvent) → BreakNoPorts es → ((z : ℕ) → AreFine o table (port_at es z)) → IsFaultless o table es
faultless_ports o table es ports fine k l = go (drop k es) refl
  where
    go : (rest : List MidiEvent) → drop k es ≡ rest → fault_of o table es k rest ≡ None
    go [] g = refl
    go (e ∷ later) g =
        let z : ℕ = port_of (ports_from all_zero (take k es)) e in
        let port : PortEvents = port_at es z in
        let fine_here : IsFine o table port k e = in_port (λ n. (i : ℕ) → n.position ≡ suc i → IsFine o table port i n.event) z all_zero 0 k es e later (fine z) g refl k (omega arith) k refl in
        ap (λ b. placed_at (suc k) e (λ kind. bend_of port.number o (music_at port.events (suc k)) (pairs_at o (is_part o) table port (suc k)) kind e.what) (kind_behind o table b port k e)) (ports k e later g)
        ∙ ap (placed_at (suc k) e (λ kind. bend_of port.number o (music_at port.events (suc k)) (pairs_at o (is_part o) table port (suc k)) kind e.what)) fine_here
