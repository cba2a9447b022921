-- Ports without a retuned note: they have no pairs.
use Rattle.std.proofs.Common.{◌≡◌, ◌≢◌, ◌≤◌, ◌<◌, ◌+◌, ℕ, zero, suc, Bool, true, false, cond, ◌&&◌, ◌||◌, nat_eq, List, [], ◌∷◌, length, filter, refl, ap, sym, ◌∙◌, arith, inl, inr}
use Rattle.std.specs.List.{AllByRecursion}
use Rattle.std.specs.Set.{is_member}
use Rattle.std.proofs.lemmas.Bool.{eq-eqb, both_ways, or_left, or_right, and_parts}
use Rattle.std.proofs.lemmas.Bool.Decides.{eqb_tells}
use Rattle.mt_base.specs.declared.event.Msg.TheVariants.{NoteOn, NoteOff, KeyPressure, Control, Program, Pressure, Bend}
use Rattle.mt_base.specs.Midi.{MidiWhat, Says, SysexOf, MetaOf, MidiEvent}
use Rattle.mt_base.specs.Valid.{IsValidEvent, IsValidWhat}
use Rattle.retune_model.specs.Options.{Options}
use Rattle.retune_model.specs.PlaysTheSame.{begins_note}
use Rattle.retune_model.specs.Ports.{Numbered, with_event, of_port_from, unnumbered, events_on, ports_after, port_of, all_zero, port_at}
use Rattle.retune_model.specs.Faults.{Targets, is_part}
use Rattle.retune_model.specs.Dump.{has_note_on, from_up, parts_with_notes}
use Rattle.retune_model.specs.Pairs.{Pair, is_same_pair}
use Rattle.retune_model.specs.Rests.{begun_pair, begun_pairs, begun_at, IsAimedPort}
use Rattle.retune_model.specs.RestLaws.{OneRunBegins, HeldOrBegun, HeldWasThere}
use Rattle.retune_model.specs.RunLaws.{PairsAreTold}
use Rattle.retune_model.specs.FaultLaws.{SoundPortsAreAimed}
use Rattle.retune_model.specs.PortNeed.{AreParts, pairs_on, need_of, most, greater, IsNeedOf}
use Rattle.retune_model.specs.SourceFaults.{IsSound}
use Rattle.lifetimes.specs.Noted.{AreNoted}
use Rattle.receiver.specs.Notes.{has}

-- ---- the parts of a mask

filter_alike : (f g : ℕ → Bool) (c n : ℕ) → ((d : ℕ) → d < c + n → f d ≡ g d) → filter f (from_up c n) ≡ filter g (from_up c n)
filter_alike f g c zero same = refl
filter_alike f g c (suc n) same =
    ap (λ b. cond b (c ∷ filter f (from_up (c + 1) n)) (filter f (from_up (c + 1) n))) (same c (omega arith))
    ∙ ap (λ l. cond (g c) (c ∷ l) l) (filter_alike f g (c + 1) n (λ d low. same d (omega (arith, low))))

pub parts_are : (o : Options) (es : List MidiEvent) (mask : ℕ) → AreNoted o es mask → filter (has mask) (from_up 0 16) ≡ parts_with_notes o es
parts_are o es mask h = filter_alike (has mask) (λ c. is_part o c && has_note_on (λ d. nat_eq d c) es) 0 16 (λ d low. h d (omega (arith, low)))

-- ---- no part, no note

none_passes : (f : ℕ → Bool) (a n c : ℕ) → filter f (from_up a n) ≡ [] → a ≤ c → c < a + n → f c ≡ false
none_passes f a zero c h low high = absurd (omega (arith, low, high))
none_passes f a (suc n) c h low high = pick (f a) refl h (λ g other. none_passes f (a + 1) n c g (omega (arith, low, other)) (omega (arith, high)))
  where
    pick : (b : Bool) → f a ≡ b → cond b (a ∷ filter f (from_up (a + 1) n)) (filter f (from_up (a + 1) n)) ≡ []
        → (filter f (from_up (a + 1) n) ≡ [] → c ≢ a → f c ≡ false) → f c ≡ false
    pick true e g more = absurd cc
    pick false e g more = elim (eqb_tells c a) [
      | inl t ↦ ap f t.1 ∙ e
      | inr t ↦ more g t.1
    ]

valid_if : (b : Bool) (n : Numbered) (ns : List Numbered) → IsValidEvent n.event → AllByRecursion IsValidEvent (unnumbered ns)
    → AllByRecursion IsValidEvent (unnumbered (with_event b n ns))
valid_if true n ns h g = (h, g)
valid_if false n ns h g = g

valid_from : (z : ℕ) (ports : ℕ → ℕ) (k : ℕ) (es : List MidiEvent) → AllByRecursion IsValidEvent es
    → AllByRecursion IsValidEvent (unnumbered (of_port_from z ports k es))
valid_from z ports k [] h = tt
valid_from z ports k (e ∷ es) h =
    valid_if (nat_eq (port_of ports e) z) (record { position = suc k; event = e }) (of_port_from z (ports_after ports e) (suc k) es) h.0
    (valid_from z (ports_after ports e) (suc k) es h.1)

abbrev NoneOf : Options → List MidiEvent → Type 0
NoneOf o es = (c : ℕ) → c < 16 → (is_part o c && has_note_on (λ d. nat_eq d c) es) ≡ false

left_off : (p a b : Bool) → (p && (a || b)) ≡ false → (p && b) ≡ false
left_off true true b h = absurd cc
left_off true false b h = h
left_off false a b h = refl

none_struck : (o : Options) (w : MidiWhat) → IsValidWhat w → ((c : ℕ) → c < 16 → (is_part o c && begins_note (λ d. nat_eq d c) w) ≡ false)
    → begins_note (is_part o) w ≡ false
none_struck o (Says (NoteOn c k (suc v))) valid h = last (is_part o c) (h c (omega (arith, valid.0)))
  where
    last : (p : Bool) → (p && nat_eq c c) ≡ false → p ≡ false
    last true g = absurd (both_ways (nat_eq c c) g (eq-eqb c c refl))
    last false g = refl
none_struck o (Says (NoteOn c k zero)) valid h = refl
none_struck o (Says (NoteOff c k v)) valid h = refl
none_struck o (Says (KeyPressure c k v)) valid h = refl
none_struck o (Says (Control c k v)) valid h = refl
none_struck o (Says (Program c v)) valid h = refl
none_struck o (Says (Pressure c v)) valid h = refl
none_struck o (Says (Bend c v)) valid h = refl
none_struck o (SysexOf lead bytes) valid h = refl
none_struck o (MetaOf kind bytes) valid h = refl

right_off : (p a b : Bool) → (p && (a || b)) ≡ false → (p && a) ≡ false
right_off true true b h = absurd cc
right_off true false b h = refl
right_off false a b h = refl

both_off : (a b : Bool) → a ≡ false → b ≡ false → (a || b) ≡ false
both_off a b h g = rw (h, g) refl

none_begins : (o : Options) (es : List MidiEvent) → AllByRecursion IsValidEvent es → NoneOf o es → has_note_on (is_part o) es ≡ false
none_begins o [] valid h = refl
none_begins o (e ∷ es) valid h = both_off (begins_note (is_part o) e.what) (has_note_on (is_part o) es)
    (none_struck o e.what valid.0.what (λ c low. right_off (is_part o c) (begins_note (λ d. nat_eq d c) e.what) (has_note_on (λ d. nat_eq d c) es)
    (h c low)))
    (none_begins o es valid.1 (λ c low. left_off (is_part o c) (begins_note (λ d. nat_eq d c) e.what) (has_note_on (λ d. nat_eq d c) es) (h c low)))

-- a port of which no part has a note on has no retuned note
pub no_parts : (o : Options) (es : List MidiEvent) (z : ℕ) → AllByRecursion IsValidEvent es → parts_with_notes o (events_on z es) ≡ []
    → has_note_on (is_part o) (events_on z es) ≡ false
no_parts o es z valid none = none_begins o (events_on z es) (valid_from z all_zero 0 es valid)
    (λ c low. none_passes (λ c. is_part o c && has_note_on (λ d. nat_eq d c) (events_on z es)) 0 16 c none (omega arith) (omega (arith, low)))

-- and one of which a part has a note on has one
struck_of : (o : Options) (c : ℕ) (w : MidiWhat) → is_part o c ≡ true → begins_note (λ d. nat_eq d c) w ≡ true → begins_note (is_part o) w ≡ true
struck_of o c (Says (NoteOn d k (suc v))) part is = elim (eqb_tells d c) [
  | inl t ↦ ap (is_part o) t.1 ∙ part
  | inr t ↦ (let other = t.0 in absurd cc)
]
struck_of o c (Says (NoteOn d k zero)) part is = absurd cc
struck_of o c (Says (NoteOff d k v)) part is = absurd cc
struck_of o c (Says (KeyPressure d k v)) part is = absurd cc
struck_of o c (Says (Control d k v)) part is = absurd cc
struck_of o c (Says (Program d v)) part is = absurd cc
struck_of o c (Says (Pressure d v)) part is = absurd cc
struck_of o c (Says (Bend d v)) part is = absurd cc
struck_of o c (SysexOf lead bytes) part is = absurd cc
struck_of o c (MetaOf kind bytes) part is = absurd cc

some_of : (o : Options) (c : ℕ) (es : List MidiEvent) → is_part o c ≡ true → has_note_on (λ d. nat_eq d c) es ≡ true → has_note_on (is_part o) es
    ≡ true
some_of o c [] part is = absurd cc
some_of o c (e ∷ es) part is = pick (begins_note (λ d. nat_eq d c) e.what) refl is (λ g. some_of o c es part g)
  where
    pick : (b : Bool) → begins_note (λ d. nat_eq d c) e.what ≡ b → (b || has_note_on (λ d. nat_eq d c) es) ≡ true
        → (has_note_on (λ d. nat_eq d c) es ≡ true → has_note_on (is_part o) es ≡ true)
        → (begins_note (is_part o) e.what || has_note_on (is_part o) es) ≡ true
    pick true h g more = or_left (begins_note (is_part o) e.what) (has_note_on (is_part o) es) (struck_of o c e.what part h)
    pick false h g more = or_right (begins_note (is_part o) e.what) (has_note_on (is_part o) es) (more g)

first_passes : (f : ℕ → Bool) (a n c : ℕ) (cs : List ℕ) → filter f (from_up a n) ≡ c ∷ cs → f c ≡ true
first_passes f a zero c cs h = absurd cc
first_passes f a (suc n) c cs h = pick (f a) refl h (first_passes f (a + 1) n c cs)
  where
    pick : (b : Bool) → f a ≡ b → cond b (a ∷ filter f (from_up (a + 1) n)) (filter f (from_up (a + 1) n)) ≡ c ∷ cs
        → (filter f (from_up (a + 1) n) ≡ c ∷ cs → f c ≡ true) → f c ≡ true
    pick true e g more = (let same : a ≡ c = cc in ap f (sym same) ∙ e)
    pick false e g more = more g

pub with_parts : (o : Options) (es : List MidiEvent) (z c : ℕ) (cs : List ℕ) → parts_with_notes o (events_on z es) ≡ c ∷ cs
    → has_note_on (is_part o) (events_on z es) ≡ true
with_parts o es z c cs h =
    let both = first_passes (λ d. is_part o d && has_note_on (λ x. nat_eq x d) (events_on z es)) 0 16 c cs h in
    let parts = and_parts (is_part o c) (has_note_on (λ x. nat_eq x c) (events_on z es)) both in
    some_of o c (events_on z es) parts.0 parts.1

-- ---- no note, no pair

nothing_begun : (z : ℕ) (o : Options) (part : ℕ → Bool) (table : Targets) (t : ℕ) (w : MidiWhat) → begins_note part w ≡ false
    → begun_pair z o part table t w ≡ []
nothing_begun z o part table t (Says (NoteOn c k (suc v))) h = rw h refl
nothing_begun z o part table t (Says (NoteOn c k zero)) h = refl
nothing_begun z o part table t (Says (NoteOff c k v)) h = refl
nothing_begun z o part table t (Says (KeyPressure c k v)) h = refl
nothing_begun z o part table t (Says (Control c k v)) h = refl
nothing_begun z o part table t (Says (Program c v)) h = refl
nothing_begun z o part table t (Says (Pressure c v)) h = refl
nothing_begun z o part table t (Says (Bend c v)) h = refl
nothing_begun z o part table t (SysexOf lead bytes) h = refl
nothing_begun z o part table t (MetaOf kind bytes) h = refl

first_off : (a b : Bool) → (a || b) ≡ false → a ≡ false
first_off true b h = absurd cc
first_off false b h = refl

second_off : (a b : Bool) → (a || b) ≡ false → b ≡ false
second_off true b h = absurd cc
second_off false b h = h

none_begun : (z : ℕ) (o : Options) (part : ℕ → Bool) (table : Targets) (f : Numbered → Bool) (ns : List Numbered)
    → has_note_on part (unnumbered ns) ≡ false → begun_pairs z o part table (unnumbered (filter f ns)) ≡ []
none_begun z o part table f [] h = refl
none_begun z o part table f (n ∷ ns) h = pick (f n)
    (none_begun z o part table f ns (second_off (begins_note part n.event.what) (has_note_on part (unnumbered ns)) h))
  where
    pick : (b : Bool) → begun_pairs z o part table (unnumbered (filter f ns)) ≡ []
        → begun_pairs z o part table (unnumbered (cond b (n ∷ filter f ns) (filter f ns))) ≡ []
    pick true more = nothing_begun z o part table n.event.tick n.event.what
        (first_off (begins_note part n.event.what) (has_note_on part (unnumbered ns)) h)
    pick false more = more

pub none_begun_at : (o : Options) (part : ℕ → Bool) (table : Targets) (es : List MidiEvent) (z k : ℕ)
    → has_note_on part (events_on z es) ≡ false → begun_at o part table (port_at es z) k ≡ []
none_begun_at o part table es z k h = none_begun z o part table (λ n. nat_eq n.position k) (port_at es z).events h

none_there : (ps : List Pair) → PairsAreTold → ((p : Pair) → is_member is_same_pair ps p ≡ true → ⊥) → ps ≡ []
none_there [] told none = refl
none_there (p ∷ ps) told none = absurd (none p (or_left (is_same_pair p p) (is_member is_same_pair ps p) ((told p p).1 refl)))

-- the laws that are used
pub record PairLaws : Type 0 where
  pub told : PairsAreTold
  pub runs : OneRunBegins
  pub next : HeldOrBegun
  pub was : HeldWasThere
  pub aimed : SoundPortsAreAimed

module _ (laws : PairLaws) (o : Options) (part : ℕ → Bool) (table : Targets) (es : List MidiEvent) (z : ℕ) (parts : AreParts o part) (sound : IsSound
    o table es) (silent : has_note_on part (events_on z es) ≡ false) where
  port : IsAimedPort o part table (port_at es z)
  port = laws.aimed o part table es z parts sound

  pub no_pairs : (k : ℕ) → pairs_on o part table es z k ≡ []
  no_pairs zero = (laws.runs o part table (port_at es z) 0 port).none
  no_pairs (suc k) = none_there (pairs_on o part table es z (suc k)) laws.told
      (λ p there. elim (laws.next o part table (port_at es z) port k p there) [
        | inl held ↦ (let before : is_member is_same_pair (pairs_on o part table es z k) p ≡ true =
            laws.was o part table (port_at es z) port k p held in
            let none : is_member is_same_pair (pairs_on o part table es z k) p ≡ false = ap (λ ps. is_member is_same_pair ps p) (no_pairs k) in
            both_ways (is_member is_same_pair (pairs_on o part table es z k) p) none before)
        | inr begun ↦ (let none : is_member is_same_pair (begun_at o part table (port_at es z) (suc k)) p ≡ false =
            ap (λ ps. is_member is_same_pair ps p) (none_begun_at o part table es z (suc k) silent) in
            both_ways (is_member is_same_pair (begun_at o part table (port_at es z) (suc k)) p) none begun)
      ])

  most_none : (k : ℕ) → most (pairs_on o part table es z) k ≡ (0, 0)
  most_none zero = ap (λ ps. (length ps, 0)) (no_pairs 0)
  most_none (suc k) = ap (λ best. greater best (length (pairs_on o part table es z (suc k))) (suc k)) (most_none k)
      ∙ ap (λ ps. greater (0, 0) (length ps) (suc k)) (no_pairs (suc k))

  -- so that nothing is needed
  pub no_need : need_of o part table es z ≡ (0, 0)
  no_need = most_none (length es)

  pub needs_none : (n instant : ℕ) → IsNeedOf o part table es z n instant → n ≡ 0
  needs_none n instant is = sym is.reached ∙ ap length (no_pairs instant)
