-- What an event begins, as the parts tell it and as the definitions have it.
use Rattle.std.proofs.Common.{◌≡◌, ◌<◌, ◌+◌, ◌++◌, ℕ, zero, suc, pos, List, [], ◌∷◌, Bool, true, false, cond, ◌&&◌, Option, Some, None, length, take, drop, map, nat_eq, inl, inr, refl, sym, ap, ◌∙◌, subst, arith}
use Rattle.std.specs.Prelude.{is_some, IfSome}
use Rattle.std.proofs.lemmas.Bool.{both_ways, or_cases, or_left, or_right, eqb-true, eq-eqb, cond-true, cond-false, false_from_ne_true}
use Rattle.std.proofs.lemmas.List.{length-append, take-append-drop}
use Rattle.std.proofs.lemmas.List.Elements.{filter-append}
use Rattle.mt_base.specs.declared.event.Msg.TheVariants.{NoteOn, NoteOff, KeyPressure, Control, Program, Pressure, Bend}
use Rattle.mt_base.specs.Valid.{IsValidWhat}
use Rattle.mt_base.specs.Midi.{MidiWhat, Says, SysexOf, MetaOf, MidiEvent}
use Rattle.midi_model.specs.Sysex.{doing}
use Rattle.retune_model.specs.Table.{BendTarget}
use Rattle.retune_model.specs.Options.{Options, bends_notes}
use Rattle.retune_model.specs.Ports.{port_at, of_port, of_port_from, ports_from, all_zero, events_on, is_reset_at, resets}
use Rattle.retune_model.specs.PlaysTheSame.{begins_note, bend_target_if}
use Rattle.retune_model.specs.Faults.{Targets, is_part}
use Rattle.retune_model.specs.Pairs.{Pair, pair_if}
use Rattle.retune_model.specs.Dump.{has_note_on}
use Rattle.retune_model.specs.FrontLaws.{EventsAreKept}
use Rattle.retune_model.specs.Rests.{steps_of, begun_pair, begun_at, is_aimed}
use Rattle.retune_model.specs.PortNeed.{AreParts, pairs_on}
use Rattle.retune_model.specs.SourceFaults.{IsSound}
use Rattle.plan_laws.specs.Counting.{ComesAt, NextIsTaken, BegunIsOfEvent, EventIsAimed}
use Rattle.plan_laws.specs.EventLaws.{ResetIsOfEvent, EventsGoOn}
use Rattle.lifetimes.specs.Views.{pair_of}
use Rattle.lifetimes.specs.Told.{begun_by, aim_steps, aim_in, port_on}
use Rattle.lifetimes.specs.declared.change.Begun.{Begun}
use Rattle.channel_plan.specs.Planned.{Begins, note_ons, notes_to, targets_by, runs_on, runs_to}
use Rattle.channel_plan.specs.Serving.{BeginsNote, BeginsNothing}

-- the laws that are used
pub record EventKit : Type 0 where
  pub taken : NextIsTaken
  pub begun : BegunIsOfEvent
  pub aimed : EventIsAimed
  pub reset : ResetIsOfEvent
  pub events : EventsGoOn

and_false : (b : Bool) → (b && false) ≡ false
and_false true = refl
and_false false = refl

one_more : (o : Options) (es : List MidiEvent) (e : MidiEvent)
    → length (note_ons o (es ++ e ∷ [])) ≡ cond (begins_note (is_part o) e.what) (suc (length (note_ons o es))) (length (note_ons o es))
one_more o es e =
    ap length (filter-append (λ (x : MidiEvent). begins_note (is_part o) x.what) es (e ∷ []))
    ∙ length-append (note_ons o es) (note_ons o (e ∷ []))
    ∙ pick (begins_note (is_part o) e.what)
  where
    pick : (b : Bool) → length (note_ons o es) + length (cond b (e ∷ []) []) ≡ cond b (suc (length (note_ons o es))) (length (note_ons o es))
    pick true = omega arith
    pick false = omega arith

module _ (kit : EventKit) (o : Options) (table : Targets) (es : List MidiEvent) (k : ℕ) (e : MidiEvent) (comes : ComesAt es k e) where
  abbrev y : ℕ
  y = port_on (take k es) e

  notes_next : notes_to o es (suc k) ≡ cond (begins_note (is_part o) e.what) (suc (notes_to o es k)) (notes_to o es k)
  notes_next = ap (λ xs. length (note_ons o xs)) (kit.taken es k e comes).0 ∙ one_more o (take k es) e

  own_next : bends_notes o.route ≡ false → (z : ℕ)
      → runs_on o table es z (suc k) ≡ cond (nat_eq y z && begins_note (is_part o) e.what) (suc (runs_on o table es z k)) (runs_on o table es z k)
  own_next h z = unbent (suc k) ∙ ap (λ xs. length (note_ons o xs)) (kit.events es z k e comes) ∙ pick (nat_eq y z)
      ∙ ap (λ n. cond (nat_eq y z && begins_note (is_part o) e.what) (suc n) n) (sym (unbent k))
    where
      unbent : (j : ℕ) → runs_on o table es z j ≡ length (note_ons o (events_on z (take j es)))
      unbent j = cond-false (bends_notes o.route) (runs_to (pairs_on o (is_part o) table es z) j) (length (note_ons o (events_on z (take j es)))) h

      pick : (b : Bool) → length (note_ons o (cond b (events_on z (take k es) ++ e ∷ []) (events_on z (take k es))))
          ≡ cond (b && begins_note (is_part o) e.what) (suc (length (note_ons o (events_on z (take k es))))) (length (note_ons o (events_on z
          (take k es))))
      pick true = one_more o (events_on z (take k es)) e
      pick false = refl

  -- a note on of a part
  module _ (c key v : ℕ) (what : e.what ≡ Says (NoteOn c key (suc v))) (part_c : is_part o c ≡ true) where
    abbrev told : Pair
    told = record { part = record { port = y; channel = c }; steps = aim_steps o table key e.tick }

    begins_true : begins_note (is_part o) e.what ≡ true
    begins_true = ap (begins_note (is_part o)) what ∙ part_c

    plain_here : (z : ℕ) → is_reset_at (of_port z es) (suc k) ≡ false
    plain_here z = kit.reset es z k e comes ∙ ap (λ w. nat_eq y z && resets (doing w)) what ∙ and_false (nat_eq y z)

    paired : bends_notes o.route ≡ true → (z : ℕ) (x : Option BendTarget) → bend_target_if o.range (table key e.tick) ≡ x → is_some x ≡ true
        → nat_eq y z ≡ true
        → pair_if z c x [] ≡ told ∷ []
    paired bends z None is h s = absurd cc
    paired bends z (Some x) is h s =
        ap (λ n. let q : Pair = record { part = record { port = n; channel = c }; steps = x.steps } in q ∷ []) (sym (eqb-true y z s))
        ∙ ap (λ n. let q : Pair = record { part = record { port = y; channel = c }; steps = n } in q ∷ [])
        (ap steps_of (sym is) ∙ sym (cond-true (bends_notes o.route) (steps_of (bend_target_if o.range (table key e.tick))) (pos 0) bends))

    begun_here : IsSound o table (take (suc k) es) → bends_notes o.route ≡ true → (part : ℕ → Bool) (z : ℕ) → AreParts o part
        → begun_at o part table (port_at es z) (suc k) ≡ cond (nat_eq y z && part c) (told ∷ []) []
    begun_here sound bends part z parts =
        kit.begun o part table es z k e comes
        ∙ ap (λ w. cond (nat_eq y z) (begun_pair z o part table e.tick w) []) what
        ∙ pick (nat_eq y z) (part c) refl refl
      where
        aim : part c ≡ true → is_some (bend_target_if o.range (table key e.tick)) ≡ true
        aim h = sym (cond-true (part c) (is_some (bend_target_if o.range (table key e.tick))) true h)
            ∙ ap (is_aimed o part table e.tick) (sym what) ∙ kit.aimed o part table es k e parts comes sound

        pick : (a d : Bool) → nat_eq y z ≡ a → part c ≡ d
            → cond a (cond d (pair_if z c (bend_target_if o.range (table key e.tick)) []) []) [] ≡ cond (a && d) (told ∷ []) []
        pick true true s h = paired bends z (bend_target_if o.range (table key e.tick)) refl (aim h) s
        pick true false s h = refl
        pick false d s h = refl

    own_here : (z : ℕ) (q : Pair) → Begins o table es z (suc k) q → (z ≡ y) × (q.part.channel ≡ c)
    own_here z q begun = pick (nat_eq y z) refl
        (sym (ap (λ w. cond (nat_eq y z) (begun_pair z o (is_part o) (targets_by o table) e.tick w) []) what)
        ∙ sym (kit.begun o (is_part o) (targets_by o table) es z k e comes) ∙ begun)
      where
        channel_is : (x : Option BendTarget) → pair_if z c x [] ≡ q ∷ [] → q.part.channel ≡ c
        channel_is None h = absurd cc
        channel_is (Some x) h = (let s : record { part = record { port = z; channel = c }; steps = x.steps }
            ≡ q = cc in ap (λ (r : Pair). r.part.channel) (sym s))

        pick : (a : Bool) → nat_eq y z ≡ a
            → cond a (cond (is_part o c) (pair_if z c (bend_target_if o.range (targets_by o table key e.tick)) []) []) [] ≡ q ∷ [] → (z ≡ y)
            × (q.part.channel ≡ c)
        pick false s h = absurd cc
        pick true s h = (
          sym (eqb-true y z s),
          channel_is (bend_target_if o.range (targets_by o table key e.tick))
              (sym (cond-true (is_part o c) (pair_if z c (bend_target_if o.range (targets_by o table key e.tick)) []) [] part_c) ∙ h),
        )

    begins_told : (bends_notes o.route ≡ true → IsSound o table (take (suc k) es)) → BeginsNote o table es k e told
    begins_told sound = record {
      comes = comes;
      within = (kit.taken es k e comes).2;
      part = part_c;
      counted = notes_next ∙ cond-true (begins_note (is_part o) e.what) (suc (notes_to o es k)) (notes_to o es k) begins_true;
      plain = plain_here;
      begun = λ bends. begun_here (sound bends) bends;
      own = λ h. own_here;
      runs = λ h z. own_next h z ∙ ap (λ b. cond (nat_eq y z && b) (suc (runs_on o table es z k)) (runs_on o table es z k)) begins_true
          ∙ with_true (nat_eq y z) z;
    }
      where
        with_true : (b : Bool) (z : ℕ)
            → cond (b && true) (suc (runs_on o table es z k)) (runs_on o table es z k)
            ≡ cond b (suc (runs_on o table es z k)) (runs_on o table es z k)
        with_true true z = refl
        with_true false z = refl

  pub begins_note_told : (n : ℕ) (b : Begun) → (bends_notes o.route ≡ true → IsSound o table (take (suc k) es))
      → begun_by o table y n e.tick e.what ≡ Some b
      → BeginsNote o table es k e (pair_of b.pair) × (b.pair.part.port ≡ y)
  begins_note_told n b sound is = by_what e.what refl is
    where
      by_part : (c key v : ℕ) → e.what ≡ Says (NoteOn c key (suc v)) → (t : Bool) → is_part o c ≡ t
          → cond t (Some (record {
            note = n;
            pair = record { part = record { port = y; channel = c }; steps = aim_steps o table key e.tick };
            key =
                key;
            target = aim_in o table key e.tick;
          })) None ≡ Some b
          → BeginsNote o table es k e (pair_of b.pair) × (b.pair.part.port ≡ y)
      by_part c key v w false h s = absurd cc
      by_part c key v w true h s =
          let r : record {
            note = n;
            pair = record { part = record { port = y; channel = c }; steps = aim_steps o table key e.tick };
            key = key;
            target = aim_in o table key e.tick;
          } ≡ b = cc in (
            subst (λ (x : Begun). BeginsNote o table es k e (pair_of x.pair)) r (begins_told c key v w h sound),
            ap (λ (x : Begun). x.pair.part.port)
                (sym r),
          )

      by_what : (w : MidiWhat) → e.what ≡ w → begun_by o table y n e.tick w ≡ Some b → BeginsNote o table es k e (pair_of b.pair)
          × (b.pair.part.port ≡ y)
      by_what (Says (NoteOn c key (suc v))) w s = by_part c key v w (is_part o c) refl s
      by_what (Says (NoteOn c key zero)) w s = absurd cc
      by_what (Says (NoteOff c key v)) w s = absurd cc
      by_what (Says (KeyPressure c key v)) w s = absurd cc
      by_what (Says (Control c key v)) w s = absurd cc
      by_what (Says (Program c v)) w s = absurd cc
      by_what (Says (Pressure c v)) w s = absurd cc
      by_what (Says (Bend c v)) w s = absurd cc
      by_what (SysexOf lead bytes) w s = absurd cc
      by_what (MetaOf kind bytes) w s = absurd cc

  -- an event that begins no note
  none_told : (n : ℕ) → begun_by o table y n e.tick e.what ≡ None → begins_note (is_part o) e.what ≡ false
  none_told n is = by_what e.what is
    where
      by_part : (c key : ℕ) (t : Bool) (x : Begun) → cond t (Some x) None ≡ None → t ≡ false
      by_part c key true x s = absurd cc
      by_part c key false x s = refl

      by_what : (w : MidiWhat) → begun_by o table y n e.tick w ≡ None → begins_note (is_part o) w ≡ false
      by_what (Says (NoteOn c key (suc v))) s = by_part c key (is_part o c)
          (record {
            note = n;
            pair = record { part = record { port = y; channel = c }; steps = aim_steps o table key e.tick };
            key = key;
            target =
                aim_in o table key e.tick;
          }) s
      by_what (Says (NoteOn c key zero)) s = refl
      by_what (Says (NoteOff c key v)) s = refl
      by_what (Says (KeyPressure c key v)) s = refl
      by_what (Says (Control c key v)) s = refl
      by_what (Says (Program c v)) s = refl
      by_what (Says (Pressure c v)) s = refl
      by_what (Says (Bend c v)) s = refl
      by_what (SysexOf lead bytes) s = refl
      by_what (MetaOf kind bytes) s = refl

  nothing_of : (part : ℕ → Bool) (by : Targets) (z : ℕ) (w : MidiWhat) → AreParts o part → begins_note (is_part o) w ≡ false
      → begun_pair z o part by e.tick w ≡ []
  nothing_of part by z (Says (NoteOn c key (suc v))) parts h =
      cond-false (part c) (pair_if z c (bend_target_if o.range (by key e.tick)) []) [] (false_from_ne_true (part c) (λ t. both_ways (is_part o c) h
      (parts c t)))
  nothing_of part by z (Says (NoteOn c key zero)) parts h = refl
  nothing_of part by z (Says (NoteOff c key v)) parts h = refl
  nothing_of part by z (Says (KeyPressure c key v)) parts h = refl
  nothing_of part by z (Says (Control c key v)) parts h = refl
  nothing_of part by z (Says (Program c v)) parts h = refl
  nothing_of part by z (Says (Pressure c v)) parts h = refl
  nothing_of part by z (Says (Bend c v)) parts h = refl
  nothing_of part by z (SysexOf lead bytes) parts h = refl
  nothing_of part by z (MetaOf kind bytes) parts h = refl

  pub begins_nothing_told : (n : ℕ) → begun_by o table y n e.tick e.what ≡ None → BeginsNothing o table es k
  begins_nothing_told n is = record {
    counted = notes_next ∙ cond-false (begins_note (is_part o) e.what) (suc (notes_to o es k)) (notes_to o es k) never;
    begun = λ part by z parts. kit.begun o part by es z k e comes ∙ ap (λ ps. cond (nat_eq y z) ps []) (nothing_of part by z e.what parts never)
        ∙ either (nat_eq y z);
    runs = λ h z. own_next h z ∙ ap (λ b. cond (nat_eq y z && b) (suc (runs_on o table es z k)) (runs_on o table es z k)) never
        ∙ ap (λ b. cond b (suc (runs_on o table es z k)) (runs_on o table es z k)) (and_false (nat_eq y z));
  }
    where
      never : begins_note (is_part o) e.what ≡ false
      never = none_told n is

      either : (b : Bool) → cond b [] [] ≡ (let none : List Pair = [] in none)
      either true = refl
      either false = refl

-- ---- a port with a note has one among its events

map_joined : {A B : Type 0} (f : A → B) (xs ys : List A) → map f (xs ++ ys) ≡ map f xs ++ map f ys
map_joined f [] ys = refl
map_joined f (x ∷ xs) ys = ap (λ zs. f x ∷ zs) (map_joined f xs ys)

has_first : (part : ℕ → Bool) (xs ys : List MidiEvent) → has_note_on part xs ≡ true → has_note_on part (xs ++ ys) ≡ true
has_first part [] ys h = absurd (both_ways false refl h)
has_first part (x ∷ xs) ys h = elim (or_cases (begins_note part x.what) (has_note_on part xs) h) [
  | inl here ↦ or_left (begins_note part x.what) (has_note_on part (xs ++ ys)) here
  | inr later ↦ or_right (begins_note part x.what) (has_note_on part (xs ++ ys)) (has_first part xs ys later)
]

has_last : (part : ℕ → Bool) (xs : List MidiEvent) (e : MidiEvent) → begins_note part e.what ≡ true → has_note_on part (xs ++ e ∷ []) ≡ true
has_last part [] e h = or_left (begins_note part e.what) false h
has_last part (x ∷ xs) e h = or_right (begins_note part x.what) (has_note_on part (xs ++ e ∷ [])) (has_last part xs e h)

pub noted_at : EventKit → EventsAreKept → (part : ℕ → Bool) (es : List MidiEvent) (k : ℕ) (e : MidiEvent) → ComesAt es k e
    → begins_note part e.what ≡ true
    → has_note_on part (events_on (port_on (take k es) e) es) ≡ true
noted_at kit kept part es k e comes h =
    let z = port_on (take k es) e in
    let front = take (suc k) es in
    let back = drop (suc k) es in
    let more = of_port_from z (ports_from all_zero front) (length front) back in
    let here : events_on z front ≡ events_on z (take k es) ++ e ∷ [] = kit.events es z k e comes
    ∙ cond-true (nat_eq z z) (events_on z (take k es) ++ e ∷ []) (events_on z (take k es)) (eq-eqb z z refl) in
    let whole : events_on z es ≡ events_on z front ++ map (λ n. n.event) more =
    ap (events_on z) (sym (take-append-drop (suc k) es)) ∙ ap (map (λ n. n.event)) (kept front back z)
    ∙ map_joined (λ n. n.event) (of_port z front) more in
    ap (has_note_on part) whole ∙ has_first part (events_on z front) (map (λ n. n.event) more)
    (ap (has_note_on part) here ∙ has_last part (events_on z (take k es)) e h)

-- a note that begins is a note on of its channel
pub begins_of : (o : Options) (table : Targets) (y n t : ℕ) (w : MidiWhat) (b : Begun) → IsValidWhat w → begun_by o table y n t w ≡ Some b
    → (begins_note (is_part o) w ≡ true) × (begins_note (λ d. nat_eq d b.pair.part.channel) w ≡ true) × (b.pair.part.channel < 16)
    × (is_part o b.pair.part.channel ≡ true)
begins_of o table y n t (Says (NoteOn c key (suc v))) b valid is = pick (is_part o c) refl is
  where
    pick : (a : Bool) → is_part o c ≡ a
        → cond a (Some (record {
          note = n;
          pair = record { part = record { port = y; channel = c }; steps = aim_steps o table key t };
          key = key;
          target = aim_in o table key t;
        })) None ≡ Some b
        → (is_part o c ≡ true) × (nat_eq c b.pair.part.channel ≡ true) × (b.pair.part.channel < 16) × (is_part o b.pair.part.channel ≡ true)
    pick false h s = absurd cc
    pick true h s =
        let r : record {
          note = n;
          pair = record { part = record { port = y; channel = c }; steps = aim_steps o table key t };
          key = key;
          target =
              aim_in o table key t;
        } ≡ b = cc in
        let same : c ≡ b.pair.part.channel = ap (λ (x : Begun). x.pair.part.channel) r in
        let low = valid.0 in
        (h, eq-eqb c b.pair.part.channel same, omega (arith, low, same), subst (λ d. is_part o d ≡ true) same h)
begins_of o table y n t (Says (NoteOn c key zero)) b valid is = absurd cc
begins_of o table y n t (Says (NoteOff c key v)) b valid is = absurd cc
begins_of o table y n t (Says (KeyPressure c key v)) b valid is = absurd cc
begins_of o table y n t (Says (Control c key v)) b valid is = absurd cc
begins_of o table y n t (Says (Program c v)) b valid is = absurd cc
begins_of o table y n t (Says (Pressure c v)) b valid is = absurd cc
begins_of o table y n t (Says (Bend c v)) b valid is = absurd cc
begins_of o table y n t (SysexOf lead bytes) b valid is = absurd cc
begins_of o table y n t (MetaOf kind bytes) b valid is = absurd cc

pub begun_is_part : (o : Options) (table : Targets) (y n t : ℕ) (w : MidiWhat) (x : Option Begun) → IsValidWhat w → x ≡ begun_by o table y n t w
    → IfSome x (λ b. is_part o b.pair.part.channel ≡ true)
begun_is_part o table y n t w None valid is = tt
begun_is_part o table y n t w (Some b) valid is = (begins_of o table y n t w b valid (sym is)).3
