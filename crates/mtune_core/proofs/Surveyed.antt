-- What the first pass finds, event by event.
use Rattle.std.proofs.Common.{◌≡◌, ◌<◌, ◌≤◌, ◌+◌, ◌*◌, ◌^◌, ◌%◌, ℕ, suc, List, [], ◌∷◌, ◌++◌, Bool, true, false, cond, Option, Some, None, Result, Ok, Err, length, refl, sym, ap, subst, ◌∙◌, arith}
use Rattle.std.specs.Prelude.{◌||◌, ◌&&◌, nat_eq, IfSome, IfErr, IsErrAnd}
use Rattle.std.specs.Int.{w128}
use Rattle.std.specs.Int.Bits.{bit_or}
use Rattle.std.proofs.lemmas.Bool.{eqb-true, eqb-false, eq-eqb}
use Rattle.std.proofs.lemmas.List.{append_assoc, length-append}
use Rattle.std.proofs.lemmas.Nat.Bits.{bit_at_set_same, bit_at_set_other}
use Rattle.mt_base.specs.declared.event.Msg.TheVariants.{NoteOn}
use Rattle.mt_base.specs.Midi.{MidiWhat, MidiEvent, Says}
use Rattle.mt_base.specs.Valid.{IsValidEvent, IsValidWhat}
use Rattle.retune_model.specs.Options.{Options}
use Rattle.retune_model.specs.PlaysTheSame.{begins_note}
use Rattle.retune_model.specs.Faults.{Targets, is_part}
use Rattle.retune_model.specs.SourceFaults.{IsFaultless, first_fault, fault_at}
use Rattle.lifetimes.specs.declared.change.Begun.{Begun}
use Rattle.lifetimes.specs.declared.change.Change.{Change}
use Rattle.lifetimes.specs.declared.fault.SourceFault.{SourceFault}
use Rattle.lifetimes.specs.declared.fault.StepFault.{StepFault}
use Rattle.lifetimes.specs.declared.fault.StepFault.TheVariants as step
use Rattle.lifetimes.specs.Views.{fault_of}
use Rattle.retune_model.specs.FrontLaws.{FrontIsFaultless, NextIsFirst}
use Rattle.lifetimes.specs.Noted.{IsNoted}
use Rattle.lifetimes.specs.Told.{count_begun, begun_by, aim_steps, aim_in, port_on, TellsChange, told_fault, source_of, IsCaused}
use Rattle.key_report.specs.Keys.{is_used}
use Rattle.mtune_core.specs.declared.counting.Used.{Used}
use Rattle.mtune_core.specs.declared.survey.Found.{Found}
use Rattle.mtune_core.specs.Report.{begins_on, uses_key}
use Rattle.mtune_core.specs.Survey.{IsUsed, IsFound, key_begun}

-- ---- one event more

abbrev if_begun : Bool → ℕ
if_begun b = cond b 1 0

begun-append : (o : Options) (es : List MidiEvent) (e : MidiEvent)
    → count_begun o (es ++ e ∷ []) ≡ if_begun (begins_note (is_part o) e.what) + count_begun o es
begun-append o [] e = refl
begun-append o (x ∷ xs) e = let more = begun-append o xs e in omega (arith, more)

one_more : (o : Options) (es : List MidiEvent) (e : MidiEvent) → begins_note (is_part o) e.what ≡ true
    → count_begun o (es ++ e ∷ []) ≡ suc (count_begun o es)
one_more o es e h = let is = begun-append o es e in let one : if_begun (begins_note (is_part o) e.what) ≡ 1 = ap if_begun h in omega (arith, is, one)

no_more : (o : Options) (es : List MidiEvent) (e : MidiEvent) → begins_note (is_part o) e.what ≡ false
    → count_begun o (es ++ e ∷ []) ≡ count_begun o es
no_more o es e h = let is = begun-append o es e in let none : if_begun (begins_note (is_part o) e.what) ≡ 0 = ap if_begun h in omega (arith, is, none)

or_swap : (a b c : Bool) → (a || (b || c)) ≡ (b || (a || c))
or_swap true true c = refl
or_swap true false c = refl
or_swap false true c = refl
or_swap false false c = refl

uses-append : (o : Options) (key : ℕ) (es : List MidiEvent) (e : MidiEvent)
    → uses_key o key (es ++ e ∷ []) ≡ (begins_on o key e.what || uses_key o key es)
uses-append o key [] e = refl
uses-append o key (x ∷ xs) e = ap (λ u. begins_on o key x.what || u) (uses-append o key xs e)
    ∙ or_swap (begins_on o key x.what) (begins_on o key e.what) (uses_key o key xs)

-- ---- what is told of it

-- the n-th note, on port z, that a note on of a key begins at a tick
abbrev the_note : Options → Targets → (z n t c k : ℕ) → Begun
the_note o table z n t c k = record {
  note = n;
  pair = record { part = record { port = z; channel = c }; steps = aim_steps o table k t };
  key = k;
  target = aim_in o table k t;
}

-- the note that an event begins as the n-th
record Begins (o : Options) (what : MidiWhat) (n : ℕ) (b : Begun) : Type 0 where
  pub counts : begins_note (is_part o) what ≡ true
  pub note : b.note ≡ n
  pub key : (key : ℕ) → begins_on o key what ≡ nat_eq b.key key

begins : (o : Options) (table : Targets) (z n t : ℕ) (what : MidiWhat) (b : Begun) → begun_by o table z n t what ≡ Some b → Begins o what n b
begins o table z n t (Says (NoteOn c k (suc v))) b h = pick (is_part o c) refl h
  where
    pick : (x : Bool) → is_part o c ≡ x → cond {A = Option Begun} x (Some (the_note o table z n t c k)) None ≡ Some b
        → Begins o (Says (NoteOn c k (suc v))) n b
    pick true e g = record {
      counts = e;
      note = let same : n ≡ b.note = cc in sym same;
      key = λ key. ap (λ x. x && nat_eq k key) e ∙ (let same : k ≡ b.key = cc in ap (λ j. nat_eq j key) same);
    }
    pick false e g = absurd cc
begins o table z n t what b h = absurd cc

record BeginsNone (o : Options) (what : MidiWhat) : Type 0 where
  pub counts : begins_note (is_part o) what ≡ false
  pub key : (key : ℕ) → begins_on o key what ≡ false

begins_none : (o : Options) (table : Targets) (z n t : ℕ) (what : MidiWhat) → begun_by o table z n t what ≡ None → BeginsNone o what
begins_none o table z n t (Says (NoteOn c k (suc v))) h = pick (is_part o c) refl h
  where
    pick : (x : Bool) → is_part o c ≡ x → cond {A = Option Begun} x (Some (the_note o table z n t c k)) None ≡ None
        → BeginsNone o (Says (NoteOn c k (suc v)))
    pick true e g = absurd cc
    pick false e g = record { counts = e; key = λ key. ap (λ x. x && nat_eq k key) e }
begins_none o table z n t what h = record { counts = refl; key = λ key. refl }

-- its key is one of 128
pub key_is_low : (o : Options) (table : Targets) (es : List MidiEvent) (e : MidiEvent) (change : Change) → IsValidEvent e
    → TellsChange o table es e change → IfSome change.begun (λ b. b.key < 128)
key_is_low o table es e change valid h = by_begun change.begun h.begun
  where
    low : (what : MidiWhat) (b : Begun) → IsValidWhat what → Begins o what (suc (count_begun o es)) b → b.key < 128
    low (Says (NoteOn c k (suc v))) b g i =
        let same : k ≡ b.key = eqb-true k b.key (both (is_part o c) (nat_eq k b.key) (i.key b.key ∙ eq-eqb b.key b.key refl)) in
        omega (arith, same, g)
      where
        both : (x y : Bool) → (x && y) ≡ true → y ≡ true
        both true y p = p
        both false y p = absurd cc
    low what b g i = absurd (let no = i.key b.key ∙ eq-eqb b.key b.key refl in cc)

    by_begun : (x : Option Begun) → x ≡ begun_by o table (port_on es e) (suc (count_begun o es)) e.tick e.what → IfSome x (λ b. b.key < 128)
    by_begun None g = tt
    by_begun (Some b) g = low e.what b valid.what (begins o table (port_on es e) (suc (count_begun o es)) e.tick e.what b (sym g))

-- ---- the keys

used_set : (keys j key : ℕ) → j < 128 → is_used (bit_or keys (1 * 2 ^ j % 2 ^ 128)) key ≡ (nat_eq j key || is_used keys key)
used_set keys j key low = pick (nat_eq j key) refl
  where
    pick : (x : Bool) → nat_eq j key ≡ x → is_used (bit_or keys (1 * 2 ^ j % 2 ^ 128)) key ≡ (x || is_used keys key)
    pick true e = let same : j ≡ key = eqb-true j key e in
        subst (λ i. is_used (bit_or keys (1 * 2 ^ j % 2 ^ 128)) i ≡ true) same (ap (λ b. nat_eq b 1) (bit_at_set_same w128 keys j low))
    pick false e = ap (λ b. nat_eq b 1) (bit_at_set_other w128 keys j low key (λ same. eqb-false j key e (sym same)))

-- ---- what is found with one event more

-- an event that begins a note on this key; and one that begins none
used_with : (o : Options) (es : List MidiEvent) (e : MidiEvent) (n key : ℕ) (old new : Used) (b : Begun) → Begins o e.what n b → b.key ≡ key
    → key < 128 → IsUsed o es old
    → new.notes ≡ suc (count_begun o es) → new.keys ≡ bit_or old.keys (1 * 2 ^ key % 2 ^ 128) → IsUsed o (es ++ e ∷ []) new
used_with o es e n key old new b one same low used notes keys = record {
  notes = notes ∙ sym (one_more o es e one.counts);
  keys = λ k lt. ap (λ x. is_used x k) keys ∙ used_set old.keys key k low ∙ ap (λ u. nat_eq key k || u) (used.keys k lt)
      ∙ ap (λ j. nat_eq j k || uses_key o k es) (sym same) ∙ sym (uses-append o k es e ∙ ap (λ u. u || uses_key o k es) (one.key k));
}

used_without : (o : Options) (es : List MidiEvent) (e : MidiEvent) (old new : Used) → BeginsNone o e.what → IsUsed o es old → new.notes ≡ old.notes
    → new.keys ≡ old.keys → IsUsed o (es ++ e ∷ []) new
used_without o es e old new none used notes keys = record {
  notes = notes ∙ used.notes ∙ sym (no_more o es e none.counts);
  keys = λ k lt. ap (λ x. is_used x k) keys ∙ used.keys k lt ∙ sym (uses-append o k es e ∙ ap (λ u. u || uses_key o k es) (none.key k));
}

pub found_with : (o : Options) (table : Targets) (es : List MidiEvent) (e : MidiEvent) (change : Change) (old new : Found) (b : Begun)
    → TellsChange o table es e change → IsFound o es old
    → change.begun ≡ Some b → b.key < 128 → IsNoted o (es ++ e ∷ []) new.noted → new.used.notes ≡ b.note
    → new.used.keys ≡ bit_or old.used.keys (1 * 2 ^ b.key % 2 ^ 128) → IsFound o (es ++ e ∷ []) new
found_with o table es e change old new b told found is low noted notes keys =
    let one = begins o table (port_on es e) (suc (count_begun o es)) e.tick e.what b (sym told.begun ∙ is) in
    record {
      noted = noted;
      used = used_with o es e (suc (count_begun o es)) b.key old.used new.used b one refl low found.used
          (notes ∙ one.note) keys;
    }

pub found_without : (o : Options) (table : Targets) (es : List MidiEvent) (e : MidiEvent) (change : Change) (old new : Found)
    → TellsChange o table es e change → IsFound o es old
    → change.begun ≡ None → IsNoted o (es ++ e ∷ []) new.noted → new.used.notes ≡ old.used.notes → new.used.keys ≡ old.used.keys
    → IsFound o (es ++ e ∷ []) new
found_without o table es e change old new told found is noted notes keys =
    let none = begins_none o table (port_on es e) (suc (count_begun o es)) e.tick e.what (sym told.begun ∙ is) in
    record { noted = noted; used = used_without o es e old.used new.used none found.used notes keys }

-- the same by the message alone
pub struck : (o : Options) (es : List MidiEvent) (e : MidiEvent) (c k v : ℕ) (old new : Used) → e.what ≡ Says (NoteOn c k (suc v))
    → is_part o c ≡ true → k < 128
    → new.notes ≡ suc old.notes → new.keys ≡ bit_or old.keys (1 * 2 ^ k % 2 ^ 128) → IsUsed o es old → IsUsed o (es ++ e ∷ []) new
struck o es e c k v old new is part low notes keys used = record {
  notes = notes ∙ ap suc used.notes ∙ sym (one_more o es e (ap (begins_note (is_part o)) is ∙ part));
  keys = λ key lt. ap (λ x. is_used x key) keys ∙ used_set old.keys k key low ∙ ap (λ u. nat_eq k key || u) (used.keys key lt)
      ∙ sym (uses-append o key es e ∙ ap (λ u. u || uses_key o key es) (ap (begins_on o key) is ∙ ap (λ x. x && nat_eq k key) part));
}

pub unstruck : (o : Options) (es : List MidiEvent) (e : MidiEvent) (old new : Used)
    → ((c k v : ℕ) → e.what ≡ Says (NoteOn c k (suc v)) → is_part o c ≡ false)
    → new ≡ old → IsUsed o es old → IsUsed o (es ++ e ∷ []) new
unstruck o es e old new none same used = used_without o es e old new (by_what e.what none) used (ap (λ (u : Used). u.notes) same)
    (ap (λ (u : Used). u.keys) same)
  where
    by_what : (w : MidiWhat) → ((c k v : ℕ) → w ≡ Says (NoteOn c k (suc v)) → is_part o c ≡ false) → BeginsNone o w
    by_what (Says (NoteOn c k (suc v))) h = record { counts = h c k v refl; key = λ key. ap (λ x. x && nat_eq k key) (h c k v refl) }
    by_what w h = record { counts = refl; key = λ key. refl }

-- and by the key that it begins a note on
pub with_key : (o : Options) (es : List MidiEvent) (e : MidiEvent) (key : ℕ) (old new : Used) → key_begun o e.what ≡ Some key → key < 128
    → new.notes ≡ suc old.notes → new.keys ≡ bit_or old.keys (1 * 2 ^ key % 2 ^ 128) → IsUsed o es old → IsUsed o (es ++ e ∷ []) new
with_key o es e key old new begun low notes keys used = by_what e.what refl begun
  where
    by_part : (b : Bool) (c k v : ℕ) → e.what ≡ Says (NoteOn c k (suc v)) → is_part o c ≡ b → cond {A = Option ℕ} b (Some k) None ≡ Some key
        → IsUsed o (es ++ e ∷ []) new
    by_part true c k v is part g = let same : k ≡ key = cc in
        struck o es e c key v old new (is ∙ ap (λ j. Says (NoteOn c j (suc v))) same) part low notes keys used
    by_part false c k v is part g = absurd cc

    by_what : (w : MidiWhat) → e.what ≡ w → key_begun o w ≡ Some key → IsUsed o (es ++ e ∷ []) new
    by_what (Says (NoteOn c k (suc v))) is g = by_part (is_part o c) c k v is refl g
    by_what w is g = absurd cc

pub without_key : (o : Options) (es : List MidiEvent) (e : MidiEvent) (old : Used) → key_begun o e.what ≡ None → IsUsed o es old
    → IsUsed o (es ++ e ∷ []) old
without_key o es e old none used = unstruck o es e old old (λ c k v is. no_part c k (is_part o c) refl (ap (key_begun o) (sym is) ∙ none)) refl used
  where
    no_part : (c k : ℕ) (b : Bool) → is_part o c ≡ b → cond {A = Option ℕ} b (Some k) None ≡ None → is_part o c ≡ false
    no_part c k true part g = absurd cc
    no_part c k false part g = part

pub low_key : (x : Option ℕ) (key : ℕ) → x ≡ Some key → IfSome x (λ k. k < 128) → key < 128
low_key x key is h = subst (λ y. IfSome y (λ k. k < 128)) is h

pub no_key : (x : Option ℕ) → ((key : ℕ) → x ≡ Some key → ⊥) → x ≡ None
no_key None h = refl
no_key (Some key) h = absurd (h key refl)

-- there are no more notes than events
few_begun : (o : Options) (es : List MidiEvent) → count_begun o es ≤ length es
few_begun o [] = omega arith
few_begun o (e ∷ es) = let more = few_begun o es in let one = at_most (begins_note (is_part o) e.what) in omega (arith, more, one)
  where
    at_most : (b : Bool) → if_begun b ≤ 1
    at_most true = omega arith
    at_most false = omega arith

pub room_for_one : (o : Options) (all seen : List MidiEvent) (e : MidiEvent) (old rest : List MidiEvent) (used : Used) → length all ≤ 2097152
    → all ≡ seen ++ old → old ≡ e ∷ rest
    → IsUsed o seen used → used.notes < 2097152
room_for_one o all seen e old rest used many is next found =
    let parts : length all ≡ length seen + length old = ap length is ∙ length-append seen old in
    let left : length old ≡ suc (length rest) = ap length next in
    let few = few_begun o seen in
    omega (arith, many, parts, left, few, found.notes)

-- what is told, or not
pub key_of_some : (x : Option Begun) (b : Begun) → x ≡ Some b → IfSome x (λ y. y.key < 128) → b.key < 128
key_of_some x b is h = subst (λ y. IfSome y (λ z. z.key < 128)) is h

pub none_of : (x : Option Begun) → ((b : Begun) → x ≡ Some b → ⊥) → x ≡ None
none_of None h = refl
none_of (Some b) h = absurd (h b refl)

-- ---- the whole pass

-- the parts before the next event, and what was found
pub front_next : (all seen : List MidiEvent) (e : MidiEvent) (old rest : List MidiEvent) → all ≡ seen ++ old → old ≡ e ∷ rest
    → all ≡ (seen ++ e ∷ []) ++ rest
front_next all seen e old rest is next = is ∙ ap (λ l. seen ++ l) next ∙ sym (append_assoc seen (e ∷ []) rest)

-- the fault of the next event, which is the first; without a tail no memory is wanting
pub first_told : NextIsFirst → (o : Options) (table : Targets) (seen : List MidiEvent) (e : MidiEvent) (rest : List MidiEvent) (f : StepFault)
    → o.tail ≡ 0 → IsCaused o.tail f → IsFaultless o table seen
    → source_of f ≡ fault_at o table (seen ++ e ∷ []) (length seen) → source_of f ≡ first_fault o table (seen ++ e ∷ rest)
first_told law o table seen e rest (step.Source f) restless caused faultless at = sym (law o table seen e rest (fault_of f) faultless (sym at))
first_told law o table seen e rest step.Memory restless caused faultless at = absurd (omega (arith, restless, caused))

-- ---- a fault that is handed on

pub told_on : {T : Type 0} (r : Result T StepFault) (e : StepFault) → IsErrAnd r (λ y. y ≡ e) → told_fault r ≡ source_of e
told_on (Ok x) e h = absurd h
told_on (Err y) e h = ap source_of h

pub caused_on : {T : Type 0} (r : Result T StepFault) (e : StepFault) (tail : ℕ) → IsErrAnd r (λ y. y ≡ e) → IsCaused tail e
    → IfErr r (λ f. IsCaused tail f)
caused_on (Ok x) e tail h p = absurd h
caused_on (Err y) e tail h p = subst (λ f. IsCaused tail f) (sym h) p

-- ---- a source without a fault

-- the next event has none
pub not_faulty : FrontIsFaultless → (o : Options) (table : Targets) (all seen : List MidiEvent) (e : MidiEvent) (rest : List MidiEvent)
    → all ≡ seen ++ e ∷ rest → IsFaultless o table all → fault_at o table (seen ++ e ∷ []) (length seen) ≡ None
not_faulty fronts o table all seen e rest is h =
    fronts o table (seen ++ e ∷ []) rest (subst (IsFaultless o table) (is ∙ sym (append_assoc seen (e ∷ []) rest)) h) (length seen)
    (omega (arith, length-append seen (e ∷ [])))

pub not_told : (f : StepFault) (x : SourceFault) → f ≡ step.Source x → source_of f ≡ None → ⊥
not_told f x is none = let some : Some (fault_of x) ≡ None = ap source_of (sym is) ∙ none in absurd cc
