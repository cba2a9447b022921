-- Events that are put one after the other.
use Rattle.std.proofs.Common.{◌≡◌, ◌<◌, ◌≤◌, ◌+◌, ℕ, suc, List, [], ◌∷◌, ◌++◌, length, drop, get_or, Result, Ok, Err, refl, ap, sym, subst, ◌∙◌, arith}
use Rattle.std.proofs.Math.ListN.{drop_of_length-le}
use Rattle.std.proofs.Math.Seq.{drop-cons}
use Rattle.std.specs.Prelude.{OnOk, OnErr}
use Rattle.std.proofs.lemmas.List.{append_assoc, append-nil}
use Rattle.mt_base.specs.declared.event.Msg.{Msg}
use Rattle.mt_base.specs.Midi.{MidiEvent, Says}
use Rattle.midi_model.specs.Writing.{Written}
use Rattle.event_stream.specs.Distributed.{MayPut}
use Rattle.routes.specs.Putting.{put_one, put_all, AllMayPut, IsPut, IsFront, said_at}

pub put_append : (texts : List Written) (xs ys : List MidiEvent) → put_all texts (xs ++ ys) ≡ put_all (put_all texts xs) ys
unfolding put_all
put_append texts [] ys = refl
put_append texts (x ∷ xs) ys = put_append (put_one texts x) xs ys

pub may_front : (texts : List Written) (xs ys : List MidiEvent) → AllMayPut texts (xs ++ ys) → AllMayPut texts xs
unfolding AllMayPut
may_front texts [] ys h = tt
may_front texts (x ∷ xs) ys h = (h.0, may_front (put_one texts x) xs ys h.1)

pub may_behind : (texts : List Written) (xs ys : List MidiEvent) → AllMayPut texts (xs ++ ys) → AllMayPut (put_all texts xs) ys
unfolding AllMayPut put_all
may_behind texts [] ys h = h
may_behind texts (x ∷ xs) ys h = may_behind (put_one texts x) xs ys h.1

pub may_first : (texts : List Written) (e : MidiEvent) (es : List MidiEvent) → AllMayPut texts (e ∷ es) → MayPut texts e
unfolding AllMayPut
may_first texts e es h = h.0

-- ---- so far

-- nothing
pub not_begun : (old : List Written) (es : List MidiEvent) → IsPut old es es old
unfolding put_all
not_begun old es = record { done = []; split = refl; put = refl }

-- all
pub all_put : (old : List Written) (es : List MidiEvent) (new : List Written) → IsPut old es [] new → new ≡ put_all old es
all_put old es new h = h.put ∙ ap (put_all old) (sym (append-nil h.done) ∙ sym h.split)

-- some more
pub more_put : (old : List Written) (es xs rest : List MidiEvent) (a b : List Written) → IsPut old es (xs ++ rest) a → b ≡ put_all a xs
    → IsPut old es rest b
more_put old es xs rest a b h is = record {
  done = h.done ++ xs;
  split = h.split ∙ sym (append_assoc h.done xs rest);
  put = is ∙ ap (λ (w : List Written). put_all w xs) h.put ∙ sym (put_append old h.done xs);
}

-- one more
put_single : (a : List Written) (x : MidiEvent) → put_one a x ≡ put_all a (x ∷ [])
unfolding put_all
put_single a x = refl

pub one_put : (old : List Written) (es : List MidiEvent) (x : MidiEvent) (rest : List MidiEvent) (a b : List Written) → IsPut old es (x ∷ rest) a → b
    ≡ put_one a x → IsPut old es rest b
one_put old es x rest a b h is = more_put old es (x ∷ []) rest a b h (is ∙ put_single a x)

-- a front of some more
pub front_of : (old : List Written) (es xs rest : List MidiEvent) (a b : List Written) → IsPut old es (xs ++ rest) a → IsFront a xs b
    → IsFront old es b
front_of old es xs rest a b h f =
    let p = f.front in
    let whole : xs ++ rest ≡ p.done ++ (f.rest ++ rest) = ap (λ l. l ++ rest) p.split ∙ append_assoc p.done f.rest rest in
    record {
      rest = f.rest ++ rest;
      front = more_put old es p.done (f.rest ++ rest) a b (subst (λ l. IsPut old es l a) whole h) p.put;
    }

pub stopped : (old : List Written) (es rest : List MidiEvent) (a b : List Written) → IsPut old es rest a → b ≡ a → IsFront old es b
stopped old es rest a b h same = record { rest = rest; front = subst (λ w. IsPut old es rest w) (sym same) h }

-- the rest may be put
pub may_still : (old : List Written) (es rest : List MidiEvent) (a : List Written) → AllMayPut old es → IsPut old es rest a → AllMayPut a rest
may_still old es rest a may h = subst (λ w. AllMayPut w rest) (sym h.put) (may_behind old h.done rest (subst (AllMayPut old) h.split may))

pub may_next : (old : List Written) (es xs rest : List MidiEvent) (a : List Written) → AllMayPut old es → IsPut old es (xs ++ rest) a → AllMayPut a xs
may_next old es xs rest a may h = may_front a xs rest (may_still old es (xs ++ rest) a may h)

-- ---- messages

abbrev pub message_at : MidiEvent → Msg → MidiEvent
message_at e m = record { tick = e.tick; track = e.track; what = Says m }

pub said_from : (e : MidiEvent) (ms : List Msg) (i : ℕ) (d : Msg) → i < length ms → said_at e (drop i ms)
    ≡ message_at e (get_or ms i d) ∷ said_at e (drop (i + 1) ms)
said_from e ms i d h =
    let next : suc i ≡ i + 1 = omega arith in
    ap (said_at e) (drop-cons ms i d h) ∙ ap (λ (k : ℕ). message_at e (get_or ms i d) ∷ said_at e (drop k ms)) next

pub said_none : (e : MidiEvent) (ms : List Msg) (i : ℕ) → length ms ≤ i → said_at e (drop i ms) ≡ []
said_none e ms i h = ap (said_at e) (drop_of_length-le ms h)

-- ---- the end

pub last_put : (old : List Written) (es xs : List MidiEvent) (a b : List Written) → IsPut old es xs a → b ≡ put_all a xs → b ≡ put_all old es
last_put old es xs a b h is = is ∙ ap (λ (w : List Written). put_all w xs) h.put ∙ sym (put_append old h.done xs) ∙ ap (put_all old) (sym h.split)

pub last_front : (old : List Written) (es xs : List MidiEvent) (a b : List Written) → IsPut old es xs a → IsFront a xs b → IsFront old es b
last_front old es xs a b h f = front_of old es xs [] a b (subst (λ l. IsPut old es l a) (sym (append-nil xs)) h) f

pub none_put : (a : List Written) (xs : List MidiEvent) → xs ≡ [] → a ≡ put_all a xs
unfolding put_all
none_put a xs is = subst (λ l. a ≡ put_all a l) (sym is) refl

pub if_ok : {A E : Type 0} (P Q : Type 0) (r : Result A E) → (P → Q) → OnOk r P → OnOk r Q
if_ok P Q (Ok a) f h = f h
if_ok P Q (Err e) f h = tt

pub if_err : {A E : Type 0} (P Q : Type 0) (r : Result A E) → (P → Q) → OnErr r P → OnErr r Q
if_err P Q (Ok a) f h = tt
if_err P Q (Err e) f h = f h

pub on_err : {A E : Type 0} (P : Type 0) (r : Result A E) → P → OnErr r P
on_err P (Ok a) h = tt
on_err P (Err e) h = h
