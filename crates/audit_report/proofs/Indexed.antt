-- The places of the notes that sound.
use Rattle.std.proofs.Common.{◌≡◌, ◌≤◌, ◌<◌, ◌+◌, ◌-◌, ℕ, suc, List, [], ◌∷◌, ◌++◌, Bool, true, false, cond, not, ◌&&◌, Option, Some, None, length, get_or, set, refl, ap, sym, ◌∙◌, subst, arith, ◌⊎◌, inl, inr}
use Rattle.std.specs.Prelude.{map, nat_eq, is_some}
use Rattle.std.proofs.lemmas.Bool.{cases_lt, cases_eq, eqb-true, eq-eqb}
use Rattle.std.proofs.lemmas.List.{length-map, length-set, get_or-map, get_or_default, get_or_append_left, length-append, get_or-set_same, get_or-set_other}
use Rattle.std.proofs.Math.Seq.{get_or-append_seam}
use Rattle.audit_report.specs.declared.played.Played.{Played}
use Rattle.audit_report.specs.Audit.{IsIndexed, IsLow, is_at, is_key, marked, note_at, nothing_played, place_of}
use Rattle.audit_report.proofs.Marking.{none_marked, one_marked}

-- ---- a mark

kept : (b : Bool) (p : Played) (t : ℕ) → (cond b (record p { ended = Some t }) p).part ≡ p.part
kept true p t = refl
kept false p t = refl

kept_key : (b : Bool) (p : Played) (t : ℕ) → (cond b (record p { ended = Some t }) p).key ≡ p.key
kept_key true p t = refl
kept_key false p t = refl

still : (b : Bool) (p : Played) (t : ℕ) → (cond b (record p { ended = Some t }) p).ended ≡ None → p.ended ≡ None
still true p t h = absurd cc
still false p t h = h

marked_at : (z : ℕ) (f : ℕ → ℕ → Bool) (t : ℕ) (ps : List Played) (i : ℕ) → i < length ps
    → note_at (map (marked z f t) ps) i ≡ marked z f t (note_at ps i)
marked_at z f t ps i l = get_or-map (marked z f t) ps i nothing_played nothing_played l

low_marked : (b : Bool) (p : Played) (t : ℕ) → IsLow p → IsLow (cond b (record p { ended = Some t }) p)
low_marked true p t h = record { port = h.port; channel = h.channel; key = h.key }
low_marked false p t h = h

pub indexed_marked : (last : List ℕ) (z : ℕ) (f : ℕ → ℕ → Bool) (t : ℕ) (ps : List Played) → IsIndexed last ps
    → IsIndexed last (map (marked z f t) ps)
indexed_marked last z f t ps h = record {
  places = h.places;
  low = λ i l.
      let m : i < length ps = subst (λ n. i < n) (length-map ps (marked z f t)) l in
      subst IsLow (sym (marked_at z f t ps i m)) (low_marked (is_at z f (note_at ps i)) (note_at ps i) t (h.low i m));
  sounding = λ i l none.
      let m : i < length ps = subst (λ n. i < n) (length-map ps (marked z f t)) l in
      let p : Played = note_at ps i in
      let at = marked_at z f t ps i m in
      let unended : p.ended ≡ None = still (is_at z f p) p t (ap (λ (q : Played). q.ended) (sym at) ∙ none) in
      ap (λ (q : Played). get_or last (place_of q.part.port q.part.channel q.key) 0) at
      ∙ (ap (λ part. get_or last (place_of part.port part.channel (marked z f t p).key) 0) (kept (is_at z f p) p t)
      ∙ (ap (λ k. get_or last (place_of p.part.port p.part.channel k) 0) (kept_key (is_at z f p) p t) ∙ h.sounding i m unended));
}

-- ---- the note of a key

-- that a note sounds on a key of a part
pub record SoundsOn (z c k : ℕ) (p : Played) : Type 0 where
  pub port : p.part.port ≡ z
  pub channel : p.part.channel ≡ c
  pub key : p.key ≡ k
  pub unended : p.ended ≡ None

pub sounds_on : (z c k : ℕ) (p : Played) → is_at z (is_key c k) p ≡ true → SoundsOn z c k p
sounds_on z c k p h = parts (nat_eq p.part.port z) (nat_eq p.part.channel c) (nat_eq p.key k) p.ended refl refl refl refl h
  where
    parts : (a b d : Bool) (e : Option ℕ) → nat_eq p.part.port z ≡ a → nat_eq p.part.channel c ≡ b → nat_eq p.key k ≡ d → p.ended ≡ e
        → (a && ((b && d) && not (is_some e))) ≡ true → SoundsOn z c k p
    parts true true true None x y w v g =
        record { port = eqb-true p.part.port z x; channel = eqb-true p.part.channel c y; key = eqb-true p.key k w; unended = v }
    parts true true true (Some e) x y w v g = absurd cc
    parts true true false e x y w v g = absurd cc
    parts true false d e x y w v g = absurd cc
    parts false b d e x y w v g = absurd cc

pub sounds_there : (z c k : ℕ) (p : Played) → SoundsOn z c k p → is_at z (is_key c k) p ≡ true
sounds_there z c k p h =
    ap (λ a. a && ((nat_eq p.part.channel c && nat_eq p.key k) && not (is_some p.ended))) (eq-eqb p.part.port z h.port)
    ∙ (ap (λ b. (b && nat_eq p.key k) && not (is_some p.ended)) (eq-eqb p.part.channel c h.channel)
    ∙ (ap (λ d. d && not (is_some p.ended)) (eq-eqb p.key k h.key) ∙ ap (λ e. not (is_some e)) h.unended))

-- its number is that of the place
pub has_number : (last : List ℕ) (ps : List Played) (z c k i : ℕ) → IsIndexed last ps → i < length ps → is_at z (is_key c k) (note_at ps i) ≡ true
    → get_or last (place_of z c k) 0 ≡ suc i
has_number last ps z c k i h l at =
    let s = sounds_on z c k (note_at ps i) at in
    let p : Played = note_at ps i in
    ap (λ x. get_or last (place_of x c k) 0) (sym s.port) ∙ (ap (λ x. get_or last (place_of p.part.port x k) 0) (sym s.channel)
    ∙ (ap (λ x. get_or last (place_of p.part.port p.part.channel x) 0) (sym s.key) ∙ h.sounding i l s.unended))

false_unless : (b : Bool) → (b ≡ true → ⊥) → b ≡ false
false_unless true h = absurd (h refl)
false_unless false h = refl

-- none sounds there whose number isn't that of the place
pub other_number : (last : List ℕ) (ps : List Played) (z c k n i : ℕ) → IsIndexed last ps → get_or last (place_of z c k) 0 ≡ n → i < length ps
    → (n ≡ suc i → ⊥) → is_at z (is_key c k) (note_at ps i) ≡ false
other_number last ps z c k n i h number l d =
    false_unless (is_at z (is_key c k) (note_at ps i)) (λ at. d (sym number ∙ has_number last ps z c k i h l at))

pub none_there : (last : List ℕ) (ps : List Played) (z c k n t : ℕ) → IsIndexed last ps → get_or last (place_of z c k) 0 ≡ n
    → ((i : ℕ) → i < length ps → n ≡ suc i → ⊥) → map (marked z (is_key c k) t) ps ≡ ps
none_there last ps z c k n t h number beyond =
    none_marked z (is_key c k) t ps (λ i l. other_number last ps z c k n i h number l (beyond i l))

pub silent_there : (last : List ℕ) (ps : List Played) (z c k n t : ℕ) → IsIndexed last ps → get_or last (place_of z c k) 0 ≡ n
    → is_at z (is_key c k) (note_at ps (n - 1)) ≡ false → map (marked z (is_key c k) t) ps ≡ ps
silent_there last ps z c k n t h number silent =
    none_marked z (is_key c k) t ps (λ i l. pick i (cases_eq n (suc i)) l)
  where
    pick : (i : ℕ) → (n ≡ suc i) ⊎ (n ≡ suc i → ⊥) → i < length ps → is_at z (is_key c k) (note_at ps i) ≡ false
    pick i (inl e) l = let same : n - 1 ≡ i = omega (arith, e) in subst (λ j. is_at z (is_key c k) (note_at ps j) ≡ false) same silent
    pick i (inr d) l = other_number last ps z c k n i h number l d

pub ends_there : (last : List ℕ) (ps : List Played) (z c k n t : ℕ) → IsIndexed last ps → get_or last (place_of z c k) 0 ≡ n → 0 < n → n ≤ length ps
    → is_at z (is_key c k) (note_at ps (n - 1)) ≡ true
    → set ps (n - 1) (record (note_at ps (n - 1)) { ended = Some t }) ≡ map (marked z (is_key c k) t) ps
ends_there last ps z c k n t h number some few at =
    one_marked z (is_key c k) t ps (n - 1) (omega (arith, some, few)) at
    (λ i l d. other_number last ps z c k n i h number l (λ e. d (omega (arith, e))))

-- what is read at a place
pub read_number : (last : List ℕ) (z c k n i : ℕ) → i ≡ place_of z c k → n ≡ get_or last i 0 → get_or last (place_of z c k) 0 ≡ n
read_number last z c k n i e is = ap (λ j. get_or last j 0) (sym e) ∙ sym is

pub read_note : (ps : List Played) (i : ℕ) (p : Played) → i < length ps → p ≡ get_or ps i p → p ≡ note_at ps i
read_note ps i p l is = is ∙ get_or_default ps i p nothing_played l

-- ---- a note more

-- two keys of parts with one place are the same
pub record SameKey (a b : Played) : Type 0 where
  pub port : a.part.port ≡ b.part.port
  pub channel : a.part.channel ≡ b.part.channel
  pub key : a.key ≡ b.key

same_place : (a b : Played) → IsLow a → IsLow b → place_of a.part.port a.part.channel a.key ≡ place_of b.part.port b.part.channel b.key → SameKey a b
same_place a b h g e =
    let x = h.channel in
    let y = g.channel in
    let v = h.key in
    let w = g.key in
    record { port = omega (arith, x, y, v, w, e); channel = omega (arith, x, y, v, w, e); key = omega (arith, v, w, e) }

pub is_a_place : (p : Played) → IsLow p → place_of p.part.port p.part.channel p.key < 524288
is_a_place p h = let a = h.port in let b = h.channel in let c = h.key in omega (arith, a, b, c)

-- where no other note sounds on its key
pub indexed_more : (last : List ℕ) (ps : List Played) (p : Played) (n : ℕ) → IsIndexed last ps → IsLow p → n ≡ suc (length ps)
    → ((i : ℕ) → i < length ps → SameKey (note_at ps i) p → (note_at ps i).ended ≡ None → ⊥)
    → IsIndexed (set last (place_of p.part.port p.part.channel p.key) n) (ps ++ p ∷ [])
indexed_more last ps p n h low number alone = record {
  places = length-set last (place_of p.part.port p.part.channel p.key) n ∙ h.places;
  low = λ i l. pick_low i (cases_lt i (length ps)) l;
  sounding = λ i l unended. pick i (cases_lt i (length ps)) l unended;
}
  where
    longer : length (ps ++ p ∷ []) ≡ length ps + 1
    longer = length-append ps (p ∷ [])

    before : (i : ℕ) → i < length ps → note_at (ps ++ p ∷ []) i ≡ note_at ps i
    before i l = get_or_append_left ps (p ∷ []) nothing_played i l

    behind : (i : ℕ) → length ps ≤ i → i < length (ps ++ p ∷ []) → note_at (ps ++ p ∷ []) i ≡ p
    behind i g l =
        let same : i ≡ length ps = omega (arith, g, l, longer) in
        ap (note_at (ps ++ p ∷ [])) same ∙ get_or-append_seam ps p [] nothing_played

    pick_low : (i : ℕ) → (i < length ps) ⊎ (length ps ≤ i) → i < length (ps ++ p ∷ []) → IsLow (note_at (ps ++ p ∷ []) i)
    pick_low i (inl l) m = subst IsLow (sym (before i l)) (h.low i l)
    pick_low i (inr g) m = subst IsLow (sym (behind i g m)) low

    at : (i : ℕ) → i < length ps → (note_at ps i).ended ≡ None
        → get_or (set last (place_of p.part.port p.part.channel p.key) n) (place_of (note_at ps i).part.port (note_at ps i).part.channel
        (note_at ps i).key) 0 ≡ suc i
    at i l unended = elim (cases_eq (place_of (note_at ps i).part.port (note_at ps i).part.channel (note_at ps i).key)
        (place_of p.part.port p.part.channel p.key)) [
          | inl e ↦ absurd (alone i l (same_place (note_at ps i) p (h.low i l) low e) unended)
          | inr d ↦ get_or-set_other last (place_of p.part.port p.part.channel p.key) (place_of (note_at ps i).part.port (note_at ps i).part.channel
              (note_at ps i).key) n 0 d ∙ h.sounding i l unended
        ]

    pick : (i : ℕ) → (i < length ps) ⊎ (length ps ≤ i) → i < length (ps ++ p ∷ []) → (note_at (ps ++ p ∷ []) i).ended ≡ None
        → get_or (set last (place_of p.part.port p.part.channel p.key) n) (place_of (note_at (ps ++ p ∷ []) i).part.port (note_at
        (ps ++ p ∷ []) i).part.channel (note_at (ps ++ p ∷ []) i).key) 0 ≡ suc i
    pick i (inl l) m unended =
        subst (λ (x : Played). get_or (set last (place_of p.part.port p.part.channel p.key) n)
        (place_of x.part.port x.part.channel x.key) 0 ≡ suc i) (sym (before i l))
        (at i l (ap (λ (x : Played). x.ended) (sym (before i l)) ∙ unended))
    pick i (inr g) m unended =
        subst (λ (x : Played). get_or (set last (place_of p.part.port p.part.channel p.key) n)
        (place_of x.part.port x.part.channel x.key) 0 ≡ suc i) (sym (behind i g m))
        (get_or-set_same last (place_of p.part.port p.part.channel p.key) n 0 (subst (λ x. place_of p.part.port p.part.channel p.key < x)
        (sym h.places) (is_a_place p low))
        ∙ (number ∙ ap suc (let same : length ps ≡ i = omega (arith, g, m, longer) in same)))
