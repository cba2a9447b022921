-- What has a first fault by the fronts of the bytes is read with that fault, and the other way round: events.
use Rattle.std.proofs.Common.{◌≡◌, ℕ, zero, suc, ◌+◌, ◌-◌, ◌*◌, ◌<◌, ◌≤◌, ◌⊎◌, List, [], ◌∷◌, ◌++◌, length, take, drop, Result, Ok, Err, Option, Some, Bool, true, false, cond, ltb, eqb, refl, sym, ap, subst, ◌∙◌, inl, inr, arith, append_assoc}
use Rattle.std.specs.Prelude.{◌&&◌, ◌||◌}
use Rattle.std.proofs.lemmas.Bool.{ltb-true, ltb-false, lt-ltb, le-ltb, eqb-true, eqb-false, eq-eqb, ne_eqb, cases_Bool, cases_eq, and_left, and_right}
use Rattle.midi_model.specs.declared.fault.Stop.{Stop}
use Rattle.midi_model.specs.declared.fault.SmfKind.{SmfKind}
use Rattle.midi_model.specs.declared.fault.SmfKind.TheVariants.{Truncated, BadDelta, NoStatus, BadStatus, BadData, MissingEnd, TrackTooLong}
use Rattle.mt_base.specs.Midi.{MidiWhat, Says, SysexOf, MetaOf, Timed, is_end}
use Rattle.midi_model.specs.Reading.{◌>>=◌, stop, quantity_from, quantity_at, data_at, message_at, is_short, short_msg, long_msg, bytes_at, content_at, meta_at, body_at, event_at, IsRunning, IsLong, Run, last, in_front, continued, track_from, rest_of_track, track_in}
use Rattle.midi_model.specs.Spelling.{IsEvent}
use Rattle.midi_model.specs.Faults.{DigitsFault, QuantityFault, DataFault, MessageFault, BytesFault, ContentFault, MetaFault, BodyFault, EventFault, AreEvents, TrackFault}
use Rattle.midi_model.proofs.Laws.{chosen, ok_is, done, quantity_takes, event_takes, none_runs, shorter}
use Rattle.midi_model.proofs.Again.{quantity_again, event_again, not_short, running_after}
use Rattle.midi_model.proofs.Runs.{goes_on, fails, nothing_left}

-- what is read fails, with the bytes from the fault on
abbrev pub Fails : (List ℕ → SmfKind → Type 0) → Stop → Type 0
Fails R e = (back : List ℕ) × R back e.kind × (e.left ≡ length back)

abbrev pub failing : {A : Type 0} → Stop → Result A Stop
failing e = Err e

pub err_is : {A : Type 0} (d e : Stop) → failing {A = A} d ≡ failing e → d ≡ e
err_is d e h = cc

pub fails_by : {A : Type 0} (R : List ℕ → SmfKind → Type 0) (back : List ℕ) (kind : SmfKind) (e : Stop) → R back kind → stop {A = A} back kind ≡ Err e → Fails R e
fails_by {A} R back kind e r is = let d : Stop = record { left = length back; kind = kind } in subst (Fails R) (err_is {A = A} d e is) (back, r, refl)

pub same_stop : {A : Type 0} (b c : List ℕ) (k l : SmfKind) → b ≡ c → k ≡ l → stop {A = A} c l ≡ stop b k
same_stop {A} b c k l is same = ap (λ x. stop {A = A} x l) (sym is) ∙ ap (λ x. stop {A = A} b x) (sym same)

pub bind_err : {A B : Type 0} (r : Result A Stop) (f : A → Result B Stop) (e : Stop) → (r >>= f) ≡ Err e → (r ≡ Err e) ⊎ ((x : A) × (r ≡ Ok x) × (f x ≡ Err e))
bind_err (Ok x) f e h = inr (x, refl, h)
bind_err {A} {B} (Err d) f e h = inl (ap (λ x. failing {A = A} x) (err_is {A = B} d e h))

-- a weaker relation
pub weaker : (R S : List ℕ → SmfKind → Type 0) (e : Stop) → ((back : List ℕ) (kind : SmfKind) → R back kind → S back kind) → Fails R e → Fails S e
weaker R S e f h = (h.0, f h.0 e.kind h.1, h.2)

-- ---- quantities

digits_broken : (turns before : ℕ) (bytes : List ℕ) (e : Stop) → quantity_from turns before bytes ≡ Err e → Fails (DigitsFault turns bytes) e
unfolding quantity_from
digits_broken turns before [] e h = fails_by (DigitsFault turns []) [] Truncated e (refl, refl) h
digits_broken zero before (b ∷ bs) e h = elim (chosen (ltb b 128) (Ok (before * 128 + b, bs)) (stop (b ∷ bs) BadDelta) (Err e) h) [
  | inl t ↦ absurd (let no = t.1 in cc)
  | inr f ↦ fails_by (DigitsFault zero (b ∷ bs)) (b ∷ bs) BadDelta e (ltb-false b 128 f.0, refl, refl) f.1
]
digits_broken (suc turns) before (b ∷ bs) e h = elim (chosen (ltb b 128) (Ok (before * 128 + b, bs)) (quantity_from turns (before * 128 + (b - 128)) bs) (Err e) h) [
  | inl t ↦ absurd (let no = t.1 in cc)
  | inr f ↦ weaker (DigitsFault turns bs) (DigitsFault (suc turns) (b ∷ bs)) e (λ back kind r. (ltb-false b 128 f.0, r)) (digits_broken turns (before * 128 + (b - 128)) bs e f.1)
]

pub quantity_broken : (bytes : List ℕ) (e : Stop) → quantity_at bytes ≡ Err e → Fails (QuantityFault bytes) e
unfolding quantity_at
quantity_broken bytes e h = digits_broken 3 0 bytes e h

digits_fail : (turns before : ℕ) (bytes back : List ℕ) (kind : SmfKind) → DigitsFault turns bytes back kind → quantity_from turns before bytes ≡ stop back kind
unfolding quantity_from
digits_fail turns before [] back kind (is, k) = same_stop back [] kind Truncated is k
digits_fail zero before (b ∷ bs) back kind (low, is, k) = rw (le-ltb b 128 low) (same_stop back (b ∷ bs) kind BadDelta is k)
digits_fail (suc turns) before (b ∷ bs) back kind (low, r) = rw (le-ltb b 128 low) (digits_fail turns (before * 128 + (b - 128)) bs back kind r)

pub quantity_fail : (bytes back : List ℕ) (kind : SmfKind) → QuantityFault bytes back kind → quantity_at bytes ≡ stop back kind
unfolding quantity_at
quantity_fail bytes back kind h = digits_fail 3 0 bytes back kind h

-- ---- messages

data_broken : (bytes : List ℕ) (e : Stop) → data_at bytes ≡ Err e → Fails (DataFault bytes) e
unfolding data_at
data_broken [] e h = fails_by (DataFault []) [] Truncated e (refl, refl) h
data_broken (b ∷ bs) e h = elim (chosen (ltb b 128) (Ok (b, bs)) (stop (b ∷ bs) BadData) (Err e) h) [
  | inl t ↦ absurd (let no = t.1 in cc)
  | inr f ↦ fails_by (DataFault (b ∷ bs)) (b ∷ bs) BadData e (ltb-false b 128 f.0, refl, refl) f.1
]

data_fail : (bytes back : List ℕ) (kind : SmfKind) → DataFault bytes back kind → data_at bytes ≡ stop back kind
unfolding data_at
data_fail [] back kind (is, k) = same_stop back [] kind Truncated is k
data_fail (b ∷ bs) back kind (low, is, k) = rw (le-ltb b 128 low) (same_stop back (b ∷ bs) kind BadData is k)

data_ok : (bytes : List ℕ) (x : ℕ × List ℕ) → data_at bytes ≡ Ok x → (bytes ≡ x.0 ∷ x.1) × (x.0 < 128)
unfolding data_at
data_ok [] x h = absurd cc
data_ok (b ∷ bs) x h = elim (chosen (ltb b 128) (Ok (b, bs)) (stop (b ∷ bs) BadData) (Ok x) h) [
  | inl t ↦ let is = ok_is (b, bs) x t.1 in subst (λ (y : ℕ × List ℕ). (b ∷ bs ≡ y.0 ∷ y.1) × (y.0 < 128)) is (refl, ltb-true b 128 t.0)
  | inr f ↦ absurd (let no = f.1 in cc)
]

-- a status that has no short message has a long one
long_if : (s : ℕ) → 128 ≤ s → s < 240 → is_short s ≡ false → IsLong s
long_if s low high h = elim (cases_Bool (ltb s 192)) [
  | inl t ↦ (low, high, inl (ltb-true s 192 t))
  | inr f ↦ elim (cases_Bool (ltb s 224)) [
    | inl t ↦ absurd (let on : is_short s ≡ true = rw f t in cc)
    | inr g ↦ (low, high, inr (ltb-false s 224 g))
  ]
]

pub message_broken : (s : ℕ) (bytes : List ℕ) (e : Stop) → 128 ≤ s → s < 240 → message_at s bytes ≡ Err e → Fails (MessageFault s bytes) e
unfolding message_at
message_broken s bytes e low high h = elim (bind_err (data_at bytes) _ e h) [
  | inl d ↦ weaker (DataFault bytes) (MessageFault s bytes) e (λ back kind r. inl r) (data_broken bytes e d)
  | inr x ↦ elim (chosen (is_short s) (Ok (short_msg s x.0.0, x.0.1)) (data_at x.0.1 >>= λ d. Ok (long_msg s x.0.0 d.0, d.1)) (Err e) x.2) [
    | inl t ↦ absurd (let no = t.1 in cc)
    | inr f ↦ elim (bind_err (data_at x.0.1) _ e f.1) [
      | inl d ↦
          let first = data_ok bytes x.0 x.1 in
          weaker (DataFault x.0.1) (MessageFault s bytes) e (λ back kind r. inr (x.0.0, x.0.1, first.0, first.1, long_if s low high f.0, r)) (data_broken x.0.1 e d)
      | inr y ↦ absurd (let no = y.2 in cc)
    ]
  ]
]

second_fail : (s d : ℕ) (rest back : List ℕ) (kind : SmfKind) → d < 128 → IsLong s → DataFault rest back kind → message_at s (d ∷ rest) ≡ stop back kind
unfolding message_at
second_fail s d rest back kind small long r =
    let first : data_at (d ∷ rest) ≡ Ok (d, rest) = unfold data_at in rw (lt-ltb d 128 small) refl in
    rw (first, not_short s long, data_fail rest back kind r) refl

pub message_fail : (s : ℕ) (bytes back : List ℕ) (kind : SmfKind) → MessageFault s bytes back kind → message_at s bytes ≡ stop back kind
unfolding message_at
message_fail s bytes back kind (inl r) = rw (data_fail bytes back kind r) refl
message_fail s bytes back kind (inr (d, rest, is, small, long, r)) = ap (message_at s) is ∙ second_fail s d rest back kind small long r

-- ---- contents

bytes_broken : (n : ℕ) (bytes : List ℕ) (e : Stop) → bytes_at n bytes ≡ Err e → Fails (BytesFault n bytes) e
unfolding bytes_at
bytes_broken n bytes e h = elim (chosen (ltb (length bytes) n) (stop [] Truncated) (Ok (take n bytes, drop n bytes)) (Err e) h) [
  | inl t ↦ fails_by (BytesFault n bytes) [] Truncated e (ltb-true (length bytes) n t.0, refl, refl) t.1
  | inr f ↦ absurd (let no = f.1 in cc)
]

bytes_fail : (n : ℕ) (bytes back : List ℕ) (kind : SmfKind) → BytesFault n bytes back kind → bytes_at n bytes ≡ stop back kind
unfolding bytes_at
bytes_fail n bytes back kind (few, is, k) = rw (lt-ltb (length bytes) n few) (same_stop back [] kind Truncated is k)

pub content_broken : (bytes : List ℕ) (e : Stop) → content_at bytes ≡ Err e → Fails (ContentFault bytes) e
unfolding content_at
content_broken bytes e h = elim (bind_err (quantity_at bytes) (λ n. bytes_at n.0 n.1) e h) [
  | inl d ↦ weaker (QuantityFault bytes) (ContentFault bytes) e (λ back kind r. inl r) (quantity_broken bytes e d)
  | inr x ↦
      let q = quantity_takes bytes x.0 x.1 in
      weaker (BytesFault x.0.0 x.0.1) (ContentFault bytes) e (λ back kind r. inr (q.0, x.0.0, x.0.1, q.1, q.2, r)) (bytes_broken x.0.0 x.0.1 e x.2)
]

pub content_fail : (bytes back : List ℕ) (kind : SmfKind) → ContentFault bytes back kind → content_at bytes ≡ stop back kind
unfolding content_at
content_fail bytes back kind (inl r) = rw (quantity_fail bytes back kind r) refl
content_fail bytes back kind (inr (len, n, rest, q, is, r)) = ap content_at is ∙ rw (quantity_again n len rest q) (bytes_fail n rest back kind r)

guard_cases : (k n : ℕ) → (eqb k 47 && ltb 0 n) ≡ true → (k ≡ 47) × (0 < n)
guard_cases k n h = elim (cases_Bool (eqb k 47)) [
  | inl t ↦ elim (cases_Bool (ltb 0 n)) [
    | inl u ↦ (eqb-true k 47 t, ltb-true 0 n u)
    | inr f ↦ absurd (let no : (eqb k 47 && ltb 0 n) ≡ false = and_right (eqb k 47) (ltb 0 n) f in cc)
  ]
  | inr f ↦ absurd (let no : (eqb k 47 && ltb 0 n) ≡ false = and_left (eqb k 47) (ltb 0 n) f in cc)
]

guard_on : (k n : ℕ) → k ≡ 47 → 0 < n → (eqb k 47 && ltb 0 n) ≡ true
guard_on k n is some = rw (eq-eqb k 47 is, lt-ltb 0 n some) refl

guard_no : (k n : ℕ) → (eqb k 47 && ltb 0 n) ≡ false → k ≡ 47 → n ≡ 0
guard_no k n h is = elim (cases_Bool (ltb 0 n)) [
  | inl t ↦ absurd (let on = guard_on k n is (ltb-true 0 n t) in cc)
  | inr f ↦ let z = ltb-false 0 n f in omega (arith, z)
]

guard_off : (k n : ℕ) → (k ≡ 47 → n ≡ 0) → (eqb k 47 && ltb 0 n) ≡ false
guard_off k n h = elim (cases_Bool (eqb k 47)) [
  | inl t ↦ and_right (eqb k 47) (ltb 0 n) (le-ltb 0 n (let z = h (eqb-true k 47 t) in omega (arith, z)))
  | inr f ↦ and_left (eqb k 47) (ltb 0 n) f
]

pub meta_broken : (bytes : List ℕ) (e : Stop) → meta_at bytes ≡ Err e → Fails (MetaFault bytes) e
unfolding meta_at
meta_broken [] e h = fails_by (MetaFault []) [] Truncated e (refl, refl) h
meta_broken (k ∷ bytes) e h = elim (bind_err (quantity_at bytes) _ e h) [
  | inl d ↦ weaker (QuantityFault bytes) (MetaFault (k ∷ bytes)) e (λ back kind r. inl r) (quantity_broken bytes e d)
  | inr x ↦
      let q = quantity_takes bytes x.0 x.1 in
      elim (chosen (eqb k 47 && ltb 0 x.0.0) (stop bytes BadData) (bytes_at x.0.0 x.0.1 >>= λ y. Ok (MetaOf k y.0, y.1)) (Err e) x.2) [
        | inl t ↦ let g = guard_cases k x.0.0 t.0 in fails_by (MetaFault (k ∷ bytes)) bytes BadData e (inr (q.0, x.0.0, x.0.1, q.1, q.2, inl (g.0, g.1, refl, refl))) t.1
        | inr f ↦ elim (bind_err (bytes_at x.0.0 x.0.1) _ e f.1) [
          | inl d ↦ weaker (BytesFault x.0.0 x.0.1) (MetaFault (k ∷ bytes)) e (λ back kind r. inr (q.0, x.0.0, x.0.1, q.1, q.2, inr (guard_no k x.0.0 f.0, r))) (bytes_broken x.0.0 x.0.1 e d)
          | inr y ↦ absurd (let no = y.2 in cc)
        ]
      ]
]

pub meta_fail : (bytes back : List ℕ) (kind : SmfKind) → MetaFault bytes back kind → meta_at bytes ≡ stop back kind
unfolding meta_at
meta_fail [] back kind (is, k) = same_stop back [] kind Truncated is k
meta_fail (t ∷ bytes) back kind (inl r) = rw (quantity_fail bytes back kind r) refl
meta_fail (t ∷ bytes) back kind (inr (len, n, rest, q, is, inl (end, some, b, k))) =
    let read : quantity_at bytes ≡ Ok (n, rest) = ap quantity_at is ∙ quantity_again n len rest q in
    rw (read, guard_on t n end some) (same_stop back bytes kind BadData b k)
meta_fail (t ∷ bytes) back kind (inr (len, n, rest, q, is, inr (end, r))) =
    let read : quantity_at bytes ≡ Ok (n, rest) = ap quantity_at is ∙ quantity_again n len rest q in
    rw (read, guard_off t n end, bytes_fail n rest back kind r) refl

-- ---- events

-- the tests on a first byte
abbrev Body : Type 0
Body = MidiWhat × ℕ × List ℕ

abbrev BodyIs : ℕ → ℕ → List ℕ → Stop → Type 0
BodyIs running b bytes e = Fails (BodyFault running (b ∷ bytes)) e

no_status : (running b : ℕ) (bytes : List ℕ) (e : Stop) → b < 128 → IsRunning running
    → cond (eqb running 0) (stop {A = Body} (b ∷ bytes) NoStatus) (message_at running (b ∷ bytes) >>= λ m. done {A = Body} (Says m.0, running, m.1)) ≡ Err e → BodyIs running b bytes e
no_status running b bytes e low run h =
    elim (chosen (eqb running 0) (stop {A = Body} (b ∷ bytes) NoStatus) (message_at running (b ∷ bytes) >>= λ m. done {A = Body} (Says m.0, running, m.1)) (Err e) h) [
      | inl t ↦ fails_by (BodyFault running (b ∷ bytes)) (b ∷ bytes) NoStatus e (inl (low, eqb-true running 0 t.0, refl, refl)) t.1
      | inr f ↦
          let some : 0 < running = let n = eqb-false running 0 f.0 in omega (arith, n) in
          elim (bind_err (message_at running (b ∷ bytes)) (λ m. done {A = Body} (Says m.0, running, m.1)) e f.1) [
            | inl d ↦ weaker (MessageFault running (b ∷ bytes)) (BodyFault running (b ∷ bytes)) e (λ back kind r. inr (inl (low, some, r))) (message_broken running (b ∷ bytes) e (run.0 some) run.1 d)
            | inr y ↦ absurd (let no = y.2 in cc)
          ]
    ]

new_status : (running b : ℕ) (bytes : List ℕ) (e : Stop) → 128 ≤ b → b < 240 → (message_at b bytes >>= λ m. done {A = Body} (Says m.0, b, m.1)) ≡ Err e → BodyIs running b bytes e
new_status running b bytes e low high h = elim (bind_err (message_at b bytes) (λ m. done {A = Body} (Says m.0, b, m.1)) e h) [
  | inl d ↦ weaker (MessageFault b bytes) (BodyFault running (b ∷ bytes)) e (λ back kind r. inr (inr (inl (low, high, r)))) (message_broken b bytes e low high d)
  | inr y ↦ absurd (let no = y.2 in cc)
]

sysex_status : (running b : ℕ) (bytes : List ℕ) (e : Stop) → (b ≡ 240) ⊎ (b ≡ 247) → (content_at bytes >>= λ x. done {A = Body} (SysexOf b x.0, 0, x.1)) ≡ Err e → BodyIs running b bytes e
sysex_status running b bytes e lead h = elim (bind_err (content_at bytes) (λ x. done {A = Body} (SysexOf b x.0, 0, x.1)) e h) [
  | inl d ↦ weaker (ContentFault bytes) (BodyFault running (b ∷ bytes)) e (λ back kind r. inr (inr (inr (inl (lead, r))))) (content_broken bytes e d)
  | inr y ↦ absurd (let no = y.2 in cc)
]

meta_status : (running b : ℕ) (bytes : List ℕ) (e : Stop) → b ≡ 255 → (meta_at bytes >>= λ x. done {A = Body} (x.0, 0, x.1)) ≡ Err e → BodyIs running b bytes e
meta_status running b bytes e is h = elim (bind_err (meta_at bytes) (λ x. done {A = Body} (x.0, 0, x.1)) e h) [
  | inl d ↦ weaker (MetaFault bytes) (BodyFault running (b ∷ bytes)) e (λ back kind r. inr (inr (inr (inr (inl (is, r)))))) (meta_broken bytes e d)
  | inr y ↦ absurd (let no = y.2 in cc)
]

leads : (b : ℕ) → (eqb b 240 || eqb b 247) ≡ true → (b ≡ 240) ⊎ (b ≡ 247)
leads b h = elim (cases_eq b 240) [
  | inl is ↦ inl is
  | inr n1 ↦ elim (cases_eq b 247) [
    | inl is ↦ inr is
    | inr n2 ↦ absurd (let off : (eqb b 240 || eqb b 247) ≡ false = rw (ne_eqb b 240 n1, ne_eqb b 247 n2) refl in cc)
  ]
]

no_lead : (b : ℕ) → (eqb b 240 || eqb b 247) ≡ false → (b ≡ 240 → ⊥) × (b ≡ 247 → ⊥)
no_lead b h = (
  λ is. let on : (eqb b 240 || eqb b 247) ≡ true = rw (eq-eqb b 240 is) refl in cc,
  λ is. let on : (eqb b 240 || eqb b 247) ≡ true = rw (is) refl in cc,
)

pub body_broken : (running : ℕ) (bytes : List ℕ) (e : Stop) → IsRunning running → body_at running bytes ≡ Err e → Fails (BodyFault running bytes) e
unfolding body_at
body_broken running [] e run h = fails_by (BodyFault running []) [] Truncated e (refl, refl) h
body_broken running (b ∷ bytes) e run h = elim (chosen (ltb b 128) _ _ (Err e) h) [
  | inl t ↦ no_status running b bytes e (ltb-true b 128 t.0) run t.1
  | inr f ↦
      let low = ltb-false b 128 f.0 in
      elim (chosen (ltb b 240) _ _ (Err e) f.1) [
        | inl t ↦ new_status running b bytes e low (ltb-true b 240 t.0) t.1
        | inr g ↦
            let high = ltb-false b 240 g.0 in
            elim (chosen (eqb b 240 || eqb b 247) _ _ (Err e) g.1) [
              | inl t ↦ sysex_status running b bytes e (leads b t.0) t.1
              | inr j ↦
                  let no = no_lead b j.0 in
                  elim (chosen (eqb b 255) _ _ (Err e) j.1) [
                    | inl t ↦ meta_status running b bytes e (eqb-true b 255 t.0) t.1
                    | inr k ↦
                        let more : 240 < b = let n = no.0 in omega (arith, n, high) in
                        fails_by (BodyFault running (b ∷ bytes)) (b ∷ bytes) BadStatus e (inr (inr (inr (inr (inr (more, no.1, eqb-false b 255 k.0, refl, refl)))))) k.1
                  ]
            ]
      ]
]

pub body_fail : (running : ℕ) (bytes back : List ℕ) (kind : SmfKind) → BodyFault running bytes back kind → body_at running bytes ≡ stop back kind
unfolding body_at
body_fail running [] back kind (is, k) = same_stop back [] kind Truncated is k
body_fail running (b ∷ bytes) back kind (inl (low, none, is, k)) = rw (lt-ltb b 128 low, eq-eqb running 0 none) (same_stop back (b ∷ bytes) kind NoStatus is k)
body_fail running (b ∷ bytes) back kind (inr (inl (low, some, r))) =
    rw (lt-ltb b 128 low, ne_eqb running 0 (λ z. omega (arith, z, some)), message_fail running (b ∷ bytes) back kind r) refl
body_fail running (b ∷ bytes) back kind (inr (inr (inl (low, high, r)))) = rw (le-ltb b 128 low, lt-ltb b 240 high, message_fail b bytes back kind r) refl
body_fail running (b ∷ bytes) back kind (inr (inr (inr (inl (inl is, r))))) = rw (is, content_fail bytes back kind r) refl
body_fail running (b ∷ bytes) back kind (inr (inr (inr (inl (inr is, r))))) = rw (is, content_fail bytes back kind r) refl
body_fail running (b ∷ bytes) back kind (inr (inr (inr (inr (inl (is, r)))))) = rw (is, meta_fail bytes back kind r) refl
body_fail running (b ∷ bytes) back kind (inr (inr (inr (inr (inr (high, n1, n2, is, k)))))) =
    rw (le-ltb b 128 (omega (arith, high)), le-ltb b 240 (omega (arith, high)), ne_eqb b 240 (λ z. omega (arith, z, high)), ne_eqb b 247 n1, ne_eqb b 255 n2)
    (same_stop back (b ∷ bytes) kind BadStatus is k)

pub event_broken : (running before : ℕ) (bytes : List ℕ) (e : Stop) → IsRunning running → event_at running before bytes ≡ Err e → Fails (EventFault running before bytes) e
unfolding event_at
event_broken running before bytes e run h = elim (bind_err (quantity_at bytes) _ e h) [
  | inl d ↦ weaker (QuantityFault bytes) (EventFault running before bytes) e (λ back kind r. inl r) (quantity_broken bytes e d)
  | inr x ↦
      let q = quantity_takes bytes x.0 x.1 in
      elim (chosen (ltb 268435455 (before + x.0.0)) _ _ (Err e) x.2) [
        | inl t ↦ fails_by (EventFault running before bytes) bytes TrackTooLong e (inr (q.0, x.0.0, x.0.1, q.1, q.2, inl (ltb-true 268435455 (before + x.0.0) t.0, refl, refl))) t.1
        | inr f ↦ elim (bind_err (body_at running x.0.1) _ e f.1) [
          | inl d ↦ weaker (BodyFault running x.0.1) (EventFault running before bytes) e (λ back kind r. inr (q.0, x.0.0, x.0.1, q.1, q.2, inr (ltb-false 268435455 (before + x.0.0) f.0, r)))
              (body_broken running x.0.1 e run d)
          | inr y ↦ absurd (let no = y.2 in cc)
        ]
      ]
]

pub event_fail : (running before : ℕ) (bytes back : List ℕ) (kind : SmfKind) → EventFault running before bytes back kind → event_at running before bytes ≡ stop back kind
unfolding event_at
event_fail running before bytes back kind (inl r) = rw (quantity_fail bytes back kind r) refl
event_fail running before bytes back kind (inr (delta, n, rest, q, is, inl (late, b, k))) =
    let read : quantity_at bytes ≡ Ok (n, rest) = ap quantity_at is ∙ quantity_again n delta rest q in
    rw (read, lt-ltb 268435455 (before + n) late) (same_stop back bytes kind TrackTooLong b k)
event_fail running before bytes back kind (inr (delta, n, rest, q, is, inr (soon, r))) =
    let read : quantity_at bytes ≡ Ok (n, rest) = ap quantity_at is ∙ quantity_again n delta rest q in
    rw (read, le-ltb 268435455 (before + n) soon, body_fail running rest back kind r) refl

-- ---- a track's content

abbrev Step : Type 0
Step = Timed × ℕ × List ℕ

-- whole events are passed by
pub events_pass : (running before : ℕ) (front rest : List ℕ) (es : List Timed) (after tick : ℕ) → IsRunning running → AreEvents running before front es after tick
    → ((rest_of_track running before (front ++ rest)).fault ≡ (rest_of_track after tick rest).fault) × IsRunning after
events_pass running before front rest [] after tick run (nil, same, at) = (
  ap (λ f. (rest_of_track running before (f ++ rest)).fault) nil ∙ ap (λ r. (rest_of_track r before rest).fault) (sym same) ∙ ap (λ t. (rest_of_track after t rest).fault) (sym at),
  subst IsRunning (sym same) run,
)
events_pass running before front rest (e ∷ es) after tick run (one, others, status, is, go, parts, more) =
    let runs = running_after running is.body e.what status is.is_body in
    let u = events_pass status e.tick others rest es after tick runs more in
    let whole : front ++ rest ≡ one ++ (others ++ rest) = ap (λ f. f ++ rest) parts ∙ append_assoc one others rest in (
      ap (λ f. (rest_of_track running before f).fault) whole
          ∙ ap (λ r. r.fault) (goes_on running before (one ++ (others ++ rest)) (e, status, others ++ rest) run (event_again running before one (others ++ rest) e status is) go) ∙ u.0,
      u.1,
    )

abbrev pub stopped : List ℕ → SmfKind → Option Stop
stopped back kind = Some (record { left = length back; kind = kind })

same_stopped : (b c : List ℕ) (k l : SmfKind) → b ≡ c → k ≡ l → stopped c l ≡ stopped b k
same_stopped b c k l is same = ap (λ x. stopped x l) (sym is) ∙ ap (λ x. stopped b x) (sym same)

rest_fails : (after tick : ℕ) (rest back : List ℕ) (kind : SmfKind) → ((rest ≡ []) × (back ≡ []) × (kind ≡ MissingEnd)) ⊎ ((0 < length rest) × EventFault after tick rest back kind)
    → (rest_of_track after tick rest).fault ≡ stopped back kind
rest_fails after tick rest back kind (inl (nil, is, k)) =
    ap (λ r. (rest_of_track after tick r).fault) nil ∙ ap (λ r. r.fault) (nothing_left after tick) ∙ same_stopped back [] kind MissingEnd is k
rest_fails after tick rest back kind (inr (some, r)) = ap (λ r. r.fault) (fails after tick rest _ some (event_fail after tick rest back kind r))

pub track_fail : (running before : ℕ) (content back : List ℕ) (kind : SmfKind) → IsRunning running → TrackFault running before content back kind → (rest_of_track running before content).fault ≡ stopped back kind
track_fail running before content back kind run t =
    ap (λ c. (rest_of_track running before c).fault) t.parts ∙ (events_pass running before t.front t.rest t.events t.after t.tick run t.are_events).0
    ∙ rest_fails t.after t.tick t.rest back kind t.fault

abbrev pub TrackFails : ℕ → ℕ → List ℕ → Stop → Type 0
TrackFails running before content e = (back : List ℕ) × TrackFault running before content back e.kind × (e.left ≡ length back)

at_once : (running before : ℕ) (content back : List ℕ) (kind : SmfKind) → ((content ≡ []) × (back ≡ []) × (kind ≡ MissingEnd)) ⊎ ((0 < length content) × EventFault running before content back kind)
    → TrackFault running before content back kind
at_once running before content back kind h = record { front = []; rest = content; events = []; after = running; tick = before; are_events = (refl, refl, refl); parts = refl; fault = h }

one_before : (running before : ℕ) (content : List ℕ) (x : Step) (front back : List ℕ) (kind : SmfKind) → IsEvent running before front x.0 x.1 → is_end x.0.what ≡ false → content ≡ front ++ x.2
    → TrackFault x.1 x.0.tick x.2 back kind → TrackFault running before content back kind
one_before running before content x front back kind is go parts t = record {
  front = front ++ t.front;
  rest = t.rest;
  events = x.0 ∷ t.events;
  after = t.after;
  tick = t.tick;
  are_events = (front, t.front, x.1, is, go, refl, t.are_events);
  parts = parts ∙ ap (λ r. front ++ r) t.parts ∙ sym (append_assoc front t.front t.rest);
  fault = t.fault;
}

some_is : (d e : Stop) → (let o : Option Stop = Some d in o) ≡ Some e → d ≡ e
some_is d e h = cc

ended_or : (b : Bool) (x : Timed) (run : Run) (e : Stop) → (cond b (last x) (in_front x run)).fault ≡ Some e → (b ≡ false) × (run.fault ≡ Some e)
ended_or true x run e h = absurd cc
ended_or false x run e h = (refl, h)

step : (running before : ℕ) (bytes : List ℕ) (next : ℕ → ℕ → List ℕ → Run) (r : Result Step Stop) (e : Stop) → IsRunning running → 0 < length bytes → event_at running before bytes ≡ r
    → ((x : Step) → IsRunning x.1 → length x.2 < length bytes → (next x.1 x.0.tick x.2).fault ≡ Some e → TrackFails x.1 x.0.tick x.2 e)
    → (continued next r).fault ≡ Some e → TrackFails running before bytes e
step running before bytes next (Err d) e run some is rest h =
    let f = event_broken running before bytes d run is in
    subst (TrackFails running before bytes) (some_is d e h) (f.0, at_once running before bytes f.0 d.kind (inr (some, f.1)), f.2)
step running before bytes next (Ok x) e run some is rest h =
    let t = event_takes running before bytes x run is in
    let go = ended_or (is_end x.0.what) x.0 (next x.1 x.0.tick x.2) e h in
    let r = rest x t.runs (shorter running before bytes x run is) go.1 in
    (r.0, one_before running before bytes x t.front r.0 e.kind t.is_event go.0 t.parts r.1, r.2)

from_broken : (turns running before : ℕ) (bytes : List ℕ) (e : Stop) → IsRunning running → length bytes < turns → (track_from turns running before bytes).fault ≡ Some e → TrackFails running before bytes e
unfolding track_from
from_broken zero running before bytes e run lt h = absurd (omega (arith, lt))
from_broken (suc turns) running before [] e run lt h =
    let end : Stop = record { left = 0; kind = MissingEnd } in
    subst (TrackFails running before []) (some_is end e h) ([], at_once running before [] [] MissingEnd (inl (refl, refl, refl)), refl)
from_broken (suc turns) running before (b ∷ bytes) e run lt h =
    step running before (b ∷ bytes) (track_from turns) (event_at running before (b ∷ bytes)) e run (omega arith) refl (λ x r less n. from_broken turns x.1 x.0.tick x.2 e r (omega (arith, less, lt)) n) h

pub track_broken : (content : List ℕ) (e : Stop) → (track_in content).fault ≡ Some e → TrackFails 0 0 content e
unfolding rest_of_track
track_broken content e h = from_broken (suc (length content)) 0 0 content e none_runs (omega arith) h
