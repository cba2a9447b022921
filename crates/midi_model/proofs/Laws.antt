-- What is read is spelled so.
use Rattle.std.proofs.Common.{◌≡◌, ℕ, zero, suc, ◌+◌, ◌-◌, ◌*◌, ◌<◌, ◌≤◌, ◌⊎◌, List, [], ◌∷◌, ◌++◌, length, take, drop, Result, Ok, Err, Bool, true, false, cond, ltb, eqb, refl, sym, ap, subst, ◌∙◌, inl, inr, arith, append_assoc}
use Rattle.std.specs.Prelude.{◌&&◌, ◌||◌}
use Rattle.std.proofs.lemmas.Bool.{ltb-true, ltb-false, eqb-true}
use Rattle.std.proofs.lemmas.List.{take-append-drop, length-take, length-append}
use Rattle.midi_model.specs.declared.fault.Stop.{Stop}
use Rattle.midi_model.specs.declared.fault.SmfKind.TheVariants.{Truncated, BadDelta, BadData}
use Rattle.mt_base.specs.declared.event.Msg.{Msg}
use Rattle.mt_base.specs.Midi.{MidiWhat, Says, SysexOf, MetaOf, Timed}
use Rattle.midi_model.specs.Reading.{◌>>=◌, quantity_from, quantity_at, data_at, message_at, is_short, short_msg, long_msg, bytes_at, content_at, meta_at, body_at, event_at, IsRunning, IsLong}
use Rattle.midi_model.specs.Spelling.{IsDigits, IsQuantity, IsMessage, IsBody, IsEvent}

-- the value of a step that did not fail
pub bind_ok : {A B : Type 0} (r : Result A Stop) (f : A → Result B Stop) (y : B) → (r >>= f) ≡ Ok y → (x : A) × (r ≡ Ok x) × (f x ≡ Ok y)
bind_ok (Ok x) f y e = (x, refl, e)
bind_ok (Err d) f y e = absurd cc

-- which way a test went
pub chosen : {A : Type 0} (b : Bool) (x y z : Result A Stop) → cond b x y ≡ z → ((b ≡ true) × (x ≡ z)) ⊎ ((b ≡ false) × (y ≡ z))
chosen true x y z e = inl (refl, e)
chosen false x y z e = inr (refl, e)

-- a test that did not fail
pub guarded : {A : Type 0} (b : Bool) (d : Stop) (r : Result A Stop) (y : A) → cond b (Err d) r ≡ Ok y → (b ≡ false) × (r ≡ Ok y)
guarded true d r y e = absurd cc
guarded false d r y e = (refl, e)

pub passed : {A : Type 0} (b : Bool) (d : Stop) (r : Result A Stop) (y : A) → cond b r (Err d) ≡ Ok y → (b ≡ true) × (r ≡ Ok y)
passed true d r y e = (refl, e)
passed false d r y e = absurd cc

abbrev pub done : {A : Type 0} → A → Result A Stop
done x = Ok x

pub ok_is : {A : Type 0} (x y : A) → done x ≡ done y → x ≡ y
ok_is x y e = cc

-- ---- quantities

abbrev pub TookDigits : ℕ → ℕ → List ℕ → ℕ × List ℕ → Type 0
TookDigits turns before bytes x = (front : List ℕ) × IsDigits front before x.0 × (length front ≤ turns) × (bytes ≡ front ++ x.1)

last_digit : (turns before b : ℕ) (bs : List ℕ) (x : ℕ × List ℕ) → ltb b 128 ≡ true → done (before * 128 + b, bs) ≡ Ok x → TookDigits (suc turns) before (b ∷ bs) x
last_digit turns before b bs x t e = let is = ok_is (before * 128 + b, bs) x e in
    (b ∷ [], (ltb-true b 128 t, ap (λ p. p.0) (sym is)), omega arith, ap (λ p. b ∷ p.1) is)

more_digits : (turns before b : ℕ) (bs : List ℕ) (x : ℕ × List ℕ) → 128 ≤ b → TookDigits turns (before * 128 + (b - 128)) bs x → TookDigits (suc turns) before (b ∷ bs) x
more_digits turns before b bs x low ([], d, n, e) = absurd d
more_digits turns before b bs x low (c ∷ cs, d, n, e) = (b ∷ c ∷ cs, (low, d), omega (arith, n), ap (λ r. b ∷ r) e)

digits_take : (turns before : ℕ) (bytes : List ℕ) (x : ℕ × List ℕ) → quantity_from turns before bytes ≡ Ok x → TookDigits (suc turns) before bytes x
unfolding quantity_from
digits_take turns before [] x e = absurd cc
digits_take zero before (b ∷ bs) x e =
    let t = passed (ltb b 128) (record { left = length (b ∷ bs); kind = BadDelta }) (Ok (before * 128 + b, bs)) x e in
    last_digit zero before b bs x t.0 t.1
digits_take (suc turns) before (b ∷ bs) x e =
    elim (chosen (ltb b 128) (Ok (before * 128 + b, bs)) (quantity_from turns (before * 128 + (b - 128)) bs) (Ok x) e) [
      | inl t ↦ last_digit (suc turns) before b bs x t.0 t.1
      | inr t ↦ more_digits (suc turns) before b bs x (ltb-false b 128 t.0) (digits_take turns (before * 128 + (b - 128)) bs x t.1)
    ]

pub quantity_takes : (bytes : List ℕ) (x : ℕ × List ℕ) → quantity_at bytes ≡ Ok x → (front : List ℕ) × IsQuantity front x.0 × (bytes ≡ front ++ x.1)
unfolding quantity_at
quantity_takes bytes x e = let t = digits_take 3 0 bytes x e in (t.0, record { digits = t.1; short = t.2 }, t.3)

-- ---- contents

bytes_take : (n : ℕ) (bytes : List ℕ) (x : List ℕ × List ℕ) → bytes_at n bytes ≡ Ok x → (length x.0 ≡ n) × (bytes ≡ x.0 ++ x.1)
unfolding bytes_at
bytes_take n bytes x e =
    let g = guarded (ltb (length bytes) n) (record { left = 0; kind = Truncated }) (Ok (take n bytes, drop n bytes)) x e in
    let len : n ≤ length bytes = ltb-false _ _ g.0 in
    subst (λ (y : List ℕ × List ℕ). (length y.0 ≡ n) × (bytes ≡ y.0 ++ y.1)) (ok_is (take n bytes, drop n bytes) x g.1)
    (omega (arith, length-take n bytes), sym (take-append-drop n bytes))

-- a length and as many bytes
abbrev pub TookContent : List ℕ → List ℕ × List ℕ → Type 0
TookContent bytes x = (len : List ℕ) × IsQuantity len (length x.0) × (bytes ≡ (len ++ x.0) ++ x.1)

counted_take : (bytes : List ℕ) (n : ℕ × List ℕ) (x : List ℕ × List ℕ) → quantity_at bytes ≡ Ok n → bytes_at n.0 n.1 ≡ Ok x → TookContent bytes x
counted_take bytes n x q e =
    let a = quantity_takes bytes n q in
    let b = bytes_take n.0 n.1 x e in
    (a.0, subst (IsQuantity a.0) (sym b.0) a.1, a.2 ∙ ap (λ r. a.0 ++ r) b.1 ∙ sym (append_assoc a.0 x.0 x.1))

content_takes : (bytes : List ℕ) (x : List ℕ × List ℕ) → content_at bytes ≡ Ok x → TookContent bytes x
unfolding content_at
content_takes bytes x e =
    let a = bind_ok (quantity_at bytes) (λ n. bytes_at n.0 n.1) x e in
    counted_take bytes a.0 x a.1 a.2

-- ---- messages

data_takes : (bytes : List ℕ) (x : ℕ × List ℕ) → data_at bytes ≡ Ok x → (x.0 < 128) × (bytes ≡ x.0 ∷ x.1)
unfolding data_at
data_takes [] x e = absurd cc
data_takes (b ∷ bs) x e =
    let t = passed (ltb b 128) (record { left = length (b ∷ bs); kind = BadData }) (Ok (b, bs)) x e in
    subst (λ (y : ℕ × List ℕ). (y.0 < 128) × (b ∷ bs ≡ y.0 ∷ y.1)) (ok_is (b, bs) x t.1) (ltb-true b 128 t.0, refl)

picked : (b c : Bool) → cond b false c ≡ true → (b ≡ false) × (c ≡ true)
picked true c e = absurd cc
picked false c e = (refl, e)

unpicked : (b c : Bool) → cond b false c ≡ false → (b ≡ true) ⊎ (c ≡ false)
unpicked true c e = inl refl
unpicked false c e = inr e

is_short_true : (s : ℕ) → is_short s ≡ true → (192 ≤ s) × (s < 224)
is_short_true s e = let t = picked (ltb s 192) (ltb s 224) e in (ltb-false s 192 t.0, ltb-true s 224 t.1)

is_short_false : (s : ℕ) → is_short s ≡ false → 128 ≤ s → s < 240 → IsLong s
is_short_false s e low high = elim (unpicked (ltb s 192) (ltb s 224) e) [
  | inl t ↦ (low, high, inl (ltb-true s 192 t))
  | inr t ↦ (low, high, inr (ltb-false s 224 t))
]

pub message_takes : (s : ℕ) (bytes : List ℕ) (x : Msg × List ℕ) → 128 ≤ s → s < 240 → message_at s bytes ≡ Ok x → (front : List ℕ) × IsMessage s front x.0 × (bytes ≡ front ++ x.1)
unfolding message_at
message_takes s bytes x low high e =
    let a = bind_ok (data_at bytes) _ x e in
    let p = data_takes bytes a.0 a.1 in
    elim (chosen (is_short s) (Ok (short_msg s a.0.0, a.0.1)) (data_at a.0.1 >>= λ e. Ok (long_msg s a.0.0 e.0, e.1)) (Ok x) a.2) [
      | inl t ↦
          let is = ok_is (short_msg s a.0.0, a.0.1) x t.1 in
          let r = is_short_true s t.0 in
          (a.0.0 ∷ [], (r.0, r.1, p.0, ap (λ y. y.0) (sym is)), p.1 ∙ ap (λ y. a.0.0 ∷ y.1) is)
      | inr t ↦
          let b = bind_ok (data_at a.0.1) (λ e. Ok (long_msg s a.0.0 e.0, e.1)) x t.1 in
          let q = data_takes a.0.1 b.0 b.1 in
          let is = ok_is (long_msg s a.0.0 b.0.0, b.0.1) x b.2 in
          (a.0.0 ∷ b.0.0 ∷ [], (is_short_false s t.0 low high, p.0, q.0, ap (λ y. y.0) (sym is)), p.1 ∙ ap (λ y. a.0.0 ∷ y) q.1 ∙ ap (λ y. a.0.0 ∷ b.0.0 ∷ y.1) is)
    ]

-- ---- meta events

both_not : (b c : Bool) → (b && c) ≡ false → b ≡ true → c ≡ false
both_not true c e h = e
both_not false c e h = absurd cc

end_empty : (k n : ℕ) → (eqb k 47 && ltb 0 n) ≡ false → k ≡ 47 → n ≡ 0
end_empty k n e h =
    let t : eqb k 47 ≡ true = rw h refl in
    let low : n ≤ 0 = ltb-false 0 n (both_not (eqb k 47) (ltb 0 n) e t) in
    omega (arith, low)

abbrev pub TookMeta : List ℕ → MidiWhat × List ℕ → Type 0
TookMeta bytes x = (kind : ℕ) × (content : List ℕ) × (len : List ℕ) × IsQuantity len (length content) × (x.0 ≡ MetaOf kind content)
    × (bytes ≡ (kind ∷ (len ++ content)) ++ x.1) × (kind ≡ 47 → length content ≡ 0)

meta_takes : (bytes : List ℕ) (x : MidiWhat × List ℕ) → meta_at bytes ≡ Ok x → TookMeta bytes x
unfolding meta_at
meta_takes [] x e = absurd cc
meta_takes (kind ∷ bytes) x e =
    let a = bind_ok (quantity_at bytes) _ x e in
    let g = guarded (eqb kind 47 && ltb 0 a.0.0) _ _ x a.2 in
    let b = bind_ok (bytes_at a.0.0 a.0.1) (λ y. Ok (MetaOf kind y.0, y.1)) x g.1 in
    let c = counted_take bytes a.0 b.0 a.1 b.1 in
    let len = bytes_take a.0.0 a.0.1 b.0 b.1 in
    let is = ok_is (MetaOf kind b.0.0, b.0.1) x b.2 in (
      kind,
      b.0.0,
      c.0,
      c.1,
      ap (λ y. y.0) (sym is),
      ap (λ r. kind ∷ r) c.2 ∙ ap (λ y. kind ∷ ((c.0 ++ b.0.0) ++ y.1)) is,
      λ h. len.0 ∙ end_empty kind a.0.0 g.0 h,
    )

-- ---- events

abbrev pub TookBody : ℕ → List ℕ → MidiWhat × ℕ × List ℕ → Type 0
TookBody running bytes x = (front : List ℕ) × IsBody running front x.0 x.1 × (bytes ≡ front ++ x.2) × IsRunning x.1

abbrev Step : Type 0
Step = MidiWhat × ℕ × List ℕ

says_with : (running s b : ℕ) (bytes : List ℕ) (m : Msg × List ℕ) → 128 ≤ s → s < 240 → message_at s bytes ≡ Ok m → TookBody running (s ∷ bytes) (Says m.0, s, m.1)
says_with running s b bytes m low high e =
    let t = message_takes s bytes m low high e in
    (s ∷ t.0, (t.0, t.1, inl refl), ap (λ r. s ∷ r) t.2, (λ _. low, high))

says_on : (s : ℕ) (bytes : List ℕ) (m : Msg × List ℕ) → 128 ≤ s → s < 240 → message_at s bytes ≡ Ok m → TookBody s bytes (Says m.0, s, m.1)
says_on s bytes m low high e =
    let t = message_takes s bytes m low high e in
    (t.0, (t.0, t.1, inr (refl, refl)), t.2, (λ _. low, high))

pub none_runs : IsRunning 0
none_runs = (λ h. absurd (omega (arith, h)), omega arith)

sysex_of : (running b : ℕ) (bytes : List ℕ) (y : List ℕ × List ℕ) → (b ≡ 240) ⊎ (b ≡ 247) → content_at bytes ≡ Ok y → TookBody running (b ∷ bytes) (SysexOf b y.0, 0, y.1)
sysex_of running b bytes y lead e =
    let t = content_takes bytes y e in
    (b ∷ (t.0 ++ y.0), (t.0, t.1, refl, lead, refl), ap (λ r. b ∷ r) t.2, none_runs)

meta_of : (running : ℕ) (bytes : List ℕ) (y : MidiWhat × List ℕ) → meta_at bytes ≡ Ok y → TookBody running (255 ∷ bytes) (y.0, 0, y.1)
meta_of running bytes y e =
    let t = meta_takes bytes y e in
    subst (λ (w : MidiWhat). TookBody running (255 ∷ bytes) (w, 0, y.1)) (sym t.4)
    (255 ∷ t.0 ∷ (t.2 ++ t.1), (t.2, t.3, refl, t.6, refl), ap (λ r. 255 ∷ r) t.5, none_runs)

either : (b c : Bool) → (b || c) ≡ true → (b ≡ true) ⊎ (c ≡ true)
either true c e = inl refl
either false c e = inr e

pub nonzero : (n : ℕ) → eqb n 0 ≡ false → 0 < n
nonzero zero e = absurd cc
nonzero (suc n) e = omega arith

leads : (b : ℕ) → (eqb b 240 ≡ true) ⊎ (eqb b 247 ≡ true) → (b ≡ 240) ⊎ (b ≡ 247)
leads b (inl e) = inl (eqb-true b 240 e)
leads b (inr e) = inr (eqb-true b 247 e)

pub body_takes : (running : ℕ) (bytes : List ℕ) (x : Step) → IsRunning running → body_at running bytes ≡ Ok x → TookBody running bytes x
unfolding body_at
body_takes running [] x run e = absurd cc
body_takes running (b ∷ bytes) x run e =
    elim (chosen (ltb b 128) _ _ (Ok x) e) [
      | inl t ↦
          let g = guarded (eqb running 0) _ _ x t.1 in
          let m = bind_ok (message_at running (b ∷ bytes)) _ x g.1 in
          let low : 128 ≤ running = run.0 (nonzero running g.0) in
          subst (TookBody running (b ∷ bytes)) (ok_is (Says m.0.0, running, m.0.1) x m.2) (says_on running (b ∷ bytes) m.0 low run.1 m.1)
      | inr t ↦ elim (chosen (ltb b 240) _ _ (Ok x) t.1) [
        | inl u ↦
            let m = bind_ok (message_at b bytes) _ x u.1 in
            subst (TookBody running (b ∷ bytes)) (ok_is (Says m.0.0, b, m.0.1) x m.2) (says_with running b b bytes m.0 (ltb-false b 128 t.0) (ltb-true b 240 u.0) m.1)
        | inr u ↦ elim (chosen (eqb b 240 || eqb b 247) _ _ (Ok x) u.1) [
          | inl v ↦
              let y = bind_ok (content_at bytes) _ x v.1 in
              let lead : (b ≡ 240) ⊎ (b ≡ 247) = leads b (either (eqb b 240) (eqb b 247) v.0) in
              subst (TookBody running (b ∷ bytes)) (ok_is (SysexOf b y.0.0, 0, y.0.1) x y.2) (sysex_of running b bytes y.0 lead y.1)
          | inr v ↦
              let p = passed (eqb b 255) _ _ x v.1 in
              let y = bind_ok (meta_at bytes) _ x p.1 in
              subst (λ (s : ℕ). TookBody running (s ∷ bytes) x) (sym (eqb-true b 255 p.0))
              (subst (TookBody running (255 ∷ bytes)) (ok_is (y.0.0, 0, y.0.1) x y.2) (meta_of running bytes y.0 y.1))
        ]
      ]
    ]

pub record TookEvent (running before : ℕ) (bytes : List ℕ) (x : Timed × ℕ × List ℕ) : Type 0 where
  pub front : List ℕ
  pub is_event : IsEvent running before front x.0 x.1
  pub parts : bytes ≡ front ++ x.2
  pub runs : IsRunning x.1

pub event_takes : (running before : ℕ) (bytes : List ℕ) (x : Timed × ℕ × List ℕ) → IsRunning running → event_at running before bytes ≡ Ok x → TookEvent running before bytes x
unfolding event_at
event_takes running before bytes x run e =
    let d = bind_ok (quantity_at bytes) _ x e in
    let g = guarded (ltb 268435455 (before + d.0.0)) _ _ x d.2 in
    let y = bind_ok (body_at running d.0.1) _ x g.1 in
    let q = quantity_takes bytes d.0 d.1 in
    let t = body_takes running d.0.1 y.0 run y.1 in
    let low : before + d.0.0 ≤ 268435455 = ltb-false 268435455 (before + d.0.0) g.0 in
    let made : Timed = record { tick = before + d.0.0; what = y.0.0 } in
    let is_event : IsEvent running before (q.0 ++ t.0) made y.0.1 = record {
      delta = q.0;
      distance = d.0.0;
      body = t.0;
      is_delta = q.1;
      is_body = t.1;
      parts = refl;
      tick = refl;
      in_time = omega (arith, low);
    } in
    subst (TookEvent running before bytes) (ok_is (made, y.0.1, y.0.2) x y.2) (record {
      front = q.0 ++ t.0;
      is_event = is_event;
      parts = q.2 ∙ ap (λ r. q.0 ++ r) t.2 ∙ sym (append_assoc q.0 t.0 y.0.2);
      runs = t.3;
    })

pub not_nothing : (front : List ℕ) (n : ℕ) → IsDigits front 0 n → 0 < length front
not_nothing [] n d = absurd d
not_nothing (b ∷ bs) n d = omega arith

-- an event takes at least a byte
pub shorter : (running before : ℕ) (bytes : List ℕ) (x : Timed × ℕ × List ℕ) → IsRunning running → event_at running before bytes ≡ Ok x → length x.2 < length bytes
shorter running before bytes x run e =
    let t = event_takes running before bytes x run e in
    let some = not_nothing t.is_event.delta t.is_event.distance t.is_event.is_delta.digits in
    omega (arith, some, ap length t.parts, length-append t.front x.2, ap length t.is_event.parts, length-append t.is_event.delta t.is_event.body)
