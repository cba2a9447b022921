-- What is spelled so is read, whatever follows.
use Rattle.std.proofs.Common.{◌≡◌, ℕ, zero, suc, ◌+◌, ◌-◌, ◌*◌, ◌^◌, ◌<◌, ◌≤◌, ◌⊎◌, List, [], ◌∷◌, ◌++◌, length, Result, Ok, None, false, ltb, eqb, refl, sym, ap, ◌∙◌, inl, inr, arith, append_assoc}
use Rattle.std.specs.Prelude.{◌&&◌}
use Rattle.std.proofs.lemmas.Bool.{le-ltb, lt-ltb, eqb-true, ne_eqb, cases_Bool, and_left, and_right}
use Rattle.std.proofs.lemmas.List.{take_at, drop_at, length-append}
use Rattle.midi_model.specs.declared.fault.Stop.{Stop}
use Rattle.mt_base.specs.declared.event.Msg.{Msg}
use Rattle.mt_base.specs.Midi.{MidiWhat, Says, SysexOf, MetaOf, Timed}
use Rattle.midi_model.specs.Reading.{quantity_from, quantity_at, data_at, message_at, is_short, bytes_at, content_at, meta_at, body_at, event_at, IsRunning, IsLong, Run, in_front, rest_of_track}
use Rattle.midi_model.specs.Spelling.{IsDigits, IsQuantity, IsMessage, IsBody, IsEvent, IsTrack}
use Rattle.midi_model.proofs.Runs.{ends, goes_on}

digits_again : (turns before n : ℕ) (front rest : List ℕ) → length front ≤ suc turns → IsDigits front before n → quantity_from turns before (front ++ rest) ≡ Ok (n, rest)
unfolding quantity_from
digits_again turns before n [] rest h d = absurd d
digits_again zero before n (b ∷ []) rest h d = rw (lt-ltb b 128 d.0, d.1) refl
digits_again zero before n (b ∷ c ∷ bs) rest h d = absurd (omega (arith, h))
digits_again (suc turns) before n (b ∷ []) rest h d = rw (lt-ltb b 128 d.0, d.1) refl
digits_again (suc turns) before n (b ∷ c ∷ bs) rest h d = rw (le-ltb b 128 d.0) (digits_again turns (before * 128 + (b - 128)) n (c ∷ bs) rest (omega (arith, h)) d.1)

pub quantity_again : (n : ℕ) (front rest : List ℕ) → IsQuantity front n → quantity_at (front ++ rest) ≡ Ok (n, rest)
unfolding quantity_at
quantity_again n front rest q = digits_again 3 0 n front rest q.short q.digits

bytes_again : (content rest : List ℕ) → bytes_at (length content) (content ++ rest) ≡ Ok (content, rest)
unfolding bytes_at
bytes_again content rest =
    let long : ltb (length (content ++ rest)) (length content) ≡ false = le-ltb _ _ (omega (arith, length-append content rest)) in
    rw (long, take_at content rest (length content) refl, drop_at content rest (length content) refl) refl

content_again : (len content rest : List ℕ) → IsQuantity len (length content) → content_at (len ++ (content ++ rest)) ≡ Ok (content, rest)
unfolding content_at
content_again len content rest q = rw (quantity_again (length content) len (content ++ rest) q) (bytes_again content rest)

pub not_short : (s : ℕ) → IsLong s → is_short s ≡ false
not_short s (low, high, inl l) = rw (lt-ltb s 192 l) refl
not_short s (low, high, inr l) =
    let above : ltb s 192 ≡ false = le-ltb s 192 (omega (arith, l)) in
    rw (above, le-ltb s 224 l) refl

message_again : (s : ℕ) (front rest : List ℕ) (m : Msg) → IsMessage s front m → message_at s (front ++ rest) ≡ Ok (m, rest)
unfolding message_at data_at
message_again s [] rest m h = absurd h
message_again s (d ∷ []) rest m (low, high, small, is) = rw (lt-ltb d 128 small, le-ltb s 192 low, lt-ltb s 224 high, is) refl
message_again s (d ∷ e ∷ []) rest m (long, small, small2, is) = rw (lt-ltb d 128 small, not_short s long, lt-ltb e 128 small2, is) refl
message_again s (d ∷ e ∷ f ∷ bs) rest m h = absurd h

guard_off : (k n : ℕ) → (k ≡ 47 → n ≡ 0) → (eqb k 47 && ltb 0 n) ≡ false
guard_off k n h = elim (cases_Bool (eqb k 47)) [
  | inl t ↦ and_right (eqb k 47) (ltb 0 n) (le-ltb 0 n (let z = h (eqb-true k 47 t) in omega (arith, z)))
  | inr f ↦ and_left (eqb k 47) (ltb 0 n) f
]

meta_again : (kind : ℕ) (len content rest : List ℕ) → IsQuantity len (length content) → (kind ≡ 47 → length content ≡ 0) → meta_at (kind ∷ (len ++ (content ++ rest))) ≡ Ok (MetaOf kind content, rest)
unfolding meta_at
meta_again kind len content rest q h = rw (quantity_again (length content) len (content ++ rest) q, guard_off kind (length content) h, bytes_again content rest) refl

-- what a status is, and the first data byte
status_low : (s : ℕ) (front : List ℕ) (m : Msg) → IsMessage s front m → (128 ≤ s) × (s < 240)
status_low s [] m h = absurd h
status_low s (d ∷ []) m (low, high, small, is) = (omega arith, omega arith)
status_low s (d ∷ e ∷ []) m ((low, high, l), small, small2, is) = (low, high)
status_low s (d ∷ e ∷ f ∷ bs) m h = absurd h

says_new : (running s : ℕ) (front rest : List ℕ) (m : Msg) → IsMessage s front m → body_at running (s ∷ (front ++ rest)) ≡ Ok (Says m, s, rest)
unfolding body_at
says_new running s front rest m h =
    let r = status_low s front m h in
    rw (le-ltb s 128 r.0, lt-ltb s 240 r.1, message_again s front rest m h) refl

with_first : (s d : ℕ) (bytes rest : List ℕ) (m : Msg) → 128 ≤ s → d < 128 → message_at s (d ∷ bytes) ≡ Ok (m, rest) → body_at s (d ∷ bytes) ≡ Ok (Says m, s, rest)
unfolding body_at
with_first s d bytes rest m low small e = rw (lt-ltb d 128 small, ne_eqb s 0 (λ z. omega (arith, z, low)), e) refl

says_more : (s : ℕ) (front rest : List ℕ) (m : Msg) → IsMessage s front m → body_at s (front ++ rest) ≡ Ok (Says m, s, rest)
says_more s [] rest m h = absurd h
says_more s (d ∷ []) rest m h = with_first s d rest rest m (status_low s (d ∷ []) m h).0 h.2 (message_again s (d ∷ []) rest m h)
says_more s (d ∷ e ∷ []) rest m h = with_first s d (e ∷ rest) rest m (status_low s (d ∷ e ∷ []) m h).0 h.1 (message_again s (d ∷ e ∷ []) rest m h)
says_more s (d ∷ e ∷ f ∷ bs) rest m h = absurd h

sysex_again : (running lead : ℕ) (len content rest : List ℕ) → (lead ≡ 240) ⊎ (lead ≡ 247) → IsQuantity len (length content) → body_at running (lead ∷ (len ++ (content ++ rest))) ≡ Ok (SysexOf lead content, 0, rest)
unfolding body_at
sysex_again running lead len content rest (inl e) q = rw (e, content_again len content rest q) refl
sysex_again running lead len content rest (inr e) q = rw (e, content_again len content rest q) refl

end_again : (running kind : ℕ) (len content rest : List ℕ) → IsQuantity len (length content) → (kind ≡ 47 → length content ≡ 0) → body_at running (255 ∷ kind ∷ (len ++ (content ++ rest))) ≡ Ok (MetaOf kind content, 0, rest)
unfolding body_at
end_again running kind len content rest q h = rw (meta_again kind len content rest q h) refl

pub body_again : (running : ℕ) (front rest : List ℕ) (what : MidiWhat) (after : ℕ) → IsBody running front what after → body_at running (front ++ rest) ≡ Ok (what, after, rest)
body_again running front rest (Says m) after (bytes, is, inl e) = ap (λ f. body_at running (f ++ rest)) e ∙ says_new running after bytes rest m is
body_again running front rest (Says m) after (bytes, is, inr (e, r)) = ap (λ f. body_at running (f ++ rest)) e ∙ ap (λ s. body_at s (bytes ++ rest)) r ∙ says_more after bytes rest m is
body_again running front rest (SysexOf lead content) after (len, q, e, l, a) =
    ap (λ f. body_at running (f ++ rest)) e ∙ ap (λ r. body_at running (lead ∷ r)) (append_assoc len content rest) ∙ sysex_again running lead len content rest l q
    ∙ ap (λ s. let r : Result (MidiWhat × ℕ × List ℕ) Stop = Ok (SysexOf lead content, s, rest) in r) (sym a)
body_again running front rest (MetaOf kind content) after (len, q, e, h, a) =
    ap (λ f. body_at running (f ++ rest)) e ∙ ap (λ r. body_at running (255 ∷ kind ∷ r)) (append_assoc len content rest) ∙ end_again running kind len content rest q h
    ∙ ap (λ s. let r : Result (MidiWhat × ℕ × List ℕ) Stop = Ok (MetaOf kind content, s, rest) in r) (sym a)

made_again : (running before n : ℕ) (delta body rest : List ℕ) (what : MidiWhat) (after : ℕ) → IsQuantity delta n → before + n < 2 ^ 28 → IsBody running body what after
    → event_at running before (delta ++ (body ++ rest)) ≡ Ok (record { tick = before + n; what = what }, after, rest)
unfolding event_at
made_again running before n delta body rest what after q low b =
    let ok : ltb 268435455 (before + n) ≡ false = le-ltb _ _ (omega (arith, low)) in
    rw (quantity_again n delta (body ++ rest) q, ok, body_again running body rest what after b) refl

pub event_again : (running before : ℕ) (front rest : List ℕ) (e : Timed) (after : ℕ) → IsEvent running before front e after → event_at running before (front ++ rest) ≡ Ok (e, after, rest)
event_again running before front rest e after is =
    let low : before + is.distance < 2 ^ 28 = omega (arith, is.tick, is.in_time) in
    ap (λ f. event_at running before (f ++ rest)) is.parts ∙ ap (event_at running before) (append_assoc is.delta is.body rest)
    ∙ made_again running before is.distance is.delta is.body rest e.what after is.is_delta low is.is_body
    ∙ ap (λ (t : ℕ). let x : Timed = record { tick = t; what = e.what } in let r : Result (Timed × ℕ × List ℕ) Stop = Ok (x, after, rest) in r) (sym is.tick)

pub running_after : (running : ℕ) (front : List ℕ) (what : MidiWhat) (after : ℕ) → IsBody running front what after → IsRunning after
running_after running front (Says m) after h = let r = status_low after h.0 m h.1 in (λ _. r.0, r.1)
running_after running front (SysexOf lead content) after h = (λ z. absurd (omega (arith, z, h.4)), omega (arith, h.4))
running_after running front (MetaOf kind content) after h = (λ z. absurd (omega (arith, z, h.4)), omega (arith, h.4))

-- what is spelled as a track is read as one
pub track_again : (running before : ℕ) (bytes : List ℕ) (es : List Timed) → IsRunning running → IsTrack running before bytes es → rest_of_track running before bytes ≡ record { events = es; fault = None }
track_again running before bytes [] run h = absurd h
track_again running before bytes (e ∷ es) run (front, rest, after, is, parts, inl (t, nil)) =
    ends running before bytes (e, after, rest) (ap (event_at running before) parts ∙ event_again running before front rest e after is) t
    ∙ ap (λ (l : List Timed). let r : Run = record { events = e ∷ l; fault = None } in r) (sym nil)
track_again running before bytes (e ∷ es) run (front, rest, after, is, parts, inr (f, more)) =
    goes_on running before bytes (e, after, rest) run (ap (event_at running before) parts ∙ event_again running before front rest e after is) f
    ∙ ap (in_front e) (track_again after e.tick rest es (running_after running is.body e.what after is.is_body) more)
