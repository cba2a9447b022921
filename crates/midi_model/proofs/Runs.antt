-- How reading a track goes on.
use Rattle.std.proofs.Common.{◌≡◌, ℕ, zero, suc, ◌<◌, ◌+◌, List, [], ◌∷◌, length, map, Result, Ok, Err, Some, None, ltb, true, false, cond, refl, sym, ap, ◌∙◌, inl, inr, arith}
use Rattle.midi_model.specs.declared.fault.Stop.{Stop}
use Rattle.std.proofs.lemmas.Bool.{cases_Bool}
use Rattle.midi_model.specs.declared.fault.SmfKind.TheVariants.{MissingEnd}
use Rattle.mt_base.specs.Midi.{Timed, is_end, placed}
use Rattle.midi_model.specs.Merged.{first_tick}
use Rattle.midi_model.specs.Reading.{Run, failed, last, in_front, continued, track_from, rest_of_track, event_at, body_at, quantity_at, quantity_from, IsRunning}
use Rattle.midi_model.proofs.Laws.{shorter, event_takes, bind_ok, guarded, ok_is}

-- which continuation is taken doesn't matter where they agree on what was read
agree : (f g : ℕ → ℕ → List ℕ → Run) (r : Result (Timed × ℕ × List ℕ) Stop) → ((x : Timed × ℕ × List ℕ) → r ≡ Ok x → f x.1 x.0.tick x.2 ≡ g x.1 x.0.tick x.2) → continued f r ≡ continued g r
agree f g (Err e) h = refl
agree f g (Ok x) h = ap (λ y. cond (is_end x.0.what) (last x.0) (in_front x.0 y)) (h x refl)

fuel : (n m running before : ℕ) (bytes : List ℕ) → IsRunning running → length bytes < n → length bytes < m → track_from n running before bytes ≡ track_from m running before bytes
unfolding track_from
fuel zero m running before bytes run lt lt2 = absurd (omega (arith, lt))
fuel (suc n) zero running before bytes run lt lt2 = absurd (omega (arith, lt2))
fuel (suc n) (suc m) running before [] run lt lt2 = refl
fuel (suc n) (suc m) running before (b ∷ bytes) run lt lt2 =
    agree (track_from n) (track_from m) (event_at running before (b ∷ bytes)) (λ x e.
    let small = shorter running before (b ∷ bytes) x run e in
    let t = event_takes running before (b ∷ bytes) x run e in
    fuel n m x.1 x.0.tick x.2 t.runs (omega (arith, small, lt)) (omega (arith, small, lt2)))

pub nothing_left : (running before : ℕ) → rest_of_track running before [] ≡ failed (record { left = 0; kind = MissingEnd })
unfolding rest_of_track track_from
nothing_left running before = refl

pub ends : (running before : ℕ) (bytes : List ℕ) (x : Timed × ℕ × List ℕ) → event_at running before bytes ≡ Ok x → is_end x.0.what ≡ true → rest_of_track running before bytes ≡ last x.0
unfolding rest_of_track track_from event_at quantity_at quantity_from
ends running before [] x e h = absurd cc
ends running before (b ∷ bytes) x e h = ap (continued (track_from (suc (length bytes)))) e ∙ ap (λ t. cond t (last x.0) (in_front x.0 (track_from (suc (length bytes)) x.1 x.0.tick x.2))) h

pub goes_on : (running before : ℕ) (bytes : List ℕ) (x : Timed × ℕ × List ℕ) → IsRunning running → event_at running before bytes ≡ Ok x → is_end x.0.what ≡ false
    → rest_of_track running before bytes ≡ in_front x.0 (rest_of_track x.1 x.0.tick x.2)
unfolding rest_of_track track_from event_at quantity_at quantity_from
goes_on running before [] x run e h = absurd cc
goes_on running before (b ∷ bytes) x run e h =
    let small = shorter running before (b ∷ bytes) x run e in
    let t = event_takes running before (b ∷ bytes) x run e in
    ap (continued (track_from (suc (length bytes)))) e
    ∙ ap (λ t. cond t (last x.0) (in_front x.0 (track_from (suc (length bytes)) x.1 x.0.tick x.2))) h
    ∙ ap (in_front x.0) (fuel (suc (length bytes)) (suc (length x.2)) x.1 x.0.tick x.2 t.runs (omega (arith, small)) (omega arith))

pub fails : (running before : ℕ) (bytes : List ℕ) (e : Stop) → 0 < length bytes → event_at running before bytes ≡ Err e → rest_of_track running before bytes ≡ failed e
unfolding rest_of_track track_from
fails running before [] e some h = absurd (omega (arith, some))
fails running before (b ∷ bytes) e some h = ap (continued (track_from (suc (length bytes)))) h

-- ---- the tick of the first event

tick_is : (running before : ℕ) (bytes : List ℕ) (x : Timed × ℕ × List ℕ) (d : ℕ × List ℕ) → event_at running before bytes ≡ Ok x → quantity_at bytes ≡ Ok d → x.0.tick ≡ before + d.0
unfolding event_at
tick_is running before bytes x d e q =
    let a = bind_ok (quantity_at bytes) _ x e in
    let same = ok_is a.0 d (sym a.1 ∙ q) in
    let g = guarded (ltb 268435455 (before + a.0.0)) _ _ x a.2 in
    let y = bind_ok (body_at running a.0.1) _ x g.1 in
    let made : Timed × ℕ × List ℕ = (record { tick = before + a.0.0; what = y.0.0 }, y.0.1, y.0.2) in
    ap (λ (z : Timed × ℕ × List ℕ). z.0.tick) (sym (ok_is made x y.2)) ∙ ap (λ (z : ℕ × List ℕ). before + z.0) same

first_of : (track running before : ℕ) (bytes : List ℕ) (r : Result (Timed × ℕ × List ℕ) Stop) (d : ℕ × List ℕ) → IsRunning running → event_at running before bytes ≡ r → 0 < length bytes
    → (rest_of_track running before bytes).fault ≡ None → quantity_at bytes ≡ Ok d → first_tick (map (placed track) (rest_of_track running before bytes).events) ≡ Some (before + d.0)
first_of track running before bytes (Err e) d run is some sound q =
    absurd (let f = ap (λ r. r.fault) (fails running before bytes e some is) in cc)
first_of track running before bytes (Ok x) d run is some sound q =
    let t = tick_is running before bytes x d is q in
    elim (cases_Bool (is_end x.0.what)) [
      | inl t1 ↦ ap (λ r. first_tick (map (placed track) r.events)) (ends running before bytes x is t1) ∙ ap Some t
      | inr f1 ↦ ap (λ r. first_tick (map (placed track) r.events)) (goes_on running before bytes x run is f1) ∙ ap Some t
    ]

pub first_tick_is : (track running before : ℕ) (bytes : List ℕ) (d : ℕ × List ℕ) → IsRunning running → 0 < length bytes → (rest_of_track running before bytes).fault ≡ None → quantity_at bytes ≡ Ok d
    → first_tick (map (placed track) (rest_of_track running before bytes).events) ≡ Some (before + d.0)
first_tick_is track running before bytes d run some sound q = first_of track running before bytes _ d run refl some sound q

no_delta : (running before : ℕ) (bytes : List ℕ) (e : Stop) → quantity_at bytes ≡ Err e → event_at running before bytes ≡ Err e
unfolding event_at
no_delta running before bytes e q = rw q refl

-- where nothing is wrong, there is a delta
pub has_delta : (running before : ℕ) (bytes : List ℕ) (e : Stop) → 0 < length bytes → (rest_of_track running before bytes).fault ≡ None → quantity_at bytes ≡ Err e → ⊥
has_delta running before bytes e some sound q =
    let f = ap (λ r. r.fault) (fails running before bytes e some (no_delta running before bytes e q)) in cc

-- ---- what is left of a track, by its first event

pub by_events : (running before : ℕ) (bytes : List ℕ) → IsRunning running → 0 < length bytes → rest_of_track running before bytes ≡ continued rest_of_track (event_at running before bytes)
unfolding rest_of_track track_from
by_events running before [] run some = absurd (omega (arith, some))
by_events running before (b ∷ bytes) run some =
    agree (track_from (suc (length bytes))) rest_of_track (event_at running before (b ∷ bytes)) (λ x e.
    let small = shorter running before (b ∷ bytes) x run e in
    let t = event_takes running before (b ∷ bytes) x run e in
    fuel (suc (length bytes)) (suc (length x.2)) x.1 x.0.tick x.2 t.runs (omega (arith, small)) (omega arith))

abbrev pub BeginsWith : ℕ → ℕ → ℕ → List ℕ → Type 0
BeginsWith track running before bytes =
    (d : ℕ × List ℕ) × (quantity_at bytes ≡ Ok d) × (first_tick (map (placed track) (rest_of_track running before bytes).events) ≡ Some (before + d.0))

begins_with : (track running before : ℕ) (bytes : List ℕ) (r : Result (ℕ × List ℕ) Stop) → quantity_at bytes ≡ r → IsRunning running → 0 < length bytes → (rest_of_track running before bytes).fault ≡ None
    → BeginsWith track running before bytes
begins_with track running before bytes (Err e) q run some sound = absurd (has_delta running before bytes e some sound q)
begins_with track running before bytes (Ok d) q run some sound = (d, q, first_tick_is track running before bytes d run some sound q)

pub first_by_delta : (track running before : ℕ) (bytes : List ℕ) → IsRunning running → 0 < length bytes → (rest_of_track running before bytes).fault ≡ None → BeginsWith track running before bytes
first_by_delta track running before bytes run some sound = begins_with track running before bytes _ refl run some sound
