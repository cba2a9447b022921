-- No front of whole events is longer than the one behind which the fault is.
use Rattle.std.proofs.Common.{◌≡◌, ℕ, ◌<◌, ◌≤◌, ◌⊎◌, List, [], ◌∷◌, ◌++◌, length, Ok, refl, sym, ap, subst, ◌∙◌, inl, inr, arith, append_assoc, length-append}
use Rattle.midi_model.specs.declared.fault.SmfKind.{SmfKind}
use Rattle.midi_model.specs.declared.fault.SmfKind.TheVariants.{MissingEnd}
use Rattle.mt_base.specs.Midi.{Timed}
use Rattle.midi_model.specs.Reading.{event_at, IsRunning}
use Rattle.midi_model.specs.Spelling.{IsEvent}
use Rattle.midi_model.specs.Faults.{EventFault, AreEvents, TrackFault}
use Rattle.midi_model.proofs.Laws.{ok_is, shorter}
use Rattle.midi_model.proofs.Again.{event_again, running_after}
use Rattle.midi_model.proofs.Failing.{event_fail}

abbrev Step : Type 0
Step = Timed × ℕ × List ℕ

reads : (running before : ℕ) (content one others rest : List ℕ) (e : Timed) (status : ℕ) → IsEvent running before one e status → content ≡ one ++ (others ++ rest)
    → event_at running before content ≡ Ok (e, status, others ++ rest)
reads running before content one others rest e status is parts = ap (event_at running before) parts ∙ event_again running before one (others ++ rest) e status is

regrouped : (content front one others rest : List ℕ) → content ≡ front ++ rest → front ≡ one ++ others → content ≡ one ++ (others ++ rest)
regrouped content front one others rest whole parts = whole ∙ ap (λ f. f ++ rest) parts ∙ append_assoc one others rest

-- a fault has no event at its place
no_event : (running before : ℕ) (content back : List ℕ) (kind : SmfKind) (x : Step) → IsRunning running → event_at running before content ≡ Ok x
    → ((content ≡ []) × (back ≡ []) × (kind ≡ MissingEnd)) ⊎ ((0 < length content) × EventFault running before content back kind) → ⊥
no_event running before content back kind x run read (inl (nil, b, k)) = let less = shorter running before content x run read in omega (arith, less, ap length nil)
no_event running before content back kind x run read (inr (some, f)) = let other = event_fail running before content back kind f in cc

abbrev AtRest : ℕ → ℕ → List ℕ → List ℕ → SmfKind → Type 0
AtRest running before content back kind = ((content ≡ []) × (back ≡ []) × (kind ≡ MissingEnd)) ⊎ ((0 < length content) × EventFault running before content back kind)

no_longer : (es fs : List Timed) (running before : ℕ) (content front rest front2 rest2 : List ℕ) (after tick after2 tick2 : ℕ) (back : List ℕ) (kind : SmfKind) → IsRunning running
    → AreEvents running before front es after tick → content ≡ front ++ rest → AreEvents running before front2 fs after2 tick2 → content ≡ front2 ++ rest2 → AtRest after2 tick2 rest2 back kind
    → length front ≤ length front2
no_longer [] fs running before content front rest front2 rest2 after tick after2 tick2 back kind run (nil, s, t) whole are2 whole2 fault = omega (arith, ap length nil)
no_longer (e ∷ es) [] running before content front rest front2 rest2 after tick after2 tick2 back kind run (one, others, status, is, go, parts, more) whole (nil, s, t) whole2 fault =
    let read = reads running before content one others rest e status is (regrouped content front one others rest whole parts) in
    let same : rest2 ≡ content = sym (whole2 ∙ ap (λ f. f ++ rest2) nil) in
    let here : AtRest running before content back kind = subst (λ c. AtRest running before c back kind) same (subst (λ n. AtRest running n rest2 back kind) t (subst (λ r. AtRest r tick2 rest2 back kind) s fault)) in
    absurd (no_event running before content back kind (e, status, others ++ rest) run read here)
no_longer (e ∷ es) (f ∷ fs) running before content front rest front2 rest2 after tick after2 tick2 back kind run (one, others, status, is, go, parts, more) whole (one2, others2, status2, is2, go2, parts2, more2) whole2 fault =
    let a = regrouped content front one others rest whole parts in
    let b = regrouped content front2 one2 others2 rest2 whole2 parts2 in
    let x : Step = (f, status2, others2 ++ rest2) in
    let y : Step = (e, status, others ++ rest) in
    let same = ok_is x y (sym (reads running before content one2 others2 rest2 f status2 is2 b) ∙ reads running before content one others rest e status is a) in
    let more3 : AreEvents status e.tick others2 fs after2 tick2 = subst (λ (z : Step). AreEvents z.1 z.0.tick others2 fs after2 tick2) same more2 in
    let left : others ++ rest ≡ others2 ++ rest2 = ap (λ (z : Step). z.2) (sym same) in
    let u = no_longer es fs status e.tick (others ++ rest) others rest others2 rest2 after tick after2 tick2 back kind (running_after running is.body e.what status is.is_body) more refl more3 left fault in
    omega (arith, u, ap length a, ap length b, ap length left, ap length parts, ap length parts2, length-append one (others ++ rest), length-append one2 (others2 ++ rest2), length-append one others, length-append one2 others2)

pub longest : (running before : ℕ) (content back : List ℕ) (kind : SmfKind) (t : TrackFault running before content back kind) (front rest : List ℕ) (events : List Timed) (after tick : ℕ) → IsRunning running
    → AreEvents running before front events after tick → content ≡ front ++ rest → length front ≤ length t.front
longest running before content back kind t front rest events after tick run are parts =
    no_longer events t.events running before content front rest t.front t.rest after tick t.after t.tick back kind run are parts t.are_events t.parts t.fault
