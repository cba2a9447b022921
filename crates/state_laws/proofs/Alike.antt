-- Alike notes are alike after the same stroke of their pedals.
use Rattle.std.proofs.Common.{◌≡◌, ℕ, Bool, true, false, cond, ◌&&◌, not, nat_eq, Some, refl, ap, sym, ◌∙◌, subst}
use Rattle.std.specs.Prelude.{is_some}
use Rattle.std.proofs.lemmas.Bool.{eq-eqb}
use Rattle.midi_model.specs.Channel.{Channel, control_of}
use Rattle.midi_model.specs.Zones.{no_zones, governor}
use Rattle.midi_model.specs.Notes.{Note, sounds, is_down, is_pedal_down, ending, sostenuto}
use Rattle.state_laws.specs.Heard.{let_go, pedalled}
use Rattle.state_laws.specs.Strokes.{AreAlike}
use Rattle.state_laws.proofs.Pedals.{own_governor, is_free}

-- a stroke on a note of the channel itself
abbrev struck : ℕ → ℕ → ℕ → ℕ → Note → Note
struck t before after hold n =
    let_go t hold (cond (sounds n) (cond (is_pedal_down before) (cond (is_pedal_down after) n (record n { captured = false })) (cond (is_pedal_down after && is_down n) (record n { captured = true }) n)) n)

struck_is : (t c : ℕ) (now wanted : Channel) (n : Note) → n.channel ≡ c
    → pedalled t c now wanted n ≡ struck t (control_of now 66) (control_of wanted 66) (control_of wanted 64) n
struck_is t c now wanted n e =
    let a : ℕ = control_of now 66 in
    let b : ℕ = control_of wanted 66 in
    let h : ℕ = control_of wanted 64 in
    let g : nat_eq (governor no_zones n.channel) c ≡ true = ap (λ d. nat_eq d c) (own_governor n.channel) ∙ eq-eqb n.channel c e in
    ap (λ x. cond x (let_go t h (sostenuto no_zones c a b n)) n) (eq-eqb n.channel c e)
    ∙ ap (λ x. let_go t h (cond (x && sounds n) (cond (is_pedal_down a) (cond (is_pedal_down b) n (record n { captured = false })) (cond (is_pedal_down b && is_down n) (record n { captured = true }) n)) n)) g

alike_same : (n : Note) → AreAlike n n
alike_same n = record { release = refl; captured = refl; ended = refl }

-- the same change of two alike notes
alike_tests : (g a b d : Bool) (n m : Note) → AreAlike n m
    → AreAlike (cond g (cond a (cond b n (record n { captured = false })) (cond d (record n { captured = true }) n)) n) (cond g (cond a (cond b m (record m { captured = false })) (cond d (record m { captured = true }) m)) m)
alike_tests true true true d n m h = h
alike_tests true true false d n m h = record { release = h.release; captured = refl; ended = h.ended }
alike_tests true false b true n m h = record { release = h.release; captured = refl; ended = h.ended }
alike_tests true false b false n m h = h
alike_tests false a b d n m h = h

alike_if : (b d : Bool) (n m x y : Note) → d ≡ b → AreAlike n m → AreAlike x y → AreAlike (cond b n x) (cond d m y)
alike_if true true n m x y e h k = h
alike_if false false n m x y e h k = k
alike_if true false n m x y e h k = absurd cc
alike_if false true n m x y e h k = absurd cc

alike_ending : (t : ℕ) (n m : Note) → AreAlike n m → AreAlike (ending t n) (ending t m)
alike_ending t n m h =
    alike_if (sounds n) (sounds m) (record n { ended = Some t }) (record m { ended = Some t }) n m (ap (λ e. not (is_some e)) h.ended) (record { release = h.release; captured = h.captured; ended = refl }) h

alike_let_go : (t hold : ℕ) (n m : Note) → AreAlike n m → AreAlike (let_go t hold n) (let_go t hold m)
alike_let_go t hold n m h =
    alike_if (is_free hold n) (is_free hold m) (ending t n) (ending t m) n m
    (ap (λ r. is_some r && (not m.captured && not (is_pedal_down hold))) h.release ∙ ap (λ k. is_some n.release && (not k && not (is_pedal_down hold))) h.captured)
    (alike_ending t n m h) h

alike_struck : (t before after hold : ℕ) (n m : Note) → AreAlike n m
    → AreAlike (struck t before after hold n) (struck t before after hold m)
alike_struck t before after hold n m h =
    let turned : Bool → Bool → Note → Note =
    λ g d x. cond g (cond (is_pedal_down before) (cond (is_pedal_down after) x (record x { captured = false })) (cond d (record x { captured = true }) x)) x in
    let s : sounds m ≡ sounds n = ap (λ e. not (is_some e)) h.ended in
    let d : (is_pedal_down after && is_down m) ≡ (is_pedal_down after && is_down n) =
    ap (λ e. is_pedal_down after && (not (is_some e) && not (is_some m.release))) h.ended
    ∙ ap (λ r. is_pedal_down after && (not (is_some n.ended) && not (is_some r))) h.release in
    let same : turned (sounds m) (is_pedal_down after && is_down m) m ≡ turned (sounds n) (is_pedal_down after && is_down n) m =
    ap (λ g. turned g (is_pedal_down after && is_down m) m) s ∙ ap (λ e. turned (sounds n) e m) d in
    subst (λ (x : Note). AreAlike (struck t before after hold n) (let_go t hold x)) (sym same)
    (alike_let_go t hold (turned (sounds n) (is_pedal_down after && is_down n) n) (turned (sounds n) (is_pedal_down after && is_down n) m)
    (alike_tests (sounds n) (is_pedal_down before) (is_pedal_down after) (is_pedal_down after && is_down n) n m h))

pub strokes_agree : (t c d : ℕ) (s now x wanted : Channel) (a b : Note) → a.channel ≡ c → b.channel ≡ d
    → control_of x 66 ≡ control_of s 66 → control_of wanted 66 ≡ control_of now 66 → control_of wanted 64 ≡ control_of now 64
    → AreAlike a b → AreAlike (pedalled t c s now a) (pedalled t d x wanted b)
strokes_agree t c d s now x wanted a b ea eb before after hold h =
    let left = struck_is t c s now a ea in
    let right : pedalled t d x wanted b ≡ struck t (control_of s 66) (control_of now 66) (control_of now 64) b =
    struck_is t d x wanted b eb
    ∙ ap (λ v. struck t v (control_of wanted 66) (control_of wanted 64) b) before
    ∙ ap (λ v. struck t (control_of s 66) v (control_of wanted 64) b) after
    ∙ ap (λ v. struck t (control_of s 66) (control_of now 66) v b) hold in
    subst (λ (y : Note). AreAlike y (pedalled t d x wanted b)) (sym left)
    (subst (λ (y : Note). AreAlike (struck t (control_of s 66) (control_of now 66) (control_of now 64) a) y) (sym right) (alike_struck t (control_of s 66) (control_of now 66) (control_of now 64) a b h))
