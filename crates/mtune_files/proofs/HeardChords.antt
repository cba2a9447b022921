-- What is heard of the chords of a sample, one after the other.
use Rattle.std.proofs.Common.{◌≡◌, ◌≢◌, ◌⊎◌, ℕ, ◌+◌, ◌*◌, ◌%◌, ◌<◌, List, [], ◌∷◌, ◌++◌, map, set, get_or, false, eqb, refl, ap, ◌∙◌, append_assoc, arith, inl, inr}
use Rattle.std.specs.List.{AllByRecursion}
use Rattle.std.proofs.lemmas.Bool.{eq-eqb, ne_eqb}
use Rattle.std.proofs.lemmas.List.{get_or-set_same, get_or-set_other}
use Rattle.mt_base.specs.declared.event.Msg.{Msg}
use Rattle.mt_base.specs.declared.event.Msg.TheVariants.{NoteOff, NoteOn, Control, Program}
use Rattle.mt_base.specs.Midi.{MidiEvent, placed}
use Rattle.midi_model.specs.Channel.{Channel, Voice, default_channel, control_of}
use Rattle.midi_model.specs.Zones.{no_zones, governor}
use Rattle.midi_model.specs.Notes.{Note, sounds, is_at}
use Rattle.midi_model.specs.Music.{Music, step, play}
use Rattle.mtune_files.specs.Sample.{chord_channel, chord_keys, chord_start, chord_end, at_tick}
use Rattle.mtune_files.proofs.Sampled.{all_both}
use Rattle.mtune_files.proofs.Heard.{music, heard_at, ArePlain, plain_set, governs_itself, IsIdle, IsApart, IsSilent, idle_of, apart_of, each_from, program_heard, volume_heard, on_heard, off_heard, down, gone}

-- ---- one event after the other, closed, so that no step is computed

unfoldable pub after_all : Music → List MidiEvent → Music
after_all m es = play m es

pub after_none : (m : Music) → after_all m [] ≡ m
unfolding after_all
after_none m = refl

after_one : (m m2 : Music) (e : MidiEvent) (es : List MidiEvent) → step m e ≡ m2 → after_all m (e ∷ es) ≡ after_all m2 es
unfolding after_all
after_one m m2 e es is = ap (λ (x : Music). play x es) is

pub after_both : (m : Music) (xs ys : List MidiEvent) → after_all m (xs ++ ys) ≡ after_all (after_all m xs) ys
unfolding after_all
after_both m [] ys = refl
after_both m (x ∷ xs) ys = after_both (step m x) xs ys

abbrev pub said : ℕ → List Msg → List MidiEvent
said t ms = map (placed 0) (map (at_tick t) ms)

-- ---- a chord begins

abbrev pub IsAway : ℕ → Note → Type 0
IsAway c n = (sounds n ≡ false) ⊎ (eqb n.channel c ≡ false)

away_apart : (c k : ℕ) (n : Note) → IsAway c n → IsApart c k n
away_apart c k n (inl silent) = inl silent
away_apart c k n (inr away) = inr (rw away refl)

other_key : (c k j o p : ℕ) → k ≢ j → is_at c j (down c k o p) ≡ false
other_key c k j o p other = rw (eq-eqb c c refl, ne_eqb k j other) refl

-- a note on, in a channel whose program is known
pressed : (ss : List Channel) (ns : List Note) (t c k p : ℕ) → (get_or ss c default_channel).voice ≡ record { high = 0; low = 0; program = p }
    → AllByRecursion IsIdle ns → AllByRecursion (IsApart c k) ns
    → step (music ss ns) (heard_at t (NoteOn c k 64)) ≡ music ss (ns ++ down c k t p ∷ [])
pressed ss ns t c k p voiced idle apart =
    let voice : (get_or ss (governor no_zones c) default_channel).voice ≡ record { high = 0; low = 0; program = p } =
    ap (λ (x : ℕ). (get_or ss x default_channel).voice) (governs_itself c) ∙ voiced in
    let with_voice : Voice → Note = λ v. record (down c k t p) { voice = v } in
    on_heard ss ns t c k idle apart ∙ ap (λ (v : Voice). music ss (ns ++ with_voice v ∷ [])) voice

abbrev pub downs : ℕ → List Note
downs i = map (λ k. down (chord_channel i) k (240 * i) (i % 128)) (chord_keys i)

-- the channels once the chord has begun
abbrev programmed : Channel → ℕ → Channel
programmed s p = record s { voice = record { high = control_of s 0; low = control_of s 32; program = p } }

abbrev with_program : List Channel → ℕ → ℕ → List Channel
with_program ss c p = set ss c (programmed (get_or ss c default_channel) p)

abbrev with_volume : List Channel → ℕ → ℕ → List Channel
with_volume ss c v =
    let s = get_or ss c default_channel in
    set ss c (record s { controls = set s.controls 7 v })

plain_program : (ss : List Channel) (c p : ℕ) → ArePlain ss → c < 16 → ArePlain (with_program ss c p)
plain_program ss c p plain low =
    let s = plain.each c in
    plain_set ss c _ plain low (record { high = s.high; low = s.low; hold = s.hold })

plain_volume : (ss : List Channel) (c v : ℕ) → ArePlain ss → c < 16 → ArePlain (with_volume ss c v)
plain_volume ss c v plain low =
    let s = plain.each c in
    let cs = (get_or ss c default_channel).controls in
    plain_set ss c _ plain low (record {
      high = get_or-set_other cs 7 0 v 0 (omega arith) ∙ s.high;
      low = get_or-set_other cs 7 32 v 0 (omega arith) ∙ s.low;
      hold = get_or-set_other cs 7 64 v 0 (omega arith) ∙ s.hold;
    })

voice_of_both : (ss : List Channel) (c p v : ℕ) → ArePlain ss → c < 16
    → (get_or (with_volume (with_program ss c p) c v) c default_channel).voice ≡ record { high = 0; low = 0; program = p }
voice_of_both ss c p v plain low =
    let s = get_or ss c default_channel in
    let ss2 = with_program ss c p in
    let first : get_or ss2 c default_channel ≡ programmed s p =
    get_or-set_same ss c _ default_channel (omega (arith, plain.count)) in
    let plain2 = plain_program ss c p plain low in
    ap (λ (x : Channel). x.voice) (get_or-set_same ss2 c _ default_channel (omega (arith, plain2.count)))
    ∙ ap (λ (x : Channel). x.voice) first
    ∙ rw ((plain.each c).high, (plain.each c).low) refl

pub begins : (i : ℕ) (ss : List Channel) (ns : List Note) → ArePlain ss → AllByRecursion IsIdle ns → AllByRecursion (IsAway (chord_channel i)) ns
    → (ss2 : List Channel) × ArePlain ss2 × (after_all (music ss ns) (said (240 * i) (chord_start i)) ≡ music ss2 (ns ++ downs i))
begins i ss ns plain idle away =
    let c = chord_channel i in
    let t = 240 * i in
    let k = 48 + (7 * i) % 24 in
    let p = i % 128 in
    let v = 40 + i % 80 in
    let low : c < 16 = omega arith in
    let ss1 = with_program ss c p in
    let ss2 = with_volume ss1 c v in
    let plain1 : ArePlain ss1 = plain_program ss c p plain low in
    let voiced = voice_of_both ss c p v plain low in
    let d0 = down c k t p in
    let d1 = down c (k + 4) t p in
    let d2 = down c (k + 7) t p in
    let on : ℕ → MidiEvent = λ x. heard_at t (NoteOn c x 64) in
    let e1 = heard_at t (Program c p) in
    let e2 = heard_at t (Control c 7 v) in
    let apart : (x : ℕ) → AllByRecursion (IsApart c x) ns = λ x. each_from (IsAway c) (IsApart c x) (away_apart c x) ns away in
    let ns1 = ns ++ d0 ∷ [] in
    let ns2 = ns1 ++ d1 ∷ [] in
    let idle1 = all_both IsIdle ns (d0 ∷ []) idle (inr refl, tt) in
    let idle2 = all_both IsIdle ns1 (d1 ∷ []) idle1 (inr refl, tt) in
    let apart1 : (x : ℕ) → k ≢ x → AllByRecursion (IsApart c x) ns1 =
    λ x h. all_both (IsApart c x) ns (d0 ∷ []) (apart x) (inr (other_key c k x t p h), tt) in
    let last_apart = other_key c (k + 4) (k + 7) t p (omega arith) in
    let apart2 = all_both (IsApart c (k + 7)) ns1 (d1 ∷ []) (apart1 (k + 7) (omega arith)) (inr last_apart, tt) in
    let second = pressed ss2 ns1 t c (k + 4) p voiced idle1 (apart1 (k + 4) (omega arith)) in (
      ss2,
      plain_volume ss1 c v plain1 low,
      after_one (music ss ns) (music ss1 ns) e1 (e2 ∷ on k ∷ on (k + 4) ∷ on (k + 7) ∷ []) (program_heard ss ns t c p idle)
          ∙ after_one (music ss1 ns) (music ss2 ns) e2 (on k ∷ on (k + 4) ∷ on (k + 7) ∷ []) (volume_heard ss1 ns t c v idle)
          ∙ after_one (music ss2 ns) (music ss2 ns1) (on k) (on (k + 4) ∷ on (k + 7) ∷ []) (pressed ss2 ns t c k p voiced idle (apart k))
          ∙ after_one (music ss2 ns1) (music ss2 ns2) (on (k + 4)) (on (k + 7) ∷ []) second
          ∙ after_one (music ss2 ns2) (music ss2 (ns2 ++ d2 ∷ [])) (on (k + 7)) [] (pressed ss2 ns2 t c (k + 7) p voiced idle2 apart2)
          ∙ after_none (music ss2 (ns2 ++ d2 ∷ []))
          ∙ ap (λ (x : List Note). music ss2 x) (append_assoc ns1 (d1 ∷ []) (d2 ∷ []) ∙ append_assoc ns (d0 ∷ []) (d1 ∷ d2 ∷ [])),
    )

-- ---- a chord ends

abbrev pub gones : ℕ → ℕ → List Note
gones i t = map (λ k. gone (chord_channel i) k (240 * i) (i % 128) t) (chord_keys i)

pub ends : (i t : ℕ) (ss : List Channel) (before after : List Note) → ArePlain ss → AllByRecursion IsSilent before
    → AllByRecursion IsIdle after → AllByRecursion (IsAway (chord_channel i)) after
    → after_all (music ss (before ++ (downs i ++ after))) (said t (chord_end i)) ≡ music ss ((before ++ gones i t) ++ after)
ends i t ss before after plain silent idle away =
    let c = chord_channel i in
    let o = 240 * i in
    let k = 48 + (7 * i) % 24 in
    let p = i % 128 in
    let d1 = down c (k + 4) o p in
    let d2 = down c (k + 7) o p in
    let g0 = gone c k o p t in
    let g1 = gone c (k + 4) o p t in
    let g2 = gone c (k + 7) o p t in
    let off : ℕ → MidiEvent = λ x. heard_at t (NoteOff c x 64) in
    let b1 = before ++ g0 ∷ [] in
    let b2 = b1 ++ g1 ∷ [] in
    let silent1 = all_both IsSilent before (g0 ∷ []) silent (refl, tt) in
    let silent2 = all_both IsSilent b1 (g1 ∷ []) silent1 (refl, tt) in
    let apart : (x : ℕ) → AllByRecursion (IsApart c x) after = λ x. each_from (IsAway c) (IsApart c x) (away_apart c x) after away in
    let x1 = off_heard ss before (d1 ∷ d2 ∷ after) t c k o p plain (idle_of before silent) (inr refl, (inr refl, idle)) (apart_of c k before silent)
    (inr (other_key c (k + 4) k o p (omega arith)), (inr (other_key c (k + 7) k o p (omega arith)), apart k)) in
    let x2 = off_heard ss b1 (d2 ∷ after) t c (k + 4) o p plain (idle_of b1 silent1) (inr refl, idle) (apart_of c (k + 4) b1 silent1)
    (inr (other_key c (k + 7) (k + 4) o p (omega arith)), apart (k + 4)) in
    let x3 = off_heard ss b2 after t c (k + 7) o p plain (idle_of b2 silent2) idle (apart_of c (k + 7) b2 silent2) (apart (k + 7)) in
    after_one _ (music ss (b1 ++ d1 ∷ d2 ∷ after)) (off k) (off (k + 4) ∷ off (k + 7) ∷ []) x1
    ∙ after_one (music ss (b1 ++ d1 ∷ d2 ∷ after)) (music ss (b2 ++ d2 ∷ after)) (off (k + 4)) (off (k + 7) ∷ []) x2
    ∙ after_one (music ss (b2 ++ d2 ∷ after)) (music ss ((b2 ++ g2 ∷ []) ++ after)) (off (k + 7)) [] x3
    ∙ after_none (music ss ((b2 ++ g2 ∷ []) ++ after))
    ∙ ap (λ (x : List Note). music ss (x ++ after)) (append_assoc b1 (g1 ∷ []) (g2 ∷ []) ∙ append_assoc before (g0 ∷ []) (g1 ∷ g2 ∷ []))
