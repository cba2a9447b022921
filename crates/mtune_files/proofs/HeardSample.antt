-- What is heard of a whole sample.
use Rattle.std.proofs.Common.{◌≡◌, ◌≢◌, ℕ, zero, suc, ◌+◌, ◌-◌, ◌*◌, ◌<◌, ◌≤◌, List, [], ◌∷◌, ◌++◌, map, replicate, true, ltb, refl, sym, ap, ◌∙◌, subst, append_assoc, arith, inl, inr}
use Rattle.std.specs.List.{AllByRecursion, flat_map, range_with_len}
use Rattle.std.proofs.lemmas.Bool.{cases_Bool, cases_eq, eq-eqb, ne_eqb, le-leb, lt-ltb, le-ltb, ltb-true, ltb-false}
use Rattle.std.proofs.lemmas.List.{map-append, append-nil, get_or-replicate}
use Rattle.std.proofs.Math.ListN.{get_or-eq_default}
use Rattle.mt_base.specs.declared.event.Msg.{Msg}
use Rattle.mt_base.specs.Midi.{MidiEvent, Timed, placed, end_of_track}
use Rattle.midi_model.specs.Channel.{Channel, default_channel}
use Rattle.midi_model.specs.Merged.{precedes, put_in, sorted, merged}
use Rattle.midi_model.specs.Music.{Music, play, quiet}
use Rattle.midi_model.specs.Notes.{Note}
use Rattle.midi_model.specs.Writing.{IsWritable}
use Rattle.mtune_files.specs.Sample.{chord_channel, chord_start, chord_end, said_at, at_tick, events_at, sample_events, sample_file}
use Rattle.mtune_files.specs.SampleLaws.{chord_notes, ChordsAreHeard}
use Rattle.mtune_files.proofs.Sampled.{all_both, events_writable}
use Rattle.mtune_files.proofs.Heard.{music, IsPlain, ArePlain, IsIdle, IsSilent, idle_of, each_from}
use Rattle.mtune_files.proofs.HeardChords.{after_all, after_none, after_both, said, IsAway, downs, gones, begins, ends}

away_of : (c : ℕ) (ns : List Note) → AllByRecursion IsSilent ns → AllByRecursion (IsAway c) ns
away_of c ns h = each_from IsSilent (IsAway c) (λ n s. inl s) ns h

-- the notes of one chord, seen from another
downs_idle : (i : ℕ) → AllByRecursion IsIdle (downs i)
downs_idle i = (inr refl, (inr refl, (inr refl, tt)))

downs_away : (c i : ℕ) → chord_channel i ≢ c → AllByRecursion (IsAway c) (downs i)
downs_away c i other = let away = ne_eqb (chord_channel i) c other in (inr away, (inr away, (inr away, tt)))

gones_silent : (i t : ℕ) → AllByRecursion IsSilent (gones i t)
gones_silent i t = (refl, (refl, (refl, tt)))

notes_gone : (p : ℕ) → gones p (240 * (p + 1 + 1)) ≡ chord_notes p
notes_gone p = let two : p + 1 + 1 ≡ p + 2 = omega arith in rw two refl

-- ---- what is said at a step

both_said : (n p : ℕ) → p + 1 + 1 < n → said_at n (p + 1 + 1) ≡ chord_end p ++ chord_start (p + 1 + 1)
both_said n p lt =
    let back : p + 1 + 1 - 2 ≡ p = omega arith in
    rw (le-leb 2 (p + 1 + 1) (omega arith), lt-ltb (p + 1 + 1) n lt, back) refl

end_said : (n p : ℕ) → n ≤ p + 1 + 1 → said_at n (p + 1 + 1) ≡ chord_end p
end_said n p le =
    let back : p + 1 + 1 - 2 ≡ p = omega arith in
    rw (le-leb 2 (p + 1 + 1) (omega arith), le-ltb (p + 1 + 1) n le, back) refl

said_both : (t : ℕ) (xs ys : List Msg) → said t (xs ++ ys) ≡ said t xs ++ said t ys
said_both t xs ys =
    ap (λ (es : List Timed). map (placed 0) es) (map-append (at_tick t) xs ys)
    ∙ map-append (placed 0) (map (at_tick t) xs) (map (at_tick t) ys)

heard : ℕ → ℕ → List MidiEvent
heard n i = map (placed 0) (events_at n i)

heard_all : ℕ → List ℕ → List MidiEvent
heard_all n is = map (placed 0) (flat_map (events_at n) is)

heard_more : (m : Music) (n i : ℕ) (is : List ℕ) → after_all m (heard_all n (i ∷ is)) ≡ after_all (after_all m (heard n i)) (heard_all n is)
unfolding heard heard_all
heard_more m n i is =
    ap (λ (es : List MidiEvent). after_all m es) (map-append (placed 0) (events_at n i) (flat_map (events_at n) is))
    ∙ after_both m (map (placed 0) (events_at n i)) (map (placed 0) (flat_map (events_at n) is))

heard_none : (m : Music) (n : ℕ) → after_all m (heard_all n []) ≡ m
unfolding heard_all
heard_none m n = after_none m

-- a chord ends
chord_over : (n p : ℕ) (ss : List Channel) (done live : List Note) → n ≤ p + 1 + 1 → ArePlain ss → AllByRecursion IsSilent done
    → AllByRecursion IsIdle live → AllByRecursion (IsAway (chord_channel p)) live
    → after_all (music ss (done ++ (downs p ++ live))) (heard n (p + 1 + 1)) ≡ music ss ((done ++ chord_notes p) ++ live)
unfolding heard
chord_over n p ss done live le plain silent idle away =
    ap (λ (ms : List Msg). after_all (music ss (done ++ (downs p ++ live))) (said (240 * (p + 1 + 1)) ms)) (end_said n p le)
    ∙ ends p (240 * (p + 1 + 1)) ss done live plain silent idle away
    ∙ ap (λ (ns : List Note). music ss ((done ++ ns) ++ live)) (notes_gone p)

-- a chord ends and another begins
chord_follows : (n p : ℕ) (ss : List Channel) (done : List Note) → p + 1 + 1 < n → ArePlain ss → AllByRecursion IsSilent done
    → (ss2 : List Channel) × ArePlain ss2
    × (after_all (music ss (done ++ (downs p ++ downs (p + 1)))) (heard n (p + 1 + 1))
    ≡ music ss2 ((done ++ chord_notes p) ++ (downs (p + 1) ++ downs (p + 1 + 1))))
unfolding heard
chord_follows n p ss done lt plain silent =
    let t = 240 * (p + 1 + 1) in
    let gone = gones p t in
    let live = downs (p + 1) in
    let before = done ++ gone in
    let c = chord_channel (p + 1 + 1) in
    let over = all_both IsSilent done gone silent (gones_silent p t) in
    let other : chord_channel (p + 1) ≢ chord_channel p = omega arith in
    let other2 : chord_channel (p + 1) ≢ c = omega arith in
    let next = begins (p + 1 + 1) ss (before ++ live) plain (all_both IsIdle before live (idle_of before over) (downs_idle (p + 1)))
    (all_both (IsAway c) before live (away_of c before over) (downs_away c (p + 1) other2)) in
    let over_first = ends p t ss done live plain silent (downs_idle (p + 1)) (downs_away (chord_channel p) (p + 1) other) in (
      next.0,
      next.1,
      ap (λ (ms : List Msg). after_all (music ss (done ++ (downs p ++ live))) (said t ms)) (both_said n p lt)
          ∙ ap (λ (es : List MidiEvent). after_all (music ss (done ++ (downs p ++ live))) es) (said_both t (chord_end p) (chord_start (p + 1 + 1)))
          ∙ after_both (music ss (done ++ (downs p ++ live))) (said t (chord_end p)) (said t (chord_start (p + 1 + 1)))
          ∙ ap (λ (m : Music). after_all m (said t (chord_start (p + 1 + 1)))) over_first
          ∙ next.2
          ∙ ap (λ (ns : List Note). music next.0 ns) (append_assoc before live (downs (p + 1 + 1)))
          ∙ ap (λ (ns : List Note). music next.0 ((done ++ ns) ++ (live ++ downs (p + 1 + 1)))) (notes_gone p),
    )

-- ---- all steps

-- two chords sound, and k more begin
from_two : (n p k : ℕ) (ss : List Channel) (done : List Note) → p + 1 + 1 + k ≡ n → ArePlain ss → AllByRecursion IsSilent done
    → (after_all (music ss (done ++ (downs p ++ downs (p + 1)))) (heard_all n (range_with_len (p + 1 + 1) (suc (suc k))))).notes
    ≡ done ++ flat_map chord_notes (range_with_len p (suc (suc k)))
from_two n p zero ss done is plain silent =
    let q = p + 1 in
    let start = music ss (done ++ (downs p ++ downs q)) in
    let more = done ++ chord_notes p in
    let over = all_both IsSilent done (chord_notes p) silent (refl, (refl, (refl, tt))) in
    let other : chord_channel q ≢ chord_channel p = omega arith in
    let first_over = chord_over n p ss done (downs q) (omega arith) plain silent (downs_idle q) (downs_away (chord_channel p) q other) in
    ap (λ (m : Music). m.notes) (heard_more start n (p + 1 + 1) ((q + 1 + 1) ∷ [])
    ∙ ap (λ (m : Music). after_all m (heard_all n ((q + 1 + 1) ∷ []))) first_over
    ∙ heard_more (music ss (more ++ downs q)) n (q + 1 + 1) []
    ∙ ap (λ (m : Music). after_all m (heard_all n [])) (chord_over n q ss more [] (omega arith) plain over tt tt)
    ∙ heard_none (music ss ((more ++ chord_notes q) ++ [])) n)
    ∙ append-nil (more ++ chord_notes q)
    ∙ append_assoc done (chord_notes p) (chord_notes q)
from_two n p (suc k) ss done is plain silent =
    let next = chord_follows n p ss done (omega arith) plain silent in
    let more = done ++ chord_notes p in
    let over = all_both IsSilent done (chord_notes p) silent (refl, (refl, (refl, tt))) in
    let start = music ss (done ++ (downs p ++ downs (p + 1))) in
    let rest = range_with_len (p + 1 + 1 + 1) (suc (suc k)) in
    ap (λ (m : Music). m.notes) (heard_more start n (p + 1 + 1) rest ∙ ap (λ (m : Music). after_all m (heard_all n rest)) next.2)
    ∙ from_two n (p + 1) k next.0 more (omega arith) next.1 over
    ∙ append_assoc done (chord_notes p) (flat_map chord_notes (range_with_len (p + 1) (suc (suc k))))

plain_at_first : ArePlain (replicate 16 default_channel)
plain_at_first =
    let plain : IsPlain default_channel = record { high = refl; low = refl; hold = refl } in
    record {
      count = refl;
      each = λ c. subst IsPlain (sym (elim (cases_Bool (ltb c 16)) [
        | inl low ↦ get_or-replicate 16 c default_channel default_channel (ltb-true c 16 low)
        | inr high ↦ get_or-eq_default (replicate 16 default_channel) default_channel (ltb-false c 16 high)
      ])) plain;
    }

said_first : (n : ℕ) → 0 < n → said_at n 0 ≡ chord_start 0
said_first n lt = rw (lt-ltb 0 n lt) refl

said_second : (n : ℕ) → 1 < n → said_at n 1 ≡ chord_start 1
said_second n lt = rw (lt-ltb 1 n lt) refl

-- the first two chords begin
two_begin : (n : ℕ) → 1 < n
    → (ss : List Channel) × ArePlain ss × (after_all (after_all quiet (heard n 0)) (heard n 1) ≡ music ss (downs 0 ++ downs 1))
unfolding heard
two_begin n lt =
    let first = begins 0 (replicate 16 default_channel) [] plain_at_first tt tt in
    let other : chord_channel 0 ≢ chord_channel 1 = omega arith in
    let second = begins 1 first.0 (downs 0) first.1 (downs_idle 0) (downs_away (chord_channel 1) 0 other) in (
      second.0,
      second.1,
      ap (λ (ms : List Msg). after_all (after_all quiet (said 0 ms)) (heard n 1)) (said_first n (omega arith))
          ∙ ap (λ (ms : List Msg). after_all (after_all quiet (said 0 (chord_start 0))) (said 240 ms)) (said_second n lt)
          ∙ ap (λ (m : Music). after_all m (said 240 (chord_start 1))) first.2
          ∙ second.2,
    )

-- from the start on, for two chords and k more
from_start : (k : ℕ) → (after_all quiet (heard_all (suc (suc k)) (range_with_len 0 (suc (suc (suc (suc k))))))).notes
    ≡ flat_map chord_notes (range_with_len 0 (suc (suc k)))
from_start k =
    let n = suc (suc k) in
    let two = two_begin n (omega arith) in
    let rest = range_with_len 2 (suc (suc k)) in
    ap (λ (m : Music). m.notes) (heard_more quiet n 0 (1 ∷ rest)
    ∙ heard_more (after_all quiet (heard n 0)) n 1 rest
    ∙ ap (λ (m : Music). after_all m (heard_all n rest)) two.2)
    ∙ from_two n 0 k two.0 [] (omega arith) two.1 tt

-- ---- the merged order of one track

in_place : (e f : Timed) → e.tick ≤ f.tick → precedes (placed 0 e) (placed 0 f) ≡ true
in_place e f le = elim (cases_eq e.tick f.tick) [
  | inl same ↦ rw (eq-eqb e.tick f.tick same) refl
  | inr other ↦ rw (ne_eqb e.tick f.tick other) (lt-ltb e.tick f.tick (omega arith))
]

not_nothing : (f : Timed) (es : List Timed) → f ∷ es ≡ [] → ⊥
not_nothing f es is = cc

one_track_sorted : (before : ℕ) (es : List Timed) → IsWritable before es → sorted (map (placed 0) es) ≡ map (placed 0) es
one_track_sorted before [] w = refl
one_track_sorted before (e ∷ []) w = refl
one_track_sorted before (e ∷ f ∷ es) w =
    let later : IsWritable e.tick (f ∷ es) = elim w.3 [ inl h ↦ absurd (not_nothing f es h.1) | inr h ↦ h.1 ] in
    ap (λ (xs : List MidiEvent). put_in (placed 0 e) xs) (one_track_sorted e.tick (f ∷ es) later)
    ∙ rw (in_place e f later.0) refl

-- ---- a whole sample

last_heard : (m : Music) (t : ℕ) → after_all m (placed 0 (record { tick = t; what = end_of_track }) ∷ []) ≡ m
unfolding after_all
last_heard m t = refl

all_heard : (n : ℕ) → after_all quiet (map (placed 0) (sample_events n)) ≡ after_all quiet (heard_all n (range_with_len 0 (n + 2)))
unfolding sample_events heard_all
all_heard n =
    let steps = flat_map (events_at n) (range_with_len 0 (n + 2)) in
    let end : Timed = record { tick = 240 * (n + 1); what = end_of_track } in
    ap (λ (es : List MidiEvent). after_all quiet es) (map-append (placed 0) steps (end ∷ []))
    ∙ after_both quiet (map (placed 0) steps) (placed 0 end ∷ [])
    ∙ last_heard (after_all quiet (map (placed 0) steps)) end.tick

heard_of : (n : ℕ) → n ≤ 100000 → play quiet (merged (sample_file n)) ≡ after_all quiet (heard_all n (range_with_len 0 (n + 2)))
unfolding after_all
heard_of n few =
    ap (λ (es : List MidiEvent). play quiet (sorted es)) (append-nil (map (placed 0) (sample_events n)))
    ∙ ap (λ (es : List MidiEvent). play quiet es) (one_track_sorted 0 (sample_events n) (events_writable n few))
    ∙ all_heard n

one_heard : ChordsAreHeard 1
unfolding sample_events
one_heard = refl

pub chords_heard : (n : ℕ) → 1 ≤ n → n ≤ 100000 → ChordsAreHeard n
chords_heard zero some few = absurd (omega arith)
chords_heard (suc zero) some few = one_heard
chords_heard (suc (suc k)) some few =
    let more : suc (suc k) + 2 ≡ suc (suc (suc (suc k))) = omega arith in
    ap (λ (m : Music). m.notes) (heard_of (suc (suc k)) few ∙ ap (λ (i : ℕ). after_all quiet (heard_all (suc (suc k)) (range_with_len 0 i))) more)
    ∙ from_start k
