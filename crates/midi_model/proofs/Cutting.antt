-- A file that is cut off before its last track chunk ends.
use Rattle.std.proofs.Common.{◌≡◌, ℕ, suc, ◌+◌, ◌-◌, ◌<◌, ◌≤◌, ◌⊎◌, List, [], ◌∷◌, ◌++◌, length, take, drop, Result, Ok, Err, true, ltb, refl, sym, ap, subst, ◌∙◌, inl, inr, arith, append_assoc}
use Rattle.std.specs.Int.{w32}
use Rattle.std.proofs.lemmas.Bool.{lt-ltb, le-ltb, ne_eqb, cases_lt}
use Rattle.std.proofs.lemmas.List.{length-append, length-drop, length-take, drop_at, take_at, take-append-drop, take-append-le, drop-append-le}
use Rattle.midi_model.specs.declared.fault.Stop.{Stop}
use Rattle.midi_model.specs.declared.fault.SmfKind.{SmfKind}
use Rattle.midi_model.specs.declared.fault.SmfKind.TheVariants.{NotMidi, Truncated, MissingTrack}
use Rattle.mt_base.specs.Midi.{Timed}
use Rattle.midi_model.specs.Reading.{stop}
use Rattle.midi_model.specs.FileText.{MidiFile, number, header_at, chunk_at, next_content, track_at, tracks_at, all_at, file_at, from_start}
use Rattle.midi_model.specs.Spelling.{IsChunk, IsFields, AreSkipped, AreTracks, Spells}
use Rattle.midi_model.specs.Faults.{FirstFault, CutFault}
use Rattle.midi_model.proofs.Laws.{none_runs}
use Rattle.midi_model.proofs.Chunks.{number_again, chunk_again, track_at_again}
use Rattle.midi_model.proofs.Tracks.{stops, skips}
use Rattle.midi_model.proofs.Again.{track_again}
use Rattle.midi_model.proofs.Files.{header_again, number_front}
use Rattle.midi_model.proofs.Faulting.{fault_takes}
use Rattle.midi_model.proofs.Placing.{missing_place}

-- the bytes end within a chunk, or where less than the head of one is left
abbrev IsCut : Stop → Type 0
IsCut e = ((e.kind ≡ Truncated) × (e.left ≡ 0)) ⊎ ((e.kind ≡ MissingTrack) × (e.left < 8))

abbrev CutShort : {A : Type 0} → Result A Stop → Type 0
CutShort r = (e : Stop) × (r ≡ Err e) × IsCut e

record Split (p q a b : List ℕ) : Type 0 where
  rest : List ℕ
  front : p ≡ a ++ rest
  back : rest ++ q ≡ b

split : (p q a b : List ℕ) → p ++ q ≡ a ++ b → length a ≤ length p → Split p q a b
split p q a b is le =
    let n = length a in
    let first : take n p ≡ a = sym (take-append-le n p q le) ∙ ap (take n) is ∙ take_at a b n refl in
    record {
      rest = drop n p;
      front = sym (take-append-drop n p) ∙ ap (λ f. f ++ drop n p) first;
      back = sym (drop-append-le n p q le) ∙ ap (drop n) is ∙ drop_at a b n refl;
    }

-- the length that a cut chunk has
size_front : (p q chunk b : List ℕ) (name : ℕ) (content : List ℕ) → IsChunk chunk name content → p ++ q ≡ chunk ++ b → 8 ≤ length p → number w32 (drop 4 p) ≡ length content
size_front p q chunk b name content is parts long =
    let a = is.type_bytes in
    let s = is.size_bytes in
    let whole : chunk ++ b ≡ a ++ (s ++ (content ++ b)) = ap (λ c. c ++ b) is.parts ∙ append_assoc a (s ++ content) b ∙ ap (λ r. a ++ r) (append_assoc s content b) in
    let behind : drop 4 p ++ q ≡ s ++ (content ++ b) = sym (drop-append-le 4 p q (omega (arith, long))) ∙ ap (drop 4) (parts ∙ whole) ∙ drop_at a (s ++ (content ++ b)) 4 is.is_type.len in
    sym (number_front w32 (drop 4 p) q (omega (arith, long, length-drop 4 p))) ∙ ap (number w32) behind ∙ number_again w32 s (content ++ b) (length content) is.is_size

name_front : (p q chunk b : List ℕ) (name : ℕ) (content : List ℕ) → IsChunk chunk name content → p ++ q ≡ chunk ++ b → 4 ≤ length p → number w32 p ≡ name
name_front p q chunk b name content is parts long =
    let a = is.type_bytes in
    let s = is.size_bytes in
    let whole : chunk ++ b ≡ a ++ ((s ++ content) ++ b) = ap (λ c. c ++ b) is.parts ∙ append_assoc a (s ++ content) b in
    sym (number_front w32 p q (omega (arith, long))) ∙ ap (number w32) (parts ∙ whole) ∙ number_again w32 a ((s ++ content) ++ b) name is.is_type

chunk_length : (chunk : List ℕ) (name : ℕ) (content : List ℕ) → IsChunk chunk name content → length chunk ≡ 8 + length content
chunk_length chunk name content is =
    omega (arith, ap length is.parts, length-append is.type_bytes (is.size_bytes ++ content), length-append is.size_bytes content, is.is_type.len, is.is_size.len)

cut_chunk : (p q chunk b : List ℕ) (name : ℕ) (content : List ℕ) → IsChunk chunk name content → p ++ q ≡ chunk ++ b → length p < length chunk → CutShort (chunk_at p)
unfolding chunk_at
cut_chunk p q chunk b name content is parts lt = elim (cases_lt (length p) 8) [
  | inl few ↦ (record { left = length p; kind = MissingTrack }, rw (lt-ltb (length p) 8 few) refl, inr (refl, few))
  | inr long ↦
      let size = size_front p q chunk b name content is parts long in
      let less : ltb (length (drop 4 (drop 4 p))) (length content) ≡ true =
      lt-ltb _ _ (omega (arith, length-drop 4 (drop 4 p), length-drop 4 p, chunk_length chunk name content is, lt, long)) in
      (record { left = 0; kind = Truncated }, rw (le-ltb (length p) 8 long, size, less) refl, inl (refl, refl))
]

cut_next : (others : List (ℕ × List ℕ)) (skipped chunk content p q b : List ℕ) → AreSkipped others skipped → IsChunk chunk 0x4d54726b content → p ++ q ≡ skipped ++ (chunk ++ b)
    → length p < length skipped + length chunk → CutShort (next_content p)
cut_next [] skipped chunk content p q b are is parts lt =
    let c = cut_chunk p q chunk b 0x4d54726b content is (parts ∙ ap (λ s. s ++ (chunk ++ b)) are) (omega (arith, lt, ap length are)) in
    (c.0, stops p c.0 c.1, c.2)
cut_next (o ∷ os) skipped chunk content p q b (front, rest, one, isnt, cut, more) is parts lt =
    let whole : p ++ q ≡ front ++ (rest ++ (chunk ++ b)) = parts ∙ ap (λ s. s ++ (chunk ++ b)) cut ∙ append_assoc front rest (chunk ++ b) in
    elim (cases_lt (length p) (length front)) [
      | inl few ↦ let c = cut_chunk p q front (rest ++ (chunk ++ b)) o.0 o.1 one whole few in (c.0, stops p c.0 c.1, c.2)
      | inr long ↦
          let s = split p q front (rest ++ (chunk ++ b)) whole long in
          let less : length s.rest < length rest + length chunk = omega (arith, lt, ap length cut, length-append front rest, ap length s.front, length-append front s.rest) in
          let u = cut_next os rest chunk content s.rest q b more is s.back less in
          (u.0, ap next_content s.front ∙ skips (front ++ s.rest) _ (chunk_again front s.rest o.0 o.1 one) (ne_eqb o.0 0x4d54726b isnt) ∙ u.1, u.2)
    ]

cut_track : (p : List ℕ) → CutShort (next_content p) → CutShort (track_at p)
unfolding track_at
cut_track p c = (c.0, rw c.1 refl, c.2)

first_track : (n : ℕ) (p : List ℕ) → CutShort (track_at p) → CutShort (tracks_at (suc n) p)
unfolding tracks_at
first_track n p c = (c.0, rw c.1 refl, c.2)

later_track : (n : ℕ) (p content rest : List ℕ) → track_at p ≡ Ok (content, rest) → CutShort (tracks_at n rest) → CutShort (tracks_at (suc n) p)
unfolding tracks_at
later_track n p content rest read c = (c.0, rw (read, c.1) refl, c.2)

cut_tracks : (ts : List (List Timed)) (front p q b : List ℕ) → AreTracks ts front → p ++ q ≡ front ++ b → length p < length front → CutShort (tracks_at (length ts) p)
cut_tracks [] front p q b are parts lt = absurd (omega (arith, lt, ap length are))
cut_tracks (es ∷ ts) front p q b (one, others, content, is, spelled, cut, more) parts lt =
    let whole : p ++ q ≡ one ++ (others ++ b) = parts ∙ ap (λ f. f ++ b) cut ∙ append_assoc one others b in
    elim (cases_lt (length p) (length one)) [
      | inl few ↦
          let first : p ++ q ≡ is.skipped ++ (is.chunk ++ (others ++ b)) = whole ∙ ap (λ f. f ++ (others ++ b)) is.parts ∙ append_assoc is.skipped is.chunk (others ++ b) in
          let less : length p < length is.skipped + length is.chunk = omega (arith, few, ap length is.parts, length-append is.skipped is.chunk) in
          first_track (length ts) p (cut_track p (cut_next is.others is.skipped is.chunk content p q (others ++ b) is.are_skipped is.is_chunk first less))
      | inr long ↦
          let s = split p q one (others ++ b) whole long in
          let less : length s.rest < length others = omega (arith, lt, ap length cut, length-append one others, ap length s.front, length-append one s.rest) in
          let t = track_again 0 0 content es none_runs spelled in
          let read : track_at p ≡ Ok (content, s.rest) = ap track_at s.front ∙ track_at_again one s.rest content is (ap (λ r. r.fault) t) in
          later_track (length ts) p content s.rest read (cut_tracks ts others s.rest q b more s.back less)
    ]

six_fields : (fields : List ℕ) (format tracks division : ℕ) → IsFields fields format tracks division → 6 ≤ length fields
six_fields fields format tracks division f = omega (
  arith,
  ap length f.parts,
  length-append f.format_bytes (f.tracks_bytes ++ (f.division_bytes ++ f.more)),
  length-append f.tracks_bytes (f.division_bytes ++ f.more),
  length-append f.division_bytes f.more,
  f.is_format.len,
  f.is_tracks.len,
  f.is_division.len,
)

cut_header : (header fields p q b : List ℕ) → IsChunk header 0x4d546864 fields → 6 ≤ length fields → p ++ q ≡ header ++ b → length p < length header → 4 ≤ length p
    → header_at p ≡ stop [] Truncated
unfolding header_at
cut_header header fields p q b is six parts lt four =
    let name = name_front p q header b 0x4d546864 fields is parts four in
    elim (cases_lt (length p) 8) [
      | inl few ↦ rw (le-ltb (length p) 4 four, name, lt-ltb (length p) 8 few) refl
      | inr long ↦
          let size = size_front p q header b 0x4d546864 fields is parts long in
          let less : ltb (length (drop 4 (drop 4 p))) (length fields) ≡ true =
          lt-ltb _ _ (omega (arith, length-drop 4 (drop 4 p), length-drop 4 p, chunk_length header 0x4d546864 fields is, lt, long)) in
          rw (le-ltb (length p) 4 four, name, le-ltb (length p) 8 long, size, le-ltb (length fields) 6 six, less) refl
    ]

no_header : (p : List ℕ) → length p < 4 → header_at p ≡ stop p NotMidi
unfolding header_at
no_header p few = rw (lt-ltb (length p) 4 few) refl

-- ---- the whole file

all_from_header : (p back : List ℕ) (kind : SmfKind) → header_at p ≡ stop back kind → all_at p ≡ stop back kind
unfolding all_at
all_from_header p back kind h = rw h refl

all_from_tracks : (header fields p : List ℕ) (file : MidiFile) → IsChunk header 0x4d546864 fields → IsFields fields file.format (length file.tracks) file.division
    → CutShort (tracks_at (length file.tracks) p) → CutShort (all_at (header ++ p))
unfolding all_at
all_from_tracks header fields p file is are c =
    let read = header_again header fields p file.format (length file.tracks) file.division is are in
    (c.0, rw (read, c.1) refl, c.2)

abbrev pub Cut : ℕ → List ℕ → Type 0
Cut n p = (offset : ℕ) × (kind : SmfKind) × FirstFault p offset kind × CutFault p n offset kind

read_as : (p : List ℕ) (e : Stop) → all_at p ≡ Err e → file_at p ≡ Err (length p - e.left, e.kind)
unfolding file_at
read_as p e h = ap (from_start (length p)) h

is_cut : (n : ℕ) (p : List ℕ) → length p ≡ n → 4 ≤ n → CutShort (all_at p) → Cut n p
is_cut n p is four (e, h, inl (kind, none)) =
    (length p - e.left, e.kind, fault_takes p (length p - e.left) e.kind (read_as p e h), inr (four, inl (omega (arith, is, none), kind)))
is_cut n p is four (e, h, inr (kind, few)) =
    let fault = fault_takes p (length p - e.left) e.kind (read_as p e h) in
    let place = missing_place p (length p - e.left) e.kind fault kind in
    (length p - e.left, e.kind, fault, inr (four, inr (omega (arith, is), omega (arith, is, few), kind, place.0)))

no_magic : (n : ℕ) (p : List ℕ) → length p ≡ n → n < 4 → Cut n p
no_magic n p is few =
    let e : Stop = record { left = length p; kind = NotMidi } in
    let read = read_as p e (all_from_header p p NotMidi (no_header p (omega (arith, is, few)))) in
    (length p - length p, NotMidi, fault_takes p (length p - length p) NotMidi read, inl (few, omega arith, refl))

cut_front : (n : ℕ) (p q bytes : List ℕ) (file : MidiFile) (is : Spells bytes file) → length p ≡ n → p ++ q ≡ bytes → n < length is.header + length is.tracks → Cut n p
cut_front n p q bytes file is len parts lt =
    let whole : p ++ q ≡ is.header ++ (is.tracks ++ is.more) = parts ∙ is.parts in
    elim (cases_lt n 4) [
      | inl few ↦ no_magic n p len few
      | inr four ↦ elim (cases_lt n (length is.header)) [
        | inl within ↦
            let six = six_fields is.fields file.format (length file.tracks) file.division is.are_fields in
            let h = cut_header is.header is.fields p q (is.tracks ++ is.more) is.is_header six whole (omega (arith, len, within)) (omega (arith, len, four)) in
            is_cut n p len four (record { left = 0; kind = Truncated }, all_from_header p [] Truncated h, inl (refl, refl))
        | inr behind ↦
            let s = split p q is.header (is.tracks ++ is.more) whole (omega (arith, len, behind)) in
            let less : length s.rest < length is.tracks = omega (arith, lt, len, ap length s.front, length-append is.header s.rest) in
            let c = all_from_tracks is.header is.fields s.rest file is.is_header is.are_fields (cut_tracks file.tracks is.tracks s.rest q is.more is.are_tracks s.back less) in
            is_cut n p len four (subst (λ f. CutShort (all_at f)) (sym s.front) c)
      ]
    ]

-- the first n bytes of a file, where they end before its last track chunk does
pub cut_off : (bytes : List ℕ) (file : MidiFile) (is : Spells bytes file) (n : ℕ) → n < length is.header + length is.tracks → Cut n (take n bytes)
cut_off bytes file is n lt =
    let sum = ap length is.parts ∙ length-append is.header (is.tracks ++ is.more) in
    cut_front n (take n bytes) (drop n bytes) bytes file is (omega (arith, length-take n bytes, lt, sum, length-append is.tracks is.more)) (take-append-drop n bytes) lt
