-- The same of chunks, the header and the file.
use Rattle.std.proofs.Common.{◌≡◌, ℕ, zero, suc, ◌+◌, ◌-◌, ◌<◌, ◌≤◌, ◌⊎◌, List, [], ◌∷◌, ◌++◌, length, take, drop, Result, Ok, Err, Option, Some, None, Bool, true, false, not, ltb, eqb, refl, sym, ap, subst, ◌∙◌, inl, inr, arith, append_assoc}
use Rattle.std.specs.Prelude.{◌&&◌, ◌||◌}
use Rattle.std.specs.Int.{w16, w32}
use Rattle.std.proofs.lemmas.Bool.{ltb-true, ltb-false, lt-ltb, le-ltb, eqb-true, eqb-false, eq-eqb, ne_eqb, cases_Bool, cases_eq, and_left, and_right, or_from, not-false}
use Rattle.std.proofs.lemmas.List.{length-append, length-drop, drop_at, take-append-drop}
use Rattle.midi_model.specs.declared.fault.Stop.{Stop}
use Rattle.midi_model.specs.declared.fault.SmfKind.{SmfKind}
use Rattle.midi_model.specs.declared.fault.SmfKind.TheVariants.{NotMidi, BadHeader, Format2, FormatNumber, Truncated, MissingTrack, TooManyTracks}
use Rattle.mt_base.specs.Midi.{Timed}
use Rattle.midi_model.specs.Reading.{◌>>=◌, stop, track_in}
use Rattle.midi_model.specs.FileText.{Chunk, MidiFile, number, fields_at, header_at, chunk_at, content_from, next_content, sound, track_at, tracks_at, all_at, file_at, from_start, events_of}
use Rattle.midi_model.specs.Spelling.{IsChunk, AreTracks, Spells}
use Rattle.midi_model.specs.Faults.{BytesFault, TrackFault, IsHead, ChunkFault, NextFault, TracksFault, FieldsFault, HeaderFault, FileFault, FirstFault}
use Rattle.midi_model.proofs.Laws.{chosen, none_runs}
use Rattle.midi_model.proofs.Chunks.{number_again, number_takes, chunk_takes, chunk_again, content_takes, skipped_again, track_at_takes, track_at_again}
use Rattle.midi_model.proofs.Tracks.{stops, takes_it, chunk_shorter}
use Rattle.midi_model.proofs.Again.{track_again}
use Rattle.midi_model.proofs.Files.{header_takes, header_again, file_takes, file_again}
use Rattle.midi_model.proofs.Failing.{Fails, failing, err_is, fails_by, same_stop, bind_err, weaker, stopped, track_fail, track_broken}

-- ---- a chunk

head_takes : (bytes : List ℕ) → 8 ≤ length bytes → IsHead bytes (number w32 bytes) (number w32 (drop 4 bytes)) (drop 4 (drop 4 bytes))
head_takes bytes long = record {
  type_bytes = take 4 bytes;
  size_bytes = take 4 (drop 4 bytes);
  is_type = number_takes w32 bytes (omega (arith, long));
  is_size = number_takes w32 (drop 4 bytes) (omega (arith, long, length-drop 4 bytes));
  parts = sym (ap (λ r. take 4 bytes ++ r) (take-append-drop 4 (drop 4 bytes)) ∙ take-append-drop 4 bytes);
}

record HeadReads (bytes : List ℕ) (name size : ℕ) (after : List ℕ) : Type 0 where
  long : 8 ≤ length bytes
  name_is : number w32 bytes ≡ name
  size_is : number w32 (drop 4 bytes) ≡ size
  after_is : drop 4 (drop 4 bytes) ≡ after

head_reads : (bytes : List ℕ) (name size : ℕ) (after : List ℕ) → IsHead bytes name size after → HeadReads bytes name size after
head_reads bytes name size after h =
    let a = h.type_bytes in
    let b = h.size_bytes in
    let back : drop 4 bytes ≡ b ++ after = ap (drop 4) h.parts ∙ drop_at a (b ++ after) 4 h.is_type.len in
    record {
      long = omega (arith, ap length h.parts, length-append a (b ++ after), length-append b after, h.is_type.len, h.is_size.len);
      name_is = ap (number w32) h.parts ∙ number_again w32 a (b ++ after) name h.is_type;
      size_is = ap (number w32) back ∙ number_again w32 b after size h.is_size;
      after_is = ap (drop 4) back ∙ drop_at b after 4 h.is_size.len;
    }

abbrev ChunkRead : Type 0
ChunkRead = Chunk × List ℕ

chunk_broken : (bytes : List ℕ) (e : Stop) → chunk_at bytes ≡ Err e → Fails (ChunkFault bytes) e
unfolding chunk_at
chunk_broken bytes e h = elim (chosen (ltb (length bytes) 8) _ _ (Err e) h) [
  | inl t ↦ fails_by (ChunkFault bytes) bytes MissingTrack e (inl (ltb-true (length bytes) 8 t.0, refl, refl)) t.1
  | inr f ↦ elim (chosen (ltb (length (drop 4 (drop 4 bytes))) (number w32 (drop 4 bytes))) _ _ (Err e) f.1) [
    | inl t ↦ fails_by (ChunkFault bytes) [] Truncated e
        (inr (number w32 bytes, number w32 (drop 4 bytes), drop 4 (drop 4 bytes), head_takes bytes (ltb-false (length bytes) 8 f.0), (ltb-true _ _ t.0, refl, refl))) t.1
    | inr g ↦ absurd (let n1 = g.1 in cc)
  ]
]

chunk_fail : (bytes back : List ℕ) (kind : SmfKind) → ChunkFault bytes back kind → chunk_at bytes ≡ stop back kind
unfolding chunk_at
chunk_fail bytes back kind (inl (few, is, k)) = rw (lt-ltb (length bytes) 8 few) (same_stop back bytes kind MissingTrack is k)
chunk_fail bytes back kind (inr (name, size, after, head, (few, is, k))) =
    let r = head_reads bytes name size after head in
    rw (le-ltb (length bytes) 8 r.long, r.size_is, r.after_is, lt-ltb (length after) size few) (same_stop back [] kind Truncated is k)

-- ---- the next track

at_once : (bytes back : List ℕ) (kind : SmfKind) → ChunkFault bytes back kind → NextFault bytes back kind
at_once bytes back kind r = record { others = []; skipped = []; rest = bytes; are_skipped = refl; parts = refl; fault = inl r }

one_skipped : (bytes front : List ℕ) (c : Chunk × List ℕ) (back : List ℕ) (kind : SmfKind) → IsChunk front c.0.name c.0.content → (c.0.name ≡ 0x4d54726b → ⊥) → bytes ≡ front ++ c.1
    → NextFault c.1 back kind → NextFault bytes back kind
one_skipped bytes front c back kind is isnt parts n = record {
  others = (c.0.name, c.0.content) ∷ n.others;
  skipped = front ++ n.skipped;
  rest = n.rest;
  are_skipped = (front, n.skipped, is, isnt, refl, n.are_skipped);
  parts = parts ∙ ap (λ r. front ++ r) n.parts ∙ sym (append_assoc front n.skipped n.rest);
  fault = n.fault;
}

content_broken : (turns : ℕ) (bytes : List ℕ) (e : Stop) → length bytes < turns → content_from turns bytes ≡ Err e → Fails (NextFault bytes) e
unfolding content_from
content_broken zero bytes e lt h = absurd (omega (arith, lt))
content_broken (suc turns) bytes e lt h = elim (bind_err (chunk_at bytes) _ e h) [
  | inl d ↦ weaker (ChunkFault bytes) (NextFault bytes) e (λ back kind r. at_once bytes back kind r) (chunk_broken bytes e d)
  | inr c ↦
      let t = chunk_takes bytes c.0 c.1 in
      let less = chunk_shorter bytes c.0 c.1 in
      elim (chosen (eqb c.0.0.name 0x4d54726b) (Ok (c.0.0.content, c.0.1)) (content_from turns c.0.1) (Err e) c.2) [
        | inl u ↦ absurd (let n1 = u.1 in cc)
        | inr u ↦ weaker (NextFault c.0.1) (NextFault bytes) e (λ back kind r. one_skipped bytes t.0 c.0 back kind t.1 (eqb-false c.0.0.name 0x4d54726b u.0) t.2 r)
            (content_broken turns c.0.1 e (omega (arith, less, lt)) u.1)
      ]
]

sound_broken : (x : List ℕ × List ℕ) (o : Option Stop) (e : Stop) → sound x o ≡ Err e → (d : Stop) × (o ≡ Some d) × (e ≡ record { left = d.left + length x.1; kind = d.kind })
sound_broken x None e h = absurd cc
sound_broken x (Some d) e h = (d, refl, let s : Stop = record { left = d.left + length x.1; kind = d.kind } in sym (err_is {A = List ℕ × List ℕ} s e h))

pub track_at_broken : (bytes : List ℕ) (e : Stop) → track_at bytes ≡ Err e → Fails (NextFault bytes) e
unfolding track_at next_content
track_at_broken bytes e h = elim (bind_err (content_from (suc (length bytes)) bytes) (λ y. sound y (track_in y.0).fault) e h) [
  | inl d ↦ content_broken (suc (length bytes)) bytes e (omega arith) d
  | inr x ↦
      let t = content_takes (suc (length bytes)) bytes x.0 x.1 in
      let s = sound_broken x.0 (track_in x.0.0).fault e x.2 in
      let f = track_broken x.0.0 s.0 s.1 in
      let is = t.1 in
      subst (Fails (NextFault bytes)) (sym s.2) (
        f.0 ++ x.0.1,
        record {
          others = is.others;
          skipped = is.skipped;
          rest = is.chunk ++ x.0.1;
          are_skipped = is.are_skipped;
          parts = t.2 ∙ ap (λ r. r ++ x.0.1) is.parts ∙ append_assoc is.skipped is.chunk x.0.1;
          fault = inr (is.chunk, x.0.0, x.0.1, f.0, is.is_chunk, refl, f.1, refl);
        },
        omega (arith, f.2, length-append f.0 x.0.1),
      )
]

sound_fail : (content after inside back : List ℕ) (kind : SmfKind) → (track_in content).fault ≡ stopped inside kind → back ≡ inside ++ after → sound (content, after) (track_in content).fault ≡ stop back kind
sound_fail content after inside back kind is parts =
    let sum : length inside + length after ≡ length back = omega (arith, ap length parts, length-append inside after) in
    ap (sound (content, after)) is ∙ ap (λ (n : ℕ). let d : Stop = record { left = n; kind = kind } in failing {A = List ℕ × List ℕ} d) sum

next_fail : (rest back : List ℕ) (kind : SmfKind)
    → (ChunkFault rest back kind ⊎ ((chunk : List ℕ) × (content : List ℕ) × (after : List ℕ) × (inside : List ℕ) × IsChunk chunk 0x4d54726b content × (rest ≡ chunk ++ after) × TrackFault 0 0 content inside kind × (back ≡ inside ++ after)))
    → track_at rest ≡ stop back kind
unfolding track_at
next_fail rest back kind (inl r) = rw (stops rest _ (chunk_fail rest back kind r)) refl
next_fail rest back kind (inr (chunk, content, after, inside, is, parts, t, b)) =
    let found : next_content rest ≡ Ok (content, after) = ap next_content parts ∙ takes_it (chunk ++ after) _ (chunk_again chunk after 0x4d54726b content is) refl in
    rw found (sound_fail content after inside back kind (track_fail 0 0 content inside kind none_runs t) b)

same_next : (bytes rest : List ℕ) → next_content bytes ≡ next_content rest → track_at bytes ≡ track_at rest
unfolding track_at
same_next bytes rest is = ap (λ r. r >>= λ x. sound x (track_in x.0).fault) is

pub track_at_fail : (bytes back : List ℕ) (kind : SmfKind) → NextFault bytes back kind → track_at bytes ≡ stop back kind
track_at_fail bytes back kind n =
    same_next bytes n.rest (ap next_content n.parts ∙ skipped_again n.others n.skipped n.rest n.are_skipped) ∙ next_fail n.rest back kind n.fault

-- ---- tracks

pub tracks_broken : (count : ℕ) (bytes : List ℕ) (e : Stop) → tracks_at count bytes ≡ Err e → Fails (TracksFault count bytes) e
unfolding tracks_at
tracks_broken zero bytes e h = absurd cc
tracks_broken (suc n) bytes e h = elim (bind_err (track_at bytes) _ e h) [
  | inl d ↦ weaker (NextFault bytes) (TracksFault (suc n) bytes) e
      (λ back kind r. record { tracks = []; front = []; rest = bytes; are_tracks = refl; fewer = omega arith; parts = refl; next = r }) (track_at_broken bytes e d)
  | inr x ↦
      let t = track_at_takes bytes x.0 x.1 in
      elim (bind_err (tracks_at n x.0.1) (λ others. Ok (x.0.0 ∷ others.0, others.1)) e x.2) [
        | inl d ↦ weaker (TracksFault n x.0.1) (TracksFault (suc n) bytes) e (λ back kind (r : TracksFault n x.0.1 back kind). record {
          tracks = events_of x.0.0 ∷ r.tracks;
          front = t.0.0 ++ r.front;
          rest = r.rest;
          are_tracks = (t.0.0, r.front, x.0.0, t.0.1, t.1, refl, r.are_tracks);
          fewer = omega (arith, r.fewer);
          parts = t.0.2 ∙ ap (λ s. t.0.0 ++ s) r.parts ∙ sym (append_assoc t.0.0 r.front r.rest);
          next = r.next;
        }) (tracks_broken n x.0.1 e d)
        | inr y ↦ absurd (let n1 = y.2 in cc)
      ]
]

tracks_pass : (ts : List (List Timed)) (count : ℕ) (front rest back : List ℕ) (kind : SmfKind) → AreTracks ts front → length ts < count → track_at rest ≡ stop back kind → tracks_at count (front ++ rest) ≡ stop back kind
unfolding tracks_at
tracks_pass ts zero front rest back kind are lt h = absurd (omega (arith, lt))
tracks_pass [] (suc n) front rest back kind are lt h = ap (λ f. tracks_at (suc n) (f ++ rest)) are ∙ rw h refl
tracks_pass (es ∷ ts) (suc n) front rest back kind (one, others, content, is, spelled, parts, more) lt h =
    let t = track_again 0 0 content es none_runs spelled in
    let read = track_at_again one (others ++ rest) content is (ap (λ r. r.fault) t) in
    ap (λ f. tracks_at (suc n) (f ++ rest)) parts ∙ ap (tracks_at (suc n)) (append_assoc one others rest) ∙ rw (read, tracks_pass ts n others rest back kind more (omega (arith, lt)) h) refl

pub tracks_fail : (count : ℕ) (bytes back : List ℕ) (kind : SmfKind) → TracksFault count bytes back kind → tracks_at count bytes ≡ stop back kind
tracks_fail count bytes back kind t = ap (tracks_at count) t.parts ∙ tracks_pass t.tracks count t.front t.rest back kind t.are_tracks t.fewer (track_at_fail t.rest back kind t.next)

-- ---- the header

not_so : (b : Bool) → not b ≡ true → b ≡ false
not_so true h = absurd cc
not_so false h = refl

few_tracks : (format tracks : ℕ) → (eqb tracks 0 || (eqb format 0 && not (eqb tracks 1))) ≡ true → (tracks ≡ 0) ⊎ ((format ≡ 0) × (tracks ≡ 1 → ⊥))
few_tracks format tracks h = elim (cases_eq tracks 0) [
  | inl is ↦ inl is
  | inr n1 ↦ elim (cases_eq format 0) [
    | inl zero_is ↦ inr (zero_is, λ one. let off : (eqb tracks 0 || (eqb format 0 && not (eqb tracks 1))) ≡ false = or_from (eqb tracks 0) _ (ne_eqb tracks 0 n1) (and_right (eqb format 0) _ (ap not (eq-eqb tracks 1 one))) in cc)
    | inr n2 ↦ absurd (let off : (eqb tracks 0 || (eqb format 0 && not (eqb tracks 1))) ≡ false = or_from (eqb tracks 0) _ (ne_eqb tracks 0 n1) (and_left (eqb format 0) _ (ne_eqb format 0 n2)) in cc)
  ]
]

some_tracks : (format tracks : ℕ) → (tracks ≡ 0) ⊎ ((format ≡ 0) × (tracks ≡ 1 → ⊥)) → (eqb tracks 0 || (eqb format 0 && not (eqb tracks 1))) ≡ true
some_tracks format tracks (inl is) = rw (eq-eqb tracks 0 is) refl
some_tracks format tracks (inr (is, n1)) = elim (cases_Bool (eqb tracks 0)) [
  | inl t ↦ rw t refl
  | inr f ↦ rw (f, eq-eqb format 0 is, ne_eqb tracks 1 n1) refl
]

abbrev FieldsRow : ℕ → ℕ → List ℕ → List ℕ → List ℕ → SmfKind → Type 0
FieldsRow format tracks bytes behind back kind = ((format ≡ 2) × (back ≡ bytes) × (kind ≡ Format2))
    ⊎ (((2 < format) × (back ≡ bytes) × (kind ≡ FormatNumber))
    ⊎ (((format ≤ 1) × ((tracks ≡ 0) ⊎ ((format ≡ 0) × (tracks ≡ 1 → ⊥))) × (back ≡ behind) × (kind ≡ BadHeader))
    ⊎ ((format ≡ 1) × (1024 < tracks) × (back ≡ behind) × (kind ≡ TooManyTracks))))

row_of : (bytes back : List ℕ) (kind : SmfKind) → 6 ≤ length bytes → FieldsRow (number w16 bytes) (number w16 (drop 2 bytes)) bytes (drop 2 bytes) back kind → FieldsFault bytes back kind
row_of bytes back kind six r = record {
  format = number w16 bytes;
  tracks = number w16 (drop 2 bytes);
  format_bytes = take 2 bytes;
  tracks_bytes = take 2 (drop 2 bytes);
  more = drop 2 (drop 2 bytes);
  is_format = number_takes w16 bytes (omega (arith, six));
  is_tracks = number_takes w16 (drop 2 bytes) (omega (arith, six, length-drop 2 bytes));
  parts = sym (ap (λ s. take 2 bytes ++ s) (take-append-drop 2 (drop 2 bytes)) ∙ take-append-drop 2 bytes);
  fault = subst (λ b. FieldsRow (number w16 bytes) (number w16 (drop 2 bytes)) bytes b back kind) (sym (take-append-drop 2 (drop 2 bytes))) r;
}

is_one : (format tracks : ℕ) → format ≤ 1 → 1024 < tracks → (eqb tracks 0 || (eqb format 0 && not (eqb tracks 1))) ≡ false → format ≡ 1
is_one format tracks low many h = elim (cases_eq format 0) [
  | inl is ↦ absurd (let on = some_tracks format tracks (inr (is, λ one. omega (arith, one, many))) in cc)
  | inr n1 ↦ omega (arith, low, n1)
]

fields_broken : (size : ℕ) (bytes : List ℕ) (e : Stop) → 6 ≤ length bytes → fields_at size bytes ≡ Err e → Fails (FieldsFault bytes) e
unfolding fields_at
fields_broken size bytes e six h =
    let format = number w16 bytes in
    let tracks = number w16 (drop 2 bytes) in
    elim (chosen (eqb format 2) _ _ (Err e) h) [
      | inl t ↦ fails_by (FieldsFault bytes) bytes Format2 e (row_of bytes bytes Format2 six (inl (eqb-true format 2 t.0, refl, refl))) t.1
      | inr f ↦ elim (chosen (ltb 2 format) _ _ (Err e) f.1) [
        | inl t ↦ fails_by (FieldsFault bytes) bytes FormatNumber e (row_of bytes bytes FormatNumber six (inr (inl (ltb-true 2 format t.0, refl, refl)))) t.1
        | inr g ↦
            let n1 = eqb-false format 2 f.0 in
            let l1 = ltb-false 2 format g.0 in
            let low : format ≤ 1 = omega (arith, n1, l1) in
            elim (chosen (eqb tracks 0 || (eqb format 0 && not (eqb tracks 1))) _ _ (Err e) g.1) [
              | inl t ↦ fails_by (FieldsFault bytes) (drop 2 bytes) BadHeader e (row_of bytes (drop 2 bytes) BadHeader six (inr (inr (inl (low, few_tracks format tracks t.0, refl, refl))))) t.1
              | inr j ↦ elim (chosen (ltb 1024 tracks) _ _ (Err e) j.1) [
                | inl t ↦
                    let many = ltb-true 1024 tracks t.0 in
                    fails_by (FieldsFault bytes) (drop 2 bytes) TooManyTracks e (row_of bytes (drop 2 bytes) TooManyTracks six (inr (inr (inr (is_one format tracks low many j.0, many, refl, refl))))) t.1
                | inr k ↦ absurd (let n2 = k.1 in cc)
              ]
            ]
      ]
    ]

row_fails : (size : ℕ) (bytes back : List ℕ) (kind : SmfKind) (format tracks : ℕ) (behind : List ℕ) → number w16 bytes ≡ format → drop 2 bytes ≡ behind → number w16 (drop 2 bytes) ≡ tracks
    → FieldsRow format tracks bytes behind back kind → fields_at size bytes ≡ stop back kind
unfolding fields_at
row_fails size bytes back kind format tracks behind f d t (inl (is, b, k)) = rw (f, eq-eqb format 2 is) (same_stop back bytes kind Format2 b k)
row_fails size bytes back kind format tracks behind f d t (inr (inl (high, b, k))) =
    rw (f, ne_eqb format 2 (λ z. omega (arith, z, high)), lt-ltb 2 format high) (same_stop back bytes kind FormatNumber b k)
row_fails size bytes back kind format tracks behind f d t (inr (inr (inl (low, bad, b, k)))) =
    rw (f, t, ne_eqb format 2 (λ z. omega (arith, z, low)), le-ltb 2 format (omega (arith, low)), some_tracks format tracks bad) (same_stop back (drop 2 bytes) kind BadHeader (b ∙ sym d) k)
row_fails size bytes back kind format tracks behind f d t (inr (inr (inr (one, many, b, k)))) =
    let fine : (eqb tracks 0 || (eqb format 0 && not (eqb tracks 1))) ≡ false =
    or_from (eqb tracks 0) _ (ne_eqb tracks 0 (λ z. omega (arith, z, many))) (and_left (eqb format 0) _ (ne_eqb format 0 (λ z. omega (arith, z, one)))) in
    rw (f, t, ne_eqb format 2 (λ z. omega (arith, z, one)), le-ltb 2 format (omega (arith, one)), fine, lt-ltb 1024 tracks many) (same_stop back (drop 2 bytes) kind TooManyTracks (b ∙ sym d) k)

fields_fail : (size : ℕ) (bytes back : List ℕ) (kind : SmfKind) → FieldsFault bytes back kind → fields_at size bytes ≡ stop back kind
fields_fail size bytes back kind f =
    let a = f.format_bytes in
    let b = f.tracks_bytes in
    let behind : drop 2 bytes ≡ b ++ f.more = ap (drop 2) f.parts ∙ drop_at a (b ++ f.more) 2 f.is_format.len in
    row_fails size bytes back kind f.format f.tracks (b ++ f.more) (ap (number w16) f.parts ∙ number_again w16 a (b ++ f.more) f.format f.is_format) behind
    (ap (number w16) behind ∙ number_again w16 b f.more f.tracks f.is_tracks) f.fault

pub header_broken : (bytes : List ℕ) (e : Stop) → header_at bytes ≡ Err e → Fails (HeaderFault bytes) e
unfolding header_at
header_broken bytes e h =
    let after = drop 4 (drop 4 bytes) in
    let size = number w32 (drop 4 bytes) in
    elim (chosen (ltb (length bytes) 4) _ _ (Err e) h) [
      | inl t ↦ fails_by (HeaderFault bytes) bytes NotMidi e (inl (ltb-true (length bytes) 4 t.0, refl, refl)) t.1
      | inr f ↦
          let four : 4 ≤ length bytes = ltb-false (length bytes) 4 f.0 in
          let first = number_takes w32 bytes four in
          let cut : bytes ≡ take 4 bytes ++ drop 4 bytes = sym (take-append-drop 4 bytes) in
          elim (chosen (not (eqb (number w32 bytes) 0x4d546864)) _ _ (Err e) f.1) [
            | inl t ↦ fails_by (HeaderFault bytes) bytes NotMidi e
                (inr (inl (number w32 bytes, take 4 bytes, drop 4 bytes, first, cut, inl (eqb-false (number w32 bytes) 0x4d546864 (not_so (eqb (number w32 bytes) 0x4d546864) t.0), refl, refl)))) t.1
            | inr g ↦
                let name : number w32 bytes ≡ 0x4d546864 = eqb-true (number w32 bytes) 0x4d546864 (not-false (eqb (number w32 bytes) 0x4d546864) g.0) in
                elim (chosen (ltb (length bytes) 8) _ _ (Err e) g.1) [
                  | inl t ↦
                      let few = ltb-true (length bytes) 8 t.0 in
                      fails_by (HeaderFault bytes) [] Truncated e (inr (inl (number w32 bytes, take 4 bytes, drop 4 bytes, first, cut, inr (name, omega (arith, few, length-drop 4 bytes, four), refl, refl)))) t.1
                  | inr j ↦
                      let head : IsHead bytes 0x4d546864 size after = subst (λ (n : ℕ). IsHead bytes n size after) name (head_takes bytes (ltb-false (length bytes) 8 j.0)) in
                      elim (chosen (ltb size 6) _ _ (Err e) j.1) [
                        | inl t ↦ fails_by (HeaderFault bytes) (drop 4 bytes) BadHeader e (inr (inr (size, after, head, inl (ltb-true size 6 t.0, refl, refl)))) t.1
                        | inr k ↦
                            let six = ltb-false size 6 k.0 in
                            elim (chosen (ltb (length after) size) _ _ (Err e) k.1) [
                              | inl t ↦ fails_by (HeaderFault bytes) [] Truncated e (inr (inr (size, after, head, inr (inl (six, (ltb-true (length after) size t.0, refl, refl)))))) t.1
                              | inr m ↦
                                  let room = ltb-false (length after) size m.0 in
                                  weaker (FieldsFault after) (HeaderFault bytes) e (λ back kind r. inr (inr (size, after, head, inr (inr (six, room, r))))) (fields_broken size after e (omega (arith, six, room)) m.1)
                            ]
                      ]
                ]
          ]
    ]

first_fails : (bytes back : List ℕ) (kind : SmfKind) (name : ℕ) → 4 ≤ length bytes → number w32 bytes ≡ name
    → ((name ≡ 0x4d546864 → ⊥) × (back ≡ bytes) × (kind ≡ NotMidi)) ⊎ ((name ≡ 0x4d546864) × (length bytes < 8) × (back ≡ []) × (kind ≡ Truncated)) → header_at bytes ≡ stop back kind
unfolding header_at
first_fails bytes back kind name four is (inl (n1, b, k)) = rw (le-ltb (length bytes) 4 four, is, ne_eqb name 0x4d546864 n1) (same_stop back bytes kind NotMidi b k)
first_fails bytes back kind name four is (inr (same, few, b, k)) = rw (le-ltb (length bytes) 4 four, is, same, lt-ltb (length bytes) 8 few) (same_stop back [] kind Truncated b k)

head_fails : (bytes back : List ℕ) (kind : SmfKind) (size : ℕ) (after : List ℕ) → HeadReads bytes 0x4d546864 size after
    → ((size < 6) × (back ≡ drop 4 bytes) × (kind ≡ BadHeader)) ⊎ (((6 ≤ size) × BytesFault size after back kind) ⊎ ((6 ≤ size) × (size ≤ length after) × FieldsFault after back kind)) → header_at bytes ≡ stop back kind
unfolding header_at
head_fails bytes back kind size after r (inl (few, b, k)) =
    rw (le-ltb (length bytes) 4 (omega (arith, r.long)), r.name_is, le-ltb (length bytes) 8 r.long, r.size_is, lt-ltb size 6 few) (same_stop back (drop 4 bytes) kind BadHeader b k)
head_fails bytes back kind size after r (inr (inl (six, (few, b, k)))) =
    rw (le-ltb (length bytes) 4 (omega (arith, r.long)), r.name_is, le-ltb (length bytes) 8 r.long, r.size_is, r.after_is, le-ltb size 6 six, lt-ltb (length after) size few) (same_stop back [] kind Truncated b k)
head_fails bytes back kind size after r (inr (inr (six, room, f))) =
    rw (le-ltb (length bytes) 4 (omega (arith, r.long)), r.name_is, le-ltb (length bytes) 8 r.long, r.size_is, r.after_is, le-ltb size 6 six, le-ltb (length after) size room) (fields_fail size after back kind f)

few_fails : (bytes back : List ℕ) (kind : SmfKind) → length bytes < 4 → back ≡ bytes → kind ≡ NotMidi → header_at bytes ≡ stop back kind
unfolding header_at
few_fails bytes back kind few is k = rw (lt-ltb (length bytes) 4 few) (same_stop back bytes kind NotMidi is k)

pub header_fail : (bytes back : List ℕ) (kind : SmfKind) → HeaderFault bytes back kind → header_at bytes ≡ stop back kind
header_fail bytes back kind (inl (few, is, k)) = few_fails bytes back kind few is k
header_fail bytes back kind (inr (inl (name, first, rest, is, parts, how))) =
    let four : 4 ≤ length bytes = omega (arith, ap length parts, length-append first rest, is.len) in
    first_fails bytes back kind name four (ap (number w32) parts ∙ number_again w32 first rest name is) (elim how [
      | inl a ↦ inl a
      | inr a ↦ inr (a.0, omega (arith, a.1, ap length parts, length-append first rest, is.len), a.2, a.3)
    ])
header_fail bytes back kind (inr (inr (size, after, head, how))) = head_fails bytes back kind size after (head_reads bytes 0x4d546864 size after head) how

-- ---- the file

pub all_broken : (bytes : List ℕ) (e : Stop) → all_at bytes ≡ Err e
    → Fails (FileFault bytes) e
unfolding all_at
all_broken bytes e h = elim (bind_err (header_at bytes) _ e h) [
  | inl d ↦ weaker (HeaderFault bytes) (FileFault bytes) e (λ back kind r. inl r) (header_broken bytes e d)
  | inr x ↦
      let p = header_takes bytes x.0 x.1 in
      elim (bind_err (tracks_at x.0.0.tracks x.0.1) _ e x.2) [
        | inl d ↦ weaker (TracksFault x.0.0.tracks x.0.1) (FileFault bytes) e (λ back kind r. inr (p.header, p.fields, x.0.1, x.0.0.format, x.0.0.tracks, x.0.0.division, p.is_header, p.are_fields, p.parts, r)) (tracks_broken x.0.0.tracks x.0.1 e d)
        | inr y ↦ absurd (let n1 = y.2 in cc)
      ]
]

all_fail : (bytes back : List ℕ) (kind : SmfKind)
    → FileFault bytes back kind
    → all_at bytes ≡ stop back kind
unfolding all_at
all_fail bytes back kind (inl r) = rw (header_fail bytes back kind r) refl
all_fail bytes back kind (inr (header, fields, rest, format, tracks, division, is, are, parts, r)) =
    let read : header_at bytes ≡ Ok (record { format = format; tracks = tracks; division = division }, rest) = ap header_at parts ∙ header_again header fields rest format tracks division is are in
    rw (read, tracks_fail tracks rest back kind r) refl

started : (n : ℕ) (r : Result MidiFile Stop) (offset : ℕ) (kind : SmfKind) → from_start n r ≡ Err (offset, kind) → (e : Stop) × (r ≡ Err e) × (n - e.left ≡ offset) × (e.kind ≡ kind)
started n (Ok f) offset kind h = absurd cc
started n (Err e) offset kind h =
    let at : ℕ × SmfKind = (n - e.left, e.kind) in
    let wanted : ℕ × SmfKind = (offset, kind) in
    let same : at ≡ wanted = cc in
    (e, refl, ap (λ p. p.0) same, ap (λ p. p.1) same)

-- what is read with a fault has it as its first
pub fault_takes : (bytes : List ℕ) (offset : ℕ) (kind : SmfKind) → file_at bytes ≡ Err (offset, kind) → FirstFault bytes offset kind
unfolding file_at
fault_takes bytes offset kind h =
    let s = started (length bytes) (all_at bytes) offset kind h in
    let f = all_broken bytes s.0 s.1 in
    subst (FirstFault bytes offset) s.3 (record { back = f.0; place = sym s.2 ∙ ap (λ n. length bytes - n) f.2; fault = f.1 })

-- what has a first fault is read with it
pub fault_again : (bytes : List ℕ) (offset : ℕ) (kind : SmfKind) → FirstFault bytes offset kind → file_at bytes ≡ Err (offset, kind)
unfolding file_at
fault_again bytes offset kind f =
    let read : file_at bytes ≡ Err (length bytes - length f.back, kind) = ap (from_start (length bytes)) (all_fail bytes f.back kind f.fault) in
    read ∙ ap (λ (n : ℕ). let r : Result MidiFile (ℕ × SmfKind) = Err (n, kind) in r) (sym f.place)

pair_is : (at : ℕ) (kind : SmfKind) (at2 : ℕ) (kind2 : SmfKind) → (let r : Result MidiFile (ℕ × SmfKind) = Err (at, kind) in r) ≡ Err (at2, kind2) → (at ≡ at2) × (kind ≡ kind2)
pair_is at kind at2 kind2 h =
    let one : ℕ × SmfKind = (at, kind) in
    let two : ℕ × SmfKind = (at2, kind2) in
    let same : one ≡ two = cc in
    (ap (λ p. p.0) same, ap (λ p. p.1) same)

pub one_fault : (bytes : List ℕ) (at : ℕ) (kind : SmfKind) (at2 : ℕ) (kind2 : SmfKind) → FirstFault bytes at kind → FirstFault bytes at2 kind2 → (at ≡ at2) × (kind ≡ kind2)
one_fault bytes at kind at2 kind2 f g = pair_is at kind at2 kind2 (sym (fault_again bytes at kind f) ∙ fault_again bytes at2 kind2 g)

which : (bytes : List ℕ) (r : Result MidiFile (ℕ × SmfKind)) → file_at bytes ≡ r → ((file : MidiFile) × Spells bytes file) ⊎ ((offset : ℕ) × (kind : SmfKind) × FirstFault bytes offset kind)
which bytes (Ok file) e = inl (file, file_takes bytes file e)
which bytes (Err (offset, kind)) e = inr (offset, kind, fault_takes bytes offset kind e)

pub file_or_fault : (bytes : List ℕ) → ((file : MidiFile) × Spells bytes file) ⊎ ((offset : ℕ) × (kind : SmfKind) × FirstFault bytes offset kind)
file_or_fault bytes = which bytes (file_at bytes) refl

pub never_both : (bytes : List ℕ) (file : MidiFile) (offset : ℕ) (kind : SmfKind) → Spells bytes file → FirstFault bytes offset kind → ⊥
never_both bytes file offset kind is f = let a = file_again bytes file is in let b = fault_again bytes offset kind f in cc
