-- A place where a chunk should begin, and fewer than eight bytes are left.
use Rattle.std.proofs.Common.{◌≡◌, ℕ, zero, suc, ◌+◌, ◌<◌, List, [], ◌∷◌, ◌++◌, length, refl, sym, ap, subst, ◌∙◌, inl, inr, arith, append_assoc}
use Rattle.std.proofs.lemmas.List.{append-nil, length-append}
use Rattle.midi_model.specs.declared.fault.SmfKind.{SmfKind}
use Rattle.midi_model.specs.declared.fault.SmfKind.TheVariants.{MissingTrack}
use Rattle.midi_model.specs.declared.numbers.TheConstants.{MTRK}
use Rattle.mt_base.specs.Midi.{Timed}
use Rattle.midi_model.specs.Spelling.{AreSkipped, AreTracks}
use Rattle.midi_model.specs.Faults.{DigitsFault, DataFault, MessageFault, BytesFault, ContentFault, MetaFault, BodyFault, EventFault, TrackFault, FieldsFault, HeaderFault, FirstFault, AreChunks, IsChunkPlace}

-- ---- no other fault is that of a missing chunk

abbrev Other : SmfKind → Type 0
Other kind = kind ≡ MissingTrack → ⊥

in_digits : (turns : ℕ) (bytes back : List ℕ) (kind : SmfKind) → DigitsFault turns bytes back kind → Other kind
in_digits zero [] back kind h m = let k = h.1 in cc
in_digits (suc turns) [] back kind h m = let k = h.1 in cc
in_digits zero (b ∷ bytes) back kind h m = let k = h.2 in cc
in_digits (suc turns) (b ∷ bytes) back kind h m = in_digits turns bytes back kind h.1 m

in_data : (bytes back : List ℕ) (kind : SmfKind) → DataFault bytes back kind → Other kind
in_data [] back kind h m = let k = h.1 in cc
in_data (b ∷ bytes) back kind h m = let k = h.2 in cc

in_message : (status : ℕ) (bytes back : List ℕ) (kind : SmfKind) → MessageFault status bytes back kind → Other kind
in_message status bytes back kind (inl h) m = in_data bytes back kind h m
in_message status bytes back kind (inr (d, rest, is, low, long, h)) m = in_data rest back kind h m

in_bytes : (n : ℕ) (bytes back : List ℕ) (kind : SmfKind) → BytesFault n bytes back kind → Other kind
in_bytes n bytes back kind h m = let k = h.2 in cc

in_content : (bytes back : List ℕ) (kind : SmfKind) → ContentFault bytes back kind → Other kind
in_content bytes back kind (inl q) m = in_digits 3 bytes back kind q m
in_content bytes back kind (inr (len, n, rest, q, parts, h)) m = in_bytes n rest back kind h m

in_meta : (bytes back : List ℕ) (kind : SmfKind) → MetaFault bytes back kind → Other kind
in_meta [] back kind h m = let k = h.1 in cc
in_meta (t ∷ bytes) back kind (inl q) m = in_digits 3 bytes back kind q m
in_meta (t ∷ bytes) back kind (inr (len, n, rest, q, parts, inl h)) m = let k = h.3 in cc
in_meta (t ∷ bytes) back kind (inr (len, n, rest, q, parts, inr h)) m = in_bytes n rest back kind h.1 m

in_body : (running : ℕ) (bytes back : List ℕ) (kind : SmfKind) → BodyFault running bytes back kind → Other kind
in_body running [] back kind h m = let k = h.1 in cc
in_body running (b ∷ bytes) back kind (inl h) m = let k = h.3 in cc
in_body running (b ∷ bytes) back kind (inr (inl h)) m = in_message running (b ∷ bytes) back kind h.2 m
in_body running (b ∷ bytes) back kind (inr (inr (inl h))) m = in_message b bytes back kind h.2 m
in_body running (b ∷ bytes) back kind (inr (inr (inr (inl h)))) m = in_content bytes back kind h.1 m
in_body running (b ∷ bytes) back kind (inr (inr (inr (inr (inl h))))) m = in_meta bytes back kind h.1 m
in_body running (b ∷ bytes) back kind (inr (inr (inr (inr (inr h))))) m = let k = h.4 in cc

in_event : (running before : ℕ) (bytes back : List ℕ) (kind : SmfKind) → EventFault running before bytes back kind → Other kind
in_event running before bytes back kind (inl q) m = in_digits 3 bytes back kind q m
in_event running before bytes back kind (inr (delta, distance, rest, q, parts, inl h)) m = let k = h.2 in cc
in_event running before bytes back kind (inr (delta, distance, rest, q, parts, inr h)) m = in_body running rest back kind h.1 m

in_track : (content back : List ℕ) (kind : SmfKind) → TrackFault 0 0 content back kind → Other kind
in_track content back kind t m = elim t.fault [
  | inl h ↦ let k = h.2 in cc
  | inr h ↦ in_event t.after t.tick t.rest back kind h.1 m
]

in_fields : (bytes back : List ℕ) (kind : SmfKind) → FieldsFault bytes back kind → Other kind
in_fields bytes back kind f m = elim f.fault [
  | inl h ↦ let k = h.2 in cc
  | inr (inl h) ↦ let k = h.2 in cc
  | inr (inr (inl h)) ↦ let k = h.3 in cc
  | inr (inr (inr h)) ↦ let k = h.3 in cc
]

in_header : (bytes back : List ℕ) (kind : SmfKind) → HeaderFault bytes back kind → Other kind
in_header bytes back kind (inl h) m = let k = h.2 in cc
in_header bytes back kind (inr (inl (name, first, rest, num, parts, inl h))) m = let k = h.2 in cc
in_header bytes back kind (inr (inl (name, first, rest, num, parts, inr h))) m = let k = h.3 in cc
in_header bytes back kind (inr (inr (size, after, head, inl h))) m = let k = h.2 in cc
in_header bytes back kind (inr (inr (size, after, head, inr (inl h)))) m = in_bytes size after back kind h.1 m
in_header bytes back kind (inr (inr (size, after, head, inr (inr h)))) m = in_fields after back kind h.2 m

-- ---- the chunks before it

skipped_chunks : (cs : List (ℕ × List ℕ)) (bytes : List ℕ) → AreSkipped cs bytes → AreChunks cs bytes
skipped_chunks [] bytes h = h
skipped_chunks (c ∷ cs) bytes (front, rest, is, other, parts, more) = (front, rest, is, parts, skipped_chunks cs rest more)

append_chunks : (cs ds : List (ℕ × List ℕ)) (xs ys : List ℕ) → AreChunks cs xs → AreChunks ds ys → AreChunks (cs ++ ds) (xs ++ ys)
append_chunks [] ds xs ys h k = subst (λ (l : List ℕ). AreChunks ds (l ++ ys)) (sym h) k
append_chunks (c ∷ cs) ds xs ys (front, rest, is, parts, more) k =
    (front, rest ++ ys, is, ap (λ (l : List ℕ). l ++ ys) parts ∙ append_assoc front rest ys, append_chunks cs ds rest ys more k)

abbrev Chunks : List ℕ → Type 0
Chunks bytes = (cs : List (ℕ × List ℕ)) × AreChunks cs bytes

track_chunks : (ts : List (List Timed)) (bytes : List ℕ) → AreTracks ts bytes → Chunks bytes
track_chunks [] bytes h = ([], h)
track_chunks (es ∷ ts) bytes (front, rest, content, chunk, track, parts, more) =
    let others = track_chunks ts rest more in
    let last : List (ℕ × List ℕ) = (MTRK, content) ∷ [] in
    let one : AreChunks (chunk.others ++ last) front = subst (AreChunks (chunk.others ++ last)) (sym chunk.parts)
    (append_chunks chunk.others last chunk.skipped chunk.chunk (skipped_chunks chunk.others chunk.skipped chunk.are_skipped) (chunk.chunk, [], chunk.is_chunk, sym (append-nil chunk.chunk), refl)) in
    ((chunk.others ++ last) ++ others.0, subst (AreChunks ((chunk.others ++ last) ++ others.0)) (sym parts) (append_chunks (chunk.others ++ last) others.0 front rest one others.1))

-- ---- the place

abbrev Placed : List ℕ → ℕ → Type 0
Placed bytes offset = IsChunkPlace bytes offset × (length bytes < offset + 8)

pub missing_place : (bytes : List ℕ) (offset : ℕ) (kind : SmfKind) → FirstFault bytes offset kind → kind ≡ MissingTrack → Placed bytes offset
missing_place bytes offset kind f m = elim f.fault [
  | inl h ↦ absurd (in_header bytes f.back kind h m)
  | inr (header, fields, rest, format, tracks, division, is_header, are_fields, parts, t) ↦ elim t.next.fault [
    | inl (inl h) ↦
        let n = t.next in
        let before = track_chunks t.tracks t.front t.are_tracks in
        let front = t.front ++ n.skipped in
        let whole : bytes ≡ header ++ (front ++ n.rest) =
        parts ∙ ap (λ (l : List ℕ). header ++ l) (t.parts ∙ ap (λ (l : List ℕ). t.front ++ l) n.parts ∙ sym (append_assoc t.front n.skipped n.rest)) in
        let sum = ap (λ (l : List ℕ). length l) whole in
        let back_is = ap (λ (l : List ℕ). length l) h.1 in
        let is : offset ≡ length header + length front = omega (arith, f.place, back_is, sum, length-append header (front ++ n.rest), length-append front n.rest) in (
          record {
            header = header;
            fields = fields;
            chunks = before.0 ++ n.others;
            front = front;
            rest = n.rest;
            is_header = is_header;
            are_chunks = append_chunks before.0 n.others t.front n.skipped before.1 (skipped_chunks n.others n.skipped n.are_skipped);
            parts = whole;
            place = is;
          },
          omega (arith, is, sum, h.0, length-append header (front ++ n.rest), length-append front n.rest),
        )
    | inl (inr (name, size, after, head, h)) ↦ absurd (in_bytes size after f.back kind h m)
    | inr (chunk, content, after, inside, is, within, track, back_is) ↦ absurd (in_track content inside kind track m)
  ]
]
