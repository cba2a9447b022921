-- The bytes from a fault on are the end of all bytes.
use Rattle.std.proofs.Common.{◌≡◌, ℕ, zero, suc, ◌<◌, ◌⊎◌, List, [], ◌∷◌, ◌++◌, length, take, refl, sym, ap, ◌∙◌, inl, inr, arith, append_assoc}
use Rattle.std.proofs.lemmas.List.{length-append, append-nil, take-append-drop}
use Rattle.midi_model.specs.declared.fault.SmfKind.{SmfKind}
use Rattle.midi_model.specs.Faults.{DigitsFault, DataFault, MessageFault, ContentFault, MetaFault, BodyFault, EventFault, TrackFault, ChunkFault, NextFault, TracksFault, FieldsFault, HeaderFault, FileFault, FirstFault}

abbrev EndsWith : List ℕ → List ℕ → Type 0
EndsWith bytes back = (front : List ℕ) × (bytes ≡ front ++ back)

itself : (bytes back : List ℕ) → back ≡ bytes → EndsWith bytes back
itself bytes back is = ([], sym is)

at_end : (bytes back : List ℕ) → back ≡ [] → EndsWith bytes back
at_end bytes back is = (bytes, sym (append-nil bytes) ∙ ap (λ b. bytes ++ b) (sym is))

behind : (bytes front rest back : List ℕ) → bytes ≡ front ++ rest → EndsWith rest back → EndsWith bytes back
behind bytes front rest back parts e = (front ++ e.0, parts ∙ ap (λ r. front ++ r) e.1 ∙ sym (append_assoc front e.0 back))

digits_end : (turns : ℕ) (bytes back : List ℕ) (kind : SmfKind) → DigitsFault turns bytes back kind → EndsWith bytes back
digits_end turns [] back kind (is, k) = at_end [] back is
digits_end zero (b ∷ bs) back kind (low, is, k) = itself (b ∷ bs) back is
digits_end (suc turns) (b ∷ bs) back kind (low, r) = behind (b ∷ bs) (b ∷ []) bs back refl (digits_end turns bs back kind r)

data_end : (bytes back : List ℕ) (kind : SmfKind) → DataFault bytes back kind → EndsWith bytes back
data_end [] back kind (is, k) = at_end [] back is
data_end (b ∷ bs) back kind (low, is, k) = itself (b ∷ bs) back is

message_end : (status : ℕ) (bytes back : List ℕ) (kind : SmfKind) → MessageFault status bytes back kind → EndsWith bytes back
message_end status bytes back kind (inl r) = data_end bytes back kind r
message_end status bytes back kind (inr (d, rest, is, small, long, r)) = behind bytes (d ∷ []) rest back is (data_end rest back kind r)

content_end : (bytes back : List ℕ) (kind : SmfKind) → ContentFault bytes back kind → EndsWith bytes back
content_end bytes back kind (inl r) = digits_end 3 bytes back kind r
content_end bytes back kind (inr (len, n, rest, q, is, (few, b, k))) = at_end bytes back b

meta_end : (bytes back : List ℕ) (kind : SmfKind) → MetaFault bytes back kind → EndsWith bytes back
meta_end [] back kind (is, k) = at_end [] back is
meta_end (t ∷ bytes) back kind (inl r) = behind (t ∷ bytes) (t ∷ []) bytes back refl (digits_end 3 bytes back kind r)
meta_end (t ∷ bytes) back kind (inr (len, n, rest, q, is, inl (end, some, b, k))) = behind (t ∷ bytes) (t ∷ []) bytes back refl (itself bytes back b)
meta_end (t ∷ bytes) back kind (inr (len, n, rest, q, is, inr (end, (few, b, k)))) = at_end (t ∷ bytes) back b

body_end : (running : ℕ) (bytes back : List ℕ) (kind : SmfKind) → BodyFault running bytes back kind → EndsWith bytes back
body_end running [] back kind (is, k) = at_end [] back is
body_end running (b ∷ bytes) back kind (inl (low, none, is, k)) = itself (b ∷ bytes) back is
body_end running (b ∷ bytes) back kind (inr (inl (low, some, r))) = message_end running (b ∷ bytes) back kind r
body_end running (b ∷ bytes) back kind (inr (inr (inl (low, high, r)))) = behind (b ∷ bytes) (b ∷ []) bytes back refl (message_end b bytes back kind r)
body_end running (b ∷ bytes) back kind (inr (inr (inr (inl (lead, r))))) = behind (b ∷ bytes) (b ∷ []) bytes back refl (content_end bytes back kind r)
body_end running (b ∷ bytes) back kind (inr (inr (inr (inr (inl (is, r)))))) = behind (b ∷ bytes) (b ∷ []) bytes back refl (meta_end bytes back kind r)
body_end running (b ∷ bytes) back kind (inr (inr (inr (inr (inr (high, n1, n2, is, k)))))) = itself (b ∷ bytes) back is

event_end : (running before : ℕ) (bytes back : List ℕ) (kind : SmfKind) → EventFault running before bytes back kind → EndsWith bytes back
event_end running before bytes back kind (inl r) = digits_end 3 bytes back kind r
event_end running before bytes back kind (inr (delta, n, rest, q, is, inl (late, b, k))) = itself bytes back b
event_end running before bytes back kind (inr (delta, n, rest, q, is, inr (soon, r))) = behind bytes delta rest back is (body_end running rest back kind r)

rest_end : (after tick : ℕ) (rest back : List ℕ) (kind : SmfKind) (missing : Type 0) → ((rest ≡ []) × (back ≡ []) × missing) ⊎ ((0 < length rest) × EventFault after tick rest back kind) → EndsWith rest back
rest_end after tick rest back kind missing (inl (nil, is, k)) = at_end rest back is
rest_end after tick rest back kind missing (inr (some, r)) = event_end after tick rest back kind r

track_end : (content back : List ℕ) (kind : SmfKind) → TrackFault 0 0 content back kind → EndsWith content back
track_end content back kind t = behind content t.front t.rest back t.parts (rest_end t.after t.tick t.rest back kind _ t.fault)

chunk_end : (bytes back : List ℕ) (kind : SmfKind) → ChunkFault bytes back kind → EndsWith bytes back
chunk_end bytes back kind (inl (few, is, k)) = itself bytes back is
chunk_end bytes back kind (inr (name, size, after, head, (few, is, k))) = at_end bytes back is

next_end : (bytes back : List ℕ) (kind : SmfKind) → NextFault bytes back kind → EndsWith bytes back
next_end bytes back kind n = behind bytes n.skipped n.rest back n.parts (elim n.fault [
  | inl r ↦ chunk_end n.rest back kind r
  | inr (chunk, content, after, inside, is, parts, t, b) ↦
      let e = track_end content inside kind t in
      let whole : n.rest ≡ is.type_bytes ++ (is.size_bytes ++ (content ++ after)) =
      parts ∙ ap (λ c. c ++ after) is.parts ∙ append_assoc is.type_bytes (is.size_bytes ++ content) after ∙ ap (λ r. is.type_bytes ++ r) (append_assoc is.size_bytes content after) in
      let last : EndsWith (content ++ after) back = (e.0, ap (λ c. c ++ after) e.1 ∙ append_assoc e.0 inside after ∙ ap (λ r. e.0 ++ r) (sym b)) in
      behind n.rest is.type_bytes (is.size_bytes ++ (content ++ after)) back whole (behind (is.size_bytes ++ (content ++ after)) is.size_bytes (content ++ after) back refl last)
])

tracks_end : (count : ℕ) (bytes back : List ℕ) (kind : SmfKind) → TracksFault count bytes back kind → EndsWith bytes back
tracks_end count bytes back kind t = behind bytes t.front t.rest back t.parts (next_end t.rest back kind t.next)

fields_end : (bytes back : List ℕ) (kind : SmfKind) → FieldsFault bytes back kind → EndsWith bytes back
fields_end bytes back kind f = elim f.fault [
  | inl (a, b, k) ↦ itself bytes back b
  | inr (inl (a, b, k)) ↦ itself bytes back b
  | inr (inr (inl (a, a2, b, k))) ↦ behind bytes f.format_bytes (f.tracks_bytes ++ f.more) back f.parts (itself (f.tracks_bytes ++ f.more) back b)
  | inr (inr (inr (a, a2, b, k))) ↦ behind bytes f.format_bytes (f.tracks_bytes ++ f.more) back f.parts (itself (f.tracks_bytes ++ f.more) back b)
]

header_end : (bytes back : List ℕ) (kind : SmfKind) → HeaderFault bytes back kind → EndsWith bytes back
header_end bytes back kind (inl (few, is, k)) = itself bytes back is
header_end bytes back kind (inr (inl (name, first, rest, is, parts, inl (n1, b, k)))) = itself bytes back b
header_end bytes back kind (inr (inl (name, first, rest, is, parts, inr (same, few, b, k)))) = at_end bytes back b
header_end bytes back kind (inr (inr (size, after, head, inl (few, b, k)))) = (take 4 bytes, sym (take-append-drop 4 bytes) ∙ ap (λ r. take 4 bytes ++ r) (sym b))
header_end bytes back kind (inr (inr (size, after, head, inr (inl (six, (few, b, k)))))) = at_end bytes back b
header_end bytes back kind (inr (inr (size, after, head, inr (inr (six, room, f))))) =
    behind bytes head.type_bytes (head.size_bytes ++ after) back head.parts (behind (head.size_bytes ++ after) head.size_bytes after back refl (fields_end after back kind f))

file_end : (bytes back : List ℕ) (kind : SmfKind) → FileFault bytes back kind → EndsWith bytes back
file_end bytes back kind (inl r) = header_end bytes back kind r
file_end bytes back kind (inr (header, fields, rest, format, tracks, division, is, are, parts, t)) = behind bytes header rest back parts (tracks_end tracks rest back kind t)

-- an offset is how many bytes stand before the fault
pub offset_is : (bytes : List ℕ) (offset : ℕ) (kind : SmfKind) (f : FirstFault bytes offset kind) → (front : List ℕ) × (bytes ≡ front ++ f.back) × (length front ≡ offset)
offset_is bytes offset kind f =
    let e = file_end bytes f.back kind f.fault in
    (e.0, e.1, omega (arith, f.place, ap length e.1, length-append e.0 f.back))
