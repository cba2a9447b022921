-- Files that are read are spelled so, and what is spelled so is read.
use Rattle.std.proofs.Common.{◌≡◌, ℕ, ◌≤◌, ◌<◌, List, ◌++◌, length, map, drop, take, false, not, eqb, ltb, Result, Ok, Err, refl, sym, ap, subst, ◌∙◌, append_assoc, arith, inl, inr}
use Rattle.std.specs.Prelude.{◌&&◌, ◌||◌}
use Rattle.std.specs.Int.{Width, w16, w32, byte_len, from_be_bytes}
use Rattle.std.proofs.lemmas.Bool.{ltb-false, le-ltb, eqb-true, eqb-false, eq-eqb, ne_eqb, or_parts, or_from, and_cases, and_left, and_right, not-false, cases_eq}
use Rattle.std.proofs.lemmas.List.{length-drop, length-take, length-append, length-map, drop_at, take-append-drop, take-append-le, drop-append-le}
use Rattle.midi_model.specs.declared.fault.Stop.{Stop}
use Rattle.mt_base.specs.Midi.{Timed}
use Rattle.midi_model.specs.FileText.{Header, MidiFile, made, number, header_at, fields_at, tracks_at, all_at, file_at, from_start, events_of}
use Rattle.midi_model.specs.Spelling.{IsNumber, IsChunk, IsFields, Spells}
use Rattle.midi_model.proofs.Laws.{bind_ok, guarded, done, ok_is}
use Rattle.midi_model.proofs.Chunks.{number_again, number_takes, cut, tracks_take, tracks_again}

-- the number at the front of what goes on
pub number_front : (w : Width) (c d : List ℕ) → byte_len w ≤ length c → number w (c ++ d) ≡ number w c
number_front w c d long = ap (from_be_bytes w) (take-append-le (byte_len w) c d long)

front_number : (w : Width) (c d : List ℕ) → byte_len w ≤ length c → IsNumber w (take (byte_len w) c) (number w (c ++ d))
front_number w c d long = record { len = (number_takes w c long).len; value = sym (number_front w c d long) }

only_one : (format tracks : ℕ) → (eqb tracks 0 || (eqb format 0 && not (eqb tracks 1))) ≡ false → (0 < tracks) × (format ≡ 0 → tracks ≡ 1)
only_one format tracks e =
    let p = or_parts (eqb tracks 0) (eqb format 0 && not (eqb tracks 1)) e in
    let some : tracks ≡ 0 → ⊥ = eqb-false tracks 0 p.0 in (
      omega (arith, some),
      λ z. elim (and_cases (eqb format 0) (not (eqb tracks 1)) p.1) [
        | inl f ↦ absurd (eqb-false format 0 f z)
        | inr n ↦ eqb-true tracks 1 (not-false (eqb tracks 1) n)
      ],
    )

pub fields_take : (size : ℕ) (c d : List ℕ) (x : Header × List ℕ) → length c ≡ size → 6 ≤ size → fields_at size (c ++ d) ≡ Ok x → IsFields c x.0.format x.0.tracks x.0.division × (x.1 ≡ d)
unfolding fields_at
fields_take size c d x len six e =
    let c2 = drop 2 c in
    let c4 = drop 2 c2 in
    let long : 2 ≤ length c = omega (arith, len, six) in
    let long2 : 2 ≤ length c2 = omega (arith, len, six, length-drop 2 c) in
    let long4 : 2 ≤ length c4 = omega (arith, len, six, length-drop 2 c, length-drop 2 c2) in
    let d2 : drop 2 (c ++ d) ≡ c2 ++ d = drop-append-le 2 c d long in
    let d4 : drop 2 (drop 2 (c ++ d)) ≡ c4 ++ d = ap (drop 2) d2 ∙ drop-append-le 2 c2 d long2 in
    let format = number w16 (c ++ d) in
    let tracks = number w16 (drop 2 (c ++ d)) in
    let division = number w16 (drop 2 (drop 2 (c ++ d))) in
    let g = guarded (eqb format 2) _ _ x e in
    let h = guarded (ltb 2 format) _ _ x g.1 in
    let i = guarded (eqb tracks 0 || (eqb format 0 && not (eqb tracks 1))) _ _ x h.1 in
    let j = guarded (ltb 1024 tracks) _ _ x i.1 in
    let not2 : format ≡ 2 → ⊥ = eqb-false format 2 g.0 in
    let low : format ≤ 2 = ltb-false 2 format h.0 in
    let one = only_one format tracks i.0 in
    let result : Header × List ℕ = (record { format = format; tracks = tracks; division = division }, drop size (c ++ d)) in
    let is : IsFields c format tracks division = record {
      format_bytes = take 2 c;
      tracks_bytes = take 2 c2;
      division_bytes = take 2 c4;
      more = drop 2 c4;
      is_format = front_number w16 c d long;
      is_tracks = subst (λ (r : List ℕ). IsNumber w16 (take 2 c2) (number w16 r)) (sym d2) (front_number w16 c2 d long2);
      is_division = subst (λ (r : List ℕ). IsNumber w16 (take 2 c4) (number w16 r)) (sym d4) (front_number w16 c4 d long4);
      parts = sym (ap (λ r. take 2 c ++ (take 2 c2 ++ r)) (take-append-drop 2 c4) ∙ ap (λ r. take 2 c ++ r) (take-append-drop 2 c2) ∙ take-append-drop 2 c);
      one_or_more = one.0;
      one_in_0 = one.1;
      few = ltb-false 1024 tracks j.0;
      format_0_or_1 = omega (arith, not2, low);
    } in
    subst (λ (y : Header × List ℕ). IsFields c y.0.format y.0.tracks y.0.division × (y.1 ≡ d)) (ok_is result x j.1) (is, drop_at c d size len)

pub record TookHeader (bytes : List ℕ) (x : Header × List ℕ) : Type 0 where
  pub header : List ℕ
  pub fields : List ℕ
  pub is_header : IsChunk header 0x4d546864 fields
  pub are_fields : IsFields fields x.0.format x.0.tracks x.0.division
  pub parts : bytes ≡ header ++ x.1

pub header_takes : (bytes : List ℕ) (x : Header × List ℕ) → header_at bytes ≡ Ok x → TookHeader bytes x
unfolding header_at
header_takes bytes x e =
    let size = number w32 (drop 4 bytes) in
    let rest = drop 4 (drop 4 bytes) in
    let c = take size rest in
    let g = guarded (ltb (length bytes) 4) _ _ x e in
    let h = guarded (not (eqb (number w32 bytes) 0x4d546864)) _ _ x g.1 in
    let i = guarded (ltb (length bytes) 8) _ _ x h.1 in
    let j = guarded (ltb size 6) _ _ x i.1 in
    let k = guarded (ltb (length rest) size) _ _ x j.1 in
    let long : 8 ≤ length bytes = ltb-false (length bytes) 8 i.0 in
    let long4 : 4 ≤ length (drop 4 bytes) = omega (arith, long, length-drop 4 bytes) in
    let room : size ≤ length rest = ltb-false (length rest) size k.0 in
    let len : length c ≡ size = omega (arith, room, length-take size rest) in
    let name : number w32 bytes ≡ 0x4d546864 = eqb-true (number w32 bytes) 0x4d546864 (not-false (eqb (number w32 bytes) 0x4d546864) h.0) in
    let f = fields_take size c (drop size rest) x len (ltb-false size 6 j.0) (ap (fields_at size) (take-append-drop size rest) ∙ k.1) in
    record {
      header = take 4 bytes ++ (take 4 (drop 4 bytes) ++ c);
      fields = c;
      is_header = record {
        type_bytes = take 4 bytes;
        size_bytes = take 4 (drop 4 bytes);
        is_type = record { len = (number_takes w32 bytes (omega (arith, long))).len; value = name };
        is_size = record { len = (number_takes w32 (drop 4 bytes) long4).len; value = sym len };
        parts = refl;
      };
      are_fields = f.0;
      parts = cut bytes size ∙ ap (λ r. (take 4 bytes ++ (take 4 (drop 4 bytes) ++ c)) ++ r) (sym f.1);
    }

fields_again : (c d : List ℕ) (format tracks division : ℕ) → IsFields c format tracks division → fields_at (length c) (c ++ d) ≡ Ok (record { format = format; tracks = tracks; division = division }, d)
unfolding fields_at
fields_again c d format tracks division is =
    let a = is.format_bytes in
    let b = is.tracks_bytes in
    let v = is.division_bytes in
    let r2 = v ++ (is.more ++ d) in
    let r1 = b ++ r2 in
    let whole : c ++ d ≡ a ++ r1 = ap (λ x. x ++ d) is.parts ∙ append_assoc a (b ++ (v ++ is.more)) d ∙ ap (λ x. a ++ x) (append_assoc b (v ++ is.more) d ∙ ap (λ x. b ++ x) (append_assoc v is.more d)) in
    let format-is : number w16 (c ++ d) ≡ format = ap (number w16) whole ∙ number_again w16 a r1 format is.is_format in
    let d2 : drop 2 (c ++ d) ≡ r1 = ap (drop 2) whole ∙ drop_at a r1 2 is.is_format.len in
    let d4 : drop 2 (drop 2 (c ++ d)) ≡ r2 = ap (drop 2) d2 ∙ drop_at b r2 2 is.is_tracks.len in
    let tracks-is : number w16 (drop 2 (c ++ d)) ≡ tracks = ap (number w16) d2 ∙ number_again w16 b r2 tracks is.is_tracks in
    let division-is : number w16 (drop 2 (drop 2 (c ++ d))) ≡ division = ap (number w16) d4 ∙ number_again w16 v (is.more ++ d) division is.is_division in
    let not2 : eqb format 2 ≡ false = ne_eqb format 2 (λ e. omega (arith, e, is.format_0_or_1)) in
    let low : ltb 2 format ≡ false = le-ltb 2 format (omega (arith, is.format_0_or_1)) in
    let few : ltb 1024 tracks ≡ false = le-ltb 1024 tracks is.few in
    let some : (eqb tracks 0 || (eqb format 0 && not (eqb tracks 1))) ≡ false = or_from (eqb tracks 0) (eqb format 0 && not (eqb tracks 1)) (ne_eqb tracks 0 (λ e. omega (arith, e, is.one_or_more)))
    (elim (cases_eq format 0) [
      | inl z ↦ and_right (eqb format 0) (not (eqb tracks 1)) (ap not (eq-eqb tracks 1 (is.one_in_0 z)))
      | inr n ↦ and_left (eqb format 0) (not (eqb tracks 1)) (ne_eqb format 0 n)
    ]) in
    rw (format-is, tracks-is, division-is, not2, low, some, few, drop_at c d (length c) refl) refl

pub header_again : (header fields rest : List ℕ) (format tracks division : ℕ) → IsChunk header 0x4d546864 fields → IsFields fields format tracks division
    → header_at (header ++ rest) ≡ Ok (record { format = format; tracks = tracks; division = division }, rest)
unfolding header_at
header_again header fields rest format tracks division is f =
    let a = is.type_bytes in
    let b = is.size_bytes in
    let r = b ++ (fields ++ rest) in
    let regrouped : header ++ rest ≡ a ++ r = ap (λ x. x ++ rest) is.parts ∙ append_assoc a (b ++ fields) rest ∙ ap (λ t. a ++ t) (append_assoc b fields rest) in
    let len : 8 ≤ length (a ++ r) = omega (arith, length-append a r, length-append b (fields ++ rest), is.is_type.len, is.is_size.len) in
    let long4 : ltb (length (a ++ r)) 4 ≡ false = le-ltb _ _ (omega (arith, len)) in
    let long8 : ltb (length (a ++ r)) 8 ≡ false = le-ltb _ _ len in
    let six : ltb (length fields) 6 ≡ false = le-ltb _ _ (omega (
      arith,
      ap length f.parts,
      length-append f.format_bytes (f.tracks_bytes ++ (f.division_bytes ++ f.more)),
      length-append f.tracks_bytes (f.division_bytes ++ f.more),
      length-append f.division_bytes f.more,
      f.is_format.len,
      f.is_tracks.len,
      f.is_division.len,
    )) in
    let room : ltb (length (fields ++ rest)) (length fields) ≡ false = le-ltb _ _ (omega (arith, length-append fields rest)) in
    ap header_at regrouped ∙ rw (
      long4,
      number_again w32 a r 0x4d546864 is.is_type,
      long8,
      drop_at a r 4 is.is_type.len,
      number_again w32 b (fields ++ rest) (length fields) is.is_size,
      six,
      drop_at b (fields ++ rest) 4 is.is_size.len,
      room,
    ) (fields_again fields rest format tracks division f)

pub all_takes : (bytes : List ℕ) (file : MidiFile) → all_at bytes ≡ Ok file → Spells bytes file
unfolding all_at
all_takes bytes file e =
    let h = bind_ok (header_at bytes) _ file e in
    let t = bind_ok (tracks_at h.0.0.tracks h.0.1) (λ ts. Ok (made h.0.0.format h.0.0.division ts.0)) file h.2 in
    let p = header_takes bytes h.0 h.1 in
    let q = tracks_take h.0.0.tracks h.0.1 t.0 t.1 in
    let count : h.0.0.tracks ≡ length (map events_of t.0.0) = sym (length-map t.0.0 events_of ∙ q.len) in
    subst (Spells bytes) (ok_is (made h.0.0.format h.0.0.division t.0.0) file t.2) (record {
      header = p.header;
      fields = p.fields;
      tracks = q.front;
      more = t.0.1;
      is_header = p.is_header;
      are_fields = subst (λ (n : ℕ). IsFields p.fields h.0.0.format n h.0.0.division) count p.are_fields;
      are_tracks = q.are_tracks;
      parts = p.parts ∙ ap (λ r. p.header ++ r) q.parts;
    })

pub all_again : (bytes : List ℕ) (file : MidiFile) → Spells bytes file → all_at bytes ≡ Ok file
unfolding all_at
all_again bytes file is =
    let h = header_again is.header is.fields (is.tracks ++ is.more) file.format (length file.tracks) file.division is.is_header is.are_fields in
    let t = tracks_again file.tracks is.tracks is.more is.are_tracks in
    ap all_at is.parts ∙ rw (h, t.reads) (ap (λ (ts : List (List Timed)). done {A = MidiFile} (record { format = file.format; division = file.division; tracks = ts })) t.same)

started : (r : Result MidiFile Stop) (file : MidiFile) (n : ℕ) → from_start n r ≡ Ok file → r ≡ Ok file
started (Ok f) file n e = cc
started (Err s) file n e = absurd cc

pub file_takes : (bytes : List ℕ) (file : MidiFile) → file_at bytes ≡ Ok file → Spells bytes file
unfolding file_at
file_takes bytes file e = all_takes bytes file (started (all_at bytes) file (length bytes) e)

pub file_again : (bytes : List ℕ) (file : MidiFile) → Spells bytes file → file_at bytes ≡ Ok file
unfolding file_at
file_again bytes file is = ap (from_start (length bytes)) (all_again bytes file is)

-- bytes spell at most one file
pub one_file : (bytes : List ℕ) (a b : MidiFile) → Spells bytes a → Spells bytes b → a ≡ b
one_file bytes a b is is2 = let same : done {A = MidiFile} a ≡ done b = sym (all_again bytes a is) ∙ all_again bytes b is2 in ok_is a b same
