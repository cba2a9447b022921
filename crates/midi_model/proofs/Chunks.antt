-- Chunks that are read are spelled so, and what is spelled so is read.
use Rattle.std.proofs.Common.{◌≡◌, ℕ, zero, suc, ◌≤◌, List, [], ◌∷◌, ◌++◌, length, map, drop, take, false, eqb, ltb, Result, Ok, Option, Some, None, refl, sym, ap, subst, ◌∙◌, append_assoc, arith, inl, inr}
use Rattle.std.specs.Int.{Width, w32, byte_len, from_be_bytes}
use Rattle.std.proofs.lemmas.Bool.{ltb-false, le-ltb, eqb-true, eqb-false, ne_eqb}
use Rattle.std.proofs.lemmas.List.{length-drop, length-take, length-append, take_at, drop_at, take-append-drop}
use Rattle.midi_model.specs.declared.fault.Stop.{Stop}
use Rattle.midi_model.specs.Reading.{track_in}
use Rattle.midi_model.specs.FileText.{Chunk, number, chunk_at, content_from, next_content, track_at, tracks_at, sound, events_of}
use Rattle.midi_model.specs.Spelling.{IsNumber, IsChunk, AreSkipped, IsTrackChunk, IsTrack, AreTracks}
use Rattle.mt_base.specs.Midi.{Timed}
use Rattle.midi_model.proofs.Laws.{bind_ok, chosen, guarded, ok_is, none_runs}
use Rattle.midi_model.proofs.Tracks.{skips, takes_it}
use Rattle.midi_model.proofs.Takes.{track_takes}
use Rattle.midi_model.proofs.Again.{track_again}

pub number_again : (w : Width) (front rest : List ℕ) (n : ℕ) → IsNumber w front n → number w (front ++ rest) ≡ n
number_again w front rest n is = ap (from_be_bytes w) (take_at front rest (byte_len w) is.len) ∙ is.value

pub number_takes : (w : Width) (bytes : List ℕ) → byte_len w ≤ length bytes → IsNumber w (take (byte_len w) bytes) (number w bytes)
number_takes w bytes long = record { len = omega (arith, length-take (byte_len w) bytes, long); value = refl }

abbrev pub TookChunk : List ℕ → Chunk × List ℕ → Type 0
TookChunk bytes x = (front : List ℕ) × IsChunk front x.0.name x.0.content × (bytes ≡ front ++ x.1)

-- four bytes, four bytes and a content
pub cut : (bytes : List ℕ) (n : ℕ) → bytes ≡ (take 4 bytes ++ (take 4 (drop 4 bytes) ++ take n (drop 4 (drop 4 bytes)))) ++ drop n (drop 4 (drop 4 bytes))
cut bytes n =
    let b = drop 4 bytes in
    let c = drop 4 b in
    sym (append_assoc (take 4 bytes) (take 4 b ++ take n c) (drop n c)
    ∙ ap (λ r. take 4 bytes ++ r) (append_assoc (take 4 b) (take n c) (drop n c) ∙ ap (λ r. take 4 b ++ r) (take-append-drop n c) ∙ take-append-drop 4 b)
    ∙ take-append-drop 4 bytes)

pub chunk_takes : (bytes : List ℕ) (x : Chunk × List ℕ) → chunk_at bytes ≡ Ok x → TookChunk bytes x
unfolding chunk_at
chunk_takes bytes x e =
    let size = number w32 (drop 4 bytes) in
    let rest = drop 4 (drop 4 bytes) in
    let g = guarded (ltb (length bytes) 8) _ _ x e in
    let h = guarded (ltb (length rest) size) _ _ x g.1 in
    let long : 8 ≤ length bytes = ltb-false (length bytes) 8 g.0 in
    let room : size ≤ length rest = ltb-false (length rest) size h.0 in
    let long4 : 4 ≤ length (drop 4 bytes) = omega (arith, long, length-drop 4 bytes) in
    let len : length (take size rest) ≡ size = omega (arith, room, length-take size rest) in
    let made : Chunk × List ℕ = (record { name = number w32 bytes; content = take size rest }, drop size rest) in
    let is : IsChunk (take 4 bytes ++ (take 4 (drop 4 bytes) ++ take size rest)) (number w32 bytes) (take size rest) = record {
      type_bytes = take 4 bytes;
      size_bytes = take 4 (drop 4 bytes);
      is_type = number_takes w32 bytes (omega (arith, long));
      is_size = record { len = (number_takes w32 (drop 4 bytes) long4).len; value = sym len };
      parts = refl;
    } in
    subst (TookChunk bytes) (ok_is made x h.1) (take 4 bytes ++ (take 4 (drop 4 bytes) ++ take size rest), is, cut bytes size)

pub chunk_again : (front rest : List ℕ) (name : ℕ) (content : List ℕ) → IsChunk front name content → chunk_at (front ++ rest) ≡ Ok (record { name = name; content = content }, rest)
unfolding chunk_at
chunk_again front rest name content is =
    let a = is.type_bytes in
    let b = is.size_bytes in
    let r = b ++ (content ++ rest) in
    let regrouped : front ++ rest ≡ a ++ r = ap (λ f. f ++ rest) is.parts ∙ append_assoc a (b ++ content) rest ∙ ap (λ t. a ++ t) (append_assoc b content rest) in
    let long : ltb (length (a ++ r)) 8 ≡ false = le-ltb _ _ (omega (arith, length-append a r, length-append b (content ++ rest), is.is_type.len, is.is_size.len)) in
    let room : ltb (length (content ++ rest)) (length content) ≡ false = le-ltb _ _ (omega (arith, length-append content rest)) in
    ap chunk_at regrouped ∙ rw (
      long,
      drop_at a r 4 is.is_type.len,
      drop_at b (content ++ rest) 4 is.is_size.len,
      number_again w32 b (content ++ rest) (length content) is.is_size,
      room,
      number_again w32 a r name is.is_type,
      take_at content rest (length content) refl,
      drop_at content rest (length content) refl,
    ) refl

-- ---- track chunks, with those that are skipped

abbrev pub TookTrack : List ℕ → List ℕ × List ℕ → Type 0
TookTrack bytes x = (front : List ℕ) × IsTrackChunk front x.0 × (bytes ≡ front ++ x.1)

first_taken : (bytes : List ℕ) (c : Chunk × List ℕ) (x : List ℕ × List ℕ) → TookChunk bytes c → c.0.name ≡ 0x4d54726b → (c.0.content ≡ x.0) × (c.1 ≡ x.1) → TookTrack bytes x
first_taken bytes c x t is (same, rest) =
    let chunk : IsChunk t.0 0x4d54726b x.0 = subst (IsChunk t.0 0x4d54726b) same (subst (λ (n : ℕ). IsChunk t.0 n c.0.content) is t.1) in
    (t.0, record { others = []; skipped = []; chunk = t.0; are_skipped = refl; is_chunk = chunk; parts = refl }, t.2 ∙ ap (λ r. t.0 ++ r) rest)

one_skipped : (bytes : List ℕ) (c : Chunk × List ℕ) (x : List ℕ × List ℕ) → TookChunk bytes c → (c.0.name ≡ 0x4d54726b → ⊥) → TookTrack c.1 x → TookTrack bytes x
one_skipped bytes c x t isnt u = (
  t.0 ++ u.0,
  record {
    others = (c.0.name, c.0.content) ∷ u.1.others;
    skipped = t.0 ++ u.1.skipped;
    chunk = u.1.chunk;
    are_skipped = (t.0, u.1.skipped, t.1, isnt, refl, u.1.are_skipped);
    is_chunk = u.1.is_chunk;
    parts = ap (λ r. t.0 ++ r) u.1.parts ∙ sym (append_assoc t.0 u.1.skipped u.1.chunk);
  },
  t.2 ∙ ap (λ r. t.0 ++ r) u.2 ∙ sym (append_assoc t.0 u.0 x.1),
)

pub content_takes : (turns : ℕ) (bytes : List ℕ) (x : List ℕ × List ℕ) → content_from turns bytes ≡ Ok x → TookTrack bytes x
unfolding content_from
content_takes zero bytes x e = absurd cc
content_takes (suc turns) bytes x e =
    let c = bind_ok (chunk_at bytes) _ x e in
    let t = chunk_takes bytes c.0 c.1 in
    elim (chosen (eqb c.0.0.name 0x4d54726b) (Ok (c.0.0.content, c.0.1)) (content_from turns c.0.1) (Ok x) c.2) [
      | inl u ↦
          let is = ok_is (c.0.0.content, c.0.1) x u.1 in
          first_taken bytes c.0 x t (eqb-true c.0.0.name 0x4d54726b u.0) (ap (λ y. y.0) is, ap (λ y. y.1) is)
      | inr u ↦ one_skipped bytes c.0 x t (eqb-false c.0.0.name 0x4d54726b u.0) (content_takes turns c.0.1 x u.1)
    ]

pub skipped_again : (others : List (ℕ × List ℕ)) (skipped rest : List ℕ) → AreSkipped others skipped → next_content (skipped ++ rest) ≡ next_content rest
skipped_again [] skipped rest is = ap (λ s. next_content (s ++ rest)) is
skipped_again (o ∷ os) skipped rest (front, after, is, isnt, parts, more) =
    ap (λ s. next_content (s ++ rest)) parts ∙ ap next_content (append_assoc front after rest)
    ∙ skips (front ++ (after ++ rest)) _ (chunk_again front (after ++ rest) o.0 o.1 is) (ne_eqb o.0 0x4d54726b isnt)
    ∙ skipped_again os after rest more

content_again : (front rest content : List ℕ) → IsTrackChunk front content → next_content (front ++ rest) ≡ Ok (content, rest)
content_again front rest content is =
    ap (λ f. next_content (f ++ rest)) is.parts ∙ ap next_content (append_assoc is.skipped is.chunk rest)
    ∙ skipped_again is.others is.skipped (is.chunk ++ rest) is.are_skipped
    ∙ takes_it (is.chunk ++ rest) _ (chunk_again is.chunk rest 0x4d54726b content is.is_chunk) refl

is_sound : (x y : List ℕ × List ℕ) (o : Option Stop) → sound x o ≡ Ok y → (o ≡ None) × (x ≡ y)
is_sound x y None e = (refl, cc)
is_sound x y (Some s) e = absurd cc

pub track_at_takes : (bytes : List ℕ) (x : List ℕ × List ℕ) → track_at bytes ≡ Ok x → TookTrack bytes x × IsTrack 0 0 x.0 (events_of x.0)
unfolding track_at next_content
track_at_takes bytes x e =
    let a = bind_ok (content_from (suc (length bytes)) bytes) (λ y. sound y (track_in y.0).fault) x e in
    let t = content_takes (suc (length bytes)) bytes a.0 a.1 in
    let s = is_sound a.0 x (track_in a.0.0).fault a.2 in
    subst (λ (y : List ℕ × List ℕ). TookTrack bytes y × IsTrack 0 0 y.0 (events_of y.0)) s.1 (t, track_takes a.0.0 s.0)

pub track_at_whole : (bytes : List ℕ) (x : List ℕ × List ℕ) → track_at bytes ≡ Ok x → (track_in x.0).fault ≡ None
unfolding track_at next_content
track_at_whole bytes x e =
    let a = bind_ok (content_from (suc (length bytes)) bytes) (λ y. sound y (track_in y.0).fault) x e in
    let s = is_sound a.0 x (track_in a.0.0).fault a.2 in
    subst (λ (y : List ℕ × List ℕ). (track_in y.0).fault ≡ None) s.1 s.0

pub track_at_again : (front rest content : List ℕ) → IsTrackChunk front content → (track_in content).fault ≡ None → track_at (front ++ rest) ≡ Ok (content, rest)
unfolding track_at
track_at_again front rest content is none = rw (content_again front rest content is, none) refl

-- ---- the tracks of a file

pub record TookTracks (count : ℕ) (bytes : List ℕ) (x : List (List ℕ) × List ℕ) : Type 0 where
  pub front : List ℕ
  pub are_tracks : AreTracks (map events_of x.0) front
  pub len : length x.0 ≡ count
  pub parts : bytes ≡ front ++ x.1

pub tracks_take : (count : ℕ) (bytes : List ℕ) (x : List (List ℕ) × List ℕ) → tracks_at count bytes ≡ Ok x → TookTracks count bytes x
unfolding tracks_at
tracks_take zero bytes x e = subst (TookTracks 0 bytes) (ok_is ([], bytes) x e) (record { front = []; are_tracks = refl; len = refl; parts = refl })
tracks_take (suc n) bytes x e =
    let a = bind_ok (track_at bytes) _ x e in
    let b = bind_ok (tracks_at n a.0.1) (λ others. Ok (a.0.0 ∷ others.0, others.1)) x a.2 in
    let t = track_at_takes bytes a.0 a.1 in
    let u = tracks_take n a.0.1 b.0 b.1 in
    subst (TookTracks (suc n) bytes) (ok_is (a.0.0 ∷ b.0.0, b.0.1) x b.2) (record {
      front = t.0.0 ++ u.front;
      are_tracks = (t.0.0, u.front, a.0.0, t.0.1, t.1, refl, u.are_tracks);
      len = ap suc u.len;
      parts = t.0.2 ∙ ap (λ r. t.0.0 ++ r) u.parts ∙ sym (append_assoc t.0.0 u.front b.0.1);
    })

-- the contents from which these tracks are read
pub record ReadsTracks (tracks : List (List Timed)) (bytes rest : List ℕ) : Type 0 where
  pub contents : List (List ℕ)
  pub reads : tracks_at (length tracks) bytes ≡ Ok (contents, rest)
  pub same : map events_of contents ≡ tracks

pub tracks_again : (tracks : List (List Timed)) (bytes rest : List ℕ) → AreTracks tracks bytes → ReadsTracks tracks (bytes ++ rest) rest
unfolding tracks_at
tracks_again [] bytes rest is = record { contents = []; reads = ap (λ b. let r : Result (List (List ℕ) × List ℕ) Stop = Ok ([], b ++ rest) in r) is; same = refl }
tracks_again (es ∷ ts) bytes rest (front, after, content, is, spelled, parts, more) =
    let u = tracks_again ts after rest more in
    let t = track_again 0 0 content es none_runs spelled in
    let one = track_at_again front (after ++ rest) content is (ap (λ r. r.fault) t) in
    record {
      contents = content ∷ u.contents;
      reads = ap (λ b. tracks_at (suc (length ts)) (b ++ rest)) parts ∙ ap (tracks_at (suc (length ts))) (append_assoc front after rest) ∙ rw (one, u.reads) refl;
      same = ap (λ e. e ∷ map events_of u.contents) (ap (λ r. r.events) t) ∙ ap (λ l. es ∷ l) u.same;
    }
