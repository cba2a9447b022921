-- Parts that are appended one after the other.
use Rattle.std.proofs.Common.{◌≡◌, ℕ, ◌+◌, ◌^◌, ◌<◌, ◌≤◌, ◌⊎◌, inl, inr, List, [], ◌∷◌, ◌++◌, length, map, drop, get_or, false, refl, sym, ap, ◌∙◌, append_assoc, arith}
use Rattle.std.proofs.lemmas.List.{append-nil, drop_more, drop_all, length-map}
use Rattle.std.proofs.lemmas.Simd.{map-map}
use Rattle.std.specs.List.{All}
use Rattle.std.proofs.lemmas.List.Elements.{All-head, All-tail, All-nil, All-cons, All-same}
use Rattle.mt_base.specs.Midi.{Timed}
use Rattle.midi_model.specs.Writing.{Written, written, events_bytes, last_tick, last_running, is_ended, chunk_bytes, chunks_bytes, header_bytes, file_bytes, IsWritable, IsWritableFile}

pub five_parts : (out o1 o2 o3 o4 o5 a b c d e a2 b2 c2 d2 e2 : List ℕ)
    → o1 ≡ out ++ a2 → o2 ≡ o1 ++ b2 → o3 ≡ o2 ++ c2 → o4 ≡ o3 ++ d2 → o5 ≡ o4 ++ e2
    → a2 ≡ a → b2 ≡ b → c2 ≡ c → d2 ≡ d → e2 ≡ e
    → o5 ≡ out ++ (a ++ (b ++ (c ++ (d ++ e))))
five_parts out o1 o2 o3 o4 o5 a b c d e a2 b2 c2 d2 e2 h1 h2 h3 h4 h5 i1 i2 i3 i4 i5 =
    let all : o5 ≡ (((out ++ a) ++ b) ++ c) ++ d ++ e = cc in
    all ∙ append_assoc (((out ++ a) ++ b) ++ c) d e ∙ append_assoc ((out ++ a) ++ b) c (d ++ e) ∙ append_assoc (out ++ a) b (c ++ (d ++ e)) ∙ append_assoc out a (b ++ (c ++ (d ++ e)))

-- what stands for no events
pub nothing_written : record { bytes = []; tick = 0; running = 0; ended = false } ≡ written []
unfolding events_bytes last_tick last_running is_ended
nothing_written = refl

-- the chunks of these tracks
abbrev pub all_chunks : List Written → List ℕ
all_chunks ts = chunks_bytes (map (λ (t : Written). t.bytes) ts)

one_chunk : (t : Written) (ts : List Written) → all_chunks (t ∷ ts) ≡ chunk_bytes t.bytes ++ all_chunks ts
unfolding chunks_bytes
one_chunk t ts = refl

no_chunk : all_chunks [] ≡ []
unfolding chunks_bytes
no_chunk = refl

pub chunk_step : (out out2 whole : List ℕ) (ts : List Written) (i : ℕ) (t : Written) → i < length ts → t ≡ get_or ts i t → out2 ≡ out ++ chunk_bytes t.bytes
    → out ++ all_chunks (drop i ts) ≡ whole → out2 ++ all_chunks (drop (i + 1) ts) ≡ whole
chunk_step out out2 whole ts i t lt is put so_far =
    let rest = drop (i + 1) ts in
    let next : drop i ts ≡ t ∷ rest = drop_more ts i t lt ∙ ap (λ (x : Written). x ∷ rest) (sym is) in
    ap (λ (o : List ℕ). o ++ all_chunks rest) put
    ∙ append_assoc out (chunk_bytes t.bytes) (all_chunks rest)
    ∙ ap (λ (r : List ℕ). out ++ r) (sym (one_chunk t rest))
    ∙ ap (λ (r : List Written). out ++ all_chunks r) (sym next)
    ∙ so_far

pub chunks_end : (out whole : List ℕ) (ts : List Written) (i : ℕ) → length ts ≤ i → out ++ all_chunks (drop i ts) ≡ whole → out ≡ whole
chunks_end out whole ts i le so_far =
    sym (append-nil out) ∙ ap (λ (r : List ℕ). out ++ r) (sym no_chunk) ∙ ap (λ (r : List Written). out ++ all_chunks r) (sym (drop_all i ts le)) ∙ so_far

pub is_file : (format division : ℕ) (items : List Written) (ts : List (List Timed)) → items ≡ map written ts
    → header_bytes format (length items) division ++ all_chunks items ≡ file_bytes (record { format = format; division = division; tracks = ts })
unfolding file_bytes
is_file format division items ts is =
    ap (λ (x : List Written). header_bytes format (length x) division ++ all_chunks x) is
    ∙ ap (λ (n : ℕ). header_bytes format n division ++ all_chunks (map written ts)) (length-map ts written)
    ∙ ap (λ (x : List (List ℕ)). header_bytes format (length ts) division ++ chunks_bytes x) (map-map (λ (t : Written). t.bytes) written ts)

-- what holds of the texts holds of the lists that they stand for
of_texts : (P : Written → Type 0) (ts : List (List Timed)) → All P (map written ts) → All (λ (es : List Timed). P (written es)) ts
of_texts P [] h = All-nil (λ (es : List Timed). P (written es))
of_texts P (es ∷ ts) h = All-cons (λ (es : List Timed). P (written es)) es ts (All-head P (written es) (map written ts) h) (of_texts P ts (All-tail P (written es) (map written ts) h))

abbrev IsShortText : Written → Type 0
IsShortText t = length t.bytes < 2 ^ 32

format_is_small : (format n : ℕ) → ((format ≡ 0) × (n ≡ 1)) ⊎ (format ≡ 1) → (format ≤ 1) × (format ≡ 0 → n ≡ 1)
format_is_small format n (inl h) = (omega (arith, h.0), λ _. h.1)
format_is_small format n (inr h) = (omega (arith, h), λ z. absurd (omega (arith, h, z)))

pub is_writable : (format division : ℕ) (items : List Written) (ts : List (List Timed)) → items ≡ map written ts → 0 < length items → length items ≤ 1024
    → All (λ (t : Written). length t.bytes < 2 ^ 32) items → ((format ≡ 0) × (length items ≡ 1)) ⊎ (format ≡ 1) → division < 2 ^ 16 → All (IsWritable 0) ts
    → IsWritableFile (record { format = format; division = division; tracks = ts })
is_writable format division items ts is some few short formats small writable =
    let count : length items ≡ length ts = ap (λ (x : List Written). length x) is ∙ length-map ts written in
    let f = format_is_small format (length items) formats in
    record {
      tracks = writable;
      short = of_texts IsShortText ts (All-same IsShortText (map written ts) items (sym is) short);
      one_or_more = omega (arith, count, some);
      few = omega (arith, count, few);
      format_0_or_1 = f.0;
      one_in_0 = λ z. sym count ∙ f.1 z;
      division = small;
    }
