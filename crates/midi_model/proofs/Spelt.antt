-- What is written spells the file.
use Rattle.std.proofs.Common.{◌≡◌, ℕ, ◌+◌, ◌-◌, ◌*◌, ◌/◌, ◌%◌, ◌^◌, ◌<◌, ◌≤◌, List, [], ◌∷◌, ◌++◌, length, map, false, ltb, eqb, refl, sym, ap, ◌∙◌, inl, inr, arith, lit≤, lit<}
use Rattle.std.specs.List.{AllByRecursion, All}
use Rattle.std.proofs.lemmas.List.Elements.{All-head, All-tail}
use Rattle.std.proofs.lemmas.Bool.{lt-ltb, le-ltb, eqb-true, cases_Bool, ltb-true, ltb-false}
use Rattle.std.proofs.lemmas.List.{append-nil}
use Rattle.std.proofs.lemmas.Nat.{from_be_bytes-to_be_bytes_2, from_be_bytes-to_be_bytes_4}
use Rattle.std.specs.Int.{w16, w32, to_be_bytes}
use Rattle.mt_base.specs.declared.event.Msg.{Msg}
use Rattle.mt_base.specs.declared.event.Msg.TheVariants.{NoteOff, NoteOn, KeyPressure, Control, Program, Pressure, Bend}
use Rattle.mt_base.specs.Midi.{MidiWhat, Says, SysexOf, MetaOf, Timed}
use Rattle.mt_base.specs.Valid.{IsValidMsg, IsValidWhat}
use Rattle.midi_model.specs.Reading.{long_msg, short_msg}
use Rattle.midi_model.specs.FileText.{MidiFile}
use Rattle.midi_model.specs.Spelling.{IsDigits, IsQuantity, IsMessage, IsBody, IsEvent, IsTrack, IsNumber, IsTrackChunk, AreTracks, Spells}
use Rattle.midi_model.specs.Writing.{quantity_bytes, status_of, data_of, running_after, body_bytes, event_bytes, events_bytes, track_bytes, chunk_bytes, chunks_bytes, header_bytes, file_bytes, IsWritable, IsWritableFile}

-- ---- quantities

two : (n : ℕ) → n < 16384 → IsDigits ((128 + n / 128) ∷ n % 128 ∷ []) 0 n
two n h = (omega arith, (omega arith, omega arith))

three : (n : ℕ) → n < 2097152 → IsDigits ((128 + n / 16384) ∷ (128 + n / 128 % 128) ∷ n % 128 ∷ []) 0 n
three n h = (omega arith, (omega arith, (omega arith, omega arith)))

four : (n : ℕ) → n < 2 ^ 28 → IsDigits ((128 + n / 2097152) ∷ (128 + n / 16384 % 128) ∷ (128 + n / 128 % 128) ∷ n % 128 ∷ []) 0 n
four n h = (omega arith, (omega arith, (omega arith, (omega arith, omega arith))))

abbrev Spelt : ℕ → List ℕ → Type 0
Spelt n bytes = IsDigits bytes 0 n × (length bytes ≤ 4)

digits : (n : ℕ) → n < 2 ^ 28 → Spelt n (quantity_bytes n)
unfolding quantity_bytes
digits n h = elim (cases_Bool (ltb n 128)) [
  | inl a ↦ rw a ((ltb-true n 128 a, omega arith), lit≤ tt)
  | inr a ↦ rw a (elim (cases_Bool (ltb n 16384)) [
    | inl b ↦ rw b (two n (ltb-true n 16384 b), lit≤ tt)
    | inr b ↦ rw b (elim (cases_Bool (ltb n 2097152)) [
      | inl c ↦ rw c (three n (ltb-true n 2097152 c), lit≤ tt)
      | inr c ↦ rw c (four n h, lit≤ tt)
    ])
  ])
]

pub spelt_quantity : (n : ℕ) → n < 2 ^ 28 → IsQuantity (quantity_bytes n) n
spelt_quantity n h = let d = digits n h in record { digits = d.0; short = d.1 }

-- ---- messages

note_off : (c d e : ℕ) → c ≤ 15 → long_msg (128 + c) d e ≡ NoteOff c d e
note_off c d e h = rw (lt-ltb (128 + c) 144 (omega (arith, h))) (ap (λ n. NoteOff n d e) (omega arith))

note_on : (c d e : ℕ) → c ≤ 15 → long_msg (144 + c) d e ≡ NoteOn c d e
note_on c d e h = rw (le-ltb (144 + c) 144 (omega arith), lt-ltb (144 + c) 160 (omega (arith, h))) (ap (λ n. NoteOn n d e) (omega arith))

key_pressure : (c d e : ℕ) → c ≤ 15 → long_msg (160 + c) d e ≡ KeyPressure c d e
key_pressure c d e h = rw (le-ltb (160 + c) 144 (omega arith), le-ltb (160 + c) 160 (omega arith), lt-ltb (160 + c) 176 (omega (arith, h))) (ap (λ n. KeyPressure n d e) (omega arith))

control : (c d e : ℕ) → c ≤ 15 → long_msg (176 + c) d e ≡ Control c d e
control c d e h = rw (le-ltb (176 + c) 144 (omega arith), le-ltb (176 + c) 160 (omega arith), le-ltb (176 + c) 176 (omega arith), lt-ltb (176 + c) 192 (omega (arith, h))) (ap (λ n. Control n d e) (omega arith))

bend : (c d e : ℕ) → c ≤ 15 → long_msg (224 + c) d e ≡ Bend c (d + 128 * e)
bend c d e h = rw (le-ltb (224 + c) 144 (omega arith), le-ltb (224 + c) 160 (omega arith), le-ltb (224 + c) 176 (omega arith), le-ltb (224 + c) 192 (omega arith)) (ap (λ n. Bend n (d + 128 * e)) (omega arith))

program : (c d : ℕ) → c ≤ 15 → short_msg (192 + c) d ≡ Program c d
program c d h = rw (lt-ltb (192 + c) 208 (omega (arith, h))) (ap (λ n. Program n d) (omega arith))

pressure : (c d : ℕ) → c ≤ 15 → short_msg (208 + c) d ≡ Pressure c d
pressure c d h = rw (le-ltb (208 + c) 208 (omega arith)) (ap (λ n. Pressure n d) (omega arith))

spelt_msg : (m : Msg) → IsValidMsg m → IsMessage (status_of m) (data_of m) m
spelt_msg (NoteOff c d e) h = ((omega arith, omega (arith, h.0), inl (omega (arith, h.0))), omega (arith, h.1), omega (arith, h.2), sym (note_off c d e h.0))
spelt_msg (NoteOn c d e) h = ((omega arith, omega (arith, h.0), inl (omega (arith, h.0))), omega (arith, h.1), omega (arith, h.2), sym (note_on c d e h.0))
spelt_msg (KeyPressure c d e) h = ((omega arith, omega (arith, h.0), inl (omega (arith, h.0))), omega (arith, h.1), omega (arith, h.2), sym (key_pressure c d e h.0))
spelt_msg (Control c d e) h = ((omega arith, omega (arith, h.0), inl (omega (arith, h.0))), omega (arith, h.1), omega (arith, h.2), sym (control c d e h.0))
spelt_msg (Program c d) h = (omega arith, omega (arith, h.0), omega (arith, h.1), sym (program c d h.0))
spelt_msg (Pressure c d) h = (omega arith, omega (arith, h.0), omega (arith, h.1), sym (pressure c d h.0))
spelt_msg (Bend c v) h = ((omega arith, omega (arith, h.0), inr (omega arith)), omega (arith, h.1), omega (arith, h.1), ap (λ n. Bend c n) (omega arith) ∙ sym (bend c (v % 128) (v / 128) h.0))

-- ---- events

spelt_body : (running : ℕ) (w : MidiWhat) → IsValidWhat w → IsBody running (body_bytes running w) w (running_after w)
spelt_body running (Says m) h = elim (cases_Bool (eqb running (status_of m))) [
  | inl t ↦ (data_of m, spelt_msg m h, inr (rw t refl, eqb-true running (status_of m) t))
  | inr f ↦ (data_of m, spelt_msg m h, inl (rw f refl))
]
spelt_body running (SysexOf lead content) h = (quantity_bytes (length content), spelt_quantity (length content) h.1, refl, h.0, refl)
spelt_body running (MetaOf kind content) h = (quantity_bytes (length content), spelt_quantity (length content) h.0, refl, h.1, refl)

spelt_event : (running before : ℕ) (e : Timed) → before ≤ e.tick → e.tick < 2 ^ 28 → IsValidWhat e.what → IsEvent running before (event_bytes running before e) e (running_after e.what)
spelt_event running before e order range valid = record {
  delta = quantity_bytes (e.tick - before);
  distance = e.tick - before;
  body = body_bytes running e.what;
  is_delta = spelt_quantity (e.tick - before) (omega (arith, range));
  is_body = spelt_body running e.what valid;
  parts = refl;
  tick = omega (arith, order);
  in_time = range;
}

pub spelt_track : (running before : ℕ) (es : List Timed) → IsWritable before es → IsTrack running before (events_bytes running before es) es
unfolding events_bytes
spelt_track running before [] h = absurd h
spelt_track running before (e ∷ es) (order, range, valid, inl last) =
    (event_bytes running before e, events_bytes (running_after e.what) e.tick es, running_after e.what, spelt_event running before e order range valid, refl, inl last)
spelt_track running before (e ∷ es) (order, range, valid, inr more) =
    (event_bytes running before e, events_bytes (running_after e.what) e.tick es, running_after e.what, spelt_event running before e order range valid, refl, inr (more.0, spelt_track (running_after e.what) e.tick es more.1))

-- ---- chunks

long_number : (n : ℕ) → n < 2 ^ 32 → IsNumber w32 (to_be_bytes w32 n) n
long_number n h = record { len = refl; value = from_be_bytes-to_be_bytes_4 n h }

short_number : (n : ℕ) → n < 2 ^ 16 → IsNumber w16 (to_be_bytes w16 n) n
short_number n h = record { len = refl; value = from_be_bytes-to_be_bytes_2 n h }

spelt_chunk : (content : List ℕ) → length content < 2 ^ 32 → IsTrackChunk (chunk_bytes content) content
spelt_chunk content short = record {
  others = [];
  skipped = [];
  chunk = chunk_bytes content;
  are_skipped = refl;
  is_chunk = record {
    type_bytes = to_be_bytes w32 0x4d54726b;
    size_bytes = to_be_bytes w32 (length content);
    is_type = long_number 0x4d54726b (lit< tt);
    is_size = long_number (length content) short;
    parts = refl;
  };
  parts = refl;
}

-- a track whose length fits in its chunk
abbrev IsShort : List Timed → Type 0
IsShort es = length (track_bytes es) < 2 ^ 32

spelt_tracks : (ts : List (List Timed)) → All (IsWritable 0) ts → All IsShort ts → AreTracks ts (chunks_bytes (map track_bytes ts))
unfolding chunks_bytes
spelt_tracks [] h short = refl
spelt_tracks (es ∷ ts) h short = (
  chunk_bytes (track_bytes es),
  chunks_bytes (map track_bytes ts),
  track_bytes es,
  spelt_chunk (track_bytes es) (All-head IsShort es ts short),
  spelt_track 0 0 es (All-head (IsWritable 0) es ts h),
  refl,
  spelt_tracks ts (All-tail (IsWritable 0) es ts h) (All-tail IsShort es ts short),
)

pub spelt_file : (file : MidiFile) → IsWritableFile file → Spells (file_bytes file) file
unfolding file_bytes
spelt_file file h =
    let fields = to_be_bytes w16 file.format ++ (to_be_bytes w16 (length file.tracks) ++ to_be_bytes w16 file.division) in
    let tracks = chunks_bytes (map track_bytes file.tracks) in
    record {
      header = header_bytes file.format (length file.tracks) file.division;
      fields = fields;
      tracks = tracks;
      more = [];
      is_header = record {
        type_bytes = to_be_bytes w32 0x4d546864;
        size_bytes = to_be_bytes w32 6;
        is_type = long_number 0x4d546864 (lit< tt);
        is_size = long_number 6 (lit< tt);
        parts = refl;
      };
      are_fields = record {
        format_bytes = to_be_bytes w16 file.format;
        tracks_bytes = to_be_bytes w16 (length file.tracks);
        division_bytes = to_be_bytes w16 file.division;
        more = [];
        is_format = short_number file.format (omega (arith, h.format_0_or_1));
        is_tracks = short_number (length file.tracks) (omega (arith, h.few));
        is_division = short_number file.division h.division;
        parts = refl;
        one_or_more = h.one_or_more;
        one_in_0 = h.one_in_0;
        few = h.few;
        format_0_or_1 = h.format_0_or_1;
      };
      are_tracks = spelt_tracks file.tracks h.tracks h.short;
      parts = ap (λ r. header_bytes file.format (length file.tracks) file.division ++ r) (sym (append-nil tracks));
    }

-- ---- no spelling is shorter

at_most_2 : (n : ℕ) → n < 16384 → length (quantity_bytes n) ≤ 2
unfolding quantity_bytes
at_most_2 n h = elim (cases_Bool (ltb n 128)) [
  | inl a ↦ rw a (lit≤ tt)
  | inr a ↦ rw (a, lt-ltb n 16384 h) (lit≤ tt)
]

at_most_3 : (n : ℕ) → n < 2097152 → length (quantity_bytes n) ≤ 3
unfolding quantity_bytes
at_most_3 n h = elim (cases_Bool (ltb n 16384)) [
  | inl a ↦ omega (arith, at_most_2 n (ltb-true n 16384 a))
  | inr a ↦ let b : ltb n 128 ≡ false = le-ltb n 128 (omega (arith, ltb-false n 16384 a)) in rw (b, a, lt-ltb n 2097152 h) (lit≤ tt)
]

-- a spelling by bytes is at least as long
pub shortest : (bytes : List ℕ) (n : ℕ) → n < 2 ^ 28 → IsQuantity bytes n → AllByRecursion (λ (b : ℕ). b < 256) bytes → length (quantity_bytes n) ≤ length bytes
unfolding quantity_bytes
shortest [] n h q small = absurd q.digits
shortest (a ∷ []) n h q small = rw (lt-ltb n 128 (let r = q.digits in omega (arith, r.0, r.1))) (lit≤ tt)
shortest (a ∷ b ∷ []) n h q small = at_most_2 n (let r = q.digits in omega (arith, r.0, r.1.0, r.1.1, small.0))
shortest (a ∷ b ∷ c ∷ []) n h q small = at_most_3 n (let r = q.digits in omega (arith, r.0, r.1.0, r.1.1.0, r.1.1.1, small.0, small.1.0))
shortest (a ∷ b ∷ c ∷ d ∷ bs) n h q small = let e = (digits n h).1 in omega (arith, e)
