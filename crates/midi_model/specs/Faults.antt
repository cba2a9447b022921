-- The first fault of bytes that spell no file (Standard MIDI File 1.0; the table of faults is this project's own): what
-- is wrong right after the longest prefix of the bytes that breaks no rule. Each relation speaks of bytes, of those of
-- them from the fault on, and of its kind. A fault at the end of a chunk, or of the bytes, has no bytes from it on.
use Rattle.std.specs.Prelude.{◌≡◌, ◌<◌, ◌≤◌, ◌⊎◌, ℕ, zero, suc, ◌+◌, ◌-◌, List, [], ◌∷◌, ◌++◌, length, drop, false}
use Rattle.std.specs.Int.{w16, w32}
use Rattle.midi_model.specs.declared.numbers.TheConstants.{MTHD, MTRK, MOST_TRACKS, LAST_TICK}
use Rattle.midi_model.specs.declared.fault.SmfKind.{SmfKind}
use Rattle.midi_model.specs.declared.fault.SmfKind.TheVariants.{NotMidi, BadHeader, Format2, FormatNumber, Truncated, MissingTrack, BadDelta, NoStatus, BadStatus, BadData, MissingEnd, TrackTooLong, TooManyTracks}
use Rattle.mt_base.specs.Midi.{Timed, is_end}
use Rattle.midi_model.specs.Reading.{IsLong}
use Rattle.midi_model.specs.Spelling.{IsQuantity, IsEvent, IsNumber, IsChunk, IsFields, AreSkipped, AreTracks}

-- A quantity of which so many bytes may come after the next one: it is cut off, or its last byte has another after it.
abbrev pub DigitsFault : ℕ → List ℕ → List ℕ → SmfKind → Type 0
DigitsFault turns [] back kind = (back ≡ []) × (kind ≡ Truncated)
DigitsFault zero (b ∷ bytes) back kind = (128 ≤ b) × (back ≡ b ∷ bytes) × (kind ≡ BadDelta)
DigitsFault (suc turns) (b ∷ bytes) back kind = (128 ≤ b) × DigitsFault turns bytes back kind

abbrev pub QuantityFault : List ℕ → List ℕ → SmfKind → Type 0
QuantityFault bytes back kind = DigitsFault 3 bytes back kind

-- a data byte
abbrev pub DataFault : List ℕ → List ℕ → SmfKind → Type 0
DataFault [] back kind = (back ≡ []) × (kind ≡ Truncated)
DataFault (b ∷ bytes) back kind = (128 ≤ b) × (back ≡ b ∷ bytes) × (kind ≡ BadData)

-- the data bytes of a message with a status byte
abbrev pub MessageFault : ℕ → List ℕ → List ℕ → SmfKind → Type 0
MessageFault status bytes back kind = DataFault bytes back kind ⊎ ((d : ℕ) × (rest : List ℕ) × (bytes ≡ d ∷ rest) × (d < 128) × IsLong status × DataFault rest back kind)

-- so many bytes
abbrev pub BytesFault : ℕ → List ℕ → List ℕ → SmfKind → Type 0
BytesFault n bytes back kind = (length bytes < n) × (back ≡ []) × (kind ≡ Truncated)

-- a length and that many bytes
abbrev pub ContentFault : List ℕ → List ℕ → SmfKind → Type 0
ContentFault bytes back kind = QuantityFault bytes back kind ⊎ ((len : List ℕ) × (n : ℕ) × (rest : List ℕ) × IsQuantity len n × (bytes ≡ len ++ rest) × BytesFault n rest back kind)

-- a meta event behind its first byte
abbrev pub MetaFault : List ℕ → List ℕ → SmfKind → Type 0
MetaFault [] back kind = (back ≡ []) × (kind ≡ Truncated)
MetaFault (type_byte ∷ bytes) back kind = QuantityFault bytes back kind ⊎ ((len : List ℕ) × (n : ℕ) × (rest : List ℕ) × IsQuantity len n × (bytes ≡ len ++ rest)
    × (((type_byte ≡ 47) × (0 < n) × (back ≡ bytes) × (kind ≡ BadData)) ⊎ ((type_byte ≡ 47 → n ≡ 0) × BytesFault n rest back kind)))

-- an event behind its delta
abbrev pub BodyFault : ℕ → List ℕ → List ℕ → SmfKind → Type 0
BodyFault running [] back kind = (back ≡ []) × (kind ≡ Truncated)
BodyFault running (b ∷ bytes) back kind =
    ((b < 128) × (running ≡ 0) × (back ≡ b ∷ bytes) × (kind ≡ NoStatus))
    ⊎ (((b < 128) × (0 < running) × MessageFault running (b ∷ bytes) back kind)
    ⊎ (((128 ≤ b) × (b < 240) × MessageFault b bytes back kind)
    ⊎ ((((b ≡ 240) ⊎ (b ≡ 247)) × ContentFault bytes back kind)
    ⊎ (((b ≡ 255) × MetaFault bytes back kind)
    ⊎ ((240 < b) × (b ≡ 247 → ⊥) × (b ≡ 255 → ⊥) × (back ≡ b ∷ bytes) × (kind ≡ BadStatus))))))

-- an event, where those before it end at a tick
abbrev pub EventFault : ℕ → ℕ → List ℕ → List ℕ → SmfKind → Type 0
EventFault running before bytes back kind = QuantityFault bytes back kind ⊎ ((delta : List ℕ) × (distance : ℕ) × (rest : List ℕ) × IsQuantity delta distance × (bytes ≡ delta ++ rest)
    × (((LAST_TICK < before + distance) × (back ≡ bytes) × (kind ≡ TrackTooLong)) ⊎ ((before + distance ≤ LAST_TICK) × BodyFault running rest back kind)))

-- whole events none of which ends the track, with the running status and the tick behind them
abbrev pub AreEvents : ℕ → ℕ → List ℕ → List Timed → ℕ → ℕ → Type 0
AreEvents running before bytes [] after tick = (bytes ≡ []) × (after ≡ running) × (tick ≡ before)
AreEvents running before bytes (e ∷ es) after tick = (front : List ℕ) × (rest : List ℕ) × (status : ℕ) × IsEvent running before front e status × (is_end e.what ≡ false) × (bytes ≡ front ++ rest)
    × AreEvents status e.tick rest es after tick

-- The content of a track chunk: whole events, and then no event at all, or one with a fault.
pub record TrackFault (running before : ℕ) (content back : List ℕ) (kind : SmfKind) : Type 0 where
  pub front : List ℕ
  pub rest : List ℕ
  pub events : List Timed
  pub after : ℕ
  pub tick : ℕ
  pub are_events : AreEvents running before front events after tick
  pub parts : content ≡ front ++ rest
  pub fault : ((rest ≡ []) × (back ≡ []) × (kind ≡ MissingEnd)) ⊎ ((0 < length rest) × EventFault after tick rest back kind)

-- a type, a length, and what is behind them
pub record IsHead (bytes : List ℕ) (name size : ℕ) (after : List ℕ) : Type 0 where
  pub type_bytes : List ℕ
  pub size_bytes : List ℕ
  pub is_type : IsNumber w32 type_bytes name
  pub is_size : IsNumber w32 size_bytes size
  pub parts : bytes ≡ type_bytes ++ (size_bytes ++ after)

-- a place where a chunk should begin
abbrev pub ChunkFault : List ℕ → List ℕ → SmfKind → Type 0
ChunkFault bytes back kind =
    ((length bytes < 8) × (back ≡ bytes) × (kind ≡ MissingTrack))
    ⊎ ((name : ℕ) × (size : ℕ) × (after : List ℕ) × IsHead bytes name size after × BytesFault size after back kind)

-- Chunks that are skipped, and then no whole chunk, or a track chunk with a fault in it.
pub record NextFault (bytes back : List ℕ) (kind : SmfKind) : Type 0 where
  pub others : List (ℕ × List ℕ)
  pub skipped : List ℕ
  pub rest : List ℕ
  pub are_skipped : AreSkipped others skipped
  pub parts : bytes ≡ skipped ++ rest
  pub fault : ChunkFault rest back kind
      ⊎ ((chunk : List ℕ) × (content : List ℕ) × (after : List ℕ) × (inside : List ℕ) × IsChunk chunk MTRK content × (rest ≡ chunk ++ after) × TrackFault 0 0 content inside kind × (back ≡ inside ++ after))

-- Fewer whole tracks than the header declares, each with the chunks that are skipped before it, and then a fault.
pub record TracksFault (count : ℕ) (bytes back : List ℕ) (kind : SmfKind) : Type 0 where
  pub tracks : List (List Timed)
  pub front : List ℕ
  pub rest : List ℕ
  pub are_tracks : AreTracks tracks front
  pub fewer : length tracks < count
  pub parts : bytes ≡ front ++ rest
  pub next : NextFault rest back kind

-- the content of a header, behind its length
pub record FieldsFault (bytes back : List ℕ) (kind : SmfKind) : Type 0 where
  pub format : ℕ
  pub tracks : ℕ
  pub format_bytes : List ℕ
  pub tracks_bytes : List ℕ
  pub more : List ℕ
  pub is_format : IsNumber w16 format_bytes format
  pub is_tracks : IsNumber w16 tracks_bytes tracks
  pub parts : bytes ≡ format_bytes ++ (tracks_bytes ++ more)
  pub fault : ((format ≡ 2) × (back ≡ bytes) × (kind ≡ Format2))
      ⊎ (((2 < format) × (back ≡ bytes) × (kind ≡ FormatNumber))
      ⊎ (((format ≤ 1) × ((tracks ≡ 0) ⊎ ((format ≡ 0) × (tracks ≡ 1 → ⊥))) × (back ≡ tracks_bytes ++ more) × (kind ≡ BadHeader))
      ⊎ ((format ≡ 1) × (MOST_TRACKS < tracks) × (back ≡ tracks_bytes ++ more) × (kind ≡ TooManyTracks))))

-- the header
abbrev pub HeaderFault : List ℕ → List ℕ → SmfKind → Type 0
HeaderFault bytes back kind =
    ((length bytes < 4) × (back ≡ bytes) × (kind ≡ NotMidi))
    ⊎ (((name : ℕ) × (first : List ℕ) × (rest : List ℕ) × IsNumber w32 first name × (bytes ≡ first ++ rest)
    × (((name ≡ MTHD → ⊥) × (back ≡ bytes) × (kind ≡ NotMidi)) ⊎ ((name ≡ MTHD) × (length rest < 4) × (back ≡ []) × (kind ≡ Truncated))))
    ⊎ ((size : ℕ) × (after : List ℕ) × IsHead bytes MTHD size after
    × (((size < 6) × (back ≡ drop 4 bytes) × (kind ≡ BadHeader)) ⊎ (((6 ≤ size) × BytesFault size after back kind) ⊎ ((6 ≤ size) × (size ≤ length after) × FieldsFault after back kind)))))

-- a file: the header, or what is behind a whole one
abbrev pub FileFault : List ℕ → List ℕ → SmfKind → Type 0
FileFault bytes back kind = HeaderFault bytes back kind
    ⊎ ((header : List ℕ) × (fields : List ℕ) × (rest : List ℕ) × (format : ℕ) × (tracks : ℕ) × (division : ℕ) × IsChunk header MTHD fields × IsFields fields format tracks division × (bytes ≡ header ++ rest) × TracksFault tracks rest back kind)

-- The bytes' first fault, at an offset from their start.
pub record FirstFault (bytes : List ℕ) (offset : ℕ) (kind : SmfKind) : Type 0 where
  pub back : List ℕ
  pub place : offset ≡ length bytes - length back
  pub fault : FileFault bytes back kind

-- chunks of any type, one after the other
abbrev pub AreChunks : List (ℕ × List ℕ) → List ℕ → Type 0
AreChunks [] bytes = bytes ≡ []
AreChunks (c ∷ cs) bytes = (front : List ℕ) × (rest : List ℕ) × IsChunk front c.0 c.1 × (bytes ≡ front ++ rest) × AreChunks cs rest

-- An offset where a chunk should begin: a header and whole chunks stand before it.
pub record IsChunkPlace (bytes : List ℕ) (offset : ℕ) : Type 0 where
  pub header : List ℕ
  pub fields : List ℕ
  pub chunks : List (ℕ × List ℕ)
  pub front : List ℕ
  pub rest : List ℕ
  pub is_header : IsChunk header MTHD fields
  pub are_chunks : AreChunks chunks front
  pub parts : bytes ≡ header ++ (front ++ rest)
  pub place : offset ≡ length header + length front

-- What is wrong with the first n bytes of a file that end before its last track chunk does: a short file is none at all; else
-- it is cut off at its end, or fewer than eight bytes are left where a chunk should begin.
abbrev pub CutFault : List ℕ → ℕ → ℕ → SmfKind → Type 0
CutFault bytes n offset kind =
    ((n < 4) × (offset ≡ 0) × (kind ≡ NotMidi))
    ⊎ ((4 ≤ n) × (((offset ≡ n) × (kind ≡ Truncated)) ⊎ ((offset ≤ n) × (n < offset + 8) × (kind ≡ MissingTrack) × IsChunkPlace bytes offset)))
