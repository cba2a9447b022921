-- What bytes spell, by cases (Standard MIDI File 1.0; channel messages by the MIDI 1.0 Detailed Specification).
use Rattle.std.specs.Prelude.{◌≡◌, ◌<◌, ◌≤◌, ◌⊎◌, ℕ, ◌+◌, ◌-◌, ◌*◌, ◌^◌, List, [], ◌∷◌, ◌++◌, length, true, false}
use Rattle.mt_base.specs.declared.event.Msg.{Msg}
use Rattle.mt_base.specs.Midi.{MidiWhat, Says, SysexOf, MetaOf, Timed, is_end}
use Rattle.std.specs.Int.{Width, w16, w32, byte_len, from_be_bytes}
use Rattle.midi_model.specs.declared.numbers.TheConstants.{MTHD, MTRK, MOST_TRACKS}
use Rattle.midi_model.specs.FileText.{MidiFile}
use Rattle.midi_model.specs.Reading.{long_msg, short_msg, IsLong}

-- Seven bits a byte, the high part first: a byte from 128 on has more after it, a byte below 128 is the last.
abbrev pub IsDigits : List ℕ → ℕ → ℕ → Type 0
IsDigits [] before n = ⊥
IsDigits (b ∷ []) before n = (b < 128) × (n ≡ before * 128 + b)
IsDigits (b ∷ c ∷ bs) before n = (128 ≤ b) × IsDigits (c ∷ bs) (before * 128 + (b - 128)) n

-- A variable-length quantity has one to four bytes.
pub record IsQuantity (bytes : List ℕ) (n : ℕ) : Type 0 where
  pub digits : IsDigits bytes 0 n
  pub short : length bytes ≤ 4

-- the data bytes of a message with a status byte
abbrev pub IsMessage : ℕ → List ℕ → Msg → Type 0
IsMessage status [] m = ⊥
IsMessage status (d ∷ []) m = (192 ≤ status) × (status < 224) × (d < 128) × (m ≡ short_msg status d)
IsMessage status (d ∷ e ∷ []) m = IsLong status × (d < 128) × (e < 128) × (m ≡ long_msg status d e)
IsMessage status (d ∷ e ∷ f ∷ bs) m = ⊥

-- an event behind its delta, with the running status before and after it; 0 is none
abbrev pub IsBody : ℕ → List ℕ → MidiWhat → ℕ → Type 0
IsBody running bytes (Says m) after = (data_bytes : List ℕ) × IsMessage after data_bytes m × ((bytes ≡ after ∷ data_bytes) ⊎ ((bytes ≡ data_bytes) × (running ≡ after)))
IsBody running bytes (SysexOf lead content) after = (len : List ℕ) × IsQuantity len (length content) × (bytes ≡ lead ∷ (len ++ content)) × ((lead ≡ 240) ⊎ (lead ≡ 247)) × (after ≡ 0)
IsBody running bytes (MetaOf kind content) after = (len : List ℕ) × IsQuantity len (length content) × (bytes ≡ 255 ∷ kind ∷ (len ++ content)) × (kind ≡ 47 → length content ≡ 0) × (after ≡ 0)

-- an event, where those before it end at a tick
pub record IsEvent (running before : ℕ) (bytes : List ℕ) (e : Timed) (after : ℕ) : Type 0 where
  pub delta : List ℕ
  pub distance : ℕ
  pub body : List ℕ
  pub is_delta : IsQuantity delta distance
  pub is_body : IsBody running body e.what after
  pub parts : bytes ≡ delta ++ body
  pub tick : e.tick ≡ before + distance
  pub in_time : e.tick < 2 ^ 28

-- events up to the end of the track, and then anything
abbrev pub IsTrack : ℕ → ℕ → List ℕ → List Timed → Type 0
IsTrack running before bytes [] = ⊥
IsTrack running before bytes (e ∷ es) = (front : List ℕ) × (rest : List ℕ) × (after : ℕ) × IsEvent running before front e after × (bytes ≡ front ++ rest)
    × (((is_end e.what ≡ true) × (es ≡ [])) ⊎ ((is_end e.what ≡ false) × IsTrack after e.tick rest es))

-- bytes that say a number, the high part first
pub record IsNumber (w : Width) (bytes : List ℕ) (n : ℕ) : Type 0 where
  pub len : length bytes ≡ byte_len w
  pub value : from_be_bytes w bytes ≡ n

-- a chunk: four bytes of type, four bytes of length, the content
pub record IsChunk (bytes : List ℕ) (name : ℕ) (content : List ℕ) : Type 0 where
  pub type_bytes : List ℕ
  pub size_bytes : List ℕ
  pub is_type : IsNumber w32 type_bytes name
  pub is_size : IsNumber w32 size_bytes (length content)
  pub parts : bytes ≡ type_bytes ++ (size_bytes ++ content)

-- chunks whose type isn't `MTrk`
abbrev pub AreSkipped : List (ℕ × List ℕ) → List ℕ → Type 0
AreSkipped [] bytes = bytes ≡ []
AreSkipped (c ∷ cs) bytes = (front : List ℕ) × (rest : List ℕ) × IsChunk front c.0 c.1 × (c.0 ≡ MTRK → ⊥) × (bytes ≡ front ++ rest) × AreSkipped cs rest

-- a track chunk with those that are skipped before it
pub record IsTrackChunk (bytes content : List ℕ) : Type 0 where
  pub others : List (ℕ × List ℕ)
  pub skipped : List ℕ
  pub chunk : List ℕ
  pub are_skipped : AreSkipped others skipped
  pub is_chunk : IsChunk chunk MTRK content
  pub parts : bytes ≡ skipped ++ chunk

-- track chunks, each with the events of its content
abbrev pub AreTracks : List (List Timed) → List ℕ → Type 0
AreTracks [] bytes = bytes ≡ []
AreTracks (es ∷ ts) bytes = (front : List ℕ) × (rest : List ℕ) × (content : List ℕ) × IsTrackChunk front content × IsTrack 0 0 content es × (bytes ≡ front ++ rest) × AreTracks ts rest

-- the content of a header: six bytes of numbers, and then anything
pub record IsFields (bytes : List ℕ) (format tracks division : ℕ) : Type 0 where
  pub format_bytes : List ℕ
  pub tracks_bytes : List ℕ
  pub division_bytes : List ℕ
  pub more : List ℕ
  pub is_format : IsNumber w16 format_bytes format
  pub is_tracks : IsNumber w16 tracks_bytes tracks
  pub is_division : IsNumber w16 division_bytes division
  pub parts : bytes ≡ format_bytes ++ (tracks_bytes ++ (division_bytes ++ more))
  pub one_or_more : 0 < tracks
  pub one_in_0 : format ≡ 0 → tracks ≡ 1
  pub few : tracks ≤ MOST_TRACKS
  pub format_0_or_1 : format ≤ 1

-- a file: its header, its tracks, and then anything
pub record Spells (bytes : List ℕ) (file : MidiFile) : Type 0 where
  pub header : List ℕ
  pub fields : List ℕ
  pub tracks : List ℕ
  pub more : List ℕ
  pub is_header : IsChunk header MTHD fields
  pub are_fields : IsFields fields file.format (length file.tracks) file.division
  pub are_tracks : AreTracks file.tracks tracks
  pub parts : bytes ≡ header ++ (tracks ++ more)
