-- What is written is short enough for its chunks.
use Rattle.std.proofs.Common.{◌≡◌, ℕ, zero, suc, ◌+◌, ◌*◌, ◌^◌, ◌<◌, ◌≤◌, List, [], ◌∷◌, ◌++◌, length, map, filter, get_or, Bool, true, false, cond, not, ◌&&◌, eqb, nat_eq, ap, ◌∙◌, arith, inl, inr}
use Rattle.std.specs.Prelude.{All}
use Rattle.std.specs.List.{AllByRecursion}
use Rattle.std.proofs.lemmas.Bool.{cases_Bool}
use Rattle.std.proofs.lemmas.List.{map-append}
use Rattle.std.proofs.lemmas.List.Elements.{All-nil, All-cons, filter-append}
use Rattle.mt_base.specs.declared.event.Msg.{Msg}
use Rattle.mt_base.specs.declared.event.Msg.TheVariants.{NoteOn, NoteOff, KeyPressure, Control, Program, Pressure, Bend}
use Rattle.mt_base.specs.Midi.{Timed, MidiEvent}
use Rattle.midi_model.specs.FileText.{MidiFile}
use Rattle.midi_model.specs.Spelling.{Spells}
use Rattle.midi_model.specs.Sysex.{Doing, Plays, Resets, Tunes, Nothing, doing}
use Rattle.midi_model.specs.Writing.{Written, written, most_bytes}
use Rattle.midi_model.specs.SizeLaws.{most_of_track, WrittenIsWithinMost}
use Rattle.midi_model.specs.Merged.{of_track, merged, timed}
use Rattle.event_stream.specs.Distributed.{events_in, distributed_from}
use Rattle.retune_model.specs.Options.{Route, ByDump, ByLive, ByBend, ByMpe, Options}
use Rattle.retune_model.specs.Faults.{Targets, is_part}
use Rattle.retune_model.specs.Ports.{Numbered, port_of, ports_after, all_zero, events_on}
use Rattle.retune_model.specs.PortOutput.{kept_for, through_ports_from}
use Rattle.retune_model.specs.Blocks.{Group, Sends, Block, all_events}
use Rattle.retune_model.specs.Blocks as blocks
use Rattle.retune_model.specs.Dump.{has_note_on, from_up, dump_if, dump_setup, live_setup}
use Rattle.retune_model.specs.Routes.{Setup, Live, Told, nothing_told, sends, selects, setup_at, dump_before, dump_behind, dump_next, dump_block, change_due, live_before, live_next, live_block}
use Rattle.routes.specs.Laws.{AddsFewBytes, TracksAreShort}
use Rattle.routes.specs.Routed.{dump_of, change_of, routed, routed_by}
use Rattle.routes.proofs.Bytes.{dump_length, change_length}
use Rattle.routes.proofs.Dealt.{track_in_order}
use Rattle.event_stream.proofs.Dealing.{timed_placed}
use Rattle.routes.proofs.Premises.{ShortLaws}

-- ---- sums

most-append : (xs ys : List Timed) → most_of_track (xs ++ ys) ≡ most_of_track xs + most_of_track ys
most-append [] ys = omega arith
most-append (x ∷ xs) ys = omega (arith, most-append xs ys)

-- the most bytes that events take, in whichever track
abbrev pub all_most : List MidiEvent → ℕ
all_most [] = 0
all_most (e ∷ es) = most_bytes e.what + all_most es

all_most-append : (xs ys : List MidiEvent) → all_most (xs ++ ys) ≡ all_most xs + all_most ys
all_most-append [] ys = omega arith
all_most-append (x ∷ xs) ys = omega (arith, all_most-append xs ys)

-- the most bytes that the events of one track take
abbrev pub most_in : ℕ → List MidiEvent → ℕ
most_in t es = most_of_track (events_in t es)

most_in-append : (t : ℕ) (xs ys : List MidiEvent) → most_in t (xs ++ ys) ≡ most_in t xs + most_in t ys
most_in-append t xs ys =
    ap (λ l. most_of_track (map timed l)) (filter-append (λ (f : MidiEvent). eqb f.track t) xs ys)
    ∙ ap most_of_track (map-append timed (of_track t xs) (of_track t ys))
    ∙ most-append (events_in t xs) (events_in t ys)

most_within : (t : ℕ) (es : List MidiEvent) → most_in t es ≤ all_most es
most_within t [] = omega arith
most_within t (e ∷ es) = elim (cases_Bool (eqb e.track t)) [
  | inl same ↦ rw same (omega (arith, most_within t es))
  | inr other ↦ rw other (omega (arith, most_within t es))
]

-- ---- groups

abbrev pub group_most : List Group → ℕ
group_most gs = all_most (all_events gs)

group_most-append : (xs ys : List Group) → group_most (xs ++ ys) ≡ group_most xs + group_most ys
group_most-append [] ys = omega arith
group_most-append (x ∷ xs) ys = omega (
  arith,
  group_most-append xs ys,
  all_most-append (blocks.events_of x) (all_events (xs ++ ys)),
  all_most-append
      (blocks.events_of x) (all_events xs),
)

-- A setup of at most one dump of at most 407 bytes, and of selections on at most 16 channels.
pub record IsShortSetup (s : Setup) : Type 0 where
  pub one_dump : length s.dumps ≤ 1
  pub dumps : AllByRecursion (λ b. length b ≤ 407) s.dumps
  pub channels : length s.channels ≤ 16

sends_most : (t track : ℕ) (bs : List (List ℕ)) → AllByRecursion (λ b. length b ≤ 407) bs → group_most (sends t track bs) ≤ length bs * 416
sends_most t track [] h = omega arith
sends_most t track (b ∷ bs) h = omega (arith, h.0, sends_most t track bs h.1)

selects_most : (t track p : ℕ) (cs : List ℕ) → group_most (selects t track p cs) ≤ length cs * 35
selects_most t track p [] = omega arith
selects_most t track p (c ∷ cs) = omega (arith, selects_most t track p cs)

setup_most : (s : Setup) (e : MidiEvent) → IsShortSetup s → group_most (setup_at s e) ≤ 976
setup_most s e h =
    let dumps = sends_most e.tick e.track s.dumps h.dumps in
    let selections = selects_most e.tick e.track s.program s.channels in
    let both = group_most-append (sends e.tick e.track s.dumps) (selects e.tick e.track s.program s.channels) in
    omega (arith, dumps, selections, both, h.one_dump, h.channels)

-- at one event there is one setup at most
pub dump_most : (s : Setup) (b : Bool) (e : MidiEvent) (d : Doing) → IsShortSetup s
    → group_most (dump_before s b e d) + group_most (dump_behind s b e d) ≤ 976
dump_most s true e (Plays msg) h = omega arith
dump_most s false e (Plays msg) h = omega (arith, setup_most s e h)
dump_most s true e Resets h = omega (arith, setup_most s e h)
dump_most s false e Resets h = omega arith
dump_most s true e (Tunes r) h = omega arith
dump_most s false e (Tunes r) h = omega arith
dump_most s true e Nothing h = omega arith
dump_most s false e Nothing h = omega arith

due_if : (l : Live) (e : MidiEvent) (k : ℕ) (b : Bool) → length (l.change k) ≤ 11
    → group_most (cond b (Sends e.tick e.track (l.change k) ∷ []) []) ≤ 20
due_if l e k true h = omega (arith, h)
due_if l e k false h = omega arith

due_most : (l : Live) (s : Told) (e : MidiEvent) (msg : Msg) → ((k : ℕ) → length (l.change k) ≤ 11) → group_most (change_due l s e msg) ≤ 20
due_most l s e (NoteOn c k zero) h = omega arith
due_most l s e (NoteOn c k (suc v)) h = due_if l e k (l.is_retuned c && not (s.keys k)) (h k)
due_most l s e (NoteOff c k v) h = omega arith
due_most l s e (KeyPressure c k v) h = omega arith
due_most l s e (Control c k v) h = omega arith
due_most l s e (Program c v) h = omega arith
due_most l s e (Pressure c v) h = omega arith
due_most l s e (Bend c v) h = omega arith

live_most : (l : Live) (s : Told) (e : MidiEvent) (d : Doing) → IsShortSetup l.setup → ((k : ℕ) → length (l.change k) ≤ 11)
    → group_most (live_before l s e d) + group_most (dump_behind l.setup s.begun e d) ≤ 996
live_most l s e (Plays msg) h few =
    let both = group_most-append (dump_before l.setup s.begun e (Plays msg)) (change_due l s e msg) in
    omega (arith, both, dump_most l.setup s.begun e (Plays msg) h, due_most l s e msg few)
live_most l s e Resets h few = omega (arith, dump_most l.setup s.begun e Resets h)
live_most l s e (Tunes r) h few = omega (arith, dump_most l.setup s.begun e (Tunes r) h)
live_most l s e Nothing h few = omega (arith, dump_most l.setup s.begun e Nothing h)

-- ---- blocks

pub block_most : (t : ℕ) (b : Block) → group_most b.before + group_most b.behind ≤ 1600 → most_in t (blocks.written b) ≤ most_in t (b.event ∷ []) + 1600
block_most t b few =
    let one = most_in-append t (all_events b.before) (b.event ∷ all_events b.behind) in
    let two = most_in-append t (b.event ∷ []) (all_events b.behind) in
    omega (arith, one, two, few, most_within t (all_events b.before), most_within t (all_events b.behind))

pub through_most : {S : Type 0} (t : ℕ) (block : ℕ → S → Numbered → List MidiEvent) (next : ℕ → S → Numbered → S)
    → ((z : ℕ) (s : S) (n : Numbered) → most_in t (block z s n) ≤ most_in t (n.event ∷ []) + 1600)
    → (ports : ℕ → ℕ) (k : ℕ) (s : ℕ → S) (es : List MidiEvent)
    → most_in t (through_ports_from block next ports k s es) ≤ most_in t es + 1600 * length es
through_most t block next few ports k s [] = omega arith
through_most t block next few ports k s (e ∷ es) =
    let z = port_of ports e in
    let n : Numbered = record { position = suc k; event = e } in
    let later = through_ports_from block next (ports_after ports e) (suc k) (kept_for z (next z (s z) n) s) es in
    let others = through_most t block next few (ports_after ports e) (suc k) (kept_for z (next z (s z) n) s) es in
    let both = most_in-append t (block z (s z) n) later in
    let source = most_in-append t (e ∷ []) es in
    omega (arith, few z (s z) n, others, both, source)

-- ---- the setups of the routes

filter_few : (p : ℕ → Bool) (xs : List ℕ) → length (filter p xs) ≤ length xs
filter_few p [] = omega arith
filter_few p (x ∷ xs) = elim (cases_Bool (p x)) [
  | inl picked ↦ rw picked (omega (arith, filter_few p xs))
  | inr left ↦ rw left (omega (arith, filter_few p xs))
]

pub one_if : (b : Bool) (bytes : List ℕ) → length (dump_if b bytes) ≤ 1
one_if true bytes = omega arith
one_if false bytes = omega arith

pub each_if : (b : Bool) (bytes : List ℕ) → length bytes ≤ 407 → AllByRecursion (λ x. length x ≤ 407) (dump_if b bytes)
each_if true bytes h = (h, tt)
each_if false bytes h = tt

short_dump : (o : Options) (bytes : List ℕ) (es : List MidiEvent) → length bytes ≤ 407 → IsShortSetup (dump_setup o bytes es)
short_dump o bytes es len = record {
  one_dump = one_if (has_note_on (is_part o) es) bytes;
  dumps = each_if (has_note_on (is_part o) es) bytes len;
  channels = filter_few (λ c. is_part o c && has_note_on (λ d. nat_eq d c) es) (from_up 0 16);
}

short_live : (o : Options) (change : ℕ → List ℕ) (es : List MidiEvent) → IsShortSetup (live_setup o change es).setup
short_live o change es = record {
  one_dump = omega arith;
  dumps = tt;
  channels = filter_few (λ c. is_part o c && has_note_on (λ d. nat_eq d c) es) (from_up 0 16);
}

dumped_few : (o : Options) (table : Targets) (es : List MidiEvent) (t : ℕ) → most_in t (routed_by ByDump o table es) ≤ most_in t es + 1600 * length es
dumped_few o table es t = through_most t
    (λ z b n. blocks.written (dump_block (dump_setup o (dump_of o table) (events_on z es)) b n.event)) (λ z b n. dump_next b (doing n.event.what))
    (λ z b n. let s = dump_setup o (dump_of o table) (events_on z es) in
    block_most t (dump_block s b n.event) (omega (
      arith,
      dump_most s b n.event (doing n.event.what)
          (short_dump o (dump_of o table) (events_on z es) (omega (arith, dump_length o table))),
    )))
    all_zero 0 (λ z. false) es

live_few : (o : Options) (table : Targets) (es : List MidiEvent) (t : ℕ) → most_in t (routed_by ByLive o table es) ≤ most_in t es + 1600 * length es
live_few o table es t = through_most t
    (λ z s n. blocks.written (live_block (live_setup o (change_of o table) (events_on z es)) s n.event))
    (λ z s n. live_next (live_setup o (change_of o table) (events_on z es)) s (doing n.event.what))
    (λ z s n. let l = live_setup o (change_of o table) (events_on z es) in
    block_most t (live_block l s n.event) (omega (
      arith,
      live_most l s n.event (doing n.event.what)
          (short_live o (change_of o table) (events_on z es)) (λ k. omega (arith, change_length o table k)),
    )))
    all_zero 0 (λ z. nothing_told) es

routed_few : (route : Route) (o : Options) (table : Targets) (es : List MidiEvent) (t : ℕ)
    → most_in t (routed_by route o table es) ≤ most_in t es + 1600 * length es
routed_few ByDump o table es t = dumped_few o table es t
routed_few ByLive o table es t = live_few o table es t
routed_few ByBend o table es t = dumped_few o table es t
routed_few ByMpe o table es t = dumped_few o table es t

pub adds_few : AddsFewBytes
adds_few o table es t = routed_few o.route o table es t

-- ---- a file

pub source_most : ShortLaws → (bytes : List ℕ) (file : MidiFile) → Spells bytes file → length bytes ≤ 4194304 → (t : ℕ)
    → most_in t (merged file) ≤ 4 * length bytes
source_most laws bytes file is few t =
    let order = track_in_order 0 t t file.tracks (omega arith) (laws.tracks bytes file (omega (arith, few)) is) in
    let same : events_in t (merged file) ≡ get_or file.tracks t [] = ap (map timed) (laws.kept t file order)
    ∙ timed_placed t (get_or file.tracks t []) in
    omega (arith, ap most_of_track same, laws.within_file bytes file is t)

abbrev pub IsShort : Written → Type 0
IsShort w = length w.bytes < 2 ^ 32

pub all_short : WrittenIsWithinMost → (n m : ℕ) (es : List MidiEvent) → ((t : ℕ) → t < n + m → most_in t es < 2 ^ 32)
    → All IsShort (map written (distributed_from n m es))
all_short within n zero es h = All-nil IsShort
all_short within n (suc m) es h =
    All-cons IsShort (written (events_in n es)) (map written (distributed_from (suc n) m es))
    (omega (arith, within (events_in n es), h n (omega arith)))
    (all_short within (suc n) m es (λ t lt. h t (omega (arith, lt))))

pub short : ShortLaws → TracksAreShort
short laws bytes file o table is few = all_short laws.within_most 0 (length file.tracks) (routed o table (merged file)) (λ t lt.
    let source = source_most laws bytes file is few t in
    let put = adds_few o table (merged file) t in
    omega (arith, source, put, few, laws.few_events bytes file is))
