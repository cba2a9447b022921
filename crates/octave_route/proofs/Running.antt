-- The octave route's output for one port, event by event: it plays the same as the port's source.
use Rattle.std.proofs.Common.{◌≡◌, ℕ, zero, suc, List, [], ◌∷◌, ◌++◌, Bool, true, false, cond, Some, refl, ap, sym, ◌∙◌, subst, append_assoc, append-nil, ◌+◌}
use Rattle.std.specs.List.{AllByRecursion, filter}
use Rattle.mt_base.specs.declared.event.Msg.{Msg}
use Rattle.mt_base.specs.declared.event.Msg.TheVariants.{NoteOn, NoteOff, KeyPressure, Control, Program, Pressure, Bend}
use Rattle.mt_base.specs.Midi.{MidiWhat, Says, SysexOf, MetaOf, MidiEvent}
use Rattle.midi_model.specs.Sysex.{Doing, Plays, Resets, Tunes, Nothing, doing}
use Rattle.midi_model.specs.Zones.{no_zones}
use Rattle.midi_model.specs.Notes.{Note, sounds}
use Rattle.midi_model.specs.Music.{Music, quiet, advance, step, play}
use Rattle.midi_model.specs.MusicLaws.{NotesFade}
use Rattle.midi_model.specs.Receiver.{start, after}
use Rattle.retune_model.specs.Table.{Scaling}
use Rattle.retune_model.specs.Options.{Options, ByDump, bends_notes, keeps_drums, is_retuned}
use Rattle.retune_model.specs.PlaysTheSame.{Pairwise, retuned_notes, key_of, bend_target_if, output_key, IsSameNote, SoundsTheSame, last_note, begins_note, beginning, beginnings_from, BeginsAlike, state_of, IsWithin}
use Rattle.retune_model.specs.Faults.{Targets, is_part}
use Rattle.retune_model.specs.Blocks.{all_events, written}
use Rattle.retune_model.specs.Routes.{Setup, sends, setup_at, dump_before, dump_behind, dump_next, dump_block}
use Rattle.retune_model.specs.Dump.{has_note_on, dump_if}
use Rattle.retune_model.specs.Plain.{ArePlain, has_begun}
use Rattle.retune_model.specs.Octave.{octave_device, octave_played}
use Rattle.retune_model.specs.Source.{source_pitch}
use Rattle.midi_model.specs.Params.{value_of}
use Rattle.retune_model.proofs.Begun.{AllNotes}
use Rattle.retune_model.proofs.DumpSame.{pairwise_same, pairwise_append, of_notes, every_note, LastHas, last_begun, event}
use Rattle.retune_model.proofs.Faultless.{AreFineFrom, no_zones_step}
use Rattle.retune_model.proofs.Fronts.{all_weaker, blocks}
use Rattle.retune_model.proofs.Served.{IsKnown}
use Rattle.retune_model.proofs.Steady.{receive_all-append}
use Rattle.octave_route.specs.Messages.{octave_bytes, WrittenIsRead}
use Rattle.octave_route.specs.Output.{parts_number, octave_setup}
use Rattle.octave_route.proofs.Heard.{Serves, heard}
use Rattle.octave_route.proofs.Keyed.{IsKeyed, IsKeyedIn, Uses, keyed_step}
use Rattle.octave_route.proofs.Stays.{Stays, stays_start, stays_before, stays_event, stays_block, still, in_parts}

-- what the proof takes of the crates below
pub record Given (scaling : Scaling) (o : Options) (table : Targets) (used : ℕ) (values : List ℕ) : Type 0 where
  pub serves : Serves scaling o table used values
  pub again : WrittenIsRead
  pub fade : NotesFade

-- what is known of each event of the source that is still to come
pub record AreGood (o : Options) (table : Targets) (used : ℕ) (source : List MidiEvent) (m : Music) (es : List MidiEvent) : Type 0 where
  pub fine : AreFineFrom o table m es
  pub plain : ArePlain (is_part o) m es
  pub known : AllByRecursion (IsKnown o source) es
  pub uses : AllByRecursion (λ e. Uses o used e.what) es

-- A front of the source was taken, whose music is m, and out was written for it.
pub record Runs (o : Options) (table : Targets) (used : ℕ) (values : List ℕ) (source : List MidiEvent) (b : Bool) (m : Music) (out : List MidiEvent)
    : Type 0 where
  pub stays : Stays o values source b m out
  -- before any channel message there is no note
  pub silent : b ≡ false → m.notes ≡ []
  pub zones : m.zones ≡ no_zones
  pub keyed : AllNotes (IsKeyedIn o table used source) m.notes

pub runs_start : (o : Options) (table : Targets) (used : ℕ) (values : List ℕ) (source : List MidiEvent)
    → Runs o table used values source false quiet []
runs_start o table used values source = record { stays = stays_start o values source; silent = λ e. refl; zones = refl; keyed = tt }

silent_next : (b : Bool) (m : Music) (t : ℕ) (d : Doing) → (b ≡ false → m.notes ≡ []) → dump_next b d ≡ false → (advance t d m).notes ≡ []
silent_next b m t (Plays msg) h is = absurd (let no : ⊥ = cc in no)
silent_next true m t Resets h is = absurd (let no : ⊥ = cc in no)
silent_next false m t Resets h is = rw (h refl) refl
silent_next b m t (Tunes r) h is = h is
silent_next b m t Nothing h is = h is

runs_next : (scaling : Scaling) (o : Options) (table : Targets) (used : ℕ) (values : List ℕ) (source : List MidiEvent) (b : Bool) (m : Music) (out :
    List MidiEvent) (e : MidiEvent) (es : List MidiEvent)
    → Given scaling o table used values → AreGood o table used source m (e ∷ es) → Runs o table used values source b m out
    → Runs o table used values source (dump_next b (doing e.what)) (step m e) (out ++ written (dump_block (octave_setup o values source) b e))
runs_next scaling o table used values source b m out e es g good r = record {
  stays = stays_block g.again o table values source b m out e g.serves.twelve g.serves.range good.fine.0 good.plain.0 r.stays;
  silent = silent_next b m e.tick (doing e.what) r.silent;
  zones = no_zones_step o table m e good.fine.0 r.zones;
  keyed = keyed_step g.fade o table used source m e good.fine.0 good.known.0 good.uses.0 r.keyed;
}

good_next : (o : Options) (table : Targets) (used : ℕ) (source : List MidiEvent) (m : Music) (e : MidiEvent) (es : List MidiEvent)
    → AreGood o table used source m (e ∷ es) → AreGood o table used source (step m e) es
good_next o table used source m e es h = record { fine = h.fine.1; plain = h.plain.1; known = h.known.1; uses = h.uses.1 }

pub runs_all : (scaling : Scaling) (o : Options) (table : Targets) (used : ℕ) (values : List ℕ) (source : List MidiEvent) (b : Bool) (m : Music) (out
    : List MidiEvent) (es : List MidiEvent)
    → Given scaling o table used values → AreGood o table used source m es → Runs o table used values source b m out
    → Runs o table used values source (has_begun b es) (play m es) (out ++ blocks (octave_setup o values source) b es)
runs_all scaling o table used values source b m out [] g good r = subst (λ l. Runs o table used values source b m l) (sym (append-nil out)) r
runs_all scaling o table used values source b m out (e ∷ es) g good r =
    let s : Setup = octave_setup o values source in
    let one : List MidiEvent = written (dump_block s b e) in
    let rest : List MidiEvent = blocks s (dump_next b (doing e.what)) es in
    subst (λ l. Runs o table used values source (has_begun b (e ∷ es)) (play m (e ∷ es)) l) (append_assoc out one rest)
    (runs_all scaling o table used values source (dump_next b (doing e.what)) (step m e) (out ++ one) es g (good_next o table used source m e es good)
    (runs_next scaling o table used values source b m out e es g good r))

-- ---- at a moment: xs is a front of the source, and out was written for it

same_note : (o : Options) (table : Targets) (n : Note) → o.route ≡ ByDump → IsSameNote (output_key o table) n n
same_note o table n route = record {
  key = ap (λ r. cond (bends_notes r) (key_of (bend_target_if o.range (table n.key n.onset))) (Some n.key)) route;
  onset = refl;
  velocity = refl;
  voice = refl;
  release = refl;
  ended = refl;
}

pub notes_at : (o : Options) (table : Targets) (part : ℕ → Bool) (m : Music) (xs out : List MidiEvent) → o.route ≡ ByDump → (after xs).music ≡ m
    → (after out).music ≡ m
    → Pairwise (IsSameNote (output_key o table)) (retuned_notes part (after xs)) (retuned_notes part (after out))
notes_at o table part m xs out route first second =
    let R = IsSameNote (output_key o table) in
    let ns : List Note = filter (λ n. part n.channel) m.notes in
    let P : Music → Type 0 = λ x. Pairwise R (filter (λ n. part n.channel) x.notes) (retuned_notes part (after out)) in
    let Q : Music → Type 0 = λ y. Pairwise R ns (filter (λ n. part n.channel) y.notes) in
    subst P (sym first) (subst Q (sym second) (pairwise_same R ns (every_note (λ n. R n n) (λ n. same_note o table n route) ns)))

sounds_same : (scaling : Scaling) (o : Options) (table : Targets) (used : ℕ) (values : List ℕ) (source : List MidiEvent) (m : Music) (xs out : List
    MidiEvent) (n : Note)
    → Given scaling o table used values → (after xs).music ≡ m → Runs o table used values source true m out
    → IsKeyed o table used source n.channel n.key n.onset
    → SoundsTheSame scaling o octave_device xs out n n
sounds_same scaling o table used values source m xs out n g first r keyed =
    let same : (after out).music ≡ (after xs).music = r.stays.music ∙ sym first in
    record {
      settings = record {
        controls = ap (λ x. (state_of x n).controls) same;
        pressure = ap (λ x. (state_of x n).pressure) same;
        key_pressure = refl;
        parameters = λ p k. ap (λ x. value_of (state_of x n).params p) same;
      };
      pitch = subst (λ x. IsWithin (source_pitch scaling o x n) (octave_played out n) (585937500 + 32000000)) (sym first) (heard scaling o table used
          values source m out n g.serves r.zones r.stays keyed);
    }

-- once the setup stands each retuned note sounds the same; before, there is none
sound_of : (scaling : Scaling) (o : Options) (table : Targets) (used : ℕ) (values : List ℕ) (source : List MidiEvent) (b : Bool) (m : Music) (xs out
    : List MidiEvent)
    → Given scaling o table used values → (after xs).music ≡ m → Runs o table used values source b m out
    → Pairwise (λ a c. sounds a ≡ true → SoundsTheSame scaling o octave_device xs out a c)
    (filter (λ n. is_retuned (keeps_drums o source) n.channel) m.notes) (filter (λ n. is_retuned (keeps_drums o source) n.channel) m.notes)
sound_of scaling o table used values source true m xs out g first r =
    let part : ℕ → Bool = is_retuned (keeps_drums o source) in
    let Q : Note → Type 0 = λ n. sounds n ≡ true → SoundsTheSame scaling o octave_device xs out n n in
    pairwise_same (λ a c. sounds a ≡ true → SoundsTheSame scaling o octave_device xs out a c) (filter (λ n. part n.channel) m.notes)
    (of_notes part Q m.notes
    (all_weaker (λ n. IsKeyedIn o table used source n.channel n.key n.onset) (λ n. part n.channel ≡ true → Q n)
    (λ n h k l. sounds_same scaling o table used values source m xs out n g first r (h k)) m.notes r.keyed))
sound_of scaling o table used values source false m xs out g first r =
    let part : ℕ → Bool = is_retuned (keeps_drums o source) in
    let P : List Note → Type 0 = λ ns. Pairwise (λ a c. sounds a ≡ true → SoundsTheSame scaling o octave_device xs out a c) (filter (λ n. part
    n.channel) ns) (filter (λ n. part n.channel) ns) in
    subst P (sym (r.silent refl)) tt

pub sound_at : (scaling : Scaling) (o : Options) (table : Targets) (used : ℕ) (values : List ℕ) (source : List MidiEvent) (b : Bool) (m : Music) (xs
    out : List MidiEvent)
    → Given scaling o table used values → (after xs).music ≡ m → Runs o table used values source b m out
    → Pairwise (λ a c. sounds a ≡ true → SoundsTheSame scaling o octave_device xs out a c)
    (retuned_notes (is_retuned (keeps_drums o source)) (after xs)) (retuned_notes (is_retuned (keeps_drums o source)) (after out))
sound_at scaling o table used values source b m xs out g first r =
    let part : ℕ → Bool = is_retuned (keeps_drums o source) in
    let R : Note → Note → Type 0 = λ a c. sounds a ≡ true → SoundsTheSame scaling o octave_device xs out a c in
    let P : Music → Type 0 = λ x. Pairwise R (filter (λ n. part n.channel) x.notes) (retuned_notes part (after out)) in
    let Q : Music → Type 0 = λ y. Pairwise R (filter (λ n. part n.channel) m.notes) (filter (λ n. part n.channel) y.notes) in
    subst P (sym first) (subst Q (sym r.stays.music) (sound_of scaling o table used values source b m xs out g first r))

-- ---- right from its beginning

-- what a setup has begins no note
none_begun : (part : ℕ → Bool) (before zs rest : List MidiEvent) → AllByRecursion (λ x. begins_note part x.what ≡ false) zs
    → beginnings_from part before (zs ++ rest) ≡ beginnings_from part (before ++ zs) rest
none_begun part before [] rest h = ap (λ l. beginnings_from part l rest) (sym (append-nil before))
none_begun part before (z ∷ zs) rest h =
    let now : List MidiEvent = before ++ z ∷ [] in
    ap (λ b. cond b (last_note now z.track (after now).music.notes) [] ++ beginnings_from part now (zs ++ rest)) h.0
    ∙ none_begun part now zs rest h.1
    ∙ ap (λ l. beginnings_from part l rest) (append_assoc before (z ∷ []) zs)

mute_setup : (part : ℕ → Bool) (o : Options) (values : List ℕ) (source : List MidiEvent) (e : MidiEvent)
    → AllByRecursion (λ x. begins_note part x.what ≡ false) (all_events (setup_at (octave_setup o values source) e))
mute_setup part o values source e = pick (has_note_on (is_part o) source)
  where
    pick : (b : Bool) → AllByRecursion (λ x. begins_note part x.what ≡ false) (all_events (sends e.tick e.track (dump_if b (octave_bytes
        (parts_number o source) values)) ++ []))
    pick true = (refl, tt)
    pick false = tt

mute_before : (part : ℕ → Bool) (o : Options) (values : List ℕ) (source : List MidiEvent) (b : Bool) (e : MidiEvent) (d : Doing)
    → AllByRecursion (λ x. begins_note part x.what ≡ false) (all_events (dump_before (octave_setup o values source) b e d))
mute_before part o values source false e (Plays msg) = mute_setup part o values source e
mute_before part o values source true e (Plays msg) = tt
mute_before part o values source true e Resets = tt
mute_before part o values source true e (Tunes r) = tt
mute_before part o values source true e Nothing = tt
mute_before part o values source false e Resets = tt
mute_before part o values source false e (Tunes r) = tt
mute_before part o values source false e Nothing = tt

mute_behind : (part : ℕ → Bool) (o : Options) (values : List ℕ) (source : List MidiEvent) (b : Bool) (e : MidiEvent) (d : Doing)
    → AllByRecursion (λ x. begins_note part x.what ≡ false) (all_events (dump_behind (octave_setup o values source) b e d))
mute_behind part o values source true e Resets = mute_setup part o values source e
mute_behind part o values source false e Resets = tt
mute_behind part o values source true e (Plays msg) = tt
mute_behind part o values source true e (Tunes r) = tt
mute_behind part o values source true e Nothing = tt
mute_behind part o values source false e (Plays msg) = tt
mute_behind part o values source false e (Tunes r) = tt
mute_behind part o values source false e Nothing = tt

-- the beginnings of a block and of what follows it
block_beginnings : (part : ℕ → Bool) (o : Options) (values : List ℕ) (source : List MidiEvent) (b : Bool) (out : List MidiEvent) (e : MidiEvent)
    (rest : List MidiEvent)
    → (let s : Setup = octave_setup o values source in
    let ready : List MidiEvent = out ++ all_events (dump_before s b e (doing e.what)) in
    beginnings_from part out (written (dump_block s b e) ++ rest)
    ≡ beginning part (ready ++ e ∷ []) e ++ beginnings_from part (out ++ written (dump_block s b e)) rest)
block_beginnings part o values source b out e rest =
    let s : Setup = octave_setup o values source in
    let before : List MidiEvent = all_events (dump_before s b e (doing e.what)) in
    let behind : List MidiEvent = all_events (dump_behind s b e (doing e.what)) in
    let now : List MidiEvent = (out ++ before) ++ e ∷ [] in
    ap (beginnings_from part out) (append_assoc before (e ∷ behind) rest)
    ∙ none_begun part out before (e ∷ behind ++ rest) (mute_before part o values source b e (doing e.what))
    ∙ ap (λ l. beginning part now e ++ l)
    (none_begun part now behind rest (mute_behind part o values source b e (doing e.what))
    ∙ ap (λ l. beginnings_from part l rest) (in_parts out before e behind))

last_alike : (scaling : Scaling) (o : Options) (table : Targets) (used : ℕ) (values : List ℕ) (source : List MidiEvent) (m : Music) (xs out : List
    MidiEvent) (track : ℕ) (ns : List Note)
    → Given scaling o table used values → (after xs).music ≡ m → m.zones ≡ no_zones → Stays o values source true m out
    → AllNotes (IsKeyedIn o table used source) ns
    → LastHas (λ n. is_retuned (keeps_drums o source) n.channel ≡ true) ns → Pairwise (BeginsAlike scaling o octave_device) (last_note xs track ns)
    (last_note out track ns)
last_alike scaling o table used values source m xs out track [] g first z stays keyed last = tt
last_alike scaling o table used values source m xs out track (n ∷ []) g first z stays keyed last = (
  record {
    track = refl;
    pitch = subst (λ x. IsWithin (source_pitch scaling o x n) (octave_played out n) (585937500 + 32000000)) (sym first)
        (heard scaling o table used values source m out n g.serves z stays (keyed.0 last));
  },
  tt,
)
last_alike scaling o table used values source m xs out track (n ∷ x ∷ ns) g first z stays keyed last = last_alike scaling o table used values source
    m xs out track (x ∷ ns) g first z stays keyed.1 last

-- one event, which the source and the output have taken; m is the music before it
one_alike : (scaling : Scaling) (o : Options) (table : Targets) (used : ℕ) (values : List ℕ) (source : List MidiEvent) (b : Bool) (m : Music) (xs out
    : List MidiEvent) (t track : ℕ) (what : MidiWhat)
    → Given scaling o table used values → (after xs).music ≡ step m (event t track what) → (step m (event t track what)).zones ≡ no_zones
    → ((msg : Msg) → what ≡ Says msg → Stays o values source true (step m (event t track what)) out) → (after out).music ≡ step m (event t track what)
    → AllNotes (IsKeyedIn o table used source) (step m (event t track what)).notes
    → Pairwise (BeginsAlike scaling o octave_device) (beginning (is_retuned (keeps_drums o source)) xs (event t track what)) (beginning (is_retuned
    (keeps_drums o source)) out (event t track what))
one_alike scaling o table used values source b m xs out t track (Says (NoteOn c k (suc v))) g first z stays second keyed = pick (is_retuned
    (keeps_drums o source) c) refl
  where
    part : ℕ → Bool
    part = is_retuned (keeps_drums o source)

    now : Music
    now = step m (event t track (Says (NoteOn c k (suc v))))

    pick : (x : Bool) → part c ≡ x → Pairwise (BeginsAlike scaling o octave_device)
        (cond x (last_note xs track (after xs).music.notes) []) (cond x (last_note out track (after out).music.notes) [])
    pick true h = subst (λ x. Pairwise (BeginsAlike scaling o octave_device) (last_note xs track x.notes) (last_note out track (after
        out).music.notes)) (sym first)
        (subst (λ y. Pairwise (BeginsAlike scaling o octave_device) (last_note xs track now.notes) (last_note out track y.notes)) (sym second)
        (last_alike scaling o table used values source now xs out track now.notes g first z (stays (NoteOn c k (suc v)) refl) keyed (last_begun part
        m t c k v h)))
    pick false h = tt
one_alike scaling o table used values source b m xs out t track (Says (NoteOn c k zero)) g first z stays second keyed = tt
one_alike scaling o table used values source b m xs out t track (Says (NoteOff c k v)) g first z stays second keyed = tt
one_alike scaling o table used values source b m xs out t track (Says (KeyPressure c k v)) g first z stays second keyed = tt
one_alike scaling o table used values source b m xs out t track (Says (Control c n v)) g first z stays second keyed = tt
one_alike scaling o table used values source b m xs out t track (Says (Program c p)) g first z stays second keyed = tt
one_alike scaling o table used values source b m xs out t track (Says (Pressure c v)) g first z stays second keyed = tt
one_alike scaling o table used values source b m xs out t track (Says (Bend c v)) g first z stays second keyed = tt
one_alike scaling o table used values source b m xs out t track (SysexOf lead bs) g first z stays second keyed = tt
one_alike scaling o table used values source b m xs out t track (MetaOf kind bs) g first z stays second keyed = tt

pub begin_run : (scaling : Scaling) (o : Options) (table : Targets) (used : ℕ) (values : List ℕ) (source : List MidiEvent) (b : Bool) (m : Music) (xs
    out : List MidiEvent) (es : List MidiEvent)
    → Given scaling o table used values → AreGood o table used source m es → (after xs).music ≡ m → Runs o table used values source b m out
    → Pairwise (BeginsAlike scaling o octave_device) (beginnings_from (is_retuned (keeps_drums o source)) xs es)
    (beginnings_from (is_retuned (keeps_drums o source)) out (blocks (octave_setup o values source) b es))
begin_run scaling o table used values source b m xs out [] g good first r = tt
begin_run scaling o table used values source b m xs out (e ∷ es) g good first r =
    let s : Setup = octave_setup o values source in
    let part : ℕ → Bool = is_retuned (keeps_drums o source) in
    let d : Doing = doing e.what in
    let ready : List MidiEvent = out ++ all_events (dump_before s b e d) in
    let one : List MidiEvent = written (dump_block s b e) in
    let rest : List MidiEvent = blocks s (dump_next b d) es in
    let next = runs_next scaling o table used values source b m out e es g good r in
    let came = stays_event o table values source (dump_next b d) m ready e good.fine.0 good.plain.0 (stays_before g.again o values source b m out e d
    g.serves.twelve g.serves.range r.stays) in
    let first_now : (after (xs ++ e ∷ [])).music ≡ step m e = ap (λ x. x.music) (receive_all-append start xs (e ∷ [])) ∙ ap (λ x. step x e) first in
    let begun : (msg : Msg) → e.what ≡ Says msg → Stays o values source true (step m e) (ready ++ e ∷ []) =
    λ msg is. subst (λ on. Stays o values source on (step m e) (ready ++ e ∷ [])) (ap (λ w. still (dump_next b (doing w)) (doing w)) is) came in
    subst (λ l. Pairwise (BeginsAlike scaling o octave_device) (beginnings_from part xs (e ∷ es)) l) (sym (block_beginnings part o values source b
    out e rest))
    (pairwise_append (BeginsAlike scaling o octave_device) (beginning part (xs ++ e ∷ []) e) (beginnings_from part (xs ++ e ∷ []) es)
    (beginning part (ready ++ e ∷ []) e) (beginnings_from part (out ++ one) rest)
    (one_alike scaling o table used values source b m (xs ++ e ∷ []) (ready ++ e ∷ []) e.tick e.track e.what g first_now next.zones begun came.music
    next.keyed)
    (begin_run scaling o table used values source (dump_next b d) (step m e) (xs ++ e ∷ []) (out ++ one) es g (good_next o table used source m e es
    good) first_now next))
