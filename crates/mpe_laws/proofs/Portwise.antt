-- Where drums are kept but a port has none, its events mean the same whether channel 10 is kept or is a channel as any other.
use Rattle.std.proofs.Common.{◌≡◌, ℕ, zero, suc, Bool, true, false, cond, nat_eq, List, [], ◌∷◌, ◌++◌, Option, Some, None, refl, ap, sym, ◌∙◌, subst, map}
use Rattle.mt_base.specs.declared.event.Msg.{Msg}
use Rattle.mt_base.specs.declared.event.Msg.TheVariants.{NoteOn, NoteOff, KeyPressure, Control, Program, Pressure, Bend}
use Rattle.mt_base.specs.Midi.{MidiWhat, Says, SysexOf, MetaOf, MidiEvent, channel_of}
use Rattle.mt_base.specs.Pitch.{Pitch}
use Rattle.midi_model.specs.Sysex.{doing}
use Rattle.midi_model.specs.Channel.{Channel}
use Rattle.midi_model.specs.Notes.{Note, sounds}
use Rattle.midi_model.specs.Music.{Music, channel_at, step, play}
use Rattle.midi_model.specs.MusicLaws.{NotesFade}
use Rattle.midi_model.specs.Receiver.{after}
use Rattle.midi_model.specs.Played.{played}
use Rattle.retune_model.specs.Table.{Scaling, pitch_at, BendTarget}
use Rattle.retune_model.specs.Options.{Options, is_retuned, is_drum_message, bound}
use Rattle.retune_model.specs.Source.{heard_if}
use Rattle.retune_model.specs.PlaysTheSame.{bend_target_if, until, at_tick, retuned_notes, IsWithin, IsInTune, SoundsTheSame, HasSameSound, beginnings, BeginsAlike, BeginsTheSame, plain_device}
use Rattle.retune_model.specs.Routes.{dump_next}
use Rattle.retune_model.specs.Faults.{Targets, target_of}
use Rattle.retune_model.specs.SourceFaults.{kind_in}
use Rattle.retune_model.specs.Pairs.{Pair}
use Rattle.retune_model.specs.Ports.{Numbered, unnumbered}
use Rattle.channel_model.specs.BendOutput.{PortRuns, placed_at, before_it, pressed_note, note_released}
use Rattle.channel_model.specs.MpeOutput.{Zone, Zoned, zone_of, master_of, zones_setup, member_begins, zone_causes, in_zone, setup_before, setup_behind, mpe_causes, zoned_block, next_zoned}
use Rattle.bend_laws.specs.Follows.{IsAmong, SoundAmong, Begins}
use Rattle.bend_laws.specs.Positions.{port_event}
use Rattle.bend_laws.proofs.Planning.{source_next, source_at, BeginsIf}
use Rattle.bend_laws.proofs.Lists.{all_weaker, all_both, pair_weaker}
use Rattle.bend_laws.proofs.Drumless.{NoDrums, NoDrumNotes, is_one, played_none, either}
use Rattle.mpe_laws.specs.Positions.{zoned_next, zoned_at}
use Rattle.mpe_laws.proofs.Planning.{IsPlanned}
use Rattle.mpe_laws.proofs.Ticked.{zoned_output}

abbrev pub with_drums : Bool → Options → Options
with_drums b o = record o { keep_drums = b }

kind_same : (z : ℕ) (o : Options) (a b : Bool) (table : Targets) (t : ℕ) (m after : Music) (ps : List Pair) (msg : Msg) →
    is_retuned a (channel_of msg) ≡ is_retuned b (channel_of msg) →
    kind_in z (with_drums a o) table t m after false ps (Says msg) ≡ kind_in z (with_drums b o) table t m after false ps (Says msg)
kind_same z o a b table t m after ps (NoteOn c k zero) e = cc
kind_same z o a b table t m after ps (NoteOn c k (suc v)) e = cc
kind_same z o a b table t m after ps (NoteOff c k v) e = cc
kind_same z o a b table t m after ps (KeyPressure c k v) e = cc
kind_same z o a b table t m after ps (Control c n v) e = cc
kind_same z o a b table t m after ps (Program c p) e = cc
kind_same z o a b table t m after ps (Pressure c v) e = cc
kind_same z o a b table t m after ps (Bend c v) e = cc

-- ---- blocks

released_same : (z : ℕ) (o : Options) (a b : Bool) (table : Targets) (place : Pair → ℕ) (off : ℕ → ℕ → Msg) (c : ℕ) (x : Option Note) →
    note_released z (with_drums a o) table place off c x ≡ note_released z (with_drums b o) table place off c x
released_same z o a b table place off c None = refl
released_same z o a b table place off c (Some n) = refl

begins_same : (z : ℕ) (o : Options) (a b : Bool) (there : List Pair) (out : Music) (place : Pair → ℕ) (c v : ℕ) (x : Option BendTarget) →
    member_begins z (with_drums a o) there out place c v x ≡ member_begins z (with_drums b o) there out place c v x
begins_same z o a b there out place c v None = refl
begins_same z o a b there out place c v (Some t) = refl

zone_same : (z : ℕ) (o : Options) (a b : Bool) (table : Targets) (there : List Pair) (before out : Music) (was is : Pair → ℕ) (g t : ℕ) (msg : Msg) →
    zone_causes z (with_drums a o) table there before out was is g t msg ≡ zone_causes z (with_drums b o) table there before out was is g t msg
zone_same z o a b table there before out was is g t (NoteOn c k zero) =
    released_same z o a b table was (λ d j. NoteOn d j 0) c (pressed_note c k before.notes)
zone_same z o a b table there before out was is g t (NoteOn c k (suc v)) =
    begins_same z o a b there out is c (suc v) (bend_target_if o.range (table k t))
zone_same z o a b table there before out was is g t (NoteOff c k v) =
    released_same z o a b table was (λ d j. NoteOff d j v) c (pressed_note c k before.notes)
zone_same z o a b table there before out was is g t (KeyPressure c k v) = refl
zone_same z o a b table there before out was is g t (Control c n v) = refl
zone_same z o a b table there before out was is g t (Program c p) = refl
zone_same z o a b table there before out was is g t (Pressure c v) = refl
zone_same z o a b table there before out was is g t (Bend c v) = refl

in_zone_same : (z : ℕ) (o : Options) (a b : Bool) (table : Targets) (there : List Pair) (before out : Music) (was is : Pair → ℕ) (t : ℕ) (msg : Msg)
    (u : Option Zone) →
    in_zone z (with_drums a o) table there before out was is t msg u ≡ in_zone z (with_drums b o) table there before out was is t msg u
in_zone_same z o a b table there before out was is t msg None = refl
in_zone_same z o a b table there before out was is t msg (Some zone) = zone_same z o a b table there before out was is (master_of zone) t msg

caused_same : (z : ℕ) (o : Options) (a b : Bool) (table : Targets) (zones : List Zone) (there : List Pair) (before out : Music) (was is : Pair → ℕ)
    (t : ℕ) (w : MidiWhat) → is_drum_message w ≡ false →
    mpe_causes z (with_drums a o) table zones there before out was is t w ≡ mpe_causes z (with_drums b o) table zones there before out was is t w
caused_same z o a b table zones there before out was is t (Says msg) h =
    let u : Option Zone = zone_of (channel_of msg) zones in
    ap (λ x. cond x (map Says (in_zone z (with_drums a o) table there before out was is t msg u)) (Says msg ∷ [])) (either a b (channel_of msg) h)
    ∙ ap (λ ms. cond (is_retuned b (channel_of msg)) (map Says ms) (Says msg ∷ [])) (in_zone_same z o a b table there before out was is t msg u)
caused_same z o a b table zones there before out was is t (SysexOf lead bytes) h = refl
caused_same z o a b table zones there before out was is t (MetaOf kind bytes) h = refl

pub block_same : (o : Options) (a b : Bool) (table : Targets) (zones : List Zone) (runs : PortRuns) (s : Zoned) (n : Numbered) →
    is_drum_message n.event.what ≡ false →
    zoned_block (with_drums a o) table zones runs s n ≡ zoned_block (with_drums b o) table zones runs s n
block_same o a b table zones runs s n h =
    let e : MidiEvent = n.event in
    let first : List MidiEvent = placed_at e (setup_before (map Says (zones_setup o.range zones)) s.begun (doing e.what)) in
    ap (λ ws. first ++ placed_at e (ws ++ setup_behind (map Says (zones_setup o.range zones)) s.begun (doing e.what)))
    (caused_same runs.number o a b table zones (runs.pairs (before_it n.position)) s.source (play s.out first)
    (runs.channel (before_it n.position)) (runs.channel n.position) e.tick e.what h)

next_same : (o : Options) (a b : Bool) (table : Targets) (zones : List Zone) (runs : PortRuns) (s : Zoned) (n : Numbered) →
    is_drum_message n.event.what ≡ false →
    next_zoned (with_drums a o) table zones runs s n ≡ next_zoned (with_drums b o) table zones runs s n
next_same o a b table zones runs s n h =
    ap (λ es. let x : Zoned = record { begun = dump_next s.begun (doing n.event.what); source = step s.source n.event; out = play s.out es } in x)
    (block_same o a b table zones runs s n h)

pub output_same : (o : Options) (a b : Bool) (table : Targets) (zones : List Zone) (runs : PortRuns) (s : Zoned) (ns : List Numbered) →
    NoDrums (unnumbered ns) → zoned_output (with_drums a o) table zones runs s ns ≡ zoned_output (with_drums b o) table zones runs s ns
output_same o a b table zones runs s [] h = refl
output_same o a b table zones runs s (n ∷ ns) h =
    ap (λ es. es ++ zoned_output (with_drums a o) table zones runs (next_zoned (with_drums a o) table zones runs s n) ns)
    (block_same o a b table zones runs s n h.0)
    ∙ ap (λ x. zoned_block (with_drums b o) table zones runs s n ++ zoned_output (with_drums a o) table zones runs x ns)
    (next_same o a b table zones runs s n h.0)
    ∙ ap (λ es. zoned_block (with_drums b o) table zones runs s n ++ es)
    (output_same o a b table zones runs (next_zoned (with_drums b o) table zones runs s n) ns h.1)

pub at_same : (o : Options) (a b : Bool) (table : Targets) (zones : List Zone) (runs : PortRuns) (ns : List Numbered) → NoDrums (unnumbered ns) →
    (k : ℕ) → zoned_at (with_drums a o) table zones runs ns k ≡ zoned_at (with_drums b o) table zones runs ns k
at_same o a b table zones runs ns h zero = refl
at_same o a b table zones runs ns h (suc k) =
    ap (λ s. zoned_next (with_drums a o) table zones runs k s (port_event ns (suc k))) (at_same o a b table zones runs ns h k)
    ∙ go (port_event ns (suc k)) refl
  where
    go : (x : Option MidiEvent) → port_event ns (suc k) ≡ x →
        zoned_next (with_drums a o) table zones runs k (zoned_at (with_drums b o) table zones runs ns k) x
        ≡ zoned_next (with_drums b o) table zones runs k (zoned_at (with_drums b o) table zones runs ns k) x
    go None is = refl
    go (Some e) is = next_same o a b table zones runs (zoned_at (with_drums b o) table zones runs ns k)
        (let n : Numbered = record { position = suc k; event = e } in n) (is_one (λ x. is_drum_message x.what ≡ false) ns h (suc k) e is)

-- ---- what is given of the port

no_drum_notes : NotesFade → (ns : List Numbered) → NoDrums (unnumbered ns) → (k : ℕ) → NoDrumNotes (source_at ns k).notes
no_drum_notes fade ns h zero = tt
no_drum_notes fade ns h (suc k) = go (no_drum_notes fade ns h k) (port_event ns (suc k)) refl
  where
    go : NoDrumNotes (source_at ns k).notes → (x : Option MidiEvent) → port_event ns (suc k) ≡ x → NoDrumNotes (source_next (source_at ns k) x).notes
    go g None is = g
    go g (Some e) is = played_none fade (source_at ns k) (e ∷ []) (is_one (λ x. is_drum_message x.what ≡ false) ns h (suc k) e is, tt) g

among_same : (z : ℕ) (o : Options) (a b : Bool) (table : Targets) (ps : List Pair) (ns : List Note) → NoDrumNotes ns →
    SoundAmong z (with_drums a o) table ps ns → SoundAmong z (with_drums b o) table ps ns
among_same z o a b table ps ns none h =
    let Among : Bool → Note → Type 0 = λ x n. is_retuned x n.channel ≡ true → sounds n ≡ true →
    IsAmong z ps n.channel (target_of (with_drums x o) table n) in
    all_weaker (λ n. Among a n × (nat_eq n.channel 9 ≡ false)) (Among b) (λ n q part s. q.0 (either a b n.channel q.1 ∙ part) s) ns
    (all_both (Among a) (λ (n : Note). nat_eq n.channel 9 ≡ false) ns h none)

what_kind : (z : ℕ) (o : Options) (a b : Bool) (table : Targets) (t : ℕ) (m after : Music) (ps : List Pair) (w : MidiWhat) →
    is_drum_message w ≡ false →
    kind_in z (with_drums a o) table t m after false ps w ≡ kind_in z (with_drums b o) table t m after false ps w
what_kind z o a b table t m after ps (Says msg) h = kind_same z o a b table t m after ps msg (either a b (channel_of msg) h)
what_kind z o a b table t m after ps (SysexOf lead bytes) h = refl
what_kind z o a b table t m after ps (MetaOf kind bytes) h = refl

begins_as : (z : ℕ) (o : Options) (a b : Bool) (table : Targets) (t : ℕ) (w : MidiWhat) (p : Pair) → is_drum_message w ≡ false →
    Begins z (with_drums a o) table t w p → Begins z (with_drums b o) table t w p
begins_as z o a b table t (Says (NoteOn c k zero)) p h f = f
begins_as z o a b table t (Says (NoteOn c k (suc v))) p h f = (sym (either a b c h) ∙ f.0, f.1)
begins_as z o a b table t (Says (NoteOff c k v)) p h f = f
begins_as z o a b table t (Says (KeyPressure c k v)) p h f = f
begins_as z o a b table t (Says (Control c n v)) p h f = f
begins_as z o a b table t (Says (Program c x)) p h f = f
begins_as z o a b table t (Says (Pressure c v)) p h f = f
begins_as z o a b table t (Says (Bend c v)) p h f = f
begins_as z o a b table t (SysexOf lead bytes) p h f = f
begins_as z o a b table t (MetaOf kind bytes) p h f = f

begins_if : (z : ℕ) (o : Options) (a b : Bool) (table : Targets) (x : Option MidiEvent) (p : Pair) →
    ((e : MidiEvent) → x ≡ Some e → is_drum_message e.what ≡ false) → BeginsIf z (with_drums a o) table x p → BeginsIf z (with_drums b o) table x p
begins_if z o a b table None p h f = f
begins_if z o a b table (Some e) p h f = begins_as z o a b table e.tick e.what p (h e refl) f

pub planned_same : NotesFade → (o : Options) (a b : Bool) (table : Targets) (zones : List Zone) (runs : PortRuns) (ns : List Numbered) (last : ℕ) →
    NoDrums (unnumbered ns) → IsPlanned (with_drums a o) table zones runs ns last → IsPlanned (with_drums b o) table zones runs ns last
planned_same fade o a b table zones runs ns last none g =
    let drumless : (k : ℕ) (e : MidiEvent) → port_event ns (suc k) ≡ Some e → is_drum_message e.what ≡ false =
    λ k e is. is_one (λ x. is_drum_message x.what ≡ false) ns none (suc k) e is in
    let notes : (k : ℕ) → NoDrumNotes (source_at ns k).notes = no_drum_notes fade ns none in
    record {
      valid = g.valid;
      faultless = λ k e low is. sym (what_kind runs.number o a b table e.tick (source_at ns k) (source_at ns (suc k)) (runs.pairs (suc k)) e.what
          (drumless k e is)) ∙ g.faultless k e low is;
      start = g.start;
      there = λ k low. among_same runs.number o a b table (runs.pairs k) (source_at ns k).notes (notes k) (g.there k low);
      held = λ k low. among_same runs.number o a b table (runs.held (suc k)) (source_at ns k).notes (notes k) (g.held k low);
      was_there = g.was_there;
      from = λ k p low h f. begins_if runs.number o a b table (port_event ns (suc k)) p (drumless k) (g.from k p low h f);
      kept = g.kept;
      apart = g.apart;
      member = g.member;
      reset = g.reset;
    }

-- ---- the sentences

heard_same : (o : Options) (b : Bool) (s : Channel) (p : Option Pitch) → heard_if (with_drums b o) s p ≡ heard_if o s p
heard_same o b s None = refl
heard_same o b s (Some x) = refl

abbrev Tuned : Scaling → Options → List MidiEvent → List MidiEvent → Note → Note → Type 0
Tuned scaling o es xs x y = IsInTune scaling o (plain_device o) es xs x y

in_tune : (scaling : Scaling) (o : Options) (b : Bool) (es xs : List MidiEvent) (x y : Note) → Tuned scaling (with_drums b o) es xs x y →
    Tuned scaling o es xs x y
in_tune scaling o b es xs x y h = subst (λ p. IsWithin p (played (after xs) y) (bound o))
    (heard_same o b (channel_at (after es).music x.channel) (pitch_at scaling x.key x.onset)) h

pub sound_as : (scaling : Scaling) (o : Options) (b : Bool) (part : ℕ → Bool) (source out : List MidiEvent) →
    HasSameSound scaling (with_drums b o) (plain_device (with_drums b o)) part source out → HasSameSound scaling o (plain_device o) part source out
sound_as scaling o b part source out h t =
    pair_weaker (λ x y. sounds x ≡ true → SoundsTheSame scaling (with_drums b o) (plain_device (with_drums b o)) (until t source) (until t out) x y)
    (λ x y. sounds x ≡ true → SoundsTheSame scaling o (plain_device o) (until t source) (until t out) x y)
    (λ x y f s. record { settings = (f s).settings; pitch = in_tune scaling o b (until t source) (until t out) x y (f s).pitch })
    (retuned_notes part (at_tick t source)) (retuned_notes part (at_tick t out)) (h t)

pub begins_alike : (scaling : Scaling) (o : Options) (b : Bool) (part : ℕ → Bool) (source out : List MidiEvent) →
    BeginsTheSame scaling (with_drums b o) (plain_device (with_drums b o)) part source out → BeginsTheSame scaling o (plain_device o) part source out
begins_alike scaling o b part source out h =
    pair_weaker (BeginsAlike scaling (with_drums b o) (plain_device (with_drums b o))) (BeginsAlike scaling o (plain_device o))
    (λ x y f. record { track = f.track; pitch = in_tune scaling o b x.events y.events x.note y.note f.pitch })
    (beginnings part source) (beginnings part out) h
