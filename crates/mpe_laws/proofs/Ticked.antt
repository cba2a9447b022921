-- From positions to ticks: at every tick the output plays the notes that the source plays.
use Rattle.std.proofs.Common.{◌≡◌, ◌<◌, ◌≤◌, arith, ℕ, cond, List, [], ◌∷◌, ◌++◌, Some, refl, ap, sym, ◌∙◌, subst, map, append_assoc, inl, inr}
use Rattle.std.specs.List.{AllByRecursion}
use Rattle.std.proofs.lemmas.Bool.{cases_Bool}
use Rattle.mt_base.specs.Midi.{MidiWhat, Says, MidiEvent}
use Rattle.midi_model.specs.Sysex.{doing}
use Rattle.midi_model.specs.Notes.{Note}
use Rattle.midi_model.specs.Music.{Music, quiet, play}
use Rattle.midi_model.specs.Receiver.{start}
use Rattle.retune_model.specs.Options.{ByMpe, Options, bends_notes}
use Rattle.retune_model.specs.PlaysTheSame.{Pairwise, until, at_tick, retuned_notes, key_of, output_key, IsSameNote, HasSameNotes}
use Rattle.retune_model.specs.Faults.{Targets, is_part, target_of}
use Rattle.retune_model.specs.Pairs.{Pair}
use Rattle.retune_model.specs.Ports.{Numbered, unnumbered, Ascend}
use Rattle.retune_model.specs.PortOutput.{through}
use Rattle.channel_model.specs.BendOutput.{PortRuns, placed_at, before_it}
use Rattle.channel_model.specs.MpeOutput.{Zone, Zoned, unzoned, zoned_block, next_zoned, zones_setup, setup_before, setup_behind, mpe_causes}
use Rattle.bend_laws.specs.Follows.{IsPlayedBy}
use Rattle.bend_laws.specs.Positions.{up_to_position}
use Rattle.bend_laws.specs.Simulation.{retuned}
use Rattle.bend_laws.proofs.Lists.{all_append, map_append, pair_weaker}
use Rattle.bend_laws.proofs.Outputs.{source_played}
use Rattle.bend_laws.proofs.States.{played_retuned}
use Rattle.bend_laws.proofs.Ticks.{AreTimely}
use Rattle.bend_laws.proofs.Ticking.{Split, split, last_from, up_to_last, last_within, until_split, ticks_of, block_ticks}
use Rattle.midi_model.proofs.Same.{music_all}
use Rattle.mpe_laws.specs.Positions.{zoned_at, FollowsAt}
use Rattle.mpe_laws.proofs.Everywhere.{source_is}
use Rattle.mpe_laws.proofs.Played.{zoned_over, out_is}

abbrev pub zoned_output : Options → Targets → List Zone → PortRuns → Zoned → List Numbered → List MidiEvent
zoned_output o table zones runs s ns = through (zoned_block o table zones runs) (next_zoned o table zones runs) s ns

pub output_append : (o : Options) (table : Targets) (zones : List Zone) (runs : PortRuns) (s : Zoned) (xs ys : List Numbered) →
    zoned_output o table zones runs s (xs ++ ys)
    ≡ zoned_output o table zones runs s xs ++ zoned_output o table zones runs (zoned_over o table zones runs s xs) ys
output_append o table zones runs s [] ys = refl
output_append o table zones runs s (n ∷ ns) ys =
    let block : List MidiEvent = zoned_block o table zones runs s n in
    let next : Zoned = next_zoned o table zones runs s n in
    ap (λ xs. block ++ xs) (output_append o table zones runs next ns ys)
    ∙ sym (append_assoc block (zoned_output o table zones runs next ns)
    (zoned_output o table zones runs (zoned_over o table zones runs next ns) ys))

-- a block stands at its event's tick
zoned_ticks : (P : ℕ → Type 0) (o : Options) (table : Targets) (zones : List Zone) (runs : PortRuns) (s : Zoned) (n : Numbered) → P n.event.tick →
    AllByRecursion (λ (e : MidiEvent). P e.tick) (zoned_block o table zones runs s n)
zoned_ticks P o table zones runs s n h =
    let e : MidiEvent = n.event in
    let setup : List MidiWhat = map Says (zones_setup o.range zones) in
    let first : List MidiWhat = setup_before setup s.begun (doing e.what) in
    let rest : List MidiWhat = mpe_causes runs.number o table zones (runs.pairs (before_it n.position)) s.source (play s.out (placed_at e first))
    (runs.channel (before_it n.position)) (runs.channel n.position) e.tick e.what ++ setup_behind setup s.begun (doing e.what) in
    all_append (λ (x : MidiEvent). P x.tick) (placed_at e first) (placed_at e rest) (block_ticks P e first h) (block_ticks P e rest h)

output_ticks : (P : ℕ → Type 0) (o : Options) (table : Targets) (zones : List Zone) (runs : PortRuns) (s : Zoned) (ns : List Numbered) →
    AllByRecursion (λ (n : Numbered). P n.event.tick) ns → AllByRecursion (λ (e : MidiEvent). P e.tick) (zoned_output o table zones runs s ns)
output_ticks P o table zones runs s [] h = tt
output_ticks P o table zones runs s (n ∷ ns) h =
    let next : Zoned = next_zoned o table zones runs s n in
    all_append (λ (e : MidiEvent). P e.tick) (zoned_block o table zones runs s n) (zoned_output o table zones runs next ns)
    (zoned_ticks P o table zones runs s n h.0) (output_ticks P o table zones runs next ns h.1)

until_output : (t : ℕ) (o : Options) (table : Targets) (zones : List Zone) (runs : PortRuns) (xs ys : List Numbered) →
    AllByRecursion (λ (n : Numbered). n.event.tick ≤ t) xs → AllByRecursion (λ (n : Numbered). t < n.event.tick) ys →
    until t (zoned_output o table zones runs unzoned (xs ++ ys)) ≡ zoned_output o table zones runs unzoned xs
until_output t o table zones runs xs ys h g =
    let s : Zoned = zoned_over o table zones runs unzoned xs in
    ap (until t) (output_append o table zones runs unzoned xs ys)
    ∙ until_split t (zoned_output o table zones runs unzoned xs) (zoned_output o table zones runs s ys)
    (output_ticks (λ x. x ≤ t) o table zones runs unzoned xs h) (output_ticks (λ x. t < x) o table zones runs s ys g)

-- ---- the musics at a tick are those at a position

pub record AtPosition (o : Options) (table : Targets) (zones : List Zone) (runs : PortRuns) (ns : List Numbered) (last t : ℕ) : Type 0 where
  pub position : ℕ
  pub within : position ≤ last
  pub source : (at_tick t (unnumbered ns)).music ≡ (zoned_at o table zones runs ns position).source
  pub blocks : until t (zoned_output o table zones runs unzoned ns) ≡ zoned_output o table zones runs unzoned (up_to_position position ns)
  pub out : (at_tick t (zoned_output o table zones runs unzoned ns)).music ≡ (zoned_at o table zones runs ns position).out

pub at_position : (o : Options) (table : Targets) (zones : List Zone) (runs : PortRuns) (ns : List Numbered) (last t : ℕ) → AreTimely ns last →
    AtPosition o table zones runs ns last t
at_position o table zones runs ns last t h =
    let s : Split t ns = split t 0 ns h.in_order in
    let k : ℕ = last_from 0 s.early in
    let rising : Ascend 0 (s.early ++ s.late) = subst (Ascend 0) s.is h.rising in
    let early : up_to_position k ns ≡ s.early = ap (up_to_position k) s.is ∙ up_to_last 0 s.early s.late rising in
    let blocks : until t (zoned_output o table zones runs unzoned ns) ≡ zoned_output o table zones runs unzoned (up_to_position k ns) =
    ap (λ xs. until t (zoned_output o table zones runs unzoned xs)) s.is
    ∙ until_output t o table zones runs s.early s.late s.early_ticks s.late_ticks
    ∙ ap (zoned_output o table zones runs unzoned) (sym early) in
    record {
      blocks = blocks;
      position = k;
      within = last_within 0 last s.early s.late (omega arith) (subst (AllByRecursion (λ (n : Numbered). n.position ≤ last)) s.is h.within);
      source = music_all start (until t (unnumbered ns))
          ∙ ap (λ xs. play quiet (until t (unnumbered xs))) s.is ∙ ap (λ es. play quiet (until t es))
          (map_append (λ (n : Numbered). n.event) s.early s.late)
          ∙ ap (play quiet) (until_split t (unnumbered s.early) (unnumbered s.late) (ticks_of (λ x. x ≤ t) s.early s.early_ticks)
          (ticks_of (λ x. t < x) s.late s.late_ticks))
          ∙ ap (λ xs. play quiet (unnumbered xs)) (sym early)
          ∙ sym (source_is o table zones runs ns k ∙ source_played ns h.rising k);
      out = music_all start (until t (zoned_output o table zones runs unzoned ns)) ∙ ap (play quiet) blocks
          ∙ sym (out_is o table zones runs ns h.rising k);
    }

-- ---- the same notes

same_note : (port : ℕ) (o : Options) (table : Targets) (place : Pair → ℕ) → o.route ≡ ByMpe → (a b : Note) → IsPlayedBy port o table place a b →
    IsSameNote (output_key o table) a b
same_note port o table place route a b h = record {
  key = ap (λ r. cond (bends_notes r) (key_of (target_of o table a)) (Some a.key)) route ∙ ap key_of h.aim ∙ ap Some (sym h.key);
  onset = h.onset;
  velocity = h.velocity;
  voice = h.voice;
  release = h.release;
  ended = h.ended;
}

pub same_notes : (o : Options) (table : Targets) (zones : List Zone) (runs : PortRuns) (ns : List Numbered) (last : ℕ) → o.route ≡ ByMpe →
    AreTimely ns last → ((k : ℕ) → k ≤ last → FollowsAt o table zones runs k (zoned_at o table zones runs ns k)) →
    HasSameNotes (output_key o table) (is_part o) (unnumbered ns) (zoned_output o table zones runs unzoned ns)
same_notes o table zones runs ns last route timely follows t =
    let at : AtPosition o table zones runs ns last t = at_position o table zones runs ns last t timely in
    let s : Zoned = zoned_at o table zones runs ns at.position in
    let now : FollowsAt o table zones runs at.position s = follows at.position at.within in
    let R : Note → Note → Type 0 = IsSameNote (output_key o table) in
    subst (λ (m : Music). Pairwise R (retuned o m.notes) (retuned_notes (is_part o) (at_tick t (zoned_output o table zones runs unzoned ns))))
    (sym at.source)
    (subst (λ (m : Music). Pairwise R (retuned o s.source.notes) (retuned o m.notes)) (sym at.out)
    (elim (cases_Bool s.begun) [
      | inl begun ↦ pair_weaker (IsPlayedBy runs.number o table (runs.channel at.position)) R
          (same_note runs.number o table (runs.channel at.position) route) (retuned o s.source.notes) (retuned o s.out.notes)
          (played_retuned runs.number o table (runs.channel at.position) s.source.notes s.out.notes (now.after begun).notes)
      | inr not_yet ↦ (let q = now.before not_yet in
          subst (λ (m : Music). Pairwise R (retuned o m.notes) (retuned o s.out.notes)) (sym q.0)
          (subst (λ (m : Music). Pairwise R (retuned o quiet.notes) (retuned o m.notes)) (sym q.1.0) tt))
    ]))
