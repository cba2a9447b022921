-- A retuned note of the octave route is played within the bound of its source pitch.
use Rattle.std.proofs.Common.{◌≡◌, ◌≤◌, ◌<◌, ◌+◌, ◌*◌, ◌%◌, ℕ, List, true, Option, None, refl, ap, sym, ◌∙◌, subst, arith, ℤ, pos, ◌+ℤ◌, ◌-ℤ◌, length, get_or}
use Rattle.std.specs.Option.{unwrap_or, option_map_or}
use Rattle.std.specs.List.{AllByRecursion}
use Rattle.std.proofs.lemmas.Int.{ints}
use Rattle.std.proofs.lemmas.List.{get_or_default}
use Rattle.std.proofs.lemmas.Bool.Decides.{nat_tests}
use Rattle.std.proofs.Math.Nat.{mod-lt}
use Rattle.mt_base.specs.Midi.{MidiEvent}
use Rattle.mt_base.specs.Pitch.{Pitch, exactly, added, Within}
use Rattle.midi_model.specs.Channel.{Channel}
use Rattle.midi_model.specs.Zones.{no_zones, master}
use Rattle.midi_model.specs.Notes.{Note}
use Rattle.midi_model.specs.Music.{Music, channel_at}
use Rattle.midi_model.specs.Tuning.{selected_of}
use Rattle.midi_model.specs.Receiver.{Receiver, after}
use Rattle.midi_model.specs.Played.{by_program, fine, coarse, bent, bends}
use Rattle.retune_model.specs.Scale.{size_of}
use Rattle.retune_model.specs.Table.{Scaling, terms_at, ratios_at_key, Bounds, IsTable, AreFewTerms}
use Rattle.retune_model.specs.Options.{Options, Route, ByDump}
use Rattle.retune_model.specs.Source.{moved, heard_if, source_pitch}
use Rattle.retune_model.specs.PlaysTheSame.{IsWithin}
use Rattle.retune_model.specs.Faults.{Targets}
use Rattle.retune_model.specs.Octave.{level, octaves_after, octave_moves, octave_of_key, octave_shift, octave_played}
use Rattle.retune_model.proofs.Laws.{PitchLaws}
use Rattle.retune_model.proofs.Heard.{has_pitch}
use Rattle.octave_route.specs.Messages.{IsOctaveValue}
use Rattle.octave_route.specs.Classes.{nearest_value, own_value, class_value, FitBelow, AreClassValues}
use Rattle.octave_route.proofs.Keyed.{IsKeyed}
use Rattle.octave_route.proofs.Near.{IsServed, served, heard_within}
use Rattle.octave_route.proofs.Stays.{Stays}

-- what all notes of the route need
pub record Serves (scaling : Scaling) (o : Options) (table : Targets) (used : ℕ) (values : List ℕ) : Type 0 where
  pub laws : PitchLaws
  pub route : o.route ≡ ByDump
  pub bounds : IsTable scaling table
  pub few_terms : AreFewTerms scaling
  pub one_table : (key onset : ℕ) → table key onset ≡ table key 0
  pub twelve : length values ≡ 12
  pub range : AllByRecursion IsOctaveValue values
  pub classes : AreClassValues (λ key. table key 0) used values
  pub fit : FitBelow (λ key. table key 0) used 128

-- without zones a channel is nobody's member
no_master : (c : ℕ) → master no_zones c ≡ None
no_master c = grind (arith, nat_tests)

-- a note's pitch, by the master and the program of the channel that governs
abbrev pitch_by : Receiver → (ℕ → List ℕ) → Note → Option ℕ → Option ℕ → ℤ
pitch_by r v n m p =
    let s = channel_at r.music (unwrap_or m n.channel) in
    (((by_program r.tuning p n.key +ℤ fine s) +ℤ coarse s) +ℤ bends r n.channel m) +ℤ octave_shift p (v n.channel) n.key

abbrev level_pitch : Music → List ℕ → Note → ℤ
level_pitch m vs n =
    let s = channel_at m n.channel in
    (((pos (3200000000000 * n.key) +ℤ fine s) +ℤ coarse s) +ℤ bent s) +ℤ octave_moves (octave_of_key vs n.key)

played_level : (out : List MidiEvent) (m : Music) (vs : List ℕ) (n : Note) → (after out).music ≡ m → m.zones ≡ no_zones
    → selected_of (after out).tuning n.channel ≡ None
    → octaves_after level out n.channel ≡ vs → octave_played out n ≡ level_pitch m vs n
played_level out m vs n music z selected is =
    let r : Receiver = after out in
    let v : ℕ → List ℕ = octaves_after level out in
    let none : master r.music.zones n.channel ≡ None = ap (λ x. master x.zones n.channel) music ∙ ap (λ x. master x n.channel) z
    ∙ no_master n.channel in
    ap (λ x. pitch_by r v n x (selected_of r.tuning (unwrap_or x n.channel))) none
    ∙ ap (λ p. pitch_by r v n None p) selected
    ∙ ap (λ x. level_pitch x (v n.channel) n) music
    ∙ ap (λ x. level_pitch m x n) is

-- the key's own value is beside its class's
value_near : (scaling : Scaling) (o : Options) (table : Targets) (used : ℕ) (values : List ℕ) (es : List MidiEvent) (c k t : ℕ)
    → Serves scaling o table used values
    → (h : IsKeyed o table used es c k t) → size_of (nearest_value k h.bounds.lo -ℤ pos (octave_of_key values k)) ≤ 1
value_near scaling o table used values es c k t g h =
    let one : ℕ → Option Bounds = λ key. table key 0 in
    let class : ℕ = k % 12 in
    let few : class < 12 = mod-lt k (omega arith) in
    let own : own_value one k ≡ nearest_value k h.bounds.lo = ap (λ x. option_map_or (λ b. nearest_value k b.lo) x (pos 8192)) (sym (g.one_table k t)
    ∙ h.found) in
    let at : get_or values class 0 ≡ get_or values class 8192 = get_or_default values class 0 8192 (omega (arith, few, g.twelve)) in
    let value : class_value one used class ≡ pos (octave_of_key values k) = sym (g.classes.each class few) ∙ ap pos at in
    let P : ℤ → Type 0 = λ x. size_of (x -ℤ class_value one used class) ≤ 1 in
    let Q : ℤ → Type 0 = λ y. size_of (nearest_value k h.bounds.lo -ℤ y) ≤ 1 in
    subst Q value (subst P own (g.fit k h.low h.wanted).near)

pub heard : (scaling : Scaling) (o : Options) (table : Targets) (used : ℕ) (values : List ℕ) (es : List MidiEvent) (m : Music) (out : List MidiEvent)
    (n : Note) → Serves scaling o table used values
    → m.zones ≡ no_zones → Stays o values es true m out → IsKeyed o table used es n.channel n.key n.onset
    → IsWithin (source_pitch scaling o m n) (octave_played out n) (585937500 + 32000000)
heard scaling o table used values es m out n g z stays h =
    let p = has_pitch scaling table n.key n.onset h.bounds g.bounds h.low h.found in
    let c : Channel = channel_at m n.channel in
    let x : ℤ = (fine c +ℤ coarse c) +ℤ bent c in
    let move : ℤ = octave_moves (octave_of_key values n.key) in
    let a : ℤ = pos (3200000000000 * n.key) +ℤ move in
    let near : IsServed h.bounds.lo a =
    served n.key (octave_of_key values n.key) h.bounds.lo a (value_near scaling o table used values es n.channel n.key n.onset g h) refl in
    let sum : octave_played out n ≡ a +ℤ x =
    played_level out m values n stays.music z (stays.selected n.channel h.part) (stays.octaves refl h.some n.channel h.channel h.tuned)
    ∙ regroup (pos (3200000000000 * n.key)) (fine c) (coarse c) (bent c) move in
    let close : Within (added p.pitch (exactly x)) (octave_played out n) (585937500 + 32000000) =
    heard_within g.laws p.pitch (terms_at scaling n.key n.onset) (ratios_at_key scaling n.key n.onset) h.bounds a x (octave_played out n) p.bounds
    (g.few_terms n.key n.onset (omega (arith, h.low))) near sum in
    let P : Route → Type 0 = λ r. Within (added p.pitch (exactly ((fine c +ℤ coarse c) +ℤ moved r o.range c))) (octave_played out n) (585937500 +
    32000000) in
    let Q : Option Pitch → Type 0 = λ q. IsWithin (heard_if o c q) (octave_played out n) (585937500 + 32000000) in
    subst Q (sym p.is) (subst P (sym g.route) close)
  where
    regroup : (a b c d e : ℤ) → (((a +ℤ b) +ℤ c) +ℤ d) +ℤ e ≡ (a +ℤ e) +ℤ ((b +ℤ c) +ℤ d)
    regroup a b c d e = omega (arith, ints)
