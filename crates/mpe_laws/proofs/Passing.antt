-- Resets, with the setup behind them; and what is no message.
use Rattle.std.proofs.Common.{◌≡◌, ℕ, Bool, true, false, not, List, [], ◌∷◌, ◌++◌, Option, Some, None, is_some, refl, ap, sym, ◌∙◌, subst, map}
use Rattle.std.specs.List.{AllByRecursion}
use Rattle.retune_model.specs.Pairs.{Pair}
use Rattle.mt_base.specs.Midi.{MidiWhat, Says, SysexOf, MetaOf, MidiEvent}
use Rattle.midi_model.specs.Sysex.{Doing, Plays, Resets, Tunes, Nothing, doing}
use Rattle.midi_model.specs.Channel.{Channel, default_channel}
use Rattle.midi_model.specs.Zones.{no_zones}
use Rattle.midi_model.specs.Notes.{Note, sounds, ending}
use Rattle.midi_model.specs.Music.{Music, channel_at, reset, advance, step, play}
use Rattle.midi_model.specs.MusicLaws.{IsSettled}
use Rattle.retune_model.specs.Options.{Options}
use Rattle.retune_model.specs.PlaysTheSame.{Pairwise}
use Rattle.retune_model.specs.Faults.{Targets, is_part}
use Rattle.retune_model.specs.Ports.{resets}
use Rattle.channel_model.specs.BendOutput.{placed_at}
use Rattle.channel_model.specs.MpeOutput.{Zone, zones_setup, setup_before, setup_behind, mpe_block}
use Rattle.bend_laws.specs.Moments.{Moment}
use Rattle.bend_laws.specs.Follows.{Has, IsMatched, AreApart}
use Rattle.bend_laws.proofs.Lists.{pair_map, all_mapped}
use Rattle.bend_laws.proofs.Playing.{settled_play}
use Rattle.bend_laws.proofs.Keys.{apart_after}
use Rattle.bend_laws.proofs.Altered.{end_or, ending_form, ending_channel, matched_ended, is_resets, all_default, nothing_there}
use Rattle.bend_laws.proofs.Still.{port_event, IsPassed, no_change, no_message, none_passed}
use Rattle.mpe_laws.specs.Zoned.{member_state, AreZones, IsSetUp, SetsUp, at_defaults}
use Rattle.mpe_laws.specs.Follows.{IsZoned, Follows, IsGiven}
use Rattle.mpe_laws.proofs.Ops.{zoned_moved}
use Rattle.mpe_laws.proofs.Standing.{Laws, all_governed, Stands, still_follows}

pub before_none : (setup : List MidiWhat) (d : Doing) → setup_before setup true d ≡ []
before_none setup (Plays msg) = refl
before_none setup Resets = refl
before_none setup (Tunes r) = refl
before_none setup Nothing = refl

pub behind_none : (setup : List MidiWhat) (b : Bool) (d : Doing) → resets d ≡ false → setup_behind setup b d ≡ []
behind_none setup true (Plays msg) h = refl
behind_none setup true Resets h = absurd cc
behind_none setup true (Tunes r) h = refl
behind_none setup true Nothing h = refl
behind_none setup false (Plays msg) h = refl
behind_none setup false Resets h = refl
behind_none setup false (Tunes r) h = refl
behind_none setup false Nothing h = refl

abbrev pub setup_of : Options → List Zone → List MidiWhat
setup_of o zones = map Says (zones_setup o.range zones)

pub passed_block : (port : ℕ) (o : Options) (table : Targets) (zones : List Zone) (k : Moment) (m x : Music) (t track : ℕ) (w : MidiWhat) →
    IsPassed w →
    mpe_block port o table zones k.was true m x k.old k.new (port_event t track w) ≡ port_event t track w ∷ placed_at (port_event t track w)
    (setup_behind (setup_of o zones) true (doing w))
passed_block port o table zones k m x t track (Says msg) h = absurd h
passed_block port o table zones k m x t track (SysexOf lead bytes) h =
    ap (λ ws. placed_at (port_event t track (SysexOf lead bytes)) ws ++ port_event t track (SysexOf lead bytes) ∷ placed_at (port_event t track
    (SysexOf lead bytes)) (setup_behind (setup_of o zones) true (doing (SysexOf lead bytes)))) (before_none (setup_of o zones) (doing
    (SysexOf lead bytes)))
passed_block port o table zones k m x t track (MetaOf kind bytes) h = refl

pub passed_follows : (port : ℕ) (o : Options) (table : Targets) (zones : List Zone) → AreZones o zones → (k : Moment) (m x : Music) (t track : ℕ)
    (w : MidiWhat) → IsPassed w → resets (doing w) ≡ false →
    Follows port o table zones k.old k.was m x → IsGiven port o table zones k m (port_event t track w) → Follows port o table zones k.new k.is
    (step m (port_event t track w)) (play x (mpe_block port o table zones k.was true m x k.old k.new (port_event t track w)))
passed_follows port o table zones row k m x t track w passed none follows sound =
    let e : MidiEvent = port_event t track w in
    let source : step m e ≡ m = no_change m t (doing w) none (no_message w passed) in
    let out : play x (mpe_block port o table zones k.was true m x k.old k.new e) ≡ x =
    ap (play x) (passed_block port o table zones k m x t track w passed) ∙ ap (λ ws. play (step x e) (placed_at e ws)) (behind_none
    (setup_of o zones) true (doing w) none) ∙ no_change x t (doing w) none (no_message w passed) in
    let stands : Stands port o table zones k x m x = record {
      notes = all_governed port o table zones row k m x e follows sound;
      apart = follows.apart;
      masters = follows.masters;
      members = λ d g low h. refl;
      source_zones = follows.source_zones;
      source_settled = follows.source_settled;
      out_zones = follows.out_zones;
      out_settled = follows.out_settled;
    } in
    subst (Follows port o table zones k.new k.is (step m e)) (sym out) (still_follows port o table zones k m x e x follows sound
    (none_passed port o table t w passed) (subst (λ n. Stands port o table zones k x n x) (sym source) stands))

-- ---- resets

silent_ended : (t : ℕ) (n : Note) → sounds (ending t n) ≡ false
silent_ended t n = ap sounds (ending_form t n) ∙ by_end n.ended
  where
    by_end : (e : Option ℕ) → not (is_some (end_or t e)) ≡ false
    by_end None = refl
    by_end (Some s) = refl

all_silent : (t : ℕ) (ns : List Note) → AllByRecursion (λ n. sounds n ≡ false) (map (ending t) ns)
all_silent t [] = tt
all_silent t (n ∷ ns) = (silent_ended t n, all_silent t ns)

zoned_ended : (o : Options) (zones : List Zone) (t : ℕ) (n : Note) → IsZoned o zones n → IsZoned o zones (ending t n)
zoned_ended o zones t n h p = zoned_moved zones n (ending t n) (ending_channel t n) (ap (λ (x : Note). x.pressure) (ending_form t n)) (h (ap
    (is_part o) (sym (ending_channel t n)) ∙ p))

-- the setup makes the output follow, where all is at its defaults and nothing sounds
pub set_up_follows : Laws → (port : ℕ) (o : Options) (table : Targets) (zones : List Zone) (place : Pair → ℕ) (there : List Pair) (m y : Music)
    (ns : List Note) → IsSetUp o zones ns y → IsSettled y → Pairwise (IsMatched port o table place) m.notes ns → AllByRecursion
    (IsZoned o zones) m.notes →
    AreApart o table m.notes → ((c : ℕ) → channel_at m c ≡ default_channel) → m.zones ≡ no_zones → IsSettled m → ((p : Pair) → Has there p → ⊥) →
    Follows port o table zones place there m y
set_up_follows laws port o table zones place there m y ns set settled notes zoned apart defaults plainly settled_m none = record {
  notes = subst (Pairwise (IsMatched port o table place) m.notes) (sym set.notes) notes;
  zoned = zoned;
  apart = apart;
  masters = λ c z h. set.masters c z h ∙ sym (defaults c);
  members = λ d g low h. set.members d g low h ∙ ap (member_state o.range) (ap (λ (u : Channel). u.bend) (sym (set.members d g low h)));
  bent = λ p h. absurd (none p h);
  source_zones = plainly;
  source_settled = settled_m;
  out_zones = set.zones_are;
  out_settled = settled;
}

pub reset_follows : Laws → (port : ℕ) (o : Options) (table : Targets) (zones : List Zone) → AreZones o zones → SetsUp o zones → (k : Moment)
    (m x : Music) (t track : ℕ) (w : MidiWhat) → IsPassed w → resets (doing w) ≡ true →
    Follows port o table zones k.old k.was m x → IsGiven port o table zones k m (port_event t track w) → Follows port o table zones k.new k.is
    (step m (port_event t track w)) (play x (mpe_block port o table zones k.was true m x k.old k.new (port_event t track w)))
reset_follows laws port o table zones row sets k m x t track w passed resets_now follows sound =
    let e : MidiEvent = port_event t track w in
    let is : doing w ≡ Resets = is_resets (doing w) resets_now in
    let after : step m e ≡ reset t m = ap (λ d. advance t d m) is in
    let out_reset : step x e ≡ reset t x = ap (λ d. advance t d x) is in
    let xs : List Note = map (ending t) x.notes in
    let y : Music = play (at_defaults xs) (placed_at e (setup_of o zones)) in
    let out : play x (mpe_block port o table zones k.was true m x k.old k.new e) ≡ y =
    ap (play x) (passed_block port o table zones k m x t track w passed) ∙ ap (λ d. play (step x e) (placed_at e (setup_behind
    (setup_of o zones) true d))) is ∙ ap (λ n. play n (placed_at e (setup_of o zones))) out_reset in
    let settled : IsSettled (at_defaults xs) = subst IsSettled out_reset (laws.settle x e follows.out_settled) in
    let done : Follows port o table zones k.new k.is (reset t m) y =
    set_up_follows laws port o table zones k.new k.is (reset t m) y xs (sets e xs (all_silent t x.notes)) (settled_play laws.settle
    (at_defaults xs) (placed_at e (setup_of o zones)) settled)
    (pair_map (IsMatched port o table k.old) (IsMatched port o table k.new) (ending t) (ending t)
    (matched_ended port o table k.old k.new t) m.notes x.notes follows.notes)
    (all_mapped (IsZoned o zones) (ending t) (IsZoned o zones) (zoned_ended o zones t) m.notes follows.zoned)
    (apart_after laws.fade o table m t Resets refl follows.apart) (all_default 16) refl (subst IsSettled after
    (laws.settle m e follows.source_settled)) (λ p i. nothing_there k p (sound.reset is) i) in
    subst (Follows port o table zones k.new k.is (step m e)) (sym out) (subst (λ n. Follows port o table zones k.new k.is n y) (sym after) done)
