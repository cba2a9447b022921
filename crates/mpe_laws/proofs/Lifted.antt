-- A note off of a part: it goes to the note's member with its target key, where the key is down.
use Rattle.std.proofs.Common.{◌≡◌, ℕ, zero, Bool, true, false, cond, ◌&&◌, List, [], Option, Some, None, refl, ap, sym, ◌∙◌, subst, map, set, get_or}
use Rattle.std.specs.List.{AllByRecursion}
use Rattle.std.proofs.lemmas.List.{set-get_or}
use Rattle.retune_model.specs.Pairs.{Pair}
use Rattle.mt_base.specs.declared.event.Msg.{Msg}
use Rattle.mt_base.specs.declared.event.Msg.TheVariants.{NoteOn, NoteOff}
use Rattle.mt_base.specs.Midi.{Says, MidiEvent, channel_of}
use Rattle.midi_model.specs.Sysex.{Plays}
use Rattle.midi_model.specs.Channel.{Channel, default_channel, apply}
use Rattle.midi_model.specs.Zones.{no_zones}
use Rattle.midi_model.specs.Notes.{Note, sounds, is_at, is_down, release_key}
use Rattle.midi_model.specs.Music.{Music, channel_at, asks, notes_after, advance, step, play}
use Rattle.midi_model.specs.MusicLaws.{IsSettled, begun_by}
use Rattle.retune_model.specs.Table.{BendTarget}
use Rattle.retune_model.specs.Options.{Options}
use Rattle.retune_model.specs.PlaysTheSame.{Pairwise}
use Rattle.retune_model.specs.Faults.{Targets, is_part, target_of}
use Rattle.channel_model.specs.BendOutput.{pair_with, pressed_note, note_released, off_at}
use Rattle.channel_model.specs.MpeOutput.{Zone, zone_of, in_zone, mpe_block}
use Rattle.bend_laws.specs.Moments.{Moment}
use Rattle.bend_laws.specs.Follows.{Has, IsPlayedBy, IsMatched, IsAmong, Begins}
use Rattle.bend_laws.proofs.Lists.{all_weaker, map_kept, pair_map, pair_along, pair_first}
use Rattle.bend_laws.proofs.Turned.{plain}
use Rattle.bend_laws.proofs.Keys.{apart_after}
use Rattle.bend_laws.proofs.Playing.{saying}
use Rattle.bend_laws.proofs.Changing.{said_at}
use Rattle.bend_laws.proofs.Lifting.{sounds_down, pressed_element, none_pressed, at_channel, Tells, all_tell}
use Rattle.bend_laws.proofs.Releasing.{IsReleased, hits_alike, HasAim, has_aim}
use Rattle.mpe_laws.specs.Zoned.{planned, AreZones}
use Rattle.mpe_laws.specs.Follows.{Follows, IsGiven}
use Rattle.mpe_laws.proofs.Ops.{Governed, op_pair, releases, releases_op}
use Rattle.mpe_laws.proofs.Steering.{zonal}
use Rattle.mpe_laws.proofs.Standing.{Laws, holds_was, all_governed, Stands, still_follows, told, channels_told, source_told, out_told, part_block}
use Rattle.mpe_laws.proofs.Forwarding.{Settles, notes_told, masters_told, settled_told}

-- a message that releases a key of a part, and the message for the member and the target's key
pub record IsOff (c j v : ℕ) (msg : Msg) (off : ℕ → ℕ → Msg) : Type 0 where
  pub channel : channel_of msg ≡ c
  pub applies : (s : Channel) → apply s msg ≡ s
  pub asks_none : (m : Music) → asks m msg ≡ None
  pub source : (m : Music) (t : ℕ) → notes_after m t msg ≡ map (release_key t c j v) m.notes
  pub off_channel : (d i : ℕ) → channel_of (off d i) ≡ d
  pub off_applies : (s : Channel) (d i : ℕ) → apply s (off d i) ≡ s
  pub off_asks : (x : Music) (d i : ℕ) → asks x (off d i) ≡ None
  pub out : (x : Music) (t d i : ℕ) → notes_after x t (off d i) ≡ map (release_key t d i v) x.notes
  pub causes : (port : ℕ) (o : Options) (table : Targets) (there : List Pair) (m x : Music) (was is : Pair → ℕ) (t : ℕ) (z : Zone) →
      in_zone port o table there m x was is t msg (Some z) ≡ note_released port o table was off c (pressed_note c j m.notes)
  pub none : (port : ℕ) (o : Options) (table : Targets) (t : ℕ) (p : Pair) → Begins port o table t (Says msg) p → ⊥
  pub begun : (m : Music) (t : ℕ) → begun_by m t (Plays msg) ≡ []

pub note_off : (c j v : ℕ) → IsOff c j v (NoteOff c j v) (λ d i. NoteOff d i v)
note_off c j v = record {
  channel = refl;
  applies = λ s. refl;
  asks_none = λ m. refl;
  source = λ m t. refl;
  off_channel = λ d i. refl;
  off_applies = λ s d i. refl;
  off_asks = λ x d i. refl;
  out = λ x t d i. refl;
  causes = λ port o table there m x was is t z. refl;
  none = λ port o table t p h. h;
  begun = λ m t. refl;
}

pub note_zero : (c j : ℕ) → IsOff c j 64 (NoteOn c j zero) (λ d i. NoteOn d i zero)
note_zero c j = record {
  channel = refl;
  applies = λ s. refl;
  asks_none = λ m. refl;
  source = λ m t. refl;
  off_channel = λ d i. refl;
  off_applies = λ s d i. refl;
  off_asks = λ x d i. refl;
  out = λ x t d i. refl;
  causes = λ port o table there m x was is t z. refl;
  none = λ port o table t p h. h;
  begun = λ m t. refl;
}

-- ---- a key that goes up hits the note whose key is down

two_tests : (a d : Bool) (x y : Note) → cond a (cond d x y) y ≡ cond (a && d) (cond d x y) y
two_tests true true x y = refl
two_tests true false x y = refl
two_tests false d x y = refl

lifts : (t c j v : ℕ) (n : Note) → release_key t c j v n ≡ releases t v (is_at c j n && is_down n) n
lifts t c j v n = two_tests (is_at c j n) (is_down n) (record n { release = Some (t, v) }) n

abbrev Seen : ℕ → Options → Targets → List Zone → Moment → ℕ → ℕ → Note → Note → Note → Type 0
Seen port o table zones k c j n a b = (Governed port o table zones k.old a b × (is_part o a.channel ≡ true → sounds a ≡ true →
    IsAmong port k.holds a.channel (target_of o table a))) × Tells o table c j n a

lift_pair : (port : ℕ) (o : Options) (table : Targets) (zones : List Zone) (k : Moment) (t c j v : ℕ) (n : Note) (aim : BendTarget) →
    IsReleased port o table k c n aim → ((p q : Pair) → Has k.holds p → Has k.holds q → k.old p ≡ k.old q → p ≡ q) →
    (a b : Note) → Seen port o table zones k c j n a b → Governed port o table zones k.old (release_key t c j v a) (release_key t (k.old
    (pair_with port c aim)) aim.key v b)
lift_pair port o table zones k t c j v n aim r apart a b ((g, among), tells) =
    let d : ℕ = k.old (pair_with port c aim) in
    subst (λ y. Governed port o table zones k.old y (release_key t d aim.key v b)) (sym (lifts t c j v a))
    (subst (Governed port o table zones k.old (releases t v (is_at c j a && is_down a) a)) (sym (lifts t d aim.key v b))
    (op_pair port o table zones k.old (releases t v) (releases_op port o table k.old t v) a b (is_at c j a && is_down a)
    (is_at d aim.key b && is_down b) g
    (λ p s. let h : IsPlayedBy port o table k.old a b = g.matched.played p in hits_alike port o table k c j n aim r apart a b h p (λ i. subst
    (IsAmong port k.holds a.channel) h.aim (among p i)) tells)))

none_lifted : (t c j v : ℕ) (n : Note) → (is_at c j n && is_down n) ≡ false → release_key t c j v n ≡ n
none_lifted t c j v n h = lifts t c j v n ∙ ap (λ b. releases t v b n) h

-- ---- the event

pub release_follows : Laws → (port : ℕ) (o : Options) (table : Targets) (zones : List Zone) → AreZones o zones → (k : Moment) (m x : Music)
    (t track c j v : ℕ) (msg : Msg) (off : ℕ → ℕ → Msg) (z : Zone) → IsOff c j v msg off → is_part o c ≡ true → zone_of c zones ≡ Some z →
    Follows port o table zones k.old k.was m x → IsGiven port o table zones k m (said_at t track msg) → Follows port o table zones k.new k.is
    (step m (said_at t track msg)) (play x (mpe_block port o table zones k.was true m x k.old k.new (said_at t track msg)))
release_follows laws port o table zones row k m x t track c j v msg off z is part of follows sound = by_note (pressed_note c j m.notes) refl
  where
    e : MidiEvent
    e = said_at t track msg

    governed : Pairwise (Governed port o table zones k.old) m.notes x.notes
    governed = all_governed port o table zones row k m x (said_at t track msg) follows sound

    same_channels : channels_told m.channels msg ≡ m.channels
    same_channels = ap (set m.channels (channel_of msg)) (is.applies (get_or m.channels (channel_of msg) default_channel)) ∙ set-get_or m.channels
        (channel_of msg) default_channel

    source : advance t (Plays msg) m ≡ told no_zones m.channels t (map (release_key t c j v) m.notes)
    source = source_told m t msg follows.source_zones (is.asks_none m) ∙ ap (λ ss. told no_zones ss t (notes_after
        (plain m.channels m.notes) t msg)) same_channels ∙ ap (told no_zones m.channels t) (is.source (plain m.channels m.notes) t)

    block : (u : Option Note) → pressed_note c j m.notes ≡ u → play x (mpe_block port o table zones k.was true m x k.old k.new
        (said_at t track msg)) ≡ play x (saying (said_at t track msg) (note_released port o table k.old off c u))
    block u h = part_block port o table zones k m x t track msg (note_released port o table k.old off c u) (ap (is_part o) is.channel ∙ part)
        (ap (in_zone port o table k.was m x k.old k.new t msg) (ap (λ q. zone_of q zones) is.channel ∙ of)
        ∙ is.causes port o table k.was m x k.old k.new t z ∙ ap (note_released port o table k.old off c) h)

    to : (y : Music) → Settles port o table zones k.old t (advance t (Plays msg) m) y → y.zones ≡ planned zones → IsSettled y → ((q : ℕ) →
        channel_at y q ≡ channel_at x q) → Stands port o table zones k x (advance t (Plays msg) m) y
    to y s zoned settled same = record {
      notes = notes_told port o table zones k.old t (advance t (Plays msg) m) y s;
      apart = apart_after laws.fade o table m t (Plays msg) (is.begun m t) follows.apart;
      masters = masters_told port o table zones k.old t (advance t (Plays msg) m) y s;
      members = λ q g low h. same q;
      source_zones = ap (λ (n : Music). n.zones) source;
      source_settled = laws.settle m (said_at t track msg) follows.source_settled;
      out_zones = zoned;
      out_settled = settled;
    }

    to_note : (n : Note) (aim : BendTarget) → pressed_note c j m.notes ≡ Some n → IsReleased port o table k c n aim →
        Follows port o table zones k.new k.is (step m (said_at t track msg)) (play x (mpe_block port o table zones k.was true m x k.old k.new
        (said_at t track msg)))
    to_note n aim pressed r =
        let d : ℕ = k.old (pair_with port c aim) in
        let mg : Msg = off d aim.key in
        let y : Music = advance t (Plays mg) x in
        let among : Note → Type 0 = λ a. is_part o a.channel ≡ true → sounds a ≡ true → IsAmong port k.holds a.channel (target_of o table a) in
        let seen : Pairwise (Seen port o table zones k c j n) m.notes x.notes =
        pair_along (λ a b. Governed port o table zones k.old a b × among a) (Tells o table c j n) m.notes x.notes
        (pair_along (Governed port o table zones k.old) among m.notes x.notes governed sound.held)
        (all_tell o table c j m.notes n follows.apart pressed) in
        let channels : channels_told x.channels mg ≡ x.channels = ap (set x.channels (channel_of mg)) (is.off_applies (get_or x.channels
        (channel_of mg) default_channel) d aim.key) ∙ set-get_or x.channels (channel_of mg) default_channel in
        let out : y ≡ told (planned zones) x.channels t (map (release_key t d aim.key v) x.notes) =
        out_told zones x t mg follows.out_zones (is.off_asks x d aim.key) ∙ ap (λ us. told (planned zones) us t (notes_after
        (zonal zones x.channels x.notes) t mg)) channels
        ∙ ap (told (planned zones) x.channels t) (is.out (zonal zones x.channels x.notes) t d aim.key) in
        let s : Settles port o table zones k.old t (advance t (Plays msg) m) y = record {
          ss = m.channels;
          us = x.channels;
          ns = map (release_key t c j v) m.notes;
          xs = map (release_key t d aim.key v) x.notes;
          source = source;
          out = out;
          notes = pair_map (Seen port o table zones k c j n) (Governed port o table zones k.old) (release_key t c j v) (release_key t d aim.key v)
              (lift_pair port o table zones k t c j v n aim r (λ p q h g. sound.apart_was p q (holds_was port o table zones k m
              (said_at t track msg) sound p h) (holds_was port o table zones k m (said_at t track msg) sound q g))) m.notes x.notes seen;
          masters = follows.masters;
        } in
        subst (Follows port o table zones k.new k.is (advance t (Plays msg) m)) (sym (block (Some n) pressed ∙ ap (λ u. play x (saying
        (said_at t track msg) (off_at port k.old off c u))) r.aim))
        (still_follows port o table zones k m x (said_at t track msg) y follows sound (is.none port o table t)
        (to y s (ap (λ (n : Music). n.zones) out) (laws.settle x (said_at t track mg) follows.out_settled) (λ q. ap (λ
        (n : Music). channel_at n q) out)))

    by_note : (u : Option Note) → pressed_note c j m.notes ≡ u → Follows port o table zones k.new k.is (step m (said_at t track msg)) (play x
        (mpe_block port o table zones k.was true m x k.old k.new (said_at t track msg)))
    by_note None h =
        let s : Settles port o table zones k.old t (advance t (Plays msg) m) x = record {
          ss = m.channels;
          us = x.channels;
          ns = map (release_key t c j v) m.notes;
          xs = x.notes;
          source = source;
          out = settled_told (planned zones) x t follows.out_zones follows.out_settled;
          notes = subst (λ l. Pairwise (Governed port o table zones k.old) l x.notes) (sym (map_kept (release_key t c j v) m.notes (all_weaker
              (λ n. (is_at c j n && is_down n) ≡ false) (λ n. release_key t c j v n ≡ n) (none_lifted t c j v) m.notes
              (none_pressed c j m.notes h)))) governed;
          masters = follows.masters;
        } in
        subst (Follows port o table zones k.new k.is (advance t (Plays msg) m)) (sym (block None h))
        (still_follows port o table zones k m x (said_at t track msg) x follows sound (is.none port o table t)
        (to x s follows.out_zones follows.out_settled (λ q. refl)))
    by_note (Some n) h =
        let among_all : Note → Type 0 = λ a. is_part o a.channel ≡ true → sounds a ≡ true → IsAmong port k.holds a.channel (target_of o table a) in
        let aims : AllByRecursion (HasAim o table) m.notes = pair_first (IsMatched port o table k.old) (HasAim o table)
        (has_aim port o table k.old) m.notes x.notes follows.notes in
        let found = pressed_element (HasAim o table) c j m.notes n aims h in
        let held = pressed_element among_all c j m.notes n sound.held h in
        let here : n.channel ≡ c = at_channel c j n found.1 in
        let n_part : is_part o n.channel ≡ true = ap (is_part o) here ∙ part in
        let aim = found.0 n_part in
        to_note n aim.0 h (record {
          part = part;
          aim = aim.1;
          holds = subst (λ q. Has k.holds (pair_with port q aim.0)) here (subst
              (IsAmong port k.holds n.channel) aim.1 (held.0 n_part (sounds_down n found.2)));
        })
