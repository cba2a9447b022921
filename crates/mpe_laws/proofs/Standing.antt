-- What is to be shown of an event that begins no note of a part; and of both sides after a message.
use Rattle.std.proofs.Common.{◌≡◌, ◌<◌, ℕ, true, cond, List, [], ◌∷◌, ◌++◌, Some, None, ap, sym, ◌∙◌, subst, map, set, get_or, unwrap_or, inl, inr}
use Rattle.std.specs.Set.{is_member}
use Rattle.std.proofs.lemmas.Bool.{cases_Bool, both_ways}
use Rattle.std.proofs.lemmas.List.{append-nil}
use Rattle.retune_model.specs.Pairs.{Pair, is_same_pair}
use Rattle.mt_base.specs.declared.event.Msg.{Msg}
use Rattle.mt_base.specs.Midi.{Says, MidiEvent, channel_of}
use Rattle.midi_model.specs.Sysex.{Plays}
use Rattle.midi_model.specs.Channel.{Channel, default_channel, apply}
use Rattle.midi_model.specs.Zones.{Zones, no_zones, master, governor}
use Rattle.midi_model.specs.Notes.{Note, sounds}
use Rattle.midi_model.specs.Music.{Music, channel_at, asks, notes_after, settle_note, advance, step, play}
use Rattle.midi_model.specs.MusicLaws.{IsSettled, EventsSettle, NotesFade}
use Rattle.retune_model.specs.Options.{Options}
use Rattle.retune_model.specs.PlaysTheSame.{Pairwise}
use Rattle.retune_model.specs.Faults.{Targets, is_part, target_of}
use Rattle.retune_model.specs.FaultLaws.{OnlyZoneEntriesAskForZones}
use Rattle.channel_model.specs.BendOutput.{pair_with, placed_at}
use Rattle.channel_model.specs.MpeOutput.{Zone, master_of, zone_of, in_zone, mpe_block}
use Rattle.bend_laws.specs.Moments.{Moment}
use Rattle.bend_laws.specs.Follows.{Has, IsPlayedBy, IsMatched, AreApart, IsAmong, Begins}
use Rattle.bend_laws.proofs.Lists.{pair_map, pair_weaker, pair_along, pair_first}
use Rattle.bend_laws.proofs.Turned.{plain, is_plain, said}
use Rattle.bend_laws.proofs.Stepping.{Quiet, moved_notes}
use Rattle.bend_laws.proofs.Changing.{said_at}
use Rattle.bend_laws.proofs.Playing.{saying}
use Rattle.mpe_laws.specs.Zoned.{planned, member_state, AreZones, IsMember}
use Rattle.mpe_laws.specs.Follows.{IsZoned, Follows, IsGiven}
use Rattle.mpe_laws.proofs.Ops.{Governed, settle_pair}
use Rattle.mpe_laws.proofs.Steering.{zonal, is_zonal}

pub record Laws : Type 0 where
  pub settle : EventsSettle
  pub fade : NotesFade
  pub zones : OnlyZoneEntriesAskForZones

-- ---- the zone of each note's part

pub holds_was : (port : ℕ) (o : Options) (table : Targets) (zones : List Zone) (k : Moment) (m : Music) (e : MidiEvent) →
    IsGiven port o table zones k m e → (p : Pair) → Has k.holds p → Has k.was p
holds_was port o table zones k m e sound p h = sound.was_there p h

pub by_member : (zones : List Zone) (p : Pair) (d : ℕ) (i : IsMember zones p d) → governor (planned zones) d ≡ master_of i.zone
by_member zones p d i = ap (λ u. unwrap_or u d) i.is

govern : (port : ℕ) (o : Options) (table : Targets) (zones : List Zone) → AreZones o zones → (k : Moment) (m : Music) (e : MidiEvent) →
    IsGiven port o table zones k m e → (a b : Note) →
    (IsMatched port o table k.old a b × (is_part o a.channel ≡ true → sounds a ≡ true → IsAmong port k.holds a.channel
    (target_of o table a))) × IsZoned o zones a → Governed port o table zones k.old a b
govern port o table zones row k m e sound a b ((h, among), zoned) = record {
  matched = h;
  governed = λ p s.
      let y : IsPlayedBy port o table k.old a b = h.played p in
      let q : Pair = pair_with port a.channel y.target in
      let on : b.channel ≡ k.old q = (y.sounding s).channel in
      let i : IsMember zones q (k.old q) = sound.member_was q (holds_was port o table zones k m e sound q (subst
      (IsAmong port k.holds a.channel) y.aim (among p s))) in
      record {
        zone = i.zone;
        of = i.of;
        by = ap (governor (planned zones)) on ∙ by_member zones q (k.old q) i;
        inside = λ c w f g. row.beside c (k.old q) (master_of i.zone) w i.is f (sym on ∙ g);
      };
  zoned = zoned;
}

pub all_governed : (port : ℕ) (o : Options) (table : Targets) (zones : List Zone) → AreZones o zones → (k : Moment) (m x : Music) (e : MidiEvent) →
    Follows port o table zones k.old k.was m x → IsGiven port o table zones k m e → Pairwise (Governed port o table zones k.old) m.notes x.notes
all_governed port o table zones row k m x e follows sound =
    let among : Note → Type 0 = λ a. is_part o a.channel ≡ true → sounds a ≡ true → IsAmong port k.holds a.channel (target_of o table a) in
    pair_weaker (λ a b. (IsMatched port o table k.old a b × among a) × IsZoned o zones a) (Governed port o table zones k.old)
    (govern port o table zones row k m e sound) m.notes x.notes
    (pair_along (λ a b. IsMatched port o table k.old a b × among a) (IsZoned o zones) m.notes x.notes (pair_along
    (IsMatched port o table k.old) among m.notes x.notes follows.notes sound.held) follows.zoned)

-- ---- an event that begins no note of a part

pub record Stands (port : ℕ) (o : Options) (table : Targets) (zones : List Zone) (k : Moment) (out : Music) (m x : Music) : Type 0 where
  pub notes : Pairwise (Governed port o table zones k.old) m.notes x.notes
  pub apart : AreApart o table m.notes
  pub masters : (c : ℕ) (z : Zone) → zone_of c zones ≡ Some z → channel_at x (master_of z) ≡ channel_at m c
  pub members : (d g : ℕ) → d < 16 → master (planned zones) d ≡ Some g → channel_at x d ≡ channel_at out d
  pub source_zones : m.zones ≡ no_zones
  pub source_settled : IsSettled m
  pub out_zones : x.zones ≡ planned zones
  pub out_settled : IsSettled x

quiet : (port : ℕ) (o : Options) (table : Targets) (zones : List Zone) (k : Moment) (m : Music) (e : MidiEvent) →
    IsGiven port o table zones k m e → ((p : Pair) → Begins port o table e.tick e.what p → ⊥) → Quiet k
quiet port o table zones k m e sound nothing =
    let held : (p : Pair) → Has k.is p → Has k.holds p = λ p i. elim (cases_Bool (is_member is_same_pair k.holds p)) [
      | inl h ↦ h
      | inr h ↦ absurd (nothing p (sound.from p i h))
    ] in
    record {
      held = held;
      none = λ p b. both_ways (is_member is_same_pair k.was p) b.new (holds_was port o table zones k m e sound p (held p b.is));
      stays = λ p i. sound.kept p (holds_was port o table zones k m e sound p (held p i)) i;
    }

pub still_follows : (port : ℕ) (o : Options) (table : Targets) (zones : List Zone) (k : Moment) (m x : Music) (e : MidiEvent) (y : Music) →
    Follows port o table zones k.old k.was m x → IsGiven port o table zones k m e → ((p : Pair) → Begins port o table e.tick e.what p → ⊥) →
    Stands port o table zones k x (step m e) y → Follows port o table zones k.new k.is (step m e) y
still_follows port o table zones k m x e y follows sound nothing s =
    let after : Music = step m e in
    let q : Quiet k = quiet port o table zones k m e sound nothing in
    record {
      notes = moved_notes port o table k after.notes y.notes q sound.there (pair_weaker (Governed port o table zones k.old)
          (IsMatched port o table k.old) (λ a b g. g.matched) after.notes y.notes s.notes);
      zoned = pair_first (Governed port o table zones k.old) (IsZoned o zones) (λ a b g. g.zoned) after.notes y.notes s.notes;
      apart = s.apart;
      masters = s.masters;
      members = λ d g low h. s.members d g low h ∙ follows.members d g low h ∙ ap (member_state o.range) (ap (λ (u : Channel). u.bend) (sym
          (s.members d g low h)));
      bent = λ p i.
          let was : Has k.was p = holds_was port o table zones k m e sound p (q.held p i) in
          let w : IsMember zones p (k.old p) = sound.member_was p was in
          ap (λ d. (channel_at y d).bend) (q.stays p i) ∙ ap (λ (u : Channel). u.bend) (s.members (k.old p) (master_of w.zone) w.low w.is)
          ∙ follows.bent p was;
      source_zones = s.source_zones;
      source_settled = s.source_settled;
      out_zones = s.out_zones;
      out_settled = s.out_settled;
    }

-- ---- both sides settle

abbrev pub Masters : List Zone → List Channel → List Channel → Type 0
Masters zones ss us = (c : ℕ) (z : Zone) → zone_of c zones ≡ Some z → get_or us (master_of z) default_channel ≡ get_or ss c default_channel

pub all_settle : (port : ℕ) (o : Options) (table : Targets) (zones : List Zone) (place : Pair → ℕ) (t : ℕ) (ss us : List Channel)
    (ns xs : List Note) → Masters zones ss us → Pairwise (Governed port o table zones place) ns xs →
    Pairwise (Governed port o table zones place) (map (settle_note ss no_zones t) ns) (map (settle_note us (planned zones) t) xs)
all_settle port o table zones place t ss us ns xs masters h = pair_map (Governed port o table zones place) (Governed port o table zones place)
    (settle_note ss no_zones t) (settle_note us (planned zones) t) (settle_pair port o table zones place t ss us masters) ns xs h

-- what a message without a zone asked for makes of a music
abbrev pub told : Zones → (ss : List Channel) (t : ℕ) (ns : List Note) → Music
told w ss t ns = record { channels = ss; zones = w; notes = map (settle_note ss w t) ns }

abbrev pub channels_told : List Channel → Msg → List Channel
channels_told ss msg = set ss (channel_of msg) (apply (get_or ss (channel_of msg) default_channel) msg)

pub source_told : (m : Music) (t : ℕ) (msg : Msg) → m.zones ≡ no_zones → asks m msg ≡ None → advance t (Plays msg) m ≡ told no_zones
    (channels_told m.channels msg) t (notes_after (plain m.channels m.notes) t msg)
source_told m t msg z h =
    said m t msg h ∙ ap (λ (n : Music). told n.zones (channels_told n.channels msg) t (notes_after n t msg)) (is_plain m z)

pub out_told : (zones : List Zone) (x : Music) (t : ℕ) (msg : Msg) → x.zones ≡ planned zones → asks x msg ≡ None → advance t (Plays msg) x ≡ told
    (planned zones) (channels_told x.channels msg) t (notes_after (zonal zones x.channels x.notes) t msg)
out_told zones x t msg z h =
    said x t msg h ∙ ap (λ (n : Music). told n.zones (channels_told n.channels msg) t (notes_after n t msg)) (is_zonal zones x z)

-- ---- the block of a message

pub part_block : (port : ℕ) (o : Options) (table : Targets) (zones : List Zone) (k : Moment) (m x : Music) (t track : ℕ) (msg : Msg)
    (ms : List Msg) → is_part o (channel_of msg) ≡ true → in_zone port o table k.was m x k.old k.new t msg (zone_of (channel_of msg) zones) ≡ ms →
    play x (mpe_block port o table zones k.was true m x k.old k.new (said_at t track msg)) ≡ play x (saying (said_at t track msg) ms)
part_block port o table zones k m x t track msg ms part h =
    ap (λ b. play x (placed_at (said_at t track msg) (cond b (map Says (in_zone port o table k.was m x k.old k.new t msg (zone_of
    (channel_of msg) zones))) (Says msg ∷ []) ++ []))) part
    ∙ ap (λ ws. play x (placed_at (said_at t track msg) ws)) (append-nil (map Says (in_zone port o table k.was m x k.old k.new t msg (zone_of
    (channel_of msg) zones))))
    ∙ ap (λ l. play x (saying (said_at t track msg) l)) h
