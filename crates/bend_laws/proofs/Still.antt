-- Events that change no part's channel, on neither side.
use Rattle.std.proofs.Common.{◌≡◌, ◌≢◌, ℕ, Bool, true, false, cond, [], ◌∷◌, Option, Some, None, refl, ap, sym, ◌∙◌, subst, map, nat_eq, set}
use Rattle.std.specs.Set.{is_member}
use Rattle.std.proofs.lemmas.Bool.{both_ways}
use Rattle.std.proofs.lemmas.List.{set-get_or}
use Rattle.retune_model.specs.Pairs.{Pair, is_same_pair}
use Rattle.mt_base.specs.declared.event.Msg.{Msg}
use Rattle.mt_base.specs.declared.event.Msg.TheVariants.{Control}
use Rattle.mt_base.specs.Midi.{MidiWhat, Says, SysexOf, MetaOf, MidiEvent, channel_of}
use Rattle.midi_model.specs.Sysex.{Doing, Plays, Resets, Tunes, Nothing, doing, Retune, tunes, tuning_of, is_reset}
use Rattle.midi_model.specs.Channel.{default_channel, role, Ignored, controlled, apply, State}
use Rattle.midi_model.specs.Zones.{no_zones}
use Rattle.midi_model.specs.Music.{Music, channel_at, asks, notes_turned, notes_after, settle_note, advance, step, play}
use Rattle.midi_model.specs.MusicLaws.{IsSettled}
use Rattle.retune_model.specs.Options.{Options}
use Rattle.retune_model.specs.PlaysTheSame.{Pairwise}
use Rattle.retune_model.specs.Ports.{resets}
use Rattle.retune_model.specs.Faults.{Targets, is_part}
use Rattle.channel_model.specs.Choice.{wanted}
use Rattle.channel_model.specs.BendOutput.{held_by, controller_causes}
use Rattle.bend_laws.specs.Moments.{Moment, Both, port_block, next_both}
use Rattle.bend_laws.specs.Brought.{IsSameAside, IsReached}
use Rattle.bend_laws.specs.Follows.{Has, IsMatched, AreApart, Begins, IsGiven, Follows}
use Rattle.bend_laws.proofs.Turned.{said}
use Rattle.bend_laws.proofs.Stepping.{Stepped, follows_next, Quiet, quiet_moment, moved_notes}
use Rattle.bend_laws.proofs.Given.{Laws, IsFine, fine}
use Rattle.bend_laws.proofs.Changing.{said_at, part_block, same_own}

-- what is to be shown of such an event that begins no retuned note; the places are those from before
pub record StandsStill (port : ℕ) (o : Options) (table : Targets) (used : ℕ → Bool) (k : Moment) (b : Both) (after x : Music) : Type 0 where
  pub notes : Pairwise (IsMatched port o table k.old) after.notes x.notes
  pub apart : AreApart o table after.notes
  pub source : (c : ℕ) → is_part o c ≡ true → channel_at after c ≡ channel_at b.source c
  pub out : (c : ℕ) → used c ≡ true → channel_at x c ≡ channel_at b.out c
  pub source_zones : after.zones ≡ no_zones
  pub source_settled : IsSettled after
  pub out_zones : x.zones ≡ no_zones
  pub out_reached : IsReached x

-- the state of a channel that a pair holds, as it was before
pub held_state : (Good : State → Type 0) (port : ℕ) (o : Options) (table : Targets) (used : ℕ → Bool) (k : Moment) (b : Both) (e : MidiEvent) →
    Follows Good port o table used k.old k.was b → IsGiven Good port o table used k b.source e →
    (p : Pair) → Has k.was p → IsSameAside (channel_at b.out (k.old p)) (wanted o table b.source p).own
held_state Good port o table used k b e follows sound p h = subst (IsSameAside (channel_at b.out (k.old p))) (follows.at_wanted p h)
    (follows.states (k.old p) (sound.used_was p h))

pub still_stepped : (Good : State → Type 0) (port : ℕ) (o : Options) (table : Targets) (used : ℕ → Bool) (k : Moment) (b : Both) (e : MidiEvent)
    (x : Music) → Follows Good port o table used k.old k.was b → IsGiven Good port o table used k b.source e → Quiet k →
    StandsStill port o table used k b (step b.source e) x → Stepped port o table used k b (step b.source e) x
still_stepped Good port o table used k b e x follows sound quiet s = record {
  notes = moved_notes port o table k (step b.source e).notes x.notes quiet sound.there s.notes;
  apart = s.apart;
  begins = λ p g. absurd (quiet.none p g);
  holds = λ p h free.
      subst (λ c. IsSameAside c (wanted o table (step b.source e) p).own) (sym (s.out (k.old p) (sound.used_was p (sound.was_there p h))))
      (subst (IsSameAside (channel_at b.out (k.old p))) (sym (same_own o table b.source (step b.source e) p
      (s.source p.part.channel (sound.parts p (sound.was_there p h)))))
      (held_state Good port o table used k b e follows sound p (sound.was_there p h)));
  others = λ c u free none. subst (λ d. IsSameAside d (b.left c)) (sym (s.out c u)) (follows.states c u);
  same = λ p i h. absurd (both_ways (is_member is_same_pair k.holds p) h (quiet.held p i));
  source_zones = s.source_zones;
  source_settled = s.source_settled;
  out_zones = s.out_zones;
  out_reached = s.out_reached;
}

-- nothing changes at all
pub nothing_changes : (Good : State → Type 0) (port : ℕ) (o : Options) (table : Targets) (used : ℕ → Bool) (k : Moment) (b : Both)
    (after x : Music) → Follows Good port o table used k.old k.was b → after ≡ b.source → x ≡ b.out → StandsStill port o table used k b after x
nothing_changes Good port o table used k b after x follows h g =
    let is : StandsStill port o table used k b b.source b.out = record {
      notes = follows.notes;
      apart = follows.apart;
      source = λ c p. refl;
      out = λ c u. refl;
      source_zones = follows.source_zones;
      source_settled = follows.source_settled;
      out_zones = follows.out_zones;
      out_reached = follows.out_reached;
    } in
    subst (λ m. StandsStill port o table used k b m x) (sym h) (subst (λ m. StandsStill port o table used k b b.source m) (sym g) is)

-- ---- system exclusive and meta events

abbrev pub port_event : ℕ → ℕ → MidiWhat → MidiEvent
port_event t track w = record { tick = t; track = track; what = w }

-- what is passed on
abbrev pub IsPassed : MidiWhat → Type 0
IsPassed (Says msg) = ⊥
IsPassed _ = Unit {0}

pub passed_block : (port : ℕ) (o : Options) (table : Targets) (k : Moment) (before out : Music) (t track : ℕ) (w : MidiWhat) → IsPassed w →
    port_block port o table k before out (port_event t track w) ≡ port_event t track w ∷ []
passed_block port o table k before out t track (Says msg) h = absurd h
passed_block port o table k before out t track (SysexOf lead bytes) h = refl
passed_block port o table k before out t track (MetaOf kind bytes) h = refl

pub none_passed : (port : ℕ) (o : Options) (table : Targets) (t : ℕ) (w : MidiWhat) → IsPassed w → (p : Pair) → Begins port o table t w p → ⊥
none_passed port o table t (Says msg) h p b = h
none_passed port o table t (SysexOf lead bytes) h p b = b
none_passed port o table t (MetaOf kind bytes) h p b = b

-- what is no message and no reset changes nothing
pub no_change : (m : Music) (t : ℕ) (d : Doing) → resets d ≡ false → ((msg : Msg) → d ≢ Plays msg) → advance t d m ≡ m
no_change m t (Plays msg) h g = absurd (g msg refl)
no_change m t Resets h g = absurd cc
no_change m t (Tunes r) h g = refl
no_change m t Nothing h g = refl

tunes_no_message : (x : Option Retune) (msg : Msg) → tunes x ≢ Plays msg
tunes_no_message None msg h = cc
tunes_no_message (Some r) msg h = cc

sysex_no_message : (a b : Bool) (x : Option Retune) (msg : Msg) → cond a (cond b Resets (tunes x)) Nothing ≢ Plays msg
sysex_no_message true true x msg h = cc
sysex_no_message true false x msg h = tunes_no_message x msg h
sysex_no_message false b x msg h = cc

pub no_message : (w : MidiWhat) → IsPassed w → (msg : Msg) → doing w ≢ Plays msg
no_message (Says m) h msg e = h
no_message (SysexOf lead bytes) h msg e = sysex_no_message (nat_eq lead 0xf0) (is_reset bytes) (tuning_of bytes) msg e
no_message (MetaOf kind bytes) h msg e = cc

pub passed_follows : (Good : State → Type 0) (port : ℕ) (o : Options) (table : Targets) (used : ℕ → Bool) (k : Moment) (b : Both) (t track : ℕ)
    (w : MidiWhat) → IsPassed w → resets (doing w) ≡ false →
    Follows Good port o table used k.old k.was b → IsGiven Good port o table used k b.source (port_event t track w) →
    Follows Good port o table used k.new k.is (next_both port o table k b (port_event t track w))
passed_follows Good port o table used k b t track w passed none follows sound =
    let e : MidiEvent = port_event t track w in
    let x : Music = play b.out (port_block port o table k b.source b.out e) in
    let same : x ≡ b.out = ap (play b.out) (passed_block port o table k b.source b.out t track w passed)
    ∙ no_change b.out t (doing w) none (no_message w passed) in
    follows_next Good port o table used k b e follows sound none
    (still_stepped Good port o table used k b e x follows sound (quiet_moment Good port o table used k b.source e sound
    (none_passed port o table t w passed))
    (nothing_changes Good port o table used k b (step b.source e) x follows (no_change b.source t (doing w) none (no_message w passed)) same))

-- ---- controllers that are ignored

-- a message that leaves its channel and all notes as they are
unheard : (m : Music) (t : ℕ) (msg : Msg) → IsSettled m → asks m msg ≡ None → apply (channel_at m (channel_of msg)) msg
    ≡ channel_at m (channel_of msg) → notes_after m t msg ≡ m.notes → advance t (Plays msg) m ≡ m
unheard m t msg s h same notes =
    let c : ℕ = channel_of msg in
    let channels : set m.channels c (apply (channel_at m c) msg) ≡ m.channels = ap (set m.channels c) same
    ∙ set-get_or m.channels c default_channel in
    said m t msg h ∙ ap (λ ss. let x : Music = record {
      channels = ss;
      zones = m.zones;
      notes = map (settle_note ss m.zones t)
          (notes_after m t msg);
    } in x) channels
    ∙ ap (λ ns. let x : Music = record { channels = m.channels; zones = m.zones; notes = map (settle_note m.channels m.zones t) ns } in x) notes
    ∙ ap (λ ns. let x : Music = record { channels = m.channels; zones = m.zones; notes = ns } in x) (s.notes t)

pub ignored_follows : (Good : State → Type 0) → Laws Good → (port : ℕ) (o : Options) (table : Targets) (used : ℕ → Bool) (k : Moment) (b : Both)
    (t track c n v : ℕ) → role n ≡ Ignored → is_part o c ≡ true →
    Follows Good port o table used k.old k.was b → IsGiven Good port o table used k b.source (said_at t track (Control c n v)) →
    Follows Good port o table used k.new k.is (next_both port o table k b (said_at t track (Control c n v)))
ignored_follows Good laws port o table used k b t track c n v ignored part follows sound =
    let msg : Msg = Control c n v in
    let e : MidiEvent = said_at t track msg in
    let x : Music = play b.out (port_block port o table k b.source b.out e) in
    let fit : IsFine port o table b.source (step b.source e) k.is t msg = fine port o table b.source (step b.source e) k.is t msg sound.faultless in
    let after : step b.source e ≡ b.source =
    unheard b.source t msg follows.source_settled (laws.zones o b.source msg fit.zone) (ap (controlled (channel_at b.source c) n v) ignored)
    (ap (notes_turned b.source t c n v) ignored) in
    let same : x ≡ b.out = ap (play b.out) (part_block port o table k b.source b.out t track msg [] part
    (ap (controller_causes o table (step b.source e) b.out (held_by k.old c k.holds) n v) ignored)) in
    follows_next Good port o table used k b e follows sound refl
    (still_stepped Good port o table used k b e x follows sound (quiet_moment Good port o table used k b.source e sound (λ p h. h))
    (nothing_changes Good port o table used k b (step b.source e) x follows after same))
