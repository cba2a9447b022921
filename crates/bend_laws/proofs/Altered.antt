-- Notes whose release, capture, pressure and end change on both sides alike; and resets.
use Rattle.std.proofs.Common.{◌≡◌, ℕ, zero, suc, Bool, true, false, not, [], ◌∷◌, Option, Some, None, is_some, refl, ap, sym, ◌∙◌, subst, get_or, replicate}
use Rattle.std.specs.Set.{is_member}
use Rattle.std.proofs.lemmas.Bool.{both_ways}
use Rattle.retune_model.specs.Pairs.{Pair, is_same_pair}
use Rattle.mt_base.specs.Midi.{MidiWhat, Says, SysexOf, MetaOf, MidiEvent}
use Rattle.midi_model.specs.Sysex.{Doing, Plays, Resets, Tunes, Nothing, doing}
use Rattle.midi_model.specs.Channel.{Channel, default_channel, State}
use Rattle.midi_model.specs.Notes.{Note, ending}
use Rattle.midi_model.specs.Music.{Music, channel_at, reset, advance, step, play}
use Rattle.midi_model.specs.MusicLaws.{IsSettled}
use Rattle.retune_model.specs.Options.{Options}
use Rattle.retune_model.specs.Ports.{resets}
use Rattle.retune_model.specs.Faults.{Targets, is_part}
use Rattle.channel_model.specs.Choice.{wanted}
use Rattle.channel_model.specs.BendOutput.{pair_with}
use Rattle.bend_laws.specs.Moments.{Moment, Both, port_block, next_both, left_after}
use Rattle.bend_laws.specs.Brought.{IsSameAside, IsReached}
use Rattle.bend_laws.specs.Follows.{Has, IsPlayedBy, IsMatched, IsGiven, Follows}
use Rattle.bend_laws.proofs.Lists.{pair_map}
use Rattle.bend_laws.proofs.Playing.{reached_play}
use Rattle.bend_laws.proofs.Keys.{apart_after}
use Rattle.bend_laws.proofs.Given.{Laws}
use Rattle.bend_laws.proofs.Still.{IsPassed, port_event}

abbrev pub altered : Note → Option (ℕ × ℕ) → Bool → ℕ → Option ℕ → Note
altered n r k p e = record n { release = r; captured = k; pressure = p; ended = e }

-- what two altered notes share while they sound
pub record StillAlike (place : ℕ) (b : Note) (k l : Bool) (p q : ℕ) : Type 0 where
  pub on : b.channel ≡ place
  pub captured : l ≡ k
  pub pressure : q ≡ p

pub played_altered : (port : ℕ) (o : Options) (table : Targets) (was is : Pair → ℕ) (a b : Note) (r s : Option (ℕ × ℕ)) (k l : Bool) (p q : ℕ)
    (e f : Option ℕ) → (h : IsPlayedBy port o table was a b) → s ≡ r → f ≡ e →
    (not (is_some e) ≡ true → StillAlike (is (pair_with port a.channel h.target)) b k l p q) → IsPlayedBy port o table is (altered a r k p e)
    (altered b s l q f)
played_altered port o table was is a b r s k l p q e f h release ended alike = record {
  target = h.target;
  aim = h.aim;
  key = h.key;
  onset = h.onset;
  velocity = h.velocity;
  voice = h.voice;
  release = release;
  ended = ended;
  sounding = λ g. (let y : StillAlike (is (pair_with port a.channel h.target)) b k l p q =
      alike g in record { channel = y.on; captured = y.captured; pressure = y.pressure });
}

-- ---- a note that ends

abbrev pub end_or : ℕ → Option ℕ → Option ℕ
end_or t None = Some t
end_or t (Some s) = Some s

pub ending_form : (t : ℕ) (n : Note) → ending t n ≡ record n { ended = end_or t n.ended }
ending_form t n = by_end n.ended
  where
    by_end : (e : Option ℕ) → (let y : Note = record n { ended = e } in ending t y ≡ record y { ended = end_or t e })
    by_end None = refl
    by_end (Some s) = refl

pub never_sounds : (t : ℕ) (e : Option ℕ) → not (is_some (end_or t e)) ≡ true → ⊥
never_sounds t None h = cc
never_sounds t (Some s) h = cc

pub played_ended : (port : ℕ) (o : Options) (table : Targets) (was is : Pair → ℕ) (t : ℕ) (a b : Note) → IsPlayedBy port o table was a b →
    IsPlayedBy port o table is (ending t a) (ending t b)
played_ended port o table was is t a b h =
    subst (λ x. IsPlayedBy port o table is x (ending t b)) (sym (ending_form t a))
    (subst (λ x. IsPlayedBy port o table is (record a { ended = end_or t a.ended }) x) (sym (ending_form t b))
    (played_altered port o table was is a b a.release b.release a.captured b.captured a.pressure b.pressure (end_or t a.ended)
    (end_or t b.ended) h h.release (ap (end_or t) h.ended) (λ g. absurd (never_sounds t a.ended g))))

pub ending_channel : (t : ℕ) (n : Note) → (ending t n).channel ≡ n.channel
ending_channel t n = ap (λ (x : Note). x.channel) (ending_form t n)

pub matched_ended : (port : ℕ) (o : Options) (table : Targets) (was is : Pair → ℕ) (t : ℕ) (a b : Note) → IsMatched port o table was a b →
    IsMatched port o table is (ending t a) (ending t b)
matched_ended port o table was is t a b h = record {
  retuned = ap (is_part o) (ending_channel t b) ∙ h.retuned ∙ ap (is_part o) (sym (ending_channel t a));
  played = λ p. played_ended port o table was is t a b (h.played (ap (is_part o) (sym (ending_channel t a)) ∙ p));
}

-- ---- a reset

pub same_aside : (a b : Channel) → a ≡ b → IsSameAside a b
same_aside a b h = record {
  controls = ap (λ (s : Channel). s.controls) h;
  params = ap (λ (s : Channel). s.params) h;
  voice = ap (λ (s : Channel). s.voice) h;
  bend = ap (λ (s : Channel). s.bend) h;
  pressure = ap (λ (s : Channel). s.pressure) h;
}

pub all_default : (n c : ℕ) → get_or (replicate n default_channel) c default_channel ≡ default_channel
all_default zero c = refl
all_default (suc n) zero = refl
all_default (suc n) (suc c) = all_default n c

pub is_resets : (d : Doing) → resets d ≡ true → d ≡ Resets
is_resets (Plays msg) h = absurd cc
is_resets Resets h = refl
is_resets (Tunes r) h = absurd cc
is_resets Nothing h = absurd cc

pub nothing_there : (k : Moment) (p : Pair) → k.is ≡ [] → Has k.is p → ⊥
nothing_there k p h i = both_ways false refl (ap (λ ps. is_member is_same_pair ps p) (sym h) ∙ i)

reset_block : (port : ℕ) (o : Options) (table : Targets) (k : Moment) (before out : Music) (t track : ℕ) (w : MidiWhat) → IsPassed w →
    port_block port o table k before out (port_event t track w) ≡ port_event t track w ∷ []
reset_block port o table k before out t track (Says msg) h = absurd h
reset_block port o table k before out t track (SysexOf lead bytes) h = refl
reset_block port o table k before out t track (MetaOf kind bytes) h = refl

pub reset_follows : (Good : State → Type 0) → Laws Good → (port : ℕ) (o : Options) (table : Targets) (used : ℕ → Bool) (k : Moment) (b : Both)
    (t track : ℕ) (w : MidiWhat) → IsPassed w → resets (doing w) ≡ true →
    Follows Good port o table used k.old k.was b → IsGiven Good port o table used k b.source (port_event t track w) →
    Follows Good port o table used k.new k.is (next_both port o table k b (port_event t track w))
reset_follows Good laws port o table used k b t track w passed resets_now follows sound =
    let e : MidiEvent = port_event t track w in
    let is : doing w ≡ Resets = is_resets (doing w) resets_now in
    let after : step b.source e ≡ reset t b.source = ap (λ d. advance t d b.source) is in
    let out : play b.out (port_block port o table k b.source b.out e) ≡ reset t b.out = ap (play b.out)
    (reset_block port o table k b.source b.out t track w passed) ∙ ap (λ d. advance t d b.out) is in
    let left : ℕ → Channel = λ c. default_channel in
    let none : (p : Pair) → Has k.is p → ⊥ = λ p i. nothing_there k p (sound.reset is) i in
    let x : Both = record { source = reset t b.source; out = reset t b.out; left = left } in
    let done : Follows Good port o table used k.new k.is x = record {
      notes = pair_map (IsMatched port o table k.old) (IsMatched port o table k.new) (ending t) (ending t)
          (matched_ended port o table k.old k.new t) b.source.notes b.out.notes follows.notes;
      states = λ c u. same_aside (channel_at (reset t b.out) c) default_channel (all_default 16 c);
      at_wanted = λ p i. absurd (none p i);
      apart = apart_after laws.fade o table b.source t Resets refl follows.apart;
      good_source = λ p. subst (λ m. Good (wanted o table m p)) after (sound.good p);
      source_zones = refl;
      source_settled = subst IsSettled after (laws.settle b.source e follows.source_settled);
      out_zones = refl;
      out_reached = subst IsReached (ap (λ d. advance t d b.out) is) (reached_play b.out (e ∷ []) (sound.valid, tt) follows.out_reached);
    } in
    let both : Music → Music → Bool → Both = λ m y r. record { source = m; out = y; left = left_after o table k m r b.left } in
    subst (λ r. Follows Good port o table used k.new k.is (both (step b.source e) (play b.out (port_block port o table k b.source b.out e)) r))
    (sym resets_now)
    (subst (λ m. Follows Good port o table used k.new k.is (both m (play b.out (port_block port o table k b.source b.out e)) true)) (sym after)
    (subst (λ y. Follows Good port o table used k.new k.is (both (reset t b.source) y true)) (sym out) done))
