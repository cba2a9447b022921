-- Controllers 120, 123, 124 and 127 are sent on each channel that the part holds: there the notes end, or all their keys go up.
use Rattle.std.proofs.Common.{◌≡◌, ◌≢◌, ◌<◌, ◌≤◌, ◌^◌, arith, ℕ, Bool, true, false, cond, not, ◌&&◌, List, [], ◌∷◌, Option, Some, None, is_some, refl, ap, sym, ◌∙◌, subst, map, set, get_or, inl, inr}
use Rattle.std.specs.List.{AllByRecursion}
use Rattle.std.proofs.lemmas.Bool.{cases_Bool, cases_eq, eq-eqb, ne_eqb}
use Rattle.std.proofs.lemmas.List.{set-get_or}
use Rattle.retune_model.specs.Pairs.{Pair}
use Rattle.mt_base.specs.declared.event.Msg.{Msg}
use Rattle.mt_base.specs.declared.event.Msg.TheVariants.{Control}
use Rattle.mt_base.specs.Midi.{MidiEvent}
use Rattle.midi_model.specs.Sysex.{Plays}
use Rattle.midi_model.specs.Channel.{Channel, default_channel, control_of, controlled, role, Role, Stored, EntryHigh, EntryLow, NrpnLow, NrpnHigh, RpnLow, RpnHigh, AllSoundOff, ResetControllers, AllNotesOff, Ignored, State}
use Rattle.midi_model.specs.Zones.{no_zones, zones_with, bend_ranges}
use Rattle.midi_model.specs.Notes.{Note, sounds, is_down, is_pedal_down, ending, end_all, release_all}
use Rattle.midi_model.specs.Music.{Music, channel_at, pedal, asked_by, notes_turned, settle_note, advance, step, play}
use Rattle.midi_model.specs.MusicLaws.{IsSettled, EventsSettle}
use Rattle.retune_model.specs.Options.{Options}
use Rattle.retune_model.specs.PlaysTheSame.{Pairwise}
use Rattle.retune_model.specs.Faults.{Targets, is_part, target_of}
use Rattle.channel_model.specs.BendOutput.{Held, held_by, send_all, controller_causes, pair_with}
use Rattle.bend_laws.specs.Moments.{Moment, Both, port_block, next_both}
use Rattle.bend_laws.specs.Brought.{IsReached}
use Rattle.bend_laws.specs.Follows.{Has, IsPlayedBy, IsMatched, IsAmong, IsGiven, AreUsed, Follows}
use Rattle.bend_laws.proofs.Lists.{map_same, map_map, all_weaker, all_both, pair_map, pair_along, pair_with_second}
use Rattle.bend_laws.proofs.Holding.{held_pair, IsIn, OnOwnChannels, all_at, held_in, held_all, held_own}
use Rattle.bend_laws.proofs.Turned.{Stays, all_stay}
use Rattle.bend_laws.proofs.Playing.{saying, saying_valid, reached_play, settled_reached}
use Rattle.bend_laws.proofs.Keys.{apart_after}
use Rattle.bend_laws.proofs.Matching.{output_sounds, all_unmap}
use Rattle.bend_laws.proofs.Altered.{end_or, ending_form, ending_channel, played_ended}
use Rattle.bend_laws.proofs.Stepping.{follows_next, quiet_moment}
use Rattle.bend_laws.proofs.Given.{Laws}
use Rattle.bend_laws.proofs.Changing.{said_at, part_block}
use Rattle.bend_laws.proofs.Still.{StandsStill, held_state, still_stepped}
use Rattle.bend_laws.proofs.Lifting.{over_at, lifted_form, lifted, lifts_all, heard_here, pedal_is, silent_over, played_lifted, down_alike}

-- the roles of these controllers
abbrev pub IsSent : Role → Type 0
IsSent AllSoundOff = Unit {0}
IsSent AllNotesOff = Unit {0}
IsSent _ = ⊥

-- what one does to a note of its channel, whose hold pedal is at h
abbrev pub sent : Role → ℕ → ℕ → Note → Note
sent AllSoundOff t h n = ending t n
sent AllNotesOff t h n = lifted t 64 (is_down n) h n
sent _ t h n = n

-- ---- one note

ended_over : (t h : ℕ) (r : Option (ℕ × ℕ)) (k : Bool) (e : Option ℕ) → over_at t r k h (end_or t e) ≡ end_or t e
ended_over t h r k None = refl
ended_over t h r k (Some e) = refl

settle_form : (ss : List Channel) (t : ℕ) (n : Note) → settle_note ss no_zones t n ≡ record n {
  ended =
      over_at t n.release n.captured (pedal ss no_zones n) n.ended;
}
settle_form ss t n = lifted_form ss t 0 n false

pub settle_ended : (ss : List Channel) (t : ℕ) (n : Note) → settle_note ss no_zones t (ending t n) ≡ ending t n
settle_ended ss t n =
    ap (settle_note ss no_zones t) (ending_form t n) ∙ settle_form ss t (record n { ended = end_or t n.ended })
    ∙ ap (λ e. let y : Note = record n { ended = e } in y) (ended_over t (pedal ss no_zones n) n.release n.captured n.ended) ∙ sym (ending_form t n)

silent_sent : (r : Role) (t h : ℕ) (n : Note) → sounds n ≡ false → sent r t h n ≡ n
silent_sent AllSoundOff t h n s = ap (λ b. cond b (record n { ended = Some t }) n) s
silent_sent AllNotesOff t h n s =
    ap (λ b. lifted t 64 b h n) (ap (λ b. b && not (is_some n.release)) s) ∙ ap (λ e. let y : Note = record n { ended = e } in y)
    (silent_over t h n.release n.captured n.ended s)
silent_sent Stored t h n s = refl
silent_sent EntryHigh t h n s = refl
silent_sent EntryLow t h n s = refl
silent_sent NrpnLow t h n s = refl
silent_sent NrpnHigh t h n s = refl
silent_sent RpnLow t h n s = refl
silent_sent RpnHigh t h n s = refl
silent_sent ResetControllers t h n s = refl
silent_sent Ignored t h n s = refl

sent_channel : (r : Role) (t h : ℕ) (n : Note) → (sent r t h n).channel ≡ n.channel
sent_channel AllSoundOff t h n = ending_channel t n
sent_channel AllNotesOff t h n = refl
sent_channel Stored t h n = refl
sent_channel EntryHigh t h n = refl
sent_channel EntryLow t h n = refl
sent_channel NrpnLow t h n = refl
sent_channel NrpnHigh t h n = refl
sent_channel RpnLow t h n = refl
sent_channel RpnHigh t h n = refl
sent_channel ResetControllers t h n = refl
sent_channel Ignored t h n = refl

played_sent : (port : ℕ) (o : Options) (table : Targets) (place : Pair → ℕ) (r : Role) (t h g : ℕ) (a b : Note) → IsSent r →
    IsPlayedBy port o table place a b → (sounds a ≡ true → g ≡ h) → IsPlayedBy port o table place (sent r t h a) (sent r t g b)
played_sent port o table place AllSoundOff t h g a b i p e = played_ended port o table place place t a b p
played_sent port o table place AllNotesOff t h g a b i p e = played_lifted port o table place t 64 h g (is_down a)
    (is_down b) a b p (down_alike port o table place a b p) e
played_sent port o table place Stored t h g a b i p e = absurd i
played_sent port o table place EntryHigh t h g a b i p e = absurd i
played_sent port o table place EntryLow t h g a b i p e = absurd i
played_sent port o table place NrpnLow t h g a b i p e = absurd i
played_sent port o table place NrpnHigh t h g a b i p e = absurd i
played_sent port o table place RpnLow t h g a b i p e = absurd i
played_sent port o table place RpnHigh t h g a b i p e = absurd i
played_sent port o table place ResetControllers t h g a b i p e = absurd i
played_sent port o table place Ignored t h g a b i p e = absurd i

-- ---- one message

pub record IsSentOn (r : Role) (d t h : ℕ) (n x : Note) : Type 0 where
  pub elsewhere : n.channel ≢ d → x ≡ n
  pub here : n.channel ≡ d → x ≡ sent r t h n

pub stays_put : (m : Music) (t : ℕ) (n : Note) → Stays m.channels n → settle_note m.channels no_zones t n ≡ n
stays_put m t n s = by_end n.ended s
  where
    by_end : (e : Option ℕ) → (let y : Note = record n { ended = e } in Stays m.channels y → settle_note m.channels no_zones t y ≡ y)
    by_end (Some x) g = pick (is_some n.release && (not n.captured && not (is_pedal_down (pedal m.channels no_zones n))))
      where
        pick : (b : Bool) → cond b (record n { ended = Some x }) (record n { ended = Some x }) ≡ record n { ended = Some x }
        pick true = refl
        pick false = refl
    by_end None g = ap (λ b. cond b (record n { ended = Some t }) (record n { ended = None })) (g refl)

sent_off : (m : Music) (d t : ℕ) (n : Note) → Stays m.channels n →
    IsSentOn AllSoundOff d t (control_of (channel_at m d) 64) n (settle_note m.channels no_zones t (end_all t no_zones d n))
sent_off m d t n s = record {
  elsewhere = λ e. ap (settle_note m.channels no_zones t) (ap (λ b. cond b (ending t n) n) (heard_here d n ∙ ne_eqb n.channel d e))
      ∙ stays_put m t n s;
  here = λ e. ap (settle_note m.channels no_zones t) (ap (λ b. cond b (ending t n) n) (heard_here d n ∙ eq-eqb n.channel d e))
      ∙ settle_ended m.channels t n;
}

sent_up : (m : Music) (d t : ℕ) (n : Note) → Stays m.channels n →
    IsSentOn AllNotesOff d t (control_of (channel_at m d) 64) n (settle_note m.channels no_zones t (release_all t no_zones d n))
sent_up m d t n s = record {
  elsewhere = λ e. lifts_all m.channels t d n ∙ ap (λ b. lifted t 64 (b && is_down n) (pedal m.channels no_zones n) n) (ne_eqb n.channel d e)
      ∙ sym (settle_form m.channels t n) ∙ stays_put m t n s;
  here = λ e. lifts_all m.channels t d n ∙ ap (λ b. lifted t 64 (b && is_down n) (pedal m.channels no_zones n) n) (eq-eqb n.channel d e)
      ∙ ap (λ h. lifted t 64 (is_down n) h n) (pedal_is m n ∙ ap (λ q. control_of (channel_at m q) 64) e);
}

-- a music after one of these messages on channel d
pub record IsAfterSent (r : Role) (d t : ℕ) (m x : Music) : Type 0 where
  pub turn : Note → Note
  pub notes : x.notes ≡ map turn m.notes
  pub each : AllByRecursion (λ n. IsSentOn r d t (control_of (channel_at m d) 64) n (turn n)) m.notes
  pub channels : x.channels ≡ m.channels
  pub zones : x.zones ≡ no_zones

abbrev after_role : Music → ℕ → ℕ → ℕ → ℕ → Role → Music
after_role m t c n v r =
    let ss : List Channel = bend_ranges (asked_by m c v r) (zones_with (asked_by m c v r) m.zones)
    (set m.channels c (controlled (channel_at m c) n v r)) in
    record {
      channels = ss;
      zones = zones_with (asked_by m c v r) m.zones;
      notes = map (settle_note ss (zones_with (asked_by m c v r) m.zones) t)
          (notes_turned m t c n v r);
    }

abbrev with_notes : Music → (Note → Note) → Music
with_notes m f = record { channels = m.channels; zones = no_zones; notes = map f m.notes }

off_music : (m : Music) (t c n v : ℕ) → m.zones ≡ no_zones → after_role m t c n v AllSoundOff
    ≡ with_notes m (λ x. settle_note m.channels no_zones t (end_all t no_zones c x))
off_music m t c n v z =
    ap (λ w. let x : Music = record {
      channels = set m.channels c (channel_at m c);
      zones = w;
      notes =
          map (settle_note (set m.channels c (channel_at m c)) w t) (map (end_all t w c) m.notes);
    } in x) z
    ∙ ap (λ ss. let x : Music = record {
      channels = ss;
      zones = no_zones;
      notes = map (settle_note ss no_zones t)
          (map (end_all t no_zones c) m.notes);
    } in x) (set-get_or m.channels c default_channel)
    ∙ ap (λ ns. let x : Music = record { channels = m.channels; zones = no_zones; notes = ns } in x)
    (map_map (settle_note m.channels no_zones t) (end_all t no_zones c) m.notes)

up_music : (m : Music) (t c n v : ℕ) → m.zones ≡ no_zones → after_role m t c n v AllNotesOff
    ≡ with_notes m (λ x. settle_note m.channels no_zones t (release_all t no_zones c x))
up_music m t c n v z =
    ap (λ w. let x : Music = record {
      channels = set m.channels c (channel_at m c);
      zones = w;
      notes =
          map (settle_note (set m.channels c (channel_at m c)) w t) (map (release_all t w c) m.notes);
    } in x) z
    ∙ ap (λ ss. let x : Music = record {
      channels = ss;
      zones = no_zones;
      notes = map (settle_note ss no_zones t)
          (map (release_all t no_zones c) m.notes);
    } in x) (set-get_or m.channels c default_channel)
    ∙ ap (λ ns. let x : Music = record { channels = m.channels; zones = no_zones; notes = ns } in x)
    (map_map (settle_note m.channels no_zones t) (release_all t no_zones c) m.notes)

role_sent : (m : Music) (t c n v : ℕ) (r : Role) → IsSent r → m.zones ≡ no_zones → IsSettled m → IsAfterSent r c t m (after_role m t c n v r)
role_sent m t c n v AllSoundOff i z s =
    let f : Note → Note = λ x. settle_note m.channels no_zones t (end_all t no_zones c x) in
    subst (IsAfterSent AllSoundOff c t m) (sym (off_music m t c n v z))
    (record {
      turn = f;
      notes = refl;
      each = all_weaker (Stays m.channels) (λ x. IsSentOn AllSoundOff c t (control_of (channel_at m c) 64) x (f x))
          (sent_off m c t) m.notes (all_stay m z s);
      channels = refl;
      zones = refl;
    })
role_sent m t c n v AllNotesOff i z s =
    let f : Note → Note = λ x. settle_note m.channels no_zones t (release_all t no_zones c x) in
    subst (IsAfterSent AllNotesOff c t m) (sym (up_music m t c n v z))
    (record {
      turn = f;
      notes = refl;
      each = all_weaker (Stays m.channels) (λ x. IsSentOn AllNotesOff c t (control_of (channel_at m c) 64) x (f x))
          (sent_up m c t) m.notes (all_stay m z s);
      channels = refl;
      zones = refl;
    })
role_sent m t c n v Stored i z s = absurd i
role_sent m t c n v EntryHigh i z s = absurd i
role_sent m t c n v EntryLow i z s = absurd i
role_sent m t c n v NrpnLow i z s = absurd i
role_sent m t c n v NrpnHigh i z s = absurd i
role_sent m t c n v RpnLow i z s = absurd i
role_sent m t c n v RpnHigh i z s = absurd i
role_sent m t c n v ResetControllers i z s = absurd i
role_sent m t c n v Ignored i z s = absurd i

pub after_sent : (m : Music) (t c n v : ℕ) → IsSent (role n) → m.zones ≡ no_zones → IsSettled m →
    IsAfterSent (role n) c t m (advance t (Plays (Control c n v)) m)
after_sent m t c n v i z s = role_sent m t c n v (role n) i z s

-- ---- all channels that the part holds

pub record IsSentAll (r : Role) (t : ℕ) (out : Music) (hs : List Held) (n x : Note) : Type 0 where
  pub none : AllByRecursion (λ h. n.channel ≢ h.channel) hs → x ≡ n
  pub one : (h : Held) → IsIn h hs → n.channel ≡ h.channel → x ≡ sent r t (control_of (channel_at out h.channel) 64) n
  pub silent : sounds n ≡ false → x ≡ n
  pub channel : x.channel ≡ n.channel

pub record AreSent (r : Role) (t : ℕ) (out : Music) (hs : List Held) (m x : Music) : Type 0 where
  pub turn : Note → Note
  pub notes : x.notes ≡ map turn m.notes
  pub each : AllByRecursion (λ n. IsSentAll r t out hs n (turn n)) m.notes
  pub channels : x.channels ≡ m.channels
  pub zones : x.zones ≡ no_zones
  pub reached : IsReached x

on_silent : (r : Role) (d t h : ℕ) (n x : Note) → IsSentOn r d t h n x → sounds n ≡ false → x ≡ n
on_silent r d t h n x i s = elim (cases_eq n.channel d) [
  | inl e ↦ i.here e ∙ silent_sent r t h n s
  | inr e ↦ i.elsewhere e
]

on_channel : (r : Role) (d t h : ℕ) (n x : Note) → IsSentOn r d t h n x → x.channel ≡ n.channel
on_channel r d t h n x i = elim (cases_eq n.channel d) [
  | inl e ↦ ap (λ (y : Note). y.channel) (i.here e) ∙ sent_channel r t h n
  | inr e ↦ ap (λ (y : Note). y.channel) (i.elsewhere e)
]

first_then : (r : Role) (t : ℕ) (out : Music) (g : Held) (gs : List Held) (n x y : Note) → AllByRecursion (λ h. h.channel ≢ g.channel) gs →
    IsSentOn r g.channel t (control_of (channel_at out g.channel) 64) n x → IsSentAll r t out gs x y → IsSentAll r t out (g ∷ gs) n y
first_then r t out g gs n x y d i k =
    let c : x.channel ≡ n.channel = on_channel r g.channel t (control_of (channel_at out g.channel) 64) n x i in
    record {
      none = λ a. k.none (all_weaker (λ h. n.channel ≢ h.channel) (λ h. x.channel ≢ h.channel) (λ h f e. f (sym c ∙ e)) gs a.1) ∙ i.elsewhere a.0;
      one = λ h is e. elim is [
        | inl same ↦ (let here : n.channel ≡ g.channel = e ∙ ap (λ (z : Held). z.channel) same in
            k.none (all_weaker (λ z. z.channel ≢ g.channel) (λ z. x.channel ≢ z.channel) (λ z f j. f (sym j ∙ c ∙ here)) gs d) ∙ i.here here
            ∙ ap (λ (z : Held). sent r t (control_of (channel_at out z.channel) 64) n) (sym same))
        | inr j ↦ (let same : x ≡ n = i.elsewhere (λ q. all_at (λ z. z.channel ≢ g.channel) h gs j d (sym e ∙ q)) in
            k.one h j (c ∙ e) ∙ ap (sent r t (control_of (channel_at out h.channel) 64)) same)
      ];
      silent = λ s. (let same : x ≡ n = on_silent r g.channel t (control_of (channel_at out g.channel) 64) n x i s in k.silent (ap sounds same ∙ s)
          ∙ same);
      channel = k.channel ∙ c;
    }

pub all_sent : EventsSettle → (e : MidiEvent) (n v : ℕ) → e.tick < 2 ^ 28 → n ≤ 127 → v ≤ 127 → IsSent (role n) → (out : Music) (hs : List Held) →
    OnOwnChannels hs → AllByRecursion (λ h. h.channel < 16) hs → (m : Music) → m.zones ≡ no_zones → IsReached m → m.channels ≡ out.channels →
    AreSent (role n) e.tick out hs m (play m (saying e (send_all n v hs)))
all_sent law e n v tick low small i out [] d cs m z r s = record {
  turn = λ x. x;
  notes = sym (map_same (λ x. x) (λ x. refl) m.notes);
  each =
      all_itself m.notes;
  channels = refl;
  zones = z;
  reached = r;
}
  where
    all_itself : (ns : List Note) → AllByRecursion (λ x. IsSentAll (role n) e.tick out [] x x) ns
    all_itself [] = tt
    all_itself (x ∷ xs) = (record { none = λ a. refl; one = λ h is q. absurd is; silent = λ q. refl; channel = refl }, all_itself xs)
all_sent law e n v tick low small i out (g ∷ gs) d cs m z r s =
    let x : Music = play m (saying e (Control g.channel n v ∷ [])) in
    let one : IsAfterSent (role n) g.channel e.tick m x = after_sent m e.tick g.channel n v i z (settled_reached law m r) in
    let rest : AreSent (role n) e.tick out gs x (play x (saying e (send_all n v gs))) =
    all_sent law e n v tick low small i out gs d.1 cs.1 x one.zones (reached_play m (saying e (Control g.channel n v ∷ []))
    (saying_valid e (Control g.channel n v ∷ []) tick ((omega (arith, cs.0), low, small), tt)) r) (one.channels ∙ s) in
    let own : control_of (channel_at m g.channel) 64 ≡ control_of (channel_at out g.channel) 64 =
    ap (λ ss. control_of (get_or ss g.channel default_channel) 64) s in
    let each : AllByRecursion (λ y. IsSentAll (role n) e.tick out gs (one.turn y) (rest.turn (one.turn y))) m.notes =
    all_unmap (λ y. IsSentAll (role n) e.tick out gs y (rest.turn y)) one.turn m.notes (subst
    (AllByRecursion (λ y. IsSentAll (role n) e.tick out gs y (rest.turn y))) one.notes rest.each) in
    record {
      turn = λ y. rest.turn (one.turn y);
      notes = rest.notes ∙ ap (map rest.turn) one.notes ∙ map_map rest.turn one.turn m.notes;
      each = all_weaker (λ y. IsSentOn (role n) g.channel e.tick (control_of (channel_at m g.channel) 64) y (one.turn y) ×
          IsSentAll (role n) e.tick out gs (one.turn y) (rest.turn (one.turn y)))
          (λ y. IsSentAll (role n) e.tick out (g ∷ gs) y (rest.turn (one.turn y)))
          (λ y q. first_then (role n) e.tick out g gs y (one.turn y)
          (rest.turn (one.turn y)) d.0 (subst (λ h. IsSentOn (role n) g.channel e.tick h y (one.turn y)) own q.0) q.1) m.notes
          (all_both (λ y. IsSentOn (role n) g.channel e.tick (control_of (channel_at m g.channel) 64) y (one.turn y))
          (λ y. IsSentAll (role n) e.tick out gs (one.turn y) (rest.turn (one.turn y))) m.notes one.each each);
      channels = rest.channels ∙ one.channels;
      zones = rest.zones;
      reached = rest.reached;
    }

-- ---- both notes

-- what is known around the event
pub record AroundSent (o : Options) (k : Moment) (c : ℕ) (src out : Music) : Type 0 where
  pub apart : (p q : Pair) → Has k.holds p → Has k.holds q → k.old p ≡ k.old q → p ≡ q
  pub now : (p : Pair) → Has k.holds p → (channel_at out (k.old p)).controls ≡ (channel_at src p.part.channel).controls

abbrev Seen : ℕ → Options → Targets → Moment → Role → ℕ → ℕ → (src out : Music) → (f g : Note → Note) → Note → Note → Type 0
Seen port o table k r c t src out f g a b = ((IsMatched port o table k.old a b × (is_part o a.channel ≡ true → sounds a ≡ true →
    IsAmong port k.holds a.channel (target_of o table a)))
    × IsSentOn r c t (control_of (channel_at src c) 64) a (f a)) × IsSentAll r t out (held_by k.old c k.holds) b (g b)

sent_played : (port : ℕ) (o : Options) (table : Targets) (k : Moment) (r : Role) (c t : ℕ) (src out : Music) → IsSent r →
    AroundSent o k c src out → (f g : Note → Note) (a b : Note) → Seen port o table k r c t src out f g a b →
    (h : IsPlayedBy port o table k.old a b) → is_part o a.channel ≡ true → IsPlayedBy port o table k.old (f a) (g b)
sent_played port o table k r c t src out i w f g a b (((m, among), x), y) h part = elim (cases_Bool (sounds a)) [
  | inr s ↦ subst (λ z. IsPlayedBy port o table k.old z (g b)) (sym (on_silent r c t (control_of (channel_at src c) 64) a (f a) x s))
      (subst (IsPlayedBy port o table k.old a) (sym (y.silent (output_sounds port o table k.old a b h ∙ s))) h)
  | inl s ↦ (let p : Pair = pair_with port a.channel h.target in
      let holds : Has k.holds p = subst (IsAmong port k.holds a.channel) h.aim (among part s) in
      let on : b.channel ≡ k.old p = (h.sounding s).channel in
      elim (cases_eq a.channel c) [
        | inl e ↦ subst (λ z. IsPlayedBy port o table k.old z (g b)) (sym (x.here e))
            (subst (IsPlayedBy port o table k.old (sent r t (control_of (channel_at src c) 64) a))
            (sym (y.one (held_pair k.old p) (held_in k.old c k.holds p holds e) on))
            (played_sent port o table k.old r t (control_of (channel_at src c) 64) (control_of (channel_at out (k.old p)) 64) a b i h
            (λ q. ap (λ cs. get_or cs 64 0) (w.now p holds ∙ ap (λ d. (channel_at src d).controls) e))))
        | inr e ↦ subst (λ z. IsPlayedBy port o table k.old z (g b)) (sym (x.elsewhere e))
            (subst (IsPlayedBy port o table k.old a) (sym (y.none (held_all (λ z. b.channel ≢ z.channel) k.old c k.holds
            (λ q j l same. e (ap (λ (u : Pair). u.part.channel) (w.apart p q holds j (sym on ∙ same)) ∙ l))))) h)
      ])
]

sent_match : (port : ℕ) (o : Options) (table : Targets) (k : Moment) (r : Role) (c t : ℕ) (src out : Music) → IsSent r → AroundSent o k c src out →
    (f g : Note → Note) (a b : Note) → Seen port o table k r c t src out f g a b → IsMatched port o table k.old (f a) (g b)
sent_match port o table k r c t src out i w f g a b (((m, among), x), y) =
    let same : (f a).channel ≡ a.channel = on_channel r c t (control_of (channel_at src c) 64) a (f a) x in
    record {
      retuned = ap (is_part o) y.channel ∙ m.retuned ∙ ap (is_part o) (sym same);
      played = λ p. (let q : is_part o a.channel ≡ true = ap (is_part o) (sym same)
          ∙ p in sent_played port o table k r c t src out i w f g a b (((m, among), x), y) (m.played q) q);
    }

-- ---- the event

causes_sent : (o : Options) (table : Targets) (after out : Music) (hs : List Held) (n v : ℕ) (r : Role) → IsSent r →
    controller_causes o table after out hs n v r ≡ send_all n v hs
causes_sent o table after out hs n v AllSoundOff i = refl
causes_sent o table after out hs n v AllNotesOff i = refl
causes_sent o table after out hs n v Stored i = absurd i
causes_sent o table after out hs n v EntryHigh i = absurd i
causes_sent o table after out hs n v EntryLow i = absurd i
causes_sent o table after out hs n v NrpnLow i = absurd i
causes_sent o table after out hs n v NrpnHigh i = absurd i
causes_sent o table after out hs n v RpnLow i = absurd i
causes_sent o table after out hs n v RpnHigh i = absurd i
causes_sent o table after out hs n v ResetControllers i = absurd i
causes_sent o table after out hs n v Ignored i = absurd i

pub send_follows : (Good : State → Type 0) → Laws Good → (port : ℕ) (o : Options) (table : Targets) (used : ℕ → Bool) → AreUsed o used →
    (k : Moment) (b : Both) (t track c n v : ℕ) → IsSent (role n) → is_part o c ≡ true →
    Follows Good port o table used k.old k.was b → IsGiven Good port o table used k b.source (said_at t track (Control c n v)) →
    Follows Good port o table used k.new k.is (next_both port o table k b (said_at t track (Control c n v)))
send_follows Good laws port o table used row k b t track c n v i part follows sound =
    let msg : Msg = Control c n v in
    let e : MidiEvent = said_at t track msg in
    let r : Role = role n in
    let src : Music = b.source in
    let out : Music = b.out in
    let after : Music = step src e in
    let hs : List Held = held_by k.old c k.holds in
    let x : Music = play out (saying e (send_all n v hs)) in
    let apart : (p q : Pair) → Has k.holds p → Has k.holds q → k.old p ≡ k.old q → p ≡ q = λ p q h g. sound.apart_was p q (sound.was_there p h)
    (sound.was_there q g) in
    let s : IsAfterSent r c t src after = after_sent src t c n v i follows.source_zones follows.source_settled in
    let to : AreSent r t out hs out x = all_sent laws.settle e n v sound.valid.tick sound.valid.what.1 sound.valid.what.2 i out hs
    (held_own k.old c k.holds sound.once apart) (held_all (λ h. h.channel < 16) k.old c k.holds (λ p h g. row.channel (k.old p)
    (sound.used_was p (sound.was_there p h)))) out follows.out_zones follows.out_reached refl in
    let around : AroundSent o k c src out = record {
      apart = apart;
      now =
          λ p h. (held_state Good port o table used k b e follows sound p (sound.was_there p h)).controls;
    } in
    let among_all : Note → Type 0 = λ a. is_part o a.channel ≡ true → sounds a ≡ true → IsAmong port k.holds a.channel (target_of o table a) in
    let h : ℕ = control_of (channel_at src c) 64 in
    let seen : Pairwise (Seen port o table k r c t src out s.turn to.turn) src.notes out.notes =
    pair_with_second (λ a y. (IsMatched port o table k.old a y × among_all a) × IsSentOn r c t h a (s.turn a))
    (λ y. IsSentAll r t out hs y (to.turn y)) src.notes out.notes
    (pair_along (λ a y. IsMatched port o table k.old a y × among_all a)
    (λ a. IsSentOn r c t h a (s.turn a)) src.notes out.notes (pair_along
    (IsMatched port o table k.old) among_all src.notes out.notes follows.notes sound.held) s.each) to.each in
    let done : Pairwise (IsMatched port o table k.old) (map s.turn src.notes) (map to.turn out.notes) =
    pair_map (Seen port o table k r c t src out s.turn to.turn)
    (IsMatched port o table k.old) s.turn to.turn (sent_match port o table k r c t src out i around s.turn to.turn) src.notes out.notes seen in
    let still : StandsStill port o table used k b after x = record {
      notes = subst (λ ns. Pairwise (IsMatched port o table k.old) ns x.notes) (sym s.notes)
          (subst (Pairwise (IsMatched port o table k.old) (map s.turn src.notes)) (sym to.notes) done);
      apart = apart_after laws.fade o table src t (Plays msg) refl follows.apart;
      source = λ d p. ap (λ ss. get_or ss d default_channel) s.channels;
      out = λ d u. ap (λ ss. get_or ss d default_channel) to.channels;
      source_zones = s.zones;
      source_settled = laws.settle src e follows.source_settled;
      out_zones = to.zones;
      out_reached = to.reached;
    } in
    follows_next Good port o table used k b e follows sound refl (still_stepped Good port o table used k b e
    (play out (port_block port o table k src out e)) follows sound (quiet_moment Good port o table used k src e sound (λ p q. q))
    (subst (StandsStill port o table used k b after) (sym (ap (play out)
    (part_block port o table k src out t track msg (send_all n v hs) part (causes_sent o table after out hs n v r i)))) still))
