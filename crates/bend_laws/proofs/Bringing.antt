-- What bringing all channels that a part holds does to the output's music.
use Rattle.std.proofs.Common.{◌≡◌, ◌≢◌, ◌<◌, ◌^◌, ℕ, true, cond, List, [], ◌∷◌, Option, Some, None, refl, ap, sym, ◌∙◌, subst, map, nat_eq, length, inl, inr, length-set}
use Rattle.std.specs.List.{AllByRecursion}
use Rattle.std.proofs.lemmas.Bool.{eq-eqb, ne_eqb, cond_both}
use Rattle.retune_model.specs.Pairs.{Pair}
use Rattle.mt_base.specs.Midi.{MidiEvent}
use Rattle.mt_base.specs.Valid.{IsValidMsg}
use Rattle.midi_model.specs.Channel.{Channel, State}
use Rattle.midi_model.specs.Zones.{no_zones}
use Rattle.midi_model.specs.Notes.{Note}
use Rattle.midi_model.specs.Music.{Music, channel_at, play, state_at}
use Rattle.midi_model.specs.Bring.{bring}
use Rattle.retune_model.specs.Table.{BendTarget}
use Rattle.retune_model.specs.Options.{Options}
use Rattle.retune_model.specs.Faults.{Targets, is_part, target_of}
use Rattle.channel_model.specs.Choice.{wanted, wanted_keys, key_set, has_pair}
use Rattle.channel_model.specs.BendOutput.{Held, bring_all}
use Rattle.bend_laws.specs.Brought.{IsSameAside, IsReached}
use Rattle.bend_laws.proofs.Brought.{brought, brought_on, IsBroughtTo, BringReaches}
use Rattle.bend_laws.proofs.Lists.{map_same, map_map, all_mapped, all_weaker, all_both}
use Rattle.bend_laws.proofs.Holding.{IsIn, OnOwnChannels, all_at}
use Rattle.bend_laws.proofs.Playing.{saying, play_saying, saying_valid, reached_play, state_kept}

-- the keys of parts' notes are keys
abbrev pub KeysFit : Options → List Note → Type 0
KeysFit o ns = AllByRecursion (λ n. is_part o n.channel ≡ true → n.key < 128) ns

abbrev pub brought_by : Options → Targets → (after out : Music) → ℕ → List Held → Note → Note
brought_by o table after out t [] n = n
brought_by o table after out t (h ∷ hs) n = brought_by o table after out t hs (brought_on h.channel t (channel_at out h.channel)
    (wanted o table after h.pair) n)

pub record CanBring (o : Options) (h : Held) : Type 0 where
  pub channel : h.channel < 16
  pub part : is_part o h.channel ≡ true

pub record AreBrought (o : Options) (table : Targets) (after out : Music) (t : ℕ) (hs : List Held) (m x : Music) : Type 0 where
  pub notes : x.notes ≡ map (brought_by o table after out t hs) m.notes
  pub at : AllByRecursion (λ h. IsSameAside (channel_at x h.channel) (wanted o table after h.pair).own) hs
  pub others : (d : ℕ) → AllByRecursion (λ h. d ≢ h.channel) hs → channel_at x d ≡ channel_at m d
  pub zones : x.zones ≡ no_zones
  pub reached : IsReached x

-- ---- the wanted keys are 128

wide_if : (keys : List ℕ) (x : Option BendTarget) (p : ℕ) → length keys ≡ 128 → length (key_set keys x p) ≡ 128
wide_if keys None p h = h
wide_if keys (Some t) p h = length-set keys t.key p ∙ h

pub wanted_wide : (o : Options) (table : Targets) (p : Pair) (ns : List Note) → length (wanted_keys o table p ns) ≡ 128
wanted_wide o table p [] = refl
wanted_wide o table p (n ∷ ns) =
    let rest : length (wanted_keys o table p ns) ≡ 128 = wanted_wide o table p ns in
    cond_both (has_pair p n (target_of o table n)) (key_set (wanted_keys o table p ns) (target_of o table n) n.pressure) (wanted_keys o table p ns)
    (λ ks. length ks ≡ 128)
    (λ e. wide_if (wanted_keys o table p ns) (target_of o table n) n.pressure rest) (λ e. rest)

-- ---- one channel's note

pub on_here : (c t : ℕ) (now : Channel) (w : State) (n : Note) → n.channel ≡ c → brought_on c t now w n ≡ brought t now w n
on_here c t now w n h = ap (λ b. cond b (brought t now w n) n) (eq-eqb n.channel c h)

pub on_elsewhere : (c t : ℕ) (now : Channel) (w : State) (n : Note) → n.channel ≢ c → brought_on c t now w n ≡ n
on_elsewhere c t now w n h = ap (λ b. cond b (brought t now w n) n) (ne_eqb n.channel c h)

pub on_channel : (c t : ℕ) (now : Channel) (w : State) (n : Note) → (brought_on c t now w n).channel ≡ n.channel
on_channel c t now w n = cond_both (nat_eq n.channel c) (brought t now w n) n (λ (x : Note). x.channel ≡ n.channel) (λ e. refl) (λ e. refl)

on_key : (c t : ℕ) (now : Channel) (w : State) (n : Note) → (brought_on c t now w n).key ≡ n.key
on_key c t now w n = cond_both (nat_eq n.channel c) (brought t now w n) n (λ (x : Note). x.key ≡ n.key) (λ e. refl) (λ e. refl)

pub keys_fit_on : (o : Options) (c t : ℕ) (now : Channel) (w : State) (ns : List Note) → KeysFit o ns → KeysFit o (map (brought_on c t now w) ns)
keys_fit_on o c t now w ns h =
    all_mapped (λ n. is_part o n.channel ≡ true → n.key < 128) (brought_on c t now w) (λ n. is_part o n.channel ≡ true → n.key < 128)
    (λ n f e. subst (λ k. k < 128) (sym (on_key c t now w n)) (f (ap (is_part o) (sym (on_channel c t now w n)) ∙ e))) ns h

-- ---- a note of one of the channels

pub brought_none : (o : Options) (table : Targets) (after out : Music) (t : ℕ) (hs : List Held) (n : Note) →
    AllByRecursion (λ h. n.channel ≢ h.channel) hs → brought_by o table after out t hs n ≡ n
brought_none o table after out t [] n h = refl
brought_none o table after out t (g ∷ gs) n h =
    ap (brought_by o table after out t gs) (on_elsewhere g.channel t (channel_at out g.channel) (wanted o table after g.pair) n h.0)
    ∙ brought_none o table after out t gs n h.1

pub brought_one : (o : Options) (table : Targets) (after out : Music) (t : ℕ) (h : Held) (hs : List Held) (n : Note) → IsIn h hs →
    OnOwnChannels hs → n.channel ≡ h.channel →
    brought_by o table after out t hs n ≡ brought t (channel_at out h.channel) (wanted o table after h.pair) n
brought_one o table after out t h [] n i d e = absurd i
brought_one o table after out t h (g ∷ gs) n (inl same) d e =
    let here : n.channel ≡ g.channel = e ∙ ap (λ (x : Held). x.channel) same in
    let y : Note = brought t (channel_at out g.channel) (wanted o table after g.pair) n in
    ap (brought_by o table after out t gs) (on_here g.channel t (channel_at out g.channel) (wanted o table after g.pair) n here)
    ∙ brought_none o table after out t gs y (all_weaker (λ x. x.channel ≢ g.channel) (λ x. y.channel ≢ x.channel) (λ x f k. f (sym k ∙ here)) gs d.0)
    ∙ ap (λ (x : Held). brought t (channel_at out x.channel) (wanted o table after x.pair) n) (sym same)
brought_one o table after out t h (g ∷ gs) n (inr i) d e =
    let apart : n.channel ≢ g.channel = λ k. all_at (λ x. x.channel ≢ g.channel) h gs i d.0 (sym e ∙ k) in
    ap (brought_by o table after out t gs) (on_elsewhere g.channel t (channel_at out g.channel) (wanted o table after g.pair) n apart)
    ∙ brought_one o table after out t h gs n i d.1 e

-- ---- all

pub all_brought : (Good : State → Type 0) → BringReaches Good → (o : Options) (table : Targets) (after out : Music) (e : MidiEvent) →
    e.tick < 2 ^ 28 → ((p : Pair) → Good (wanted o table after p)) →
    (hs : List Held) → OnOwnChannels hs → AllByRecursion (CanBring o) hs → (m : Music) → m.zones ≡ no_zones → IsReached m → KeysFit o m.notes →
    AllByRecursion (λ h. state_at m h.channel ≡ state_at out h.channel) hs →
    AreBrought o table after out e.tick hs m (play m (saying e (bring_all o table after out hs)))
all_brought Good law o table after out e tick good [] d can m z r keys s = record {
  notes = sym (map_same (λ n. n) (λ n. refl) m.notes);
  at =
      tt;
  others = λ x h. refl;
  zones = z;
  reached = r;
}
all_brought Good law o table after out e tick good (h ∷ hs) d can m z r keys s =
    let c : ℕ = h.channel in
    let w : State = wanted o table after h.pair in
    let ms = bring c (state_at out c) w in
    let x : Music = play m (saying e ms) in
    let own : channel_at m c ≡ channel_at out c = ap (λ (q : State). q.own) s.0 in
    let to : IsBroughtTo c e.tick w m x = subst (λ q. IsBroughtTo c e.tick w m (play m (saying e (bring c q w)))) s.0
    (law.reaches m e c w z r can.0.channel (all_weaker (λ n. is_part o n.channel ≡ true → n.key < 128) (λ n. n.channel ≡ c → n.key < 128)
    (λ n f k. f (ap (is_part o) k ∙ can.0.part)) m.notes keys)
    (good h.pair)) in
    let valid : AllByRecursion IsValidMsg ms = subst (λ q. AllByRecursion IsValidMsg (bring c q w)) s.0
    (law.valid m c w r can.0.channel (good h.pair)) in
    let f : Note → Note = brought_on c e.tick (channel_at out c) w in
    let notes : x.notes ≡ map f m.notes = to.notes ∙ ap (λ q. map (brought_on c e.tick q w) m.notes) own in
    let rest : AreBrought o table after out e.tick hs x (play x (saying e (bring_all o table after out hs))) =
    all_brought Good law o table after out e tick good hs d.1 can.1 x (to.zones ∙ z) (reached_play m (saying e ms) (saying_valid e ms tick valid) r)
    (subst (KeysFit o) (sym notes) (keys_fit_on o c e.tick (channel_at out c) w m.notes keys))
    (all_weaker (λ g. (g.channel ≢ c) × (state_at m g.channel ≡ state_at out g.channel)) (λ g. state_at x g.channel ≡ state_at out g.channel)
    (λ g q. state_kept g.channel m x f (to.others g.channel q.0) notes (on_channel c e.tick (channel_at out c) w)
    (λ n k. on_elsewhere c e.tick (channel_at out c) w n (λ j. q.0 (sym k ∙ j))) ∙ q.1)
    hs (all_both (λ g. g.channel ≢ c) (λ g. state_at m g.channel ≡ state_at out g.channel) hs d.0 s.1)) in
    let y : Music = play x (saying e (bring_all o table after out hs)) in
    let is : AreBrought o table after out e.tick (h ∷ hs) m y = record {
      notes = rest.notes ∙ ap (map (brought_by o table after out e.tick hs)) notes ∙ map_map (brought_by o table after out e.tick hs) f m.notes;
      at = (
        subst (λ q. IsSameAside q w.own) (sym (rest.others c (all_weaker (λ g. g.channel ≢ c) (λ g. c ≢ g.channel)
            (λ g k j. k (sym j)) hs d.0))) to.channel,
        rest.at,
      );
      others = λ q k. rest.others q k.1 ∙ to.others q k.0;
      zones = rest.zones;
      reached = rest.reached;
    } in
    subst (AreBrought o table after out e.tick (h ∷ hs) m) (sym (play_saying m e ms (bring_all o table after out hs))) is
