-- What a message that changes a channel, or presses a key, does to the notes: those of other channels stay as they are, and those of
-- the channel are turned by both pedals.
use Rattle.std.proofs.Common.{◌≡◌, ◌≢◌, ◌<◌, ℕ, Bool, true, false, cond, not, ◌&&◌, List, [], ◌∷◌, Option, Some, None, is_some, refl, ap, sym, ◌∙◌, subst, map, length, set, get_or, nat_eq}
use Rattle.std.specs.List.{AllByRecursion}
use Rattle.std.proofs.lemmas.Bool.{eq-eqb, ne_eqb, both_ways}
use Rattle.std.proofs.lemmas.List.{get_or-set_same, get_or-set_other}
use Rattle.mt_base.specs.Midi.{channel_of}
use Rattle.mt_base.specs.declared.event.Msg.{Msg}
use Rattle.midi_model.specs.Sysex.{Plays}
use Rattle.midi_model.specs.Channel.{Channel, default_channel, control_of, apply}
use Rattle.midi_model.specs.Zones.{Zones, no_zones, governor, zones_with, bend_ranges}
use Rattle.midi_model.specs.Notes.{Note, sounds, is_down, is_pedal_down, ending, sostenuto}
use Rattle.midi_model.specs.Music.{Music, channel_at, asks, notes_after, pedal, is_over, settle_note, advance}
use Rattle.midi_model.specs.MusicLaws.{IsSettled}
use Rattle.bend_laws.proofs.Brought.{turned_captured, turned_ended, turned}
use Rattle.bend_laws.proofs.Equal.{own_governor}
use Rattle.bend_laws.proofs.Lists.{all_weaker}

-- a music without zones
abbrev pub plain : List Channel → List Note → Music
plain ss ns = record { channels = ss; zones = no_zones; notes = ns }

pub is_plain : (m : Music) → m.zones ≡ no_zones → m ≡ plain m.channels m.notes
is_plain m h = ap (λ z. let x : Music = record { channels = m.channels; zones = z; notes = m.notes } in x) h

-- a message that asks for no zone
abbrev zoned : Music → ℕ → Msg → Option (ℕ × ℕ) → Music
zoned m t msg a =
    let ss : List Channel = bend_ranges a (zones_with a m.zones) (set m.channels (channel_of msg) (apply (channel_at m (channel_of msg)) msg)) in
    record { channels = ss; zones = zones_with a m.zones; notes = map (settle_note ss (zones_with a m.zones) t) (notes_after m t msg) }

pub said : (m : Music) (t : ℕ) (msg : Msg) → asks m msg ≡ None →
    advance t (Plays msg) m ≡ (let ss : List Channel = set m.channels (channel_of msg) (apply (channel_at m (channel_of msg)) msg) in
    record { channels = ss; zones = m.zones; notes = map (settle_note ss m.zones t) (notes_after m t msg) })
said m t msg h = ap (zoned m t msg) h

-- ---- one note

pub governs : (c : ℕ) (n : Note) → n.channel ≡ c → nat_eq (governor no_zones n.channel) c ≡ true
governs c n h = eq-eqb (governor no_zones n.channel) c (own_governor n.channel ∙ h)

pub governs_not : (c : ℕ) (n : Note) → n.channel ≢ c → nat_eq (governor no_zones n.channel) c ≡ false
governs_not c n h = ne_eqb (governor no_zones n.channel) c (λ e. h (sym (own_governor n.channel) ∙ e))

abbrev sostenuto_if : Bool → ℕ → ℕ → Note → Note
sostenuto_if b x v n = cond (b && sounds n) (cond (is_pedal_down x) (cond (is_pedal_down v) n (record n { captured = false }))
    (cond (is_pedal_down v && is_down n) (record n { captured = true }) n)) n

sostenuto_true : (x v : ℕ) (n : Note) (e : Option ℕ) → (let y : Note =
    record n { ended = e } in sostenuto_if true x v y ≡ record y { captured = turned_captured x v y.release y.captured e })
sostenuto_true x v n (Some s) = refl
sostenuto_true x v n None = pick (is_pedal_down x) (is_pedal_down v) (is_some n.release)
  where
    y : Note
    y = record n { ended = None }

    pick : (a b r : Bool) → cond a (cond b (record n { ended = None }) (record n { ended = None; captured = false }))
        (cond (b && not r) (record n { ended = None; captured = true }) (record n { ended = None }))
        ≡ record n { ended = None; captured = cond a (cond b n.captured false) (cond (b && not r) true n.captured) }
    pick true true r = refl
    pick true false r = refl
    pick false true true = refl
    pick false true false = refl
    pick false false r = refl

pub sostenuto_here : (c x v : ℕ) (n : Note) → n.channel ≡ c → sostenuto no_zones c x v n ≡ record n {
  captured =
      turned_captured x v n.release n.captured n.ended;
}
sostenuto_here c x v n h = ap (λ b. sostenuto_if b x v n) (governs c n h) ∙ sostenuto_true x v n n.ended

pub sostenuto_elsewhere : (c x v : ℕ) (n : Note) → n.channel ≢ c → sostenuto no_zones c x v n ≡ n
sostenuto_elsewhere c x v n h = ap (λ b. sostenuto_if b x v n) (governs_not c n h)

-- a pedal that stays where it is
pub captured_same : (x : ℕ) (r : Option (ℕ × ℕ)) (k : Bool) (e : Option ℕ) → turned_captured x x r k e ≡ k
captured_same x r k (Some s) = refl
captured_same x r k None = pick (is_pedal_down x) (is_some r)
  where
    pick : (a b : Bool) → cond a (cond a k false) (cond (a && not b) true k) ≡ k
    pick true b = refl
    pick false b = refl

-- ---- settling

-- what a sounding note is not, where nothing is left to settle
abbrev pub Stays : List Channel → Note → Type 0
Stays ss n = sounds n ≡ true → is_over ss no_zones n ≡ false

settled_note : (ss : List Channel) (z : Zones) (n : Note) → settle_note ss z 0 n ≡ n → sounds n ≡ true → is_over ss z n ≡ false
settled_note ss z n h s = pick (is_over ss z n) refl
  where
    ended_now : (e : Option ℕ) → (let y : Note = record n { ended = e } in sounds y ≡ true → (ending 0 y).ended ≡ e → false ≡ true)
    ended_now None g k = absurd cc
    ended_now (Some x) g k = g

    pick : (b : Bool) → is_over ss z n ≡ b → b ≡ false
    pick false e = refl
    pick true e = sym (ended_now n.ended s (ap (λ (y : Note). y.ended) (ap (λ b. cond b (ending 0 n) n) (sym e) ∙ h)))

map_fixed : (f : Note → Note) (ns : List Note) → map f ns ≡ ns → AllByRecursion (λ n. f n ≡ n) ns
map_fixed f [] h = tt
map_fixed f (n ∷ ns) h = (cc, map_fixed f ns cc)

pub all_stay : (m : Music) → m.zones ≡ no_zones → IsSettled m → AllByRecursion (Stays m.channels) m.notes
all_stay m z h = subst (λ w. AllByRecursion (λ n. sounds n ≡ true → is_over m.channels w n ≡ false) m.notes) z
    (all_weaker (λ n. settle_note m.channels m.zones 0 n ≡ n) (λ n. sounds n ≡ true → is_over m.channels m.zones n ≡ false)
    (settled_note m.channels m.zones) m.notes (map_fixed (settle_note m.channels m.zones 0) m.notes (h.notes 0)))

-- the hold pedal of a note's own channel
pub pedal_here : (ss : List Channel) (c : ℕ) (x : Channel) (n : Note) → c < length ss → n.channel ≡ c →
    pedal (set ss c x) no_zones n ≡ control_of x 64
pedal_here ss c x n low h = ap (λ d. control_of (get_or (set ss c x) d default_channel) 64) (own_governor n.channel ∙ h)
    ∙ ap (λ (s : Channel). control_of s 64) (get_or-set_same ss c x default_channel low)

pub pedal_elsewhere : (ss : List Channel) (c : ℕ) (x : Channel) (n : Note) → n.channel ≢ c → pedal (set ss c x) no_zones n ≡ pedal ss no_zones n
pedal_elsewhere ss c x n h = ap (λ (s : Channel). control_of s 64)
    (get_or-set_other ss c (governor no_zones n.channel) x default_channel (λ e. h (sym (own_governor n.channel) ∙ e)))

abbrev settled_if : Bool → ℕ → Note → Note
settled_if b t n = cond b (ending t n) n

still : (t : ℕ) (n : Note) (e : Option ℕ) → (let y : Note = record n { ended = e } in (b : Bool) → (sounds y ≡ true → b ≡ false) →
    settled_if b t y ≡ y)
still t n (Some s) true h = refl
still t n (Some s) false h = refl
still t n None true h = absurd (both_ways true (h refl) refl)
still t n None false h = refl

-- a note of another channel stays
pub settle_elsewhere : (ss : List Channel) (c : ℕ) (x : Channel) (t : ℕ) (n : Note) → n.channel ≢ c → Stays ss n →
    settle_note (set ss c x) no_zones t n ≡ n
settle_elsewhere ss c x t n h s =
    let over : is_over (set ss c x) no_zones n ≡ is_over ss no_zones n = ap (λ p. is_some n.release && (not n.captured && not (is_pedal_down p)))
    (pedal_elsewhere ss c x n h) in
    still t n n.ended (is_over (set ss c x) no_zones n) (λ g. over ∙ s g)

-- a note of the channel ends where both pedals let it go
pub settle_turned : (t x v hold p : ℕ) (n : Note) (e : Option ℕ) →
    (let k : Bool = turned_captured x v n.release n.captured e in
    let y : Note = record n { captured = k; pressure = p; ended = e } in
    settled_if (is_some n.release && (not k && not (is_pedal_down hold))) t y ≡ record n {
      captured = k;
      pressure = p;
      ended =
          turned_ended t x v hold n.release n.captured e;
    })
settle_turned t x v hold p n (Some s) = pick (is_some n.release && (not n.captured && not (is_pedal_down hold)))
  where
    pick : (b : Bool) → settled_if b t (record n { pressure = p; ended = Some s }) ≡ record n { pressure = p; ended = Some s }
    pick true = refl
    pick false = refl
settle_turned t x v hold p n None = pick (turned_captured x v n.release n.captured None)
    (is_some n.release && (not (turned_captured x v n.release n.captured None) && not (is_pedal_down hold)))
  where
    pick : (k b : Bool) → settled_if b t (record n { captured = k; pressure = p; ended = None })
        ≡ record n { captured = k; pressure = p; ended = cond b (Some t) None }
    pick k true = refl
    pick k false = refl

-- ---- a note before and after

pub record IsTurned (c t : ℕ) (now after : Channel) (a x : Note) : Type 0 where
  pub pressure : ℕ
  pub here : a.channel ≡ c → x ≡ turned t now after pressure a
  pub elsewhere : a.channel ≢ c → x ≡ a

-- what a message does to a note of its channel, before it settles
pub record IsCaptured (c : ℕ) (now after : Channel) (a x : Note) : Type 0 where
  pub pressure : ℕ
  pub here : a.channel ≡ c → x ≡ record a {
    captured = turned_captured (control_of now 66)
        (control_of after 66) a.release a.captured a.ended;
    pressure = pressure;
  }
  pub elsewhere : a.channel ≢ c → x ≡ a

pub settles : (ss : List Channel) (c t : ℕ) (after : Channel) (a x : Note) → c < length ss → Stays ss a →
    IsCaptured c (get_or ss c default_channel) after a x →
    IsTurned c t (get_or ss c default_channel) after a (settle_note (set ss c after) no_zones t x)
settles ss c t after a x low s h = record {
  pressure = h.pressure;
  here = λ e.
      let now : Channel = get_or ss c default_channel in
      let k : Bool = turned_captured (control_of now 66) (control_of after 66) a.release a.captured a.ended in
      let y : Note = record a { captured = k; pressure = h.pressure } in
      ap (settle_note (set ss c after) no_zones t) (h.here e) ∙ ap (λ p. settled_if (is_some a.release && (not k && not (is_pedal_down p))) t y)
      (pedal_here ss c after y low e)
      ∙ settle_turned t (control_of now 66) (control_of after 66) (control_of after 64) h.pressure a a.ended;
  elsewhere = λ e. ap (settle_note (set ss c after) no_zones t) (h.elsewhere e) ∙ settle_elsewhere ss c after t a e s;
}

-- ---- the message

-- a music before and after a message of channel c that turns its notes
pub record IsTurnedBy (c t : ℕ) (m x : Music) : Type 0 where
  pub turn : Note → Note
  pub notes : x.notes ≡ map turn m.notes
  pub each : AllByRecursion (λ a. IsTurned c t (channel_at m c) (channel_at x c) a (turn a)) m.notes
  pub others : (d : ℕ) → d ≢ c → channel_at x d ≡ channel_at m d
  pub zones : x.zones ≡ no_zones

pub all_settle : (ss : List Channel) (c t : ℕ) (after : Channel) (f : Note → Note) (ns : List Note) → c < length ss →
    ((a : Note) → IsCaptured c (get_or ss c default_channel) after a (f a)) →
    AllByRecursion (Stays ss) ns → AllByRecursion (λ a. IsTurned c t (get_or ss c default_channel)
    (get_or (set ss c after) c default_channel) a (settle_note (set ss c after) no_zones t (f a))) ns
all_settle ss c t after f ns low h s =
    all_weaker (Stays ss) (λ a. IsTurned c t (get_or ss c default_channel)
    (get_or (set ss c after) c default_channel) a (settle_note (set ss c after) no_zones t (f a)))
    (λ a g. subst (λ (x : Channel). IsTurned c t (get_or ss c default_channel) x a (settle_note (set ss c after) no_zones t (f a)))
    (sym (get_or-set_same ss c after default_channel low)) (settles ss c t after a (f a) low g (h a))) ns s
