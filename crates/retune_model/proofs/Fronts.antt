-- The dump route's output up to a tick is what it makes of the source up to that tick.
use Rattle.std.proofs.Common.{◌≡◌, ◌≤◌, ◌<◌, ℕ, List, [], ◌∷◌, ◌++◌, Bool, true, false, refl, ap, sym, ◌∙◌, arith, inl, inr, nat_le, append_assoc}
use Rattle.std.specs.List.{AllByRecursion}
use Rattle.std.proofs.lemmas.Bool.{cases_lt, le-leb, lt-leb}
use Rattle.std.proofs.lemmas.List.Elements.{filter-append}
use Rattle.mt_base.specs.Midi.{MidiEvent}
use Rattle.midi_model.specs.Sysex.{Doing, Plays, Resets, Tunes, Nothing, doing}
use Rattle.midi_model.specs.Music.{Music, step}
use Rattle.midi_model.specs.Order.{AreInOrder}
use Rattle.retune_model.specs.PlaysTheSame.{until}
use Rattle.retune_model.specs.Faults.{Targets}
use Rattle.retune_model.proofs.Faultless.{AreFineFrom}
use Rattle.retune_model.specs.Options.{Options}
use Rattle.retune_model.specs.Blocks.{Group, all_events, written}
use Rattle.retune_model.specs.Routes.{translated, Setup, sends, selects, setup_at, dump_before, dump_behind, dump_next, dump_block, dump_output}
use Rattle.retune_model.specs.Plain.{ArePlain, has_begun}

pub all_weaker : {A : Type 0} (P Q : A → Type 0) → ((x : A) → P x → Q x) → (xs : List A) → AllByRecursion P xs → AllByRecursion Q xs
all_weaker P Q f [] h = tt
all_weaker P Q f (x ∷ xs) h = (f x h.0, all_weaker P Q f xs h.1)

pub all_append : {A : Type 0} (P : A → Type 0) (xs ys : List A) → AllByRecursion P xs → AllByRecursion P ys → AllByRecursion P (xs ++ ys)
all_append P [] ys h k = k
all_append P (x ∷ xs) ys h k = (h.0, all_append P xs ys h.1 k)

pub all_front : {A : Type 0} (P : A → Type 0) (xs ys : List A) → AllByRecursion P (xs ++ ys) → AllByRecursion P xs
all_front P [] ys h = tt
all_front P (x ∷ xs) ys h = (h.0, all_front P xs ys h.1)

-- what has come by a tick, and what comes later
pub record Split (t : ℕ) (es : List MidiEvent) : Type 0 where
  pub early : List MidiEvent
  pub late : List MidiEvent
  pub is : es ≡ early ++ late
  pub early_ticks : AllByRecursion (λ e. e.tick ≤ t) early
  pub late_ticks : AllByRecursion (λ e. t < e.tick) late

all_from : (a : ℕ) (es : List MidiEvent) → AreInOrder a es → AllByRecursion (λ e. a ≤ e.tick) es
all_from a [] o = tt
all_from a (e ∷ es) o = (o.0, all_weaker (λ x. e.tick ≤ x.tick) (λ x. a ≤ x.tick) (λ x h. omega (arith, h, o.0)) es (all_from e.tick es o.1))

pub split : (t a : ℕ) (es : List MidiEvent) → AreInOrder a es → Split t es
split t a [] o = record { early = []; late = []; is = refl; early_ticks = tt; late_ticks = tt }
split t a (e ∷ es) o = elim (cases_lt t e.tick) [
  | inl l ↦ record { early = []; late = e ∷ es; is = refl; early_ticks = tt; late_ticks = (l, all_weaker (λ x. e.tick ≤ x.tick) (λ x. t < x.tick) (λ x h. omega (arith, h, l)) es (all_from e.tick es o.1)) }
  | inr l ↦ (let r = split t e.tick es o.1 in
      record { early = e ∷ r.early; late = r.late; is = ap (λ x. e ∷ x) r.is; early_ticks = (l, r.early_ticks); late_ticks = r.late_ticks })
]

until_early : (t : ℕ) (es : List MidiEvent) → AllByRecursion (λ e. e.tick ≤ t) es → until t es ≡ es
until_early t [] h = refl
until_early t (e ∷ es) h = rw (le-leb e.tick t h.0, until_early t es h.1) refl

until_late : (t : ℕ) (es : List MidiEvent) → AllByRecursion (λ e. t < e.tick) es → until t es ≡ []
until_late t [] h = refl
until_late t (e ∷ es) h = rw (lt-leb e.tick t h.0, until_late t es h.1) refl

none_behind : (xs : List MidiEvent) → xs ++ [] ≡ xs
none_behind [] = refl
none_behind (x ∷ xs) = ap (λ y. x ∷ y) (none_behind xs)

pub until_split : (t : ℕ) (xs ys : List MidiEvent) → AllByRecursion (λ e. e.tick ≤ t) xs → AllByRecursion (λ e. t < e.tick) ys → until t (xs ++ ys) ≡ xs
until_split t xs ys h k =
    filter-append (λ e. nat_le e.tick t) xs ys ∙ ap (λ x. x ++ until t ys) (until_early t xs h) ∙ ap (λ y. xs ++ y) (until_late t ys k) ∙ none_behind xs

-- ---- all that a block has stands at its event's tick
ticks_sends : (P : ℕ → Type 0) (t track : ℕ) (bs : List (List ℕ)) (gs : List Group) → P t → AllByRecursion (λ e. P e.tick) (all_events gs) → AllByRecursion (λ e. P e.tick) (all_events (sends t track bs ++ gs))
ticks_sends P t track [] gs p h = h
ticks_sends P t track (b ∷ bs) gs p h = (p, ticks_sends P t track bs gs p h)

ticks_selects : (P : ℕ → Type 0) (t track program : ℕ) (cs : List ℕ) → P t → AllByRecursion (λ e. P e.tick) (all_events (selects t track program cs))
ticks_selects P t track program [] p = tt
ticks_selects P t track program (c ∷ cs) p = (p, (p, (p, (p, (p, ticks_selects P t track program cs p)))))

ticks_setup : (P : ℕ → Type 0) (s : Setup) (e : MidiEvent) → P e.tick → AllByRecursion (λ x. P x.tick) (all_events (setup_at s e))
ticks_setup P s e p = ticks_sends P e.tick e.track s.dumps (selects e.tick e.track s.program s.channels) p (ticks_selects P e.tick e.track s.program s.channels p)

pub ticks_before : (P : ℕ → Type 0) (s : Setup) (b : Bool) (e : MidiEvent) (d : Doing) → P e.tick → AllByRecursion (λ x. P x.tick) (all_events (dump_before s b e d))
ticks_before P s false e (Plays msg) p = ticks_setup P s e p
ticks_before P s false e Resets p = tt
ticks_before P s false e (Tunes x) p = tt
ticks_before P s false e Nothing p = tt
ticks_before P s true e (Plays msg) p = tt
ticks_before P s true e Resets p = tt
ticks_before P s true e (Tunes x) p = tt
ticks_before P s true e Nothing p = tt

pub ticks_behind : (P : ℕ → Type 0) (s : Setup) (b : Bool) (e : MidiEvent) (d : Doing) → P e.tick → AllByRecursion (λ x. P x.tick) (all_events (dump_behind s b e d))
ticks_behind P s false e (Plays msg) p = tt
ticks_behind P s false e Resets p = tt
ticks_behind P s false e (Tunes x) p = tt
ticks_behind P s false e Nothing p = tt
ticks_behind P s true e (Plays msg) p = tt
ticks_behind P s true e Resets p = ticks_setup P s e p
ticks_behind P s true e (Tunes x) p = tt
ticks_behind P s true e Nothing p = tt

-- the route's blocks from a state on
abbrev pub blocks : Setup → Bool → List MidiEvent → List MidiEvent
blocks s b es = translated (dump_block s) (λ c e. dump_next c (doing e.what)) b es

ticks_blocks : (P : ℕ → Type 0) (s : Setup) (b : Bool) (es : List MidiEvent) → AllByRecursion (λ e. P e.tick) es → AllByRecursion (λ e. P e.tick) (blocks s b es)
ticks_blocks P s b [] h = tt
ticks_blocks P s b (e ∷ es) h =
    all_append (λ x. P x.tick) (written (dump_block s b e)) (blocks s (dump_next b (doing e.what)) es)
    (all_append (λ x. P x.tick) (all_events (dump_before s b e (doing e.what))) (e ∷ all_events (dump_behind s b e (doing e.what))) (ticks_before P s b e (doing e.what) h.0) (h.0, ticks_behind P s b e (doing e.what) h.0))
    (ticks_blocks P s (dump_next b (doing e.what)) es h.1)

blocks-append : (s : Setup) (b : Bool) (xs ys : List MidiEvent) → blocks s b (xs ++ ys) ≡ blocks s b xs ++ blocks s (has_begun b xs) ys
blocks-append s b [] ys = refl
blocks-append s b (x ∷ xs) ys =
    ap (λ z. written (dump_block s b x) ++ z) (blocks-append s (dump_next b (doing x.what)) xs ys)
    ∙ sym (append_assoc (written (dump_block s b x)) (blocks s (dump_next b (doing x.what)) xs) (blocks s (has_begun (dump_next b (doing x.what)) xs) ys))

-- the source, and the output, up to a tick
pub until_source : (t : ℕ) (es : List MidiEvent) (c : Split t es) → until t es ≡ c.early
until_source t es c = ap (until t) c.is ∙ until_split t c.early c.late c.early_ticks c.late_ticks

pub until_output : (t : ℕ) (s : Setup) (es : List MidiEvent) (c : Split t es) → until t (dump_output s es) ≡ dump_output s c.early
until_output t s es c =
    ap (λ x. until t (blocks s false x)) c.is
    ∙ ap (until t) (blocks-append s false c.early c.late)
    ∙ until_split t (blocks s false c.early) (blocks s (has_begun false c.early) c.late) (ticks_blocks (λ x. x ≤ t) s false c.early c.early_ticks) (ticks_blocks (λ x. t < x) s (has_begun false c.early) c.late c.late_ticks)

-- ---- what holds of a list holds of its front
pub plain_front : (part : ℕ → Bool) (m : Music) (xs ys : List MidiEvent) → ArePlain part m (xs ++ ys) → ArePlain part m xs
plain_front part m [] ys h = tt
plain_front part m (x ∷ xs) ys h = (h.0, plain_front part (step m x) xs ys h.1)

pub faultless_front : (o : Options) (table : Targets) (m : Music) (xs ys : List MidiEvent) → AreFineFrom o table m (xs ++ ys) → AreFineFrom o table m xs
faultless_front o table m [] ys h = tt
faultless_front o table m (x ∷ xs) ys h = (h.0, faultless_front o table (step m x) xs ys h.1)
