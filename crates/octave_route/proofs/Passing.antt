-- A source that is passed on, event by event, with the octave tuning around it.
use Rattle.std.proofs.Common.{◌≡◌, ◌<◌, ◌^◌, ◌+◌, ◌/◌, ℕ, zero, suc, List, [], ◌∷◌, ◌++◌, Bool, true, false, cond, not, ◌&&◌, nat_eq, Option, Some, None, length, get_or, replicate, refl, ap, sym, subst, ◌∙◌, arith, length-append, append_assoc, ◌*◌, inl, inr}
use Rattle.std.specs.List.{AllByRecursion}
use Rattle.std.proofs.lemmas.Bool.Decides.{eqb_tells}
use Rattle.std.proofs.lemmas.Nat.Bits.{bit_at-suc, bit_at_lowest}
use Rattle.mt_base.specs.Midi.{MidiWhat, Says, SysexOf, MetaOf, MidiEvent}
use Rattle.mt_base.specs.Valid.{IsValidEvent}
use Rattle.midi_model.specs.Sysex.{Resets, Nothing, Retune, tunes, doing, is_reset, tuning_of}
use Rattle.midi_model.specs.Writing.{Written}
use Rattle.retune_model.specs.Options.{Options}
use Rattle.retune_model.specs.Faults.{Targets, is_part}
use Rattle.retune_model.specs.SourceFaults.{IsFaultless, fault_at, is_message}
use Rattle.retune_model.specs.Ports.{ports_after, ports_from, all_zero, events_on}
use Rattle.retune_model.specs.PortOutput.{kept_for, through_ports_from}
use Rattle.retune_model.specs.Blocks.{all_events}
use Rattle.retune_model.specs.Blocks as blocks
use Rattle.retune_model.specs.Routes.{sends, setup_at, dump_before, dump_behind, dump_next, dump_block}
use Rattle.retune_model.specs.Dump.{has_note_on, dump_if}
use Rattle.retune_model.specs.Octave.{has_bit}
use Rattle.receiver.specs.Notes.{has}
use Rattle.lifetimes.specs.declared.fault.SourceFault.{SourceFault}
use Rattle.lifetimes.specs.declared.fault.StepFault.{StepFault}
use Rattle.lifetimes.specs.declared.fault.StepFault.TheVariants.{Source}
use Rattle.lifetimes.specs.Views.{fault_of}
use Rattle.lifetimes.specs.Told.{port_on, source_of}
use Rattle.lifetimes.specs.Noted.{AreNoted}
use Rattle.routes.specs.Putting.{IsPut, sent_at}
use Rattle.routes.specs.Device.{is_first, resets_all}
use Rattle.routes.proofs.Channels.{some_marked, valid_on}
use Rattle.routes.proofs.Puts.{not_begun}
use Rattle.octave_route.specs.Messages.{bit_of, as_number, octave_bytes}
use Rattle.octave_route.specs.Output.{is_tuned, parts_number, octave_setup, octaved}
use Rattle.octave_route.specs.Putting.{setup_if, block_events, begun_in}
use Rattle.octave_route.proofs.Numbers.{bits_of}
use Rattle.lifetimes.proofs.Ported.{ports_append}
use Rattle.routes.proofs.States.{ext}

-- ---- the number of the parts is the mask

bit_alike : (c n : ℕ) → has_bit c n ≡ has n c
bit_alike zero n = ap (λ b. nat_eq b 1) (sym (bit_at_lowest n))
bit_alike (suc c) n = bit_alike c (n / 2) ∙ ap (λ b. nat_eq b 1) (sym (bit_at-suc n c))

number_alike : (k : ℕ) (f g : ℕ → Bool) → ((c : ℕ) → c < k → f c ≡ g c) → as_number k f ≡ as_number k g
number_alike zero f g same = refl
number_alike (suc k) f g same =
    let first : f 0 ≡ g 0 = same 0 (omega arith) in
    let rest : as_number k (λ c. f (suc c)) ≡ as_number k (λ c. g (suc c)) = number_alike k (λ c. f (suc c)) (λ c. g (suc c)) (λ c low. same (suc c)
    (omega (arith, low))) in
    ap (λ b. bit_of b + 2 * as_number k (λ c. f (suc c))) first ∙ ap (λ n. bit_of (g 0) + 2 * n) rest

mask_is : (o : Options) (es : List MidiEvent) (mask : ℕ) → mask < 2 ^ 16 → AreNoted o es mask → mask ≡ parts_number o es
mask_is o es mask fits noted =
    sym (bits_of 16 mask fits) ∙ number_alike 16 (λ c. has_bit c mask) (is_tuned o es) (λ c low. bit_alike c mask ∙ noted c low)

-- ---- what the program puts around an event is the event's block

one_sent : (e : MidiEvent) (b : Bool) (bytes : List ℕ) → sent_at e (dump_if b bytes) ≡ all_events (sends e.tick e.track (dump_if b bytes) ++ [])
one_sent e true bytes = refl
one_sent e false bytes = refl

-- the mask of a port's parts
pub record Marks (mask : ℕ) (o : Options) (es : List MidiEvent) : Type 0 where
  pub number : mask ≡ parts_number o es
  pub some : not (nat_eq mask 0) ≡ has_note_on (is_part o) es

pub marks : (mask : ℕ) (o : Options) (all : List MidiEvent) (z : ℕ) → mask < 2 ^ 16 → AllByRecursion IsValidEvent all
    → AreNoted o (events_on z all) mask → Marks mask o (events_on z all)
marks mask o all z fits valid noted = record {
  number = mask_is o (events_on z all) mask fits noted;
  some = some_marked o (events_on z all) mask fits (valid_on z all valid) noted;
}

setup_same : (mask : ℕ) (o : Options) (values : List ℕ) (es : List MidiEvent) (e : MidiEvent) → Marks mask o es
    → setup_if true mask values e ≡ all_events (setup_at (octave_setup o values es) e)
setup_same mask o values es e h =
    ap (λ b. sent_at e (dump_if b (octave_bytes mask values))) h.some
    ∙ ap (λ n. sent_at e (dump_if (has_note_on (is_part o) es) (octave_bytes n values))) h.number
    ∙ one_sent e (has_note_on (is_part o) es) (octave_bytes (parts_number o es) values)

before_same : (mask : ℕ) (o : Options) (values : List ℕ) (es : List MidiEvent) (b : Bool) (e : MidiEvent) (w : MidiWhat) → Marks mask o es
    → setup_if (is_first b w) mask values e ≡ all_events (dump_before (octave_setup o values es) b e (doing w))
before_same mask o values es true e (Says m) h = refl
before_same mask o values es false e (Says m) h = setup_same mask o values es e h
before_same mask o values es true e (MetaOf kind bytes) h = refl
before_same mask o values es false e (MetaOf kind bytes) h = refl
before_same mask o values es b e (SysexOf lead bytes) h = ap (λ x. setup_if x mask values e) (never b)
    ∙ none b (nat_eq lead 240) (is_reset bytes) (tuning_of bytes)
  where
    never : (x : Bool) → (not x && false) ≡ false
    never true = refl
    never false = refl

    none : (x leads reset : Bool) (r : Option Retune) → [] ≡ all_events (dump_before (octave_setup o values es) x e (cond leads (cond reset Resets
        (tunes r)) Nothing))
    none true false reset r = refl
    none true true true r = refl
    none true true false None = refl
    none true true false (Some y) = refl
    none false false reset r = refl
    none false true true r = refl
    none false true false None = refl
    none false true false (Some y) = refl

behind_same : (mask : ℕ) (o : Options) (values : List ℕ) (es : List MidiEvent) (b : Bool) (e : MidiEvent) (w : MidiWhat) → Marks mask o es
    → setup_if (b && resets_all w) mask values e ≡ all_events (dump_behind (octave_setup o values es) b e (doing w))
behind_same mask o values es true e (Says m) h = refl
behind_same mask o values es false e (Says m) h = refl
behind_same mask o values es true e (MetaOf kind bytes) h = refl
behind_same mask o values es false e (MetaOf kind bytes) h = refl
behind_same mask o values es b e (SysexOf lead bytes) h = pick b (nat_eq lead 240) (is_reset bytes) (tuning_of bytes)
  where
    pick : (x leads reset : Bool) (r : Option Retune)
        → setup_if (x && (leads && reset)) mask values e ≡ all_events (dump_behind (octave_setup o values es) x e (cond leads (cond reset Resets
        (tunes r)) Nothing))
    pick true false reset r = refl
    pick true true true r = setup_same mask o values es e h
    pick true true false None = refl
    pick true true false (Some y) = refl
    pick false false reset r = refl
    pick false true true r = refl
    pick false true false None = refl
    pick false true false (Some y) = refl

block_same : (mask : ℕ) (o : Options) (values : List ℕ) (es : List MidiEvent) (b : Bool) (e : MidiEvent) → Marks mask o es
    → block_events mask values b e ≡ blocks.written (dump_block (octave_setup o values es) b e)
block_same mask o values es b e h =
    ap (λ xs. xs ++ e ∷ setup_if (b && resets_all e.what) mask values e) (before_same mask o values es b e e.what h)
    ∙ ap (λ xs. all_events (dump_before (octave_setup o values es) b e (doing e.what)) ++ e ∷ xs) (behind_same mask o values es b e e.what h)

-- ---- what is kept in mind

pub none_begun : begun_in (replicate 256 false) ≡ (λ z. false)
none_begun = ext (begun_in (replicate 256 false)) (λ z. false) (λ z. same 256 z)
  where
    same : (n i : ℕ) → get_or (replicate n false) i false ≡ false
    same zero i = refl
    same (suc n) zero = refl
    same (suc n) (suc i) = same n i

pub still_begun : (begun : List Bool) (port : ℕ) (w : MidiWhat) → is_message w ≡ false
    → begun_in begun ≡ kept_for port (dump_next (begun_in begun port) (doing w)) (begun_in begun)
still_begun begun port w h = ext (begun_in begun) (kept_for port (dump_next (begun_in begun port) (doing w)) (begun_in begun)) (λ z. elim (eqb_tells
    z port) [
      | inl t ↦ rw t.0 (ap (begun_in begun) t.1 ∙ sym (same w h))
      | inr t ↦ rw t.0 refl
    ])
  where
    same : (x : MidiWhat) → is_message x ≡ false → dump_next (begun_in begun port) (doing x) ≡ begun_in begun port
    same (Says m) k = absurd (let no : ⊥ = cc in no)
    same (MetaOf kind bytes) k = refl
    same (SysexOf lead bytes) k = pick (nat_eq lead 240) (is_reset bytes) (tuning_of bytes)
      where
        pick : (a b : Bool) (r : Option Retune) → dump_next (begun_in begun port) (cond a (cond b Resets (tunes r)) Nothing) ≡ begun_in begun port
        pick false b r = refl
        pick true true r = refl
        pick true false None = refl
        pick true false (Some y) = refl

-- ---- the events, one after the other

-- what the events es cause, where all are those of the file, k came before, and s says of each port whether a channel message came
abbrev pub passed : Options → List ℕ → List MidiEvent → (ℕ → ℕ) → ℕ → (ℕ → Bool) → List MidiEvent → List MidiEvent
passed o values all ports k s es = through_ports_from (λ z b n. blocks.written (dump_block (octave_setup o values (events_on z all)) b n.event)) (λ z
    b n. dump_next b (doing n.event.what)) ports k s es

-- Of all events a front was taken, for which P holds; what it causes was put, and what the rest causes is still to come.
pub record Passing (P : List MidiEvent → Type 0) (o : Options) (values : List ℕ) (all rest : List MidiEvent) (position : ℕ) (begun : List Bool) (old
    new : List Written) : Type 0 where
  pub front : List MidiEvent
  pub split : all ≡ front ++ rest
  pub count : position ≡ length front
  pub stands : P front
  pub put : IsPut old (octaved o values all) (passed o values all (ports_from all_zero front) (length front) (begun_in begun) rest) new

pub begins : (P : List MidiEvent → Type 0) (o : Options) (values : List ℕ) (all rest : List MidiEvent) (old : List Written) → P [] → rest ≡ all
    → Passing P o values all rest 0 (replicate 256 false) old old
begins P o values all rest old stands is = record {
  front = [];
  split = sym is;
  count = refl;
  stands = stands;
  put = subst (λ l. IsPut old (octaved o values all) l old)
      (ap (λ s. passed o values all all_zero 0 s all) (sym none_begun) ∙ ap (λ es. passed o values all all_zero 0 (begun_in (replicate 256 false))
      es) (sym is))
      (not_begun old (octaved o values all));
}

abbrev pub next_begun : ℕ → (ℕ → Bool) → MidiEvent → ℕ → Bool
next_begun z s e = kept_for z (dump_next (s z) (doing e.what)) s

abbrev pub later : Options → List ℕ → List MidiEvent → List MidiEvent → ℕ → (ℕ → Bool) → MidiEvent → List MidiEvent → List MidiEvent
later o values all front z s e rest = passed o values all (ports_after (ports_from all_zero front) e) (suc (length front)) (next_begun z s e) rest

-- what the program puts for the event comes next
pub turn : (P : List MidiEvent → Type 0) (o : Options) (values : List ℕ) (all rest : List MidiEvent) (position : ℕ) (begun : List Bool) (old new :
    List Written)
    (p : Passing P o values all rest position begun old new) (e : MidiEvent) (more : List MidiEvent) (mask z : ℕ) → rest ≡ e ∷ more
    → z ≡ port_on p.front e → Marks mask o (events_on z all)
    → IsPut old (octaved o values all) (block_events mask values (begun_in begun z) e ++ later o values all p.front z (begun_in begun) e more) new
turn P o values all rest position begun old new p e more mask z is at h =
    let s = begun_in begun in
    subst (λ l. IsPut old (octaved o values all) l new)
    (ap (λ es. passed o values all (ports_from all_zero p.front) (length p.front) s es) is
    ∙ ap (λ y. blocks.written (dump_block (octave_setup o values (events_on y all)) (s y) e) ++ later o values all p.front y s e more) (sym at)
    ∙ ap (λ xs. xs ++ later o values all p.front z s e more) (sym (block_same mask o values (events_on z all) (s z) e h)))
    p.put

-- it was put
pub passes : (P Q : List MidiEvent → Type 0) (o : Options) (values : List ℕ) (all rest : List MidiEvent) (position : ℕ) (begun begun2 : List Bool)
    (old new new2 : List Written)
    (p : Passing P o values all rest position begun old new) (e : MidiEvent) (more : List MidiEvent) (z : ℕ) → rest ≡ e ∷ more → Q (p.front ++ e ∷ [])
    → begun_in begun2 ≡ next_begun z (begun_in begun) e → IsPut old (octaved o values all) (later o values all p.front z (begun_in begun) e more) new2
    → Passing Q o values all more (position + 1) begun2 old new2
passes P Q o values all rest position begun begun2 old new new2 p e more z is stands kept put =
    let count : suc (length p.front) ≡ length (p.front ++ e ∷ []) = omega (arith, length-append p.front (e ∷ [])) in
    record {
      front = p.front ++ e ∷ [];
      split = p.split ∙ ap (λ l. p.front ++ l) is ∙ sym (append_assoc p.front (e ∷ []) more);
      count = omega (arith, p.count, count);
      stands = stands;
      put = subst (λ l. IsPut old (octaved o values all) l new2)
          (ap (λ ports. passed o values all ports (suc (length p.front)) (next_begun z (begun_in begun) e) more) (sym (ports_append all_zero p.front
          e))
          ∙ ap (λ k. passed o values all (ports_from all_zero (p.front ++ e ∷ [])) k (next_begun z (begun_in begun) e) more) count
          ∙ ap (λ s. passed o values all (ports_from all_zero (p.front ++ e ∷ [])) (length (p.front ++ e ∷ [])) s more) (sym kept))
          put;
    }

-- ---- no event has a fault

pub not_faulty : ((o : Options) (table : Targets) (front back : List MidiEvent) → IsFaultless o table (front ++ back) → IsFaultless o table front)
    → (o : Options) (table : Targets) (all front : List MidiEvent) (e : MidiEvent) (more : List MidiEvent) → all ≡ front ++ e ∷ more
    → IsFaultless o table all → fault_at o table (front ++ e ∷ []) (length front) ≡ None
not_faulty fronts o table all front e more is h =
    fronts o table (front ++ e ∷ []) more (subst (IsFaultless o table) (is ∙ sym (append_assoc front (e ∷ []) more)) h) (length front)
    (omega (arith, length-append front (e ∷ [])))

pub not_told : (f : StepFault) (x : SourceFault) → f ≡ Source x → source_of f ≡ None → ⊥
not_told f x is none = let some : Some (fault_of x) ≡ None = ap source_of (sym is) ∙ none in absurd (let no : ⊥ = cc in no)
