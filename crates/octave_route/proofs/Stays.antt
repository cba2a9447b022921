-- What a receiver of octave tuning has while it takes the octave route's output for one port: the source's music, no tuning program
-- selected on a retuned part, and once the setup stands the values on each part that has a note on.
use Rattle.std.proofs.Common.{◌≡◌, ◌≤◌, ℕ, zero, suc, List, [], ◌∷◌, ◌++◌, Bool, true, false, cond, ◌&&◌, ◌||◌, nat_eq, Option, Some, None, length, get_or, replicate, refl, ap, sym, ◌∙◌, subst, arith, append_assoc, append-nil}
use Rattle.std.specs.Option.{option_map}
use Rattle.std.specs.List.{AllByRecursion}
use Rattle.std.proofs.lemmas.Bool.{both_ways}
use Rattle.mt_base.specs.Midi.{MidiWhat, Says, SysexOf, MetaOf, MidiEvent}
use Rattle.midi_model.specs.Sysex.{Doing, Plays, Resets, Tunes, Nothing, doing, tunes, tuning_of, is_tuning, Retune}
use Rattle.midi_model.specs.Music.{Music, quiet, advance, step}
use Rattle.midi_model.specs.Tuning.{Tuning, selected_of, tuning_after}
use Rattle.midi_model.specs.Receiver.{start, receive, after}
use Rattle.retune_model.specs.Options.{Options}
use Rattle.retune_model.specs.Faults.{is_part, Targets}
use Rattle.retune_model.specs.Blocks.{all_events, written}
use Rattle.retune_model.specs.Routes.{Setup, sends, setup_at, dump_before, dump_behind, dump_next, dump_block}
use Rattle.retune_model.specs.Dump.{has_note_on, dump_if}
use Rattle.retune_model.specs.Plain.{is_plain}
use Rattle.retune_model.specs.Octave.{OctaveTuning, has_bit, octave_of, level, retuned_by, octaves_heard, octaves_next, octaves_after}
use Rattle.retune_model.proofs.Steady.{receive_all-append}
use Rattle.retune_model.proofs.Tuned.{leaves_message}
use Rattle.retune_model.proofs.Faultless.{IsFineEvent}
use Rattle.octave_route.specs.Messages.{IsOctaveValue, as_number, octave_bytes, as_read, WrittenIsRead}
use Rattle.octave_route.specs.Output.{is_tuned, parts_number, octave_setup}
use Rattle.octave_route.proofs.Numbers.{bit_named, number_small}

pub record Stays (o : Options) (values : List ℕ) (es : List MidiEvent) (on : Bool) (m : Music) (out : List MidiEvent) : Type 0 where
  pub music : (after out).music ≡ m
  pub selected : (c : ℕ) → is_part o c ≡ true → selected_of (after out).tuning c ≡ None
  pub octaves : on ≡ true → has_note_on (is_part o) es ≡ true → (c : ℕ) → c ≤ 15 → is_tuned o es c ≡ true → octaves_after level out c ≡ values

octaves_append : (v : ℕ → List ℕ) (xs ys : List MidiEvent) (c : ℕ) → octaves_after v (xs ++ ys) c ≡ octaves_after (octaves_after v xs) ys c
octaves_append v [] ys c = refl
octaves_append v (x ∷ xs) ys c = octaves_append (octaves_next v x.what (doing x.what)) xs ys c

none_everywhere : {A : Type 0} (n i : ℕ) → get_or (replicate n None) i None ≡ (let x : Option A = None in x)
none_everywhere zero i = refl
none_everywhere (suc n) zero = refl
none_everywhere (suc n) (suc i) = none_everywhere n i

pub stays_start : (o : Options) (values : List ℕ) (es : List MidiEvent) → Stays o values es false quiet []
stays_start o values es = record { music = refl; selected = λ c h. none_everywhere 16 c; octaves = λ on. absurd (let no : ⊥ = cc in no) }

-- ---- what a message tells the channels that it names

both_same : (a b : ℕ × List ℕ) → Some a ≡ Some b → a ≡ b
both_same a b e = cc

named_values : WrittenIsRead → (values : List ℕ) (named : ℕ → Bool) (v : ℕ → List ℕ) (c : ℕ) → length values ≡ 12
    → AllByRecursion IsOctaveValue values
    → c ≤ 15 → named c ≡ true → retuned_by (octave_of (octave_bytes (as_number 16 named) values)) v c ≡ values
named_values again values named v c all fit low is =
    pick (octave_of (octave_bytes (as_number 16 named) values)) (again (as_number 16 named) values (omega (arith, number_small 16 named)) all fit)
  where
    here : (m : OctaveTuning) (b : Bool) → m.channels c ≡ b → b ≡ true → m.values ≡ values → cond b m.values (v c) ≡ values
    here m true e k vs = vs
    here m false e k vs = absurd cc

    pick : (x : Option OctaveTuning) → option_map as_read x ≡ Some (as_number 16 named, values) → retuned_by x v c ≡ values
    pick None e = absurd (let no : ⊥ = cc in no)
    pick (Some m) e =
        let both : as_read m ≡ (as_number 16 named, values) = both_same (as_read m) (as_number 16 named, values) e in
        let bit : m.channels c ≡ true = sym (bit_named 16 m.channels c (omega (arith, low))) ∙ ap (λ x. has_bit c x.0) both
        ∙ bit_named 16 named c (omega (arith, low)) ∙ is in
        here m (m.channels c) refl bit (ap (λ x. x.1) both)

-- ---- a message of octave tuning

tunes_music : (t : ℕ) (m : Music) (x : Option Retune) → advance t (tunes x) m ≡ m
tunes_music t m None = refl
tunes_music t m (Some r) = refl

tunes_selected : (m : Music) (u : Tuning) (x : Option Retune) (c : ℕ) → selected_of (tuning_after m (tunes x) u) c ≡ selected_of u c
tunes_selected m u None c = refl
tunes_selected m u (Some r) c = refl

tunes_octaves : (v : ℕ → List ℕ) (w : MidiWhat) (x : Option Retune) (c : ℕ) → octaves_next v w (tunes x) c ≡ octaves_heard v w c
tunes_octaves v w None c = refl
tunes_octaves v w (Some r) c = refl

abbrev sent : ℕ → ℕ → List ℕ → MidiEvent
sent t track bytes = record { tick = t; track = track; what = SysexOf 240 bytes }

stays_sent : WrittenIsRead → (o : Options) (values : List ℕ) (es : List MidiEvent) (on : Bool) (m : Music) (out : List MidiEvent) (t track : ℕ)
    → length values ≡ 12 → AllByRecursion IsOctaveValue values → Stays o values es on m out
    → Stays o values es true m (out ++ sent t track (octave_bytes (parts_number o es) values) ∷ [])
stays_sent again o values es on m out t track all fit h =
    let bytes : List ℕ = octave_bytes (parts_number o es) values in
    let x : MidiEvent = sent t track bytes in
    let now : after (out ++ x ∷ []) ≡ receive (after out) x = receive_all-append start out (x ∷ []) in
    record {
      music = ap (λ r. r.music) now ∙ tunes_music t (after out).music (tuning_of bytes) ∙ h.music;
      selected = λ c part. ap (λ r. selected_of r.tuning c) now ∙ tunes_selected (after out).music (after out).tuning (tuning_of bytes) c
          ∙ h.selected c part;
      octaves = λ on some c low is. octaves_append level out (x ∷ []) c ∙ tunes_octaves (octaves_after level out) (SysexOf 240 bytes) (tuning_of
          bytes) c
          ∙ named_values again values (is_tuned o es) (octaves_after level out) c all fit low is;
    }

stays_same : (o : Options) (values : List ℕ) (es : List MidiEvent) (on : Bool) (m : Music) (out : List MidiEvent) → Stays o values es on m out
    → Stays o values es on m (out ++ [])
stays_same o values es on m out h = subst (λ l. Stays o values es on m l) (sym (append-nil out)) h

-- the setup
stays_setup : WrittenIsRead → (o : Options) (values : List ℕ) (es : List MidiEvent) (on : Bool) (m : Music) (out : List MidiEvent) (e : MidiEvent)
    → length values ≡ 12 → AllByRecursion IsOctaveValue values → Stays o values es on m out
    → Stays o values es true m (out ++ all_events (setup_at (octave_setup o values es) e))
stays_setup again o values es on m out e all fit h = pick (has_note_on (is_part o) es) refl
  where
    bytes : List ℕ
    bytes = octave_bytes (parts_number o es) values

    pick : (b : Bool) → has_note_on (is_part o) es ≡ b → Stays o values es true m (out ++ all_events (sends e.tick e.track (dump_if b bytes) ++ []))
    pick true is = stays_sent again o values es on m out e.tick e.track all fit h
    pick false is = (let k = stays_same o values es on m out h in
        record { music = k.music; selected = k.selected; octaves = λ on some. absurd (both_ways (has_note_on (is_part o) es) is some) })

pub stays_before : WrittenIsRead → (o : Options) (values : List ℕ) (es : List MidiEvent) (b : Bool) (m : Music) (out : List MidiEvent) (e :
    MidiEvent) (d : Doing)
    → length values ≡ 12 → AllByRecursion IsOctaveValue values → Stays o values es b m out
    → Stays o values es (dump_next b d) m (out ++ all_events (dump_before (octave_setup o values es) b e d))
stays_before again o values es false m out e (Plays msg) all fit h = stays_setup again o values es false m out e all fit h
stays_before again o values es true m out e (Plays msg) all fit h = stays_same o values es true m out h
stays_before again o values es true m out e Resets all fit h = stays_same o values es true m out h
stays_before again o values es true m out e (Tunes r) all fit h = stays_same o values es true m out h
stays_before again o values es true m out e Nothing all fit h = stays_same o values es true m out h
stays_before again o values es false m out e Resets all fit h = stays_same o values es false m out h
stays_before again o values es false m out e (Tunes r) all fit h = stays_same o values es false m out h
stays_before again o values es false m out e Nothing all fit h = stays_same o values es false m out h

-- ---- an event of the source

-- whether the setup still stands behind an event, before it is set again
abbrev pub still : Bool → Doing → Bool
still on Resets = false
still on _ = on

-- a message that is no tuning message is none of octave tuning
not_octave : (a device b c ff gg hh : ℕ) (rest : List ℕ) → is_tuning (a ∷ device ∷ b ∷ c ∷ ff ∷ gg ∷ hh ∷ rest) ≡ false
    → octave_of (a ∷ device ∷ b ∷ c ∷ ff ∷ gg ∷ hh ∷ rest) ≡ None
not_octave a device b c ff gg hh rest h = pick (nat_eq a 0x7e) (nat_eq b 0x08) (nat_eq c 0x09) (nat_eq a 0x7f) h
  where
    pick : (x y z w : Bool) → ((x && (true && (y && true))) || (w && (true && (y && true)))) ≡ false
        → cond (x && (y && z)) (octave_of (0x7e ∷ device ∷ 0x08 ∷ 0x09 ∷ ff ∷ gg ∷ hh ∷ rest)) None ≡ None
    pick true true z w k = absurd (let no : ⊥ = cc in no)
    pick true false z w k = refl
    pick false y z w k = refl

untuned_octave : (bs : List ℕ) → is_tuning bs ≡ false → octave_of bs ≡ None
untuned_octave [] h = refl
untuned_octave (a ∷ []) h = refl
untuned_octave (a ∷ b ∷ []) h = refl
untuned_octave (a ∷ b ∷ c ∷ []) h = refl
untuned_octave (a ∷ b ∷ c ∷ d ∷ []) h = refl
untuned_octave (a ∷ b ∷ c ∷ d ∷ e ∷ []) h = refl
untuned_octave (a ∷ b ∷ c ∷ d ∷ e ∷ f ∷ []) h = refl
untuned_octave (a ∷ b ∷ c ∷ d ∷ e ∷ f ∷ g ∷ rest) h = not_octave a b c d e f g rest h

unheard : (o : Options) (table : Targets) (m : Music) (t : ℕ) (w : MidiWhat) (v : ℕ → List ℕ) (c : ℕ) → IsFineEvent o table m t w
    → octaves_heard v w c ≡ v c
unheard o table m t (Says msg) v c h = refl
unheard o table m t (MetaOf kind bytes) v c h = refl
unheard o table m t (SysexOf lead bytes) v c h = pick (nat_eq lead 0xf0) h
  where
    pick : (b : Bool) → (b && is_tuning bytes) ≡ false → cond b (retuned_by (octave_of bytes) v c) (v c) ≡ v c
    pick false k = refl
    pick true k = ap (λ x. retuned_by x v c) (untuned_octave bytes k)

-- what is selected behind it
unselected : (o : Options) (m : Music) (d : Doing) (u : Tuning) (c : ℕ) → is_plain (is_part o) m d ≡ true → is_part o c ≡ true
    → selected_of u c ≡ None → selected_of (tuning_after m d u) c ≡ None
unselected o m (Plays msg) u c plain part h = (leaves_message (is_part o) m msg u plain).selected c part ∙ h
unselected o m Resets u c plain part h = none_everywhere 16 c
unselected o m (Tunes r) u c plain part h = absurd (let no : ⊥ = cc in no)
unselected o m Nothing u c plain part h = h

still_octaves : (values : List ℕ) (on : Bool) (w : MidiWhat) (d : Doing) (v : ℕ → List ℕ) (c : ℕ) → octaves_heard v w c ≡ v c → (on ≡ true
    → v c ≡ values) → still on d ≡ true → octaves_next v w d c ≡ values
still_octaves values on w (Plays msg) v c heard h is = heard ∙ h is
still_octaves values on w Resets v c heard h is = absurd (let no : ⊥ = cc in no)
still_octaves values on w (Tunes r) v c heard h is = heard ∙ h is
still_octaves values on w Nothing v c heard h is = heard ∙ h is

pub stays_event : (o : Options) (table : Targets) (values : List ℕ) (es : List MidiEvent) (on : Bool) (m : Music) (out : List MidiEvent) (e :
    MidiEvent)
    → IsFineEvent o table m e.tick e.what → is_plain (is_part o) m (doing e.what) ≡ true → Stays o values es on m out
    → Stays o values es (still on (doing e.what)) (step m e) (out ++ e ∷ [])
stays_event o table values es on m out e fine plain h =
    let now : after (out ++ e ∷ []) ≡ receive (after out) e = receive_all-append start out (e ∷ []) in
    let plain_now : is_plain (is_part o) (after out).music (doing e.what) ≡ true = ap (λ x. is_plain (is_part o) x (doing e.what)) h.music ∙ plain in
    record {
      music = ap (λ r. r.music) now ∙ ap (λ x. step x e) h.music;
      selected = λ c part. ap (λ r. selected_of r.tuning c) now ∙ unselected o (after out).music (doing e.what) (after out).tuning c plain_now part
          (h.selected c part);
      octaves = λ is some c low tuned. octaves_append level out (e ∷ []) c
          ∙ still_octaves values on e.what (doing e.what) (octaves_after level out) c (unheard o table m e.tick e.what (octaves_after level out) c
          fine) (λ k. h.octaves k some c low tuned) is;
    }

pub stays_behind : WrittenIsRead → (o : Options) (values : List ℕ) (es : List MidiEvent) (b : Bool) (m : Music) (out : List MidiEvent) (e :
    MidiEvent) (d : Doing)
    → length values ≡ 12 → AllByRecursion IsOctaveValue values → Stays o values es (still (dump_next b d) d) m out
    → Stays o values es (dump_next b d) m (out ++ all_events (dump_behind (octave_setup o values es) b e d))
stays_behind again o values es true m out e Resets all fit h = stays_setup again o values es false m out e all fit h
stays_behind again o values es false m out e Resets all fit h = stays_same o values es false m out h
stays_behind again o values es true m out e (Plays msg) all fit h = stays_same o values es true m out h
stays_behind again o values es false m out e (Plays msg) all fit h = stays_same o values es true m out h
stays_behind again o values es true m out e (Tunes r) all fit h = stays_same o values es true m out h
stays_behind again o values es false m out e (Tunes r) all fit h = stays_same o values es false m out h
stays_behind again o values es true m out e Nothing all fit h = stays_same o values es true m out h
stays_behind again o values es false m out e Nothing all fit h = stays_same o values es false m out h

-- the whole block
pub in_parts : (out before : List MidiEvent) (e : MidiEvent) (behind : List MidiEvent)
    → ((out ++ before) ++ e ∷ []) ++ behind ≡ out ++ (before ++ e ∷ behind)
in_parts out before e behind = append_assoc (out ++ before) (e ∷ []) behind ∙ append_assoc out before (e ∷ behind)

pub stays_block : WrittenIsRead → (o : Options) (table : Targets) (values : List ℕ) (es : List MidiEvent) (b : Bool) (m : Music) (out : List
    MidiEvent) (e : MidiEvent)
    → length values ≡ 12 → AllByRecursion IsOctaveValue values → IsFineEvent o table m e.tick e.what
    → is_plain (is_part o) m (doing e.what) ≡ true → Stays o values es b m out
    → Stays o values es (dump_next b (doing e.what)) (step m e) (out ++ written (dump_block (octave_setup o values es) b e))
stays_block again o table values es b m out e all fit fine plain h =
    let s : Setup = octave_setup o values es in
    let d : Doing = doing e.what in
    let before : List MidiEvent = all_events (dump_before s b e d) in
    subst (λ l. Stays o values es (dump_next b d) (step m e) l) (in_parts out before e (all_events (dump_behind s b e d)))
    (stays_behind again o values es b (step m e) ((out ++ before) ++ e ∷ []) e d all fit
    (stays_event o table values es (dump_next b d) m (out ++ before) e fine plain (stays_before again o values es b m out e d all fit h)))
