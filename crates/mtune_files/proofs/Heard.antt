-- One message of a chord, heard by channels that nothing else has changed.
use Rattle.std.proofs.Common.{◌≡◌, ◌⊎◌, ℕ, ◌<◌, List, [], ◌∷◌, ◌++◌, length, map, set, get_or, false, ◌&&◌, leb, ltb, Some, None, is_some, refl, sym, ap, ◌∙◌, subst, append_assoc, arith, inl, inr}
use Rattle.std.specs.List.{AllByRecursion}
use Rattle.std.proofs.lemmas.Bool.{cases_Bool, cases_eq, eq-eqb, leb-true, lt-leb, le-ltb}
use Rattle.std.proofs.lemmas.List.{get_or-set_same, get_or-set_other, set-get_or, length-set}
use Rattle.mt_base.specs.declared.event.Msg.{Msg}
use Rattle.mt_base.specs.declared.event.Msg.TheVariants.{NoteOff, NoteOn, Control, Program}
use Rattle.mt_base.specs.Midi.{Says, MidiEvent}
use Rattle.midi_model.specs.Channel.{Channel, default_channel, control_of}
use Rattle.midi_model.specs.Zones.{no_zones, master, governor, Zones}
use Rattle.midi_model.specs.Notes.{Note, sounds, is_at, release_key, cut_off}
use Rattle.midi_model.specs.Music.{Music, begun, settle_note, is_over, step}
use Rattle.mtune_files.proofs.Sampled.{all_both}

abbrev pub music : List Channel → List Note → Music
music ss ns = record { channels = ss; zones = no_zones; notes = ns }

abbrev pub heard_at : ℕ → Msg → MidiEvent
heard_at t m = record { tick = t; track = 0; what = Says m }

same_music : (ss ss2 : List Channel) (ns ns2 : List Note) → ss ≡ ss2 → ns ≡ ns2 → music ss ns ≡ music ss2 ns2
same_music ss ss2 ns ns2 p q = cc

-- ---- channels

-- the bank controllers and the hold pedal are at 0
pub record IsPlain (s : Channel) : Type 0 where
  pub high : control_of s 0 ≡ 0
  pub low : control_of s 32 ≡ 0
  pub hold : control_of s 64 ≡ 0

pub record ArePlain (ss : List Channel) : Type 0 where
  pub count : length ss ≡ 16
  pub each : (c : ℕ) → IsPlain (get_or ss c default_channel)

pub plain_set : (ss : List Channel) (c : ℕ) (s : Channel) → ArePlain ss → c < 16 → IsPlain s → ArePlain (set ss c s)
plain_set ss c s plain low is = record {
  count = length-set ss c s ∙ plain.count;
  each = λ d. elim (cases_eq d c) [
    | inl same ↦ subst (λ (x : ℕ). IsPlain (get_or (set ss c s) x default_channel)) (sym same)
        (subst IsPlain (sym (get_or-set_same ss c s default_channel (omega (arith, plain.count)))) is)
    | inr other ↦ subst IsPlain (sym (get_or-set_other ss c d s default_channel other)) (plain.each d)
  ];
}

-- where no zone is set, a channel governs itself
no_master : (c : ℕ) → master no_zones c ≡ None
no_master c =
    let lower : (leb 1 c && leb c 0) ≡ false = elim (cases_Bool (leb 1 c)) [
      | inl a ↦ rw a (lt-leb c 0 (omega (arith, leb-true 1 c a)))
      | inr a ↦ rw a refl
    ] in
    let upper : (leb 15 c && ltb c 15) ≡ false = elim (cases_Bool (leb 15 c)) [
      | inl a ↦ rw a (le-ltb c 15 (leb-true 15 c a))
      | inr a ↦ rw a refl
    ] in
    rw (lower, upper) refl

pub governs_itself : (c : ℕ) → governor no_zones c ≡ c
governs_itself c = rw (no_master c) refl

-- ---- notes

-- it has ended, or its key is down
abbrev pub IsIdle : Note → Type 0
IsIdle n = (sounds n ≡ false) ⊎ (is_some n.release ≡ false)

-- it has ended, or is on another channel or key
abbrev pub IsApart : ℕ → ℕ → Note → Type 0
IsApart c k n = (sounds n ≡ false) ⊎ (is_at c k n ≡ false)

-- nothing that is heard changes an idle note by itself
settle_idle : (ss : List Channel) (z : Zones) (t : ℕ) (n : Note) → IsIdle n → settle_note ss z t n ≡ n
settle_idle ss z t n (inl silent) = rw silent (elim (cases_Bool (is_over ss z n)) [ inl a ↦ rw a refl | inr a ↦ rw a refl ])
settle_idle ss z t n (inr pressed) = rw pressed refl

cut_apart : (t c k : ℕ) (n : Note) → IsApart c k n → cut_off t c k n ≡ n
cut_apart t c k n (inl silent) = rw silent (elim (cases_Bool (is_at c k n)) [ inl a ↦ rw a refl | inr a ↦ rw a refl ])
cut_apart t c k n (inr away) = rw away refl

release_apart : (t c k v : ℕ) (n : Note) → IsApart c k n → release_key t c k v n ≡ n
release_apart t c k v n (inl silent) = rw silent (elim (cases_Bool (is_at c k n)) [ inl a ↦ rw a refl | inr a ↦ rw a refl ])
release_apart t c k v n (inr away) = rw away refl

pub each_from : (P Q : Note → Type 0) → ((n : Note) → P n → Q n) → (ns : List Note) → AllByRecursion P ns → AllByRecursion Q ns
each_from P Q to [] h = tt
each_from P Q to (n ∷ ns) h = (to n h.0, each_from P Q to ns h.1)

-- what has ended is idle, and apart from every key
abbrev pub IsSilent : Note → Type 0
IsSilent n = sounds n ≡ false

pub idle_of : (ns : List Note) → AllByRecursion IsSilent ns → AllByRecursion IsIdle ns
idle_of = each_from IsSilent IsIdle (λ n h. inl h)

pub apart_of : (c k : ℕ) (ns : List Note) → AllByRecursion IsSilent ns → AllByRecursion (IsApart c k) ns
apart_of c k = each_from IsSilent (IsApart c k) (λ n h. inl h)

map_still : (f : Note → Note) (ns : List Note) → AllByRecursion (λ n. f n ≡ n) ns → map f ns ≡ ns
map_still f [] h = refl
map_still f (n ∷ ns) h = let first = h.0 in let others = map_still f ns h.1 in cc

-- one note of many is changed
map_but : (f : Note → Note) (xs : List Note) (a : Note) (ys : List Note) → AllByRecursion (λ n. f n ≡ n) xs → AllByRecursion (λ n. f n ≡ n) ys
    → map f (xs ++ a ∷ ys) ≡ xs ++ f a ∷ ys
map_but f [] a ys h g = ap (λ (ns : List Note). f a ∷ ns) (map_still f ys g)
map_but f (x ∷ xs) a ys h g = let first = h.0 in let others = map_but f xs a ys h.1 g in cc

settle_all : (ss : List Channel) (t : ℕ) (ns : List Note) → AllByRecursion IsIdle ns → map (settle_note ss no_zones t) ns ≡ ns
settle_all ss t ns idle = map_still (settle_note ss no_zones t) ns (each_from IsIdle _ (settle_idle ss no_zones t) ns idle)

-- ---- messages

pub program_heard : (ss : List Channel) (ns : List Note) (t c p : ℕ) → AllByRecursion IsIdle ns
    → let s = get_or ss c default_channel in
    step (music ss ns) (heard_at t (Program c p))
    ≡ music (set ss c (record s { voice = record { high = control_of s 0; low = control_of s 32; program = p } })) ns
program_heard ss ns t c p idle = same_music _ _ _ _ refl (settle_all _ t ns idle)

pub volume_heard : (ss : List Channel) (ns : List Note) (t c v : ℕ) → AllByRecursion IsIdle ns
    → let s = get_or ss c default_channel in
    step (music ss ns) (heard_at t (Control c 7 v)) ≡ music (set ss c (record s { controls = set s.controls 7 v })) ns
volume_heard ss ns t c v idle = same_music _ _ _ _ refl (settle_all _ t ns idle)

pub on_heard : (ss : List Channel) (ns : List Note) (t c k : ℕ) → AllByRecursion IsIdle ns → AllByRecursion (IsApart c k) ns
    → step (music ss ns) (heard_at t (NoteOn c k 64)) ≡ music ss (ns ++ begun (music ss ns) t c k 64 ∷ [])
on_heard ss ns t c k idle apart =
    let new = begun (music ss ns) t c k 64 in
    let ss2 = set ss c (get_or ss c default_channel) in
    let uncut = map_still (cut_off t c k) ns (each_from (IsApart c k) _ (cut_apart t c k) ns apart) in
    same_music _ _ _ _ (set-get_or ss c default_channel)
    (ap (λ (xs : List Note). map (settle_note ss2 no_zones t) (xs ++ new ∷ [])) uncut
    ∙ settle_all ss2 t (ns ++ new ∷ []) (all_both IsIdle ns (new ∷ []) idle (inr refl, tt)))

-- a note whose key is down, and the same once it has ended
abbrev pub down : ℕ → ℕ → ℕ → ℕ → Note
down c k o p = record {
  channel = c;
  key = k;
  onset = o;
  velocity = 64;
  voice = record { high = 0; low = 0; program = p };
  release = None;
  captured = false;
  pressure = 0;
  ended = None;
}

abbrev pub gone : ℕ → ℕ → ℕ → ℕ → ℕ → Note
gone c k o p t = record (down c k o p) { release = Some (t, 64); ended = Some t }

released : (c k o p t : ℕ) → release_key t c k 64 (down c k o p) ≡ record (down c k o p) { release = Some (t, 64) }
released c k o p t = rw (eq-eqb c c refl, eq-eqb k k refl) refl

settled : (ss : List Channel) (c k o p t : ℕ) → ArePlain ss
    → settle_note ss no_zones t (record (down c k o p) { release = Some (t, 64) }) ≡ gone c k o p t
settled ss c k o p t plain = rw (governs_itself c, (plain.each c).hold) refl

pub off_heard : (ss : List Channel) (before after : List Note) (t c k o p : ℕ) → ArePlain ss
    → AllByRecursion IsIdle before → AllByRecursion IsIdle after
    → AllByRecursion (IsApart c k) before → AllByRecursion (IsApart c k) after
    → step (music ss (before ++ down c k o p ∷ after)) (heard_at t (NoteOff c k 64)) ≡ music ss ((before ++ gone c k o p t ∷ []) ++ after)
off_heard ss before after t c k o p plain idle idle2 apart apart2 =
    let ss2 = set ss c (get_or ss c default_channel) in
    let plain2 : ArePlain ss2 = subst ArePlain (sym (set-get_or ss c default_channel)) plain in
    let settle : Note → Note = settle_note ss2 no_zones t in
    let release : Note → Note = release_key t c k 64 in
    let a = down c k o p in
    let kept : (ns : List Note) → AllByRecursion (IsApart c k) ns → AllByRecursion (λ n. release n ≡ n) ns =
    each_from (IsApart c k) (λ n. release n ≡ n) (release_apart t c k 64) in
    let rests : (ns : List Note) → AllByRecursion IsIdle ns → AllByRecursion (λ n. settle n ≡ n) ns =
    each_from IsIdle (λ n. settle n ≡ n) (settle_idle ss2 no_zones t) in
    same_music _ _ _ _ (set-get_or ss c default_channel)
    (ap (λ (xs : List Note). map settle xs) (map_but release before a after (kept before apart) (kept after apart2))
    ∙ map_but settle before (release a) after (rests before idle) (rests after idle2)
    ∙ ap (λ (x : Note). before ++ settle x ∷ after) (released c k o p t)
    ∙ ap (λ (x : Note). before ++ x ∷ after) (settled ss2 c k o p t plain2)
    ∙ sym (append_assoc before (gone c k o p t ∷ []) after))
