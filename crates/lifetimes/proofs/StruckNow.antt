-- A note on by what was struck on the keys that sound: whether one of them has its target, and whether its own has another.
use Rattle.std.proofs.Common.{◌≡◌, ◌<◌, ◌≤◌, ◌∙◌, ℕ, zero, suc, List, [], ◌∷◌, ◌++◌, Bool, true, false, cond, ◌&&◌, ◌||◌, not, nat_eq, Option, Some, None, is_some, length, refl, sym, ap, subst, arith, inl, inr}
use Rattle.std.specs.List.{AllByRecursion}
use Rattle.std.specs.Option.{option_map}
use Rattle.std.proofs.lemmas.Bool.{ne_eqb}
use Rattle.std.proofs.lemmas.Bool.Decides.{eqb_tells}
use Rattle.mt_base.specs.declared.event.Msg.{Msg}
use Rattle.mt_base.specs.declared.event.Msg.TheVariants.{NoteOn, NoteOff, KeyPressure, Control, Program, Pressure, Bend}
use Rattle.mt_base.specs.Midi.{MidiWhat, Says, SysexOf, MetaOf, MidiEvent}
use Rattle.mt_base.specs.Valid.{IsValidEvent, IsValidWhat}
use Rattle.midi_model.specs.Notes.{Note, sounds}
use Rattle.midi_model.specs.MusicLaws.{NotesFade}
use Rattle.midi_model.specs.ReceiverLaws.{OneNoteSoundsOnAKey}
use Rattle.midi_model.specs.Receiver.{after}
use Rattle.retune_model.specs.Table.{Bounds, BendTarget, bend_target}
use Rattle.retune_model.specs.Options.{Options, bends_notes}
use Rattle.retune_model.specs.PlaysTheSame.{bend_target_if}
use Rattle.retune_model.specs.Ports.{events_on, of_port, music_at}
use Rattle.retune_model.specs.PortLaws.{MusicAtAPosition}
use Rattle.retune_model.specs.Drums.{DrumsStandApart}
use Rattle.retune_model.specs.Faults.{Targets, is_part, any_note, target_of, is_same_target, is_restrike, Restrike}
use Rattle.key_pitch.specs.Aims.{bend_aim, on_bend}
use Rattle.receiver.specs.Sounding.{sounding_at}
use Rattle.lifetimes.specs.Told.{music_on, aim_in, strike_of}
use Rattle.lifetimes.specs.Lists.{any_key, struck_at}
use Rattle.lifetimes.specs.Port.{struck_in}
use Rattle.lifetimes.specs.Stands.{PortStands, heard_on}
use Rattle.lifetimes.specs.Due.{is_same_aim, IsNext, IsStrike, plainly, late_due}
use Rattle.key_pitch.specs.declared.aim.Aim.{Aim}
use Rattle.lifetimes.specs.declared.port.Strike.{Strike}
use Rattle.lifetimes.specs.declared.port.Port.{Port}
use Rattle.lifetimes.proofs.KeysAndNotes.{keys_and_notes, any_key_same}
use Rattle.lifetimes.proofs.NotesKept.{keys_low}
use Rattle.lifetimes.proofs.HeardParts.{heard_notes}
use Rattle.lifetimes.proofs.Prefix.{music_more}
use Rattle.lifetimes.proofs.Appended.{music_there}
use Rattle.lifetimes.proofs.StruckSteps.{is_on}

pub all_front : {A : Type 0} (P : A → Type 0) (xs ys : List A) → AllByRecursion P (xs ++ ys) → AllByRecursion P xs
all_front P [] ys h = tt
all_front P (x ∷ xs) ys h = (h.0, all_front P xs ys h.1)

same_on_bend : (s t : Option BendTarget) → is_same_target s t ≡ is_same_aim (on_bend s) (on_bend t)
same_on_bend None t = refl
same_on_bend (Some s) None = refl
same_on_bend (Some s) (Some t) = refl

same_none : (s : Option BendTarget) (range : ℕ) → is_same_target s None ≡ is_same_aim (on_bend s) (bend_aim range None)
same_none None range = refl
same_none (Some s) range = refl

same_aim : (range : ℕ) (a b : Option Bounds)
    → is_same_target (bend_target_if range a) (bend_target_if range b) ≡ is_same_aim (bend_aim range a) (bend_aim range b)
same_aim range None b = refl
same_aim range (Some a) None = same_none (bend_target range a) range
same_aim range (Some a) (Some b) = same_on_bend (bend_target range a) (bend_target range b)

bent_aim : (o : Options) (table : Targets) (k t : ℕ) → bends_notes o.route ≡ true → aim_in o table k t ≡ bend_aim o.range (table k t)
bent_aim o table k t bends = rw bends refl

-- of one key alone
one_key : (f : ℕ → Bool) (k n : ℕ) → k < n → any_key (λ j. nat_eq j k && f j) n ≡ f k
one_key f k zero low = absurd (omega arith)
one_key f k (suc n) low = elim (eqb_tells n k) [
  | inl t ↦ ap (λ b. (b && f n) || any_key (λ j. nat_eq j k && f j) n) t.0
      ∙ (ap (λ b. f n || b) (others f k n (let same = t.1 in omega (arith, same))) ∙ (or_none (f n) ∙ ap f t.1))
  | inr t ↦ ap (λ b. (b && f n) || any_key (λ j. nat_eq j k && f j) n) t.0 ∙ one_key f k n (let other = t.1 in omega (arith, other))
]
  where
    or_none : (b : Bool) → (b || false) ≡ b
    or_none true = refl
    or_none false = refl

    others : (g : ℕ → Bool) (j m : ℕ) → m ≤ j → any_key (λ i. nat_eq i j && g i) m ≡ false
    others g j zero l = refl
    others g j (suc m) l = ap (λ b. (b && g m) || any_key (λ i. nat_eq i j && g i) m) (ne_eqb m j (λ same. omega (arith, l, same)))
        ∙ others g j m (omega (arith, l))

swap : (a b c : Bool) → (a && (b && c)) ≡ (b && (a && c))
swap true b c = refl
swap false true c = refl
swap false false c = refl

-- what was struck on a key that sounds, and the target of its note
pub same_struck : (o : Options) (table : Targets) (es : List MidiEvent) (port : Port) (c k t j : ℕ) (x : ℕ × Note) → bends_notes o.route ≡ true
    → is_part o c ≡ true → PortStands o table es port
    → c < 16 → j < 128 → sounding_at (music_on port.number es).notes c j ≡ Some x
    → is_same_target (target_of o table x.1) (bend_target_if o.range (table k t))
    ≡ is_same_aim (struck_at (struck_in port c) j).target (aim_in o table k t)
same_struck o table es port c k t j x bends part stands cl jl on =
    same_aim o.range (table x.1.key x.1.onset) (table k t)
    ∙ (ap (λ a. is_same_aim a (bend_aim o.range (table k t)))
    (sym (bent_aim o table x.1.key x.1.onset bends)
    ∙ (ap (λ i. aim_in o table i x.1.onset) (is_on c j 1 (music_on port.number es).notes x on).key
    ∙ sym (ap (λ s. s.target) (stands.struck c j x cl jl part on))))
    ∙ ap (is_same_aim (struck_at (struck_in port c) j).target) (sym (bent_aim o table k t bends)))

pub restrike_is : NotesFade → OneNoteSoundsOnAKey → (o : Options) (table : Targets) (es : List MidiEvent) (port : Port) (c k v t : ℕ)
    → AllByRecursion IsValidEvent es → bends_notes o.route ≡ true → is_part o c ≡ true → PortStands o table es port → c < 16 → k < 128
    → is_restrike o table (music_on port.number es) t (NoteOn c k (suc v))
    ≡ (is_some (sounding_at (music_on port.number es).notes c k) && not (is_same_aim (struck_at (struck_in port c) k).target (aim_in o table k t)))
restrike_is fade one o table es port c k v t valid bends part stands cl kl =
    let ns = (music_on port.number es).notes in
    let other : ℕ → Bool = λ j. not (is_same_aim (struck_at (struck_in port c) j).target (aim_in o table k t)) in
    ap (λ b. b && (is_part o c && any_note test ns)) bends ∙ (ap (λ b. b && any_note test ns) part
    ∙ (keys_and_notes c (λ n. nat_eq n.key k && not (is_same_target (target_of o table n) (bend_target_if o.range (table k t))))
    (λ j. nat_eq j k && other j) ns
    (one (events_on port.number es) c) (keys_low fade port.number es valid) agree
    ∙ (any_key_same (λ j. is_some (sounding_at ns c j) && (nat_eq j k && other j))
    (λ j. nat_eq j k && (is_some (sounding_at ns c j) && other j)) 128 (λ j low. swap (is_some (sounding_at ns c j)) (nat_eq j k) (other j))
    ∙ one_key (λ j. is_some (sounding_at ns c j) && other j) k 128 kl)))
  where
    test : Note → Bool
    test n = (sounds n && nat_eq n.channel c) && (nat_eq n.key k && not (is_same_target (target_of o table n) (bend_target_if o.range (table k t))))

    agree : (j : ℕ) (x : ℕ × Note) → j < 128 → sounding_at (music_on port.number es).notes c j ≡ Some x
        → (nat_eq x.1.key k && not (is_same_target (target_of o table x.1) (bend_target_if o.range (table k t))))
        ≡ (nat_eq j k && not (is_same_aim (struck_at (struck_in port c) j).target (aim_in o table k t)))
    agree j x jl on =
        ap (λ i. nat_eq i k && not (is_same_target (target_of o table x.1) (bend_target_if o.range (table k t))))
        (is_on c j 1 (music_on port.number es).notes x on).key
        ∙ ap (λ b. nat_eq j k && not b) (same_struck o table es port c k t j x bends part stands cl jl on)

-- ---- by what the receiver hears

pub some_mapped : {A B : Type 0} (f : A → B) (x : Option A) → is_some (option_map f x) ≡ is_some x
some_mapped f None = refl
some_mapped f (Some a) = refl

pub heard_sounds : DrumsStandApart → (o : Options) (z : ℕ) (es : List MidiEvent) (c k : ℕ) → is_part o c ≡ true
    → is_some (sounding_at (after (heard_on o z es)).music.notes c k) ≡ is_some (sounding_at (music_on z es).notes c k)
heard_sounds apart o z es c k part =
    sym (some_mapped (λ (x : ℕ × Note). x.1) (sounding_at (after (heard_on o z es)).music.notes c k))
    ∙ (ap is_some (heard_notes apart o z es c k part) ∙ some_mapped (λ (x : ℕ × Note). x.1) (sounding_at (music_on z es).notes c k))

pub is_told : {B : Type 0} (f : ℕ × Note → B) (x : Option (ℕ × Note)) (told : Option B) (b : Bool) → told ≡ option_map f x → is_some told ≡ b
    → b ≡ is_some x
is_told f x told b is there = sym there ∙ (ap is_some is ∙ some_mapped f x)

-- ---- the note on at hand

pub last_one : {A : Type 0} (P : A → Type 0) (xs : List A) (x : A) → AllByRecursion P (xs ++ x ∷ []) → P x
last_one P [] x h = h.0
last_one P (y ∷ ys) x h = last_one P ys x h.1

pub strike_low : (o : Options) (table : Targets) (es : List MidiEvent) (e : MidiEvent) (z v : ℕ) (port : Port) (s : Strike)
    → IsNext o table es e z port → IsStrike o table e v s
    → (s.channel < 16) × (s.key < 128)
strike_low o table es e z v port s next strike =
    let valid : IsValidWhat (Says (NoteOn s.channel s.key (suc v))) = subst IsValidWhat strike.what (last_one IsValidEvent es e next.valid).what in
    let low : s.channel ≤ 15 = valid.0 in
    let key : s.key ≤ 127 = valid.1 in
    (omega (arith, low), omega (arith, key))

pub restrike_told : NotesFade → OneNoteSoundsOnAKey → DrumsStandApart
    → (o : Options) (table : Targets) (es : List MidiEvent) (e : MidiEvent) (z v : ℕ) (port : Port) (s : Strike)
    → IsNext o table es e z port → IsStrike o table e v s → bends_notes o.route ≡ true → (there : Bool) (target : Aim)
    → there ≡ is_some (sounding_at (after (heard_on o z es)).music.notes s.channel s.key)
    → target ≡ (struck_at (struck_in port s.channel) s.key).target
    → (there && not (is_same_aim target s.target)) ≡ is_restrike o table (music_on z es) e.tick (NoteOn s.channel s.key (suc v))
restrike_told fade one apart o table es e z v port s next strike bends there target sounds struck =
    let low = strike_low o table es e z v port s next strike in
    ap (λ b. b && not (is_same_aim target s.target)) (sounds ∙ heard_sounds apart o z es s.channel s.key strike.part)
    ∙ (ap (λ a. is_some (sounding_at (music_on z es).notes s.channel s.key) && not (is_same_aim a s.target)) struck
    ∙ (ap (λ a. is_some (sounding_at (music_on z es).notes s.channel s.key) && not
    (is_same_aim (struck_at (struck_in port s.channel) s.key).target a)) strike.target
    ∙ sym (restrike_is fade one o table es (record port { number = z }) s.channel s.key v e.tick
    (all_front IsValidEvent es (e ∷ []) next.valid) bends strike.part next.stands low.0 low.1)))

-- a strike is a note on
pub struck_of : (o : Options) (table : Targets) (e : MidiEvent) (w : MidiWhat) (s : Strike) → e.what ≡ w → Some s ≡ strike_of o table e.tick w
    → (v : ℕ) × IsStrike o table e v s
struck_of o table e (Says (NoteOn c k zero)) s is h = absurd cc
struck_of o table e (Says (NoteOn c k (suc v))) s is h = pick (is_part o c) refl h
  where
    pick : (b : Bool) → is_part o c ≡ b → Some s ≡ cond b (Some (record { channel = c; key = k; target = aim_in o table k e.tick })) None
        → (v : ℕ) × IsStrike o table e v s
    pick false part g = absurd cc
    pick true part g =
        let same : s ≡ record { channel = c; key = k; target = aim_in o table k e.tick } = cc in
        let made : IsStrike o table e v (record { channel = c; key = k; target = aim_in o table k e.tick }) =
        record { what = is; part = part; target = refl } in
        (v, subst (IsStrike o table e v) (sym same) made)
struck_of o table e (Says (NoteOff c k v)) s is h = absurd cc
struck_of o table e (Says (KeyPressure c k v)) s is h = absurd cc
struck_of o table e (Says (Control c n v)) s is h = absurd cc
struck_of o table e (Says (Program c p)) s is h = absurd cc
struck_of o table e (Says (Pressure c v)) s is h = absurd cc
struck_of o table e (Says (Bend c v)) s is h = absurd cc
struck_of o table e (SysexOf lead bytes) s is h = absurd cc
struck_of o table e (MetaOf kind bytes) s is h = absurd cc

-- the music before the event
pub music_before : MusicAtAPosition → (z : ℕ) (es : List MidiEvent) (e : MidiEvent) → music_at (of_port z (es ++ e ∷ [])) (length es) ≡ music_on z es
music_before law z es e = music_more z (length es) es e (omega arith) ∙ music_there law z es

pub late_struck : MusicAtAPosition → (o : Options) (table : Targets) (es : List MidiEvent) (e : MidiEvent) (z v c k : ℕ) (msg : Msg)
    (restrikes : Bool) → msg ≡ NoteOn c k (suc v)
    → restrikes ≡ is_restrike o table (music_on z es) e.tick (NoteOn c k (suc v))
    → plainly (cond restrikes (Some Restrike) None) ≡ late_due o table es e z msg
late_struck law o table es e z v c k msg restrikes is told =
    ap (λ b. plainly (cond b (Some Restrike) None)) told
    ∙ (ap (λ m. plainly (cond (is_restrike o table m e.tick (NoteOn c k (suc v))) (Some Restrike) None)) (sym (music_before law z es e))
    ∙ ap (late_due o table es e z) (sym is))

pub late_strike : MusicAtAPosition → (o : Options) (table : Targets) (es : List MidiEvent) (e : MidiEvent) (z : ℕ) (msg : Msg) (s : Strike)
    (restrikes b : Bool)
    → e.what ≡ Says msg → Some s ≡ strike_of o table e.tick e.what
    → ((v : ℕ) → IsStrike o table e v s → restrikes ≡ is_restrike o table (music_on z es) e.tick (NoteOn s.channel s.key (suc v))) → restrikes ≡ b
    → plainly (cond b (Some Restrike) None) ≡ late_due o table es e z msg
late_strike law o table es e z msg s restrikes b what struck told is =
    let x = struck_of o table e e.what s refl struck in
    let same : Says msg ≡ Says (NoteOn s.channel s.key (suc x.0)) = sym what ∙ x.1.what in
    late_struck law o table es e z x.0 s.channel s.key msg b (let at : msg ≡ NoteOn s.channel s.key (suc x.0) = cc in at) (sym is ∙ told x.0 x.1)
