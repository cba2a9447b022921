-- What is told of a note that sounds on a key, by what the port keeps.
use Rattle.std.proofs.Common.{◌≡◌, ◌<◌, ◌∙◌, ℕ, List, Bool, true, false, cond, not, Option, Some, None, is_some, refl, sym, ap}
use Rattle.std.specs.Option.{option_map}
use Rattle.mt_base.specs.declared.pair.Part.{Part}
use Rattle.mt_base.specs.Midi.{MidiEvent}
use Rattle.midi_model.specs.Notes.{Note}
use Rattle.midi_model.specs.MusicLaws.{NotesFade}
use Rattle.midi_model.specs.Receiver.{after}
use Rattle.retune_model.specs.Drums.{DrumsStandApart}
use Rattle.retune_model.specs.Options.{Options}
use Rattle.retune_model.specs.Faults.{Targets, is_part}
use Rattle.receiver.specs.Heard.{told}
use Rattle.receiver.specs.Notes.{Told}
use Rattle.receiver.specs.Sounding.{sounding_at}
use Rattle.lifetimes.specs.Told.{music_on, begun_as, told_of, sounding_on, number_of, aim_in}
use Rattle.lifetimes.specs.Lists.{struck_at, entry_at, entry_of}
use Rattle.lifetimes.specs.Port.{struck_in}
use Rattle.lifetimes.specs.Stands.{PortStands, heard_on}
use Rattle.lifetimes.specs.declared.change.Begun.{Begun}
use Rattle.lifetimes.specs.declared.notes.Struck.{Struck}
use Rattle.lifetimes.specs.declared.port.Port.{Port}
use Rattle.lifetimes.proofs.HeardParts.{heard_notes, unheard}
use Rattle.lifetimes.proofs.StruckSteps.{is_on, aim_steps}

-- what the port tells of what was struck on a key
abbrev pub told_by : Port → ℕ → ℕ → Begun
told_by port c k = record {
  note = (struck_at (struck_in port c) k).note;
  pair = record { part = record { port = port.number; channel = c }; steps = (entry_at (struck_in port c) k).steps };
  key = k;
  target = (struck_at (struck_in port c) k).target;
}

abbrev part_in : Port → ℕ → Part
part_in port c = record { port = port.number; channel = c }

-- of a note that sounds
told_so : (o : Options) (table : Targets) (es : List MidiEvent) (port : Port) (c k : ℕ) (x : ℕ × Note) → PortStands o table es port → c < 16
    → k < 128 → is_part o c ≡ true
    → sounding_at (music_on port.number es).notes c k ≡ Some x
    → begun_as o table (part_in port c) (number_of o (part_in port c) k es) x.1 ≡ told_by port c k
told_so o table es port c k x stands cl kl is e =
    let on = is_on c k 1 (music_on port.number es).notes x e in
    let p = part_in port c in
    let f : ℕ → Begun = λ key. record { note = number_of o p k es; pair = record { part = p; steps = (entry_of key (aim_in o table key x.1.onset)).steps }; key = key; target = aim_in o table key x.1.onset } in
    let g : Struck → Begun = λ s. record { note = s.note; pair = record { part = p; steps = (entry_of k s.target).steps }; key = k; target = s.target } in
    let steps : begun_as o table p (number_of o p k es) x.1 ≡ f x.1.key =
    ap (λ q. let b : Begun = record { note = number_of o p k es; pair = record { part = p; steps = q }; key = x.1.key; target = aim_in o table x.1.key x.1.onset } in b) (sym (aim_steps o table x.1)) in
    steps ∙ (ap f on.key ∙ sym (ap g (stands.struck c k x cl kl is e)))

pub begun_told : NotesFade → DrumsStandApart → (o : Options) (table : Targets) (es : List MidiEvent) (port : Port) (c k : ℕ) (n : Told)
    → PortStands o table es port → c < 16 → k < 128
    → option_map told (sounding_at (after (heard_on o port.number es)).music.notes c k) ≡ Some n
    → Some (told_by port c k, not (is_some n.released)) ≡ sounding_on o table es (part_in port c) k
begun_told fade apart o table es port c k n stands cl kl h = by_part (is_part o c) refl
  where
    there : (y : ℕ × Note) (a : Option (ℕ × Note)) → is_part o c ≡ true → sounding_at (music_on port.number es).notes c k ≡ a
        → Some y.1 ≡ option_map (λ x. x.1) a → told y ≡ n
        → Some (told_by port c k, not (is_some n.released)) ≡ told_of o table es (part_in port c) k a
    there y (Some x) is e same t =
        (let released : not (is_some n.released) ≡ not (is_some x.1.release) = (let one : y.1 ≡ x.1 = cc in ap (λ m. not (is_some m.released)) (sym t) ∙ ap (λ m. not (is_some m.release)) one) in
        ap (λ b. Some (b, not (is_some n.released))) (sym (told_so o table es port c k x stands cl kl is e))
        ∙ ap (λ b. Some (begun_as o table (part_in port c) (number_of o (part_in port c) k es) x.1, b)) released)
    there y None is e same t = absurd cc

    heard : (a : Option (ℕ × Note)) → is_part o c ≡ true → sounding_at (after (heard_on o port.number es)).music.notes c k ≡ a
        → option_map told a ≡ Some n
        → Some (told_by port c k, not (is_some n.released)) ≡ told_of o table es (part_in port c) k (sounding_at (music_on port.number es).notes c k)
    heard (Some y) is e t = there y (sounding_at (music_on port.number es).notes c k) is refl (ap (option_map (λ x. x.1)) (sym e) ∙ heard_notes apart o port.number es c k is) (let one : told y ≡ n = cc in one)
    heard None is e t = absurd cc

    by_part : (b : Bool) → is_part o c ≡ b
        → Some (told_by port c k, not (is_some n.released)) ≡ cond b (told_of o table es (part_in port c) k (sounding_at (music_on port.number es).notes c k)) None
    by_part true is = heard (sounding_at (after (heard_on o port.number es)).music.notes c k) is refl h
    by_part false is = absurd (let none : option_map told (sounding_at (after (heard_on o port.number es)).music.notes c k) ≡ None = ap (option_map told) (unheard fade o port.number es c k is) in cc)

pub none_told : DrumsStandApart → (o : Options) (table : Targets) (es : List MidiEvent) (port : Port) (c k : ℕ)
    → option_map told (sounding_at (after (heard_on o port.number es)).music.notes c k) ≡ None → None ≡ sounding_on o table es (part_in port c) k
none_told apart o table es port c k h = by_part (is_part o c) refl
  where
    there : (a : Option (ℕ × Note)) → None ≡ option_map (λ x. x.1) a → None ≡ told_of o table es (part_in port c) k a
    there None e = refl
    there (Some x) e = absurd cc

    heard : (a : Option (ℕ × Note)) → is_part o c ≡ true → sounding_at (after (heard_on o port.number es)).music.notes c k ≡ a
        → option_map told a ≡ None
        → None ≡ told_of o table es (part_in port c) k (sounding_at (music_on port.number es).notes c k)
    heard None is e t = there (sounding_at (music_on port.number es).notes c k) (ap (option_map (λ x. x.1)) (sym e) ∙ heard_notes apart o port.number es c k is)
    heard (Some y) is e t = absurd cc

    by_part : (b : Bool) → is_part o c ≡ b
        → None ≡ cond b (told_of o table es (part_in port c) k (sounding_at (music_on port.number es).notes c k)) None
    by_part true is = heard (sounding_at (after (heard_on o port.number es)).music.notes c k) is refl h
    by_part false is = refl
