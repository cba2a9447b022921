-- Whether a note of a pair sounds, by what the port keeps of its keys.
use Rattle.std.proofs.Common.{◌≡◌, ◌<◌, ◌∙◌, ℕ, ℤ, List, Bool, true, false, ◌&&◌, nat_eq, Some, is_some, refl, sym, ap}
use Rattle.std.specs.List.{AllByRecursion}
use Rattle.mt_base.specs.Midi.{MidiEvent}
use Rattle.mt_base.specs.Valid.{IsValidEvent}
use Rattle.midi_model.specs.Notes.{Note, sounds}
use Rattle.midi_model.specs.MusicLaws.{NotesFade}
use Rattle.midi_model.specs.ReceiverLaws.{OneNoteSoundsOnAKey}
use Rattle.retune_model.specs.Options.{Options}
use Rattle.retune_model.specs.Ports.{events_on}
use Rattle.retune_model.specs.Faults.{Targets, is_part, int_eq}
use Rattle.receiver.specs.Sounding.{sounding_at}
use Rattle.lifetimes.specs.Told.{music_on, steps_in, pair_sounds, aim_in, is_of_pair}
use Rattle.lifetimes.specs.Lists.{any_key, entry_at, entry_of}
use Rattle.lifetimes.specs.Port.{struck_in}
use Rattle.lifetimes.specs.Stands.{PortStands, sounds_on, pair_on}
use Rattle.lifetimes.specs.declared.port.Port.{Port}
use Rattle.lifetimes.proofs.KeysAndNotes.{keys_and_notes, any_note_same, any_key_same}
use Rattle.lifetimes.proofs.NotesKept.{keys_low}
use Rattle.lifetimes.proofs.StruckSteps.{is_on, aim_steps}

turned : (a b c d : Bool) → ((a && b) && (c && d)) ≡ ((b && c) && (a && d))
turned true true true d = refl
turned true true false d = refl
turned true false c d = refl
turned false true true d = refl
turned false true false d = refl
turned false false c d = refl

moved : (a b c : Bool) → ((a && b) && c) ≡ (b && (a && c))
moved true true c = refl
moved true false c = refl
moved false true c = refl
moved false false c = refl

-- the steps of the note that sounds on a key are those that are kept of the key
pub steps_kept : (o : Options) (table : Targets) (es : List MidiEvent) (port : Port) (c k : ℕ) (x : ℕ × Note) → PortStands o table es port → c < 16
    → k < 128 → is_part o c ≡ true
    → sounding_at (music_on port.number es).notes c k ≡ Some x → steps_in o table x.1 ≡ (entry_at (struck_in port c) k).steps
steps_kept o table es port c k x stands cl kl is e =
    sym (aim_steps o table x.1)
    ∙ (ap (λ key. (entry_of key (aim_in o table key x.1.onset)).steps) (is_on c k 1 (music_on port.number es).notes x e).key
    ∙ sym (ap (λ s. (entry_of k s.target).steps) (stands.struck c k x cl kl is e)))

-- a retuned note whose steps are such
agree : (o : Options) (table : Targets) (es : List MidiEvent) (port : Port) (c : ℕ) (q : ℤ) → PortStands o table es port → c < 16
    → (k : ℕ) (x : ℕ × Note) → k < 128
    → sounding_at (music_on port.number es).notes c k ≡ Some x
    → (is_part o x.1.channel && int_eq (steps_in o table x.1) q) ≡ (is_part o c && int_eq (entry_at (struck_in port c) k).steps q)
agree o table es port c q stands cl k x kl e =
    ap (λ d. is_part o d && int_eq (steps_in o table x.1) q) (is_on c k 1 (music_on port.number es).notes x e).channel
    ∙ pick (is_part o c) (λ is. steps_kept o table es port c k x stands cl kl is e)
  where
    pick : (b : Bool) → (b ≡ true → steps_in o table x.1 ≡ (entry_at (struck_in port c) k).steps)
        → (b && int_eq (steps_in o table x.1) q) ≡ (b && int_eq (entry_at (struck_in port c) k).steps q)
    pick true same = ap (λ s. int_eq s q) (same refl)
    pick false same = refl

pub sounds_by_keys : NotesFade → OneNoteSoundsOnAKey → (o : Options) (table : Targets) (es : List MidiEvent) (port : Port) (c : ℕ) (q : ℤ)
    → AllByRecursion IsValidEvent es → PortStands o table es port → c < 16
    → any_key (λ k. sounds_on o port.number es c k && int_eq (entry_at (struck_in port c) k).steps q) 128 ≡ pair_sounds o table es (pair_on port.number c q)
sounds_by_keys fade one o table es port c q valid stands cl =
    let ns = (music_on port.number es).notes in
    let g : ℕ → Bool = λ k. is_part o c && int_eq (entry_at (struck_in port c) k).steps q in
    let f : Note → Bool = λ n. is_part o n.channel && int_eq (steps_in o table n) q in
    let keys = any_key_same (λ k. sounds_on o port.number es c k && int_eq (entry_at (struck_in port c) k).steps q) (λ k. is_some (sounding_at ns c k) && g k) 128
    (λ k low. moved (is_part o c) (is_some (sounding_at ns c k)) (int_eq (entry_at (struck_in port c) k).steps q)) in
    let notes = any_note_same (λ n. (is_part o n.channel && sounds n) && is_of_pair o table (pair_on port.number c q) n) (λ n. (sounds n && nat_eq n.channel c) && f n) ns
    (λ n. turned (is_part o n.channel) (sounds n) (nat_eq n.channel c) (int_eq (steps_in o table n) q)) in
    keys ∙ (sym (keys_and_notes c f g ns (one (events_on port.number es) c) (keys_low fade port.number es valid) (agree o table es port c q stands cl)) ∙ sym notes)
